use Rattle.std.proofs.Common.{◌≡◌, ◌≤◌, ℕ, Result, Ok, Err, OnOk, OnErr, arith}
use Rattle.ame_pool.proofs.Words.{Register, max}
use Rattle.ame_pool.proofs.KeptLemmas.{inside_short, sizes, kept_roomy}
use Rattle.ame_pool.proofs.registry.Registry.room.Goals as goal

-- the room, whether more was found or not
either_room : {M T E : Type 0} (r : Result T E) (old new : Register M) (places : ℕ) → OnOk r (new ≡ record old { room = max old.room places }) → OnErr r (new ≡ old)
    → (k : ℕ) × (new ≡ record old { room = k }) × (k ≤ max old.room places)
either_room (Ok x) old new places ok err = (max old.room places, ok, omega arith)
either_room (Err e) old new places ok err = (old.room, err, omega arith)

pub room-requires : goal.room-requires
room-requires g c = inside_short c.self.invariant

pub invariant_of-self-2 : goal.invariant_of-self-2
invariant_of-self-2 g c =
    let k = either_room c.room-2.result c.self.inside.members c.room-2.new.self c.args.places c.room-2.ensures.ok c.room-2.ensures.err in
    rw k.1 (kept_roomy c.self.invariant c.room.new.self c.room.ensures.order c.room.ensures.inside c.room.ensures.small k.0
    (omega (arith, k.2, sizes c.self.invariant, c.self.invariant.fits, c.room.ensures.grows, c.in_ok-room.ensures.ok)))
