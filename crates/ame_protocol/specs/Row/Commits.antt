-- The facts that hold after a commit.
use Rattle.std.specs.Prelude.{◌≡◌, ℕ}
use Rattle.ame_term.specs.State.{State}
use Rattle.ame_laws.specs.Orderly.{NumbersRise}
use Rattle.ame_laws.specs.Typed.StoreTyping.{StoreTyping}
use Rattle.ame_protocol.specs.Row.Heap.{Heap, IsCommitted}
use Rattle.ame_protocol.specs.Row.Framed.{IsFramed}
use Rattle.ame_protocol.specs.Row.Scoped.{IsTypedNow}
use Rattle.ame_term.specs.Signature.{Signature}

-- Cells that show the store after the commit show what is committed; the state is typed by what lives; and every
-- other seat's row stands.
pub record StandsAfterCommit (signature : Signature) (types : StoreTyping) (seat : ℕ) (old new : Heap) (t : State) : Type 0 where
  pub committed : IsCommitted new
  pub typed : NumbersRise t.members → IsTypedNow signature types new t
  pub framed : (other : ℕ) → (seat ≡ other → ⊥) → IsFramed other old new
