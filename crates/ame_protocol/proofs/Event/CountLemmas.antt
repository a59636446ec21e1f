-- Turns are counted by their kinds.
use Rattle.std.proofs.Common.{◌≡◌, ℕ, ◌+◌, Bool, true, false, refl, arith}
use Rattle.ame_protocol.specs.declared.counters.Counters.{Counters}
use Rattle.ame_protocol.specs.Event.Counting.{nothing_counted, Counted, one_counted, one_invalid, one_unwound, one_undone, turns_in, CountsTurns}
use Rattle.ame_protocol.specs.Event.Bounds.{refusals}

-- at the start
pub none-counted : CountsTurns 0 nothing_counted
none-counted = record { all = refl; invalid = omega arith }

adds : (kind : Counted) (c : Counters) → turns_in (one_counted kind c) ≡ turns_in c + 1
adds Counted.Begin c = omega arith
adds Counted.Read c = omega arith
adds Counted.Write c = omega arith
adds Counted.Conflict c = omega arith
adds Counted.Alloc c = omega arith
adds Counted.Check c = omega arith
adds Counted.Commit c = omega arith
adds Counted.Block c = omega arith
adds Counted.Tall c = omega arith
adds Counted.Undo c = omega arith
adds Counted.Free c = omega arith

invalids-stay : (kind : Counted) (c : Counters) → (one_counted kind c).invalids ≡ c.invalids
invalids-stay Counted.Begin c = refl
invalids-stay Counted.Read c = refl
invalids-stay Counted.Write c = refl
invalids-stay Counted.Conflict c = refl
invalids-stay Counted.Alloc c = refl
invalids-stay Counted.Check c = refl
invalids-stay Counted.Commit c = refl
invalids-stay Counted.Block c = refl
invalids-stay Counted.Tall c = refl
invalids-stay Counted.Undo c = refl
invalids-stay Counted.Free c = refl

-- one more answer that turned a member back
pub conflict-refused : (c : Counters) → refusals (one_counted Counted.Conflict c) ≡ refusals c + 1
conflict-refused c = omega arith

pub invalid-refused : (kind : Counted) (c : Counters) → (one_counted kind c).conflicts ≡ c.conflicts → refusals (one_invalid kind c) ≡ refusals c + 1
invalid-refused kind c same = let e = invalids-stay kind c in omega (arith, same, e)

-- an undo is none
pub undone-refused : (stopped : Bool) (c : Counters) → refusals (one_undone stopped c) ≡ refusals c
undone-refused true c = refl
undone-refused false c = refl

module _ (turns : ℕ) (c : Counters) (counts : CountsTurns turns c) where
  -- after one more turn
  pub one-counts : (kind : Counted) → CountsTurns (turns + 1) (one_counted kind c)
  one-counts kind = record {
    all = let e = adds kind c in let h = counts.all in omega arith;
    invalid = let e = invalids-stay kind c in let h = counts.invalid in omega arith;
  }

  -- The answer was that a read isn't valid.
  pub invalid-counts : (kind : Counted) → CountsTurns (turns + 1) (one_invalid kind c)
  invalid-counts kind = record {
    all = (one-counts kind).all;
    invalid = let e = invalids-stay kind c in let h = counts.invalid in omega arith;
  }

  -- after an undo that is no turn
  pub unwound-counts : CountsTurns turns (one_unwound c)
  unwound-counts = record { all = counts.all; invalid = counts.invalid }
