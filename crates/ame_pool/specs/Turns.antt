-- The turns of one member, and of the pool with it.
use Rattle.std.specs.Prelude.{ℕ, Bool, true, false, not, cond, [], ◌∷◌, ◌++◌, Some, None}
use Rattle.ame_pool.specs.declared.member.Member.{Member}
use Rattle.ame_pool.specs.declared.turn.Transition.{Transition}
use Rattle.ame_pool.specs.Members.{is_ready, find, altered}
use Rattle.ame_pool.specs.Standings.{is_touched}
use Rattle.ame_pool.specs.Waking.{stirred_by, is_woken_by}
use Rattle.ame_pool.specs.Roster.{Roster}
use Rattle.ame_pool.specs.Calls.{begun, at_home, renewed, noted_on, at_rest}

module _ {M : Type 0} where
  -- busy or parked
  abbrev pub is_away : Member M → Bool
  is_away m = not (is_ready m)

  -- the member after a turn
  abbrev pub after_transition : Transition M → Member M → Member M
  after_transition Transition.Begin m = begun m
  after_transition (Transition.Home rolled_back) m = at_home rolled_back m
  after_transition (Transition.Renew machine inside) m = renewed machine inside m
  after_transition (Transition.Watch locs) m = noted_on locs m
  after_transition Transition.Settle m = at_rest m
  after_transition (Transition.Stir l) m = stirred_by l.0 m

  -- the turn makes it ready
  abbrev pub is_readied : Transition M → Member M → Bool
  is_readied Transition.Begin m = false
  is_readied (Transition.Home rolled_back) m = true
  is_readied (Transition.Renew machine inside) m = true
  is_readied (Transition.Watch locs) m = false
  is_readied Transition.Settle m = is_touched m.standing
  is_readied (Transition.Stir l) m = is_woken_by l.0 m

  -- the turn makes the member with the number ready
  abbrev pub is_readied_at : ℕ → Transition M → Roster M → Bool
  is_readied_at number to s = elim (find number s.members) [ None ↦ false | Some m ↦ is_readied to m ]

  -- the member with the number after a turn, and the youngest ready one if that makes it ready
  abbrev pub turned_at : ℕ → Transition M → Roster M → Roster M
  turned_at number to s = record s {
    members = altered number (after_transition to) s.members;
    order = s.order ++ cond (is_readied_at number to s) (number ∷ []) [];
  }
