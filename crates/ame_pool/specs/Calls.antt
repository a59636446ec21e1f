-- The pool that each call leaves.
use Rattle.std.specs.Prelude.{ℕ, ◌-◌, ◌==◌, Bool, false, cond, List, [], ◌∷◌, ◌++◌, map, Option, Some, None, is_some, is_none, option_map, IsSomeAnd, IsTrue, max}
use Rattle.ame_pool.specs.declared.member.Member.{Member}
use Rattle.ame_pool.specs.declared.member.MemberStanding.{MemberStanding}
use Rattle.ame_pool.specs.Members.{find, altered, placed, except}
use Rattle.ame_pool.specs.Standings.{rolled, settled, is_touched}
use Rattle.ame_pool.specs.Waking.{stirred_by, woken_by}
use Rattle.ame_pool.specs.Roster.{Roster}

-- the order without a number
abbrev pub skipping : ℕ → List ℕ → List ℕ
skipping number [] = []
skipping number (n ∷ ns) = cond (n == number) ns (n ∷ skipping number ns)

module _ {M : Type 0} where
  -- ---- one member
  -- a member that comes in
  abbrev pub newcomer : ℕ → M → Bool → Member M
  newcomer n m i = record { number = n; machine = m; inside = i; rollbacks = 0; standing = MemberStanding.Ready }

  -- run by a seat
  abbrev pub begun : Member M → Member M
  begun m = record m { standing = MemberStanding.Busy None }

  -- ready again
  abbrev pub at_home : Bool → Member M → Member M
  at_home rolled_back m = record m { rollbacks = rolled rolled_back m.rollbacks; standing = MemberStanding.Ready }

  -- ready with another machine
  abbrev pub renewed : M → Bool → Member M → Member M
  renewed machine inside m = record { number = m.number; machine = machine; inside = inside; rollbacks = 0; standing = MemberStanding.Ready }

  -- noted as stuck on these locations, untouched since
  abbrev pub noted_on : List ℕ → Member M → Member M
  noted_on locs m = record m { rollbacks = 0; standing = MemberStanding.Busy (Some (record { locs = locs; touched = false })) }

  -- parked, or ready if its watch was touched
  abbrev pub at_rest : Member M → Member M
  at_rest m = record m { standing = settled m.standing }

  -- ---- what a call needs
  -- a member has the number, and it passes the test
  abbrev pub IsAt : (Member M → Bool) → ℕ → Roster M → Type 0
  IsAt test number s = IsSomeAnd (find number s.members) (λ m. IsTrue (test m))

  -- busy without a watch list
  abbrev pub is_running : Member M → Bool
  is_running m = elim m.standing [ MemberStanding.Ready ↦ false | MemberStanding.Busy w ↦ is_none w | MemberStanding.Parked _ ↦ false ]

  -- busy with a watch list
  abbrev pub is_noted : Member M → Bool
  is_noted m = elim m.standing [ MemberStanding.Ready ↦ false | MemberStanding.Busy w ↦ is_some w | MemberStanding.Parked _ ↦ false ]

  -- ---- answers
  abbrev pub machine_of : ℕ → Roster M → Option M
  machine_of number s = option_map (λ m. m.machine) (find number s.members)

  abbrev pub inside_of : ℕ → Roster M → Option Bool
  inside_of number s = option_map (λ m. m.inside) (find number s.members)

  -- the watch of the member with the number was touched
  abbrev pub is_touched_at : ℕ → Roster M → Bool
  is_touched_at number s = elim (find number s.members) [ None ↦ false | Some m ↦ is_touched m.standing ]

  -- ---- the calls
  abbrev pub with_room : ℕ → Roster M → Roster M
  with_room n s = record s { room = max s.room n }

  -- one member more, the youngest ready one
  abbrev pub joined : Member M → Roster M → Roster M
  joined m s = record { members = placed m s.members; order = s.order ++ m.number ∷ []; room = s.room - 1 }

  -- a ready member is busy
  abbrev pub held : ℕ → Roster M → Roster M
  held number s = record s { members = altered number begun s.members; order = skipping number s.order }

  -- a member goes home, the youngest ready one
  abbrev pub home : ℕ → Bool → Roster M → Roster M
  home number rolled_back s = record s { members = altered number (at_home rolled_back) s.members; order = s.order ++ number ∷ [] }

  -- a member goes home as another one
  abbrev pub exchanged : ℕ → M → Bool → Roster M → Roster M
  exchanged number machine inside s = record s { members = altered number (renewed machine inside) s.members; order = s.order ++ number ∷ [] }

  abbrev pub removed : ℕ → Roster M → Roster M
  removed number s = record s { members = except number s.members }

  -- a busy member is noted as stuck
  abbrev pub noted : ℕ → List ℕ → Roster M → Roster M
  noted number locs s = record s { members = altered number (noted_on locs) s.members }

  -- a noted member is parked, or the youngest ready one if its watch was touched
  abbrev pub parked : ℕ → Roster M → Roster M
  parked number s = record s {
    members = altered number at_rest s.members;
    order = s.order ++ cond (is_touched_at number s) (number ∷ []) [];
  }

  -- a location was written: who waits for it is ready, in order of numbers
  abbrev pub woken : ℕ → Roster M → Roster M
  woken l s = record s { members = map (stirred_by l) s.members; order = s.order ++ woken_by l s.members }
