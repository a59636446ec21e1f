-- Which member may begin.
use Rattle.std.specs.Prelude.{ℕ, ◌==◌, ◌&&◌, Bool, true, not, cond, List, [], ◌∷◌, ◌++◌, Option, Some, None}
use Rattle.std.specs.List.{list_any, list_all}
use Rattle.ame_pool.specs.declared.member.Member.{Member}
use Rattle.ame_pool.specs.declared.oldest.Oldest.{Oldest}
use Rattle.ame_pool.specs.Members.{is_busy, is_parked, find}
use Rattle.ame_pool.specs.Roster.{Roster}
use Rattle.ame_pool.specs.Standings.{max_rollbacks}

abbrev pub oldest_or_wait : Option ℕ → Oldest
oldest_or_wait None = Oldest.Wait
oldest_or_wait (Some n) = Oldest.Member n

module _ {M : Type 0} where
  abbrev pub is_protected : Member M → Bool
  is_protected m = not m.inside

  -- it was rolled back as often as it may be
  abbrev pub is_exhausted : Member M → Bool
  is_exhausted m = m.rollbacks == max_rollbacks

  abbrev pub is_exhausted_protected : Member M → Bool
  is_exhausted_protected m = is_protected m && is_exhausted m

  -- some busy member is of this kind
  abbrev pub some_busy : (Member M → Bool) → List (Member M) → Bool
  some_busy kind ms = list_any (λ m. is_busy m && kind m) ms

  -- A ready member may begin: inside always; an exhausted one if no protected member is busy; otherwise if
  -- no exhausted one is busy or older.
  abbrev pub may_begin_beside : Bool → Bool → Bool → Member M → Bool
  may_begin_beside protected_busy exhausted_busy exhausted_older m =
      cond m.inside true (cond (is_exhausted m) (not protected_busy) (not exhausted_busy && not exhausted_older))

  -- a ready member may begin, if these ready ones are older
  abbrev pub may_begin : List (Member M) → List (Member M) → Member M → Bool
  may_begin ms older m =
      may_begin_beside (some_busy is_protected ms) (some_busy is_exhausted_protected ms) (list_any is_exhausted_protected older) m

  -- the first of the ready members that may begin
  abbrev pub first_to_begin : List (Member M) → List (Member M) → List (Member M) → Option ℕ
  first_to_begin ms older [] = None
  first_to_begin ms older (m ∷ ready) =
      cond (may_begin ms older m) (Some m.number) (first_to_begin ms (older ++ m ∷ []) ready)

  -- the members with these numbers, in this order
  abbrev pub members_of : List (Member M) → List ℕ → List (Member M)
  members_of ms [] = []
  members_of ms (n ∷ ns) = elim (find n ms) [ None ↦ members_of ms ns | Some m ↦ m ∷ members_of ms ns ]

  -- the oldest ready member that may begin, or why there is none
  abbrev pub oldest : Roster M → Oldest
  oldest s =
      elim s.members [
        | [] ↦ Oldest.Empty
        | _ ∷ _ ↦ cond (list_all is_parked s.members) Oldest.Parked
            (oldest_or_wait (first_to_begin s.members [] (members_of s.members s.order)))
      ]
