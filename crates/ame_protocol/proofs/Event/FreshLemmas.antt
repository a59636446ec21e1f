-- An entry that isn't the last one starts its member afresh: its rollbacks are taken off, or it is gone.
use Rattle.std.proofs.Common.{All, List, None, Option, Some, [], ap, false, option_map, refl, sym, true, unwrap_or, ℕ, ◌∙◌, ◌∷◌, ◌≡◌, Bool}
use Rattle.std.proofs.lemmas.List.Elements.{All-cons, All-nil}
use Rattle.ame_term.specs.Tree.{Tree}
use Rattle.ame_journal.specs.declared.entry.Entry.{Entry}
use Rattle.ame_pool.specs.Calls.{exchanged, noted, noted_on, removed, renewed}
use Rattle.ame_pool.specs.Members.{IsRising, find}
use Rattle.ame_pool.specs.Roster.{Roster}
use Rattle.ame_pool.specs.declared.member.Member.{Member}
use Rattle.ame_pool.proofs.MemberLemmas.{found_altered, found_except}
use Rattle.ame_protocol.specs.Bounds.Rollbacks.{rollbacks_at}
use Rattle.ame_protocol.specs.Engine.Events.{with_newcomers, woken_for, ran_entry}
use Rattle.ame_protocol.proofs.Engine.GrowthLemmas.{woken-free}
use Rattle.ame_protocol.specs.Event.After.{after}
use Rattle.ame_protocol.specs.Event.Causes.{is_ordinary}
use Rattle.ame_protocol.specs.Event.Event.{Event}
use Rattle.ame_protocol.specs.Event.Runs.{entries_told}
use Rattle.ame_protocol.specs.Event.Sound.{Sound}
use Rattle.ame_protocol.specs.Event.EngineState.{EngineState}
use Rattle.ame_protocol.proofs.Event.PoolLemmas.{good-newcomers}
use Rattle.ame_protocol.proofs.Event.RollbackLemmas.{woken-good}
use Rattle.ame_protocol.specs.Waits.Noted.{stuck_entry}
use Rattle.ame_protocol.specs.Visits.Visit.{free_entry}
use Rattle.ame_protocol.specs.Visits.Stops.{note_entry}
use Rattle.ame_protocol.specs.Row.Waiting.{read_places}
use Rattle.ame_rows.specs.MemoryView.{row_at}
use Rattle.ame_journal.specs.declared.entry.EntryKind.{EntryKind}
use Rattle.ame_protocol.proofs.Engine.ToldLemmas.{next-free}

rolled-in : Option (Member Tree) → ℕ
rolled-in o = unwrap_or (option_map (λ (m : Member Tree). m.rollbacks) o) 0

module _ (number : ℕ) (pool new : Roster Tree) where
  afresh-gone : find number new.members ≡ None → rollbacks_at number new ≡ 0
  unfolding rolled-in
  afresh-gone e = ap rolled-in e

  afresh-altered : (f : Member Tree → Member Tree) → ((m : Member Tree) → (f m).rollbacks ≡ 0) → find number new.members ≡ option_map f (find number pool.members)
      → rollbacks_at number new ≡ 0
  unfolding rolled-in
  afresh-altered f none e = ap rolled-in e ∙ by (find number pool.members)
    where
      by : (o : Option (Member Tree)) → rolled-in (option_map f o) ≡ 0
      by None = refl
      by (Some m) = none m

afresh-exchanged : (number : ℕ) (term : Tree) (inside : Bool) (pool : Roster Tree) → rollbacks_at number (exchanged number term inside pool) ≡ 0
afresh-exchanged number term inside pool =
    afresh-altered number pool (exchanged number term inside pool) (renewed term inside) (λ m. refl) (found_altered number (renewed term inside) (λ m. refl) pool.members).here

afresh-noted : (number : ℕ) (locs : List ℕ) (pool : Roster Tree) → rollbacks_at number (noted number locs pool) ≡ 0
afresh-noted number locs pool =
    afresh-altered number pool (noted number locs pool) (noted_on locs) (λ m. refl) (found_altered number (noted_on locs) (λ m. refl) pool.members).here

afresh-removed : (number : ℕ) (pool : Roster Tree) → IsRising pool.members → rollbacks_at number (removed number pool) ≡ 0
afresh-removed number pool rising = afresh-gone number pool (removed number pool) (found_except number pool.members rising).here

module _ (s : EngineState) (h : Sound s) where
  rising-later : (woken : List ℕ) (bodies : List Tree) → IsRising (with_newcomers s.parts.next bodies (woken_for woken s.parts.pool)).members
  rising-later woken bodies =
      (good-newcomers s.parts.next bodies (woken_for woken s.parts.pool) (woken-free s.parts.next woken s.parts.pool (next-free s.parts h.stands))
      (woken-good woken s.parts.pool h.pool)).rising

  abbrev Afresh : Event → Entry → Type 0
  Afresh e entry = is_ordinary entry.kind ≡ true → rollbacks_at entry.number (after e s).parts.pool ≡ 0

  one : (e : Event) (entry : Entry) → Afresh e entry → All (Afresh e) (entry ∷ [])
  one e entry its = All-cons (Afresh e) entry [] its (All-nil (Afresh e))

  last : (e : Event) (entry : Entry) → is_ordinary entry.kind ≡ false → All (Afresh e) (entry ∷ [])
  last e entry its = one e entry (λ ordinary. absurd (let clash : false ≡ true = sym its ∙ ordinary in cc))

  -- so it is of each event
  pub told-afresh : (e : Event) → All (λ entry. is_ordinary entry.kind ≡ true → rollbacks_at entry.number (after e s).parts.pool ≡ 0) (entries_told e)
  told-afresh (Event.End seat attempt steps place woken) =
      one (Event.End seat attempt steps place woken) (ran_entry seat attempt.tried.number steps place) (λ _.
      afresh-removed attempt.tried.number (with_newcomers s.parts.next place.spawns (woken_for woken s.parts.pool)) (rising-later woken place.spawns))
  told-afresh (Event.Leave seat attempt steps place woken) =
      one (Event.Leave seat attempt steps place woken) (ran_entry seat attempt.tried.number steps place) (λ _.
      afresh-exchanged attempt.tried.number place.term true (with_newcomers s.parts.next place.spawns (woken_for woken s.parts.pool)))
  told-afresh (Event.Note seat attempt steps place) =
      one (Event.Note seat attempt steps place) (stuck_entry seat attempt.tried.number steps place) (λ _.
      afresh-noted attempt.tried.number (read_places (row_at s.parts.memory.rows seat).reads) s.parts.pool)
  told-afresh (Event.Visit seat attempt steps place inside memory) =
      one (Event.Visit seat attempt steps place inside memory) (free_entry seat attempt.tried.number steps place) (λ _.
      afresh-exchanged attempt.tried.number place.term inside (with_newcomers s.parts.next place.spawns s.parts.pool))
  told-afresh (Event.Cut seat attempt steps place) =
      last (Event.Cut seat attempt steps place) (note_entry EntryKind.Cut seat attempt.tried.number steps place) refl
  told-afresh (Event.Tall seat attempt steps place) =
      last (Event.Tall seat attempt steps place) (note_entry EntryKind.Tall seat attempt.tried.number steps place) refl
  told-afresh (Event.Begin seat number) = All-nil (Afresh (Event.Begin seat number))
  told-afresh (Event.Read seat l) = All-nil (Afresh (Event.Read seat l))
  told-afresh (Event.Write seat l v) = All-nil (Afresh (Event.Write seat l v))
  told-afresh (Event.Alloc seat sort ty v) = All-nil (Afresh (Event.Alloc seat sort ty v))
  told-afresh (Event.Check seat attempt steps) = All-nil (Afresh (Event.Check seat attempt steps))
  told-afresh (Event.TurnBack seat attempt why) = All-nil (Afresh (Event.TurnBack seat attempt why))
  told-afresh (Event.Refuse seat attempt device) = All-nil (Afresh (Event.Refuse seat attempt device))
  told-afresh (Event.Undo seat attempt) = All-nil (Afresh (Event.Undo seat attempt))
  told-afresh (Event.Home seat attempt) = All-nil (Afresh (Event.Home seat attempt))
  told-afresh (Event.Halt why) = All-nil (Afresh (Event.Halt why))
