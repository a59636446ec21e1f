-- The row of a seat is noted: its member came to a condition that is false.
use Rattle.std.proofs.Common.{◌≡◌, ℕ, ◌+◌, ◌<◌, true, false, List, [], ◌∷◌, ◌++◌, map, get_or, take, length, All, Some, None, refl, sym, ap, ◌∙◌, subst, rules}
use Rattle.std.specs.Prelude.{slice_set}
use Rattle.std.proofs.lemmas.List.{take_more, map-append}
use Rattle.ame_term.specs.Tree.{Val, Tree}
use Rattle.ame_term.specs.Context.{focus}
use Rattle.ame_term.specs.declared.types.Loc.{Loc}
use Rattle.ame_journal.specs.declared.entry.Entry.{Entry}
use Rattle.ame_journal.specs.declared.entry.EntryKind.{EntryKind}
use Rattle.ame_journal.specs.JournalView.{MayHold, IsFit}
use Rattle.ame_journal.specs.Replayed.{is_false_condition}
use Rattle.ame_rows.specs.declared.notes.ReadNote.{ReadNote}
use Rattle.ame_rows.specs.Valid.{IsValid}
use Rattle.ame_machine.specs.Run.Local.{LocalState}
use Rattle.ame_pool.specs.Members.{is_busy}
use Rattle.ame_pool.specs.Roster.{Roster}
use Rattle.ame_pool.specs.Calls.{IsAt, noted, noted_on}
use Rattle.ame_rows.specs.MemoryView.{Log, row_at}
use Rattle.ame_protocol.specs.Row.SeatRun.{HasUsed, AreValid}
use Rattle.ame_protocol.specs.Row.Waiting.{read_places}
use Rattle.ame_machine.specs.declared.wants.Wants.TheVariants as wants
use Rattle.ame_machine.specs.MachineView.{MachineView, place_shown, without_footprint, with_answer}
use Rattle.ame_machine.specs.Need.{Need}
use Rattle.ame_machine.specs.Sound.{IsSoundStage}
use Rattle.ame_machine.proofs.NeedLemmas.{comes_as}
use Rattle.ame_protocol.specs.declared.types.Attempt.{Attempt}
use Rattle.ame_protocol.specs.declared.types.UndoReason.{UndoReason}
use Rattle.ame_protocol.specs.declared.types.Task.{Task}
use Rattle.ame_protocol.specs.Engine.Parts.{Parts, heap_in, task_at, run_in}
use Rattle.ame_protocol.specs.Engine.Shown.{shown_pool}
use Rattle.ame_protocol.proofs.Engine.ShownMemoryLemmas.{row-shown}
use Rattle.ame_protocol.proofs.Engine.ShownPoolLemmas.{noted-shown}
use Rattle.ame_protocol.specs.Waits.Noted.{stuck_entry, has_noted}
use Rattle.ame_engine.specs.Core.{Core}
use Rattle.ame_protocol.specs.Event.Counting.{Counted, one_counted}
use Rattle.ame_protocol.specs.Event.Event.{Event}
use Rattle.ame_protocol.specs.Event.May.{May}
use Rattle.ame_engine.specs.Seen.{parts_of, term_shown}
use Rattle.ame_engine.specs.Makes.{state_of, MakesAt}
use Rattle.ame_engine.proofs.MakesLemmas.{made-event}
use Rattle.ame_engine.specs.Whole.{IsAtRest, IsSound}
use Rattle.ame_engine.specs.AtWork.{IsOn}
use Rattle.ame_engine.proofs.CommitLemmas.{sound', left', place, used, are-valid, its-runs, commit-runs, commit-few}
use Rattle.ame_engine.proofs.CrewLemmas.{busy-told}
use Rattle.ame_engine.proofs.MemberLemmas.{all_altered}
use Rattle.ame_engine.proofs.CommitLemmas.{commit-low}
use Rattle.ame_machine.specs.Meaning.{Meaning}
use Rattle.ame_engine.proofs.SoundLemmas.{sound-next}

-- a note has no answer
pub none-held : (kind : EntryKind) → MayHold kind None
none-held EntryKind.Ran = search rules
none-held EntryKind.Free = search rules
none-held EntryKind.Stuck = search rules
none-held EntryKind.Cut = search rules
none-held EntryKind.Tall = search rules

module _ {C V M : Type 0} (meaning : Meaning C V M)
    (core now : Core C V M) (view : core ≡ now) (whole : IsSound meaning core) (seat : ℕ) (m : M)
    (on : IsOn meaning now seat m) (outside : (meaning.stage now.code m).inside ≡ false)
    (sound : IsSoundStage (meaning.stage now.code m)) (left : now.turns < now.limits.turns) (attempt : Attempt)
    (runs-now : task_at now.tasks seat ≡ Task.Running attempt) (valid-now : IsValid now.memory.cells seat (row_at now.memory.rows seat).reads) where
  abbrev parts : Parts
  parts = parts_of meaning core

  abbrev s : MachineView
  s = meaning.stage core.code m

  abbrev number : ℕ
  number = attempt.tried.number

  pub block-runs : task_at core.tasks seat ≡ Task.Running attempt
  block-runs = commit-runs meaning core now view whole seat m on outside sound left attempt runs-now valid-now

  is : task_at core.tasks seat ≡ Task.Running attempt
  is = block-runs

  abbrev p : LocalState
  p = (place meaning core now view whole seat m on outside sound left attempt runs-now valid-now).0

  p-shown : without_footprint p ≡ with_answer None (place_shown s)
  p-shown = (place meaning core now view whole seat m on outside sound left attempt runs-now valid-now).2

  p-used : HasUsed (run_in parts seat number) s.steps p
  p-used = used meaning core now view whole seat m on outside sound left attempt runs-now valid-now

  reads-valid : AreValid (heap_in parts) seat (run_in parts seat number).reads
  reads-valid = are-valid meaning core now view whole seat m on outside sound left attempt runs-now valid-now

  turns-left : core.turns < core.limits.turns
  turns-left = left' meaning core now view whole seat m on outside sound left attempt runs-now valid-now

  pub block-busy : IsAt is_busy number core.pool
  block-busy =
      busy-told (term_shown meaning.stage core.code) number core.pool
      (its-runs meaning core now view whole seat m on outside sound left attempt runs-now valid-now).work.busy

  pub note-fit : (kind : EntryKind) (entry : Entry)
      → entry ≡ record { kind = kind; seat = seat; number = number; steps = s.steps; fresh = s.fresh; answer = None } → IsFit entry
  note-fit kind entry e =
      subst IsFit (sym e) (record {
        seat = commit-few meaning core now view whole seat m on outside sound left attempt runs-now valid-now;
        answer = none-held kind;
      })

  module _ (wants-it : (meaning.stage now.code m).want ≡ Some wants.Block) (going : now.stop ≡ None) where
    wants' : s.want ≡ Some wants.Block
    wants' = subst (λ (x : Core C V M). (meaning.stage x.code m).want ≡ Some wants.Block) (sym view) wants-it

    going' : core.stop ≡ None
    going' = subst (λ (x : Core C V M). x.stop ≡ None) (sym view) going

    fails : is_false_condition (focus p.term) ≡ true
    fails =
        ap (λ (x : LocalState). is_false_condition (focus x.term)) p-shown
        ∙ (comes_as s Need.Block ((sound' meaning core now view whole seat m on outside sound left attempt runs-now valid-now).told wants.Block wants')).1

    -- all that the engine has then
    module _ (entry : Entry) (entry_is : entry ≡ stuck_entry seat number s.steps (place_shown s)) (row reads : List ReadNote)
        (reads_are : reads ≡ row) (row_is : row ≡ (row_at core.memory.rows seat).reads) (locs : List Loc) (locs_are : map (λ l. l.0) locs ≡ read_places reads)
        (before entries : List Entry) (before_is : before ≡ core.entries) (pushes : entries ≡ before ++ entry ∷ [])
        (pool : Roster M) (pool_is : pool ≡ noted number (map (λ l. l.0) locs) core.pool)
        (later : Attempt) (later_is : later ≡ record attempt { logged = true }) where
      abbrev after : Core C V M
      after = record core {
        entries = entries;
        tasks = slice_set core.tasks seat (Task.Undoing later UndoReason.Noted);
        pool = pool;
        turns = core.turns + 1;
        counters = one_counted Counted.Block core.counters;
      }

      entries-are : entries ≡ core.entries ++ stuck_entry seat number s.steps (place_shown s) ∷ []
      entries-are = pushes ∙ ap (λ (es : List Entry). es ++ entry ∷ []) before_is ∙ ap (λ (e : Entry). core.entries ++ e ∷ []) entry_is

      abbrev watched : List ℕ
      watched = read_places (row_at parts.memory.rows seat).reads

      locs-are : map (λ (l : Loc). l.0) locs ≡ watched
      locs-are =
          locs_are ∙ ap read_places (reads_are ∙ row_is)
          ∙ sym (ap (λ (n : Log Val). read_places n.reads) (row-shown (meaning.value_of core.code) core.memory.rows seat))

      pool-so : pool ≡ noted number watched core.pool
      pool-so = pool_is ∙ ap (λ (ls : List ℕ). noted number ls core.pool) locs-are

      pool-shown : shown_pool (term_shown meaning.stage core.code) pool ≡ noted number watched parts.pool
      pool-shown = ap (shown_pool (term_shown meaning.stage core.code)) pool-so ∙ noted-shown (term_shown meaning.stage core.code) number watched core.pool

      parts-with : List Entry → Roster Tree → Attempt → Parts
      parts-with es p a =
          record parts { entries = es; tasks = slice_set core.tasks seat (Task.Undoing a UndoReason.Noted); pool = p; turns = core.turns + 1 }

      parts-noted : parts_of meaning after ≡ has_noted seat attempt s.steps (place_shown s) parts
      unfolding parts-with
      parts-noted = λ i. parts-with (entries-are i) (pool-shown i) (later_is i)

      rest-noted : All (IsAtRest meaning.is_machine meaning.stage core.code) pool.members
      rest-noted =
          subst (λ (p : Roster M). All (IsAtRest meaning.is_machine meaning.stage core.code) p.members) (sym pool-so)
          (all_altered number (noted_on watched) (IsAtRest meaning.is_machine meaning.stage core.code)
          (λ m rests. record { machine = rests.machine; rests = rests.rests }) core.pool.members whole.members)

      -- so this may be
      may-note : May (Event.Note seat attempt s.steps p) (state_of meaning core)
      may-note = (
        record { going = going'; left = turns-left },
        record {
          task = is;
          used = p-used;
          more = commit-low meaning core now view whole seat m on outside sound left attempt runs-now valid-now;
        },
        reads-valid,
        fails,
      )

      pub makes-noted : MakesAt meaning (meaning.stage now.code m) None (λ q. Event.Note seat attempt (meaning.stage now.code m).steps q) now after
      makes-noted =
          subst (λ (x : Core C V M). MakesAt meaning (meaning.stage x.code m) None (λ q. Event.Note seat attempt (meaning.stage x.code m).steps q) x after) view
          (record {
            place = p;
            shows = p-shown;
            makes = made-event meaning (one_counted Counted.Block) (has_noted seat attempt s.steps p) (Event.Note seat attempt s.steps p) core after refl refl may-note
                (record {
                  code = refl;
                  parts = subst (λ (q : LocalState). parts_of meaning after ≡ has_noted seat attempt s.steps q parts) (sym p-shown) parts-noted;
                  counted = refl;
                  stop = refl;
                });
          })

      pub whole-noted : IsSound meaning after
      whole-noted =
          sound-next meaning core now after view whole (Event.Note seat attempt (meaning.stage now.code m).steps makes-noted.place) makes-noted.makes
          whole.memory rest-noted whole.text

-- the locations of reads, one after another
pub locations-more : (reads : List ReadNote) (i : ℕ) (d : ReadNote) (locs new : List Loc) → i < length reads → new ≡ locs ++ (get_or reads i d).loc ∷ []
    → map (λ l. l.0) locs ≡ read_places (take i reads) → map (λ l. l.0) new ≡ read_places (take (i + 1) reads)
locations-more reads i d locs new within pushes so_far =
    ap (map (λ (l : Loc). l.0)) pushes ∙ map-append (λ (l : Loc). l.0) locs ((get_or reads i d).loc ∷ [])
    ∙ ap (λ (ns : List ℕ). ns ++ (get_or reads i d).loc.0 ∷ []) so_far
    ∙ sym (ap read_places (take_more reads i d within) ∙ map-append (λ (n : ReadNote). n.loc.0) (take i reads) (get_or reads i d ∷ []))
