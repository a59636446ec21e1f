-- A note, by what its call finds.
use Rattle.std.proofs.Common.{All, ◌<◌, ◌≡◌, ℕ, ◌≤◌, ◌++◌, ◌∷◌, [], ℤ, Bool, true, false, List, Option, Some, None, refl, sym, ap, ◌∙◌, subst, is_some, arith}
use Rattle.ame_term.specs.Frame.{Side}
use Rattle.ame_term.specs.Maps.{at}
use Rattle.ame_term.specs.State.{State}
use Rattle.ame_journal.specs.Replayed.{is_inside, side_at, is_at_unprotected}
use Rattle.ame_journal.specs.Replay.{replay, replay_kind, replay_entry, note_where}
use Rattle.ame_journal.specs.Totals.{is_note}
use Rattle.ame_journal.specs.declared.entry.Entry.{Entry}
use Rattle.ame_journal.specs.declared.entry.EntryKind.{EntryKind}
use Rattle.ame_journal.proofs.ReachedLemmas.{IsCalm, calm-replayed}
use Rattle.ame_machine.specs.Meaning.{Meaning}
use Rattle.ame_machine.specs.MachineView.{MachineView, starting_at, running_side}
use Rattle.ame_machine.specs.Sound.{IsAccepted, IsSoundStage, CanRun}
use Rattle.ame_machine.specs.Move.{settled_stage, AdvancesWithin}
use Rattle.ame_machine.specs.declared.wants.Wants.{Wants}
use Rattle.ame_check.specs.Shows.{ReplayView, ShowsMember, StandsForEntries}
use Rattle.ame_check.specs.Walk.{steps_on, begun_on, StaysLow}
use Rattle.ame_check.specs.Walked.{place_with, IsAtStep, RunsTo, StopsRun}
use Rattle.ame_check.specs.Entries.{BeginsSteps, MeetsNoTall, HasMade, StopsAt, is_confirmed}
use Rattle.ame_check.specs.Standing.{TellsReads, TellsEachRead, StandsAt}
use Rattle.ame_check.specs.Reasons.{MeetsReason, IsMet, entry_side, is_shut}
use Rattle.ame_check.specs.declared.reason.Reason.{Reason}
use Rattle.ame_check.specs.declared.reason.Reason.TheVariants as reason
use Rattle.ame_check.specs.declared.entry_error.EntryError.{EntryError}
use Rattle.ame_check.specs.declared.entry_error.EntryError.TheVariants as error
use Rattle.ame_check.proofs.EntryLemmas.{behind-journal, stands-as, whole-leads}
use Rattle.ame_check.proofs.StartLemmas.{its-term, its-rest, its-machine, walk-begins}
use Rattle.ame_check.proofs.ReasonLemmas.{FailsBy, met-on, note-side, shut-apart, stops-met}
use Rattle.ame_check.proofs.FormLemmas.{all-front}
use Rattle.ame_check.proofs.WalkLemmas.{can-run}
use Rattle.ame_check.proofs.RanLemmas.{undefined-there}
use Rattle.ame_check.proofs.NoteLemmas.{attempt-is, note-undefined, stuck-standing, note-is, note-absent, note-answered, side-tall, none-made, settled-flag, meets-unbegun, meets-apart, meets-nobody, meets-low}
use Rattle.ame_check.proofs.WantLemmas.{walked-low}
use Rattle.ame_check.specs.declared.stored.Stored.{Stored}

note-begins : (kind : EntryKind) → is_note kind ≡ true → (inside : Bool) (answer : Option ℤ) → BeginsSteps kind inside answer → answer ≡ None
note-begins EntryKind.Ran note inside answer begins = cc
note-begins EntryKind.Free note inside answer begins = cc
note-begins _ note inside answer begins = begins

begins-note_so : (kind : EntryKind) → is_note kind ≡ true → (inside : Bool) (answer : Option ℤ) → answer ≡ None → BeginsSteps kind inside answer
begins-note_so EntryKind.Ran note inside answer quiet = cc
begins-note_so EntryKind.Free note inside answer quiet = cc
begins-note_so _ note inside answer quiet = quiet

module _ {C V M : Type 0} (meaning : Meaning C V M) (code : C) (accepted : IsAccepted (meaning.signature code) (meaning.program code))
    (sound : (m : M) → meaning.is_machine code m → IsSoundStage (meaning.stage code m)) (entry : Entry) (note : is_note entry.kind ≡ true)
    (place : ReplayView V M) (entries : List Entry) (st : StandsForEntries meaning code entries place) where
  calm : IsCalm st.led
  calm = calm-replayed (meaning.program code) entries st.led st.replayed

  as-kind : replay_entry st.led entry ≡ replay_kind entry.kind st.led entry.number entry.steps entry.fresh entry.answer
  unfolding replay_entry
  as-kind = refl

  answer-of : (o : Option ℤ) → is_some o ≡ true → (n : ℤ) × (o ≡ Some n)
  answer-of None e = cc
  answer-of (Some n) e = (n, refl)

  none-there : replay_entry st.led entry ≡ None → replay (meaning.program code) (entries ++ entry ∷ []) ≡ None
  none-there e = undefined-there meaning code entries entry place st.led st.replayed st.shows calm e

  fails : (why : Reason) → MeetsNoTall (meaning.program code) entries entry → replay (meaning.program code) (entries ++ entry ∷ []) ≡ None → IsMet st.led entry why
      → FailsBy (meaning.program code) entries entry why
  fails why low none met = (low, none, (st.led, st.replayed, met))

  pub noted-answer : is_some entry.answer ≡ true → FailsBy (meaning.program code) entries entry reason.Answered
  noted-answer e =
      let a = answer-of entry.answer e in
      let none = none-there (as-kind ∙ ap (replay_kind entry.kind st.led entry.number entry.steps entry.fresh) a.1 ∙ note-answered st.led entry.number entry.steps entry.fresh a.0 entry.kind note) in
      fails reason.Answered
      (meets-unbegun (meaning.program code) entries entry st.led st.replayed (λ begins. let clash : Some a.0 ≡ None = sym a.1 ∙ note-begins entry.kind note (is_inside st.led entry.number) entry.answer begins in cc)) none e

  module _ (quiet : entry.answer ≡ None) where
    as-quiet : replay_entry st.led entry ≡ replay_kind entry.kind st.led entry.number entry.steps entry.fresh None
    as-quiet = as-kind ∙ ap (replay_kind entry.kind st.led entry.number entry.steps entry.fresh) quiet

    pub noted-none : None ≡ at place.members entry.number → FailsBy (meaning.program code) entries entry reason.NoMember
    noted-none none =
        let absent = subst (λ (o : Option M). ShowsMember meaning code (is_inside st.led entry.number) o (at st.led.state.members entry.number)) (sym none) (st.shows.members entry.number) in
        fails reason.NoMember (meets-nobody (meaning.program code) entries entry st.led st.replayed calm.idle absent) (none-there (as-quiet ∙ note-absent st.led entry.number entry.steps entry.fresh calm.idle absent entry.kind note)) absent

    module _ (machine : M) (found : Some machine ≡ at place.members entry.number) (copy : M) (good : meaning.is_machine code machine → meaning.is_machine code copy)
        (same : meaning.stage code machine ≡ meaning.stage code copy) where
      term : at st.led.state.members entry.number ≡ Some (meaning.stage code machine).term
      term = its-term meaning code entries place st.led st.replayed st.shows entry.number machine found

      rest : meaning.stage code copy ≡ record (starting_at (meaning.stage code machine).term) { inside = is_inside st.led entry.number }
      rest = sym same ∙ its-rest meaning code entries place st.led st.replayed st.shows entry.number machine found

      pub copy-good : meaning.is_machine code copy
      copy-good = good (its-machine meaning code entries place st.led st.replayed st.shows entry.number machine found)

      pub copy-steps : (meaning.stage code copy).steps ≡ 0
      copy-steps = ap (λ (z : MachineView). z.steps) rest

      pub copy-runs : CanRun (meaning.stage code copy)
      copy-runs =
          can-run meaning code st.led.state entry.number entry.fresh place.cells [] copy
          (walk-begins meaning code entries place st.led st.replayed st.shows entry.number machine found st.types st.typed st.forms copy [] entry.fresh (is_inside st.led entry.number) copy-good refl
          (ap (λ (z : MachineView). z.term) rest) (ap (λ (z : MachineView). z.prints) rest) (ap (λ (z : MachineView). z.spawns) rest) (ap (λ (z : MachineView). z.fresh) rest) copy-steps (ap (λ (z : MachineView). z.inside) rest)
          (calm.standing entry.number)).walking

      module _ (ready : M) (good_ready : meaning.is_machine code ready) (within : AdvancesWithin 0 (meaning.stage code copy) (meaning.stage code ready)) (want : Wants)
          (told : (meaning.stage code ready).want ≡ Some want) (settled : M) (good_settled : meaning.is_machine code settled) (settles : meaning.stage code settled ≡ settled_stage (meaning.stage code ready))
          (overlay : List (ℕ × Stored V)) (empty : overlay ≡ []) where
        stays : ((meaning.stage code ready).term ≡ (meaning.stage code copy).term) × ((meaning.stage code ready).inside ≡ (meaning.stage code copy).inside)
        stays = none-made (meaning.stage code copy) (meaning.stage code ready) within

        ready-term : (meaning.stage code ready).term ≡ (meaning.stage code machine).term
        ready-term = stays.0 ∙ ap (λ (z : MachineView). z.term) rest

        flag : (meaning.stage code settled).inside ≡ is_at_unprotected entry.number st.led.state
        flag =
            ap (λ (z : MachineView). z.inside) settles
            ∙ settled-flag st.led entry.number (meaning.stage code ready) (meaning.stage code machine).term calm term ready-term (stays.1 ∙ ap (λ (z : MachineView). z.inside) rest) (sound ready good_ready) want told

        pub begins-note : IsAtStep meaning code st.led.state entry.number entry.fresh place.cells overlay settled (side_at entry.number st.led.state) 0
        begins-note =
            walk-begins meaning code entries place st.led st.replayed st.shows entry.number machine found st.types st.typed st.forms settled overlay entry.fresh (is_at_unprotected entry.number st.led.state) good_settled empty
            (ap (λ (z : MachineView). z.term) settles ∙ ready-term) (ap (λ (z : MachineView). z.prints) settles) (ap (λ (z : MachineView). z.spawns) settles) (ap (λ (z : MachineView). z.fresh) settles)
            (ap (λ (z : MachineView). z.steps) settles) flag (λ e. e)

        pub noted-shut : is_shut entry.kind (meaning.stage code settled).inside ≡ true → FailsBy (meaning.program code) entries entry reason.Inside
        noted-shut shut =
            let so = shut-apart entry.kind note st.led entry.number (ap (is_shut entry.kind) (sym flag) ∙ shut) in
            let stands = sym (stands-as st.led.state entry.number calm.idle (meaning.stage code machine).term term) ∙ so.1 in
            fails reason.Inside (meets-apart (meaning.program code) entries entry st.led st.replayed so.2)
            (none-there (as-quiet ∙ ap (λ (k : EntryKind). replay_kind k st.led entry.number entry.steps entry.fresh None) so.0
            ∙ stuck-standing st.led entry.number entry.steps entry.fresh (meaning.stage code machine).term calm.idle term stands)) so.3

        module _ (opened : is_shut entry.kind (meaning.stage code settled).inside ≡ false) where
          its_side : side_at entry.number st.led.state ≡ entry_side entry.kind entry.number st.led.state
          its_side = note-side entry.kind note entry.number st.led.state (ap (is_shut entry.kind) (sym flag) ∙ opened)

          on-side : (why : Reason) → MeetsReason (side_at entry.number st.led.state) st.led.state entry.number entry.fresh entry.steps why → IsMet st.led entry why
          on-side = met-on st.led entry (side_at entry.number st.led.state) its_side

          low-so : StaysLow (side_at entry.number st.led.state) entry.number entry.steps entry.fresh st.led.state → MeetsNoTall (meaning.program code) entries entry
          low-so low =
              meets-low (meaning.program code) entries entry st.led st.replayed (meaning.stage code machine).term calm.idle term
              (subst (λ (z : Side). StaysLow z entry.number entry.steps entry.fresh st.led.state) its_side low)

          stopped-so : (e : EntryError) → StopsRun (side_at entry.number st.led.state) entry.number entry.steps entry.fresh st.led.state e → StopsAt (meaning.program code) entries entry e
          stopped-so (error.Undefined why) none =
              fails why (low-so none.0)
              (none-there (as-quiet ∙ note-undefined st.led entry.number entry.steps entry.fresh (meaning.stage code machine).term calm.idle term entry.kind note none.1)) (on-side why none.2)
          stopped-so error.Tall tall = (
            st.led,
            st.replayed,
            side-tall st.led entry (meaning.stage code machine).term calm.idle term
                (begins-note_so entry.kind note (is_inside st.led entry.number) entry.answer quiet) its_side tall,
          )
          stopped-so error.NoMemory none = none

          pub noted-stopped : (e : EntryError)
              → ((s : State) (i : ℕ) (side : Side) (n : ℕ) → IsAtStep meaning code s i entry.fresh place.cells overlay settled side n → StopsRun side i entry.steps entry.fresh s e)
              → StopsAt (meaning.program code) entries entry e
          noted-stopped e stops = stopped-so e (stops st.led.state entry.number (side_at entry.number st.led.state) 0 begins-note)

          module _ (later : List (ℕ × Stored V)) (m : M) (next : Wants)
              (runs : (s : State) (i : ℕ) (side : Side) (n : ℕ) → IsAtStep meaning code s i entry.fresh place.cells overlay settled side n
              → RunsTo meaning code s i entry.fresh place.cells later m side entry.steps next) where
            whole : RunsTo meaning code st.led.state entry.number entry.fresh place.cells later m (side_at entry.number st.led.state) entry.steps next
            whole = runs st.led.state entry.number (side_at entry.number st.led.state) 0 begins-note

            leads : steps_on (side_at entry.number st.led.state) entry.number entry.steps entry.fresh None (begun_on (side_at entry.number st.led.state) entry.number st.led.state)
                ≡ Some whole.0.walking.going.now
            leads =
                let g = whole.0.walking.going in
                ap (λ (xs : List ℕ). steps_on (side_at entry.number st.led.state) entry.number entry.steps xs None (begun_on (side_at entry.number st.led.state) entry.number st.led.state)) (sym whole.1)
                ∙ ap (λ (k : ℕ). steps_on (side_at entry.number st.led.state) entry.number k (meaning.stage code m).fresh None (begun_on (side_at entry.number st.led.state) entry.number st.led.state)) (sym whole.0.counted)
                ∙ ap (λ (z : Side). steps_on z entry.number (meaning.stage code m).steps (meaning.stage code m).fresh None (begun_on z entry.number st.led.state)) (sym whole.0.runs_on)
                ∙ whole-leads (meaning.signature code) st.led.state entry.number (running_side (meaning.stage code m)) (place_with whole.0.walking.sets (meaning.stage code m)) (meaning.stage code m).steps g

            tells : replay_entry st.led entry ≡ note_where (is_confirmed entry.kind next) st.led
            tells =
                as-quiet ∙ note-is st.led entry.number entry.steps entry.fresh (meaning.stage code machine).term calm.idle term (meaning.stage code m) (sound m whole.0.walking.machine) next whole.2
                whole.0.walking.going.now whole.0.walking.going.member whole.0.runs_on leads entry.kind note

            has-low : MeetsNoTall (meaning.program code) entries entry
            has-low = low-so (walked-low meaning code sound st.led.state entry.number entry.fresh place.cells later m (side_at entry.number st.led.state) entry.steps whole.0)

            pub stands-there : (reads : List (ℕ × ℕ)) → TellsReads (side_at entry.number st.led.state) st.led.state entry.number entry.fresh entry.steps reads
                → TellsEachRead (side_at entry.number st.led.state) st.led.state entry.number entry.fresh entry.steps entry.steps reads
                → StandsAt meaning code entries entry m next reads
            stands-there reads told each = record {
              led = st.led;
              replayed = st.replayed;
              now = whole.0.walking.going.now;
              leads = attempt-is st.led.state entry.number entry.steps entry.fresh (meaning.stage code machine).term calm.idle term ∙ leads;
              good = whole.0.walking.machine;
              member = whole.0.walking.going.member;
              wants = whole.2;
              told = told;
              each = each;
            }

            pub noted-so : is_confirmed entry.kind next ≡ true → HasMade meaning code entries entry place
            noted-so so = (
              has-low,
              record {
                led = st.led;
                replayed = behind-journal (meaning.program code) entries entry st.led st.replayed ∙ tells ∙ ap (λ (b : Bool). note_where b st.led) so;
                shows = st.shows;
                types = st.types;
                typed = st.typed;
                forms = st.forms;
                below = λ most told. st.below most (all-front (λ (e : Entry). All (λ l. l < most) e.fresh) entries (entry ∷ []) told);
              },
            )

            pub noted-not : is_confirmed entry.kind next ≡ false → FailsBy (meaning.program code) entries entry (reason.Stops entry.steps next)
            noted-not wrong =
                let least : entry.steps ≤ entry.steps = omega arith in
                fails (reason.Stops entry.steps next) has-low (none-there (tells ∙ ap (λ (b : Bool). note_where b st.led) wrong))
                (on-side (reason.Stops entry.steps next)
                (stops-met meaning code sound st.led.state entry.number entry.fresh place.cells later m (side_at entry.number st.led.state) entry.steps whole.0 entry.steps least entry.steps (sym whole.0.counted) next whole.2))
