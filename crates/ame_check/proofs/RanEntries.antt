-- A `Ran` entry, by what its call finds.
use Rattle.std.proofs.Common.{◌≡◌, ℕ, ◌<◌, ◌≤◌, ◌++◌, ◌∷◌, [], ℤ, true, false, List, Option, Some, None, refl, sym, ap, ◌∙◌, subst, is_some, arith}
use Rattle.ame_term.specs.Frame.{Side}
use Rattle.ame_term.specs.Maps.{at, put}
use Rattle.ame_term.specs.State.{State}
use Rattle.ame_journal.specs.Replayed.{is_inside}
use Rattle.ame_journal.specs.Replay.{replay, or_else}
use Rattle.ame_journal.specs.declared.entry.Entry.{Entry}
use Rattle.ame_journal.specs.declared.entry.EntryKind.{EntryKind}
use Rattle.ame_journal.proofs.ReachedLemmas.{IsCalm, calm-replayed}
use Rattle.ame_machine.specs.Meaning.{Meaning}
use Rattle.ame_machine.specs.MachineView.{MachineView, starting_at}
use Rattle.ame_machine.specs.Sound.{IsAccepted, IsSoundStage}
use Rattle.ame_machine.specs.Move.{settled_stage}
use Rattle.ame_machine.specs.declared.wants.Wants.{Wants}
use Rattle.ame_machine.specs.declared.wants.Wants.TheVariants as wants
use Rattle.ame_check.specs.Shows.{ReplayView, ShowsMember, StandsForEntries}
use Rattle.ame_check.specs.Walked.{IsAtStep, RunsTo, StopsRun}
use Rattle.ame_check.specs.Entries.{BeginsSteps, MeetsNoTall, HasMade, StopsAt}
use Rattle.ame_check.specs.Walk.{StaysLow}
use Rattle.ame_check.proofs.NoteLemmas.{meets-unbegun, meets-nobody, meets-low}
use Rattle.ame_check.proofs.WantLemmas.{walked-low}
use Rattle.ame_check.specs.Reasons.{MeetsReason, IsMet, IsShut, entry_side}
use Rattle.ame_check.specs.declared.reason.Reason.{Reason}
use Rattle.ame_check.specs.declared.reason.Reason.TheVariants as reason
use Rattle.ame_check.specs.declared.entry_error.EntryError.{EntryError}
use Rattle.ame_check.specs.declared.entry_error.EntryError.TheVariants as error
use Rattle.ame_check.proofs.ReasonLemmas.{FailsBy, met-on, stops-met}
use Rattle.ame_check.proofs.StartLemmas.{its-term, its-rest, its-machine, is-early, walk-begins}
use Rattle.ame_check.proofs.RanLemmas.{AdoptsAll, undefined-there, ran-undefined, ran-neither, ran-ended, ran-left, ran-answered, ran-inside, ran-absent, protected-tall}
use Rattle.ame_check.specs.declared.stored.Stored.{Stored}

module _ {C V M : Type 0} (meaning : Meaning C V M) (code : C) (accepted : IsAccepted (meaning.signature code) (meaning.program code))
    (sound : (m : M) → meaning.is_machine code m → IsSoundStage (meaning.stage code m)) (entry : Entry) (kind : entry.kind ≡ EntryKind.Ran)
    (place : ReplayView V M) (entries : List Entry) (st : StandsForEntries meaning code entries place) where
  calm : IsCalm st.led
  calm = calm-replayed (meaning.program code) entries st.led st.replayed

  answer-of : (o : Option ℤ) → is_some o ≡ true → (n : ℤ) × (o ≡ Some n)
  answer-of None e = cc
  answer-of (Some n) e = (n, refl)

  fails : (why : Reason) → MeetsNoTall (meaning.program code) entries entry → replay (meaning.program code) (entries ++ entry ∷ []) ≡ None → IsMet st.led entry why
      → FailsBy (meaning.program code) entries entry why
  fails why low none met = (low, none, (st.led, st.replayed, met))

  begins-as : (P : EntryKind → Type 0) → P entry.kind → P EntryKind.Ran
  begins-as P is = subst P kind is

  -- its steps are begun outside alone, without an answer
  begun-so : BeginsSteps entry.kind (is_inside st.led entry.number) entry.answer → (is_inside st.led entry.number ≡ false) × (entry.answer ≡ None)
  begun-so = begins-as (λ (z : EntryKind). BeginsSteps z (is_inside st.led entry.number) entry.answer)

  on-side : (why : Reason) → MeetsReason Side.Protected st.led.state entry.number entry.fresh entry.steps why → IsMet st.led entry why
  on-side = met-on st.led entry Side.Protected (ap (λ (z : EntryKind). entry_side z entry.number st.led.state) (sym kind))

  pub has-answer : is_some entry.answer ≡ true → FailsBy (meaning.program code) entries entry reason.Answered
  has-answer e =
      let a = answer-of entry.answer e in
      fails reason.Answered
      (meets-unbegun (meaning.program code) entries entry st.led st.replayed (λ begins. let clash : Some a.0 ≡ None = sym a.1 ∙ (begun-so begins).1 in cc)) (undefined-there meaning code entries entry place st.led st.replayed st.shows calm (ran-answered st.led entry a.0 kind a.1)) e

  pub has-none : None ≡ at place.members entry.number → FailsBy (meaning.program code) entries entry reason.NoMember
  has-none none =
      let absent = subst (λ (o : Option M). ShowsMember meaning code (is_inside st.led entry.number) o (at st.led.state.members entry.number)) (sym none) (st.shows.members entry.number) in
      fails reason.NoMember (meets-nobody (meaning.program code) entries entry st.led st.replayed calm.idle absent) (undefined-there meaning code entries entry place st.led st.replayed st.shows calm (ran-absent st.led entry calm.idle kind absent)) absent

  module _ (machine : M) (found : Some machine ≡ at place.members entry.number) where
    term : at st.led.state.members entry.number ≡ Some (meaning.stage code machine).term
    term = its-term meaning code entries place st.led st.replayed st.shows entry.number machine found

    rest : meaning.stage code machine ≡ record (starting_at (meaning.stage code machine).term) { inside = is_inside st.led entry.number }
    rest = its-rest meaning code entries place st.led st.replayed st.shows entry.number machine found

    pub goes-on_inside : (meaning.stage code machine).inside ≡ true → FailsBy (meaning.program code) entries entry reason.Inside
    goes-on_inside flag =
        let inside = sym (ap (λ (z : MachineView). z.inside) rest) ∙ flag in
        fails reason.Inside
        (meets-unbegun (meaning.program code) entries entry st.led st.replayed (λ begins. let clash : true ≡ false = sym inside ∙ (begun-so begins).0 in cc)) (undefined-there meaning code entries entry place st.led st.replayed st.shows calm (ran-inside st.led entry kind inside)) (subst (λ (z : EntryKind). IsShut z st.led entry.number) (sym kind) inside)

    module _ (flag : (meaning.stage code machine).inside ≡ false) (overlay : List (ℕ × Stored V)) (empty : overlay ≡ []) where
      pub begins-ran : IsAtStep meaning code st.led.state entry.number entry.fresh place.cells overlay machine Side.Protected 0
      begins-ran =
          walk-begins meaning code entries place st.led st.replayed st.shows entry.number machine found st.types st.typed st.forms machine overlay entry.fresh false
          (its-machine meaning code entries place st.led st.replayed st.shows entry.number machine found) empty refl (ap (λ (z : MachineView). z.prints) rest) (ap (λ (z : MachineView). z.spawns) rest)
          (ap (λ (z : MachineView). z.fresh) rest) (ap (λ (z : MachineView). z.steps) rest) flag (λ e. absurd (cc))

      outside : is_inside st.led entry.number ≡ false
      outside = sym (ap (λ (z : MachineView). z.inside) rest) ∙ flag

      module _ (quiet : entry.answer ≡ None) where
        early : entry.number < st.led.state.next
        early = is-early meaning code entries place st.led st.replayed st.shows entry.number machine found

        low-so : StaysLow Side.Protected entry.number entry.steps entry.fresh st.led.state → MeetsNoTall (meaning.program code) entries entry
        low-so low =
            meets-low (meaning.program code) entries entry st.led st.replayed (meaning.stage code machine).term calm.idle term
            (subst (λ (z : EntryKind). StaysLow (entry_side z entry.number st.led.state) entry.number entry.steps entry.fresh st.led.state) (sym kind) low)

        stopped-so : (e : EntryError) → StopsRun Side.Protected entry.number entry.steps entry.fresh st.led.state e → StopsAt (meaning.program code) entries entry e
        stopped-so (error.Undefined why) none =
            fails why (low-so none.0)
            (ran-undefined meaning code entries entry place st.led st.replayed st.shows calm machine found term early st.below kind quiet outside none.1) (on-side why none.2)
        stopped-so error.Tall tall = (
          st.led,
          st.replayed,
          protected-tall st.led entry (meaning.stage code machine).term calm.idle term
              (subst (λ (z : EntryKind). BeginsSteps z (is_inside st.led entry.number) entry.answer) (sym kind) (outside, quiet))
              (ap (λ (z : EntryKind). entry_side z entry.number st.led.state) kind) tall,
        )
        stopped-so error.NoMemory none = none

        pub ran-stopped : (e : EntryError)
            → ((s : State) (i : ℕ) (side : Side) (n : ℕ) → IsAtStep meaning code s i entry.fresh place.cells overlay machine side n → StopsRun side i entry.steps entry.fresh s e)
            → StopsAt (meaning.program code) entries entry e
        ran-stopped e stops = stopped-so e (stops st.led.state entry.number Side.Protected 0 begins-ran)

        module _ (later : List (ℕ × Stored V)) (m : M) (want : Wants)
            (runs : (s : State) (i : ℕ) (side : Side) (n : ℕ) → IsAtStep meaning code s i entry.fresh place.cells overlay machine side n
            → RunsTo meaning code s i entry.fresh place.cells later m side entry.steps want) where
          whole : RunsTo meaning code st.led.state entry.number entry.fresh place.cells later m Side.Protected entry.steps want
          whole = runs st.led.state entry.number Side.Protected 0 begins-ran

          pub has-low : MeetsNoTall (meaning.program code) entries entry
          has-low = low-so (walked-low meaning code sound st.led.state entry.number entry.fresh place.cells later m Side.Protected entry.steps whole.0)

          pub has-other-want : (want ≡ wants.Done → ⊥) → (want ≡ wants.Leave → ⊥) → FailsBy (meaning.program code) entries entry (reason.Stops entry.steps want)
          has-other-want done left =
              let least : entry.steps ≤ entry.steps = omega arith in
              fails (reason.Stops entry.steps want) has-low
              (ran-neither meaning code entries entry place st.led st.replayed st.shows calm machine found term early st.below kind quiet outside later m whole.0 whole.1 (sound m whole.0.walking.machine) want whole.2 done left)
              (on-side (reason.Stops entry.steps want)
              (stops-met meaning code sound st.led.state entry.number entry.fresh place.cells later m Side.Protected entry.steps whole.0 entry.steps least entry.steps (sym whole.0.counted) want whole.2))

          module _ (machines : List (ℕ × M)) (gone : at machines entry.number ≡ None) (others : (k : ℕ) → (k ≡ entry.number → ⊥) → at machines k ≡ at place.members k)
              (cells : List (ℕ × Stored V)) (merged : (l : ℕ) → at cells l ≡ or_else (at later l) (at place.cells l)) (output : List ℤ) (printed : output ≡ place.output ++ (meaning.stage code m).prints)
              (kept : M) (number : ℕ) (last : List (ℕ × M)) (adopts : AdoptsAll meaning code machines place.next m last number kept) where
            pub ended-so : want ≡ wants.Done
                → HasMade meaning code entries entry (record { cells = cells; members = last; output = output; next = number })
            ended-so done = (
              has-low,
              ran-ended meaning code entries entry place st.led st.replayed st.shows calm machine found term early st.below kind quiet outside later m whole.0 whole.1 (sound m whole.0.walking.machine)
                  machines gone others cells merged output printed kept number last adopts (whole.2 ∙ ap (λ (w : Wants). Some w) done),
            )

            pub left-so : want ≡ wants.Leave → (back : M) → (meaning.is_machine code kept → meaning.is_machine code back) → meaning.stage code back ≡ settled_stage (meaning.stage code kept)
                → (members : List (ℕ × M)) → members ≡ put last entry.number back
                → HasMade meaning code entries entry (record { cells = cells; members = members; output = output; next = number })
            left-so left back good settled members put_back = (
              has-low,
              ran-left meaning code entries entry place st.led st.replayed st.shows calm machine found term early st.below kind quiet outside later m whole.0 whole.1 (sound m whole.0.walking.machine)
                  machines gone others cells merged output printed kept number last adopts (whole.2 ∙ ap (λ (w : Wants). Some w) left) back good settled members put_back,
            )

-- no answer
pub quiet-of : (o : Option ℤ) → is_some o ≡ false → o ≡ None
quiet-of None e = refl
quiet-of (Some n) e = cc

-- an answer
pub told-of : (o : Option ℤ) → is_some o ≡ true → (n : ℤ) × (o ≡ Some n)
told-of None e = cc
told-of (Some n) e = (n, refl)
