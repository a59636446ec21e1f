-- A `Free` entry, by what its call finds.
use Rattle.std.proofs.Common.{◌≡◌, ℕ, ◌+◌, ◌<◌, ◌≤◌, ◌++◌, ◌∷◌, [], inl, inr, ℤ, Bool, true, false, List, Option, Some, None, refl, sym, ap, ◌∙◌, subst, arith}
use Rattle.ame_term.specs.Tree.{Tree}
use Rattle.ame_term.specs.Frame.{Side, side_told}
use Rattle.ame_term.specs.Context.{focus}
use Rattle.ame_term.specs.Maps.{at, put}
use Rattle.ame_term.specs.State.{State, at_unprotected}
use Rattle.ame_journal.specs.Replayed.{is_inside, has_such, side_at, leaving}
use Rattle.ame_journal.specs.Replay.{replay, replay_entry, or_else}
use Rattle.ame_journal.specs.declared.entry.Entry.{Entry}
use Rattle.ame_journal.specs.declared.entry.EntryKind.{EntryKind}
use Rattle.ame_journal.proofs.ReachedLemmas.{IsCalm, calm-replayed}
use Rattle.ame_machine.specs.Meaning.{Meaning}
use Rattle.ame_machine.specs.MachineView.{MachineView, starting_at}
use Rattle.ame_machine.specs.Sound.{IsAccepted}
use Rattle.ame_machine.specs.Move.{settled_stage}
use Rattle.ame_check.specs.Shows.{ReplayView, ShowsMember, ShowsMembers, StandsForEntries, IsResting}
use Rattle.ame_check.specs.Walk.{ComesToTall, StaysLow}
use Rattle.ame_check.specs.Walked.{IsAtStep}
use Rattle.ame_check.specs.Visit.{HasCome, Stays, Closes, HasVisited, StopsVisit, VisitMeets}
use Rattle.ame_check.specs.Reasons.{IsMet, entry_side}
use Rattle.ame_check.specs.declared.reason.Reason.{Reason}
use Rattle.ame_check.specs.declared.reason.Reason.TheVariants as reason
use Rattle.ame_check.specs.Entries.{BeginsSteps, MeetsNoTall, HasMade, StopsAt}
use Rattle.ame_check.specs.declared.entry_error.EntryError.{EntryError}
use Rattle.ame_check.specs.declared.entry_error.EntryError.TheVariants as error
use Rattle.ame_check.proofs.EntryLemmas.{behind-journal}
use Rattle.ame_check.proofs.FormLemmas.{forms-merged, below-merged}
use Rattle.ame_check.proofs.FreeLemmas.{free-outside, free-empty, free-stays, free-closes, free-neither}
use Rattle.ame_check.proofs.MadeLemmas.{rest_of, shows-rest, outside-next, shows-store, shows-output, shows-next, shows-back, leaving-other, leaving-own}
use Rattle.ame_check.proofs.NoteLemmas.{side-tall, meets-unbegun, meets-nobody, meets-low}
use Rattle.ame_check.proofs.RanLemmas.{AdoptsAll, undefined-there}
use Rattle.ame_check.proofs.ReasonLemmas.{FailsBy, visit-met}
use Rattle.ame_check.proofs.StartLemmas.{its-term, its-rest, its-machine, is-early, walk-begins}
use Rattle.ame_check.specs.declared.stored.Stored.{Stored}

module _ {C V M : Type 0} (meaning : Meaning C V M) (code : C) (accepted : IsAccepted (meaning.signature code) (meaning.program code)) (entry : Entry) (kind : entry.kind ≡ EntryKind.Free)
    (place : ReplayView V M) (entries : List Entry) (st : StandsForEntries meaning code entries place) where
  calm : IsCalm st.led
  calm = calm-replayed (meaning.program code) entries st.led st.replayed

  none-there : replay_entry st.led entry ≡ None → replay (meaning.program code) (entries ++ entry ∷ []) ≡ None
  none-there = undefined-there meaning code entries entry place st.led st.replayed st.shows calm

  fails : (why : Reason) → MeetsNoTall (meaning.program code) entries entry → replay (meaning.program code) (entries ++ entry ∷ []) ≡ None → IsMet st.led entry why
      → FailsBy (meaning.program code) entries entry why
  fails why low none met = (low, none, (st.led, st.replayed, met))

  -- its steps are begun inside alone
  begun-so : BeginsSteps entry.kind (is_inside st.led entry.number) entry.answer → is_inside st.led entry.number ≡ true
  begun-so = subst (λ (z : EntryKind). BeginsSteps z (is_inside st.led entry.number) entry.answer) kind

  pub visits-none : entry.steps ≡ 0 → FailsBy (meaning.program code) entries entry reason.NoSteps
  visits-none none = fails reason.NoSteps
      (λ r e tall. let under : tall.made < entry.steps = tall.below in absurd (omega (arith, under, none))) (none-there (free-empty st.led entry kind none)) (kind, none)

  absent-outside : at st.led.state.members entry.number ≡ None → (b : Bool) → is_inside st.led entry.number ≡ b → b ≡ false
  absent-outside none true inside =
      let stands = calm.standing entry.number inside in
      let clash : false ≡ true = sym (ap (has_such (λ (t : Tree). at_unprotected (focus t))) none) ∙ stands in
      cc
  absent-outside none false inside = refl

  pub visits-nobody : None ≡ at place.members entry.number → FailsBy (meaning.program code) entries entry reason.NoMember
  visits-nobody none =
      let absent = subst (λ (o : Option M). ShowsMember meaning code (is_inside st.led entry.number) o (at st.led.state.members entry.number)) (sym none) (st.shows.members entry.number) in
      fails reason.NoMember (meets-nobody (meaning.program code) entries entry st.led st.replayed calm.idle absent) (none-there (free-outside st.led entry kind (absent-outside absent (is_inside st.led entry.number) refl))) absent

  module _ (machine : M) (found : Some machine ≡ at place.members entry.number) where
    term : at st.led.state.members entry.number ≡ Some (meaning.stage code machine).term
    term = its-term meaning code entries place st.led st.replayed st.shows entry.number machine found

    rest : meaning.stage code machine ≡ record (starting_at (meaning.stage code machine).term) { inside = is_inside st.led entry.number }
    rest = its-rest meaning code entries place st.led st.replayed st.shows entry.number machine found

    pub visits-outside : (meaning.stage code machine).inside ≡ false → FailsBy (meaning.program code) entries entry reason.Outside
    visits-outside flag =
        let outside = sym (ap (λ (z : MachineView). z.inside) rest) ∙ flag in
        fails reason.Outside
        (meets-unbegun (meaning.program code) entries entry st.led st.replayed (λ begins. let clash : true ≡ false = sym (begun-so begins) ∙ outside in cc)) (none-there (free-outside st.led entry kind outside)) (kind, outside)

    module _ (flag : (meaning.stage code machine).inside ≡ true) (overlay : List (ℕ × Stored V)) (empty : overlay ≡ []) where
      inside : is_inside st.led entry.number ≡ true
      inside = sym (ap (λ (z : MachineView). z.inside) rest) ∙ flag

      pub begins-free : IsAtStep meaning code st.led.state entry.number entry.fresh place.cells overlay machine Side.Unprotected 0
      begins-free =
          walk-begins meaning code entries place st.led st.replayed st.shows entry.number machine found st.types st.typed st.forms machine overlay entry.fresh true
          (its-machine meaning code entries place st.led st.replayed st.shows entry.number machine found) empty refl (ap (λ (z : MachineView). z.prints) rest) (ap (λ (z : MachineView). z.spawns) rest)
          (ap (λ (z : MachineView). z.fresh) rest) (ap (λ (z : MachineView). z.steps) rest) flag (λ e. calm.standing entry.number inside)

      early : entry.number < st.led.state.next
      early = is-early meaning code entries place st.led st.replayed st.shows entry.number machine found

      module _ (n : ℕ) (count : n + 1 ≡ entry.steps) where
        low-so : StaysLow Side.Unprotected entry.number (n + 1) entry.fresh st.led.state → MeetsNoTall (meaning.program code) entries entry
        low-so low =
            meets-low (meaning.program code) entries entry st.led st.replayed (meaning.stage code machine).term calm.idle term
            (subst (λ (z : EntryKind). StaysLow (entry_side z entry.number st.led.state) entry.number entry.steps entry.fresh st.led.state) (sym kind)
            (subst (λ (k : ℕ). StaysLow Side.Unprotected entry.number k entry.fresh st.led.state) count low))

        stopped-so : (e : EntryError) → StopsVisit st.led.state entry.number entry.fresh entry.answer n e → StopsAt (meaning.program code) entries entry e
        stopped-so (error.Undefined why) none =
            fails why (low-so none.0) (none-there (free-neither st.led entry calm.idle kind inside n count none.1 none.2))
            (visit-met st.led entry kind why (subst (λ (k : ℕ). VisitMeets st.led.state entry.number entry.fresh entry.answer k why) count none.3))
        stopped-so error.Tall tall =
            let on : side_at entry.number st.led.state ≡ Side.Unprotected = ap side_told (calm.standing entry.number inside) in (
              st.led,
              st.replayed,
              side-tall st.led entry (meaning.stage code machine).term calm.idle term
                  (subst (λ (z : EntryKind). BeginsSteps z (is_inside st.led entry.number) entry.answer) (sym kind) inside)
                  (on ∙ sym (ap (λ (z : EntryKind). entry_side z entry.number st.led.state) kind))
                  (subst (λ (z : Side). ComesToTall z entry.number entry.steps entry.fresh st.led.state) (sym on)
                  (subst (λ (k : ℕ). ComesToTall Side.Unprotected entry.number k entry.fresh st.led.state) count tall)),
            )
        stopped-so error.NoMemory none = none

        pub visit-stopped : (e : EntryError)
            → ((s : State) (i : ℕ) (n : ℕ) → n + 1 ≡ entry.steps → IsAtStep meaning code s i entry.fresh place.cells overlay machine Side.Unprotected 0
            → StopsVisit s i entry.fresh entry.answer n e)
            → StopsAt (meaning.program code) entries entry e
        visit-stopped e stops = stopped-so e (stops st.led.state entry.number n count begins-free)

        module _ (later : List (ℕ × Stored V)) (m : M)
            (visits : (s : State) (i : ℕ) (n : ℕ) → n + 1 ≡ entry.steps → IsAtStep meaning code s i entry.fresh place.cells overlay machine Side.Unprotected 0
            → HasVisited meaning code s i entry.fresh entry.answer place.cells later m n)
            (machines : List (ℕ × M)) (gone : at machines entry.number ≡ None) (others : (k : ℕ) → (k ≡ entry.number → ⊥) → at machines k ≡ at place.members k)
            (cells : List (ℕ × Stored V)) (merged : (l : ℕ) → at cells l ≡ or_else (at later l) (at place.cells l)) (output : List ℤ) (printed : output ≡ place.output ++ (meaning.stage code m).prints)
            (kept : M) (number : ℕ) (last : List (ℕ × M)) (adopts : AdoptsAll meaning code machines place.next m last number kept)
            (back : M) (good : meaning.is_machine code kept → meaning.is_machine code back) (settled : meaning.stage code back ≡ settled_stage (meaning.stage code kept))
            (members : List (ℕ × M)) (put_back : members ≡ put last entry.number back) where
          -- the state after the entry, whose members inside are these
          after-visit : (b : Bool) (reached : Option State) (h : HasCome meaning code st.led.state entry.number entry.fresh place.cells later m b reached) (in_it : List ℕ)
              → is_inside (record { state = h.now; inside = in_it }) entry.number ≡ b
              → ((k : ℕ) → (k ≡ entry.number → ⊥) → is_inside (record { state = h.now; inside = in_it }) k ≡ is_inside st.led k)
              → replay_entry st.led entry ≡ Some (record { state = h.now; inside = in_it })
              → StandsForEntries meaning code (entries ++ entry ∷ []) (record { cells = cells; members = members; output = output; next = number })
          after-visit b reached h in_it own flags leads =
              let i = entry.number in
              let u = h.now in
              let in_after = is_inside (record { state = h.now; inside = in_it }) in
              let adopted = adopts (rest_of meaning code st.led i place calm early st.shows machines gone others in_after flags) in_after h.machine
              (shows-rest meaning code st.led i place calm early st.shows machines gone others in_after flags)
              (λ k far. outside-next meaning code st.led i place calm early st.shows machines gone others in_after flags k (subst (λ (n : ℕ). n ≤ k) st.shows.next far)) in
              let is : meaning.stage code back ≡ settled_stage (record (meaning.stage code m) { spawns = [] }) = settled ∙ ap settled_stage adopted.stays in
              let resting : IsResting (in_after i) (meaning.stage code back) =
              is ∙ ap (λ (z : Bool). record (starting_at (meaning.stage code m).term) { inside = z }) (h.settles ∙ sym own)
              ∙ ap (λ (z : MachineView). record (starting_at z.term) { inside = in_after i }) (sym is) in
              record {
                led = record { state = h.now; inside = in_it };
                replayed = behind-journal (meaning.program code) entries entry st.led st.replayed ∙ leads;
                types = h.types;
                typed = h.typed;
                forms = forms-merged (meaning.signature code) h.types later place.cells cells h.forms_set h.forms merged;
                below = below-merged entries entry later place.cells cells h.below st.below merged;
                shows =
                    let view : ReplayView V M = record { cells = cells; members = members; output = output; next = number } in
                    record {
                      store = shows-store meaning code st.led i place calm early st.shows machines gone others in_after flags h.sets (meaning.stage code m) h.now u h.after_run refl refl refl
                          (λ k apart. refl) later h.laid view merged printed kept number last adopted;
                      members =
                          subst (λ (ms : List (ℕ × M)). ShowsMembers meaning code in_after ms u.members) (sym put_back)
                          (shows-back meaning code st.led i place calm early st.shows machines gone others in_after flags h.sets (meaning.stage code m) h.now u h.after_run refl refl refl
                          (λ k apart. refl) later h.laid view merged printed kept number last adopted back (good adopted.good)
                          (h.member ∙ ap (λ (z : MachineView). Some z.term) (sym is)) resting);
                      output = shows-output meaning code st.led i place calm early st.shows machines gone others in_after flags h.sets (meaning.stage code m) h.now u h.after_run refl refl refl
                          (λ k apart. refl) later h.laid view merged printed kept number last adopted;
                      next = shows-next meaning code st.led i place calm early st.shows machines gone others in_after flags h.sets (meaning.stage code m) h.now u h.after_run refl refl refl
                          (λ k apart. refl) later h.laid view merged printed kept number last adopted;
                    };
              }

          visit-stays : Stays meaning code st.led.state entry.number entry.fresh entry.answer place.cells later m n
              → StandsForEntries meaning code (entries ++ entry ∷ []) (record { cells = cells; members = members; output = output; next = number })
          visit-stays h =
              after-visit true _ h st.led.inside inside (λ k apart. refl) (free-stays st.led entry calm.idle kind inside n count h.now h.led)

          visit-closes : Closes meaning code st.led.state entry.number entry.fresh entry.answer place.cells later m n
              → StandsForEntries meaning code (entries ++ entry ∷ []) (record { cells = cells; members = members; output = output; next = number })
          visit-closes h =
              after-visit false _ h.1 (leaving st.led entry.number h.1.now).inside (leaving-own st.led entry.number h.1.now) (λ k apart. leaving-other st.led entry.number k h.1.now apart)
              (free-closes st.led entry calm.idle kind inside n count h.1.now h.0 h.1.led)

          visited : HasVisited meaning code st.led.state entry.number entry.fresh entry.answer place.cells later m n
          visited = visits st.led.state entry.number n count begins-free

          pub visit-made : HasMade meaning code entries entry (record { cells = cells; members = members; output = output; next = number })
          visit-made = (
            low-so visited.0,
            elim visited.1 [
              | inl h ↦ visit-stays h
              | inr h ↦ visit-closes h
            ],
          )
