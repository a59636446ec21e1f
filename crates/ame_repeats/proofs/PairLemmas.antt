-- Two outcomes of one class, from one state and one machine, are one and lead to one state.
use Rattle.std.proofs.Common.{◌≡◌, ℕ, ◌==◌, ◌⊎◌, inl, inr, ℤ, false, List, Option, Some, None, IsTrue, arith, refl, sym, ap, ◌∙◌, subst}
use Rattle.ame_term.specs.Tree.{Val}
use Rattle.ame_term.specs.Frame.{Side}
use Rattle.ame_store.specs.declared.cell.Cell.{Cell}
use Rattle.ame_store.specs.Cells.{IsFree, IsOwnedBy}
use Rattle.ame_rows.specs.declared.notes.ReadNote.{ReadNote}
use Rattle.ame_rows.specs.declared.notes.Bad.{Bad}
use Rattle.ame_rows.specs.Valid.{IsValid, IsFirstBad}
use Rattle.ame_rows.specs.MemoryView.{Log, row_at}
use Rattle.ame_device.specs.declared.told.Told.{Told}
use Rattle.ame_machine.specs.declared.wants.Wants.{Wants}
use Rattle.ame_machine.specs.declared.wants.Wants.TheVariants as wants
use Rattle.ame_machine.specs.MachineView.{MachineView, place_shown, without_footprint, with_answer}
use Rattle.ame_machine.specs.Meaning.{Meaning}
use Rattle.ame_machine.specs.Run.Local.{LocalState}
use Rattle.ame_protocol.specs.declared.types.Attempt.{Attempt}
use Rattle.ame_protocol.specs.declared.types.Task.{Task}
use Rattle.ame_protocol.specs.Engine.Parts.{Parts, heap_in, task_at, attempt_of, working}
use Rattle.ame_protocol.specs.Row.SeatRun.{AreValid}
use Rattle.ame_protocol.specs.Visits.Stops.{MayBeNoted}
use Rattle.ame_protocol.specs.Event.After.{after}
use Rattle.ame_protocol.specs.Event.Event.{Event, Find, Reverse}
use Rattle.ame_protocol.specs.Event.May.{May}
use Rattle.ame_protocol.specs.Event.EngineState.{EngineState, cell}
use Rattle.ame_protocol.proofs.Engine.ShownMemoryLemmas.{row-shown}
use Rattle.ame_engine.specs.declared.pick.Pick.{Pick}
use Rattle.ame_engine.specs.Begins.{pick_of, stop_met}
use Rattle.ame_engine.specs.Committing.{owned_places}
use Rattle.ame_engine.specs.Core.{Core}
use Rattle.ame_engine.specs.Makes.{state_of}
use Rattle.ame_engine.specs.Seen.{parts_of}
use Rattle.ame_engine.specs.Visiting.{VisitsTo}
use Rattle.ame_engine.proofs.CheckLemmas.{shown-valid, valid-shown}
use Rattle.ame_shell.specs.declared.work.Outcome.{Outcome}
use Rattle.ame_shell.specs.Asked.{AreAllValid}
use Rattle.ame_shell.specs.Outcomes.{IsOutcomeOf}
use Rattle.ame_repeats.specs.Answers.{answer_of}
use Rattle.ame_repeats.proofs.BadLemmas.{bad-shown, one-bad}
use Rattle.ame_repeats.proofs.VisitsLemmas.{false-apart, one-visit}
use Rattle.ame_repeats.proofs.ClassLemmas.{its-class, is_lost}

-- two events at one state
pub record AreOne (s : EngineState) (o p : Outcome) (e f : Event) : Type 0 where
  pub outcome : o ≡ p
  pub leads : after e s ≡ after f s
  pub answer : answer_of e ≡ answer_of f

-- Facts at one state

running-one : (t : Task) (a b : Attempt) → t ≡ Task.Running a → t ≡ Task.Running b → a ≡ b
running-one t a b x y = let both : Task.Running a ≡ Task.Running b = sym x ∙ y in cc

free-one : (t : Task) (a b : Attempt) → t ≡ Task.Free a → t ≡ Task.Free b → a ≡ b
free-one t a b x y = let both : Task.Free a ≡ Task.Free b = sym x ∙ y in cc

some-one : (t : Option Attempt) (a b : Attempt) → t ≡ Some a → t ≡ Some b → a ≡ b
some-one t a b x y = let both : Some a ≡ Some b = sym x ∙ y in cc

owner-one : (o : Option ℕ) (a b : ℕ) → o ≡ Some a → o ≡ Some b → a ≡ b
owner-one o a b x y = let both : Some a ≡ Some b = sym x ∙ y in cc

hand-one : (h : Option MachineView) (s t : MachineView) → h ≡ Some s → h ≡ Some t → s ≡ t
hand-one h s t x y = let both : Some s ≡ Some t = sym x ∙ y in cc

want-one : (s t : MachineView) (w x : Wants) → s ≡ t → s.want ≡ Some w → t.want ≡ Some x → w ≡ x
want-one s t w x same i j = let both : Some w ≡ Some x = sym i ∙ ap (λ (m : MachineView). m.want) same ∙ j in cc

noted-valid : (parts : Parts) (seat : ℕ) (t : Task) (side : Side) (i n : ℕ) (p : LocalState) (a : Attempt) → t ≡ Task.Running a → MayBeNoted parts seat t side i n p
    → AreValid (heap_in parts) seat (row_at parts.memory.rows seat).reads
noted-valid parts seat _ _ _ _ _ a is (MayBeNoted.running attempt n p used valid) = valid
noted-valid parts seat _ _ _ _ _ a is (MayBeNoted.free attempt n p steps) = absurd (let clash : Task.Free attempt ≡ Task.Running a = is in cc)

-- a write is answered in one way
not-met : (seat owner : ℕ) (c : Cell Val) → (IsFree c ⊎ IsOwnedBy seat c) → IsOwnedBy owner c → (owner ≡ seat → ⊥) → ⊥
not-met seat owner c (inl free) own apart = let clash : None ≡ Some owner = sym free ∙ own in cc
not-met seat owner c (inr mine) own apart = apart (owner-one c.owner owner seat own mine)

module _ {C V M : Type 0} (meaning : Meaning C V M) (seat : ℕ) (hand : Option MachineView) (old new other next : Core C V M) (b1 a1 b2 a2 : List Told)
    (same : state_of meaning old ≡ state_of meaning other) where
  abbrev S : EngineState
  S = state_of meaning old

  abbrev One : Outcome → Outcome → Event → Event → Type 0
  One o p e f = AreOne S o p e f

  -- reads that are valid, whichever core shows the state
  valid-from : (one two : Core C V M) → state_of meaning one ≡ state_of meaning two → AreAllValid one seat → AreAllValid two seat
  valid-from one two is valid =
      let cells = (state_of meaning one).parts.memory.cells in
      let shown : IsValid cells seat (row_at one.memory.rows seat).reads = valid-shown (meaning.value_of one.code) one.memory.cells seat (row_at one.memory.rows seat).reads valid in
      let there : IsValid cells seat (row_at (state_of meaning one).parts.memory.rows seat).reads =
      subst (IsValid cells seat) (sym (ap (λ (n : Log Val). n.reads) (row-shown (meaning.value_of one.code) one.memory.rows seat))) shown in
      let moved : IsValid (state_of meaning two).parts.memory.cells seat (row_at (state_of meaning two).parts.memory.rows seat).reads =
      subst (λ (x : EngineState). IsValid x.parts.memory.cells seat (row_at x.parts.memory.rows seat).reads) is there in
      shown-valid (meaning.value_of two.code) two.memory.cells seat (row_at two.memory.rows seat).reads
      (subst (IsValid (state_of meaning two).parts.memory.cells seat) (ap (λ (n : Log Val). n.reads) (row-shown (meaning.value_of two.code) two.memory.rows seat)) moved)

  abbrev BadAt : (core : Core C V M) → Bad → Type 0
  BadAt core bad = IsFirstBad core.memory.cells seat (row_at core.memory.rows seat).reads bad

  bad-there : (core : Core C V M) (bad : Bad) → BadAt core bad
      → IsFirstBad (state_of meaning core).parts.memory.cells seat (row_at (state_of meaning core).parts.memory.rows seat).reads bad
  bad-there core bad h =
      subst (λ (reads : List ReadNote). IsFirstBad (state_of meaning core).parts.memory.cells seat reads bad)
      (sym (ap (λ (n : Log Val). n.reads) (row-shown (meaning.value_of core.code) core.memory.rows seat)))
      (bad-shown (meaning.value_of core.code) core.memory.cells seat (row_at core.memory.rows seat).reads bad h)

  bad-one : (bad worse : Bad) → BadAt old bad → BadAt other worse → bad ≡ worse
  bad-one bad worse h i =
      let there = subst (λ (x : EngineState). IsFirstBad x.parts.memory.cells seat (row_at x.parts.memory.rows seat).reads worse) (sym same) (bad-there other worse i) in
      one-bad S.parts.memory.cells seat (row_at S.parts.memory.rows seat).reads bad worse (bad-there old bad h) there

  -- places of a machine, up to their footprint
  place-one : (s t : MachineView) (answer given : Option ℤ) (p q : LocalState) → s ≡ t → answer ≡ given → without_footprint p ≡ with_answer answer (place_shown s)
      → without_footprint q ≡ with_answer given (place_shown t) → without_footprint p ≡ without_footprint q
  place-one s t answer given p q is agree x y =
      x ∙ ap (λ (m : MachineView). with_answer answer (place_shown m)) is ∙ ap (λ (o : Option ℤ). with_answer o (place_shown t)) agree ∙ sym y

  steps-one : (s t : MachineView) → s ≡ t → s.steps ≡ t.steps
  steps-one s t is = ap (λ (m : MachineView). m.steps) is

  woken-one : owned_places seat (parts_of meaning old).memory.cells ≡ owned_places seat (parts_of meaning other).memory.cells
  woken-one = ap (λ (x : EngineState). owned_places seat x.parts.memory.cells) same

  back-one : (a b : Attempt) (find seen : Find) → a ≡ b → find ≡ seen → after (Event.TurnBack seat a (Reverse.Stale find)) S ≡ after (Event.TurnBack seat b (Reverse.Stale seen)) S
  back-one a b find seen i j =
      ap (λ (x : Attempt). after (Event.TurnBack seat x (Reverse.Stale find)) S) i ∙ ap (λ (x : Find). after (Event.TurnBack seat b (Reverse.Stale x)) S) j

  abbrev Agree : Event → Event → Type 0
  Agree e f = (x y : ℤ) → answer_of e ≡ Some x → answer_of f ≡ Some y → x ≡ y

  pub pair : (o p : Outcome) (e f : Event) (x : IsOutcomeOf meaning seat hand old new b1 a1 o e) (y : IsOutcomeOf meaning seat hand other next b2 a2 p f) → May e S → May f S
      → old.stop ≡ None → is_lost o ≡ false → pick_of old ≡ pick_of other → Agree e f
      → IsTrue (its-class meaning seat hand old new b1 a1 o e x == its-class meaning seat hand other next b2 a2 p f y) → One o p e f
  pair _ _ _ _ (IsOutcomeOf.device_failed s device argument a visit wants fails) y m n going fine picks agree h = cc
  pair _ _ _ _ (IsOutcomeOf.lacked is) y m n going fine picks agree h = cc
  pair _ _ _ _ (IsOutcomeOf.began number met) (IsOutcomeOf.began number' met') m n going fine picks agree h =
      let both : Pick.Member number ≡ Pick.Member number' = sym met.meets ∙ picks ∙ met'.meets in
      let is : number ≡ number' = cc in
      record { outcome = refl; leads = ap (λ x. after (Event.Begin seat x) S) is; answer = refl }
  pair _ _ _ _ (IsOutcomeOf.stopped pick why met is stops) (IsOutcomeOf.stopped pick' why' met' is' stops') m n going fine picks agree h =
      let both : Some why ≡ Some why' = sym is ∙ ap stop_met (sym met.meets ∙ picks ∙ met'.meets) ∙ is' in
      let one : why ≡ why' = cc in
      record { outcome = refl; leads = ap (λ x. after (Event.Halt x) S) one; answer = refl }
  pair _ _ _ _ (IsOutcomeOf.read s l comes) (IsOutcomeOf.read s' l' comes') m n going fine picks agree h =
      let stage = hand-one hand s s' comes.runs.asks.goes.met comes'.runs.asks.goes.met in
      let both : wants.Read l ≡ wants.Read l' = want-one s s' (wants.Read l) (wants.Read l') stage comes.runs.asks.wants comes'.runs.asks.wants in
      let is : l ≡ l' = cc in
      record { outcome = refl; leads = ap (λ x. after (Event.Read seat x) S) is; answer = refl }
  pair _ _ _ _ (IsOutcomeOf.wrote s l v comes sets) (IsOutcomeOf.wrote s' l' v' comes' sets') m n going fine picks agree h =
      let stage = hand-one hand s s' comes.runs.asks.goes.met comes'.runs.asks.goes.met in
      let both : wants.Write l ≡ wants.Write l' = want-one s s' (wants.Write l) (wants.Write l') stage comes.runs.asks.wants comes'.runs.asks.wants in
      let is : l ≡ l' = cc in
      let value : v ≡ v' = cc in
      record { outcome = refl; leads = ap (λ x. after (Event.Write seat x v) S) is ∙ ap (λ x. after (Event.Write seat l' x) S) value; answer = refl }
  pair _ _ _ _ (IsOutcomeOf.wrote s l v comes sets) (IsOutcomeOf.met s' l' a' owner' comes') m n going fine picks agree h =
      let stage = hand-one hand s s' comes.runs.asks.goes.met comes'.runs.asks.goes.met in
      let both : wants.Write l ≡ wants.Write l' = want-one s s' (wants.Write l) (wants.Write l') stage comes.runs.asks.wants comes'.runs.asks.wants in
      let is : l ≡ l' = cc in
      absurd (not-met seat owner' (cell S l'.0) (subst (λ x. IsFree (cell S x.0) ⊎ IsOwnedBy seat (cell S x.0)) is m.2) n.2.0 n.2.1)
  pair _ _ _ _ (IsOutcomeOf.met s l a owner comes) (IsOutcomeOf.wrote s' l' v' comes' sets') m n going fine picks agree h =
      let stage = hand-one hand s s' comes.runs.asks.goes.met comes'.runs.asks.goes.met in
      let both : wants.Write l ≡ wants.Write l' = want-one s s' (wants.Write l) (wants.Write l') stage comes.runs.asks.wants comes'.runs.asks.wants in
      let is : l ≡ l' = cc in
      absurd (not-met seat owner (cell S l.0) (subst (λ x. IsFree (cell S x.0) ⊎ IsOwnedBy seat (cell S x.0)) (sym is) n.2) m.2.0 m.2.1)
  pair _ _ _ _ (IsOutcomeOf.met s l a owner comes) (IsOutcomeOf.met s' l' a' owner' comes') m n going fine picks agree h =
      let stage = hand-one hand s s' comes.runs.asks.goes.met comes'.runs.asks.goes.met in
      let both : wants.Write l ≡ wants.Write l' = want-one s s' (wants.Write l) (wants.Write l') stage comes.runs.asks.wants comes'.runs.asks.wants in
      let is : l ≡ l' = cc in
      let its : owner ≡ owner' = owner-one (cell S l.0).owner owner owner' m.2.0 (subst (λ x. IsOwnedBy owner' (cell S x.0)) (sym is) n.2.0) in
      let attempt : a ≡ a' = running-one (task_at S.parts.tasks seat) a a' m.1 n.1 in
      record {
        outcome = ap (λ x. Outcome.Met x) its;
        leads = ap (λ x. after (Event.TurnBack seat x (Reverse.Met l owner)) S) attempt ∙ ap (λ x. after (Event.TurnBack seat a' (Reverse.Met x owner)) S) is
            ∙ ap (λ x. after (Event.TurnBack seat a' (Reverse.Met l' x)) S) its;
        answer = refl;
      }
  pair _ _ _ _ (IsOutcomeOf.allocated s sort ty v comes sets) (IsOutcomeOf.allocated s' sort' ty' v' comes' sets') m n going fine picks agree h =
      let stage = hand-one hand s s' comes.runs.asks.goes.met comes'.runs.asks.goes.met in
      let both : wants.Alloc sort ty ≡ wants.Alloc sort' ty' = want-one s s' (wants.Alloc sort ty) (wants.Alloc sort' ty') stage comes.runs.asks.wants comes'.runs.asks.wants in
      let sorts : sort ≡ sort' = cc in
      let types : ty ≡ ty' = cc in
      let value : v ≡ v' = cc in
      record {
        outcome = refl;
        leads = ap (λ x. after (Event.Alloc seat x ty v) S) sorts ∙ ap (λ x. after (Event.Alloc seat sort' x v) S) types ∙ ap (λ x. after (Event.Alloc seat sort' ty' x) S) value;
        answer = refl;
      }
  pair _ _ _ _ (IsOutcomeOf.checked s a checks) (IsOutcomeOf.checked s' a' checks') m n going fine picks agree h =
      let stage = hand-one hand s s' checks.goes.met checks'.goes.met in
      let attempt : a ≡ a' = running-one (task_at S.parts.tasks seat) a a' m.1.1.task n.1.1.task in
      record { outcome = refl; leads = ap (λ x. after (Event.Check seat x s.steps) S) attempt ∙ ap (λ x. after (Event.Check seat a' x) S) (steps-one s s' stage); answer = refl }
  pair _ _ _ _ (IsOutcomeOf.checked s a checks) (IsOutcomeOf.found_invalid s' a' bad' checks' invalid') m n going fine picks agree h = absurd (n.2 m.2)
  pair _ _ _ _ (IsOutcomeOf.found_invalid s a bad checks invalid) (IsOutcomeOf.checked s' a' checks') m n going fine picks agree h = absurd (m.2 n.2)
  pair _ _ _ _ (IsOutcomeOf.found_invalid s a bad checks invalid) (IsOutcomeOf.found_invalid s' a' bad' checks' invalid') m n going fine picks agree h =
      let attempt : a ≡ a' = running-one (task_at S.parts.tasks seat) a a' m.1 n.1 in
      record { outcome = ap (λ x. Outcome.FoundInvalid x) (bad-one bad bad' invalid invalid'); leads = back-one a a' Find.Check Find.Check attempt refl; answer = refl }
  pair _ _ _ _ (IsOutcomeOf.ended s a place runs shows) (IsOutcomeOf.ended s' a' place' runs' shows') m n going fine picks agree h =
      let stage = hand-one hand s s' runs.asks.goes.met runs'.asks.goes.met in
      let attempt : a ≡ a' = running-one (task_at S.parts.tasks seat) a a' m.1.task n.1.task in
      let places = place-one s s' None None place place' stage refl shows shows' in
      let woken = owned_places seat (parts_of meaning old).memory.cells in
      record {
        outcome = refl;
        leads = ap (λ x. after (Event.End seat x s.steps place woken) S) attempt ∙ ap (λ x. after (Event.End seat a' x place woken) S) (steps-one s s' stage)
            ∙ ap (λ x. after (Event.End seat a' s'.steps x woken) S) places ∙ ap (λ x. after (Event.End seat a' s'.steps place' x) S) woken-one;
        answer = refl;
      }
  pair _ _ _ _ (IsOutcomeOf.ended s a place runs shows) (IsOutcomeOf.left s' a' place' runs' shows') m n going fine picks agree h =
      let stage = hand-one hand s s' runs.asks.goes.met runs'.asks.goes.met in
      absurd (let clash : wants.Done ≡ wants.Leave = want-one s s' wants.Done wants.Leave stage runs.asks.wants runs'.asks.wants in cc)
  pair _ _ _ _ (IsOutcomeOf.ended s a place runs shows) (IsOutcomeOf.refused s' a' bad' commit' invalid') m n going fine picks agree h = absurd (n.2 m.2)
  pair _ _ _ _ (IsOutcomeOf.left s a place runs shows) (IsOutcomeOf.left s' a' place' runs' shows') m n going fine picks agree h =
      let stage = hand-one hand s s' runs.asks.goes.met runs'.asks.goes.met in
      let attempt : a ≡ a' = running-one (task_at S.parts.tasks seat) a a' m.1.task n.1.task in
      let places = place-one s s' None None place place' stage refl shows shows' in
      let woken = owned_places seat (parts_of meaning old).memory.cells in
      record {
        outcome = refl;
        leads = ap (λ x. after (Event.Leave seat x s.steps place woken) S) attempt ∙ ap (λ x. after (Event.Leave seat a' x place woken) S) (steps-one s s' stage)
            ∙ ap (λ x. after (Event.Leave seat a' s'.steps x woken) S) places ∙ ap (λ x. after (Event.Leave seat a' s'.steps place' x) S) woken-one;
        answer = refl;
      }
  pair _ _ _ _ (IsOutcomeOf.left s a place runs shows) (IsOutcomeOf.ended s' a' place' runs' shows') m n going fine picks agree h =
      let stage = hand-one hand s s' runs.asks.goes.met runs'.asks.goes.met in
      absurd (let clash : wants.Leave ≡ wants.Done = want-one s s' wants.Leave wants.Done stage runs.asks.wants runs'.asks.wants in cc)
  pair _ _ _ _ (IsOutcomeOf.left s a place runs shows) (IsOutcomeOf.refused s' a' bad' commit' invalid') m n going fine picks agree h = absurd (n.2 m.2)
  pair _ _ _ _ (IsOutcomeOf.refused s a bad commit invalid) (IsOutcomeOf.ended s' a' place' runs' shows') m n going fine picks agree h = absurd (m.2 n.2)
  pair _ _ _ _ (IsOutcomeOf.refused s a bad commit invalid) (IsOutcomeOf.left s' a' place' runs' shows') m n going fine picks agree h = absurd (m.2 n.2)
  pair _ _ _ _ (IsOutcomeOf.refused s a bad commit invalid) (IsOutcomeOf.refused s' a' bad' commit' invalid') m n going fine picks agree h =
      let attempt : a ≡ a' = running-one (task_at S.parts.tasks seat) a a' m.1 n.1 in
      record { outcome = ap (λ x. Outcome.Refused x) (bad-one bad bad' invalid invalid'); leads = back-one a a' Find.Commit Find.Commit attempt refl; answer = refl }
  pair _ _ _ _ (IsOutcomeOf.noted s a place runs shows) (IsOutcomeOf.noted s' a' place' runs' shows') m n going fine picks agree h =
      let stage = hand-one hand s s' runs.asks.goes.met runs'.asks.goes.met in
      let attempt : a ≡ a' = running-one (task_at S.parts.tasks seat) a a' m.1.task n.1.task in
      let places = place-one s s' None None place place' stage refl shows shows' in
      record {
        outcome = refl;
        leads = ap (λ x. after (Event.Note seat x s.steps place) S) attempt ∙ ap (λ x. after (Event.Note seat a' x place) S) (steps-one s s' stage)
            ∙ ap (λ x. after (Event.Note seat a' s'.steps x) S) places;
        answer = refl;
      }
  pair _ _ _ _ (IsOutcomeOf.noted s a place runs shows) (IsOutcomeOf.not_noted s' a' bad' runs' invalid') m n going fine picks agree h = absurd (n.2 m.2)
  pair _ _ _ _ (IsOutcomeOf.not_noted s a bad runs invalid) (IsOutcomeOf.noted s' a' place' runs' shows') m n going fine picks agree h = absurd (m.2 n.2)
  pair _ _ _ _ (IsOutcomeOf.not_noted s a bad runs invalid) (IsOutcomeOf.not_noted s' a' bad' runs' invalid') m n going fine picks agree h =
      let attempt : a ≡ a' = running-one (task_at S.parts.tasks seat) a a' m.1 n.1 in
      record { outcome = ap (λ x. Outcome.NotNoted x) (bad-one bad bad' invalid invalid'); leads = back-one a a' Find.Block Find.Block attempt refl; answer = refl }
  pair _ _ _ _ (IsOutcomeOf.grew_tall s a place asks valid shows) (IsOutcomeOf.grew_tall s' a' place' asks' valid' shows') m n going fine picks agree h =
      let stage = hand-one hand s s' asks.goes.met asks'.goes.met in
      let attempt : a ≡ a' = some-one (working (task_at S.parts.tasks seat)) a a' m.1.1.works n.1.1.works in
      let places = place-one s s' None None place place' stage refl shows shows' in
      record {
        outcome = refl;
        leads = ap (λ x. after (Event.Tall seat x s.steps place) S) attempt ∙ ap (λ x. after (Event.Tall seat a' x place) S) (steps-one s s' stage)
            ∙ ap (λ x. after (Event.Tall seat a' s'.steps x) S) places;
        answer = refl;
      }
  pair _ _ _ _ (IsOutcomeOf.grew_tall s a place asks valid shows) (IsOutcomeOf.not_tall s' a' bad' runs' invalid') m n going fine picks agree h =
      absurd (n.2 (noted-valid S.parts seat (task_at S.parts.tasks seat) m.1.0 a.tried.number s.steps place a' n.1 m.1.1.may))
  pair _ _ _ _ (IsOutcomeOf.not_tall s a bad runs invalid) (IsOutcomeOf.grew_tall s' a' place' asks' valid' shows') m n going fine picks agree h =
      absurd (m.2 (noted-valid S.parts seat (task_at S.parts.tasks seat) n.1.0 a'.tried.number s'.steps place' a m.1 n.1.1.may))
  pair _ _ _ _ (IsOutcomeOf.not_tall s a bad runs invalid) (IsOutcomeOf.not_tall s' a' bad' runs' invalid') m n going fine picks agree h =
      let attempt : a ≡ a' = running-one (task_at S.parts.tasks seat) a a' m.1 n.1 in
      record { outcome = ap (λ x. Outcome.NotTall x) (bad-one bad bad' invalid invalid'); leads = back-one a a' Find.Tall Find.Tall attempt refl; answer = refl }
  pair _ _ _ _ (IsOutcomeOf.came_home s comes answer memory a place visit visits shows) (IsOutcomeOf.came_home s' comes' answer' memory' a' place' visit' visits' shows')
      m n going fine picks agree h =
      let stage = hand-one hand s s' visit.goes.met visit'.goes.met in
      let attempt : a ≡ a' = free-one (task_at S.parts.tasks seat) a a' m.1.task n.1.task in
      let moved : VisitsTo s S.parts.memory b2 answer' comes' memory' a2 =
      subst (λ (x : MachineView). VisitsTo x S.parts.memory b2 answer' comes' memory' a2) (sym stage)
      (subst (λ (x : EngineState). VisitsTo s' x.parts.memory b2 answer' comes' memory' a2) (sym same) visits') in
      let given : place.answer ≡ answer = ap (λ (x : LocalState). x.answer) shows in
      let given' : place'.answer ≡ answer' = ap (λ (x : LocalState). x.answer) shows' in
      let one = one-visit s S.parts.memory b1 a1 b2 a2 answer answer' comes comes' memory memory' visits moved (λ x y i j. agree x y (given ∙ i) (given' ∙ j)) in
      let places = place-one comes comes' answer answer' place place' one.comes one.answers shows shows' in
      record {
        outcome = refl;
        leads = ap (λ x. after (Event.Visit seat x comes.steps place comes.inside memory) S) attempt
            ∙ ap (λ (x : MachineView). after (Event.Visit seat a' x.steps place x.inside memory) S) one.comes
            ∙ ap (λ x. after (Event.Visit seat a' comes'.steps x comes'.inside memory) S) places
            ∙ ap (λ x. after (Event.Visit seat a' comes'.steps place' comes'.inside x) S) one.leaves;
        answer = given ∙ one.answers ∙ sym given';
      }
  pair _ _ _ _ (IsOutcomeOf.cut s a place none met valid shows) (IsOutcomeOf.cut s' a' place' none' met' valid' shows') m n going fine picks agree h =
      let stage = hand-one hand s s' met met' in
      let attempt : a ≡ a' = some-one (working (task_at S.parts.tasks seat)) a a' m.2.1.works n.2.1.works in
      let places = place-one s s' None None place place' stage refl shows shows' in
      record {
        outcome = refl;
        leads = ap (λ x. after (Event.Cut seat x s.steps place) S) attempt ∙ ap (λ x. after (Event.Cut seat a' x place) S) (steps-one s s' stage)
            ∙ ap (λ x. after (Event.Cut seat a' s'.steps x) S) places;
        answer = refl;
      }
  pair _ _ _ _ (IsOutcomeOf.cut s a place none met valid shows) (IsOutcomeOf.spent none' busy' invalid' is') m n going fine picks agree h =
      absurd (invalid' s met (valid-from old other same valid))
  pair _ _ _ _ (IsOutcomeOf.spent none busy invalid is) (IsOutcomeOf.cut s' a' place' none' met' valid' shows') m n going fine picks agree h =
      absurd (invalid s' met' (valid-from other old (sym same) valid'))
  pair _ _ _ _ (IsOutcomeOf.spent none busy invalid is) (IsOutcomeOf.spent none' busy' invalid' is') m n going fine picks agree h = record { outcome = refl; leads = refl; answer = refl }
  pair _ _ _ _ (IsOutcomeOf.undid a) (IsOutcomeOf.undid a') m n going fine picks agree h =
      let attempt : a ≡ a' = some-one (attempt_of (task_at S.parts.tasks seat)) a a' m.0.has n.0.has in
      record { outcome = refl; leads = ap (λ x. after (Event.Undo seat x) S) attempt; answer = refl }
  pair _ _ _ _ (IsOutcomeOf.undid a) (IsOutcomeOf.went_home a') m n going fine picks agree h = absurd (omega (arith, m.1, n.1))
  pair _ _ _ _ (IsOutcomeOf.went_home a) (IsOutcomeOf.undid a') m n going fine picks agree h = absurd (omega (arith, m.1, n.1))
  pair _ _ _ _ (IsOutcomeOf.went_home a) (IsOutcomeOf.went_home a') m n going fine picks agree h =
      let attempt : a ≡ a' = some-one (attempt_of (task_at S.parts.tasks seat)) a a' m.0.has n.0.has in
      record { outcome = refl; leads = ap (λ x. after (Event.Home seat x) S) attempt; answer = refl }
  pair _ _ _ _ _ _ m n going fine picks agree h = absurd (false-apart h)
