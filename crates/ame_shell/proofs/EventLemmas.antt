-- The event of a seat is at no form that would become a value that is too high.
use Rattle.std.proofs.Common.{◌≡◌, ◌≢◌, ℕ, ◌+◌, Bool, true, false, List, [], ◌∷◌, ◌++◌, Option, Some, refl, sym, ap, ◌∙◌, subst}
use Rattle.std.specs.Prelude.{ℤ}
use Rattle.ame_term.specs.Tree.{Val}
use Rattle.ame_rows.specs.MemoryView.{MemoryView}
use Rattle.ame_device.specs.declared.told.Told.{Told}
use Rattle.ame_machine.specs.declared.wants.Wants.{Wants}
use Rattle.ame_machine.specs.declared.wants.Wants.TheVariants as wants
use Rattle.ame_machine.specs.MachineView.{MachineView}
use Rattle.ame_machine.specs.Meaning.{Meaning}
use Rattle.ame_machine.specs.Move.{closed_with, fed_stage, closed_stage}
use Rattle.ame_machine.specs.Need.{Need, need_of, need_told}
use Rattle.ame_machine.specs.Sound.{IsSoundStage}
use Rattle.ame_machine.proofs.MoveLemmas.{map-gave, fed-to}
use Rattle.ame_protocol.specs.Engine.Parts.{Parts, task_at}
use Rattle.ame_protocol.specs.Engine.Simulates.{Simulates}
use Rattle.ame_protocol.specs.Event.After.{after}
use Rattle.ame_protocol.specs.Event.Event.{Event}
use Rattle.ame_protocol.specs.Event.Runs.{Follows}
use Rattle.ame_protocol.specs.Event.EngineState.{EngineState}
use Rattle.ame_engine.specs.Core.{Core}
use Rattle.ame_engine.specs.Seen.{parts_of}
use Rattle.ame_engine.specs.Visiting.{VisitsTo}
use Rattle.ame_engine.proofs.ReadLemmas.{runs-as}
use Rattle.ame_engine.proofs.VisitPlaceLemmas.{visits-as}
use Rattle.ame_shell.specs.declared.work.Outcome.{Outcome}
use Rattle.ame_shell.specs.Asked.{IsToVisit}
use Rattle.ame_shell.specs.Low.{WorkGoesLow, GoesLowBy, GoLow, IsLowOnSeat}
use Rattle.ame_shell.specs.Outcomes.{IsOutcomeOf}
use Rattle.ame_shell.proofs.WorkLemmas.{running-low, stepped-low, visited-low}

-- one event more
pub low-more : (es : List Event) (s mid : EngineState) (e : Event) → Follows s es mid → GoLow s es → GoesLowBy e mid.parts → GoLow s (es ++ e ∷ [])
low-more [] s mid e run low one = (subst (λ (x : EngineState). GoesLowBy e x.parts) run one, tt)
low-more (x ∷ xs) s mid e run low one = (low.0, low-more xs (after x s) mid e run.1 low.1 one)

-- a step that a machine wants is at no such form, unless it wants that one
module _ (s : MachineView) (sound : IsSoundStage s) (want : Wants) (wanted : s.want ≡ Some want) where
  pub calm-want : need_told want ≢ Need.Tall → need_of s ≢ Need.Tall
  calm-want other tall = other (sound.told want wanted ∙ tall)

closed-steps : (m n : MachineView) → closed_stage m ≡ Some n → n.steps ≡ m.steps + 1
closed-steps m n closes =
    let made = map-gave (closed_with m) _ n closes in
    ap (λ (z : MachineView). z.steps) (sym made.2)

module _ {C V M : Type 0} (meaning : Meaning C V M) (seat : ℕ) (hand : Option MachineView) (old new : Core C V M) (before after : List Told)
    (stands : Simulates (parts_of meaning old))
    (at-hand : (s : MachineView) → hand ≡ Some s → IsLowOnSeat (parts_of meaning old) seat s × IsSoundStage s) where
  abbrev parts : Parts
  parts = parts_of meaning old

  -- as far as its machine has come
  come-low : (s : MachineView) → hand ≡ Some s → WorkGoesLow parts seat (task_at old.tasks seat) s.steps
  come-low s met = by s.inside refl
    where
      by : (b : Bool) → s.inside ≡ b → WorkGoesLow parts seat (task_at old.tasks seat) s.steps
      by false outside =
          let its = (at-hand s met).0 in
          running-low parts seat its.on.attempt s (runs-as parts seat s its.on outside) outside its.low
      by true inside =
          let its = (at-hand s met).0 in
          stepped-low parts seat its.on.attempt s stands (visits-as parts seat s its.on inside) inside its.low

  -- and by the step that it makes in a visit
  step-low : (s : MachineView) → IsToVisit old hand s → (n : ℕ) → n ≡ s.steps + 1 → need_of s ≢ Need.Tall → WorkGoesLow parts seat (task_at old.tasks seat) n
  step-low s visits n is calm =
      let its = (at-hand s visits.goes.met).0 in
      subst (WorkGoesLow parts seat (task_at old.tasks seat)) (sym is)
      (visited-low parts seat its.on.attempt s stands (visits-as parts seat s its.on visits.inside) visits.inside its.on.run its.low calm)

  fed-low : (s comes : MachineView) → IsToVisit old hand s → (v : Val) → fed_stage v s ≡ Some comes → (want : Wants) → s.want ≡ Some want
      → need_told want ≢ Need.Tall → WorkGoesLow parts seat (task_at old.tasks seat) comes.steps
  fed-low s comes visits v fed want wanted other =
      step-low s visits comes.steps (ap (λ (z : MachineView). z.steps) (fed-to v s comes fed).is)
      (calm-want s (at-hand s visits.goes.met).1 want wanted other)

  visit-low : (s comes : MachineView) (answer : Option ℤ) (memory : MemoryView Val) (told : List Told) → IsToVisit old hand s
      → VisitsTo s parts.memory before answer comes memory told → WorkGoesLow parts seat (task_at old.tasks seat) comes.steps
  visit-low s _ _ _ _ visits (VisitsTo.rests alone) = come-low s visits.goes.met
  visit-low s comes _ _ _ visits (VisitsTo.reads l v n want is fed) = fed-low s n visits v fed (wants.Read l) want (λ e. cc)
  visit-low s comes _ _ _ visits (VisitsTo.peeks l v n want is fed) = fed-low s n visits v fed (wants.Peek l) want (λ e. cc)
  visit-low s comes _ _ _ visits (VisitsTo.writes l v n want sets fed) = fed-low s n visits Val.Unit fed (wants.Write l) want (λ e. cc)
  visit-low s comes _ _ _ visits (VisitsTo.makes sort number v n want sets fed) = fed-low s n visits _ fed (wants.Alloc sort number) want (λ e. cc)
  visit-low s comes _ _ _ visits (VisitsTo.spawns n want fed) = fed-low s n visits Val.Unit fed wants.Spawn want (λ e. cc)
  visit-low s comes _ _ _ visits (VisitsTo.prints i n want fed) = fed-low s n visits Val.Unit fed (wants.Print i) want (λ e. cc)
  visit-low s comes _ _ _ visits (VisitsTo.closes n want closes) =
      step-low s visits n.steps (closed-steps s n closes) (calm-want s (at-hand s visits.goes.met).1 wants.Close want (λ e. cc))
  visit-low s comes _ _ _ visits (VisitsTo.calls device argument answer n later want calls fed) =
      fed-low s n visits (Val.Int answer) fed (wants.Device device argument) want (λ e. cc)

  -- whatever its outcome
  pub outcome-low : (outcome : Outcome) (e : Event) → IsOutcomeOf meaning seat hand old new before after outcome e → GoesLowBy e parts
  outcome-low _ _ (IsOutcomeOf.began number meets) = tt
  outcome-low _ _ (IsOutcomeOf.stopped pick why meets met stops) = tt
  outcome-low _ _ (IsOutcomeOf.read s l asks) = tt
  outcome-low _ _ (IsOutcomeOf.wrote s l v asks sets) = tt
  outcome-low _ _ (IsOutcomeOf.met s l attempt owner asks) = tt
  outcome-low _ _ (IsOutcomeOf.allocated s sort ty v asks sets) = tt
  outcome-low _ _ (IsOutcomeOf.checked s attempt asks) = tt
  outcome-low _ _ (IsOutcomeOf.found_invalid s attempt bad asks first) = tt
  outcome-low _ _ (IsOutcomeOf.ended s attempt place runs shows) = come-low s runs.asks.goes.met
  outcome-low _ _ (IsOutcomeOf.left s attempt place runs shows) = come-low s runs.asks.goes.met
  outcome-low _ _ (IsOutcomeOf.refused s attempt bad asks first) = tt
  outcome-low _ _ (IsOutcomeOf.noted s attempt place runs shows) = come-low s runs.asks.goes.met
  outcome-low _ _ (IsOutcomeOf.not_noted s attempt bad runs first) = tt
  outcome-low _ _ (IsOutcomeOf.grew_tall s attempt place asks valid shows) = come-low s asks.goes.met
  outcome-low _ _ (IsOutcomeOf.not_tall s attempt bad runs first) = tt
  outcome-low _ _ (IsOutcomeOf.came_home s comes answer memory attempt place asks visits shows) = visit-low s comes answer memory after asks visits
  outcome-low _ _ (IsOutcomeOf.device_failed s device argument attempt asks wanted fails) = tt
  outcome-low _ _ (IsOutcomeOf.cut s attempt place none met valid shows) = come-low s met
  outcome-low _ _ (IsOutcomeOf.spent none busy invalid is) = tt
  outcome-low _ _ (IsOutcomeOf.undid attempt) = tt
  outcome-low _ _ (IsOutcomeOf.went_home attempt) = tt
  outcome-low _ _ (IsOutcomeOf.lacked is) = tt
