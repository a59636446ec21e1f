-- A visit that called no device, as a whole.
use Rattle.std.proofs.Common.{◌≡◌, ℕ, List, [], Some, None, sym, ap, ◌∙◌, subst, ◌≤◌, arith}
use Rattle.std.specs.Prelude.{unwrap_or, get_or}
use Rattle.ame_device.specs.declared.told.Told.{Told}
use Rattle.ame_machine.specs.Sound.{IsSoundStage}
use Rattle.ame_protocol.specs.declared.types.Attempt.{Attempt}
use Rattle.ame_protocol.specs.declared.types.Task.{Task}
use Rattle.ame_protocol.specs.Engine.Parts.{Parts, task_at, working}
use Rattle.ame_protocol.specs.Engine.Simulates.{Simulates}
use Rattle.ame_engine.specs.declared.engine.free.change.CellChange.{CellChange}
use Rattle.ame_engine.specs.Core.{Core}
use Rattle.ame_engine.specs.Seen.{parts_of}
use Rattle.ame_engine.specs.Makes.{MakesAt}
use Rattle.ame_engine.proofs.MakesLemmas.{visited-made}
use Rattle.ame_engine.specs.AtWork.{IsOn}
use Rattle.ame_engine.specs.Visiting.{IsVisiting, IsVisitTo, visits_at, SettlesThere, changed_by, HasMadeItsStep, HasComeHome}
use Rattle.ame_engine.proofs.CheckLemmas.{working-within, task-read}
use Rattle.ame_engine.proofs.VisitPlaceLemmas.{visits-as, visit-is, visit-settles}
use Rattle.ame_engine.proofs.VisitPlaceLemmas.{visit-grows}
use Rattle.ame_machine.specs.Meaning.{Meaning}

-- the task of a seat that visits, by what is in its place
pub its-free : {C V M : Type 0} (core now : Core C V M) → core ≡ now → (seat : ℕ) (held : Attempt) → working (task_at now.tasks seat) ≡ Some held
    → (t : Task) (a : Attempt) → t ≡ get_or core.tasks seat t → t ≡ Task.Free a → task_at now.tasks seat ≡ Task.Free a
its-free {C} {V} {M} core now view seat held has t a e f =
    subst (λ (x : Core C V M). task_at x.tasks seat ≡ Task.Free a) view
    (task-read core.tasks seat t
    (working-within core.tasks seat held (subst (λ (x : Core C V M). working (task_at x.tasks seat) ≡ Some held) (sym view) has)) e ∙ f)

-- a seat visits with one attempt
pub same-attempt : (t : Task) (a b : Attempt) → t ≡ Task.Free a → t ≡ Task.Free b → a ≡ b
same-attempt t a b e f = ap (λ (x : Task). unwrap_or (working x) a) (sym e ∙ f)

-- a seat visits one member
pub same-number : (t : Task) (a b : Attempt) → t ≡ Task.Free a → t ≡ Task.Free b → a.tried.number ≡ b.tried.number
same-number t a b e f = ap (λ (x : Task). (unwrap_or (working x) a).tried.number) (sym e ∙ f)

module _ {C V M : Type 0} (meaning : Meaning C V M)
    (now : Core C V M) (stands : Simulates (parts_of meaning now)) (seat : ℕ) (m : M)
    (on : IsOn meaning now seat m) (visiting : IsVisiting (meaning.stage now.code m)) (sound : IsSoundStage (meaning.stage now.code m)) where
  abbrev parts : Parts
  parts = parts_of meaning now

  pub free-task : task_at now.tasks seat ≡ Task.Free on.stands.attempt
  free-task = visits-as parts seat (meaning.stage now.code m) on.stands visiting.inside

  one-number : (attempt : Attempt) → task_at now.tasks seat ≡ Task.Free attempt → on.stands.attempt.tried.number ≡ attempt.tried.number
  one-number attempt is = ap (λ (t : Task). (unwrap_or (working t) attempt).tried.number) (sym free-task ∙ is)

  module _ (attempt : Attempt) (is : task_at now.tasks seat ≡ Task.Free attempt) (n : M) (change : CellChange V)
      (served : HasMadeItsStep meaning now m n change) where
    pub served-visit : IsVisitTo parts attempt.tried.number None (meaning.stage now.code n) (changed_by (meaning.value_of now.code) change parts.memory)
    served-visit =
        subst (λ (k : ℕ). IsVisitTo parts k None (meaning.stage now.code n) (changed_by (meaning.value_of now.code) change parts.memory)) (one-number attempt is)
        (visit-is parts stands seat (meaning.stage now.code m) on.stands visiting.inside sound visiting [] None (meaning.stage now.code n)
        (changed_by (meaning.value_of now.code) change parts.memory) [] (served.visits []))

    pub served-settles : SettlesThere (meaning.stage now.code n)
    served-settles =
        visit-settles parts stands seat (meaning.stage now.code m) on.stands visiting.inside sound visiting [] None (meaning.stage now.code n)
        (changed_by (meaning.value_of now.code) change parts.memory) [] (served.visits [])

    pub served-low : attempt.tried.steps ≤ (meaning.stage now.code n).steps
    served-low =
        let same : on.stands.attempt.tried.steps ≡ attempt.tried.steps = ap (λ (t : Task). (unwrap_or (working t) attempt).tried.steps) (sym free-task ∙ is) in
        let since = on.stands.since in
        let grows = visit-grows (meaning.stage now.code m) parts.memory [] None (meaning.stage now.code n) (changed_by (meaning.value_of now.code) change parts.memory) [] (served.visits []) in
        omega (arith, same, since, grows)

    -- it is home
    pub home-served : (told : List Told) (new : Core C V M)
        → MakesAt meaning (meaning.stage now.code n) None
        (visits_at seat attempt (meaning.stage now.code n) (changed_by (meaning.value_of now.code) change parts.memory)) now new
        → HasComeHome meaning seat attempt.tried.number (meaning.stage now.code m) told told now new
    home-served told new makes =
        let memory = changed_by (meaning.value_of now.code) change parts.memory in
        record {
          answer = None;
          comes = meaning.stage now.code n;
          memory = memory;
          visits = served.visits told;
          visit = served-visit;
          event = visited-made meaning now new seat attempt None (meaning.stage now.code n) memory makes;
          makes = λ a e.
              subst (λ (x : Attempt). MakesAt meaning (meaning.stage now.code n) None (visits_at seat x (meaning.stage now.code n) memory) now new)
              (same-attempt (task_at now.tasks seat) attempt a is e) makes;
        }
