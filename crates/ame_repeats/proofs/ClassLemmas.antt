-- State and machine of a seat determine the class of its turn.
use Rattle.std.proofs.Common.{◌≡◌, ℕ, ◌==◌, ◌<◌, ◌≤◌, Bool, true, false, List, Option, Some, None, arith, refl, ap, ◌∙◌}
use Rattle.std.specs.Prelude.{is_some, nat_lt, if◌then◌else◌}
use Rattle.std.proofs.lemmas.Bool.{ne_eqb, eq-eqb}
use Rattle.ame_device.specs.declared.told.Told.{Told}
use Rattle.ame_machine.specs.declared.wants.Wants.{Wants}
use Rattle.ame_machine.specs.declared.wants.Wants.TheVariants as wants
use Rattle.ame_machine.specs.MachineView.{MachineView}
use Rattle.ame_machine.specs.Meaning.{Meaning}
use Rattle.ame_protocol.specs.declared.types.Attempt.{Attempt}
use Rattle.ame_protocol.specs.declared.types.Task.{Task}
use Rattle.ame_protocol.specs.declared.stop.Stop.{Stop}
use Rattle.ame_protocol.specs.Engine.Parts.{task_at, attempt_of, working}
use Rattle.ame_protocol.specs.Event.Event.{Event}
use Rattle.ame_protocol.specs.Event.May.{May, MayUndo}
use Rattle.ame_protocol.specs.Event.Undoing.{is_undoing}
use Rattle.ame_engine.specs.declared.pick.Pick.{Pick}
use Rattle.ame_engine.specs.AtWork.{IsOnSeat}
use Rattle.ame_engine.specs.Begins.{pick_of, stop_met}
use Rattle.ame_engine.specs.Committing.{commits}
use Rattle.ame_engine.specs.Core.{Core}
use Rattle.ame_engine.specs.Makes.{state_of}
use Rattle.ame_engine.specs.Seen.{parts_of}
use Rattle.ame_shell.specs.declared.work.Outcome.{Outcome}
use Rattle.ame_shell.specs.Asked.{waits_for_check, IsToGoOn}
use Rattle.ame_shell.specs.Outcomes.{IsOutcomeOf}

-- Classes

abbrev pub of_want : Bool → Option Wants → Bool → ℕ
of_want true (Some wants.Tall) full = 10
of_want true _ full = 11
of_want false (Some (wants.Read l)) full = if full then 6 else 3
of_want false (Some (wants.Write l)) full = if full then 6 else 4
of_want false (Some (wants.Alloc sort number)) full = if full then 6 else 5
of_want false (Some wants.OutOfFuel) full = 6
of_want false (Some wants.Done) full = 7
of_want false (Some wants.Leave) full = 7
of_want false (Some wants.Block) full = 9
of_want false (Some wants.Tall) full = 10
of_want false _ full = 99

abbrev pub of_hand : Option MachineView → ℕ → ℕ
of_hand None slice = 13
of_hand (Some s) slice = of_want s.inside s.want (s.since == slice)

abbrev pub of_pick : Pick → ℕ
of_pick (Pick.Member number) = 1
of_pick Pick.Idle = 16
of_pick _ = 2

abbrev pub class : Bool → Bool → Pick → Option MachineView → ℕ → ℕ
class true left pick hand slice = of_pick pick
class false false pick hand slice = 12
class false true pick hand slice = of_hand hand slice

abbrev pub is_idle : Task → Bool
is_idle Task.Idle = true
is_idle _ = false

-- whether memory ran out or a device failed
abbrev pub is_lost : Outcome → Bool
is_lost Outcome.Lacked = true
is_lost (Outcome.DeviceFailed device) = true
is_lost _ = false

work-busy : (t : Task) (a : Attempt) → working t ≡ Some a → is_idle t ≡ false
work-busy Task.Idle a e = cc
work-busy (Task.Running b) a e = refl
work-busy (Task.Free b) a e = refl
work-busy (Task.Undoing b reason) a e = refl

some-busy : (t : Task) → is_some (attempt_of t) ≡ true → is_idle t ≡ false
some-busy Task.Idle e = cc
some-busy (Task.Running b) e = refl
some-busy (Task.Free b) e = refl
some-busy (Task.Undoing b reason) e = refl

undoes-not-works : (t : Task) (a : Attempt) → working t ≡ Some a → is_undoing t ≡ true → ⊥
undoes-not-works Task.Idle a e f = cc
undoes-not-works (Task.Running b) a e f = cc
undoes-not-works (Task.Free b) a e f = cc
undoes-not-works (Task.Undoing b reason) a e f = cc

check-kind : (w : Option Wants) → waits_for_check w ≡ true → of_want false w true ≡ 6
check-kind None e = cc
check-kind (Some (wants.Read l)) e = refl
check-kind (Some (wants.Write l)) e = refl
check-kind (Some (wants.Alloc sort number)) e = refl
check-kind (Some wants.OutOfFuel) e = refl
check-kind (Some _) e = cc

commit-kind : (w : Option Wants) (full : Bool) → commits w ≡ true → of_want false w full ≡ 7
commit-kind None full e = cc
commit-kind (Some wants.Done) full e = refl
commit-kind (Some wants.Leave) full e = refl
commit-kind (Some _) full e = cc

visit-kind : (w : Option Wants) (full : Bool) → (w ≡ Some wants.Tall → ⊥) → of_want true w full ≡ 11
visit-kind None full e = refl
visit-kind (Some wants.Tall) full e = absurd (e refl)
visit-kind (Some _) full e = refl

tall-kind : (inside full : Bool) → of_want inside (Some wants.Tall) full ≡ 10
tall-kind true full = refl
tall-kind false full = refl

stop-kind : (pick : Pick) (why : Stop) → stop_met pick ≡ Some why → of_pick pick ≡ 2
stop-kind (Pick.Member number) why e = cc
stop-kind Pick.Idle why e = cc
stop-kind _ why e = refl

lt-true : (a b : ℕ) → a < b → nat_lt a b ≡ true
lt-true a b e = grind arith

ge-false : (a b : ℕ) → b ≤ a → nat_lt a b ≡ false
ge-false a b e = grind arith

module _ {C V M : Type 0} (meaning : Meaning C V M) (seat : ℕ) (hand : Option MachineView) (old new : Core C V M) (before after : List Told) where
  abbrev pub class-here : ℕ
  class-here = class (is_idle (task_at old.tasks seat)) (nat_lt old.turns old.limits.turns) (pick_of old) hand old.limits.slice

  abbrev pub its-class : (o : Outcome) (e : Event) → IsOutcomeOf meaning seat hand old new before after o e → ℕ
  its-class _ _ (IsOutcomeOf.began number meets) = 1
  its-class _ _ (IsOutcomeOf.stopped pick why meets is stops) = 2
  its-class _ _ (IsOutcomeOf.read s l comes) = 3
  its-class _ _ (IsOutcomeOf.wrote s l v comes sets) = 4
  its-class _ _ (IsOutcomeOf.met s l a owner comes) = 4
  its-class _ _ (IsOutcomeOf.allocated s sort ty v comes sets) = 5
  its-class _ _ (IsOutcomeOf.checked s a checks) = 6
  its-class _ _ (IsOutcomeOf.found_invalid s a bad checks invalid) = 6
  its-class _ _ (IsOutcomeOf.ended s a place runs shows) = 7
  its-class _ _ (IsOutcomeOf.left s a place runs shows) = 7
  its-class _ _ (IsOutcomeOf.refused s a bad commit invalid) = 7
  its-class _ _ (IsOutcomeOf.noted s a place runs shows) = 9
  its-class _ _ (IsOutcomeOf.not_noted s a bad runs invalid) = 9
  its-class _ _ (IsOutcomeOf.grew_tall s a place asks valid shows) = 10
  its-class _ _ (IsOutcomeOf.not_tall s a bad runs invalid) = 10
  its-class _ _ (IsOutcomeOf.came_home s comes answer memory a place visit visits shows) = 11
  its-class _ _ (IsOutcomeOf.device_failed s device argument a visit wants fails) = 15
  its-class _ _ (IsOutcomeOf.cut s a place none met valid shows) = 12
  its-class _ _ (IsOutcomeOf.spent none busy invalid is) = 12
  its-class _ _ (IsOutcomeOf.undid a) = 13
  its-class _ _ (IsOutcomeOf.went_home a) = 13
  its-class _ _ (IsOutcomeOf.lacked is) = 14

  module _ (on : (s : MachineView) → hand ≡ Some s → IsOnSeat (parts_of meaning old) seat s) where
    -- a seat that goes on
    goes : (s : MachineView) → IsToGoOn old hand s → (inside : Bool) (w : Option Wants) (full : Bool) → s.inside ≡ inside → s.want ≡ w
        → (s.since == old.limits.slice) ≡ full → class-here ≡ of_want inside w full
    goes s at inside w full i j k =
        let it = on s at.met in
        ap (λ (b : Bool). class b (nat_lt old.turns old.limits.turns) (pick_of old) hand old.limits.slice) (work-busy (task_at old.tasks seat) it.attempt it.has)
        ∙ ap (λ (b : Bool). class false b (pick_of old) hand old.limits.slice) (lt-true old.turns old.limits.turns at.left)
        ∙ ap (λ (h : Option MachineView). of_hand h old.limits.slice) at.met
        ∙ ap (λ (b : Bool). of_want b s.want (s.since == old.limits.slice)) i ∙ ap (λ (x : Option Wants). of_want inside x (s.since == old.limits.slice)) j
        ∙ ap (of_want inside w) k

    -- a seat at work, once the turns are used up
    ends : is_idle (task_at old.tasks seat) ≡ false → old.limits.turns ≤ old.turns → class-here ≡ 12
    ends busy none =
        ap (λ (b : Bool). class b (nat_lt old.turns old.limits.turns) (pick_of old) hand old.limits.slice) busy
        ∙ ap (λ (b : Bool). class false b (pick_of old) hand old.limits.slice) (ge-false old.turns old.limits.turns none)

    -- a seat that undoes
    undoes : (a : Attempt) → old.stop ≡ None → MayUndo (state_of meaning old) seat a → class-here ≡ 13
    undoes a going may =
        let calm : is_some old.stop ≡ false = ap is_some going in
        ap (λ (b : Bool). class b (nat_lt old.turns old.limits.turns) (pick_of old) hand old.limits.slice)
        (some-busy (task_at old.tasks seat) (ap is_some may.has))
        ∙ ap (λ (b : Bool). class false b (pick_of old) hand old.limits.slice) (lt-true old.turns old.limits.turns (may.left calm))
        ∙ by hand refl
      where
        by : (h : Option MachineView) → hand ≡ h → of_hand h old.limits.slice ≡ 13
        by None e = refl
        by (Some s) e = let it = on s e in absurd (undoes-not-works (task_at old.tasks seat) it.attempt it.has (may.undoes (ap is_some going)))

    pub meets : (pick : Pick) → task_at old.tasks seat ≡ Task.Idle → pick_of old ≡ pick → class-here ≡ of_pick pick
    meets pick idle is =
        ap (λ (b : Task). class (is_idle b) (nat_lt old.turns old.limits.turns) (pick_of old) hand old.limits.slice) idle ∙ ap of_pick is

    pub is-class : (o : Outcome) (e : Event) (p : IsOutcomeOf meaning seat hand old new before after o e) → May e (state_of meaning old) → old.stop ≡ None → is_lost o ≡ false
        → class-here ≡ its-class o e p
    is-class _ _ (IsOutcomeOf.began number met) m going fine = meets (Pick.Member number) met.idle met.meets
    is-class _ _ (IsOutcomeOf.stopped pick why met is stops) m going fine = meets pick met.idle met.meets ∙ stop-kind pick why is
    is-class _ _ (IsOutcomeOf.read s l comes) m going fine =
        goes s comes.runs.asks.goes false (Some (wants.Read l)) false comes.runs.outside comes.runs.asks.wants (ne_eqb s.since old.limits.slice (omega (arith, comes.early)))
    is-class _ _ (IsOutcomeOf.wrote s l v comes sets) m going fine =
        goes s comes.runs.asks.goes false (Some (wants.Write l)) false comes.runs.outside comes.runs.asks.wants (ne_eqb s.since old.limits.slice (omega (arith, comes.early)))
    is-class _ _ (IsOutcomeOf.met s l a owner comes) m going fine =
        goes s comes.runs.asks.goes false (Some (wants.Write l)) false comes.runs.outside comes.runs.asks.wants (ne_eqb s.since old.limits.slice (omega (arith, comes.early)))
    is-class _ _ (IsOutcomeOf.allocated s sort ty v comes sets) m going fine =
        goes s comes.runs.asks.goes false (Some (wants.Alloc sort ty)) false comes.runs.outside comes.runs.asks.wants (ne_eqb s.since old.limits.slice (omega (arith, comes.early)))
    is-class _ _ (IsOutcomeOf.checked s a checks) m going fine =
        goes s checks.goes false s.want true checks.outside refl (eq-eqb s.since old.limits.slice checks.full) ∙ check-kind s.want checks.waits
    is-class _ _ (IsOutcomeOf.found_invalid s a bad checks invalid) m going fine =
        goes s checks.goes false s.want true checks.outside refl (eq-eqb s.since old.limits.slice checks.full) ∙ check-kind s.want checks.waits
    is-class _ _ (IsOutcomeOf.ended s a place runs shows) m going fine = goes s runs.asks.goes false (Some wants.Done) (s.since == old.limits.slice) runs.outside runs.asks.wants refl
    is-class _ _ (IsOutcomeOf.left s a place runs shows) m going fine = goes s runs.asks.goes false (Some wants.Leave) (s.since == old.limits.slice) runs.outside runs.asks.wants refl
    is-class _ _ (IsOutcomeOf.refused s a bad commit invalid) m going fine =
        goes s commit.goes false s.want (s.since == old.limits.slice) commit.commits.outside refl refl ∙ commit-kind s.want (s.since == old.limits.slice) commit.commits.wants
    is-class _ _ (IsOutcomeOf.noted s a place runs shows) m going fine = goes s runs.asks.goes false (Some wants.Block) (s.since == old.limits.slice) runs.outside runs.asks.wants refl
    is-class _ _ (IsOutcomeOf.not_noted s a bad runs invalid) m going fine = goes s runs.asks.goes false (Some wants.Block) (s.since == old.limits.slice) runs.outside runs.asks.wants refl
    is-class _ _ (IsOutcomeOf.grew_tall s a place asks valid shows) m going fine =
        goes s asks.goes s.inside (Some wants.Tall) (s.since == old.limits.slice) refl asks.wants refl ∙ tall-kind s.inside (s.since == old.limits.slice)
    is-class _ _ (IsOutcomeOf.not_tall s a bad runs invalid) m going fine = goes s runs.asks.goes false (Some wants.Tall) (s.since == old.limits.slice) runs.outside runs.asks.wants refl
    is-class _ _ (IsOutcomeOf.came_home s comes answer memory a place visit visits shows) m going fine =
        goes s visit.goes true s.want (s.since == old.limits.slice) visit.inside refl refl ∙ visit-kind s.want (s.since == old.limits.slice) visit.short
    is-class _ _ (IsOutcomeOf.device_failed s device argument a visit wants fails) m going fine = cc
    is-class _ _ (IsOutcomeOf.cut s a place none met valid shows) m going fine = let it = on s met in ends (work-busy (task_at old.tasks seat) it.attempt it.has) none.none_left
    is-class _ _ (IsOutcomeOf.spent none busy invalid is) m going fine = ends (some-busy (task_at old.tasks seat) busy) none.none_left
    is-class _ _ (IsOutcomeOf.undid a) m going fine = undoes a going m.0
    is-class _ _ (IsOutcomeOf.went_home a) m going fine = undoes a going m.0
    is-class _ _ (IsOutcomeOf.lacked is) m going fine = cc
