-- The last step of a `Free` entry, by what its machine wants.
use Rattle.std.proofs.Common.{◌≡◌, ℕ, ◌+◌, ◌<◌, ◌≤◌, ℤ, Bool, true, false, List, [], ◌∷◌, ◌++◌, Option, Some, None, is_none, refl, sym, ap, ◌∙◌, subst, arith, map, length, is_some, ◌||◌, if◌then◌else◌}
use Rattle.std.specs.Option.{option_and_then, option_map}
use Rattle.ame_term.specs.Tree.{Val, Tree}
use Rattle.ame_term.specs.Frame.{Side, side_told}
use Rattle.ame_term.specs.Context.{Focus, focus, fill}
use Rattle.ame_term.specs.Act.{Act, act_of, device_answer}
use Rattle.ame_term.specs.Maps.{change}
use Rattle.ame_term.specs.State.{State, after, closed, closed_value}
use Rattle.ame_term.specs.declared.types.Loc.{Loc}
use Rattle.ame_term.specs.declared.semantics.StepKind.{StepKind}
use Rattle.ame_term.specs.declared.semantics.Label.{Label}
use Rattle.ame_laws.proofs.MapLemmas.{at-change_same, at-change_other}
use Rattle.ame_laws.specs.Typed.TypedState.{IsTypedLater}
use Rattle.ame_laws.proofs.Typed.Preserved.{kept}
use Rattle.ame_journal.specs.Labels.{fresh_of}
use Rattle.ame_journal.specs.Replay.{locations, redex_act, member_act, next_kind}
use Rattle.ame_journal.proofs.StepLemmas.{named}
use Rattle.ame_journal.proofs.SupplyLemmas.{takes-last}
use Rattle.ame_journal.proofs.ReplayLemmas.{steps-behind}
use Rattle.ame_machine.specs.Comes.{HasNextAct}
use Rattle.ame_machine.specs.Meaning.{Meaning}
use Rattle.ame_machine.specs.MachineView.{MachineView, place_shown}
use Rattle.ame_machine.specs.Move.{after_input, closed_stage, closed_with, fed_stage, settled_stage, stepped_to, tells_leave}
use Rattle.ame_machine.specs.Need.{Need, need_of_focus, need_told}
use Rattle.ame_machine.specs.Run.AgreesWith.{IsAfterRun}
use Rattle.ame_machine.specs.Run.Local.{LocalState, fed, given_more, one_step, refilled_in, with_inputs}
use Rattle.ame_machine.specs.Sound.{IsSoundStage}
use Rattle.ame_machine.specs.declared.wants.Wants.{Wants}
use Rattle.ame_machine.specs.declared.wants.Wants.TheVariants as wants
use Rattle.ame_machine.proofs.MoveLemmas.{fed-is}
use Rattle.ame_machine.proofs.NeedLemmas.{comes_as}
use Rattle.ame_machine.proofs.Run.RunLemmas.{step-of, acted-more}
use Rattle.ame_machine.proofs.Run.EffectLemmas.{IsStepMade, step-made, unfed}
use Rattle.ame_check.specs.Visit.{visiting, closing, HasCome}
use Rattle.ame_check.specs.Walk.{label_by, steps_on, IsStepping, IsNoWalk}
use Rattle.ame_check.specs.Walked.{place_with, WantsAnswer, is_plain, IsAtStep}
use Rattle.ame_check.proofs.EntryLemmas.{whole-leads}
use Rattle.ame_check.proofs.FormLemmas.{forms-grow}
use Rattle.ame_check.proofs.GoingLemmas.{legal-on}
use Rattle.ame_check.proofs.HaltLemmas.{reduced-on, halts-closing, halts-device}
use Rattle.ame_check.proofs.LastLemmas.{no-answer, no-location, calls-none, closes-none, told-inside}
use Rattle.ame_check.proofs.ListLemmas.{rest-some, rest-none}
use Rattle.ame_check.specs.declared.stored.Stored.{Stored}

-- a call's step is that of its answer
device-kind : (kind : StepKind) (a : ℤ) → Some a ≡ device_answer kind → kind ≡ StepKind.Device a
device-kind (StepKind.Device b) a e = let same : a ≡ b = cc in ap (λ (z : ℤ). StepKind.Device z) (sym same)
device-kind StepKind.Local a e = cc
device-kind _ a e = cc

pub plain-no_tall : (want : Wants) → is_plain want ≡ true → want ≡ wants.Tall → ⊥
plain-no_tall wants.Tall e is = cc
plain-no_tall _ e is = cc

pub plain-no_device : (want : Wants) → is_plain want ≡ true → (k : ℕ) (n : ℤ) → want ≡ wants.Device k n → ⊥
plain-no_device (wants.Device device m) e k n is = cc
plain-no_device _ e k n is = cc

pub plain-no_close : (want : Wants) → is_plain want ≡ true → want ≡ wants.Close → ⊥
plain-no_close wants.Close e is = cc
plain-no_close _ e is = cc

module _ {C V M : Type 0} (meaning : Meaning C V M) (code : C) where
  -- a walk under `unprotected`, by the steps that are counted
  pub stepping : (s : State) (i : ℕ) (fresh : List ℕ) (cells overlay : List (ℕ × Stored V)) (m : M) (n : ℕ) (a : IsAtStep meaning code s i fresh cells overlay m Side.Unprotected n)
      → IsStepping (meaning.signature code) a.walking.types s i Side.Unprotected (place_with a.walking.sets (meaning.stage code m)) n
  stepping s i fresh cells overlay m n a =
      subst (λ (k : ℕ). IsStepping (meaning.signature code) a.walking.types s i Side.Unprotected (place_with a.walking.sets (meaning.stage code m)) k) a.counted
      (subst (λ (z : Side). IsStepping (meaning.signature code) a.walking.types s i z (place_with a.walking.sets (meaning.stage code m)) (meaning.stage code m).steps) a.runs_on a.walking.going)

  module _ (sound : (m : M) → meaning.is_machine code m → IsSoundStage (meaning.stage code m))
      (s : State) (i : ℕ) (fresh : List ℕ) (cells overlay : List (ℕ × Stored V)) (m : M) (n : ℕ) (a : IsAtStep meaning code s i fresh cells overlay m Side.Unprotected n) where
    abbrev sets : List (ℕ × Val)
    sets = a.walking.sets

    abbrev view : MachineView
    view = meaning.stage code m

    here : IsStepping (meaning.signature code) a.walking.types s i Side.Unprotected (place_with sets view) n
    here = stepping s i fresh cells overlay m n a

    inside : view.inside ≡ true
    inside = told-inside view.inside a.runs_on

    last-from : (answer : Option ℤ) → visiting i (n + 1) fresh answer s ≡ steps_on Side.Unprotected i 1 a.walking.rest answer here.now
    last-from answer = ap (λ (xs : List ℕ). visiting i (n + 1) xs answer s) a.walking.front ∙ here.goes 1 a.walking.rest answer

    before-from : (answer : Option ℤ) → visiting i n fresh answer s ≡ steps_on Side.Unprotected i 0 a.walking.rest answer here.now
    before-from answer =
        let none : n ≡ n + 0 = omega arith in
        ap (λ (xs : List ℕ). visiting i n xs answer s) a.walking.front
        ∙ ap (λ (k : ℕ). visiting i k (view.fresh ++ a.walking.rest) answer s) none ∙ here.goes 0 a.walking.rest answer

    tells : (want : Wants) → view.want ≡ Some want → need_told want ≡ need_of_focus true (focus view.term)
    tells want told = (sound m a.walking.machine).told want told ∙ ap (λ (b : Bool). need_of_focus b (focus view.term)) inside

    act-here : (act : Act) → member_act i here.now ≡ Some act → redex_act (focus view.term) ≡ Some act
    act-here act e = sym (ap (option_and_then (λ (z : Tree). redex_act (focus z))) here.member) ∙ e

    -- If it can't close

    close-by : (v : Option Val) → closed_value (focus view.term) ≡ v
        → after here.now (Label.Close i) ≡ option_map (λ w. record here.now { members = change here.now.members i (fill view.term (Tree.Held w)) }) v
    unfolding after
    close-by v e =
        ap (λ (o : Option ℕ). if is_none o then closed i here.now else None) here.active
        ∙ ap (option_and_then (λ (x : Tree). option_map (λ w. record here.now { members = change here.now.members i (fill x (Tree.Held w)) }) (closed_value (focus x)))) here.member
        ∙ ap (option_map (λ w. record here.now { members = change here.now.members i (fill view.term (Tree.Held w)) })) e

    closing-from : closing i n fresh None s ≡ option_and_then (λ t. after t (Label.Close i)) (steps_on Side.Unprotected i 0 a.walking.rest None here.now)
    closing-from = ap (option_and_then (λ t. after t (Label.Close i))) (before-from None)

    left-open : (l : ℕ) (more : List ℕ) → a.walking.rest ≡ l ∷ more → closing i n fresh None s ≡ None
    left-open l more left =
        closing-from ∙ ap (λ (xs : List ℕ). option_and_then (λ t. after t (Label.Close i)) (steps_on Side.Unprotected i 0 xs None here.now)) left

    stays-open : (rest : List ℕ) → a.walking.rest ≡ rest → closed_value (focus view.term) ≡ None → closing i n fresh None s ≡ None
    stays-open [] left none =
        closing-from ∙ ap (λ (xs : List ℕ). option_and_then (λ t. after t (Label.Close i)) (steps_on Side.Unprotected i 0 xs None here.now)) left ∙ close-by None none
    stays-open (l ∷ more) left none = left-open l more left

    pub no-closing : (want : Wants) → view.want ≡ Some want → (want ≡ wants.Close → ⊥) → (answer : Option ℤ) → closing i n fresh answer s ≡ None
    no-closing want told apart None = stays-open a.walking.rest refl (closes-none want apart (focus view.term) (tells want told))
    no-closing want told apart (Some x) = refl

    -- An answer that isn't heard

    pub unheard : (want : Wants) → view.want ≡ Some want → (want ≡ wants.Tall → ⊥) → ((k : ℕ) (x : ℤ) → want ≡ wants.Device k x → ⊥) → (answer : Option ℤ) (x : ℤ) → answer ≡ Some x
        → (visiting i (n + 1) fresh answer s ≡ None) × (closing i n fresh answer s ≡ None)
    unheard want told tall device answer x is = (
      ap (λ (o : Option ℤ). visiting i (n + 1) fresh o s) is ∙ last-from (Some x)
          ∙ no-answer (label_by Side.Unprotected i) i here.now a.walking.rest x (λ act e called. calls-none want tall device (focus view.term) (tells want told) act (act-here act e) called),
      ap (λ (o : Option ℤ). closing i n fresh o s) is,
    )

    -- A device

    module _ (calls : WantsAnswer view.want) where
      device : ℕ
      device = calls.0

      coming : HasNextAct view (Act.Calls calls.0 calls.1)
      coming = (comes_as view (Need.Device calls.0 calls.1) ((sound m a.walking.machine).told (wants.Device calls.0 calls.1) calls.2)).1

      call-there : member_act i here.now ≡ Some (Act.Calls calls.0 calls.1)
      call-there =
          ap (option_and_then (λ (z : Tree). redex_act (focus z))) here.member ∙ ap redex_act coming.1 ∙ ap (λ (z : Act). Some z) coming.2

      open-still : (answer : Option ℤ) → closing i n fresh answer s ≡ None
      open-still = no-closing (wants.Device calls.0 calls.1) calls.2 (λ e. cc)

      pub unanswered : (answer : Option ℤ) → answer ≡ None → (visiting i (n + 1) fresh answer s ≡ None) × (closing i n fresh answer s ≡ None)
      unanswered answer none = (
        ap (λ (o : Option ℤ). visiting i (n + 1) fresh o s) none ∙ last-from None
            ∙ halts-device Side.Unprotected i here.now a.walking.rest calls.0 calls.1 call-there 0 None (λ e. refl),
        open-still answer,
      )

      pub heard-left : (answer : Option ℤ) (x : ℤ) → answer ≡ Some x → (l : ℕ) (more : List ℕ) → a.walking.rest ≡ l ∷ more
          → (visiting i (n + 1) fresh answer s ≡ None) × (closing i n fresh answer s ≡ None)
      heard-left answer x is l more left = (
        ap (λ (o : Option ℤ). visiting i (n + 1) fresh o s) is ∙ last-from (Some x)
            ∙ ap (λ (xs : List ℕ). steps_on Side.Unprotected i 1 xs (Some x) here.now) left
            ∙ no-location (label_by Side.Unprotected i) i here.now l more x calls.0 calls.1 call-there,
        open-still answer,
      )

      module _ (answer : Option ℤ) (x : ℤ) (is : answer ≡ Some x) (used : a.walking.rest ≡ []) (o : M) (good : meaning.is_machine code o)
          (e : after_input view.want (Val.Int x) view ≡ Some (meaning.stage code o)) where
        abbrev place : LocalState
        place = place_with sets view

        abbrev made : Tree × LocalState
        made = (Tree.Held (Val.Int x), record place { answer = Some x })

        abbrev plain : Tree × LocalState
        plain = (Tree.Held (Val.Int x), record (place_shown view) { answer = Some x })

        gives : fed (Act.Calls calls.0 calls.1) Side.Unprotected (Val.Int x) place ≡ Some made
        gives = refl

        step : one_step Side.Unprotected (given_more (Val.Int x ∷ []) place) ≡ Some (refilled_in view.term made)
        step =
            step-of Side.Unprotected (given_more (Val.Int x ∷ []) place) coming.0 made refl (coming.1 ∙ ap (λ (b : Bool). Focus.AtRedex (side_told b) coming.0) inside)
            (acted-more Side.Unprotected place (act_of coming.0) (Val.Int x) made refl (ap (λ (z : Act). fed z Side.Unprotected (Val.Int x) place) coming.2 ∙ gives))

        does : IsStepMade s i Side.Unprotected (with_inputs (Val.Int x ∷ []) place) (refilled_in view.term made) here.now
        does =
            step-made s i Side.Unprotected (with_inputs (Val.Int x ∷ []) place) (refilled_in view.term made) here.now (unfed s i place (Val.Int x ∷ []) here.now here.after_run) here.member step
            (record { seen = tt; own = tt; made = tt })

        kind-is : does.kind ≡ StepKind.Device x
        kind-is = device-kind does.kind x does.answer

        legal : after here.now (label_by Side.Unprotected i does.kind) ≡ Some does.behind
        legal = legal-on Side.Unprotected i does.kind here.now here.active ∙ does.reduces

        takes : next_kind true does.act [] (Some x) ≡ Some (does.kind, locations [])
        takes =
            subst (λ (k : StepKind). next_kind true does.act (fresh_of k ++ []) (device_answer k) ≡ Some (does.kind, locations [])) kind-is
            (takes-last does.kind does.act (named Side.Unprotected does.kind does.act does.can))

        ends : steps_on Side.Unprotected i 1 [] (Some x) here.now ≡ Some does.behind
        ends =
            let r = reduced-on Side.Unprotected does.kind i here.now does.behind here.active legal in
            let t = subst (λ (k : StepKind). next_kind true r.act (fresh_of k ++ []) (device_answer k) ≡ Some (does.kind, locations [])) kind-is
            (takes-last does.kind r.act (named Side.Unprotected does.kind r.act r.can)) in
            steps-behind (label_by Side.Unprotected i) i 0 (record { fresh = []; answer = Some x }) here.now does.behind r.act (does.kind, locations []) r.is_act t legal

        goes-to : stepped_to view (refilled_in view.term plain) ≡ meaning.stage code o
        goes-to =
            let at_want : fed_stage (Val.Int x) view ≡ Some (meaning.stage code o) = ap (λ (z : Option Wants). after_input z (Val.Int x) view) (sym calls.2) ∙ e in
            let both : ◌≡◌ {A = Option MachineView} (Some (stepped_to view (refilled_in view.term plain))) (Some (meaning.stage code o)) =
            sym (fed-is (Val.Int x) view (Act.Calls calls.0 calls.1) plain coming (ap (λ (b : Bool). fed (Act.Calls calls.0 calls.1) (side_told b) (Val.Int x) (place_shown view)) inside)) ∙ at_want in
            cc

        run-so : IsAfterRun s i (place_with sets (stepped_to view (refilled_in view.term plain))) does.behind
        run-so =
            let r = does.after_run in
            record { stored = r.stored; output = r.output; others = r.others; next = r.next }

        typed-behind : IsTypedLater (meaning.signature code) a.walking.types does.behind
        typed-behind = kept (meaning.signature code) a.walking.types here.now (label_by Side.Unprotected i does.kind) does.behind here.typed legal

        pub heard : HasCome meaning code s i fresh cells overlay o true (visiting i (n + 1) fresh answer s)
        heard = record {
          types = typed-behind.0;
          typed = typed-behind.2;
          forms = forms-grow (meaning.signature code) a.walking.types typed-behind.0 cells typed-behind.1 a.walking.forms;
          forms_set = forms-grow (meaning.signature code) a.walking.types typed-behind.0 overlay typed-behind.1 a.walking.forms_set;
          below = a.walking.below;
          machine = good;
          sets = sets;
          laid = a.walking.laid;
          now = does.behind;
          led =
              ap (λ (z : Option ℤ). visiting i (n + 1) fresh z s) is ∙ last-from (Some x)
              ∙ ap (λ (xs : List ℕ). steps_on Side.Unprotected i 1 xs (Some x) here.now) used ∙ ends;
          after_run = subst (λ (z : MachineView). IsAfterRun s i (place_with sets z) does.behind) goes-to run-so;
          member = does.member ∙ ap (λ (z : MachineView). Some z.term) goes-to;
          settles = ap (λ (z : MachineView). (settled_stage z).inside) (sym goes-to) ∙ inside;
        }

    -- Closing

    module _ (told : view.want ≡ Some wants.Close) where
      closes : (v : Val) × (closed_value (focus view.term) ≡ Some v)
      closes = (comes_as view Need.Close ((sound m a.walking.machine).told wants.Close told)).1

      pub close-answered : (answer : Option ℤ) (x : ℤ) → answer ≡ Some x → (visiting i (n + 1) fresh answer s ≡ None) × (closing i n fresh answer s ≡ None)
      close-answered = unheard wants.Close told (λ e. cc) (λ k y e. cc)

      no-further : (answer : Option ℤ) → answer ≡ None → visiting i (n + 1) fresh answer s ≡ None
      no-further answer none =
          ap (λ (o : Option ℤ). visiting i (n + 1) fresh o s) none ∙ last-from None
          ∙ halts-closing Side.Unprotected i here.now view.term here.member here.active a.walking.rest closes.0 closes.1 0 None (λ e. refl)

      pub close-left : (answer : Option ℤ) → answer ≡ None → (l : ℕ) (more : List ℕ) → a.walking.rest ≡ l ∷ more → (visiting i (n + 1) fresh answer s ≡ None) × (closing i n fresh answer s ≡ None)
      close-left answer none l more left = (no-further answer none, ap (λ (o : Option ℤ). closing i n fresh o s) none ∙ left-open l more left)

      module _ (answer : Option ℤ) (none : answer ≡ None) (used : a.walking.rest ≡ []) (o : M) (good : meaning.is_machine code o)
          (e : after_input view.want Val.Unit view ≡ Some (meaning.stage code o)) where
        closed-so : closed_with view closes.0 ≡ meaning.stage code o
        closed-so =
            let at_want : closed_stage view ≡ Some (meaning.stage code o) = ap (λ (z : Option Wants). after_input z Val.Unit view) (sym told) ∙ e in
            let both : ◌≡◌ {A = Option MachineView} (Some (closed_with view closes.0)) (Some (meaning.stage code o)) =
            sym (ap (option_map (closed_with view)) closes.1) ∙ at_want in
            cc

        abbrev later : State
        later = record here.now { members = change here.now.members i (fill view.term (Tree.Held closes.0)) }

        run-closed : IsAfterRun s i (place_with sets (closed_with view closes.0)) later
        run-closed = record {
          stored = here.after_run.stored;
          output = here.after_run.output;
          others = λ k apart. at-change_other here.now.members i k (fill view.term (Tree.Held closes.0)) (λ same. apart (sym same)) ∙ here.after_run.others k apart;
          next = here.after_run.next;
        }

        typed-closed : IsTypedLater (meaning.signature code) a.walking.types later
        typed-closed = kept (meaning.signature code) a.walking.types here.now (Label.Close i) later here.typed (close-by (Some closes.0) closes.1)

        has-closed : HasCome meaning code s i fresh cells overlay o false (closing i n fresh answer s)
        has-closed = record {
          types = typed-closed.0;
          typed = typed-closed.2;
          forms = forms-grow (meaning.signature code) a.walking.types typed-closed.0 cells typed-closed.1 a.walking.forms;
          forms_set = forms-grow (meaning.signature code) a.walking.types typed-closed.0 overlay typed-closed.1 a.walking.forms_set;
          below = a.walking.below;
          machine = good;
          sets = sets;
          laid = a.walking.laid;
          now = later;
          led =
              ap (λ (z : Option ℤ). closing i n fresh z s) none ∙ closing-from
              ∙ ap (λ (xs : List ℕ). option_and_then (λ t. after t (Label.Close i)) (steps_on Side.Unprotected i 0 xs None here.now)) used ∙ close-by (Some closes.0) closes.1;
          after_run = subst (λ (z : MachineView). IsAfterRun s i (place_with sets z) later) closed-so run-closed;
          member =
              at-change_same here.now.members i (fill view.term (Tree.Held closes.0)) (ap is_some here.member) ∙ ap (λ (z : MachineView). Some z.term) closed-so;
          settles = ap (λ (z : MachineView). (settled_stage z).inside) (sym closed-so);
        }

        pub has-closed_so : (visiting i (n + 1) fresh answer s ≡ None) × HasCome meaning code s i fresh cells overlay o false (closing i n fresh answer s)
        has-closed_so = (no-further answer none, has-closed)

    -- Locations that are left to use

    module _ (told used : List Loc) (as_told : fresh ≡ map (λ z. z.0) told) (as_used : map (λ z. z.0) used ≡ view.fresh) where
      front : map (λ z. z.0) told ≡ map (λ z. z.0) used ++ a.walking.rest
      front = sym as_told ∙ a.walking.front ∙ ap (λ (xs : List ℕ). xs ++ a.walking.rest) (sym as_used)

      pub some-left : length used < length told → (l : ℕ) × (more : List ℕ) × (a.walking.rest ≡ l ∷ more)
      some-left below = let r = rest-some told used a.walking.rest (record { 0 = 0 }) front below in (_, r.0, r.1)

      pub none-left : length told ≤ length used → a.walking.rest ≡ []
      none-left within = rest-none told used a.walking.rest front within

-- A further walk of one step

module _ {C V M : Type 0} (meaning : Meaning C V M) (code : C) (s : State) (i : ℕ) (fresh : List ℕ) (cells overlay : List (ℕ × Stored V)) (m : M) (n total : ℕ) (count : n + 1 ≡ total) (answer : Option ℤ) (none : answer ≡ None) where
  as-visit : visiting i (n + 1) fresh answer s ≡ visiting i total fresh None s
  as-visit = ap (λ (o : Option ℤ). visiting i (n + 1) fresh o s) none ∙ ap (λ (k : ℕ). visiting i k fresh None s) count

  pub no-visit : visiting i total fresh None s ≡ None → visiting i (n + 1) fresh answer s ≡ None
  no-visit e = as-visit ∙ e

  pub stays-on : (a : IsAtStep meaning code s i fresh cells overlay m Side.Unprotected total) → (meaning.stage code m).fresh ≡ fresh → HasCome meaning code s i fresh cells overlay m true (visiting i (n + 1) fresh answer s)
  stays-on a used =
      let g = stepping meaning code s i fresh cells overlay m total a in
      record {
        machine = a.walking.machine;
        types = a.walking.types;
        typed = g.typed;
        forms = a.walking.forms;
        forms_set = a.walking.forms_set;
        below = a.walking.below;
        sets = a.walking.sets;
        laid = a.walking.laid;
        now = g.now;
        led =
            as-visit ∙ ap (λ (xs : List ℕ). visiting i total xs None s) (sym used)
            ∙ whole-leads (meaning.signature code) s i Side.Unprotected (place_with a.walking.sets (meaning.stage code m)) total g;
        after_run = g.after_run;
        member = g.member;
        settles = ap (λ (b : Bool). tells_leave (meaning.stage code m).want || b) (told-inside (meaning.stage code m).inside a.runs_on) ∙ or-true (tells_leave (meaning.stage code m).want);
      }
    where
      or-true : (b : Bool) → (b || true) ≡ true
      or-true true = refl
      or-true false = refl

-- if the steps before the last can't be made
pub none-before : (s : State) (i : ℕ) (fresh : List ℕ) (n : ℕ) (answer : Option ℤ) → IsNoWalk Side.Unprotected i n fresh s
    → (visiting i (n + 1) fresh answer s ≡ None) × (closing i n fresh answer s ≡ None)
none-before s i fresh n answer never = (never.never (n + 1) answer (omega arith) (λ e. absurd (omega arith)), by answer)
  where
    by : (o : Option ℤ) → closing i n fresh o s ≡ None
    by None = ap (option_and_then (λ t. after t (Label.Close i))) (never.never n None (omega arith) (λ e. refl))
    by (Some x) = refl

-- the steps of a walk are those that its machine counted
pub as-counted : {C V M : Type 0} (meaning : Meaning C V M) (code : C) (s : State) (i : ℕ) (fresh : List ℕ) (cells overlay : List (ℕ × Stored V)) (m : M) (n : ℕ) → IsAtStep meaning code s i fresh cells overlay m Side.Unprotected n
    → (total : ℕ) → (meaning.stage code m).steps + 1 ≡ total → n + 1 ≡ total
as-counted meaning code s i fresh cells overlay m n a total count = ap (λ (k : ℕ). k + 1) (sym a.counted) ∙ count
