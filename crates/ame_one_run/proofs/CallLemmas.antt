-- A run by the rules makes calls, and those of a device are the ones that its labels make.
use Rattle.std.proofs.Common.{◌≡◌, ◌≢◌, ℕ, ◌==◌, ℤ, Bool, true, false, List, [], ◌∷◌, ◌++◌, map, Option, Some, option_and_then, if◌then◌else◌, refl}
use Rattle.std.proofs.Common.{sym, ap, ◌∙◌}
use Rattle.ame_term.specs.Tree.{Val, Tree}
use Rattle.ame_term.specs.Frame.{Frame, Side, plug_all}
use Rattle.ame_term.specs.Context.{focus}
use Rattle.ame_term.specs.Act.{Act, act_of}
use Rattle.ame_term.specs.Maps.{at}
use Rattle.ame_term.specs.State.{State, after}
use Rattle.ame_term.specs.declared.semantics.StepKind.{StepKind}
use Rattle.ame_term.specs.declared.semantics.Label.{Label}
use Rattle.ame_term.specs.declared.types.Unary.TheVariants as unary
use Rattle.ame_laws.specs.Rules.{Reduces, Rule, Runs}
use Rattle.ame_laws.proofs.FrameLemmas.{focused}
use Rattle.ame_laws.proofs.Followed.{after_of}
use Rattle.ame_journal.specs.Replay.{redex_act, member_act}
use Rattle.ame_journal.specs.Calls.{call_at, label_call, of_next, calls_along}
use Rattle.ame_device.specs.Calls.{answered}
use Rattle.ame_device.specs.declared.told.Heard.{Heard}
use Rattle.ame_one_run.specs.Calls.{DeviceCall, RunsAsking, heard_by}

-- the form that calls a device
abbrev pub calling : ℕ → ℤ → Tree
calling device argument = Tree.One (unary.Call device) (Tree.Held (Val.Int argument))

-- a step with a device's answer reduces a call
pub called_form : (s : State) (side : Side) (answer : ℤ) (redex part : Tree) (t : State) → Reduces s side (StepKind.Device answer) redex part t →
    (device : ℕ) × (argument : ℤ) × (redex ≡ calling device argument)
called_form s _ _ _ _ _ (Reduces.answering device n reply) = (device, n, refl)

-- The calls of a run

asking_call : (s t u : State) (i : ℕ) (answer : ℤ) (labels : List Label) (more : List DeviceCall) → Rule s (Label.Free i (StepKind.Device answer)) t →
    RunsAsking t labels more u → (calls : List DeviceCall) × RunsAsking s (Label.Free i (StepKind.Device answer) ∷ labels) calls u
asking_call s _ u _ _ labels more (Rule.frees i (StepKind.Device answer) t idle st) rest =
    let c = called_form s Side.Unprotected answer st.redex st.part st.after_effect st.reduces in
    let asked : DeviceCall = record { device = c.0; heard = answered c.1 answer } in
    (asked ∷ more, RunsAsking.call s t u i st.frames asked labels more (st.found ∙ ap (λ (r : Tree). Some (plug_all st.frames r)) c.2) (Rule.frees i (StepKind.Device answer) t idle st) rest)

asking : (s t u : State) (label : Label) (labels : List Label) (more : List DeviceCall) → Rule s label t → RunsAsking t labels more u →
    (calls : List DeviceCall) × RunsAsking s (label ∷ labels) calls u
asking s t u (Label.Free i (StepKind.Device answer)) labels more rule rest = asking_call s t u i answer labels more rule rest
asking s t u label labels more rule rest = (more, RunsAsking.other s t u label labels more (λ i answer e. cc) rule rest)

pub runs-ask : (s : State) (labels : List Label) (u : State) → Runs s labels u → (calls : List DeviceCall) × RunsAsking s labels calls u
runs-ask _ _ _ (Runs.none s) = ([], RunsAsking.none s)
runs-ask _ _ _ (Runs.more s t u label labels rule runs) =
    let rest = runs-ask t labels u runs in asking s t u label labels rest.0 rule rest.1

-- Calls that devices hear

-- a label that isn't a call of a device makes none
quiet : (k : ℕ) (s : State) (label : Label) → ((i : ℕ) (answer : ℤ) → label ≢ Label.Free i (StepKind.Device answer)) → label_call k s label ≡ []
quiet k s (Label.Free i (StepKind.Device answer)) other = absurd (other i answer refl)
quiet k s _ other = refl

-- a member at a call makes it
at_call : (s : State) (i device : ℕ) (argument : ℤ) (frames : List Frame) → at s.members i ≡ Some (plug_all frames (calling device argument)) →
    member_act i s ≡ Some (Act.Calls device argument)
unfolding act_of
at_call s i device argument frames found =
    ap (λ (o : Option Tree). option_and_then (λ term. redex_act (focus term)) o) found
    ∙ ap redex_act (focused frames (calling device argument) refl)

-- the calls of one device, by whether the first one is of it
first_heard : (k device : ℕ) (argument answer : ℤ) (more : List DeviceCall) (others : List (ℤ × ℤ)) (b : Bool) → (device == k) ≡ b →
    heard_by k more ≡ map (λ call. answered call.0 call.1) others →
    heard_by k (record { device = device; heard = answered argument answer } ∷ more)
    ≡ map (λ call. answered call.0 call.1) ((if device == k then (argument, answer) ∷ [] else []) ++ others)
first_heard k device argument answer more others true is rest = rw is (ap (λ (l : List Heard). answered argument answer ∷ l) rest)
first_heard k device argument answer more others false is rest = rw is rest

pub asks-along : (k : ℕ) (s : State) (labels : List Label) (calls : List DeviceCall) (u : State) → RunsAsking s labels calls u →
    heard_by k calls ≡ map (λ call. answered call.0 call.1) (calls_along k s labels)
asks-along k _ _ _ _ (RunsAsking.none s) = refl
asks-along k _ _ _ _ (RunsAsking.call s t u i frames asked labels more found rule rest) =
    let answer = asked.heard.answer in
    let label = Label.Free i (StepKind.Device answer) in
    let here : label_call k s label ≡ call_at k (Some answer) (Some (Act.Calls asked.device asked.heard.argument)) =
    ap (call_at k (Some answer)) (at_call s i asked.device asked.heard.argument frames found) in
    let next : of_next (λ v. calls_along k v labels) (after s label) ≡ calls_along k t labels =
    ap (of_next (λ v. calls_along k v labels)) (after_of s label t rule) in
    first_heard k asked.device asked.heard.argument answer more (calls_along k t labels) (asked.device == k) refl (asks-along k t labels more u rest)
    ∙ sym (ap (λ (l : List (ℤ × ℤ)). map (λ call. answered call.0 call.1) (l ++ of_next (λ v. calls_along k v labels) (after s label))) here
    ∙ ap (λ (l : List (ℤ × ℤ)). map (λ call. answered call.0 call.1) (call_at k (Some answer) (Some (Act.Calls asked.device asked.heard.argument)) ++ l)) next)
asks-along k _ _ _ _ (RunsAsking.other s t u label labels more other rule rest) =
    asks-along k t labels more u rest
    ∙ sym (ap (λ (l : List (ℤ × ℤ)). map (λ call. answered call.0 call.1) (l ++ of_next (λ v. calls_along k v labels) (after s label))) (quiet k s label other)
    ∙ ap (λ (o : Option State). map (λ call. answered call.0 call.1) (of_next (λ v. calls_along k v labels) o)) (after_of s label t rule))
