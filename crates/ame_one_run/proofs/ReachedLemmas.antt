-- Notes, certificates and faults report runs by the rules.
use Rattle.std.proofs.Common.{◌≡◌, ◌↔◌, ◌⊎◌, inl, inr, ℕ, ◌+◌, ◌==◌, ℤ, pos, Bool, true, false, List, [], ◌∷◌, map, replicate, Option, Some, None}
use Rattle.std.proofs.Common.{is_some, if◌then◌else◌, refl, sym, ap, ◌∙◌, arith, eqb-true}
use Rattle.std.proofs.lemmas.Bool.{false≢true}
use Rattle.std.proofs.lemmas.List.Elements.{All-map, All-weaker, All-contains}
use Rattle.std.specs.Prelude.{IsSome, All, Contains}
use Rattle.ame_term.specs.Tree.{Val, Tree}
use Rattle.ame_term.specs.Frame.{Side, same_side, plug_all}
use Rattle.ame_term.specs.Context.{Focus, focus}
use Rattle.ame_term.specs.Act.{Act, act_of}
use Rattle.ame_term.specs.Height.{height, max_height}
use Rattle.ame_term.specs.Maps.{at}
use Rattle.ame_term.specs.State.{State, run, performed_on}
use Rattle.ame_term.specs.declared.semantics.StepKind.{StepKind}
use Rattle.ame_term.specs.declared.semantics.Label.{Label}
use Rattle.ame_term.specs.declared.types.Unary.TheVariants as unary
use Rattle.ame_term.specs.declared.types.Binary.TheVariants as binary
use Rattle.ame_laws.specs.Rules.{Becomes, Runs}
use Rattle.ame_laws.proofs.FrameLemmas.{found}
use Rattle.ame_laws.proofs.Followed.{runs}
use Rattle.ame_laws.proofs.RuleEffects.{row_of}
use Rattle.ame_journal.specs.declared.entry.EntryKind.{EntryKind}
use Rattle.ame_journal.specs.Replayed.{Replayed, has_such, side_at, is_false_condition, value_height, coming_height, is_tall}
use Rattle.ame_journal.specs.Labels.{fragment_labels, free_labels, attempt_labels, Unfolds}
use Rattle.ame_journal.specs.declared.certificate.Certificate.{Certificate}
use Rattle.ame_protocol.specs.Waits.Certificates.{IsCertificate}
use Rattle.ame_protocol.specs.Event.Faults.{ComesToCall}
use Rattle.ame_one_run.specs.Reached.{ReachesFalse, IsBlockedIn, ComesToCallOf, GrowsTooHigh}
use Rattle.ame_one_run.proofs.CallLemmas.{calling, called_form}

some_such : {X : Type 0} (test : X → Bool) (o : Option X) → has_such test o ≡ true → (x : X) × (o ≡ Some x) × (test x ≡ true)
some_such test None e = cc
some_such test (Some x) e = (x, refl, e)

-- False conditions

condition_is_false : (f : Focus) → is_false_condition f ≡ true → f ≡ Focus.AtRedex Side.Protected (Tree.One unary.Block (Tree.Held (Val.Bool false)))
condition_is_false (Focus.AtRedex Side.Protected (Tree.One unary.Block (Tree.Held (Val.Bool false)))) e = refl
condition_is_false _ e = cc

pub certified-fails : (s : State) (i n : ℕ) (fresh : List ℕ) → IsCertificate s i n fresh → ReachesFalse s i
certified-fails s i n fresh c =
    let m = some_such (λ term. is_false_condition (focus term)) (at c.reached.members i) c.fails in
    let block = Tree.One unary.Block (Tree.Held (Val.Bool false)) in
    let r = found m.0 block Side.Protected (condition_is_false (focus m.0) m.2) in
    record {
      kinds = c.kinds;
      t = c.reached;
      runs = (runs s (fragment_labels i c.kinds) c.reached).0 c.made;
      frames = r.frames;
      stands = m.1 ∙ ap Some r.term;
      outside = r.on;
    }

-- certificates of all members
some-left : (s : State) (certificates : List Certificate) → ((number : ℕ) → IsSome (at s.members number) ↔ Contains (map (λ c. c.number) certificates) number) →
    (certificates ≡ [] → ⊥) → s.members ≡ [] → ⊥
some-left s [] members some none = some refl
some-left s (c ∷ cs) members some none =
    let there : IsSome (at s.members c.number) = (members c.number).1 (0, omega arith, refl) in
    let missing : is_some (at s.members c.number) ≡ false = ap (λ (ms : List (ℕ × Tree)). is_some (at ms c.number)) none in
    false≢true (sym missing ∙ there)

pub certified-blocked : (s : State) (certificates : List Certificate) → All (λ c. IsCertificate s c.number c.steps c.fresh) certificates →
    ((number : ℕ) → IsSome (at s.members number) ↔ Contains (map (λ c. c.number) certificates) number) → (certificates ≡ [] → ⊥) → IsBlockedIn s
certified-blocked s certificates hold members some =
    let fail = All-map (ReachesFalse s) (λ (c : Certificate). c.number) certificates
    (All-weaker (λ (c : Certificate). IsCertificate s c.number c.steps c.fresh) (λ (c : Certificate). ReachesFalse s c.number)
    (λ c holds. certified-fails s c.number c.steps c.fresh holds) certificates hold) in
    record {
      left = some-left s certificates members some;
      each = λ i term found. All-contains (ReachesFalse s) (map (λ (c : Certificate). c.number) certificates) i fail ((members i).0 (ap is_some found));
    }

-- Calls

call_is : (redex : Tree) (device : ℕ) (argument : ℤ) → act_of redex ≡ Act.Calls device argument → redex ≡ calling device argument
unfolding act_of
call_is redex device argument e =
    let s : State = record { store = []; members = []; active = None; output = []; next = 0 } in
    let made : performed_on Side.Unprotected (StepKind.Device (pos 0)) (act_of redex) s ≡ Some (Tree.Held (Val.Int (pos 0)), s) =
    ap (λ (a : Act). performed_on Side.Unprotected (StepKind.Device (pos 0)) a s) e in
    let row = row_of s Side.Unprotected (StepKind.Device (pos 0)) redex (Tree.Held (Val.Int (pos 0)), s) made in
    let c = called_form s Side.Unprotected (pos 0) redex (Tree.Held (Val.Int (pos 0))) s row in
    let same : Act.Calls c.0 c.1 ≡ Act.Calls device argument = sym (ap act_of c.2) ∙ e in
    let device_is : c.0 ≡ device = cc in
    let argument_is : c.1 ≡ argument = cc in
    c.2 ∙ ap (λ (d : ℕ). calling d c.1) device_is ∙ ap (calling device) argument_is

pub comes-to_call : (r : Replayed) (device : ℕ) → ComesToCall r device → ComesToCallOf r.state device
comes-to_call r device c =
    let h = found c.term c.redex Side.Unprotected c.stands in
    record {
      number = c.number;
      steps = c.steps;
      t = c.reached;
      runs = (runs r.state (free_labels c.number (replicate c.steps StepKind.Local)) c.reached).0 c.made;
      frames = h.frames;
      argument = c.argument;
      stands = c.member ∙ ap Some (h.term ∙ ap (plug_all h.frames) (call_is c.redex device c.argument c.calls));
      under = h.on;
    }

-- Heights

abbrev IsHigh : Tree → Type 0
IsHigh redex = (value : Val) × Becomes redex (Tree.Held value) × (height value ≡ max_height + 1)

becomes_high : (redex : Tree) → value_height redex ≡ max_height + 1 → IsHigh redex
becomes_high (Tree.Lambda head body) e = (Val.Fun head body, Becomes.function head body, e)
becomes_high (Tree.Two binary.Pair (Tree.Held v) (Tree.Held w)) e = (Val.Pair v w, Becomes.pair v w, e)
becomes_high _ e = absurd (omega arith)

comes_high : (side : Side) (f : Focus) → coming_height side f ≡ max_height + 1
    → (under : Side) × (redex : Tree) × (f ≡ Focus.AtRedex under redex) × IsHigh redex
comes_high side (Focus.AtValue v) e = absurd (omega arith)
comes_high side (Focus.AtRedex under redex) e = by (same_side side under) e
  where
    by : (b : Bool) → (if b then value_height redex else 0) ≡ max_height + 1
        → (at : Side) × (r : Tree) × (Focus.AtRedex under redex ≡ Focus.AtRedex at r) × IsHigh r
    by true e' = (under, redex, refl, becomes_high redex e')
    by false e' = absurd (omega arith)

attempted : (side : Side) (s t : State) (i : ℕ) (kinds : List StepKind) → run s (attempt_labels side i kinds) ≡ Some t →
    Runs s (fragment_labels i kinds) t ⊎ Runs s (free_labels i kinds) t
attempted Side.Protected s t i kinds made = inl ((runs s (fragment_labels i kinds) t).0 made)
attempted Side.Unprotected s t i kinds made = inr ((runs s (free_labels i kinds) t).0 made)

tall-grows : (s t : State) (side : Side) (i : ℕ) (kinds : List StepKind) → run s (attempt_labels side i kinds) ≡ Some t
    → is_tall side i t ≡ true → GrowsTooHigh s i
tall-grows s t side i kinds made tall =
    let m = some_such (λ term. coming_height side (focus term) == max_height + 1) (at t.members i) tall in
    let h = comes_high side (focus m.0) (eqb-true (coming_height side (focus m.0)) (max_height + 1) m.2) in
    let r = found m.0 h.1 h.0 h.2 in
    record {
      kinds = kinds;
      t = t;
      runs = attempted side s t i kinds made;
      frames = r.frames;
      redex = h.1;
      stands = m.1 ∙ ap Some r.term;
      value = h.3.0;
      becomes = h.3.1;
      high = h.3.2;
    }

-- an entry that notes it
pub noted-grows : (r : Replayed) (i : ℕ) (kind : EntryKind) (n : ℕ) (fresh : List ℕ) (answer : Option ℤ) (labels : List Label) (t : Replayed) →
    Unfolds r i kind n fresh answer labels t → kind ≡ EntryKind.Tall → GrowsTooHigh t.state i
noted-grows r i _ _ _ _ _ _ (Unfolds.leaves kinds n fresh s outside are runs) e = cc
noted-grows r i _ _ _ _ _ _ (Unfolds.ends kinds n fresh s outside are runs) e = cc
noted-grows r i _ _ _ _ _ _ (Unfolds.arrives outside is) e = cc
noted-grows r i _ _ _ _ _ _ (Unfolds.goes_on kinds n fresh answer s inside are runs) e = cc
noted-grows r i _ _ _ _ _ _ (Unfolds.closes kinds n fresh s inside are runs) e = cc
noted-grows r i _ _ _ _ _ _ (Unfolds.fails kinds n fresh s are runs fails) e = cc
noted-grows r i _ _ _ _ _ _ (Unfolds.is_cut kinds n fresh s are runs) e = cc
noted-grows r i _ _ _ _ _ _ (Unfolds.grows kinds n fresh s are made tall) e = tall-grows r.state s (side_at i r.state) i kinds made tall
