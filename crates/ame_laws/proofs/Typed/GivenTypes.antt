-- A state that is typed by a given store typing, after a label by a rule.
use Rattle.std.proofs.Common.{◌≡◌, ℕ, ◌⊎◌, List, Some, refl, sym, ap, subst, ◌∙◌, inl, inr, is_some}
use Rattle.ame_term.specs.Tree.{Typ, Val, Tree}
use Rattle.ame_term.specs.Signature.{Signature}
use Rattle.ame_term.specs.Frame.{Frame, Side, plug_all, side_of}
use Rattle.ame_term.specs.Act.{act_of}
use Rattle.ame_term.specs.HasType.{HasValue}
use Rattle.ame_term.specs.Maps.{at, put, change}
use Rattle.ame_term.specs.State.{State, after}
use Rattle.ame_term.specs.declared.semantics.StepKind.{StepKind}
use Rattle.ame_term.specs.declared.semantics.Label.{Label}
use Rattle.ame_term.specs.declared.types.Effect.{Effect}
use Rattle.ame_term.specs.declared.types.Loc.{Loc}
use Rattle.ame_term.specs.declared.types.Sort.{Sort}
use Rattle.ame_term.specs.declared.types.TyNo.{TyNo}
use Rattle.ame_term.specs.declared.types.Unary.TheVariants as unary
use Rattle.ame_laws.specs.Rules.{Reduces, Steps, Rule}
use Rattle.ame_laws.proofs.RuleEffects.{row_redex}
use Rattle.ame_laws.proofs.Followed.{rule_of}
use Rattle.ame_laws.proofs.MapLemmas.{at-put, is_some-put, each-at, each-put, each-change, each-without, is_some-change}
use Rattle.ame_laws.specs.Typed.StoreTyping.{StoreTyping}
use Rattle.ame_laws.specs.Typed.WellFormed.{IsWellFormed}
use Rattle.ame_laws.specs.Typed.Fragment.{IsValueOf, effect_at}
use Rattle.ame_laws.specs.Typed.TypedAct.{IsTypedAct}
use Rattle.ame_laws.specs.Typed.TypedTerm.{IsTypedAt}
use Rattle.ame_laws.specs.Typed.TypedState.{IsTypedBy, IsMember, IsStored}
use Rattle.ame_laws.specs.Typed.NewCell.{HasNewCell, HasNewCellOf, HasNewCellAfter}
use Rattle.ame_laws.specs.Typed.LocalRun.{LocalStep}
use Rattle.ame_laws.proofs.Typed.FrameTypes.{placed}
use Rattle.ame_laws.proofs.Typed.LocalLemmas.{local_step}

-- the location that a redex makes by a kind of step, if it makes one, has the sort and the value's type
abbrev pub MakesCell : Signature → StoreTyping → StepKind → Tree → Type 0
MakesCell signature cells kind redex =
    (l : Loc) (sort : Sort) (number : TyNo) (v : Val) → kind ≡ StepKind.Alloc l → redex ≡ Tree.One (unary.Ref sort number) (Tree.Held v)
    → (content : Typ) × (cells l.0 ≡ Some (sort, content)) × HasValue signature cells v content

-- the same of the step that a rule is
abbrev pub RuleMakes : Signature → StoreTyping → (s : State) (label : Label) (t : State) → Rule s label t → Type 0
RuleMakes signature cells s _ _ (Rule.steps i kind t is st) = MakesCell signature cells kind st.redex
RuleMakes signature cells s _ _ (Rule.frees i kind t idle st) = MakesCell signature cells kind st.redex
RuleMakes signature cells s _ _ _ = Unit {0}

-- by one typing of locations
module _ (signature : Signature) (cells : StoreTyping) (s : State) (typed : IsTypedBy signature cells s) where
  put_typed : (l : ℕ) (v : Val) (cell : Sort × Typ) → cells l ≡ Some cell → IsValueOf signature cells v cell.1 → IsTypedBy signature cells (record s { store = put s.store l v })
  put_typed l v cell is value = record { stored = λ m w found. by m w found (at-put s.store l m v); members = typed.members; present = typed.present }
    where
      by : (m : ℕ) (w : Val) → at (put s.store l v) m ≡ Some w → ((l ≡ m) × (at (put s.store l v) m ≡ Some v)) ⊎ (((l ≡ m) → ⊥) × (at (put s.store l v) m ≡ at s.store m))
          → IsStored signature cells m w
      by m w found (inl k) = let same : v ≡ w = cc in (cell, ap cells (sym k.0) ∙ is, subst (λ (z : Val). IsValueOf signature cells z cell.1) same value)
      by m w found (inr k) = typed.stored m w (sym k.1 ∙ found)

  -- after the effect of a row
  effect_typed : (side : Side) (kind : StepKind) (redex part : Tree) (t : State) → Reduces s side kind redex part t → MakesCell signature cells kind redex → (q : Effect) (u : Typ) → IsWellFormed redex
      → IsTypedAct signature cells q u (act_of redex) → IsTypedBy signature cells t
  unfolding act_of IsWellFormed
  effect_typed _ _ _ _ _ (Reduces.allocation side l sort number v fresh) makes q u formed a = let p = makes l sort number v refl refl in put_typed l.0 v (sort, p.0) p.1 (p.2, formed)
  effect_typed _ _ _ _ _ (Reduces.writing side l v) makes q u formed a = put_typed l v (a.0, a.1) a.2 a.3
  effect_typed _ _ _ _ _ (Reduces.spawning side body) makes q u formed a = record {
    stored = typed.stored;
    members = each-put (IsMember signature cells) s.members s.next body a.0 typed.members;
    present = λ i is. is_some-put s.members s.next i body (typed.present i is);
  }
  effect_typed _ _ _ _ _ (Reduces.printing side n) makes q u formed a = record { stored = typed.stored; members = typed.members; present = typed.present }
  effect_typed _ _ _ _ _ _ makes q u formed a = typed

  -- a row is a local step, which is fed what the store has
  pub fed : (side : Side) (kind : StepKind) (redex part : Tree) (t : State) → Reduces s side kind redex part t → MakesCell signature cells kind redex → IsWellFormed redex → LocalStep signature cells side redex part
  unfolding IsWellFormed
  fed _ _ _ _ _ (Reduces.pure side redex part row) makes formed = LocalStep.becomes side redex part row
  fed _ _ _ _ _ (Reduces.allocation side l sort number v fresh) makes formed = let p = makes l sort number v refl refl in LocalStep.allocated side sort number v l.0 p.0 p.1 (p.2, formed)
  fed _ _ _ _ _ (Reduces.reading side l v found) makes formed = let p = typed.stored l v found in LocalStep.read side l v p.0.0 p.0.1 p.1 p.2
  fed _ _ _ _ _ (Reduces.peeking l v found) makes formed = let p = typed.stored l v found in LocalStep.peeked l v p.0.0 p.0.1 p.1 p.2
  fed _ _ _ _ _ (Reduces.writing side l v) makes formed = LocalStep.written side l v
  fed _ _ _ _ _ (Reduces.spawning side body) makes formed = LocalStep.spawned side body
  fed _ _ _ _ _ (Reduces.printing side n) makes formed = LocalStep.printed side n
  fed _ _ _ _ _ Reduces.passing makes formed = LocalStep.passed
  fed _ _ _ _ _ (Reduces.answering device n reply) makes formed = LocalStep.answered device n reply

  -- a member's term is changed to another typed one
  changed : (t : State) → IsTypedBy signature cells t → (i : ℕ) (term : Tree) → IsMember signature cells term → IsTypedBy signature cells (record t { members = change t.members i term })
  changed t state i term member = record {
    stored = state.stored;
    members = each-change (IsMember signature cells) t.members i term member state.members;
    present = λ j is. is_some-change t.members i j term ∙ state.present j is;
  }

  member_typed : (i : ℕ) (term : Tree) → at s.members i ≡ Some term → IsMember signature cells term
  member_typed i term found = each-at (IsMember signature cells) s.members i term found typed.members

  module _ (side : Side) (kind : StepKind) (i : ℕ) (t : State) (st : Steps s side kind i t) where
    pub step_placed : IsTypedAt signature cells Effect.Protected st.frames st.redex Typ.Unit
    step_placed = placed signature cells Effect.Protected st.frames st.redex Typ.Unit (member_typed i (plug_all st.frames st.redex) st.found)

    pub step_act : (p : IsTypedAt signature cells Effect.Protected st.frames st.redex Typ.Unit)
        → IsTypedAct signature cells (effect_at (side_of st.frames) Effect.Protected) p.part_type (act_of st.redex)
    step_act p = p.act_typed (row_redex s side kind st.redex st.part st.after_effect st.reduces)

    pub step_local : MakesCell signature cells kind st.redex → LocalStep signature cells (side_of st.frames) st.redex st.part
    step_local makes =
        subst (λ (z : Side). LocalStep signature cells z st.redex st.part) (sym st.on)
        (fed side kind st.redex st.part st.after_effect st.reduces makes step_placed.part_typed.1)

    pub stepped : MakesCell signature cells kind st.redex → IsTypedBy signature cells t
    stepped makes =
        let p = step_placed in
        let state = effect_typed side kind st.redex st.part st.after_effect st.reduces makes (effect_at (side_of st.frames) Effect.Protected) p.part_type p.part_typed.1 (step_act p) in
        subst (IsTypedBy signature cells) (sym st.result)
        (changed st.after_effect state i (plug_all st.frames st.part)
        (local_step signature cells Effect.Protected st.frames st.redex st.part Typ.Unit (member_typed i (plug_all st.frames st.redex) st.found) (step_local makes)))

  pub preserved : (label : Label) (t : State) (rule : Rule s label t) → RuleMakes signature cells s label t rule → IsTypedBy signature cells t
  preserved _ _ (Rule.activates i term idle found calm) makes =
      record { stored = typed.stored; members = typed.members; present = λ j is. let same : j ≡ i = cc in ap (λ n. is_some (at s.members n)) same ∙ ap is_some found }
  preserved _ _ (Rule.steps i kind t is st) makes = stepped Side.Protected kind i t st makes
  preserved _ _ (Rule.leaves i term is found stands) makes = record { stored = typed.stored; members = typed.members; present = λ j is. absurd (cc) }
  preserved _ _ (Rule.ends i v is found) makes =
      record { stored = typed.stored; members = each-without (IsMember signature cells) s.members i typed.members; present = λ j is. absurd (cc) }
  preserved _ _ (Rule.frees i kind t idle st) makes = stepped Side.Unprotected kind i t st makes
  preserved _ _ (Rule.closes i frames v idle found on) makes =
      changed s typed i (plug_all frames (Tree.Held v))
      (local_step signature cells Effect.Protected frames (Tree.Unprotected (Tree.Held v)) (Tree.Held v) Typ.Unit
      (member_typed i (plug_all frames (Tree.Unprotected (Tree.Held v))) found)
      (subst (λ (z : Side). LocalStep signature cells z (Tree.Unprotected (Tree.Held v)) (Tree.Held v)) (sym on) (LocalStep.closed v)))

  pub makes_of : (kind : StepKind) (frames : List Frame) (redex : Tree) → HasNewCell signature cells kind (plug_all frames redex) → MakesCell signature cells kind redex
  makes_of kind frames redex has l sort number v is e = has l frames sort number v is (ap (plug_all frames) e)

  rule_makes : (label : Label) (t : State) (rule : Rule s label t) → HasNewCellAfter signature cells s label → RuleMakes signature cells s label t rule
  rule_makes _ _ (Rule.steps i kind t is st) has = makes_of kind st.frames st.redex (has i is (plug_all st.frames st.redex) st.found)
  rule_makes _ _ (Rule.frees i kind t idle st) has = makes_of kind st.frames st.redex (has (plug_all st.frames st.redex) st.found)
  rule_makes _ _ _ has = tt

  pub label_kept : (label : Label) (t : State) → after s label ≡ Some t → HasNewCellAfter signature cells s label → IsTypedBy signature cells t
  label_kept label t e has = let rule = rule_of s label t e in preserved label t rule (rule_makes label t rule has)

  pub step_kept : (side : Side) (kind : StepKind) (i : ℕ) (t : State) → Steps s side kind i t → HasNewCellOf signature cells s kind i → IsTypedBy signature cells t
  step_kept side kind i t st has = stepped side kind i t st (makes_of kind st.frames st.redex (has (plug_all st.frames st.redex) st.found))
