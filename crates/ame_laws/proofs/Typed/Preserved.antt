-- A typed state after labels: a new location gets a type.
use Rattle.std.proofs.Common.{◌≡◌, ℕ, ◌⊎◌, true, false, List, Some, None, refl, sym, ap, subst, ◌∙◌, inl, inr, is_some, arith}
use Rattle.std.specs.Prelude.{if◌then◌else◌, ◌==◌, IsSome}
use Rattle.ame_term.specs.Tree.{Typ, Val, Tree}
use Rattle.ame_term.specs.Signature.{Signature}
use Rattle.ame_term.specs.Frame.{Side, side_of}
use Rattle.ame_term.specs.Act.{act_of}
use Rattle.ame_term.specs.HasType.{HasValue}
use Rattle.ame_term.specs.Maps.{at, put}
use Rattle.ame_term.specs.State.{State, after, run}
use Rattle.ame_term.specs.declared.semantics.StepKind.{StepKind}
use Rattle.ame_term.specs.declared.semantics.Label.{Label}
use Rattle.ame_term.specs.declared.types.Effect.{Effect}
use Rattle.ame_term.specs.declared.types.Loc.{Loc}
use Rattle.ame_term.specs.declared.types.Sort.{Sort}
use Rattle.ame_term.specs.declared.types.TyNo.{TyNo}
use Rattle.ame_term.specs.declared.types.Unary.TheVariants as unary
use Rattle.ame_laws.specs.Rules.{Reduces, Steps, Rule, Runs}
use Rattle.ame_laws.proofs.Followed.{rule_of, runs}
use Rattle.ame_laws.proofs.MapLemmas.{at-put, is_some-put, each-map}
use Rattle.ame_laws.specs.Typed.StoreTyping.{StoreTyping, Grows}
use Rattle.ame_laws.specs.Typed.Fragment.{effect_at}
use Rattle.ame_laws.specs.Typed.TypedAct.{IsTypedAct}
use Rattle.ame_laws.specs.Typed.TypedState.{IsTyped, IsTypedBy, IsTypedLater, IsMember}
use Rattle.ame_laws.proofs.Typed.Weaken.{weaken_cells, weaken_value}
use Rattle.ame_laws.proofs.Typed.GivenTypes.{MakesCell, RuleMakes, step_placed, step_act, stepped, preserved}

-- more locations get types
pub grown : (signature : Signature) (cells later : StoreTyping) (s : State) → Grows cells later → IsTypedBy signature cells s → IsTypedBy signature later s
grown signature cells later s grows typed = record {
  stored = λ l v found. let p = typed.stored l v found in (p.0, grows l p.0 p.1, (weaken_value signature cells later grows p.2.0, p.2.1));
  members = each-map (IsMember signature cells) (IsMember signature later) (λ e f. (weaken_cells signature cells later grows f.0, f.1)) s.members typed.members;
  present = typed.present;
}

-- one more location
abbrev extend : StoreTyping → ℕ → Sort × Typ → StoreTyping
extend cells l cell m = if l == m then Some cell else cells m

module _ (signature : Signature) (cells : StoreTyping) (s : State) (typed : IsTyped signature cells s) where
  -- a typing for what a row makes, whose locations are in the store that it leaves
  record Choice (kind : StepKind) (redex : Tree) (t : State) : Type 0 where
    pub later : StoreTyping
    pub grows : Grows cells later
    pub makes : MakesCell signature later kind redex
    pub located : (l : ℕ) (cell : Sort × Typ) → later l ≡ Some cell → IsSome (at t.store l)

  keep : (kind : StepKind) (redex : Tree) (t : State) → ((l : Loc) → kind ≡ StepKind.Alloc l → ⊥) → ((l : ℕ) → IsSome (at s.store l) → IsSome (at t.store l)) → Choice kind redex t
  keep kind redex t none stay = record {
    later = cells;
    grows = λ l cell is. is;
    makes = λ l sort number v is e. absurd (none l is);
    located = λ l cell is. stay l (typed.located l cell is);
  }

  extended : (l : Loc) (sort : Sort) (number : TyNo) (v : Val) (content : Typ) → at s.store l.0 ≡ None → HasValue signature cells v content
      → Choice (StepKind.Alloc l) (Tree.One (unary.Ref sort number) (Tree.Held v)) (record s { store = put s.store l.0 v })
  extended l sort number v content fresh value = record {
    later = later;
    grows = grows;
    makes = λ m other made w is e.
        let place : l ≡ m = cc in
        let same_sort : sort ≡ other = cc in
        let same : v ≡ w = cc in (
          content,
          ap (λ (z : Loc). later z.0) (sym place) ∙ has ∙ ap (λ (z : Sort). Some (z, content)) same_sort,
          subst (λ (z : Val). HasValue signature later z content) same (weaken_value signature cells later grows value),
        );
    located = λ m cell is. by m cell is (at-put s.store l.0 m v);
  }
    where
      itself : (n : ℕ) → (n == n) ≡ true
      itself n = grind arith

      differ : (m n : ℕ) → (m ≡ n → ⊥) → (m == n) ≡ false
      differ m n apart = grind arith

      later : StoreTyping
      later = extend cells l.0 (sort, content)

      other : (m : ℕ) (cell : Sort × Typ) → cells m ≡ Some cell → l.0 ≡ m → ⊥
      other m cell is same = let clash : false ≡ true = ap is_some (sym fresh ∙ ap (at s.store) same) ∙ typed.located m cell is in absurd (cc)

      grows : Grows cells later
      grows m cell is = rw (differ l.0 m (other m cell is)) is

      has : later l.0 ≡ Some (sort, content)
      has = rw (itself l.0)

      by : (m : ℕ) (cell : Sort × Typ) → later m ≡ Some cell → ((l.0 ≡ m) × (at (put s.store l.0 v) m ≡ Some v)) ⊎ (((l.0 ≡ m) → ⊥) × (at (put s.store l.0 v) m ≡ at s.store m))
          → IsSome (at (put s.store l.0 v) m)
      by m cell is (inl k) = ap is_some k.1
      by m cell is (inr k) = ap is_some k.1 ∙ typed.located m cell (rw (differ l.0 m k.0) at is)

  choice : (side : Side) (kind : StepKind) (redex part : Tree) (t : State) → Reduces s side kind redex part t → (q : Effect) (u : Typ) → IsTypedAct signature cells q u (act_of redex) → Choice kind redex t
  unfolding act_of
  choice _ _ _ _ _ (Reduces.allocation side l sort number v fresh) q u a = extended l sort number v a.0 fresh a.2.0
  choice _ _ _ _ _ (Reduces.writing side l v) q u a = keep StepKind.Write _ _ (λ l is. cc) (λ m there. is_some-put s.store l m v there)
  choice _ _ _ _ _ _ q u a = keep _ _ _ (λ l is. cc) (λ l there. there)

  step_later : (side : Side) (kind : StepKind) (i : ℕ) (t : State) → Steps s side kind i t → IsTypedLater signature cells t
  step_later side kind i t st =
      let p = step_placed signature cells s typed.typed side kind i t st in
      let c = choice side kind st.redex st.part st.after_effect st.reduces (effect_at (side_of st.frames) Effect.Protected) p.part_type (step_act signature cells s typed.typed side kind i t st p) in
      let state = stepped signature c.later s (grown signature cells c.later s c.grows typed.typed) side kind i t st c.makes in
      (c.later, c.grows, record { typed = state; located = λ l cell is. ap (λ (z : State). is_some (at z.store l)) st.result ∙ c.located l cell is })

  -- the store is the same
  same_cells : (label : Label) (t : State) (rule : Rule s label t) → RuleMakes signature cells s label t rule → t.store ≡ s.store → IsTypedLater signature cells t
  same_cells label t rule makes same = (
    cells,
    (λ l cell is. is),
    record {
      typed = preserved signature cells s typed.typed label t rule makes;
      located = λ l cell is. ap (λ (z : List (ℕ × Val)). is_some (at z l)) same ∙ typed.located l cell is;
    },
  )

  rule_later : (label : Label) (t : State) → Rule s label t → IsTypedLater signature cells t
  rule_later _ _ (Rule.steps i kind t is st) = step_later Side.Protected kind i t st
  rule_later _ _ (Rule.frees i kind t idle st) = step_later Side.Unprotected kind i t st
  rule_later label t rule = same_cells label t rule tt refl

-- after a legal label
pub kept : (signature : Signature) (cells : StoreTyping) (s : State) (label : Label) (t : State) → IsTyped signature cells s → after s label ≡ Some t → IsTypedLater signature cells t
kept signature cells s label t typed legal = rule_later signature cells s typed label t (rule_of s label t legal)

-- after a list of labels
along : (signature : Signature) (s t : State) (labels : List Label) → Runs s labels t → (cells : StoreTyping) → IsTyped signature cells s → IsTypedLater signature cells t
along signature _ _ _ (Runs.none s) cells typed = (cells, (λ l cell is. is), typed)
along signature _ _ _ (Runs.more s t u label labels rule rest) cells typed =
    let p = rule_later signature cells s typed label t rule in
    let k = along signature t u labels rest p.0 p.2 in
    (k.0, (λ l cell is. k.1 l cell (p.1 l cell is)), k.2)

pub preserved_along : (signature : Signature) (labels : List Label) (cells : StoreTyping) (s t : State) → IsTyped signature cells s → run s labels ≡ Some t → IsTypedLater signature cells t
preserved_along signature labels cells s t typed e = along signature s t labels ((runs s labels t).0 e) cells typed
