-- The sorts of cells and the types that their `ref` forms store, by the types of locations.
use Rattle.std.proofs.Common.{All, ◌≡◌, ◌<◌, ℕ, ◌⊎◌, inl, inr, Bool, true, false, List, [], ◌∷◌, ◌++◌, Option, Some, None, is_some, if◌then◌else◌, ◌==◌, refl, sym, ap, ◌∙◌, subst}
use Rattle.std.proofs.lemmas.Bool.{eq-eqb, ne_eqb, eqb-true}
use Rattle.std.proofs.lemmas.List.{same_from_push}
use Rattle.std.proofs.lemmas.List.Elements.{All-nil, All-cons, All-head, All-tail}
use Rattle.ame_term.specs.Tree.{Typ, Val, Tree}
use Rattle.ame_term.specs.Signature.{Signature, MayStore}
use Rattle.ame_term.specs.Frame.{Side, plug_all, side_of}
use Rattle.ame_term.specs.Context.{Focus, focus}
use Rattle.ame_term.specs.Act.{Act, act_of}
use Rattle.ame_term.specs.HasType.{HasValue}
use Rattle.ame_term.specs.Maps.{at, put}
use Rattle.ame_term.specs.State.{State, after}
use Rattle.ame_term.specs.declared.semantics.StepKind.{StepKind}
use Rattle.ame_term.specs.declared.types.Effect.{Effect}
use Rattle.ame_term.specs.declared.types.Loc.{Loc}
use Rattle.ame_term.specs.declared.types.Sort.{Sort}
use Rattle.ame_term.specs.declared.types.TyNo.{TyNo}
use Rattle.ame_term.specs.declared.types.Unary.TheVariants as unary
use Rattle.ame_laws.specs.Typed.StoreTyping.{StoreTyping, Grows}
use Rattle.ame_laws.specs.Typed.Fragment.{IsFragment, effect_at}
use Rattle.ame_laws.specs.Typed.NewCell.{HasNewCellOf, HasNewCellAfter}
use Rattle.ame_laws.specs.Typed.TypedAct.{IsTypedAct}
use Rattle.ame_laws.specs.Typed.TypedState.{IsTyped, IsMember}
use Rattle.ame_laws.specs.Standing.{HasRedex}
use Rattle.ame_laws.proofs.FrameLemmas.{found, focused}
use Rattle.ame_laws.proofs.MapLemmas.{at-put, each-at}
use Rattle.ame_laws.proofs.Typed.FrameTypes.{placed}
use Rattle.ame_laws.proofs.Typed.GivenTypes.{label_kept}
use Rattle.ame_laws.proofs.Typed.Preserved.{grown}
use Rattle.ame_laws.proofs.Typed.Weaken.{weaken_value}
use Rattle.ame_journal.specs.Labels.{fresh_of}
use Rattle.ame_journal.specs.Replay.{or_else}
use Rattle.ame_journal.specs.declared.entry.Entry.{Entry}
use Rattle.ame_check.specs.Shows.{HasForm, HaveForms, AreBelow, TellBelow}
use Rattle.ame_check.specs.Walk.{label_by}
use Rattle.ame_check.specs.declared.stored.Stored.{Stored}

pub grows-through : {first types later : StoreTyping} → Grows first types → Grows types later → Grows first later
grows-through a b l cell is = b l cell (a l cell is)

module _ {V : Type 0} (signature : Signature) where
  pub forms-grow : (types later : StoreTyping) (cells : List (ℕ × Stored V)) → Grows types later → HaveForms signature types cells → HaveForms signature later cells
  forms-grow types later cells grows forms l cell is = let h = forms l cell is in (h.0, grows l (cell.sort, h.0) h.1, h.2)

  pub forms-none : (types : StoreTyping) (cells : List (ℕ × Stored V)) → cells ≡ [] → HaveForms signature types cells
  forms-none types cells none l cell is = absurd (let clash : ◌≡◌ {A = Option (Stored V)} None (Some cell) = sym (ap (λ (es : List (ℕ × Stored V)). at es l) none) ∙ is in cc)

  pub forms-put : (types : StoreTyping) (cells : List (ℕ × Stored V)) (l : ℕ) (cell : Stored V) → HasForm signature types l cell.sort cell.number → HaveForms signature types cells → HaveForms signature types (put cells l cell)
  forms-put types cells l cell has forms k other is = by (at-put cells l k cell)
    where
      by : ((l ≡ k) × (at (put cells l cell) k ≡ Some cell)) ⊎ (((l ≡ k) → ⊥) × (at (put cells l cell) k ≡ at cells k)) → HasForm signature types k other.sort other.number
      by (inl a) =
          let both : ◌≡◌ {A = Option (Stored V)} (Some cell) (Some other) = sym a.1 ∙ is in
          let same : cell ≡ other = cc in
          subst (λ (z : Stored V). HasForm signature types k z.sort z.number) same (subst (λ (z : ℕ). HasForm signature types z cell.sort cell.number) a.0 has)
      by (inr a) = forms k other (sym a.1 ∙ is)

  pub form-found : (types : StoreTyping) (overlay cells : List (ℕ × Stored V)) (l : ℕ) (cell : Stored V) → HaveForms signature types overlay → HaveForms signature types cells
      → Some cell ≡ or_else (at overlay l) (at cells l) → HasForm signature types l cell.sort cell.number
  form-found types overlay cells l cell over under is = by (at overlay l) refl is
    where
      by : (o : Option (Stored V)) → at overlay l ≡ o → Some cell ≡ or_else o (at cells l) → HasForm signature types l cell.sort cell.number
      by None e f = under l cell (sym f)
      by (Some c) e f = over l cell (e ∙ sym f)

  pub forms-merged : (types : StoreTyping) (overlay before cells : List (ℕ × Stored V)) → HaveForms signature types overlay → HaveForms signature types before
      → ((l : ℕ) → at cells l ≡ or_else (at overlay l) (at before l)) → HaveForms signature types cells
  forms-merged types overlay before cells over under merged l cell is = form-found types overlay before l cell over under (sym is ∙ merged l)

-- Their places

module _ {X : Type 0} (P : X → Type 0) where
  pub all-front : (xs ys : List X) → All P (xs ++ ys) → All P xs
  all-front [] ys all = All-nil P
  all-front (x ∷ xs) ys all = All-cons P x xs (All-head P x (xs ++ ys) all) (all-front xs ys (All-tail P x (xs ++ ys) all))

  pub all-behind : (xs : List X) (x : X) (ys : List X) → All P (xs ++ x ∷ ys) → P x
  all-behind [] x ys all = All-head P x ys all
  all-behind (z ∷ xs) x ys all = all-behind xs x ys (All-tail P z (xs ++ x ∷ ys) all)

module _ {V : Type 0} (most : ℕ) where
  pub below-none : (cells : List (ℕ × Stored V)) → cells ≡ [] → AreBelow most cells
  below-none cells none l cell is = absurd (let clash : ◌≡◌ {A = Option (Stored V)} None (Some cell) = sym (ap (λ (es : List (ℕ × Stored V)). at es l) none) ∙ is in cc)

  pub below-put : (cells : List (ℕ × Stored V)) (l : ℕ) (cell : Stored V) → l < most → AreBelow most cells → AreBelow most (put cells l cell)
  below-put cells l cell under below k other is = by (at-put cells l k cell)
    where
      by : ((l ≡ k) × (at (put cells l cell) k ≡ Some cell)) ⊎ (((l ≡ k) → ⊥) × (at (put cells l cell) k ≡ at cells k)) → k < most
      by (inl a) = subst (λ (z : ℕ). z < most) a.0 under
      by (inr a) = below k other (sym a.1 ∙ is)

  pub below-found : (overlay cells : List (ℕ × Stored V)) (l : ℕ) (cell : Stored V) → AreBelow most overlay → AreBelow most cells → Some cell ≡ or_else (at overlay l) (at cells l) → l < most
  below-found overlay cells l cell over under is = by (at overlay l) refl is
    where
      by : (o : Option (Stored V)) → at overlay l ≡ o → Some cell ≡ or_else o (at cells l) → l < most
      by None e f = under l cell (sym f)
      by (Some c) e f = over l cell (e ∙ sym f)

pub below-merged : {V : Type 0} (entries : List Entry) (entry : Entry) (overlay before cells : List (ℕ × Stored V))
    → ((most : ℕ) → All (λ l. l < most) entry.fresh → AreBelow most before → AreBelow most overlay) → ((most : ℕ) → TellBelow most entries → AreBelow most before)
    → ((l : ℕ) → at cells l ≡ or_else (at overlay l) (at before l)) → (most : ℕ) → TellBelow most (entries ++ entry ∷ []) → AreBelow most cells
below-merged entries entry overlay before cells over under merged most told l cell is =
    let first = under most (all-front (λ (e : Entry). All (λ l. l < most) e.fresh) entries (entry ∷ []) told) in
    below-found most overlay before l cell (over most (all-behind (λ (e : Entry). All (λ l. l < most) e.fresh) entries entry [] told) first) first (sym is ∙ merged l)

-- the act of a member at a redex
pub member-act : (signature : Signature) (types : StoreTyping) (term redex : Tree) (side : Side) → focus term ≡ Focus.AtRedex side redex → IsMember signature types term
    → (u : Typ) × IsTypedAct signature types (effect_at side Effect.Protected) u (act_of redex)
member-act signature types term redex side stands member =
    let f : HasRedex term redex side = found term redex side stands in
    let typed : IsFragment signature types Effect.Protected (plug_all f.frames redex) Typ.Unit = subst (λ (z : Tree). IsFragment signature types Effect.Protected z Typ.Unit) f.term member in
    let at_redex = placed signature types Effect.Protected f.frames redex Typ.Unit typed in
    (at_redex.part_type, subst (λ (z : Side). IsTypedAct signature types (effect_at z Effect.Protected) at_redex.part_type (act_of redex)) f.on (at_redex.act_typed f.redex))

-- A new location

one-alloc : (kind : StepKind) (l : Loc) → kind ≡ StepKind.Alloc l → fresh_of kind ≡ l.0 ∷ []
one-alloc kind l is = ap fresh_of is

-- the types that follow an allocation
pub record IsAllocated (signature : Signature) (types : StoreTyping) (l : ℕ) (sort : Sort) (number : TyNo) (t : State) : Type 0 where
  pub later : StoreTyping
  pub grows : Grows types later
  pub typed : IsTyped signature later t
  pub has : HasForm signature later l sort number

module _ (signature : Signature) (types : StoreTyping) (s t : State) (i : ℕ) (side : Side) (kind : StepKind) (term redex : Tree) (l : ℕ) (sort : Sort) (number : TyNo) (v : Val)
    (typed : IsTyped signature types s) (legal : after s (label_by side i kind) ≡ Some t) (member : at s.members i ≡ Some term)
    (active : side ≡ Side.Protected → s.active ≡ Some i)
    (stands : focus term ≡ Focus.AtRedex side redex) (acts : act_of redex ≡ Act.Allocates sort number v) (fresh : at s.store l ≡ None)
    (before : List ℕ) (one : before ++ l ∷ [] ≡ before ++ fresh_of kind)
    (stays : (m : ℕ) → is_some (at s.store m) ≡ true → is_some (at t.store m) ≡ true) (there : is_some (at t.store l) ≡ true) where
  content : (c : Typ) × HasValue signature types v c × MayStore signature.refs number.0 c
  content =
      let m = each-at (λ x. IsMember signature types x) s.members i term member typed.typed.members in
      let a = member-act signature types term redex side stands m in
      let its : IsTypedAct signature types (effect_at side Effect.Protected) a.0 (Act.Allocates sort number v) = subst (IsTypedAct signature types (effect_at side Effect.Protected) a.0) acts a.1 in
      (its.0, its.2.0, its.3)

  abbrev with_one : StoreTyping
  with_one m = if l == m then Some (sort, content.0) else types m

  here : with_one l ≡ Some (sort, content.0)
  here = ap (λ (b : Bool). if b then Some (sort, content.0) else types l) (eq-eqb l l refl)

  apart : (m : ℕ) → (l ≡ m → ⊥) → with_one m ≡ types m
  apart m differs = ap (λ (b : Bool). if b then Some (sort, content.0) else types m) (ne_eqb l m differs)

  grows : Grows types with_one
  grows m cell is = apart m (λ same. let clash : false ≡ true = sym (ap is_some fresh) ∙ ap (λ (k : ℕ). is_some (at s.store k)) same ∙ typed.located m cell is in absurd (cc)) ∙ is

  value : HasValue signature with_one v content.0
  value = weaken_value signature types with_one grows content.1

  of-redex : (r : Tree) → act_of r ≡ Act.Allocates sort number v → (other : Sort) (other_number : TyNo) (w : Val) → r ≡ Tree.One (unary.Ref other other_number) (Tree.Held w) → (sort ≡ other) × (v ≡ w)
  unfolding act_of
  of-redex r its other other_number w is =
      let both : Act.Allocates other other_number w ≡ Act.Allocates sort number v = sym (ap act_of is) ∙ its in
      (cc, cc)

  new : HasNewCellOf signature with_one s kind i
  new other_term is m frames other other_number w made form =
      let both : ◌≡◌ {A = Option Tree} (Some term) (Some other_term) = sym member ∙ is in
      let same_term : term ≡ other_term = cc in
      let at_form : focus (plug_all frames (Tree.One (unary.Ref other other_number) (Tree.Held w))) ≡ Focus.AtRedex (side_of frames) (Tree.One (unary.Ref other other_number) (Tree.Held w)) =
      focused frames (Tree.One (unary.Ref other other_number) (Tree.Held w)) refl in
      let one_focus : Focus.AtRedex side redex ≡ Focus.AtRedex (side_of frames) (Tree.One (unary.Ref other other_number) (Tree.Held w)) =
      sym stands ∙ ap focus (same_term ∙ form) ∙ at_form in
      let one_redex : redex ≡ Tree.One (unary.Ref other other_number) (Tree.Held w) = cc in
      let parts = of-redex redex acts other other_number w one_redex in
      let place : l ≡ m.0 = (same_from_push before before l m.0 (one ∙ ap (λ (xs : List ℕ). before ++ xs) (one-alloc kind m made))).1 in
      (content.0, subst (λ (k : ℕ). with_one k ≡ Some (other, content.0)) place (here ∙ ap (λ (z : Sort). Some (z, content.0)) parts.0), subst (λ (z : Val). HasValue signature with_one z content.0) parts.1 value)

  new-after : (z : Side) → z ≡ side → HasNewCellAfter signature with_one s (label_by z i kind)
  new-after Side.Unprotected is = new
  new-after Side.Protected is =
      λ j active_is. let both : ◌≡◌ {A = Option ℕ} (Some i) (Some j) = sym (active (sym is)) ∙ active_is in
      let same : i ≡ j = cc in
      subst (λ (k : ℕ). HasNewCellOf signature with_one s kind k) same new

  located : (m : ℕ) (cell : Sort × Typ) → with_one m ≡ Some cell → is_some (at t.store m) ≡ true
  located m cell is = by (l == m) refl is
    where
      by : (b : Bool) → (l == m) ≡ b → (if b then Some (sort, content.0) else types m) ≡ Some cell → is_some (at t.store m) ≡ true
      by true e has = subst (λ (k : ℕ). is_some (at t.store k) ≡ true) (eqb-true l m e) there
      by false e has = stays m (typed.located m cell has)

  pub allocated-typed : IsAllocated signature types l sort number t
  allocated-typed = record {
    later = with_one;
    grows = grows;
    typed = record {
      typed = label_kept signature with_one s (grown signature types with_one s grows typed.typed) (label_by side i kind) t legal (new-after side refl);
      located = located;
    };
    has = (content.0, here, content.2);
  }
