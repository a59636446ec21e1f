-- Typed runs with one more input, and the acts to which they come.
use Rattle.std.proofs.Common.{◌≡◌, ◌≢◌, ℕ, ◌+◌, ◌<◌, ◌⊎◌, inl, inr, Bool, if◌then◌else◌, [], ◌∷◌, ◌++◌, length, Some, refl, sym, ap, ◌∙◌, subst, arith}
use Rattle.std.proofs.lemmas.Bool.{eq-eqb, ne_eqb}
use Rattle.std.proofs.lemmas.List.Elements.{All-push, All-weaker}
use Rattle.ame_term.specs.Tree.{Typ, Val, Tree}
use Rattle.ame_term.specs.Signature.{Signature, MayStore}
use Rattle.ame_term.specs.Frame.{Side, plug_all}
use Rattle.ame_term.specs.Act.{Act, act_of}
use Rattle.ame_term.specs.HasType.{code_of}
use Rattle.ame_term.specs.declared.types.Effect.{Effect}
use Rattle.ame_term.specs.declared.types.Loc.{Loc}
use Rattle.ame_term.specs.declared.types.Sort.{Sort}
use Rattle.ame_term.specs.declared.types.TyNo.{TyNo}
use Rattle.ame_laws.specs.Standing.{HasRedex}
use Rattle.ame_laws.proofs.FrameLemmas.{found}
use Rattle.ame_laws.specs.Typed.StoreTyping.{StoreTyping, Grows}
use Rattle.ame_laws.specs.Typed.Fragment.{IsFragment, IsValueOf, effect_at}
use Rattle.ame_laws.specs.Typed.TypedAct.{IsTypedAct}
use Rattle.ame_laws.specs.Typed.TypedState.{IsStored}
use Rattle.ame_laws.proofs.Typed.FrameTypes.{placed}
use Rattle.ame_laws.proofs.Typed.FragmentLemmas.{same_cell}
use Rattle.ame_laws.proofs.Typed.Weaken.{weaken_value}
use Rattle.ame_store.specs.declared.cell.Cell.{Cell}
use Rattle.ame_rows.specs.declared.notes.Undo.{Undo}
use Rattle.ame_rows.specs.declared.notes.Undo.TheVariants.{Wrote, Made}
use Rattle.ame_machine.specs.Run.Local.{LocalState, begun_with, took, set_at, made_at, fed}
use Rattle.ame_machine.specs.Run.Fit.{IsFitFor, IsTypedPlace, IsTypedThroughout}
use Rattle.ame_machine.proofs.Run.TypedLemmas.{typed-begun, typed-more}
use Rattle.ame_protocol.specs.Row.Heap.{Heap, cell_at, IsCell}
use Rattle.ame_protocol.specs.Row.SeatRun.{SeatRun, IsAtAct, ComesTo}
use Rattle.ame_protocol.specs.Row.Changed.{BecomesAt}
use Rattle.ame_protocol.specs.Row.Own.{begun_seat, given_one, given_undo}
use Rattle.ame_protocol.specs.Row.TypedHeap.{types_with, IsTypedHeap, IsTypedUndo, IsTypedRun}
use Rattle.ame_protocol.proofs.Row.CellLemmas.{which, after}
use Rattle.ame_protocol.proofs.Row.ReachLemmas.{stored-grown, throughout-grown}

-- one more input that is fit
pub scoped-on : (signature : Signature) (cells : StoreTyping) (run : SeatRun) (act : Act) (n : ℕ) (p : LocalState) (v : Val) (result : Tree × LocalState) → ComesTo run act n p
    → fed act Side.Protected v p ≡ Some result → IsFitFor signature cells act v → IsTypedThroughout signature cells Side.Protected run.start run.inputs Typ.Unit
    → IsTypedThroughout signature cells Side.Protected run.start (run.inputs ++ v ∷ []) Typ.Unit
scoped-on signature cells run act n p v result c gives fit all =
    typed-more signature cells Side.Protected (begun_with run.start run.inputs) p c.there.redex Typ.Unit n v result (all n p c.place.ran c.place.used) c.place.ran c.place.used c.there.stands
    (ap (λ (a : Act). fed a Side.Protected v p) c.there.acts ∙ gives) (subst (λ (a : Act). IsFitFor signature cells a v) (sym c.there.acts) fit)

-- the act of a typed place
pub act-typed : (signature : Signature) (cells : StoreTyping) (side : Side) (act : Act) (p : LocalState) → IsAtAct side act p → IsTypedPlace signature cells Typ.Unit p
    → (t : Typ) × IsTypedAct signature cells (effect_at side Effect.Protected) t act
act-typed signature cells side act p there place =
    let f : HasRedex p.term there.redex side = found p.term there.redex side there.stands in
    let typed : IsFragment signature cells Effect.Protected (plug_all f.frames there.redex) Typ.Unit =
    subst (λ (z : Tree). IsFragment signature cells Effect.Protected z Typ.Unit) f.term place.fragment in
    let at_redex = placed signature cells Effect.Protected f.frames there.redex Typ.Unit typed in
    let its : IsTypedAct signature cells (effect_at side Effect.Protected) at_redex.part_type (act_of there.redex) =
    subst (λ (z : Side). IsTypedAct signature cells (effect_at z Effect.Protected) at_redex.part_type (act_of there.redex)) f.on (at_redex.act_typed f.redex) in
    (at_redex.part_type, subst (λ (a : Act). IsTypedAct signature cells (effect_at side Effect.Protected) at_redex.part_type a) there.acts its)

protected_sort : (sort : Sort) → code_of sort ≡ Effect.Protected → sort ≡ Sort.Protected
protected_sort Sort.Protected e = refl
protected_sort Sort.Unprotected e = cc

module _ (signature : Signature) (types : StoreTyping) (heap : Heap) (typed : IsTypedHeap signature types heap) where
  -- a location of a type has a cell of its sort, and what is in place there is of the type
  pub typed-cell : (l : ℕ) (sort : Sort) (content : Typ) → types l ≡ Some (sort, content)
      → IsCell heap l × ((cell_at heap l).sort ≡ sort) × IsValueOf signature types (cell_at heap l).value content
  typed-cell l sort content e =
      let there = typed.located l (sort, content) e in
      let c = typed.typed l there in
      let same : ((cell_at heap l).sort, c.0) ≡ (sort, content) = same_cell ((cell_at heap l).sort, c.0) (sort, content) (types l) c.1 e in
      (there, ap (λ (x : Sort × Typ). x.0) same, subst (IsValueOf signature types (cell_at heap l).value) (ap (λ (x : Sort × Typ). x.1) same) c.2)

  module _ (run : SeatRun) (h : IsTypedRun signature types run) (n : ℕ) (p : LocalState) where
    -- reads are of protected cells, and give what is of their type
    pub read-typed : (l : ℕ) → ComesTo run (Act.Reads l) n p → IsCell heap l × ((cell_at heap l).sort ≡ Sort.Protected) × IsStored signature types l (cell_at heap l).value
    read-typed l comes =
        let act = act-typed signature types Side.Protected (Act.Reads l) p comes.there (h.places n p comes.place.ran comes.place.used) in
        let c = typed-cell l act.1.0 act.0 act.1.1 in
        (c.0, c.1 ∙ protected_sort act.1.0 act.1.2, ((act.1.0, act.0), act.1.1, c.2))

    pub run-read : (l : ℕ) → ComesTo run (Act.Reads l) n p → IsTypedRun signature types (given_one (cell_at heap l).value run)
    run-read l comes =
        let v = (cell_at heap l).value in
        record {
          places = scoped-on signature types run (Act.Reads l) n p v (Tree.Held v, took l v p) comes refl (read-typed l comes).2 h.places;
          undos = h.undos;
        }

    -- so are writes, and what they set is of the type
    pub write-typed : (l : ℕ) (v : Val) → ComesTo run (Act.Writes l v) n p → IsCell heap l × ((cell_at heap l).sort ≡ Sort.Protected) × IsStored signature types l v
    write-typed l v comes =
        let act = act-typed signature types Side.Protected (Act.Writes l v) p comes.there (h.places n p comes.place.ran comes.place.used) in
        let c = typed-cell l act.1.0 act.1.1 act.1.2 in
        (c.0, c.1 ∙ protected_sort act.1.0 act.1.4, ((act.1.0, act.1.1), act.1.2, act.1.3))

    pub run-write : (l : ℕ) (v : Val) → ComesTo run (Act.Writes l v) n p → IsTypedRun signature types (given_one Val.Unit run)
    run-write l v comes = record {
      places = scoped-on signature types run (Act.Writes l v) n p Val.Unit (Tree.Held Val.Unit, set_at l v p) comes refl tt h.places;
      undos = h.undos;
    }

    in-place : (l : ℕ) → IsCell heap l → IsStored signature types l (cell_at heap l).value
    in-place l there = let c = typed.typed l there in (((cell_at heap l).sort, c.0), c.1, c.2)

    pub run-first : (l : Loc) (number : ℕ) (v : Val) → ComesTo run (Act.Writes l.0 v) n p → IsTypedRun signature types (given_undo Val.Unit (Wrote l number (cell_at heap l.0).value) run)
    run-first l number v comes = record {
      places = (run-write l.0 v comes).places;
      undos =
          All-push (IsTypedUndo signature types) run.undos (Wrote l number (cell_at heap l.0).value) h.undos
          (in-place l.0 (write-typed l.0 v comes).0);
    }

-- a cell that keeps its sort and has in place what is of its type
pub heap-stays : (signature : Signature) (types : StoreTyping) (old new : Heap) (l : ℕ) (cell : Cell Val) → IsTypedHeap signature types old → BecomesAt old new l cell
    → length new.cells ≡ length old.cells → cell.sort ≡ (cell_at old l).sort → cell.ty ≡ (cell_at old l).ty → IsStored signature types l cell.value → IsTypedHeap signature types new
heap-stays signature types old new l cell h b count sort number stored = record {
  typed = λ m there. by m (narrow m there) (after old new l cell b m);
  located = λ m c e. wide m (h.located m c e);
}
  where
    narrow : (m : ℕ) → IsCell new m → IsCell old m
    narrow m there = let t : m < length new.cells = there in omega (arith, count)

    wide : (m : ℕ) → IsCell old m → IsCell new m
    wide m there = let t : m < length old.cells = there in omega (arith, count)

    by : (m : ℕ) → IsCell old m → ((m ≡ l) × (cell_at new m ≡ cell)) ⊎ (((m ≡ l) → ⊥) × (cell_at new m ≡ cell_at old m))
        → (content : Typ) × (types m ≡ Some ((cell_at new m).sort, content)) × IsValueOf signature types (cell_at new m).value content
        × MayStore signature.refs (cell_at new m).ty.0 content
    by m there (inl s) =
        let was = h.typed l (subst (IsCell old) s.0 there) in
        let so : (cell_at new m).sort ≡ (cell_at old l).sort = ap (λ (c : Cell Val). c.sort) s.1 ∙ sort in
        let one : stored.0 ≡ ((cell_at old l).sort, was.0) = same_cell stored.0 ((cell_at old l).sort, was.0) (types l) stored.1 was.1 in (
          was.0,
          ap types s.0 ∙ was.1 ∙ ap (λ (x : Sort). Some (x, was.0)) (sym so),
          subst (λ (c : Cell Val). IsValueOf signature types c.value was.0) (sym s.1)
              (subst (IsValueOf signature types cell.value) (ap (λ (x : Sort × Typ). x.1) one) stored.2),
          subst (λ (n : TyNo). MayStore signature.refs n.0 was.0) (sym (ap (λ (c : Cell Val). c.ty) s.1 ∙ number)) was.3,
        )
    by m there (inr s) =
        let was = h.typed m there in (
          was.0,
          was.1 ∙ ap (λ (c : Cell Val). Some (c.sort, was.0)) (sym s.1),
          subst (λ (c : Cell Val). IsValueOf signature types c.value was.0) (sym s.1) was.2,
          subst (λ (c : Cell Val). MayStore signature.refs c.ty.0 was.0) (sym s.1) was.3,
        )

-- More locations have types

pub run-grown : (signature : Signature) (types later : StoreTyping) (run : SeatRun) → Grows types later → IsTypedRun signature types run → IsTypedRun signature later run
run-grown signature types later run grows h = record {
  places = throughout-grown signature types later grows Side.Protected run.start run.inputs Typ.Unit h.places;
  undos = All-weaker (IsTypedUndo signature types) (IsTypedUndo signature later) undo run.undos h.undos;
}
  where
    undo : (u : Undo Val) → IsTypedUndo signature types u → IsTypedUndo signature later u
    undo (Wrote l number old) x = stored-grown signature types later grows l.0 old x
    undo (Made l) x = tt

pub run-begun : (signature : Signature) (types : StoreTyping) (term : Tree) → IsFragment signature types Effect.Protected term Typ.Unit → IsTypedRun signature types (begun_seat term)
run-begun signature types term typed = record {
  places = typed-begun signature types Side.Protected term Typ.Unit typed;
  undos = λ k d below. absurd (omega arith);
}

if-other : (types : StoreTyping) (l m : ℕ) (cell : Sort × Typ) → (m ≡ l → ⊥) → types_with l cell types m ≡ types m
if-other types l m cell apart = ap (λ (b : Bool). if b then Some cell else types m) (ne_eqb m l apart)

if-here : (types : StoreTyping) (l : ℕ) (cell : Sort × Typ) → types_with l cell types l ≡ Some cell
if-here types l cell = ap (λ (b : Bool). if b then Some cell else types l) (eq-eqb l l refl)

-- a location past the last cell
module _ (signature : Signature) (types : StoreTyping) (old : Heap) (l : ℕ) (here : Sort × Typ) (h : IsTypedHeap signature types old) (last : l ≡ length old.cells) where
  pub types-grow : Grows types (types_with l here types)
  types-grow m c e =
      let below : m < length old.cells = h.located m c e in
      let apart : m ≢ l = (λ same. omega arith) in
      if-other types l m here apart ∙ e

pub new-fit : (signature : Signature) (types : StoreTyping) (old : Heap) (l : ℕ) (sort : Sort) (ty : TyNo) (v : Val) (content : Typ) → IsTypedHeap signature types old → l ≡ length old.cells
    → IsValueOf signature types v content → IsFitFor signature (types_with l (sort, content) types) (Act.Allocates sort ty v) (Val.Loc l)
new-fit signature types old l sort ty v content h last value =
    (content, if-here types l (sort, content), weaken_value signature types (types_with l (sort, content) types) (types-grow signature types old l (sort, content) h last) value.0)

-- a new cell
module _ (signature : Signature) (types : StoreTyping) (old new : Heap) (l : ℕ) (cell : Cell Val) (content : Typ) (h : IsTypedHeap signature types old) (b : BecomesAt old new l cell)
    (last : l ≡ length old.cells) (count : length new.cells ≡ length old.cells + 1) (value : IsValueOf signature types cell.value content)
    (may : MayStore signature.refs cell.ty.0 content) where
  abbrev pub new-types : StoreTyping
  new-types = types_with l (cell.sort, content) types

  grown : Grows types new-types
  grown = types-grow signature types old l (cell.sort, content) h last

  pub heap-grows : IsTypedHeap signature new-types new
  heap-grows = record {
    typed = λ m there. typed_at m there (after old new l cell b m);
    located = λ m c e. there_at m c e (which m l);
  }
    where
      there_at : (m : ℕ) (c : Sort × Typ) → new-types m ≡ Some c → (m ≡ l) ⊎ ((m ≡ l) → ⊥) → IsCell new m
      there_at m c e (inl same) = let a = last in let d = count in omega arith
      there_at m c e (inr apart) =
          let below : m < length old.cells = h.located m c (sym (if-other types l m (cell.sort, content) apart) ∙ e) in
          let d = count in omega arith

      narrow : (m : ℕ) → IsCell new m → (m ≡ l → ⊥) → IsCell old m
      narrow m there apart =
          let below : m < length new.cells = there in
          let d = count in
          let a = last in
          let differs : m ≢ l = apart in
          omega arith

      typed_at : (m : ℕ) → IsCell new m → ((m ≡ l) × (cell_at new m ≡ cell)) ⊎ (((m ≡ l) → ⊥) × (cell_at new m ≡ cell_at old m))
          → (t : Typ) × (new-types m ≡ Some ((cell_at new m).sort, t)) × IsValueOf signature new-types (cell_at new m).value t
          × MayStore signature.refs (cell_at new m).ty.0 t
      typed_at m there (inl s) = (
        content,
        ap new-types s.0 ∙ if-here types l (cell.sort, content) ∙ ap (λ (c : Cell Val). Some (c.sort, content)) (sym s.1),
        subst (λ (c : Cell Val). IsValueOf signature new-types c.value content) (sym s.1) (weaken_value signature types new-types grown value.0, value.1),
        subst (λ (c : Cell Val). MayStore signature.refs c.ty.0 content) (sym s.1) may,
      )
      typed_at m there (inr s) =
          let was = h.typed m (narrow m there s.0) in (
            was.0,
            if-other types l m (cell.sort, content) s.0 ∙ was.1 ∙ ap (λ (c : Cell Val). Some (c.sort, was.0)) (sym s.1),
            subst (λ (c : Cell Val). IsValueOf signature new-types c.value was.0) (sym s.1) (weaken_value signature types new-types grown was.2.0, was.2.1),
            subst (λ (c : Cell Val). MayStore signature.refs c.ty.0 was.0) (sym s.1) was.3,
          )

-- what a typed row allocates has a type, and the row is typed with the new location
pub allocated-typed : (signature : Signature) (types : StoreTyping) (run : SeatRun) (sort : Sort) (ty : TyNo) (v : Val) (n : ℕ) (p : LocalState) → IsTypedRun signature types run
    → ComesTo run (Act.Allocates sort ty v) n p → (content : Typ) × IsValueOf signature types v content × MayStore signature.refs ty.0 content
allocated-typed signature types run sort ty v n p h comes =
    let act = act-typed signature types Side.Protected (Act.Allocates sort ty v) p comes.there (h.places n p comes.place.ran comes.place.used) in
    (act.1.0, act.1.2, act.1.3)

pub run-made : (signature : Signature) (types later : StoreTyping) (run : SeatRun) (sort : Sort) (ty : TyNo) (l : Loc) (v : Val) (n : ℕ) (p : LocalState) → Grows types later → IsTypedRun signature types run
    → ComesTo run (Act.Allocates sort ty v) n p → IsFitFor signature later (Act.Allocates sort ty v) (Val.Loc l.0) → IsTypedRun signature later (given_undo (Val.Loc l.0) (Made l) run)
run-made signature types later run sort ty l v n p grows h comes fit =
    let more = run-grown signature types later run grows h in
    record {
      places = scoped-on signature later run (Act.Allocates sort ty v) n p (Val.Loc l.0) (Tree.Held (Val.Loc l.0), made_at l.0 v p) comes refl fit more.places;
      undos = All-push (IsTypedUndo signature later) run.undos (Made l) more.undos tt;
    }
