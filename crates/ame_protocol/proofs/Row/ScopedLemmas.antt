-- Scoped typing is kept.
use Rattle.std.proofs.Common.{◌≡◌, ℕ, ◌⊎◌, inl, inr, true, List, [], ◌∷◌, ◌++◌, Option, Some, None, All, refl, sym, ap, ◌∙◌, subst}
use Rattle.std.proofs.lemmas.List.Elements.{All-contains, Contains-push, All-from_recursion, recursion_from_All}
use Rattle.std.specs.List.{AllByRecursion}
use Rattle.ame_term.specs.Tree.{Typ, Val, Tree}
use Rattle.ame_term.specs.Signature.{Signature}
use Rattle.ame_term.specs.Frame.{Side}
use Rattle.ame_term.specs.Act.{Act}
use Rattle.ame_term.specs.HasType.{HasType, HasValue}
use Rattle.ame_term.specs.Scope.{unscoped}
use Rattle.ame_term.specs.Maps.{at}
use Rattle.ame_term.specs.State.{State}
use Rattle.ame_term.specs.declared.types.Effect.{Effect}
use Rattle.ame_term.specs.declared.types.Loc.{Loc}
use Rattle.ame_term.specs.declared.types.Sort.{Sort}
use Rattle.ame_term.specs.declared.types.TyNo.{TyNo}
use Rattle.ame_laws.proofs.Complete.{unique}
use Rattle.ame_laws.proofs.MapLemmas.{each-at}
use Rattle.ame_laws.specs.Typed.StoreTyping.{StoreTyping, Grows}
use Rattle.ame_laws.specs.Typed.Fragment.{IsValueOf}
use Rattle.ame_laws.specs.Typed.TypedState.{IsStored, IsMember}
use Rattle.ame_laws.proofs.Typed.Weaken.{weaken_value}
use Rattle.ame_store.specs.declared.cell.Cell.{Cell}
use Rattle.ame_store.specs.Cells.{IsOwnedBy, IsFree}
use Rattle.ame_store.specs.Changes.{made}
use Rattle.ame_store.specs.Writes.{taken_by}
use Rattle.ame_rows.specs.declared.notes.ReadNote.{ReadNote}
use Rattle.ame_rows.specs.Valid.{IsValidAt}
use Rattle.ame_machine.specs.Run.Local.{LocalState, took, set_at, made_at}
use Rattle.ame_machine.specs.Run.Fit.{IsFitFor, IsTypedThroughout}
use Rattle.ame_machine.proofs.Run.TypedLemmas.{typed-begun}
use Rattle.ame_protocol.specs.Row.Heap.{Heap, cell_at, IsCell, IsLive, IsCommitted, ShowsStore}
use Rattle.ame_protocol.specs.Row.SeatRun.{SeatRun, HasUsed, ComesTo, IsValidNote, AreValid}
use Rattle.ame_protocol.specs.Row.Given.{IsHeld, IsGiven, IsGivenThroughout}
use Rattle.ame_protocol.specs.Row.Owes.{IsNote}
use Rattle.ame_protocol.specs.Row.Framed.{IsFramedAt, IsFramed}
use Rattle.ame_protocol.specs.Row.Changed.{BecomesAt}
use Rattle.ame_protocol.specs.Row.Own.{begun_seat, given_one, given_outside}
use Rattle.ame_protocol.specs.Row.Scoped.{reaches, live_types, reached_types, IsScoped, IsTypedNow}
use Rattle.ame_protocol.proofs.Row.CellLemmas.{live_cell, free-apart, after}
use Rattle.ame_protocol.proofs.Row.OthersLemmas.{all-valid-back, own-stays}
use Rattle.ame_protocol.proofs.Row.OwnLemmas.{unowned-valid, taken-back, value-back, all-notes-back}
use Rattle.ame_protocol.proofs.Row.TypedRunLemmas.{scoped-on, act-typed}
use Rattle.ame_protocol.proofs.Row.ReachLemmas.{Reached, reach-of, of-reach, where-of, of-where, where-within, reached-grows, live-reached, stored-grown, fragment-grown, throughout-grown}

-- Others

-- what was live is live
pub still-lives : (seat : ℕ) (old new : Heap) (f : IsFramed seat old new) (l : ℕ) → IsLive (cell_at old l) → IsLive (cell_at new l)
still-lives seat old new f l live = by (f.places l)
  where
    by : IsFramedAt seat old new l → IsLive (cell_at new l)
    by (IsFramedAt.stays same committed) = subst IsLive (sym same) live
    by (IsFramedAt.changed c) = c.lives live
    by (IsFramedAt.born none apart) = absurd (none (live_cell old l live))

reached-kept : (seat : ℕ) (old new : Heap) (f : IsFramed seat old new) (l : ℕ) → Reached seat (cell_at old l) → Reached seat (cell_at new l)
reached-kept seat old new f l (inl live) = inl (still-lives seat old new f l live)
reached-kept seat old new f l (inr h) =
    let same = (own-stays seat old new f l h.0).0 in
    inr (subst (IsOwnedBy seat) (sym same) h.0, ap (λ (c : Cell Val). c.number) same ∙ h.1)

pub scoped-others : (signature : Signature) (types later : StoreTyping) (seat : ℕ) (old new : Heap) (run : SeatRun) → Grows types later → IsFramed seat old new → All (IsNote old) run.reads
    → IsScoped signature types old seat run → IsScoped signature later new seat run
scoped-others signature types later seat old new run grows f notes scoped valid =
    throughout-grown signature (reached_types old seat types) (reached_types new seat later) (reached-grows old new seat types later grows (reached-kept seat old new f))
    Side.Protected run.start run.inputs Typ.Unit (scoped (all-valid-back seat old new f run.reads notes valid))

-- Own events

valid-front : (heap : Heap) (seat : ℕ) (reads : List ReadNote) (note : ReadNote) → AreValid heap seat (reads ++ note ∷ []) → AreValid heap seat reads × IsValidNote heap seat note
valid-front heap seat reads note valid = (
  All-from_recursion (IsValidNote heap seat) reads (by reads (recursion_from_All (IsValidNote heap seat) (reads ++ note ∷ []) valid)),
  All-contains (IsValidNote heap seat) (reads ++ note ∷ []) note valid (Contains-push reads note),
)
  where
    by : (xs : List ReadNote) → AllByRecursion (IsValidNote heap seat) (xs ++ note ∷ []) → AllByRecursion (IsValidNote heap seat) xs
    by [] all = tt
    by (x ∷ xs) all = (all.0, by xs all.1)

-- what is committed is typed by live cells
committed-stored : (signature : Signature) (types : StoreTyping) (heap : Heap) (s : State) → ShowsStore heap s.store → IsTypedNow signature types heap s → (l : ℕ) (v : Val)
    → heap.committed l ≡ Some v → IsStored signature (live_types heap types) l v
committed-stored signature types heap s shows typed l v e = typed.stored l v (sym (shows l) ∙ e)

module _ (signature : Signature) (types : StoreTyping) (heap : Heap) (seat : ℕ) (run : SeatRun) (s : State) where
  pub scoped-begun : (term : Tree) (i : ℕ) → IsTypedNow signature types heap s → at s.members i ≡ Some term → IsScoped signature types heap seat (begun_seat term)
  scoped-begun term i typed member valid =
      typed-begun signature (reached_types heap seat types) Side.Protected term Typ.Unit
      (fragment-grown signature (live_types heap types) (reached_types heap seat types) (live-reached heap seat types) Effect.Protected term Typ.Unit
      (each-at (IsMember signature (live_types heap types)) s.members i term member typed.members))

  pub scoped-outside : IsTypedNow signature types heap s → ShowsStore heap s.store → IsCommitted heap → (l : Loc) (n : ℕ) (p : LocalState) → ComesTo run (Act.Reads l.0) n p
      → (IsOwnedBy seat (cell_at heap l.0) → ⊥) → IsScoped signature types heap seat run → IsScoped signature types heap seat (given_outside l (cell_at heap l.0) run)
  scoped-outside typed shows c l n p comes apart scoped valid =
      let cell = cell_at heap l.0 in
      let both = valid-front heap seat run.reads (record { loc = l; number = cell.number }) valid in
      let free = unowned-valid seat cell.number cell apart both.1 in
      let fit = stored-grown signature (live_types heap types) (reached_types heap seat types) (live-reached heap seat types) l.0 cell.value
      (committed-stored signature types heap s shows typed l.0 cell.value (c.free l.0 both.1.live free)) in
      scoped-on signature (reached_types heap seat types) run (Act.Reads l.0) n p cell.value (Tree.Held cell.value, took l.0 cell.value p) comes refl fit (scoped both.0)

  -- what the run set is in place
  pub held-value : (reads : List ReadNote) (p : LocalState) (l : ℕ) → IsGiven heap seat reads p → IsOwnedBy seat (cell_at heap l) → at p.sets l ≡ Some (cell_at heap l).value
  held-value reads p l h own = by (at p.sets l) (h.sets l)
    where
      by : (o : Option Val) → IsHeld seat (cell_at heap l) o → o ≡ Some (cell_at heap l).value
      by None held = absurd (held own)
      by (Some w) held = ap Some (sym held.1)

  pub scoped-own : (l n : ℕ) (p : LocalState) → ComesTo run (Act.Reads l) n p → IsGivenThroughout heap seat run → IsOwnedBy seat (cell_at heap l)
      → IsScoped signature types heap seat run → IsScoped signature types heap seat (given_one (cell_at heap l).value run)
  scoped-own l n p comes given own scoped valid =
      let v = (cell_at heap l).value in
      let all = scoped valid in
      let fit = (all n p comes.place.ran comes.place.used).stored l v (held-value run.reads p l (given n p comes.place) own) in
      scoped-on signature (reached_types heap seat types) run (Act.Reads l) n p v (Tree.Held v, took l v p) comes refl fit all

  -- what a valid row owns is live, or was made by it
  pub owned-reached : (n : ℕ) (p : LocalState) → HasUsed run n p → IsGivenThroughout heap seat run → AreValid heap seat run.reads → IsScoped signature types heap seat run
      → (l : ℕ) → IsOwnedBy seat (cell_at heap l) → IsLive (cell_at heap l) ⊎ ((cell_at heap l).number ≡ 1)
  owned-reached n p place given valid scoped l own =
      let v = (cell_at heap l).value in
      let stored = (scoped valid n p place.ran place.used).stored l v (held-value run.reads p l (given n p place) own) in
      by (reach-of seat (cell_at heap l) (where-of (λ m. reaches seat (cell_at heap m)) types l stored.0 stored.1).0)
    where
      by : Reached seat (cell_at heap l) → IsLive (cell_at heap l) ⊎ ((cell_at heap l).number ≡ 1)
      by (inl live) = inl live
      by (inr made) = inr made.1

-- a cell that becomes another one of the seat
module _ (signature : Signature) (types later : StoreTyping) (old new : Heap) (seat : ℕ) (run : SeatRun) (grows : Grows types later) (notes : All (IsNote old) run.reads)
    (scoped : IsScoped signature types old seat run) where
  reached-on : (l : ℕ) (cell : Cell Val) → BecomesAt old new l cell → (Reached seat (cell_at old l) → Reached seat cell)
      → (m : ℕ) → Reached seat (cell_at old m) → Reached seat (cell_at new m)
  reached-on l cell b more m h = by (after old new l cell b m)
    where
      by : ((m ≡ l) × (cell_at new m ≡ cell)) ⊎ (((m ≡ l) → ⊥) × (cell_at new m ≡ cell_at old m)) → Reached seat (cell_at new m)
      by (inl x) = subst (Reached seat) (sym x.1) (more (subst (λ (k : ℕ). Reached seat (cell_at old k)) x.0 h))
      by (inr x) = subst (Reached seat) (sym x.1) h

  grown-on : (l : ℕ) (cell : Cell Val) → BecomesAt old new l cell → (Reached seat (cell_at old l) → Reached seat cell)
      → ((n : ℕ) → IsCell old l → IsValidAt seat n cell → IsValidAt seat n (cell_at old l)) → AreValid new seat run.reads
      → IsTypedThroughout signature (reached_types new seat later) Side.Protected run.start run.inputs Typ.Unit
  grown-on l cell b more back valid =
      throughout-grown signature (reached_types old seat types) (reached_types new seat later) (reached-grows old new seat types later grows (reached-on l cell b more))
      Side.Protected run.start run.inputs Typ.Unit (scoped (all-notes-back old new seat l cell b back run.reads notes valid))

  pub scoped-first : (l : ℕ) (v : Val) (n : ℕ) (p : LocalState) → ComesTo run (Act.Writes l v) n p → IsFree (cell_at old l) → BecomesAt old new l (taken_by seat v (cell_at old l))
      → AreValid new seat run.reads → IsTypedThroughout signature (reached_types new seat later) Side.Protected run.start (run.inputs ++ Val.Unit ∷ []) Typ.Unit
  scoped-first l v n p comes free b valid =
      scoped-on signature (reached_types new seat later) run (Act.Writes l v) n p Val.Unit (Tree.Held Val.Unit, set_at l v p) comes refl tt
      (grown-on l (taken_by seat v (cell_at old l)) b more (λ m _ h. taken-back seat m v (cell_at old l) free h) valid)
    where
      more : Reached seat (cell_at old l) → Reached seat (taken_by seat v (cell_at old l))
      more (inl live) = inl live
      more (inr x) = absurd (free-apart seat (cell_at old l) free x.0)

  pub scoped-later : (l : ℕ) (v : Val) (n : ℕ) (p : LocalState) → ComesTo run (Act.Writes l v) n p → BecomesAt old new l (record (cell_at old l) { value = v })
      → AreValid new seat run.reads → IsTypedThroughout signature (reached_types new seat later) Side.Protected run.start (run.inputs ++ Val.Unit ∷ []) Typ.Unit
  scoped-later l v n p comes b valid =
      scoped-on signature (reached_types new seat later) run (Act.Writes l v) n p Val.Unit (Tree.Held Val.Unit, set_at l v p) comes refl tt
      (grown-on l (record (cell_at old l) { value = v }) b more (λ m _ h. value-back seat m v (cell_at old l) h) valid)
    where
      more : Reached seat (cell_at old l) → Reached seat (record (cell_at old l) { value = v })
      more (inl live) = inl live
      more (inr x) = inr x

  pub scoped-made : (sort : Sort) (ty : TyNo) (l : ℕ) (v : Val) (n : ℕ) (p : LocalState) → ComesTo run (Act.Allocates sort ty v) n p → (IsCell old l → ⊥)
      → BecomesAt old new l (made sort ty v (Some seat)) → IsFitFor signature later (Act.Allocates sort ty v) (Val.Loc l)
      → AreValid new seat run.reads → IsTypedThroughout signature (reached_types new seat later) Side.Protected run.start (run.inputs ++ Val.Loc l ∷ []) Typ.Unit
  scoped-made sort ty l v n p comes none b fit valid =
      let cell = made sort ty v (Some seat) in
      let all = grown-on l cell b (λ _. inr (refl, refl)) (λ m there _. absurd (none there)) valid in
      let scope = reached_types new seat later in
      let act = act-typed signature scope Side.Protected (Act.Allocates sort ty v) p comes.there (all n p comes.place.ran comes.place.used) in
      let value : IsValueOf signature scope v act.1.0 = act.1.2 in
      let wide : HasValue signature later v act.1.0 = weaken_value signature scope later (where-within (λ m. reaches seat (cell_at new m)) later) value.0 in
      let one : act.1.0 ≡ fit.0 = unique signature later (HasType.held {g = unscoped} {q = Effect.Protected} wide) (HasType.held {g = unscoped} {q = Effect.Protected} fit.2) in
      let here : reaches seat (cell_at new l) ≡ true = of-reach seat (cell_at new l) (subst (Reached seat) (sym b.there) (inr (refl, refl))) in
      let typed_there : scope l ≡ Some (sort, fit.0) = of-where (λ m. reaches seat (cell_at new m)) later l (sort, fit.0) here fit.1 in
      scoped-on signature scope run (Act.Allocates sort ty v) n p (Val.Loc l) (Tree.Held (Val.Loc l), made_at l v p) comes refl
      (fit.0, typed_there, subst (HasValue signature scope v) one value.0) all
