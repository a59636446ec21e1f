-- The meaning of the typing table's tests, the types of a row's parts by its answer, and the answer of a row
-- whose parts have types.
use Rattle.std.proofs.Common.{◌≡◌, ℕ, Bool, true, false, ◌&&◌, ◌⊎◌, Option, Some, None, Ok, Err, refl, sym, ap, subst, ◌∙◌, inl, inr, lt-ltb}
use borrow.Author.Tests.{ltb-true}
use Rattle.std.specs.Prelude.{nat_lt}
use Rattle.ame_term.specs.Tree.{Typ, OwnName}
use Rattle.ame_term.specs.Signature.{Signature, unlisted}
use Rattle.ame_term.specs.Shown.{Shown, TypeOutcome, TypeFault, type_mismatch, wrong_effect, wrong_sort, misplaced_block, no_device, not_unit}
use Rattle.ame_term.specs.Typing.{same_type, same_sort, same_effect, touches, fits, then_, need, want, want_unit, want_effect, known, cell_type, function_row, call_row, read_row, peeked_row, write_row, first_of, second_of, breaks, op_type, unary_row, binary_row}
use Rattle.ame_term.specs.HasType.{code_of, HasUnary, HasBinary, negation, reference, get, peek, block, print, call, first, second, app, operation, set, pair}
use Rattle.ame_term.specs.declared.types.Sort.{Sort}
use Rattle.ame_term.specs.declared.types.Effect.{Effect}
use Rattle.ame_term.specs.declared.types.Op.{Op}
use Rattle.ame_term.specs.declared.types.Unary.{Unary}
use Rattle.ame_term.specs.declared.types.Unary.TheVariants as unary
use Rattle.ame_term.specs.declared.types.Binary.{Binary}
use Rattle.ame_term.specs.declared.types.Binary.TheVariants as binary

both : (a b : Bool) → (a && b) ≡ true → (a ≡ true) × (b ≡ true)
both true true e = (refl, refl)
both true false e = cc
both false b e = cc

pub same_sort-true : (a b : Sort) → same_sort a b ≡ true → a ≡ b
same_sort-true Sort.Protected Sort.Protected e = refl
same_sort-true Sort.Unprotected Sort.Unprotected e = refl
same_sort-true _ _ e = cc

pub same_effect-true : (a b : Effect) → same_effect a b ≡ true → a ≡ b
same_effect-true Effect.Protected Effect.Protected e = refl
same_effect-true Effect.Unprotected Effect.Unprotected e = refl
same_effect-true Effect.Either Effect.Either e = refl
same_effect-true _ _ e = cc

pub same_type-true : (a b : Typ) → same_type a b ≡ true → a ≡ b
unfolding same_type
same_type-true Typ.Unit Typ.Unit e = refl
same_type-true Typ.Bool Typ.Bool e = refl
same_type-true Typ.Int Typ.Int e = refl
same_type-true (Typ.Ref s a) (Typ.Ref s' a') e =
    let p = both (same_sort s s') (same_type a a') e in
    let x = same_sort-true s s' p.0 in
    let y = same_type-true a a' p.1 in
    cc
same_type-true (Typ.Fun r a b) (Typ.Fun r' a' b') e =
    let p = both (same_effect r r') (same_type a a' && same_type b b') e in
    let k = both (same_type a a') (same_type b b') p.1 in
    let x = same_effect-true r r' p.0 in
    let y = same_type-true a a' k.0 in
    let z = same_type-true b b' k.1 in
    cc
same_type-true (Typ.Pair a b) (Typ.Pair a' b') e =
    let p = both (same_type a a') (same_type b b') e in
    let x = same_type-true a a' p.0 in
    let y = same_type-true b b' p.1 in
    cc
same_type-true _ _ e = cc

pub same_sort-refl : (s : Sort) → same_sort s s ≡ true
same_sort-refl Sort.Protected = refl
same_sort-refl Sort.Unprotected = refl

pub same_effect-refl : (q : Effect) → same_effect q q ≡ true
same_effect-refl Effect.Protected = refl
same_effect-refl Effect.Unprotected = refl
same_effect-refl Effect.Either = refl

pub same_type-refl : (a : Typ) → same_type a a ≡ true
unfolding same_type
same_type-refl Typ.Unit = refl
same_type-refl Typ.Bool = refl
same_type-refl Typ.Int = refl
same_type-refl (Typ.Ref s a) = rw (same_sort-refl s, same_type-refl a) refl
same_type-refl (Typ.Fun r a b) = rw (same_effect-refl r, same_type-refl a, same_type-refl b) refl
same_type-refl (Typ.Pair a b) = rw (same_type-refl a, same_type-refl b) refl

pub touches-true : (s : Sort) (q : Effect) → touches s q ≡ true → code_of s ≡ q
touches-true Sort.Protected Effect.Protected e = refl
touches-true Sort.Unprotected Effect.Unprotected e = refl
touches-true _ _ e = cc

pub touches-own : (s : Sort) → touches s (code_of s) ≡ true
touches-own Sort.Protected = refl
touches-own Sort.Unprotected = refl

pub touches-all : (s : Sort) (q : Effect) → code_of s ≡ q → touches s q ≡ true
touches-all s q e = subst (λ (x : Effect). touches s x ≡ true) e (touches-own s)

pub fits-true : (r q : Effect) → fits r q ≡ true → (r ≡ q) ⊎ (r ≡ Effect.Either)
fits-true Effect.Either q e = inr refl
fits-true Effect.Protected q e = inl (same_effect-true Effect.Protected q e)
fits-true Effect.Unprotected q e = inl (same_effect-true Effect.Unprotected q e)

fits-own : (q : Effect) → fits q q ≡ true
fits-own Effect.Protected = refl
fits-own Effect.Unprotected = refl
fits-own Effect.Either = refl

pub fits-all : (r q : Effect) → (r ≡ q) ⊎ (r ≡ Effect.Either) → fits r q ≡ true
fits-all r q (inl e) = rw e (fits-own q)
fits-all r q (inr e) = rw e refl

-- The type in an answer.

pub then-gave : (o : TypeOutcome) (rest : Typ → TypeOutcome) (t : Typ) → then_ o rest ≡ Ok t → (u : Typ) × (o ≡ Ok u) × (rest u ≡ Ok t)
then-gave (Ok u) rest t e = (u, refl, e)
then-gave (Err f) rest t e = cc

pub need-gave : (b : Bool) (f : TypeFault) (o : TypeOutcome) (t : Typ) → need b (Err f) o ≡ Ok t → (b ≡ true) × (o ≡ Ok t)
need-gave true f o t e = (refl, e)
need-gave false f o t e = cc

pub want-gave : (at : ℕ) (u w : Typ) (o : TypeOutcome) (t : Typ) → want at u w o ≡ Ok t → (u ≡ w) × (o ≡ Ok t)
want-gave at u w o t e =
    let p = need-gave (same_type u w) (record { rule = type_mismatch; place = at; found = Shown.Ty u; wanted = Shown.Ty w }) o t e in
    (same_type-true u w p.0, p.1)

pub want_unit-gave : (at : ℕ) (u : Typ) (o : TypeOutcome) (t : Typ) → want_unit at u o ≡ Ok t → (u ≡ Typ.Unit) × (o ≡ Ok t)
want_unit-gave at u o t e =
    let p = need-gave (same_type u Typ.Unit) (record { rule = not_unit; place = at; found = Shown.Ty u; wanted = Shown.Ty Typ.Unit }) o t e in
    (same_type-true u Typ.Unit p.0, p.1)

pub want_effect-gave : (rule at : ℕ) (q w : Effect) (o : TypeOutcome) (t : Typ) → want_effect rule at q w o ≡ Ok t → (q ≡ w) × (o ≡ Ok t)
want_effect-gave rule at q w o t e =
    let p = need-gave (same_effect q w) (record { rule = rule; place = at; found = Shown.Effect q; wanted = Shown.Effect w }) o t e in
    (same_effect-true q w p.0, p.1)

pub given : (t u : Typ) → ◌≡◌ {A = TypeOutcome} (Ok t) (Ok u) → t ≡ u
given t u e = cc

pub known-gave : (at : ℕ) (o : Option Typ) (t : Typ) → known at o ≡ Ok t → o ≡ Some t
known-gave at None t e = cc
known-gave at (Some u) t e = ap Some (given u t e)

pub cell-gave : (c : Option (Sort × Typ)) (t : Typ) → cell_type c ≡ Some t → (s : Sort) × (u : Typ) × (c ≡ Some (s, u)) × (t ≡ Typ.Ref s u)
cell-gave None t e = cc
cell-gave (Some c) t e = (c.0, c.1, refl, cc)

-- a function form is typed as a plain one or as a recursive one
pub function-gave : (own : Option OwnName) (r : Effect) (p : Typ) (at : ℕ) (o : TypeOutcome) (t : Typ) → function_row own r p at o ≡ Ok t →
    ((own ≡ None) × ((u : Typ) × (o ≡ Ok u) × (t ≡ Typ.Fun r p u))) ⊎
    ((w : OwnName) × (own ≡ Some w) × (o ≡ Ok w.result) × (t ≡ Typ.Fun r p w.result))
function-gave None r p at o t e =
    let k = then-gave o (λ u. Ok (Typ.Fun r p u)) t e in
    inl (refl, (k.0, k.1, sym (given _ _ k.2)))
function-gave (Some w) r p at o t e =
    let k = then-gave o (λ u. want at u w.result (Ok (Typ.Fun r p w.result))) t e in
    let h = want-gave at k.0 w.result (Ok (Typ.Fun r p w.result)) t k.2 in
    inr (w, refl, k.1 ∙ ap Ok h.0, sym (given _ _ h.1))

pub call-gave : (at fat aat : ℕ) (q : Effect) (f : Typ) (o : TypeOutcome) (t : Typ) → call_row at fat aat q f o ≡ Ok t →
    (r : Effect) × (p : Typ) × (f ≡ Typ.Fun r p t) × (o ≡ Ok p) × ((r ≡ q) ⊎ (r ≡ Effect.Either))
call-gave at fat aat q (Typ.Fun r p u) o t e =
    let k = then-gave o (λ a. want aat a p (need (fits r q) (breaks wrong_effect at (Shown.Effect r) (Shown.Effect q)) (Ok u))) t e in
    let h = want-gave aat k.0 p (need (fits r q) (breaks wrong_effect at (Shown.Effect r) (Shown.Effect q)) (Ok u)) t k.2 in
    let n = need-gave (fits r q) (record { rule = wrong_effect; place = at; found = Shown.Effect r; wanted = Shown.Effect q }) (Ok u) t h.1 in
    (r, p, ap (Typ.Fun r p) (given u t n.1), k.1 ∙ ap Ok h.0, fits-true r q n.0)
call-gave at fat aat q _ o t e = cc

pub read-gave : (at pat : ℕ) (q : Effect) (f t : Typ) → read_row at pat q f ≡ Ok t → (s : Sort) × (f ≡ Typ.Ref s t) × (code_of s ≡ q)
read-gave at pat q (Typ.Ref s c) t e =
    let n = need-gave (touches s q) (record { rule = wrong_sort; place = at; found = Shown.Sort s; wanted = Shown.Effect q }) (Ok c) t e in
    (s, ap (Typ.Ref s) (given c t n.1), touches-true s q n.0)
read-gave at pat q _ t e = cc

pub peeked-gave : (at pat : ℕ) (f t : Typ) → peeked_row at pat f ≡ Ok t → f ≡ Typ.Ref Sort.Protected t
peeked-gave at pat (Typ.Ref Sort.Protected c) t e = ap (Typ.Ref Sort.Protected) (given c t e)
peeked-gave at pat (Typ.Ref Sort.Unprotected c) t e = cc
peeked-gave at pat _ t e = cc

pub write-gave : (at cat pat : ℕ) (q : Effect) (f : Typ) (o : TypeOutcome) (t : Typ) → write_row at cat pat q f o ≡ Ok t →
    (s : Sort) × (c : Typ) × (f ≡ Typ.Ref s c) × (o ≡ Ok c) × (code_of s ≡ q) × (t ≡ Typ.Unit)
write-gave at cat pat q (Typ.Ref s c) o t e =
    let k = then-gave o (λ a. want pat a c (need (touches s q) (breaks wrong_sort at (Shown.Sort s) (Shown.Effect q)) (Ok Typ.Unit))) t e in
    let h = want-gave pat k.0 c (need (touches s q) (breaks wrong_sort at (Shown.Sort s) (Shown.Effect q)) (Ok Typ.Unit)) t k.2 in
    let n = need-gave (touches s q) (record { rule = wrong_sort; place = at; found = Shown.Sort s; wanted = Shown.Effect q }) (Ok Typ.Unit) t h.1 in
    (s, c, refl, k.1 ∙ ap Ok h.0, touches-true s q n.0, sym (given _ _ n.1))
write-gave at cat pat q _ o t e = cc

pub first-gave : (at : ℕ) (f t : Typ) → first_of at f ≡ Ok t → (u : Typ) × (f ≡ Typ.Pair t u)
first-gave at (Typ.Pair a b) t e = (b, ap (λ x. Typ.Pair x b) (given a t e))
first-gave at _ t e = cc

pub second-gave : (at : ℕ) (f t : Typ) → second_of at f ≡ Ok t → (u : Typ) × (f ≡ Typ.Pair u t)
second-gave at (Typ.Pair a b) t e = (a, ap (Typ.Pair a) (given b t e))
second-gave at _ t e = cc

-- a part that must have a type, after which the form has another
wanted : (at : ℕ) (o : TypeOutcome) (w r t : Typ) → then_ o (λ u. want at u w (Ok r)) ≡ Ok t → (o ≡ Ok w) × (r ≡ t)
wanted at o w r t e =
    let k = then-gave o (λ u. want at u w (Ok r)) t e in
    let h = want-gave at k.0 w (Ok r) t k.2 in
    (k.1 ∙ ap Ok h.0, given r t h.1)

-- The rows by groups: if a row gives a type, its parts have types, and the relation has the row.
module _ (devices : ℕ) where
  pub unary-gave : (form : Unary) (at pat : ℕ) (q : Effect) (o : TypeOutcome) (t : Typ) → unary_row devices form at pat q o ≡ Ok t →
      (u : Typ) × (o ≡ Ok u) × HasUnary (unlisted devices) form q u t
  unary-gave unary.Not at pat q o t e =
      let k = wanted pat o Typ.Bool Typ.Bool t e in
      (Typ.Bool, k.0, subst (HasUnary (unlisted devices) unary.Not q Typ.Bool) k.1 negation)
  unary-gave (unary.Ref s number) at pat q o t e =
      let k = then-gave o (λ u. Ok (Typ.Ref s u)) t e in
      (k.0, k.1, subst (HasUnary (unlisted devices) (unary.Ref s number) q k.0) (given (Typ.Ref s k.0) t k.2) (reference tt))
  unary-gave unary.Get at pat q o t e =
      let k = then-gave o (λ u. read_row at pat q u) t e in
      let r = read-gave at pat q k.0 t k.2 in
      (Typ.Ref r.0 t, k.1 ∙ ap Ok r.1, get r.2)
  unary-gave unary.Peek at pat q o t e =
      let w = want_effect-gave wrong_effect at q Effect.Unprotected (then_ o (λ u. peeked_row at pat u)) t e in
      let k = then-gave o (λ u. peeked_row at pat u) t w.1 in
      let r = peeked-gave at pat k.0 t k.2 in
      (Typ.Ref Sort.Protected t, k.1 ∙ ap Ok r, subst (λ x. HasUnary (unlisted devices) unary.Peek x (Typ.Ref Sort.Protected t) t) (sym w.0) peek)
  unary-gave unary.Block at pat q o t e =
      let w = want_effect-gave misplaced_block at q Effect.Protected (then_ o (λ u. want pat u Typ.Bool (Ok Typ.Unit))) t e in
      let k = wanted pat o Typ.Bool Typ.Unit t w.1 in
      (Typ.Bool, k.0, subst (λ x. HasUnary (unlisted devices) unary.Block x Typ.Bool t) (sym w.0) (subst (HasUnary (unlisted devices) unary.Block Effect.Protected Typ.Bool) k.1 block))
  unary-gave unary.Print at pat q o t e =
      let k = wanted pat o Typ.Int Typ.Unit t e in
      (Typ.Int, k.0, subst (HasUnary (unlisted devices) unary.Print q Typ.Int) k.1 print)
  unary-gave (unary.Call device) at pat q o t e =
      let w = want_effect-gave wrong_effect at q Effect.Unprotected _ t e in
      let b = need-gave (nat_lt device devices) (record { rule = no_device; place = at; found = Shown.Device device; wanted = Shown.Device devices }) _ t w.1 in
      let k = wanted pat o Typ.Int Typ.Int t b.1 in (
        Typ.Int,
        k.0,
        subst (λ x. HasUnary (unlisted devices) (unary.Call device) x Typ.Int t) (sym w.0)
            (subst (HasUnary (unlisted devices) (unary.Call device) Effect.Unprotected Typ.Int) k.1 (call (ltb-true device devices b.0))),
      )
  unary-gave unary.First at pat q o t e =
      let k = then-gave o (λ u. first_of pat u) t e in
      let r = first-gave pat k.0 t k.2 in
      (Typ.Pair t r.0, k.1 ∙ ap Ok r.1, first)
  unary-gave unary.Second at pat q o t e =
      let k = then-gave o (λ u. second_of pat u) t e in
      let r = second-gave pat k.0 t k.2 in
      (Typ.Pair r.0 t, k.1 ∙ ap Ok r.1, second)

-- what the relation has, the row gives
module _ (signature : Signature) where
  pub unary-gives : {form : Unary} {q : Effect} {t u : Typ} → HasUnary signature form q t u → (at pat : ℕ) → unary_row signature.devices form at pat q (Ok t) ≡ Ok u
  unfolding same_type
  unary-gives negation at pat = refl
  unary-gives (reference m) at pat = refl
  unary-gives (get {q} {s} p) at pat = rw (touches-all s q p) refl
  unary-gives peek at pat = refl
  unary-gives block at pat = refl
  unary-gives print at pat = refl
  unary-gives (call {device} p) at pat = rw (lt-ltb device signature.devices p) refl
  unary-gives first at pat = refl
  unary-gives second at pat = refl

pub binary-gave : (form : Binary) (at lat rat : ℕ) (q : Effect) (a b : TypeOutcome) (t : Typ) → binary_row form at lat rat q a b ≡ Ok t →
    (u w : Typ) × (a ≡ Ok u) × (b ≡ Ok w) × HasBinary form q u w t
binary-gave binary.App at lat rat q a b t e =
    let k = then-gave a (λ u. call_row at lat rat q u b) t e in
    let c = call-gave at lat rat q k.0 b t k.2 in
    (Typ.Fun c.0 c.1 t, c.1, k.1 ∙ ap Ok c.2, c.3, app c.4)
binary-gave (binary.Bin o) at lat rat q a b t e =
    let k = then-gave a (λ u. want lat u Typ.Int (then_ b (λ w. want rat w Typ.Int (Ok (op_type o))))) t e in
    let l = want-gave lat k.0 Typ.Int (then_ b (λ w. want rat w Typ.Int (Ok (op_type o)))) t k.2 in
    let r = wanted rat b Typ.Int (op_type o) t l.1 in
    (Typ.Int, Typ.Int, k.1 ∙ ap Ok l.0, r.0, subst (HasBinary (binary.Bin o) q Typ.Int Typ.Int) r.1 (operation o))
binary-gave binary.Set at lat rat q a b t e =
    let k = then-gave a (λ u. write_row at lat rat q u b) t e in
    let r = write-gave at lat rat q k.0 b t k.2 in
    (Typ.Ref r.0 r.1, r.1, k.1 ∙ ap Ok r.2, r.3, subst (HasBinary binary.Set q (Typ.Ref r.0 r.1) r.1) (sym r.5) (set r.4))
binary-gave binary.Pair at lat rat q a b t e =
    let k = then-gave a (λ u. then_ b (λ w. Ok (Typ.Pair u w))) t e in
    let m = then-gave b (λ w. Ok (Typ.Pair k.0 w)) t k.2 in
    (k.0, m.0, k.1, m.1, subst (HasBinary binary.Pair q k.0 m.0) (given (Typ.Pair k.0 m.0) t m.2) pair)

pub binary-gives : {form : Binary} {q : Effect} {t u w : Typ} → HasBinary form q t u w → (at lat rat : ℕ) → binary_row form at lat rat q (Ok t) (Ok u) ≡ Ok w
unfolding same_type
binary-gives (app {q} {r} {t} p) at lat rat = rw (same_type-refl t) (rw (fits-all r q p) refl)
binary-gives (operation o) at lat rat = refl
binary-gives (set {q} {s} {t} p) at lat rat = rw (same_type-refl t) (rw (touches-all s q p) refl)
binary-gives pair at lat rat = refl
