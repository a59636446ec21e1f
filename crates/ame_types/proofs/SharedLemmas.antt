-- Types of a table: what it lists stays listed, and two types are the same exactly where their marks are.
use Rattle.std.proofs.Common.{◌≡◌, ℕ, zero, suc, ◌<◌, ◌==◌, nat_lt, Bool, true, false, ◌&&◌, cond, List, [], ◌∷◌, ◌++◌, Some, slice_get, refl, sym, ap, subst, ◌∙◌, arith, eqb-true, true≢false}
use Rattle.std.specs.List.{list_any, IsDistinct}
use Rattle.std.specs.Cmp.{IsEquivalence}
use Rattle.std.proofs.lemmas.Bool.Decides.{nat_tests}
use Rattle.std.proofs.lemmas.Map.Keys.{apart_from_distinct}
use Rattle.std.proofs.lemmas.Option.{slice_get_within, get_or_from_slice_get}
use Rattle.ame_term.specs.Typing.{same_sort, same_effect, same_type}
use Rattle.ame_term.specs.declared.types.Sort.{Sort}
use Rattle.ame_term.specs.declared.types.Effect.{Effect}
use Rattle.ame_types.specs.declared.type_scope.TypeScope as chain
use Rattle.ame_types.specs.declared.shared_type.SharedType as shared
use Rattle.ame_types.specs.declared.shared_type.Key.{Key}
use Rattle.ame_types.specs.declared.shared_type.Key.TheVariants as key
use Rattle.ame_types.specs.declared.shared_type.Mark.{Mark}
use Rattle.ame_types.specs.declared.shared_type.Mark.TheVariants as mark
use Rattle.ame_types.specs.declared.shared_type.Zone.{Zone}
use Rattle.ame_types.specs.Shared.{shared_type, mark_of, sort_zone, effect_zone, ref_key, fun_key, pair_key, IsListed, Lengthens}
use Rattle.ame_types.specs.contracts.shared_type.MarkPartialEq.TheImpl as mark_test
use Rattle.ame_types.specs.contracts.shared_type.ZonePartialEq.TheImpl as zone_test
use Rattle.ame_types.specs.contracts.shared_type.KeyPartialEq.TheImpl as key_test
use Rattle.ame_types.specs.contracts.shared_type.KeyEq.TheImpl.Laws.{laws-law as key_laws}
use Rattle.ame_types.specs.Scope.{AreListed}

appended : {X : Type 0} (xs ys : List X) (n : ℕ) (x : X) → slice_get xs n ≡ Some x → slice_get (xs ++ ys) n ≡ Some x
appended [] ys n x h = cc
appended (y ∷ xs) ys zero x h = h
appended (y ∷ xs) ys (suc n) x h = appended xs ys n x h

pub unchanged : (old new : List Key) → new ≡ old → Lengthens old new
unchanged old new e = record { stays = λ n key h. rw e h }

-- a key that is inserted goes after the others
pub inserted : (test : Key → Bool) (old new : List Key) (key : Key) → new ≡ cond (list_any test old) old (old ++ key ∷ []) → Lengthens old new
inserted test old new key e = by (list_any test old) e
  where
    by : (b : Bool) → new ≡ cond b old (old ++ key ∷ []) → Lengthens old new
    by true e = unchanged old new e
    by false e = record { stays = λ n k h. rw e (appended old (key ∷ []) n k h) }

pub longer : {old mid new : List Key} → Lengthens old mid → Lengthens mid new → Lengthens old new
longer g h = record { stays = λ n key i. h.stays n key (g.stays n key i) }

-- what a table lists stays listed
pub listed : {old new : List Key} → Lengthens old new → (t : shared.SharedType) → IsListed old t → IsListed new t
listed g shared.Unit h = tt
listed g shared.Bool h = tt
listed g shared.Int h = tt
listed g (shared.Ref' n sort _ content) h = (g.stays n _ h.0, listed g content h.1)
listed g (shared.Fun' n effect _ param _ result) h = (g.stays n _ h.0, listed g param h.1, listed g result h.2)
listed g (shared.Pair' n _ first _ second) h = (g.stays n _ h.0, listed g first h.1, listed g second h.2)

pub all_listed : {old new : List Key} → Lengthens old new → (scope : chain.TypeScope) → AreListed old scope → AreListed new scope
all_listed g chain.Empty h = tt
all_listed g (chain.Bound' _ outer x ty) h = (all_listed g outer h.0, listed g ty h.1)
all_listed g (chain.Beside' _ outer ty) h = (all_listed g outer h.0, listed g ty h.1)

module _ {eq : Key → Key → Bool} (laws : IsEquivalence eq) (keys : List Key) (distinct : IsDistinct eq keys) where
  before : (m n : ℕ) (j k : Key) → slice_get keys m ≡ Some j → slice_get keys n ≡ Some k → m < n → eq j k ≡ false
  before m n j k h i l =
      let apart = apart_from_distinct eq keys m n j distinct l (slice_get_within keys n k i) in
      rw (get_or_from_slice_get keys m j j h, get_or_from_slice_get keys n k j i) at apart

  -- two numbers are equal exactly where their keys are
  pub numbers_by : (m n : ℕ) (j k : Key) → slice_get keys m ≡ Some j → slice_get keys n ≡ Some k → (m == n) ≡ eq j k
  numbers_by m n j k h i = by (m == n) refl
    where
      order : (b : Bool) → nat_lt m n ≡ b → (m == n) ≡ false → eq j k ≡ false
      order true l e = before m n j k h i (grind (arith, nat_tests))
      order false l e = laws.symm j k ∙ before n m k j i h (grind (arith, nat_tests))

      by : (b : Bool) → (m == n) ≡ b → (m == n) ≡ eq j k
      by true e =
          let here : m ≡ n = eqb-true m n e in
          let alike : j ≡ k = cc in
          e ∙ sym (subst (λ (x : Key). eq j x ≡ true) alike (laws.refl j))
      by false e = e ∙ sym (order (nat_lt m n) refl e)

abbrev mark_eq : Mark → Mark → Bool
mark_eq = mark_test.ghosts.eq

abbrev key_eq : Key → Key → Bool
key_eq = key_test.ghosts.eq

abbrev zone_eq : Zone → Zone → Bool
zone_eq = zone_test.ghosts.eq

mark_same : (a b : Mark) → mark_eq a b ≡ true → a ≡ b
mark_same mark.Unit mark.Unit h = refl
mark_same mark.Unit mark.Bool h = absurd (true≢false (sym h))
mark_same mark.Unit mark.Int h = absurd (true≢false (sym h))
mark_same mark.Unit (mark.Numbered n) h = absurd (true≢false (sym h))
mark_same mark.Bool mark.Unit h = absurd (true≢false (sym h))
mark_same mark.Bool mark.Bool h = refl
mark_same mark.Bool mark.Int h = absurd (true≢false (sym h))
mark_same mark.Bool (mark.Numbered n) h = absurd (true≢false (sym h))
mark_same mark.Int mark.Unit h = absurd (true≢false (sym h))
mark_same mark.Int mark.Bool h = absurd (true≢false (sym h))
mark_same mark.Int mark.Int h = refl
mark_same mark.Int (mark.Numbered n) h = absurd (true≢false (sym h))
mark_same (mark.Numbered m) mark.Unit h = absurd (true≢false (sym h))
mark_same (mark.Numbered m) mark.Bool h = absurd (true≢false (sym h))
mark_same (mark.Numbered m) mark.Int h = absurd (true≢false (sym h))
mark_same (mark.Numbered m) (mark.Numbered n) h = ap mark.Numbered (eqb-true m n h)

zone_same : (a b : Zone) → zone_eq a b ≡ true → a ≡ b
zone_same Zone.Protected Zone.Protected h = refl
zone_same Zone.Protected Zone.Unprotected h = absurd (true≢false (sym h))
zone_same Zone.Protected Zone.Either h = absurd (true≢false (sym h))
zone_same Zone.Unprotected Zone.Protected h = absurd (true≢false (sym h))
zone_same Zone.Unprotected Zone.Unprotected h = refl
zone_same Zone.Unprotected Zone.Either h = absurd (true≢false (sym h))
zone_same Zone.Either Zone.Protected h = absurd (true≢false (sym h))
zone_same Zone.Either Zone.Unprotected h = absurd (true≢false (sym h))
zone_same Zone.Either Zone.Either h = refl

parts : (a b : Bool) → (a && b) ≡ true → (a ≡ true) × (b ≡ true)
parts true b h = (refl, h)
parts false b h = absurd (true≢false (sym h))

-- two keys that the test finds equal are one
pub key_same : (a b : Key) → key_eq a b ≡ true → a ≡ b
key_same (key.Ref z x) (key.Ref w u) h =
    let p = parts _ _ h in
    let e = zone_same z w p.0 in let f = mark_same x u p.1 in cc
key_same (key.Fun z x y) (key.Fun w u v) h =
    let p = parts _ _ h in let q = parts _ _ p.1 in
    let e = zone_same z w p.0 in let f = mark_same x u q.0 in let g = mark_same y v q.1 in cc
key_same (key.Pair x y) (key.Pair u v) h =
    let p = parts _ _ h in
    let f = mark_same x u p.0 in let g = mark_same y v p.1 in cc
key_same (key.Ref z x) (key.Fun w u v) h = absurd (true≢false (sym h))
key_same (key.Ref z x) (key.Pair u v) h = absurd (true≢false (sym h))
key_same (key.Fun z x y) (key.Ref w u) h = absurd (true≢false (sym h))
key_same (key.Fun z x y) (key.Pair u v) h = absurd (true≢false (sym h))
key_same (key.Pair x y) (key.Ref w u) h = absurd (true≢false (sym h))
key_same (key.Pair x y) (key.Fun w u v) h = absurd (true≢false (sym h))

ref_row : (s t : Sort) (x y : Bool) → x ≡ y → (zone_eq (sort_zone s) (sort_zone t) && x) ≡ (same_sort s t && y)
ref_row Sort.Protected Sort.Protected x y e = e
ref_row Sort.Protected Sort.Unprotected x y e = refl
ref_row Sort.Unprotected Sort.Protected x y e = refl
ref_row Sort.Unprotected Sort.Unprotected x y e = e

both : (x y u v : Bool) → x ≡ y → u ≡ v → (x && u) ≡ (y && v)
both x y u v e f = cc

fun_row : (s t : Effect) (x y u v : Bool) → x ≡ y → u ≡ v → (zone_eq (effect_zone s) (effect_zone t) && (x && u)) ≡ (same_effect s t && (y && v))
fun_row Effect.Protected Effect.Protected x y u v e f = cc
fun_row Effect.Protected Effect.Unprotected x y u v e f = refl
fun_row Effect.Protected Effect.Either x y u v e f = refl
fun_row Effect.Unprotected Effect.Protected x y u v e f = refl
fun_row Effect.Unprotected Effect.Unprotected x y u v e f = cc
fun_row Effect.Unprotected Effect.Either x y u v e f = refl
fun_row Effect.Either Effect.Protected x y u v e f = refl
fun_row Effect.Either Effect.Unprotected x y u v e f = refl
fun_row Effect.Either Effect.Either x y u v e f = cc

module _ (keys : List Key) (distinct : IsDistinct key_eq keys) where
  numbers : (m n : ℕ) (j k : Key) → slice_get keys m ≡ Some j → slice_get keys n ≡ Some k → (m == n) ≡ key_eq j k
  numbers = numbers_by key_laws keys distinct

  -- two types of a table are the same exactly where their marks are
  pub same : (a b : shared.SharedType) → IsListed keys a → IsListed keys b → mark_eq (mark_of a) (mark_of b) ≡ same_type (shared_type a) (shared_type b)
  unfolding same_type
  same shared.Unit shared.Unit h k = refl
  same shared.Unit shared.Bool h k = refl
  same shared.Unit shared.Int h k = refl
  same shared.Unit (shared.Ref' n t _ u) h k = refl
  same shared.Unit (shared.Fun' n t _ u _ v) h k = refl
  same shared.Unit (shared.Pair' n _ u _ v) h k = refl
  same shared.Bool shared.Unit h k = refl
  same shared.Bool shared.Bool h k = refl
  same shared.Bool shared.Int h k = refl
  same shared.Bool (shared.Ref' n t _ u) h k = refl
  same shared.Bool (shared.Fun' n t _ u _ v) h k = refl
  same shared.Bool (shared.Pair' n _ u _ v) h k = refl
  same shared.Int shared.Unit h k = refl
  same shared.Int shared.Bool h k = refl
  same shared.Int shared.Int h k = refl
  same shared.Int (shared.Ref' n t _ u) h k = refl
  same shared.Int (shared.Fun' n t _ u _ v) h k = refl
  same shared.Int (shared.Pair' n _ u _ v) h k = refl
  same (shared.Ref' m s _ x) shared.Unit h k = refl
  same (shared.Ref' m s _ x) shared.Bool h k = refl
  same (shared.Ref' m s _ x) shared.Int h k = refl
  same (shared.Ref' m s _ x) (shared.Ref' n t _ u) h k = numbers m n (ref_key s x) (ref_key t u) h.0 k.0 ∙ ref_row s t _ _ (same x u h.1 k.1)
  same (shared.Ref' m s _ x) (shared.Fun' n t _ u _ v) h k = numbers m n (ref_key s x) (fun_key t u v) h.0 k.0
  same (shared.Ref' m s _ x) (shared.Pair' n _ u _ v) h k = numbers m n (ref_key s x) (pair_key u v) h.0 k.0
  same (shared.Fun' m s _ x _ y) shared.Unit h k = refl
  same (shared.Fun' m s _ x _ y) shared.Bool h k = refl
  same (shared.Fun' m s _ x _ y) shared.Int h k = refl
  same (shared.Fun' m s _ x _ y) (shared.Ref' n t _ u) h k = numbers m n (fun_key s x y) (ref_key t u) h.0 k.0
  same (shared.Fun' m s _ x _ y) (shared.Fun' n t _ u _ v) h k = numbers m n (fun_key s x y) (fun_key t u v) h.0 k.0 ∙ fun_row s t _ _ _ _ (same x u h.1 k.1) (same y v h.2 k.2)
  same (shared.Fun' m s _ x _ y) (shared.Pair' n _ u _ v) h k = numbers m n (fun_key s x y) (pair_key u v) h.0 k.0
  same (shared.Pair' m _ x _ y) shared.Unit h k = refl
  same (shared.Pair' m _ x _ y) shared.Bool h k = refl
  same (shared.Pair' m _ x _ y) shared.Int h k = refl
  same (shared.Pair' m _ x _ y) (shared.Ref' n t _ u) h k = numbers m n (pair_key x y) (ref_key t u) h.0 k.0
  same (shared.Pair' m _ x _ y) (shared.Fun' n t _ u _ v) h k = numbers m n (pair_key x y) (fun_key t u v) h.0 k.0
  same (shared.Pair' m _ x _ y) (shared.Pair' n _ u _ v) h k = numbers m n (pair_key x y) (pair_key u v) h.0 k.0 ∙ both _ _ _ _ (same x u h.1 k.1) (same y v h.2 k.2)
