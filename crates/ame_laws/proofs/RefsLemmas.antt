-- A term has as many `ref` forms as are counted, and the types that the table computes for them are those that they store, form by form.
use Rattle.std.proofs.Common.{◌≡◌, ℕ, ◌+◌, ◌++◌, false, List, [], ◌∷◌, Option, Ok, length, refl, sym, ap, subst, ◌∙◌, arith, length-append}
use Rattle.std.specs.List.{AllZip}
use Rattle.ame_term.specs.Tree.{Typ, OwnName, Tree, Trees}
use Rattle.ame_term.specs.Numbered.{own_ref_count, ref_count, all_ref_count}
use Rattle.ame_term.specs.Signature.{Signature}
use Rattle.ame_term.specs.SourceTerm.{nodes}
use Rattle.ame_term.specs.Scope.{Scope, within}
use Rattle.ame_term.specs.Shown.{TypeOutcome}
use Rattle.ame_term.specs.Typing.{own_ref_type, ref_types_in, ref_types_in_parts}
use Rattle.ame_term.specs.HasType.{HasType, HasLast}
use Rattle.ame_term.specs.declared.types.Sort.{Sort}
use Rattle.ame_term.specs.declared.types.Effect.{Effect}
use Rattle.ame_term.specs.declared.types.Unary.{Unary}
use Rattle.ame_term.specs.declared.types.Unary.TheVariants as unary
use Rattle.ame_laws.specs.Refs.{HasRefs, HaveRefs, is_ref, own_form, ref_forms, ref_forms_among, StoresType}
use Rattle.ame_laws.proofs.Complete.{complete}

own_counted : (op : Unary) (part : Tree) (others : List Tree) → length (own_form op part others) ≡ own_ref_count op + length others
own_counted (unary.Ref sort number) part others = omega arith
own_counted _ part others = omega arith

mutual
  unfolding ref_forms ref_forms_among ref_count all_ref_count

  -- a term has as many forms as are counted
  pub forms_counted : (t : Tree) → length (ref_forms t) ≡ ref_count t
  forms_counted (Tree.Held v) = refl
  forms_counted (Tree.Var x) = refl
  forms_counted (Tree.Lambda head body) = forms_counted body
  forms_counted (Tree.Let x bound body) = omega (arith, length-append (ref_forms bound) (ref_forms body), forms_counted bound, forms_counted body)
  forms_counted (Tree.Do parts) = all_counted parts
  forms_counted (Tree.If a b c) =
      omega (
        arith,
        length-append (ref_forms a ++ ref_forms b) (ref_forms c),
        length-append (ref_forms a) (ref_forms b),
        forms_counted a,
        forms_counted b,
        forms_counted c,
      )
  forms_counted (Tree.Async body) = forms_counted body
  forms_counted (Tree.Unprotected part) = forms_counted part
  forms_counted (Tree.One op part) = omega (arith, own_counted op part (ref_forms part), forms_counted part)
  forms_counted (Tree.Two op left right) = omega (arith, length-append (ref_forms left) (ref_forms right), forms_counted left, forms_counted right)

  all_counted : (parts : Trees) → length (ref_forms_among parts) ≡ all_ref_count parts
  all_counted Trees.None = refl
  all_counted (Trees.More part rest) = omega (arith, length-append (ref_forms part) (ref_forms_among rest), forms_counted part, all_counted rest)

no_form : (op : Unary) (part : Tree) (others : List Tree) → is_ref op ≡ false → own_form op part others ≡ others
no_form (unary.Ref s number) part others e = cc
no_form _ part others e = refl

zip_append : {A B : Type 0} (R : A → B → Type 0) (xs xs' : List A) (ys ys' : List B) → AllZip R xs ys → AllZip R xs' ys' → AllZip R (xs ++ xs') (ys ++ ys')
zip_append R [] xs' [] ys' a b = b
zip_append R [] xs' (y ∷ ys) ys' a b = absurd (a)
zip_append R (x ∷ xs) xs' [] ys' a b = absurd (a)
zip_append R (x ∷ xs) xs' (y ∷ ys) ys' a b = (a.0, zip_append R xs xs' ys ys' a.1 b)

zip_length : {A B : Type 0} (R : A → B → Type 0) (xs : List A) (ys : List B) → AllZip R xs ys → length ys ≡ length xs
zip_length R [] [] a = refl
zip_length R [] (y ∷ ys) a = absurd (a)
zip_length R (x ∷ xs) [] a = absurd (a)
zip_length R (x ∷ xs) (y ∷ ys) a = rw (zip_length R xs ys a.1)

module _ (signature : Signature) (cells : ℕ → Option (Sort × Typ)) where
  abbrev computed : (ℕ → ℕ) → Scope → Effect → ℕ → Tree → List Typ
  computed places g q i e = ref_types_in signature.devices cells places g q i e

  -- a form that is no `ref` form has the types of its part
  no_ref : (op : Unary) (o : TypeOutcome) (ts : List Typ) → is_ref op ≡ false → own_ref_type signature.devices cells op o ts ≡ ts
  no_ref (unary.Ref s number) o ts e = cc
  no_ref _ o ts e = refl

  given_one : {g : Scope} {q : Effect} {e : Tree} {t : Typ} {ts : List Typ} (op : Unary) → HasType signature cells g q e t → HasRefs signature cells g q e ts →
      HasRefs signature cells g q (Tree.One op e) (own_ref_type signature.devices cells op (Ok t) ts)
  given_one (unary.Ref s number) h k = HasRefs.reference h k
  given_one _ h k = HasRefs.one refl k

  mutual
    unfolding ref_types_in ref_types_in_parts

    -- what the table computes for a typed term is had
    pub refs_had : {g : Scope} {q : Effect} {e : Tree} {t : Typ} → HasType signature cells g q e t → (places : ℕ → ℕ) (i : ℕ) →
        HasRefs signature cells g q e (ref_types_in signature.devices cells places g q i e)
    refs_had (HasType.held h) places i = HasRefs.held
    refs_had (HasType.name e) places i = HasRefs.name
    refs_had (HasType.function {g} {q} {head} {body} p h) places i =
        subst
        (λ (o : Option OwnName).
        HasRefs signature cells g q (Tree.Lambda head body) (computed places (within head.effect o head.param head.param_type g) head.effect (i + 1) body))
        (sym p) (HasRefs.function p (refs_had h places (i + 1)))
    refs_had (HasType.recursive {g} {q} {head} {own} {body} p h) places i =
        subst
        (λ (o : Option OwnName).
        HasRefs signature cells g q (Tree.Lambda head body) (computed places (within head.effect o head.param head.param_type g) head.effect (i + 1) body))
        (sym p) (HasRefs.recursive p (refs_had h places (i + 1)))
    refs_had (HasType.binding {bound = bound} hb he) places i =
        rw (complete signature cells hb places (i + 1)) (HasRefs.binding hb (refs_had hb places (i + 1)) (refs_had he places (i + 1 + nodes bound)))
    refs_had (HasType.sequence h) places i = HasRefs.sequence (refs_had_last h places (i + 1))
    refs_had (HasType.choice {test = test} {then_part = then_part} ht ha hb) places i =
        HasRefs.choice (refs_had ht places (i + 1)) (refs_had ha places (i + 1 + nodes test)) (refs_had hb places (i + 1 + nodes test + nodes then_part))
    refs_had (HasType.async h) places i = HasRefs.async (refs_had h places (i + 1))
    refs_had (HasType.unprotected h) places i = HasRefs.unprotected (refs_had h places (i + 1))
    refs_had (HasType.one {op = op} row h) places i = rw (complete signature cells h places (i + 1)) (given_one op h (refs_had h places (i + 1)))
    refs_had (HasType.two {e = left} row ha hb) places i = HasRefs.two (refs_had ha places (i + 1)) (refs_had hb places (i + 1 + nodes left))

    refs_had_last : {g : Scope} {q : Effect} {parts : Trees} {t : Typ} → HasLast signature cells g q parts t → (places : ℕ → ℕ) (i : ℕ) →
        HaveRefs signature cells g q parts (ref_types_in_parts signature.devices cells places g q i parts)
    refs_had_last (HasLast.last h) places i = HaveRefs.more (refs_had h places i) HaveRefs.none
    refs_had_last (HasLast.more {e = e} h hs) places i = HaveRefs.more (refs_had h places i) (refs_had_last hs places (i + nodes e))

  mutual
    unfolding ref_types_in ref_types_in_parts

    -- and no other types are had
    pub refs_are : {g : Scope} {q : Effect} {e : Tree} {ts : List Typ} → HasRefs signature cells g q e ts → (places : ℕ → ℕ) (i : ℕ) →
        ts ≡ ref_types_in signature.devices cells places g q i e
    refs_are HasRefs.held places i = refl
    refs_are HasRefs.name places i = refl
    refs_are (HasRefs.function {g} {q} {head} {body} {ts} p h) places i =
        subst (λ (o : Option OwnName). ts ≡ computed places (within head.effect o head.param head.param_type g) head.effect (i + 1) body)
        (sym p) (refs_are h places (i + 1))
    refs_are (HasRefs.recursive {g} {q} {head} {own} {body} {ts} p h) places i =
        subst (λ (o : Option OwnName). ts ≡ computed places (within head.effect o head.param head.param_type g) head.effect (i + 1) body)
        (sym p) (refs_are h places (i + 1))
    refs_are (HasRefs.binding {bound = bound} hb h k) places i =
        let first = refs_are h places (i + 1) in
        let second = refs_are k places (i + 1 + nodes bound) in
        rw (complete signature cells hb places (i + 1)) (cc)
    refs_are (HasRefs.sequence h) places i = refs_are_all h places (i + 1)
    refs_are (HasRefs.choice {test = test} {then_part = then_part} ht ha hb) places i =
        let first = refs_are ht places (i + 1) in
        let second = refs_are ha places (i + 1 + nodes test) in
        let third = refs_are hb places (i + 1 + nodes test + nodes then_part) in
        cc
    refs_are (HasRefs.async h) places i = refs_are h places (i + 1)
    refs_are (HasRefs.unprotected h) places i = refs_are h places (i + 1)
    refs_are (HasRefs.reference {t = t} hp h) places i =
        rw (complete signature cells hp places (i + 1)) (ap (λ (us : List Typ). t ∷ us) (refs_are h places (i + 1)))
    refs_are (HasRefs.one {op = op} p h) places i = refs_are h places (i + 1) ∙ sym (no_ref op _ _ p)
    refs_are (HasRefs.two {left = left} ha hb) places i =
        let first = refs_are ha places (i + 1) in
        let second = refs_are hb places (i + 1 + nodes left) in
        cc

    refs_are_all : {g : Scope} {q : Effect} {parts : Trees} {ts : List Typ} → HaveRefs signature cells g q parts ts → (places : ℕ → ℕ) (i : ℕ) →
        ts ≡ ref_types_in_parts signature.devices cells places g q i parts
    refs_are_all HaveRefs.none places i = refl
    refs_are_all (HaveRefs.more {part = part} h k) places i =
        let first = refs_are h places i in
        let second = refs_are_all k places (i + nodes part) in
        cc

  abbrev Pairs : List Tree → List Typ → Type 0
  Pairs forms ts = AllZip (StoresType signature cells) forms ts

  paired : (xs xs' : List Tree) (ts ts' : List Typ) → Pairs xs ts → Pairs xs' ts' → Pairs (xs ++ xs') (ts ++ ts')
  paired xs xs' ts ts' a b = zip_append (StoresType signature cells) xs xs' ts ts' a b

  mutual
    unfolding ref_forms ref_forms_among

    -- the forms and their types stand side by side
    pub refs_paired : {g : Scope} {q : Effect} {e : Tree} {ts : List Typ} → HasRefs signature cells g q e ts →
        AllZip (StoresType signature cells) (ref_forms e) ts
    refs_paired HasRefs.held = tt
    refs_paired HasRefs.name = tt
    refs_paired (HasRefs.function p h) = refs_paired h
    refs_paired (HasRefs.recursive p h) = refs_paired h
    refs_paired (HasRefs.binding {bound = bound} {body = body} {ts = ts} {us = us} hb h k) =
        paired (ref_forms bound) (ref_forms body) ts us (refs_paired h) (refs_paired k)
    refs_paired (HasRefs.sequence h) = refs_paired_all h
    refs_paired (HasRefs.choice {test = a} {then_part = b} {else_part = c} {ts = ts} {us = us} {ws = ws} ht ha hb) =
        paired (ref_forms a ++ ref_forms b) (ref_forms c) (ts ++ us) ws
        (paired (ref_forms a) (ref_forms b) ts us (refs_paired ht) (refs_paired ha)) (refs_paired hb)
    refs_paired (HasRefs.async h) = refs_paired h
    refs_paired (HasRefs.unprotected h) = refs_paired h
    refs_paired (HasRefs.reference {g} {q} hp h) = ((g, q, hp), refs_paired h)
    refs_paired (HasRefs.one {op = op} {part = part} {ts = ts} p h) =
        subst (λ (forms : List Tree). Pairs forms ts) (sym (no_form op part (ref_forms part) p)) (refs_paired h)
    refs_paired (HasRefs.two {left = left} {right = right} {ts = ts} {us = us} ha hb) =
        paired (ref_forms left) (ref_forms right) ts us (refs_paired ha) (refs_paired hb)

    refs_paired_all : {g : Scope} {q : Effect} {parts : Trees} {ts : List Typ} → HaveRefs signature cells g q parts ts →
        AllZip (StoresType signature cells) (ref_forms_among parts) ts
    refs_paired_all HaveRefs.none = tt
    refs_paired_all (HaveRefs.more {part = part} {rest = rest} {ts = ts} {us = us} h k) =
        paired (ref_forms part) (ref_forms_among rest) ts us (refs_paired h) (refs_paired_all k)

  pub refs_counted : {g : Scope} {q : Effect} {e : Tree} {ts : List Typ} → HasRefs signature cells g q e ts → length ts ≡ length (ref_forms e)
  refs_counted {e = e} {ts = ts} h = zip_length (StoresType signature cells) (ref_forms e) ts (refs_paired h)
