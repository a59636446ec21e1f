-- Each name of a term that is spelled stands within a form that binds it.
use Rattle.std.proofs.Common.{◌≡◌, refl, ap, sym, subst, ◌∙◌, ℕ, ◌-◌, ◌==◌, ◌||◌, Bool, true, false, List, [], ◌∷◌, ◌++◌, length, take, length-append, arith, IsTrue}
use Rattle.std.specs.List.{list_any}
use Rattle.std.proofs.lemmas.List.Folds.{list_any-append}
use Rattle.std.proofs.Math.Seq.{take-append_seam}
use Rattle.ame_term.specs.Tree.{Typ, Head, Tree}
use Rattle.ame_term.specs.SourceTerm.{names_within, is_name_of, IsBound, AllBound}
use Rattle.ame_parse.specs.Input.{Input, advanced, marked, name_number, named, binds_name, bound, unbound, ref_counted}
use Rattle.ame_parse.specs.Forms.{row}
use Rattle.ame_parse.specs.Grammar as g
use Rattle.ame_parse.specs.Grammar.{IsType, IsTypeForm, IsParam, IsFunctionHead, outside, IsTerm, IsForm, AreParts}

-- ---- a term leaves the scope as it was

abbrev scope_of : Input → List ℕ
scope_of i = i.scope

scope_advanced : (i : Input) → scope_of (advanced i) ≡ scope_of i
unfolding advanced
scope_advanced i = refl

scope_named : (i : Input) → scope_of (named i) ≡ scope_of i
unfolding named
scope_named i = refl

scope_marked : (i : Input) → scope_of (marked i) ≡ scope_of i
unfolding marked
scope_marked i = refl

scope_bound : (x : ℕ) (i : Input) → scope_of (bound x i) ≡ scope_of i ++ x ∷ []
unfolding bound
scope_bound x i = refl

without_last : (s : List ℕ) (x : ℕ) → take (length (s ++ x ∷ []) - 1) (s ++ x ∷ []) ≡ s
without_last s x = let e : length (s ++ x ∷ []) - 1 ≡ length s = omega (arith, length-append s (x ∷ [])) in ap (λ m. take m (s ++ x ∷ [])) e ∙ take-append_seam s (x ∷ [])

scope_counted : (i : Input) → scope_of (ref_counted i) ≡ scope_of i
unfolding ref_counted
scope_counted i = refl

scope_unbound : (i : Input) (s : List ℕ) (x : ℕ) → scope_of i ≡ s ++ x ∷ [] → scope_of (unbound i) ≡ s
unfolding unbound
scope_unbound i s x e = ap (λ z. take (length z - 1) z) e ∙ without_last s x

mutual
  type_scope : {n : ℕ} {i j : Input} {type : Typ} → IsType n i type j → scope_of j ≡ scope_of i
  type_scope (g.unit_type {i = i} e) = scope_advanced i
  type_scope (g.bool_type {i = i} e) = scope_advanced i
  type_scope (g.int_type {i = i} e) = scope_advanced i
  type_scope (g.type_form {i = i} e form) = type_form_scope form ∙ scope_advanced i

  type_form_scope : {n : ℕ} {i j : Input} {type : Typ} → IsTypeForm n i type j → scope_of j ≡ scope_of i
  type_form_scope (g.ref_type {i = i} {j = j} e s h shut) = scope_advanced j ∙ type_scope h ∙ scope_advanced (advanced i) ∙ scope_advanced i
  type_form_scope (g.fun_type {i = i} {k = k} e s h h' shut) = scope_advanced k ∙ type_scope h' ∙ type_scope h ∙ scope_advanced (advanced i) ∙ scope_advanced i
  type_form_scope (g.pair_type {i = i} {k = k} e h h' shut) = scope_advanced k ∙ type_scope h' ∙ type_scope h ∙ scope_advanced i

param_scope : {n : ℕ} {i j : Input} {x : ℕ} {type : Typ} → IsParam n i x type j → scope_of j ≡ scope_of i
param_scope (g.param {i = i} {j = j} e e' h shut) = scope_advanced j ∙ type_scope h ∙ scope_named (advanced i) ∙ scope_advanced i

-- what ends with the scope of a body leaves a function with the scope that was before
head_scope : {n : ℕ} {i j : Input} {head : Head} → IsFunctionHead n i head j → (k : Input) → scope_of k ≡ scope_of j → scope_of (outside head.own k) ≡ scope_of i
head_scope (g.fn {i = i} {j = j} {x = x} e q p) k same =
    scope_unbound k (scope_of j) x (same ∙ scope_bound x j) ∙ param_scope p ∙ scope_advanced (advanced i) ∙ scope_advanced i
head_scope (g.rec {own = own} {i = i} {k = k} {x = x} e q e' own_is p t) last same =
    let inner : scope_of last ≡ (scope_of k ++ own ∷ []) ++ x ∷ [] = same ∙ scope_bound x (bound own k) ∙ ap (λ s. s ++ x ∷ []) (scope_bound own k) in
    scope_unbound (unbound last) (scope_of k) own (scope_unbound last (scope_of k ++ own ∷ []) x inner)
    ∙ type_scope t ∙ param_scope p ∙ scope_named (advanced (advanced i)) ∙ scope_advanced (advanced i) ∙ scope_advanced i

mutual
  term_scope : {n : ℕ} {i j : Input} {tree : Tree} → IsTerm n i tree j → scope_of j ≡ scope_of i
  term_scope (g.int {i = i} e) = scope_advanced (marked i) ∙ scope_marked i
  term_scope (g.unit {i = i} e) = scope_advanced (marked i) ∙ scope_marked i
  term_scope (g.truth {i = i} e) = scope_advanced (marked i) ∙ scope_marked i
  term_scope (g.falsehood {i = i} e) = scope_advanced (marked i) ∙ scope_marked i
  term_scope (g.yield {i = i} e) = scope_advanced (marked (marked i)) ∙ scope_marked (marked i) ∙ scope_marked i
  term_scope (g.variable {i = i} e is_bound) = scope_named (marked i) ∙ scope_marked i
  term_scope (g.form {i = i} e form) = form_scope form ∙ scope_advanced (marked i) ∙ scope_marked i

  form_scope : {n : ℕ} {i j : Input} {tree : Tree} → IsForm n i tree j → scope_of j ≡ scope_of i
  form_scope (g.function {k = k} h body shut) = head_scope h (advanced k) (scope_advanced k ∙ term_scope body)
  form_scope (g.binding {x = x} {i = i} {j = j} {k = k} e e' same h h' shut) =
      scope_unbound (advanced k) (scope_of j) x (scope_advanced k ∙ term_scope h' ∙ scope_bound x j) ∙ term_scope h ∙ scope_named (advanced i) ∙ scope_advanced i
  form_scope (g.sequence {i = i} {l = l} e h h' others shut) = scope_advanced l ∙ parts_scope others ∙ term_scope h' ∙ term_scope h ∙ scope_advanced i
  form_scope (g.choice {i = i} {l = l} e h h' h'' shut) = scope_advanced l ∙ term_scope h'' ∙ term_scope h' ∙ term_scope h ∙ scope_advanced i
  form_scope (g.one {i = i} {j = j} e is h shut) = scope_advanced j ∙ term_scope h ∙ scope_advanced i
  form_scope (g.ref {i = i} {j = j} e s h shut) =
      scope_advanced j ∙ term_scope h ∙ scope_counted (advanced (advanced i)) ∙ scope_advanced (advanced i) ∙ scope_advanced i
  form_scope (g.call {i = i} {j = j} e d small h shut) = scope_advanced j ∙ term_scope h ∙ scope_advanced (advanced i) ∙ scope_advanced i
  form_scope (g.two {i = i} {k = k} e is h h' shut) = scope_advanced k ∙ term_scope h' ∙ term_scope h ∙ scope_advanced i
  form_scope (g.async {i = i} {j = j} e h shut) = scope_advanced j ∙ term_scope h ∙ scope_advanced i
  form_scope (IsForm.unprotected {i = i} {j = j} e h shut) = scope_advanced j ∙ term_scope h ∙ scope_advanced i

  parts_scope : {n : ℕ} {i k : Input} {others : List Tree} → AreParts n i others k → scope_of k ≡ scope_of i
  parts_scope (g.none e) = refl
  parts_scope (g.more h others) = parts_scope others ∙ term_scope h

-- ---- what is bound here is among the names

abbrev Covers : List ℕ → List ℕ → Type 0
Covers names scope = (y : ℕ) → list_any (λ z. z == y) scope ≡ true → is_name_of names y ≡ true

moved : (names s s' : List ℕ) → s' ≡ s → Covers names s → Covers names s'
moved names s s' e covers = subst (Covers names) (sym e) covers

one_more_by : (names : List ℕ) (x y : ℕ) (inner same : Bool) → (inner ≡ true → is_name_of names y ≡ true) → (inner || (same || false)) ≡ true → (same || is_name_of names y) ≡ true
one_more_by names x y inner true covers h = refl
one_more_by names x y true false covers h = covers refl
one_more_by names x y false false covers h = absurd (cc)

one_more : (names s s' : List ℕ) (x : ℕ) → s' ≡ s ++ x ∷ [] → Covers names s → Covers (x ∷ names) s'
one_more names s s' x e covers y h =
    one_more_by names x y (list_any (λ z. z == y) s) (x == y) (covers y) (sym (list_any-append (λ z. z == y) s (x ∷ [])) ∙ ap (list_any (λ z. z == y)) (sym e) ∙ h)

variable_covered : (names : List ℕ) (i : Input) (x : ℕ) → Covers names (scope_of i) → binds_name x i ≡ true → IsTrue (is_name_of names x)
unfolding binds_name
variable_covered names i x covers e = covers x e

head_covers : {n : ℕ} {i j : Input} {head : Head} → IsFunctionHead n i head j → (names : List ℕ) → Covers names (scope_of i) → Covers (names_within head.own head.param names) (scope_of j)
head_covers (g.fn {i = i} {j = j} {x = x} e q p) names covers =
    one_more names _ _ x (scope_bound x j) (moved names _ _ (param_scope p ∙ scope_advanced (advanced i) ∙ scope_advanced i) covers)
head_covers (g.rec {own = own} {i = i} {k = k} {x = x} e q e' own_is p t) names covers =
    let here : Covers names (scope_of k) =
    moved names _ _ (type_scope t ∙ param_scope p ∙ scope_named (advanced (advanced i)) ∙ scope_advanced (advanced i) ∙ scope_advanced i) covers in
    one_more (own ∷ names) _ _ x (scope_bound x (bound own k)) (one_more names _ _ own (scope_bound own k) here)

mutual
  unfolding IsBound

  pub term_bound : {n : ℕ} {i j : Input} {tree : Tree} → IsTerm n i tree j → (names : List ℕ) → Covers names (scope_of i) → IsBound names tree
  term_bound (g.int e) names covers = tt
  term_bound (g.unit e) names covers = tt
  term_bound (g.truth e) names covers = tt
  term_bound (g.falsehood e) names covers = tt
  term_bound (g.yield e) names covers = tt
  term_bound (g.variable {i = i} e is_bound) names covers = variable_covered names i (name_number i) covers is_bound
  term_bound (g.form {i = i} e form) names covers = form_bound form names (moved names _ _ (scope_advanced (marked i) ∙ scope_marked i) covers)

  form_bound : {n : ℕ} {i j : Input} {tree : Tree} → IsForm n i tree j → (names : List ℕ) → Covers names (scope_of i) → IsBound names tree
  form_bound (g.function {head = head} h body shut) names covers = term_bound body (names_within head.own head.param names) (head_covers h names covers)
  form_bound (g.binding {x = x} {i = i} {j = j} e e' same h h' shut) names covers = (
    term_bound h names (moved names _ _ (scope_named (advanced i) ∙ scope_advanced i) covers),
    term_bound h' (x ∷ names) (one_more names _ _ x (scope_bound x j) (moved names _ _ (term_scope h ∙ scope_named (advanced i) ∙ scope_advanced i) covers)),
  )
  form_bound (g.sequence {i = i} e h h' others shut) names covers = (
    term_bound h names (moved names _ _ (scope_advanced i) covers),
    (
      term_bound h' names (moved names _ _ (term_scope h ∙ scope_advanced i) covers),
      parts_bound others names (moved names _ _ (term_scope h' ∙ term_scope h ∙ scope_advanced i) covers),
    ),
  )
  form_bound (g.choice {i = i} e h h' h'' shut) names covers = (
    term_bound h names (moved names _ _ (scope_advanced i) covers),
    term_bound h' names (moved names _ _ (term_scope h ∙ scope_advanced i) covers),
    term_bound h'' names (moved names _ _ (term_scope h' ∙ term_scope h ∙ scope_advanced i) covers),
  )
  form_bound (g.one {i = i} e is h shut) names covers = term_bound h names (moved names _ _ (scope_advanced i) covers)
  form_bound (g.ref {i = i} e s h shut) names covers =
      term_bound h names (moved names _ _ (scope_counted (advanced (advanced i)) ∙ scope_advanced (advanced i) ∙ scope_advanced i) covers)
  form_bound (g.call {i = i} e d small h shut) names covers = term_bound h names (moved names _ _ (scope_advanced (advanced i) ∙ scope_advanced i) covers)
  form_bound (g.two {i = i} e is h h' shut) names covers =
      (term_bound h names (moved names _ _ (scope_advanced i) covers), term_bound h' names (moved names _ _ (term_scope h ∙ scope_advanced i) covers))
  form_bound (g.async {i = i} e h shut) names covers = term_bound h names (moved names _ _ (scope_advanced i) covers)
  form_bound (IsForm.unprotected {i = i} e h shut) names covers = term_bound h names (moved names _ _ (scope_advanced i) covers)

  parts_bound : {n : ℕ} {i k : Input} {others : List Tree} → AreParts n i others k → (names : List ℕ) → Covers names (scope_of i) → AllBound names (row others)
  parts_bound (g.none e) names covers = tt
  parts_bound (g.more h others) names covers = (term_bound h names covers, parts_bound others names (moved names _ _ (term_scope h) covers))

-- nothing is bound at the start
pub term_closed : {n : ℕ} {i j : Input} {tree : Tree} → IsTerm n i tree j → i.scope ≡ [] → IsBound [] tree
term_closed h none = term_bound h [] (λ y e. absurd (let found : false ≡ true = ap (list_any (λ z. z == y)) (sym none) ∙ e in cc))
