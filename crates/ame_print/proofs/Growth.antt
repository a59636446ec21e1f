-- The progress of an input: names are added, the scope comes back, and what is good stays good.
use Rattle.std.proofs.Common.{◌≡◌, refl, sym, ap, ◌∙◌, ℕ, ◌-◌, Bool, true, false, cond, List, [], ◌∷◌, ◌++◌, length, take, drop, length-append, append_assoc, append-nil, arith}
use Rattle.std.specs.List.{list_any, AllByRecursion}
use Rattle.std.specs.Str.{bytes_eq}
use Rattle.std.proofs.Math.Seq.{take-append_seam}
use Rattle.ame_lex.specs.Bytes.{Text}
use Rattle.ame_term.specs.Tree.{Typ, Head, Tree}
use Rattle.ame_parse.specs.Input.{Seen, Input, advanced, marked, spelling, named, bound, unbound, ref_counted}
use Rattle.ame_parse.specs.Names.{with_name}
use Rattle.ame_parse.specs.Grammar as g
use Rattle.ame_parse.specs.Grammar.{IsType, IsTypeForm, IsParam, IsFunctionHead, outside, IsTerm, IsForm, AreParts}
use Rattle.ame_print.proofs.Canon.{IsFirstOf, IsGood}

-- ---- first names

pub first_itself : (names : List Text) → IsFirstOf names names
first_itself names = record { more = []; split = sym (append-nil names) }

pub first_of_first : {names some all : List Text} → IsFirstOf names some → IsFirstOf some all → IsFirstOf names all
first_of_first {names} p q = record { more = p.more ++ q.more; split = q.split ∙ ap (λ z. z ++ q.more) p.split ∙ append_assoc names p.more q.more }

first_by : (names : List Text) (name : Text) (b : Bool) → IsFirstOf names (cond b names (names ++ name ∷ []))
first_by names name true = first_itself names
first_by names name false = record { more = name ∷ []; split = refl }

first_with : (names : List Text) (name : Text) → IsFirstOf names (with_name names name)
first_with names name = first_by names name (list_any (bytes_eq name) names)

-- ---- one step

-- from one input to a later one
pub record Grows (i j : Input) : Type 0 where
  pub names : IsFirstOf i.names j.names
  pub scope : j.scope ≡ i.scope
  pub good : AllByRecursion IsGood i.rest → AllByRecursion IsGood j.rest

infixr 20 ◌▸◌
pub ◌▸◌ : {i j k : Input} → Grows i j → Grows j k → Grows i k
p ▸ q = record { names = first_of_first p.names q.names; scope = q.scope ∙ p.scope; good = λ h. q.good (p.good h) }

good_later : (rest : List Seen) → AllByRecursion IsGood rest → AllByRecursion IsGood (drop 1 rest)
good_later [] h = h
good_later (token ∷ rest) h = h.1

pub grows_after : (i : Input) → Grows i (advanced i)
unfolding advanced
grows_after i = record { names = first_itself i.names; scope = refl; good = good_later i.rest }

pub grows_marked : (i : Input) → Grows i (marked i)
unfolding marked
grows_marked i = record { names = first_itself i.names; scope = refl; good = λ h. h }

pub grows_counted : (i : Input) → Grows i (ref_counted i)
unfolding ref_counted
grows_counted i = record { names = first_itself i.names; scope = refl; good = λ h. h }

pub grows_named : (i : Input) → Grows i (named i)
unfolding named
grows_named i = record { names = first_with i.names (spelling i); scope = refl; good = good_later i.rest }

without_last : (s : List ℕ) (x : ℕ) → take (length (s ++ x ∷ []) - 1) (s ++ x ∷ []) ≡ s
without_last s x = let e : length (s ++ x ∷ []) - 1 ≡ length s = omega (arith, length-append s (x ∷ [])) in ap (λ m. take m (s ++ x ∷ [])) e ∙ take-append_seam s (x ∷ [])

-- what grows from a scope with a name more, and loses that name
pub grows_unbound : (x : ℕ) (j : Input) {k : Input} → Grows (bound x j) k → Grows j (unbound k)
unfolding bound unbound
grows_unbound x j p = record { names = p.names; scope = ap (λ s. take (length s - 1) s) p.scope ∙ without_last j.scope x; good = p.good }

-- ---- types

mutual
  pub type_grows : {n : ℕ} {i j : Input} {type : Typ} → IsType n i type j → Grows i j
  type_grows (g.unit_type {i = i} e) = grows_after i
  type_grows (g.bool_type {i = i} e) = grows_after i
  type_grows (g.int_type {i = i} e) = grows_after i
  type_grows (g.type_form {i = i} e form) = grows_after i ▸ type_form_grows form

  pub type_form_grows : {n : ℕ} {i j : Input} {type : Typ} → IsTypeForm n i type j → Grows i j
  type_form_grows (g.ref_type {i = i} {j = j} e s h shut) = grows_after i ▸ grows_after (advanced i) ▸ type_grows h ▸ grows_after j
  type_form_grows (g.fun_type {i = i} {k = k} e s h h' shut) = grows_after i ▸ grows_after (advanced i) ▸ type_grows h ▸ type_grows h' ▸ grows_after k
  type_form_grows (g.pair_type {i = i} {k = k} e h h' shut) = grows_after i ▸ type_grows h ▸ type_grows h' ▸ grows_after k

pub param_grows : {n : ℕ} {i j : Input} {x : ℕ} {type : Typ} → IsParam n i x type j → Grows i j
param_grows (g.param {i = i} {j = j} e e' h shut) = grows_after i ▸ grows_named (advanced i) ▸ type_grows h ▸ grows_after j

-- ---- terms

-- what grows from the names of a head, and loses them
head_grows : {n : ℕ} {i j k : Input} {head : Head} → IsFunctionHead n i head j → Grows j k → Grows i (outside head.own k)
head_grows (g.fn {i = i} {j = j} {x = x} e q p) more = grows_after i ▸ grows_after (advanced i) ▸ param_grows p ▸ grows_unbound x j more
head_grows (g.rec {own = own} {i = i} {k = k} {x = x} e q e' same p t) more =
    grows_after i ▸ grows_after (advanced i) ▸ grows_named (advanced (advanced i)) ▸ param_grows p ▸ type_grows t ▸ grows_unbound own k (grows_unbound x (bound own k) more)

mutual
  pub term_grows : {n : ℕ} {i j : Input} {tree : Tree} → IsTerm n i tree j → Grows i j
  term_grows (g.int {i = i} e) = grows_marked i ▸ grows_after (marked i)
  term_grows (g.unit {i = i} e) = grows_marked i ▸ grows_after (marked i)
  term_grows (g.truth {i = i} e) = grows_marked i ▸ grows_after (marked i)
  term_grows (g.falsehood {i = i} e) = grows_marked i ▸ grows_after (marked i)
  term_grows (g.yield {i = i} e) = grows_marked i ▸ grows_marked (marked i) ▸ grows_after (marked (marked i))
  term_grows (g.variable {i = i} e is_bound) = grows_marked i ▸ grows_named (marked i)
  term_grows (g.form {i = i} e form) = grows_marked i ▸ grows_after (marked i) ▸ form_grows form

  pub form_grows : {n : ℕ} {i j : Input} {tree : Tree} → IsForm n i tree j → Grows i j
  form_grows (g.function {k = k} h body shut) = head_grows h (term_grows body ▸ grows_after k)
  form_grows (g.binding {x = x} {i = i} {j = j} {k = k} e e' same h h' shut) =
      grows_after i ▸ grows_named (advanced i) ▸ term_grows h ▸ grows_unbound x j (term_grows h' ▸ grows_after k)
  form_grows (g.sequence {i = i} {l = l} e h h' others shut) = grows_after i ▸ term_grows h ▸ term_grows h' ▸ parts_grow others ▸ grows_after l
  form_grows (g.choice {i = i} {l = l} e h h' h'' shut) = grows_after i ▸ term_grows h ▸ term_grows h' ▸ term_grows h'' ▸ grows_after l
  form_grows (g.one {i = i} {j = j} e is h shut) = grows_after i ▸ term_grows h ▸ grows_after j
  form_grows (g.ref {i = i} {j = j} e s h shut) = grows_after i ▸ grows_after (advanced i) ▸ grows_counted (advanced (advanced i)) ▸ term_grows h ▸ grows_after j
  form_grows (g.call {i = i} {j = j} e d small h shut) = grows_after i ▸ grows_after (advanced i) ▸ term_grows h ▸ grows_after j
  form_grows (g.two {i = i} {k = k} e is h h' shut) = grows_after i ▸ term_grows h ▸ term_grows h' ▸ grows_after k
  form_grows (g.async {i = i} {j = j} e h shut) = grows_after i ▸ term_grows h ▸ grows_after j
  form_grows (IsForm.unprotected {i = i} {j = j} e h shut) = grows_after i ▸ term_grows h ▸ grows_after j

  pub parts_grow : {n : ℕ} {i k : Input} {others : List Tree} → AreParts n i others k → Grows i k
  parts_grow (g.none {i = i} e) = record { names = first_itself i.names; scope = refl; good = λ h. h }
  parts_grow (g.more h others) = term_grows h ▸ parts_grow others
