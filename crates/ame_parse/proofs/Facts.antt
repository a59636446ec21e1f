-- Facts about each term that is spelled.
use Rattle.std.proofs.Common.{◌≡◌, refl, ◌∙◌, ℕ, ◌+◌, List, [], ◌∷◌, ◌++◌, length, length-append, arith, Option, Some, None}
use Rattle.ame_term.specs.Tree.{Typ, OwnName, Head, Tree}
use Rattle.ame_term.specs.SourceTerm.{nodes, all_nodes, IsSourceTerm, AreSourceTerms}
use Rattle.ame_parse.specs.Input.{Input, place, advanced, marked, named, bound, unbound, ref_counted}
use Rattle.ame_parse.specs.Forms.{row}
use Rattle.ame_parse.specs.Grammar as g
use Rattle.ame_parse.specs.Grammar.{IsType, IsTypeForm, IsParam, IsFunctionHead, outside, IsTerm, IsForm, AreParts}

-- ---- places

one_marked : (i : Input) → length (advanced (marked i)).places ≡ length i.places + 1
unfolding advanced marked
one_marked i = length-append i.places (place i ∷ [])

two_marked : (i : Input) → length (advanced (marked (marked i))).places ≡ length i.places + 2
unfolding advanced marked place
two_marked i = omega (arith, length-append i.places (place i ∷ []), length-append (i.places ++ place i ∷ []) (place i ∷ []))

named_marked : (i : Input) → length (named (marked i)).places ≡ length i.places + 1
unfolding named marked
named_marked i = length-append i.places (place i ∷ [])

-- how many places there are
abbrev count : Input → ℕ
count i = length i.places

count_advanced : (i : Input) → count (advanced i) ≡ count i
unfolding advanced
count_advanced i = refl

count_named : (i : Input) → count (named i) ≡ count i
unfolding named
count_named i = refl

count_counted : (i : Input) → count (ref_counted i) ≡ count i
unfolding ref_counted
count_counted i = refl

count_bound : (x : ℕ) (i : Input) → count (bound x i) ≡ count i
unfolding bound
count_bound x i = refl

count_unbound : (i : Input) → count (unbound i) ≡ count i
unfolding unbound
count_unbound i = refl

mutual
  type_places : {n : ℕ} {i j : Input} {type : Typ} → IsType n i type j → count j ≡ count i
  type_places (g.unit_type {i = i} e) = count_advanced i
  type_places (g.bool_type {i = i} e) = count_advanced i
  type_places (g.int_type {i = i} e) = count_advanced i
  type_places (g.type_form {i = i} e form) = type_form_places form ∙ count_advanced i

  type_form_places : {n : ℕ} {i j : Input} {type : Typ} → IsTypeForm n i type j → count j ≡ count i
  type_form_places (g.ref_type {i = i} {j = j} e s h shut) = omega (arith, count_advanced i, count_advanced (advanced i), count_advanced j, type_places h)
  type_form_places (g.fun_type {i = i} {k = k} e s h h' shut) = omega (arith, count_advanced i, count_advanced (advanced i), count_advanced k, type_places h, type_places h')
  type_form_places (g.pair_type {i = i} {k = k} e h h' shut) = omega (arith, count_advanced i, count_advanced k, type_places h, type_places h')

param_places : {n : ℕ} {i j : Input} {x : ℕ} {type : Typ} → IsParam n i x type j → count j ≡ count i
param_places (g.param {i = i} {j = j} e e' h shut) = omega (arith, count_advanced i, count_named (advanced i), count_advanced j, type_places h)

count_outside : (own : Option OwnName) (i : Input) → count (outside own i) ≡ count i
count_outside None i = count_unbound i
count_outside (Some own) i = count_unbound (unbound i) ∙ count_unbound i

head_places : {n : ℕ} {i j : Input} {head : Head} → IsFunctionHead n i head j → count j ≡ count i
head_places (g.fn {i = i} {j = j} {x = x} e q p) = omega (arith, count_advanced i, count_advanced (advanced i), param_places p, count_bound x j)
head_places (g.rec {own = own} {i = i} {k = k} {x = x} e q e' same p t) =
    omega (
      arith,
      count_advanced i,
      count_advanced (advanced i),
      count_named (advanced (advanced i)),
      param_places p,
      type_places t,
      count_bound x (bound own k),
      count_bound own k,
    )

-- each node has a place; that of a form is its opening parenthesis
mutual
  unfolding nodes

  pub term_places : {n : ℕ} {i j : Input} {tree : Tree} → IsTerm n i tree j → count j ≡ count i + nodes tree
  term_places (g.int {i = i} e) = one_marked i
  term_places (g.unit {i = i} e) = one_marked i
  term_places (g.truth {i = i} e) = one_marked i
  term_places (g.falsehood {i = i} e) = one_marked i
  term_places (g.yield {i = i} e) = two_marked i
  term_places (g.variable {i = i} e is_bound) = named_marked i
  term_places (g.form {i = i} e form) = omega (arith, one_marked i, form_places form)

  form_places : {n : ℕ} {i j : Input} {tree : Tree} → IsForm n i tree j → count j + 1 ≡ count i + nodes tree
  form_places (g.function {k = k} {head = head} h body shut) = omega (arith, head_places h, term_places body, count_advanced k, count_outside head.own (advanced k))
  form_places (g.binding {x = x} {i = i} {j = j} {k = k} e e' same h h' shut) =
      omega (arith, count_advanced i, count_named (advanced i), term_places h, count_bound x j, term_places h', count_advanced k, count_unbound (advanced k))
  form_places (g.sequence {i = i} {l = l} e h h' others shut) = omega (arith, count_advanced i, count_advanced l, term_places h, term_places h', parts_places others)
  form_places (g.choice {i = i} {l = l} e h h' h'' shut) = omega (arith, count_advanced i, count_advanced l, term_places h, term_places h', term_places h'')
  form_places (g.one {i = i} {j = j} e is h shut) = omega (arith, count_advanced i, count_advanced j, term_places h)
  form_places (g.ref {i = i} {j = j} e s h shut) =
      omega (arith, count_advanced i, count_advanced (advanced i), count_counted (advanced (advanced i)), count_advanced j, term_places h)
  form_places (g.call {i = i} {j = j} e d small h shut) = omega (arith, count_advanced i, count_advanced (advanced i), count_advanced j, term_places h)
  form_places (g.two {i = i} {k = k} e is h h' shut) = omega (arith, count_advanced i, count_advanced k, term_places h, term_places h')
  form_places (g.async {i = i} {j = j} e h shut) = omega (arith, count_advanced i, count_advanced j, term_places h)
  form_places (IsForm.unprotected {i = i} {j = j} e h shut) = omega (arith, count_advanced i, count_advanced j, term_places h)

  parts_places : {n : ℕ} {i k : Input} {others : List Tree} → AreParts n i others k → count k ≡ count i + all_nodes (row others)
  parts_places (g.none e) = omega arith
  parts_places (g.more h others) = omega (arith, term_places h, parts_places others)

-- ---- a term holds constants alone, and each `do` has two parts or more

mutual
  unfolding IsSourceTerm

  pub term_source : {n : ℕ} {i j : Input} {tree : Tree} → IsTerm n i tree j → IsSourceTerm tree
  term_source (g.int e) = tt
  term_source (g.unit e) = tt
  term_source (g.truth e) = tt
  term_source (g.falsehood e) = tt
  term_source (g.yield e) = tt
  term_source (g.variable e is_bound) = tt
  term_source (g.form e form) = form_source form

  form_source : {n : ℕ} {i j : Input} {tree : Tree} → IsForm n i tree j → IsSourceTerm tree
  form_source (g.function head body shut) = term_source body
  form_source (g.binding e e' same h h' shut) = (term_source h, term_source h')
  form_source (g.sequence e h h' others shut) = (tt, (term_source h, (term_source h', parts_source others)))
  form_source (g.choice e h h' h'' shut) = (term_source h, term_source h', term_source h'')
  form_source (g.one e is h shut) = term_source h
  form_source (g.ref e s h shut) = term_source h
  form_source (g.call e d small h shut) = term_source h
  form_source (g.two e is h h' shut) = (term_source h, term_source h')
  form_source (g.async e h shut) = term_source h
  form_source (IsForm.unprotected e h shut) = term_source h

  parts_source : {n : ℕ} {i k : Input} {others : List Tree} → AreParts n i others k → AreSourceTerms (row others)
  parts_source (g.none e) = tt
  parts_source (g.more h others) = (term_source h, parts_source others)
