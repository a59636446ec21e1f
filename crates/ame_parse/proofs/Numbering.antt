-- The `ref` forms of a term that is spelled are numbered in reading order.
use Rattle.std.proofs.Common.{◌≡◌, refl, sym, ◌∙◌, ℕ, ◌+◌, List, arith, Option, Some, None}
use Rattle.ame_term.specs.Tree.{Typ, OwnName, Head, Tree}
use Rattle.ame_term.specs.declared.types.Unary.{Unary}
use Rattle.ame_term.specs.Numbered.{own_ref_count, ref_count, all_ref_count, HasRefNumber, IsNumbered, AreNumbered}
use Rattle.ame_parse.specs.declared.words.Word.{Word}
use Rattle.ame_parse.specs.Input.{Input, advanced, marked, named, bound, unbound, ref_counted}
use Rattle.ame_parse.specs.Forms.{row}
use Rattle.ame_parse.specs.Grammar as g
use Rattle.ame_parse.specs.Grammar.{IsUnary, IsType, IsTypeForm, IsParam, IsFunctionHead, outside, IsTerm, IsForm, AreParts}

-- ---- how many forms began

abbrev pub refs_of : Input → ℕ
refs_of i = i.refs

refs_advanced : (i : Input) → refs_of (advanced i) ≡ refs_of i
unfolding advanced
refs_advanced i = refl

refs_marked : (i : Input) → refs_of (marked i) ≡ refs_of i
unfolding marked
refs_marked i = refl

refs_named : (i : Input) → refs_of (named i) ≡ refs_of i
unfolding named
refs_named i = refl

refs_bound : (x : ℕ) (i : Input) → refs_of (bound x i) ≡ refs_of i
unfolding bound
refs_bound x i = refl

refs_unbound : (i : Input) → refs_of (unbound i) ≡ refs_of i
unfolding unbound
refs_unbound i = refl

refs_counted : (i : Input) → refs_of (ref_counted i) ≡ refs_of i + 1
unfolding ref_counted
refs_counted i = refl

refs_outside : (own : Option OwnName) (i : Input) → refs_of (outside own i) ≡ refs_of i
refs_outside None i = refs_unbound i
refs_outside (Some own) i = refs_unbound (unbound i) ∙ refs_unbound i

mutual
  type_refs : {n : ℕ} {i j : Input} {type : Typ} → IsType n i type j → refs_of j ≡ refs_of i
  type_refs (g.unit_type {i = i} e) = refs_advanced i
  type_refs (g.bool_type {i = i} e) = refs_advanced i
  type_refs (g.int_type {i = i} e) = refs_advanced i
  type_refs (g.type_form {i = i} e form) = type_form_refs form ∙ refs_advanced i

  type_form_refs : {n : ℕ} {i j : Input} {type : Typ} → IsTypeForm n i type j → refs_of j ≡ refs_of i
  type_form_refs (g.ref_type {i = i} {j = j} e s h shut) = refs_advanced j ∙ type_refs h ∙ refs_advanced (advanced i) ∙ refs_advanced i
  type_form_refs (g.fun_type {i = i} {k = k} e s h h' shut) = refs_advanced k ∙ type_refs h' ∙ type_refs h ∙ refs_advanced (advanced i) ∙ refs_advanced i
  type_form_refs (g.pair_type {i = i} {k = k} e h h' shut) = refs_advanced k ∙ type_refs h' ∙ type_refs h ∙ refs_advanced i

param_refs : {n : ℕ} {i j : Input} {x : ℕ} {type : Typ} → IsParam n i x type j → refs_of j ≡ refs_of i
param_refs (g.param {i = i} {j = j} e e' h shut) = refs_advanced j ∙ type_refs h ∙ refs_named (advanced i) ∙ refs_advanced i

head_refs : {n : ℕ} {i j : Input} {head : Head} → IsFunctionHead n i head j → refs_of j ≡ refs_of i
head_refs (g.fn {i = i} {j = j} {x = x} e q p) = refs_bound x j ∙ param_refs p ∙ refs_advanced (advanced i) ∙ refs_advanced i
head_refs (g.rec {own = own} {i = i} {k = k} {x = x} e q e' same p t) =
    refs_bound x (bound own k) ∙ refs_bound own k ∙ type_refs t ∙ param_refs p ∙ refs_named (advanced (advanced i)) ∙ refs_advanced (advanced i) ∙ refs_advanced i

no_ref : {word : Word} {op : Unary} → IsUnary word op → own_ref_count op ≡ 0
no_ref g.negation = refl
no_ref g.get = refl
no_ref g.peek = refl
no_ref g.block_until = refl
no_ref g.print = refl
no_ref g.fst = refl
no_ref g.snd = refl

-- a term has as many forms as began in it
mutual
  unfolding ref_count

  pub term_refs : {n : ℕ} {i j : Input} {tree : Tree} → IsTerm n i tree j → refs_of j ≡ refs_of i + ref_count tree
  term_refs (g.int {i = i} e) = omega (arith, refs_advanced (marked i), refs_marked i)
  term_refs (g.unit {i = i} e) = omega (arith, refs_advanced (marked i), refs_marked i)
  term_refs (g.truth {i = i} e) = omega (arith, refs_advanced (marked i), refs_marked i)
  term_refs (g.falsehood {i = i} e) = omega (arith, refs_advanced (marked i), refs_marked i)
  term_refs (g.yield {i = i} e) = omega (arith, refs_advanced (marked (marked i)), refs_marked (marked i), refs_marked i)
  term_refs (g.variable {i = i} e is_bound) = omega (arith, refs_named (marked i), refs_marked i)
  term_refs (g.form {i = i} e form) = omega (arith, refs_advanced (marked i), refs_marked i, form_refs form)

  pub form_refs : {n : ℕ} {i j : Input} {tree : Tree} → IsForm n i tree j → refs_of j ≡ refs_of i + ref_count tree
  form_refs (g.function {k = k} {head = head} h body shut) = omega (arith, head_refs h, term_refs body, refs_advanced k, refs_outside head.own (advanced k))
  form_refs (g.binding {x = x} {i = i} {j = j} {k = k} e e' same h h' shut) =
      omega (arith, refs_advanced i, refs_named (advanced i), term_refs h, refs_bound x j, term_refs h', refs_advanced k, refs_unbound (advanced k))
  form_refs (g.sequence {i = i} {l = l} e h h' others shut) = omega (arith, refs_advanced i, refs_advanced l, term_refs h, term_refs h', parts_refs others)
  form_refs (g.choice {i = i} {l = l} e h h' h'' shut) = omega (arith, refs_advanced i, refs_advanced l, term_refs h, term_refs h', term_refs h'')
  form_refs (g.one {i = i} {j = j} e is h shut) = omega (arith, refs_advanced i, refs_advanced j, term_refs h, no_ref is)
  form_refs (g.ref {i = i} {j = j} e s h shut) =
      omega (arith, refs_advanced i, refs_advanced (advanced i), refs_counted (advanced (advanced i)), refs_advanced j, term_refs h)
  form_refs (g.call {i = i} {j = j} e d small h shut) = omega (arith, refs_advanced i, refs_advanced (advanced i), refs_advanced j, term_refs h)
  form_refs (g.two {i = i} {k = k} e is h h' shut) = omega (arith, refs_advanced i, refs_advanced k, term_refs h, term_refs h')
  form_refs (g.async {i = i} {j = j} e h shut) = omega (arith, refs_advanced i, refs_advanced j, term_refs h)
  form_refs (IsForm.unprotected {i = i} {j = j} e h shut) = omega (arith, refs_advanced i, refs_advanced j, term_refs h)

  pub parts_refs : {n : ℕ} {i k : Input} {others : List Tree} → AreParts n i others k → refs_of k ≡ refs_of i + all_ref_count (row others)
  parts_refs (g.none e) = omega arith
  parts_refs (g.more h others) = omega (arith, term_refs h, parts_refs others)

-- ---- the numbers

no_number : {word : Word} {op : Unary} → IsUnary word op → (k : ℕ) → HasRefNumber op k
no_number g.negation k = tt
no_number g.get k = tt
no_number g.peek k = tt
no_number g.block_until k = tt
no_number g.print k = tt
no_number g.fst k = tt
no_number g.snd k = tt

-- the forms have the numbers from the count that was reached before the term
mutual
  unfolding IsNumbered

  pub term_numbered : {n : ℕ} {i j : Input} {tree : Tree} → IsTerm n i tree j → (k : ℕ) → k ≡ refs_of i → IsNumbered k tree
  term_numbered (g.int e) k from = tt
  term_numbered (g.unit e) k from = tt
  term_numbered (g.truth e) k from = tt
  term_numbered (g.falsehood e) k from = tt
  term_numbered (g.yield e) k from = tt
  term_numbered (g.variable e is_bound) k from = tt
  term_numbered (g.form {i = i} e form) k from = form_numbered form k (omega (arith, from, refs_advanced (marked i), refs_marked i))

  pub form_numbered : {n : ℕ} {i j : Input} {tree : Tree} → IsForm n i tree j → (k : ℕ) → k ≡ refs_of i → IsNumbered k tree
  form_numbered (g.function h body shut) k from = term_numbered body k (omega (arith, from, head_refs h))
  form_numbered (g.binding {x = x} {i = i} {j = j} e e' same h h' shut) k from = (
    term_numbered h k (omega (arith, from, refs_advanced i, refs_named (advanced i))),
    term_numbered h' _ (omega (arith, from, refs_advanced i, refs_named (advanced i), term_refs h, refs_bound x j)),
  )
  form_numbered (g.sequence {i = i} e h h' others shut) k from = (
    term_numbered h k (omega (arith, from, refs_advanced i)),
    (
      term_numbered h' _ (omega (arith, from, refs_advanced i, term_refs h)),
      parts_numbered others _ (omega (arith, from, refs_advanced i, term_refs h, term_refs h')),
    ),
  )
  form_numbered (g.choice {i = i} e h h' h'' shut) k from = (
    term_numbered h k (omega (arith, from, refs_advanced i)),
    term_numbered h' _ (omega (arith, from, refs_advanced i, term_refs h)),
    term_numbered h'' _ (omega (arith, from, refs_advanced i, term_refs h, term_refs h')),
  )
  form_numbered (g.one {i = i} e is h shut) k from = (no_number is k, term_numbered h _ (omega (arith, from, refs_advanced i, no_ref is)))
  form_numbered (g.ref {i = i} e s h shut) k from =
      (sym from, term_numbered h _ (omega (arith, from, refs_advanced i, refs_advanced (advanced i), refs_counted (advanced (advanced i)))))
  form_numbered (g.call {i = i} e d small h shut) k from = (tt, term_numbered h _ (omega (arith, from, refs_advanced i, refs_advanced (advanced i))))
  form_numbered (g.two {i = i} e is h h' shut) k from =
      (term_numbered h k (omega (arith, from, refs_advanced i)), term_numbered h' _ (omega (arith, from, refs_advanced i, term_refs h)))
  form_numbered (g.async {i = i} e h shut) k from = term_numbered h k (omega (arith, from, refs_advanced i))
  form_numbered (IsForm.unprotected {i = i} e h shut) k from = term_numbered h k (omega (arith, from, refs_advanced i))

  pub parts_numbered : {n : ℕ} {i j : Input} {others : List Tree} → AreParts n i others j → (k : ℕ) → k ≡ refs_of i → AreNumbered k (row others)
  parts_numbered (g.none e) k from = tt
  parts_numbered (g.more h others) k from = (term_numbered h k from, parts_numbered others _ (omega (arith, from, term_refs h)))
