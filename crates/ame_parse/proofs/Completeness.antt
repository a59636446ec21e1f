-- A text that spells a term is read as that term.
use Rattle.std.proofs.Common.{◌≡◌, Option, ℕ, zero, suc, ◌+◌, ◌-◌, ◌<◌, ◌≤◌, refl, sym, ap, ◌∙◌, true, false, cond, pos, List, [], ◌∷◌, ◌++◌, length, drop, append_assoc, append-nil, arith, Ok, Err, Some, None}
use Rattle.std.specs.Prelude.{nat_lt}
use Rattle.std.proofs.Math.Dec.{eqb-suc-zero}
use Rattle.std.proofs.lemmas.Bool.Decides.{nat_tests}
use Rattle.std.specs.Option.{option_map}
use Rattle.ame_term.specs.declared.types.Sort.{Sort}
use Rattle.ame_term.specs.declared.types.Effect.{Effect}
use Rattle.ame_term.specs.declared.types.Op.{Op}
use Rattle.ame_term.specs.declared.types.Unary.{Unary}
use Rattle.ame_term.specs.declared.types.Unary.TheVariants as unary
use Rattle.ame_term.specs.declared.types.Binary.{Binary}
use Rattle.ame_term.specs.declared.types.Binary.TheVariants as binary
use Rattle.ame_term.specs.Operators.{operator_of}
use Rattle.ame_term.proofs.OperatorLemmas.{symbol-finds}
use Rattle.ame_term.specs.Tree.{Typ, OwnName, Head, Val, Tree}
use Rattle.ame_parse.specs.declared.words.Word.{Word}
use Rattle.ame_parse.specs.declared.words.Word.TheVariants as w
use Rattle.ame_parse.specs.declared.ahead.Ahead.{Ahead}
use Rattle.ame_parse.specs.declared.ahead.Ahead.TheVariants as a
use Rattle.ame_parse.specs.declared.fault.ParseFault.TheVariants.{UnknownName, TooNested}
use Rattle.ame_parse.specs.declared.forms.Opener.TheVariants as opener
use Rattle.ame_parse.specs.Input.{Seen, Input, Parser, and_then, is_closing, ahead_in, ahead, spelling, place, advanced, marked, name_number, named, binds_name, bound, unbound, ref_number, ref_counted, tokens_left, closing_by, closing, sees_closing, name_by, name, opening_by, opening, advance}
use Rattle.ame_parse.specs.Letters.{sort_of, effect_named, device_of, sort_by, effect_by, device_by, sort, numbered_sort, effect_word, device}
use Rattle.ame_parse.specs.Types as t
use Rattle.ame_parse.specs.Types.{ty, param}
use Rattle.ame_parse.specs.Forms.{opener_of, row}
use Rattle.ame_parse.specs.Reading.{alone, two, choice, binding, more_from, more, first_two, sequence, reference, call, function, recursive, form_by, compound, variable, yielding, constant, atom_by, atom, term_by, nested, term}
use Rattle.ame_parse.specs.Grammar as g
use Rattle.ame_parse.specs.Grammar.{IsSort, IsEffect, IsOp, IsUnary, IsBinary, IsType, IsTypeForm, IsParam, IsFunctionHead, outside, IsTerm, IsForm, AreParts}

-- ---- each reading takes a token

one_less_in : (rest : List Seen) → (ahead_in rest ≡ a.End → ⊥) → length (drop 1 rest) + 1 ≡ length rest
one_less_in [] some = absurd (some refl)
one_less_in (token ∷ rest) some = omega arith

one_less : (i : Input) → (ahead i ≡ a.End → ⊥) → tokens_left (advanced i) + 1 ≡ tokens_left i
unfolding ahead tokens_left advanced
one_less i some = one_less_in i.rest some

left_marked : (i : Input) → tokens_left (advanced (marked i)) ≡ tokens_left (advanced i)
unfolding tokens_left advanced marked
left_marked i = refl

left_marked_twice : (i : Input) → tokens_left (advanced (marked (marked i))) ≡ tokens_left (advanced i)
unfolding tokens_left advanced marked
left_marked_twice i = refl

left_named : (i : Input) → tokens_left (named i) ≡ tokens_left (advanced i)
unfolding tokens_left advanced named
left_named i = refl

left_named-marked : (i : Input) → tokens_left (named (marked i)) ≡ tokens_left (advanced i)
unfolding tokens_left advanced named marked
left_named-marked i = refl

left_bound : (x : ℕ) (i : Input) → tokens_left (bound x i) ≡ tokens_left i
unfolding tokens_left bound
left_bound x i = refl

left_unbound : (i : Input) → tokens_left (unbound i) ≡ tokens_left i
unfolding tokens_left unbound
left_unbound i = refl

left_counted : (i : Input) → tokens_left (ref_counted i) ≡ tokens_left i
unfolding tokens_left ref_counted
left_counted i = refl

left_outside : (own : Option OwnName) (i : Input) → tokens_left (outside own i) ≡ tokens_left i
left_outside None i = left_unbound i
left_outside (Some own) i = left_unbound (unbound i) ∙ left_unbound i

left_advanced : (i : Input) → tokens_left (advanced i) ≤ tokens_left i
unfolding tokens_left advanced
left_advanced i = left_advanced_in i.rest
  where
    left_advanced_in : (rest : List Seen) → length (drop 1 rest) ≤ length rest
    left_advanced_in [] = omega arith
    left_advanced_in (token ∷ rest) = omega arith

mutual
  type_takes : {n : ℕ} {i j : Input} {type : Typ} → IsType n i type j → tokens_left j < tokens_left i
  type_takes (g.unit_type {i = i} e) = omega (arith, one_less i (λ e'. cc))
  type_takes (g.bool_type {i = i} e) = omega (arith, one_less i (λ e'. cc))
  type_takes (g.int_type {i = i} e) = omega (arith, one_less i (λ e'. cc))
  type_takes (g.type_form {i = i} e form) = omega (arith, one_less i (λ e'. cc), type_form_takes form)

  type_form_takes : {n : ℕ} {i j : Input} {type : Typ} → IsTypeForm n i type j → tokens_left j < tokens_left i
  type_form_takes (g.ref_type {i = i} {j = j} e s h shut) = omega (arith, left_advanced i, left_advanced (advanced i), left_advanced j, type_takes h)
  type_form_takes (g.fun_type {i = i} {k = k} e s h h' shut) = omega (arith, left_advanced i, left_advanced (advanced i), left_advanced k, type_takes h, type_takes h')
  type_form_takes (g.pair_type {i = i} {k = k} e h h' shut) = omega (arith, left_advanced i, left_advanced k, type_takes h, type_takes h')

param_takes : {n : ℕ} {i j : Input} {x : ℕ} {type : Typ} → IsParam n i x type j → tokens_left j < tokens_left i
param_takes (g.param {i = i} {j = j} e e' h shut) = omega (arith, left_advanced i, left_named (advanced i), left_advanced (advanced i), left_advanced j, type_takes h)

head_takes : {n : ℕ} {i j : Input} {head : Head} → IsFunctionHead n i head j → tokens_left j < tokens_left i
head_takes (g.fn {i = i} {j = j} {x = x} e q p) = omega (arith, left_advanced i, left_advanced (advanced i), param_takes p, left_bound x j)
head_takes (g.rec {own = own} {i = i} {k = k} {x = x} e q e' same p t) =
    omega (
      arith,
      left_advanced i,
      left_advanced (advanced i),
      left_named (advanced (advanced i)),
      left_advanced (advanced (advanced i)),
      param_takes p,
      type_takes t,
      left_bound x (bound own k),
      left_bound own k,
    )

mutual
  pub term_takes : {n : ℕ} {i j : Input} {tree : Tree} → IsTerm n i tree j → tokens_left j < tokens_left i
  term_takes (g.int {i = i} e) = omega (arith, left_marked i, one_less i (λ e'. cc))
  term_takes (g.unit {i = i} e) = omega (arith, left_marked i, one_less i (λ e'. cc))
  term_takes (g.truth {i = i} e) = omega (arith, left_marked i, one_less i (λ e'. cc))
  term_takes (g.falsehood {i = i} e) = omega (arith, left_marked i, one_less i (λ e'. cc))
  term_takes (g.yield {i = i} e) = omega (arith, left_marked_twice i, one_less i (λ e'. cc))
  term_takes (g.variable {i = i} e is_bound) = omega (arith, left_named-marked i, one_less i (λ e'. cc))
  term_takes (g.form {i = i} e form) = omega (arith, left_marked i, one_less i (λ e'. cc), form_takes form)

  form_takes : {n : ℕ} {i j : Input} {tree : Tree} → IsForm n i tree j → tokens_left j < tokens_left i
  form_takes (g.function {k = k} {head = head} h body shut) = omega (arith, head_takes h, term_takes body, left_advanced k, left_outside head.own (advanced k))
  form_takes (g.binding {x = x} {i = i} {j = j} {k = k} e e' same h h' shut) =
      omega (arith, left_advanced i, left_named (advanced i), left_advanced (advanced i), term_takes h, left_bound x j, term_takes h', left_advanced k, left_unbound (advanced k))
  form_takes (g.sequence {i = i} {l = l} e h h' others shut) = omega (arith, left_advanced i, left_advanced l, term_takes h, term_takes h', parts_take others)
  form_takes (g.choice {i = i} {l = l} e h h' h'' shut) = omega (arith, left_advanced i, left_advanced l, term_takes h, term_takes h', term_takes h'')
  form_takes (g.one {i = i} {j = j} e is h shut) = omega (arith, left_advanced i, left_advanced j, term_takes h)
  form_takes (g.ref {i = i} {j = j} e s h shut) =
      omega (arith, left_advanced i, left_advanced (advanced i), left_counted (advanced (advanced i)), left_advanced j, term_takes h)
  form_takes (g.call {i = i} {j = j} e d small h shut) = omega (arith, left_advanced i, left_advanced (advanced i), left_advanced j, term_takes h)
  form_takes (g.two {i = i} {k = k} e is h h' shut) = omega (arith, left_advanced i, left_advanced k, term_takes h, term_takes h')
  form_takes (g.async {i = i} {j = j} e h shut) = omega (arith, left_advanced i, left_advanced j, term_takes h)
  form_takes (IsForm.unprotected {i = i} {j = j} e h shut) = omega (arith, left_advanced i, left_advanced j, term_takes h)

  parts_take : {n : ℕ} {i k : Input} {others : List Tree} → AreParts n i others k → tokens_left k ≤ tokens_left i
  parts_take (g.none e) = omega arith
  parts_take (g.more h others) = omega (arith, term_takes h, parts_take others)

-- ---- one step, by what comes next

pub closing_at : (i : Input) → ahead i ≡ a.Closing → closing i ≡ Ok (tt, advanced i)
unfolding closing
closing_at i e = ap (λ z. closing_by z i) e

pub name_at : (i : Input) → ahead i ≡ a.Name → name i ≡ Ok (name_number i, named i)
unfolding name
name_at i e = ap (λ z. name_by z i) e

pub opening_at : (n : ℕ) (i : Input) → ahead i ≡ a.Opening → opening (suc n) i ≡ Ok (tt, advanced i)
unfolding opening
opening_at n i e = ap (λ z. opening_by (suc n) z i) e ∙ ap (λ b. cond {A = Parser (Unit {0})} b (λ i. Err (TooNested (place i))) advance i) (eqb-suc-zero n)

pub sort_at : (i : Input) (s : Sort) → IsSort i s → sort i ≡ Ok (s, advanced i)
unfolding sort sort_of
sort_at i s (IsSort.protected e) = ap (λ z. sort_by (sort_of z) i) e
sort_at i s (IsSort.unprotected e) = ap (λ z. sort_by (sort_of z) i) e

pub numbered_sort_at : (i : Input) (s : Sort) → IsSort i s → numbered_sort i ≡ Ok ((s, ref_number (advanced i)), ref_counted (advanced i))
unfolding numbered_sort
numbered_sort_at i s is = rw (sort_at i s is) refl

pub effect_at : (i : Input) (q : Effect) → IsEffect i q → effect_word i ≡ Ok (q, advanced i)
unfolding effect_word effect_named
effect_at i q (IsEffect.protected e) = ap (λ z. effect_by (effect_named z) i) e
effect_at i q (IsEffect.unprotected e) = ap (λ z. effect_by (effect_named z) i) e
effect_at i q (IsEffect.either e) = ap (λ z. effect_by (effect_named z) i) e

below_test : (n m : ℕ) → n < m → nat_lt n m ≡ true
below_test n m h = grind (arith, nat_tests)

pub device_at : (i : Input) (d : ℕ) → ahead i ≡ a.Number (pos d) → d < 256 → device i ≡ Ok (d, advanced i)
unfolding device device_of
device_at i d e small = ap (λ z. device_by (device_of z) i) e ∙ ap (λ b. device_by (cond b (Some d) None) i) (below_test d 256 small)

op_at : (s : ℕ) (o : Op) → IsOp s o → operator_of s ≡ Some o
op_at _ _ (g.spells o) = symbol-finds o

-- ---- types

pub ty_at : (n : ℕ) (i : Input) (next : Ahead) → ahead i ≡ next → ty n i ≡ t.ty_by (t.nested n) next i
unfolding ty
ty_at n i next e = ap (λ z. t.ty_by (t.nested n) z i) e

pub nested_ty_at : (n : ℕ) (i : Input) → t.nested (suc n) i ≡ t.compound (ty n) (advanced i)
unfolding t.nested ty
nested_ty_at n i = refl

pub compound_ty_at : (part : Parser Typ) (i : Input) (next : Ahead) → ahead i ≡ next → t.compound part i ≡ t.compound_by part next i
unfolding t.compound
compound_ty_at part i next e = ap (λ z. t.compound_by part z i) e

ref_type_reads : (part : Parser Typ) (i j : Input) (s : Sort) (x : Typ) → IsSort i s → part (advanced i) ≡ Ok (x, j) → ahead j ≡ a.Closing → t.reference part i ≡ Ok (Typ.Ref s x, advanced j)
unfolding t.reference
ref_type_reads part i j s x sort read shut = rw (sort_at i s sort) (rw read (rw (closing_at j shut)))

fun_type_reads : (part : Parser Typ) (i j k : Input) (q : Effect) (x y : Typ) → IsEffect i q → part (advanced i) ≡ Ok (x, j) → part j ≡ Ok (y, k) → ahead k ≡ a.Closing
    → t.function part i ≡ Ok (Typ.Fun q x y, advanced k)
unfolding t.function
fun_type_reads part i j k q x y effect read read' shut = rw (effect_at i q effect) (rw read (rw read' (rw (closing_at k shut))))

pair_type_reads : (part : Parser Typ) (i j k : Input) (x y : Typ) → part i ≡ Ok (x, j) → part j ≡ Ok (y, k) → ahead k ≡ a.Closing → t.pair part i ≡ Ok (Typ.Pair x y, advanced k)
unfolding t.pair
pair_type_reads part i j k x y read read' shut = rw read (rw read' (rw (closing_at k shut)))

mutual
  pub type_reads : {n : ℕ} {i j : Input} {type : Typ} → IsType n i type j → ty n i ≡ Ok (type, j)
  type_reads (g.unit_type {n = n} {i = i} e) = ty_at n i _ e
  type_reads (g.bool_type {n = n} {i = i} e) = ty_at n i _ e
  type_reads (g.int_type {n = n} {i = i} e) = ty_at n i _ e
  type_reads (g.type_form {n = n} {i = i} e form) = ty_at (suc n) i _ e ∙ nested_ty_at n i ∙ type_form_reads form

  type_form_reads : {n : ℕ} {i j : Input} {type : Typ} → IsTypeForm n i type j → t.compound (ty n) i ≡ Ok (type, j)
  type_form_reads (g.ref_type {n = n} {i = i} {j = j} e s h shut) = compound_ty_at (ty n) i _ e ∙ ref_type_reads (ty n) (advanced i) j _ _ s (type_reads h) shut
  type_form_reads (g.fun_type {n = n} {i = i} {j = j} {k = k} e q h h' shut) =
      compound_ty_at (ty n) i _ e ∙ fun_type_reads (ty n) (advanced i) j k _ _ _ q (type_reads h) (type_reads h') shut
  type_form_reads (g.pair_type {n = n} {i = i} {j = j} {k = k} e h h' shut) =
      compound_ty_at (ty n) i _ e ∙ pair_type_reads (ty n) (advanced i) j k _ _ (type_reads h) (type_reads h') shut

pub one_from : (n : ℕ) → suc n - 1 ≡ n
one_from n = omega arith

pub param_reads : {n : ℕ} {i j : Input} {x : ℕ} {type : Typ} → IsParam n i x type j → param n i ≡ Ok ((x, type), j)
unfolding param
param_reads (g.param {n = n} {i = i} {j = j} e e' h shut) =
    rw (opening_at n i e) (rw (name_at (advanced i) e') (rw (one_from n) (rw (type_reads h) (rw (closing_at j shut)))))

-- ---- terms

pub ahead_marked : (i : Input) → ahead (marked i) ≡ ahead i
unfolding ahead marked
ahead_marked i = refl

number_marked : (i : Input) → name_number (marked i) ≡ name_number i
unfolding name_number spelling marked
number_marked i = refl

binds_named : (x : ℕ) (i : Input) → binds_name x (named (marked i)) ≡ binds_name x i
unfolding binds_name named marked
binds_named x i = refl

pub term_at : (n : ℕ) (i : Input) (next : Ahead) → ahead i ≡ next → term n i ≡ term_by (nested n) next (marked i)
unfolding term marked ahead
term_at n i next e = ap (λ z. term_by (nested n) z (marked i)) e

pub atom_at : (i : Input) (next : Ahead) → ahead i ≡ next → atom (marked i) ≡ atom_by next (marked i)
unfolding atom
atom_at i next e = ap (λ z. atom_by z (marked i)) (ahead_marked i ∙ e)

pub nested_at : (n : ℕ) (i : Input) → nested (suc n) i ≡ compound (term n) (param n) (ty n) (advanced i)
unfolding nested term
nested_at n i = refl

pub compound_at : (part : Parser Tree) (parameter : Parser (ℕ × Typ)) (type : Parser Typ) (i : Input) (next : Ahead) → ahead i ≡ next
    → compound part parameter type i ≡ form_by part parameter type (opener_of next) i
unfolding compound
compound_at part parameter type i next e = ap (λ z. form_by part parameter type (opener_of z) i) e

unit_reads : (i : Input) → constant w.Unit i ≡ Ok (Tree.Held Val.Unit, advanced i)
unfolding constant
unit_reads i = refl

truth_reads : (i : Input) → constant w.True i ≡ Ok (Tree.Held (Val.Bool true), advanced i)
unfolding constant
truth_reads i = refl

falsehood_reads : (i : Input) → constant w.False i ≡ Ok (Tree.Held (Val.Bool false), advanced i)
unfolding constant
falsehood_reads i = refl

yield_reads : (i : Input) → constant w.Yield i ≡ Ok (Tree.Unprotected (Tree.Held Val.Unit), advanced (marked i))
unfolding constant yielding
yield_reads i = refl

variable_reads : (i : Input) → ahead i ≡ a.Name → binds_name (name_number i) i ≡ true → variable (marked i) ≡ Ok (Tree.Var (name_number i), named (marked i))
unfolding variable
variable_reads i e is_bound =
    rw (name_at (marked i) (ahead_marked i ∙ e))
    (ap (λ b. cond b (Ok (Tree.Var (name_number (marked i)), named (marked i))) (Err (UnknownName (place (marked i)))))
    (binds_named (name_number (marked i)) i ∙ ap (λ x. binds_name x i) (number_marked i) ∙ is_bound)
    ∙ ap (λ x. Ok (Tree.Var x, named (marked i))) (number_marked i))

-- ---- the forms, over a parser that reads their parts

alone_reads : (part : Parser Tree) (build : Tree → Tree) (i j : Input) (x : Tree) → part i ≡ Ok (x, j) → ahead j ≡ a.Closing → alone part build i ≡ Ok (build x, advanced j)
unfolding alone
alone_reads part build i j x read shut = rw read (rw (closing_at j shut))

two_reads : (part : Parser Tree) (op : Binary) (i j k : Input) (x y : Tree) → part i ≡ Ok (x, j) → part j ≡ Ok (y, k) → ahead k ≡ a.Closing
    → two part op i ≡ Ok (Tree.Two op x y, advanced k)
unfolding two
two_reads part op i j k x y read read' shut = rw read (rw read' (rw (closing_at k shut)))

choice_reads : (part : Parser Tree) (i j k l : Input) (x y z : Tree) → part i ≡ Ok (x, j) → part j ≡ Ok (y, k) → part k ≡ Ok (z, l) → ahead l ≡ a.Closing
    → choice part i ≡ Ok (Tree.If x y z, advanced l)
unfolding choice
choice_reads part i j k l x y z read read' read'' shut = rw read (rw read' (rw read'' (rw (closing_at l shut))))

binding_reads : (part : Parser Tree) (i j k : Input) (n : ℕ) (x y : Tree) → ahead i ≡ a.Name → name_number i ≡ n → part (named i) ≡ Ok (x, j) → part (bound n j) ≡ Ok (y, k)
    → ahead k ≡ a.Closing → binding part i ≡ Ok (Tree.Let n x y, unbound (advanced k))
unfolding binding
binding_reads part i j k n x y e same read read' shut = rw (name_at i e) (rw read (rw same (rw read' (rw (closing_at k shut)))))

-- to take a token leaves the count of `ref` forms as it was
same_number : (i : Input) → ref_number (advanced (advanced i)) ≡ ref_number i
unfolding advanced
same_number i = refl

reference_reads : (part : Parser Tree) (i j : Input) (s : Sort) (x : Tree) → IsSort (advanced i) s
    → part (ref_counted (advanced (advanced i))) ≡ Ok (x, j) → ahead j ≡ a.Closing
    → reference part (advanced i) ≡ Ok (Tree.One (unary.Ref s (ref_number i)) x, advanced j)
unfolding reference
reference_reads part i j s x sort read shut =
    let number = ref_number (advanced (advanced i)) in
    rw (numbered_sort_at (advanced i) s sort) (alone_reads part (Tree.One (unary.Ref s number)) (ref_counted (advanced (advanced i))) j x read shut)
    ∙ ap (λ k. Ok (Tree.One (unary.Ref s k) x, advanced j)) (same_number i)

call_reads : (part : Parser Tree) (i j : Input) (d : ℕ) (x : Tree) → ahead i ≡ a.Number (pos d) → d < 256 → part (advanced i) ≡ Ok (x, j) → ahead j ≡ a.Closing
    → call part i ≡ Ok (Tree.One (unary.Call d) x, advanced j)
unfolding call
call_reads part i j d x e small read shut = rw (device_at i d e small) (alone_reads part (Tree.One (unary.Call d)) (advanced i) j x read shut)

function_reads : (part : Parser Tree) (parameter : Parser (ℕ × Typ)) (i j k : Input) (q : Effect) (x : ℕ) (type : Typ) (body : Tree) → IsEffect i q
    → parameter (advanced i) ≡ Ok ((x, type), j) → part (bound x j) ≡ Ok (body, k) → ahead k ≡ a.Closing
    → function part parameter i ≡ Ok (Tree.Lambda (record { effect = q; own = None; param = x; param_type = type }) body, unbound (advanced k))
unfolding function
function_reads part parameter i j k q x type body effect read read' shut = rw (effect_at i q effect) (rw read (rw read' (rw (closing_at k shut))))

recursive_reads : (part : Parser Tree) (parameter : Parser (ℕ × Typ)) (type_ : Parser Typ) (i j k l : Input) (q : Effect) (own x : ℕ) (type gives : Typ) (body : Tree) → IsEffect i q
    → ahead (advanced i) ≡ a.Name → name_number (advanced i) ≡ own → parameter (named (advanced i)) ≡ Ok ((x, type), j) → type_ j ≡ Ok (gives, k)
    → part (bound x (bound own k)) ≡ Ok (body, l) → ahead l ≡ a.Closing
    → recursive part parameter type_ i
    ≡ Ok (Tree.Lambda (record { effect = q; own = Some (record { name = own; result = gives }); param = x; param_type = type }) body, unbound (unbound (advanced l)))
unfolding recursive
recursive_reads part parameter type_ i j k l q own x type gives body effect e same read read' read'' shut =
    rw (effect_at i q effect) (rw (name_at (advanced i) e) (rw read (rw read' (rw same (rw read'' (rw (closing_at l shut)))))))

begins_no_closing : {n : ℕ} {i j : Input} {tree : Tree} → IsTerm n i tree j → is_closing (ahead i) ≡ false
begins_no_closing (g.int e) = ap is_closing e
begins_no_closing (g.unit e) = ap is_closing e
begins_no_closing (g.truth e) = ap is_closing e
begins_no_closing (g.falsehood e) = ap is_closing e
begins_no_closing (g.yield e) = ap is_closing e
begins_no_closing (g.variable e is_bound) = ap is_closing e
begins_no_closing (g.form e form) = ap is_closing e

sequence_reads : (part : Parser Tree) (i j k l : Input) (first second : Tree) (others : List Tree) → part i ≡ Ok (first, j) → part j ≡ Ok (second, k)
    → more_from part (tokens_left k) (first ∷ second ∷ []) k ≡ Ok (first ∷ second ∷ others, l) → ahead l ≡ a.Closing
    → sequence part i ≡ Ok (Tree.Do (row (first ∷ second ∷ others)), advanced l)
unfolding sequence first_two more
sequence_reads part i j k l first second others read read' more_read shut = rw read (rw read' (rw more_read (rw (closing_at l shut))))

more_ends : (part : Parser Tree) (m : ℕ) (found : List Tree) (i : Input) → ahead i ≡ a.Closing → more_from part (suc m) found i ≡ Ok (found, i)
unfolding more_from sees_closing
more_ends part m found i e = ap (λ z. cond {A = Parser (List Tree)} (is_closing z) (λ i. Ok (found, i)) (λ i. and_then (part i) (λ x. more_from part m (found ++ x ∷ []))) i) e

pub more_goes_on : (part : Parser Tree) (m : ℕ) (found : List Tree) (i j : Input) (x : Tree) → is_closing (ahead i) ≡ false → part i ≡ Ok (x, j)
    → more_from part (suc m) found i ≡ more_from part m (found ++ x ∷ []) j
unfolding more_from sees_closing
more_goes_on part m found i j x open_ read =
    ap (λ z. cond {A = Parser (List Tree)} z (λ i. Ok (found, i)) (λ i. and_then (part i) (λ x. more_from part m (found ++ x ∷ []))) i) open_
    ∙ ap (λ o. and_then o (λ x. more_from part m (found ++ x ∷ []))) read

-- ---- the words and symbols

pub unary_at : (part : Parser Tree) (parameter : Parser (ℕ × Typ)) (type : Parser Typ) (i : Input) {word : Word} {op : Unary} → IsUnary word op
    → form_by part parameter type (opener_of (a.Reserved word)) i ≡ alone part (Tree.One op) (advanced i)
unfolding opener_of
unary_at part parameter type i g.negation = refl
unary_at part parameter type i g.get = refl
unary_at part parameter type i g.peek = refl
unary_at part parameter type i g.block_until = refl
unary_at part parameter type i g.print = refl
unary_at part parameter type i g.fst = refl
unary_at part parameter type i g.snd = refl

pub binary_at : (part : Parser Tree) (parameter : Parser (ℕ × Typ)) (type : Parser Typ) (i : Input) {next : Ahead} {op : Binary} → IsBinary next op
    → form_by part parameter type (opener_of next) i ≡ two part op (advanced i)
unfolding opener_of
binary_at part parameter type i g.app = refl
binary_at part parameter type i g.set = refl
binary_at part parameter type i g.pair = refl
binary_at part parameter type i (g.operation {symbol = symbol} {op = o} is) =
    ap (λ z. form_by part parameter type (option_map (λ op. opener.Two (binary.Bin op)) z) i) (op_at symbol o is)

function_at : {n : ℕ} {i j k : Input} {head : Head} {body : Tree} → IsFunctionHead n i head j → term n j ≡ Ok (body, k) → ahead k ≡ a.Closing
    → compound (term n) (param n) (ty n) i ≡ Ok (Tree.Lambda head body, outside head.own (advanced k))
unfolding opener_of
function_at {k = k} (g.fn {n = n} {i = i} {j = j} e q p) read shut =
    compound_at _ _ _ i _ e ∙ function_reads (term n) (param n) (advanced i) j k _ _ _ _ q (param_reads p) read shut
function_at {k = l} (g.rec {n = n} {own = own} {i = i} {j = j} {k = k} e q e' same p t) read shut =
    compound_at _ _ _ i _ e ∙ recursive_reads (term n) (param n) (ty n) (advanced i) j k l _ own _ _ _ _ q e' same (param_reads p) (type_reads t) read shut

mutual
  unfolding opener_of

  pub term_reads : {n : ℕ} {i j : Input} {tree : Tree} → IsTerm n i tree j → term n i ≡ Ok (tree, j)
  term_reads (g.int {n = n} {i = i} e) = term_at n i _ e ∙ atom_at i _ e
  term_reads (g.unit {n = n} {i = i} e) = term_at n i _ e ∙ atom_at i _ e ∙ unit_reads (marked i)
  term_reads (g.truth {n = n} {i = i} e) = term_at n i _ e ∙ atom_at i _ e ∙ truth_reads (marked i)
  term_reads (g.falsehood {n = n} {i = i} e) = term_at n i _ e ∙ atom_at i _ e ∙ falsehood_reads (marked i)
  term_reads (g.yield {n = n} {i = i} e) = term_at n i _ e ∙ atom_at i _ e ∙ yield_reads (marked i)
  term_reads (g.variable {n = n} {i = i} e is_bound) = term_at n i _ e ∙ atom_at i _ e ∙ variable_reads i e is_bound
  term_reads (g.form {n = n} {i = i} e form) = term_at (suc n) i _ e ∙ nested_at n (marked i) ∙ form_reads form

  form_reads : {n : ℕ} {i j : Input} {tree : Tree} → IsForm n i tree j → compound (term n) (param n) (ty n) i ≡ Ok (tree, j)
  form_reads (g.function h body shut) = function_at h (term_reads body) shut
  form_reads (g.binding {n = n} {x = x} {i = i} {j = j} {k = k} e e' same h h' shut) =
      compound_at _ _ _ i _ e ∙ binding_reads (term n) (advanced i) j k x _ _ e' same (term_reads h) (term_reads h') shut
  form_reads (g.sequence {n = n} {i = i} {j = j} {k = k} {l = l} e first second others shut) =
      compound_at _ _ _ i _ e
      ∙ sequence_reads (term n) (advanced i) j k l _ _ _ (term_reads first) (term_reads second) (parts_read others (tokens_left k) _ (omega arith)) shut
  form_reads (g.choice {n = n} {i = i} {j = j} {k = k} {l = l} e h h' h'' shut) =
      compound_at _ _ _ i _ e ∙ choice_reads (term n) (advanced i) j k l _ _ _ (term_reads h) (term_reads h') (term_reads h'') shut
  form_reads (g.one {n = n} {i = i} {j = j} e is h shut) =
      compound_at _ _ _ i _ e ∙ unary_at (term n) (param n) (ty n) i is ∙ alone_reads (term n) _ (advanced i) j _ (term_reads h) shut
  form_reads (g.ref {n = n} {i = i} {j = j} e s h shut) = compound_at _ _ _ i _ e ∙ reference_reads (term n) i j _ _ s (term_reads h) shut
  form_reads (g.call {n = n} {i = i} {j = j} e d small h shut) = compound_at _ _ _ i _ e ∙ call_reads (term n) (advanced i) j _ _ d small (term_reads h) shut
  form_reads (g.two {n = n} {i = i} {j = j} {k = k} e is h h' shut) =
      compound_at _ _ _ i _ e ∙ binary_at (term n) (param n) (ty n) i is ∙ two_reads (term n) _ (advanced i) j k _ _ (term_reads h) (term_reads h') shut
  form_reads (g.async {n = n} {i = i} {j = j} e h shut) = compound_at _ _ _ i _ e ∙ alone_reads (term n) Tree.Async (advanced i) j _ (term_reads h) shut
  form_reads (IsForm.unprotected {n = n} {i = i} {j = j} e h shut) = compound_at _ _ _ i _ e ∙ alone_reads (term n) Tree.Unprotected (advanced i) j _ (term_reads h) shut

  parts_read : {n : ℕ} {i k : Input} {others : List Tree} → AreParts n i others k → (m : ℕ) (found : List Tree) → tokens_left i ≤ m
      → more_from (term n) m found i ≡ Ok (found ++ others, k)
  parts_read (g.none {n = n} {i = i} e) zero found few = absurd (omega (arith, one_less i (λ e'. cc)))
  parts_read (g.none {n = n} {i = i} e) (suc m) found few = more_ends (term n) m found i e ∙ ap (λ z. Ok (z, i)) (sym (append-nil found))
  parts_read (g.more {n = n} {i = i} {j = j} part others) zero found few = absurd (omega (arith, term_takes part))
  parts_read (g.more {n = n} {i = i} {j = j} {k = k} {part = x} {others = rest} part others) (suc m) found few =
      more_goes_on (term n) m found i j x (begins_no_closing part) (term_reads part)
      ∙ parts_read others m (found ++ x ∷ []) (omega (arith, term_takes part))
      ∙ ap (λ z. Ok (z, k)) (append_assoc found (x ∷ []) rest)
