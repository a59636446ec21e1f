-- Terms and programs are read locally.
use Rattle.std.proofs.Common.{◌≡◌, refl, sym, ap, ◌∙◌, ℕ, zero, suc, ◌<◌, ◌≤◌, ◌==◌, Bool, true, false, cond, List, [], ◌∷◌, ◌++◌, length, arith, Option, Some, None, Ok, Err}
use Rattle.std.specs.List.{list_any}
use Rattle.ame_term.specs.Tree.{Val, Tree, unit_tree}
use Rattle.ame_parse.specs.declared.words.Word.{Word}
use Rattle.ame_parse.specs.declared.words.Word.TheVariants as w
use Rattle.ame_parse.specs.declared.ahead.Ahead.{Ahead}
use Rattle.ame_parse.specs.declared.ahead.Ahead.TheVariants as a
use Rattle.ame_parse.specs.declared.fault.Want.TheVariants as want
use Rattle.ame_parse.specs.declared.fault.ParseFault.{ParseFault}
use Rattle.ame_parse.specs.declared.fault.ParseFault.TheVariants.{Expected, UnknownName, TooNested}
use Rattle.ame_parse.specs.declared.forms.Opener.{Opener}
use Rattle.ame_parse.specs.declared.forms.Opener.TheVariants as opener
use Rattle.ame_parse.specs.Input.{Seen, Input, ParseOutcome, Parser, and_then, ◌>>=◌, ◌>>◌, pure, expected, peek, advance, mark, ahead_in, ahead, place, spelling_in, spelling, name_number, named, marked, binds_name, tokens_left, is_closing, sees_closing, name_by, name, finish}
use Rattle.ame_parse.specs.Names.{number_in}
use Rattle.ame_parse.specs.Types.{ty, param}
use Rattle.ame_parse.specs.Forms.{opener_of, row}
use Rattle.ame_parse.specs.Reading.{more_from, more, first_two, sequence, alone, two, choice, binding, function, recursive, reference, call, form_by, compound, variable, yielding, constant, atom_by, atom, term_by, term_of, nested, term, max_open, program}
use Rattle.ame_parse.proofs.Soundness.{term_leads}
use Rattle.ame_parse.proofs.Completeness.{term_takes, term_at, atom_at}
use Rattle.ame_parse.proofs.Locality.{IsLocal, local_bind, local_same, local_tell, local_pure, local_peek, local_fault, local_expected, local_advance, local_mark, spelling_alike}
use Rattle.ame_parse.proofs.LocalForms.{take_name_local, local_finish, after_one, shut, alone_local, two_local, choice_local, reference_local, call_local, binding_local, function_local, recursive_local, more_from_local}

-- ---- a name that is bound

cond_at : {A : Type 0} (b : Bool) (p q : Parser A) (i : Input) → cond b (p i) (q i) ≡ (cond {A = Parser A} b p q) i
cond_at true p q i = refl
cond_at false p q i = refl

abbrev found : Parser Tree
found = λ i. Ok (Tree.Var (name_number i), named i)

abbrev unknown : Parser Tree
unknown = λ i. Err (UnknownName (place i))

abbrev is_bound : Parser Bool
is_bound = λ i. Ok (binds_name (name_number i) (named i), i)

abbrev variable_by : Ahead → Parser Tree
variable_by a.Name = is_bound >>= (λ b. cond {A = Parser Tree} b found unknown)
variable_by _ = expected want.Name

variable_is_by : (next : Ahead) (i : Input) → and_then (name_by next i) (λ x j. cond (binds_name x j) (Ok (Tree.Var x, j)) (Err (UnknownName (place i)))) ≡ variable_by next i
variable_is_by a.Name i = cond_at (binds_name (name_number i) (named i)) found unknown i
variable_is_by _ i = refl

variable_is : (i : Input) → variable i ≡ (peek >>= variable_by) i
unfolding variable name
variable_is i = variable_is_by (ahead i) i

is_bound_local : (m : ℕ) → IsLocal m is_bound
unfolding binds_name name_number named spelling
is_bound_local m = local_tell m (λ i. binds_name (name_number i) (named i)) (λ i i' twin alike.
    ap (list_any (λ y. y == number_in i'.names (spelling_in i'.rest))) twin.scope
    ∙ ap (λ x. list_any (λ y. y == x) i.scope) (ap (λ z. number_in z (spelling_in i'.rest)) twin.names ∙ ap (number_in i.names) (spelling_alike i.rest i'.rest alike)))

found_local : (m : ℕ) → IsLocal m found
found_local m = local_bind m (λ i. Ok (name_number i, named i)) (λ x. pure (Tree.Var x)) (take_name_local m) (λ x. local_pure m (Tree.Var x))

found_or_not : (m : ℕ) (b : Bool) → IsLocal m (cond {A = Parser Tree} b found unknown)
found_or_not m true = found_local m
found_or_not m false = local_fault m UnknownName (λ n. refl) (λ n k. refl)

variable_by_local : (m : ℕ) (next : Ahead) → IsLocal m (variable_by next)
variable_by_local m a.Name = local_bind m is_bound (λ b. cond {A = Parser Tree} b found unknown) (is_bound_local m) (found_or_not m)
variable_by_local m _ = local_expected m want.Name

variable_local : (m : ℕ) → IsLocal m variable
variable_local m = local_same m variable (peek >>= variable_by) (λ i few. variable_is i) (local_bind m peek variable_by (local_peek m) (variable_by_local m))

-- ---- terms of one token

constant_local : (m : ℕ) (word : Word) → IsLocal m (constant word)
unfolding constant yielding
constant_local m w.Unit = after_one m (pure unit_tree) (local_pure m unit_tree)
constant_local m w.True = after_one m (pure (Tree.Held (Val.Bool true))) (local_pure m (Tree.Held (Val.Bool true)))
constant_local m w.False = after_one m (pure (Tree.Held (Val.Bool false))) (local_pure m (Tree.Held (Val.Bool false)))
constant_local m w.Yield = local_bind m (mark >> advance) _ (local_bind m mark _ (local_mark m) (λ _. local_advance m)) (λ _. local_pure m (Tree.Unprotected unit_tree))
constant_local m _ = local_expected m want.Term

atom_by_local : (m : ℕ) (next : Ahead) → IsLocal m (atom_by next)
atom_by_local m (a.Number value) = after_one m (pure (Tree.Held (Val.Int value))) (local_pure m (Tree.Held (Val.Int value)))
atom_by_local m (a.Reserved word) = constant_local m word
atom_by_local m a.Name = variable_local m
atom_by_local m _ = local_expected m want.Term

atom_local : (m : ℕ) → IsLocal m atom
unfolding atom
atom_local m = local_bind m peek atom_by (local_peek m) (atom_by_local m)

-- ---- `do`: the count of turns is enough

place_marked : (i : Input) → place (marked i) ≡ place i
unfolding place marked
place_marked i = refl

pub no_term_at_end : (n : ℕ) (i : Input) → ahead i ≡ a.End → term n i ≡ Err (Expected (place i) want.Term)
no_term_at_end n i e = term_at n i a.End e ∙ atom_at i a.End e ∙ ap (λ p. Err (Expected p want.Term)) (place_marked i)

none_left_in : (rest : List Seen) → length rest ≤ 0 → ahead_in rest ≡ a.End
none_left_in [] few = refl
none_left_in (token ∷ rest) few = absurd (omega arith)

pub none_left : (i : Input) → tokens_left i ≤ 0 → ahead i ≡ a.End
unfolding tokens_left ahead
none_left i few = none_left_in i.rest few

pub more_stops : (part : Parser Tree) (k : ℕ) (so_far : List Tree) (i : Input) (fault : ParseFault) → is_closing (ahead i) ≡ false → part i ≡ Err fault
    → more_from part (suc k) so_far i ≡ Err fault
unfolding more_from sees_closing
more_stops part k so_far i fault open_ read =
    ap (λ z. cond {A = Parser (List Tree)} z (λ i. Ok (so_far, i)) (λ i. and_then (part i) (λ x. more_from part k (so_far ++ x ∷ []))) i) open_
    ∙ ap (λ o. and_then o (λ x. more_from part k (so_far ++ x ∷ []))) read

pub no_turns : (part : Parser Tree) (so_far : List Tree) (i : Input) → more_from part zero so_far i ≡ Err (Expected (place i) want.Term)
unfolding more_from
no_turns part so_far i = refl

none_more : (n k : ℕ) (so_far : List Tree) (i : Input) → tokens_left i ≤ 0 → more_from (term n) zero so_far i ≡ more_from (term n) (suc k) so_far i
none_more n k so_far i none =
    let e = none_left i none in
    no_turns (term n) so_far i ∙ sym (more_stops (term n) k so_far i _ (ap is_closing e) (no_term_at_end n i e))

abbrev Rest : Type 0
Rest = List Tree → Parser (List Tree)

enough_by : (n : ℕ) (rest rest' : Rest) (so_far : List Tree) (i : Input) (o : ParseOutcome Tree) → term n i ≡ o
    → ((so_far : List Tree) (j : Input) → tokens_left j < tokens_left i → rest so_far j ≡ rest' so_far j)
    → and_then o (λ x. rest (so_far ++ x ∷ [])) ≡ and_then o (λ x. rest' (so_far ++ x ∷ []))
enough_by n rest rest' so_far i (Ok p) e same = same (so_far ++ p.0 ∷ []) p.1 (term_takes (term_leads n i p.0 p.1 e))
enough_by n rest rest' so_far i (Err fault) e same = refl

enough_at : (n : ℕ) (rest rest' : Rest) (so_far : List Tree) (i : Input) (ends : Bool)
    → ((so_far : List Tree) (j : Input) → tokens_left j < tokens_left i → rest so_far j ≡ rest' so_far j)
    → cond {A = Parser (List Tree)} ends (pure so_far) (λ i. and_then (term n i) (λ x. rest (so_far ++ x ∷ []))) i
    ≡ cond {A = Parser (List Tree)} ends (pure so_far) (λ i. and_then (term n i) (λ x. rest' (so_far ++ x ∷ []))) i
enough_at n rest rest' so_far i true same = refl
enough_at n rest rest' so_far i false same = enough_by n rest rest' so_far i (term n i) refl same

enough : (n k k' : ℕ) (so_far : List Tree) (i : Input) → tokens_left i ≤ k → tokens_left i ≤ k' → more_from (term n) k so_far i ≡ more_from (term n) k' so_far i
unfolding more_from sees_closing
enough n zero zero so_far i few few' = refl
enough n zero (suc k') so_far i few few' = none_more n k' so_far i few
enough n (suc k) zero so_far i few few' = sym (none_more n k so_far i few')
enough n (suc k) (suc k') so_far i few few' =
    enough_at n (more_from (term n) k) (more_from (term n) k') so_far i (is_closing (ahead i)) (λ so_far j less. enough n k k' so_far j (omega arith) (omega arith))

module _ (m n : ℕ) (local : IsLocal m (term n)) where
  more_local : (so_far : List Tree) → IsLocal m (more (term n) so_far)
  unfolding more tokens_left
  more_local so_far = local_same m (more (term n) so_far) (more_from (term n) m so_far) (λ i few. enough n (tokens_left i) m so_far i (omega arith) few) (more_from_local m (term n) local m so_far)

  first_two_local : IsLocal m (first_two (term n))
  unfolding first_two
  first_two_local = local_bind m (term n) _ local (λ x. local_bind m (term n) _ local (λ y. local_pure m (x ∷ y ∷ [])))

  sequence_local : IsLocal m (sequence (term n))
  unfolding sequence
  sequence_local = local_bind m (first_two (term n)) _ first_two_local (λ pair. local_bind m (more (term n) pair) _ (more_local pair) (λ all. shut m (Tree.Do (row all))))

  form_by_local : (which : Option Opener) → IsLocal m (form_by (term n) (param n) (ty n) which)
  form_by_local (Some (opener.One op)) = after_one m (alone (term n) (Tree.One op)) (alone_local m (term n) local (Tree.One op))
  form_by_local (Some opener.Ref) = after_one m (reference (term n)) (reference_local m (term n) local)
  form_by_local (Some opener.Call) = after_one m (call (term n)) (call_local m (term n) local)
  form_by_local (Some (opener.Two op)) = after_one m (two (term n) op) (two_local m (term n) local op)
  form_by_local (Some opener.Async) = after_one m (alone (term n) Tree.Async) (alone_local m (term n) local Tree.Async)
  form_by_local (Some opener.Unprotected) = after_one m (alone (term n) Tree.Unprotected) (alone_local m (term n) local Tree.Unprotected)
  form_by_local (Some opener.If) = after_one m (choice (term n)) (choice_local m (term n) local)
  form_by_local (Some opener.Let) = after_one m (binding (term n)) (binding_local m (term n) local)
  form_by_local (Some opener.Do) = after_one m (sequence (term n)) sequence_local
  form_by_local (Some opener.Fn) = after_one m (function (term n) (param n)) (function_local m (term n) local n)
  form_by_local (Some opener.Rec) = after_one m (recursive (term n) (param n) (ty n)) (recursive_local m (term n) local n)
  form_by_local None = local_expected m want.Form

  compound_local : IsLocal m (compound (term n) (param n) (ty n))
  unfolding compound
  compound_local = local_bind m peek _ (local_peek m) (λ next. form_by_local (opener_of next))

-- ---- terms and programs

term_by_local : (m : ℕ) (form : Parser Tree) → IsLocal m form → (next : Ahead) → IsLocal m (term_by form next)
term_by_local m form local a.Opening = local
term_by_local m form local _ = atom_local m

term_of_local : (m : ℕ) (form : Parser Tree) → IsLocal m form → IsLocal m (term_of form)
term_of_local m form local = local_bind m (mark >> peek) (term_by form) (local_bind m mark _ (local_mark m) (λ _. local_peek m)) (term_by_local m form local)

nested_local : (m n : ℕ) → IsLocal m (nested n)
unfolding nested term
nested_local m zero = local_fault m TooNested (λ n. refl) (λ n k. refl)
nested_local m (suc n) = after_one m (compound (term n) (param n) (ty n)) (compound_local m n (term_of_local m (nested n) (nested_local m n)))

local_term : (m n : ℕ) → IsLocal m (term n)
unfolding term
local_term m n = term_of_local m (nested n) (nested_local m n)

pub local_program : (m : ℕ) → IsLocal m program
unfolding program
local_program m = local_bind m (term max_open) _ (local_term m max_open) (λ tree. local_bind m finish _ (local_finish m) (λ _. local_pure m tree))
