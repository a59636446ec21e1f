-- Each form, type and program is read locally.
use Rattle.std.proofs.Common.{refl, ap, ◌∙◌, ℕ, zero, suc, ◌-◌, ◌==◌, Bool, true, false, cond, List, [], ◌∷◌, ◌++◌, Option, Some, None, Ok, Err}
use Rattle.ame_term.specs.declared.types.Sort.{Sort}
use Rattle.ame_term.specs.declared.types.Effect.{Effect}
use Rattle.ame_term.specs.declared.types.Unary.TheVariants as unary
use Rattle.ame_term.specs.declared.types.Binary.{Binary}
use Rattle.ame_term.specs.Tree.{Typ, Tree}
use Rattle.ame_parse.specs.declared.words.Word.{Word}
use Rattle.ame_parse.specs.declared.words.Word.TheVariants as w
use Rattle.ame_parse.specs.declared.ahead.Ahead.{Ahead}
use Rattle.ame_parse.specs.declared.ahead.Ahead.TheVariants as a
use Rattle.ame_parse.specs.declared.fault.Want.TheVariants as want
use Rattle.ame_parse.specs.declared.fault.ParseFault.TheVariants.{TooNested, Trailing}
use Rattle.ame_parse.specs.Input.{Parser, ◌>>=◌, ◌>>◌, pure, peek, advance, bind_name, unbind, place, spelling_in, spelling, name_number, named, sees_closing, closing_by, closing, opening_by, opening, name_by, name, finish_by, finish, count_ref}
use Rattle.ame_parse.specs.Names.{number_in, with_name}
use Rattle.ame_parse.specs.Letters.{sort_of, effect_named, device_of, sort_by, effect_by, device_by, sort, numbered_sort, effect_word, device}
use Rattle.ame_parse.specs.Types as t
use Rattle.ame_parse.specs.Types.{ty, param}
use Rattle.ame_parse.specs.Reading.{alone, two, choice, binding, more_from, reference, call, function, recursive}
use Rattle.ame_parse.proofs.Locality.{IsLocal, local_bind, local_pure, local_peek, local_see, local_sees_closing, local_fault, local_expected, local_take, local_advance, local_bound, local_unbound, local_count, spelling_alike}

-- ---- steps by the next token

closing_by_local : (m : ℕ) (next : Ahead) → IsLocal m (closing_by next)
closing_by_local m a.Closing = local_advance m
closing_by_local m _ = local_expected m want.Closing

local_closing : (m : ℕ) → IsLocal m closing
unfolding closing
local_closing m = local_bind m peek closing_by (local_peek m) (closing_by_local m)

finish_by_local : (m : ℕ) (next : Ahead) → IsLocal m (finish_by next)
finish_by_local m a.End = local_pure m tt
finish_by_local m _ = local_fault m Trailing (λ n. refl) (λ n k. refl)

pub local_finish : (m : ℕ) → IsLocal m finish
unfolding finish
local_finish m = local_bind m peek finish_by (local_peek m) (finish_by_local m)

pub take_name_local : (m : ℕ) → IsLocal m (λ i. Ok (name_number i, named i))
unfolding name_number named spelling
take_name_local m = local_take m name_number named (λ i. refl) (λ i. refl) (λ i i' twin alike.
    let spelt = spelling_alike i.rest i'.rest alike in (
      ap (λ z. number_in z (spelling_in i'.rest)) twin.names ∙ ap (number_in i.names) spelt,
      record { names = ap (λ z. with_name z (spelling_in i'.rest)) twin.names ∙ ap (with_name i.names) spelt; scope = twin.scope; refs = twin.refs },
    ))

name_by_local : (m : ℕ) (next : Ahead) → IsLocal m (name_by next)
name_by_local m a.Name = take_name_local m
name_by_local m _ = local_expected m want.Name

local_name : (m : ℕ) → IsLocal m name
unfolding name
local_name m = local_bind m peek name_by (local_peek m) (name_by_local m)

opening_test_local : (m : ℕ) (b : Bool) → IsLocal m (cond {A = Parser (Unit {0})} b (λ i. Err (TooNested (place i))) advance)
opening_test_local m true = local_fault m TooNested (λ n. refl) (λ n k. refl)
opening_test_local m false = local_advance m

opening_by_local : (m n : ℕ) (next : Ahead) → IsLocal m (opening_by n next)
opening_by_local m n a.Opening = opening_test_local m (n == 0)
opening_by_local m n _ = local_expected m want.Opening

local_opening : (m n : ℕ) → IsLocal m (opening n)
unfolding opening
local_opening m n = local_bind m peek (opening_by n) (local_peek m) (opening_by_local m n)

sort_by_local : (m : ℕ) (found : Option Sort) → IsLocal m (sort_by found)
sort_by_local m (Some found) = local_bind m advance (λ _. pure found) (local_advance m) (λ _. local_pure m found)
sort_by_local m None = local_expected m want.Sort

local_sort : (m : ℕ) → IsLocal m sort
unfolding sort
local_sort m = local_bind m (λ i. Ok (spelling i, i)) (λ z. sort_by (sort_of z)) (local_see m) (λ z. sort_by_local m (sort_of z))

local_numbered_sort : (m : ℕ) → IsLocal m numbered_sort
unfolding numbered_sort
local_numbered_sort m = local_bind m sort _ (local_sort m) (λ s. local_bind m count_ref _ (local_count m) (λ k. local_pure m (s, k)))

effect_by_local : (m : ℕ) (found : Option Effect) → IsLocal m (effect_by found)
effect_by_local m (Some found) = local_bind m advance (λ _. pure found) (local_advance m) (λ _. local_pure m found)
effect_by_local m None = local_expected m want.Effect

local_effect : (m : ℕ) → IsLocal m effect_word
unfolding effect_word
local_effect m = local_bind m (λ i. Ok (spelling i, i)) (λ z. effect_by (effect_named z)) (local_see m) (λ z. effect_by_local m (effect_named z))

device_by_local : (m : ℕ) (found : Option ℕ) → IsLocal m (device_by found)
device_by_local m (Some found) = local_bind m advance (λ _. pure found) (local_advance m) (λ _. local_pure m found)
device_by_local m None = local_expected m want.Device

local_device : (m : ℕ) → IsLocal m device
unfolding device
local_device m = local_bind m peek (λ z. device_by (device_of z)) (local_peek m) (λ z. device_by_local m (device_of z))

-- a token is taken, and then the parser goes on
pub after_one : {A : Type 0} (m : ℕ) (p : Parser A) → IsLocal m p → IsLocal m (advance >> p)
after_one m p local = local_bind m advance (λ _. p) (local_advance m) (λ _. local)

-- a form ends with this value
pub shut : {A : Type 0} (m : ℕ) (x : A) → IsLocal m (closing >> pure x)
shut m x = local_bind m closing (λ _. pure x) (local_closing m) (λ _. local_pure m x)

-- ---- types

module _ (m : ℕ) (part : Parser Typ) (local : IsLocal m part) where
  ref_type_local : IsLocal m (t.reference part)
  unfolding t.reference
  ref_type_local = local_bind m sort _ (local_sort m) (λ s. local_bind m part _ local (λ x. shut m (Typ.Ref s x)))

  fun_type_local : IsLocal m (t.function part)
  unfolding t.function
  fun_type_local = local_bind m effect_word _ (local_effect m) (λ q. local_bind m part _ local (λ x. local_bind m part _ local (λ y. shut m (Typ.Fun q x y))))

  pair_type_local : IsLocal m (t.pair part)
  unfolding t.pair
  pair_type_local = local_bind m part _ local (λ x. local_bind m part _ local (λ y. shut m (Typ.Pair x y)))

  type_word_local : (word : Word) → IsLocal m (t.compound_by_word part word)
  type_word_local w.RefType = after_one m (t.reference part) ref_type_local
  type_word_local w.FunType = after_one m (t.function part) fun_type_local
  type_word_local w.PairType = after_one m (t.pair part) pair_type_local
  type_word_local _ = local_expected m want.Ty

  type_form_by_local : (next : Ahead) → IsLocal m (t.compound_by part next)
  type_form_by_local (a.Reserved word) = type_word_local word
  type_form_by_local _ = local_expected m want.Ty

  type_form_local : IsLocal m (t.compound part)
  unfolding t.compound
  type_form_local = local_bind m peek (t.compound_by part) (local_peek m) type_form_by_local

simple_local : (m : ℕ) (word : Word) → IsLocal m (t.simple word)
simple_local m w.UnitType = after_one m (pure Typ.Unit) (local_pure m Typ.Unit)
simple_local m w.BoolType = after_one m (pure Typ.Bool) (local_pure m Typ.Bool)
simple_local m w.IntType = after_one m (pure Typ.Int) (local_pure m Typ.Int)
simple_local m _ = local_expected m want.Ty

ty_by_local : (m : ℕ) (form : Parser Typ) → IsLocal m form → (next : Ahead) → IsLocal m (t.ty_by form next)
ty_by_local m form local a.Opening = local
ty_by_local m form local (a.Reserved word) = simple_local m word
ty_by_local m form local _ = local_expected m want.Ty

ty_of_local : (m : ℕ) (form : Parser Typ) → IsLocal m form → IsLocal m (t.ty_of form)
ty_of_local m form local = local_bind m peek (t.ty_by form) (local_peek m) (ty_by_local m form local)

nested_type_local : (m n : ℕ) → IsLocal m (t.nested n)
unfolding t.nested
nested_type_local m zero = local_fault m TooNested (λ n. refl) (λ n k. refl)
nested_type_local m (suc n) = after_one m (t.compound (t.ty_of (t.nested n))) (type_form_local m (t.ty_of (t.nested n)) (ty_of_local m (t.nested n) (nested_type_local m n)))

pub local_ty : (m n : ℕ) → IsLocal m (ty n)
unfolding ty
local_ty m n = ty_of_local m (t.nested n) (nested_type_local m n)

pub local_param : (m n : ℕ) → IsLocal m (param n)
unfolding param
local_param m n = local_bind m (opening n) _ (local_opening m n) (λ _. local_bind m name _ (local_name m) (λ x. local_bind m (ty (n - 1)) _ (local_ty m (n - 1)) (λ type. shut m (x, type))))

-- ---- forms

module _ (m : ℕ) (part : Parser Tree) (local : IsLocal m part) where
  pub alone_local : (build : Tree → Tree) → IsLocal m (alone part build)
  unfolding alone
  alone_local build = local_bind m part _ local (λ x. shut m (build x))

  pub two_local : (op : Binary) → IsLocal m (two part op)
  unfolding two
  two_local op = local_bind m part _ local (λ x. local_bind m part _ local (λ y. shut m (Tree.Two op x y)))

  pub choice_local : IsLocal m (choice part)
  unfolding choice
  choice_local = local_bind m part _ local (λ x. local_bind m part _ local (λ y. local_bind m part _ local (λ z. shut m (Tree.If x y z))))

  pub reference_local : IsLocal m (reference part)
  unfolding reference
  reference_local = local_bind m numbered_sort _ (local_numbered_sort m) (λ p. alone_local (Tree.One (unary.Ref p.0 p.1)))

  pub call_local : IsLocal m (call part)
  unfolding call
  call_local = local_bind m device _ (local_device m) (λ d. alone_local (Tree.One (unary.Call d)))

  unbinding : (x : Tree) → IsLocal m (closing >> (unbind >> pure x))
  unbinding x = local_bind m closing _ (local_closing m) (λ _. local_bind m unbind _ (local_unbound m) (λ _. local_pure m x))

  pub binding_local : IsLocal m (binding part)
  unfolding binding
  binding_local = local_bind m name _ (local_name m) (λ x. local_bind m part _ local (λ value. local_bind m (bind_name x) _ (local_bound m x) (λ _. local_bind m part _ local (λ body. unbinding (Tree.Let x value body)))))

  pub function_local : (n : ℕ) → IsLocal m (function part (param n))
  unfolding function
  function_local n = local_bind m effect_word _ (local_effect m) (λ q. local_bind m (param n) _ (local_param m n) (λ p. local_bind m (bind_name p.0) _ (local_bound m p.0) (λ _.
      local_bind m part _ local (λ body. unbinding (Tree.Lambda (record { effect = q; own = None; param = p.0; param_type = p.1 }) body)))))

  pub recursive_local : (n : ℕ) → IsLocal m (recursive part (param n) (ty n))
  unfolding recursive
  recursive_local n = local_bind m effect_word _ (local_effect m) (λ q. local_bind m name _ (local_name m) (λ own. local_bind m (param n) _ (local_param m n) (λ p. local_bind m (ty n) _ (local_ty m n) (λ gives.
      local_bind m (bind_name own) _ (local_bound m own) (λ _. local_bind m (bind_name p.0) _ (local_bound m p.0) (λ _. local_bind m part _ local (λ body.
      local_bind m closing _ (local_closing m) (λ _. local_bind m unbind _ (local_unbound m) (λ _. local_bind m unbind _ (local_unbound m) (λ _.
      local_pure m (Tree.Lambda (record { effect = q; own = Some (record { name = own; result = gives }); param = p.0; param_type = p.1 }) body)))))))))))

  more_by_local : (found : List Tree) (rest : List Tree → Parser (List Tree)) → ((found : List Tree) → IsLocal m (rest found)) → (ends : Bool)
      → IsLocal m (cond {A = Parser (List Tree)} ends (pure found) (part >>= (λ x. rest (found ++ x ∷ []))))
  more_by_local found rest rest_local true = local_pure m found
  more_by_local found rest rest_local false = local_bind m part _ local (λ x. rest_local (found ++ x ∷ []))

  pub more_from_local : (k : ℕ) (found : List Tree) → IsLocal m (more_from part k found)
  unfolding more_from
  more_from_local zero found = local_expected m want.Term
  more_from_local (suc k) found = local_bind m sees_closing _ (local_sees_closing m) (more_by_local found (more_from part k) (more_from_local k))
