-- Each fault that is expected is the one that is read.
use Rattle.std.proofs.Common.{◌≡◌, ℕ, zero, suc, ◌-◌, ◌≤◌, ◌==◌, ◌||◌, refl, sym, ap, ◌∙◌, Bool, true, false, cond, List, [], ◌∷◌, Option, Some, None, Err, arith}
use Rattle.std.specs.Prelude.{is_some}
use Rattle.std.specs.Option.{option_map}
use Rattle.ame_lex.specs.Bytes.{Text}
use Rattle.ame_term.specs.declared.types.Sort.{Sort}
use Rattle.ame_term.specs.declared.types.Effect.{Effect}
use Rattle.ame_term.specs.declared.types.Op.{Op}
use Rattle.ame_term.specs.declared.types.Unary.TheVariants as unary
use Rattle.ame_term.specs.declared.types.Binary.{Binary}
use Rattle.ame_term.specs.declared.types.Binary.TheVariants as binary
use Rattle.ame_term.specs.Operators.{operator_of}
use Rattle.ame_term.specs.Tree.{Tree}
use Rattle.ame_parse.specs.declared.words.Word.{Word}
use Rattle.ame_parse.specs.declared.words.Word.TheVariants as w
use Rattle.ame_parse.specs.declared.ahead.Ahead.{Ahead}
use Rattle.ame_parse.specs.declared.ahead.Ahead.TheVariants as a
use Rattle.ame_parse.specs.declared.fault.Want.TheVariants as want
use Rattle.ame_parse.specs.declared.fault.ParseFault.{ParseFault}
use Rattle.ame_parse.specs.declared.fault.ParseFault.TheVariants.{Expected, UnknownName, TooNested, Trailing}
use Rattle.ame_parse.specs.declared.forms.Opener.TheVariants as opener
use Rattle.ame_parse.specs.Input.{Input, ◌>>◌, ahead, spelling, place, advanced, marked, name_number, named, binds_name, ref_number, tokens_left, is_closing, closing_by, closing, name_by, name, opening_by, finish_by, finish}
use Rattle.ame_parse.specs.Letters.{sort_of, effect_named, device_of, sort_by, effect_by, device_by, sort, numbered_sort, effect_word, device}
use Rattle.ame_parse.specs.Types as t
use Rattle.ame_parse.specs.Types.{ty, param}
use Rattle.ame_parse.specs.Forms.{opener_of, opener_of_word}
use Rattle.ame_parse.specs.Reading.{alone, two, choice, binding, more_from, more, first_two, sequence, reference, call, function, recursive, form_by, compound, constant, nested, term, max_open, program}
use Rattle.ame_parse.specs.Text.{ReadingFault, source_by, reading_by, reading}
use Rattle.ame_parse.specs.Grammar.{IsSort, IsEffect}
use Rattle.ame_parse.specs.Expected as x
use Rattle.ame_parse.specs.Expected.{Piece, Passes, Shape, TypeShape, Fails, AreFailing, Faults, begins_term, begins_form, begins_type, begins_type_form, is_term_word, is_operator}
use Rattle.ame_parse.proofs.LetterSteps.{IsDevice}
use Rattle.ame_parse.proofs.Completeness.{term_takes, term_reads, type_reads, param_reads, sort_at, effect_at, device_at, ty_at, nested_ty_at, compound_ty_at, term_at, atom_at, nested_at, compound_at, name_at, unary_at, binary_at, more_goes_on}
use Rattle.ame_parse.proofs.LocalTerms.{none_left, no_term_at_end, more_stops, no_turns}
use Rattle.ame_parse.proofs.Failing.{tested, variable_at, param_rest, param_by, param_open, param_number, sort_is, effect_is, device_is}
use Rattle.ame_parse.proofs.Whole.{LexesAsRead}

place_marked : (i : Input) → place (marked i) ≡ place i
unfolding place marked
place_marked i = refl

-- ---- one piece, by what comes next

name_errs_by : (next : Ahead) (i : Input) → ¬ (next ≡ a.Name) → name_by next i ≡ Err (Expected (place i) want.Name)
name_errs_by a.Name i other = absurd (other refl)
name_errs_by _ i other = refl

name_errs : (i : Input) → ¬ (ahead i ≡ a.Name) → name i ≡ Err (Expected (place i) want.Name)
unfolding name
name_errs i other = name_errs_by (ahead i) i other

closing_errs_by : (next : Ahead) (i : Input) → ¬ (next ≡ a.Closing) → closing_by next i ≡ Err (Expected (place i) want.Closing)
closing_errs_by a.Closing i other = absurd (other refl)
closing_errs_by _ i other = refl

closing_errs : (i : Input) → ¬ (ahead i ≡ a.Closing) → closing i ≡ Err (Expected (place i) want.Closing)
unfolding closing
closing_errs i other = closing_errs_by (ahead i) i other

finish_errs_by : (next : Ahead) (i : Input) → ¬ (next ≡ a.End) → finish_by next i ≡ Err (Trailing (place i))
finish_errs_by a.End i other = absurd (other refl)
finish_errs_by _ i other = refl

finish_errs : (i : Input) → ¬ (ahead i ≡ a.End) → finish i ≡ Err (Trailing (place i))
unfolding finish
finish_errs i other = finish_errs_by (ahead i) i other

sort_errs_by : (found : Option Sort) (i : Input) → sort i ≡ sort_by found i → ((s : Sort) → ¬ (IsSort i s)) → sort_by found i ≡ Err (Expected (place i) want.Sort)
sort_errs_by (Some s) i e none = absurd (none s (sort_is i s e))
sort_errs_by None i e none = refl

sort_errs : (i : Input) → ((s : Sort) → ¬ (IsSort i s)) → sort i ≡ Err (Expected (place i) want.Sort)
unfolding sort
sort_errs i none = sort_errs_by (sort_of (spelling i)) i refl none

effect_errs_by : (found : Option Effect) (i : Input) → effect_word i ≡ effect_by found i → ((q : Effect) → ¬ (IsEffect i q)) → effect_by found i ≡ Err (Expected (place i) want.Effect)
effect_errs_by (Some q) i e none = absurd (none q (effect_is i q e))
effect_errs_by None i e none = refl

effect_errs : (i : Input) → ((q : Effect) → ¬ (IsEffect i q)) → effect_word i ≡ Err (Expected (place i) want.Effect)
unfolding effect_word
effect_errs i none = effect_errs_by (effect_named (spelling i)) i refl none

device_errs_by : (found : Option ℕ) (i : Input) → device i ≡ device_by found i → ((d : ℕ) → ¬ (IsDevice i d)) → device_by found i ≡ Err (Expected (place i) want.Device)
device_errs_by (Some d) i e none = absurd (none d (device_is i d e))
device_errs_by None i e none = refl

device_errs : (i : Input) → ((d : ℕ) → ¬ (IsDevice i d)) → device i ≡ Err (Expected (place i) want.Device)
unfolding device
device_errs i none = device_errs_by (device_of (ahead i)) i refl none

-- ---- what each piece gives

abbrev Errs : Piece → Input → ParseFault → Type 0
Errs (Piece.Term n) i fault = term n i ≡ Err fault
Errs (Piece.Parts n) i fault = (m : ℕ) (found : List Tree) → tokens_left i ≤ m → more_from (term n) m found i ≡ Err fault
Errs (Piece.Ty n) i fault = ty n i ≡ Err fault
Errs (Piece.Param n) i fault = param n i ≡ Err fault
Errs Piece.Name i fault = name i ≡ Err fault
Errs Piece.EffectLetter i fault = effect_word i ≡ Err fault
Errs Piece.SortLetter i fault = sort i ≡ Err fault
Errs Piece.DeviceNumber i fault = device i ≡ Err fault
Errs Piece.Closing i fault = closing i ≡ Err fault
Errs Piece.End i fault = finish i ≡ Err fault
Errs (Piece.Binder z) i fault = ⊥
Errs Piece.Counter i fault = ⊥

data AllErr : List Piece → Input → ParseFault → Type 0 where
  first : {piece : Piece} {pieces : List Piece} {i : Input} {fault : ParseFault} → Errs piece i fault → AllErr (piece ∷ pieces) i fault
  behind : {piece : Piece} {pieces : List Piece} {i j : Input} {fault : ParseFault} → Passes piece i j → AllErr pieces j fault → AllErr (piece ∷ pieces) i fault

-- the one piece there is
last_errs : {piece : Piece} {i : Input} {fault : ParseFault} → AllErr (piece ∷ []) i fault → Errs piece i fault
last_errs (first e) = e
last_errs (behind passes z) = elim z [ ]

-- ---- types

no_type_by : (n : ℕ) (i : Input) (next : Ahead) → ahead i ≡ next → begins_type next ≡ false → ty n i ≡ Err (Expected (place i) want.Ty)
no_type_by n i a.Opening e none = absurd (cc)
no_type_by n i (a.Reserved word) e none = ty_at n i _ e ∙ simple_errs word none
  where
    simple_errs : (word : Word) → begins_type (a.Reserved word) ≡ false → t.simple word i ≡ Err (Expected (place i) want.Ty)
    simple_errs w.UnitType none = absurd (cc)
    simple_errs w.BoolType none = absurd (cc)
    simple_errs w.IntType none = absurd (cc)
    simple_errs _ none = refl
no_type_by n i _ e none = ty_at n i _ e

deep_type_errs : (i : Input) → ahead i ≡ a.Opening → ty zero i ≡ Err (TooNested (place i))
unfolding t.nested
deep_type_errs i e = ty_at zero i _ e

no_type_form_by : (n : ℕ) (i : Input) (next : Ahead) → ahead i ≡ next → begins_type_form next ≡ false → t.compound (ty n) i ≡ Err (Expected (place i) want.Ty)
no_type_form_by n i (a.Reserved word) e none = compound_ty_at (ty n) i _ e ∙ word_errs word none
  where
    word_errs : (word : Word) → begins_type_form (a.Reserved word) ≡ false → t.compound_by_word (ty n) word i ≡ Err (Expected (place i) want.Ty)
    word_errs w.RefType none = absurd (cc)
    word_errs w.FunType none = absurd (cc)
    word_errs w.PairType none = absurd (cc)
    word_errs _ none = refl
no_type_form_by n i _ e none = compound_ty_at (ty n) i _ e

ref_type_errs : {n : ℕ} {i : Input} {fault : ParseFault} → AllErr (Piece.SortLetter ∷ Piece.Ty n ∷ Piece.Closing ∷ []) i fault → t.reference (ty n) i ≡ Err fault
unfolding t.reference
ref_type_errs (first e) = rw e refl
ref_type_errs {i = i} (behind (Passes.sort {sort = s} is) (first e)) = rw (sort_at i s is) (rw e refl)
ref_type_errs {i = i} (behind (Passes.sort {sort = s} is) (behind (Passes.type h) z)) = rw (sort_at i s is) (rw (type_reads h) (rw (last_errs z) refl))

fun_type_errs : {n : ℕ} {i : Input} {fault : ParseFault} → AllErr (Piece.EffectLetter ∷ Piece.Ty n ∷ Piece.Ty n ∷ Piece.Closing ∷ []) i fault → t.function (ty n) i ≡ Err fault
unfolding t.function
fun_type_errs (first e) = rw e refl
fun_type_errs {i = i} (behind (Passes.effect {effect = q} is) (first e)) = rw (effect_at i q is) (rw e refl)
fun_type_errs {i = i} (behind (Passes.effect {effect = q} is) (behind (Passes.type h) (first e))) = rw (effect_at i q is) (rw (type_reads h) (rw e refl))
fun_type_errs {i = i} (behind (Passes.effect {effect = q} is) (behind (Passes.type h) (behind (Passes.type h') z))) = rw (effect_at i q is) (rw (type_reads h) (rw (type_reads h') (rw (last_errs z) refl)))

pair_type_errs : {n : ℕ} {i : Input} {fault : ParseFault} → AllErr (Piece.Ty n ∷ Piece.Ty n ∷ Piece.Closing ∷ []) i fault → t.pair (ty n) i ≡ Err fault
unfolding t.pair
pair_type_errs (first e) = rw e refl
pair_type_errs (behind (Passes.type h) (first e)) = rw (type_reads h) (rw e refl)
pair_type_errs (behind (Passes.type h) (behind (Passes.type h') z)) = rw (type_reads h) (rw (type_reads h') (rw (last_errs z) refl))

type_form_errs : {n : ℕ} {i : Input} {pieces : List Piece} {fault : ParseFault} → TypeShape n i pieces → AllErr pieces (advanced i) fault → t.compound (ty n) i ≡ Err fault
type_form_errs {n} {i} (x.ref_type e) all = compound_ty_at (ty n) i _ e ∙ ref_type_errs all
type_form_errs {n} {i} (x.fun_type e) all = compound_ty_at (ty n) i _ e ∙ fun_type_errs all
type_form_errs {n} {i} (x.pair_type e) all = compound_ty_at (ty n) i _ e ∙ pair_type_errs all

-- ---- parameters

no_opening_errs_by : (n : ℕ) (i : Input) (next : Ahead) → ahead i ≡ next → ¬ (next ≡ a.Opening) → param n i ≡ Err (Expected (place i) want.Opening)
no_opening_errs_by n i a.Opening e other = absurd (other refl)
no_opening_errs_by n i next e other = param_by n i next e ∙ rest_errs next other
  where
    rest_errs : (next : Ahead) → ¬ (next ≡ a.Opening) → (opening_by n next >> param_rest (n - 1)) i ≡ Err (Expected (place i) want.Opening)
    rest_errs a.Opening other = absurd (other refl)
    rest_errs _ other = refl

deep_param_errs : (i : Input) → ahead i ≡ a.Opening → param zero i ≡ Err (TooNested (place i))
deep_param_errs i e = param_by zero i _ e

param_rest_errs : {n : ℕ} {i : Input} {fault : ParseFault} → AllErr (Piece.Name ∷ Piece.Ty n ∷ Piece.Closing ∷ []) i fault → param_rest n i ≡ Err fault
param_rest_errs (first e) = rw e refl
param_rest_errs {i = i} (behind (Passes.name is) (first e)) = rw (name_at i is) (rw e refl)
param_rest_errs {i = i} (behind (Passes.name is) (behind (Passes.type h) z)) = rw (name_at i is) (rw (type_reads h) (rw (last_errs z) refl))

-- ---- forms

module _ {n : ℕ} where
  alone_errs : {i : Input} {fault : ParseFault} (build : Tree → Tree) → AllErr (Piece.Term n ∷ Piece.Closing ∷ []) i fault → alone (term n) build i ≡ Err fault
  unfolding alone
  alone_errs build (first e) = rw e refl
  alone_errs build (behind (Passes.term h) z) = rw (term_reads h) (rw (last_errs z) refl)

  reference_errs : {i : Input} {fault : ParseFault} → AllErr (Piece.SortLetter ∷ Piece.Counter ∷ Piece.Term n ∷ Piece.Closing ∷ []) i fault → reference (term n) i ≡ Err fault
  unfolding reference numbered_sort
  reference_errs (first e) = rw e refl
  reference_errs (behind (Passes.sort is) (first e)) = absurd e
  reference_errs {i = i} (behind (Passes.sort {sort = s} is) (behind Passes.counter all)) =
      rw (sort_at i s is) (alone_errs (Tree.One (unary.Ref s (ref_number (advanced i)))) all)

  call_errs : {i : Input} {fault : ParseFault} → AllErr (Piece.DeviceNumber ∷ Piece.Term n ∷ Piece.Closing ∷ []) i fault → call (term n) i ≡ Err fault
  unfolding call
  call_errs (first e) = rw e refl
  call_errs {i = i} (behind (Passes.device {device = d} is small) all) = rw (device_at i d is small) (alone_errs (Tree.One (unary.Call d)) all)

  two_errs : {i : Input} {fault : ParseFault} (op : Binary) → AllErr (Piece.Term n ∷ Piece.Term n ∷ Piece.Closing ∷ []) i fault → two (term n) op i ≡ Err fault
  unfolding two
  two_errs op (first e) = rw e refl
  two_errs op (behind (Passes.term h) (first e)) = rw (term_reads h) (rw e refl)
  two_errs op (behind (Passes.term h) (behind (Passes.term h') z)) = rw (term_reads h) (rw (term_reads h') (rw (last_errs z) refl))

  choice_errs : {i : Input} {fault : ParseFault} → AllErr (Piece.Term n ∷ Piece.Term n ∷ Piece.Term n ∷ Piece.Closing ∷ []) i fault → choice (term n) i ≡ Err fault
  unfolding choice
  choice_errs (first e) = rw e refl
  choice_errs (behind (Passes.term h) (first e)) = rw (term_reads h) (rw e refl)
  choice_errs (behind (Passes.term h) (behind (Passes.term h') (first e))) = rw (term_reads h) (rw (term_reads h') (rw e refl))
  choice_errs (behind (Passes.term h) (behind (Passes.term h') (behind (Passes.term h'') z))) = rw (term_reads h) (rw (term_reads h') (rw (term_reads h'') (rw (last_errs z) refl)))

  binding_errs : {i : Input} {fault : ParseFault} → AllErr (Piece.Name ∷ Piece.Term n ∷ Piece.Binder (name_number i) ∷ Piece.Term n ∷ Piece.Closing ∷ []) i fault → binding (term n) i ≡ Err fault
  unfolding binding
  binding_errs (first e) = rw e refl
  binding_errs {i = i} (behind (Passes.name is) (first e)) = rw (name_at i is) (rw e refl)
  binding_errs (behind (Passes.name is) (behind (Passes.term h) (first e))) = absurd e
  binding_errs {i = i} (behind (Passes.name is) (behind (Passes.term h) (behind Passes.binder (first e)))) = rw (name_at i is) (rw (term_reads h) (rw e refl))
  binding_errs {i = i} (behind (Passes.name is) (behind (Passes.term h) (behind Passes.binder (behind (Passes.term h') z)))) =
      rw (name_at i is) (rw (term_reads h) (rw (term_reads h') (rw (last_errs z) refl)))

  function_errs : {i : Input} {fault : ParseFault} → AllErr (Piece.EffectLetter ∷ Piece.Param n ∷ Piece.Binder (name_number (advanced (advanced i))) ∷ Piece.Term n ∷ Piece.Closing ∷ []) i fault
      → function (term n) (param n) i ≡ Err fault
  unfolding function
  function_errs (first e) = rw e refl
  function_errs {i = i} (behind (Passes.effect {effect = q} is) (first e)) = rw (effect_at i q is) (rw e refl)
  function_errs (behind (Passes.effect is) (behind (Passes.param h) (first e))) = absurd e
  function_errs {i = i} (behind (Passes.effect {effect = q} is) (behind (Passes.param h) (behind Passes.binder (first e)))) =
      rw (effect_at i q is) (rw (param_reads h) (rw (param_number h) (rw e refl)))
  function_errs {i = i} (behind (Passes.effect {effect = q} is) (behind (Passes.param h) (behind Passes.binder (behind (Passes.term h') z)))) =
      rw (effect_at i q is) (rw (param_reads h) (rw (param_number h) (rw (term_reads h') (rw (last_errs z) refl))))

  recursive_errs : {i : Input} {fault : ParseFault}
      → AllErr (Piece.EffectLetter ∷ Piece.Name ∷ Piece.Param n ∷ Piece.Ty n ∷ Piece.Binder (name_number (advanced i)) ∷ Piece.Binder (name_number (advanced (named (advanced i)))) ∷ Piece.Term n ∷ Piece.Closing ∷ []) i fault
      → recursive (term n) (param n) (ty n) i ≡ Err fault
  unfolding recursive
  recursive_errs (first e) = rw e refl
  recursive_errs {i = i} (behind (Passes.effect {effect = q} is) (first e)) = rw (effect_at i q is) (rw e refl)
  recursive_errs {i = i} (behind (Passes.effect {effect = q} is) (behind (Passes.name is') (first e))) = rw (effect_at i q is) (rw (name_at (advanced i) is') (rw e refl))
  recursive_errs {i = i} (behind (Passes.effect {effect = q} is) (behind (Passes.name is') (behind (Passes.param h) (first e)))) =
      rw (effect_at i q is) (rw (name_at (advanced i) is') (rw (param_reads h) (rw e refl)))
  recursive_errs (behind (Passes.effect is) (behind (Passes.name is') (behind (Passes.param h) (behind (Passes.type h') (first e))))) = absurd e
  recursive_errs (behind (Passes.effect is) (behind (Passes.name is') (behind (Passes.param h) (behind (Passes.type h') (behind Passes.binder (first e)))))) = absurd e
  recursive_errs {i = i} (behind (Passes.effect {effect = q} is) (behind (Passes.name is') (behind (Passes.param h) (behind (Passes.type h') (behind Passes.binder (behind Passes.binder (first e))))))) =
      rw (effect_at i q is) (rw (name_at (advanced i) is') (rw (param_reads h) (rw (type_reads h') (rw (param_number h) (rw e refl)))))
  recursive_errs {i = i}
      (behind (Passes.effect {effect = q} is) (behind (Passes.name is') (behind (Passes.param h) (behind (Passes.type h') (behind Passes.binder (behind Passes.binder (behind (Passes.term h'') z))))))) =
      rw (effect_at i q is) (rw (name_at (advanced i) is') (rw (param_reads h) (rw (type_reads h') (rw (param_number h) (rw (term_reads h'') (rw (last_errs z) refl))))))

  sequence_errs : {i : Input} {fault : ParseFault} → AllErr (Piece.Term n ∷ Piece.Term n ∷ Piece.Parts n ∷ []) i fault → sequence (term n) i ≡ Err fault
  unfolding sequence first_two more
  sequence_errs (first e) = rw e refl
  sequence_errs (behind (Passes.term h) (first e)) = rw (term_reads h) (rw e refl)
  sequence_errs (behind (Passes.term h) (behind (Passes.term {j = k} h') z)) = rw (term_reads h) (rw (term_reads h') (rw (last_errs z (tokens_left k) _ (omega arith)) refl))

  form_errs : {i : Input} {pieces : List Piece} {fault : ParseFault} → Shape n i pieces → AllErr pieces (advanced i) fault → compound (term n) (param n) (ty n) i ≡ Err fault
  unfolding opener_of
  form_errs {i = i} (Shape.function e) all = compound_at _ _ _ i _ e ∙ function_errs all
  form_errs {i = i} (Shape.recursive e) all = compound_at _ _ _ i _ e ∙ recursive_errs all
  form_errs {i = i} (Shape.binding e) all = compound_at _ _ _ i _ e ∙ binding_errs all
  form_errs {i = i} (Shape.sequence e) all = compound_at _ _ _ i _ e ∙ sequence_errs all
  form_errs {i = i} (Shape.choice e) all = compound_at _ _ _ i _ e ∙ choice_errs all
  form_errs {i = i} (Shape.one {op = o} e is) all = compound_at _ _ _ i _ e ∙ unary_at (term n) (param n) (ty n) i is ∙ alone_errs (Tree.One o) all
  form_errs {i = i} (Shape.ref e) all = compound_at _ _ _ i _ e ∙ reference_errs all
  form_errs {i = i} (Shape.call e) all = compound_at _ _ _ i _ e ∙ call_errs all
  form_errs {i = i} (Shape.two {op = o} e is) all = compound_at _ _ _ i _ e ∙ binary_at (term n) (param n) (ty n) i is ∙ two_errs o all
  form_errs {i = i} (Shape.async e) all = compound_at _ _ _ i _ e ∙ alone_errs Tree.Async all
  form_errs {i = i} (Shape.unprotected e) all = compound_at _ _ _ i _ e ∙ alone_errs Tree.Unprotected all

-- ---- what begins no form

no_word : (word : Word) → begins_form (a.Reserved word) ≡ false → opener_of_word word ≡ None
no_word w.Unit none = refl
no_word w.True none = refl
no_word w.False none = refl
no_word w.Yield none = refl
no_word w.UnitType none = refl
no_word w.BoolType none = refl
no_word w.IntType none = refl
no_word w.RefType none = refl
no_word w.FunType none = refl
no_word w.PairType none = refl
no_word _ none = absurd (cc)

no_op : (o : Option Op) → is_some o ≡ false → o ≡ None
no_op None none = refl
no_op (Some o) none = absurd (cc)

no_opener : (next : Ahead) → begins_form next ≡ false → opener_of next ≡ None
unfolding opener_of
no_opener (a.Reserved word) none = no_word word none
no_opener (a.Symbol s) none = ap (option_map (λ o. opener.Two (binary.Bin o))) (no_op (operator_of s) none)
no_opener _ none = refl

no_form_errs : (n : ℕ) (i : Input) → begins_form (ahead i) ≡ false → compound (term n) (param n) (ty n) i ≡ Err (Expected (place i) want.Form)
no_form_errs n i none = compound_at _ _ _ i _ refl ∙ ap (λ z. form_by (term n) (param n) (ty n) z i) (no_opener (ahead i) none)

-- ---- terms

constant_errs : (word : Word) (i : Input) → is_term_word word ≡ false → constant word i ≡ Err (Expected (place i) want.Term)
unfolding constant
constant_errs w.Unit i none = absurd (cc)
constant_errs w.True i none = absurd (cc)
constant_errs w.False i none = absurd (cc)
constant_errs w.Yield i none = absurd (cc)
constant_errs _ i none = refl

no_term_by : (n : ℕ) (i : Input) (next : Ahead) → ahead i ≡ next → begins_term next ≡ false → term n i ≡ Err (Expected (place i) want.Term)
no_term_by n i (a.Number value) e none = absurd (cc)
no_term_by n i a.Name e none = absurd (cc)
no_term_by n i a.Opening e none = absurd (cc)
no_term_by n i (a.Reserved word) e none = term_at n i _ e ∙ atom_at i _ e ∙ constant_errs word (marked i) none ∙ ap (λ p. Err (Expected p want.Term)) (place_marked i)
no_term_by n i _ e none = term_at n i _ e ∙ atom_at i _ e ∙ ap (λ p. Err (Expected p want.Term)) (place_marked i)

bound_marked : (i : Input) → binds_name (name_number (marked i)) (named (marked i)) ≡ binds_name (name_number i) i
unfolding binds_name name_number named marked spelling
bound_marked i = refl

unknown_errs : (n : ℕ) (i : Input) → ahead i ≡ a.Name → binds_name (name_number i) i ≡ false → term n i ≡ Err (UnknownName (place i))
unknown_errs n i e unknown = term_at n i _ e ∙ atom_at i _ e ∙ variable_at i e ∙ ap (tested i) (bound_marked i ∙ unknown) ∙ ap (λ p. Err (UnknownName p)) (place_marked i)

deep_term_errs : (i : Input) → ahead i ≡ a.Opening → term zero i ≡ Err (TooNested (place i))
unfolding nested place marked
deep_term_errs i e = term_at zero i _ e

form_at : (n : ℕ) (i : Input) → ahead i ≡ a.Opening → term (suc n) i ≡ compound (term n) (param n) (ty n) (advanced (marked i))
form_at n i e = term_at (suc n) i _ e ∙ nested_at n (marked i)

same_place : (i : Input) → place (advanced (marked i)) ≡ place (advanced i)
unfolding place advanced marked
same_place i = refl

same_ahead : (i : Input) → ahead (advanced (marked i)) ≡ ahead (advanced i)
unfolding ahead advanced marked
same_ahead i = refl

type_at : (n : ℕ) (i : Input) → ahead i ≡ a.Opening → ty (suc n) i ≡ t.compound (ty n) (advanced i)
type_at n i e = ty_at (suc n) i _ e ∙ nested_ty_at n i

not_closing : (next : Ahead) → ¬ (next ≡ a.Closing) → is_closing next ≡ false
not_closing a.Closing other = absurd (other refl)
not_closing _ other = refl

parts_errs : {n : ℕ} {i : Input} {fault : ParseFault} → ¬ (ahead i ≡ a.Closing) → AllErr (Piece.Term n ∷ Piece.Parts n ∷ []) i fault → (m : ℕ) (found : List Tree) → tokens_left i ≤ m
    → more_from (term n) m found i ≡ Err fault
parts_errs {n} {i} {fault} other (first e) zero found few =
    let h = sym (no_term_at_end n i (none_left i few)) ∙ e in
    let same : Expected (place i) want.Term ≡ fault = cc in no_turns (term n) found i ∙ ap Err same
parts_errs {n} {i} other (first e) (suc m) found few = more_stops (term n) m found i _ (not_closing (ahead i) other) e
parts_errs {n} {i} other (behind (Passes.term h) z) zero found few = absurd (omega (arith, term_takes h, few))
parts_errs {n} {i} other (behind (Passes.term {j = j} h) z) (suc m) found few =
    more_goes_on (term n) m found i j _ (not_closing (ahead i) other) (term_reads h) ∙ last_errs z m _ (omega (arith, term_takes h, few))

mutual
  errs : {piece : Piece} {i : Input} {fault : ParseFault} → Fails piece i fault → Errs piece i fault
  errs (x.no_term {n = n} {i = i} none) = no_term_by n i (ahead i) refl none
  errs (x.unknown_name {n = n} {i = i} e unknown) = unknown_errs n i e unknown
  errs (x.deep_term {i = i} e) = deep_term_errs i e
  errs (x.no_form {n = n} {i = i} e none) =
      form_at n i e ∙ no_form_errs n (advanced (marked i)) (ap begins_form (same_ahead i) ∙ none) ∙ ap (λ p. Err (Expected p want.Form)) (same_place i)
  errs (x.in_form {n = n} {i = i} e shape fails) = form_at n i e ∙ form_errs shape (all_errs fails)
  errs (x.in_parts other fails) = parts_errs other (all_errs fails)
  errs (x.no_type {n = n} {i = i} none) = no_type_by n i (ahead i) refl none
  errs (x.deep_type {i = i} e) = deep_type_errs i e
  errs (x.no_type_form {n = n} {i = i} e none) = type_at n i e ∙ no_type_form_by n (advanced i) (ahead (advanced i)) refl none
  errs (x.in_type {n = n} {i = i} e shape fails) = type_at n i e ∙ type_form_errs shape (all_errs fails)
  errs (x.no_opening {n = n} {i = i} other) = no_opening_errs_by n i (ahead i) refl other
  errs (x.deep_param {i = i} e) = deep_param_errs i e
  errs (x.in_param {n = n} {i = i} e fails) = param_open n i e ∙ param_rest_errs (all_errs fails)
  errs (x.no_name {i = i} other) = name_errs i other
  errs (x.no_effect {i = i} none) = effect_errs i none
  errs (x.no_sort {i = i} none) = sort_errs i none
  errs (x.no_device {i = i} none) = device_errs i (λ d is. none d is.stands is.below)
  errs (x.no_closing {i = i} other) = closing_errs i other
  errs (x.trailing {i = i} other) = finish_errs i other

  all_errs : {pieces : List Piece} {i : Input} {fault : ParseFault} → AreFailing pieces i fault → AllErr pieces i fault
  all_errs (x.here fails) = first (errs fails)
  all_errs (x.later passes fails) = behind passes (all_errs fails)

program_errs : {i : Input} {fault : ParseFault} → AllErr (Piece.Term max_open ∷ Piece.End ∷ []) i fault → program i ≡ Err fault
unfolding program
program_errs (first e) = rw e refl
program_errs (behind (Passes.term h) z) = rw (term_reads h) (rw (last_errs z) refl)

-- an error that the table gives a text is the one that is read
pub expected_is_read : (text : Text) (fault : ParseFault) → LexesAsRead text → Faults text fault → reading text ≡ Err (ReadingFault.Syntactic fault)
unfolding reading
expected_is_read text fault lexes (x.faulty {tokens = tokens} lexed fails) =
    ap (reading_by text) ((lexes _).0 lexed) ∙ ap source_by (program_errs (all_errs fails))
