-- Each fault that is read has its row among what is expected.
use Rattle.std.proofs.Common.{◌≡◌, ℕ, zero, suc, ◌-◌, ◌<◌, ◌≤◌, ◌==◌, refl, sym, ap, subst, ◌∙◌, Bool, true, false, cond, ◌||◌, List, [], ◌∷◌, ◌++◌, Option, Some, None, Ok, Err, arith}
use Rattle.std.specs.Prelude.{is_some}
use Rattle.std.specs.Option.{option_map}
use Rattle.ame_term.specs.declared.types.Sort.{Sort}
use Rattle.ame_term.specs.declared.types.Effect.{Effect}
use Rattle.ame_term.specs.declared.types.Op.{Op}
use Rattle.ame_term.specs.declared.types.Unary.TheVariants as unary
use Rattle.ame_term.specs.declared.types.Binary.{Binary}
use Rattle.ame_term.specs.declared.types.Binary.TheVariants as binary
use Rattle.ame_term.specs.Operators.{operator_of}
use Rattle.ame_term.specs.Tree.{Typ, Tree}
use Rattle.ame_parse.specs.declared.words.Word.{Word}
use Rattle.ame_parse.specs.declared.words.Word.TheVariants as w
use Rattle.ame_parse.specs.declared.ahead.Ahead.{Ahead}
use Rattle.ame_parse.specs.declared.ahead.Ahead.TheVariants as a
use Rattle.ame_parse.specs.declared.fault.Want.TheVariants as want
use Rattle.ame_parse.specs.declared.fault.ParseFault.{ParseFault}
use Rattle.ame_parse.specs.declared.fault.ParseFault.TheVariants.{Expected, UnknownName, TooNested, Trailing}
use Rattle.ame_parse.specs.declared.forms.Opener.TheVariants as opener
use Rattle.ame_parse.specs.Input.{Input, ParseOutcome, Parser, and_then, ◌>>=◌, ◌>>◌, pure, ahead, spelling, place, advanced, marked, name_number, named, binds_name, bound, ref_number, ref_counted, tokens_left, is_closing, sees_closing, closing_by, closing, name_by, name, opening_by, opening, bind_name, unbind, finish_by, finish}
use Rattle.ame_parse.specs.Letters.{sort_of, effect_named, device_of, sort_by, effect_by, device_by, sort, numbered_sort, effect_word, device}
use Rattle.ame_parse.specs.Types as t
use Rattle.ame_parse.specs.Types.{ty, param}
use Rattle.ame_parse.specs.Forms.{opener_of, row}
use Rattle.ame_parse.specs.Reading.{alone, two, choice, binding, more_from, more, first_two, sequence, reference, call, function, recursive, form_by, variable, yielding, constant, atom_by, atom, term_by, nested, term, max_open, program}
use Rattle.ame_parse.specs.Grammar as g
use Rattle.ame_parse.specs.Grammar.{IsSort, IsEffect, IsParam, IsTerm, AreParts}
use Rattle.ame_parse.specs.Expected as x
use Rattle.ame_parse.specs.Expected.{Piece, Passes, Shape, Fails, AreFailing, Faults, begins_term, begins_form, begins_type, begins_type_form}
use Rattle.ame_parse.proofs.Steps.{leads_pure}
use Rattle.ame_parse.proofs.LetterSteps.{leads_sort, leads_effect, leads_device, IsDevice, op_is}
use Rattle.ame_parse.proofs.TypeSoundness.{ty_leads, param_leads}
use Rattle.ame_parse.proofs.Soundness.{term_leads, more_leads}
use Rattle.ame_parse.proofs.Completeness.{term_takes, closing_at, ahead_marked, sort_at, effect_at, device_at, opening_at, ty_at, nested_ty_at, compound_ty_at, one_from, term_at, atom_at, nested_at, compound_at, name_at}
use Rattle.ame_parse.proofs.LocalTerms.{none_left}
use Rattle.ame_parse.proofs.FirstFault.{fault_of_tokens}
use Rattle.ame_parse.proofs.Whole.{LexesAsRead}
use Rattle.ame_parse.specs.Seen.{start_of}
use Rattle.ame_parse.specs.Text.{ReadingFault, reading_by, reading}
use Rattle.ame_lex.specs.Bytes.{Text}
use Rattle.ame_lex.specs.Reading.{LexOutcome, tokens_of}
use Rattle.ame_lex.specs.declared.tokens.LexFault.{LexFault}

-- whatever fault the parser has from here has the property
abbrev pub Stops : {A : Type 0} → Parser A → Input → (ParseFault → Type 0) → Type 0
Stops p i F = (fault : ParseFault) → p i ≡ Err fault → F fault

stops_by : {A B : Type 0} (o : ParseOutcome A) (f : A → Parser B) (F : ParseFault → Type 0) (fault : ParseFault) → ((found : ParseFault) → o ≡ Err found → F found)
    → ((y : A) (j : Input) → o ≡ Ok (y, j) → Stops (f y) j F) → and_then o f ≡ Err fault → F fault
stops_by (Ok p) f F fault h next e = next p.0 p.1 refl fault e
stops_by (Err found) f F fault h next e = let same : found ≡ fault = cc in subst F same (h found refl)

-- a piece, and the reading after it
step : {A B : Type 0} (piece : Piece) (pieces : List Piece) (p : Parser A) (f : A → Parser B) (i : Input) → Stops p i (Fails piece i)
    → ((y : A) (j : Input) → p i ≡ Ok (y, j) → Passes piece i j × Stops (f y) j (AreFailing pieces j)) → Stops (p >>= f) i (AreFailing (piece ∷ pieces) i)
step piece pieces p f i h next fault e =
    stops_by (p i) f (AreFailing (piece ∷ pieces) i) fault (λ found e'. x.here (h found e'))
    (λ y j e'. let s = next y j e' in λ found e''. x.later s.0 (s.1 found e'')) e

-- ---- the last parenthesis of a form

shut_by : {A : Type 0} (next : Ahead) (q : Parser A) (i : Input) → ahead i ≡ next → ((fault : ParseFault) → q (advanced i) ≡ Err fault → ⊥)
    → Stops (closing_by next >> q) i (AreFailing (Piece.Closing ∷ []) i)
shut_by a.Closing q i e ends fault read = absurd (ends fault read)
shut_by _ q i e ends fault read = let same : Expected (place i) want.Closing ≡ fault = cc in x.here (subst (Fails Piece.Closing i) same (x.no_closing (λ is. cc)))

shut : {A : Type 0} (q : Parser A) (i : Input) → ((fault : ParseFault) → q (advanced i) ≡ Err fault → ⊥) → Stops (closing >> q) i (AreFailing (Piece.Closing ∷ []) i)
unfolding closing
shut q i ends = shut_by (ahead i) q i refl ends

unbinding : {A : Type 0} (y : A) (i : Input) → Stops (closing >> (unbind >> pure y)) i (AreFailing (Piece.Closing ∷ []) i)
unbinding y i = shut (unbind >> pure y) i (λ fault e. cc)

unbinding_twice : {A : Type 0} (y : A) (i : Input) → Stops (closing >> (unbind >> (unbind >> pure y))) i (AreFailing (Piece.Closing ∷ []) i)
unbinding_twice y i = shut (unbind >> (unbind >> pure y)) i (λ fault e. cc)

shut_pure : {A : Type 0} (y : A) (i : Input) → Stops (closing >> pure y) i (AreFailing (Piece.Closing ∷ []) i)
shut_pure y i = shut (pure y) i (λ fault e. cc)

-- ---- names, sorts, effects and device numbers

pub sort_is : (i : Input) (s : Sort) → sort i ≡ Ok (s, advanced i) → IsSort i s
sort_is i s e = leads_sort (λ z. pure z) (λ z j. IsSort i z) i (λ z is. leads_pure z (advanced i) (λ z j. IsSort i z) is) s (advanced i) (ap (λ o. and_then o (λ z. pure z)) e)

pub effect_is : (i : Input) (q : Effect) → effect_word i ≡ Ok (q, advanced i) → IsEffect i q
effect_is i q e = leads_effect (λ z. pure z) (λ z j. IsEffect i z) i (λ z is. leads_pure z (advanced i) (λ z j. IsEffect i z) is) q (advanced i) (ap (λ o. and_then o (λ z. pure z)) e)

pub device_is : (i : Input) (d : ℕ) → device i ≡ Ok (d, advanced i) → IsDevice i d
device_is i d e = leads_device (λ z. pure z) (λ z j. IsDevice i z) i (λ z is. leads_pure z (advanced i) (λ z j. IsDevice i z) is) d (advanced i) (ap (λ o. and_then o (λ z. pure z)) e)

module _ {B : Type 0} (pieces : List Piece) where
  on_name_by : (f : ℕ → Parser B) (next : Ahead) (i : Input) → ahead i ≡ next → (ahead i ≡ a.Name → Stops (f (name_number i)) (named i) (AreFailing pieces (named i)))
      → Stops (name_by next >>= f) i (AreFailing (Piece.Name ∷ pieces) i)
  on_name_by f a.Name i e more fault read = x.later (x.name e) (more e fault read)
  on_name_by f _ i e more fault read = let same : Expected (place i) want.Name ≡ fault = cc in x.here (subst (Fails Piece.Name i) same (x.no_name (λ is. cc)))

  on_name : (f : ℕ → Parser B) (i : Input) → (ahead i ≡ a.Name → Stops (f (name_number i)) (named i) (AreFailing pieces (named i)))
      → Stops (name >>= f) i (AreFailing (Piece.Name ∷ pieces) i)
  unfolding name
  on_name f i more = on_name_by f (ahead i) i refl more

  on_sort_by : (f : Sort → Parser B) (found : Option Sort) (i : Input) → sort i ≡ sort_by found i → ((s : Sort) → Stops (f s) (advanced i) (AreFailing pieces (advanced i)))
      → Stops (sort_by found >>= f) i (AreFailing (Piece.SortLetter ∷ pieces) i)
  on_sort_by f (Some s) i e more fault read = x.later (Passes.sort (sort_is i s e)) (more s fault read)
  on_sort_by f None i e more fault read =
      let same : Expected (place i) want.Sort ≡ fault = cc in x.here (subst (Fails Piece.SortLetter i) same (x.no_sort (λ s is. let h = sort_at i s is in cc)))

  on_sort : (f : Sort → Parser B) (i : Input) → ((s : Sort) → Stops (f s) (advanced i) (AreFailing pieces (advanced i))) → Stops (sort >>= f) i (AreFailing (Piece.SortLetter ∷ pieces) i)
  unfolding sort
  on_sort f i more = on_sort_by f (sort_of (spelling i)) i refl more

  on_effect_by : (f : Effect → Parser B) (found : Option Effect) (i : Input) → effect_word i ≡ effect_by found i
      → ((q : Effect) → Stops (f q) (advanced i) (AreFailing pieces (advanced i))) → Stops (effect_by found >>= f) i (AreFailing (Piece.EffectLetter ∷ pieces) i)
  on_effect_by f (Some q) i e more fault read = x.later (Passes.effect (effect_is i q e)) (more q fault read)
  on_effect_by f None i e more fault read =
      let same : Expected (place i) want.Effect ≡ fault = cc in x.here (subst (Fails Piece.EffectLetter i) same (x.no_effect (λ q is. let h = effect_at i q is in cc)))

  on_effect : (f : Effect → Parser B) (i : Input) → ((q : Effect) → Stops (f q) (advanced i) (AreFailing pieces (advanced i)))
      → Stops (effect_word >>= f) i (AreFailing (Piece.EffectLetter ∷ pieces) i)
  unfolding effect_word
  on_effect f i more = on_effect_by f (effect_named (spelling i)) i refl more

  on_device_by : (f : ℕ → Parser B) (found : Option ℕ) (i : Input) → device i ≡ device_by found i → ((d : ℕ) → Stops (f d) (advanced i) (AreFailing pieces (advanced i)))
      → Stops (device_by found >>= f) i (AreFailing (Piece.DeviceNumber ∷ pieces) i)
  on_device_by f (Some d) i e more fault read = let is = device_is i d e in x.later (Passes.device is.stands is.below) (more d fault read)
  on_device_by f None i e more fault read =
      let same : Expected (place i) want.Device ≡ fault = cc in x.here (subst (Fails Piece.DeviceNumber i) same (x.no_device (λ d is small. let h = device_at i d is small in cc)))

  on_device : (f : ℕ → Parser B) (i : Input) → ((d : ℕ) → Stops (f d) (advanced i) (AreFailing pieces (advanced i))) → Stops (device >>= f) i (AreFailing (Piece.DeviceNumber ∷ pieces) i)
  unfolding device
  on_device f i more = on_device_by f (device_of (ahead i)) i refl more

-- ---- types

module _ (n : ℕ) (stops : (i : Input) → Stops (ty n) i (Fails (Piece.Ty n) i)) where
  on_type : {B : Type 0} (pieces : List Piece) (f : Typ → Parser B) (i : Input) → ((y : Typ) (j : Input) → Stops (f y) j (AreFailing pieces j))
      → Stops (ty n >>= f) i (AreFailing (Piece.Ty n ∷ pieces) i)
  on_type pieces f i more = step (Piece.Ty n) pieces (ty n) f i (stops i) (λ y j e. (Passes.type (ty_leads n i y j e), more y j))

  ref_type_stops : (i : Input) → Stops (t.reference (ty n)) i (AreFailing (Piece.SortLetter ∷ Piece.Ty n ∷ Piece.Closing ∷ []) i)
  unfolding t.reference
  ref_type_stops i = on_sort _ _ i (λ s. on_type _ _ (advanced i) (λ y j. shut_pure (Typ.Ref s y) j))

  fun_type_stops : (i : Input) → Stops (t.function (ty n)) i (AreFailing (Piece.EffectLetter ∷ Piece.Ty n ∷ Piece.Ty n ∷ Piece.Closing ∷ []) i)
  unfolding t.function
  fun_type_stops i = on_effect _ _ i (λ q. on_type _ _ (advanced i) (λ y j. on_type _ _ j (λ z k. shut_pure (Typ.Fun q y z) k)))

  pair_type_stops : (i : Input) → Stops (t.pair (ty n)) i (AreFailing (Piece.Ty n ∷ Piece.Ty n ∷ Piece.Closing ∷ []) i)
  unfolding t.pair
  pair_type_stops i = on_type _ _ i (λ y j. on_type _ _ j (λ z k. shut_pure (Typ.Pair y z) k))

  no_type_form_at : (i : Input) → ahead i ≡ a.Opening → begins_type_form (ahead (advanced i)) ≡ false → (fault : ParseFault) → Expected (place (advanced i)) want.Ty ≡ fault
      → Fails (Piece.Ty (suc n)) i fault
  no_type_form_at i e none fault same = subst (Fails (Piece.Ty (suc n)) i) same (x.no_type_form e none)

  type_word_stops : (i : Input) → ahead i ≡ a.Opening → (word : Word) → ahead (advanced i) ≡ a.Reserved word → Stops (t.compound_by_word (ty n) word) (advanced i) (Fails (Piece.Ty (suc n)) i)
  type_word_stops i e w.RefType is fault read = x.in_type e (x.ref_type is) (ref_type_stops (advanced (advanced i)) fault read)
  type_word_stops i e w.FunType is fault read = x.in_type e (x.fun_type is) (fun_type_stops (advanced (advanced i)) fault read)
  type_word_stops i e w.PairType is fault read = x.in_type e (x.pair_type is) (pair_type_stops (advanced (advanced i)) fault read)
  type_word_stops i e _ is fault read = no_type_form_at i e (ap begins_type_form is) fault (cc)

  type_form_stops : (i : Input) → ahead i ≡ a.Opening → (next : Ahead) → ahead (advanced i) ≡ next → Stops (t.compound_by (ty n) next) (advanced i) (Fails (Piece.Ty (suc n)) i)
  type_form_stops i e (a.Reserved word) is = type_word_stops i e word is
  type_form_stops i e _ is = λ fault read. no_type_form_at i e (ap begins_type_form is) fault (cc)

no_type_at : (n : ℕ) (i : Input) → begins_type (ahead i) ≡ false → (fault : ParseFault) → Expected (place i) want.Ty ≡ fault → Fails (Piece.Ty n) i fault
no_type_at n i none fault same = subst (Fails (Piece.Ty n) i) same (x.no_type none)

simple_stops : (n : ℕ) (i : Input) (word : Word) → ahead i ≡ a.Reserved word → Stops (t.simple word) i (Fails (Piece.Ty n) i)
simple_stops n i w.UnitType e fault read = absurd (cc)
simple_stops n i w.BoolType e fault read = absurd (cc)
simple_stops n i w.IntType e fault read = absurd (cc)
simple_stops n i _ e fault read = no_type_at n i (ap begins_type e) fault (cc)

abbrev TypeStops : ℕ → Type 0
TypeStops n = (i : Input) → ahead i ≡ a.Opening → Stops (t.nested n) i (Fails (Piece.Ty n) i)

ty_stops_by : (n : ℕ) → TypeStops n → (i : Input) (next : Ahead) → ahead i ≡ next → Stops (t.ty_by (t.nested n) next) i (Fails (Piece.Ty n) i)
ty_stops_by n forms i a.Opening e = forms i e
ty_stops_by n forms i (a.Reserved word) e = simple_stops n i word e
ty_stops_by n forms i _ e = λ fault read. no_type_at n i (ap begins_type e) fault (cc)

ty_stops_of : (n : ℕ) → TypeStops n → (i : Input) → Stops (ty n) i (Fails (Piece.Ty n) i)
ty_stops_of n forms i fault read = ty_stops_by n forms i (ahead i) refl fault (sym (ty_at n i (ahead i) refl) ∙ read)

nested_type_stops : (n : ℕ) → TypeStops n
unfolding t.nested
nested_type_stops zero i e fault read = let same : TooNested (place i) ≡ fault = cc in subst (Fails (Piece.Ty zero) i) same (x.deep_type e)
nested_type_stops (suc n) i e fault read =
    type_form_stops n (ty_stops_of n (nested_type_stops n)) i e (ahead (advanced i)) refl fault
    (sym (nested_ty_at n i ∙ compound_ty_at (ty n) (advanced i) (ahead (advanced i)) refl) ∙ read)

ty_stops : (n : ℕ) (i : Input) → Stops (ty n) i (Fails (Piece.Ty n) i)
ty_stops n = ty_stops_of n (nested_type_stops n)

-- ---- parameters

abbrev pub param_rest : ℕ → Parser (ℕ × Typ)
param_rest n = name >>= (λ y. ty n >>= (λ type. closing >> pure (y, type)))

pub param_by : (n : ℕ) (i : Input) (next : Ahead) → ahead i ≡ next → param n i ≡ (opening_by n next >> param_rest (n - 1)) i
unfolding param opening
param_by n i next e = ap (λ z. and_then (opening_by n z i) (λ _. param_rest (n - 1))) e

pub param_open : (n : ℕ) (i : Input) → ahead i ≡ a.Opening → param (suc n) i ≡ param_rest n (advanced i)
unfolding param
param_open n i e = rw (opening_at n i e) (rw (one_from n) refl)

param_stops_by : (n : ℕ) (i : Input) (next : Ahead) → ahead i ≡ next → Stops (param n) i (Fails (Piece.Param n) i)
param_stops_by zero i a.Opening e fault read =
    let h = sym (param_by zero i a.Opening e) ∙ read in
    let same : TooNested (place i) ≡ fault = cc in subst (Fails (Piece.Param zero) i) same (x.deep_param e)
param_stops_by (suc n) i a.Opening e fault read =
    x.in_param e (on_name _ _ (advanced i) (λ e'. on_type n (ty_stops n) _ _ (named (advanced i)) (λ y j. shut_pure _ j)) fault (sym (param_open n i e) ∙ read))
param_stops_by n i next e fault read =
    let h = sym (param_by n i next e) ∙ read in
    no_opening_at n i next e (λ is. cc) fault h
  where
    no_opening_at : (n : ℕ) (i : Input) (next : Ahead) → ahead i ≡ next → ¬ (ahead i ≡ a.Opening) → (fault : ParseFault) → (opening_by n next >> param_rest (n - 1)) i ≡ Err fault
        → Fails (Piece.Param n) i fault
    no_opening_at n i a.Opening e other fault h = absurd (other e)
    no_opening_at n i _ e other fault h = let same : Expected (place i) want.Opening ≡ fault = cc in subst (Fails (Piece.Param n) i) same (x.no_opening other)

param_stops : (n : ℕ) (i : Input) → Stops (param n) i (Fails (Piece.Param n) i)
param_stops n i = param_stops_by n i (ahead i) refl

pub param_number : {n : ℕ} {i j : Input} {y : ℕ} {type : Typ} → IsParam n i y type j → y ≡ name_number (advanced i)
param_number (g.param e e' h closes) = refl

on_param : {B : Type 0} (n : ℕ) (pieces : List Piece) (f : ℕ × Typ → Parser B) (i : Input)
    → ((p : ℕ × Typ) (j : Input) → p.0 ≡ name_number (advanced i) → Stops (f p) j (AreFailing pieces j)) → Stops (param n >>= f) i (AreFailing (Piece.Param n ∷ pieces) i)
on_param n pieces f i more = step (Piece.Param n) pieces (param n) f i (param_stops n i) (λ p j e. let h = param_leads n i p j e in (Passes.param h, more p j (param_number h)))

-- a name is bound, which is the one that is expected to be
on_binder : {B : Type 0} (pieces : List Piece) (y z : ℕ) (q : Parser B) (i : Input) → y ≡ z → Stops q (bound y i) (AreFailing pieces (bound y i))
    → Stops (bind_name y >> q) i (AreFailing (Piece.Binder z ∷ pieces) i)
on_binder pieces y z q i same h fault read = subst (λ k. AreFailing (Piece.Binder k ∷ pieces) i fault) same (x.later x.binder (h fault read))

-- ---- forms

assoc : {A B C : Type 0} (o : ParseOutcome A) (f : A → Parser B) (h : B → Parser C) → and_then (and_then o f) h ≡ and_then o (λ y. f y >>= h)
assoc (Ok p) f h = refl
assoc (Err fault) f h = refl

parts_end : {n : ℕ} {i k : Input} {others : List Tree} → AreParts n i others k → ahead k ≡ a.Closing
parts_end (g.none e) = e
parts_end (g.more h others) = parts_end others

module _ (n : ℕ) (stops : (i : Input) → Stops (term n) i (Fails (Piece.Term n) i)) where
  on_term : {B : Type 0} (pieces : List Piece) (f : Tree → Parser B) (i : Input) → ((y : Tree) (j : Input) → IsTerm n i y j → Stops (f y) j (AreFailing pieces j))
      → Stops (term n >>= f) i (AreFailing (Piece.Term n ∷ pieces) i)
  on_term pieces f i more = step (Piece.Term n) pieces (term n) f i (stops i) (λ y j e. let h = term_leads n i y j e in (Passes.term h, more y j h))

  abbrev Last : List Piece
  Last = Piece.Term n ∷ Piece.Closing ∷ []

  alone_stops : (build : Tree → Tree) (i : Input) → Stops (alone (term n) build) i (AreFailing Last i)
  unfolding alone
  alone_stops build i = on_term _ _ i (λ y j h. shut_pure (build y) j)

  reference_stops : (i : Input) → Stops (reference (term n)) i (AreFailing (Piece.SortLetter ∷ Piece.Counter ∷ Last) i)
  unfolding reference numbered_sort
  reference_stops i fault read =
      on_sort _ (λ s j. alone (term n) (Tree.One (unary.Ref s (ref_number j))) (ref_counted j)) i
      (λ s found e. x.later x.counter (alone_stops (Tree.One (unary.Ref s (ref_number (advanced i)))) (ref_counted (advanced i)) found e))
      fault (sym (assoc (sort i) _ _) ∙ read)

  call_stops : (i : Input) → Stops (call (term n)) i (AreFailing (Piece.DeviceNumber ∷ Last) i)
  unfolding call
  call_stops i = on_device _ _ i (λ d. alone_stops (Tree.One (unary.Call d)) (advanced i))

  two_stops : (op : Binary) (i : Input) → Stops (two (term n) op) i (AreFailing (Piece.Term n ∷ Last) i)
  unfolding two
  two_stops op i = on_term _ _ i (λ y j h. on_term _ _ j (λ z k h'. shut_pure (Tree.Two op y z) k))

  choice_stops : (i : Input) → Stops (choice (term n)) i (AreFailing (Piece.Term n ∷ Piece.Term n ∷ Last) i)
  unfolding choice
  choice_stops i = on_term _ _ i (λ y j h. on_term _ _ j (λ z k h'. on_term _ _ k (λ u l h''. shut_pure (Tree.If y z u) l)))

  -- the body of a form that binds names
  body_of : (Tree → Tree) → Parser Tree
  body_of build = term n >>= (λ body. closing >> (unbind >> pure (build body)))

  body_stops : (build : Tree → Tree) (i : Input) → Stops (body_of build) i (AreFailing Last i)
  unfolding body_of
  body_stops build i = on_term (Piece.Closing ∷ []) (λ body. closing >> (unbind >> pure (build body))) i (λ body k h. unbinding (build body) k)

  inner_body_of : (Tree → Tree) → Parser Tree
  inner_body_of build = term n >>= (λ body. closing >> (unbind >> (unbind >> pure (build body))))

  inner_body_stops : (build : Tree → Tree) (i : Input) → Stops (inner_body_of build) i (AreFailing Last i)
  unfolding inner_body_of
  inner_body_stops build i = on_term (Piece.Closing ∷ []) (λ body. closing >> (unbind >> (unbind >> pure (build body)))) i (λ body k h. unbinding_twice (build body) k)

  binding_stops : (i : Input) → Stops (binding (term n)) i (AreFailing (Piece.Name ∷ Piece.Term n ∷ Piece.Binder (name_number i) ∷ Last) i)
  unfolding binding body_of
  binding_stops i = on_name _ _ i (λ e. on_term _ _ (named i) (λ value j h.
      on_binder Last (name_number i) (name_number i) (body_of (Tree.Let (name_number i) value)) j refl (body_stops (Tree.Let (name_number i) value) (bound (name_number i) j))))

  function_stops : (i : Input) → Stops (function (term n) (param n)) i (AreFailing (Piece.EffectLetter ∷ Piece.Param n ∷ Piece.Binder (name_number (advanced (advanced i))) ∷ Last) i)
  unfolding function body_of
  function_stops i = on_effect _ _ i (λ q. on_param n _ _ (advanced i) (λ p j same.
      let build = Tree.Lambda (record { effect = q; own = None; param = p.0; param_type = p.1 }) in
      on_binder Last p.0 _ (body_of build) j same (body_stops build (bound p.0 j))))

  recursive_stops : (i : Input) → Stops (recursive (term n) (param n) (ty n)) i
      (AreFailing (Piece.EffectLetter ∷ Piece.Name ∷ Piece.Param n ∷ Piece.Ty n ∷ Piece.Binder (name_number (advanced i)) ∷ Piece.Binder (name_number (advanced (named (advanced i)))) ∷ Last) i)
  unfolding recursive inner_body_of
  recursive_stops i = on_effect _ _ i (λ q. on_name _ _ (advanced i) (λ e. on_param n _ _ (named (advanced i)) (λ p j same. on_type n (ty_stops n) _ _ j (λ gives k.
      let own = name_number (advanced i) in
      let build = Tree.Lambda (record { effect = q; own = Some (record { name = own; result = gives }); param = p.0; param_type = p.1 }) in
      on_binder _ own own (bind_name p.0 >> inner_body_of build) k refl
      (on_binder Last p.0 _ (inner_body_of build) (bound own k) same (inner_body_stops build (bound p.0 (bound own k))))))))

  more_stops_by : (rest : List Tree → Parser (List Tree)) (found : List Tree) (i : Input)
      → ((found : List Tree) (j : Input) → tokens_left j < tokens_left i → Stops (rest found) j (Fails (Piece.Parts n) j)) → (ends : Bool) → is_closing (ahead i) ≡ ends
      → Stops (cond {A = Parser (List Tree)} ends (pure found) (term n >>= (λ y. rest (found ++ y ∷ [])))) i (Fails (Piece.Parts n) i)
  more_stops_by rest found i more true test fault read = absurd (cc)
  more_stops_by rest found i more false test fault read =
      x.in_parts (λ is. let closes : true ≡ false = sym (ap is_closing is) ∙ test in cc)
      (on_term _ (λ y. rest (found ++ y ∷ [])) i (λ y j h found' e. x.here (more (found ++ y ∷ []) j (term_takes h) found' e)) fault read)

  more_stops : (m : ℕ) (found : List Tree) (i : Input) → tokens_left i ≤ m → Stops (more_from (term n) m found) i (Fails (Piece.Parts n) i)
  unfolding more_from sees_closing
  more_stops zero found i few fault read =
      let e = none_left i few in
      let same : Expected (place i) want.Term ≡ fault = cc in
      x.in_parts (λ is. cc) (x.here (subst (Fails (Piece.Term n) i) same (x.no_term (ap begins_term e))))
  more_stops (suc m) found i few fault read =
      more_stops_by (more_from (term n) m) found i (λ found j less. more_stops m found j (omega (arith, less, few))) (is_closing (ahead i)) refl fault read

  parts_stops : (pair : List Tree) (i : Input) → Stops (more (term n) pair >>= (λ all. closing >> pure (Tree.Do (row all)))) i (AreFailing (Piece.Parts n ∷ []) i)
  unfolding more
  parts_stops pair i fault read =
      stops_by (more_from (term n) (tokens_left i) pair i) _ (AreFailing (Piece.Parts n ∷ []) i) fault
      (λ found e. x.here (more_stops (tokens_left i) pair i (omega arith) found e))
      (λ all k e found e'.
      let shut_at = closing_at k (parts_end (more_leads n (term n) (term_leads n) (tokens_left i) pair i all k e).2) in
      let h = sym (ap (λ o. and_then o (λ _. pure (Tree.Do (row all)))) shut_at) ∙ e' in
      absurd (cc))
      read

  sequence_stops : (i : Input) → Stops (sequence (term n)) i (AreFailing (Piece.Term n ∷ Piece.Term n ∷ Piece.Parts n ∷ []) i)
  unfolding sequence first_two
  sequence_stops i fault read =
      on_term _ _ i (λ y j h found e. on_term _ _ j (λ z k h'. parts_stops (y ∷ z ∷ []) k) found (sym (assoc (term n j) _ _) ∙ e)) fault (sym (assoc (term n i) _ _) ∙ read)

  no_form_at : (i : Input) → ahead i ≡ a.Opening → begins_form (ahead (advanced (marked i))) ≡ false → (fault : ParseFault) → Expected (place (advanced (marked i))) want.Form ≡ fault
      → Fails (Piece.Term (suc n)) i fault
  unfolding ahead place advanced marked
  no_form_at i e none fault same = subst (Fails (Piece.Term (suc n)) i) same (x.no_form e none)

  abbrev FormStops : Input → Ahead → Type 0
  FormStops i next = Stops (form_by (term n) (param n) (ty n) (opener_of next)) (advanced (marked i)) (Fails (Piece.Term (suc n)) i)

  word_stops : (i : Input) → ahead i ≡ a.Opening → (word : Word) → ahead (advanced (marked i)) ≡ a.Reserved word → FormStops i (a.Reserved word)
  unfolding opener_of
  word_stops i e w.Not is fault read = x.in_form e (x.one is g.negation) (alone_stops _ _ fault read)
  word_stops i e w.Get is fault read = x.in_form e (x.one is g.get) (alone_stops _ _ fault read)
  word_stops i e w.Peek is fault read = x.in_form e (x.one is g.peek) (alone_stops _ _ fault read)
  word_stops i e w.BlockUntil is fault read = x.in_form e (x.one is g.block_until) (alone_stops _ _ fault read)
  word_stops i e w.Print is fault read = x.in_form e (x.one is g.print) (alone_stops _ _ fault read)
  word_stops i e w.Fst is fault read = x.in_form e (x.one is g.fst) (alone_stops _ _ fault read)
  word_stops i e w.Snd is fault read = x.in_form e (x.one is g.snd) (alone_stops _ _ fault read)
  word_stops i e w.Ref is fault read = x.in_form e (Shape.ref is) (reference_stops _ fault read)
  word_stops i e w.Call is fault read = x.in_form e (Shape.call is) (call_stops _ fault read)
  word_stops i e w.App is fault read = x.in_form e (Shape.two is g.app) (two_stops _ _ fault read)
  word_stops i e w.Set is fault read = x.in_form e (Shape.two is g.set) (two_stops _ _ fault read)
  word_stops i e w.Pair is fault read = x.in_form e (Shape.two is g.pair) (two_stops _ _ fault read)
  word_stops i e w.Async is fault read = x.in_form e (Shape.async is) (alone_stops _ _ fault read)
  word_stops i e w.Unprotected is fault read = x.in_form e (Shape.unprotected is) (alone_stops _ _ fault read)
  word_stops i e w.If is fault read = x.in_form e (Shape.choice is) (choice_stops _ fault read)
  word_stops i e w.Let is fault read = x.in_form e (Shape.binding is) (binding_stops _ fault read)
  word_stops i e w.Do is fault read = x.in_form e (Shape.sequence is) (sequence_stops _ fault read)
  word_stops i e w.Fn is fault read = x.in_form e (Shape.function is) (function_stops _ fault read)
  word_stops i e w.Rec is fault read = x.in_form e (Shape.recursive is) (recursive_stops _ fault read)
  word_stops i e _ is fault read = no_form_at i e (ap begins_form is) fault (cc)

  symbol_stops : (i : Input) → ahead i ≡ a.Opening → (s : ℕ) → ahead (advanced (marked i)) ≡ a.Symbol s → (o : Option Op) → operator_of s ≡ o
      → Stops (form_by (term n) (param n) (ty n) (option_map (λ op. opener.Two (binary.Bin op)) o)) (advanced (marked i)) (Fails (Piece.Term (suc n)) i)
  symbol_stops i e s is (Some o) found fault read = x.in_form e (Shape.two is (g.operation (op_is s o found))) (two_stops (binary.Bin o) _ fault read)
  symbol_stops i e s is None found fault read =
      no_form_at i e (ap begins_form is ∙ ap is_some found) fault (cc)

  form_stops : (i : Input) → ahead i ≡ a.Opening → (next : Ahead) → ahead (advanced (marked i)) ≡ next → FormStops i next
  unfolding opener_of
  form_stops i e (a.Reserved word) is = word_stops i e word is
  form_stops i e (a.Symbol s) is = symbol_stops i e s is (operator_of s) refl
  form_stops i e _ is = λ fault read. no_form_at i e (ap begins_form is) fault (cc)

-- ---- terms

no_term_at : (n : ℕ) (i : Input) → begins_term (ahead i) ≡ false → (fault : ParseFault) → Expected (place (marked i)) want.Term ≡ fault → Fails (Piece.Term n) i fault
unfolding place marked
no_term_at n i none fault same = subst (Fails (Piece.Term n) i) same (x.no_term none)

constant_stops : (n : ℕ) (i : Input) (word : Word) → ahead i ≡ a.Reserved word → Stops (constant word) (marked i) (Fails (Piece.Term n) i)
unfolding constant yielding
constant_stops n i w.Unit e fault read = absurd (cc)
constant_stops n i w.True e fault read = absurd (cc)
constant_stops n i w.False e fault read = absurd (cc)
constant_stops n i w.Yield e fault read = absurd (cc)
constant_stops n i _ e fault read = no_term_at n i (ap begins_term e) fault (cc)

abbrev pub tested : Input → Bool → ParseOutcome Tree
tested i b = cond b (Ok (Tree.Var (name_number (marked i)), named (marked i))) (Err (UnknownName (place (marked i))))

pub variable_at : (i : Input) → ahead i ≡ a.Name → variable (marked i) ≡ tested i (binds_name (name_number (marked i)) (named (marked i)))
unfolding variable
variable_at i e = rw (name_at (marked i) (ahead_marked i ∙ e)) refl

variable_test : (n : ℕ) (i : Input) → ahead i ≡ a.Name → (b : Bool) → binds_name (name_number (marked i)) (named (marked i)) ≡ b → (fault : ParseFault) → tested i b ≡ Err fault
    → Fails (Piece.Term n) i fault
unfolding binds_name name_number named marked spelling place
variable_test n i e true test fault read = absurd (cc)
variable_test n i e false test fault read = let same : UnknownName (place i) ≡ fault = cc in subst (Fails (Piece.Term n) i) same (x.unknown_name e test)

atom_stops : (n : ℕ) (i : Input) (next : Ahead) → ahead i ≡ next → ¬ (ahead i ≡ a.Opening) → Stops (atom_by next) (marked i) (Fails (Piece.Term n) i)
atom_stops n i (a.Number value) e other fault read = absurd (cc)
atom_stops n i (a.Reserved word) e other fault read = constant_stops n i word e fault read
atom_stops n i a.Name e other fault read = variable_test n i e (binds_name (name_number (marked i)) (named (marked i))) refl fault (sym (variable_at i e) ∙ read)
atom_stops n i a.Opening e other fault read = absurd (other e)
atom_stops n i _ e other fault read = no_term_at n i (ap begins_term e) fault (cc)

abbrev TermStops : ℕ → Type 0
TermStops n = (i : Input) → ahead i ≡ a.Opening → Stops (nested n) (marked i) (Fails (Piece.Term n) i)

other_stops : (n : ℕ) (i : Input) (next : Ahead) → ahead i ≡ next → ¬ (ahead i ≡ a.Opening) → Stops atom (marked i) (Fails (Piece.Term n) i)
other_stops n i next e other fault read = atom_stops n i next e other fault (sym (atom_at i next e) ∙ read)

term_stops_by : (n : ℕ) → TermStops n → (i : Input) (next : Ahead) → ahead i ≡ next → Stops (term_by (nested n) next) (marked i) (Fails (Piece.Term n) i)
term_stops_by n forms i a.Opening e = forms i e
term_stops_by n forms i _ e = other_stops n i _ e (λ is. cc)

term_stops_of : (n : ℕ) → TermStops n → (i : Input) → Stops (term n) i (Fails (Piece.Term n) i)
term_stops_of n forms i fault read = term_stops_by n forms i (ahead i) refl fault (sym (term_at n i (ahead i) refl) ∙ read)

nested_stops : (n : ℕ) → TermStops n
unfolding nested place marked
nested_stops zero i e fault read = let same : TooNested (place i) ≡ fault = cc in subst (Fails (Piece.Term zero) i) same (x.deep_term e)
nested_stops (suc n) i e fault read =
    form_stops n (term_stops_of n (nested_stops n)) i e (ahead (advanced (marked i))) refl fault
    (sym (nested_at n (marked i) ∙ compound_at (term n) (param n) (ty n) (advanced (marked i)) (ahead (advanced (marked i))) refl) ∙ read)

term_stops : (n : ℕ) (i : Input) → Stops (term n) i (Fails (Piece.Term n) i)
term_stops n = term_stops_of n (nested_stops n)

-- ---- programs

finish_stops : {A : Type 0} (y : A) (next : Ahead) (i : Input) → ahead i ≡ next → Stops (finish_by next >> pure y) i (AreFailing (Piece.End ∷ []) i)
finish_stops y a.End i e fault read = absurd (cc)
finish_stops y _ i e fault read = let same : Trailing (place i) ≡ fault = cc in x.here (subst (Fails Piece.End i) same (x.trailing (λ is. cc)))

pub program_stops : (i : Input) → Stops program i (AreFailing (Piece.Term max_open ∷ Piece.End ∷ []) i)
unfolding program finish
program_stops i = on_term max_open (term_stops max_open) _ _ i (λ tree j h. finish_stops tree (ahead j) j refl)

lexical : (text : Text) (found : LexFault) → tokens_of text ≡ Err found → reading text ≡ Err (ReadingFault.Lexical found)
unfolding reading
lexical text found lexed = ap (reading_by text) lexed

fault_is_expected_by : (text : Text) (fault : ParseFault) → LexesAsRead text → (outcome : LexOutcome) → tokens_of text ≡ outcome
    → reading text ≡ Err (ReadingFault.Syntactic fault) → Faults text fault
fault_is_expected_by text fault lexes (Ok tokens) lexed e =
    x.faulty ((lexes (Ok tokens)).1 lexed) (program_stops (start_of text tokens) fault (fault_of_tokens text tokens fault lexed e))
fault_is_expected_by text fault lexes (Err found) lexed e = absurd (let h = sym (lexical text found lexed) ∙ e in cc)

-- a fault that is read is one of the text
pub fault_is_expected : (text : Text) (fault : ParseFault) → LexesAsRead text → reading text ≡ Err (ReadingFault.Syntactic fault) → Faults text fault
fault_is_expected text fault lexes e = fault_is_expected_by text fault lexes (tokens_of text) refl e
