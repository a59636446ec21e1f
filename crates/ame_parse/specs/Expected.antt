-- The table of what is expected, and the fault of anything that isn't.
use Rattle.std.specs.Prelude.{◌≡◌, ℕ, zero, suc, ◌<◌, ◌==◌, ◌||◌, pos, not, Bool, true, false, List, [], ◌∷◌, Ok, is_some}
use Rattle.ame_lex.specs.Bytes.{Text}
use Rattle.ame_lex.specs.Grammar.{Lexes}
use Rattle.ame_lex.specs.declared.tokens.Token.{Token}
use Rattle.ame_term.specs.declared.types.Sort.{Sort}
use Rattle.ame_term.specs.declared.types.Effect.{Effect}
use Rattle.ame_term.specs.declared.types.Unary.{Unary}
use Rattle.ame_term.specs.declared.types.Binary.{Binary}
use Rattle.ame_term.specs.Operators.{operator_of}
use Rattle.ame_term.specs.Tree.{Typ, Tree}
use Rattle.ame_parse.specs.declared.words.Word.{Word}
use Rattle.ame_parse.specs.declared.words.Word.TheVariants as w
use Rattle.ame_parse.specs.declared.ahead.Ahead.{Ahead}
use Rattle.ame_parse.specs.declared.ahead.Ahead.TheVariants as a
use Rattle.ame_parse.specs.declared.fault.Want.TheVariants as want
use Rattle.ame_parse.specs.declared.fault.ParseFault.{ParseFault}
use Rattle.ame_parse.specs.declared.fault.ParseFault.TheVariants.{Expected, UnknownName, TooNested, Trailing}
use Rattle.ame_parse.specs.Input.{Input, ahead, place, advanced, marked, name_number, named, binds_name, bound, ref_counted}
use Rattle.ame_parse.specs.Seen.{start_of}
use Rattle.ame_parse.specs.Reading.{max_open}
use Rattle.ame_parse.specs.Grammar.{IsSort, IsEffect, IsUnary, IsBinary, IsType, IsParam, IsTerm}

-- ---- what begins a term, a form, a type

-- a word that is a term
abbrev pub is_term_word : Word → Bool
is_term_word w.Unit = true
is_term_word w.True = true
is_term_word w.False = true
is_term_word w.Yield = true
is_term_word _ = false

-- a word that is a type
abbrev pub is_type_word : Word → Bool
is_type_word w.UnitType = true
is_type_word w.BoolType = true
is_type_word w.IntType = true
is_type_word _ = false

-- a word that a type begins with after its parenthesis
abbrev pub is_type_form_word : Word → Bool
is_type_form_word w.RefType = true
is_type_form_word w.FunType = true
is_type_form_word w.PairType = true
is_type_form_word _ = false

-- a byte that spells an operator
abbrev pub is_operator : ℕ → Bool
is_operator symbol = is_some (operator_of symbol)

abbrev pub begins_term : Ahead → Bool
begins_term (a.Number value) = true
begins_term a.Name = true
begins_term a.Opening = true
begins_term (a.Reserved word) = is_term_word word
begins_term _ = false

-- a form's word, which is any that is of no term and no type, or an operator
abbrev pub begins_form : Ahead → Bool
begins_form (a.Reserved word) = not (is_term_word word || is_type_word word || is_type_form_word word)
begins_form (a.Symbol symbol) = is_operator symbol
begins_form _ = false

abbrev pub begins_type : Ahead → Bool
begins_type a.Opening = true
begins_type (a.Reserved word) = is_type_word word
begins_type _ = false

abbrev pub begins_type_form : Ahead → Bool
begins_type_form (a.Reserved word) = is_type_form_word word
begins_type_form _ = false

-- ---- what must stand after one another

-- The next piece that is expected. The numbers of terms, types, parameters and parts bound the parentheses that may be open in them.
pub data Piece : Type 0 where
  Term : ℕ → Piece
  -- the parts of a form up to its closing parenthesis
  Parts : ℕ → Piece
  Ty : ℕ → Piece
  Param : ℕ → Piece
  Name : Piece
  EffectLetter : Piece
  SortLetter : Piece
  DeviceNumber : Piece
  Closing : Piece
  End : Piece
  -- nothing; this name is bound from here on
  Binder : ℕ → Piece
  -- nothing; a `ref` form more is counted from here on
  Counter : Piece

-- The first input begins with the piece, and goes on as the second.
pub data Passes : Piece → Input → Input → Type 0 where
  term : {n : ℕ} {i j : Input} {tree : Tree} → IsTerm n i tree j → Passes (Piece.Term n) i j
  type : {n : ℕ} {i j : Input} {type : Typ} → IsType n i type j → Passes (Piece.Ty n) i j
  param : {n x : ℕ} {i j : Input} {type : Typ} → IsParam n i x type j → Passes (Piece.Param n) i j
  name : {i : Input} → ahead i ≡ a.Name → Passes Piece.Name i (named i)
  effect : {i : Input} {effect : Effect} → IsEffect i effect → Passes Piece.EffectLetter i (advanced i)
  sort : {i : Input} {sort : Sort} → IsSort i sort → Passes Piece.SortLetter i (advanced i)
  device : {device : ℕ} {i : Input} → ahead i ≡ a.Number (pos device) → device < 256 → Passes Piece.DeviceNumber i (advanced i)
  binder : {x : ℕ} {i : Input} → Passes (Piece.Binder x) i (bound x i)
  counter : {i : Input} → Passes Piece.Counter i (ref_counted i)

-- The pieces that are expected after the word or the symbol of a form of terms.
pub data Shape (n : ℕ) (i : Input) : List Piece → Type 0 where
  function : ahead i ≡ a.Reserved w.Fn
      → Shape n i (Piece.EffectLetter ∷ Piece.Param n ∷ Piece.Binder (name_number (advanced (advanced (advanced i)))) ∷ Piece.Term n ∷ Piece.Closing ∷ [])
  recursive : ahead i ≡ a.Reserved w.Rec
      → Shape n i (Piece.EffectLetter ∷ Piece.Name ∷ Piece.Param n ∷ Piece.Ty n ∷ Piece.Binder (name_number (advanced (advanced i)))
      ∷ Piece.Binder (name_number (advanced (named (advanced (advanced i))))) ∷ Piece.Term n ∷ Piece.Closing ∷ [])
  binding : ahead i ≡ a.Reserved w.Let → Shape n i (Piece.Name ∷ Piece.Term n ∷ Piece.Binder (name_number (advanced i)) ∷ Piece.Term n ∷ Piece.Closing ∷ [])
  sequence : ahead i ≡ a.Reserved w.Do → Shape n i (Piece.Term n ∷ Piece.Term n ∷ Piece.Parts n ∷ [])
  choice : ahead i ≡ a.Reserved w.If → Shape n i (Piece.Term n ∷ Piece.Term n ∷ Piece.Term n ∷ Piece.Closing ∷ [])
  one : {word : Word} {op : Unary} → ahead i ≡ a.Reserved word → IsUnary word op → Shape n i (Piece.Term n ∷ Piece.Closing ∷ [])
  ref : ahead i ≡ a.Reserved w.Ref → Shape n i (Piece.SortLetter ∷ Piece.Counter ∷ Piece.Term n ∷ Piece.Closing ∷ [])
  call : ahead i ≡ a.Reserved w.Call → Shape n i (Piece.DeviceNumber ∷ Piece.Term n ∷ Piece.Closing ∷ [])
  two : {next : Ahead} {op : Binary} → ahead i ≡ next → IsBinary next op → Shape n i (Piece.Term n ∷ Piece.Term n ∷ Piece.Closing ∷ [])
  async : ahead i ≡ a.Reserved w.Async → Shape n i (Piece.Term n ∷ Piece.Closing ∷ [])
  unprotected : ahead i ≡ a.Reserved w.Unprotected → Shape n i (Piece.Term n ∷ Piece.Closing ∷ [])

-- The pieces that are expected after the word of a form of types.
pub data TypeShape (n : ℕ) (i : Input) : List Piece → Type 0 where
  ref_type : ahead i ≡ a.Reserved w.RefType → TypeShape n i (Piece.SortLetter ∷ Piece.Ty n ∷ Piece.Closing ∷ [])
  fun_type : ahead i ≡ a.Reserved w.FunType → TypeShape n i (Piece.EffectLetter ∷ Piece.Ty n ∷ Piece.Ty n ∷ Piece.Closing ∷ [])
  pair_type : ahead i ≡ a.Reserved w.PairType → TypeShape n i (Piece.Ty n ∷ Piece.Ty n ∷ Piece.Closing ∷ [])

-- ---- faults

mutual
  -- The input doesn't begin with the piece: this is its first fault.
  pub data Fails : Piece → Input → ParseFault → Type 0 where
    no_term : {n : ℕ} {i : Input} → begins_term (ahead i) ≡ false → Fails (Piece.Term n) i (Expected (place i) want.Term)
    unknown_name : {n : ℕ} {i : Input}
        → ahead i ≡ a.Name
        → binds_name (name_number i) i ≡ false
        → Fails (Piece.Term n) i (UnknownName (place i))
    deep_term : {i : Input} → ahead i ≡ a.Opening → Fails (Piece.Term zero) i (TooNested (place i))
    no_form : {n : ℕ} {i : Input}
        → ahead i ≡ a.Opening
        → begins_form (ahead (advanced i)) ≡ false
        → Fails (Piece.Term (suc n)) i (Expected (place (advanced i)) want.Form)
    in_form : {n : ℕ} {i : Input} {pieces : List Piece} {fault : ParseFault}
        → ahead i ≡ a.Opening
        → Shape n (advanced (marked i)) pieces
        → AreFailing pieces (advanced (advanced (marked i))) fault
        → Fails (Piece.Term (suc n)) i fault
    -- from the third part on
    in_parts : {n : ℕ} {i : Input} {fault : ParseFault}
        → ¬ (ahead i ≡ a.Closing)
        → AreFailing (Piece.Term n ∷ Piece.Parts n ∷ []) i fault
        → Fails (Piece.Parts n) i fault
    no_type : {n : ℕ} {i : Input} → begins_type (ahead i) ≡ false → Fails (Piece.Ty n) i (Expected (place i) want.Ty)
    deep_type : {i : Input} → ahead i ≡ a.Opening → Fails (Piece.Ty zero) i (TooNested (place i))
    no_type_form : {n : ℕ} {i : Input}
        → ahead i ≡ a.Opening
        → begins_type_form (ahead (advanced i)) ≡ false
        → Fails (Piece.Ty (suc n)) i (Expected (place (advanced i)) want.Ty)
    in_type : {n : ℕ} {i : Input} {pieces : List Piece} {fault : ParseFault}
        → ahead i ≡ a.Opening
        → TypeShape n (advanced i) pieces
        → AreFailing pieces (advanced (advanced i)) fault
        → Fails (Piece.Ty (suc n)) i fault
    no_opening : {n : ℕ} {i : Input} → ¬ (ahead i ≡ a.Opening) → Fails (Piece.Param n) i (Expected (place i) want.Opening)
    deep_param : {i : Input} → ahead i ≡ a.Opening → Fails (Piece.Param zero) i (TooNested (place i))
    in_param : {n : ℕ} {i : Input} {fault : ParseFault}
        → ahead i ≡ a.Opening
        → AreFailing (Piece.Name ∷ Piece.Ty n ∷ Piece.Closing ∷ []) (advanced i) fault
        → Fails (Piece.Param (suc n)) i fault
    no_name : {i : Input} → ¬ (ahead i ≡ a.Name) → Fails Piece.Name i (Expected (place i) want.Name)
    no_effect : {i : Input} → ((effect : Effect) → ¬ (IsEffect i effect)) → Fails Piece.EffectLetter i (Expected (place i) want.Effect)
    no_sort : {i : Input} → ((sort : Sort) → ¬ (IsSort i sort)) → Fails Piece.SortLetter i (Expected (place i) want.Sort)
    no_device : {i : Input} → ((device : ℕ) → ahead i ≡ a.Number (pos device) → ¬ (device < 256)) → Fails Piece.DeviceNumber i (Expected (place i) want.Device)
    no_closing : {i : Input} → ¬ (ahead i ≡ a.Closing) → Fails Piece.Closing i (Expected (place i) want.Closing)
    trailing : {i : Input} → ¬ (ahead i ≡ a.End) → Fails Piece.End i (Trailing (place i))

  -- The input doesn't begin with the pieces, one after another: this is the first fault.
  pub data AreFailing : List Piece → Input → ParseFault → Type 0 where
    here : {piece : Piece} {pieces : List Piece} {i : Input} {fault : ParseFault}
        → Fails piece i fault
        → AreFailing (piece ∷ pieces) i fault
    later : {piece : Piece} {pieces : List Piece} {i j : Input} {fault : ParseFault}
        → Passes piece i j
        → AreFailing pieces j fault
        → AreFailing (piece ∷ pieces) i fault

-- The tokens of a text are those of no program: this is the first fault.
pub data Faults : Text → ParseFault → Type 0 where
  faulty : {text : Text} {tokens : List Token} {fault : ParseFault}
      → Lexes 0 text (Ok tokens)
      → AreFailing (Piece.Term max_open ∷ Piece.End ∷ []) (start_of text tokens) fault
      → Faults text fault
