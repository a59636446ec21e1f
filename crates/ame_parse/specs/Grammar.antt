-- The grammar: which term the next tokens of an input spell, and which program a text spells.
use Rattle.std.specs.Prelude.{◌≡◌, ℕ, suc, ◌<◌, ℤ, pos, true, false, List, [], ◌∷◌, Option, Some, None, Ok, codes}
use Rattle.ame_lex.specs.Bytes.{Text}
use Rattle.ame_lex.specs.Grammar.{Lexes}
use Rattle.ame_lex.specs.declared.tokens.Token.{Token}
use Rattle.ame_term.specs.declared.types.Sort.{Sort}
use Rattle.ame_term.specs.declared.types.Sort.TheVariants as sorts
use Rattle.ame_term.specs.declared.types.Effect.{Effect}
use Rattle.ame_term.specs.declared.types.Effect.TheVariants as effects
use Rattle.ame_term.specs.declared.types.Op.{Op}
use Rattle.ame_term.specs.declared.types.Unary.{Unary}
use Rattle.ame_term.specs.declared.types.Unary.TheVariants as unary
use Rattle.ame_term.specs.declared.types.Binary.{Binary}
use Rattle.ame_term.specs.declared.types.Binary.TheVariants as binary
use Rattle.ame_term.specs.Operators.{operator}
use Rattle.ame_term.specs.Tree.{Typ, OwnName, Head, Val, Tree, unit_tree}
use Rattle.ame_parse.specs.declared.words.Word.{Word}
use Rattle.ame_parse.specs.declared.words.Word.TheVariants as w
use Rattle.ame_parse.specs.declared.ahead.Ahead.{Ahead}
use Rattle.ame_parse.specs.declared.ahead.Ahead.TheVariants as a
use Rattle.ame_parse.specs.Input.{Input, ahead, spelling, advanced, marked, name_number, named, binds_name, bound, unbound, ref_number, ref_counted}
use Rattle.ame_parse.specs.Seen.{start_of}
use Rattle.ame_parse.specs.Forms.{row}
use Rattle.ame_parse.specs.Reading.{max_open}
use Rattle.ame_parse.specs.Text.{Source}

-- The next token is this sort.
pub data IsSort : Input → Sort → Type 0 where
  protected : {i : Input} → spelling i ≡ codes "p" → IsSort i sorts.Protected
  unprotected : {i : Input} → spelling i ≡ codes "u" → IsSort i sorts.Unprotected

-- The next token is this effect.
pub data IsEffect : Input → Effect → Type 0 where
  protected : {i : Input} → spelling i ≡ codes "p" → IsEffect i effects.Protected
  unprotected : {i : Input} → spelling i ≡ codes "u" → IsEffect i effects.Unprotected
  either : {i : Input} → spelling i ≡ codes "a" → IsEffect i effects.Either

-- The symbol of an operator.
pub data IsOp : ℕ → Op → Type 0 where
  spells : (op : Op) → IsOp (operator op).symbol op

-- The word of a form that is a word and one part.
pub data IsUnary : Word → Unary → Type 0 where
  negation : IsUnary w.Not unary.Not
  get : IsUnary w.Get unary.Get
  peek : IsUnary w.Peek unary.Peek
  block_until : IsUnary w.BlockUntil unary.Block
  print : IsUnary w.Print unary.Print
  fst : IsUnary w.Fst unary.First
  snd : IsUnary w.Snd unary.Second

-- The word or the symbol of a form with two parts.
pub data IsBinary : Ahead → Binary → Type 0 where
  app : IsBinary (a.Reserved w.App) binary.App
  set : IsBinary (a.Reserved w.Set) binary.Set
  pair : IsBinary (a.Reserved w.Pair) binary.Pair
  operation : {symbol : ℕ} {op : Op} → IsOp symbol op → IsBinary (a.Symbol symbol) (binary.Bin op)

mutual
  -- The first input begins with a type, in which at most n parentheses are open, and goes on as the second.
  pub data IsType : ℕ → Input → Typ → Input → Type 0 where
    unit_type : {n : ℕ} {i : Input} → ahead i ≡ a.Reserved w.UnitType → IsType n i Typ.Unit (advanced i)
    bool_type : {n : ℕ} {i : Input} → ahead i ≡ a.Reserved w.BoolType → IsType n i Typ.Bool (advanced i)
    int_type : {n : ℕ} {i : Input} → ahead i ≡ a.Reserved w.IntType → IsType n i Typ.Int (advanced i)
    type_form : {n : ℕ} {i j : Input} {type : Typ}
        → ahead i ≡ a.Opening
        → IsTypeForm n (advanced i) type j
        → IsType (suc n) i type j

  -- It begins with the rest of a type after its opening parenthesis.
  pub data IsTypeForm : ℕ → Input → Typ → Input → Type 0 where
    ref_type : {n : ℕ} {i j : Input} {sort : Sort} {content : Typ}
        → ahead i ≡ a.Reserved w.RefType
        → IsSort (advanced i) sort
        → IsType n (advanced (advanced i)) content j
        → ahead j ≡ a.Closing
        → IsTypeForm n i (Typ.Ref sort content) (advanced j)
    fun_type : {n : ℕ} {i j k : Input} {effect : Effect} {param gives : Typ}
        → ahead i ≡ a.Reserved w.FunType
        → IsEffect (advanced i) effect
        → IsType n (advanced (advanced i)) param j
        → IsType n j gives k
        → ahead k ≡ a.Closing
        → IsTypeForm n i (Typ.Fun effect param gives) (advanced k)
    pair_type : {n : ℕ} {i j k : Input} {first second : Typ}
        → ahead i ≡ a.Reserved w.PairType
        → IsType n (advanced i) first j
        → IsType n j second k
        → ahead k ≡ a.Closing
        → IsTypeForm n i (Typ.Pair first second) (advanced k)

-- It begins with a parameter, which has this name and this type.
pub data IsParam : ℕ → Input → ℕ → Typ → Input → Type 0 where
  param : {n : ℕ} {i j : Input} {type : Typ}
      → ahead i ≡ a.Opening
      → ahead (advanced i) ≡ a.Name
      → IsType n (named (advanced i)) type j
      → ahead j ≡ a.Closing
      → IsParam (suc n) i (name_number (advanced i)) type (advanced j)

-- It begins with all of a function form before its body. Its names are bound in the second input.
pub data IsFunctionHead : ℕ → Input → Head → Input → Type 0 where
  fn : {n : ℕ} {i j : Input} {effect : Effect} {x : ℕ} {type : Typ}
      → ahead i ≡ a.Reserved w.Fn
      → IsEffect (advanced i) effect
      → IsParam n (advanced (advanced i)) x type j
      → IsFunctionHead n i (record { effect = effect; own = None; param = x; param_type = type }) (bound x j)
  -- the parameter is bound within the own name, so it hides it if they are the same
  rec : {n own : ℕ} {i j k : Input} {effect : Effect} {x : ℕ} {type gives : Typ}
      → ahead i ≡ a.Reserved w.Rec
      → IsEffect (advanced i) effect
      → ahead (advanced (advanced i)) ≡ a.Name
      → name_number (advanced (advanced i)) ≡ own
      → IsParam n (named (advanced (advanced i))) x type j
      → IsType n j gives k
      → IsFunctionHead n i (record { effect = effect; own = Some (record { name = own; result = gives }); param = x; param_type = type }) (bound x (bound own k))

-- the input after a function form, whose names are no longer bound
abbrev pub outside : Option OwnName → Input → Input
outside None i = unbound i
outside (Some own) i = unbound (unbound i)

mutual
  -- The first input begins with a term, in which at most n parentheses are open, and goes on as the second.
  pub data IsTerm : ℕ → Input → Tree → Input → Type 0 where
    int : {n : ℕ} {i : Input} {value : ℤ} → ahead i ≡ a.Number value → IsTerm n i (Tree.Held (Val.Int value)) (advanced (marked i))
    unit : {n : ℕ} {i : Input} → ahead i ≡ a.Reserved w.Unit → IsTerm n i unit_tree (advanced (marked i))
    truth : {n : ℕ} {i : Input} → ahead i ≡ a.Reserved w.True → IsTerm n i (Tree.Held (Val.Bool true)) (advanced (marked i))
    falsehood : {n : ℕ} {i : Input} → ahead i ≡ a.Reserved w.False → IsTerm n i (Tree.Held (Val.Bool false)) (advanced (marked i))
    -- two nodes at one place
    yield : {n : ℕ} {i : Input} → ahead i ≡ a.Reserved w.Yield → IsTerm n i (Tree.Unprotected unit_tree) (advanced (marked (marked i)))
    variable : {n : ℕ} {i : Input}
        → ahead i ≡ a.Name
        → binds_name (name_number i) i ≡ true
        → IsTerm n i (Tree.Var (name_number i)) (named (marked i))
    form : {n : ℕ} {i j : Input} {tree : Tree}
        → ahead i ≡ a.Opening
        → IsForm n (advanced (marked i)) tree j
        → IsTerm (suc n) i tree j

  -- It begins with the rest of a form after its opening parenthesis.
  pub data IsForm : ℕ → Input → Tree → Input → Type 0 where
    function : {n : ℕ} {i j k : Input} {head : Head} {body : Tree}
        → IsFunctionHead n i head j
        → IsTerm n j body k
        → ahead k ≡ a.Closing
        → IsForm n i (Tree.Lambda head body) (outside head.own (advanced k))
    binding : {n x : ℕ} {i j k : Input} {value body : Tree}
        → ahead i ≡ a.Reserved w.Let
        → ahead (advanced i) ≡ a.Name
        → name_number (advanced i) ≡ x
        → IsTerm n (named (advanced i)) value j
        → IsTerm n (bound x j) body k
        → ahead k ≡ a.Closing
        → IsForm n i (Tree.Let x value body) (unbound (advanced k))
    sequence : {n : ℕ} {i j k l : Input} {first second : Tree} {others : List Tree}
        → ahead i ≡ a.Reserved w.Do
        → IsTerm n (advanced i) first j
        → IsTerm n j second k
        → AreParts n k others l
        → ahead l ≡ a.Closing
        → IsForm n i (Tree.Do (row (first ∷ second ∷ others))) (advanced l)
    choice : {n : ℕ} {i j k l : Input} {test first second : Tree}
        → ahead i ≡ a.Reserved w.If
        → IsTerm n (advanced i) test j
        → IsTerm n j first k
        → IsTerm n k second l
        → ahead l ≡ a.Closing
        → IsForm n i (Tree.If test first second) (advanced l)
    one : {n : ℕ} {i j : Input} {word : Word} {op : Unary} {part : Tree}
        → ahead i ≡ a.Reserved word
        → IsUnary word op
        → IsTerm n (advanced i) part j
        → ahead j ≡ a.Closing
        → IsForm n i (Tree.One op part) (advanced j)
    -- its number is how many of these forms began before it
    ref : {n : ℕ} {i j : Input} {sort : Sort} {part : Tree}
        → ahead i ≡ a.Reserved w.Ref
        → IsSort (advanced i) sort
        → IsTerm n (ref_counted (advanced (advanced i))) part j
        → ahead j ≡ a.Closing
        → IsForm n i (Tree.One (unary.Ref sort (ref_number i)) part) (advanced j)
    call : {n device : ℕ} {i j : Input} {part : Tree}
        → ahead i ≡ a.Reserved w.Call
        → ahead (advanced i) ≡ a.Number (pos device)
        → device < 256
        → IsTerm n (advanced (advanced i)) part j
        → ahead j ≡ a.Closing
        → IsForm n i (Tree.One (unary.Call device) part) (advanced j)
    two : {n : ℕ} {i j k : Input} {next : Ahead} {op : Binary} {first second : Tree}
        → ahead i ≡ next
        → IsBinary next op
        → IsTerm n (advanced i) first j
        → IsTerm n j second k
        → ahead k ≡ a.Closing
        → IsForm n i (Tree.Two op first second) (advanced k)
    async : {n : ℕ} {i j : Input} {part : Tree}
        → ahead i ≡ a.Reserved w.Async
        → IsTerm n (advanced i) part j
        → ahead j ≡ a.Closing
        → IsForm n i (Tree.Async part) (advanced j)
    unprotected : {n : ℕ} {i j : Input} {part : Tree}
        → ahead i ≡ a.Reserved w.Unprotected
        → IsTerm n (advanced i) part j
        → ahead j ≡ a.Closing
        → IsForm n i (Tree.Unprotected part) (advanced j)

  -- It begins with the parts of a form up to its closing parenthesis.
  pub data AreParts : ℕ → Input → List Tree → Input → Type 0 where
    none : {n : ℕ} {i : Input} → ahead i ≡ a.Closing → AreParts n i [] i
    more : {n : ℕ} {i j k : Input} {part : Tree} {others : List Tree}
        → IsTerm n i part j
        → AreParts n j others k
        → AreParts n i (part ∷ others) k

-- The tokens of a text are those of a term, with nothing after it.
pub data Spells : Text → Source → Type 0 where
  program : {text : Text} {tokens : List Token} {tree : Tree} {last : Input}
      → Lexes 0 text (Ok tokens)
      → IsTerm max_open (start_of text tokens) tree last
      → ahead last ≡ a.End
      → Spells text (record { names = last.names; places = last.places; tree = tree })
