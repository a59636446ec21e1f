-- The generated program: its names and its term.
use Rattle.std.specs.Prelude.{ℕ, ◌+◌, pos, List, [], ◌∷◌, ◌++◌, map, codes}
use Rattle.ame_lex.specs.Bytes.{Text}
use Rattle.ame_term.specs.declared.types.Sort.TheVariants as sorts
use Rattle.ame_term.specs.declared.types.Op.{Op}
use Rattle.ame_term.specs.declared.types.Op.TheVariants as op
use Rattle.ame_term.specs.declared.types.Unary.TheVariants as unary
use Rattle.ame_term.specs.declared.types.Binary.TheVariants as binary
use Rattle.ame_term.specs.Tree.{Val, Tree}
use Rattle.ame_parse.specs.Forms.{row}
use Rattle.ame_parse.specs.Text.{Source}
use Rattle.ame_gen.specs.declared.transfers.Transfer.{Transfer}
use Rattle.ame_gen.specs.Transfers.{accounts, transfers}
use Rattle.ame_gen.specs.Balances.{initial_balance}

-- the names: an account's cell has the account's number, and the cell that counts the transfers comes after them
abbrev pub workload_names : List Text
workload_names =
    codes "a0" ∷ codes "a1" ∷ codes "a2" ∷ codes "a3" ∷ codes "a4" ∷ codes "a5" ∷ codes "a6" ∷ codes "a7" ∷ codes "done" ∷ []

-- the number of the name of the cell that counts the transfers that were made
abbrev pub counter : ℕ
counter = 8

abbrev pub numeral : ℕ → Tree
numeral n = Tree.Held (Val.Int (pos n))

-- what a cell holds
abbrev pub content : ℕ → Tree
content cell = Tree.One unary.Get (Tree.Var cell)

-- the cell gets its content and this number, joined by the operator
abbrev pub updated : Op → ℕ → ℕ → Tree
updated operator cell n = Tree.Two binary.Set (Tree.Var cell) (Tree.Two (binary.Bin operator) (content cell) (numeral n))

-- the member waits until the account that pays has the amount, moves it, and counts the transfer
abbrev pub transfer_term : Transfer → Tree
transfer_term t = Tree.Async (Tree.Do (row (
    Tree.One unary.Block (Tree.One unary.Not (Tree.Two (binary.Bin op.Less) (content t.from) (numeral t.amount)))
    ∷ updated op.Sub t.from t.amount ∷ updated op.Add t.to t.amount ∷ updated op.Add counter 1 ∷ [])))

abbrev pub print_term : ℕ → Tree
print_term cell = Tree.One unary.Print (content cell)

-- the member waits for all transfers, and then prints each account
abbrev pub report_term : ℕ → Tree
report_term size = Tree.Async (Tree.Do (row (
    Tree.One unary.Block (Tree.Two (binary.Bin op.Same) (content counter) (numeral size)) ∷ map print_term accounts)))

-- what makes a protected cell that begins with this number, as the `ref` form of the other number in the text
abbrev pub first_value : ℕ → ℕ → Tree
first_value ref start = Tree.One (unary.Ref sorts.Protected (record { 0 = ref })) (numeral start)

-- a protected cell for each of these names, around the body; their `ref` forms are numbered from the first number on, and each begins with the second
abbrev pub with_cells : ℕ → ℕ → List ℕ → Tree → Tree
with_cells ref start [] body = body
with_cells ref start (cell ∷ cells) body = Tree.Let cell (first_value ref start) (with_cells (ref + 1) start cells body)

-- the members, which begin one after another
abbrev pub members_term : ℕ → ℕ → Tree
members_term seed size = Tree.Do (row (map transfer_term (transfers seed size) ++ report_term size ∷ []))

-- each cell's `ref` form has the number of the cell's name
abbrev pub workload_term : ℕ → ℕ → Tree
workload_term seed size = with_cells 0 (initial_balance size) accounts (with_cells counter 0 (counter ∷ []) (members_term seed size))

-- as a program; its nodes have no places here, since these are those of a text
abbrev pub workload : ℕ → ℕ → Source
workload seed size = record { names = workload_names; places = []; tree = workload_term seed size }
