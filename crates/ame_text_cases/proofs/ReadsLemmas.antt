-- The canonical tokens of the generated program are read as its term.
use Rattle.std.proofs.Common.{◌≡◌, refl, ℕ, zero, suc, ◌+◌, ◌≤◌, ◌<◌, ◌^◌, true, List, [], ◌∷◌, ◌++◌, map, length, length-append, decimal, None, arith}
use Rattle.std.specs.Prelude.{codes, slice_index_or}
use Rattle.std.specs.List.{AllByRecursion}
use Rattle.std.proofs.lemmas.List.{length-map}
use Rattle.ame_lex.specs.Bytes.{Text, class_of, is_word_byte}
use Rattle.ame_term.specs.declared.types.Sort.TheVariants as sorts
use Rattle.ame_term.specs.declared.types.Op.{Op}
use Rattle.ame_term.specs.declared.types.Op.TheVariants as op
use Rattle.ame_term.specs.declared.types.Unary.{Unary}
use Rattle.ame_term.specs.declared.types.Unary.TheVariants as unary
use Rattle.ame_term.specs.declared.types.Binary.{Binary}
use Rattle.ame_term.specs.declared.types.Binary.TheVariants as binary
use Rattle.ame_term.specs.Tree.{Tree}
use Rattle.ame_parse.specs.declared.words.Word.{Word}
use Rattle.ame_parse.specs.declared.ahead.Ahead.{Ahead}
use Rattle.ame_parse.specs.declared.ahead.Ahead.TheVariants as a
use Rattle.ame_parse.specs.Forms.{row}
use Rattle.ame_parse.specs.Input.{Input, ref_counted}
use Rattle.ame_parse.specs.Names.{number_in, with_name}
use Rattle.ame_parse.specs.Words.{word_of}
use Rattle.ame_parse.specs.Grammar.{IsOp, IsUnary, IsBinary}
use Rattle.ame_print.specs.Layout.{word}
use Rattle.ame_print.specs.Tokens.{term_tokens}
use Rattle.ame_print.proofs.Alone.{IsFixed, word_alone, free_fixed}
use Rattle.ame_gen.specs.declared.transfers.Transfer.{Transfer}
use Rattle.ame_gen.specs.Transfers.{accounts, transfer, transfers, IsTransfer}
use Rattle.ame_gen.specs.Balances.{initial_balance}
use Rattle.ame_text_cases.specs.Workload.{workload_names, counter, numeral, content, updated, transfer_term, print_term, report_term, first_value, with_cells, members_term, workload_term}
use Rattle.ame_text_cases.proofs.PartLemmas.{IsPart, input_with, IsKnown, variable_part, number_part, one_part, ref_part, two_part, async_part, let_part, IsRow, no_more_parts, one_more_part, do_part}

-- ---- names

-- how a name is spelled
abbrev pub spelled : ℕ → Text
spelled x = slice_index_or workload_names x (63 ∷ decimal x)

-- within all cells
abbrev here : Input
here = input_with workload_names (0 ∷ 1 ∷ 2 ∷ 3 ∷ 4 ∷ 5 ∷ 6 ∷ 7 ∷ 8 ∷ []) 9

-- `a` and a digit
account_fixed : (digit : ℕ) → is_word_byte digit ≡ true → word_of (97 ∷ digit ∷ []) ≡ None → IsFixed (word (97 ∷ digit ∷ [])) a.Name
unfolding class_of
account_fixed digit is free = free_fixed (97 ∷ digit ∷ []) (word_alone 97 (digit ∷ []) refl (is, tt)) free

done_fixed : IsFixed (word (codes "done")) a.Name
unfolding class_of word_of
done_fixed = free_fixed (codes "done") (word_alone 100 (111 ∷ 110 ∷ 101 ∷ []) refl (refl, (refl, (refl, tt)))) refl

pub known : (x : ℕ) → x < 9 → IsKnown here (spelled x) x
unfolding class_of word_of
known zero h = record { fixed = account_fixed 48 refl refl; number = refl; kept = refl; bound = refl }
known (suc zero) h = record { fixed = account_fixed 49 refl refl; number = refl; kept = refl; bound = refl }
known (suc (suc zero)) h = record { fixed = account_fixed 50 refl refl; number = refl; kept = refl; bound = refl }
known (suc (suc (suc zero))) h = record { fixed = account_fixed 51 refl refl; number = refl; kept = refl; bound = refl }
known (suc (suc (suc (suc zero)))) h = record { fixed = account_fixed 52 refl refl; number = refl; kept = refl; bound = refl }
known (suc (suc (suc (suc (suc zero))))) h = record { fixed = account_fixed 53 refl refl; number = refl; kept = refl; bound = refl }
known (suc (suc (suc (suc (suc (suc zero)))))) h = record { fixed = account_fixed 54 refl refl; number = refl; kept = refl; bound = refl }
known (suc (suc (suc (suc (suc (suc (suc zero))))))) h = record { fixed = account_fixed 55 refl refl; number = refl; kept = refl; bound = refl }
known (suc (suc (suc (suc (suc (suc (suc (suc zero)))))))) h = record { fixed = done_fixed; number = refl; kept = refl; bound = refl }
known (suc (suc (suc (suc (suc (suc (suc (suc (suc x))))))))) h = absurd (omega (arith, h))

-- ---- terms within all cells

abbrev pub Reads : ℕ → Tree → Type 0
Reads n tree = IsPart (term_tokens workload_names tree) n here tree here

reads_cell : (n x : ℕ) → x < 9 → Reads n (Tree.Var x)
unfolding term_tokens
reads_cell n x h = variable_part n here (spelled x) x (known x h)

reads_number : (n v : ℕ) → v < 2 ^ 63 → Reads n (numeral v)
unfolding term_tokens
reads_number n v small = number_part n here v small

reads_one : {which : Word} {operator : Unary} (n : ℕ) (part : Tree) → IsUnary which operator → Reads n part → Reads (suc n) (Tree.One operator part)
unfolding term_tokens
reads_one n part is p = one_part (term_tokens workload_names part) n here part is p

reads_two : {next : Ahead} {operator : Binary} (n : ℕ) (left right : Tree) → IsBinary next operator → Reads n left → Reads n right → Reads (suc n) (Tree.Two operator left right)
unfolding term_tokens
reads_two n left right is p q = two_part (term_tokens workload_names left) (term_tokens workload_names right) n here left right is p q

reads_async : (n : ℕ) (part : Tree) → Reads n part → Reads (suc n) (Tree.Async part)
unfolding term_tokens
reads_async n part p = async_part (term_tokens workload_names part) n here part p

reads_content : (n x : ℕ) → x < 9 → Reads (suc n) (content x)
reads_content n x h = reads_one n (Tree.Var x) IsUnary.get (reads_cell n x h)

reads_updated : {symbol : ℕ} {operator : Op} (n x v : ℕ) → IsOp symbol operator → x < 9 → v < 2 ^ 63 → Reads (suc (suc (suc n))) (updated operator x v)
reads_updated {operator = operator} n x v is h small =
    reads_two (suc (suc n)) (Tree.Var x) _ IsBinary.set (reads_cell (suc (suc n)) x h)
    (reads_two (suc n) (content x) (numeral v) (IsBinary.operation is) (reads_content n x h) (reads_number (suc n) v small))

-- the levels of a member's parts
abbrev pub deep : ℕ → ℕ
deep n = suc (suc (suc (suc n)))

-- the parts of a `do` form
abbrev pub ReadParts : ℕ → List Tree → Type 0
ReadParts n parts = IsRow workload_names n here parts

none : (n : ℕ) → ReadParts n []
none n = no_more_parts workload_names n here

more : (n : ℕ) (part : Tree) (others : List Tree) → Reads n part → ReadParts n others → ReadParts n (part ∷ others)
more n part others p q = one_more_part workload_names n here part others p q

reads_do : (n : ℕ) (parts : List Tree) → 2 ≤ length parts → ReadParts n parts → Reads (suc n) (Tree.Do (row parts))
reads_do n parts two p = do_part workload_names n here parts two p

-- a member that waits, in its `do` form
reads_member : (n : ℕ) (parts : List Tree) → 2 ≤ length parts → ReadParts n parts → Reads (suc (suc n)) (Tree.Async (Tree.Do (row parts)))
reads_member n parts two p = reads_async (suc n) (Tree.Do (row parts)) (reads_do n parts two p)

abbrev transfer_parts : Transfer → List Tree
transfer_parts t =
    Tree.One unary.Block (Tree.One unary.Not (Tree.Two (binary.Bin op.Less) (content t.from) (numeral t.amount)))
    ∷ updated op.Sub t.from t.amount ∷ updated op.Add t.to t.amount ∷ updated op.Add counter 1 ∷ []

pub reads_transfer : (n : ℕ) (t : Transfer) → IsTransfer t → Reads (suc (suc (deep n))) (transfer_term t)
reads_transfer n t valid =
    let from : t.from < 9 = omega (arith, valid.from) in
    let to : t.to < 9 = omega (arith, valid.to) in
    let amount : t.amount < 2 ^ 63 = omega (arith, valid.most) in
    let enough = reads_two (suc n) (content t.from) (numeral t.amount) (IsBinary.operation (IsOp.spells op.Less)) (reads_content n t.from from) (reads_number (suc n) t.amount amount) in
    reads_member (deep n) (transfer_parts t) (omega arith)
    (more (deep n) _ _ (reads_one (suc (suc (suc n))) _ IsUnary.block_until (reads_one (suc (suc n)) _ IsUnary.negation enough))
    (more (deep n) _ _ (reads_updated (suc n) t.from t.amount (IsOp.spells op.Sub) from amount)
    (more (deep n) _ _ (reads_updated (suc n) t.to t.amount (IsOp.spells op.Add) to amount)
    (more (deep n) _ _ (reads_updated (suc n) counter 1 (IsOp.spells op.Add) (omega arith) (omega arith))
    (none (deep n))))))

pub reads_print : (n x : ℕ) → x < 9 → Reads (suc (suc n)) (print_term x)
reads_print n x h = reads_one (suc n) (content x) IsUnary.print (reads_content n x h)

prints_read : (n : ℕ) (xs : List ℕ) → AllByRecursion (λ x. x < 9) xs → ReadParts (deep n) (map print_term xs)
prints_read n [] all = none (deep n)
prints_read n (x ∷ xs) all = more (deep n) (print_term x) (map print_term xs) (reads_print (suc (suc n)) x all.0) (prints_read n xs all.1)

pub accounts_are_cells : AllByRecursion (λ x. x < 8) accounts
accounts_are_cells = (omega arith, (omega arith, (omega arith, (omega arith, (omega arith, (omega arith, (omega arith, (omega arith, tt))))))))

among_all : (xs : List ℕ) → AllByRecursion (λ x. x < 8) xs → AllByRecursion (λ x. x < 9) xs
among_all [] all = tt
among_all (x ∷ xs) all = let below : x < 8 = all.0 in (omega (arith, below), among_all xs all.1)

-- what the report waits for
abbrev pub waits_term : ℕ → Tree
waits_term size = Tree.One unary.Block (Tree.Two (binary.Bin op.Same) (content counter) (numeral size))

pub reads_waits : (n size : ℕ) → size < 2 ^ 63 → Reads (suc (suc (suc n))) (waits_term size)
reads_waits n size small =
    reads_one (suc (suc n)) _ IsUnary.block_until
    (reads_two (suc n) (content counter) (numeral size) (IsBinary.operation (IsOp.spells op.Same)) (reads_content n counter (omega arith)) (reads_number (suc n) size small))

reads_report : (n size : ℕ) → size < 2 ^ 63 → Reads (suc (suc (deep n))) (report_term size)
reads_report n size small =
    reads_member (deep n) (waits_term size ∷ map print_term accounts) (omega arith)
    (more (deep n) (waits_term size) (map print_term accounts) (reads_waits (suc n) size small) (prints_read n accounts (among_all accounts accounts_are_cells)))

members_read : (n size : ℕ) (ts : List Transfer) → size < 2 ^ 63 → AllByRecursion IsTransfer ts → ReadParts (suc (suc (deep n))) (map transfer_term ts ++ report_term size ∷ [])
members_read n size [] small all = more (suc (suc (deep n))) (report_term size) [] (reads_report n size small) (none (suc (suc (deep n))))
members_read n size (t ∷ ts) small all =
    more (suc (suc (deep n))) (transfer_term t) (map transfer_term ts ++ report_term size ∷ []) (reads_transfer n t all.0) (members_read n size ts small all.1)

length_transfers : (seed size : ℕ) → length (transfers seed size) ≡ size
length_transfers seed zero = refl
length_transfers seed (suc size) = omega (arith, length-append (transfers seed size) (transfer seed size ∷ []), length_transfers seed size)

reads_members : (n seed size : ℕ) → 1 ≤ size → size < 2 ^ 63 → AllByRecursion IsTransfer (transfers seed size) → Reads (suc (suc (suc (deep n)))) (members_term seed size)
reads_members n seed size some small all =
    let members = map transfer_term (transfers seed size) in
    let two : 2 ≤ length (members ++ report_term size ∷ []) =
    omega (arith, some, length-append members (report_term size ∷ []), length-map (transfers seed size) transfer_term, length_transfers seed size) in
    reads_do (suc (suc (deep n))) (members ++ report_term size ∷ []) two (members_read n size (transfers seed size) small all)

-- ---- the cells

abbrev names_after : List Text → List ℕ → List Text
names_after names [] = names
names_after names (cell ∷ cells) = names_after (with_name names (spelled cell)) cells

abbrev scope_after : List ℕ → List ℕ → List ℕ
scope_after scope [] = scope
scope_after scope (cell ∷ cells) = scope_after (scope ++ cell ∷ []) cells

abbrev refs_after : ℕ → List ℕ → ℕ
refs_after ref [] = ref
refs_after ref (cell ∷ cells) = refs_after (ref + 1) cells

-- as many levels more
abbrev level : List ℕ → ℕ → ℕ
level [] n = n
level (cell ∷ cells) n = suc (level cells n)

-- the spellings get these numbers, one after another
abbrev AreNumbered : List Text → List ℕ → Type 0
AreNumbered names [] = Unit {0}
AreNumbered names (cell ∷ cells) = IsFixed (word (spelled cell)) a.Name × (number_in names (spelled cell) ≡ cell) × AreNumbered (with_name names (spelled cell)) cells

level_some : (cells : List ℕ) (n : ℕ) → 1 ≤ n → 1 ≤ level cells n
level_some [] n some = some
level_some (cell ∷ cells) n some = omega arith

value_part : (n ref start : ℕ) (names : List Text) (scope : List ℕ) → 1 ≤ n → start < 2 ^ 63
    → IsPart (term_tokens workload_names (first_value ref start)) n (input_with names scope ref) (first_value ref start) (input_with names scope (ref + 1))
unfolding term_tokens ref_counted
value_part zero ref start names scope some small = absurd (omega (arith, some))
value_part (suc n) ref start names scope some small =
    ref_part sorts.Protected (term_tokens workload_names (numeral start)) n (input_with names scope ref) (numeral start) (number_part n (input_with names scope (ref + 1)) start small)

cells_read : (n ref start : ℕ) (cells : List ℕ) (names last : List Text) (scope : List ℕ) (refs : ℕ) (body : Tree) → 1 ≤ n → start < 2 ^ 63 → AreNumbered names cells
    → IsPart (term_tokens workload_names body) n (input_with (names_after names cells) (scope_after scope cells) (refs_after ref cells)) body (input_with last (scope_after scope cells) refs)
    → IsPart (term_tokens workload_names (with_cells ref start cells body)) (level cells n) (input_with names scope ref) (with_cells ref start cells body) (input_with last scope refs)
unfolding term_tokens
cells_read n ref start [] names last scope refs body some small new p = p
cells_read n ref start (cell ∷ cells) names last scope refs body some small new p =
    let within = with_cells (ref + 1) start cells body in
    let rest = cells_read n (ref + 1) start cells (with_name names (spelled cell)) last (scope ++ cell ∷ []) refs body some small new.2 p in
    let value = first_value ref start in
    let_part (term_tokens workload_names value) (term_tokens workload_names within) (level cells n) cell (spelled cell) names last scope ref (ref + 1) refs value within new.0 new.1
    (value_part (level cells n) ref start (with_name names (spelled cell)) scope (level_some cells n some) small) rest

pub fixed : (x : ℕ) → x < 9 → IsFixed (word (spelled x)) a.Name
fixed x h = (known x h).fixed

accounts_numbered : AreNumbered [] accounts
accounts_numbered = (
  fixed 0 (omega arith),
  refl,
  (fixed 1 (omega arith), refl, (fixed 2 (omega arith), refl, (fixed 3 (omega arith), refl, (fixed 4 (omega arith), refl, (fixed 5 (omega arith), refl, (fixed 6 (omega arith), refl, (fixed 7 (omega arith), refl, tt))))))),
)

counter_numbered : AreNumbered (names_after [] accounts) (counter ∷ [])
counter_numbered = (fixed 8 (omega arith), refl, tt)

abbrev members_level : ℕ
members_level = suc (suc (suc (deep 184)))

pub workload_reads : (seed size : ℕ) → 1 ≤ size → size ≤ 4000 → AllByRecursion IsTransfer (transfers seed size)
    → IsPart (term_tokens workload_names (workload_term seed size)) 200 (input_with [] [] 0) (workload_term seed size) (input_with workload_names [] 9)
workload_reads seed size some most all =
    let body = members_term seed size in
    let names = names_after [] accounts in
    let scope = scope_after [] accounts in
    let members = reads_members 184 seed size some (omega (arith, most)) all in
    let counting = cells_read members_level counter 0 (counter ∷ []) names workload_names scope 9 body (omega arith) (omega arith) counter_numbered members in
    cells_read (suc members_level) 0 (initial_balance size) accounts [] workload_names [] 9 (with_cells counter 0 (counter ∷ []) body) (omega arith) (omega (arith, most)) accounts_numbered counting
