-- The length of the text.
use Rattle.std.proofs.Common.{◌≡◌, ℕ, zero, suc, ◌+◌, ◌*◌, ◌<◌, ◌≤◌, List, [], ◌∷◌, ◌++◌, length, decimal, codes, refl, ap, ◌∙◌, arith, length-append}
use Rattle.std.specs.List.{flat_map}
use Rattle.std.proofs.lemmas.Fmt.{decimal_digit, length-decimal-le}
use Rattle.std.proofs.lemmas.Grind.{flat_map-append}
use Rattle.ame_gen.specs.declared.transfers.Transfer.{Transfer}
use Rattle.ame_gen.specs.Transfers.{accounts, transfer, transfers, IsTransfer}
use Rattle.ame_gen.specs.Balances.{initial_balance}
use Rattle.ame_gen.specs.Template.{account_line, transfer_line, print_of, report_line, account_lines, transfer_lines, program_text}
use Rattle.ame_gen.proofs.MoneyLemmas.{IsTransfer-transfer}

length-digit : (n : ℕ) → n < 10 → length (decimal n) ≡ 1
length-digit n h = ap length (decimal_digit n h)

length-transfer_line : (t : Transfer) → IsTransfer t → length (transfer_line t) ≡ 123
length-transfer_line t valid =
    let from : length (decimal t.from) ≡ 1 = length-digit t.from (omega arith) in
    let to : length (decimal t.to) ≡ 1 = length-digit t.to (omega arith) in
    let amount : length (decimal t.amount) ≡ 1 = length-digit t.amount (omega arith) in
    simp (length-append, from, to, amount)

length-transfer_lines : (seed size : ℕ) → length (transfer_lines seed size) ≡ 123 * size
length-transfer_lines seed zero = refl
length-transfer_lines seed (suc size) =
    let t = transfer seed size in
    let front = transfers seed size in
    let split : length (transfer_lines seed (suc size)) ≡ length (transfer_lines seed size) + length (transfer_line t ++ []) =
    ap length (flat_map-append transfer_line front (t ∷ [])) ∙ length-append (transfer_lines seed size) (transfer_line t ++ []) in
    omega (arith, split, length-append (transfer_line t) [], length-transfer_line t (IsTransfer-transfer seed size), length-transfer_lines seed size)

length-account_line : (money account : ℕ) → account < 10 → money < 100000 → length (account_line money account) ≤ 22
length-account_line money account digit small =
    let one : length (decimal account) ≡ 1 = length-digit account digit in
    let five : length (decimal money) ≤ 5 = length-decimal-le 5 money (omega arith) (omega arith) (omega arith) in
    simp (length-append, one) (omega arith)

length-account_lines : (money : ℕ) → money < 100000 → length (account_lines money) ≤ 176
length-account_lines money small =
    let line = account_line money in
    let one : (a : ℕ) → a < 10 → length (line a) ≤ 22 = λ a digit. length-account_line money a digit small in
    eight-lines line one
  where
    eight-lines : (f : ℕ → List ℕ) → ((a : ℕ) → a < 10 → length (f a) ≤ 22) → length (flat_map f accounts) ≤ 176
    eight-lines f each = simp length-append (omega (arith, each 0 (omega arith), each 1 (omega arith), each 2 (omega arith), each 3 (omega arith), each 4 (omega arith), each 5 (omega arith), each 6 (omega arith), each 7 (omega arith)))

length-prints : length (flat_map print_of accounts) ≡ 136
length-prints =
    simp length-append (omega (
      arith,
      length-digit 0 (omega arith),
      length-digit 1 (omega arith),
      length-digit 2 (omega arith),
      length-digit 3 (omega arith),
      length-digit 4 (omega arith),
      length-digit 5 (omega arith),
      length-digit 6 (omega arith),
      length-digit 7 (omega arith),
    ))

length-report_line : (size : ℕ) → size < 10000 → length (report_line size) ≤ 182
length-report_line size small =
    let digits : length (decimal size) ≤ 4 = length-decimal-le 4 size (omega arith) (omega arith) (omega arith) in
    omega (arith, around (decimal size) (flat_map print_of accounts), length-prints)
  where
    around : (d p : List ℕ) → length (codes "(async (do (blockUntil (= (get done) " ++ d ++ codes "))" ++ p ++ codes "))\n") ≡ length d + length p + 42
    around d p = simp length-append (omega arith)

pub length-text : (seed size : ℕ) → size ≤ 4000 → length (program_text seed size) ≤ 123 * size + 393
length-text seed size small =
    let money : initial_balance size < 100000 = omega arith in
    omega (arith, whole (account_lines (initial_balance size)) (transfer_lines seed size) (report_line size), length-account_lines (initial_balance size) money, length-transfer_lines seed size, length-report_line size (omega arith))
  where
    whole : (a t r : List ℕ) → length (a ++ codes "(let done (ref p 0)\n" ++ codes "(do\n" ++ t ++ r ++ codes "))))))))))\n") ≡ length a + length t + length r + 35
    whole a t r = simp length-append (omega arith)
