-- The text of the program.
use Rattle.std.specs.Prelude.{ℕ, List, ◌++◌, codes, decimal}
use Rattle.std.specs.List.{flat_map}
use Rattle.ame_gen.specs.declared.transfers.Transfer.{Transfer}
use Rattle.ame_gen.specs.Transfers.{accounts, transfers}
use Rattle.ame_gen.specs.Balances.{initial_balance}

-- a cell for an account
abbrev pub account_line : ℕ → ℕ → List ℕ
account_line money account = codes "(let a" ++ decimal account ++ codes " (ref p " ++ decimal money ++ codes ")\n"

-- a member that waits until the account has the amount, and then moves it
abbrev pub transfer_line : Transfer → List ℕ
transfer_line t =
    codes "(async (do (blockUntil (not (< (get a" ++ decimal t.from ++ codes ") " ++ decimal t.amount ++ codes "))) (set a" ++ decimal t.from
    ++ codes " (- (get a" ++ decimal t.from ++ codes ") " ++ decimal t.amount ++ codes ")) (set a" ++ decimal t.to ++ codes " (+ (get a" ++ decimal t.to
    ++ codes ") " ++ decimal t.amount ++ codes ")) (set done (+ (get done) 1))))\n"

-- what prints an account
abbrev pub print_of : ℕ → List ℕ
print_of account = codes " (print (get a" ++ decimal account ++ codes "))"

-- a member that waits for all transfers, and then prints each account
abbrev pub report_line : ℕ → List ℕ
report_line size = codes "(async (do (blockUntil (= (get done) " ++ decimal size ++ codes "))" ++ flat_map print_of accounts ++ codes "))\n"

abbrev pub account_lines : ℕ → List ℕ
account_lines money = flat_map (account_line money) accounts

abbrev pub transfer_lines : ℕ → ℕ → List ℕ
transfer_lines seed size = flat_map transfer_line (transfers seed size)

-- the whole text
abbrev pub program_text : ℕ → ℕ → List ℕ
program_text seed size =
    account_lines (initial_balance size) ++ codes "(let done (ref p 0)\n" ++ codes "(do\n" ++ transfer_lines seed size ++ report_line size ++ codes "))))))))))\n"
