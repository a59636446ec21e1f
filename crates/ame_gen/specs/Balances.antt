-- Balances of the accounts before and after the transfers.
use Rattle.std.specs.Prelude.{ℕ, ◌+◌, ◌-◌, ◌*◌, ◌==◌, if◌then◌else◌, sum_by}
use Rattle.ame_gen.specs.declared.transfers.Transfer.{Transfer}
use Rattle.ame_gen.specs.Transfers.{transfers}

-- what each account has at the beginning
abbrev pub initial_balance : ℕ → ℕ
initial_balance size = 9 * size

-- what an account pays in a transfer
abbrev pub paid_out : ℕ → Transfer → ℕ
paid_out account t = if t.from == account then t.amount else 0

-- what an account gets in a transfer
abbrev pub got : ℕ → Transfer → ℕ
got account t = if t.to == account then t.amount else 0

-- what an account has when all transfers were made
abbrev pub balance : ℕ → ℕ → ℕ → ℕ
balance seed size account = initial_balance size + sum_by (got account) (transfers seed size) - sum_by (paid_out account) (transfers seed size)
