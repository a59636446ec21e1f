-- The transfers that a seed determines.
use Rattle.std.specs.Prelude.{ℕ, zero, suc, ◌+◌, ◌*◌, ◌%◌, ◌<◌, ◌≤◌, List, [], ◌∷◌, ◌++◌}
use Rattle.std.specs.List.{range_with_len}
use Rattle.ame_gen.specs.declared.transfers.Transfer.{Transfer}
use Rattle.ame_gen.specs.Stream.{next, stream_at}

-- the accounts, by their numbers
abbrev pub accounts : List ℕ
accounts = range_with_len 0 8

-- the transfer in this place, from 0: each takes the next three numbers
abbrev pub transfer : ℕ → ℕ → Transfer
transfer seed place = record {
  from = stream_at seed (3 * place + 1) % 8;
  to = stream_at seed (3 * place + 2) % 8;
  amount = stream_at seed (3 * place + 3) % 9 + 1;
}

-- the first transfers, as many as this
abbrev pub transfers : ℕ → ℕ → List Transfer
transfers seed zero = []
transfers seed (suc size) = transfers seed size ++ transfer seed size ∷ []

-- a transfer of 1 to 9 between two of the accounts
pub record IsTransfer (t : Transfer) : Type 0 where
  pub from : t.from < 8
  pub to : t.to < 8
  pub some : 1 ≤ t.amount
  pub most : t.amount ≤ 9

-- the transfer of the three numbers after this one
abbrev pub drawn_after : ℕ → Transfer
drawn_after x = record { from = next x % 8; to = next (next x) % 8; amount = next (next (next x)) % 9 + 1 }
