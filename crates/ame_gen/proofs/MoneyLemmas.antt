-- The sums that accounts pay and get.
use Rattle.std.proofs.Common.{◌≡◌, ℕ, zero, suc, ◌+◌, ◌*◌, ◌<◌, ◌≤◌, ◌==◌, Bool, true, false, cond, All, map, sum, sum_by, refl, arith, rules}
use Rattle.std.proofs.lemmas.List.Elements.{All-push}
use Rattle.std.proofs.lemmas.List.Sums.{sum_by_push}
use Rattle.ame_gen.specs.declared.transfers.Transfer.{Transfer}
use Rattle.ame_gen.specs.Transfers.{accounts, transfer, transfers, IsTransfer}
use Rattle.ame_gen.specs.Balances.{initial_balance, paid_out, got, balance}

pub IsTransfer-transfer : (seed place : ℕ) → IsTransfer (transfer seed place)
IsTransfer-transfer seed place = record { from = omega arith; to = omega arith; some = omega arith; most = omega arith }

pub all-valid : (seed size : ℕ) → All IsTransfer (transfers seed size)
all-valid seed zero = search rules
all-valid seed (suc size) = All-push IsTransfer (transfers seed size) (transfer seed size) (all-valid seed size) (IsTransfer-transfer seed size)

-- an amount or nothing
choice-le : (b : Bool) (n : ℕ) → cond b n 0 ≤ n
choice-le true n = omega arith
choice-le false n = omega arith

pub paid-le-start : (seed size account : ℕ) → sum_by (paid_out account) (transfers seed size) ≤ initial_balance size
paid-le-start seed zero account = omega arith
paid-le-start seed (suc size) account =
    let t = transfer seed size in
    let before = paid-le-start seed size account in
    let one : paid_out account t ≤ 9 = omega (arith, choice-le (t.from == account) t.amount, (IsTransfer-transfer seed size).most) in
    omega (arith, sum_by_push (paid_out account) (transfers seed size) t)

-- what all accounts pay or get in a transfer is its amount
each-once : (k n : ℕ) → k < 8 → sum (map (λ a. cond (k == a) n 0) accounts) ≡ n
each-once zero n h = omega arith
each-once (suc zero) n h = omega arith
each-once (suc (suc zero)) n h = omega arith
each-once (suc (suc (suc zero))) n h = omega arith
each-once (suc (suc (suc (suc zero)))) n h = omega arith
each-once (suc (suc (suc (suc (suc zero))))) n h = omega arith
each-once (suc (suc (suc (suc (suc (suc zero)))))) n h = omega arith
each-once (suc (suc (suc (suc (suc (suc (suc zero))))))) n h = omega arith
each-once (suc (suc (suc (suc (suc (suc (suc (suc k)))))))) n h = absurd (omega arith)

paid-once : (t : Transfer) → IsTransfer t → sum (map (λ a. paid_out a t) accounts) ≡ t.amount
paid-once t valid = each-once t.from t.amount valid.from

got-once : (t : Transfer) → IsTransfer t → sum (map (λ a. got a t) accounts) ≡ t.amount
got-once t valid = each-once t.to t.amount valid.to

-- what all accounts pay in all transfers is what they get
all-paid : (seed size : ℕ) → sum (map (λ a. sum_by (paid_out a) (transfers seed size)) accounts) ≡ sum (map (λ a. sum_by (got a) (transfers seed size)) accounts)
all-paid seed zero = refl
all-paid seed (suc size) =
    let t = transfer seed size in
    let ts = transfers seed size in
    let valid = IsTransfer-transfer seed size in
    omega (
      arith,
      all-paid seed size,
      paid-once t valid,
      got-once t valid,
      sum_by_push (paid_out 0) ts t,
      sum_by_push (paid_out 1) ts t,
      sum_by_push (paid_out 2) ts t,
      sum_by_push (paid_out 3) ts t,
      sum_by_push (paid_out 4) ts t,
      sum_by_push (paid_out 5) ts t,
      sum_by_push (paid_out 6) ts t,
      sum_by_push (paid_out 7) ts t,
      sum_by_push (got 0) ts t,
      sum_by_push (got 1) ts t,
      sum_by_push (got 2) ts t,
      sum_by_push (got 3) ts t,
      sum_by_push (got 4) ts t,
      sum_by_push (got 5) ts t,
      sum_by_push (got 6) ts t,
      sum_by_push (got 7) ts t,
    )

balance-plus-paid : (seed size account : ℕ) → balance seed size account + sum_by (paid_out account) (transfers seed size) ≡ initial_balance size + sum_by (got account) (transfers seed size)
balance-plus-paid seed size account = omega (arith, paid-le-start seed size account)

pub all-balances : (seed size : ℕ) → sum (map (balance seed size) accounts) ≡ 8 * initial_balance size
all-balances seed size =
    eight-parts (balance seed size) (λ a. sum_by (paid_out a) (transfers seed size)) (λ a. sum_by (got a) (transfers seed size)) (initial_balance size) (balance-plus-paid seed size) (all-paid seed size)
  where
    eight-parts : (b p g : ℕ → ℕ) (s : ℕ) → ((a : ℕ) → b a + p a ≡ s + g a) → sum (map p accounts) ≡ sum (map g accounts) → sum (map b accounts) ≡ 8 * s
    eight-parts b p g s each same = omega (arith, each 0, each 1, each 2, each 3, each 4, each 5, each 6, each 7)
