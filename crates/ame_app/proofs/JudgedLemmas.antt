-- An input is split in one way, within it, and a journal is judged in one way.
use Rattle.std.proofs.Common.{◌≡◌, ◌⊎◌, inl, inr, ℕ, ◌+◌, ◌-◌, ◌<◌, ◌≤◌, ℤ, List, length, take, drop, codes, Some, None, sym, ap, ◌∙◌, subst, arith}
use Rattle.std.proofs.Common.{take-take, length-append, length-drop}
use Rattle.std.proofs.lemmas.List.Sums.{sum_by-take-le}
use Rattle.ame_term.specs.Tree.{Tree}
use Rattle.ame_journal.specs.Replayed.{Replayed}
use Rattle.ame_journal.specs.Replay.{replay}
use Rattle.ame_journal.specs.Totals.{total_steps}
use Rattle.ame_journal.specs.declared.entry.Entry.{Entry}
use Rattle.ame_check.specs.Input.{IsSplit}
use Rattle.ame_check.specs.Judge.{most_steps, IsLong, LeadsTo, IsInvalid}
use Rattle.ame_check.specs.declared.reason.Reason.{Reason}
use Rattle.ame_check.proofs.JudgeLemmas.{undefined-all}

below-or-far : (m n : ℕ) → (m < n) ⊎ (n ≤ m)
below-or-far m n = grind arith

-- two numbers are the same if neither is below the other
pub one-number : (m n : ℕ) → (m < n → ⊥) → (n < m → ⊥) → m ≡ n
one-number m n not_below not_above = elim (below-or-far m n) [
  | inl below ↦ absurd (not_below below)
  | inr far ↦ elim (below-or-far n m) [
    | inl above ↦ absurd (not_above above)
    | inr near ↦ omega (arith, far, near)
  ]
]

pub split-same : (bytes : List ℕ) (a s b t : ℕ) → IsSplit bytes a s → IsSplit bytes b t → (a ≡ b) × (s ≡ t)
split-same bytes a s b t one two =
    let same = one-number a b (λ below. two.first a below one.line) (λ above. one.first b above two.line) in
    (same, one.behind ∙ ap (λ (n : ℕ). n + 8) same ∙ sym two.behind)

pub split-within : (bytes : List ℕ) (before start : ℕ) → IsSplit bytes before start → start ≤ length bytes
split-within bytes before start split =
    let line : length (drop before bytes) ≡ 8 + length split.line.rest = ap length split.line.line ∙ length-append (codes "program\n") split.line.rest in
    let left = length-drop before bytes in
    let behind = split.behind in
    omega (arith, line, left, behind)

module _ (program : Tree) (entries : List Entry) where
  -- what follows entries that can't be replayed can't be either
  none-longer : (m n : ℕ) → m ≤ n → replay program (take m entries) ≡ None → replay program (take n entries) ≡ None
  none-longer m n within none = undefined-all program (take n entries) m (ap (replay program) (take-take m n entries within) ∙ none)

  none-before : (m n : ℕ) (r : Replayed) → replay program (take m entries) ≡ None → replay program (take (n - 1) entries) ≡ Some r → m < n → ⊥
  none-before m n r none some below =
      let clash : None ≡ Some r = sym (none-longer m (n - 1) (omega (arith, below)) none) ∙ some in
      cc

  pub invalid-one : (m n : ℕ) (why other : Reason) → IsInvalid program entries m why → IsInvalid program entries n other → m ≡ n
  invalid-one m n why other one two =
      one-number m n (none-before m n two.there.led one.there.undefined two.there.replayed) (none-before n m one.there.led two.there.undefined one.there.replayed)

  pub invalid-leads : (n : ℕ) (why : Reason) (output : List ℤ) → IsInvalid program entries n why → LeadsTo program entries output → ⊥
  invalid-leads n why output bad leads = let clash : None ≡ Some leads.led = sym bad.there.never ∙ leads.replayed in cc

-- with more entries there are more steps
steps-grow : (entries : List Entry) (m n : ℕ) → m ≤ n → total_steps (take m entries) ≤ total_steps (take n entries)
steps-grow entries m n within =
    subst (λ (es : List Entry). total_steps es ≤ total_steps (take n entries)) (take-take m n entries within)
    (sum_by-take-le (λ (e : Entry). e.steps + 1) (take n entries) m)

long-before : (entries : List Entry) (m n : ℕ) → IsLong entries m → IsLong entries n → m < n → ⊥
long-before entries m n one two below =
    let above : 100000000 < total_steps (take m entries) = one.above in
    let before : total_steps (take (n - 1) entries) ≤ 100000000 = two.before in
    let more = steps-grow entries m (n - 1) (omega (arith, below)) in
    omega (arith, above, before, more)

pub long-one : (entries : List Entry) (m n : ℕ) → IsLong entries m → IsLong entries n → m ≡ n
long-one entries m n one two = one-number m n (long-before entries m n one two) (long-before entries n m two one)

pub long-short : (entries : List Entry) (n : ℕ) → IsLong entries n → total_steps entries ≤ most_steps → ⊥
long-short entries n long short =
    let above : 100000000 < total_steps (take n entries) = long.above in
    let all : total_steps entries ≤ 100000000 = short in
    let more = sum_by-take-le (λ (e : Entry). e.steps + 1) entries n in
    omega (arith, above, all, more)
