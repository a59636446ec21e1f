-- A journal is judged in one way.
use Rattle.std.proofs.Common.{◌≡◌, ℕ, ◌+◌, ◌-◌, ◌<◌, ◌≤◌, ℤ, List, take, Some, None, sym, ap, ◌∙◌, subst, arith, take-take}
use Rattle.std.proofs.lemmas.List.Sums.{sum_by-take-le}
use Rattle.ame_term.specs.Tree.{Tree}
use Rattle.ame_journal.specs.Replayed.{Replayed}
use Rattle.ame_journal.specs.Replay.{replay}
use Rattle.ame_journal.specs.Totals.{total_steps}
use Rattle.ame_journal.specs.declared.entry.Entry.{Entry}
use Rattle.ame_check.specs.Judge.{most_steps, IsLong, LeadsTo, IsInvalid, IsTallAt, Judges, AreAlike}
use Rattle.ame_check.specs.declared.reason.Reason.{Reason}
use Rattle.ame_check.specs.declared.judging.Judged.{Judged}
use Rattle.ame_check.specs.declared.judging.Judged.TheVariants as judged
use Rattle.ame_check.proofs.JudgeLemmas.{none-longer}

-- two numbers that aren't below each other are the same
one-number : (m n : ℕ) → (m < n → ⊥) → (n < m → ⊥) → m ≡ n
one-number m n not_below not_above = grind arith

-- with more entries there are more steps
long-before : (entries : List Entry) (m n : ℕ) → IsLong entries m → IsLong entries n → m < n → ⊥
long-before entries m n one two below =
    let above : 100000000 < total_steps (take m entries) = one.above in
    let before : total_steps (take (n - 1) entries) ≤ 100000000 = two.before in
    let more : total_steps (take m entries) ≤ total_steps (take (n - 1) entries) =
    subst (λ (es : List Entry). total_steps es ≤ total_steps (take (n - 1) entries)) (take-take m (n - 1) entries (omega (arith, below)))
    (sum_by-take-le (λ (e : Entry). e.steps + 1) (take (n - 1) entries) m) in
    omega (arith, above, before, more)

long-short : (entries : List Entry) (n : ℕ) → IsLong entries n → total_steps entries ≤ most_steps → ⊥
long-short entries n long short =
    let above : 100000000 < total_steps (take n entries) = long.above in
    let all : total_steps entries ≤ 100000000 = short in
    let more = sum_by-take-le (λ (e : Entry). e.steps + 1) entries n in
    omega (arith, above, all, more)

module _ (program : Tree) (entries : List Entry) where
  none-before : (m n : ℕ) (r : Replayed) → replay program (take m entries) ≡ None → replay program (take (n - 1) entries) ≡ Some r → m < n → ⊥
  none-before m n r none some below =
      let clash : None ≡ Some r = sym (none-longer program entries m (n - 1) (omega (arith, below)) none) ∙ some in
      cc

  invalid-leads : (n : ℕ) (why : Reason) (output : List ℤ) → IsInvalid program entries n why → LeadsTo program entries output → ⊥
  invalid-leads n why output bad leads = let clash : None ≡ Some leads.led = sym bad.there.never ∙ leads.replayed in cc

  one-output : (output other : List ℤ) → LeadsTo program entries output → LeadsTo program entries other → output ≡ other
  one-output output other a b =
      let same : a.led ≡ b.led = (let both : Some a.led ≡ Some b.led = sym a.replayed ∙ b.replayed in cc) in
      a.printed ∙ ap (λ (r : Replayed). r.state.output) same ∙ sym b.printed

  one-tall : (m n : ℕ) → IsTallAt program entries m → IsTallAt program entries n → m ≡ n
  one-tall m n a b = one-number m n (λ below. b.there.first m below a.there.passes) (λ below. a.there.first n below b.there.passes)

  one-invalid : (m n : ℕ) (why other : Reason) → IsInvalid program entries m why → IsInvalid program entries n other → m ≡ n
  one-invalid m n why other a b =
      one-number m n (none-before m n b.there.led a.there.undefined b.there.replayed) (none-before n m a.there.led b.there.undefined a.there.replayed)

  -- what it is judged to be is one of the four, at one place
  pub judged-once : (one other : Judged) → Judges program entries one → Judges program entries other → AreAlike one other
  judged-once (judged.Valid output) (judged.Valid other) a b = one-output output.items other.items a b
  judged-once (judged.Valid output) (judged.Invalid n why) a b = invalid-leads n why output.items b a
  judged-once (judged.Valid output) (judged.Long n) a b = long-short entries n b a.short
  judged-once (judged.Valid output) (judged.Tall n) a b = a.low n b.there.passes
  judged-once (judged.Invalid m why) (judged.Valid other) a b = invalid-leads m why other.items a b
  judged-once (judged.Invalid m why) (judged.Invalid n reason) a b = one-invalid m n why reason a b
  judged-once (judged.Invalid m why) (judged.Long n) a b = long-short entries n b a.short
  judged-once (judged.Invalid m why) (judged.Tall n) a b = a.there.low n b.there.passes
  judged-once (judged.Long m) (judged.Valid other) a b = long-short entries m a b.short
  judged-once (judged.Long m) (judged.Invalid n why) a b = long-short entries m a b.short
  judged-once (judged.Long m) (judged.Long n) a b = one-number m n (long-before entries m n a b) (long-before entries n m b a)
  judged-once (judged.Long m) (judged.Tall n) a b = long-short entries m a b.short
  judged-once (judged.Tall m) (judged.Valid other) a b = b.low m a.there.passes
  judged-once (judged.Tall m) (judged.Invalid n why) a b = b.there.low m a.there.passes
  judged-once (judged.Tall m) (judged.Long n) a b = long-short entries n b a.short
  judged-once (judged.Tall m) (judged.Tall n) a b = one-tall m n a b
