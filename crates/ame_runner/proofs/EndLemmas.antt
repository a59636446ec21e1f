-- The report of a run goes up to the last moment with nothing active.
use Rattle.std.proofs.Common.{◌≡◌, ℕ, zero, suc, ◌+◌, ◌≤◌, ◌++◌, inl, inr, List, [], ◌∷◌, length, take, drop, Option, Some, refl, sym, ap, ◌∙◌, subst, arith}
use Rattle.std.specs.List.{AllByRecursion}
use Rattle.std.proofs.lemmas.List.{take_all}
use Rattle.ame_term.specs.Tree.{Tree}
use Rattle.ame_term.specs.declared.semantics.Label.{Label}
use Rattle.ame_weak.specs.Weak.{Weak, weak_start, IsWeakRun}
use Rattle.ame_weak.specs.Tries.{IsTried, AreTriesInOrder, straight_with}
use Rattle.ame_weak.specs.declared.tries.Try.{Try}
use Rattle.ame_runner.specs.Labels.{location_above}
use Rattle.ame_weak.specs.Bounds.{AreWithinBounds}
use Rattle.ame_runner.specs.Play.{PlayView}
use Rattle.ame_runner.specs.Within.{IsTriedWithinAt}
use Rattle.ame_runner.specs.Notes.{HasChange, AreSetApart, AreSpaced, HoldsAfter, without_cut}
use Rattle.ame_device.specs.declared.told.Told.{Told}
use Rattle.ame_shell.specs.Heard.{HaveHeard}
use Rattle.ame_shell.proofs.HeardLemmas.{heard-nothing}
use Rattle.ame_journal.specs.Totals.{total_steps}
use Rattle.ame_weak.specs.Straight.{straight, outset}
use Rattle.ame_runner.specs.Run.{CourseView, turns_of_tries, AreFailedTries, IsRunning, CanBeEnded, IsAtRunStart, KeepsFrame}
use Rattle.ame_runner.specs.Stop.{HasWeakCause, FailsBy, HeardSoFar, HasStoppedWeakly, RunsUntil}
use Rattle.ame_runner.specs.Ended.{EndTries, IsWeakRunOf, notes_of_stop, IsCounted, IsToldBy, TellsStop}
use Rattle.ame_runner.specs.declared.stop.WeakStop.{WeakStop}
use Rattle.ame_runner.proofs.RunLemmas.{running-ends}
use Rattle.ame_runner.proofs.TotalLemmas.{turns-told, both-steps, one-step}
use Rattle.ame_runner.proofs.NoteLemmas.{all-with}
use Rattle.ame_runner.proofs.CutLemmas.{without, failed-left, ends-without}

above-taken : (n : ℕ) (xs : List Label) → location_above (take n xs) ≤ location_above xs
above-taken zero xs = omega arith
above-taken (suc n) [] = omega arith
above-taken (suc n) (x ∷ xs) = let more = above-taken n xs in omega arith

within-taken : (n : ℕ) (w : Weak) (xs : List Label) → AreWithinBounds w xs → AreWithinBounds w (take n xs)
within-taken zero w xs all = tt
within-taken (suc n) w [] all = tt
within-taken (suc n) w (x ∷ xs) all = (all.0, λ v goes. within-taken n v xs (all.1 v goes))

order-taken : (n m k : ℕ) (ts : List Try) → AreTriesInOrder n m ts → AllByRecursion (λ t. t.after ≤ k) ts → AreTriesInOrder n k ts
order-taken n m k [] order few = tt
order-taken n m k (t ∷ ts) order few = (order.0, few.0, order-taken t.after m k ts order.2 few.1)

taken-twice : (n k : ℕ) (xs : List Label) → n ≤ k → take n (take k xs) ≡ take n xs
taken-twice zero k xs few = refl
taken-twice (suc n) zero xs few = absurd (omega arith)
taken-twice (suc n) (suc k) [] few = refl
taken-twice (suc n) (suc k) (x ∷ xs) few = ap (λ ys. x ∷ ys) (taken-twice n k xs (omega arith))

front-taken : (xs ys : List Label) → take (length xs) (xs ++ ys) ≡ xs
front-taken [] ys = refl
front-taken (x ∷ xs) ys = ap (λ zs. x ∷ zs) (front-taken xs ys)

taken-length : (n : ℕ) (xs : List Label) → n ≤ length xs → length (take n xs) ≡ n
taken-length zero xs few = refl
taken-length (suc n) [] few = absurd (omega arith)
taken-length (suc n) (x ∷ xs) few = ap suc (taken-length n xs (omega arith))

module _ (program : Tree) (labels : List Label) (k : ℕ) where
  tried-taken : (t : Try) → HoldsAfter program labels t → t.after ≤ k → IsTried program (take k labels) t
  tried-taken t holds few = λ front rest w parts count leads.
      let same : take t.after labels ≡ front =
      sym (taken-twice t.after k labels few) ∙ ap (take t.after) parts ∙ ap (λ n. take n (front ++ rest)) (sym count) ∙ front-taken front rest in
      (holds w (subst (λ ls. IsWeakRun program ls w) (sym same) leads)).0

  within-tried : (t : Try) → HoldsAfter program labels t → t.after ≤ k → IsTriedWithinAt program (take k labels) t
  within-tried t holds few = λ front rest w parts count leads.
      let same : take t.after labels ≡ front =
      sym (taken-twice t.after k labels few) ∙ ap (take t.after) parts ∙ ap (λ n. take n (front ++ rest)) (sym count) ∙ front-taken front rest in
      (holds w (subst (λ ls. IsWeakRun program ls w) (sym same) leads)).1

  spaced-taken : (ts : List Try) → AllByRecursion (λ t. t.after ≤ k) ts → AreSpaced labels ts → AreSpaced (take k labels) ts
  spaced-taken [] few spaced = tt
  spaced-taken (t ∷ ts) few spaced = (
    all-with (AreSetApart labels t) (λ u. u.after ≤ k) (AreSetApart (take k labels) t)
        (λ u apart here. λ one other same. subst (λ ls. HasChange (drop t.after ls)) (sym (taken-twice u.after k labels here)) (apart one other same)) ts spaced.0 few.1,
    spaced-taken ts few.1 spaced.1,
  )

pub ended-run : (r : CourseView) (stop : WeakStop) → CanBeEnded r → EndTries stop r.play.settled r.tries
    → IsWeakRunOf r.play.program r.limit (take r.play.settled r.play.labels) r.tries stop
ended-run r stop x few_cut =
    let s = x.played.settled in
    let count : length (take r.play.settled r.play.labels) ≡ r.play.settled = taken-length r.play.settled r.play.labels s.few in
    record {
      ends = record { weak = s.weak; leads = s.leads; active = s.idle };
      within = within-taken r.play.settled (weak_start r.play.program) r.play.labels x.played.within;
      below = let up = above-taken r.play.settled r.play.labels in let is = x.played.above in let few = x.few in omega (arith, up, is, few);
      order = subst (λ (m : ℕ). AreTriesInOrder 0 m r.tries) (sym count) (order-taken 0 (length r.play.labels) r.play.settled r.tries x.kept.order x.settled);
      tried =
          all-with (HoldsAfter r.play.program r.play.labels) (λ t. t.after ≤ r.play.settled) (IsTried r.play.program (take r.play.settled r.play.labels))
          (tried-taken r.play.program r.play.labels r.play.settled) r.tries x.kept.hold x.settled;
      tried_within =
          all-with (HoldsAfter r.play.program r.play.labels) (λ t. t.after ≤ r.play.settled) (IsTriedWithinAt r.play.program (take r.play.settled r.play.labels))
          (within-tried r.play.program r.play.labels r.play.settled) r.tries x.kept.hold x.settled;
      last = subst (λ (m : ℕ). EndTries stop m r.tries) (sym count) few_cut;
      spaced = spaced-taken r.play.program r.play.labels r.play.settled r.tries x.settled x.kept.spaced;
    }

-- A run that has stopped

-- the turns of a run that stops
record IsPaid (stop : WeakStop) (r : CourseView) : Type 0 where
  turns : ℕ
  before : IsRunning (record r { turns = turns })
  within : r.turns ≤ r.limit
  told : r.turns ≤ length r.play.labels + turns_of_tries r.tries + total_steps (notes_of_stop stop)
  counted : IsCounted stop (length r.play.labels + turns_of_tries r.tries) r.turns

paid-running : (stop : WeakStop) (r : CourseView)
    → (r.turns ≡ length r.play.labels + turns_of_tries r.tries → IsCounted stop (length r.play.labels + turns_of_tries r.tries) r.turns)
    → IsRunning r → r.left ≡ []
    → IsPaid stop r
paid-running stop r same x none = record {
  turns = r.turns;
  before = x;
  within = x.within;
  told = omega (arith, all);
  counted = same all;
}
  where
    all : r.turns ≡ length r.play.labels + turns_of_tries r.tries
    all = let counted = x.counted in let left : length r.left ≡ 0 = ap length none in omega (arith, counted, left)

paid-until : (stop : WeakStop) (r : CourseView) → RunsUntil (Some stop) r → r.left ≡ [] → IsPaid stop r
paid-until WeakStop.Finished r x none = paid-running WeakStop.Finished r (λ e. e) x none
paid-until (WeakStop.Blocked certificates) r x none = paid-running (WeakStop.Blocked certificates) r (λ e. e) x none
paid-until WeakStop.Spent r x none = paid-running WeakStop.Spent r (λ e. e) x none
paid-until (WeakStop.DeviceFault device) r x none = paid-running (WeakStop.DeviceFault device) r (λ e. e) x none
paid-until WeakStop.NoMemory r x none = paid-running WeakStop.NoMemory r (λ e. e) x none
paid-until (WeakStop.Tall entry) r x none = record {
  turns = x.turns;
  before = x.before;
  within = x.within;
  told = let note = one-step entry in elim x.more [
    | inl same ↦ omega (arith, all, same)
    | inr more ↦ omega (arith, all, note, more)
  ];
  counted = elim x.more [
    | inl same ↦ inl (same ∙ all)
    | inr more ↦ inr (more ∙ ap (λ (n : ℕ). n + (entry.steps + 1)) all)
  ];
}
  where
    all : x.turns ≡ length r.play.labels + turns_of_tries r.tries
    all =
        let counted : x.turns ≡ length r.play.labels + length r.left + turns_of_tries r.tries = x.before.counted in
        let left : length r.left ≡ 0 = ap length none in
        omega (arith, counted, left)

ends-turned : (r : CourseView) (n : ℕ) → IsRunning (record r { turns = n }) → CanBeEnded r
ends-turned r n x = let e = running-ends (record r { turns = n }) x in record { played = e.played; kept = e.kept; settled = e.settled; few = e.few; cut = e.cut }

pub until-ends : (stop : WeakStop) (r : CourseView) → RunsUntil (Some stop) r → CanBeEnded r
until-ends WeakStop.Finished r x = running-ends r x
until-ends (WeakStop.Blocked certificates) r x = running-ends r x
until-ends WeakStop.Spent r x = running-ends r x
until-ends (WeakStop.DeviceFault device) r x = running-ends r x
until-ends WeakStop.NoMemory r x = running-ends r x
until-ends (WeakStop.Tall entry) r x = ends-turned r x.turns x.before

module _ (r : CourseView) (stop : WeakStop) (y : IsPaid stop r) (stopped : HasStoppedWeakly stop r) where
  x : IsRunning (record r { turns = y.turns })
  x = y.before

  all-settled : take r.play.settled r.play.labels ≡ r.play.labels
  all-settled = let here = x.played.here stopped.idle in take_all r.play.settled r.play.labels (omega (arith, here))

  told-by : (opened now : List Told) → HeardSoFar r opened now → FailsBy (Some stop) opened now
      → IsToldBy r.play.program r.limit (take r.play.settled r.play.labels) r.tries r.turns opened now stop
  told-by opened now heard fails = subst (λ (ls : List Label). IsToldBy r.play.program r.limit ls r.tries r.turns opened now stop) (sym all-settled) (record {
    cause = λ w leads.
        let both : ◌≡◌ {A = Option Weak} (Some r.play.weak) (Some w) = sym x.played.leads ∙ leads in
        let same : r.play.weak ≡ w = cc in
        subst (λ (z : Weak). HasWeakCause stop z r.turns r.limit) same stopped.cause;
    whole = record {
      heard = heard;
      paid =
          let told = turns-told r.play.program r.play.labels r.tries r.play.weak x.played.leads stopped.idle x.kept.order in
          let all = both-steps (straight_with 0 r.tries outset r.play.labels) (notes_of_stop stop) in
          let paid = y.told in
          omega (arith, told, all, paid);
    };
    fails = fails;
    within = y.within;
    counted = y.counted;
  })

pub stops-as : (program : Tree) (limit : ℕ) (labels : List Label) (tries : List Try) (turns : ℕ) (before after : List Told) (stop : WeakStop)
    → IsToldBy program limit labels tries turns before after stop → TellsStop program limit labels tries turns before after stop
stops-as program limit labels tries turns before after WeakStop.Finished told = told
stops-as program limit labels tries turns before after (WeakStop.Blocked certificates) told = told
stops-as program limit labels tries turns before after WeakStop.Spent told = told
stops-as program limit labels tries turns before after (WeakStop.DeviceFault device) told = told
stops-as program limit labels tries turns before after (WeakStop.Tall entry) told = told
stops-as program limit labels tries turns before after WeakStop.NoMemory told = tt

all-failed-so : (stop : WeakStop) (n : ℕ) (tries : List Try) → AreFailedTries tries → EndTries stop n tries
all-failed-so WeakStop.Finished n tries all = all
all-failed-so (WeakStop.Blocked certificates) n tries all = all
all-failed-so WeakStop.Spent n tries all = inl all
all-failed-so (WeakStop.DeviceFault device) n tries all = all
all-failed-so (WeakStop.Tall entry) n tries all = all
all-failed-so WeakStop.NoMemory n tries all = all

-- a run that had no memory to begin
pub none-run : (program : Tree) (limit : ℕ) → IsWeakRunOf program limit [] [] WeakStop.NoMemory
none-run program limit = record {
  ends = record { weak = weak_start program; leads = refl; active = refl };
  within = tt;
  below = omega arith;
  order = tt;
  tried = tt;
  tried_within = tt;
  last = tt;
  spaced = tt;
}

pub not-begun : (program : Tree) (limit : ℕ) (labels : List Label) (tries : List Try) (stop : WeakStop) → labels ≡ [] → tries ≡ [] → stop ≡ WeakStop.NoMemory
    → IsWeakRunOf program limit labels tries stop
not-begun program limit labels tries stop none untried lacking =
    subst (λ (ls : List Label). IsWeakRunOf program limit ls tries stop) (sym none)
    (subst (λ (ts : List Try). IsWeakRunOf program limit [] ts stop) (sym untried)
    (subst (λ (why : WeakStop). IsWeakRunOf program limit [] [] why) (sym lacking) (none-run program limit)))

-- nothing more is promised when out of memory
pub tells-nothing : (program : Tree) (limit : ℕ) (labels : List Label) (tries : List Try) (turns : ℕ) (before after : List Told) (stop : WeakStop)
    → stop ≡ WeakStop.NoMemory
    → TellsStop program limit labels tries turns before after stop
tells-nothing program limit labels tries turns before after stop lacking =
    subst (λ (why : WeakStop). TellsStop program limit labels tries turns before after why) (sym lacking) tt

-- The report of a run that ends

module _ (r : CourseView) (labels : List Label) (tries : List Try) (stop : WeakStop) (are : labels ≡ take r.play.settled r.play.labels) where
  ended-as : (ts : List Try) → tries ≡ ts → IsWeakRunOf r.play.program r.limit (take r.play.settled r.play.labels) ts stop
      → IsWeakRunOf r.play.program r.limit labels tries stop
  ended-as ts same is =
      subst (λ (ls : List Label). IsWeakRunOf r.play.program r.limit ls tries stop) (sym are)
      (subst (λ (us : List Try). IsWeakRunOf r.play.program r.limit (take r.play.settled r.play.labels) us stop) (sym same) is)

  -- with the turns, so that the last try may have been cut off
  pub ended-spent : CanBeEnded r → tries ≡ r.tries → stop ≡ WeakStop.Spent → IsWeakRunOf r.play.program r.limit labels tries stop
  ended-spent x same spent =
      ended-as r.tries same
      (ended-run r stop x (subst (λ (why : WeakStop). EndTries why r.play.settled r.tries) (sym spent) x.cut))

  -- without a try that was cut off
  pub ended-without : CanBeEnded r → tries ≡ without_cut r.tries → IsWeakRunOf r.play.program r.limit labels tries stop
  ended-without x same =
      ended-as (without_cut r.tries) same (ended-run (without r) stop (ends-without r x) (all-failed-so stop r.play.settled (without_cut r.tries) (failed-left r x)))

  -- of a run that has stopped
  pub told-whole : (turns : ℕ) (why : WeakStop) → RunsUntil (Some why) r → HasStoppedWeakly why r → tries ≡ r.tries
      → turns ≡ r.turns → stop ≡ why → (before now : List Told)
      → HeardSoFar r before now → FailsBy (Some why) before now → TellsStop r.play.program r.limit labels tries turns before now stop
  told-whole turns why x stopped same count is before now heard fails =
      subst (λ (w : WeakStop). TellsStop r.play.program r.limit labels tries turns before now w) (sym is)
      (subst (λ (ls : List Label). TellsStop r.play.program r.limit ls tries turns before now why) (sym are)
      (subst (λ (us : List Try). TellsStop r.play.program r.limit (take r.play.settled r.play.labels) us turns before now why) (sym same)
      (subst (λ (n : ℕ). TellsStop r.play.program r.limit (take r.play.settled r.play.labels) r.tries n before now why) (sym count)
      (stops-as r.play.program r.limit (take r.play.settled r.play.labels) r.tries r.turns before now why (told-by r why (paid-until why r x stopped.none) stopped before now heard fails)))))

-- the program and the limit stay
module _ (r q : CourseView) (frame : KeepsFrame r q) where
  pub run-over : (labels : List Label) (tries : List Try) (stop : WeakStop) → IsWeakRunOf q.play.program q.limit labels tries stop
      → IsWeakRunOf r.play.program r.limit labels tries stop
  run-over labels tries stop is =
      subst (λ (t : Tree). IsWeakRunOf t r.limit labels tries stop) frame.program
      (subst (λ (m : ℕ). IsWeakRunOf q.play.program m labels tries stop) frame.limit is)

  pub tells-over : (labels : List Label) (tries : List Try) (turns : ℕ) (before after : List Told) (stop : WeakStop)
      → TellsStop q.play.program q.limit labels tries turns before after stop → TellsStop r.play.program r.limit labels tries turns before after stop
  tells-over labels tries turns before after stop is =
      subst (λ (t : Tree). TellsStop t r.limit labels tries turns before after stop) frame.program
      (subst (λ (m : ℕ). TellsStop q.play.program m labels tries turns before after stop) frame.limit is)

-- of a run from its start
module _ (program : Tree) (limit : ℕ) (r : CourseView) (start : IsAtRunStart program limit r) where
  same-program : r.play.program ≡ program
  same-program = ap (λ (p : PlayView). p.program) start.play

  pub begun-run : (labels : List Label) (tries : List Try) (stop : WeakStop) → IsWeakRunOf r.play.program r.limit labels tries stop
      → IsWeakRunOf program limit labels tries stop
  begun-run labels tries stop is =
      subst (λ (t : Tree). IsWeakRunOf t limit labels tries stop) same-program
      (subst (λ (m : ℕ). IsWeakRunOf r.play.program m labels tries stop) start.limit is)

  pub begun-tells : (labels : List Label) (tries : List Try) (turns : ℕ) (before after : List Told) (stop : WeakStop)
      → TellsStop r.play.program r.limit labels tries turns before after stop → TellsStop program limit labels tries turns before after stop
  begun-tells labels tries turns before after stop is =
      subst (λ (t : Tree). TellsStop t limit labels tries turns before after stop) same-program
      (subst (λ (m : ℕ). TellsStop r.play.program m labels tries turns before after stop) start.limit is)

  -- devices have heard nothing yet
  pub heard-at-start : (told : List Told) → HeardSoFar r told told
  heard-at-start told =
      subst (λ (p : PlayView). HaveHeard p.program (straight p.labels) told told) (sym start.play) (heard-nothing program [] told)
