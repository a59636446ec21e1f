-- Each seat whose attempt has no entry keeps a free place for it.
use Rattle.std.proofs.Common.{◌≡◌, ℕ, ◌+◌, ◌<◌, ◌≤◌, Bool, true, false, not, cond, List, set, length, count_by, replicate, Some, length-set, refl, sym, ap, ◌∙◌, subst, arith}
use Rattle.std.specs.Prelude.{if◌then◌else◌}
use Rattle.std.proofs.lemmas.List.Folds.{sum_by-replicate}
use Rattle.std.proofs.lemmas.List.Sums.{sum_by-set, count_by-le-length}
use Rattle.ame_protocol.specs.declared.types.Attempt.{Attempt}
use Rattle.ame_protocol.specs.declared.types.Task.{Task}
use Rattle.ame_protocol.specs.Engine.Parts.{task_at, attempt_of}
use Rattle.ame_protocol.proofs.Engine.StepLemmas.{seat_within}
use Rattle.ame_engine.specs.Places.{is_untold, HasPlacesFor}

-- by its attempt
untold-is : (task : Task) (attempt : Attempt) → attempt_of task ≡ Some attempt → is_untold task ≡ not attempt.logged
untold-is Task.Idle attempt e = absurd (let clash : attempt_of Task.Idle ≡ Some attempt = e in cc)
untold-is (Task.Running a) attempt e = let same : a ≡ attempt = cc in ap (λ (x : Attempt). not x.logged) same
untold-is (Task.Free a) attempt e = let same : a ≡ attempt = cc in ap (λ (x : Attempt). not x.logged) same
untold-is (Task.Undoing a reason) attempt e = let same : a ≡ attempt = cc in ap (λ (x : Attempt). not x.logged) same

-- once a seat has another task
count-set : (tasks : List Task) (seat : ℕ) (task : Task) → seat < length tasks
    → count_by is_untold (set tasks seat task) + cond (is_untold (task_at tasks seat)) 1 0 ≡ count_by is_untold tasks + cond (is_untold task) 1 0
count-set tasks seat task within = sum_by-set (λ (t : Task). cond (is_untold t) 1 0) tasks seat task Task.Idle within

pub places-idle : (seats tries places : ℕ) → tries ≤ places → HasPlacesFor (replicate seats Task.Idle) tries places
places-idle seats tries places h = let none = sum_by-replicate (λ (t : Task). cond (is_untold t) 1 0) seats Task.Idle in omega (arith, none, h)

-- There are more places.
pub places-roomy : (tasks : List Task) (tries places later capacity : ℕ) → later ≡ tries → places ≤ capacity → HasPlacesFor tasks tries places → HasPlacesFor tasks later capacity
places-roomy tasks tries places later capacity e h enough = omega (arith, e, h, enough)

-- There is a place for every seat.
pub places-begun : (tasks : List Task) (seat tries places : ℕ) (task : Task) → tries + length tasks ≤ places → HasPlacesFor (set tasks seat task) tries places
places-begun tasks seat tries places task h =
    let few = count_by-le-length is_untold (set tasks seat task) in let same = length-set tasks seat task in omega (arith, few, same, h)

module _ (tasks : List Task) (seat tries places : ℕ) (attempt : Attempt) (has : attempt_of (task_at tasks seat) ≡ Some attempt)
    (enough : HasPlacesFor tasks tries places) where
  within : seat < length tasks
  within = seat_within tasks seat attempt has

  told-there : is_untold (task_at tasks seat) ≡ not attempt.logged
  told-there = untold-is (task_at tasks seat) attempt has

  -- The seat goes on with an attempt that has an entry exactly if this one has.
  pub places-kept : (task : Task) (later : Attempt) → attempt_of task ≡ Some later → later.logged ≡ attempt.logged → HasPlacesFor (set tasks seat task) tries places
  places-kept task later its same =
      let one = count-set tasks seat task within in
      let is : is_untold task ≡ is_untold (task_at tasks seat) = untold-is task later its ∙ ap not same ∙ sym told-there in
      let both : ◌≡◌ {A = ℕ} (cond (is_untold task) 1 0) (cond (is_untold (task_at tasks seat)) 1 0) = ap (λ (b : Bool). cond b 1 0) is in
      let all = enough in omega (arith, one, both, all)

  -- Or it goes on with an attempt that has an entry.
  pub places-told : (task : Task) (later : Attempt) → attempt_of task ≡ Some later → later.logged ≡ true → HasPlacesFor (set tasks seat task) tries places
  places-told task later its told =
      let one = count-set tasks seat task within in
      let no : ◌≡◌ {A = ℕ} (cond (is_untold task) 1 0) 0 = ap (λ (b : Bool). cond b 1 0) (untold-is task later its ∙ ap not told) in
      let all = enough in omega (arith, one, no, all)

  -- it is idle, and its place is free
  pub places-freed : HasPlacesFor (set tasks seat Task.Idle) tries places
  places-freed = let one = count-set tasks seat Task.Idle within in let all = enough in omega (arith, one, all)

  -- it has a place for its try
  pub place-there : attempt.logged ≡ false → tries < places
  place-there told =
      let one = count-set tasks seat Task.Idle within in
      let yes : ◌≡◌ {A = ℕ} (cond (is_untold (task_at tasks seat)) 1 0) 1 = ap (λ (b : Bool). cond b 1 0) (told-there ∙ ap not told) in
      let all = enough in omega (arith, one, yes, all)

  -- Then the seat is idle, and the attempt is listed unless it has an entry.
  pub places-home : HasPlacesFor (set tasks seat Task.Idle) (if attempt.logged then tries else tries + 1) places
  places-home = by attempt.logged refl
    where
      by : (b : Bool) → attempt.logged ≡ b → HasPlacesFor (set tasks seat Task.Idle) (if b then tries else tries + 1) places
      by true told =
          let one = count-set tasks seat Task.Idle within in
          let no : ◌≡◌ {A = ℕ} (cond (is_untold (task_at tasks seat)) 1 0) 0 = ap (λ (b : Bool). cond b 1 0) (told-there ∙ ap not told) in
          let all = enough in omega (arith, one, no, all)
      by false told =
          let one = count-set tasks seat Task.Idle within in
          let yes : ◌≡◌ {A = ℕ} (cond (is_untold (task_at tasks seat)) 1 0) 1 = ap (λ (b : Bool). cond b 1 0) (told-there ∙ ap not told) in
          let all = enough in omega (arith, one, yes, all)

  pub places-gone : (later capacity : ℕ) → later ≡ (if attempt.logged then tries else tries + 1) → capacity ≡ places → HasPlacesFor (set tasks seat Task.Idle) later capacity
  places-gone later capacity e f =
      subst (λ (n : ℕ). HasPlacesFor (set tasks seat Task.Idle) n capacity) (sym e)
      (subst (λ (p : ℕ). HasPlacesFor (set tasks seat Task.Idle) (if attempt.logged then tries else tries + 1) p) (sym f) places-home)
