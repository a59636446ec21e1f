-- Why a run stops.
use Rattle.std.specs.Prelude.{◌≡◌, ◌≢◌, ℕ, ◌+◌, ◌<◌, ◌≤◌, ◌==◌, ℤ, ◌⊎◌, true, List, [], ◌∷◌, ◌++◌, map, Option, Some, None, is_some, Result, Ok, Err, ⊤}
use Rattle.std.specs.List.{AllByRecursion, list_any}
use Rattle.ame_term.specs.Maps.{at}
use Rattle.ame_device.specs.declared.told.Told.{Told}
use Rattle.ame_journal.specs.declared.entry.Entry.{Entry}
use Rattle.ame_engine.specs.Ending.{Rise}
use Rattle.ame_journal.specs.Replay.{fails_after}
use Rattle.ame_strong.specs.Pool.{pool}
use Rattle.ame_strong.specs.Next.{next_of}
use Rattle.ame_strong.specs.declared.next_label.Next.TheVariants as next
use Rattle.ame_shell.specs.Heard.{HaveHeard, NoneFailed, OneFailed}
use Rattle.ame_weak.specs.Weak.{Weak}
use Rattle.ame_weak.specs.Straight.{straight}
use Rattle.ame_journal.specs.declared.certificate.Certificate.{Certificate}
use Rattle.ame_runner.specs.Choices.{candidates}
use Rattle.ame_runner.specs.Tall.{IsTallIn}
use Rattle.ame_runner.specs.Within.{IsReachedWithin}
use Rattle.ame_runner.specs.Run.{CourseView, IsRunning, CanBeEnded}
use Rattle.ame_runner.specs.declared.stop.WeakStop.{WeakStop}

-- Devices

-- which device failed, if the run stops by that
abbrev pub FailsBy : Option WeakStop → List Told → List Told → Type 0
FailsBy (Some (WeakStop.DeviceFault device)) before after = OneFailed device before after
FailsBy _ before after = NoneFailed before after

-- devices have heard the calls of the journal of the labels so far
abbrev pub HeardSoFar : CourseView → List Told → List Told → Type 0
HeardSoFar r opened now = HaveHeard r.play.program (straight r.play.labels) opened now

-- so it still is, and a device failed only if that stops the run
abbrev pub HearsOn : Option WeakStop → CourseView → CourseView → List Told → List Told → Type 0
HearsOn stop old new before after =
    (opened : List Told) → IsRunning old → HeardSoFar old opened before → HeardSoFar new opened after × FailsBy stop before after

-- Causes

abbrev pub certified_numbers : List Certificate → List ℕ
certified_numbers certificates = map (λ c. c.number) certificates

-- each member of the pool fails, and there is one; the certificates are by rising number
pub record IsBlockedBy (w : Weak) (certificates : List Certificate) : Type 0 where
  pub some : pool w.state ≢ []
  pub fail : AllByRecursion (λ c. fails_after w.state c.number c.steps c.fresh ≡ true) certificates
  pub all : (i : ℕ) → is_some (at (pool w.state) i) ≡ true → list_any (λ c. c.number == i) certificates ≡ true
  pub rise : Rise (certified_numbers certificates)

-- a member stands at a call of a device
pub record StandsAtCall (w : Weak) (device : ℕ) : Type 0 where
  pub number : ℕ
  pub argument : ℤ
  pub stands : next_of w.state (Some number) ≡ next.Device device argument

-- the cause of a stop, in the weak state at the end
abbrev pub HasWeakCause : WeakStop → Weak → ℕ → ℕ → Type 0
HasWeakCause WeakStop.Finished w turns limit = pool w.state ≡ []
HasWeakCause (WeakStop.Blocked certificates) w turns limit = IsBlockedBy w certificates.items
HasWeakCause WeakStop.Spent w turns limit = (turns ≡ limit) × (pool w.state ≢ [])
HasWeakCause (WeakStop.DeviceFault device) w turns limit = StandsAtCall w device
HasWeakCause (WeakStop.Tall entry) w turns limit = IsTallIn w.state entry × IsReachedWithin w entry
HasWeakCause WeakStop.NoMemory w turns limit = ⊤

-- the run has stopped: nothing is active, no label is left to be made, and the stop has its cause
pub record HasStoppedWeakly (stop : WeakStop) (r : CourseView) : Type 0 where
  pub none : r.left ≡ []
  pub idle : r.play.weak.state.active ≡ None
  pub cause : HasWeakCause stop r.play.weak r.turns r.limit

abbrev pub StopsIfTold : Option WeakStop → CourseView → Type 0
StopsIfTold None r = ⊤
StopsIfTold (Some stop) r = HasStoppedWeakly stop r

-- a member may go on
abbrev pub MayGoOn : CourseView → Type 0
MayGoOn r = candidates r.play.weak r.aside ≢ []

-- Stops are found in order: the run is blocked only if no member may go on, and the turns are used up only if one may.
abbrev pub IsFoundInOrder : WeakStop → CourseView → Type 0
IsFoundInOrder WeakStop.Finished r = ⊤
IsFoundInOrder (WeakStop.Blocked certificates) r = candidates r.play.weak r.aside ≡ []
IsFoundInOrder WeakStop.Spent r = MayGoOn r
IsFoundInOrder (WeakStop.DeviceFault device) r = ⊥
IsFoundInOrder (WeakStop.Tall entry) r = ⊥
IsFoundInOrder WeakStop.NoMemory r = ⊥

-- while nothing is active the run finds a stop with its cause, or a member may go on and turns are left
abbrev pub FoundAtRest : CourseView → Option WeakStop → Type 0
FoundAtRest r None = (r.play.weak.state.active ≡ None) × MayGoOn r × (r.turns < r.limit)
FoundAtRest r (Some stop) = IsRunning r → HasStoppedWeakly stop r × IsFoundInOrder stop r

-- a certificate was added, if the member is there
pub record HasCertified (r : CourseView) (number : ℕ) (old new : List Certificate) : Type 0 where
  pub fail :
      IsRunning r → AllByRecursion (λ c. fails_after r.play.weak.state c.number c.steps c.fresh ≡ true) old
      → AllByRecursion (λ c. fails_after r.play.weak.state c.number c.steps c.fresh ≡ true) new
  pub there : is_some (at (pool r.play.weak.state) number) ≡ true → list_any (λ c. c.number == number) new ≡ true
  pub others : (i : ℕ) → list_any (λ c. c.number == i) old ≡ true → list_any (λ c. c.number == i) new ≡ true
  pub numbers : (certified_numbers new ≡ certified_numbers old) ⊎ (certified_numbers new ≡ certified_numbers old ++ number ∷ [])

-- A member came to a value nested too deeply. The run is under way but for the turns of the attempt in which that happened, if there was one.
pub record HasGrown (entry : Entry) (r : CourseView) : Type 0 where
  pub turns : ℕ
  pub before : IsRunning (record r { turns = turns })
  pub more : (r.turns ≡ turns) ⊎ (r.turns ≡ turns + (entry.steps + 1))
  pub within : r.turns ≤ r.limit

-- the turns of a run that stops or goes on
abbrev pub RunsUntil : Option WeakStop → CourseView → Type 0
RunsUntil (Some (WeakStop.Tall entry)) r = HasGrown entry r
RunsUntil _ r = IsRunning r

-- a member came to a value nested too deeply, which stops the run, or the run is out of memory
abbrev pub GrowsOrEnds : {E : Type 0} → Result Entry E → CourseView → Type 0
GrowsOrEnds (Ok entry) r = HasGrown entry r × HasStoppedWeakly (WeakStop.Tall entry) r
GrowsOrEnds (Err e) r = CanBeEnded r

-- so it did, if there is a note; otherwise the run goes on
abbrev pub HasAttempted : Option Entry → CourseView → Type 0
HasAttempted (Some entry) r = HasGrown entry r × HasStoppedWeakly (WeakStop.Tall entry) r
HasAttempted None r = IsRunning r

-- a choice, or a stop in its place; memory may be wanted
abbrev pub GoesOrStops : {E : Type 0} → CourseView → CourseView → List Told → List Told → Result (Option WeakStop) E → Type 0
GoesOrStops old new before after (Ok stop) = IsRunning old → RunsUntil stop new × HearsOn stop old new before after × StopsIfTold stop new
GoesOrStops old new before after (Err e) = IsRunning old → CanBeEnded new

-- choices until a stop
abbrev pub PlaysOn : {E : Type 0} → CourseView → CourseView → List Told → List Told → Result WeakStop E → Type 0
PlaysOn old new before after (Ok stop) = IsRunning old → RunsUntil (Some stop) new × HearsOn (Some stop) old new before after × HasStoppedWeakly stop new
PlaysOn old new before after (Err e) = IsRunning old → CanBeEnded new
