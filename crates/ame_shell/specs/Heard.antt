-- The calls that devices heard in a run, and the devices that failed.
use Rattle.std.specs.Prelude.{◌≡◌, ℕ, ℤ, List, [], ◌++◌, map, length, drop, Option, Some, option_map}
use Rattle.ame_term.specs.Tree.{Tree}
use Rattle.ame_journal.specs.declared.entry.Entry.{Entry}
use Rattle.ame_journal.specs.Calls.{device_calls}
use Rattle.ame_device.specs.declared.told.Heard.{Heard}
use Rattle.ame_device.specs.declared.told.Told.{Told}
use Rattle.ame_device.specs.Calls.{answered}
use Rattle.ame_device.specs.Kinds.{AnswersByKind}
use Rattle.ame_io.specs.Counts.{HasRisen}
use Rattle.ame_protocol.specs.declared.stop.Stop.{Stop}
use Rattle.ame_shell.specs.Ends.{told_at}

-- arguments with their answers, as calls that were heard
abbrev pub answered_all : List (ℤ × ℤ) → List Heard
answered_all calls = map (λ call. answered call.0 call.1) calls

-- the calls that were heard and more, if they are shown
abbrev pub and_more : Option (List Heard) → List Heard → Option (List Heard)
and_more heard more = option_map (λ calls. calls ++ more) heard

-- the calls of device k that entries make after those of a base
abbrev pub added_calls : ℕ → Tree → List Entry → List Entry → List (ℤ × ℤ)
added_calls k program base entries = drop (length (device_calls k program base)) (device_calls k program (base ++ entries))

-- Each device has heard the calls that entries after a base make of it, after what it had heard before, and no others. It is of
-- the kind that it was of, and its answers are those of its kind if those before were.
pub record HaveHeardSince (program : Tree) (base entries : List Entry) (before after : List Told) : Type 0 where
  pub count : length after ≡ length before
  pub kinds : (k : ℕ) → (told_at after k).kind ≡ (told_at before k).kind
  pub answers : (k : ℕ) → AnswersByKind (told_at before k) → AnswersByKind (told_at after k)
  pub heard : (k : ℕ) → (told_at after k).heard ≡ and_more (told_at before k).heard (answered_all (added_calls k program base entries))

-- so it is of a whole journal
abbrev pub HaveHeard : Tree → List Entry → List Told → List Told → Type 0
HaveHeard program entries before after = HaveHeardSince program [] entries before after

-- no device failed
abbrev pub NoneFailed : List Told → List Told → Type 0
NoneFailed before after = (k : ℕ) → (told_at after k).faults ≡ (told_at before k).faults

-- this one failed, and no other
pub record OneFailed (k : ℕ) (before after : List Told) : Type 0 where
  pub risen : HasRisen (told_at before k).faults (told_at after k).faults
  pub others : (other : ℕ) → (other ≡ k → ⊥) → (told_at after other).faults ≡ (told_at before other).faults

-- which devices failed, by the stop that is kept
abbrev pub HaveFailed : Option Stop → List Told → List Told → Type 0
HaveFailed (Some (Stop.DeviceFault k)) before after = OneFailed k before after
HaveFailed _ before after = NoneFailed before after
