-- The member or the stop that a seat meets when it is to begin a member.
use Rattle.std.specs.Prelude.{◌≡◌, ℕ, ◌+◌, Bool, true, false, nat_lt, ◌++◌, slice_set, is_some, if◌then◌else◌, Option, Some, None}
use Rattle.ame_pool.specs.declared.oldest.Oldest.{Oldest}
use Rattle.ame_pool.specs.Begin.{oldest}
use Rattle.ame_pool.specs.Calls.{held}
use Rattle.ame_pool.specs.Keeps.{is_inside_at}
use Rattle.ame_machine.specs.Sound.{CanRun}
use Rattle.ame_protocol.specs.Engine.Events.{attempt_after, begun_task}
use Rattle.ame_engine.specs.declared.answer.Begin.{Begin}
use Rattle.ame_engine.specs.declared.answer.Begin.TheVariants as answer
use Rattle.ame_engine.specs.declared.pick.Pick.{Pick}
use Rattle.ame_protocol.specs.declared.stop.Stop.{Stop}
use Rattle.ame_protocol.specs.Event.Counting.{Counted, one_counted}
use Rattle.ame_engine.specs.Core.{Core}
use Rattle.ame_protocol.specs.Event.Event.{Event}
use Rattle.ame_engine.specs.Makes.{Makes}
use Rattle.ame_engine.specs.Whole.{resting_at}
use Rattle.ame_engine.specs.AtWork.{IsOn}
use Rattle.ame_machine.specs.Meaning.{Meaning}

-- If members are left, the turns may be used up, or no member may begin, or one may.
abbrev pub pick_left : Bool → Oldest → Pick
pick_left true oldest = Pick.Spent
pick_left false (Oldest.Member number) = Pick.Member number
pick_left false _ = Pick.Idle

-- If no stop is kept, no member may be left, or all may be parked.
abbrev pub pick_by : Bool → Oldest → Pick
pick_by spent Oldest.Empty = Pick.Finished
pick_by spent Oldest.Parked = Pick.Blocked
pick_by spent oldest = pick_left spent oldest

-- Returns the stop that is kept then, if any.
abbrev pub stop_met : Pick → Option Stop
stop_met Pick.Finished = Some Stop.Finished
stop_met Pick.Blocked = Some Stop.Blocked
stop_met Pick.Spent = Some Stop.Spent
stop_met _ = None

-- Returns whether a seat meets a member that may begin, or all members parked.
abbrev pub takes_memory : Pick → Bool
takes_memory (Pick.Member number) = true
takes_memory Pick.Blocked = true
takes_memory _ = false

module _ {C V M : Type 0} where
  -- Returns the first of these that is met: a kept stop, no member, all members parked, no turn left, no member that may begin, or the
  -- oldest member that may.
  abbrev pub pick_of : Core C V M → Pick
  pick_of core =
      if is_some core.stop then Pick.Stopped else pick_by (if nat_lt core.turns core.limits.turns then false else true) (oldest core.pool)

  -- Returns the engine after a seat has begun a member.
  abbrev pub begun_by : ℕ → ℕ → Core C V M → Core C V M
  begun_by seat number core = record core {
    tasks = slice_set core.tasks seat (begun_task (is_inside_at core.pool.members number) (attempt_after number (core.base ++ core.entries)));
    pool = held number core.pool;
    turns = core.turns + 1;
    counters = one_counted Counted.Begin core.counters;
  }

module _ {C V M : Type 0} (meaning : Meaning C V M) where
  -- A seat has begun a member. The machine that it is given is at the beginning of the seat's run: it has made no step and wants nothing,
  -- and it can run.
  pub record HasBegun (seat number : ℕ) (old new : Core C V M) (m : M) : Type 0 where
    pub event : Makes meaning (Event.Begin seat number) old new
    pub on : IsOn meaning new seat m
    pub rests : meaning.stage new.code m ≡ resting_at (meaning.stage new.code m).term (meaning.stage new.code m).inside
    pub runs : CanRun (meaning.stage new.code m)

module _ {M : Type 0} (begins : ℕ → M → Type 0) (keeps : Stop → Type 0) (blocks stays : Type 0) where
  -- The answer fits what the seat met. If it begins a member the first fact holds. If no member is left or the turns are used up, the
  -- second holds. If all members are parked, the third holds. Otherwise the last holds.
  abbrev pub Answers : Pick → Begin M → Type 0
  Answers (Pick.Member number) (answer.Begun m) = begins number m
  Answers Pick.Finished answer.Stopped = keeps Stop.Finished
  Answers Pick.Spent answer.Stopped = keeps Stop.Spent
  Answers Pick.Stopped answer.Stopped = stays
  Answers Pick.Blocked answer.Stopped = blocks
  Answers Pick.Idle answer.Idle = stays
  Answers _ _ = ⊥
