-- The invariant of a crew, and its states.
use Rattle.std.specs.Prelude.{◌≡◌, ℕ, ◌+◌, ◌-◌, ◌*◌, ◌<◌, Bool, true, false, List, Option, Some, None, length, slice_index_or}
use Rattle.ame_sim.specs.Questions.{count_of}
use Rattle.ame_engine.specs.declared.pick.Pick.{Pick}
use Rattle.ame_protocol.specs.declared.stop.Stop.{Stop}
use Rattle.ame_engine.specs.Begins.{pick_of}
use Rattle.ame_engine.specs.Core.{Core}
use Rattle.ame_engine.specs.Stops.{stopped_by}
use Rattle.ame_pool.specs.Begin.{oldest}
use Rattle.ame_pool.specs.declared.oldest.Oldest.{Oldest}
use Rattle.ame_protocol.specs.declared.types.Task.{Task}
use Rattle.ame_protocol.specs.Engine.Parts.{task_at}
use Rattle.ame_rows.specs.MemoryView.{row_at}
use Rattle.ame_shell.specs.Shell.{ShellView}
use Rattle.ame_shell.specs.Turned.{IsShellInOrder}
use Rattle.ame_shell.specs.declared.work.Work.{Work}
use Rattle.ame_shell.specs.declared.work.Work.TheVariants as work
use Rattle.ame_shell.specs.Work.{Fits}
use Rattle.ame_machine.specs.Meaning.{Meaning}

-- the number of undos that a seat has yet to make, by its task
abbrev pub undos_to_make : ℕ → Task → ℕ
undos_to_make undos Task.Idle = 0
undos_to_make undos _ = undos + 1

-- the number of picks that there may be yet: in each turn that is left each seat may wait once
abbrev pub picks_left : Option Stop → ℕ → List Bool → ℕ
picks_left None turns waits = turns * (length waits + 1) + (length waits - count_of waits) + 1
picks_left (Some why) turns waits = 0

module _ {C V M : Type 0} (meaning : Meaning C V M) where
  -- The shell is in order. The work in flight of each seat is kept, and it fits.
  pub record IsCrew (code : C) (shell : ShellView C V M) (hands : List (Work M)) : Type 0 where
    pub order : IsShellInOrder meaning code shell
    pub count : length hands ≡ shell.core.limits.seats
    pub fit : (seat : ℕ) → Fits meaning shell.core seat (slice_index_or hands seat work.Idle)

module _ {C V M : Type 0} where
  -- the crew ran out of memory, and that stop is kept
  abbrev pub lacking : ShellView C V M → ShellView C V M
  lacking shell = record shell { core = stopped_by Stop.NoMemory shell.core }

  -- a seat has nothing at work, and finds no member that may begin
  pub record Rests (core : Core C V M) (seat : ℕ) : Type 0 where
    pub idle : task_at core.tasks seat ≡ Task.Idle
    pub met : pick_of core ≡ Pick.Idle

  -- each seat that waits rests
  abbrev pub AreResting : List Bool → Core C V M → Type 0
  AreResting waits core = (seat : ℕ) → slice_index_or waits seat false ≡ true → Rests core seat

  -- some seat has a member at work
  pub record IsAtWorkSomewhere (core : Core C V M) : Type 0 where
    pub seat : ℕ
    pub there : seat < core.limits.seats
    pub busy : task_at core.tasks seat ≡ Task.Idle → ⊥

  -- if members are left that may not begin and aren't all parked
  abbrev pub SomeSeatIsAtWork : Core C V M → Type 0
  SomeSeatIsAtWork core = oldest core.pool ≡ Oldest.Wait → IsAtWorkSomewhere core

  -- undoing under a stop changes none of these
  pub record IsUnwound (old new : Core C V M) : Type 0 where
    pub limits : new.limits ≡ old.limits
    pub stop : new.stop ≡ old.stop
    pub turns : new.turns ≡ old.turns
    pub entries : new.entries ≡ old.entries
    pub output : new.output ≡ old.output

  -- bounds of the work that is left
  abbrev pub left_to_undo : Core C V M → ℕ → ℕ
  left_to_undo core seat = undos_to_make (length (row_at core.memory.rows seat).undos) (task_at core.tasks seat)

  abbrev pub left_to_play : Core C V M → List Bool → ℕ
  left_to_play core waits = picks_left core.stop (core.limits.turns - core.turns) waits
