-- The parts of an engine as plain data, by what its code's values and machines stand for.
use Rattle.std.specs.Prelude.{◌≡◌, Some, is_some}
use Rattle.ame_term.specs.Tree.{Tree}
use Rattle.ame_machine.specs.MachineView.{MachineView}
use Rattle.ame_protocol.specs.Engine.Parts.{Parts}
use Rattle.ame_protocol.specs.Engine.Shown.{shown_memory, shown_pool}
use Rattle.ame_protocol.specs.declared.counters.Counters.{Counters}
use Rattle.ame_protocol.specs.declared.stop.Stop.{Stop}
use Rattle.ame_engine.specs.Core.{Core}
use Rattle.ame_machine.specs.Meaning.{Meaning}

-- Returns the term for which a machine stands.
abbrev pub term_shown : {C M : Type 0} → (C → M → MachineView) → C → M → Tree
term_shown stage code m = (stage code m).term

module _ {C V M : Type 0} (meaning : Meaning C V M) where
  -- Returns the plain parts.
  abbrev pub parts_of : Core C V M → Parts
  parts_of core = record {
    program = meaning.program core.code;
    signature = meaning.signature core.code;
    limits = core.limits;
    base = core.base;
    entries = core.entries;
    memory = shown_memory (meaning.value_of core.code) core.memory;
    tasks = core.tasks;
    pool = shown_pool (term_shown meaning.stage core.code) core.pool;
    output = core.output;
    next = core.next;
    turns = core.turns;
    tried = core.tried;
    stopped = is_some core.stop;
  }

  -- An event: code and kept stop stay, the plain parts become what it makes of them, and it is counted.
  pub record MakesEvent (counts : Counters → Counters) (event : Parts → Parts) (old new : Core C V M) : Type 0 where
    pub code : new.code ≡ old.code
    pub parts : parts_of new ≡ event (parts_of old)
    pub counted : new.counters ≡ counts old.counters
    pub stop : new.stop ≡ old.stop

  -- The last event: so it is, and a stop is kept.
  pub record MakesLastEvent (why : Stop) (counts : Counters → Counters) (event : Parts → Parts) (old new : Core C V M) : Type 0 where
    pub code : new.code ≡ old.code
    pub parts : parts_of new ≡ event (parts_of old)
    pub counted : new.counters ≡ counts old.counters
    pub stop : new.stop ≡ Some why
