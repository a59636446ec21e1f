-- The results of a run, by an engine or by the weak semantics.
use Rattle.std.specs.Prelude.{[], Option, Some, None}
use Rattle.ame_value.specs.declared.val.Val.{Val}
use Rattle.ame_protocol.specs.Event.Counting.{nothing_counted}
use Rattle.ame_engine.specs.Ending.{End}
use Rattle.ame_app.specs.declared.run_result.Extra.{Extra}
use Rattle.ame_app.specs.declared.run_result.RunResult.{RunResult}

-- The engine's end. A weak run has its journal, turns, stop, certificates, store and output in that place. It goes on from no entries, counts
-- no turn by its kind, and notes its tries in its journal.
abbrev pub end_in : RunResult → End Val
end_in (RunResult.Engine end extra) = end
end_in (RunResult.Weak weak) = record {
  limits = weak.limits;
  base = [];
  entries = weak.journal.entries;
  cells = weak.store;
  output = weak.output.items;
  turns = weak.turns;
  counters = nothing_counted;
  tried = [];
  stop = Some weak.stop;
  certificates = weak.certificates.items;
}

-- the engine's end, if an engine made the run
abbrev pub engine_in : RunResult → Option (End Val)
engine_in (RunResult.Engine end extra) = Some end
engine_in (RunResult.Weak weak) = None

-- what the command adds to the engine's end
abbrev pub extra_in : RunResult → Option Extra
extra_in (RunResult.Engine end extra) = Some extra
extra_in (RunResult.Weak weak) = None
