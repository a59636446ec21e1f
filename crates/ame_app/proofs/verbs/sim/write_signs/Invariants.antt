-- The signs written so far are those of the picks so far. Each turn leaves fewer picks.
use Rattle.std.proofs.Common.{◌≡◌, ◌-◌, ◌≤◌, length, take}
use Rattle.std.specs.Io.KnownBytes.{Appends}
use Rattle.ame_app.proofs.PickLemmas.{signs_picked}
use Rattle.ame_app.proofs.verbs.sim.write_signs.Given as goal

abbrev pub invariant-pieces : goal.invariant-pieces
invariant-pieces g l = record {
  within : l.gone ≤ length l.picks;
  stayed : g.K.Sink.faults l.sink ≡ g.K.Sink.faults l.initial.sink;
  appended : Appends (g.K.Sink.written l.initial.sink) (g.K.Sink.written l.sink) (signs_picked (take l.gone l.picks));
}

abbrev pub decreases-pieces : goal.decreases-pieces
decreases-pieces g l = length l.picks - l.gone
