-- The bytes that `write_all` has appended so far. Each turn leaves less to write.
use Rattle.std.proofs.Common.{◌≡◌, ◌-◌, ◌≤◌, length, take}
use Rattle.std.specs.Io.KnownBytes.{Appends}
use Rattle.ame_io.proofs.whole_write.write_all.Given as goal

abbrev pub invariant-writes : goal.invariant-writes
invariant-writes g l = record {
  within : l.gone ≤ length l.bytes;
  stayed : g.K.Sink.faults l.sink ≡ g.K.Sink.faults l.initial.sink;
  appended : Appends (g.K.Sink.written l.initial.sink) (g.K.Sink.written l.sink) (take l.gone l.bytes);
}

abbrev pub decreases-writes : goal.decreases-writes
decreases-writes g l = length l.bytes - l.gone
