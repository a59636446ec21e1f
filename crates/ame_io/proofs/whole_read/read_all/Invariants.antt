-- The bytes that `read_all` has read so far. Each turn adds at least a byte, up to the limit.
use Rattle.std.proofs.Common.{◌≡◌, ◌-◌, ◌≤◌, length, vec_len, vec_capacity}
use Rattle.std.specs.Io.KnownBytes.{Consumes}
use Rattle.ame_io.proofs.whole_read.read_all.Given as goal

abbrev pub invariant-reads : goal.invariant-reads
invariant-reads g l = record {
  chunk_len : length l.chunk ≡ 8192;
  within : vec_len l.bytes ≤ 1048576;
  has_room : 1048576 ≤ vec_capacity l.bytes;
  stayed : g.S.Source.faults l.source ≡ g.S.Source.faults l.initial.source;
  taken : Consumes (g.S.Source.left l.initial.source) (g.S.Source.left l.source) l.bytes.items;
}

abbrev pub decreases-reads : goal.decreases-reads
decreases-reads g l = 1048576 - vec_len l.bytes
