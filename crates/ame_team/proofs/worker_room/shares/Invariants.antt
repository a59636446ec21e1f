use Rattle.std.proofs.Common.{◌≡◌, ◌+◌, ◌≤◌, All, vec_len, vec_capacity}
use Rattle.std.specs.Arc.{arc_value}
use Rattle.ame_team.proofs.worker_room.shares.Given as goal

abbrev pub invariant-loop : goal.invariant-loop
invariant-loop g l = record {
  count : vec_len l.codes + 1 ≡ l.counter;
  left : l.counter ≤ l.count;
  room : l.count ≤ vec_capacity l.codes;
  all : All (λ it. arc_value it ≡ arc_value l.code) l.codes.items;
}
