use Rattle.std.proofs.Common.{◌≡◌, ◌≤◌, take}
use Rattle.std.specs.List.{fold}
use Rattle.ame_why.specs.Binders.{parts_after, no_parts}
use Rattle.ame_why.proofs.parts.part_number.Given as goal

abbrev pub invariant-loop-token : goal.invariant-loop-token
invariant-loop-token l = record {
  so_far : l.parts ≡ fold parts_after no_parts (take l.token-index l.inside);
  begun : l.parts.begun ≤ l.token-index;
  depth : l.parts.depth ≤ l.token-index;
}
