use Rattle.std.proofs.Common.{arith}
use Rattle.ame_types.specs.Shared.{shared_type}
use Rattle.ame_types.proofs.SizeLemmas.{some_node}
use Rattle.ame_types.proofs.build.+build.Goals as goal

pub build-returns-then-left-eq0-clause-large : goal.build-returns-then-left-eq0-clause-large
build-returns-then-left-eq0-clause-large t c same = omega (arith, c.if-left-eq0.true, some_node (shared_type c.args.ty.now))
