use Rattle.std.proofs.Common.{arith}
use Rattle.std.proofs.lemmas.Result.{err_from_is_err_and}
use Rattle.ame_types.proofs.SizeLemmas.{nodes_so_far}
use Rattle.ame_types.proofs.build.build_all.Goals as goal

pub returns-in_err-ty-clause-large : goal.returns-in_err-ty-clause-large
returns-in_err-ty-clause-large c =
    let p = err_from_is_err_and c.from_residual.result c.from_residual.ensures.1 in
    let so_far = nodes_so_far c.args.tys.now c.loop-ty.ty-index c.ty-item.result c.loop-ty-test.true c.ty-item.is in
    rw (p.1, p.2) (λ same. omega (arith, c.in_err-ty.ensures.large same, c.loop-ty.invariant.1, so_far))
