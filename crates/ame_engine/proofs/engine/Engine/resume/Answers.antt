use Rattle.std.proofs.Common.{rules, ℕ, All, Err, ap, subst}
use Rattle.ame_engine.specs.Resuming.{IsFar, IsNear}
use Rattle.ame_engine.specs.declared.resume_fail.ResumeFail.TheVariants as fail
use Rattle.ame_engine.proofs.FarLemmas.{near-far, far-once}
use Rattle.ame_engine.proofs.engine.Engine.resume.Goals as goal

pub returns-in-Some-clause-far : goal.returns-in-Some-clause-far
returns-in-Some-clause-far g c = λ n far.
    let here : IsFar c.args.base.entries c.in-Some.place = search rules in
    ap (λ (k : ℕ). Err (fail.Far k)) (far-once c.args.base.entries c.in-Some.place n here far)

pub returns-in_err-at_end-in-Ok-clause-far : goal.returns-in_err-at_end-in-Ok-clause-far
returns-in_err-at_end-in-Ok-clause-far g c = λ n far.
    absurd (near-far c.args.base.entries (subst (All IsNear) c.entries.ensures.entries c.in_default.ensures) n far)

pub returns-in-Ok-clause-far : goal.returns-in-Ok-clause-far
returns-in-Ok-clause-far g c = λ n far.
    absurd (near-far c.args.base.entries (subst (All IsNear) c.entries.ensures.entries c.in_default.ensures) n far)

pub returns-in-Err-Tall-clause-far : goal.returns-in-Err-Tall-clause-far
returns-in-Err-Tall-clause-far g c = λ n far.
    absurd (near-far c.args.base.entries (subst (All IsNear) c.entries.ensures.entries c.in_default.ensures) n far)

pub returns-clause-far : goal.returns-clause-far
returns-clause-far g c = λ n far.
    absurd (near-far c.args.base.entries (subst (All IsNear) c.entries.ensures.entries c.in_default.ensures) n far)
