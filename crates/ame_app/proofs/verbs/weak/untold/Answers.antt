use Rattle.std.proofs.Common.{◌∙◌, [], refl, ap, subst}
use Rattle.std.specs.Arc.{arc_value}
use Rattle.ame_weak.specs.Weak.{weak_start}
use Rattle.ame_code.specs.Code.{program_of}
use Rattle.ame_code.specs.FlatCode.{FlatCode}
use Rattle.ame_app.specs.Headline.{limits_of}
use Rattle.ame_app.proofs.LeftLemmas.{none-left}
use Rattle.ame_app.proofs.WeakLemmas.{untold-tells, AreTypedAs}
use Rattle.ame_app.proofs.verbs.weak.untold.Goals as goal

pub returns-clause-tells : goal.returns-clause-tells
returns-clause-tells c = λ before after count.
    untold-tells (program_of (arc_value c.args.code.now)) c.args.limit _ c.new.ensures.items c.new-2.ensures.items c.new-3.ensures refl before after count

pub returns-clause-has_left : goal.returns-clause-has_left
returns-clause-has_left c =
    let code = arc_value c.args.code.now in
    let typed = (subst AreTypedAs (c.accepted.ensures ∙ ap (λ (k : FlatCode). k.accepted) c.deref.ensures) c.weak_runs_are_typed.ensures) []
    (weak_start (program_of code)) refl in
    record {
      limits_are = c.limits_of.ensures ∙ ap limits_of c.alone_with.ensures;
      leads = none-left code typed.0 typed.1 _ _ _ c.new-3.ensures c.new-5.ensures c.new-6.ensures.items;
    }
