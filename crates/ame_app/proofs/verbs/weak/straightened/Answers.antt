use Rattle.std.proofs.Common.{◌∙◌, ◌++◌, List, refl, ap, subst}
use Rattle.std.specs.Arc.{arc_value}
use Rattle.ame_laws.specs.Typed.Listed.{signature_of}
use Rattle.ame_term.specs.View.{tree_of}
use Rattle.ame_term.specs.declared.semantics.Label.{Label}
use Rattle.ame_journal.specs.declared.entry.Entry.{Entry}
use Rattle.ame_code.specs.Code.{program_of}
use Rattle.ame_code.specs.FlatCode.{FlatCode}
use Rattle.ame_weak.specs.Straight.{outset}
use Rattle.ame_weak.specs.Straightened.{IsStraightened}
use Rattle.ame_weak.specs.Tries.{straight_with}
use Rattle.ame_weak.specs.declared.straightening.Straight.{Straight}
use Rattle.ame_weak.specs.declared.tries.Try.{Try}
use Rattle.ame_runner.specs.Ended.{notes_of_stop}
use Rattle.ame_app.proofs.WeakLemmas.{leaves-fit, weak-tells, AreTypedAs, StraightensAs, TellsCallsAs, TellsCallsWithAs}
use Rattle.ame_app.proofs.verbs.weak.straightened.Goals as goal

pub told_of-requires : goal.told_of-requires
told_of-requires c =
    leaves-fit (program_of (arc_value c.args.code.now)) c.args.limit c.args.run.labels.items c.args.run.tries.items c.args.run.turns c.requires.tells.0
    c.requires.tells.1 c.args.run.stop c.requires.run c.requires.tells.2

pub returns-clause-tells : goal.returns-clause-tells
returns-clause-tells c = λ before after count tells.
    let code = arc_value c.args.code.now in
    let same = c.accepted-accepted.ensures ∙ ap (λ (k : FlatCode). k.accepted) c.deref.ensures in
    let labels = c.args.run.labels.items in
    let tries = c.args.run.tries.items in
    let told = subst (λ (a : Straight). IsStraightened (tree_of c.accepted-accepted.result.now.program.term) c.deref-2.result.now c.deref-3.result.now a) c.in-Journal.is c.in_ok-journal.ensures.answer in
    weak-tells (signature_of code.accepted) (program_of code) (subst StraightensAs same c.tries_straighten.ensures) (subst TellsCallsAs same c.weak_calls_are_told.ensures)
    (subst TellsCallsWithAs same c.calls_are_told_with.ensures) (subst AreTypedAs same c.weak_runs_are_typed.ensures) c.args.limit labels tries c.args.run.turns
    c.args.run.stop _ c.requires.run refl refl
    (c.in_ok-stop.ensures.entries ∙ ap (λ (es : List Entry). es ++ notes_of_stop c.args.run.stop)
    (told.1 ∙ ap (λ (ls : List Label). straight_with 0 c.deref-3.result.now outset ls) c.deref-2.ensures.value
    ∙ ap (λ (ts : List Try). straight_with 0 ts outset labels) c.deref-3.ensures.value))
    refl c.in_ok-stop.ensures.stop c.in_ok-stop.ensures.certificates before after count tells

pub returns-clause-same : goal.returns-clause-same
returns-clause-same c =
    let told = subst (λ (a : Straight). IsStraightened (tree_of c.accepted-accepted.result.now.program.term) c.deref-2.result.now c.deref-3.result.now a) c.in-Journal.is c.in_ok-journal.ensures.answer in
    record {
      labels_are = refl;
      tries_are = refl;
      turns_are = refl;
      stop_is = c.in_ok-stop.ensures.stop;
      entries_are = c.in_ok-stop.ensures.entries ∙ ap (λ (es : List Entry). es ++ notes_of_stop c.args.run.stop)
          (told.1 ∙ ap (λ (ls : List Label). straight_with 0 c.deref-3.result.now outset ls) c.deref-2.ensures.value
          ∙ ap (λ (ts : List Try). straight_with 0 ts outset c.args.run.labels.items) c.deref-3.ensures.value);
    }
