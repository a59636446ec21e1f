use Rattle.std.proofs.Common.{List, None, ap, map, refl, subst}
use Rattle.std.specs.List.{AllByRecursion}
use Rattle.ame_term.specs.View.{tree_of, typ_of}
use Rattle.ame_device.specs.declared.told.Told.{Told}
use Rattle.ame_laws.proofs.Typed.Started.{accepted}
use Rattle.ame_runner.specs.Run.{CourseView, IsOwn, HasMadeUncounted, CountsNothing}
use Rattle.ame_runner.specs.Stop.{HearsOn}
use Rattle.ame_runner.specs.View.{run_of}
use Rattle.ame_runner.proofs.RunLemmas.{goes-on, ended-before}
use Rattle.ame_runner.proofs.HearLemmas.{ok-then, hears-own}
use Rattle.ame_runner.specs.Drawn.{MakesNextLabel}
use Rattle.ame_runner.proofs.DrawLemmas.{gone-on}
use Rattle.ame_runner.proofs.run.Run.go_on.Goals as goal

pub returns-in-Some-clause-runs : goal.returns-in-Some-clause-runs
returns-in-Some-clause-runs c = λ running.
    let old = run_of c.args.self.now in
    let r : CourseView = record old { left = c.pop_front.new.self.items } in
    goes-on old r (run_of c.make.new.self) c.in-Some.label c.make.result running (ap (λ ls. record old { left = ls }) c.in-Some.ensures.items) c.make.ensures.made c.make.ensures.err

pub returns-in-Some-clause-hears : goal.returns-in-Some-clause-hears
returns-in-Some-clause-hears c =
    let old = run_of c.args.self.now in
    let r : CourseView = record old { left = c.pop_front.new.self.items } in
    let q = run_of c.make.new.self in
    let a = c.args.self.now.play.accepted.now in
    let p = tree_of a.program.term in
    let refs = map typ_of a.ref_tys.items in
    ok-then c.make.result (HasMadeUncounted c.in-Some.label r q) ((told : List Told) → HearsOn None old q told told)
    (λ made. λ told opened running heard. (
      hears-own a.devices a.program.places.items p refs
          (accepted a.devices a.program.places.items p refs a.typed) a.program.source a.program.numbered
          old.play q.play c.in-Some.label made.made refl running.played opened told heard (subst (AllByRecursion IsOwn) c.in-Some.ensures.items running.own).0,
      λ k. refl,
    )) c.make.ensures.made

pub returns-in-None-clause-runs : goal.returns-in-None-clause-runs
returns-in-None-clause-runs c = λ running.
    let old = run_of c.args.self.now in
    ended-before old (record old { left = c.pop_front.new.self.items }) old.left running refl

pub returns-in-Some-clause-counts : goal.returns-in-Some-clause-counts
returns-in-Some-clause-counts c =
    let old = run_of c.args.self.now in
    let r : CourseView = record old { left = c.pop_front.new.self.items } in
    let q = run_of c.make.new.self in
    ok-then c.make.result (HasMadeUncounted c.in-Some.label r q) (CountsNothing old q) (λ made. record { turns = made.turns; tries = made.tries }) c.make.ensures.made

pub returns-in-Some-clause-goes : goal.returns-in-Some-clause-goes
returns-in-Some-clause-goes c =
    let old = run_of c.args.self.now in
    let r : CourseView = record old { left = c.pop_front.new.self.items } in
    let q = run_of c.make.new.self in
    ok-then c.make.result (HasMadeUncounted c.in-Some.label r q) (MakesNextLabel old q) (λ made. gone-on old q c.in-Some.label c.pop_front.new.self.items c.in-Some.ensures.items made)
    c.make.ensures.made
