use Rattle.std.proofs.Common.{◌+◌, ◌<◌, Some, ◌∙◌, ap, arith}
use Rattle.std.proofs.lemmas.Result.{IfOk-weaker, IfErr-weaker}
use Rattle.ame_machine.specs.declared.wants.Wants.{Wants}
use Rattle.ame_check.proofs.WantLemmas.{tall-there}
use Rattle.ame_term.specs.Frame.{Side}
use Rattle.ame_check.proofs.walk.Walk.last.Goals as goal

pub hear-requires-clause-steps : goal.hear-requires-clause-steps
hear-requires-clause-steps g c = let fits = c.requires.fits in let count = c.requires.count in omega arith

pub close-requires-clause-steps : goal.close-requires-clause-steps
close-requires-clause-steps g c = let fits = c.requires.fits in let count = c.requires.count in omega arith

pub returns-in-Device-clause-made : goal.returns-in-Device-clause-made
returns-in-Device-clause-made g c =
    IfOk-weaker c.hear.result _ _ (λ _ h s i n a. h s i c.args.self.now.cells.now.entries c.args.overlay.now.entries n a) c.hear.ensures.made

pub returns-in-Device-clause-halted : goal.returns-in-Device-clause-halted
returns-in-Device-clause-halted g c =
    IfErr-weaker c.hear.result _ _ (λ _ h s i n a. h s i c.args.self.now.cells.now.entries c.args.overlay.now.entries n a) c.hear.ensures.halted

pub returns-in-Close-clause-made : goal.returns-in-Close-clause-made
returns-in-Close-clause-made g c =
    IfOk-weaker c.close.result _ _ (λ _ h s i n a. h s i c.args.self.now.cells.now.entries c.args.overlay.now.entries n a) c.close.ensures.made

pub returns-in-Close-clause-halted : goal.returns-in-Close-clause-halted
returns-in-Close-clause-halted g c =
    IfErr-weaker c.close.result _ _ (λ _ h s i n a. h s i c.args.self.now.cells.now.entries c.args.overlay.now.entries n a) c.close.ensures.halted

pub returns-in-Tall-clause-halted : goal.returns-in-Tall-clause-halted
returns-in-Tall-clause-halted g c = λ s i n a.
    let under : n < n + 1 = omega arith in
    tall-there g.M.Runner.meaning c.args.self.now.code.now (g.met.M.Runner.sound c.args.self.now.code.now) s i c.args.self.now.entry.now.fresh c.args.self.now.cells.now.entries c.args.overlay.now.entries c.args.machine.now Side.Unprotected n a
    (c.requires.told ∙ ap (λ (z : Wants). Some z) c.in-Tall.is) (n + 1) under
