use Rattle.std.proofs.Common.{OnOk, None, ap, sym, ◌∙◌, subst}
use Rattle.std.specs.Prelude.{unwrap_or}
use Rattle.ame_protocol.specs.Event.Event.{Event}
use Rattle.ame_engine.specs.Makes.{MakesAt}
use Rattle.ame_engine.proofs.engine.Engine.spend.Goals as goal

pub returns-then-is_valid-clause-cut : goal.returns-then-is_valid-clause-cut
returns-then-is_valid-clause-cut g c = λ x is valid attempt has.
    subst (λ m. OnOk c.cut.result (MakesAt g.M.Runner.meaning (g.M.Runner.meaning.stage c.args.self.now.code m.now) None
    (λ place. Event.Cut c.args.seat attempt (g.M.Runner.meaning.stage c.args.self.now.code m.now).steps place) c.args.self.now c.cut.new.self))
    (ap (λ o. unwrap_or o c.in-Some.at) (sym c.in-Some.is ∙ is)) (c.cut.ensures.cut attempt has)
