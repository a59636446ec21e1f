use Rattle.std.proofs.Common.{◌+◌, refl, sym, ap, ◌∙◌, subst}
use Rattle.std.specs.Prelude.{option_map}
use Rattle.ame_engine.proofs.JoinLemmas.{Joining, joining-none, joining-some}
use Rattle.ame_engine.proofs.engine.commit.members.join_all.Goals as goal
use Rattle.ame_engine.proofs.engine.commit.members.join_all.Goals.{in-Some, in_default}

pub loop-number-preserved : goal.loop-number-preserved
loop-number-preserved g c =
    elim c.match-take_spawn.branch [
      | in-Some w ↦
          subst (λ p. Joining g.M.Runner.meaning.is_machine g.M.Runner.meaning.stage c.args.first c.args.end c.args.pool.now c.args.at.now (c.loop-number.number + 1) p c.take_spawn.new.self)
          (sym (w.pool-is ∙ w.add.ensures))
          (joining-some g.M.Runner.meaning.is_machine g.M.Runner.meaning.stage c.args.first c.args.end c.args.pool.now c.args.at.now
          c.loop-number.number c.loop-number.pool c.loop-number.at c.loop-number.invariant c.loop-number-test.true
          c.take_spawn.new.self c.take_spawn.ensures.rest c.take_spawn.ensures.machine w.in-Some.member
          (λ code. sym (ap (option_map (g.M.Runner.meaning.stage code)) w.in-Some.is) ∙ c.take_spawn.ensures.first code)
          (λ code machine. c.take_spawn.ensures.taken code w.in-Some.member machine w.in-Some.is))
      | in_default w ↦
          subst (λ p. Joining g.M.Runner.meaning.is_machine g.M.Runner.meaning.stage c.args.first c.args.end c.args.pool.now c.args.at.now (c.loop-number.number + 1) p c.take_spawn.new.self)
          (sym w.pool-is)
          (joining-none g.M.Runner.meaning.is_machine g.M.Runner.meaning.stage c.args.first c.args.end c.args.pool.now c.args.at.now
          c.loop-number.number c.loop-number.pool c.loop-number.at c.loop-number.invariant c.loop-number-test.true
          c.take_spawn.new.self c.take_spawn.ensures.rest c.take_spawn.ensures.machine _ w.in_default.ensures.first refl)
    ]
