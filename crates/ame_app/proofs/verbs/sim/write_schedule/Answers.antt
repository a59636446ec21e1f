use Rattle.std.proofs.Common.{◌++◌}
use Rattle.std.specs.Prelude.{codes}
use Rattle.ame_io.proofs.WritesLemmas.{AppendsFront-after, AppendsFront-longer}
use Rattle.ame_app.proofs.PickLemmas.{on-err, on-err-then, signs_picked}
use Rattle.ame_app.proofs.verbs.sim.write_schedule.Goals as goal

pub returns-in_err-write_all-clause-front : goal.returns-in_err-write_all-clause-front
returns-in_err-write_all-clause-front g c =
    on-err c.from_residual.result _
    (AppendsFront-longer _ _ (codes "schedule ") (signs_picked c.args.picks.now ++ codes "\n") c.in_err-write_all.ensures.front)

pub returns-in_err-write_signs-clause-front : goal.returns-in_err-write_signs-clause-front
returns-in_err-write_signs-clause-front g c =
    on-err c.from_residual-in_err-write_signs.result _
    (AppendsFront-after _ _ _ (codes "schedule ") (signs_picked c.args.picks.now ++ codes "\n") c.in_ok-write_all.ensures.whole
    (AppendsFront-longer _ _ (signs_picked c.args.picks.now) (codes "\n") c.in_err-write_signs.ensures.front))

pub returns-clause-front : goal.returns-clause-front
returns-clause-front g c =
    on-err-then c.write_all-2.result _ _
    (λ front. AppendsFront-after _ _ _ (codes "schedule ") (signs_picked c.args.picks.now ++ codes "\n") c.in_ok-write_all.ensures.whole
    (AppendsFront-after _ _ _ (signs_picked c.args.picks.now) (codes "\n") c.in_ok-write_signs.ensures.whole front))
    c.write_all-2.ensures.front
