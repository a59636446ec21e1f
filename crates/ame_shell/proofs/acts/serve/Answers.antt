use Rattle.std.proofs.Common.{◌≡◌, true, false, ap, ◌∙◌, arith}
use Rattle.ame_protocol.specs.declared.types.Limits.{Limits}
use Rattle.ame_shell.proofs.DoneLemmas.{never-unserved}
use Rattle.ame_shell.proofs.acts.serve.Goals.{else-waits_for_check-via-then-waits_for_check+else-since-from, else-waits_for_check-via-else-waits_for_check}
use Rattle.ame_shell.proofs.acts.serve.Goals as goal

pub unreachable-requires : goal.unreachable-requires
unreachable-requires g c =
    let code = c.args.engine.now.code in
    let m = c.args.machine.now in
    never-unserved (g.M.Runner.meaning.stage code m) (g.met.M.Runner.sound code m c.requires.turn.at.on.machine) c.args.engine.now.limits.slice
    c.args.want c.requires.told c.requires.goes_on.0 c.requires.goes_on.1 c.requires.outside c.requires.ready
    (λ waits. elim c.else-waits_for_check.branch [
      | else-waits_for_check-via-then-waits_for_check+else-since-from w ↦
          (let below = w.if-since-from.false in
          let since = w.since.ensures code in
          let from = w.from.ensures in
          let slice = ap (λ (l : Limits). l.slice) w.limits.ensures in
          omega (arith, below, since, from, slice))
      | else-waits_for_check-via-else-waits_for_check w ↦ absurd (let never = w.if-waits_for_check.ensures in let is : false ≡ true = never ∙ waits in cc)
    ])
    c.in-Done.is
