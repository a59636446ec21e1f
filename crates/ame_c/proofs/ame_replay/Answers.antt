use Rattle.std.proofs.Common.{subst}
use Rattle.ame_cli.specs.declared.command.Options.{Options}
use Rattle.ame_app.specs.declared.alone.Alone.{Alone}
use Rattle.ame_c.specs.CallResult.{AnswersRun, TellsMade, texts}
use Rattle.ame_c.specs.Out.{bytes_in}
use Rattle.ame_c.proofs.ame_replay.Goals as goal

pub returns : goal.returns
returns c =
    let made = c.made_by-made.result in
    let all = texts (bytes_in made.lines) made.certificate.items made.schedule.items in
    c.hand_out.ensures _ c.args.scheduled.now (subst (λ (o : Options). TellsMade (Alone.Replay o) c.args.scheduled.now made.told all) c.options.ensures c.made_by-made.ensures)
