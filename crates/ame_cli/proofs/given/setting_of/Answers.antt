use Rattle.std.proofs.Common.{◌∙◌, ap}
use Rattle.clap.specs.Words.{found_of, rows_of}
use Rattle.clap.proofs.WalkLemmas.{raw_values-rows}
use Rattle.ame_cli.specs.Rows.{texts_in, values_in}
use Rattle.ame_cli.specs.Settings.{setting}
use Rattle.ame_cli.proofs.given.setting_of.Goals as goal

pub returns : goal.returns
returns c =
    let found = found_of c.args.matches.now in
    let one = setting c.args.allowed.now c.args.item in
    c.setting.ensures ∙ ap (λ t. one (texts_in t)) (c.get_raw.ensures ∙ raw_values-rows found c.name.result.now)
    ∙ ap (λ n. one (values_in n (rows_of found))) c.name.ensures
