use Rattle.std.proofs.Common.{◌≡◌, ◌∙◌, List, [], Option, Some, None, Bor, map, refl, sym, ap, codes}
use Rattle.std.specs.Prelude.{option_map, option_and_then, unwrap_or}
use Rattle.clap.specs.Words.{found_of, rows_of, subcommand_rows_of}
use Rattle.clap.proofs.WalkLemmas.{raw_values-rows}
use Rattle.ame_cli.specs.declared.item.Item.{Item}
use Rattle.ame_cli.specs.declared.command.Options.{Options}
use Rattle.ame_cli.specs.Items.{ArgWord, name_of}
use Rattle.ame_cli.specs.Numbers.{numbers_within}
use Rattle.ame_cli.specs.Rows.{named_in, texts_in, values_in}
use Rattle.ame_cli.specs.Settings.{command_of, options_spelled}
use Rattle.ame_cli.specs.Verbs.{command_with, verb_form}
use Rattle.ame_cli.proofs.MatchLemmas.{subcommand_is}
use Rattle.ame_cli.proofs.given.command_in.Goals as goal

-- a list that may be missing is empty there
missing : {A B : Type 0} (f : A → List B) (o : Option A) (a : A) → f a ≡ [] → f (unwrap_or o a) ≡ unwrap_or (option_map f o) []
missing f None a e = e
missing f (Some x) a e = refl

pub returns : goal.returns
returns c =
    let found = found_of c.in_ok-name.matches.now in
    let rows = rows_of found in
    let verb = c.in_ok-verb.verb in
    let words = values_in (codes "numbers") rows in
    let values : Item → List ArgWord = λ item. values_in (name_of item) rows in
    let shown = λ (vs : Bor (List (Bor ArgWord))). map (λ v. v.now) vs.now in
    let made = λ (options : Options) (ws : List ArgWord). option_map (λ numbers. command_with verb numbers options) (numbers_within (verb_form verb).numbers ws) in
    let is : subcommand_rows_of c.args.matches.now ≡ Some (c.in_ok-name.name.now, rows) =
    subcommand_is c.args.matches.now c.in_ok-name.name.now rows c.in_ok-name.ensures.name c.in_ok-name.ensures.rows in
    c.command_of.ensures
    ∙ ap (made c.in_ok-options.options) (ap shown c.unwrap_or.ensures ∙ missing shown c.get_raw.result _ refl ∙ ap texts_in (c.get_raw.ensures ∙ raw_values-rows found (codes "numbers")))
    ∙ ap (option_and_then (λ options. made options words)) (c.in_ok-options.ensures ∙ ap (λ items. options_spelled items values) c.form.ensures.items)
    ∙ ap (option_and_then (λ v. command_of v words values)) c.in_ok-verb.ensures
    ∙ sym (ap (option_and_then (λ p. named_in p.0 p.1)) is)
