-- The settings that values of options and number words give.
use Rattle.std.specs.Prelude.{ℕ, List, [], ◌∷◌, Option, Some, None, option_map, option_and_then, if◌then◌else◌}
use Rattle.std.specs.List.{list_any}
use Rattle.ame_cli.specs.declared.item.Item.{Item}
use Rattle.ame_cli.specs.declared.item.Item.TheVariants.{Workers, Turns, Slice}
use Rattle.ame_cli.specs.declared.verb.Verb.{Verb}
use Rattle.ame_cli.specs.declared.command.Options.{Options}
use Rattle.ame_cli.specs.declared.command.Command.{Command}
use Rattle.ame_cli.specs.Items.{ArgWord, bounds_of, default_of, is_same}
use Rattle.ame_cli.specs.Numbers.{number_within, numbers_within}
use Rattle.ame_cli.specs.Verbs.{verb_form, command_with}

-- an option that isn't given has its default, and one that may be given and is given once has that number
abbrev pub setting : List Item → Item → List ArgWord → Option ℕ
setting allowed item [] = Some (default_of item)
setting allowed item (value ∷ []) = if list_any (is_same item) allowed then number_within (bounds_of item) value else None
setting allowed item (value ∷ other ∷ rest) = None

-- the numbers of all options, by the values that each is given
abbrev pub options_spelled : List Item → (Item → List ArgWord) → Option Options
options_spelled allowed values =
    option_and_then (λ workers. option_and_then (λ turns. option_map (λ slice. record { workers = workers; turns = turns; slice = slice })
    (setting allowed Slice (values Slice))) (setting allowed Turns (values Turns))) (setting allowed Workers (values Workers))

-- the command of a verb, its number words and the values of options
abbrev pub command_of : Verb → List ArgWord → (Item → List ArgWord) → Option Command
command_of verb words values =
    option_and_then (λ options. option_map (λ numbers. command_with verb numbers options)
    (numbers_within (verb_form verb).numbers words)) (options_spelled (verb_form verb).items values)
