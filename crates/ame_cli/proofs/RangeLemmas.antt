-- Words spell each command whose numbers are in their ranges.
use Rattle.std.proofs.Common.{◌≡◌, ℕ, ◌<◌, ◌^◌, cond, List, [], ◌∷◌, Option, Some, None, refl, ap, ◌∙◌, arith, le-leb}
use Rattle.std.specs.Prelude.{nat_le, decimal, option_map, option_and_then}
use Rattle.std.specs.Str.Parse.{digits_value}
use Rattle.std.proofs.lemmas.Fmt.{decimal_is_IsNumeral}
use Rattle.ame_cli.specs.declared.bounds.Bounds.{Bounds}
use Rattle.ame_cli.specs.declared.item.Item.{Item}
use Rattle.ame_cli.specs.declared.item.Item.TheVariants.{Workers, Turns, Slice}
use Rattle.ame_cli.specs.declared.verb.Verb.{Verb}
use Rattle.ame_cli.specs.declared.verb.Verb.TheVariants as verb
use Rattle.ame_cli.specs.declared.command.Options.{Options}
use Rattle.ame_cli.specs.declared.command.Command.{Command}
use Rattle.ame_cli.specs.declared.command.Command.TheVariants.{Run, Bench, Sim, Replay, Check, Resume, Weak}
use Rattle.ame_cli.specs.Grammar.{Argument, SpellsCommand, given}
use Rattle.ame_cli.specs.Grammar.Argument.{apart, number}
use Rattle.ame_cli.specs.Grammar.SpellsCommand.{verb_first}
use Rattle.ame_cli.specs.Items.{ArgWord, bounds_of}
use Rattle.ame_cli.specs.Numbers.{number_within, numbers_within}
use Rattle.ame_cli.specs.Ranges.{IsInBounds, AreInRange, IsInRange}
use Rattle.ame_cli.specs.Settings.{setting, options_spelled}
use Rattle.ame_cli.specs.Verbs.{all_items, seeds, sizes, command_with}
use Rattle.ame_cli.proofs.NumberLemmas.{all_true, decimal_is_number}

-- a number in bounds is that of its decimal digits
decimal_within : (bounds : Bounds) (n : ℕ) → bounds.most < 10 ^ 10 → IsInBounds bounds n → number_within bounds (decimal n) ≡ Some n
decimal_within bounds n small within =
    let wide : n < 2 ^ 64 = omega (arith, within.1) in
    let short : n < 10 ^ 10 = omega (arith, within.1) in
    let value = (decimal_is_IsNumeral n wide).1 in
    let least = ap (nat_le bounds.least) value ∙ le-leb bounds.least n within.0 in
    let most = ap (λ v. nat_le v bounds.most) value ∙ le-leb n bounds.most within.1 in
    ap (λ b. cond b (Some (digits_value 10 (decimal n))) None) (all_true _ _ _ (decimal_is_number n short) least most) ∙ ap Some value

-- an option that is given its number has it
decimal_set : (item : Item) (n : ℕ) → IsInBounds (bounds_of item) n → setting all_items item (decimal n ∷ []) ≡ Some n
decimal_set Workers n within = decimal_within (bounds_of Workers) n (omega arith) within
decimal_set Turns n within = decimal_within (bounds_of Turns) n (omega arith) within
decimal_set Slice n within = decimal_within (bounds_of Slice) n (omega arith) within

-- each option as two words
abbrev all_parts : Options → List Argument
all_parts options = apart Workers (decimal options.workers) ∷ apart Turns (decimal options.turns) ∷ apart Slice (decimal options.slice) ∷ []

chosen : (a b c : Option ℕ) (options : Options) → a ≡ Some options.workers → b ≡ Some options.turns → c ≡ Some options.slice
    → option_and_then (λ workers. option_and_then (λ turns. option_map (λ slice. record { workers = workers; turns = turns; slice = slice }) c) b) a ≡ Some options
chosen a b c options p q r =
    ap (λ (o : Option ℕ). option_and_then (λ workers. option_and_then (λ turns. option_map (λ slice. record { workers = workers; turns = turns; slice = slice }) c) b) o) p
    ∙ ap (λ (o : Option ℕ). option_and_then (λ turns. option_map (λ slice. record { workers = options.workers; turns = turns; slice = slice }) c) o) q
    ∙ ap (λ (o : Option ℕ). option_map (λ slice. record { workers = options.workers; turns = options.turns; slice = slice }) o) r

options_chosen : (options : Options) → AreInRange options → (values : Item → List ArgWord) → values Workers ≡ decimal options.workers ∷ []
    → values Turns ≡ decimal options.turns ∷ [] → values Slice ≡ decimal options.slice ∷ [] → options_spelled all_items values ≡ Some options
options_chosen options within values w t s =
    chosen _ _ _ options (ap (setting all_items Workers) w ∙ decimal_set Workers options.workers within.workers)
    (ap (setting all_items Turns) t ∙ decimal_set Turns options.turns within.turns) (ap (setting all_items Slice) s ∙ decimal_set Slice options.slice within.slice)

-- number words and options make the command
made : (named : Verb) (o : Option Options) (ns : Option (List ℕ)) (options : Options) (n : List ℕ) → o ≡ Some options → ns ≡ Some n
    → option_and_then (λ os. option_map (λ k. command_with named k os) ns) o ≡ Some (command_with named n options)
made named o ns options n p q =
    ap (λ (x : Option Options). option_and_then (λ os. option_map (λ k. command_with named k os) ns) x) p
    ∙ ap (option_map (λ k. command_with named k options)) q

one_number : (bounds : Bounds) (n : ℕ) → bounds.most < 10 ^ 10 → IsInBounds bounds n → numbers_within (bounds ∷ []) (decimal n ∷ []) ≡ Some (n ∷ [])
one_number bounds n small within = ap (option_and_then (λ k. Some (k ∷ []))) (decimal_within bounds n small within)

two_numbers : (seed size : ℕ) → IsInBounds seeds seed → IsInBounds sizes size
    → numbers_within (seeds ∷ sizes ∷ []) (decimal seed ∷ decimal size ∷ []) ≡ Some (seed ∷ size ∷ [])
two_numbers seed size one two =
    ap (option_and_then (λ k. option_map (λ ns. k ∷ ns) (numbers_within (sizes ∷ []) (decimal size ∷ [])))) (decimal_within seeds seed (omega arith) one)
    ∙ ap (option_map (λ ns. seed ∷ ns)) (one_number sizes size (omega arith) two)

-- `weak` takes the turns alone
turns_chosen : (turns : ℕ) → IsInBounds (bounds_of Turns) turns
    → options_spelled (Turns ∷ []) (given (apart Turns (decimal turns) ∷ [])) ≡ Some (record { workers = 1; turns = turns; slice = 1000 })
turns_chosen turns within = chosen _ _ _ (record { workers = 1; turns = turns; slice = 1000 }) refl (decimal_within (bounds_of Turns) turns (omega arith) within) refl

pub ranged_is_spelled : (command : Command) → IsInRange command → (words : List ArgWord) × SpellsCommand words command
ranged_is_spelled (Run options) within =
    (_, verb_first verb.Run (all_parts options) (Run options) (made verb.Run _ _ options [] (options_chosen options within (given (all_parts options)) refl refl refl) refl))
ranged_is_spelled (Bench seed size options) within =
    let parts = number (decimal seed) ∷ number (decimal size) ∷ all_parts options in (
      _,
      verb_first verb.Bench parts (Bench seed size options)
          (made verb.Bench _ _ options (seed ∷ size ∷ []) (options_chosen options within.2 (given parts) refl refl refl) (two_numbers seed size within.0 within.1)),
    )
ranged_is_spelled (Sim seed options) within =
    let parts = number (decimal seed) ∷ all_parts options in (
      _,
      verb_first verb.Sim parts (Sim seed options)
          (made verb.Sim _ _ options (seed ∷ []) (options_chosen options within.1 (given parts) refl refl refl) (one_number seeds seed (omega arith) within.0)),
    )
ranged_is_spelled (Replay options) within = (
  _,
  verb_first verb.Replay (all_parts options) (Replay options)
      (made verb.Replay _ _ options [] (options_chosen options within (given (all_parts options)) refl refl refl) refl),
)
ranged_is_spelled Check within = (_, verb_first verb.Check [] Check refl)
ranged_is_spelled (Resume options) within = (
  _,
  verb_first verb.Resume (all_parts options) (Resume options)
      (made verb.Resume _ _ options [] (options_chosen options within (given (all_parts options)) refl refl refl) refl),
)
ranged_is_spelled (Weak seed turns) within =
    let parts = number (decimal seed) ∷ apart Turns (decimal turns) ∷ [] in (
      _,
      verb_first verb.Weak parts (Weak seed turns)
          (made verb.Weak _ _ (record { workers = 1; turns = turns; slice = 1000 }) (seed ∷ []) (turns_chosen turns within.1) (one_number seeds seed (omega arith) within.0)),
    )
