-- Number words.
use Rattle.std.specs.Prelude.{ℕ, List, [], ◌∷◌, Bool, Option, Some, None, option_map, option_and_then, ◌&&◌, if◌then◌else◌, nat_le, length}
use Rattle.std.specs.List.{list_all}
use Rattle.std.specs.Char.{is_ascii_digit}
use Rattle.std.specs.Str.Parse.{digits_value}
use Rattle.ame_cli.specs.declared.bounds.Bounds.{Bounds}
use Rattle.ame_cli.specs.Limits.{digit_limit}
use Rattle.ame_cli.specs.Items.{ArgWord}

-- the word is one to ten decimal digits
abbrev pub is_number : ArgWord → Bool
is_number word = nat_le 1 (length word) && (nat_le (length word) digit_limit && list_all is_ascii_digit word)

-- the decimal value of a number word, if it is in the bounds
abbrev pub number_within : Bounds → ArgWord → Option ℕ
number_within bounds word =
    let value = digits_value 10 word in
    if is_number word && (nat_le bounds.least value && nat_le value bounds.most) then Some value else None

-- the numbers of as many words as there are bounds, each in its own
abbrev pub numbers_within : List Bounds → List ArgWord → Option (List ℕ)
numbers_within [] [] = Some []
numbers_within (bounds ∷ rest) (word ∷ words) = option_and_then (λ n. option_map (λ ns. n ∷ ns) (numbers_within rest words)) (number_within bounds word)
numbers_within _ _ = None
