-- Lists that are refused before they are read.
use Rattle.std.specs.Prelude.{Bool, true, false, List, [], ◌∷◌, ◌==◌, ◌&&◌, not, nat_le, length, if◌then◌else◌}
use Rattle.std.specs.List.{list_all}
use Rattle.ame_cli.specs.Limits.{word_limit}
use Rattle.ame_cli.specs.Items.{ArgWord}

-- the word isn't empty, isn't `--`, and doesn't begin with one hyphen alone
abbrev pub may_stand : ArgWord → Bool
may_stand [] = false
may_stand (a ∷ []) = not (a == 45)
may_stand (a ∷ b ∷ []) = not (a == 45)
may_stand (a ∷ b ∷ c ∷ rest) = if a == 45 then b == 45 else true

-- at most 16 words, and each may stand
abbrev pub may_be_read : List ArgWord → Bool
may_be_read words = nat_le (length words) word_limit && list_all may_stand words
