-- The lines of an output.
use Rattle.std.specs.Prelude.{ℕ, ℤ, List, [], ◌∷◌, ◌++◌, codes}
use Rattle.std.specs.Fmt.{signed_decimal}

-- an integer in decimal, and a line feed
abbrev pub line_of : ℤ → List ℕ
line_of n = signed_decimal n ++ codes "\n"

-- the integers printed, a line each
abbrev pub lines : List ℤ → List ℕ
lines [] = []
lines (n ∷ output) = line_of n ++ lines output
