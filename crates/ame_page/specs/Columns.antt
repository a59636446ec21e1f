-- Columns of a page.
use Rattle.std.specs.Prelude.{ℕ, ◌-◌, List, ◌++◌, length, replicate, codes, decimal}

-- a number at the right of a column of this width, and a space
abbrev pub column : ℕ → ℕ → List ℕ
column width n = replicate (width - length (decimal n)) 32 ++ decimal n ++ codes " "

-- words at the left of a column
abbrev pub padded : ℕ → List ℕ → List ℕ
padded width words = words ++ replicate (width - length words) 32
