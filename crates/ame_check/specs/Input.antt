-- An input of two parts: a journal's text, the line `program`, and a program's text.
use Rattle.std.specs.Prelude.{◌≡◌, ℕ, ◌+◌, ◌-◌, ◌<◌, ◌==◌, ◌||◌, Bool, true, List, ◌++◌, drop, get_or, codes}

-- whether a line begins at a place: at the beginning, or after a line feed
abbrev pub begins_line : List ℕ → ℕ → Bool
begins_line bytes k = (k == 0) || (get_or bytes (k - 1) 0 == 10)

-- the line that begins at a place is `program`, with its line feed
pub record HasProgramLine (bytes : List ℕ) (k : ℕ) : Type 0 where
  pub begins : begins_line bytes k ≡ true
  pub rest : List ℕ
  pub line : drop k bytes ≡ codes "program\n" ++ rest

-- the first such line comes after this number of bytes of a journal, and the program's text starts after it
pub record IsSplit (bytes : List ℕ) (journal start : ℕ) : Type 0 where
  pub line : HasProgramLine bytes journal
  pub first : (k : ℕ) → k < journal → HasProgramLine bytes k → ⊥
  pub behind : start ≡ journal + 8
