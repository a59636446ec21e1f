-- The lines of a certificate, and the words of a line.
use Rattle.std.specs.Prelude.{◌≡◌, ◌⊎◌, ℕ, ◌-◌, ◌==◌, ◌&&◌, ◌||◌, ◌<◌, Bool, true, false, List, [], ◌∷◌, length, drop, slice_index, if◌then◌else◌}
use Rattle.std.specs.List.{before_first}
use Rattle.std.specs.Str.{bytes_eq}

-- a text after a number of bytes that are a mark
abbrev pub after_marks : ℕ → ℕ → List ℕ → List ℕ
after_marks mark n [] = []
after_marks mark n (b ∷ text) = if n == 0 then b ∷ text else (if b == mark then after_marks mark (n - 1) text else after_marks mark n text)

-- the place after a number of them, or the end of a text with fewer
abbrev pub place_after : ℕ → ℕ → List ℕ → ℕ
place_after mark n text = length text - length (after_marks mark n text)

-- the beginning of a line, counted from 1
abbrev pub line_place : List ℕ → ℕ → ℕ
line_place text line = place_after 10 (line - 1) text

-- the beginning of a word of a line, counted from 0
abbrev pub word_place : List ℕ → ℕ → ℕ
word_place line n = place_after 32 n line

-- the line and the word that begin at a place
abbrev pub line_from : List ℕ → ℕ → List ℕ
line_from text place = before_first (λ b. b == 10) (drop place text)

abbrev pub word_from : List ℕ → ℕ → List ℕ
word_from line place = before_first (λ b. b == 32) (drop place line)

-- whether a word begins at a place, and whether it is this one
abbrev pub begins_word : List ℕ → ℕ → Bool
begins_word line place = place == 0 || slice_index line (place - 1) == 32

abbrev pub is_word : List ℕ → List ℕ → ℕ → Bool
is_word line sought place = begins_word line place && bytes_eq (word_from line place) sought

-- the last of such words begins there, or there is none, and it is the end
pub record IsLastWord (line sought : List ℕ) (place : ℕ) : Type 0 where
  pub there : (is_word line sought place ≡ true) ⊎ (place ≡ length line)
  pub last : (later : ℕ) → place < later → later < length line → is_word line sought later ≡ false
  pub none : place ≡ length line → (earlier : ℕ) → earlier < length line → is_word line sought earlier ≡ false
