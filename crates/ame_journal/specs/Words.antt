-- Words of a line, and what is read from them.
use Rattle.std.specs.Prelude.{◌≡◌, ◌≢◌, ◌==◌, ◌+◌, ◌-◌, ◌*◌, ℕ, List, [], ◌∷◌, drop, Option, Some, None}
use denote.Ref.{Bor}
use Rattle.std.specs.List.{slice_split, fold, position_or_len}

-- the words that the spaces of a line separate
abbrev pub line_words : List ℕ → List (List ℕ)
line_words line = slice_split (λ b. b == 32) line

-- the words of what is left of a line, if anything is
abbrev pub rest_words : Option (Bor (List ℕ)) → List (List ℕ)
rest_words None = []
rest_words (Some rest) = line_words rest.now

-- how many bytes there are before the first space
abbrev pub word_len : List ℕ → ℕ
word_len line = position_or_len (λ b. b == 32) line

-- the first word
abbrev pub BeginsWith : List (List ℕ) → List ℕ → Type 0
BeginsWith ws word = ws ≡ word ∷ drop 1 ws

-- the value of decimal digits
abbrev pub digits_number : List ℕ → ℕ
digits_number digits = fold (λ value digit. 10 * value + (digit - 48)) 0 digits

module _ {X T : Type 0} (spelling : X → T) (IsAllowed : X → Type 0) where
  -- the value that is spelled, or none if no allowed value is
  abbrev pub ReadsWord : T → Option X → Type 0
  ReadsWord spelled None = (x : X) → IsAllowed x → spelled ≢ spelling x
  ReadsWord spelled (Some x) = (spelled ≡ spelling x) × IsAllowed x

-- the first word is taken if it spells an allowed value; otherwise nothing is
module _ {X : Type 0} (spelling : X → List ℕ) (IsAllowed : X → Type 0) where
  abbrev pub TakesFront : List (List ℕ) → Option X → List (List ℕ) → Type 0
  TakesFront old None new = (new ≡ old) × ((x : X) (rest : List (List ℕ)) → IsAllowed x → old ≢ spelling x ∷ rest)
  TakesFront old (Some x) new = (old ≡ spelling x ∷ new) × IsAllowed x
