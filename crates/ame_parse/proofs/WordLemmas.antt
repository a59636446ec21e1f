-- Spellings that are no reserved word.
use Rattle.std.proofs.Common.{◌≡◌, ◌≢◌, ℕ, Bool, true, false, List, [], ◌∷◌, length, get_or, codes, None, refl, ap, arith, rules}
use Rattle.std.proofs.lemmas.Slice.Eq.{bytes_eq-Decides}
use Rattle.std.specs.Bool.{⊤, Decides}
use Rattle.std.specs.Str.{bytes_eq}
use Rattle.ame_lex.specs.Bytes.{Text}
use Rattle.ame_parse.specs.declared.words.Word.{Word}
use Rattle.ame_parse.specs.Words.{words, find_in, word_of}

-- the table has no entry with this spelling
abbrev Lacks : Text → List (Text × Word) → Type 0
Lacks s [] = ⊤
Lacks s (entry ∷ rest) = (bytes_eq entry.0 s ≡ false) × Lacks s rest

lacking : (table : List (Text × Word)) (s : Text) → Lacks s table → find_in table s ≡ None
lacking [] s h = refl
lacking (entry ∷ rest) s h = rw h.0 (lacking rest s h.1)

undecided : (b : Bool) (p s : Text) → Decides b (p ≡ s) → p ≢ s → b ≡ false
undecided true p s d h = absurd (h (d.0 refl))
undecided false p s d h = refl

differs : (p s : Text) → p ≢ s → bytes_eq p s ≡ false
differs p s h = undecided (bytes_eq p s) p s (bytes_eq-Decides p s) h

by_length : (p s : Text) → length p ≢ length s → bytes_eq p s ≡ false
by_length p s h = differs p s (λ e. h (ap length e))

by_byte : (p s : Text) (i : ℕ) → get_or p i 0 ≢ get_or s i 0 → bytes_eq p s ≡ false
by_byte p s i h = differs p s (λ e. h (ap (λ x. get_or x i 0) e))

-- whether a spelling of ten or eleven bytes is a word is up to one word
up_to_one : (s : Text) → 2 ≢ length s → 3 ≢ length s → 4 ≢ length s → 5 ≢ length s
    → bytes_eq (codes "blockUntil") s ≡ false → bytes_eq (codes "unprotected") s ≡ false → word_of s ≡ None
unfolding word_of
up_to_one s two three four five ten eleven = lacking words s (search (rules, by_length) depth 40)

pub other_lengths : (s : Text) → length s ≢ 2 → length s ≢ 3 → length s ≢ 4 → length s ≢ 5 → length s ≢ 10 → length s ≢ 11 → word_of s ≡ None
other_lengths s two three four five ten eleven =
    up_to_one s (omega arith) (omega arith) (omega arith) (omega arith) (by_length (codes "blockUntil") s (omega arith)) (by_length (codes "unprotected") s (omega arith))

pub ten_bytes : (s : Text) (i : ℕ) → length s ≡ 10 → get_or (codes "blockUntil") i 0 ≢ get_or s i 0 → word_of s ≡ None
ten_bytes s i ten h =
    up_to_one s (omega arith) (omega arith) (omega arith) (omega arith) (by_byte (codes "blockUntil") s i h) (by_length (codes "unprotected") s (omega arith))

pub eleven_bytes : (s : Text) (i : ℕ) → length s ≡ 11 → get_or (codes "unprotected") i 0 ≢ get_or s i 0 → word_of s ≡ None
eleven_bytes s i eleven h =
    up_to_one s (omega arith) (omega arith) (omega arith) (omega arith) (by_length (codes "blockUntil") s (omega arith)) (by_byte (codes "unprotected") s i h)
