-- The words into which a line is cut.
use Rattle.std.proofs.Common.{◌≡◌, ◌≢◌, ℕ, suc, ◌+◌, ◌<◌, ◌≤◌, ◌^◌, Bool, true, false, not, cond, eqb, List, [], ◌∷◌, length, take, drop, decimal, Option, Some, None, IsTrue, is_some, ◌-◌, refl, sym, ap, ◌∙◌, arith}
use Rattle.std.specs.List.{onto_first}
use Rattle.std.proofs.lemmas.Fmt.{decimal_injective}
use Rattle.std.proofs.lemmas.List.{take_all}
use denote.Ref.{Bor}
use Rattle.ame_journal.specs.Words.{line_words, word_len, rest_words}

-- the words after a space, if there is one
abbrev pub words_behind : List ℕ → List (List ℕ)
words_behind [] = []
words_behind (b ∷ rest) = line_words rest

one-plus : (n : ℕ) → 1 + n ≡ suc n
one-plus n = omega arith

cut_at : (b : ℕ) (rest : List ℕ) (v : Bool) → line_words rest ≡ take (word_len rest) rest ∷ words_behind (drop (word_len rest) rest) →
    cond v ([] ∷ line_words rest) (onto_first b (line_words rest))
    ≡ take (cond (not v) (1 + word_len rest) 0) (b ∷ rest) ∷ words_behind (drop (cond (not v) (1 + word_len rest) 0) (b ∷ rest))
cut_at b rest true e = refl
cut_at b rest false e = rw one-plus (ap (onto_first b) e)

-- the first word, and those after it
pub words-cut : (line : List ℕ) → line_words line ≡ take (word_len line) line ∷ words_behind (drop (word_len line) line)
words-cut [] = refl
words-cut (b ∷ rest) = cut_at b rest (eqb b 32) (words-cut rest)

-- each line has a word
pub words-some : (line : List ℕ) → line_words line ≢ []
words-some line e = let c = words-cut line in cc

pub is_empty-words : (rest : Option (Bor (List ℕ))) (old : List (List ℕ)) (r : Bool) → rest_words rest ≡ old → is_some rest ≡ not r → (IsTrue r → old ≡ []) × (old ≡ [] → IsTrue r)
is_empty-words None old true is e = (λ _. sym is, λ _. refl)
is_empty-words None old false is e = cc
is_empty-words (Some rest) old true is e = cc
is_empty-words (Some rest) old false is e = (λ f. cc, λ none. absurd (words-some rest.now (is ∙ none)))

-- the same, as the code cuts a line
pub cut-last : (line front back : List ℕ) (n : ℕ) → n ≡ word_len line → front ≡ take n line → back ≡ drop n line → length back < 1 → line_words line ≡ front ∷ []
cut-last line front [] n len front_is back_is none =
    let c = words-cut line in
    let a : take (word_len line) line ≡ front = ap (λ m. take m line) (sym len) ∙ sym front_is in
    let b : drop (word_len line) line ≡ [] = ap (λ m. drop m line) (sym len) ∙ sym back_is in
    c ∙ ap (λ w. w ∷ words_behind (drop (word_len line) line)) a ∙ ap (λ d. front ∷ words_behind d) b
cut-last line front (b ∷ back) n len front_is back_is none = absurd (omega arith)

pub cut-more : (line front back : List ℕ) (n : ℕ) → n ≡ word_len line → front ≡ take n line → back ≡ drop n line → 1 ≤ length back → line_words line ≡ front ∷ line_words (take (length back - 1) (drop 1 back))
cut-more line front [] n len front_is back_is some = absurd (omega arith)
cut-more line front (x ∷ back) n len front_is back_is some =
    let c = words-cut line in
    let a : take (word_len line) line ≡ front = ap (λ m. take m line) (sym len) ∙ sym front_is in
    let b : drop (word_len line) line ≡ x ∷ back = ap (λ m. drop m line) (sym len) ∙ sym back_is in
    let whole : take (length (x ∷ back) - 1) back ≡ back = take_all (length (x ∷ back) - 1) back (omega arith) in
    c ∙ ap (λ w. w ∷ words_behind (drop (word_len line) line)) a ∙ ap (λ d. front ∷ words_behind d) b ∙ ap (λ r. front ∷ line_words r) (sym whole)

-- a word that spells a number spells no lower one
pub too_great : (old rest : List (List ℕ)) (word : List ℕ) (n x limit : ℕ) → old ≡ word ∷ drop 1 old → word ≡ decimal n → n < 2 ^ 64 → limit ≤ n → x < limit → old ≢ decimal x ∷ rest
too_great old rest word n x limit begins is small high low e =
    let same_text : decimal x ≡ decimal n = cc in
    let same : x ≡ n = decimal_injective x n (omega arith) small same_text in
    absurd (omega arith)
