-- The words of a line determine its parts.
use Rattle.std.proofs.Common.{◌≡◌, ◌≢◌, ℕ, ℤ, ◌<◌, ◌^◌, List, [], ◌∷◌, ◌++◌, All, map, get_or, decimal, codes, Option, Some, None, refl, sym, ap, subst, ◌∙◌, arith}
use Rattle.std.specs.Fmt.{signed_decimal}
use Rattle.std.proofs.lemmas.List.Elements.{All-head, All-tail}
use Rattle.std.proofs.lemmas.Str.Parse.{digit_at}
use Rattle.std.proofs.lemmas.Fmt.{decimal_injective, decimal_is_IsNumeral, decimal_nonempty}
use Rattle.ame_journal.specs.declared.entry.Entry.{Entry}
use Rattle.ame_journal.specs.declared.entry.EntryKind.{EntryKind}
use Rattle.ame_journal.specs.declared.line.Head.{Head}
use Rattle.ame_journal.specs.Kinds.{kind_word}
use Rattle.ame_journal.specs.Text.{answer_words, words_of, IsSpellable}
use Rattle.ame_journal.specs.Lines.{head_words, IsHead, TakesLocations, IsAnswer}

-- a word that isn't an equals sign begins no answer
pub not_answer : (kind : EntryKind) (old : List (List ℕ)) → old ≢ [] → ((rest : List (List ℕ)) → old ≢ codes "=" ∷ rest) →
    (answer : Option ℤ) → IsAnswer kind answer → old ≢ answer_words answer
not_answer kind old some none None is e = some e
not_answer kind old some none (Some n) is e = none (signed_decimal n ∷ []) e

-- a head whose last number is missing is no head
pub not_head : (old w₁ w₂ w₃ : List (List ℕ)) (kind : EntryKind) (seat number : ℕ) →
    old ≡ kind_word kind ∷ w₁ → w₁ ≡ decimal seat ∷ w₂ → w₂ ≡ decimal number ∷ w₃ → ((x : ℕ) (rest : List (List ℕ)) → x < 2 ^ 64 → w₃ ≢ decimal x ∷ rest) →
    (head : Head) (rest : List (List ℕ)) → IsHead head → old ≢ head_words head rest
not_head old w₁ w₂ w₃ kind seat number e₁ e₂ e₃ none head rest is e =
    let a : w₁ ≡ decimal head.seat ∷ decimal head.number ∷ decimal head.steps ∷ rest = cc in
    let b : w₂ ≡ decimal head.number ∷ decimal head.steps ∷ rest = cc in
    let c : w₃ ≡ decimal head.steps ∷ rest = cc in
    none head.steps rest is.steps c

-- the head of an entry
abbrev pub head_of : Entry → Head
head_of entry = record { kind = entry.kind; seat = entry.seat; number = entry.number; steps = entry.steps }

pub head_is : (entry : Entry) → IsSpellable entry → IsHead (head_of entry)
head_is entry is = record { seat = is.fit.seat; number = is.number; steps = is.steps }

-- kinds with one word are one kind
pub kind_word-same : (j k : EntryKind) → kind_word j ≡ kind_word k → j ≡ k
kind_word-same EntryKind.Ran EntryKind.Ran e = refl
kind_word-same EntryKind.Free EntryKind.Free e = refl
kind_word-same EntryKind.Stuck EntryKind.Stuck e = refl
kind_word-same EntryKind.Cut EntryKind.Cut e = refl
kind_word-same EntryKind.Tall EntryKind.Tall e = refl
kind_word-same _ _ e = let first = ap (λ w. get_or w 0 0) e in absurd (omega arith)

-- a number isn't spelled by an equals sign
not_equals : (n : ℕ) → n < 2 ^ 64 → decimal n ≢ codes "="
not_equals n h e =
    let digit = digit_at (decimal n) 0 (decimal_is_IsNumeral n h).0.1 (decimal_nonempty n h) in
    let byte : get_or (decimal n) 0 0 ≡ 61 = ap (λ w. get_or w 0 0) e in
    absurd (omega (arith, digit.1))

pub no_location : (answer : Option ℤ) (n : ℕ) (rest : List (List ℕ)) → n < 2 ^ 64 → decimal n ∷ rest ≢ answer_words answer
no_location None n rest h e = cc
no_location (Some a) n rest h e = not_equals n h cc

-- the words determine the locations before an answer
pub same-fresh : (fresh fresh' : List ℕ) (new : List (List ℕ)) (answer : Option ℤ) → All (λ l. l < 2 ^ 32) fresh → All (λ l. l < 2 ^ 32) fresh' →
    ((l : ℕ) (rest : List (List ℕ)) → l < 2 ^ 32 → new ≢ decimal l ∷ rest) → map decimal fresh ++ new ≡ map decimal fresh' ++ answer_words answer →
    (fresh ≡ fresh') × (new ≡ answer_words answer)
same-fresh [] [] new answer each each' none e = (refl, e)
same-fresh [] (y ∷ ys) new answer each each' none e = absurd (none y _ (All-head (λ l. l < 2 ^ 32) y ys each') e)
same-fresh (x ∷ xs) [] new answer each each' none e =
    let small : x < 2 ^ 32 = All-head (λ l. l < 2 ^ 32) x xs each in
    absurd (no_location answer x (map decimal xs ++ new) (omega arith) e)
same-fresh (x ∷ xs) (y ∷ ys) new answer each each' none e =
    let small : x < 2 ^ 32 = All-head (λ l. l < 2 ^ 32) x xs each in
    let small' : y < 2 ^ 32 = All-head (λ l. l < 2 ^ 32) y ys each' in
    let first : decimal x ≡ decimal y = cc in
    let others : map decimal xs ++ new ≡ map decimal ys ++ answer_words answer = cc in
    let same : x ≡ y = decimal_injective x y (omega arith) (omega arith) first in
    let go = same-fresh xs ys new answer (All-tail (λ l. l < 2 ^ 32) x xs each) (All-tail (λ l. l < 2 ^ 32) y ys each') none others in
    (ap (λ l. l ∷ xs) same ∙ ap (λ ls. y ∷ ls) go.0, go.1)

-- words whose end is no answer are those of no entry
pub not_entry : (old rest new : List (List ℕ)) (head : Head) (fresh : List ℕ) → old ≡ head_words head rest → TakesLocations rest fresh new →
    ((answer : Option ℤ) → IsAnswer head.kind answer → new ≢ answer_words answer) → (entry : Entry) → IsSpellable entry → old ≢ words_of entry
not_entry old rest new head fresh begins takes none entry is e =
    let words_kind : kind_word head.kind ≡ kind_word entry.kind = cc in
    let kind : head.kind ≡ entry.kind = kind_word-same head.kind entry.kind words_kind in
    let behind : rest ≡ map decimal entry.fresh ++ answer_words entry.answer = cc in
    let same = same-fresh fresh entry.fresh new entry.answer takes.each is.fresh takes.none (sym takes.taken ∙ behind) in
    let may : IsAnswer entry.kind entry.answer = record { may = is.fit.answer; range = is.answer } in
    none entry.answer (subst (λ k. IsAnswer k entry.answer) (sym kind) may) same.1
