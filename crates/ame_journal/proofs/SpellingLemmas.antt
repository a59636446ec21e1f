-- A line as it is written, part by part.
use Rattle.std.proofs.Common.{◌≡◌, ℕ, ◌+◌, ◌<◌, ◌^◌, List, [], ◌∷◌, ◌++◌, All, map, length, get_or, take, decimal, codes, Some, None, Result, Ok, Err, OnOk, is_ok, true, refl, sym, ap, ◌∙◌, append-nil, append_assoc}
use Rattle.std.specs.List.{flat_map, join_with_byte}
use Rattle.std.proofs.lemmas.List.Elements.{All-push, All-same}
use Rattle.std.proofs.lemmas.List.{take_more, map-append}
use Rattle.std.proofs.lemmas.Grind.{flat_map-append}
use Rattle.ame_term.specs.declared.types.Loc.{Loc}
use Rattle.ame_journal.specs.declared.entry.Entry.{Entry}
use Rattle.ame_journal.specs.Kinds.{kind_word}
use Rattle.ame_journal.specs.Text.{answer_words, words_of, entry_line}
use Rattle.ame_journal.specs.Lines.{part_of, answer_text}

-- words with spaces between them: the first, and then each after its space
pub join-parts : (word : List ℕ) (words : List (List ℕ)) → join_with_byte 32 (word ∷ words) ≡ word ++ flat_map part_of words
join-parts word [] = sym (append-nil word)
join-parts word (w ∷ ws) = ap (λ t. word ++ 32 ∷ t) (join-parts w ws)

answer-parts : (answer : _) → flat_map part_of (answer_words answer) ≡ answer_text answer
answer-parts None = refl
answer-parts (Some n) = ap (λ t. 32 ∷ 61 ∷ 32 ∷ t) (append-nil _)

-- each location, after its space
abbrev pub fresh_text : List ℕ → List ℕ
fresh_text fresh = flat_map (λ l. part_of (decimal l)) fresh

fresh-parts : (fresh : List ℕ) → flat_map part_of (map decimal fresh) ≡ fresh_text fresh
fresh-parts [] = refl
fresh-parts (l ∷ ls) = ap (λ t. part_of (decimal l) ++ t) (fresh-parts ls)

-- a line, part by part
pub line-parts : (old : List ℕ) (entry : Entry) →
    (((((((old ++ kind_word entry.kind) ++ part_of (decimal entry.seat)) ++ part_of (decimal entry.number)) ++ part_of (decimal entry.steps)) ++ fresh_text entry.fresh)
    ++ answer_text entry.answer) ++ codes "\n") ≡ old ++ entry_line entry
line-parts old entry =
    let rest = map decimal entry.fresh ++ answer_words entry.answer in
    let tail : flat_map part_of rest ≡ fresh_text entry.fresh ++ answer_text entry.answer =
    flat_map-append part_of (map decimal entry.fresh) (answer_words entry.answer) ∙ ap (λ t. t ++ flat_map part_of (answer_words entry.answer)) (fresh-parts entry.fresh)
    ∙ ap (λ t. fresh_text entry.fresh ++ t) (answer-parts entry.answer) in
    let whole : join_with_byte 32 (words_of entry)
    ≡ kind_word entry.kind ++ (part_of (decimal entry.seat) ++ (part_of (decimal entry.number) ++ (part_of (decimal entry.steps) ++ (fresh_text entry.fresh ++ answer_text entry.answer)))) =
    join-parts (kind_word entry.kind) (decimal entry.seat ∷ decimal entry.number ∷ decimal entry.steps ∷ rest)
    ∙ ap (λ t. kind_word entry.kind ++ (part_of (decimal entry.seat) ++ (part_of (decimal entry.number) ++ (part_of (decimal entry.steps) ++ t)))) tail in
    sym (ap (λ t. old ++ (t ++ codes "\n")) whole ∙ regroup old (kind_word entry.kind) (part_of (decimal entry.seat)) (part_of (decimal entry.number)) (part_of (decimal entry.steps)) (fresh_text entry.fresh) (answer_text entry.answer) (codes "\n"))
  where
    regroup : (a b c d e f g h : List ℕ) → a ++ ((b ++ (c ++ (d ++ (e ++ (f ++ g))))) ++ h) ≡ ((((((a ++ b) ++ c) ++ d) ++ e) ++ f) ++ g) ++ h
    regroup a b c d e f g h = simp append_assoc

one_more : (locs : List Loc) (i : ℕ) (d : Loc) → i < length locs → map (λ l. l.0) (take (i + 1) locs) ≡ map (λ l. l.0) (take i locs) ++ (get_or locs i d).0 ∷ []
one_more locs i d inside = ap (map (λ l. l.0)) (take_more locs i d inside) ∙ map-append (λ l. l.0) (take i locs) (get_or locs i d ∷ [])

-- one location more is written
pub fresh-more : (old text new : List ℕ) (locs : List Loc) (i : ℕ) (d : Loc) → i < length locs →
    text ≡ old ++ fresh_text (map (λ l. l.0) (take i locs)) → new ≡ text ++ part_of (decimal (get_or locs i d).0) →
    new ≡ old ++ fresh_text (map (λ l. l.0) (take (i + 1) locs))
fresh-more old text new locs i d inside before is =
    let x = (get_or locs i d).0 in
    let front = map (λ l. l.0) (take i locs) in
    let more : map (λ l. l.0) (take (i + 1) locs) ≡ front ++ x ∷ [] = one_more locs i d inside in
    is ∙ ap (λ t. t ++ part_of (decimal x)) before ∙ append_assoc old (fresh_text front) (part_of (decimal x))
    ∙ ap (λ t. old ++ t) (last front x) ∙ ap (λ ls. old ++ fresh_text ls) (sym more)
  where
    last : (ls : List ℕ) (x : ℕ) → fresh_text ls ++ part_of (decimal x) ≡ fresh_text (ls ++ x ∷ [])
    last ls x = sym (flat_map-append (λ l. part_of (decimal l)) ls (x ∷ []) ∙ ap (λ t. fresh_text ls ++ 32 ∷ t) (append-nil (decimal x)))

pub small-more : (locs : List Loc) (i : ℕ) (d : Loc) → i < length locs → All (λ l. l < 2 ^ 32) (map (λ l. l.0) (take i locs)) → (get_or locs i d).0 < 2 ^ 32 →
    All (λ l. l < 2 ^ 32) (map (λ l. l.0) (take (i + 1) locs))
small-more locs i d inside before small =
    All-same (λ l. l < 2 ^ 32) _ _ (one_more locs i d inside) (All-push (λ l. l < 2 ^ 32) (map (λ l. l.0) (take i locs)) (get_or locs i d).0 before small)

-- what follows if a call succeeds
pub on_ok : {T E : Type 0} (P Q : Type 0) (r : Result T E) → (P → Q) → OnOk r P → OnOk r Q
on_ok P Q (Ok x) go h = go h
on_ok P Q (Err e) go h = h

pub holds_ok : {T E : Type 0} (P : Type 0) (r : Result T E) → P → OnOk r P
holds_ok P (Ok x) h = h
holds_ok P (Err e) h = tt

pub from_ok : {T E : Type 0} (P : Type 0) (r : Result T E) → is_ok r ≡ true → OnOk r P → P
from_ok P (Ok x) ok h = h
from_ok P (Err e) ok h = cc
