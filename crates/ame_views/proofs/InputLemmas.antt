-- A text with a journal and a program determines both.
use Rattle.std.proofs.Common.{◌≡◌, ℕ, List, [], ◌∷◌, ◌++◌, All, get_or, codes, map, decimal, refl, sym, ap, ◌∙◌, arith, append_assoc}
use Rattle.std.specs.List.{flat_map}
use Rattle.std.proofs.lemmas.List.Elements.{All-head, All-tail}
use Rattle.ame_journal.specs.declared.entry.Entry.{Entry}
use Rattle.ame_journal.specs.declared.entry.EntryKind.{EntryKind}
use Rattle.ame_journal.specs.Lines.{part_of}
use Rattle.ame_journal.specs.Kinds.{kind_word}
use Rattle.ame_journal.specs.Text.{answer_words, entry_line, text_of, IsSpellable}
use Rattle.ame_journal.proofs.SpellingLemmas.{join-parts}
use Rattle.ame_journal.proofs.UniqueLemmas.{line-same}

-- no word of a kind begins with the first letter of `program`
no_p : (kind : EntryKind) (xs : List ℕ) → get_or (kind_word kind ++ xs) 0 0 ≡ 112 → ⊥
no_p EntryKind.Ran xs e = absurd (omega arith)
no_p EntryKind.Free xs e = absurd (omega arith)
no_p EntryKind.Stuck xs e = absurd (omega arith)
no_p EntryKind.Cut xs e = absurd (omega arith)
no_p EntryKind.Tall xs e = absurd (omega arith)

-- no line of an entry begins as the line `program` does
no_program : (entry : Entry) (xs ys : List ℕ) → codes "program\n" ++ xs ≡ entry_line entry ++ ys → ⊥
no_program entry xs ys e =
    let rest = decimal entry.seat ∷ decimal entry.number ∷ decimal entry.steps ∷ (map decimal entry.fresh ++ answer_words entry.answer) in
    let same : codes "program\n" ++ xs ≡ kind_word entry.kind ++ (flat_map part_of rest ++ (codes "\n" ++ ys)) =
    e ∙ ap (λ t. (t ++ codes "\n") ++ ys) (join-parts (kind_word entry.kind) rest) ∙ regroup (kind_word entry.kind) (flat_map part_of rest) (codes "\n") ys in
    no_p entry.kind (flat_map part_of rest ++ (codes "\n" ++ ys)) (sym (ap (λ l. get_or l 0 0) same))
  where
    regroup : (a b c d : List ℕ) → ((a ++ b) ++ c) ++ d ≡ a ++ (b ++ (c ++ d))
    regroup a b c d = simp append_assoc

pub one_run : (es fs : List Entry) (s t : List ℕ) → All IsSpellable es → All IsSpellable fs →
    text_of es ++ (codes "program\n" ++ s) ≡ text_of fs ++ (codes "program\n" ++ t) → (es ≡ fs) × (s ≡ t)
one_run [] [] s t se sf e = (refl, cc)
one_run [] (f ∷ fs) s t se sf e =
    absurd (no_program f s (text_of fs ++ (codes "program\n" ++ t)) (e ∙ append_assoc (entry_line f) (text_of fs) (codes "program\n" ++ t)))
one_run (x ∷ es) [] s t se sf e =
    absurd (no_program x t (text_of es ++ (codes "program\n" ++ s)) (sym e ∙ append_assoc (entry_line x) (text_of es) (codes "program\n" ++ s)))
one_run (x ∷ es) (f ∷ fs) s t se sf e =
    let first = line-same x f (text_of es ++ (codes "program\n" ++ s)) (text_of fs ++ (codes "program\n" ++ t)) (All-head IsSpellable x es se) (All-head IsSpellable f fs sf)
    (sym (append_assoc (entry_line x) (text_of es) (codes "program\n" ++ s)) ∙ e ∙ append_assoc (entry_line f) (text_of fs) (codes "program\n" ++ t)) in
    let go = one_run es fs s t (All-tail IsSpellable x es se) (All-tail IsSpellable f fs sf) first.1 in
    (ap (λ z. z ∷ es) first.0 ∙ ap (λ zs. f ∷ zs) go.0, go.1)
