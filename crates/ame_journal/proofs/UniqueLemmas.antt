-- A text determines its entries, and its first bad line.
use Rattle.std.proofs.Common.{◌≡◌, ◌≢◌, ℕ, ℤ, suc, List, [], ◌∷◌, ◌++◌, All, map, length, decimal, Option, Some, None, IfSome, FitsSigned, w64, refl, sym, ap, ◌∙◌, arith, append_assoc}
use Rattle.std.specs.Fmt.{signed_decimal}
use Rattle.std.proofs.lemmas.List.Elements.{All-head, All-tail}
use Rattle.std.proofs.lemmas.Fmt.{decimal_injective, signed_decimal_injective}
use Rattle.ame_journal.specs.declared.entry.Entry.{Entry}
use Rattle.ame_journal.specs.Kinds.{kind_word}
use Rattle.ame_journal.specs.Words.{line_words}
use Rattle.ame_journal.specs.Lines.{ReadsNoLine}
use Rattle.ame_journal.specs.Text.{answer_words, words_of, entry_line, text_of, IsSpellable}
use Rattle.ame_journal.proofs.LineLemmas.{kind_word-same, same-fresh, no_location}
use Rattle.ame_journal.proofs.TextLemmas.{first-same, bare, bare-lacks, words-bare, line-cut}

-- answers with the same words are the same
answer_words-same : (a b : Option ℤ) → IfSome a (FitsSigned w64) → IfSome b (FitsSigned w64) → answer_words a ≡ answer_words b → a ≡ b
answer_words-same None None fa fb e = refl
answer_words-same None (Some y) fa fb e = cc
answer_words-same (Some x) None fa fb e = cc
answer_words-same (Some x) (Some y) fa fb e =
    let text : signed_decimal x ≡ signed_decimal y = cc in
    ap Some (signed_decimal_injective x y fa.sfits fb.sfits text)

entry-is : (e f : Entry) → e.kind ≡ f.kind → e.seat ≡ f.seat → e.number ≡ f.number → e.steps ≡ f.steps → e.fresh ≡ f.fresh → e.answer ≡ f.answer → e ≡ f
entry-is e f kind seat number steps fresh answer =
    ap (λ x. record { kind = x; seat = e.seat; number = e.number; steps = e.steps; fresh = e.fresh; answer = e.answer }) kind
    ∙ ap (λ x. record { kind = f.kind; seat = x; number = e.number; steps = e.steps; fresh = e.fresh; answer = e.answer }) seat
    ∙ ap (λ x. record { kind = f.kind; seat = f.seat; number = x; steps = e.steps; fresh = e.fresh; answer = e.answer }) number
    ∙ ap (λ x. record { kind = f.kind; seat = f.seat; number = f.number; steps = x; fresh = e.fresh; answer = e.answer }) steps
    ∙ ap (λ x. record { kind = f.kind; seat = f.seat; number = f.number; steps = f.steps; fresh = x; answer = e.answer }) fresh
    ∙ ap (λ x. record { kind = f.kind; seat = f.seat; number = f.number; steps = f.steps; fresh = f.fresh; answer = x }) answer

-- entries with the same words are the same
words_of-same : (e f : Entry) → IsSpellable e → IsSpellable f → words_of e ≡ words_of f → e ≡ f
words_of-same e f se sf same =
    let kind : kind_word e.kind ≡ kind_word f.kind = cc in
    let seat : decimal e.seat ≡ decimal f.seat = cc in
    let number : decimal e.number ≡ decimal f.number = cc in
    let steps : decimal e.steps ≡ decimal f.steps = cc in
    let rest : map decimal e.fresh ++ answer_words e.answer ≡ map decimal f.fresh ++ answer_words f.answer = cc in
    let low_e = se.fit.seat in
    let low_f = sf.fit.seat in
    let behind = same-fresh e.fresh f.fresh (answer_words e.answer) f.answer se.fresh sf.fresh (λ l more low is. no_location e.answer l more (omega arith) (sym is)) rest in
    entry-is e f (kind_word-same e.kind f.kind kind) (decimal_injective e.seat f.seat (omega arith) (omega arith) seat) (decimal_injective e.number f.number se.number sf.number number)
    (decimal_injective e.steps f.steps se.steps sf.steps steps) behind.0 (answer_words-same e.answer f.answer se.answer sf.answer behind.1)

-- the first line determines its entry
pub line-same : (e f : Entry) (xs ys : List ℕ) → IsSpellable e → IsSpellable f → entry_line e ++ xs ≡ entry_line f ++ ys → (e ≡ f) × (xs ≡ ys)
line-same e f xs ys se sf same =
    let cut = first-same (bare e) (bare f) xs ys (bare-lacks e se) (bare-lacks f sf) (sym (line-cut e xs) ∙ same ∙ line-cut f ys) in
    (words_of-same e f se sf (sym (words-bare e se) ∙ ap line_words cut.0 ∙ words-bare f sf), cut.1)

no_text : (e : Entry) (xs : List ℕ) → entry_line e ++ xs ≢ []
no_text e xs same = none (bare e) (sym (line-cut e xs) ∙ same)
  where
    none : (front : List ℕ) → front ++ 10 ∷ xs ≢ []
    none [] h = cc
    none (b ∷ front) h = cc

-- texts of entries are the same only if the entries are
pub text_of-same : (es fs : List Entry) → All IsSpellable es → All IsSpellable fs → text_of es ≡ text_of fs → es ≡ fs
text_of-same [] [] se sf same = refl
text_of-same [] (f ∷ fs) se sf same = absurd (no_text f (text_of fs) (sym same))
text_of-same (e ∷ es) [] se sf same = absurd (no_text e (text_of es) same)
text_of-same (e ∷ es) (f ∷ fs) se sf same =
    let first = line-same e f (text_of es) (text_of fs) (All-head IsSpellable e es se) (All-head IsSpellable f fs sf) same in
    ap (λ x. x ∷ es) first.0 ∙ ap (λ xs. f ∷ xs) (text_of-same es fs (All-tail IsSpellable e es se) (All-tail IsSpellable f fs sf) first.1)

behind-line : (f : Entry) (fs : List Entry) (left : List ℕ) → text_of (f ∷ fs) ++ left ≡ entry_line f ++ (text_of fs ++ left)
behind-line f fs left = append_assoc (entry_line f) (text_of fs) left

-- a text that is spelled isn't one with a bad line
pub not_bad : (es before : List Entry) (left : List ℕ) → All IsSpellable es → All IsSpellable before → left ≢ [] → ReadsNoLine left → text_of es ≢ text_of before ++ left
not_bad [] [] left se sb some bad same = some (sym same)
not_bad [] (b ∷ bs) left se sb some bad same = no_text b (text_of bs ++ left) (sym (same ∙ behind-line b bs left))
not_bad (e ∷ es) [] left se sb some bad same = bad e (text_of es) (All-head IsSpellable e es se) (sym same)
not_bad (e ∷ es) (b ∷ bs) left se sb some bad same =
    let first = line-same e b (text_of es) (text_of bs ++ left) (All-head IsSpellable e es se) (All-head IsSpellable b bs sb) (same ∙ behind-line b bs left) in
    not_bad es bs left (All-tail IsSpellable e es se) (All-tail IsSpellable b bs sb) some bad first.1

-- the lines before the first bad one are as many, whichever way it is found
pub one_bad : (es fs : List Entry) (left left' : List ℕ) → All IsSpellable es → All IsSpellable fs → ReadsNoLine left → ReadsNoLine left' →
    text_of es ++ left ≡ text_of fs ++ left' → length es ≡ length fs
one_bad [] [] left left' se sf bad bad' same = refl
one_bad [] (f ∷ fs) left left' se sf bad bad' same = absurd (bad f (text_of fs ++ left') (All-head IsSpellable f fs sf) (same ∙ behind-line f fs left'))
one_bad (e ∷ es) [] left left' se sf bad bad' same = absurd (bad' e (text_of es ++ left) (All-head IsSpellable e es se) (sym same ∙ behind-line e es left))
one_bad (e ∷ es) (f ∷ fs) left left' se sf bad bad' same =
    let first = line-same e f (text_of es ++ left) (text_of fs ++ left') (All-head IsSpellable e es se) (All-head IsSpellable f fs sf) (sym (behind-line e es left) ∙ same ∙ behind-line f fs left') in
    ap suc (one_bad es fs left left' (All-tail IsSpellable e es se) (All-tail IsSpellable f fs sf) bad bad' first.1)
