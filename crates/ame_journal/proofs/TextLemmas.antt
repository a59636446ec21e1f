-- Line feeds separate the lines of a text, and spaces the words of a line.
use Rattle.std.proofs.Common.{◌≡◌, ℕ, ℤ, pos, negsuc, suc, ◌+◌, ◌-◌, ◌<◌, ◌≤◌, ◌^◌, Bool, true, false, true≢false, not, cond, ◌&&◌, ◌==◌, eqb, eqb-true, List, [], ◌∷◌, ◌++◌, All, map, length, get_or, take, drop, decimal, codes, Option, Some, None, IfSome, FitsSigned, w64, refl, sym, ap, ◌∙◌, arith, append-nil, append_assoc, length-append}
use Rattle.std.specs.Fmt.{signed_decimal}
use Rattle.std.specs.List.{flat_map, join_with_byte, position_or_len}
use Rattle.std.proofs.lemmas.Bool.{ne_eqb}
use Rattle.std.proofs.lemmas.List.{take_all, take_more}
use Rattle.std.proofs.lemmas.Grind.{flat_map-append}
use Rattle.std.proofs.lemmas.List.Elements.{All-nil, All-cons, All-head, All-tail, All-append, All-same, All-push, All-from_get_or}
use Rattle.std.proofs.lemmas.List.Splits.{slice_split_at, slice_split_none, join_with_byte-slice_split}
use Rattle.std.proofs.lemmas.Str.Parse.{digit_at}
use Rattle.std.proofs.lemmas.Fmt.{decimal_is_IsNumeral}
use Rattle.ame_journal.specs.declared.entry.Entry.{Entry}
use Rattle.ame_journal.specs.declared.entry.EntryKind.{EntryKind}
use Rattle.ame_journal.specs.Kinds.{kind_word}
use Rattle.ame_journal.specs.Words.{line_words, ReadsWord}
use Rattle.ame_journal.specs.Lines.{Lacks, IsCut, ReadsLine, ReadsNoLine, part_of}
use Rattle.ame_journal.specs.Text.{answer_words, words_of, entry_line, text_of, IsSpellable, IsText}
use Rattle.ame_journal.proofs.SpellingLemmas.{join-parts}

-- The end of the first line

-- how many bytes there are before the first line feed
abbrev pub feed_len : List ℕ → ℕ
feed_len text = position_or_len (λ b. b == 10) text

one-plus : (n : ℕ) → 1 + n ≡ suc n
one-plus n = omega arith

-- what stands before the first line feed, and what is there
pub record FirstFeed (text front back : List ℕ) : Type 0 where
  pub whole : text ≡ front ++ back
  pub lacks : Lacks 10 front
  pub feed : (b : ℕ) (behind : List ℕ) → back ≡ b ∷ behind → b ≡ 10

first_feed-at : (b : ℕ) (text : List ℕ) (v : Bool) → eqb b 10 ≡ v → FirstFeed text (take (feed_len text) text) (drop (feed_len text) text) →
    FirstFeed (b ∷ text) (take (cond (not v) (1 + feed_len text) 0) (b ∷ text)) (drop (cond (not v) (1 + feed_len text) 0) (b ∷ text))
first_feed-at b text true is go =
    record { whole = refl; lacks = All-nil _; feed = λ c behind e. let same : b ≡ c = cc in sym same ∙ eqb-true b 10 is }
first_feed-at b text false is go =
    rw one-plus (record { whole = ap (λ t. b ∷ t) go.whole; lacks = All-cons (λ x. (x == 10) ≡ false) b (take (feed_len text) text) is go.lacks; feed = go.feed })

pub first_feed : (text : List ℕ) → FirstFeed text (take (feed_len text) text) (drop (feed_len text) text)
first_feed [] = record { whole = refl; lacks = All-nil _; feed = λ b behind e. cc }
first_feed (b ∷ text) = first_feed-at b text (eqb b 10) refl (first_feed text)

-- the same, as the code cuts a text
pub cut-none : (text back : List ℕ) (n : ℕ) → n ≡ feed_len text → back ≡ drop n text → length back < 1 → Lacks 10 text
cut-none text [] n len back_is none =
    let f = first_feed text in
    let end : drop (feed_len text) text ≡ [] = ap (λ m. drop m text) (sym len) ∙ sym back_is in
    let whole : text ≡ take (feed_len text) text = f.whole ∙ ap (λ t. take (feed_len text) text ++ t) end ∙ append-nil _ in
    All-same (λ x. (x == 10) ≡ false) _ _ whole f.lacks
cut-none text (b ∷ back) n len back_is none = absurd (omega arith)

pub cut-some : (text front back : List ℕ) (n : ℕ) → n ≡ feed_len text → front ≡ take n text → back ≡ drop n text → 1 ≤ length back →
    IsCut text front (take (length back - 1) (drop 1 back))
cut-some text front [] n len front_is back_is some = absurd (omega arith)
cut-some text front (b ∷ back) n len front_is back_is some =
    let f = first_feed text in
    let a : front ≡ take (feed_len text) text = front_is ∙ ap (λ m. take m text) len in
    let d : drop (feed_len text) text ≡ b ∷ back = ap (λ m. drop m text) (sym len) ∙ sym back_is in
    let feed : b ≡ 10 = f.feed b back d in
    let whole : take (length (b ∷ back) - 1) back ≡ back = take_all (length (b ∷ back) - 1) back (omega arith) in
    record {
      split = f.whole ∙ ap (λ t. t ++ drop (feed_len text) text) (sym a) ∙ ap (λ t. front ++ t) (d ∙ ap (λ c. c ∷ back) feed ∙ ap (λ t. 10 ∷ t) (sym whole));
      no_feed = All-same (λ x. (x == 10) ≡ false) _ _ a f.lacks;
    }

-- the first line feed is one place
pub first-same : (xs ys us vs : List ℕ) → Lacks 10 xs → Lacks 10 ys → xs ++ 10 ∷ us ≡ ys ++ 10 ∷ vs → (xs ≡ ys) × (us ≡ vs)
first-same [] [] us vs lx ly e = (refl, cc)
first-same [] (y ∷ ys) us vs lx ly e =
    let is : 10 ≡ y = cc in
    absurd (true≢false (ap (λ b. eqb b 10) is ∙ All-head (λ x. (x == 10) ≡ false) y ys ly))
first-same (x ∷ xs) [] us vs lx ly e =
    let is : 10 ≡ x = cc in
    absurd (true≢false (ap (λ b. eqb b 10) is ∙ All-head (λ x. (x == 10) ≡ false) x xs lx))
first-same (x ∷ xs) (y ∷ ys) us vs lx ly e =
    let one : x ≡ y = cc in
    let tails : xs ++ 10 ∷ us ≡ ys ++ 10 ∷ vs = cc in
    let go = first-same xs ys us vs (All-tail (λ x. (x == 10) ≡ false) x xs lx) (All-tail (λ x. (x == 10) ≡ false) y ys ly) tails in
    (ap (λ z. z ∷ xs) one ∙ ap (λ zs. y ∷ zs) go.0, go.1)

-- The bytes that no word has

-- whether a byte string lacks a byte
abbrev lacks_test : ℕ → List ℕ → Bool
lacks_test b [] = true
lacks_test b (x ∷ xs) = not (x == b) && lacks_test b xs

lacks-one : (b x : ℕ) (xs : List ℕ) (v w : Bool) → (x == b) ≡ v → lacks_test b xs ≡ w → (w ≡ true → Lacks b xs) → (not v && w) ≡ true → Lacks b (x ∷ xs)
lacks-one b x xs false true is test go e = All-cons (λ y. (y == b) ≡ false) x xs is (go refl)
lacks-one b x xs false false is test go e = cc
lacks-one b x xs true w is test go e = cc

lacks-tested : (b : ℕ) (xs : List ℕ) → lacks_test b xs ≡ true → Lacks b xs
lacks-tested b [] e = All-nil _
lacks-tested b (x ∷ xs) e = lacks-one b x xs (x == b) (lacks_test b xs) refl refl (lacks-tested b xs) e

module _ (b : ℕ) (low : b < 45) (kinds : (kind : EntryKind) → Lacks b (kind_word kind)) where
  decimal-lacks : (n : ℕ) → n < 2 ^ 64 → Lacks b (decimal n)
  decimal-lacks n h =
      let digits = (decimal_is_IsNumeral n h).0.1 in
      All-from_get_or (λ x. (x == b) ≡ false) (decimal n) 0
      (λ i inside. let digit = digit_at (decimal n) i digits inside in ne_eqb _ b (λ e. absurd (omega (arith, digit.0))))

  signed-lacks : (z : ℤ) → FitsSigned w64 z → Lacks b (signed_decimal z)
  signed-lacks (pos n) fits = decimal-lacks n (let h = fits.sfits in omega arith)
  signed-lacks (negsuc n) fits =
      All-cons (λ x. (x == b) ≡ false) 45 (decimal (suc n)) (ne_eqb 45 b (λ e. absurd (omega arith))) (decimal-lacks (suc n) (let h = fits.sfits in omega arith))

  answer-lacks : (answer : Option ℤ) → IfSome answer (FitsSigned w64) → All (Lacks b) (answer_words answer)
  answer-lacks None range = All-nil _
  answer-lacks (Some z) range =
      All-cons (Lacks b) (codes "=") (signed_decimal z ∷ []) (All-cons (λ x. (x == b) ≡ false) 61 [] (ne_eqb 61 b (λ e. absurd (omega arith))) (All-nil (λ x. (x == b) ≡ false)))
      (All-cons (Lacks b) (signed_decimal z) [] (signed-lacks z range) (All-nil (Lacks b)))

  fresh-lacks : (fresh : List ℕ) → All (λ l. l < 2 ^ 32) fresh → All (Lacks b) (map decimal fresh)
  fresh-lacks [] small = All-nil _
  fresh-lacks (l ∷ ls) small =
      let range : l < 2 ^ 32 = All-head (λ l. l < 2 ^ 32) l ls small in
      All-cons (Lacks b) (decimal l) (map decimal ls) (decimal-lacks l (omega arith)) (fresh-lacks ls (All-tail (λ l. l < 2 ^ 32) l ls small))

  pub words-lack : (entry : Entry) → IsSpellable entry → All (Lacks b) (words_of entry)
  words-lack entry is =
      let seat = is.fit.seat in
      let rest = map decimal entry.fresh ++ answer_words entry.answer in
      All-cons (Lacks b) (kind_word entry.kind) (decimal entry.seat ∷ decimal entry.number ∷ decimal entry.steps ∷ rest) (kinds entry.kind)
      (All-cons (Lacks b) (decimal entry.seat) (decimal entry.number ∷ decimal entry.steps ∷ rest) (decimal-lacks entry.seat (omega arith))
      (All-cons (Lacks b) (decimal entry.number) (decimal entry.steps ∷ rest) (decimal-lacks entry.number is.number)
      (All-cons (Lacks b) (decimal entry.steps) rest (decimal-lacks entry.steps is.steps)
      (All-append (Lacks b) (map decimal entry.fresh) (answer_words entry.answer) (fresh-lacks entry.fresh is.fresh) (answer-lacks entry.answer is.answer)))))

kind-tested-feed : (kind : EntryKind) → lacks_test 10 (kind_word kind) ≡ true
kind-tested-feed EntryKind.Ran = refl
kind-tested-feed EntryKind.Free = refl
kind-tested-feed EntryKind.Stuck = refl
kind-tested-feed EntryKind.Cut = refl
kind-tested-feed EntryKind.Tall = refl

kind-lacks-feed : (kind : EntryKind) → Lacks 10 (kind_word kind)
kind-lacks-feed kind = lacks-tested 10 (kind_word kind) (kind-tested-feed kind)

kind-tested-space : (kind : EntryKind) → lacks_test 32 (kind_word kind) ≡ true
kind-tested-space EntryKind.Ran = refl
kind-tested-space EntryKind.Free = refl
kind-tested-space EntryKind.Stuck = refl
kind-tested-space EntryKind.Cut = refl
kind-tested-space EntryKind.Tall = refl

kind-lacks-space : (kind : EntryKind) → Lacks 32 (kind_word kind)
kind-lacks-space kind = lacks-tested 32 (kind_word kind) (kind-tested-space kind)

parts-lack : (ws : List (List ℕ)) → All (Lacks 10) ws → Lacks 10 (flat_map part_of ws)
parts-lack [] lack = All-nil _
parts-lack (w ∷ ws) lack =
    All-append (λ x. (x == 10) ≡ false) (part_of w) (flat_map part_of ws)
    (All-cons (λ x. (x == 10) ≡ false) 32 w refl (All-head (Lacks 10) w ws lack)) (parts-lack ws (All-tail (Lacks 10) w ws lack))

joined-lack : (w : List ℕ) (ws : List (List ℕ)) → All (Lacks 10) (w ∷ ws) → Lacks 10 (join_with_byte 32 (w ∷ ws))
joined-lack w ws lack =
    All-same (λ x. (x == 10) ≡ false) _ _ (join-parts w ws)
    (All-append (λ x. (x == 10) ≡ false) w (flat_map part_of ws) (All-head (Lacks 10) w ws lack) (parts-lack ws (All-tail (Lacks 10) w ws lack)))

-- a line determines its words, if they have no spaces
pub words-joined : (w : List ℕ) (ws : List (List ℕ)) → All (Lacks 32) (w ∷ ws) → line_words (join_with_byte 32 (w ∷ ws)) ≡ w ∷ ws
words-joined w [] lack = slice_split_none (λ b. b == 32) w (All-head (Lacks 32) w [] lack)
words-joined w (v ∷ vs) lack =
    slice_split_at (λ b. b == 32) w 32 (join_with_byte 32 (v ∷ vs)) (All-head (Lacks 32) w (v ∷ vs) lack) refl
    ∙ ap (λ t. w ∷ t) (words-joined v vs (All-tail (Lacks 32) w (v ∷ vs) lack))

abbrev tail_words : Entry → List (List ℕ)
tail_words entry = decimal entry.seat ∷ decimal entry.number ∷ decimal entry.steps ∷ (map decimal entry.fresh ++ answer_words entry.answer)

-- the line of an entry, without its line feed
abbrev pub bare : Entry → List ℕ
bare entry = join_with_byte 32 (words_of entry)

pub bare-lacks : (entry : Entry) → IsSpellable entry → Lacks 10 (bare entry)
bare-lacks entry is = joined-lack (kind_word entry.kind) (tail_words entry) (words-lack 10 (omega arith) kind-lacks-feed entry is)

pub words-bare : (entry : Entry) → IsSpellable entry → line_words (bare entry) ≡ words_of entry
words-bare entry is = words-joined (kind_word entry.kind) (tail_words entry) (words-lack 32 (omega arith) kind-lacks-space entry is)

pub line-cut : (entry : Entry) (after : List ℕ) → entry_line entry ++ after ≡ bare entry ++ 10 ∷ after
line-cut entry after = append_assoc (bare entry) (codes "\n") after

-- The bytes of the first line

pub reads_none : (text line behind : List ℕ) → IsCut text line behind → ReadsWord words_of IsSpellable (line_words line) None → ReadsNoLine text
reads_none text line behind cut none entry after is e =
    let same = first-same line (bare entry) behind after cut.no_feed (bare-lacks entry is) (sym cut.split ∙ e ∙ line-cut entry after) in
    none entry is (ap line_words same.0 ∙ words-bare entry is)

pub reads_some : (text line behind : List ℕ) (entry : Entry) → IsCut text line behind → ReadsWord words_of IsSpellable (line_words line) (Some entry) → ReadsLine text entry behind
reads_some text line behind entry cut read =
    let line_is : line ≡ bare entry = sym (join_with_byte-slice_split 32 line) ∙ ap (join_with_byte 32) read.0 in
    record { spelled = cut.split ∙ ap (λ l. l ++ 10 ∷ behind) line_is ∙ sym (line-cut entry behind); spellable = read.1 }

-- Reading a whole text

-- these entries were read, and this is left of the text
pub record IsUnderWay (text : List ℕ) (entries : List Entry) (rest : List ℕ) : Type 0 where
  pub split : text ≡ text_of entries ++ rest
  pub spellable : All IsSpellable entries
  pub count : length entries + length rest ≤ length text

length-line : (entry : Entry) → 0 < length (entry_line entry)
length-line entry = simp length-append (omega arith)

pub one_more : (text : List ℕ) (entries : List Entry) (rest behind : List ℕ) (entry : Entry) → IsUnderWay text entries rest → ReadsLine rest entry behind →
    IsUnderWay text (entries ++ entry ∷ []) behind
one_more text entries rest behind entry way read =
    let more : text_of (entries ++ entry ∷ []) ≡ text_of entries ++ entry_line entry = flat_map-append entry_line entries (entry ∷ []) ∙ ap (λ t. text_of entries ++ t) (append-nil (entry_line entry)) in
    let size : length rest ≡ length (entry_line entry) + length behind = ap length read.spelled ∙ length-append (entry_line entry) behind in
    let places : length (entries ++ entry ∷ []) ≡ length entries + 1 = length-append entries (entry ∷ []) in
    let some = length-line entry in
    let before = way.count in
    record {
      split = way.split ∙ ap (λ t. text_of entries ++ t) read.spelled ∙ sym (append_assoc (text_of entries) (entry_line entry) behind) ∙ ap (λ t. t ++ behind) (sym more);
      spellable = All-push IsSpellable entries entry way.spellable read.spellable;
      count = omega arith;
    }

-- Writing a whole text

pub one_written : (text new : List ℕ) (entries : List Entry) (i : ℕ) (d : Entry) → i < length entries → IsText text (take i entries) → new ≡ text ++ entry_line (get_or entries i d) →
    IsSpellable (get_or entries i d) → IsText new (take (i + 1) entries)
one_written text new entries i d inside before is spellable =
    let e = get_or entries i d in
    let more : take (i + 1) entries ≡ take i entries ++ e ∷ [] = take_more entries i d inside in
    let written : text_of (take i entries ++ e ∷ []) ≡ text_of (take i entries) ++ entry_line e =
    flat_map-append entry_line (take i entries) (e ∷ []) ∙ ap (λ t. text_of (take i entries) ++ t) (append-nil (entry_line e)) in
    record {
      spelled = is ∙ ap (λ t. t ++ entry_line e) before.spelled ∙ sym written ∙ ap text_of (sym more);
      spellable = All-same IsSpellable _ _ more (All-push IsSpellable (take i entries) e before.spellable spellable);
    }
