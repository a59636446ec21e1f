-- The words of parts are read as these parts, and what is read has these words.
use Rattle.std.proofs.Common.{◌≡◌, ℕ, suc, ◌+◌, Bool, true, false, cond, List, [], ◌∷◌, ◌++◌, Option, Some, None, length, take, drop, refl, sym, ap, ap₂, ◌∙◌, codes, append-nil, append_assoc, arith, true≢false, eqb-true}
use Rattle.std.specs.Prelude.{option_map, option_and_then, ◌||◌, ◌&&◌, ◌==◌, not, nat_le}
use Rattle.std.specs.List.{flat_map, list_all, prefix_len, before_first, after_first}
use Rattle.std.specs.Char.{is_ascii_digit}
use Rattle.std.proofs.lemmas.Grind.{flat_map-append}
use Rattle.std.specs.Str.{bytes_eq}
use Rattle.clap.specs.Lexer.{long_of, short_of, strip_byte, name_and_value, has_byte, long_of_rest}
use Rattle.ame_cli.specs.declared.item.Item.{Item}
use Rattle.ame_cli.specs.declared.item.Item.TheVariants.{Workers}
use Rattle.ame_cli.specs.Items.{ArgWord, name_of}
use Rattle.ame_cli.specs.Verbs.{all_items}
use Rattle.ame_cli.specs.Numbers.{is_number}
use Rattle.ame_cli.specs.Screen.{may_stand}
use Rattle.ame_cli.specs.Grammar.{Argument, apart, joined, number, part_words}
use Rattle.ame_cli.proofs.Machine.{Taken, taken, word_taken, long_taken, plain_taken, read, read-nil, read-cons, ended, named}
use Rattle.ame_cli.proofs.NumberLemmas.{both_true}
use Rattle.ame_cli.proofs.RowLemmas.{named_same}
use Rattle.ame_cli.proofs.ClapSteps.{Class, long, plain, dashes}
use Rattle.ame_cli.proofs.ClapWalk.{Classes}

-- ---- what a long word is

-- the rest of a text after the name
abbrev pub behind_name : Option ArgWord → ArgWord
behind_name None = []
behind_name (Some value) = 61 ∷ value

stripped : (c : ℕ) (word rest : ArgWord) → strip_byte c word ≡ Some rest → word ≡ c ∷ rest
stripped c [] rest e = cc
stripped c (x ∷ xs) rest e = go (x == c) refl e
  where
    go : (b : Bool) → (x == c) ≡ b → cond b (Some xs) None ≡ Some rest → x ∷ xs ≡ c ∷ rest
    go true same f = ap₂ (λ a l. a ∷ l) (eqb-true x c same) (cc f)
    go false same f = cc

-- a text is its name and the rest after it
split_text : (text : ArgWord) → text ≡ (name_and_value text).0 ++ behind_name (name_and_value text).1
split_text [] = refl
split_text (x ∷ xs) = go (split_text xs) (x == 61) refl
  where
    one : 1 + prefix_len (λ y. not (y == 61)) xs ≡ suc (prefix_len (λ y. not (y == 61)) xs)
    one = omega arith

    two : 1 + prefix_len (λ y. not (y == 61)) xs + 1 ≡ suc (prefix_len (λ y. not (y == 61)) xs + 1)
    two = omega arith

    step : (k m : ℕ) (b : Bool) → k ≡ suc (prefix_len (λ y. not (y == 61)) xs) → m ≡ suc (prefix_len (λ y. not (y == 61)) xs + 1)
        → xs ≡ before_first (λ y. y == 61) xs ++ behind_name (cond b (Some (after_first (λ y. y == 61) xs)) None)
        → x ∷ xs ≡ take k (x ∷ xs) ++ behind_name (cond b (Some (drop m (x ∷ xs))) None)
    step k m b p q before =
        ap (λ l. x ∷ l) before ∙ ap₂ (λ i j. take i (x ∷ xs) ++ behind_name (cond b (Some (drop j (x ∷ xs))) None)) (sym p) (sym q)

    go : xs ≡ (name_and_value xs).0 ++ behind_name (name_and_value xs).1 → (b : Bool) → (x == 61) ≡ b
        → x ∷ xs ≡ take (cond (not b) (1 + prefix_len (λ y. not (y == 61)) xs) 0) (x ∷ xs)
        ++ behind_name (cond (b || has_byte 61 xs) (Some (drop (cond (not b) (1 + prefix_len (λ y. not (y == 61)) xs) 0 + 1) (x ∷ xs))) None)
    go before true same = ap (λ a. a ∷ xs) (eqb-true x 61 same)
    go before false same = step _ _ (has_byte 61 xs) one two before

long_rest_is : (text name : ArgWord) (v : Option ArgWord) → long_of_rest text ≡ Some (name, v) → text ≡ name ++ behind_name v
long_rest_is [] name v e = cc
long_rest_is (x ∷ xs) name v e =
    let same : name_and_value (x ∷ xs) ≡ (name, v) = some_same _ _ e in
    split_text (x ∷ xs) ∙ ap (λ (p : ArgWord × Option ArgWord). p.0 ++ behind_name p.1) same
  where
    some_same : (a b : ArgWord × Option ArgWord) → Some a ≡ Some b → a ≡ b
    some_same a b f = cc

long_is : (word name : ArgWord) (v : Option ArgWord) → long_of word ≡ Some (name, v) → word ≡ 45 ∷ 45 ∷ (name ++ behind_name v)
long_is word name v e = first (strip_byte 45 word) refl e
  where
    second : (xs : ArgWord) (o : Option ArgWord) → strip_byte 45 xs ≡ o → option_and_then long_of_rest o ≡ Some (name, v) → xs ≡ 45 ∷ (name ++ behind_name v)
    second xs None p f = cc
    second xs (Some ys) p f = stripped 45 xs ys p ∙ ap (λ l. 45 ∷ l) (long_rest_is ys name v f)

    first : (o : Option ArgWord) → strip_byte 45 word ≡ o → option_and_then long_of_rest (option_and_then (strip_byte 45) o) ≡ Some (name, v) → word ≡ 45 ∷ 45 ∷ (name ++ behind_name v)
    first None p f = cc
    first (Some xs) p f = stripped 45 word xs p ∙ ap (λ l. 45 ∷ l) (second xs (strip_byte 45 xs) refl f)

-- ---- what is read has these words

-- the word of an option that waits
abbrev pub waiting_word : Option Item → List ArgWord
waiting_word None = []
waiting_word (Some item) = (codes "--" ++ name_of item) ∷ []

joined_text : (item : Item) (value : ArgWord) → 45 ∷ 45 ∷ (name_of item ++ 61 ∷ value) ≡ codes "--" ++ name_of item ++ codes "=" ++ value
joined_text Workers value = refl
joined_text _ value = refl

-- the words of a step
taken_words : (waiting : Option Item) (word : ArgWord) (parts : List Argument) (next : Option Item) → taken waiting word ≡ Some (parts, next)
    → waiting_word waiting ++ word ∷ [] ≡ flat_map part_words parts ++ waiting_word next
taken_words waiting word parts next e = by_long (long_of word) refl e
  where
    fields : (a b : List Argument × Option Item) → Some a ≡ Some b → a ≡ b
    fields a b f = cc

    whole : (t : List Argument × Option Item) → t ≡ (parts, next) → flat_map part_words t.0 ++ waiting_word t.1 ≡ flat_map part_words parts ++ waiting_word next
    whole t f = ap (λ (u : List Argument × Option Item). flat_map part_words u.0 ++ waiting_word u.1) f

    by_plain : (w : Option Item) → plain_taken w word ≡ Some (parts, next) → waiting_word w ++ word ∷ [] ≡ flat_map part_words parts ++ waiting_word next
    by_plain None f = whole (number word ∷ [], None) (fields _ _ f)
    by_plain (Some item) f = whole (apart item word ∷ [], None) (fields _ _ f)

    by_name : (w : Option Item) (name : ArgWord) (n : Option Item) (v : Option ArgWord) → long_of word ≡ Some (name, v) → named name ≡ n → long_taken w n v ≡ Some (parts, next)
        → waiting_word w ++ word ∷ [] ≡ flat_map part_words parts ++ waiting_word next
    by_name (Some item) name n v l is f = cc
    by_name None name None v l is f = cc
    by_name None name (Some item) None l is f =
        ap (λ t. t ∷ []) (long_is word name None l ∙ ap (λ t. 45 ∷ 45 ∷ t) (append-nil name ∙ named_same name_of all_items name item is)) ∙ whole ([], Some item) (fields _ _ f)
    by_name None name (Some item) (Some value) l is f =
        ap (λ t. t ∷ []) (long_is word name (Some value) l ∙ ap (λ t. 45 ∷ 45 ∷ (t ++ 61 ∷ value)) (named_same name_of all_items name item is) ∙ joined_text item value) ∙ whole (joined item value ∷ [], None) (fields _ _ f)

    by_long : (o : Option (ArgWord × Option ArgWord)) → long_of word ≡ o → word_taken waiting word o ≡ Some (parts, next) → waiting_word waiting ++ word ∷ [] ≡ flat_map part_words parts ++ waiting_word next
    by_long None l f = by_plain waiting f
    by_long (Some p) l f = by_name waiting p.0 (named p.0) p.1 l refl f

-- what is read of words is spelled by them
pub read_words_are : (waiting : Option Item) (words : List ArgWord) (parts : List Argument) → read waiting words ≡ Some parts → waiting_word waiting ++ words ≡ flat_map part_words parts
read_words_are waiting [] parts e = at_end waiting (sym (read-nil waiting) ∙ e)
  where
    at_end : (w : Option Item) → ended w ≡ Some parts → waiting_word w ++ [] ≡ flat_map part_words parts
    at_end None f = let same : [] ≡ parts = cc f in ap (flat_map part_words) same
    at_end (Some item) f = cc
read_words_are waiting (word ∷ rest) parts e =
    go (λ next behind. read_words_are next rest behind) (taken waiting word) refl (sym (read-cons waiting word rest) ∙ e)
  where
    joins : (w x y z a b : List ArgWord) → w ++ x ≡ y ++ z → z ++ a ≡ b → w ++ (x ++ a) ≡ y ++ b
    joins w x y z a b p q = sym (append_assoc w x a) ∙ ap (λ t. t ++ a) p ∙ append_assoc y z a ∙ ap (λ t. y ++ t) q

    ended_by : (front : List Argument) (next : Option Item) (behind : List Argument) → waiting_word waiting ++ word ∷ [] ≡ flat_map part_words front ++ waiting_word next
        → waiting_word next ++ rest ≡ flat_map part_words behind → front ++ behind ≡ parts → waiting_word waiting ++ word ∷ rest ≡ flat_map part_words parts
    ended_by front next behind one more whole =
        joins (waiting_word waiting) (word ∷ []) (flat_map part_words front) (waiting_word next) rest (flat_map part_words behind) one more
        ∙ sym (flat_map-append part_words front behind) ∙ ap (flat_map part_words) whole

    by_rest : (front : List Argument) (next : Option Item) → taken waiting word ≡ Some (front, next)
        → ((behind : List Argument) → read next rest ≡ Some behind → waiting_word next ++ rest ≡ flat_map part_words behind)
        → (r : Option (List Argument)) → read next rest ≡ r → option_map (λ ps. front ++ ps) r ≡ Some parts → waiting_word waiting ++ word ∷ rest ≡ flat_map part_words parts
    by_rest front next t more None p f = cc
    by_rest front next t more (Some behind) p f =
        let whole : front ++ behind ≡ parts = cc f in
        ended_by front next behind (taken_words waiting word front next t) (more behind p) whole

    go : ((next : Option Item) (behind : List Argument) → read next rest ≡ Some behind → waiting_word next ++ rest ≡ flat_map part_words behind)
        → (t : Taken) → taken waiting word ≡ t → option_and_then (λ u. option_map (λ ps. u.0 ++ ps) (read u.1 rest)) t ≡ Some parts → waiting_word waiting ++ word ∷ rest ≡ flat_map part_words parts
    go more None p f = cc
    go more (Some t) p f = by_rest t.0 t.1 p (more t.1) (read t.1 rest) refl f

-- ---- words of parts are read as these

-- a digit stands first
digit_differs : (c : ℕ) → is_ascii_digit c ≡ true → (c == 45) ≡ false
digit_differs c digit = go (c == 45) refl
  where
    go : (b : Bool) → (c == 45) ≡ b → b ≡ false
    go true e = absurd (true≢false (sym digit ∙ ap is_ascii_digit (eqb-true c 45 e)))
    go false e = refl

-- a word that doesn't begin with a hyphen
unhyphened : (c : ℕ) (rest : ArgWord) → (c == 45) ≡ false → (bytes_eq (c ∷ rest) dashes ≡ false) × (long_of (c ∷ rest) ≡ None) × (short_of (c ∷ rest) ≡ None)
unhyphened c rest e = (rw e refl, rw e refl, rw e refl)

stands : (c : ℕ) (rest : ArgWord) → (c == 45) ≡ false → may_stand (c ∷ rest) ≡ true
stands c [] e = rw e refl
stands c (d ∷ []) e = rw e refl
stands c (d ∷ f ∷ rest) e = rw e refl

pub number_is_plain : (word : ArgWord) → is_number word ≡ true → (bytes_eq word dashes ≡ false) × (long_of word ≡ None) × (short_of word ≡ None) × (may_stand word ≡ true)
number_is_plain [] e = absurd (true≢false (sym e))
number_is_plain (c ∷ rest) e = go (c == 45) (digit_differs c (both_true _ _ (both_true (nat_le (length (c ∷ rest)) 10) _ (both_true _ _ e).1).1).0) refl
  where
    go : (b : Bool) → b ≡ false → (c == 45) ≡ b → (bytes_eq (c ∷ rest) dashes ≡ false) × (long_of (c ∷ rest) ≡ None) × (short_of (c ∷ rest) ≡ None) × (may_stand (c ∷ rest) ≡ true)
    go b f e = let plain = unhyphened c rest (e ∙ f) in (plain.0, plain.1, plain.2, stands c rest (e ∙ f))

option_word : (item : Item) → taken None (codes "--" ++ name_of item) ≡ Some ([], Some item)
option_word Workers = refl
option_word _ = refl

joined_word : (item : Item) (value : ArgWord) → taken None (codes "--" ++ name_of item ++ codes "=" ++ value) ≡ Some (joined item value ∷ [], None)
joined_word Workers value = refl
joined_word _ value = refl

-- each word that is a text of its own is a number
abbrev pub Numbers : List Argument → Type 0
Numbers [] = Unit {0}
Numbers (apart item value ∷ rest) = (is_number value ≡ true) × Numbers rest
Numbers (joined item value ∷ rest) = (is_number value ≡ true) × Numbers rest
Numbers (number word ∷ rest) = (is_number word ≡ true) × Numbers rest

plain_taken_is : (waiting : Option Item) (word : ArgWord) → is_number word ≡ true → taken waiting word ≡ plain_taken waiting word
plain_taken_is waiting word digits = ap (word_taken waiting word) (number_is_plain word digits).1

-- one step, and then the rest
reads_on : (waiting : Option Item) (word : ArgWord) (rest : List ArgWord) (front : List Argument) (next : Option Item) (behind : List Argument) → taken waiting word ≡ Some (front, next)
    → read next rest ≡ Some behind → read waiting (word ∷ rest) ≡ Some (front ++ behind)
reads_on waiting word rest front next behind t r =
    read-cons waiting word rest ∙ ap (option_and_then (λ u. option_map (λ ps. u.0 ++ ps) (read u.1 rest))) t ∙ ap (option_map (λ ps. front ++ ps)) r

pub parts_are_read : (parts : List Argument) → Numbers parts → read None (flat_map part_words parts) ≡ Some parts
parts_are_read [] each = read-nil None
parts_are_read (apart item value ∷ rest) each =
    reads_on None (codes "--" ++ name_of item) (value ∷ flat_map part_words rest) [] (Some item) (apart item value ∷ rest) (option_word item)
    (reads_on (Some item) value (flat_map part_words rest) (apart item value ∷ []) None rest (plain_taken_is (Some item) value each.0) (parts_are_read rest each.1))
parts_are_read (joined item value ∷ rest) each =
    reads_on None (codes "--" ++ name_of item ++ codes "=" ++ value) (flat_map part_words rest) (joined item value ∷ []) None rest (joined_word item value) (parts_are_read rest each.1)
parts_are_read (number word ∷ rest) each =
    reads_on None word (flat_map part_words rest) (number word ∷ []) None rest (plain_taken_is None word each.0) (parts_are_read rest each.1)

-- ---- each word of parts may stand

pub part_stands : (part : Argument) → Numbers (part ∷ []) → list_all may_stand (part_words part) ≡ true
part_stands (apart Workers value) each = ap (λ b. b && true) (number_is_plain value each.0).3
part_stands (apart _ value) each = ap (λ b. b && true) (number_is_plain value each.0).3
part_stands (joined Workers value) each = refl
part_stands (joined _ value) each = refl
part_stands (number word) each = ap (λ b. b && true) (number_is_plain word each.0).3

-- ---- screened words are long or plain

class_of : (word : ArgWord) → may_stand word ≡ true → Class word
class_of [] e = absurd (true≢false (sym e))
class_of (a ∷ rest) e = go (a == 45) refl
  where
    hyphened : (rest : ArgWord) → (a == 45) ≡ true → may_stand (a ∷ rest) ≡ true → Class (a ∷ rest)
    hyphened [] same f = absurd (true≢false (sym f ∙ rw same refl))
    hyphened (b ∷ []) same f = absurd (true≢false (sym f ∙ rw same refl))
    hyphened (b ∷ c ∷ rest) same f =
        let second : (b == 45) ≡ true = sym (rw same refl) ∙ f in
        long (name_and_value (c ∷ rest)) (rw (same, second) refl) (rw (same, second) refl)

    go : (h : Bool) → (a == 45) ≡ h → Class (a ∷ rest)
    go true same = hyphened rest same e
    go false same = let is = unhyphened a rest same in plain is.0 is.1 is.2

pub classes_of : (words : List ArgWord) → list_all may_stand words ≡ true → Classes words
classes_of [] e = tt
classes_of (word ∷ rest) e = (class_of word (both_true _ _ e).0, classes_of rest (both_true _ _ e).1)
