-- The text of a journal: a line for each entry, in order.
use Rattle.std.specs.Prelude.{◌≡◌, ◌≢◌, ◌+◌, ◌<◌, ◌^◌, ℕ, ℤ, List, [], ◌∷◌, ◌++◌, map, length, All, Option, Some, None, IfSome, FitsSigned, codes, decimal, ⊤}
use Rattle.std.specs.Int.{w64}
use Rattle.std.specs.Fmt.{signed_decimal}
use Rattle.std.specs.List.{join_with_byte, flat_map}
use Rattle.ame_journal.specs.declared.entry.Entry.{Entry}
use Rattle.ame_journal.specs.declared.fault.JournalFault.{JournalFault}
use Rattle.ame_journal.specs.JournalView.{IsFit}
use Rattle.ame_journal.specs.Kinds.{kind_word}

-- the words for an answer, if there is one
abbrev pub answer_words : Option ℤ → List (List ℕ)
answer_words None = []
answer_words (Some answer) = codes "=" ∷ signed_decimal answer ∷ []

-- the words of a line: the kind, the seat, the member's number, the steps, each fresh location, and the answer
abbrev pub words_of : Entry → List (List ℕ)
words_of entry =
    kind_word entry.kind ∷ decimal entry.seat ∷ decimal entry.number ∷ decimal entry.steps ∷ map decimal entry.fresh ++ answer_words entry.answer

-- a line: one space between each word and the next, and a line feed at the end
abbrev pub entry_line : Entry → List ℕ
entry_line entry = join_with_byte 32 (words_of entry) ++ codes "\n"

-- the lines of all entries
abbrev pub text_of : List Entry → List ℕ
text_of entries = flat_map entry_line entries

-- an entry that a line can spell: a fit one, whose numbers are in the ranges of their types
pub record IsSpellable (entry : Entry) : Type 0 where
  pub fit : IsFit entry
  pub number : entry.number < 2 ^ 64
  pub steps : entry.steps < 2 ^ 64
  pub fresh : All (λ l. l < 2 ^ 32) entry.fresh
  pub answer : IfSome entry.answer (FitsSigned w64)

-- the text spells the entries
pub record IsText (text : List ℕ) (entries : List Entry) : Type 0 where
  pub spelled : text ≡ text_of entries
  pub spellable : All IsSpellable entries

-- Line n, counted from 1, is the first that spells no entry: the lines before it spell entries, something
-- follows them, and no line of an entry stands at its front.
pub record IsFirstBadLine (text : List ℕ) (n : ℕ) : Type 0 where
  pub before : List Entry
  pub left : List ℕ
  pub reads : All IsSpellable before
  pub split : text ≡ text_of before ++ left
  pub count : n ≡ length before + 1
  pub follows : left ≢ []
  pub bad : (entry : Entry) (after : List ℕ) → IsSpellable entry → left ≢ entry_line entry ++ after

-- why a text gives no journal, unless memory ran out
abbrev pub Explains : List ℕ → JournalFault → Type 0
Explains text (JournalFault.BadLine n) = IsFirstBadLine text n
Explains text JournalFault.NoMemory = ⊤
