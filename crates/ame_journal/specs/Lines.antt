-- The outcome of reading the words of a line, part by part.
use Rattle.std.specs.Prelude.{◌≡◌, ◌≢◌, ◌==◌, ◌<◌, ◌^◌, ℕ, ℤ, false, List, [], ◌∷◌, ◌++◌, map, All, Option, Some, None, IfSome, FitsSigned, decimal, codes}
use Rattle.std.specs.Fmt.{signed_decimal}
use Rattle.ame_journal.specs.declared.entry.Entry.{Entry}
use Rattle.ame_journal.specs.Text.{entry_line, IsSpellable}
use Rattle.std.specs.Int.{w64}
use Rattle.ame_journal.specs.declared.entry.EntryKind.{EntryKind}
use Rattle.ame_journal.specs.declared.line.Head.{Head}
use Rattle.ame_journal.specs.Kinds.{kind_word}
use Rattle.ame_journal.specs.JournalView.{MayHold}

-- the words of a head, and those after it
abbrev pub head_words : Head → List (List ℕ) → List (List ℕ)
head_words head rest = kind_word head.kind ∷ decimal head.seat ∷ decimal head.number ∷ decimal head.steps ∷ rest

-- a head whose numbers are in range
pub record IsHead (head : Head) : Type 0 where
  pub seat : head.seat < 32
  pub number : head.number < 2 ^ 64
  pub steps : head.steps < 2 ^ 64

-- a head is taken, or the words begin with none
abbrev pub TakesHead : List (List ℕ) → Option Head → List (List ℕ) → Type 0
TakesHead old None new = (head : Head) (rest : List (List ℕ)) → IsHead head → old ≢ head_words head rest
TakesHead old (Some head) new = (old ≡ head_words head new) × IsHead head

-- the locations that the words begin with are taken, all of them
pub record TakesLocations (old : List (List ℕ)) (fresh : List ℕ) (new : List (List ℕ)) : Type 0 where
  pub taken : old ≡ map decimal fresh ++ new
  pub each : All (λ l. l < 2 ^ 32) fresh
  pub none : (l : ℕ) (rest : List (List ℕ)) → l < 2 ^ 32 → new ≢ decimal l ∷ rest

-- an answer that an entry of this kind may hold
pub record IsAnswer (kind : EntryKind) (answer : Option ℤ) : Type 0 where
  pub may : MayHold kind answer
  pub range : IfSome answer (FitsSigned w64)

-- a byte string without a byte
abbrev pub Lacks : ℕ → List ℕ → Type 0
Lacks b bytes = All (λ x. (x == b) ≡ false) bytes

-- the bytes before the first line feed, and those after it
pub record IsCut (text line behind : List ℕ) : Type 0 where
  pub split : text ≡ line ++ 10 ∷ behind
  pub no_feed : Lacks 10 line

-- the first line spells this entry, and this follows it
pub record ReadsLine (text : List ℕ) (entry : Entry) (behind : List ℕ) : Type 0 where
  pub spelled : text ≡ entry_line entry ++ behind
  pub spellable : IsSpellable entry

-- the text doesn't begin with a line of an entry
abbrev pub ReadsNoLine : List ℕ → Type 0
ReadsNoLine text = (entry : Entry) (after : List ℕ) → IsSpellable entry → text ≢ entry_line entry ++ after

-- a word after its space
abbrev pub part_of : List ℕ → List ℕ
part_of word = 32 ∷ word

-- an answer as it is written, if there is one
abbrev pub answer_text : Option ℤ → List ℕ
answer_text None = []
answer_text (Some answer) = codes " = " ++ signed_decimal answer
