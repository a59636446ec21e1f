-- The entries that are shown, and what is said of the others.
use Rattle.std.specs.Prelude.{◌≡◌, ℕ, suc, ◌-◌, ◌==◌, nat_lt, List, [], ◌∷◌, ◌++◌, length, take, if◌then◌else◌, codes}
use Rattle.ame_lex.specs.Bytes.{Text}
use Rattle.ame_journal.specs.declared.entry.Entry.{Entry}
use Rattle.ame_journal.specs.Replayed.{Replayed}
use Rattle.ame_labels.specs.Stepped.{ShowsSteps}

-- the number of first entries that have at most this many steps together
unfoldable pub shown_from : ℕ → List Entry → ℕ
shown_from left [] = 0
shown_from left (entry ∷ entries) = if nat_lt left entry.steps then 0 else suc (shown_from (left - entry.steps) entries)

abbrev pub shown_count : List Entry → ℕ
shown_count entries = shown_from 10000 entries

-- the words for entries that aren't shown
abbrev pub rest_words : ℕ → List ℕ
rest_words n = if n == 0 then [] else codes "further entries aren't shown: with them there are more than 10,000 steps\n"

-- The page has the headings and rows of the first entries, as many as have at most 10,000 steps together, and says whether there are more.
pub record ShowsFront (names : List Text) (r : Replayed) (entries : List Entry) (page : List ℕ) : Type 0 where
  pub led : Replayed
  pub rows : List ℕ
  pub shows : ShowsSteps names r (take (shown_count entries) entries) rows led
  pub is : page ≡ rows ++ rest_words (length entries - shown_count entries)
