-- The view of the words that are still to be read.
use Rattle.std.specs.Prelude.{ℕ, List}
use Rattle.ame_journal.specs.declared.words.Words.TheInside.{Inside}
use Rattle.ame_journal.specs.Words.{rest_words}

-- the words of what is left of a line
abbrev pub words_left : Inside → List (List ℕ)
words_left w = rest_words w.rest
