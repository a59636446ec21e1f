-- Texts that differ in what stands between their tokens alone.
use Rattle.std.specs.Prelude.{◌≡◌, List, map}
use Rattle.ame_lex.specs.Bytes.{Text}
use Rattle.ame_parse.specs.Input.{Seen}
use Rattle.ame_parse.specs.Fault.{HasSeenTokens, lexeme_of}

-- both texts have tokens, of the same kinds and bytes, wherever these stand
pub record HaveSameTokens (one other : Text) : Type 0 where
  pub ones : List Seen
  pub others : List Seen
  pub of_one : HasSeenTokens one ones
  pub of_other : HasSeenTokens other others
  pub same : map lexeme_of ones ≡ map lexeme_of others
