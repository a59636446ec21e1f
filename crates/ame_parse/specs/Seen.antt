-- A token of a text, as the reading sees it.
use Rattle.std.specs.Prelude.{List, map, [], length}
use Rattle.ame_lex.specs.Bytes.{Text}
use Rattle.ame_lex.specs.declared.tokens.Token.{Token}
use Rattle.ame_lex.specs.Tokens.{spelled}
use Rattle.ame_parse.specs.Input.{Seen, Input}

abbrev pub seen : Text → Token → Seen
seen text token = record { place = token.start; kind = token.kind; spelling = spelled text token }

-- the input before the first token of a text
abbrev pub start_of : Text → List Token → Input
start_of text tokens = record { rest = map (seen text) tokens; end = length text; names = []; scope = []; places = []; refs = 0 }
