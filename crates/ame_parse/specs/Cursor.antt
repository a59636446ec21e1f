-- The view of a `Reader`, and what it keeps.
use Rattle.std.specs.Prelude.{◌<◌, ◌+◌, ◌^◌, All, map, length}
use Rattle.ame_lex.specs.Tokens.{IsWithin}
use Rattle.ame_parse.specs.declared.reader.Reader.TheInside.{Inside}
use Rattle.ame_parse.specs.Input.{Input}
use Rattle.ame_parse.specs.Seen.{seen}

abbrev pub input_of : Inside → Input
input_of r = record { rest = map (seen r.text.now) r.rest.now; end = length r.text.now; names = r.names; scope = r.scope.items; places = r.places.items; refs = r.refs }

pub record IsReadyCursor (r : Inside) : Type 0 where
  pub within : All (IsWithin r.text.now) r.rest.now
  pub small : length r.text.now < 2 ^ 32
  pub few : length r.names + length r.rest.now < 2 ^ 32
  pub few_refs : r.refs + length r.rest.now < 2 ^ 32
