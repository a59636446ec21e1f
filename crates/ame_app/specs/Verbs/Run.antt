-- `run`: a source that is the text of a program.
use Rattle.std.specs.Prelude.{◌≡◌, ℕ, List, [], Some}
use Rattle.ame_lex.specs.Bytes.{Text}
use Rattle.ame_journal.specs.declared.entry.Entry.{Entry}
use Rattle.ame_app.specs.declared.parts.Front.{Front}
use Rattle.ame_app.specs.declared.run_result.Extra.{Extra}
use Rattle.ame_app.specs.declared.run_result.RunResult.{RunResult}
use Rattle.ame_app.specs.RunResult.{extra_in}

-- the bytes are the text
abbrev pub TakesAll : List ℕ → Front → Text → Type 0
TakesAll bytes front text = (front ≡ Front.Nothing) × (text ≡ bytes)

-- the run begins with nothing
abbrev pub BeginsWithNothing : List Entry → Type 0
BeginsWithNothing base = base ≡ []

-- an engine makes the run, and the command adds nothing
abbrev pub HasNothing : RunResult → Type 0
HasNothing left = extra_in left ≡ Some Extra.Nothing
