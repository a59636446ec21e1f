-- The promise of `run` by the rules alone, from the bytes that it reads to the bytes that it writes.
use Rattle.std.specs.Prelude.{◌≡◌, ◌≢◌, ◌++◌, ◌⊎◌, ⊤, [], ◌∷◌, ℕ, List, length, None, codes, decimal}
use Rattle.std.specs.Io.KnownBytes.{Appends}
use Rattle.ame_io.specs.Lines.{lines}
use Rattle.ame_io.specs.Counts.{HasRisen, HasNotRisen}
use Rattle.ame_io.specs.Writes.{AppendsFront}
use Rattle.ame_lex.specs.Bytes.{Text}
use Rattle.ame_parse.specs.Grammar.{Spells}
use Rattle.ame_parse.specs.Text.{Source}
use Rattle.ame_term.specs.Tree.{Typ}
use Rattle.ame_term.specs.Signature.{unlisted}
use Rattle.ame_term.specs.Scope.{unscoped}
use Rattle.ame_term.specs.HasType.{HasType}
use Rattle.ame_term.specs.State.{State}
use Rattle.ame_term.specs.declared.semantics.Label.{Label}
use Rattle.ame_term.specs.declared.types.Effect.{Effect}
use Rattle.ame_laws.specs.Rules.{Begins}
use Rattle.ame_shell.specs.Ends.{Ends, told_at}
use Rattle.ame_shell.specs.Heard.{and_more}
use Rattle.ame_one_run.specs.Calls.{DeviceCall, RunsAsking, heard_by}
use Rattle.ame_one_run.specs.Reached.{IsBlockedIn, ComesToCallOf, GrowsTooHigh}

-- the words are those of `run`: there are none, or `run` is the first one
abbrev pub AskForRun : List (List ℕ) → Type 0
AskForRun words = (words ≡ []) ⊎ ((options : List (List ℕ)) × (words ≡ codes "run" ∷ options))

-- the ways in which a run ends
pub data Ending : Type 0 where
  Finished : Ending
  Blocked : Ending
  Spent : Ending
  Tall : ℕ → Ending
  DeviceFault : ℕ → Ending
  NoMemory : Ending
  WriteFault : Ending

-- the facts of the last state; after a device's fault and a write fault, also that its count rose, or is at its last value
abbrev pub IsEnding : Ending → State → Ends → Ends → Type 0
IsEnding Ending.Finished s before after = s.members ≡ []
IsEnding Ending.Blocked s before after = IsBlockedIn s
IsEnding Ending.Spent s before after = s.members ≢ []
IsEnding (Ending.Tall i) s before after = GrowsTooHigh s i
IsEnding (Ending.DeviceFault device) s before after = ComesToCallOf s device × HasRisen (told_at before.told device).faults (told_at after.told device).faults
IsEnding Ending.NoMemory s before after = ⊤
IsEnding Ending.WriteFault s before after = HasRisen before.write_faults after.write_faults

-- the last line
abbrev pub line_of_ending : Ending → State → List ℕ
line_of_ending Ending.Finished s = codes "finished\n"
line_of_ending Ending.Blocked s = codes "blocked " ++ decimal (length s.members) ++ codes "\n"
line_of_ending Ending.Spent s = codes "spent\n"
line_of_ending (Ending.Tall i) s = codes "tall " ++ decimal i ++ codes "\n"
line_of_ending (Ending.DeviceFault device) s = codes "device " ++ decimal device ++ codes " failed\n"
line_of_ending Ending.NoMemory s = codes "no memory\n"
line_of_ending Ending.WriteFault s = []

-- The text is a program of type Unit. A run of it by the rules ends with no member active. The run prints the lines that were
-- written before the last line, and makes the calls that the devices heard. The last line names an ending that holds in the last
-- state. More bytes may follow it. If the sink failed, a prefix of all this was written.
pub record IsOneRun (text : Text) (devices : ℕ) (more : List ℕ) (before after : Ends) : Type 0 where
  pub source : Source
  pub spelled : Spells text source
  pub typed : HasType (unlisted devices) (λ l. None) unscoped Effect.Protected source.tree Typ.Unit
  pub first : State
  pub begins : Begins source.tree first
  pub labels : List Label
  pub calls : List DeviceCall
  pub last : State
  pub runs : RunsAsking first labels calls last
  pub rests : last.active ≡ None
  pub heard : (k : ℕ) → (told_at after.told k).heard ≡ and_more (told_at before.told k).heard (heard_by k calls)
  pub ending : Ending
  pub cause : IsEnding ending last before after
  pub prefix : AppendsFront before.written after.written (lines last.output ++ line_of_ending ending last ++ more)
  pub whole : HasNotRisen before.write_faults after.write_faults → Appends before.written after.written (lines last.output ++ line_of_ending ending last ++ more)
