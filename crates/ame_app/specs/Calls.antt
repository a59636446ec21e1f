-- The input of a call, and the text that it is to run.
use Rattle.std.specs.Prelude.{◌≡◌, ℕ, ◌<◌, ◌≤◌, Bool, true, false, List, [], Option, Some, length}
use Rattle.ame_io.specs.Reads.{whole_limit, IsReadWhole, GivesMoreThan}
use Rattle.ame_lex.specs.Bytes.{Text}
use Rattle.ame_cli.specs.declared.command.Command.{Command}
use Rattle.ame_cli.specs.Items.{ArgWord}
use Rattle.ame_cli.specs.Grammar.{SpellsCommand}
use Rattle.ame_app.specs.declared.parts.Front.{Front}
use Rattle.ame_app.specs.Verbs.{reads_source, TakesInput}

-- what a source shows: the bytes that it has left, if it shows them, and its count of faults
pub record Given : Type 0 where
  pub left : Option (List ℕ)
  pub faults : ℕ

abbrev pub what_is_given : {S : Type 0} → (S → Option (List ℕ)) → (S → ℕ) → S → Given
what_is_given left faults source = record { left = left source; faults = faults source }

-- the words of a call, what its source shows before it and after it, and how many devices it is given
pub record Call : Type 0 where
  pub words : List ArgWord
  pub source : Given
  pub source_after : Given
  pub devices : ℕ

abbrev pub call_of : List ArgWord → Given → Given → ℕ → Call
call_of words source source_after devices = record { words = words; source = source; source_after = source_after; devices = devices }

-- all the bytes that a source had left were read to their end, without a fault
pub record IsReadThrough (source after : Given) (bytes : List ℕ) : Type 0 where
  pub whole : IsReadWhole source.left after.left bytes
  pub faults : after.faults ≡ source.faults

-- if the source is read, it is read through; otherwise there are no bytes, and the source isn't touched
abbrev pub IsInput : Bool → Given → Given → List ℕ → Type 0
IsInput true source after bytes = IsReadThrough source after bytes
IsInput false source after bytes = (bytes ≡ []) × (after ≡ source)

-- the front and the text of a command: those that it takes of the bytes of its input
pub record IsTextOf (command : Command) (source after : Given) (front : Front) (text : Text) : Type 0 where
  pub bytes : List ℕ
  pub input : IsInput (reads_source command) source after bytes
  pub most : length bytes ≤ whole_limit
  pub takes : TakesInput command bytes front text

-- the words spell this command, which has this front and this text, whose length is within the limit
pub record Asks (call : Call) (command : Command) (front : Front) (text : Text) : Type 0 where
  pub spelled : SpellsCommand call.words command
  pub text_is : IsTextOf command call.source call.source_after front text
  pub most : length text ≤ whole_limit

-- A source had just these bytes left, and was read without a fault: to its end, or beyond the most bytes that one may have.
pub record HadBytes (source after : Given) (bytes : List ℕ) : Type 0 where
  pub had : source.left ≡ Some bytes
  pub whole : length bytes ≤ whole_limit → IsReadWhole source.left after.left bytes
  pub more : whole_limit < length bytes → GivesMoreThan whole_limit source.left after.left
  pub faults : after.faults ≡ source.faults

-- the words of a call spell this command, its source had these bytes and was read, and this is the number of its devices
pub record IsCallOf (call : Call) (command : Command) (bytes : List ℕ) (devices : ℕ) : Type 0 where
  pub spelled : SpellsCommand call.words command
  pub read : HadBytes call.source call.source_after bytes
  pub devices_are : call.devices ≡ devices
