-- The part of a text that was sent.
use Rattle.std.specs.Prelude.{◌≡◌, ℕ, ◌<◌, List, length, Option, Some}
use Rattle.std.specs.Io.KnownBytes.{Appends}
use Rattle.ame_io.specs.Counts.{HasRisen}
use Rattle.ame_io.specs.Writes.{AppendsFirst}
use Rattle.ame_protocol.specs.declared.stop.Stop.{Stop}
use Rattle.ame_shell.specs.Ends.{Ends}

-- the whole text was appended, and the sink didn't fail
pub record IsSentWhole (text : List ℕ) (before after : Ends) : Type 0 where
  pub appended : Appends before.written after.written text
  pub stayed : after.write_faults ≡ before.write_faults

-- the sink failed after it had taken the first bytes of the text, and nothing more
pub record IsSentInPart (text : List ℕ) (before after : Ends) : Type 0 where
  pub gone : ℕ
  pub first : AppendsFirst gone before.written after.written text
  pub short : gone < length text
  pub risen : HasRisen before.write_faults after.write_faults

-- a text was sent, by the stop that is kept
abbrev pub IsSent : Option Stop → List ℕ → Ends → Ends → Type 0
IsSent (Some Stop.WriteFault) text before after = IsSentInPart text before after
IsSent _ text before after = IsSentWhole text before after
