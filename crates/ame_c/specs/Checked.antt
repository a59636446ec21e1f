-- The answer to the bytes of a certificate.
use Rattle.std.specs.Prelude.{◌≡◌, ℕ, ◌≤◌, ◌<◌, ◌⊎◌, List, [], ◌++◌, length}
use Rattle.ame_io.specs.Reads.{whole_limit}
use Rattle.ame_lex.specs.Bytes.{Text}
use Rattle.ame_term.specs.View.{tree_of}
use Rattle.ame_term.specs.declared.accepted.Accepted.{Accepted}
use Rattle.ame_app.specs.declared.parts.Front.{Front}
use Rattle.ame_app.specs.declared.parts.ReportPart.{ReportPart}
use Rattle.ame_app.specs.declared.status.Status.{Status}
use Rattle.ame_app.specs.Jobs.{IsTextStatus}
use Rattle.ame_app.specs.Texts.{IsProgramOf}
use Rattle.ame_app.specs.Verbs.Check.{TakesCertificate, HasNoCertificate, entries_before, TellsOfJournal}
use Rattle.ame_app.specs.Verdict.{verdict}
use Rattle.ame_c.specs.Out.{IsTold, IsHandedOut}
use Rattle.ame_c.specs.Devices.{device_count}

-- The bytes are a journal and the text of a program, and the command `check` judges them so.
pub record IsJudgedAs (bytes : List ℕ) (ahead : List ℕ) (told : Status) : Type 0 where
  pub short : length bytes ≤ whole_limit
  pub front : Front
  pub text : Text
  pub takes : TakesCertificate bytes front text
  pub accepted : Accepted
  pub program : IsProgramOf text device_count accepted
  pub own : ReportPart
  pub tells : TellsOfJournal (tree_of accepted.program.term) (entries_before front) ahead own told

-- there are more bytes than are read
pub record AreTooMany (bytes : List ℕ) (told : Status) : Type 0 where
  pub long : whole_limit < length bytes
  pub told_is : told ≡ Status.TooLong

-- there is a journal, and the text is no program, or none that the types accept
pub record HasNoCode (bytes : List ℕ) (told : Status) : Type 0 where
  pub short : length bytes ≤ whole_limit
  pub front : Front
  pub text : Text
  pub takes : TakesCertificate bytes front text
  pub why : IsTextStatus text device_count told

-- the status of bytes that aren't judged
abbrev pub IsUnjudged : List ℕ → Status → Type 0
IsUnjudged bytes told =
    AreTooMany bytes told ⊎ ((length bytes ≤ whole_limit) × HasNoCertificate bytes told) ⊎ HasNoCode bytes told ⊎ (told ≡ Status.NoMemory)

-- a status is that of the bytes, with these lines before its own
abbrev pub TellsAhead : List ℕ → List ℕ → Status → Type 0
TellsAhead bytes ahead told = IsJudgedAs bytes ahead told ⊎ ((ahead ≡ []) × IsUnjudged bytes told)

-- a status is that of the bytes, and these are all lines
pub record TellsLines (bytes : List ℕ) (told : Status) (lines : List ℕ) : Type 0 where
  pub ahead : List ℕ
  pub cause : TellsAhead bytes ahead told
  pub lines_are : lines ≡ ahead ++ verdict told

-- the numbers and the lines that a caller gets for a certificate
pub record AnswersCheck (bytes : List ℕ) (room : List ℕ) (status : ℕ) (left : List ℕ) (number whole : ℕ) : Type 0 where
  pub told : Status
  pub lines : List ℕ
  pub tells : TellsLines bytes told lines
  pub is_told : IsTold told status number
  pub out : IsHandedOut lines room left whole
