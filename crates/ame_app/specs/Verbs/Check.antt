-- `check`: a source that is a certificate: the journal of a run, and the text of its program. The journal is judged without a run.
use Rattle.std.specs.Prelude.{◌≡◌, ℕ, ◌+◌, ◌==◌, ℤ, ◌⊎◌, List, [], length, take, drop, count_by}
use Rattle.ame_io.specs.Lines.{lines}
use Rattle.ame_lex.specs.Bytes.{Text}
use Rattle.ame_term.specs.Tree.{Tree}
use Rattle.ame_journal.specs.declared.entry.Entry.{Entry}
use Rattle.ame_journal.specs.JournalView.{JournalView}
use Rattle.ame_journal.specs.Text.{IsText, IsFirstBadLine}
use Rattle.ame_check.specs.declared.reason.Reason.{Reason}
use Rattle.ame_check.specs.Input.{HasProgramLine, IsSplit}
use Rattle.ame_check.specs.Judge.{IsLong, LeadsTo, IsInvalid}
use Rattle.ame_app.specs.declared.parts.Front.{Front}
use Rattle.ame_app.specs.declared.parts.ReportPart.{ReportPart}
use Rattle.ame_app.specs.declared.status.Status.{Status}

-- Input

-- the bytes are the lines of a journal, the first line `program`, and the text after it
pub record TakesCertificate (bytes : List ℕ) (front : Front) (text : Text) : Type 0 where
  pub journal : JournalView
  pub front_is : front ≡ Front.Journal journal
  pub before : ℕ
  pub start : ℕ
  pub split : IsSplit bytes before start
  pub lines_are : IsText (take before bytes) journal.entries
  pub text_is : text ≡ drop start bytes

-- no line is `program`, and n is one more than the number of line feeds
pub record HasNoProgram (bytes : List ℕ) (n : ℕ) : Type 0 where
  pub none : (k : ℕ) → HasProgramLine bytes k → ⊥
  pub count : n ≡ count_by (λ b. b == 10) bytes + 1

-- of the lines before the first line `program`, the n-th is the first that spells no entry
pub record HasBadEntry (bytes : List ℕ) (n : ℕ) : Type 0 where
  pub before : ℕ
  pub start : ℕ
  pub split : IsSplit bytes before start
  pub bad : IsFirstBadLine (take before bytes) n

-- the bytes are no certificate, and the status has this line
pub record HasNoCertificate (bytes : List ℕ) (told : Status) : Type 0 where
  pub line : ℕ
  pub told_is : told ≡ Status.BadJournal line
  pub why : HasNoProgram bytes line ⊎ HasBadEntry bytes line

-- The judgement

-- the entries of the journal before the text, if there is one
abbrev pub entries_before : Front → List Entry
entries_before (Front.Journal journal) = journal.entries
entries_before _ = []

-- n is the number of entries, which lead to a state, and the lines of its output are written before the verdict line
pub record IsValidJournal (program : Tree) (entries : List Entry) (ahead : List ℕ) (own : ReportPart) (n : ℕ) : Type 0 where
  pub output : List ℤ
  pub leads : LeadsTo program entries output
  pub count : n ≡ length entries
  pub ahead_is : ahead ≡ lines output
  pub own_is : own ≡ ReportPart.Nothing

-- the n-th entry is the first that can't be made, for the reason that is reported
pub record IsUnmade (program : Tree) (entries : List Entry) (ahead : List ℕ) (own : ReportPart) (n : ℕ) : Type 0 where
  pub why : Reason
  pub invalid : IsInvalid program entries n why
  pub ahead_is : ahead ≡ []
  pub own_is : own ≡ ReportPart.Unmade why

-- with the n-th entry the steps and entries are too many to be judged
pub record IsTooMuch (entries : List Entry) (ahead : List ℕ) (own : ReportPart) (n : ℕ) : Type 0 where
  pub long : IsLong entries n
  pub ahead_is : ahead ≡ []
  pub own_is : own ≡ ReportPart.Nothing

-- the status of a journal of a program, a row a status
abbrev pub TellsOfJournal : Tree → List Entry → List ℕ → ReportPart → Status → Type 0
TellsOfJournal program entries ahead own (Status.Valid n) = IsValidJournal program entries ahead own n
TellsOfJournal program entries ahead own (Status.Invalid n) = IsUnmade program entries ahead own n
TellsOfJournal program entries ahead own (Status.LongJournal n) = IsTooMuch entries ahead own n
TellsOfJournal program entries ahead own _ = ⊥
