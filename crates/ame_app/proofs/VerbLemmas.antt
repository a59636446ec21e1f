-- Laws of the tables of commands, with a case a command.
use Rattle.std.proofs.Common.{◌≡◌, ◌≢◌, ℕ, List, sym, ◌∙◌, subst}
use Rattle.ame_sim.proofs.TextLemmas.{scheduled-same}
use Rattle.ame_lex.specs.Bytes.{Text}
use Rattle.ame_term.specs.Tree.{Tree}
use Rattle.ame_journal.specs.declared.entry.Entry.{Entry}
use Rattle.ame_cli.specs.declared.command.Command.{Command}
use Rattle.ame_app.specs.declared.parts.Front.{Front}
use Rattle.ame_app.specs.declared.parts.ReportPart.{ReportPart}
use Rattle.ame_app.specs.declared.status.Status.{Status}
use Rattle.ame_app.specs.Verbs.{TakesInput, Declines, Settles, BeginsFrom}
use Rattle.ame_app.specs.Verbs.Check.{entries_before, TellsOfJournal}
use Rattle.ame_app.specs.Verbs.Resume.{TellsOfBase}
use Rattle.ame_app.proofs.CheckLemmas.{certificate-one, certificate-none, bad-one, bad-other, journal-one, journal-other}
use Rattle.ame_app.proofs.ResumeLemmas.{base-one, base-other, base-unsettled}

-- a command takes one text of its bytes
pub takes-one : (command : Command) (bytes : List ℕ) (front other : Front) (text also : Text)
    → TakesInput command bytes front text → TakesInput command bytes other also → text ≡ also
takes-one (Command.Run options) bytes front other text also one two = one.1 ∙ sym two.1
takes-one (Command.Bench seed size options) bytes front other text also one two = one.1 ∙ sym two.1
takes-one (Command.Sim seed options) bytes front other text also one two = one.1 ∙ sym two.1
takes-one (Command.Replay options) bytes front other text also one two =
    (scheduled-same bytes one.picks two.picks text also one.scheduled two.scheduled).1
takes-one Command.Check bytes front other text also one two = (certificate-one bytes front other text also one two).0
takes-one (Command.Resume options) bytes front other text also one two = (certificate-one bytes front other text also one two).0
takes-one (Command.Weak seed turns) bytes front other text also one two = one.1 ∙ sym two.1

-- bytes that a command takes aren't declined
pub takes-none : (command : Command) (bytes : List ℕ) (front : Front) (text : Text) (told : Status)
    → TakesInput command bytes front text → Declines command bytes told → ⊥
takes-none (Command.Run options) bytes front text told takes declines = declines
takes-none (Command.Bench seed size options) bytes front text told takes declines = declines
takes-none (Command.Sim seed options) bytes front text told takes declines = declines
takes-none (Command.Replay options) bytes front text told takes declines = declines.none takes.picks text takes.scheduled
takes-none Command.Check bytes front text told takes declines = certificate-none bytes front text told takes declines
takes-none (Command.Resume options) bytes front text told takes declines = certificate-none bytes front text told takes declines
takes-none (Command.Weak seed turns) bytes front text told takes declines = declines

-- bytes are declined in one way
pub declines-one : (command : Command) (bytes : List ℕ) (told other : Status) → Declines command bytes told → Declines command bytes other → told ≡ other
declines-one (Command.Run options) bytes told other one two = absurd one
declines-one (Command.Bench seed size options) bytes told other one two = absurd one
declines-one (Command.Sim seed options) bytes told other one two = absurd one
declines-one (Command.Replay options) bytes told other one two = one.told_is ∙ sym two.told_is
declines-one Command.Check bytes told other one two = bad-one bytes told other one two
declines-one (Command.Resume options) bytes told other one two = bad-one bytes told other one two
declines-one (Command.Weak seed turns) bytes told other one two = absurd one

-- the status of declined bytes is no fault of the sink
pub declines-other : (command : Command) (bytes : List ℕ) (told : Status) → Declines command bytes told → told ≢ Status.WriteFault
declines-other (Command.Run options) bytes told declines = absurd declines
declines-other (Command.Bench seed size options) bytes told declines = absurd declines
declines-other (Command.Sim seed options) bytes told declines = absurd declines
declines-other (Command.Replay options) bytes told declines = λ e. absurd (let clash : Status.BadSchedule ≡ Status.WriteFault = sym declines.told_is ∙ e in cc)
declines-other Command.Check bytes told declines = bad-other bytes told declines
declines-other (Command.Resume options) bytes told declines = bad-other bytes told declines
declines-other (Command.Weak seed turns) bytes told declines = absurd declines

-- a program has one status without a run
pub settles-one : (command : Command) (front : Front) (program : Tree) (ahead more : List ℕ) (own also : ReportPart) (told other : Status)
    → Settles command front program ahead own told → Settles command front program more also other → told ≡ other
settles-one (Command.Run options) front program ahead more own also told other one two = absurd one
settles-one (Command.Bench seed size options) front program ahead more own also told other one two = absurd one
settles-one (Command.Sim seed options) front program ahead more own also told other one two = absurd one
settles-one (Command.Replay options) front program ahead more own also told other one two = absurd one
settles-one Command.Check front program ahead more own also told other one two =
    journal-one program (entries_before front) ahead more own also told other one two
settles-one (Command.Resume options) front program ahead more own also told other one two =
    base-one program (entries_before front) ahead more own also told other one two
settles-one (Command.Weak seed turns) front program ahead more own also told other one two = absurd one

-- the status of a program without a run is no fault of the sink
pub settles-other : (command : Command) (front : Front) (program : Tree) (ahead : List ℕ) (own : ReportPart) (told : Status)
    → Settles command front program ahead own told → told ≢ Status.WriteFault
settles-other (Command.Run options) front program ahead own told settles = absurd settles
settles-other (Command.Bench seed size options) front program ahead own told settles = absurd settles
settles-other (Command.Sim seed options) front program ahead own told settles = absurd settles
settles-other (Command.Replay options) front program ahead own told settles = absurd settles
settles-other Command.Check front program ahead own told settles = journal-other program (entries_before front) ahead own told settles
settles-other (Command.Resume options) front program ahead own told settles = base-other program (entries_before front) ahead own told settles
settles-other (Command.Weak seed turns) front program ahead own told settles = absurd settles

-- a program has one status, whichever front is taken of the same bytes
pub settles-same : (command : Command) (bytes : List ℕ) (front other : Front) (text also : Text)
    → TakesInput command bytes front text → TakesInput command bytes other also
    → (program : Tree) (ahead : List ℕ) (own : ReportPart) (told : Status)
    → Settles command front program ahead own told → Settles command other program ahead own told
settles-same (Command.Run options) bytes front other text also one two program ahead own told settles = settles
settles-same (Command.Bench seed size options) bytes front other text also one two program ahead own told settles = settles
settles-same (Command.Sim seed options) bytes front other text also one two program ahead own told settles = settles
settles-same (Command.Replay options) bytes front other text also one two program ahead own told settles = settles
settles-same Command.Check bytes front other text also one two program ahead own told settles =
    subst (λ (es : List Entry). TellsOfJournal program es ahead own told) (certificate-one bytes front other text also one two).1 settles
settles-same (Command.Resume options) bytes front other text also one two program ahead own told settles =
    subst (λ (es : List Entry). TellsOfBase program es ahead own told) (certificate-one bytes front other text also one two).1 settles
settles-same (Command.Weak seed turns) bytes front other text also one two program ahead own told settles = settles

-- a program whose run is begun has no status without a run
pub begins-unsettled : (command : Command) (front : Front) (program : Tree) (base : List Entry) → BeginsFrom command front program base
    → (ahead : List ℕ) (own : ReportPart) (told : Status) → Settles command front program ahead own told → ⊥
begins-unsettled (Command.Run options) front program base begins ahead own told settles = settles
begins-unsettled (Command.Bench seed size options) front program base begins ahead own told settles = settles
begins-unsettled (Command.Sim seed options) front program base begins ahead own told settles = settles
begins-unsettled (Command.Replay options) front program base begins ahead own told settles = settles
begins-unsettled Command.Check front program base begins ahead own told settles = begins
begins-unsettled (Command.Resume options) front program base begins ahead own told settles =
    base-unsettled program (entries_before front) base begins ahead own told settles
begins-unsettled (Command.Weak seed turns) front program base begins ahead own told settles = settles
