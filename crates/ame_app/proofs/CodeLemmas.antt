-- Why there is no code of a text.
use Rattle.std.proofs.Common.{◌≡◌, ◌≢◌, ℕ, inr, [], Option, Some, None, Result, Ok, Err, IfSome, IfOk, sym, ap, subst, Vec, Global}
use Rattle.ame_lex.specs.Bytes.{Text}
use Rattle.ame_lex.specs.declared.tokens.LexFault.{LexFault}
use Rattle.ame_lex.specs.declared.tokens.Token.{Token}
use Rattle.ame_lex.specs.Reading.{tokens_of, AnswersTokens}
use Rattle.ame_parse.specs.Text.{ReadingFault, reading, reading_by}
use Rattle.ame_cli.specs.declared.command.Command.{Command}
use Rattle.ame_app.specs.declared.parts.Front.{Front}
use Rattle.ame_app.specs.declared.parts.ReportPart.{ReportPart}
use Rattle.ame_app.specs.declared.status.Status.{Status}
use Rattle.ame_app.specs.Calls.{Call, Asks}
use Rattle.ame_app.specs.Causes.{RefusalCause}
use Rattle.ame_app.specs.Causes.RefusalCause.{by_text, by_types, by_memory}
use Rattle.ame_app.specs.Jobs.{bytes_told, IsTextStatus}
use Rattle.ame_app.proofs.TurnedLemmas.{SpellOne, asked-left}

reads-faulty : (text : Text) (fault : LexFault) → tokens_of text ≡ Err fault → reading text ≡ Err (ReadingFault.Lexical fault)
unfolding reading
reads-faulty text fault e = ap (reading_by text) e

-- a text with an error in its bytes has the status of that error
pub bytes-faulty : (text : Text) (devices : ℕ) (fault : LexFault) (status : Status) → status ≡ bytes_told fault
    → AnswersTokens (λ (v : Vec Token Global). v.items) (Err fault) (tokens_of text) → IsTextStatus text devices status
bytes-faulty text devices LexFault.NoMemory status e none = subst (IsTextStatus text devices) (sym e) tt
bytes-faulty text devices (LexFault.BadByte place) status e none =
    subst (IsTextStatus text devices) (sym e) (reads-faulty text (LexFault.BadByte place) none)
bytes-faulty text devices (LexFault.LongNumber place) status e none =
    subst (IsTextStatus text devices) (sym e) (reads-faulty text (LexFault.LongNumber place) none)

-- a call that asked for such a text is refused
pub text-refused : (one : SpellOne) (call : Call) (command : Command) (front : Front) (text : Text) → Asks call command front text
    → (status : Status) → IsTextStatus text call.devices status → RefusalCause call text [] ReportPart.Nothing status
text-refused one call command front text asked (Status.Text fault) none =
    by_text fault (record { command = command; front = front; asked = asked; cause = none })
text-refused one call command front text asked (Status.Types fault) ill =
    by_types fault (record { command = command; front = front; asked = asked; cause = ill })
text-refused one call command front text asked Status.NoMemory free = by_memory (inr (command, front, asked)) (asked-left one call command front text asked)
text-refused one call command front text asked status bad = absurd bad

-- not as a fault of the sink
pub text-other : (text : Text) (devices : ℕ) (status : Status) → IsTextStatus text devices status → status ≢ Status.WriteFault
text-other text devices Status.WriteFault why = absurd why
text-other text devices status why = λ e. absurd (cc)

-- a value that may be there, with one property, has a weaker one
pub some-weaker : {T : Type 0} (o : Option T) (P Q : T → Type 0) → ((x : T) → P x → Q x) → IfSome o P → IfSome o Q
some-weaker None P Q go h = tt
some-weaker (Some x) P Q go h = go x h

-- a property of all values holds of the one in a result
pub ok-any : {T E : Type 0} (r : Result T E) (P : T → Type 0) → ((x : T) → P x) → IfOk r P
ok-any (Ok x) P go = go x
ok-any (Err e) P go = tt
