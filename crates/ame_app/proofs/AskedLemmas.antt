-- Why words ask for nothing that can be run.
use Rattle.std.proofs.Common.{◌≡◌, ◌≢◌, ℕ, ◌<◌, ◌≤◌, inl, inr, Bool, true, List, [], length, Option, None, Result, Ok, Err, IfOk, IfErr, refl, sym}
use Rattle.std.proofs.Common.{ap, ◌∙◌, subst, arith}
use Rattle.std.specs.Prelude.{IsErrAnd}
use Rattle.ame_io.specs.Reads.{whole_limit, LeftAfter, FaultsAfter}
use Rattle.ame_io.specs.declared.whole_read.ReadAllFail.{ReadAllFail}
use Rattle.ame_lex.specs.Bytes.{Text}
use Rattle.ame_cli.specs.declared.command.CliFail.{CliFail}
use Rattle.ame_cli.specs.declared.command.Command.{Command}
use Rattle.ame_cli.specs.Grammar.{SpellsCommand, SpellsNothing}
use Rattle.ame_app.specs.declared.alone.Alone.{Alone}
use Rattle.ame_app.specs.declared.parts.Front.{Front}
use Rattle.ame_app.specs.declared.parts.ReportPart.{ReportPart}
use Rattle.ame_app.specs.declared.status.Status.{Status}
use Rattle.ame_app.specs.Alone.{command_of}
use Rattle.ame_app.specs.Verbs.{reads_source, TakesInput}
use Rattle.ame_app.specs.Calls.{Given, Call, call_of, IsInput, Asks, IsCallOf}
use Rattle.ame_app.specs.Causes.{RefusalCause, IsNamed, IsReader, IsRefusedWith}
use Rattle.ame_app.specs.Causes.RefusalCause.{by_words, by_source, by_length, by_input, by_memory}
use Rattle.ame_app.specs.Jobs.{words_told, source_told, IsUntaken}
use Rattle.ame_app.proofs.TurnedLemmas.{SpellOne, input-left}
use Rattle.ame_app.proofs.VerbLemmas.{declines-other}

-- an error with one property has a weaker one
pub err-weaker : {T E : Type 0} (r : Result T E) (P Q : E → Type 0) → ((e : E) → P e → Q e) → IsErrAnd r P → IfErr r Q
err-weaker (Ok x) P Q go h = tt
err-weaker (Err e) P Q go h = go e h

pub err-so : {T E : Type 0} (r : Result T E) (P Q : E → Type 0) → ((e : E) → P e → Q e) → IfErr r P → IfErr r Q
err-so (Ok x) P Q go h = tt
err-so (Err e) P Q go h = go e h

-- what is so of a value
pub ok-so : {T E : Type 0} (r : Result T E) (P Q : T → Type 0) → ((x : T) → P x → Q x) → IfOk r P → IfOk r Q
ok-so (Ok x) P Q go h = go x h
ok-so (Err e) P Q go h = tt

-- a call without a text is refused
pub untaken-refusal : (call : Call) (text : Text) (named command : Option Command) (status told : Status) → text ≡ [] → named ≡ command → status ≡ told
    → RefusalCause call [] [] ReportPart.Nothing told → IsNamed call command told → IsRefusedWith call text named status
untaken-refusal call text named command status told none name is cause known =
    let len = ap length none in
    record {
      cause = subst (λ (t : Text). RefusalCause call t [] ReportPart.Nothing status) (sym none) (subst (RefusalCause call [] [] ReportPart.Nothing) (sym is) cause);
      named = subst (λ (o : Option Command). IsNamed call o status) (sym name) (subst (IsNamed call command) (sym is) known);
      most = omega (arith, len);
    }

-- words that give no command are refused, with the status of their failure
pub words-refused : (words : List (List ℕ)) (source : Given) (devices : ℕ) (text : Text) → text ≡ []
    → (fail : CliFail) (status : Status) → status ≡ words_told fail
    → (fail ≡ CliFail.Usage → SpellsNothing words) → RefusalCause (call_of words source source devices) text [] ReportPart.Nothing status
words-refused words source devices text none CliFail.Usage status e nothing =
    subst (RefusalCause (call_of words source source devices) text [] ReportPart.Nothing) (sym e) (by_words none (record { words = nothing refl; source = refl }))
words-refused words source devices text none CliFail.NoMemory status e nothing =
    subst (RefusalCause (call_of words source source devices) text [] ReportPart.Nothing) (sym e)
    (by_memory (inl none) (record { faults = refl; untouched = λ command spells still. refl }))

-- without a command, the report names none
pub words-named : (words : List (List ℕ)) (source : Given) (devices : ℕ) (fail : CliFail) (status : Status) → status ≡ words_told fail
    → (fail ≡ CliFail.Usage → SpellsNothing words) → IsNamed (call_of words source source devices) None status
words-named words source devices CliFail.Usage status e nothing = inl (nothing refl)
words-named words source devices CliFail.NoMemory status e nothing = inr e

-- a source that fails is refused
module _ (words : List (List ℕ)) (source after : Given) (devices : ℕ) (command : Command)
    (spelled : SpellsCommand words command) (reads : reads_source command ≡ true) where
  reader : IsReader (call_of words source after devices)
  reader = record { command = command; spelled = spelled; reads = reads }

  pub source-refused : (one : SpellOne) (fail : ReadAllFail) (status : Status) → status ≡ source_told fail
      → LeftAfter fail source.left after.left → FaultsAfter fail source.faults after.faults
      → RefusalCause (call_of words source after devices) [] [] ReportPart.Nothing status
  source-refused one ReadAllFail.ReadFault status e left faults =
      subst (RefusalCause (call_of words source after devices) [] [] ReportPart.Nothing) (sym e) (by_source refl (record { reader = reader; faults = faults }))
  source-refused one ReadAllFail.TooLong status e left faults =
      subst (RefusalCause (call_of words source after devices) [] [] ReportPart.Nothing) (sym e) (by_length refl (record { reader = reader; given = left; faults = faults }))
  source-refused one ReadAllFail.NoMemory status e left faults =
      subst (RefusalCause (call_of words source after devices) [] [] ReportPart.Nothing) (sym e) (by_memory (inl refl) (record {
        faults = faults;
        untouched = λ other spells still. absurd (let same = ap reads_source (one words command other spelled spells) in cc);
      }))

-- input that the command doesn't take is refused
pub untaken-refused : (one : SpellOne) (call : Call) (command : Command) (bytes : List ℕ) (status : Status) → SpellsCommand call.words command
    → IsInput (reads_source command) call.source call.source_after bytes → length bytes ≤ whole_limit → IsUntaken command bytes status
    → RefusalCause call [] [] ReportPart.Nothing status
untaken-refused one call command bytes status spelled input most (inl declines) =
    by_input status refl (record { command = command; spelled = spelled; bytes = bytes; input = input; most = most; declines = declines })
untaken-refused one call command bytes status spelled input most (inr e) =
    subst (RefusalCause call [] [] ReportPart.Nothing) (sym e) (by_memory (inl refl) (input-left one call command spelled bytes input))

-- not as a fault of the sink
pub untaken-other : (command : Command) (bytes : List ℕ) (status : Status) → IsUntaken command bytes status → status ≢ Status.WriteFault
untaken-other command bytes status (inl declines) = declines-other command bytes status declines
untaken-other command bytes status (inr e) = λ fault. absurd (let clash : Status.NoMemory ≡ Status.WriteFault = sym e ∙ fault in cc)

-- a command that one thread does reads its source
reads-alone : (command : Alone) → reads_source (command_of command) ≡ true
reads-alone (Alone.Sim seed options) = refl
reads-alone (Alone.Replay options) = refl
reads-alone (Alone.Weak seed turns) = refl

-- by bytes in memory
module _ (alone : Alone) (bytes : List ℕ) (devices : ℕ) (call : Call) (of : IsCallOf call (command_of alone) bytes devices) where
  input-of : length bytes ≤ whole_limit → IsInput (reads_source (command_of alone)) call.source call.source_after bytes
  input-of most =
      subst (λ (reads : Bool). IsInput reads call.source call.source_after bytes) (sym (reads-alone alone))
      (record { whole = of.read.whole most; faults = of.read.faults })

  pub bytes-ask : length bytes ≤ whole_limit → (front : Front) (text : Text) → TakesInput (command_of alone) bytes front text → length text ≤ whole_limit
      → Asks call (command_of alone) front text
  bytes-ask most front text takes small = record {
    spelled = of.spelled;
    text_is = record { bytes = bytes; input = input-of most; most = most; takes = takes };
    most = small;
  }

  pub bytes-untaken : SpellOne → length bytes ≤ whole_limit → (status : Status) → IsUntaken (command_of alone) bytes status
      → RefusalCause call [] [] ReportPart.Nothing status
  bytes-untaken one most status untaken = untaken-refused one call (command_of alone) bytes status of.spelled (input-of most) most untaken

  pub bytes-long : whole_limit < length bytes → RefusalCause call [] [] ReportPart.Nothing Status.TooLong
  bytes-long long = by_length refl (record {
    reader = record { command = command_of alone; spelled = of.spelled; reads = reads-alone alone };
    given = of.read.more long;
    faults = of.read.faults;
  })

  pub bytes-lack : SpellOne → RefusalCause call [] [] ReportPart.Nothing Status.NoMemory
  bytes-lack one = by_memory (inl refl) (record {
    faults = of.read.faults;
    untouched = λ other spells still. absurd (
        let same = ap reads_source (one call.words (command_of alone) other of.spelled spells) in
        let reads = reads-alone alone in
        cc
        );
  })
