-- Lines that are sent.
use Rattle.std.proofs.Common.{◌≡◌, ℕ, ◌+◌, ◌-◌, ◌<◌, List, ◌++◌, length, take, drop, Option, Some, None, refl, sym, ap, ◌∙◌, subst, arith}
use Rattle.std.specs.Prelude.{unwrap_or}
use Rattle.std.proofs.lemmas.List.{take_at, take_all, length-append, length-drop}
use Rattle.std.specs.Io.KnownBytes.{Appends}
use Rattle.ame_io.specs.Counts.{HasRisen}
use Rattle.ame_io.specs.Lines.{lines}
use Rattle.ame_io.specs.Writes.{AppendsFirst}
use Rattle.ame_io.proofs.WritesLemmas.{Appends-take_more}
use Rattle.ame_protocol.specs.declared.stop.Stop.{Stop}
use Rattle.ame_engine.specs.Core.{Core}
use Rattle.ame_shell.specs.Ends.{Ends}
use Rattle.ame_shell.specs.Sent.{IsSent}
use Rattle.ame_shell.specs.Shell.{ShellView, GoesTo, IsSentSince}
use Rattle.ame_shell.specs.Turned.{HasFlushed}

-- the first bytes of a longer text
front : (text more : List ℕ) (n : ℕ) → n ≡ length text → take n (text ++ more) ≡ take n text
front text more n is = take_at text more n (sym is) ∙ sym (take_all n text (omega (arith, is)))

module _ {C V M : Type 0} (opened : Ends) (old new : ShellView C V M) (text more : List ℕ) (is : lines old.core.output ≡ text ++ more)
    (going : old.core.stop ≡ None) (h : IsSentSince opened old.ends None old.sent text) where
  abbrev all : List ℕ
  all = lines old.core.output

  so-far : AppendsFirst old.sent opened.written old.ends.written all
  so-far = subst (Appends opened.written old.ends.written)
      (sym (ap (take old.sent) is ∙ front text more old.sent h.goes.0)) h.first

  length-all : length all ≡ length text + length more
  length-all = ap length is ∙ length-append text more

  length-rest : length (drop old.sent all) ≡ length all - old.sent
  length-rest = length-drop old.sent all

  then-sent : (n : ℕ) → Appends old.ends.written new.ends.written (take n (drop old.sent all)) → AppendsFirst (old.sent + n) opened.written new.ends.written all
  then-sent n p = Appends-take_more opened.written old.ends.written new.ends.written all (drop old.sent all) old.sent n refl so-far p

  -- a text is sent to its end, or the sink fails
  pub flush-keeps : HasFlushed old new → IsSentSince opened new.ends new.core.stop new.sent (lines new.core.output)
  flush-keeps (HasFlushed.sends appended stays same sent) =
      let n = length (drop old.sent all) in
      let whole : take n (drop old.sent all) ≡ drop old.sent all = take_all n (drop old.sent all) (omega arith) in
      let there : AppendsFirst (old.sent + n) opened.written new.ends.written all = then-sent n (subst (Appends old.ends.written new.ends.written) (sym whole) appended) in
      let count : old.sent + n ≡ new.sent = omega (arith, h.goes.0, length-all, length-rest, sent) in
      let output : lines new.core.output ≡ all = ap (λ (c : Core C V M). lines c.output) same in
      let stop : new.core.stop ≡ None = ap (λ (c : Core C V M). c.stop) same ∙ going in
      record {
        first =
            subst (λ (t : List ℕ). AppendsFirst new.sent opened.written new.ends.written t) (sym output)
            (subst (λ (k : ℕ). AppendsFirst k opened.written new.ends.written all) count there);
        goes = subst (λ (o : Option Stop). GoesTo o new.sent (lines new.core.output) opened.write_faults new.ends.write_faults) (sym stop)
            (sent ∙ ap length (sym output), stays ∙ h.goes.1);
      }
  flush-keeps (HasFlushed.fails gone first short risen same sent) =
      let there : AppendsFirst (old.sent + gone) opened.written new.ends.written all = then-sent gone first in
      let output : lines new.core.output ≡ all = ap (λ (c : Core C V M). lines c.output) same in
      let stop : new.core.stop ≡ Some Stop.WriteFault =
      ap (λ (c : Core C V M). c.stop) same ∙ ap (λ (o : Option Stop). Some (unwrap_or o Stop.WriteFault)) going in
      let within : old.sent + gone < length all = omega (arith, short, length-rest, h.goes.0, length-all) in
      record {
        first =
            subst (λ (t : List ℕ). AppendsFirst new.sent opened.written new.ends.written t) (sym output)
            (subst (λ (k : ℕ). AppendsFirst k opened.written new.ends.written all) (sym sent) there);
        goes = subst (λ (o : Option Stop). GoesTo o new.sent (lines new.core.output) opened.write_faults new.ends.write_faults) (sym stop) (
          subst (λ (t : List ℕ). new.sent < length t) (sym output) (subst (λ (k : ℕ). k < length all) (sym sent) within),
          subst (λ (f : ℕ). HasRisen f new.ends.write_faults) h.goes.1 risen,
        );
      }

-- what was sent at the end
pub sent-over : (opened now : Ends) (stop : Option Stop) (sent : ℕ) (text : List ℕ) → IsSentSince opened now stop sent text → IsSent stop text opened now
sent-over opened now stop sent text h = by stop h.goes
  where
    whole : sent ≡ length text → Appends opened.written now.written text
    whole e = subst (Appends opened.written now.written) (take_all sent text (omega (arith, e))) h.first

    by : (o : Option Stop) → GoesTo o sent text opened.write_faults now.write_faults → IsSent o text opened now
    by (Some Stop.WriteFault) g = record { gone = sent; first = h.first; short = g.0; risen = g.1 }
    by (Some Stop.Finished) g = record { appended = whole g.0; stayed = g.1 }
    by (Some Stop.Blocked) g = record { appended = whole g.0; stayed = g.1 }
    by (Some Stop.Spent) g = record { appended = whole g.0; stayed = g.1 }
    by (Some (Stop.Tall number)) g = record { appended = whole g.0; stayed = g.1 }
    by (Some Stop.NoMemory) g = record { appended = whole g.0; stayed = g.1 }
    by (Some (Stop.DeviceFault device)) g = record { appended = whole g.0; stayed = g.1 }
    by None g = record { appended = whole g.0; stayed = g.1 }
