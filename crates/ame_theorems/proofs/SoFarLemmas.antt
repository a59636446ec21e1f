-- A shell has shown a strong run.
use Rattle.std.proofs.Common.{◌≡◌, ℕ, ◌++◌, List, [], length, take, drop, Option, Some, None, refl, sym, ap, ◌∙◌, subst, take_all, take-append-drop, arith}
use Rattle.std.specs.Prelude.{ℤ}
use Rattle.std.specs.Io.KnownBytes.{Appends}
use Rattle.ame_io.specs.Lines.{lines}
use Rattle.ame_term.specs.Tree.{Tree}
use Rattle.ame_journal.specs.declared.entry.Entry.{Entry}
use Rattle.ame_journal.specs.Replay.{replay}
use Rattle.ame_journal.specs.Replayed.{Replayed, begun_at}
use Rattle.ame_journal.proofs.CallLemmas.{calls-unfolded}
use Rattle.ame_journal.proofs.LabelLemmas.{unfold-all, unfolds_all-run}
use Rattle.ame_journal.proofs.ReachedLemmas.{calm-replayed}
use Rattle.ame_machine.specs.Meaning.{Meaning}
use Rattle.ame_protocol.specs.declared.stop.Stop.{Stop}
use Rattle.ame_protocol.specs.Engine.Simulates.{Simulates}
use Rattle.ame_engine.specs.Seen.{parts_of}
use Rattle.ame_shell.specs.Ends.{Ends, told_at}
use Rattle.ame_shell.specs.Heard.{answered_all, and_more, HaveHeardSince}
use Rattle.ame_shell.specs.Shell.{ShellView, Opening, GoesTo, IsSentSince, IsShell}
use Rattle.ame_theorems.specs.SoFar.{HasShownARun}

-- unless the sink failed, the text was sent to its end
sent-whole : (o : Option Stop) (sent : ℕ) (text : List ℕ) (faults now : ℕ) → (o ≡ Some Stop.WriteFault → ⊥) → GoesTo o sent text faults now → sent ≡ length text
sent-whole None sent text faults now unfailed h = h.0
sent-whole (Some Stop.WriteFault) sent text faults now unfailed h = absurd (unfailed refl)
sent-whole (Some _) sent text faults now unfailed h = h.0

-- The run of a journal was shown.
run-shown : (program : Tree) (entries : List Entry) (stop : Option Stop) (before now : Ends) (sent : ℕ) (output : List ℤ) (r : Replayed) → replay program entries ≡ Some r
    → r.state.output ≡ output → HaveHeardSince program [] entries before.told now.told → IsSentSince before now stop sent (lines output)
    → HasShownARun program stop before now
run-shown program entries stop before now sent output r there is h sends =
    let u = unfold-all (begun_at program) entries r there in
    record {
      labels = u.0;
      last = r.state;
      runs = unfolds_all-run (begun_at program) entries u.0 r u.1;
      rests = (calm-replayed program entries r there).idle;
      heard = λ k.
          h.heard k
          ∙ ap (λ (calls : List (ℤ × ℤ)). and_more (told_at before.told k).heard (answered_all calls)) (calls-unfolded k (begun_at program) entries u.0 r u.1);
      written = λ unfailed.
          let whole = sent-whole stop sent (lines output) before.write_faults now.write_faults unfailed sends.goes in
          subst (λ (bytes : List ℕ). Appends before.written now.written bytes) (take_all sent (lines output) (omega (arith, whole)) ∙ sym (ap lines is))
          sends.first;
      in_part = record {
        front = take sent (lines output);
        rest = drop sent (lines output);
        split = ap lines is ∙ sym (take-append-drop sent (lines output));
        appended = sends.first;
      };
    }

pub shell-shown : {C V M : Type 0} (meaning : Meaning C V M) (opening : Opening C) (shell : ShellView C V M) → Simulates (parts_of meaning shell.core)
    → IsShell meaning opening shell → opening.base ≡ [] → HasShownARun (meaning.program opening.code) shell.core.stop opening.ends shell.ends
shell-shown {C} meaning opening shell stands h none =
    let base : shell.core.base ≡ [] = h.opened.base ∙ none in
    let program = meaning.program shell.core.code in
    subst (λ (c : C). HasShownARun (meaning.program c) shell.core.stop opening.ends shell.ends) h.opened.code
    (run-shown program shell.core.entries shell.core.stop opening.ends shell.ends shell.sent shell.core.output stands.r
    (sym (ap (λ (b : List Entry). replay program (b ++ shell.core.entries)) base) ∙ stands.stands.replayed) stands.stands.output
    (subst (λ (b : List Entry). HaveHeardSince program b shell.core.entries opening.ends.told shell.ends.told) base h.opened.heard) h.sends)
