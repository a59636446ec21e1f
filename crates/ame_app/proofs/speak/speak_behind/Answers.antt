use Rattle.std.proofs.Common.{ℕ, List, inr, refl, subst}
use Rattle.ame_io.specs.Counts.{HasRisen}
use Rattle.ame_io.specs.Writes.{AppendsFront}
use Rattle.ame_io.proofs.WritesLemmas.{AppendsFront-after, AppendsFront-longer}
use Rattle.ame_app.specs.Verdict.{verdict}
use Rattle.ame_app.proofs.speak.speak_behind.Goals as goal

pub returns-in-Err : goal.returns-in-Err
returns-in-Err g c =
    let written = g.K.Sink.written in
    let front = subst (λ (l : List ℕ). AppendsFront (written c.write_all.new.sink) (written c.write_line.new.sink) l) c.line.ensures c.in-Err.ensures.front in
    inr (record {
      is = refl;
      appended = AppendsFront-after (written c.args.sink.now) (written c.write_all.new.sink) (written c.write_line.new.sink)
          c.args.ahead.now (verdict c.args.told) c.in-Ok.ensures.whole front;
      risen = subst (λ (n : ℕ). HasRisen n (g.K.Sink.faults c.write_line.new.sink)) c.in-Ok.ensures.stayed c.in-Err.ensures.risen;
    })

pub returns-in_default : goal.returns-in_default
returns-in_default g c =
    inr (record {
      is = refl;
      appended = AppendsFront-longer (g.K.Sink.written c.args.sink.now) (g.K.Sink.written c.write_all.new.sink) c.args.ahead.now (verdict c.args.told) c.in_default.ensures.front;
      risen = c.in_default.ensures.risen;
    })
