use Rattle.std.proofs.Common.{ℕ, List, inr, refl, subst}
use Rattle.std.specs.Io.KnownBytes.{Appends}
use Rattle.ame_io.specs.Counts.{HasRisen}
use Rattle.ame_io.specs.Writes.{AppendsFront}
use Rattle.ame_io.proofs.WritesLemmas.{AppendsFront-after, AppendsFront-longer}
use Rattle.ame_app.specs.Verbs.{written_behind}
use Rattle.ame_app.specs.Verdict.{verdict}
use Rattle.ame_app.proofs.speak.speak_of.Goals as goal

pub returns-in-Err : goal.returns-in-Err
returns-in-Err g c =
    let written = g.K.Sink.written in
    let whole = subst (λ (l : List ℕ). Appends (written c.args.sink.now) (written c.write_line.new.sink) l) c.line.ensures c.in-Ok.ensures.whole in
    inr (record {
      is = refl;
      appended = AppendsFront-after (written c.args.sink.now) (written c.write_line.new.sink) (written c.write_behind.new.sink)
          (verdict c.args.told) (written_behind c.args.command.now c.args.left.now c.args.told) whole c.in-Err.ensures.front;
      risen = subst (λ (n : ℕ). HasRisen n (g.K.Sink.faults c.write_behind.new.sink)) c.in-Ok.ensures.stayed c.in-Err.ensures.risen;
    })

pub returns-in_default : goal.returns-in_default
returns-in_default g c =
    let written = g.K.Sink.written in
    inr (record {
      is = refl;
      appended = AppendsFront-longer (written c.args.sink.now) (written c.write_line.new.sink) (verdict c.args.told)
          (written_behind c.args.command.now c.args.left.now c.args.told)
          (subst (λ (l : List ℕ). AppendsFront (written c.args.sink.now) (written c.write_line.new.sink) l) c.line.ensures c.in_default.ensures.front);
      risen = c.in_default.ensures.risen;
    })
