use Rattle.std.proofs.Common.{◌++◌, ◌∙◌, ℕ, inl, inr, refl, subst}
use Rattle.std.proofs.KnownBytes.{Appends-trans}
use Rattle.ame_io.specs.Counts.{HasRisen}
use Rattle.ame_io.proofs.WritesLemmas.{AppendsFront-after, AppendsFront-longer}
use Rattle.ame_app.specs.Verbs.{written_behind}
use Rattle.ame_app.specs.Verdict.{verdict}
use Rattle.ame_app.proofs.speak.speak_weakly.Goals as goal

pub returns-in_default : goal.returns-in_default
returns-in_default g c =
    inr (record {
      is = refl;
      appended = AppendsFront-longer (g.K.Sink.written c.args.sink.now) (g.K.Sink.written c.write_all.new.sink) c.args.ahead.now
          (verdict c.args.told ++ written_behind c.args.command.now c.args.left.now c.args.told) c.in_default.ensures.front;
      risen = c.in_default.ensures.risen;
    })

pub returns : goal.returns
returns g c =
    let written = g.K.Sink.written in
    let text = verdict c.args.told ++ written_behind c.args.command.now c.args.left.now c.args.told in
    elim c.speak_of.ensures [
      | inl s ↦ inl (record {
        is = s.is;
        appended = Appends-trans (written c.args.sink.now) (written c.write_all.new.sink) (written c.speak_of.new.sink) c.args.ahead.now text
            c.in-Ok.ensures.whole s.appended;
        stayed = s.stayed ∙ c.in-Ok.ensures.stayed;
      })
      | inr cut ↦ inr (record {
        is = cut.is;
        appended = AppendsFront-after (written c.args.sink.now) (written c.write_all.new.sink) (written c.speak_of.new.sink) c.args.ahead.now text
            c.in-Ok.ensures.whole cut.appended;
        risen = subst (λ (n : ℕ). HasRisen n (g.K.Sink.faults c.speak_of.new.sink)) c.in-Ok.ensures.stayed cut.risen;
      })
    ]
