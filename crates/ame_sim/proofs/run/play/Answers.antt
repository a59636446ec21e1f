use Rattle.std.proofs.Common.{◌≡◌, sym, ap, ◌∙◌, refl, subst}
use Rattle.ame_sim.specs.Questions.{who_waits}
use Rattle.ame_protocol.specs.declared.types.Limits.{Limits}
use Rattle.ame_engine.specs.Whole.{AreLimits}
use Rattle.ame_sim.specs.Picks.{picks_of, HasAnswered}
use Rattle.ame_sim.specs.Run.{IsPlaying}
use Rattle.ame_sim.proofs.PlayLemmas.{playing-lacks}
use Rattle.ame_sim.proofs.run.play.Goals as goal

pub loop-crew-preserved : goal.loop-crew-preserved
loop-crew-preserved g c =
    let was = c.loop-crew.invariant in
    let once = c.pick.ensures in
    let same : c.loop-crew.crew.core.limits.seats ≡ c.args.crew.now.core.limits.seats = ap (λ (l : Limits). l.seats) was.limits in
    record {
      ranges = subst AreLimits (sym once.limits) was.ranges;
      limits = once.limits ∙ was.limits;
      waits = once.waits ∙ ap (λ (l : Limits). who_waits l.seats (picks_of c.pick.new.book.mades.items)) (sym once.limits);
      rests = once.rests;
      plays = λ first h.
          subst (λ n. IsPlaying g.M.Runner.meaning n first c.pick.new.crew c.pick.new.book.mades.items) same
          (once.plays first (subst (λ n. IsPlaying g.M.Runner.meaning n first c.loop-crew.crew c.loop-crew.book.mades.items) (sym same) (was.plays first h)));
      answers = λ strategy h.
          subst (λ n. HasAnswered n (g.H.Chooser.strategy c.loop-crew.chooser) c.loop-crew.book.mades.items (g.H.Chooser.strategy c.pick.new.chooser)
          c.pick.new.book.mades.items) same once.answers strategy (was.answers strategy h);
      keeps = λ opening h. once.keeps opening (was.keeps opening h);
    }

pub returns-in_default-clause-plays : goal.returns-in_default-clause-plays
returns-in_default-clause-plays g c = λ first h.
    let was = c.loop-crew.invariant in
    let seats = c.args.crew.now.core.limits.seats in
    let same : c.loop-crew.crew.core.limits.seats ≡ seats = ap (λ (l : Limits). l.seats) was.limits in
    let on =
    subst (λ n. IsPlaying g.M.Runner.meaning n first c.pick.new.crew c.pick.new.book.mades.items) same
    (c.pick.ensures.plays first
    (subst (λ n. IsPlaying g.M.Runner.meaning n first c.loop-crew.crew c.loop-crew.book.mades.items) (sym same) (was.plays first h))) in
    subst (λ v. IsPlaying g.M.Runner.meaning seats first v c.pick.new.book.mades.items) (sym c.give_up.ensures.lacks)
    (playing-lacks g.M.Runner.meaning seats first c.pick.new.crew c.pick.new.book.mades.items on
    (ap (λ v. v.core.stop) c.in_default.ensures.stays ∙ c.loop-crew-test.ensures.going refl))

pub returns-in_default-clause-answers : goal.returns-in_default-clause-answers
returns-in_default-clause-answers g c = λ strategy h.
    let was = c.loop-crew.invariant in
    let same : c.loop-crew.crew.core.limits.seats ≡ c.args.crew.now.core.limits.seats = ap (λ (l : Limits). l.seats) was.limits in
    subst (λ n. HasAnswered n (g.H.Chooser.strategy c.loop-crew.chooser) c.loop-crew.book.mades.items (g.H.Chooser.strategy c.pick.new.chooser)
    c.pick.new.book.mades.items) same c.pick.ensures.answers strategy (was.answers strategy h)
