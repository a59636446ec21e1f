use Rattle.std.proofs.Common.{◌≡◌, [], refl, sym, ap, ◌∙◌, subst}
use Rattle.std.specs.Arc.{arc_value}
use Rattle.ame_sim.specs.Questions.{questions, seats_of}
use Rattle.ame_sim.specs.Strategy.{PicksSeats}
use Rattle.ame_engine.specs.Ending.{End}
use Rattle.ame_protocol.specs.Event.Sound.{Sound}
use Rattle.ame_protocol.specs.Event.EngineState.{EngineState}
use Rattle.ame_protocol.proofs.Event.SoundLemmas.{sound-start}
use Rattle.ame_shell.specs.Shell.{Opening}
use Rattle.ame_sim.specs.Picks.{picks_of}
use Rattle.ame_sim.specs.Run.{IsPlaying}
use Rattle.ame_sim.proofs.EventLemmas.{picks-run}
use Rattle.ame_sim.proofs.PlayLemmas.{playing-none}
use Rattle.ame_sim.proofs.run.run_by_chooser.Goals as goal

pub returns-clause-over : goal.returns-clause-over
returns-clause-over g c =
    let opening : Opening _ = record {
      code = arc_value c.args.code;
      limits = c.args.limits;
      base = [];
      ends = c.args.io.ends;
    } in
    c.finish.ensures.over opening (c.unwind_all.ensures.keeps opening (c.play.ensures.keeps opening c.in-Ok-open.ensures.opens))

pub returns-clause-played : goal.returns-clause-played
returns-clause-played g c =
    let r = g.M.Runner.meaning in
    let first = c.in-Ok-open.crew in
    let starts = c.in-Ok-open.ensures.starts in
    let seats = first.core.limits.seats in
    let same : seats ≡ c.args.limits.seats = ap (λ (s : EngineState). s.parts.limits.seats) starts in
    let none = playing-none r seats first (ap (λ (s : EngineState). s.parts.turns) starts) (ap (λ (s : EngineState). s.parts.entries) starts) in
    let opening : Opening _ = record {
      code = arc_value c.args.code;
      limits = c.args.limits;
      base = [];
      ends = c.args.io.ends;
    } in
    let accepted = g.met.M.Runner.accepted (arc_value c.args.code) in
    let sound = sound-start (r.program opening.code) (r.signature opening.code) opening.limits accepted
    c.requires.limits.some_slice in
    let playing =
    subst (λ n. IsPlaying r n first c.play.new.crew c.play.new.book.mades.items) same
    (c.play.ensures.plays first (subst (IsPlaying r seats first first) (sym c.in-Ok.ensures.none) none)) in
    record {
      first = first;
      opened = c.in-Ok-open.ensures.opens;
      fresh = starts;
      now = c.play.new.crew;
      playing = playing;
      run =
          picks-run r opening c.play.new.book.mades.items first playing.last c.play.new.crew playing.plays starts (subst Sound (sym starts) sound) playing.ends;
      stopped = c.play.ensures.stopped;
      stop = ap (λ (e : End _). e.stop) c.finish.ensures.told ∙ c.unwind_all.ensures.unwound.stop;
      turns = ap (λ (e : End _). e.turns) c.finish.ensures.told ∙ c.unwind_all.ensures.unwound.turns;
      entries = ap (λ (e : End _). e.entries) c.finish.ensures.told ∙ c.unwind_all.ensures.unwound.entries;
      output = ap (λ (e : End _). e.output) c.finish.ensures.told ∙ c.unwind_all.ensures.unwound.output;
    }

pub returns-clause-answers : goal.returns-clause-answers
returns-clause-answers g c =
    let before = g.H.Chooser.strategy c.args.chooser.now in
    let after = g.H.Chooser.strategy c.play.new.chooser in
    let seats = c.in-Ok-open.crew.core.limits.seats in
    let same : seats ≡ c.args.limits.seats = ap (λ (s : EngineState). s.parts.limits.seats) c.in-Ok-open.ensures.starts in
    let none = subst (λ mades. PicksSeats before (questions seats (picks_of mades)) (seats_of (picks_of mades)) before) (sym c.in-Ok.ensures.none) (λ rest. refl) in
    let picked = picks_of c.play.new.book.mades.items in
    subst (λ n. PicksSeats before (questions n picked) (seats_of picked) after) same (c.play.ensures.answers before none)
