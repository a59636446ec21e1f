-- A turn writes the signs of the next picks.
use Rattle.std.proofs.Common.{ℕ, List, ◌∙◌, arith, subst}
use Rattle.std.specs.Io.KnownBytes.{Appends}
use Rattle.ame_io.specs.Writes.{AppendsFront}
use Rattle.ame_app.proofs.PickLemmas.{on-err, signs-more, signs-front}
use Rattle.ame_app.proofs.verbs.sim.write_signs.Goals as goal

pub returns-in_err-write_all-clause-front : goal.returns-in_err-write_all-clause-front
returns-in_err-write_all-clause-front g c =
    on-err c.from_residual.result _
    (signs-front c.args.picks.now c.pieces.gone c.min-next.result (grind arith) _ _ _ c.pieces.invariant.appended
    (subst (λ (l : List ℕ). AppendsFront (g.K.Sink.written c.pieces.sink) (g.K.Sink.written c.write_all.new.sink) l)
    (c.as_slice.ensures.value ∙ c.signs_of-piece.ensures) c.in_err-write_all.ensures.front))

pub pieces-preserved : goal.pieces-preserved
pieces-preserved g c = record {
  within = grind arith;
  stayed = c.in_ok-write_all.ensures.stayed ∙ c.pieces.invariant.stayed;
  appended = signs-more c.args.picks.now c.pieces.gone c.min-next.result (grind arith) _ _ _ c.pieces.invariant.appended
      (subst (λ (l : List ℕ). Appends (g.K.Sink.written c.pieces.sink) (g.K.Sink.written c.write_all.new.sink) l)
      (c.as_slice.ensures.value ∙ c.signs_of-piece.ensures) c.in_ok-write_all.ensures.whole);
}
