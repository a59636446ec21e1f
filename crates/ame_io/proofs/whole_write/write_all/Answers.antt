-- A turn appends the next bytes of the text.
use Rattle.std.proofs.Common.{arith}
use Rattle.std.proofs.KnownBytes.{Appends-kept}
use Rattle.std.proofs.lemmas.List.{take_rest}
use Rattle.ame_io.proofs.WritesLemmas.{Appends-take_more, AppendsFront-first}
use Rattle.ame_io.proofs.whole_write.write_all.Goals as goal

pub writes-preserved : goal.writes-preserved
writes-preserved g c = record {
  within = grind arith;
  stayed = grind arith;
  appended = Appends-take_more _ _ _ _ _ _ _ (take_rest c.args.bytes.now c.writes.gone) c.writes.invariant.appended c.in-Ok.ensures.bytes;
}

pub returns-in-Err-clause-front : goal.returns-in-Err-clause-front
returns-in-Err-clause-front g c = AppendsFront-first c.writes.gone _ _ _ (Appends-kept _ _ _ _ c.writes.invariant.appended c.in-Err.ensures.bytes)
