-- The places of the last notes among the entries so far.
use Rattle.ame_engine.proofs.BlockedLemmas.{ArePlaces}
use Rattle.ame_engine.proofs.engine.blocked.note_places.Given as goal

abbrev pub invariant-loop-i : goal.invariant-loop-i
invariant-loop-i l = ArePlaces l.entries l.count l.i l.places.items
