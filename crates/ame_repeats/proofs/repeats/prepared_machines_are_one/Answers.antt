use Rattle.ame_repeats.proofs.HandLemmas.{hand-one}
use Rattle.ame_repeats.proofs.repeats.prepared_machines_are_one.Goals as goal

pub returns : goal.returns
returns c = hand-one
