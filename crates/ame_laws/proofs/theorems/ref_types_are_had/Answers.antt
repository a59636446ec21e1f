use Rattle.ame_laws.proofs.RefsLemmas.{refs_had, refs_are}
use Rattle.ame_laws.proofs.theorems.ref_types_are_had.Goals as goal

pub returns : goal.returns
returns c = record {
  had = λ signature cells places g q i e t h. refs_had signature cells h places i;
  only = λ signature cells places g q i e ts h. refs_are signature cells h places i;
}
