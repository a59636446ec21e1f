use Rattle.std.proofs.Common.{refl}
use Rattle.ame_term.specs.Height.{height}
use Rattle.ame_laws.proofs.HeightLemmas.{function_height, pair_height}
use Rattle.ame_laws.proofs.theorems.heights_are_of_what_is_held.Goals as goal

pub returns : goal.returns
unfolding height
returns c = record {
  unit = refl;
  bool = λ b. refl;
  int = λ n. refl;
  location = λ l. refl;
  function = function_height;
  pair = pair_height;
}
