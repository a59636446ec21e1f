use Rattle.std.proofs.lemmas.Option.{slice_get-map}
use Rattle.ame_rows.specs.LettingGo.{released_by}
use Rattle.ame_rows.proofs.CommittedLemmas.{commit_owned, commit_others}
use Rattle.ame_rows.proofs.theorems.releases_commit.Goals as goal

pub returns : goal.returns
returns g c = record {
  cells = λ seat j c. slice_get-map (released_by seat) c.cells j;
  own = λ seat j cell c at its. commit_owned seat j c cell at its;
  others = λ seat j c kept within none. commit_others seat j c kept within none;
}
