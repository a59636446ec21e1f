use Rattle.ame_rows.proofs.CommittedLemmas.{put_here, put_elsewhere, born_here, born_elsewhere}
use Rattle.ame_rows.proofs.theorems.unprotected_code_commits.Goals as goal

pub returns : goal.returns
returns g c = record {
  put = λ j value cell c at free live. put_here j value c cell at free live;
  put_others = λ l j value c n. put_elsewhere l j value c n;
  born = λ sort ty value c. born_here sort ty value c;
  born_others = λ j sort ty value c n. born_elsewhere sort ty value j c n;
}
