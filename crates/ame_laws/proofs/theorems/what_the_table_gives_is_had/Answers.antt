use Rattle.ame_laws.proofs.Sound.{sound}
use Rattle.ame_laws.proofs.theorems.what_the_table_gives_is_had.Goals as goal

pub returns : goal.returns
returns c = λ devices cells places g q i e t h. sound devices cells places g q i e t h
