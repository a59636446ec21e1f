use Rattle.ame_protocol.proofs.Engine.ToldLemmas.{member-typed, place-typed}
use Rattle.ame_protocol.proofs.theorems.rows_are_typed.Goals as goal

pub returns-clause-member : goal.returns-clause-member
returns-clause-member c = member-typed

pub returns-clause-place : goal.returns-clause-place
returns-clause-place c = place-typed
