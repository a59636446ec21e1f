use Rattle.std.proofs.Common.{length}
use Rattle.ame_lex.proofs.ScanLemmas.{IsSoFar}
use Rattle.ame_lex.proofs.lexer.scan.Given as goal

abbrev pub invariant-loop-rest : goal.invariant-loop-rest
invariant-loop-rest l = IsSoFar l.text l.tokens.items l.rest

abbrev pub decreases-loop-rest : goal.decreases-loop-rest
decreases-loop-rest l = length l.rest
