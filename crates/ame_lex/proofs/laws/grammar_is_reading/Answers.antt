use Rattle.std.proofs.Common.{subst}
use Rattle.ame_lex.specs.Grammar.{Lexes}
use Rattle.ame_lex.proofs.Completeness.{read_text}
use Rattle.ame_lex.proofs.Soundness.{lexes_text}
use Rattle.ame_lex.proofs.laws.grammar_is_reading.Goals as goal

pub returns : goal.returns
returns c text outcome = (read_text text outcome, λ e. subst (Lexes 0 text) e (lexes_text text))
