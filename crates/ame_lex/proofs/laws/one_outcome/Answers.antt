use Rattle.std.proofs.Common.{sym, ◌∙◌}
use Rattle.ame_lex.proofs.Completeness.{read_text}
use Rattle.ame_lex.proofs.laws.one_outcome.Goals as goal

pub returns : goal.returns
returns c text one other this that = sym (read_text text one this) ∙ read_text text other that
