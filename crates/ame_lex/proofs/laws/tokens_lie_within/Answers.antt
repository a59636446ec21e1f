use Rattle.ame_lex.proofs.Places.{ordered_tokens, tokens_within}
use Rattle.ame_lex.proofs.Spelling.{tokens_spell}
use Rattle.ame_lex.proofs.laws.tokens_lie_within.Goals as goal

pub returns-clause-within : goal.returns-clause-within
returns-clause-within c = tokens_within

pub returns-clause-in_order : goal.returns-clause-in_order
returns-clause-in_order c = ordered_tokens

pub returns-clause-spelled : goal.returns-clause-spelled
returns-clause-spelled c = tokens_spell
