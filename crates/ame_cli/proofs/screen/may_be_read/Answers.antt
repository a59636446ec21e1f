use Rattle.std.proofs.Common.{◌∙◌, string_bytes}
use Rattle.ame_cli.proofs.MatchLemmas.{screened}
use Rattle.ame_cli.proofs.screen.may_be_read.Goals as goal

pub returns-then-words-le-WORD_LIMIT : goal.returns-then-words-le-WORD_LIMIT
returns-then-words-le-WORD_LIMIT c = c.all_may_stand.ensures ∙ screened string_bytes c.args.words.now c.if-words-le-WORD_LIMIT.true
