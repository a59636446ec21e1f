use Rattle.std.proofs.Common.{sym, arith}
use Rattle.ame_parse.proofs.WordLemmas.{ten_bytes, eleven_bytes}
use Rattle.ame_parse.proofs.words.word_of.Goals as goal

pub returns-in_default-78 : goal.returns-in_default-78
returns-in_default-78 c = sym (ten_bytes c.args.spelling.now 1 (omega arith) (omega arith))

pub returns-in_default-79 : goal.returns-in_default-79
returns-in_default-79 c = sym (ten_bytes c.args.spelling.now 0 (omega arith) (omega arith))

pub returns-in_default-89 : goal.returns-in_default-89
returns-in_default-89 c = sym (eleven_bytes c.args.spelling.now 1 (omega arith) (omega arith))

pub returns-in_default-90 : goal.returns-in_default-90
returns-in_default-90 c = sym (eleven_bytes c.args.spelling.now 0 (omega arith) (omega arith))
