use Rattle.ame_print.specs.Again.{source_text}
use Rattle.ame_print.proofs.Whole.{spelled_again}
use Rattle.ame_print.proofs.theorems.printed_is_read.Goals as goal

pub returns : goal.returns
returns c = λ text source read.
    let spelled = spelled_again text source ((c.spelled_is_read.ensures text source).1 read) in
    record { again = spelled.again; read = (c.spelled_is_read.ensures (source_text source) spelled.again).0 spelled.spells; names = spelled.names; tree = spelled.tree }
