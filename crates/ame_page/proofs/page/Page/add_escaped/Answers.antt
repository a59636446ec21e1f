use Rattle.ame_page.proofs.EscapeLemmas.{has_no_mark, tells}
use Rattle.ame_page.proofs.page.Page.add_escaped.Goals as goal

pub returns-clause-bare : goal.returns-clause-bare
returns-clause-bare c = has_no_mark c.args.text.now

pub returns-clause-one : goal.returns-clause-one
returns-clause-one c = tells c.args.text.now

pub returns-in_err-add_escaped_byte-clause-bare : goal.returns-in_err-add_escaped_byte-clause-bare
returns-in_err-add_escaped_byte-clause-bare c = has_no_mark c.args.text.now

pub returns-in_err-add_escaped_byte-clause-one : goal.returns-in_err-add_escaped_byte-clause-one
returns-in_err-add_escaped_byte-clause-one c = tells c.args.text.now
