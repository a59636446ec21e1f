use Rattle.std.proofs.Common.{sym}
use Rattle.ame_machine_cases.proofs.lone.Lone.serve.Goals as goal

pub serve_want-requires-clause-told : goal.serve_want-requires-clause-told
serve_want-requires-clause-told c = sym (c.in-Some.ensures.want c.args.code.now)
