use Rattle.ame_types.proofs.check_state.Checker.held.Goals as goal

pub returns-clause-listed : goal.returns-clause-listed
returns-clause-listed c = (c.requires.listed, c.constant.ensures.listed _)
