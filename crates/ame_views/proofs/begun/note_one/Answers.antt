use Rattle.std.proofs.Common.{sym}
use Rattle.ame_views.proofs.BegunLemmas.{notes-begin, notes-more, keeps-itself, keeps-one, notes-one}
use Rattle.ame_views.proofs.begun.note_one.Goals as goal

pub returns-in_ok-insert-in-Some-clause-begun : goal.returns-in_ok-insert-in-Some-clause-begun
returns-in_ok-insert-in-Some-clause-begun c =
    notes-more c.args.replay.now.members.entries c.args.begun.now.entries c.args.number c.in-Some.node c.args.begun.now.entries c.insert.new.self.entries c.in-Some.ensures.seen
    (notes-begin c.args.replay.now.members.entries c.args.begun.now.entries) c.in_ok-insert-in-Some.ensures.entries

pub returns-in_ok-insert-in-Some-clause-keeps : goal.returns-in_ok-insert-in-Some-clause-keeps
returns-in_ok-insert-in-Some-clause-keeps c =
    keeps-one c.args.number c.in-Some.node c.args.begun.now.entries c.insert.new.self.entries c.in_ok-insert-in-Some.ensures.entries

pub returns-in_ok-insert-in-Some-clause-noted : goal.returns-in_ok-insert-in-Some-clause-noted
returns-in_ok-insert-in-Some-clause-noted c =
    notes-one c.args.number c.in-Some.node c.args.begun.now.entries c.insert.new.self.entries c.in_ok-insert-in-Some.ensures.entries c.args.replay.now.members.entries

pub returns-in-None-clause-begun : goal.returns-in-None-clause-begun
returns-in-None-clause-begun c = notes-begin c.args.replay.now.members.entries c.args.begun.now.entries

pub returns-in-None-clause-keeps : goal.returns-in-None-clause-keeps
returns-in-None-clause-keeps c = keeps-itself c.args.begun.now.entries

pub returns-in-None-clause-noted : goal.returns-in-None-clause-noted
returns-in-None-clause-noted c = λ none. sym c.in-None.ensures.value
