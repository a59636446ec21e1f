use Rattle.std.proofs.Common.{ap, sym, ◌∙◌, Option}
use Rattle.std.specs.Option.{option_copied}
use Rattle.ame_journal.specs.declared.entry.Entry.{Entry}
use Rattle.ame_journal.specs.Replay.{or_else}
use Rattle.ame_protocol.specs.Waits.Waiting.{last_stuck}
use Rattle.ame_engine.proofs.BlockedLemmas.{last-append}
use Rattle.ame_engine.proofs.engine.blocked.last_note_of.Goals as goal

pub returns : goal.returns
returns c =
    c.later_note.ensures ∙ ap (λ (o : Option Entry). or_else o (option_copied c.last_note-2.result)) c.last_note.ensures
    ∙ ap (or_else (last_stuck c.args.number c.args.entries.now)) c.last_note-2.ensures
    ∙ sym (last-append c.args.number c.args.base.now c.args.entries.now)
