use Rattle.std.proofs.Common.{ap, refl}
use Rattle.std.specs.Arc.{arc_value}
use Rattle.ame_journal.specs.declared.entry.EntryKind.{EntryKind}
use Rattle.ame_rows.specs.MemoryView.{Log}
use Rattle.ame_protocol.specs.declared.types.UndoReason.{UndoReason}
use Rattle.ame_protocol.specs.declared.types.Task.{Task}
use Rattle.ame_protocol.specs.Engine.Parts.{attempt_of}
use Rattle.ame_engine.proofs.PlaceLemmas.{places-told}
use Rattle.ame_engine.proofs.BlockLemmas.{block-runs, block-busy, note-fit, whole-noted, makes-noted}
use Rattle.ame_engine.proofs.engine.Engine.block_valid.Goals as goal

pub note-requires : goal.note-requires
note-requires g c =
    block-busy g.M.Runner.meaning
    _ c.args.self.now c.self.view_is c.self.invariant.whole c.args.seat c.args.at.now c.requires.on c.requires.blocks.outside
    (g.met.M.Runner.sound c.args.self.now.code c.args.at.now c.requires.on.machine) c.requires.left c.args.attempt c.requires.task c.requires.valid

pub push-requires-clause-fit : goal.push-requires-clause-fit
push-requires-clause-fit g c =
    note-fit g.M.Runner.meaning
    _ c.args.self.now c.self.view_is c.self.invariant.whole c.args.seat c.args.at.now c.requires.on c.requires.blocks.outside
    (g.met.M.Runner.sound c.args.self.now.code c.args.at.now c.requires.on.machine) c.requires.left c.args.attempt c.requires.task c.requires.valid
    EntryKind.Stuck c.in_ok-entry.entry (c.in_ok-entry.ensures (arc_value c.self.inside.code))

pub invariant_of-self-2 : goal.invariant_of-self-2
invariant_of-self-2 g c =
    let is = block-runs g.M.Runner.meaning
    _ c.args.self.now c.self.view_is c.self.invariant.whole c.args.seat c.args.at.now c.requires.on c.requires.blocks.outside
    (g.met.M.Runner.sound c.args.self.now.code c.args.at.now c.requires.on.machine) c.requires.left c.args.attempt c.requires.task c.requires.valid in
    record {
      whole = whole-noted g.M.Runner.meaning
          _ c.args.self.now c.self.view_is c.self.invariant.whole c.args.seat c.args.at.now c.requires.on c.requires.blocks.outside
          (g.met.M.Runner.sound c.args.self.now.code c.args.at.now c.requires.on.machine) c.requires.left c.args.attempt c.requires.task c.requires.valid
          c.requires.blocks.wants c.requires.going
          c.in_ok-entry.entry (c.in_ok-entry.ensures (arc_value c.self.inside.code)) _ c.reads.result.now c.reads.ensures (ap (λ (n : Log _). n.reads) c.row.ensures)
          c.in_ok-locs.locs.items c.in_ok-locs.ensures _ c.push.new.self.entries c.room.ensures.entries c.push.ensures.entries
          c.note.new.self c.in_ok-note.ensures.ok c.told.result c.told.ensures;
      places = places-told c.self.inside.tasks.items c.args.seat _ _ c.args.attempt (ap attempt_of is) c.self.invariant.places
          (Task.Undoing c.told.result UndoReason.Noted) c.told.result refl (ap (λ a. a.logged) c.told.ensures);
    }

pub returns-clause-noted : goal.returns-clause-noted
returns-clause-noted g c =
    makes-noted g.M.Runner.meaning
    _ c.args.self.now c.self.view_is c.self.invariant.whole c.args.seat c.args.at.now c.requires.on c.requires.blocks.outside
    (g.met.M.Runner.sound c.args.self.now.code c.args.at.now c.requires.on.machine) c.requires.left c.args.attempt c.requires.task c.requires.valid
    c.requires.blocks.wants c.requires.going
    c.in_ok-entry.entry (c.in_ok-entry.ensures (arc_value c.self.inside.code)) _ c.reads.result.now c.reads.ensures (ap (λ (n : Log _). n.reads) c.row.ensures)
    c.in_ok-locs.locs.items c.in_ok-locs.ensures _ c.push.new.self.entries c.room.ensures.entries c.push.ensures.entries
    c.note.new.self c.in_ok-note.ensures.ok c.told.result c.told.ensures
