use Rattle.std.proofs.Common.{refl}
use Rattle.std.specs.Arc.{arc_value}
use Rattle.ame_engine.proofs.PlaceLemmas.{places-told}
use Rattle.ame_engine.proofs.LastLemmas.{last-has, last-some, cut-fit, cut-told, whole-cut, makes-cut}
use Rattle.ame_engine.proofs.engine.Engine.cut.Goals as goal

pub attempt_at-number-requires : goal.attempt_at-number-requires
attempt_at-number-requires g c =
    last-some g.M.Runner.meaning
    _ c.args.self.now c.self.view_is c.self.invariant.whole c.args.seat c.args.at.now c.requires.on
    c.index-task.result.now c.index-task.ensures

pub push-requires-clause-fit : goal.push-requires-clause-fit
push-requires-clause-fit g c =
    cut-fit g.M.Runner.meaning
    _ c.args.self.now c.self.view_is c.self.invariant.whole c.args.seat c.args.at.now c.requires.on
    c.requires.valid c.requires.going c.requires.used_up
    c.index-task.result.now c.index-task.ensures c.attempt_at-number.result c.attempt_at-number.ensures
    c.in_ok-entry.entry (c.in_ok-entry.ensures (arc_value c.self.inside.code))

pub invariant_of-self-2 : goal.invariant_of-self-2
invariant_of-self-2 g c = record {
  whole = whole-cut g.M.Runner.meaning
      _ c.args.self.now c.self.view_is c.self.invariant.whole c.args.seat c.args.at.now c.requires.on
      c.requires.valid c.requires.going c.requires.used_up
      c.index-task.result.now c.index-task.ensures c.attempt_at-number.result c.attempt_at-number.ensures
      c.in_ok-entry.entry (c.in_ok-entry.ensures (arc_value c.self.inside.code)) _ c.push.new.self.entries c.room.ensures.entries c.push.ensures.entries
      c.told_task.result c.told_task.ensures;
  places = places-told c.self.inside.tasks.items c.args.seat _ _ _
      (last-has g.M.Runner.meaning
      _ c.args.self.now c.self.view_is c.self.invariant.whole c.args.seat c.args.at.now c.requires.on)
      c.self.invariant.places c.told_task.result _
      (cut-told g.M.Runner.meaning
      _ c.args.self.now c.self.view_is c.self.invariant.whole c.args.seat c.args.at.now c.requires.on
      c.requires.valid c.requires.going c.requires.used_up
      c.index-task.result.now c.index-task.ensures c.attempt_at-number.result c.attempt_at-number.ensures
      c.in_ok-entry.entry (c.in_ok-entry.ensures (arc_value c.self.inside.code)) _ c.push.new.self.entries c.room.ensures.entries c.push.ensures.entries
      c.told_task.result c.told_task.ensures) refl;
}

pub returns-clause-cut : goal.returns-clause-cut
returns-clause-cut g c =
    makes-cut g.M.Runner.meaning
    _ c.args.self.now c.self.view_is c.self.invariant.whole c.args.seat c.args.at.now c.requires.on
    c.requires.valid c.requires.going c.requires.used_up
    c.index-task.result.now c.index-task.ensures c.attempt_at-number.result c.attempt_at-number.ensures
    c.in_ok-entry.entry (c.in_ok-entry.ensures (arc_value c.self.inside.code)) _ c.push.new.self.entries c.room.ensures.entries c.push.ensures.entries
    c.told_task.result c.told_task.ensures
