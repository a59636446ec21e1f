use Rattle.std.proofs.Common.{None, arith}
use Rattle.std.specs.Arc.{arc_value}
use Rattle.ame_engine.proofs.PlaceLemmas.{places-freed}
use Rattle.ame_engine.proofs.VisitEndLemmas.{end-task, end-fit, end-fresh, end-room, end-busy, whole-visited, makes-visited}
use Rattle.ame_engine.proofs.engine.Engine.end_visit.Goals as goal

pub append-requires-clause-fit : goal.append-requires-clause-fit
append-requires-clause-fit g c =
    end-fit g.M.Runner.meaning
    _ c.args.self.now c.self.view_is c.self.invariant.whole c.args.seat c.args.attempt c.requires.task c.requires.left
    c.in_ok-draft.draft.entry c.args.at (c.in_ok-draft.ensures.entry (arc_value c.self.inside.code))

pub join_all-requires-clause-room : goal.join_all-requires-clause-room
join_all-requires-clause-room g c =
    let room = end-room g.M.Runner.meaning
    _ c.args.self.now c.self.view_is c.self.invariant.whole c.args.seat c.args.attempt c.requires.task c.requires.left
    c.args.at None c.args.change c.requires.visit
    c.spawns.result (c.spawns.ensures (arc_value c.self.inside.code)) c.make_places.new.pool c.in_ok-next.ensures.places in
    let next = c.in_ok-next.ensures.number in omega (arith, room, next)

pub join_all-requires-clause-fresh : goal.join_all-requires-clause-fresh
join_all-requires-clause-fresh g c =
    end-fresh g.M.Runner.meaning
    _ c.args.self.now c.self.view_is c.self.invariant.whole c.args.seat c.args.attempt c.requires.task c.requires.left
    c.args.at None c.args.change c.requires.visit
    c.spawns.result (c.spawns.ensures (arc_value c.self.inside.code)) c.make_places.new.pool c.in_ok-next.ensures.places

pub send_home-requires : goal.send_home-requires
send_home-requires g c =
    end-busy g.M.Runner.meaning
    _ c.args.self.now c.self.view_is c.self.invariant.whole c.args.seat c.args.attempt c.requires.task c.requires.left
    c.args.at None c.args.change c.requires.visit
    c.spawns.result (c.spawns.ensures (arc_value c.self.inside.code)) c.make_places.new.pool c.in_ok-next.ensures.places
    c.join_all.new.pool (c.join_all.ensures.pool (arc_value c.self.inside.code))

pub invariant_of-self-2 : goal.invariant_of-self-2
invariant_of-self-2 g c =
    record {
      whole = whole-visited g.M.Runner.meaning
          _ c.args.self.now c.self.view_is c.self.invariant.whole c.args.seat c.args.attempt c.requires.task c.requires.left
          c.args.at None c.args.change c.requires.visit
          c.spawns.result (c.spawns.ensures (arc_value c.self.inside.code)) c.make_places.new.pool c.in_ok-next.ensures.places
          c.join_all.new.pool (c.join_all.ensures.pool (arc_value c.self.inside.code))
          c.join_all.new.at c.send_home.new.pool (c.join_all.ensures.stage (arc_value c.self.inside.code)) (c.send_home.ensures.shown (arc_value c.self.inside.code))
          c.requires.machine c.requires.settles (c.join_all.ensures.machine (arc_value c.self.inside.code)) (c.join_all.ensures.rests (arc_value c.self.inside.code))
          (c.send_home.ensures.rests (arc_value c.self.inside.code))
          c.change_memory.new.memory c.in_ok-change_memory.ensures.ok c.requires.good
          c.draft.new.self.output.items c.append.new.self.output.items c.prints.result.now (c.prints.ensures (arc_value c.self.inside.code))
          c.in_ok-draft.ensures.output c.append.ensures.output
          c.draft.new.self.text.items c.append.new.self.text.items c.in_ok-draft.draft.lines.items (c.in_ok-draft.ensures.lines (arc_value c.self.inside.code))
          c.in_ok-draft.ensures.text c.append.ensures.text
          c.draft.new.self.journal.entries c.append.new.self.journal.entries c.in_ok-draft.draft.entry (c.in_ok-draft.ensures.entry (arc_value c.self.inside.code))
          c.in_ok-draft.ensures.journal c.append.ensures.journal c.in_ok-next.next c.in_ok-next.ensures.number c.requires.going c.requires.low;
      places = places-freed c.self.inside.tasks.items c.args.seat _ _ c.args.attempt (end-task g.M.Runner.meaning
          _ c.args.self.now c.self.view_is c.self.invariant.whole c.args.seat c.args.attempt c.requires.task c.requires.left) c.self.invariant.places;
    }

pub returns-clause-event : goal.returns-clause-event
returns-clause-event g c =
    makes-visited g.M.Runner.meaning
    _ c.args.self.now c.self.view_is c.self.invariant.whole c.args.seat c.args.attempt c.requires.task c.requires.left
    c.args.at None c.args.change c.requires.visit
    c.spawns.result (c.spawns.ensures (arc_value c.self.inside.code)) c.make_places.new.pool c.in_ok-next.ensures.places
    c.join_all.new.pool (c.join_all.ensures.pool (arc_value c.self.inside.code))
    c.join_all.new.at c.send_home.new.pool (c.join_all.ensures.stage (arc_value c.self.inside.code)) (c.send_home.ensures.shown (arc_value c.self.inside.code))
    c.requires.machine c.requires.settles (c.join_all.ensures.machine (arc_value c.self.inside.code)) (c.join_all.ensures.rests (arc_value c.self.inside.code))
    (c.send_home.ensures.rests (arc_value c.self.inside.code))
    c.change_memory.new.memory c.in_ok-change_memory.ensures.ok c.requires.good
    c.draft.new.self.output.items c.append.new.self.output.items c.prints.result.now (c.prints.ensures (arc_value c.self.inside.code))
    c.in_ok-draft.ensures.output c.append.ensures.output
    c.draft.new.self.text.items c.append.new.self.text.items c.in_ok-draft.draft.lines.items (c.in_ok-draft.ensures.lines (arc_value c.self.inside.code))
    c.in_ok-draft.ensures.text c.append.ensures.text
    c.draft.new.self.journal.entries c.append.new.self.journal.entries c.in_ok-draft.draft.entry (c.in_ok-draft.ensures.entry (arc_value c.self.inside.code))
    c.in_ok-draft.ensures.journal c.append.ensures.journal c.in_ok-next.next c.in_ok-next.ensures.number c.requires.going c.requires.low
