use Rattle.std.proofs.Common.{◌≡◌, ap, subst, sym, arith, true}
use Rattle.std.specs.Arc.{arc_value}
use Rattle.ame_protocol.specs.Engine.Parts.{attempt_of}
use Rattle.ame_engine.specs.Committing.{commits}
use Rattle.ame_engine.proofs.PlaceLemmas.{places-freed}
use Rattle.ame_engine.proofs.CommitLemmas.{commit-runs, commit-fit, commit-grows, commit-fresh, commit-room, commit-busy, whole-committed, makes-ended, makes-left}
use Rattle.ame_engine.proofs.engine.Engine.commit_valid.Goals as goal

pub release_all-requires-clause-can_grow : goal.release_all-requires-clause-can_grow
release_all-requires-clause-can_grow g c =
    commit-grows g.M.Runner.meaning
    _ c.args.self.now c.self.view_is c.self.invariant.whole c.args.seat c.args.at c.requires.on c.requires.commits.outside
    (g.met.M.Runner.sound c.args.self.now.code c.args.at c.requires.on.machine) c.requires.left c.args.attempt c.requires.task c.requires.valid

pub append-requires-clause-fit : goal.append-requires-clause-fit
append-requires-clause-fit g c =
    commit-fit g.M.Runner.meaning
    _ c.args.self.now c.self.view_is c.self.invariant.whole c.args.seat c.args.at c.requires.on c.requires.commits.outside
    (g.met.M.Runner.sound c.args.self.now.code c.args.at c.requires.on.machine) c.requires.left c.args.attempt c.requires.task c.requires.valid
    c.in_ok-draft.draft.entry (c.in_ok-draft.ensures.entry (arc_value c.self.inside.code))

pub join_all-requires-clause-room : goal.join_all-requires-clause-room
join_all-requires-clause-room g c =
    let room = commit-room g.M.Runner.meaning
    _ c.args.self.now c.self.view_is c.self.invariant.whole c.args.seat c.args.at c.requires.on c.requires.commits.outside
    (g.met.M.Runner.sound c.args.self.now.code c.args.at c.requires.on.machine) c.requires.left c.args.attempt c.requires.task c.requires.valid
    c.in_ok-owned.owned.items c.in_ok-owned.ensures
    c.spawns.result (c.spawns.ensures (arc_value c.self.inside.code)) c.make_places.new.pool c.wake_all.new.pool c.in_ok-next.ensures.places
    c.as_slice.result.now c.as_slice.ensures.value c.wake_all.ensures in
    let next = c.in_ok-next.ensures.number in omega (arith, room, next)

pub join_all-requires-clause-fresh : goal.join_all-requires-clause-fresh
join_all-requires-clause-fresh g c =
    commit-fresh g.M.Runner.meaning
    _ c.args.self.now c.self.view_is c.self.invariant.whole c.args.seat c.args.at c.requires.on c.requires.commits.outside
    (g.met.M.Runner.sound c.args.self.now.code c.args.at c.requires.on.machine) c.requires.left c.args.attempt c.requires.task c.requires.valid
    c.in_ok-owned.owned.items c.in_ok-owned.ensures
    c.spawns.result (c.spawns.ensures (arc_value c.self.inside.code)) c.make_places.new.pool c.wake_all.new.pool c.in_ok-next.ensures.places
    c.as_slice.result.now c.as_slice.ensures.value c.wake_all.ensures

pub send_on-requires : goal.send_on-requires
send_on-requires g c =
    commit-busy g.M.Runner.meaning
    _ c.args.self.now c.self.view_is c.self.invariant.whole c.args.seat c.args.at c.requires.on c.requires.commits.outside
    (g.met.M.Runner.sound c.args.self.now.code c.args.at c.requires.on.machine) c.requires.left c.args.attempt c.requires.task c.requires.valid
    c.in_ok-owned.owned.items c.in_ok-owned.ensures
    c.spawns.result (c.spawns.ensures (arc_value c.self.inside.code)) c.make_places.new.pool c.wake_all.new.pool c.in_ok-next.ensures.places
    c.as_slice.result.now c.as_slice.ensures.value c.wake_all.ensures
    c.join_all.new.pool (c.join_all.ensures.pool (arc_value c.self.inside.code))

pub invariant_of-self-2 : goal.invariant_of-self-2
invariant_of-self-2 g c =
    let is = commit-runs g.M.Runner.meaning
    _ c.args.self.now c.self.view_is c.self.invariant.whole c.args.seat c.args.at c.requires.on c.requires.commits.outside
    (g.met.M.Runner.sound c.args.self.now.code c.args.at c.requires.on.machine) c.requires.left c.args.attempt c.requires.task c.requires.valid in
    let committing : commits (g.M.Runner.meaning.stage (arc_value c.self.inside.code) c.args.at).want ≡ true =
    subst (λ x. commits (g.M.Runner.meaning.stage x.code c.args.at).want ≡ true) (sym c.self.view_is) c.requires.commits.wants in
    record {
      whole = whole-committed g.M.Runner.meaning
          _ c.args.self.now c.self.view_is c.self.invariant.whole c.args.seat c.args.at c.requires.on c.requires.commits.outside
          (g.met.M.Runner.sound c.args.self.now.code c.args.at c.requires.on.machine) c.requires.left c.args.attempt c.requires.task c.requires.valid
          c.in_ok-owned.owned.items c.in_ok-owned.ensures
          c.spawns.result (c.spawns.ensures (arc_value c.self.inside.code)) c.make_places.new.pool c.wake_all.new.pool c.in_ok-next.ensures.places
          c.as_slice.result.now c.as_slice.ensures.value c.wake_all.ensures
          c.join_all.new.pool (c.join_all.ensures.pool (arc_value c.self.inside.code))
          c.join_all.new.at c.send_on.new.pool (c.join_all.ensures.stage (arc_value c.self.inside.code)) (c.send_on.ensures.ended (arc_value c.self.inside.code))
          (c.send_on.ensures.left (arc_value c.self.inside.code)) (c.join_all.ensures.machine (arc_value c.self.inside.code))
          (c.join_all.ensures.rests (arc_value c.self.inside.code)) (c.send_on.ensures.rests (arc_value c.self.inside.code))
          c.release_all.new.self c.release_all.ensures
          c.draft.new.self.output.items c.append.new.self.output.items c.prints.result.now (c.prints.ensures (arc_value c.self.inside.code))
          c.in_ok-draft.ensures.output c.append.ensures.output
          c.draft.new.self.text.items c.append.new.self.text.items c.in_ok-draft.draft.lines.items (c.in_ok-draft.ensures.lines (arc_value c.self.inside.code))
          c.in_ok-draft.ensures.text c.append.ensures.text
          c.draft.new.self.journal.entries c.append.new.self.journal.entries c.in_ok-draft.draft.entry (c.in_ok-draft.ensures.entry (arc_value c.self.inside.code))
          c.in_ok-draft.ensures.journal c.append.ensures.journal c.in_ok-next.next c.in_ok-next.ensures.number committing c.requires.going;
      places = places-freed c.self.inside.tasks.items c.args.seat _ _ c.args.attempt (ap attempt_of is) c.self.invariant.places;
    }

pub returns-clause-ended : goal.returns-clause-ended
returns-clause-ended g c =
    makes-ended g.M.Runner.meaning
    _ c.args.self.now c.self.view_is c.self.invariant.whole c.args.seat c.args.at c.requires.on c.requires.commits.outside
    (g.met.M.Runner.sound c.args.self.now.code c.args.at c.requires.on.machine) c.requires.left c.args.attempt c.requires.task c.requires.valid
    c.in_ok-owned.owned.items c.in_ok-owned.ensures
    c.spawns.result (c.spawns.ensures (arc_value c.self.inside.code)) c.make_places.new.pool c.wake_all.new.pool c.in_ok-next.ensures.places
    c.as_slice.result.now c.as_slice.ensures.value c.wake_all.ensures
    c.join_all.new.pool (c.join_all.ensures.pool (arc_value c.self.inside.code))
    c.join_all.new.at c.send_on.new.pool (c.join_all.ensures.stage (arc_value c.self.inside.code)) (c.send_on.ensures.ended (arc_value c.self.inside.code))
    (c.send_on.ensures.left (arc_value c.self.inside.code)) (c.join_all.ensures.machine (arc_value c.self.inside.code))
    (c.join_all.ensures.rests (arc_value c.self.inside.code)) (c.send_on.ensures.rests (arc_value c.self.inside.code))
    c.release_all.new.self c.release_all.ensures
    c.draft.new.self.output.items c.append.new.self.output.items c.prints.result.now (c.prints.ensures (arc_value c.self.inside.code))
    c.in_ok-draft.ensures.output c.append.ensures.output
    c.draft.new.self.text.items c.append.new.self.text.items c.in_ok-draft.draft.lines.items (c.in_ok-draft.ensures.lines (arc_value c.self.inside.code))
    c.in_ok-draft.ensures.text c.append.ensures.text
    c.draft.new.self.journal.entries c.append.new.self.journal.entries c.in_ok-draft.draft.entry (c.in_ok-draft.ensures.entry (arc_value c.self.inside.code))
    c.in_ok-draft.ensures.journal c.append.ensures.journal c.in_ok-next.next c.in_ok-next.ensures.number c.requires.going

pub returns-clause-left : goal.returns-clause-left
returns-clause-left g c =
    makes-left g.M.Runner.meaning
    _ c.args.self.now c.self.view_is c.self.invariant.whole c.args.seat c.args.at c.requires.on c.requires.commits.outside
    (g.met.M.Runner.sound c.args.self.now.code c.args.at c.requires.on.machine) c.requires.left c.args.attempt c.requires.task c.requires.valid
    c.in_ok-owned.owned.items c.in_ok-owned.ensures
    c.spawns.result (c.spawns.ensures (arc_value c.self.inside.code)) c.make_places.new.pool c.wake_all.new.pool c.in_ok-next.ensures.places
    c.as_slice.result.now c.as_slice.ensures.value c.wake_all.ensures
    c.join_all.new.pool (c.join_all.ensures.pool (arc_value c.self.inside.code))
    c.join_all.new.at c.send_on.new.pool (c.join_all.ensures.stage (arc_value c.self.inside.code)) (c.send_on.ensures.ended (arc_value c.self.inside.code))
    (c.send_on.ensures.left (arc_value c.self.inside.code)) (c.join_all.ensures.machine (arc_value c.self.inside.code))
    (c.join_all.ensures.rests (arc_value c.self.inside.code)) (c.send_on.ensures.rests (arc_value c.self.inside.code))
    c.release_all.new.self c.release_all.ensures
    c.draft.new.self.output.items c.append.new.self.output.items c.prints.result.now (c.prints.ensures (arc_value c.self.inside.code))
    c.in_ok-draft.ensures.output c.append.ensures.output
    c.draft.new.self.text.items c.append.new.self.text.items c.in_ok-draft.draft.lines.items (c.in_ok-draft.ensures.lines (arc_value c.self.inside.code))
    c.in_ok-draft.ensures.text c.append.ensures.text
    c.draft.new.self.journal.entries c.append.new.self.journal.entries c.in_ok-draft.draft.entry (c.in_ok-draft.ensures.entry (arc_value c.self.inside.code))
    c.in_ok-draft.ensures.journal c.append.ensures.journal c.in_ok-next.next c.in_ok-next.ensures.number c.requires.going
