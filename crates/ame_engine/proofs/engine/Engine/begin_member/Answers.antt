use Rattle.std.proofs.Common.{◌≡◌, ◌+◌, ◌≤◌, ◌∙◌, ap, length, vec_len, vec_capacity, arith}
use Rattle.ame_pool.specs.Calls.{held}
use Rattle.ame_engine.proofs.BeginLemmas.{whole-roomy, whole-begun, has-begun-after}
use Rattle.ame_engine.proofs.PlaceLemmas.{places-roomy, places-begun}
use Rattle.ame_engine.proofs.engine.Engine.begin_member.Goals as goal

pub invariant_of-self : goal.invariant_of-self
invariant_of-self g c = record {
  whole = whole-roomy g.M.Runner.meaning
      _ c.self.invariant.whole c.reserve.new.self.items c.reserve.ensures.items;
  places = places-roomy c.self.inside.tasks.items _ _ _ _ c.reserve.ensures.len c.reserve.ensures.capacity c.self.invariant.places;
}

pub invariant_of-self-2 : goal.invariant_of-self-2
invariant_of-self-2 g c =
    let enough : vec_len c.reserve.new.self + length c.self.inside.tasks.items ≤ vec_capacity c.reserve.new.self =
    (let seats : length c.self.inside.tasks.items ≡ c.self.inside.limits.seats = c.self.invariant.whole.state.stands.bounded.tasks in
    let ok = c.in_ok-reserve.ensures.ok in omega arith) in
    record {
      whole = whole-begun g.M.Runner.meaning
          g.M.Copied.same g.met.M.Runner.same_machines g.met.M.Runner.stage_shown _ c.args.self.now c.self.view_is c.self.invariant.whole c.args.seat c.args.number
          c.requires.seat c.requires.idle c.requires.oldest c.requires.ready c.requires.left _ _ _ _ _ _
          c.begun_task.ensures c.in_ok-copy.ensures.inside c.attempt_now-attempt.ensures c.entries.ensures.entries c.entries-2.ensures.entries
          (c.begin.ensures ∙ ap (held c.args.number) c.in_ok-copy.ensures.pool) _ c.reserve.ensures.items c.requires.going;
      places = places-begun c.self.inside.tasks.items c.args.seat _ _ c.begun_task.result enough;
    }

pub returns-clause-begun : goal.returns-clause-begun
returns-clause-begun g c =
    has-begun-after g.M.Runner.meaning
    g.M.Copied.same g.met.M.Runner.same_machines g.met.M.Runner.stage_shown _ c.args.self.now c.self.view_is c.self.invariant.whole c.args.seat c.args.number
    c.requires.seat c.requires.idle c.requires.oldest c.requires.ready c.requires.left _ _ _ _ _ _
    c.begun_task.ensures c.in_ok-copy.ensures.inside c.attempt_now-attempt.ensures c.entries.ensures.entries c.entries-2.ensures.entries
    (c.begin.ensures ∙ ap (held c.args.number) c.in_ok-copy.ensures.pool) _ c.reserve.ensures.items c.in_ok-copy.copy.machine c.in_ok-copy.ensures.machine c.requires.going
