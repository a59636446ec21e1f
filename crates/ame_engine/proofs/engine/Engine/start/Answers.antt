use Rattle.std.proofs.Common.{rules, ◌≡◌, List, [], vec_len, vec_capacity, sym, subst, arith}
use Rattle.std.specs.Arc.{arc_value}
use Rattle.ame_machine.specs.MachineView.{starting_at}
use Rattle.ame_protocol.specs.declared.types.Task.{Task}
use Rattle.ame_engine.specs.Places.{HasPlacesFor}
use Rattle.ame_engine.proofs.PlaceLemmas.{places-idle}
use Rattle.ame_engine.proofs.StartLemmas.{whole-started, parts-started, state-started}
use Rattle.ame_engine.proofs.engine.Engine.start.Goals as goal

pub invariant_of-result : goal.invariant_of-result
invariant_of-result g c =
    let code = arc_value c.args.code in
    let m = c.in_ok-machine.machine in
    let good : g.M.Runner.meaning.is_machine (arc_value c.args.code) m = search rules in
    let rests : g.M.Runner.meaning.stage (arc_value c.args.code) m ≡ starting_at (g.M.Runner.meaning.program (arc_value c.args.code)) = search rules in
    let tried : c.new-6.result.items ≡ [] = search rules in
    let certificates : c.new-7.result.items ≡ [] = search rules in
    let none : vec_len c.new-6.result ≡ 0 = search rules in
    record {
      whole = whole-started g.M.Runner.meaning
          code c.args.limits m rests c.requires good (g.met.M.Runner.accepted (arc_value c.args.code))
          _ _ _ _ _ _ _ _ _ _ _ _ _ c.new-3.ensures c.new-4.ensures.journal c.new.ensures c.in_ok-memory.ensures c.in_ok-tasks.ensures
          c.new-pool.ensures c.in_ok-room.ensures.ok c.add.ensures c.new-4.ensures.output c.new-4.ensures.text c.new-5.ensures tried certificates;
      places = subst (λ (tasks : List Task). HasPlacesFor tasks (vec_len c.new-6.result) (vec_capacity c.new-6.result)) (sym c.in_ok-tasks.ensures)
          (places-idle c.args.limits.seats (vec_len c.new-6.result) (vec_capacity c.new-6.result) (omega (arith, none)));
    }

pub returns-clause-parts : goal.returns-clause-parts
returns-clause-parts g c =
    let code = arc_value c.args.code in
    let m = c.in_ok-machine.machine in
    let good : g.M.Runner.meaning.is_machine (arc_value c.args.code) m = search rules in
    let rests : g.M.Runner.meaning.stage (arc_value c.args.code) m ≡ starting_at (g.M.Runner.meaning.program (arc_value c.args.code)) = search rules in
    let tried : c.new-6.result.items ≡ [] = search rules in
    let certificates : c.new-7.result.items ≡ [] = search rules in
    parts-started g.M.Runner.meaning
    code c.args.limits m rests c.requires good (g.met.M.Runner.accepted (arc_value c.args.code))
    _ _ _ _ _ _ _ _ _ _ _ _ _ c.new-3.ensures c.new-4.ensures.journal c.new.ensures c.in_ok-memory.ensures c.in_ok-tasks.ensures
    c.new-pool.ensures c.in_ok-room.ensures.ok c.add.ensures c.new-4.ensures.output c.new-4.ensures.text c.new-5.ensures tried certificates

pub returns-clause-state : goal.returns-clause-state
returns-clause-state g c =
    let code = arc_value c.args.code in
    let m = c.in_ok-machine.machine in
    let good : g.M.Runner.meaning.is_machine (arc_value c.args.code) m = search rules in
    let rests : g.M.Runner.meaning.stage (arc_value c.args.code) m ≡ starting_at (g.M.Runner.meaning.program (arc_value c.args.code)) = search rules in
    let tried : c.new-6.result.items ≡ [] = search rules in
    let certificates : c.new-7.result.items ≡ [] = search rules in
    state-started g.M.Runner.meaning
    code c.args.limits m rests c.requires good (g.met.M.Runner.accepted (arc_value c.args.code))
    _ _ _ _ _ _ _ _ _ _ _ _ _ c.new-3.ensures c.new-4.ensures.journal c.new.ensures c.in_ok-memory.ensures c.in_ok-tasks.ensures
    c.new-pool.ensures c.in_ok-room.ensures.ok c.add.ensures c.new-4.ensures.output c.new-4.ensures.text c.new-5.ensures tried certificates
