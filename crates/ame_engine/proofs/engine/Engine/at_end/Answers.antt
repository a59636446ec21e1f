use Rattle.std.proofs.Common.{rules, ◌≡◌, List, [], arith, subst, sym, vec_len, vec_capacity}
use Rattle.std.specs.Arc.{arc_value}
use Rattle.ame_io.specs.Lines.{lines}
use Rattle.ame_protocol.specs.declared.types.Task.{Task}
use Rattle.ame_engine.specs.Places.{HasPlacesFor}
use Rattle.ame_engine.specs.Resuming.{AreMembersOf}
use Rattle.ame_engine.proofs.PlaceLemmas.{places-idle}
use Rattle.ame_engine.proofs.ResumedCells.{cells-free, cells-even}
use Rattle.ame_engine.proofs.ResumedLemmas.{stands-as, all-free, found-sound, found-resumed}
use Rattle.ame_engine.proofs.engine.Engine.at_end.Goals as goal

pub from_cells-store-requires-clause-free : goal.from_cells-store-requires-clause-free
from_cells-store-requires-clause-free g c = cells-free g.M.Value.Copied.same _ _ c.in_ok-cells_of.ensures

pub from_cells-store-requires-clause-even : goal.from_cells-store-requires-clause-even
from_cells-store-requires-clause-even g c = cells-even g.M.Value.Copied.same _ _ c.in_ok-cells_of.ensures

pub new-requires : goal.new-requires
new-requires g c =
    all-free c.from_cells-store.result c.in_ok-cells_of.field-0.items c.from_cells-store.ensures (cells-free g.M.Value.Copied.same _ _ c.in_ok-cells_of.ensures)

pub invariant_of-result : goal.invariant_of-result
invariant_of-result g c =
    let st = stands-as g.M.Runner.meaning (arc_value c.args.code) c.args.base.entries c.into_parts-cells.result _ c.into_parts-cells.ensures (λ m. m.entries) (λ m. m.entries) (λ v. v.items)
    c.requires.led in
    let mem : AreMembersOf g.M.Runner.meaning.stage (arc_value c.args.code) c.into_parts-cells.result.1.entries c.in_ok-pool.pool = search rules in
    let printed : c.in_ok-text.text.items ≡ lines c.into_parts-cells.result.2.items = search rules in
    let tried : c.new-4.result.items ≡ [] = search rules in
    let certificates : c.new-5.result.items ≡ [] = search rules in
    let none : vec_len c.new-4.result ≡ 0 = search rules in
    record {
      whole = found-sound g.M.Runner.meaning (arc_value c.args.code) c.args.limits c.args.base.entries
          (record { cells = c.into_parts-cells.result.0.entries; members = c.into_parts-cells.result.1.entries; output = c.into_parts-cells.result.2.items; next = c.into_parts-cells.result.3 })
          c.requires.limits c.requires.base st c.in_ok-pool.pool mem g.M.Value.Copied.same (λ x y same good. g.met.M.Runner.same_values (arc_value c.args.code) x y same good)
          (λ x y same. g.met.M.Runner.value_shown (arc_value c.args.code) x y same) c.in_ok-cells_of.field-0.items c.in_ok-cells_of.ensures
          _ _ _ _ _ _ _ _ c.new-2.ensures c.from_cells-store.ensures c.in_ok-memory.ensures c.in_ok-tasks.ensures printed c.new-3.ensures tried certificates;
      places = subst (λ (tasks : List Task). HasPlacesFor tasks (vec_len c.new-4.result) (vec_capacity c.new-4.result)) (sym c.in_ok-tasks.ensures)
          (places-idle c.args.limits.seats (vec_len c.new-4.result) (vec_capacity c.new-4.result) (omega (arith, none)));
    }

pub returns-clause-state : goal.returns-clause-state
returns-clause-state g c =
    let st = stands-as g.M.Runner.meaning (arc_value c.args.code) c.args.base.entries c.into_parts-cells.result _ c.into_parts-cells.ensures (λ m. m.entries) (λ m. m.entries) (λ v. v.items)
    c.requires.led in
    let mem : AreMembersOf g.M.Runner.meaning.stage (arc_value c.args.code) c.into_parts-cells.result.1.entries c.in_ok-pool.pool = search rules in
    let printed : c.in_ok-text.text.items ≡ lines c.into_parts-cells.result.2.items = search rules in
    let tried : c.new-4.result.items ≡ [] = search rules in
    let certificates : c.new-5.result.items ≡ [] = search rules in
    found-resumed g.M.Runner.meaning (arc_value c.args.code) c.args.limits c.args.base.entries
    (record { cells = c.into_parts-cells.result.0.entries; members = c.into_parts-cells.result.1.entries; output = c.into_parts-cells.result.2.items; next = c.into_parts-cells.result.3 })
    c.requires.limits c.requires.base st c.in_ok-pool.pool mem g.M.Value.Copied.same (λ x y same good. g.met.M.Runner.same_values (arc_value c.args.code) x y same good)
    (λ x y same. g.met.M.Runner.value_shown (arc_value c.args.code) x y same) c.in_ok-cells_of.field-0.items c.in_ok-cells_of.ensures
    _ _ _ _ _ _ _ _ c.new-2.ensures c.from_cells-store.ensures c.in_ok-memory.ensures c.in_ok-tasks.ensures printed c.new-3.ensures tried certificates
