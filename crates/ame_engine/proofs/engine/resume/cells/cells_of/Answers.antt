use Rattle.std.proofs.Common.{arith, ap, is_some, refl, sym}
use Rattle.ame_laws.proofs.MapLemmas.{is_at-apart}
use Rattle.ame_engine.proofs.ResumedCells.{at-most, fills-more, cells-filled}
use Rattle.ame_engine.proofs.engine.resume.cells.cells_of.Goals as goal

pub loop-l-preserved : goal.loop-l-preserved
loop-l-preserved g c =
    fills-more g.V.Copied.same c.args.stored.entries c.loop-l.stored.entries c.remove.new.self.entries _ c.loop-l.l-counter c.loop-l.cells.items c.push.new.self.items c.in_ok-cell.cell c.remove.result
    c.loop-l.invariant c.remove.ensures.value (λ k apart. c.remove.ensures.updates.2 k (is_at-apart c.loop-l.l-counter k (λ same. apart (sym same)))) c.in_ok-cell.ensures c.in_ok-push.ensures.items

pub returns : goal.returns
returns g c =
    cells-filled g.V.Copied.same g.met.V.Copied.transitive c.args.stored.entries c.loop-l.stored.entries c.in-Some-first_key_value.first.now _ c.in-Some-first_key_value.field-0-0.now c.in-Some.last.now c.loop-l.l-counter
    c.loop-l.cells.items (let up = c.loop-l.auto.l-counter-end in let over = c.loop-l-test.false in omega arith) c.loop-l.invariant refl refl c.in_ok-copy.ensures (sym c.in-Some-first_key_value.ensures.value)
    (λ k cell is. at-most c.in-Some.last.now k (c.in-Some.ensures.greatest k (ap is_some is))) c.if-last-ge-MOST_CELLS.false
