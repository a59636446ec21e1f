use Rattle.std.proofs.Common.{◌≢◌, ◌-◌, ◌<◌, sym, ◌∙◌, arith}
use Rattle.ame_laws.proofs.MapLemmas.{is_at-apart}
use Rattle.ame_check.proofs.FreeEntries.{visits-none, visits-nobody, visits-outside, begins-free, visit-stopped, visit-made}
use Rattle.ame_check.proofs.StopLemmas.{err-as}
use Rattle.ame_check.proofs.replay.Replay.free.Goals as goal

pub returns-then-entry-eq0-clause-halted : goal.returns-then-entry-eq0-clause-halted
returns-then-entry-eq0-clause-halted g c = λ entries st.
    visits-none g.M.Runner.meaning c.args.code.now (g.met.M.Runner.accepted c.args.code.now) c.args.entry.now c.requires.kind _ entries st c.if-entry-eq0.true

pub returns-in_default-clause-halted : goal.returns-in_default-clause-halted
returns-in_default-clause-halted g c = λ entries st.
    visits-nobody g.M.Runner.meaning c.args.code.now (g.met.M.Runner.accepted c.args.code.now) c.args.entry.now c.requires.kind _ entries st c.in_default.ensures.value

pub returns-then-not-inside-clause-halted : goal.returns-then-not-inside-clause-halted
returns-then-not-inside-clause-halted g c = λ entries st.
    visits-outside g.M.Runner.meaning c.args.code.now (g.met.M.Runner.accepted c.args.code.now) c.args.entry.now c.requires.kind _ entries st
    c.in-Some.machine c.in-Some.ensures.value (sym (c.inside.ensures c.args.code.now) ∙ c.if-not-inside.true)

pub visit-requires-clause-walking : goal.visit-requires-clause-walking
visit-requires-clause-walking g c = (
  c.requires.stands.1.led.state,
  c.args.entry.now.number,
  (begins-free g.M.Runner.meaning c.args.code.now (g.met.M.Runner.accepted c.args.code.now) c.args.entry.now c.requires.kind _ c.requires.stands.0 c.requires.stands.1
      c.in-Some.machine c.in-Some.ensures.value (sym (c.inside.ensures c.args.code.now) ∙ c.if-not-inside.false) c.new-overlay.result.entries c.new-overlay.ensures.empty).walking,
)

pub returns-in_err-visit-clause-halted : goal.returns-in_err-visit-clause-halted
returns-in_err-visit-clause-halted g c =
    err-as c.from_residual.result c.in_err-visit.field-0.0 _ c.from_residual.ensures.1
    (λ entries st.
    visit-stopped g.M.Runner.meaning c.args.code.now (g.met.M.Runner.accepted c.args.code.now) c.args.entry.now c.requires.kind _ entries st
    c.in-Some.machine c.in-Some.ensures.value (sym (c.inside.ensures c.args.code.now) ∙ c.if-not-inside.false) c.new-overlay.result.entries c.new-overlay.ensures.empty
    (c.args.entry.now.steps - 1) (let some : 0 < c.args.entry.now.steps = (let apart : c.args.entry.now.steps ≢ 0 = c.if-entry-eq0.false in omega arith) in omega arith) c.in_err-visit.field-0.0 c.in_err-visit.ensures.halted)

pub returns-clause-made : goal.returns-clause-made
returns-clause-made g c = λ entries st.
    visit-made g.M.Runner.meaning c.args.code.now (g.met.M.Runner.accepted c.args.code.now) c.args.entry.now c.requires.kind _ entries st
    c.in-Some.machine c.in-Some.ensures.value (sym (c.inside.ensures c.args.code.now) ∙ c.if-not-inside.false) c.new-overlay.result.entries c.new-overlay.ensures.empty
    (c.args.entry.now.steps - 1) (let some : 0 < c.args.entry.now.steps = (let apart : c.args.entry.now.steps ≢ 0 = c.if-entry-eq0.false in omega arith) in omega arith) c.visit.new.overlay.entries c.visit.new.machine c.in_ok-visit.ensures.made
    c.remove.new.self.entries c.remove.ensures.updates.1 (λ k apart. c.remove.ensures.updates.2 k (is_at-apart c.args.entry.now.number k apart))
    c.keep.new.self.cells.entries c.in_ok-keep.ensures.cells c.keep.new.self.output.items c.in_ok-keep.ensures.output c.keep.new.machine
    c.keep.new.self.next c.keep.new.self.members.entries c.in_ok-keep.ensures.adopts c.settle.new.self (c.settle.ensures.machine c.args.code.now)
    (c.settle.ensures.stage c.args.code.now) c.insert.new.self.entries c.in_ok-insert.ensures.entries
