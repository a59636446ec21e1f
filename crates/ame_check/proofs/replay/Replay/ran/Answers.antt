use Rattle.std.proofs.Common.{sym, ◌∙◌}
use Rattle.ame_check.proofs.RanEntries.{has-answer, has-none, goes-on_inside, begins-ran, ran-stopped, has-other-want, ended-so, left-so, quiet-of}
use Rattle.ame_laws.proofs.MapLemmas.{is_at-apart}
use Rattle.ame_check.proofs.StopLemmas.{err-as}
use Rattle.ame_check.proofs.replay.Replay.ran.Goals as goal

pub returns-then-is_some-clause-halted : goal.returns-then-is_some-clause-halted
returns-then-is_some-clause-halted g c = λ entries st.
    has-answer g.M.Runner.meaning c.args.code.now (g.met.M.Runner.accepted c.args.code.now) (g.met.M.Runner.sound c.args.code.now) c.args.entry.now c.requires.kind _ entries st
    (sym c.is_some.ensures ∙ c.if-is_some.true)

pub returns-in_default-clause-halted : goal.returns-in_default-clause-halted
returns-in_default-clause-halted g c = λ entries st.
    has-none g.M.Runner.meaning c.args.code.now (g.met.M.Runner.accepted c.args.code.now) (g.met.M.Runner.sound c.args.code.now) c.args.entry.now c.requires.kind _ entries st
    c.in_default.ensures.value

pub returns-then-inside-clause-halted : goal.returns-then-inside-clause-halted
returns-then-inside-clause-halted g c = λ entries st.
    goes-on_inside g.M.Runner.meaning c.args.code.now (g.met.M.Runner.accepted c.args.code.now) (g.met.M.Runner.sound c.args.code.now) c.args.entry.now c.requires.kind _ entries st
    c.in-Some.machine c.in-Some.ensures.value (sym (c.inside.ensures c.args.code.now) ∙ c.if-inside.true)

pub run-requires-clause-walking : goal.run-requires-clause-walking
run-requires-clause-walking g c = (
  c.requires.stands.1.led.state,
  c.args.entry.now.number,
  (begins-ran g.M.Runner.meaning c.args.code.now (g.met.M.Runner.accepted c.args.code.now) (g.met.M.Runner.sound c.args.code.now) c.args.entry.now c.requires.kind _ c.requires.stands.0 c.requires.stands.1
      c.in-Some.machine c.in-Some.ensures.value (sym (c.inside.ensures c.args.code.now) ∙ c.if-inside.false) c.new-overlay.result.entries c.new-overlay.ensures.empty).walking,
)

pub returns-in_ok-keep-in-Done-clause-made : goal.returns-in_ok-keep-in-Done-clause-made
returns-in_ok-keep-in-Done-clause-made g c = λ entries st.
    ended-so g.M.Runner.meaning c.args.code.now (g.met.M.Runner.accepted c.args.code.now) (g.met.M.Runner.sound c.args.code.now) c.args.entry.now c.requires.kind _ entries st
    c.in-Some.machine c.in-Some.ensures.value (sym (c.inside.ensures c.args.code.now) ∙ c.if-inside.false) c.new-overlay.result.entries c.new-overlay.ensures.empty
    (quiet-of c.args.entry.now.answer (sym c.is_some.ensures ∙ c.if-is_some.false)) c.run.new.overlay.entries c.run.new.machine c.in_ok-want.want c.in_ok-want.ensures.whole
    c.remove.new.self.entries c.remove.ensures.updates.1 (λ k apart. c.remove.ensures.updates.2 k (is_at-apart c.args.entry.now.number k apart))
    c.keep.new.self.cells.entries c.in_ok-keep-in-Done.ensures.cells c.keep.new.self.output.items c.in_ok-keep-in-Done.ensures.output c.keep.new.machine c.keep.new.self.next
    c.keep.new.self.members.entries c.in_ok-keep-in-Done.ensures.adopts c.in-Done.is

pub returns-in_ok-insert-in-Leave-clause-made : goal.returns-in_ok-insert-in-Leave-clause-made
returns-in_ok-insert-in-Leave-clause-made g c = λ entries st.
    left-so g.M.Runner.meaning c.args.code.now (g.met.M.Runner.accepted c.args.code.now) (g.met.M.Runner.sound c.args.code.now) c.args.entry.now c.requires.kind _ entries st
    c.in-Some.machine c.in-Some.ensures.value (sym (c.inside.ensures c.args.code.now) ∙ c.if-inside.false) c.new-overlay.result.entries c.new-overlay.ensures.empty
    (quiet-of c.args.entry.now.answer (sym c.is_some.ensures ∙ c.if-is_some.false)) c.run.new.overlay.entries c.run.new.machine c.in_ok-want.want c.in_ok-want.ensures.whole
    c.remove.new.self.entries c.remove.ensures.updates.1 (λ k apart. c.remove.ensures.updates.2 k (is_at-apart c.args.entry.now.number k apart))
    c.keep-in-Leave.new.self.cells.entries c.in_ok-keep-in-Leave.ensures.cells c.keep-in-Leave.new.self.output.items c.in_ok-keep-in-Leave.ensures.output c.keep-in-Leave.new.machine
    c.keep-in-Leave.new.self.next c.keep-in-Leave.new.self.members.entries c.in_ok-keep-in-Leave.ensures.adopts c.in-Leave.is c.settle.new.self (c.settle.ensures.machine c.args.code.now)
    (c.settle.ensures.stage c.args.code.now) c.insert.new.self.entries c.in_ok-insert-in-Leave.ensures.entries

pub returns-in_default-want-clause-halted : goal.returns-in_default-want-clause-halted
returns-in_default-want-clause-halted g c = λ entries st.
    has-other-want g.M.Runner.meaning c.args.code.now (g.met.M.Runner.accepted c.args.code.now) (g.met.M.Runner.sound c.args.code.now) c.args.entry.now c.requires.kind _ entries st
    c.in-Some.machine c.in-Some.ensures.value (sym (c.inside.ensures c.args.code.now) ∙ c.if-inside.false) c.new-overlay.result.entries c.new-overlay.ensures.empty
    (quiet-of c.args.entry.now.answer (sym c.is_some.ensures ∙ c.if-is_some.false)) c.run.new.overlay.entries c.run.new.machine c.in_ok-want.want c.in_ok-want.ensures.whole
    c.in_default-want.not-Done c.in_default-want.not-Leave

pub returns-in_err-want-clause-halted : goal.returns-in_err-want-clause-halted
returns-in_err-want-clause-halted g c =
    err-as c.from_residual.result c.in_err-want.field-0.0 _ c.from_residual.ensures.1
    (λ entries st.
    ran-stopped g.M.Runner.meaning c.args.code.now (g.met.M.Runner.accepted c.args.code.now) (g.met.M.Runner.sound c.args.code.now) c.args.entry.now c.requires.kind _ entries st
    c.in-Some.machine c.in-Some.ensures.value (sym (c.inside.ensures c.args.code.now) ∙ c.if-inside.false) c.new-overlay.result.entries c.new-overlay.ensures.empty
    (quiet-of c.args.entry.now.answer (sym c.is_some.ensures ∙ c.if-is_some.false)) c.in_err-want.field-0.0 c.in_err-want.ensures.halted)
