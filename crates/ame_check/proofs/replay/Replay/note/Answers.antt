use Rattle.std.proofs.Common.{[], refl, sym, ap, ◌∙◌, arith}
use Rattle.ame_check.specs.Reasons.{is_shut}
use Rattle.ame_check.proofs.RanEntries.{quiet-of}
use Rattle.ame_check.proofs.NoteEntries.{noted-answer, noted-none, copy-good, copy-steps, copy-runs, begins-note, noted-shut, noted-stopped, noted-so, noted-not}
use Rattle.ame_check.proofs.StopLemmas.{err-as}
use Rattle.ame_check.proofs.replay.Replay.note.Goals as goal

pub returns-then-is_some-clause-halted : goal.returns-then-is_some-clause-halted
returns-then-is_some-clause-halted g c = λ entries st.
    noted-answer g.M.Runner.meaning c.args.code.now (g.met.M.Runner.accepted c.args.code.now) (g.met.M.Runner.sound c.args.code.now) c.args.entry.now c.requires.note _ entries st (sym c.is_some.ensures ∙ c.if-is_some.true)

pub returns-in_default-clause-halted : goal.returns-in_default-clause-halted
returns-in_default-clause-halted g c = λ entries st.
    noted-none g.M.Runner.meaning c.args.code.now (g.met.M.Runner.accepted c.args.code.now) (g.met.M.Runner.sound c.args.code.now) c.args.entry.now c.requires.note _ entries st (quiet-of c.args.entry.now.answer (sym c.is_some.ensures ∙ c.if-is_some.false)) c.in_default.ensures.value

pub advance-requires-clause-machine : goal.advance-requires-clause-machine
advance-requires-clause-machine g c =
    copy-good g.M.Runner.meaning c.args.code.now (g.met.M.Runner.accepted c.args.code.now) (g.met.M.Runner.sound c.args.code.now) c.args.entry.now c.requires.note _ c.requires.stands.0 c.requires.stands.1 (quiet-of c.args.entry.now.answer (sym c.is_some.ensures ∙ c.if-is_some.false))
    c.in-Some.member.now c.in-Some.ensures.value c.in_ok-machine.machine (g.met.M.Runner.same_machines c.args.code.now c.in-Some.member.now c.in_ok-machine.machine c.in_ok-machine.ensures)
    (g.met.M.Runner.stage_shown c.args.code.now c.in-Some.member.now c.in_ok-machine.machine c.in_ok-machine.ensures)

pub advance-requires-clause-runs : goal.advance-requires-clause-runs
advance-requires-clause-runs g c =
    copy-runs g.M.Runner.meaning c.args.code.now (g.met.M.Runner.accepted c.args.code.now) (g.met.M.Runner.sound c.args.code.now) c.args.entry.now c.requires.note _ c.requires.stands.0 c.requires.stands.1 (quiet-of c.args.entry.now.answer (sym c.is_some.ensures ∙ c.if-is_some.false))
    c.in-Some.member.now c.in-Some.ensures.value c.in_ok-machine.machine (g.met.M.Runner.same_machines c.args.code.now c.in-Some.member.now c.in_ok-machine.machine c.in_ok-machine.ensures)
    (g.met.M.Runner.stage_shown c.args.code.now c.in-Some.member.now c.in_ok-machine.machine c.in_ok-machine.ensures)

pub advance-requires-clause-steps : goal.advance-requires-clause-steps
advance-requires-clause-steps g c =
    let none = copy-steps g.M.Runner.meaning c.args.code.now (g.met.M.Runner.accepted c.args.code.now) (g.met.M.Runner.sound c.args.code.now) c.args.entry.now c.requires.note _ c.requires.stands.0 c.requires.stands.1 (quiet-of c.args.entry.now.answer (sym c.is_some.ensures ∙ c.if-is_some.false))
    c.in-Some.member.now c.in-Some.ensures.value c.in_ok-machine.machine (g.met.M.Runner.same_machines c.args.code.now c.in-Some.member.now c.in_ok-machine.machine c.in_ok-machine.ensures)
    (g.met.M.Runner.stage_shown c.args.code.now c.in-Some.member.now c.in_ok-machine.machine c.in_ok-machine.ensures) in
    omega arith

pub returns-then-shuts-clause-halted : goal.returns-then-shuts-clause-halted
returns-then-shuts-clause-halted g c = λ entries st.
    noted-shut g.M.Runner.meaning c.args.code.now (g.met.M.Runner.accepted c.args.code.now) (g.met.M.Runner.sound c.args.code.now) c.args.entry.now c.requires.note _ entries st (quiet-of c.args.entry.now.answer (sym c.is_some.ensures ∙ c.if-is_some.false))
    c.in-Some.member.now c.in-Some.ensures.value c.in_ok-machine.machine (g.met.M.Runner.same_machines c.args.code.now c.in-Some.member.now c.in_ok-machine.machine c.in_ok-machine.ensures)
    (g.met.M.Runner.stage_shown c.args.code.now c.in-Some.member.now c.in_ok-machine.machine c.in_ok-machine.ensures)
    c.advance.new.self c.advance.ensures.machine c.advance.ensures.ran c.in_ok-_next._next c.in_ok-_next.ensures.told c.settle.new.self
    (c.settle.ensures.machine c.args.code.now c.advance.ensures.machine) (c.settle.ensures.stage c.args.code.now) [] refl
    (ap (is_shut c.args.entry.now.kind) (sym (c.inside.ensures c.args.code.now)) ∙ sym c.shuts.ensures ∙ c.if-shuts.true)

pub run-requires-clause-walking : goal.run-requires-clause-walking
run-requires-clause-walking g c = (
  c.requires.stands.1.led.state,
  c.args.entry.now.number,
  (begins-note g.M.Runner.meaning c.args.code.now (g.met.M.Runner.accepted c.args.code.now) (g.met.M.Runner.sound c.args.code.now) c.args.entry.now c.requires.note _ c.requires.stands.0 c.requires.stands.1 (quiet-of c.args.entry.now.answer (sym c.is_some.ensures ∙ c.if-is_some.false))
      c.in-Some.member.now c.in-Some.ensures.value c.in_ok-machine.machine (g.met.M.Runner.same_machines c.args.code.now c.in-Some.member.now c.in_ok-machine.machine c.in_ok-machine.ensures)
      (g.met.M.Runner.stage_shown c.args.code.now c.in-Some.member.now c.in_ok-machine.machine c.in_ok-machine.ensures)
      c.advance.new.self c.advance.ensures.machine c.advance.ensures.ran c.in_ok-_next._next c.in_ok-_next.ensures.told c.settle.new.self
      (c.settle.ensures.machine c.args.code.now c.advance.ensures.machine) (c.settle.ensures.stage c.args.code.now) c.new-overlay.result.entries c.new-overlay.ensures.empty).walking,
)

pub returns-in_err-want-clause-halted : goal.returns-in_err-want-clause-halted
returns-in_err-want-clause-halted g c =
    err-as c.from_residual-in_err-want.result c.in_err-want.field-0.0 _ c.from_residual-in_err-want.ensures.1
    (λ entries st.
    noted-stopped g.M.Runner.meaning c.args.code.now (g.met.M.Runner.accepted c.args.code.now) (g.met.M.Runner.sound c.args.code.now) c.args.entry.now c.requires.note _ entries st (quiet-of c.args.entry.now.answer (sym c.is_some.ensures ∙ c.if-is_some.false))
    c.in-Some.member.now c.in-Some.ensures.value c.in_ok-machine.machine (g.met.M.Runner.same_machines c.args.code.now c.in-Some.member.now c.in_ok-machine.machine c.in_ok-machine.ensures)
    (g.met.M.Runner.stage_shown c.args.code.now c.in-Some.member.now c.in_ok-machine.machine c.in_ok-machine.ensures)
    c.advance.new.self c.advance.ensures.machine c.advance.ensures.ran c.in_ok-_next._next c.in_ok-_next.ensures.told c.settle.new.self
    (c.settle.ensures.machine c.args.code.now c.advance.ensures.machine) (c.settle.ensures.stage c.args.code.now) c.new-overlay.result.entries c.new-overlay.ensures.empty
    (ap (is_shut c.args.entry.now.kind) (sym (c.inside.ensures c.args.code.now)) ∙ sym c.shuts.ensures ∙ c.if-shuts.false)
    c.in_err-want.field-0.0 c.in_err-want.ensures.halted)

pub returns-then-confirms-clause-made : goal.returns-then-confirms-clause-made
returns-then-confirms-clause-made g c = λ entries st.
    noted-so g.M.Runner.meaning c.args.code.now (g.met.M.Runner.accepted c.args.code.now) (g.met.M.Runner.sound c.args.code.now) c.args.entry.now c.requires.note _ entries st (quiet-of c.args.entry.now.answer (sym c.is_some.ensures ∙ c.if-is_some.false))
    c.in-Some.member.now c.in-Some.ensures.value c.in_ok-machine.machine (g.met.M.Runner.same_machines c.args.code.now c.in-Some.member.now c.in_ok-machine.machine c.in_ok-machine.ensures)
    (g.met.M.Runner.stage_shown c.args.code.now c.in-Some.member.now c.in_ok-machine.machine c.in_ok-machine.ensures)
    c.advance.new.self c.advance.ensures.machine c.advance.ensures.ran c.in_ok-_next._next c.in_ok-_next.ensures.told c.settle.new.self
    (c.settle.ensures.machine c.args.code.now c.advance.ensures.machine) (c.settle.ensures.stage c.args.code.now) c.new-overlay.result.entries c.new-overlay.ensures.empty
    (ap (is_shut c.args.entry.now.kind) (sym (c.inside.ensures c.args.code.now)) ∙ sym c.shuts.ensures ∙ c.if-shuts.false)
    c.run.new.overlay.entries c.run.new.machine c.in_ok-want.want c.in_ok-want.ensures.whole (sym c.confirms.ensures ∙ c.if-confirms.true)

pub returns-clause-halted : goal.returns-clause-halted
returns-clause-halted g c = λ entries st.
    noted-not g.M.Runner.meaning c.args.code.now (g.met.M.Runner.accepted c.args.code.now) (g.met.M.Runner.sound c.args.code.now) c.args.entry.now c.requires.note _ entries st (quiet-of c.args.entry.now.answer (sym c.is_some.ensures ∙ c.if-is_some.false))
    c.in-Some.member.now c.in-Some.ensures.value c.in_ok-machine.machine (g.met.M.Runner.same_machines c.args.code.now c.in-Some.member.now c.in_ok-machine.machine c.in_ok-machine.ensures)
    (g.met.M.Runner.stage_shown c.args.code.now c.in-Some.member.now c.in_ok-machine.machine c.in_ok-machine.ensures)
    c.advance.new.self c.advance.ensures.machine c.advance.ensures.ran c.in_ok-_next._next c.in_ok-_next.ensures.told c.settle.new.self
    (c.settle.ensures.machine c.args.code.now c.advance.ensures.machine) (c.settle.ensures.stage c.args.code.now) c.new-overlay.result.entries c.new-overlay.ensures.empty
    (ap (is_shut c.args.entry.now.kind) (sym (c.inside.ensures c.args.code.now)) ∙ sym c.shuts.ensures ∙ c.if-shuts.false)
    c.run.new.overlay.entries c.run.new.machine c.in_ok-want.want c.in_ok-want.ensures.whole (sym c.confirms.ensures ∙ c.if-confirms.false)
