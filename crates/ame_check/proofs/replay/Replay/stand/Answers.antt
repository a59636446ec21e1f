use Rattle.std.proofs.Common.{◌≡◌, ◌≤◌, sym, ap, ◌∙◌, arith}
use Rattle.ame_journal.specs.Replayed.{side_at}
use Rattle.ame_journal.specs.Totals.{is_note}
use Rattle.ame_journal.specs.declared.entry.EntryKind.{EntryKind}
use Rattle.ame_check.specs.Reasons.{is_shut}
use Rattle.ame_check.proofs.StopLemmas.{err-as}
use Rattle.ame_check.proofs.RanEntries.{quiet-of}
use Rattle.ame_check.proofs.NoteEntries.{copy-good, copy-steps, copy-runs, begins-note, noted-answer, noted-none, noted-stopped, stands-there}
use Rattle.ame_check.proofs.replay.Replay.stand.Goals as goal

pub advance-requires-clause-machine : goal.advance-requires-clause-machine
advance-requires-clause-machine g c =
    copy-good g.M.Runner.meaning c.args.code.now (g.met.M.Runner.accepted c.args.code.now) (g.met.M.Runner.sound c.args.code.now) c.args.entry.now (ap is_note c.requires.kind) _ c.requires.stands.0 c.requires.stands.1 (quiet-of c.args.entry.now.answer (sym c.is_some.ensures ∙ c.if-is_some.false))
    c.in-Some.member.now c.in-Some.ensures.value c.in_ok-machine.machine (g.met.M.Runner.same_machines c.args.code.now c.in-Some.member.now c.in_ok-machine.machine c.in_ok-machine.ensures)
    (g.met.M.Runner.stage_shown c.args.code.now c.in-Some.member.now c.in_ok-machine.machine c.in_ok-machine.ensures)

pub advance-requires-clause-runs : goal.advance-requires-clause-runs
advance-requires-clause-runs g c =
    copy-runs g.M.Runner.meaning c.args.code.now (g.met.M.Runner.accepted c.args.code.now) (g.met.M.Runner.sound c.args.code.now) c.args.entry.now (ap is_note c.requires.kind) _ c.requires.stands.0 c.requires.stands.1 (quiet-of c.args.entry.now.answer (sym c.is_some.ensures ∙ c.if-is_some.false))
    c.in-Some.member.now c.in-Some.ensures.value c.in_ok-machine.machine (g.met.M.Runner.same_machines c.args.code.now c.in-Some.member.now c.in_ok-machine.machine c.in_ok-machine.ensures)
    (g.met.M.Runner.stage_shown c.args.code.now c.in-Some.member.now c.in_ok-machine.machine c.in_ok-machine.ensures)

pub advance-requires-clause-steps : goal.advance-requires-clause-steps
advance-requires-clause-steps g c =
    let none = copy-steps g.M.Runner.meaning c.args.code.now (g.met.M.Runner.accepted c.args.code.now) (g.met.M.Runner.sound c.args.code.now) c.args.entry.now (ap is_note c.requires.kind) _ c.requires.stands.0 c.requires.stands.1 (quiet-of c.args.entry.now.answer (sym c.is_some.ensures ∙ c.if-is_some.false))
    c.in-Some.member.now c.in-Some.ensures.value c.in_ok-machine.machine (g.met.M.Runner.same_machines c.args.code.now c.in-Some.member.now c.in_ok-machine.machine c.in_ok-machine.ensures)
    (g.met.M.Runner.stage_shown c.args.code.now c.in-Some.member.now c.in_ok-machine.machine c.in_ok-machine.ensures) in
    omega arith

pub returns-then-is_some-clause-halted : goal.returns-then-is_some-clause-halted
returns-then-is_some-clause-halted g c = λ entries st.
    noted-answer g.M.Runner.meaning c.args.code.now (g.met.M.Runner.accepted c.args.code.now) (g.met.M.Runner.sound c.args.code.now) c.args.entry.now (ap is_note c.requires.kind) _ entries st (sym c.is_some.ensures ∙ c.if-is_some.true)

pub returns-in_default-clause-halted : goal.returns-in_default-clause-halted
returns-in_default-clause-halted g c = λ entries st.
    noted-none g.M.Runner.meaning c.args.code.now (g.met.M.Runner.accepted c.args.code.now) (g.met.M.Runner.sound c.args.code.now) c.args.entry.now (ap is_note c.requires.kind) _ entries st (quiet-of c.args.entry.now.answer (sym c.is_some.ensures ∙ c.if-is_some.false)) c.in_default.ensures.value

pub watch-requires-clause-walking : goal.watch-requires-clause-walking
watch-requires-clause-walking g c = (
  c.requires.stands.1.led.state,
  c.args.entry.now.number,
  (begins-note g.M.Runner.meaning c.args.code.now (g.met.M.Runner.accepted c.args.code.now) (g.met.M.Runner.sound c.args.code.now) c.args.entry.now (ap is_note c.requires.kind) _ c.requires.stands.0 c.requires.stands.1 (quiet-of c.args.entry.now.answer (sym c.is_some.ensures ∙ c.if-is_some.false))
      c.in-Some.member.now c.in-Some.ensures.value c.in_ok-machine.machine (g.met.M.Runner.same_machines c.args.code.now c.in-Some.member.now c.in_ok-machine.machine c.in_ok-machine.ensures)
      (g.met.M.Runner.stage_shown c.args.code.now c.in-Some.member.now c.in_ok-machine.machine c.in_ok-machine.ensures)
      c.advance.new.self c.advance.ensures.machine c.advance.ensures.ran c.in_ok-_next._next c.in_ok-_next.ensures.told c.settle.new.self
      (c.settle.ensures.machine c.args.code.now c.advance.ensures.machine) (c.settle.ensures.stage c.args.code.now) c.new-overlay.result.entries c.new-overlay.ensures.empty).walking,
)

pub run-requires-clause-walking : goal.run-requires-clause-walking
run-requires-clause-walking g c =
    let begun = begins-note g.M.Runner.meaning c.args.code.now (g.met.M.Runner.accepted c.args.code.now) (g.met.M.Runner.sound c.args.code.now) c.args.entry.now (ap is_note c.requires.kind) _ c.requires.stands.0 c.requires.stands.1 (quiet-of c.args.entry.now.answer (sym c.is_some.ensures ∙ c.if-is_some.false))
    c.in-Some.member.now c.in-Some.ensures.value c.in_ok-machine.machine (g.met.M.Runner.same_machines c.args.code.now c.in-Some.member.now c.in_ok-machine.machine c.in_ok-machine.ensures)
    (g.met.M.Runner.stage_shown c.args.code.now c.in-Some.member.now c.in_ok-machine.machine c.in_ok-machine.ensures)
    c.advance.new.self c.advance.ensures.machine c.advance.ensures.ran c.in_ok-_next._next c.in_ok-_next.ensures.told c.settle.new.self
    (c.settle.ensures.machine c.args.code.now c.advance.ensures.machine) (c.settle.ensures.stage c.args.code.now) c.new-overlay.result.entries c.new-overlay.ensures.empty in
    (c.requires.stands.1.led.state, c.args.entry.now.number, (c.in_ok-reads.ensures.watched c.requires.stands.1.led.state c.args.entry.now.number _ 0 begun).stands.walking)

pub run-requires-clause-below : goal.run-requires-clause-below
run-requires-clause-below g c =
    let begun = begins-note g.M.Runner.meaning c.args.code.now (g.met.M.Runner.accepted c.args.code.now) (g.met.M.Runner.sound c.args.code.now) c.args.entry.now (ap is_note c.requires.kind) _ c.requires.stands.0 c.requires.stands.1 (quiet-of c.args.entry.now.answer (sym c.is_some.ensures ∙ c.if-is_some.false))
    c.in-Some.member.now c.in-Some.ensures.value c.in_ok-machine.machine (g.met.M.Runner.same_machines c.args.code.now c.in-Some.member.now c.in_ok-machine.machine c.in_ok-machine.ensures)
    (g.met.M.Runner.stage_shown c.args.code.now c.in-Some.member.now c.in_ok-machine.machine c.in_ok-machine.ensures)
    c.advance.new.self c.advance.ensures.machine c.advance.ensures.ran c.in_ok-_next._next c.in_ok-_next.ensures.told c.settle.new.self
    (c.settle.ensures.machine c.args.code.now c.advance.ensures.machine) (c.settle.ensures.stage c.args.code.now) c.new-overlay.result.entries c.new-overlay.ensures.empty in
    let here = c.in_ok-reads.ensures.watched c.requires.stands.1.led.state c.args.entry.now.number _ 0 begun in
    let few : here.made ≤ c.args.entry.now.steps = here.few in
    let counted : (g.M.Runner.meaning.stage c.args.code.now c.watch.new.machine).steps ≡ here.made = here.stands.counted in
    omega arith

pub returns-in_err-reads-clause-halted : goal.returns-in_err-reads-clause-halted
returns-in_err-reads-clause-halted g c =
    err-as c.from_residual-in_err-reads.result c.in_err-reads.field-0.0 _ c.from_residual-in_err-reads.ensures.1
    (λ entries st.
    noted-stopped g.M.Runner.meaning c.args.code.now (g.met.M.Runner.accepted c.args.code.now) (g.met.M.Runner.sound c.args.code.now) c.args.entry.now (ap is_note c.requires.kind) _ entries st (quiet-of c.args.entry.now.answer (sym c.is_some.ensures ∙ c.if-is_some.false))
    c.in-Some.member.now c.in-Some.ensures.value c.in_ok-machine.machine (g.met.M.Runner.same_machines c.args.code.now c.in-Some.member.now c.in_ok-machine.machine c.in_ok-machine.ensures)
    (g.met.M.Runner.stage_shown c.args.code.now c.in-Some.member.now c.in_ok-machine.machine c.in_ok-machine.ensures)
    c.advance.new.self c.advance.ensures.machine c.advance.ensures.ran c.in_ok-_next._next c.in_ok-_next.ensures.told c.settle.new.self
    (c.settle.ensures.machine c.args.code.now c.advance.ensures.machine) (c.settle.ensures.stage c.args.code.now) c.new-overlay.result.entries c.new-overlay.ensures.empty
    (ap (λ (k : EntryKind). is_shut k (g.M.Runner.meaning.stage c.args.code.now c.settle.new.self).inside) c.requires.kind) c.in_err-reads.field-0.0 c.in_err-reads.ensures.halted)

pub returns-in_err-want-clause-halted : goal.returns-in_err-want-clause-halted
returns-in_err-want-clause-halted g c =
    err-as c.from_residual-in_err-want.result c.in_err-want.field-0.0 _ c.from_residual-in_err-want.ensures.1
    (λ entries st.
    noted-stopped g.M.Runner.meaning c.args.code.now (g.met.M.Runner.accepted c.args.code.now) (g.met.M.Runner.sound c.args.code.now) c.args.entry.now (ap is_note c.requires.kind) _ entries st (quiet-of c.args.entry.now.answer (sym c.is_some.ensures ∙ c.if-is_some.false))
    c.in-Some.member.now c.in-Some.ensures.value c.in_ok-machine.machine (g.met.M.Runner.same_machines c.args.code.now c.in-Some.member.now c.in_ok-machine.machine c.in_ok-machine.ensures)
    (g.met.M.Runner.stage_shown c.args.code.now c.in-Some.member.now c.in_ok-machine.machine c.in_ok-machine.ensures)
    c.advance.new.self c.advance.ensures.machine c.advance.ensures.ran c.in_ok-_next._next c.in_ok-_next.ensures.told c.settle.new.self
    (c.settle.ensures.machine c.args.code.now c.advance.ensures.machine) (c.settle.ensures.stage c.args.code.now) c.new-overlay.result.entries c.new-overlay.ensures.empty
    (ap (λ (k : EntryKind). is_shut k (g.M.Runner.meaning.stage c.args.code.now c.settle.new.self).inside) c.requires.kind) c.in_err-want.field-0.0
    (λ s i side n a. let here = c.in_ok-reads.ensures.watched s i side n a in c.in_err-want.ensures.halted s i side here.made here.stands))

pub returns-clause-there : goal.returns-clause-there
returns-clause-there g c = λ entries st.
    let begun = begins-note g.M.Runner.meaning c.args.code.now (g.met.M.Runner.accepted c.args.code.now) (g.met.M.Runner.sound c.args.code.now) c.args.entry.now (ap is_note c.requires.kind) _ entries st (quiet-of c.args.entry.now.answer (sym c.is_some.ensures ∙ c.if-is_some.false))
    c.in-Some.member.now c.in-Some.ensures.value c.in_ok-machine.machine (g.met.M.Runner.same_machines c.args.code.now c.in-Some.member.now c.in_ok-machine.machine c.in_ok-machine.ensures)
    (g.met.M.Runner.stage_shown c.args.code.now c.in-Some.member.now c.in_ok-machine.machine c.in_ok-machine.ensures)
    c.advance.new.self c.advance.ensures.machine c.advance.ensures.ran c.in_ok-_next._next c.in_ok-_next.ensures.told c.settle.new.self
    (c.settle.ensures.machine c.args.code.now c.advance.ensures.machine) (c.settle.ensures.stage c.args.code.now) c.new-overlay.result.entries c.new-overlay.ensures.empty in
    let watched = c.in_ok-reads.ensures.watched st.led.state c.args.entry.now.number (side_at c.args.entry.now.number st.led.state) 0 begun in
    stands-there g.M.Runner.meaning c.args.code.now (g.met.M.Runner.accepted c.args.code.now) (g.met.M.Runner.sound c.args.code.now) c.args.entry.now (ap is_note c.requires.kind) _ entries st (quiet-of c.args.entry.now.answer (sym c.is_some.ensures ∙ c.if-is_some.false))
    c.in-Some.member.now c.in-Some.ensures.value c.in_ok-machine.machine (g.met.M.Runner.same_machines c.args.code.now c.in-Some.member.now c.in_ok-machine.machine c.in_ok-machine.ensures)
    (g.met.M.Runner.stage_shown c.args.code.now c.in-Some.member.now c.in_ok-machine.machine c.in_ok-machine.ensures)
    c.advance.new.self c.advance.ensures.machine c.advance.ensures.ran c.in_ok-_next._next c.in_ok-_next.ensures.told c.settle.new.self
    (c.settle.ensures.machine c.args.code.now c.advance.ensures.machine) (c.settle.ensures.stage c.args.code.now) c.new-overlay.result.entries c.new-overlay.ensures.empty
    (ap (λ (k : EntryKind). is_shut k (g.M.Runner.meaning.stage c.args.code.now c.settle.new.self).inside) c.requires.kind) c.run.new.overlay.entries c.run.new.machine c.in_ok-want.want
    (λ s i side n a. let here = c.in_ok-reads.ensures.watched s i side n a in c.in_ok-want.ensures.whole s i side here.made here.stands) c.in_ok-reads.reads.entries
    watched.told watched.each
