use Rattle.std.proofs.Common.{◌≡◌, ◌≤◌, ℕ, length, sym, ap, subst, ◌∙◌, arith, Err}
use Rattle.ame_term.specs.View.{tree_of}
use Rattle.ame_weak.specs.View.{weak_of}
use Rattle.ame_weak.specs.Straightened.{EndsActive, AddsEntries}
use Rattle.ame_weak.specs.Tries.{noted_tries}
use Rattle.ame_weak.proofs.StraightenedLemmas.{on-more, on-refused, on-end}
use Rattle.ame_weak.proofs.straightening.told.Goals as goal
use Rattle.ame_weak.proofs.straightening.told.Goals.{in-Some, in-None}

pub returns-in-Err-Illegal : goal.returns-in-Err-Illegal
returns-in-Err-Illegal c =
    let refused = c.in-Err-Illegal.ensures.illegal.0 (ap Err c.in-Err-Illegal.field-0-is) in
    on-refused (tree_of c.args.accepted.now.program.term) c.args.labels.now c.args.tries.now c.loop-n.n (weak_of c.loop-n.state) c.loop-n.transcript c.loop-n.rest.now
    c.loop-n.invariant _ c.loop-n-test.true refused

pub loop-n-preserved : goal.loop-n-preserved
loop-n-preserved c =
    on-more (tree_of c.args.accepted.now.program.term) c.args.labels.now c.args.tries.now c.loop-n.n (weak_of c.loop-n.state) c.loop-n.transcript c.loop-n.rest.now
    c.loop-n.invariant _ (weak_of c.step.new.self) c.note_all.new.self c.write.new.self c.in_ok-rest.rest.now c.loop-n-test.true
    c.in_ok-rest.ensures.notes c.in_ok-rest.ensures.later c.in-Ok.ensures.ok c.in_ok-write-in-Ok.ensures

pub returns : goal.returns
returns c =
    let past : length c.args.labels.now ≤ c.loop-n.n = c.loop-n-test.false in
    let within : c.loop-n.n ≤ length c.args.labels.now = c.loop-n.auto.n-end in
    let all : length c.args.labels.now ≡ c.loop-n.n = omega arith in
    let e = on-end (tree_of c.args.accepted.now.program.term) c.args.labels.now c.args.tries.now c.loop-n.n (weak_of c.loop-n.state) c.loop-n.transcript c.loop-n.rest.now
    c.loop-n.invariant c.note_all-2.new.self c.loop-n-test.false
    (subst (λ (m : ℕ). AddsEntries (noted_tries m c.loop-n.rest.now) c.loop-n.transcript c.note_all-2.new.self) all c.in_ok-_none.ensures.notes) in
    elim c.match-active.branch [
      | in-Some w ↦ rw w.result-is (subst (EndsActive (tree_of c.args.accepted.now.program.term) c.args.labels.now) (sym c.active.ensures ∙ w.in-Some.is) e.0)
      | in-None w ↦ rw w.result-is (subst (EndsActive (tree_of c.args.accepted.now.program.term) c.args.labels.now) (sym c.active.ensures ∙ w.in-None.is) e.0, e.1)
    ]
