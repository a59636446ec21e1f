use Rattle.std.proofs.Common.{ℕ, List, ◌++◌, sym, ◌∙◌, ap, subst, arith}
use Rattle.ame_machine.specs.RefSorts.{WantsRefForm}
use Rattle.ame_check.proofs.ListLemmas.{lent-some, lent-none}
use Rattle.ame_check.proofs.WantLemmas.{allocate-out, allocate-taken_place, allocate-made}
use Rattle.ame_check.proofs.ReasonLemmas.{missing-met, taken-met}
use Rattle.ame_check.proofs.walk.Walk.allocate.Goals as goal

pub returns-in_default-clause-halted : goal.returns-in_default-clause-halted
returns-in_default-clause-halted g c = λ s i side n a total below.
    let none = c.in_default.ensures a.walking.rest (sym c.as_slice.ensures ∙ a.walking.front ∙ ap (λ (z : List ℕ). z ++ a.walking.rest) (sym (c.fresh.ensures c.args.self.now.code.now))) in (
      allocate-out g.M.Runner.meaning c.args.self.now.code.now (g.met.M.Runner.sound c.args.self.now.code.now) s i _ c.args.self.now.cells.now.entries c.args.overlay.now.entries c.args.machine.now side n a
          (c.args.sort, c.args.number, c.requires.wants) none total below,
      missing-met g.M.Runner.meaning c.args.self.now.code.now (g.met.M.Runner.sound c.args.self.now.code.now) s i _ c.args.self.now.cells.now.entries c.args.overlay.now.entries c.args.machine.now side n a
          total (omega arith) c.steps.result (c.steps.ensures c.args.self.now.code.now) (c.args.sort, c.args.number, c.requires.wants) none,
    )

pub returns-then-is_some-clause-halted : goal.returns-then-is_some-clause-halted
returns-then-is_some-clause-halted g c = λ s i side n a total below.
    let rest = c.in-Some.ensures a.walking.rest (sym c.as_slice.ensures ∙ a.walking.front ∙ ap (λ (z : List ℕ). z ++ a.walking.rest) (sym (c.fresh.ensures c.args.self.now.code.now))) in
    let v = lent-some c.found.result (sym c.is_some.ensures ∙ c.if-is_some.true) in (
      allocate-taken_place g.M.Runner.meaning c.args.self.now.code.now (g.met.M.Runner.sound c.args.self.now.code.now) s i _ c.args.self.now.cells.now.entries c.args.overlay.now.entries c.args.machine.now side n a
          c.in-Some.l.0 rest.0 v.0 (c.args.sort, c.args.number, c.requires.wants) rest.1 (sym v.1 ∙ c.found.ensures) total below,
      taken-met g.M.Runner.meaning c.args.self.now.code.now (g.met.M.Runner.sound c.args.self.now.code.now) s i _ c.args.self.now.cells.now.entries c.args.overlay.now.entries c.args.machine.now side n a
          total (omega arith) c.steps-then-is_some.result (c.steps-then-is_some.ensures c.args.self.now.code.now) (c.args.sort, c.args.number, c.requires.wants) c.in-Some.l rest.0 rest.1 v.0 (sym v.1 ∙ c.found.ensures),
    )

pub returns-clause-made : goal.returns-clause-made
returns-clause-made g c = λ s i side n a.
    let rest = c.in-Some.ensures a.walking.rest (sym c.as_slice.ensures ∙ a.walking.front ∙ ap (λ (z : List ℕ). z ++ a.walking.rest) (sym (c.fresh.ensures c.args.self.now.code.now))) in
    allocate-made g.M.Runner.meaning c.args.self.now.code.now (g.met.M.Runner.sound c.args.self.now.code.now) s i _ c.args.self.now.cells.now.entries c.args.overlay.now.entries c.args.machine.now side n a
    c.args.sort c.args.number c.in-Some.l rest.0 c.wanted.result.now c.in_ok-value.value c.feed.new.self c.requires.wants rest.1
    (sym (lent-none c.found.result (sym c.is_some.ensures ∙ c.if-is_some.false)) ∙ c.found.ensures) c.wanted.ensures.stage
    (g.met.M.Runner.same_values c.args.self.now.code.now c.wanted.result.now c.in_ok-value.value c.in_ok-value.ensures c.wanted.ensures.value)
    (subst (WantsRefForm (g.M.Runner.meaning.program c.args.self.now.code.now)) c.requires.wants (g.met.M.Runner.forms c.args.self.now.code.now c.args.machine.now a.walking.machine))
    (g.met.M.Runner.value_shown c.args.self.now.code.now c.wanted.result.now c.in_ok-value.value c.in_ok-value.ensures)
    c.feed.ensures.machine c.feed.ensures.stage c.insert.new.self.entries c.in_ok-insert.ensures.entries
