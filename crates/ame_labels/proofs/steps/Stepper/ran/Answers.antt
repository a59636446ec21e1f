use Rattle.std.proofs.Common.{true, cond, None, map, sym, ap, ◌∙◌}
use Rattle.std.specs.BTreeMap.{is_at}
use Rattle.std.specs.BTreeSet.{BTreeSet, contains}
use Rattle.std.specs.Ordering.{nat_cmp}
use Rattle.ame_term.specs.declared.semantics.Label.{Label}
use Rattle.ame_labels.specs.Steppers.{StepsAlong}
use Rattle.ame_labels.proofs.StepperLemmas.{makes-end, makes-leave, makes-from, uses-all, adds-inside, none-of, none-by-test, told-some}
use Rattle.ame_labels.proofs.steps.Stepper.ran.Goals as goal
use Rattle.std.proofs.Common.{ℕ}

pub returns-then-not-is_begun : goal.returns-then-not-is_begun
returns-then-not-is_begun c = λ e r stands.
    makes-from c.args.entry.now c.args.self.now c.take.new.self c.arrive.new.self (c.in_ok-is_begun.ensures.refused c.if-not-is_begun.true).0 (c.in_ok-is_here.ensures e) r stands

pub returns-then-may_end : goal.returns-then-may_end
returns-then-may_end c = λ e r stands.
    let entry = c.args.entry.now in
    let before = c.args.self.now in
    let begun = c.take.new.self in
    let done = c.steps.new.self in
    let steps =
    uses-all None entry.steps (map (λ l. l.0) c.as_slice-fresh.result.now) (map (λ l. l.0) c.in-Some.rest.now) entry.fresh begun done
    (told-some (λ (z : _). StepsAlong None entry.steps (map (λ l. l.0) c.as_slice-fresh.result.now) (map (λ l. l.0) z.now) begun done) c.in_ok-rest.field-0 c.in-Some.rest c.in-Some.is
    c.in_ok-rest.ensures)
    (sym c.as_slice-fresh.ensures) (none-of c.in-Some.rest.now (sym c.is_empty.ensures ∙ c.if-not-is_empty.false)) in
    makes-end r entry before stands c.requires (none-by-test entry.answer (sym c.is_some.ensures ∙ c.if-is_some.false)) (sym c.contains.ensures ∙ c.if-contains.false) begun done
    (c.in_ok-is_begun.ensures.made c.if-not-is_begun.false) steps c.take-then-may_end.new.self (c.in_ok-is_over.ensures.made e)
    (c.in_ok-is_over.ensures.inside ∙ steps.kept ∙ c.in_ok-is_begun.ensures.inside)

pub returns : goal.returns
returns c = λ e r stands.
    let entry = c.args.entry.now in
    let before = c.args.self.now in
    let begun = c.take.new.self in
    let done = c.steps.new.self in
    let left = c.take-2.new.self in
    let steps =
    uses-all None entry.steps (map (λ l. l.0) c.as_slice-fresh.result.now) (map (λ l. l.0) c.in-Some.rest.now) entry.fresh begun done
    (told-some (λ (z : _). StepsAlong None entry.steps (map (λ l. l.0) c.as_slice-fresh.result.now) (map (λ l. l.0) z.now) begun done) c.in_ok-rest.field-0 c.in-Some.rest c.in-Some.is
    c.in_ok-rest.ensures)
    (sym c.as_slice-fresh.ensures) (none-of c.in-Some.rest.now (sym c.is_empty.ensures ∙ c.if-not-is_empty.false)) in
    makes-leave r entry before stands c.requires (none-by-test entry.answer (sym c.is_some.ensures ∙ c.if-is_some.false)) (sym c.contains.ensures ∙ c.if-contains.false) begun done
    (c.in_ok-is_begun.ensures.made c.if-not-is_begun.false) steps (record left { inside = c.insert.new.self })
    (adds-inside Label.Leave done left c.insert.new.self (c.in_ok-is_left.ensures.made c.if-not-is_left.false))
    (λ k.
    c.in_ok-insert.ensures.updates.0 k
    ∙ ap (λ (z : BTreeSet ℕ). cond (is_at (nat_cmp entry.number) k) true (contains nat_cmp z k)) (c.in_ok-is_left.ensures.inside ∙ steps.kept ∙ c.in_ok-is_begun.ensures.inside))
