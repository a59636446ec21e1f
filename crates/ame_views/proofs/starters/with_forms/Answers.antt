use Rattle.std.proofs.Common.{◌+◌, ◌<◌, ◌≤◌, arith, List, ℕ, length, map, get_or, ap, subst, ◌∙◌}
use Rattle.std.proofs.lemmas.List.{length-append, take_all}
use Rattle.ame_views.specs.declared.starters.Starter.{Starter}
use Rattle.ame_views.specs.Begun.{TellsForm}
use Rattle.ame_views.proofs.BegunLemmas.{tells-form}
use Rattle.ame_views.proofs.FormLemmas.{entries-more, forms-begin, forms-more, forms-told}
use Rattle.ame_views.proofs.starters.with_forms.Goals as goal

pub loop-index-init : goal.loop-index-init
loop-index-init c = record {
  count = ap length c.new-starters.ensures.items;
  entries = ap (λ (ss : List Starter). map (λ (s : Starter). s.entry) ss) c.new-starters.ensures.items;
  forms = λ entries begun all. forms-begin (TellsForm c.args.lines.now.text.now c.args.code.now entries) _ c.new-starters.ensures.items;
}

pub loop-index-preserved : goal.loop-index-preserved
loop-index-preserved c =
    let i = c.loop-index.index in
    let text = c.args.lines.now.text.now in
    let code = c.args.code.now in
    let told = c.args.led.now.starters.items in
    let old = c.loop-index.starters.items in
    let new = c.push.new.items.items in
    let listed = c.deref-entry-items.ensures.value in
    let added = c.in_ok-push.ensures.ok in
    let form = c.started_position-form.result in
    record {
      count = ap length added ∙ length-append old _ ∙ ap (λ (n : ℕ). n + 1) c.loop-index.invariant.count;
      entries =
          entries-more told old new _ i (subst (λ (es : List ℕ). i < length es) listed c.loop-index-test.true) c.loop-index.invariant.entries added
          (ap (λ (es : List ℕ). get_or es i 0) listed);
      forms = λ entries begun all.
          let low : 1 ≤ i + 1 = omega arith in
          let high : i + 1 ≤ length told = let inside = subst (λ (es : List ℕ). i < length es) listed c.loop-index-test.true in omega (arith, inside) in
          forms-more (TellsForm text code entries) old new _ i c.loop-index.invariant.count added (c.loop-index.invariant.forms entries begun all)
          (tells-form text code entries (length told) c.args.led.now.begun.entries (i + 1) low high begun all form c.started_position-form.ensures.there
          c.started_position-form.ensures.hidden);
    }

pub returns-clause-entries : goal.returns-clause-entries
returns-clause-entries c =
    let i = c.loop-index.index in
    c.loop-index.invariant.entries
    ∙ take_all i c.args.led.now.starters.items (subst (λ (es : List ℕ). length es ≤ i) c.deref-entry-items.ensures.value c.loop-index-test.false)

pub returns-clause-forms : goal.returns-clause-forms
returns-clause-forms c = λ entries begun all.
    forms-told (TellsForm c.args.lines.now.text.now c.args.code.now entries) _ (c.loop-index.invariant.forms entries begun all)
