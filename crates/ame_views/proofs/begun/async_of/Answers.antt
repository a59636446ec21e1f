use Rattle.std.proofs.Common.{ℕ, Some, refl, sym, ap, ◌∙◌}
use Rattle.ame_views.proofs.begun.async_of.Goals as goal

pub returns-clause-form : goal.returns-clause-form
returns-clause-form c = (
  record {
    node = c.node-node.result.now;
    there = c.node-node.ensures.view;
    is = sym c.in-Some.ensures ∙ ap (λ (k : ℕ). Some k) c.if-inner-body.false;
  },
  refl,
)
