use Rattle.std.proofs.Common.{rules, ◌≡◌, ◌+◌, ◌<◌, List, ℕ, [], ◌∷◌, ◌++◌, All, sym, ◌∙◌, subst, arith}
use Rattle.std.proofs.lemmas.List.Elements.{All-nil, All-push, All-weaker}
use Rattle.ame_engine.proofs.BlockedLemmas.{below-zero, numbers-joined, numbers-passed, numbers-end}
use Rattle.ame_engine.proofs.engine.Engine.numbers.Goals as goal
use Rattle.ame_engine.proofs.engine.Engine.numbers.Goals.{then-is_some+in_ok-push, else-is_some}

below-more : (k : ℕ) (ns : List ℕ) → All (λ n. n < k) ns → All (λ n. n < k + 1) ns
below-more k ns all = All-weaker (λ n. n < k) (λ n. n < k + 1) (λ n h. omega (arith, h)) ns all

pub loop-number-init : goal.loop-number-init
loop-number-init g c = record {
  so_far = c.new-numbers.ensures.items ∙ sym (below-zero c.args.self.now.pool.members);
  below = subst (λ (ns : List ℕ). All (λ n. n < 0) ns) (sym c.new-numbers.ensures.items) (All-nil (λ n. n < 0));
}

pub loop-number-preserved : goal.loop-number-preserved
loop-number-preserved g c =
    let older = below-more c.loop-number.number c.loop-number.numbers.items c.loop-number.invariant.below in
    elim c.if-is_some.branch [
      | then-is_some+in_ok-push w ↦
          let pushes : c.if-is_some.numbers.items ≡ c.loop-number.numbers.items ++ c.loop-number.number ∷ [] = search rules in
          record {
            so_far = numbers-joined g.M.Runner.meaning
                _ c.args.self.now c.self.view_is c.self.invariant.whole c.loop-number.number c.inside.result c.inside.ensures
                c.is_some.result c.is_some.ensures c.loop-number.numbers.items c.loop-number.invariant.so_far w.if-is_some.true c.if-is_some.numbers.items pushes;
            below = subst (λ (ns : List ℕ). All (λ n. n < c.loop-number.number + 1) ns) (sym pushes)
                (All-push (λ n. n < c.loop-number.number + 1) c.loop-number.numbers.items c.loop-number.number older (omega arith));
          }
      | else-is_some w ↦
          let same : c.if-is_some.numbers.items ≡ c.loop-number.numbers.items = search rules in
          record {
            so_far = numbers-passed g.M.Runner.meaning
                _ c.args.self.now c.self.view_is c.self.invariant.whole c.loop-number.number c.inside.result c.inside.ensures
                c.is_some.result c.is_some.ensures c.loop-number.numbers.items c.loop-number.invariant.so_far w.if-is_some.false c.if-is_some.numbers.items same;
            below = subst (λ (ns : List ℕ). All (λ n. n < c.loop-number.number + 1) ns) (sym same) older;
          }
    ]

pub returns-clause-numbers : goal.returns-clause-numbers
returns-clause-numbers g c =
    numbers-end g.M.Runner.meaning
    _ c.args.self.now c.self.view_is c.self.invariant.whole c.loop-number.number c.loop-number-test.false c.loop-number.auto.number-end
    c.loop-number.numbers.items c.loop-number.invariant.so_far
