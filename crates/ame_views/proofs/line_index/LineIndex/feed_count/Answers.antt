use Rattle.std.proofs.Common.{◌≡◌, ◌≤◌, true, false, nat_lt, List, ℕ, length, sym, ◌∙◌, subst, arith, rules}
use Rattle.std.proofs.lemmas.List.Sorted.{IsPartitionedBy-ltb, IsPartitionPoint-from_clause}
use Rattle.std.specs.List.Sorted.{IsPartitionedBy, IsPartitionPoint}
use Rattle.ame_views.specs.LineIndex.{feeds_before}
use Rattle.ame_views.proofs.LineIndexLemmas.{feeds-rise, feeds-point}
use Rattle.ame_views.proofs.line_index.LineIndex.feed_count.Goals as goal

pub returns-clause-value : goal.returns-clause-value
returns-clause-value c =
    let text = c.args.self.now.text.now in
    let place = c.args.place in
    let same : c.as_slice.result.now ≡ feeds_before text (length text) = c.as_slice.ensures.value ∙ c.args.self.now.listed in
    let parted : IsPartitionedBy (λ (f : ℕ). nat_lt f place) c.as_slice.result.now =
    subst (λ (xs : List ℕ). IsPartitionedBy (λ (f : ℕ). nat_lt f place) xs) (sym same)
    (IsPartitionedBy-ltb (λ (f : ℕ). f) _ place (feeds-rise text (length text) (omega arith))) in
    let point = IsPartitionPoint-from_clause (λ (f : ℕ). nat_lt f place) _ _ c.partition_point.ensures.partitioned parted (λ a r q k. search rules) in
    feeds-point text place c.partition_point.result c.requires
    (subst (λ (xs : List ℕ). c.partition_point.result ≤ length xs) same c.partition_point.ensures.bound)
    (subst (λ (xs : List ℕ). IsPartitionPoint (λ f. nat_lt f place ≡ true) (λ f. nat_lt f place ≡ false) xs c.partition_point.result) same point)
