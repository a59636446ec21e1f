use Rattle.std.proofs.Common.{List, subst, map}
use Rattle.std.specs.Prelude.{ℕ, IsPermutation}
use Rattle.std.proofs.lemmas.List.Sorted.{IsPermutation-map}
use Rattle.ame_term.specs.declared.types.Loc.{Loc}
use Rattle.ame_rows.proofs.rows.sorted_locations.Goals as goal

pub returns-clause-same : goal.returns-clause-same
returns-clause-same g c =
    subst (λ (q : List ℕ). IsPermutation q (map (λ (l : Loc). l.0) c.sort.new.locs.items)) c.in_ok-locs.ensures
    (IsPermutation-map (λ (l : Loc). l.0) c.in_ok-locs.locs.items c.sort.new.locs.items c.sort.ensures.same)
