use Rattle.std.proofs.Common.{◌≡◌, true, sym, subst, arith}
use Rattle.ame_pool.proofs.Words.{IsWatched}
use Rattle.ame_pool.proofs.IndexLemmas.{names_nobody}
use Rattle.ame_pool.proofs.WakeLemmas.{waking_all}
use Rattle.ame_pool.proofs.pool.Pool.is_watched.Goals as goal

pub returns : goal.returns
returns g c none l =
    let empty : c.is_empty.result ≡ true = grind (arith, none) in
    let h = subst (λ s. IsWatched s c.self.inside.index) c.self.view_is c.self.invariant in
    sym (waking_all l h (names_nobody c.self.inside.index (c.is_empty.ensures.0 empty) l))
