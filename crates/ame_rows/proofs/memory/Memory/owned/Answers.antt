use Rattle.std.proofs.Common.{subst, map}
use Rattle.std.specs.Prelude.{IsPermutation}
use Rattle.ame_term.specs.declared.types.Loc.{Loc}
use Rattle.ame_rows.specs.Entries.{places}
use Rattle.ame_rows.proofs.FieldLemmas.{opened, told, log_in}
use Rattle.ame_rows.proofs.RisingLemmas.{strictly_rising}
use Rattle.ame_rows.proofs.memory.Memory.owned.Goals as goal

pub returns-clause-same : goal.returns-clause-same
returns-clause-same g c =
    let o = opened c.self.inside.store c.self.inside.rows.items c.self.view_is c.self.invariant c.requires c.index.ensures in
    told o (λ _ notes. IsPermutation (places notes.undos) (map (λ (l : Loc). l.0) c.in_ok-locs.locs.items))
    (subst (λ undos. IsPermutation (places undos) (map (λ (l : Loc). l.0) c.in_ok-locs.locs.items)) c.undos.ensures c.in_ok-locs.ensures.same)

pub returns-clause-rising : goal.returns-clause-rising
returns-clause-rising g c =
    let o = opened c.self.inside.store c.self.inside.rows.items c.self.view_is c.self.invariant c.requires c.index.ensures in
    strictly_rising c.in_ok-locs.locs.items (places c.index.result.now.undos) (log_in o).once
    (subst (λ undos. IsPermutation (places undos) (map (λ (l : Loc). l.0) c.in_ok-locs.locs.items)) c.undos.ensures c.in_ok-locs.ensures.same)
    c.in_ok-locs.ensures.rising
