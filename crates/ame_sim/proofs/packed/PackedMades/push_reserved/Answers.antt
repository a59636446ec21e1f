use Rattle.std.proofs.Common.{[], ◌∷◌, ◌++◌, ap, ◌∙◌}
use Rattle.ame_sim.specs.Woven.{MadesView}
use Rattle.ame_sim.proofs.WovenLemmas.{grown-did, grown-waited}
use Rattle.ame_sim.proofs.packed.PackedMades.push_reserved.Goals as goal

pub invariant_of-self : goal.invariant_of-self
invariant_of-self c =
    (grown-did _ _ _ c.args.made _ c.self.invariant c.is_waited-waited.ensures c.push_reserved.ensures.items _ c.push_reserved-then-not-waited.ensures.items
    c.if-not-waited.true).kept

pub invariant_of-self-else-not-waited : goal.invariant_of-self-else-not-waited
invariant_of-self-else-not-waited c =
    (grown-waited _ _ _ c.args.made _ c.self.invariant c.is_waited-waited.ensures c.push_reserved.ensures.items c.requires.plain c.if-not-waited.false).kept

pub returns-then-not-waited : goal.returns-then-not-waited
returns-then-not-waited c =
    (grown-did _ _ _ c.args.made _ c.self.invariant c.is_waited-waited.ensures c.push_reserved.ensures.items _ c.push_reserved-then-not-waited.ensures.items
    c.if-not-waited.true).items
    ∙ ap (λ (v : MadesView). v.items ++ c.args.made ∷ []) c.self.view_is

pub returns-else-not-waited : goal.returns-else-not-waited
returns-else-not-waited c =
    (grown-waited _ _ _ c.args.made _ c.self.invariant c.is_waited-waited.ensures c.push_reserved.ensures.items c.requires.plain c.if-not-waited.false).items
    ∙ ap (λ (v : MadesView). v.items ++ c.args.made ∷ []) c.self.view_is
