use Rattle.std.proofs.Common.{◌≡◌, List, map, ap, sym, ◌∙◌}
use Rattle.ame_term.specs.View.{tree_of}
use Rattle.ame_term.specs.declared.term.Term.{Term}
use Rattle.ame_weak.proofs.ReleaseLemmas.{trees-map}
use Rattle.ame_weak.proofs.copy.WeakStateCopied.copy.Goals as goal

pub returns : goal.returns
returns c =
    let prints = sym (c.in_ok-prints.ensures.items ∙ c.as_slice.ensures.value) in
    let spawns : map tree_of c.args.self.now.spawns.items ≡ map tree_of c.in_ok-copy_parts.field-0.items =
    sym (trees-map c.in_ok-copy_parts.field-0.items c.as_slice-2.result.now c.in_ok-copy_parts.ensures
    ∙ ap (λ (bs : List Term). map tree_of bs) c.as_slice-2.ensures.value) in
    λ i. record { state = c.in_ok-copy.ensures i; prints = prints i; spawns = spawns i }
