use Rattle.std.proofs.Common.{◌≡◌, ◌+◌, map, sum, take}
use Rattle.ame_term.specs.View.{typ_of}
use Rattle.ame_types.specs.Shared.{shared_type}
use Rattle.ame_types.specs.Sizes.{max_type_nodes, type_nodes}
use Rattle.ame_types.proofs.build.build_all.Given as goal

-- the types so far were built, of the nodes that are no longer left
abbrev pub invariant-loop-ty : goal.invariant-loop-ty
invariant-loop-ty l =
    (map typ_of l.all.items ≡ map shared_type (take l.ty-index l.tys))
    × (l.left + sum (map type_nodes (map shared_type (take l.ty-index l.tys))) ≡ max_type_nodes)
