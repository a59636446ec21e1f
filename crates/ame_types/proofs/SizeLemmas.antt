-- The nodes of a type, and of the types of a list.
use Rattle.std.proofs.Common.{◌≡◌, ℕ, ◌+◌, ◌<◌, ◌≤◌, List, map, sum, sum_by, take, get_or, length, ap, ◌∙◌, arith}
use Rattle.std.proofs.lemmas.List.Sums.{sum-map, sum_by_more_le}
use Rattle.std.proofs.lemmas.Simd.{map-map}
use Rattle.ame_term.specs.Tree.{Typ}
use Rattle.ame_types.specs.Shared.{shared_type}
use Rattle.ame_types.specs.Sizes.{type_nodes}
use Rattle.ame_types.specs.declared.shared_type.SharedType.{SharedType}

-- a type has a node
pub some_node : (t : Typ) → 0 < type_nodes t
some_node Typ.Unit = omega arith
some_node Typ.Bool = omega arith
some_node Typ.Int = omega arith
some_node (Typ.Ref sort content) = omega arith
some_node (Typ.Fun effect param result) = omega arith
some_node (Typ.Pair first second) = omega arith

nodes_by : (tys : List SharedType) → sum (map type_nodes (map shared_type tys)) ≡ sum_by (λ t. type_nodes (shared_type t)) tys
nodes_by tys = ap sum (map-map type_nodes shared_type tys) ∙ sum-map (λ t. type_nodes (shared_type t)) tys

-- the types before one and that one have at most the nodes of all
pub nodes_so_far : (tys : List SharedType) (i : ℕ) (ty : SharedType) → i < length tys → ty ≡ get_or tys i ty →
    sum (map type_nodes (map shared_type (take i tys))) + type_nodes (shared_type ty) ≤ sum (map type_nodes (map shared_type tys))
nodes_so_far tys i ty l is =
    let f : SharedType → ℕ = λ t. type_nodes (shared_type t) in
    let here : f ty ≡ f (get_or tys i ty) = ap f is in
    omega (arith, nodes_by (take i tys), nodes_by tys, sum_by_more_le f tys i ty l, here)
