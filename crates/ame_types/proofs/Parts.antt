-- A walk along the parts of a `do` form.
use Rattle.std.proofs.Common.{◌≡◌, ℕ, ◌+◌, ◌<◌, ◌≤◌, List, [], ◌∷◌, ◌++◌, length, get_or, drop, refl, ◌∙◌, subst, arith, append_assoc, Ok, true, false}
use Rattle.ame_term.specs.Tree.{Typ}
use Rattle.ame_term.specs.View.{tree_of, trees_of}
use Rattle.ame_term.specs.SourceTerm.{nodes, all_nodes, AreSourceTerms, AllBound}
use Rattle.ame_term.specs.Scope.{Scope}
use Rattle.ame_term.specs.Shown.{not_unit}
use Rattle.ame_term.specs.Typing.{typed, typed_parts, ref_types_in, ref_types_in_parts, no_cells, same_type}
use Rattle.ame_term.specs.declared.types.Effect.{Effect}
use Rattle.ame_term.specs.declared.term.Term.{Term}
use Rattle.ame_types.specs.Fault.{mismatch}

module _ (devices : ℕ) (places : ℕ → ℕ) (scope : Scope) (names : List ℕ) (q : Effect) where
  -- a walk along the parts of a `do` form, which began at a node after some stored types, has come to
  -- another node, after more stored types, with the rest before it
  pub record Left (i : ℕ) (refs : List Typ) (all : List Term) (j : ℕ) (more : List Typ) (rest : List Term) : Type 0 where
    pub some : 0 < length rest
    pub outcome : typed_parts devices no_cells places scope q i (trees_of all) ≡ typed_parts devices no_cells places scope q j (trees_of rest)
    pub stored : refs ++ ref_types_in_parts devices no_cells places scope q i (trees_of all) ≡ more ++ ref_types_in_parts devices no_cells places scope q j (trees_of rest)
    pub nodes : i + all_nodes (trees_of all) ≡ j + all_nodes (trees_of rest)
    pub within : i ≤ j
    pub source : AreSourceTerms (trees_of rest)
    pub bound : AllBound names (trees_of rest)

  module _ {i : ℕ} {refs : List Typ} {all : List Term} {j : ℕ} {more : List Typ} where
    -- a part before the last that isn't Unit
    pub gives_value : (rest : List Term) (x : Term) (t : Typ) (place : ℕ) → Left i refs all j more rest → 1 < length rest → x ≡ get_or rest 0 x →
        typed devices no_cells places scope q j (tree_of x) ≡ Ok t → place ≡ places j → same_type t Typ.Unit ≡ false →
        typed_parts devices no_cells places scope q i (trees_of all) ≡ mismatch not_unit place t Typ.Unit
    unfolding typed_parts
    gives_value [] x t place l m e h p s = absurd (omega (arith, m))
    gives_value (y ∷ []) x t place l m e h p s = absurd (omega (arith, m))
    gives_value (y ∷ z ∷ zs) x t place l m e h p s =
        let k = subst (λ (z : Term). typed devices no_cells places scope q j (tree_of z) ≡ Ok t) e h in
        l.outcome ∙ rw k (rw (s, p) refl)

    -- a part before the last that is Unit
    pub goes_on : (rest tail : List Term) (x : Term) (t : Typ) (k : ℕ) (new : List Typ) → Left i refs all j more rest → 1 < length rest →
        x ≡ get_or rest 0 x → tail ≡ drop 1 rest → typed devices no_cells places scope q j (tree_of x) ≡ Ok t → same_type t Typ.Unit ≡ true →
        new ≡ more ++ ref_types_in devices no_cells places scope q j (tree_of x) → k ≡ j + nodes (tree_of x) →
        Left i refs all k new tail
    unfolding typed_parts ref_types_in_parts all_nodes AreSourceTerms AllBound
    goes_on [] tail x t k new l m e d h s n o = absurd (omega (arith, m))
    goes_on (y ∷ []) tail x t k new l m e d h s n o = absurd (omega (arith, m))
    goes_on (y ∷ z ∷ zs) tail x t k new l m e d h s n o =
        let h' = subst (λ (z : Term). typed devices no_cells places scope q j (tree_of z) ≡ Ok t) e h in
        let n' = subst (λ (z : Term). new ≡ more ++ ref_types_in devices no_cells places scope q j (tree_of z)) e n in
        let o' = subst (λ (z : Term). k ≡ j + nodes (tree_of z)) e o in
        rw d
        (record {
          some = omega arith;
          outcome = l.outcome ∙ rw h' (rw s (rw o' refl));
          stored = l.stored ∙ rw (n', o', append_assoc) refl;
          nodes = l.nodes ∙ rw o' (omega arith);
          within = omega (arith, l.within, o');
          source = l.source.1;
          bound = l.bound.1;
        })
