-- Forms with one part: a part's fault is the form's, and the room of a `ref` form.
use Rattle.std.proofs.Common.{◌≡◌, ℕ, List, [], ◌∷◌, ◌++◌, length, set, refl, ap, append_assoc, Ok, ◌∙◌}
use Rattle.std.proofs.lemmas.List.{map-set}
use Rattle.ame_term.specs.Tree.{Typ}
use Rattle.ame_term.specs.Typing.{own_ref_type, no_cells}
use Rattle.ame_term.specs.declared.types.Unary.{Unary}
use Rattle.ame_term.specs.declared.types.Unary.TheVariants as unary
use Rattle.ame_types.specs.Unary.{ref_room, filled}

-- the item after a prefix is changed
set-behind : {X : Type 0} (front back : List X) (x y : X) → set ((front ++ x ∷ []) ++ back) (length front) y ≡ front ++ (y ∷ back)
set-behind [] back x y = refl
set-behind (z ∷ front) back x y = ap (λ zs. z ∷ zs) (set-behind front back x y)

module _ (devices : ℕ) (front back types : List Typ) (n : ℕ) where
  -- the room that was made gets the part's type, before what the part stores
  pub filled_room : (op : Unary) (t : Typ) → types ≡ (front ++ ref_room op) ++ back → n ≡ length front →
      filled op types n t ≡ front ++ own_ref_type devices no_cells op (Ok t) back
  filled_room (unary.Ref sort number) t e m = rw (e, m) (set-behind front back Typ.Unit t)
  filled_room unary.Not t e m = e ∙ simp append_assoc
  filled_room unary.Get t e m = e ∙ simp append_assoc
  filled_room unary.Peek t e m = e ∙ simp append_assoc
  filled_room unary.Block t e m = e ∙ simp append_assoc
  filled_room unary.Print t e m = e ∙ simp append_assoc
  filled_room (unary.Call device) t e m = e ∙ simp append_assoc
  filled_room unary.First t e m = e ∙ simp append_assoc
  filled_room unary.Second t e m = e ∙ simp append_assoc

pub ruleset lists = (map-set)
