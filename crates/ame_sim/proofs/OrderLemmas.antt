-- Lists without some of their items.
use Rattle.std.proofs.Common.{ℕ, inl, inr, List, [], ◌∷◌, ◌++◌, refl}
use Rattle.ame_sim.specs.Run.{IsSubsequence}

-- one more that is left out
pub order-passed : (xs ys : List ℕ) (y : ℕ) → IsSubsequence xs ys → IsSubsequence xs (ys ++ y ∷ [])
order-passed [] ys y h = tt
order-passed (x ∷ xs) [] y h = absurd h
order-passed (x ∷ xs) (z ∷ ys) y (inl h) = inl (h.0, order-passed xs ys y h.1)
order-passed (x ∷ xs) (z ∷ ys) y (inr h) = inr (order-passed (x ∷ xs) ys y h)

-- one more that is taken
pub order-taken : (xs ys : List ℕ) (y : ℕ) → IsSubsequence xs ys → IsSubsequence (xs ++ y ∷ []) (ys ++ y ∷ [])
order-taken [] [] y h = inl (refl, tt)
order-taken [] (z ∷ ys) y h = inr (order-taken [] ys y tt)
order-taken (x ∷ xs) [] y h = absurd h
order-taken (x ∷ xs) (z ∷ ys) y (inl h) = inl (h.0, order-taken xs ys y h.1)
order-taken (x ∷ xs) (z ∷ ys) y (inr h) = inr (order-taken (x ∷ xs) ys y h)
