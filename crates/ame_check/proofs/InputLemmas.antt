-- The search for the line `program`.
use Rattle.std.proofs.Common.{◌≡◌, ◌⊎◌, inl, inr, ℕ, ◌+◌, ◌<◌, ◌≤◌, List, [], ◌++◌, length, codes, sym, ◌∙◌, subst, arith}
use Rattle.std.proofs.lemmas.List.{drop_all}
use Rattle.ame_check.specs.Input.{HasProgramLine}

-- there is none before a place
abbrev pub HasNoneBefore : List ℕ → ℕ → Type 0
HasNoneBefore bytes at = (k : ℕ) → k < at → HasProgramLine bytes k → ⊥

pub none-at_front : (bytes : List ℕ) → HasNoneBefore bytes 0
none-at_front bytes k below line = absurd (omega arith)

pub none-further : (bytes : List ℕ) (at : ℕ) → HasNoneBefore bytes at → (HasProgramLine bytes at → ⊥) → HasNoneBefore bytes (at + 1)
none-further bytes at before none k below = by (below-or-same k at (omega arith))
  where
    below-or-same : (k n : ℕ) → k ≤ n → (k < n) ⊎ (k ≡ n)
    below-or-same k n within = grind arith

    by : (k < at) ⊎ (k ≡ at) → HasProgramLine bytes k → ⊥
    by (inl under) line = before k under line
    by (inr same) line = none (subst (HasProgramLine bytes) same line)

pub none-anywhere : (bytes : List ℕ) (at : ℕ) → length bytes ≤ at → HasNoneBefore bytes at → (k : ℕ) → HasProgramLine bytes k → ⊥
none-anywhere bytes at all before k line = by (below-or-far k at)
  where
    below-or-far : (k n : ℕ) → (k < n) ⊎ (n ≤ k)
    below-or-far k n = grind arith

    by : (k < at) ⊎ (at ≤ k) → ⊥
    by (inl under) = before k under line
    by (inr far) =
        let none : [] ≡ codes "program\n" ++ line.rest = sym (drop_all k bytes (omega arith)) ∙ line.line in
        cc
