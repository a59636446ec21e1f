-- The next item of a list.
use Rattle.std.specs.Prelude.{◌≡◌, ℕ, List, ◌++◌, drop}

-- these come next in the list from a place on
abbrev pub ComeNext : {A : Type 0} → List A → ℕ → List A → Type 0
ComeNext {A = A} all k few = (others : List A) × (drop k all ≡ few ++ others)
