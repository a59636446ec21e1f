-- Lists that grow at their end.
use Rattle.std.specs.Prelude.{List, [], ◌∷◌, ◌++◌, Option, Some, None}
use Rattle.std.specs.declared.snapshot.Snapshot.{Snapshot}

-- the values before the last one, and that one
abbrev pub traced : {V : Type 0} → Option (Snapshot (List V) × Snapshot V) → List V
traced None = []
traced (Some last) = last.0.value ++ last.1.value ∷ []
