-- The effect of writing a whole text on the bytes that a sink holds, if it reports them.
use Rattle.std.specs.Prelude.{◌≡◌, ℕ, List, ◌++◌, take, Option}
use Rattle.std.specs.Io.KnownBytes.{Appends}

-- exactly the first n of these bytes were appended
abbrev pub AppendsFirst : ℕ → Option (List ℕ) → Option (List ℕ) → List ℕ → Type 0
AppendsFirst n before after bytes = Appends before after (take n bytes)

-- a prefix of these bytes was appended, and nothing else
pub record AppendsFront (before after : Option (List ℕ)) (bytes : List ℕ) : Type 0 where
  pub front : List ℕ
  pub rest : List ℕ
  pub split : bytes ≡ front ++ rest
  pub appended : Appends before after front
