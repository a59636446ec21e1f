-- Text in which no mark of XML is read.
use Rattle.std.specs.Prelude.{◌≢◌, ◌==◌, ◌||◌, ◌++◌, ℕ, Bool, List, ◌∷◌, [], All, if◌then◌else◌, codes, decimal}
use Rattle.std.specs.List.{flat_map}

-- whether a byte is one of `&`, `<`, `>` and `"`
abbrev pub is_mark : ℕ → Bool
is_mark byte = byte == 38 || byte == 60 || byte == 62 || byte == 34

-- a byte by its number
abbrev pub by_number : ℕ → List ℕ
by_number byte = codes "&#" ++ decimal byte ++ codes ";"

-- a byte that is a mark by its number, and any other one as it stands
abbrev pub escaped_byte : ℕ → List ℕ
escaped_byte byte = if is_mark byte then by_number byte else (byte ∷ [])

abbrev pub escaped : List ℕ → List ℕ
escaped text = flat_map escaped_byte text

-- nothing in a text opens or closes a mark
abbrev pub HasNoMark : List ℕ → Type 0
HasNoMark text = All (λ byte. (byte ≢ 60) × (byte ≢ 62) × (byte ≢ 34)) text
