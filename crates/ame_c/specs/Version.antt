-- The version of the library.
use Rattle.std.specs.Prelude.{ℕ}

abbrev pub version : ℕ
version = 2
