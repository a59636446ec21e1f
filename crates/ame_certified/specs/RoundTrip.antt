-- The judgment of the journal of a run.
use Rattle.std.specs.Prelude.{◌≡◌, ℤ, List, ⊤}
use Rattle.ame_check.specs.declared.judging.Judged.{Judged}
use Rattle.ame_check.specs.declared.judging.Judged.TheVariants as judged

-- it is valid, with this output, or it has too many steps to be judged
abbrev pub IsRoundTrip : List ℤ → Judged → Type 0
IsRoundTrip output (judged.Valid lines) = lines.items ≡ output
IsRoundTrip output (judged.Invalid n why) = ⊥
IsRoundTrip output (judged.Long n) = ⊤
IsRoundTrip output (judged.Tall n) = ⊥

-- so it is, or an entry passes a form that would become a value nested too deeply
abbrev pub IsNeverInvalid : List ℤ → Judged → Type 0
IsNeverInvalid output (judged.Valid lines) = lines.items ≡ output
IsNeverInvalid output (judged.Invalid n why) = ⊥
IsNeverInvalid output (judged.Long n) = ⊤
IsNeverInvalid output (judged.Tall n) = ⊤
