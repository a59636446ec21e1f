-- The test of a number's size decides whether the number fits.
use Rattle.std.proofs.Common.{◌≡◌, true, false, ℤ, pos, negsuc, FitsSigned, w64, arith}
use Rattle.ame_lex.specs.Reading.{fits_literal}

pub fits_so : (value : ℤ) → fits_literal value ≡ true → FitsSigned w64 value
fits_so (pos n) h = grind arith
fits_so (negsuc n) h = grind arith

pub fits_test : (value : ℤ) → FitsSigned w64 value → fits_literal value ≡ true
fits_test (pos n) h = grind arith
fits_test (negsuc n) h = grind arith

pub too_long : (value : ℤ) → fits_literal value ≡ false → ¬ (FitsSigned w64 value)
too_long (pos n) h = λ f. grind arith
too_long (negsuc n) h = λ f. grind arith

pub long_test : (value : ℤ) → ¬ (FitsSigned w64 value) → fits_literal value ≡ false
long_test (pos n) h = grind arith
long_test (negsuc n) h = grind arith
