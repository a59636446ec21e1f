-- A stretch, a number or a token keeps its bytes if something else follows it.
use Rattle.std.proofs.Common.{◌≡◌, ℕ, Bool, false, ℤ, [], ◌∷◌, ◌++◌, refl}
use Rattle.ame_lex.specs.declared.tokens.Kind.{Kind}
use Rattle.ame_lex.specs.Bytes.{Text, begins, IsStretch}
use Rattle.ame_lex.specs.Grammar.{IsNumber, plain, negative, IsToken, opening, closing, word, number, symbol, minus}

-- what ended a run still does
pub record EndsSo (rest other : Text) : Type 0 where
  pub ends : (p : ℕ → Bool) → begins p rest ≡ false → begins p other ≡ false

pub run-on : {p : ℕ → Bool} {text run rest : Text} (other : Text) → EndsSo rest other → IsStretch p text run rest → IsStretch p (run ++ other) run other
run-on {p} other so r = record { split = refl; pass = r.pass; longest = so.ends p r.longest }

pub number-on : {text spelling rest : Text} {value : ℤ} (other : Text) → EndsSo rest other → IsNumber text value spelling rest → IsNumber (spelling ++ other) value spelling other
number-on other so (plain digit run) = plain digit (run-on other so run)
number-on other so (negative sign_is digit run) = negative sign_is digit (run-on other so run)

pub token-on : {text spelling rest : Text} {kind : Kind} (other : Text) → EndsSo rest other → IsToken text kind spelling rest → IsToken (spelling ++ other) kind spelling other
token-on other so (opening e) = opening e
token-on other so (closing e) = closing e
token-on other so (word e run) = word e (run-on other so run)
token-on other so (number n fit alone) = number (number-on other so n) fit (so.ends _ alone)
token-on other so (symbol e) = symbol e
token-on other so (minus e alone) = minus e (so.ends _ alone)

pub ends_at_once : (rest : Text) → EndsSo rest []
ends_at_once rest = record { ends = λ p h. refl }

-- texts with one front end runs alike
pub ends_alike : (front rest other : Text) → EndsSo rest other → EndsSo (front ++ rest) (front ++ other)
ends_alike [] rest other so = so
ends_alike (b ∷ front) rest other so = record { ends = λ p h. h }

pub ends_alike_some : (b : ℕ) (rest other : Text) → EndsSo (b ∷ rest) (b ∷ other)
ends_alike_some b rest other = record { ends = λ p h. h }
