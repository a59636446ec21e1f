use Rattle.std.proofs.Common.{◌≡◌, ◌<◌, ◌^◌, sym, ◌∙◌, arith}
use Rattle.std.proofs.lemmas.Fmt.{decimal_injective}
use Rattle.ame_why.proofs.journal_line.is_up_to.Goals as goal

pub returns-in-Some : goal.returns-in-Some
returns-in-Some c = (
  (λ t. (c.in-Some.value, grind arith, c.in-Some.ensures.0)),
  λ u.
      let small : u.0 < 2 ^ 64 = omega arith in
      let same : c.in-Some.value ≡ u.0 = decimal_injective c.in-Some.value u.0 c.in-Some.ensures.1 small (sym c.in-Some.ensures.0 ∙ u.2) in
      grind arith,
)
