use Rattle.std.proofs.Common.{◌≡◌, ap, sym, ◌∙◌, Err, arith}
use Rattle.ame_parse.specs.declared.fault.ParseFault.TheVariants.{TooNested}
use Rattle.ame_parse.specs.Types.{ty, nested}
use Rattle.ame_parse.proofs.Turns.{deeper}
use Rattle.ame_parse.proofs.ty.+types.Goals as goal

pub nested-returns-then-depth-eq0 : goal.nested-returns-then-depth-eq0
unfolding nested
nested-returns-then-depth-eq0 t c _ =
    let none : c.args.depth ≡ 0 = omega arith in
    ap (λ n. nested n c.args.reader.now) none ∙ ap (λ p. Err (TooNested p)) (sym c.place.ensures)

pub nested-returns : goal.nested-returns
unfolding nested ty
nested-returns t c =
    rw (deeper (λ n. nested n c.args.reader.now) c.args.depth (omega arith), ← c.advance.ensures) c.compound.ensures
