use Rattle.std.proofs.Common.{◌≡◌, ap, sym, ◌∙◌, Err, rules, arith, map}
use Rattle.std.proofs.lemmas.Grind.{common_steps}
use Rattle.ame_term.specs.View.{tree_of}
use Rattle.ame_parse.specs.declared.fault.ParseFault.TheVariants.{TooNested}
use Rattle.ame_parse.specs.Reading.{term, nested, more, more_from}
use Rattle.ame_parse.proofs.Turns.{one_more, no_more, deeper}
use Rattle.ame_parse.proofs.grammar.+grammar.Goals as goal

pub more-loop-turn-init : goal.more-loop-turn-init
unfolding more
more-loop-turn-init t c = first_of (search rules, grind (arith, common_steps))

pub more-returns-then-sees_closing : goal.more-returns-then-sees_closing
unfolding more_from
more-returns-then-sees_closing t c =
    let e = one_more (λ n. more_from (term c.args.depth) n (map tree_of c.loop-turn.parts.items) c.loop-turn.reader) _ c.loop-turn._turn c.loop-turn-test.true c.loop-turn.invariant in
    first_of (search rules, grind (arith, common_steps))

pub more-returns-in_err-part : goal.more-returns-in_err-part
unfolding more_from
more-returns-in_err-part t c =
    let e = one_more (λ n. more_from (term c.args.depth) n (map tree_of c.loop-turn.parts.items) c.loop-turn.reader) _ c.loop-turn._turn c.loop-turn-test.true c.loop-turn.invariant in
    first_of (search rules, grind (arith, common_steps))

pub more-loop-turn-preserved : goal.more-loop-turn-preserved
unfolding more_from
more-loop-turn-preserved t c =
    let e = one_more (λ n. more_from (term c.args.depth) n (map tree_of c.loop-turn.parts.items) c.loop-turn.reader) _ c.loop-turn._turn c.loop-turn-test.true c.loop-turn.invariant in
    first_of (search rules, grind (arith, common_steps))

pub more-returns : goal.more-returns
unfolding more_from
more-returns t c =
    let e = no_more (λ n. more_from (term c.args.depth) n (map tree_of c.loop-turn.parts.items) c.loop-turn.reader) _ c.loop-turn._turn c.loop-turn-test.false c.loop-turn.invariant in
    first_of (search rules, grind (arith, common_steps))

pub nested-returns-then-depth-eq0 : goal.nested-returns-then-depth-eq0
unfolding nested
nested-returns-then-depth-eq0 t c _ =
    let none : c.args.depth ≡ 0 = omega arith in
    ap (λ n. nested n c.args.reader.now) none ∙ ap (λ p. Err (TooNested p)) (sym c.place.ensures)

pub nested-returns : goal.nested-returns
unfolding nested term
nested-returns t c =
    rw (deeper (λ n. nested n c.args.reader.now) c.args.depth (omega arith), ← c.advance.ensures) c.compound.ensures
