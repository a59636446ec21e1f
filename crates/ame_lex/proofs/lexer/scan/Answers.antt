use Rattle.std.proofs.Common.{◌<◌, length, sym, rules}
use Rattle.ame_lex.proofs.ScanLemmas.{begins_so, after_blank, after_space, after_found, at_bad, at_long, at_end}
use Rattle.ame_lex.proofs.lexer.scan.Goals as goal

pub loop-rest-init : goal.loop-rest-init
loop-rest-init c = rw c.new-tokens.ensures.items (begins_so c.args.text.now)

pub loop-rest-preserved-then-rest-eq32 : goal.loop-rest-preserved-then-rest-eq32
loop-rest-preserved-then-rest-eq32 c =
    let some : 0 < length c.loop-rest.rest.now = search rules in
    rw c.split_at.ensures.back (after_blank _ _ _ c.loop-rest.invariant some (search rules))

pub loop-rest-preserved-in-Space : goal.loop-rest-preserved-in-Space
loop-rest-preserved-in-Space c =
    let some : 0 < length c.loop-rest.rest.now = search rules in
    rw c.split_at-in-Space.ensures.back (after_space _ _ _ c.loop-rest.invariant some _ (sym c.in-Space.ensures.value) (search rules) (search rules))

pub loop-rest-preserved : goal.loop-rest-preserved
loop-rest-preserved c =
    let some : 0 < length c.loop-rest.rest.now = search rules in
    rw (c.in_ok-push-in-Found.ensures.items, c.split_at-in-Found.ensures.back)
    (after_found _ _ _ c.loop-rest.invariant some _ _ (sym c.in-Found.ensures.value) (search rules) (search rules))

pub returns-in-Bad : goal.returns-in-Bad
returns-in-Bad c =
    let some : 0 < length c.loop-rest.rest.now = search rules in
    at_bad _ _ _ c.loop-rest.invariant some _ (sym c.in-Bad.ensures.value)

pub returns-in-Long : goal.returns-in-Long
returns-in-Long c =
    let some : 0 < length c.loop-rest.rest.now = search rules in
    at_long _ _ _ c.loop-rest.invariant some (sym c.in-Long.ensures.value)

pub returns : goal.returns
returns c = at_end _ _ _ c.loop-rest.invariant (search rules)
