use Rattle.std.proofs.Common.{◌-◌, ◌<◌, ◌≤◌, length, arith}
use Rattle.ame_why.specs.Binders.{spells, bound_in}
use Rattle.ame_why.proofs.BinderLemmas.{search_goes_on, search_finds}
use Rattle.ame_why.proofs.binders.binder_of.Goals as goal

pub returns-in-Some : goal.returns-in-Some
returns-in-Some c =
    let left = c.loop-left.left in
    let some : 0 < left = c.loop-left-test.true in
    let most : left ≤ length c.args.places.now = c.loop-left.invariant.within in
    search_finds (spells c.args.text.now c.args.name) (bound_in c.args.text.now c.args.tokens.now c.args.name.start) c.args.places.now left (left - 1) _ _
    c.binder_in.result c.in-Some.binder (omega (arith, some)) (omega (arith, some, most)) c.binder_in.ensures c.in-Some.is c.loop-left.invariant.rest

pub loop-left-preserved : goal.loop-left-preserved
loop-left-preserved c =
    let left = c.loop-left.left in
    let some : 0 < left = c.loop-left-test.true in
    let most : left ≤ length c.args.places.now = c.loop-left.invariant.within in
    record {
      within = omega (arith, some, most);
      rest = search_goes_on (spells c.args.text.now c.args.name) (bound_in c.args.text.now c.args.tokens.now c.args.name.start) c.args.places.now left (left - 1) _ _
          c.binder_in.result (omega (arith, some)) (omega (arith, some, most)) c.binder_in.ensures c.in-None.is c.loop-left.invariant.rest;
    }
