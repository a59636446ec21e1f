-- A part of a `do` form before the last: Unit, or a fault. A form with one part: its own fault, or its row's answer.
use Rattle.std.proofs.Common.{◌+◌, ◌++◌, map, slice_index, ap, ◌∙◌, arith, rules}
use Rattle.std.proofs.lemmas.Result.{err_from_is_err_and}
use Rattle.ame_term.specs.Tree.{Tree}
use Rattle.ame_term.specs.View.{tree_of, trees_of}
use Rattle.ame_types.specs.Shared.{shared_type}
use Rattle.ame_term.specs.SourceTerm.{nodes, IsSourceTerm, IsBound}
use Rattle.ame_term.specs.Shown.{TypeOutcome}
use Rattle.ame_term.specs.Typing.{typed, ref_types_in, unary_row, no_cells}
use Rattle.ame_types.specs.Scope.{scope_of}
use Rattle.ame_types.specs.declared.check_state.CheckState.{CheckState}
use Rattle.ame_types.proofs.Parts.{goes_on, gives_value}
use Rattle.ame_types.proofs.UnaryLemmas.{filled_room}
use Rattle.ame_types.proofs.SharedLemmas.{listed, all_listed, longer}
use Rattle.ame_types.proofs.Faults.{at_fault, at_first, by_row, keeps}
use Rattle.ame_types.proofs.check_state.Checker.+checker.Goals as goal

pub sequence-loop-rest-preserved : goal.sequence-loop-rest-preserved
sequence-loop-rest-preserved t c =
    let k = c.in_ok-found.ensures.ty in
    let walk = goes_on _ _ _ _ _ _ _ _ _ _ _ c.loop-rest.invariant.walk c.loop-rest-test.true c.index-rest-0.is c.split_at.ensures.back k.0 c.in_ok-require.ensures k.1 k.2 in
    record { walk = walk; listed = c.in_ok-found.ensures.listed.0 }

pub sequence-returns-in_err-require-clause-ty : goal.sequence-returns-in_err-require-clause-ty
unfolding typed
sequence-returns-in_err-require-clause-ty t c =
    let p = err_from_is_err_and c.from_residual-in_err-require.result c.from_residual-in_err-require.ensures.1 in
    rw (p.1, p.2)
    (at_fault c.args.self.now c.args.site c.args.seen.now c.do_part.new.seen (Tree.Do (trees_of c.args.parts.now)) _ _ _ c.in_err-require.ensures
    (λ s. gives_value _ _ _ _ _ _ _ _ _ c.loop-rest.invariant.walk c.loop-rest-test.true c.index-rest-0.is c.in_ok-found.ensures.ty.0 c.place-place.ensures s))

pub one-returns-in_err-stand-clause-ty : goal.one-returns-in_err-stand-clause-ty
unfolding typed
one-returns-in_err-stand-clause-ty t c =
    let places = slice_index c.args.self.now.places.now in
    let i = c.args.seen.now.next + 1 in
    let p = err_from_is_err_and c.from_residual.result c.from_residual.ensures.1 in
    rw (p.1, p.2)
    (at_first c.args.self.now c.args.site c.args.seen.now c.args.seen.now (Tree.One c.args.op (tree_of c.args.part.now)) _
    (c.in_err-stand.ensures.err (places i)
    (typed c.args.self.now.devices no_cells places (scope_of c.args.site.scope.now) c.args.site.effect i (tree_of c.args.part.now))))

pub one-returns-clause-ty : goal.one-returns-clause-ty
unfolding typed ref_types_in nodes
one-returns-clause-ty t c =
    let devices = c.args.self.now.devices in
    let places = slice_index c.args.self.now.places.now in
    let i = c.args.seen.now.next in
    let found = c.in_ok-found.ensures.ty in
    let others = ref_types_in devices no_cells places (scope_of c.args.site.scope.now) c.args.site.effect (i + 1) (tree_of c.args.part.now) in
    let front = map shared_type c.args.seen.now.ref_tys.items in
    let new : CheckState = record { next = c.term.new.seen.next; ref_tys = c.fill.new.tys; types = c.unary_ty.new.types } in
    by_row c.args.self.now c.args.site c.args.seen.now new (Tree.One c.args.op (tree_of c.args.part.now)) _ c.unary_ty.result
    (c.unary_ty.ensures.ty devices c.in_ok-stand.ensures.ok)
    (rw c.place-place.ensures (ap (λ (r : TypeOutcome). unary_row devices c.args.op (places i) (places (i + 1)) c.args.site.effect r) found.0))
    (c.fill.ensures
    ∙ filled_room devices front others _ _ c.args.op _ (found.1 ∙ ap (λ refs. refs ++ others) c.in_ok-room.ensures.room) c.in_ok-room.ensures.number
    ∙ rw found.0)
    (omega (arith, found.2))

pub one-returns-clause-listed : goal.one-returns-clause-listed
one-returns-clause-listed t c =
    let new : CheckState = record { next = c.term.new.seen.next; ref_tys = c.fill.new.tys; types = c.unary_ty.new.types } in
    keeps c.args.site.scope.now new c.unary_ty.result
    (all_listed c.unary_ty.ensures.stays c.args.site.scope.now c.in_ok-found.ensures.listed.0) c.unary_ty.ensures.listed

pub pair-returns-clause-listed : goal.pair-returns-clause-listed
pair-returns-clause-listed t c =
    let kept = rw c.within.ensures.scope at c.in_ok-second.ensures.listed.0 in
    (all_listed c.in_ok-ty.ensures.stays c.args.site.scope.now kept.0, c.in_ok-ty.ensures.listed)

pub plain-term-requires : goal.plain-term-requires
unfolding nodes IsSourceTerm IsBound
plain-term-requires t c =
    let source = rw c.requires.none at c.requires.source in (
      search rules,
      (
        (omega (arith, source.0), source.1, source.2),
        (all_listed c.in_ok-param.ensures.stays c.args.site.scope.now c.requires.listed, c.in_ok-param.ensures.listed),
      ),
    )

pub plain-returns-clause-listed : goal.plain-returns-clause-listed
plain-returns-clause-listed t c =
    (all_listed c.in_ok-ty.ensures.stays c.args.site.scope.now c.in_ok-body.ensures.listed.0.0, c.in_ok-ty.ensures.listed)

pub recursive-function-requires-clause-answer : goal.recursive-function-requires-clause-answer
recursive-function-requires-clause-answer t c = listed c.in_ok-param.ensures.stays _ c.in_ok-answer.ensures.listed

pub recursive-term-requires : goal.recursive-term-requires
unfolding nodes IsSourceTerm IsBound
recursive-term-requires t c =
    let source = rw c.requires.own at c.requires.source in
    let last = c.in_ok-ty.ensures.stays in
    let both = longer c.in_ok-param.ensures.stays last in (
      search rules,
      (
        (omega (arith, source.0), source.1, source.2),
        (
          (
            (all_listed (longer c.in_ok-answer.ensures.stays both) c.args.site.scope.now c.requires.listed, listed both _ c.in_ok-answer.ensures.listed),
            c.in_ok-ty.ensures.listed,
          ),
          listed last _ c.in_ok-param.ensures.listed,
        ),
      ),
    )
