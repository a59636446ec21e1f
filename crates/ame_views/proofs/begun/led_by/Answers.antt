use Rattle.std.proofs.Common.{ℤ, ◌+◌, List, [], ◌∷◌, ◌++◌, map, arith, take, drop, length, Vec, Global, refl, sym, ap, ◌∙◌, subst}
use Rattle.ame_check.proofs.JudgeLemmas.{low-so, made-so, halted-so}
use Rattle.ame_check.specs.Judge.{IsHalted}
use Rattle.ame_check.specs.Shows.{ReplayView}
use Rattle.ame_code.specs.Code.{program_of}
use Rattle.ame_value.specs.declared.val.Val.{Val}
use Rattle.ame_eval.specs.declared.fragment.Fragment.{Fragment}
use Rattle.ame_views.specs.FragmentMeaning.{fragment_meaning}
use Rattle.ame_views.proofs.BegunLemmas.{all-begins, all-goes-on, beginning-begins, beginning-goes-on, beginning-ends}
use Rattle.ame_views.proofs.PrintedLemmas.{printing-begins, printing-goes-on, printing-ends}
use Rattle.ame_views.proofs.StarterLemmas.{length-with, starting-begins, starting-goes-on, starting-ends}
use Rattle.ame_views.proofs.begun.led_by.Goals as goal

abbrev line_of : Vec ℤ Global → List ℤ
line_of v = v.items

pub loop-index-init : goal.loop-index-init
loop-index-init c = record {
  begins = beginning-begins c.args.code.now c.args.entries.now _ _ c.new-begun.ensures.empty c.in_ok-replay.ensures;
  seen = all-begins c.args.code.now c.args.entries.now _ _ _ (ap length c.new-starters.ensures.items) c.in_ok-replay.ensures;
  starts = starting-begins fragment_meaning c.args.code.now c.args.entries.now _ _ c.new-starters.ensures.items c.in_ok-replay.ensures;
  prints = printing-begins fragment_meaning c.args.code.now c.args.entries.now _ _ (ap (map line_of) c.new-lines.ensures.items) c.in_ok-replay.ensures;
  low = λ m within tall. let first = tall.place.0 in omega (arith, first, within);
}

pub loop-index-preserved : goal.loop-index-preserved
loop-index-preserved c =
    let i = c.loop-index.index in
    let code = c.args.code.now in
    let entries = c.args.entries.now in
    let entry = c.index-entries-index.result in
    let before : ReplayView Val Fragment = record {
      cells = c.loop-index.replay.cells.entries;
      members = c.loop-index.replay.members.entries;
      output = c.loop-index.replay.output.items;
      next = c.loop-index.replay.next;
    } in
    let later : ReplayView Val Fragment = record {
      cells = c.make.new.self.cells.entries;
      members = c.make.new.self.members.entries;
      output = c.make.new.self.output.items;
      next = c.make.new.self.next;
    } in
    let came = c.in_default.ensures.made (take i entries) c.loop-index.invariant.begins.stands in
    let stands = came.1 in
    record {
      begins =
          beginning-goes-on code entries i c.loop-index-test.true entry c.index-entries-index.is before later c.loop-index.begun.entries c.note_begun.new.begun.entries
          c.loop-index.invariant.begins stands c.in_ok-note_begun.ensures.begun;
      seen =
          all-goes-on code entries i (length c.loop-index.starters.items) (length c.note_started.new.starters.items) before later c.loop-index.begun.entries
          c.note_begun.new.begun.entries c.loop-index.invariant.begins.stands
          (made-so fragment_meaning code entries i i refl before c.loop-index.invariant.begins.stands c.loop-index-test.true entry c.index-entries-index.is later stands)
          c.loop-index.invariant.seen c.in_ok-note_begun.ensures.keeps c.in_ok-note_begun.ensures.all
          (ap length c.in_ok-note_started.ensures ∙ length-with (i + 1) later.next c.loop-index.starters.items);
      starts =
          starting-goes-on fragment_meaning code entries i c.loop-index-test.true entry c.index-entries-index.is c.loop-index.starters.items before later
          c.loop-index.invariant.starts stands c.note_started.new.starters.items c.in_ok-note_started.ensures;
      prints =
          printing-goes-on fragment_meaning code entries i c.loop-index-test.true entry c.index-entries-index.is (map line_of c.loop-index.lines.items)
          (drop (length before.output) later.output) before later c.loop-index.invariant.prints stands refl (map line_of c.note_lines.new.lines.items)
          (c.in_ok-note_lines.ensures
          ∙ ap (λ (line : List ℤ). map line_of c.loop-index.lines.items ++ line ∷ [])
          (ap (λ (zs : List ℤ). drop (length zs) c.as_slice.result.now) c.as_slice-printed.ensures.value
          ∙ ap (λ (zs : List ℤ). drop (length before.output) zs) c.as_slice.ensures.value));
      low = low-so fragment_meaning code entries i i refl before c.loop-index.invariant.begins.stands c.loop-index-test.true entry c.index-entries-index.is c.loop-index.invariant.low came.0;
    }

pub returns-clause-stands : goal.returns-clause-stands
returns-clause-stands c =
    beginning-ends c.args.code.now c.args.entries.now c.loop-index.index _ c.loop-index.begun.entries c.loop-index-test.false c.loop-index.invariant.begins

pub returns-clause-begun : goal.returns-clause-begun
returns-clause-begun c = c.loop-index.invariant.begins.told

pub returns-clause-all : goal.returns-clause-all
returns-clause-all c = c.loop-index.invariant.seen.all

pub returns-clause-starters : goal.returns-clause-starters
returns-clause-starters c =
    starting-ends fragment_meaning c.args.code.now c.args.entries.now c.loop-index.index c.loop-index.starters.items _ c.loop-index-test.false
    c.loop-index.invariant.starts

pub returns-clause-lines : goal.returns-clause-lines
returns-clause-lines c =
    printing-ends fragment_meaning c.args.code.now c.args.entries.now c.loop-index.index (map line_of c.loop-index.lines.items) _ c.loop-index-test.false
    c.loop-index.invariant.prints

pub returns-in-Err-clause-halted : goal.returns-in-Err-clause-halted
returns-in-Err-clause-halted c =
    subst (IsHalted (program_of c.args.code.now) c.args.entries.now) (sym c.at.ensures)
    (halted-so fragment_meaning c.args.code.now c.args.entries.now c.loop-index.index c.loop-index.index refl _ c.loop-index.invariant.begins.stands c.loop-index-test.true
    c.index-entries-index.result c.index-entries-index.is c.loop-index.invariant.low c.in-Err.error
    (c.in-Err.ensures.halted (take c.loop-index.index c.args.entries.now) c.loop-index.invariant.begins.stands))
