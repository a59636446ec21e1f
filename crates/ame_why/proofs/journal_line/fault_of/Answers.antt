use Rattle.std.proofs.Common.{◌≡◌, ◌≤◌, ◌+◌, ℕ, List, Bool, ◌||◌, ◌<◌, length, ap, subst, sym, refl, ◌∙◌, arith, rules}
use Rattle.std.specs.Prelude.{codes}
use Rattle.std.specs.Str.{bytes_eq}
use Rattle.ame_why.specs.BadLines.{IsLineError, ReadsTo, MayStand, wanted, ending, next_part}
use Rattle.ame_why.specs.Words.{word_from}
use Rattle.ame_why.specs.declared.journal_line.LinePart.{LinePart}
use Rattle.ame_why.proofs.journal_line.fault_of.Goals.{then-is_free, else-is_free}
use Rattle.ame_why.proofs.journal_line.fault_of.Goals as goal

pub loop-word-init : goal.loop-word-init
loop-word-init c = (omega arith, ReadsTo.none)

pub returns-then-not-may_stand-clause-fault : goal.returns-then-not-may_stand-clause-fault
returns-then-not-may_stand-clause-fault c =
    IsLineError.word c.loop-word.part c.loop-word.is_free c.loop-word.invariant.1 (search rules)
    (c.wanted.ensures ∙ ap (wanted c.loop-word.part) c.word_from-word.ensures)

pub returns-then-word-line-clause-fault : goal.returns-then-word-line-clause-fault
returns-then-word-line-clause-fault c =
    let stands : MayStand c.loop-word.is_free c.loop-word.part (word_from c.args.line.now c.loop-word.start) =
    subst (MayStand c.loop-word.is_free c.loop-word.part) c.word_from-word.ensures (c.may_stand.ensures.0 (search rules)) in
    let long : length c.args.line.now ≤ c.loop-word.start + length (word_from c.args.line.now c.loop-word.start) =
    subst (λ (w : List ℕ). length c.args.line.now ≤ c.loop-word.start + length w) c.word_from-word.ensures (grind arith) in
    IsLineError.whole c.loop-word.start c.loop-word.part c.loop-word.is_free c.loop-word.invariant.1 stands long refl
    (c.ending.ensures ∙ ap (ending c.loop-word.part) c.word_from-word.ensures)

pub loop-word-preserved : goal.loop-word-preserved
loop-word-preserved c =
    let line = c.args.line.now in
    let start = c.loop-word.start in
    let word = word_from line start in
    let is : c.word_from-word.result.now ≡ word = c.word_from-word.ensures in
    let stands : MayStand c.loop-word.is_free c.loop-word.part word =
    subst (MayStand c.loop-word.is_free c.loop-word.part) is (c.may_stand.ensures.0 (search rules)) in
    let short : start + length word < length line = subst (λ (w : List ℕ). start + length w < length line) is (omega arith) in
    let free : c.if-is_free.is_free ≡ (c.loop-word.is_free || bytes_eq word (codes "free")) =
    elim c.if-is_free.branch [ then-is_free w ↦ search rules | else-is_free w ↦ search rules ] in
    let place : start + length word + 1 ≡ start + (length c.word_from-word.result.now + 1) =
    ap (λ (w : List ℕ). start + length w + 1) (sym is) ∙ omega arith in
    let reads : ReadsTo line (start + length word + 1) (next_part c.loop-word.part word) (c.loop-word.is_free || bytes_eq word (codes "free")) =
    ReadsTo.more start c.loop-word.part c.loop-word.is_free c.loop-word.invariant.1 stands short in (
      omega arith,
      subst (λ (p : LinePart). ReadsTo line (start + (length c.word_from-word.result.now + 1)) p c.if-is_free.is_free)
          (ap (next_part c.loop-word.part) (sym is) ∙ sym c.next_part-part.ensures)
          (subst (λ (n : ℕ). ReadsTo line n (next_part c.loop-word.part word) c.if-is_free.is_free) place
          (subst (λ (b : Bool). ReadsTo line (start + length word + 1) (next_part c.loop-word.part word) b) (sym free) reads)),
    )
