use Rattle.std.proofs.Common.{◌≡◌, ◌<◌, ◌^◌, ◌∙◌, ◌++◌, All, ap, codes, decimal, sym, subst}
use Rattle.ame_journal.specs.Text.{entry_line}
use Rattle.ame_journal.specs.Lines.{part_of, answer_text}
use Rattle.ame_journal.proofs.SpellingLemmas.{line-parts, on_ok, fresh_text, holds_ok}
use Rattle.ame_journal.proofs.spelling.write_line.Goals as goal

pub returns-clause-written : goal.returns-clause-written
returns-clause-written c =
    let e = c.args.entry.now in
    let old = c.args.text.now.items in
    let e1 = c.in_ok-write.ensures ∙ ap (λ w. old ++ w) c.word.ensures in
    let e2 = c.in_ok-write_number.ensures.written ∙ ap (λ n. c.write.new.text.items ++ part_of (decimal n)) c.from.ensures in
    let e3 = c.in_ok-write_number-2.ensures.written in
    let e4 = c.in_ok-write_number-3.ensures.written in
    let e5 = c.in_ok-write_fresh.ensures.written ∙ ap (λ ls. c.write_number-3.new.text.items ++ fresh_text ls) (sym c.as_slice.ensures) in
    let e6 = c.in_ok-write_answer.ensures.written in
    let front : c.write_answer.new.text.items ++ codes "\n" ≡ old ++ entry_line e =
    ap (λ t. t ++ codes "\n") (e6 ∙ ap (λ t. t ++ answer_text e.answer) (e5 ∙ ap (λ t. t ++ fresh_text e.fresh) (e4 ∙ ap (λ t. t ++ part_of (decimal e.steps)) (e3 ∙ ap (λ t. t ++ part_of (decimal e.number)) (e2 ∙ ap (λ t. t ++ part_of (decimal e.seat)) e1)))))
    ∙ line-parts old e in
    on_ok _ _ c.write-2.result (λ is. is ∙ front) c.write-2.ensures

pub returns-clause-spellable : goal.returns-clause-spellable
returns-clause-spellable c =
    let e = c.args.entry.now in
    let fresh : All (λ l. l < 2 ^ 32) e.fresh = subst (All (λ l. l < 2 ^ 32)) (sym c.as_slice.ensures) c.in_ok-write_fresh.ensures.range in
    holds_ok _ c.write-2.result
    (record {
      fit = c.requires;
      number = c.in_ok-write_number-2.ensures.range;
      steps = c.in_ok-write_number-3.ensures.range;
      fresh = fresh;
      answer = c.in_ok-write_answer.ensures.range;
    })
