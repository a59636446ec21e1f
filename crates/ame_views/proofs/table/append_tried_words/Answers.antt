use Rattle.std.proofs.Common.{◌++◌, codes, decimal, ap, ◌∙◌, append_assoc}
use Rattle.std.proofs.lemmas.Result.{on_ok_weaker}
use Rattle.ame_views.specs.Table as spec
use Rattle.ame_views.proofs.table.append_tried_words.Goals as goal

pub returns : goal.returns
unfolding spec.tried_words
returns c =
    let old = c.args.page.now in
    let words = codes " rolled back; its reads were last valid after entry " in
    let number = decimal c.args.at in
    on_ok_weaker c.add-2.result
    (λ added. added
    ∙ ap (λ xs. xs ++ codes "\n") (c.in_ok-add_number.ensures ∙ ap (λ xs. xs ++ number) c.in_ok-add.ensures)
    ∙ append_assoc (old ++ words) number (codes "\n") ∙ append_assoc old words (number ++ codes "\n"))
    c.add-2.ensures
