use Rattle.std.proofs.Common.{◌≡◌, ◌++◌, ℕ, List, codes, sym, ap, subst, ◌∙◌, arith}
use Rattle.std.proofs.lemmas.Grind.{common_steps}
use Rattle.std.proofs.lemmas.Result.{IfOk-weaker}
use Rattle.ame_picture.specs.Hidden.{HasHidden, hidden}
use Rattle.ame_picture.proofs.HiddenLemmas.{holds}
use Rattle.ame_picture.proofs.course.course_picture_of.Goals as goal

pub returns : goal.returns
returns c =
    let text = c.args.labels.now.certificate.items in
    let P : List ℕ → Type 0 = λ page. HasHidden page (codes "certificate") text in
    let before = c.legend.new.self.page in
    let e : c.hide.new.self.page ≡ before ++ hidden (codes "certificate") text = grind (arith, common_steps) in
    IfOk-weaker c.finish.result (λ page. page.items ≡ c.hide.new.self.page ++ codes "</svg>\n") (λ page. P page.items)
    (λ page is. subst P (sym (is ∙ ap (λ l. l ++ codes "</svg>\n") e)) (holds before (codes "certificate") text (codes "</svg>\n"))) c.finish.ensures
