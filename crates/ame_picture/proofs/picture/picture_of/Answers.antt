use Rattle.std.proofs.Common.{◌≡◌, ◌++◌, ℕ, List, codes, sym, ap, subst, ◌∙◌, arith}
use Rattle.std.proofs.lemmas.Grind.{common_steps}
use Rattle.std.proofs.lemmas.Result.{IfOk-weaker}
use Rattle.ame_picture.specs.Hidden.{HasHidden, hidden}
use Rattle.ame_picture.proofs.HiddenLemmas.{holds, holds_before}
use Rattle.ame_picture.proofs.picture.picture_of.Goals as goal

pub returns-clause-replay : goal.returns-clause-replay
returns-clause-replay c =
    let text = c.args.captions.now.replay.items in
    let other = hidden (codes "journal") c.args.captions.now.journal.items in
    let P : List ℕ → Type 0 = λ page. HasHidden page (codes "replay") text in
    let before = c.legend.new.self.page in
    let e : c.hide.new.self.page ≡ before ++ hidden (codes "replay") text = grind (arith, common_steps) in
    let f : c.hide-2.new.self.page ≡ c.hide.new.self.page ++ other = grind (arith, common_steps) in
    let whole = ap (λ l. l ++ codes "</svg>\n") (f ∙ ap (λ l. l ++ other) e) in
    IfOk-weaker c.finish.result (λ page. page.items ≡ c.hide-2.new.self.page ++ codes "</svg>\n") (λ page. P page.items)
    (λ page is. subst P (sym (is ∙ whole)) (holds_before before (codes "replay") text other (codes "</svg>\n"))) c.finish.ensures

pub returns-clause-journal : goal.returns-clause-journal
returns-clause-journal c =
    let text = c.args.captions.now.journal.items in
    let P : List ℕ → Type 0 = λ page. HasHidden page (codes "journal") text in
    let before = c.hide.new.self.page in
    let e : c.hide-2.new.self.page ≡ before ++ hidden (codes "journal") text = grind (arith, common_steps) in
    IfOk-weaker c.finish.result (λ page. page.items ≡ c.hide-2.new.self.page ++ codes "</svg>\n") (λ page. P page.items)
    (λ page is. subst P (sym (is ∙ ap (λ l. l ++ codes "</svg>\n") e)) (holds before (codes "journal") text (codes "</svg>\n"))) c.finish.ensures
