use Rattle.std.proofs.Common.{◌≡◌, ℕ, List, ◌++◌, [], Some, Option, OnOk, codes, ap, sym, subst, ◌∙◌, append_assoc}
use Rattle.std.proofs.lemmas.List.{append-nil}
use Rattle.std.proofs.lemmas.Result.{on_ok_weaker}
use Rattle.ame_lex.specs.declared.tokens.Token.{Token}
use Rattle.ame_why.specs.Binders.{bound_words}
use Rattle.ame_why.specs.Placed.{placed_within}
use Rattle.ame_why.proofs.rules.append_bound.Goals as goal

pub returns : goal.returns
returns c =
    let old = c.args.message.now in
    let words = codes "bound here:\n" in
    let shown = placed_within c.args.text.now c.in-Some.binder.start in
    let bound = c.deref.ensures.value ∙ c.in_ok-bound.ensures ∙ append-nil shown in
    subst (λ (binder : Option Token). OnOk c.add-2.result (c.add-2.new.self ≡ old ++ bound_words c.args.text.now binder)) (sym c.in-Some.is)
    (on_ok_weaker c.add-2.result
    (λ added. added ∙ ap (λ (xs : List ℕ). c.add.new.self ++ xs) bound ∙ ap (λ (xs : List ℕ). xs ++ shown) c.in_ok-add.ensures ∙ append_assoc old words shown)
    c.add-2.ensures)
