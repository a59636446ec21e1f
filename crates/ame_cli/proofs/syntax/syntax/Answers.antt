use Rattle.std.proofs.Common.{◌≡◌, ◌∙◌, ◌+◌, ◌<◌, ◌∷◌, length, drop, get_or, drop-cons, add-one, ap, sym, refl, true}
use Rattle.std.proofs.Math.ListN.{drop_of_length-le}
use Rattle.std.specs.List.{fold}
use Rattle.clap.specs.Words.{app_of, is_simple, is_simple_and_free, with_subcommand}
use Rattle.ame_cli.specs.declared.verb.Verb.TheVariants.{Run}
use Rattle.ame_cli.specs.Syntax.{syntax, verb_app, with_verb}
use Rattle.ame_cli.specs.Verbs.{verbs}
use Rattle.ame_cli.proofs.syntax.syntax.Goals as goal

simple : is_simple syntax ≡ true
unfolding verbs
simple = refl

free : is_simple_and_free syntax ≡ true
unfolding verbs
free = refl

whole : (c : goal.After-loop-verb) → app_of c.loop-verb.all ≡ syntax
whole c = sym (ap (fold with_verb (app_of c.loop-verb.all)) (drop_of_length-le c.all-verb-items.result.now c.loop-verb-test.false)) ∙ c.loop-verb.invariant

pub returns-clause-simple : goal.returns-clause-simple
returns-clause-simple c = ap is_simple (whole c) ∙ simple

pub returns-clause-free : goal.returns-clause-free
returns-clause-free c = ap is_simple_and_free (whole c) ∙ free

pub loop-verb-preserved : goal.loop-verb-preserved
loop-verb-preserved c =
    let i = c.loop-verb.verb-index in
    let all = c.all-verb-items.result.now in
    let more : i < length all = c.loop-verb-test.true in
    let next : drop i all ≡ get_or all i Run ∷ drop (i + 1) all = rw add-one (drop-cons all i Run more) in
    let shape : app_of c.in_ok-all.all ≡ with_verb (app_of c.loop-verb.all) (get_or all i Run) =
    c.in_ok-all.ensures.shape c.in_ok-verb_syntax.ensures.local
    ∙ ap (λ a. with_subcommand (app_of c.loop-verb.all) a.top) (c.in_ok-verb_syntax.ensures.shape ∙ ap verb_app c.form.ensures.word) in
    ap (λ a. fold with_verb a (drop (i + 1) all)) shape ∙ sym (ap (fold with_verb (app_of c.loop-verb.all)) next) ∙ c.loop-verb.invariant
