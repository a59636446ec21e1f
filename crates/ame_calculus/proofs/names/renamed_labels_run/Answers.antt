use Rattle.std.proofs.Common.{◌∙◌, ap}
use Rattle.ame_calculus.proofs.AgreeLemmas.{state-back}
use Rattle.ame_calculus.proofs.RenamedLemmas.{renamed_focus, focus-renamed, fill-renamed, substitute-renamed}
use Rattle.ame_calculus.proofs.RenamedRuns.{run-too}
use Rattle.ame_calculus.proofs.names.renamed_labels_run.Goals as goal

pub returns-clause-value : goal.returns-clause-value
returns-clause-value c = λ f t v e. focus-renamed f t ∙ ap (renamed_focus f) e

pub returns-clause-redex : goal.returns-clause-redex
returns-clause-redex c = λ f t r side e. focus-renamed f t ∙ ap (renamed_focus f) e

pub returns-clause-filled : goal.returns-clause-filled
returns-clause-filled c = fill-renamed

pub returns-clause-substituted : goal.returns-clause-substituted
returns-clause-substituted c = substitute-renamed

pub returns-clause-back : goal.returns-clause-back
returns-clause-back c = λ f g s t inverse r. (record { back = inverse.forth; forth = inverse.back }, state-back f g inverse s t r)

pub returns-clause-run : goal.returns-clause-run
returns-clause-run c = λ f g labels s t u inverse ordered others r e.
    let x = run-too f g inverse labels s t u ordered others r e in
    (x.behind, x.leads, x.renames)
