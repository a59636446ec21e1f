use Rattle.std.proofs.Common.{◌∙◌, ap, subst}
use Rattle.std.specs.Arc.{arc_value}
use Rattle.ame_journal.specs.Totals.{without_notes}
use Rattle.ame_check.specs.Shows.{ReplayView, StandsForEntries}
use Rattle.ame_code.specs.FlatCode.{FlatCode}
use Rattle.ame_value.specs.declared.val.Val.{Val}
use Rattle.ame_engine.proofs.ResumedLemmas.{stands-as}
use Rattle.ame_eval.specs.declared.fragment.Fragment.{Fragment}
use Rattle.ame_app.specs.Fragments.{fragments}
use Rattle.ame_app.proofs.LeftLemmas.{leads-left}
use Rattle.ame_app.proofs.verbs.weak.rest_of.Goals as goal

pub returns : goal.returns
returns c =
    let parts = c.into_parts-cells.result in
    let acts = c.entries-2.result.now in
    let place : ReplayView Val Fragment = record { cells = parts.0.entries; members = parts.1.entries; output = parts.2.items; next = parts.3 } in
    let there = stands-as fragments c.deref.result.now acts parts _ c.into_parts-cells.ensures (λ m. m.entries) (λ m. m.entries) (λ v. v.items) c.in-Ok.ensures.led in
    leads-left (arc_value c.args.code.now) c.args.journal.now.entries acts place
    (c.entries-2.ensures.entries ∙ c.in_ok-acts.ensures ∙ ap without_notes c.entries.ensures.entries)
    (subst (λ (k : FlatCode). StandsForEntries fragments k acts place) c.deref.ensures there) c.in_ok-store_of.field-0 c.in_ok-store_of.ensures
