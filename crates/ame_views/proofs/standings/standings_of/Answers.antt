use Rattle.std.proofs.Common.{ℕ, List, ◌++◌, IfSome, ap, ◌∙◌}
use Rattle.ame_journal.specs.declared.entry.Entry.{Entry}
use Rattle.ame_check.specs.Shows.{StandsForEntries}
use Rattle.ame_views.specs.FragmentMeaning.{fragment_meaning}
use Rattle.ame_views.specs.Begun.{TellsBegun, IsStartedAt}
use Rattle.ame_views.specs.Standings.{TellsStanding}
use Rattle.ame_views.proofs.BegunLemmas.{started-there}
use Rattle.ame_views.proofs.StandingsLemmas.{tell-begins, tell-goes-on, told-some}
use Rattle.ame_views.proofs.standings.standings_of.Goals as goal

pub loop-certificate-init : goal.loop-certificate-init
loop-certificate-init c =
    tell-begins c.in_ok-lines.lines.text.now c.args.code.now c.args.entries.now c.in-Some.led.replay.cells.entries c.args.certificates.now _ c.new-page.ensures

pub loop-certificate-preserved : goal.loop-certificate-preserved
loop-certificate-preserved c =
    let stands =
    told-some
    (λ (l : _). StandsForEntries fragment_meaning c.args.code.now c.args.entries.now (record {
      cells = l.replay.cells.entries;
      members = l.replay.members.entries;
      output = l.replay.output.items;
      next = l.replay.next;
    }))
    c.in_ok-led.field-0 c.in-Some.led c.in-Some.is c.in_ok-led.ensures.stands in
    let begun = told-some (λ (l : _). TellsBegun c.args.code.now c.args.entries.now l.begun.entries) c.in_ok-led.field-0 c.in-Some.led c.in-Some.is c.in_ok-led.ensures.begun in
    let started : IfSome c.started_position-started.result (IsStartedAt c.in_ok-lines.lines.text.now c.args.code.now c.args.entries.now c.certificate-item.result.number) =
    started-there c.in_ok-lines.lines.text.now c.args.code.now c.args.entries.now c.in-Some.led.begun.entries c.certificate-item.result.number c.started_position-started.result
    c.started_position-started.ensures.there begun in
    let told =
    told-some
    (λ (v : _). (es : List Entry) → StandsForEntries fragment_meaning c.args.code.now es (record {
      cells = c.in-Some.led.replay.cells.entries;
      members = c.in-Some.led.replay.members.entries;
      output = c.in-Some.led.replay.output.items;
      next = c.in-Some.led.replay.next;
    }) → IfSome c.started_position-started.result (IsStartedAt c.in_ok-lines.lines.text.now c.args.code.now es c.certificate-item.result.number)
    → TellsStanding c.in_ok-lines.lines.text.now c.args.code.now es c.in-Some.led.replay.cells.entries c.certificate-item.result v.items)
    c.in_ok-part.field-0 c.in-Some-2.part c.in-Some-2.is c.in_ok-part.ensures c.args.entries.now stands started in
    tell-goes-on c.in_ok-lines.lines.text.now c.args.code.now c.args.entries.now c.in-Some.led.replay.cells.entries c.args.certificates.now c.loop-certificate.certificate-index
    c.loop-certificate-test.true c.certificate-item.result c.certificate-item.is c.loop-certificate.page c.in-Some-2.part.items c.add.new.self
    c.loop-certificate.invariant told
    (c.in_ok-add.ensures ∙ ap (λ (xs : List ℕ). c.loop-certificate.page ++ xs) c.deref-in-loop-certificate-3.ensures.value)
