use Rattle.std.proofs.Common.{ℕ, List, IfSome, sym, ap, ◌∙◌, subst}
use Rattle.ame_journal.specs.declared.entry.Entry.{Entry}
use Rattle.ame_check.specs.Shows.{StandsForEntries}
use Rattle.ame_why.specs.declared.position.Position.{Position}
use Rattle.ame_views.specs.FragmentMeaning.{fragment_meaning}
use Rattle.ame_views.specs.Begun.{TellsBegun, IsStartedAt}
use Rattle.ame_views.specs.Standings.{note_lines, LeadsNoteTo, TellsHalted}
use Rattle.ame_views.proofs.BegunLemmas.{started-there}
use Rattle.ame_views.proofs.StandingsLemmas.{tells-halted, told-some}
use Rattle.ame_views.proofs.standings.halted_of.Goals as goal

pub returns : goal.returns
returns c =
    let stands =
    told-some
    (λ (l : _). StandsForEntries fragment_meaning c.args.code.now c.args.entries.now (record {
      cells = l.replay.cells.entries;
      members = l.replay.members.entries;
      output = l.replay.output.items;
      next = l.replay.next;
    }))
    c.in_ok-led.field-0 c.in-Some.led c.in-Some.is c.in_ok-led.ensures.stands in
    let begun = told-some (λ (l : _). TellsBegun c.args.code.now c.args.entries.now l.begun.entries) c.in_ok-led.field-0 c.in-Some.led c.in-Some.is c.in_ok-led.ensures.begun in
    let started : IfSome c.started_position-started.result (IsStartedAt c.in_ok-lines.lines.text.now c.args.code.now c.args.entries.now c.args.note.now.number) =
    started-there c.in_ok-lines.lines.text.now c.args.code.now c.args.entries.now c.in-Some.led.begun.entries c.args.note.now.number c.started_position-started.result
    c.started_position-started.ensures.there begun in
    let comes =
    told-some
    (λ (s : _). (es : List Entry) → StandsForEntries fragment_meaning c.args.code.now es (record {
      cells = c.in-Some.led.replay.cells.entries;
      members = c.in-Some.led.replay.members.entries;
      output = c.in-Some.led.replay.output.items;
      next = c.in-Some.led.replay.next;
    }) → LeadsNoteTo c.in_ok-lines.lines.text.now c.args.code.now es c.args.note.now s.want s.reads.entries s.there)
    c.in_ok-stance.field-0 c.in-Some-2.stance c.in-Some-2.is c.in_ok-stance.ensures c.args.entries.now stands in
    subst (λ (text : List ℕ). TellsHalted text c.args.code.now c.args.entries.now c.args.note.now c.in_ok-page.page.items) c.in_ok-lines.ensures
    (tells-halted c.in_ok-lines.lines.text.now c.args.code.now c.args.entries.now c.args.note.now
    (record {
      cells = c.in-Some.led.replay.cells.entries;
      members = c.in-Some.led.replay.members.entries;
      output = c.in-Some.led.replay.output.items;
      next = c.in-Some.led.replay.next;
    })
    c.in-Some-2.stance.want c.in-Some-2.stance.reads.entries c.in-Some-2.stance.there stands (sym c.confirms.ensures ∙ c.if-not-confirms.false) comes
    c.started_position-started.result started c.in_ok-page.page.items
    (c.in_ok-page.ensures
    ∙ ap (λ (f : List Position). note_lines f c.in-Some.led.replay.cells.entries c.args.note.now c.started_position-started.result c.in-Some-2.stance.there c.in-Some-2.stance.reads.entries)
    (c.deref-3.ensures.value ∙ c.in_ok-forms.ensures)))
