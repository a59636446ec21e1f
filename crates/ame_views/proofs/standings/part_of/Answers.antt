use Rattle.std.proofs.Common.{List, ap, ◌∙◌}
use Rattle.ame_journal.specs.declared.entry.Entry.{Entry}
use Rattle.ame_check.specs.Shows.{StandsForEntries}
use Rattle.ame_why.specs.declared.position.Position.{Position}
use Rattle.ame_views.specs.FragmentMeaning.{fragment_meaning}
use Rattle.ame_views.specs.Standings.{note_lines, LeadsNoteTo}
use Rattle.ame_views.proofs.StandingsLemmas.{tells-standing, told-some}
use Rattle.ame_views.proofs.standings.part_of.Goals as goal
use Rattle.std.specs.Prelude.{Some}

pub returns : goal.returns
returns c = λ entries st starts.
    let comes =
    told-some
    (λ (s : _). (es : List Entry) → StandsForEntries fragment_meaning c.args.code.now es (record {
      cells = c.args.replay.now.cells.entries;
      members = c.args.replay.now.members.entries;
      output = c.args.replay.now.output.items;
      next = c.args.replay.now.next;
    }) → LeadsNoteTo c.args.lines.now.text.now c.args.code.now es c.in_ok-note.note s.want s.reads.entries s.there)
    c.in_ok-stance.field-0 c.in-Some.stance c.in-Some.is c.in_ok-stance.ensures entries st in
    tells-standing c.args.lines.now.text.now c.args.code.now entries c.args.replay.now.cells.entries c.args.certificate.now c.in_ok-note.note c.in-Some.stance.want
    c.in-Some.stance.reads.entries c.in-Some.stance.there c.in-Some-there.place c.in_ok-note.ensures c.in-Block.is c.in-Some-there.is comes c.args.started starts
    c.in_ok-part.part.items
    (c.in_ok-part.ensures
    ∙ ap (λ (f : List Position). note_lines f c.args.replay.now.cells.entries c.in_ok-note.note c.args.started (Some c.in-Some-there.place) c.in-Some.stance.reads.entries)
    c.requires.forms)
