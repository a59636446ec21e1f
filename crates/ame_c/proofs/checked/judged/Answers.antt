use Rattle.std.proofs.Common.{List, rules, subst}
use Rattle.std.specs.Arc.{arc_value}
use Rattle.ame_code.specs.Code.{program_of}
use Rattle.ame_journal.specs.declared.entry.Entry.{Entry}
use Rattle.ame_app.specs.declared.parts.Front.{Front}
use Rattle.ame_app.specs.Verbs.Check.{TellsOfJournal}
use Rattle.ame_c.proofs.checked.judged.Goals as goal

pub returns-in-Ok-clause-judged : goal.returns-in-Ok-clause-judged
returns-in-Ok-clause-judged c =
    let code = arc_value c.in_ok-code.code in
    let settled = c.in-Ok.settled in
    record {
      short = search rules;
      front = Front.Journal c.in_ok-certificate.certificate.journal;
      text = c.in_ok-certificate.certificate.text.now;
      takes = c.in_ok-certificate.ensures.takes;
      accepted = code.accepted;
      program = c.in_ok-code.ensures.program;
      own = settled.own;
      tells = subst (λ (es : List Entry). TellsOfJournal (program_of code) es settled.ahead.items settled.own settled.told) c.entries.ensures.entries c.in-Ok.ensures;
    }
