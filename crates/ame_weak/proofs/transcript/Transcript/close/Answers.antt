use Rattle.std.proofs.Common.{ap, ◌∙◌, map, List}
use Rattle.std.specs.Prelude.{None}
use Rattle.ame_term.specs.declared.types.Loc.{Loc}
use Rattle.ame_weak.specs.Straight.{freed}
use Rattle.ame_weak.proofs.TranscriptLemmas.{closed-out}
use Rattle.ame_weak.proofs.transcript.Transcript.close.Goals as goal

pub returns : goal.returns
returns c = λ p stands.
    let x = c.in_ok-arrive.ensures p stands in
    closed-out p c.args.self.now c.arrive.new.self c.add.new.self c.args.number c.freed.result c.remove.new.self x.0 x.1
    (c.freed.ensures ∙ ap (λ (ls : List Loc). freed c.args.number (map (λ l. l.0) ls) None) c.new.ensures.items)
    c.in_ok-add.ensures c.remove.ensures.updates.0
