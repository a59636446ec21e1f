use Rattle.std.proofs.Common.{◌≡◌, ℕ, ◌-◌, ◌<◌, List, length, take, drop, refl, ap, ◌∙◌, subst}
use Rattle.std.proofs.lemmas.List.{take_rest}
use Rattle.ame_io.specs.Lines.{lines}
use Rattle.ame_io.specs.Writes.{AppendsFirst}
use Rattle.ame_shell.specs.Turned.{HasFlushed}
use Rattle.ame_shell.proofs.shell.Shell.flush.Goals as goal

pub returns-in-Err-clause-flushes : goal.returns-in-Err-clause-flushes
returns-in-Err-clause-flushes g c =
    let sent = c.args.self.now.sent in
    let text = c.text-text.result.now in
    let gone = c.in-Err.field-0.gone in
    let rest : take (length text - sent) (drop sent text) ≡ drop sent (lines c.args.self.now.engine.output) =
    take_rest text sent ∙ ap (drop sent) c.text-text.ensures.lines in
    HasFlushed.fails gone
    (subst (λ (t : List ℕ). AppendsFirst gone c.args.self.now.io.ends.written c.write_all.new.self.ends.written t) rest c.in-Err.ensures.gone)
    (subst (λ (t : List ℕ). gone < length t) rest c.in-Err.ensures.short)
    c.in-Err.ensures.risen c.stop.ensures.stops refl
