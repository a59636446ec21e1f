use Rattle.std.proofs.Common.{◌≡◌, sym, ap, ◌∙◌, ◌∷◌, ◌++◌, [], subst}
use Rattle.ame_protocol.specs.Engine.Simulates.{Simulates}
use Rattle.ame_engine.specs.Seen.{parts_of}
use Rattle.ame_shell.specs.Shell.{shell_view}
use Rattle.ame_shell.specs.Work.{stage_at}
use Rattle.ame_worker.specs.Turns.{TurnView, turn_by, member_of_turn, IsTurn}
use Rattle.ame_worker.proofs.SlotLemmas.{turn-slots}
use Rattle.ame_worker.proofs.shared.Shared.play.Goals as goal

pub returns-clause-joins : goal.returns-clause-joins
returns-clause-joins g c =
    let r = g.M.Runner.meaning in
    let old = c.deref_mut.result.now in
    let was = c.deref_mut.ensures.value in
    let made = c.turn-turn.ensures in
    let outcome = c.turn-turn.result.outcome in
    let new = shell_view c.turn-turn.new.self in
    record {
      turned =
          subst (λ s. IsTurn r (turn_by c.args.seat c.args.work.now (shell_view s) outcome new)) was
          (record {
            turned = made.turned;
            lacks = made.lacks;
            others = turn-slots r c.args.seat (stage_at r.stage old.engine.code c.args.work.now) (shell_view old) new outcome
                (subst (λ s. Simulates (parts_of r s.engine)) (c.deref.ensures ∙ sym was) c.stands.ensures) made.turned;
          });
      told = subst (λ s. c.turn-turn.result.member ≡ member_of_turn (turn_by c.args.seat c.args.work.now (shell_view s) outcome new)) was made.member;
      joined =
          c.push.ensures
          ∙ ap (λ (t : TurnView g.row.M-Code.Denot g.row.M-Value.Denot g.row.M.Denot). c.args.self.now.turns ++ t ∷ [])
          (c.to-record.ensures
          ∙ ap (λ h. turn_by c.args.seat h (shell_view c.of-before.result.shell.value) outcome (shell_view c.deref-3.result.now)) c.of-before.ensures.hand
          ∙ ap (λ s. turn_by c.args.seat c.args.work.now (shell_view s) outcome (shell_view c.deref-3.result.now)) (c.of-before.ensures.shell ∙ c.deref-2.ensures)
          ∙ ap (λ s. turn_by c.args.seat c.args.work.now (shell_view c.args.self.now.shell.value) outcome (shell_view s)) c.deref-3.ensures);
    }
