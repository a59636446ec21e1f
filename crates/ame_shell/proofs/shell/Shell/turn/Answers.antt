use Rattle.std.proofs.Common.{◌≡◌, ◌<◌, ◌≤◌, length, sym, ap, subst, ◌∙◌}
use Rattle.ame_io.specs.Lines.{lines}
use Rattle.ame_protocol.specs.Engine.Parts.{member_of, task_at}
use Rattle.ame_shell.specs.Ready.{CanBePrepared}
use Rattle.ame_shell.specs.Work.{stage_at, Fits}
use Rattle.ame_shell.proofs.OutcomeRows.{rowed}
use Rattle.ame_shell.specs.Shell.{shell_view}
use Rattle.ame_shell.specs.Turned.{is_to_flush, member_told}
use Rattle.ame_shell.proofs.OutcomeLemmas.{outcome-more}
use Rattle.ame_shell.proofs.TurnLemmas.{turned-made, sent-still, turn-keeps, hand-stands, by-flush, flushed-fits, flushed-within, flushed-code, flushed-limits, or-told}
use Rattle.ame_shell.proofs.OrderLemmas.{order-stays}
use Rattle.ame_shell.proofs.RestLemmas.{made-leaves}
use Rattle.ame_shell.proofs.ReadyLemmas.{can-prepare}
use Rattle.ame_shell.proofs.DoneLemmas.{told-counts}
use Rattle.ame_shell.proofs.shell.Shell.turn.Goals as goal

pub flush_after-requires-clause-within : goal.flush_after-requires-clause-within
flush_after-requires-clause-within g c =
    sent-still g.M.Runner.meaning c.args.seat (stage_at g.M.Runner.meaning.stage c.args.self.now.engine.code c.args.work.now)
    c.args.self.now.engine c.act-outcome.new.engine _ _ c.act-outcome.result c.act-outcome.ensures.done c.args.self.now.sent c.requires.may.order.within

pub flush_after-requires-clause-going : goal.flush_after-requires-clause-going
flush_after-requires-clause-going g c = λ e.
    (outcome-more g.M.Runner.meaning c.args.seat (stage_at g.M.Runner.meaning.stage c.args.self.now.engine.code c.args.work.now)
    c.args.self.now.engine c.act-outcome.new.engine _ _ c.act-outcome.result e
    (rowed g.M.Runner.meaning c.args.seat (stage_at g.M.Runner.meaning.stage c.args.self.now.engine.code c.args.work.now)
    c.args.self.now.engine c.act-outcome.new.engine _ _ c.act-outcome.result c.act-outcome.ensures.done)).going

pub member_at-after-requires : goal.member_at-after-requires
member_at-after-requires g c =
    let limits : c.flush_after.new.self.engine.limits ≡ c.args.self.now.engine.limits =
    by-flush (is_to_flush c.act-outcome.result)
    (λ e. flushed-limits g.M.Runner.meaning _ _ (c.flush_after.ensures.flushes e) ∙ (made-leaves g.M.Runner.meaning c.args.self.now.engine c.act-outcome.new.engine c.args.seat c.stands.ensures _ _ _ _ c.act-outcome.ensures.done.event).limits)
    (λ e. ap (λ s. s.engine.limits) (c.flush_after.ensures.stays e) ∙ (made-leaves g.M.Runner.meaning c.args.self.now.engine c.act-outcome.new.engine c.args.seat c.stands.ensures _ _ _ _ c.act-outcome.ensures.done.event).limits) in
    subst (λ l. c.args.seat < l.seats) (sym limits) c.requires.may.there

pub returns-clause-member : goal.returns-clause-member
returns-clause-member g c =
    c.or.ensures ∙ or-told c.member_at-before.result c.member_at-after.result
    ∙ ap (λ o. member_told o c.member_at-after.result) c.member_at-before.ensures
    ∙ ap (λ o. member_told (member_of (task_at c.args.self.now.engine.tasks c.args.seat)) o) c.member_at-after.ensures

pub returns-clause-turned : goal.returns-clause-turned
returns-clause-turned g c =
    turned-made g.M.Runner.meaning c.args.seat (stage_at g.M.Runner.meaning.stage c.args.self.now.engine.code c.args.work.now)
    _ _ c.act-outcome.new.engine c.act-outcome.new.io.ends c.act-outcome.result c.act-outcome.ensures.alone c.flush_after.ensures.told c.act-outcome.ensures.done
    c.flush_after.ensures.flushes (λ e. ap (λ s. shell_view s) (c.flush_after.ensures.stays e))

pub returns-clause-leaves : goal.returns-clause-leaves
returns-clause-leaves g c =
    let r = g.M.Runner.meaning in
    let seat = c.args.seat in
    let old = c.args.self.now in
    let hand = stage_at r.stage old.engine.code c.args.work.now in
    let outcome = c.act-outcome.result in
    let acted = c.act-outcome.ensures in
    let core = c.act-outcome.new.engine in
    let work = c.act-outcome.new.work in
    let kept = made-leaves r old.engine core seat c.stands.ensures _ _ _ _ acted.done.event in
    let sent = c.flush_after.ensures in
    let may = c.requires.may in
    let turned =
    turned-made r seat hand (shell_view old) _ core c.act-outcome.new.io.ends outcome acted.alone sent.told acted.done
    sent.flushes (λ e. ap (λ s. shell_view s) (sent.stays e)) in
    let limits : c.flush_after.new.self.engine.limits ≡ old.engine.limits =
    by-flush (is_to_flush outcome) (λ e. flushed-limits r _ _ (sent.flushes e) ∙ kept.limits) (λ e. ap (λ s. s.engine.limits) (sent.stays e) ∙ kept.limits) in
    let code : c.flush_after.new.self.engine.code ≡ old.engine.code =
    by-flush (is_to_flush outcome) (λ e. flushed-code r _ _ (sent.flushes e) ∙ kept.code) (λ e. ap (λ s. s.engine.code) (sent.stays e) ∙ kept.code) in
    let so_far = sent-still r seat hand old.engine core _ _ outcome acted.done old.sent may.order.within in
    let within =
    by-flush (is_to_flush outcome) (λ e. flushed-within r _ _ (sent.flushes e) so_far)
    (λ e. subst (λ s. s.sent ≤ length (lines s.engine.output)) (sym (sent.stays e)) so_far) in
    record {
      keeps = λ opening h.
          turn-keeps r seat hand _ _ outcome turned opening c.stands.ensures may.there
          (hand-stands r g.met.M.Runner.sound old.engine seat c.args.work.now may.fits) h;
      may = record {
        order = order-stays r c.args.code.now (shell_view old) (shell_view c.flush_after.new.self) may.order code limits (ap length sent.told ∙ told-counts r seat hand old.engine core _ _ _ acted.done) within;
        there = subst (λ l. seat < l.seats) (sym limits) may.there;
        fits =
            by-flush (is_to_flush outcome) (λ e. flushed-fits r _ _ (sent.flushes e) seat work acted.fits)
            (λ e. subst (λ s. Fits r s.engine seat work) (sym (sent.stays e)) acted.fits);
      };
      limits = limits;
      others = λ other rest apart fits.
          let mid = kept.others other rest apart fits in
          by-flush (is_to_flush outcome) (λ e. flushed-fits r _ _ (sent.flushes e) other rest mid)
          (λ e. subst (λ s. Fits r s.engine other rest) (sym (sent.stays e)) mid);
    }

pub returns-clause-can : goal.returns-clause-can
returns-clause-can g c =
    let r = g.M.Runner.meaning in
    let acted = c.act-outcome.ensures in
    let core = c.act-outcome.new.engine in
    let work = c.act-outcome.new.work in
    let kept = made-leaves r c.args.self.now.engine core c.args.seat c.stands.ensures _ _ _ _ acted.done.event in
    let limits = (returns-clause-leaves g c).limits in
    subst (λ l. CanBePrepared r.is_machine r.stage c.args.code.now l.slice work) (kept.limits ∙ sym limits)
    (subst (λ k. CanBePrepared r.is_machine r.stage k core.limits.slice work) (kept.code ∙ sym c.requires.may.order.same)
    (can-prepare r core c.args.seat work c.stands-2.ensures acted.fits c.limits_are_small.ensures.slice c.limits_are_small.ensures.turns))
