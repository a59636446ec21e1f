use Rattle.std.proofs.Common.{◌<◌, vec_len, sym, ap, subst, arith}
use Rattle.std.specs.Arc.{arc_value}
use Rattle.ame_shell.specs.Shell.{shell_view}
use Rattle.ame_baton.specs.Batons.{knows}
use Rattle.ame_worker.specs.Leads.{RestsAtStop}
use Rattle.ame_worker.proofs.PlayLemmas.{played-kept}
use Rattle.ame_worker.proofs.GivenLemmas.{was, within, may-give, has-led, played-through}
use Rattle.ame_worker.proofs.worker.Worker.hand_over.Goals as goal

pub keep-requires : goal.keep-requires
keep-requires g c =
    let r = g.M.Runner.meaning in
    let code = arc_value c.args.self.now.code in
    let limits = c.args.self.now.limits in
    let holding = knows c.args.self.now.seat in
    let h = c.requires.holds in
    let there = within r (λ s. shell_view s.shell.value) (λ s. s.places.items) (λ s. s.turns) code limits h.before holding h.taken h.seated h.takes in
    let count = (was r (λ s. shell_view s.shell.value) (λ s. s.places.items) (λ s. s.turns) code limits h.before holding h.taken h.seated h.takes).count in
    let number = c.number-number.ensures in
    let all = h.taken.places.ok.0 in
    record { there = subst (λ ps. c.number-number.result < vec_len ps) (sym h.places) (omega (arith, there, count, number, all)) }

pub give-requires-clause-holds : goal.give-requires-clause-holds
give-requires-clause-holds g c = ap (λ k. k.holds) c.requires.holds.takes.rest

pub give-requires-clause-may : goal.give-requires-clause-may
give-requires-clause-may g c =
    let r = g.M.Runner.meaning in
    let code = arc_value c.args.self.now.code in
    let limits = c.args.self.now.limits in
    let holding = knows c.args.self.now.seat in
    let h = c.requires.holds in
    may-give r (λ s. shell_view s.shell.value) (λ s. s.places.items) (λ s. s.turns) code limits h.before holding h.taken h.seated h.takes h.had c.args.self.now.work c.keep.new.self h.led
    (played-kept r code limits holding c.args.self.now.work c.args.shared c.keep.new.self c.number-number.result h c.number-number.ensures c.keep.ensures.rest c.keep.ensures.places)
    _ tt

pub returns-clause-led : goal.returns-clause-led
returns-clause-led g c = λ h.
    let r = g.M.Runner.meaning in
    let code = arc_value c.args.self.now.code in
    let limits = c.args.self.now.limits in
    let holding = knows c.args.self.now.seat in
    has-led r (λ s. shell_view s.shell.value) (λ s. s.places.items) (λ s. s.turns) code limits h.before holding h.taken h.seated h.takes h.had c.args.self.now.work c.keep.new.self h.led
    (played-kept r code limits holding c.args.self.now.work c.args.shared c.keep.new.self c.number-number.result h c.number-number.ensures c.keep.ensures.rest c.keep.ensures.places)
    _ (knows c.give.new.seat) c.give.ensures.given

pub returns-clause-through : goal.returns-clause-through
returns-clause-through g c = λ rests.
    let r = g.M.Runner.meaning in
    let code = arc_value c.args.self.now.code in
    let limits = c.args.self.now.limits in
    let holding = knows c.args.self.now.seat in
    let h = c.requires.holds in
    played-through r (λ s. shell_view s.shell.value) (λ s. s.places.items) (λ s. s.turns) code limits h.before holding h.taken h.seated h.takes h.had c.args.self.now.work c.keep.new.self h.led
    (played-kept r code limits holding c.args.self.now.work c.args.shared c.keep.new.self c.number-number.result h c.number-number.ensures c.keep.ensures.rest c.keep.ensures.places)
    _ (knows c.give.new.seat) c.give.ensures.given
    (subst (λ s. RestsAtStop s.shell.value.engine holding.number) (sym c.keep.ensures.rest) rests)
