use Rattle.std.proofs.Common.{[], replicate, sym, ap, ◌∙◌, subst}
use Rattle.ame_shell.specs.Shell.{ShellView, shell_view}
use Rattle.ame_shell.specs.Turned.{HasFlushed}
use Rattle.ame_worker.specs.Rows.{nothing_kept, empty_row}
use Rattle.ame_worker.specs.Shared.{opened_from, opening_from, IsShared}
use Rattle.ame_worker.proofs.OpenLemmas.{shared-resumes, resumed-idle}
use Rattle.ame_worker.proofs.shared.Shared.resume.Goals as goal

pub returns-clause-opens : goal.returns-clause-opens
returns-clause-opens g c =
    let r = g.M.Runner.meaning in
    let fresh = c.in_ok-shared.ensures.fresh in
    let core = c.args.engine in
    let io = c.args.io in
    let new = shell_view c.flush.new.self in
    let was = c.deref_mut-shell.ensures.value ∙ fresh.shell in
    let rows = replicate core.limits.seats empty_row in
    let places = replicate core.limits.seats nothing_kept in
    let unsent : ShellView g.row.M-Code.Denot g.row.M-Value.Denot g.row.M.Denot = record { core = core; sent = 0; ends = io.ends } in
    let first = ap (λ s. shell_view s) (fresh.made ∙ fresh.shell) in
    record {
      opened = ap opening_from first;
      unused =
          subst (λ it. IsShared r (opened_from it new) new c.in_ok-shared.shared.places.items c.in_ok-shared.shared.turns (replicate it.core.limits.seats empty_row) []) (sym first)
          (subst (λ it. IsShared r (opened_from unsent new) new it c.in_ok-shared.shared.turns rows []) (sym fresh.places)
          (subst (λ it. IsShared r (opened_from unsent new) new places it rows []) (sym fresh.turns)
          (shared-resumes r core io.ends c.requires.resumed new (c.flush.ensures.told ∙ ap (λ s. s.io.ends.told) was)
          (subst (λ it. HasFlushed it new) (ap (λ s. shell_view s) was) c.flush.ensures.flushes))));
    }

pub returns-clause-kept_devices : goal.returns-clause-kept_devices
returns-clause-kept_devices g c =
    c.flush.ensures.devices ∙ ap (λ s. s.io.devices) (c.deref_mut-shell.ensures.value ∙ c.in_ok-shared.ensures.fresh.shell)

pub returns-clause-idle : goal.returns-clause-idle
returns-clause-idle g c =
    let was = c.deref_mut-shell.ensures.value ∙ c.in_ok-shared.ensures.fresh.shell in
    let new = shell_view c.flush.new.self in
    resumed-idle g.M.Runner.meaning c.args.engine c.args.io.ends c.requires.resumed new
    (subst (λ it. HasFlushed it new) (ap (λ s. shell_view s) was) c.flush.ensures.flushes)
