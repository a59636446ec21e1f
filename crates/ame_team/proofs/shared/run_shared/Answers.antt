use Rattle.std.proofs.Common.{◌≡◌, ℕ, ◌+◌, ◌<◌, ◌≤◌, All, vec_len, vec_capacity, List, length, map, slice_index_or, Some, IsSome, slice_get, sym, ap, ◌∙◌, subst, arith}
use Rattle.std.specs.Arc.{arc_value}
use Rattle.std.specs.Prelude.{option_to_list, IfSome}
use Rattle.std.proofs.lemmas.List.{take_at}
use Rattle.std.proofs.lemmas.List.Elements.{All-pop}
use Rattle.std.proofs.lemmas.Option.{slice_get-get_or}
use Rattle.ame_engine.specs.Ending.{end_of}
use Rattle.ame_engine.specs.Whole.{AreLimits}
use Rattle.ame_shell.specs.declared.shell.Shell.{Shell}
use Rattle.ame_shell.specs.Shell.{ShellView, shell_view, IsShell}
use Rattle.ame_protocol.specs.declared.types.Limits.{Limits}
use Rattle.ame_protocol.specs.declared.types.Task.{Task}
use Rattle.ame_protocol.specs.Engine.Parts.{task_at}
use Rattle.ame_baton.specs.Batons.{knows, IsSeatOf}
use Rattle.ame_worker.specs.declared.shared.Shared.{Shared}
use Rattle.ame_worker.specs.declared.worker.Worker.{Worker}
use Rattle.ame_worker.specs.Opened.{opened_now}
use Rattle.ame_worker.specs.Shared.{OpenedView, opening_of, IsShared}
use Rattle.ame_worker.specs.Workers.{IsReadyToTurn}
use Rattle.ame_team.specs.Teams.{IsSeatAt, HasBeenLedBy}
use Rattle.ame_team.proofs.AfterLemmas.{AreThrough, are-through}
use Rattle.ame_team.proofs.EndLemmas.{some-and, all-idle, has-stopped, been-led}
use Rattle.ame_team.proofs.shared.run_shared.Given as given
use Rattle.ame_team.proofs.shared.run_shared.Goals.{After-baton-1, After-seats_of-first, After-stands}
use Rattle.ame_team.proofs.shared.run_shared.Goals as goal

abbrev view : (g : given.Over) → Shell g.row.M.Denot g.row.K.Denot g.row.D.Denot g.row.M-Code.Denot g.row.M-Value.Denot → ShellView g.row.M-Code.Denot g.row.M-Value.Denot g.row.M.Denot
view g shell = shell_view shell

-- how a shell was opened
abbrev opened : (g : given.Over) → Shared g.row.M.Denot g.row.K.Denot g.row.D.Denot g.row.M-Code.Denot g.row.M-Value.Denot → OpenedView g.row.M-Code.Denot g.row.M-Value.Denot g.row.M.Denot
opened g shared = opened_now shared

-- the limits are those with which the shell was made
limits-are : (g : given.Over) (c : After-baton-1 g) → c.limits-limits.result.now ≡ c.args.shared.made.value.engine.limits
limits-are g c = c.limits-limits.ensures ∙ ap (λ it. it.engine.limits) c.deref.ensures ∙ c.requires.unused.shell.opened.limits

abbrev seats-are : (g : given.Over) (c : After-baton-1 g) → c.limits-limits.result.now.seats ≡ c.args.shared.made.value.engine.limits.seats
seats-are g c = ap (λ (l : Limits). l.seats) (limits-are g c)

-- each share is one of the code with which the shell was made
shares-are : (g : given.Over) (c : After-baton-1 g)
    → All (λ it. arc_value it ≡ c.args.shared.made.value.engine.code) c.pop.new.self.items × (arc_value c.in-Some.code ≡ c.args.shared.made.value.engine.code)
shares-are g c =
    let code = c.args.shared.made.value.engine.code in
    let all = subst (λ codes. All (λ it. arc_value it ≡ code) codes.items) (sym c.into_parts-codes.ensures.codes) c.requires.room.codes in
    let split = All-pop (λ it. arc_value it ≡ code) c.into_parts-codes.result.0.items c.pop.new.self.items c.pop.result c.pop.ensures.items all in
    (split.0, subst (λ o. IfSome o (λ it. arc_value it ≡ code)) c.in-Some.is split.1)

pub team-workers-requires-clause-seated : goal.team-workers-requires-clause-seated
team-workers-requires-clause-seated g c =
    let r = g.M.Runner.meaning in
    let shared = c.args.shared in
    let made = c.in-Ok.ensures.first in
    let limits = limits-are g c in
    let seats = seats-are g c in
    let code = (shares-are g c).1 in
    record {
      opened = opened g shared;
      is = ap (λ k. k.fixed) made;
      of_code = sym code;
      of_limits = sym limits;
      ranges = subst AreLimits (sym limits) c.requires.limits;
      enough = subst (λ k. (r.signature k).devices ≤ length shared.made.value.io.ends.told) (sym code) c.requires.devices;
      number =
          subst (λ n. n < c.limits-limits.result.now.seats) (sym (ap (λ k. k.number) made))
          (let some = c.requires.limits.some_seats in omega (arith, some, seats));
      seats = ap (λ k. k.seats) made ∙ sym seats;
    }

pub team-workers-requires-clause-count : goal.team-workers-requires-clause-count
team-workers-requires-clause-count g c =
    let fewer = subst (λ o. vec_len c.pop.new.self + length (option_to_list o) ≡ vec_len c.into_parts-codes.result.0) c.in-Some.is c.pop.ensures.len in
    let all = ap (λ codes. vec_len codes) c.into_parts-codes.ensures.codes in
    let count = c.requires.room.count in
    let seats = seats-are g c in
    omega (arith, fewer, all, count, seats)

pub team-workers-requires-clause-codes : goal.team-workers-requires-clause-codes
team-workers-requires-clause-codes g c =
    let shares = shares-are g c in
    subst (λ k. All (λ it. arc_value it ≡ k) c.pop.new.self.items) (sym shares.1) shares.0

pub team-workers-requires-clause-none : goal.team-workers-requires-clause-none
team-workers-requires-clause-none g c = ap (λ ws. ws.items) c.into_parts-codes.ensures.workers ∙ c.requires.room.no_workers

pub team-workers-requires-clause-room : goal.team-workers-requires-clause-room
team-workers-requires-clause-room g c =
    subst (λ n. n ≤ vec_capacity c.into_parts-codes.result.1) (sym (seats-are g c))
    (subst (λ ws. c.args.shared.made.value.engine.limits.seats ≤ vec_capacity ws) (sym c.into_parts-codes.ensures.workers) c.requires.room.workers)

pub work_all-requires-clause-some : goal.work_all-requires-clause-some
work_all-requires-clause-some g c κs lives =
    let len = ap length c.as_mut_slice.ensures.value ∙ sym c.team-workers.result.ok.0 ∙ c.team-workers.ensures.count in
    let seats = seats-are g (goal.at.work_all-requires-clause-some g c).After-baton-1 in
    let some = c.requires.limits.some_seats in
    omega (arith, len, seats, some)

pub work_all-requires-clause-ready : goal.work_all-requires-clause-ready
work_all-requires-clause-ready g c κs lives =
    let items = c.as_mut_slice.ensures.value in
    record {
      of = λ i d in_range.
          subst (λ (ws : List (Worker g.row.M.Denot g.row.K.Denot g.row.D.Denot g.row.M-Code.Denot g.row.M-Value.Denot)). IsSeatOf c.in-Ok.made.0 (slice_index_or ws i d).seat) (sym items)
          (c.team-workers.ensures.seats i (slice_index_or c.team-workers.result.items i d)
          (slice_get-get_or c.team-workers.result.items i d (subst (λ ws. i < length ws) items in_range))).of;
      ready = subst (All (λ w. IsReadyToTurn g.M.Runner.meaning (arc_value w.code) w.limits (knows w.seat) w.work)) (sym items) c.team-workers.ensures.ready;
    }

pub seats_of-first-requires-clause-some : goal.seats_of-first-requires-clause-some
seats_of-first-requires-clause-some g c =
    let count = c.team-workers.ensures.count in
    let seats = seats-are g (goal.at.seats_of-first-requires-clause-some g c).After-baton-1 in
    let some = c.requires.limits.some_seats in
    omega (arith, count, seats, some)

pub seats_of-first-requires-clause-none : goal.seats_of-first-requires-clause-none
seats_of-first-requires-clause-none g c = ap (λ s. s.items) c.into_parts-codes.ensures.seats ∙ c.requires.room.no_seats

pub seats_of-first-requires-clause-room : goal.seats_of-first-requires-clause-room
seats_of-first-requires-clause-room g c =
    let count = c.team-workers.ensures.count in
    let seats = seats-are g (goal.at.seats_of-first-requires-clause-room g c).After-baton-1 in
    let room = subst (λ s. c.args.shared.made.value.engine.limits.seats ≤ vec_capacity s) (sym c.into_parts-codes.ensures.seats) c.requires.room.places in
    omega (arith, count, seats, room)

-- the seats once all workers are through
through : (g : given.Over) (c : After-seats_of-first g)
    → AreThrough c.in-Ok.made.0 (knows c.in-Ok.made.1).fixed c.limits-limits.result.now.seats c.seats_of-first.result.0 c.seats_of-first.result.1.items
through g c =
    let baton = c.in-Ok.made.0 in
    let fixed = (knows c.in-Ok.made.1).fixed in
    let count = c.limits-limits.result.now.seats in
    let new = c.work_all.new.workers in
    let value = c.as_mut_slice.ensures.value in
    let placed = subst (λ items. (i : ℕ) (w : Worker g.row.M.Denot g.row.K.Denot g.row.D.Denot g.row.M-Code.Denot g.row.M-Value.Denot) → slice_get items i ≡ Some w → IsSeatAt baton fixed count i w.seat) (sym value)
    c.team-workers.ensures.seats in
    let same = ap length value ∙ sym c.team-workers.result.ok.0 in
    let after = c.work_all.ensures in
    let all = ap (map (λ (w : Worker g.row.M.Denot g.row.K.Denot g.row.D.Denot g.row.M-Code.Denot g.row.M-Value.Denot). w.seat)) (sym (take_at new _ c.team-workers.result.len (after.count ∙ same))) ∙ c.seats_of-first.ensures.all in
    are-through baton fixed count c.as_mut_slice.result.now new (same ∙ c.team-workers.ensures.count) after.count placed after.worked.of after.worked.keeps after.worked.through
    c.seats_of-first.result.0 c.seats_of-first.result.1.items all

pub end-requires-clause-first : goal.end-requires-clause-first
end-requires-clause-first g c = (through g c).first_ready

pub end-requires-clause-rest : goal.end-requires-clause-rest
end-requires-clause-rest g c = (through g c).rest_ready

pub end-requires-clause-all : goal.end-requires-clause-all
end-requires-clause-all g c = (through g c).made ∙ ap (λ n. n + 1) (sym c.seats_of-first.result.1.ok.0)

-- what is shared at the end is so from the opening on
shared-at_end : (g : given.Over) (c : After-stands g)
    → IsShared g.M.Runner.meaning (opened g c.args.shared) (view g c.end.result.shell.value) c.end.result.places.items c.end.result.turns
    c.end.ensures.rows c.end.ensures.entries
shared-at_end g c =
    some-and _ (knows c.seats_of-first.result.0).fixed (opened g c.args.shared)
    ((through g (goal.at.finish-requires-clause-idle g c).After-seats_of-first).fixed ∙ ap (λ k. k.fixed) c.in-Ok.ensures.first) c.end.ensures.stands

count-at_end : (g : given.Over) (c : After-stands g) → length c.seats_of-first.result.1.items + 1 ≡ c.end.result.shell.value.engine.limits.seats
count-at_end g c =
    (through g (goal.at.finish-requires-clause-idle g c).After-seats_of-first).all
    ∙ seats-are g (goal.at.finish-requires-clause-idle g c).After-baton-1
    ∙ ap (λ (l : Limits). l.seats) (sym (shared-at_end g c).shell.opened.limits)

tasks-at_end : (g : given.Over) (c : After-stands g) → length c.end.result.shell.value.engine.tasks ≡ c.end.result.shell.value.engine.limits.seats
tasks-at_end g c = subst (λ sh. length sh.engine.tasks ≡ sh.engine.limits.seats) c.into_shell-shell.ensures c.stands.ensures.bounded.tasks

pub finish-requires-clause-idle : goal.finish-requires-clause-idle
finish-requires-clause-idle g c =
    let done = through g (goal.at.finish-requires-clause-idle g c).After-seats_of-first in
    subst (λ sh. (seat : ℕ) → task_at sh.engine.tasks seat ≡ Task.Idle) (sym c.into_shell-shell.ensures)
    (all-idle c.seats_of-first.result.0 c.seats_of-first.result.1.items c.end.ensures.rows c.end.ensures.entries c.end.ensures.stays
    done.first_through done.rest_through g.M.Runner.meaning (opened g c.args.shared) (view g c.end.result.shell.value) c.end.result.places.items
    c.end.result.turns (shared-at_end g c) (count-at_end g c) (tasks-at_end g c))

pub finish-requires-clause-stopped : goal.finish-requires-clause-stopped
finish-requires-clause-stopped g c =
    let done = through g (goal.at.finish-requires-clause-stopped g c).After-seats_of-first in
    subst (λ sh. IsSome sh.engine.stop) (sym c.into_shell-shell.ensures)
    (has-stopped c.seats_of-first.result.0 c.seats_of-first.result.1.items c.end.ensures.rows c.end.ensures.entries c.end.ensures.stays
    done.first_through done.rest_through g.M.Runner.meaning (opened g c.args.shared) (view g c.end.result.shell.value) c.end.result.places.items
    c.end.result.turns (shared-at_end g c) (count-at_end g c))

pub returns-clause-over : goal.returns-clause-over
returns-clause-over g c =
    let opening = opening_of (opened g c.args.shared) in
    c.finish.ensures.over opening
    (subst (λ sh. IsShell g.M.Runner.meaning opening (view g sh)) (sym c.into_shell-shell.ensures)
    (shared-at_end g (goal.at.returns-clause-over g c).After-stands).shell)

pub returns-clause-led : goal.returns-clause-led
returns-clause-led g c =
    let here = (goal.at.returns-clause-led g c).After-stands in
    let done = through g (goal.at.returns-clause-led g c).After-seats_of-first in
    let shared = shared-at_end g here in
    let ended = c.finish.ensures.told ∙ ap (λ sh. end_of sh.engine) c.into_shell-shell.ensures in
    subst (λ seats. HasBeenLedBy g.M.Runner.meaning seats (view g c.args.shared.shell.value) c.finish.result.ended)
    (ap (λ (l : Limits). l.seats) shared.shell.opened.limits)
    (been-led c.seats_of-first.result.0 c.seats_of-first.result.1.items c.end.ensures.rows c.end.ensures.entries c.end.ensures.stays
    done.first_through done.rest_through g.M.Runner.meaning (opened g c.args.shared) (view g c.end.result.shell.value) c.end.result.places.items
    c.end.result.turns shared (count-at_end g here) (tasks-at_end g here) c.end.ensures.not_made c.finish.result.ended ended)
