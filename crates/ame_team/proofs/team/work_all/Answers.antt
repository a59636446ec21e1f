use Rattle.std.proofs.Common.{◌<◌, slice_index_or, sym, subst}
use Rattle.std.specs.Arc.{arc_value}
use denote.Exit.{no}
use denote.Param.{param}
use Rattle.ame_worker.specs.contracts.shared.Opened as Opened
use Rattle.ame_worker.specs.contracts.shared.SeatRow as SeatRow
use Rattle.ame_worker.specs.contracts.shared.Shared as Shared
use Rattle.ame_worker.specs.contracts.shared.SharedRowed.TheImpl as Impl
use Rattle.ame_worker.specs.contracts.turns.TurnRecord as TurnRecord
use denote.Param.Send.{param_send, param_sync, arg_send, arg_sync, shr_sync}
use Rattle.std.proofs.Crossing.{sync}
use Rattle.ame_baton.proofs.turn.Baton.TheSendSync as baton
use Rattle.ame_baton.specs.Batons.{knows, IsSeatOf}
use Rattle.ame_baton.specs.Keeping.{KeepsSeat}
use Rattle.ame_baton.proofs.Keeping.{keeps_both}
use Rattle.ame_worker.specs.Workers.{IsReadyToTurn, IsThrough}
use Rattle.ame_team.proofs.CrossLemmas.{shared-send, worker-send, four-sync}
use Rattle.ame_team.proofs.team.work_all.Goals as goal

pub for_each_mut-requires-send-T : goal.for_each_mut-requires-send-T
for_each_mut-requires-send-T g c κs within =
    param_send 1 _ (arg_send _ no _
    (worker-send (param 0 g.row.M) (param 1 g.row.K) (param 2 g.row.D) (param 5 g.row.M-Code) (param 6 g.row.M-Value) g.M.Runner g.M.Copied g.M.Value.Copied g.K.Sink g.D.Device
    c.type_bounds.send-M c.type_bounds.send-K c.type_bounds.send-D c.type_bounds.send-M-Code c.type_bounds.sync-M-Code c.type_bounds.send-M-Value))

pub for_each_mut-requires-sync-F : goal.for_each_mut-requires-sync-F
for_each_mut-requires-sync-F g c κs within =
    let sent = shared-send (param 0 g.row.M) (param 1 g.row.K) (param 2 g.row.D) (param 5 g.row.M-Code) (param 6 g.row.M-Value) g.M.Runner g.M.Copied g.M.Value.Copied g.K.Sink g.D.Device
    c.type_bounds.send-M c.type_bounds.send-K c.type_bounds.send-D c.type_bounds.send-M-Code c.type_bounds.sync-M-Code c.type_bounds.send-M-Value in
    let rt = c.type_bounds.sync-R in
    let gate = c.type_bounds.sync-G in
    let shown = Impl.ghosts (param 0 g.row.M) (param 1 g.row.K) (param 2 g.row.D) (param 5 g.row.M-Code) (param 6 g.row.M-Value) g.M.Runner Impl.no_dict g.M.Copied Impl.no_dict
    g.M.Value.Copied Impl.no_dict g.K.Sink Impl.no_dict g.D.Device Impl.no_dict Impl.no_dict Impl.no_dict Impl.no_dict Impl.no_dict in
    let shared = Shared.the_row (param 0 g.row.M) (param 1 g.row.K) (param 2 g.row.D) (param 5 g.row.M-Code) (param 6 g.row.M-Value) g.M.Runner g.M.Copied g.M.Value.Copied g.K.Sink g.D.Device in
    let bat = baton.the_sync shared (Opened.the_row (param 0 g.row.M) (param 1 g.row.K) (param 2 g.row.D) (param 5 g.row.M-Code) (param 6 g.row.M-Value) g.M.Runner g.M.Copied g.M.Value.Copied g.K.Sink g.D.Device) (SeatRow.the_row (param 0 g.row.M)) (TurnRecord.the_row (param 0 g.row.M) (param 1 g.row.K) (param 2 g.row.D) (param 5 g.row.M-Code) (param 6 g.row.M-Value) g.M.Runner g.M.Copied g.M.Value.Copied g.K.Sink g.D.Device) shown sent in
    param_sync 2 _ (arg_sync _ no _ (four-sync _ _ _ _ _ (shr_sync _ _ _ rt) (shr_sync _ _ _ sync) (shr_sync _ _ _ bat) (shr_sync _ _ _ gate)))

pub for_each_mut-requires-clause-accepts : goal.for_each_mut-requires-clause-accepts
for_each_mut-requires-clause-accepts g c κs within = λ i p in_range same. (
  subst (λ w. IsSeatOf c.args.baton.now w.seat) (sym same) (c.lead-is_over.ensures.ready.of i p.now in_range),
  subst (λ w. IsReadyToTurn g.M.Runner.meaning (arc_value w.code) w.limits (knows w.seat) w.work) (sym same) (c.lead-is_over.ensures.ready.ready i p.now in_range),
)

pub returns-clause-worked : goal.returns-clause-worked
returns-clause-worked g c =
    let keep = c.lead-is_over.ensures.keep in
    let led = c.lead-is_over.new.workers in
    record {
      keeps = λ i d in_range.
          let it = (c.for_each_mut.ensures i d (subst (λ n. i < n) (sym keep.count) in_range)).1 in
          keeps_both _ _ _ (keep.each i d in_range)
          (subst (λ w. KeepsSeat (knows (slice_index_or led i d).seat) (knows w.seat)) it.left
          (subst (λ w. KeepsSeat (knows w.seat) (knows it.after_call.now.seat)) it.argument_is it.call.1.0));
      of = λ i d in_range.
          let it = (c.for_each_mut.ensures i d (subst (λ n. i < n) (sym keep.count) in_range)).1 in
          subst (λ w. IsSeatOf c.args.baton.now w.seat) it.left it.call.0;
      through = λ i d in_range.
          let it = (c.for_each_mut.ensures i d (subst (λ n. i < n) (sym keep.count) in_range)).1 in
          subst (λ w. IsThrough (knows w.seat)) it.left it.call.1.1;
    }
