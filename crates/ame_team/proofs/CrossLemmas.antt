-- Workers may cross threads.
use denote.RattleType.{RattleType}
use denote.Struct.Struct.{Struct}
use denote.Struct.Declared.{fields, shape}
use denote.Struct.Tuple.{type_at, TupleAt}
use mir.Syntax.{Sym}
use mathlib.Core.List.{◌∷◌, []}
use denote.Model.Goals.{send, All, one_law, part_has, has_of, tied_goals}
use denote.Model.Local.{Parts, rows}
use denote.Param.Send.{IsSend, IsSync, AllSend, AllSync, recorded_send, recorded_sync, struct_send, struct_sync, view_send, sendable}
use Rattle.std.specs.contracts.snapshot.Snapshot as Snapshot
use Rattle.std.proofs.Crossing.{crosses, Box-send, Vec-send, Arc-send}
use Rattle.ame_device.specs.declared.device.Device as device
use Rattle.ame_io.specs.declared.ends.Sink as sink
use Rattle.ame_term.specs.declared.copied.Copied as copied
use Rattle.ame_trace.specs.contracts.trace.Trace as Trace
use Rattle.ame_trace.specs.contracts.trace.Trace.TheKnot.{frame, step, sizes, view-Trace}
use Rattle.ame_trace.specs.declared.trace.Trace.TheDeep.{the_members, member-Trace}
use Rattle.ame_machine.specs.declared.runner.Runner as runner
use Rattle.ame_baton.proofs.seats.SeatAt.TheSendSync as seat
use Rattle.ame_shell.proofs.work.Work.TheSendSync as work
use Rattle.ame_protocol.proofs.types.Limits.TheSendSync as limits
use Rattle.ame_journal.proofs.journal.Journal.TheSendSync as journal
use Rattle.ame_pool.proofs.pool.Pool.TheSendSync as pool
use Rattle.ame_shell.specs.contracts.io.Io as Io
use Rattle.ame_shell.specs.contracts.io.Io.TheInside as IoInside
use Rattle.ame_shell.specs.contracts.shell.Shell as Shell
use Rattle.ame_engine.specs.contracts.engine.Engine as Engine
use Rattle.ame_engine.proofs.engine.ledger.Ledger.TheSendSync as ledger
use Rattle.ame_rows.specs.contracts.memory.Memory as Memory
use Rattle.ame_rows.specs.contracts.memory.Memory.TheInside as MemoryInside
use Rattle.ame_engine.specs.contracts.engine.Engine.TheInside as EngineInside
use Rattle.ame_rows.specs.contracts.row.Row as Row
use Rattle.ame_worker.specs.contracts.shared.Opened as Opened
use Rattle.ame_worker.specs.contracts.shared.SeatRow as SeatRow
use Rattle.ame_worker.specs.contracts.shared.SeatPlace as SeatPlace
use Rattle.ame_worker.specs.contracts.shared.Shared as Shared
use Rattle.ame_worker.specs.contracts.turns.TurnRecord as TurnRecord
use Rattle.ame_worker.specs.contracts.worker.Worker as Worker

pub place-send : (M : RattleType) → IsSend (SeatPlace.the_row M)
place-send M = search (sendable, crosses) depth 20

snapshot-send : (K : RattleType) → IsSend (Snapshot.the_field K).row
snapshot-send K = search (sendable, crosses) depth 20

-- a trace holds none of its values, so it may cross whatever they are
module _ (V : RattleType) where
  view-send : (p : Parts (frame V)) → IsSend (view-Trace V p)
  view-send p = search (sendable, crosses) depth 20

  step-send : (p : Parts (frame V)) → All (one_law the_members send) (rows (frame V) p) → All (one_law the_members send) (rows (frame V) (step V p))
  step-send p all member-Trace = has_of (frame V) send (step V p) member-Trace (part_has send (view-Trace V p) (view-send p))

  trace-send : IsSend (Trace.the_row V)
  trace-send = tied_goals (frame V) (step V) (sizes V) (one_law the_members send) step-send member-Trace

-- so may what holds one
row-send : (V : RattleType) → IsSend V → IsSend (Row.the_row V)
row-send V sv = search (sendable, crosses, trace-send) depth 20

memory-send : (V : RattleType) → IsSend V → IsSend (Memory.the_row V)
memory-send V sv =
    let T = MemoryInside.the_type V in
    let all : AllSend (fields T) = (search (sendable, crosses) depth 20, (Vec-send (Row.the_row V) (row-send V sv), tt)) in
    view_send _ _ _ _ _ (recorded_send (Struct (shape T)) T.D T.to T.to_one (struct_send (shape T) all))

module _ (M K D C V : RattleType) (r : runner.Ghosts M.Denot C.Denot V.Denot) (m : copied.Ghosts M.Denot) (v : copied.Ghosts V.Denot)
    (s : sink.Ghosts K.Denot) (d : device.Ghosts D.Denot) (sm : IsSend M) (sk : IsSend K) (sd : IsSend D) (sc : IsSend C) (yc : IsSync C) (sv : IsSend V) where
  engine-send : IsSend (Engine.the_row M C V r m v)
  engine-send =
      let T = EngineInside.the_type M C V r m v in
      let all : AllSend (fields T) = (Arc-send C sc yc, (search (sendable, crosses) depth 20, (journal.the_send, (ledger.the_field_send, (memory-send V sv, (search (sendable, crosses) depth 20, (pool.the_send M sm, (search (sendable, crosses) depth 20, (search (sendable, crosses) depth 20, (search (sendable, crosses) depth 20, (search (sendable, crosses) depth 20, (search (sendable, crosses) depth 20, (search (sendable, crosses) depth 20, tt))))))))))))) in
      view_send _ _ _ _ _ (recorded_send (Struct (shape T)) T.D T.to T.to_one (struct_send (shape T) all))

  io-send : IsSend (Io.the_row K D s d)
  io-send =
      let T = IoInside.the_type K D s d in
      let all : AllSend (fields T) = (sk, (Vec-send D sd, tt)) in
      view_send _ _ _ _ _ (recorded_send (Struct (shape T)) T.D T.to T.to_one (struct_send (shape T) all))

  shell-send : IsSend (Shell.the_row M K D C V r m v s d)
  shell-send =
      let T = Shell.the_type M K D C V r m v s d in
      let all : AllSend (fields T) = (engine-send, (io-send, (search (sendable, crosses) depth 20, tt))) in
      recorded_send (Struct (shape T)) T.D T.to T.to_one (struct_send (shape T) all)

  pub shared-send : IsSend (Shared.the_row M K D C V r m v s d)
  shared-send =
      let T = Shared.the_type M K D C V r m v s d in
      let all : AllSend (fields T) = (
        Box-send (Shell.the_row M K D C V r m v s d) shell-send,
        (Vec-send (SeatPlace.the_row M) (place-send M), (trace-send (TurnRecord.the_row M K D C V r m v s d), (snapshot-send (Shell.the_row M K D C V r m v s d), tt))),
      ) in
      recorded_send (Struct (shape T)) T.D T.to T.to_one (struct_send (shape T) all)

  pub worker-send : IsSend (Worker.the_row M K D C V r m v s d)
  worker-send =
      let T = Worker.the_type M K D C V r m v s d in
      let all : AllSend (fields T) = (
        seat.the_field_send (Shared.the_row M K D C V r m v s d) (Opened.the_row M K D C V r m v s d) (SeatRow.the_row M)
            (TurnRecord.the_row M K D C V r m v s d) shared-send,
        (work.the_field_send M sm, (Arc-send C sc yc, (limits.the_field_send, tt))),
      ) in
      recorded_send (Struct (shape T)) T.D T.to T.to_one (struct_send (shape T) all)

-- what captures four things that are shared
pub four-sync : (name : Sym) (A B C D : RattleType) → IsSync A → IsSync B → IsSync C → IsSync D → IsSync (TupleAt name (A ∷ B ∷ C ∷ D ∷ []))
four-sync name A B C D a b c d =
    let T = type_at name (A ∷ B ∷ C ∷ D ∷ []) in
    let all : AllSync (fields T) = (a, (b, (c, (d, tt)))) in
    recorded_sync (Struct (shape T)) T.D T.to T.to_one (struct_sync (shape T) all)
