use denote.Param.Send.{sendable}
use Rattle.ame_eval.proofs.FragmentCrossing.{fragment_send}
use Rattle.ame_app.proofs.CrossingLemmas.{code_send, code_sync}
use Rattle.ame_app.proofs.verbs.resume.run.Goals as goal

pub resume_by_workers-requires-send-M : goal.resume_by_workers-requires-send-M
resume_by_workers-requires-send-M g c κs within = search (sendable, fragment_send)

pub resume_by_workers-requires-send-M-Code : goal.resume_by_workers-requires-send-M-Code
resume_by_workers-requires-send-M-Code g c κs within = search (sendable, code_send) depth 20

pub resume_by_workers-requires-sync-M-Code : goal.resume_by_workers-requires-sync-M-Code
resume_by_workers-requires-sync-M-Code g c κs within = search (sendable, code_sync) depth 20
