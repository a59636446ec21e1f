-- The calls that devices have heard after a visit of unprotected code.
use Rattle.std.proofs.Common.{◌≡◌, ℕ, true, List, [], ◌∷◌, ◌++◌, Option, Some, None, refl, sym, ap, ◌∙◌}
use Rattle.std.specs.Prelude.{◌==◌, ℤ, unwrap_or, if◌then◌else◌}
use Rattle.ame_term.specs.Tree.{Val, Tree}
use Rattle.ame_term.specs.Frame.{Side, side_told}
use Rattle.ame_term.specs.Context.{Focus}
use Rattle.ame_term.specs.Act.{Act}
use Rattle.ame_device.specs.declared.told.Told.{Told}
use Rattle.ame_journal.specs.Calls.{device_calls}
use Rattle.ame_rows.specs.MemoryView.{MemoryView}
use Rattle.ame_protocol.specs.Row.SeatRun.{IsAtAct}
use Rattle.ame_machine.specs.declared.wants.Wants.TheVariants as wants
use Rattle.ame_machine.specs.MachineView.{MachineView, place_shown, with_answer}
use Rattle.ame_machine.specs.Need.{Need, need_of, need_told}
use Rattle.ame_machine.specs.Move.{fed_stage}
use Rattle.ame_machine.specs.Comes.{HasNextAct}
use Rattle.ame_machine.specs.Sound.{IsSoundStage}
use Rattle.ame_machine.specs.Acting.{replaced_by}
use Rattle.ame_machine.proofs.NeedLemmas.{comes_as}
use Rattle.ame_machine.proofs.FeedLemmas.{fed-answer}
use Rattle.ame_protocol.specs.Engine.Parts.{Parts, whole_journal}
use Rattle.ame_protocol.specs.Engine.Simulates.{Simulates}
use Rattle.ame_protocol.proofs.Visits.CallLemmas.{silent-visit, told-call}
use Rattle.ame_engine.specs.AtWork.{IsOnSeat}
use Rattle.ame_engine.specs.Visiting.{VisitsTo, visited_at}
use Rattle.ame_engine.proofs.VisitPlaceLemmas.{visits-as, visit-steps}
use Rattle.ame_shell.specs.Heard.{HaveHeardSince}
use Rattle.ame_shell.proofs.HeardLemmas.{heard-silent, heard-call}

module _ (parts : Parts) (stands : Simulates parts) (seat : ℕ) (s : MachineView) (on : IsOnSeat parts seat s) (inside : s.inside ≡ true) (sound : IsSoundStage s)
    (opened before : List Told) (h : HaveHeardSince parts.program parts.base parts.entries opened before) where
  abbrev number : ℕ
  number = on.attempt.tried.number

  abbrev Hears : Option ℤ → MachineView → MemoryView Val → List Told → Type 0
  Hears answer n memory after = HaveHeardSince parts.program parts.base (visited_at seat number answer n memory parts).entries opened after

  without-call : (n : MachineView) (memory : MemoryView Val) → Hears None n memory before
  without-call n memory =
      heard-silent parts.program parts.base opened parts.entries (visited_at seat number None n memory parts).entries before
      (λ k. silent-visit parts stands k seat number n.steps (with_answer None (place_shown n)) n.inside memory refl) h

  module _ (device : ℕ) (argument answer : ℤ) (n : MachineView) (wanted : s.want ≡ Some (wants.Device device argument))
      (fed : fed_stage (Val.Int answer) s ≡ Some n) where
    need-there : need_told (wants.Device device argument) ≡ need_of s
    need-there = sound.told (wants.Device device argument) wanted

    next-act : HasNextAct s (Act.Calls device argument)
    next-act = (comes_as s (Need.Device device argument) need-there).1

    stands-at : IsAtAct Side.Unprotected (Act.Calls device argument) (place_shown s)
    stands-at = record {
      redex = next-act.0;
      stands = next-act.1 ∙ ap (λ (z : Side). Focus.AtRedex z next-act.0) (ap side_told inside);
      acts = next-act.2;
    }

    stage-is : n ≡ replaced_by (Tree.Held (Val.Int answer)) s
    stage-is = ap (λ (o : Option MachineView). unwrap_or o n) (sym fed ∙ fed-answer Val s (wants.Device device argument) answer need-there refl)

    calls-told : (memory : MemoryView Val) (k : ℕ) → device_calls k parts.program (whole_journal (visited_at seat number (Some answer) n memory parts))
        ≡ device_calls k parts.program (whole_journal parts) ++ (if device == k then (argument, answer) ∷ [] else [])
    calls-told memory k =
        ap (λ (z : MachineView). device_calls k parts.program (whole_journal (visited_at seat number (Some answer) z memory parts))) stage-is
        ∙ told-call parts stands k seat on.attempt (visits-as parts seat s on inside) s.steps device argument answer (place_shown s)
        (visit-steps parts stands seat s on inside) stands-at

  pub visit-heard : (answer : Option ℤ) (n : MachineView) (memory : MemoryView Val) (after : List Told) → VisitsTo s parts.memory before answer n memory after → Hears answer n memory after
  visit-heard _ _ _ _ (VisitsTo.rests still) = without-call s parts.memory
  visit-heard _ n _ _ (VisitsTo.reads l v _ its is fed) = without-call n parts.memory
  visit-heard _ n _ _ (VisitsTo.peeks l v _ its is fed) = without-call n parts.memory
  visit-heard _ n memory _ (VisitsTo.writes l v _ its sets fed) = without-call n memory
  visit-heard _ n memory _ (VisitsTo.makes sort ty v _ its sets fed) = without-call n memory
  visit-heard _ n _ _ (VisitsTo.spawns _ its fed) = without-call n parts.memory
  visit-heard _ n _ _ (VisitsTo.prints i _ its fed) = without-call n parts.memory
  visit-heard _ n _ _ (VisitsTo.closes _ its closes) = without-call n parts.memory
  visit-heard _ n _ after (VisitsTo.calls device argument answer _ _ its called fed) =
      heard-call parts.program parts.base opened parts.entries (visited_at seat number (Some answer) n parts.memory parts).entries before after device argument answer called
      (λ k. calls-told device argument answer n its fed parts.memory k) h
