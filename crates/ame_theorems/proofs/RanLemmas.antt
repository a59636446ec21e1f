-- Consequences of the events of a run that is over.
use Rattle.std.proofs.Common.{◌≡◌, ◌≤◌, ◌∙◌, inl, inr, false, List, All, Option, Some, None, sym, ap, subst}
use Rattle.ame_term.specs.Tree.{Val, Tree}
use Rattle.ame_term.specs.Signature.{Signature}
use Rattle.ame_journal.specs.declared.entry.Entry.{Entry}
use Rattle.ame_journal.specs.Totals.{is_note}
use Rattle.ame_machine.specs.Sound.{IsAccepted}
use Rattle.ame_protocol.specs.declared.counters.Counters.{Counters}
use Rattle.ame_protocol.specs.declared.stop.Stop.{Stop}
use Rattle.ame_protocol.specs.declared.types.Limits.{Limits}
use Rattle.ame_protocol.specs.Event.Counting.{nothing_counted}
use Rattle.ame_protocol.specs.Event.Sound.{Sound}
use Rattle.ame_protocol.specs.Event.EngineState.{EngineState}
use Rattle.ame_protocol.proofs.Event.OpenedLemmas.{sound-opened}
use Rattle.ame_protocol.proofs.Event.SoundLemmas.{sound-start}
use Rattle.ame_engine.specs.Ending.{End}
use Rattle.ame_shell.specs.Ran.{IsStart, IsRanBy}
use Rattle.ame_theorems.specs.Backs.{TurnsBackSeldom}
use Rattle.ame_theorems.specs.Kinds.{CountsByKind}
use Rattle.ame_theorems.specs.Stopped.{IsStoppedBy}
use Rattle.ame_theorems.proofs.BackLemmas.{backs-seldom}
use Rattle.ame_theorems.proofs.KindLemmas.{kinds-counted}
use Rattle.ame_theorems.proofs.StoppedLemmas.{stopped-by}

module _ (program : Tree) (signature : Signature) (limits : Limits) (base : List Entry) where
  -- at a start nothing is counted, and no stop is kept
  fresh : (s : EngineState) → IsStart program signature limits base s → (s.counters ≡ nothing_counted) × (s.stop ≡ None)
  fresh s (inl starts) = (ap (λ (x : EngineState). x.counters) starts.1, ap (λ (x : EngineState). x.stop) starts.1)
  fresh s (inr goes) = (ap (λ (x : EngineState). x.counters) goes.state, ap (λ (x : EngineState). x.stop) goes.state)

  -- It is sound if the types accept the program and the base has no notes.
  start-sound : (s : EngineState) → IsAccepted signature program → 1 ≤ limits.slice → All (λ (e : Entry). is_note e.kind ≡ false) base
      → IsStart program signature limits base s → Sound s
  start-sound s accepted slice plain (inl starts) = subst Sound (sym starts.1) (sound-start program signature limits accepted slice)
  start-sound s accepted slice plain (inr goes) =
      subst Sound (sym goes.state)
      (sound-opened program signature limits base goes.cells goes.pool goes.led goes.types goes.replayed goes.typed goes.has_cells goes.has_members goes.ready plain slice)

  module _ {V : Type 0} (value : V → Val) (end : End V) (ran : IsRanBy program signature limits base value end) where
    pub ran-counted : CountsByKind ran.events end.entries end.counters end.stop
    ran-counted =
        subst (λ (stop : Option Stop). CountsByKind ran.events end.entries end.counters stop) ran.ends.stop
        (subst (λ (c : Counters). CountsByKind ran.events end.entries c ran.last.stop) ran.ends.counters
        (subst (λ (entries : List Entry). CountsByKind ran.events entries ran.last.counters ran.last.stop) ran.told
        (kinds-counted ran.events ran.start ran.last ran.follows (fresh ran.start ran.starts).0 (fresh ran.start ran.starts).1)))

    pub ran-stopped : (why : Stop) → end.stop ≡ Some why → IsStoppedBy why ran.events
    ran-stopped why stop = stopped-by ran.events ran.start ran.last why ran.follows (fresh ran.start ran.starts).1 (ran.ends.stop ∙ stop)

    pub ran-back : IsAccepted signature program → 1 ≤ limits.slice → All (λ (e : Entry). is_note e.kind ≡ false) base → TurnsBackSeldom ran.events
    ran-back accepted slice plain = backs-seldom ran.events ran.start ran.last ran.follows (start-sound ran.start accepted slice plain ran.starts)
