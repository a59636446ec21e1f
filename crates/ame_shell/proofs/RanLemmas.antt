-- The events of a shell's run, one after another.
use Rattle.std.proofs.Common.{◌≡◌, inl, inr, true, false, List, [], ◌∷◌, ◌++◌, Option, Some, None, refl, sym, ap, ◌∙◌, subst}
use Rattle.std.specs.Prelude.{ℕ, unwrap_or}
use Rattle.ame_term.specs.Tree.{Tree}
use Rattle.ame_term.specs.Signature.{Signature}
use Rattle.ame_device.specs.declared.told.Told.{Told}
use Rattle.ame_journal.specs.declared.entry.Entry.{Entry}
use Rattle.ame_machine.specs.MachineView.{MachineView}
use Rattle.ame_machine.specs.Meaning.{Meaning}
use Rattle.ame_machine.specs.Sound.{IsSoundStage}
use Rattle.ame_protocol.specs.declared.stop.Stop.{Stop}
use Rattle.ame_protocol.specs.declared.types.Limits.{Limits}
use Rattle.ame_protocol.specs.Engine.Parts.{Parts}
use Rattle.ame_protocol.specs.Engine.Simulates.{Simulates}
use Rattle.ame_protocol.specs.Engine.Events.{has_stopped}
use Rattle.ame_protocol.specs.Event.After.{after}
use Rattle.ame_protocol.specs.Event.Causes.{IsCause, certificates_for, is_from_outside}
use Rattle.ame_protocol.specs.Event.Event.{Event}
use Rattle.ame_protocol.specs.Event.Runs.{Follows, entries_along}
use Rattle.ame_protocol.specs.Event.EngineState.{EngineState}
use Rattle.ame_protocol.proofs.Event.BoundLemmas.{outside-leaves}
use Rattle.ame_protocol.proofs.Event.RunLemmas.{follows-more, run-tells}
use Rattle.ame_engine.specs.Core.{Core}
use Rattle.ame_engine.specs.Ending.{end_of}
use Rattle.ame_engine.specs.Makes.{state_of, Makes}
use Rattle.ame_engine.specs.Resuming.{HasResumed}
use Rattle.ame_engine.specs.Seen.{parts_of}
use Rattle.ame_engine.specs.Stops.{stopped_by}
use Rattle.ame_engine.proofs.HaltLemmas.{outside-apart}
use Rattle.ame_shell.specs.declared.work.Outcome.{Outcome}
use Rattle.ame_shell.specs.Low.{GoesLowBy, IsLowOnSeat}
use Rattle.ame_shell.specs.Outcomes.{IsMade}
use Rattle.ame_shell.specs.Ran.{GoesOnFrom, IsStart, IsRanBy}
use Rattle.ame_shell.specs.Shell.{ShellView, Opening, HasRun}
use Rattle.ame_shell.specs.Turned.{HasFlushed}
use Rattle.ame_shell.proofs.EventLemmas.{low-more, outcome-low}

-- While no stop is kept no certificate is there

event-going : (e : Event) (s : EngineState) → (after e s).stop ≡ None → s.stop ≡ None
event-going (Event.Refuse seat attempt device) s none = absurd (cc)
event-going (Event.Cut seat attempt steps place) s none = absurd (cc)
event-going (Event.Tall seat attempt steps place) s none = absurd (cc)
event-going (Event.Halt why) s none = absurd (cc)
event-going _ s none = none

run-going : (es : List Event) (s end : EngineState) → Follows s es end → end.stop ≡ None → s.stop ≡ None
run-going [] s end run none = ap (λ (x : EngineState). x.stop) (sym run) ∙ none
run-going (e ∷ es) s end run none = event-going e s (run-going es (after e s) end run.1 none)

event-untold : (e : Event) (s : EngineState) → (after e s).stop ≡ None → (after e s).certificates ≡ s.certificates
event-untold (Event.Halt why) s none = absurd (cc)
event-untold _ s none = refl

run-untold : (es : List Event) (s end : EngineState) → Follows s es end → end.stop ≡ None → end.certificates ≡ s.certificates
run-untold [] s end run none = ap (λ (x : EngineState). x.certificates) run
run-untold (e ∷ es) s end run none = run-untold es (after e s) end run.1 none ∙ event-untold e s (run-going es (after e s) end run.1 none)

-- A start has no entry yet, and no certificate is there

module _ (program : Tree) (signature : Signature) (limits : Limits) (base : List Entry) (s : EngineState) where
  start-untold : IsStart program signature limits base s → s.certificates ≡ []
  start-untold (inl fresh) = ap (λ (x : EngineState). x.certificates) fresh.1
  start-untold (inr on) = ap (λ (x : EngineState). x.certificates) on.state

  start-empty : IsStart program signature limits base s → s.parts.entries ≡ []
  start-empty (inl fresh) = ap (λ (x : EngineState). x.parts.entries) fresh.1
  start-empty (inr on) = ap (λ (x : EngineState). x.parts.entries) on.state

-- Stops that come from outside

outside-cause : (why : Stop) → is_from_outside why ≡ true → (parts : Parts) → IsCause (Some why) parts
outside-cause Stop.NoMemory e parts = tt
outside-cause Stop.WriteFault e parts = tt
outside-cause _ e parts = absurd (let clash : false ≡ true = e in cc)

outside-untold : (why : Stop) → is_from_outside why ≡ true → (parts : Parts) → certificates_for (Some why) parts ≡ []
outside-untold Stop.NoMemory e parts = refl
outside-untold Stop.WriteFault e parts = refl
outside-untold _ e parts = absurd (let clash : false ≡ true = e in cc)

module _ {C V M : Type 0} (meaning : Meaning C V M) (opening : Opening C) where
  abbrev Ran : Core C V M → Type 0
  Ran core = HasRun meaning opening core

  -- one event more
  pub ran-more : (old new : Core C V M) (e : Event) → Makes meaning e old new → GoesLowBy e (parts_of meaning old) → Ran old → Ran new
  ran-more old new e m low h = record {
    start = h.start;
    starts = h.starts;
    events = h.events ++ e ∷ [];
    follows =
        subst (λ (s : EngineState). Follows h.start (h.events ++ e ∷ []) s) (sym m.state)
        (follows-more h.events h.start (state_of meaning old) e h.follows m.may);
    low = low-more h.events h.start (state_of meaning old) e h.follows h.low low;
  }

  -- none more, if the engine has the same state
  ran-still : (old new : Core C V M) → state_of meaning old ≡ state_of meaning new → Ran old → Ran new
  ran-still old new same h = record {
    start = h.start;
    starts = h.starts;
    events = h.events;
    follows = subst (λ (s : EngineState). Follows h.start h.events s) same h.follows;
    low = h.low;
  }

  pub ran-same : (old new : Core C V M) → new ≡ old → Ran old → Ran new
  ran-same old new same h = subst Ran (sym same) h

  -- the engine stops for what comes from outside
  outside-makes : (why : Stop) → is_from_outside why ≡ true → (core : Core C V M) → core.stop ≡ None → Ran core
      → Makes meaning (Event.Halt why) core (stopped_by why core)
  outside-makes why outside core going h =
      let parts : Parts = parts_of meaning core in
      let stop-is : Some (unwrap_or core.stop why) ≡ Some why = ap (λ (o : Option Stop). Some (unwrap_or o why)) going in
      let told-is : core.certificates ≡ certificates_for (Some why) parts =
      run-untold h.events h.start (state_of meaning core) h.follows going
      ∙ start-untold (meaning.program opening.code) (meaning.signature opening.code) opening.limits opening.base h.start h.starts
      ∙ sym (outside-untold why outside parts) in
      record {
        code = refl;
        may = record {
          none = going;
          cause = outside-cause why outside parts;
          apart = outside-apart why outside;
          leaves = outside-leaves why parts outside;
        };
        state = λ i. record { parts = has_stopped parts; counters = core.counters; stop = stop-is i; certificates = told-is i };
      }

  -- if a stop is kept already, that one stays
  pub ran-stopped : (why : Stop) → is_from_outside why ≡ true → (core : Core C V M) → Ran core → Ran (stopped_by why core)
  ran-stopped why outside core h = by core.stop refl
    where
      by : (o : Option Stop) → core.stop ≡ o → Ran (stopped_by why core)
      by None none = ran-more core (stopped_by why core) (Event.Halt why) (outside-makes why outside core none h) tt h
      by (Some kept) is =
          let same : core.stop ≡ Some (unwrap_or core.stop why) = is ∙ sym (ap (λ (o : Option Stop). Some (unwrap_or o why)) is) in
          ran-still core (stopped_by why core) (ap (λ (o : Option Stop). state_of meaning (record core { stop = o })) same) h

  -- lines are sent, or the sink fails
  pub ran-flushed : (old new : ShellView C V M) → HasFlushed old new → Ran old.core → Ran new.core
  ran-flushed old new (HasFlushed.sends appended stays same sent) h = ran-same old.core new.core same h
  ran-flushed old new (HasFlushed.fails gone first short risen same sent) h =
      ran-same (stopped_by Stop.WriteFault old.core) new.core same (ran-stopped Stop.WriteFault refl old.core h)

  -- a seat makes its event, or none if it waits or finds a kept stop
  module _ (seat : ℕ) (hand : Option MachineView) (old new : Core C V M) (before after : List Told) (stands : Simulates (parts_of meaning old))
      (at-hand : (s : MachineView) → hand ≡ Some s → IsLowOnSeat (parts_of meaning old) seat s × IsSoundStage s) where
    pub ran-made : (outcome : Outcome) → IsMade meaning seat hand old new before after outcome → Ran old → Ran new
    ran-made _ (IsMade.makes outcome e tells m) h =
        ran-more old new e m (outcome-low meaning seat hand old new before after stands at-hand outcome e tells) h
    ran-made _ (IsMade.waits meets same) h = ran-same old new same h
    ran-made _ (IsMade.rests meets same) h = ran-same old new same h

  -- At first there is no event.
  pub ran-starts : (core : Core C V M) → IsStart (meaning.program opening.code) (meaning.signature opening.code) opening.limits opening.base (state_of meaning core)
      → Ran core
  ran-starts core starts = record { start = state_of meaning core; starts = starts; events = []; follows = refl; low = tt }

  -- At the end the events name the entries.
  pub ran-over : (core : Core C V M) → core.code ≡ opening.code → core.limits ≡ opening.limits → Ran core
      → IsRanBy (meaning.program core.code) (meaning.signature core.code) core.limits opening.base (meaning.value_of core.code) (end_of core)
  ran-over core code limits h = record {
    start = h.start;
    starts =
        subst (λ (c : C). IsStart (meaning.program c) (meaning.signature c) core.limits opening.base h.start) (sym code)
        (subst (λ (l : Limits). IsStart (meaning.program opening.code) (meaning.signature opening.code) l opening.base h.start) (sym limits) h.starts);
    events = h.events;
    last = state_of meaning core;
    follows = h.follows;
    low = h.low;
    told =
        sym (run-tells h.events h.start (state_of meaning core) h.follows
        ∙ ap (λ (xs : List Entry). xs ++ entries_along h.events)
        (start-empty (meaning.program opening.code) (meaning.signature opening.code) opening.limits opening.base h.start h.starts));
    ends = record {
      base = refl;
      entries = refl;
      cells = refl;
      output = refl;
      turns = refl;
      tried = refl;
      counters = refl;
      stop = refl;
      certificates = refl;
    };
  }

-- an engine that goes on from a base has a state to which the base leads
pub resumed-start : {C V M : Type 0} (meaning : Meaning C V M) (limits : Limits) (base : List Entry) (core : Core C V M) → HasResumed meaning limits base core
    → GoesOnFrom (meaning.program core.code) (meaning.signature core.code) limits base (state_of meaning core)
resumed-start meaning limits base core h = record {
  led = h.led;
  replayed = h.replayed;
  types = h.types;
  typed = h.typed;
  cells = h.cells;
  has_cells = h.has_cells;
  pool = h.pool;
  has_members = h.has_members;
  ready = h.ready;
  state = h.state;
}
