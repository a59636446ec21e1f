-- The events of a run, from those of its picks.
use Rattle.std.proofs.Common.{◌≡◌, ℕ, ◌⊎◌, inl, inr, Bool, true, false, List, [], ◌∷◌, ◌++◌, Option, Some, None, append_assoc, refl, sym, ap, ◌∙◌, subst}
use Rattle.std.specs.Prelude.{is_some, unwrap_or}
use Rattle.std.proofs.lemmas.List.{append-nil}
use Rattle.ame_device.specs.declared.told.Told.{Told}
use Rattle.ame_machine.specs.MachineView.{MachineView}
use Rattle.ame_machine.specs.Meaning.{Meaning}
use Rattle.ame_protocol.specs.declared.stop.Stop.{Stop}
use Rattle.ame_protocol.specs.Event.After.{after}
use Rattle.ame_protocol.specs.Event.Causes.{HasCause, is_from_outside}
use Rattle.ame_protocol.specs.Event.Event.{Event}
use Rattle.ame_protocol.specs.Event.Runs.{Follows}
use Rattle.ame_protocol.specs.Event.Sound.{Sound}
use Rattle.ame_protocol.specs.Event.EngineState.{EngineState, started_state}
use Rattle.ame_protocol.proofs.Event.BoundLemmas.{outside-leaves}
use Rattle.ame_protocol.proofs.Event.CauseLemmas.{fault-cause}
use Rattle.ame_protocol.proofs.Event.RunLemmas.{sound-along}
use Rattle.ame_engine.specs.Core.{Core}
use Rattle.ame_engine.specs.Makes.{state_of, Makes}
use Rattle.ame_engine.specs.Seen.{parts_of}
use Rattle.ame_engine.specs.Stops.{stopped_by}
use Rattle.ame_engine.proofs.HaltLemmas.{makes-halted, outside-apart}
use Rattle.ame_shell.specs.Shell.{Opening, ShellView}
use Rattle.ame_shell.specs.Turned.{HasFlushed, is_to_flush, HasTurned}
use Rattle.ame_shell.proofs.OutcomeLemmas.{outcome-more}
use Rattle.ame_shell.specs.declared.work.Outcome.{Outcome}
use Rattle.ame_shell.specs.Outcomes.{IsOutcomeOf, IsMade}
use Rattle.ame_shell.proofs.OutcomeRows.{rowed}
use Rattle.ame_sim.specs.declared.made.Made.{Made}
use Rattle.ame_sim.specs.Crew.{lacking}
use Rattle.ame_sim.specs.Events.{AreHalts, AreEventsOfPicks, IsRunOfPicks}
use Rattle.ame_sim.specs.Picks.{is_waited}
use Rattle.ame_sim.specs.Played.{HasPlayed, Plays}
use Rattle.ame_sim.proofs.TurnLemmas.{stopped-met}

-- Runs of events

follows-then : (es rest : List Event) (s mid end : EngineState) → Follows s es mid → Follows mid rest end → Follows s (es ++ rest) end
follows-then [] rest s mid end run on = subst (λ (x : EngineState). Follows x rest end) run on
follows-then (e ∷ es) rest s mid end run on = (run.0, follows-then es rest (after e s) mid end run.1 on)

-- if a run ends with a halt, its stop is kept
halted-last : (es : List Event) (s end : EngineState) (why : Stop) → Follows s (es ++ Event.Halt why ∷ []) end → end.stop ≡ Some why
halted-last [] s end why run = ap (λ (x : EngineState). x.stop) run.1
halted-last (e ∷ es) s end why run = halted-last es (after e s) end why run.1

some-none : (o : Option Stop) (why : Stop) → o ≡ Some why → o ≡ None → ⊥
some-none o why is none = let clash : true ≡ false = sym (ap is_some is) ∙ ap is_some none in cc

module _ {C V M : Type 0} (meaning : Meaning C V M) where
  abbrev state : ShellView C V M → EngineState
  state shell = state_of meaning shell.core

  -- the engine stops for what comes from outside
  outside-halts : (why : Stop) → is_from_outside why ≡ true → (core : Core C V M) → Sound (state_of meaning core) → core.stop ≡ None
      → Makes meaning (Event.Halt why) core (stopped_by why core)
  outside-halts why outside core sound going =
      makes-halted meaning core (stopped_by why core) going why refl (outside-apart why outside)
      (fault-cause why outside (parts_of meaning core) (parts_of meaning (stopped_by why core)) core.certificates
      (subst (λ (o : Option Stop). HasCause o core.certificates (parts_of meaning core)) going sound.caused) refl)
      (outside-leaves why (parts_of meaning core) outside)

  -- An outcome, while no stop is kept

  module _ (seat : ℕ) (hand : Option MachineView) (old new : Core C V M) (before after : List Told) (going : old.stop ≡ None) where
    -- what it makes
    record HasEvents (outcome : Outcome) : Type 0 where
      events : List Event
      its : ((is_waited outcome ≡ true) × (events ≡ []))
          ⊎ ((e : Event) × (events ≡ e ∷ []) × IsOutcomeOf meaning seat hand old new before after outcome e)
      follows : Follows (state_of meaning old) events (state_of meaning new)

    made-events : (outcome : Outcome) → IsMade meaning seat hand old new before after outcome → HasEvents outcome
    made-events _ (IsMade.makes outcome e tells m) = record { events = e ∷ []; its = inr (e, refl, tells); follows = (m.may, m.state) }
    made-events _ (IsMade.waits meets is) = record { events = []; its = inl (refl, refl); follows = ap (state_of meaning) is }
    made-events _ (IsMade.rests meets is) =
        absurd (let clash : false ≡ true = sym (ap is_some going) ∙ stopped-met old meets.meets in cc)

  -- what is sent then leaves the engine as it is, or the sink fails
  abbrev Sent : Core C V M → Core C V M → Type 0
  Sent old new = (new ≡ old) ⊎ ((old.stop ≡ None) × (new ≡ stopped_by Stop.WriteFault old))

  sent-so : (seat : ℕ) (hand : Option MachineView) (old new : ShellView C V M) (outcome : Outcome) (turned : HasTurned meaning seat hand old new outcome)
      → Sent turned.core new.core
  sent-so seat hand old new outcome turned = by (is_to_flush outcome) refl
    where
      flushed : turned.core.stop ≡ None → HasFlushed (record { core = turned.core; sent = old.sent; ends = record old.ends { told = new.ends.told } }) new
          → Sent turned.core new.core
      flushed going (HasFlushed.sends appended stays same sent) = inl same
      flushed going (HasFlushed.fails gone first short risen same sent) = inr (going, same)

      by : (b : Bool) → is_to_flush outcome ≡ b → Sent turned.core new.core
      by true e =
          flushed (outcome-more meaning seat hand old.core turned.core old.ends.told new.ends.told outcome e
          (rowed meaning seat hand old.core turned.core old.ends.told new.ends.told outcome turned.done)).going (turned.flushes e)
      by false e = inl (ap (λ (x : ShellView C V M). x.core) (turned.stays e))

  -- Picks make events. The last of them may be a halt.
  record HasRun (mades : List Made) (first last : ShellView C V M) (plays : Plays meaning mades first last) : Type 0 where
    events : List Event
    its : AreEventsOfPicks meaning mades first last plays events
    halts : List Event
    outside : AreHalts halts
    follows : Follows (state first) (events ++ halts) (state last)

  -- one pick more in front
  run-on : (made : Made) (mades : List Made) (first mid last : ShellView C V M) (going : first.core.stop ≡ None) (p : HasPlayed meaning made first mid)
      (plays : Plays meaning mades mid last) (d : HasEvents made.seat p.hand first.core p.turned.core first.ends.told mid.ends.told going made.outcome)
      → mid.core ≡ p.turned.core → HasRun mades mid last plays → HasRun (made ∷ mades) first last (mid, going, p, plays)
  run-on made mades first mid last going p plays d same run = record {
    events = d.events ++ run.events;
    its = (d.events, run.events, refl, d.its, run.its);
    halts = run.halts;
    outside = run.outside;
    follows =
        subst (λ (es : List Event). Follows (state first) es (state last)) (sym (append_assoc d.events run.events run.halts))
        (follows-then d.events (run.events ++ run.halts) (state first) (state mid) (state last)
        (subst (λ (c : Core C V M). Follows (state first) d.events (state_of meaning c)) (sym same) d.follows) run.follows);
  }

  -- the sink fails, and no seat is picked since
  run-fails : (made : Made) (mades : List Made) (first mid last : ShellView C V M) (going : first.core.stop ≡ None) (p : HasPlayed meaning made first mid)
      (plays : Plays meaning mades mid last) (d : HasEvents made.seat p.hand first.core p.turned.core first.ends.told mid.ends.told going made.outcome)
      → p.turned.core.stop ≡ None → mid.core ≡ stopped_by Stop.WriteFault p.turned.core → Sound (state_of meaning p.turned.core)
      → HasRun (made ∷ mades) first last (mid, going, p, plays)
  run-fails made [] first mid last going p plays d none is sound =
      let halts = outside-halts Stop.WriteFault refl p.turned.core sound none in
      record {
        events = d.events ++ [];
        its = (d.events, [], refl, d.its, refl);
        halts = Event.Halt Stop.WriteFault ∷ [];
        outside = inr (Stop.WriteFault, refl, refl);
        follows =
            subst (λ (es : List Event). Follows (state first) (es ++ Event.Halt Stop.WriteFault ∷ []) (state last)) (sym (append-nil d.events))
            (follows-then d.events (Event.Halt Stop.WriteFault ∷ []) (state first) (state_of meaning p.turned.core) (state last) d.follows
            (halts.may, ap state plays ∙ ap (state_of meaning) is ∙ halts.state));
      }
  run-fails made (next ∷ mades) first mid last going p plays d none is sound =
      absurd (some-none mid.core.stop (unwrap_or p.turned.core.stop Stop.WriteFault) (ap (λ (c : Core C V M). c.stop) is) plays.1)

  plays-run : (mades : List Made) (first last : ShellView C V M) (plays : Plays meaning mades first last) → Sound (state first) → HasRun mades first last plays
  plays-run [] first last plays sound = record { events = []; its = refl; halts = []; outside = inl refl; follows = ap state plays }
  plays-run (made ∷ mades) first last plays sound =
      by (sent-so made.seat plays.2.hand first plays.0 made.outcome plays.2.turned) (λ same. plays-run mades plays.0 last plays.3 (still same))
    where
      does : HasEvents made.seat plays.2.hand first.core plays.2.turned.core first.ends.told plays.0.ends.told plays.1 made.outcome
      does =
          made-events made.seat plays.2.hand first.core plays.2.turned.core first.ends.told plays.0.ends.told plays.1 made.outcome plays.2.turned.done.event

      so : Sound (state_of meaning plays.2.turned.core)
      so = sound-along does.events (state first) (state_of meaning plays.2.turned.core) does.follows sound

      still : plays.0.core ≡ plays.2.turned.core → Sound (state plays.0)
      still same = subst (λ (c : Core C V M). Sound (state_of meaning c)) (sym same) so

      by : Sent plays.2.turned.core plays.0.core → (plays.0.core ≡ plays.2.turned.core → HasRun mades plays.0 last plays.3)
          → HasRun (made ∷ mades) first last plays
      by (inl same) rest = run-on made mades first plays.0 last plays.1 plays.2 plays.3 does same (rest same)
      by (inr fails) rest = run-fails made mades first plays.0 last plays.1 plays.2 plays.3 does fails.0 fails.1 so

  -- A run may be out of memory at the end.
  module _ (opening : Opening C) (mades : List Made) (first last now : ShellView C V M) (plays : Plays meaning mades first last)
      (fresh : state first ≡ started_state (meaning.program opening.code) (meaning.signature opening.code) opening.limits) (sound : Sound (state first)) where
    abbrev begun : EngineState
    begun = started_state (meaning.program opening.code) (meaning.signature opening.code) opening.limits

    from-start : (es : List Event) (end : EngineState) → Follows (state first) es end → Follows begun es end
    from-start es end h = subst (λ (s : EngineState). Follows s es end) fresh h

    -- if no stop is kept, there was no halt
    run-lacks : (run : HasRun mades first last plays) → last.core.stop ≡ None → now ≡ lacking last → run.halts ≡ []
        → IsRunOfPicks meaning opening mades first last now plays
    run-lacks run going is none =
        let all : Follows (state first) run.events (state last) =
        subst (λ (es : List Event). Follows (state first) es (state last)) (ap (λ (hs : List Event). run.events ++ hs) none ∙ append-nil run.events) run.follows in
        let halts = outside-halts Stop.NoMemory refl last.core (sound-along run.events (state first) (state last) all sound) going in
        record {
          events = run.events;
          its = run.its;
          halts = Event.Halt Stop.NoMemory ∷ [];
          outside = inr (Stop.NoMemory, refl, refl);
          follows =
              from-start (run.events ++ Event.Halt Stop.NoMemory ∷ []) (state now)
              (follows-then run.events (Event.Halt Stop.NoMemory ∷ []) (state first) (state last) (state now) all (halts.may, ap state is ∙ halts.state));
        }

    pub picks-run : (now ≡ last) ⊎ ((last.core.stop ≡ None) × (now ≡ lacking last)) → IsRunOfPicks meaning opening mades first last now plays
    picks-run ends = by (plays-run mades first last plays sound) ends
      where
        halted : (run : HasRun mades first last plays) → last.core.stop ≡ None → now ≡ lacking last → AreHalts run.halts
            → IsRunOfPicks meaning opening mades first last now plays
        halted run going is (inl none) = run-lacks run going is none
        halted run going is (inr halt) =
            absurd (some-none last.core.stop halt.0
            (halted-last run.events (state first) (state last) halt.0
            (subst (λ (hs : List Event). Follows (state first) (run.events ++ hs) (state last)) halt.2 run.follows)) going)

        by : (run : HasRun mades first last plays) → (now ≡ last) ⊎ ((last.core.stop ≡ None) × (now ≡ lacking last))
            → IsRunOfPicks meaning opening mades first last now plays
        by run (inl same) = record {
          events = run.events;
          its = run.its;
          halts = run.halts;
          outside = run.outside;
          follows =
              subst (λ (v : ShellView C V M). Follows begun (run.events ++ run.halts) (state v)) (sym same)
              (from-start (run.events ++ run.halts) (state last) run.follows);
        }
        by run (inr lacked) = halted run lacked.0 lacked.1 run.outside
