-- An engine keeps a stop without an entry.
use Rattle.std.proofs.Common.{◌≡◌, ℕ, true, false, Option, Some, None, refl, ap, ◌∙◌, sym, subst, List}
use Rattle.std.specs.Prelude.{unwrap_or}
use Rattle.ame_pool.specs.declared.oldest.Oldest.{Oldest}
use Rattle.ame_pool.specs.Begin.{oldest}
use Rattle.ame_machine.specs.Meaning.{Meaning}
use Rattle.ame_protocol.specs.declared.stop.Stop.{Stop}
use Rattle.ame_protocol.specs.Engine.Parts.{Parts}
use Rattle.ame_protocol.specs.Engine.Events.{has_stopped}
use Rattle.ame_protocol.specs.Event.Bounds.{LeavesNoTry}
use Rattle.ame_protocol.specs.Event.Causes.{HasCause, IsCause, certificates_for, certificates_in, is_from_outside, only_seats_keep}
use Rattle.ame_protocol.specs.Event.Event.{Event}
use Rattle.ame_engine.specs.Core.{Core}
use Rattle.ame_engine.specs.Seen.{parts_of, term_shown}
use Rattle.ame_engine.specs.Makes.{Makes}
use Rattle.ame_engine.specs.Stops.{stopped_by, blocked_by}
use Rattle.ame_engine.proofs.OldestLemmas.{oldest-shown}
use Rattle.ame_journal.specs.declared.certificate.Certificate.{Certificate}

-- Neither the certificates for a stop nor its cause depend on whether a stop is kept.
told-stopped : (why : Stop) (parts : Parts) → certificates_for (Some why) (has_stopped parts) ≡ certificates_for (Some why) parts
told-stopped Stop.Finished parts = refl
told-stopped Stop.Blocked parts = refl
told-stopped Stop.Spent parts = refl
told-stopped (Stop.Tall number) parts = refl
told-stopped Stop.NoMemory parts = refl
told-stopped Stop.WriteFault parts = refl
told-stopped (Stop.DeviceFault device) parts = refl

cause-stopped : (why : Stop) (parts : Parts) → IsCause (Some why) (has_stopped parts) → IsCause (Some why) parts
cause-stopped Stop.Finished parts h = h
cause-stopped Stop.Blocked parts h = h
cause-stopped Stop.Spent parts h = record { turns = h.turns; left = h.left }
cause-stopped (Stop.Tall number) parts h = tt
cause-stopped Stop.NoMemory parts h = tt
cause-stopped Stop.WriteFault parts h = tt
cause-stopped (Stop.DeviceFault device) parts h = h

-- A stop from outside is none that only seats keep.
pub outside-apart : (why : Stop) → is_from_outside why ≡ true → only_seats_keep why ≡ false
outside-apart Stop.NoMemory e = refl
outside-apart Stop.WriteFault e = refl
outside-apart _ e = absurd (let clash : false ≡ true = e in cc)

module _ {C V M : Type 0} (meaning : Meaning C V M) (old new : Core C V M) (going : old.stop ≡ None) where
  pub makes-halted : (why : Stop) → new ≡ stopped_by why old → only_seats_keep why ≡ false
      → HasCause (Some why) old.certificates (parts_of meaning (stopped_by why old)) → LeavesNoTry why (parts_of meaning old) → Makes meaning (Event.Halt why) old new
  makes-halted why is apart cause leaves =
      let parts = parts_of meaning old in
      let stop-is : Some (unwrap_or old.stop why) ≡ Some why = ap (λ (o : Option Stop). Some (unwrap_or o why)) going in
      let told-is : old.certificates ≡ certificates_for (Some why) parts = cause.told ∙ told-stopped why parts in
      subst (Makes meaning (Event.Halt why) old) (sym is) (record {
        code = refl;
        may = record { none = going; cause = cause-stopped why parts cause.cause; apart = apart; leaves = leaves };
        state = λ i. record { parts = has_stopped parts; counters = old.counters; stop = stop-is i; certificates = told-is i };
      })

  pub makes-blocked_halt : new ≡ blocked_by (certificates_in (parts_of meaning old)) old → oldest old.pool ≡ Oldest.Parked
      → Makes meaning (Event.Halt Stop.Blocked) old new
  makes-blocked_halt is parked = subst (Makes meaning (Event.Halt Stop.Blocked) old) (sym is) (record {
    code = refl;
    may = record { none = going; cause = oldest-shown (term_shown meaning.stage old.code) old.pool ∙ parked; apart = refl; leaves = tt };
    state = refl;
  })
