-- Bytes written after those that were sent.
use Rattle.std.proofs.Common.{◌≡◌, ◌≢◌, ℕ, inl, inr, List, ◌++◌, Option, Some, sym, ◌∙◌, subst}
use Rattle.std.proofs.KnownBytes.{Appends-trans}
use Rattle.ame_io.specs.Counts.{HasRisen}
use Rattle.ame_io.specs.Writes.{AppendsFront}
use Rattle.ame_io.proofs.WritesLemmas.{AppendsFront-first, AppendsFront-after, AppendsFront-longer}
use Rattle.ame_protocol.specs.declared.stop.Stop.{Stop}
use Rattle.ame_shell.specs.Ends.{Ends}
use Rattle.ame_shell.specs.Sent.{IsSent, IsSentWhole, IsSentInPart}
use Rattle.ame_app.specs.declared.status.Status.{Status}
use Rattle.ame_app.specs.Headline.{IsWritten}
use Rattle.ame_app.specs.Jobs.{Speaks, SpeaksBehind}

module _ (before mid after : Ends) (told status : Status) (text more : List ℕ)
    (speaks : Speaks told more status mid.written mid.write_faults after.written after.write_faults) where
  -- bytes are written after a text that was sent whole
  pub after-whole : told ≢ Status.WriteFault → IsSentWhole text before mid → IsWritten status (text ++ more) before after
  after-whole other sent = elim speaks [
    | inl s ↦ record {
      whole = λ _. (Appends-trans before.written mid.written after.written text more sent.appended s.appended, s.stayed ∙ sent.stayed);
      front = λ e. absurd (other (sym s.is ∙ e));
    }
    | inr c ↦ record {
      whole = λ ne. absurd (ne c.is);
      front = λ _. (
        AppendsFront-after before.written mid.written after.written text more sent.appended c.appended,
        subst (λ (n : ℕ). HasRisen n after.write_faults) sent.stayed c.risen,
      );
    }
  ]

-- nothing is written after a text that was sent in part
after-part : (before mid after : Ends) (status : Status) (text more : List ℕ) → status ≡ Status.WriteFault → after.written ≡ mid.written
    → after.write_faults ≡ mid.write_faults → IsSentInPart text before mid → IsWritten status (text ++ more) before after
after-part before mid after status text more is stays kept sent = record {
  whole = λ ne. absurd (ne is);
  front = λ _. (
    subst (λ (w : Option (List ℕ)). AppendsFront before.written w (text ++ more)) (sym stays)
        (AppendsFront-longer before.written mid.written text more (AppendsFront-first sent.gone before.written mid.written text sent.first)),
    subst (λ (n : ℕ). HasRisen before.write_faults n) (sym kept) sent.risen,
  );
}

-- After the lines of a run, a text is written by the stop that its engine kept.
pub after-lines : (stop : Option Stop) (told : Status) (before mid after : Ends) (status : Status) (text more : List ℕ)
    → (stop ≢ Some Stop.WriteFault → told ≢ Status.WriteFault)
    → SpeaksBehind stop told more status mid.written mid.write_faults after.written after.write_faults
    → IsSent stop text before mid → IsWritten status (text ++ more) before after
after-lines (Some Stop.WriteFault) told before mid after status text more other speaks sent =
    after-part before mid after status text more speaks.0 speaks.1 speaks.2 sent
after-lines stop told before mid after status text more other speaks sent =
    after-whole before mid after told status text more speaks (other (λ e. cc)) sent

-- if the sink failed at the lines, that is the status
pub tells-fault : (stop : Option Stop) (told : Status) (more : List ℕ) (status : Status) (a : Option (List ℕ)) (m : ℕ) (b : Option (List ℕ)) (n : ℕ)
    → SpeaksBehind stop told more status a m b n → stop ≡ Some Stop.WriteFault → status ≡ Status.WriteFault
tells-fault (Some Stop.WriteFault) told more status a m b n speaks e = speaks.0
tells-fault stop told more status a m b n speaks e = absurd (cc)

-- the status of a call is that of its verdict line, unless the sink failed
pub spoken-is : (stop : Option Stop) (told status : Status) (more : List ℕ) (a : Option (List ℕ)) (m : ℕ) (b : Option (List ℕ)) (n : ℕ)
    → SpeaksBehind stop told more status a m b n → status ≢ Status.WriteFault → status ≡ told
spoken-is (Some Stop.WriteFault) told status more a m b n speaks ne = absurd (ne speaks.0)
spoken-is stop told status more a m b n (inl s) ne = s.is
spoken-is stop told status more a m b n (inr c) ne = absurd (ne c.is)

-- a text that is written at once is written by its status
pub written-once : (before mid after : Ends) (told status : Status) (text : List ℕ) → mid.written ≡ before.written → mid.write_faults ≡ before.write_faults
    → told ≢ Status.WriteFault → Speaks told text status mid.written mid.write_faults after.written after.write_faults → IsWritten status text before after
written-once before mid after told status text unwritten unfailed other speaks =
    by (subst (λ (w : Option (List ℕ)). Speaks told text status w before.write_faults after.written after.write_faults) unwritten
    (subst (λ (n : ℕ). Speaks told text status mid.written n after.written after.write_faults) unfailed speaks))
  where
    by : Speaks told text status before.written before.write_faults after.written after.write_faults → IsWritten status text before after
    by (inl s) = record { whole = λ _. (s.appended, s.stayed); front = λ e. absurd (other (sym s.is ∙ e)) }
    by (inr c) = record { whole = λ ne. absurd (ne c.is); front = λ _. (c.appended, c.risen) }
