-- Devices by their numbers.
use Rattle.std.proofs.Common.{◌≡◌, ℕ, ◌⊎◌, inl, inr, List, length, Some, None, Ok, Err, sym, ap, ◌∙◌, subst}
use Rattle.std.specs.Prelude.{ℤ, slice_get, slice_set}
use Rattle.std.proofs.lemmas.Option.{slice_get_within, get_or_from_slice_get}
use Rattle.std.proofs.lemmas.List.{length-set, get_or-set_same, get_or-set_other}
use Rattle.ame_protocol.proofs.Row.CellLemmas.{which}
use Rattle.ame_device.specs.declared.told.DeviceKind.{DeviceKind}
use Rattle.ame_device.specs.declared.told.Told.{Told}
use Rattle.ame_device.specs.declared.fault.DeviceFail.{DeviceFail}
use Rattle.ame_device.specs.Calls.{told, answered, one_more, CallsOne}
use Rattle.ame_device.specs.Kinds.{AnswersByKind}
use Rattle.ame_device.proofs.KindLemmas.{answers-more}
use Rattle.ame_io.specs.Counts.{HasRisen}
use Rattle.ame_shell.specs.Ends.{told_at}
use Rattle.ame_shell.specs.Heard.{NoneFailed, OneFailed}

told-found : (devices : List Told) (k : ℕ) (was : Told) → slice_get devices k ≡ Some was → told_at devices k ≡ was
told-found devices k was found = get_or_from_slice_get devices k was (told DeviceKind.Other None 0) found

told-here : (devices : List Told) (k : ℕ) (was is : Told) → slice_get devices k ≡ Some was → told_at (slice_set devices k is) k ≡ is
told-here devices k was is found = get_or-set_same devices k is (told DeviceKind.Other None 0) (slice_get_within devices k was found)

told-else : (devices : List Told) (k other : ℕ) (is : Told) → (other ≡ k → ⊥) → told_at (slice_set devices k is) other ≡ told_at devices other
told-else devices k other is apart = get_or-set_other devices k other is (told DeviceKind.Other None 0) apart

-- a device answered
module _ (before after : List Told) (k : ℕ) (argument answer : ℤ) (c : CallsOne before k argument (Ok answer) after) where
  pub call-count : length after ≡ length before
  call-count = ap length c.others ∙ length-set before k c.is

  is-here : told_at after k ≡ told c.was.kind (one_more c.was.heard (answered argument answer)) c.was.faults
  is-here = ap (λ (ts : List Told). told_at ts k) c.others ∙ told-here before k c.was c.is c.found ∙ c.answers.0

  was-here : told_at before k ≡ c.was
  was-here = told-found before k c.was c.found

  pub called-heard : (told_at after k).heard ≡ one_more (told_at before k).heard (answered argument answer)
  called-heard = ap (λ (t : Told). t.heard) is-here ∙ ap (λ (t : Told). one_more t.heard (answered argument answer)) (sym was-here)

  pub called-else : (other : ℕ) → (other ≡ k → ⊥) → told_at after other ≡ told_at before other
  called-else other apart = ap (λ (ts : List Told). told_at ts other) c.others ∙ told-else before k other c.is apart

  -- the device answers by its kind
  pub called-right : AnswersByKind (told_at before k) → AnswersByKind (told_at after k)
  called-right right =
      subst AnswersByKind (sym is-here)
      (answers-more c.was.kind c.was.heard c.was.faults argument answer c.answers.1 (subst AnswersByKind was-here right))

  pub called-kind : (other : ℕ) → (told_at after other).kind ≡ (told_at before other).kind
  called-kind other = by (which other k)
    where
      by : (other ≡ k) ⊎ ((other ≡ k) → ⊥) → (told_at after other).kind ≡ (told_at before other).kind
      by (inl here) =
          ap (λ (j : ℕ). (told_at after j).kind) here ∙ ap (λ (t : Told). t.kind) is-here
          ∙ ap (λ (t : Told). t.kind) (sym was-here) ∙ ap (λ (j : ℕ). (told_at before j).kind) (sym here)
      by (inr apart) = ap (λ (t : Told). t.kind) (called-else other apart)

  -- no device failed by that
  pub called-faults : NoneFailed before after
  called-faults other = by (which other k)
    where
      by : (other ≡ k) ⊎ ((other ≡ k) → ⊥) → (told_at after other).faults ≡ (told_at before other).faults
      by (inl here) =
          ap (λ (j : ℕ). (told_at after j).faults) here ∙ ap (λ (t : Told). t.faults) is-here
          ∙ ap (λ (t : Told). t.faults) (sym was-here) ∙ ap (λ (j : ℕ). (told_at before j).faults) (sym here)
      by (inr apart) = ap (λ (t : Told). t.faults) (called-else other apart)

-- a device failed
module _ (before after : List Told) (k : ℕ) (argument : ℤ) (c : CallsOne before k argument (Err DeviceFail.Failed) after) where
  pub fail-count : length after ≡ length before
  fail-count = ap length c.others ∙ length-set before k c.is

  failed-here : told_at after k ≡ c.is
  failed-here = ap (λ (ts : List Told). told_at ts k) c.others ∙ told-here before k c.was c.is c.found

  found-here : told_at before k ≡ c.was
  found-here = told-found before k c.was c.found

  failed-else : (other : ℕ) → (other ≡ k → ⊥) → told_at after other ≡ told_at before other
  failed-else other apart = ap (λ (ts : List Told). told_at ts other) c.others ∙ told-else before k other c.is apart

  -- what was heard stays
  pub failed-heard : (other : ℕ) → (told_at after other).heard ≡ (told_at before other).heard
  failed-heard other = by (which other k)
    where
      by : (other ≡ k) ⊎ ((other ≡ k) → ⊥) → (told_at after other).heard ≡ (told_at before other).heard
      by (inl here) =
          ap (λ (j : ℕ). (told_at after j).heard) here ∙ ap (λ (t : Told). t.heard) failed-here ∙ c.answers.0
          ∙ ap (λ (t : Told). t.heard) (sym found-here) ∙ ap (λ (j : ℕ). (told_at before j).heard) (sym here)
      by (inr apart) = ap (λ (t : Told). t.heard) (failed-else other apart)

  pub failed-kind : (other : ℕ) → (told_at after other).kind ≡ (told_at before other).kind
  failed-kind other = by (which other k)
    where
      by : (other ≡ k) ⊎ ((other ≡ k) → ⊥) → (told_at after other).kind ≡ (told_at before other).kind
      by (inl here) =
          ap (λ (j : ℕ). (told_at after j).kind) here ∙ ap (λ (t : Told). t.kind) failed-here ∙ c.answers.2
          ∙ ap (λ (t : Told). t.kind) (sym found-here) ∙ ap (λ (j : ℕ). (told_at before j).kind) (sym here)
      by (inr apart) = ap (λ (t : Told). t.kind) (failed-else other apart)

  pub failed-one : OneFailed k before after
  failed-one = record { risen = risen; others = λ other apart. ap (λ (t : Told). t.faults) (failed-else other apart) }
    where
      risen : HasRisen (told_at before k).faults (told_at after k).faults
      risen = subst (λ (t : Told). HasRisen t.faults (told_at after k).faults) (sym found-here)
          (subst (λ (t : Told). HasRisen c.was.faults t.faults) (sym failed-here) c.answers.1)
