-- A list of devices, one of them called.
use Rattle.std.proofs.Common.{◌≡◌, ℕ, ℤ, List, Some, Result, Err, map, option_map, sym, ap, subst, ◌∙◌}
use Rattle.std.specs.Prelude.{slice_get, slice_set}
use Rattle.std.proofs.lemmas.Option.{slice_get-map, get_or_from_slice_get}
use Rattle.std.proofs.lemmas.List.{map-set, set-get_or}
use Rattle.ame_device.specs.Calls.{AnswersCall, CallsOne}
use Rattle.ame_device.specs.declared.told.Told.{Told}
use Rattle.ame_device.specs.declared.fault.DeviceFail.{DeviceFail}

-- if memory ran out, each device reports what it reported before
pub wanting-leaves : (before after : List Told) (k : ℕ) (argument : ℤ) → CallsOne before k argument (Err DeviceFail.NoMemory) after → after ≡ before
wanting-leaves before after k argument c =
    c.others ∙ ap (slice_set before k) (c.answers ∙ sym (get_or_from_slice_get before k c.was c.was c.found)) ∙ set-get_or before k c.was

-- a device of a list answered, and the others stayed
pub calls-one : {D : Type 0} (tell : D → Told) (devices : List D) (k : ℕ) (old new : D) (n argument : ℤ) (result : Result ℤ DeviceFail) → slice_get devices k ≡ Some old →
    n ≡ argument → AnswersCall (tell old) n result (tell new) → CallsOne (map tell devices) k argument result (map tell (slice_set devices k new))
calls-one tell devices k old new n argument result found same answers = record {
  was = tell old;
  is = tell new;
  found = slice_get-map tell devices k ∙ ap (option_map tell) found;
  answers = subst (λ m. AnswersCall (tell old) m result (tell new)) same answers;
  others = map-set tell devices k new;
}
