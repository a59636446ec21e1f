-- Stops that no end of a run causes.
use Rattle.std.proofs.Common.{◌≡◌, ℕ, Bool, true, false, List, Option, Some, None, refl, sym, subst}
use Rattle.std.specs.Prelude.{unwrap_or}
use Rattle.ame_device.specs.declared.told.Told.{Told}
use Rattle.ame_protocol.specs.declared.stop.Stop.{Stop}
use Rattle.ame_shell.specs.Heard.{NoneFailed, HaveFailed}
use Rattle.ame_shell.specs.Shell.{GoesTo}

-- whether neither the sink nor a device causes it
abbrev pub is_quiet : Stop → Bool
is_quiet Stop.Finished = true
is_quiet Stop.Blocked = true
is_quiet Stop.Spent = true
is_quiet (Stop.Tall number) = true
is_quiet Stop.NoMemory = true
is_quiet Stop.WriteFault = false
is_quiet (Stop.DeviceFault device) = false

-- the kept stop stays, or is one of these
pub data GoesQuietly (old new : Option Stop) : Type 0 where
  stays : new ≡ old → GoesQuietly old new
  stops : (why : Stop) → is_quiet why ≡ true → old ≡ None → new ≡ Some why → GoesQuietly old new

-- a stop is kept, if it is the first
pub stops-by : (why : Stop) → is_quiet why ≡ true → (o : Option Stop) → GoesQuietly o (Some (unwrap_or o why))
stops-by why quiet None = GoesQuietly.stops why quiet refl refl
stops-by why quiet (Some kept) = GoesQuietly.stays refl

module _ (a b : List Told) where
  none-failed : (why : Stop) → is_quiet why ≡ true → NoneFailed a b → HaveFailed (Some why) a b
  none-failed Stop.Finished e h = h
  none-failed Stop.Blocked e h = h
  none-failed Stop.Spent e h = h
  none-failed (Stop.Tall number) e h = h
  none-failed Stop.NoMemory e h = h
  none-failed Stop.WriteFault e h = cc
  none-failed (Stop.DeviceFault device) e h = cc

  pub quiet-failed : (old new : Option Stop) → GoesQuietly old new → HaveFailed old a b → HaveFailed new a b
  quiet-failed old new (GoesQuietly.stays same) h = subst (λ (o : Option Stop). HaveFailed o a b) (sym same) h
  quiet-failed old new (GoesQuietly.stops why quiet none is) h =
      subst (λ (o : Option Stop). HaveFailed o a b) (sym is) (none-failed why quiet (subst (λ (o : Option Stop). HaveFailed o a b) none h))

module _ (sent : ℕ) (text : List ℕ) (faults now : ℕ) where
  goes-on : (why : Stop) → is_quiet why ≡ true → GoesTo None sent text faults now → GoesTo (Some why) sent text faults now
  goes-on Stop.Finished e h = h
  goes-on Stop.Blocked e h = h
  goes-on Stop.Spent e h = h
  goes-on (Stop.Tall number) e h = h
  goes-on Stop.NoMemory e h = h
  goes-on Stop.WriteFault e h = cc
  goes-on (Stop.DeviceFault device) e h = cc

  pub quiet-goes : (old new : Option Stop) → GoesQuietly old new → GoesTo old sent text faults now → GoesTo new sent text faults now
  quiet-goes old new (GoesQuietly.stays same) h = subst (λ (o : Option Stop). GoesTo o sent text faults now) (sym same) h
  quiet-goes old new (GoesQuietly.stops why quiet none is) h =
      subst (λ (o : Option Stop). GoesTo o sent text faults now) (sym is) (goes-on why quiet (subst (λ (o : Option Stop). GoesTo o sent text faults now) none h))
