-- One turn from one state leads to one state.
use Rattle.std.proofs.Common.{◌≡◌, ℕ, ◌==◌, ℤ, Bool, true, false, List, Option, Some, None, IsTrue, refl, sym, ap, ◌∙◌, subst}
use Rattle.std.specs.Prelude.{is_some, nat_lt, unwrap_or, if◌then◌else◌}
use Rattle.std.proofs.lemmas.Bool.{eq-eqb}
use Rattle.ame_device.specs.declared.told.Told.{Told}
use Rattle.ame_machine.specs.MachineView.{MachineView}
use Rattle.ame_machine.specs.Meaning.{Meaning}
use Rattle.ame_pool.specs.declared.oldest.Oldest.{Oldest}
use Rattle.ame_pool.specs.Begin.{oldest}
use Rattle.ame_protocol.specs.declared.stop.Stop.{Stop}
use Rattle.ame_protocol.specs.Engine.Parts.{task_at}
use Rattle.ame_protocol.specs.Event.After.{after}
use Rattle.ame_protocol.specs.Event.Event.{Event}
use Rattle.ame_protocol.specs.Event.May.{May}
use Rattle.ame_protocol.specs.Event.EngineState.{EngineState}
use Rattle.ame_engine.specs.declared.pick.Pick.{Pick}
use Rattle.ame_engine.specs.AtWork.{IsOnSeat}
use Rattle.ame_engine.specs.Begins.{pick_of, pick_by}
use Rattle.ame_engine.specs.Core.{Core}
use Rattle.ame_engine.specs.Makes.{state_of, Makes}
use Rattle.ame_engine.specs.Seen.{parts_of, term_shown}
use Rattle.ame_engine.proofs.OldestLemmas.{oldest-shown}
use Rattle.ame_shell.specs.declared.work.Outcome.{Outcome}
use Rattle.ame_shell.specs.Outcomes.{IsOutcomeOf, IsMade, Meets}
use Rattle.ame_shell.specs.Shell.{ShellView}
use Rattle.ame_shell.specs.Turned.{HasFlushed, HasTurned, is_to_flush}
use Rattle.ame_repeats.specs.Answers.{answer_of, is_fault}
use Rattle.ame_repeats.proofs.VisitsLemmas.{false-apart}
use Rattle.ame_repeats.proofs.ClassLemmas.{class, class-here, its-class, is-class, meets, is_idle, is_lost}
use Rattle.ame_repeats.proofs.PairLemmas.{pair}

-- Which pick is met is in the state.
module _ {C V M : Type 0} (meaning : Meaning C V M) (old other : Core C V M) (same : state_of meaning old ≡ state_of meaning other) where
  oldest-one : oldest old.pool ≡ oldest other.pool
  oldest-one =
      sym (oldest-shown (term_shown meaning.stage old.code) old.pool) ∙ ap (λ (x : EngineState). oldest x.parts.pool) same
      ∙ oldest-shown (term_shown meaning.stage other.code) other.pool

  abbrev picked : Option Stop → ℕ → ℕ → Oldest → Pick
  picked stop turns limit found = if is_some stop then Pick.Stopped else pick_by (if nat_lt turns limit then false else true) found

  pub pick-one : pick_of old ≡ pick_of other
  pick-one =
      ap (λ (x : EngineState). picked x.stop x.parts.turns x.parts.limits.turns (oldest old.pool)) same
      ∙ ap (picked other.stop other.turns other.limits.turns) oldest-one

  pub class-one : (seat : ℕ) (hand : Option MachineView) (new next : Core C V M) (b1 a1 b2 a2 : List Told)
      → class-here meaning seat hand old new b1 a1 ≡ class-here meaning seat hand other next b2 a2
  class-one seat hand new next b1 a1 b2 a2 =
      ap (λ (x : EngineState). class (is_idle (task_at x.parts.tasks seat)) (nat_lt x.parts.turns x.parts.limits.turns) (pick_of old) hand x.parts.limits.slice) same
      ∙ ap (λ (p : Pick). class (is_idle (task_at other.tasks seat)) (nat_lt other.turns other.limits.turns) p hand other.limits.slice) pick-one

by-pick : (spent : Bool) (found : Oldest) → pick_by spent found ≡ Pick.Stopped → ⊥
by-pick spent Oldest.Empty e = cc
by-pick spent Oldest.Parked e = cc
by-pick true Oldest.Wait e = cc
by-pick false Oldest.Wait e = cc
by-pick true (Oldest.Member number) e = cc
by-pick false (Oldest.Member number) e = cc

module _ {C V M : Type 0} (meaning : Meaning C V M) (seat : ℕ) (hand : Option MachineView) (old new : Core C V M) (before after' : List Told) where
  abbrev Made : Outcome → Type 0
  Made o = IsMade meaning seat hand old new before after' o

  not-waiting : (o : Outcome) (e : Event) (p : IsOutcomeOf meaning seat hand old new before after' o e) → IsTrue (16 == its-class meaning seat hand old new before after' o e p) → ⊥
  not-waiting _ _ (IsOutcomeOf.began number meets) h = false-apart h
  not-waiting _ _ (IsOutcomeOf.stopped pick why meets is stops) h = false-apart h
  not-waiting _ _ (IsOutcomeOf.read s l comes) h = false-apart h
  not-waiting _ _ (IsOutcomeOf.wrote s l v comes sets) h = false-apart h
  not-waiting _ _ (IsOutcomeOf.met s l a owner comes) h = false-apart h
  not-waiting _ _ (IsOutcomeOf.allocated s sort ty v comes sets) h = false-apart h
  not-waiting _ _ (IsOutcomeOf.checked s a checks) h = false-apart h
  not-waiting _ _ (IsOutcomeOf.found_invalid s a bad checks invalid) h = false-apart h
  not-waiting _ _ (IsOutcomeOf.ended s a place runs shows) h = false-apart h
  not-waiting _ _ (IsOutcomeOf.left s a place runs shows) h = false-apart h
  not-waiting _ _ (IsOutcomeOf.refused s a bad commit invalid) h = false-apart h
  not-waiting _ _ (IsOutcomeOf.noted s a place runs shows) h = false-apart h
  not-waiting _ _ (IsOutcomeOf.not_noted s a bad runs invalid) h = false-apart h
  not-waiting _ _ (IsOutcomeOf.grew_tall s a place asks valid shows) h = false-apart h
  not-waiting _ _ (IsOutcomeOf.not_tall s a bad runs invalid) h = false-apart h
  not-waiting _ _ (IsOutcomeOf.came_home s comes answer memory a place visit visits shows) h = false-apart h
  not-waiting _ _ (IsOutcomeOf.device_failed s device argument a visit wants fails) h = false-apart h
  not-waiting _ _ (IsOutcomeOf.cut s a place none met valid shows) h = false-apart h
  not-waiting _ _ (IsOutcomeOf.spent none busy invalid is) h = false-apart h
  not-waiting _ _ (IsOutcomeOf.undid a) h = false-apart h
  not-waiting _ _ (IsOutcomeOf.went_home a) h = false-apart h
  not-waiting _ _ (IsOutcomeOf.lacked is) h = false-apart h

  not-stopped : old.stop ≡ None → Meets meaning seat hand old new before after' Pick.Stopped → ⊥
  not-stopped going met =
      by-pick (if nat_lt old.turns old.limits.turns then false else true) (oldest old.pool)
      (ap (λ (o : Option Stop). if is_some o then Pick.Stopped else pick_by (if nat_lt old.turns old.limits.turns then false else true) (oldest old.pool)) (sym going) ∙ met.meets)

  -- unless a stop from outside is kept
  not-lost : (o : Outcome) → Made o → old.stop ≡ None → is_fault new.stop ≡ false → is_lost o ≡ false
  not-lost _ (IsMade.waits met is) going fine = refl
  not-lost _ (IsMade.rests met is) going fine = refl
  not-lost _ (IsMade.makes _ e (IsOutcomeOf.began number meets) m) going fine = refl
  not-lost _ (IsMade.makes _ e (IsOutcomeOf.stopped pick why meets is stops) m) going fine = refl
  not-lost _ (IsMade.makes _ e (IsOutcomeOf.read s l comes) m) going fine = refl
  not-lost _ (IsMade.makes _ e (IsOutcomeOf.wrote s l v comes sets) m) going fine = refl
  not-lost _ (IsMade.makes _ e (IsOutcomeOf.met s l a owner comes) m) going fine = refl
  not-lost _ (IsMade.makes _ e (IsOutcomeOf.allocated s sort ty v comes sets) m) going fine = refl
  not-lost _ (IsMade.makes _ e (IsOutcomeOf.checked s a checks) m) going fine = refl
  not-lost _ (IsMade.makes _ e (IsOutcomeOf.found_invalid s a bad checks invalid) m) going fine = refl
  not-lost _ (IsMade.makes _ e (IsOutcomeOf.ended s a place runs shows) m) going fine = refl
  not-lost _ (IsMade.makes _ e (IsOutcomeOf.left s a place runs shows) m) going fine = refl
  not-lost _ (IsMade.makes _ e (IsOutcomeOf.refused s a bad commit invalid) m) going fine = refl
  not-lost _ (IsMade.makes _ e (IsOutcomeOf.noted s a place runs shows) m) going fine = refl
  not-lost _ (IsMade.makes _ e (IsOutcomeOf.not_noted s a bad runs invalid) m) going fine = refl
  not-lost _ (IsMade.makes _ e (IsOutcomeOf.grew_tall s a place asks valid shows) m) going fine = refl
  not-lost _ (IsMade.makes _ e (IsOutcomeOf.not_tall s a bad runs invalid) m) going fine = refl
  not-lost _ (IsMade.makes _ e (IsOutcomeOf.came_home s comes answer memory a place visit visits shows) m) going fine = refl
  not-lost _ (IsMade.makes _ e (IsOutcomeOf.device_failed s device argument a visit wants fails) m) going fine =
      let stop : new.stop ≡ Some (Stop.DeviceFault device) = ap (λ (x : EngineState). x.stop) m.state in
      absurd (let clash : true ≡ false = sym (ap is_fault stop) ∙ fine in cc)
  not-lost _ (IsMade.makes _ e (IsOutcomeOf.cut s a place none met valid shows) m) going fine = refl
  not-lost _ (IsMade.makes _ e (IsOutcomeOf.spent none busy invalid is) m) going fine = refl
  not-lost _ (IsMade.makes _ e (IsOutcomeOf.undid a) m) going fine = refl
  not-lost _ (IsMade.makes _ e (IsOutcomeOf.went_home a) m) going fine = refl
  not-lost _ (IsMade.makes _ e (IsOutcomeOf.lacked is) m) going fine =
      let stop : new.stop ≡ Some Stop.NoMemory = ap (λ (x : Core C V M). x.stop) is ∙ ap (λ (o : Option Stop). Some (unwrap_or o Stop.NoMemory)) going in
      absurd (let clash : true ≡ false = sym (ap is_fault stop) ∙ fine in cc)

  -- what comes before lines are sent keeps no stop
  flush-going : (o : Outcome) → Made o → old.stop ≡ None → is_to_flush o ≡ true → new.stop ≡ None
  flush-going _ (IsMade.waits met is) going flush = cc
  flush-going _ (IsMade.rests met is) going flush = cc
  flush-going _ (IsMade.makes _ e (IsOutcomeOf.began number meets) m) going flush = cc
  flush-going _ (IsMade.makes _ e (IsOutcomeOf.stopped pick why meets is stops) m) going flush = cc
  flush-going _ (IsMade.makes _ e (IsOutcomeOf.read s l comes) m) going flush = cc
  flush-going _ (IsMade.makes _ e (IsOutcomeOf.wrote s l v comes sets) m) going flush = cc
  flush-going _ (IsMade.makes _ e (IsOutcomeOf.met s l a owner comes) m) going flush = cc
  flush-going _ (IsMade.makes _ e (IsOutcomeOf.allocated s sort ty v comes sets) m) going flush = cc
  flush-going _ (IsMade.makes _ e (IsOutcomeOf.checked s a checks) m) going flush = cc
  flush-going _ (IsMade.makes _ e (IsOutcomeOf.found_invalid s a bad checks invalid) m) going flush = cc
  flush-going _ (IsMade.makes _ e (IsOutcomeOf.ended s a place runs shows) m) going flush = ap (λ (x : EngineState). x.stop) m.state ∙ going
  flush-going _ (IsMade.makes _ e (IsOutcomeOf.left s a place runs shows) m) going flush = ap (λ (x : EngineState). x.stop) m.state ∙ going
  flush-going _ (IsMade.makes _ e (IsOutcomeOf.refused s a bad commit invalid) m) going flush = cc
  flush-going _ (IsMade.makes _ e (IsOutcomeOf.noted s a place runs shows) m) going flush = cc
  flush-going _ (IsMade.makes _ e (IsOutcomeOf.not_noted s a bad runs invalid) m) going flush = cc
  flush-going _ (IsMade.makes _ e (IsOutcomeOf.grew_tall s a place asks valid shows) m) going flush = cc
  flush-going _ (IsMade.makes _ e (IsOutcomeOf.not_tall s a bad runs invalid) m) going flush = cc
  flush-going _ (IsMade.makes _ e (IsOutcomeOf.came_home s comes answer memory a place visit visits shows) m) going flush = ap (λ (x : EngineState). x.stop) m.state ∙ going
  flush-going _ (IsMade.makes _ e (IsOutcomeOf.device_failed s device argument a visit wants fails) m) going flush = cc
  flush-going _ (IsMade.makes _ e (IsOutcomeOf.cut s a place none met valid shows) m) going flush = cc
  flush-going _ (IsMade.makes _ e (IsOutcomeOf.spent none busy invalid is) m) going flush = cc
  flush-going _ (IsMade.makes _ e (IsOutcomeOf.undid a) m) going flush = cc
  flush-going _ (IsMade.makes _ e (IsOutcomeOf.went_home a) m) going flush = cc
  flush-going _ (IsMade.makes _ e (IsOutcomeOf.lacked is) m) going flush = cc

-- the core of a turn stays, unless the sink fails
module _ {C V M : Type 0} (meaning : Meaning C V M) (seat : ℕ) (hand : Option MachineView) (old new : ShellView C V M) (o : Outcome)
    (t : HasTurned meaning seat hand old new o) (going : old.core.stop ≡ None) (fine : is_fault new.core.stop ≡ false) where
  abbrev mid : ShellView C V M
  mid = record { core = t.core; sent = old.sent; ends = record old.ends { told = new.ends.told } }

  flushed : t.core.stop ≡ None → HasFlushed mid new → new.core ≡ t.core
  flushed calm (HasFlushed.sends appended faults core sent) = core
  flushed calm (HasFlushed.fails gone first short risen core sent) =
      let stop : new.core.stop ≡ Some Stop.WriteFault = ap (λ (x : Core C V M). x.stop) core ∙ ap (λ (x : Option Stop). Some (unwrap_or x Stop.WriteFault)) calm in
      absurd (let clash : true ≡ false = sym (ap is_fault stop) ∙ fine in cc)

  pub core-kept : new.core ≡ t.core
  core-kept = by (is_to_flush o) refl
    where
      by : (b : Bool) → is_to_flush o ≡ b → new.core ≡ t.core
      by true e = flushed (flush-going meaning seat hand old.core t.core old.ends.told new.ends.told o t.done.event going e) (t.flushes e)
      by false e = ap (λ (x : ShellView C V M). x.core) (t.stays e)

  pub kept-fine : is_fault t.core.stop ≡ false
  kept-fine = ap (λ (x : Core C V M). is_fault x.stop) (sym core-kept) ∙ fine

  pub kept-outcome : is_lost o ≡ false
  kept-outcome = not-lost meaning seat hand old.core t.core old.ends.told new.ends.told o t.done.event going kept-fine

-- Two turns from one state, with one machine

abbrev pub answer_made : {C V M : Type 0} (meaning : Meaning C V M) (seat : ℕ) (hand : Option MachineView) (old new : Core C V M) (before told : List Told) (o : Outcome)
    → IsMade meaning seat hand old new before told o → Option ℤ
answer_made meaning seat hand old new before told _ (IsMade.makes o e is m) = answer_of e
answer_made meaning seat hand old new before told _ (IsMade.waits met is) = None
answer_made meaning seat hand old new before told _ (IsMade.rests met is) = None

module _ {C V M : Type 0} (meaning : Meaning C V M) (seat : ℕ) (hand : Option MachineView) (old new other next : Core C V M) (b1 a1 b2 a2 : List Told)
    (same : state_of meaning old ≡ state_of meaning other) (on : (s : MachineView) → hand ≡ Some s → IsOnSeat (parts_of meaning old) seat s)
    (going : old.stop ≡ None) where
  pub record IsOneTurn (o p : Outcome) : Type 0 where
    pub outcome : o ≡ p
    pub leads : state_of meaning new ≡ state_of meaning next

  on-there : (s : MachineView) → hand ≡ Some s → IsOnSeat (parts_of meaning other) seat s
  on-there s e = subst (λ (x : EngineState). IsOnSeat x.parts seat s) same (on s e)

  going-there : other.stop ≡ None
  going-there = ap (λ (x : EngineState). x.stop) (sym same) ∙ going

  classes : class-here meaning seat hand old new b1 a1 ≡ class-here meaning seat hand other next b2 a2
  classes = class-one meaning old other same seat hand new next b1 a1 b2 a2

  both-make : (o p : Outcome) (e f : Event) (x : IsOutcomeOf meaning seat hand old new b1 a1 o e) (y : IsOutcomeOf meaning seat hand other next b2 a2 p f)
      → Makes meaning e old new → Makes meaning f other next → is_lost o ≡ false → is_lost p ≡ false
      → ((n k : ℤ) → answer_of e ≡ Some n → answer_of f ≡ Some k → n ≡ k) → IsOneTurn o p
  both-make o p e f x y m n fine well agree =
      let here = is-class meaning seat hand old new b1 a1 on o e x m.may going fine in
      let there = is-class meaning seat hand other next b2 a2 on-there p f y n.may going-there well in
      let level = eq-eqb (its-class meaning seat hand old new b1 a1 o e x) (its-class meaning seat hand other next b2 a2 p f y) (sym here ∙ classes ∙ there) in
      let one = pair meaning seat hand old new other next b1 a1 b2 a2 same o p e f x y m.may (subst (May f) (sym same) n.may) going fine
      (pick-one meaning old other same) agree level in
      record { outcome = one.outcome; leads = m.state ∙ one.leads ∙ ap (after f) same ∙ sym n.state }

  pub turn-one : (o p : Outcome) (x : IsMade meaning seat hand old new b1 a1 o) (y : IsMade meaning seat hand other next b2 a2 p) → is_lost o ≡ false → is_lost p ≡ false
      → ((n k : ℤ) → answer_made meaning seat hand old new b1 a1 o x ≡ Some n → answer_made meaning seat hand other next b2 a2 p y ≡ Some k → n ≡ k) → IsOneTurn o p
  turn-one _ _ (IsMade.makes o e x m) (IsMade.makes p f y n) fine well agree = both-make o p e f x y m n fine well agree
  turn-one _ _ (IsMade.waits met is) (IsMade.waits met' is') fine well agree =
      record { outcome = refl; leads = ap (state_of meaning) is ∙ same ∙ sym (ap (state_of meaning) is') }
  turn-one _ _ (IsMade.waits met is) (IsMade.makes p f y n) fine well agree =
      let there = is-class meaning seat hand other next b2 a2 on-there p f y n.may going-there well in
      let here = meets meaning seat hand old new b1 a1 on Pick.Idle met.idle met.meets in
      absurd (not-waiting meaning seat hand other next b2 a2 p f y (eq-eqb 16 (its-class meaning seat hand other next b2 a2 p f y) (sym here ∙ classes ∙ there)))
  turn-one _ _ (IsMade.makes o e x m) (IsMade.waits met is) fine well agree =
      let here = is-class meaning seat hand old new b1 a1 on o e x m.may going fine in
      let there = meets meaning seat hand other next b2 a2 on-there Pick.Idle met.idle met.meets in
      absurd (not-waiting meaning seat hand old new b1 a1 o e x (eq-eqb 16 (its-class meaning seat hand old new b1 a1 o e x) (sym there ∙ sym classes ∙ here)))
  turn-one _ _ (IsMade.rests met is) y fine well agree = absurd (not-stopped meaning seat hand old new b1 a1 going met)
  turn-one _ _ x (IsMade.rests met is) fine well agree = absurd (not-stopped meaning seat hand other next b2 a2 going-there met)
