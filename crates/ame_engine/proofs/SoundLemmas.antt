-- An engine is still sound after each event that it makes.
use Rattle.std.proofs.Common.{◌≡◌, ◌∙◌, All, ap, sym, subst}
use Rattle.ame_io.specs.Lines.{lines}
use Rattle.ame_machine.specs.Meaning.{Meaning}
use Rattle.ame_machine.specs.RefSorts.{IsRefForm}
use Rattle.ame_protocol.specs.Event.Event.{Event}
use Rattle.ame_protocol.specs.Event.Rollbacks.{IsGoodPool}
use Rattle.ame_protocol.specs.Event.Sound.{Sound}
use Rattle.ame_protocol.specs.Event.EngineState.{EngineState}
use Rattle.ame_protocol.proofs.Event.RollbackLemmas.{good-told}
use Rattle.ame_protocol.proofs.Event.RunLemmas.{limits-stay}
use Rattle.ame_protocol.proofs.Event.SoundLemmas.{sound-after}
use Rattle.ame_engine.specs.Core.{Core}
use Rattle.ame_engine.specs.Makes.{state_of, Makes}
use Rattle.ame_engine.specs.Seen.{term_shown}
use Rattle.ame_engine.specs.Whole.{AreLimits, IsGoodMemory, IsAtRest, IsSound}

module _ {C V M : Type 0} (meaning : Meaning C V M) where
  -- no member was rolled back more often than it may be
  pub good-pool : (core : Core C V M) → IsSound meaning core → IsGoodPool core.pool
  good-pool core whole = good-told (term_shown meaning.stage core.code) core.pool whole.state.pool

  -- Its values and machines are those of the code still, and its text is that of the output. The rest is the theorem on events.
  module _ (core now new : Core C V M) (view : core ≡ now) (whole : IsSound meaning core) where
    pub sound-next : (e : Event) → Makes meaning e now new → IsGoodMemory (meaning.is_value core.code) (IsRefForm (meaning.program core.code)) new.memory
        → All (IsAtRest meaning.is_machine meaning.stage core.code) new.pool.members → new.text ≡ lines new.output → IsSound meaning new
    sound-next e makes memory members text = record {
      state = subst Sound (sym makes.state) (sound-after e (state_of meaning now) makes.may (subst (λ (x : Core C V M). Sound (state_of meaning x)) view whole.state));
      limits = subst AreLimits limits whole.limits;
      memory = subst (λ (c : C). IsGoodMemory (meaning.is_value c) (IsRefForm (meaning.program c)) new.memory) code memory;
      members = subst (λ (c : C). All (IsAtRest meaning.is_machine meaning.stage c) new.pool.members) code members;
      text = text;
    }
      where
        code : core.code ≡ new.code
        code = ap (λ (x : Core C V M). x.code) view ∙ sym makes.code

        limits : core.limits ≡ new.limits
        limits = ap (λ (x : Core C V M). x.limits) view ∙ sym (ap (λ (s : EngineState). s.parts.limits) makes.state ∙ limits-stay e (state_of meaning now))
