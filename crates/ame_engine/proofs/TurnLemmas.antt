-- A seat turns back.
use Rattle.std.proofs.Common.{◌≡◌, ℕ, ◌+◌, ◌<◌, None, refl, sym, ap, ◌∙◌, subst}
use Rattle.std.specs.Prelude.{slice_set, unwrap_or}
use Rattle.ame_rows.specs.Valid.{IsValid}
use Rattle.ame_term.specs.Tree.{Val}
use Rattle.ame_rows.specs.MemoryView.{Log, row_at}
use Rattle.ame_protocol.specs.Row.SeatRun.{AreValid}
use Rattle.ame_protocol.specs.declared.types.Attempt.{Attempt}
use Rattle.ame_protocol.specs.declared.types.UndoReason.{UndoReason}
use Rattle.ame_protocol.specs.declared.types.Task.{Task}
use Rattle.ame_protocol.specs.declared.counters.Counters.{Counters}
use Rattle.ame_protocol.specs.Engine.Parts.{Parts, heap_in, task_at, working}
use Rattle.ame_protocol.specs.Engine.Events.{has_turned_back}
use Rattle.ame_protocol.proofs.Engine.ShownMemoryLemmas.{row-shown}
use Rattle.ame_protocol.proofs.Engine.MemoryEvents.{valid-memory}
use Rattle.ame_protocol.specs.Event.After.{counted_by}
use Rattle.ame_protocol.specs.Event.Event.{Event}
use Rattle.ame_protocol.specs.Event.May.{May, IsReversed}
use Rattle.ame_machine.specs.Meaning.{Meaning}
use Rattle.ame_engine.specs.declared.engine.turn.Setback.{Setback}
use Rattle.ame_engine.specs.declared.engine.turn.Setback.TheVariants as setback
use Rattle.ame_engine.specs.Core.{Core}
use Rattle.ame_engine.specs.Seen.{parts_of}
use Rattle.ame_engine.specs.Makes.{state_of, Makes}
use Rattle.ame_engine.specs.Turning.{reverse_of, counted_at, HasMet}
use Rattle.ame_engine.specs.Whole.{IsSound}
use Rattle.ame_engine.proofs.CheckLemmas.{shown-valid}
use Rattle.ame_engine.proofs.SoundLemmas.{sound-next}

module _ {C V M : Type 0} (meaning : Meaning C V M) where
  -- a read that isn't valid isn't so at the shown cells
  valid-by_parts : (core : Core C V M) (seat : ℕ) → AreValid (heap_in (parts_of meaning core)) seat (row_at (parts_of meaning core).memory.rows seat).reads
      → IsValid core.memory.cells seat (row_at core.memory.rows seat).reads
  valid-by_parts core seat valid =
      let parts : Parts = parts_of meaning core in
      shown-valid (meaning.value_of core.code) core.memory.cells seat (row_at core.memory.rows seat).reads
      (subst (IsValid parts.memory.cells seat) (ap (λ (n : Log Val). n.reads) (row-shown (meaning.value_of core.code) core.memory.rows seat))
      (valid-memory parts.memory seat (row_at parts.memory.rows seat).reads valid))

  reversed : (core : Core C V M) (seat : ℕ) (why : Setback) → HasMet meaning core seat why → IsReversed (state_of meaning core) seat (reverse_of why)
  reversed core seat (setback.Conflict l owner) met = met
  reversed core seat setback.Check met = λ valid. met (valid-by_parts core seat valid)
  reversed core seat setback.Commit met = λ valid. met (valid-by_parts core seat valid)
  reversed core seat setback.Block met = λ valid. met (valid-by_parts core seat valid)
  reversed core seat setback.Tall met = λ valid. met (valid-by_parts core seat valid)

  counted-so : (core : Core C V M) (seat : ℕ) (attempt : Attempt) (why : Setback)
      → counted_at why core.counters ≡ counted_by (Event.TurnBack seat attempt (reverse_of why)) (state_of meaning core)
  counted-so core seat attempt (setback.Conflict l owner) = refl
  counted-so core seat attempt setback.Check = refl
  counted-so core seat attempt setback.Commit = refl
  counted-so core seat attempt setback.Block = refl
  counted-so core seat attempt setback.Tall = refl

  module _ (core now : Core C V M) (view : core ≡ now) (whole : IsSound meaning core) (seat : ℕ) (attempt : Attempt) (why : Setback)
      (is : task_at now.tasks seat ≡ Task.Running attempt) (left : now.turns < now.limits.turns) (going : now.stop ≡ None)
      (met : HasMet meaning now seat why) (counters : Counters) (counts : counters ≡ counted_at why core.counters) where
    abbrev after : Core C V M
    after = record core { tasks = slice_set core.tasks seat (Task.Undoing attempt UndoReason.RolledBack); turns = core.turns + 1; counters = counters }

    makes-it : Makes meaning (Event.TurnBack seat attempt (reverse_of why)) now after
    makes-it =
        subst (λ (x : Core C V M). Makes meaning (Event.TurnBack seat attempt (reverse_of why)) x after) view
        (record {
          code = refl;
          may = subst (λ (x : Core C V M). May (Event.TurnBack seat attempt (reverse_of why)) (state_of meaning x)) (sym view)
              (record { going = going; left = left }, is, reversed now seat why met);
          state = λ i. record {
            parts = has_turned_back seat attempt (parts_of meaning core);
            counters = (counts ∙ counted-so core seat attempt why) i;
            stop = core.stop;
            certificates = core.certificates;
          };
        })

    pub makes-turned : (held : Attempt) → task_at now.tasks seat ≡ Task.Running held → Makes meaning (Event.TurnBack seat held (reverse_of why)) now after
    makes-turned held e =
        let one : attempt ≡ held = ap (λ (t : Task). unwrap_or (working t) attempt) (sym is ∙ e) in
        subst (λ (x : Attempt). Makes meaning (Event.TurnBack seat x (reverse_of why)) now after) one makes-it

    pub whole-turned : IsSound meaning after
    whole-turned = sound-next meaning core now after view whole (Event.TurnBack seat attempt (reverse_of why)) makes-it whole.memory whole.members whole.text
