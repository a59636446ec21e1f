-- A `Free` entry, by the state to which its steps lead.
use Rattle.std.proofs.Common.{◌≡◌, ℕ, suc, ◌+◌, ℤ, Bool, true, false, Option, Some, None, refl, ap, ◌∙◌, arith, if◌then◌else◌}
use Rattle.std.specs.Option.{option_and_then, option_map}
use Rattle.ame_term.specs.State.{State, after}
use Rattle.ame_term.specs.declared.semantics.Label.{Label}
use Rattle.ame_journal.specs.Replayed.{Replayed, is_inside, staying, leaving}
use Rattle.ame_journal.specs.Replay.{replay_kind, replay_entry, replay_free, replay_closing, steps, locations, or_else}
use Rattle.ame_journal.specs.declared.entry.Entry.{Entry}
use Rattle.ame_journal.specs.declared.entry.EntryKind.{EntryKind}
use Rattle.ame_check.specs.Visit.{visiting, closing}

free-kind : (r : Replayed) (entry : Entry) → entry.kind ≡ EntryKind.Free → replay_entry r entry ≡ (if is_inside r entry.number then replay_free r entry.number entry.steps entry.fresh entry.answer else None)
unfolding replay_entry
free-kind r entry kind = ap (λ (k : EntryKind). replay_kind k r entry.number entry.steps entry.fresh entry.answer) kind

pub free-outside : (r : Replayed) (entry : Entry) → entry.kind ≡ EntryKind.Free → is_inside r entry.number ≡ false → replay_entry r entry ≡ None
free-outside r entry kind outside =
    free-kind r entry kind ∙ ap (λ (b : Bool). if b then replay_free r entry.number entry.steps entry.fresh entry.answer else None) outside

pub free-empty : (r : Replayed) (entry : Entry) → entry.kind ≡ EntryKind.Free → entry.steps ≡ 0 → replay_entry r entry ≡ None
free-empty r entry kind none =
    free-kind r entry kind ∙ ap (λ (k : ℕ). if is_inside r entry.number then replay_free r entry.number k entry.fresh entry.answer else None) none ∙ by (is_inside r entry.number)
  where
    by : (b : Bool) → ◌≡◌ {A = Option Replayed} (if b then None else None) None
    by true = refl
    by false = refl

module _ (r : Replayed) (entry : Entry) (idle : r.state.active ≡ None) (kind : entry.kind ≡ EntryKind.Free) (inside : is_inside r entry.number ≡ true)
    (n : ℕ) (count : n + 1 ≡ entry.steps) where
  -- steps under `unprotected`: the last may be the one that closes
  free-entry : replay_entry r entry
      ≡ or_else (option_map (staying r) (visiting entry.number (suc n) entry.fresh entry.answer r.state)) (replay_closing r entry.number n entry.fresh entry.answer)
  free-entry =
      let one : entry.steps ≡ suc n = omega arith in
      free-kind r entry kind
      ∙ ap (λ (b : Bool). if b then replay_free r entry.number entry.steps entry.fresh entry.answer else None) inside
      ∙ ap (λ (k : ℕ). replay_free r entry.number k entry.fresh entry.answer) one
      ∙ ap (λ (o : Option ℕ). or_else (option_map (staying r) (steps (Label.Free entry.number) entry.number (suc n) (record { fresh = entry.fresh; answer = entry.answer }) (record r.state { active = o })))
      (replay_closing r entry.number n entry.fresh entry.answer)) idle

  closes-as : (answer : Option ℤ) → replay_closing r entry.number n entry.fresh answer ≡ option_map (leaving r entry.number) (closing entry.number n entry.fresh answer r.state)
  closes-as None =
      ap (λ (o : Option ℕ). option_map (leaving r entry.number) (option_and_then (λ t. after t (Label.Close entry.number))
      (steps (Label.Free entry.number) entry.number n (locations entry.fresh) (record r.state { active = o })))) idle
  closes-as (Some a) = refl

  -- it stays, or else it closes
  pub free-is : replay_entry r entry
      ≡ or_else (option_map (staying r) (visiting entry.number (n + 1) entry.fresh entry.answer r.state)) (option_map (leaving r entry.number) (closing entry.number n entry.fresh entry.answer r.state))
  free-is =
      let one : suc n ≡ n + 1 = omega arith in
      free-entry
      ∙ ap (λ (k : ℕ). or_else (option_map (staying r) (visiting entry.number k entry.fresh entry.answer r.state)) (replay_closing r entry.number n entry.fresh entry.answer)) one
      ∙ ap (or_else (option_map (staying r) (visiting entry.number (n + 1) entry.fresh entry.answer r.state))) (closes-as entry.answer)

  module _ (t : State) where
    pub free-stays : visiting entry.number (n + 1) entry.fresh entry.answer r.state ≡ Some t → replay_entry r entry ≡ Some (staying r t)
    free-stays e =
        free-is ∙ ap (λ (o : Option State). or_else (option_map (staying r) o) (option_map (leaving r entry.number) (closing entry.number n entry.fresh entry.answer r.state))) e

    pub free-closes : visiting entry.number (n + 1) entry.fresh entry.answer r.state ≡ None → closing entry.number n entry.fresh entry.answer r.state ≡ Some t
        → replay_entry r entry ≡ Some (leaving r entry.number t)
    free-closes none e =
        free-is ∙ ap (λ (o : Option State). or_else (option_map (staying r) o) (option_map (leaving r entry.number) (closing entry.number n entry.fresh entry.answer r.state))) none
        ∙ ap (option_map (leaving r entry.number)) e

  pub free-neither : visiting entry.number (n + 1) entry.fresh entry.answer r.state ≡ None → closing entry.number n entry.fresh entry.answer r.state ≡ None → replay_entry r entry ≡ None
  free-neither none no_close =
      free-is ∙ ap (λ (o : Option State). or_else (option_map (staying r) o) (option_map (leaving r entry.number) (closing entry.number n entry.fresh entry.answer r.state))) none
      ∙ ap (option_map (leaving r entry.number)) no_close
