-- The progress of a replay: more entries, and one more step.
use Rattle.std.proofs.Common.{◌≡◌, ℕ, zero, suc, ◌==◌, false, List, [], ◌∷◌, ◌++◌, Option, Some, None, option_and_then, if◌then◌else◌, refl, ap, ◌∙◌}
use Rattle.ame_term.specs.Act.{Act}
use Rattle.ame_term.specs.State.{State, after}
use Rattle.ame_term.specs.declared.semantics.StepKind.{StepKind}
use Rattle.ame_term.specs.declared.semantics.Label.{Label}
use Rattle.ame_journal.specs.declared.entry.Entry.{Entry}
use Rattle.ame_journal.specs.Replayed.{Replayed, entering, is_at_unprotected}
use Rattle.ame_journal.specs.Replay.{Supply, member_act, next_kind, steps, fragment, left_or_ended, replay_ran, replay_from, replay_entry}

-- entries are replayed in the state that those before them give
pub replay_from-append : (r : Replayed) (front rest : List Entry) →
    replay_from r (front ++ rest) ≡ option_and_then (λ t. replay_from t rest) (replay_from r front)
replay_from-append r [] rest = refl
replay_from-append r (e ∷ front) rest = behind (replay_entry r e) (λ t. replay_from-append t front rest)
  where
    behind : (o : Option Replayed) →
        ((t : Replayed) → replay_from t (front ++ rest) ≡ option_and_then (λ u. replay_from u rest) (replay_from t front)) →
        option_and_then (λ t. replay_from t (front ++ rest)) o ≡ option_and_then (λ u. replay_from u rest) (option_and_then (λ t. replay_from t front) o)
    behind None go = refl
    behind (Some t) go = go t

-- the last entry is replayed in the state that those before it give
pub replay_from-one : (r : Replayed) (entries : List Entry) (entry : Entry) →
    replay_from r (entries ++ entry ∷ []) ≡ option_and_then (λ t. replay_entry t entry) (replay_from r entries)
replay_from-one r entries entry = replay_from-append r entries (entry ∷ []) ∙ ends (replay_from r entries)
  where
    whole : (o : Option Replayed) → option_and_then (λ t. replay_from t []) o ≡ o
    whole None = refl
    whole (Some t) = refl

    ends : (o : Option Replayed) → option_and_then (λ t. replay_from t (entry ∷ [])) o ≡ option_and_then (λ t. replay_entry t entry) o
    ends None = refl
    ends (Some t) = whole (replay_entry t entry)

-- the first of n + 1 steps, and the others
pub steps-behind : (label : StepKind → Label) (i n : ℕ) (supply : Supply) (s w : State) (act : Act) (next : StepKind × Supply) →
    member_act i s ≡ Some act → next_kind (n == 0) act supply.fresh supply.answer ≡ Some next → after s (label next.0) ≡ Some w →
    steps label i (suc n) supply s ≡ steps label i n next.1 w
steps-behind label i n supply s w act next at_act at_kind at_state =
    ap (λ o. option_and_then (λ a. option_and_then (λ k. option_and_then (λ t. steps label i n k.1 t) (after s (label k.0))) (next_kind (n == 0) a supply.fresh supply.answer)) o) at_act
    ∙ ap (λ o. option_and_then (λ k. option_and_then (λ t. steps label i n k.1 t) (after s (label k.0))) o) at_kind
    ∙ ap (λ o. option_and_then (λ t. steps label i n next.1 t) o) at_state

-- a fragment of a member that doesn't stand at `unprotected`
pub ran-left_or_ended : (r : Replayed) (i n : ℕ) (fresh : List ℕ) → is_at_unprotected i r.state ≡ false →
    replay_ran r i n fresh ≡ option_and_then (left_or_ended r i) (fragment i n fresh r.state)
ran-left_or_ended r i zero [] rests = ap (λ b. if b then Some (entering r i r.state) else option_and_then (left_or_ended r i) (fragment i 0 [] r.state)) rests
ran-left_or_ended r i zero (x ∷ fresh) rests = refl
ran-left_or_ended r i (suc n) fresh rests = refl
