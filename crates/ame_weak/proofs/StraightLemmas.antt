-- Each weak run of an accepted program is a strong one: its journal leads to the same end.
use Rattle.std.proofs.Common.{◌≡◌, ℕ, ◌++◌, ◌⊎◌, inl, inr, List, [], ◌∷◌, Option, Some, None, option_and_then, refl, sym, ap, ◌∙◌, subst}
use Rattle.std.proofs.lemmas.Option.{option_and_then_some}
use Rattle.ame_term.specs.Tree.{Typ, Tree}
use Rattle.ame_term.specs.Signature.{Signature, listed}
use Rattle.ame_term.specs.SourceTerm.{IsSourceTerm}
use Rattle.ame_term.specs.Numbered.{IsNumbered}
use Rattle.ame_term.specs.Typing.{Accepts}
use Rattle.ame_term.specs.declared.semantics.Label.{Label}
use Rattle.ame_journal.specs.Replayed.{Replayed, begun_at}
use Rattle.ame_journal.specs.Replay.{replay_from, replay}
use Rattle.ame_journal.specs.Calls.{label_call, of_next, device_calls_from, device_calls}
use Rattle.ame_journal.proofs.ReplayLemmas.{replay_from-append}
use Rattle.ame_journal.proofs.ReachedLemmas.{calm-replayed}
use Rattle.ame_journal.proofs.TypedLemmas.{typed-replayed}
use Rattle.ame_journal.proofs.CallLemmas.{calls-appended}
use Rattle.ame_weak.specs.Weak.{Weak, holding_none, weak_start, weak_run, weak_calls}
use Rattle.ame_weak.specs.Straight.{Place, outset, entries_of_label, past, straight_from, straight}
use Rattle.ame_weak.proofs.WayLemmas.{IsUnderWay}
use Rattle.ame_weak.proofs.Follow.{IsFollowed, follow-label}

-- the point after all labels
abbrev pub past_all : Place → List Label → Place
past_all p [] = p
past_all p (label ∷ labels) = past_all (past p label) labels

-- The entries of labels lead to the same state as the labels, and make the same calls.
pub record IsFollowedAlong (signature : Signature) (r : Replayed) (p : Place) (w : Weak) (labels : List Label) (v : Weak) : Type 0 where
  pub behind : Replayed
  pub replays : replay_from r (straight_from p labels) ≡ Some behind
  pub called : (k : ℕ) → device_calls_from k r (straight_from p labels) ≡ weak_calls k w labels
  pub follows : IsFollowed signature behind (past_all p labels) v

pub follow-labels : (signature : Signature) (r : Replayed) (p : Place) (w v : Weak) (labels : List Label) → IsFollowed signature r p w → weak_run w labels ≡ Some v
    → IsFollowedAlong signature r p w labels v
follow-labels signature r p w v [] f e =
    let same : w ≡ v = cc in
    record { behind = r; replays = refl; called = λ k. refl; follows = subst (IsFollowed signature r p) same f }
follow-labels signature r p w v (label ∷ labels) f e =
    option_and_then_some _ _ _ e (λ x first rest.
    let a = follow-label signature r p w x label f first in
    let b = follow-labels signature a.behind (past p label) x v labels a.follows rest in
    record {
      behind = b.behind;
      replays =
          replay_from-append r (entries_of_label p label) (straight_from (past p label) labels)
          ∙ ap (λ (o : Option Replayed). option_and_then (λ t. replay_from t (straight_from (past p label) labels)) o) a.replays ∙ b.replays;
      called = λ k.
          calls-appended k r a.behind (entries_of_label p label) (straight_from (past p label) labels) a.replays
          ∙ ap (λ xs. xs ++ device_calls_from k a.behind (straight_from (past p label) labels)) (a.called k)
          ∙ ap (λ xs. label_call k w.state label ++ xs) (b.called k)
          ∙ ap (λ (o : Option Weak). label_call k w.state label ++ of_next (λ z. weak_calls k z labels) o) (sym first);
      follows = b.follows;
    })

-- with nothing active, the weak state is the strong one
pub ends-strong : (signature : Signature) (r : Replayed) (p : Place) (w : Weak) → IsFollowed signature r p w → w.state.active ≡ None → w ≡ holding_none r.state
ends-strong signature r p w f idle = by f.stands
  where
    by : (w ≡ holding_none r.state) ⊎ IsUnderWay signature r.state p.number p.steps p.fresh w → w ≡ holding_none r.state
    by (inl is) = is
    by (inr u) = let clash : ◌≡◌ {A = Option ℕ} (Some p.number) None = sym u.laid.active ∙ idle in absurd (cc)

module _ (devices : ℕ) (places : List ℕ) (program : Tree) (refs : List Typ) (accepts : Accepts devices places program refs) (source : IsSourceTerm program) (numbered : IsNumbered 0 program) where
  pub begun-followed : IsFollowed (listed devices refs) (begun_at program) outset (weak_start program)
  begun-followed =
      let typed = typed-replayed devices places program refs [] (begun_at program) accepts source numbered refl in
      record { calm = calm-replayed program [] (begun_at program) refl; cells = typed.0; typed = typed.1; inside = refl; stands = inl refl }

  pub weak_runs_straighten : (labels : List Label) (w : Weak) → weak_run (weak_start program) labels ≡ Some w → w.state.active ≡ None
      → (r : Replayed) × (replay program (straight labels) ≡ Some r) × (w ≡ holding_none r.state)
  weak_runs_straighten labels w e idle =
      let a = follow-labels (listed devices refs) (begun_at program) outset (weak_start program) w labels begun-followed e in
      (a.behind, a.replays, ends-strong (listed devices refs) a.behind (past_all outset labels) w a.follows idle)

  pub weak_calls_are_told : (k : ℕ) (labels : List Label) (w : Weak) → weak_run (weak_start program) labels ≡ Some w
      → device_calls k program (straight labels) ≡ weak_calls k (weak_start program) labels
  weak_calls_are_told k labels w e = (follow-labels (listed devices refs) (begun_at program) outset (weak_start program) w labels begun-followed e).called k
