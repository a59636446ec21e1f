-- Labels of one member leave the others as they were.
use Rattle.std.proofs.Common.{◌≡◌, ℕ, ◌<◌, true, List, [], ◌∷◌, map, Some, is_some, refl, sym, ap, ◌∙◌, subst, arith}
use Rattle.std.proofs.lemmas.Option.{option_and_then_some}
use Rattle.ame_term.specs.Tree.{Tree}
use Rattle.ame_term.specs.Frame.{Frame, Side, plug, plug_all, side_of}
use Rattle.ame_term.specs.Context.{focus, fill}
use Rattle.ame_term.specs.Maps.{at}
use Rattle.ame_term.specs.State.{State, after, run, at_unprotected}
use Rattle.ame_term.specs.declared.semantics.StepKind.{StepKind}
use Rattle.ame_term.specs.declared.semantics.Label.{Label}
use Rattle.ame_laws.specs.Orderly.{IsOrderly}
use Rattle.ame_laws.specs.Standing.{IsUnprotected}
use Rattle.ame_laws.proofs.FrameLemmas.{found}
use Rattle.ame_laws.proofs.MapLemmas.{at-change_same, at-change_other, at-without_other, numbers-at}
use Rattle.ame_laws.proofs.OrderlyLemmas.{after-goes}
use Rattle.ame_laws.proofs.StandingLemmas.{unprotected_standing}
use Rattle.ame_journal.specs.Replayed.{has_such, is_at_unprotected}
use Rattle.ame_journal.specs.Labels.{fragment_labels, free_labels}
use Rattle.ame_journal.proofs.StepLemmas.{IsReduced, step-reduced, free-reduced, performed-keeps, step-keeps, activate-is, leave-is, end-is, close-is}

-- from one state to another by labels of member j
pub record Moves (j : ℕ) (s t : State) : Type 0 where
  pub orderly : IsOrderly s → IsOrderly t
  pub others : IsOrderly s → (k : ℕ) → (j ≡ k → ⊥) → is_some (at s.members k) ≡ true → at t.members k ≡ at s.members k

moves-none : (j : ℕ) (s : State) → Moves j s s
moves-none j s = record { orderly = λ o. o; others = λ o k other there. refl }

pub moves-through : (j : ℕ) (s t u : State) → Moves j s t → Moves j t u → Moves j s u
moves-through j s t u a b = record {
  orderly = λ o. b.orderly (a.orderly o);
  others = λ o k other there.
      let first = a.others o k other there in
      b.others (a.orderly o) k other (ap is_some first ∙ there) ∙ first;
}

-- a member is below the number of the next new one
not_next : (s : State) (k : ℕ) → IsOrderly s → is_some (at s.members k) ≡ true → s.next ≡ k → ⊥
not_next s k o there same = let below : k < s.next = numbers-at (λ n. n < s.next) s.members k there o.members_below in omega arith

reduced-moves : (side : Side) (kind : StepKind) (j : ℕ) (s u : State) (label : Label) → after s label ≡ Some u → IsReduced side kind j s u → Moves j s u
reduced-moves side kind j s u label legal r = record {
  orderly = (after-goes s label u legal).orderly;
  others = λ o k other there.
      ap (λ (t : State). at t.members k) (sym r.is)
      ∙ at-change_other r.result.1.members j k (fill r.term r.result.0) other
      ∙ (performed-keeps kind r.act s r.result r.made).others k (not_next s k o there);
}

same-moves : (j : ℕ) (s u : State) (label : Label) → after s label ≡ Some u → u.members ≡ s.members → Moves j s u
same-moves j s u label legal same =
    record { orderly = (after-goes s label u legal).orderly; others = λ o k other there. ap (λ (ms : List (ℕ × Tree)). at ms k) same }

pub leave-moves : (j : ℕ) (s u : State) → s.active ≡ Some j → after s Label.Leave ≡ Some u → Moves j s u
leave-moves j s u is_active e = same-moves j s u Label.Leave e (ap (λ (t : State). t.members) (leave-is j s u is_active e).1)

pub end-moves : (j : ℕ) (s u : State) → s.active ≡ Some j → after s Label.End ≡ Some u → Moves j s u
end-moves j s u is_active e = record {
  orderly = (after-goes s Label.End u e).orderly;
  others = λ o k other there. ap (λ (t : State). at t.members k) (end-is j s u is_active e) ∙ at-without_other s.members j k other;
}

pub close-moves : (j : ℕ) (s u : State) → after s (Label.Close j) ≡ Some u → Moves j s u
close-moves j s u e =
    let is = close-is j s u e in
    record {
      orderly = (after-goes s (Label.Close j) u e).orderly;
      others = λ o k other there. ap (λ (t : State). at t.members k) is.1 ∙ at-change_other s.members j k is.0 other;
    }

steps-move : (j : ℕ) (kinds : List StepKind) (s t : State) → s.active ≡ Some j → run s (map Label.Step kinds) ≡ Some t → Moves j s t × (t.active ≡ Some j)
steps-move j [] s t is_active e = let same : s ≡ t = cc in subst (λ (u : State). Moves j s u × (u.active ≡ Some j)) same (moves-none j s, is_active)
steps-move j (kind ∷ kinds) s t is_active e =
    option_and_then_some _ _ _ e (λ w legal rest.
    let go = steps-move j kinds w t ((step-keeps kind j s w is_active legal).active ∙ is_active) rest in
    (moves-through j s w t (reduced-moves Side.Protected kind j s w (Label.Step kind) legal (step-reduced kind j s w is_active legal)) go.0, go.1))

-- a fragment
pub fragment-moves : (j : ℕ) (kinds : List StepKind) (s t : State) → run s (fragment_labels j kinds) ≡ Some t → Moves j s t × (t.active ≡ Some j)
fragment-moves j kinds s t e =
    option_and_then_some _ _ _ e (λ a begins rest.
    let is = activate-is j s a begins in
    let go = steps-move j kinds a t (ap (λ (v : State). v.active) is) rest in
    (moves-through j s a t (same-moves j s a (Label.Activate j) begins (ap (λ (v : State). v.members) is)) go.0, go.1))

-- the outermost `unprotected` form round a hole that stands under one
outermost_form : (fs : List Frame) (t : Tree) → side_of fs ≡ Side.Unprotected → IsUnprotected (plug_all fs t)
outermost_form [] t e = cc
outermost_form (Frame.Under ∷ fs) t e = ([], plug_all fs t, refl, refl)
outermost_form (f ∷ fs) t e = let h = outermost_form fs t e in (f ∷ h.0, h.1, h.2, ap (plug f) h.3)

-- a member that makes a step under `unprotected` stands there after it
free-stands : (kind : StepKind) (j : ℕ) (s u : State) → IsOrderly s → IsReduced Side.Unprotected kind j s u → is_at_unprotected j u ≡ true
free-stands kind j s u o r =
    let at_redex = found r.term r.redex Side.Unprotected r.stands in
    let there : is_some (at s.members j) ≡ true = ap is_some r.is_member in
    let kept = (performed-keeps kind r.act s r.result r.made).others j (not_next s j o there) in
    let form : IsUnprotected (fill r.term r.result.0) =
    subst IsUnprotected (sym (at_redex.refilled r.result.0)) (outermost_form at_redex.frames r.result.0 at_redex.on) in
    ap (λ (t : State). is_at_unprotected j t) (sym r.is)
    ∙ ap (has_such (λ (term : Tree). at_unprotected (focus term))) (at-change_same r.result.1.members j (fill r.term r.result.0) (ap is_some kept ∙ there))
    ∙ (unprotected_standing (fill r.term r.result.0)).1 form

-- what steps under `unprotected` leave
pub record FreeMoves (j : ℕ) (s t : State) : Type 0 where
  pub moves : Moves j s t
  pub active : t.active ≡ s.active
  pub stands : is_at_unprotected j s ≡ true → is_at_unprotected j t ≡ true

pub free-moves : (j : ℕ) (kinds : List StepKind) (s t : State) → IsOrderly s → run s (free_labels j kinds) ≡ Some t → FreeMoves j s t
free-moves j [] s t o e = let same : s ≡ t = cc in subst (FreeMoves j s) same (record { moves = moves-none j s; active = refl; stands = λ h. h })
free-moves j (kind ∷ kinds) s t o e =
    option_and_then_some _ _ _ e (λ w legal rest.
    let r = free-reduced kind j s w legal in
    let first = reduced-moves Side.Unprotected kind j s w (Label.Free j kind) legal r in
    let go = free-moves j kinds w t (first.orderly o) rest in
    record {
      moves = moves-through j s w t first go.moves;
      active = go.active ∙ ap (λ (v : State). v.active) (sym r.is) ∙ (performed-keeps kind r.act s r.result r.made).keeps.active;
      stands = λ h. go.stands (free-stands kind j s w o r);
    })
