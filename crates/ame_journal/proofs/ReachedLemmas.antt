-- Facts about each replayed state.
use Rattle.std.proofs.Common.{◌≡◌, ℕ, ◌==◌, ℤ, Bool, true, false, ◌||◌, not, List, [], ◌∷◌, filter, cond, Option, Some, None, is_some, refl, sym, ap, ◌∙◌, subst, eqb-true}
use Rattle.std.specs.List.{list_any}
use Rattle.std.proofs.lemmas.Bool.{eqb-false}
use Rattle.ame_term.specs.Tree.{Tree}
use Rattle.ame_term.specs.Context.{focus}
use Rattle.ame_term.specs.Maps.{at}
use Rattle.ame_term.specs.State.{State, at_unprotected}
use Rattle.ame_term.specs.declared.semantics.Label.{Label}
use Rattle.ame_laws.specs.Orderly.{IsOrderly}
use Rattle.ame_laws.proofs.OrderlyLemmas.{start-orderly}
use Rattle.ame_journal.specs.declared.entry.Entry.{Entry}
use Rattle.ame_journal.specs.declared.entry.EntryKind.{EntryKind}
use Rattle.ame_journal.specs.Replayed.{Replayed, begun_at, is_inside, entering, has_such, is_at_unprotected}
use Rattle.ame_journal.specs.Labels.{fragment_labels, free_labels, Unfolds, UnfoldsAll}
use Rattle.ame_journal.specs.Replay.{replay}
use Rattle.ame_journal.proofs.StepLemmas.{leave-is, end-is, close-is}
use Rattle.ame_journal.proofs.LabelLemmas.{unfold-all}
use Rattle.ame_journal.proofs.UnfoldLemmas.{run-last}
use Rattle.ame_journal.proofs.MovedLemmas.{Moves, moves-through, leave-moves, end-moves, close-moves, fragment-moves, free-moves}

-- Nothing is active, the entries of the state stand in order, and who is inside stands at `unprotected`.
pub record IsCalm (r : Replayed) : Type 0 where
  pub idle : r.state.active ≡ None
  pub orderly : IsOrderly r.state
  pub standing : (k : ℕ) → is_inside r k ≡ true → is_at_unprotected k r.state ≡ true

some_there : {X : Type 0} (test : X → Bool) (o : Option X) → has_such test o ≡ true → is_some o ≡ true
some_there test None e = cc
some_there test (Some x) e = refl

or_right : (a b : Bool) → b ≡ true → (a || b) ≡ true
or_right true b e = refl
or_right false b e = e

-- who is inside still when one has left
left-inside : (i k : ℕ) (xs : List ℕ) → list_any (λ j. j == k) (filter (λ j. not (j == i)) xs) ≡ true → (list_any (λ j. j == k) xs ≡ true) × (i ≡ k → ⊥)
left-inside i k [] e = cc
left-inside i k (x ∷ xs) e = by (x == i) refl (left-inside i k xs) e
  where
    others : List ℕ
    others = filter (λ j. not (j == i)) xs

    Rest : Type 0
    Rest = list_any (λ j. j == k) others ≡ true → (list_any (λ j. j == k) xs ≡ true) × (i ≡ k → ⊥)

    here : (c : Bool) → (x == k) ≡ c → (x == i) ≡ false → Rest → (c || list_any (λ j. j == k) others) ≡ true → ((c || list_any (λ j. j == k) xs) ≡ true) × (i ≡ k → ⊥)
    here true is apart rest e' = (refl, λ same. eqb-false x i apart (eqb-true x k is ∙ sym same))
    here false is apart rest e' = rest e'

    by : (b : Bool) → (x == i) ≡ b → Rest → list_any (λ j. j == k) (cond (not b) (x ∷ others) others) ≡ true →
        (((x == k) || list_any (λ j. j == k) xs) ≡ true) × (i ≡ k → ⊥)
    by true is rest e' = let r = rest e' in (or_right (x == k) (list_any (λ j. j == k) xs) r.0, r.1)
    by false is rest e' = here (x == k) refl is rest e'

module _ (r : Replayed) (i : ℕ) (calm : IsCalm r) where
  -- the others that are inside keep their places
  others-stand : (s : State) → Moves i r.state s → (k : ℕ) → (i ≡ k → ⊥) → is_inside r k ≡ true → is_at_unprotected k s ≡ true
  others-stand s moves k other inside =
      let before = calm.standing k inside in
      let there = some_there (λ (term : Tree). at_unprotected (focus term)) (at r.state.members k) before in
      ap (has_such (λ (term : Tree). at_unprotected (focus term))) (moves.others calm.orderly k other there) ∙ before

  -- a member that isn't inside is no member that is
  outside-other : is_inside r i ≡ false → (k : ℕ) → is_inside r k ≡ true → i ≡ k → ⊥
  outside-other outside k inside same = let clash : is_inside r k ≡ false = subst (λ m. is_inside r m ≡ false) same outside in cc

  entering-stand : (s : State) → Moves i r.state s → is_at_unprotected i s ≡ true → (k : ℕ) → is_inside (entering r i s) k ≡ true → is_at_unprotected k s ≡ true
  entering-stand s moves stands k inside = by (i == k) refl inside
    where
      by : (b : Bool) → (i == k) ≡ b → (b || is_inside r k) ≡ true → is_at_unprotected k s ≡ true
      by true is e = subst (λ m. is_at_unprotected m s ≡ true) (eqb-true i k is) stands
      by false is e = others-stand s moves k (eqb-false i k is) e

  staying-stand : (s : State) → Moves i r.state s → is_at_unprotected i s ≡ true → (k : ℕ) → is_inside r k ≡ true → is_at_unprotected k s ≡ true
  staying-stand s moves stands k inside = entering-stand s moves stands k (or_right (i == k) (is_inside r k) inside)

pub calm-entry : (r : Replayed) (i : ℕ) (kind : EntryKind) (n : ℕ) (fresh : List ℕ) (answer : Option ℤ) (labels : List Label) (t : Replayed) →
    Unfolds r i kind n fresh answer labels t → IsCalm r → IsCalm t
calm-entry r i _ _ _ _ _ _ (Unfolds.leaves kinds n fresh s outside are runs) calm =
    let cut = run-last r.state s (fragment_labels i kinds) Label.Leave runs in
    let made = fragment-moves i kinds r.state cut.0 cut.1 in
    let left = leave-is i cut.0 s made.1 cut.2 in
    let moves = moves-through i r.state cut.0 s made.0 (leave-moves i cut.0 s made.1 cut.2) in
    record {
      idle = ap (λ (v : State). v.active) left.1;
      orderly = moves.orderly calm.orderly;
      standing = entering-stand r i calm s moves (ap (λ (v : State). is_at_unprotected i v) left.1 ∙ left.0);
    }
calm-entry r i _ _ _ _ _ _ (Unfolds.ends kinds n fresh s outside are runs) calm =
    let cut = run-last r.state s (fragment_labels i kinds) Label.End runs in
    let made = fragment-moves i kinds r.state cut.0 cut.1 in
    let moves = moves-through i r.state cut.0 s made.0 (end-moves i cut.0 s made.1 cut.2) in
    record {
      idle = ap (λ (v : State). v.active) (end-is i cut.0 s made.1 cut.2);
      orderly = moves.orderly calm.orderly;
      standing = λ k inside. others-stand r i calm s moves k (outside-other r i calm outside k inside) inside;
    }
calm-entry r i _ _ _ _ _ _ (Unfolds.arrives outside is) calm =
    record { idle = calm.idle; orderly = calm.orderly; standing = entering-stand r i calm r.state (record { orderly = λ o. o; others = λ o k other there. refl }) is }
calm-entry r i _ _ _ _ _ _ (Unfolds.goes_on kinds n fresh answer s inside are runs) calm =
    let go = free-moves i kinds r.state s calm.orderly runs in
    record {
      idle = go.active ∙ calm.idle;
      orderly = go.moves.orderly calm.orderly;
      standing = staying-stand r i calm s go.moves (go.stands (calm.standing i inside));
    }
calm-entry r i _ _ _ _ _ _ (Unfolds.closes kinds n fresh s inside are runs) calm =
    let cut = run-last r.state s (free_labels i kinds) (Label.Close i) runs in
    let go = free-moves i kinds r.state cut.0 calm.orderly cut.1 in
    let moves = moves-through i r.state cut.0 s go.moves (close-moves i cut.0 s cut.2) in
    record {
      idle = ap (λ (v : State). v.active) (close-is i cut.0 s cut.2).1 ∙ go.active ∙ calm.idle;
      orderly = moves.orderly calm.orderly;
      standing = λ k still. let others = left-inside i k r.inside still in others-stand r i calm s moves k others.1 others.0;
    }
calm-entry r i _ _ _ _ _ _ (Unfolds.fails kinds n fresh s are runs fails) calm = calm
calm-entry r i _ _ _ _ _ _ (Unfolds.is_cut kinds n fresh s are runs) calm = calm
calm-entry r i _ _ _ _ _ _ (Unfolds.grows kinds n fresh s are runs tall) calm = calm

pub calm-all : (r : Replayed) (entries : List Entry) (labels : List Label) (t : Replayed) → UnfoldsAll r entries labels t → IsCalm r → IsCalm t
calm-all _ _ _ _ (UnfoldsAll.done r) calm = calm
calm-all _ _ _ _ (UnfoldsAll.next r s t entry entries labels more first others) calm =
    calm-all s entries more t others (calm-entry r entry.number entry.kind entry.steps entry.fresh entry.answer labels s first calm)

pub calm-replayed : (program : Tree) (entries : List Entry) (r : Replayed) → replay program entries ≡ Some r → IsCalm r
calm-replayed program entries r e =
    let all = unfold-all (begun_at program) entries r e in
    calm-all (begun_at program) entries all.0 r all.1 (record { idle = refl; orderly = start-orderly program; standing = λ k inside. cc })
