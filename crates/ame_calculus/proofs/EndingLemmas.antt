-- An entry ends by its run, and so it ends in each state in which the run can be made.
use Rattle.std.proofs.Common.{◌≡◌, ℕ, ◌+◌, ◌<◌, ◌==◌, ◌⊎◌, inl, inr, ℤ, Bool, true, false, not, ◌||◌, cond, List, [], ◌∷◌, filter, Option, Some, None, option_and_then, if◌then◌else◌, refl, sym, ap, ◌∙◌, subst, arith, eqb-true}
use Rattle.std.specs.Prelude.{IsSome}
use Rattle.std.specs.List.{list_any}
use Rattle.ame_term.specs.Tree.{Val, Tree}
use Rattle.ame_term.specs.Frame.{Side, side_told}
use Rattle.ame_term.specs.Context.{focus, fill}
use Rattle.ame_term.specs.Maps.{at, without}
use Rattle.ame_term.specs.State.{State, after, ended, closed_value, at_unprotected, at_value}
use Rattle.ame_term.specs.declared.semantics.Label.{Label}
use Rattle.ame_laws.specs.Orderly.{IsOrderly}
use Rattle.ame_journal.specs.declared.entry.Entry.{Entry}
use Rattle.ame_journal.specs.declared.entry.EntryKind.{EntryKind}
use Rattle.ame_journal.specs.Labels.{fragment_labels, Unfolds}
use Rattle.ame_journal.specs.Replayed.{Replayed, has_such, is_inside, is_at_unprotected, entering, staying, leaving}
use Rattle.ame_journal.specs.Replay.{fragment, replay_entry}
use Rattle.ame_journal.specs.Totals.{is_note}
use Rattle.ame_journal.proofs.LabelLemmas.{unfold-entry}
use Rattle.ame_journal.proofs.ReachedLemmas.{IsCalm}
use Rattle.ame_journal.proofs.StepLemmas.{leave-is}
use Rattle.ame_journal.proofs.UnderWayLemmas.{UnderWay-runs}
use Rattle.ame_journal.proofs.UnfoldLemmas.{fragment-back, run-last, entry-back}
use Rattle.ame_machine.specs.Run.AgreesWith.{IsAfterRun}
use Rattle.ame_machine.specs.Run.Local.{LocalState, begun_with, goes}
use Rattle.ame_machine.specs.Run.Told.{TellsRun}
use Rattle.ame_machine.proofs.Run.EntryLemmas.{run-ended, run-left, run-free, run-closed}
use Rattle.ame_machine.proofs.Run.ReplayLemmas.{active_run, begun-after}
use Rattle.ame_weak.proofs.HeldSteps.{if-gave}
use Rattle.ame_calculus.specs.Independent.{IsOfRun}

-- The members that are inside

-- whether a number is among others
abbrev pub is_among : ℕ → List ℕ → Bool
is_among k xs = list_any (λ j. j == k) xs

differ : (m n : ℕ) → (m ≡ n → ⊥) → (m == n) ≡ false
differ m n apart = grind arith

itself : (n : ℕ) → (n == n) ≡ true
itself n = grind arith

-- a change of who is inside that concerns one member alone
pub record IsChangeOf (i : ℕ) (go : List ℕ → List ℕ) : Type 0 where
  pub others : (xs : List ℕ) (k : ℕ) → (i ≡ k → ⊥) → is_among k (go xs) ≡ is_among k xs
  pub own : (xs ys : List ℕ) → is_among i xs ≡ is_among i ys → is_among i (go xs) ≡ is_among i (go ys)

pub enters : (i : ℕ) → IsChangeOf i (λ xs. i ∷ xs)
enters i = record {
  others = λ xs k apart. ap (λ b. b || is_among k xs) (differ i k apart);
  own = λ xs ys same. ap (λ b. b || is_among i xs) (itself i) ∙ sym (ap (λ b. b || is_among i ys) (itself i));
}

stays : (i : ℕ) → IsChangeOf i (λ xs. xs)
stays i = record { others = λ xs k apart. refl; own = λ xs ys same. same }

left-others : (i k : ℕ) → (i ≡ k → ⊥) → (xs : List ℕ) → is_among k (filter (λ j. not (j == i)) xs) ≡ is_among k xs
left-others i k apart [] = refl
left-others i k apart (x ∷ xs) = by (x == i) refl (left-others i k apart xs)
  where
    by : (b : Bool) → (x == i) ≡ b → is_among k (filter (λ j. not (j == i)) xs) ≡ is_among k xs
        → is_among k (cond (not b) (x ∷ filter (λ j. not (j == i)) xs) (filter (λ j. not (j == i)) xs)) ≡ ((x == k) || is_among k xs)
    by true is rest = rest ∙ sym (ap (λ b. b || is_among k xs) (differ x k (λ same. apart (sym (eqb-true x i is) ∙ same))))
    by false is rest = ap (λ b. (x == k) || b) rest

left-own : (i : ℕ) (xs : List ℕ) → is_among i (filter (λ j. not (j == i)) xs) ≡ false
left-own i [] = refl
left-own i (x ∷ xs) = by (x == i) refl (left-own i xs)
  where
    by : (b : Bool) → (x == i) ≡ b → is_among i (filter (λ j. not (j == i)) xs) ≡ false
        → is_among i (cond (not b) (x ∷ filter (λ j. not (j == i)) xs) (filter (λ j. not (j == i)) xs)) ≡ false
    by true is rest = rest
    by false is rest = ap (λ b. b || is_among i (filter (λ j. not (j == i)) xs)) is ∙ rest

pub leaves : (i : ℕ) → IsChangeOf i (λ xs. filter (λ j. not (j == i)) xs)
leaves i = record { others = λ xs k apart. left-others i k apart xs; own = λ xs ys same. left-own i xs ∙ sym (left-own i ys) }

-- An entry leads to this if its run is made.
pub record IsRedone (r : Replayed) (e : Entry) (p : LocalState) (last : Option Tree) (go : List ℕ → List ℕ) : Type 0 where
  pub behind : Replayed
  pub replays : replay_entry r e ≡ Some behind
  pub after_run : IsAfterRun r.state e.number p behind.state
  pub member : at behind.state.members e.number ≡ last
  pub idle : behind.state.active ≡ None
  pub inside : behind.inside ≡ go r.inside

-- It ends so in each state in which the run is made.
pub record IsEnding (r : Replayed) (e : Entry) (p : LocalState) (side : Side) (n : ℕ) : Type 0 where
  pub last : Option Tree
  pub go : List ℕ → List ℕ
  pub change : IsChangeOf e.number go
  pub again : (t : Replayed) → TellsRun t e side n p → IsOrderly t.state → is_inside t e.number ≡ is_inside r e.number → IsRedone t e p last go

-- whether a member stands at `unprotected`, by its side
stands-unprotected : (b : Bool) → side_told b ≡ Side.Unprotected → b ≡ true
stands-unprotected true e = refl
stands-unprotected false e = cc

one-state : (o : Option State) (v w : State) → o ≡ Some v → o ≡ Some w → v ≡ w
one-state o v w p q = let e : ◌≡◌ {A = Option State} (Some v) (Some w) = sym p ∙ q in cc

ended-value : (t u : State) (i : ℕ) (term : Tree) → t.active ≡ Some i → at t.members i ≡ Some term → after t Label.End ≡ Some u → at_value (focus term) ≡ true
unfolding after
ended-value t u i term is member e =
    let first : ended i t ≡ Some u = sym (ap (option_and_then (λ j. ended j t)) is) ∙ e in
    let second : (if at_value (focus term) then Some (record t { members = without t.members i; active = None }) else None) ≡ Some u =
    sym (ap (option_and_then (λ (z : Tree). if at_value (focus z) then Some (record t { members = without t.members i; active = None }) else None)) member) ∙ first in
    (if-gave (at_value (focus term)) (Some (record t { members = without t.members i; active = None })) u second).0

module _ (r : Replayed) (calm : IsCalm r) (e : Entry) (p : LocalState) (x : IsOfRun r e p) where
  on-side : (side : Side) → x.side ≡ side → (t : Replayed) → TellsRun t e x.side x.steps p → TellsRun t e side x.steps p
  on-side side is t tells = subst (λ (z : Side). TellsRun t e z x.steps p) is tells

  -- A fragment

  module _ (kind : e.kind ≡ EntryKind.Ran) where
    counted : e.steps ≡ x.steps
    counted = by x.count
      where
        by : (e.steps ≡ x.steps) ⊎ ((e.kind ≡ EntryKind.Free) × (e.steps ≡ x.steps + 1) × (e.answer ≡ None) × IsSome (closed_value (focus p.term))) → e.steps ≡ x.steps
        by (inl same) = same
        by (inr k) = let clash : EntryKind.Ran ≡ EntryKind.Free = sym kind ∙ k.0 in cc

    record IsFragment (t : State) : Type 0 where
      pub on : x.side ≡ Side.Protected
      pub active : t.active ≡ Some e.number
      pub member : at t.members e.number ≡ Some p.term

    -- the fragment is the run
    fragment-is : (t : State) → is_at_unprotected e.number r.state ≡ false → fragment e.number e.steps e.fresh r.state ≡ Some t → IsFragment t
    fragment-is t outside made =
        let on : x.side ≡ Side.Protected = sym x.tells.stands ∙ ap side_told outside in
        let tells = on-side Side.Protected on r x.tells in
        let calm_term : at_unprotected (focus tells.term) ≡ false = sym (ap (has_such (λ t. at_unprotected (focus t))) tells.member) ∙ outside in
        let a = active_run r.state e.number tells.term tells.inputs tells.member tells.idle calm_term x.steps p tells.ran tells.agrees in
        let back = fragment-back e.number a.way.kinds x.steps p.fresh r.state a.behind a.way.are (UnderWay-runs r.state e.number x.steps p.fresh a.behind a.way) in
        let here : fragment e.number x.steps p.fresh r.state ≡ Some t =
        ap (λ (n : ℕ). fragment e.number n p.fresh r.state) (sym counted) ∙ ap (λ (fresh : List ℕ). fragment e.number e.steps fresh r.state) (sym tells.fresh) ∙ made in
        let same : a.behind ≡ t = one-state (fragment e.number x.steps p.fresh r.state) a.behind t back.0 here in
        record {
          on = on;
          active = sym (ap (λ (z : State). z.active) same) ∙ a.way.active;
          member = sym (ap (λ (z : State). at z.members e.number) same) ∙ a.member;
        }

    ran-ending : (k : EntryKind) (n : ℕ) (fresh : List ℕ) (answer : Option ℤ) (labels : List Label) (s : Replayed) → Unfolds r e.number k n fresh answer labels s
        → e.kind ≡ k → e.steps ≡ n → e.fresh ≡ fresh → e.answer ≡ answer → IsEnding r e p x.side x.steps
    ran-ending _ _ _ _ _ _ (Unfolds.leaves kinds n fresh s outside are runs) k_is n_is fresh_is answer_is =
        let cut = run-last r.state s (fragment_labels e.number kinds) Label.Leave runs in
        let made = fragment-back e.number kinds n fresh r.state cut.0 are cut.1 in
        let here : fragment e.number e.steps e.fresh r.state ≡ Some cut.0 =
        ap (λ (m : ℕ). fragment e.number m e.fresh r.state) n_is ∙ ap (λ (f : List ℕ). fragment e.number n f r.state) fresh_is ∙ made.0 in
        let f = fragment-is cut.0 made.1 here in
        let stands : at_unprotected (focus p.term) ≡ true =
        sym (ap (has_such (λ t. at_unprotected (focus t))) f.member) ∙ (leave-is e.number cut.0 s f.active cut.2).0 in
        record {
          last = Some p.term;
          go = λ xs. e.number ∷ xs;
          change = enters e.number;
          again = λ t tells ordered same.
              let y = run-left t e x.steps p (on-side Side.Protected f.on t tells) counted kind (same ∙ outside) stands in
              record { behind = entering t e.number y.0; replays = y.1; after_run = y.2; member = y.3; idle = y.4; inside = refl };
        }
    ran-ending _ _ _ _ _ _ (Unfolds.ends kinds n fresh s outside are runs) k_is n_is fresh_is answer_is =
        let cut = run-last r.state s (fragment_labels e.number kinds) Label.End runs in
        let made = fragment-back e.number kinds n fresh r.state cut.0 are cut.1 in
        let here : fragment e.number e.steps e.fresh r.state ≡ Some cut.0 =
        ap (λ (m : ℕ). fragment e.number m e.fresh r.state) n_is ∙ ap (λ (f : List ℕ). fragment e.number n f r.state) fresh_is ∙ made.0 in
        let f = fragment-is cut.0 made.1 here in
        let value = ended-value cut.0 s e.number p.term f.active f.member cut.2 in
        record {
          last = None;
          go = λ xs. xs;
          change = stays e.number;
          again = λ t tells ordered same.
              let y = run-ended t e x.steps p (on-side Side.Protected f.on t tells) counted kind (same ∙ outside) ordered value in
              record { behind = staying t y.0; replays = y.1; after_run = y.2; member = y.3; idle = y.4; inside = refl };
        }
    ran-ending _ _ _ _ _ _ (Unfolds.arrives outside is) k_is n_is fresh_is answer_is = record {
      last = Some p.term;
      go = λ xs. e.number ∷ xs;
      change = enters e.number;
      again = λ t tells ordered same.
          let on : x.side ≡ Side.Unprotected = sym x.tells.stands ∙ ap side_told is in
          let none : x.steps ≡ 0 = sym counted ∙ n_is in
          let begun : ◌≡◌ {A = Option LocalState} (Some (begun_with tells.term tells.inputs)) (Some p) =
          sym (ap (goes x.side (begun_with tells.term tells.inputs)) none) ∙ tells.ran in
          let place : begun_with tells.term tells.inputs ≡ p = cc in
          let stands : is_at_unprotected e.number t.state ≡ true = stands-unprotected (is_at_unprotected e.number t.state) (tells.stands ∙ on) in
          record {
            behind = entering t e.number t.state;
            replays = told t EntryKind.Ran 0 [] None [] (entering t e.number t.state) k_is n_is fresh_is answer_is (Unfolds.arrives (same ∙ outside) stands);
            after_run = subst (λ (z : LocalState). IsAfterRun t.state e.number z t.state) place (begun-after t.state e.number tells.term tells.inputs t.state refl refl refl refl);
            member = tells.member ∙ ap (λ (z : LocalState). Some z.term) place;
            idle = tells.idle;
            inside = refl;
          };
    }
      where
        told : (t : Replayed) (k : EntryKind) (m : ℕ) (fresh : List ℕ) (answer : Option ℤ) (labels : List Label) (u : Replayed) → e.kind ≡ k → e.steps ≡ m → e.fresh ≡ fresh → e.answer ≡ answer
            → Unfolds t e.number k m fresh answer labels u → replay_entry t e ≡ Some u
        told t k m fresh answer labels u is count new reply unfolds =
            entry-back t e labels u
            (subst (λ (z : EntryKind). Unfolds t e.number z e.steps e.fresh e.answer labels u) (sym is)
            (subst (λ (z : ℕ). Unfolds t e.number k z e.fresh e.answer labels u) (sym count)
            (subst (λ (f : List ℕ). Unfolds t e.number k m f e.answer labels u) (sym new)
            (subst (λ (o : Option ℤ). Unfolds t e.number k m fresh o labels u) (sym reply) unfolds))))
    ran-ending _ _ _ _ _ _ (Unfolds.goes_on kinds n fresh answer s inside are runs) k_is n_is fresh_is answer_is =
        let clash : EntryKind.Ran ≡ EntryKind.Free = sym kind ∙ k_is in absurd (cc)
    ran-ending _ _ _ _ _ _ (Unfolds.closes kinds n fresh s inside are runs) k_is n_is fresh_is answer_is =
        let clash : EntryKind.Ran ≡ EntryKind.Free = sym kind ∙ k_is in absurd (cc)
    ran-ending _ _ _ _ _ _ (Unfolds.fails kinds n fresh s are runs fails) k_is n_is fresh_is answer_is =
        let clash : EntryKind.Ran ≡ EntryKind.Stuck = sym kind ∙ k_is in absurd (cc)
    ran-ending _ _ _ _ _ _ (Unfolds.is_cut kinds n fresh s are runs) k_is n_is fresh_is answer_is =
        let clash : EntryKind.Ran ≡ EntryKind.Cut = sym kind ∙ k_is in absurd (cc)
    ran-ending _ _ _ _ _ _ (Unfolds.grows kinds n fresh s are runs tall) k_is n_is fresh_is answer_is =
        let clash : EntryKind.Ran ≡ EntryKind.Tall = sym kind ∙ k_is in absurd (cc)

  -- Unprotected code

  module _ (kind : e.kind ≡ EntryKind.Free) where
    is-inside : (k : EntryKind) (n : ℕ) (fresh : List ℕ) (answer : Option ℤ) (labels : List Label) (s : Replayed) → Unfolds r e.number k n fresh answer labels s
        → e.kind ≡ k → (is_inside r e.number ≡ true) × (0 < n)
    is-inside _ _ _ _ _ _ (Unfolds.goes_on kinds n fresh answer s inside are runs) k_is = (inside, omega arith)
    is-inside _ _ _ _ _ _ (Unfolds.closes kinds n fresh s inside are runs) k_is = (inside, omega arith)
    is-inside _ _ _ _ _ _ (Unfolds.leaves kinds n fresh s outside are runs) k_is = let clash : EntryKind.Free ≡ EntryKind.Ran = sym kind ∙ k_is in absurd (cc)
    is-inside _ _ _ _ _ _ (Unfolds.ends kinds n fresh s outside are runs) k_is = let clash : EntryKind.Free ≡ EntryKind.Ran = sym kind ∙ k_is in absurd (cc)
    is-inside _ _ _ _ _ _ (Unfolds.arrives outside is) k_is = let clash : EntryKind.Free ≡ EntryKind.Ran = sym kind ∙ k_is in absurd (cc)
    is-inside _ _ _ _ _ _ (Unfolds.fails kinds n fresh s are runs fails) k_is = let clash : EntryKind.Free ≡ EntryKind.Stuck = sym kind ∙ k_is in absurd (cc)
    is-inside _ _ _ _ _ _ (Unfolds.is_cut kinds n fresh s are runs) k_is = let clash : EntryKind.Free ≡ EntryKind.Cut = sym kind ∙ k_is in absurd (cc)
    is-inside _ _ _ _ _ _ (Unfolds.grows kinds n fresh s are runs tall) k_is = let clash : EntryKind.Free ≡ EntryKind.Tall = sym kind ∙ k_is in absurd (cc)

    free-ending : is_inside r e.number ≡ true → 0 < e.steps → IsEnding r e p x.side x.steps
    free-ending inside some = by x.count
      where
        on : x.side ≡ Side.Unprotected
        on = sym x.tells.stands ∙ ap side_told (calm.standing e.number inside)

        closing : (o : Option Val) → closed_value (focus p.term) ≡ o → IsSome o → e.steps ≡ x.steps + 1 → e.answer ≡ None → IsEnding r e p x.side x.steps
        closing None is there count quiet = absurd (cc)
        closing (Some v) is there count quiet = record {
          last = Some (fill p.term (Tree.Held v));
          go = λ xs. filter (λ j. not (j == e.number)) xs;
          change = leaves e.number;
          again = λ t tells ordered same.
              let y = run-closed t e x.steps p (on-side Side.Unprotected on t tells) v count kind (same ∙ inside) (sym tells.answer ∙ quiet) is in
              record { behind = leaving t e.number y.0; replays = y.1; after_run = y.2; member = y.3; idle = y.4; inside = refl };
        }

        by : (e.steps ≡ x.steps) ⊎ ((e.kind ≡ EntryKind.Free) × (e.steps ≡ x.steps + 1) × (e.answer ≡ None) × IsSome (closed_value (focus p.term))) → IsEnding r e p x.side x.steps
        by (inl count) = record {
          last = Some p.term;
          go = λ xs. xs;
          change = stays e.number;
          again = λ t tells ordered same.
              let y = run-free t e x.steps p (on-side Side.Unprotected on t tells) count kind (same ∙ inside) (subst (λ (n : ℕ). 0 < n) count some) in
              record { behind = staying t y.0; replays = y.1; after_run = y.2; member = y.3; idle = y.4; inside = refl };
        }
        by (inr k) = closing (closed_value (focus p.term)) refl k.3 k.1 k.2

  pub ending : (s : Replayed) → replay_entry r e ≡ Some s → is_note e.kind ≡ false → IsEnding r e p x.side x.steps
  ending s replayed plain = by e.kind refl plain
    where
      u : (labels : List Label) × Unfolds r e.number e.kind e.steps e.fresh e.answer labels s
      u = unfold-entry r e s replayed

      by : (kind : EntryKind) → e.kind ≡ kind → is_note kind ≡ false → IsEnding r e p x.side x.steps
      by EntryKind.Ran is plain_so = ran-ending is e.kind e.steps e.fresh e.answer u.0 s u.1 refl refl refl refl
      by EntryKind.Free is plain_so =
          let i = is-inside is e.kind e.steps e.fresh e.answer u.0 s u.1 refl in
          free-ending is i.0 i.1
      by EntryKind.Stuck is plain_so = cc
      by EntryKind.Cut is plain_so = cc
      by EntryKind.Tall is plain_so = cc
