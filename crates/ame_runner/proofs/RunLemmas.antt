-- A run goes on by a label, a try or the beginning of a fragment.
use Rattle.std.proofs.Common.{◌≡◌, ℕ, suc, ◌+◌, ◌≤◌, ◌++◌, ◌⊎◌, inl, inr, max, Bool, true, false, List, [], ◌∷◌, length, Result, Ok, Err, is_none}
use Rattle.std.proofs.Common.{if◌then◌else◌, refl, sym, ap, ◌∙◌, subst, arith, length-append}
use Rattle.std.specs.Prelude.{OnOk, OnErr}
use Rattle.std.specs.List.{AllByRecursion}
use Rattle.ame_term.specs.Tree.{Tree}
use Rattle.ame_term.specs.declared.semantics.Label.{Label}
use Rattle.ame_weak.specs.declared.tries.Try.{Try}
use Rattle.ame_runner.specs.Labels.{label_location, behind_location, location_above}
use Rattle.ame_runner.specs.Play.{PlayView, IsPlayedWeakly, begun_play}
use Rattle.ame_runner.specs.Notes.{lets_try_again, IsAsideSince, AreKept}
use Rattle.ame_runner.specs.Run.{CourseView, turns_of_tries, IsOwn, AreSettled, AreFailedTries, CutAt, IsRunning, CanBeEnded, KeepsFrame}
use Rattle.ame_runner.specs.Run.{HasMadeUncounted, RunsOrEnds}
use Rattle.ame_runner.proofs.NoteLemmas.{all-with, kept-label}

-- the try that was cut off was made where nothing was active
cut-settled : (r : CourseView) → IsRunning r → CutAt (length r.play.labels) r.tries → CutAt r.play.settled r.tries
cut-settled r x k = record {
  front = k.front;
  last = k.last;
  parts = k.parts;
  failing = k.failing;
  after =
      let here = k.after in
      let few = x.played.settled.few in
      let early = last-of (λ t. t.after ≤ r.play.settled) k.front k.last (subst (AllByRecursion (λ t. t.after ≤ r.play.settled)) k.parts x.settled) in
      omega (arith, here, few, early);
}
  where
    last-of : (P : Try → Type 0) (ts : List Try) (u : Try) → AllByRecursion P (ts ++ u ∷ []) → P u
    last-of P [] u all = all.0
    last-of P (t ∷ ts) u all = last-of P ts u all.1

-- a run that may go on may be ended
pub running-ends : (r : CourseView) → IsRunning r → CanBeEnded r
running-ends r x = record {
  played = x.played;
  kept = record {
    order = x.kept.order;
    hold = x.kept.hold;
    spaced = x.kept.spaced;
    put = all-with (IsAsideSince r.play.labels r.aside) (IsAsideSince r.play.labels r.aside) (IsAsideSince r.play.labels (λ i. true)) (λ t a b. λ failing. inl refl) r.tries x.kept.put x.kept.put;
  };
  settled = x.settled;
  few = let a = x.made in let b = x.few in let c = x.within in omega arith;
  cut = elim x.cut [ inl failing ↦ inl failing | inr now ↦ inr (cut-settled r x now.cut) ];
}

-- one after the other
pub frame-then : (r m q : CourseView) → KeepsFrame r m → KeepsFrame m q → KeepsFrame r q
frame-then r m q first second = record { program = second.program ∙ first.program; limit = second.limit ∙ first.limit }

-- Labels

aside-how : (label : Label) (old later : ℕ → Bool) → ((i : ℕ) → later i ≡ (if lets_try_again label then false else old i))
    → (lets_try_again label ≡ true) ⊎ ((i : ℕ) → later i ≡ old i)
aside-how label old later e = by (lets_try_again label) refl
  where
    by : (b : Bool) → lets_try_again label ≡ b → (lets_try_again label ≡ true) ⊎ ((i : ℕ) → later i ≡ old i)
    by true is = inl is
    by false is = inr (λ i. e i ∙ ap (λ (c : Bool). if c then false else old i) is)

all-to : {X : Type 0} (P Q : X → Type 0) → ((x : X) → P x → Q x) → (xs : List X) → AllByRecursion P xs → AllByRecursion Q xs
all-to P Q f xs ps = all-with P P Q (λ x p q. f x p) xs ps ps

not-none : (label : Label) (labels : List Label) → label ∷ labels ≡ [] → ⊥
not-none label labels e = let clash : suc (length labels) ≡ 0 = ap length e in omega arith

module _ (r q : CourseView) (label : Label) (h : HasMadeUncounted label r q) where
  more-settled : IsPlayedWeakly r.play → r.play.settled ≤ q.play.settled
  more-settled played = by (is_none q.play.weak.state.active) h.made.settled
    where
      few : r.play.settled ≤ length r.play.labels
      few = played.settled.few

      long : length q.play.labels ≡ length r.play.labels + 1
      long = ap length h.made.labels ∙ length-append r.play.labels (label ∷ [])

      by : (b : Bool) → q.play.settled ≡ (if b then length q.play.labels else r.play.settled) → r.play.settled ≤ q.play.settled
      by true is = let now : q.play.settled ≡ length q.play.labels = is in let a = few in let b = long in omega (arith, now, a, b)
      by false is = let now : q.play.settled ≡ r.play.settled = is in omega (arith, now)

  pub kept-on : IsPlayedWeakly r.play → AreKept r.play.program r.play.labels r.aside r.tries → AreKept q.play.program q.play.labels q.aside q.tries
  kept-on played kept =
      subst (λ (p : Tree). AreKept p q.play.labels q.aside q.tries) (sym h.made.program)
      (subst (λ (ls : List Label). AreKept r.play.program ls q.aside q.tries) (sym h.made.labels)
      (subst (λ (ts : List Try). AreKept r.play.program (r.play.labels ++ label ∷ []) q.aside ts) (sym h.tries)
      (kept-label r.play.program r.play.labels r.aside r.tries kept label q.aside (aside-how label r.aside q.aside h.aside))))

  pub settled-on : IsPlayedWeakly r.play → AreSettled r.play r.tries → AreSettled q.play q.tries
  settled-on played settled =
      let more = more-settled played in
      subst (λ (ts : List Try). AreSettled q.play ts) (sym h.tries)
      (all-to (λ t. t.after ≤ r.play.settled) (λ t. t.after ≤ q.play.settled) (λ t few. omega (arith, few, more)) r.tries settled)

  -- the next label of the active fragment
  pub runs-on : (s : CourseView) → IsRunning s → s ≡ record r { left = label ∷ r.left } → IsRunning q
  runs-on s y is =
      let x : IsRunning (record r { left = label ∷ r.left }) = subst IsRunning is y in
      let long : length q.play.labels ≡ length r.play.labels + 1 = ap length h.made.labels ∙ length-append r.play.labels (label ∷ []) in
      let to_make : max (behind_location (label_location label)) (location_above r.left) ≤ r.above = x.to_make in
      let counted : r.turns ≡ length r.play.labels + suc (length r.left) + turns_of_tries r.tries = x.counted in
      let made = x.made in
      record {
        played = h.played x.played;
        kept = kept-on x.played x.kept;
        settled = settled-on x.played x.settled;
        counted = h.turns ∙ omega (arith, counted, long) ∙ ap (λ (ls : List Label). length q.play.labels + length ls + turns_of_tries r.tries) (sym h.left)
            ∙ ap (λ (ts : List Try). length q.play.labels + length q.left + turns_of_tries ts) (sym h.tries);
        made = let up = h.made.above in let same = h.above in omega (arith, up, same, to_make, made);
        own = subst (AllByRecursion IsOwn) (sym h.left) x.own.1;
        to_make = let same = h.above in let rest : location_above q.left ≡ location_above r.left = ap location_above h.left in omega (arith, same, rest, to_make);
        few = let a = x.few in let b = h.above in let c = h.turns in omega (arith, a, b, c);
        within = let a = x.within in let b = h.turns in let c = h.limit in omega (arith, a, b, c);
        cut = elim x.cut [ inl failing ↦ inl (subst AreFailedTries (sym h.tries) failing) | inr now ↦ absurd (not-none label r.left now.none) ];
      }

-- what is still to be made doesn't matter for an end
pub ended-before : (s r : CourseView) (ls : List Label) → IsRunning s → s ≡ record r { left = ls } → CanBeEnded r
ended-before s r ls y is =
    let e : CanBeEnded (record r { left = ls }) = subst CanBeEnded is (running-ends s y) in
    record { played = e.played; kept = e.kept; settled = e.settled; few = e.few; cut = e.cut }

-- before the first label
pub running-begun : (r : CourseView) (program : Tree) → IsPlayedWeakly r.play → r.play ≡ begun_play program
    → r.tries ≡ [] → r.left ≡ [] → r.above ≡ 0 → r.turns ≡ 0 → IsRunning r
running-begun r program played begun tries left above turns = record {
  played = played;
  kept = subst (λ (ts : List Try). AreKept r.play.program r.play.labels r.aside ts) (sym tries) (record { order = tt; hold = tt; spaced = tt; put = tt });
  settled = subst (AreSettled r.play) (sym tries) tt;
  counted = turns ∙ sym (ap (λ (p : PlayView). length p.labels + length r.left + turns_of_tries r.tries) begun
      ∙ ap (λ (ls : List Label). 0 + length ls + turns_of_tries r.tries) left ∙ ap (λ (ts : List Try). 0 + 0 + turns_of_tries ts) tries);
  made = let low : r.play.above ≡ 0 = ap (λ (p : PlayView). p.above) begun in omega (arith, low);
  own = subst (AllByRecursion IsOwn) (sym left) tt;
  to_make = let low : location_above r.left ≡ 0 = ap location_above left in omega (arith, low);
  few = omega (arith, above);
  within = omega (arith, turns);
  cut = inl (subst AreFailedTries (sym tries) tt);
}

-- the answer of a label that isn't counted
pub goes-on : {X E : Type 0} (s r q : CourseView) (label : Label) (a : Result X E) → IsRunning s → s ≡ record r { left = label ∷ r.left } → OnOk a (HasMadeUncounted label r q) → OnErr a (q ≡ r)
    → RunsOrEnds a q
goes-on s r q label (Ok x) y is made err = runs-on r q label made s y is
goes-on s r q label (Err e) y is made err = subst CanBeEnded (sym err) (ended-before s r (label ∷ r.left) y is)
