-- Tries are kept when a label or a try is added.
use Rattle.std.proofs.Common.{◌≡◌, ℕ, ◌+◌, ◌≤◌, ◌++◌, ◌⊎◌, inl, inr, Bool, true, false, List, [], ◌∷◌, length, take, drop, refl, sym, ap, ◌∙◌, subst}
use Rattle.std.proofs.Common.{arith, length-append}
use Rattle.std.specs.Prelude.{◌||◌}
use Rattle.std.specs.List.{AllByRecursion, list_any}
use Rattle.std.proofs.lemmas.List.{take_all, take-append-le, drop-append-le}
use Rattle.std.proofs.lemmas.List.Folds.{list_any-append}
use Rattle.ame_term.specs.Tree.{Tree}
use Rattle.ame_term.specs.declared.semantics.Label.{Label}
use Rattle.ame_weak.specs.Weak.{Weak, IsWeakRun}
use Rattle.ame_weak.specs.Tries.{AreTriesInOrder}
use Rattle.ame_weak.specs.declared.tries.Try.{Try}
use Rattle.ame_runner.specs.Within.{HoldsWithin}
use Rattle.ame_runner.specs.Notes.{lets_try_again, HasChange, AreSetApart, AreSpaced, HoldsAfter, IsAsideSince, AreKept}

pub all-with : {X : Type 0} (P Q R : X → Type 0) → ((x : X) → P x → Q x → R x) → (xs : List X) → AllByRecursion P xs → AllByRecursion Q xs → AllByRecursion R xs
all-with P Q R f [] ps qs = tt
all-with P Q R f (x ∷ xs) ps qs = (f x ps.0 qs.0, all-with P Q R f xs ps.1 qs.1)

pub all-more : {X : Type 0} (P : X → Type 0) (xs : List X) (y : X) → AllByRecursion P xs → P y → AllByRecursion P (xs ++ y ∷ [])
all-more P [] y ps p = (p, tt)
all-more P (x ∷ xs) y ps p = (ps.0, all-more P xs y ps.1 p)

-- each try is within the labels
within : (n m : ℕ) (ts : List Try) → AreTriesInOrder n m ts → AllByRecursion (λ t. t.after ≤ m) ts
within n m [] order = tt
within n m (t ∷ ts) order = (order.1, within t.after m ts order.2)

order-later : (n m k : ℕ) (ts : List Try) → m ≤ k → AreTriesInOrder n m ts → AreTriesInOrder n k ts
order-later n m k [] more order = tt
order-later n m k (t ∷ ts) more order = let few : t.after ≤ m = order.1 in (order.0, omega arith, order-later t.after m k ts more order.2)

order-more : (n m : ℕ) (ts : List Try) (u : Try) → n ≤ m → u.after ≡ m → AreTriesInOrder n m ts → AreTriesInOrder n m (ts ++ u ∷ [])
order-more n m [] u few last order = (omega arith, omega arith, tt)
order-more n m (t ∷ ts) u few last order = (order.0, order.1, order-more t.after m ts u order.1 last order.2)

taken-more : (n : ℕ) (labels : List Label) (label : Label) → n ≤ length labels → take n (labels ++ label ∷ []) ≡ take n labels
taken-more n labels label few = take-append-le n labels (label ∷ []) few

spaced-more : (labels : List Label) (label : Label) (ts : List Try) → AllByRecursion (λ t. t.after ≤ length labels) ts → AreSpaced labels ts
    → AreSpaced (labels ++ label ∷ []) ts
spaced-more labels label [] few spaced = tt
spaced-more labels label (t ∷ ts) few spaced = (
  all-with (AreSetApart labels t) (λ u. u.after ≤ length labels) (AreSetApart (labels ++ label ∷ []) t)
      (λ u apart here. λ one other same. subst (λ ls. HasChange (drop t.after ls)) (sym (taken-more u.after labels label here)) (apart one other same)) ts spaced.0 few.1,
  spaced-more labels label ts few.1 spaced.1,
)

spaced-with : (labels : List Label) (ts : List Try) (u : Try) → AreSpaced labels ts → AllByRecursion (λ t. AreSetApart labels t u) ts → AreSpaced labels (ts ++ u ∷ [])
spaced-with labels [] u spaced apart = (tt, tt)
spaced-with labels (t ∷ ts) u spaced apart = (all-more (AreSetApart labels t) ts u spaced.0 apart.0, spaced-with labels ts u spaced.1 apart.1)

or-right : (a b : Bool) → b ≡ true → (a || b) ≡ true
or-right true b e = refl
or-right false b e = e

or-left : (a b : Bool) → a ≡ true → (a || b) ≡ true
or-left a b e = ap (λ c. c || b) e

module _ (labels : List Label) (label : Label) (n : ℕ) (few : n ≤ length labels) where
  parts : list_any lets_try_again (drop n (labels ++ label ∷ [])) ≡ (list_any lets_try_again (drop n labels) || list_any lets_try_again (label ∷ []))
  parts = ap (list_any lets_try_again) (drop-append-le n labels (label ∷ []) few) ∙ list_any-append lets_try_again (drop n labels) (label ∷ [])

  changed-still : HasChange (drop n labels) → HasChange (drop n (labels ++ label ∷ []))
  changed-still change = parts ∙ or-left _ _ change

  changed-now : lets_try_again label ≡ true → HasChange (drop n (labels ++ label ∷ []))
  changed-now lets = parts ∙ or-right _ _ (or-left (lets_try_again label) (list_any lets_try_again []) lets)

module _ (program : Tree) (labels : List Label) (aside : ℕ → Bool) (ts : List Try) (kept : AreKept program labels aside ts) where
  here : AllByRecursion (λ t. t.after ≤ length labels) ts
  here = within 0 (length labels) ts kept.order

  aside-later : (label : Label) (later : ℕ → Bool) → (lets_try_again label ≡ true) ⊎ ((i : ℕ) → later i ≡ aside i)
      → (t : Try) → IsAsideSince labels aside t → t.after ≤ length labels
      → IsAsideSince (labels ++ label ∷ []) later t
  aside-later label later (inl lets) t since few failing = inr (changed-now labels label t.after few lets)
  aside-later label later (inr same) t since few failing = by (since failing)
    where
      by : (aside t.certificate.number ≡ true) ⊎ HasChange (drop t.after labels)
          → (later t.certificate.number ≡ true) ⊎ HasChange (drop t.after (labels ++ label ∷ []))
      by (inl put) = inl (same t.certificate.number ∙ put)
      by (inr change) = inr (changed-still labels label t.after few change)

  -- a label is made, after which no member is put aside any more, or the same members still are
  pub kept-label : (label : Label) (later : ℕ → Bool) → (lets_try_again label ≡ true) ⊎ ((i : ℕ) → later i ≡ aside i)
      → AreKept program (labels ++ label ∷ []) later ts
  kept-label label later how = record {
    order = order-later 0 (length labels) (length (labels ++ label ∷ [])) ts (let long : length (labels ++ label ∷ []) ≡ length labels + 1 = length-append labels (label ∷ []) in omega arith) kept.order;
    hold =
        all-with (HoldsAfter program labels) (λ t. t.after ≤ length labels) (HoldsAfter program (labels ++ label ∷ []))
        (λ t holds few. λ w leads. holds w (subst (λ ls. IsWeakRun program ls w) (taken-more t.after labels label few) leads)) ts kept.hold here;
    spaced = spaced-more labels label ts here kept.spaced;
    put = all-with (IsAsideSince labels aside) (λ t. t.after ≤ length labels) (IsAsideSince (labels ++ label ∷ []) later) (aside-later label later how) ts kept.put here;
  }

  false-true : (b : Bool) → b ≡ true → b ≡ false → ⊥
  false-true b is not = let clash : true ≡ false = sym is ∙ not in cc

  -- a try is added of a member that isn't put aside; if it fails, the member is put aside
  pub kept-try : (u : Try) (later : ℕ → Bool) → u.after ≡ length labels → ((w : Weak) → IsWeakRun program labels w → HoldsWithin w u)
      → (u.failing ≡ true → aside u.certificate.number ≡ false) → ((i : ℕ) → aside i ≡ true → later i ≡ true)
      → (u.failing ≡ true → later u.certificate.number ≡ true)
      → AreKept program labels later (ts ++ u ∷ [])
  kept-try u later last holds free grows put = record {
    order = order-more 0 (length labels) ts u (omega arith) last kept.order;
    hold = all-more (HoldsAfter program labels) ts u kept.hold (λ w leads. holds w (subst (λ ls. IsWeakRun program ls w) whole leads));
    spaced =
        spaced-with labels ts u kept.spaced
        (all-with (IsAsideSince labels aside) (λ t. t.after ≤ length labels) (λ t. AreSetApart labels t u) (λ t since few. λ one other same. apart t (since one) other same) ts kept.put here);
    put =
        all-more (IsAsideSince labels later) ts u
        (all-with (IsAsideSince labels aside) (λ t. t.after ≤ length labels) (IsAsideSince labels later) (λ t since few. λ failing. still t (since failing)) ts kept.put here)
        (λ failing. inl (put failing));
  }
    where
      whole : take u.after labels ≡ labels
      whole = take_all u.after labels (omega arith)

      apart : (t : Try) → (aside t.certificate.number ≡ true) ⊎ HasChange (drop t.after labels) → u.failing ≡ true → t.certificate.number ≡ u.certificate.number
          → HasChange (drop t.after (take u.after labels))
      apart t (inl is) other same = absurd (false-true (aside u.certificate.number) (ap aside (sym same) ∙ is) (free other))
      apart t (inr change) other same = subst (λ ls. HasChange (drop t.after ls)) (sym whole) change

      still : (t : Try) → (aside t.certificate.number ≡ true) ⊎ HasChange (drop t.after labels)
          → (later t.certificate.number ≡ true) ⊎ HasChange (drop t.after labels)
      still t (inl is) = inl (grows t.certificate.number is)
      still t (inr change) = inr change
