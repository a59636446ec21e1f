-- A try that was cut off is let go.
use Rattle.std.proofs.Common.{◌≡◌, ℕ, ◌+◌, ◌-◌, ◌≤◌, ◌++◌, ◌⊎◌, inl, inr, Bool, true, false, List, [], ◌∷◌, length, take, not, Option, Some, None}
use Rattle.std.proofs.Common.{if◌then◌else◌, refl, sym, ap, ◌∙◌, subst, arith, length-append}
use Rattle.std.specs.List.{AllByRecursion, slice_get}
use Rattle.std.proofs.lemmas.Bool.{not-true, not-false}
use Rattle.std.proofs.lemmas.List.{take_all, take-append-le, get_or_push}
use Rattle.std.proofs.lemmas.Option.{slice_get-get_or, slice_get_past}
use Rattle.ame_term.specs.declared.semantics.Label.{Label}
use Rattle.ame_weak.specs.Tries.{AreTriesInOrder}
use Rattle.ame_weak.specs.declared.tries.Try.{Try}
use Rattle.ame_runner.specs.Notes.{AreSetApart, AreSpaced, HoldsAfter, IsAsideSince, without_cut}
use Rattle.ame_runner.specs.Run.{CourseView, AreFailedTries, CutAt, CanBeEnded}

by-failing : (X : List Try → Type 0) (t : Try) → X (t ∷ []) → X [] → (b : Bool) → X (if b then t ∷ [] else [])
by-failing X t one none true = one
by-failing X t one none false = none

pub all-without : (P : Try → Type 0) (ts : List Try) → AllByRecursion P ts → AllByRecursion P (without_cut ts)
all-without P [] all = tt
all-without P (t ∷ []) all = by-failing (AllByRecursion P) t all tt t.failing
all-without P (t ∷ u ∷ ts) all = (all.0, all-without P (u ∷ ts) all.1)

order-without : (n m : ℕ) (ts : List Try) → AreTriesInOrder n m ts → AreTriesInOrder n m (without_cut ts)
order-without n m [] order = tt
order-without n m (t ∷ []) order = by-failing (AreTriesInOrder n m) t order tt t.failing
order-without n m (t ∷ u ∷ ts) order = (order.0, order.1, order-without t.after m (u ∷ ts) order.2)

spaced-without : (labels : List Label) (ts : List Try) → AreSpaced labels ts → AreSpaced labels (without_cut ts)
spaced-without labels [] spaced = tt
spaced-without labels (t ∷ []) spaced = by-failing (AreSpaced labels) t spaced tt t.failing
spaced-without labels (t ∷ u ∷ ts) spaced = (all-without (AreSetApart labels t) (u ∷ ts) spaced.0, spaced-without labels (u ∷ ts) spaced.1)

-- the last one, after others
pub without-last : (ts : List Try) (t : Try) → without_cut (ts ++ t ∷ []) ≡ (if t.failing then ts ++ t ∷ [] else ts)
without-last [] t = refl
without-last (u ∷ []) t = by t.failing
  where
    by : (b : Bool) → u ∷ (if b then t ∷ [] else []) ≡ (if b then u ∷ t ∷ [] else u ∷ [])
    by true = refl
    by false = refl
without-last (u ∷ v ∷ ts) t = ap (λ (xs : List Try). u ∷ xs) (without-last (v ∷ ts) t) ∙ by t.failing
  where
    by : (b : Bool) → u ∷ (if b then v ∷ ts ++ t ∷ [] else v ∷ ts) ≡ (if b then u ∷ v ∷ ts ++ t ∷ [] else u ∷ v ∷ ts)
    by true = refl
    by false = refl

last-of : (ts : List Try) → (ts ≡ []) ⊎ ((front : List Try) × (u : Try) × (ts ≡ front ++ u ∷ []))
last-of [] = inl refl
last-of (t ∷ ts) = elim (last-of ts) [
  | inl none ↦ inr ([], t, ap (λ (xs : List Try). t ∷ xs) none)
  | inr k ↦ inr (t ∷ k.0, k.1, ap (λ (xs : List Try). t ∷ xs) k.2)
]

module _ (front : List Try) (u : Try) where
  long : length (front ++ u ∷ []) ≡ length front + 1
  long = length-append front (u ∷ [])

  place : length (front ++ u ∷ []) - 1 ≡ length front
  place = let is = long in omega (arith, is)

  at-last : slice_get (front ++ u ∷ []) (length (front ++ u ∷ []) - 1) ≡ Some u
  at-last =
      let is = long in
      ap (slice_get (front ++ u ∷ [])) place ∙ slice_get-get_or (front ++ u ∷ []) (length front) u (omega (arith, is))
      ∙ ap (λ (x : Try). Some x) (get_or_push front u u (length front) refl)

  but-last : take (length (front ++ u ∷ []) - 1) (front ++ u ∷ []) ≡ front
  but-last =
      ap (λ (n : ℕ). take n (front ++ u ∷ [])) place ∙ take-append-le (length front) front (u ∷ []) (omega arith)
      ∙ take_all (length front) front (omega arith)

-- what stands last was cut off, or failed; or there is nothing
module _ (ts : List Try) where
  abbrev Ends : Option Try → Type 0
  Ends o = slice_get ts (length ts - 1) ≡ o

  by-last : (P : List Try → Type 0) (t : Try) → Ends (Some t) → ((front : List Try) → P (front ++ t ∷ [])) → P ts
  by-last P t ends go = elim (last-of ts) [
    | inl none ↦ absurd (
        let short : length ts ≡ 0 = ap length none in
        let clash : None ≡ Some t = sym (slice_get_past ts (length ts - 1) (omega (arith, short))) ∙ ends in
        cc)
    | inr k ↦
        let both : ◌≡◌ {A = Option Try} (Some k.1) (Some t) =
        sym (at-last k.0 k.1) ∙ ap (λ (xs : List Try). slice_get xs (length xs - 1)) (sym k.2) ∙ ends in
        let same : k.1 ≡ t = cc in
        subst P (sym k.2) (subst (λ (u : Try). P (k.0 ++ u ∷ [])) (sym same) (go k.0))
  ]

  pub cut-yes : (t : Try) → Ends (Some t) → not t.failing ≡ true → take (length ts - 1) ts ≡ without_cut ts
  cut-yes t ends gone =
      by-last (λ xs. take (length xs - 1) xs ≡ without_cut xs) t ends
      (λ front. but-last front t ∙ sym (without-last front t ∙ ap (λ (b : Bool). if b then front ++ t ∷ [] else front) (not-true t.failing gone)))

  pub cut-no : (t : Try) → Ends (Some t) → not t.failing ≡ false → ts ≡ without_cut ts
  cut-no t ends stays =
      by-last (λ xs. xs ≡ without_cut xs) t ends
      (λ front. sym (without-last front t ∙ ap (λ (b : Bool). if b then front ++ t ∷ [] else front) (not-false t.failing stays)))

  pub cut-none : Ends None → ts ≡ without_cut ts
  cut-none ends = elim (last-of ts) [
    | inl none ↦ subst (λ (xs : List Try). xs ≡ without_cut xs) (sym none) refl
    | inr k ↦ absurd (
        let clash : None ≡ Some k.1 = sym ends ∙ ap (λ (xs : List Try). slice_get xs (length xs - 1)) k.2 ∙ at-last k.0 k.1 in
        cc)
  ]

-- those that are left failed
failed-without : (n : ℕ) (ts : List Try) → AreFailedTries ts ⊎ CutAt n ts → AreFailedTries (without_cut ts)
failed-without n ts (inl failing) = all-without (λ t. t.failing ≡ true) ts failing
failed-without n ts (inr cut) =
    subst (λ (us : List Try). AreFailedTries us) (sym (ap without_cut cut.parts ∙ without-last cut.front cut.last)) (by cut.last.failing refl)
  where
    push : (us : List Try) → AreFailedTries us → cut.last.failing ≡ true → AreFailedTries (us ++ cut.last ∷ [])
    push [] all is = (is, tt)
    push (u ∷ us) all is = (all.0, push us all.1 is)

    by : (b : Bool) → cut.last.failing ≡ b → AreFailedTries (if b then cut.front ++ cut.last ∷ [] else cut.front)
    by true is = push cut.front cut.failing is
    by false is = cut.failing

abbrev pub without : CourseView → CourseView
without r = record r { tries = without_cut r.tries }

module _ (r : CourseView) (x : CanBeEnded r) where
  pub failed-left : AreFailedTries (without_cut r.tries)
  failed-left = failed-without r.play.settled r.tries x.cut

  pub ends-without : CanBeEnded (without r)
  ends-without = record {
    played = x.played;
    kept = record {
      order = order-without 0 (length r.play.labels) r.tries x.kept.order;
      hold = all-without (HoldsAfter r.play.program r.play.labels) r.tries x.kept.hold;
      spaced = spaced-without r.play.labels r.tries x.kept.spaced;
      put = all-without (IsAsideSince r.play.labels (λ i. true)) r.tries x.kept.put;
    };
    settled = all-without (λ t. t.after ≤ r.play.settled) r.tries x.settled;
    few = x.few;
    cut = inl failed-left;
  }
