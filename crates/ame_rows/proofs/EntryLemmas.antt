-- The entries of an undo log: which location each names, and that none is named twice.
use Rattle.std.proofs.Common.{◌≡◌, ◌≢◌, ◌==◌, ℕ, ◌-◌, true, false, cond, List, [], ◌∷◌, ◌++◌, length, take, Some, None, slice_get, sym, refl, ap, ◌∙◌, arith}
use Rattle.std.proofs.Common.{length-append, inl, inr, ⊎_elim}
use Rattle.std.specs.Prelude.{nat_eq, nat_lt, ◌⊎◌}
use Rattle.std.specs.List.{IsDistinct, AllByRecursion}
use Rattle.std.proofs.lemmas.Bool.{eqb-false, eq-eqb, ne_eqb, ltb-false}
use Rattle.std.proofs.lemmas.List.{take_at}
use Rattle.ame_rows.specs.declared.notes.Undo.{Undo}
use Rattle.ame_rows.specs.MemoryView.{Log}
use Rattle.ame_rows.specs.Entries.{named_by, places, entry_at}
use Rattle.ame_rows.specs.LettingGo.{last_entry, but_last, notes_undone}
use Rattle.ame_rows.proofs.LookupLemmas.{get_push_here}

module _ {V : Type 0} where
  -- ---- the entry in front
  pub entry_head : (u : Undo V) (us : List (Undo V)) → entry_at (u ∷ us) (named_by u) ≡ Some u
  entry_head u us = ap (λ b. cond b (Some u) (entry_at us (named_by u))) (eq-eqb (named_by u) (named_by u) refl)

  pub entry_tail : (u : Undo V) (us : List (Undo V)) (l : ℕ) → l ≢ named_by u → entry_at (u ∷ us) l ≡ entry_at us l
  entry_tail u us l n = ap (λ b. cond b (Some u) (entry_at us l)) (ne_eqb (named_by u) l (λ e. n (sym e)))

  -- ---- the entry at the end
  pub entry_push_else : (us : List (Undo V)) (u : Undo V) (l : ℕ) → l ≢ named_by u → entry_at (us ++ u ∷ []) l ≡ entry_at us l
  entry_push_else [] u l n = entry_tail u [] l n
  entry_push_else (x ∷ us) u l n = ap (λ o. cond (named_by x == l) (Some x) o) (entry_push_else us u l n)

  pub entry_push_here : (us : List (Undo V)) (u : Undo V) → entry_at us (named_by u) ≡ None → entry_at (us ++ u ∷ []) (named_by u) ≡ Some u
  entry_push_here [] u = λ _. entry_head u []
  entry_push_here (x ∷ us) u =
      elim (named_by x == named_by u) as (λ b. cond b (Some x) (entry_at us (named_by u)) ≡ None
      → cond b (Some x) (entry_at (us ++ u ∷ []) (named_by u)) ≡ Some u) [
        | true ↦ λ e. cc
        | false ↦ λ e. entry_push_here us u e
      ]

  -- ---- none is named twice
  -- an entry that is alone
  apart_entry : (p : ℕ) (us : List (Undo V)) → AllByRecursion (λ q. nat_eq p q ≡ false) (places us) → entry_at us p ≡ None
  apart_entry p [] h = refl
  apart_entry p (u ∷ us) h =
      ap (λ b. cond b (Some u) (entry_at us p)) (ne_eqb (named_by u) p (λ e. eqb-false p (named_by u) h.0 (sym e))) ∙ apart_entry p us h.1

  pub once_tail : (u : Undo V) (us : List (Undo V)) → IsDistinct nat_eq (places (u ∷ us)) → IsDistinct nat_eq (places us) × (entry_at us (named_by u) ≡ None)
  unfolding IsDistinct
  once_tail u us h = (h.1, apart_entry (named_by u) us h.0)

  apart_front : (p : ℕ) (us : List (Undo V)) (u : Undo V) → AllByRecursion (λ q. nat_eq p q ≡ false) (places (us ++ u ∷ []))
      → AllByRecursion (λ q. nat_eq p q ≡ false) (places us) × (p ≢ named_by u)
  apart_front p [] u h = (tt, eqb-false p (named_by u) h.0)
  apart_front p (x ∷ us) u h = let rest = apart_front p us u h.1 in ((h.0, rest.0), rest.1)

  apart_push : (p : ℕ) (us : List (Undo V)) (u : Undo V) → AllByRecursion (λ q. nat_eq p q ≡ false) (places us) → p ≢ named_by u
      → AllByRecursion (λ q. nat_eq p q ≡ false) (places (us ++ u ∷ []))
  apart_push p [] u h n = (ne_eqb p (named_by u) n, tt)
  apart_push p (x ∷ us) u h n = (h.0, apart_push p us u h.1 n)

  pub once_front : (us : List (Undo V)) (u : Undo V) → IsDistinct nat_eq (places (us ++ u ∷ []))
      → IsDistinct nat_eq (places us) × (entry_at us (named_by u) ≡ None)
  unfolding IsDistinct
  once_front [] u h = (tt, refl)
  once_front (x ∷ us) u h =
      let front = apart_front (named_by x) us u h.0 in
      let rest = once_front us u h.1 in
      ((front.0, rest.0), entry_tail x us (named_by u) (λ e. front.1 (sym e)) ∙ rest.1)

  pub once_push : (us : List (Undo V)) (u : Undo V) → IsDistinct nat_eq (places us) → entry_at us (named_by u) ≡ None
      → IsDistinct nat_eq (places (us ++ u ∷ []))
  unfolding IsDistinct
  once_push [] u h e = (tt, tt)
  once_push (x ∷ us) u h e =
      elim (named_by x == named_by u) as (λ b. (named_by x == named_by u) ≡ b → cond b (Some x) (entry_at us (named_by u)) ≡ None
      → IsDistinct nat_eq (places ((x ∷ us) ++ u ∷ []))) [
        | true ↦ λ t e. cc
        | false ↦ λ t e. (apart_push (named_by x) us u h.0 (eqb-false (named_by x) (named_by u) t), once_push us u h.1 e)
      ] refl e

  -- ---- the last entry
  pub last_is : (us : List (Undo V)) (u : Undo V) → last_entry (us ++ u ∷ []) ≡ Some u
  last_is us u =
      let n : length (us ++ u ∷ []) - 1 ≡ length us = omega (arith, length-append us (u ∷ [])) in
      ap (slice_get (us ++ u ∷ [])) n ∙ get_push_here us u

  pub but_last_is : (us : List (Undo V)) (u : Undo V) → but_last (us ++ u ∷ []) ≡ us
  but_last_is us u = take_at us (u ∷ []) (length (us ++ u ∷ []) - 1) (omega (arith, length-append us (u ∷ [])))

  pub undos_undone : (notes : Log V) → (notes_undone notes).undos ≡ but_last notes.undos
  undos_undone notes =
      elim (nat_lt 1 (length notes.undos)) as (λ b. nat_lt 1 (length notes.undos) ≡ b
      → (cond b (record notes { undos = but_last notes.undos }) (record { reads = []; inputs = []; undos = [] })).undos ≡ but_last notes.undos) [
        | true ↦ λ t. refl
        | false ↦ λ t. let n : 0 ≡ length notes.undos - 1 = omega (arith, ltb-false 1 (length notes.undos) t) in ap (λ m. take m notes.undos) n
      ] refl

  -- a log is empty, or has a last entry
  pub split_last : (us : List (Undo V)) → (us ≡ []) ⊎ ((front : List (Undo V)) × (u : Undo V) × (us ≡ front ++ u ∷ []))
  split_last [] = inl refl
  split_last (x ∷ us) =
      ⊎_elim (λ (e : us ≡ []). inr ([], x, ap (λ l. x ∷ l) e))
      (λ (s : (front : List (Undo V)) × (u : Undo V) × (us ≡ front ++ u ∷ [])). inr (x ∷ s.0, s.1, ap (λ l. x ∷ l) s.2))
      (split_last us)
