-- The rule, as a seat reads it.
use Rattle.std.proofs.Common.{◌≡◌, ◌≢◌, ◌⊎◌, ℕ, zero, suc, ◌<◌, ◌≤◌, Bool, true, false, true≢false, List, [], ◌∷◌, length, Option, None, IsSome, is_some, sym, refl, ap, ◌∙◌, ⊎_elim}
use mathlib.Core.Option.{some, some-injective, some-ne-none}
use lib.ListN.{get_elem?}
use Rattle.ame_baton.specs.declared.view.Knows.{Knows}
use Rattle.ame_baton.specs.Rule.{nothing_known, Truth, Agrees, IsOpen, Turns}

pub not_none : {F : Type 0} (o : Option F) → IsSome o → o ≡ None → ⊥
not_none o is e = true≢false (sym is ∙ ap is_some e)

pub not_both : (b : Bool) → b ≡ true → b ≡ false → ⊥
not_both b t f = true≢false (sym t ∙ f)

pub false_where_not : (b : Bool) → (b ≡ true → ⊥) → b ≡ false
false_where_not true n = absurd (n refl)
false_where_not false n = refl

abbrev pub Place : ℕ → ℕ → Type 0
Place ended place = (place ≡ 0) ⊎ (ended < place)

module _ {S F R E : Type 0} (stands_for : S → F → List R → List E → Type 0) (empty : R) (seat_of : E → ℕ) where
  abbrev pub Open : Truth F R E → List S → List (Knows F R E) → Type 0
  Open t items views = IsOpen stands_for empty seat_of t items views

  abbrev pub Rule : List S → List (Knows F R E) → Type 0
  Rule items views = Turns stands_for empty seat_of items views

  only_nothing : (port : ℕ) (v : Knows F R E) → IsSome v.fixed → get_elem? (nothing_known empty ∷ []) port ≡ some v → ⊥
  only_nothing zero v is at = not_none v.fixed is (sym (ap (λ (k : Knows F R E). k.fixed) (some-injective (nothing_known empty) v at)))
  only_nothing (suc port) v is at = some-ne-none v (sym at)

  -- if there is a seat, the turn was opened
  pub opened : (items : List S) (views : List (Knows F R E)) (port : ℕ) (v : Knows F R E) → IsSome v.fixed → Rule items views → get_elem? views port ≡ some v → (t : Truth F R E) × Open t items views
  opened items views port v is h at = ⊎_elim (λ (x : (items ≡ []) × (views ≡ nothing_known empty ∷ [])). absurd (only_nothing port v is (sym (ap (λ l. get_elem? l port) x.1) ∙ at)))
      (λ (x : (t : Truth F R E) × Open t items views). x) h

  -- and its view agrees
  pub seated : (t : Truth F R E) (items : List S) (views : List (Knows F R E)) (port : ℕ) (v : Knows F R E) → IsSome v.fixed → Open t items views → get_elem? views port ≡ some v
      → Place (length t.ended) port × Agrees seat_of t port v
  seated t items views port v is o at = ⊎_elim (λ (x : (0 < port) × (port ≤ length t.ended) × (v.fixed ≡ None) × (v.holds ≡ false)). absurd (not_none v.fixed is x.2))
      (λ (x : Place (length t.ended) port × Agrees seat_of t port v). x) (o.each port v at)

  pub beyond : (ended place : ℕ) → Place ended place → place ≢ 0 → ended < place
  beyond ended place p ne = ⊎_elim (λ (z : place ≡ 0). absurd (ne z)) (λ (lt : ended < place). lt) p

  pub not_holder : (views : List (Knows F R E)) (holder port : ℕ) (k v : Knows F R E) → get_elem? views holder ≡ some k → k.holds ≡ true → get_elem? views port ≡ some v → v.holds ≡ false → holder ≢ port
  not_holder views holder port k v there holds at free e =
      not_both v.holds (ap (λ (u : Knows F R E). u.holds) (some-injective v k (sym at ∙ (ap (λ j. get_elem? views j) (sym e) ∙ there))) ∙ holds) free
