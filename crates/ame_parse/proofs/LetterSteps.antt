-- The outcomes of reading effects, sorts, device numbers and operators.
use Rattle.std.proofs.Common.{◌≡◌, ℕ, ◌<◌, ◌==◌, ℤ, pos, negsuc, Bool, true, false, cond, refl, subst, sym, Some, None, codes}
use Rattle.std.proofs.lemmas.Slice.Eq.{bytes_eq-Decides}
use Rattle.std.specs.Prelude.{nat_lt}
use Rattle.std.specs.Str.{bytes_eq}
use borrow.Author.Tests.{ltb-true}
use Rattle.ame_lex.specs.Bytes.{Text}
use Rattle.ame_term.specs.declared.types.Sort.{Sort}
use Rattle.ame_term.specs.declared.types.Sort.TheVariants as sorts
use Rattle.ame_term.specs.declared.types.Effect.{Effect}
use Rattle.ame_term.specs.declared.types.Effect.TheVariants as effects
use Rattle.ame_term.specs.declared.types.TyNo.{TyNo}
use Rattle.ame_term.specs.declared.types.Op.{Op}
use Rattle.ame_term.specs.Operators.{operator_of}
use Rattle.ame_term.proofs.OperatorLemmas.{found-spells}
use Rattle.ame_parse.specs.declared.ahead.Ahead.{Ahead}
use Rattle.ame_parse.specs.declared.ahead.Ahead.TheVariants as a
use Rattle.ame_parse.specs.Input.{Input, Parser, ◌>>=◌, ahead, spelling, advanced, ref_number, ref_counted}
use Rattle.ame_parse.specs.Letters.{sort_of, effect_named, small, device_of, sort_by, effect_by, device_by, sort, numbered_sort, effect_word, device}
use Rattle.ame_parse.specs.Grammar as g
use Rattle.ame_parse.specs.Grammar.{IsSort, IsEffect, IsOp}
use Rattle.ame_parse.proofs.Steps.{Leads, leads_pure, leads_on, leads_at}

spelled_so : (text word : Text) → bytes_eq text word ≡ true → text ≡ word
spelled_so text word e = (bytes_eq-Decides text word).0 e

sort_test : (i : Input) (p u : Bool) → bytes_eq (spelling i) (codes "p") ≡ p → bytes_eq (spelling i) (codes "u") ≡ u
    → Leads (sort_by (cond p (Some sorts.Protected) (cond u (Some sorts.Unprotected) None))) i (λ s j. IsSort i s × (advanced i ≡ j))
sort_test i true u e e' = leads_pure sorts.Protected (advanced i) (λ s j. IsSort i s × (advanced i ≡ j)) (IsSort.protected (spelled_so (spelling i) (codes "p") e), refl)
sort_test i false true e e' = leads_pure sorts.Unprotected (advanced i) (λ s j. IsSort i s × (advanced i ≡ j)) (IsSort.unprotected (spelled_so (spelling i) (codes "u") e'), refl)
sort_test i false false e e' = λ x j read. absurd (cc)

pub leads_sort : {B : Type 0} (f : Sort → Parser B) (Q : B → Input → Type 0) (i : Input) → ((s : Sort) → IsSort i s → Leads (f s) (advanced i) Q) → Leads (sort >>= f) i Q
unfolding sort sort_of
leads_sort f Q i next = leads_at sort f (IsSort i) (advanced i) Q i
    (sort_test i (bytes_eq (spelling i) (codes "p")) (bytes_eq (spelling i) (codes "u")) refl refl) next

effect_test : (i : Input) (p u e : Bool) → bytes_eq (spelling i) (codes "p") ≡ p → bytes_eq (spelling i) (codes "u") ≡ u → bytes_eq (spelling i) (codes "a") ≡ e
    → Leads (effect_by (cond p (Some effects.Protected) (cond u (Some effects.Unprotected) (cond e (Some effects.Either) None)))) i (λ q j. IsEffect i q × (advanced i ≡ j))
effect_test i true u e h h' h'' = leads_pure effects.Protected (advanced i) (λ q j. IsEffect i q × (advanced i ≡ j)) (IsEffect.protected (spelled_so (spelling i) (codes "p") h), refl)
effect_test i false true e h h' h'' = leads_pure effects.Unprotected (advanced i) (λ q j. IsEffect i q × (advanced i ≡ j)) (IsEffect.unprotected (spelled_so (spelling i) (codes "u") h'), refl)
effect_test i false false true h h' h'' = leads_pure effects.Either (advanced i) (λ q j. IsEffect i q × (advanced i ≡ j)) (IsEffect.either (spelled_so (spelling i) (codes "a") h''), refl)
effect_test i false false false h h' h'' = λ x j read. absurd (cc)

-- the sort of a `ref` form, which is counted
pub leads_numbered_sort : {B : Type 0} (f : Sort × TyNo → Parser B) (Q : B → Input → Type 0) (i : Input)
    → ((s : Sort) → IsSort i s → Leads (f (s, ref_number (advanced i))) (ref_counted (advanced i)) Q) → Leads (numbered_sort >>= f) i Q
unfolding numbered_sort
leads_numbered_sort f Q i next =
    let P = λ (p : Sort × TyNo) (j : Input). IsSort i p.0 × ((p.0, ref_number (advanced i)) ≡ p) × (ref_counted (advanced i) ≡ j) in
    leads_on numbered_sort f P Q i (leads_sort _ P i (λ s is. leads_pure (s, ref_number (advanced i)) (ref_counted (advanced i)) P (is, refl, refl)))
    (λ p j h. subst (λ q. Leads (f q) j Q) h.1 (subst (λ k. Leads (f (p.0, ref_number (advanced i))) k Q) h.2 (next p.0 h.0)))

pub leads_effect : {B : Type 0} (f : Effect → Parser B) (Q : B → Input → Type 0) (i : Input) → ((q : Effect) → IsEffect i q → Leads (f q) (advanced i) Q) → Leads (effect_word >>= f) i Q
unfolding effect_word effect_named
leads_effect f Q i next = leads_at effect_word f (IsEffect i) (advanced i) Q i
    (effect_test i (bytes_eq (spelling i) (codes "p")) (bytes_eq (spelling i) (codes "u")) (bytes_eq (spelling i) (codes "a")) refl refl refl) next

-- a device's number comes next
pub record IsDevice (i : Input) (device : ℕ) : Type 0 where
  pub stands : ahead i ≡ a.Number (pos device)
  pub below : device < 256

device_test : (i : Input) (n : ℕ) (b : Bool) → ahead i ≡ a.Number (pos n) → nat_lt n 256 ≡ b → Leads (device_by (cond b (Some n) None)) i (λ d j. IsDevice i d × (advanced i ≡ j))
device_test i n true e test = leads_pure n (advanced i) (λ d j. IsDevice i d × (advanced i ≡ j)) (record { stands = e; below = ltb-true n 256 test }, refl)
device_test i n false e test = λ x j read. absurd (cc)

small_leads : (i : Input) (value : ℤ) → ahead i ≡ a.Number value → Leads (device_by (small value)) i (λ d j. IsDevice i d × (advanced i ≡ j))
small_leads i (pos n) e = device_test i n (nat_lt n 256) e refl
small_leads i (negsuc n) e = λ x j read. absurd (cc)

device_leads_by : (next : Ahead) (i : Input) → ahead i ≡ next → Leads (device_by (device_of next)) i (λ d j. IsDevice i d × (advanced i ≡ j))
unfolding device_of
device_leads_by (a.Number value) i e = small_leads i value e
device_leads_by _ i e = λ x j read. absurd (cc)

pub leads_device : {B : Type 0} (f : ℕ → Parser B) (Q : B → Input → Type 0) (i : Input) → ((d : ℕ) → IsDevice i d → Leads (f d) (advanced i) Q) → Leads (device >>= f) i Q
unfolding device
leads_device f Q i next = leads_at device f (IsDevice i) (advanced i) Q i (device_leads_by (ahead i) i refl) next

pub op_is : (s : ℕ) (o : Op) → operator_of s ≡ Some o → IsOp s o
op_is s o e = subst (λ (byte : ℕ). IsOp byte o) (found-spells s o e) (g.spells o)
