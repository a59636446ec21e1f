-- A program whose `ref` forms are numbered in reading order is typed with the list of what they store.
use Rattle.std.proofs.Common.{◌≡◌, ℕ, ◌+◌, ◌++◌, List, [], Option, Ok, length, ap, subst, ◌∙◌, arith}
use Rattle.std.specs.Prelude.{slice_get}
use Rattle.ame_term.specs.Tree.{Typ, OwnName, Val, Tree, Trees}
use Rattle.ame_term.specs.SourceTerm.{nodes, IsConstant, IsSourceTerm, AreSourceTerms}
use Rattle.ame_term.specs.Numbered.{own_ref_count, ref_count, all_ref_count, HasRefNumber, IsNumbered, AreNumbered}
use Rattle.ame_term.specs.Scope.{Scope, bind, within}
use Rattle.ame_term.specs.Signature.{unlisted, listed}
use Rattle.ame_term.specs.Shown.{TypeOutcome}
use Rattle.ame_term.specs.Typing.{under, own_ref_type, ref_types_in, ref_types_in_parts}
use Rattle.ame_term.specs.HasType.{HasUnary, HasType, HasLast, HasValue}
use Rattle.ame_term.specs.declared.types.Sort.{Sort}
use Rattle.ame_term.specs.declared.types.Effect.{Effect}
use Rattle.ame_term.specs.declared.types.Unary.{Unary}
use Rattle.ame_term.specs.declared.types.Unary.TheVariants as unary
use Rattle.ame_laws.proofs.Complete.{complete}
use Rattle.ame_laws.specs.Next.{ComeNext}
use Rattle.ame_laws.proofs.NextLemmas.{front_next, behind_next, third_next, first_stands, rest_next}
use Rattle.ame_laws.proofs.RefsLemmas.{forms_counted, refs_had, refs_counted}

module _ (devices : ℕ) (refs : List Typ) (cells : ℕ → Option (Sort × Typ)) where
  abbrev computed : (ℕ → ℕ) → Scope → Effect → ℕ → Tree → List Typ
  computed places g q i e = ref_types_in devices cells places g q i e

  many : {g : Scope} {q : Effect} {e : Tree} {t : Typ} → HasType (unlisted devices) cells g q e t → (places : ℕ → ℕ) (i : ℕ)
      → length (computed places g q i e) ≡ ref_count e
  many {e = e} h places i = refs_counted (unlisted devices) cells (refs_had (unlisted devices) cells h places i) ∙ forms_counted e

  constant : {v : Val} {t : Typ} → IsConstant v → HasValue (unlisted devices) cells v t → HasValue (listed devices refs) cells v t
  constant c HasValue.unit = HasValue.unit
  constant c HasValue.bool = HasValue.bool
  constant c HasValue.int = HasValue.int
  constant c (HasValue.location is) = absurd (c)
  constant c (HasValue.function_value p h) = absurd (c)
  constant c (HasValue.recursive_value p h) = absurd (c)
  constant c (HasValue.pair a b) = absurd (c)

  own_listed : {op : Unary} {q : Effect} {t u : Typ} (k : ℕ) (others : List Typ) → HasUnary (unlisted devices) op q t u → HasRefNumber op k
      → ComeNext refs k (own_ref_type devices cells op (Ok t) others) → HasUnary (listed devices refs) op q t u
  own_listed k others HasUnary.negation numbered next = HasUnary.negation
  own_listed k others (HasUnary.reference {number = number} {t = t} may) numbered next =
      HasUnary.reference (ap (slice_get refs) numbered ∙ first_stands refs k t others next)
  own_listed k others (HasUnary.get is) numbered next = HasUnary.get is
  own_listed k others HasUnary.peek numbered next = HasUnary.peek
  own_listed k others HasUnary.block numbered next = HasUnary.block
  own_listed k others HasUnary.print numbered next = HasUnary.print
  own_listed k others (HasUnary.call below) numbered next = HasUnary.call below
  own_listed k others HasUnary.first numbered next = HasUnary.first
  own_listed k others HasUnary.second numbered next = HasUnary.second

  own_others : (op : Unary) (k : ℕ) (t : Typ) (others : List Typ) → ComeNext refs k (own_ref_type devices cells op (Ok t) others)
      → ComeNext refs (k + own_ref_count op) others
  own_others (unary.Ref sort number) k t others next = rest_next refs k t others next
  own_others _ k t others next = subst (λ (n : ℕ). ComeNext refs n others) (omega arith) next

  mutual
    unfolding ref_types_in ref_types_in_parts IsSourceTerm AreSourceTerms IsNumbered AreNumbered ref_count all_ref_count

    pub listed_type : {g : Scope} {q : Effect} {e : Tree} {t : Typ} → HasType (unlisted devices) cells g q e t → IsSourceTerm e → (places : ℕ → ℕ) (i k : ℕ) → IsNumbered k e
        → ComeNext refs k (ref_types_in devices cells places g q i e) → HasType (listed devices refs) cells g q e t
    listed_type (HasType.held h) source places i k numbered next = HasType.held (constant source h)
    listed_type (HasType.name is) source places i k numbered next = HasType.name is
    listed_type (HasType.function {g} {q} {head} {body} p h) source places i k numbered next =
        HasType.function p (listed_type h source places (i + 1) k numbered
        (subst (λ (o : Option OwnName). ComeNext refs k (computed places (within head.effect o head.param head.param_type g) head.effect (i + 1) body)) p next))
    listed_type (HasType.recursive {g} {q} {head} {own} {body} p h) source places i k numbered next =
        HasType.recursive p (listed_type h source places (i + 1) k numbered
        (subst (λ (o : Option OwnName). ComeNext refs k (computed places (within head.effect o head.param head.param_type g) head.effect (i + 1) body)) p next))
    listed_type (HasType.binding {g} {q} {x} {bound} {body} {t} hb he) source places i k numbered next =
        let first = computed places g q (i + 1) bound in
        let second = computed places (bind x t g) q (i + 1 + nodes bound) body in
        let both = subst
        (λ (o : TypeOutcome). ComeNext refs k (first ++ under devices cells o (λ u. computed places (bind x u g) q (i + 1 + nodes bound) body)))
        (complete (unlisted devices) cells hb places (i + 1)) next in
        HasType.binding (listed_type hb source.0 places (i + 1) k numbered.0 (front_next refs k first second both))
        (listed_type he source.1 places (i + 1 + nodes bound) (k + ref_count bound) numbered.1
        (behind_next refs k (ref_count bound) first second (many hb places (i + 1)) both))
    listed_type (HasType.sequence h) source places i k numbered next = HasType.sequence (listed_last h source.1 places (i + 1) k numbered next)
    listed_type (HasType.choice {g} {q} {test} {then_part} {else_part} ht ha hb) source places i k numbered next =
        let first = computed places g q (i + 1) test in
        let second = computed places g q (i + 1 + nodes test) then_part in
        let third = computed places g q (i + 1 + nodes test + nodes then_part) else_part in
        let begins = front_next refs k (first ++ second) third next in
        HasType.choice (listed_type ht source.0 places (i + 1) k numbered.0 (front_next refs k first second begins))
        (listed_type ha source.1 places (i + 1 + nodes test) (k + ref_count test) numbered.1
        (behind_next refs k (ref_count test) first second (many ht places (i + 1)) begins))
        (listed_type hb source.2 places (i + 1 + nodes test + nodes then_part) (k + ref_count test + ref_count then_part) numbered.2
        (third_next refs k (ref_count test) (ref_count then_part) first second third (many ht places (i + 1)) (many ha places (i + 1 + nodes test)) next))
    listed_type (HasType.async h) source places i k numbered next = HasType.async (listed_type h source places (i + 1) k numbered next)
    listed_type (HasType.unprotected h) source places i k numbered next = HasType.unprotected (listed_type h source places (i + 1) k numbered next)
    listed_type (HasType.one {g} {q} {op} {e} {t} row h) source places i k numbered next =
        let others = computed places g q (i + 1) e in
        let here = subst (λ (o : TypeOutcome). ComeNext refs k (own_ref_type devices cells op o others))
        (complete (unlisted devices) cells h places (i + 1)) next in
        HasType.one (own_listed k others row numbered.0 here)
        (listed_type h source places (i + 1) (k + own_ref_count op) numbered.1 (own_others op k t others here))
    listed_type (HasType.two {g} {q} {e = left} {f = right} row ha hb) source places i k numbered next =
        let first = computed places g q (i + 1) left in
        let second = computed places g q (i + 1 + nodes left) right in
        HasType.two row (listed_type ha source.0 places (i + 1) k numbered.0 (front_next refs k first second next))
        (listed_type hb source.1 places (i + 1 + nodes left) (k + ref_count left) numbered.1
        (behind_next refs k (ref_count left) first second (many ha places (i + 1)) next))

    listed_last : {g : Scope} {q : Effect} {parts : Trees} {t : Typ} → HasLast (unlisted devices) cells g q parts t → AreSourceTerms parts → (places : ℕ → ℕ) (i k : ℕ) → AreNumbered k parts
        → ComeNext refs k (ref_types_in_parts devices cells places g q i parts) → HasLast (listed devices refs) cells g q parts t
    listed_last (HasLast.last {g} {q} {e} h) source places i k numbered next =
        HasLast.last (listed_type h source.0 places i k numbered.0 (front_next refs k (computed places g q i e) [] next))
    listed_last (HasLast.more {g} {q} {e} {f} {rest} h hs) source places i k numbered next =
        let first = computed places g q i e in
        let others = ref_types_in_parts devices cells places g q (i + nodes e) (Trees.More f rest) in
        HasLast.more (listed_type h source.0 places i k numbered.0 (front_next refs k first others next))
        (listed_last hs source.1 places (i + nodes e) (k + ref_count e) numbered.1 (behind_next refs k (ref_count e) first others (many h places i) next))
