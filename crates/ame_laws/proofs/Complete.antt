-- A type that is had is given by the table, at all places.
use Rattle.std.proofs.Common.{◌≡◌, ℕ, ◌+◌, Option, Ok, refl, sym, subst, ◌∙◌}
use Rattle.ame_term.specs.Tree.{Typ, OwnName, Val, Tree, Trees}
use Rattle.ame_term.specs.Signature.{Signature}
use Rattle.ame_term.specs.SourceTerm.{nodes}
use Rattle.ame_term.specs.Scope.{Scope, within, unscoped}
use Rattle.ame_term.specs.Typing.{typed, typed_parts, typed_value, function_row, same_type}
use Rattle.ame_term.specs.HasType.{HasType, HasLast, HasValue, held, name, function, recursive, binding, sequence, choice, async, unprotected, one, two, last, more, unit, bool, int, location, function_value, recursive_value, pair}
use Rattle.ame_term.specs.declared.types.Sort.{Sort}
use Rattle.ame_term.specs.declared.types.Effect.{Effect}
use Rattle.ame_laws.proofs.Tests.{same_type-refl, given, unary-gives, binary-gives}

module _ (signature : Signature) (cells : ℕ → Option (Sort × Typ)) where
  mutual
    unfolding typed same_type

    pub complete : {g : Scope} {q : Effect} {e : Tree} {t : Typ} → HasType signature cells g q e t → (places : ℕ → ℕ) (i : ℕ) → typed signature.devices cells places g q i e ≡ Ok t
    complete (held h) places i = complete_value h (places i)
    complete (name e) places i = rw e refl
    complete (function {g} {q} {head} {body} {u} p h) places i =
        subst
        (λ (o : Option OwnName).
        function_row o head.effect head.param_type (places (i + 1))
        (typed signature.devices cells places (within head.effect o head.param head.param_type g) head.effect (i + 1) body) ≡ Ok (Typ.Fun head.effect head.param_type u))
        (sym p) (rw (complete h places (i + 1)) refl)
    complete (recursive {g} {q} {head} {own} {body} p h) places i =
        subst
        (λ (o : Option OwnName).
        function_row o head.effect head.param_type (places (i + 1))
        (typed signature.devices cells places (within head.effect o head.param head.param_type g) head.effect (i + 1) body) ≡ Ok (Typ.Fun head.effect head.param_type own.result))
        (sym p) (rw (complete h places (i + 1)) (rw (same_type-refl own.result) refl))
    complete (binding {g} {q} {x} {bound} {body} hb he) places i =
        rw (complete hb places (i + 1)) (complete he places (i + 1 + nodes bound))
    complete (sequence h) places i = complete_last h places (i + 1)
    complete (choice {g} {q} {test} {then_part} {else_part} {t} ht ha hb) places i =
        rw (complete ht places (i + 1))
        (rw (complete ha places (i + 1 + nodes test)) (rw (complete hb places (i + 1 + nodes test + nodes then_part)) (rw (same_type-refl t) refl)))
    complete (async h) places i = rw (complete h places (i + 1)) refl
    complete (unprotected h) places i = complete h places (i + 1)
    complete (one row h) places i = rw (complete h places (i + 1)) (unary-gives signature row (places i) (places (i + 1)))
    complete (two {e = left} row ha hb) places i =
        rw (complete ha places (i + 1)) (rw (complete hb places (i + 1 + nodes left)) (binary-gives row (places i) (places (i + 1)) (places (i + 1 + nodes left))))

    pub complete_last : {g : Scope} {q : Effect} {parts : Trees} {t : Typ} → HasLast signature cells g q parts t → (places : ℕ → ℕ) (i : ℕ) → typed_parts signature.devices cells places g q i parts ≡ Ok t
    complete_last (last h) places i = complete h places i
    complete_last (more {g} {q} {e} h hs) places i = rw (complete h places i) (complete_last hs places (i + nodes e))

    pub complete_value : {v : Val} {t : Typ} → HasValue signature cells v t → (at : ℕ) → typed_value signature.devices cells at v ≡ Ok t
    complete_value unit at = refl
    complete_value bool at = refl
    complete_value int at = refl
    complete_value (location p) at = rw p refl
    complete_value (function_value {head} {body} {u} p h) at =
        subst
        (λ (o : Option OwnName).
        function_row o head.effect head.param_type at
        (typed signature.devices cells (λ _. at) (within head.effect o head.param head.param_type unscoped) head.effect 0 body) ≡ Ok (Typ.Fun head.effect head.param_type u))
        (sym p) (rw (complete h (λ _. at) 0) refl)
    complete_value (recursive_value {head} {own} {body} p h) at =
        subst
        (λ (o : Option OwnName).
        function_row o head.effect head.param_type at
        (typed signature.devices cells (λ _. at) (within head.effect o head.param head.param_type unscoped) head.effect 0 body) ≡ Ok (Typ.Fun head.effect head.param_type own.result))
        (sym p) (rw (complete h (λ _. at) 0) (rw (same_type-refl own.result) refl))
    complete_value (pair ha hb) at = rw (complete_value ha at) (rw (complete_value hb at) refl)

  pub unique : {g : Scope} {q : Effect} {e : Tree} {t u : Typ} → HasType signature cells g q e t → HasType signature cells g q e u → t ≡ u
  unique h k = given _ _ (sym (complete h (λ _. 0) 0) ∙ complete k (λ _. 0) 0)
