-- A type that the table gives is had.
use Rattle.std.proofs.Common.{◌≡◌, ℕ, ◌+◌, Option, Ok, sym, ap, subst, ◌∙◌, inl, inr}
use Rattle.ame_term.specs.Tree.{Typ, OwnName, Val, Tree, Trees}
use Rattle.ame_term.specs.Signature.{unlisted}
use Rattle.ame_term.specs.SourceTerm.{nodes}
use Rattle.ame_term.specs.Shown.{misplaced_unprotected}
use Rattle.ame_term.specs.Scope.{Scope, within, unscoped, bind}
use Rattle.ame_term.specs.Typing.{typed, typed_parts, typed_value, want_unit, cell_type}
use Rattle.ame_term.specs.HasType.{HasType, HasLast, HasValue, held, name, function, recursive, binding, sequence, choice, async, unprotected, one, two, last, more, unit, bool, int, location, function_value, recursive_value, pair}
use Rattle.ame_term.specs.declared.types.Sort.{Sort}
use Rattle.ame_term.specs.declared.types.Effect.{Effect}
use Rattle.ame_laws.proofs.Tests.{then-gave, want-gave, want_unit-gave, want_effect-gave, given, known-gave, cell-gave, function-gave, unary-gave, binary-gave}

module _ (devices : ℕ) (cells : ℕ → Option (Sort × Typ)) where
  abbrev Gives : (ℕ → ℕ) → Scope → Effect → ℕ → Tree → Typ → Type 0
  Gives places g q i e t = typed devices cells places g q i e ≡ Ok t

  -- a part with a type that is known by another name
  as_type : (places : ℕ → ℕ) (g : Scope) (q : Effect) (i : ℕ) (e : Tree) (t u : Typ) → Gives places g q i e t → t ≡ u → Gives places g q i e u
  as_type places g q i e t u h p = h ∙ ap Ok p

  mutual
    unfolding typed

    pub sound : (places : ℕ → ℕ) (g : Scope) (q : Effect) (i : ℕ) (e : Tree) (t : Typ) → Gives places g q i e t → HasType (unlisted devices) cells g q e t
    sound places g q i (Tree.Held v) t h = held (sound_value (places i) v t h)
    sound places g q i (Tree.Var x) t h = name (known-gave (places i) (g x) t h)
    sound places g q i (Tree.Lambda head body) t h =
        elim (function-gave head.own head.effect head.param_type (places (i + 1))
        (typed devices cells places (within head.effect head.own head.param head.param_type g) head.effect (i + 1) body) t h) [
          | inl p ↦
              let k = subst (λ (o : Option OwnName). typed devices cells places (within head.effect o head.param head.param_type g) head.effect (i + 1) body ≡ Ok p.1.0) p.0 p.1.1 in
              subst (λ (x : Typ). HasType (unlisted devices) cells g q (Tree.Lambda head body) x) (sym p.1.2)
              (function p.0 (sound places (bind head.param head.param_type g) head.effect (i + 1) body p.1.0 k))
          | inr p ↦
              let k = subst (λ (o : Option OwnName). typed devices cells places (within head.effect o head.param head.param_type g) head.effect (i + 1) body ≡ Ok p.0.result) p.1 p.2 in
              subst (λ (x : Typ). HasType (unlisted devices) cells g q (Tree.Lambda head body) x) (sym p.3)
              (recursive p.1
              (sound places (bind head.param head.param_type (bind p.0.name (Typ.Fun head.effect head.param_type p.0.result) g)) head.effect (i + 1) body p.0.result k))
        ]
    sound places g q i (Tree.Let x bound body) t h =
        let k = then-gave (typed devices cells places g q (i + 1) bound)
        (λ u. typed devices cells places (bind x u g) q (i + 1 + nodes bound) body) t h in
        binding (sound places g q (i + 1) bound k.0 k.1) (sound places (bind x k.0 g) q (i + 1 + nodes bound) body t k.2)
    sound places g q i (Tree.Do parts) t h = sequence (sound_parts places g q (i + 1) parts t h)
    sound places g q i (Tree.If test a b) t h =
        let k = then-gave (typed devices cells places g q (i + 1) test) _ t h in
        let w = want-gave (places (i + 1)) k.0 Typ.Bool _ t k.2 in
        let m = then-gave (typed devices cells places g q (i + 1 + nodes test) a) _ t w.1 in
        let n = then-gave (typed devices cells places g q (i + 1 + nodes test + nodes a) b) _ t m.2 in
        let v = want-gave (places (i + 1 + nodes test + nodes a)) n.0 m.0 _ t n.2 in
        let same : m.0 ≡ t = given m.0 t v.1 in
        choice
        (sound places g q (i + 1) test Typ.Bool (as_type places g q (i + 1) test k.0 Typ.Bool k.1 w.0))
        (sound places g q (i + 1 + nodes test) a t (as_type places g q (i + 1 + nodes test) a m.0 t m.1 same))
        (sound places g q (i + 1 + nodes test + nodes a) b t (as_type places g q (i + 1 + nodes test + nodes a) b n.0 t n.1 (v.0 ∙ same)))
    sound places g q i (Tree.Async e) t h =
        let k = then-gave (typed devices cells places g Effect.Protected (i + 1) e) _ t h in
        let w = want_unit-gave (places (i + 1)) k.0 _ t k.2 in
        subst (λ (x : Typ). HasType (unlisted devices) cells g q (Tree.Async e) x) (given Typ.Unit t w.1)
        (async (sound places g Effect.Protected (i + 1) e Typ.Unit (as_type places g Effect.Protected (i + 1) e k.0 Typ.Unit k.1 w.0)))
    sound places g q i (Tree.Unprotected e) t h =
        let p = want_effect-gave misplaced_unprotected (places i) q Effect.Protected _ t h in
        subst (λ (x : Effect). HasType (unlisted devices) cells g x (Tree.Unprotected e) t) (sym p.0)
        (unprotected (sound places g Effect.Unprotected (i + 1) e t p.1))
    sound places g q i (Tree.One form e) t h =
        let k = unary-gave devices form (places i) (places (i + 1)) q (typed devices cells places g q (i + 1) e) t h in
        one k.2 (sound places g q (i + 1) e k.0 k.1)
    sound places g q i (Tree.Two form a b) t h =
        let k = binary-gave form (places i) (places (i + 1)) (places (i + 1 + nodes a)) q
        (typed devices cells places g q (i + 1) a) (typed devices cells places g q (i + 1 + nodes a) b) t h in
        two k.4 (sound places g q (i + 1) a k.0 k.2) (sound places g q (i + 1 + nodes a) b k.1 k.3)

    pub sound_parts : (places : ℕ → ℕ) (g : Scope) (q : Effect) (i : ℕ) (parts : Trees) (t : Typ) →
        typed_parts devices cells places g q i parts ≡ Ok t → HasLast (unlisted devices) cells g q parts t
    sound_parts places g q i Trees.None t h = cc
    sound_parts places g q i (Trees.More e Trees.None) t h = last (sound places g q i e t h)
    sound_parts places g q i (Trees.More e (Trees.More f rest)) t h =
        let k = then-gave (typed devices cells places g q i e)
        (λ u. want_unit (places i) u (typed_parts devices cells places g q (i + nodes e) (Trees.More f rest))) t h in
        let w = want_unit-gave (places i) k.0 (typed_parts devices cells places g q (i + nodes e) (Trees.More f rest)) t k.2 in
        more (sound places g q i e Typ.Unit (as_type places g q i e k.0 Typ.Unit k.1 w.0))
        (sound_parts places g q (i + nodes e) (Trees.More f rest) t w.1)

    pub sound_value : (at : ℕ) (v : Val) (t : Typ) → typed_value devices cells at v ≡ Ok t → HasValue (unlisted devices) cells v t
    sound_value at Val.Unit t h = subst (λ (x : Typ). HasValue (unlisted devices) cells Val.Unit x) (given Typ.Unit t h) unit
    sound_value at (Val.Bool b) t h = subst (λ (x : Typ). HasValue (unlisted devices) cells (Val.Bool b) x) (given Typ.Bool t h) bool
    sound_value at (Val.Int n) t h = subst (λ (x : Typ). HasValue (unlisted devices) cells (Val.Int n) x) (given Typ.Int t h) int
    sound_value at (Val.Loc l) t h =
        let c = cell-gave (cells l) t (known-gave at (cell_type (cells l)) t h) in
        subst (λ (x : Typ). HasValue (unlisted devices) cells (Val.Loc l) x) (sym c.3) (location c.2)
    sound_value at (Val.Fun head body) t h =
        elim (function-gave head.own head.effect head.param_type at
        (typed devices cells (λ _. at) (within head.effect head.own head.param head.param_type unscoped) head.effect 0 body) t h) [
          | inl p ↦
              let k = subst (λ (o : Option OwnName). typed devices cells (λ _. at) (within head.effect o head.param head.param_type unscoped) head.effect 0 body ≡ Ok p.1.0) p.0 p.1.1 in
              subst (λ (x : Typ). HasValue (unlisted devices) cells (Val.Fun head body) x) (sym p.1.2)
              (function_value p.0 (sound (λ _. at) (bind head.param head.param_type unscoped) head.effect 0 body p.1.0 k))
          | inr p ↦
              let k = subst (λ (o : Option OwnName). typed devices cells (λ _. at) (within head.effect o head.param head.param_type unscoped) head.effect 0 body ≡ Ok p.0.result) p.1 p.2 in
              subst (λ (x : Typ). HasValue (unlisted devices) cells (Val.Fun head body) x) (sym p.3)
              (recursive_value p.1
              (sound (λ _. at) (bind head.param head.param_type (bind p.0.name (Typ.Fun head.effect head.param_type p.0.result) unscoped)) head.effect 0 body p.0.result k))
        ]
    sound_value at (Val.Pair a b) t h =
        let k = then-gave (typed_value devices cells at a) _ t h in
        let m = then-gave (typed_value devices cells at b) _ t k.2 in
        subst (λ (x : Typ). HasValue (unlisted devices) cells (Val.Pair a b) x) (given (Typ.Pair k.0 m.0) t m.2)
        (pair (sound_value at a k.0 k.1) (sound_value at b m.0 m.1))
