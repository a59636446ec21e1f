-- Members of a pool, by the terms for which their machines stand.
use Rattle.std.proofs.Common.{◌≡◌, ℕ, ◌==◌, Bool, true, false, cond, List, [], ◌∷◌, Option, Some, None, IsTrue, IsSomeAnd, option_map, refl, sym, ap, ◌∙◌, subst}
use Rattle.std.specs.Prelude.{unwrap_or}
use Rattle.std.specs.List.{All}
use Rattle.std.proofs.lemmas.List.Elements.{All-cons, All-head, All-tail}
use Rattle.ame_term.specs.Tree.{Tree}
use Rattle.ame_pool.specs.declared.member.Member.{Member}
use Rattle.ame_pool.specs.Members.{find, altered, is_ready}
use Rattle.ame_pool.specs.Roster.{Roster}
use Rattle.ame_pool.specs.Calls.{IsAt, machine_of}
use Rattle.ame_pool.specs.Keeps.{is_inside_at}
use Rattle.ame_protocol.specs.Engine.Shown.{shown_member, shown_pool}
use Rattle.ame_protocol.proofs.Engine.ShownPoolLemmas.{found-shown, inside-shown}

module _ {M : Type 0} where
  -- what all members pass, all pass once one is altered, if that one does then
  pub all_altered : (n : ℕ) (f : Member M → Member M) (P : Member M → Type 0) → ((m : Member M) → P m → P (f m)) → (ms : List (Member M))
      → All P ms → All P (altered n f ms)
  all_altered n f P keeps [] all = all
  all_altered n f P keeps (o ∷ ms) all =
      let head = All-head P o ms all in let tail = All-tail P o ms all in
      elim (o.number == n) as (λ b. All P (cond b (f o ∷ ms) (o ∷ altered n f ms))) [
        | true ↦ All-cons P (f o) ms (keeps o head) tail
        | false ↦ All-cons P o (altered n f ms) head (all_altered n f P keeps ms tail)
      ]

  -- A member is inside as its entry in the list says.
  pub inside-told : (ms : List (Member M)) (n : ℕ) → is_inside_at ms n ≡ unwrap_or (option_map (λ (m : Member M). m.inside) (find n ms)) false
  inside-told ms n = by (find n ms)
    where
      by : (o : Option (Member M)) → (elim o [ None ↦ false | Some m ↦ m.inside ]) ≡ unwrap_or (option_map (λ (m : Member M). m.inside) o) false
      by None = refl
      by (Some m) = refl

  -- a ready member has a machine
  pub ready-machine : (n : ℕ) (pool : Roster M) → IsAt is_ready n pool → (x : M) × (machine_of n pool ≡ Some x)
  ready-machine n pool ready = by (find n pool.members) ready
    where
      by : (o : Option (Member M)) → IsSomeAnd o (λ m. IsTrue (is_ready m)) → (x : M) × (option_map (λ (m : Member M). m.machine) o ≡ Some x)
      by None h = absurd h
      by (Some m) h = (m.machine, refl)

module _ {M : Type 0} (term : M → Tree) where
  pub inside-same : (n : ℕ) (pool : Roster M) → is_inside_at (shown_pool term pool).members n ≡ is_inside_at pool.members n
  inside-same n pool =
      inside-told (shown_pool term pool).members n ∙ ap (λ (o : Option Bool). unwrap_or o false) (inside-shown term n pool) ∙ sym (inside-told pool.members n)

  ready-by : (o : Option (Member M)) → IsSomeAnd o (λ m. IsTrue (is_ready m)) → IsSomeAnd (option_map (shown_member term) o) (λ m. IsTrue (is_ready m))
  ready-by None h = h
  ready-by (Some m) h = h

  pub ready-same : (n : ℕ) (pool : Roster M) → IsAt is_ready n pool → IsAt is_ready n (shown_pool term pool)
  ready-same n pool h =
      subst (λ (o : Option (Member Tree)). IsSomeAnd o (λ m. IsTrue (is_ready m))) (sym (found-shown term n pool.members)) (ready-by (find n pool.members) h)
