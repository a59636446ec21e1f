-- Some busy member is at work on a seat.
use Rattle.std.proofs.Common.{◌≡◌, ℕ, ◌<◌, ◌≤◌, ◌==◌, ◌||◌, ◌⊎◌, inl, inr, Bool, true, false, cond, List, [], ◌∷◌, length, All, Option, Some, None, IsTrue, IsSomeAnd, option_map, refl, sym, ap, ◌∙◌, subst, arith}
use Rattle.std.specs.List.{list_any}
use Rattle.std.proofs.lemmas.Bool.{cases_Bool, cases_lt, eqb-true}
use Rattle.std.proofs.lemmas.List.{get_or_past}
use Rattle.ame_term.specs.Tree.{Tree}
use Rattle.ame_pool.specs.declared.member.Member.{Member}
use Rattle.ame_pool.specs.Members.{IsRising, find, is_busy}
use Rattle.ame_pool.specs.Calls.{IsAt}
use Rattle.ame_pool.specs.Roster.{Roster}
use Rattle.ame_pool.proofs.MemberLemmas.{find_number, find_passes}
use Rattle.ame_protocol.specs.declared.types.Task.{Task}
use Rattle.ame_protocol.specs.Engine.Parts.{task_at, member_of}
use Rattle.ame_protocol.specs.Engine.Shown.{shown_member, shown_pool}
use Rattle.ame_protocol.proofs.Engine.ShownPoolLemmas.{found-shown}

module _ {M : Type 0} where
  abbrev IsBusyAt : ℕ → List (Member M) → Type 0
  IsBusyAt number ms = IsSomeAnd (find number ms) (λ m. IsTrue (is_busy m))

  here : (m : Member M) (ms : List (Member M)) → IsTrue (is_busy m) → IsBusyAt m.number (m ∷ ms)
  here m ms busy = subst (λ (b : Bool). IsSomeAnd (cond b (Some m) (find m.number ms)) (λ x. IsTrue (is_busy x))) (sym (same m.number)) busy
    where
      same : (n : ℕ) → (n == n) ≡ true
      same n = grind arith

  -- a member that is found after it has a higher number
  above : (m : Member M) (ms : List (Member M)) (number : ℕ) → All (λ k. m.number < k.number) ms → IsBusyAt number ms → IsBusyAt number (m ∷ ms)
  above m ms number low at = by (cases_Bool (m.number == number))
    where
      higher : (o : Option (Member M)) → find number ms ≡ o → IsSomeAnd o (λ x. IsTrue (is_busy x)) → m.number < number
      higher None e h = absurd h
      higher (Some x) e h =
          let its = find_passes (λ (k : Member M). m.number < k.number) number ms low x e in
          let is = find_number number ms x e in omega (arith, its, is)

      by : ((m.number == number) ≡ true) ⊎ ((m.number == number) ≡ false) → IsBusyAt number (m ∷ ms)
      by (inl same) = let equal = eqb-true m.number number same in let high = higher (find number ms) refl at in absurd (omega (arith, equal, high))
      by (inr apart) = subst (λ (b : Bool). IsSomeAnd (cond b (Some m) (find number ms)) (λ x. IsTrue (is_busy x))) (sym apart) at

  pub busy-there : (ms : List (Member M)) → IsRising ms → IsTrue (list_any is_busy ms) → (number : ℕ) × IsBusyAt number ms
  busy-there [] rising some = absurd (let clash : false ≡ true = some in cc)
  busy-there (m ∷ ms) rising some = by (is_busy m) refl (λ later. busy-there ms rising.1 later)
    where
      by : (b : Bool) → is_busy m ≡ b → (IsTrue (list_any is_busy ms) → (number : ℕ) × IsBusyAt number ms) → (number : ℕ) × IsBusyAt number (m ∷ ms)
      by true e behind = (m.number, here m ms e)
      by false e behind =
          let rest = behind (subst (λ (b : Bool). IsTrue (b || list_any is_busy ms)) e some) in
          (rest.0, above m ms rest.0 rising.0 rest.1)

module _ {M : Type 0} (term : M → Tree) where
  shown-by : (o : Option (Member M)) → IsSomeAnd o (λ m. IsTrue (is_busy m)) → IsSomeAnd (option_map (shown_member term) o) (λ m. IsTrue (is_busy m))
  shown-by None h = h
  shown-by (Some m) h = h

  pub busy-shown : (number : ℕ) (pool : Roster M) → IsSomeAnd (find number pool.members) (λ m. IsTrue (is_busy m)) → IsAt is_busy number (shown_pool term pool)
  busy-shown number pool h =
      subst (λ (o : Option (Member Tree)). IsSomeAnd o (λ m. IsTrue (is_busy m))) (sym (found-shown term number pool.members))
      (shown-by (find number pool.members) h)

-- who has a member at work isn't idle, and is one of the seats
pub busy-seat : (tasks : List Task) (seat number : ℕ) → member_of (task_at tasks seat) ≡ Some number → (task_at tasks seat ≡ Task.Idle → ⊥) × (seat < length tasks)
busy-seat tasks seat number has = (busy, by (cases_lt seat (length tasks)))
  where
    busy : task_at tasks seat ≡ Task.Idle → ⊥
    busy idle = let clash : ◌≡◌ {A = Option ℕ} None (Some number) = sym (ap member_of idle) ∙ has in cc

    by : (seat < length tasks) ⊎ (length tasks ≤ seat) → seat < length tasks
    by (inl below) = below
    by (inr above) = absurd (busy (get_or_past tasks seat Task.Idle above))
