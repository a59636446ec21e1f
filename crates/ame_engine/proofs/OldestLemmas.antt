-- The member that begins is the same by the terms of the members.
use Rattle.std.proofs.Common.{◌≡◌, ℕ, ◌&&◌, ◌||◌, Bool, cond, List, [], ◌∷◌, ◌++◌, map, Option, Some, None, option_map, refl, sym, ap, ◌∙◌}
use Rattle.std.specs.List.{list_any, list_all}
use Rattle.std.proofs.lemmas.List.{map-append}
use Rattle.std.proofs.lemmas.List.Folds.{list_all-map}
use Rattle.ame_term.specs.Tree.{Tree}
use Rattle.ame_pool.specs.declared.member.Member.{Member}
use Rattle.ame_pool.specs.declared.oldest.Oldest.{Oldest}
use Rattle.ame_pool.specs.Members.{find, is_busy, is_parked}
use Rattle.ame_pool.specs.Roster.{Roster}
use Rattle.ame_pool.specs.Begin.{is_protected, is_exhausted_protected, some_busy, may_begin_beside, may_begin, first_to_begin, members_of, oldest_or_wait, oldest}
use Rattle.ame_protocol.specs.Engine.Shown.{shown_member, shown_pool}
use Rattle.ame_protocol.proofs.Engine.ShownPoolLemmas.{found-shown}

module _ {M : Type 0} (term : M → Tree) where
  abbrev show : Member M → Member Tree
  show m = shown_member term m

  -- tests that don't look at the machine
  some-shown : (p : Member Tree → Bool) (q : Member M → Bool) → ((m : Member M) → p (show m) ≡ q m) → (ms : List (Member M))
      → list_any p (map show ms) ≡ list_any q ms
  some-shown p q same [] = refl
  some-shown p q same (m ∷ ms) = ap (λ (b : Bool). b || list_any p (map show ms)) (same m) ∙ ap (λ (b : Bool). q m || b) (some-shown p q same ms)

  may-shown : (ms older : List (Member M)) (m : Member M) → may_begin (map show ms) (map show older) (show m) ≡ may_begin ms older m
  may-shown ms older m =
      ap (λ (b : Bool). may_begin_beside b (some_busy is_exhausted_protected (map show ms)) (list_any is_exhausted_protected (map show older)) m)
      (some-shown (λ x. is_busy x && is_protected x) (λ x. is_busy x && is_protected x) (λ x. refl) ms)
      ∙ ap (λ (b : Bool). may_begin_beside (some_busy is_protected ms) b (list_any is_exhausted_protected (map show older)) m)
      (some-shown (λ x. is_busy x && is_exhausted_protected x) (λ x. is_busy x && is_exhausted_protected x) (λ x. refl) ms)
      ∙ ap (λ (b : Bool). may_begin_beside (some_busy is_protected ms) (some_busy is_exhausted_protected ms) b m)
      (some-shown is_exhausted_protected is_exhausted_protected (λ x. refl) older)

  first-shown : (ms older ready : List (Member M)) → first_to_begin (map show ms) (map show older) (map show ready) ≡ first_to_begin ms older ready
  first-shown ms older [] = refl
  first-shown ms older (m ∷ ready) =
      ap (λ (b : Bool). cond b (Some m.number) (first_to_begin (map show ms) (map show older ++ show m ∷ []) (map show ready))) (may-shown ms older m)
      ∙ ap (λ (o : Option ℕ). cond (may_begin ms older m) (Some m.number) o)
      (ap (λ (xs : List (Member Tree)). first_to_begin (map show ms) xs (map show ready)) (sym (map-append show older (m ∷ [])))
      ∙ first-shown ms (older ++ m ∷ []) ready)

  members-shown : (ms : List (Member M)) (ns : List ℕ) → members_of (map show ms) ns ≡ map show (members_of ms ns)
  members-shown ms [] = refl
  members-shown ms (n ∷ ns) =
      ap (λ (o : Option (Member Tree)). elim o as (λ _. List (Member Tree)) [ None ↦ members_of (map show ms) ns | Some m ↦ m ∷ members_of (map show ms) ns ])
      (found-shown term n ms)
      ∙ by (find n ms) (members-shown ms ns)
    where
      by : (o : Option (Member M)) → members_of (map show ms) ns ≡ map show (members_of ms ns)
          → (elim (option_map show o) as (λ _. List (Member Tree)) [ None ↦ members_of (map show ms) ns | Some m ↦ m ∷ members_of (map show ms) ns ])
          ≡ map show (elim o as (λ _. List (Member M)) [ None ↦ members_of ms ns | Some m ↦ m ∷ members_of ms ns ])
      by None rest = rest
      by (Some m) rest = ap (λ (xs : List (Member Tree)). show m ∷ xs) rest

  -- where some member is there
  abbrev told : Roster M → Oldest
  told pool = cond (list_all is_parked pool.members) Oldest.Parked (oldest_or_wait (first_to_begin pool.members [] (members_of pool.members pool.order)))

  abbrev shown : Roster M → Oldest
  shown pool = cond (list_all is_parked (map show pool.members)) Oldest.Parked
      (oldest_or_wait (first_to_begin (map show pool.members) [] (members_of (map show pool.members) pool.order)))

  told-shown : (pool : Roster M) → shown pool ≡ told pool
  told-shown pool =
      ap (λ (b : Bool). cond b Oldest.Parked (oldest_or_wait (first_to_begin (map show pool.members) [] (members_of (map show pool.members) pool.order))))
      (list_all-map is_parked show pool.members)
      ∙ ap (λ (o : Option ℕ). cond (list_all is_parked pool.members) Oldest.Parked (oldest_or_wait o))
      (ap (first_to_begin (map show pool.members) []) (members-shown pool.members pool.order) ∙ first-shown pool.members [] (members_of pool.members pool.order))

  pub oldest-shown : (pool : Roster M) → oldest (shown_pool term pool) ≡ oldest pool
  oldest-shown pool = by pool.members (told-shown pool)
    where
      by : (ms : List (Member M)) → shown pool ≡ told pool
          → (elim (map (shown_member term) ms) as (λ _. Oldest) [ [] ↦ Oldest.Empty | _ ∷ _ ↦ shown pool ])
          ≡ (elim ms as (λ _. Oldest) [ [] ↦ Oldest.Empty | _ ∷ _ ↦ told pool ])
      by [] same = refl
      by (m ∷ ms) same = same
