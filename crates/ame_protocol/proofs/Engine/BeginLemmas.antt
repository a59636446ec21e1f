-- The members that may begin.
use Rattle.std.proofs.Common.{◌≡◌, ℕ, ◌==◌, ◌&&◌, ◌||◌, Bool, true, false, not, cond, List, [], ◌∷◌, ◌++◌, Option, Some, None, refl, sym, ap, ◌∙◌}
use Rattle.std.specs.List.{list_any, list_all}
use Rattle.ame_term.specs.Tree.{Tree}
use Rattle.ame_pool.specs.declared.member.Member.{Member}
use Rattle.ame_pool.specs.declared.oldest.Oldest.{Oldest}
use Rattle.ame_pool.specs.Members.{find, is_busy, is_parked}
use Rattle.ame_pool.specs.Roster.{Roster}
use Rattle.ame_pool.specs.Begin.{is_protected, is_exhausted, is_exhausted_protected, some_busy, may_begin, first_to_begin, members_of, oldest_or_wait, oldest}
use Rattle.ame_pool.proofs.MemberLemmas.{find_number}

-- A member may begin, and some members are older.
pub record Begins (ms : List (Member Tree)) (k : ℕ) : Type 0 where
  pub older : List (Member Tree)
  pub member : Member Tree
  pub found : find k ms ≡ Some member
  pub may : may_begin ms older member ≡ true

-- the first one that may begin, among the members with these numbers
first-begins : (ms : List (Member Tree)) (ns : List ℕ) (older : List (Member Tree)) (k : ℕ) → first_to_begin ms older (members_of ms ns) ≡ Some k → Begins ms k
first-begins ms [] older k e = cc
first-begins ms (n ∷ ns) older k e = by (find n ms) refl e (λ older rest. first-begins ms ns older k rest)
  where
    begins : (m : Member Tree) → find n ms ≡ Some m → may_begin ms older m ≡ true → Some m.number ≡ Some k → Begins ms k
    begins m is may same =
        let number : m.number ≡ k = cc in
        record { older = older; member = m; found = ap (λ (x : ℕ). find x ms) (sym number ∙ find_number n ms m is) ∙ is; may = may }

    choose : (m : Member Tree) → find n ms ≡ Some m → (b : Bool) → may_begin ms older m ≡ b
        → cond b (Some m.number) (first_to_begin ms (older ++ m ∷ []) (members_of ms ns)) ≡ Some k
        → ((more : List (Member Tree)) → first_to_begin ms more (members_of ms ns) ≡ Some k → Begins ms k) → Begins ms k
    choose m is true may e go = begins m is may e
    choose m is false may e go = go (older ++ m ∷ []) e

    by : (o : Option (Member Tree)) → find n ms ≡ o
        → first_to_begin ms older (elim o [ None ↦ members_of ms ns | Some m ↦ m ∷ members_of ms ns ]) ≡ Some k
        → ((more : List (Member Tree)) → first_to_begin ms more (members_of ms ns) ≡ Some k → Begins ms k) → Begins ms k
    by None is e go = go older e
    by (Some m) is e go = choose m is (may_begin ms older m) refl e go

pub oldest-begins : (pool : Roster Tree) (k : ℕ) → oldest pool ≡ Oldest.Member k → Begins pool.members k
oldest-begins pool k e = by pool.members refl e
  where
    told : (o : Option ℕ) → oldest_or_wait o ≡ Oldest.Member k → o ≡ Some k
    told None e = cc
    told (Some n) e = let same : n ≡ k = cc in ap Some same

    choose : (b : Bool) → cond b Oldest.Parked (oldest_or_wait (first_to_begin pool.members [] (members_of pool.members pool.order))) ≡ Oldest.Member k
        → first_to_begin pool.members [] (members_of pool.members pool.order) ≡ Some k
    choose true e = cc
    choose false e = told (first_to_begin pool.members [] (members_of pool.members pool.order)) e

    by : (ms : List (Member Tree)) → pool.members ≡ ms
        → (elim ms as (λ _. Oldest) [
          | [] ↦ Oldest.Empty
          | _ ∷ _ ↦ cond (list_all is_parked pool.members) Oldest.Parked (oldest_or_wait (first_to_begin pool.members [] (members_of pool.members pool.order)))
        ]) ≡ Oldest.Member k → Begins pool.members k
    by [] is e = cc
    by (m ∷ ms) is e = first-begins pool.members pool.order [] k (choose (list_all is_parked pool.members) e)

-- If no member of a kind is there, none that is found is of it.
pub none-found : (p : Member Tree → Bool) (ms : List (Member Tree)) (i : ℕ) (x : Member Tree) → list_any p ms ≡ false → find i ms ≡ Some x → p x ≡ false
none-found p [] i x none e = cc
none-found p (m ∷ ms) i x none e = by (m.number == i) (p m) refl none e (λ rest found. none-found p ms i x rest found)
  where
    by : (b c : Bool) → p m ≡ c → (c || list_any p ms) ≡ false → cond b (Some m) (find i ms) ≡ Some x
        → (list_any p ms ≡ false → find i ms ≡ Some x → p x ≡ false) → p x ≡ false
    by true true is none e go = cc
    by true false is none e go = let same : m ≡ x = cc in ap p (sym same) ∙ is
    by false true is none e go = cc
    by false false is none e go = go none e

-- If a protected member may begin, this is so of the busy ones.
pub begins-beside : (ms : List (Member Tree)) (k : ℕ) (b : Begins ms k) → b.member.inside ≡ false
    → (i : ℕ) (x : Member Tree) → find i ms ≡ Some x → is_busy x ≡ true → x.inside ≡ false → (is_exhausted b.member || is_exhausted x) ≡ true → ⊥
begins-beside ms k b outside i x found busy its exhausted = by (is_exhausted b.member) refl may exhausted
  where
    may : cond (is_exhausted b.member) (not (some_busy is_protected ms)) (not (some_busy is_exhausted_protected ms) && not (list_any is_exhausted_protected b.older)) ≡ true
    may =
        ap (λ (inside : Bool). cond inside true (cond (is_exhausted b.member) (not (some_busy is_protected ms)) (not (some_busy is_exhausted_protected ms) && not (list_any is_exhausted_protected b.older)))) (sym outside)
        ∙ b.may

    not-true : (c : Bool) → not c ≡ true → c ≡ false
    not-true true e = cc
    not-true false e = refl

    and-left : (c d : Bool) → (c && d) ≡ true → c ≡ true
    and-left true d e = refl
    and-left false d e = cc

    protected-there : (is_busy x && is_protected x) ≡ true
    protected-there = ap (λ (c : Bool). c && not x.inside) busy ∙ ap not its

    exhausted-there : is_exhausted x ≡ true → (is_busy x && (is_protected x && is_exhausted x)) ≡ true
    exhausted-there e = ap (λ (c : Bool). c && (not x.inside && is_exhausted x)) busy ∙ ap (λ (c : Bool). not c && is_exhausted x) its ∙ e

    by : (c : Bool) → is_exhausted b.member ≡ c
        → cond c (not (some_busy is_protected ms)) (not (some_busy is_exhausted_protected ms) && not (list_any is_exhausted_protected b.older)) ≡ true
        → (c || is_exhausted x) ≡ true → ⊥
    by true is e w =
        let none = none-found (λ m. is_busy m && is_protected m) ms i x (not-true (some_busy is_protected ms) e) found in
        let clash : true ≡ false = sym protected-there ∙ none in cc
    by false is e w =
        let none =
        none-found (λ m. is_busy m && is_exhausted_protected m) ms i x
        (not-true (some_busy is_exhausted_protected ms) (and-left (not (some_busy is_exhausted_protected ms)) (not (list_any is_exhausted_protected b.older)) e)) found in
        let clash : true ≡ false = sym (exhausted-there w) ∙ none in cc
