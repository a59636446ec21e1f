-- The members' rollbacks after each event.
use Rattle.std.proofs.Common.{◌≡◌, ℕ, ◌+◌, ◌<◌, ◌⊎◌, inl, inr, true, false, List, [], ◌∷◌, map, min, Option, Some, None, refl, sym, ap, ◌∙◌, subst, arith}
use Rattle.std.specs.Prelude.{option_map, unwrap_or, IsSomeAnd}
use Rattle.std.proofs.lemmas.List.Sums.{sum_by-cons}
use Rattle.std.proofs.lemmas.Bool.Decides.{nat_tests}
use Rattle.ame_term.specs.Tree.{Tree}
use Rattle.ame_pool.specs.declared.member.Member.{Member}
use Rattle.ame_pool.specs.Members.{IsRising, find, altered, placed, except}
use Rattle.ame_pool.specs.Roster.{Roster}
use Rattle.ame_pool.specs.Standings.{max_rollbacks}
use Rattle.ame_pool.specs.Waking.{stirred_by}
use Rattle.ame_pool.specs.Calls.{newcomer, joined, woken, at_home}
use Rattle.ame_pool.proofs.MemberLemmas.{find_map, found_altered, found_placed, found_except}
use Rattle.ame_protocol.proofs.Row.CellLemmas.{which}
use Rattle.ame_protocol.specs.Engine.Events.{woken_for, with_newcomers}
use Rattle.ame_protocol.proofs.Engine.GrowthLemmas.{IsFreeFrom, joined-free}
use Rattle.ame_protocol.specs.Bounds.Rollbacks.{rollbacks_in}

-- Returns the rollbacks of a member that was looked for.
abbrev pub told_of : Option (Member Tree) → ℕ
told_of o = unwrap_or (option_map (λ (m : Member Tree). m.rollbacks) o) 0

-- it may be rolled back once more
abbrev pub MayTurn : Option (Member Tree) → Type 0
MayTurn o = IsSomeAnd o (λ m. m.rollbacks < max_rollbacks)

-- Sums

sum-more : (m : Member Tree) (ms : List (Member Tree)) → rollbacks_in (m ∷ ms) ≡ m.rollbacks + rollbacks_in ms
sum-more m ms = sum_by-cons (λ m. m.rollbacks) m ms

sum-altered : (n : ℕ) (f : Member Tree → Member Tree) → ((m : Member Tree) → (f m).number ≡ m.number) → (ms : List (Member Tree))
    → rollbacks_in (altered n f ms) + told_of (find n ms) ≡ rollbacks_in ms + told_of (find n (altered n f ms))
sum-altered n f num [] = refl
sum-altered n f num (o ∷ ms) = grind (arith, nat_tests, num o, sum-more (f o) ms, sum-more o (altered n f ms), sum-more o ms, sum-altered n f num ms)

sum-placed : (new : Member Tree) (ms : List (Member Tree)) → rollbacks_in (placed new ms) ≡ rollbacks_in ms + new.rollbacks
sum-placed new [] = omega (arith, sum-more new [])
sum-placed new (o ∷ ms) = grind (arith, nat_tests, sum-more new (o ∷ ms), sum-more o (placed new ms), sum-more o ms, sum-placed new ms)

sum-except : (n : ℕ) (ms : List (Member Tree)) → rollbacks_in (except n ms) + told_of (find n ms) ≡ rollbacks_in ms
sum-except n [] = refl
sum-except n (o ∷ ms) = grind (arith, nat_tests, sum-more o (except n ms), sum-more o ms, sum-except n ms)

sum-stirred : (l : ℕ) (ms : List (Member Tree)) → rollbacks_in (map (stirred_by l) ms) ≡ rollbacks_in ms
sum-stirred l [] = refl
sum-stirred l (o ∷ ms) =
    sum-more (stirred_by l o) (map (stirred_by l) ms) ∙ ap (λ n. o.rollbacks + n) (sum-stirred l ms) ∙ sym (sum-more o ms)

-- An event changes the rollbacks of one member, or of none.

pub record Rolls (old new : List (Member Tree)) (number : ℕ) : Type 0 where
  pub sum : rollbacks_in new + told_of (find number old) ≡ rollbacks_in old + told_of (find number new)
  pub others : (i : ℕ) → (i ≡ number → ⊥) → told_of (find i new) ≡ told_of (find i old)
  pub kept : (i : ℕ) → (i ≡ number → ⊥) → MayTurn (find i old) → MayTurn (find i new)

pub record Unrolled (old new : List (Member Tree)) : Type 0 where
  pub sum : rollbacks_in new ≡ rollbacks_in old
  pub all : (i : ℕ) → told_of (find i new) ≡ told_of (find i old)
  pub kept : (i : ℕ) → MayTurn (find i old) → MayTurn (find i new)

pub unrolled-same : (ms : List (Member Tree)) → Unrolled ms ms
unrolled-same ms = record { sum = refl; all = λ i. refl; kept = λ i h. h }

pub unrolled-on : (old mid new : List (Member Tree)) → Unrolled old mid → Unrolled mid new → Unrolled old new
unrolled-on old mid new a b = record { sum = b.sum ∙ a.sum; all = λ i. b.all i ∙ a.all i; kept = λ i h. b.kept i (a.kept i h) }

pub then-rolls : (old mid new : List (Member Tree)) (number : ℕ) → Unrolled old mid → Rolls mid new number → Rolls old new number
then-rolls old mid new number a b = record {
  sum = let x = b.sum in let y = a.sum in let z = a.all number in omega arith;
  others = λ i apart. b.others i apart ∙ a.all i;
  kept = λ i apart h. b.kept i apart (a.kept i h);
}

module _ (n : ℕ) (f : Member Tree → Member Tree) (num : (m : Member Tree) → (f m).number ≡ m.number) (ms : List (Member Tree)) where
  pub altered-rolls : Rolls ms (altered n f ms) n
  altered-rolls =
      let found = found_altered n f num ms in
      record {
        sum = sum-altered n f num ms;
        others = λ i apart. ap told_of (found.others i apart);
        kept = λ i apart h. subst MayTurn (sym (found.others i apart)) h;
      }

  module _ (same : (m : Member Tree) → (f m).rollbacks ≡ m.rollbacks) where
    told-same : (o : Option (Member Tree)) → told_of (option_map f o) ≡ told_of o
    told-same None = refl
    told-same (Some m) = same m

    may-same : (o : Option (Member Tree)) → MayTurn o → MayTurn (option_map f o)
    may-same None h = h
    may-same (Some m) h = subst (λ (x : ℕ). x < max_rollbacks) (sym (same m)) h

    at-same : told_of (find n (altered n f ms)) ≡ told_of (find n ms)
    at-same = ap told_of (found_altered n f num ms).here ∙ told-same (find n ms)

    pub altered-unrolled : Unrolled ms (altered n f ms)
    altered-unrolled = record {
      sum = let x = sum-altered n f num ms in let y = at-same in omega arith;
      all = λ i. all-same i (which i n);
      kept = λ i h. kept-same i (which i n) h;
    }
      where
        all-same : (i : ℕ) → (i ≡ n) ⊎ ((i ≡ n) → ⊥) → told_of (find i (altered n f ms)) ≡ told_of (find i ms)
        all-same i (inl one) = subst (λ (k : ℕ). told_of (find k (altered n f ms)) ≡ told_of (find k ms)) (sym one) at-same
        all-same i (inr apart) = ap told_of ((found_altered n f num ms).others i apart)

        kept-same : (i : ℕ) → (i ≡ n) ⊎ ((i ≡ n) → ⊥) → MayTurn (find i ms) → MayTurn (find i (altered n f ms))
        kept-same i (inl one) h =
            subst (λ (k : ℕ). MayTurn (find k (altered n f ms))) (sym one)
            (subst MayTurn (sym (found_altered n f num ms).here) (may-same (find n ms) (subst (λ (k : ℕ). MayTurn (find k ms)) one h)))
        kept-same i (inr apart) h = subst MayTurn (sym ((found_altered n f num ms).others i apart)) h

pub except-rolls : (n : ℕ) (ms : List (Member Tree)) → IsRising ms → Rolls ms (except n ms) n
except-rolls n ms rising =
    let found = found_except n ms rising in
    record {
      sum = let x = sum-except n ms in let y : told_of (find n (except n ms)) ≡ 0 = ap told_of found.here in omega arith;
      others = λ i apart. ap told_of (found.others i apart);
      kept = λ i apart h. subst MayTurn (sym (found.others i apart)) h;
    }

pub except-none : (n : ℕ) (ms : List (Member Tree)) → IsRising ms → told_of (find n (except n ms)) ≡ 0
except-none n ms rising = ap told_of (found_except n ms rising).here

-- Woken members, and new ones

woken-unrolled : (l : ℕ) (pool : Roster Tree) → Unrolled pool.members (woken l pool).members
woken-unrolled l pool = record {
  sum = sum-stirred l pool.members;
  all = λ i. ap told_of (find_map (stirred_by l) (λ _. refl) i pool.members) ∙ stays (find i pool.members);
  kept = λ i h. subst MayTurn (sym (find_map (stirred_by l) (λ _. refl) i pool.members)) (may-stay (find i pool.members) h);
}
  where
    stays : (o : Option (Member Tree)) → told_of (option_map (stirred_by l) o) ≡ told_of o
    stays None = refl
    stays (Some m) = refl

    may-stay : (o : Option (Member Tree)) → MayTurn o → MayTurn (option_map (stirred_by l) o)
    may-stay None h = h
    may-stay (Some m) h = h

pub all-woken-unrolled : (ls : List ℕ) (pool : Roster Tree) → Unrolled pool.members (woken_for ls pool).members
all-woken-unrolled [] pool = unrolled-same pool.members
all-woken-unrolled (l ∷ ls) pool =
    unrolled-on pool.members (woken l pool).members (woken_for ls (woken l pool)).members (woken-unrolled l pool) (all-woken-unrolled ls (woken l pool))

joined-unrolled : (next : ℕ) (body : Tree) (pool : Roster Tree) → IsFreeFrom next pool
    → Unrolled pool.members (joined (newcomer next body false) pool).members
joined-unrolled next body pool free =
    let new : Member Tree = newcomer next body false in
    let none : find next pool.members ≡ None = free next (omega arith) in
    let found = found_placed new pool.members none in
    record {
      sum = let x = sum-placed new pool.members in omega arith;
      all = λ i. elim (which i next) [
        | inl one ↦ subst (λ (k : ℕ). told_of (find k (placed new pool.members)) ≡ told_of (find k pool.members)) (sym one) (ap told_of found.here ∙ sym (ap told_of none))
        | inr apart ↦ ap told_of (found.others i apart)
      ];
      kept = λ i h. elim (which i next) [
        | inl one ↦ absurd (subst MayTurn (ap (λ (k : ℕ). find k pool.members) one ∙ none) h)
        | inr apart ↦ subst MayTurn (sym (found.others i apart)) h
      ];
    }

pub newcomers-unrolled : (next : ℕ) (bodies : List Tree) (pool : Roster Tree) → IsFreeFrom next pool
    → Unrolled pool.members (with_newcomers next bodies pool).members
newcomers-unrolled next [] pool free = unrolled-same pool.members
newcomers-unrolled next (body ∷ bodies) pool free =
    let mid = joined (newcomer next body false) pool in
    unrolled-on pool.members mid.members (with_newcomers (next + 1) bodies mid).members (joined-unrolled next body pool free)
    (newcomers-unrolled (next + 1) bodies mid (joined-free next body pool free))

-- The rollbacks of the member itself

pub rolled-more : (n : ℕ) (ms : List (Member Tree)) → MayTurn (find n ms) → told_of (find n (altered n (at_home true) ms)) ≡ told_of (find n ms) + 1
rolled-more n ms may = ap told_of (found_altered n (at_home true) (λ _. refl) ms).here ∙ by (find n ms) may
  where
    by : (o : Option (Member Tree)) → MayTurn o → told_of (option_map (at_home true) o) ≡ told_of o + 1
    by None h = absurd h
    by (Some m) h = let below : m.rollbacks < 8 = h in let goal : min 8 (m.rollbacks + 1) ≡ m.rollbacks + 1 = omega arith in goal

pub none-rolled : (n : ℕ) (f : Member Tree → Member Tree) → ((m : Member Tree) → (f m).number ≡ m.number) → ((m : Member Tree) → (f m).rollbacks ≡ 0)
    → (ms : List (Member Tree)) → told_of (find n (altered n f ms)) ≡ 0
none-rolled n f num none ms = ap told_of (found_altered n f num ms).here ∙ by (find n ms)
  where
    by : (o : Option (Member Tree)) → told_of (option_map f o) ≡ 0
    by None = refl
    by (Some m) = none m
