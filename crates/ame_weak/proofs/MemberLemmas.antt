-- Members that are changed or joined in two states alike.
use Rattle.std.proofs.Common.{◌≡◌, ℕ, ◌+◌, ◌<◌, Bool, true, false, List, [], ◌∷◌, Option, Some, None, is_some, refl, sym, ap, ◌∙◌, subst, arith}
use Rattle.std.specs.BTreeMap.{is_at}
use Rattle.std.specs.Ordering.{nat_cmp}
use Rattle.ame_term.specs.Tree.{Tree}
use Rattle.ame_term.specs.Maps.{at, put, change}
use Rattle.ame_laws.specs.Orderly.{NumbersRise}
use Rattle.ame_laws.proofs.MapLemmas.{is_at-same, is_at-here, at-put_other, at-change_same, at-change_other, change-absent, rise-put}
use Rattle.ame_machine.specs.Run.AgreesWith.{with_members}
use Rattle.ame_machine.proofs.Run.EffectLemmas.{put-alike}

-- one of two numbers is the other, or isn't
pub same_or : (m n : ℕ) → (P : Type 0) → (m ≡ n → P) → ((m ≡ n → ⊥) → P) → P
same_or m n P same other = by (is_at (nat_cmp m) n) refl
  where
    by : (b : Bool) → is_at (nat_cmp m) n ≡ b → P
    by true is = same (is_at-same m n is)
    by false is =
        other (λ e.
        let here : is_at (nat_cmp m) n ≡ true = subst (λ (k : ℕ). is_at (nat_cmp m) k ≡ true) e (is_at-here m) in
        let clash : true ≡ false = sym here ∙ is in
        cc)

pub change-alike : (xs ys : List (ℕ × Tree)) (n k : ℕ) (x : Tree) → at xs k ≡ at ys k → at (change xs n x) k ≡ at (change ys n x) k
change-alike xs ys n k x same =
    same_or n k (at (change xs n x) k ≡ at (change ys n x) k)
    (λ e. subst (λ (m : ℕ). at (change xs n x) m ≡ at (change ys n x) m) e (here (at xs n) refl (subst (λ (m : ℕ). at xs m ≡ at ys m) (sym e) same)))
    (λ apart. at-change_other xs n k x apart ∙ same ∙ sym (at-change_other ys n k x apart))
  where
    here : (o : Option Tree) → at xs n ≡ o → at xs n ≡ at ys n → at (change xs n x) n ≡ at (change ys n x) n
    here None is alike =
        ap (λ (es : List (ℕ × Tree)). at es n) (change-absent xs n x is) ∙ alike
        ∙ sym (ap (λ (es : List (ℕ × Tree)). at es n) (change-absent ys n x (sym alike ∙ is)))
    here (Some t) is alike = at-change_same xs n x (ap is_some is) ∙ sym (at-change_same ys n x (ap is_some (sym alike ∙ is)))

pub joined-alike : (xs ys : List (ℕ × Tree)) (next : ℕ) (bodies : List Tree) (k : ℕ) → at xs k ≡ at ys k
    → at (with_members xs next bodies) k ≡ at (with_members ys next bodies) k
joined-alike xs ys next [] k same = same
joined-alike xs ys next (body ∷ bodies) k same =
    joined-alike (put xs next body) (put ys next body) (next + 1) bodies k (put-alike xs ys next k body same)

-- those below the next number stay
pub joined-below : (xs : List (ℕ × Tree)) (next : ℕ) (bodies : List Tree) (k : ℕ) → k < next → at (with_members xs next bodies) k ≡ at xs k
joined-below xs next [] k below = refl
joined-below xs next (body ∷ bodies) k below =
    joined-below (put xs next body) (next + 1) bodies k (omega arith) ∙ at-put_other xs next k body (λ e. omega arith)

pub joined-rise : (xs : List (ℕ × Tree)) (next : ℕ) (bodies : List Tree) → NumbersRise xs → NumbersRise (with_members xs next bodies)
joined-rise xs next [] rise = rise
joined-rise xs next (body ∷ bodies) rise = joined-rise (put xs next body) (next + 1) bodies (rise-put xs next body rise)
