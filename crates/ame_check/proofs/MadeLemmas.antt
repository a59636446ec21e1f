-- The state that a replay shows once an entry was made.
use Rattle.std.proofs.Common.{◌≡◌, ℕ, ◌+◌, ◌<◌, ◌≤◌, ◌==◌, ◌||◌, ◌⊎◌, inl, inr, ℤ, Bool, true, false, not, List, [], ◌∷◌, ◌++◌, Option, Some, None, is_some, refl, sym, ap, ◌∙◌, subst, arith, length, filter, cond}
use Rattle.std.specs.List.{list_any}
use Rattle.std.proofs.lemmas.Bool.{eqb-true, eqb-false, ne_eqb, eq-eqb}
use Rattle.ame_term.specs.Tree.{Val, Tree}
use Rattle.ame_term.specs.Context.{focus}
use Rattle.ame_term.specs.Maps.{at, put, without}
use Rattle.ame_term.specs.State.{State, at_unprotected}
use Rattle.ame_laws.proofs.MapLemmas.{at-put, at-without_other, at-without_same, numbers-at}
use Rattle.ame_journal.specs.Replayed.{Replayed, is_inside, has_such, entering, leaving}
use Rattle.ame_journal.specs.Replay.{or_else}
use Rattle.ame_journal.proofs.ReachedLemmas.{IsCalm}
use Rattle.ame_machine.specs.Run.AgreesWith.{with_members, IsAfterRun}
use Rattle.ame_machine.specs.Meaning.{Meaning}
use Rattle.ame_machine.specs.MachineView.{MachineView}
use Rattle.ame_check.specs.Shows.{ReplayView, ShowsValue, ShowsCells, ShowsMember, ShowsMembers, Shows, Adopts, IsResting}
use Rattle.ame_check.specs.Walked.{place_with}
use Rattle.ame_check.proofs.WalkLemmas.{with-below}
use Rattle.ame_check.specs.declared.stored.Stored.{Stored}

-- Members

put-alike : (xs ys : List (ℕ × Tree)) (n k : ℕ) (x : Tree) → at xs k ≡ at ys k → at (put xs n x) k ≡ at (put ys n x) k
put-alike xs ys n k x same = by (at-put xs n k x) (at-put ys n k x)
  where
    by : ((n ≡ k) × (at (put xs n x) k ≡ Some x)) ⊎ (((n ≡ k) → ⊥) × (at (put xs n x) k ≡ at xs k))
        → ((n ≡ k) × (at (put ys n x) k ≡ Some x)) ⊎ (((n ≡ k) → ⊥) × (at (put ys n x) k ≡ at ys k))
        → at (put xs n x) k ≡ at (put ys n x) k
    by (inl a) (inl b) = a.1 ∙ sym b.1
    by (inl a) (inr b) = absurd (b.0 a.0)
    by (inr a) (inl b) = absurd (a.0 b.0)
    by (inr a) (inr b) = a.1 ∙ same ∙ sym b.1

with-alike : (bodies : List Tree) (xs ys : List (ℕ × Tree)) (n k : ℕ) → at xs k ≡ at ys k → at (with_members xs n bodies) k ≡ at (with_members ys n bodies) k
with-alike [] xs ys n k same = same
with-alike (body ∷ bodies) xs ys n k same = with-alike bodies (put xs n body) (put ys n body) (n + 1) k (put-alike xs ys n k body same)

such-some : {X : Type 0} (test : X → Bool) (o : Option X) → has_such test o ≡ true → is_some o ≡ true
such-some test None e = cc
such-some test (Some x) e = refl

-- who is inside is a member
pub inside-below : (r : Replayed) (k : ℕ) → IsCalm r → is_inside r k ≡ true → k < r.state.next
inside-below r k calm inside =
    numbers-at (λ j. j < r.state.next) r.state.members k (such-some (λ (t : Tree). at_unprotected (focus t)) (at r.state.members k) (calm.standing k inside)) calm.orderly.members_below

pub outside-from : (r : Replayed) (k : ℕ) → IsCalm r → r.state.next ≤ k → is_inside r k ≡ false
outside-from r k calm far = by (is_inside r k) refl
  where
    by : (b : Bool) → is_inside r k ≡ b → b ≡ false
    by true e = absurd (let below : k < r.state.next = inside-below r k calm e in let above : r.state.next ≤ k = far in omega arith)
    by false e = refl

-- The members inside after an entry of member i

pub entering-other : (r : Replayed) (i k : ℕ) (s : State) → (k ≡ i → ⊥) → is_inside (entering r i s) k ≡ is_inside r k
entering-other r i k s apart = ap (λ (b : Bool). b || is_inside r k) (ne_eqb i k (λ same. apart (sym same)))

pub entering-own : (r : Replayed) (i : ℕ) (s : State) → is_inside (entering r i s) i ≡ true
entering-own r i s = ap (λ (b : Bool). b || is_inside r i) (eq-eqb i i refl)

leaving-list : (xs : List ℕ) (i k : ℕ) → (k ≡ i → ⊥) → list_any (λ j. j == k) (filter (λ j. not (j == i)) xs) ≡ list_any (λ j. j == k) xs
leaving-list [] i k apart = refl
leaving-list (x ∷ xs) i k apart = by (x == i) refl (leaving-list xs i k apart)
  where
    by : (b : Bool) → (x == i) ≡ b → list_any (λ j. j == k) (filter (λ j. not (j == i)) xs) ≡ list_any (λ j. j == k) xs
        → list_any (λ j. j == k) (cond (not b) (x ∷ filter (λ j. not (j == i)) xs) (filter (λ j. not (j == i)) xs)) ≡ ((x == k) || list_any (λ j. j == k) xs)
    by true e rest = rest ∙ ap (λ (b : Bool). b || list_any (λ j. j == k) xs) (sym (ne_eqb x k (λ same. apart (sym same ∙ eqb-true x i e))))
    by false e rest = ap (λ (b : Bool). (x == k) || b) rest

leaving-none : (xs : List ℕ) (i : ℕ) → list_any (λ j. j == i) (filter (λ j. not (j == i)) xs) ≡ false
leaving-none [] i = refl
leaving-none (x ∷ xs) i = by (x == i) refl (leaving-none xs i)
  where
    by : (b : Bool) → (x == i) ≡ b → list_any (λ j. j == i) (filter (λ j. not (j == i)) xs) ≡ false
        → list_any (λ j. j == i) (cond (not b) (x ∷ filter (λ j. not (j == i)) xs) (filter (λ j. not (j == i)) xs)) ≡ false
    by true e rest = rest
    by false e rest = ap (λ (b : Bool). b || list_any (λ j. j == i) (filter (λ j. not (j == i)) xs)) e ∙ rest

pub leaving-other : (r : Replayed) (i k : ℕ) (s : State) → (k ≡ i → ⊥) → is_inside (leaving r i s) k ≡ is_inside r k
leaving-other r i k s apart = leaving-list r.inside i k apart

pub leaving-own : (r : Replayed) (i : ℕ) (s : State) → is_inside (leaving r i s) i ≡ false
leaving-own r i s = leaving-none r.inside i

module _ {C V M : Type 0} (meaning : Meaning C V M) (code : C) where
  shown-both : (a b : Option (Stored V)) (x y : Option Val) → ShowsValue meaning code a x → ShowsValue meaning code b y → ShowsValue meaning code (or_else a b) (or_else x y)
  shown-both None b x y h k = subst (λ (o : Option Val). ShowsValue meaning code b (or_else o y)) (sym h) k
  shown-both (Some v) b x y h k = (h.0, ap (λ (o : Option Val). or_else o y) h.1)

  module _ (r : Replayed) (i : ℕ) (place : ReplayView V M) (calm : IsCalm r) (early : i < r.state.next) (shows : Shows meaning code place r)
      (machines : List (ℕ × M)) (gone : at machines i ≡ None) (others : (k : ℕ) → (k ≡ i → ⊥) → at machines k ≡ at place.members k) (inside : ℕ → Bool)
      (flags : (k : ℕ) → (k ≡ i → ⊥) → inside k ≡ is_inside r k) where
    -- the members but the one that was taken out
    abbrev pub rest_of : List (ℕ × Tree)
    rest_of = without r.state.members i

    pub shows-rest : ShowsMembers meaning code inside machines rest_of
    shows-rest k = by (k == i) refl
      where
        by : (b : Bool) → (k == i) ≡ b → ShowsMember meaning code (inside k) (at machines k) (at rest_of k)
        by true e =
            let same : k ≡ i = eqb-true k i e in
            subst (λ (j : ℕ). ShowsMember meaning code (inside j) (at machines j) (at rest_of j)) (sym same)
            (subst (λ (o : Option M). ShowsMember meaning code (inside i) o (at rest_of i)) (sym gone) (at-without_same r.state.members i calm.orderly.members_rise))
        by false e =
            let apart : k ≡ i → ⊥ = eqb-false k i e in
            subst (λ (o : Option M). ShowsMember meaning code (inside k) o (at rest_of k)) (sym (others k apart))
            (subst (λ (o : Option Tree). ShowsMember meaning code (inside k) (at place.members k) o) (sym (at-without_other r.state.members i k (λ same. apart (sym same))))
            (subst (λ (b : Bool). ShowsMember meaning code b (at place.members k) (at r.state.members k)) (sym (flags k apart)) (shows.members k)))

    pub outside-next : (k : ℕ) → r.state.next ≤ k → inside k ≡ false
    outside-next k far =
        flags k (λ same. let one : k ≡ i = same in let below : i < r.state.next = early in let above : r.state.next ≤ k = far in absurd (omega arith)) ∙ outside-from r k calm far

    module _ (sets : List (ℕ × Val)) (m : MachineView) (now u : State) (after_run : IsAfterRun r.state i (place_with sets m) now)
        (store : u.store ≡ now.store) (output : u.output ≡ now.output) (next : u.next ≡ now.next) (members : (k : ℕ) → (k ≡ i → ⊥) → at u.members k ≡ at now.members k)
        (overlay : List (ℕ × Stored V)) (laid : ShowsCells meaning code overlay sets) (later : ReplayView V M) (cells : (l : ℕ) → at later.cells l ≡ or_else (at overlay l) (at place.cells l))
        (printed : later.output ≡ place.output ++ m.prints) (machine : M) (number : ℕ) (last : List (ℕ × M)) (adopts : Adopts meaning code inside rest_of place.next m last number machine) where
      pub shows-store : ShowsCells meaning code later.cells u.store
      shows-store l =
          subst (λ (o : Option (Stored V)). ShowsValue meaning code o (at u.store l)) (sym (cells l))
          (subst (λ (o : Option Val). ShowsValue meaning code (or_else (at overlay l) (at place.cells l)) o) (sym (ap (λ (st : List (ℕ × Val)). at st l) store ∙ after_run.stored l))
          (shown-both (at overlay l) (at place.cells l) (at sets l) (at r.state.store l) (laid l) (shows.store l)))

      pub shows-output : later.output ≡ u.output
      shows-output = printed ∙ ap (λ (xs : List ℤ). xs ++ m.prints) shows.output ∙ sym after_run.output ∙ sym output

      pub shows-next : number ≡ u.next
      shows-next = adopts.count ∙ ap (λ (n : ℕ). n + length m.spawns) shows.next ∙ sym after_run.next ∙ sym next

      adopted-other : (k : ℕ) → (k ≡ i → ⊥) → at (with_members rest_of place.next m.spawns) k ≡ at u.members k
      adopted-other k apart =
          ap (λ (n : ℕ). at (with_members rest_of n m.spawns) k) shows.next
          ∙ with-alike m.spawns rest_of r.state.members r.state.next k (at-without_other r.state.members i k (λ same. apart (sym same)))
          ∙ sym (after_run.others k apart) ∙ sym (members k apart)

      adopted-own : at (with_members rest_of place.next m.spawns) i ≡ None
      adopted-own =
          let below : i < place.next = (let n : place.next ≡ r.state.next = shows.next in let b : i < r.state.next = early in omega arith) in
          with-below rest_of place.next m.spawns i below ∙ at-without_same r.state.members i calm.orderly.members_rise

      pub shows-ended : at u.members i ≡ None → ShowsMembers meaning code inside last u.members
      shows-ended none k = by (k == i) refl
        where
          by : (b : Bool) → (k == i) ≡ b → ShowsMember meaning code (inside k) (at last k) (at u.members k)
          by true e =
              let same : k ≡ i = eqb-true k i e in
              subst (λ (o : Option Tree). ShowsMember meaning code (inside k) (at last k) o)
              (ap (at (with_members rest_of place.next m.spawns)) same ∙ adopted-own ∙ sym none ∙ ap (at u.members) (sym same)) (adopts.shown k)
          by false e = subst (λ (o : Option Tree). ShowsMember meaning code (inside k) (at last k) o) (adopted-other k (eqb-false k i e)) (adopts.shown k)

      pub shows-back : (back : M) → meaning.is_machine code back → at u.members i ≡ Some (meaning.stage code back).term → IsResting (inside i) (meaning.stage code back)
          → ShowsMembers meaning code inside (put last i back) u.members
      shows-back back good term rest k = by (at-put last i k back)
        where
          by : ((i ≡ k) × (at (put last i back) k ≡ Some back)) ⊎ (((i ≡ k) → ⊥) × (at (put last i back) k ≡ at last k)) → ShowsMember meaning code (inside k) (at (put last i back) k) (at u.members k)
          by (inl (same, e)) =
              subst (λ (o : Option M). ShowsMember meaning code (inside k) o (at u.members k)) (sym e)
              (subst (λ (j : ℕ). ShowsMember meaning code (inside j) (Some back) (at u.members j)) same (good, term, rest))
          by (inr (apart, e)) =
              subst (λ (o : Option M). ShowsMember meaning code (inside k) o (at u.members k)) (sym e)
              (subst (λ (o : Option Tree). ShowsMember meaning code (inside k) (at last k) o) (adopted-other k (λ same. apart (sym same))) (adopts.shown k))
