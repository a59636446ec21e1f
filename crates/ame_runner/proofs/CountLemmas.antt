-- Turns and locations, when a run goes on.
use Rattle.std.proofs.Common.{◌≡◌, ℕ, suc, ◌+◌, ◌≤◌, ◌<◌, ◌==◌, ◌++◌, ◌⊎◌, inl, inr, max, Bool, true, false, List, [], ◌∷◌, length, map, Option, Some}
use Rattle.std.proofs.Common.{None, refl, sym, ap, ◌∙◌, subst, arith, length-append}
use Rattle.std.specs.Prelude.{◌&&◌, ◌||◌, option_to_list}
use Rattle.std.specs.List.{AllByRecursion}
use Rattle.std.proofs.lemmas.List.Sums.{sum_by_push}
use Rattle.ame_term.specs.Act.{fresh_location}
use Rattle.ame_term.specs.declared.semantics.StepKind.{StepKind}
use Rattle.ame_term.specs.declared.semantics.Label.{Label}
use Rattle.ame_journal.specs.Labels.{made_by, fragment_labels}
use Rattle.ame_weak.specs.Weak.{Weak, IsWeakRun}
use Rattle.ame_weak.specs.declared.tries.Try.{Try}
use Rattle.ame_runner.specs.Labels.{label_location, behind_location, location_above}
use Rattle.ame_runner.specs.Play.{PlayView, IsPlayedWeakly}
use Rattle.ame_runner.specs.Trial.{AreNext, last_turn, is_failure}
use Rattle.ame_runner.specs.declared.trial.AttemptEnd.{AttemptEnd}
use Rattle.ame_runner.specs.Within.{HoldsWithin}
use Rattle.ame_runner.specs.Notes.{IsAsideSince, AreKept}
use Rattle.ame_runner.specs.Freeing.{MakesOnly}
use Rattle.ame_runner.specs.Run.{CourseView, turns_of_tries, IsOwn, AreSettled, AreFailedTries, IsCutNow, IsRunning, HasMadeUncounted}
use Rattle.ame_runner.proofs.NoteLemmas.{all-more, kept-try}
use Rattle.ame_runner.proofs.RunLemmas.{kept-on, settled-on}

-- Locations

above-all : (xs ys : List Label) → location_above (xs ++ ys) ≡ max (location_above xs) (location_above ys)
above-all [] ys = omega arith
above-all (x ∷ xs) ys = let more = above-all xs ys in omega arith

-- what new locations of steps come to
pub record AreCounted (a : ℕ) (kinds : List StepKind) (b : ℕ) : Type 0 where
  pub from : a ≤ b
  pub few : b ≤ a + length kinds
  pub below : location_above (map Label.Step kinds) ≤ b

counted-where : (a : ℕ) (kind : StepKind) (kinds : List StepKind) (b : ℕ)
    → ((c : ℕ) → AreNext c (made_by kinds) b → AreCounted c kinds b) → (o : Option ℕ) → fresh_location kind ≡ o
    → AreNext a (option_to_list o ++ made_by kinds) b → AreCounted a (kind ∷ kinds) b
counted-where a kind kinds b more None none is =
    let x = more a is in
    let from = x.from in
    let few = x.few in
    let below = x.below in
    let zero : behind_location (fresh_location kind) ≡ 0 = ap behind_location none in
    record { from = from; few = omega (arith, few); below = omega (arith, zero, below) }
counted-where a kind kinds b more (Some l) some is =
    let x = more (a + 1) is.1 in
    let from = x.from in
    let few = x.few in
    let below = x.below in
    let first = is.0 in
    let behind : behind_location (fresh_location kind) ≡ l + 1 = ap behind_location some in
    record { from = omega (arith, from); few = omega (arith, few); below = omega (arith, first, behind, from, below) }

pub counted-next : (a : ℕ) (kinds : List StepKind) (b : ℕ) → AreNext a (made_by kinds) b → AreCounted a kinds b
counted-next a [] b is = record { from = omega arith; few = omega arith; below = omega arith }
counted-next a (kind ∷ kinds) b is = counted-where a kind kinds b (λ c rest. counted-next c kinds b rest) (fresh_location kind) refl is

-- Turns

-- as long as turns are left, no try was cut off
all-failed : (r : CourseView) → IsRunning r → r.turns < r.limit → AreFailedTries r.tries
all-failed r x more = elim x.cut [ inl failing ↦ failing | inr now ↦ absurd (let all = now.used in omega (arith, all, more)) ]

only-low : (l : ℕ) (label : Label) → MakesOnly l label → behind_location (label_location label) ≤ l + 1
only-low l label only = by (label_location label) refl
  where
    by : (o : Option ℕ) → label_location label ≡ o → behind_location (label_location label) ≤ l + 1
    by None is = let none : behind_location (label_location label) ≡ 0 = ap behind_location is in omega (arith, none)
    by (Some m) is = let some : behind_location (label_location label) ≡ m + 1 = ap behind_location is in let same = only m is in omega (arith, some, same)

-- a label that is counted, which makes the least location or none
pub runs-counted : (r m q : CourseView) (label : Label) → IsRunning r → HasMadeUncounted label r m → MakesOnly r.above label → r.turns < r.limit
    → q ≡ record m { above = max m.above m.play.above; turns = m.turns + 1 } → IsRunning q
runs-counted r m q label x h fresh more is = subst IsRunning (sym is) (record {
  played = h.played x.played;
  kept = kept-on r m label h x.played x.kept;
  settled = settled-on r m label h x.played x.settled;
  counted =
      let one = x.counted in
      let turns = h.turns in
      let long : length m.play.labels ≡ length r.play.labels + 1 = ap length h.made.labels ∙ length-append r.play.labels (label ∷ []) in
      let left : length m.left ≡ length r.left = ap length h.left in
      let tries : turns_of_tries m.tries ≡ turns_of_tries r.tries = ap turns_of_tries h.tries in
      omega (arith, one, turns, long, left, tries);
  made = omega arith;
  own = subst (AllByRecursion IsOwn) (sym h.left) x.own;
  to_make = let same = h.above in let to_make = x.to_make in let left : location_above m.left ≡ location_above r.left = ap location_above h.left in omega (arith, same, to_make, left);
  few = let low = only-low r.above label fresh in let above = h.above in let up = h.made.above in let few = x.few in let made = x.made in let turns = h.turns in omega (arith, above, up, few, made, turns, low);
  within = let turns = h.turns in let limit = h.limit in omega (arith, turns, limit, more);
  cut = inl (subst AreFailedTries (sym h.tries) (all-failed r x more));
})

pub itself : (n : ℕ) → (n == n) ≡ true
itself n = grind arith

pub or-there : (a b : Bool) → b ≡ true → (a || b) ≡ true
or-there true b e = refl
or-there false b e = e

-- a fragment was tried, and came to nothing
pub runs-noted : (r q : CourseView) (u : Try) → IsRunning r → r.play.weak.state.active ≡ None → u.after ≡ length r.play.labels → HoldsWithin r.play.weak u
    → (u.failing ≡ true → r.aside u.certificate.number ≡ false) → ((i : ℕ) → q.aside i ≡ ((u.failing && (u.certificate.number == i)) || r.aside i))
    → q.play ≡ r.play → q.tries ≡ r.tries ++ u ∷ [] → q.left ≡ r.left → q.above ≡ r.above
    → q.turns ≡ r.turns + (u.certificate.steps + 1) → q.turns ≤ q.limit → r.turns < r.limit → r.left ≡ []
    → (u.failing ≡ true) ⊎ (q.turns ≡ q.limit) → IsRunning q
runs-noted r q u x idle last holds free put play tries left above turns within more none how = record {
  played = subst IsPlayedWeakly (sym play) x.played;
  kept =
      subst (λ (p : PlayView). AreKept p.program p.labels q.aside q.tries) (sym play)
      (subst (AreKept r.play.program r.play.labels q.aside) (sym tries)
      (kept-try r.play.program r.play.labels r.aside r.tries x.kept u q.aside last here free (λ i is. put i ∙ or-there (u.failing && (u.certificate.number == i)) (r.aside i) is) now));
  settled =
      subst (λ (p : PlayView). AreSettled p q.tries) (sym play)
      (subst (AreSettled r.play) (sym tries) (all-more (λ t. t.after ≤ r.play.settled) r.tries u x.settled (let all = x.played.here idle in omega (arith, all, last))));
  counted =
      let one = x.counted in
      let labels : length q.play.labels ≡ length r.play.labels = ap (λ (p : PlayView). length p.labels) play in
      let same : length q.left ≡ length r.left = ap length left in
      let more : turns_of_tries q.tries ≡ turns_of_tries r.tries + (u.certificate.steps + 1) = ap turns_of_tries tries ∙ sum_by_push (λ t. t.certificate.steps + 1) r.tries u in
      omega (arith, one, labels, same, more, turns);
  made = let made = x.made in let same : q.play.above ≡ r.play.above = ap (λ (p : PlayView). p.above) play in omega (arith, made, same, above);
  own = subst (AllByRecursion IsOwn) (sym left) x.own;
  to_make = let to_make = x.to_make in let same : location_above q.left ≡ location_above r.left = ap location_above left in omega (arith, to_make, same, above);
  few = let few = x.few in omega (arith, few, above, turns);
  within = within;
  cut = elim how [ inl failing ↦ inl (subst AreFailedTries (sym tries) (all-more (λ t. t.failing ≡ true) r.tries u failed failing)) | inr used ↦ inr (cut-now used) ];
}
  where
    failed : AreFailedTries r.tries
    failed = all-failed r x more

    cut-now : q.turns ≡ q.limit → IsCutNow q
    cut-now used = record {
      cut = record { front = r.tries; last = u; parts = tries; failing = failed; after = last ∙ ap (λ (p : PlayView). length p.labels) (sym play) };
      none = left ∙ none;
      used = used;
    }

    here : (w : Weak) → IsWeakRun r.play.program r.play.labels w → HoldsWithin w u
    here w leads = let same : r.play.weak ≡ w = (let both : ◌≡◌ {A = Option Weak} (Some r.play.weak) (Some w) = sym x.played.leads ∙ leads in cc) in subst (λ (z : Weak). HoldsWithin z u) same holds

    now : u.failing ≡ true → q.aside u.certificate.number ≡ true
    now failing =
        put u.certificate.number
        ∙ ap (λ (b : Bool). (b && (u.certificate.number == u.certificate.number)) || r.aside u.certificate.number) failing
        ∙ ap (λ (b : Bool). b || r.aside u.certificate.number) (itself u.certificate.number)

own-all : (xs ys : List Label) → AllByRecursion IsOwn xs → AllByRecursion IsOwn ys → AllByRecursion IsOwn (xs ++ ys)
own-all [] ys some more = more
own-all (x ∷ xs) ys some more = (some.0, own-all xs ys some.1 more)

own-more : (xs : List Label) (y : Label) → AllByRecursion IsOwn xs → IsOwn y → AllByRecursion IsOwn (xs ++ y ∷ [])
own-more xs y some one = own-all xs (y ∷ []) some (one, tt)

own-steps : (kinds : List StepKind) → AllByRecursion IsOwn (map Label.Step kinds)
own-steps [] = tt
own-steps (kind ∷ kinds) = (tt, own-steps kinds)

steps-length : (kinds : List StepKind) → length (map Label.Step kinds) ≡ length kinds
steps-length [] = refl
steps-length (kind ∷ kinds) = ap suc (steps-length kinds)

-- a fragment was tried that leaves or ends, and is to be made
pub runs-begun : (r q : CourseView) (i : ℕ) (kinds : List StepKind) (last : Label) → IsRunning r
    → AreNext r.above (made_by kinds) q.above → behind_location (label_location last) ≡ 0 → IsOwn last
    → q.play ≡ r.play → q.tries ≡ r.tries → ((i : ℕ) → q.aside i ≡ r.aside i)
    → q.left ≡ r.left ++ (fragment_labels i kinds ++ last ∷ []) → q.turns ≡ r.turns + (length kinds + 2)
    → q.turns ≤ q.limit → r.turns < r.limit → IsRunning q
runs-begun r q i kinds last x next none own play tries aside left turns within more =
    let n = counted-next r.above kinds q.above next in
    let from = n.from in
    let count = n.few in
    let below = n.below in
    record {
      played = subst IsPlayedWeakly (sym play) x.played;
      kept =
          subst (λ (p : PlayView). AreKept p.program p.labels q.aside q.tries) (sym play)
          (subst (AreKept r.play.program r.play.labels q.aside) (sym tries) (record {
            order = x.kept.order;
            hold = x.kept.hold;
            spaced = x.kept.spaced;
            put = still r.tries x.kept.put;
          }));
      settled = subst (λ (p : PlayView). AreSettled p q.tries) (sym play) (subst (AreSettled r.play) (sym tries) x.settled);
      counted =
          let one = x.counted in
          let labels : length q.play.labels ≡ length r.play.labels = ap (λ (p : PlayView). length p.labels) play in
          let more : length q.left ≡ length r.left + length (fragment_labels i kinds ++ last ∷ []) = ap length left ∙ length-append r.left (fragment_labels i kinds ++ last ∷ []) in
          let all : length (fragment_labels i kinds ++ last ∷ []) ≡ length (fragment_labels i kinds) + 1 = length-append (fragment_labels i kinds) (last ∷ []) in
          let steps = steps-length kinds in
          let front : length (fragment_labels i kinds) ≡ suc (length (map Label.Step kinds)) = refl in
          let same : turns_of_tries q.tries ≡ turns_of_tries r.tries = ap turns_of_tries tries in
          omega (arith, one, labels, more, all, steps, front, same, turns);
      made = let made = x.made in let same : q.play.above ≡ r.play.above = ap (λ (p : PlayView). p.above) play in omega (arith, made, same, from);
      own = subst (AllByRecursion IsOwn) (sym left) (own-all r.left (fragment_labels i kinds ++ last ∷ []) x.own (tt, own-more (map Label.Step kinds) last (own-steps kinds) own));
      to_make =
          let to_make = x.to_make in
          let all : location_above q.left ≡ max (location_above r.left) (location_above (fragment_labels i kinds ++ last ∷ [])) =
          ap location_above left ∙ above-all r.left (fragment_labels i kinds ++ last ∷ []) in
          let ends : location_above (fragment_labels i kinds ++ last ∷ []) ≡ max (location_above (fragment_labels i kinds)) (location_above (last ∷ [])) =
          above-all (fragment_labels i kinds) (last ∷ []) in
          let steps : location_above (fragment_labels i kinds) ≡ max 0 (location_above (map Label.Step kinds)) = refl in
          let end : location_above (last ∷ []) ≡ max (behind_location (label_location last)) 0 = refl in
          omega (arith, to_make, all, ends, steps, end, none, from, below);
      few = let few = x.few in omega (arith, few, count, turns);
      within = within;
      cut = inl (subst AreFailedTries (sym tries) (all-failed r x more));
    }
  where
    still : (ts : List Try) → AllByRecursion (IsAsideSince r.play.labels r.aside) ts → AllByRecursion (IsAsideSince r.play.labels q.aside) ts
    still [] all = tt
    still (t ∷ ts) all = ((λ failing. elim (all.0 failing) [ inl is ↦ inl (aside t.certificate.number ∙ is) | inr change ↦ inr change ]), still ts all.1)

-- a fragment without a last label, which didn't grow too tall, failed or was cut off
pub how-noted : (o : AttemptEnd) → last_turn o ≡ 0 → (o ≡ AttemptEnd.Tall → ⊥) → (is_failure o ≡ true) ⊎ (o ≡ AttemptEnd.Cut)
how-noted AttemptEnd.Leaves none low = absurd (omega (arith, none))
how-noted AttemptEnd.Ends none low = absurd (omega (arith, none))
how-noted AttemptEnd.Fails none low = inl refl
how-noted AttemptEnd.Tall none low = absurd (low refl)
how-noted AttemptEnd.Cut none low = inr refl
