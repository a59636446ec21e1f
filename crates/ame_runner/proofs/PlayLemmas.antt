-- A weak run goes on by a label.
use Rattle.std.proofs.Common.{◌≡◌, ℕ, ◌+◌, ◌≤◌, ◌++◌, max, Bool, true, false, List, [], ◌∷◌, length, take, Option, Some, None, is_none}
use Rattle.std.proofs.Common.{option_and_then, if◌then◌else◌, refl, sym, ap, ◌∙◌, subst, arith, length-append}
use Rattle.std.proofs.lemmas.List.{take_all, take-append-le}
use Rattle.std.proofs.lemmas.Option.{option_and_then_some}
use Rattle.ame_term.specs.Tree.{Tree}
use Rattle.ame_term.specs.declared.semantics.Label.{Label}
use Rattle.ame_weak.specs.Weak.{Weak, weak_start, weak_after, weak_run, IsWeakRun}
use Rattle.ame_weak.specs.Bounds.{IsWithinBounds, AreWithinBounds}
use Rattle.ame_runner.specs.Labels.{label_location, behind_location, location_above}
use Rattle.ame_runner.specs.Play.{PlayView, IsSettledAfter, IsPlayedWeakly, HasMadeLabel}

pub run-more : (w v u : Weak) (xs : List Label) (y : Label) → weak_run w xs ≡ Some v → weak_after v y ≡ Some u → weak_run w (xs ++ y ∷ []) ≡ Some u
run-more w v u [] y e f =
    let same : w ≡ v = cc in
    ap (λ (z : Weak). option_and_then (λ a. weak_run a []) (weak_after z y)) same ∙ ap (option_and_then (λ a. weak_run a [])) f
run-more w v u (x ∷ xs) y e f =
    option_and_then_some _ _ _ e (λ a first rest. ap (option_and_then (λ z. weak_run z (xs ++ y ∷ []))) first ∙ run-more a v u xs y rest f)

pub above-more : (xs : List Label) (y : Label) → location_above (xs ++ y ∷ []) ≡ max (location_above xs) (behind_location (label_location y))
above-more [] y = omega arith
above-more (x ∷ xs) y = let more = above-more xs y in omega arith

pub none-where : {X : Type 0} (o : Option X) → is_none o ≡ true → o ≡ None
none-where None e = refl
none-where (Some x) e = absurd (cc)

pub played-begun : (program : Tree) (labels : List Label) (w : Weak) → labels ≡ [] → w ≡ weak_start program
    → IsPlayedWeakly (record { program = program; labels = labels; weak = w; above = 0; settled = 0 })
played-begun program labels w none is = record {
  leads = ap (weak_run (weak_start program)) none ∙ ap Some (sym is);
  within = subst (AreWithinBounds (weak_start program)) (sym none) tt;
  above = ap location_above (sym none);
  settled = record { few = omega arith; weak = weak_start program; leads = refl; idle = refl };
  here = λ idle. ap length (sym none);
}

pub within-more : (w v : Weak) (xs : List Label) (y : Label) → AreWithinBounds w xs → weak_run w xs ≡ Some v
    → IsWithinBounds v y → AreWithinBounds w (xs ++ y ∷ [])
within-more w v [] y all e within = let same : w ≡ v = cc in (subst (λ z. IsWithinBounds z y) (sym same) within, λ u first. tt)
within-more w v (x ∷ xs) y all e within = (all.0, λ u first. within-more u v xs y (all.1 u first) (sym (ap (option_and_then (λ z. weak_run z xs)) first) ∙ e) within)

-- one label more
pub played-made : (p q : PlayView) (label : Label) → IsPlayedWeakly p → HasMadeLabel label p q → IsPlayedWeakly q
played-made p q label played h = record {
  leads = leads;
  within =
      subst (λ (t : Tree). AreWithinBounds (weak_start t) q.labels) (sym h.program)
      (subst (AreWithinBounds (weak_start p.program)) (sym h.labels) (within-more (weak_start p.program) p.weak p.labels label played.within played.leads h.within));
  above = h.above ∙ ap (λ n. max n (behind_location (label_location label))) played.above ∙ sym (above-more p.labels label) ∙ ap location_above (sym h.labels);
  settled = by (is_none q.weak.state.active) refl h.settled;
  here = λ idle. h.settled ∙ ap (λ (o : Option ℕ). if is_none o then length q.labels else p.settled) idle;
}
  where
    leads : IsWeakRun q.program q.labels q.weak
    leads =
        ap (λ (t : Tree). weak_run (weak_start t) q.labels) h.program ∙ ap (weak_run (weak_start p.program)) h.labels
        ∙ run-more (weak_start p.program) p.weak q.weak p.labels label played.leads h.legal

    long : length q.labels ≡ length p.labels + 1
    long = ap length h.labels ∙ length-append p.labels (label ∷ [])

    by : (c : Bool) → is_none q.weak.state.active ≡ c → q.settled ≡ (if c then length q.labels else p.settled) → IsSettledAfter q.program q.labels q.settled
    by true none all =
        let whole : q.settled ≡ length q.labels = all in
        record {
          few = omega (arith, whole);
          weak = q.weak;
          leads = ap (weak_run (weak_start q.program)) (take_all q.settled q.labels (omega (arith, whole))) ∙ leads;
          idle = none-where q.weak.state.active none;
        }
    by false some old =
        let s = played.settled in
        let same : q.settled ≡ p.settled = old in
        let few : q.settled ≤ length p.labels = subst (λ (n : ℕ). n ≤ length p.labels) (sym same) s.few in
        let long_too : length q.labels ≡ length p.labels + 1 = long in
        record {
          few = omega (arith, few, long_too);
          weak = s.weak;
          leads =
              ap (λ (t : Tree). weak_run (weak_start t) (take q.settled q.labels)) h.program
              ∙ ap (weak_run (weak_start p.program)) (ap (take q.settled) h.labels ∙ take-append-le q.settled p.labels (label ∷ []) few ∙ ap (λ n. take n p.labels) same)
              ∙ s.leads;
          idle = s.idle;
        }
