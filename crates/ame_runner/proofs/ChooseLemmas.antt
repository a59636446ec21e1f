-- Choices, and the stops that are found in their place.
use Rattle.std.proofs.Common.{◌≡◌, ◌≢◌, ℕ, ◌+◌, ◌<◌, ◌≤◌, ◌==◌, ◌++◌, Bool, true, false, List, [], ◌∷◌, length, Option, Some, None, is_some}
use Rattle.std.proofs.Common.{option_map, not, if◌then◌else◌, refl, sym, ap, ◌∙◌, subst, arith, inl, inr, ℤ}
use Rattle.std.specs.Prelude.{⊤, ◌||◌, ◌⊎◌, nat_lt, Vec, Result, Ok, Err, IsErr, IfOk}
use Rattle.std.specs.declared.alloc.Global.{Global}
use Rattle.std.proofs.lemmas.Bool.{eqb-true, eqb-false}
use Rattle.std.proofs.lemmas.Bool.Decides.{nat_tests}
use Rattle.std.proofs.lemmas.List.{nil_from_length}
use Rattle.std.proofs.lemmas.List.Folds.{list_any-append}
use Rattle.std.specs.List.{All, AllByRecursion, list_any}
use Rattle.std.proofs.lemmas.List.{map-append}
use Rattle.std.proofs.lemmas.List.Elements.{All-nil, All-head, All-tail, All-push}
use Rattle.ame_term.specs.Tree.{Typ, Tree}
use Rattle.ame_term.specs.Signature.{listed}
use Rattle.ame_term.specs.Maps.{at}
use Rattle.ame_term.specs.SourceTerm.{IsSourceTerm}
use Rattle.ame_term.specs.Numbered.{IsNumbered}
use Rattle.ame_term.specs.Typing.{Accepts}
use Rattle.ame_term.specs.declared.semantics.Label.{Label}
use Rattle.ame_device.specs.declared.told.Told.{Told}
use Rattle.ame_engine.specs.Ending.{Rise}
use Rattle.ame_laws.specs.Orderly.{IsOrderly}
use Rattle.ame_laws.proofs.MapLemmas.{numbers-at}
use Rattle.ame_journal.specs.Replay.{fragment, fails_after}
use Rattle.ame_journal.specs.Replayed.{begun_at}
use Rattle.ame_strong.specs.Pool.{pool}
use Rattle.ame_strong.specs.declared.next_label.Next.{Next}
use Rattle.ame_strong.specs.declared.next_label.Next.TheVariants as next
use Rattle.ame_strong.proofs.PoolLemmas.{at-pool_idle}
use Rattle.ame_weak.specs.Weak.{Weak, weak_start, weak_run}
use Rattle.ame_weak.specs.Straight.{outset}
use Rattle.ame_weak.specs.Tries.{HoldsIn}
use Rattle.ame_weak.specs.declared.tries.Try.{Try}
use Rattle.ame_journal.specs.declared.certificate.Certificate.{Certificate}
use Rattle.ame_weak.proofs.StraightLemmas.{past_all, follow-labels, ends-strong, begun-followed}
use Rattle.ame_runner.specs.Play.{PlayView, HasMadeLabel}
use Rattle.ame_runner.specs.Choices.{candidates}
use Rattle.ame_runner.specs.Freeing.{FailsFor, HasFreed}
use Rattle.ame_runner.specs.Run.{CourseView, IsRunning, CanBeEnded}
use Rattle.ame_runner.specs.Stop.{certified_numbers, HearsOn, StopsIfTold, HasGrown, RunsUntil, PlaysOn, StandsAtCall, HasStoppedWeakly, MayGoOn}
use Rattle.ame_runner.specs.Stop.{IsFoundInOrder, FoundAtRest, HasCertified}
use Rattle.ame_journal.specs.declared.entry.Entry.{Entry}
use Rattle.ame_weak.specs.Bounds.{is_growing_tall}
use Rattle.ame_runner.specs.Tall.{tall_note, IsTallIn}
use Rattle.ame_runner.specs.Within.{IsReachedWithin}
use Rattle.ame_runner.specs.declared.freeing.FreeStep.{FreeStep}
use Rattle.ame_runner.specs.declared.stop.WeakStop.{WeakStop}
use Rattle.ame_runner.proofs.NoteLemmas.{all-more}
use Rattle.ame_runner.proofs.CountLemmas.{itself, or-there}
use Rattle.ame_runner.proofs.DeviceLemmas.{none-failed, one-failed, heard-fault}
use Rattle.ame_runner.proofs.HearLemmas.{hears-free, hears-then}
use Rattle.ame_runner.proofs.HoldLemmas.{resting_grows_tall}

-- Choices

-- a label, or none, by which devices hear nothing
pub goes-quiet : (r q : CourseView) (told : List Told) → (IsRunning r → IsRunning q) → HearsOn None r q told told
    → IsRunning r → IsRunning q × HearsOn None r q told told × ⊤
goes-quiet r q told runs hears running = (runs running, hears, tt)

-- the device that a member calls fails, and the active fragment runs to its end
pub goes-fault : (r q : CourseView) (i device : ℕ) (before after : List Told) → FailsFor r.play.weak i device before after → (IsRunning r → IsRunning q)
    → ((told : List Told) → HearsOn None r q told told) → q.left ≡ [] → q.play.weak.state.active ≡ None → StandsAtCall q.play.weak device
    → IsRunning r → IsRunning q × HearsOn (Some (WeakStop.DeviceFault device)) r q before after × HasStoppedWeakly (WeakStop.DeviceFault device) q
goes-fault r q i device before after f runs hears none idle stands running = (
  runs running,
  λ opened go heard. (
    (hears after opened go (heard-fault r.play.weak i device before after f r.play.program opened r.play.labels heard)).0,
    one-failed r.play.weak i device before after f,
  ),
  record { none = none; idle = idle; cause = stands },
)

-- a stop by no device
hears-stop : (stop : WeakStop) (r : CourseView) (told : List Told) → IsFoundInOrder stop r → HearsOn (Some stop) r r told told
hears-stop WeakStop.Finished r told found = λ opened running heard. (heard, λ k. refl)
hears-stop (WeakStop.Blocked certificates) r told found = λ opened running heard. (heard, λ k. refl)
hears-stop WeakStop.Spent r told found = λ opened running heard. (heard, λ k. refl)
hears-stop WeakStop.NoMemory r told found = absurd found
hears-stop (WeakStop.DeviceFault device) r told found = absurd found
hears-stop (WeakStop.Tall entry) r told found = absurd found

runs-until : (stop : WeakStop) (r : CourseView) → IsFoundInOrder stop r → IsRunning r → RunsUntil (Some stop) r
runs-until WeakStop.Finished r found running = running
runs-until (WeakStop.Blocked certificates) r found running = running
runs-until WeakStop.Spent r found running = running
runs-until WeakStop.NoMemory r found running = absurd found
runs-until (WeakStop.DeviceFault device) r found running = absurd found
runs-until (WeakStop.Tall entry) r found running = absurd found

pub goes-stop : (r : CourseView) (told : List Told) (stop : WeakStop) → FoundAtRest r (Some stop) → IsRunning r
    → RunsUntil (Some stop) r × HearsOn (Some stop) r r told told × HasStoppedWeakly stop r
goes-stop r told stop found running = let f = found running in (runs-until stop r f.1 running, hears-stop stop r told f.1, f.0)

-- a member grew too tall, and devices hear nothing
pub goes-tall : (r q : CourseView) (told : List Told) (entry : Entry)
    → (IsRunning r → HasGrown entry q × HasStoppedWeakly (WeakStop.Tall entry) q) → HearsOn None r q told told
    → IsRunning r → HasGrown entry q × HearsOn (Some (WeakStop.Tall entry)) r q told told × HasStoppedWeakly (WeakStop.Tall entry) q
goes-tall r q told entry grows hears running = let x = grows running in (x.0, hears, x.1)

-- a member is about to become a value that is too high under `unprotected`, nothing is active, and no label is left to be made
pub stops-tall : (r : CourseView) (i : ℕ) (entry : Entry) → IsSourceTerm r.play.program → r.left ≡ []
    → r.play.weak.state.active ≡ None → is_growing_tall r.play.weak (Some i) ≡ true
    → entry ≡ tall_note i 0 [] → IsRunning r → HasGrown entry r × HasStoppedWeakly (WeakStop.Tall entry) r
stops-tall r i entry source none idle grows is running = (
  record { turns = r.turns; before = running; more = inl refl; within = running.within },
  record {
    none = none;
    idle = idle;
    cause = (
      resting_grows_tall r.play.program r.play.labels r.play.weak i entry source running.played.leads running.played.within grows is,
      inl (ap (λ (e : Entry). e.steps) is),
    );
  },
)

-- a fragment was tried that grew too tall
pub attempts-tall : (r q : CourseView) (entry : Entry) (n : ℕ) → q ≡ record r { turns = n } → n ≡ r.turns + (entry.steps + 1) → n ≤ r.limit → r.left ≡ [] → r.play.weak.state.active ≡ None
    → IsTallIn r.play.weak.state entry × IsReachedWithin r.play.weak entry → IsRunning r → HasGrown entry q × HasStoppedWeakly (WeakStop.Tall entry) q
attempts-tall r q entry n is more within none idle tall running =
    subst (λ (z : CourseView). HasGrown entry z × HasStoppedWeakly (WeakStop.Tall entry) z) (sym is) (
      record { turns = r.turns; before = running; more = inr more; within = within },
      record { none = none; idle = idle; cause = tall },
    )

-- what a choice came to
pub goes-as : (r q : CourseView) (before after : List Told) (stop told : Option WeakStop) → stop ≡ told
    → (IsRunning r → RunsUntil stop q × HearsOn stop r q before after × StopsIfTold stop q)
    → IsRunning r → RunsUntil told q × HearsOn told r q before after × StopsIfTold told q
goes-as r q before after stop told is goes = subst (λ (o : Option WeakStop). IsRunning r → RunsUntil o q × HearsOn o r q before after × StopsIfTold o q) is goes

-- out of memory
pub plays-lost : {E : Type 0} (r q : CourseView) (before after : List Told) (a : Result WeakStop E) → IsErr a
    → (IsRunning r → CanBeEnded q) → PlaysOn r q before after a
plays-lost r q before after (Err e) lost ends = ends
plays-lost r q before after (Ok stop) lost ends = absurd (let clash : false ≡ true = lost in cc)

-- choices, and one more or the stop
module _ (a b q : CourseView) (before mid after : List Told) (runs : IsRunning a → IsRunning b) (hears : HearsOn None a b before mid) where
  pub plays-until : (stop : WeakStop) → (IsRunning b → RunsUntil (Some stop) q × HearsOn (Some stop) b q mid after × HasStoppedWeakly stop q)
      → IsRunning a → RunsUntil (Some stop) q × HearsOn (Some stop) a q before after × HasStoppedWeakly stop q
  plays-until stop next running = let x = next (runs running) in (x.0, hears-then (Some stop) a b q before mid after hears runs x.1, x.2)

  pub plays-runs : (IsRunning b → IsRunning q × HearsOn None b q mid after × ⊤) → IsRunning a → IsRunning q
  plays-runs next running = (next (runs running)).0

  pub plays-hears : (IsRunning b → IsRunning q × HearsOn None b q mid after × ⊤) → HearsOn None a q before after
  plays-hears next = λ opened running heard. hears-then None a b q before mid after hears runs (next (runs running)).1 opened running heard

module _ (devices : ℕ) (places : List ℕ) (program : Tree) (refs : List Typ) (accepts : Accepts devices places program refs) (source : IsSourceTerm program) (numbered : IsNumbered 0 program) where
  -- a label under `unprotected`
  pub goes-label : (r q : CourseView) (i : ℕ) (label : Label) (before after : List Told) → r.play.program ≡ program
      → HasFreed r.play.weak i r.above before after (FreeStep.Label label)
      → HasMadeLabel label r.play q.play → (IsRunning r → IsRunning q) → IsRunning r → IsRunning q × HearsOn None r q before after × ⊤
  goes-label r q i label before after is freed made runs running = (
    runs running,
    λ opened go heard. (
      hears-free devices places program refs accepts source numbered r.play q.play label made is go.played opened before heard i after freed.1,
      none-failed r.play.weak i before after label freed.1,
    ),
    tt,
  )

  -- a member's number is below the next one
  pub below-next : (p : PlayView) → p.program ≡ program → weak_run (weak_start p.program) p.labels ≡ Some p.weak → p.weak.state.active ≡ None → (i : ℕ)
      → is_some (at (pool p.weak.state) i) ≡ true → i < p.weak.state.next
  below-next p is leads idle i there =
      let here : weak_run (weak_start program) p.labels ≡ Some p.weak = subst (λ (t : Tree). weak_run (weak_start t) p.labels ≡ Some p.weak) is leads in
      let g = follow-labels (listed devices refs) (begun_at program) outset (weak_start program) p.weak p.labels (begun-followed devices places program refs accepts source numbered) here in
      let strong = ends-strong (listed devices refs) g.behind (past_all outset p.labels) p.weak g.follows idle in
      let orderly : IsOrderly p.weak.state = subst (λ (w : Weak). IsOrderly w.state) (sym strong) g.follows.calm.orderly in
      numbers-at (λ k. k < p.weak.state.next) p.weak.state.members i (ap is_some (sym (at-pool_idle p.weak.state i idle)) ∙ there) orderly.members_below

-- Stops

module _ (r : CourseView) (none : r.left ≡ []) (idle : r.play.weak.state.active ≡ None) where
  pub found-finished : length (pool r.play.weak.state) ≡ 0 → FoundAtRest r (Some WeakStop.Finished)
  found-finished empty = λ running. (record { none = none; idle = idle; cause = by (pool r.play.weak.state) empty }, tt)
    where
      by : (xs : List (ℕ × Tree)) → length xs ≡ 0 → xs ≡ []
      by [] e = refl
      by (x ∷ xs) e = absurd (omega (arith, e))

  some-there : (length (pool r.play.weak.state) ≡ 0 → ⊥) → pool r.play.weak.state ≢ []
  some-there some = λ is. some (ap length is)

  pub found-spent : (length (pool r.play.weak.state) ≡ 0 → ⊥) → MayGoOn r → r.limit ≤ r.turns → FoundAtRest r (Some WeakStop.Spent)
  found-spent some may all = λ running. (
    record { none = none; idle = idle; cause = (let within = running.within in omega (arith, within, all), some-there some) },
    may,
  )

-- Certificates

pub fails-there : (w : Weak) (t : Try) → HoldsIn w t → t.failing ≡ true
    → fails_after w.state t.certificate.number t.certificate.steps t.certificate.fresh ≡ true
fails-there w t holds failing =
    subst
    (λ (b : Bool). (if b then fails_after w.state t.certificate.number t.certificate.steps t.certificate.fresh
    else is_some (fragment t.certificate.number t.certificate.steps t.certificate.fresh w.state)) ≡ true) failing holds.1

module _ (r : CourseView) (number : ℕ) (old new : List Certificate) where
  abbrev Fails : Certificate → Type 0
  Fails c = fails_after r.play.weak.state c.number c.steps c.fresh ≡ true

  -- one that is there
  pub has-certified : (c : Certificate) → new ≡ old ++ c ∷ [] → c.number ≡ number → (IsRunning r → Fails c) → HasCertified r number old new
  has-certified c more is fails = record {
    fail = λ running all. subst (AllByRecursion Fails) (sym more) (all-more Fails old c all (fails running));
    there = λ there.
        ap (list_any (λ d. d.number == number)) more ∙ list_any-append (λ d. d.number == number) old (c ∷ [])
        ∙ or-there (list_any (λ d. d.number == number) old) (list_any (λ d. d.number == number) (c ∷ []))
        (ap (λ b. b || list_any (λ (d : Certificate). d.number == number) []) (ap (λ n. n == number) is ∙ itself number));
    others = λ i before.
        ap (list_any (λ d. d.number == i)) more ∙ list_any-append (λ d. d.number == i) old (c ∷ [])
        ∙ ap (λ b. b || list_any (λ (d : Certificate). d.number == i) (c ∷ [])) before;
    numbers = inr (ap certified_numbers more ∙ map-append (λ (d : Certificate). d.number) old (c ∷ []) ∙ ap (λ n. certified_numbers old ++ n ∷ []) is);
  }

  -- one that isn't
  pub has-passed : new ≡ old → is_some (at (pool r.play.weak.state) number) ≡ false → HasCertified r number old new
  has-passed same none = record {
    fail = λ running all. subst (AllByRecursion Fails) (sym same) all;
    there = λ there. absurd (let clash : true ≡ false = sym there ∙ none in cc);
    others = λ i before. ap (list_any (λ d. d.number == i)) same ∙ before;
    numbers = inl (ap certified_numbers same);
  }

-- so it is of all below a number
pub record AreCertified (r : CourseView) (n : ℕ) (certificates : List Certificate) : Type 0 where
  pub fail : IsRunning r → AllByRecursion (λ c. fails_after r.play.weak.state c.number c.steps c.fresh ≡ true) certificates
  pub all : (i : ℕ) → i < n → is_some (at (pool r.play.weak.state) i) ≡ true → list_any (λ c. c.number == i) certificates ≡ true
  pub low : All (λ k. k < n) (certified_numbers certificates)
  pub rise : Rise (certified_numbers certificates)

rise-more : (ns : List ℕ) (n : ℕ) → Rise ns → All (λ k. k < n) ns → Rise (ns ++ n ∷ [])
rise-more [] n rise low = (All-nil (λ k. n < k), tt)
rise-more (m ∷ ns) n rise low =
    (All-push (λ k. m < k) ns n rise.0 (All-head (λ k. k < n) m ns low), rise-more ns n rise.1 (All-tail (λ k. k < n) m ns low))

pub certified-more : (r : CourseView) (n : ℕ) (old new : List Certificate) → AreCertified r n old → HasCertified r n old new → AreCertified r (n + 1) new
certified-more r n old new a h = record {
  fail = λ running. h.fail running (a.fail running);
  all = λ i below there. by i there (which i n below);
  low = elim h.numbers [
    | inl same ↦ subst (All (λ k. k < n + 1)) (sym same) still
    | inr more ↦ subst (All (λ k. k < n + 1)) (sym more) (All-push (λ k. k < n + 1) (certified_numbers old) n still (omega arith))
  ];
  rise = elim h.numbers [
    | inl same ↦ subst Rise (sym same) a.rise
    | inr more ↦ subst Rise (sym more) (rise-more (certified_numbers old) n a.rise a.low)
  ];
}
  where
    still : All (λ k. k < n + 1) (certified_numbers old)
    still = λ k d within. let less = a.low k d within in omega (arith, less)

    which : (i n : ℕ) → i < n + 1 → (i ≡ n) ⊎ (i < n)
    which i n below = by-test (nat_lt i n) refl
      where
        by-test : (b : Bool) → nat_lt i n ≡ b → (i ≡ n) ⊎ (i < n)
        by-test true is = inr (grind (arith, nat_tests, is))
        by-test false is = inl (grind (arith, nat_tests, is, below))

    by : (i : ℕ) → is_some (at (pool r.play.weak.state) i) ≡ true → (i ≡ n) ⊎ (i < n) → list_any (λ c. c.number == i) new ≡ true
    by i there (inl same) = subst (λ k. list_any (λ (c : Certificate). c.number == k) new ≡ true) (sym same) (h.there (subst (λ k. is_some (at (pool r.play.weak.state) k) ≡ true) same there))
    by i there (inr less) = h.others i (a.all i less there)

module _ (devices : ℕ) (places : List ℕ) (program : Tree) (refs : List Typ) (accepts : Accepts devices places program refs) (source : IsSourceTerm program) (numbered : IsNumbered 0 program) where
  pub found-blocked : (r : CourseView) (certificates : Vec Certificate Global) → r.play.program ≡ program → r.left ≡ [] → r.play.weak.state.active ≡ None
      → (length (pool r.play.weak.state) ≡ 0 → ⊥) → candidates r.play.weak r.aside ≡ []
      → (IsRunning r → AllByRecursion (λ c. fails_after r.play.weak.state c.number c.steps c.fresh ≡ true) certificates.items)
      → ((i : ℕ) → i < r.play.weak.state.next → is_some (at (pool r.play.weak.state) i) ≡ true → list_any (λ c. c.number == i) certificates.items ≡ true)
      → Rise (certified_numbers certificates.items) → FoundAtRest r (Some (WeakStop.Blocked certificates))
  found-blocked r certificates is none idle some nobody fail all rise = λ running. (
    record {
      none = none;
      idle = idle;
      cause = record {
        some = some-there r none idle some;
        fail = fail running;
        all = λ i there. all i (below-next devices places program refs accepts source numbered r.play is running.played.leads idle i there) there;
        rise = rise;
      };
    },
    nobody,
  )

-- who may go on, as they were listed
pub listed-so : {E : Type 0} (a : Result (Vec ℕ Global) E) (w v : Weak) (f g : ℕ → Bool) → IfOk a (λ may. may.items ≡ candidates w f) → w ≡ v → f ≡ g
    → IfOk a (λ may. may.items ≡ candidates v g)
listed-so a w v f g listed same aside =
    subst (λ (h : ℕ → Bool). IfOk a (λ may. may.items ≡ candidates v h)) aside (subst (λ (z : Weak). IfOk a (λ may. may.items ≡ candidates z f)) same listed)

module _ (may : List ℕ) (n : ℕ) (b : Bool) (test : b ≡ (n == 0)) (count : n ≡ length may) where
  pub nobody-listed : b ≡ true → may ≡ []
  nobody-listed is = nil_from_length may (let none : n ≡ 0 = eqb-true n 0 (sym test ∙ is) in omega (arith, none, count))

  pub somebody-listed : b ≡ false → may ≡ [] → ⊥
  somebody-listed is none = eqb-false n 0 (sym test ∙ is) (count ∙ ap length none)

-- a member that is looked for and isn't there
pub absent-so : {X : Type 0} (f : X → Tree) (o : Option X) (w v : Weak) (n : ℕ) (b : Bool)
    → option_map f o ≡ at (pool w.state) n → w ≡ v → is_some o ≡ not b → b ≡ true
    → is_some (at (pool v.state) n) ≡ false
absent-so f None w v n b found same is there = ap (λ (z : Weak). is_some (at (pool z.state) n)) (sym same) ∙ ap is_some (sym found)
absent-so f (Some x) w v n b found same is there = absurd (let clash : true ≡ false = is ∙ ap not there in cc)

pub certified-none : (r : CourseView) (certificates : List Certificate) → certificates ≡ [] → AreCertified r 0 certificates
certified-none r certificates none = record {
  fail = λ running. subst (AllByRecursion (λ c. fails_after r.play.weak.state c.number c.steps c.fresh ≡ true)) (sym none) tt;
  all = λ i below there. absurd (omega (arith, below));
  low = subst (λ (cs : List Certificate). All (λ k. k < 0) (certified_numbers cs)) (sym none) (All-nil (λ k. k < 0));
  rise = subst (λ (cs : List Certificate). Rise (certified_numbers cs)) (sym none) tt;
}
