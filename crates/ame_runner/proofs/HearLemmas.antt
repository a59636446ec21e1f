-- The calls that devices have heard when a run goes on.
use Rattle.std.proofs.Common.{◌≡◌, ℕ, ◌++◌, List, [], ◌∷◌, Option, Some, None, Result, Ok, Err, refl, sym, ◌∙◌, subst}
use Rattle.std.specs.Prelude.{OnOk}
use Rattle.ame_term.specs.Tree.{Typ, Tree}
use Rattle.ame_term.specs.SourceTerm.{IsSourceTerm}
use Rattle.ame_term.specs.Numbered.{IsNumbered}
use Rattle.ame_term.specs.Typing.{Accepts}
use Rattle.ame_term.specs.declared.semantics.Label.{Label}
use Rattle.ame_device.specs.declared.told.Told.{Told}
use Rattle.ame_weak.specs.Weak.{weak_start, weak_run}
use Rattle.ame_weak.specs.Straight.{straight}
use Rattle.ame_shell.specs.Ends.{told_at}
use Rattle.ame_shell.specs.Heard.{HaveHeard, NoneFailed}
use Rattle.ame_io.specs.Counts.{HasRisen}
use Rattle.ame_runner.specs.Play.{PlayView, IsPlayedWeakly, HasMadeLabel}
use Rattle.ame_runner.specs.Freeing.{HasCalledFor}
use Rattle.ame_runner.specs.Run.{CourseView, IsOwn, IsRunning}
use Rattle.ame_runner.specs.Stop.{FailsBy, HearsOn}
use Rattle.ame_runner.specs.declared.stop.WeakStop.{WeakStop}
use Rattle.ame_runner.proofs.DeviceLemmas.{own-silent, heard-still, heard-more}

pub ok-then : {X E : Type 0} (a : Result X E) (P Q : Type 0) → (P → Q) → OnOk a P → OnOk a Q
ok-then (Ok x) P Q f p = f p
ok-then (Err e) P Q f p = p

module _ (devices : ℕ) (places : List ℕ) (program : Tree) (refs : List Typ) (accepts : Accepts devices places program refs) (source : IsSourceTerm program) (numbered : IsNumbered 0 program) where
  module _ (r q : PlayView) (label : Label) (made : HasMadeLabel label r q) (is : r.program ≡ program) (played : IsPlayedWeakly r) (opened now : List Told)
      (heard : HaveHeard r.program (straight r.labels) opened now) where
    leads : weak_run (weak_start program) r.labels ≡ Some r.weak
    leads = subst (λ (t : Tree). weak_run (weak_start t) r.labels ≡ Some r.weak) is played.leads

    heard-here : HaveHeard program (straight r.labels) opened now
    heard-here = subst (λ (t : Tree). HaveHeard t (straight r.labels) opened now) is heard

    told-so : (after : List Told) → HaveHeard program (straight (r.labels ++ label ∷ [])) opened after → HaveHeard q.program (straight q.labels) opened after
    told-so after h =
        subst (λ (ls : List Label). HaveHeard q.program (straight ls) opened after) (sym made.labels)
        (subst (λ (t : Tree). HaveHeard t (straight (r.labels ++ label ∷ [])) opened after) (sym (made.program ∙ is)) h)

    -- a label of the active member
    pub hears-own : IsOwn label → HaveHeard q.program (straight q.labels) opened now
    hears-own own =
        told-so now
        (heard-still devices places program refs accepts source numbered r.labels r.weak q.weak label leads made.legal opened now heard-here (own-silent label own))

    -- a label under `unprotected`
    pub hears-free : (i : ℕ) (after : List Told) → HasCalledFor r.weak i now after label → HaveHeard q.program (straight q.labels) opened after
    hears-free i after called =
        told-so after (heard-more devices places program refs accepts source numbered r.labels r.weak q.weak label leads made.legal opened now heard-here i after called)

none-then : (a b c : List Told) → NoneFailed a b → NoneFailed b c → NoneFailed a c
none-then a b c first second = λ k. second k ∙ first k

fails-then : (stop : Option WeakStop) (a b c : List Told) → NoneFailed a b → FailsBy stop b c → FailsBy stop a c
fails-then None a b c first second = none-then a b c first second
fails-then (Some WeakStop.Finished) a b c first second = none-then a b c first second
fails-then (Some (WeakStop.Blocked certificates)) a b c first second = none-then a b c first second
fails-then (Some WeakStop.Spent) a b c first second = none-then a b c first second
fails-then (Some WeakStop.NoMemory) a b c first second = none-then a b c first second
fails-then (Some (WeakStop.Tall entry)) a b c first second = none-then a b c first second
fails-then (Some (WeakStop.DeviceFault device)) a b c first second = record {
  risen = subst (λ n. HasRisen n (told_at c device).faults) (first device) second.risen;
  others = λ other apart. second.others other apart ∙ first other;
}

-- nothing is made
pub hears-still : (r q : CourseView) (told : List Told) → q.play ≡ r.play → HearsOn None r q told told
hears-still r q told same = λ opened running heard. (subst (λ (p : PlayView). HaveHeard p.program (straight p.labels) opened told) (sym same) heard, λ k. refl)

-- one after the other
pub hears-then : (stop : Option WeakStop) (r m q : CourseView) (before now after : List Told)
    → HearsOn None r m before now → (IsRunning r → IsRunning m) → HearsOn stop m q now after
    → HearsOn stop r q before after
hears-then stop r m q before now after first runs second = λ opened running heard.
    let a = first opened running heard in
    let b = second opened (runs running) a.0 in
    (b.0, fails-then stop before now after a.1 b.1)
