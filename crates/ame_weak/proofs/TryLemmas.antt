-- A journal with the notes of attempts.
use Rattle.std.proofs.Common.{◌≡◌, ℕ, zero, suc, ◌+◌, ◌==◌, ◌++◌, Bool, true, false, List, [], ◌∷◌, length, Option, Some, None, is_some, option_and_then, if◌then◌else◌, refl, sym, ap, ◌∙◌, subst, arith, eqb-true}
use Rattle.std.proofs.lemmas.Option.{option_and_then_some}
use Rattle.std.specs.List.{AllByRecursion}
use Rattle.ame_term.specs.Tree.{Typ, Tree}
use Rattle.ame_term.specs.Signature.{Signature, listed}
use Rattle.ame_term.specs.Frame.{Side, side_told}
use Rattle.ame_term.specs.SourceTerm.{IsSourceTerm}
use Rattle.ame_term.specs.Numbered.{IsNumbered}
use Rattle.ame_term.specs.State.{State, after}
use Rattle.ame_term.specs.Typing.{Accepts}
use Rattle.ame_term.specs.declared.semantics.Label.{Label}
use Rattle.ame_journal.specs.declared.entry.Entry.{Entry}
use Rattle.ame_journal.specs.declared.entry.EntryKind.{EntryKind}
use Rattle.ame_journal.specs.Replayed.{Replayed, begun_at, side_at}
use Rattle.ame_journal.specs.Replay.{steps, locations, replay_kind, replay_entry, replay_from, replay, fails_after, fragment, attempt_on, note_where}
use Rattle.ame_journal.specs.Calls.{label_call, of_next, device_calls_from, device_calls}
use Rattle.ame_journal.proofs.StepLemmas.{activated-resting}
use Rattle.ame_journal.proofs.ReplayLemmas.{replay_from-append}
use Rattle.ame_journal.proofs.CallLemmas.{calls-appended}
use Rattle.ame_weak.specs.Weak.{Weak, holding_none, weak_start, weak_after, weak_run, weak_calls}
use Rattle.ame_weak.specs.Straight.{Place, outset, entries_of_label, past}
use Rattle.ame_weak.specs.Tries.{HoldsIn, holds_in, AreTried, note_for, noted_tries, tries_behind, straight_with}
use Rattle.ame_weak.specs.declared.tries.Try.{Try}
use Rattle.ame_weak.proofs.EntryLemmas.{replay-next}
use Rattle.ame_weak.proofs.Follow.{IsFollowed, follow-label}
use Rattle.ame_weak.proofs.StraightLemmas.{past_all, ends-strong, begun-followed}

-- a member that can run a fragment stands in protected code
there-of : (o : Option State) (go : State → Option State) → is_some (option_and_then go o) ≡ true → (a : State) × (o ≡ Some a)
there-of None go e = cc
there-of (Some a) go e = (a, refl)

stands-protected : (s : State) (i n : ℕ) (fresh : List ℕ) → is_some (fragment i n fresh s) ≡ true → side_at i s ≡ Side.Protected
stands-protected s i n fresh e =
    let a = there-of (after s (Label.Activate i)) (λ t. steps Label.Step i n (locations fresh) t) e in
    ap side_told (activated-resting i s a.0 a.1)

-- an attempt that holds is a note that can be made
kind-made : (b : Bool) (r : Replayed) (i n : ℕ) (fresh : List ℕ) → (if b then fails_after r.state i n fresh else is_some (fragment i n fresh r.state)) ≡ true
    → replay_kind (if b then EntryKind.Stuck else EntryKind.Cut) r i n fresh None ≡ Some r
kind-made true r i n fresh holds = ap (λ (x : Bool). note_where x r) holds
kind-made false r i n fresh holds =
    ap (λ (side : Side). note_where (is_some (attempt_on side i n fresh r.state)) r) (stands-protected r.state i n fresh holds) ∙ ap (λ (x : Bool). note_where x r) holds

note-made : (r : Replayed) (t : Try) → holds_in (holding_none r.state) t ≡ true → replay_entry r (note_for t) ≡ Some r
unfolding replay_entry
note-made r t holds = kind-made t.failing r t.certificate.number t.certificate.steps t.certificate.fresh holds

no-call : (k i n : ℕ) (r : Replayed) (t : Try) (entries : List Entry) → t.certificate.steps ≡ n → replay_entry r (note_for t) ≡ Some r
    → device_calls_from k r (note_for t ∷ entries) ≡ device_calls_from k r entries
no-call k i n r t entries count made = by t.certificate.steps ∙ ap (of_next (λ z. device_calls_from k z entries)) made
  where
    by : (m : ℕ) → device_calls_from k r (record { kind = if t.failing then EntryKind.Stuck else EntryKind.Cut; seat = 0; number = t.certificate.number; steps = m; fresh = t.certificate.fresh; answer = None } ∷ entries)
        ≡ of_next (λ z. device_calls_from k z entries) (replay_entry r (record { kind = if t.failing then EntryKind.Stuck else EntryKind.Cut; seat = 0; number = t.certificate.number; steps = m; fresh = t.certificate.fresh; answer = None }))
    by zero = refl
    by (suc m) = refl

-- an attempt holds from a point on that n labels have reached
abbrev IsTriedFrom : ℕ → Weak → List Label → Try → Type 0
IsTriedFrom n w labels t = (front rest : List Label) (v : Weak) → labels ≡ front ++ rest → n + length front ≡ t.after → weak_run w front ≡ Some v → HoldsIn v t

tried-here : (n : ℕ) (w : Weak) (labels : List Label) (t : Try) → IsTriedFrom n w labels t → t.after ≡ n → HoldsIn w t
tried-here n w labels t tried is = tried [] labels w refl (omega arith) refl

tried-behind : (n : ℕ) (w x : Weak) (label : Label) (labels : List Label) (t : Try) → weak_after w label ≡ Some x → IsTriedFrom n w (label ∷ labels) t → IsTriedFrom (n + 1) x labels t
tried-behind n w x label labels t first tried = λ front rest v is count run.
    let more : n + suc (length front) ≡ t.after = omega arith in
    tried (label ∷ front) rest v (ap (λ (ls : List Label). label ∷ ls) is) more (ap (option_and_then (λ z. weak_run z front)) first ∙ run)

-- a fact of all attempts holds of the later ones
later-all : (P Q : Try → Type 0) → ((t : Try) → P t → Q t) → (n : ℕ) (ts : List Try) → AllByRecursion P ts → AllByRecursion Q (tries_behind n ts)
later-all P Q f n [] all = tt
later-all P Q f n (t ∷ ts) all = by (t.after == n) (later-all P Q f n ts all.1)
  where
    rest : (us : List Try) → AllByRecursion P us → AllByRecursion Q us
    rest [] all = tt
    rest (u ∷ us) all = (f u all.0, rest us all.1)

    by : (b : Bool) → AllByRecursion Q (tries_behind n ts) → AllByRecursion Q (if b then tries_behind n ts else t ∷ ts)
    by true others = others
    by false others = (f t all.0, rest ts all.1)

record IsNoted (r : Replayed) (entries : List Entry) : Type 0 where
  pub replays : replay_from r entries ≡ Some r
  pub called : (k : ℕ) → device_calls_from k r entries ≡ []

module _ (signature : Signature) where
  notes-made : (n : ℕ) (r : Replayed) (p : Place) (w : Weak) (labels : List Label) → IsFollowed signature r p w → (ts : List Try) → AllByRecursion (IsTriedFrom n w labels) ts
      → IsNoted r (noted_tries n ts)
  notes-made n r p w labels f [] all = record { replays = refl; called = λ k. refl }
  notes-made n r p w labels f (t ∷ ts) all = by (t.after == n) refl (notes-made n r p w labels f ts all.1)
    where
      by : (b : Bool) → (t.after == n) ≡ b → IsNoted r (noted_tries n ts) → IsNoted r (if b then note_for t ∷ noted_tries n ts else [])
      by false is rest = record { replays = refl; called = λ k. refl }
      by true is rest =
          let h = tried-here n w labels t all.0 (eqb-true t.after n is) in
          let strong = ends-strong signature r p w f h.0 in
          let made = note-made r t (ap (λ (z : Weak). holds_in z t) (sym strong) ∙ h.1) in
          record {
            replays = replay-next r r r (note_for t) (noted_tries n ts) made rest.replays;
            called = λ k. no-call k t.certificate.number t.certificate.steps r t (noted_tries n ts) refl made ∙ rest.called k;
          }

  pub record IsFollowedWith (r : Replayed) (p : Place) (w : Weak) (entries : List Entry) (labels : List Label) (v : Weak) : Type 0 where
    pub behind : Replayed
    pub replays : replay_from r entries ≡ Some behind
    pub called : (k : ℕ) → device_calls_from k r entries ≡ weak_calls k w labels
    pub follows : IsFollowed signature behind (past_all p labels) v

  pub follow-with : (n : ℕ) (ts : List Try) (r : Replayed) (p : Place) (w v : Weak) (labels : List Label) → IsFollowed signature r p w
      → AllByRecursion (IsTriedFrom n w labels) ts → weak_run w labels ≡ Some v → IsFollowedWith r p w (straight_with n ts p labels) labels v
  follow-with n ts r p w v [] f all e =
      let same : w ≡ v = cc in
      let notes = notes-made n r p w [] f ts all in
      record { behind = r; replays = notes.replays; called = notes.called; follows = subst (IsFollowed signature r p) same f }
  follow-with n ts r p w v (label ∷ labels) f all e =
      option_and_then_some _ _ _ e (λ x first rest.
      let notes = notes-made n r p w (label ∷ labels) f ts all in
      let a = follow-label signature r p w x label f first in
      let others = later-all (IsTriedFrom n w (label ∷ labels)) (IsTriedFrom (n + 1) x labels) (λ t tried. tried-behind n w x label labels t first tried) n ts all in
      let b = follow-with (n + 1) (tries_behind n ts) a.behind (past p label) x v labels a.follows others rest in
      let last = straight_with (n + 1) (tries_behind n ts) (past p label) labels in
      let of_label : replay_from r (entries_of_label p label ++ last) ≡ Some b.behind =
      replay_from-append r (entries_of_label p label) last ∙ ap (λ (o : Option Replayed). option_and_then (λ t. replay_from t last) o) a.replays ∙ b.replays in
      record {
        behind = b.behind;
        replays =
            replay_from-append r (noted_tries n ts) (entries_of_label p label ++ last)
            ∙ ap (λ (o : Option Replayed). option_and_then (λ t. replay_from t (entries_of_label p label ++ last)) o) notes.replays ∙ of_label;
        called = λ k.
            calls-appended k r r (noted_tries n ts) (entries_of_label p label ++ last) notes.replays
            ∙ ap (λ xs. xs ++ device_calls_from k r (entries_of_label p label ++ last)) (notes.called k)
            ∙ calls-appended k r a.behind (entries_of_label p label) last a.replays
            ∙ ap (λ xs. xs ++ device_calls_from k a.behind last) (a.called k)
            ∙ ap (λ xs. label_call k w.state label ++ xs) (b.called k)
            ∙ ap (λ (o : Option Weak). label_call k w.state label ++ of_next (λ z. weak_calls k z labels) o) (sym first);
        follows = b.follows;
      })

module _ (devices : ℕ) (places : List ℕ) (program : Tree) (refs : List Typ) (accepts : Accepts devices places program refs) (source : IsSourceTerm program) (numbered : IsNumbered 0 program) where
  all-from-0 : (labels : List Label) (ts : List Try) → AreTried program labels ts → AllByRecursion (IsTriedFrom 0 (weak_start program) labels) ts
  all-from-0 labels [] all = tt
  all-from-0 labels (t ∷ ts) all = ((λ front rest v is count run. all.0 front rest v is (omega arith) run), all-from-0 labels ts all.1)

  pub tries_straighten : (labels : List Label) (ts : List Try) (w : Weak) → AreTried program labels ts → weak_run (weak_start program) labels ≡ Some w → w.state.active ≡ None
      → (r : Replayed) × (replay program (straight_with 0 ts outset labels) ≡ Some r) × (w ≡ holding_none r.state)
  tries_straighten labels ts w all e idle =
      let a = follow-with (listed devices refs) 0 ts (begun_at program) outset (weak_start program) w labels (begun-followed devices places program refs accepts source numbered) (all-from-0 labels ts all) e in
      (a.behind, a.replays, ends-strong (listed devices refs) a.behind (past_all outset labels) w a.follows idle)

  pub calls_are_told_with : (k : ℕ) (labels : List Label) (ts : List Try) (w : Weak) → AreTried program labels ts → weak_run (weak_start program) labels ≡ Some w
      → device_calls k program (straight_with 0 ts outset labels) ≡ weak_calls k (weak_start program) labels
  calls_are_told_with k labels ts w all e =
      (follow-with (listed devices refs) 0 ts (begun_at program) outset (weak_start program) w labels (begun-followed devices places program refs accepts source numbered) (all-from-0 labels ts all) e).called k
