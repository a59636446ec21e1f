-- The notes of tries within the bounds meet no form that would become a value that is too high.
use Rattle.std.proofs.Common.{◌≡◌, ℕ, suc, ◌+◌, ◌<◌, ◌==◌, inl, inr, ℤ, Bool, true, false, List, [], ◌∷◌, ◌++◌, append-nil, append_assoc, length, map, Option, Some, None, is_some, option_map, option_and_then, if◌then◌else◌, refl, sym, ap, ◌∙◌, subst, arith, eqb-true}
use Rattle.std.specs.List.{AllByRecursion}
use Rattle.std.proofs.lemmas.Option.{option_and_then_some}
use Rattle.ame_term.specs.Tree.{Tree}
use Rattle.ame_term.specs.Signature.{Signature}
use Rattle.ame_term.specs.Frame.{Side, side_told}
use Rattle.ame_term.specs.State.{State, after}
use Rattle.ame_term.specs.declared.semantics.StepKind.{StepKind}
use Rattle.ame_term.specs.declared.semantics.Label.{Label}
use Rattle.ame_journal.specs.declared.entry.Entry.{Entry}
use Rattle.ame_journal.specs.declared.entry.EntryKind.{EntryKind}
use Rattle.ame_journal.specs.Labels.{fresh_of, made_by}
use Rattle.ame_journal.specs.Replayed.{Replayed, begun_at, has_such, side_at, is_tall}
use Rattle.ame_journal.specs.Replay.{fragment, fails_after, attempt_on, attempt, note_where, replay_kind, replay_entry}
use Rattle.ame_journal.proofs.ReplayLemmas.{replay_from-one}
use Rattle.ame_journal.proofs.StepLemmas.{activated-resting}
use Rattle.ame_check.specs.Entries.{MeetsTall}
use Rattle.ame_weak.specs.Weak.{Weak, holding_none, moved, holds_nothing, held_step, weak_after, weak_run}
use Rattle.ame_weak.specs.Straight.{Place, entries_of_label, past, straight_from}
use Rattle.ame_weak.specs.Tries.{HoldsIn, holds_in, note_for, noted_tries, tries_behind, straight_with}
use Rattle.ame_weak.specs.Bounds.{AreWithinBounds}
use Rattle.ame_weak.specs.declared.tries.Try.{Try}
use Rattle.ame_weak.proofs.HeldSteps.{if-gave, map-gave}
use Rattle.ame_weak.proofs.WayLemmas.{IsUnderWay, way-begun, way-step}
use Rattle.ame_weak.proofs.StraightLemmas.{past_all, ends-strong}
use Rattle.ame_runner.specs.Within.{AreMadeWithin, IsTriedWithin, IsReachedWithin}
use Rattle.ame_certified.specs.WeakTries.{IsTallNote}
use Rattle.ame_certified.proofs.JudgedLemmas.{one-low}
use Rattle.ame_certified.proofs.WayLemmas.{WayIsLow, way-none}
use Rattle.ame_certified.proofs.WeakLemmas.{IsLowSo, stepped-way, label-low}

-- The steps of a try

module _ (signature : Signature) (s : State) (i : ℕ) where
  steps-low : (kinds : List StepKind) (n : ℕ) (fresh : List ℕ) (w v : Weak) → IsUnderWay signature s i n fresh w → WayIsLow s i n fresh
      → weak_run w (map Label.Step kinds) ≡ Some v → AreWithinBounds w (map Label.Step kinds) → WayIsLow s i (n + length kinds) (fresh ++ made_by kinds)
  unfolding weak_after
  steps-low [] n fresh w v u low e within =
      let none : n ≡ n + 0 = omega arith in
      subst (λ (k : ℕ). WayIsLow s i k (fresh ++ [])) none (subst (WayIsLow s i n) (sym (append-nil fresh)) low)
  steps-low (kind ∷ kinds) n fresh w v u low e within =
      option_and_then_some _ _ _ e (λ x first rest.
      let made : held_step kind i w ≡ Some x = ap (λ (o : Option ℕ). option_and_then (λ (k : ℕ). held_step kind k w) o) (sym u.laid.active) ∙ first in
      let one = stepped-way signature s i n fresh w u low kind within.0 in
      let all = steps-low kinds (n + 1) (fresh ++ fresh_of kind) x v (way-step signature s i n fresh w u kind x made) one rest (within.1 x first) in
      let count : n + 1 + length kinds ≡ n + suc (length kinds) = omega arith in
      subst (λ (k : ℕ). WayIsLow s i k (fresh ++ (fresh_of kind ++ made_by kinds))) count
      (subst (WayIsLow s i (n + 1 + length kinds)) (append_assoc fresh (fresh_of kind) (made_by kinds)) all))

-- a fragment that begins in a state at rest
record IsTriedThere (s : State) (i n : ℕ) (fresh : List ℕ) : Type 0 where
  on : side_at i s ≡ Side.Protected
  low : WayIsLow s i n fresh

tried-there : (signature : Signature) (r : Replayed) (p : Place) (w : Weak) (program : Tree) (journal : List Entry) → IsLowSo signature program journal r p w → w ≡ holding_none r.state
    → (i n : ℕ) (fresh : List ℕ) → AreMadeWithin w i n fresh → IsTriedThere r.state i n fresh
unfolding weak_after
tried-there signature r p w program journal h rests i n fresh tried =
    option_and_then_some _ _ _ tried.leads (λ x first rest.
    let b = if-gave (holds_nothing w) (option_map (moved w) (after w.state (Label.Activate i))) x first in
    let m = map-gave (moved w) (after w.state (Label.Activate i)) x b.1 in
    let legal : after r.state (Label.Activate i) ≡ Some m.0 = ap (λ (z : Weak). after z.state (Label.Activate i)) (sym rests) ∙ m.1 in
    let begun : holding_none m.0 ≡ x = ap (λ (z : Weak). moved z m.0) (sym rests) ∙ m.2 in
    let u = subst (IsUnderWay signature r.state i 0 []) begun (way-begun signature h.follows.cells r.state i m.0 h.follows.typed h.follows.calm.idle h.follows.calm.orderly legal) in
    let all = steps-low signature r.state i tried.kinds 0 [] x tried.reached u (way-none r.state i []) rest (tried.within.1 x first) in
    let count : 0 + length tried.kinds ≡ n = (let k : n ≡ length tried.kinds = tried.steps in omega arith) in
    record {
      on = ap side_told (activated-resting i r.state m.0 legal);
      low = subst (λ (k : ℕ). WayIsLow r.state i k fresh) count (subst (WayIsLow r.state i (0 + length tried.kinds)) (sym tried.made) all);
    })

note-met : (r : Replayed) (entry : Entry) → IsTriedThere r.state entry.number entry.steps entry.fresh → MeetsTall r entry → ⊥
note-met r entry there m =
    there.low m.made m.used m.rest m.there m.below m.front
    (ap (λ (side : Side). attempt_on side entry.number m.made m.used r.state) (sym there.on) ∙ m.leads)
    (ap (λ (side : Side). is_tall side entry.number m.there) (sym there.on) ∙ m.tall)

-- and its note can be made
kind-made : (b : Bool) (r : Replayed) (i n : ℕ) (fresh : List ℕ) → side_at i r.state ≡ Side.Protected
    → (if b then fails_after r.state i n fresh else is_some (fragment i n fresh r.state)) ≡ true
    → replay_kind (if b then EntryKind.Stuck else EntryKind.Cut) r i n fresh None ≡ Some r
kind-made true r i n fresh on holds = ap (λ (x : Bool). note_where x r) holds
kind-made false r i n fresh on holds =
    ap (λ (side : Side). note_where (is_some (attempt_on side i n fresh r.state)) r) on ∙ ap (λ (x : Bool). note_where x r) holds

note-made : (r : Replayed) (t : Try) → side_at t.certificate.number r.state ≡ Side.Protected → holds_in (holding_none r.state) t ≡ true → replay_entry r (note_for t) ≡ Some r
unfolding replay_entry
note-made r t on holds = kind-made t.failing r t.certificate.number t.certificate.steps t.certificate.fresh on holds

-- Tries from here, after n labels

abbrev pub IsGoodFrom : ℕ → Weak → List Label → Try → Type 0
IsGoodFrom n w labels t =
    (front rest : List Label) (v : Weak) → labels ≡ front ++ rest → n + length front ≡ t.after → weak_run w front ≡ Some v → HoldsIn v t × IsTriedWithin v t

good-here : (n : ℕ) (w : Weak) (labels : List Label) (t : Try) → IsGoodFrom n w labels t → t.after ≡ n → HoldsIn w t × IsTriedWithin w t
good-here n w labels t good is = good [] labels w refl (omega arith) refl

good-behind : (n : ℕ) (w x : Weak) (label : Label) (labels : List Label) (t : Try) → weak_after w label ≡ Some x → IsGoodFrom n w (label ∷ labels) t → IsGoodFrom (n + 1) x labels t
good-behind n w x label labels t first good = λ front rest v is count run.
    let more : n + suc (length front) ≡ t.after = omega arith in
    good (label ∷ front) rest v (ap (λ (ls : List Label). label ∷ ls) is) more (ap (option_and_then (λ z. weak_run z front)) first ∙ run)

later-all : (P Q : Try → Type 0) → ((t : Try) → P t → Q t) → (n : ℕ) (ts : List Try) → AllByRecursion P ts → AllByRecursion Q (tries_behind n ts)
later-all P Q f n [] all = tt
later-all P Q f n (t ∷ ts) all = by (t.after == n) (later-all P Q f n ts all.1)
  where
    rest : (us : List Try) → AllByRecursion P us → AllByRecursion Q us
    rest [] all = tt
    rest (u ∷ us) all = (f u all.0, rest us all.1)

    by : (b : Bool) → AllByRecursion Q (tries_behind n ts) → AllByRecursion Q (if b then tries_behind n ts else t ∷ ts)
    by true others = others
    by false others = (f t all.0, rest ts all.1)

module _ (signature : Signature) (program : Tree) where
  one-noted : (journal : List Entry) (r : Replayed) (p : Place) (w : Weak) (t : Try) → IsLowSo signature program journal r p w → HoldsIn w t × IsTriedWithin w t
      → IsLowSo signature program (journal ++ note_for t ∷ []) r p w
  one-noted journal r p w t h good =
      let rests = ends-strong signature r p w h.follows good.0.0 in
      let there = tried-there signature r p w program journal h rests t.certificate.number t.certificate.steps t.certificate.fresh good.1 in
      let made = note-made r t there.on (ap (λ (z : Weak). holds_in z t) (sym rests) ∙ good.0.1) in
      record {
        follows = h.follows;
        replayed = replay_from-one (begun_at program) journal (note_for t) ∙ ap (option_and_then (λ (z : Replayed). replay_entry z (note_for t))) h.replayed ∙ made;
        low = one-low program journal (note_for t) r h.replayed h.low (note-met r (note_for t) there);
        way = h.way;
      }

  notes-low : (n : ℕ) (labels : List Label) (ts : List Try) (journal : List Entry) (r : Replayed) (p : Place) (w : Weak) → IsLowSo signature program journal r p w
      → AllByRecursion (IsGoodFrom n w labels) ts → IsLowSo signature program (journal ++ noted_tries n ts) r p w
  notes-low n labels [] journal r p w h all = subst (λ (es : List Entry). IsLowSo signature program es r p w) (sym (append-nil journal)) h
  notes-low n labels (t ∷ ts) journal r p w h all = by (t.after == n) refl (λ longer. notes-low n labels ts longer r p w)
    where
      by : (b : Bool) → (t.after == n) ≡ b
          → ((longer : List Entry) → IsLowSo signature program longer r p w → AllByRecursion (IsGoodFrom n w labels) ts → IsLowSo signature program (longer ++ noted_tries n ts) r p w)
          → IsLowSo signature program (journal ++ (if b then note_for t ∷ noted_tries n ts else [])) r p w
      by false is later = subst (λ (es : List Entry). IsLowSo signature program es r p w) (sym (append-nil journal)) h
      by true is later =
          let first = one-noted journal r p w t h (good-here n w labels t all.0 (eqb-true t.after n is)) in
          subst (λ (es : List Entry). IsLowSo signature program es r p w) (append_assoc journal (note_for t ∷ []) (noted_tries n ts)) (later (journal ++ note_for t ∷ []) first all.1)

  -- labels from here, with the notes of tries
  pub with-low : (n : ℕ) (ts : List Try) (labels : List Label) (journal : List Entry) (r : Replayed) (p : Place) (w v : Weak) → IsLowSo signature program journal r p w
      → AllByRecursion (IsGoodFrom n w labels) ts → weak_run w labels ≡ Some v → AreWithinBounds w labels
      → (behind : Replayed) × IsLowSo signature program (journal ++ straight_with n ts p labels) behind (past_all p labels) v
  with-low n ts [] journal r p w v h all e within =
      let same : w ≡ v = cc in
      (r, subst (IsLowSo signature program (journal ++ noted_tries n ts) r p) same (notes-low n [] ts journal r p w h all))
  with-low n ts (label ∷ labels) journal r p w v h all e within =
      option_and_then_some _ _ _ e (λ x first rest.
      let notes = notes-low n (label ∷ labels) ts journal r p w h all in
      let one = label-low signature program (journal ++ noted_tries n ts) r p w x notes label first within.0 in
      let others = later-all (IsGoodFrom n w (label ∷ labels)) (IsGoodFrom (n + 1) x labels) (λ t good. good-behind n w x label labels t first good) n ts all in
      let last = straight_with (n + 1) (tries_behind n ts) (past p label) labels in
      let so = with-low (n + 1) (tries_behind n ts) labels ((journal ++ noted_tries n ts) ++ entries_of_label p label) one.0 (past p label) x v
      one.1
      others rest (within.1 x first) in (
        so.0,
        subst (λ (es : List Entry). IsLowSo signature program es so.0 (past_all (past p label) labels) v)
            (append_assoc (journal ++ noted_tries n ts) (entries_of_label p label) last ∙ append_assoc journal (noted_tries n ts) (entries_of_label p label ++ last)) so.1,
      ))

-- and with the note of a member that grows too tall

no-step : (r : Replayed) (entry : Entry) → entry.steps ≡ 0 → MeetsTall r entry → ⊥
no-step r entry none m = let below : m.made < entry.steps = m.below in omega arith

tall-made : (r : Replayed) (kind : EntryKind) (i n : ℕ) (fresh : List ℕ) (answer : Option ℤ) → kind ≡ EntryKind.Tall → answer ≡ None
    → has_such (is_tall (side_at i r.state) i) (attempt i n fresh r.state) ≡ true → replay_kind kind r i n fresh answer ≡ Some r
tall-made r kind i n fresh answer is none comes =
    ap (λ (k : EntryKind). replay_kind k r i n fresh answer) is ∙ ap (λ (o : Option ℤ). replay_kind EntryKind.Tall r i n fresh o) none
    ∙ ap (λ (b : Bool). note_where b r) comes

module _ (signature : Signature) (program : Tree) (journal : List Entry) (r : Replayed) (p : Place) (w : Weak) (h : IsLowSo signature program journal r p w)
    (idle : w.state.active ≡ None) (entry : Entry) (note : IsTallNote w entry) where
  rests : w ≡ holding_none r.state
  rests = ends-strong signature r p w h.follows idle

  tall-note_made : replay_entry r entry ≡ Some r
  unfolding replay_entry
  tall-note_made =
      tall-made r entry.kind entry.number entry.steps entry.fresh entry.answer note.kind note.answer
      (ap (λ (z : Weak). has_such (is_tall (side_at entry.number z.state) entry.number) (attempt entry.number entry.steps entry.fresh z.state)) (sym rests) ∙ note.comes)

  met : IsReachedWithin w entry → MeetsTall r entry → ⊥
  met (inl none) m = no-step r entry none m
  met (inr within) m = note-met r entry (tried-there signature r p w program journal h rests entry.number entry.steps entry.fresh within) m

  pub tall-noted : IsLowSo signature program (journal ++ entry ∷ []) r p w
  tall-noted = record {
    follows = h.follows;
    replayed = replay_from-one (begun_at program) journal entry ∙ ap (option_and_then (λ (z : Replayed). replay_entry z entry)) h.replayed ∙ tall-note_made;
    low = one-low program journal entry r h.replayed h.low (met note.within);
    way = h.way;
  }

-- without tries
pub straight-alone : (n : ℕ) (p : Place) (labels : List Label) → straight_with n [] p labels ≡ straight_from p labels
straight-alone n p [] = refl
straight-alone n p (label ∷ labels) = ap (λ (es : List Entry). entries_of_label p label ++ es) (straight-alone (n + 1) (past p label) labels)
