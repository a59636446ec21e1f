-- The end and the journal of a weak run, once its labels are straightened.
use Rattle.std.proofs.Common.{◌≡◌, ◌≢◌, ℕ, zero, suc, ◌+◌, ◌*◌, ◌<◌, ◌≤◌, ◌==◌, ◌⊎◌, inl, inr, Bool, true, false, List, [], ◌∷◌, ◌++◌, map, length}
use Rattle.std.proofs.Common.{drop, cond, All, Option, Some, None, is_some, option_and_then, if◌then◌else◌, refl, sym, ap, ◌∙◌, subst, arith}
use Rattle.std.proofs.Common.{append_assoc, append-nil, ℤ}
use Rattle.std.specs.Prelude.{Contains, IsSome, ◌||◌, slice_get, option_to_list}
use Rattle.std.specs.List.{AllByRecursion, list_any}
use Rattle.std.proofs.lemmas.Bool.{eqb-true, eq-eqb, ne_eqb}
use Rattle.std.proofs.lemmas.Option.{option_and_then_some}
use Rattle.std.proofs.lemmas.List.Elements.{All-nil, All-cons, All-append}
use Rattle.ame_term.specs.Tree.{Tree, Val as Value}
use Rattle.ame_term.specs.Signature.{Signature}
use Rattle.ame_term.specs.View.{tree_of}
use Rattle.ame_term.specs.declared.accepted.Accepted.{Accepted}
use Rattle.ame_laws.specs.Typed.Listed.{signature_of}
use Rattle.ame_term.specs.declared.types.Unary.TheVariants as unary
use Rattle.ame_term.specs.Act.{act_of, device_answer}
use Rattle.ame_term.specs.Maps.{at}
use Rattle.ame_term.specs.State.{State, after, run}
use Rattle.ame_term.specs.declared.semantics.StepKind.{StepKind}
use Rattle.ame_term.specs.declared.semantics.Label.{Label}
use Rattle.ame_laws.specs.Typed.StoreTyping.{StoreTyping}
use Rattle.ame_laws.specs.Typed.TypedState.{IsTyped}
use Rattle.ame_laws.proofs.MapLemmas.{is_at-here}
use Rattle.ame_device.specs.declared.told.Told.{Told}
use Rattle.ame_journal.specs.declared.entry.Entry.{Entry}
use Rattle.ame_journal.specs.declared.entry.EntryKind.{EntryKind}
use Rattle.ame_journal.specs.JournalView.{IsFit}
use Rattle.ame_journal.specs.Labels.{fresh_of}
use Rattle.ame_journal.specs.Replayed.{Replayed, begun_at, has_such, is_failing, side_at, is_tall}
use Rattle.ame_journal.specs.Replay.{replay, replay_from, replay_entry, replay_kind, note_where, fragment, attempt, fails_after}
use Rattle.ame_journal.specs.Calls.{last_call, of_next, device_calls, device_calls_from}
use Rattle.ame_journal.proofs.CallLemmas.{calls-appended}
use Rattle.ame_journal.proofs.ReplayLemmas.{replay_from-append}
use Rattle.ame_protocol.specs.Waits.Once.{HasEntryAt}
use Rattle.ame_journal.specs.Totals.{total_steps}
use Rattle.ame_journal.proofs.LabelLemmas.{fragment_run}
use Rattle.ame_journal.proofs.StepLemmas.{step-keeps}
use Rattle.ame_protocol.specs.Waits.Certificates.{IsCertificate}
use Rattle.ame_journal.specs.declared.certificate.Certificate.{Certificate}
use Rattle.ame_protocol.specs.declared.stop.Stop.{Stop}
use Rattle.ame_protocol.specs.Event.Causes.{is_ordinary, AreOrdinary, EndsWith, IsTall, NotesStop}
use Rattle.ame_engine.specs.Ending.{CertifyAll}
use Rattle.ame_shell.specs.Ends.{told_at}
use Rattle.ame_shell.specs.Heard.{answered_all, and_more, HaveHeard, HaveFailed}
use Rattle.ame_shell.specs.Over.{AreOfSeats}
use Rattle.ame_strong.specs.Pool.{pool, but}
use Rattle.ame_strong.specs.Next.{next_of}
use Rattle.ame_strong.specs.Told.{TellsOfMember}
use Rattle.ame_strong.proofs.PoolLemmas.{at-pool_found}
use Rattle.ame_strong.proofs.ToldLemmas.{tells}
use Rattle.ame_strong.specs.declared.next_label.Next.{Next}
use Rattle.ame_strong.specs.declared.next_label.Next.TheVariants as next
use Rattle.ame_weak.specs.Weak.{Weak, holding_none, weak_start, IsWeakRun, weak_calls}
use Rattle.ame_weak.specs.Straight.{Place, outset, arrival_where, freed, entries_of_label, past, straight}
use Rattle.ame_weak.specs.Tries.{AreTried, AreTriesInOrder, note_for, noted_tries, tries_behind, straight_with}
use Rattle.ame_weak.specs.declared.tries.Try.{Try}
use Rattle.ame_weak.proofs.WayLemmas.{activate-found}
use Rattle.ame_runner.specs.Run.{turns_of_tries, AreFailedTries, CutAt}
use Rattle.ame_runner.specs.Stop.{HasWeakCause, IsBlockedBy, StandsAtCall, FailsBy}
use Rattle.ame_runner.specs.Ended.{EndTries, IsWeakRunOf, notes_of_stop, journal_of_run, IsCounted, IsToldBy, TellsStop}
use Rattle.ame_runner.specs.Drawn.{IsDrawn}
use Rattle.ame_runner.specs.Tall.{tall_note, IsTallIn}
use Rattle.ame_runner.specs.declared.stop.WeakStop.{WeakStop}
use Rattle.ame_runner.specs.Apart.{AreNotedApart}
use Rattle.ame_runner.proofs.ApartLemmas.{order-behind, notes-apart}
use Rattle.ame_app.specs.declared.run_result.WeakEnd.{WeakEnd}
use Rattle.ame_app.specs.Jobs.{LeavesFit, certificates_told, HasWeakStop, TellsWeakly}
use Rattle.ame_app.specs.Verbs.Weak.{IsNoteAtEnd, IsWeakJournal, stop_told, IsEndOf, IsDrawnAs, StandsAtCallOf}
use Rattle.ame_app.proofs.CountLemmas.{here, more, empty, first-or-later}

-- Entries of the labels, with the notes of the tries

-- what holds of the entries of each label and of each note holds of all
module _ (P : Entry → Type 0) (each : (p : Place) (label : Label) → All P (entries_of_label p label)) where
  every-note : (n : ℕ) (ts : List Try) → AllByRecursion (λ t. P (note_for t)) ts → All P (noted_tries n ts)
  every-note n [] all = All-nil P
  every-note n (t ∷ ts) all = by (t.after == n) (every-note n ts all.1)
    where
      by : (b : Bool) → All P (noted_tries n ts) → All P (if b then note_for t ∷ noted_tries n ts else [])
      by true rest = All-cons P (note_for t) (noted_tries n ts) all.0 rest
      by false rest = All-nil P

  every-behind : (n : ℕ) (ts : List Try) → AllByRecursion (λ t. P (note_for t)) ts → AllByRecursion (λ t. P (note_for t)) (tries_behind n ts)
  every-behind n [] all = tt
  every-behind n (t ∷ ts) all = by (t.after == n) (every-behind n ts all.1)
    where
      by : (b : Bool) → AllByRecursion (λ u. P (note_for u)) (tries_behind n ts)
          → AllByRecursion (λ u. P (note_for u)) (if b then tries_behind n ts else t ∷ ts)
      by true rest = rest
      by false rest = all

  every-entry : (n : ℕ) (ts : List Try) (p : Place) (labels : List Label) → AllByRecursion (λ t. P (note_for t)) ts → All P (straight_with n ts p labels)
  every-entry n ts p [] all = every-note n ts all
  every-entry n ts p (label ∷ labels) all =
      let rest = straight_with (n + 1) (tries_behind n ts) (past p label) labels in
      All-append P (noted_tries n ts) (entries_of_label p label ++ rest) (every-note n ts all)
      (All-append P (entries_of_label p label) rest (each p label) (every-entry (n + 1) (tries_behind n ts) (past p label) labels (every-behind n ts all)))

module _ (P : Entry → Type 0) where
  one-entry : (e : Entry) → P e → All P (e ∷ [])
  one-entry e is = All-cons P e [] is (All-nil P)

  arrived-entry : (b : Bool) (i : ℕ) (e : Entry) → P (record { kind = EntryKind.Ran; seat = 0; number = i; steps = 0; fresh = []; answer = None }) → P e
      → All P (arrival_where b i ++ e ∷ [])
  arrived-entry true i e first is = one-entry e is
  arrived-entry false i e first is = All-cons P _ (e ∷ []) first (one-entry e is)

abbrev IsFirstSeat : Entry → Type 0
IsFirstSeat e = e.seat < 1

label-seat : (p : Place) (label : Label) → All IsFirstSeat (entries_of_label p label)
label-seat p (Label.Activate i) = All-nil IsFirstSeat
label-seat p (Label.Step kind) = All-nil IsFirstSeat
label-seat p Label.Leave = one-entry IsFirstSeat _ (omega arith)
label-seat p Label.End = one-entry IsFirstSeat _ (omega arith)
label-seat p (Label.Free i kind) =
    arrived-entry IsFirstSeat (list_any (λ j. j == i) p.inside) i (freed i (fresh_of kind) (device_answer kind)) (omega arith) (omega arith)
label-seat p (Label.Close i) = arrived-entry IsFirstSeat (list_any (λ j. j == i) p.inside) i (freed i [] None) (omega arith) (omega arith)

note-seat : (ts : List Try) → AllByRecursion (λ t. IsFirstSeat (note_for t)) ts
note-seat [] = tt
note-seat (t ∷ ts) = (omega arith, note-seat ts)

abbrev IsOrdinary : Entry → Type 0
IsOrdinary e = is_ordinary e.kind ≡ true

label-ordinary : (p : Place) (label : Label) → All IsOrdinary (entries_of_label p label)
label-ordinary p (Label.Activate i) = All-nil IsOrdinary
label-ordinary p (Label.Step kind) = All-nil IsOrdinary
label-ordinary p Label.Leave = one-entry IsOrdinary _ refl
label-ordinary p Label.End = one-entry IsOrdinary _ refl
label-ordinary p (Label.Free i kind) =
    arrived-entry IsOrdinary (list_any (λ j. j == i) p.inside) i (freed i (fresh_of kind) (device_answer kind)) refl refl
label-ordinary p (Label.Close i) = arrived-entry IsOrdinary (list_any (λ j. j == i) p.inside) i (freed i [] None) refl refl

note-ordinary : (ts : List Try) → AreFailedTries ts → AllByRecursion (λ t. IsOrdinary (note_for t)) ts
note-ordinary [] all = tt
note-ordinary (t ∷ ts) all = (ap (λ (b : Bool). is_ordinary (if b then EntryKind.Stuck else EntryKind.Cut)) all.0, note-ordinary ts all.1)

-- An attempt that was made after all labels is noted last

noted-more : (n : ℕ) (ts : List Try) (t : Try) → (t.after == n) ≡ false → noted_tries n (ts ++ t ∷ []) ≡ noted_tries n ts
noted-more n [] t later = ap (λ (b : Bool). if b then note_for t ∷ [] else []) later
noted-more n (u ∷ us) t later = ap (λ (es : List Entry). if u.after == n then note_for u ∷ es else []) (noted-more n us t later)

behind-more : (n : ℕ) (ts : List Try) (t : Try) → (t.after == n) ≡ false → tries_behind n (ts ++ t ∷ []) ≡ tries_behind n ts ++ t ∷ []
behind-more n [] t later = ap (λ (b : Bool). if b then [] else t ∷ []) later
behind-more n (u ∷ us) t later = by (u.after == n) (behind-more n us t later)
  where
    by : (b : Bool) → tries_behind n (us ++ t ∷ []) ≡ tries_behind n us ++ t ∷ []
        → (if b then tries_behind n (us ++ t ∷ []) else u ∷ (us ++ t ∷ [])) ≡ (if b then tries_behind n us else u ∷ us) ++ t ∷ []
    by true rest = rest
    by false rest = refl

noted-last : (n m : ℕ) (ts : List Try) (t : Try) → m ≡ n → AreTriesInOrder n m (ts ++ t ∷ []) → t.after ≡ n
    → noted_tries n (ts ++ t ∷ []) ≡ noted_tries n ts ++ note_for t ∷ []
noted-last n m [] t end order same = ap (λ (b : Bool). if b then note_for t ∷ [] else []) (eq-eqb t.after n same)
noted-last n m (u ∷ us) t end order same =
    let low : n ≤ u.after = order.0 in
    let high : u.after ≤ m = order.1 in
    let is : u.after ≡ n = omega (arith, low, high, end) in
    ap (λ (b : Bool). if b then note_for u ∷ noted_tries n (us ++ t ∷ []) else []) (eq-eqb u.after n is)
    ∙ ap (λ (es : List Entry). note_for u ∷ es) (noted-last n m us t end (subst (λ (k : ℕ). AreTriesInOrder k m (us ++ t ∷ [])) is order.2) same)
    ∙ ap (λ (b : Bool). (if b then note_for u ∷ noted_tries n us else []) ++ note_for t ∷ []) (sym (eq-eqb u.after n is))

cut-last : (n m : ℕ) (ts : List Try) (t : Try) (p : Place) (labels : List Label) → m ≡ n + length labels → AreTriesInOrder n m (ts ++ t ∷ []) → t.after ≡ m
    → straight_with n (ts ++ t ∷ []) p labels ≡ straight_with n ts p labels ++ note_for t ∷ []
cut-last n m ts t p [] end order last = noted-last n m ts t (omega (arith, end)) order (omega (arith, end, last))
cut-last n m ts t p (label ∷ labels) end order last =
    let count : m ≡ n + 1 + length labels = omega (arith, end) in
    let later : (t.after == n) ≡ false = ne_eqb t.after n (λ same. omega (arith, same, count, last)) in
    let behind = behind-more n ts t later in
    let rest = straight_with (n + 1) (tries_behind n ts) (past p label) labels in
    ap (λ (es : List Entry). es ++ (entries_of_label p label ++ straight_with (n + 1) (tries_behind n (ts ++ t ∷ [])) (past p label) labels)) (noted-more n ts t later)
    ∙ ap (λ (us : List Try). noted_tries n ts ++ (entries_of_label p label ++ straight_with (n + 1) us (past p label) labels)) behind
    ∙ ap (λ (es : List Entry). noted_tries n ts ++ (entries_of_label p label ++ es))
    (cut-last (n + 1) m (tries_behind n ts) t (past p label) labels count (subst (AreTriesInOrder (n + 1) m) behind (order-behind n m (ts ++ t ∷ []) order)) last)
    ∙ ap (λ (es : List Entry). noted_tries n ts ++ es) (sym (append_assoc (entries_of_label p label) rest (note_for t ∷ [])))
    ∙ sym (append_assoc (noted_tries n ts) (entries_of_label p label ++ rest) (note_for t ∷ []))

-- the note of a stop is one of a value nested too deeply
abbrev AreNotesOf : WeakStop → Type 0
AreNotesOf (WeakStop.Tall entry) = entry ≡ tall_note entry.number entry.steps entry.fresh
AreNotesOf stop = Unit {0}

stop-seats : (stop : WeakStop) → AreNotesOf stop → All IsFirstSeat (notes_of_stop stop)
stop-seats (WeakStop.Tall entry) note = one-entry IsFirstSeat entry (subst IsFirstSeat (sym note) (omega arith))
stop-seats WeakStop.Finished note = All-nil IsFirstSeat
stop-seats (WeakStop.Blocked certificates) note = All-nil IsFirstSeat
stop-seats WeakStop.Spent note = All-nil IsFirstSeat
stop-seats (WeakStop.DeviceFault device) note = All-nil IsFirstSeat
stop-seats WeakStop.NoMemory note = All-nil IsFirstSeat

module _ (labels : List Label) (tries : List Try) where
  abbrev entries : List Entry
  entries = straight_with 0 tries outset labels

  ordinary : AreFailedTries tries → AreOrdinary entries
  ordinary failed = every-entry IsOrdinary label-ordinary 0 tries outset labels (note-ordinary tries failed)

  spent-notes : AreTriesInOrder 0 (length labels) tries → AreFailedTries tries ⊎ CutAt (length labels) tries
      → AreOrdinary entries ⊎ EndsWith EntryKind.Cut entries
  spent-notes order (inl failed) = inl (ordinary failed)
  spent-notes order (inr cut) = by cut.last.failing refl
    where
      parts : entries ≡ straight_with 0 cut.front outset labels ++ note_for cut.last ∷ []
      parts =
          ap (λ (ts : List Try). straight_with 0 ts outset labels) cut.parts
          ∙ cut-last 0 (length labels) cut.front cut.last outset labels (omega arith) (subst (AreTriesInOrder 0 (length labels)) cut.parts order) cut.after

      before : AreOrdinary (straight_with 0 cut.front outset labels)
      before = every-entry IsOrdinary label-ordinary 0 cut.front outset labels (note-ordinary cut.front cut.failing)

      kind : (b : Bool) → cut.last.failing ≡ b → (note_for cut.last).kind ≡ (if b then EntryKind.Stuck else EntryKind.Cut)
      kind b is = ap (λ (c : Bool). if c then EntryKind.Stuck else EntryKind.Cut) is

      by : (b : Bool) → cut.last.failing ≡ b → AreOrdinary entries ⊎ EndsWith EntryKind.Cut entries
      by true is =
          inl (subst AreOrdinary (sym parts) (All-append IsOrdinary (straight_with 0 cut.front outset labels) (note_for cut.last ∷ []) before
          (one-entry IsOrdinary (note_for cut.last) (ap is_ordinary (kind true is)))))
      by false is = inr (record { earlier = straight_with 0 cut.front outset labels; note = note_for cut.last; is = parts; its = kind false is; others = before })

  -- the note of a value nested too deeply is the last entry
  tall-last : (entry : Entry) → entry ≡ tall_note entry.number entry.steps entry.fresh → AreFailedTries tries → IsTall entry.number (entries ++ entry ∷ [])
  tall-last entry is failed = record {
    ends = record { earlier = entries; note = entry; is = refl; its = ap (λ (e : Entry). e.kind) is; others = ordinary failed };
    its = refl;
  }

  -- if no note is added, the entries stay
  as-before : (P : List Entry → Type 0) → P entries → P (entries ++ [])
  as-before P is = subst P (sym (append-nil entries)) is

  notes-of : (stop : WeakStop) → AreTriesInOrder 0 (length labels) tries → EndTries stop (length labels) tries → AreNotesOf stop
      → NotesStop (Some (stop_told stop)) (journal_of_run labels tries stop)
  notes-of WeakStop.Finished order last note = as-before AreOrdinary (ordinary last)
  notes-of (WeakStop.Blocked certificates) order last note = as-before AreOrdinary (ordinary last)
  notes-of WeakStop.Spent order last note = as-before (λ es. AreOrdinary es ⊎ EndsWith EntryKind.Cut es) (spent-notes order last)
  notes-of (WeakStop.DeviceFault device) order last note = as-before AreOrdinary (ordinary last)
  notes-of (WeakStop.Tall entry) order last note = tall-last entry note last
  notes-of WeakStop.NoMemory order last note = as-before AreOrdinary (ordinary last)

-- Certificates

some-such : {X : Type 0} (test : X → Bool) (o : Option X) → has_such test o ≡ true → (x : X) × (o ≡ Some x) × (test x ≡ true)
some-such test None e = absurd (cc)
some-such test (Some x) e = (x, refl, e)

active-still : (i : ℕ) (kinds : List StepKind) (s t : State) → s.active ≡ Some i → run s (map Label.Step kinds) ≡ Some t → t.active ≡ Some i
active-still i [] s t active e = let same : s ≡ t = cc in sym (ap (λ (z : State). z.active) same) ∙ active
active-still i (kind ∷ kinds) s t active e =
    option_and_then_some _ _ _ e (λ u first rest. active-still i kinds u t ((step-keeps kind i s u active first).active ∙ active) rest)

record IsFoundFailing (s : State) (i n : ℕ) (fresh : List ℕ) : Type 0 where
  certificate : IsCertificate s i n fresh
  member : IsSome (at s.members i)

found-failing : (s : State) (i n : ℕ) (fresh : List ℕ) → fails_after s i n fresh ≡ true → IsFoundFailing s i n fresh
found-failing s i n fresh fails =
    let found = some-such (is_failing i) (fragment i n fresh s) fails in
    let f = fragment_run i n fresh s found.0 found.1 in
    option_and_then_some _ _ _ f.2 (λ a first rest.
    let begun = activate-found i s a first in
    record {
      certificate = record {
        kinds = f.0;
        are = f.1;
        reached = found.0;
        made = f.2;
        active = active-still i f.0 a found.0 (ap (λ (z : State). z.active) begun.3) rest;
        fails = found.2;
      };
      member = ap is_some begun.1;
    })

module _ (s : State) where
  abbrev Fails : Certificate → Type 0
  Fails c = fails_after s c.number c.steps c.fresh ≡ true

  hold-all : (cs : List Certificate) → AllByRecursion Fails cs → All (λ (c : Certificate). IsCertificate s c.number c.steps c.fresh) cs
  hold-all [] all = All-nil (λ (c : Certificate). IsCertificate s c.number c.steps c.fresh)
  hold-all (c ∷ cs) all =
      All-cons (λ (d : Certificate). IsCertificate s d.number d.steps d.fresh) c cs
      (found-failing s c.number c.steps c.fresh all.0).certificate (hold-all cs all.1)

  among : (cs : List Certificate) (i : ℕ) → list_any (λ (c : Certificate). c.number == i) cs ≡ true → Contains (map (λ (c : Certificate). c.number) cs) i
  among [] i e = absurd (cc)
  among (c ∷ cs) i e = by (c.number == i) refl e (λ found. among cs i found)
    where
      by : (b : Bool) → (c.number == i) ≡ b → (b || list_any (λ (d : Certificate). d.number == i) cs) ≡ true
          → (list_any (λ (d : Certificate). d.number == i) cs ≡ true → Contains (map (λ (d : Certificate). d.number) cs) i) → Contains (map (λ (d : Certificate). d.number) (c ∷ cs)) i
      by true is found go = here c.number i (map (λ (d : Certificate). d.number) cs) (eqb-true c.number i is)
      by false is found go = more c.number i (map (λ (d : Certificate). d.number) cs) (go found)

  member-of : (cs : List Certificate) → AllByRecursion Fails cs → (i : ℕ) → Contains (map (λ (c : Certificate). c.number) cs) i → IsSome (at s.members i)
  member-of [] all i there = absurd (empty i there)
  member-of (c ∷ cs) all i there = by (first-or-later c.number i (map (λ (d : Certificate). d.number) cs) there) (λ later. member-of cs all.1 i later)
    where
      by : (c.number ≡ i) ⊎ Contains (map (λ (d : Certificate). d.number) cs) i → (Contains (map (λ (d : Certificate). d.number) cs) i → IsSome (at s.members i))
          → IsSome (at s.members i)
      by (inl same) go = subst (λ (k : ℕ). IsSome (at s.members k)) same (found-failing s c.number c.steps c.fresh all.0).member
      by (inr later) go = go later

  first-there : (ms : List (ℕ × Tree)) → ms ≢ [] → (i : ℕ) × (is_some (at ms i) ≡ true)
  first-there [] some = absurd (some refl)
  first-there (m ∷ ms) some = (m.0, ap (λ (b : Bool). is_some (cond b (Some m.1) (at ms m.0))) (is_at-here m.0))

  module _ (idle : s.active ≡ None) (cs : List Certificate) (b : IsBlockedBy (holding_none s) cs) where
    all-members : pool s ≡ s.members
    all-members = ap (λ (o : Option ℕ). but o s.members) idle

    there : (i : ℕ) → is_some (at s.members i) ≡ true → list_any (λ (c : Certificate). c.number == i) cs ≡ true
    there i some = b.all i (ap (λ (ms : List (ℕ × Tree)). is_some (at ms i)) all-members ∙ some)

    none-not : (ds : List Certificate) → ds ≡ [] → (i : ℕ) → list_any (λ (c : Certificate). c.number == i) ds ≡ true → ⊥
    none-not [] none i e = let clash : false ≡ true = e in cc
    none-not (d ∷ ds) none i e = cc

    certify-all : CertifyAll s cs
    certify-all = record {
      hold = hold-all cs b.fail;
      rise = b.rise;
      members = λ i. (
        (λ some. among cs i (there i some)),
        λ named. member-of cs b.fail i named,
      );
      some = λ none.
          let first = first-there s.members (λ e. b.some (all-members ∙ e)) in
          none-not cs none first.0 (there first.0 first.1);
    }

-- Devices

none-or : {X : Type 0} (o : Option X) (P : Type 0) → (o ≡ None → P) → ((x : X) → o ≡ Some x → P) → P
none-or None P none some = none refl
none-or (Some x) P none some = some x refl

stands-so : (s : State) (signature : Signature) (cells : StoreTyping) → IsTyped signature cells s → (device : ℕ)
    → StandsAtCall (holding_none s) device → StandsAtCallOf s device
unfolding act_of
stands-so s signature cells typed device stands =
    let told : TellsOfMember s stands.number (next_of s (Some stands.number)) = tells s signature cells typed (Some stands.number) (next_of s (Some stands.number)) refl in
    none-or (at (pool s) stands.number) (StandsAtCallOf s device)
    (λ none. absurd (let clash : ◌≡◌ {A = Next} (next.Device device stands.argument) next.Nothing = sym stands.stands ∙ told.absent.1 none in cc))
    (λ term is. record {
      number = stands.number;
      term = term;
      member = at-pool_found s stands.number term is;
      redex = Tree.One (unary.Call device) (Tree.Held (Value.Int stands.argument));
      stands = ((told.present term is).calls device stands.argument).0 stands.stands;
      argument = stands.argument;
      calls = refl;
    })

module _ (program : Tree) (labels : List Label) (entries : List Entry) (same : (k : ℕ) → device_calls k program entries ≡ device_calls k program (straight labels)) where
  heard-too : (before after : List Told) → HaveHeard program (straight labels) before after → HaveHeard program entries before after
  heard-too before after h = record {
    count = h.count;
    kinds = h.kinds;
    answers = h.answers;
    heard = λ k.
        h.heard k ∙ ap (λ cs. and_more (told_at before k).heard (answered_all (drop (length (device_calls k program [])) cs))) (sym (same k));
  }

fails-too : (stop : WeakStop) (before after : List Told) → FailsBy (Some stop) before after → HaveFailed (Some (stop_told stop)) before after
fails-too WeakStop.Finished before after fails = fails
fails-too (WeakStop.Blocked certificates) before after fails = fails
fails-too WeakStop.Spent before after fails = fails
fails-too (WeakStop.DeviceFault device) before after fails = fails
fails-too (WeakStop.Tall entry) before after fails = fails
fails-too WeakStop.NoMemory before after fails = fails

-- A weak run that was made

module _ (program : Tree) (limit : ℕ) (labels : List Label) (tries : List Try) (turns : ℕ) (before after : List Told) where
  told-unless : (stop : WeakStop) → TellsStop program limit labels tries turns before after stop → stop_told stop ≢ Stop.NoMemory
      → IsToldBy program limit labels tries turns before after stop
  told-unless WeakStop.Finished tells able = tells
  told-unless (WeakStop.Blocked certificates) tells able = tells
  told-unless WeakStop.Spent tells able = tells
  told-unless (WeakStop.DeviceFault device) tells able = tells
  told-unless (WeakStop.Tall entry) tells able = tells
  told-unless WeakStop.NoMemory tells able = absurd (able refl)

  module _ (weakened : WeakEnd) (turns_are : weakened.turns ≡ turns) (w : Weak) (leads : IsWeakRun program labels w) (idle : w.state.active ≡ None)
      (s : State) (is : w ≡ holding_none s) (signature : Signature) (cells : StoreTyping) (typed : IsTyped signature cells w.state) where
    resting : s.active ≡ None
    resting = sym (ap (λ (z : Weak). z.state.active) is) ∙ idle

    none-left : pool s ≡ [] → s.members ≡ []
    none-left none = sym (ap (λ (o : Option ℕ). but o s.members) resting) ∙ none

    cause-of : (stop : WeakStop) → TellsStop program limit labels tries turns before after stop → weakened.certificates.items ≡ certificates_told stop
        → NotesStop (Some (stop_told stop)) weakened.journal.entries → HasWeakStop (stop_told stop) limit weakened s
    cause-of WeakStop.Finished tells certified notes = none-left (subst (λ (z : Weak). HasWeakCause WeakStop.Finished z turns limit) is (tells.cause w leads))
    cause-of (WeakStop.Blocked certificates) tells certified notes =
        subst (CertifyAll s) (sym certified)
        (certify-all s resting certificates.items (subst (λ (z : Weak). IsBlockedBy z certificates.items) is (tells.cause w leads)))
    cause-of WeakStop.Spent tells certified notes =
        let cause = subst (λ (z : Weak). HasWeakCause WeakStop.Spent z turns limit) is (tells.cause w leads) in
        (turns_are ∙ cause.0, λ none. cause.1 (ap (λ (o : Option ℕ). but o s.members) resting ∙ none))
    cause-of (WeakStop.DeviceFault device) tells certified notes =
        stands-so s signature cells (subst (IsTyped signature cells) (ap (λ (z : Weak). z.state) is) typed) device
        (subst (λ (z : Weak). StandsAtCall z device) is (tells.cause w leads))
    cause-of (WeakStop.Tall entry) tells certified notes = notes
    cause-of WeakStop.NoMemory tells certified notes = tt

-- The note of the stop

-- the fact that holds at the end if a run stops so
abbrev HoldsAtEnd : WeakStop → State → Type 0
HoldsAtEnd (WeakStop.Tall entry) s = IsTallIn s entry
HoldsAtEnd stop s = Unit {0}

holds-told : (program : Tree) (limit : ℕ) (labels : List Label) (tries : List Try) (turns : ℕ) (before after : List Told) (stop : WeakStop) (w : Weak)
    → IsWeakRun program labels w
    → TellsStop program limit labels tries turns before after stop → HoldsAtEnd stop w.state
holds-told program limit labels tries turns before after (WeakStop.Tall entry) w leads tells = (tells.cause w leads).0
holds-told program limit labels tries turns before after WeakStop.Finished w leads tells = tt
holds-told program limit labels tries turns before after (WeakStop.Blocked certificates) w leads tells = tt
holds-told program limit labels tries turns before after WeakStop.Spent w leads tells = tt
holds-told program limit labels tries turns before after (WeakStop.DeviceFault device) w leads tells = tt
holds-told program limit labels tries turns before after WeakStop.NoMemory w leads tells = tt

notes-hold : (stop : WeakStop) (s : State) → HoldsAtEnd stop s → AreNotesOf stop
notes-hold (WeakStop.Tall entry) s tall = tall.note
notes-hold WeakStop.Finished s tall = tt
notes-hold (WeakStop.Blocked certificates) s tall = tt
notes-hold WeakStop.Spent s tall = tt
notes-hold (WeakStop.DeviceFault device) s tall = tt
notes-hold WeakStop.NoMemory s tall = tt

-- the note of a stop is one that a journal may have
stop-fit : (stop : WeakStop) → AreNotesOf stop → LeavesFit stop
stop-fit (WeakStop.Tall entry) note = subst IsFit (sym note) (record { seat = omega arith; answer = refl })
stop-fit WeakStop.Finished note = tt
stop-fit (WeakStop.Blocked certificates) note = tt
stop-fit WeakStop.Spent note = tt
stop-fit (WeakStop.DeviceFault device) note = tt
stop-fit WeakStop.NoMemory note = tt

pub leaves-fit : (program : Tree) (limit : ℕ) (labels : List Label) (tries : List Try) (turns : ℕ) (before after : List Told) (stop : WeakStop)
    → IsWeakRunOf program limit labels tries stop → TellsStop program limit labels tries turns before after stop → LeavesFit stop
leaves-fit program limit labels tries turns before after stop made tells =
    let w = made.ends.weak in
    stop-fit stop (notes-hold stop w.state (holds-told program limit labels tries turns before after stop w made.ends.leads tells))

noted-where : (b : Bool) (r : Replayed) → b ≡ true → note_where b r ≡ Some r
noted-where true r e = refl
noted-where false r e = cc

tall-replays : (r : Replayed) (entry : Entry) → IsTallIn r.state entry → replay_entry r entry ≡ Some r
unfolding replay_entry
tall-replays r entry tall =
    ap (λ (e : Entry). replay_kind e.kind r e.number e.steps e.fresh e.answer) tall.note
    ∙ noted-where (has_such (is_tall (side_at entry.number r.state) entry.number) (attempt entry.number entry.steps entry.fresh r.state)) r tall.comes

-- a journal leads to the same state with the note of the stop
stop-replays : (stop : WeakStop) (r t : Replayed) (front : List Entry) → replay_from r front ≡ Some t → HoldsAtEnd stop t.state
    → replay_from r (front ++ notes_of_stop stop) ≡ Some t
stop-replays (WeakStop.Tall entry) r t front leads holds =
    replay_from-append r front (entry ∷ []) ∙ ap (λ (o : Option Replayed). option_and_then (λ u. replay_from u (entry ∷ [])) o) leads
    ∙ ap (λ (o : Option Replayed). option_and_then (λ u. replay_from u []) o) (tall-replays t entry holds)
stop-replays WeakStop.Finished r t front leads holds = ap (replay_from r) (append-nil front) ∙ leads
stop-replays (WeakStop.Blocked certificates) r t front leads holds = ap (replay_from r) (append-nil front) ∙ leads
stop-replays WeakStop.Spent r t front leads holds = ap (replay_from r) (append-nil front) ∙ leads
stop-replays (WeakStop.DeviceFault device) r t front leads holds = ap (replay_from r) (append-nil front) ∙ leads
stop-replays WeakStop.NoMemory r t front leads holds = ap (replay_from r) (append-nil front) ∙ leads

no-call : (k i n : ℕ) (fresh : List ℕ) (s : State) → last_call k i n fresh None s ≡ []
no-call k i zero fresh s = refl
no-call k i (suc n) fresh s = refl

tall-calls : (k : ℕ) (r : Replayed) (entry : Entry) → IsTallIn r.state entry → device_calls_from k r (entry ∷ []) ≡ []
tall-calls k r entry tall =
    ap (λ (e : Entry). last_call k e.number e.steps e.fresh e.answer r.state ++ of_next (λ t. device_calls_from k t []) (replay_entry r entry)) tall.note
    ∙ ap (λ (cs : List (ℤ × ℤ)). cs ++ of_next (λ t. device_calls_from k t []) (replay_entry r entry)) (no-call k entry.number entry.steps entry.fresh r.state)
    ∙ ap (λ (o : Option Replayed). of_next (λ t. device_calls_from k t []) o) (tall-replays r entry tall)

-- and makes the same calls
stop-calls : (stop : WeakStop) (k : ℕ) (r t : Replayed) (front : List Entry) → replay_from r front ≡ Some t → HoldsAtEnd stop t.state
    → device_calls_from k r (front ++ notes_of_stop stop) ≡ device_calls_from k r front
stop-calls (WeakStop.Tall entry) k r t front leads holds =
    calls-appended k r t front (entry ∷ []) leads ∙ ap (λ (cs : List (ℤ × ℤ)). device_calls_from k r front ++ cs) (tall-calls k t entry holds)
    ∙ append-nil (device_calls_from k r front)
stop-calls WeakStop.Finished k r t front leads holds = ap (device_calls_from k r) (append-nil front)
stop-calls (WeakStop.Blocked certificates) k r t front leads holds = ap (device_calls_from k r) (append-nil front)
stop-calls WeakStop.Spent k r t front leads holds = ap (device_calls_from k r) (append-nil front)
stop-calls (WeakStop.DeviceFault device) k r t front leads holds = ap (device_calls_from k r) (append-nil front)
stop-calls WeakStop.NoMemory k r t front leads holds = ap (device_calls_from k r) (append-nil front)

-- an entry at a place of a list with one more is there before, or is the last
found-before : (es : List Entry) (e x : Entry) (place : ℕ) → slice_get (es ++ e ∷ []) place ≡ Some x → (slice_get es place ≡ Some x) ⊎ (e ≡ x)
found-before [] e x zero there = let same : e ≡ x = cc in inr same
found-before [] e x (suc place) there = absurd (cc)
found-before (y ∷ es) e x zero there = inl there
found-before (y ∷ es) e x (suc place) there = found-before es e x place there

found-still : (es : List Entry) (e x : Entry) (place : ℕ) → slice_get es place ≡ Some x → slice_get (es ++ e ∷ []) place ≡ Some x
found-still [] e x place there = absurd (cc)
found-still (y ∷ es) e x zero there = there
found-still (y ∷ es) e x (suc place) there = found-still es e x place there

-- notes of members that wait stand apart still
apart-last : (es : List Entry) (e : Entry) → e.kind ≡ EntryKind.Tall → AreNotedApart es → AreNotedApart (es ++ e ∷ [])
apart-last es e kind apart = λ first later note next below one other same.
    let news = apart first later note next below (back first note one) (back later next other) same in
    record {
      place = news.place;
      behind = news.behind;
      before = news.before;
      entry = news.entry;
      there = found-still es e news.entry news.place news.there;
      is = news.is;
    }
  where
    back : (place : ℕ) (x : Entry) → HasEntryAt (es ++ e ∷ []) EntryKind.Stuck place x → HasEntryAt es EntryKind.Stuck place x
    back place x h = elim (found-before es e x place h.there) [
      | inl there ↦ record { there = there; its = h.its }
      | inr same ↦ absurd (let clash : EntryKind.Tall ≡ EntryKind.Stuck = sym kind ∙ ap (λ (y : Entry). y.kind) same ∙ h.its in cc)
    ]

stop-apart : (stop : WeakStop) (es : List Entry) → AreNotesOf stop → AreNotedApart es → AreNotedApart (es ++ notes_of_stop stop)
stop-apart (WeakStop.Tall entry) es note apart = apart-last es entry (ap (λ (e : Entry). e.kind) note) apart
stop-apart WeakStop.Finished es note apart = subst AreNotedApart (sym (append-nil es)) apart
stop-apart (WeakStop.Blocked certificates) es note apart = subst AreNotedApart (sym (append-nil es)) apart
stop-apart WeakStop.Spent es note apart = subst AreNotedApart (sym (append-nil es)) apart
stop-apart (WeakStop.DeviceFault device) es note apart = subst AreNotedApart (sym (append-nil es)) apart
stop-apart WeakStop.NoMemory es note apart = subst AreNotedApart (sym (append-nil es)) apart

-- the note that the stop leaves, if it leaves one
record IsLastOf (stop : WeakStop) (w : Weak) : Type 0 where
  last : Option Entry
  notes : notes_of_stop stop ≡ option_to_list last
  grows : IsNoteAtEnd last w

last-of : (program : Tree) (limit : ℕ) (labels : List Label) (tries : List Try) (turns : ℕ) (before after : List Told) (stop : WeakStop) (w : Weak)
    → IsWeakRun program labels w
    → TellsStop program limit labels tries turns before after stop → IsLastOf stop w
last-of program limit labels tries turns before after (WeakStop.Tall entry) w leads tells = record { last = Some entry; notes = refl; grows = tells.cause w leads }
last-of program limit labels tries turns before after WeakStop.Finished w leads tells = record { last = None; notes = refl; grows = tt }
last-of program limit labels tries turns before after (WeakStop.Blocked certificates) w leads tells = record { last = None; notes = refl; grows = tt }
last-of program limit labels tries turns before after WeakStop.Spent w leads tells = record { last = None; notes = refl; grows = tt }
last-of program limit labels tries turns before after (WeakStop.DeviceFault device) w leads tells = record { last = None; notes = refl; grows = tt }
last-of program limit labels tries turns before after WeakStop.NoMemory w leads tells = record { last = None; notes = refl; grows = tt }

-- what the theorems of straightening say of a program
abbrev Straightens : Tree → Type 0
Straightens program =
    (labels : List Label) (tries : List Try) (w : Weak) → AreTried program labels tries → IsWeakRun program labels w → w.state.active ≡ None
    → (r : Replayed) × (replay program (straight_with 0 tries outset labels) ≡ Some r) × (w ≡ holding_none r.state)

abbrev TellsCalls : Tree → Type 0
TellsCalls program =
    (device : ℕ) (labels : List Label) (w : Weak) → IsWeakRun program labels w
    → device_calls device program (straight labels) ≡ weak_calls device (weak_start program) labels

abbrev TellsCallsWith : Tree → Type 0
TellsCallsWith program =
    (device : ℕ) (labels : List Label) (tries : List Try) (w : Weak) → AreTried program labels tries → IsWeakRun program labels w
    → device_calls device program (straight_with 0 tries outset labels) ≡ weak_calls device (weak_start program) labels

abbrev AreTypedRuns : Signature → Tree → Type 0
AreTypedRuns signature program = (labels : List Label) (w : Weak) → IsWeakRun program labels w → (cells : StoreTyping) × IsTyped signature cells w.state

-- the same, of an accepted program
abbrev pub AreTypedAs : Accepted → Type 0
AreTypedAs accepted = AreTypedRuns (signature_of accepted) (tree_of accepted.program.term)

abbrev pub StraightensAs : Accepted → Type 0
StraightensAs accepted = Straightens (tree_of accepted.program.term)

abbrev pub TellsCallsAs : Accepted → Type 0
TellsCallsAs accepted = TellsCalls (tree_of accepted.program.term)

abbrev pub TellsCallsWithAs : Accepted → Type 0
TellsCallsWithAs accepted = TellsCallsWith (tree_of accepted.program.term)

module _ (signature : Signature) (program : Tree) (straightens : Straightens program) (calls : TellsCalls program) (calls_with : TellsCallsWith program)
    (typed : AreTypedRuns signature program) where
  -- a weak run that was made keeps what the headline needs
  pub weak-tells : (limit : ℕ) (labels : List Label) (tries : List Try) (turns : ℕ) (stop : WeakStop) (weakened : WeakEnd)
      → IsWeakRunOf program limit labels tries stop → weakened.labels.items ≡ labels → weakened.tries.items ≡ tries
      → weakened.journal.entries ≡ journal_of_run labels tries stop → weakened.turns ≡ turns
      → weakened.stop ≡ stop_told stop → weakened.certificates.items ≡ certificates_told stop
      → (before after : List Told) → length after ≡ length before
      → TellsStop program limit labels tries turns before after stop → TellsWeakly program limit weakened before after
  weak-tells limit labels tries turns stop weakened made labels_are tries_are entries_are turns_are stop_is certified before after count tells =
      let w = made.ends.weak in
      let leads = made.ends.leads in
      let idle = made.ends.active in
      let s = straightens labels tries w made.tried leads idle in
      let types = typed labels w leads in
      let straight_entries = straight_with 0 tries outset labels in
      let holds = holds-told program limit labels tries turns before after stop w leads tells in
      let note = notes-hold stop w.state holds in
      let holds_there : HoldsAtEnd stop s.0.state = subst (λ (z : Weak). HoldsAtEnd stop z.state) s.2 holds in
      let ends = last-of program limit labels tries turns before after stop w leads tells in
      let noted : NotesStop (Some (stop_told stop)) weakened.journal.entries =
      subst (NotesStop (Some (stop_told stop))) (sym entries_are) (notes-of labels tries stop made.order made.last note) in
      let able : weakened.stop ≢ Stop.NoMemory → IsToldBy program limit labels tries turns before after stop =
      λ ne. told-unless program limit labels tries turns before after stop tells (λ e. ne (stop_is ∙ e)) in
      record {
        straight = subst (λ (ls : List Label). IsWeakJournal program ls weakened.tries.items weakened.journal.entries) (sym labels_are)
            (subst (λ (ts : List Try). IsWeakJournal program labels ts weakened.journal.entries) (sym tries_are) (record {
              weak = w;
              leads = leads;
              idle = idle;
              within = made.within;
              tried = made.tried;
              tried_within = made.tried_within;
              last = ends.last;
              entries_are = entries_are ∙ ap (λ (es : List Entry). straight_entries ++ es) ends.notes;
              grows = ends.grows;
            }));
        paid = λ ne.
            subst (λ (k : ℕ). k ≤ 3 * total_steps weakened.journal.entries) (sym turns_are)
            (subst (λ (es : List Entry). turns ≤ 3 * total_steps es) (sym entries_are) (able ne).whole.paid);
        within = λ ne. subst (λ (k : ℕ). k ≤ limit) (sym turns_are) (able ne).within;
        final = s.0;
        replays = ap (replay program) entries_are ∙ stop-replays stop (begun_at program) s.0 straight_entries s.1 holds_there;
        seats =
            subst (AreOfSeats 1) (sym entries_are)
            (All-append IsFirstSeat straight_entries (notes_of_stop stop) (every-entry IsFirstSeat label-seat 0 tries outset labels (note-seat tries))
            (stop-seats stop note));
        cause =
            subst (λ (k : Stop). HasWeakStop k limit weakened s.0.state) (sym stop_is)
            (cause-of program limit labels tries turns before after weakened turns_are w leads idle s.0.state s.2 signature types.0 types.1 stop tells certified noted);
        notes =
            subst (λ (k : Stop). NotesStop (Some k) weakened.journal.entries) (sym stop_is) noted;
        apart =
            subst AreNotedApart (sym entries_are)
            (stop-apart stop straight_entries note (notes-apart program labels w leads tries made.order made.tried made.spaced));
        count = count;
        heard = λ ne.
            heard-too program labels weakened.journal.entries
            (λ k. ap (device_calls k program) entries_are ∙ stop-calls stop k (begun_at program) s.0 straight_entries s.1 holds_there
            ∙ calls_with k labels tries w made.tried leads ∙ sym (calls k labels w leads))
            before after (able ne).whole.heard;
        failed = λ ne. subst (λ (k : Stop). HaveFailed (Some k) before after) (sym stop_is) (fails-too stop before after (able ne).fails);
      }

-- The numbers of its seed

counted-of : (program : Tree) (limit : ℕ) (labels : List Label) (tries : List Try) (turns : ℕ) (before after : List Told) (stop : WeakStop)
    → stop ≢ WeakStop.NoMemory
    → TellsStop program limit labels tries turns before after stop → IsCounted stop (length labels + turns_of_tries tries) turns
counted-of program limit labels tries turns before after WeakStop.Finished able tells = tells.counted
counted-of program limit labels tries turns before after (WeakStop.Blocked certificates) able tells = tells.counted
counted-of program limit labels tries turns before after WeakStop.Spent able tells = tells.counted
counted-of program limit labels tries turns before after (WeakStop.DeviceFault device) able tells = tells.counted
counted-of program limit labels tries turns before after (WeakStop.Tall entry) able tells = tells.counted
counted-of program limit labels tries turns before after WeakStop.NoMemory able tells = absurd (able refl)

-- labels, tries and turns are kept as they were drawn
pub drawn-as : (program : Tree) (seed limit : ℕ) (labels : List Label) (tries : List Try) (turns : ℕ) (before after : List Told) (stop : WeakStop) (weakened : WeakEnd)
    → (weakened.stop ≡ Stop.NoMemory) ⊎ IsEndOf labels tries turns stop weakened → TellsStop program limit labels tries turns before after stop
    → (stop ≢ WeakStop.NoMemory → IsDrawn program limit seed labels tries turns stop) → weakened.stop ≢ Stop.NoMemory → IsDrawnAs program seed limit weakened
drawn-as program seed limit labels tries turns before after stop weakened (inl lacking) tells drawn able = absurd (able lacking)
drawn-as program seed limit labels tries turns before after stop weakened (inr same) tells drawn able = record {
  stop = stop;
  stop_is = same.stop_is;
  drawn =
      subst (λ (ls : List Label). IsDrawn program limit seed ls weakened.tries.items weakened.turns stop) (sym same.labels_are)
      (subst (λ (ts : List Try). IsDrawn program limit seed labels ts weakened.turns stop) (sym same.tries_are)
      (subst (λ (n : ℕ). IsDrawn program limit seed labels tries n stop) (sym same.turns_are) (drawn ended)));
  counted =
      subst (λ (ls : List Label). IsCounted stop (length ls + turns_of_tries weakened.tries.items) weakened.turns) (sym same.labels_are)
      (subst (λ (ts : List Try). IsCounted stop (length labels + turns_of_tries ts) weakened.turns) (sym same.tries_are)
      (subst (IsCounted stop (length labels + turns_of_tries tries)) (sym same.turns_are)
      (counted-of program limit labels tries turns before after stop ended tells)));
  notes = same.entries_are ∙ ap (λ (ls : List Label). journal_of_run ls tries stop) (sym same.labels_are)
      ∙ ap (λ (ts : List Try). journal_of_run weakened.labels.items ts stop) (sym same.tries_are);
}
  where
    ended : stop ≢ WeakStop.NoMemory
    ended = λ lacking. able (same.stop_is ∙ ap stop_told lacking)

-- a weak run that ran out of memory has only its turns
pub untold-tells : (program : Tree) (limit : ℕ) (weakened : WeakEnd) → weakened.labels.items ≡ [] → weakened.tries.items ≡ [] → weakened.journal.entries ≡ []
    → weakened.stop ≡ Stop.NoMemory
    → (before after : List Told) → length after ≡ length before → TellsWeakly program limit weakened before after
untold-tells program limit weakened no_labels no_tries none stop_is before after count = record {
  straight = subst (λ (ls : List Label). IsWeakJournal program ls weakened.tries.items weakened.journal.entries) (sym no_labels)
      (subst (λ (ts : List Try). IsWeakJournal program [] ts weakened.journal.entries) (sym no_tries)
      (record { weak = weak_start program; leads = refl; idle = refl; within = tt; tried = tt; tried_within = tt; last = None; entries_are = none; grows = tt }));
  paid = λ ne. absurd (ne stop_is);
  within = λ ne. absurd (ne stop_is);
  final = begun_at program;
  replays = ap (replay program) none;
  seats = subst (AreOfSeats 1) (sym none) (All-nil IsFirstSeat);
  cause = subst (λ (k : Stop). HasWeakStop k limit weakened (begun_at program).state) (sym stop_is) tt;
  notes = subst (λ (k : Stop). NotesStop (Some k) weakened.journal.entries) (sym stop_is) (subst AreOrdinary (sym none) (All-nil IsOrdinary));
  apart = subst AreNotedApart (sym none) (λ first later note next below one other same. absurd (let there : None ≡ Some note = one.there in cc));
  count = count;
  heard = λ ne. absurd (ne stop_is);
  failed = λ ne. absurd (ne stop_is);
}
