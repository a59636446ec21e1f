-- The calls that devices have heard, as the journal grows.
use Rattle.std.proofs.Common.{◌≡◌, ℕ, ◌==◌, ◌≤◌, Bool, true, false, List, [], ◌∷◌, ◌++◌, Option, Some, None, Ok, append_assoc, append-nil, refl, sym, ap, ◌∙◌, subst, arith, length-append}
use Rattle.std.specs.Prelude.{ℤ, length, drop, if◌then◌else◌, IfSome}
use Rattle.std.proofs.lemmas.Bool.{eqb-true, eqb-false}
use Rattle.std.proofs.lemmas.List.{map-append, drop_all, drop-append-le}
use Rattle.ame_term.specs.Tree.{Tree}
use Rattle.ame_device.specs.declared.told.DeviceKind.{DeviceKind}
use Rattle.ame_device.specs.declared.told.Heard.{Heard}
use Rattle.ame_device.specs.declared.told.Told.{Told}
use Rattle.ame_device.specs.Calls.{answered, one_more, CallsOne}
use Rattle.ame_device.specs.Kinds.{AreAnswersOf, AnswersByKind}
use Rattle.ame_journal.specs.declared.entry.Entry.{Entry}
use Rattle.ame_journal.specs.Replayed.{Replayed, begun_at}
use Rattle.ame_journal.specs.Replay.{replay_entry}
use Rattle.ame_journal.specs.Calls.{of_next, last_call, device_calls_from, device_calls}
use Rattle.ame_shell.specs.Ends.{told_at}
use Rattle.ame_shell.specs.Heard.{answered_all, and_more, added_calls, HaveHeardSince}
use Rattle.ame_shell.proofs.ToldLemmas.{call-count, called-heard, called-right, called-kind, called-else}

-- nothing more
none-more : (heard : Option (List Heard)) → and_more heard [] ≡ heard
none-more None = refl
none-more (Some calls) = ap (λ (xs : List Heard). Some xs) (append-nil calls)

-- one call more after others
one-behind : (heard : Option (List Heard)) (calls : List (ℤ × ℤ)) (argument answer : ℤ)
    → one_more (and_more heard (answered_all calls)) (answered argument answer) ≡ and_more heard (answered_all (calls ++ (argument, answer) ∷ []))
one-behind None calls argument answer = refl
one-behind (Some xs) calls argument answer =
    ap (λ (ys : List Heard). Some ys) (append_assoc xs (answered_all calls) (answered argument answer ∷ []))
    ∙ ap (λ (ys : List Heard). Some (xs ++ ys)) (sym (map-append (λ (call : ℤ × ℤ). answered call.0 call.1) calls ((argument, answer) ∷ [])))

-- as many calls of the same kind are answered alike
right-too : (now after : Told) → after.heard ≡ now.heard → after.kind ≡ now.kind → AnswersByKind now → AnswersByKind after
right-too now after heard kind right =
    subst (λ (o : Option (List Heard)). IfSome o (λ calls. AreAnswersOf after.kind calls)) (sym heard)
    (subst (λ (d : DeviceKind). IfSome now.heard (λ calls. AreAnswersOf d calls)) (sym kind) right)

-- Calls after a base

module _ (k : ℕ) where
  -- a journal makes all calls that its front makes
  calls-longer : (r : Replayed) (front rest : List Entry) → length (device_calls_from k r front) ≤ length (device_calls_from k r (front ++ rest))
  calls-longer r [] rest = omega arith
  calls-longer r (entry ∷ front) rest =
      let here = last_call k entry.number entry.steps entry.fresh entry.answer r.state in
      let one = length-append here (of_next (λ t. device_calls_from k t front) (replay_entry r entry)) in
      let other = length-append here (of_next (λ t. device_calls_from k t (front ++ rest)) (replay_entry r entry)) in
      let behind = by (λ (t : Replayed). calls-longer t front rest) (replay_entry r entry) in
      omega (arith, one, other, behind)
    where
      by : ((t : Replayed) → length (device_calls_from k t front) ≤ length (device_calls_from k t (front ++ rest))) → (o : Option Replayed)
          → length (of_next (λ t. device_calls_from k t front) o) ≤ length (of_next (λ t. device_calls_from k t (front ++ rest)) o)
      by each None = omega arith
      by each (Some t) = each t

  module _ (program : Tree) (base : List Entry) where
    none-added : added_calls k program base [] ≡ []
    none-added =
        let calls = device_calls k program base in
        ap (λ (es : List Entry). drop (length calls) (device_calls k program es)) (append-nil base) ∙ drop_all (length calls) calls (omega arith)

    -- calls after those of a longer journal
    more-added : (old new : List Entry) (calls : List (ℤ × ℤ)) → device_calls k program (base ++ new) ≡ device_calls k program (base ++ old) ++ calls
        → added_calls k program base new ≡ added_calls k program base old ++ calls
    more-added old new calls is =
        let n = length (device_calls k program base) in
        ap (drop n) is ∙ drop-append-le n (device_calls k program (base ++ old)) calls (calls-longer (begun_at program) base old)

module _ (program : Tree) (base : List Entry) (opened : List Told) where
  abbrev Hears : List Entry → List Told → Type 0
  Hears entries now = HaveHeardSince program base entries opened now

  abbrev added : ℕ → List Entry → List (ℤ × ℤ)
  added k entries = added_calls k program base entries

  abbrev calls_of : ℕ → List Entry → List (ℤ × ℤ)
  calls_of k entries = device_calls k program (base ++ entries)

  -- nothing is heard yet
  pub heard-nothing : Hears [] opened
  heard-nothing = record {
    count = refl;
    kinds = λ k. refl;
    answers = λ k right. right;
    heard = λ k.
        sym (ap (λ (calls : List (ℤ × ℤ)). and_more (told_at opened k).heard (answered_all calls)) (none-added k program base)
        ∙ none-more (told_at opened k).heard);
  }

  -- the journal has the same calls
  pub heard-silent : (old new : List Entry) (now : List Told) → ((k : ℕ) → calls_of k new ≡ calls_of k old) → Hears old now → Hears new now
  heard-silent old new now same h = record {
    count = h.count;
    kinds = h.kinds;
    answers = h.answers;
    heard = λ k. h.heard k ∙ ap (λ (calls : List (ℤ × ℤ)). and_more (told_at opened k).heard (answered_all (drop (length (device_calls k program base)) calls))) (sym (same k));
  }

  -- a device failed
  pub heard-failed : (entries : List Entry) (now after : List Told) → length after ≡ length now
      → ((k : ℕ) → (told_at after k).heard ≡ (told_at now k).heard) → ((k : ℕ) → (told_at after k).kind ≡ (told_at now k).kind)
      → Hears entries now → Hears entries after
  heard-failed entries now after count same kind h = record {
    count = count ∙ h.count;
    kinds = λ k. kind k ∙ h.kinds k;
    answers = λ k right. right-too (told_at now k) (told_at after k) (same k) (kind k) (h.answers k right);
    heard = λ k. same k ∙ h.heard k;
  }

  -- a device answered, and the journal has it
  module _ (old new : List Entry) (now after : List Told) (device : ℕ) (argument answer : ℤ) (called : CallsOne now device argument (Ok answer) after)
      (more : (k : ℕ) → calls_of k new ≡ calls_of k old ++ (if device == k then (argument, answer) ∷ [] else []))
      (h : Hears old now) where
    grows : (k : ℕ) → added k new ≡ added k old ++ (if device == k then (argument, answer) ∷ [] else [])
    grows k = more-added k program base old new (if device == k then (argument, answer) ∷ [] else []) (more k)

    calls-here : (k : ℕ) → (device == k) ≡ true → added k new ≡ added k old ++ (argument, answer) ∷ []
    calls-here k e = grows k ∙ ap (λ (b : Bool). added k old ++ (if b then (argument, answer) ∷ [] else [])) e

    calls-else : (k : ℕ) → (device == k) ≡ false → added k new ≡ added k old
    calls-else k e = grows k ∙ ap (λ (b : Bool). added k old ++ (if b then (argument, answer) ∷ [] else [])) e ∙ append-nil (added k old)

    heard-by : (k : ℕ) (b : Bool) → (device == k) ≡ b → (told_at after k).heard ≡ and_more (told_at opened k).heard (answered_all (added k new))
    heard-by k true e =
        let same : device ≡ k = eqb-true device k e in
        subst (λ (j : ℕ). (told_at after j).heard ≡ one_more (told_at now j).heard (answered argument answer)) same
        (called-heard now after device argument answer called)
        ∙ ap (λ (o : Option (List Heard)). one_more o (answered argument answer)) (h.heard k)
        ∙ one-behind (told_at opened k).heard (added k old) argument answer
        ∙ ap (λ (calls : List (ℤ × ℤ)). and_more (told_at opened k).heard (answered_all calls)) (sym (calls-here k e))
    heard-by k false e =
        let apart : (k ≡ device) → ⊥ = λ same. eqb-false device k e (sym same) in
        ap (λ (t : Told). t.heard) (called-else now after device argument answer called k apart) ∙ h.heard k
        ∙ ap (λ (calls : List (ℤ × ℤ)). and_more (told_at opened k).heard (answered_all calls)) (sym (calls-else k e))

    right-by : (k : ℕ) (b : Bool) → (device == k) ≡ b → AnswersByKind (told_at now k) → AnswersByKind (told_at after k)
    right-by k true e =
        subst (λ (j : ℕ). AnswersByKind (told_at now j) → AnswersByKind (told_at after j)) (eqb-true device k e)
        (called-right now after device argument answer called)
    right-by k false e =
        subst AnswersByKind (sym (called-else now after device argument answer called k (λ same. eqb-false device k e (sym same))))

    pub heard-call : Hears new after
    heard-call = record {
      count = call-count now after device argument answer called ∙ h.count;
      kinds = λ k. called-kind now after device argument answer called k ∙ h.kinds k;
      answers = λ k right. right-by k (device == k) refl (h.answers k right);
      heard = λ k. heard-by k (device == k) refl;
    }
