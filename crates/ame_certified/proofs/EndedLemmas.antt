-- The journal of a run that is over passes no tall form.
use Rattle.std.proofs.Common.{◌≡◌, ℕ, zero, suc, ◌+◌, ◌-◌, ◌≤◌, inl, inr, ℤ, Bool, true, false, not, List, [], ◌∷◌, ◌++◌, length, take, cond, All, Option, Some, option_and_then, refl, sym, ap, ◌∙◌, subst, arith, length-append, append_assoc}
use Rattle.std.proofs.lemmas.List.{take_all, take-append-le}
use Rattle.std.proofs.lemmas.Option.{option_and_then_some}
use Rattle.ame_term.specs.Tree.{Val, Tree}
use Rattle.ame_term.specs.Signature.{Signature}
use Rattle.ame_journal.specs.declared.entry.Entry.{Entry}
use Rattle.ame_journal.specs.Replayed.{Replayed, begun_at}
use Rattle.ame_journal.specs.Replay.{replay, replay_from}
use Rattle.ame_journal.specs.Totals.{is_note, without_notes}
use Rattle.ame_journal.proofs.NoteLemmas.{notes-dropped}
use Rattle.ame_machine.specs.Sound.{IsAccepted}
use Rattle.ame_protocol.specs.declared.types.Limits.{Limits}
use Rattle.ame_protocol.specs.Engine.Parts.{whole_journal}
use Rattle.ame_protocol.specs.Event.EngineState.{EngineState}
use Rattle.ame_protocol.specs.Event.Runs.{entries_along}
use Rattle.ame_protocol.specs.Event.Sound.{Sound}
use Rattle.ame_protocol.proofs.Event.OpenedLemmas.{sound-opened}
use Rattle.ame_protocol.proofs.Event.SoundLemmas.{sound-start}
use Rattle.ame_check.specs.Judge.{LeadsTo, Judges}
use Rattle.ame_check.specs.declared.judging.Judged.{Judged}
use Rattle.ame_engine.specs.Ending.{End}
use Rattle.ame_shell.specs.Ran.{IsStart, IsRanBy}
use Rattle.ame_certified.specs.Low.{IsLowJournal}
use Rattle.ame_certified.specs.RoundTrip.{IsRoundTrip}
use Rattle.ame_certified.proofs.RunLemmas.{run-low, run-valid}

-- A start is sound, and its journal is the base

module _ (program : Tree) (signature : Signature) (limits : Limits) (base : List Entry) (accepted : IsAccepted signature program) (slice : 1 ≤ limits.slice)
    (plain : All (λ (e : Entry). is_note e.kind ≡ false) base) where
  start-sound : (s : EngineState) → IsStart program signature limits base s → Sound s
  start-sound s (inl starts) = subst Sound (sym starts.1) (sound-start program signature limits accepted slice)
  start-sound s (inr goes) =
      subst Sound (sym goes.state)
      (sound-opened program signature limits base goes.cells goes.pool goes.led goes.types goes.replayed goes.typed goes.has_cells goes.has_members goes.ready plain slice)

  start-program : (s : EngineState) → IsStart program signature limits base s → s.parts.program ≡ program
  start-program s (inl starts) = ap (λ (x : EngineState). x.parts.program) starts.1
  start-program s (inr goes) = ap (λ (x : EngineState). x.parts.program) goes.state

  start-journal : (s : EngineState) → IsStart program signature limits base s → whole_journal s.parts ≡ base
  start-journal s (inl starts) = ap (λ (x : EngineState). whole_journal x.parts) starts.1 ∙ sym starts.0
  start-journal s (inr goes) = ap (λ (x : EngineState). whole_journal x.parts) goes.state ∙ nothing-more base
    where
      nothing-more : (es : List Entry) → es ++ [] ≡ es
      nothing-more [] = refl
      nothing-more (e ∷ es) = ap (λ (xs : List Entry). e ∷ xs) (nothing-more es)

  module _ {V : Type 0} (value : V → Val) (end : End V) (ran : IsRanBy program signature limits base value end) (low : IsLowJournal program base) where
    its-low : IsLowJournal ran.start.parts.program (whole_journal ran.start.parts)
    its-low =
        subst (λ (p : Tree). IsLowJournal p (whole_journal ran.start.parts)) (sym (start-program ran.start ran.starts))
        (subst (IsLowJournal program) (sym (start-journal ran.start ran.starts)) low)

    whole : whole_journal ran.start.parts ++ entries_along ran.events ≡ base ++ end.entries
    whole =
        ap (λ (xs : List Entry). xs ++ entries_along ran.events) (start-journal ran.start ran.starts)
        ∙ ap (λ (xs : List Entry). base ++ xs) ran.told

    pub ended-low : IsLowJournal program (base ++ end.entries)
    ended-low =
        subst (λ (p : Tree). IsLowJournal p (base ++ end.entries)) (start-program ran.start ran.starts)
        (subst (IsLowJournal ran.start.parts.program) whole
        (run-low ran.events ran.start ran.last (start-sound ran.start ran.starts) ran.follows ran.low its-low))

    pub ended-valid : (judged : Judged) → Judges program (base ++ end.entries) judged → IsRoundTrip end.output judged
    ended-valid judged so =
        subst (λ (output : List ℤ). IsRoundTrip output judged) ran.ends.output
        (run-valid ran.start ran.last ran.events judged (start-sound ran.start ran.starts) ran.follows ran.low its-low
        (subst (λ (p : Tree). Judges p (whole_journal ran.start.parts ++ entries_along ran.events) judged) (sym (start-program ran.start ran.starts))
        (subst (λ (es : List Entry). Judges program es judged) (sym whole) so)))

-- Entries without notes

-- an entry that is kept stands after those that are kept of the entries before it
pub record StandsIn (entries front : List Entry) (entry : Entry) : Type 0 where
  pub before : List Entry
  pub after : List Entry
  pub is : entries ≡ before ++ entry ∷ after
  pub kept : without_notes before ≡ front

stands-later : (x : Entry) (entries front more : List Entry) (entry : Entry) → ((before : List Entry) → without_notes before ≡ front → without_notes (x ∷ before) ≡ more)
    → StandsIn entries front entry → StandsIn (x ∷ entries) more entry
stands-later x entries front more entry on s = record { before = x ∷ s.before; after = s.after; is = ap (λ (es : List Entry). x ∷ es) s.is; kept = on s.before s.kept }

kept-note : (x : Entry) (entries : List Entry) → is_note x.kind ≡ true → without_notes (x ∷ entries) ≡ without_notes entries
kept-note x entries is = ap (λ (b : Bool). cond (not b) (x ∷ without_notes entries) (without_notes entries)) is

kept-act : (x : Entry) (entries : List Entry) → is_note x.kind ≡ false → without_notes (x ∷ entries) ≡ x ∷ without_notes entries
kept-act x entries is = ap (λ (b : Bool). cond (not b) (x ∷ without_notes entries) (without_notes entries)) is

stands-in : (entries front : List Entry) (entry : Entry) (rest : List Entry) → without_notes entries ≡ front ++ entry ∷ rest → StandsIn entries front entry
stands-in [] [] entry rest e = absurd (cc)
stands-in [] (y ∷ ys) entry rest e = absurd (cc)
stands-in (x ∷ xs) front entry rest e = by (λ ys others. stands-in xs ys entry rest others) (is_note x.kind) refl front e
  where
    acts : ((ys : List Entry) → without_notes xs ≡ ys ++ entry ∷ rest → StandsIn xs ys entry) → (front : List Entry) → is_note x.kind ≡ false → x ∷ without_notes xs ≡ front ++ entry ∷ rest → StandsIn (x ∷ xs) front entry
    acts later [] act e = let same : x ≡ entry = cc in record { before = []; after = xs; is = ap (λ (y : Entry). y ∷ xs) same; kept = refl }
    acts later (y ∷ ys) act e =
        let same : x ≡ y = cc in
        let others : without_notes xs ≡ ys ++ entry ∷ rest = cc in
        stands-later x xs ys (y ∷ ys) entry (λ before kept. kept-act x before act ∙ ap (λ (es : List Entry). x ∷ es) kept ∙ ap (λ (z : Entry). z ∷ ys) same)
        (later ys others)

    by : ((ys : List Entry) → without_notes xs ≡ ys ++ entry ∷ rest → StandsIn xs ys entry) → (b : Bool) → is_note x.kind ≡ b → (front : List Entry) → without_notes (x ∷ xs) ≡ front ++ entry ∷ rest → StandsIn (x ∷ xs) front entry
    by later true note front e =
        stands-later x xs front front entry (λ before kept. kept-note x before note ∙ kept) (later front (sym (kept-note x xs note) ∙ e))
    by later false act front e = acts later front act (sym (kept-act x xs act) ∙ e)

-- what comes first of a journal that replays replays too
first-replays : (r : Replayed) (xs ys : List Entry) (t : Replayed) → replay_from r (xs ++ ys) ≡ Some t → (s : Replayed) × (replay_from r xs ≡ Some s)
first-replays r [] ys t e = (r, refl)
first-replays r (x ∷ xs) ys t e =
    option_and_then_some _ _ _ e (λ s first others.
    let rest = first-replays s xs ys t others in
    (rest.0, ap (λ (o : Option Replayed). option_and_then (λ v. replay_from v xs) o) first ∙ rest.1))

split-at : (n : ℕ) (entries : List Entry) → n ≤ length entries → (rest : List Entry) × (entries ≡ take n entries ++ rest)
split-at zero entries within = (entries, refl)
split-at (suc n) [] within = absurd (omega (arith, within))
split-at (suc n) (x ∷ xs) within = let s = split-at n xs (omega (arith, within)) in (s.0, ap (λ (es : List Entry). x ∷ es) s.1)

module _ (program : Tree) (entries : List Entry) (output : List ℤ) (leads : LeadsTo program entries output) where
  pub acts-low : IsLowJournal program (without_notes entries)
  acts-low n tall =
      let s = split-at n (without_notes entries) tall.place.1 in
      let front = take (n - 1) (without_notes entries) in
      let there : without_notes entries ≡ front ++ tall.entry ∷ s.0 =
      s.1 ∙ ap (λ (es : List Entry). es ++ s.0) tall.is_entry ∙ append_assoc front (tall.entry ∷ []) s.0 in
      let x = stands-in entries front tall.entry s.0 there in
      let first = first-replays (begun_at program) x.before (tall.entry ∷ x.after) leads.led (ap (replay program) (sym x.is) ∙ leads.replayed) in
      let short = notes-dropped (begun_at program) x.before first.0 first.1 in
      let both : Some first.0 ≡ Some tall.led = sym short ∙ ap (replay program) x.kept ∙ tall.replayed in
      let same : first.0 ≡ tall.led = cc in
      let many : length entries ≡ length x.before + length (tall.entry ∷ x.after) = ap length x.is ∙ length-append x.before (tall.entry ∷ x.after) in
      let some : length (tall.entry ∷ x.after) ≡ length x.after + 1 = omega arith in
      let k = length x.before in
      let before : take k entries ≡ x.before = ap (take k) x.is ∙ take-append-le k x.before (tall.entry ∷ x.after) (omega arith) ∙ take_all k x.before (omega arith) in
      let one : entries ≡ (x.before ++ tall.entry ∷ []) ++ x.after = x.is ∙ sym (append_assoc x.before (tall.entry ∷ []) x.after) in
      let longer : length (x.before ++ tall.entry ∷ []) ≡ k + 1 = length-append x.before (tall.entry ∷ []) in
      let upto : take (k + 1) entries ≡ x.before ++ tall.entry ∷ [] =
      ap (take (k + 1)) one ∙ take-append-le (k + 1) (x.before ++ tall.entry ∷ []) x.after (omega (arith, longer)) ∙ take_all (k + 1) (x.before ++ tall.entry ∷ []) (omega (arith, longer)) in
      let previous : k + 1 - 1 ≡ k = omega arith in
      let back : take (k + 1 - 1) entries ≡ x.before = ap (λ (j : ℕ). take j entries) previous ∙ before in
      leads.low (k + 1) (record {
        place = (omega arith, omega (arith, many, some));
        led = tall.led;
        replayed = ap (replay program) back ∙ first.1 ∙ ap (λ (t : Replayed). Some t) same;
        entry = tall.entry;
        is_entry = upto ∙ ap (λ (es : List Entry). es ++ tall.entry ∷ []) (sym back);
        meets = tall.meets;
      })
