-- The judgment of a journal, entry by entry.
use Rattle.std.proofs.Common.{◌≡◌, inl, inr, ℕ, ◌+◌, ◌-◌, ◌<◌, ◌≤◌, List, [], ◌∷◌, ◌++◌, length, take, drop, get_or, option_and_then, Some, None, refl, sym, ap, ◌∙◌, subst, arith}
use Rattle.std.proofs.lemmas.Bool.{cases_lt}
use Rattle.std.proofs.lemmas.List.{take_more, take_all, take-append-drop, take-take, same_from_push}
use Rattle.std.proofs.lemmas.List.Sums.{sum_by_more}
use Rattle.ame_term.specs.Tree.{Tree}
use Rattle.ame_journal.specs.Replayed.{Replayed, begun_at}
use Rattle.ame_journal.specs.Replay.{replay, replay_from}
use Rattle.ame_journal.proofs.ReplayLemmas.{replay_from-append}
use Rattle.ame_journal.specs.Totals.{total_steps}
use Rattle.ame_journal.specs.declared.entry.Entry.{Entry}
use Rattle.ame_machine.specs.Meaning.{Meaning}
use Rattle.ame_check.specs.Shows.{ReplayView, StandsForEntries}
use Rattle.ame_check.specs.Entries.{MeetsTall, MeetsNoTall, StopsAt}
use Rattle.ame_check.specs.declared.entry_error.EntryError.{EntryError}
use Rattle.ame_check.specs.declared.entry_error.EntryError.TheVariants as error
use Rattle.ame_check.specs.declared.reason.Reason.{Reason}
use Rattle.ame_check.proofs.ReasonLemmas.{FailsBy}
use Rattle.ame_check.specs.Judge.{most_steps, halted_at, IsLong, PassesTallAt, IsUndefinedAt, IsTooHighAt, IsHalted}

-- what follows entries that can't be replayed doesn't change that
pub undefined-all : (program : Tree) (entries : List Entry) (n : ℕ) → replay program (take n entries) ≡ None → replay program entries ≡ None
undefined-all program entries n none =
    ap (replay program) (sym (take-append-drop n entries)) ∙ replay_from-append (begun_at program) (take n entries) (drop n entries)
    ∙ ap (option_and_then (λ (t : Replayed). replay_from t (drop n entries))) none

-- nor do more of the entries
pub none-longer : (program : Tree) (entries : List Entry) (m n : ℕ) → m ≤ n → replay program (take m entries) ≡ None → replay program (take n entries) ≡ None
none-longer program entries m n within none = undefined-all program (take n entries) m (ap (replay program) (take-take m n entries within) ∙ none)

-- the steps of the entries before an index, which aren't too many
abbrev pub CountsSteps : List Entry → ℕ → ℕ → ℕ → Type 0
CountsSteps entries total place index = (total ≡ total_steps (take index entries)) × (total ≤ most_steps) × (place ≡ index)

pub counts-none : (entries : List Entry) → CountsSteps entries 0 0 0
counts-none entries = (refl, (let none : 0 ≤ 100000000 = omega arith in none), refl)

pub counts-all : (entries : List Entry) (total place index : ℕ) → CountsSteps entries total place index → length entries ≤ index → total_steps entries ≤ most_steps
counts-all entries total place index counts within =
    subst (λ (n : ℕ). n ≤ most_steps) (counts.0 ∙ ap total_steps (take_all index entries within)) counts.1

module _ (entries : List Entry) (index : ℕ) (below : index < length entries) (entry : Entry) (is : entry ≡ get_or entries index entry) where
  pub one-more_entry : take (index + 1) entries ≡ take index entries ++ entry ∷ []
  one-more_entry = take_more entries index entry below ∙ ap (λ (z : Entry). take index entries ++ z ∷ []) (sym is)

  steps-more : total_steps (take (index + 1) entries) ≡ total_steps (take index entries) + (entry.steps + 1)
  steps-more = sum_by_more (λ (z : Entry). z.steps + 1) entries index entry below ∙ ap (λ (z : Entry). total_steps (take index entries) + (z.steps + 1)) (sym is)

  module _ (total place : ℕ) (counts : CountsSteps entries total place index) where
    pub counts-more : entry.steps < most_steps - total → CountsSteps entries (total + (entry.steps + 1)) (place + 1) (index + 1)
    counts-more few =
        let within : total ≤ 100000000 = counts.1 in
        let left : entry.steps < 100000000 - total = few in
        (ap (λ (n : ℕ). n + (entry.steps + 1)) counts.0 ∙ sym steps-more, (let more : total + (entry.steps + 1) ≤ 100000000 = omega arith in more), ap (λ (n : ℕ). n + 1) counts.2)

    pub is-long : most_steps - total ≤ entry.steps → IsLong entries (place + 1)
    is-long many =
        let counted : place ≡ index = counts.2 in
        let before : place + 1 - 1 ≡ index = omega arith in
        let next : index + 1 ≡ place + 1 = omega arith in
        let within : total ≤ 100000000 = counts.1 in
        let left : 100000000 - total ≤ entry.steps = many in
        let above : 100000000 < total + (entry.steps + 1) = omega arith in
        record {
          place = ((let first : 1 ≤ place + 1 = omega arith in first), (let last : place + 1 ≤ length entries = omega arith in last));
          before = subst (λ (n : ℕ). n ≤ most_steps) (counts.0 ∙ ap (λ (k : ℕ). total_steps (take k entries)) (sym before)) counts.1;
          above =
              subst (λ (n : ℕ). most_steps < n) (ap (λ (n : ℕ). n + (entry.steps + 1)) counts.0 ∙ sym steps-more ∙ ap (λ (k : ℕ). total_steps (take k entries)) next) above;
        }

-- none of the entries before an index passes a tall form
abbrev pub NoneIsTall : Tree → List Entry → ℕ → Type 0
NoneIsTall program entries index = (m : ℕ) → m ≤ index → PassesTallAt program entries m → ⊥

pub all-low : (program : Tree) (entries : List Entry) (index : ℕ) → NoneIsTall program entries index → length entries ≤ index → (n : ℕ) → PassesTallAt program entries n → ⊥
all-low program entries index none within n tall = none n (let last : n ≤ length entries = tall.place.1 in omega arith) tall

module _ {C V M : Type 0} (meaning : Meaning C V M) (code : C) (entries : List Entry) where
  module _ (index : ℕ) (view : ReplayView V M) (st : StandsForEntries meaning code (take index entries) view) where
    pub whole-so : length entries ≤ index → StandsForEntries meaning code entries view
    whole-so within = subst (λ (es : List Entry). StandsForEntries meaning code es view) (take_all index entries within) st

  module _ (index place : ℕ) (counted : place ≡ index) (view : ReplayView V M) (st : StandsForEntries meaning code (take index entries) view)
      (below : index < length entries) (entry : Entry) (is : entry ≡ get_or entries index entry) where
    next : place + 1 ≡ index + 1
    next = ap (λ (n : ℕ). n + 1) counted

    before : place + 1 - 1 ≡ index
    before = let same : place ≡ index = counted in omega arith

    in-place : (1 ≤ place + 1) × (place + 1 ≤ length entries)
    in-place = let same : place ≡ index = counted in (omega arith, omega arith)

    pub made-so : (later : ReplayView V M) → StandsForEntries meaning code (take index entries ++ entry ∷ []) later → StandsForEntries meaning code (take (index + 1) entries) later
    made-so later s = subst (λ (es : List Entry). StandsForEntries meaning code es later) (sym (one-more_entry entries index below entry is)) s

    -- nor does the next one, if it meets none after those
    pub low-so : NoneIsTall (meaning.program code) entries index → MeetsNoTall (meaning.program code) (take index entries) entry → NoneIsTall (meaning.program code) entries (index + 1)
    low-so none meets m within tall = elim (cases_lt m (index + 1)) [
      | inl under ↦ none m (omega (arith, under)) tall
      | inr far ↦ here (omega (arith, far, within))
    ]
      where
        here : m ≡ index + 1 → ⊥
        here at_last =
            let previous : m - 1 ≡ index = omega arith in
            let both = sym (one-more_entry entries index below entry is) ∙ ap (λ (k : ℕ). take k entries) (sym at_last) ∙ tall.is_entry in
            let same = same_from_push (take index entries) (take (m - 1) entries) entry tall.entry both in
            meets tall.led (ap (λ (k : ℕ). replay (meaning.program code) (take k entries)) (sym previous) ∙ tall.replayed) (subst (MeetsTall tall.led) (sym same.1) tall.meets)

    is-next : take (place + 1) entries ≡ take (place + 1 - 1) entries ++ entry ∷ []
    is-next =
        ap (λ (k : ℕ). take k entries) next ∙ one-more_entry entries index below entry is
        ∙ ap (λ (k : ℕ). take k entries ++ entry ∷ []) (sym before)

    none-with : (why : Reason) → FailsBy (meaning.program code) (take index entries) entry why → replay (meaning.program code) (take (place + 1) entries) ≡ None
    none-with why fails =
        ap (λ (k : ℕ). replay (meaning.program code) (take k entries)) next
        ∙ ap (replay (meaning.program code)) (one-more_entry entries index below entry is) ∙ fails.1

    none-after : (why : Reason) → FailsBy (meaning.program code) (take index entries) entry why → NoneIsTall (meaning.program code) entries index → (m : ℕ)
        → PassesTallAt (meaning.program code) entries m → ⊥
    none-after why fails none m tall = elim (cases_lt (index + 1) m) [
      | inl far ↦ beyond (omega (arith, far))
      | inr within ↦ low-so none fails.0 m within tall
    ]
      where
        beyond : index + 1 ≤ m - 1 → ⊥
        beyond far =
            let never = none-longer (meaning.program code) entries (index + 1) (m - 1) far (ap (λ (k : ℕ). replay (meaning.program code) (take k entries)) (sym next) ∙ none-with why fails) in
            let clash : None ≡ Some tall.led = sym never ∙ tall.replayed in
            cc

    undefined-so : NoneIsTall (meaning.program code) entries index → (why : Reason) → FailsBy (meaning.program code) (take index entries) entry why → IsUndefinedAt (meaning.program code) entries (place + 1) why
    undefined-so none why fails = record {
      place = in-place;
      led = fails.2.0;
      replayed = ap (λ (k : ℕ). replay (meaning.program code) (take k entries)) before ∙ fails.2.1;
      undefined = none-with why fails;
      never = undefined-all (meaning.program code) entries (place + 1) (none-with why fails);
      entry = entry;
      is_entry = is-next;
      met = fails.2.2;
      low = none-after why fails none;
    }

    too_high-so : NoneIsTall (meaning.program code) entries index → (r : Replayed) × (replay (meaning.program code) (take index entries) ≡ Some r) × MeetsTall r entry
        → IsTooHighAt (meaning.program code) entries (place + 1)
    too_high-so none tall = record {
      passes = record {
        place = in-place;
        led = tall.0;
        replayed = ap (λ (k : ℕ). replay (meaning.program code) (take k entries)) before ∙ tall.1;
        entry = entry;
        is_entry = is-next;
        meets = tall.2;
      };
      first = λ m under earlier. none m (let same : place ≡ index = counted in omega arith) earlier;
    }

    pub halted-so : NoneIsTall (meaning.program code) entries index → (e : EntryError) → StopsAt (meaning.program code) (take index entries) entry e
        → IsHalted (meaning.program code) entries (halted_at (place + 1) e)
    halted-so none (error.Undefined why) stops = undefined-so none why stops
    halted-so none error.Tall stops = too_high-so none stops
    halted-so none error.NoMemory stops = stops
