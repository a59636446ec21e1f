-- The judgment of a journal that replays.
use Rattle.std.proofs.Common.{◌≡◌, ℕ, ◌+◌, ◌-◌, ◌≤◌, ℤ, List, [], ◌∷◌, ◌++◌, inl, inr, length, take, Some, None, sym, ap, ◌∙◌, subst, arith, length-append}
use Rattle.std.proofs.lemmas.Bool.{cases_lt}
use Rattle.std.proofs.lemmas.List.{take_all, take-append-le, same_from_push}
use Rattle.ame_term.specs.Tree.{Tree}
use Rattle.ame_journal.specs.declared.entry.Entry.{Entry}
use Rattle.ame_journal.specs.Replayed.{Replayed}
use Rattle.ame_journal.specs.Replay.{replay}
use Rattle.ame_check.specs.Entries.{MeetsTall}
use Rattle.ame_check.specs.Judge.{PassesTallAt, LeadsTo, IsInvalid, Judges}
use Rattle.ame_check.specs.declared.reason.Reason.{Reason}
use Rattle.ame_check.specs.declared.judging.Judged.{Judged}
use Rattle.ame_check.specs.declared.judging.Judged.TheVariants as judged
use Rattle.ame_certified.specs.Low.{IsLowJournal}
use Rattle.ame_certified.specs.RoundTrip.{IsRoundTrip, IsNeverInvalid}

module _ (program : Tree) (entries : List Entry) (r : Replayed) where
  output-is : (output : List ℤ) → replay program entries ≡ Some r → LeadsTo program entries output → output ≡ r.state.output
  output-is output replayed leads =
      let both : Some leads.led ≡ Some r = sym leads.replayed ∙ replayed in
      let same : leads.led ≡ r = cc in
      leads.printed ∙ ap (λ (t : Replayed). t.state.output) same

  not-invalid : (n : ℕ) (why : Reason) → replay program entries ≡ Some r → IsInvalid program entries n why → ⊥
  not-invalid n why replayed bad = let clash : None ≡ Some r = sym bad.there.never ∙ replayed in cc

pub never-invalid : (program : Tree) (entries : List Entry) (r : Replayed) (judged : Judged) → replay program entries ≡ Some r → Judges program entries judged
    → IsNeverInvalid r.state.output judged
never-invalid program entries r (judged.Valid output) replayed so = output-is program entries r output.items replayed so
never-invalid program entries r (judged.Invalid n why) replayed so = not-invalid program entries r n why replayed so
never-invalid program entries r (judged.Long n) replayed so = tt
never-invalid program entries r (judged.Tall n) replayed so = tt

pub judged-valid : (program : Tree) (entries : List Entry) (r : Replayed) (judged : Judged) → replay program entries ≡ Some r → IsLowJournal program entries
    → Judges program entries judged → IsRoundTrip r.state.output judged
judged-valid program entries r (judged.Valid output) replayed low so = output-is program entries r output.items replayed so
judged-valid program entries r (judged.Invalid n why) replayed low so = not-invalid program entries r n why replayed so
judged-valid program entries r (judged.Long n) replayed low so = tt
judged-valid program entries r (judged.Tall n) replayed low so = low n so.there.passes

-- no entry

pub none-low : (program : Tree) → IsLowJournal program []
none-low program n tall = let first : 1 ≤ n = tall.place.0 in let last : n ≤ 0 = tall.place.1 in omega arith

-- one more entry, which meets no such form

module _ (program : Tree) (entries : List Entry) (entry : Entry) (r : Replayed) (replayed : replay program entries ≡ Some r) (low : IsLowJournal program entries)
    (meets : MeetsTall r entry → ⊥) where
  before : (k : ℕ) → k ≤ length entries → take k (entries ++ entry ∷ []) ≡ take k entries
  before k within = take-append-le k entries (entry ∷ []) within

  early : (n : ℕ) → n ≤ length entries → PassesTallAt program (entries ++ entry ∷ []) n → ⊥
  early n within tall =
      let previous : n - 1 ≤ length entries = omega arith in
      low n (record {
        place = (tall.place.0, within);
        led = tall.led;
        replayed = ap (replay program) (sym (before (n - 1) previous)) ∙ tall.replayed;
        entry = tall.entry;
        is_entry = sym (before n within) ∙ tall.is_entry ∙ ap (λ (es : List Entry). es ++ tall.entry ∷ []) (before (n - 1) previous);
        meets = tall.meets;
      })

  last : (n : ℕ) → n ≡ length entries + 1 → PassesTallAt program (entries ++ entry ∷ []) n → ⊥
  last n is tall =
      let longer : length (entries ++ entry ∷ []) ≡ length entries + 1 = length-append entries (entry ∷ []) in
      let whole : take n (entries ++ entry ∷ []) ≡ entries ++ entry ∷ [] = take_all n (entries ++ entry ∷ []) (omega arith) in
      let previous : n - 1 ≤ length entries = omega arith in
      let front : take (n - 1) (entries ++ entry ∷ []) ≡ entries = before (n - 1) previous ∙ take_all (n - 1) entries (omega arith) in
      let one : entries ++ entry ∷ [] ≡ entries ++ tall.entry ∷ [] = sym whole ∙ tall.is_entry ∙ ap (λ (es : List Entry). es ++ tall.entry ∷ []) front in
      let same = same_from_push entries entries entry tall.entry one in
      let both : Some r ≡ Some tall.led = sym replayed ∙ ap (replay program) (sym front) ∙ tall.replayed in
      let there : r ≡ tall.led = cc in
      meets (subst (λ (e : Entry). MeetsTall r e) (sym same.1) (subst (λ (t : Replayed). MeetsTall t tall.entry) (sym there) tall.meets))

  pub one-low : IsLowJournal program (entries ++ entry ∷ [])
  one-low n tall = elim (cases_lt (length entries) n) [
    | inl far ↦ last n (let longer : length (entries ++ entry ∷ []) ≡ length entries + 1 = length-append entries (entry ∷ []) in let most : n ≤ length (entries ++ entry ∷ []) = tall.place.1 in omega arith) tall
    | inr within ↦ early n within tall
  ]
