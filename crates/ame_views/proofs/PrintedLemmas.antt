-- The lines of entries that are made on machines.
use Rattle.std.proofs.Common.{◌≡◌, ℕ, ◌+◌, ◌<◌, ◌≤◌, ℤ, Bool, true, false, List, [], ◌∷◌, ◌++◌, length, get_or, take, drop, Some}
use Rattle.std.proofs.Common.{option_and_then, refl, sym, ap, ◌∙◌, subst, arith}
use Rattle.std.proofs.lemmas.List.{drop_all, take_more}
use Rattle.ame_journal.specs.declared.entry.Entry.{Entry}
use Rattle.ame_journal.specs.Replayed.{Replayed, begun_at}
use Rattle.ame_journal.specs.Replay.{replay, replay_entry}
use Rattle.ame_journal.specs.Totals.{is_note}
use Rattle.ame_journal.proofs.NoteLemmas.{note-same}
use Rattle.ame_journal.proofs.ReplayLemmas.{replay_from-one}
use Rattle.ame_machine.specs.Meaning.{Meaning}
use Rattle.ame_check.specs.Shows.{ReplayView, StandsForEntries}
use Rattle.ame_views.specs.Lines.{printed_between, lines_from, lines_of, Prints}
use Rattle.ame_views.proofs.LineLemmas.{lines_go_on, lines_are_all}

-- an entry that leads from one state to another prints what is new
leads-prints : (r t : Replayed) (entry : Entry) → replay_entry r entry ≡ Some t → (b : Bool) → is_note entry.kind ≡ b →
    Prints r entry (printed_between r.state t.state) t
leads-prints r t entry e true is =
    let same : t ≡ r = note-same r entry t is e in
    let nothing : printed_between r.state r.state ≡ [] = drop_all (length r.state.output) r.state.output (omega arith) in
    subst (λ (u : Replayed). Prints r entry (printed_between r.state u.state) u) (sym same)
    (subst (λ (xs : List ℤ). Prints r entry xs r) (sym nothing) (Prints.note r entry is))
leads-prints r t entry e false is = Prints.made r t entry is e

module _ {C V M : Type 0} (meaning : Meaning C V M) (code : C) (entries : List Entry) where
  -- a number of entries were made on machines, and these are their lines
  pub record Printing (index : ℕ) (told : List (List ℤ)) (place : ReplayView V M) : Type 0 where
    pub stands : StandsForEntries meaning code (take index entries) place
    pub left : (r : Replayed) → replay (meaning.program code) (take index entries) ≡ Some r →
        told ++ lines_from r (drop index entries) ≡ lines_of (meaning.program code) entries

  pub printing-begins : (told : List (List ℤ)) (place : ReplayView V M) → told ≡ [] → StandsForEntries meaning code [] place → Printing 0 told place
  printing-begins told place none stands = record {
    stands = stands;
    left = λ r e.
        let same : begun_at (meaning.program code) ≡ r = cc in
        ap (λ ts. ts ++ lines_from r entries) none ∙ ap (λ u. lines_from u entries) (sym same);
  }

  entry-prints : (before : List Entry) (entry : Entry) (place later : ReplayView V M) (s : StandsForEntries meaning code before place)
      (t : StandsForEntries meaning code (before ++ entry ∷ []) later) → Prints s.led entry (drop (length place.output) later.output) t.led
  entry-prints before entry place later s t =
      let leads : replay_entry s.led entry ≡ Some t.led =
      sym (ap (λ o. option_and_then (λ r. replay_entry r entry) o) s.replayed)
      ∙ sym (replay_from-one (begun_at (meaning.program code)) before entry) ∙ t.replayed in
      subst (λ (xs : List ℤ). Prints s.led entry xs t.led)
      (sym (ap (λ xs. drop (length xs) later.output) s.shows.output ∙ ap (λ xs. drop (length s.led.state.output) xs) t.shows.output))
      (leads-prints s.led t.led entry leads (is_note entry.kind) refl)

  pub printing-goes-on : (index : ℕ) → index < length entries → (entry : Entry) → entry ≡ get_or entries index entry → (told : List (List ℤ)) (line : List ℤ)
      (place later : ReplayView V M) → Printing index told place → StandsForEntries meaning code (take index entries ++ entry ∷ []) later →
      line ≡ drop (length place.output) later.output → (new : List (List ℤ)) → new ≡ told ++ line ∷ [] → Printing (index + 1) new later
  printing-goes-on index below entry is told line place later before t printed new added =
      let s = before.stands in
      let whole = lines_of (meaning.program code) entries in
      let more : take (index + 1) entries ≡ take index entries ++ entry ∷ [] =
      take_more entries index entry below ∙ ap (λ (z : Entry). take index entries ++ z ∷ []) (sym is) in
      let prints : Prints s.led entry line t.led =
      subst (λ (xs : List ℤ). Prints s.led entry xs t.led) (sym printed) (entry-prints (take index entries) entry place later s t) in
      let rest : (told ++ line ∷ []) ++ lines_from t.led (drop (index + 1) entries) ≡ whole =
      lines_go_on told whole s.led t.led entries index entry line below (before.left s.led s.replayed)
      (subst (λ (e : Entry). Prints s.led e line t.led) is prints) in
      record {
        stands = subst (λ (es : List Entry). StandsForEntries meaning code es later) (sym more) t;
        left = λ r e.
            let again : replay (meaning.program code) (take index entries ++ entry ∷ []) ≡ Some r = sym (ap (replay (meaning.program code)) more) ∙ e in
            let first : replay (meaning.program code) (take index entries ++ entry ∷ []) ≡ Some t.led = t.replayed in
            let same : t.led ≡ r = cc in
            ap (λ ts. ts ++ lines_from r (drop (index + 1) entries)) added
            ∙ subst (λ (u : Replayed). (told ++ line ∷ []) ++ lines_from u (drop (index + 1) entries) ≡ whole) same rest;
      }

  pub printing-ends : (index : ℕ) (told : List (List ℤ)) (place : ReplayView V M) → length entries ≤ index → Printing index told place →
      told ≡ lines_of (meaning.program code) entries
  printing-ends index told place over all =
      lines_are_all told (lines_of (meaning.program code) entries) all.stands.led entries index over (all.left all.stands.led all.stands.replayed)
