-- A seat that counts: what it may give, and what it then knows.
use Rattle.std.proofs.Common.{◌≡◌, ℕ, List, [], ◌∷◌, ◌++◌, length, set, Option, Some, Result, Ok, Err, OnOk, OnErr, slice_get, sym, refl, ap, ◌∙◌}
use Rattle.std.proofs.lemmas.List.{append-nil, map-id, length-set}
use Rattle.std.proofs.lemmas.List.Elements.{All-nil, All-cons}
use Rattle.ame_baton.specs.declared.view.Knows.{Knows}
use Rattle.ame_baton.specs.declared.view.LastSeen.{LastSeen}
use Rattle.ame_baton.specs.declared.tally.Tally.{Tally}
use Rattle.ame_baton.specs.Seats.{entries_by, Takes, MayGive, Gives, HasEnded}
use Rattle.ame_baton.specs.Tallies.{TallyStandsFor, CountsSeat, IsAsBefore, times_of}
use Rattle.ame_baton.proofs.Keeping.{entries_given, row_kept}
use Rattle.ame_baton.proofs.Taking.{and_of, may_give, stands_now, row_now, set_again}

abbrev pub Known : Type 0
Known = Knows ℕ ℕ ℕ

abbrev own : ℕ → ℕ
own seat = seat

abbrev any : ℕ → Type 0
any row = Unit {0}

module _ (before k : Known) (t t' : Tally) (taken : Takes TallyStandsFor own before t k) where
  pub may_count : {T E : Type 0} (r : Result T E) → OnOk r (CountsSeat k.number t t') → OnErr r (IsAsBefore t t') → MayGive TallyStandsFor own any k t'
  may_count (Ok x) ok err = may_give TallyStandsFor own k any t t' (length t'.log.items) (k.number ∷ []) (stands_now TallyStandsFor own before k t taken) tt
      (All-cons (λ s. s ≡ k.number) k.number [] refl (All-nil (λ s. s ≡ k.number)))
      (λ f h. (
        ap length ok.last ∙ (length-set t.last.items k.number (length t'.log.items) ∙ h.0),
        ap (λ l. set l k.number (length t'.log.items)) h.1 ∙ sym ok.last,
        ap (λ l. l ++ k.number ∷ []) h.2 ∙ sym ok.log,
      ))
  may_count (Err e) ok err = may_give TallyStandsFor own k any t t' k.row [] (stands_now TallyStandsFor own before k t taken) tt (All-nil (λ s. s ≡ k.number))
      (λ f h. (
        ap length err.last ∙ h.0,
        set_again k.rows k.number k.row (row_now TallyStandsFor own before k t taken) ∙ (h.1 ∙ sym err.last),
        append-nil k.seen ∙ (h.2 ∙ sym err.log),
      ))

  pub gave_added : (leaves : ℕ → Type 0) (after : Known) (added : List ℕ) → Gives TallyStandsFor own leaves k t' after → t'.log.items ≡ t.log.items ++ added → after.own ≡ before.own ++ added
  gave_added leaves after added given is = entries_given TallyStandsFor own leaves (λ t. t.log.items) (λ t f rows entries h. sym h.2) before k after t t' taken given added is

  -- a tally that nothing was counted in leaves the row as it was
  pub gave_row : (leaves : ℕ → Type 0) (after : Known) → Gives TallyStandsFor own leaves k t' after → t'.last.items ≡ t.last.items → after.row ≡ before.row
  gave_row leaves after given is = row_kept TallyStandsFor own leaves (λ r. r) (λ t. t.last.items) (λ t f rows entries h. sym h.1 ∙ sym (map-id rows)) before k after t t' taken given
      (ap (λ l. slice_get l before.number) is)

-- at the end a seat is in the log as often as it left entries of its own
pub counted_at_end : (fixed : Option ℕ) (seats : List (LastSeen ℕ ℕ)) (t : Tally) (n times : ℕ) (it : LastSeen ℕ ℕ) → HasEnded TallyStandsFor 0 own fixed seats t → slice_get seats n ≡ Some it → length it.own ≡ times → times_of n t ≡ times
counted_at_end fixed seats t n times it e at is =
    let log : e.entries ≡ t.log.items = and_of (λ f. TallyStandsFor t f e.rows e.entries) (e.entries ≡ t.log.items) fixed (λ f h. h.2) e.stands in
    ap (λ l. length (entries_by own n l)) (sym log) ∙ (ap length (e.stays n it at).own ∙ is)
