-- Causes lead from picks to picks.
use Rattle.std.proofs.Common.{◌≡◌, ℕ, zero, suc, ◌+◌, ◌-◌, ◌==◌, Bool, true, false, cond, List, [], ◌∷◌, take, Option, Some, None, All, refl, sym, subst}
use Rattle.std.specs.Prelude.{IfSome, option_to_list, slice_get, nat_lt, ◌&&◌}
use Rattle.std.proofs.lemmas.Bool.{eqb-true, and_parts}
use Rattle.std.proofs.lemmas.List.Elements.{All-nil, All-cons, All-append, All-head, All-tail}
use Rattle.ame_journal.specs.declared.entry.EntryKind.{EntryKind}
use Rattle.ame_drawing.specs.declared.arrow.ArrowKind.{ArrowKind}
use Rattle.ame_drawing.specs.declared.arrow.Sought.{Sought}
use Rattle.ame_drawing.specs.declared.arrow.Spot.{Spot}
use Rattle.ame_drawing.specs.declared.pick.Did.{Did}
use Rattle.ame_drawing.specs.declared.pick.DrawnPick.{DrawnPick}
use Rattle.ame_drawing.specs.declared.span.SpanEnd.{SpanEnd}
use Rattle.ame_drawing.specs.declared.span.Span.{Span}
use Rattle.ame_drawing.specs.declared.stamp.Stamp.{Stamp}
use Rattle.ame_drawing.specs.Arrows.{last_spot, IsPickOn, LeadsAmong}
use Rattle.ame_drawing.specs.Causes.{is_committed, is_release_between, sooner, spot_at_end, first_with, first_release, waker_by, waker, waits_since, spot_of_stamp, entry_pick, starting_pick, arrow_from, cause_behind, cause_by, causes_from}
use Rattle.ame_drawing.specs.Picks.{kind_made, is_last, is_write_to, is_release_of}
use Rattle.ame_drawing.specs.Spans.{span_begun, span_ended, span_left, spans_from, spans}
use Rattle.ame_drawing.specs.Stamps.{stamp_of, stamps}
use Rattle.ame_drawing.proofs.ArrowLemmas.{Follows, pick_here, picks_behind, whole_follows, listed}

-- A stamp is at a pick of its seat; so is the end of a span that was committed.
abbrev IsStampOn : List DrawnPick → Stamp → Type 0
IsStampOn all stamp = IsPickOn all stamp.pick stamp.seat

abbrev IsSpanOn : List DrawnPick → Span → Type 0
IsSpanOn all span = span.outcome ≡ SpanEnd.Committed → IsPickOn all span.to span.seat

abbrev IsSpotOn : List DrawnPick → Spot → Type 0
IsSpotOn all spot = IsPickOn all spot.pick spot.seat

stamped : (all : List DrawnPick) (k : ℕ) (pick : DrawnPick) (kind : Option EntryKind) → IsPickOn all k pick.seat → All (IsStampOn all) (stamp_of k pick kind)
stamped all k pick None here = All-nil (IsStampOn all)
stamped all k pick (Some kind) here = All-cons (IsStampOn all) (record { kind = kind; seat = pick.seat; member = pick.member; pick = k }) [] here (All-nil (IsStampOn all))

stamps_on : (all picks : List DrawnPick) (k : ℕ) → Follows all k picks → All (IsStampOn all) (stamps k picks)
stamps_on all [] k follows = All-nil (IsStampOn all)
stamps_on all (pick ∷ picks) k follows =
    All-append (IsStampOn all) (stamp_of k pick (kind_made pick.did)) (stamps (k + 1) picks) (stamped all k pick (kind_made pick.did) (pick_here all k pick picks follows))
    (stamps_on all picks (k + 1) (picks_behind all k pick picks follows))

-- what is still owned isn't committed
abbrev IsStillOwned : Option Span → Type 0
IsStillOwned begun = IfSome begun (λ span. span.outcome ≡ SpanEnd.Owned)

left_on : (all : List DrawnPick) (k : ℕ) (begun : Option Span) → IsStillOwned begun → All (IsSpanOn all) (span_left k begun)
left_on all k None owned = All-nil (IsSpanOn all)
left_on all k (Some span) owned = All-cons (IsSpanOn all) (record span { to = k }) [] (λ done. absurd (cc)) (All-nil (IsSpanOn all))

-- the pick that ends a span is one of its seat
ended_on : (all : List DrawnPick) (k : ℕ) (pick : DrawnPick) (span : Span) → is_release_of span.seat pick ≡ true → IsPickOn all k pick.seat → IsSpanOn all (span_ended k pick span)
ended_on all k pick span ends here done =
    subst (IsPickOn all k) (eqb-true pick.seat span.seat (and_parts (pick.seat == span.seat) (is_last pick.did) ends).0) here

either : (P : Span → Type 0) (b : Bool) (xs ys : List Span) → (b ≡ true → All P xs) → All P ys → All P (cond b xs ys)
either P true xs ys a c = a refl
either P false xs ys a c = c

spans_on : (all : List DrawnPick) (place k : ℕ) (begun : Option Span) (picks : List DrawnPick) → IsStillOwned begun → Follows all k picks →
    All (IsSpanOn all) (spans_from place k begun picks)
spans_on all place k begun [] owned follows = left_on all k begun owned
spans_on all place k None (pick ∷ picks) owned follows =
    either (IsSpanOn all) (is_write_to place pick) (spans_from place (k + 1) (Some (span_begun place k pick)) picks) (spans_from place (k + 1) None picks)
    (λ writes. spans_on all place (k + 1) (Some (span_begun place k pick)) picks refl (picks_behind all k pick picks follows))
    (spans_on all place (k + 1) None picks _ (picks_behind all k pick picks follows))
spans_on all place k (Some span) (pick ∷ picks) owned follows =
    either (IsSpanOn all) (is_release_of span.seat pick) (span_ended k pick span ∷ spans_from place (k + 1) None picks) (spans_from place (k + 1) (Some span) picks)
    (λ ends. All-cons (IsSpanOn all) (span_ended k pick span) (spans_from place (k + 1) None picks) (ended_on all k pick span ends (pick_here all k pick picks follows))
    (spans_on all place (k + 1) None picks _ (picks_behind all k pick picks follows)))
    (spans_on all place (k + 1) (Some span) picks owned (picks_behind all k pick picks follows))

all_spans_on : (all : List DrawnPick) (places : ℕ) → All (IsSpanOn all) (spans places all)
all_spans_on all zero = All-nil (IsSpanOn all)
all_spans_on all (suc place) =
    All-append (IsSpanOn all) (spans place all) (spans_from place 0 None all) (all_spans_on all place) (spans_on all place 0 None all _ (whole_follows all))

committed : (outcome : SpanEnd) → is_committed outcome ≡ true → outcome ≡ SpanEnd.Committed
committed SpanEnd.Committed e = refl
committed SpanEnd.Owned e = absurd (cc)
committed SpanEnd.Undone e = absurd (cc)

sooner_on : (all : List DrawnPick) (spot : Spot) (first : Option Spot) → IsSpotOn all spot → IfSome first (IsSpotOn all) → IsSpotOn all (sooner spot first)
sooner_on all spot None here there = here
sooner_on all spot (Some first) here there = one_on (nat_lt spot.pick first.pick)
  where
    one_on : (b : Bool) → IsSpotOn all (cond b spot first)
    one_on true = here
    one_on false = there

with_on : (all : List DrawnPick) (place since k : ℕ) (first : Option Spot) (span : Span) (b : Bool) → is_release_between place since k span ≡ b → IsSpanOn all span →
    IfSome first (IsSpotOn all) → IfSome (cond b (Some (sooner (spot_at_end span) first)) first) (IsSpotOn all)
with_on all place since k first span true is on there =
    let done : span.outcome ≡ SpanEnd.Committed =
    committed span.outcome (and_parts (is_committed span.outcome) ((span.place == place) && (nat_lt since span.to && nat_lt span.to k)) is).0 in
    sooner_on all (spot_at_end span) first (on done) there
with_on all place since k first span false is on there = there

release_on : (all : List DrawnPick) (place since k : ℕ) (first : Option Spot) (ss : List Span) → All (IsSpanOn all) ss → IfSome first (IsSpotOn all) →
    IfSome (first_release place since k first ss) (IsSpotOn all)
release_on all place since k first [] each there = there
release_on all place since k first (span ∷ ss) each there =
    release_on all place since k (first_with place since k first span) ss (All-tail (IsSpanOn all) span ss each)
    (with_on all place since k first span (is_release_between place since k span) refl (All-head (IsSpanOn all) span ss each) there)

by_on : (all : List DrawnPick) (place k : ℕ) (ss : List Span) (first : Option Spot) (since : Option ℕ) → All (IsSpanOn all) ss → IfSome first (IsSpotOn all) →
    IfSome (waker_by place k ss first since) (IsSpotOn all)
by_on all place k ss first None each there = there
by_on all place k ss first (Some since) each there = release_on all place since k first ss each there

waker_on : (all : List DrawnPick) (places member k : ℕ) (ss : List Span) (earlier : List DrawnPick) → All (IsSpanOn all) ss → IfSome (waker places member k ss earlier) (IsSpotOn all)
waker_on all zero member k ss earlier each = _
waker_on all (suc place) member k ss earlier each =
    by_on all place k ss (waker place member k ss earlier) (waits_since member place earlier) each (waker_on all place member k ss earlier each)

got_on : (all : List DrawnPick) (marks : List Stamp) (i : ℕ) → All (IsStampOn all) marks → IfSome (spot_of_stamp (slice_get marks i)) (IsSpotOn all)
got_on all [] i each = _
got_on all (stamp ∷ marks) zero each = All-head (IsStampOn all) stamp marks each
got_on all (stamp ∷ marks) (suc i) each = got_on all marks i (All-tail (IsStampOn all) stamp marks each)

entry_on : (all : List DrawnPick) (marks : List Stamp) (number : Option ℕ) → All (IsStampOn all) marks → IfSome (entry_pick marks number) (IsSpotOn all)
entry_on all marks None each = _
entry_on all marks (Some number) each = one_on (number == 0)
  where
    one_on : (b : Bool) → IfSome (cond b None (spot_of_stamp (slice_get marks (number - 1)))) (IsSpotOn all)
    one_on true = _
    one_on false = got_on all marks (number - 1) each

arrow_on : (all : List DrawnPick) (kind : ArrowKind) (k : ℕ) (pick : DrawnPick) (spot : Option Spot) → IfSome spot (IsSpotOn all) → IsPickOn all k pick.seat →
    IfSome (arrow_from kind k pick spot) (LeadsAmong all)
arrow_on all kind k pick None from here = _
arrow_on all kind k pick (Some spot) from here = record { begins = from; ends = here }

module _ (all : List DrawnPick) (starters : List ℕ) (marks : List Stamp) (places : ℕ) (ss : List Span) (stamped : All (IsStampOn all) marks) (owned : All (IsSpanOn all) ss) where
  behind_leads : (k : ℕ) (pick : DrawnPick) (earlier : List DrawnPick) (last : Option Spot) → IsPickOn all k pick.seat →
      IfSome (cause_behind starters marks places ss k pick earlier last) (LeadsAmong all)
  behind_leads k pick earlier None here =
      arrow_on all ArrowKind.Starts k pick (starting_pick starters marks pick.member) (entry_on all marks (slice_get starters pick.member) stamped) here
  behind_leads k pick earlier (Some last) here =
      arrow_on all ArrowKind.Wakes k pick (waker places pick.member k ss earlier) (waker_on all places pick.member k ss earlier owned) here

  cause_leads : (k : ℕ) (pick : DrawnPick) (earlier : List DrawnPick) (did : Did) → IsPickOn all k pick.seat →
      IfSome (cause_by starters marks places ss k pick earlier did) (LeadsAmong all)
  cause_leads k pick earlier Did.Began here = behind_leads k pick earlier (last_spot (Sought.Member pick.member) 0 None earlier) here
  cause_leads k pick earlier _ here = _

  causes_lead_from : (picks : List DrawnPick) (k : ℕ) → Follows all k picks → All (LeadsAmong all) (causes_from starters marks places ss all k picks)
  causes_lead_from [] k follows = All-nil (LeadsAmong all)
  causes_lead_from (pick ∷ picks) k follows =
      All-append (LeadsAmong all) (option_to_list (cause_by starters marks places ss k pick (take k all) pick.did)) (causes_from starters marks places ss all (k + 1) picks)
      (listed all (cause_by starters marks places ss k pick (take k all) pick.did) (cause_leads k pick (take k all) pick.did (pick_here all k pick picks follows)))
      (causes_lead_from picks (k + 1) (picks_behind all k pick picks follows))

pub causes_lead : (all : List DrawnPick) (starters : List ℕ) (marks : List Stamp) (places : ℕ) (ss : List Span) → marks ≡ stamps 0 all → ss ≡ spans places all →
    All (LeadsAmong all) (causes_from starters marks places ss all 0 all)
causes_lead all starters marks places ss told owned =
    causes_lead_from all starters marks places ss (subst (All (IsStampOn all)) (sym told) (stamps_on all all 0 (whole_follows all)))
    (subst (All (IsSpanOn all)) (sym owned) (all_spans_on all places)) all 0 (whole_follows all)
