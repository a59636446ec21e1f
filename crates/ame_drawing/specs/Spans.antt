-- The lane of a location: who owned it, and when.
use Rattle.std.specs.Prelude.{ℕ, zero, suc, ◌+◌, max, if◌then◌else◌, List, [], ◌∷◌, ◌++◌, Option, Some, None}
use Rattle.ame_drawing.specs.declared.pick.Did.{Did}
use Rattle.ame_drawing.specs.declared.pick.DrawnPick.{DrawnPick}
use Rattle.ame_drawing.specs.declared.span.SpanEnd.{SpanEnd}
use Rattle.ame_drawing.specs.declared.span.Span.{Span}
use Rattle.ame_drawing.specs.Picks.{is_release_of, is_write_to}

-- what becomes of a written location when its owner's attempt ends so
abbrev pub outcome_of : Did → SpanEnd
outcome_of Did.Ended = SpanEnd.Committed
outcome_of Did.Left = SpanEnd.Committed
outcome_of _ = SpanEnd.Undone

-- a span that begins with pick k
abbrev pub span_begun : ℕ → ℕ → DrawnPick → Span
span_begun place k pick = record { place = place; seat = pick.seat; member = pick.member; from = k; to = k; outcome = SpanEnd.Owned }

-- a span that ends with pick k
abbrev pub span_ended : ℕ → DrawnPick → Span → Span
span_ended k pick span = record span { to = k; outcome = outcome_of pick.did }

-- what is still owned after all picks
abbrev pub span_left : ℕ → Option Span → List Span
span_left k None = []
span_left k (Some span) = record span { to = k } ∷ []

-- the spans of a location, if this one has begun, and the first of the picks is pick k
abbrev pub spans_from : ℕ → ℕ → Option Span → List DrawnPick → List Span
spans_from place k begun [] = span_left k begun
spans_from place k None (pick ∷ picks) =
    if is_write_to place pick then spans_from place (k + 1) (Some (span_begun place k pick)) picks else spans_from place (k + 1) None picks
spans_from place k (Some span) (pick ∷ picks) =
    if is_release_of span.seat pick then span_ended k pick span ∷ spans_from place (k + 1) None picks else spans_from place (k + 1) (Some span) picks

-- the spans of a number of locations, one after another
abbrev pub spans : ℕ → List DrawnPick → List Span
spans zero picks = []
spans (suc places) picks = spans places picks ++ spans_from places 0 None picks

-- the number of locations, if there are at least n
abbrev pub count_with : ℕ → Option ℕ → ℕ
count_with n None = n
count_with n (Some place) = max n (place + 1)

abbrev pub count_from : ℕ → List DrawnPick → ℕ
count_from n [] = n
count_from n (pick ∷ picks) = count_from (count_with n pick.place) picks
