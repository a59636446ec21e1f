-- One seat or location more.
use Rattle.std.proofs.Common.{◌≡◌, ℕ, suc, ◌+◌, List, ◌++◌, None, ap, arith}
use Rattle.ame_journal.specs.declared.entry.Entry.{Entry}
use Rattle.ame_drawing.specs.declared.pick.DrawnPick.{DrawnPick}
use Rattle.ame_drawing.specs.declared.span.Span.{Span}
use Rattle.ame_drawing.specs.Causes as causes
use Rattle.ame_drawing.specs.Claims.{claims_on, claims_below}
use Rattle.ame_drawing.specs.Lanes.{lane, lanes_below}
use Rattle.ame_drawing.specs.Spans.{spans, spans_from}

pub lanes_more : (n : ℕ) (picks : List DrawnPick) → lanes_below (n + 1) picks ≡ lanes_below n picks ++ lane n picks
lanes_more n picks = let e : n + 1 ≡ suc n = omega arith in ap (λ k. lanes_below k picks) e

pub spans_more : (n : ℕ) (picks : List DrawnPick) → spans (n + 1) picks ≡ spans n picks ++ spans_from n 0 None picks
spans_more n picks = let e : n + 1 ≡ suc n = omega arith in ap (λ k. spans k picks) e

pub waker_more : (n member k : ℕ) (ss : List Span) (earlier : List DrawnPick) →
    causes.waker (n + 1) member k ss earlier ≡ causes.waker_by n k ss (causes.waker n member k ss earlier) (causes.waits_since member n earlier)
waker_more n member k ss earlier = let e : n + 1 ≡ suc n = omega arith in ap (λ i. causes.waker i member k ss earlier) e

pub claims_more : (n : ℕ) (entries : List Entry) → claims_below (n + 1) entries ≡ claims_below n entries ++ claims_on n 1 entries
claims_more n entries = let e : n + 1 ≡ suc n = omega arith in ap (λ k. claims_below k entries) e
