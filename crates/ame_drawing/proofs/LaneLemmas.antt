-- The attempts of a lane lie one after the other, and hold each pick in which the seat works.
use Rattle.std.proofs.Common.{◌≡◌, ℕ, zero, suc, ◌+◌, ◌<◌, ◌≤◌, Bool, true, false, cond, List, [], ◌∷◌, length, get_or, Option, Some, None, All, refl, subst, arith}
use Rattle.std.specs.Prelude.{IfSome}
use Rattle.std.proofs.lemmas.List.Elements.{All-nil, All-cons, All-weaker, Contains-append_right}
use Rattle.ame_drawing.specs.declared.pick.DrawnPick.{DrawnPick}
use Rattle.ame_drawing.specs.declared.lane.DrawnAttempt.{DrawnAttempt}
use Rattle.ame_drawing.specs.Picks.{is_work_of, is_last, kind_made}
use Rattle.ame_drawing.specs.Lanes.{number_after, grown, lane_from, lane, IsAttemptOn, AreOneAfterOther, IsDuring, LiesInOne}

-- the beginnings of the attempts that are still to come; this one has begun before pick k
abbrev pub start : ℕ → Option DrawnAttempt → ℕ
start k None = k
start k (Some attempt) = attempt.from

-- pick j is in the attempt that has begun
abbrev pub IsDuringOpen : ℕ → Option DrawnAttempt → Type 0
IsDuringOpen j None = ⊥
IsDuringOpen j (Some attempt) = IsDuring j attempt

-- what is so of the attempts that come of picks from pick k on
pub record IsLaid (seat k count : ℕ) (begun : Option DrawnAttempt) (picks : List DrawnPick) (attempts : List DrawnAttempt) : Type 0 where
  pub within : All (IsAttemptOn seat count) attempts
  pub later : All (λ attempt. start k begun ≤ attempt.from) attempts
  pub apart : AreOneAfterOther attempts
  pub covered : (j : ℕ) (d : DrawnPick) → j < length picks → is_work_of seat (get_or picks j d) ≡ true → LiesInOne attempts (k + j)
  pub kept : (j : ℕ) → IsDuringOpen j begun → LiesInOne attempts j

-- an attempt that goes on with pick k
pub record IsGrown (seat k : ℕ) (begun : Option DrawnAttempt) (box : DrawnAttempt) : Type 0 where
  pub is : IsAttemptOn seat (k + 1) box
  pub from : box.from ≡ start k begun
  pub to : box.to ≡ k
  pub holds : (j : ℕ) → IsDuringOpen j begun → IsDuring j box

lies_first : (box : DrawnAttempt) (rest : List DrawnAttempt) (j : ℕ) → IsDuring j box → All (λ later. box.to < later.from) rest → LiesInOne (box ∷ rest) j
lies_first box rest j during apart = record {
  one = box;
  among = (0, omega arith, refl);
  lies = during;
  alone = All-cons (λ other. IsDuring j other → other ≡ box) box rest (λ _. refl)
      (All-weaker (λ later. box.to < later.from) (λ other. IsDuring j other → other ≡ box) (λ other behind its. absurd (omega (arith, behind, its, during))) rest apart);
}

lies_behind : (box : DrawnAttempt) (rest : List DrawnAttempt) (j : ℕ) → box.to < j → LiesInOne rest j → LiesInOne (box ∷ rest) j
lies_behind box rest j behind lies = record {
  one = lies.one;
  among = Contains-append_right (box ∷ []) rest lies.one lies.among;
  lies = lies.lies;
  alone = All-cons (λ other. IsDuring j other → other ≡ lies.one) box rest (λ its. absurd (omega (arith, behind, its))) lies.alone;
}

skip : (seat k count : ℕ) (begun : Option DrawnAttempt) (pick : DrawnPick) (picks : List DrawnPick) (rest : List DrawnAttempt) → is_work_of seat pick ≡ false →
    IfSome begun (IsAttemptOn seat k) → IsLaid seat (k + 1) count begun picks rest → IsLaid seat k count begun (pick ∷ picks) rest
skip seat k count begun pick picks rest idle is laid = record {
  within = laid.within;
  later = All-weaker (λ attempt. start (k + 1) begun ≤ attempt.from) (λ attempt. start k begun ≤ attempt.from) (earlier begun) rest laid.later;
  apart = laid.apart;
  covered = covers;
  kept = laid.kept;
}
  where
    earlier : (o : Option DrawnAttempt) (attempt : DrawnAttempt) → start (k + 1) o ≤ attempt.from → start k o ≤ attempt.from
    earlier None attempt h = omega (arith, h)
    earlier (Some a) attempt h = h

    covers : (j : ℕ) (d : DrawnPick) → j < length (pick ∷ picks) → is_work_of seat (get_or (pick ∷ picks) j d) ≡ true → LiesInOne rest (k + j)
    covers zero d below works = absurd (cc)
    covers (suc j) d below works =
        let e : k + 1 + j ≡ k + suc j = omega arith in
        let within : j < length picks = omega (arith, below) in
        let P : ℕ → Type 0 = LiesInOne rest in
        subst P e (laid.covered j d within works)

go_on : (seat k count : ℕ) (begun : Option DrawnAttempt) (box : DrawnAttempt) (pick : DrawnPick) (picks : List DrawnPick) (rest : List DrawnAttempt) → IsGrown seat k begun box →
    IsLaid seat (k + 1) count (Some box) picks rest → IsLaid seat k count begun (pick ∷ picks) rest
go_on seat k count begun box pick picks rest is laid = record {
  within = laid.within;
  later = All-weaker (λ attempt. box.from ≤ attempt.from) (λ attempt. start k begun ≤ attempt.from) (λ attempt h. omega (arith, h, is.from)) rest laid.later;
  apart = laid.apart;
  covered = covers;
  kept = λ j during. laid.kept j (is.holds j during);
}
  where
    covers : (j : ℕ) (d : DrawnPick) → j < length (pick ∷ picks) → is_work_of seat (get_or (pick ∷ picks) j d) ≡ true → LiesInOne rest (k + j)
    covers zero d below works =
        let here : k ≡ k + 0 = omega arith in
        let P : ℕ → Type 0 = LiesInOne rest in
        let starts : box.from ≤ k = omega (arith, is.is.order, is.to) in
        let ends : k ≤ box.to = omega (arith, is.to) in
        subst P here (laid.kept k (starts, ends))
    covers (suc j) d below works =
        let e : k + 1 + j ≡ k + suc j = omega arith in
        let within : j < length picks = omega (arith, below) in
        let P : ℕ → Type 0 = LiesInOne rest in
        subst P e (laid.covered j d within works)

close : (seat k count : ℕ) (begun : Option DrawnAttempt) (box : DrawnAttempt) (pick : DrawnPick) (picks : List DrawnPick) (rest : List DrawnAttempt) → k + 1 ≤ count → IsGrown seat k begun box →
    IsLaid seat (k + 1) count None picks rest → IsLaid seat k count begun (pick ∷ picks) (box ∷ rest)
close seat k count begun box pick picks rest room is laid = record {
  within = All-cons (IsAttemptOn seat count) box rest (record { here = is.is.here; order = is.is.order; end = omega (arith, is.to, room) }) laid.within;
  later = All-cons (λ attempt. start k begun ≤ attempt.from) box rest (omega (arith, is.from))
      (All-weaker (λ attempt. k + 1 ≤ attempt.from) (λ attempt. start k begun ≤ attempt.from) (λ attempt h. omega (arith, h, is.from, is.to, is.is.order)) rest laid.later);
  apart = (apart, laid.apart);
  covered = covers;
  kept = λ j during. lies_first box rest j (is.holds j during) apart;
}
  where
    apart : All (λ later. box.to < later.from) rest
    apart = All-weaker (λ attempt. k + 1 ≤ attempt.from) (λ later. box.to < later.from) (λ attempt h. omega (arith, h, is.to)) rest laid.later

    covers : (j : ℕ) (d : DrawnPick) → j < length (pick ∷ picks) → is_work_of seat (get_or (pick ∷ picks) j d) ≡ true → LiesInOne (box ∷ rest) (k + j)
    covers zero d below works =
        let starts : box.from ≤ k + 0 = omega (arith, is.is.order, is.to) in
        let ends : k + 0 ≤ box.to = omega (arith, is.to) in
        lies_first box rest (k + 0) (starts, ends) apart
    covers (suc j) d below works =
        let e : k + 1 + j ≡ k + suc j = omega arith in
        let within : j < length picks = omega (arith, below) in
        let behind : box.to < k + suc j = omega (arith, is.to) in
        let P : ℕ → Type 0 = LiesInOne rest in
        lies_behind box rest (k + suc j) behind (subst P e (laid.covered j d within works))

grown_is : (seat n k : ℕ) (begun : Option DrawnAttempt) (pick : DrawnPick) → is_work_of seat pick ≡ true → IfSome begun (IsAttemptOn seat k) → IsGrown seat k begun (grown n k pick begun)
grown_is seat n k None pick works is = record {
  is = record { here = seat_is; order = omega arith; end = omega arith };
  from = refl;
  to = refl;
  holds = λ j during. absurd during;
}
  where
    seat_is : pick.seat ≡ seat
    seat_is = grind (arith, works)
grown_is seat n k (Some box) pick works is = record {
  is = record { here = is.here; order = omega (arith, is.order, is.end); end = omega arith };
  from = refl;
  to = refl;
  holds = λ j during. (during.0, omega (arith, during.1, is.end));
}

at_pick : (seat n next k count : ℕ) (begun : Option DrawnAttempt) (pick : DrawnPick) (picks : List DrawnPick) (works last : Bool) → is_work_of seat pick ≡ works →
    IfSome begun (IsAttemptOn seat k) → k + 1 ≤ count → IsLaid seat (k + 1) count begun picks (lane_from seat next (k + 1) begun picks) →
    (is_work_of seat pick ≡ true → IsLaid seat (k + 1) count None picks (lane_from seat next (k + 1) None picks)) →
    (is_work_of seat pick ≡ true → IsLaid seat (k + 1) count (Some (grown n k pick begun)) picks (lane_from seat next (k + 1) (Some (grown n k pick begun)) picks)) →
    IsLaid seat k count begun (pick ∷ picks)
    (cond works (cond last (grown n k pick begun ∷ lane_from seat next (k + 1) None picks) (lane_from seat next (k + 1) (Some (grown n k pick begun)) picks)) (lane_from seat next (k + 1) begun picks))
at_pick seat n next k count begun pick picks false last works is room on none some = skip seat k count begun pick picks (lane_from seat next (k + 1) begun picks) works is on
at_pick seat n next k count begun pick picks true true works is room on none some =
    close seat k count begun (grown n k pick begun) pick picks (lane_from seat next (k + 1) None picks) room (grown_is seat n k begun pick works is) (none works)
at_pick seat n next k count begun pick picks true false works is room on none some =
    go_on seat k count begun (grown n k pick begun) pick picks (lane_from seat next (k + 1) (Some (grown n k pick begun)) picks) (grown_is seat n k begun pick works is) (some works)

wider : (seat k : ℕ) (begun : Option DrawnAttempt) → IfSome begun (IsAttemptOn seat k) → IfSome begun (IsAttemptOn seat (k + 1))
wider seat k None is = is
wider seat k (Some box) is = record { here = is.here; order = is.order; end = omega (arith, is.end) }

laid_from : (seat : ℕ) (picks : List DrawnPick) (n k count : ℕ) (begun : Option DrawnAttempt) → count ≡ k + length picks → IfSome begun (IsAttemptOn seat k) →
    IsLaid seat k count begun picks (lane_from seat n k begun picks)
laid_from seat [] n k count None counts is = record {
  within = All-nil (IsAttemptOn seat count);
  later = All-nil (λ attempt. k ≤ attempt.from);
  apart = _;
  covered = λ j d below works. absurd (omega (arith, below));
  kept = λ j during. absurd during;
}
laid_from seat [] n k count (Some box) counts is = record {
  within = All-cons (IsAttemptOn seat count) box [] (record { here = is.here; order = is.order; end = omega (arith, is.end, counts) }) (All-nil (IsAttemptOn seat count));
  later = All-cons (λ attempt. box.from ≤ attempt.from) box [] (omega arith) (All-nil (λ attempt. box.from ≤ attempt.from));
  apart = (All-nil (λ later. box.to < later.from), _);
  covered = λ j d below works. absurd (omega (arith, below));
  kept = λ j during. lies_first box [] j during (All-nil (λ later. box.to < later.from));
}
laid_from seat (pick ∷ picks) n k count begun counts is =
    let next : ℕ = number_after n (kind_made pick.did) in
    let rest : count ≡ k + 1 + length picks = omega (arith, counts) in
    let room : k + 1 ≤ count = omega (arith, rest) in
    at_pick seat n next k count begun pick picks (is_work_of seat pick) (is_last pick.did) refl is room
    (laid_from seat picks next (k + 1) count begun rest (wider seat k begun is))
    (λ works. laid_from seat picks next (k + 1) count None rest _)
    (λ works. laid_from seat picks next (k + 1) count (Some (grown n k pick begun)) rest (grown_is seat n k begun pick works is).is)

-- the whole lane
pub laid : (seat : ℕ) (picks : List DrawnPick) → IsLaid seat 0 (length picks) None picks (lane seat picks)
laid seat picks = let counts : length picks ≡ 0 + length picks = omega arith in laid_from seat picks 1 0 (length picks) None counts _

pub covers : (seat : ℕ) (picks : List DrawnPick) (k : ℕ) (d : DrawnPick) → k < length picks → is_work_of seat (get_or picks k d) ≡ true → LiesInOne (lane seat picks) k
covers seat picks k d below works =
    let e : 0 + k ≡ k = omega arith in
    let P : ℕ → Type 0 = LiesInOne (lane seat picks) in
    subst P e ((laid seat picks).covered k d below works)
