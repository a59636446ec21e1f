-- Why steps aren't made, by why fewer aren't.
use Rattle.std.proofs.Common.{◌≡◌, ℕ, ◌+◌, ◌<◌, ◌≤◌, ℤ, List, Option, None, Result, Ok, Err, refl, sym, ap, ◌∙◌, subst, arith}
use Rattle.std.specs.Result.{IfErr, IsErrAnd}
use Rattle.ame_term.specs.Frame.{Side}
use Rattle.ame_term.specs.State.{State}
use Rattle.ame_check.specs.Visit.{visiting, closing, StopsVisit}
use Rattle.ame_check.specs.Walk.{ComesToTall, StaysLow}
use Rattle.ame_check.specs.Walked.{StopsWalk, StopsRun}
use Rattle.ame_check.specs.Reasons.{MeetsReason}
use Rattle.ame_check.specs.declared.entry_error.EntryError.{EntryError}
use Rattle.ame_check.specs.declared.entry_error.EntryError.TheVariants as error
use Rattle.ame_check.proofs.ReasonLemmas.{meets-later, met-visit}
use Rattle.ame_check.proofs.VisitLemmas.{none-before}

-- an error that is passed on
pub err-as : {T E : Type 0} (r : Result T E) (e : E) (Q : E → Type 0) → IsErrAnd r (λ d. d ≡ e) → Q e → IfErr r Q
err-as (Ok x) e Q is q = tt
err-as (Err d) e Q is q = subst Q (sym is) q

tall-later : (side : Side) (i few many : ℕ) (fresh : List ℕ) (s : State) → few ≤ many → ComesToTall side i few fresh s → ComesToTall side i many fresh s
tall-later side i few many fresh s within c = record {
  made = c.made;
  below = let under : c.made < few = c.below in omega arith;
  used = c.used;
  rest = c.rest;
  front = c.front;
  there = c.there;
  leads = c.leads;
  tall = c.tall;
}

-- a run that a walk of some of its steps ends
pub run-stopped : (side : Side) (i few many : ℕ) (fresh : List ℕ) (s : State) → few ≤ many → (e : EntryError) → StopsWalk side i few fresh s e → StopsRun side i many fresh s e
run-stopped side i few many fresh s within (error.Undefined why) stops =
    (stops.0.low many, stops.0.never many None within (λ e. refl), meets-later side s i fresh few many within why stops.1)
run-stopped side i few many fresh s within error.Tall stops = tall-later side i few many fresh s within stops
run-stopped side i few many fresh s within error.NoMemory stops = stops

-- a visit that a walk of all steps but the last ends
pub visit-stopped : (s : State) (i : ℕ) (fresh : List ℕ) (answer : Option ℤ) (n : ℕ) (e : EntryError) → StopsWalk Side.Unprotected i n fresh s e → StopsVisit s i fresh answer n e
visit-stopped s i fresh answer n (error.Undefined why) stops =
    let none = none-before s i fresh n answer stops.0 in
    (stops.0.low (n + 1), none.0, none.1, met-visit s i fresh answer (n + 1) why (meets-later Side.Unprotected s i fresh n (n + 1) (omega arith) why stops.1))
visit-stopped s i fresh answer n error.Tall stops = tall-later Side.Unprotected i n (n + 1) fresh s (omega arith) stops
visit-stopped s i fresh answer n error.NoMemory stops = stops

-- a visit that its last step ends, which is none that takes an answer or closes
pub last-stopped : (s : State) (i : ℕ) (fresh : List ℕ) (n total : ℕ) → n + 1 ≡ total → (answer : Option ℤ) → answer ≡ None → StaysLow Side.Unprotected i (n + 1) fresh s → closing i n fresh answer s ≡ None
    → (e : EntryError) → StopsRun Side.Unprotected i total fresh s e → StopsVisit s i fresh answer n e
last-stopped s i fresh n total count answer quiet low unclosed (error.Undefined why) stops = (
  low,
  ap (λ (o : Option ℤ). visiting i (n + 1) fresh o s) quiet ∙ ap (λ (k : ℕ). visiting i k fresh None s) count ∙ stops.1,
  unclosed,
  met-visit s i fresh answer (n + 1) why (subst (λ (k : ℕ). MeetsReason Side.Unprotected s i fresh k why) (sym count) stops.2),
)
last-stopped s i fresh n total count answer quiet low unclosed error.Tall stops = subst (λ (k : ℕ). ComesToTall Side.Unprotected i k fresh s) (sym count) stops
last-stopped s i fresh n total count answer quiet low unclosed error.NoMemory stops = stops
