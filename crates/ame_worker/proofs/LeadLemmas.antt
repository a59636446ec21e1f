-- The lead of a seat.
use Rattle.std.proofs.Common.{◌≡◌, ℕ, ◌||◌, ◌&&◌, nat_lt, Bool, true, false, List, [], ◌∷◌, ◌++◌, refl, sym, ap, ◌∙◌, subst}
use Rattle.std.proofs.lemmas.List.{append_assoc, append-nil}
use Rattle.ame_machine.specs.Meaning.{Meaning}
use Rattle.ame_shell.specs.declared.work.Work.{Work}
use Rattle.ame_shell.specs.Ready.{IsPrepared}
use Rattle.ame_shell.specs.Shell.{ShellView}
use Rattle.ame_shell.specs.Turned.{MayTurn, LeavesInOrder}
use Rattle.ame_worker.specs.Leads.{commits, rests, is_heavy, hands_over, LeadsUntilHandover, HasLedOn, RestsAtStop}
use Rattle.ame_worker.specs.Turns.{TurnView, IsTurn, AreTurnsBetween, AreOfSeat}
use Rattle.ame_worker.proofs.TurnLemmas.{turns-append, turns-once, of-seat-more}

tests-alike : (a b c d x : Bool) → (a || ((b && c) && d)) ≡ x → (a || (b && c && d)) ≡ x
tests-alike true b c d x e = e
tests-alike false true c d x e = e
tests-alike false false c d x e = e

module _ {C V M : Type 0} (meaning : Meaning C V M) where
  -- whether a seat hands over, as its code finds it
  pub hands-as : (code : C) (seats : ℕ) (more : Bool) (t : TurnView C V M) (rest many heavy x : Bool) → rest ≡ rests t.outcome → many ≡ nat_lt 1 seats
      → heavy ≡ is_heavy meaning code t.hand → (rest || ((many && more) && heavy)) ≡ x → hands_over meaning code seats more t ≡ x
  hands-as code seats more t rest many heavy x at_rest at_many at_heavy e =
      tests-alike (rests t.outcome) (nat_lt 1 seats) more (is_heavy meaning code t.hand) x
      (subst (λ (b : Bool). (b || ((nat_lt 1 seats && more) && is_heavy meaning code t.hand)) ≡ x) at_rest
      (subst (λ (b : Bool). (rest || ((b && more) && is_heavy meaning code t.hand)) ≡ x) at_many
      (subst (λ (b : Bool). (rest || ((many && more) && b)) ≡ x) at_heavy e)))

  -- after none of these turns a seat hands over, and then there may be more members, or not
  abbrev pub GoesOn : C → ℕ → Bool → List (TurnView C V M) → Bool → Type 0
  GoesOn code seats are_more [] more = more ≡ are_more
  GoesOn code seats are_more (t ∷ ts) more =
      (hands_over meaning code seats are_more t ≡ false) × GoesOn code seats (are_more || commits t.outcome) ts more

  module _ (code : C) (seats : ℕ) where
    goes-more : (are_more : Bool) (ts : List (TurnView C V M)) (more : Bool) (t : TurnView C V M) → GoesOn code seats are_more ts more
        → hands_over meaning code seats more t ≡ false → GoesOn code seats are_more (ts ++ t ∷ []) (more || commits t.outcome)
    goes-more are_more [] more t is stays =
        (subst (λ (b : Bool). hands_over meaning code seats b t ≡ false) is stays, ap (λ b. b || commits t.outcome) is)
    goes-more are_more (u ∷ ts) more t h stays = (h.0, goes-more (are_more || commits u.outcome) ts more t h.1 stays)

    -- and after the next one it does
    goes-until : (are_more : Bool) (ts : List (TurnView C V M)) (more : Bool) (t : TurnView C V M) → GoesOn code seats are_more ts more
        → hands_over meaning code seats more t ≡ true → LeadsUntilHandover meaning code seats are_more (ts ++ t ∷ [])
    goes-until are_more [] more t is over = subst (λ (b : Bool). hands_over meaning code seats b t ≡ true) is over
    goes-until are_more (u ∷ []) more t h over = (h.0, goes-until (are_more || commits u.outcome) [] more t h.1 over)
    goes-until are_more (u ∷ v ∷ ts) more t h over = (h.0, goes-until (are_more || commits u.outcome) (v ∷ ts) more t h.1 over)

  -- A seat has had turns on a shell, and goes on.
  pub record IsLeading (code : C) (seat : ℕ) (are_more : Bool) (old : ShellView C V M) (turns : List (TurnView C V M)) (hand : Work M)
      (new : ShellView C V M) (now : List (TurnView C V M)) (left : Work M) (more : Bool) : Type 0 where
    pub led : List (TurnView C V M)
    pub joined : now ≡ turns ++ led
    pub follows : AreTurnsBetween meaning old led new
    pub each : AreOfSeat meaning code old.core.limits.slice seat hand led left
    pub leaves : LeavesInOrder meaning code seat old new left
    pub goes : GoesOn code old.core.limits.seats are_more led more

  module _ (code : C) (seat : ℕ) (are_more : Bool) (old : ShellView C V M) (turns : List (TurnView C V M)) (hand : Work M) where
    pub leads-none : MayTurn meaning code seat old hand → IsLeading code seat are_more old turns hand old turns hand are_more
    leads-none may = record {
      led = [];
      joined = sym (append-nil turns);
      follows = refl;
      each = refl;
      leaves = record { keeps = λ opening h. h; may = may; limits = refl; others = λ other rest apart h. h };
      goes = refl;
    }

    module _ (mid : ShellView C V M) (so_far : List (TurnView C V M)) (work : Work M) (more : Bool) (leads : IsLeading code seat are_more old turns hand mid so_far work more)
        (t : TurnView C V M) (is : IsTurn meaning t) (from : t.old ≡ mid) (own : t.seat ≡ seat)
        (ready : IsPrepared meaning.is_machine meaning.stage code old.core.limits.slice work t.hand)
        (now : List (TurnView C V M)) (joins : now ≡ so_far ++ t ∷ []) (left : Work M) (leaves : LeavesInOrder meaning code seat mid t.new left) where
      abbrev all : List (TurnView C V M)
      all = leads.led ++ t ∷ []

      joined : now ≡ turns ++ all
      joined = joins ∙ ap (λ ts. ts ++ t ∷ []) leads.joined ∙ append_assoc turns leads.led (t ∷ [])

      follows : AreTurnsBetween meaning old all t.new
      follows =
          turns-append meaning old mid t.new leads.led (t ∷ []) leads.follows
          (subst (λ (s : ShellView C V M). AreTurnsBetween meaning s (t ∷ []) t.new) from (turns-once meaning t is))

      each : AreOfSeat meaning code old.core.limits.slice seat hand all left
      each = of-seat-more meaning code old.core.limits.slice seat leads.led hand work left t leads.each own ready leaves.may.fits

      both-leave : LeavesInOrder meaning code seat old t.new left
      both-leave = record {
        keeps = λ opening h. leaves.keeps opening (leads.leaves.keeps opening h);
        may = leaves.may;
        limits = leaves.limits ∙ leads.leaves.limits;
        others = λ other rest apart h. leaves.others other rest apart (leads.leaves.others other rest apart h);
      }

      -- it goes on
      pub leads-more : hands_over meaning code old.core.limits.seats more t ≡ false
          → IsLeading code seat are_more old turns hand t.new now left (more || commits t.outcome)
      leads-more stays = record {
        led = all;
        joined = joined;
        follows = follows;
        each = each;
        leaves = both-leave;
        goes = goes-more code old.core.limits.seats are_more leads.led more t leads.goes stays;
      }

      -- or hands over
      pub leads-until : (is_over : Bool) → hands_over meaning code old.core.limits.seats more t ≡ true
          → (is_over ≡ true → RestsAtStop t.new.core seat) → HasLedOn meaning code seat are_more old turns hand t.new now left is_over
      leads-until is_over over rests = record {
        led = all;
        had = record { joined = joined; follows = follows; each = each; leaves = both-leave };
        until = goes-until code old.core.limits.seats are_more leads.led more t leads.goes over;
        over = rests;
      }
