-- Turns that lead from one shell to another.
use Rattle.std.proofs.Common.{◌≡◌, ◌≢◌, ℕ, List, [], ◌∷◌, ◌++◌, All, IsSome, refl, sym, ap, ◌∙◌, subst}
use Rattle.std.proofs.lemmas.List.Elements.{All-nil, All-cons, All-head, All-tail}
use Rattle.ame_machine.specs.Meaning.{Meaning}
use Rattle.ame_engine.specs.Seen.{parts_of}
use Rattle.ame_shell.specs.declared.work.Work.{Work}
use Rattle.ame_shell.specs.Ready.{IsPrepared}
use Rattle.ame_shell.specs.Shell.{ShellView}
use Rattle.ame_shell.specs.Work.{stage_at, Fits}
use Rattle.ame_worker.specs.Slots.{Slot, SlotsStay, slot_at}
use Rattle.ame_worker.specs.Turns.{TurnView, IsTurn, AreTurnsBetween, AreOfSeat}
use Rattle.ame_worker.proofs.StopLemmas.{turn-stops}

module _ {C V M : Type 0} (meaning : Meaning C V M) where
  -- turns, and then more of them
  pub turns-append : (first mid last : ShellView C V M) (ts us : List (TurnView C V M)) → AreTurnsBetween meaning first ts mid → AreTurnsBetween meaning mid us last
      → AreTurnsBetween meaning first (ts ++ us) last
  turns-append first mid last [] us is more = subst (λ (s : ShellView C V M). AreTurnsBetween meaning s us last) is more
  turns-append first mid last (t ∷ ts) us h more = (h.0, h.1, turns-append t.new mid last ts us h.2 more)

  pub turns-split : (first last : ShellView C V M) (ts us : List (TurnView C V M)) → AreTurnsBetween meaning first (ts ++ us) last
      → (mid : ShellView C V M) × AreTurnsBetween meaning first ts mid × AreTurnsBetween meaning mid us last
  turns-split first last [] us h = (first, refl, h)
  turns-split first last (t ∷ ts) us h = let rest = turns-split t.new last ts us h.2 in (rest.0, (h.0, h.1, rest.1), rest.2)

  pub turns-once : (t : TurnView C V M) → IsTurn meaning t → AreTurnsBetween meaning t.old (t ∷ []) t.new
  turns-once t is = (refl, is, refl)

  -- a kept stop stays
  pub turns-stop : (first last : ShellView C V M) (ts : List (TurnView C V M)) → AreTurnsBetween meaning first ts last → IsSome first.core.stop → IsSome last.core.stop
  turns-stop first last [] is kept = subst (λ (s : ShellView C V M). IsSome s.core.stop) (sym is) kept
  turns-stop first last (t ∷ ts) h kept =
      turns-stop t.new last ts h.2
      (turn-stops meaning t.seat (stage_at meaning.stage t.old.core.code t.hand) t.old t.new t.outcome h.1.turned
      (subst (λ (s : ShellView C V M). IsSome s.core.stop) (sym h.0) kept))

  abbrev slot : ShellView C V M → ℕ → Slot
  slot s seat = slot_at (parts_of meaning s.core) seat

  -- what an engine keeps for a seat stays in turns of others
  pub slot-stays : (seat : ℕ) (first last : ShellView C V M) (ts : List (TurnView C V M)) → AreTurnsBetween meaning first ts last → All (λ t. t.seat ≢ seat) ts
      → slot last seat ≡ slot first seat
  slot-stays seat first last [] is apart = ap (λ (s : ShellView C V M). slot s seat) is
  slot-stays seat first last (t ∷ ts) h apart =
      slot-stays seat t.new last ts h.2 (All-tail (λ (t : TurnView C V M). t.seat ≢ seat) t ts apart)
      ∙ h.1.others seat (λ e. All-head (λ (t : TurnView C V M). t.seat ≢ seat) t ts apart (sym e))
      ∙ ap (λ (s : ShellView C V M). slot s seat) h.0

  module _ (code : C) (slice seat : ℕ) where
    -- turns of one seat leave what it keeps for the others
    pub others-stay : (first last : ShellView C V M) (ts : List (TurnView C V M)) → AreTurnsBetween meaning first ts last → All (λ t. t.seat ≡ seat) ts
        → SlotsStay seat (parts_of meaning first.core) (parts_of meaning last.core)
    others-stay first last [] is own = λ other apart. ap (λ (s : ShellView C V M). slot s other) is
    others-stay first last (t ∷ ts) h own = λ other apart.
        others-stay t.new last ts h.2 (All-tail (λ (t : TurnView C V M). t.seat ≡ seat) t ts own) other apart
        ∙ h.1.others other (λ e. apart (e ∙ All-head (λ (t : TurnView C V M). t.seat ≡ seat) t ts own))
        ∙ ap (λ (s : ShellView C V M). slot s other) h.0

    pub of-seat : (ts : List (TurnView C V M)) (work left : Work M) → AreOfSeat meaning code slice seat work ts left → All (λ t. t.seat ≡ seat) ts
    of-seat [] work left is = All-nil (λ (t : TurnView C V M). t.seat ≡ seat)
    of-seat (t ∷ ts) work left h = All-cons (λ (t : TurnView C V M). t.seat ≡ seat) t ts h.0 (of-seat ts h.2.0 left h.2.2)

    -- one turn more
    pub of-seat-more : (ts : List (TurnView C V M)) (work mid left : Work M) (t : TurnView C V M) → AreOfSeat meaning code slice seat work ts mid
        → t.seat ≡ seat → IsPrepared meaning.is_machine meaning.stage code slice mid t.hand → Fits meaning t.new.core seat left
        → AreOfSeat meaning code slice seat work (ts ++ t ∷ []) left
    of-seat-more [] work mid left t is own ready fits =
        (own, subst (λ (w : Work M). IsPrepared meaning.is_machine meaning.stage code slice w t.hand) is ready, (left, fits, refl))
    of-seat-more (u ∷ ts) work mid left t h own ready fits = (h.0, h.1, (h.2.0, h.2.1, of-seat-more ts h.2.0 mid left t h.2.2 own ready fits))
