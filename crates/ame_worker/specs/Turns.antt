-- Turns of the seats of a shell.
use Rattle.std.specs.Prelude.{◌≡◌, ℕ, List, [], ◌∷◌, ◌++◌, Option}
use Rattle.ame_machine.specs.Meaning.{Meaning}
use Rattle.ame_protocol.specs.Engine.Parts.{task_at, member_of}
use Rattle.ame_shell.specs.declared.work.Outcome.{Outcome}
use Rattle.ame_shell.specs.declared.work.Work.{Work}
use Rattle.ame_shell.specs.Asked.{LacksAsDue}
use Rattle.ame_shell.specs.Ready.{IsPrepared}
use Rattle.ame_shell.specs.Shell.{ShellView}
use Rattle.ame_shell.specs.Turned.{HasTurned, LeavesInOrder, member_told}
use Rattle.ame_shell.specs.Work.{stage_at, Fits}
use Rattle.ame_engine.specs.Seen.{parts_of}
use Rattle.ame_worker.specs.Slots.{SlotsStay}

-- A turn: the seat, its work in flight, the shell that it took, what came of it, and the shell then.
pub record TurnView (C V M : Type 0) : Type 0 where
  pub seat : ℕ
  pub hand : Work M
  pub old : ShellView C V M
  pub outcome : Outcome
  pub new : ShellView C V M

module _ {C V M : Type 0} where
  -- the turn of a seat
  abbrev pub turn_by : ℕ → Work M → ShellView C V M → Outcome → ShellView C V M → TurnView C V M
  turn_by seat hand old outcome new = record { seat = seat; hand = hand; old = old; outcome = outcome; new = new }

  -- the seat that had a turn
  abbrev pub maker : TurnView C V M → ℕ
  maker t = t.seat

  -- the member of a turn: the one that its seat had at work, or otherwise the one that it has then
  abbrev pub member_of_turn : TurnView C V M → Option ℕ
  member_of_turn t = member_told (member_of (task_at t.old.core.tasks t.seat)) (member_of (task_at t.new.core.tasks t.seat))

module _ {C V M : Type 0} (meaning : Meaning C V M) where
  -- The seat made the one event that was due, with its lines sent, and ran out of memory only if it may. What the engine keeps for
  -- each other seat stays.
  pub record IsTurn (t : TurnView C V M) : Type 0 where
    pub turned : HasTurned meaning t.seat (stage_at meaning.stage t.old.core.code t.hand) t.old t.new t.outcome
    pub lacks : LacksAsDue meaning.stage t.old.core t.seat t.hand t.outcome
    pub others : SlotsStay t.seat (parts_of meaning t.old.core) (parts_of meaning t.new.core)

  -- A turn joined those before it, and its member is this.
  pub record HasJoined (t : TurnView C V M) (member : Option ℕ) (turns now : List (TurnView C V M)) : Type 0 where
    pub turned : IsTurn t
    pub told : member ≡ member_of_turn t
    pub joined : now ≡ turns ++ t ∷ []

  -- turns lead from one shell to another, each from the shell that the one before left
  abbrev pub AreTurnsBetween : ShellView C V M → List (TurnView C V M) → ShellView C V M → Type 0
  AreTurnsBetween first [] last = last ≡ first
  AreTurnsBetween first (t ∷ ts) last = (t.old ≡ first) × IsTurn t × AreTurnsBetween t.new ts last

  -- Turns of one seat: each with the work in flight that the one before left, but for steps that its machine made alone.
  abbrev pub AreOfSeat : C → ℕ → ℕ → Work M → List (TurnView C V M) → Work M → Type 0
  AreOfSeat code slice seat work [] left = left ≡ work
  AreOfSeat code slice seat work (t ∷ ts) left =
      (t.seat ≡ seat) × IsPrepared meaning.is_machine meaning.stage code slice work t.hand
      × ((next : Work M) × Fits meaning t.new.core seat next × AreOfSeat code slice seat next ts left)

  -- A seat that has the turn had these turns on a shell. They joined the turns before them, and are its own.
  pub record HasHadTurns (code : C) (seat : ℕ) (old : Work M) (taken : ShellView C V M) (turns : List (TurnView C V M)) (given : ShellView C V M)
      (now : List (TurnView C V M)) (new : Work M) (led : List (TurnView C V M)) : Type 0 where
    pub joined : now ≡ turns ++ led
    pub follows : AreTurnsBetween taken led given
    pub each : AreOfSeat code taken.core.limits.slice seat old led new
    pub leaves : LeavesInOrder meaning code seat taken given new
