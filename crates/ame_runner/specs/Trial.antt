-- Members that are tried on a copy.
use Rattle.std.specs.Prelude.{◌≡◌, ◌≢◌, ℕ, ◌+◌, ◌≤◌, Bool, true, false, List, [], ◌∷◌, ◌++◌, length, Some, None, is_some, ⊤}
use Rattle.ame_term.specs.Act.{fresh_location}
use Rattle.ame_term.specs.State.{after}
use Rattle.ame_term.specs.declared.semantics.StepKind.{StepKind}
use Rattle.ame_term.specs.declared.semantics.Label.{Label}
use Rattle.ame_journal.specs.Labels.{fresh_of, made_by, fragment_labels}
use Rattle.ame_strong.specs.Next.{next_of}
use Rattle.ame_strong.specs.declared.next_label.Next.TheVariants as next
use Rattle.ame_weak.specs.Weak.{Weak, weak_after, weak_run}
use Rattle.ame_weak.specs.Bounds.{IsWithinBounds, AreWithinBounds, is_growing_tall}
use Rattle.ame_weak.specs.declared.tries.Try.{Try}
use Rattle.ame_runner.specs.declared.trial.TriedOut.{TriedOut}
use Rattle.ame_runner.specs.declared.trial.AttemptEnd.{AttemptEnd}

-- the locations from one on, one after the other, up to the one before the last
abbrev pub AreNext : ℕ → List ℕ → ℕ → Type 0
AreNext l [] end = l ≡ end
AreNext l (m ∷ locations) end = (m ≡ l) × AreNext (l + 1) locations end

-- Member i is active in v after steps of these kinds from w, each within the bounds. Their locations begin at the first that is given,
-- and the next one would be `above`.
pub record IsTrial (w : Weak) (i first : ℕ) (v : Weak) (kinds : List StepKind) (above : ℕ) : Type 0 where
  pub leads : weak_run w (fragment_labels i kinds) ≡ Some v
  pub within : AreWithinBounds w (fragment_labels i kinds)
  pub made : AreNext first (made_by kinds) above

-- a kind of step makes no location but this one
abbrev pub MakesNext : ℕ → StepKind → Type 0
MakesNext l kind = (m : ℕ) → fresh_location kind ≡ Some m → m ≡ l

-- one step more, which makes the next location if it makes one
pub record HasTriedOn (v : Weak) (kinds : List StepKind) (above : ℕ) (later : Weak) (more : List StepKind) (next_above : ℕ) : Type 0 where
  pub kind : StepKind
  pub legal : weak_after v (Label.Step kind) ≡ Some later
  pub within : IsWithinBounds v (Label.Step kind)
  pub added : more ≡ kinds ++ kind ∷ []
  pub made : AreNext above (fresh_of kind) next_above

-- neither is the next condition false, nor would the next value be nested too deeply
abbrev pub MayStep : Weak → Type 0
MayStep v = (next_of v.state None ≢ next.Stuck) × (is_growing_tall v None ≡ false)

-- the end of a fragment that was tried
abbrev pub StandsAs : AttemptEnd → Weak → Type 0
StandsAs AttemptEnd.Leaves v = is_some (after v.state Label.Leave) ≡ true
StandsAs AttemptEnd.Ends v = is_some (after v.state Label.End) ≡ true
StandsAs AttemptEnd.Fails v = next_of v.state None ≡ next.Stuck
StandsAs AttemptEnd.Tall v = is_growing_tall v None ≡ true
StandsAs AttemptEnd.Cut v = MayStep v

-- the fragment has come to its end, or can't go on
abbrev pub IsDecided : AttemptEnd → Type 0
IsDecided AttemptEnd.Cut = ⊥
IsDecided _ = ⊤

-- the turn that its last label takes, if it has one
abbrev pub last_turn : AttemptEnd → ℕ
last_turn AttemptEnd.Leaves = 1
last_turn AttemptEnd.Ends = 1
last_turn AttemptEnd.Fails = 0
last_turn AttemptEnd.Tall = 0
last_turn AttemptEnd.Cut = 0

-- Member i was tried from w, with new locations from the first on and with the turns that were left. Its activation, its
-- steps and its last label took one each. It is cut off only if it has used them up.
pub record IsTriedOut (w : Weak) (i first turns : ℕ) (a : TriedOut) : Type 0 where
  pub behind : Weak
  pub is : IsTrial w i first behind a.kinds.items a.above
  pub comes : StandsAs a.outcome behind
  pub counted : a.turns ≡ length a.kinds.items + 1 + last_turn a.outcome
  pub within : a.turns ≤ turns
  pub used : a.outcome ≡ AttemptEnd.Cut → a.turns ≡ turns

-- an attempt when the turns are used up
pub record IsEndedAtLast (v : Weak) (kinds : List StepKind) (above turns : ℕ) (a : TriedOut) : Type 0 where
  pub made : a.kinds.items ≡ kinds
  pub up : a.above ≡ above
  pub took : a.turns ≡ turns
  pub comes : StandsAs a.outcome v
  pub last : last_turn a.outcome ≡ 0

-- Tries

abbrev pub is_failure : AttemptEnd → Bool
is_failure AttemptEnd.Fails = true
is_failure _ = false

-- the try of an attempt of member i
pub record IsTryOf (i : ℕ) (a : TriedOut) (t : Try) : Type 0 where
  pub number : t.certificate.number ≡ i
  pub steps : t.certificate.steps ≡ length a.kinds.items
  pub fresh : t.certificate.fresh ≡ made_by a.kinds.items
  pub failing : t.failing ≡ is_failure a.outcome
