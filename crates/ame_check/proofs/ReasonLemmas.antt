-- Reasons for which a walk can't go on.
use Rattle.std.proofs.Common.{◌≡◌, ℕ, ◌<◌, ◌≤◌, ℤ, Bool, true, false, List, [], ◌∷◌, ◌++◌, Option, Some, None, is_some, map, length, get_or, refl, sym, ap, ◌∙◌, subst, arith}
use Rattle.ame_term.specs.Frame.{Side, side_told}
use Rattle.ame_term.specs.Context.{focus}
use Rattle.ame_term.specs.Maps.{at}
use Rattle.ame_term.specs.State.{State}
use Rattle.ame_term.specs.declared.types.Loc.{Loc}
use Rattle.ame_term.specs.Tree.{Tree}
use Rattle.ame_journal.specs.Replay.{replay, or_else}
use Rattle.ame_journal.specs.Replayed.{Replayed, is_at_unprotected, side_at}
use Rattle.ame_journal.specs.Totals.{is_note}
use Rattle.ame_journal.specs.declared.entry.Entry.{Entry}
use Rattle.ame_journal.specs.declared.entry.EntryKind.{EntryKind}
use Rattle.ame_machine.specs.Meaning.{Meaning}
use Rattle.ame_machine.specs.MachineView.{MachineView, running_side}
use Rattle.ame_machine.specs.Need.{need_of_focus}
use Rattle.ame_machine.specs.Sound.{IsSoundStage}
use Rattle.ame_machine.specs.declared.wants.Wants.{Wants}
use Rattle.ame_machine.specs.declared.wants.Wants.TheVariants as wants
use Rattle.ame_check.specs.Reasons.{is_unprotected_side, ComesAt, MeetsReason, IsMet, entry_side, is_shut, IsShut}
use Rattle.ame_check.specs.Visit.{VisitMeets}
use Rattle.ame_check.specs.Entries.{MeetsNoTall}
use Rattle.ame_check.specs.Walked.{place_with, Allocates, WantsAnswer, IsAtStep}
use Rattle.ame_check.specs.declared.reason.Reason.{Reason}
use Rattle.ame_check.specs.declared.reason.Reason.TheVariants as reason
use Rattle.ame_check.proofs.EntryLemmas.{whole-leads}
use Rattle.ame_check.proofs.FedLemmas.{shown-some}
use Rattle.ame_check.proofs.ListLemmas.{rest-some}
use Rattle.ame_check.specs.declared.stored.Stored.{Stored}

under-is : (b : Bool) → b ≡ is_unprotected_side (side_told b)
under-is true = refl
under-is false = refl

module _ {C V M : Type 0} (meaning : Meaning C V M) (code : C) (sound : (m : M) → meaning.is_machine code m → IsSoundStage (meaning.stage code m))
    (s : State) (i : ℕ) (fresh : List ℕ) (cells overlay : List (ℕ × Stored V)) (m : M) (side : Side) (n : ℕ) (a : IsAtStep meaning code s i fresh cells overlay m side n) where
  abbrev view : MachineView
  view = meaning.stage code m

  module _ (total : ℕ) (within : n ≤ total) (k : ℕ) (count : k ≡ view.steps) where
    comes-here : (want : Wants) → view.want ≡ Some want → ComesAt (running_side view) s i fresh total view.steps want a.walking.rest a.walking.going.now
    comes-here want told = record {
      few = let counted : view.steps ≡ n = a.counted in omega arith;
      used = view.fresh;
      front = a.walking.front;
      leads = whole-leads (meaning.signature code) s i (running_side view) (place_with a.walking.sets view) view.steps a.walking.going;
      term = view.term;
      member = a.walking.going.member;
      wants = (sound m a.walking.machine).told want told ∙ ap (λ (b : Bool). need_of_focus b (focus view.term)) (under-is view.inside);
    }

    pub comes-at : (want : Wants) → view.want ≡ Some want → ComesAt side s i fresh total k want a.walking.rest a.walking.going.now
    comes-at want told =
        subst (λ (z : Side). ComesAt z s i fresh total k want a.walking.rest a.walking.going.now) a.runs_on
        (subst (λ (j : ℕ). ComesAt (running_side view) s i fresh total j want a.walking.rest a.walking.going.now) (sym count) (comes-here want told))

    pub stops-met : (want : Wants) → view.want ≡ Some want → MeetsReason side s i fresh total (reason.Stops k want)
    stops-met want told = (a.walking.rest, a.walking.going.now, comes-at want told)

    pub unanswered-met : WantsAnswer view.want → MeetsReason side s i fresh total (reason.Unanswered k)
    unanswered-met (device, x, told) = (device, x, a.walking.rest, a.walking.going.now, comes-at (wants.Device device x) told)

    at_rest : (want : Wants) → view.want ≡ Some want → (rest : List ℕ) → a.walking.rest ≡ rest → ComesAt side s i fresh total k want rest a.walking.going.now
    at_rest want told rest is = subst (λ (xs : List ℕ). ComesAt side s i fresh total k want xs a.walking.going.now) is (comes-at want told)

    pub missing-met : Allocates view.want → a.walking.rest ≡ [] → MeetsReason side s i fresh total (reason.Missing k)
    missing-met (sort, number, told) none = (sort, number, a.walking.going.now, at_rest (wants.Alloc sort number) told [] none)

    pub taken-met : Allocates view.want → (l : Loc) (more : List ℕ) → a.walking.rest ≡ l.0 ∷ more → (v : Stored V) → Some v ≡ or_else (at overlay l.0) (at cells l.0)
        → MeetsReason side s i fresh total (reason.Taken k l)
    taken-met (sort, number, told) l more is v has =
        let shown = (shown-some meaning code (at overlay l.0) (at cells l.0) (at a.walking.sets l.0) (at s.store l.0) v (a.walking.laid l.0) (a.walking.store l.0) has).1 in
        (sort, number, more, a.walking.going.now, ap is_some (a.walking.going.after_run.stored l.0 ∙ shown), at_rest (wants.Alloc sort number) told (l.0 ∷ more) is)

    pub unused-met : (want : Wants) → view.want ≡ Some want → (l : Loc) (more : List ℕ) → a.walking.rest ≡ l.0 ∷ more → MeetsReason side s i fresh total (reason.Unused k l)
    unused-met want told l more is = (want, more, a.walking.going.now, at_rest want told (l.0 ∷ more) is)

    -- the first location that isn't used
    pub unused-first : (want : Wants) → view.want ≡ Some want → (told used : List Loc) → fresh ≡ map (λ z. z.0) told → map (λ z. z.0) used ≡ view.fresh → length used < length told
        → MeetsReason side s i fresh total (reason.Unused k (get_or told (length used) (record { 0 = 0 })))
    unused-first want wanted told used as_told as_used below =
        let front : map (λ z. z.0) told ≡ map (λ z. z.0) used ++ a.walking.rest = sym as_told ∙ a.walking.front ∙ ap (λ (xs : List ℕ). xs ++ a.walking.rest) (sym as_used) in
        let r = rest-some told used a.walking.rest (record { 0 = 0 }) front below in
        unused-met want wanted (get_or told (length used) (record { 0 = 0 })) r.0 r.1

-- An entry meets each reason that its walk meets
pub met-on : (r : Replayed) (entry : Entry) (side : Side) → side ≡ entry_side entry.kind entry.number r.state → (why : Reason)
    → MeetsReason side r.state entry.number entry.fresh entry.steps why → IsMet r entry why
met-on r entry side is (reason.Stops k want) met = subst (λ (z : Side). MeetsReason z r.state entry.number entry.fresh entry.steps (reason.Stops k want)) is met
met-on r entry side is (reason.Unanswered k) met = subst (λ (z : Side). MeetsReason z r.state entry.number entry.fresh entry.steps (reason.Unanswered k)) is met
met-on r entry side is (reason.Missing k) met = subst (λ (z : Side). MeetsReason z r.state entry.number entry.fresh entry.steps (reason.Missing k)) is met
met-on r entry side is (reason.Taken k l) met = subst (λ (z : Side). MeetsReason z r.state entry.number entry.fresh entry.steps (reason.Taken k l)) is met
met-on r entry side is (reason.Unused k l) met = subst (λ (z : Side). MeetsReason z r.state entry.number entry.fresh entry.steps (reason.Unused k l)) is met
met-on r entry side is reason.NoMember met = absurd met
met-on r entry side is reason.Inside met = absurd met
met-on r entry side is reason.Outside met = absurd met
met-on r entry side is reason.NoSteps met = absurd met
met-on r entry side is reason.Answered met = absurd met

pub met-visit : (s : State) (i : ℕ) (fresh : List ℕ) (answer : Option ℤ) (total : ℕ) (why : Reason) → MeetsReason Side.Unprotected s i fresh total why → VisitMeets s i fresh answer total why
met-visit s i fresh answer total reason.Answered met = absurd met
met-visit s i fresh answer total (reason.Stops k want) met = met
met-visit s i fresh answer total _ met = met

pub visit-met : (r : Replayed) (entry : Entry) → entry.kind ≡ EntryKind.Free → (why : Reason) → VisitMeets r.state entry.number entry.fresh entry.answer entry.steps why → IsMet r entry why
visit-met r entry kind reason.Answered met = met
visit-met r entry kind (reason.Stops k want) met = met-on r entry Side.Unprotected (ap (λ (z : EntryKind). entry_side z entry.number r.state) (sym kind)) (reason.Stops k want) met
visit-met r entry kind (reason.Unanswered k) met = met-on r entry Side.Unprotected (ap (λ (z : EntryKind). entry_side z entry.number r.state) (sym kind)) (reason.Unanswered k) met
visit-met r entry kind (reason.Missing k) met = met-on r entry Side.Unprotected (ap (λ (z : EntryKind). entry_side z entry.number r.state) (sym kind)) (reason.Missing k) met
visit-met r entry kind (reason.Taken k l) met = met-on r entry Side.Unprotected (ap (λ (z : EntryKind). entry_side z entry.number r.state) (sym kind)) (reason.Taken k l) met
visit-met r entry kind (reason.Unused k l) met = met-on r entry Side.Unprotected (ap (λ (z : EntryKind). entry_side z entry.number r.state) (sym kind)) (reason.Unused k l) met
visit-met r entry kind reason.NoMember met = absurd met
visit-met r entry kind reason.Inside met = absurd met
visit-met r entry kind reason.Outside met = absurd met
visit-met r entry kind reason.NoSteps met = absurd met

-- more steps are to be made
pub comes-later : (side : Side) (s : State) (i : ℕ) (fresh : List ℕ) (few many k : ℕ) (want : Wants) (rest : List ℕ) (now : State) → few ≤ many → ComesAt side s i fresh few k want rest now
    → ComesAt side s i fresh many k want rest now
comes-later side s i fresh few many k want rest now within c = record {
  few = let under : k ≤ few = c.few in omega arith;
  used = c.used;
  front = c.front;
  leads = c.leads;
  term = c.term;
  member = c.member;
  wants = c.wants;
}

pub meets-later : (side : Side) (s : State) (i : ℕ) (fresh : List ℕ) (few many : ℕ) → few ≤ many → (why : Reason) → MeetsReason side s i fresh few why → MeetsReason side s i fresh many why
meets-later side s i fresh few many within (reason.Stops k want) met = (met.0, met.1, comes-later side s i fresh few many k want met.0 met.1 within met.2)
meets-later side s i fresh few many within (reason.Unanswered k) met = (met.0, met.1, met.2, met.3, comes-later side s i fresh few many k (wants.Device met.0 met.1) met.2 met.3 within met.4)
meets-later side s i fresh few many within (reason.Missing k) met = (met.0, met.1, met.2, comes-later side s i fresh few many k (wants.Alloc met.0 met.1) [] met.2 within met.3)
meets-later side s i fresh few many within (reason.Taken k l) met =
    (met.0, met.1, met.2, met.3, met.4, comes-later side s i fresh few many k (wants.Alloc met.0 met.1) (l.0 ∷ met.2) met.3 within met.5)
meets-later side s i fresh few many within (reason.Unused k l) met = (met.0, met.1, met.2, comes-later side s i fresh few many k met.0 (l.0 ∷ met.1) met.2 within met.3)
meets-later side s i fresh few many within reason.NoMember met = absurd met
meets-later side s i fresh few many within reason.Inside met = absurd met
meets-later side s i fresh few many within reason.Outside met = absurd met
meets-later side s i fresh few many within reason.NoSteps met = absurd met
meets-later side s i fresh few many within reason.Answered met = absurd met

-- a journal ends at an entry that can't be made, for a reason that the entry meets, and it meets no tall form
abbrev pub FailsBy : Tree → List Entry → Entry → Reason → Type 0
FailsBy program entries entry why =
    MeetsNoTall program entries entry × (replay program (entries ++ entry ∷ []) ≡ None) × ((r : Replayed) × (replay program entries ≡ Some r) × IsMet r entry why)

pub note-side : (kind : EntryKind) → is_note kind ≡ true → (i : ℕ) (s : State) → is_shut kind (is_at_unprotected i s) ≡ false → side_at i s ≡ entry_side kind i s
note-side EntryKind.Ran note i s out = cc
note-side EntryKind.Free note i s out = cc
note-side EntryKind.Stuck note i s out = ap side_told out
note-side EntryKind.Cut note i s out = refl
note-side EntryKind.Tall note i s out = refl

-- a note is shut to a member that stands at `unprotected` alone, and isn't made on its side
pub shut-apart : (kind : EntryKind) → is_note kind ≡ true → (r : Replayed) (i : ℕ) → is_shut kind (is_at_unprotected i r.state) ≡ true
    → (kind ≡ EntryKind.Stuck) × (is_at_unprotected i r.state ≡ true) × (side_at i r.state ≡ entry_side kind i r.state → ⊥) × IsShut kind r i
shut-apart EntryKind.Ran note r i shut = cc
shut-apart EntryKind.Free note r i shut = cc
shut-apart EntryKind.Stuck note r i shut = (refl, shut, (λ same. let clash : Side.Unprotected ≡ Side.Protected = sym (ap side_told shut) ∙ same in cc), shut)
shut-apart EntryKind.Cut note r i shut = cc
shut-apart EntryKind.Tall note r i shut = cc
