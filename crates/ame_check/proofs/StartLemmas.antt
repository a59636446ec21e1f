-- A replay starts, and the walk of an entry begins.
use Rattle.std.proofs.Common.{◌≡◌, ℕ, ◌+◌, ◌<◌, ℤ, Bool, true, false, List, [], ◌++◌, Option, Some, None, is_some, refl, sym, ap, ◌∙◌, subst, arith, append-nil, length, if◌then◌else◌}
use Rattle.std.specs.BTreeMap.{is_at}
use Rattle.std.specs.Ordering.{nat_cmp}
use Rattle.std.specs.Option.{IsSome}
use Rattle.ame_term.specs.Tree.{Typ, Tree}
use Rattle.ame_term.specs.Signature.{Signature}
use Rattle.ame_term.specs.Frame.{Side, side_told}
use Rattle.ame_term.specs.Maps.{at, put}
use Rattle.ame_term.specs.State.{State, start}
use Rattle.ame_laws.specs.Orderly.{IsOrderly}
use Rattle.ame_laws.proofs.MapLemmas.{numbers-at}
use Rattle.ame_laws.specs.Typed.StoreTyping.{StoreTyping}
use Rattle.ame_laws.specs.Typed.TypedState.{IsTyped}
use Rattle.ame_journal.specs.Replayed.{Replayed, begun_at, is_inside, is_at_unprotected}
use Rattle.ame_journal.specs.Replay.{replay}
use Rattle.ame_journal.specs.declared.entry.Entry.{Entry}
use Rattle.ame_journal.proofs.ReachedLemmas.{IsCalm, calm-replayed}
use Rattle.ame_journal.proofs.TypedLemmas.{typed-replayed}
use Rattle.ame_machine.specs.Run.AgreesWith.{with_members}
use Rattle.ame_machine.specs.Meaning.{Meaning}
use Rattle.ame_machine.specs.Sound.{IsAccepted}
use Rattle.ame_machine.specs.MachineView.{MachineView, starting_at, running_side}
use Rattle.ame_check.proofs.FormLemmas.{forms-none, below-none}
use Rattle.ame_check.specs.Shows.{HaveForms, ReplayView, ShowsValue, ShowsMember, Shows, StandsForEntries, IsResting}
use Rattle.ame_check.specs.Walk.{begun_on, steps_on, IsStepping}
use Rattle.ame_check.specs.Walked.{place_with, IsAtStep}
use Rattle.ame_check.specs.declared.stored.Stored.{Stored}

-- with another member active, or none
active-typed : (signature : Signature) (types : StoreTyping) (s : State) (side : Side) (i : ℕ) → is_some (at s.members i) ≡ true → IsTyped signature types s → IsTyped signature types (begun_on side i s)
active-typed signature types s Side.Protected i there h = record {
  typed = record {
    stored = h.typed.stored;
    members = h.typed.members;
    present = λ j is. subst (λ (k : ℕ). IsSome (at s.members k)) (let opened : Some i ≡ Some j = is in let same : i ≡ j = cc in same) there;
  };
  located = h.located;
}
active-typed signature types s Side.Unprotected i there h = record {
  typed = record { stored = h.typed.stored; members = h.typed.members; present = λ j is. cc };
  located = h.located;
}

active-orderly : (s : State) (side : Side) (i : ℕ) → is_some (at s.members i) ≡ true → IsOrderly s → IsOrderly (begun_on side i s)
active-orderly s Side.Protected i there o = record {
  members_rise = o.members_rise;
  store_rises = o.store_rises;
  members_below = o.members_below;
  active_there = λ j is. let opened : Some i ≡ Some j = is in let same : i ≡ j = cc in subst (λ (k : ℕ). is_some (at s.members k) ≡ true) same there;
}
active-orderly s Side.Unprotected i there o = record {
  members_rise = o.members_rise;
  store_rises = o.store_rises;
  members_below = o.members_below;
  active_there = λ j is. cc;
}

-- where nothing was made yet
going-begins : (signature : Signature) (types : StoreTyping) (s : State) (i : ℕ) (side : Side) (term : Tree) → at s.members i ≡ Some term → IsTyped signature types s → IsOrderly s
    → (side ≡ Side.Unprotected → is_at_unprotected i s ≡ true) → (m : MachineView) → m.term ≡ term → m.prints ≡ [] → m.spawns ≡ [] → m.fresh ≡ []
    → IsStepping signature types s i side (place_with [] m) 0
going-begins signature types s i side term member typed orderly standing m at_term prints spawns fresh = record {
  now = begun_on side i s;
  after_run = record {
    stored = λ l. refl;
    output = sym (append-nil s.output) ∙ ap (λ (xs : List ℤ). s.output ++ xs) (sym prints);
    others = λ k apart. ap (λ (bodies : List Tree). at (with_members s.members s.next bodies) k) (sym spawns);
    next = let len : length m.spawns ≡ 0 = ap length spawns in omega arith;
  };
  member = member ∙ ap (λ (t : Tree). Some t) (sym at_term);
  active = refl;
  orderly = active-orderly s side i (ap is_some member) orderly;
  typed = active-typed signature types s side i (ap is_some member) typed;
  standing = standing;
  goes = λ left rest answer.
      let none : 0 + left ≡ left = omega arith in
      ap (λ (k : ℕ). steps_on side i k (m.fresh ++ rest) answer (begun_on side i s)) none
      ∙ ap (λ (xs : List ℕ). steps_on side i left (xs ++ rest) answer (begun_on side i s)) fresh;
  low = λ more c. let none : c.made < 0 = c.below in omega arith;
}

module _ {C V M : Type 0} (meaning : Meaning C V M) (code : C) where
  pub starts : (accepted : IsAccepted (meaning.signature code) (meaning.program code)) (machine : M) (cells : List (ℕ × Stored V)) (members none : List (ℕ × M)) (output : List ℤ) → meaning.is_machine code machine → meaning.stage code machine ≡ starting_at (meaning.program code)
      → cells ≡ [] → none ≡ [] → members ≡ put none 0 machine → output ≡ [] → StandsForEntries meaning code [] (record { cells = cells; members = members; output = output; next = 1 })
  starts accepted machine cells members none output good is no_cells no_members put_one no_output =
      let typed = typed-replayed (meaning.signature code).devices accepted.places (meaning.program code) accepted.refs [] (begun_at (meaning.program code)) accepted.accepts accepted.source accepted.numbered refl in record {
        led = begun_at (meaning.program code);
        replayed = refl;
        types = typed.0;
        typed = subst (λ (refs : Option (List Typ)). IsTyped (record { devices = (meaning.signature code).devices; refs = refs }) typed.0 (begun_at (meaning.program code)).state) (sym accepted.listed) typed.1;
        forms = forms-none (meaning.signature code) typed.0 cells no_cells;
        below = λ most told. below-none most cells no_cells;
        shows = record {
          store = λ l. subst (λ (es : List (ℕ × Stored V)). ShowsValue meaning code (at es l) None) (sym no_cells) refl;
          members = λ k. subst (λ (es : List (ℕ × M)). ShowsMember meaning code false (at es k) (at (start (meaning.program code)).members k)) (sym (put_one ∙ ap (λ (es : List (ℕ × M)). put es 0 machine) no_members))
              (one k (is_at (nat_cmp k) 0));
          output = no_output;
          next = refl;
        };
      }
    where
      one : (k : ℕ) (b : Bool) → ShowsMember meaning code false (if b then Some machine else None) (if b then Some (meaning.program code) else None)
      one k true = (good, ap (λ (m : MachineView). Some m.term) (sym is), is ∙ ap (λ (m : MachineView). starting_at m.term) (sym is))
      one k false = refl

  -- A member of a replayed state begins an entry's steps

  module _ (entries : List Entry) (place : ReplayView V M) (r : Replayed) (replayed : replay (meaning.program code) entries ≡ Some r)
      (shows : Shows meaning code place r) (i : ℕ) (machine : M) (found : Some machine ≡ at place.members i) where
    shown : ShowsMember meaning code (is_inside r i) (Some machine) (at r.state.members i)
    shown = subst (λ (o : Option M). ShowsMember meaning code (is_inside r i) o (at r.state.members i)) (sym found) (shows.members i)

    pub calm : IsCalm r
    calm = calm-replayed (meaning.program code) entries r replayed

    pub its-term : at r.state.members i ≡ Some (meaning.stage code machine).term
    its-term = shown.1

    pub its-rest : IsResting (is_inside r i) (meaning.stage code machine)
    its-rest = shown.2

    pub its-machine : meaning.is_machine code machine
    its-machine = shown.0

    pub is-early : i < r.state.next
    is-early = numbers-at (λ j. j < r.state.next) r.state.members i (ap is_some its-term) calm.orderly.members_below

    -- a machine at its term alone, on a side on which it may be
    pub walk-begins : (types : StoreTyping) → IsTyped (meaning.signature code) types r.state → HaveForms (meaning.signature code) types place.cells → (m : M) (overlay : List (ℕ × Stored V)) (fresh : List ℕ) (inside : Bool) → meaning.is_machine code m → overlay ≡ []
        → (meaning.stage code m).term ≡ (meaning.stage code machine).term → (meaning.stage code m).prints ≡ [] → (meaning.stage code m).spawns ≡ [] → (meaning.stage code m).fresh ≡ []
        → (meaning.stage code m).steps ≡ 0 → (meaning.stage code m).inside ≡ inside
        → (inside ≡ true → is_at_unprotected i r.state ≡ true) → IsAtStep meaning code r.state i fresh place.cells overlay m (side_told inside) 0
    walk-begins types typed forms m overlay fresh inside good empty term prints spawns none zero flag standing =
        let on : running_side (meaning.stage code m) ≡ side_told inside = ap side_told flag in
        record {
          walking = record {
            machine = good;
            early = is-early;
            store = shows.store;
            sets = [];
            laid = λ l. subst (λ (es : List (ℕ × Stored V)). ShowsValue meaning code (at es l) None) (sym empty) refl;
            types = types;
            forms = forms;
            forms_set = forms-none (meaning.signature code) types overlay empty;
            below = λ most told under. below-none most overlay empty;
            going =
                subst (λ (k : ℕ). IsStepping (meaning.signature code) types r.state i (running_side (meaning.stage code m)) (place_with [] (meaning.stage code m)) k) (sym zero)
                (going-begins (meaning.signature code) types r.state i (running_side (meaning.stage code m)) (meaning.stage code machine).term its-term typed calm.orderly
                (λ un. standing (side-inside inside (sym on ∙ un))) (meaning.stage code m) term prints spawns none);
            rest = fresh;
            front = ap (λ (xs : List ℕ). xs ++ fresh) (sym none);
          };
          runs_on = on;
          counted = zero;
        }
      where
        side-inside : (b : Bool) → side_told b ≡ Side.Unprotected → b ≡ true
        side-inside true e = refl
        side-inside false e = absurd (cc)
