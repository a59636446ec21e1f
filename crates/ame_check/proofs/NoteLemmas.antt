-- Notes.
use Rattle.std.proofs.Common.{◌≡◌, ◌≢◌, ℕ, ◌+◌, ◌≤◌, ◌==◌, ◌||◌, ℤ, Bool, true, false, List, Option, Some, None, refl, sym, ap, ◌∙◌, subst, is_some, arith}
use Rattle.std.proofs.lemmas.Bool.{eq-eqb, eqb-true}
use Rattle.ame_machine.specs.Run.Local.{LocalState, goes}
use Rattle.ame_term.specs.Tree.{Val, Tree}
use Rattle.ame_term.specs.Height.{max_height}
use Rattle.ame_term.specs.Frame.{Side, side_told}
use Rattle.ame_term.specs.Context.{Focus, focus}
use Rattle.ame_term.specs.Act.{act_of}
use Rattle.ame_term.specs.Maps.{at}
use Rattle.ame_term.specs.State.{State, at_unprotected}
use Rattle.ame_term.specs.declared.types.Unary.TheVariants as unary
use Rattle.ame_term.specs.declared.semantics.Label.{Label}
use Rattle.ame_journal.specs.Replayed.{Replayed, is_inside, has_such, is_at_unprotected, side_at, is_failing, is_tall, is_false_condition, coming_height}
use Rattle.ame_journal.specs.Replay.{replay, replay_kind, fragment, attempt, attempt_on, steps, locations, note_where}
use Rattle.ame_journal.specs.Totals.{is_note}
use Rattle.ame_journal.specs.declared.entry.Entry.{Entry}
use Rattle.ame_journal.specs.declared.entry.EntryKind.{EntryKind}
use Rattle.ame_journal.proofs.ReachedLemmas.{IsCalm}
use Rattle.ame_machine.specs.MachineView.{MachineView, running_side, place_shown}
use Rattle.ame_machine.specs.Need.{Need, need_of, need_of_focus, need_told}
use Rattle.ame_machine.specs.Sound.{IsSoundStage}
use Rattle.ame_machine.specs.Move.{tells_leave, AdvancesWithin}
use Rattle.ame_machine.specs.declared.wants.Wants.{Wants}
use Rattle.ame_machine.specs.declared.wants.Wants.TheVariants as wants
use Rattle.ame_machine.proofs.NeedLemmas.{comes_as}
use Rattle.ame_machine.proofs.LowLemmas.{stands-low, tall-is}
use Rattle.ame_check.specs.Walk.{begun_on, steps_on, ComesToTall, StaysLow}
use Rattle.ame_check.specs.Entries.{BeginsSteps, MeetsTall, MeetsNoTall, is_confirmed}
use Rattle.ame_check.specs.Reasons.{entry_side}
use Rattle.ame_check.proofs.EntryLemmas.{stands-as, fragment-calm, fragment-none}
use Rattle.ame_check.proofs.RanLemmas.{no-fragment}

-- An attempt is the steps on the member's side

pub attempt-is : (s : State) (i n : ℕ) (fresh : List ℕ) (term : Tree) → s.active ≡ None → at s.members i ≡ Some term
    → attempt i n fresh s ≡ steps_on (side_at i s) i n fresh None (begun_on (side_at i s) i s)
attempt-is s i n fresh term idle member = by (at_unprotected (focus term)) refl
  where
    on : (side : Side) → side_at i s ≡ side → attempt_on side i n fresh s ≡ steps_on side i n fresh None (begun_on side i s)
        → attempt i n fresh s ≡ steps_on (side_at i s) i n fresh None (begun_on (side_at i s) i s)
    on side is e = subst (λ (z : Side). attempt_on z i n fresh s ≡ steps_on z i n fresh None (begun_on z i s)) (sym is) e

    by : (b : Bool) → at_unprotected (focus term) ≡ b → attempt i n fresh s ≡ steps_on (side_at i s) i n fresh None (begun_on (side_at i s) i s)
    by true stands =
        on Side.Unprotected (ap side_told (stands-as s i idle term member ∙ stands))
        (ap (λ (o : Option ℕ). steps (Label.Free i) i n (locations fresh) (record s { active = o })) idle)
    by false calm = on Side.Protected (ap side_told (stands-as s i idle term member ∙ calm)) (fragment-calm s i idle term member n fresh calm)

-- The place of a machine

-- whether it leaves
at-leave : (f : Focus) → need_of_focus false f ≢ Need.Leave → at_unprotected f ≡ false
at-leave (Focus.AtValue v) a = refl
at-leave (Focus.AtRedex Side.Unprotected redex) a = absurd (a refl)
at-leave (Focus.AtRedex Side.Protected (Tree.Unprotected part)) a = absurd (a refl)
at-leave (Focus.AtRedex Side.Protected _) a = refl

untold-leave : (want : Wants) → tells_leave (Some want) ≡ false → need_told want ≢ Need.Leave
untold-leave wants.Leave e = absurd (cc)
untold-leave _ e = λ is. cc

told-leave : (want : Wants) → tells_leave (Some want) ≡ true → want ≡ wants.Leave
told-leave wants.Leave e = refl
told-leave _ e = cc

-- whether its condition is false
failing-need : (f : Focus) → is_false_condition f ≡ true → need_of_focus false f ≡ Need.Block
unfolding act_of
failing-need (Focus.AtRedex Side.Protected (Tree.One unary.Block (Tree.Held (Val.Bool false)))) e = refl
failing-need _ e = cc

-- Notes and facts

blocks-told : (want : Wants) → need_told want ≡ Need.Block → want ≡ wants.Block
blocks-told wants.Block e = refl
blocks-told _ e = cc

tall-told : (want : Wants) → need_told want ≡ Need.Tall → want ≡ wants.Tall
tall-told wants.Tall e = refl
tall-told _ e = cc

unblocked : (want : Wants) → (want ≡ wants.Block → ⊥) → is_confirmed EntryKind.Stuck want ≡ false
unblocked wants.Block a = absurd (a refl)
unblocked _ a = refl

pub untall : (want : Wants) → (want ≡ wants.Tall → ⊥) → is_confirmed EntryKind.Tall want ≡ false
untall wants.Tall a = absurd (a refl)
untall _ a = refl

module _ (m : MachineView) (sound : IsSoundStage m) (want : Wants) (told : m.want ≡ Some want) where
  tells : need_told want ≡ need_of m
  tells = sound.told want told

  block-is : m.inside ≡ false → is_false_condition (focus m.term) ≡ is_confirmed EntryKind.Stuck want
  block-is out = by (is_false_condition (focus m.term)) refl
    where
      by : (b : Bool) → is_false_condition (focus m.term) ≡ b → b ≡ is_confirmed EntryKind.Stuck want
      by true fails =
          let need : need_told want ≡ Need.Block = tells ∙ ap (λ (z : Bool). need_of_focus z (focus m.term)) out ∙ failing-need (focus m.term) fails in
          ap (is_confirmed EntryKind.Stuck) (sym (blocks-told want need))
      by false fine =
          sym (unblocked want (λ is. let so = (comes_as m Need.Block (ap need_told (sym is) ∙ tells)).1 in let clash : true ≡ false = sym so ∙ fine in cc))

  no-block : m.inside ≡ true → is_confirmed EntryKind.Stuck want ≡ false
  no-block in_it = unblocked want (λ is. let so = (comes_as m Need.Block (ap need_told (sym is) ∙ tells)).0 in let clash : true ≡ false = sym in_it ∙ so in cc)

  pub height-is : (coming_height (running_side m) (focus m.term) == max_height + 1) ≡ is_confirmed EntryKind.Tall want
  height-is = by (coming_height (running_side m) (focus m.term) == max_height + 1) refl
    where
      by : (b : Bool) → (coming_height (running_side m) (focus m.term) == max_height + 1) ≡ b → b ≡ is_confirmed EntryKind.Tall want
      by true high =
          ap (is_confirmed EntryKind.Tall) (sym (tall-told want (tells ∙ is-tall (need_of m) refl)))
        where
          is-tall : (need : Need) → need_of m ≡ need → need_of m ≡ Need.Tall
          is-tall Need.Tall e = e
          is-tall other e = absurd (
              let low : coming_height (running_side m) (focus m.term) ≤ max_height = stands-low m.inside (focus m.term) (λ tall. let clash : other ≡ Need.Tall = sym e ∙ tall in cc) in
              let same : coming_height (running_side m) (focus m.term) ≡ max_height + 1 = eqb-true _ _ high in
              omega arith)
      by false low = sym (untall want (λ is. let clash : true ≡ false = sym (eq-eqb _ _ (tall-is m sound.low (sym tells ∙ ap need_told is))) ∙ low in cc))

-- A note is right or not

module _ (r : Replayed) (i n : ℕ) (fresh : List ℕ) (term : Tree) (idle : r.state.active ≡ None) (member : at r.state.members i ≡ Some term) where
  stuck-calm : (o : Option State) → at_unprotected (focus term) ≡ false → steps_on (side_at i r.state) i n fresh None (begun_on (side_at i r.state) i r.state) ≡ o
      → fragment i n fresh r.state ≡ o
  stuck-calm o calm e =
      let on : side_at i r.state ≡ Side.Protected = ap side_told (stands-as r.state i idle term member ∙ calm) in
      fragment-calm r.state i idle term member n fresh calm
      ∙ ap (λ (z : Side). steps_on z i n fresh None (begun_on z i r.state)) (sym on) ∙ e

  pub stuck-standing : at_unprotected (focus term) ≡ true → replay_kind EntryKind.Stuck r i n fresh None ≡ None
  stuck-standing stands = ap (λ (o : Option State). note_where (has_such (is_failing i) o) r) (fragment-none r.state i idle term member n fresh stands)

  pub note-undefined : (kind : EntryKind) → is_note kind ≡ true → steps_on (side_at i r.state) i n fresh None (begun_on (side_at i r.state) i r.state) ≡ None → replay_kind kind r i n fresh None ≡ None
  note-undefined EntryKind.Ran note e = cc
  note-undefined EntryKind.Free note e = cc
  note-undefined EntryKind.Cut note e = ap (λ (o : Option State). note_where (is_some o) r) (attempt-is r.state i n fresh term idle member ∙ e)
  note-undefined EntryKind.Tall note e = ap (λ (o : Option State). note_where (has_such (is_tall (side_at i r.state) i) o) r) (attempt-is r.state i n fresh term idle member ∙ e)
  note-undefined EntryKind.Stuck note e = ap (λ (o : Option State). note_where (has_such (is_failing i) o) r) (by (at_unprotected (focus term)) refl)
    where
      by : (b : Bool) → at_unprotected (focus term) ≡ b → fragment i n fresh r.state ≡ None
      by true stands = fragment-none r.state i idle term member n fresh stands
      by false calm = stuck-calm None calm e

  module _ (m : MachineView) (sound : IsSoundStage m) (want : Wants) (told : m.want ≡ Some want) (now : State) (there : at now.members i ≡ Some m.term) (on : running_side m ≡ side_at i r.state)
      (leads : steps_on (side_at i r.state) i n fresh None (begun_on (side_at i r.state) i r.state) ≡ Some now) where
    side-flag : (a b : Bool) → side_told a ≡ side_told b → a ≡ b
    side-flag true true e = refl
    side-flag false false e = refl
    side-flag true false e = absurd (cc)
    side-flag false true e = absurd (cc)

    flag : m.inside ≡ at_unprotected (focus term)
    flag = side-flag m.inside (is_at_unprotected i r.state) on ∙ stands-as r.state i idle term member

    pub note-is : (kind : EntryKind) → is_note kind ≡ true → replay_kind kind r i n fresh None ≡ note_where (is_confirmed kind want) r
    note-is EntryKind.Ran note = cc
    note-is EntryKind.Free note = cc
    note-is EntryKind.Cut note = ap (λ (o : Option State). note_where (is_some o) r) (attempt-is r.state i n fresh term idle member ∙ leads)
    note-is EntryKind.Tall note =
        ap (λ (o : Option State). note_where (has_such (is_tall (side_at i r.state) i) o) r) (attempt-is r.state i n fresh term idle member ∙ leads)
        ∙ ap (λ (o : Option Tree). note_where (has_such (λ (t : Tree). coming_height (side_at i r.state) (focus t) == max_height + 1) o) r) there
        ∙ ap (λ (z : Side). note_where (coming_height z (focus m.term) == max_height + 1) r) (sym on)
        ∙ ap (λ (b : Bool). note_where b r) (height-is m sound want told)
    note-is EntryKind.Stuck note = by (at_unprotected (focus term)) refl
      where
        by : (b : Bool) → at_unprotected (focus term) ≡ b → note_where (has_such (is_failing i) (fragment i n fresh r.state)) r ≡ note_where (is_confirmed EntryKind.Stuck want) r
        by true stands =
            ap (λ (o : Option State). note_where (has_such (is_failing i) o) r) (fragment-none r.state i idle term member n fresh stands)
            ∙ ap (λ (b : Bool). note_where b r) (sym (no-block m sound want told (flag ∙ stands)))
        by false calm =
            ap (λ (o : Option State). note_where (has_such (is_failing i) o) r) (stuck-calm (Some now) calm leads)
            ∙ ap (λ (o : Option Tree). note_where (has_such (λ (t : Tree). is_false_condition (focus t)) o) r) there
            ∙ ap (λ (b : Bool). note_where b r) (block-is m sound want told (flag ∙ calm))

-- without the member
pub note-absent : (r : Replayed) (i n : ℕ) (fresh : List ℕ) → r.state.active ≡ None → at r.state.members i ≡ None → (kind : EntryKind) → is_note kind ≡ true → replay_kind kind r i n fresh None ≡ None
note-absent r i n fresh idle none kind note = by kind note
  where
    side : side_at i r.state ≡ Side.Protected
    side = ap side_told (ap (has_such (λ (t : Tree). at_unprotected (focus t))) none)

    nowhere : attempt i n fresh r.state ≡ None
    nowhere = ap (λ (z : Side). attempt_on z i n fresh r.state) side ∙ no-fragment r.state i n fresh idle none

    by : (k : EntryKind) → is_note k ≡ true → replay_kind k r i n fresh None ≡ None
    by EntryKind.Ran note = cc
    by EntryKind.Free note = cc
    by EntryKind.Cut note = ap (λ (o : Option State). note_where (is_some o) r) nowhere
    by EntryKind.Tall note = ap (λ (o : Option State). note_where (has_such (is_tall (side_at i r.state) i) o) r) nowhere
    by EntryKind.Stuck note = ap (λ (o : Option State). note_where (has_such (is_failing i) o) r) (no-fragment r.state i n fresh idle none)

pub note-answered : (r : Replayed) (i n : ℕ) (fresh : List ℕ) (a : ℤ) (kind : EntryKind) → is_note kind ≡ true → replay_kind kind r i n fresh (Some a) ≡ None
note-answered r i n fresh a EntryKind.Ran note = cc
note-answered r i n fresh a EntryKind.Free note = cc
note-answered r i n fresh a _ note = refl

pub side-tall : (r : Replayed) (entry : Entry) (term : Tree) → r.state.active ≡ None → at r.state.members entry.number ≡ Some term
    → BeginsSteps entry.kind (is_inside r entry.number) entry.answer → side_at entry.number r.state ≡ entry_side entry.kind entry.number r.state
    → ComesToTall (side_at entry.number r.state) entry.number entry.steps entry.fresh r.state → MeetsTall r entry
side-tall r entry term idle member begins side c = record {
  begins = begins;
  side = side;
  made = c.made;
  below = c.below;
  used = c.used;
  rest = c.rest;
  front = c.front;
  there = c.there;
  leads = attempt-is r.state entry.number c.made c.used term idle member ∙ c.leads;
  tall = c.tall;
}

-- Entries that meet no tall form

module _ (program : Tree) (entries : List Entry) (entry : Entry) (r : Replayed) (replayed : replay program entries ≡ Some r) where
  -- if its steps aren't begun
  pub meets-unbegun : (BeginsSteps entry.kind (is_inside r entry.number) entry.answer → ⊥) → MeetsNoTall program entries entry
  meets-unbegun never t e tall =
      let same : r ≡ t = (let both : Some r ≡ Some t = sym replayed ∙ e in cc) in
      never (subst (λ (z : Replayed). BeginsSteps entry.kind (is_inside z entry.number) entry.answer) (sym same) tall.begins)

  -- if its member stands on another side
  pub meets-apart : (side_at entry.number r.state ≡ entry_side entry.kind entry.number r.state → ⊥) → MeetsNoTall program entries entry
  meets-apart apart t e tall =
      let same : r ≡ t = (let both : Some r ≡ Some t = sym replayed ∙ e in cc) in
      apart (subst (λ (z : Replayed). side_at entry.number z.state ≡ entry_side entry.kind entry.number z.state) (sym same) tall.side)

  -- if there is no such member
  pub meets-nobody : r.state.active ≡ None → at r.state.members entry.number ≡ None → MeetsNoTall program entries entry
  meets-nobody idle none t e tall =
      let same : r ≡ t = (let both : Some r ≡ Some t = sym replayed ∙ e in cc) in
      let here = subst (λ (z : Replayed). attempt entry.number tall.made tall.used z.state ≡ Some tall.there) (sym same) tall.leads in
      let side : side_at entry.number r.state ≡ Side.Protected = ap side_told (ap (has_such (λ (t : Tree). at_unprotected (focus t))) none) in
      let nowhere : attempt entry.number tall.made tall.used r.state ≡ None =
      ap (λ (z : Side). attempt_on z entry.number tall.made tall.used r.state) side ∙ no-fragment r.state entry.number tall.made tall.used idle none in
      let clash : None ≡ Some tall.there = sym nowhere ∙ here in
      cc

  -- if its steps pass none
  pub meets-low : (term : Tree) → r.state.active ≡ None → at r.state.members entry.number ≡ Some term
      → StaysLow (entry_side entry.kind entry.number r.state) entry.number entry.steps entry.fresh r.state → MeetsNoTall program entries entry
  meets-low term idle member low t e tall =
      let same : r ≡ t = (let both : Some r ≡ Some t = sym replayed ∙ e in cc) in
      here (subst (λ (z : Replayed). MeetsTall z entry) (sym same) tall)
    where
      here : MeetsTall r entry → ⊥
      here tall = low (subst (λ (z : Side). ComesToTall z entry.number entry.steps entry.fresh r.state) tall.side (record {
        made = tall.made;
        below = tall.below;
        used = tall.used;
        rest = tall.rest;
        front = tall.front;
        there = tall.there;
        leads = sym (attempt-is r.state entry.number tall.made tall.used term idle member) ∙ tall.leads;
        tall = tall.tall;
      }))

-- The machine of a note begins

-- no step was made
pub none-made : (m o : MachineView) → AdvancesWithin 0 m o → (o.term ≡ m.term) × (o.inside ≡ m.inside)
none-made m o w = (ap (λ (p : LocalState). p.term) (sym same), w.advances.inside)
  where
    zero-made : w.made ≡ 0
    zero-made = let within : w.made ≤ 0 = w.within in omega arith

    same : place_shown m ≡ place_shown o
    same =
        let run : goes (running_side m) (place_shown m) w.made ≡ Some (place_shown o) = w.advances.run in
        let at_none : Some (place_shown m) ≡ Some (place_shown o) = ap (goes (running_side m) (place_shown m)) (sym zero-made) ∙ run in
        cc

pub settled-flag : (r : Replayed) (i : ℕ) (m : MachineView) (term : Tree) → IsCalm r → at r.state.members i ≡ Some term → m.term ≡ term → m.inside ≡ is_inside r i → IsSoundStage m
    → (want : Wants) → m.want ≡ Some want → (tells_leave m.want || m.inside) ≡ is_at_unprotected i r.state
settled-flag r i m term calm member at_term flag sound want told = by (is_inside r i) refl
  where
    stands : is_at_unprotected i r.state ≡ at_unprotected (focus m.term)
    stands = ap (has_such (λ (t : Tree). at_unprotected (focus t))) member ∙ ap (λ (t : Tree). at_unprotected (focus t)) (sym at_term)

    leave : (b : Bool) → tells_leave (Some want) ≡ b → m.inside ≡ false → b ≡ at_unprotected (focus m.term)
    leave true e out =
        sym ((comes_as m Need.Leave (ap need_told (sym (told-leave want e)) ∙ sound.told want told)).1)
    leave false e out =
        sym (at-leave (focus m.term) (λ need. untold-leave want e (sound.told want told ∙ ap (λ (z : Bool). need_of_focus z (focus m.term)) out ∙ need)))

    right-true : (b : Bool) → (b || true) ≡ true
    right-true true = refl
    right-true false = refl

    right-false : (b : Bool) → (b || false) ≡ b
    right-false true = refl
    right-false false = refl

    by : (b : Bool) → is_inside r i ≡ b → (tells_leave m.want || m.inside) ≡ is_at_unprotected i r.state
    by true inside = ap (λ (z : Bool). tells_leave m.want || z) (flag ∙ inside) ∙ right-true (tells_leave m.want) ∙ sym (calm.standing i inside)
    by false outside =
        ap (λ (z : Bool). tells_leave m.want || z) (flag ∙ outside) ∙ right-false (tells_leave m.want)
        ∙ ap tells_leave told ∙ leave (tells_leave (Some want)) refl (flag ∙ outside) ∙ sym stands
