-- The place to which a visit comes from the place of a seat's machine.
use Rattle.std.proofs.Common.{◌≡◌, ℕ, ◌+◌, ◌<◌, Bool, true, false, List, [], ◌∷◌, length, Option, Some, None, option_map, refl, sym, ap, ◌∙◌, subst, ◌≤◌, arith}
use Rattle.std.specs.Prelude.{◌||◌, ℤ, unwrap_or}
use Rattle.std.specs.Option.{option_map_or}
use Rattle.ame_term.specs.Tree.{Val, Tree}
use Rattle.ame_term.specs.Frame.{Side, side_told}
use Rattle.ame_term.specs.Context.{Focus, focus}
use Rattle.ame_term.specs.Act.{Act, act_of}
use Rattle.ame_term.specs.State.{closed_value}
use Rattle.ame_device.specs.declared.told.Told.{Told}
use Rattle.ame_journal.specs.Replay.{redex_act}
use Rattle.ame_machine.specs.Run.Local.{LocalState, begun_with, fed, refilled_in, local}
use Rattle.ame_machine.proofs.Run.RunLemmas.{one-more}
use Rattle.ame_rows.specs.MemoryView.{Log, MemoryView, row_at}
use Rattle.ame_protocol.specs.Row.SeatRun.{IsAtAct}
use Rattle.ame_machine.specs.declared.wants.Wants.{Wants}
use Rattle.ame_machine.specs.declared.wants.Wants.TheVariants as wants
use Rattle.ame_machine.specs.MachineView.{MachineView, running_side, place_shown, without_footprint, with_answer, OnRun}
use Rattle.ame_machine.specs.Need.{Need, need_of, need_told}
use Rattle.ame_machine.specs.Move.{fed_stage, closed_stage, closed_with, tells_leave, answer_given}
use Rattle.ame_machine.specs.Input.{value_set, value_to_set}
use Rattle.ame_machine.specs.Comes.{HasNextAct}
use Rattle.ame_machine.specs.Sound.{IsSoundStage}
use Rattle.ame_machine.proofs.NeedLemmas.{comes_as}
use Rattle.ame_machine.proofs.MoveLemmas.{map-gave, on-place, fed-to, on-fed}
use Rattle.ame_protocol.specs.declared.types.Attempt.{Attempt}
use Rattle.ame_protocol.specs.declared.types.Task.{Task}
use Rattle.ame_protocol.specs.Engine.Parts.{Parts, task_at, term_at, working}
use Rattle.ame_protocol.specs.Engine.Simulates.{Simulates}
use Rattle.ame_protocol.specs.Visits.ByAct.{IsGivenBy, memory_after}
use Rattle.ame_protocol.specs.Visits.Visit.{closed_at, StepsTo, IsVisit}
use Rattle.ame_protocol.proofs.Visits.PlaceLemmas.{visits, alone}
use Rattle.ame_engine.specs.AtWork.{is_free, IsOnSeat}
use Rattle.ame_engine.specs.Visiting.{IsVisiting, VisitsTo, IsVisitTo, SettlesThere}

free-attempt : (t : Task) (a : Attempt) → working t ≡ Some a → is_free t ≡ true → t ≡ Task.Free a
free-attempt Task.Idle a e free = cc
free-attempt (Task.Running b) a e free = cc
free-attempt (Task.Free b) a e free = ap Task.Free (ap (λ (o : Option Attempt). option_map_or (λ x. x) o b) e)
free-attempt (Task.Undoing b reason) a e free = cc

-- A visit removes no step.
grows-fed : (s : MachineView) (v : Val) (n : MachineView) → fed_stage v s ≡ Some n → s.steps ≤ n.steps
grows-fed s v n e = let x = fed-to v s n e in let more = ap (λ (z : MachineView). z.steps) x.is in omega (arith, more)

pub visit-grows : (s : MachineView) (memory : MemoryView Val) (before : List Told) (answer : Option ℤ) (n : MachineView) (later : MemoryView Val) (after : List Told)
    → VisitsTo s memory before answer n later after → s.steps ≤ n.steps
visit-grows s memory before _ _ _ _ (VisitsTo.rests still) = omega arith
visit-grows s memory before _ _ _ _ (VisitsTo.reads l v n its is fed) = grows-fed s v n fed
visit-grows s memory before _ _ _ _ (VisitsTo.peeks l v n its is fed) = grows-fed s v n fed
visit-grows s memory before _ _ _ _ (VisitsTo.writes l v n its sets fed) = grows-fed s Val.Unit n fed
visit-grows s memory before _ _ _ _ (VisitsTo.makes sort number v n its sets fed) = grows-fed s (Val.Loc (length memory.cells)) n fed
visit-grows s memory before _ _ _ _ (VisitsTo.spawns n its fed) = grows-fed s Val.Unit n fed
visit-grows s memory before _ _ _ _ (VisitsTo.prints i n its fed) = grows-fed s Val.Unit n fed
visit-grows s memory before _ _ _ _ (VisitsTo.closes n its closes) =
    let x = map-gave (closed_with s) (closed_value (focus s.term)) n closes in let more = ap (λ (z : MachineView). z.steps) x.2 in omega (arith, more)
visit-grows s memory before _ _ _ _ (VisitsTo.calls device argument answer n after its called fed) = grows-fed s (Val.Int answer) n fed

-- the task of a seat that visits
pub visits-as : (parts : Parts) (seat : ℕ) (s : MachineView) (on : IsOnSeat parts seat s) → s.inside ≡ true → task_at parts.tasks seat ≡ Task.Free on.attempt
visits-as parts seat s on inside = free-attempt (task_at parts.tasks seat) on.attempt on.has (sym on.side ∙ inside)

module _ (parts : Parts) (stands : Simulates parts) (seat : ℕ) (s : MachineView) (on : IsOnSeat parts seat s) (inside : s.inside ≡ true) where
  abbrev start : Tree
  start = term_at parts.pool on.attempt.tried.number

  task : task_at parts.tasks seat ≡ Task.Free on.attempt
  task = visits-as parts seat s on inside

  none-given : (row_at parts.memory.rows seat).inputs ≡ []
  none-given = ap (λ (notes : Log Val). notes.inputs) (visits parts stands seat on.attempt task).clear

  on-alone : OnRun start [] s
  on-alone = subst (λ (inputs : List Val). OnRun start inputs s) none-given on.run

  -- The machine is at the place to which its steps lead.
  pub visit-steps : StepsTo parts on.attempt.tried.number s.steps (place_shown s)
  visit-steps =
      let o = on-place start [] s on-alone in
      let ran : local Side.Unprotected start [] s.steps ≡ Some o.place =
      subst (λ (x : Side). local x start [] s.steps ≡ Some o.place) (ap side_told inside) o.ran in
      let bare : o.place ≡ begun_with o.place.term [] = alone start s.steps o.place ran in
      let same : o.place ≡ without_footprint o.place = bare ∙ sym (ap without_footprint bare) in
      ran ∙ ap Some (same ∙ o.shown)

  -- an act with what it is given
  module _ (act : Act) (at : HasNextAct s act) (v : Val) (given : IsGivenBy parts.memory act v) (n : MachineView) (e : fed_stage v s ≡ Some n) where
    unprotected-side : running_side s ≡ Side.Unprotected
    unprotected-side = ap side_told inside

    pub acted-visit : IsVisitTo parts on.attempt.tried.number (answer_given (Some act) v) n (memory_after act parts.memory)
    acted-visit =
        let x = fed-to v s n e in
        let which : Some (act_of x.redex) ≡ Some act = sym (ap redex_act x.stands) ∙ ap redex_act at.1 ∙ ap (λ (a : Act). Some a) at.2 in
        let acts : act_of x.redex ≡ act = ap (λ (o : Option Act). unwrap_or o act) which in
        let stands_at : IsAtAct Side.Unprotected act (place_shown s) =
        record { redex = x.redex; stands = x.stands ∙ ap (λ (z : Side). Focus.AtRedex z x.redex) unprotected-side; acts = acts } in
        let gives : fed act Side.Unprotected v (place_shown s) ≡ Some x.made =
        subst (λ (z : Side). fed act z v (place_shown s) ≡ Some x.made) unprotected-side
        (ap (λ (a : Act). fed a (running_side s) v (place_shown s)) (sym acts) ∙ x.gives) in
        let steps : n.steps ≡ s.steps + 1 = ap (λ (z : MachineView). z.steps) x.is in
        let still : n.inside ≡ true = ap (λ (z : MachineView). z.inside) x.is ∙ inside in
        let q = refilled_in s.term x.made in
        let visit : IsVisit parts on.attempt.tried.number (s.steps + 1) q true (memory_after act parts.memory) =
        IsVisit.acted s.steps (place_shown s) act v x.made visit-steps stands_at given gives in
        let more = one-more Side.Unprotected (begun_with start []) (place_shown s) x.redex v s.steps x.made visit-steps refl refl
        (x.stands ∙ ap (λ (z : Side). Focus.AtRedex z x.redex) unprotected-side) (ap (λ (a : Act). fed a Side.Unprotected v (place_shown s)) acts ∙ gives) in
        let told = on-fed start [] v s n on-alone e in
        let here : option_map without_footprint (local (running_side n) start (v ∷ []) n.steps) ≡ Some (without_footprint q) =
        ap (λ (b : Bool). option_map without_footprint (local (side_told b) start (v ∷ []) n.steps)) still
        ∙ ap (λ (i : ℕ). option_map without_footprint (local Side.Unprotected start (v ∷ []) i)) steps
        ∙ ap (option_map without_footprint) more in
        let both : Some (without_footprint q) ≡ Some (with_answer (answer_given (redex_act (focus s.term)) v) (place_shown n)) = sym here ∙ told in
        record {
          place = q;
          visit =
              subst (λ (b : Bool). IsVisit parts on.attempt.tried.number n.steps q b (memory_after act parts.memory)) (sym still)
              (subst (λ (i : ℕ). IsVisit parts on.attempt.tried.number i q true (memory_after act parts.memory)) (sym steps) visit);
          shows =
              ap (λ (o : Option LocalState). unwrap_or o q) both
              ∙ ap (λ (o : Option Act). with_answer (answer_given o v) (place_shown n)) (ap redex_act at.1 ∙ ap (λ (a : Act). Some a) at.2);
        }

  -- the close
  pub closed-visit : (n : MachineView) → closed_stage s ≡ Some n → IsVisitTo parts on.attempt.tried.number None n parts.memory
  closed-visit n e =
      let x = map-gave (closed_with s) (closed_value (focus s.term)) n e in
      subst (λ (z : MachineView). IsVisitTo parts on.attempt.tried.number None z parts.memory) x.2
      (record { place = closed_at x.0 (place_shown s); visit = IsVisit.closed s.steps (place_shown s) x.0 visit-steps x.1; shows = refl })

  -- steps alone
  pub rested-visit : 0 < s.steps → IsVisitTo parts on.attempt.tried.number None s parts.memory
  rested-visit some = record {
    place = place_shown s;
    visit =
        subst (λ (b : Bool). IsVisit parts on.attempt.tried.number s.steps (place_shown s) b parts.memory) (sym inside)
        (IsVisit.stepped s.steps (place_shown s) some visit-steps);
    shows = refl;
  }

  module _ (sound : IsSoundStage s) (comes : IsVisiting s) (before : List Told) where
    need-there : (w : Wants) → s.want ≡ Some w → need_told w ≡ need_of s
    need-there w e = sound.told w e

    set-there : (act : Act) → HasNextAct s act → (w v : Val) → value_set (Some act) ≡ Some w → value_to_set s ≡ Some v → w ≡ v
    set-there act at w v its is =
        ap (λ (o : Option Val). unwrap_or o w)
        (sym its ∙ sym (ap value_set (ap redex_act at.1 ∙ ap (λ (a : Act). Some a) at.2)) ∙ is)

    -- each visit is one of the replayed state
    pub visit-is : (answer : Option ℤ) (n : MachineView) (memory : MemoryView Val) (after : List Told) → VisitsTo s parts.memory before answer n memory after
        → IsVisitTo parts on.attempt.tried.number answer n memory
    visit-is _ _ _ _ (VisitsTo.rests still) = rested-visit (comes.moved still)
    visit-is _ _ _ _ (VisitsTo.reads l v n its is fed) =
        acted-visit (Act.Reads l.0) (comes_as s (Need.Read l.0) (need-there (wants.Read l) its)) v is n fed
    visit-is _ _ _ _ (VisitsTo.peeks l v n its is fed) =
        acted-visit (Act.Peeks l.0) (comes_as s (Need.Peek l.0) (need-there (wants.Peek l) its)).1 v is n fed
    visit-is _ _ _ _ (VisitsTo.writes l v n its sets fed) =
        let c = comes_as s (Need.Write l.0) (need-there (wants.Write l) its) in
        let act = Act.Writes l.0 c.0 in
        subst (λ (w : Val). IsVisitTo parts on.attempt.tried.number None n (memory_after (Act.Writes l.0 w) parts.memory)) (set-there act c.1 c.0 v refl sets)
        (acted-visit act c.1 Val.Unit tt n fed)
    visit-is _ _ _ _ (VisitsTo.makes sort number v n its sets fed) =
        let c = comes_as s (Need.Alloc sort number) (need-there (wants.Alloc sort number) its) in
        let act = Act.Allocates sort number c.0 in
        subst (λ (w : Val). IsVisitTo parts on.attempt.tried.number None n (memory_after (Act.Allocates sort number w) parts.memory)) (set-there act c.1 c.0 v refl sets)
        (acted-visit act c.1 (Val.Loc (length parts.memory.cells)) refl n fed)
    visit-is _ _ _ _ (VisitsTo.spawns n its fed) =
        let c = comes_as s Need.Spawn (need-there wants.Spawn its) in acted-visit (Act.Spawns c.1.0) c.1.1 Val.Unit tt n fed
    visit-is _ _ _ _ (VisitsTo.prints i n its fed) =
        let c = comes_as s (Need.Print i) (need-there (wants.Print i) its) in acted-visit (Act.Prints i) c.1 Val.Unit tt n fed
    visit-is _ _ _ _ (VisitsTo.closes n its closes) = closed-visit n closes
    visit-is _ _ _ _ (VisitsTo.calls device argument answer n after its called fed) =
        let c = comes_as s (Need.Device device argument) (need-there (wants.Device device argument) its) in
        acted-visit (Act.Calls device argument) c.1 (Val.Int answer) tt n fed

    -- A machine that was fed settles at its place.
    settles-fed : (v : Val) (n : MachineView) → fed_stage v s ≡ Some n → SettlesThere n
    settles-fed v n e = let x = fed-to v s n e in ap (λ (o : Option Wants). tells_leave o || n.inside) (ap (λ (z : MachineView). z.want) x.is)

    settles-here : (b : Bool) → (b || s.inside) ≡ s.inside
    settles-here true = sym inside
    settles-here false = refl

    pub visit-settles : (answer : Option ℤ) (n : MachineView) (memory : MemoryView Val) (after : List Told) → VisitsTo s parts.memory before answer n memory after → SettlesThere n
    visit-settles _ _ _ _ (VisitsTo.rests still) = settles-here (tells_leave s.want)
    visit-settles _ _ _ _ (VisitsTo.reads l v n its is fed) = settles-fed v n fed
    visit-settles _ _ _ _ (VisitsTo.peeks l v n its is fed) = settles-fed v n fed
    visit-settles _ _ _ _ (VisitsTo.writes l v n its sets fed) = settles-fed Val.Unit n fed
    visit-settles _ _ _ _ (VisitsTo.makes sort number v n its sets fed) = settles-fed (Val.Loc (length parts.memory.cells)) n fed
    visit-settles _ _ _ _ (VisitsTo.spawns n its fed) = settles-fed Val.Unit n fed
    visit-settles _ _ _ _ (VisitsTo.prints i n its fed) = settles-fed Val.Unit n fed
    visit-settles _ _ _ _ (VisitsTo.closes n its closes) =
        let x = map-gave (closed_with s) (closed_value (focus s.term)) n closes in
        ap (λ (o : Option Wants). tells_leave o || n.inside) (ap (λ (z : MachineView). z.want) (sym x.2))
    visit-settles _ _ _ _ (VisitsTo.calls device argument answer n after its called fed) = settles-fed (Val.Int answer) n fed
