-- A machine that can run goes on with any value that it is fed.
use Rattle.std.proofs.Common.{◌≡◌, ℕ, ℤ, Option, Some, refl, sym, ap, ◌∙◌, subst}
use Rattle.std.specs.Prelude.{IsTrue}
use Rattle.ame_term.specs.Tree.{Typ, Val, Tree}
use Rattle.ame_term.specs.Signature.{Signature}
use Rattle.ame_term.specs.Frame.{side_of}
use Rattle.ame_term.specs.Context.{Focus, focus}
use Rattle.ame_term.specs.Act.{Act, act_of}
use Rattle.ame_term.specs.declared.types.Effect.{Effect}
use Rattle.ame_term.specs.declared.types.Sort.{Sort}
use Rattle.ame_term.specs.declared.types.TyNo.{TyNo}
use Rattle.ame_laws.proofs.FrameLemmas.{found}
use Rattle.ame_journal.specs.Replay.{redex_act}
use Rattle.ame_laws.specs.Typed.StoreTyping.{StoreTyping}
use Rattle.ame_laws.specs.Typed.Fragment.{IsValueOf, effect_at}
use Rattle.ame_laws.specs.Typed.TypedAct.{IsTypedAct}
use Rattle.ame_laws.specs.Typed.TypedState.{IsStored, IsMember}
use Rattle.ame_laws.proofs.Typed.FrameTypes.{placed}
use Rattle.ame_machine.specs.Run.Fit.{IsFitFor}
use Rattle.ame_machine.specs.declared.wants.Wants.{Wants}
use Rattle.ame_machine.specs.declared.wants.Wants.TheVariants as wants
use Rattle.ame_machine.specs.declared.wants.Input.TheVariants as input
use Rattle.ame_machine.specs.MachineView.{MachineView, running_side}
use Rattle.ame_machine.specs.Need.{Need, need_of, need_told}
use Rattle.ame_machine.specs.Move.{after_input, fed_stage}
use Rattle.ame_machine.specs.Input.{is_wanted, value_set, value_to_set}
use Rattle.ame_machine.specs.Sound.{IsRunnable}
use Rattle.ame_machine.specs.Comes.{HasNextAct}
use Rattle.ame_machine.proofs.NeedLemmas.{comes_as}
use Rattle.ame_machine.proofs.RunnableLemmas.{runs-fed, runs-closed}
use Rattle.ame_value.specs.declared.val.Val.{Val as Held}
use Rattle.ame_machine_cases.specs.Alone.{TakesFrom}

-- two redexes at which a term stands are one
one-redex : (s : MachineView) (r q : Tree) → focus s.term ≡ Focus.AtRedex (running_side s) r → focus s.term ≡ Focus.AtRedex (running_side s) q → r ≡ q
one-redex s r q e f =
    let one : Focus.AtRedex (running_side s) r ≡ Focus.AtRedex (running_side s) q = sym e ∙ f in
    cc

module _ (signature : Signature) (types : StoreTyping) where
  fits-next : (s : MachineView) (act : Act) (v : Val) → HasNextAct s act → IsFitFor signature types act v
      → (r : Tree) → focus s.term ≡ Focus.AtRedex (running_side s) r → IsFitFor signature types (act_of r) v
  fits-next s act v next fit r stands =
      subst (λ (a : Act). IsFitFor signature types a v) (sym next.2 ∙ ap act_of (one-redex s next.0 r next.1 stands)) fit

  pub goes-on : (s t : MachineView) (act : Act) (v : Val) → IsRunnable signature types s → HasNextAct s act → IsFitFor signature types act v → fed_stage v s ≡ Some t
      → IsRunnable signature types t
  goes-on s t act v runs next fit e = runs-fed signature types v s t runs e (fits-next s act v next fit)

  -- the act of the redex is typed
  pub typed-next : (s : MachineView) (act : Act) → IsRunnable signature types s → HasNextAct s act
      → (q : Effect) × (t : Typ) × IsTypedAct signature types q t act
  typed-next s act runs next =
      let f = found s.term next.0 (running_side s) next.1 in
      let at = placed signature types Effect.Protected f.frames next.0 Typ.Unit (subst (λ (z : Tree). IsMember signature types z) f.term runs.member) in
      let q = effect_at (side_of f.frames) Effect.Protected in
      (q, at.part_type, subst (λ (a : Act). IsTypedAct signature types q at.part_type a) next.2 (at.act_typed f.redex))

  module _ (s t : MachineView) (runs : IsRunnable signature types s) where
    pub read-by : (o : Option Wants) (l : ℕ) (v : Val) → ((want : Wants) → o ≡ Some want → need_told want ≡ need_of s) → TakesFrom l o
        → IsStored signature types l v → after_input o v s ≡ Some t → IsRunnable signature types t
    read-by (Some (wants.Read at)) l v told takes stored e =
        goes-on s t (Act.Reads l) v runs (subst (λ (k : ℕ). HasNextAct s (Act.Reads k)) takes (comes_as s (Need.Read at.0) (told (wants.Read at) refl))) stored e
    read-by (Some (wants.Peek at)) l v told takes stored e =
        goes-on s t (Act.Peeks l) v runs (subst (λ (k : ℕ). HasNextAct s (Act.Peeks k)) takes (comes_as s (Need.Peek at.0) (told (wants.Peek at) refl)).1) stored e
    read-by _ l v told takes stored e = absurd takes

    pub accept-by : (o : Option Wants) → ((want : Wants) → o ≡ Some want → need_told want ≡ need_of s) → IsTrue (is_wanted {V = Held} o input.Unit)
        → after_input o Val.Unit s ≡ Some t → IsRunnable signature types t
    accept-by (Some (wants.Write l)) told takes e =
        let next = comes_as s (Need.Write l.0) (told (wants.Write l) refl) in
        goes-on s t (Act.Writes l.0 next.0) Val.Unit runs next.1 tt e
    accept-by (Some wants.Spawn) told takes e =
        let next = comes_as s Need.Spawn (told wants.Spawn refl) in
        goes-on s t (Act.Spawns next.1.0) Val.Unit runs next.1.1 tt e
    accept-by (Some (wants.Print n)) told takes e =
        let next = comes_as s (Need.Print n) (told (wants.Print n) refl) in
        goes-on s t (Act.Prints n) Val.Unit runs next.1 tt e
    accept-by (Some wants.Close) told takes e = runs-closed signature types s t runs e
    accept-by _ told takes e = cc

    pub answer-by : (o : Option Wants) (n : ℤ) → ((want : Wants) → o ≡ Some want → need_told want ≡ need_of s) → IsTrue (is_wanted {V = Held} o (input.Int n))
        → after_input o (Val.Int n) s ≡ Some t → IsRunnable signature types t
    answer-by (Some (wants.Device device asked)) n told takes e =
        let next = comes_as s (Need.Device device asked) (told (wants.Device device asked) refl) in
        goes-on s t (Act.Calls device asked) (Val.Int n) runs next.1 tt e
    answer-by _ n told takes e = cc

  told-act : (s : MachineView) (act : Act) → HasNextAct s act → value_to_set s ≡ value_set (Some act)
  told-act s act next = ap (λ (f : Focus). value_set (redex_act f)) next.1 ∙ ap (λ (a : Act). value_set (Some a)) next.2

  -- what is written is of its location's type
  pub written-typed : (s : MachineView) (l : ℕ) (v : Val) → IsRunnable signature types s → Need.Write l ≡ need_of s → value_to_set s ≡ Some v → IsStored signature types l v
  written-typed s l v runs told sets =
      let next = comes_as s (Need.Write l) told in
      let typed = (typed-next s (Act.Writes l next.0) runs next.1).2 in
      let opened : ◌≡◌ {A = Option Val} (Some next.0) (Some v) = sym (told-act s (Act.Writes l next.0) next.1) ∙ sets in
      let same : next.0 ≡ v = cc in
      subst (λ (z : Val). IsStored signature types l z) same ((typed.0, typed.1), typed.2, typed.3)

  -- what is set at a new location has a type
  pub made-typed : (s : MachineView) (sort : Sort) (number : TyNo) (v : Val) → IsRunnable signature types s → Need.Alloc sort number ≡ need_of s → value_to_set s ≡ Some v
      → (content : Typ) × IsValueOf signature types v content × HasNextAct s (Act.Allocates sort number v)
  made-typed s sort number v runs told sets =
      let next = comes_as s (Need.Alloc sort number) told in
      let typed = (typed-next s (Act.Allocates sort number next.0) runs next.1).2 in
      let opened : ◌≡◌ {A = Option Val} (Some next.0) (Some v) = sym (told-act s (Act.Allocates sort number next.0) next.1) ∙ sets in
      let same : next.0 ≡ v = cc in
      (typed.0, subst (λ (z : Val). IsValueOf signature types z typed.0) same typed.2, subst (λ (z : Val). HasNextAct s (Act.Allocates sort number z)) same next.1)
