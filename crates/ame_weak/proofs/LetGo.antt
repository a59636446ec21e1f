-- If the active fragment leaves or ends, and what it held takes effect, the weak state is the strong one
-- after the fragment's run.
use Rattle.std.proofs.Common.{◌≡◌, ℕ, ◌+◌, ◌<◌, ◌++◌, List, length, None, sym, ap, ◌∙◌, subst}
use Rattle.ame_term.specs.Tree.{Tree}
use Rattle.ame_term.specs.Maps.{at}
use Rattle.ame_term.specs.State.{State}
use Rattle.ame_laws.specs.Orderly.{IsOrderly, NumbersRise}
use Rattle.ame_laws.proofs.MapLemmas.{found-alike}
use Rattle.ame_machine.specs.Run.Local.{LocalState}
use Rattle.ame_machine.specs.Run.AgreesWith.{with_members, IsAfterRun}
use Rattle.ame_weak.specs.Weak.{Weak, holding_none, moved, with_held_released}
use Rattle.ame_weak.proofs.MemberLemmas.{same_or, joined-alike, joined-below, joined-rise}
use Rattle.ame_weak.proofs.Laid.{IsLaid}

pub same_state : (s t : State) → s.store ≡ t.store → s.members ≡ t.members → s.active ≡ t.active → s.output ≡ t.output → s.next ≡ t.next → s ≡ t
same_state s t a b c d e = λ i. record { store = a i; members = b i; active = c i; output = d i; next = e i }

module _ (s : State) (i : ℕ) (p : LocalState) (w : Weak) (t : State) (ms : List (ℕ × Tree)) (h : IsLaid s i p w) (orderly : IsOrderly w.state)
    (rise : NumbersRise ms) (others : (k : ℕ) → (k ≡ i → ⊥) → at ms k ≡ at w.state.members k) (own : at ms i ≡ at t.members i) (below : i < w.state.next)
    (after_run : IsAfterRun s i p t) (idle : t.active ≡ None) (ordered : IsOrderly t) where
  joined : (k : ℕ) → at (with_members ms w.state.next w.spawns) k ≡ at t.members k
  joined k =
      same_or k i (at (with_members ms w.state.next w.spawns) k ≡ at t.members k)
      (λ e. subst (λ (n : ℕ). at (with_members ms w.state.next w.spawns) n ≡ at t.members n) (sym e) (joined-below ms w.state.next w.spawns i below ∙ own))
      (λ apart.
      joined-alike ms s.members w.state.next w.spawns k (others k apart ∙ h.others k apart)
      ∙ ap (λ (n : ℕ). at (with_members s.members n w.spawns) k) h.next
      ∙ ap (λ (bodies : List Tree). at (with_members s.members s.next bodies) k) h.spawns
      ∙ sym (after_run.others k apart))

  pub let_go-is : with_held_released (moved w (record w.state { members = ms; active = None })) ≡ holding_none t
  let_go-is =
      ap holding_none
      (same_state
      (record w.state { output = w.state.output ++ w.prints; members = with_members ms w.state.next w.spawns; active = None; next = w.state.next + length w.spawns })
      t
      (found-alike w.state.store t.store orderly.store_rises ordered.store_rises (λ l. h.stored l ∙ sym (after_run.stored l)))
      (found-alike (with_members ms w.state.next w.spawns) t.members (joined-rise ms w.state.next w.spawns rise) ordered.members_rise joined)
      (sym idle)
      (ap (λ ns. ns ++ w.prints) h.output ∙ ap (λ ns. s.output ++ ns) h.prints ∙ sym after_run.output)
      (ap (λ (n : ℕ). n + length w.spawns) h.next ∙ ap (λ (bodies : List Tree). s.next + length bodies) h.spawns ∙ sym after_run.next))
