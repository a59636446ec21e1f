-- The work in flight of the seats of a crew.
use Rattle.std.proofs.Common.{◌≡◌, ℕ, zero, suc, ◌<◌, ◌≤◌, ◌⊎◌, inl, inr, List, Option, Some, None, length, set, IsTrue, refl, sym, ap, ◌∙◌, subst, arith}
use Rattle.std.specs.Prelude.{slice_index_or, replicate}
use Rattle.std.specs.List.{list_any}
use Rattle.std.proofs.lemmas.List.{get_or-set_same, get_or-set_other, length-set, length-replicate}
use Rattle.ame_protocol.specs.Event.Seated.{AreSeated}
use Rattle.ame_machine.specs.MachineView.{MachineView}
use Rattle.ame_machine.specs.Meaning.{Meaning}
use Rattle.ame_pool.specs.Begin.{oldest}
use Rattle.ame_pool.specs.declared.oldest.Oldest.{Oldest}
use Rattle.ame_pool.specs.Members.{IsRising, is_busy}
use Rattle.ame_protocol.specs.declared.types.Limits.{Limits}
use Rattle.ame_protocol.specs.declared.types.Task.{Task}
use Rattle.ame_protocol.specs.Engine.Parts.{Parts, task_at, member_of}
use Rattle.ame_protocol.specs.Engine.Simulates.{Simulates}
use Rattle.ame_protocol.specs.Engine.Events.{started}
use Rattle.ame_protocol.proofs.Row.CellLemmas.{which}
use Rattle.ame_protocol.specs.declared.stop.Stop.{Stop}
use Rattle.ame_engine.specs.AtWork.{IsOnSeat}
use Rattle.ame_engine.specs.Core.{Core}
use Rattle.ame_engine.specs.Seen.{parts_of, term_shown}
use Rattle.ame_engine.specs.Stops.{stopped_by}
use Rattle.ame_engine.specs.Whole.{AreLimits}
use Rattle.ame_shell.specs.Shell.{ShellView}
use Rattle.ame_shell.specs.Ends.{Ends}
use Rattle.ame_shell.specs.Turned.{LeavesInOrder, HasTurned, member_told}
use Rattle.ame_shell.proofs.OrderLemmas.{order-stays}
use Rattle.ame_sim.specs.Places.{place_wanted, place_told}
use Rattle.ame_sim.specs.Played.{HasPlayed}
use Rattle.ame_sim.specs.Prepared.{IsPreparedHand}
use Rattle.ame_shell.specs.declared.work.Outcome.{Outcome}
use Rattle.ame_shell.specs.declared.work.Work.{Work}
use Rattle.ame_shell.specs.declared.work.Work.TheVariants as work
use Rattle.ame_shell.specs.Work.{Fits}
use Rattle.ame_shell.proofs.RestLemmas.{by-stop}
use Rattle.ame_sim.specs.Crew.{IsCrew, SomeSeatIsAtWork}
use Rattle.ame_sim.proofs.BusyLemmas.{busy-there, busy-shown, busy-seat}

pub some-is : {A : Type 0} (a b : A) → Some a ≡ Some b → a ≡ b
some-is a b e = cc

pub same-all : {X : Type 0} (n k : ℕ) (x : X) → slice_index_or (replicate n x) k x ≡ x
same-all zero k x = refl
same-all (suc n) zero x = refl
same-all (suc n) (suc k) x = same-all n k x

module _ {C V M : Type 0} (meaning : Meaning C V M) where
  -- as the engine has started
  pub crew-starts : (core : Core C V M) (code : C) (hands : List (Work M)) (limits : Limits) (ends : Ends) → code ≡ core.code
      → parts_of meaning core ≡ started (meaning.program code) (meaning.signature code) limits 0 → hands ≡ replicate limits.seats work.Idle
      → (meaning.signature core.code).devices ≤ length ends.told → AreLimits limits → IsCrew meaning code (record { core = core; sent = 0; ends = ends }) hands
  crew-starts core code hands limits ends same starts all enough right = record {
    order = record {
      same = same;
      limits = subst AreLimits (ap (λ (p : Parts). p.limits) (sym starts)) right;
      enough = enough;
      within = omega arith;
    };
    count = ap length all ∙ length-replicate limits.seats work.Idle ∙ ap (λ (p : Parts). p.limits.seats) (sym starts);
    fit =
        λ seat.
        let idle : task_at core.tasks seat ≡ Task.Idle = ap (λ (p : Parts). task_at p.tasks seat) starts ∙ same-all limits.seats seat Task.Idle in
        let nothing : slice_index_or hands seat work.Idle ≡ work.Idle = ap (λ (s : List (Work M)). slice_index_or s seat work.Idle) all ∙ same-all limits.seats seat work.Idle in
        subst (λ (w : Work M). Fits meaning core seat w) (sym nothing) idle;
  }

  -- and after a seat's turn
  pub crew-turned : (code : C) (old new : ShellView C V M) (hands : List (Work M)) (seat : ℕ) (last : Work M) → IsCrew meaning code old hands
      → seat < length hands → LeavesInOrder meaning code seat old new last → IsCrew meaning code new (set hands seat last)
  crew-turned code old new hands seat last crew within leaves = record {
    order = leaves.may.order;
    count = length-set hands seat last ∙ crew.count ∙ ap (λ (l : Limits). l.seats) (sym leaves.limits);
    fit = λ other. by other (which other seat);
  }
    where
      by : (other : ℕ) → (other ≡ seat) ⊎ ((other ≡ seat) → ⊥) → Fits meaning new.core other (slice_index_or (set hands seat last) other work.Idle)
      by other (inl here) =
          let is : slice_index_or (set hands seat last) seat work.Idle ≡ last = get_or-set_same hands seat last work.Idle within in
          subst (λ (k : ℕ). Fits meaning new.core k (slice_index_or (set hands seat last) k work.Idle)) (sym here)
          (subst (λ (w : Work M). Fits meaning new.core seat w) (sym is) leaves.may.fits)
      by other (inr apart) =
          let is : slice_index_or (set hands seat last) other work.Idle ≡ slice_index_or hands other work.Idle =
          get_or-set_other hands seat other last work.Idle apart in
          subst (λ (w : Work M). Fits meaning new.core other w) (sym is)
          (leaves.others other (slice_index_or hands other work.Idle) apart (crew.fit other))

  -- and once a stop is kept
  pub crew-stopped : (why : Stop) (code : C) (shell : ShellView C V M) (hands : List (Work M)) → IsCrew meaning code shell hands
      → IsCrew meaning code (record shell { core = stopped_by why shell.core }) hands
  crew-stopped why code shell hands crew = record {
    order = order-stays meaning code shell (record shell { core = stopped_by why shell.core }) crew.order refl refl refl crew.order.within;
    count = crew.count;
    fit = λ seat. by-stop meaning shell.core (stopped_by why shell.core) seat why refl (slice_index_or hands seat work.Idle) (crew.fit seat);
  }

  -- the effect of a turn, from its parts
  pub turn-played : (seat : ℕ) (hand : Option MachineView) (old seen new : ShellView C V M) (outcome : Outcome) (member wanted place : Option ℕ) (cells : ℕ)
      → seen ≡ old → ((s : MachineView) → hand ≡ Some s → IsOnSeat (parts_of meaning seen.core) seat s)
      → (seen.core.stop ≡ None → (outcome ≡ Outcome.Lacked) ⊎ IsPreparedHand (parts_of meaning seen.core) seat hand) → HasTurned meaning seat hand seen new outcome
      → member ≡ member_told (member_of (task_at seen.core.tasks seat)) (member_of (task_at new.core.tasks seat))
      → cells ≡ length seen.core.memory.cells → wanted ≡ place_wanted cells hand → place ≡ place_told outcome wanted
      → HasPlayed meaning (record { seat = seat; member = member; outcome = outcome; place = place }) old new
  turn-played seat hand old seen new outcome member wanted place cells is on prepared turned named many wants told =
      subst (λ (v : ShellView C V M). HasPlayed meaning (record { seat = seat; member = member; outcome = outcome; place = place }) v new) is
      (record {
        hand = hand;
        stands = on;
        prepared = prepared;
        turned = turned;
        member = named;
        place = told ∙ ap (place_told outcome) (wants ∙ ap (λ (n : ℕ). place_wanted n hand) many);
      })

  -- a member is waited for that some seat has at work
  pub waits-for-seat : (core : Core C V M) → Simulates (parts_of meaning core) → AreSeated (parts_of meaning core) → IsRising core.pool.members
      → (oldest core.pool ≡ Oldest.Wait → IsTrue (list_any is_busy core.pool.members)) → SomeSeatIsAtWork core
  waits-for-seat core stands seated rising some waits =
      let busy = busy-there core.pool.members rising (some waits) in
      let at = seated busy.0 (busy-shown (term_shown meaning.stage core.code) busy.0 core.pool busy.1) in
      let its = busy-seat core.tasks at.0 busy.0 at.1 in
      let long = stands.bounded.tasks in
      record { seat = at.0; there = omega (arith, its.1, long); busy = its.0 }
