-- An act of a visit, with the value that it is given.
use Rattle.std.proofs.Common.{◌≡◌, ℕ, ◌<◌, ◌⊎◌, inl, inr, [], length, Some, None, refl, sym, ◌∙◌, subst, arith}
use Rattle.ame_term.specs.Tree.{Typ, Val, Tree}
use Rattle.ame_term.specs.Frame.{Side}
use Rattle.ame_term.specs.Act.{Act}
use Rattle.ame_term.specs.Maps.{at}
use Rattle.ame_laws.specs.Typed.StoreTyping.{StoreTyping}
use Rattle.ame_store.specs.Cells.{IsDead}
use Rattle.ame_machine.specs.Run.Local.{LocalState, begun_with, made_at}
use Rattle.ame_machine.specs.Run.AgreesWith.{AgreesWith}
use Rattle.ame_machine.specs.Run.Fit.{IsFitFor, IsTypedPlace}
use Rattle.ame_machine.proofs.Run.RunLemmas.{Feeds}
use Rattle.ame_rows.specs.Committed.{committed}
use Rattle.ame_protocol.specs.Row.Heap.{cell_at, IsLive}
use Rattle.ame_protocol.specs.Row.SeatRun.{IsAtAct}
use Rattle.ame_protocol.specs.Row.Scoped.{live_types}
use Rattle.ame_protocol.proofs.Row.CellLemmas.{live_or_dead, live_cell}
use Rattle.ame_protocol.proofs.Row.FreeLemmas.{write-live, write-stored}
use Rattle.ame_protocol.proofs.Row.TypedRunLemmas.{act-typed}
use Rattle.ame_protocol.specs.Engine.Logged.{heap_of}
use Rattle.ame_protocol.specs.Engine.Parts.{Parts, heap_in}
use Rattle.ame_protocol.specs.Engine.Simulates.{Simulates}
use Rattle.ame_protocol.proofs.Engine.MemoryLemmas.{memory-committed}
use Rattle.ame_protocol.specs.Visits.ByAct.{IsGivenBy, memory_after}
use Rattle.ame_protocol.proofs.Visits.PlaceLemmas.{committed-live}
use Rattle.ame_protocol.proofs.Visits.SettleLemmas.{Settles, live-grows, settles-same, settles-put, larger_types, settles-born, born-fit}

-- The memory and the run after an act: the run still agrees with the store, and the act's value is fit.
pub record IsMadeHere (parts : Parts) (s : Simulates parts) (act : Act) (v : Val) (q : LocalState) : Type 0 where
  pub types : StoreTyping
  pub settles : Settles parts s (memory_after act parts.memory) q.sets types
  pub agrees : AgreesWith s.r.state.store q
  pub fit : IsFitFor parts.signature (live_types (heap_of (memory_after act parts.memory)) types) act v

module _ (parts : Parts) (s : Simulates parts) where
  abbrev live : StoreTyping
  live = live_types (heap_in parts) s.types

  -- the store has nothing past the last cell
  nothing-there : at s.r.state.store (length parts.memory.cells) ≡ None
  nothing-there =
      sym (s.stands.store (length parts.memory.cells)) ∙ (memory-committed parts.memory).dead (length parts.memory.cells)
      (by (live_or_dead (cell_at (heap_in parts) (length parts.memory.cells))))
    where
      by : IsLive (cell_at (heap_in parts) (length parts.memory.cells)) ⊎ IsDead (cell_at (heap_in parts) (length parts.memory.cells))
          → IsDead (cell_at (heap_in parts) (length parts.memory.cells))
      by (inl is) =
          let h : length parts.memory.cells < length parts.memory.cells = live_cell (heap_in parts) (length parts.memory.cells) is in absurd (omega arith)
      by (inr dead) = dead

  in-store : (l : ℕ) (v : Val) → committed parts.memory l ≡ Some v → at s.r.state.store l ≡ Some v
  in-store l v is = sym (s.stands.store l) ∙ is

  module _ (u : Tree) (typed : IsTypedPlace parts.signature live Typ.Unit (begun_with u [])) where
    pub by-act : (side : Side) (act : Act) (v : Val) (part : Tree) (q : LocalState) → Feeds (begun_with u []) side act v part q → side ≡ Side.Unprotected
        → IsGivenBy parts.memory act v → IsAtAct side act (begun_with u []) → IsMadeHere parts s act v q
    by-act _ _ _ _ _ (Feeds.allocates side sort ty w l) under given at_it =
        let same : l ≡ length parts.memory.cells = cc in
        let its = act-typed parts.signature live side (Act.Allocates sort ty w) (begun_with u []) at_it typed in
        let content = its.1.0 in
        let value = its.1.2 in
        let may = its.1.3 in
        let st = settles-born parts s sort ty w content value may in
        let types = larger_types parts s sort ty w content value may in
        subst (λ (k : ℕ). IsMadeHere parts s (Act.Allocates sort ty w) (Val.Loc k) (made_at k w (begun_with u []))) (sym same) (record {
          types = types;
          settles = st;
          agrees = record { seen = tt; own = tt; made = ((nothing-there, refl), tt) };
          fit = born-fit parts s sort ty w content value may (live-grows parts s _ _ types st);
        })
    by-act _ _ _ _ _ (Feeds.reads side l v) under given at_it = record {
      types = s.types;
      settles = settles-same parts s;
      agrees = record { seen = (in-store l v given, tt); own = tt; made = tt };
      fit = committed-live parts s l v given;
    }
    by-act _ _ _ _ _ (Feeds.peeks l v) under given at_it = record {
      types = s.types;
      settles = settles-same parts s;
      agrees = record { seen = (in-store l v given, tt); own = tt; made = tt };
      fit = committed-live parts s l v given;
    }
    by-act _ _ _ _ _ (Feeds.writes side l w) under given at_it =
        let here = subst (λ (z : Side). IsAtAct z (Act.Writes l w) (begun_with u [])) under at_it in
        record {
          types = s.types;
          settles =
              settles-put parts s l w (write-live parts.signature s.types (heap_in parts) s.typed.heap (begun_with u []) typed l w here)
              (write-stored parts.signature s.types (heap_in parts) s.typed.heap (begun_with u []) typed l w here);
          agrees = record { seen = tt; own = tt; made = tt };
          fit = tt;
        }
    by-act _ _ _ _ _ (Feeds.spawns body) under given at_it =
        record { types = s.types; settles = settles-same parts s; agrees = record { seen = tt; own = tt; made = tt }; fit = tt }
    by-act _ _ _ _ _ (Feeds.prints n) under given at_it =
        record { types = s.types; settles = settles-same parts s; agrees = record { seen = tt; own = tt; made = tt }; fit = tt }
    by-act _ _ _ _ _ (Feeds.calls device n answer) under given at_it =
        record { types = s.types; settles = settles-same parts s; agrees = record { seen = tt; own = tt; made = tt }; fit = tt }
