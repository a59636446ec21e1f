-- A row that no other seat disturbs stays valid.
use Rattle.std.proofs.Common.{◌≡◌, ℕ, ◌+◌, ◌%◌, ◌⊎◌, inl, inr, List, [], ◌∷◌, ◌++◌, Option, MatchOption, All, refl, sym, ◌∙◌, subst, arith}
use Rattle.std.proofs.lemmas.List.Elements.{All-push}
use Rattle.ame_term.specs.Tree.{Val}
use Rattle.ame_term.specs.Signature.{Signature}
use Rattle.ame_term.specs.Frame.{Side}
use Rattle.ame_term.specs.Act.{Act}
use Rattle.ame_term.specs.declared.types.Loc.{Loc}
use Rattle.ame_term.specs.declared.types.Sort.{Sort}
use Rattle.ame_laws.specs.Typed.StoreTyping.{StoreTyping}
use Rattle.ame_store.specs.declared.cell.Cell.{Cell}
use Rattle.ame_store.specs.Cells.{IsFree}
use Rattle.ame_store.specs.Writes.{taken_by}
use Rattle.ame_rows.specs.declared.notes.ReadNote.{ReadNote}
use Rattle.ame_rows.specs.Valid.{IsValidAt}
use Rattle.ame_machine.specs.Run.Local.{LocalState}
use Rattle.ame_protocol.specs.Row.Heap.{Heap, cell_at, IsCell, IsLive}
use Rattle.ame_protocol.specs.Row.SeatRun.{SeatRun, ComesTo, IsValidNote, AreValid}
use Rattle.ame_protocol.specs.Row.Owes.{IsNote}
use Rattle.ame_protocol.specs.Row.Changed.{BecomesAt}
use Rattle.ame_protocol.specs.Row.Scoped.{reaches, reached_types, IsScoped}
use Rattle.ame_protocol.proofs.Row.CellLemmas.{free-apart, after}
use Rattle.ame_protocol.proofs.Row.ReachLemmas.{Reached, reach-of, where-of}
use Rattle.ame_protocol.proofs.Row.TypedRunLemmas.{act-typed}

-- what a valid row reads is live, or was made by it
pub read-reached : (signature : Signature) (types : StoreTyping) (heap : Heap) (seat : ℕ) (run : SeatRun) (l n : ℕ) (p : LocalState) → AreValid heap seat run.reads → IsScoped signature types heap seat run
    → ComesTo run (Act.Reads l) n p → Reached seat (cell_at heap l)
read-reached signature types heap seat run l n p valid scoped comes =
    let scope = reached_types heap seat types in
    let act = act-typed signature scope Side.Protected (Act.Reads l) p comes.there (scoped valid n p comes.place.ran comes.place.used) in
    reach-of seat (cell_at heap l) (where-of (λ m. reaches seat (cell_at heap m)) types l (act.1.0, act.0) act.1.1).0

pub read-valid : (signature : Signature) (types : StoreTyping) (heap : Heap) (seat : ℕ) (run : SeatRun) (l : Loc) (n : ℕ) (p : LocalState) → AreValid heap seat run.reads → IsScoped signature types heap seat run
    → ComesTo run (Act.Reads l.0) n p → IsFree (cell_at heap l.0) → (cell_at heap l.0).number % 2 ≡ 0
    → AreValid heap seat (run.reads ++ record { loc = l; number = (cell_at heap l.0).number } ∷ [])
read-valid signature types heap seat run l n p valid scoped comes free even =
    All-push (IsValidNote heap seat) run.reads (record { loc = l; number = (cell_at heap l.0).number }) valid (record {
      unowned = even;
      live = by (read-reached signature types heap seat run l.0 n p valid scoped comes);
      same =
          subst (λ (o : Option ℕ). MatchOption o ((cell_at heap l.0).number ≡ (cell_at heap l.0).number) (λ owner. (owner ≡ seat) × ((cell_at heap l.0).number ≡ (cell_at heap l.0).number + 1)))
          (sym free) refl;
    })
  where
    by : Reached seat (cell_at heap l.0) → IsLive (cell_at heap l.0)
    by (inl live) = live
    by (inr made) = absurd (free-apart seat (cell_at heap l.0) free made.0)

-- one cell becomes another one
module _ (old new : Heap) (seat l : ℕ) (cell : Cell Val) (b : BecomesAt old new l cell) (reads : List ReadNote) (notes : All (IsNote old) reads) where
  valid-on : ((note : ReadNote) → IsCell old l → (cell_at old l).sort ≡ Sort.Protected → IsValidAt seat note.number (cell_at old l) → IsValidAt seat note.number cell)
      → AreValid old seat reads → AreValid new seat reads
  valid-on goes valid = λ k d below. by _ (notes k d below) (valid k d below)
    where
      by : (note : ReadNote) → IsNote old note → IsValidNote old seat note → IsValidNote new seat note
      by note known v = choose (after old new l cell b note.loc.0)
        where
          choose : ((note.loc.0 ≡ l) × (cell_at new note.loc.0 ≡ cell)) ⊎ (((note.loc.0 ≡ l) → ⊥) × (cell_at new note.loc.0 ≡ cell_at old note.loc.0)) → IsValidNote new seat note
          choose (inl s) =
              subst (IsValidAt seat note.number) (sym s.1)
              (goes note (subst (IsCell old) s.0 known.there) (subst (λ (m : ℕ). (cell_at old m).sort ≡ Sort.Protected) s.0 known.sort)
              (subst (λ (m : ℕ). IsValidAt seat note.number (cell_at old m)) s.0 v))
          choose (inr s) = subst (IsValidAt seat note.number) (sym s.1) v

taken-valid : (seat n : ℕ) (v : Val) (cell : Cell Val) → IsFree cell → IsValidAt seat n cell → IsValidAt seat n (taken_by seat v cell)
taken-valid seat n v cell free h =
    let same : cell.number ≡ n = subst (λ (o : Option ℕ). MatchOption o (cell.number ≡ n) (λ owner. (owner ≡ seat) × (cell.number ≡ n + 1))) free h.same in
    let count : cell.number + 1 ≡ n + 1 = omega arith in
    record { unowned = h.unowned; live = h.live; same = (refl, count) }

module _ (old new : Heap) (seat l : ℕ) (reads : List ReadNote) (notes : All (IsNote old) reads) (valid : AreValid old seat reads) where
  pub valid-taken : (v : Val) → IsFree (cell_at old l) → BecomesAt old new l (taken_by seat v (cell_at old l)) → AreValid new seat reads
  valid-taken v free b =
      valid-on old new seat l (taken_by seat v (cell_at old l)) b reads notes (λ note there sort h. taken-valid seat note.number v (cell_at old l) free h) valid

  pub valid-again : (v : Val) → BecomesAt old new l (record (cell_at old l) { value = v }) → AreValid new seat reads
  valid-again v b =
      valid-on old new seat l (record (cell_at old l) { value = v }) b reads notes (λ note there sort h. record { unowned = h.unowned; live = h.live; same = h.same }) valid

  pub valid-new : (cell : Cell Val) → (IsCell old l → ⊥) → BecomesAt old new l cell → AreValid new seat reads
  valid-new cell none b = valid-on old new seat l cell b reads notes (λ note there sort h. absurd (none there)) valid

  pub valid-put : (cell : Cell Val) → (cell_at old l).sort ≡ Sort.Unprotected → BecomesAt old new l cell → AreValid new seat reads
  valid-put cell its b =
      valid-on old new seat l cell b reads notes (λ note there sort h. absurd (let clash : Sort.Protected ≡ Sort.Unprotected = sym sort ∙ its in cc)) valid
