-- The store and the output to which a journal leads.
use Rattle.std.proofs.Common.{◌≡◌, ℕ, suc, ℤ, Bool, true, false, List, [], ◌∷◌, map, length, Option, Some, None, is_some, if◌then◌else◌, refl, sym}
use Rattle.std.proofs.Common.{ap, ◌∙◌, subst}
use Rattle.std.specs.Prelude.{IsSome, option_map, slice_get}
use Rattle.std.proofs.lemmas.List.Elements.{All-nil}
use Rattle.ame_term.specs.Tree.{Typ, Val as Value}
use Rattle.ame_term.specs.Signature.{Signature, MayStore}
use Rattle.ame_term.specs.Maps.{at}
use Rattle.ame_term.specs.State.{State}
use Rattle.ame_term.specs.View.{typ_of}
use Rattle.ame_term.specs.declared.types.Sort.{Sort}
use Rattle.ame_laws.specs.Typed.Listed.{signature_of}
use Rattle.ame_laws.specs.Typed.StoreTyping.{StoreTyping}
use Rattle.ame_laws.specs.Typed.TypedState.{IsTyped}
use Rattle.ame_device.specs.declared.told.Told.{Told}
use Rattle.ame_device.specs.Calls.{all_told}
use Rattle.ame_machine.specs.RefSorts.{IsRefForm}
use Rattle.ame_journal.specs.declared.entry.Entry.{Entry}
use Rattle.ame_journal.specs.Replayed.{Replayed, begun_at}
use Rattle.ame_journal.specs.Replay.{replay}
use Rattle.ame_journal.specs.Totals.{without_notes}
use Rattle.ame_journal.proofs.NoteLemmas.{notes-dropped}
use Rattle.ame_check.specs.Shows.{ReplayView, StandsForEntries}
use Rattle.ame_store.specs.declared.cell.Cell.{Cell}
use Rattle.ame_store.specs.Cells.{IsFree}
use Rattle.ame_protocol.specs.Row.Heap.{IsLive}
use Rattle.ame_protocol.specs.Row.Shown.{shown_cell}
use Rattle.ame_protocol.specs.Visits.Opened.{AreOpened, cell_of, stored_in}
use Rattle.ame_engine.specs.Ending.{types_in}
use Rattle.ame_engine.specs.Resuming.{AreCellsOf}
use Rattle.ame_engine.proofs.ResumedCells.{cells-free, cells-form, cells-opened}
use Rattle.ame_code.specs.Code.{program_of}
use Rattle.ame_code.specs.FlatCode.{FlatCode}
use Rattle.ame_value.specs.declared.val.Val.{Val}
use Rattle.ame_eval.specs.Values.{value_meant, made_alike, meant_alike}
use Rattle.ame_eval.specs.declared.fragment.Fragment.{Fragment}
use Rattle.ame_app.specs.Fragments.{fragments}
use Rattle.ame_app.specs.Jobs.{are_alike, IsLeftOf, LeadsToLeft}

-- Types of locations are those of their cells

module _ (signature : Signature) (refs : List Typ) (listed : signature.refs ≡ Some refs) (cells : List (Cell Value)) (types : StoreTyping) (s : State)
    (typed : IsTyped signature types s) (stored : (l : ℕ) → at s.store l ≡ stored_in (cell_of cells l))
    (sorts : (l : ℕ) → IsLive (cell_of cells l) → (content : Typ) × (types l ≡ Some ((cell_of cells l).sort, content)) × MayStore signature.refs (cell_of cells l).ty.0 content) where
  none-there : (l : ℕ) → (cell_of cells l).live ≡ false → (o : Option (Sort × Typ)) → types l ≡ o → o ≡ None
  none-there l dead None is = refl
  none-there l dead (Some cell) is =
      let there : IsSome (at s.store l) = typed.located l cell is in
      let none : at s.store l ≡ None = stored l ∙ ap (λ (b : Bool). if b then Some (cell_of cells l).value else None) dead in
      absurd (let clash : false ≡ true = sym (ap is_some none) ∙ there in cc)

  types-are : (l : ℕ) → types l ≡ types_in refs cells l
  types-are l = by (cell_of cells l).live refl
    where
      by : (b : Bool) → (cell_of cells l).live ≡ b
          → types l ≡ (if b then option_map (λ t. ((cell_of cells l).sort, t)) (slice_get refs (cell_of cells l).ty.0) else None)
      by false dead = none-there l dead (types l) refl
      by true live =
          let its = sorts l live in
          let may : MayStore (Some refs) (cell_of cells l).ty.0 its.0 =
          subst (λ (o : Option (List Typ)). MayStore o (cell_of cells l).ty.0 its.0) listed its.2 in
          its.1 ∙ sym (ap (option_map (λ t. ((cell_of cells l).sort, t))) may)

  typed-so : IsTyped signature (types_in refs cells) s
  typed-so = subst (λ (t : StoreTyping). IsTyped signature t s) (λ i l. types-are l i) typed

-- A replay of the entries that are no notes

one-led : (program-led other : Option Replayed) (a b : Replayed) → program-led ≡ other → program-led ≡ Some a → other ≡ Some b → a ≡ b
one-led p o a b same is also = let both : ◌≡◌ {A = Option Replayed} (Some a) (Some b) = sym is ∙ same ∙ also in cc

module _ (code : FlatCode) (entries acts : List Entry) (place : ReplayView Val Fragment) (acts_are : acts ≡ without_notes entries)
    (st : StandsForEntries fragments code acts place) (cells : List (Cell Val)) (are : AreCellsOf are_alike place.cells cells) where
  good-same : (x y : Val) → are_alike x y → fragments.is_value code x → fragments.is_value code y
  good-same x y same good = made_alike code x y same good

  shown-same : (x y : Val) → are_alike x y → fragments.value_of code x ≡ fragments.value_of code y
  shown-same x y same = meant_alike code x y same

  opened : AreOpened (signature_of code.accepted) st.types (map (shown_cell (value_meant code)) cells) st.led.state
  opened = cells-opened fragments code are_alike good-same shown-same place.cells cells are st.led.state st.types st.shows.store st.forms

  left-there : IsLeftOf code cells place.output st.led.state
  left-there = record {
    store = record {
      stored = opened.stored;
      free = cells-free are_alike place.cells cells are;
      forms = cells-form fragments code are_alike good-same shown-same place.cells cells are st.led.state st.types st.shows.store st.forms;
    };
    typed = typed-so (signature_of code.accepted) (map typ_of code.accepted.ref_tys.items) refl (map (shown_cell (value_meant code)) cells) st.types st.led.state
        st.typed opened.stored opened.sorts;
    printed = st.shows.output;
  }

  pub leads-left : LeadsToLeft code entries cells place.output
  leads-left = λ led leads.
      subst (λ (r : Replayed). IsLeftOf code cells place.output r.state)
      (one-led (replay (program_of code) acts) (replay (program_of code) (without_notes entries)) st.led led (ap (replay (program_of code)) acts_are) st.replayed
      (notes-dropped (begun_at (program_of code)) entries led leads)) left-there

-- Without entries nothing is stored and nothing was printed

pub none-left : (code : FlatCode) (types : StoreTyping) → IsTyped (signature_of code.accepted) types (begun_at (program_of code)).state
    → (entries : List Entry) (cells : List (Cell Val)) (output : List ℤ) → entries ≡ [] → cells ≡ [] → output ≡ [] → LeadsToLeft code entries cells output
none-left code types typed entries cells output no_entries no_cells no_output = λ led leads.
    let same : begun_at (program_of code) ≡ led = (let both : ◌≡◌ {A = Option Replayed} (Some (begun_at (program_of code))) (Some led) = sym (ap (replay (program_of code)) no_entries) ∙ leads in cc) in
    subst (λ (r : Replayed). IsLeftOf code cells output r.state) same
    (subst (λ (cs : List (Cell Val)). IsLeftOf code cs output (begun_at (program_of code)).state) (sym no_cells)
    (subst (λ (o : List ℤ). IsLeftOf code [] o (begun_at (program_of code)).state) (sym no_output) (record {
      store = record { stored = λ l. refl; free = All-nil IsFree; forms = All-nil (λ (cell : Cell Val). IsRefForm (program_of code) cell.sort cell.ty.0) };
      typed = typed-so (signature_of code.accepted) (map typ_of code.accepted.ref_tys.items) refl [] types (begun_at (program_of code)).state typed (λ l. refl)
          (λ l live. absurd (let clash : false ≡ true = live in cc));
      printed = refl;
    })))

-- Devices

length-told : {X Y : Type 0} (f : X → Y) (xs : List X) → length (map f xs) ≡ length xs
length-told f [] = refl
length-told f (x ∷ xs) = ap suc (length-told f xs)

-- as many devices show what they heard as there are
pub told-count : {D : Type 0} (tell : D → Told) (old new : List D) → length new ≡ length old
    → length (all_told tell new) ≡ length (all_told tell old)
told-count tell old new same = length-told tell new ∙ same ∙ sym (length-told tell old)
