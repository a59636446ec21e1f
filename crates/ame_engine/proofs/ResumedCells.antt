-- The cells of a replay by location.
use Rattle.std.proofs.Common.{◌≡◌, ℕ, ◌%◌, ◌+◌, ◌<◌, ◌≤◌, ◌⊎◌, inl, inr, true, false, List, [], ◌∷◌, ◌++◌, length, map, get_or, Option, Some, None, refl, sym, ap, ◌∙◌, subst, arith, All}
use Rattle.std.proofs.lemmas.List.{get_or_push, get_or_past, length_push, length-map, get_or-map, get_or_append_left}
use Rattle.std.proofs.lemmas.List.Elements.{All-from_get_or, All-nil}
use Rattle.std.specs.Ordering.{is_lt, nat_cmp}
use Rattle.ame_term.specs.Tree.{Typ, Val}
use Rattle.ame_term.specs.Signature.{MayStore}
use Rattle.ame_term.specs.Maps.{at}
use Rattle.ame_term.specs.State.{State}
use Rattle.ame_term.specs.declared.types.Sort.{Sort}
use Rattle.ame_term.specs.declared.types.TyNo.{TyNo}
use Rattle.ame_laws.specs.Typed.StoreTyping.{StoreTyping}
use Rattle.ame_laws.proofs.MapLemmas.{less-from_lt}
use Rattle.ame_machine.specs.Meaning.{Meaning}
use Rattle.ame_machine.specs.RefSorts.{IsRefForm}
use Rattle.ame_check.specs.declared.stored.Stored.{Stored}
use Rattle.ame_check.specs.Shows.{ShowsCells, ShowsValue, HaveForms}
use Rattle.ame_store.specs.declared.cell.Cell.{Cell}
use Rattle.ame_store.specs.Cells.{IsFree, IsDead}
use Rattle.ame_store.specs.Changes.{made}
use Rattle.ame_protocol.specs.Engine.Simulates.{most_opened}
use Rattle.ame_protocol.specs.Row.Heap.{IsLive, no_cell}
use Rattle.ame_protocol.specs.Row.Shown.{shown_cell}
use Rattle.ame_protocol.specs.Visits.Opened.{AreOpened, cell_of, stored_in}
use Rattle.ame_engine.specs.Resuming.{AreCellsOf, IsCellOf}

-- a bound by the order of keys
pub at-most : (last k : ℕ) → is_lt (nat_cmp last k) ≡ false → k ≤ last
at-most last k e = by (which last k)
  where
    which : (m n : ℕ) → (m < n) ⊎ (n ≤ m)
    which m n = grind arith

    by : (last < k) ⊎ (k ≤ last) → k ≤ last
    by (inl over) = absurd (let clash : true ≡ false = sym (ap is_lt (less-from_lt last k over)) ∙ e in cc)
    by (inr under) = under

-- it has no owner, and was not written
abbrev pub IsFresh : {V : Type 0} → Cell V → Type 0
IsFresh cell = IsFree cell × (cell.number ≡ 0)

module _ {V : Type 0} (same : V → V → Type 0) where
  pub cell-fresh : (first stored : Option (Stored V)) (cell : Cell V) → IsCellOf same first stored cell → IsFresh cell
  cell-fresh first (Some stored) cell is = (ap (λ (c : Cell V). c.owner) is, ap (λ (c : Cell V). c.number) is)
  cell-fresh (Some first) None cell (v, s, is) = (ap (λ (c : Cell V). c.owner) is, ap (λ (c : Cell V). c.number) is)
  cell-fresh None None cell is = absurd is

  module _ (stored : List (ℕ × Stored V)) (cells : List (Cell V)) (are : AreCellsOf same stored cells) where
    fresh-there : (k : ℕ) (d : Cell V) → k < length cells → IsFresh (get_or cells k d)
    fresh-there k d under = cell-fresh (at stored are.least) (at stored k) (get_or cells k d) (are.each k d under)

    pub cells-free : All IsFree cells
    cells-free = λ k d under. (fresh-there k d under).0

    pub cells-even : All (λ cell. cell.number % 2 ≡ 0) cells
    cells-even = λ k d under. ap (λ (n : ℕ). n % 2) (fresh-there k d under).1

  -- The cells so far, and what is left

  pub record Fills (origin left : List (ℕ × Stored V)) (first : Option (Stored V)) (l : ℕ) (cells : List (Cell V)) : Type 0 where
    pub count : length cells ≡ l
    pub each : (k : ℕ) (d : Cell V) → k < l → IsCellOf same first (at origin k) (get_or cells k d)
    pub rest : (k : ℕ) → l ≤ k → at left k ≡ at origin k

  pub fills-more : (origin left later : List (ℕ × Stored V)) (first : Option (Stored V)) (l : ℕ) (cells more : List (Cell V)) (cell : Cell V) (taken : Option (Stored V))
      → Fills origin left first l cells → taken ≡ at left l → ((k : ℕ) → (l ≡ k → ⊥) → at later k ≡ at left k) → IsCellOf same first taken cell → more ≡ cells ++ cell ∷ []
      → Fills origin later first (l + 1) more
  fills-more origin left later first l cells more cell taken f is others made_so grown = record {
    count = ap length grown ∙ length_push cells cell ∙ ap (λ (n : ℕ). n + 1) f.count;
    each = λ k d below. subst (λ (cs : List (Cell V)). IsCellOf same first (at origin k) (get_or cs k d)) (sym grown) (by k d below (which k));
    rest = λ k far. others k (λ e. let one : l ≡ k = e in omega arith) ∙ f.rest k (omega arith);
  }
    where
      which : (k : ℕ) → (k < l) ⊎ (l ≤ k)
      which k = grind arith

      here : l ≤ l
      here = omega arith

      by : (k : ℕ) (d : Cell V) → k < l + 1 → (k < l) ⊎ (l ≤ k) → IsCellOf same first (at origin k) (get_or (cells ++ cell ∷ []) k d)
      by k d below (inl under) =
          let within : k < length cells = (let count : length cells ≡ l = f.count in omega arith) in
          subst (IsCellOf same first (at origin k)) (sym (get_or_append_left cells (cell ∷ []) d k within)) (f.each k d under)
      by k d below (inr over) =
          let last : k ≡ l = omega arith in
          let count : length cells ≡ k = f.count ∙ sym last in
          subst (λ (z : Cell V). IsCellOf same first (at origin k) z) (sym (get_or_push cells cell d k count))
          (subst (λ (o : Option (Stored V)). IsCellOf same first o cell) (is ∙ f.rest l here ∙ ap (at origin) (sym last)) made_so)

  -- a copy of the first is as good
  recopied : (transitive : (x y z : V) → same x y → same y z → same x z) (first copy : Stored V) (stored : Option (Stored V)) (cell : Cell V) → copy.sort ≡ first.sort → copy.number ≡ first.number
      → same first.value copy.value → IsCellOf same (Some copy) stored cell → IsCellOf same (Some first) stored cell
  recopied transitive first copy (Some stored) cell sort number alike is = is
  recopied transitive first copy None cell sort number alike (v, like, is) = (
    v,
    transitive first.value copy.value v alike like,
    is ∙ ap (λ (s : Sort). record (made s copy.number v None) { live = false }) sort ∙ ap (λ (n : TyNo). record (made first.sort n v None) { live = false }) number,
  )

  pub cells-filled : (transitive : (x y z : V) → same x y → same y z → same x z) (origin left : List (ℕ × Stored V)) (first copy : Stored V) (least last index : ℕ) (cells : List (Cell V))
      → index ≡ last + 1 → Fills origin left (Some copy) index cells → copy.sort ≡ first.sort → copy.number ≡ first.number → same first.value copy.value → Some first ≡ at origin least
      → ((k : ℕ) (cell : Stored V) → at origin k ≡ Some cell → k ≤ last) → last < most_opened → AreCellsOf same origin cells
  cells-filled transitive origin left first copy least last index cells end f sort number alike there bound near = record {
    least = least;
    each = λ l d under.
        subst (λ (o : Option (Stored V)). IsCellOf same o (at origin l) (get_or cells l d)) there
        (recopied transitive first copy (at origin l) (get_or cells l d) sort number alike
        (f.each l d (let count : length cells ≡ index = f.count in omega arith)));
    within = λ l cell is. let up : l ≤ last = bound l cell is in let count : length cells ≡ index = f.count in omega arith;
    few = let count : length cells ≡ index = f.count in let under : last < 4000000 = near in let few : length cells ≤ 4000000 = omega arith in few;
  }

-- The cells as plain data

module _ {C V M : Type 0} (meaning : Meaning C V M) (code : C) (same : V → V → Type 0)
    (good_same : (x y : V) → same x y → meaning.is_value code x → meaning.is_value code y) (shown_same : (x y : V) → same x y → meaning.value_of code x ≡ meaning.value_of code y)
    (stored : List (ℕ × Stored V)) (cells : List (Cell V)) (are : AreCellsOf same stored cells) where
  abbrev pub shown : List (Cell Val)
  shown = map (shown_cell (meaning.value_of code)) cells

  which : (l : ℕ) → (l < length cells) ⊎ (length cells ≤ l)
  which l = grind arith

  past : (l : ℕ) → length cells ≤ l → cell_of shown l ≡ no_cell
  past l far = get_or_past shown l no_cell (let same_length : length shown ≡ length cells = length-map cells (shown_cell (meaning.value_of code)) in omega arith)

  absent : (l : ℕ) (o : Option (Stored V)) → at stored l ≡ o → length cells ≤ l → o ≡ None
  absent l None is far = refl
  absent l (Some cell) is far = absurd (let under : l < length cells = are.within l cell is in omega arith)

  -- the cell at a location
  within : (l : ℕ) → l < length cells → (cell : Cell V) × IsCellOf same (at stored are.least) (at stored l) cell × (cell_of shown l ≡ shown_cell (meaning.value_of code) cell)
  within l under = by cells refl
    where
      by : (cs : List (Cell V)) → cs ≡ cells → (cell : Cell V) × IsCellOf same (at stored are.least) (at stored l) cell × (cell_of shown l ≡ shown_cell (meaning.value_of code) cell)
      by [] e = absurd (let none : 0 ≡ length cells = ap length e in omega arith)
      by (c ∷ cs) e = (get_or cells l c, are.each l c under, get_or-map (shown_cell (meaning.value_of code)) cells l c no_cell under)

  fresh-at : (l : ℕ) → IsFresh (cell_of shown l)
  fresh-at l = by (which l)
    where
      by : (l < length cells) ⊎ (length cells ≤ l) → IsFresh (cell_of shown l)
      by (inl under) =
          let w = within l under in
          let f = cell-fresh same (at stored are.least) (at stored l) w.0 w.1 in
          subst IsFresh (sym w.2) (f.0, f.1)
      by (inr far) = subst IsFresh (sym (past l far)) (refl, refl)

  module _ (s : State) (types : StoreTyping) (shows : ShowsCells meaning code stored s.store) (forms : HaveForms (meaning.signature code) types stored) where
    stored-as : (l : ℕ) (o : Option (Stored V)) (cell : Cell V) → at stored l ≡ o → IsCellOf same (at stored are.least) o cell → at s.store l ≡ stored_in (shown_cell (meaning.value_of code) cell)
    stored-as l (Some c) cell is made_so =
        (subst (λ (o : Option (Stored V)). ShowsValue meaning code o (at s.store l)) is (shows l)).1
        ∙ sym (ap (λ (z : Cell V). stored_in (shown_cell (meaning.value_of code) z)) made_so)
    stored-as l None cell is made_so = subst (λ (o : Option (Stored V)). ShowsValue meaning code o (at s.store l)) is (shows l) ∙ sym (dead (at stored are.least) made_so)
      where
        dead : (first : Option (Stored V)) → IsCellOf same first None cell → stored_in (shown_cell (meaning.value_of code) cell) ≡ None
        dead (Some first) (v, alike, e) = ap (λ (z : Cell V). stored_in (shown_cell (meaning.value_of code) z)) e
        dead None none = absurd none

    stored-at : (l : ℕ) → at s.store l ≡ stored_in (cell_of shown l)
    stored-at l = by (which l)
      where
        by : (l < length cells) ⊎ (length cells ≤ l) → at s.store l ≡ stored_in (cell_of shown l)
        by (inl under) = let w = within l under in stored-as l (at stored l) w.0 refl w.1 ∙ ap stored_in (sym w.2)
        by (inr far) =
            let none : at stored l ≡ None = absent l (at stored l) refl far in
            subst (λ (o : Option (Stored V)). ShowsValue meaning code o (at s.store l)) none (shows l) ∙ ap stored_in (sym (past l far))

    typed-form-as : (l : ℕ) (o : Option (Stored V)) (cell : Cell V) → at stored l ≡ o → IsCellOf same (at stored are.least) o cell → cell.live ≡ true
        → (content : Typ) × (types l ≡ Some (cell.sort, content)) × MayStore (meaning.signature code).refs cell.ty.0 content
    typed-form-as l (Some c) cell is made_so live =
        let h = forms l c is in (
          h.0,
          h.1 ∙ ap (λ (z : Cell V). Some (z.sort, h.0)) (sym made_so),
          subst (λ (z : Cell V). MayStore (meaning.signature code).refs z.ty.0 h.0) (sym made_so) h.2,
        )
    typed-form-as l None cell is made_so live = absurd (dead (at stored are.least) made_so)
      where
        dead : (first : Option (Stored V)) → IsCellOf same first None cell → ⊥
        dead (Some first) (v, alike, e) = let clash : false ≡ true = sym (ap (λ (z : Cell V). z.live) e) ∙ live in cc
        dead None none = none

    typed-forms-at : (l : ℕ) → IsLive (cell_of shown l) → (content : Typ) × (types l ≡ Some ((cell_of shown l).sort, content))
        × MayStore (meaning.signature code).refs (cell_of shown l).ty.0 content
    typed-forms-at l live = by (which l)
      where
        by : (l < length cells) ⊎ (length cells ≤ l) → (content : Typ) × (types l ≡ Some ((cell_of shown l).sort, content))
            × MayStore (meaning.signature code).refs (cell_of shown l).ty.0 content
        by (inl under) =
            let w = within l under in
            let h = typed-form-as l (at stored l) w.0 refl w.1 (sym (ap (λ (z : Cell Val). z.live) w.2) ∙ live) in (
              h.0,
              h.1 ∙ ap (λ (z : Cell Val). Some (z.sort, h.0)) (sym w.2),
              subst (λ (z : Cell Val). MayStore (meaning.signature code).refs z.ty.0 h.0) (sym w.2) h.2,
            )
        by (inr far) = absurd (let clash : false ≡ true = sym (ap (λ (z : Cell Val). z.live) (past l far)) ∙ live in cc)

    abbrev Copies : Cell Val → Cell Val → Type 0
    Copies cell first = IsLive first × (cell.sort ≡ first.sort) × (cell.value ≡ first.value) × (cell.ty ≡ first.ty)

    copies-at : (l : ℕ) → l < length shown → IsDead (cell_of shown l) → Copies (cell_of shown l) (cell_of shown are.least)
    copies-at l below dead =
        let under : l < length cells = (let same_length : length shown ≡ length cells = length-map cells (shown_cell (meaning.value_of code)) in omega arith) in
        let w = within l under in
        subst (λ (z : Cell Val). Copies z (cell_of shown are.least)) (sym w.2) (by (at stored l) w.0 w.1 (sym (ap (λ (z : Cell Val). z.live) w.2) ∙ dead))
      where
        from-first : (o : Option (Stored V)) (cell : Cell V) → at stored are.least ≡ o → IsCellOf same o None cell → Copies (shown_cell (meaning.value_of code) cell) (cell_of shown are.least)
        from-first None cell is none = absurd none
        from-first (Some first) cell is (v, alike, e) =
            let w = within are.least (are.within are.least first is) in
            let live : w.0 ≡ made first.sort first.number first.value None = subst (λ (o : Option (Stored V)). IsCellOf same (at stored are.least) o w.0) is w.1 in
            let at_first : cell_of shown are.least ≡ shown_cell (meaning.value_of code) (made first.sort first.number first.value None) =
            w.2 ∙ ap (shown_cell (meaning.value_of code)) live in (
              ap (λ (z : Cell Val). z.live) at_first,
              ap (λ (z : Cell V). z.sort) e ∙ sym (ap (λ (z : Cell Val). z.sort) at_first),
              ap (λ (z : Cell V). meaning.value_of code z.value) e ∙ sym (shown_same first.value v alike) ∙ sym (ap (λ (z : Cell Val). z.value) at_first),
              ap (λ (z : Cell V). z.ty) e ∙ sym (ap (λ (z : Cell Val). z.ty) at_first),
            )

        by : (o : Option (Stored V)) (cell : Cell V) → IsCellOf same (at stored are.least) o cell → cell.live ≡ false → Copies (shown_cell (meaning.value_of code) cell) (cell_of shown are.least)
        by (Some c) cell is off = absurd (let clash : true ≡ false = sym (ap (λ (z : Cell V). z.live) is) ∙ off in cc)
        by None cell is off = from-first (at stored are.least) cell refl is

    pub cells-opened : AreOpened (meaning.signature code) types shown s
    cells-opened = record {
      few = let count : length shown ≡ length cells = length-map cells (shown_cell (meaning.value_of code)) in let few = are.few in omega arith;
      free = λ l. (fresh-at l).0;
      unwritten = λ l. (fresh-at l).1;
      stored = stored-at;
      sorts = typed-forms-at;
      copied = are.least;
      copies = copies-at;
    }

    -- each value is one of the code
    good-as : (l : ℕ) (o : Option (Stored V)) (cell : Cell V) → at stored l ≡ o → IsCellOf same (at stored are.least) o cell → meaning.is_value code cell.value
    good-as l (Some c) cell is made_so =
        subst (λ (z : Cell V). meaning.is_value code z.value) (sym made_so) (subst (λ (o : Option (Stored V)). ShowsValue meaning code o (at s.store l)) is (shows l)).0.0
    good-as l None cell is made_so = dead (at stored are.least) refl made_so
      where
        dead : (first : Option (Stored V)) → at stored are.least ≡ first → IsCellOf same first None cell → meaning.is_value code cell.value
        dead (Some first) there (v, alike, e) =
            let good = (subst (λ (o : Option (Stored V)). ShowsValue meaning code o (at s.store are.least)) there (shows are.least)).0.0 in
            subst (λ (z : Cell V). meaning.is_value code z.value) (sym e) (good_same first.value v alike good)
        dead None there none = absurd none

    pub cells-good : All (λ cell. meaning.is_value code cell.value) cells
    cells-good = by cells refl
      where
        by : (cs : List (Cell V)) → cs ≡ cells → All (λ cell. meaning.is_value code cell.value) cells
        by [] e = subst (All (λ (z : Cell V). meaning.is_value code z.value)) e (All-nil (λ (z : Cell V). meaning.is_value code z.value))
        by (c ∷ cs) e = All-from_get_or (λ (z : Cell V). meaning.is_value code z.value) cells c (λ l under. good-as l (at stored l) (get_or cells l c) refl (are.each l c under))

    -- each number is that of a form
    abbrev HasForm : Cell V → Type 0
    HasForm cell = IsRefForm (meaning.program code) cell.sort cell.ty.0

    form-as : (l : ℕ) (o : Option (Stored V)) (cell : Cell V) → at stored l ≡ o → IsCellOf same (at stored are.least) o cell → HasForm cell
    form-as l (Some c) cell is made_so = subst HasForm (sym made_so) (subst (λ (o : Option (Stored V)). ShowsValue meaning code o (at s.store l)) is (shows l)).0.1
    form-as l None cell is made_so = dead (at stored are.least) refl made_so
      where
        dead : (first : Option (Stored V)) → at stored are.least ≡ first → IsCellOf same first None cell → HasForm cell
        dead (Some first) there (v, alike, e) =
            subst HasForm (sym e) (subst (λ (o : Option (Stored V)). ShowsValue meaning code o (at s.store are.least)) there (shows are.least)).0.1
        dead None there none = absurd none

    pub cells-form : All HasForm cells
    cells-form = by cells refl
      where
        by : (cs : List (Cell V)) → cs ≡ cells → All HasForm cells
        by [] e = subst (All HasForm) e (All-nil HasForm)
        by (c ∷ cs) e = All-from_get_or HasForm cells c (λ l under. form-as l (at stored l) (get_or cells l c) refl (are.each l c under))
