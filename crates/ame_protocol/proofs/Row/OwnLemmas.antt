-- A row keeps what it owes by its own events.
use Rattle.std.proofs.Common.{◌≡◌, ℕ, ◌+◌, ◌≤◌, ◌⊎◌, inl, inr, false, List, [], ◌∷◌, ◌++◌, map, Option, Some, None, MatchOption, All, Contains, refl, sym, ap, ◌∙◌, subst, arith}
use Rattle.std.specs.Prelude.{nat_eq}
use Rattle.std.specs.List.{AllByRecursion, IsDistinct, list_any}
use Rattle.std.specs.Cmp.{nat_eq_equiv}
use Rattle.std.proofs.lemmas.Bool.{ne_eqb, eqb-false}
use Rattle.std.proofs.lemmas.List.{map-append}
use Rattle.std.proofs.lemmas.List.Elements.{All-contains, All-weaker, All-push, recursion_from_All, All-from_recursion, Contains-append_left, Contains-push, Contains-push_cases}
use Rattle.std.proofs.lemmas.Map.Keys.{IsDistinct-push}
use Rattle.ame_term.specs.Tree.{Val, Tree}
use Rattle.ame_term.specs.Frame.{Side}
use Rattle.ame_term.specs.Act.{Act}
use Rattle.ame_term.specs.Maps.{at, put}
use Rattle.ame_term.specs.declared.types.Loc.{Loc}
use Rattle.ame_term.specs.declared.types.Sort.{Sort}
use Rattle.ame_term.specs.declared.types.TyNo.{TyNo}
use Rattle.ame_laws.proofs.MapLemmas.{at-put}
use Rattle.ame_store.specs.declared.cell.Cell.{Cell}
use Rattle.ame_store.specs.Cells.{IsOwnedBy, IsFree, IsDead}
use Rattle.ame_store.specs.Changes.{made}
use Rattle.ame_store.specs.Writes.{taken_by}
use Rattle.ame_rows.specs.declared.notes.ReadNote.{ReadNote}
use Rattle.ame_rows.specs.declared.notes.Undo.{Undo}
use Rattle.ame_rows.specs.declared.notes.Undo.TheVariants.{Wrote, Made}
use Rattle.ame_rows.specs.Valid.{IsValidAt}
use Rattle.ame_machine.specs.Run.Local.{LocalState, begun_with, took, taken_where, set_at, made_at, fed, refilled_in, local}
use Rattle.ame_protocol.specs.Row.Heap.{Heap, cell_at, IsCell, IsCommitted}
use Rattle.ame_protocol.specs.Row.SeatRun.{SeatRun, HasUsed, IsSomewhere, ComesTo, IsValidNote, AreValid}
use Rattle.ame_protocol.specs.Row.Given.{IsHeld, IsLogged, IsOwnNewCell, IsGiven}
use Rattle.ame_protocol.specs.Row.UndoLog.{undo_place, IsUndo, IsUndoLog}
use Rattle.ame_protocol.specs.Row.Owes.{IsNote, Owes}
use Rattle.ame_protocol.specs.Row.Changed.{BecomesAt, KeepsCommitted}
use Rattle.ame_protocol.specs.Row.Own.{begun_seat, given_one, given_outside, given_undo}
use Rattle.ame_protocol.proofs.Row.CellLemmas.{each, free_or_owned, free-apart, owned_cell, after}
use Rattle.ame_protocol.proofs.Row.PlaceLemmas.{SameFootprint, goes-footprint, goes-quiet, later-place, later-used, later-footprint}

-- The inputs of a place depend on its footprint only.
given-there : (heap : Heap) (seat : ℕ) (reads : List ReadNote) (p q : LocalState) → SameFootprint p q → IsGiven heap seat reads p → IsGiven heap seat reads q
given-there heap seat reads p q same h = record {
  seen = subst (AllByRecursion (IsLogged heap seat reads)) same.seen h.seen;
  own = subst (AllByRecursion (λ (e : Val × Val). e.0 ≡ e.1)) same.own h.own;
  made = subst (AllByRecursion (IsOwnNewCell heap seat)) same.made h.made;
  sets = subst (λ (sets : List (ℕ × Val)). (l : ℕ) → IsHeld seat (cell_at heap l) (at sets l)) same.sets h.sets;
}

-- This also holds after one more input, if it holds after the act.
pub given-on : (heap : Heap) (seat : ℕ) (run : SeatRun) (act : Act) (n : ℕ) (p : LocalState) (v : Val) (reads : List ReadNote) (result : Tree × LocalState) → ComesTo run act n p
    → fed act Side.Protected v p ≡ Some result → IsGiven heap seat reads result.1
    → (m : ℕ) (q : LocalState) → local Side.Protected run.start (run.inputs ++ v ∷ []) m ≡ Some q → q.inputs ≡ [] → IsGiven heap seat reads q
given-on heap seat run act n p v reads result c gives h m q ran used =
    given-there heap seat reads result.1 q
    (later-footprint Side.Protected (begun_with run.start run.inputs) p c.there.redex n v result c.place.ran c.place.used c.there.stands
    (ap (λ (a : Act). fed a Side.Protected v p) c.there.acts ∙ gives) m q ran used)
    h

-- after one more input it stands somewhere
pub somewhere-on : (run : SeatRun) (act : Act) (n : ℕ) (p : LocalState) (v : Val) (result : Tree × LocalState) → ComesTo run act n p
    → fed act Side.Protected v p ≡ Some result → IsSomewhere (given_one v run)
somewhere-on run act n p v result c gives =
    let its = ap (λ (a : Act). fed a Side.Protected v p) c.there.acts ∙ gives in
    let start = begun_with run.start run.inputs in
    record {
      steps = n + 1;
      place = refilled_in p.term result;
      used = record {
        ran = later-place Side.Protected start p c.there.redex n v result c.place.ran c.place.used c.there.stands its (goes-quiet start p n c.place.ran refl);
        used = later-used Side.Protected start p c.there.redex n v result c.place.ran c.place.used c.there.stands its;
      };
    }

-- so does a run that begins
pub begun-somewhere : (term : Tree) → IsSomewhere (begun_seat term)
begun-somewhere term = record { steps = 0; place = begun_with term []; used = record { ran = refl; used = refl } }

-- more reads are logged
logged-more : (heap : Heap) (seat : ℕ) (reads more : List ReadNote) (e : ℕ × Val) → IsLogged heap seat reads e → IsLogged heap seat (reads ++ more) e
logged-more heap seat reads more e h =
    record { note = h.note; logged = Contains-append_left reads more h.note h.logged; place = h.place; given = h.given }

-- a valid read of a cell that the seat doesn't own is of a live one without an owner
pub unowned-valid : (seat n : ℕ) (cell : Cell Val) → (IsOwnedBy seat cell → ⊥) → IsValidAt seat n cell → IsFree cell
unowned-valid seat n cell apart v = by (free_or_owned cell)
  where
    by : IsFree cell ⊎ ((owner : ℕ) × IsOwnedBy owner cell) → IsFree cell
    by (inl free) = free
    by (inr k) =
        let said : MatchOption (Some k.0) (cell.number ≡ n) (λ owner. (owner ≡ seat) × (cell.number ≡ n + 1)) =
        subst (λ (o : Option ℕ). MatchOption o (cell.number ≡ n) (λ owner. (owner ≡ seat) × (cell.number ≡ n + 1))) k.1 v.same in
        absurd (apart (k.1 ∙ ap Some said.0))

module _ (heap : Heap) (seat : ℕ) (run : SeatRun) (o : Owes heap seat run) where
  -- Reads

  module _ (c : IsCommitted heap) (l : Loc) (n : ℕ) (p : LocalState) (comes : ComesTo run (Act.Reads l.0) n p) (there : IsCell heap l.0)
      (sort : (cell_at heap l.0).sort ≡ Sort.Protected) (apart : IsOwnedBy seat (cell_at heap l.0) → ⊥) where
    its-note : ReadNote
    its-note = record { loc = l; number = (cell_at heap l.0).number }

    its-value : Val
    its-value = (cell_at heap l.0).value

    its-reads : List ReadNote
    its-reads = run.reads ++ its-note ∷ []

    new-logged : IsLogged heap seat its-reads (l.0, its-value)
    unfolding its-note its-value its-reads
    new-logged = record {
      note = its-note;
      logged = Contains-push run.reads its-note;
      place = refl;
      given = λ v. c.free l.0 v.live (unowned-valid seat (cell_at heap l.0).number (cell_at heap l.0) apart v);
    }

    outside-given : (s : Option Val) → IsHeld seat (cell_at heap l.0) s → IsGiven heap seat run.reads p → IsGiven heap seat its-reads (taken_where s l.0 its-value p)
    unfolding its-reads
    outside-given None held h = record {
      seen = (new-logged, each (IsLogged heap seat run.reads) (IsLogged heap seat its-reads) (logged-more heap seat run.reads (its-note ∷ [])) p.seen h.seen);
      own = h.own;
      made = h.made;
      sets = h.sets;
    }
    outside-given (Some w) held h = absurd (apart held.0)

    pub outside : Owes heap seat (given_outside l (cell_at heap l.0) run)
    unfolding its-note its-value its-reads
    outside =
        let h = o.given n p comes.place in
        record {
          given = λ m q place. given-on heap seat run (Act.Reads l.0) n p its-value its-reads (Tree.Held its-value, took l.0 its-value p) comes refl (outside-given (at p.sets l.0) (h.sets l.0) h) m q place.ran place.used;
          undos = o.undos;
          notes = All-push (IsNote heap) run.reads its-note o.notes (record { there = there; past = omega arith; sort = sort });
        }

  own-given : (l : ℕ) (p : LocalState) (s : Option Val) → IsHeld seat (cell_at heap l) s → IsOwnedBy seat (cell_at heap l) → IsGiven heap seat run.reads p
      → IsGiven heap seat run.reads (taken_where s l (cell_at heap l).value p)
  own-given l p None held own h = absurd (held own)
  own-given l p (Some w) held own h = record { seen = h.seen; own = (held.1, h.own); made = h.made; sets = h.sets }

  pub own_read : (l n : ℕ) (p : LocalState) → ComesTo run (Act.Reads l) n p → IsOwnedBy seat (cell_at heap l) → Owes heap seat (given_one (cell_at heap l).value run)
  own_read l n p comes own =
      let h = o.given n p comes.place in
      let v = (cell_at heap l).value in
      record {
        given = λ m q place. given-on heap seat run (Act.Reads l) n p v run.reads (Tree.Held v, took l v p) comes refl (own-given l p (at p.sets l) (h.sets l) own h) m q place.ran place.used;
        undos = o.undos;
        notes = o.notes;
      }

-- a read that is valid after the seat took the cell, or wrote it again, was valid
pub taken-back : (seat n : ℕ) (v : Val) (cell : Cell Val) → IsFree cell → IsValidAt seat n (taken_by seat v cell) → IsValidAt seat n cell
taken-back seat n v cell free valid =
    let count : cell.number + 1 ≡ n + 1 = valid.same.1 in
    let same : cell.number ≡ n = omega arith in
    record {
      unowned = valid.unowned;
      live = valid.live;
      same = subst (λ (x : Option ℕ). MatchOption x (cell.number ≡ n) (λ owner. (owner ≡ seat) × (cell.number ≡ n + 1))) (sym free) same;
    }

pub value-back : (seat n : ℕ) (v : Val) (cell : Cell Val) → IsValidAt seat n (record cell { value = v }) → IsValidAt seat n cell
value-back seat n v cell valid = record { unowned = valid.unowned; live = valid.live; same = valid.same }

pub note-back : (old new : Heap) (seat l : ℕ) (cell : Cell Val) → BecomesAt old new l cell → ((n : ℕ) → IsCell old l → IsValidAt seat n cell → IsValidAt seat n (cell_at old l))
    → (note : ReadNote) → IsNote old note → IsValidNote new seat note → IsValidNote old seat note
note-back old new seat l cell b back note known v = by (after old new l cell b note.loc.0)
  where
    by : ((note.loc.0 ≡ l) × (cell_at new note.loc.0 ≡ cell)) ⊎ (((note.loc.0 ≡ l) → ⊥) × (cell_at new note.loc.0 ≡ cell_at old note.loc.0)) → IsValidNote old seat note
    by (inl s) =
        subst (λ (m : ℕ). IsValidAt seat note.number (cell_at old m)) (sym s.0)
        (back note.number (subst (IsCell old) s.0 known.there) (subst (IsValidAt seat note.number) s.1 v))
    by (inr s) = subst (IsValidAt seat note.number) s.1 v

pub all-notes-back : (old new : Heap) (seat l : ℕ) (cell : Cell Val) → BecomesAt old new l cell → ((n : ℕ) → IsCell old l → IsValidAt seat n cell → IsValidAt seat n (cell_at old l))
    → (reads : List ReadNote) → All (IsNote old) reads → AreValid new seat reads → AreValid old seat reads
all-notes-back old new seat l cell b back reads notes valid = λ k d below. note-back old new seat l cell b back _ (notes k d below) (valid k d below)

-- A cell that the seat takes, or has, becomes another one of its own
module _ (old new : Heap) (seat l : ℕ) (cell : Cell Val) (b : BecomesAt old new l cell) (k : KeepsCommitted old new) (own : IsOwnedBy seat cell)
    (dead : IsOwnedBy seat (cell_at old l) → IsDead (cell_at old l) → IsDead cell)
    (back : (n : ℕ) → IsCell old l → IsValidAt seat n cell → IsValidAt seat n (cell_at old l))
    (past : IsCell old l → (cell_at old l).number ≤ cell.number) (sort : IsCell old l → cell.sort ≡ (cell_at old l).sort) where
  logged-on : (reads : List ReadNote) → All (IsNote old) reads → (e : ℕ × Val) → IsLogged old seat reads e → IsLogged new seat reads e
  logged-on reads notes e h = record {
    note = h.note;
    logged = h.logged;
    place = h.place;
    given = λ v. k e.0 ∙ h.given (note-back old new seat l cell b back h.note (All-contains (IsNote old) reads h.note notes h.logged) v);
  }

  made-on : (e : ℕ × Option Val) → IsOwnNewCell old seat e → IsOwnNewCell new seat e
  made-on e h = by (after old new l cell b e.0)
    where
      by : ((e.0 ≡ l) × (cell_at new e.0 ≡ cell)) ⊎ (((e.0 ≡ l) → ⊥) × (cell_at new e.0 ≡ cell_at old e.0)) → IsOwnNewCell new seat e
      by (inl s) = record {
        own = subst (IsOwnedBy seat) (sym s.1) own;
        dead =
            subst IsDead (sym s.1)
            (dead (subst (λ (m : ℕ). IsOwnedBy seat (cell_at old m)) s.0 h.own) (subst (λ (m : ℕ). IsDead (cell_at old m)) s.0 h.dead));
        unset = h.unset;
      }
      by (inr s) = record { own = subst (IsOwnedBy seat) (sym s.1) h.own; dead = subst IsDead (sym s.1) h.dead; unset = h.unset }

  held-on : (sets : List (ℕ × Val)) (v : Val) → cell.value ≡ v → ((m : ℕ) → IsHeld seat (cell_at old m) (at sets m))
      → (m : ℕ) → IsHeld seat (cell_at new m) (at (put sets l v) m)
  held-on sets v is all m = by (at-put sets l m v)
    where
      by : ((l ≡ m) × (at (put sets l v) m ≡ Some v)) ⊎ (((l ≡ m) → ⊥) × (at (put sets l v) m ≡ at sets m)) → IsHeld seat (cell_at new m) (at (put sets l v) m)
      by (inl s) =
          let here : cell_at new m ≡ cell = ap (cell_at new) (sym s.0) ∙ b.there in
          subst (IsHeld seat (cell_at new m)) (sym s.1) (subst (λ (c : Cell Val). IsHeld seat c (Some v)) (sym here) (own, is))
      by (inr s) =
          let same = b.others m (λ eq. s.0 (sym eq)) in
          subst (IsHeld seat (cell_at new m)) (sym s.1) (subst (λ (c : Cell Val). IsHeld seat c (at sets m)) (sym same) (all m))

  pub set-given : (reads : List ReadNote) (p : LocalState) (v : Val) → All (IsNote old) reads → cell.value ≡ v → IsGiven old seat reads p → IsGiven new seat reads (set_at l v p)
  set-given reads p v notes is h = record {
    seen = each (IsLogged old seat reads) (IsLogged new seat reads) (logged-on reads notes) p.seen h.seen;
    own = h.own;
    made = each (IsOwnNewCell old seat) (IsOwnNewCell new seat) made-on p.made h.made;
    sets = held-on p.sets v is h.sets;
  }

  note-on : (note : ReadNote) → IsNote old note → IsNote new note
  note-on note h = by (after old new l cell b note.loc.0)
    where
      longer : IsCell new note.loc.0
      longer = let there : IsCell old note.loc.0 = h.there in let more = b.longer in omega arith

      by : ((note.loc.0 ≡ l) × (cell_at new note.loc.0 ≡ cell)) ⊎ (((note.loc.0 ≡ l) → ⊥) × (cell_at new note.loc.0 ≡ cell_at old note.loc.0)) → IsNote new note
      by (inl s) =
          let here = subst (IsCell old) s.0 h.there in
          let more : (cell_at old l).number ≤ cell.number = past here in
          let low : note.number ≤ (cell_at old l).number = subst (λ (m : ℕ). note.number ≤ (cell_at old m).number) s.0 h.past in
          let high : note.number ≤ cell.number = omega arith in
          record {
            there = longer;
            past = subst (λ (c : Cell Val). note.number ≤ c.number) (sym s.1) high;
            sort = ap (λ (c : Cell Val). c.sort) s.1 ∙ sort here ∙ ap (λ (m : ℕ). (cell_at old m).sort) (sym s.0) ∙ h.sort;
          }
      by (inr s) = record {
        there = longer;
        past = subst (λ (c : Cell Val). note.number ≤ c.number) (sym s.1) h.past;
        sort = ap (λ (c : Cell Val). c.sort) s.1 ∙ h.sort;
      }

  pub notes-on : (reads : List ReadNote) → All (IsNote old) reads → All (IsNote new) reads
  notes-on reads h = All-weaker (IsNote old) (IsNote new) note-on reads h

-- Undo logs

undo-owned : (heap : Heap) (seat : ℕ) (u : Undo Val) → IsUndo heap seat u → IsOwnedBy seat (cell_at heap (undo_place u))
undo-owned heap seat (Wrote l number old) h = h.0
undo-owned heap seat (Made l) h = h.0

-- an entry of a cell whose owner, number and life stay
undo-like : (old new : Heap) (seat : ℕ) (u : Undo Val) → (cell_at new (undo_place u)).owner ≡ (cell_at old (undo_place u)).owner
    → (cell_at new (undo_place u)).number ≡ (cell_at old (undo_place u)).number → (cell_at new (undo_place u)).live ≡ (cell_at old (undo_place u)).live
    → KeepsCommitted old new → IsUndo old seat u → IsUndo new seat u
undo-like old new seat (Wrote l number value) owner count life k h = (owner ∙ h.0, count ∙ h.1, λ live. k l.0 ∙ h.2 (sym life ∙ live))
undo-like old new seat (Made l) owner count life k h = (owner ∙ h.0, count ∙ h.1, life ∙ h.2)

-- an entry at another location
undo-apart : (old new : Heap) (seat : ℕ) (u : Undo Val) → cell_at new (undo_place u) ≡ cell_at old (undo_place u) → KeepsCommitted old new → IsUndo old seat u → IsUndo new seat u
undo-apart old new seat u same k h =
    undo-like old new seat u (ap (λ (c : Cell Val). c.owner) same) (ap (λ (c : Cell Val). c.number) same) (ap (λ (c : Cell Val). c.live) same) k h

none-named : (l : ℕ) (us : List (Undo Val)) → AllByRecursion (λ u. (l ≡ undo_place u) → ⊥) us → list_any (nat_eq l) (map undo_place us) ≡ false
none-named l [] all = refl
none-named l (u ∷ us) all = rw (ne_eqb l (undo_place u) all.0) (none-named l us all.1)

named-more : (us : List (Undo Val)) (u : Undo Val) → map undo_place (us ++ u ∷ []) ≡ map undo_place us ++ undo_place u ∷ []
named-more us u = map-append undo_place us (u ∷ [])

-- one more entry, for a cell that the seat takes
module _ (old new : Heap) (seat : ℕ) (undos : List (Undo Val)) (u : Undo Val) (cell : Cell Val) (b : BecomesAt old new (undo_place u) cell) (k : KeepsCommitted old new)
    (apart : IsOwnedBy seat (cell_at old (undo_place u)) → ⊥) (new_one : IsUndo new seat u) where
  away : (w : Undo Val) → IsUndo old seat w → (undo_place u ≡ undo_place w) → ⊥
  away w h same = apart (subst (λ (m : ℕ). IsOwnedBy seat (cell_at old m)) (sym same) (undo-owned old seat w h))

  entry-on : (w : Undo Val) → IsUndo old seat w → IsUndo new seat w
  entry-on w h = undo-apart old new seat w (b.others (undo_place w) (λ same. away w h (sym same))) k h

  pub undo-more : IsUndoLog old seat undos → IsUndoLog new seat (undos ++ u ∷ [])
  undo-more h = record {
    once =
        subst (IsDistinct nat_eq) (sym (named-more undos u))
        (IsDistinct-push nat_eq_equiv (map undo_place undos) (undo_place u) h.once
        (none-named (undo_place u) undos
        (each (IsUndo old seat) (λ w. (undo_place u ≡ undo_place w) → ⊥) away undos (recursion_from_All (IsUndo old seat) undos h.entries))));
    entries = All-push (IsUndo new seat) undos u (All-weaker (IsUndo old seat) (IsUndo new seat) entry-on undos h.entries) new_one;
    named = λ l own. subst (λ (xs : List ℕ). Contains xs l) (sym (named-more undos u)) (by l own (after old new (undo_place u) cell b l));
  }
    where
      by : (l : ℕ) → IsOwnedBy seat (cell_at new l) → ((l ≡ undo_place u) × (cell_at new l ≡ cell)) ⊎ (((l ≡ undo_place u) → ⊥) × (cell_at new l ≡ cell_at old l))
          → Contains (map undo_place undos ++ undo_place u ∷ []) l
      by l own (inl s) = subst (Contains (map undo_place undos ++ undo_place u ∷ [])) (sym s.0) (Contains-push (map undo_place undos) (undo_place u))
      by l own (inr s) = Contains-append_left (map undo_place undos) (undo_place u ∷ []) l (h.named l (subst (IsOwnedBy seat) s.1 own))

-- the last entry is undone
all-front : {X : Type 0} (P : X → Type 0) (xs : List X) (y : X) → AllByRecursion P (xs ++ y ∷ []) → AllByRecursion P xs × P y
all-front P [] y all = (tt, all.0)
all-front P (x ∷ xs) y all = let rest = all-front P xs y all.1 in ((all.0, rest.0), rest.1)

once-none : IsDistinct nat_eq (map undo_place [])
unfolding IsDistinct
once-none = tt

once-front : (ns : List ℕ) (m : ℕ) → IsDistinct nat_eq (ns ++ m ∷ []) → IsDistinct nat_eq ns × AllByRecursion (λ x. nat_eq x m ≡ false) ns
unfolding IsDistinct
once-front [] m h = (tt, tt)
once-front (x ∷ ns) m h =
    let rest = once-front ns m h.1 in
    let split = all-front (λ y. nat_eq x y ≡ false) ns m h.0 in
    ((split.0, rest.0), (split.1, rest.1))

module _ (old new : Heap) (seat : ℕ) (u : Undo Val) (cell : Cell Val) (b : BecomesAt old new (undo_place u) cell) (k : KeepsCommitted old new) (apart : IsOwnedBy seat cell → ⊥) where
  entries-less : (us : List (Undo Val)) → AllByRecursion (IsUndo old seat) us → AllByRecursion (λ x. nat_eq x (undo_place u) ≡ false) (map undo_place us) → AllByRecursion (IsUndo new seat) us
  entries-less [] all away = tt
  entries-less (w ∷ us) all away =
      (undo-apart old new seat w (b.others (undo_place w) (eqb-false (undo_place w) (undo_place u) away.0)) k all.0, entries-less us all.1 away.1)

  pub undo-less : (us : List (Undo Val)) → IsUndoLog old seat (us ++ u ∷ []) → IsUndoLog new seat us
  undo-less us h =
      let front = once-front (map undo_place us) (undo_place u) (subst (IsDistinct nat_eq) (named-more us u) h.once) in
      let had = all-front (IsUndo old seat) us u (recursion_from_All (IsUndo old seat) (us ++ u ∷ []) h.entries) in
      record {
        once = front.0;
        entries = All-from_recursion (IsUndo new seat) us (entries-less us had.0 front.1);
        named = λ l own. by l own (after old new (undo_place u) cell b l);
      }
    where
      last : (l : ℕ) → ((l ≡ undo_place u) → ⊥) → Contains (map undo_place us) l ⊎ (undo_place u ≡ l) → Contains (map undo_place us) l
      last l away (inl there) = there
      last l away (inr same) = absurd (away (sym same))

      by : (l : ℕ) → IsOwnedBy seat (cell_at new l) → ((l ≡ undo_place u) × (cell_at new l ≡ cell)) ⊎ (((l ≡ undo_place u) → ⊥) × (cell_at new l ≡ cell_at old l))
          → Contains (map undo_place us) l
      by l own (inl s) = absurd (apart (subst (IsOwnedBy seat) s.1 own))
      by l own (inr s) =
          last l s.0
          (Contains-push_cases (map undo_place us) (undo_place u) l
          (subst (λ (xs : List ℕ). Contains xs l) (named-more us u) (h.named l (subst (IsOwnedBy seat) s.1 own))))

-- Writes and allocations

module _ (old new : Heap) (seat : ℕ) (run : SeatRun) (o : Owes old seat run) (l : Loc) (v : Val) (n : ℕ) (p : LocalState) where
  pub first_write : IsCommitted old → ComesTo run (Act.Writes l.0 v) n p → IsCell old l.0 → IsFree (cell_at old l.0)
      → BecomesAt old new l.0 (taken_by seat v (cell_at old l.0)) → KeepsCommitted old new
      → Owes new seat (given_undo Val.Unit (Wrote l (cell_at old l.0).number (cell_at old l.0).value) run)
  first_write c comes there free b k =
      let was = cell_at old l.0 in
      let cell = taken_by seat v was in
      let apart : IsOwnedBy seat was → ⊥ = free-apart seat was free in
      let h = o.given n p comes.place in
      let set = set-given old new seat l.0 cell b k refl (λ own. absurd (apart own)) (λ m _ valid. taken-back seat m v was free valid) (λ _. omega arith) (λ _. refl) in
      record {
        given = λ m q place. given-on new seat run (Act.Writes l.0 v) n p Val.Unit run.reads (Tree.Held Val.Unit, set_at l.0 v p) comes refl (set run.reads p v o.notes refl h) m q place.ran place.used;
        undos =
            undo-more old new seat run.undos (Wrote l was.number was.value) cell b k apart (
              ap (λ (x : Cell Val). x.owner) b.there,
              ap (λ (x : Cell Val). x.number) b.there,
              λ live.
                  k l.0 ∙ c.free l.0 (sym (ap (λ (x : Cell Val). x.live) b.there) ∙ live) free,
            ) o.undos;
        notes = notes-on old new seat l.0 cell b k refl (λ own. absurd (apart own)) (λ m _ valid. taken-back seat m v was free valid) (λ _. omega arith) (λ _. refl) run.reads o.notes;
      }

  pub second_write : ComesTo run (Act.Writes l.0 v) n p → IsOwnedBy seat (cell_at old l.0)
      → BecomesAt old new l.0 (record (cell_at old l.0) { value = v }) → KeepsCommitted old new → Owes new seat (given_one Val.Unit run)
  second_write comes own b k =
      let was = cell_at old l.0 in
      let cell : Cell Val = record was { value = v } in
      let h = o.given n p comes.place in
      let set = set-given old new seat l.0 cell b k own (λ _ dead. dead) (λ m _ valid. value-back seat m v was valid) (λ _. omega arith) (λ _. refl) in
      record {
        given = λ m q place. given-on new seat run (Act.Writes l.0 v) n p Val.Unit run.reads (Tree.Held Val.Unit, set_at l.0 v p) comes refl (set run.reads p v o.notes refl h) m q place.ran place.used;
        undos = record {
          once = o.undos.once;
          entries = All-weaker (IsUndo old seat) (IsUndo new seat) entry run.undos o.undos.entries;
          named = λ m owned. o.undos.named m (sym (owner-same m) ∙ owned);
        };
        notes = notes-on old new seat l.0 cell b k own (λ _ dead. dead) (λ m _ valid. value-back seat m v was valid) (λ _. omega arith) (λ _. refl) run.reads o.notes;
      }
    where
      like : {X : Type 0} (f : Cell Val → X) → ((c : Cell Val) → f (record c { value = v }) ≡ f c) → (m : ℕ) → f (cell_at new m) ≡ f (cell_at old m)
      like f stays m = choose (after old new l.0 (record (cell_at old l.0) { value = v }) b m)
        where
          choose : ((m ≡ l.0) × (cell_at new m ≡ record (cell_at old l.0) { value = v })) ⊎ (((m ≡ l.0) → ⊥) × (cell_at new m ≡ cell_at old m)) → f (cell_at new m) ≡ f (cell_at old m)
          choose (inl s) = ap f s.1 ∙ stays (cell_at old l.0) ∙ ap (λ (x : ℕ). f (cell_at old x)) (sym s.0)
          choose (inr s) = ap f s.1

      owner-same : (m : ℕ) → (cell_at new m).owner ≡ (cell_at old m).owner
      owner-same m = like (λ c. c.owner) (λ c. refl) m

      entry : (u : Undo Val) → IsUndo old seat u → IsUndo new seat u
      entry u known =
          undo-like old new seat u (owner-same (undo_place u)) (like (λ c. c.number) (λ c. refl) (undo_place u)) (like (λ c. c.live) (λ c. refl) (undo_place u)) k known

unset-there : (seat : ℕ) (cell : Cell Val) (o : Option Val) → IsHeld seat cell o → (IsOwnedBy seat cell → ⊥) → o ≡ None
unset-there seat cell None held apart = refl
unset-there seat cell (Some w) held apart = absurd (apart held.0)

pub allocation : (old new : Heap) (seat : ℕ) (run : SeatRun) → Owes old seat run → (sort : Sort) (ty : TyNo) (l : Loc) (v : Val) (n : ℕ) (p : LocalState)
    → ComesTo run (Act.Allocates sort ty v) n p → (IsCell old l.0 → ⊥) → BecomesAt old new l.0 (made sort ty v (Some seat)) → KeepsCommitted old new
    → Owes new seat (given_undo (Val.Loc l.0) (Made l) run)
allocation old new seat run o sort ty l v n p comes none b k =
    let cell = made sort ty v (Some seat) in
    let apart : IsOwnedBy seat (cell_at old l.0) → ⊥ = λ own. none (owned_cell old seat l.0 own) in
    let h = o.given n p comes.place in
    let set =
    set-given old new seat l.0 cell b k refl (λ own. absurd (apart own)) (λ m there valid. absurd (none there)) (λ there. absurd (none there)) (λ there. absurd (none there))
    run.reads p v o.notes refl h in
    let fresh : IsOwnNewCell new seat (l.0, at p.sets l.0) = record {
      own = ap (λ (x : Cell Val). x.owner) b.there;
      dead = ap (λ (x : Cell Val). x.live) b.there;
      unset = unset-there seat (cell_at old l.0) (at p.sets l.0) (h.sets l.0) apart;
    } in
    record {
      given =
          λ m q place. given-on new seat run (Act.Allocates sort ty v) n p (Val.Loc l.0) run.reads (Tree.Held (Val.Loc l.0), made_at l.0 v p) comes refl
          (record { seen = set.seen; own = set.own; made = (fresh, set.made); sets = set.sets }) m q place.ran place.used;
      undos =
          undo-more old new seat run.undos (Made l) cell b k apart
          (ap (λ (x : Cell Val). x.owner) b.there, ap (λ (x : Cell Val). x.number) b.there, ap (λ (x : Cell Val). x.live) b.there) o.undos;
      notes =
          notes-on old new seat l.0 cell b k refl (λ own. absurd (apart own)) (λ m there valid. absurd (none there)) (λ there. absurd (none there)) (λ there. absurd (none there))
          run.reads o.notes;
    }

-- a place of a run that was given nothing
begun-footprint : (term : Tree) (n : ℕ) (p : LocalState) → HasUsed (begun_seat term) n p → SameFootprint (begun_with term []) p
begun-footprint term n p place = goes-footprint Side.Protected (begun_with term []) p n place.ran refl

pub begun-owes : (heap : Heap) (seat : ℕ) (term : Tree) → ((l : ℕ) → IsOwnedBy seat (cell_at heap l) → ⊥) → Owes heap seat (begun_seat term)
begun-owes heap seat term none = record {
  given = λ n p place. given-there heap seat [] (begun_with term []) p (begun-footprint term n p place) (record { seen = tt; own = tt; made = tt; sets = none });
  undos = record { once = once-none; entries = λ k d below. absurd (omega arith); named = λ l own. absurd (none l own) };
  notes = λ k d below. absurd (omega arith);
}
