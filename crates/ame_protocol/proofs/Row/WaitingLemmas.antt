-- Runs that wait.
use Rattle.std.proofs.Common.{◌≡◌, ℕ, ◌+◌, ◌<◌, ◌≤◌, ◌⊎◌, inl, inr, true, zero, suc, get_or, List, [], ◌∷◌, length, Option, Some, None, MatchOption, Contains, sym, ap, ◌∙◌, subst, arith}
use Rattle.std.proofs.lemmas.List.{get_or-map, length-map}
use Rattle.std.proofs.lemmas.List.Elements.{All-contains, All-weaker, All-map}
use Rattle.ame_term.specs.Tree.{Val}
use Rattle.ame_term.specs.Signature.{Signature}
use Rattle.ame_term.specs.Frame.{Side}
use Rattle.ame_term.specs.Context.{focus}
use Rattle.ame_term.specs.Maps.{at}
use Rattle.ame_term.specs.State.{State}
use Rattle.ame_term.specs.declared.types.Sort.{Sort}
use Rattle.ame_journal.specs.declared.entry.Entry.{Entry}
use Rattle.ame_journal.specs.Replayed.{Replayed, side_at, is_false_condition}
use Rattle.ame_laws.specs.Typed.StoreTyping.{StoreTyping}
use Rattle.ame_store.specs.declared.cell.Cell.{Cell}
use Rattle.ame_store.specs.Cells.{IsOwnedBy, IsDead}
use Rattle.ame_rows.specs.declared.notes.ReadNote.{ReadNote}
use Rattle.ame_machine.specs.Run.Local.{LocalState}
use Rattle.ame_machine.specs.Run.Told.{TellsRun}
use Rattle.ame_protocol.specs.Row.Heap.{Heap, no_cell, cell_at, IsCell, IsLive, IsCommitted, ShowsStore}
use Rattle.ame_protocol.specs.Row.SeatRun.{SeatRun, HasUsed, IsValidNote, AreValid}
use Rattle.ame_protocol.specs.Row.Given.{IsLogged, IsOwnNewCell}
use Rattle.ame_protocol.specs.Row.Owes.{IsNote, Owes}
use Rattle.ame_protocol.specs.Row.Framed.{IsChangedByOthers, IsFramedAt, IsFramed}
use Rattle.ame_protocol.specs.Row.Changed.{BecomesAt, KeepsCommitted}
use Rattle.ame_protocol.specs.Row.Scoped.{IsScoped}
use Rattle.ame_protocol.specs.Row.Waiting.{IsGone, read_places, IsWaiting}
use Rattle.ame_protocol.proofs.Row.CellLemmas.{each, live_or_dead, dead-apart, after}
use Rattle.ame_protocol.proofs.Row.ScopedLemmas.{owned-reached}

-- a read that is logged is of a place that is watched
place-there : (reads : List ReadNote) (note : ReadNote) → Contains reads note → Contains (read_places reads) note.loc.0
place-there reads note c =
    let below : c.0 < length reads = c.1 in
    let same : length (read_places reads) ≡ length reads = length-map reads (λ (x : ReadNote). x.loc.0) in
    let within : c.0 < length (read_places reads) = omega arith in
    (c.0, within, get_or-map (λ (x : ReadNote). x.loc.0) reads c.0 note note.loc.0 below ∙ ap (λ (x : ReadNote). x.loc.0) c.2)

-- a valid row that has failed

module _ (signature : Signature) (types : StoreTyping) (heap : Heap) (seat : ℕ) (run : SeatRun) (s : State) (n : ℕ) (p : LocalState) (o : Owes heap seat run)
    (valid : AreValid heap seat run.reads) (scoped : IsScoped signature types heap seat run) (place : HasUsed run n p) where
  seen-waits : (e : ℕ × Val) → IsLogged heap seat run.reads e → Contains (read_places run.reads) e.0 × (heap.committed e.0 ≡ Some e.1)
  seen-waits e h = (
    subst (Contains (read_places run.reads)) h.place (place-there run.reads h.note h.logged),
    h.given (All-contains (IsValidNote heap seat) run.reads h.note valid h.logged),
  )

  made-waits : (e : ℕ × Option Val) → IsOwnNewCell heap seat e → IsGone seat (cell_at heap e.0) × (e.1 ≡ None)
  made-waits e h = (record { dead = h.dead; over = by (owned-reached signature types heap seat run s n p place o.given valid scoped e.0 h.own) }, h.unset)
    where
      by : IsLive (cell_at heap e.0) ⊎ ((cell_at heap e.0).number ≡ 1) → (2 ≤ (cell_at heap e.0).number) ⊎ (IsOwnedBy seat (cell_at heap e.0) × ((cell_at heap e.0).number ≡ 1))
      by (inl live) = absurd (dead-apart (cell_at heap e.0) h.dead live)
      by (inr one) = inr (h.own, one)

  pub waits : is_false_condition (focus p.term) ≡ true → IsWaiting heap seat (read_places run.reads) run n p
  waits fails =
      let h = o.given n p place in
      record {
        place = place;
        fails = fails;
        seen = each (IsLogged heap seat run.reads) (λ e. Contains (read_places run.reads) e.0 × (heap.committed e.0 ≡ Some e.1)) seen-waits p.seen h.seen;
        own = h.own;
        made = each (IsOwnNewCell heap seat) (λ e. IsGone seat (cell_at heap e.0) × (e.1 ≡ None)) made-waits p.made h.made;
        sorts =
            All-map (λ l. IsCell heap l × ((cell_at heap l).sort ≡ Sort.Protected)) (λ (x : ReadNote). x.loc.0) run.reads
            (All-weaker (IsNote heap) (λ x. IsCell heap x.loc.0 × ((cell_at heap x.loc.0).sort ≡ Sort.Protected)) (λ x k. (k.there, k.sort)) run.reads o.notes);
      }

-- what is gone stays so

gone-changed : (seat : ℕ) (old new : Cell Val) → IsChangedByOthers seat old new → IsGone seat old → IsGone seat new
gone-changed seat old new c h = record { dead = by (live_or_dead new); over = inl (rises new.owner c.number high) }
  where
    many : (2 ≤ old.number) ⊎ (IsOwnedBy seat old × (old.number ≡ 1)) → 2 ≤ old.number
    many (inl two) = two
    many (inr x) = absurd (c.before x.0)

    high : 2 ≤ old.number
    high = many h.over

    rises : (o : Option ℕ) → MatchOption o (old.number < new.number) (λ _. old.number ≤ new.number) → 2 ≤ old.number → 2 ≤ new.number
    rises None grew two = omega arith
    rises (Some owner) grew two = omega arith

    revived : IsLive old ⊎ (old.number ≡ 1) → ⊥
    revived (inl live) = dead-apart old h.dead live
    revived (inr one) = let two : 2 ≤ old.number = high in omega arith

    by : IsLive new ⊎ IsDead new → IsDead new
    by (inl live) = absurd (revived (c.revives live))
    by (inr dead) = dead

gone-cell : (heap : Heap) (seat l : ℕ) → IsGone seat (cell_at heap l) → IsCell heap l
gone-cell heap seat l h = within heap.cells l h.over
  where
    within : (cells : List (Cell Val)) (l : ℕ) → (2 ≤ (get_or cells l no_cell).number) ⊎ (IsOwnedBy seat (get_or cells l no_cell) × ((get_or cells l no_cell).number ≡ 1)) → l < length cells
    within [] l (inl two) = absurd (let two : 2 ≤ 0 = two in omega arith)
    within [] l (inr x) = absurd (let one : 0 ≡ 1 = x.1 in omega arith)
    within (c ∷ cells) zero x = omega arith
    within (c ∷ cells) (suc l) x = let rest = within cells l x in omega arith

module _ (seat : ℕ) (old new : Heap) (f : IsFramed seat old new) where
  pub gone-kept : (l : ℕ) → IsGone seat (cell_at old l) → IsGone seat (cell_at new l)
  gone-kept l h = by (f.places l)
    where
      by : IsFramedAt seat old new l → IsGone seat (cell_at new l)
      by (IsFramedAt.stays same committed) = subst (IsGone seat) (sym same) h
      by (IsFramedAt.changed c) = gone-changed seat (cell_at old l) (cell_at new l) c h
      by (IsFramedAt.born none apart) = absurd (none (gone-cell old seat l h))

  sort-kept : (l : ℕ) → IsCell old l × ((cell_at old l).sort ≡ Sort.Protected) → IsCell new l × ((cell_at new l).sort ≡ Sort.Protected)
  sort-kept l h = by (f.places l)
    where
      longer : IsCell new l
      longer = let there : IsCell old l = h.0 in let more = f.longer in omega arith

      by : IsFramedAt seat old new l → IsCell new l × ((cell_at new l).sort ≡ Sort.Protected)
      by (IsFramedAt.stays same committed) = (longer, ap (λ (c : Cell Val). c.sort) same ∙ h.1)
      by (IsFramedAt.changed c) = (longer, c.sort ∙ h.1)
      by (IsFramedAt.born none apart) = absurd (none h.0)

  pub waits-on : (watched : List ℕ) (run : SeatRun) (n : ℕ) (p : LocalState) → ((l : ℕ) → Contains watched l → new.committed l ≡ old.committed l)
      → IsWaiting old seat watched run n p → IsWaiting new seat watched run n p
  waits-on watched run n p k h = record {
    place = h.place;
    fails = h.fails;
    seen =
        each (λ e. Contains watched e.0 × (old.committed e.0 ≡ Some e.1)) (λ e. Contains watched e.0 × (new.committed e.0 ≡ Some e.1))
        (λ e x. (x.0, k e.0 x.0 ∙ x.1)) p.seen h.seen;
    own = h.own;
    made =
        each (λ e. IsGone seat (cell_at old e.0) × (e.1 ≡ None)) (λ e. IsGone seat (cell_at new e.0) × (e.1 ≡ None)) (λ e x. (gone-kept e.0 x.0, x.1)) p.made h.made;
    sorts =
        All-weaker (λ l. IsCell old l × ((cell_at old l).sort ≡ Sort.Protected)) (λ l. IsCell new l × ((cell_at new l).sort ≡ Sort.Protected)) sort-kept watched h.sorts;
  }

-- the seat undoes what it did to one of its cells
module _ (old new : Heap) (seat l : ℕ) (cell : Cell Val) (b : BecomesAt old new l cell) (k : KeepsCommitted old new) (number : cell.number ≡ (cell_at old l).number + 1)
    (sort : cell.sort ≡ (cell_at old l).sort) (live : cell.live ≡ (cell_at old l).live) where
  gone-undone : (m : ℕ) → IsGone seat (cell_at old m) → IsGone seat (cell_at new m)
  gone-undone m h = by (after old new l cell b m)
    where
      count : (2 ≤ (cell_at old l).number) ⊎ (IsOwnedBy seat (cell_at old l) × ((cell_at old l).number ≡ 1)) → 2 ≤ cell.number
      count (inl two) = let grown = number in omega arith
      count (inr x) = let grown = number in let one = x.1 in omega arith

      by : ((m ≡ l) × (cell_at new m ≡ cell)) ⊎ (((m ≡ l) → ⊥) × (cell_at new m ≡ cell_at old m)) → IsGone seat (cell_at new m)
      by (inl s) =
          let was : IsGone seat (cell_at old l) = subst (λ (x : ℕ). IsGone seat (cell_at old x)) s.0 h in
          subst (IsGone seat) (sym s.1) (record { dead = live ∙ was.dead; over = inl (count was.over) })
      by (inr s) = subst (IsGone seat) (sym s.1) h

  sort-undone : (m : ℕ) → IsCell old m × ((cell_at old m).sort ≡ Sort.Protected) → IsCell new m × ((cell_at new m).sort ≡ Sort.Protected)
  sort-undone m h = (let there : IsCell old m = h.0 in let more = b.longer in omega arith, by (after old new l cell b m))
    where
      by : ((m ≡ l) × (cell_at new m ≡ cell)) ⊎ (((m ≡ l) → ⊥) × (cell_at new m ≡ cell_at old m)) → (cell_at new m).sort ≡ Sort.Protected
      by (inl s) = ap (λ (c : Cell Val). c.sort) s.1 ∙ sort ∙ ap (λ (x : ℕ). (cell_at old x).sort) (sym s.0) ∙ h.1
      by (inr s) = ap (λ (c : Cell Val). c.sort) s.1 ∙ h.1

  pub waits-undone : (watched : List ℕ) (run : SeatRun) (n : ℕ) (p : LocalState) → IsWaiting old seat watched run n p → IsWaiting new seat watched run n p
  waits-undone watched run n p h = record {
    place = h.place;
    fails = h.fails;
    seen =
        each (λ e. Contains watched e.0 × (old.committed e.0 ≡ Some e.1)) (λ e. Contains watched e.0 × (new.committed e.0 ≡ Some e.1))
        (λ e x. (x.0, k e.0 ∙ x.1)) p.seen h.seen;
    own = h.own;
    made =
        each (λ e. IsGone seat (cell_at old e.0) × (e.1 ≡ None)) (λ e. IsGone seat (cell_at new e.0) × (e.1 ≡ None)) (λ e x. (gone-undone e.0 x.0, x.1)) p.made h.made;
    sorts =
        All-weaker (λ m. IsCell old m × ((cell_at old m).sort ≡ Sort.Protected)) (λ m. IsCell new m × ((cell_at new m).sort ≡ Sort.Protected)) sort-undone watched h.sorts;
  }

-- once the seat owns nothing, what is gone is gone for each seat
pub waits-home : (heap : Heap) (seat other : ℕ) (watched : List ℕ) (run : SeatRun) (n : ℕ) (p : LocalState) → ((l : ℕ) → IsOwnedBy seat (cell_at heap l) → ⊥)
    → IsWaiting heap seat watched run n p → IsWaiting heap other watched run n p
waits-home heap seat other watched run n p none h = record {
  place = h.place;
  fails = h.fails;
  seen = h.seen;
  own = h.own;
  made = each (λ e. IsGone seat (cell_at heap e.0) × (e.1 ≡ None)) (λ e. IsGone other (cell_at heap e.0) × (e.1 ≡ None)) (λ e x. (gone e.0 x.0, x.1)) p.made h.made;
  sorts = h.sorts;
}
  where
    gone : (l : ℕ) → IsGone seat (cell_at heap l) → IsGone other (cell_at heap l)
    gone l x = record { dead = x.dead; over = by x.over }
      where
        by : (2 ≤ (cell_at heap l).number) ⊎ (IsOwnedBy seat (cell_at heap l) × ((cell_at heap l).number ≡ 1))
            → (2 ≤ (cell_at heap l).number) ⊎ (IsOwnedBy other (cell_at heap l) × ((cell_at heap l).number ≡ 1))
        by (inl two) = inl two
        by (inr y) = absurd (none l y.0)

-- An entry records it in the state that is there.
pub waiting-told : (heap : Heap) (seat : ℕ) (watched : List ℕ) (run : SeatRun) (r : Replayed) (entry : Entry) (n : ℕ) (p : LocalState) → IsCommitted heap → ShowsStore heap r.state.store
    → IsWaiting heap seat watched run n p → r.state.active ≡ None → side_at entry.number r.state ≡ Side.Protected → at r.state.members entry.number ≡ Some run.start
    → entry.fresh ≡ p.fresh → entry.answer ≡ p.answer → TellsRun r entry Side.Protected n p
waiting-told heap seat watched run r entry n p c shows h idle stands member fresh answer = record {
  idle = idle;
  stands = stands;
  term = run.start;
  member = member;
  inputs = run.inputs;
  ran = h.place.ran;
  agrees = record {
    seen =
        each (λ e. Contains watched e.0 × (heap.committed e.0 ≡ Some e.1)) (λ e. at r.state.store e.0 ≡ Some e.1) (λ e x. sym (shows e.0) ∙ x.1) p.seen h.seen;
    own = h.own;
    made =
        each (λ e. IsGone seat (cell_at heap e.0) × (e.1 ≡ None)) (λ e. (at r.state.store e.0 ≡ None) × (e.1 ≡ None))
        (λ e x. (sym (shows e.0) ∙ c.dead e.0 x.0.dead, x.1)) p.made h.made;
  };
  fresh = fresh;
  answer = answer;
}

pub not-written : (heap : Heap) (seat : ℕ) (watched : List ℕ) (run : SeatRun) (n : ℕ) (p : LocalState) (l : ℕ) → IsWaiting heap seat watched run n p
    → (cell_at heap l).sort ≡ Sort.Unprotected → Contains watched l → ⊥
not-written heap seat watched run n p l h sort there =
    let its = All-contains (λ m. IsCell heap m × ((cell_at heap m).sort ≡ Sort.Protected)) watched l h.sorts there in
    let clash : Sort.Protected ≡ Sort.Unprotected = sym its.1 ∙ sort in
    cc

pub not-born : (heap : Heap) (seat : ℕ) (watched : List ℕ) (run : SeatRun) (n : ℕ) (p : LocalState) (l : ℕ) → IsWaiting heap seat watched run n p
    → (IsCell heap l → ⊥) → Contains watched l → ⊥
not-born heap seat watched run n p l h none there =
    none (All-contains (λ m. IsCell heap m × ((cell_at heap m).sort ≡ Sort.Protected)) watched l h.sorts there).0
