-- A seat that has the turn may have turns on the shell, and may give what comes of them.
use Rattle.std.proofs.Common.{◌≡◌, ◌≢◌, ℕ, ◌<◌, ◌≤◌, ◌⊎◌, inl, inr, Bool, true, List, ◌++◌, All, length, map, set, Option, Some, None, IsSome, slice_get, sym, ap, ◌∙◌, subst, arith}
use Rattle.std.specs.List.{range_with_len}
use Rattle.std.proofs.lemmas.List.{length-set, get_or-set_same, get_or-set_other}
use Rattle.std.proofs.lemmas.List.FromFn.{get_or-map-range_with_len, length-map-range_with_len}
use Rattle.std.proofs.lemmas.Option.{slice_get-get_or}
use Rattle.ame_term.specs.Tree.{Val}
use Rattle.ame_rows.specs.declared.notes.ReadNote.{ReadNote}
use Rattle.ame_rows.specs.MemoryView.{Log}
use Rattle.ame_protocol.proofs.Row.CellLemmas.{which}
use Rattle.ame_protocol.specs.declared.types.Limits.{Limits}
use Rattle.ame_protocol.specs.declared.types.Task.{Task}
use Rattle.ame_protocol.specs.Engine.Parts.{Parts}
use Rattle.ame_protocol.proofs.Engine.ShownMemoryLemmas.{row-shown}
use Rattle.ame_protocol.specs.declared.stop.Stop.{Stop}
use Rattle.ame_engine.specs.Core.{Core}
use Rattle.ame_engine.specs.Seen.{parts_of}
use Rattle.ame_engine.specs.Whole.{AreLimits}
use Rattle.ame_io.specs.Lines.{lines}
use Rattle.ame_shell.specs.declared.work.Work.{Work}
use Rattle.ame_shell.specs.Ready.{IsPrepared}
use Rattle.ame_shell.specs.Work.{Fits}
use Rattle.ame_shell.proofs.ReadyLemmas.{prepared-fits}
use Rattle.ame_shell.specs.Shell.{ShellView, GoesTo}
use Rattle.ame_shell.specs.Turned.{IsShellInOrder, LeavesInOrder}
use Rattle.ame_worker.specs.Rows.{Kept, SeatRow, nothing_kept, kept_at, row_of, rows_in}
use Rattle.ame_worker.specs.Shared.{OpenedView, opening_of, keeping, IsShared}
use Rattle.ame_worker.specs.Slots.{Slot, SlotsStay, slot_at}
use Rattle.ame_worker.proofs.StayLemmas.{map-set}
use Rattle.ame_worker.specs.Turns.{TurnView, AreTurnsBetween, AreOfSeat}
use Rattle.ame_worker.proofs.TurnLemmas.{turns-append, turns-stop, others-stay, of-seat}
use Rattle.ame_machine.specs.Meaning.{Meaning}

pub some-is : {A : Type 0} (a b : A) → Some a ≡ Some b → a ≡ b
some-is a b e = cc

-- no more was sent than there is
pub sent-within : (stop : Option Stop) (sent faults now : ℕ) (text : List ℕ) → GoesTo stop sent text faults now → sent ≤ length text
sent-within (Some Stop.WriteFault) sent faults now text goes = let short = goes.0 in omega (arith, short)
sent-within None sent faults now text goes = let all = goes.0 in omega (arith, all)
sent-within (Some _) sent faults now text goes = let all = goes.0 in omega (arith, all)

module _ {C V M : Type 0} where
  -- the rows of all seats
  pub rows-there : (core : Core C V M) (places : List (Kept M)) (seat : ℕ) → seat < core.limits.seats
      → slice_get (rows_in core places) seat ≡ Some (row_of core seat (kept_at places seat))
  rows-there core places seat within =
      let f = λ (n : ℕ). row_of core n (kept_at places n) in
      let d = f seat in
      slice_get-get_or (rows_in core places) seat d (subst (λ (n : ℕ). seat < n) (sym (length-map-range_with_len f 0 core.limits.seats)) within)
      ∙ ap (λ (r : SeatRow M). Some r) (get_or-map-range_with_len f 0 core.limits.seats seat seat d within (omega arith))

module _ {M : Type 0} where
  -- what is kept for one seat is what was kept for it last, and for the others what was kept before
  kept-here : (places : List (Kept M)) (seat : ℕ) (kept : Kept M) → seat < length places → kept_at (set places seat kept) seat ≡ kept
  kept-here places seat kept within = get_or-set_same places seat kept nothing_kept within

  kept-else : (places : List (Kept M)) (seat other : ℕ) (kept : Kept M) → other ≢ seat → kept_at (set places seat kept) other ≡ kept_at places other
  kept-else places seat other kept apart = get_or-set_other places seat other kept nothing_kept apart

-- rows with the same task, reads and work in flight that are marked alike are the same
pub row-same : {M : Type 0} (a b : SeatRow M) → a.task ≡ b.task → a.reads ≡ b.reads → a.hand ≡ b.hand → a.marked ≡ b.marked → a ≡ b
row-same {M} a b task reads hand marked =
    ap (λ (t : Task). let it : SeatRow M = record { task = t; reads = a.reads; hand = a.hand; marked = a.marked } in it) task
    ∙ ap (λ (rs : List ReadNote). let it : SeatRow M = record { task = b.task; reads = rs; hand = a.hand; marked = a.marked } in it) reads
    ∙ ap (λ (w : Work M). let it : SeatRow M = record { task = b.task; reads = b.reads; hand = w; marked = a.marked } in it) hand
    ∙ ap (λ (m : Bool). let it : SeatRow M = record { task = b.task; reads = b.reads; hand = b.hand; marked = m } in it) marked

module _ {C V M : Type 0} (meaning : Meaning C V M) where
  abbrev parts : Core C V M → Parts
  parts core = parts_of meaning core

  -- what the engine has of a seat stays if its slot does
  row-stays : (old new : Core C V M) (other : ℕ) (was now : Kept M) → slot_at (parts new) other ≡ slot_at (parts old) other → now ≡ was
      → row_of new other now ≡ row_of old other was
  row-stays old new other was now slot kept =
      row-same (row_of new other now) (row_of old other was) (ap (λ (s : Slot). s.task) slot)
      (ap (λ (n : Log Val). n.reads) (sym (row-shown (meaning.value_of new.code) new.memory.rows other))
      ∙ ap (λ (s : Slot). s.notes.reads) slot
      ∙ ap (λ (n : Log Val). n.reads) (row-shown (meaning.value_of old.code) old.memory.rows other))
      (ap (λ (x : Kept M). x.hand) kept) (ap (λ (x : Kept M). x.marked) kept)

  -- The effect of a seat's own turns on a shell, and what it keeps there.
  pub record HasPlayed (code : C) (seat : ℕ) (old : Work M) (taken : ShellView C V M) (places : List (Kept M)) (turns : List (TurnView C V M))
      (given : ShellView C V M) (kept : List (Kept M)) (now : List (TurnView C V M)) (new : Work M) (led : List (TurnView C V M)) : Type 0 where
    pub joined : now ≡ turns ++ led
    pub follows : AreTurnsBetween meaning taken led given
    pub each : AreOfSeat meaning code taken.core.limits.slice seat old led new
    pub leaves : LeavesInOrder meaning code seat taken given new
    pub keeping_it : kept ≡ set places seat (keeping given.core new)

  module _ (opened : OpenedView C V M) (old : ShellView C V M) (places : List (Kept M)) (turns : List (TurnView C V M)) (rows : List (SeatRow M))
      (told : List (TurnView C V M)) (was : IsShared meaning opened old places turns rows told) where
    -- the shell is in order
    pub in-order : (code : C) → opened.made.core.code ≡ code → AreLimits opened.made.core.limits
        → (meaning.signature code).devices ≤ length opened.made.ends.told → IsShellInOrder meaning code old
    in-order code of_code ranges enough =
        let same : old.core.code ≡ code = was.shell.opened.code ∙ of_code in
        record {
          same = sym same;
          limits = subst AreLimits (sym was.shell.opened.limits) ranges;
          enough =
              let heard = was.shell.opened.heard.count in
              let few = subst (λ (c : C). (meaning.signature c).devices ≤ length opened.made.ends.told) (sym same) enough in
              omega (arith, heard, few);
          within =
              sent-within old.core.stop old.sent (opening_of opened).ends.write_faults old.ends.write_faults (lines old.core.output) was.shell.sends.goes;
        }

    module _ (seat : ℕ) (within : seat < old.core.limits.seats) where
      -- a seat's row says what was kept for it
      pub found-kept : (row : SeatRow M) → slice_get rows seat ≡ Some row → row ≡ row_of old.core seat (kept_at places seat)
      found-kept row found =
          some-is row (row_of old.core seat (kept_at places seat))
          (sym found ∙ ap (λ (all : List (SeatRow M)). slice_get all seat) (sym was.rows) ∙ rows-there old.core places seat within)

      -- its work in flight fits
      pub hand-fits : (row : SeatRow M) → slice_get rows seat ≡ Some row → (hand : Work M)
          → IsPrepared meaning.is_machine meaning.stage old.core.code old.core.limits.slice row.hand hand → Fits meaning old.core seat hand
      hand-fits row found hand is =
          prepared-fits meaning old.core seat (kept_at places seat).hand hand (was.fits seat within)
          (subst (λ (w : Work M). IsPrepared meaning.is_machine meaning.stage old.core.code old.core.limits.slice w hand)
          (ap (λ (r : SeatRow M). r.hand) (found-kept row found)) is)

      -- The shell that is given once the seat has had its turns
      module _ (code : C) (work hand : Work M) (new : ShellView C V M) (after : List (Kept M)) (now led : List (TurnView C V M))
          (played : HasPlayed code seat work old places turns new after now hand led) where
        abbrev kept : Kept M
        kept = keeping new.core hand

        abbrev given : List (Kept M)
        given = set places seat kept

        pub its-turns : All (λ t. t.seat ≡ seat) led
        its-turns = of-seat meaning code old.core.limits.slice seat led work hand played.each

        stay : SlotsStay seat (parts old.core) (parts new.core)
        stay = others-stay meaning code old.core.limits.slice seat old new led played.follows its-turns

        seats : new.core.limits.seats ≡ old.core.limits.seats
        seats = ap (λ (l : Limits). l.seats) played.leaves.limits

        there : seat < length places
        there = let count = was.count in omega (arith, count, within)

        fits-all : (other : ℕ) → other < new.core.limits.seats → Fits meaning new.core other (kept_at given other).hand
        fits-all other in_range = by (which other seat)
          where
            by : (other ≡ seat) ⊎ ((other ≡ seat) → ⊥) → Fits meaning new.core other (kept_at given other).hand
            by (inl same) =
                subst (λ (n : ℕ). Fits meaning new.core n (kept_at given n).hand) (sym same)
                (subst (λ (x : Kept M). Fits meaning new.core seat x.hand) (sym (kept-here places seat kept there)) played.leaves.may.fits)
            by (inr apart) =
                subst (λ (x : Kept M). Fits meaning new.core other x.hand) (sym (kept-else places seat other kept apart))
                (played.leaves.others other (kept_at places other).hand apart (was.fits other (let s = seats in omega (arith, s, in_range))))

        marks-all : (other : ℕ) → (kept_at given other).marked ≡ true → IsSome new.core.stop
        marks-all other marked = by (which other seat)
          where
            by : (other ≡ seat) ⊎ ((other ≡ seat) → ⊥) → IsSome new.core.stop
            by (inl same) =
                ap (λ (x : Kept M). x.marked) (sym (ap (kept_at given) same ∙ kept-here places seat kept there)) ∙ marked
            by (inr apart) =
                turns-stop meaning old new led played.follows
                (was.marks other (ap (λ (x : Kept M). x.marked) (sym (kept-else places seat other kept apart)) ∙ marked))

        rows-set : rows_in new.core given ≡ set rows seat (row_of new.core seat kept)
        rows-set =
            let f = λ (n : ℕ). row_of new.core n (kept_at given n) in
            let g = λ (n : ℕ). row_of old.core n (kept_at places n) in
            ap (λ (n : ℕ). map f (range_with_len 0 n)) seats
            ∙ map-set f g seat
            (λ other apart. row-stays old.core new.core other (kept_at places other) (kept_at given other) (stay other apart) (kept-else places seat other kept apart))
            0 old.core.limits.seats seat (omega arith)
            ∙ ap (λ (r : SeatRow M). set (rows_in old.core places) seat r) (ap (row_of new.core seat) (kept-here places seat kept there))
            ∙ ap (λ (all : List (SeatRow M)). set all seat (row_of new.core seat kept)) was.rows

        set-on : IsShared meaning opened new given (turns ++ led) (set rows seat (row_of new.core seat kept)) (told ++ led)
        set-on = record {
          shell = played.leaves.keeps (opening_of opened) was.shell;
          count = length-set places seat kept ∙ was.count ∙ sym seats;
          fits = fits-all;
          marks = marks-all;
          rows = rows-set;
          led = turns-append meaning opened.first old new turns led was.led played.follows;
          recorded = ap (λ (ts : List (TurnView C V M)). ts ++ led) was.recorded;
        }

        pub shared-on : IsShared meaning opened new after now (set rows seat (row_of new.core seat kept)) (told ++ led)
        shared-on =
            subst (λ (ps : List (Kept M)). IsShared meaning opened new ps now (set rows seat (row_of new.core seat kept)) (told ++ led)) (sym played.keeping_it)
            (subst (λ (ts : List (TurnView C V M)). IsShared meaning opened new given ts (set rows seat (row_of new.core seat kept)) (told ++ led)) (sym played.joined)
            set-on)
