-- The knowledge of a seat that gave the turn.
use Rattle.ame_term.specs.Signature.{Signature}
use Rattle.std.proofs.Common.{◌≡◌, ℕ, ◌<◌, List, ◌++◌, set, Option, Some, slice_get, slice_index_or, sym, ap, ◌∙◌, subst, arith}
use Rattle.std.specs.Prelude.{IsSomeAnd}
use Rattle.std.proofs.lemmas.List.{get_or-set_same, append_cancel_left}
use Rattle.std.proofs.lemmas.Option.{slice_get_within}
use Rattle.ame_machine.specs.Meaning.{Meaning}
use Rattle.ame_protocol.specs.declared.types.Limits.{Limits}
use Rattle.ame_engine.specs.Whole.{AreLimits}
use Rattle.ame_shell.specs.declared.work.Work.{Work}
use Rattle.ame_shell.specs.Ready.{CanBePrepared, IsPrepared}
use Rattle.ame_shell.specs.Shell.{ShellView}
use Rattle.ame_shell.specs.Turned.{IsShellInOrder, MayTurn}
use Rattle.ame_shell.specs.Work.{stage_at, Fits}
use Rattle.ame_baton.specs.declared.view.Knows.{Knows}
use Rattle.ame_baton.specs.Seats.{Takes, MayGive, Gives}
use Rattle.ame_baton.specs.Keeping.{KeepsSeat, FindsAsLeft, HasGiven}
use Rattle.ame_baton.proofs.Keeping.{keeps_both, take_finds, give_leaves}
use Rattle.ame_baton.proofs.Lookups.{get_set_here}
use Rattle.ame_worker.specs.declared.gate.Point.{Point}
use Rattle.ame_worker.specs.Led.{HasLed, HasHadTurn}
use Rattle.ame_worker.specs.Leads.{RestsAtStop}
use Rattle.ame_worker.specs.Rows.{Kept, SeatRow, nothing_kept, row_of}
use Rattle.ame_worker.specs.Shared.{OpenedView, keeping, IsShared}
use Rattle.ame_worker.specs.Turns.{TurnView, AreTurnsBetween, AreOfSeat, maker, member_of_turn}
use Rattle.ame_worker.specs.Workers.{IsSeated, IsReadyToTurn, IsThrough}
use Rattle.ame_worker.proofs.HandLemmas.{HasPlayed, some-is, rows-there, in-order, hand-fits, shared-on, its-turns}
use Rattle.ame_worker.proofs.TurnLemmas.{turns-split, slot-stays}
use Rattle.ame_worker.proofs.ThroughLemmas.{point-stopped, has-stopped}
use Rattle.ame_worker.proofs.WorkLemmas.{prepared-none}

-- what is so of the fixed part that is known
pub some-and : {F : Type 0} (P : F → Type 0) (o : Option F) (f : F) → o ≡ Some f → IsSomeAnd o P → P f
some-and {F} P o f e h = subst (λ (x : Option F). IsSomeAnd x P) e h

-- a seat stays one of the shell
pub still-seated : {C V M : Type 0} (signature : C → Signature) (code : C) (limits : Limits) (before after : Knows (OpenedView C V M) (SeatRow M) (TurnView C V M))
    → KeepsSeat before after → IsSeated signature code limits before → IsSeated signature code limits after
still-seated signature code limits before after keeps s = record {
  opened = s.opened;
  is = keeps.fixed ∙ s.is;
  of_code = s.of_code;
  of_limits = s.of_limits;
  ranges = s.ranges;
  enough = s.enough;
  number = subst (λ (n : ℕ). n < limits.seats) (sym keeps.number) s.number;
  seats = keeps.seats ∙ s.seats;
}

module _ {C V M : Type 0} (meaning : Meaning C V M) {S : Type 0} (shown_of : S → ShellView C V M) (places_of : S → List (Kept M))
    (turns_of : S → List (TurnView C V M)) where
  abbrev Stands : S → OpenedView C V M → List (SeatRow M) → List (TurnView C V M) → Type 0
  Stands s opened rows told = IsShared meaning opened (shown_of s) (places_of s) (turns_of s) rows told

  -- what is given by a seat that knows the same
  pub gives-as : (leaves : SeatRow M → Type 0) (k l : Knows (OpenedView C V M) (SeatRow M) (TurnView C V M)) (given : S)
      (after : Knows (OpenedView C V M) (SeatRow M) (TurnView C V M)) → k ≡ l → Gives Stands maker leaves k given after
      → Gives Stands maker leaves l given after
  gives-as leaves k l given after same gives =
      subst (λ (x : Knows (OpenedView C V M) (SeatRow M) (TurnView C V M)). Gives Stands maker leaves x given after) same gives

  pub may-as : (leaves : SeatRow M → Type 0) (k l : Knows (OpenedView C V M) (SeatRow M) (TurnView C V M)) (given : S) → k ≡ l
      → MayGive Stands maker leaves l given → MayGive Stands maker leaves k given
  may-as leaves k l given same may =
      subst (λ (x : Knows (OpenedView C V M) (SeatRow M) (TurnView C V M)). MayGive Stands maker leaves x given) (sym same) may

  -- A seat took the turn
  module _ (code : C) (limits : Limits) (before holding : Knows (OpenedView C V M) (SeatRow M) (TurnView C V M)) (taken : S)
      (seated : IsSeated meaning.signature code limits before) (takes : Takes Stands maker before taken holding) where
    finds : FindsAsLeft maker before holding
    finds = take_finds Stands maker before holding taken takes

    pub was : IsShared meaning seated.opened (shown_of taken) (places_of taken) (turns_of taken) holding.rows holding.seen
    was =
        some-and (λ (o : OpenedView C V M). IsShared meaning o (shown_of taken) (places_of taken) (turns_of taken) holding.rows holding.seen)
        before.fixed seated.opened seated.is takes.stands

    -- the limits are those of the shell
    pub same-limits : (shown_of taken).core.limits ≡ limits
    same-limits = was.shell.opened.limits ∙ seated.of_limits

    pub within : holding.number < (shown_of taken).core.limits.seats
    within =
        subst (λ (l : Limits). holding.number < l.seats) (sym same-limits) (subst (λ (n : ℕ). n < limits.seats) (sym finds.keeps.number) seated.number)

    -- and it is in order
    taken-order : IsShellInOrder meaning code (shown_of taken)
    taken-order =
        in-order meaning seated.opened (shown_of taken) (places_of taken) (turns_of taken) holding.rows holding.seen was code seated.of_code
        (subst AreLimits (sym seated.of_limits) seated.ranges) seated.enough

    -- what the seat has in flight fits
    taken-fits : (hand : Work M) → IsPrepared meaning.is_machine meaning.stage code limits.slice before.row.hand hand
        → Fits meaning (shown_of taken).core holding.number hand
    taken-fits hand ready =
        hand-fits meaning seated.opened (shown_of taken) (places_of taken) (turns_of taken) holding.rows holding.seen was holding.number within
        before.row finds.found hand
        (subst (λ (c : C). IsPrepared meaning.is_machine meaning.stage c (shown_of taken).core.limits.slice before.row.hand hand)
        (sym (was.shell.opened.code ∙ seated.of_code))
        (subst (λ (l : Limits). IsPrepared meaning.is_machine meaning.stage code l.slice before.row.hand hand) (sym same-limits) ready))

    -- so it may have its turn
    pub taken-may : (hand : Work M) → IsPrepared meaning.is_machine meaning.stage code limits.slice before.row.hand hand
        → MayTurn meaning code holding.number (shown_of taken) hand
    taken-may hand ready = record { order = taken-order; there = within; fits = taken-fits hand ready }

    -- It had turns
    module _ (old new : Work M) (given : S) (led : List (TurnView C V M))
        (played : HasPlayed meaning code holding.number old (shown_of taken) (places_of taken) (turns_of taken)
        (shown_of given) (places_of given) (turns_of given) new led) where
      abbrev left : SeatRow M
      left = row_of (shown_of given).core holding.number (keeping (shown_of given).core new)

      then : IsShared meaning seated.opened (shown_of given) (places_of given) (turns_of given) (set holding.rows holding.number left) (holding.seen ++ led)
      then =
          shared-on meaning seated.opened (shown_of taken) (places_of taken) (turns_of taken) holding.rows holding.seen was holding.number within
          code old new (shown_of given) (places_of given) (turns_of given) led played

      pub may-give : (leaves : SeatRow M → Type 0) → leaves left → MayGive Stands maker leaves holding given
      may-give leaves fine = record {
        row = left;
        added = led;
        stands =
            subst (λ (x : Option (OpenedView C V M)). IsSomeAnd x (λ o. Stands given o (set holding.rows holding.number left) (holding.seen ++ led)))
            (sym (finds.keeps.fixed ∙ seated.is)) then;
        by_seat =
            its-turns meaning seated.opened (shown_of taken) (places_of taken) (turns_of taken) holding.rows holding.seen was holding.number within
            code old new (shown_of given) (places_of given) (turns_of given) led played;
        leaves_row = fine;
      }

      -- and gave the turn
      module _ (leaves : SeatRow M → Type 0) (after : Knows (OpenedView C V M) (SeatRow M) (TurnView C V M))
          (gives : Gives Stands maker leaves holding given after) where
        gave : HasGiven maker leaves holding after
        gave = give_leaves Stands maker leaves holding after given gives

        it : IsShared meaning seated.opened (shown_of given) (places_of given) (turns_of given) (set holding.rows holding.number gives.0.row)
            (holding.seen ++ gives.0.added)
        it =
            some-and (λ (o : OpenedView C V M). Stands given o (set holding.rows holding.number gives.0.row) (holding.seen ++ gives.0.added))
            holding.fixed seated.opened (finds.keeps.fixed ∙ seated.is) gives.0.stands

        -- its row is what the engine has of the seat, and what was kept
        row-left : gives.0.row ≡ left
        row-left =
            let new-core = (shown_of given).core in
            let kept = keeping new-core new in
            let count = was.count in
            let there = within in
            let places : places_of given ≡ set (places_of taken) holding.number kept = played.keeping_it in
            some-is gives.0.row left
            (sym (get_set_here holding.rows holding.number gives.0.row (slice_get_within holding.rows holding.number before.row finds.found))
            ∙ ap (λ (all : List (SeatRow M)). slice_get all holding.number) (sym it.rows)
            ∙ rows-there new-core (places_of given) holding.number (subst (λ (l : Limits). holding.number < l.seats) (sym played.leaves.limits) within)
            ∙ ap (λ (ps : List (Kept M)). Some (row_of new-core holding.number (slice_index_or ps holding.number nothing_kept))) places
            ∙ ap (λ (x : Kept M). Some (row_of new-core holding.number x))
            (get_or-set_same (places_of taken) holding.number kept nothing_kept (omega (arith, count, there))))

        -- what it added are its turns
        added-is : gives.0.added ≡ led
        added-is =
            append_cancel_left holding.seen gives.0.added led
            (sym it.recorded ∙ played.joined ∙ ap (λ (ts : List (TurnView C V M)). ts ++ led) was.recorded)

        pub both-keep : KeepsSeat before after
        both-keep = keeps_both before holding after finds.keeps gave.keeps

        row-after : after.row ≡ left
        row-after = ap (λ (k : Knows (OpenedView C V M) (SeatRow M) (TurnView C V M)). k.row) gives.1 ∙ row-left

        -- it is through if it has nothing at work and a stop is kept
        pub played-through : RestsAtStop (shown_of given).core holding.number → IsThrough after
        played-through rests = record {
          free = gave.free;
          idle = ap (λ (r : SeatRow M). r.task) row-after ∙ rests.idle;
          marked = ap (λ (r : SeatRow M). r.marked) row-after ∙ rests.stop;
        }

        number-is : holding.number ≡ before.number
        number-is = finds.keeps.number

        pub has-led : HasLed meaning code limits.slice before after old new led
        has-led =
            let split = turns-split meaning seated.opened.first (shown_of taken) before.seen finds.others
            (subst (λ (ts : List (TurnView C V M)). AreTurnsBetween meaning seated.opened.first ts (shown_of taken)) (was.recorded ∙ finds.seen) was.led) in
            record {
              keeps = both-keep;
              free = gave.free;
              opened = seated.opened;
              is = seated.is;
              others = finds.others;
              apart = finds.apart;
              seen = ap (λ (k : Knows (OpenedView C V M) (SeatRow M) (TurnView C V M)). k.seen) gives.1 ∙ ap (λ (ts : List (TurnView C V M)). holding.seen ++ ts) added-is ∙ ap (λ (ts : List (TurnView C V M)). ts ++ led) finds.seen;
              own = ap (λ (k : Knows (OpenedView C V M) (SeatRow M) (TurnView C V M)). k.own) gives.1 ∙ ap (λ (ts : List (TurnView C V M)). holding.own ++ ts) added-is ∙ ap (λ (ts : List (TurnView C V M)). ts ++ led) finds.own;
              left = split.0;
              taken = shown_of taken;
              given = shown_of given;
              before_it = split.1;
              meanwhile = split.2;
              found = slot-stays meaning before.number split.0 (shown_of taken) finds.others split.2 finds.apart;
              its = played.follows;
              each =
                  subst (λ (n : ℕ). AreOfSeat meaning code limits.slice n old led new) number-is
                  (subst (λ (l : Limits). AreOfSeat meaning code l.slice holding.number old led new) same-limits played.each);
              row = row-after ∙ ap (λ (n : ℕ). row_of (shown_of given).core n (keeping (shown_of given).core new)) number-is;
            }

module _ {C V M : Type 0} (meaning : Meaning C V M) (code : C) (limits : Limits) (before after : Knows (OpenedView C V M) (SeatRow M) (TurnView C V M))
    (old new : Work M) where
  module _ (led : List (TurnView C V M)) (has : HasLed meaning code limits.slice before after old new led) where
    -- a seat that had turns is ready for the next one
    pub ready-again : IsSeated meaning.signature code limits before → CanBePrepared meaning.is_machine meaning.stage code limits.slice new
        → IsReadyToTurn meaning code limits after new
    ready-again seated can = record {
      seated = still-seated meaning.signature code limits before after has.keeps seated;
      free = has.free;
      prepared =
          subst (λ (w : Work M). IsPrepared meaning.is_machine meaning.stage code limits.slice w new)
          (sym (ap (λ (r : SeatRow M). r.hand) has.row))
          (prepared-none meaning.is_machine meaning.stage code limits.slice new can);
      can = can;
    }

  -- a seat that says that it has stopped is through
  pub had-through : HasHadTurn meaning code limits.slice before after old new Point.Stopped → IsThrough after
  had-through h =
      let t = h.turn in
      let stopped = point-stopped t.outcome (member_of_turn t) (sym h.told) in
      let rests = has-stopped meaning t.seat (stage_at meaning.stage t.old.core.code t.hand) t.old t.new t.outcome h.led.its.1.turned stopped in
      let at-end =
      subst (λ (s : ShellView C V M). RestsAtStop s.core before.number) (sym h.led.its.2)
      (subst (λ (n : ℕ). RestsAtStop t.new.core n) h.led.each.0 rests) in
      record {
        free = h.led.free;
        idle = ap (λ (r : SeatRow M). r.task) h.led.row ∙ at-end.idle;
        marked = ap (λ (r : SeatRow M). r.marked) h.led.row ∙ at-end.stop;
      }
