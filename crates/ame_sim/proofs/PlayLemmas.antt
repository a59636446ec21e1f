-- A run under way, and one pick more.
use Rattle.std.proofs.Common.{◌≡◌, ℕ, ◌+◌, ◌*◌, ◌<◌, ◌≤◌, ◌⊎◌, inl, inr, Bool, true, false, not, cond, List, [], ◌∷◌, ◌++◌, length, set, replicate, get_or, Option, Some, None, get_or-set_other, refl, sym, ap, ◌∙◌, subst, arith}
use Rattle.std.specs.Prelude.{◌-◌, is_some}
use Rattle.std.specs.List.{Contains}
use Rattle.std.proofs.lemmas.Bool.{cases_Bool}
use Rattle.std.proofs.lemmas.List.{map-append, length-set, length-replicate}
use Rattle.std.proofs.lemmas.List.Elements.{All-nil, All-push}
use Rattle.std.proofs.lemmas.List.Sums.{count_by-le-length}
use Rattle.ame_sim.specs.Questions.{turns_of, seats_of, waits_after, who_waits, count_of}
use Rattle.ame_sim.specs.Strategy.{PicksSeats}
use Rattle.ame_sim.specs.Waits.{may_be_picked}
use Rattle.ame_sim.proofs.QuestionsLemmas.{count-waits, length-waits_along}
use Rattle.ame_sim.proofs.WaitsLemmas.{free-seat, some-seat}
use Rattle.ame_journal.specs.declared.entry.Entry.{Entry}
use Rattle.ame_machine.specs.Meaning.{Meaning}
use Rattle.ame_protocol.specs.declared.types.Limits.{Limits}
use Rattle.ame_protocol.proofs.Row.CellLemmas.{which}
use Rattle.ame_protocol.specs.declared.stop.Stop.{Stop}
use Rattle.ame_engine.specs.Core.{Core}
use Rattle.ame_shell.specs.Shell.{ShellView}
use Rattle.ame_sim.specs.declared.made.Made.{Made}
use Rattle.ame_sim.specs.Crew.{lacking, Rests, AreResting, SomeSeatIsAtWork, IsAtWorkSomewhere, picks_left, left_to_play}
use Rattle.ame_sim.specs.Picks.{is_waited, picked_by, picks_of, HasAnswered}
use Rattle.ame_sim.specs.Played.{HasPlayed, Plays}
use Rattle.ame_sim.specs.Run.{IsSubsequence, makers, IsPlaying}
use Rattle.ame_sim.proofs.CrewLemmas.{same-all}
use Rattle.ame_sim.proofs.OrderLemmas.{order-passed, order-taken}
use Rattle.ame_sim.proofs.PickLemmas.{waits-push, seats-push, asked-push, turns-push, answered-more, IsCounted, all-counted, few-idles, count-none}
use Rattle.ame_sim.proofs.TurnLemmas.{AddsOne, GoesBy, idle-waits, turn-adds, turn-counts, HasWaited, turn-waits}

-- the seats of entries, once one of the picked seat joins, or none
order-adds : (seat : ℕ) (old new : List Entry) (picked : List ℕ) → AddsOne seat old new → IsSubsequence (makers old) picked
    → IsSubsequence (makers new) (picked ++ seat ∷ [])
order-adds seat old new picked (AddsOne.nothing same) h =
    subst (λ (es : List Entry). IsSubsequence (makers es) (picked ++ seat ∷ [])) (sym same) (order-passed (makers old) picked seat h)
order-adds seat old new picked (AddsOne.one entry is its) h =
    let all : makers new ≡ makers old ++ seat ∷ [] =
    ap makers is ∙ map-append (λ (e : Entry). e.seat) old (entry ∷ []) ∙ ap (λ (n : ℕ). makers old ++ n ∷ []) its in
    subst (λ (ns : List ℕ). IsSubsequence ns (picked ++ seat ∷ [])) (sym all) (order-taken (makers old) picked seat h)

-- what is left falls by a turn, and by one that waits
turn-less : (left waiting seats : ℕ) → waiting ≤ seats → left * (seats + 1) + (seats - 0) + 1 < (left + 1) * (seats + 1) + (seats - waiting) + 1
turn-less left waiting seats few = omega arith

module _ {C V M : Type 0} (meaning : Meaning C V M) where
  plays-push : (mades : List Made) (made : Made) (first last new : ShellView C V M) → Plays meaning mades first last → last.core.stop ≡ None
      → HasPlayed meaning made last new → Plays meaning (mades ++ made ∷ []) first new
  plays-push [] made first last new h going p = (
    new,
    subst (λ (s : ShellView C V M). s.core.stop ≡ None) h going,
    subst (λ (s : ShellView C V M). HasPlayed meaning made s new) h p,
    refl,
  )
  plays-push (m ∷ mades) made first last new h going p = (h.0, h.1, h.2, plays-push mades made h.0 last new h.3 going p)

  -- nothing was played yet
  pub playing-none : (seats : ℕ) (first : ShellView C V M) → first.core.turns ≡ 0 → first.core.entries ≡ [] → IsPlaying meaning seats first first []
  playing-none seats first fresh empty = record {
    last = first;
    plays = refl;
    ends = inl refl;
    told = record {
      within = All-nil (λ (made : Made). made.seat < seats);
      asked = tt;
      order = subst (λ (es : List Entry). IsSubsequence (makers es) []) (sym empty) tt;
      counted = inl (omega (arith, fresh));
      few = omega arith;
    };
    going = λ _. sym fresh;
  }

  -- while no stop is kept, a run is at the shell to which its picks lead
  module _ (seats : ℕ) (first old : ShellView C V M) (mades : List Made) (h : IsPlaying meaning seats first old mades) (going : old.core.stop ≡ None) where
    last-is : old ≡ h.last
    last-is = by h.ends
      where
        by : (old ≡ h.last) ⊎ ((h.last.core.stop ≡ None) × (old ≡ lacking h.last)) → old ≡ h.last
        by (inl is) = is
        by (inr lacks) =
            absurd (let clash : false ≡ true = sym (ap is_some going) ∙ ap (λ (s : ShellView C V M). is_some s.core.stop) lacks.1 in cc)

    last-going : h.last.core.stop ≡ None
    last-going = subst (λ (s : ShellView C V M). s.core.stop ≡ None) last-is going

    -- memory may be lacking
    pub playing-lacks : IsPlaying meaning seats first (lacking old) mades
    playing-lacks = record {
      last = h.last;
      plays = h.plays;
      ends = inr (last-going, ap lacking last-is);
      told = h.told;
      going = λ left. absurd (let clash : true ≡ false = ap is_some left in cc);
    }

    -- or one pick more is made
    module _ (new : ShellView C V M) (made : Made) (p : HasPlayed meaning made old new) (within : made.seat < seats)
        (asked : Contains (may_be_picked (who_waits seats (picks_of mades))) made.seat) where
      was : turns_of (picks_of mades) ≡ old.core.turns
      was = h.going going

      -- each pick that finds something to do is a turn, or stops the run
      record HasCounted : Type 0 where
        all : IsCounted seats new.core.turns (mades ++ made ∷ [])
        while : new.core.stop ≡ None → turns_of (picks_of (mades ++ made ∷ [])) ≡ new.core.turns

      counts-on : turns_of (picks_of (mades ++ made ∷ [])) ≡ new.core.turns → HasCounted
      counts-on is = record { all = inl is; while = λ _. is }

      none-waits : is_waited made.outcome ≡ false → count_of (who_waits seats (picks_of (mades ++ made ∷ []))) ≡ 0
      none-waits did =
          ap count_of (waits-push seats mades made)
          ∙ ap (λ (b : Bool). count_of (cond b (set (who_waits seats (picks_of mades)) made.seat true)
          (replicate (length (who_waits seats (picks_of mades))) false))) did
          ∙ count-none (length (who_waits seats (picks_of mades)))

      has-counted : HasCounted
      has-counted = by (cases_Bool (is_waited made.outcome))
        where
          goes : is_waited made.outcome ≡ false → GoesBy old.core.turns new.core.turns new.core.stop → HasCounted
          goes did (GoesBy.more up) =
              counts-on (let push = turns-push mades made in
              let by_one = ap {B = ℕ} (λ (b : Bool). cond (not b) 1 0) did in
              let before = was in omega (arith, push, by_one, before, up))
          goes did (GoesBy.none same kept) = record {
            all =
                inr (
                  let push = turns-push mades made in
                      let by_one = ap {B = ℕ} (λ (b : Bool). cond (not b) 1 0) did in
                      let before = was in omega (arith, push, by_one, before, same),
                  none-waits did,
                );
            while = λ going. absurd (let clash : true ≡ false = sym kept ∙ ap is_some going in cc);
          }

          by : (is_waited made.outcome ≡ true) ⊎ (is_waited made.outcome ≡ false) → HasCounted
          by (inl waits) =
              let still = ap (λ (c : Core C V M). c.turns) (turn-waits meaning made.seat p.hand old new made.outcome p.turned waits).same in
              counts-on (let push = turns-push mades made in
              let by_none = ap {B = ℕ} (λ (b : Bool). cond (not b) 1 0) waits in
              let before = was in omega (arith, push, by_none, before, still))
          by (inr did) = goes did (turn-counts meaning made.seat p.hand old new made.outcome p.turned going did)

      pub playing-more : IsPlaying meaning seats first new (mades ++ made ∷ [])
      playing-more =
          let answered = asked-push seats mades made h.told.asked asked in
          let counts = has-counted in
          record {
            last = new;
            plays = plays-push mades made first h.last new h.plays last-going (subst (λ (s : ShellView C V M). HasPlayed meaning made s new) last-is p);
            ends = inl refl;
            told = record {
              within = All-push (λ (m : Made). m.seat < seats) mades made h.told.within within;
              asked = answered;
              order =
                  subst (IsSubsequence (makers new.core.entries)) (sym (seats-push mades made))
                  (order-adds made.seat old.core.entries new.core.entries (seats_of (picks_of mades))
                  (turn-adds meaning made.seat p.hand old new made.outcome p.turned) h.told.order);
              counted = all-counted seats new.core.turns (mades ++ made ∷ []) answered counts.all;
              few = few-idles seats new.core.turns (mades ++ made ∷ []) answered counts.all;
            };
            going = counts.while;
          }

  -- Waiting seats

  module _ (old new : ShellView C V M) (made : Made) (waits : List Bool) (p : HasPlayed meaning made old new) where
    -- a seat that waits still finds no member that may begin
    pub resting-more : AreResting waits old.core → AreResting (waits_after waits (picked_by made)) new.core
    resting-more rests seat = by (cases_Bool (is_waited made.outcome))
      where
        by : (is_waited made.outcome ≡ true) ⊎ (is_waited made.outcome ≡ false) → get_or (waits_after waits (picked_by made)) seat false ≡ true → Rests new.core seat
        by (inl told) wait =
            let w = turn-waits meaning made.seat p.hand old new made.outcome p.turned told in
            let here : get_or (set waits made.seat true) seat false ≡ true =
            sym (ap (λ (b : Bool). get_or (cond b (set waits made.seat true) (replicate (length waits) false)) seat false) told) ∙ wait in
            subst (λ (c : Core C V M). Rests c seat) (sym w.same) (at w here (which seat made.seat))
          where
            at : HasWaited meaning made.seat p.hand old new made.outcome p.turned → get_or (set waits made.seat true) seat false ≡ true
                → (seat ≡ made.seat) ⊎ ((seat ≡ made.seat) → ⊥) → Rests old.core seat
            at w here (inl same) = subst (Rests old.core) (sym same) (record { idle = w.idle; met = w.met })
            at w here (inr apart) = rests seat (sym (get_or-set_other waits made.seat seat true false apart) ∙ here)
        by (inr did) wait =
            absurd (let clash : false ≡ true =
            sym (same-all (length waits) seat false)
            ∙ sym (ap (λ (b : Bool). get_or (cond b (set waits made.seat true) (replicate (length waits) false)) seat false) did) ∙ wait in cc)

    -- and less is left to do
    module _ (going : old.core.stop ≡ None) (asked : Contains (may_be_picked waits) made.seat) (limits : new.core.limits ≡ old.core.limits)
        (bounded : new.core.turns ≤ new.core.limits.turns) where
      abbrev later : List Bool
      later = waits_after waits (picked_by made)

      abbrev before : ℕ
      before = old.core.limits.turns - old.core.turns

      left-before : left_to_play old.core waits ≡ before * (length waits + 1) + (length waits - count_of waits) + 1
      left-before = ap (λ (o : Option Stop). picks_left o before waits) going

      limit : new.core.limits.turns ≡ old.core.limits.turns
      limit = ap (λ (l : Limits). l.turns) limits

      less-going : new.core.stop ≡ None → picks_left None (new.core.limits.turns - new.core.turns) later < left_to_play old.core waits
      less-going left_going = by (cases_Bool (is_waited made.outcome))
        where
          goes : is_waited made.outcome ≡ false → GoesBy old.core.turns new.core.turns new.core.stop
              → picks_left None (new.core.limits.turns - new.core.turns) later < left_to_play old.core waits
          goes did (GoesBy.none same kept) = absurd (let clash : true ≡ false = sym kept ∙ ap is_some left_going in cc)
          goes did (GoesBy.more up) =
              let left = new.core.limits.turns - new.core.turns in
              let all : later ≡ replicate (length waits) false =
              ap (λ (b : Bool). cond b (set waits made.seat true) (replicate (length waits) false)) did in
              let now : picks_left None left later ≡ left * (length waits + 1) + (length waits - 0) + 1 =
              ap (picks_left None left) all
              ∙ ap (λ (n : ℕ). left * (n + 1) + (n - count_of (replicate (length waits) false)) + 1) (length-replicate (length waits) false)
              ∙ ap (λ (n : ℕ). left * (length waits + 1) + (length waits - n) + 1) (count-none (length waits)) in
              let step : before ≡ left + 1 = omega (arith, limit, bounded, up) in
              let falls = turn-less left (count_of waits) (length waits) (count_by-le-length (λ w. w) waits) in
              let had = ap (λ (n : ℕ). n * (length waits + 1) + (length waits - count_of waits) + 1) step in
              subst (λ (n : ℕ). n < left_to_play old.core waits) (sym now)
              (subst (λ (n : ℕ). left * (length waits + 1) + (length waits - 0) + 1 < n) (sym (left-before ∙ had)) falls)

          by : (is_waited made.outcome ≡ true) ⊎ (is_waited made.outcome ≡ false)
              → picks_left None (new.core.limits.turns - new.core.turns) later < left_to_play old.core waits
          by (inl told) =
              let w = turn-waits meaning made.seat p.hand old new made.outcome p.turned told in
              let left = new.core.limits.turns - new.core.turns in
              let same : left ≡ before = ap (λ (c : Core C V M). c.limits.turns - c.turns) w.same in
              let longer : later ≡ set waits made.seat true =
              ap (λ (b : Bool). cond b (set waits made.seat true) (replicate (length waits) false)) told in
              let its = free-seat made.seat waits asked in
              let count = count-waits waits made.seat its.0 its.1 in
              let long = length-set waits made.seat true in
              let few = count_by-le-length (λ w. w) (set waits made.seat true) in
              let now : picks_left None left later ≡ before * (length waits + 1) + (length waits - (count_of waits + 1)) + 1 =
              ap (picks_left None left) longer
              ∙ ap (λ (n : ℕ). n * (length (set waits made.seat true) + 1) + (length (set waits made.seat true) - count_of (set waits made.seat true)) + 1) same
              ∙ ap (λ (n : ℕ). before * (n + 1) + (n - count_of (set waits made.seat true)) + 1) long
              ∙ ap (λ (n : ℕ). before * (length waits + 1) + (length waits - n) + 1) count in
              let had = left-before in
              omega (arith, now, had, count, long, few)
          by (inr did) = goes did (turn-counts meaning made.seat p.hand old new made.outcome p.turned going did)

      pub play-less : left_to_play new.core later < left_to_play old.core waits
      play-less = by new.core.stop refl
        where
          by : (o : Option Stop) → new.core.stop ≡ o → left_to_play new.core later < left_to_play old.core waits
          by None e =
              subst (λ (o : Option Stop). picks_left o (new.core.limits.turns - new.core.turns) later < left_to_play old.core waits) (sym e) (less-going e)
          by (Some why) e =
              subst (λ (o : Option Stop). picks_left o (new.core.limits.turns - new.core.turns) later < left_to_play old.core waits) (sym e)
              (let had = left-before in omega (arith, had))

-- Some seat may be picked: if all rested, a member would be waited for that some seat has at work.
pub some-may : {C V M : Type 0} (core : Core C V M) (waits : List Bool) → AreResting waits core → SomeSeatIsAtWork core → 1 ≤ core.limits.seats
    → length waits ≡ core.limits.seats → 0 < length (may_be_picked waits)
some-may core waits rests work some long = by (cases_Bool (get_or waits 0 false))
  where
    busy : IsAtWorkSomewhere core → 0 < length (may_be_picked waits)
    busy at = else-where (cases_Bool (get_or waits at.seat false))
      where
        else-where : (get_or waits at.seat false ≡ true) ⊎ (get_or waits at.seat false ≡ false) → 0 < length (may_be_picked waits)
        else-where (inl wait) = absurd (at.busy (rests at.seat wait).idle)
        else-where (inr free) = some-seat at.seat waits (let there = at.there in omega (arith, there, long)) free

    by : (get_or waits 0 false ≡ true) ⊎ (get_or waits 0 false ≡ false) → 0 < length (may_be_picked waits)
    by (inl wait) = busy (work (idle-waits core (rests 0 wait).met))
    by (inr free) = some-seat 0 waits (omega (arith, some, long)) free

-- One question, one turn, and what is noted of it

-- the flags are those of the seats
pub waits-long : (seats : ℕ) (waits : List Bool) (mades : List Made) → waits ≡ who_waits seats (picks_of mades) → length waits ≡ seats
waits-long seats waits mades who = ap length who ∙ length-waits_along (replicate seats false) (picks_of mades) ∙ length-replicate seats false

-- A seat is picked of those that may be, by flags that are those of the picks before, and what it did is noted, in flags and picks
-- that are as they were.
pub record IsNoted (seats : ℕ) (waits roomy later : List Bool) (mades kept noted : List Made) (may : List ℕ) (made : Made) : Type 0 where
  pub who : waits ≡ who_waits seats (picks_of mades)
  pub same : roomy ≡ waits
  pub as_before : kept ≡ mades
  pub lists : may ≡ may_be_picked roomy
  pub seat : ℕ
  pub picks : Contains may seat
  pub its : made.seat ≡ seat
  pub waits_on : later ≡ waits_after roomy (picked_by made)
  pub more : noted ≡ kept ++ made ∷ []

module _ (seats : ℕ) (waits roomy later : List Bool) (mades kept noted : List Made) (may : List ℕ) (made : Made)
    (n : IsNoted seats waits roomy later mades kept noted may made) where
  pub noted-is : noted ≡ mades ++ made ∷ []
  noted-is = n.more ∙ ap (λ (ms : List Made). ms ++ made ∷ []) n.as_before

  pub later-is : later ≡ waits_after waits (picked_by made)
  later-is = n.waits_on ∙ ap (λ (ws : List Bool). waits_after ws (picked_by made)) n.same

  pub was-asked : Contains (may_be_picked waits) made.seat
  was-asked =
      subst (Contains (may_be_picked waits)) (sym n.its) (subst (λ (all : List ℕ). Contains all n.seat) (n.lists ∙ ap may_be_picked n.same) n.picks)

  pub who-asked : Contains (may_be_picked (who_waits seats (picks_of mades))) made.seat
  who-asked = subst (λ (ws : List Bool). Contains (may_be_picked ws) made.seat) n.who was-asked

  pub seat-within : made.seat < seats
  seat-within =
      let its = free-seat made.seat waits was-asked in let long = waits-long seats waits mades n.who in omega (arith, its.0, long)

  pub waits-noted : later ≡ who_waits seats (picks_of noted)
  waits-noted =
      later-is ∙ ap (λ (ws : List Bool). waits_after ws (picked_by made)) n.who ∙ sym (waits-push seats mades made)
      ∙ ap (λ (ms : List Made). who_waits seats (picks_of ms)) (sym noted-is)

  pub answered-noted : (before after : List (List ℕ) → List ℕ) → PicksSeats before (may ∷ []) (n.seat ∷ []) after → HasAnswered seats before mades after noted
  answered-noted before after once =
      let all : may ≡ may_be_picked (who_waits seats (picks_of mades)) = n.lists ∙ ap may_be_picked (n.same ∙ n.who) in
      subst (λ (ms : List Made). HasAnswered seats before mades after ms) (sym noted-is)
      (answered-more seats before after mades made
      (subst (λ (s : ℕ). PicksSeats before (may_be_picked (who_waits seats (picks_of mades)) ∷ []) (s ∷ []) after) (sym n.its)
      (subst (λ (ms : List ℕ). PicksSeats before (ms ∷ []) (n.seat ∷ []) after) all once)))
