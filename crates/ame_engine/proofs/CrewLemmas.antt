-- A pool at a commit: members are woken, new ones join, and one ends or goes on inside.
use Rattle.std.proofs.Common.{◌≡◌, ℕ, ◌+◌, ◌-◌, ◌≤◌, ◌<◌, ◌==◌, true, false, cond, List, [], ◌∷◌, map, get_or, drop, length, All, Option, Some, None, IsTrue, IsSomeAnd, option_map, refl, sym, ap, ◌∙◌, subst, arith}
use Rattle.std.specs.Prelude.{max, ◌||◌}
use Rattle.std.proofs.lemmas.List.{drop_more, drop_all}
use Rattle.std.proofs.lemmas.List.Elements.{All-cons, All-head, All-tail, All-map, All-weaker}
use Rattle.ame_term.specs.Tree.{Tree}
use Rattle.ame_term.specs.declared.types.Loc.{Loc}
use Rattle.ame_pool.specs.declared.member.Member.{Member}
use Rattle.ame_pool.specs.declared.member.MemberStanding.{MemberStanding}
use Rattle.ame_pool.specs.Members.{find, except, is_busy}
use Rattle.ame_pool.specs.Roster.{Roster}
use Rattle.ame_pool.specs.Waking.{stirred_by}
use Rattle.ame_pool.specs.Calls.{IsAt, newcomer, renewed, joined, exchanged, removed, woken, with_room}
use Rattle.ame_machine.specs.declared.wants.Wants.{Wants}
use Rattle.ame_machine.specs.declared.wants.Wants.TheVariants as wants
use Rattle.ame_machine.specs.MachineView.{MachineView, starting_at}
use Rattle.ame_machine.specs.Move.{tells_leave, settled_stage}
use Rattle.ame_protocol.specs.Engine.Shown.{shown_member, shown_pool}
use Rattle.ame_protocol.specs.Engine.Tasks.{is_busy_as}
use Rattle.ame_protocol.specs.Engine.Events.{woken_for, with_newcomers}
use Rattle.ame_protocol.proofs.Engine.ShownPoolLemmas.{found-shown, woken-shown, exchanged-shown}
use Rattle.ame_engine.specs.Seen.{term_shown}
use Rattle.ame_engine.specs.Whole.{resting_at, IsAtRest}
use Rattle.ame_engine.proofs.MemberLemmas.{all_altered}

-- what all members pass, all pass once one has left
pub all_except : {M : Type 0} (n : ℕ) (P : Member M → Type 0) (ms : List (Member M)) → All P ms → All P (except n ms)
all_except n P [] all = all
all_except n P (m ∷ ms) all =
    let head = All-head P m ms all in let tail = All-tail P m ms all in
    elim (m.number == n) as (λ b. All P (cond b ms (m ∷ except n ms))) [
      | true ↦ tail
      | false ↦ All-cons P m (except n ms) head (all_except n P ms tail)
    ]

-- so do all that are woken, if what wakes them leaves it
pub all-woken-pass : {M : Type 0} (P : Member M → Type 0) → ((l : ℕ) (m : Member M) → P m → P (stirred_by l m)) → (ls : List ℕ) (pool : Roster M)
    → All P pool.members → All P (woken_for ls pool).members
all-woken-pass P keeps [] pool all = all
all-woken-pass P keeps (l ∷ ls) pool all =
    all-woken-pass P keeps ls (woken l pool)
    (All-map P (stirred_by l) pool.members (All-weaker P (λ m. P (stirred_by l m)) (keeps l) pool.members all))

-- one location more
pub woken-more : {M : Type 0} (locs : List Loc) (i : ℕ) (d : Loc) (pool new start : Roster M) → i < length locs → new ≡ woken (get_or locs i d).0 pool
    → woken_for (map (λ l. l.0) (drop i locs)) pool ≡ start → woken_for (map (λ l. l.0) (drop (i + 1) locs)) new ≡ start
woken-more {M} locs i d pool new start below is before =
    ap (woken_for (map (λ l. l.0) (drop (i + 1) locs))) is
    ∙ sym (ap (λ (ls : List Loc). woken_for (map (λ l. l.0) ls) pool) (drop_more locs i d below)) ∙ before

-- and no more
pub woken-end : {M : Type 0} (locs : List Loc) (i : ℕ) (pool start : Roster M) → length locs ≤ i
    → woken_for (map (λ l. l.0) (drop i locs)) pool ≡ start → pool ≡ start
woken-end locs i pool start all before = sym (ap (λ (ls : List Loc). woken_for (map (λ l. l.0) ls) pool) (drop_all i locs all)) ∙ before

-- if no location wakes a member, all of them together wake none
pub woken-none : {M : Type 0} (ls : List ℕ) (pool : Roster M) → ((l : ℕ) → woken l pool ≡ pool) → woken_for ls pool ≡ pool
woken-none [] pool none = refl
woken-none (l ∷ ls) pool none = ap (woken_for ls) (none l) ∙ woken-none ls pool none

module _ {C M : Type 0} (is_machine : C → M → Type 0) (stage : C → M → MachineView) (code : C) where
  pub woken-rest : (ls : List ℕ) (pool : Roster M) → All (IsAtRest is_machine stage code) pool.members
      → All (IsAtRest is_machine stage code) (woken_for ls pool).members
  woken-rest = all-woken-pass (IsAtRest is_machine stage code) (λ l m rests. record { machine = rests.machine; rests = rests.rests })

-- a member goes on inside, with no more than its term
module _ {C M : Type 0} (is_machine : C → M → Type 0) (stage : C → M → MachineView) (code : C) (number : ℕ) (pool new : Roster M) where
  module _ (at settled : M) (settles : stage code settled ≡ settled_stage (stage code at)) (is : new ≡ exchanged number settled true pool) where
    pub left-shown : shown_pool (term_shown stage code) new ≡ exchanged number (stage code at).term true (shown_pool (term_shown stage code) pool)
    left-shown =
        ap (shown_pool (term_shown stage code)) is ∙ exchanged-shown (term_shown stage code) number settled true pool
        ∙ ap (λ (s : MachineView). exchanged number s.term true (shown_pool (term_shown stage code) pool)) settles

    settled-rests : (stage code at).want ≡ Some wants.Leave → stage code settled ≡ resting_at (stage code settled).term true
    settled-rests leaves =
        settles ∙ ap (λ (o : Option Wants). record (starting_at (stage code at).term) { inside = tells_leave o || (stage code at).inside }) leaves
        ∙ sym (ap (λ (s : MachineView). resting_at s.term true) settles)

    pub left-rests : (stage code at).want ≡ Some wants.Leave → is_machine code settled → All (IsAtRest is_machine stage code) pool.members
        → All (IsAtRest is_machine stage code) new.members
    left-rests leaves machine all =
        subst (λ (p : Roster M). All (IsAtRest is_machine stage code) p.members) (sym is)
        (all_altered number (renewed settled true) (IsAtRest is_machine stage code)
        (λ m rests. record { machine = machine; rests = settled-rests leaves }) pool.members all)

  -- or it is gone
  pub gone-rests : new ≡ removed number pool → All (IsAtRest is_machine stage code) pool.members → All (IsAtRest is_machine stage code) new.members
  gone-rests is all =
      subst (λ (p : Roster M). All (IsAtRest is_machine stage code) p.members) (sym is) (all_except number (IsAtRest is_machine stage code) pool.members all)

module _ {M : Type 0} (term : M → Tree) where
  pub all-woken-shown : (ls : List ℕ) (pool : Roster M) → shown_pool term (woken_for ls pool) ≡ woken_for ls (shown_pool term pool)
  all-woken-shown [] pool = refl
  all-woken-shown (l ∷ ls) pool = all-woken-shown ls (woken l pool) ∙ ap (woken_for ls) (woken-shown term l pool)

  busy-by : (o : Option (Member M)) → IsSomeAnd (option_map (shown_member term) o) (λ m. IsTrue (is_busy_as false m)) → IsSomeAnd o (λ m. IsTrue (is_busy m))
  busy-by None h = h
  busy-by (Some m) h = by m.standing h
    where
      by : (x : MemberStanding) → IsTrue (is_busy_as false (record (shown_member term m) { standing = x })) → IsTrue (is_busy (record m { standing = x }))
      by MemberStanding.Ready h = h
      by (MemberStanding.Busy w) h = refl
      by (MemberStanding.Parked locs) h = h

  -- who is busy is so
  pub busy-told : (n : ℕ) (pool : Roster M) → IsAt (is_busy_as false) n (shown_pool term pool) → IsAt is_busy n pool
  busy-told n pool h = busy-by (find n pool.members) (subst (λ (o : Option (Member Tree)). IsSomeAnd o (λ m. IsTrue (is_busy_as false m))) (found-shown term n pool.members) h)

  none-by : (o : Option (Member M)) → option_map (shown_member term) o ≡ None → o ≡ None
  none-by None e = refl
  none-by (Some m) e = absurd (let clash : ◌≡◌ {A = Option (Member Tree)} (Some (shown_member term m)) None = e in cc)

  -- and who isn't there isn't
  pub none-told : (n : ℕ) (pool : Roster M) → find n (shown_pool term pool).members ≡ None → find n pool.members ≡ None
  none-told n pool e = none-by (find n pool.members) (sym (found-shown term n pool.members) ∙ e)

-- Room that new members use up isn't left, whether it was made before or not

roomy : {M : Type 0} → ℕ → Roster M → Roster M
roomy room pool = record pool { room = room }

woken-roomy : {M : Type 0} (ls : List ℕ) (room : ℕ) (pool : Roster M) → woken_for ls (roomy room pool) ≡ roomy room (woken_for ls pool)
unfolding roomy
woken-roomy [] room pool = refl
woken-roomy (l ∷ ls) room pool = woken-roomy ls room (woken l pool)

-- so what wakes the same members of a pool does so once there is room
pub woken-alike : {M : Type 0} (ks ls : List ℕ) (places : ℕ) (pool : Roster M) → woken_for ks pool ≡ woken_for ls pool
    → woken_for ks (with_room places pool) ≡ woken_for ls (with_room places pool)
unfolding roomy
woken-alike ks ls places pool same =
    let room = max pool.room places in woken-roomy ks room pool ∙ ap (roomy room) same ∙ sym (woken-roomy ls room pool)

woken-room : (ls : List ℕ) (pool : Roster Tree) → (woken_for ls pool).room ≡ pool.room
woken-room [] pool = refl
woken-room (l ∷ ls) pool = woken-room ls (woken l pool)

newcomers-room : (next : ℕ) (bodies : List Tree) (pool : Roster Tree) (room : ℕ) → room ≡ max pool.room (length bodies)
    → with_newcomers next bodies (roomy room pool) ≡ with_newcomers next bodies pool
unfolding roomy
newcomers-room next [] pool room e = ap (λ (r : ℕ). roomy r pool) (let same : room ≡ pool.room = omega arith in same)
newcomers-room next (body ∷ bodies) pool room e =
    newcomers-room (next + 1) bodies (joined (newcomer next body false) pool) (room - 1)
    (let h : (room - 1) ≡ max (pool.room - 1) (length bodies) = omega arith in h)

pub room-used : (next : ℕ) (bodies : List Tree) (ls : List ℕ) (pool : Roster Tree) (places : ℕ) → places ≡ length bodies
    → with_newcomers next bodies (woken_for ls (with_room places pool)) ≡ with_newcomers next bodies (woken_for ls pool)
unfolding roomy
room-used next bodies ls pool places e =
    let room = max pool.room places in
    ap (with_newcomers next bodies) (woken-roomy ls room pool)
    ∙ newcomers-room next bodies (woken_for ls pool) room
    (ap (λ (n : ℕ). max pool.room n) e ∙ ap (λ (n : ℕ). max n (length bodies)) (sym (woken-room ls pool)))

pub all-woken-room : {M : Type 0} (ls : List ℕ) (pool : Roster M) → (woken_for ls pool).room ≡ pool.room
all-woken-room [] pool = refl
all-woken-room (l ∷ ls) pool = all-woken-room ls (woken l pool)
