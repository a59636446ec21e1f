-- The waiting members after each call of a pool, and the last note after one more entry.
use Rattle.std.proofs.Common.{◌≡◌, ℕ, ◌+◌, ◌==◌, ◌&&◌, ◌⊎◌, inl, inr, Bool, true, false, cond, List, [], ◌∷◌, ◌++◌, get_or, All, Contains, Option, Some, None, IsTrue, refl, sym, ap, ◌∙◌}
use Rattle.std.specs.Prelude.{option_map, option_and_then}
use Rattle.std.proofs.lemmas.Bool.{eq-eqb}
use Rattle.std.proofs.lemmas.List.Elements.{All-nil, All-cons, All-contains}
use Rattle.std.proofs.lemmas.List.Folds.{list_any_at}
use Rattle.ame_term.specs.Tree.{Tree}
use Rattle.ame_journal.specs.declared.entry.Entry.{Entry}
use Rattle.ame_journal.specs.Replay.{or_else}
use Rattle.ame_pool.specs.declared.member.Member.{Member}
use Rattle.ame_pool.specs.declared.member.MemberStanding.{MemberStanding}
use Rattle.ame_pool.specs.declared.member.Watch.{Watch}
use Rattle.ame_pool.specs.Members.{find}
use Rattle.ame_pool.specs.Roster.{Roster}
use Rattle.ame_pool.specs.Standings.{settled}
use Rattle.ame_pool.specs.Waking.{has, stirred, stirred_by}
use Rattle.ame_pool.specs.Calls.{at_rest, newcomer, joined, is_running, woken}
use Rattle.ame_pool.proofs.MemberLemmas.{find_map}
use Rattle.ame_protocol.proofs.Row.CellLemmas.{which}
use Rattle.ame_protocol.specs.Engine.Events.{woken_for, with_newcomers}
use Rattle.ame_protocol.proofs.Engine.GrowthLemmas.{IsFreeFrom, found-new, joined-free}
use Rattle.ame_protocol.specs.Waits.Waiting.{watch_list, watched_by, is_stuck, last_stuck}

-- the locations for which a member waits, if one is there
abbrev pub watched-of : Option (Member Tree) → Option (List ℕ)
watched-of o = option_and_then (λ (member : Member Tree). watch_list member.standing) o

-- One member

-- what ends its waiting
pub unwatched : (f : Member Tree → Member Tree) → ((m : Member Tree) → watch_list (f m).standing ≡ None) → (o : Option (Member Tree))
    → watched-of (option_map f o) ≡ None
unwatched f none None = refl
unwatched f none (Some m) = none m

settled-waits : (x : MemberStanding) → watch_list (settled x) ≡ watch_list x
settled-waits MemberStanding.Ready = refl
settled-waits (MemberStanding.Busy None) = refl
settled-waits (MemberStanding.Busy (Some w)) = by w.touched
  where
    by : (b : Bool) → watch_list (cond b MemberStanding.Ready (MemberStanding.Parked w.locs)) ≡ cond b None (Some w.locs)
    by true = refl
    by false = refl
settled-waits (MemberStanding.Parked locs) = refl

-- a noted member waits on when it is parked
pub rest-waits : (o : Option (Member Tree)) → watched-of (option_map at_rest o) ≡ watched-of o
rest-waits None = refl
rest-waits (Some m) = settled-waits m.standing

-- a member that runs waits for nothing
pub running-unwatched : (m : Member Tree) → IsTrue (is_running m) → watch_list m.standing ≡ None
running-unwatched m h = by m.standing h
  where
    by : (x : MemberStanding) → IsTrue (is_running (record m { standing = x })) → watch_list x ≡ None
    by MemberStanding.Ready h = absurd (let clash : false ≡ true = h in cc)
    by (MemberStanding.Busy None) h = refl
    by (MemberStanding.Busy (Some w)) h = absurd (let clash : false ≡ true = h in cc)
    by (MemberStanding.Parked locs) h = absurd (let clash : false ≡ true = h in cc)

-- Woken members

module _ (l : ℕ) (ws : List ℕ) where
  its-list : (touched : Bool) (locs : List ℕ) → cond touched None (Some locs) ≡ Some ws → locs ≡ ws
  its-list true locs e = absurd (let clash : ◌≡◌ {A = Option (List ℕ)} None (Some ws) = e in cc)
  its-list false locs e = let both : ◌≡◌ {A = Option (List ℕ)} (Some locs) (Some ws) = e in cc

  listed-stirred : (b : Bool) (w : Watch) → has l w.locs ≡ b → watch_list (MemberStanding.Busy (Some (cond b (record w { touched = true }) w))) ≡ Some ws
      → (cond w.touched None (Some w.locs) ≡ Some ws) × (has l ws ≡ false)
  listed-stirred true w is e = absurd (let clash : ◌≡◌ {A = Option (List ℕ)} None (Some ws) = e in cc)
  listed-stirred false w is e = (e, ap (has l) (sym (its-list w.touched w.locs e)) ∙ is)

  parked-stirred : (b : Bool) (locs : List ℕ) → has l locs ≡ b → watch_list (cond b MemberStanding.Ready (MemberStanding.Parked locs)) ≡ Some ws
      → (◌≡◌ {A = Option (List ℕ)} (Some locs) (Some ws)) × (has l ws ≡ false)
  parked-stirred true locs is e = absurd (let clash : ◌≡◌ {A = Option (List ℕ)} None (Some ws) = e in cc)
  parked-stirred false locs is e =
      let both : ◌≡◌ {A = Option (List ℕ)} (Some locs) (Some ws) = e in let same : locs ≡ ws = cc in (both, ap (has l) (sym same) ∙ is)

  -- who waits after a write to a location waited before, and not for it
  stirred-waits : (x : MemberStanding) → watch_list (stirred l x) ≡ Some ws → (watch_list x ≡ Some ws) × (has l ws ≡ false)
  stirred-waits MemberStanding.Ready e = absurd (let clash : ◌≡◌ {A = Option (List ℕ)} None (Some ws) = e in cc)
  stirred-waits (MemberStanding.Busy None) e = absurd (let clash : ◌≡◌ {A = Option (List ℕ)} None (Some ws) = e in cc)
  stirred-waits (MemberStanding.Busy (Some w)) e = listed-stirred (has l w.locs) w refl e
  stirred-waits (MemberStanding.Parked locs) e = parked-stirred (has l locs) locs refl e

  stirred-of : (o : Option (Member Tree)) → watched-of (option_map (stirred_by l) o) ≡ Some ws → (watched-of o ≡ Some ws) × (has l ws ≡ false)
  stirred-of None e = absurd (let clash : ◌≡◌ {A = Option (List ℕ)} None (Some ws) = e in cc)
  stirred-of (Some m) e = stirred-waits m.standing e

  pub one-waits : (i : ℕ) (pool : Roster Tree) → watched_by i (woken l pool) ≡ Some ws → (watched_by i pool ≡ Some ws) × (has l ws ≡ false)
  one-waits i pool e = stirred-of (find i pool.members) (sym (ap watched-of (find_map (stirred_by l) (λ _. refl) i pool.members)) ∙ e)

pub woken-waits : (ls : List ℕ) (ws : List ℕ) (i : ℕ) (pool : Roster Tree) → watched_by i (woken_for ls pool) ≡ Some ws
    → (watched_by i pool ≡ Some ws) × All (λ l. has l ws ≡ false) ls
woken-waits [] ws i pool e = (e, All-nil (λ l. has l ws ≡ false))
woken-waits (l ∷ ls) ws i pool e =
    let rest = woken-waits ls ws i (woken l pool) e in
    let first = one-waits l ws i pool rest.0 in (first.0, All-cons (λ l. has l ws ≡ false) l ls first.1 rest.1)

-- what is watched isn't among them
pub not-woken : (ls : List ℕ) (ws : List ℕ) (l : ℕ) → All (λ m. has m ws ≡ false) ls → Contains ls l → Contains ws l → ⊥
not-woken ls ws l none named watched =
    let is : has l ws ≡ false = All-contains (λ m. has m ws ≡ false) ls l none named in
    let there : has l ws ≡ true = list_any_at (λ k. k == l) ws watched.0 l watched.1 (eq-eqb (get_or ws watched.0 l) l watched.2) in
    let clash : false ≡ true = sym is ∙ there in
    cc

-- New members wait for nothing

newcomer-waits : (next : ℕ) (body : Tree) (pool : Roster Tree) → IsFreeFrom next pool → (i : ℕ) (ws : List ℕ)
    → watched_by i (joined (newcomer next body false) pool) ≡ Some ws → find i (joined (newcomer next body false) pool).members ≡ find i pool.members
newcomer-waits next body pool free i ws e = by (which i next)
  where
    by : (i ≡ next) ⊎ ((i ≡ next) → ⊥) → find i (joined (newcomer next body false) pool).members ≡ find i pool.members
    by (inl same) =
        let none : watched_by i (joined (newcomer next body false) pool) ≡ None =
        ap (λ (k : ℕ). watched_by k (joined (newcomer next body false) pool)) same ∙ ap watched-of (found-new next body pool free).here in
        absurd (let clash : ◌≡◌ {A = Option (List ℕ)} None (Some ws) = sym none ∙ e in cc)
    by (inr apart) = (found-new next body pool free).others i apart

pub newcomers-wait : (next : ℕ) (bodies : List Tree) (pool : Roster Tree) → IsFreeFrom next pool → (i : ℕ) (ws : List ℕ)
    → watched_by i (with_newcomers next bodies pool) ≡ Some ws → find i (with_newcomers next bodies pool).members ≡ find i pool.members
newcomers-wait next [] pool free i ws e = refl
newcomers-wait next (body ∷ bodies) pool free i ws e =
    let larger = joined (newcomer next body false) pool in
    let rest = newcomers-wait (next + 1) bodies larger (joined-free next body pool free) i ws e in
    rest ∙ newcomer-waits next body pool free i ws (sym (ap watched-of rest) ∙ e)

-- The last note

or-none : (o : Option Entry) → or_else o None ≡ o
or-none None = refl
or-none (Some e) = refl

or-assoc : (a b c : Option Entry) → or_else (or_else a b) c ≡ or_else a (or_else b c)
or-assoc None b c = refl
or-assoc (Some a) b c = refl

module _ (i : ℕ) (e : Entry) where
  abbrev its-note : Option Entry
  its-note = cond (is_stuck e.kind && (e.number == i)) (Some e) None

  last-push : (es : List Entry) → last_stuck i (es ++ e ∷ []) ≡ or_else its-note (last_stuck i es)
  last-push [] = sym (or-none its-note)
  last-push (x ∷ es) =
      let mine : Option Entry = cond (is_stuck x.kind && (x.number == i)) (Some x) None in
      ap (λ (o : Option Entry). or_else o mine) (last-push es) ∙ or-assoc its-note (last_stuck i es) mine

  pub last-same : (es : List Entry) → (is_stuck e.kind && (e.number == i)) ≡ false → last_stuck i (es ++ e ∷ []) ≡ last_stuck i es
  last-same es other = last-push es ∙ ap (λ (b : Bool). or_else (cond b (Some e) None) (last_stuck i es)) other

  pub last-here : (es : List Entry) → (is_stuck e.kind && (e.number == i)) ≡ true → last_stuck i (es ++ e ∷ []) ≡ Some e
  last-here es its = last-push es ∙ ap (λ (b : Bool). or_else (cond b (Some e) None) (last_stuck i es)) its

-- an entry of another kind is no note
pub last-other : (i : ℕ) (es : List Entry) (e : Entry) → is_stuck e.kind ≡ false → last_stuck i (es ++ e ∷ []) ≡ last_stuck i es
last-other i es e other = last-same i e es (ap (λ (b : Bool). b && (e.number == i)) other)
