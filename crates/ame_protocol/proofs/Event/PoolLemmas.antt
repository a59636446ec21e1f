-- Pools after events: no member was rolled back more often than it may be, and who is busy was so before.
use Rattle.std.proofs.Common.{Bool, IsSomeAnd, IsTrue, List, None, Option, Some, [], ap, arith, cond, false}
use Rattle.std.proofs.Common.{inl, inr, option_map, refl, subst, sym, true, ℕ, ◌+◌, ◌∙◌, ◌∷◌, ◌≡◌, ◌⊎◌}
use Rattle.ame_term.specs.Tree.{Tree}
use Rattle.ame_pool.specs.Calls.{IsAt, at_home, at_rest, begun, exchanged, held, home, is_noted}
use Rattle.ame_pool.specs.Calls.{is_running, joined, newcomer, noted, noted_on, parked, removed, renewed, woken}
use Rattle.ame_pool.specs.Found.{IsFoundAfter}
use Rattle.ame_pool.specs.Members.{IsRising, find, is_busy}
use Rattle.ame_pool.specs.Roster.{Roster}
use Rattle.ame_pool.specs.Waking.{has, stirred_by}
use Rattle.ame_pool.specs.declared.member.Member.{Member}
use Rattle.ame_pool.specs.declared.member.MemberStanding.{MemberStanding}
use Rattle.ame_pool.proofs.MemberLemmas.{find_map, found_altered, found_except}
use Rattle.ame_protocol.specs.Engine.Events.{brought_home, with_newcomers, woken_for}
use Rattle.ame_protocol.specs.Engine.Tasks.{is_busy_as, is_noted_for}
use Rattle.ame_protocol.specs.declared.types.UndoReason.{UndoReason}
use Rattle.ame_protocol.proofs.Engine.GrowthLemmas.{IsFreeFrom, found-new, joined-free}
use Rattle.ame_protocol.proofs.Row.CellLemmas.{which}
use Rattle.ame_protocol.specs.Event.Rollbacks.{IsGoodPool}
use Rattle.ame_protocol.proofs.Event.RollbackLemmas.{good-home, good-joined, good-parked}

-- New members, and members that go home

pub good-newcomers : (next : ℕ) (bodies : List Tree) (pool : Roster Tree) → IsFreeFrom next pool → IsGoodPool pool → IsGoodPool
    (with_newcomers next bodies pool)
good-newcomers next [] pool free good = good
good-newcomers next (body ∷ bodies) pool free good =
    good-newcomers (next + 1) bodies (joined (newcomer next body false) pool) (joined-free next body pool free)
    (good-joined next body false pool (free next (omega arith)) good)

pub good-brought : (reason : UndoReason) (number : ℕ) (pool : Roster Tree) → IsGoodPool pool → IsGoodPool (brought_home reason number pool)
good-brought UndoReason.RolledBack number pool good = good-home number true pool good
good-brought UndoReason.Noted number pool good = good-parked number pool good
good-brought UndoReason.Stopped number pool good = good-home number false pool good

-- Busy members

-- busy members of a pool were so in another, and this one isn't busy any more
pub record LeavesBusy (old new : Roster Tree) (number : ℕ) : Type 0 where
  pub before : (i : ℕ) → IsAt is_busy i new → IsAt is_busy i old
  pub gone : IsAt is_busy number new → ⊥

busy-found : (old new : Roster Tree) (i : ℕ) → find i new.members ≡ find i old.members → IsAt is_busy i new → IsAt is_busy i old
busy-found old new i same h = subst (λ (o : Option (Member Tree)). IsSomeAnd o (λ m. IsTrue (is_busy m))) same h

-- one member is altered so that it isn't busy
module _ (number : ℕ) (f : Option (Member Tree) → Option (Member Tree)) (old new : Roster Tree) (found : IsFoundAfter number f old.members new.members)
    (calm : IsSomeAnd (f (find number old.members)) (λ m. IsTrue (is_busy m)) → ⊥) where
  pub leaves-altered : LeavesBusy old new number
  leaves-altered = record { before = λ i h. by i h (which i number); gone = gone }
    where
      gone : IsAt is_busy number new → ⊥
      gone h = calm (subst (λ (o : Option (Member Tree)). IsSomeAnd o (λ m. IsTrue (is_busy m))) found.here h)

      by : (i : ℕ) → IsAt is_busy i new → (i ≡ number) ⊎ ((i ≡ number) → ⊥) → IsAt is_busy i old
      by i h (inl same) = absurd (gone (subst (λ (k : ℕ). IsAt is_busy k new) same h))
      by i h (inr apart) = busy-found old new i (found.others i apart) h

none-busy : (o : Option (Member Tree)) (f : Member Tree → Member Tree) → ((m : Member Tree) → is_busy (f m) ≡ false)
    → IsSomeAnd (option_map f o) (λ m. IsTrue (is_busy m)) → ⊥
none-busy None f calm h = h
none-busy (Some m) f calm h = let clash : false ≡ true = sym (calm m) ∙ h in cc

pub leaves-home : (number : ℕ) (rolled : Bool) (pool : Roster Tree) → LeavesBusy pool (home number rolled pool) number
leaves-home number rolled pool =
    leaves-altered number (option_map (at_home rolled)) pool (home number rolled pool) (found_altered number (at_home rolled) (λ _. refl) pool.members)
    (none-busy (find number pool.members) (at_home rolled) (λ _. refl))

pub leaves-exchanged : (number : ℕ) (term : Tree) (inside : Bool) (pool : Roster Tree) → LeavesBusy pool (exchanged number term inside pool) number
leaves-exchanged number term inside pool =
    leaves-altered number (option_map (renewed term inside)) pool (exchanged number term inside pool)
    (found_altered number (renewed term inside) (λ _. refl) pool.members) (none-busy (find number pool.members) (renewed term inside) (λ _. refl))

pub leaves-removed : (number : ℕ) (pool : Roster Tree) → IsRising pool.members → LeavesBusy pool (removed number pool) number
leaves-removed number pool rising =
    leaves-altered number (λ _. None) pool (removed number pool) (found_except number pool.members rising) (λ h. h)

pub leaves-parked : (number : ℕ) (pool : Roster Tree) → IsAt is_noted number pool → LeavesBusy pool (parked number pool) number
leaves-parked number pool noted =
    leaves-altered number (option_map at_rest) pool (parked number pool) (found_altered number at_rest (λ _. refl) pool.members)
    (rests (find number pool.members) noted)
  where
    by : (m : Member Tree) (x : MemberStanding) → IsTrue (is_noted (record m { standing = x })) → IsTrue (is_busy (at_rest (record m { standing = x }))) → ⊥
    by m MemberStanding.Ready n h = let clash : false ≡ true = n in cc
    by m (MemberStanding.Busy None) n h = let clash : false ≡ true = n in cc
    by m (MemberStanding.Busy (Some w)) n h = touched w.touched h
      where
        touched : (b : Bool) → IsTrue (is_busy (record m { standing = cond b MemberStanding.Ready (MemberStanding.Parked w.locs) })) → ⊥
        touched true e = let clash : false ≡ true = e in cc
        touched false e = let clash : false ≡ true = e in cc
    by m (MemberStanding.Parked locs) n h = let clash : false ≡ true = n in cc

    rests : (o : Option (Member Tree)) → IsSomeAnd o (λ m. IsTrue (is_noted m)) → IsSomeAnd (option_map at_rest o) (λ m. IsTrue (is_busy m)) → ⊥
    rests None n h = h
    rests (Some m) n h = by m m.standing n h

-- a member goes home, by the reason
pub leaves-brought : (reason : UndoReason) (number : ℕ) (pool : Roster Tree) → IsAt (is_busy_as (is_noted_for reason)) number pool
    → LeavesBusy pool (brought_home reason number pool) number
leaves-brought UndoReason.RolledBack number pool busy = leaves-home number true pool
leaves-brought UndoReason.Noted number pool busy = leaves-parked number pool busy
leaves-brought UndoReason.Stopped number pool busy = leaves-home number false pool

-- who is woken isn't busy then, and who comes in isn't
pub busy-woken : (ls : List ℕ) (pool : Roster Tree) (i : ℕ) → IsAt is_busy i (woken_for ls pool) → IsAt is_busy i pool
busy-woken [] pool i h = h
busy-woken (l ∷ ls) pool i h =
    by (find i pool.members)
    (subst (λ (o : Option (Member Tree)). IsSomeAnd o (λ m. IsTrue (is_busy m))) (find_map (stirred_by l) (λ _. refl) i pool.members)
    (busy-woken ls (woken l pool) i h))
  where
    was : (m : Member Tree) (x : MemberStanding) → IsTrue (is_busy (stirred_by l (record m { standing = x }))) → IsTrue (is_busy (record m { standing = x }))
    was m MemberStanding.Ready e = e
    was m (MemberStanding.Busy None) e = e
    was m (MemberStanding.Busy (Some w)) e = refl
    was m (MemberStanding.Parked locs) e = parked-by (has l locs) e
      where
        parked-by : (b : Bool) → IsTrue (is_busy (record m { standing = cond b MemberStanding.Ready (MemberStanding.Parked locs) })) → false ≡ true
        parked-by true e = e
        parked-by false e = e

    by : (o : Option (Member Tree)) → IsSomeAnd (option_map (stirred_by l) o) (λ m. IsTrue (is_busy m)) → IsSomeAnd o (λ m. IsTrue (is_busy m))
    by None e = e
    by (Some m) e = was m m.standing e

pub busy-newcomers : (next : ℕ) (bodies : List Tree) (pool : Roster Tree) → IsFreeFrom next pool → (i : ℕ) → IsAt is_busy i (with_newcomers next bodies pool)
    → IsAt is_busy i pool
busy-newcomers next [] pool free i h = h
busy-newcomers next (body ∷ bodies) pool free i h =
    by (which i next) (busy-newcomers (next + 1) bodies (joined (newcomer next body false) pool) (joined-free next body pool free) i h)
  where
    by : (i ≡ next) ⊎ ((i ≡ next) → ⊥) → IsAt is_busy i (joined (newcomer next body false) pool) → IsAt is_busy i pool
    by (inl same) was =
        absurd (let clash : false ≡ true = subst (λ (o : Option (Member Tree)). IsSomeAnd o (λ m. IsTrue (is_busy m)))
        (ap (λ (k : ℕ). find k (joined (newcomer next body false) pool).members) same ∙ (found-new next body pool free).here) was in cc)
    by (inr apart) was = busy-found pool (joined (newcomer next body false) pool) i ((found-new next body pool free).others i apart) was

-- a noted member was busy
pub busy-noted : (number : ℕ) (locs : List ℕ) (pool : Roster Tree) (i : ℕ) → IsAt is_busy number pool → IsAt is_busy i (noted number locs pool)
    → IsAt is_busy i pool
busy-noted number locs pool i busy h = by (which i number)
  where
    by : (i ≡ number) ⊎ ((i ≡ number) → ⊥) → IsAt is_busy i pool
    by (inl same) = subst (λ (k : ℕ). IsAt is_busy k pool) (sym same) busy
    by (inr apart) = busy-found pool (noted number locs pool) i ((found_altered number (noted_on locs) (λ _. refl) pool.members).others i apart) h

-- who begins is busy, and no other
pub busy-held : (number : ℕ) (pool : Roster Tree) (i : ℕ) → (i ≡ number → ⊥) → IsAt is_busy i (held number pool) → IsAt is_busy i pool
busy-held number pool i apart h = busy-found pool (held number pool) i ((found_altered number begun (λ _. refl) pool.members).others i apart) h

-- a running member is busy
pub running-busy : (number : ℕ) (pool : Roster Tree) → IsAt (is_busy_as false) number pool → IsAt is_busy number pool
running-busy number pool h = by (find number pool.members) h
  where
    was : (m : Member Tree) (x : MemberStanding) → IsTrue (is_running (record m { standing = x })) → IsTrue (is_busy (record m { standing = x }))
    was m MemberStanding.Ready e = e
    was m (MemberStanding.Busy w) e = refl
    was m (MemberStanding.Parked locs) e = e

    by : (o : Option (Member Tree)) → IsSomeAnd o (λ m. IsTrue (is_busy_as false m)) → IsSomeAnd o (λ m. IsTrue (is_busy m))
    by None e = e
    by (Some m) e = was m m.standing e
