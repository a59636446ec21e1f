-- Members that are woken, and new ones.
use Rattle.std.proofs.Common.{◌≡◌, ℕ, ◌+◌, ◌<◌, ◌≤◌, ◌⊎◌, inl, inr, Bool, true, false, List, [], ◌∷◌, Option, Some, None, IsTrue, refl, sym, ap, ◌∙◌, subst, arith}
use Rattle.std.specs.Prelude.{option_map}
use Rattle.ame_term.specs.Tree.{Tree}
use Rattle.ame_term.specs.Maps.{at, put}
use Rattle.ame_laws.proofs.MapLemmas.{at-put_same, at-put_other}
use Rattle.ame_pool.specs.declared.member.Member.{Member}
use Rattle.ame_pool.specs.declared.member.MemberStanding.{MemberStanding}
use Rattle.ame_pool.specs.Members.{IsRising, find}
use Rattle.ame_pool.specs.Found.{IsFoundAfter}
use Rattle.ame_pool.specs.Roster.{Roster}
use Rattle.ame_pool.specs.Waking.{stirred, stirred_by}
use Rattle.ame_pool.specs.Calls.{IsAt, newcomer, joined, woken, machine_of, inside_of}
use Rattle.ame_pool.specs.Keeps.{is_inside_at}
use Rattle.ame_pool.proofs.MemberLemmas.{find_map, rising_map, found_placed}
use Rattle.ame_machine.specs.Run.AgreesWith.{with_members}
use Rattle.ame_protocol.proofs.Row.CellLemmas.{which}
use Rattle.ame_protocol.specs.Engine.Tasks.{is_busy_as}
use Rattle.ame_protocol.specs.Engine.Events.{woken_for, with_newcomers}
use Rattle.ame_protocol.proofs.Engine.PoolLemmas.{found-at, at-found, inside-same}

-- how often the member with a number was rolled back
abbrev pub rollbacks_of : ℕ → Roster Tree → Option ℕ
rollbacks_of i pool = option_map (λ (m : Member Tree). m.rollbacks) (find i pool.members)

-- a member stays as a seat has it
pub record Keeps (old new : Roster Tree) (i : ℕ) : Type 0 where
  pub machine : machine_of i new ≡ machine_of i old
  pub inside : inside_of i new ≡ inside_of i old
  pub rollbacks : rollbacks_of i new ≡ rollbacks_of i old
  pub busy : (noted : Bool) → IsAt (is_busy_as noted) i old → IsAt (is_busy_as noted) i new

pub keeps-on : (old mid new : Roster Tree) (i : ℕ) → Keeps old mid i → Keeps mid new i → Keeps old new i
keeps-on old mid new i a b = record { machine = b.machine ∙ a.machine; inside = b.inside ∙ a.inside; rollbacks = b.rollbacks ∙ a.rollbacks; busy = λ noted h. b.busy noted (a.busy noted h) }

pub keeps-same : (old new : Roster Tree) (i : ℕ) → find i new.members ≡ find i old.members → Keeps old new i
keeps-same old new i same = record {
  machine = ap (option_map (λ (m : Member Tree). m.machine)) same;
  inside = ap (option_map (λ (m : Member Tree). m.inside)) same;
  rollbacks = ap (option_map (λ (m : Member Tree). m.rollbacks)) same;
  busy = λ noted h. let m = found-at old i (is_busy_as noted) h in at-found new i (is_busy_as noted) m.0 (same ∙ m.1) m.2;
}

-- Woken members

stirred-busy : (l : ℕ) (noted : Bool) (m : Member Tree) → IsTrue (is_busy_as noted m) → IsTrue (is_busy_as noted (stirred_by l m))
stirred-busy l noted m h = by noted m.standing h
  where
    by : (noted : Bool) (x : MemberStanding) → IsTrue (is_busy_as noted (record m { standing = x })) → IsTrue (is_busy_as noted (record m { standing = stirred l x }))
    by true MemberStanding.Ready h = h
    by false MemberStanding.Ready h = h
    by true (MemberStanding.Busy None) h = h
    by false (MemberStanding.Busy None) h = h
    by true (MemberStanding.Busy (Some w)) h = h
    by false (MemberStanding.Busy (Some w)) h = h
    by true (MemberStanding.Parked locs) h = absurd (let clash : false ≡ true = h in cc)
    by false (MemberStanding.Parked locs) h = absurd (let clash : false ≡ true = h in cc)

tells-stirred : {X : Type 0} (l : ℕ) (tell : Member Tree → X) → ((m : Member Tree) → tell (stirred_by l m) ≡ tell m) → (o : Option (Member Tree))
    → option_map tell (option_map (stirred_by l) o) ≡ option_map tell o
tells-stirred l tell stays None = refl
tells-stirred l tell stays (Some m) = ap Some (stays m)

found-woken : (l i : ℕ) (pool : Roster Tree) → find i (woken l pool).members ≡ option_map (stirred_by l) (find i pool.members)
found-woken l i pool = find_map (stirred_by l) (λ _. refl) i pool.members

pub one-woken : (l : ℕ) (pool : Roster Tree) (i : ℕ) → Keeps pool (woken l pool) i
one-woken l pool i = record {
  machine = ap (option_map (λ (m : Member Tree). m.machine)) (found-woken l i pool) ∙ tells-stirred l (λ m. m.machine) (λ _. refl) (find i pool.members);
  inside = ap (option_map (λ (m : Member Tree). m.inside)) (found-woken l i pool) ∙ tells-stirred l (λ m. m.inside) (λ _. refl) (find i pool.members);
  rollbacks = ap (option_map (λ (m : Member Tree). m.rollbacks)) (found-woken l i pool) ∙ tells-stirred l (λ m. m.rollbacks) (λ _. refl) (find i pool.members);
  busy =
      λ noted h.
      let m = found-at pool i (is_busy_as noted) h in
      at-found (woken l pool) i (is_busy_as noted) (stirred_by l m.0) (found-woken l i pool ∙ ap (option_map (stirred_by l)) m.1) (stirred-busy l noted m.0 m.2);
}

pub woken-keeps : (ls : List ℕ) (pool : Roster Tree) (i : ℕ) → Keeps pool (woken_for ls pool) i
woken-keeps [] pool i = keeps-same pool pool i refl
woken-keeps (l ∷ ls) pool i = keeps-on pool (woken l pool) (woken_for ls (woken l pool)) i (one-woken l pool i) (woken-keeps ls (woken l pool) i)

-- New members

-- no member has this number or a greater one
abbrev pub IsFreeFrom : ℕ → Roster Tree → Type 0
IsFreeFrom next pool = (k : ℕ) → next ≤ k → find k pool.members ≡ None

none-told : {X : Type 0} (tell : Member Tree → X) (o : Option (Member Tree)) → option_map tell o ≡ None → o ≡ None
none-told tell None e = refl
none-told tell (Some m) e = absurd (let clash : ◌≡◌ {A = Option _} (Some (tell m)) None = e in cc)

pub free-told : (next : ℕ) (pool : Roster Tree) → ((k : ℕ) → next ≤ k → machine_of k pool ≡ None) → IsFreeFrom next pool
free-told next pool none k above = none-told (λ m. m.machine) (find k pool.members) (none k above)

pub woken-free : (next : ℕ) (ls : List ℕ) (pool : Roster Tree) → IsFreeFrom next pool → IsFreeFrom next (woken_for ls pool)
woken-free next ls pool free =
    free-told next (woken_for ls pool) (λ k above. (woken-keeps ls pool k).machine ∙ ap (option_map (λ (m : Member Tree). m.machine)) (free k above))

module _ (next : ℕ) (body : Tree) (pool : Roster Tree) (free : IsFreeFrom next pool) where
  abbrev larger : Roster Tree
  larger = joined (newcomer next body false) pool

  pub found-new : IsFoundAfter next (λ _. Some (newcomer next body false)) pool.members larger.members
  found-new = found_placed (newcomer next body false) pool.members (free next (omega arith))

  pub joined-free : IsFreeFrom (next + 1) larger
  joined-free k above = found-new.others k (λ same. absurd (omega arith)) ∙ free k (omega arith)

  joined-keeps : (i : ℕ) → (i ≡ next → ⊥) → Keeps pool larger i
  joined-keeps i apart = keeps-same pool larger i (found-new.others i apart)

  joined-machine : (members : List (ℕ × Tree)) → ((k : ℕ) → at members k ≡ machine_of k pool) → (k : ℕ) → at (put members next body) k ≡ machine_of k larger
  joined-machine members same k = by (which k next)
    where
      by : (k ≡ next) ⊎ ((k ≡ next) → ⊥) → at (put members next body) k ≡ machine_of k larger
      by (inl here) =
          subst (λ (m : ℕ). at (put members next body) m ≡ machine_of m larger) (sym here)
          (at-put_same members next body ∙ sym (ap (option_map (λ (m : Member Tree). m.machine)) found-new.here))
      by (inr apart) = at-put_other members next k body (λ e. apart (sym e)) ∙ same k ∙ sym (joined-keeps k apart).machine

  joined-inside : (k : ℕ) → is_inside_at larger.members k ≡ is_inside_at pool.members k
  joined-inside k = by (which k next)
    where
      by : (k ≡ next) ⊎ ((k ≡ next) → ⊥) → is_inside_at larger.members k ≡ is_inside_at pool.members k
      by (inl here) =
          subst (λ (m : ℕ). is_inside_at larger.members m ≡ is_inside_at pool.members m) (sym here)
          (ap (λ (o : Option (Member Tree)). (elim o [ None ↦ false | Some m ↦ m.inside ])) found-new.here
          ∙ sym (ap (λ (o : Option (Member Tree)). (elim o [ None ↦ false | Some m ↦ m.inside ])) (free next (omega arith))))
      by (inr apart) = inside-same pool.members larger.members k (joined-keeps k apart).inside

pub newcomers-keep : (next : ℕ) (bodies : List Tree) (pool : Roster Tree) → IsFreeFrom next pool → (i : ℕ) → i < next → Keeps pool (with_newcomers next bodies pool) i
newcomers-keep next [] pool free i below = keeps-same pool pool i refl
newcomers-keep next (body ∷ bodies) pool free i below =
    let mid = joined (newcomer next body false) pool in
    keeps-on pool mid (with_newcomers (next + 1) bodies mid) i (joined-keeps next body pool free i (λ same. absurd (omega arith)))
    (newcomers-keep (next + 1) bodies mid (joined-free next body pool free) i (omega arith))

pub newcomers-told : (next : ℕ) (bodies : List Tree) (members : List (ℕ × Tree)) (pool : Roster Tree) → IsFreeFrom next pool → ((k : ℕ) → at members k ≡ machine_of k pool)
    → (k : ℕ) → at (with_members members next bodies) k ≡ machine_of k (with_newcomers next bodies pool)
newcomers-told next [] members pool free same k = same k
newcomers-told next (body ∷ bodies) members pool free same k =
    newcomers-told (next + 1) bodies (put members next body) (joined (newcomer next body false) pool) (joined-free next body pool free)
    (joined-machine next body pool free members same) k

pub newcomers-inside : (next : ℕ) (bodies : List Tree) (pool : Roster Tree) → IsFreeFrom next pool → (k : ℕ)
    → is_inside_at (with_newcomers next bodies pool).members k ≡ is_inside_at pool.members k
newcomers-inside next [] pool free k = refl
newcomers-inside next (body ∷ bodies) pool free k =
    newcomers-inside (next + 1) bodies (joined (newcomer next body false) pool) (joined-free next body pool free) k ∙ joined-inside next body pool free k

-- Numbers still rise

pub woken-rising : (ls : List ℕ) (pool : Roster Tree) → IsRising pool.members → IsRising (woken_for ls pool).members
woken-rising [] pool rising = rising
woken-rising (l ∷ ls) pool rising = woken-rising ls (woken l pool) (rising_map (stirred_by l) (λ _. refl) pool.members rising)

pub newcomers-rising : (next : ℕ) (bodies : List Tree) (pool : Roster Tree) → IsFreeFrom next pool → IsRising pool.members → IsRising (with_newcomers next bodies pool).members
newcomers-rising next [] pool free rising = rising
newcomers-rising next (body ∷ bodies) pool free rising =
    newcomers-rising (next + 1) bodies (joined (newcomer next body false) pool) (joined-free next body pool free) ((found-new next body pool free).rising rising)
