-- Members of a pool by number.
use Rattle.std.proofs.Common.{◌≡◌, ℕ, ◌⊎◌, inl, inr, Bool, true, false, List, Option, Some, None, IsSomeAnd, IsTrue, refl, sym, ap, ◌∙◌, subst}
use Rattle.std.specs.Prelude.{option_map, unwrap_or, is_some, is_none, if◌then◌else◌}
use Rattle.ame_term.specs.Tree.{Tree, unit_tree}
use Rattle.ame_pool.specs.declared.member.Member.{Member}
use Rattle.ame_pool.specs.declared.member.MemberStanding.{MemberStanding}
use Rattle.ame_pool.specs.Members.{find, is_ready}
use Rattle.ame_pool.specs.Found.{IsFoundAfter}
use Rattle.ame_pool.specs.Roster.{Roster}
use Rattle.ame_pool.specs.Calls.{IsAt, machine_of}
use Rattle.ame_pool.specs.Keeps.{is_inside_at}
use Rattle.ame_protocol.proofs.Row.CellLemmas.{which}
use Rattle.ame_protocol.specs.Engine.Parts.{term_at}
use Rattle.ame_protocol.specs.Engine.Tasks.{is_busy_as}

-- what passes a test is there
found-by : (pool : Roster Tree) (i : ℕ) (o : Option (Member Tree)) (test : Member Tree → Bool) → IsSomeAnd o (λ m. IsTrue (test m))
    → option_map (λ m. m.machine) o ≡ Some (unwrap_or (option_map (λ m. m.machine) o) unit_tree)
found-by pool i None test h = absurd h
found-by pool i (Some m) test h = refl

pub found-machine : (pool : Roster Tree) (i : ℕ) (noted : Bool) → IsAt (is_busy_as noted) i pool → machine_of i pool ≡ Some (term_at pool i)
found-machine pool i noted h = found-by pool i (find i pool.members) (is_busy_as noted) h

-- a busy member isn't ready
busy-not_ready : (noted : Bool) (m : Member Tree) → IsTrue (is_busy_as noted m) → IsTrue (is_ready m) → ⊥
busy-not_ready noted m busy ready = by noted m.standing busy ready
  where
    by : (noted : Bool) (x : MemberStanding) → IsTrue (if noted then elim x [ MemberStanding.Ready ↦ false | MemberStanding.Busy w ↦ is_some w | MemberStanding.Parked _ ↦ false ] else elim x [ MemberStanding.Ready ↦ false | MemberStanding.Busy w ↦ is_none w | MemberStanding.Parked _ ↦ false ])
        → IsTrue (elim x [ MemberStanding.Ready ↦ true | MemberStanding.Busy _ ↦ false | MemberStanding.Parked _ ↦ false ]) → ⊥
    by true MemberStanding.Ready busy ready = cc
    by false MemberStanding.Ready busy ready = cc
    by noted (MemberStanding.Busy w) busy ready = cc
    by noted (MemberStanding.Parked locs) busy ready = cc

-- One member is altered

module _ (n : ℕ) (f : Member Tree → Member Tree) (ms ns : List (Member Tree)) (found : IsFoundAfter n (option_map f) ms ns) where
  -- A fact of a member stays if the change of a member keeps it.
  pub told-stays : {X : Type 0} (tell : Option (Member Tree) → X) → ((o : Option (Member Tree)) → tell (option_map f o) ≡ tell o) → (i : ℕ) → tell (find i ns) ≡ tell (find i ms)
  told-stays tell stays i = by (which i n)
    where
      by : (i ≡ n) ⊎ ((i ≡ n) → ⊥) → tell (find i ns) ≡ tell (find i ms)
      by (inl same) = subst (λ (k : ℕ). tell (find k ns) ≡ tell (find k ms)) (sym same) (ap tell found.here ∙ stays (find n ms))
      by (inr apart) = ap tell (found.others i apart)

  module _ (machine : (m : Member Tree) → (f m).machine ≡ m.machine) (inside : (m : Member Tree) → (f m).inside ≡ m.inside) where
    machine-of : (o : Option (Member Tree)) → option_map (λ (m : Member Tree). m.machine) (option_map f o) ≡ option_map (λ (m : Member Tree). m.machine) o
    machine-of None = refl
    machine-of (Some m) = ap Some (machine m)

    inside-of : (o : Option (Member Tree)) → option_map (λ (m : Member Tree). m.inside) (option_map f o) ≡ option_map (λ (m : Member Tree). m.inside) o
    inside-of None = refl
    inside-of (Some m) = ap Some (inside m)

    pub machines-stay : (i : ℕ) → option_map (λ (m : Member Tree). m.machine) (find i ns) ≡ option_map (λ (m : Member Tree). m.machine) (find i ms)
    machines-stay i = told-stays (option_map (λ (m : Member Tree). m.machine)) machine-of i

    pub sides-stay : (i : ℕ) → option_map (λ (m : Member Tree). m.inside) (find i ns) ≡ option_map (λ (m : Member Tree). m.inside) (find i ms)
    sides-stay i = told-stays (option_map (λ (m : Member Tree). m.inside)) inside-of i

-- A member is inside as its entry in the list says.
pub inside-told : (ms : List (Member Tree)) (i : ℕ) → is_inside_at ms i ≡ unwrap_or (option_map (λ (m : Member Tree). m.inside) (find i ms)) false
inside-told ms i = by (find i ms)
  where
    by : (o : Option (Member Tree)) → (elim o [ None ↦ false | Some m ↦ m.inside ]) ≡ unwrap_or (option_map (λ (m : Member Tree). m.inside) o) false
    by None = refl
    by (Some m) = refl

pub inside-same : (ms ns : List (Member Tree)) (i : ℕ) → option_map (λ (m : Member Tree). m.inside) (find i ns) ≡ option_map (λ (m : Member Tree). m.inside) (find i ms)
    → is_inside_at ns i ≡ is_inside_at ms i
inside-same ms ns i e = inside-told ns i ∙ ap (λ (o : Option Bool). unwrap_or o false) e ∙ sym (inside-told ms i)

-- a member that is found passes what its number passes
pub found-at : (pool : Roster Tree) (i : ℕ) (test : Member Tree → Bool) → IsAt test i pool → (m : Member Tree) × (find i pool.members ≡ Some m) × IsTrue (test m)
found-at pool i test h = by (find i pool.members) refl h
  where
    by : (o : Option (Member Tree)) → find i pool.members ≡ o → IsSomeAnd o (λ m. IsTrue (test m)) → (m : Member Tree) × (find i pool.members ≡ Some m) × IsTrue (test m)
    by None e h = absurd h
    by (Some m) e h = (m, e, h)

pub at-found : (pool : Roster Tree) (i : ℕ) (test : Member Tree → Bool) (m : Member Tree) → find i pool.members ≡ Some m → IsTrue (test m) → IsAt test i pool
at-found pool i test m e h = subst (λ (o : Option (Member Tree)). IsSomeAnd o (λ x. IsTrue (test x))) (sym e) h

-- a busy member is another one than a ready one
pub busy-apart : (pool : Roster Tree) (i n : ℕ) (noted : Bool) → IsAt (is_busy_as noted) i pool → IsAt is_ready n pool → i ≡ n → ⊥
busy-apart pool i n noted busy ready same =
    let a = found-at pool i (is_busy_as noted) busy in
    let b = found-at pool n is_ready ready in
    let both : ◌≡◌ {A = Option (Member Tree)} (Some a.0) (Some b.0) = sym a.1 ∙ ap (λ (k : ℕ). find k pool.members) same ∙ b.1 in
    let one : a.0 ≡ b.0 = cc in
    busy-not_ready noted b.0 (subst (λ (m : Member Tree). IsTrue (is_busy_as noted m)) one a.2) b.2
