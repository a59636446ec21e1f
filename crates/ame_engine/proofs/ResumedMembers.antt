-- The members of a replay as a pool.
use Rattle.std.proofs.Common.{Less, ◌≡◌, ℕ, ◌<◌, ◌≤◌, ◌==◌, suc, Bool, true, false, cond, if◌then◌else◌, List, [], ◌∷◌, ◌++◌, length, map, All, Some, None, option_map, refl, sym, ap, ◌∙◌, subst, arith, append_assoc, append-nil}
use Rattle.std.specs.List.{AllByRecursion}
use Rattle.std.specs.List.Sorted.{IsStrictlySortedBy}
use Rattle.std.specs.Map.{keys_of}
use Rattle.std.specs.BTreeMap.{is_at}
use Rattle.std.specs.Ordering.{nat_cmp}
use Rattle.std.proofs.lemmas.Bool.{eqb-true, eq-eqb, le-ltb, ne_eqb}
use Rattle.std.proofs.lemmas.List.{map-append}
use Rattle.std.proofs.lemmas.List.Elements.{All-nil, All-cons, All-head, All-tail}
use Rattle.ame_term.specs.Maps.{at}
use Rattle.ame_laws.specs.Orderly.{NumbersRise}
use Rattle.ame_laws.proofs.MapLemmas.{is_at-eq, lt-from_less}
use Rattle.ame_pool.specs.declared.member.Member.{Member}
use Rattle.ame_pool.specs.declared.member.MemberStanding.{MemberStanding}
use Rattle.ame_pool.specs.Members.{find, placed, IsRising}
use Rattle.ame_pool.specs.Roster.{Roster}
use Rattle.ame_pool.specs.Calls.{newcomer, joined}
use Rattle.ame_machine.specs.MachineView.{MachineView}
use Rattle.ame_engine.specs.Resuming.{AreMembersOf}

-- Lists of members by rising numbers

above-split : {M : Type 0} (P : Member M → Type 0) (ms : List (Member M)) (new : Member M) (rest : List (Member M)) → All P (ms ++ new ∷ rest) → P new
above-split P [] new rest all = All-head P new rest all
above-split P (m ∷ ms) new rest all = above-split P ms new rest (All-tail P m (ms ++ new ∷ rest) all)

rising-below : {M : Type 0} (ms : List (Member M)) (new : Member M) (rest : List (Member M)) → IsRising (ms ++ new ∷ rest) → All (λ m. m.number < new.number) ms
rising-below {M} [] new rest r = All-nil (λ (m : Member M). m.number < new.number)
rising-below {M} (m ∷ ms) new rest r =
    All-cons (λ (o : Member M). o.number < new.number) m ms (above-split (λ (o : Member M). m.number < o.number) ms new rest r.0) (rising-below ms new rest r.1)

placed-last : {M : Type 0} (new : Member M) (ms : List (Member M)) → All (λ m. m.number < new.number) ms → placed new ms ≡ ms ++ new ∷ []
placed-last new [] all = refl
placed-last {M} new (m ∷ ms) all =
    let under : m.number < new.number = All-head (λ (o : Member M). o.number < new.number) m ms all in
    let least : m.number ≤ new.number = omega arith in
    ap (λ (b : Bool). cond b (new ∷ m ∷ ms) (m ∷ placed new ms)) (le-ltb new.number m.number least)
    ∙ ap (λ (os : List (Member M)). m ∷ os) (placed-last new ms (All-tail (λ (o : Member M). o.number < new.number) m ms all))

absent-last : {M : Type 0} (n : ℕ) (ms : List (Member M)) → All (λ m. m.number < n) ms → find n ms ≡ None
absent-last n [] all = refl
absent-last {M} n (m ∷ ms) all =
    let under : m.number < n = All-head (λ (o : Member M). o.number < n) m ms all in
    ap (λ (b : Bool). cond b (Some m) (find n ms)) (ne_eqb m.number n (λ same. let one : m.number ≡ n = same in omega arith))
    ∙ absent-last n ms (All-tail (λ (o : Member M). o.number < n) m ms all)

module _ {C M : Type 0} (stage : C → M → MachineView) (code : C) where
  abbrev pub as_member : ℕ × M → Member M
  as_member e = newcomer e.0 e.1 (stage code e.1).inside

  -- the first members have joined, and there is room for the rest
  pub record Gathers (origin rest : List (ℕ × M)) (pool : Roster M) : Type 0 where
    pub list : map as_member origin ≡ pool.members ++ map as_member rest
    pub order : pool.order ≡ map (λ m. m.number) pool.members
    pub room : length rest ≤ pool.room

  above-all : (n : ℕ) (es : List (ℕ × M)) → AllByRecursion (λ k. nat_cmp n k ≡ Less) (keys_of es) → All (λ m. n < m.number) (map as_member es)
  above-all n [] all = All-nil (λ (m : Member M). n < m.number)
  above-all n (e ∷ es) all = All-cons (λ (m : Member M). n < m.number) (as_member e) (map as_member es) (lt-from_less n e.0 all.0) (above-all n es all.1)

  pub rising-members : (es : List (ℕ × M)) → NumbersRise es → IsRising (map as_member es)
  unfolding IsStrictlySortedBy
  rising-members [] rise = tt
  rising-members (e ∷ es) rise = (above-all e.0 es rise.0, rising-members es rise.1)

  module _ (origin rest behind : List (ℕ × M)) (pool : Roster M) (rise : NumbersRise origin) (g : Gathers origin rest pool) (number : ℕ) (machine : M)
      (first : rest ≡ (number, machine) ∷ behind) where
    list-first : map as_member origin ≡ pool.members ++ as_member (number, machine) ∷ map as_member behind
    list-first = g.list ∙ ap (λ (es : List (ℕ × M)). pool.members ++ map as_member es) first

    below : All (λ m. m.number < number) pool.members
    below = rising-below pool.members (as_member (number, machine)) (map as_member behind) (subst IsRising list-first (rising-members origin rise))

    pub is-absent : find number pool.members ≡ None
    is-absent = absent-last number pool.members below

    pub gathers-more : (inside : Bool) (later : Roster M) → inside ≡ (stage code machine).inside → later ≡ joined (newcomer number machine inside) pool → Gathers origin behind later
    gathers-more inside later flag is =
        let one = as_member (number, machine) in
        let now : later ≡ joined one pool = is ∙ ap (λ (b : Bool). joined (newcomer number machine b) pool) flag in
        let last = placed-last one pool.members below in
        subst (Gathers origin behind) (sym now) (record {
          list =
              list-first ∙ sym (append_assoc pool.members (one ∷ []) (map as_member behind))
              ∙ ap (λ (ms : List (Member M)). ms ++ map as_member behind) (sym last);
          order =
              ap (λ (ns : List ℕ). ns ++ number ∷ []) g.order ∙ sym (map-append (λ (m : Member M). m.number) pool.members (one ∷ []))
              ∙ ap (map (λ (m : Member M). m.number)) (sym last);
          room = let few = g.room in let count : length rest ≡ suc (length behind) = ap length first in omega arith;
        })

  all-ready : (es : List (ℕ × M)) → All (λ m. (m.standing ≡ MemberStanding.Ready) × (m.rollbacks ≡ 0)) (map as_member es)
  all-ready [] = All-nil (λ (m : Member M). (m.standing ≡ MemberStanding.Ready) × (m.rollbacks ≡ 0))
  all-ready (e ∷ es) = All-cons (λ (m : Member M). (m.standing ≡ MemberStanding.Ready) × (m.rollbacks ≡ 0)) (as_member e) (map as_member es) (refl, refl) (all-ready es)

  none-left : (es : List (ℕ × M)) → (0 < length es → ⊥) → es ≡ []
  none-left [] empty = refl
  none-left (e ∷ es) empty = absurd (empty (let some : 0 < length (e ∷ es) = omega arith in some))

  pub gathered : (origin rest : List (ℕ × M)) (pool : Roster M) → NumbersRise origin → Gathers origin rest pool → (0 < length rest → ⊥) → AreMembersOf stage code origin pool
  gathered origin rest pool rise g empty =
      let none = none-left rest empty in
      let all : pool.members ≡ map as_member origin = sym (g.list ∙ ap (λ (es : List (ℕ × M)). pool.members ++ map as_member es) none ∙ append-nil pool.members) in
      record {
        all = all;
        ready = record {
          rising = subst IsRising (sym all) (rising-members origin rise);
          ready = subst (All (λ (m : Member M). (m.standing ≡ MemberStanding.Ready) × (m.rollbacks ≡ 0))) (sym all) (all-ready origin);
          order = g.order;
        };
      }

  -- the member with a number
  pub member-at : (es : List (ℕ × M)) (i : ℕ) → find i (map as_member es) ≡ option_map (λ m. as_member (i, m)) (at es i)
  member-at [] i = refl
  member-at ((n, m) ∷ es) i = by (n == i) refl (member-at es i)
    where
      by : (b : Bool) → (n == i) ≡ b → find i (map as_member es) ≡ option_map (λ m. as_member (i, m)) (at es i) → find i (map as_member ((n, m) ∷ es)) ≡ option_map (λ m. as_member (i, m)) (at ((n, m) ∷ es) i)
      by true e rest =
          let same : n ≡ i = eqb-true n i e in
          let here : is_at (nat_cmp i) n ≡ true = is_at-eq i n ∙ subst (λ (k : ℕ). (i == k) ≡ true) (sym same) (eq-eqb i i refl) in
          ap (λ (b : Bool). cond b (Some (as_member (n, m))) (find i (map as_member es))) e
          ∙ ap (λ (k : ℕ). Some (as_member (k, m))) same
          ∙ sym (ap (λ (b : Bool). option_map (λ m. as_member (i, m)) (if b then Some m else at es i)) here)
      by false e rest =
          let apart : is_at (nat_cmp i) n ≡ false = is_at-eq i n ∙ ne_eqb i n (λ same. let clash : true ≡ false = sym (eq-eqb n i (sym same)) ∙ e in cc) in
          ap (λ (b : Bool). cond b (Some (as_member (n, m))) (find i (map as_member es))) e ∙ rest
          ∙ sym (ap (λ (b : Bool). option_map (λ m. as_member (i, m)) (if b then Some m else at es i)) apart)
