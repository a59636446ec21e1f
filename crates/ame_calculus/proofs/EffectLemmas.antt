-- A weak state with all that is held in effect, and a step of its active member there.
use Rattle.std.proofs.Common.{◌≡◌, ℕ, ◌+◌, ◌<◌, ◌++◌, ℤ, true, List, [], ◌∷◌, length, Option, Some, None, is_some, option_map, if◌then◌else◌, refl, sym, ap, ◌∙◌, subst, arith, append-nil, append_assoc, length-append}
use Rattle.ame_term.specs.Tree.{Val, Tree, unit_tree}
use Rattle.ame_term.specs.Act.{Act}
use Rattle.ame_term.specs.Maps.{at, put, change, without}
use Rattle.ame_term.specs.State.{State, allocated, performed}
use Rattle.ame_term.specs.declared.semantics.StepKind.{StepKind}
use Rattle.ame_laws.specs.Orderly.{IsOrderly, NumbersRise}
use Rattle.ame_laws.proofs.MapLemmas.{at-change_same, at-change_other, at-without_same, at-without_other, found-alike, numbers-at, rise-change, rise-without}
use Rattle.ame_laws.proofs.OrderlyLemmas.{performed-goes}
use Rattle.ame_machine.specs.Run.AgreesWith.{with_members}
use Rattle.ame_machine.proofs.Run.EffectLemmas.{joined-last}
use Rattle.ame_strong.specs.Plan.{with_one_member}
use Rattle.ame_weak.specs.Weak.{Weak, holding_none, moved, held_performed, with_output, all_joined, with_held_released}
use Rattle.ame_weak.proofs.HeldSteps.{map-gave}
use Rattle.ame_weak.proofs.MemberLemmas.{same_or, joined-alike, joined-below, joined-rise}
use Rattle.ame_weak.proofs.ReleaseLemmas.{joined-none}

-- the strong state in which all that is held is in effect
abbrev pub in_effect : Weak → State
in_effect w = (with_held_released w).state

-- The state of a weak run: it is orderly, and while nothing is active nothing is held.
pub record IsHeld (w : Weak) : Type 0 where
  pub orderly : IsOrderly w.state
  pub no_prints : w.state.active ≡ None → w.prints ≡ []
  pub no_spawns : w.state.active ≡ None → w.spawns ≡ []

pub none-held : (s : State) → in_effect (holding_none s) ≡ s
none-held s =
    let out : s.output ++ [] ≡ s.output = append-nil s.output in
    let next : s.next + 0 ≡ s.next = omega arith in
    λ i. record s { output = out i; next = next i }

pub idle-is : (w : Weak) → IsHeld w → w.state.active ≡ None → w ≡ holding_none w.state
idle-is w h idle =
    let a : w.prints ≡ [] = h.no_prints idle in
    let b : w.spawns ≡ [] = h.no_spawns idle in
    λ i. record { state = w.state; prints = a i; spawns = b i }

pub idle-effect : (w : Weak) → IsHeld w → w.state.active ≡ None → in_effect w ≡ w.state
idle-effect w h idle = ap in_effect (idle-is w h idle) ∙ none-held w.state

pub below-next : (s : State) (i : ℕ) → IsOrderly s → is_some (at s.members i) ≡ true → i < s.next
below-next s i o there = numbers-at (λ k. k < s.next) s.members i there o.members_below

-- the active member is the same
pub active-same : (w : Weak) (i : ℕ) → IsHeld w → w.state.active ≡ Some i → at (in_effect w).members i ≡ at w.state.members i
active-same w i h is = joined-below w.state.members w.state.next w.spawns i (below-next w.state i h.orderly (h.orderly.active_there i is))

-- New members, and one that is changed or removed

module _ (ms : List (ℕ × Tree)) (next : ℕ) (bodies : List Tree) (i : ℕ) (rise : NumbersRise ms) (below : i < next) where
  pub joined-changed : (x : Tree) → is_some (at ms i) ≡ true → with_members (change ms i x) next bodies ≡ change (with_members ms next bodies) i x
  joined-changed x there =
      found-alike (with_members (change ms i x) next bodies) (change (with_members ms next bodies) i x)
      (joined-rise (change ms i x) next bodies (rise-change ms i x rise))
      (rise-change (with_members ms next bodies) i x (joined-rise ms next bodies rise))
      (λ k.
      same_or i k (at (with_members (change ms i x) next bodies) k ≡ at (change (with_members ms next bodies) i x) k)
      (λ e. subst (λ (m : ℕ). at (with_members (change ms i x) next bodies) m ≡ at (change (with_members ms next bodies) i x) m) e own)
      (λ apart.
      joined-alike (change ms i x) ms next bodies k (at-change_other ms i k x apart)
      ∙ sym (at-change_other (with_members ms next bodies) i k x apart)))
    where
      own : at (with_members (change ms i x) next bodies) i ≡ at (change (with_members ms next bodies) i x) i
      own =
          joined-below (change ms i x) next bodies i below ∙ at-change_same ms i x there
          ∙ sym (at-change_same (with_members ms next bodies) i x (ap is_some (joined-below ms next bodies i below) ∙ there))

  pub joined-removed : with_members (without ms i) next bodies ≡ without (with_members ms next bodies) i
  joined-removed =
      found-alike (with_members (without ms i) next bodies) (without (with_members ms next bodies) i)
      (joined-rise (without ms i) next bodies (rise-without ms i rise))
      (rise-without (with_members ms next bodies) i (joined-rise ms next bodies rise))
      (λ k.
      same_or i k (at (with_members (without ms i) next bodies) k ≡ at (without (with_members ms next bodies) i) k)
      (λ e. subst (λ (m : ℕ). at (with_members (without ms i) next bodies) m ≡ at (without (with_members ms next bodies) i) m) e own)
      (λ apart.
      joined-alike (without ms i) ms next bodies k (at-without_other ms i k apart)
      ∙ sym (at-without_other (with_members ms next bodies) i k apart)))
    where
      own : at (with_members (without ms i) next bodies) i ≡ at (without (with_members ms next bodies) i) i
      own =
          joined-below (without ms i) next bodies i below ∙ at-without_same ms i rise
          ∙ sym (at-without_same (with_members ms next bodies) i (joined-rise ms next bodies rise))

-- one more member is the last of those that join
one-joined : (s : State) (bodies : List Tree) (body : Tree) → with_one_member (all_joined s bodies) body ≡ all_joined s (bodies ++ body ∷ [])
one-joined s bodies body =
    let longer : length (bodies ++ body ∷ []) ≡ length bodies + 1 = length-append bodies (body ∷ []) in
    let count : (s.next + length bodies) + 1 ≡ s.next + length (bodies ++ body ∷ []) = omega arith in
    let members : put (with_members s.members s.next bodies) (s.next + length bodies) body ≡ with_members s.members s.next (bodies ++ body ∷ []) =
    sym (joined-last s.members s.next bodies body) in
    λ i. record s { members = members i; next = count i }

-- all in effect, the state is orderly
all-orderly : (s : State) (bodies : List Tree) → IsOrderly s → IsOrderly (all_joined s bodies)
all-orderly s [] o = subst IsOrderly (joined-none s) o
all-orderly s (body ∷ bodies) o =
    let one : IsOrderly (with_one_member s body) = (performed-goes StepKind.Spawn (Act.Spawns body) s (unit_tree, with_one_member s body) refl).orderly o in
    let count : (s.next + 1) + length bodies ≡ s.next + length (body ∷ bodies) = omega arith in
    let path : all_joined (with_one_member s body) bodies ≡ all_joined s (body ∷ bodies) = λ i. record (all_joined (with_one_member s body) bodies) { next = count i } in
    subst IsOrderly path (all-orderly (with_one_member s body) bodies one)

pub effect-orderly : (w : Weak) → IsOrderly w.state → IsOrderly (in_effect w)
effect-orderly w o =
    all-orderly (with_output w.state (w.state.output ++ w.prints)) w.spawns
    (record { members_rise = o.members_rise; store_rises = o.store_rises; members_below = o.members_below; active_there = o.active_there })

-- An act

-- An act that is made with all in effect is also made while it is held, and comes to the same.
pub record IsActedToo (w : Weak) (kind : StepKind) (act : Act) (made : Tree × State) : Type 0 where
  pub behind : Weak
  pub performs : held_performed kind act w ≡ Some (made.0, behind)
  pub effect : in_effect behind ≡ made.1
  pub members : behind.state.members ≡ w.state.members
  pub active : behind.state.active ≡ w.state.active

module _ (w : Weak) where
  its : (kind : StepKind) (act : Act) (made other : Tree × State) → Some other ≡ Some made → IsActedToo w kind act other → IsActedToo w kind act made
  its kind act made other e x = let same : other ≡ made = cc in subst (IsActedToo w kind act) same x

  read-too : (kind : StepKind) (act : Act) (l : ℕ) (made : Tree × State)
      → ((o : Option Val) → at w.state.store l ≡ o
      → held_performed kind act w ≡ option_map {T = Tree × State} {U = Tree × Weak} (λ m. (m.0, moved w m.1)) (option_map {U = Tree × State} (λ v. (Tree.Held v, w.state)) o))
      → option_map {U = Tree × State} (λ v. (Tree.Held v, in_effect w)) (at w.state.store l) ≡ Some made → IsActedToo w kind act made
  read-too kind act l made held e =
      let m = map-gave (λ v. (Tree.Held v, in_effect w)) (at w.state.store l) made e in
      its kind act made (Tree.Held m.0, in_effect w) (ap Some m.2) (record { behind = w; performs = held (Some m.0) m.1; effect = refl; members = refl; active = refl })

  alloc-too : (kind : StepKind) (act : Act) (l : ℕ) (v : Val) (made : Tree × State) → held_performed kind act w
      ≡ option_map {T = Tree × State} {U = Tree × Weak} (λ m. (m.0, moved w m.1)) (allocated v w.state l) → (o : Option Val) → at w.state.store l ≡ o
      → (if is_some o then None else Some (Tree.Held (Val.Loc l), record (in_effect w) { store = put w.state.store l v })) ≡ Some made → IsActedToo w kind act made
  alloc-too kind act l v made held None free e =
      its kind act made (Tree.Held (Val.Loc l), record (in_effect w) { store = put w.state.store l v }) e (record {
        behind = moved w (record w.state { store = put w.state.store l v });
        performs =
            held
            ∙ ap
            (λ (o : Option Val).
            option_map {T = Tree × State} {U = Tree × Weak} (λ m. (m.0, moved w m.1))
            (if is_some o then None else Some (Tree.Held (Val.Loc l), record w.state { store = put w.state.store l v })))
            free;
        effect = refl;
        members = refl;
        active = refl;
      })
  alloc-too kind act l v made held (Some x) free e = cc

  pub acted-too : (kind : StepKind) (act : Act) (made : Tree × State) → performed kind act (in_effect w) ≡ Some made → IsActedToo w kind act made
  acted-too kind (Act.Becomes term) made e =
      its kind (Act.Becomes term) made (term, in_effect w) e (record { behind = w; performs = refl; effect = refl; members = refl; active = refl })
  acted-too (StepKind.Alloc l) (Act.Allocates sort number v) made e = alloc-too (StepKind.Alloc l) (Act.Allocates sort number v) l.0 v made refl (at w.state.store l.0) refl e
  acted-too _ (Act.Allocates sort number v) made e = cc
  acted-too kind (Act.Reads l) made e =
      read-too kind (Act.Reads l) l made
      (λ o is. ap (λ (z : Option Val). option_map {T = Tree × State} {U = Tree × Weak} (λ m. (m.0, moved w m.1)) (option_map {U = Tree × State} (λ v. (Tree.Held v, w.state)) z)) is) e
  acted-too kind (Act.Peeks l) made e =
      read-too kind (Act.Peeks l) l made
      (λ o is. ap (λ (z : Option Val). option_map {T = Tree × State} {U = Tree × Weak} (λ m. (m.0, moved w m.1)) (option_map {U = Tree × State} (λ v. (Tree.Held v, w.state)) z)) is) e
  acted-too kind (Act.Writes l v) made e =
      its kind (Act.Writes l v) made (unit_tree, record (in_effect w) { store = put w.state.store l v }) e
      (record { behind = moved w (record w.state { store = put w.state.store l v }); performs = refl; effect = refl; members = refl; active = refl })
  acted-too kind (Act.Spawns body) made e =
      its kind (Act.Spawns body) made (unit_tree, with_one_member (in_effect w) body) e (record {
        behind = record w { spawns = w.spawns ++ body ∷ [] };
        performs = refl;
        effect = sym (one-joined (with_output w.state (w.state.output ++ w.prints)) w.spawns body);
        members = refl;
        active = refl;
      })
  acted-too kind (Act.Prints n) made e =
      its kind (Act.Prints n) made (unit_tree, record (in_effect w) { output = (w.state.output ++ w.prints) ++ n ∷ [] }) e (record {
        behind = record w { prints = w.prints ++ n ∷ [] };
        performs = refl;
        effect = ap (λ (xs : List ℤ). record (in_effect w) { output = xs }) (sym (append_assoc w.state.output w.prints (n ∷ [])));
        members = refl;
        active = refl;
      })
  acted-too kind Act.Passes made e =
      its kind Act.Passes made (unit_tree, in_effect w) e (record { behind = w; performs = refl; effect = refl; members = refl; active = refl })
  acted-too (StepKind.Device answer) (Act.Calls device n) made e =
      its (StepKind.Device answer) (Act.Calls device n) made (Tree.Held (Val.Int answer), in_effect w) e
      (record { behind = w; performs = refl; effect = refl; members = refl; active = refl })
  acted-too _ (Act.Calls device n) made e = cc
  acted-too kind _ made e = cc
