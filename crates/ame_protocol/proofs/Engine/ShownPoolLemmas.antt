-- A pool's calls on machines of any kind are those on terms.
use Rattle.std.proofs.Common.{◌≡◌, ℕ, ◌==◌, Bool, true, false, cond, List, [], ◌∷◌, ◌++◌, map, Option, Some, None, refl, sym, ap, ◌∙◌}
use Rattle.std.specs.Prelude.{nat_lt, option_map}
use Rattle.std.specs.List.{filter}
use Rattle.ame_term.specs.Tree.{Tree}
use Rattle.ame_pool.specs.declared.member.Member.{Member}
use Rattle.ame_pool.specs.Members.{find, altered, placed, except}
use Rattle.ame_pool.specs.Standings.{is_touched}
use Rattle.ame_pool.specs.Waking.{stirred_by, is_woken_by, woken_by}
use Rattle.ame_pool.specs.Roster.{Roster}
use Rattle.ame_pool.specs.Calls.{newcomer, begun, at_home, renewed, noted_on, at_rest, is_touched_at, joined, held, home, exchanged, removed, noted, parked, woken, machine_of, inside_of}
use Rattle.ame_protocol.specs.Engine.Shown.{shown_member, shown_pool}

module _ {M : Type 0} (term : M → Tree) where
  abbrev show : Member M → Member Tree
  show m = shown_member term m

  pub found-shown : (n : ℕ) (ms : List (Member M)) → find n (map show ms) ≡ option_map show (find n ms)
  found-shown n [] = refl
  found-shown n (m ∷ ms) = ap (cond (m.number == n) (Some (show m))) (found-shown n ms) ∙ by (m.number == n)
    where
      by : (b : Bool) → cond b (Some (show m)) (option_map show (find n ms)) ≡ option_map show (cond b (Some m) (find n ms))
      by true = refl
      by false = refl

  altered-shown : (n : ℕ) (f : Member M → Member M) (g : Member Tree → Member Tree) → ((m : Member M) → show (f m) ≡ g (show m)) → (ms : List (Member M))
      → map show (altered n f ms) ≡ altered n g (map show ms)
  altered-shown n f g same [] = refl
  altered-shown n f g same (m ∷ ms) = by (m.number == n) ∙ ap (λ (xs : List (Member Tree)). cond (m.number == n) (g (show m) ∷ map show ms) (show m ∷ xs)) (altered-shown n f g same ms)
    where
      by : (b : Bool) → map show (cond b (f m ∷ ms) (m ∷ altered n f ms)) ≡ cond b (g (show m) ∷ map show ms) (show m ∷ map show (altered n f ms))
      by true = ap (λ (x : Member Tree). x ∷ map show ms) (same m)
      by false = refl

  placed-shown : (new : Member M) (ms : List (Member M)) → map show (placed new ms) ≡ placed (show new) (map show ms)
  placed-shown new [] = refl
  placed-shown new (m ∷ ms) =
      by (nat_lt new.number m.number) ∙ ap (λ (xs : List (Member Tree)). cond (nat_lt new.number m.number) (show new ∷ show m ∷ map show ms) (show m ∷ xs)) (placed-shown new ms)
    where
      by : (b : Bool) → map show (cond b (new ∷ m ∷ ms) (m ∷ placed new ms)) ≡ cond b (show new ∷ show m ∷ map show ms) (show m ∷ map show (placed new ms))
      by true = refl
      by false = refl

  except-shown : (n : ℕ) (ms : List (Member M)) → map show (except n ms) ≡ except n (map show ms)
  except-shown n [] = refl
  except-shown n (m ∷ ms) = by (m.number == n) ∙ ap (λ (xs : List (Member Tree)). cond (m.number == n) (map show ms) (show m ∷ xs)) (except-shown n ms)
    where
      by : (b : Bool) → map show (cond b ms (m ∷ except n ms)) ≡ cond b (map show ms) (show m ∷ map show (except n ms))
      by true = refl
      by false = refl

  stirred-shown : (l : ℕ) (ms : List (Member M)) → map show (map (stirred_by l) ms) ≡ map (stirred_by l) (map show ms)
  stirred-shown l [] = refl
  stirred-shown l (m ∷ ms) = ap (λ (xs : List (Member Tree)). stirred_by l (show m) ∷ xs) (stirred-shown l ms)

  woken-by : (l : ℕ) (ms : List (Member M)) → woken_by l (map show ms) ≡ woken_by l ms
  woken-by l [] = refl
  woken-by l (m ∷ ms) = by (is_woken_by l m) (woken-by l ms)
    where
      by : (b : Bool) → woken_by l (map show ms) ≡ woken_by l ms
          → map (λ (x : Member Tree). x.number) (cond b (show m ∷ filter (is_woken_by l) (map show ms)) (filter (is_woken_by l) (map show ms)))
          ≡ map (λ (x : Member M). x.number) (cond b (m ∷ filter (is_woken_by l) ms) (filter (is_woken_by l) ms))
      by true rest = ap (λ (xs : List ℕ). m.number ∷ xs) rest
      by false rest = rest

  -- Calls

  with-order : (ms ns : List (Member Tree)) (order : List ℕ) (room : ℕ) → ms ≡ ns
      → ◌≡◌ {A = Roster Tree} (record { members = ms; order = order; room = room }) (record { members = ns; order = order; room = room })
  with-order ms ns order room e = λ i. record { members = e i; order = order; room = room }

  pub machine-shown : (n : ℕ) (pool : Roster M) → machine_of n (shown_pool term pool) ≡ option_map term (machine_of n pool)
  machine-shown n pool = ap (option_map (λ (m : Member Tree). m.machine)) (found-shown n pool.members) ∙ by (find n pool.members)
    where
      by : (o : Option (Member M)) → option_map (λ (m : Member Tree). m.machine) (option_map show o) ≡ option_map term (option_map (λ m. m.machine) o)
      by None = refl
      by (Some m) = refl

  pub inside-shown : (n : ℕ) (pool : Roster M) → inside_of n (shown_pool term pool) ≡ inside_of n pool
  inside-shown n pool = ap (option_map (λ (m : Member Tree). m.inside)) (found-shown n pool.members) ∙ by (find n pool.members)
    where
      by : (o : Option (Member M)) → option_map (λ (m : Member Tree). m.inside) (option_map show o) ≡ option_map (λ m. m.inside) o
      by None = refl
      by (Some m) = refl

  pub held-shown : (n : ℕ) (pool : Roster M) → shown_pool term (held n pool) ≡ held n (shown_pool term pool)
  held-shown n pool =
      with-order (map show (altered n begun pool.members)) (altered n begun (map show pool.members)) (held n pool).order pool.room
      (altered-shown n begun begun (λ _. refl) pool.members)

  pub home-shown : (n : ℕ) (rolled : Bool) (pool : Roster M) → shown_pool term (home n rolled pool) ≡ home n rolled (shown_pool term pool)
  home-shown n rolled pool =
      with-order (map show (altered n (at_home rolled) pool.members)) (altered n (at_home rolled) (map show pool.members)) (home n rolled pool).order pool.room
      (altered-shown n (at_home rolled) (at_home rolled) (λ _. refl) pool.members)

  pub exchanged-shown : (n : ℕ) (machine : M) (inside : Bool) (pool : Roster M)
      → shown_pool term (exchanged n machine inside pool) ≡ exchanged n (term machine) inside (shown_pool term pool)
  exchanged-shown n machine inside pool =
      with-order (map show (altered n (renewed machine inside) pool.members)) (altered n (renewed (term machine) inside) (map show pool.members))
      (exchanged n machine inside pool).order pool.room (altered-shown n (renewed machine inside) (renewed (term machine) inside) (λ _. refl) pool.members)

  pub removed-shown : (n : ℕ) (pool : Roster M) → shown_pool term (removed n pool) ≡ removed n (shown_pool term pool)
  removed-shown n pool = with-order (map show (except n pool.members)) (except n (map show pool.members)) pool.order pool.room (except-shown n pool.members)

  pub joined-shown : (n : ℕ) (machine : M) (inside : Bool) (pool : Roster M)
      → shown_pool term (joined (newcomer n machine inside) pool) ≡ joined (newcomer n (term machine) inside) (shown_pool term pool)
  joined-shown n machine inside pool =
      with-order (map show (placed (newcomer n machine inside) pool.members)) (placed (newcomer n (term machine) inside) (map show pool.members))
      (joined (newcomer n machine inside) pool).order (joined (newcomer n machine inside) pool).room (placed-shown (newcomer n machine inside) pool.members)

  pub noted-shown : (n : ℕ) (locs : List ℕ) (pool : Roster M) → shown_pool term (noted n locs pool) ≡ noted n locs (shown_pool term pool)
  noted-shown n locs pool =
      with-order (map show (altered n (noted_on locs) pool.members)) (altered n (noted_on locs) (map show pool.members)) pool.order pool.room
      (altered-shown n (noted_on locs) (noted_on locs) (λ _. refl) pool.members)

  touched-shown : (n : ℕ) (pool : Roster M) → is_touched_at n (shown_pool term pool) ≡ is_touched_at n pool
  touched-shown n pool =
      ap (λ (o : Option (Member Tree)). (elim o [ None ↦ false | Some m ↦ is_touched m.standing ])) (found-shown n pool.members) ∙ by (find n pool.members)
    where
      by : (o : Option (Member M)) → ◌≡◌ {A = Bool} (elim (option_map show o) [ None ↦ false | Some m ↦ is_touched m.standing ]) (elim o [ None ↦ false | Some m ↦ is_touched m.standing ])
      by None = refl
      by (Some m) = refl

  pub parked-shown : (n : ℕ) (pool : Roster M) → shown_pool term (parked n pool) ≡ parked n (shown_pool term pool)
  parked-shown n pool = λ i. record {
    members = (altered-shown n at_rest at_rest (λ _. refl) pool.members) i;
    order = pool.order ++ cond ((sym (touched-shown n pool)) i) (n ∷ []) [];
    room = pool.room;
  }

  pub woken-shown : (l : ℕ) (pool : Roster M) → shown_pool term (woken l pool) ≡ woken l (shown_pool term pool)
  woken-shown l pool = λ i. record {
    members = (stirred-shown l pool.members) i;
    order = pool.order ++ (sym (woken-by l pool.members)) i;
    room = pool.room;
  }
