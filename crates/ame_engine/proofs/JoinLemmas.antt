-- New members join a pool.
use Rattle.std.proofs.Common.{◌≡◌, ℕ, ◌+◌, ◌<◌, ◌≤◌, true, false, cond, List, [], ◌∷◌, drop, length, All, Option, Some, None, option_map, refl, sym, ap, ◌∙◌, arith}
use Rattle.std.specs.Prelude.{slice_get, nat_lt, unwrap_or}
use Rattle.std.proofs.lemmas.List.Elements.{All-cons, All-head, All-tail}
use Rattle.ame_term.specs.Tree.{Tree}
use Rattle.ame_pool.specs.declared.member.Member.{Member}
use Rattle.ame_pool.specs.Members.{find, placed}
use Rattle.ame_pool.specs.Roster.{Roster}
use Rattle.ame_pool.specs.Calls.{newcomer, joined}
use Rattle.ame_pool.proofs.MemberLemmas.{found_placed}
use Rattle.ame_machine.specs.MachineView.{MachineView, starting_at}
use Rattle.ame_machine.specs.Move.{first_spawn, after_first_spawn}
use Rattle.ame_protocol.specs.Engine.Shown.{shown_pool}
use Rattle.ame_protocol.specs.Engine.Events.{with_newcomers}
use Rattle.ame_protocol.proofs.Engine.ShownPoolLemmas.{joined-shown}
use Rattle.ame_engine.specs.Seen.{term_shown}
use Rattle.ame_engine.specs.Whole.{resting_at, IsAtRest}

-- what all members pass, all pass once one more is placed, if that one does
pub all_placed : {M : Type 0} (P : Member M → Type 0) (new : Member M) (ms : List (Member M)) → P new → All P ms → All P (placed new ms)
all_placed P new [] good all = All-cons P new [] good all
all_placed P new (m ∷ ms) good all =
    let head = All-head P m ms all in let tail = All-tail P m ms all in
    elim (nat_lt new.number m.number) as (λ b. All P (cond b (new ∷ m ∷ ms) (m ∷ placed new ms))) [
      | true ↦ All-cons P new (m ∷ ms) good all
      | false ↦ All-cons P m (placed new ms) head (all_placed P new ms good tail)
    ]

-- the first new member that is taken
first-split : (xs : List Tree) (x : MachineView) → Some x ≡ option_map starting_at (slice_get xs 0) → (body : Tree) × (rest : List Tree) × (xs ≡ body ∷ rest) × (x ≡ starting_at body)
first-split [] x e = absurd (let clash : ◌≡◌ {A = Option MachineView} (Some x) None = e in cc)
first-split (body ∷ rest) x e = (body, rest, refl, ap (λ (o : Option MachineView). unwrap_or o x) e)

first-none : (xs : List Tree) → None ≡ option_map starting_at (slice_get xs 0) → xs ≡ []
first-none [] e = refl
first-none (body ∷ rest) e = absurd (let clash : ◌≡◌ {A = Option MachineView} None (Some (starting_at body)) = e in cc)

module _ {C M : Type 0} (is_machine : C → M → Type 0) (stage : C → M → MachineView) (first end : ℕ) (start : Roster M) (began : M) where
  -- The new members that are left take the numbers from this one on, and do to the pool what all did to the one before.
  pub record Joining (number : ℕ) (pool : Roster M) (at : M) : Type 0 where
    pub becomes : (code : C) → with_newcomers number (stage code at).spawns (shown_pool (term_shown stage code) pool)
        ≡ with_newcomers first (stage code began).spawns (shown_pool (term_shown stage code) start)
    pub count : (code : C) → number + length (stage code at).spawns ≡ end
    pub room : end ≤ number + pool.room
    pub fresh : (k : ℕ) → number ≤ k → find k pool.members ≡ None
    pub rests : (code : C) → is_machine code began → All (IsAtRest is_machine stage code) start.members → All (IsAtRest is_machine stage code) pool.members
    pub machine : (code : C) → is_machine code began → is_machine code at
    pub kept : (code : C) → ◌≡◌ {A = MachineView} (record (stage code at) { spawns = [] }) (record (stage code began) { spawns = [] })

  module _ (number : ℕ) (pool : Roster M) (at : M) (j : Joining number pool at) (below : number < end) (later : M)
      (rest : (code : C) → stage code later ≡ after_first_spawn (stage code at)) (keeps : (code : C) → is_machine code at → is_machine code later) where
    none-left : (told : Option M) → ((code : C) → option_map (stage code) told ≡ first_spawn (stage code at)) → told ≡ None → (code : C) → ⊥
    none-left told first-is none code =
        let left : (stage code at).spawns ≡ [] = first-none (stage code at).spawns (sym (ap (option_map (stage code)) none) ∙ first-is code) in
        let all : number + 0 ≡ end = sym (ap (λ (xs : List Tree). number + length xs) left) ∙ j.count code in omega arith

    -- there is one for each number
    pub joining-none : (told : Option M) → ((code : C) → option_map (stage code) told ≡ first_spawn (stage code at)) → told ≡ None → Joining (number + 1) pool later
    joining-none told first-is none = record {
      becomes = λ code. absurd (none-left told first-is none code);
      count = λ code. absurd (none-left told first-is none code);
      room = let h = j.room in omega arith;
      fresh = λ k above. j.fresh k (omega arith);
      rests = λ code. absurd (none-left told first-is none code);
      machine = λ code machine. keeps code (j.machine code machine);
      kept = λ code. absurd (none-left told first-is none code);
    }

    module _ (member : M) (first-is : (code : C) → Some (stage code member) ≡ first_spawn (stage code at))
        (taken : (code : C) → is_machine code at → is_machine code member) where
      abbrev larger : Roster M
      larger = joined (newcomer number member false) pool

      split : (code : C) → (body : Tree) × (rest : List Tree) × ((stage code at).spawns ≡ body ∷ rest) × (stage code member ≡ starting_at body)
      split code = first-split (stage code at).spawns (stage code member) (first-is code)

      left-is : (code : C) → (stage code later).spawns ≡ (split code).1
      left-is code = ap (λ (s : MachineView). s.spawns) (rest code) ∙ ap (λ (xs : List Tree). drop 1 xs) (split code).2

      newcomer-rests : (code : C) → is_machine code at → IsAtRest is_machine stage code (newcomer number member false)
      newcomer-rests code machine = record {
        machine = taken code machine;
        rests = (split code).3 ∙ sym (ap (λ (s : MachineView). resting_at s.term false) (split code).3);
      }

      joins : (code : C) → with_newcomers (number + 1) (stage code later).spawns (shown_pool (term_shown stage code) larger)
          ≡ with_newcomers number (stage code at).spawns (shown_pool (term_shown stage code) pool)
      joins code =
          let shown = shown_pool (term_shown stage code) pool in
          let body = (split code).0 in
          ap (λ (xs : List Tree). with_newcomers (number + 1) xs (shown_pool (term_shown stage code) larger)) (left-is code)
          ∙ ap (with_newcomers (number + 1) (split code).1)
          (joined-shown (term_shown stage code) number member false pool
          ∙ ap (λ (s : MachineView). joined (newcomer number s.term false) shown) (split code).3)
          ∙ sym (ap (λ (xs : List Tree). with_newcomers number xs shown) (split code).2)

      counts : (code : C) → number + 1 + length (stage code later).spawns ≡ end
      counts code =
          let left = ap (λ (xs : List Tree). length xs) (left-is code) in
          let all = ap (λ (xs : List Tree). length xs) (split code).2 in
          let h = j.count code in omega arith

      pub joining-some : Joining (number + 1) larger later
      joining-some = record {
        becomes = λ code. joins code ∙ j.becomes code;
        count = counts;
        room = let h = j.room in omega arith;
        fresh = λ k above.
            (found_placed (newcomer number member false) pool.members (j.fresh number (omega arith))).others k (λ same. absurd (omega arith)) ∙ j.fresh k (omega arith);
        rests = λ code machine all.
            all_placed (IsAtRest is_machine stage code) (newcomer number member false) pool.members (newcomer-rests code (j.machine code machine)) (j.rests code machine all);
        machine = λ code machine. keeps code (j.machine code machine);
        kept = λ code. ap (λ (s : MachineView). record s { spawns = [] }) (rest code) ∙ j.kept code;
      }

  module _ (pool : Roster M) (at : M) (j : Joining end pool at) where
    ended : (code : C) → (stage code at).spawns ≡ []
    ended code = by (stage code at).spawns (j.count code)
      where
        by : (xs : List Tree) → end + length xs ≡ end → xs ≡ []
        by [] e = refl
        by (x ∷ xs) e = absurd (omega arith)
