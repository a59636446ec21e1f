-- Overlays and new members, one after another.
use Rattle.std.proofs.Common.{◌≡◌, ℕ, ◌+◌, ◌≤◌, ◌⊎◌, inl, inr, Bool, false, List, [], ◌∷◌, Option, Some, None, refl, sym, ap, ◌∙◌, subst, arith, length, drop, slice_get}
use Rattle.std.specs.Option.{option_map}
use Rattle.ame_term.specs.Tree.{Tree}
use Rattle.ame_term.specs.Maps.{at, put}
use Rattle.ame_laws.proofs.MapLemmas.{at-put}
use Rattle.ame_machine.specs.Run.AgreesWith.{with_members}
use Rattle.ame_machine.specs.Meaning.{Meaning}
use Rattle.ame_machine.specs.MachineView.{MachineView, starting_at}
use Rattle.ame_machine.specs.Move.{first_spawn, after_first_spawn}
use Rattle.ame_check.specs.Shows.{ShowsMember, ShowsMembers, Adopts}

module _ {C V M : Type 0} (meaning : Meaning C V M) (code : C) (inside : ℕ → Bool) where
  -- the first new member takes the next number
  pub shows-first : (before : List (ℕ × Tree)) (next : ℕ) (machines : List (ℕ × M)) (member : M) (body : Tree) → meaning.is_machine code member → meaning.stage code member ≡ starting_at body
      → inside next ≡ false → ShowsMembers meaning code inside machines before → ShowsMembers meaning code inside (put machines next member) (put before next body)
  shows-first before next machines member body good is out shows k = by (at-put machines next k member) (at-put before next k body)
    where
      by : ((next ≡ k) × (at (put machines next member) k ≡ Some member)) ⊎ (((next ≡ k) → ⊥) × (at (put machines next member) k ≡ at machines k))
          → ((next ≡ k) × (at (put before next body) k ≡ Some body)) ⊎ (((next ≡ k) → ⊥) × (at (put before next body) k ≡ at before k))
          → ShowsMember meaning code (inside k) (at (put machines next member) k) (at (put before next body) k)
      by (inl a) (inl b) =
          subst (λ (o : Option M). ShowsMember meaning code (inside k) o (at (put before next body) k)) (sym a.1)
          (subst (λ (o : Option Tree). ShowsMember meaning code (inside k) (Some member) o) (sym b.1)
          (good, ap (λ (m : MachineView). Some m.term) (sym is), rest))
        where
          flag : false ≡ inside k
          flag = sym out ∙ ap inside a.0

          rest : meaning.stage code member ≡ record (starting_at (meaning.stage code member).term) { inside = inside k }
          rest = is ∙ ap (λ (b : Bool). record (starting_at body) { inside = b }) flag ∙ ap (λ (m : MachineView). record (starting_at m.term) { inside = inside k }) (sym is)
      by (inl a) (inr b) = absurd (b.0 a.0)
      by (inr a) (inl b) = absurd (a.0 b.0)
      by (inr a) (inr b) =
          subst (λ (o : Option M). ShowsMember meaning code (inside k) o (at (put before next body) k)) (sym a.1)
          (subst (λ (o : Option Tree). ShowsMember meaning code (inside k) (at machines k) o) (sym b.1) (shows k))

  -- some of the new members took the next numbers
  pub record Adopting (before : List (ℕ × Tree)) (next : ℕ) (m : MachineView) (machines : List (ℕ × M)) (number : ℕ) (machine : M) : Type 0 where
    pub so_far : List (ℕ × Tree)
    pub shown : ShowsMembers meaning code inside machines so_far
    pub rest : with_members so_far number (meaning.stage code machine).spawns ≡ with_members before next m.spawns
    pub count : number + length (meaning.stage code machine).spawns ≡ next + length m.spawns
    pub later : next ≤ number
    pub good : meaning.is_machine code machine
    pub stays : record (meaning.stage code machine) { spawns = [] } ≡ record m { spawns = [] }

  no-spawns : (bodies : List Tree) → None ≡ option_map starting_at (slice_get bodies 0) → bodies ≡ []
  no-spawns [] e = refl
  no-spawns (b ∷ bodies) e = cc

  pub adopting-ends : (before : List (ℕ × Tree)) (next : ℕ) (m : MachineView) (machines : List (ℕ × M)) (number : ℕ) (machine last : M) → Adopting before next m machines number machine
      → None ≡ first_spawn (meaning.stage code machine) → meaning.is_machine code last → meaning.stage code last ≡ after_first_spawn (meaning.stage code machine)
      → Adopts meaning code inside before next m machines number last
  adopting-ends before next m machines number machine last a none good is =
      let empty = no-spawns (meaning.stage code machine).spawns none in
      record {
        shown =
            subst (λ (ms : List (ℕ × Tree)). ShowsMembers meaning code inside machines ms) (sym (ap (λ (bodies : List Tree). with_members a.so_far number bodies) empty) ∙ a.rest) a.shown;
        count = let len : length (meaning.stage code machine).spawns ≡ 0 = ap length empty in let sum : number + length (meaning.stage code machine).spawns ≡ next + length m.spawns = a.count in omega arith;
        good = good;
        stays = is ∙ ap (λ (bodies : List Tree). record (meaning.stage code machine) { spawns = drop 1 bodies }) empty ∙ a.stays;
      }

  split-first : (bodies : List Tree) (s : MachineView) → Some s ≡ option_map starting_at (slice_get bodies 0) → (body : Tree) × (s ≡ starting_at body) × (bodies ≡ body ∷ drop 1 bodies)
  split-first [] s e = cc
  split-first (b ∷ bodies) s e = (b, cc, refl)

  pub adopting-more : (before : List (ℕ × Tree)) (next : ℕ) (m : MachineView) (machines : List (ℕ × M)) (number : ℕ) (machine last member : M) → ((k : ℕ) → next ≤ k → inside k ≡ false)
      → Adopting before next m machines number machine
      → Some (meaning.stage code member) ≡ first_spawn (meaning.stage code machine) → meaning.is_machine code member → meaning.is_machine code last
      → meaning.stage code last ≡ after_first_spawn (meaning.stage code machine) → (number_later : ℕ) → number_later ≡ number + 1
      → Adopting before next m (put machines number member) number_later last
  adopting-more before next m machines number machine last member outside a first good_member good is number_later count =
      let d = split-first (meaning.stage code machine).spawns (meaning.stage code member) first in
      let left : (meaning.stage code last).spawns ≡ drop 1 (meaning.stage code machine).spawns = ap (λ (z : MachineView). z.spawns) is in
      record {
        so_far = put a.so_far number d.0;
        shown = shows-first a.so_far number machines member d.0 good_member d.1 (outside number a.later) a.shown;
        rest =
            ap (λ (k : ℕ). with_members (put a.so_far number d.0) k (meaning.stage code last).spawns) count
            ∙ ap (λ (bodies : List Tree). with_members (put a.so_far number d.0) (number + 1) bodies) left
            ∙ ap (λ (bodies : List Tree). with_members a.so_far number bodies) (sym d.2) ∙ a.rest;
        count =
            let sum : number + length (meaning.stage code machine).spawns ≡ next + length m.spawns = a.count in
            let one : length (meaning.stage code machine).spawns ≡ length (d.0 ∷ drop 1 (meaning.stage code machine).spawns) = ap length d.2 in
            let rest : length (meaning.stage code last).spawns ≡ length (drop 1 (meaning.stage code machine).spawns) = ap length left in
            omega arith;
        later = let before_it : next ≤ number = a.later in omega arith;
        good = good;
        stays = ap (λ (z : MachineView). record z { spawns = [] }) is ∙ a.stays;
      }
