-- Prints and members that take effect one after another.
use Rattle.std.proofs.Common.{◌≡◌, ℕ, ◌+◌, ◌<◌, ◌≤◌, ◌++◌, List, [], ◌∷◌, map, length, take, get_or, refl, sym, ap, ◌∙◌, arith, length-append, Some, None, Bool, true, false, option_map, if◌then◌else◌}
use Rattle.std.proofs.lemmas.Option.{option_and_then_some}
use Rattle.std.proofs.lemmas.List.{take_more, map-append, length-map, length-take-le}
use Rattle.ame_term.specs.Tree.{Tree, Trees}
use Rattle.ame_term.specs.Context.{focus}
use Rattle.ame_term.specs.Maps.{at, without}
use Rattle.ame_term.specs.State.{State, after, departed, ended, at_unprotected, at_value}
use Rattle.ame_term.specs.declared.semantics.Label.{Label}
use Rattle.ame_term.specs.View.{tree_of, trees_of}
use Rattle.ame_term.specs.declared.term.Term.{Term}
use Rattle.ame_machine.specs.Run.AgreesWith.{with_members}
use Rattle.ame_machine.proofs.Run.EffectLemmas.{joined-last}
use Rattle.ame_strong.specs.Plan.{with_one_member, printed_all}
use Rattle.ame_weak.specs.Weak.{Weak, holding_none, moved, with_held_released, all_joined}
use Rattle.ame_weak.specs.Answer.{HasGone}

pub joined-none : (s : State) → s ≡ all_joined s []
joined-none s = let e : s.next ≡ s.next + 0 = omega arith in λ i. record s { next = e i }

one-joined : (s : State) (bodies : List Tree) (body : Tree) → with_one_member (all_joined s bodies) body ≡ all_joined s (bodies ++ body ∷ [])
one-joined s bodies body =
    let longer : length (bodies ++ body ∷ []) ≡ length bodies + 1 = length-append bodies (body ∷ []) in
    let count : (s.next + length bodies) + 1 ≡ s.next + length (bodies ++ body ∷ []) = omega arith in
    let members : put-last ≡ with_members s.members s.next (bodies ++ body ∷ []) = sym (joined-last s.members s.next bodies body) in
    λ i. record s { members = members i; next = count i }
  where
    put-last : List (ℕ × Tree)
    put-last = (with_one_member (all_joined s bodies) body).members

pub joined-more : (s t u : State) (bodies : List Term) (i : ℕ) (d : Term) (body : Tree) → i < length bodies → t ≡ all_joined s (map tree_of (take i bodies)) → u ≡ with_one_member t body
    → body ≡ tree_of (get_or bodies i d) → u ≡ all_joined s (map tree_of (take (i + 1) bodies))
joined-more s t u bodies i d body within before one is =
    let longer : map tree_of (take i bodies) ++ body ∷ [] ≡ map tree_of (take (i + 1) bodies) =
    ap (λ (b : Tree). map tree_of (take i bodies) ++ b ∷ []) is ∙ sym (map-append tree_of (take i bodies) (get_or bodies i d ∷ []))
    ∙ ap (map tree_of) (sym (take_more bodies i d within)) in
    one ∙ ap (λ (z : State). with_one_member z body) before ∙ one-joined s (map tree_of (take i bodies)) body ∙ ap (all_joined s) longer

-- there is room for the next one
pub joined-room : (s t : State) (bodies : List Term) (i m : ℕ) → t ≡ all_joined s (map tree_of (take i bodies)) → i ≤ length bodies → s.next + length bodies < m → t.next < m
joined-room s t bodies i m before within room =
    let count : length (map tree_of (take i bodies)) ≡ i = length-map (take i bodies) tree_of ∙ length-take-le i bodies within in
    let next : t.next ≡ s.next + length (map tree_of (take i bodies)) = ap (λ (z : State). z.next) before in
    omega arith

same-next : (b : Bool) (s x t : State) → x.next ≡ s.next → (if b then Some x else None) ≡ Some t → t.next ≡ s.next
same-next true s x t same e = let is : x ≡ t = cc in ap (λ (z : State). z.next) (sym is) ∙ same
same-next false s x t same e = cc

-- a member that leaves or ends makes no member
pub gone-next : (s t : State) (label : Label) → HasGone label → after s label ≡ Some t → t.next ≡ s.next
unfolding after
gone-next s t Label.Leave gone e =
    option_and_then_some (λ (i : ℕ). departed i s) s.active t e (λ i is e1.
    option_and_then_some (λ (term : Tree). if at_unprotected (focus term) then Some (record s { active = None }) else None) (at s.members i) t e1 (λ term found e2. same-next (at_unprotected (focus term)) s (record s { active = None }) t refl e2))
gone-next s t Label.End gone e =
    option_and_then_some (λ (i : ℕ). ended i s) s.active t e (λ i is e1.
    option_and_then_some (λ (term : Tree). if at_value (focus term) then Some (record s { members = without s.members i; active = None }) else None) (at s.members i) t e1 (λ term found e2. same-next (at_value (focus term)) s (record s { members = without s.members i; active = None }) t refl e2))
gone-next s t (Label.Activate i) gone e = absurd gone
gone-next s t (Label.Step kind) gone e = absurd gone
gone-next s t (Label.Free i kind) gone e = absurd gone
gone-next s t (Label.Close i) gone e = absurd gone

-- the released state is the weak state with all in effect
pub released-is : (w : Weak) (s t u v : State) (label : Label) → w.state ≡ s → after s label ≡ Some t → u ≡ printed_all t w.prints → v ≡ all_joined u w.spawns
    → option_map (λ z. with_held_released (moved w z)) (after w.state label) ≡ Some (holding_none v)
released-is w s t u v label same stepped prints joins =
    ap (λ (z : State). option_map (λ y. with_held_released (moved w y)) (after z label)) same ∙ ap (option_map (λ y. with_held_released (moved w y))) stepped
    ∙ ap (λ (z : State). Some (holding_none z)) (sym (joins ∙ ap (λ (z : State). all_joined z w.spawns) prints))

-- and there is room for them
pub released-room : (s t u v : State) (label : Label) (n m : ℕ) → HasGone label → u ≡ s → after u label ≡ Some t → v.next ≡ t.next → s.next + n < m → v.next + n < m
released-room s t u v label n m gone same stepped next room =
    let a : t.next ≡ u.next = gone-next u t label gone stepped in
    let b : u.next ≡ s.next = ap (λ (z : State). z.next) same in
    omega arith

-- terms as parts and as a list
list_of : Trees → List Tree
list_of Trees.None = []
list_of (Trees.More part rest) = part ∷ list_of rest

listed : (xs : List Term) → list_of (trees_of xs) ≡ map tree_of xs
unfolding list_of
listed [] = refl
listed (x ∷ xs) = ap (λ (ts : List Tree). tree_of x ∷ ts) (listed xs)

pub trees-map : (xs ys : List Term) → trees_of xs ≡ trees_of ys → map tree_of xs ≡ map tree_of ys
trees-map xs ys e = sym (listed xs) ∙ ap list_of e ∙ listed ys
