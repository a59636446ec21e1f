-- Runs added, and with more inputs.
use Rattle.std.proofs.Common.{◌≡◌, ℕ, zero, suc, ◌+◌, ℤ, Bool, true, false, List, [], ◌∷◌, ◌++◌, Option, Some, None, is_none, option_map, option_and_then, if◌then◌else◌, refl, sym, ap, ◌∙◌, subst, arith}
use Rattle.std.proofs.lemmas.Option.{option_and_then_some}
use Rattle.ame_term.specs.Tree.{Val, Tree, unit_tree}
use Rattle.ame_term.specs.Frame.{Side, same_side}
use Rattle.ame_term.specs.Context.{Focus, focus, fill}
use Rattle.ame_term.specs.Act.{Act, act_of}
use Rattle.ame_term.specs.Maps.{at}
use Rattle.ame_term.specs.declared.types.Sort.{Sort}
use Rattle.ame_term.specs.declared.types.TyNo.{TyNo}
use Rattle.ame_journal.specs.Replay.{or_else}
use Rattle.ame_machine.specs.Run.Local.{LocalState, took, taken_where, set_at, made_at, spawned, printed, acts_alone, fed, fed_next, acted, acted_at, refilled_in, one_step, goes, given_more}

-- The effect of an act with its input on a run.
pub data Feeds (p : LocalState) : Side → Act → Val → Tree → LocalState → Type 0 where
  allocates : (side : Side) (sort : Sort) (number : TyNo) (v : Val) (l : ℕ) → Feeds p side (Act.Allocates sort number v) (Val.Loc l) (Tree.Held (Val.Loc l)) (made_at l v p)
  reads : (side : Side) (l : ℕ) (v : Val) → Feeds p side (Act.Reads l) v (Tree.Held v) (took l v p)
  peeks : (l : ℕ) (v : Val) → Feeds p Side.Unprotected (Act.Peeks l) v (Tree.Held v) (took l v p)
  writes : (side : Side) (l : ℕ) (v : Val) → Feeds p side (Act.Writes l v) Val.Unit unit_tree (set_at l v p)
  spawns : (body : Tree) → Feeds p Side.Unprotected (Act.Spawns body) Val.Unit unit_tree (spawned body p)
  prints : (n : ℤ) → Feeds p Side.Unprotected (Act.Prints n) Val.Unit unit_tree (printed n p)
  calls : (device : ℕ) (n answer : ℤ) → Feeds p Side.Unprotected (Act.Calls device n) (Val.Int answer) (Tree.Held (Val.Int answer)) (record p { answer = Some answer })

-- The effect of an act on a run.
pub data Acts (p : LocalState) : Side → Act → Tree → LocalState → Type 0 where
  becomes : (side : Side) (term : Tree) → Acts p side (Act.Becomes term) term p
  spawns : (body : Tree) → Acts p Side.Protected (Act.Spawns body) unit_tree (spawned body p)
  prints : (n : ℤ) → Acts p Side.Protected (Act.Prints n) unit_tree (printed n p)
  passes : Acts p Side.Protected Act.Passes unit_tree p
  feeds : (side : Side) (act : Act) (v : Val) (inputs : List Val) (part : Tree) (q : LocalState) → p.inputs ≡ v ∷ inputs
      → Feeds (record p { inputs = inputs }) side act v part q → Acts p side act part q

abbrev pub HasFeeds : LocalState → Side → Act → Val → Option (Tree × LocalState) → Type 0
HasFeeds p side act v None = Unit {0}
HasFeeds p side act v (Some made) = Feeds p side act v made.0 made.1

abbrev pub HasActs : LocalState → Side → Act → Option (Tree × LocalState) → Type 0
HasActs p side act None = Unit {0}
HasActs p side act (Some made) = Acts p side act made.0 made.1

has_feeds : (p : LocalState) (side : Side) (act : Act) (v : Val) → HasFeeds p side act v (fed act side v p)
has_feeds p side (Act.Allocates sort number v) (Val.Loc l) = Feeds.allocates side sort number v l
has_feeds p side (Act.Reads l) v = Feeds.reads side l v
has_feeds p Side.Unprotected (Act.Peeks l) v = Feeds.peeks l v
has_feeds p side (Act.Writes l v) Val.Unit = Feeds.writes side l v
has_feeds p Side.Unprotected (Act.Spawns body) Val.Unit = Feeds.spawns body
has_feeds p Side.Unprotected (Act.Prints n) Val.Unit = Feeds.prints n
has_feeds p Side.Unprotected (Act.Calls device n) (Val.Int answer) = Feeds.calls device n answer
has_feeds p _ _ _ = tt

pub feeds-of : (p : LocalState) (side : Side) (act : Act) (v : Val) (made : Tree × LocalState) → fed act side v p ≡ Some made → Feeds p side act v made.0 made.1
feeds-of p side act v made e = subst (HasFeeds p side act v) e (has_feeds p side act v)

feeds-acts : (p : LocalState) (side : Side) (act : Act) (v : Val) (inputs : List Val) → p.inputs ≡ v ∷ inputs → (o : Option (Tree × LocalState))
    → HasFeeds (record p { inputs = inputs }) side act v o → HasActs p side act o
feeds-acts p side act v inputs is None h = tt
feeds-acts p side act v inputs is (Some made) h = Acts.feeds side act v inputs made.0 made.1 is h

-- an act that takes an input
with_input : (p : LocalState) (side : Side) (act : Act) (inputs : List Val) → p.inputs ≡ inputs → HasActs p side act (fed_next act side inputs p)
with_input p side act [] is = tt
with_input p side act (v ∷ inputs) is = feeds-acts p side act v inputs is _ (has_feeds (record p { inputs = inputs }) side act v)

has_acts : (p : LocalState) (side : Side) (act : Act) → HasActs p side act (acted act side p)
has_acts p side (Act.Becomes term) = Acts.becomes side term
has_acts p Side.Protected (Act.Spawns body) = Acts.spawns body
has_acts p Side.Protected (Act.Prints n) = Acts.prints n
has_acts p Side.Protected Act.Passes = Acts.passes
has_acts p side act = with_input p side act p.inputs refl

pub acts-of : (p : LocalState) (side : Side) (act : Act) (made : Tree × LocalState) → acted act side p ≡ Some made → Acts p side act made.0 made.1
acts-of p side act made e = subst (HasActs p side act) e (has_acts p side act)

-- Each of them is a rule of the function again, also if the run has more inputs.

taken-more : (o : Option Val) (l : ℕ) (v : Val) (p : LocalState) (more : List Val)
    → taken_where o l v (given_more more p) ≡ given_more more (taken_where o l v p)
taken-more None l v p more = refl
taken-more (Some w) l v p more = refl

feeds-more : (p : LocalState) (side : Side) (act : Act) (v : Val) (part : Tree) (q : LocalState) (more : List Val) → Feeds p side act v part q
    → fed act side v (given_more more p) ≡ Some (part, given_more more q)
feeds-more p _ _ _ _ _ more (Feeds.allocates side sort number v l) = refl
feeds-more p _ _ _ _ _ more (Feeds.reads side l v) = ap (λ (q : LocalState). Some (Tree.Held v, q)) (taken-more (at p.sets l) l v p more)
feeds-more p _ _ _ _ _ more (Feeds.peeks l v) = ap (λ (q : LocalState). Some (Tree.Held v, q)) (taken-more (at p.sets l) l v p more)
feeds-more p _ _ _ _ _ more (Feeds.writes side l v) = refl
feeds-more p _ _ _ _ _ more (Feeds.spawns body) = refl
feeds-more p _ _ _ _ _ more (Feeds.prints n) = refl
feeds-more p _ _ _ _ _ more (Feeds.calls device n answer) = refl

-- an act that takes an input isn't made alone
pub feeds-alone : (p : LocalState) (side : Side) (act : Act) (v : Val) (part : Tree) (q : LocalState) → Feeds p side act v part q
    → (r : LocalState) → acts_alone act side r ≡ None
feeds-alone p _ _ _ _ _ (Feeds.allocates side sort number v l) r = refl
feeds-alone p _ _ _ _ _ (Feeds.reads side l v) r = refl
feeds-alone p _ _ _ _ _ (Feeds.peeks l v) r = refl
feeds-alone p _ _ _ _ _ (Feeds.writes side l v) r = refl
feeds-alone p _ _ _ _ _ (Feeds.spawns body) r = refl
feeds-alone p _ _ _ _ _ (Feeds.prints n) r = refl
feeds-alone p _ _ _ _ _ (Feeds.calls device n answer) r = refl

acted-fed : (p : LocalState) (side : Side) (act : Act) (v : Val) (inputs : List Val) (o : Option (Tree × LocalState)) → p.inputs ≡ v ∷ inputs
    → acts_alone act side p ≡ None → fed act side v (record p { inputs = inputs }) ≡ o → acted act side p ≡ o
acted-fed p side act v inputs o is none gives =
    ap (λ (a : Option (Tree × LocalState)). or_else a (fed_next act side p.inputs p)) none
    ∙ ap (λ (xs : List Val). fed_next act side xs p) is ∙ gives

acts-more : (p : LocalState) (side : Side) (act : Act) (part : Tree) (q : LocalState) (more : List Val) → Acts p side act part q
    → acted act side (given_more more p) ≡ Some (part, given_more more q)
acts-more p _ _ _ _ more (Acts.becomes side term) = refl
acts-more p _ _ _ _ more (Acts.spawns body) = refl
acts-more p _ _ _ _ more (Acts.prints n) = refl
acts-more p _ _ _ _ more Acts.passes = refl
acts-more p _ _ _ _ more (Acts.feeds side act v inputs part q is given) =
    acted-fed (given_more more p) side act v (inputs ++ more) (Some (part, given_more more q)) (ap (λ (xs : List Val). xs ++ more) is)
    (feeds-alone (record p { inputs = inputs }) side act v part q given (given_more more p))
    (feeds-more (record p { inputs = inputs }) side act v part q more given)

-- One step

pub same_as_itself : (side : Side) → same_side side side ≡ true
same_as_itself Side.Protected = refl
same_as_itself Side.Unprotected = refl

one_side : (a b : Side) → same_side a b ≡ true → b ≡ a
one_side Side.Protected Side.Protected e = refl
one_side Side.Protected Side.Unprotected e = cc
one_side Side.Unprotected Side.Protected e = cc
one_side Side.Unprotected Side.Unprotected e = refl

if-gave : {Y : Type 0} (b : Bool) (o : Option Y) (y : Y) → (if b then o else None) ≡ Some y → (b ≡ true) × (o ≡ Some y)
if-gave true o y e = (refl, e)
if-gave false o y e = cc

map-gave : {X Y : Type 0} (f : X → Y) (o : Option X) (y : Y) → option_map f o ≡ Some y → (x : X) × (o ≡ Some x) × (f x ≡ y)
map-gave f None y e = cc
map-gave f (Some x) y e = (x, refl, cc)

none-is : (o : Option ℤ) → is_none o ≡ true → o ≡ None
none-is None e = refl
none-is (Some n) e = cc

pub record IsOneStep (side : Side) (p q : LocalState) : Type 0 where
  pub redex : Tree
  pub part : Tree
  pub behind : LocalState
  pub resting : p.answer ≡ None
  pub stands : focus p.term ≡ Focus.AtRedex side redex
  pub acts : Acts p side (act_of redex) part behind
  pub is : q ≡ record behind { term = fill p.term part }

at-redex : (side : Side) (p : LocalState) (f : Focus) (made : Tree × LocalState) → acted_at side f p ≡ Some made
    → (redex : Tree) × (f ≡ Focus.AtRedex side redex) × (acted (act_of redex) side p ≡ Some made)
at-redex side p (Focus.AtValue v) made e = cc
at-redex side p (Focus.AtRedex under redex) made e =
    let a = if-gave (same_side side under) (acted (act_of redex) side p) made e in
    (redex, ap (λ (z : Side). Focus.AtRedex z redex) (one_side side under a.0), a.1)

pub step-is : (side : Side) (p q : LocalState) → one_step side p ≡ Some q → IsOneStep side p q
unfolding one_step
step-is side p q e =
    let a = if-gave (is_none p.answer) (option_map (refilled_in p.term) (acted_at side (focus p.term) p)) q e in
    let m = map-gave (refilled_in p.term) (acted_at side (focus p.term) p) q a.1 in
    let d = at-redex side p (focus p.term) m.0 m.1 in
    record {
      redex = d.0;
      part = m.0.0;
      behind = m.0.1;
      resting = none-is p.answer a.0;
      stands = d.1;
      acts = acts-of p side (act_of d.0) m.0 d.2;
      is = sym m.2;
    }

pub step-of : (side : Side) (p : LocalState) (redex : Tree) (made : Tree × LocalState) → p.answer ≡ None → focus p.term ≡ Focus.AtRedex side redex
    → acted (act_of redex) side p ≡ Some made → one_step side p ≡ Some (refilled_in p.term made)
unfolding one_step
step-of side p redex made resting stands acts =
    ap (λ (o : Option ℤ). if is_none o then option_map (refilled_in p.term) (acted_at side (focus p.term) p) else None) resting
    ∙ ap (λ (f : Focus). option_map (refilled_in p.term) (acted_at side f p)) stands
    ∙ ap (λ (b : Bool). option_map (refilled_in p.term) (if b then acted (act_of redex) side p else None)) (same_as_itself side)
    ∙ ap (option_map (refilled_in p.term)) acts

step-more : (side : Side) (p q : LocalState) (more : List Val) → one_step side p ≡ Some q → one_step side (given_more more p) ≡ Some (given_more more q)
step-more side p q more e =
    let x = step-is side p q e in
    step-of side (given_more more p) x.redex (x.part, given_more more x.behind) x.resting x.stands
    (acts-more p side (act_of x.redex) x.part x.behind more x.acts)
    ∙ ap (λ (z : LocalState). Some (given_more more z)) (sym x.is)

-- Runs

pub goes-added : (side : Side) (p : LocalState) (m n : ℕ) → goes side p (m + n) ≡ option_and_then (λ q. goes side q n) (goes side p m)
goes-added side p m zero = let e : m + 0 ≡ m = omega arith in ap (goes side p) e ∙ by (goes side p m)
  where
    by : (o : Option LocalState) → o ≡ option_and_then (λ q. goes side q 0) o
    by None = refl
    by (Some q) = refl
goes-added side p m (suc n) =
    let e : m + suc n ≡ suc (m + n) = omega arith in
    ap (goes side p) e ∙ ap (option_and_then (one_step side)) (goes-added side p m n) ∙ by (goes side p m)
  where
    by : (o : Option LocalState) → option_and_then (one_step side) (option_and_then (λ q. goes side q n) o) ≡ option_and_then (λ q. goes side q (suc n)) o
    by None = refl
    by (Some q) = refl

pub goes-on : (side : Side) (p q r : LocalState) (m n : ℕ) → goes side p m ≡ Some q → goes side p (m + n) ≡ Some r → goes side q n ≡ Some r
goes-on side p q r m n first both = sym (ap (option_and_then (λ z. goes side z n)) first) ∙ sym (goes-added side p m n) ∙ both

pub goes-more : (side : Side) (p q : LocalState) (more : List Val) (n : ℕ) → goes side p n ≡ Some q → goes side (given_more more p) n ≡ Some (given_more more q)
goes-more side p q more zero e = ap (option_map (given_more more)) e
goes-more side p q more (suc n) e =
    option_and_then_some _ _ _ e (λ r first second.
    ap (option_and_then (one_step side)) (goes-more side p r more n first) ∙ step-more side r q more second)

-- an act that is given its input by a run that has no other
pub acted-more : (side : Side) (p : LocalState) (act : Act) (v : Val) (made : Tree × LocalState) → p.inputs ≡ [] → fed act side v p ≡ Some made
    → acted act side (given_more (v ∷ []) p) ≡ Some made
acted-more side p act v made empty gives =
    let given = feeds-of p side act v made gives in
    acted-fed (given_more (v ∷ []) p) side act v [] (Some made) (ap (λ (xs : List Val). xs ++ v ∷ []) empty)
    (feeds-alone p side act v made.0 made.1 given (given_more (v ∷ []) p))
    (ap (λ (xs : List Val). fed act side v (record p { inputs = xs })) (sym empty) ∙ gives)

pub one-more : (side : Side) (p q : LocalState) (redex : Tree) (v : Val) (n : ℕ) (made : Tree × LocalState) → goes side p n ≡ Some q → q.inputs ≡ [] → q.answer ≡ None
    → focus q.term ≡ Focus.AtRedex side redex → fed (act_of redex) side v q ≡ Some made
    → goes side (given_more (v ∷ []) p) (n + 1) ≡ Some (refilled_in q.term made)
one-more side p q redex v n made e empty resting stands gives =
    let next : n + 1 ≡ suc n = omega arith in
    ap (goes side (given_more (v ∷ []) p)) next
    ∙ ap (option_and_then (one_step side)) (goes-more side p q (v ∷ []) n e)
    ∙ step-of side (given_more (v ∷ []) q) redex made resting stands (acted-more side q (act_of redex) v made empty gives)
