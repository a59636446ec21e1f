-- The outcome of reading depends on the lexemes alone, and on none after the next one.
use Rattle.std.proofs.Common.{◌≡◌, refl, sym, ap, subst, ◌∙◌, ℕ, ◌+◌, ◌-◌, ◌≤◌, List, [], ◌∷◌, ◌++◌, length, map, take, drop, length-append, append_assoc, arith, Option, Some, None, Ok, Err}
use Rattle.std.proofs.lemmas.List.{take-append-drop}
use Rattle.ame_lex.specs.Bytes.{Text}
use Rattle.ame_parse.specs.declared.ahead.Ahead.{Ahead}
use Rattle.ame_parse.specs.declared.ahead.Ahead.TheVariants as a
use Rattle.ame_parse.specs.declared.fault.Want.{Want}
use Rattle.ame_parse.specs.declared.fault.ParseFault.{ParseFault}
use Rattle.ame_parse.specs.declared.fault.ParseFault.TheVariants.{Expected}
use Rattle.ame_parse.specs.Input.{Seen, Input, ParseOutcome, Parser, and_then, ◌>>=◌, pure, expected, peek, advance, mark, bind_name, unbind, ahead_of, ahead_in, place_in, spelling_in, ahead, place, spelling, advanced, marked, bound, unbound, ref_counted, count_ref, is_closing, sees_closing}
use Rattle.ame_parse.specs.Fault.{Lexeme, lexeme_of, first_lexeme, place_of, at_place}

-- ---- what begins alike

ahead_by : Option Lexeme → Ahead
ahead_by None = a.End
ahead_by (Some lexeme) = ahead_of lexeme.0 lexeme.1

ahead_is : (rest : List Seen) → ahead_in rest ≡ ahead_by (first_lexeme rest)
unfolding ahead_by
ahead_is [] = refl
ahead_is (token ∷ rest) = refl

pub ahead_alike : (rest rest' : List Seen) → first_lexeme rest' ≡ first_lexeme rest → ahead_in rest' ≡ ahead_in rest
ahead_alike rest rest' alike = ahead_is rest' ∙ ap ahead_by alike ∙ sym (ahead_is rest)

spelling_by : Option Lexeme → Text
spelling_by None = []
spelling_by (Some lexeme) = lexeme.1

spelling_is : (rest : List Seen) → spelling_in rest ≡ spelling_by (first_lexeme rest)
unfolding spelling_by
spelling_is [] = refl
spelling_is (token ∷ rest) = refl

pub spelling_alike : (rest rest' : List Seen) → first_lexeme rest' ≡ first_lexeme rest → spelling_in rest' ≡ spelling_in rest
spelling_alike rest rest' alike = spelling_is rest' ∙ ap spelling_by alike ∙ sym (spelling_is rest)

-- ---- prefixes of the same lexemes

-- the list begins with tokens of these lexemes, and then with two prefixes of theirs
record Cut (first second list : List Seen) : Type 0 where
  front : List Seen
  back : List Seen
  split : list ≡ front ++ back
  same : map lexeme_of front ≡ map lexeme_of first
  then : map lexeme_of back ≡ map lexeme_of second

head_same : {X : Type 0} (x y : X) (xs ys : List X) → x ∷ xs ≡ y ∷ ys → x ≡ y
head_same x y xs ys e = cc

tail_same : {X : Type 0} (x y : X) (xs ys : List X) → x ∷ xs ≡ y ∷ ys → xs ≡ ys
tail_same x y xs ys e = cc

cut : (first second list : List Seen) → map lexeme_of list ≡ map lexeme_of (first ++ second) → Cut first second list
cut [] second list e = record { front = []; back = list; split = refl; same = refl; then = e }
cut (x ∷ first) second [] e = absurd (cc)
cut (x ∷ first) second (y ∷ list) e =
    let rest = cut first second list (tail_same _ _ _ _ e) in
    record {
      front = y ∷ rest.front;
      back = rest.back;
      split = ap (λ z. y ∷ z) rest.split;
      same = ap (λ z. z ∷ map lexeme_of rest.front) (head_same _ _ _ _ e) ∙ ap (λ z. lexeme_of x ∷ z) rest.same;
      then = rest.then;
    }

first_behind : (front front' rest rest' : List Seen) → map lexeme_of front' ≡ map lexeme_of front → first_lexeme rest' ≡ first_lexeme rest
    → first_lexeme (front' ++ rest') ≡ first_lexeme (front ++ rest)
first_behind [] [] rest rest' same alike = alike
first_behind [] (y ∷ front') rest rest' same alike = absurd (cc)
first_behind (x ∷ front) [] rest rest' same alike = absurd (cc)
first_behind (x ∷ front) (y ∷ front') rest rest' same alike = ap Some (head_same _ _ _ _ same)

-- ---- local parsers, over inputs of at most m tokens

-- the same names are known, and the same of them bound
pub record IsTwin (i i' : Input) : Type 0 where
  pub names : i'.names ≡ i.names
  pub scope : i'.scope ≡ i.scope
  pub refs : i'.refs ≡ i.refs

-- A twin begins with tokens of the same lexemes as these, goes on with those, and the next lexeme is the same.
pub record Follows (m : ℕ) (i : Input) (used next : List Seen) (i' : Input) (rest' : List Seen) : Type 0 where
  pub twin : IsTwin i i'
  pub few : length i'.rest ≤ m
  pub used' : List Seen
  pub split : i'.rest ≡ used' ++ rest'
  pub same : map lexeme_of used' ≡ map lexeme_of used
  pub alike : first_lexeme rest' ≡ first_lexeme next

-- what a parser gives, up to these tokens
pub record Gives {A : Type 0} (o : ParseOutcome A) (x : A) (j : Input) (end : ℕ) (rest' : List Seen) : Type 0 where
  pub last : Input
  pub reads : o ≡ Ok (x, last)
  pub twin : IsTwin j last
  pub left : last.rest ≡ rest'
  pub ends : last.end ≡ end

-- The tokens that were taken, or those before the fault, give the same again, at any places and before any tokens after the next one.
pub data LocalAt {A : Type 0} (m : ℕ) (p : Parser A) (i : Input) : ParseOutcome A → Type 0 where
  goes : {x : A} {j : Input} (used : List Seen) → i.rest ≡ used ++ j.rest → j.end ≡ i.end
      → ((i' : Input) (rest' : List Seen) → Follows m i used j.rest i' rest' → Gives (p i') x j i'.end rest')
      → LocalAt m p i (Ok (x, j))
  stops : {fault : ParseFault} (before from : List Seen) → i.rest ≡ before ++ from → place_of fault ≡ place_in i.end from
      → ((i' : Input) (rest' : List Seen) → Follows m i before from i' rest' → p i' ≡ Err (at_place (place_in i'.end rest') fault))
      → LocalAt m p i (Err fault)

abbrev pub IsLocal : {A : Type 0} → ℕ → Parser A → Type 0
IsLocal m p = (i : Input) → length i.rest ≤ m → LocalAt m p i (p i)

module _ {A B : Type 0} (m : ℕ) (p : Parser A) (f : A → Parser B) (i : Input) where
  -- the first step of a twin, and its outcome
  first_step : (x : A) (j : Input) (used : List Seen) → ((i' : Input) (rest' : List Seen) → Follows m i used j.rest i' rest' → Gives (p i') x j i'.end rest')
      → (others next : List Seen) → j.rest ≡ others ++ next → (i' : Input) (rest' : List Seen) → Follows m i (used ++ others) next i' rest'
      → (k : Input) × (p i' ≡ Ok (x, k)) × (k.end ≡ i'.end) × Follows m j others next k rest'
  first_step x j used go others next e i' rest' follows =
      let two = cut used others follows.used' follows.same in
      let split : i'.rest ≡ two.front ++ (two.back ++ rest') = follows.split ∙ ap (λ z. z ++ rest') two.split ∙ append_assoc two.front two.back rest' in
      let step = go i' (two.back ++ rest') (record {
        twin = follows.twin;
        few = follows.few;
        used' = two.front;
        split = split;
        same = two.same;
        alike = first_behind others two.back next rest' two.then follows.alike ∙ ap first_lexeme (sym e);
      }) in (
        step.last,
        step.reads,
        step.ends,
        record {
          twin = step.twin;
          few = omega (arith, ap length step.left, ap length split, length-append two.front (two.back ++ rest'), follows.few);
          used' = two.back;
          split = step.left;
          same = two.then;
          alike = follows.alike;
        },
      )

  then_at : (x : A) (j : Input) (used : List Seen) → i.rest ≡ used ++ j.rest → j.end ≡ i.end
      → ((i' : Input) (rest' : List Seen) → Follows m i used j.rest i' rest' → Gives (p i') x j i'.end rest')
      → (o : ParseOutcome B) → LocalAt m (f x) j o → LocalAt m (p >>= f) i o
  then_at x j used e same go o (goes {x = y} {j = k} used' e' same' go') =
      goes (used ++ used') (e ∙ ap (λ z. used ++ z) e' ∙ sym (append_assoc used used' k.rest)) (same' ∙ same)
      (λ i' rest' follows.
      let step = first_step x j used go used' k.rest e' i' rest' follows in
      let more = go' step.0 rest' step.3 in
      record { last = more.last; reads = ap (λ z. and_then z f) step.1 ∙ more.reads; twin = more.twin; left = more.left; ends = more.ends ∙ step.2 })
  then_at x j used e same go o (stops {fault = fault} before from e' place stay) =
      stops (used ++ before) from (e ∙ ap (λ z. used ++ z) e' ∙ sym (append_assoc used before from)) (place ∙ ap (λ z. place_in z from) same)
      (λ i' rest' follows.
      let step = first_step x j used go before from e' i' rest' follows in
      ap (λ z. and_then z f) step.1 ∙ stay step.0 rest' step.3 ∙ ap (λ end. Err (at_place (place_in end rest') fault)) step.2)

  bind_at : (o : ParseOutcome A) → LocalAt m p i o → ((x : A) → IsLocal m (f x)) → length i.rest ≤ m → LocalAt m (p >>= f) i (and_then o f)
  bind_at o (goes {x = x} {j = j} used e same go) local few =
      then_at x j used e same go (f x j) (local x j (omega (arith, ap length e, length-append used j.rest)))
  bind_at o (stops before from e place stay) local few =
      stops before from e place (λ i' rest' follows. ap (λ z. and_then z f) (stay i' rest' follows))

pub local_bind : {A B : Type 0} (m : ℕ) (p : Parser A) (f : A → Parser B) → IsLocal m p → ((x : A) → IsLocal m (f x)) → IsLocal m (p >>= f)
local_bind m p f local local' i few = bind_at m p f i (p i) (local i few) local' few

-- the same parser, on inputs of at most m tokens
same_at : {A : Type 0} (m : ℕ) (p q : Parser A) → ((i : Input) → length i.rest ≤ m → p i ≡ q i) → (i : Input) (o : ParseOutcome A) → LocalAt m q i o → LocalAt m p i o
same_at m p q same i o (goes used e ends go) =
    goes used e ends (λ i' rest' follows.
    let more = go i' rest' follows in
    record { last = more.last; reads = same i' follows.few ∙ more.reads; twin = more.twin; left = more.left; ends = more.ends })
same_at m p q same i o (stops before from e place stay) = stops before from e place (λ i' rest' follows. same i' follows.few ∙ stay i' rest' follows)

pub local_same : {A : Type 0} (m : ℕ) (p q : Parser A) → ((i : Input) → length i.rest ≤ m → p i ≡ q i) → IsLocal m q → IsLocal m p
local_same m p q same local i few = subst (LocalAt m p i) (sym (same i few)) (same_at m p q same i (q i) (local i few))

-- ---- the steps

nothing_used : (used' : List Seen) → map lexeme_of used' ≡ [] → used' ≡ []
nothing_used [] e = refl
nothing_used (x ∷ used') e = absurd (cc)

-- where nothing is taken, the rest of a twin is all of it
pub all_left : {m : ℕ} {i i' : Input} {next rest' : List Seen} → Follows m i [] next i' rest' → i'.rest ≡ rest'
all_left {rest' = rest'} follows = follows.split ∙ ap (λ z. z ++ rest') (nothing_used follows.used' follows.same)

-- the next lexeme of a twin, if nothing is taken
pub next_alike : {m : ℕ} {i i' : Input} {rest' : List Seen} → Follows m i [] i.rest i' rest' → first_lexeme i'.rest ≡ first_lexeme i.rest
next_alike follows = ap first_lexeme (all_left follows) ∙ follows.alike

-- a step that takes nothing and depends on the next lexeme
pub local_tell : {A : Type 0} (m : ℕ) (tell : Input → A) → ((i i' : Input) → IsTwin i i' → first_lexeme i'.rest ≡ first_lexeme i.rest → tell i' ≡ tell i)
    → IsLocal m (λ i. Ok (tell i, i))
local_tell m tell same i few = goes [] refl refl (λ i' rest' follows.
    record { last = i'; reads = ap (λ z. Ok (z, i')) (same i i' follows.twin (next_alike follows)); twin = follows.twin; left = all_left follows; ends = refl })

-- a step that takes nothing and leads to another input with the same tokens
pub local_change : (m : ℕ) (change : Input → Input) → ((i : Input) → (change i).rest ≡ i.rest) → ((i : Input) → (change i).end ≡ i.end)
    → ((i i' : Input) → IsTwin i i' → IsTwin (change i) (change i')) → IsLocal {A = Unit {0}} m (λ i. Ok (tt, change i))
local_change m change rest end twin i few = goes [] (sym (rest i)) (end i) (λ i' rest' follows.
    record { last = change i'; reads = refl; twin = twin i i' follows.twin; left = rest i' ∙ all_left follows; ends = end i' })

pub local_pure : {A : Type 0} (m : ℕ) (x : A) → IsLocal m (pure x)
local_pure m x = local_tell m (λ i. x) (λ i i' twin alike. refl)

pub local_peek : (m : ℕ) → IsLocal m peek
unfolding ahead
local_peek m = local_tell m ahead (λ i i' twin alike. ahead_alike i.rest i'.rest alike)

pub local_see : (m : ℕ) → IsLocal m (λ i. Ok (spelling i, i))
unfolding spelling
local_see m = local_tell m spelling (λ i i' twin alike. spelling_alike i.rest i'.rest alike)

pub local_sees_closing : (m : ℕ) → IsLocal m sees_closing
unfolding sees_closing ahead
local_sees_closing m = local_tell m (λ i. is_closing (ahead i)) (λ i i' twin alike. ap is_closing (ahead_alike i.rest i'.rest alike))

pub local_fault : {A : Type 0} (m : ℕ) (fault : ℕ → ParseFault) → ((n : ℕ) → place_of (fault n) ≡ n) → ((n k : ℕ) → at_place k (fault n) ≡ fault k)
    → IsLocal {A = A} m (λ i. Err (fault (place i)))
unfolding place
local_fault m fault stands moves i few = stops [] i.rest refl (stands (place i)) (λ i' rest' follows.
    ap (λ z. Err (fault (place_in i'.end z))) (all_left follows) ∙ ap Err (sym (moves (place i) (place_in i'.end rest'))))

pub local_expected : {A : Type 0} (m : ℕ) (wanted : Want) → IsLocal {A = A} m (expected wanted)
local_expected m wanted = local_fault m (λ n. Expected n wanted) (λ n. refl) (λ n k. refl)

-- one token is taken from a twin too
one_taken : (rest used' rest' : List Seen) → map lexeme_of used' ≡ map lexeme_of (take 1 rest) → first_lexeme rest' ≡ first_lexeme (drop 1 rest) → drop 1 (used' ++ rest') ≡ rest'
one_taken [] [] [] same alike = refl
one_taken [] [] (x ∷ rest') same alike = absurd (cc)
one_taken [] (x ∷ used') rest' same alike = absurd (cc)
one_taken (token ∷ rest) [] rest' same alike = absurd (cc)
one_taken (token ∷ rest) (x ∷ []) rest' same alike = refl
one_taken (token ∷ rest) (x ∷ y ∷ used') rest' same alike = absurd (cc)

first_taken : (rest used' rest' : List Seen) → map lexeme_of used' ≡ map lexeme_of (take 1 rest) → first_lexeme rest' ≡ first_lexeme (drop 1 rest)
    → first_lexeme (used' ++ rest') ≡ first_lexeme rest
first_taken [] [] rest' same alike = alike
first_taken [] (x ∷ used') rest' same alike = absurd (cc)
first_taken (token ∷ rest) [] rest' same alike = absurd (cc)
first_taken (token ∷ rest) (x ∷ used') rest' same alike = ap Some (head_same _ _ _ _ same)

-- a step that takes the next token, and depends on it
pub local_take : {A : Type 0} (m : ℕ) (tell : Input → A) (change : Input → Input) → ((i : Input) → (change i).rest ≡ drop 1 i.rest) → ((i : Input) → (change i).end ≡ i.end)
    → ((i i' : Input) → IsTwin i i' → first_lexeme i'.rest ≡ first_lexeme i.rest → (tell i' ≡ tell i) × IsTwin (change i) (change i'))
    → IsLocal m (λ i. Ok (tell i, change i))
local_take m tell change rest end twin i few =
    goes (take 1 i.rest) (sym (take-append-drop 1 i.rest) ∙ ap (λ z. take 1 i.rest ++ z) (sym (rest i))) (end i) (λ i' rest' follows.
    let alike = follows.alike ∙ ap first_lexeme (rest i) in
    let same = twin i i' follows.twin (ap first_lexeme follows.split ∙ first_taken i.rest follows.used' rest' follows.same alike) in
    record {
      last = change i';
      reads = ap (λ z. Ok (z, change i')) same.0;
      twin = same.1;
      left = rest i' ∙ ap (drop 1) follows.split ∙ one_taken i.rest follows.used' rest' follows.same alike;
      ends = end i';
    })

pub local_advance : (m : ℕ) → IsLocal m advance
unfolding advanced
local_advance m = local_take m (λ i. tt) advanced (λ i. refl) (λ i. refl) (λ i i' twin alike. (refl, record { names = twin.names; scope = twin.scope; refs = twin.refs }))

pub local_mark : (m : ℕ) → IsLocal m mark
unfolding marked
local_mark m = local_change m marked (λ i. refl) (λ i. refl) (λ i i' twin. record { names = twin.names; scope = twin.scope; refs = twin.refs })

pub local_bound : (m : ℕ) (x : ℕ) → IsLocal m (bind_name x)
unfolding bound
local_bound m x = local_change m (bound x) (λ i. refl) (λ i. refl) (λ i i' twin. record { names = twin.names; scope = ap (λ s. s ++ x ∷ []) twin.scope; refs = twin.refs })

pub local_unbound : (m : ℕ) → IsLocal m unbind
unfolding unbound
local_unbound m = local_change m unbound (λ i. refl) (λ i. refl) (λ i i' twin. record { names = twin.names; scope = ap (λ s. take (length s - 1) s) twin.scope; refs = twin.refs })

pub local_count : (m : ℕ) → IsLocal m count_ref
unfolding ref_counted
local_count m i few = goes [] refl refl (λ i' rest' follows.
    let twin = follows.twin in
    record {
      last = ref_counted i';
      reads = ap (λ (r : ℕ). Ok (record { 0 = r }, ref_counted i')) twin.refs;
      twin = record { names = twin.names; scope = twin.scope; refs = ap (λ r. r + 1) twin.refs };
      left = all_left follows;
      ends = refl;
    })
