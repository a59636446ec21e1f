-- Tokens that are read as a part, and how parts join.
use Rattle.std.proofs.Common.{◌≡◌, refl, sym, ap, subst, ◌∙◌, ℕ, suc, List, [], ◌∷◌, ◌++◌, drop, take, length, ◌+◌, ◌-◌, append_assoc}
use Rattle.std.specs.List.{AllByRecursion}
use Rattle.ame_term.specs.Tree.{Typ, Tree}
use Rattle.ame_parse.specs.declared.ahead.Ahead.{Ahead}
use Rattle.ame_parse.specs.declared.ahead.Ahead.TheVariants as a
use Rattle.ame_parse.specs.Input.{Seen, Input, ahead_of, ahead_in, ahead, spelling_in, spelling, advanced, marked, name_number, named, bound, unbound, ref_counted}
use Rattle.ame_parse.specs.Names.{number_in, with_name}
use Rattle.ame_parse.specs.Grammar as g
use Rattle.ame_parse.specs.Grammar.{IsType, IsTypeForm, IsTerm, IsForm}
use Rattle.ame_print.specs.Layout.{Printed, open_token, close_token}
use Rattle.ame_print.specs.Tokens.{form}
use Rattle.ame_print.proofs.Canon.{token_of, tokens_of, IsAlone, IsLike, Reaches}
use Rattle.ame_print.proofs.Alone.{IsFixed, opening_fixed, closing_fixed}

-- The tokens stand alone, and an input like the first one that begins with them is read so, up to an input like the second one.
pub record Part (tokens : List Printed) (P : Input → Input → Type 0) (i j : Input) : Type 0 where
  pub alone : AllByRecursion IsAlone tokens
  pub again : (i' : Input) (more : List Printed) → IsLike i i' → tokens_of i'.rest ≡ tokens ++ more → Reaches (P i') j more

-- ---- one token

-- the input begins with the token, before these
record Takes (token : Printed) (rest : List Seen) (more : List Printed) : Type 0 where
  next : ahead_in rest ≡ ahead_of token.kind token.bytes
  spelt : spelling_in rest ≡ token.bytes
  left : tokens_of (drop 1 rest) ≡ more

takes : (token : Printed) (rest : List Seen) (more : List Printed) → tokens_of rest ≡ token ∷ more → Takes token rest more
takes token [] more e = absurd (cc)
takes token (seen ∷ rest) more e =
    let same : token_of seen ≡ token = cc in
    let others : tokens_of rest ≡ more = cc in
    record { next = ap (λ t. ahead_of t.kind t.bytes) same; spelt = ap (λ t. t.bytes) same; left = others }

-- a step over the token leads from inputs like one to inputs like another
pub record Moves (token : Printed) (step : Input → Input) (i k : Input) : Type 0 where
  pub like : (i' : Input) → IsLike i i' → spelling i' ≡ token.bytes → IsLike k (step i')
  pub rest : (i' : Input) → (step i').rest ≡ drop 1 i'.rest

pub moves_after : (token : Printed) (i : Input) → Moves token advanced i (advanced i)
unfolding advanced
moves_after token i = record { like = λ i' like e. record { names = like.names; scope = like.scope; refs = like.refs }; rest = λ i'. refl }

pub moves_marked : (token : Printed) (i : Input) → Moves token (λ i. advanced (marked i)) i (advanced (marked i))
unfolding advanced marked
moves_marked token i = record { like = λ i' like e. record { names = like.names; scope = like.scope; refs = like.refs }; rest = λ i'. refl }

pub moves_marked_twice : (token : Printed) (i k : Input) → IsLike i k → Moves token (λ i. advanced (marked (marked i))) i k
unfolding advanced marked
moves_marked_twice token i k same = record { like = λ i' like e. record { names = like.names ∙ sym same.names; scope = like.scope ∙ sym same.scope; refs = like.refs ∙ sym same.refs }; rest = λ i'. refl }

-- if the input before the token is like the one after it
moves_open : (i : Input) → Moves open_token advanced i i
unfolding advanced
moves_open i = record { like = λ i' like e. record { names = like.names; scope = like.scope; refs = like.refs }; rest = λ i'. refl }

moves_open_marked : (i : Input) → Moves open_token (λ i. advanced (marked i)) i i
unfolding advanced marked
moves_open_marked i = record { like = λ i' like e. record { names = like.names; scope = like.scope; refs = like.refs }; rest = λ i'. refl }

named_names : (i i' : Input) → IsLike i i' → spelling i' ≡ spelling i → (named i').names ≡ (named i).names
unfolding named
named_names i i' like e = ap (λ z. with_name z (spelling i')) like.names ∙ ap (with_name i.names) e

pub moves_named : {token : Printed} (i : Input) → token.bytes ≡ spelling i → Moves token named i (named i)
unfolding named
moves_named i e = record { like = λ i' like e'. record { names = named_names i i' like (e' ∙ e); scope = like.scope; refs = like.refs }; rest = λ i'. refl }

pub moves_variable : {token : Printed} (i : Input) → token.bytes ≡ spelling i → Moves token (λ i. named (marked i)) i (named (marked i))
unfolding named marked spelling
moves_variable i e = record { like = λ i' like e'. record { names = named_names i i' like (e' ∙ e); scope = like.scope; refs = like.refs }; rest = λ i'. refl }

pub moves_unbound : {token : Printed} {step : Input → Input} {i k : Input} → Moves token step i k → Moves token (λ i. unbound (step i)) i (unbound k)
unfolding unbound
moves_unbound moves = record {
  like = λ i' like e. let h = moves.like i' like e in record { names = h.names; scope = ap (λ s. take (length s - 1) s) h.scope; refs = h.refs };
  rest = moves.rest;
}

pub number_like : (i i' : Input) → IsLike i i' → spelling i' ≡ spelling i → name_number i' ≡ name_number i
unfolding name_number
number_like i i' like e = ap (λ z. number_in z (spelling i')) like.names ∙ ap (number_in i.names) e

-- ---- joining

all_append : {X : Type 0} (P : X → Type 0) (xs ys : List X) → AllByRecursion P xs → AllByRecursion P ys → AllByRecursion P (xs ++ ys)
all_append P [] ys h h' = h'
all_append P (x ∷ xs) ys h h' = (h.0, all_append P xs ys h.1 h')

pub nothing : (i : Input) → Part [] (λ i' j'. i' ≡ j') i i
nothing i = record { alone = tt; again = λ i' more like e. record { last = i'; ends = refl; like = like; left = e } }

-- a token, and then a part
pub record Begun (token : Printed) (next : Ahead) (step : Input → Input) (P : Input → Input → Type 0) (i j : Input) : Type 0 where
  pub is : ahead i ≡ next
  pub spelt : spelling i ≡ token.bytes
  pub then : P (step i) j

pub begun : {token : Printed} {next : Ahead} {step : Input → Input} {i k j : Input} {tokens : List Printed} {P : Input → Input → Type 0}
    → IsFixed token next → Moves token step i k → Part tokens P k j → Part (token ∷ tokens) (Begun token next step P) i j
unfolding ahead spelling
begun {token} {next} {step} {i} {k} {j} {tokens} {P} fixed moves part = record {
  alone = (fixed.alone, part.alone);
  again = λ i' more like e.
      let t = takes token i'.rest (tokens ++ more) e in
      let r = part.again (step i') more (moves.like i' like t.spelt) (ap tokens_of (moves.rest i') ∙ t.left) in
      record { last = r.last; ends = record { is = t.next ∙ fixed.is; spelt = t.spelt; then = r.ends }; like = r.like; left = r.left };
}

-- a part, and then another one
pub record Both (P Q : Input → Input → Type 0) (i k : Input) : Type 0 where
  pub between : Input
  pub first : P i between
  pub second : Q between k

pub both : {xs ys : List Printed} {P Q : Input → Input → Type 0} {i j k : Input} → Part xs P i j → Part ys Q j k → Part (xs ++ ys) (Both P Q) i k
both {xs} {ys} {P} {Q} p q = record {
  alone = all_append IsAlone xs ys p.alone q.alone;
  again = λ i' more like e.
      let r = p.again i' (ys ++ more) like (e ∙ append_assoc xs ys more) in
      let s = q.again r.last more r.like r.left in
      record { last = s.last; ends = record { between = r.last; first = r.ends; second = s.ends }; like = s.like; left = s.left };
}

-- a part, and then a closing parenthesis
pub record Shut (step : Input → Input) (P : Input → Input → Type 0) (i k : Input) : Type 0 where
  pub last : Input
  pub inside : P i last
  pub next : ahead last ≡ a.Closing
  pub end : step last ≡ k

pub shut : {tokens : List Printed} {step : Input → Input} {P : Input → Input → Type 0} {i j k : Input} → Part tokens P i j → Moves close_token step j k
    → Part (tokens ++ close_token ∷ []) (Shut step P) i k
unfolding ahead spelling
shut {tokens} {step} {P} part moves = record {
  alone = all_append IsAlone tokens (close_token ∷ []) part.alone (closing_fixed.alone, tt);
  again = λ i' more like e.
      let r = part.again i' (close_token ∷ more) like (e ∙ append_assoc tokens (close_token ∷ []) more) in
      let t = takes close_token (r.last).rest more r.left in
      record {
        last = step r.last;
        ends = record { last = r.last; inside = r.ends; next = t.next; end = refl };
        like = moves.like r.last r.like t.spelt;
        left = ap tokens_of (moves.rest r.last) ∙ t.left;
      };
}

-- ---- the same part, said otherwise

pub mapped : {tokens : List Printed} {P Q : Input → Input → Type 0} {i j : Input} → Part tokens P i j → ((i' j' : Input) → IsLike i i' → P i' j' → Q i' j') → Part tokens Q i j
mapped p f = record {
  alone = p.alone;
  again = λ i' more like e. let r = p.again i' more like e in record { last = r.last; ends = f i' r.last like r.ends; like = r.like; left = r.left };
}

pub regrouped : {xs ys : List Printed} {P : Input → Input → Type 0} {i j : Input} → xs ≡ ys → Part xs P i j → Part ys P i j
regrouped {P = P} {i = i} {j = j} e p = subst (λ z. Part z P i j) e p

-- a part with a name bound
pub within : {tokens : List Printed} {P : Input → Input → Type 0} {j : Input} (x : ℕ) (i : Input) → Part tokens P (bound x i) j → Part tokens (λ i' j'. P (bound x i') j') i j
unfolding bound
within x i p = record {
  alone = p.alone;
  again = λ i' more like e. p.again (bound x i') more (record { names = like.names; scope = ap (λ s. s ++ x ∷ []) like.scope; refs = like.refs }) e;
}

-- a part of a `ref` form, which is counted
pub behind_ref : {tokens : List Printed} {P : Input → Input → Type 0} {j : Input} (i : Input) → Part tokens P (ref_counted i) j
    → Part tokens (λ i' j'. P (ref_counted i') j') i j
unfolding ref_counted
behind_ref i p = record {
  alone = p.alone;
  again = λ i' more like e. p.again (ref_counted i') more (record { names = like.names; scope = like.scope; refs = ap (λ r. r + 1) like.refs }) e;
}

-- the same from the input before a parenthesis
pub before : {tokens : List Printed} {P : Input → Input → Type 0} {j : Input} (i : Input) → Part tokens P (advanced (marked i)) j → Part tokens P i j
unfolding advanced marked
before i p = record { alone = p.alone; again = λ i' more like e. p.again i' more (record { names = like.names; scope = like.scope; refs = like.refs }) e }

pub before_type : {tokens : List Printed} {P : Input → Input → Type 0} {j : Input} (i : Input) → Part tokens P (advanced i) j → Part tokens P i j
unfolding advanced
before_type i p = record { alone = p.alone; again = λ i' more like e. p.again i' more (record { names = like.names; scope = like.scope; refs = like.refs }) e }

-- ---- whole parts

-- one token
pub atom : {token : Printed} {next : Ahead} {step : Input → Input} {i k : Input} {P : Input → Input → Type 0} → IsFixed token next → Moves token step i k
    → ((i' : Input) → IsLike i i' → ahead i' ≡ next → spelling i' ≡ token.bytes → P i' (step i')) → Part (token ∷ []) P i k
atom {k = k} {P = P} fixed moves rule = mapped (begun fixed moves (nothing k)) (λ i' j' like r. subst (P i') r.then (rule i' like r.is r.spelt))

-- a form of a type
pub type_form_part : {n : ℕ} {type : Typ} {tokens : List Printed} {P : Input → Input → Type 0} {i j : Input} → Part tokens P i j
    → ((i' j' : Input) → P i' j' → ahead j' ≡ a.Closing → IsTypeForm n i' type (advanced j')) → Part (form tokens) (λ i' j'. IsType (suc n) i' type j') i (advanced j)
type_form_part {n = n} {type = type} {i = i} {j = j} part rule =
    mapped (begun opening_fixed (moves_open i) (shut part (moves_after close_token j)))
    (λ i' j' like r. let s = r.then in subst (IsType (suc n) i' type) s.end (g.type_form r.is (rule (advanced i') s.last s.inside s.next)))

-- a form that ends with a closing parenthesis
pub shut_part : {n : ℕ} {tree : Tree} {tokens : List Printed} {step : Input → Input} {P : Input → Input → Type 0} {i j : Input} → Part tokens (Shut step P) i j
    → ((i' j' : Input) → IsLike i i' → P i' j' → ahead j' ≡ a.Closing → IsForm n i' tree (step j')) → Part (open_token ∷ tokens) (λ i' j'. IsTerm (suc n) i' tree j') i j
unfolding advanced marked
shut_part {n = n} {tree = tree} {i = i} part rule =
    mapped (begun opening_fixed (moves_open_marked i) part)
    (λ i' j' like r.
    let s = r.then in
    subst (IsTerm (suc n) i' tree) s.end (g.form r.is (rule (advanced (marked i')) s.last (record { names = like.names; scope = like.scope; refs = like.refs }) s.inside s.next)))

pub form_part : {n : ℕ} {tree : Tree} {tokens : List Printed} {step : Input → Input} {P : Input → Input → Type 0} {i j k : Input} → Part tokens P i j → Moves close_token step j k
    → ((i' j' : Input) → IsLike i i' → P i' j' → ahead j' ≡ a.Closing → IsForm n i' tree (step j')) → Part (form tokens) (λ i' j'. IsTerm (suc n) i' tree j') i k
form_part part moves rule = shut_part (shut part moves) rule
