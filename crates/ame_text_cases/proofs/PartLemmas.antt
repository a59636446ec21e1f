-- Canonical tokens are read as their term, and names and scope stay as they are.
use Rattle.std.proofs.Common.{◌≡◌, refl, sym, ap, subst, ◌∙◌, ℕ, suc, ◌-◌, ◌≤◌, ◌<◌, ◌^◌, ◌==◌, pos, true, List, [], ◌∷◌, ◌++◌, take, length, length-append, append_assoc, arith}
use Rattle.std.specs.Prelude.{codes}
use Rattle.std.specs.List.{list_any}
use Rattle.std.proofs.Math.Seq.{take-append_seam}
use Rattle.ame_lex.specs.Bytes.{Text}
use Rattle.ame_term.specs.declared.types.Sort.{Sort}
use Rattle.ame_term.specs.declared.types.Unary.{Unary}
use Rattle.ame_term.specs.declared.types.Unary.TheVariants as unary
use Rattle.ame_term.specs.declared.types.Binary.{Binary}
use Rattle.ame_term.specs.Tree.{Tree}
use Rattle.ame_parse.specs.declared.words.Word.{Word}
use Rattle.ame_parse.specs.declared.words.Word.TheVariants as w
use Rattle.ame_parse.specs.declared.ahead.Ahead.{Ahead}
use Rattle.ame_parse.specs.declared.ahead.Ahead.TheVariants as a
use Rattle.ame_parse.specs.Input.{Input, ahead, advanced, marked, spelling, name_number, named, binds_name, bound, unbound, ref_number, ref_counted}
use Rattle.ame_parse.specs.Names.{number_in, with_name}
use Rattle.ame_parse.specs.Forms.{row}
use Rattle.ame_parse.specs.Grammar as g
use Rattle.ame_parse.specs.Grammar.{IsUnary, IsBinary, IsTerm, IsForm, AreParts}
use Rattle.ame_print.specs.Layout.{Printed, close_token, word, number_token}
use Rattle.ame_print.specs.Tokens.{form, sort_token, unary_tokens, binary_token, term_tokens, row_tokens}
use Rattle.ame_print.proofs.Canon.{IsLike}
use Rattle.ame_print.proofs.Alone.{IsFixed, closing_fixed, reserved, word_text, unary_word, binary_fixed, sort_fixed, sort_read}
use Rattle.ame_print.proofs.Numbers.{number_alone}
use Rattle.ame_print.proofs.Parts.{Part, Moves, Shut, begun, both, mapped, regrouped, within, behind_ref, atom, shut_part, form_part}
use Rattle.ame_text_cases.specs.Workload.{numeral}

-- the tokens are read as the term, with at most this number of parentheses open, between inputs like these
abbrev pub IsPart : List Printed → ℕ → Input → Tree → Input → Type 0
IsPart tokens n i tree j = Part tokens (λ i' j'. IsTerm n i' tree j') i j

-- an input with these names, whose bound ones have these numbers, after this number of `ref` forms
abbrev pub input_with : List Text → List ℕ → ℕ → Input
input_with names scope refs = record { rest = []; end = 0; names = names; scope = scope; places = []; refs = refs }

-- ---- steps

stays : (token : Printed) (i : Input) → Moves token advanced i i
unfolding advanced
stays token i = record { like = λ i' like e. record { names = like.names; scope = like.scope; refs = like.refs }; rest = λ i'. refl }

stays_marked : (token : Printed) (i : Input) → Moves token (λ i. advanced (marked i)) i i
unfolding advanced marked
stays_marked token i = record { like = λ i' like e. record { names = like.names; scope = like.scope; refs = like.refs }; rest = λ i'. refl }

stays_known : (bytes : Text) (i : Input) → with_name i.names bytes ≡ i.names → Moves (word bytes) (λ i. named (marked i)) i i
unfolding named marked spelling
stays_known bytes i kept = record {
  like = λ i' like e. record { names = ap (λ z. with_name z (spelling i')) like.names ∙ ap (with_name i.names) e ∙ kept; scope = like.scope; refs = like.refs };
  rest = λ i'. refl;
}

moves_name : (bytes : Text) (names : List Text) (scope : List ℕ) (refs : ℕ) → Moves (word bytes) named (input_with names scope refs) (input_with (with_name names bytes) scope refs)
unfolding named
moves_name bytes names scope refs = record {
  like = λ i' like e. record { names = ap (λ z. with_name z (spelling i')) like.names ∙ ap (with_name names) e; scope = like.scope; refs = like.refs };
  rest = λ i'. refl;
}

without_last : (scope : List ℕ) (x : ℕ) → take (length (scope ++ x ∷ []) - 1) (scope ++ x ∷ []) ≡ scope
without_last scope x =
    let e : length (scope ++ x ∷ []) - 1 ≡ length scope = omega (arith, length-append scope (x ∷ [])) in
    ap (λ m. take m (scope ++ x ∷ [])) e ∙ take-append_seam scope (x ∷ [])

moves_out : (names : List Text) (scope : List ℕ) (x refs : ℕ) → Moves close_token (λ i. unbound (advanced i)) (input_with names (scope ++ x ∷ []) refs) (input_with names scope refs)
unfolding advanced unbound
moves_out names scope x refs = record {
  like = λ i' like e. record { names = like.names; scope = ap (λ s. take (length s - 1) s) like.scope ∙ without_last scope x; refs = like.refs };
  rest = λ i'. refl;
}

numbered : (i i' : Input) (bytes : Text) (x : ℕ) → IsLike i i' → spelling i' ≡ bytes → number_in i.names bytes ≡ x → name_number i' ≡ x
unfolding name_number
numbered i i' bytes x like e is = ap (λ z. number_in z (spelling i')) like.names ∙ ap (number_in i.names) e ∙ is

bound_like : (i i' : Input) (x y : ℕ) → IsLike i i' → y ≡ x → list_any (λ z. z == x) i.scope ≡ true → binds_name y i' ≡ true
unfolding binds_name
bound_like i i' x y like e is = ap (λ z. list_any (λ v. v == z) i'.scope) e ∙ ap (list_any (λ v. v == x)) like.scope ∙ is

-- ---- one token

-- the bytes are a name that is bound by this number
pub record IsKnown (i : Input) (bytes : Text) (x : ℕ) : Type 0 where
  pub fixed : IsFixed (word bytes) a.Name
  pub number : number_in i.names bytes ≡ x
  pub kept : with_name i.names bytes ≡ i.names
  pub bound : list_any (λ y. y == x) i.scope ≡ true

pub variable_part : (n : ℕ) (i : Input) (bytes : Text) (x : ℕ) → IsKnown i bytes x → IsPart (word bytes ∷ []) n i (Tree.Var x) i
variable_part n i bytes x known =
    atom known.fixed (stays_known bytes i known.kept)
    (λ i' like is spelt.
    let same = numbered i i' bytes x like spelt known.number in
    subst (λ y. IsTerm n i' (Tree.Var y) (named (marked i'))) same (g.variable is (bound_like i i' x (name_number i') like same known.bound)))

pub number_fixed : (v : ℕ) → v < 2 ^ 63 → IsFixed (number_token (pos v)) (a.Number (pos v))
number_fixed v small = record { alone = number_alone (pos v) (record { sfits = omega (arith, small) }); is = refl }

pub number_part : (n : ℕ) (i : Input) (v : ℕ) → v < 2 ^ 63 → IsPart (number_token (pos v) ∷ []) n i (numeral v) i
number_part n i v small = atom (number_fixed v small) (stays_marked (number_token (pos v)) i) (λ i' like is spelt. g.int is)

-- ---- forms

pub one_part : {which : Word} {operator : Unary} (tokens : List Printed) (n : ℕ) (i : Input) (part : Tree) → IsUnary which operator → IsPart tokens n i part i
    → IsPart (form (unary_tokens operator ++ tokens)) (suc n) i (Tree.One operator part) i
one_part {which} {operator} tokens n i part is p =
    regrouped (ap (λ z. form (z ++ tokens)) (unary_word is))
    (form_part (begun (reserved which) (stays (word (word_text which)) i) p) (stays close_token i) (λ i' j' like r shut. g.one r.is is r.then shut))

pub ref_part : (sort : Sort) (tokens : List Printed) (n : ℕ) (i : Input) (part : Tree) → IsPart tokens n (ref_counted i) part (ref_counted i)
    → IsPart (form (word (codes "ref") ∷ sort_token sort ∷ tokens)) (suc n) i (Tree.One (unary.Ref sort (ref_number i)) part) (ref_counted i)
ref_part sort tokens n i part p =
    form_part (begun (reserved w.Ref) (stays (word (codes "ref")) i) (begun (sort_fixed sort) (stays (sort_token sort) i) (behind_ref i p)))
    (stays close_token (ref_counted i))
    (λ i' j' like r shut.
    subst (λ (k : ℕ). IsForm n i' (Tree.One (unary.Ref sort (record { 0 = k })) part) (advanced j')) like.refs
    (g.ref r.is (sort_read sort (advanced i') (r.then).spelt) (r.then).then shut))

pub two_part : {next : Ahead} {operator : Binary} (xs ys : List Printed) (n : ℕ) (i : Input) (left right : Tree) → IsBinary next operator → IsPart xs n i left i → IsPart ys n i right i
    → IsPart (form (binary_token operator ∷ xs ++ ys)) (suc n) i (Tree.Two operator left right) i
two_part {operator = operator} xs ys n i left right is p q =
    form_part (begun (binary_fixed is) (stays (binary_token operator) i) (both p q)) (stays close_token i)
    (λ i' j' like r shut. g.two r.is is (r.then).first (r.then).second shut)

pub async_part : (tokens : List Printed) (n : ℕ) (i : Input) (part : Tree) → IsPart tokens n i part i → IsPart (form (word (codes "async") ∷ tokens)) (suc n) i (Tree.Async part) i
async_part tokens n i part p = form_part (begun (reserved w.Async) (stays (word (codes "async")) i) p) (stays close_token i) (λ i' j' like r shut. g.async r.is r.then shut)

-- a name, what its value's tokens are, and the body, in which it is bound
pub let_part : (vs bs : List Printed) (n x : ℕ) (bytes : Text) (names last : List Text) (scope : List ℕ) (refs refs' refs'' : ℕ) (value body : Tree) → IsFixed (word bytes) a.Name → number_in names bytes ≡ x
    → IsPart vs n (input_with (with_name names bytes) scope refs) value (input_with (with_name names bytes) scope refs')
    → IsPart bs n (input_with (with_name names bytes) (scope ++ x ∷ []) refs') body (input_with last (scope ++ x ∷ []) refs'')
    → IsPart (form (word (codes "let") ∷ word bytes ∷ vs ++ bs)) (suc n) (input_with names scope refs) (Tree.Let x value body) (input_with last scope refs'')
unfolding bound
let_part vs bs n x bytes names last scope refs refs' refs'' value body fixed number p q =
    let outer = input_with names scope refs in
    let inside = input_with (with_name names bytes) scope refs' in
    form_part (begun (reserved w.Let) (stays (word (codes "let")) outer) (begun fixed (moves_name bytes names scope refs) (both p (within x inside q)))) (moves_out last scope x refs'')
    (λ i' j' like r shut.
    let name = r.then in
    let same = numbered outer (advanced i') bytes x ((stays (word (codes "let")) outer).like i' like r.spelt) name.spelt number in
    g.binding r.is name.is same (name.then).first (name.then).second shut)

-- ---- the parts of a `do` form, with its closing parenthesis

abbrev pub IsRow : List Text → ℕ → Input → List Tree → Type 0
IsRow all n i others = Part (row_tokens all (row others) ++ close_token ∷ []) (Shut advanced (λ i' j'. AreParts n i' others j')) i i

pub no_more_parts : (all : List Text) (n : ℕ) (i : Input) → IsRow all n i []
unfolding row_tokens
no_more_parts all n i = atom closing_fixed (stays close_token i) (λ i' like is spelt. record { last = i'; inside = g.none is; next = is; end = refl })

pub one_more_part : (all : List Text) (n : ℕ) (i : Input) (part : Tree) (others : List Tree) → IsPart (term_tokens all part) n i part i → IsRow all n i others → IsRow all n i (part ∷ others)
unfolding row_tokens
one_more_part all n i part others p q =
    regrouped (sym (append_assoc (term_tokens all part) (row_tokens all (row others)) (close_token ∷ [])))
    (mapped (both p q) (λ i' j' like r. let s = r.second in record { last = s.last; inside = g.more r.first s.inside; next = s.next; end = s.end }))

sequence_of : {n : ℕ} {i l : Input} {parts : List Tree} → ahead i ≡ a.Reserved w.Do → AreParts n (advanced i) parts l → ahead l ≡ a.Closing → 2 ≤ length parts → IsForm n i (Tree.Do (row parts)) (advanced l)
sequence_of e (g.none is) shut two = absurd (omega (arith, two))
sequence_of e (g.more h (g.none is)) shut two = absurd (omega (arith, two))
sequence_of e (g.more h (g.more h' others)) shut two = g.sequence e h h' others shut

pub do_part : (all : List Text) (n : ℕ) (i : Input) (parts : List Tree) → 2 ≤ length parts → IsRow all n i parts → IsPart (term_tokens all (Tree.Do (row parts))) (suc n) i (Tree.Do (row parts)) i
unfolding term_tokens
do_part all n i parts two p =
    shut_part
    (mapped (begun (reserved w.Do) (stays (word (codes "do")) i) p)
    (λ i' j' like r. let s = r.then in inner i' j' n parts r.is s))
    (λ i' j' like r shut. sequence_of r.0 r.1 shut two)
  where
    -- the closing parenthesis after the word and all parts
    inner : (i' j' : Input) (n : ℕ) (parts : List Tree) → ahead i' ≡ a.Reserved w.Do → Shut advanced (λ k l. AreParts n k parts l) (advanced i') j'
        → Shut advanced (λ k l. (ahead k ≡ a.Reserved w.Do) × AreParts n (advanced k) parts l) i' j'
    inner i' j' n parts is s = record { last = s.last; inside = (is, s.inside); next = s.next; end = s.end }
