-- The tokens of terms are read again.
use Rattle.std.proofs.Common.{◌≡◌, refl, sym, ap, subst, ◌∙◌, ℕ, suc, pos, Bool, true, false, cond, List, [], ◌∷◌, ◌++◌, append_assoc}
use Rattle.std.specs.Prelude.{ℤ, codes}
use Rattle.std.specs.List.{AllByRecursion}
use Rattle.ame_lex.specs.Bytes.{Text}
use Rattle.ame_term.specs.declared.types.Unary.TheVariants as unary
use Rattle.ame_term.specs.Tree.{Typ, Head, Val, Tree, unit_tree}
use Rattle.ame_parse.specs.declared.words.Word.{Word}
use Rattle.ame_parse.specs.declared.words.Word.TheVariants as w
use Rattle.ame_parse.specs.declared.ahead.Ahead.{Ahead}
use Rattle.ame_parse.specs.declared.ahead.Ahead.TheVariants as a
use Rattle.ame_parse.specs.Input.{Input, ahead, advanced, marked, name_number, spelling, named, binds_name, bound}
use Rattle.ame_parse.specs.Forms.{row}
use Rattle.ame_parse.specs.Grammar as g
use Rattle.ame_parse.specs.Grammar.{IsTerm, IsForm, IsParam, IsFunctionHead, outside, IsType, AreParts}
use Rattle.ame_print.specs.Layout.{Printed, close_token, word}
use Rattle.ame_print.specs.Layout as layout
use Rattle.ame_print.specs.Tokens.{form, is_unit, is_unit_tree, type_tokens, name_token, function_tokens, term_tokens, row_tokens}
use Rattle.ame_print.proofs.Canon.{IsLike, IsGood, IsFirstOf, IsRead}
use Rattle.ame_print.proofs.Growth.{◌▸◌, grows_after, grows_marked, grows_named, type_grows, param_grows, term_grows}
use Rattle.ame_print.proofs.Alone.{closing_fixed, reserved, sort_fixed, sort_read, effect_fixed, effect_read, unary_word, binary_fixed, number_fixed, name_fixed, word_text}
use Rattle.ame_print.proofs.Parts as parts
use Rattle.ame_print.proofs.Parts.{Begun, Both, Shut, moves_after, moves_marked, moves_marked_twice, moves_variable, number_like, atom}
use Rattle.ame_print.proofs.TypesAgain.{type_again, param_again}
use Rattle.ame_print.proofs.Again.{Again, Adds, adds, over, step, name_step, joined, inner, behind_ref, mapped, regrouped, before, ends, ends_unbound, formed, formed_shut}

-- the tokens are read as the tree, with this number of parentheses open
abbrev IsAgain : List Text → List Printed → ℕ → Input → Tree → Input → Type 0
IsAgain all tokens n i tree j = Again all tokens (λ i' j'. IsTerm n i' tree j') i j

-- ---- one token

constant : {all : List Text} {n : ℕ} {tree : Tree} (which : Word) (i : Input) → ((i' : Input) → ahead i' ≡ a.Reserved which → IsTerm n i' tree (advanced (marked i')))
    → IsAgain all (word (word_text which) ∷ []) n i tree (advanced (marked i))
constant which i rule = record {
  adds = adds (grows_marked i ▸ grows_after (marked i));
  part = λ good first. atom (reserved which) (moves_marked _ i) (λ i' like is spelt. rule i' is);
}

integer : {all : List Text} (n : ℕ) (i : Input) (value : ℤ) → ahead i ≡ a.Number value
    → IsAgain all (layout.number_token value ∷ []) n i (Tree.Held (Val.Int value)) (advanced (marked i))
integer n i value e = record {
  adds = adds (grows_marked i ▸ grows_after (marked i));
  part = λ good first. atom (number_fixed i value e good) (moves_marked _ i) (λ i' like is spelt. g.int is);
}

binds_like : (i i' : Input) → IsLike i i' → name_number i' ≡ name_number i → binds_name (name_number i) i ≡ true → binds_name (name_number i') i' ≡ true
unfolding binds_name
binds_like i i' like same e = rw (same, like.scope) e

names_marked : (i : Input) (all : List Text) → IsFirstOf (named (marked i)).names all → IsFirstOf (named i).names all
unfolding named marked spelling
names_marked i all first = first

variable : {all : List Text} (n : ℕ) (i : Input) → ahead i ≡ a.Name → binds_name (name_number i) i ≡ true
    → IsAgain all (name_token all (name_number i) ∷ []) n i (Tree.Var (name_number i)) (named (marked i))
variable {all} n i e is_bound = record {
  adds = adds (grows_marked i ▸ grows_named (marked i));
  part = λ good first.
      let name = name_fixed i all e good (names_marked i all first) in
      atom name.fixed (moves_variable i name.bytes)
      (λ i' like is spelt.
      let same = number_like i i' like (spelt ∙ name.bytes) in
      subst (λ x. IsTerm n i' (Tree.Var x) (named (marked i'))) same (g.variable is (binds_like i i' like same is_bound)));
}

-- ---- `unprotected unit`

form_is_no_unit : {n : ℕ} {i j : Input} {tree : Tree} → IsForm n i tree j → is_unit_tree tree ≡ false
form_is_no_unit (g.function head body shut) = refl
form_is_no_unit _ = refl

is_unit_value : (value : Val) → is_unit value ≡ true → value ≡ Val.Unit
is_unit_value Val.Unit e = refl
is_unit_value _ e = absurd (cc)

is_unit_only : (tree : Tree) → is_unit_tree tree ≡ true → tree ≡ unit_tree
is_unit_only (Tree.Held value) e = ap Tree.Held (is_unit_value value e)
is_unit_only _ e = absurd (cc)

-- `unit` leaves the names, the scope and the count of `ref` forms as they were
unit_leaves : {n : ℕ} {i j : Input} {tree : Tree} → IsTerm n i tree j → is_unit_tree tree ≡ true → IsLike i j
unfolding advanced marked
unit_leaves (g.int e) is = absurd (cc)
unit_leaves (g.unit e) is = record { names = refl; scope = refl; refs = refl }
unit_leaves (g.truth e) is = absurd (cc)
unit_leaves (g.falsehood e) is = absurd (cc)
unit_leaves (g.yield e) is = absurd (cc)
unit_leaves (g.variable e is_bound) is = absurd (cc)
unit_leaves (g.form e form) is = let no = form_is_no_unit form in absurd (cc)

-- what leaves them as they were is read as `yield`
yielded : {all : List Text} {n : ℕ} {part : Tree} {i k : Input} → Adds i k → IsLike i k → part ≡ unit_tree → IsAgain all (word (codes "yield") ∷ []) n i (Tree.Unprotected part) k
yielded {n = n} {i = i} {k = k} more same e = record {
  adds = more;
  part = λ good first.
      atom (reserved w.Yield) (moves_marked_twice _ i k same) (λ i' like is spelt. subst (λ t. IsTerm n i' (Tree.Unprotected t) (advanced (marked (marked i')))) (sym e) (g.yield is));
}

like_after : {i j : Input} → IsLike (advanced i) j → IsLike i (advanced j)
unfolding advanced
like_after same = record { names = same.names; scope = same.scope; refs = same.refs }

unprotected : {all : List Text} {n : ℕ} {i j : Input} {part : Tree} → IsTerm n (advanced i) part j → IsAgain all (term_tokens all part) n (advanced i) part j → (b : Bool) → is_unit_tree part ≡ b
    → IsAgain all (term_tokens all (Tree.Unprotected part)) (suc n) i (Tree.Unprotected part) (advanced j)
unfolding term_tokens
unprotected {all} {i = i} {j = j} {part = part} h again true e =
    regrouped (ap (λ b. cond b (word (codes "yield") ∷ []) (form (word (codes "unprotected") ∷ term_tokens all part))) (sym e))
    (yielded (adds (grows_after i ▸ term_grows h ▸ grows_after j)) (like_after (unit_leaves h e)) (is_unit_only part e))
unprotected {all} {i = i} {j = j} {part = part} h again false e =
    regrouped (ap (λ b. cond b (word (codes "yield") ∷ []) (form (word (codes "unprotected") ∷ term_tokens all part))) (sym e))
    (formed (ends j) (step i (reserved w.Unprotected) again) (λ i' j' like r shut. IsForm.unprotected r.is r.then shut))

-- ---- functions and names

parameter : {n : ℕ} {i j : Input} {x : ℕ} {type : Typ} → IsParam n i x type j → (all : List Text)
    → Again all (form (name_token all x ∷ type_tokens type)) (λ i' j'. IsParam n i' x type j') i j
parameter p all = record { adds = adds (param_grows p); part = param_again p all }

result : {n : ℕ} {i j : Input} {type : Typ} → IsType n i type j → (all : List Text) → Again all (type_tokens type) (λ i' j'. IsType n i' type j') i j
result t all = record { adds = adds (type_grows t); part = λ good first. type_again t }

device : {all : List Text} {tokens : List Printed} {P : Input → Input → Type 0} {j : Input} (i : Input) (value : ℤ) → ahead i ≡ a.Number value
    → Again all tokens P (advanced i) j → Again all (layout.number_token value ∷ tokens) (Begun (layout.number_token value) (a.Number value) advanced P) i j
device i value e again =
    let here = adds (grows_after i) in
    record { adds = over here again.adds; part = λ good first. parts.begun (number_fixed i value e good) (moves_after _ i) (again.part (here.good good) first) }

-- a function, whose body is read again
function : {n : ℕ} {i j k : Input} {head : Head} {body : Tree} → IsFunctionHead n i head j → (all : List Text) → IsAgain all (term_tokens all body) n j body k
    → IsAgain all (function_tokens all head (term_tokens all body)) (suc n) i (Tree.Lambda head body) (outside head.own (advanced k))
function {k = k} (g.fn {i = i} {j = j} {effect = effect} {x = x} e q p) all again =
    formed (ends_unbound (ends k)) (step i (reserved w.Fn) (step (advanced i) (effect_fixed effect) (joined (parameter p all) (inner x j again))))
    (λ i' j' like r shut. let s = r.then in g.function (g.fn r.is (effect_read effect (advanced i') s.spelt) (s.then).first) (s.then).second shut)
function {k = l} (g.rec {own = own} {i = i} {k = k} {effect = effect} {x = x} e q e' same p t) all again =
    formed (ends_unbound (ends_unbound (ends l)))
    (step i (reserved w.Rec) (step (advanced i) (effect_fixed effect)
    (name_step (advanced (advanced i)) e' same (joined (joined (parameter p all) (result t all)) (inner own k (inner x (bound own k) again))))))
    (λ i' j' like r shut.
    let s = r.then in
    let name = s.then in
    let types = (name.then).first in
    g.function (g.rec r.is (effect_read effect (advanced i') s.spelt) name.is name.same types.first types.second) (name.then).second shut)

-- ---- terms

abbrev AreAgain : List Text → ℕ → Input → List Tree → Input → Type 0
AreAgain all n i others k = Again all (row_tokens all (row others) ++ close_token ∷ []) (Shut advanced (λ i' j'. AreParts n i' others j')) i k

like_yield : (i : Input) → IsLike i (advanced (marked (marked i)))
unfolding advanced marked
like_yield i = record { names = refl; scope = refl; refs = refl }

-- the word before all parts, and the closing parenthesis after them
sequenced : {all : List Text} {tokens : List Printed} {head : Printed} {next : Ahead} {P Q R : Input → Input → Type 0} {i k : Input}
    → Again all tokens (Begun head next advanced (Both P (Both Q (Shut advanced R)))) i k → Again all tokens (Shut advanced (Begun head next advanced (Both P (Both Q R)))) i k
sequenced again = mapped again
    (λ i' k' like r.
    let front = r.then in
    let rest = front.second in
    let s = rest.second in
    record {
      last = s.last;
      inside = record { is = r.is; spelt = r.spelt; then = record { between = front.between; first = front.first; second = record { between = rest.between; first = rest.first; second = s.inside } } };
      next = s.next;
      end = s.end;
    })

mutual
  unfolding term_tokens

  term_part : {n : ℕ} {i j : Input} {tree : Tree} → IsTerm n i tree j → (all : List Text) → IsAgain all (term_tokens all tree) n i tree j
  term_part (g.int {n = n} {i = i} {value = value} e) all = integer n i value e
  term_part (g.unit {i = i} e) all = constant w.Unit i (λ i' is. g.unit is)
  term_part (g.truth {i = i} e) all = constant w.True i (λ i' is. g.truth is)
  term_part (g.falsehood {i = i} e) all = constant w.False i (λ i' is. g.falsehood is)
  term_part (g.yield {i = i} e) all = yielded (adds (grows_marked i ▸ grows_marked (marked i) ▸ grows_after (marked (marked i)))) (like_yield i) refl
  term_part (g.variable {n = n} {i = i} e is_bound) all = variable n i e is_bound
  term_part (g.form {i = i} e h) all = before i (form_part h all)

  -- with the opening parenthesis
  form_part : {n : ℕ} {i j : Input} {tree : Tree} → IsForm n i tree j → (all : List Text) → IsAgain all (term_tokens all tree) (suc n) i tree j
  form_part (g.function h body is_shut) all = function h all (term_part body all)
  form_part (g.binding {x = x} {i = i} {j = j} {k = k} e e' same h h' is_shut) all =
      formed (ends_unbound (ends k)) (step i (reserved w.Let) (name_step (advanced i) e' same (joined (term_part h all) (inner x j (term_part h' all)))))
      (λ i' j' like r shut. let name = r.then in g.binding r.is name.is name.same (name.then).first (name.then).second shut)
  form_part (g.sequence {i = i} {first = first} {second = second} {others = others} e h h' tail is_shut) all =
      let front = term_tokens all first in
      let next = term_tokens all second in
      let rest = row_tokens all (row others) in
      let same = append_assoc front (next ++ rest) (close_token ∷ []) ∙ ap (λ z. front ++ z) (append_assoc next rest (close_token ∷ [])) in
      formed_shut (sequenced (step i (reserved w.Do) (regrouped (sym same) (joined (term_part h all) (joined (term_part h' all) (parts_part tail all))))))
      (λ i' j' like r shut. let s = (r.then).second in g.sequence r.is (r.then).first s.first s.second shut)
  form_part (g.choice {i = i} {l = l} e h h' h'' is_shut) all =
      formed (ends l) (step i (reserved w.If) (joined (joined (term_part h all) (term_part h' all)) (term_part h'' all)))
      (λ i' j' like r shut. let s = (r.then).first in g.choice r.is s.first s.second (r.then).second shut)
  form_part (g.one {i = i} {j = j} {word = which} {part = part} e is h is_shut) all =
      regrouped (ap (λ z. form (z ++ term_tokens all part)) (unary_word is))
      (formed (ends j) (step i (reserved which) (term_part h all)) (λ i' j' like r shut. g.one r.is is r.then shut))
  form_part (g.ref {n = n} {i = i} {j = j} {sort = sort} {part = part} e s h is_shut) all =
      formed (ends j) (step i (reserved w.Ref) (step (advanced i) (sort_fixed sort) (behind_ref (advanced (advanced i)) (term_part h all))))
      (λ i' j' like r shut.
      subst (λ (k : ℕ). IsForm n i' (Tree.One (unary.Ref sort (record { 0 = k })) part) (advanced j')) like.refs
      (g.ref r.is (sort_read sort (advanced i') (r.then).spelt) (r.then).then shut))
  form_part (g.call {device = number_} {i = i} {j = j} e d small h is_shut) all =
      formed (ends j) (step i (reserved w.Call) (device (advanced i) (pos number_) d (term_part h all))) (λ i' j' like r shut. g.call r.is (r.then).is small (r.then).then shut)
  form_part (g.two {i = i} {k = k} e is h h' is_shut) all =
      formed (ends k) (step i (binary_fixed is) (joined (term_part h all) (term_part h' all))) (λ i' j' like r shut. g.two r.is is (r.then).first (r.then).second shut)
  form_part (g.async {i = i} {j = j} e h is_shut) all = formed (ends j) (step i (reserved w.Async) (term_part h all)) (λ i' j' like r shut. g.async r.is r.then shut)
  form_part (IsForm.unprotected {part = part} e h is_shut) all = unprotected h (term_part h all) (is_unit_tree part) refl

  -- with the closing parenthesis
  parts_part : {n : ℕ} {i j : Input} {others : List Tree} → AreParts n i others j → (all : List Text) → AreAgain all n i others (advanced j)
  parts_part (g.none {i = i} e) all = record {
    adds = adds (grows_after i);
    part = λ good first. atom closing_fixed (moves_after close_token i) (λ i' like is spelt. record { last = i'; inside = g.none is; next = is; end = refl });
  }
  parts_part (g.more {part = part} {others = others} h tail) all =
      regrouped (sym (append_assoc (term_tokens all part) (row_tokens all (row others)) (close_token ∷ [])))
      (mapped (joined (term_part h all) (parts_part tail all))
      (λ i' j' like r. let s = r.second in record { last = s.last; inside = g.more r.first s.inside; next = s.next; end = s.end }))

-- ---- the canonical tokens of a tree that was read are read as that tree

pub term_again : {n : ℕ} {i j : Input} {tree : Tree} → IsTerm n i tree j → (all : List Text) → IsFirstOf j.names all → AllByRecursion IsGood i.rest → IsRead all n i tree j
term_again h all first good = let p = (term_part h all).part good first in record { alone = p.alone; again = p.again }
