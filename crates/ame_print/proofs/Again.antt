-- Parts that are read again where their names are among all, and what is to be read is good.
use Rattle.std.proofs.Common.{◌≡◌, ◌∙◌, subst, ℕ, suc, List, ◌∷◌, ◌++◌}
use Rattle.std.specs.List.{AllByRecursion}
use Rattle.ame_lex.specs.Bytes.{Text}
use Rattle.ame_term.specs.Tree.{Tree}
use Rattle.ame_parse.specs.declared.ahead.Ahead.{Ahead}
use Rattle.ame_parse.specs.declared.ahead.Ahead.TheVariants as a
use Rattle.ame_parse.specs.Input.{Input, ahead, advanced, marked, name_number, named, bound, unbound, ref_counted}
use Rattle.ame_parse.specs.Grammar.{IsTerm, IsForm}
use Rattle.ame_print.specs.Layout.{Printed, open_token, close_token}
use Rattle.ame_print.specs.Tokens.{form, name_token}
use Rattle.ame_print.proofs.Canon.{IsLike, IsGood, IsFirstOf}
use Rattle.ame_print.proofs.Growth.{Grows, first_of_first, grows_after, grows_named}
use Rattle.ame_print.proofs.Alone.{IsFixed, IsNameToken, name_fixed}
use Rattle.ame_print.proofs.Parts as parts
use Rattle.ame_print.proofs.Parts.{Part, Moves, Begun, Both, Shut, moves_after, moves_unbound, moves_named, number_like}

-- names are added, and what is good stays good, whatever is bound
pub record Adds (i j : Input) : Type 0 where
  pub names : IsFirstOf i.names j.names
  pub good : AllByRecursion IsGood i.rest → AllByRecursion IsGood j.rest

pub adds : {i j : Input} → Grows i j → Adds i j
adds p = record { names = p.names; good = p.good }

pub over : {i j k : Input} → Adds i j → Adds j k → Adds i k
over p q = record { names = first_of_first p.names q.names; good = λ h. q.good (p.good h) }

pub record Again (all : List Text) (tokens : List Printed) (P : Input → Input → Type 0) (i j : Input) : Type 0 where
  pub adds : Adds i j
  pub part : AllByRecursion IsGood i.rest → IsFirstOf j.names all → Part tokens P i j

-- ---- steps

pub step : {all : List Text} {token : Printed} {next : Ahead} {tokens : List Printed} {P : Input → Input → Type 0} {j : Input} (i : Input) → IsFixed token next
    → Again all tokens P (advanced i) j → Again all (token ∷ tokens) (Begun token next advanced P) i j
step {token = token} i fixed again =
    let here = adds (grows_after i) in
    record { adds = over here again.adds; part = λ good first. parts.begun fixed (moves_after token i) (again.part (here.good good) first) }

-- a name of this number, and then a part
pub record Named (own : ℕ) (P : Input → Input → Type 0) (i' j' : Input) : Type 0 where
  pub is : ahead i' ≡ a.Name
  pub same : name_number i' ≡ own
  pub then : P (named i') j'

pub name_step : {all : List Text} {tokens : List Printed} {P : Input → Input → Type 0} {own : ℕ} {j : Input} (i : Input) → ahead i ≡ a.Name → name_number i ≡ own
    → Again all tokens P (named i) j → Again all (name_token all own ∷ tokens) (Named own P) i j
name_step {all} i e same again =
    let here = adds (grows_named i) in
    record {
      adds = over here again.adds;
      part = λ good first.
          let name = subst (λ x. IsNameToken (name_token all x) i) same (name_fixed i all e good (first_of_first (again.adds).names first)) in
          parts.mapped (parts.begun name.fixed (moves_named i name.bytes) (again.part (here.good good) first))
          (λ i' j' like r. record { is = r.is; same = number_like i i' like (r.spelt ∙ name.bytes) ∙ same; then = r.then });
    }

pub joined : {all : List Text} {xs ys : List Printed} {P Q : Input → Input → Type 0} {i j k : Input} → Again all xs P i j → Again all ys Q j k → Again all (xs ++ ys) (Both P Q) i k
joined p q = record {
  adds = over p.adds q.adds;
  part = λ good first. parts.both (p.part good (first_of_first (q.adds).names first)) (q.part ((p.adds).good good) first);
}

pub inner : {all : List Text} {tokens : List Printed} {P : Input → Input → Type 0} {j : Input} (x : ℕ) (i : Input) → Again all tokens P (bound x i) j
    → Again all tokens (λ i' j'. P (bound x i') j') i j
unfolding bound
inner x i p = record { adds = record { names = (p.adds).names; good = (p.adds).good }; part = λ good first. parts.within x i (p.part good first) }

pub behind_ref : {all : List Text} {tokens : List Printed} {P : Input → Input → Type 0} {j : Input} (i : Input) → Again all tokens P (ref_counted i) j
    → Again all tokens (λ i' j'. P (ref_counted i') j') i j
unfolding ref_counted
behind_ref i p = record { adds = record { names = (p.adds).names; good = (p.adds).good }; part = λ good first. parts.behind_ref i (p.part good first) }

-- ---- the same, said otherwise

pub mapped : {all : List Text} {tokens : List Printed} {P Q : Input → Input → Type 0} {i j : Input} → Again all tokens P i j
    → ((i' j' : Input) → IsLike i i' → P i' j' → Q i' j') → Again all tokens Q i j
mapped p f = record { adds = p.adds; part = λ good first. parts.mapped (p.part good first) f }

pub regrouped : {all : List Text} {xs ys : List Printed} {P : Input → Input → Type 0} {i j : Input} → xs ≡ ys → Again all xs P i j → Again all ys P i j
regrouped e p = record { adds = p.adds; part = λ good first. parts.regrouped e (p.part good first) }

pub before : {all : List Text} {tokens : List Printed} {P : Input → Input → Type 0} {j : Input} (i : Input) → Again all tokens P (advanced (marked i)) j → Again all tokens P i j
unfolding advanced marked
before i p = record {
  adds = record { names = (p.adds).names; good = λ h. (p.adds).good ((adds (grows_after (marked i))).good h) };
  part = λ good first. parts.before i (p.part ((adds (grows_after (marked i))).good good) first);
}

-- ---- forms

-- what a closing parenthesis leads to
pub record Ends (step : Input → Input) (j k : Input) : Type 0 where
  pub moves : Moves close_token step j k
  pub adds : Adds j k

pub ends : (j : Input) → Ends advanced j (advanced j)
ends j = record { moves = moves_after close_token j; adds = adds (grows_after j) }

pub ends_unbound : {step : Input → Input} {j k : Input} → Ends step j k → Ends (λ i. unbound (step i)) j (unbound k)
unfolding unbound
ends_unbound e = record { moves = moves_unbound e.moves; adds = record { names = (e.adds).names; good = (e.adds).good } }

pub formed : {all : List Text} {n : ℕ} {tree : Tree} {tokens : List Printed} {step : Input → Input} {P : Input → Input → Type 0} {i j k : Input} → Ends step j k → Again all tokens P i j
    → ((i' j' : Input) → IsLike i i' → P i' j' → ahead j' ≡ a.Closing → IsForm n i' tree (step j')) → Again all (form tokens) (λ i' j'. IsTerm (suc n) i' tree j') i k
formed e p rule = record {
  adds = over p.adds e.adds;
  part = λ good first. parts.form_part (p.part good (first_of_first (e.adds).names first)) e.moves rule;
}

-- the same if the closing parenthesis is in the part
pub formed_shut : {all : List Text} {n : ℕ} {tree : Tree} {tokens : List Printed} {step : Input → Input} {P : Input → Input → Type 0} {i j : Input} → Again all tokens (Shut step P) i j
    → ((i' j' : Input) → IsLike i i' → P i' j' → ahead j' ≡ a.Closing → IsForm n i' tree (step j')) → Again all (open_token ∷ tokens) (λ i' j'. IsTerm (suc n) i' tree j') i j
formed_shut p rule = record { adds = p.adds; part = λ good first. parts.shut_part (p.part good first) rule }
