-- Values in the rows of a parse.
use Rattle.std.proofs.Common.{◌≡◌, Bool, true, false, cond, List, [], ◌∷◌, ◌++◌, Some, None, refl, sym, ap, ◌∙◌, subst, true≢false}
use Rattle.std.specs.Prelude.{option_map, unwrap_or}
use Rattle.std.specs.List.{find}
use Rattle.std.specs.Str.{bytes_eq}
use Rattle.std.proofs.lemmas.Slice.Eq.{bytes_eq-Decides}
use Rattle.clap.specs.Walk.{Row, Rule, more_values, with_values, with_default, has_row, stronger, default_rows, reading_by}
use Rattle.clap.specs.declared.builder.value_parser.Reading.{Reading}
use Rattle.clap.specs.declared.parser.matches.ValueSource.{ValueSource}
use Rattle.ame_cli.specs.Items.{ArgWord}
use Rattle.ame_cli.specs.Rows.{values_in}

pub same_text : (a b : ArgWord) → bytes_eq a b ≡ true → a ≡ b
same_text a b e = (bytes_eq-Decides a b).0 e

-- what is found by its name has that name
pub named_same : {A : Type 0} (name_in : A → ArgWord) (xs : List A) (name : ArgWord) (x : A) → find (λ a. bytes_eq (name_in a) name) xs ≡ Some x → name ≡ name_in x
named_same name_in [] name x e = cc
named_same name_in (a ∷ rest) name x e = go (named_same name_in rest name x) (bytes_eq (name_in a) name) refl e
  where
    go : (find (λ a. bytes_eq (name_in a) name) rest ≡ Some x → name ≡ name_in x) → (b : Bool) → bytes_eq (name_in a) name ≡ b
        → cond b (Some a) (find (λ a. bytes_eq (name_in a) name) rest) ≡ Some x → name ≡ name_in x
    go more true p f = let same : a ≡ x = cc f in sym (same_text (name_in a) name p) ∙ ap name_in same
    go more false p f = more f

values_in-cons : (name : ArgWord) (r : Row) (rows : List Row) → values_in name (r ∷ rows) ≡ cond (bytes_eq r.id name) r.values (values_in name rows)
values_in-cons name r rows = go (bytes_eq r.id name)
  where
    go : (b : Bool) → unwrap_or (option_map (λ (x : Row). x.values) (cond b (Some r) (find (λ x. bytes_eq x.id name) rows))) [] ≡ cond b r.values (values_in name rows)
    go true = refl
    go false = refl

-- the answers of a row that has the id, and of one that hasn't
same_answer : (p q : Bool) (a old values : List ArgWord) → p ≡ q → cond p (a ++ values) old ≡ cond q (cond p a old ++ values) (cond p a old)
same_answer true q a old values e = subst (λ b. a ++ values ≡ cond b (a ++ values) a) e refl
same_answer false q a old values e = subst (λ b. old ≡ cond b (old ++ values) old) e refl

other_answer : (p q : Bool) (a old values : List ArgWord) → (p ≡ true → q ≡ false) → cond p a (cond q (old ++ values) old) ≡ cond q (cond p a old ++ values) (cond p a old)
other_answer true true a old values differs = absurd (true≢false (differs refl))
other_answer true false a old values differs = refl
other_answer false q a old values differs = refl

not_both : (b : Bool) (x id name : ArgWord) → bytes_eq id name ≡ b → bytes_eq x id ≡ false → bytes_eq x name ≡ true → b ≡ false
not_both true x id name e differs same = absurd (true≢false (sym same ∙ ap (bytes_eq x) (sym (same_text id name e)) ∙ differs))
not_both false x id name e differs same = refl

-- what is added under an id is added to the values of that name alone
pub values_in-with_values : (name id : ArgWord) (how : Reading) (source : ValueSource) (values : List ArgWord) (rows : List Row)
    → values_in name (with_values id how source values rows) ≡ cond (bytes_eq id name) (values_in name rows ++ values) (values_in name rows)
values_in-with_values name id how source values [] =
    values_in-cons name (record { id = id; values = values; count = None; source = Some source; reading = how }) []
values_in-with_values name id how source values (r ∷ rows) = go (values_in-with_values name id how source values rows) (bytes_eq r.id id) refl
  where
    go : values_in name (with_values id how source values rows) ≡ cond (bytes_eq id name) (values_in name rows ++ values) (values_in name rows) → (b : Bool) → bytes_eq r.id id ≡ b
        → values_in name (cond b (more_values source values r ++ rows) (r ∷ with_values id how source values rows)) ≡ cond (bytes_eq id name) (values_in name (r ∷ rows) ++ values) (values_in name (r ∷ rows))
    go before true e =
        values_in-cons name (record r { values = r.values ++ values; source = Some (stronger r.source source) }) rows
        ∙ same_answer (bytes_eq r.id name) (bytes_eq id name) r.values (values_in name rows) values (ap (λ x. bytes_eq x name) (same_text r.id id e))
        ∙ ap (λ old. cond (bytes_eq id name) (old ++ values) old) (sym (values_in-cons name r rows))
    go before false e =
        values_in-cons name r (with_values id how source values rows)
        ∙ ap (λ old. cond (bytes_eq r.id name) r.values old) before
        ∙ other_answer (bytes_eq r.id name) (bytes_eq id name) r.values (values_in name rows) values (not_both (bytes_eq id name) r.id id name refl e)
        ∙ ap (λ old. cond (bytes_eq id name) (old ++ values) old) (sym (values_in-cons name r rows))

-- an argument without a default changes nothing at the end
pub no_default : (rows : List Row) (a : Rule) → a.defaults ≡ [] → with_default rows a ≡ rows
no_default rows a none = go (has_row a.id rows)
  where
    go : (b : Bool) → cond b rows (default_rows a.id (reading_by a) a.defaults rows) ≡ rows
    go true = refl
    go false = ap (λ values. default_rows a.id (reading_by a) values rows) none
