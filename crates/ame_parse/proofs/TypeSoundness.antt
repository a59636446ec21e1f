-- Types that are read are spelled so.
use Rattle.std.proofs.Common.{◌≡◌, ℕ, zero, suc, ◌-◌, ◌==◌, false, refl, subst, arith}
use Rattle.std.proofs.lemmas.Bool.{eqb-false}
use Rattle.ame_term.specs.Tree.{Typ}
use Rattle.ame_parse.specs.declared.words.Word.{Word}
use Rattle.ame_parse.specs.declared.words.Word.TheVariants as w
use Rattle.ame_parse.specs.declared.ahead.Ahead.{Ahead}
use Rattle.ame_parse.specs.declared.ahead.Ahead.TheVariants as a
use Rattle.ame_parse.specs.Input.{Input, Parser, ahead, advanced, name_number, named}
use Rattle.ame_parse.specs.Types.{reference, function, pair, compound_by_word, compound_by, compound, simple, ty_by, ty_of, nested, ty, param}
use Rattle.ame_parse.specs.Grammar as g
use Rattle.ame_parse.specs.Grammar.{IsType, IsTypeForm, IsParam}
use Rattle.ame_parse.proofs.Steps.{Leads, leads_pure, leads_on, leads_shut, leads_name, leads_opening}
use Rattle.ame_parse.proofs.LetterSteps.{leads_sort, leads_effect}

module _ (n : ℕ) (part : Parser Typ) (gives : (i : Input) → Leads part i (IsType n i)) where
  reference_leads : (i : Input) → ahead i ≡ a.Reserved w.RefType → Leads (reference part) (advanced i) (IsTypeForm n i)
  unfolding reference
  reference_leads i e = leads_sort _ (IsTypeForm n i) (advanced i) (λ s sort.
      leads_on part _ (IsType n (advanced (advanced i))) (IsTypeForm n i) (advanced (advanced i)) (gives (advanced (advanced i))) (λ x j h.
      leads_shut _ (IsTypeForm n i) j (λ shut. leads_pure (Typ.Ref s x) (advanced j) (IsTypeForm n i) (g.ref_type e sort h shut))))

  function_leads : (i : Input) → ahead i ≡ a.Reserved w.FunType → Leads (function part) (advanced i) (IsTypeForm n i)
  unfolding function
  function_leads i e = leads_effect _ (IsTypeForm n i) (advanced i) (λ q effect.
      leads_on part _ (IsType n (advanced (advanced i))) (IsTypeForm n i) (advanced (advanced i)) (gives (advanced (advanced i))) (λ x j h.
      leads_on part _ (IsType n j) (IsTypeForm n i) j (gives j) (λ y k h'.
      leads_shut _ (IsTypeForm n i) k (λ shut. leads_pure (Typ.Fun q x y) (advanced k) (IsTypeForm n i) (g.fun_type e effect h h' shut)))))

  pair_leads : (i : Input) → ahead i ≡ a.Reserved w.PairType → Leads (pair part) (advanced i) (IsTypeForm n i)
  unfolding pair
  pair_leads i e =
      leads_on part _ (IsType n (advanced i)) (IsTypeForm n i) (advanced i) (gives (advanced i)) (λ x j h.
      leads_on part _ (IsType n j) (IsTypeForm n i) j (gives j) (λ y k h'.
      leads_shut _ (IsTypeForm n i) k (λ shut. leads_pure (Typ.Pair x y) (advanced k) (IsTypeForm n i) (g.pair_type e h h' shut))))

  word_leads : (word : Word) (i : Input) → ahead i ≡ a.Reserved word → Leads (compound_by_word part word) i (IsTypeForm n i)
  word_leads w.RefType i e = reference_leads i e
  word_leads w.FunType i e = function_leads i e
  word_leads w.PairType i e = pair_leads i e
  word_leads _ i e = λ x j read. absurd (cc)

  compound_leads_by : (next : Ahead) (i : Input) → ahead i ≡ next → Leads (compound_by part next) i (IsTypeForm n i)
  compound_leads_by (a.Reserved word) i e = word_leads word i e
  compound_leads_by _ i e = λ x j read. absurd (cc)

  compound_leads : (i : Input) → Leads (compound part) i (IsTypeForm n i)
  unfolding compound
  compound_leads i = compound_leads_by (ahead i) i refl

simple_leads : (n : ℕ) (word : Word) (i : Input) → ahead i ≡ a.Reserved word → Leads (simple word) i (IsType n i)
simple_leads n w.UnitType i e = leads_pure Typ.Unit (advanced i) (IsType n i) (g.unit_type e)
simple_leads n w.BoolType i e = leads_pure Typ.Bool (advanced i) (IsType n i) (g.bool_type e)
simple_leads n w.IntType i e = leads_pure Typ.Int (advanced i) (IsType n i) (g.int_type e)
simple_leads n _ i e = λ x j read. absurd (cc)

abbrev LeadsForms : ℕ → Parser Typ → Type 0
LeadsForms n form = (i : Input) → ahead i ≡ a.Opening → Leads form i (IsType n i)

ty_leads_by : (n : ℕ) (form : Parser Typ) → LeadsForms n form → (next : Ahead) (i : Input) → ahead i ≡ next → Leads (ty_by form next) i (IsType n i)
ty_leads_by n form forms a.Opening i e = forms i e
ty_leads_by n form forms (a.Reserved word) i e = simple_leads n word i e
ty_leads_by n form forms _ i e = λ x j read. absurd (cc)

nested_leads : (n : ℕ) → LeadsForms n (nested n)
unfolding nested
nested_leads zero i e = λ x j read. absurd (cc)
nested_leads (suc n) i e = λ x j read. g.type_form e (compound_leads n (ty_of (nested n)) (λ k. ty_leads_by n (nested n) (nested_leads n) (ahead k) k refl) (advanced i) x j read)

pub ty_leads : (n : ℕ) (i : Input) → Leads (ty n) i (IsType n i)
unfolding ty
ty_leads n i = ty_leads_by n (nested n) (nested_leads n) (ahead i) i refl

more_than_none : (n : ℕ) → n == 0 ≡ false → suc (n - 1) ≡ n
more_than_none n e = let some : n ≡ 0 → ⊥ = eqb-false n 0 e in omega arith

pub param_leads : (n : ℕ) (i : Input) → Leads (param n) i (λ p j. IsParam n i p.0 p.1 j)
unfolding param
param_leads n i = leads_opening n _ (λ p j. IsParam n i p.0 p.1 j) i (λ some e.
    leads_name _ (λ p j. IsParam n i p.0 p.1 j) (advanced i) (λ e'.
    leads_on (ty (n - 1)) _ (IsType (n - 1) (named (advanced i))) (λ p j. IsParam n i p.0 p.1 j) (named (advanced i)) (ty_leads (n - 1) (named (advanced i))) (λ t j h.
    leads_shut _ (λ p j. IsParam n i p.0 p.1 j) j (λ shut. leads_pure (name_number (advanced i), t) (advanced j) (λ p j. IsParam n i p.0 p.1 j)
    (subst (λ m. IsParam m i (name_number (advanced i)) t (advanced j)) (more_than_none n some) (g.param e e' h shut))))))
