-- A term that is read is spelled by its tokens.
use Rattle.std.proofs.Common.{◌≡◌, ℕ, zero, suc, refl, sym, ap, subst, ◌∙◌, Bool, true, false, cond, List, [], ◌∷◌, ◌++◌, append_assoc, append-nil, Option, Some, None, Ok, Err}
use Rattle.std.specs.Option.{option_map}
use Rattle.ame_term.specs.declared.types.Op.{Op}
use Rattle.ame_term.specs.declared.types.Unary.{Unary}
use Rattle.ame_term.specs.declared.types.Unary.TheVariants as unary
use Rattle.ame_term.specs.declared.types.Binary.{Binary}
use Rattle.ame_term.specs.declared.types.Binary.TheVariants as binary
use Rattle.ame_term.specs.Operators.{operator_of}
use Rattle.ame_term.specs.Tree.{Val, Tree, unit_tree}
use Rattle.ame_parse.specs.declared.words.Word.{Word}
use Rattle.ame_parse.specs.declared.words.Word.TheVariants as w
use Rattle.ame_parse.specs.declared.ahead.Ahead.{Ahead}
use Rattle.ame_parse.specs.declared.ahead.Ahead.TheVariants as a
use Rattle.ame_parse.specs.declared.fault.ParseFault.TheVariants.{UnknownName}
use Rattle.ame_parse.specs.declared.forms.Opener.TheVariants as opener
use Rattle.ame_parse.specs.Input.{Input, Parser, ◌>>=◌, pure, is_closing, ahead, spelling, place, advanced, marked, name_number, named, binds_name, bound, unbound, ref_number, ref_counted, tokens_left, sees_closing}
use Rattle.ame_parse.specs.Forms.{opener_of, row}
use Rattle.ame_parse.specs.Types.{ty, param}
use Rattle.ame_parse.specs.Reading.{alone, two, choice, binding, more_from, more, first_two, sequence, reference, call, function, recursive, form_by, compound, variable, yielding, constant, atom_by, atom, term_by, term_of, nested, term}
use Rattle.ame_parse.specs.Grammar as g
use Rattle.ame_parse.specs.Grammar.{IsUnary, IsBinary, IsType, IsParam, IsTerm, IsForm, AreParts}
use Rattle.ame_parse.proofs.Steps.{Leads, leads_pure, leads_on, leads_shut, leads_name}
use Rattle.ame_parse.proofs.LetterSteps.{leads_numbered_sort, leads_effect, leads_device, op_is}
use Rattle.ame_parse.proofs.TypeSoundness.{ty_leads, param_leads}

-- to take a token leaves the count of `ref` forms as it was
same_number : (i : Input) → ref_number i ≡ ref_number (advanced (advanced i))
unfolding advanced
same_number i = refl

closing_test : (next : Ahead) → is_closing next ≡ true → next ≡ a.Closing
closing_test a.Closing e = refl
closing_test _ e = absurd (cc)

module _ (n : ℕ) (part : Parser Tree) (gives : (i : Input) → Leads part i (IsTerm n i)) where
  -- ---- forms of terms alone

  alone_leads : (build : Tree → Tree) (Q : Tree → Input → Type 0) (i : Input) → ((x : Tree) (j : Input) → IsTerm n i x j → ahead j ≡ a.Closing → Q (build x) (advanced j))
      → Leads (alone part build) i Q
  unfolding alone
  alone_leads build Q i next = leads_on part _ (IsTerm n i) Q i (gives i) (λ x j h.
      leads_shut _ Q j (λ shut. leads_pure (build x) (advanced j) Q (next x j h shut)))

  two_leads : (op : Binary) (next : Ahead) (i : Input) → ahead i ≡ next → IsBinary next op → Leads (two part op) (advanced i) (IsForm n i)
  unfolding two
  two_leads op next i e is = leads_on part _ (IsTerm n (advanced i)) (IsForm n i) (advanced i) (gives (advanced i)) (λ x j h.
      leads_on part _ (IsTerm n j) (IsForm n i) j (gives j) (λ y k h'.
      leads_shut _ (IsForm n i) k (λ shut. leads_pure (Tree.Two op x y) (advanced k) (IsForm n i) (g.two e is h h' shut))))

  choice_leads : (i : Input) → ahead i ≡ a.Reserved w.If → Leads (choice part) (advanced i) (IsForm n i)
  unfolding choice
  choice_leads i e = leads_on part _ (IsTerm n (advanced i)) (IsForm n i) (advanced i) (gives (advanced i)) (λ x j h.
      leads_on part _ (IsTerm n j) (IsForm n i) j (gives j) (λ y k h'.
      leads_on part _ (IsTerm n k) (IsForm n i) k (gives k) (λ z l h''.
      leads_shut _ (IsForm n i) l (λ shut. leads_pure (Tree.If x y z) (advanced l) (IsForm n i) (g.choice e h h' h'' shut)))))

  -- ---- `do`

  abbrev pub LeadsParts : (List Tree → Parser (List Tree)) → Type 0
  LeadsParts rest = (found : List Tree) (i : Input) → Leads (rest found) i (λ all k. (others : List Tree) × (found ++ others ≡ all) × AreParts n i others k)

  more_leads_by : (rest : List Tree → Parser (List Tree)) → LeadsParts rest → (found : List Tree) (i : Input) (ends : Bool) → is_closing (ahead i) ≡ ends
      → Leads (cond {A = Parser (List Tree)} ends (pure found) (part >>= (λ x. rest (found ++ x ∷ [])))) i (λ all k. (others : List Tree) × (found ++ others ≡ all) × AreParts n i others k)
  more_leads_by rest h found i true test =
      leads_pure found i (λ all k. (others : List Tree) × (found ++ others ≡ all) × AreParts n i others k) ([], append-nil found, g.none (closing_test (ahead i) test))
  more_leads_by rest h found i false test = leads_on part _ (IsTerm n i) (λ all k. (others : List Tree) × (found ++ others ≡ all) × AreParts n i others k) i (gives i)
      (λ x j first all k e. let others = h (found ++ x ∷ []) j all k e in
      (x ∷ others.0, sym (append_assoc found (x ∷ []) others.0) ∙ others.1, g.more first others.2))

  pub more_leads : (m : ℕ) → LeadsParts (more_from part m)
  unfolding more_from sees_closing
  more_leads zero found i = λ all k e. absurd (cc)
  more_leads (suc m) found i = more_leads_by (more_from part m) (more_leads m) found i (is_closing (ahead i)) refl

  abbrev ArePair : Input → List Tree → Input → Type 0
  ArePair i pair k = (first second : Tree) × (j : Input) × IsTerm n i first j × IsTerm n j second k × (first ∷ second ∷ [] ≡ pair)

  first_two_lead : (i : Input) → Leads (first_two part) i (ArePair i)
  unfolding first_two
  first_two_lead i = leads_on part _ (IsTerm n i) (ArePair i) i (gives i) (λ first j h.
      leads_on part _ (IsTerm n j) (ArePair i) j (gives j) (λ second k h'.
      leads_pure (first ∷ second ∷ []) k (ArePair i) (first, second, j, h, h', refl)))

  sequence_leads : (i : Input) → ahead i ≡ a.Reserved w.Do → Leads (sequence part) (advanced i) (IsForm n i)
  unfolding sequence more
  sequence_leads i e = leads_on (first_two part) _ (ArePair (advanced i)) (IsForm n i) (advanced i) (first_two_lead (advanced i)) (λ pair k h.
      leads_on (more part pair) _ (λ all l. (others : List Tree) × (pair ++ others ≡ all) × AreParts n k others l) (IsForm n i) k (more_leads (tokens_left k) pair k) (λ all l h'.
      leads_shut _ (IsForm n i) l (λ shut. leads_pure (Tree.Do (row all)) (advanced l) (IsForm n i) (
      let same : h.0 ∷ h.1 ∷ h'.0 ≡ all = ap (λ z. z ++ h'.0) h.5 ∙ h'.1 in
      subst (λ z. IsForm n i (Tree.Do (row z)) (advanced l)) same (g.sequence e h.3 h.4 h'.2 shut)))))

  -- ---- references and calls

  reference_leads : (i : Input) → ahead i ≡ a.Reserved w.Ref → Leads (reference part) (advanced i) (IsForm n i)
  unfolding reference
  reference_leads i e = leads_numbered_sort _ (IsForm n i) (advanced i) (λ s sort.
      let number = ref_number (advanced (advanced i)) in
      alone_leads (Tree.One (unary.Ref s number)) (IsForm n i) (ref_counted (advanced (advanced i)))
      (λ x j h shut. subst (λ k. IsForm n i (Tree.One (unary.Ref s k) x) (advanced j)) (same_number i) (g.ref e sort h shut)))

  call_leads : (i : Input) → ahead i ≡ a.Reserved w.Call → Leads (call part) (advanced i) (IsForm n i)
  unfolding call
  call_leads i e = leads_device _ (IsForm n i) (advanced i) (λ d device.
      alone_leads (Tree.One (unary.Call d)) (IsForm n i) (advanced (advanced i)) (λ x j h shut. g.call e device.stands device.below h shut))

  -- ---- forms that bind names

  binding_leads : (i : Input) → ahead i ≡ a.Reserved w.Let → Leads (binding part) (advanced i) (IsForm n i)
  unfolding binding
  binding_leads i e = leads_name _ (IsForm n i) (advanced i) (λ e'.
      leads_on part _ (IsTerm n (named (advanced i))) (IsForm n i) (named (advanced i)) (gives (named (advanced i))) (λ value j h.
      leads_on part _ (IsTerm n (bound (name_number (advanced i)) j)) (IsForm n i) (bound (name_number (advanced i)) j) (gives (bound (name_number (advanced i)) j)) (λ body k h'.
      leads_shut _ (IsForm n i) k (λ shut. leads_pure (Tree.Let (name_number (advanced i)) value body) (unbound (advanced k)) (IsForm n i) (g.binding e e' refl h h' shut)))))

  function_leads : (i : Input) → ahead i ≡ a.Reserved w.Fn → Leads (function part (param n)) (advanced i) (IsForm n i)
  unfolding function
  function_leads i e = leads_effect _ (IsForm n i) (advanced i) (λ q effect.
      leads_on (param n) _ (λ p j. IsParam n (advanced (advanced i)) p.0 p.1 j) (IsForm n i) (advanced (advanced i)) (param_leads n (advanced (advanced i))) (λ p j h.
      leads_on part _ (IsTerm n (bound p.0 j)) (IsForm n i) (bound p.0 j) (gives (bound p.0 j)) (λ body k h'.
      leads_shut _ (IsForm n i) k (λ shut.
      leads_pure (Tree.Lambda (record { effect = q; own = None; param = p.0; param_type = p.1 }) body) (unbound (advanced k)) (IsForm n i) (g.function (g.fn e effect h) h' shut)))))

  recursive_leads : (i : Input) → ahead i ≡ a.Reserved w.Rec → Leads (recursive part (param n) (ty n)) (advanced i) (IsForm n i)
  unfolding recursive
  recursive_leads i e = leads_effect _ (IsForm n i) (advanced i) (λ q effect.
      leads_name _ (IsForm n i) (advanced (advanced i)) (λ e'.
      leads_on (param n) _ (λ p j. IsParam n (named (advanced (advanced i))) p.0 p.1 j) (IsForm n i) (named (advanced (advanced i))) (param_leads n (named (advanced (advanced i)))) (λ p j h.
      leads_on (ty n) _ (IsType n j) (IsForm n i) j (ty_leads n j) (λ t k h'.
      let own = name_number (advanced (advanced i)) in
      let inner = bound p.0 (bound own k) in
      leads_on part _ (IsTerm n inner) (IsForm n i) inner (gives inner) (λ body l h''.
      leads_shut _ (IsForm n i) l (λ shut.
      leads_pure (Tree.Lambda (record { effect = q; own = Some (record { name = own; result = t }); param = p.0; param_type = p.1 }) body) (unbound (unbound (advanced l))) (IsForm n i)
      (g.function (g.rec e effect e' refl h h') h'' shut)))))))

  -- ---- the form of a word or a symbol

  abbrev LeadsForm : Input → Ahead → Type 0
  LeadsForm i next = Leads (form_by part (param n) (ty n) (opener_of next)) i (IsForm n i)

  operation_leads : (s : ℕ) (i : Input) → ahead i ≡ a.Symbol s → (o : Option Op) → operator_of s ≡ o
      → Leads (form_by part (param n) (ty n) (option_map (λ op. opener.Two (binary.Bin op)) o)) i (IsForm n i)
  operation_leads s i e (Some o) e' = two_leads (binary.Bin o) (a.Symbol s) i e (g.operation (op_is s o e'))
  operation_leads s i e None e' = λ x j read. absurd (cc)

  unary_leads : (word : Word) (op : Unary) (i : Input) → ahead i ≡ a.Reserved word → IsUnary word op → Leads (alone part (Tree.One op)) (advanced i) (IsForm n i)
  unary_leads word op i e is = alone_leads (Tree.One op) (IsForm n i) (advanced i) (λ x j h shut. g.one e is h shut)

  word_leads : (word : Word) (i : Input) → ahead i ≡ a.Reserved word → LeadsForm i (a.Reserved word)
  unfolding opener_of
  word_leads w.Not i e = unary_leads w.Not unary.Not i e g.negation
  word_leads w.Get i e = unary_leads w.Get unary.Get i e g.get
  word_leads w.Peek i e = unary_leads w.Peek unary.Peek i e g.peek
  word_leads w.BlockUntil i e = unary_leads w.BlockUntil unary.Block i e g.block_until
  word_leads w.Print i e = unary_leads w.Print unary.Print i e g.print
  word_leads w.Fst i e = unary_leads w.Fst unary.First i e g.fst
  word_leads w.Snd i e = unary_leads w.Snd unary.Second i e g.snd
  word_leads w.Ref i e = reference_leads i e
  word_leads w.Call i e = call_leads i e
  word_leads w.App i e = two_leads binary.App _ i e g.app
  word_leads w.Set i e = two_leads binary.Set _ i e g.set
  word_leads w.Pair i e = two_leads binary.Pair _ i e g.pair
  word_leads w.Async i e = alone_leads Tree.Async (IsForm n i) (advanced i) (λ x j h shut. g.async e h shut)
  word_leads w.Unprotected i e = alone_leads Tree.Unprotected (IsForm n i) (advanced i) (λ x j h shut. IsForm.unprotected e h shut)
  word_leads w.If i e = choice_leads i e
  word_leads w.Let i e = binding_leads i e
  word_leads w.Do i e = sequence_leads i e
  word_leads w.Fn i e = function_leads i e
  word_leads w.Rec i e = recursive_leads i e
  word_leads _ i e = λ x j read. absurd (cc)

  compound_leads_by : (next : Ahead) (i : Input) → ahead i ≡ next → LeadsForm i next
  unfolding opener_of
  compound_leads_by (a.Reserved word) i e = word_leads word i e
  compound_leads_by (a.Symbol s) i e = operation_leads s i e (operator_of s) refl
  compound_leads_by _ i e = λ x j read. absurd (cc)

  compound_leads : (i : Input) → Leads (compound part (param n) (ty n)) i (IsForm n i)
  unfolding compound
  compound_leads i = compound_leads_by (ahead i) i refl

-- ---- terms of one token

constant_leads : (n : ℕ) (word : Word) (i : Input) → ahead i ≡ a.Reserved word → Leads (constant word) (marked i) (IsTerm n i)
unfolding constant yielding
constant_leads n w.Unit i e = leads_pure unit_tree (advanced (marked i)) (IsTerm n i) (g.unit e)
constant_leads n w.True i e = leads_pure (Tree.Held (Val.Bool true)) (advanced (marked i)) (IsTerm n i) (g.truth e)
constant_leads n w.False i e = leads_pure (Tree.Held (Val.Bool false)) (advanced (marked i)) (IsTerm n i) (g.falsehood e)
constant_leads n w.Yield i e = leads_pure (Tree.Unprotected unit_tree) (advanced (marked (marked i))) (IsTerm n i) (g.yield e)
constant_leads n _ i e = λ x j read. absurd (cc)

number_marked : (i : Input) → name_number (marked i) ≡ name_number i
unfolding name_number spelling marked
number_marked i = refl

binds_named : (x : ℕ) (i : Input) → binds_name x (named (marked i)) ≡ binds_name x i
unfolding binds_name named marked
binds_named x i = refl

variable_test : (n : ℕ) (i : Input) (p : ℕ) (x : ℕ) → ahead i ≡ a.Name → name_number (marked i) ≡ x → (b : Bool) → binds_name x (named (marked i)) ≡ b
    → Leads (λ j. cond b (Ok (Tree.Var x, j)) (Err (UnknownName p))) (named (marked i)) (IsTerm n i)
variable_test n i p x e same true test =
    leads_pure (Tree.Var x) (named (marked i)) (IsTerm n i)
    (subst (λ y. IsTerm n i (Tree.Var y) (named (marked i))) (sym (number_marked i) ∙ same)
    (g.variable e (ap (λ y. binds_name y i) (sym (number_marked i) ∙ same) ∙ sym (binds_named x i) ∙ test)))
variable_test n i p x e same false test = λ y j read. absurd (cc)

variable_leads : (n : ℕ) (i : Input) → ahead i ≡ a.Name → Leads variable (marked i) (IsTerm n i)
unfolding variable
variable_leads n i e = leads_name _ (IsTerm n i) (marked i) (λ e'.
    variable_test n i (place (marked i)) (name_number (marked i)) e refl (binds_name (name_number (marked i)) (named (marked i))) refl)

atom_leads_by : (n : ℕ) (next : Ahead) (i : Input) → ahead i ≡ next → Leads (atom_by next) (marked i) (IsTerm n i)
atom_leads_by n (a.Number value) i e = leads_pure (Tree.Held (Val.Int value)) (advanced (marked i)) (IsTerm n i) (g.int e)
atom_leads_by n (a.Reserved word) i e = constant_leads n word i e
atom_leads_by n a.Name i e = variable_leads n i e
atom_leads_by n _ i e = λ x j read. absurd (cc)

atom_leads : (n : ℕ) (i : Input) → Leads atom (marked i) (IsTerm n i)
unfolding atom marked ahead
atom_leads n i = atom_leads_by n (ahead i) i refl

-- ---- terms

-- a parser of the forms in which at most this number of parentheses is open
abbrev LeadsForms : ℕ → Parser Tree → Type 0
LeadsForms n form = (i : Input) → ahead i ≡ a.Opening → Leads form (marked i) (IsTerm n i)

term_leads_by : (n : ℕ) (form : Parser Tree) → LeadsForms n form → (next : Ahead) (i : Input) → ahead i ≡ next → Leads (term_by form next) (marked i) (IsTerm n i)
term_leads_by n form forms a.Opening i e = forms i e
term_leads_by n form forms _ i e = atom_leads n i

nested_leads : (n : ℕ) → LeadsForms n (nested n)
unfolding nested marked ahead
nested_leads zero i e = λ x j read. absurd (cc)
nested_leads (suc n) i e = λ x j read. g.form e (compound_leads n (term_of (nested n)) (λ k. term_leads_by n (nested n) (nested_leads n) (ahead k) k refl) (advanced (marked i)) x j read)

pub term_leads : (n : ℕ) (i : Input) → Leads (term n) i (IsTerm n i)
unfolding term marked ahead
term_leads n i = term_leads_by n (nested n) (nested_leads n) (ahead i) i refl
