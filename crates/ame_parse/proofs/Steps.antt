-- The outcome of a chain of steps.
use Rattle.std.proofs.Common.{◌≡◌, ℕ, ◌==◌, Bool, true, false, cond, refl, subst, Ok, Err}
use Rattle.ame_parse.specs.declared.ahead.Ahead.{Ahead}
use Rattle.ame_parse.specs.declared.ahead.Ahead.TheVariants as a
use Rattle.ame_parse.specs.Input.{Input, ParseOutcome, Parser, and_then, ◌>>=◌, ◌>>◌, pure, ahead, advanced, place, advance, name_number, named, closing, closing_by, finish, finish_by, name, name_by, opening, opening_by}
use Rattle.ame_parse.specs.declared.fault.ParseFault.TheVariants.{TooNested}

-- whatever the parser gives from here has the property
abbrev pub Leads : {A : Type 0} → Parser A → Input → (A → Input → Type 0) → Type 0
Leads {A} p i Q = (x : A) (j : Input) → p i ≡ Ok (x, j) → Q x j

after_step : {A B : Type 0} (o : ParseOutcome A) (f : A → Parser B) (b : B) (k : Input) → and_then o f ≡ Ok (b, k)
    → (x : A) × (j : Input) × (o ≡ Ok (x, j)) × (f x j ≡ Ok (b, k))
after_step (Ok p) f b k e = (p.0, p.1, refl, e)
after_step (Err fault) f b k e = absurd (cc)

abbrev answer : {A : Type 0} → A × Input → ParseOutcome A
answer p = Ok p

same_answer : {A : Type 0} (p q : A × Input) → answer p ≡ answer q → p ≡ q
same_answer p q e = cc

pub leads_pure : {A : Type 0} (x : A) (i : Input) (Q : A → Input → Type 0) → Q x i → Leads (pure x) i Q
leads_pure x i Q q y j e = subst (λ p. Q p.0 p.1) (same_answer (x, i) (y, j) e) q

-- a step, and then what the step leads to
pub leads_on : {A B : Type 0} (p : Parser A) (f : A → Parser B) (P : A → Input → Type 0) (Q : B → Input → Type 0) (i : Input)
    → Leads p i P → ((x : A) (j : Input) → P x j → Leads (f x) j Q) → Leads (p >>= f) i Q
leads_on p f P Q i h next y k e = let step = after_step (p i) f y k e in next step.0 step.1 (h step.0 step.1 step.2) y k step.3

-- a step that leads to one input
pub leads_at : {A B : Type 0} (p : Parser A) (f : A → Parser B) (P : A → Type 0) (k : Input) (Q : B → Input → Type 0) (i : Input)
    → Leads p i (λ x j. P x × (k ≡ j)) → ((x : A) → P x → Leads (f x) k Q) → Leads (p >>= f) i Q
leads_at p f P k Q i h next = leads_on p f (λ x j. P x × (k ≡ j)) Q i h (λ x j e. subst (λ m. Leads (f x) m Q) e.1 (next x e.0))

closing_leads_by : (next : Ahead) (i : Input) → Leads (closing_by next) i (λ _ j. (next ≡ a.Closing) × (advanced i ≡ j))
closing_leads_by a.Closing i = leads_pure tt (advanced i) (λ _ j. (a.Closing ≡ a.Closing) × (advanced i ≡ j)) (refl, refl)
closing_leads_by _ i = λ x j e. absurd (cc)

-- a parenthesis closes a form
pub leads_shut : {A : Type 0} (p : Parser A) (Q : A → Input → Type 0) (i : Input) → (ahead i ≡ a.Closing → Leads p (advanced i) Q) → Leads (closing >> p) i Q
unfolding closing
leads_shut p Q i next = leads_at closing (λ _. p) (λ _. ahead i ≡ a.Closing) (advanced i) Q i (closing_leads_by (ahead i) i) (λ _ h. next h)

finish_leads_by : (next : Ahead) (i : Input) → Leads (finish_by next) i (λ _ j. (next ≡ a.End) × (i ≡ j))
finish_leads_by a.End i = leads_pure tt i (λ _ j. (a.End ≡ a.End) × (i ≡ j)) (refl, refl)
finish_leads_by _ i = λ x j e. absurd (cc)

-- nothing is left
pub leads_end : {A : Type 0} (p : Parser A) (Q : A → Input → Type 0) (i : Input) → (ahead i ≡ a.End → Leads p i Q) → Leads (finish >> p) i Q
unfolding finish
leads_end p Q i next = leads_at finish (λ _. p) (λ _. ahead i ≡ a.End) i Q i (finish_leads_by (ahead i) i) (λ _ h. next h)

name_leads_by : (next : Ahead) (i : Input) → Leads (name_by next) i (λ x j. ((next ≡ a.Name) × (name_number i ≡ x)) × (named i ≡ j))
name_leads_by a.Name i = leads_pure (name_number i) (named i) (λ x j. ((a.Name ≡ a.Name) × (name_number i ≡ x)) × (named i ≡ j)) ((refl, refl), refl)
name_leads_by _ i = λ x j e. absurd (cc)

-- a name
pub leads_name : {B : Type 0} (f : ℕ → Parser B) (Q : B → Input → Type 0) (i : Input) → (ahead i ≡ a.Name → Leads (f (name_number i)) (named i) Q) → Leads (name >>= f) i Q
unfolding name
leads_name f Q i next = leads_at name f (λ x. (ahead i ≡ a.Name) × (name_number i ≡ x)) (named i) Q i (name_leads_by (ahead i) i)
    (λ x h. subst (λ y. Leads (f y) (named i) Q) h.1 (next h.0))

opening_test : (n : ℕ) (i : Input) (b : Bool) → n == 0 ≡ b
    → Leads (cond {A = Parser (Unit {0})} b (λ i. Err (TooNested (place i))) advance) i (λ _ j. ((n == 0 ≡ false) × (a.Opening ≡ a.Opening)) × (advanced i ≡ j))
opening_test n i true test = λ x j e. absurd (cc)
opening_test n i false test = leads_pure tt (advanced i) (λ _ j. ((n == 0 ≡ false) × (a.Opening ≡ a.Opening)) × (advanced i ≡ j)) ((test, refl), refl)

opening_leads_by : (n : ℕ) (next : Ahead) (i : Input) → Leads (opening_by n next) i (λ _ j. ((n == 0 ≡ false) × (next ≡ a.Opening)) × (advanced i ≡ j))
opening_leads_by n a.Opening i = opening_test n i (n == 0) refl
opening_leads_by n _ i = λ x j e. absurd (cc)

-- the opening parenthesis of a parameter
pub leads_opening : {B : Type 0} (n : ℕ) (p : Parser B) (Q : B → Input → Type 0) (i : Input)
    → (n == 0 ≡ false → ahead i ≡ a.Opening → Leads p (advanced i) Q) → Leads (opening n >> p) i Q
unfolding opening
leads_opening n p Q i next = leads_at (opening n) (λ _. p) (λ _. (n == 0 ≡ false) × (ahead i ≡ a.Opening)) (advanced i) Q i (opening_leads_by n (ahead i) i) (λ _ h. next h.0 h.1)
