-- Rows of labels, one after another.
use Rattle.std.proofs.Common.{◌≡◌, ℕ, ◌+◌, ◌<◌, ◌≤◌, ◌++◌, List, [], ◌∷◌, length, take, drop, get_or, Option, Some, None, refl, sym, ap, subst, ◌∙◌, arith}
use Rattle.std.proofs.lemmas.List.{append_assoc, take_more, take_all, drop_more, take-append-drop, length-take-le}
use Rattle.std.specs.Prelude.{codes, decimal, option_and_then}
use Rattle.ame_term.specs.declared.semantics.Label.{Label}
use Rattle.ame_print.specs.Printer.{spelling_of}
use Rattle.ame_weak.specs.Weak.{Weak, weak_after, weak_run}
use Rattle.ame_weak.specs.View.{weak_of}
use Rattle.ame_weak.specs.declared.tries.Try.{Try}
use Rattle.ame_page.specs.Columns.{column}
use Rattle.ame_labels.specs.Stepped.{kind_of, reduced_term}
use Rattle.ame_labels.specs.WeakOrder.{touched_at, before_label, behind_label, weak_row, taken_back_row, weak_heading, entries_after, NoneIsNext, TellsLabels}
use Rattle.ame_labels.specs.Orders.{TellsOne, TellsTries, TellsAll}
use Rattle.ame_labels.specs.declared.weak_order.Order.{Order}

-- the row of a try, by its parts
pub try_told : (entry : ℕ) (t : Try) (start a b c d e : List ℕ) → a ≡ start ++ codes "      " → b ≡ a ++ column 6 entry → c ≡ b ++ column 9 t.certificate.number
    → d ≡ c ++ codes "  was tried, and taken back behind step " → e ≡ d ++ decimal t.certificate.steps → e ++ codes "\n" ≡ start ++ taken_back_row entry t
unfolding taken_back_row
try_told entry t start a b c d e is_a is_b is_c is_d is_e =
    let spaces = codes "      " in
    let first = column 6 entry in
    let second = column 9 t.certificate.number in
    let words = codes "  was tried, and taken back behind step " in
    let steps = decimal t.certificate.steps in
    let feed = codes "\n" in
    ap (λ (xs : List ℕ). xs ++ feed)
    (is_e ∙ ap (λ (xs : List ℕ). xs ++ steps) (is_d ∙ ap (λ (xs : List ℕ). xs ++ words) (is_c ∙ ap (λ (xs : List ℕ). xs ++ second) (is_b ∙ ap (λ (xs : List ℕ). xs ++ first) is_a))))
    ∙ ap (λ (xs : List ℕ). xs ++ second ++ words ++ steps ++ feed) (append_assoc start spaces first)
    ∙ ap (λ (xs : List ℕ). xs ++ words ++ steps ++ feed) (append_assoc start (spaces ++ first) second)
    ∙ ap (λ (xs : List ℕ). xs ++ steps ++ feed) (append_assoc start (spaces ++ first ++ second) words)
    ∙ ap (λ (xs : List ℕ). xs ++ feed) (append_assoc start (spaces ++ first ++ second ++ words) steps)
    ∙ append_assoc start (spaces ++ first ++ second ++ words ++ steps) feed

-- the row of a legal label, by its two parts
pub told_row : (index : ℕ) (label : Label) (old new : Order) (entry : ℕ) (touched : Option ℕ) (page : List ℕ) → new.names ≡ old.names → new.numbers ≡ old.numbers
    → weak_after (weak_of old.state) label ≡ Some (weak_of new.state) → entry ≡ get_or old.numbers.items index 0
    → touched ≡ touched_at (kind_of label) (reduced_term (weak_of old.state).state label)
    → page ≡ old.page ++ before_label (index + 1) entry (weak_of old.state) label
    → new.page ≡ page ++ behind_label (spelling_of old.names.items) (weak_of new.state) touched
    → new.entries ≡ entries_after label entry old.entries → TellsOne index label old new
told_row index label old new entry touched page names numbers legal is place first second entries =
    let ns = spelling_of old.names.items in
    let told = before_label (index + 1) (get_or old.numbers.items index 0) (weak_of old.state) label in
    let place_told = touched_at (kind_of label) (reduced_term (weak_of old.state).state label) in
    record {
      names = names;
      numbers = numbers;
      legal = legal;
      page =
          second ∙ ap (λ (l : Option ℕ). page ++ behind_label ns (weak_of new.state) l) place
          ∙ ap (λ (xs : List ℕ). xs ++ behind_label ns (weak_of new.state) place_told)
          (first ∙ ap (λ (n : ℕ). old.page ++ before_label (index + 1) n (weak_of old.state) label) is)
          ∙ append_assoc old.page told (behind_label ns (weak_of new.state) place_told);
      entries = entries ∙ ap (λ (n : ℕ). entries_after label n old.entries) is;
    }

pub no_tries : (n : ℕ) (tries : List Try) (o : Order) → TellsTries n tries tries o o
no_tries n tries o = record { names = refl; numbers = refl; state = refl; tells = λ names numbers start w all labels size told. told }

-- one row more
pub tries_more : (n : ℕ) (tries rest others : List Try) (t : Try) (first old new : Order) → TellsTries n tries rest first old → rest ≡ t ∷ others → t.after ≡ n
    → new.names ≡ old.names → new.numbers ≡ old.numbers → new.state ≡ old.state → new.entries ≡ old.entries + 1
    → new.page ≡ old.page ++ taken_back_row new.entries t → TellsTries n tries others first new
tries_more n tries rest others t first old new a parts after names numbers state entries page = record {
  names = names ∙ a.names;
  numbers = numbers ∙ a.numbers;
  state = state ∙ a.state;
  tells = λ ns ms start w all labels size told.
      let before : TellsLabels ns ms start all old.page labels (t ∷ others) old.entries w =
      subst (λ (ts : List Try). TellsLabels ns ms start all old.page labels ts old.entries w) parts (a.tells ns ms start w all labels size told) in
      let row : new.page ≡ old.page ++ taken_back_row (old.entries + 1) t = page ∙ ap (λ (m : ℕ). old.page ++ taken_back_row m t) entries in
      subst (λ (xs : List ℕ). TellsLabels ns ms start all xs labels others new.entries w) (sym row)
      (subst (λ (m : ℕ). TellsLabels ns ms start all (old.page ++ taken_back_row (old.entries + 1) t) labels others m w) (sym entries)
      (TellsLabels.tried old.page labels t others old.entries w before (after ∙ sym size)));
}

-- Labels after others are made in the weak state to which those lead.
run_from : (o : Option Weak) (front rest : List Label) → ((v : Weak) → weak_run v (front ++ rest) ≡ option_and_then (λ u. weak_run u rest) (weak_run v front))
    → option_and_then (λ v. weak_run v (front ++ rest)) o ≡ option_and_then (λ u. weak_run u rest) (option_and_then (λ v. weak_run v front) o)
run_from None front rest each = refl
run_from (Some v) front rest each = each v

runs_on : (w : Weak) (front rest : List Label) → weak_run w (front ++ rest) ≡ option_and_then (λ u. weak_run u rest) (weak_run w front)
runs_on w [] rest = refl
runs_on w (label ∷ front) rest = run_from (weak_after w label) front rest (λ v. runs_on v front rest)

-- the rows lead to the weak state of their labels
leads_there : (names : List (List ℕ)) (numbers : List ℕ) (w : Weak) (tries : List Try) (page : List ℕ) (labels : List Label) (rest : List Try) (entries : ℕ) (v : Weak)
    → TellsLabels names numbers w tries page labels rest entries v → weak_run w labels ≡ Some v
leads_there names numbers w tries _ _ _ _ _ TellsLabels.none = refl
leads_there names numbers w tries _ _ _ _ _ (TellsLabels.told page labels rest entries v u label before next legal) =
    runs_on w labels (label ∷ [])
    ∙ ap (option_and_then (λ (x : Weak). weak_run x (label ∷ []))) (leads_there names numbers w tries page labels rest entries v before)
    ∙ ap (option_and_then (λ (x : Weak). weak_run x [])) legal
leads_there names numbers w tries _ _ _ _ _ (TellsLabels.tried page labels t rest entries v before after) =
    leads_there names numbers w tries page labels (t ∷ rest) entries v before

-- The first k labels have rows, and these tries are left.
pub record IsToldTo (labels : List Label) (tries : List Try) (k : ℕ) (rest : List Try) (first o : Order) : Type 0 where
  pub within : k ≤ length labels
  pub names : o.names ≡ first.names
  pub numbers : o.numbers ≡ first.numbers
  pub told : TellsLabels (spelling_of first.names.items) first.numbers.items (weak_of first.state) tries o.page (take k labels) rest o.entries (weak_of o.state)

pub told_none : (labels : List Label) (tries : List Try) (o : Order) → o.page ≡ weak_heading → o.entries ≡ 0 → IsToldTo labels tries 0 tries o o
told_none labels tries o empty no_entries =
    let ns = spelling_of o.names.items in
    let ms = o.numbers.items in
    let w = weak_of o.state in
    record {
      within = omega arith;
      names = refl;
      numbers = refl;
      told =
          subst (λ (xs : List ℕ). TellsLabels ns ms w tries xs [] tries o.entries w) (sym empty)
          (subst (λ (n : ℕ). TellsLabels ns ms w tries weak_heading [] tries n w) (sym no_entries) TellsLabels.none);
    }

pub told_tries : (labels : List Label) (tries : List Try) (k : ℕ) (rest later : List Try) (first old new : Order) → IsToldTo labels tries k rest first old
    → TellsTries k rest later old new → IsToldTo labels tries k later first new
told_tries labels tries k rest later first old new a b =
    let ns = spelling_of first.names.items in
    let ms = first.numbers.items in
    let start = weak_of first.state in
    record {
      within = a.within;
      names = b.names ∙ a.names;
      numbers = b.numbers ∙ a.numbers;
      told =
          subst (λ (w : Weak). TellsLabels ns ms start tries new.page (take k labels) later new.entries w) (sym (ap weak_of b.state))
          (b.tells ns ms start (weak_of old.state) tries (take k labels) (length-take-le k labels a.within) a.told);
    }

pub told_one : (labels : List Label) (tries : List Try) (k : ℕ) (d : Label) (rest : List Try) (first old new : Order) → k < length labels
    → IsToldTo labels tries k rest first old → NoneIsNext k rest → TellsOne k (get_or labels k d) old new → IsToldTo labels tries (k + 1) rest first new
told_one labels tries k d rest first old new within a next b =
    let label = get_or labels k d in
    let front = take k labels in
    let ns = spelling_of first.names.items in
    let ms = first.numbers.items in
    let start = weak_of first.state in
    let v = weak_of old.state in
    let u = weak_of new.state in
    let size : length front ≡ k = length-take-le k labels (omega arith) in
    let row : new.page ≡ old.page ++ weak_row ns (length front + 1) (get_or ms (length front) 0) v label u =
    b.page
    ∙ ap (λ (xs : List (List ℕ)). old.page ++ weak_row xs (k + 1) (get_or old.numbers.items k 0) v label u) (ap (λ names. spelling_of names.items) a.names)
    ∙ ap (λ (xs : List ℕ). old.page ++ weak_row ns (k + 1) (get_or xs k 0) v label u) (ap (λ numbers. numbers.items) a.numbers)
    ∙ ap (λ (n : ℕ). old.page ++ weak_row ns (n + 1) (get_or ms n 0) v label u) (sym size) in
    let count : new.entries ≡ entries_after label (get_or ms (length front) 0) old.entries =
    b.entries
    ∙ ap (λ (xs : List ℕ). entries_after label (get_or xs k 0) old.entries) (ap (λ numbers. numbers.items) a.numbers)
    ∙ ap (λ (n : ℕ). entries_after label (get_or ms n 0) old.entries) (sym size) in
    record {
      within = omega arith;
      names = b.names ∙ a.names;
      numbers = b.numbers ∙ a.numbers;
      told =
          subst (λ (ls : List Label). TellsLabels ns ms start tries new.page ls rest new.entries u) (sym (take_more labels k d within))
          (subst (λ (xs : List ℕ). TellsLabels ns ms start tries xs (front ++ label ∷ []) rest new.entries u) (sym row)
          (subst (λ (n : ℕ). TellsLabels ns ms start tries (old.page ++ weak_row ns (length front + 1) (get_or ms (length front) 0) v label u)
          (front ++ label ∷ []) rest n u) (sym count)
          (TellsLabels.told old.page front rest old.entries v u label a.told (subst (λ (n : ℕ). NoneIsNext n rest) (sym size) next) b.legal)));
    }

pub told_all : (labels : List Label) (tries : List Try) (k : ℕ) (rest later : List Try) (first old new : Order) → length labels ≤ k
    → IsToldTo labels tries k rest first old → TellsTries (length labels) rest later old new → NoneIsNext (length labels) later → TellsAll labels tries first new
told_all labels tries k rest later first old new all a b next =
    let same : k ≡ length labels = omega (arith, a.within) in
    let here : IsToldTo labels tries (length labels) rest first old = subst (λ (n : ℕ). IsToldTo labels tries n rest first old) same a in
    let end = told_tries labels tries (length labels) rest later first old new here b in
    record {
      behind = weak_of new.state;
      entries = new.entries;
      later = later;
      told =
          subst (λ (ls : List Label). TellsLabels (spelling_of first.names.items) first.numbers.items (weak_of first.state) tries new.page ls later new.entries
          (weak_of new.state)) (take_all (length labels) labels (omega arith)) end.told;
      complete = next;
    }

-- a label that isn't legal where those before it lead
pub refused_there : (labels : List Label) (tries : List Try) (k : ℕ) (d : Label) (rest : List Try) (first o : Order) → k < length labels
    → IsToldTo labels tries k rest first o → weak_after (weak_of o.state) (get_or labels k d) ≡ None → weak_run (weak_of first.state) labels ≡ None
refused_there labels tries k d rest first o within a refused =
    let label = get_or labels k d in
    let front = take k labels in
    let behind = drop (k + 1) labels in
    let w = weak_of first.state in
    let leads = leads_there (spelling_of first.names.items) first.numbers.items w tries o.page front rest o.entries (weak_of o.state) a.told in
    ap (weak_run w) (sym (take-append-drop k labels) ∙ ap (λ (ls : List Label). front ++ ls) (drop_more labels k d within)) ∙ runs_on w front (label ∷ behind)
    ∙ ap (option_and_then (λ (x : Weak). weak_run x (label ∷ behind))) leads ∙ ap (option_and_then (λ (x : Weak). weak_run x behind)) refused
