-- Notes of one member stand apart in the journal of a weak run.
use Rattle.std.proofs.Common.{◌≡◌, ℕ, zero, suc, ◌+◌, ◌-◌, ◌<◌, ◌≤◌, ◌++◌, ◌==◌, ◌⊎◌, inl, inr, Bool, true, false, List, [], ◌∷◌, length, take, drop}
use Rattle.std.proofs.Common.{Some, None, is_some, option_map, option_and_then, if◌then◌else◌, refl, sym, ap, ◌∙◌, subst, arith}
use Rattle.std.specs.Prelude.{◌||◌, ◌&&◌, slice_get}
use Rattle.std.specs.List.{AllByRecursion, list_any}
use Rattle.std.proofs.lemmas.Bool.{eqb-true, eqb-false}
use Rattle.std.proofs.lemmas.Option.{option_and_then_some}
use Rattle.std.proofs.lemmas.List.Folds.{list_any-append}
use Rattle.ame_term.specs.Tree.{Tree}
use Rattle.ame_term.specs.Frame.{Side}
use Rattle.ame_term.specs.Act.{device_answer}
use Rattle.ame_term.specs.State.{State, after, reduce, closed}
use Rattle.ame_term.specs.declared.semantics.StepKind.{StepKind}
use Rattle.ame_term.specs.declared.semantics.Label.{Label}
use Rattle.ame_journal.specs.declared.entry.Entry.{Entry}
use Rattle.ame_journal.specs.declared.entry.EntryKind.{EntryKind}
use Rattle.ame_journal.specs.Labels.{fresh_of}
use Rattle.ame_weak.specs.Weak.{Weak, moved, holds_nothing, is_resting, may_free, weak_start, weak_after, weak_run, IsWeakRun}
use Rattle.ame_weak.specs.Straight.{Place, outset, freed, arrival, arrival_where, entries_of_label, past}
use Rattle.ame_weak.specs.Tries.{IsTried, AreTried, AreTriesInOrder, note_for, noted_tries, tries_behind, straight_with}
use Rattle.ame_weak.specs.declared.tries.Try.{Try}
use Rattle.ame_weak.proofs.HeldSteps.{map-gave, if-gave}
use Rattle.ame_weak.proofs.WayLemmas.{activate-found}
use Rattle.ame_runner.specs.Notes.{lets_try_again, HasChange, AreSetApart, AreSpaced}
use Rattle.ame_runner.specs.Apart.{is_news, AreNotedApart}
use Rattle.ame_runner.proofs.NoteLemmas.{all-with}
use Rattle.ame_runner.proofs.TotalLemmas.{step-stays, free-stays, close-stays}

-- Lists of entries

abbrev news : Entry → Bool
news e = is_news e.kind e.fresh

-- an entry isn't the note of a member that came to a condition that is false
abbrev IsOther : ℕ → Entry → Type 0
IsOther i e = e.kind ≡ EntryKind.Stuck → e.number ≡ i → ⊥

-- no note of a member stands before the first news
abbrev IsBehind : ℕ → List Entry → Type 0
IsBehind i [] = Unit {0}
IsBehind i (e ∷ es) = IsOther i e × ((news e ≡ true) ⊎ IsBehind i es)

abbrev AreApart : List Entry → Type 0
AreApart [] = Unit {0}
AreApart (e ∷ es) = (e.kind ≡ EntryKind.Stuck → IsBehind e.number es) × AreApart es

record HasNewsBefore (es : List Entry) (place : ℕ) : Type 0 where
  at : ℕ
  before : at < place
  entry : Entry
  there : slice_get es at ≡ Some entry
  is : news entry ≡ true

news-before : (i : ℕ) (es : List Entry) (place : ℕ) (next : Entry) → IsBehind i es → slice_get es place ≡ Some next
    → next.kind ≡ EntryKind.Stuck → next.number ≡ i
    → HasNewsBefore es place
news-before i [] place next behind there kind number = absurd (cc)
news-before i (e ∷ es) zero next behind there kind number =
    let same : e ≡ next = cc in
    absurd (behind.0 (ap (λ (x : Entry). x.kind) same ∙ kind) (ap (λ (x : Entry). x.number) same ∙ number))
news-before i (e ∷ es) (suc place) next behind there kind number = by behind.1 (λ later. news-before i es place next later there kind number)
  where
    by : (news e ≡ true) ⊎ IsBehind i es → (IsBehind i es → HasNewsBefore es place) → HasNewsBefore (e ∷ es) (suc place)
    by (inl is) go = record { at = 0; before = omega arith; entry = e; there = refl; is = is }
    by (inr later) go =
        let h = go later in
        let before = h.before in
        record { at = suc h.at; before = omega (arith, before); entry = h.entry; there = h.there; is = h.is }

pub apart-noted : (es : List Entry) → AreApart es → AreNotedApart es
apart-noted [] apart = λ first later note next below one other same. absurd (let there : None ≡ Some note = one.there in cc)
apart-noted (e ∷ es) apart = by (apart-noted es apart.1)
  where
    by : AreNotedApart es → AreNotedApart (e ∷ es)
    by go first zero note next below one other same = absurd (omega (arith, below))
    by go zero (suc later) note next below one other same =
        let is : e ≡ note = let there = one.there in cc in
        let behind = apart.0 (ap (λ (x : Entry). x.kind) is ∙ one.its) in
        let h = news-before e.number es later next behind other.there other.its (sym same ∙ sym (ap (λ (x : Entry). x.number) is)) in
        let before = h.before in
        record { place = suc h.at; behind = omega arith; before = omega (arith, before); entry = h.entry; there = h.there; is = h.is }
    by go (suc first) (suc later) note next below one other same =
        let h = go first later note next (omega (arith, below)) (record { there = one.there; its = one.its }) (record { there = other.there; its = other.its }) same in
        let behind = h.behind in
        let before = h.before in
        record { place = suc h.place; behind = omega (arith, behind); before = omega (arith, before); entry = h.entry; there = h.there; is = h.is }

-- entries that are no notes stand before others
front-behind : (i : ℕ) (es later : List Entry) → AllByRecursion (IsOther i) es → (list_any news es ≡ true) ⊎ IsBehind i later → IsBehind i (es ++ later)
front-behind i [] later others (inl some) = absurd (cc)
front-behind i [] later others (inr behind) = behind
front-behind i (e ∷ es) later others how = (others.0, by (news e) refl how (λ rest. front-behind i es later others.1 rest))
  where
    by : (b : Bool) → news e ≡ b → (list_any news (e ∷ es) ≡ true) ⊎ IsBehind i later
        → ((list_any news es ≡ true) ⊎ IsBehind i later → IsBehind i (es ++ later)) → (news e ≡ true) ⊎ IsBehind i (es ++ later)
    by true is how go = inl is
    by false is (inl some) go = inr (go (inl (sym (ap (λ (b : Bool). b || list_any news es) is) ∙ some)))
    by false is (inr behind) go = inr (go (inr behind))

abbrev IsNoNote : Entry → Type 0
IsNoNote e = e.kind ≡ EntryKind.Stuck → ⊥

front-apart : (es later : List Entry) → AllByRecursion IsNoNote es → AreApart later → AreApart (es ++ later)
front-apart [] later none apart = apart
front-apart (e ∷ es) later none apart = ((λ kind. absurd (none.0 kind)), front-apart es later none.1 apart)

others-none : (i : ℕ) (es : List Entry) → AllByRecursion IsNoNote es → AllByRecursion (IsOther i) es
others-none i [] none = tt
others-none i (e ∷ es) none = ((λ kind number. none.0 kind), others-none i es none.1)

-- Entries of labels

-- whether a label has an entry that is news
abbrev brings_news : Label → Bool
brings_news Label.Leave = true
brings_news Label.End = true
brings_news (Label.Free i (StepKind.Alloc l)) = true
brings_news label = false

arrived : (b : Bool) (i : ℕ) (e : Entry) → IsNoNote e → AllByRecursion IsNoNote (arrival_where b i ++ e ∷ [])
arrived true i e none = (none, tt)
arrived false i e none = ((λ kind. cc), (none, tt))

label-notes : (p : Place) (label : Label) → AllByRecursion IsNoNote (entries_of_label p label)
label-notes p (Label.Activate i) = tt
label-notes p (Label.Step kind) = tt
label-notes p Label.Leave = ((λ kind. cc), tt)
label-notes p Label.End = ((λ kind. cc), tt)
label-notes p (Label.Free i kind) = arrived (list_any (λ j. j == i) p.inside) i (freed i (fresh_of kind) (device_answer kind)) (λ kind. cc)
label-notes p (Label.Close i) = arrived (list_any (λ j. j == i) p.inside) i (freed i [] None) (λ kind. cc)

or-right : (a b : Bool) → b ≡ true → (a || b) ≡ true
or-right true b e = refl
or-right false b e = e

label-news : (p : Place) (label : Label) → brings_news label ≡ true → list_any news (entries_of_label p label) ≡ true
label-news p Label.Leave e = refl
label-news p Label.End e = refl
label-news p (Label.Free i (StepKind.Alloc l)) e =
    list_any-append news (arrival p.inside i) (freed i (fresh_of (StepKind.Alloc l)) None ∷ []) ∙ or-right (list_any news (arrival p.inside i)) true refl
label-news p (Label.Free i StepKind.Local) e = absurd (cc)
label-news p (Label.Free i StepKind.Read) e = absurd (cc)
label-news p (Label.Free i StepKind.Peek) e = absurd (cc)
label-news p (Label.Free i StepKind.Write) e = absurd (cc)
label-news p (Label.Free i StepKind.Spawn) e = absurd (cc)
label-news p (Label.Free i StepKind.Print) e = absurd (cc)
label-news p (Label.Free i StepKind.Block) e = absurd (cc)
label-news p (Label.Free i (StepKind.Device answer)) e = absurd (cc)
label-news p (Label.Activate i) e = absurd (cc)
label-news p (Label.Step kind) e = absurd (cc)
label-news p (Label.Close i) e = absurd (cc)

-- Tries in order

-- those after the first ones come later
pub order-behind : (n m : ℕ) (ts : List Try) → AreTriesInOrder n m ts → AreTriesInOrder (n + 1) m (tries_behind n ts)
order-behind n m [] order = tt
order-behind n m (t ∷ ts) order = by (t.after == n) refl (λ rest. order-behind n m ts rest)
  where
    by : (b : Bool) → (t.after == n) ≡ b → (AreTriesInOrder n m ts → AreTriesInOrder (n + 1) m (tries_behind n ts))
        → AreTriesInOrder (n + 1) m (if b then tries_behind n ts else t ∷ ts)
    by true is go = let same = eqb-true t.after n is in go (subst (λ (k : ℕ). AreTriesInOrder k m ts) same order.2)
    by false is go = let other = eqb-false t.after n is in let few : n ≤ t.after = order.0 in (omega (arith, few, other), order.1, order.2)

order-from : (n m : ℕ) (ts : List Try) → AreTriesInOrder n m ts → AllByRecursion (λ t. n ≤ t.after) ts
order-from n m [] order = tt
order-from n m (t ∷ ts) order = (order.0, later t.after ts order.0 (order-from t.after m ts order.2))
  where
    later : (k : ℕ) (us : List Try) → n ≤ k → AllByRecursion (λ u. k ≤ u.after) us → AllByRecursion (λ u. n ≤ u.after) us
    later k [] few all = tt
    later k (u ∷ us) few all = (let more : k ≤ u.after = all.0 in omega (arith, few, more), later k us few all.1)

all-behind : (P : Try → Type 0) (n : ℕ) (ts : List Try) → AllByRecursion P ts → AllByRecursion P (tries_behind n ts)
all-behind P n [] all = tt
all-behind P n (t ∷ ts) all = by (t.after == n) (all-behind P n ts all.1)
  where
    by : (b : Bool) → AllByRecursion P (tries_behind n ts) → AllByRecursion P (if b then tries_behind n ts else t ∷ ts)
    by true rest = rest
    by false rest = all

-- News between tries

abbrev HasNews : List Label → Type 0
HasNews labels = list_any brings_news labels ≡ true

-- a failing try of a member, made later, has news before it
abbrev IsLater : ℕ → ℕ → List Label → Try → Type 0
IsLater i n labels u = u.failing ≡ true → u.certificate.number ≡ i → HasNews (take (u.after - n) labels)

-- notes of tries that are made here are those of other members
noted-others : (i n : ℕ) (labels : List Label) (ts : List Try) → AllByRecursion (IsLater i n labels) ts → AllByRecursion (IsOther i) (noted_tries n ts)
noted-others i n labels [] all = tt
noted-others i n labels (t ∷ ts) all = by (t.after == n) refl (noted-others i n labels ts all.1)
  where
    none : n - n ≡ 0
    none = omega arith

    other : (b : Bool) → t.failing ≡ b → t.after ≡ n → IsOther i (note_for t)
    other false failing same = λ kind number. let is : EntryKind.Cut ≡ EntryKind.Stuck = sym (ap (λ (b : Bool). if b then EntryKind.Stuck else EntryKind.Cut) failing) ∙ kind in cc
    other true failing same = λ kind number.
        let news : HasNews (take (t.after - n) labels) = all.0 failing number in
        let clash : false ≡ true = sym (ap (λ (k : ℕ). list_any brings_news (take k labels)) (ap (λ (k : ℕ). k - n) same ∙ none)) ∙ news in
        cc

    by : (b : Bool) → (t.after == n) ≡ b → AllByRecursion (IsOther i) (noted_tries n ts)
        → AllByRecursion (IsOther i) (if b then note_for t ∷ noted_tries n ts else [])
    by false is rest = tt
    by true is rest = (other t.failing refl (eqb-true t.after n is), rest)

-- after a label without news
later-behind : (i n : ℕ) (label : Label) (labels : List Label) (u : Try) → brings_news label ≡ false → IsLater i n (label ∷ labels) u → n + 1 ≤ u.after
    → IsLater i (n + 1) labels u
later-behind i n label labels u quiet later few = λ failing number.
    let count : u.after - n ≡ suc (u.after - (n + 1)) = omega (arith, few) in
    let news : HasNews (take (u.after - n) (label ∷ labels)) = later failing number in
    sym (ap (λ (b : Bool). b || list_any brings_news (take (u.after - (n + 1)) labels)) quiet)
    ∙ sym (ap (λ (k : ℕ). list_any brings_news (take k (label ∷ labels))) count) ∙ news

pub behind-from : (i n m : ℕ) (ts : List Try) (p : Place) (labels : List Label) → AreTriesInOrder n m ts → AllByRecursion (IsLater i n labels) ts
    → IsBehind i (straight_with n ts p labels)
behind-from i n m ts p [] order all = alone (noted_tries n ts) (noted-others i n [] ts all)
  where
    alone : (es : List Entry) → AllByRecursion (IsOther i) es → IsBehind i es
    alone [] others = tt
    alone (e ∷ es) others = (others.0, inr (alone es others.1))
behind-from i n m ts p (label ∷ labels) order all =
    let rest = straight_with (n + 1) (tries_behind n ts) (past p label) labels in
    front-behind i (noted_tries n ts) (entries_of_label p label ++ rest) (noted-others i n (label ∷ labels) ts all)
    (inr (front-behind i (entries_of_label p label) rest (others-none i (entries_of_label p label) (label-notes p label))
    (by (brings_news label) refl (λ later rest. behind-from i (n + 1) m (tries_behind n ts) (past p label) labels later rest))))
  where
    by : (b : Bool) → brings_news label ≡ b
        → (AreTriesInOrder (n + 1) m (tries_behind n ts) → AllByRecursion (IsLater i (n + 1) labels) (tries_behind n ts)
        → IsBehind i (straight_with (n + 1) (tries_behind n ts) (past p label) labels))
        → (list_any news (entries_of_label p label) ≡ true) ⊎ IsBehind i (straight_with (n + 1) (tries_behind n ts) (past p label) labels)
    by true is go = inl (label-news p label is)
    by false is go =
        let later = order-behind n m ts order in
        inr (go later
        (all-with (IsLater i n (label ∷ labels)) (λ u. n + 1 ≤ u.after) (IsLater i (n + 1) labels) (λ u here few. later-behind i n label labels u is here few)
        (tries_behind n ts) (all-behind (IsLater i n (label ∷ labels)) n ts all) (order-from (n + 1) m (tries_behind n ts) later)))

-- between two failing tries of one member is news
abbrev AreNewsBetween : ℕ → List Label → Try → Try → Type 0
AreNewsBetween n labels t u =
    t.failing ≡ true → u.failing ≡ true → t.certificate.number ≡ u.certificate.number → HasNews (drop (t.after - n) (take (u.after - n) labels))

abbrev AreSpacedFrom : ℕ → List Label → List Try → Type 0
AreSpacedFrom n labels [] = Unit {0}
AreSpacedFrom n labels (t ∷ ts) = AllByRecursion (AreNewsBetween n labels t) ts × AreSpacedFrom n labels ts

between-behind : (n : ℕ) (label : Label) (labels : List Label) (t u : Try) → n + 1 ≤ t.after → AreNewsBetween n (label ∷ labels) t u → n + 1 ≤ u.after
    → AreNewsBetween (n + 1) labels t u
between-behind n label labels t u low between few = λ one other same.
    let first : t.after - n ≡ suc (t.after - (n + 1)) = omega (arith, low) in
    let later : u.after - n ≡ suc (u.after - (n + 1)) = omega (arith, few) in
    sym (ap (λ (k : ℕ). list_any brings_news (drop k (take (u.after - n) (label ∷ labels)))) first
    ∙ ap (λ (k : ℕ). list_any brings_news (drop (suc (t.after - (n + 1))) (take k (label ∷ labels)))) later)
    ∙ between one other same

spaced-behind : (n : ℕ) (label : Label) (labels : List Label) (ts : List Try) → AllByRecursion (λ t. n + 1 ≤ t.after) ts → AreSpacedFrom n (label ∷ labels) ts
    → AreSpacedFrom (n + 1) labels ts
spaced-behind n label labels [] few spaced = tt
spaced-behind n label labels (t ∷ ts) few spaced = (
  all-with (AreNewsBetween n (label ∷ labels) t) (λ u. n + 1 ≤ u.after) (AreNewsBetween (n + 1) labels t)
      (λ u between low. between-behind n label labels t u few.0 between low) ts spaced.0 few.1,
  spaced-behind n label labels ts few.1 spaced.1,
)

-- the first tries are those that are made here; the others follow them
apart-notes : (n m : ℕ) (ts : List Try) (p : Place) (labels : List Label) → AreTriesInOrder n m ts → AreSpacedFrom n labels ts
    → ((us : List Try) → noted_tries n us ≡ [] → AreTriesInOrder (n + 1) m us → AreSpacedFrom n labels us → AreApart (straight_with n us p labels))
    → AreApart (straight_with n ts p labels)
apart-notes n m [] p labels order spaced behind = behind [] refl tt tt
apart-notes n m (t ∷ ts) p labels order spaced behind = by (t.after == n) refl (λ rest. apart-notes n m ts p labels rest spaced.1 behind)
  where
    none : n - n ≡ 0
    none = omega arith

    head : t.after ≡ n → (note_for t).kind ≡ EntryKind.Stuck → (b : Bool) → t.failing ≡ b → IsBehind t.certificate.number (straight_with n ts p labels)
    head same kind false failing =
        absurd (let is : EntryKind.Cut ≡ EntryKind.Stuck = sym (ap (λ (b : Bool). if b then EntryKind.Stuck else EntryKind.Cut) failing) ∙ kind in cc)
    head same kind true failing =
        behind-from t.certificate.number n m ts p labels (subst (λ (k : ℕ). AreTriesInOrder k m ts) same order.2)
        (mapped ts spaced.0)
      where
        mapped : (us : List Try) → AllByRecursion (AreNewsBetween n labels t) us → AllByRecursion (IsLater t.certificate.number n labels) us
        mapped [] all = tt
        mapped (u ∷ us) all = (
          (λ later number. sym (ap (λ (k : ℕ). list_any brings_news (drop k (take (u.after - n) labels))) (ap (λ (k : ℕ). k - n) same ∙ none))
              ∙ all.0 failing later (sym number)),
          mapped us all.1,
        )

    by : (b : Bool) → (t.after == n) ≡ b → (AreTriesInOrder n m ts → AreApart (straight_with n ts p labels)) → AreApart (straight_with n (t ∷ ts) p labels)
    by true is go =
        let same = eqb-true t.after n is in
        let rest = go (subst (λ (k : ℕ). AreTriesInOrder k m ts) same order.2) in
        subst AreApart (sym (first labels)) ((λ kind. head same kind t.failing refl), rest)
      where
        first : (ls : List Label) → straight_with n (t ∷ ts) p ls ≡ note_for t ∷ straight_with n ts p ls
        first [] = ap (λ (b : Bool). if b then note_for t ∷ noted_tries n ts else []) is
        first (l ∷ ls) =
            ap (λ (b : Bool). (if b then note_for t ∷ noted_tries n ts else []) ++ (entries_of_label p l ++ straight_with (n + 1) (if b then tries_behind n ts else t ∷ ts) (past p l) ls)) is
    by false is go =
        let other = eqb-false t.after n is in
        let few : n ≤ t.after = order.0 in
        behind (t ∷ ts) (ap (λ (b : Bool). if b then note_for t ∷ noted_tries n ts else []) is) (omega (arith, few, other), order.1, order.2) spaced

none-behind : (n : ℕ) (ts : List Try) → noted_tries n ts ≡ [] → tries_behind n ts ≡ ts
none-behind n [] e = refl
none-behind n (t ∷ ts) e = by (t.after == n) e
  where
    by : (b : Bool) → (if b then note_for t ∷ noted_tries n ts else []) ≡ [] → (if b then tries_behind n ts else t ∷ ts) ≡ t ∷ ts
    by true e = absurd (cc)
    by false e = refl

apart-from : (n m : ℕ) (ts : List Try) (p : Place) (labels : List Label) → AreTriesInOrder n m ts
    → AreSpacedFrom n labels ts → AreApart (straight_with n ts p labels)
apart-from n m ts p [] order spaced = apart-notes n m ts p [] order spaced (λ us none later more. subst AreApart (sym none) tt)
apart-from n m ts p (label ∷ labels) order spaced =
    apart-notes n m ts p (label ∷ labels) order spaced (λ us none later more.
    let rest = apart-from (n + 1) m us (past p label) labels later (spaced-behind n label labels us (order-from (n + 1) m us later) more) in
    let all : AreApart (entries_of_label p label ++ straight_with (n + 1) us (past p label) labels) =
    front-apart (entries_of_label p label) (straight_with (n + 1) us (past p label) labels) (label-notes p label) rest in
    subst (λ (es : List Entry). AreApart (es ++ (entries_of_label p label ++ straight_with (n + 1) (tries_behind n us) (past p label) labels))) (sym none)
    (subst (λ (vs : List Try). AreApart (entries_of_label p label ++ straight_with (n + 1) vs (past p label) labels)) (sym (none-behind n us none)) all))

-- Labels of a run

-- who is active stays so, unless it leaves or ends
active-stays : (w x : Weak) (label : Label) → weak_after w label ≡ Some x → is_some w.state.active ≡ true
    → brings_news label ≡ false → is_some x.state.active ≡ true
unfolding weak_after
active-stays w x (Label.Activate i) e active quiet =
    let m = map-gave (moved w) (after w.state (Label.Activate i)) x (if-gave (holds_nothing w) (option_map (moved w) (after w.state (Label.Activate i))) x e).1 in
    let f = activate-found i w.state m.0 m.1 in
    ap is_some (sym (ap (λ (z : Weak). z.state.active) m.2) ∙ ap (λ (z : State). z.active) f.3)
active-stays w x (Label.Step kind) e active quiet =
    option_and_then_some _ _ _ e (λ i is goes. ap is_some (step-stays kind i w x goes) ∙ active)
active-stays w x Label.Leave e active quiet = absurd (cc)
active-stays w x Label.End e active quiet = absurd (cc)
active-stays w x (Label.Free i kind) e active quiet =
    let m = map-gave (moved w) (reduce Side.Unprotected kind i w.state) x
    (if-gave (is_resting w.state.active i && may_free w.state.active kind) (option_map (moved w) (reduce Side.Unprotected kind i w.state)) x e).1 in
    ap is_some (sym (ap (λ (z : Weak). z.state.active) m.2) ∙ free-stays kind i w.state m.0 m.1) ∙ active
active-stays w x (Label.Close i) e active quiet =
    let m = map-gave (moved w) (closed i w.state) x (if-gave (is_resting w.state.active i) (option_map (moved w) (closed i w.state)) x e).1 in
    ap is_some (sym (ap (λ (z : Weak). z.state.active) m.2) ∙ close-stays i w.state m.0 m.1) ∙ active

news-active : (w v : Weak) (labels : List Label) → weak_run w labels ≡ Some v → is_some w.state.active ≡ true → v.state.active ≡ None → HasNews labels
news-active w v [] e active idle =
    let same : w ≡ v = cc in
    let clash : false ≡ true = sym (ap is_some (ap (λ (z : Weak). z.state.active) same ∙ idle)) ∙ active in
    absurd (cc)
news-active w v (label ∷ labels) e active idle = by (brings_news label) refl (λ x rest still. news-active x v labels rest still idle)
  where
    by : (b : Bool) → brings_news label ≡ b → ((x : Weak) → weak_run x labels ≡ Some v → is_some x.state.active ≡ true → HasNews labels)
        → HasNews (label ∷ labels)
    by true is go = ap (λ (b : Bool). b || list_any brings_news labels) is
    by false is go =
        option_and_then_some _ _ _ e (λ x first rest.
        or-right (brings_news label) (list_any brings_news labels) (go x rest (active-stays w x label first active is)))

-- a step is made while a member is active
step-some : (w x : Weak) (kind : StepKind) → weak_after w (Label.Step kind) ≡ Some x → is_some x.state.active ≡ true
unfolding weak_after
step-some w x kind e = option_and_then_some _ _ _ e (λ i is goes. ap is_some (step-stays kind i w x goes ∙ is))

-- a label by which members may be tried again is news, or a step of the active member
abbrev CanBeNews : Label → Type 0
CanBeNews label = (brings_news label ≡ true) ⊎ ((kind : StepKind) × (label ≡ Label.Step kind))

label-change : (label : Label) → lets_try_again label ≡ true → CanBeNews label
label-change Label.Leave e = inl refl
label-change Label.End e = inl refl
label-change (Label.Step kind) e = inr (kind, refl)
label-change (Label.Free i (StepKind.Alloc l)) e = inl refl
label-change (Label.Free i StepKind.Local) e = absurd (cc)
label-change (Label.Free i StepKind.Read) e = absurd (cc)
label-change (Label.Free i StepKind.Peek) e = absurd (cc)
label-change (Label.Free i StepKind.Write) e = absurd (cc)
label-change (Label.Free i StepKind.Spawn) e = absurd (cc)
label-change (Label.Free i StepKind.Print) e = absurd (cc)
label-change (Label.Free i StepKind.Block) e = absurd (cc)
label-change (Label.Free i (StepKind.Device answer)) e = absurd (cc)
label-change (Label.Activate i) e = absurd (cc)
label-change (Label.Close i) e = absurd (cc)

news-change : (w v : Weak) (labels : List Label) → weak_run w labels ≡ Some v → v.state.active ≡ None → HasChange labels → HasNews labels
news-change w v [] e idle change = absurd (cc)
news-change w v (label ∷ labels) e idle change = by (lets_try_again label) refl (λ x rest later. news-change x v labels rest idle later)
  where
    now : CanBeNews label → HasNews (label ∷ labels)
    now (inl is) = ap (λ (b : Bool). b || list_any brings_news labels) is
    now (inr step) =
        option_and_then_some _ _ _ e (λ x first rest.
        or-right (brings_news label) (list_any brings_news labels)
        (news-active x v labels rest (step-some w x step.0 (ap (weak_after w) (sym step.1) ∙ first)) idle))

    by : (b : Bool) → lets_try_again label ≡ b → ((x : Weak) → weak_run x labels ≡ Some v → HasChange labels → HasNews labels) → HasNews (label ∷ labels)
    by true is go = now (label-change label is)
    by false is go =
        option_and_then_some _ _ _ e (λ x first rest.
        or-right (brings_news label) (list_any brings_news labels)
        (go x rest (sym (ap (λ (b : Bool). b || list_any lets_try_again labels) is) ∙ change)))

-- parts of a run
run-front : (w v : Weak) (xs ys : List Label) → weak_run w (xs ++ ys) ≡ Some v → (u : Weak) × (weak_run w xs ≡ Some u) × (weak_run u ys ≡ Some v)
run-front w v [] ys e = (w, refl, e)
run-front w v (x ∷ xs) ys e =
    option_and_then_some _ _ _ e (λ a first rest.
    let h = run-front a v xs ys rest in (h.0, ap (option_and_then (λ z. weak_run z xs)) first ∙ h.1, h.2))

cut-at : (n : ℕ) (xs : List Label) → xs ≡ take n xs ++ drop n xs
cut-at zero xs = refl
cut-at (suc n) [] = refl
cut-at (suc n) (x ∷ xs) = ap (λ ys. x ∷ ys) (cut-at n xs)

taken-count : (n : ℕ) (xs : List Label) → n ≤ length xs → length (take n xs) ≡ n
taken-count zero xs few = refl
taken-count (suc n) [] few = absurd (omega arith)
taken-count (suc n) (x ∷ xs) few = ap suc (taken-count n xs (omega arith))

module _ (program : Tree) (labels : List Label) (w : Weak) (leads : IsWeakRun program labels w) where
  -- between two tries at places with nothing active
  between : (t u : Try) → t.after ≤ u.after → u.after ≤ length labels → IsTried program labels u → AreSetApart labels t u → AreNewsBetween 0 labels t u
  between t u order few tried apart = λ one other same.
      let parts = run-front (weak_start program) w (take u.after labels) (drop u.after labels) (sym (ap (weak_run (weak_start program)) (cut-at u.after labels)) ∙ leads) in
      let idle = (tried (take u.after labels) (drop u.after labels) parts.0 (cut-at u.after labels) (taken-count u.after labels few) parts.1).0 in
      let inner = run-front (weak_start program) parts.0 (take t.after (take u.after labels)) (drop t.after (take u.after labels))
      (sym (ap (weak_run (weak_start program)) (cut-at t.after (take u.after labels))) ∙ parts.1) in
      let now : HasNews (drop t.after (take u.after labels)) = news-change inner.0 parts.0 (drop t.after (take u.after labels)) inner.2 idle (apart one other same) in
      let first : t.after - 0 ≡ t.after = omega arith in
      let later : u.after - 0 ≡ u.after = omega arith in
      ap (λ (k : ℕ). list_any brings_news (drop k (take (u.after - 0) labels))) first ∙ ap (λ (k : ℕ). list_any brings_news (drop t.after (take k labels))) later ∙ now

  spaced-from : (k : ℕ) (ts : List Try) → AreTriesInOrder k (length labels) ts → AreTried program labels ts → AreSpaced labels ts → AreSpacedFrom 0 labels ts
  spaced-from k [] order tried spaced = tt
  spaced-from k (t ∷ ts) order tried spaced = (each t.after ts order.2 (omega arith) tried.1 spaced.0, spaced-from t.after ts order.2 tried.1 spaced.1)
    where
      each : (j : ℕ) (us : List Try) → AreTriesInOrder j (length labels) us → t.after ≤ j → AreTried program labels us
          → AllByRecursion (AreSetApart labels t) us
          → AllByRecursion (AreNewsBetween 0 labels t) us
      each j [] order low tried apart = tt
      each j (u ∷ us) order low tried apart =
          let up : j ≤ u.after = order.0 in
          (between t u (omega (arith, low, up)) order.1 tried.0 apart.0, each u.after us order.2 (omega (arith, low, up)) tried.1 apart.1)

  -- the notes of one member stand apart
  pub notes-apart : (tries : List Try) → AreTriesInOrder 0 (length labels) tries → AreTried program labels tries → AreSpaced labels tries
      → AreNotedApart (straight_with 0 tries outset labels)
  notes-apart tries order tried spaced =
      apart-noted (straight_with 0 tries outset labels) (apart-from 0 (length labels) tries outset labels order (spaced-from 0 tries order tried spaced))
