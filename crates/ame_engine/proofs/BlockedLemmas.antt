-- All members are blocked, and each has its certificate.
use Rattle.std.proofs.Common.{◌≡◌, ℕ, suc, ◌+◌, ◌<◌, ◌≤◌, ◌==◌, ◌&&◌, ◌⊎◌, inl, inr, Bool, true, false, cond, List, [], ◌∷◌, ◌++◌, map, set, get_or, take, length, All, replicate, Option, Some, None, option_map, length-set, refl, sym, ap, ◌∙◌, subst, arith}
use Rattle.std.specs.Prelude.{nat_lt, slice_get, option_and_then, is_some, if◌then◌else◌}
use Rattle.std.proofs.lemmas.List.{take_more, take_all, length-replicate, get_or-replicate, get_or-set_same, get_or-set_other}
use Rattle.std.proofs.lemmas.Option.{slice_get-get_or}
use Rattle.std.proofs.lemmas.Bool.{eq-eqb, eqb-true, eqb-false, ltb-true, ltb-false}
use Rattle.std.proofs.lemmas.Bool.Decides.{nat_tests}
use Rattle.std.proofs.lemmas.List.Elements.{All-head, All-tail, All-weaker}
use Rattle.ame_term.specs.Tree.{Tree}
use Rattle.ame_journal.specs.declared.entry.Entry.{Entry}
use Rattle.ame_journal.specs.Replay.{or_else}
use Rattle.ame_pool.specs.declared.member.Member.{Member}
use Rattle.ame_pool.specs.declared.oldest.Oldest.{Oldest}
use Rattle.ame_pool.specs.Members.{IsRising, find}
use Rattle.ame_pool.specs.Begin.{oldest}
use Rattle.ame_pool.specs.Calls.{inside_of}
use Rattle.ame_protocol.specs.Waits.Waiting.{is_stuck, last_stuck}
use Rattle.ame_protocol.proofs.Row.CellLemmas.{which}
use Rattle.ame_protocol.proofs.Waits.WatchLemmas.{last-same, last-here}
use Rattle.ame_journal.specs.declared.certificate.Certificate.{Certificate}
use Rattle.ame_protocol.specs.Engine.Parts.{Parts}
use Rattle.ame_protocol.specs.Engine.Shown.{shown_member}
use Rattle.ame_protocol.proofs.Engine.ToldLemmas.{next-free}
use Rattle.ame_protocol.specs.declared.stop.Stop.{Stop}
use Rattle.ame_engine.specs.Core.{Core}
use Rattle.ame_protocol.specs.Event.Causes.{certificate_of, certificates_of, certificates_in}
use Rattle.ame_engine.specs.Certifying.{certified_by}
use Rattle.ame_engine.specs.Seen.{parts_of, term_shown}
use Rattle.ame_engine.specs.Stops.{blocked_by}
use Rattle.ame_engine.specs.Whole.{IsSound}
use Rattle.ame_engine.proofs.CrewLemmas.{none-told}
use Rattle.ame_machine.specs.Meaning.{Meaning}
use Rattle.ame_engine.proofs.SoundLemmas.{sound-next, good-pool}
use Rattle.ame_protocol.specs.Event.Event.{Event}
use Rattle.ame_engine.proofs.HaltLemmas.{makes-blocked_halt}

ne-eqb : (a b : ℕ) → (a ≡ b → ⊥) → (a == b) ≡ false
ne-eqb a b apart = by (a == b) refl
  where
    by : (c : Bool) → (a == b) ≡ c → c ≡ false
    by true is = absurd (apart (eqb-true a b is))
    by false is = refl

le-or-lt : (a b : ℕ) → (a ≤ b) ⊎ (b < a)
le-or-lt a b = by (nat_lt b a) refl
  where
    by : (c : Bool) → nat_lt b a ≡ c → (a ≤ b) ⊎ (b < a)
    by true is = inr (ltb-true b a is)
    by false is = inl (ltb-false b a is)

-- The numbers of the members

module _ {M : Type 0} where
  -- those below a number
  abbrev pub numbers-below : ℕ → List (Member M) → List ℕ
  numbers-below k [] = []
  numbers-below k (m ∷ ms) = cond (nat_lt m.number k) (m.number ∷ numbers-below k ms) (numbers-below k ms)

  none-below : (k : ℕ) (ms : List (Member M)) → All (λ m. k ≤ m.number) ms → numbers-below k ms ≡ []
  none-below k [] all = refl
  none-below k (m ∷ ms) all =
      let head : k ≤ m.number = All-head (λ (x : Member M). k ≤ x.number) m ms all in
      grind (arith, nat_tests, head, none-below k ms (All-tail (λ (x : Member M). k ≤ x.number) m ms all))

  weaker : (j k : ℕ) → k ≤ suc j → (ms : List (Member M)) → All (λ m. j < m.number) ms → All (λ m. k ≤ m.number) ms
  weaker j k le ms all = All-weaker (λ (x : Member M). j < x.number) (λ (x : Member M). k ≤ x.number) (λ m h. omega (arith, le, h)) ms all

  -- No member has the next number.
  pub below-none : (k : ℕ) (ms : List (Member M)) → find k ms ≡ None → numbers-below (k + 1) ms ≡ numbers-below k ms
  below-none k [] none = refl
  below-none k (m ∷ ms) none = by (m.number == k) refl none (λ rest. below-none k ms rest)
    where
      by : (b : Bool) → (m.number == k) ≡ b → cond b (Some m) (find k ms) ≡ None → (find k ms ≡ None → numbers-below (k + 1) ms ≡ numbers-below k ms)
          → numbers-below (k + 1) (m ∷ ms) ≡ numbers-below k (m ∷ ms)
      by true is e go = absurd (let clash : ◌≡◌ {A = Option (Member M)} (Some m) None = e in cc)
      by false is e go = let same = go e in let apart = eqb-false m.number k is in grind (arith, nat_tests, same, apart)

  -- or some member has it
  pub below-some : (k : ℕ) (ms : List (Member M)) → IsRising ms → (x : Member M) → find k ms ≡ Some x → numbers-below (k + 1) ms ≡ numbers-below k ms ++ k ∷ []
  below-some k [] rising x e = absurd (let clash : ◌≡◌ {A = Option (Member M)} None (Some x) = e in cc)
  below-some k (m ∷ ms) rising x e = by (m.number == k) refl e (λ rest. below-some k ms rising.1 x rest)
    where
      by : (b : Bool) → (m.number == k) ≡ b → cond b (Some m) (find k ms) ≡ Some x
          → (find k ms ≡ Some x → numbers-below (k + 1) ms ≡ numbers-below k ms ++ k ∷ [])
          → numbers-below (k + 1) (m ∷ ms) ≡ numbers-below k (m ∷ ms) ++ k ∷ []
      by true is e go =
          let same = eqb-true m.number k is in
          let none = none-below k ms (weaker m.number k (omega (arith, same)) ms rising.0) in
          let none' = none-below (k + 1) ms (weaker m.number (k + 1) (omega (arith, same)) ms rising.0) in
          grind (arith, nat_tests, same, none, none')
      by false is e go = let same = go e in let apart = eqb-false m.number k is in grind (arith, nat_tests, same, apart)

  -- All numbers are below a number that no member has, and after which there is none.
  found-first : (m : Member M) (ms : List (Member M)) (i : ℕ) → m.number ≡ i → find i (m ∷ ms) ≡ Some m
  found-first m ms i e = ap (λ (b : Bool). cond b (Some m) (find i ms)) (eq-eqb m.number i e)

  first-below : (k : ℕ) (m : Member M) (ms : List (Member M)) → ((i : ℕ) → k ≤ i → find i (m ∷ ms) ≡ None) → m.number < k
  first-below k m ms none = by (le-or-lt k m.number)
    where
      by : (k ≤ m.number) ⊎ (m.number < k) → m.number < k
      by (inl above) = absurd (let clash : ◌≡◌ {A = Option (Member M)} (Some m) None = sym (found-first m ms m.number refl) ∙ none m.number above in cc)
      by (inr below) = below

  others-none : (k : ℕ) (m : Member M) (ms : List (Member M)) → ((i : ℕ) → k ≤ i → find i (m ∷ ms) ≡ None) → (i : ℕ) → k ≤ i → find i ms ≡ None
  others-none k m ms none i above =
      let first = first-below k m ms none in
      sym (ap (λ (b : Bool). cond b (Some m) (find i ms)) (ne-eqb m.number i (λ e. omega (arith, above, e, first)))) ∙ none i above

  pub below-all : (k : ℕ) (ms : List (Member M)) → ((i : ℕ) → k ≤ i → find i ms ≡ None) → numbers-below k ms ≡ map (λ m. m.number) ms
  below-all k [] none = refl
  below-all k (m ∷ ms) none =
      let first = first-below k m ms none in
      let rest = below-all k ms (others-none k m ms none) in grind (arith, nat_tests, first, rest)

  -- and none is below 0
  pub below-zero : (ms : List (Member M)) → numbers-below 0 ms ≡ []
  below-zero [] = refl
  below-zero (m ∷ ms) = let rest = below-zero ms in grind (arith, nat_tests, rest)

module _ {M : Type 0} where
  -- The number joins if a member has it.
  pub number-joins : (k : ℕ) (ms : List (Member M)) → IsRising ms → is_some (option_map (λ m. m.inside) (find k ms)) ≡ true
      → numbers-below (k + 1) ms ≡ numbers-below k ms ++ k ∷ []
  number-joins k ms rising told = by (find k ms) refl told
    where
      by : (o : Option (Member M)) → find k ms ≡ o → is_some (option_map (λ m. m.inside) o) ≡ true → numbers-below (k + 1) ms ≡ numbers-below k ms ++ k ∷ []
      by None is h = absurd (let clash : false ≡ true = h in cc)
      by (Some x) is h = below-some k ms rising x is

  pub number-passes : (k : ℕ) (ms : List (Member M)) → is_some (option_map (λ m. m.inside) (find k ms)) ≡ false → numbers-below (k + 1) ms ≡ numbers-below k ms
  number-passes k ms told = by (find k ms) refl told
    where
      by : (o : Option (Member M)) → find k ms ≡ o → is_some (option_map (λ m. m.inside) o) ≡ false → numbers-below (k + 1) ms ≡ numbers-below k ms
      by None is h = below-none k ms is
      by (Some x) is h = absurd (let clash : true ≡ false = h in cc)

  shown-numbers : (term : M → Tree) (ms : List (Member M)) → map (λ m. m.number) (map (shown_member term) ms) ≡ map (λ m. m.number) ms
  shown-numbers term [] = refl
  shown-numbers term (m ∷ ms) = ap (λ (ns : List ℕ). m.number ∷ ns) (shown-numbers term ms)

-- The places of the last notes

or-none : (o : Option Entry) → or_else o None ≡ o
or-none None = refl
or-none (Some e) = refl

or-assoc : (a b c : Option Entry) → or_else (or_else a b) c ≡ or_else a (or_else b c)
or-assoc None b c = refl
or-assoc (Some a) b c = refl

-- that of a later journal comes first
pub last-append : (i : ℕ) (xs ys : List Entry) → last_stuck i (xs ++ ys) ≡ or_else (last_stuck i ys) (last_stuck i xs)
last-append i [] ys = sym (or-none (last_stuck i ys))
last-append i (x ∷ xs) ys =
    let mine : Option Entry = cond (is_stuck x.kind && (x.number == i)) (Some x) None in
    ap (λ (o : Option Entry). or_else o mine) (last-append i xs ys) ∙ or-assoc (last_stuck i ys) (last_stuck i xs) mine

module _ (entries : List Entry) (count : ℕ) where
  -- those so far
  pub record ArePlaces (i : ℕ) (places : List (Option ℕ)) : Type 0 where
    pub length_is : length places ≡ count
    pub told : (number : ℕ) → number < count → option_and_then (λ j. slice_get entries j) (get_or places number None) ≡ last_stuck number (take i entries)

  pub no-places : ArePlaces 0 (replicate count None)
  no-places = record {
    length_is = length-replicate count None;
    told = λ number below. ap (option_and_then (λ j. slice_get entries j)) (get_or-replicate count number None None below);
  }

  module _ (i : ℕ) (d : Entry) (within : i < length entries) where
    abbrev e : Entry
    e = get_or entries i d

    last-more : (number : ℕ) → last_stuck number (take (i + 1) entries) ≡ last_stuck number (take i entries ++ e ∷ [])
    last-more number = ap (last_stuck number) (take_more entries i d within)

    pub place-noted : (places : List (Option ℕ)) → is_stuck e.kind ≡ true → e.number < count → ArePlaces i places → ArePlaces (i + 1) (set places e.number (Some i))
    place-noted places stuck below are = record { length_is = length-set places e.number (Some i) ∙ are.length_is; told = told }
      where
        told : (number : ℕ) → number < count
            → option_and_then (λ j. slice_get entries j) (get_or (set places e.number (Some i)) number None) ≡ last_stuck number (take (i + 1) entries)
        told number small = by (which number e.number)
          where
            by : (number ≡ e.number) ⊎ ((number ≡ e.number) → ⊥)
                → option_and_then (λ j. slice_get entries j) (get_or (set places e.number (Some i)) number None) ≡ last_stuck number (take (i + 1) entries)
            by (inl same) =
                ap (option_and_then (λ j. slice_get entries j))
                (ap (λ (k : ℕ). get_or (set places e.number (Some i)) k None) same
                ∙ get_or-set_same places e.number (Some i) None (let len = are.length_is in omega (arith, len, below)))
                ∙ slice_get-get_or entries i d within
                ∙ sym (last-more number ∙ last-here number e (take i entries)
                (ap (λ (b : Bool). b && (e.number == number)) stuck ∙ eq-eqb e.number number (sym same)))
            by (inr apart) =
                ap (option_and_then (λ j. slice_get entries j)) (get_or-set_other places e.number number (Some i) None apart) ∙ are.told number small
                ∙ sym (last-more number ∙ last-same number e (take i entries)
                (ap (λ (b : Bool). b && (e.number == number)) stuck ∙ ne-eqb e.number number (λ same. apart (sym same))))

    pub place-passed : (places : List (Option ℕ)) → (is_stuck e.kind ≡ true → e.number < count → ⊥) → ArePlaces i places → ArePlaces (i + 1) places
    place-passed places other are = record { length_is = are.length_is; told = told }
      where
        told : (number : ℕ) → number < count → option_and_then (λ j. slice_get entries j) (get_or places number None) ≡ last_stuck number (take (i + 1) entries)
        told number small =
            are.told number small ∙ sym (last-more number ∙ last-same number e (take i entries) (by (is_stuck e.kind) (e.number == number) refl refl))
          where
            by : (b c : Bool) → is_stuck e.kind ≡ b → (e.number == number) ≡ c → (b && c) ≡ false
            by true true is same =
                absurd (other is (let one = eqb-true e.number number same in omega (arith, one, small)))
            by true false is same = refl
            by false c is same = refl

    pub places-more : (places new : List (Option ℕ))
        → new ≡ (if is_stuck e.kind && nat_lt e.number (length places) then set places e.number (Some i) else places)
        → ArePlaces i places → ArePlaces (i + 1) new
    places-more places new is are = by (is_stuck e.kind) (nat_lt e.number (length places)) refl refl is
      where
        by : (b c : Bool) → is_stuck e.kind ≡ b → nat_lt e.number (length places) ≡ c
            → new ≡ (if b && c then set places e.number (Some i) else places) → ArePlaces (i + 1) new
        by true true stuck small becomes =
            let len = are.length_is in let less = ltb-true e.number (length places) small in
            subst (ArePlaces (i + 1)) (sym becomes) (place-noted places stuck (omega (arith, len, less)) are)
        by true false stuck small becomes =
            let len = are.length_is in let most = ltb-false e.number (length places) small in
            subst (ArePlaces (i + 1)) (sym becomes) (place-passed places (λ _ less. omega (arith, len, most, less)) are)
        by false c stuck small becomes =
            subst (ArePlaces (i + 1)) (sym becomes)
            (place-passed places (λ is_note _. let clash : false ≡ true = sym stuck ∙ is_note in cc) are)

  pub places-next : (i : ℕ) (x : Entry) → i < length entries → x ≡ get_or entries i x → (places new : List (Option ℕ))
      → new ≡ (if is_stuck x.kind && nat_lt x.number (length places) then set places x.number (Some i) else places)
      → ArePlaces i places → ArePlaces (i + 1) new
  places-next i x within is places new becomes are =
      places-more i x within places new
      (subst (λ (y : Entry). new ≡ (if is_stuck y.kind && nat_lt y.number (length places) then set places y.number (Some i) else places)) is becomes) are

  pub places-end : (i : ℕ) (places : List (Option ℕ)) → length entries ≤ i → ArePlaces i places
      → (number : ℕ) → number < count → option_and_then (λ j. slice_get entries j) (get_or places number None) ≡ last_stuck number entries
  places-end i places over are number small = are.told number small ∙ ap (last_stuck number) (take_all i entries over)

-- Certificates, one after another

pub certificates-push : (journal : List Entry) (ns : List ℕ) (n : ℕ)
    → certificates_of journal (ns ++ n ∷ []) ≡ certificates_of journal ns ++ certificates_of journal (n ∷ [])
certificates-push journal [] n = refl
certificates-push journal (k ∷ ns) n = by (last_stuck k journal) (certificates-push journal ns n)
  where
    by : (o : Option Entry) → certificates_of journal (ns ++ n ∷ []) ≡ certificates_of journal ns ++ certificates_of journal (n ∷ [])
        → (elim o as (λ _. List Certificate) [ None ↦ certificates_of journal (ns ++ n ∷ []) | Some note ↦ certificate_of k note ∷ certificates_of journal (ns ++ n ∷ []) ])
        ≡ (elim o as (λ _. List Certificate) [ None ↦ certificates_of journal ns | Some note ↦ certificate_of k note ∷ certificates_of journal ns ])
        ++ certificates_of journal (n ∷ [])
    by None rest = rest
    by (Some note) rest = ap (λ (cs : List Certificate). certificate_of k note ∷ cs) rest

one-certificate : (journal : List Entry) (n : ℕ) → certificates_of journal (n ∷ []) ≡ certified_by n (last_stuck n journal)
one-certificate journal n = by (last_stuck n journal)
  where
    by : (o : Option Entry) → (elim o as (λ _. List Certificate) [ None ↦ [] | Some note ↦ certificate_of n note ∷ [] ]) ≡ certified_by n o
    by None = refl
    by (Some note) = refl

module _ (journal : List Entry) (ns : List ℕ) (i d : ℕ) (below : i < length ns) (certificates : List Certificate)
    (so_far : certificates ≡ certificates_of journal (take i ns)) where
  next-certificates : certificates_of journal (take (i + 1) ns) ≡ certificates ++ certificates_of journal (get_or ns i d ∷ [])
  next-certificates =
      ap (certificates_of journal) (take_more ns i d below) ∙ certificates-push journal (take i ns) (get_or ns i d)
      ∙ ap (λ (cs : List Certificate). cs ++ certificates_of journal (get_or ns i d ∷ [])) (sym so_far)

  -- its number has a note, or has none
  pub certificates-more : (found : Option Entry) → found ≡ last_stuck (get_or ns i d) journal → (new : List Certificate)
      → new ≡ certificates ++ certified_by (get_or ns i d) found → new ≡ certificates_of journal (take (i + 1) ns)
  certificates-more found e new pushes =
      pushes ∙ ap (λ (o : Option Entry). certificates ++ certified_by (get_or ns i d) o) e
      ∙ sym (next-certificates ∙ ap (λ (cs : List Certificate). certificates ++ cs) (one-certificate journal (get_or ns i d)))

-- The whole engine

module _ {C V M : Type 0} (meaning : Meaning C V M) (core now : Core C V M) (view : core ≡ now)
    (whole : IsSound meaning core) where
  abbrev parts : Parts
  parts = parts_of meaning core

  -- all numbers are below the next one
  pub numbers-all : numbers-below core.next core.pool.members ≡ map (λ m. m.number) core.pool.members
  numbers-all =
      below-all core.next core.pool.members
      (λ i above. none-told (term_shown meaning.stage core.code) i core.pool (next-free parts whole.state.stands i above))

  pub numbers-end : (k : ℕ) → core.next ≤ k → k ≤ core.next → (ns : List ℕ) → ns ≡ numbers-below k now.pool.members → ns ≡ map (λ m. m.number) now.pool.members
  numbers-end k most least ns so_far =
      let same : k ≡ core.next = omega (arith, most, least) in
      subst (λ (x : Core C V M). ns ≡ numbers-below k x.pool.members → ns ≡ map (λ m. m.number) x.pool.members) view
      (λ so. so ∙ ap (λ (n : ℕ). numbers-below n core.pool.members) same ∙ numbers-all) so_far

  -- The next number, by whether a member has it.
  module _ (k : ℕ) (o : Option Bool) (told : o ≡ inside_of k core.pool) (b : Bool) (b_is : b ≡ is_some o) (ns : List ℕ) (so_far : ns ≡ numbers-below k now.pool.members) where
    pub numbers-joined : b ≡ true → (new : List ℕ) → new ≡ ns ++ k ∷ [] → new ≡ numbers-below (k + 1) now.pool.members
    numbers-joined is-there new pushes =
        subst (λ (x : Core C V M). ns ≡ numbers-below k x.pool.members → new ≡ numbers-below (k + 1) x.pool.members) view
        (λ so. pushes ∙ ap (λ (xs : List ℕ). xs ++ k ∷ []) so
        ∙ sym (number-joins k core.pool.members (good-pool meaning core whole).rising (sym (b_is ∙ ap (λ (x : Option Bool). is_some x) told) ∙ is-there))) so_far

    pub numbers-passed : b ≡ false → (new : List ℕ) → new ≡ ns → new ≡ numbers-below (k + 1) now.pool.members
    numbers-passed is-none new same =
        subst (λ (x : Core C V M). ns ≡ numbers-below k x.pool.members → new ≡ numbers-below (k + 1) x.pool.members) view
        (λ so. same ∙ so ∙ sym (number-passes k core.pool.members (sym (b_is ∙ ap (λ (x : Option Bool). is_some x) told) ∙ is-none))) so_far

  -- the certificates are the notes of all members
  module _ (ns : List ℕ) (ns_are : ns ≡ map (λ m. m.number) now.pool.members) (base entries : List Entry) (base_is : base ≡ core.base)
      (entries_are : entries ≡ core.entries) (certificates : List Certificate) (are : certificates ≡ certificates_of (base ++ entries) ns)
      (going : now.stop ≡ None) (parked : oldest now.pool ≡ Oldest.Parked) where
    ns-are : ns ≡ map (λ (m : Member Tree). m.number) parts.pool.members
    ns-are =
        subst (λ (x : Core C V M). ns ≡ map (λ m. m.number) x.pool.members) (sym view) ns_are
        ∙ sym (shown-numbers (term_shown meaning.stage core.code) core.pool.members)

    pub certificates-in : certificates ≡ certificates_in parts
    certificates-in =
        are ∙ ap (λ (xs : List Entry). certificates_of (xs ++ entries) ns) base_is ∙ ap (λ (xs : List Entry). certificates_of (core.base ++ xs) ns) entries_are
        ∙ ap (certificates_of (core.base ++ core.entries)) ns-are

    abbrev after : Core C V M
    after = record core { stop = Some Stop.Blocked; certificates = certificates }

    pub makes-blocked : after ≡ blocked_by (certificates_in (parts_of meaning now)) now
    makes-blocked =
        ap (λ (cs : List Certificate). blocked_by cs core) certificates-in
        ∙ ap (λ (x : Core C V M). blocked_by (certificates_in (parts_of meaning x)) x) view

    pub whole-blocked : IsSound meaning after
    whole-blocked =
        sound-next meaning core now after view whole (Event.Halt Stop.Blocked)
        (makes-blocked_halt meaning now after going (makes-blocked) parked) whole.memory whole.members whole.text
