-- The starters of fragments, one entry after another.
use Rattle.std.proofs.Common.{◌≡◌, ◌⊎◌, inl, inr, ℕ, ◌+◌, ◌-◌, ◌<◌, ◌≤◌, ◌==◌, Bool, true, false, List, [], ◌∷◌, ◌++◌, length, get_or, take, drop, replicate, Option, Some, None}
use Rattle.std.proofs.Common.{option_and_then, if◌then◌else◌, refl, sym, ap, ◌∙◌, subst, arith}
use Rattle.std.specs.Prelude.{slice_get}
use Rattle.std.proofs.lemmas.Bool.{lt-ltb, le-ltb, eqb-false, cases_lt}
use Rattle.std.proofs.lemmas.List.{drop_more, drop_all, take_more, length-append, length-replicate, get_or_append_left, get_or-append-add, get_or-replicate}
use Rattle.std.proofs.lemmas.Option.{slice_get_past, slice_get-get_or}
use Rattle.ame_journal.specs.declared.entry.Entry.{Entry}
use Rattle.ame_journal.specs.Replayed.{Replayed, begun_at}
use Rattle.ame_journal.specs.Replay.{replay, replay_entry}
use Rattle.ame_journal.proofs.ReplayLemmas.{replay_from-one}
use Rattle.ame_machine.specs.Meaning.{Meaning}
use Rattle.ame_check.specs.Shows.{ReplayView, StandsForEntries}
use Rattle.ame_views.specs.Starters.{started_by, starter_from, starter_of, starter_in, with_starter}

-- an entry that leads to a state with the task, and one that doesn't
starts-here : (n : ℕ) (r t : Replayed) (fragment : ℕ) (entry : Entry) (entries : List Entry) → replay_entry r entry ≡ Some t → fragment < t.state.next →
    starter_from n r fragment (entry ∷ entries) ≡ Some n
unfolding starter_from
starts-here n r t fragment entry entries made below =
    let later : Replayed → Option ℕ = λ u. starter_from (n + 1) u fragment entries in
    ap (λ o. started_by later n fragment o) made
    ∙ ap (λ b. if b then Some n else later t) (lt-ltb fragment t.state.next below)

starts-later : (n : ℕ) (r t : Replayed) (fragment : ℕ) (entry : Entry) (entries : List Entry) → replay_entry r entry ≡ Some t → t.state.next ≤ fragment →
    starter_from n r fragment (entry ∷ entries) ≡ starter_from (n + 1) t fragment entries
unfolding starter_from
starts-later n r t fragment entry entries made above =
    let later : Replayed → Option ℕ = λ u. starter_from (n + 1) u fragment entries in
    ap (λ o. started_by later n fragment o) made
    ∙ ap (λ b. if b then Some n else later t) (le-ltb fragment t.state.next above)

starts-none : (n : ℕ) (r : Replayed) (fragment : ℕ) → starter_from n r fragment [] ≡ None
unfolding starter_from
starts-none n r fragment = refl

-- how many are known then
pub length-with : (n next : ℕ) (starters : List ℕ) → length (with_starter n next starters) ≡ length starters + (next - (length starters + 1))
length-with n next starters =
    length-append starters (replicate (next - (length starters + 1)) n)
    ∙ ap (λ k. length starters + k) (length-replicate (next - (length starters + 1)) n)

-- those that were known stay, and the others are by entry n
known-stays : (n next : ℕ) (starters : List ℕ) (k : ℕ) → k < length starters → slice_get (with_starter n next starters) k ≡ slice_get starters k
known-stays n next starters k below =
    let longer = length-with n next starters in
    let within : k < length (with_starter n next starters) = omega (arith, longer, below) in
    slice_get-get_or (with_starter n next starters) k 0 within
    ∙ ap Some (get_or_append_left starters (replicate (next - (length starters + 1)) n) 0 k below)
    ∙ sym (slice_get-get_or starters k 0 below)

new-at : (n next : ℕ) (starters : List ℕ) (more : ℕ) → more < next - (length starters + 1) →
    slice_get (with_starter n next starters) (length starters + more) ≡ Some n
new-at n next starters more below =
    let longer = length-with n next starters in
    let within : length starters + more < length (with_starter n next starters) = omega (arith, longer, below) in
    slice_get-get_or (with_starter n next starters) (length starters + more) 0 within
    ∙ ap Some (get_or-append-add starters (replicate (next - (length starters + 1)) n) more 0 ∙ get_or-replicate (next - (length starters + 1)) more n 0 below)

new-is : (n next : ℕ) (starters : List ℕ) (k : ℕ) → length starters ≤ k → k < length (with_starter n next starters) →
    slice_get (with_starter n next starters) k ≡ Some n
new-is n next starters k above within =
    let longer = length-with n next starters in
    let place : k ≡ length starters + (k - length starters) = omega (arith, above) in
    let below : k - length starters < next - (length starters + 1) = omega (arith, longer, above, within) in
    ap (λ i. slice_get (with_starter n next starters) i) place ∙ new-at n next starters (k - length starters) below

module _ {C V M : Type 0} (meaning : Meaning C V M) (code : C) (entries : List Entry) where
  -- the starter of fragment k + 1
  abbrev starter : ℕ → Option ℕ
  starter k = starter_from 1 (begun_at (meaning.program code)) (k + 1) entries

  -- a number of entries were made on machines, and these are the starters of tasks so far; those of others are to come
  pub record Starting (index : ℕ) (starters : List ℕ) (place : ReplayView V M) : Type 0 where
    pub stands : StandsForEntries meaning code (take index entries) place
    pub known : (k : ℕ) → k < length starters → starter k ≡ slice_get starters k
    pub later : (r : Replayed) → replay (meaning.program code) (take index entries) ≡ Some r → (k : ℕ) → length starters ≤ k →
        starter k ≡ starter_from (index + 1) r (k + 1) (drop index entries)

  pub starting-begins : (starters : List ℕ) (place : ReplayView V M) → starters ≡ [] → StandsForEntries meaning code [] place → Starting 0 starters place
  starting-begins starters place none stands = record {
    stands = stands;
    known = λ k below. absurd (let empty = ap length none in omega (arith, empty));
    later = λ r e k above. let same : begun_at (meaning.program code) ≡ r = cc in ap (λ u. starter_from 1 u (k + 1) entries) same;
  }

  -- the entry with this index leads from one state to the next
  leads-on : (before : List Entry) (entry : Entry) (place later : ReplayView V M) (s : StandsForEntries meaning code before place)
      (t : StandsForEntries meaning code (before ++ entry ∷ []) later) → replay_entry s.led entry ≡ Some t.led
  leads-on before entry place later s t =
      sym (ap (λ o. option_and_then (λ r. replay_entry r entry) o) s.replayed)
      ∙ sym (replay_from-one (begun_at (meaning.program code)) before entry) ∙ t.replayed

  -- the starter of a task, after that entry
  known-then : (n next : ℕ) (starters new : List ℕ) (r t : Replayed) (entry : Entry) (rest : List Entry) → replay_entry r entry ≡ Some t →
      next ≡ t.state.next → new ≡ with_starter n next starters → (k : ℕ) → k < length new →
      (k < length starters → starter k ≡ slice_get starters k) → (length starters ≤ k → starter k ≡ starter_from n r (k + 1) (entry ∷ rest)) →
      (k < length starters) ⊎ (length starters ≤ k) → starter k ≡ slice_get new k
  known-then n next starters new r t entry rest made is added k inside known later (inl old) =
      known old ∙ sym (known-stays n next starters k old) ∙ sym (ap (λ xs. slice_get xs k) added)
  known-then n next starters new r t entry rest made is added k inside known later (inr above) =
      let long = ap length added ∙ length-with n next starters in
      let reached : k + 1 < t.state.next = omega (arith, long, is, inside, above) in
      let within : k < length (with_starter n next starters) = subst (λ (xs : List ℕ). k < length xs) added inside in
      later above ∙ starts-here n r t (k + 1) entry rest made reached ∙ sym (new-is n next starters k above within) ∙ sym (ap (λ xs. slice_get xs k) added)

  later-then : (n next : ℕ) (starters new : List ℕ) (r t : Replayed) (entry : Entry) (rest : List Entry) → replay_entry r entry ≡ Some t →
      next ≡ t.state.next → new ≡ with_starter n next starters → (k : ℕ) → length new ≤ k →
      (length starters ≤ k → starter k ≡ starter_from n r (k + 1) (entry ∷ rest)) → starter k ≡ starter_from (n + 1) t (k + 1) rest
  later-then n next starters new r t entry rest made is added k past later =
      let long = ap length added ∙ length-with n next starters in
      let above : length starters ≤ k = omega (arith, long, past) in
      let over : t.state.next ≤ k + 1 = omega (arith, long, is, past) in
      later above ∙ starts-later n r t (k + 1) entry rest made over

  pub starting-goes-on : (index : ℕ) → index < length entries → (entry : Entry) → entry ≡ get_or entries index entry → (starters : List ℕ)
      (place later : ReplayView V M) → Starting index starters place → StandsForEntries meaning code (take index entries ++ entry ∷ []) later →
      (new : List ℕ) → new ≡ with_starter (index + 1) later.next starters → Starting (index + 1) new later
  starting-goes-on index below entry is starters place later before t new added =
      let s = before.stands in
      let more : take (index + 1) entries ≡ take index entries ++ entry ∷ [] =
      take_more entries index entry below ∙ ap (λ (z : Entry). take index entries ++ z ∷ []) (sym is) in
      let rest : drop index entries ≡ entry ∷ drop (index + 1) entries =
      drop_more entries index entry below ∙ ap (λ (z : Entry). z ∷ drop (index + 1) entries) (sym is) in
      let made : replay_entry s.led entry ≡ Some t.led = leads-on (take index entries) entry place later s t in
      let from-here : (k : ℕ) → length starters ≤ k → starter k ≡ starter_from (index + 1) s.led (k + 1) (entry ∷ drop (index + 1) entries) =
      λ k above. before.later s.led s.replayed k above ∙ ap (λ es. starter_from (index + 1) s.led (k + 1) es) rest in
      record {
        stands = subst (λ (es : List Entry). StandsForEntries meaning code es later) (sym more) t;
        known = λ k inside.
            known-then (index + 1) later.next starters new s.led t.led entry (drop (index + 1) entries) made t.shows.next added k inside (before.known k)
            (from-here k) (cases_lt k (length starters));
        later = λ r e k past.
            let again : replay (meaning.program code) (take index entries ++ entry ∷ []) ≡ Some r = sym (ap (replay (meaning.program code)) more) ∙ e in
            let first : replay (meaning.program code) (take index entries ++ entry ∷ []) ≡ Some t.led = t.replayed in
            let same : t.led ≡ r = cc in
            later-then (index + 1) later.next starters new s.led t.led entry (drop (index + 1) entries) made t.shows.next added k past (from-here k)
            ∙ ap (λ u. starter_from (index + 1 + 1) u (k + 1) (drop (index + 1) entries)) same;
      }

  -- after all entries
  starter-is : (index : ℕ) (starters : List ℕ) (place : ReplayView V M) → length entries ≤ index → Starting index starters place → (k : ℕ) →
      (k < length starters) ⊎ (length starters ≤ k) → slice_get starters k ≡ starter k
  starter-is index starters place over all k (inl below) = sym (all.known k below)
  starter-is index starters place over all k (inr above) =
      slice_get_past starters k above
      ∙ sym (all.later all.stands.led all.stands.replayed k above
      ∙ ap (λ es. starter_from (index + 1) all.stands.led (k + 1) es) (drop_all index entries over) ∙ starts-none (index + 1) all.stands.led (k + 1))

  told-by : (starters : List ℕ) (fragment : ℕ) → ((k : ℕ) → slice_get starters k ≡ starter k) → (is_program : Bool) → (fragment == 0) ≡ is_program →
      (if is_program then None else slice_get starters (fragment - 1))
      ≡ (if is_program then None else starter_from 1 (begun_at (meaning.program code)) fragment entries)
  told-by starters fragment is true e = refl
  told-by starters fragment is false e =
      let some : fragment ≡ 0 → ⊥ = eqb-false fragment 0 e in
      let same : fragment - 1 + 1 ≡ fragment = omega (arith, some) in
      is (fragment - 1) ∙ ap (λ f. starter_from 1 (begun_at (meaning.program code)) f entries) same

  pub starting-ends : (index : ℕ) (starters : List ℕ) (place : ReplayView V M) → length entries ≤ index → Starting index starters place →
      (fragment : ℕ) → starter_in starters fragment ≡ starter_of (meaning.program code) entries fragment
  starting-ends index starters place over all fragment =
      told-by starters fragment (λ k. starter-is index starters place over all k (cases_lt k (length starters))) (fragment == 0) refl
