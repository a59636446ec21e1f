-- Between two notes of one member some member commits.
use Rattle.std.proofs.Common.{◌≡◌, ℕ, ◌+◌, ◌≤◌, ◌⊎◌, inl, inr, true, false, List, [], ◌∷◌, ◌++◌, length, Option, Some, None, is_some, IsSome, slice_get, length-append, sym, ap, ◌∙◌, subst, arith}
use Rattle.std.proofs.lemmas.Option.{slice_get_within}
use Rattle.ame_term.specs.Tree.{Tree}
use Rattle.ame_journal.specs.declared.entry.Entry.{Entry}
use Rattle.ame_journal.specs.declared.entry.EntryKind.{EntryKind}
use Rattle.ame_pool.specs.Members.{find}
use Rattle.ame_pool.specs.Roster.{Roster}
use Rattle.ame_rows.proofs.LookupLemmas.{get_push_here, get_push_else}
use Rattle.ame_protocol.proofs.Row.CellLemmas.{which}
use Rattle.ame_protocol.specs.Engine.Parts.{Parts, whole_journal}
use Rattle.ame_protocol.specs.Waits.Waiting.{watched_by}
use Rattle.ame_protocol.specs.Waits.Once.{HasEntryAt, HasRanBetween, IsNotedOnce, AreNotedOnce}
use Rattle.ame_protocol.proofs.Waits.WatchLemmas.{watched-of}

-- One more entry

module _ (journal : List Entry) (e : Entry) where
  abbrev longer : List Entry
  longer = journal ++ e ∷ []

  at-older : (kind : EntryKind) (place : ℕ) (x : Entry) → HasEntryAt journal kind place x → HasEntryAt longer kind place x
  at-older kind place x h =
      let within = slice_get_within journal place x h.there in
      record { there = get_push_else journal e place (λ same. absurd (omega arith)) ∙ h.there; its = h.its }

  -- an entry stood there, or it is the new one
  at-longer : (kind : EntryKind) (place : ℕ) (x : Entry) → HasEntryAt longer kind place x
      → HasEntryAt journal kind place x ⊎ ((place ≡ length journal) × (e ≡ x))
  at-longer kind place x h = by (which place (length journal))
    where
      by : (place ≡ length journal) ⊎ ((place ≡ length journal) → ⊥) → HasEntryAt journal kind place x ⊎ ((place ≡ length journal) × (e ≡ x))
      by (inl same) =
          let both : ◌≡◌ {A = Option Entry} (Some e) (Some x) = sym (ap (slice_get longer) same ∙ get_push_here journal e) ∙ h.there in
          inr (same, cc)
      by (inr apart) = inl (record { there = sym (get_push_else journal e place apart) ∙ h.there; its = h.its })

  between-older : (first later further : ℕ) → later ≤ further → HasRanBetween journal first later → HasRanBetween longer first further
  between-older first later further more h =
      let b = h.before in
      record { place = h.place; behind = h.behind; before = omega arith; entry = h.entry; ran = at-older EntryKind.Ran h.place h.entry h.ran }

some-clash : (o : Option (List ℕ)) → o ≡ None → IsSome o → ⊥
some-clash o none some = let clash : false ≡ true = sym (ap is_some none) ∙ some in cc

-- The journal stays, and who waited waits on

pub once-on : (old new : Parts) → whole_journal new ≡ whole_journal old → ((i : ℕ) → IsSome (watched_by i old.pool) → IsSome (watched_by i new.pool))
    → AreNotedOnce old → AreNotedOnce new
once-on old new same keeps a = record {
  recent =
      λ place note h. by place note (a.recent place note (subst (λ (j : List Entry). HasEntryAt j EntryKind.Stuck place note) same h));
  once = subst IsNotedOnce (sym same) a.once;
}
  where
    by : (place : ℕ) (note : Entry) → HasRanBetween (whole_journal old) place (length (whole_journal old)) ⊎ IsSome (watched_by note.number old.pool)
        → HasRanBetween (whole_journal new) place (length (whole_journal new)) ⊎ IsSome (watched_by note.number new.pool)
    by place note (inl b) = inl (subst (λ (j : List Entry). HasRanBetween j place (length j)) (sym same) b)
    by place note (inr some) = inr (keeps note.number some)

-- a member is altered that doesn't wait
pub altered-keeps : (number : ℕ) (old new : Roster Tree) → watched_by number old ≡ None → ((k : ℕ) → (k ≡ number → ⊥) → find k new.members ≡ find k old.members)
    → (i : ℕ) → IsSome (watched_by i old) → IsSome (watched_by i new)
altered-keeps number old new none others i some = by (which i number)
  where
    by : (i ≡ number) ⊎ ((i ≡ number) → ⊥) → IsSome (watched_by i new)
    by (inl same) = absurd (some-clash (watched_by i old) (ap (λ (k : ℕ). watched_by k old) same ∙ none) some)
    by (inr apart) = subst IsSome (sym (ap watched-of (others i apart))) some

-- An entry of a commit

longer-length : (journal : List Entry) (e : Entry) → length (journal ++ e ∷ []) ≡ length journal + 1
longer-length journal e = length-append journal (e ∷ [])

pub once-ran : (old new : Parts) (e : Entry) → whole_journal new ≡ whole_journal old ++ e ∷ [] → e.kind ≡ EntryKind.Ran → AreNotedOnce old → AreNotedOnce new
once-ran old new e journal kind a = record {
  recent =
      λ place note h.
      inl (subst (λ (j : List Entry). HasRanBetween j place (length j)) (sym journal)
      (recent place note (subst (λ (j : List Entry). HasEntryAt j EntryKind.Stuck place note) journal h)));
  once = subst IsNotedOnce (sym journal) once;
}
  where
    not-stuck : (x : Entry) → e ≡ x → x.kind ≡ EntryKind.Stuck → ⊥
    not-stuck x same stuck = let clash : EntryKind.Ran ≡ EntryKind.Stuck = sym kind ∙ ap (λ (y : Entry). y.kind) same ∙ stuck in cc

    recent : (place : ℕ) (note : Entry) → HasEntryAt (whole_journal old ++ e ∷ []) EntryKind.Stuck place note
        → HasRanBetween (whole_journal old ++ e ∷ []) place (length (whole_journal old ++ e ∷ []))
    recent place note h = by (at-longer (whole_journal old) e EntryKind.Stuck place note h)
      where
        by : HasEntryAt (whole_journal old) EntryKind.Stuck place note ⊎ ((place ≡ length (whole_journal old)) × (e ≡ note))
            → HasRanBetween (whole_journal old ++ e ∷ []) place (length (whole_journal old ++ e ∷ []))
        by (inl was) = record {
          place = length (whole_journal old);
          behind = slice_get_within (whole_journal old) place note was.there;
          before = let l = longer-length (whole_journal old) e in omega arith;
          entry = e;
          ran = record { there = get_push_here (whole_journal old) e; its = kind };
        }
        by (inr x) = absurd (not-stuck note x.1 h.its)

    once : IsNotedOnce (whole_journal old ++ e ∷ [])
    once first later note next below h k same =
        by (at-longer (whole_journal old) e EntryKind.Stuck first note h) (at-longer (whole_journal old) e EntryKind.Stuck later next k)
      where
        by : HasEntryAt (whole_journal old) EntryKind.Stuck first note ⊎ ((first ≡ length (whole_journal old)) × (e ≡ note))
            → HasEntryAt (whole_journal old) EntryKind.Stuck later next ⊎ ((later ≡ length (whole_journal old)) × (e ≡ next))
            → HasRanBetween (whole_journal old ++ e ∷ []) first later
        by (inl x) (inl y) = between-older (whole_journal old) e first later later (omega arith) (a.once first later note next below x y same)
        by (inr x) y = absurd (not-stuck note x.1 h.its)
        by (inl x) (inr y) = absurd (not-stuck next y.1 k.its)

-- An entry of another kind

pub once-other : (old new : Parts) (e : Entry) → whole_journal new ≡ whole_journal old ++ e ∷ [] → (e.kind ≡ EntryKind.Stuck → ⊥)
    → ((i : ℕ) → IsSome (watched_by i old.pool) → IsSome (watched_by i new.pool)) → AreNotedOnce old → AreNotedOnce new
once-other old new e journal kind keeps a = record {
  recent =
      λ place note h.
      subst (λ (j : List Entry). HasRanBetween j place (length j) ⊎ IsSome (watched_by note.number new.pool)) (sym journal)
      (recent place note (subst (λ (j : List Entry). HasEntryAt j EntryKind.Stuck place note) journal h));
  once = subst IsNotedOnce (sym journal) once;
}
  where
    older : (place : ℕ) (note : Entry) → HasEntryAt (whole_journal old ++ e ∷ []) EntryKind.Stuck place note
        → HasEntryAt (whole_journal old) EntryKind.Stuck place note
    older place note h = by (at-longer (whole_journal old) e EntryKind.Stuck place note h)
      where
        by : HasEntryAt (whole_journal old) EntryKind.Stuck place note ⊎ ((place ≡ length (whole_journal old)) × (e ≡ note))
            → HasEntryAt (whole_journal old) EntryKind.Stuck place note
        by (inl was) = was
        by (inr x) = absurd (kind (ap (λ (y : Entry). y.kind) x.1 ∙ h.its))

    recent : (place : ℕ) (note : Entry) → HasEntryAt (whole_journal old ++ e ∷ []) EntryKind.Stuck place note
        → HasRanBetween (whole_journal old ++ e ∷ []) place (length (whole_journal old ++ e ∷ [])) ⊎ IsSome (watched_by note.number new.pool)
    recent place note h = by (a.recent place note (older place note h))
      where
        by : HasRanBetween (whole_journal old) place (length (whole_journal old)) ⊎ IsSome (watched_by note.number old.pool)
            → HasRanBetween (whole_journal old ++ e ∷ []) place (length (whole_journal old ++ e ∷ [])) ⊎ IsSome (watched_by note.number new.pool)
        by (inl b) =
            inl (between-older (whole_journal old) e place (length (whole_journal old)) (length (whole_journal old ++ e ∷ []))
            (let l = longer-length (whole_journal old) e in omega arith) b)
        by (inr some) = inr (keeps note.number some)

    once : IsNotedOnce (whole_journal old ++ e ∷ [])
    once first later note next below h k same =
        between-older (whole_journal old) e first later later (omega arith) (a.once first later note next below (older first note h) (older later next k) same)

-- A note of a member that didn't wait, and waits now

pub once-noted : (old new : Parts) (e : Entry) → whole_journal new ≡ whole_journal old ++ e ∷ [] → watched_by e.number old.pool ≡ None
    → IsSome (watched_by e.number new.pool)
    → ((k : ℕ) → (k ≡ e.number → ⊥) → find k new.pool.members ≡ find k old.pool.members) → AreNotedOnce old → AreNotedOnce new
once-noted old new e journal none some others a = record {
  recent =
      λ place note h.
      subst (λ (j : List Entry). HasRanBetween j place (length j) ⊎ IsSome (watched_by note.number new.pool)) (sym journal)
      (recent place note (at-longer (whole_journal old) e EntryKind.Stuck place note
      (subst (λ (j : List Entry). HasEntryAt j EntryKind.Stuck place note) journal h)));
  once = subst IsNotedOnce (sym journal) once;
}
  where
    recent : (place : ℕ) (note : Entry) → HasEntryAt (whole_journal old) EntryKind.Stuck place note ⊎ ((place ≡ length (whole_journal old)) × (e ≡ note))
        → HasRanBetween (whole_journal old ++ e ∷ []) place (length (whole_journal old ++ e ∷ [])) ⊎ IsSome (watched_by note.number new.pool)
    recent place note (inl was) = by (a.recent place note was)
      where
        by : HasRanBetween (whole_journal old) place (length (whole_journal old)) ⊎ IsSome (watched_by note.number old.pool)
            → HasRanBetween (whole_journal old ++ e ∷ []) place (length (whole_journal old ++ e ∷ [])) ⊎ IsSome (watched_by note.number new.pool)
        by (inl b) =
            inl (between-older (whole_journal old) e place (length (whole_journal old)) (length (whole_journal old ++ e ∷ []))
            (let l = longer-length (whole_journal old) e in omega arith) b)
        by (inr w) = inr (altered-keeps e.number old.pool new.pool none others note.number w)
    recent place note (inr x) = inr (subst (λ (y : Entry). IsSome (watched_by y.number new.pool)) x.1 some)

    once : IsNotedOnce (whole_journal old ++ e ∷ [])
    once first later note next below h k same =
        by (at-longer (whole_journal old) e EntryKind.Stuck first note h) (at-longer (whole_journal old) e EntryKind.Stuck later next k)
      where
        behind : HasEntryAt (whole_journal old) EntryKind.Stuck first note → later ≡ length (whole_journal old) → e ≡ next
            → HasRanBetween (whole_journal old) first (length (whole_journal old)) ⊎ IsSome (watched_by note.number old.pool)
            → HasRanBetween (whole_journal old ++ e ∷ []) first later
        behind x at its (inl b) = between-older (whole_journal old) e first (length (whole_journal old)) later (omega arith) b
        behind x at its (inr w) =
            let number : note.number ≡ e.number = same ∙ ap (λ (y : Entry). y.number) (sym its) in
            absurd (some-clash (watched_by note.number old.pool) (ap (λ (i : ℕ). watched_by i old.pool) number ∙ none) w)

        by : HasEntryAt (whole_journal old) EntryKind.Stuck first note ⊎ ((first ≡ length (whole_journal old)) × (e ≡ note))
            → HasEntryAt (whole_journal old) EntryKind.Stuck later next ⊎ ((later ≡ length (whole_journal old)) × (e ≡ next))
            → HasRanBetween (whole_journal old ++ e ∷ []) first later
        by (inl x) (inl y) = between-older (whole_journal old) e first later later (omega arith) (a.once first later note next below x y same)
        by (inl x) (inr y) = behind x y.0 y.1 (a.recent first note x)
        by (inr x) (inl y) = absurd (let within = slice_get_within (whole_journal old) later next y.there in let at = x.0 in omega arith)
        by (inr x) (inr y) = absurd (let one = x.0 in let two = y.0 in omega arith)
