-- The state after a run, and after a commit.
use Rattle.std.proofs.Common.{◌≡◌, ℕ, ◌+◌, ◌<◌, ◌⊎◌, inl, inr, List, [], ◌∷◌, length, Option, Some, None, refl, sym, ap, ◌∙◌, subst, arith}
use Rattle.std.specs.Option.{ForSome}
use Rattle.std.specs.List.{AllByRecursion}
use Rattle.std.specs.List.Sorted.{IsStrictlySortedBy}
use Rattle.ame_term.specs.Tree.{Typ, Val, Tree}
use Rattle.ame_term.specs.Signature.{Signature, MayStore}
use Rattle.ame_term.specs.declared.types.TyNo.{TyNo}
use Rattle.ame_term.specs.Maps.{at, put}
use Rattle.ame_term.specs.State.{State}
use Rattle.ame_term.specs.declared.types.Sort.{Sort}
use Rattle.ame_laws.specs.Orderly.{NumbersRise}
use Rattle.ame_laws.proofs.MapLemmas.{is_at-here, is_at-apart, at-below_all, Each, each-at, each-put}
use Rattle.ame_journal.specs.Replay.{or_else}
use Rattle.ame_laws.specs.Typed.StoreTyping.{StoreTyping, Grows}
use Rattle.ame_laws.specs.Typed.Fragment.{IsValueOf}
use Rattle.ame_laws.specs.Typed.TypedState.{IsStored, IsMember, IsTypedBy}
use Rattle.ame_laws.proofs.Typed.Preserved.{grown}
use Rattle.ame_store.specs.declared.cell.Cell.{Cell}
use Rattle.ame_store.specs.Cells.{IsOwnedBy, IsFree}
use Rattle.ame_store.specs.Changes.{released}
use Rattle.ame_machine.specs.Run.Local.{LocalState}
use Rattle.ame_machine.specs.Run.AgreesWith.{IsAfterRun, with_members}
use Rattle.ame_machine.specs.Run.Fit.{IsTypedPlace}
use Rattle.ame_protocol.specs.Row.Heap.{Heap, cell_at, IsCell, IsLive}
use Rattle.ame_protocol.specs.Row.Framed.{IsFramed}
use Rattle.ame_protocol.specs.Row.Changed.{ReleasesAll}
use Rattle.ame_protocol.specs.Row.TypedHeap.{IsTypedHeap}
use Rattle.ame_protocol.specs.Row.Scoped.{reaches, live_types, reached_types, IsTypedNow}
use Rattle.ame_protocol.proofs.Row.CellLemmas.{which, free_or_owned, free-apart, other-apart}
use Rattle.ame_protocol.proofs.Row.ReachLemmas.{Reached, reach-of, where-grows, place-grown}
use Rattle.ame_protocol.proofs.Row.ScopedLemmas.{still-lives}

-- If numbers rise, a fact of each entry that is found holds of all.
each-from : {X : Type 0} (P : X → Type 0) (es : List (ℕ × X)) → NumbersRise es → ((k : ℕ) (x : X) → at es k ≡ Some x → P x) → Each P es
unfolding IsStrictlySortedBy
each-from P [] rise all = tt
each-from P (e ∷ es) rise all =
    (all e.0 e.1 (rw (is_at-here e.0) refl), each-from P es rise.1 (λ k x found. all k x (later k x found (which k e.0))))
  where
    later : (k : ℕ) (x : _) → at es k ≡ Some x → (k ≡ e.0) ⊎ ((k ≡ e.0) → ⊥) → at (e ∷ es) k ≡ Some x
    later k x found (inl same) =
        let none : at es k ≡ None = ap (at es) same ∙ at-below_all es e.0 rise.0 in
        absurd (let clash : ◌≡◌ {A = Option _} None (Some x) = sym none ∙ found in cc)
    later k x found (inr apart) = rw (is_at-apart k e.0 (λ same. apart (sym same))) found

-- members with new ones
each-with : (P : Tree → Type 0) (members : List (ℕ × Tree)) (next : ℕ) (bodies : List Tree) → Each P members → AllByRecursion P bodies → Each P (with_members members next bodies)
each-with P members next [] all new = all
each-with P members next (body ∷ bodies) all new =
    each-with P (put members next body) (next + 1) bodies (each-put P members next body new.0 all) new.1

-- a state after a run is typed by what types the state before, the place and the member
module _ (signature : Signature) (cells : StoreTyping) (s t : State) (i : ℕ) (p : LocalState) (typed : IsTypedBy signature cells s) (place : IsTypedPlace signature cells Typ.Unit p) (h : IsAfterRun s i p t)
    (member : ForSome (at t.members i) (IsMember signature cells)) where
  stored_at : (l : ℕ) (v : Val) (o : Option Val) → at p.sets l ≡ o → or_else o (at s.store l) ≡ Some v → IsStored signature cells l v
  stored_at l v None is e = typed.stored l v e
  stored_at l v (Some w) is e = place.stored l v (is ∙ e)

  others : Each (IsMember signature cells) (with_members s.members s.next p.spawns)
  others = each-with (IsMember signature cells) s.members s.next p.spawns typed.members place.members

  member_at : (k : ℕ) (term : Tree) → at t.members k ≡ Some term → (k ≡ i) ⊎ ((k ≡ i) → ⊥) → IsMember signature cells term
  member_at k term found (inl same) = member term (ap (at t.members) (sym same) ∙ found)
  member_at k term found (inr apart) =
      each-at (IsMember signature cells) (with_members s.members s.next p.spawns) k term (sym (h.others k apart) ∙ found) others

  pub typed-run : NumbersRise t.members → t.active ≡ None → IsTypedBy signature cells t
  typed-run rise idle = record {
    stored = λ l v e. stored_at l v (at p.sets l) refl (sym (h.stored l) ∙ e);
    members = each-from (IsMember signature cells) t.members rise (λ k term found. member_at k term found (which k i));
    present = λ j active. absurd (let clash : ◌≡◌ {A = Option ℕ} None (Some j) = sym idle ∙ active in cc);
  }

module _ (signature : Signature) (types : StoreTyping) (old new : Heap) (seat : ℕ) (releases : ReleasesAll seat old new) where
  -- what was live or the seat's own is live
  pub owner-cases : (l : ℕ) → IsOwnedBy seat (cell_at old l) ⊎ (IsOwnedBy seat (cell_at old l) → ⊥)
  owner-cases l = by (free_or_owned (cell_at old l))
    where
      its : (owner : ℕ) → IsOwnedBy owner (cell_at old l) → (owner ≡ seat) ⊎ ((owner ≡ seat) → ⊥) → IsOwnedBy seat (cell_at old l) ⊎ (IsOwnedBy seat (cell_at old l) → ⊥)
      its owner own (inl same) = inl (own ∙ ap Some same)
      its owner own (inr apart) = inr (other-apart seat owner (cell_at old l) own apart)

      by : IsFree (cell_at old l) ⊎ ((owner : ℕ) × IsOwnedBy owner (cell_at old l)) → IsOwnedBy seat (cell_at old l) ⊎ (IsOwnedBy seat (cell_at old l) → ⊥)
      by (inl free) = inr (free-apart seat (cell_at old l) free)
      by (inr x) = its x.0 x.1 (which x.0 seat)

  owned-live : (l : ℕ) → IsOwnedBy seat (cell_at old l) → IsLive (cell_at new l)
  owned-live l own = ap (λ (c : Cell Val). c.live) (releases.own l own)

  live-live : (l : ℕ) → IsLive (cell_at old l) → IsLive (cell_at new l)
  live-live l live = by (owner-cases l)
    where
      by : IsOwnedBy seat (cell_at old l) ⊎ (IsOwnedBy seat (cell_at old l) → ⊥) → IsLive (cell_at new l)
      by (inl own) = owned-live l own
      by (inr apart) = subst IsLive (sym (releases.others l apart)) live

  reached-live : Grows (reached_types old seat types) (live_types new types)
  reached-live =
      where-grows (λ l. reaches seat (cell_at old l)) (λ l. (cell_at new l).live) types types (λ l cell e. e) (λ l e. by l (reach-of seat (cell_at old l) e))
    where
      by : (l : ℕ) → Reached seat (cell_at old l) → IsLive (cell_at new l)
      by l (inl live) = live-live l live
      by l (inr made) = owned-live l made.0

  live-grows : Grows (live_types old types) (live_types new types)
  live-grows = where-grows (λ l. (cell_at old l).live) (λ l. (cell_at new l).live) types types (λ l cell e. e) live-live

  pub typed-after : (s t : State) (i : ℕ) (p : LocalState) → IsTypedNow signature types old s → IsTypedPlace signature (reached_types old seat types) Typ.Unit p → IsAfterRun s i p t
      → NumbersRise t.members → t.active ≡ None → ForSome (at t.members i) (λ term. term ≡ p.term) → IsTypedNow signature types new t
  typed-after s t i p typed place h rise idle member =
      let there = place-grown signature (reached_types old seat types) (live_types new types) reached-live Typ.Unit p place in
      typed-run signature (live_types new types) s t i p (grown signature (live_types old types) (live_types new types) s live-grows typed) there h
      (λ term found. subst (IsMember signature (live_types new types)) (sym (member term found)) there.fragment) rise idle

-- events that keep what lives keep a state typed
pub typed-still : (signature : Signature) (types later : StoreTyping) (seat : ℕ) (old new : Heap) (s : State) → Grows types later → IsFramed seat old new
    → IsTypedNow signature types old s → IsTypedNow signature later new s
typed-still signature types later seat old new s grows f typed =
    grown signature (live_types old types) (live_types new later) s
    (where-grows (λ l. (cell_at old l).live) (λ l. (cell_at new l).live) types later grows (λ l live. still-lives seat old new f l live)) typed

-- released cells keep their sort and what is in place
pub heap-released : (signature : Signature) (types : StoreTyping) (old new : Heap) (seat : ℕ) → IsTypedHeap signature types old → ReleasesAll seat old new → length new.cells ≡ length old.cells
    → IsTypedHeap signature types new
heap-released signature types old new seat h releases count = record {
  typed = λ l there. by l (narrow l there) (owner-cases signature types old new seat releases l);
  located = λ l c e. wide l (h.located l c e);
}
  where
    narrow : (m : ℕ) → IsCell new m → IsCell old m
    narrow m there = let t : m < length new.cells = there in omega (arith, count)

    wide : (m : ℕ) → IsCell old m → IsCell new m
    wide m there = let t : m < length old.cells = there in omega (arith, count)

    moved : (l : ℕ) (cell : Cell Val) → cell_at new l ≡ cell → cell.sort ≡ (cell_at old l).sort → cell.value ≡ (cell_at old l).value
        → cell.ty ≡ (cell_at old l).ty → IsCell old l
        → (content : Typ) × (types l ≡ Some ((cell_at new l).sort, content)) × IsValueOf signature types (cell_at new l).value content
        × MayStore signature.refs (cell_at new l).ty.0 content
    moved l cell same sort value number there =
        let was = h.typed l there in (
          was.0,
          was.1 ∙ ap (λ (x : Sort). Some (x, was.0)) (sym (ap (λ (c : Cell Val). c.sort) same ∙ sort)),
          subst (λ (v : Val). IsValueOf signature types v was.0) (sym (ap (λ (c : Cell Val). c.value) same ∙ value)) was.2,
          subst (λ (n : TyNo). MayStore signature.refs n.0 was.0) (sym (ap (λ (c : Cell Val). c.ty) same ∙ number)) was.3,
        )

    by : (l : ℕ) → IsCell old l → IsOwnedBy seat (cell_at old l) ⊎ (IsOwnedBy seat (cell_at old l) → ⊥)
        → (content : Typ) × (types l ≡ Some ((cell_at new l).sort, content)) × IsValueOf signature types (cell_at new l).value content
        × MayStore signature.refs (cell_at new l).ty.0 content
    by l there (inl own) = moved l (released (cell_at old l)) (releases.own l own) refl refl refl there
    by l there (inr apart) = moved l (cell_at old l) (releases.others l apart) refl refl refl there
