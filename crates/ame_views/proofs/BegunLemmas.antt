-- Beginnings of tasks, entry after entry.
use Rattle.std.proofs.Common.{◌≡◌, ℕ, ◌+◌, ◌-◌, ◌<◌, ◌≤◌, ◌⊎◌, inl, inr, List, [], ◌∷◌, ◌++◌, length, get_or, take, Option, Some, None, IfSome, refl, sym, ap, ◌∙◌, subst, arith}
use Rattle.std.specs.Prelude.{slice_get}
use Rattle.std.proofs.lemmas.Bool.{cases_lt}
use Rattle.std.proofs.lemmas.List.{take_more, take_all}
use Rattle.ame_lex.specs.Bytes.{Text}
use Rattle.ame_term.specs.Maps.{at, put}
use Rattle.ame_laws.proofs.MapLemmas.{at-put}
use Rattle.ame_journal.specs.Replayed.{Replayed, begun_at, is_inside}
use Rattle.ame_code.specs.Code.{program_of}
use Rattle.ame_journal.specs.declared.entry.Entry.{Entry}
use Rattle.ame_check.specs.Shows.{ReplayView, ShowsMember, StandsForEntries}
use Rattle.ame_code.specs.FlatCode.{FlatCode}
use Rattle.ame_code.specs.declared.node.NodeNo.{NodeNo}
use Rattle.ame_value.specs.declared.val.Val.{Val}
use Rattle.ame_eval.specs.Fragments.{stage_of, IsFragmentOf}
use Rattle.ame_eval.specs.Places.{BeginsAt}
use Rattle.ame_eval.specs.declared.fragment.Fragment.{Fragment}
use Rattle.ame_views.specs.FragmentMeaning.{fragment_meaning}
use Rattle.ame_why.specs.declared.position.Position.{Position}
use Rattle.ame_code.specs.declared.node.Node.{Node}
use Rattle.ame_views.specs.Begun.{BeganAt, TellsBegun, TellsAllBegun, TellsForm, HidesForm, IsUnseen, IsAsyncOf, IsStartedAt, SeenBegun, NotesBegun, KeepsNotes, NotesOne, NotesAll, async_body, beginning_in}

module _ (members : List (ℕ × Fragment)) (old : List (ℕ × NodeNo)) where
  pub notes-begin : NotesBegun members old old
  notes-begin i node found = inl found

  pub notes-more : (number : ℕ) (node : NodeNo) (new later : List (ℕ × NodeNo)) → SeenBegun members number node → NotesBegun members old new
      → later ≡ put new number node → NotesBegun members old later
  notes-more number node new later seen so_far is i other found = by (at-put new number i node)
    where
      by : ((number ≡ i) × (at (put new number node) i ≡ Some node)) ⊎ (((number ≡ i) → ⊥) × (at (put new number node) i ≡ at new i))
          → (at old i ≡ Some other) ⊎ SeenBegun members i other
      by (inl (same, e)) =
          let opened : Some node ≡ Some other = sym e ∙ ap (λ (es : List (ℕ × NodeNo)). at es i) (sym is) ∙ found in
          let one : node ≡ other = cc in
          inr (subst (λ (n : NodeNo). SeenBegun members i n) one (subst (λ (k : ℕ). SeenBegun members k node) same seen))
      by (inr (apart, e)) = so_far i other (sym e ∙ ap (λ (es : List (ℕ × NodeNo)). at es i) (sym is) ∙ found)

  pub notes-then : (new later : List (ℕ × NodeNo)) → NotesBegun members old new → NotesBegun members new later → NotesBegun members old later
  notes-then new later so_far more i node found = by (more i node found)
    where
      by : (at new i ≡ Some node) ⊎ SeenBegun members i node → (at old i ≡ Some node) ⊎ SeenBegun members i node
      by (inl before) = so_far i node before
      by (inr seen) = inr seen

-- a member begins at the beginning of its fragment
pub seen-from : (members : List (ℕ × Fragment)) (number : ℕ) (fragment : Fragment) → at members number ≡ Some fragment → (o : Option NodeNo)
    → ((code : FlatCode) → IsFragmentOf code fragment → IfSome o (λ node. BeginsAt code (stage_of code fragment).term node.0)) → IfSome o (SeenBegun members number)
seen-from members number fragment is None begins = tt
seen-from members number fragment is (Some node) begins = record { fragment = fragment; member = is; begins = begins }

-- a member of a replay is a fragment of the code
is-fragment : (code : FlatCode) (entries : List Entry) (place : ReplayView Val Fragment) → StandsForEntries fragment_meaning code entries place
    → (i : ℕ) (fragment : Fragment) → at place.members i ≡ Some fragment → IsFragmentOf code fragment
is-fragment code entries place st i fragment there =
    (subst (λ (o : Option Fragment). ShowsMember fragment_meaning code (is_inside st.led i) o (at st.led.state.members i)) there (st.shows.members i)).0

-- Notes that are kept

pub keeps-itself : (old : List (ℕ × NodeNo)) → KeepsNotes old old
keeps-itself old i none = none

-- a note more
module _ (number : ℕ) (node : NodeNo) (old later : List (ℕ × NodeNo)) (is : later ≡ put old number node) where
  pub keeps-one : KeepsNotes old later
  keeps-one i none = by (at-put old number i node)
    where
      by : ((number ≡ i) × (at (put old number node) i ≡ Some node)) ⊎ (((number ≡ i) → ⊥) × (at (put old number node) i ≡ at old i)) → at old i ≡ None
      by (inl (same, e)) = let clash : None ≡ Some node = sym none ∙ ap (λ (es : List (ℕ × NodeNo)). at es i) is ∙ e in cc
      by (inr (apart, e)) = sym e ∙ ap (λ (es : List (ℕ × NodeNo)). at es i) (sym is) ∙ none

  pub notes-one : (members : List (ℕ × Fragment)) → NotesOne members number later
  notes-one members none = by (at-put old number number node)
    where
      by : ((number ≡ number) × (at (put old number node) number ≡ Some node)) ⊎ (((number ≡ number) → ⊥) × (at (put old number node) number ≡ at old number))
          → beginning_in members number ≡ None
      by (inl (same, e)) = let clash : None ≡ Some node = sym none ∙ ap (λ (es : List (ℕ × NodeNo)). at es number) is ∙ e in cc
      by (inr (apart, e)) = absurd (apart refl)

pub all-more : (members : List (ℕ × Fragment)) (first number : ℕ) (old new : List (ℕ × NodeNo)) → NotesAll first number members old → KeepsNotes old new
    → NotesOne members number new → NotesAll first (number + 1) members new
all-more members first number old new so_far keeps here i low high = by (cases_lt i number)
  where
    by : (i < number) ⊎ (number ≤ i) → NotesOne members i new
    by (inl before) = λ none. so_far i low before (keeps i none)
    by (inr last) = let same : number ≡ i = omega (arith, high, last) in subst (λ (k : ℕ). NotesOne members k new) same here

-- an `async` form is the only one at its place
pub no-async : (code : FlatCode) (body form : NodeNo) (node : Node) → slice_get code.nodes (body.0 + 1) ≡ Some node → (async_body node.shape ≡ Some body.0 → ⊥)
    → form.0 ≡ body.0 + 1 → IsAsyncOf code body form → ⊥
no-async code body form node there not here a =
    let both : Some node ≡ Some a.node = sym there ∙ ap (slice_get code.nodes) (sym here) ∙ a.there in
    let same : a.node ≡ node = cc in
    not (subst (λ (n : Node). async_body n.shape ≡ Some body.0) same a.is)

module _ (code : FlatCode) (entries : List Entry) where
  -- a number of entries were made
  pub record Beginning (index : ℕ) (place : ReplayView Val Fragment) (begun : List (ℕ × NodeNo)) : Type 0 where
    pub stands : StandsForEntries fragment_meaning code (take index entries) place
    pub told : TellsBegun code entries begun

  -- each task so far is noted, or isn't seen
  pub record AllSeen (index last : ℕ) (place : ReplayView Val Fragment) (begun : List (ℕ × NodeNo)) : Type 0 where
    pub enough : place.next ≤ last + 1
    pub all : TellsAllBegun code entries last begun

  pub all-begins : (place : ReplayView Val Fragment) (begun : List (ℕ × NodeNo)) (last : ℕ) → last ≡ 0 → StandsForEntries fragment_meaning code [] place → AllSeen 0 last place begun
  all-begins place begun last none st =
      let led : begun_at (program_of code) ≡ st.led = let e : Some (begun_at (program_of code)) ≡ Some st.led = st.replayed in cc in
      let one : place.next ≡ 1 = st.shows.next ∙ ap (λ (r : Replayed). r.state.next) (sym led) in
      record { enough = omega (arith, one); all = λ i low high absent. absurd (omega (arith, low, high, none)) }

  pub all-goes-on : (index last later_last : ℕ) (place later : ReplayView Val Fragment) (begun more : List (ℕ × NodeNo))
      → StandsForEntries fragment_meaning code (take index entries) place → StandsForEntries fragment_meaning code (take (index + 1) entries) later
      → AllSeen index last place begun → KeepsNotes begun more → NotesAll place.next later.next later.members more → later_last ≡ last + (later.next - (last + 1))
      → AllSeen (index + 1) later_last later more
  all-goes-on index last later_last place later begun more st leads seen keeps notes long = record {
    enough = omega (arith, long, seen.enough);
    all = λ i low high none. by i low high none (cases_lt last i);
  }
    where
      by : (i : ℕ) → 1 ≤ i → i ≤ later_last → at more i ≡ None → (last < i) ⊎ (i ≤ last) → IsUnseen code entries i
      by i low high none (inr old) = seen.all i low old (keeps i none)
      by i low high none (inl new) =
          let absent : place.next ≤ i = omega (arith, new, seen.enough) in
          let there : i < later.next = omega (arith, new, high, long) in
          record { count = index; before = place; stands = st; absent = absent; place = later; leads = leads; there = there; none = notes i absent there none }

  pub beginning-begins : (place : ReplayView Val Fragment) (begun : List (ℕ × NodeNo)) → begun ≡ [] → StandsForEntries fragment_meaning code [] place
      → Beginning 0 place begun
  beginning-begins place begun none stands = record {
    stands = stands;
    told = λ i node found. let nothing : None ≡ Some node = ap (λ (es : List (ℕ × NodeNo)). at es i) (sym none) ∙ found in cc;
  }

  pub beginning-goes-on : (index : ℕ) → index < length entries → (entry : Entry) → entry ≡ get_or entries index entry
      → (place later : ReplayView Val Fragment) (begun more : List (ℕ × NodeNo)) → Beginning index place begun
      → StandsForEntries fragment_meaning code (take index entries ++ entry ∷ []) later → NotesBegun later.members begun more
      → Beginning (index + 1) later more
  beginning-goes-on index below entry is place later begun more so_far stands notes =
      let longer : take (index + 1) entries ≡ take index entries ++ entry ∷ [] =
      take_more entries index entry below ∙ ap (λ (z : Entry). take index entries ++ z ∷ []) (sym is) in
      let there : StandsForEntries fragment_meaning code (take (index + 1) entries) later =
      subst (λ (es : List Entry). StandsForEntries fragment_meaning code es later) (sym longer) stands in
      record {
        stands = there;
        told = λ i node found. by there i node (notes i node found);
      }
    where
      by : StandsForEntries fragment_meaning code (take (index + 1) entries) later → (i : ℕ) (node : NodeNo)
          → (at begun i ≡ Some node) ⊎ SeenBegun later.members i node → BeganAt code entries i node
      by there i node (inl old) = so_far.told i node old
      by there i node (inr seen) = record {
        count = index + 1;
        place = later;
        stands = there;
        fragment = seen.fragment;
        member = seen.member;
        begins = seen.begins code (is-fragment code (take (index + 1) entries) later there i seen.fragment seen.member);
      }

  pub beginning-ends : (index : ℕ) (place : ReplayView Val Fragment) (begun : List (ℕ × NodeNo)) → length entries ≤ index → Beginning index place begun
      → StandsForEntries fragment_meaning code entries place
  beginning-ends index place begun past so_far =
      subst (λ (es : List Entry). StandsForEntries fragment_meaning code es place) (take_all index entries past) so_far.stands

-- a task that isn't noted can't be found
pub hidden-form : (text : Text) (code : FlatCode) (entries : List Entry) (last : ℕ) (begun : List (ℕ × NodeNo)) (i : ℕ) → 1 ≤ i → i ≤ last → TellsBegun code entries begun
    → TellsAllBegun code entries last begun → HidesForm text code begun i → TellsForm text code entries i None
hidden-form text code entries last begun i low high told all (inl none) = inl (all i low high none)
hidden-form text code entries last begun i low high told all (inr (body, found, formless)) = inr (body, told i body found, formless)

-- by the noted beginnings
pub tells-form : (text : Text) (code : FlatCode) (entries : List Entry) (last : ℕ) (begun : List (ℕ × NodeNo)) (i : ℕ) → 1 ≤ i → i ≤ last → TellsBegun code entries begun
    → TellsAllBegun code entries last begun → (o : Option Position)
    → IfSome o (λ there. (es : List Entry) → TellsBegun code es begun → IsStartedAt text code es i there) → (o ≡ None → HidesForm text code begun i)
    → TellsForm text code entries i o
tells-form text code entries last begun i low high told all None h hides = hidden-form text code entries last begun i low high told all (hides refl)
tells-form text code entries last begun i low high told all (Some there) h hides = h entries told

pub started-there : (text : Text) (code : FlatCode) (entries : List Entry) (begun : List (ℕ × NodeNo)) (i : ℕ) (o : Option Position)
    → IfSome o (λ there. (es : List Entry) → TellsBegun code es begun → IsStartedAt text code es i there) → TellsBegun code entries begun
    → IfSome o (IsStartedAt text code entries i)
started-there text code entries begun i None h told = tt
started-there text code entries begun i (Some there) h told = h entries told
