-- Notes and certificates, with where their members stand.
use Rattle.std.proofs.Common.{◌≡◌, ℕ, ◌+◌, ◌<◌, true, List, [], ◌∷◌, ◌++◌, length, get_or, take, Option, Some, IfSome, sym, ap, ◌∙◌, subst, append_assoc}
use Rattle.std.proofs.lemmas.List.{take_more}
use Rattle.ame_lex.specs.Bytes.{Text}
use Rattle.ame_lex.specs.Reading.{tokens_of}
use Rattle.ame_journal.specs.declared.entry.Entry.{Entry}
use Rattle.ame_journal.specs.declared.entry.EntryKind.{EntryKind}
use Rattle.ame_machine.specs.declared.wants.Wants.{Wants}
use Rattle.ame_machine.specs.declared.wants.Wants.TheVariants as wants
use Rattle.ame_check.specs.Entries.{is_confirmed}
use Rattle.ame_check.specs.Shows.{ReplayView, StandsForEntries}
use Rattle.ame_check.specs.Standing.{StandsAt}
use Rattle.ame_check.specs.declared.stored.Stored.{Stored}
use Rattle.ame_journal.specs.declared.certificate.Certificate.{Certificate}
use Rattle.ame_code.specs.FlatCode.{FlatCode}
use Rattle.ame_value.specs.declared.val.Val.{Val}
use Rattle.ame_eval.specs.Fragments.{stage_of, IsFragmentOf}
use Rattle.ame_eval.specs.Places.{fragment_node, StandsAtForm}
use Rattle.ame_eval.specs.declared.fragment.Fragment.{Fragment}
use Rattle.ame_why.specs.declared.position.Position.{Position}
use Rattle.ame_why.specs.Open.{tokens_or_none}
use Rattle.ame_views.specs.Forms.{positions}
use Rattle.ame_views.specs.FragmentMeaning.{fragment_meaning}
use Rattle.ame_views.specs.NodePlaces.{ShowsPlace}
use Rattle.ame_views.specs.Begun.{IsStartedAt}
use Rattle.ame_views.specs.Standings.{stuck_note, note_lines, LeadsNoteTo, TellsStanding, TellEach, TellsHalted}

-- the steps of a note lead to the same machine, of whatever kind it is
stands-as : (code : FlatCode) (entries : List Entry) (note : Entry) (kind : EntryKind) (fragment : Fragment) (want : Wants) (reads : List (ℕ × ℕ))
    → StandsAt fragment_meaning code entries (record note { kind = kind }) fragment want reads → StandsAt fragment_meaning code entries note fragment want reads
stands-as code entries note kind fragment want reads st = record {
  led = st.led;
  replayed = st.replayed;
  now = st.now;
  leads = st.leads;
  good = st.good;
  member = st.member;
  wants = st.wants;
  told = st.told;
  each = st.each;
}

module _ (text : Text) (code : FlatCode) (entries : List Entry) where
  -- what a walk of a note's steps found, and the place of its machine
  pub comes-to : (note cut : Entry) → cut ≡ record note { kind = EntryKind.Cut } → (fragment : Fragment) (want : Wants) (reads : List (ℕ × ℕ))
      → StandsAt fragment_meaning code entries cut fragment want reads
      → (IsFragmentOf code fragment → StandsAtForm code (stage_of code fragment).want (fragment_node fragment))
      → (there : Option Position) → ShowsPlace text code fragment there → LeadsNoteTo text code entries note want reads there
  comes-to note cut as_cut fragment want reads stands form there shown =
      let found : StandsAt fragment_meaning code entries note fragment want reads =
      stands-as code entries note EntryKind.Cut fragment want reads
      (subst (λ (e : Entry). StandsAt fragment_meaning code entries e fragment want reads) as_cut stands) in
      record {
        fragment = fragment;
        stands = found;
        form = subst (λ (w : Option Wants). StandsAtForm code w (fragment_node fragment)) found.wants (form found.good);
        shown = shown;
      }

  -- what the member of a certificate comes to, as its lines
  pub tells-standing : (cells : List (ℕ × Stored Val)) (c : Certificate) (note : Entry) (want : Wants) (reads : List (ℕ × ℕ)) (o : Option Position) (there : Position)
      → note ≡ stuck_note c → want ≡ wants.Block → o ≡ Some there → LeadsNoteTo text code entries note want reads o
      → (started : Option Position) → IfSome started (IsStartedAt text code entries c.number) → (part : List ℕ)
      → part ≡ note_lines (positions text (tokens_or_none (tokens_of text))) cells note started (Some there) reads
      → TellsStanding text code entries cells c part
  tells-standing cells c note want reads o there as_note blocks known comes started starts part is =
      let there_comes : LeadsNoteTo text code entries (stuck_note c) wants.Block reads (Some there) =
      subst (λ (p : Option Position). LeadsNoteTo text code entries (stuck_note c) wants.Block reads p) known
      (subst (λ (w : Wants). LeadsNoteTo text code entries (stuck_note c) w reads o) blocks
      (subst (λ (e : Entry). LeadsNoteTo text code entries e want reads o) as_note comes)) in
      let lines : part ≡ note_lines (positions text (tokens_or_none (tokens_of text))) cells (stuck_note c) started (Some there) reads =
      subst (λ (e : Entry). part ≡ note_lines (positions text (tokens_or_none (tokens_of text))) cells e started (Some there) reads) as_note is in
      record {
        there = there;
        told = record {
          reads = reads;
          comes = there_comes;
          started = started;
          starts = starts;
          is = lines;
        };
      }

  -- what the member of the note comes to with which a run ends
  pub tells-halted : (note : Entry) (place : ReplayView Val Fragment) (want : Wants) (reads : List (ℕ × ℕ)) (there : Option Position)
      → StandsForEntries fragment_meaning code entries place → is_confirmed note.kind want ≡ true → LeadsNoteTo text code entries note want reads there
      → (started : Option Position) → IfSome started (IsStartedAt text code entries note.number) → (page : List ℕ)
      → page ≡ note_lines (positions text (tokens_or_none (tokens_of text))) place.cells note started there reads → TellsHalted text code entries note page
  tells-halted note place want reads there stands confirmed comes started starts page is = record {
    place = place;
    stands = stands;
    want = want;
    confirmed = confirmed;
    there = there;
    told = record {
      reads = reads;
      comes = comes;
      started = started;
      starts = starts;
      is = is;
    };
  }

  module _ (cells : List (ℕ × Stored Val)) (certificates : List Certificate) where
    pub tell-begins : (page : List ℕ) → page ≡ [] → TellEach text code entries cells (take 0 certificates) page
    tell-begins page none = subst (TellEach text code entries cells []) (sym none) (TellEach.none)

    pub tell-goes-on : (i : ℕ) → i < length certificates → (c : Certificate) → c ≡ get_or certificates i c → (page part later : List ℕ)
        → TellEach text code entries cells (take i certificates) page → TellsStanding text code entries cells c part → later ≡ page ++ part
        → TellEach text code entries cells (take (i + 1) certificates) later
    tell-goes-on i below c is page part later told here added =
        let more : take (i + 1) certificates ≡ take i certificates ++ c ∷ [] =
        take_more certificates i c below ∙ ap (λ (z : Certificate). take i certificates ++ z ∷ []) (sym is) in
        subst (λ (cs : List Certificate). TellEach text code entries cells cs later) (sym more)
        (subst (TellEach text code entries cells (take i certificates ++ c ∷ [])) (sym added) (TellEach.more (take i certificates) page c part told here))

-- what is so of what is there
pub told-some : {A : Type 0} (P : A → Type 0) (o : Option A) (x : A) → o ≡ Some x → IfSome o P → P x
told-some P o x is h = subst (λ (z : Option _). IfSome z P) is h

-- what is added in turn is added whole
pub added-three : (old p q r a b c : List ℕ) → p ≡ old ++ a → q ≡ p ++ b → r ≡ q ++ c → r ≡ old ++ (a ++ b ++ c)
added-three old p q r a b c e f g =
    g ∙ ap (λ (xs : List ℕ). xs ++ c) (f ∙ ap (λ (xs : List ℕ). xs ++ b) e ∙ append_assoc old a b) ∙ append_assoc old (a ++ b) c

pub added-four : (old p q r s a b c d : List ℕ) → p ≡ old ++ a → q ≡ p ++ b → r ≡ q ++ c → s ≡ r ++ d → s ≡ old ++ (a ++ b ++ c ++ d)
added-four old p q r s a b c d e f g h =
    h ∙ ap (λ (xs : List ℕ). xs ++ d) (added-three old p q r a b c e f g) ∙ append_assoc old (a ++ b ++ c) d
