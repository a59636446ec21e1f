-- The judgment of the journal of a weak run within the bounds.
use Rattle.std.proofs.Common.{◌≡◌, ℤ, List, [], ◌∷◌, ◌++◌, length, None, refl, sym, ap, subst, arith}
use Rattle.std.specs.List.{AllByRecursion}
use Rattle.ame_term.specs.Tree.{Tree}
use Rattle.ame_term.specs.Signature.{Signature}
use Rattle.ame_term.specs.declared.semantics.Label.{Label}
use Rattle.ame_journal.specs.declared.entry.Entry.{Entry}
use Rattle.ame_journal.specs.Replayed.{Replayed, begun_at}
use Rattle.ame_machine.specs.Sound.{IsAccepted}
use Rattle.ame_check.specs.Judge.{Judges}
use Rattle.ame_check.specs.declared.judging.Judged.{Judged}
use Rattle.ame_weak.specs.Weak.{Weak, IsWeakRun, weak_start}
use Rattle.ame_weak.specs.Bounds.{AreWithinBounds}
use Rattle.ame_weak.specs.Straight.{outset, straight}
use Rattle.ame_weak.specs.Tries.{AreTried, straight_with}
use Rattle.ame_weak.specs.declared.tries.Try.{Try}
use Rattle.ame_runner.specs.Within.{AreTriedWithin}
use Rattle.ame_weak.proofs.StraightLemmas.{past_all, ends-strong, begun-followed}
use Rattle.ame_certified.specs.Low.{IsLowJournal}
use Rattle.ame_certified.specs.RoundTrip.{IsRoundTrip}
use Rattle.ame_certified.specs.WeakTries.{IsTallNote}
use Rattle.ame_certified.proofs.JudgedLemmas.{judged-valid, none-low}
use Rattle.ame_certified.proofs.WeakLemmas.{IsLowSo, resting-way}
use Rattle.ame_certified.proofs.TriedLemmas.{IsGoodFrom, with-low, tall-noted, straight-alone}

begun-low : (signature : Signature) (program : Tree) → IsAccepted signature program → (refs : Signature) × IsLowSo refs program [] (begun_at program) outset (weak_start program)
begun-low signature program a =
    let follows = begun-followed signature.devices a.places program a.refs a.accepts a.source a.numbered in (
      _,
      record {
        follows = follows;
        replayed = refl;
        low = none-low program;
        way = resting-way _ (begun_at program).state (begun_at program).state 0 0 [] (weak_start program) refl;
      },
    )

all-good : (program : Tree) (labels : List Label) (ts : List Try) → AreTried program labels ts → AreTriedWithin program labels ts
    → AllByRecursion (IsGoodFrom 0 (weak_start program) labels) ts
all-good program labels [] tried within = tt
all-good program labels (t ∷ ts) tried within =
    ((λ front rest v is count run. let k : length front ≡ t.after = omega arith in (tried.0 front rest v is k run, within.0 front rest v is k run)), all-good program labels ts tried.1 within.1)

module _ (signature : Signature) (program : Tree) (labels : List Label) (w : Weak) (accepted : IsAccepted signature program) (run : IsWeakRun program labels w)
    (within : AreWithinBounds (weak_start program) labels) where
  module _ (tries : List Try) (tried : AreTried program labels tries) (low : AreTriedWithin program labels tries) where
    so : (refs : Signature) × (behind : Replayed) × IsLowSo refs program (straight_with 0 tries outset labels) behind (past_all outset labels) w
    so =
        let first = begun-low signature program accepted in
        let all = with-low first.0 program 0 tries labels [] (begun_at program) outset (weak_start program) w first.1 (all-good program labels tries tried low) run within in
        (first.0, all.0, all.1)

    pub tries-low : IsLowJournal program (straight_with 0 tries outset labels)
    tries-low = so.2.low

    module _ (judged : Judged) (idle : w.state.active ≡ None) where
      -- a journal of the run with more notes
      valid : (journal : List Entry) → IsLowSo so.0 program journal so.1 (past_all outset labels) w → Judges program journal judged → IsRoundTrip w.state.output judged
      valid journal h is =
          let strong = ends-strong so.0 so.1 (past_all outset labels) w h.follows idle in
          subst (λ (output : List ℤ). IsRoundTrip output judged) (ap (λ (z : Weak). z.state.output) (sym strong)) (judged-valid program journal so.1 judged h.replayed h.low is)

      pub tries-valid : Judges program (straight_with 0 tries outset labels) judged → IsRoundTrip w.state.output judged
      tries-valid is = valid (straight_with 0 tries outset labels) so.2 is

    module _ (idle : w.state.active ≡ None) (entry : Entry) (note : IsTallNote w entry) where
      noted-so : IsLowSo so.0 program (straight_with 0 tries outset labels ++ entry ∷ []) so.1 (past_all outset labels) w
      noted-so = tall-noted so.0 program (straight_with 0 tries outset labels) so.1 (past_all outset labels) w so.2 idle entry note

      pub noted-low : IsLowJournal program (straight_with 0 tries outset labels ++ entry ∷ [])
      noted-low = noted-so.low

      pub noted-valid : (judged : Judged) → Judges program (straight_with 0 tries outset labels ++ entry ∷ []) judged → IsRoundTrip w.state.output judged
      noted-valid judged is = valid judged idle (straight_with 0 tries outset labels ++ entry ∷ []) noted-so is

  pub labels-low : IsLowJournal program (straight labels)
  labels-low = subst (IsLowJournal program) (straight-alone 0 outset labels) (tries-low [] tt tt)

  pub labels-valid : (judged : Judged) → w.state.active ≡ None → Judges program (straight labels) judged → IsRoundTrip w.state.output judged
  labels-valid judged idle is = tries-valid [] tt tt judged idle (subst (λ (es : List Entry). Judges program es judged) (sym (straight-alone 0 outset labels)) is)
