-- Journals that are put together and cut.
use Rattle.std.proofs.Common.{◌≡◌, ℕ, ◌++◌, List, [], ◌∷◌, take, drop, Option, Some, None, option_and_then, refl, sym, ap, ◌∙◌, subst, append_assoc, take-append-drop}
use Rattle.std.specs.Prelude.{IsSome}
use Rattle.std.proofs.lemmas.Option.{option_and_then_some}
use Rattle.ame_term.specs.Tree.{Tree}
use Rattle.ame_term.specs.declared.semantics.Label.{Label}
use Rattle.ame_journal.specs.declared.entry.Entry.{Entry}
use Rattle.ame_journal.specs.Labels.{UnfoldsAll}
use Rattle.ame_journal.specs.Replayed.{Replayed, begun_at}
use Rattle.ame_journal.specs.Replay.{replay, replay_from}
use Rattle.ame_journal.proofs.ReplayLemmas.{replay_from-append}

pub composed : (program : Tree) (entries more : List Entry) (r t : Replayed) → replay program entries ≡ Some r → replay_from r more ≡ Some t
    → replay program (entries ++ more) ≡ Some t
composed program entries more r t first second =
    replay_from-append (begun_at program) entries more ∙ ap (λ (o : Option Replayed). option_and_then (λ x. replay_from x more) o) first ∙ second

pub unfolded-two : (r s t : Replayed) (entries more : List Entry) (labels others : List Label) → UnfoldsAll r entries labels s → UnfoldsAll s more others t
    → UnfoldsAll r (entries ++ more) (labels ++ others) t
unfolded-two _ _ t _ more _ others (UnfoldsAll.done r) second = second
unfolded-two _ _ t _ more _ others (UnfoldsAll.next r s u entry entries labels rest first later) second =
    subst (λ (ls : List Label). UnfoldsAll r (entry ∷ (entries ++ more)) ls t) (sym (append_assoc labels rest others))
    (UnfoldsAll.next r s t entry (entries ++ more) labels (rest ++ others) first (unfolded-two s u t entries more rest others later second))

pub cut-replayed : (program : Tree) (entries more : List Entry) (t : Replayed) → replay program (entries ++ more) ≡ Some t
    → (r : Replayed) × (replay program entries ≡ Some r) × (replay_from r more ≡ Some t)
cut-replayed program entries more t e =
    option_and_then_some _ _ _ (sym (replay_from-append (begun_at program) entries more) ∙ e) (λ r first rest. (r, first, rest))

pub record IsCut (r : Replayed) (entries more : List Entry) (labels : List Label) (t : Replayed) : Type 0 where
  pub between : Replayed
  pub first : List Label
  pub rest : List Label
  pub before : UnfoldsAll r entries first between
  pub later : UnfoldsAll between more rest t
  pub is : labels ≡ first ++ rest

cut-next : (entry : Entry) (entries more : List Entry)
    → ((r t : Replayed) (labels : List Label) → UnfoldsAll r (entries ++ more) labels t → IsCut r entries more labels t)
    → (r t : Replayed) (all : List Entry) (labels : List Label) → all ≡ entry ∷ (entries ++ more) → UnfoldsAll r all labels t
    → IsCut r (entry ∷ entries) more labels t
cut-next entry entries more go _ _ _ _ same (UnfoldsAll.done r) = let clash : ◌≡◌ {A = List Entry} [] (entry ∷ (entries ++ more)) = same in absurd (cc)
cut-next entry entries more go _ _ _ _ same (UnfoldsAll.next r s t e es labels rest first later) =
    let head : e ≡ entry = cc in
    let tail : es ≡ entries ++ more = cc in
    let c = go s t rest (subst (λ (xs : List Entry). UnfoldsAll s xs rest t) tail later) in
    record {
      between = c.between;
      first = labels ++ c.first;
      rest = c.rest;
      before = subst (λ (x : Entry). UnfoldsAll r (x ∷ entries) (labels ++ c.first) c.between) head (UnfoldsAll.next r s c.between e entries labels c.first first c.before);
      later = c.later;
      is = ap (λ (ls : List Label). labels ++ ls) c.is ∙ sym (append_assoc labels c.first c.rest);
    }

pub cut-unfolded : (r t : Replayed) (entries more : List Entry) (labels : List Label) → UnfoldsAll r (entries ++ more) labels t → IsCut r entries more labels t
cut-unfolded r t [] more labels u = record { between = r; first = []; rest = labels; before = UnfoldsAll.done r; later = u; is = refl }
cut-unfolded r t (entry ∷ entries) more labels u =
    cut-next entry entries more (λ s v ls x. cut-unfolded s v entries more ls x) r t (entry ∷ (entries ++ more)) labels refl u

pub cut-some : (program : Tree) (entries : List Entry) (t : Replayed) (n : ℕ) → replay program entries ≡ Some t → IsSome (replay program (take n entries))
cut-some program entries t n e =
    let c = cut-replayed program (take n entries) (drop n entries) t (ap (replay program) (take-append-drop n entries) ∙ e) in
    is-some (replay program (take n entries)) c.0 c.1
  where
    is-some : (o : Option Replayed) (r : Replayed) → o ≡ Some r → IsSome o
    is-some (Some x) r e = refl
    is-some None r e = absurd (cc)
