-- A visit from one place of one memory comes to one place and leaves one memory, if the device answers alike.
use Rattle.std.proofs.Common.{◌≡◌, ℕ, ◌==◌, ℤ, false, List, Option, Some, None, IsTrue, refl, sym, ap, ◌∙◌}
use Rattle.std.proofs.lemmas.Bool.{eq-eqb}
use Rattle.ame_term.specs.Tree.{Val}
use Rattle.ame_rows.specs.MemoryView.{MemoryView}
use Rattle.ame_rows.specs.Access.{put_at, born}
use Rattle.ame_device.specs.declared.told.Told.{Told}
use Rattle.ame_machine.specs.declared.wants.Wants.{Wants}
use Rattle.ame_machine.specs.declared.wants.Wants.TheVariants as wants
use Rattle.ame_machine.specs.MachineView.{MachineView}
use Rattle.ame_machine.specs.Acting.{takes_input}
use Rattle.ame_engine.specs.Visiting.{VisitsTo}

pub false-apart : IsTrue false → ⊥
false-apart e = cc

-- a number for each kind of visit, by what is wanted
abbrev kind : Option Wants → ℕ
kind (Some (wants.Read l)) = 1
kind (Some (wants.Peek l)) = 2
kind (Some (wants.Write l)) = 3
kind (Some (wants.Alloc sort number)) = 4
kind (Some wants.Spawn) = 5
kind (Some (wants.Print i)) = 6
kind (Some wants.Close) = 7
kind (Some (wants.Device device n)) = 8
kind _ = 0

rests-kind : (w : Option Wants) → takes_input w ≡ false → kind w ≡ 0
rests-kind None e = refl
rests-kind (Some (wants.Read l)) e = cc
rests-kind (Some (wants.Peek l)) e = cc
rests-kind (Some (wants.Write l)) e = cc
rests-kind (Some (wants.Alloc sort number)) e = cc
rests-kind (Some wants.Spawn) e = cc
rests-kind (Some (wants.Print i)) e = cc
rests-kind (Some wants.Close) e = cc
rests-kind (Some (wants.Device device n)) e = cc
rests-kind (Some _) e = refl

module _ (s : MachineView) (memory : MemoryView Val) where
  abbrev its-kind : (before after : List Told) (answer : Option ℤ) (n : MachineView) (m : MemoryView Val) → VisitsTo s memory before answer n m after → ℕ
  its-kind _ _ _ _ _ (VisitsTo.rests e) = 0
  its-kind _ _ _ _ _ (VisitsTo.reads l v n w c f) = 1
  its-kind _ _ _ _ _ (VisitsTo.peeks l v n w c f) = 2
  its-kind _ _ _ _ _ (VisitsTo.writes l v n w c f) = 3
  its-kind _ _ _ _ _ (VisitsTo.makes sort number v n w c f) = 4
  its-kind _ _ _ _ _ (VisitsTo.spawns n w f) = 5
  its-kind _ _ _ _ _ (VisitsTo.prints i n w f) = 6
  its-kind _ _ _ _ _ (VisitsTo.closes n w f) = 7
  its-kind _ _ _ _ _ (VisitsTo.calls device argument answer n after w c f) = 8

  is-kind : (before after : List Told) (answer : Option ℤ) (n : MachineView) (m : MemoryView Val) (v : VisitsTo s memory before answer n m after)
      → its-kind before after answer n m v ≡ kind s.want
  is-kind _ _ _ _ _ (VisitsTo.rests e) = sym (rests-kind s.want e)
  is-kind _ _ _ _ _ (VisitsTo.reads l v n w c f) = sym (ap kind w)
  is-kind _ _ _ _ _ (VisitsTo.peeks l v n w c f) = sym (ap kind w)
  is-kind _ _ _ _ _ (VisitsTo.writes l v n w c f) = sym (ap kind w)
  is-kind _ _ _ _ _ (VisitsTo.makes sort number v n w c f) = sym (ap kind w)
  is-kind _ _ _ _ _ (VisitsTo.spawns n w f) = sym (ap kind w)
  is-kind _ _ _ _ _ (VisitsTo.prints i n w f) = sym (ap kind w)
  is-kind _ _ _ _ _ (VisitsTo.closes n w f) = sym (ap kind w)
  is-kind _ _ _ _ _ (VisitsTo.calls device argument answer n after w c f) = sym (ap kind w)

  pub record IsOneVisit (answer other : Option ℤ) (n o : MachineView) (m p : MemoryView Val) : Type 0 where
    pub answers : answer ≡ other
    pub comes : n ≡ o
    pub leaves : m ≡ p

  abbrev Agree : Option ℤ → Option ℤ → Type 0
  Agree answer other = (x y : ℤ) → answer ≡ Some x → other ≡ Some y → x ≡ y

  by-kind : (b1 a1 b2 a2 : List Told) (r1 r2 : Option ℤ) (n1 n2 : MachineView) (m1 m2 : MemoryView Val) (v : VisitsTo s memory b1 r1 n1 m1 a1)
      (w : VisitsTo s memory b2 r2 n2 m2 a2) → IsTrue (its-kind b1 a1 r1 n1 m1 v == its-kind b2 a2 r2 n2 m2 w) → Agree r1 r2 → IsOneVisit r1 r2 n1 n2 m1 m2
  by-kind _ _ _ _ _ _ _ _ _ _ (VisitsTo.rests e) (VisitsTo.rests f) h agree = record { answers = refl; comes = refl; leaves = refl }
  by-kind _ _ _ _ _ _ _ _ _ _ (VisitsTo.reads l v n w c f) (VisitsTo.reads k u m x d g) h agree = record { answers = refl; comes = cc; leaves = refl }
  by-kind _ _ _ _ _ _ _ _ _ _ (VisitsTo.peeks l v n w c f) (VisitsTo.peeks k u m x d g) h agree = record { answers = refl; comes = cc; leaves = refl }
  by-kind _ _ _ _ _ _ _ _ _ _ (VisitsTo.writes l v n w c f) (VisitsTo.writes k u m x d g) h agree =
      let value : v ≡ u = cc in
      let place : l ≡ k = cc in
      record { answers = refl; comes = cc; leaves = ap (λ i. put_at i.0 v memory) place ∙ ap (λ i. put_at k.0 i memory) value }
  by-kind _ _ _ _ _ _ _ _ _ _ (VisitsTo.makes sort number v n w c f) (VisitsTo.makes sort' number' u m x d g) h agree =
      let value : v ≡ u = cc in
      let sorts : sort ≡ sort' = cc in
      let numbers : number ≡ number' = cc in
      record { answers = refl; comes = cc; leaves = ap (λ i. born i number v memory) sorts ∙ ap (λ i. born sort' i v memory) numbers ∙ ap (λ i. born sort' number' i memory) value }
  by-kind _ _ _ _ _ _ _ _ _ _ (VisitsTo.spawns n w f) (VisitsTo.spawns m x g) h agree = record { answers = refl; comes = cc; leaves = refl }
  by-kind _ _ _ _ _ _ _ _ _ _ (VisitsTo.prints i n w f) (VisitsTo.prints j m x g) h agree = record { answers = refl; comes = cc; leaves = refl }
  by-kind _ _ _ _ _ _ _ _ _ _ (VisitsTo.closes n w f) (VisitsTo.closes m x g) h agree = record { answers = refl; comes = cc; leaves = refl }
  by-kind _ _ _ _ _ _ _ _ _ _ (VisitsTo.calls device argument answer n after w c f) (VisitsTo.calls device' argument' answer' m after' x d g) h agree =
      let same : answer ≡ answer' = agree answer answer' refl refl in
      record { answers = ap (λ i. Some i) same; comes = cc; leaves = refl }
  by-kind _ _ _ _ _ _ _ _ _ _ _ _ h agree = absurd (false-apart h)

  pub one-visit : (b1 a1 b2 a2 : List Told) (r1 r2 : Option ℤ) (n1 n2 : MachineView) (m1 m2 : MemoryView Val) → VisitsTo s memory b1 r1 n1 m1 a1
      → VisitsTo s memory b2 r2 n2 m2 a2 → Agree r1 r2 → IsOneVisit r1 r2 n1 n2 m1 m2
  one-visit b1 a1 b2 a2 r1 r2 n1 n2 m1 m2 v w agree =
      let same : its-kind b1 a1 r1 n1 m1 v ≡ its-kind b2 a2 r2 n2 m2 w = is-kind b1 a1 r1 n1 m1 v ∙ sym (is-kind b2 a2 r2 n2 m2 w) in
      by-kind b1 a1 b2 a2 r1 r2 n1 n2 m1 m2 v w (eq-eqb (its-kind b1 a1 r1 n1 m1 v) (its-kind b2 a2 r2 n2 m2 w) same) agree
