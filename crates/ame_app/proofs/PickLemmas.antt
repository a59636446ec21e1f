-- Picks of a run under a chooser.
use Rattle.std.proofs.Common.{◌≡◌, ℕ, ◌-◌, ◌<◌, ◌≤◌, List, ◌++◌, map, take, drop, Result, Ok, Err, Option, Some, sym, ap, ◌∙◌, subst, arith}
use Rattle.std.specs.Prelude.{All, OnErr}
use Rattle.std.specs.Io.KnownBytes.{Appends}
use Rattle.std.proofs.KnownBytes.{Appends-trans}
use Rattle.std.proofs.Math.Seq.{take-add}
use Rattle.std.proofs.lemmas.List.{map-append, take-append-drop}
use Rattle.ame_io.specs.Writes.{AppendsFront}
use Rattle.ame_io.proofs.WritesLemmas.{AppendsFront-after, AppendsFront-longer}
use Rattle.std.proofs.lemmas.List.Elements.{All-map, All-take, All-weaker}
use Rattle.ame_sim.specs.declared.picked.Picked.{Picked}
use Rattle.ame_sim.specs.Questions.{questions, seats_of}
use Rattle.ame_sim.specs.Schedule.{AreSeats, sign, signs}
use Rattle.ame_sim.specs.Strategy.{PicksSeats}
use Rattle.ame_journal.specs.declared.entry.Entry.{Entry}
use Rattle.ame_code.specs.FlatCode.{FlatCode}
use Rattle.ame_cli.specs.declared.command.Options.{Options}
use Rattle.ame_protocol.specs.declared.types.Limits.{Limits}
use Rattle.ame_value.specs.declared.val.Val.{Val}
use Rattle.ame_engine.specs.Ending.{End}
use Rattle.ame_shell.specs.Ends.{Ends}
use Rattle.ame_sim.specs.declared.made.Made.{Made}
use Rattle.ame_sim.specs.Picks.{picked_by, picks_of}
use Rattle.ame_sim.specs.Run.{AreTold, IsPlayed}
use Rattle.ame_app.specs.declared.run_result.Extra.{Extra}
use Rattle.ame_app.specs.declared.run_result.RunResult.{RunResult}
use Rattle.ame_app.specs.Fragments.{fragments}
use Rattle.ame_app.specs.Headline.{limits_of}
use Rattle.ame_app.specs.Verbs.Sim.{opening_of, IsPicked}

-- the signs of picks, one after the other
abbrev pub signs_picked : List Picked → List ℕ
signs_picked picks = signs (seats_of picks)

pub signs-append : (xs ys : List Picked) → signs_picked (xs ++ ys) ≡ signs_picked xs ++ signs_picked ys
signs-append xs ys = ap (map sign) (map-append (λ (p : Picked). p.seat) xs ys) ∙ map-append sign (seats_of xs) (seats_of ys)

-- a claim that holds anyway holds of an error
pub on-err : {T E : Type 0} (r : Result T E) (P : Type 0) → P → OnErr r P
on-err (Ok x) P p = tt
on-err (Err e) P p = p

pub on-err-then : {T E : Type 0} (r : Result T E) (P Q : Type 0) → (P → Q) → OnErr r P → OnErr r Q
on-err-then (Ok x) P Q go h = tt
on-err-then (Err e) P Q go h = go h

module _ (picks : List Picked) (gone next : ℕ) (more : gone ≤ next) (a b c : Option (List ℕ))
    (before : Appends a b (signs_picked (take gone picks))) where
  -- the signs of the next picks are written after those of the first ones
  pub signs-more : Appends b c (signs_picked (take (next - gone) (drop gone picks))) → Appends a c (signs_picked (take next picks))
  signs-more now =
      subst (λ (l : List ℕ). Appends a c l)
      (sym (signs-append (take gone picks) (take (next - gone) (drop gone picks)))
      ∙ ap signs_picked (sym (take-add gone (next - gone) picks) ∙ ap (λ (n : ℕ). take n picks) (omega (arith, more))))
      (Appends-trans a b c _ _ before now)

  -- if the sink fails, a prefix of all signs is written
  pub signs-front : AppendsFront b c (signs_picked (take (next - gone) (drop gone picks))) → AppendsFront a c (signs_picked picks)
  signs-front now =
      let rest = drop (next - gone) (drop gone picks) in
      subst (λ (l : List ℕ). AppendsFront a c l)
      (ap (λ (l : List ℕ). signs_picked (take gone picks) ++ l) (sym (signs-append (take (next - gone) (drop gone picks)) rest))
      ∙ sym (signs-append (take gone picks) (take (next - gone) (drop gone picks) ++ rest))
      ∙ ap signs_picked (ap (λ (l : List Picked). take gone picks ++ l) (take-append-drop (next - gone) (drop gone picks)) ∙ take-append-drop gone picks))
      (AppendsFront-after a b c _ _ before (AppendsFront-longer b c _ (signs_picked rest) now))

-- seats of a run have signs
pub mades-low : (seats turns : ℕ) (mades : List Made) (entries : List Entry) → seats ≤ 32 → AreTold seats turns mades entries
    → All (λ (made : Made). made.seat < 32) mades
mades-low seats turns mades entries most told =
    All-weaker (λ (made : Made). made.seat < seats) (λ (made : Made). made.seat < 32) (λ made low. omega (arith, low, most)) mades told.within

pub picks-low : (mades : List Made) → All (λ (made : Made). made.seat < 32) mades → All (λ (pick : Picked). pick.seat < 32) (picks_of mades)
picks-low mades low = All-map (λ (pick : Picked). pick.seat < 32) picked_by mades low

pub seats-low : (picks : List Picked) (n : ℕ) → All (λ (pick : Picked). pick.seat < 32) picks → AreSeats (seats_of (take n picks))
seats-low picks n low =
    All-map (λ (seat : ℕ). seat < 32) (λ (pick : Picked). pick.seat) (take n picks) (All-take (λ (pick : Picked). pick.seat < 32) n picks low)

module _ (limits : Limits) (before : Ends) (strategy later : List (List ℕ) → List ℕ) (mades : List Made) (extra : Extra) (end : End Val)
    (is : extra ≡ Extra.Picked mades) where
  -- the picks of a run that was played are those of the strategy that answered
  pub played-picked : (code : FlatCode) → IsPlayed fragments (opening_of code limits before) mades end
      → PicksSeats strategy (questions limits.seats (picks_of mades)) (seats_of (picks_of mades)) later
      → IsPicked strategy code limits before (RunResult.Engine end extra)
  played-picked code played answers = record {
    mades = mades;
    extra_is = ap Some is;
    played = played;
    told = subst (λ (n : ℕ). AreTold limits.seats n mades end.entries) (sym played.turns)
        (subst (λ (es : List Entry). AreTold limits.seats played.now.core.turns mades es) (sym played.entries) played.playing.told);
    later = later;
    answers = answers;
  }

  -- so it is for the code whose share was run, with limits for which options ask
  pub picked-with : (options : Options) (code share : FlatCode) → share ≡ code → limits ≡ limits_of options
      → IsPlayed fragments (opening_of share limits before) mades end
      → PicksSeats strategy (questions limits.seats (picks_of mades)) (seats_of (picks_of mades)) later
      → IsPicked strategy code (limits_of options) before (RunResult.Engine end extra)
  picked-with options code share same asked played answers =
      subst (λ (k : FlatCode). IsPicked strategy k (limits_of options) before (RunResult.Engine end extra)) same
      (subst (λ (l : Limits). IsPicked strategy share l before (RunResult.Engine end extra)) asked (played-picked share played answers))
