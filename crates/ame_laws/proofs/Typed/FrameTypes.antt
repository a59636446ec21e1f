-- A typed term as a part in frames, and another part in its place.
use Rattle.std.proofs.Common.{◌≡◌, List, [], ◌∷◌, refl, subst, inl}
use Rattle.ame_term.specs.Tree.{Typ, Tree, Trees}
use Rattle.ame_term.specs.Signature.{Signature}
use Rattle.ame_term.specs.Scope.{unscoped}
use Rattle.ame_term.specs.Frame.{Frame, Side, plug, plug_all, side_in, side_of}
use Rattle.ame_term.specs.SourceTerm.{HasTwo}
use Rattle.ame_term.specs.HasType.{HasType, binding, sequence, choice, unprotected, one, two, last, more}
use Rattle.ame_term.specs.declared.types.Effect.{Effect}
use Rattle.ame_laws.specs.Typed.StoreTyping.{StoreTyping, Grows}
use Rattle.ame_laws.specs.Typed.WellFormed.{IsWellFormed, AreWellFormed}
use Rattle.ame_laws.specs.Typed.Fragment.{IsFragment, effect_at}
use Rattle.ame_laws.specs.Typed.TypedTerm.{IsTypedAt}
use Rattle.ame_laws.proofs.Typed.Weaken.{within_itself, weaken_cells, weaken_last}
use Rattle.ame_laws.proofs.Typed.Acts.{typed_act}

-- the effect in a frame's hole
abbrev pub effect_in : Frame → Effect → Effect
effect_in Frame.Under q = Effect.Unprotected
effect_in _ q = q

-- a frame's effect and those of the frames in it
further_in : (f : Frame) (side : Side) (q : Effect) → effect_at side (effect_in f q) ≡ effect_at (side_in f side) q
further_in (Frame.One op) side q = refl
further_in (Frame.Left op right) side q = refl
further_in (Frame.Right op left) side q = refl
further_in (Frame.Bound x body) side q = refl
further_in (Frame.First rest) side q = refl
further_in (Frame.Test a b) side q = refl
further_in Frame.Under Side.Protected q = refl
further_in Frame.Under Side.Unprotected q = refl

two_replaced : (e u : Tree) (rest : Trees) → HasTwo (Trees.More e rest) → HasTwo (Trees.More u rest)
two_replaced e u Trees.None h = h
two_replaced e u (Trees.More next rest) h = h

-- a well-formed part, and another one in its place
formed_in : (f : Frame) (e : Tree) → IsWellFormed (plug f e) → IsWellFormed e × ((u : Tree) → IsWellFormed u → IsWellFormed (plug f u))
unfolding IsWellFormed AreWellFormed
formed_in (Frame.One op) e h = (h, λ u k. k)
formed_in (Frame.Left op right) e h = (h.0, λ u k. (k, h.1))
formed_in (Frame.Right op left) e h = (h.1, λ u k. (h.0, k))
formed_in (Frame.Bound x body) e h = (h.0, λ u k. (k, h.1))
formed_in (Frame.First rest) e h = (h.1.0, λ u k. (two_replaced e u rest h.0, (k, h.1.1)))
formed_in (Frame.Test a b) e h = (h.0, λ u k. (k, h.1, h.2))
formed_in Frame.Under e h = (h, λ u k. k)

formed_in_all : (fs : List Frame) (e : Tree) → IsWellFormed (plug_all fs e) → IsWellFormed e × ((u : Tree) → IsWellFormed u → IsWellFormed (plug_all fs u))
formed_in_all [] e h = (h, λ u k. k)
formed_in_all (f ∷ fs) e h =
    let outer = formed_in f (plug_all fs e) h in
    let inner = formed_in_all fs e outer.0 in
    (inner.0, λ u k. outer.1 (plug_all fs u) (inner.1 u k))

module _ (signature : Signature) (cells : StoreTyping) where
  -- a part has a type under an effect, and with another part of this type a whole has its own
  pub record Holds (part_effect : Effect) (e : Tree) (q : Effect) (whole : Tree → Tree) (t : Typ) : Type 0 where
    pub part_type : Typ
    pub part : HasType signature cells unscoped part_effect e part_type
    pub back : (later : StoreTyping) → Grows cells later → (u : Tree) → HasType signature later unscoped part_effect u part_type → HasType signature later unscoped q (whole u) t

  typed_in : (f : Frame) (e : Tree) (q : Effect) (t : Typ) → HasType signature cells unscoped q (plug f e) t → Holds (effect_in f q) e q (plug f) t
  typed_in (Frame.One op) e q t (one {t = p} row a) = record { part_type = p; part = a; back = λ later grows u c. one row c }
  typed_in (Frame.Left op right) e q t (two {t = p} row a b) =
      record { part_type = p; part = a; back = λ later grows u c. two row c (weaken_cells signature cells later grows b) }
  typed_in (Frame.Right op left) e q t (two {u = p} row a b) =
      record { part_type = p; part = b; back = λ later grows u c. two row (weaken_cells signature cells later grows a) c }
  typed_in (Frame.Bound x body) e q t (binding {t = p} a b) =
      record { part_type = p; part = a; back = λ later grows u c. binding c (weaken_cells signature cells later grows b) }
  typed_in (Frame.First rest) e q t (sequence (last a)) = record { part_type = t; part = a; back = λ later grows u c. sequence (last c) }
  typed_in (Frame.First rest) e q t (sequence (more a b)) = record {
    part_type = Typ.Unit;
    part = a;
    back = λ later grows u c. sequence (more c (weaken_last signature cells later grows b unscoped (within_itself unscoped) q (inl refl)));
  }
  typed_in (Frame.Test x y) e q t (choice a b c) =
      record { part_type = Typ.Bool; part = a; back = λ later grows u d. choice d (weaken_cells signature cells later grows b) (weaken_cells signature cells later grows c) }
  typed_in Frame.Under e _ t (unprotected a) = record { part_type = t; part = a; back = λ later grows u c. unprotected c }

  typed_in_all : (fs : List Frame) (e : Tree) (q : Effect) (t : Typ) → HasType signature cells unscoped q (plug_all fs e) t
      → Holds (effect_at (side_of fs) q) e q (plug_all fs) t
  typed_in_all [] e q t h = record { part_type = t; part = h; back = λ later grows u c. c }
  typed_in_all (f ∷ fs) e q t h =
      let outer = typed_in f (plug_all fs e) q t h in
      let inner = typed_in_all fs e (effect_in f q) outer.part_type outer.part in
      subst (λ (z : Effect). Holds z e q (plug_all (f ∷ fs)) t) (further_in f (side_of fs) q)
      (record { part_type = inner.part_type; part = inner.part; back = λ later grows u c. outer.back later grows (plug_all fs u) (inner.back later grows u c) })

  -- a typed term as a part in frames
  pub placed : (q : Effect) (fs : List Frame) (part : Tree) (t : Typ) → IsFragment signature cells q (plug_all fs part) t → IsTypedAt signature cells q fs part t
  placed q fs part t typed =
      let h = typed_in_all fs part q t typed.0 in
      let formed = formed_in_all fs part typed.1 in
      record {
        part_type = h.part_type;
        part_typed = (h.part, formed.0);
        act_typed = λ e. typed_act signature cells part e (effect_at (side_of fs) q) h.part_type h.part formed.0;
        refilled = λ later grows other a. (h.back later grows other a.0, formed.1 other a.1);
      }
