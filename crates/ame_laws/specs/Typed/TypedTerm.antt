-- A typed term as a part in frames.
use Rattle.std.specs.Prelude.{◌≡◌, true, List}
use Rattle.ame_term.specs.Tree.{Typ, Tree}
use Rattle.ame_term.specs.Signature.{Signature}
use Rattle.ame_term.specs.Frame.{Frame, plug_all, side_of}
use Rattle.ame_term.specs.Redex.{is_redex}
use Rattle.ame_term.specs.Act.{act_of}
use Rattle.ame_term.specs.declared.types.Effect.{Effect}
use Rattle.ame_laws.specs.Typed.StoreTyping.{StoreTyping, Grows}
use Rattle.ame_laws.specs.Typed.Fragment.{IsFragment, effect_at}
use Rattle.ame_laws.specs.Typed.TypedAct.{IsTypedAct}

-- A part in frames has a type, and if it is a redex, its act is one of this type. With another part
-- of this type in its place the term keeps its own, also later.
pub record IsTypedAt (signature : Signature) (cells : StoreTyping) (q : Effect) (frames : List Frame) (part : Tree) (t : Typ) : Type 0 where
  pub part_type : Typ
  pub part_typed : IsFragment signature cells (effect_at (side_of frames) q) part part_type
  pub act_typed : is_redex part ≡ true → IsTypedAct signature cells (effect_at (side_of frames) q) part_type (act_of part)
  pub refilled : (later : StoreTyping) → Grows cells later → (other : Tree) → IsFragment signature later (effect_at (side_of frames) q) other part_type
      → IsFragment signature later q (plug_all frames other) t
