-- Each `do` keeps two parts or more.
use Rattle.std.proofs.Common.{ℕ, Bool, true, false, Option, Some, None}
use Rattle.std.specs.Prelude.{if◌then◌else◌, ◌==◌}
use Rattle.ame_term.specs.Tree.{OwnName, Head, Val, Tree, Trees}
use Rattle.ame_term.specs.SourceTerm.{HasTwo, IsConstant, IsSourceTerm, AreSourceTerms}
use Rattle.ame_term.specs.Substitute.{binds, substitute, substitute_all, with_own, entered}
use Rattle.ame_laws.specs.Typed.WellFormed.{IsWellFormed, IsWellFormedValue, AreWellFormed}

either_formed : (b : Bool) (e f : Tree) → IsWellFormed e → IsWellFormed f → IsWellFormed (if b then e else f)
either_formed true e f a c = a
either_formed false e f a c = c

held_formed : (b : Bool) (w : Val) (y : ℕ) → IsWellFormedValue w → IsWellFormed (if b then Tree.Held w else Tree.Var y)
unfolding IsWellFormed
held_formed true w y formed = formed
held_formed false w y formed = tt

two_substituted : (parts : Trees) (x : ℕ) (w : Val) → HasTwo parts → HasTwo (substitute_all parts x w)
unfolding substitute_all
two_substituted Trees.None x w two = two
two_substituted (Trees.More part Trees.None) x w two = two
two_substituted (Trees.More part (Trees.More next rest)) x w two = two

module _ (x : ℕ) (w : Val) (value : IsWellFormedValue w) where
  mutual
    unfolding IsWellFormed AreWellFormed substitute substitute_all

    pub formed_substituted : (e : Tree) → IsWellFormed e → IsWellFormed (substitute e x w)
    formed_substituted (Tree.Held v) f = f
    formed_substituted (Tree.Var y) f = held_formed (y == x) w y value
    formed_substituted (Tree.Lambda head body) f = either_formed (binds head x) body (substitute body x w) f (formed_substituted body f)
    formed_substituted (Tree.Let y a b) f = (formed_substituted a f.0, either_formed (y == x) b (substitute b x w) f.1 (formed_substituted b f.1))
    formed_substituted (Tree.Do parts) f = (two_substituted parts x w f.0, formed_substituted_all parts f.1)
    formed_substituted (Tree.If a b c) f = (formed_substituted a f.0, formed_substituted b f.1, formed_substituted c f.2)
    formed_substituted (Tree.Async a) f = formed_substituted a f
    formed_substituted (Tree.Unprotected a) f = formed_substituted a f
    formed_substituted (Tree.One op a) f = formed_substituted a f
    formed_substituted (Tree.Two op a b) f = (formed_substituted a f.0, formed_substituted b f.1)

    pub formed_substituted_all : (parts : Trees) → AreWellFormed parts → AreWellFormed (substitute_all parts x w)
    formed_substituted_all Trees.None f = tt
    formed_substituted_all (Trees.More part rest) f = (formed_substituted part f.0, formed_substituted_all rest f.1)

-- a function's body entered
pub formed_entered : (head : Head) (body : Tree) (v : Val) → IsWellFormed body → IsWellFormedValue v → IsWellFormed (entered head body v)
unfolding IsWellFormed IsWellFormedValue
formed_entered head body v f g = own head.own (substitute body head.param v) (formed_substituted head.param v g body f)
  where
    own : (o : Option OwnName) (e : Tree) → IsWellFormed e → IsWellFormed (with_own o head.param e (Val.Fun head body))
    own None e h = h
    own (Some name) e h = either_formed (name.name == head.param) e (substitute e name.name (Val.Fun head body)) h (formed_substituted name.name (Val.Fun head body) f e h)

constant_formed : (v : Val) → IsConstant v → IsWellFormedValue v
unfolding IsWellFormedValue
constant_formed Val.Unit c = tt
constant_formed (Val.Bool b) c = tt
constant_formed (Val.Int n) c = tt
constant_formed (Val.Loc l) c = tt
constant_formed (Val.Fun head body) c = absurd c
constant_formed (Val.Pair a b) c = absurd c

mutual
  unfolding IsWellFormed AreWellFormed IsSourceTerm AreSourceTerms

  -- a term as texts spell them
  pub source_formed : (e : Tree) → IsSourceTerm e → IsWellFormed e
  source_formed (Tree.Held v) w = constant_formed v w
  source_formed (Tree.Var x) w = tt
  source_formed (Tree.Lambda head body) w = source_formed body w
  source_formed (Tree.Let x a b) w = (source_formed a w.0, source_formed b w.1)
  source_formed (Tree.Do parts) w = (w.0, source_formed_all parts w.1)
  source_formed (Tree.If a b c) w = (source_formed a w.0, source_formed b w.1, source_formed c w.2)
  source_formed (Tree.Async a) w = source_formed a w
  source_formed (Tree.Unprotected a) w = source_formed a w
  source_formed (Tree.One op a) w = source_formed a w
  source_formed (Tree.Two op a b) w = (source_formed a w.0, source_formed b w.1)

  pub source_formed_all : (parts : Trees) → AreSourceTerms parts → AreWellFormed parts
  source_formed_all Trees.None w = tt
  source_formed_all (Trees.More part rest) w = (source_formed part w.0, source_formed_all rest w.1)
