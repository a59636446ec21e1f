-- A redex is replaced as a whole.
use Rattle.std.proofs.Common.{◌≡◌, Bool, true, false, ◌&&◌, refl, sym}
use Rattle.ame_term.specs.Tree.{Tree, Trees, is_held}
use Rattle.ame_term.specs.Context.{fill, fill_first}
use Rattle.ame_term.specs.Redex.{is_redex, starts_held}

left : (a b : Bool) → (a && b) ≡ true → a ≡ true
left true b e = refl
left false b e = cc

right : (a b : Bool) → (a && b) ≡ true → b ≡ true
right true b e = e
right false b e = cc

fill_first-held : (parts : Trees) (u : Tree) → starts_held parts ≡ true → u ≡ fill_first parts u
unfolding fill_first
fill_first-held Trees.None u held = refl
fill_first-held (Trees.More part rest) u held = sym (rw held)

pub fill_redex : (t u : Tree) → is_redex t ≡ true → u ≡ fill t u
unfolding fill
fill_redex (Tree.Held v) u e = cc
fill_redex (Tree.Var x) u e = refl
fill_redex (Tree.Lambda head body) u e = refl
fill_redex (Tree.Let x bound body) u e = sym (rw e)
fill_redex (Tree.Do parts) u e = fill_first-held parts u e
fill_redex (Tree.If test then_part else_part) u e = sym (rw e)
fill_redex (Tree.Async body) u e = refl
fill_redex (Tree.Unprotected part) u e = sym (rw e)
fill_redex (Tree.One op part) u e = sym (rw e)
fill_redex (Tree.Two op f a) u e = sym (rw (left (is_held f) (is_held a) e, right (is_held f) (is_held a) e))
