-- Facts of a machine that has a need.
use Rattle.std.specs.Prelude.{◌≡◌, ◌<◌, true, false, Some}
use Rattle.ame_term.specs.Tree.{Val, Tree}
use Rattle.ame_term.specs.Context.{Focus, focus}
use Rattle.ame_term.specs.Act.{Act, act_of}
use Rattle.ame_term.specs.Height.{max_height}
use Rattle.ame_term.specs.State.{at_value, at_unprotected, closed_value}
use Rattle.ame_journal.specs.Replayed.{is_false_condition, coming_height}
use Rattle.ame_machine.specs.Run.Local.{LocalState, one_step}
use Rattle.ame_machine.specs.MachineView.{MachineView, running_side, place_shown}
use Rattle.ame_machine.specs.Need.{Need}

-- its redex, on the side on which it makes its steps, does this
abbrev pub HasNextAct : MachineView → Act → Type 0
HasNextAct m act = (redex : Tree) × (focus m.term ≡ Focus.AtRedex (running_side m) redex) × (act_of redex ≡ act)

-- The next step. Each want but `Tall` has no step without an input.
abbrev pub Comes : MachineView → Need → Type 0
Comes m Need.Step = (p : LocalState) × (one_step (running_side m) (place_shown m) ≡ Some p)
Comes m (Need.Read l) = HasNextAct m (Act.Reads l)
Comes m (Need.Write l) = (v : Val) × HasNextAct m (Act.Writes l v)
Comes m (Need.Alloc sort number) = (v : Val) × HasNextAct m (Act.Allocates sort number v)
Comes m (Need.Peek l) = (m.inside ≡ true) × HasNextAct m (Act.Peeks l)
Comes m Need.Block = (m.inside ≡ false) × (is_false_condition (focus m.term) ≡ true)
Comes m Need.Done = (m.inside ≡ false) × (at_value (focus m.term) ≡ true)
Comes m Need.Leave = (m.inside ≡ false) × (at_unprotected (focus m.term) ≡ true)
Comes m Need.Close = (m.inside ≡ true) × ((v : Val) × (closed_value (focus m.term) ≡ Some v))
Comes m (Need.Device device n) = (m.inside ≡ true) × HasNextAct m (Act.Calls device n)
Comes m Need.Spawn = (m.inside ≡ true) × ((body : Tree) × HasNextAct m (Act.Spawns body))
Comes m (Need.Print n) = (m.inside ≡ true) × HasNextAct m (Act.Prints n)
Comes m Need.Tall = max_height < coming_height (running_side m) (focus m.term)
Comes m Need.Stuck = Unit {0}
