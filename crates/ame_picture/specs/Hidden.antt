-- The texts that a picture holds and doesn't show.
use Rattle.std.specs.Prelude.{◌≡◌, ℕ, List, ◌++◌, codes}
use Rattle.ame_page.specs.Escapes.{escaped}
use Rattle.ame_picture.specs.declared.constants.TheConstants.{HIDDEN, HIDDEN_END}

-- the beginning of a text that is not shown
unfoldable pub hidden_begin : List ℕ → List ℕ
hidden_begin name = HIDDEN.now ++ name ++ codes "\">"

-- such a text
unfoldable pub hidden : List ℕ → List ℕ → List ℕ
hidden name text = hidden_begin name ++ escaped text ++ HIDDEN_END.now

-- A page holds a hidden text of this name: what stands after its beginning, up to its end, is the text, escaped.
pub record HasHidden (page name text : List ℕ) : Type 0 where
  pub front : List ℕ
  pub behind : List ℕ
  pub split : page ≡ front ++ (hidden_begin name ++ (escaped text ++ (HIDDEN_END.now ++ behind)))
