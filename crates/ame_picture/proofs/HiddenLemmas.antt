-- A page holds the hidden texts that were appended to it.
use Rattle.std.proofs.Common.{◌≡◌, ℕ, List, ◌++◌, append_assoc}
use Rattle.ame_page.specs.Escapes.{escaped}
use Rattle.ame_picture.specs.declared.constants.TheConstants.{HIDDEN_END}
use Rattle.ame_picture.specs.Hidden.{hidden_begin, hidden, HasHidden}

regroup : (p b t c e : List ℕ) → p ++ (b ++ t ++ c) ++ e ≡ p ++ (b ++ (t ++ (c ++ e)))
regroup p b t c e = simp append_assoc

pub holds : (page name text rest : List ℕ) → HasHidden (page ++ hidden name text ++ rest) name text
unfolding hidden
holds page name text rest = record {
  front = page;
  behind = rest;
  split = regroup page (hidden_begin name) (escaped text) HIDDEN_END.now rest;
}

pub holds_before : (page name text more rest : List ℕ) → HasHidden (page ++ hidden name text ++ more ++ rest) name text
unfolding hidden
holds_before page name text more rest = record {
  front = page;
  behind = more ++ rest;
  split = regroup_two page (hidden_begin name) (escaped text) HIDDEN_END.now more rest;
}
  where
    regroup_two : (p b t c m e : List ℕ) → p ++ (b ++ t ++ c) ++ m ++ e ≡ p ++ (b ++ (t ++ (c ++ (m ++ e))))
    regroup_two p b t c m e = simp append_assoc
