-- Writes, over the bytes that a sink reports.
use Rattle.std.proofs.Common.{◌≡◌, ℕ, ◌+◌, List, ◌++◌, take, drop, Option, sym, ap, ◌∙◌, subst, append_assoc}
use Rattle.std.proofs.Math.Seq.{take-add}
use Rattle.std.proofs.lemmas.List.{take-append-drop}
use Rattle.std.specs.Io.KnownBytes.{Appends}
use Rattle.std.proofs.KnownBytes.{Appends-trans}
use Rattle.ame_io.specs.Writes.{AppendsFirst, AppendsFront}

-- the first bytes of a text, and then some more of it
pub Appends-take_more : (a b c : Option (List ℕ)) (text rest : List ℕ) (gone n : ℕ) → rest ≡ drop gone text → Appends a b (take gone text)
    → Appends b c (take n rest) → Appends a c (take (gone + n) text)
Appends-take_more a b c text rest gone n is p q =
    subst (Appends a c) (ap (λ l. take gone text ++ take n l) is ∙ sym (take-add gone n text)) (Appends-trans a b c _ _ p q)

-- the first n bytes of a text are a prefix of it
pub AppendsFront-first : (n : ℕ) (a b : Option (List ℕ)) (text : List ℕ) → AppendsFirst n a b text → AppendsFront a b text
AppendsFront-first n a b text p = record { front = take n text; rest = drop n text; split = sym (take-append-drop n text); appended = p }

-- a prefix of a text is a prefix of a longer one
pub AppendsFront-longer : (a b : Option (List ℕ)) (text more : List ℕ) → AppendsFront a b text → AppendsFront a b (text ++ more)
AppendsFront-longer a b text more p = record {
  front = p.front;
  rest = p.rest ++ more;
  split = ap (λ l. l ++ more) p.split ∙ append_assoc p.front p.rest more;
  appended = p.appended;
}

-- a whole text, and then a prefix of the next one
pub AppendsFront-after : (a b c : Option (List ℕ)) (text next : List ℕ) → Appends a b text → AppendsFront b c next → AppendsFront a c (text ++ next)
AppendsFront-after a b c text next p q = record {
  front = text ++ q.front;
  rest = q.rest;
  split = ap (λ l. text ++ l) q.split ∙ sym (append_assoc text q.front q.rest);
  appended = Appends-trans a b c text q.front p q.appended;
}
