-- The tokens of the parts of a `do` form, one part more at a time.
use Rattle.std.proofs.Common.{◌≡◌, ℕ, ◌+◌, ◌<◌, zero, suc, List, [], ◌∷◌, ◌++◌, length, get_or, take, sym, ap, ◌∙◌, append_assoc, append-nil, arith}
use Rattle.ame_lex.specs.Bytes.{Text}
use Rattle.ame_term.specs.View.{tree_of, trees_of}
use Rattle.ame_term.specs.declared.term.Term.{Term}
use Rattle.ame_print.specs.Tokens.{term_tokens, row_tokens}

row_upto : (all : List Text) (parts : List Term) (i : ℕ) (part : Term) → i < length parts → part ≡ get_or parts i part →
    row_tokens all (trees_of (take (suc i) parts)) ≡ row_tokens all (trees_of (take i parts)) ++ term_tokens all (tree_of part)
unfolding row_tokens
row_upto all [] i part below is = absurd (omega (arith, below))
row_upto all (p ∷ ps) zero part below is = append-nil (term_tokens all (tree_of p)) ∙ ap (λ t. term_tokens all (tree_of t)) (sym is)
row_upto all (p ∷ ps) (suc i) part below is =
    ap (λ more. term_tokens all (tree_of p) ++ more) (row_upto all ps i part (omega (arith, below)) is)
    ∙ sym (append_assoc (term_tokens all (tree_of p)) (row_tokens all (trees_of (take i ps))) (term_tokens all (tree_of part)))

pub row_more : (all : List Text) (parts : List Term) (i : ℕ) (part : Term) → i < length parts → part ≡ get_or parts i part →
    row_tokens all (trees_of (take (i + 1) parts)) ≡ row_tokens all (trees_of (take i parts)) ++ term_tokens all (tree_of part)
row_more all parts i part below is =
    let e : i + 1 ≡ suc i = omega arith in
    ap (λ n. row_tokens all (trees_of (take n parts))) e ∙ row_upto all parts i part below is
