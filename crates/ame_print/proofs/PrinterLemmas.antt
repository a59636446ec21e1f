-- The bytes that tokens add to a text.
use Rattle.std.proofs.Common.{◌≡◌, refl, ap, ◌∙◌, sym, List, [], ◌∷◌, ◌++◌, append_assoc, append-nil}
use Rattle.ame_print.specs.Layout.{Printed, layout, gap, is_open_kind}
use Rattle.ame_print.specs.Printer.{Page, with_token, with_tokens}

-- tokens one after another
pub append : (page : Page) (first second : List Printed) → with_tokens page (first ++ second) ≡ with_tokens (with_tokens page first) second
append page [] second = refl
append page (token ∷ rest) second = append (with_token page token) rest second

-- the tokens are laid out after the text
pub text_of_page : (page : Page) (tokens : List Printed) → (with_tokens page tokens).text ≡ page.text ++ layout page.is_first tokens
text_of_page page [] = sym (append-nil page.text)
text_of_page page (token ∷ rest) =
    let before = gap page.is_first token.kind in
    let more = layout (is_open_kind token.kind) rest in
    text_of_page (with_token page token) rest
    ∙ append_assoc (page.text ++ before) token.bytes more
    ∙ append_assoc page.text before (token.bytes ++ more)
    ∙ ap (λ after. page.text ++ after) (sym (append_assoc before token.bytes more))
