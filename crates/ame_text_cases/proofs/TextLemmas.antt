-- The generated text is lines of the program's canonical tokens.
use Rattle.std.proofs.Common.{◌≡◌, refl, sym, ap, subst, ◌∙◌, ℕ, zero, suc, ◌+◌, ◌≤◌, ◌<◌, ◌^◌, pos, true, false, List, [], ◌∷◌, ◌++◌, map, append_assoc, append-nil, decimal, arith}
use Rattle.std.specs.Prelude.{codes}
use Rattle.std.specs.List.{AllByRecursion, flat_map}
use Rattle.std.proofs.lemmas.Fmt.{decimal_digit}
use Rattle.ame_lex.specs.Bytes.{Text, class_of, is_word_byte, begins}
use Rattle.ame_lex.specs.declared.tokens.Kind.TheVariants as kind
use Rattle.ame_term.specs.declared.types.Sort.TheVariants as sorts
use Rattle.ame_term.specs.Tree.{Tree, Trees}
use Rattle.ame_parse.specs.declared.words.Word.TheVariants as w
use Rattle.ame_parse.specs.Forms.{row}
use Rattle.ame_print.specs.Layout.{Printed, open_token, close_token, word, number_token, symbol}
use Rattle.ame_print.specs.Tokens.{form, term_tokens, row_tokens}
use Rattle.ame_print.proofs.Canon.{IsAlone}
use Rattle.ame_print.proofs.Alone.{opening_alone, closing_alone, reserved, sort_fixed}
use Rattle.ame_gen.specs.declared.transfers.Transfer.{Transfer}
use Rattle.ame_gen.specs.Transfers.{accounts, transfers, IsTransfer}
use Rattle.ame_gen.specs.Balances.{initial_balance}
use Rattle.ame_gen.specs.Template.{account_line, transfer_line, print_of, report_line, account_lines, transfer_lines, program_text}
use Rattle.ame_text_cases.specs.Workload.{workload_names, counter, transfer_term, print_term, report_term, with_cells, members_term, workload_term}
use Rattle.ame_text_cases.proofs.Lexing.{IsLexed, no_tokens, laid, laid_append, laid_lexed, IsLine, line_of, two_lines, lines}
use Rattle.ame_text_cases.proofs.PartLemmas.{number_fixed}
use Rattle.ame_text_cases.proofs.ReadsLemmas.{spelled, fixed, reads_transfer, reads_print, reads_waits, waits_term, accounts_are_cells}

-- ---- how names and small numbers are spelled

spelled_account : (x : ℕ) → x < 8 → spelled x ≡ 97 ∷ decimal x
spelled_account zero h = ap (λ z. 97 ∷ z) (sym (decimal_digit 0 (omega arith)))
spelled_account (suc zero) h = ap (λ z. 97 ∷ z) (sym (decimal_digit 1 (omega arith)))
spelled_account (suc (suc zero)) h = ap (λ z. 97 ∷ z) (sym (decimal_digit 2 (omega arith)))
spelled_account (suc (suc (suc zero))) h = ap (λ z. 97 ∷ z) (sym (decimal_digit 3 (omega arith)))
spelled_account (suc (suc (suc (suc zero)))) h = ap (λ z. 97 ∷ z) (sym (decimal_digit 4 (omega arith)))
spelled_account (suc (suc (suc (suc (suc zero))))) h = ap (λ z. 97 ∷ z) (sym (decimal_digit 5 (omega arith)))
spelled_account (suc (suc (suc (suc (suc (suc zero)))))) h = ap (λ z. 97 ∷ z) (sym (decimal_digit 6 (omega arith)))
spelled_account (suc (suc (suc (suc (suc (suc (suc zero))))))) h = ap (λ z. 97 ∷ z) (sym (decimal_digit 7 (omega arith)))
spelled_account (suc (suc (suc (suc (suc (suc (suc (suc x)))))))) h = absurd (omega (arith, h))

-- a number by its bytes
abbrev literal : ℕ → Text → Printed
literal value bytes = record { kind = kind.Number (pos value); bytes = bytes }

zero_token : number_token (pos 0) ≡ literal 0 (codes "0")
zero_token = ap (literal 0) (decimal_digit 0 (omega arith))

one_token : number_token (pos 1) ≡ literal 1 (codes "1")
one_token = ap (literal 1) (decimal_digit 1 (omega arith))

-- ---- joined texts, from the right

module _ {X : Type 0} where
  five : (a b c d e : List X) → a ++ b ++ c ++ d ++ e ≡ a ++ (b ++ (c ++ (d ++ e)))
  five a b c d e = simp append_assoc

  six : (a b c d e f : List X) → a ++ b ++ c ++ d ++ e ++ f ≡ a ++ (b ++ (c ++ (d ++ (e ++ f))))
  six a b c d e f = simp append_assoc

seventeen : (a b c d e f g h i j k l m n o p q : Text) → a ++ b ++ c ++ d ++ e ++ f ++ g ++ h ++ i ++ j ++ k ++ l ++ m ++ n ++ o ++ p ++ q
    ≡ a ++ (b ++ (c ++ (d ++ (e ++ (f ++ (g ++ (h ++ (i ++ (j ++ (k ++ (l ++ (m ++ (n ++ (o ++ (p ++ q)))))))))))))))
seventeen a b c d e f g h i j k l m n o p q = simp append_assoc

-- ---- a transfer's line

abbrev get_by : Text → List Printed
get_by name = form (word (codes "get") ∷ word name ∷ [])

abbrev set_by : ℕ → Text → Printed → List Printed
set_by operator name n = form (word (codes "set") ∷ word name ∷ form (symbol operator ∷ get_by name ++ n ∷ []))

abbrev transfer_by : ℕ → Text → Text → Printed → List Printed
transfer_by amount from to one =
    form (word (codes "async") ∷ form (word (codes "do")
    ∷ form (word (codes "blockUntil") ∷ form (word (codes "not") ∷ form (symbol 60 ∷ get_by from ++ number_token (pos amount) ∷ [])))
    ++ set_by 45 from (number_token (pos amount)) ++ set_by 43 to (number_token (pos amount)) ++ set_by 43 (codes "done") one))

transfer_tokens : (t : Transfer) → transfer_by t.amount (spelled t.from) (spelled t.to) (number_token (pos 1)) ≡ term_tokens workload_names (transfer_term t)
unfolding term_tokens
transfer_tokens t = refl

transfer_bytes : (t : Transfer) → transfer_line t ≡ laid true (transfer_by t.amount (97 ∷ decimal t.from) (97 ∷ decimal t.to) (literal 1 (codes "1"))) (10 ∷ [])
transfer_bytes t =
    let from = decimal t.from in
    let to = decimal t.to in
    let amount = decimal t.amount in
    seventeen (codes "(async (do (blockUntil (not (< (get a") from (codes ") ") amount (codes "))) (set a") from (codes " (- (get a") from (codes ") ") amount (codes ")) (set a") to
    (codes " (+ (get a") to (codes ") ") amount (codes ")) (set done (+ (get done) 1))))\n")

transfer_alike : (amount : ℕ) (f f' g g' : Text) (o o' : Printed) → f ≡ f' → g ≡ g' → o ≡ o' → transfer_by amount f' g' o' ≡ transfer_by amount f g o
transfer_alike amount f f' g g' o o' p q r =
    sym (ap (λ z. transfer_by amount z g o) p ∙ ap (λ z. transfer_by amount f' z o) q ∙ ap (λ z. transfer_by amount f' g' z) r)

transfer_is_line : (t : Transfer) → IsTransfer t → IsLine (transfer_line t) (term_tokens workload_names (transfer_term t))
transfer_is_line t valid =
    let alike = transfer_alike t.amount _ _ _ _ _ _ (spelled_account t.from valid.from) (spelled_account t.to valid.to) one_token in
    line_of (transfer_line t) (term_tokens workload_names (transfer_term t)) (transfer_bytes t ∙ ap (λ z. laid true z (10 ∷ [])) (alike ∙ transfer_tokens t)) (reads_transfer 0 t valid).alone

-- ---- the lines of cells

abbrev cell_by : Text → Printed → List Printed
cell_by name n = open_token ∷ word (codes "let") ∷ word name ∷ form (word (codes "ref") ∷ word (codes "p") ∷ n ∷ [])

abbrev cell_tokens : ℕ → ℕ → List Printed
cell_tokens start cell = cell_by (spelled cell) (number_token (pos start))

cell_alone : (start cell : ℕ) → cell < 9 → start < 2 ^ 63 → AllByRecursion IsAlone (cell_tokens start cell)
cell_alone start cell known small = (
  opening_alone,
  ((reserved w.Let).alone, ((fixed cell known).alone, (opening_alone, ((reserved w.Ref).alone, ((sort_fixed sorts.Protected).alone, ((number_fixed start small).alone, (closing_alone, tt))))))),
)

account_bytes : (start account : ℕ) → account_line start account ≡ laid true (cell_by (97 ∷ decimal account) (number_token (pos start))) (10 ∷ [])
account_bytes start account = five (codes "(let a") (decimal account) (codes " (ref p ") (decimal start) (codes ")\n")

account_is_line : (start account : ℕ) → start < 2 ^ 63 → account < 8 → IsLine (account_line start account) (cell_tokens start account)
account_is_line start account small below =
    line_of (account_line start account) (cell_tokens start account)
    (account_bytes start account ∙ ap (λ z. laid true (cell_by z (number_token (pos start))) (10 ∷ [])) (sym (spelled_account account below)))
    (cell_alone start account (omega (arith, below)) small)

counter_bytes : codes "(let done (ref p 0)\n" ≡ laid true (cell_by (codes "done") (literal 0 (codes "0"))) (10 ∷ [])
counter_bytes = refl

counter_is_line : IsLine (codes "(let done (ref p 0)\n") (cell_tokens 0 counter)
counter_is_line =
    line_of (codes "(let done (ref p 0)\n") (cell_tokens 0 counter) (counter_bytes ∙ ap (λ z. laid true (cell_by (codes "done") z) (10 ∷ [])) (sym zero_token))
    (cell_alone 0 counter (omega arith) (omega arith))

-- ---- the report's line

abbrev report_head : ℕ → List Printed
report_head size =
    open_token ∷ word (codes "async") ∷ open_token ∷ word (codes "do")
    ∷ form (word (codes "blockUntil") ∷ form (symbol 61 ∷ get_by (codes "done") ++ number_token (pos size) ∷ []))

head_alone : (size : ℕ) → size < 2 ^ 63 → AllByRecursion IsAlone (report_head size)
unfolding term_tokens
head_alone size small = (opening_alone, ((reserved w.Async).alone, (opening_alone, ((reserved w.Do).alone, (reads_waits 0 size small).alone))))

report_bytes : (size : ℕ) (prints : Text) → codes "(async (do (blockUntil (= (get done) " ++ decimal size ++ codes "))" ++ prints ++ codes "))\n"
    ≡ laid true (report_head size) (prints ++ codes "))\n")
report_bytes size prints = five (codes "(async (do (blockUntil (= (get done) ") (decimal size) (codes "))") prints (codes "))\n")

two_ends : (rest : List Printed) (later : List Printed) → ((rest ++ close_token ∷ []) ++ close_token ∷ []) ++ later ≡ rest ++ close_token ∷ close_token ∷ later
two_ends rest later = append_assoc (rest ++ close_token ∷ []) (close_token ∷ []) later ∙ append_assoc rest (close_token ∷ []) (close_token ∷ later)

report_tokens : (size : ℕ) (parts : Trees) (later : List Printed) → term_tokens workload_names (Tree.Async (Tree.Do (Trees.More (waits_term size) parts))) ++ later
    ≡ report_head size ++ (row_tokens workload_names parts ++ close_token ∷ close_token ∷ later)
unfolding term_tokens
report_tokens size parts later = ap (λ z. report_head size ++ z) (two_ends (row_tokens workload_names parts) later)

abbrev print_by : Text → List Printed
print_by name = form (word (codes "print") ∷ get_by name)

print_tokens : (x : ℕ) → print_by (spelled x) ≡ term_tokens workload_names (print_term x)
unfolding term_tokens
print_tokens x = refl

print_bytes : (x : ℕ) (after : Text) → print_of x ++ after ≡ laid false (print_by (97 ∷ decimal x)) after
print_bytes x after =
    append_assoc (codes " (print (get a" ++ decimal x) (codes "))") after ∙ append_assoc (codes " (print (get a") (decimal x) (codes "))" ++ after)

print_laid : (x : ℕ) (after : Text) → x < 8 → print_of x ++ after ≡ laid false (term_tokens workload_names (print_term x)) after
print_laid x after below = print_bytes x after ∙ ap (λ z. laid false z after) (ap print_by (sym (spelled_account x below)) ∙ print_tokens x)

prints_end : (xs : List ℕ) (after : Text) → begins is_word_byte after ≡ false → begins is_word_byte (flat_map print_of xs ++ after) ≡ false
unfolding class_of
prints_end [] after ends = ends
prints_end (x ∷ xs) after ends = refl

prints_lexed : (xs : List ℕ) (after : Text) (later : List Printed) → AllByRecursion (λ x. x < 8) xs → begins is_word_byte after ≡ false → IsLexed after later
    → IsLexed (flat_map print_of xs ++ after) (row_tokens workload_names (row (map print_term xs)) ++ later)
unfolding row_tokens
prints_lexed [] after later all ends lexed = lexed
prints_lexed (x ∷ xs) after later all ends lexed =
    let tokens = term_tokens workload_names (print_term x) in
    let others = row_tokens workload_names (row (map print_term xs)) in
    let text = flat_map print_of xs ++ after in
    let below : x < 8 = all.0 in
    let whole = laid_lexed false tokens text (others ++ later) (reads_print 0 x (omega (arith, below))).alone (prints_end xs after ends) (prints_lexed xs after later all.1 ends lexed) in
    subst (λ z. IsLexed z ((tokens ++ others) ++ later)) (sym (append_assoc (print_of x) (flat_map print_of xs) after ∙ print_laid x text below))
    (subst (λ z. IsLexed (laid false tokens text) z) (sym (append_assoc tokens others later)) whole)

feed_ends : (after : Text) → begins is_word_byte (codes "))\n" ++ after) ≡ false
unfolding class_of
feed_ends after = refl

report_is_line : (size : ℕ) → size < 2 ^ 63 → IsLine (report_line size) (term_tokens workload_names (report_term size))
report_is_line size small after later lexed =
    let prints = flat_map print_of accounts in
    let parts = row (map print_term accounts) in
    let ends = line_of (codes "))\n") (close_token ∷ close_token ∷ []) refl (closing_alone, (closing_alone, tt)) after later lexed in
    let printed = prints_lexed accounts (codes "))\n" ++ after) (close_token ∷ close_token ∷ later) accounts_are_cells (feed_ends after) ends in
    let whole = laid_lexed true (report_head size) (prints ++ (codes "))\n" ++ after)) (row_tokens workload_names parts ++ close_token ∷ close_token ∷ later) (head_alone size small)
    (prints_end accounts (codes "))\n" ++ after) (feed_ends after)) printed in
    let bytes : report_line size ++ after ≡ laid true (report_head size) (prints ++ (codes "))\n" ++ after)) =
    ap (λ z. z ++ after) (report_bytes size prints) ∙ laid_append true (report_head size) (prints ++ codes "))\n") after
    ∙ ap (λ z. laid true (report_head size) z) (append_assoc prints (codes "))\n") after) in
    subst (λ z. IsLexed z (term_tokens workload_names (report_term size) ++ later)) (sym bytes)
    (subst (λ z. IsLexed (laid true (report_head size) (prints ++ (codes "))\n" ++ after))) z) (sym (report_tokens size parts later)) whole)

-- ---- the tokens of the whole

-- the parentheses that close the forms of cells
abbrev closed : List ℕ → List Printed
closed [] = []
closed (cell ∷ cells) = closed cells ++ close_token ∷ []

cells_flat : (ref start : ℕ) (cells : List ℕ) (body : Tree) → term_tokens workload_names (with_cells ref start cells body)
    ≡ flat_map (cell_tokens start) cells ++ (term_tokens workload_names body ++ closed cells)
unfolding term_tokens
cells_flat ref start [] body = sym (append-nil (term_tokens workload_names body))
cells_flat ref start (cell ∷ cells) body =
    let front = flat_map (cell_tokens start) cells in
    let inner = term_tokens workload_names body in
    let last = close_token ∷ [] in
    ap (λ z. cell_tokens start cell ++ z)
    (ap (λ z. z ++ last) (cells_flat (ref + 1) start cells body) ∙ append_assoc front (inner ++ closed cells) last ∙ ap (λ z. front ++ z) (append_assoc inner (closed cells) last))

abbrev transfer_tokens_of : Transfer → List Printed
transfer_tokens_of t = term_tokens workload_names (transfer_term t)

members_flat : (size : ℕ) (ts : List Transfer) → row_tokens workload_names (row (map transfer_term ts ++ report_term size ∷ []))
    ≡ flat_map transfer_tokens_of ts ++ term_tokens workload_names (report_term size)
unfolding row_tokens
members_flat size [] = append-nil (term_tokens workload_names (report_term size))
members_flat size (t ∷ ts) =
    ap (λ z. transfer_tokens_of t ++ z) (members_flat size ts)
    ∙ sym (append_assoc (transfer_tokens_of t) (flat_map transfer_tokens_of ts) (term_tokens workload_names (report_term size)))

abbrev ten_ends : List Printed
ten_ends = close_token ∷ close_token ∷ closed accounts

-- the tokens line by line
abbrev by_lines : ℕ → ℕ → List Printed
by_lines seed size =
    flat_map (cell_tokens (initial_balance size)) accounts ++ cell_tokens 0 counter ++ (open_token ∷ word (codes "do") ∷ [])
    ++ flat_map transfer_tokens_of (transfers seed size) ++ term_tokens workload_names (report_term size) ++ ten_ends

inside_flat : (parts : Trees) (front last : List Printed) → row_tokens workload_names parts ≡ front ++ last
    → term_tokens workload_names (with_cells counter 0 (counter ∷ []) (Tree.Do parts)) ++ closed accounts
    ≡ cell_tokens 0 counter ++ ((open_token ∷ word (codes "do") ∷ []) ++ (front ++ (last ++ ten_ends)))
unfolding term_tokens
inside_flat parts front last e =
    ap (λ z. cell_tokens 0 counter ++ ((open_token ∷ word (codes "do") ∷ []) ++ z))
    (two_ends (row_tokens workload_names parts) (closed accounts) ∙ ap (λ z. z ++ ten_ends) e ∙ append_assoc front last ten_ends)

whole_flat : (seed size : ℕ) → term_tokens workload_names (workload_term seed size) ≡ by_lines seed size
whole_flat seed size =
    let parts = row (map transfer_term (transfers seed size) ++ report_term size ∷ []) in
    let cells = flat_map (cell_tokens (initial_balance size)) accounts in
    let moves = flat_map transfer_tokens_of (transfers seed size) in
    let report = term_tokens workload_names (report_term size) in
    cells_flat 0 (initial_balance size) accounts (with_cells counter 0 (counter ∷ []) (members_term seed size))
    ∙ ap (λ z. cells ++ z) (inside_flat parts moves report (members_flat size (transfers seed size)))
    ∙ sym (six cells (cell_tokens 0 counter) (open_token ∷ word (codes "do") ∷ []) moves report ten_ends)

-- ---- the whole text

do_is_line : IsLine (codes "(do\n") (open_token ∷ word (codes "do") ∷ [])
do_is_line = line_of (codes "(do\n") (open_token ∷ word (codes "do") ∷ []) refl (opening_alone, ((reserved w.Do).alone, tt))

end_is_line : IsLine (codes "))))))))))\n") ten_ends
end_is_line =
    let one = closing_alone in
    line_of (codes "))))))))))\n") ten_ends refl (one, (one, (one, (one, (one, (one, (one, (one, (one, (one, tt))))))))))

whole_lines : (seed size : ℕ) → size ≤ 4000 → AllByRecursion IsTransfer (transfers seed size) → IsLine (program_text seed size) (by_lines seed size)
whole_lines seed size most all =
    let start = initial_balance size in
    let small : start < 2 ^ 63 = omega (arith, most) in
    let a = account_lines start in
    let b = codes "(let done (ref p 0)\n" in
    let c = codes "(do\n" in
    let d = transfer_lines seed size in
    let s = flat_map (cell_tokens start) accounts in
    let t = cell_tokens 0 counter in
    let u = open_token ∷ word (codes "do") ∷ [] in
    let v = flat_map transfer_tokens_of (transfers seed size) in
    let w = term_tokens workload_names (report_term size) in
    let cells = lines (account_line start) (cell_tokens start) (λ x. x < 8) (λ x below. account_is_line start x small below) accounts accounts_are_cells in
    let moves = lines transfer_line transfer_tokens_of IsTransfer transfer_is_line (transfers seed size) all in
    two_lines (a ++ b ++ c ++ d ++ report_line size) (codes "))))))))))\n") (s ++ t ++ u ++ v ++ w) ten_ends
    (two_lines (a ++ b ++ c ++ d) (report_line size) (s ++ t ++ u ++ v) w
    (two_lines (a ++ b ++ c) d (s ++ t ++ u) v (two_lines (a ++ b) c (s ++ t) u (two_lines a b s t cells counter_is_line) do_is_line) moves) (report_is_line size (omega (arith, most))))
    end_is_line

pub text_lexed : (seed size : ℕ) → size ≤ 4000 → AllByRecursion IsTransfer (transfers seed size) → IsLexed (program_text seed size) (term_tokens workload_names (workload_term seed size))
text_lexed seed size most all =
    let whole = whole_lines seed size most all [] [] no_tokens in
    subst (λ z. IsLexed (program_text seed size) z) (sym (whole_flat seed size))
    (subst (λ z. IsLexed z (by_lines seed size)) (append-nil (program_text seed size))
    (subst (λ z. IsLexed (program_text seed size ++ []) z) (append-nil (by_lines seed size)) whole))
