-- The text, as it is written part by part.
use Rattle.std.proofs.Common.{◌≡◌, ℕ, zero, suc, ◌+◌, ◌*◌, ◌%◌, List, [], ◌∷◌, ◌++◌, decimal, codes, Ok, Err, Result, OnOk, refl, sym, ap, ◌∙◌, add-one, add-zero, append_assoc, append-nil, arith}
use Rattle.std.specs.List.{flat_map, range_with_len}
use Rattle.std.proofs.lemmas.Grind.{flat_map-append}
use Rattle.ame_gen.specs.declared.transfers.Transfer.{Transfer}
use Rattle.ame_gen.specs.Stream.{next, stream_at}
use Rattle.ame_gen.specs.Transfers.{transfer, transfers, drawn_after}
use Rattle.ame_gen.specs.Template.{print_of, transfer_line, transfer_lines}

range_with_len-suc : (a n : ℕ) → range_with_len a (suc n) ≡ range_with_len a n ++ (a + n) ∷ []
range_with_len-suc a zero = ap (λ m. m ∷ []) (sym (add-zero a))
range_with_len-suc a (suc n) =
    let same : a + 1 + n ≡ a + suc n = omega arith in
    ap (λ l. a ∷ l) (range_with_len-suc (a + 1) n ∙ ap (λ m. range_with_len (a + 1) n ++ m ∷ []) same)

-- one item more is written
pub range-more : (f : ℕ → List ℕ) (old text new : List ℕ) (n : ℕ) → text ≡ old ++ flat_map f (range_with_len 0 n) → new ≡ text ++ f n →
    new ≡ old ++ flat_map f (range_with_len 0 (n + 1))
range-more f old text new n before is =
    is ∙ ap (λ t. t ++ f n) before ∙ append_assoc old (flat_map f (range_with_len 0 n)) (f n) ∙ ap (λ t. old ++ t) (sym whole)
  where
    first : 0 + n ≡ n
    first = omega arith

    whole : flat_map f (range_with_len 0 (n + 1)) ≡ flat_map f (range_with_len 0 n) ++ f n
    whole =
        ap (λ m. flat_map f (range_with_len 0 m)) (add-one n) ∙ ap (flat_map f) (range_with_len-suc 0 n ∙ ap (λ m. range_with_len 0 n ++ m ∷ []) first)
        ∙ flat_map-append f (range_with_len 0 n) (n ∷ []) ∙ ap (λ t. flat_map f (range_with_len 0 n) ++ t) (append-nil (f n))

-- the bytes that a call writes if it succeeds
pub on_ok : {T E : Type 0} (P Q : Type 0) (r : Result T E) → (P → Q) → OnOk r P → OnOk r Q
on_ok P Q (Ok x) go h = go h
on_ok P Q (Err e) go h = h

-- a transfer's line, part by part
pub transfer-parts : (t : Transfer) (t0 t1 t2 t3 t4 t5 t6 t7 t8 t9 : List ℕ)
    → t1 ≡ t0 ++ codes "(async (do (blockUntil (not (< (get a" ++ decimal t.from
    → t2 ≡ t1 ++ codes ") " ++ decimal t.amount
    → t3 ≡ t2 ++ codes "))) (set a" ++ decimal t.from
    → t4 ≡ t3 ++ codes " (- (get a" ++ decimal t.from
    → t5 ≡ t4 ++ codes ") " ++ decimal t.amount
    → t6 ≡ t5 ++ codes ")) (set a" ++ decimal t.to
    → t7 ≡ t6 ++ codes " (+ (get a" ++ decimal t.to
    → t8 ≡ t7 ++ codes ") " ++ decimal t.amount
    → t9 ≡ t8 ++ codes ")) (set done (+ (get done) 1))))\n"
    → t9 ≡ t0 ++ transfer_line t
transfer-parts t t0 t1 t2 t3 t4 t5 t6 t7 t8 t9 e1 e2 e3 e4 e5 e6 e7 e8 e9 =
    simp (e9, e8, e7, e6, e5, e4, e3, e2, e1, append_assoc)

-- what prints an account, part by part
pub print-parts : (account : ℕ) (t0 t1 t2 : List ℕ) → t1 ≡ t0 ++ codes " (print (get a" ++ decimal account → t2 ≡ t1 ++ codes "))" → t2 ≡ t0 ++ print_of account
print-parts account t0 t1 t2 e1 e2 = simp (e2, e1, append_assoc)

-- one transfer more
pub transfers-more : (seed size : ℕ) (old text new : List ℕ) → text ≡ old ++ transfer_lines seed size → new ≡ text ++ transfer_line (transfer seed size) → new ≡ old ++ transfer_lines seed (size + 1)
transfers-more seed size old text new before is =
    let line = transfer_line (transfer seed size) in
    let front = transfer_lines seed size in
    let whole : transfer_lines seed (size + 1) ≡ front ++ line =
    ap (transfer_lines seed) (add-one size) ∙ flat_map-append transfer_line (transfers seed size) (transfer seed size ∷ []) ∙ ap (λ t. front ++ t) (append-nil line) in
    is ∙ ap (λ t. t ++ line) before ∙ append_assoc old front line ∙ ap (λ t. old ++ t) (sym whole)

-- the next three numbers
stream-next : (seed k m : ℕ) → m ≡ k + 1 → stream_at seed m ≡ next (stream_at seed k)
stream-next seed k m e = ap (stream_at seed) (e ∙ add-one k)

pub stream-thrice : (seed size : ℕ) → stream_at seed (3 * (size + 1)) ≡ next (next (next (stream_at seed (3 * size))))
stream-thrice seed size =
    stream-next seed (3 * size + 2) (3 * (size + 1)) (omega arith) ∙ ap next (stream-next seed (3 * size + 1) (3 * size + 2) (omega arith)
    ∙ ap next (stream-next seed (3 * size) (3 * size + 1) refl))

abbrev made : ℕ → ℕ → ℕ → Transfer
made a b c = record { from = a % 8; to = b % 8; amount = c % 9 + 1 }

-- the transfer that is drawn stands in this place
pub transfer-drawn : (seed size last : ℕ) → last ≡ stream_at seed (3 * size) → drawn_after last ≡ transfer seed size
transfer-drawn seed size last e =
    let one : stream_at seed (3 * size + 1) ≡ next last = stream-next seed (3 * size) (3 * size + 1) refl ∙ ap next (sym e) in
    let two : stream_at seed (3 * size + 2) ≡ next (next last) = stream-next seed (3 * size + 1) (3 * size + 2) (omega arith) ∙ ap next one in
    let three : stream_at seed (3 * size + 3) ≡ next (next (next last)) = stream-next seed (3 * size + 2) (3 * size + 3) (omega arith) ∙ ap next two in
    three_parts _ _ _ _ _ _ (sym one) (sym two) (sym three)
  where
    three_parts : (a b c x y z : ℕ) → a ≡ x → b ≡ y → c ≡ z → made a b c ≡ made x y z
    three_parts a b c x y z p q r = ap (λ n. made n b c) p ∙ ap (λ n. made x n c) q ∙ ap (λ n. made x y n) r

-- the whole text, part by part
pub text-parts : (a t r t1 t2 t3 t4 t5 : List ℕ) → t1 ≡ a → t2 ≡ t1 ++ codes "(let done (ref p 0)\n(do\n" → t3 ≡ t2 ++ t → t4 ≡ t3 ++ r → t5 ≡ t4 ++ codes "))))))))))\n"
    → t5 ≡ a ++ codes "(let done (ref p 0)\n" ++ codes "(do\n" ++ t ++ r ++ codes "))))))))))\n"
text-parts a t r t1 t2 t3 t4 t5 e1 e2 e3 e4 e5 = simp (e5, e4, e3, e2, e1, append_assoc)
