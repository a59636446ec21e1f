-- Runs of bytes, and how long they are.
use Rattle.std.proofs.Common.{◌≡◌, ℕ, suc, ◌+◌, Bool, true, false, cond, [], ◌∷◌, ◌++◌, length, take, drop, refl, sym, ap, ◌∙◌, arith}
use Rattle.std.specs.List.{prefix_len, AllByRecursion}
use Rattle.std.proofs.Math.Seq.{drop-append_seam, take-append_seam}
use Rattle.ame_lex.specs.declared.classes.Class.{Class}
use Rattle.ame_lex.specs.declared.classes.Class.TheVariants.{Digit}
use Rattle.ame_lex.specs.Bytes.{Text, class_of, continues_number, is_digit, begins, IsStretch}

pub one-plus : (n : ℕ) → 1 + n ≡ suc n
one-plus n = omega arith

-- the bytes that pass at the front are a run
run_passes : (p : ℕ → Bool) (b : ℕ) (text : Text) (v : Bool) → p b ≡ v → IsStretch p text (take (prefix_len p text) text) (drop (prefix_len p text) text)
    → IsStretch p (b ∷ text) (take (cond v (1 + prefix_len p text) 0) (b ∷ text)) (drop (cond v (1 + prefix_len p text) 0) (b ∷ text))
run_passes p b text true e run = rw one-plus (record { split = ap (λ z. b ∷ z) run.split; pass = (e, run.pass); longest = run.longest })
run_passes p b text false e run = record { split = refl; pass = tt; longest = e }

pub run_of : (p : ℕ → Bool) (text : Text) → IsStretch p text (take (prefix_len p text) text) (drop (prefix_len p text) text)
run_of p [] = record { split = refl; pass = tt; longest = refl }
run_of p (b ∷ text) = run_passes p b text (p b) refl (run_of p text)

-- a run is as long as the bytes that pass at the front
prefix_len-none : (p : ℕ → Bool) (rest : Text) → begins p rest ≡ false → prefix_len p rest ≡ 0
prefix_len-none p [] h = refl
prefix_len-none p (b ∷ rest) h = rw h refl

prefix_len-run : (p : ℕ → Bool) (run rest : Text) → AllByRecursion (λ b. p b ≡ true) run → begins p rest ≡ false → prefix_len p (run ++ rest) ≡ length run
prefix_len-run p [] rest pass longest = prefix_len-none p rest longest
prefix_len-run p (b ∷ run) rest pass longest = rw (pass.0, prefix_len-run p run rest pass.1 longest, one-plus) refl

pub run_len : {p : ℕ → Bool} {text run rest : Text} → IsStretch p text run rest → prefix_len p text ≡ length run
run_len {p} {text} {run} {rest} r = ap (prefix_len p) r.split ∙ prefix_len-run p run rest r.pass r.longest

pub run_rest : {p : ℕ → Bool} {text run rest : Text} → IsStretch p text run rest → drop (length run) text ≡ rest
run_rest {run = run} {rest = rest} r = ap (drop (length run)) r.split ∙ drop-append_seam run rest

pub run_front : {p : ℕ → Bool} {text run rest : Text} → IsStretch p text run rest → take (length run) text ≡ run
run_front {run = run} {rest = rest} r = ap (take (length run)) r.split ∙ take-append_seam run rest

pub run_at_len : (p : ℕ → Bool) (text : Text) → length (take (prefix_len p text) text) ≡ prefix_len p text
run_at_len p text = sym (run_len (run_of p text))

-- a byte that continues a number is a digit
digit_class : (class : Class) → continues_number class ≡ true → class ≡ Digit
digit_class class h = grind arith

pub digit_is : (b : ℕ) → is_digit b ≡ true → class_of b ≡ Digit
digit_is b h = digit_class (class_of b) h
