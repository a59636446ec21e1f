-- Reads, over the bytes that a source reports.
use Rattle.std.proofs.Common.{◌≡◌, ℕ, ◌+◌, ◌-◌, ◌<◌, ◌≤◌, min, List, [], ◌++◌, length, take, drop, Option, sym, ap, ◌∙◌, arith, drop_of_length-le}
use Rattle.std.proofs.lemmas.List.{length-append, take_at, take-append-drop, length-take-le, drop-drop}
use Rattle.std.specs.Io.KnownBytes.{Consumes}
use Rattle.std.proofs.KnownBytes.{Consumes-trans}
use Rattle.ame_io.specs.Reads.{GivesMoreThan}

-- a read past a limit
pub GivesMoreThan-read : (limit : ℕ) (a b c : Option (List ℕ)) (bytes chunk : List ℕ) (n : ℕ) → Consumes a b bytes
    → Consumes b c (take n chunk) → n ≤ length chunk → limit < length bytes + n → GivesMoreThan limit a c
GivesMoreThan-read limit a b c bytes chunk n p q within over = record {
  bytes = bytes ++ take n chunk;
  taken = Consumes-trans a b c bytes (take n chunk) p q;
  more = omega (arith, length-append bytes (take n chunk), length-take-le n chunk within);
}

-- the bytes that are copied to a buffer are the first of those that are left
pub read-front : (left rest buf bytes : List ℕ) (at n : ℕ) → left ≡ drop at bytes → rest ≡ take n left → n ≤ length left
    → left ≡ take n (rest ++ drop n buf) ++ drop (at + n) bytes
read-front left rest buf bytes at n is moved h =
    let front : take n (rest ++ drop n buf) ≡ take n left = ap (λ l. take n (l ++ drop n buf)) moved ∙ take_at (take n left) (drop n buf) n (length-take-le n left h) in
    sym (take-append-drop n left) ∙ ap (λ l. l ++ drop n left) (sym front) ∙ ap (λ l. take n (rest ++ drop n buf) ++ l) (ap (drop n) is ∙ drop-drop n at bytes)

-- a read that gives nothing to a buffer with room is at the end
pub read-end : (bytes : List ℕ) (at chunk room n : ℕ) → n ≡ min chunk (min room (length bytes - at)) → 1 ≤ chunk → 0 < room → n ≡ 0
    → drop (at + n) bytes ≡ []
read-end bytes at chunk room n is some has none = drop_of_length-le bytes {i = at + n} (omega arith)
