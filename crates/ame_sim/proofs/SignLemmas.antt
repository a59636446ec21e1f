-- Signs of seats.
use Rattle.std.proofs.Common.{◌≡◌, ◌<◌, ◌+◌, ℕ, List, [], ◌∷◌, ◌++◌, refl, sym, ap, ◌∙◌, arith}
use Rattle.std.proofs.lemmas.List.Elements.{All-head, All-tail}
use Rattle.std.proofs.lemmas.Bool.Decides.{nat_tests}
use Rattle.ame_sim.specs.Schedule.{sign, signs, AreSeats, BeginsWithNoSign}

-- a sign is of one seat
pub sign-same : (a b : ℕ) → a < 32 → b < 32 → sign a ≡ sign b → a ≡ b
sign-same a b low_a low_b same = grind (arith, nat_tests)

-- no sign is this low
pub sign-low : (a : ℕ) → 48 < sign a + 1
sign-low a = grind (arith, nat_tests)

-- A text that begins with signs determines them, and the text after them.
pub signs-same : (picks others behind beyond : List ℕ) → AreSeats picks → AreSeats others → BeginsWithNoSign behind → BeginsWithNoSign beyond →
    signs picks ++ behind ≡ signs others ++ beyond → (picks ≡ others) × (behind ≡ beyond)
signs-same [] [] behind beyond low high none lacks same = (refl, same)
signs-same [] (b ∷ others) behind beyond low high none lacks same = absurd (none b (signs others ++ beyond) (All-head (λ s. s < 32) b others high) same)
signs-same (a ∷ picks) [] behind beyond low high none lacks same = absurd (lacks a (signs picks ++ behind) (All-head (λ s. s < 32) a picks low) (sym same))
signs-same (a ∷ picks) (b ∷ others) behind beyond low high none lacks same =
    let one : sign a ≡ sign b = cc in
    let tails : signs picks ++ behind ≡ signs others ++ beyond = cc in
    let seat = sign-same a b (All-head (λ s. s < 32) a picks low) (All-head (λ s. s < 32) b others high) one in
    let rest = signs-same picks others behind beyond (All-tail (λ s. s < 32) a picks low) (All-tail (λ s. s < 32) b others high) none lacks tails in
    (ap (λ s. s ∷ picks) seat ∙ ap (λ t. b ∷ t) rest.0, rest.1)

-- signs end at a lower byte
pub low-no_sign : (b : ℕ) (rest : List ℕ) → b < 48 → BeginsWithNoSign (b ∷ rest)
low-no_sign b rest low seat more below same =
    let is : b ≡ sign seat = cc in
    absurd (omega (arith, sign-low seat))
