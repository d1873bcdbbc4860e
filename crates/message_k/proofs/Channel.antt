-- The name of the channel, `book-` and the depth.
-- Assumes nothing.
use mathlib.Core.Path.{◌≡◌, sym, ap, ◌∙◌}
use mathlib.Core.List.{[], ◌∷◌, ◌++◌}
use Prim.Native.Nat.{ℕ, ◌+◌, ◌/◌, ◌%◌, ◌≤◌, ◌<◌}
use native.Mathlib.Omega.{arith}
use Rattle.text.specs.Text.{ascii}
use Rattle.decimal.specs.Digits.{digit, significant_in, significant, written}
use Rattle.decimal.proofs.Digits.{significant-zero, significant-step}

one-digit : (q : ℕ) → 0 < q → q < 10 → significant q ≡ digit q ∷ []
one-digit q p h =
    let d : q / 10 ≡ 0 = omega arith in
    let m : q % 10 ≡ q = omega arith in
    significant-step q p ∙ ap (λ n. significant n ++ (digit (q % 10) ∷ [])) d ∙ ap (λ l. l ++ (digit (q % 10) ∷ [])) significant-zero ∙ ap (λ n. digit n ∷ []) m

pub channel-two : (d : ℕ) → 10 ≤ d → d < 100 → 98 ∷ 111 ∷ 111 ∷ 107 ∷ 45 ∷ (48 + d / 10) ∷ (48 + d % 10) ∷ [] ≡ ascii "book-" ++ written d
unfolding written
channel-two d p h = ap (λ l. ascii "book-" ++ (l ++ (digit (d % 10) ∷ []))) (sym (one-digit (d / 10) (omega arith) (omega arith)))

pub channel-three : (d : ℕ) → d ≡ 100 → ascii "book-100" ≡ ascii "book-" ++ written d
unfolding written significant significant_in
channel-three d h = rw h
