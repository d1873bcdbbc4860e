-- What the moves of states and words compute, in the terms of the definition.
-- Assumes nothing.
use mathlib.Core.Path.{◌≡◌, sym, ap, ap₂, ◌∙◌}
use Prim.Native.Nat.{ℕ, ◌+◌, ◌-◌, ◌*◌, ◌/◌, ◌%◌, ◌^◌, ◌≤◌, ◌<◌}
use native.Mathlib.Nat.{div-eq_of_lt, mod-eq_of_lt, mod-lt, mod-one, mul-mod_left, add-zero, lt_of_lt_of_le}
use native.Mathlib.Omega.{arith}
use lib.Pow.{shl-shr, mod-pow-add, pow_pos, pow_mono}
use lib.Bits.{bit_xor, xor_shr, xor_mod, xor_comm}
use Rattle.crc32_spec.specs.Crc.{bits}
use Rattle.crc32_spec.specs.Laws.{peel, bits_add}
use Rattle.crc32_spec.specs.Text.{whole_word}

-- ---- states

bits_at : {m n : ℕ} (s : ℕ) → m ≡ n → bits m s ≡ bits n s
bits_at s e = ap (λ (k : ℕ). bits k s) e

-- a table's first row and the rows past it
pub in_table : (first m n s r : ℕ) → first + m ≡ n → r ≡ bits (8 * (first + m)) s → r ≡ bits (8 * n) s
in_table first m n s r e f = f ∙ bits_at s (ap (λ (k : ℕ). 8 * k) e)

-- moving by j bytes and by the others
pub shifted : (j n s : ℕ) → j ≤ n → bits (8 * (n - j)) (bits (8 * j) s) ≡ bits (8 * n) s
shifted j n s h =
    let z : 8 * j + 8 * (n - j) ≡ 8 * n = omega arith in
    sym (bits_add (8 * j) (8 * (n - j)) s) ∙ bits_at s z

-- one step by the second table, of what is left to move
pub step-moved : (step left state r t : ℕ) → 28 ≤ step → step ≤ left → r ≡ bits (8 * (28 + (step - 28))) state → bits (8 * left) state ≡ t → bits (8 * (left - step)) r ≡ t
step-moved step left state r t l h e i =
    ap (bits (8 * (left - step))) (in_table 28 (step - 28) step state r (omega arith) e) ∙ shifted step left state h ∙ i

-- nothing is left to move
pub all_moved : (left r t : ℕ) → left ≡ 0 → bits (8 * left) r ≡ t → r ≡ t
unfolding bits
all_moved left r t e h = sym (bits_at r (ap (λ (k : ℕ). 8 * k) e)) ∙ h

-- moving by k bytes and then by n
pub moved_on : (n k s : ℕ) → bits (8 * n) (bits (8 * k) s) ≡ bits (8 * (n + k)) s
moved_on n k s =
    let z : 8 * k + 8 * n ≡ 8 * (n + k) = omega arith in
    sym (bits_add (8 * k) (8 * n) s) ∙ bits_at s z

-- ---- a word on a state

-- the word's upper half is not mixed with the state
pub two-halves : (n s w lower upper p q : ℕ) → 4 ≤ n → s < 2 ^ 32 → lower ≡ w % 2 ^ 32 → upper ≡ w / 2 ^ 32 →
    p ≡ bits (8 * (n - 4)) upper → q ≡ bits (8 * n) (bit_xor s lower) → bit_xor p q ≡ bits (8 * n) (bit_xor s w)
two-halves n s w lower upper p q l h el eu ep eq =
    let z : 8 * n ≡ 32 + 8 * (n - 4) = omega arith in
    ap₂ bit_xor (ep ∙ ap (bits (8 * (n - 4))) eu) (eq ∙ ap₂ (λ (k x : ℕ). bits k (bit_xor s x)) z el)
    ∙ xor_comm (bits (8 * (n - 4)) (w / 2 ^ 32)) (bits (32 + 8 * (n - 4)) (bit_xor s (w % 2 ^ 32)))
    ∙ sym (peel 32 (8 * (n - 4)) (bit_xor s w)
    ∙ ap₂ (λ (x y : ℕ). bit_xor (bits (32 + 8 * (n - 4)) x) (bits (8 * (n - 4)) y))
    (xor_mod s w 32 ∙ ap (λ (x : ℕ). bit_xor x (w % 2 ^ 32)) (mod-eq_of_lt h))
    (xor_shr s w 32 ∙ ap (λ (x : ℕ). bit_xor x (w / 2 ^ 32)) (div-eq_of_lt h)))
    ∙ bits_at (bit_xor s w) (sym z)

-- eight bytes or more take a word in whole
pub long-word : (n s w : ℕ) → 8 ≤ n → w < 2 ^ 64 → bits (8 * (n - 8)) (bits 64 (bit_xor s w)) ≡ bits (8 * n) (bit_xor s (w % 2 ^ (8 * n)))
long-word n s w h l =
    let e : 64 ≤ 8 * n = omega arith in
    shifted 8 n (bit_xor s w) h ∙ sym (whole_word n s w (lt_of_lt_of_le l (pow_mono e)))

-- four bytes or fewer are their lower half
pub short : (n w piece lower : ℕ) → n ≤ 4 → piece ≡ w % 2 ^ (8 * n) → lower ≡ piece % 2 ^ 32 → lower ≡ w % 2 ^ (8 * n)
short n w piece lower h e f =
    let m : 8 * n ≤ 32 = omega arith in
    f ∙ ap (λ (x : ℕ). x % 2 ^ 32) e ∙ mod-eq_of_lt (lt_of_lt_of_le (mod-lt w (pow_pos (8 * n))) (pow_mono m))

pub short-word : (n s w piece lower r : ℕ) → n < 4 → piece ≡ w % 2 ^ (8 * n) → lower ≡ piece % 2 ^ 32 → r ≡ bits (8 * n) (bit_xor s lower) →
    r ≡ bits (8 * n) (bit_xor s (w % 2 ^ (8 * n)))
short-word n s w piece lower r h e f g = g ∙ ap (λ (x : ℕ). bits (8 * n) (bit_xor s x)) (short n w piece lower (omega arith) e f)

-- ---- the lowest bytes of a word

pub no_bytes : (n w : ℕ) → n ≡ 0 → 0 ≡ w % 2 ^ (8 * n)
no_bytes n w e = sym (ap (λ (k : ℕ). w % 2 ^ (8 * k)) e ∙ mod-one w)

up-mod : (w j k : ℕ) → (w * 2 ^ j) % 2 ^ (k + j) ≡ (w % 2 ^ k) * 2 ^ j
up-mod w j k =
    mod-pow-add (w * 2 ^ j) k j
    ∙ ap₂ (λ (x y : ℕ). x % 2 ^ k * 2 ^ j + y) (shl-shr w j) (mul-mod_left w (2 ^ j)) ∙ add-zero (w % 2 ^ k * 2 ^ j)

-- moved up to the top of 64 bits, and down again
pub up-and-down : (k w : ℕ) → k ≤ 64 → (w * 2 ^ (64 - k)) % 2 ^ 64 / 2 ^ (64 - k) ≡ w % 2 ^ k
up-and-down k w h =
    let z : 64 ≡ k + (64 - k) = omega arith in
    ap (λ (n : ℕ). (w * 2 ^ (64 - k)) % 2 ^ n / 2 ^ (64 - k)) z
    ∙ ap (λ (x : ℕ). x / 2 ^ (64 - k)) (up-mod w (64 - k) k) ∙ shl-shr (w % 2 ^ k) (64 - k)
