-- The algebra of the definition: moving by bits is linear over xor, and what stands above the bits moved out is only divided.
-- Assumes nothing.
use Rattle.std.specs.Prelude.{◌≡◌, refl, ℕ, zero, suc, ◌+◌, ◌*◌, ◌/◌, ◌%◌, ◌^◌, ◌<◌}
use Rattle.std.proofs.Common.{sym, ap, ap₂, ◌∙◌, pow-suc, mul_assoc, mul-one, le_of_suc-le-suc, not-suc-le-zero, suc-add, zero-add, mod-lt, mul-div_cancel, zero-lt-suc, pow_pos}
use Rattle.std.proofs.Math.Nat.{mul-mod_left}
use Rattle.std.proofs.Math.Arith.{bin_ind, digits_mod}
use Rattle.std.proofs.Math.Pow.{split}
use Rattle.std.specs.Int.Bits.{bit_xor, differ, xor_step, xor_zero_r, xor_self, xor_shifted}
use Rattle.std.proofs.lemmas.Nat.{xor_comm, xor_shr}
use Rattle.crc32_spec.specs.Crc.{polynomial, bit, bits}

-- ---- xor

differ_assoc : (x y z : ℕ) → x < 2 → y < 2 → z < 2 → differ (differ x y) z ≡ differ x (differ y z)
differ_assoc zero y z hx hy hz = refl
differ_assoc (suc zero) zero z hx hy hz = refl
differ_assoc (suc zero) (suc zero) zero hx hy hz = refl
differ_assoc (suc zero) (suc zero) (suc zero) hx hy hz = refl
differ_assoc (suc zero) (suc zero) (suc (suc z)) hx hy hz = absurd (not-suc-le-zero (le_of_suc-le-suc (le_of_suc-le-suc hz)))
differ_assoc (suc zero) (suc (suc y)) z hx hy hz = absurd (not-suc-le-zero (le_of_suc-le-suc (le_of_suc-le-suc hy)))
differ_assoc (suc (suc x)) y z hx hy hz = absurd (not-suc-le-zero (le_of_suc-le-suc (le_of_suc-le-suc hx)))

differ_lt : (x y : ℕ) → x < 2 → y < 2 → differ x y < 2
differ_lt zero y hx hy = hy
differ_lt (suc zero) zero hx hy = hx
differ_lt (suc zero) (suc zero) hx hy = zero-lt-suc 1
differ_lt (suc zero) (suc (suc y)) hx hy = absurd (not-suc-le-zero (le_of_suc-le-suc (le_of_suc-le-suc hy)))
differ_lt (suc (suc x)) y hx hy = absurd (not-suc-le-zero (le_of_suc-le-suc (le_of_suc-le-suc hx)))

pub mod_two_lt : (n : ℕ) → n % 2 < 2
mod_two_lt n = mod-lt n (zero-lt-suc 1)

xor_half : (a b : ℕ) → bit_xor a b / 2 ≡ bit_xor (a / 2) (b / 2)
xor_half a b = xor_shr a b 1

xor_odd : (a b : ℕ) → bit_xor a b % 2 ≡ differ (a % 2) (b % 2)
xor_odd a b = ap (λ (n : ℕ). n % 2) (xor_step a b) ∙ digits_mod (bit_xor (a / 2) (b / 2)) (differ_lt (a % 2) (b % 2) (mod_two_lt a) (mod_two_lt b))

pub xor_assoc : (a b c : ℕ) → bit_xor (bit_xor a b) c ≡ bit_xor a (bit_xor b c)
xor_assoc =
    bin_ind (λ (n : ℕ). (b c : ℕ) → bit_xor (bit_xor n b) c ≡ bit_xor n (bit_xor b c)) (λ b c. refl)
    (λ n ih b c.
    xor_step (bit_xor n b) c
    ∙ ap₂ (λ (x y : ℕ). bit_xor x (c / 2) * 2 + differ y (c % 2)) (xor_half n b) (xor_odd n b)
    ∙ ap₂ (λ (x y : ℕ). x * 2 + y) (ih (b / 2) (c / 2)) (differ_assoc (n % 2) (b % 2) (c % 2) (mod_two_lt n) (mod_two_lt b) (mod_two_lt c))
    ∙ ap₂ (λ (x y : ℕ). bit_xor (n / 2) x * 2 + differ (n % 2) y) (sym (xor_half b c)) (sym (xor_odd b c))
    ∙ sym (xor_step n (bit_xor b c)))

-- the middle two of four may change places
pub xor_swap : (a b c d : ℕ) → bit_xor (bit_xor a b) (bit_xor c d) ≡ bit_xor (bit_xor a c) (bit_xor b d)
xor_swap a b c d =
    xor_assoc a b (bit_xor c d)
    ∙ ap (bit_xor a) (sym (xor_assoc b c d) ∙ ap (λ (x : ℕ). bit_xor x d) (xor_comm b c) ∙ xor_assoc c b d)
    ∙ sym (xor_assoc a c (bit_xor b d))

pub xor_undo : (a b : ℕ) → bit_xor (bit_xor a b) b ≡ a
xor_undo a b = xor_assoc a b b ∙ ap (bit_xor a) (xor_self b) ∙ xor_zero_r a

-- ---- moving is linear

differ_times : (x y : ℕ) → x < 2 → y < 2 → differ x y * polynomial ≡ bit_xor (x * polynomial) (y * polynomial)
differ_times zero y hx hy = refl
differ_times (suc zero) zero hx hy = refl
differ_times (suc zero) (suc zero) hx hy = refl
differ_times (suc zero) (suc (suc y)) hx hy = absurd (not-suc-le-zero (le_of_suc-le-suc (le_of_suc-le-suc hy)))
differ_times (suc (suc x)) y hx hy = absurd (not-suc-le-zero (le_of_suc-le-suc (le_of_suc-le-suc hx)))

pub bit-xor : (a b : ℕ) → bit (bit_xor a b) ≡ bit_xor (bit a) (bit b)
unfolding bit
bit-xor a b =
    ap₂ (λ (x y : ℕ). bit_xor x (y * polynomial)) (xor_half a b) (xor_odd a b)
    ∙ ap (bit_xor (bit_xor (a / 2) (b / 2))) (differ_times (a % 2) (b % 2) (mod_two_lt a) (mod_two_lt b))
    ∙ xor_swap (a / 2) (b / 2) (a % 2 * polynomial) (b % 2 * polynomial)

-- moving a sum moves its terms
pub bits_xor : (n a b : ℕ) → bits n (bit_xor a b) ≡ bit_xor (bits n a) (bits n b)
unfolding bits
bits_xor zero a b = refl
bits_xor (suc n) a b = ap (bits n) (bit-xor a b) ∙ bits_xor n (bit a) (bit b)

-- moving twice
pub bits_add : (m n a : ℕ) → bits (m + n) a ≡ bits n (bits m a)
unfolding bits
bits_add zero n a = ap (λ (k : ℕ). bits k a) (zero-add n)
bits_add (suc m) n a = ap (λ (k : ℕ). bits k a) (suc-add m n) ∙ bits_add m n (bit a)

pub bits_zero : (m : ℕ) → bits m 0 ≡ 0
unfolding bits bit
bits_zero zero = refl
bits_zero (suc m) = bits_zero m

-- a number whose low bits are 0 is only divided
bit_even : (x : ℕ) → bit (x * 2) ≡ x
unfolding bit
bit_even x = ap₂ (λ (p q : ℕ). bit_xor p (q * polynomial)) (mul-div_cancel x (zero-lt-suc 1)) (mul-mod_left x 2) ∙ xor_zero_r x

times_suc : (a k : ℕ) → a * 2 ^ suc k ≡ a * 2 ^ k * 2
times_suc a k = ap (λ (x : ℕ). a * x) (pow-suc 2 k) ∙ sym (mul_assoc a (2 ^ k) 2)

pub bits_even : (k x : ℕ) → bits k (x * 2 ^ k) ≡ x
unfolding bits
bits_even zero x = mul-one x
bits_even (suc k) x = ap (bits k) (ap bit (times_suc x k) ∙ bit_even (x * 2 ^ k)) ∙ bits_even k x

-- moving by k bits and n more: the k low bits apart, the others by n. Each look-up in a table is an instance of it
pub peel : (k n w : ℕ) → bits (k + n) w ≡ bit_xor (bits (k + n) (w % 2 ^ k)) (bits n (w / 2 ^ k))
peel k n w =
    ap (bits (k + n)) (sym (split w k) ∙ sym (xor_shifted (w / 2 ^ k) k (w % 2 ^ k) (mod-lt w (pow_pos k))))
    ∙ bits_xor (k + n) (w / 2 ^ k * 2 ^ k) (w % 2 ^ k)
    ∙ ap (λ (x : ℕ). bit_xor x (bits (k + n) (w % 2 ^ k))) (bits_add k n (w / 2 ^ k * 2 ^ k) ∙ ap (bits n) (bits_even k (w / 2 ^ k)))
    ∙ xor_comm (bits n (w / 2 ^ k)) (bits (k + n) (w % 2 ^ k))
