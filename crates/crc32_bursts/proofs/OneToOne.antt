-- Moving a state is one to one: the highest bit after a move is the lowest before. Assumes nothing.
use mathlib.Core.Path.{◌≡◌, refl, sym, ap, ap₂, ◌∙◌}
use mathlib.Core.List.{List, [], ◌∷◌}
use Prim.Native.Nat.{ℕ, zero, suc, ◌+◌, ◌*◌, ◌/◌, ◌%◌, ◌^◌, ◌<◌}
use native.Mathlib.Nat.{le_of_suc-le-suc, not-suc-le-zero, div-add-mod', div-eq_of_lt}
use native.Mathlib.Omega.{arith}
use lib.Pow.{shr_lt}
use lib.Bits.{bit_xor, xor_lt, xor_shr}
use Rattle.crc32_spec.specs.Crc.{polynomial, bit, bits, step, run}
use Rattle.crc32_spec.specs.Laws.{mod_two_lt, xor_undo}
use Rattle.crc32_spec.specs.Text.{Bytes, bit_lt, step_lt}
use Rattle.crc32_bursts.specs.Claims.{LastTerm}

pub xor-cancel : (a b c : ℕ) → bit_xor a c ≡ bit_xor b c → a ≡ b
xor-cancel a b c e = sym (xor_undo a c) ∙ ap (λ (x : ℕ). bit_xor x c) e ∙ xor_undo b c

pub highest : LastTerm
highest = refl

top : (x : ℕ) → x < 2 → x * polynomial / 2 ^ 31 ≡ x
top zero h = refl
top (suc zero) h = highest
top (suc (suc x)) h = absurd (not-suc-le-zero (le_of_suc-le-suc (le_of_suc-le-suc h)))

bit-top : (s : ℕ) → s < 2 ^ 32 → bit s / 2 ^ 31 ≡ s % 2
unfolding bit
bit-top s h = xor_shr (s / 2) (s % 2 * polynomial) 31 ∙ ap₂ bit_xor (div-eq_of_lt (shr_lt 31 1 h)) (top (s % 2) (mod_two_lt s))

bit-one : (s t : ℕ) → s < 2 ^ 32 → t < 2 ^ 32 → bit s ≡ bit t → s ≡ t
unfolding bit
bit-one s t hs ht e =
    let odd : s % 2 ≡ t % 2 = sym (bit-top s hs) ∙ ap (λ (x : ℕ). x / 2 ^ 31) e ∙ bit-top t ht in
    sym (div-add-mod' s 2)
    ∙ ap₂ (λ (x y : ℕ). x * 2 + y)
    (xor-cancel (s / 2) (t / 2) (s % 2 * polynomial) (e ∙ ap (λ (x : ℕ). bit_xor (t / 2) (x * polynomial)) (sym odd))) odd
    ∙ div-add-mod' t 2

pub bits-one : (n s t : ℕ) → s < 2 ^ 32 → t < 2 ^ 32 → bits n s ≡ bits n t → s ≡ t
unfolding bits
bits-one zero s t hs ht e = e
bits-one (suc n) s t hs ht e = bit-one s t hs ht (bits-one n (bit s) (bit t) (bit_lt s hs) (bit_lt t ht) e)

mixed-lt : (s b : ℕ) → s < 2 ^ 32 → b < 256 → bit_xor s b < 2 ^ 32
mixed-lt s b h k = xor_lt 32 s b h (omega arith)

step-one : (b s t : ℕ) → b < 256 → s < 2 ^ 32 → t < 2 ^ 32 → step s b ≡ step t b → s ≡ t
unfolding step
step-one b s t hb hs ht e = xor-cancel s t b (bits-one 8 (bit_xor s b) (bit_xor t b) (mixed-lt s b hs hb) (mixed-lt t b ht hb) e)

-- one text after two states
pub run-one : (bs : List ℕ) (s t : ℕ) → Bytes bs → s < 2 ^ 32 → t < 2 ^ 32 → run s bs ≡ run t bs → s ≡ t
unfolding run
run-one [] s t h hs ht e = e
run-one (b ∷ bs) s t h hs ht e =
    step-one b s t (h 0) hs ht (run-one bs (step s b) (step t b) (λ i. h (suc i)) (step_lt s b hs (h 0)) (step_lt t b ht (h 0)) e)
