-- `json_tokens::skip_plain` meets its contract: wherever the loop stands, the string from there ends where it does from `at` on, since the bytes of a word below its lowest mark stand for themselves.
-- Assumes nothing.
use Prim.Native.Nat.{◌+◌, ◌/◌, ◌≤◌, ◌<◌, ℕ}
use lib.Count.{count_trailing_zeros, trailing_le, trailing_of_zero}
use lib.ListN.{get_or, length}
use mathlib.Core.List.{List}
use mathlib.Core.Path.{◌∙◌, ◌≡◌, ap, refl}
use native.Mathlib.Omega.{arith}
use Rattle.json_tokens.proofs.Words.{rest-special}
use Rattle.text.specs.Text.{byte_at}
use Rattle.text.specs.Words.{word_at}
use Rattle.json_tokens.specs.Tokens.{string_rest}
use Rattle.json_tokens.specs.Words.{special_bytes}
use Rattle.json_tokens.proofs.skip_plain.Goals as goal

-- past the bytes of a word below its lowest mark
past : (s : List ℕ) → ((k : ℕ) → get_or s k 0 < 256) → (i w m : ℕ) → i + 8 ≤ length s → w ≡ word_at s i → m ≡ special_bytes w → string_rest s (i + count_trailing_zeros 64 m / 8) ≡ string_rest s i
unfolding byte_at
past s small i w m room e f = ap (λ n. string_rest s (i + count_trailing_zeros 64 n / 8)) (f ∙ ap special_bytes e) ∙ rest-special s small i room

pub loop-i-init : goal.loop-i-init
loop-i-init c = (omega arith, refl)

pub overflow_cast-result : goal.overflow_cast-result
overflow_cast-result c = omega (arith, trailing_le 64 c.special_bytes-special.result)

pub overflow_add-result : goal.overflow_add-result
overflow_add-result c = omega (arith, trailing_le 64 c.special_bytes-special.result)

pub returns-then-special-ne0 : goal.returns-then-special-ne0
returns-then-special-ne0 c =
    let s = c.args.s.now in
    let i = c.loop-i.i in
    let p = past s (λ k. omega (arith, c.type_inv.s k)) i c.word_at.result c.special_bytes-special.result (omega arith) c.word_at.ensures c.special_bytes-special.ensures in
    p ∙ c.loop-i.invariant.1

pub loop-i-preserved : goal.loop-i-preserved
loop-i-preserved c =
    let s = c.args.s.now in
    let i = c.loop-i.i in
    let p = past s (λ k. omega (arith, c.type_inv.s k)) i c.word_at.result c.special_bytes-special.result (omega arith) c.word_at.ensures c.special_bytes-special.ensures in
    let z : 8 ≡ count_trailing_zeros 64 c.special_bytes-special.result / 8 = omega (arith, ap (count_trailing_zeros 64) c.if-special-ne0.false, trailing_of_zero 64) in
    (omega arith, ap (λ k. string_rest s (i + k)) z ∙ p ∙ c.loop-i.invariant.1)

pub returns : goal.returns
returns c = c.loop-i.invariant.1

pub overflow_add-i : goal.overflow_add-i
overflow_add-i c = omega arith

pub overflow_add-i-in-loop-i : goal.overflow_add-i-in-loop-i
overflow_add-i-in-loop-i c = omega arith

pub loop-i-smaller : goal.loop-i-smaller
loop-i-smaller c = omega arith
