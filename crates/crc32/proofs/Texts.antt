-- The bytes of a slice as words: what the loops over a text compute, in the terms of the definition.
-- Assumes nothing.
use mathlib.Core.Path.{◌≡◌, sym, ap, ap₂, ◌∙◌, subst}
use mathlib.Core.List.{List}
use Prim.Native.Nat.{ℕ, suc, ◌+◌, ◌-◌, ◌*◌, ◌/◌, ◌%◌, ◌^◌, ◌≤◌, ◌<◌}
use native.Mathlib.Nat.{le_refl, lt_of_lt_of_le}
use native.Mathlib.Omega.{arith}
use lib.Pow.{high, pow_mono}
use lib.Bits.{bit_xor}
use lib.ListN.{length, get_or, take, drop, length-take, length-drop, take-append-drop, drop_of_length-le}
use lib.Seq.{take_all, drop-cons, drop-drop}
use Rattle.text.specs.Words.{word, word_at}
use Rattle.crc32_spec.specs.Crc.{bits, run}
use Rattle.crc32_spec.specs.Text.{Bytes, bytes_drop, bytes_take, word_append, word_lt, run_append, run_absorbed, run_word}

pub at-end : (t : List ℕ) (s i : ℕ) → length t ≤ i → s ≡ run s (drop i t)
unfolding run
at-end t s i h = ap (run s) (sym (drop_of_length-le t h))

-- ---- eight bytes

module _ (t : List ℕ) (i : ℕ) (room : i + 8 ≤ length t) where
  pub eight-absorbed : (s w r : ℕ) → Bytes t → w ≡ word_at t i → r ≡ bits 64 (bit_xor s w) → run r (drop (i + 8) t) ≡ run s (drop i t)
  unfolding word_at
  eight-absorbed s w r h e f =
      let l : length (take 8 (drop i t)) ≡ 8 = simp (length-take, length-drop) (omega arith) in
      ap₂ run
      (f ∙ ap₂ (λ (n x : ℕ). bits (8 * n) (bit_xor s x)) (sym l) e
      ∙ sym (run_word (take 8 (drop i t)) s (bytes_take 8 (drop i t) (bytes_drop i t h))))
      (sym (drop-drop 8 i t))
      ∙ sym (run_append (take 8 (drop i t)) (drop 8 (drop i t)) s)
      ∙ ap (run s) (take-append-drop 8 (drop i t))

-- ---- the last bytes of a text

module _ (t : List ℕ) (i : ℕ) (bs : Bytes t) where
  last-lt : word (drop i t) < 2 ^ (8 * (length t - i))
  last-lt = subst (λ (n : ℕ). word (drop i t) < 2 ^ (8 * n)) (length-drop i t) (word_lt (drop i t) (bytes_drop i t bs))

  -- at most six bytes, so that one more fits
  pub few-lt : length t - i ≤ 6 → word (drop i t) < 281474976710656
  few-lt h =
      let e : 8 * (length t - i) ≤ 48 = omega arith in
      lt_of_lt_of_le last-lt (pow_mono e)

  pub last-absorbed : (s w r : ℕ) → w ≡ word (drop i t) → r ≡ bits (8 * (length t - i)) (bit_xor s (w % 2 ^ (8 * (length t - i)))) → r ≡ run s (drop i t)
  last-absorbed s w r e f =
      f ∙ ap (λ (n : ℕ). bits (8 * n) (bit_xor s (w % 2 ^ (8 * n)))) (sym (length-drop i t)) ∙ run_absorbed (drop i t) s w (bytes_drop i t bs) e

  -- fewer than eight, from the last eight
  pub last-load : (w : ℕ) → i ≤ length t → length t < i + 8 → 8 ≤ length t → w ≡ word_at t (length t - 8) →
      w / 2 ^ (64 - 8 * (length t - i)) ≡ word (drop i t)
  unfolding word_at
  last-load w within few long e =
      let n : length (drop (length t - 8) t) ≡ 8 = length-drop (length t - 8) t ∙ whole in
      let m : length (take (8 - (length t - i)) (drop (length t - 8) t)) ≡ 8 - (length t - i) = simp (length-take) (omega arith) in
      let p : 64 - 8 * (length t - i) ≡ 8 * (8 - (length t - i)) = omega arith in
      let q : (length t - 8) + (8 - (length t - i)) ≡ i = omega arith in
      ap₂ (λ (x k : ℕ). x / 2 ^ k) e (p ∙ ap (λ (k : ℕ). 8 * k) (sym m))
      ∙ ap (λ (x : ℕ). x / 2 ^ (8 * length front))
      (ap word (take_all 8 (drop (length t - 8) t) (omega arith) ∙ sym (take-append-drop (8 - (length t - i)) (drop (length t - 8) t)))
      ∙ word_append front (drop (8 - (length t - i)) (drop (length t - 8) t)))
      ∙ high (word (drop (8 - (length t - i)) (drop (length t - 8) t))) (8 * length front)
      (word_lt front (bytes_take (8 - (length t - i)) (drop (length t - 8) t) (bytes_drop (length t - 8) t bs)))
      ∙ ap word (drop-drop (8 - (length t - i)) (length t - 8) t ∙ ap (λ (k : ℕ). drop k t) q)
    where
      front : List ℕ
      front = take (8 - (length t - i)) (drop (length t - 8) t)

      whole : length t - (length t - 8) ≡ 8
      whole = omega arith

-- one byte more in front, at i - 1
pub byte-before : (t : List ℕ) (i w : ℕ) → 0 < i → i ≤ length t → w ≡ word (drop i t) → w * 256 + get_or t (i - 1) 0 ≡ word (drop (i - 1) t)
unfolding word
byte-before t i w h l e =
    let z : i ≡ suc (i - 1) = omega arith in
    let k : i - 1 < length t = omega arith in
    ap (λ (x : ℕ). x * 256 + get_or t (i - 1) 0) (e ∙ ap (λ (j : ℕ). word (drop j t)) z) ∙ ap word (sym (drop-cons t (i - 1) 0 k))

pub no-bytes-left : (t : List ℕ) → 0 ≡ word (drop (length t) t)
unfolding word
no-bytes-left t = ap word (sym (drop_of_length-le t (le_refl (length t))))
