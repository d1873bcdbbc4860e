-- Two texts of at most four bytes after one state, and the same text after both: where the states are one, the texts are. Assumes nothing.
use mathlib.Core.Path.{◌≡◌, refl, sym, ap, ap₂, ◌∙◌, subst}
use mathlib.Core.List.{List, [], ◌∷◌, ◌++◌}
use Prim.Native.Nat.{ℕ, suc, ◌*◌, ◌/◌, ◌%◌, ◌^◌, ◌≤◌, ◌<◌}
use native.Mathlib.Nat.{lt_of_lt_of_le, suc_inj, suc-ne-zero}
use native.Mathlib.Omega.{arith}
use lib.Arith.{digits_div, digits_mod}
use lib.Bits.{bit_xor, xor_lt, xor_comm}
use lib.Pow.{pow_mono}
use lib.Dec.{lit<}
use lib.ListN.{length}
use Rattle.text.specs.Words.{word}
use Rattle.crc32_spec.specs.Crc.{crc, run, bits, start}
use Rattle.crc32_spec.specs.Text.{Bytes, word_lt, run_word, run_append, run_lt}
use Rattle.crc32_bursts.proofs.OneToOne.{xor-cancel, bits-one, run-one}

-- a number is one text's, of those of one length
word-one : (v w : List ℕ) → length v ≡ length w → Bytes v → Bytes w → word v ≡ word w → v ≡ w
unfolding word
word-one [] [] l hv hw e = refl
word-one [] (y ∷ w) l hv hw e = absurd (suc-ne-zero (length w) (sym l))
word-one (x ∷ v) [] l hv hw e = absurd (suc-ne-zero (length v) l)
word-one (x ∷ v) (y ∷ w) l hv hw e =
    ap₂ (λ (z : ℕ) (zs : List ℕ). z ∷ zs) (sym (digits_mod (word v) (hv 0)) ∙ ap (λ (n : ℕ). n % 256) e ∙ digits_mod (word w) (hw 0))
    (word-one v w (suc_inj l) (λ i. hv (suc i)) (λ i. hw (suc i))
    (sym (digits_div (word v) (hv 0)) ∙ ap (λ (n : ℕ). n / 256) e ∙ digits_div (word w) (hw 0)))

mixed-lt : (s : ℕ) (v : List ℕ) → s < 2 ^ 32 → Bytes v → length v ≤ 4 → bit_xor s (word v) < 2 ^ 32
mixed-lt s v hs h few = xor_lt 32 s (word v) hs (lt_of_lt_of_le (word_lt v h) (pow_mono {i = 8 * length v} {j = 32} (omega arith)))

window : (s : ℕ) (v w : List ℕ) → s < 2 ^ 32 → Bytes v → Bytes w → length v ≡ length w → length v ≤ 4 → run s v ≡ run s w → v ≡ w
window s v w hs hv hw l few e =
    word-one v w l hv hw
    (xor-cancel (word v) (word w) s
    (xor_comm (word v) s
    ∙ bits-one (8 * length v) (bit_xor s (word v)) (bit_xor s (word w)) (mixed-lt s v hs hv few) (mixed-lt s w hs hw (subst (λ (n : ℕ). n ≤ 4) l few))
    (sym (run_word v s hv) ∙ e ∙ run_word w s hw ∙ ap (λ (n : ℕ). bits (8 * n) (bit_xor s (word w))) (sym l))
    ∙ xor_comm s (word w)))

pub same-window : (before after v w : List ℕ) → Bytes before → Bytes after → Bytes v → Bytes w → length v ≡ length w → length v ≤ 4
    → crc (before ++ (v ++ after)) ≡ crc (before ++ (w ++ after)) → v ≡ w
unfolding crc
same-window before after v w hb ha hv hw l few e =
    window s v w hs hv hw l few
    (run-one after (run s v) (run s w) ha (run_lt v s hs hv) (run_lt w s hs hw)
    (sym (parts v) ∙ xor-cancel (run start (before ++ (v ++ after))) (run start (before ++ (w ++ after))) 4294967295 e ∙ parts w))
  where
    s : ℕ
    s = run start before

    hs : s < 2 ^ 32
    hs = run_lt before start (lit< tt) hb

    parts : (u : List ℕ) → run start (before ++ (u ++ after)) ≡ run (run s u) after
    parts u = run_append before (u ++ after) start ∙ run_append u after s
