-- The state of a text in terms of its parts: a text is one number, and its state that number moved; a joined text's state comes from its parts' states and lengths.
-- Assumes nothing.
use Rattle.std.specs.Prelude.{◌≡◌, refl, List, [], ◌∷◌, ◌++◌, ℕ, zero, suc, ◌+◌, ◌*◌, ◌/◌, ◌%◌, ◌^◌, ◌<◌, length, get_or, take, drop}
use Rattle.std.proofs.Common.{sym, ap, ◌∙◌, subst, add_assoc, add_comm, add-mul, add-zero, mul_assoc, mul-one, mul-suc, lt_of_le_of_lt, div-le_self, mod-eq_of_lt, arith, pow-add, get_or-drop, lit<}
use Rattle.std.proofs.Math.Arith.{digits_lt}
use Rattle.std.specs.Int.Bits.{bit_xor, xor_zero_l, xor_zero_r, xor_shifted}
use Rattle.std.proofs.lemmas.Nat.{xor_comm, xor_lt}
use Rattle.text.specs.Words.{word}
use Rattle.crc32_spec.specs.Crc.{polynomial, bit, bits, step, run, start, finish, crc}
use Rattle.crc32_spec.specs.Laws.{mod_two_lt, xor_assoc, bits_xor, bits_add, bits_even}

abbrev pub Bytes : List ℕ → Type 0
Bytes xs = (i : ℕ) → get_or xs i 0 < 256

pub bytes_drop : (n : ℕ) (xs : List ℕ) → Bytes xs → Bytes (drop n xs)
bytes_drop n xs h i = subst (λ (x : ℕ). x < 256) (sym (get_or-drop n xs i 0)) (h (n + i))

pub bytes_take : (n : ℕ) (xs : List ℕ) → Bytes xs → Bytes (take n xs)
bytes_take zero xs h i = lit< tt
bytes_take (suc n) [] h i = lit< tt
bytes_take (suc n) (x ∷ xs) h zero = h 0
bytes_take (suc n) (x ∷ xs) h (suc i) = bytes_take n xs (λ k. h (suc k)) i

-- ---- a text as one number, the first byte lowest

-- 2 ^ (8 * n), one byte more
pow_byte : (n : ℕ) → 2 ^ (8 * n) * 256 ≡ 2 ^ (8 * suc n)
pow_byte n = sym (pow-add 2 (8 * n) 8) ∙ ap (λ (k : ℕ). 2 ^ k) (sym (mul-suc 8 n))

pub word_append : (xs ys : List ℕ) → word (xs ++ ys) ≡ word ys * 2 ^ (8 * length xs) + word xs
unfolding word
word_append [] ys = sym (add-zero (word ys * 1) ∙ mul-one (word ys))
word_append (x ∷ xs) ys =
    ap (λ (n : ℕ). n * 256 + x) (word_append xs ys)
    ∙ ring (word ys) (2 ^ (8 * length xs)) (word xs) x
    ∙ ap (λ (n : ℕ). word ys * n + (word xs * 256 + x)) (pow_byte (length xs))
  where
    ring : (a p b c : ℕ) → (a * p + b) * 256 + c ≡ a * (p * 256) + (b * 256 + c)
    ring a p b c =
        ap (λ (n : ℕ). n + c) (add-mul (a * p) b 256 ∙ ap (λ (n : ℕ). n + b * 256) (mul_assoc a p 256)) ∙ add_assoc (a * (p * 256)) (b * 256) c

pub word_lt : (xs : List ℕ) → Bytes xs → word xs < 2 ^ (8 * length xs)
unfolding word
word_lt [] h = lit< tt
word_lt (x ∷ xs) h = subst (λ (n : ℕ). word xs * 256 + x < n) (pow_byte (length xs)) (digits_lt (word_lt xs (λ i. h (suc i))) (h 0))

-- ---- the state after a text

-- moving by n bytes and one more
pub bits_byte : (n s : ℕ) → bits (8 * n) (bits 8 s) ≡ bits (8 * suc n) s
bits_byte n s = sym (bits_add 8 (8 * n) s) ∙ ap (λ (k : ℕ). bits k s) (add_comm 8 (8 * n) ∙ sym (mul-suc 8 n))

pub run_word : (bs : List ℕ) (s : ℕ) → Bytes bs → run s bs ≡ bits (8 * length bs) (bit_xor s (word bs))
unfolding run step word bits
run_word [] s h = sym (xor_zero_r s)
run_word (b ∷ bs) s h =
    run_word bs (bits 8 (bit_xor s b)) (λ i. h (suc i))
    ∙ ap (bits (8 * length bs))
    (ap (bit_xor (bits 8 (bit_xor s b))) (sym (bits_even 8 (word bs)))
    ∙ sym (bits_xor 8 (bit_xor s b) (word bs * 256))
    ∙ ap (bits 8) (xor_assoc s b (word bs * 256) ∙ ap (bit_xor s) (xor_comm b (word bs * 256) ∙ xor_shifted (word bs) 8 b (h 0))))
    ∙ bits_byte (length bs) (bit_xor s (word bs * 256 + b))

-- a word that has no more bytes than are taken of it is taken whole
pub whole_word : (n s w : ℕ) → w < 2 ^ (8 * n) → bits (8 * n) (bit_xor s (w % 2 ^ (8 * n))) ≡ bits (8 * n) (bit_xor s w)
whole_word n s w h = ap (λ (x : ℕ). bits (8 * n) (bit_xor s x)) (mod-eq_of_lt h)

-- .. so that the text's number on a state gives the state after the text
pub run_absorbed : (bs : List ℕ) (s w : ℕ) → Bytes bs → w ≡ word bs → bits (8 * length bs) (bit_xor s (w % 2 ^ (8 * length bs))) ≡ run s bs
run_absorbed bs s w h e =
    ap (λ (x : ℕ). bits (8 * length bs) (bit_xor s (x % 2 ^ (8 * length bs)))) e
    ∙ whole_word (length bs) s (word bs) (word_lt bs h) ∙ sym (run_word bs s h)

pub run_append : (xs ys : List ℕ) (s : ℕ) → run s (xs ++ ys) ≡ run (run s xs) ys
unfolding run
run_append [] ys s = refl
run_append (x ∷ xs) ys s = run_append xs ys (step s x)

-- a state before a text adds to the text's own
pub run_xor : (ys : List ℕ) (s t : ℕ) → run (bit_xor s t) ys ≡ bit_xor (bits (8 * length ys) s) (run t ys)
unfolding run step bits
run_xor [] s t = refl
run_xor (y ∷ ys) s t =
    ap (λ (x : ℕ). run x ys) (ap (bits 8) (xor_assoc s t y) ∙ bits_xor 8 s (bit_xor t y))
    ∙ run_xor ys (bits 8 s) (bits 8 (bit_xor t y))
    ∙ ap (λ (x : ℕ). bit_xor x (run (bits 8 (bit_xor t y)) ys)) (bits_byte (length ys) s)

-- the state after a text, from its own, which is from 0
pub run_from : (ys : List ℕ) (s : ℕ) → run s ys ≡ bit_xor (bits (8 * length ys) s) (run 0 ys)
run_from ys s = ap (λ (x : ℕ). run x ys) (sym (xor_zero_r s)) ∙ run_xor ys s 0

-- the state after a joined text, from the state after its first part and the second part's own
pub run_pieces : (xs ys : List ℕ) (s : ℕ) → run s (xs ++ ys) ≡ bit_xor (bits (8 * length ys) (run s xs)) (run 0 ys)
run_pieces xs ys s = run_append xs ys s ∙ run_from ys (run s xs)

-- the state of a text with one more byte in front
pub run_front : (b : ℕ) (bs : List ℕ) → run 0 (b ∷ bs) ≡ bit_xor (bits (8 * suc (length bs)) b) (run 0 bs)
unfolding run step
run_front b bs =
    run_pieces (b ∷ []) bs 0
    ∙ ap (λ (x : ℕ). bit_xor x (run 0 bs)) (ap (λ (x : ℕ). bits (8 * length bs) (bits 8 x)) (xor_zero_l b) ∙ bits_byte (length bs) b)

-- the checksum of a joined text
pub crc_pieces : (xs ys : List ℕ) → crc (xs ++ ys) ≡ finish (bit_xor (bits (8 * length ys) (run start xs)) (run 0 ys))
unfolding crc
crc_pieces xs ys = ap finish (run_pieces xs ys start)

-- ---- a state stays below 2 ^ 32

times_lt : (x : ℕ) → x < 2 → x * polynomial < 2 ^ 32
times_lt x h = omega arith

pub bit_lt : (s : ℕ) → s < 2 ^ 32 → bit s < 2 ^ 32
unfolding bit
bit_lt s h = xor_lt 32 (s / 2) (s % 2 * polynomial) (lt_of_le_of_lt (div-le_self s 2) h) (times_lt (s % 2) (mod_two_lt s))

pub bits_lt : (n s : ℕ) → s < 2 ^ 32 → bits n s < 2 ^ 32
unfolding bits
bits_lt zero s h = h
bits_lt (suc n) s h = bits_lt n (bit s) (bit_lt s h)

pub step_lt : (s b : ℕ) → s < 2 ^ 32 → b < 256 → step s b < 2 ^ 32
unfolding step
step_lt s b h k = bits_lt 8 (bit_xor s b) (xor_lt 32 s b h (omega arith))

pub run_lt : (bs : List ℕ) (s : ℕ) → s < 2 ^ 32 → Bytes bs → run s bs < 2 ^ 32
unfolding run
run_lt [] s h k = h
run_lt (b ∷ bs) s h k = run_lt bs (step s b) (step_lt s b h (k 0)) (λ i. k (suc i))

pub crc_lt : (bs : List ℕ) → Bytes bs → crc bs < 2 ^ 32
unfolding crc
crc_lt bs k = xor_lt 32 (run start bs) 4294967295 (run_lt bs start (lit< tt) k) (lit< tt)
