-- Why a table holds what it should, and why eight look-ups move a state. Entries are linear over xor: those at the powers of two make a row, each
-- other entry the xor of two before it, so a table is tested at the price of one xor an entry, and one law turns the test into the rule.
-- Assumes nothing.
use mathlib.Core.Path.{◌≡◌, refl, sym, ap, ap₂, ◌∙◌, subst}
use mathlib.Core.Bool.{Bool, true, false}
use mathlib.Core.List.{List, [], ◌∷◌, ◌++◌, map}
use Prim.Native.Nat.{ℕ, zero, suc, ◌+◌, ◌-◌, ◌*◌, ◌/◌, ◌%◌, ◌^◌, ◌≤◌, ◌<◌, zero-le}
use native.Mathlib.Nat.{not-suc-le-zero, le_of_suc-le-suc, pow-suc, one-mul, mul_assoc, mul-one, add-zero, add_comm, div-eq_of_lt, div-one, mod-lt, mod-eq_of_lt}
use native.Mathlib.Omega.{arith}
use borrow.Author.Tests.{ltb-true, ltb-false}
use lib.Dec.{T, ltb, eqb, eqb→eq, lit<}
use lib.Arith.{lt-one, lt_of_le-ne}
use lib.Pow.{split, pow-add, pow_pos, shr-shr, high, low}
use lib.Bits.{bit_xor, xor_shifted, xor_block, xor_zero_r, xor_comm}
use lib.ListN.{length, get_or, length-append, length-map, get_or-append}
use lib.Seq.{get_or-append-add}
use Rattle.crc32_spec.specs.Crc.{bit, bits}
use Rattle.crc32_spec.specs.Laws.{xor_assoc, xor_swap, bits_xor, bits_add, bits_zero, bits_even}
use Rattle.crc32_spec.specs.Text.{bits_byte, bits_lt}
use Rattle.crc32_spec.specs.Rows.{pair, entry, entry_at}

-- ---- entries are linear

times-xor : (k a b : ℕ) → bit_xor a b * 2 ^ k ≡ bit_xor (a * 2 ^ k) (b * 2 ^ k)
times-xor k a b =
    sym (ap₂ bit_xor (sym (add-zero (a * 2 ^ k))) (sym (add-zero (b * 2 ^ k))) ∙ xor_block k a b 0 0 (pow_pos k) (pow_pos k) ∙ add-zero (bit_xor a b * 2 ^ k))

moved-xor : (n k a b : ℕ) → bits n (bit_xor a b * 2 ^ k) ≡ bit_xor (bits n (a * 2 ^ k)) (bits n (b * 2 ^ k))
moved-xor n k a b = ap (bits n) (times-xor k a b) ∙ bits_xor n (a * 2 ^ k) (b * 2 ^ k)

entry-xor : (k a b : ℕ) → entry k (bit_xor a b) ≡ bit_xor (entry k a) (entry k b)
entry-xor k a b =
    ap₂ bit_xor
    (ap (λ (x : ℕ). x * 2 ^ 32) (moved-xor (8 * k) 28 a b) ∙ times-xor 32 (bits (8 * k) (a * 2 ^ 28)) (bits (8 * k) (b * 2 ^ 28)))
    (moved-xor (8 * k) 24 a b)
    ∙ xor_swap (bits (8 * k) (a * 2 ^ 28) * 2 ^ 32) (bits (8 * k) (b * 2 ^ 28) * 2 ^ 32) (bits (8 * k) (a * 2 ^ 24)) (bits (8 * k) (b * 2 ^ 24))

entry_zero : (k : ℕ) → entry k 0 ≡ 0
entry_zero k = ap₂ pair (bits_zero (8 * k)) (bits_zero (8 * k))

-- ---- one row

unfoldable pub double : ℕ → List ℕ → List ℕ
double v xs = xs ++ map (bit_xor v) xs

-- the row whose entry at 2 ^ n is the n-th value from the end
unfoldable pub span : List ℕ → List ℕ
span [] = 0 ∷ []
span (v ∷ vs) = double v (span vs)

-- the entries at the powers of two, the highest first
unfoldable basis : ℕ → ℕ → List ℕ
basis k zero = []
basis k (suc n) = entry k (2 ^ n) ∷ basis k n

get_d-map-lt : (f : ℕ → ℕ) (xs : List ℕ) (i : ℕ) → i < length xs → get_or (map f xs) i 0 ≡ f (get_or xs i 0)
get_d-map-lt f [] i h = absurd (not-suc-le-zero h)
get_d-map-lt f (x ∷ xs) zero h = refl
get_d-map-lt f (x ∷ xs) (suc i) h = get_d-map-lt f xs i (le_of_suc-le-suc h)

length-span : (k n : ℕ) → length (span (basis k n)) ≡ 2 ^ n
unfolding span basis double
length-span k zero = refl
length-span k (suc n) =
    length-append (span (basis k n)) (map (bit_xor (entry k (2 ^ n))) (span (basis k n)))
    ∙ ap (λ (x : ℕ). length (span (basis k n)) + x) (length-map (span (basis k n)) (bit_xor (entry k (2 ^ n))))
    ∙ ap (λ (x : ℕ). x + x) (length-span k n)
    ∙ two (2 ^ n) ∙ sym (pow-suc 2 n)
  where
    two : (x : ℕ) → x + x ≡ x * 2
    two x = omega arith

top-add : (n j : ℕ) → j < 2 ^ n → bit_xor (2 ^ n) j ≡ 2 ^ n + j
top-add n j h = subst (λ (x : ℕ). bit_xor x j ≡ x + j) (one-mul (2 ^ n)) (xor_shifted 1 n j h)

-- an element of two lists, one after the other
module _ (xs ys : List ℕ) (k i : ℕ) (long : length xs ≡ k) (r : ℕ) where
  either-list : (t : Bool) → ltb i k ≡ t → (i < k → get_or xs i 0 ≡ r) → (k ≤ i → get_or ys (i - k) 0 ≡ r) → get_or (xs ++ ys) i 0 ≡ r
  either-list true e f g =
      let h : i < k = ltb-true i k e in
      get_or-append xs ys 0 i (subst (λ (n : ℕ). i < n) (sym long) h) ∙ f h
  either-list false e f g =
      let h : k ≤ i = ltb-false i k e in
      let q : length xs + (i - k) ≡ i = omega arith in
      ap (λ (n : ℕ). get_or (xs ++ ys) n 0) (sym q) ∙ get_or-append-add xs ys (i - k) 0 ∙ g h

span-at : (k n i : ℕ) → i < 2 ^ n → get_or (span (basis k n)) i 0 ≡ entry k i
unfolding span basis double
span-at k zero i h = ap (λ (x : ℕ). get_or (0 ∷ []) x 0) (lt-one h) ∙ sym (ap (entry k) (lt-one h) ∙ entry_zero k)
span-at k (suc n) i h =
    either-list (span (basis k n)) (map (bit_xor (entry k (2 ^ n))) (span (basis k n))) (2 ^ n) i (length-span k n) (entry k i) (ltb i (2 ^ n)) refl
    (λ l. span-at k n i l)
    (λ l.
    let q : i < 2 ^ n * 2 = subst (λ (x : ℕ). i < x) (pow-suc 2 n) h in
    let j : i - 2 ^ n < 2 ^ n = omega arith in
    let z : 2 ^ n + (i - 2 ^ n) ≡ i = omega arith in
    get_d-map-lt (bit_xor (entry k (2 ^ n))) (span (basis k n)) (i - 2 ^ n) (subst (λ (x : ℕ). i - 2 ^ n < x) (sym (length-span k n)) j)
    ∙ ap (bit_xor (entry k (2 ^ n))) (span-at k n (i - 2 ^ n) j)
    ∙ sym (entry-xor k (2 ^ n) (i - 2 ^ n))
    ∙ ap (entry k) (top-add n (i - 2 ^ n) j ∙ z))

-- ---- rows, each the one before moved by a byte more

bits-swap : (m n s : ℕ) → bits m (bits n s) ≡ bits n (bits m s)
bits-swap m n s = sym (bits_add n m s) ∙ ap (λ (k : ℕ). bits k s) (add_comm n m) ∙ bits_add m n s

-- the entries at 8, 4, 2 and 1, from the highest bit of a state moved: the bits below it are as many moves ahead
unfoldable pub powers : ℕ → List ℕ
powers z = pair z (bits 4 z) ∷ pair (bits 1 z) (bits 5 z) ∷ pair (bits 2 z) (bits 6 z) ∷ pair (bits 3 z) (bits 7 z) ∷ []

unfoldable pub rows : ℕ → ℕ → List ℕ
rows z zero = []
rows z (suc n) = span (powers z) ++ rows (bits 8 z) n

-- the highest bit of a state, moved by k bytes
abbrev pub top : ℕ → ℕ
top k = bits (8 * k) 2147483648

module _ (k : ℕ) where
  below : (j : ℕ) → bits j (top k) ≡ bits (8 * k) (bits j 2147483648)
  below j = bits-swap j (8 * k) 2147483648

  top-basis : powers (top k) ≡ basis k 4
  unfolding powers basis bits bit
  top-basis =
      ap₂ (λ (x : ℕ) (xs : List ℕ). x ∷ xs) (ap (pair (top k)) (below 4))
      (ap₂ (λ (x : ℕ) (xs : List ℕ). x ∷ xs) (ap₂ pair (below 1) (below 5))
      (ap₂ (λ (x : ℕ) (xs : List ℕ). x ∷ xs) (ap₂ pair (below 2) (below 6))
      (ap (λ (x : ℕ). x ∷ []) (ap₂ pair (below 3) (below 7)))))

  top-next : bits 8 (top k) ≡ top (suc k)
  top-next = below 8 ∙ bits_byte k 2147483648

rows_at : (n k i : ℕ) → i < n * 16 → get_or (rows (top k) n) i 0 ≡ entry_at k i
unfolding rows
rows_at zero k i h = absurd (not-suc-le-zero h)
rows_at (suc n) k i h =
    ap₂ (λ (vs : List ℕ) (z : ℕ). get_or (span vs ++ rows z n) i 0) (top-basis k) (top-next k)
    ∙ either-list (span (basis k 4)) (rows (top (suc k)) n) 16 i (length-span k 4) (entry_at k i) (ltb i 16) refl
    (λ l.
    let p : k ≡ k + i / 16 = omega arith in
    let q : i ≡ i % 16 = omega arith in
    span-at k 4 i l ∙ ap₂ entry p q)
    (λ l.
    let m : i - 16 < n * 16 = omega arith in
    let p : suc k + (i - 16) / 16 ≡ k + i / 16 = omega arith in
    let q : (i - 16) % 16 ≡ i % 16 = omega arith in
    rows_at n (suc k) (i - 16) m ∙ ap₂ entry p q)

-- ---- the test

abbrev pub both : Bool → Bool → Bool
both true b = b
both false b = false

unfoldable pub alike : List ℕ → List ℕ → Bool
alike [] [] = true
alike [] (y ∷ ys) = false
alike (x ∷ xs) [] = false
alike (x ∷ xs) (y ∷ ys) = both (eqb x y) (alike xs ys)

alike-eq : (xs ys : List ℕ) → T (alike xs ys) → xs ≡ ys
unfolding alike
alike-eq [] [] t = refl
alike-eq [] (y ∷ ys) t = absurd t
alike-eq (x ∷ xs) [] t = absurd t
alike-eq (x ∷ xs) (y ∷ ys) t = ap₂ (λ (z : ℕ) (zs : List ℕ). z ∷ zs) (eqb→eq x y (left (eqb x y) (alike xs ys) t)) (alike-eq xs ys (right (eqb x y) (alike xs ys) t))
  where
    left : (a b : Bool) → T (both a b) → T a
    left true b u = tt
    left false b u = u

    right : (a b : Bool) → T (both a b) → T b
    right true b u = u
    right false b u = absurd u

-- a table of 32 rows that passes the test holds at each key what it should
pub tested : (table : List ℕ) (first : ℕ) → T (alike table (rows (top first) 32)) → (i k : ℕ) → i < 512 → i ≡ k → get_or table k 0 ≡ entry_at first i
tested table first t i k h e =
    ap (λ (j : ℕ). get_or table j 0) (sym e)
    ∙ ap (λ (l : List ℕ). get_or l i 0) (alike-eq table (rows (top first) 32) t)
    ∙ rows_at 32 first i h

-- ---- eight look-ups move a state

moved-lt : (k v : ℕ) → v < 16 → bits (8 * k) (v * 2 ^ 24) < 2 ^ 32
moved-lt k v l = bits_lt (8 * k) (v * 2 ^ 24) (omega arith)

entry-sum : (k v : ℕ) → v < 16 → entry k v ≡ bits (8 * k) (v * 2 ^ 28) * 2 ^ 32 + bits (8 * k) (v * 2 ^ 24)
entry-sum k v l = xor_shifted (bits (8 * k) (v * 2 ^ 28)) 32 (bits (8 * k) (v * 2 ^ 24)) (moved-lt k v l)

-- the lower half of an entry, or the upper
half_of : (k v h : ℕ) → v < 16 → h < 2 → entry k v / 2 ^ (32 * h) % 2 ^ 32 ≡ bits (8 * k) (v * 2 ^ (24 + 4 * h))
half_of k v zero l q =
    ap (λ (x : ℕ). x % 2 ^ 32) (div-one (entry k v) ∙ entry-sum k v l) ∙ low (bits (8 * k) (v * 2 ^ 28)) 32 (moved-lt k v l)
half_of k v (suc zero) l q =
    ap (λ (x : ℕ). x / 2 ^ 32 % 2 ^ 32) (entry-sum k v l)
    ∙ ap (λ (x : ℕ). x % 2 ^ 32) (high (bits (8 * k) (v * 2 ^ 28)) 32 (moved-lt k v l))
    ∙ mod-eq_of_lt (bits_lt (8 * k) (v * 2 ^ 28) (omega arith))
half_of k v (suc (suc h)) l q = absurd (not-suc-le-zero (le_of_suc-le-suc (le_of_suc-le-suc q)))

-- four bits at place j of a state are as many bytes ahead of the highest byte
placed : (n j v : ℕ) → j < 8 → bits (8 * (n + 3 - j / 2)) (v * 2 ^ (24 + 4 * (j % 2))) ≡ bits (8 * n) (v * 2 ^ (4 * j))
placed n j v h =
    let e : 24 + 4 * (j % 2) ≡ 4 * j + (24 - 8 * (j / 2)) = omega arith in
    let m : 8 * (n + 3 - j / 2) ≡ (24 - 8 * (j / 2)) + 8 * n = omega arith in
    ap₂ (λ (x y : ℕ). bits x (v * 2 ^ y)) m e
    ∙ bits_add (24 - 8 * (j / 2)) (8 * n) (v * 2 ^ (4 * j + (24 - 8 * (j / 2))))
    ∙ ap (bits (8 * n))
    (ap (bits (24 - 8 * (j / 2))) (ap (λ (x : ℕ). v * x) (pow-add 2 (4 * j) (24 - 8 * (j / 2))) ∙ sym (mul_assoc v (2 ^ (4 * j)) (2 ^ (24 - 8 * (j / 2)))))
    ∙ bits_even (24 - 8 * (j / 2)) (v * 2 ^ (4 * j)))

-- what is left of a state, from place j on, moved by n bytes
abbrev pub left : ℕ → ℕ → ℕ → ℕ
left n s j = bits (8 * n) (s / 2 ^ (4 * j) * 2 ^ (4 * j))

pub all_left : (n s : ℕ) → bit_xor 0 (left n s 0) ≡ bits (8 * n) s
all_left n s = ap (bits (8 * n)) (mul-one (s / 1) ∙ div-one s)

pub none_left : (n s j sum r : ℕ) → j ≡ 8 → s < 2 ^ 32 → bit_xor sum (left n s j) ≡ r → sum ≡ r
none_left n s j sum r e h i =
    sym (xor_zero_r sum)
    ∙ ap (bit_xor sum) (sym (ap (left n s) e ∙ ap (λ (x : ℕ). bits (8 * n) (x * 2 ^ 32)) (div-eq_of_lt h) ∙ bits_zero (8 * n)))
    ∙ i

module _ (n s j : ℕ) where
  left-next : left n s (j + 1) ≡ bits (8 * n) (s / 2 ^ (4 * j) / 16 * 16 * 2 ^ (4 * j))
  left-next =
      let p : 4 * (j + 1) ≡ 4 * j + 4 = omega arith in
      let q : 4 * (j + 1) ≡ 4 + 4 * j = omega arith in
      ap (bits (8 * n))
      (ap₂ (λ (x y : ℕ). s / 2 ^ x * 2 ^ y) p q
      ∙ ap₂ (λ (x y : ℕ). x * y) (sym (shr-shr s (4 * j) 4)) (pow-add 2 4 (4 * j))
      ∙ sym (mul_assoc (s / 2 ^ (4 * j) / 16) 16 (2 ^ (4 * j))))

  left_split : left n s j ≡ bit_xor (left n s (j + 1)) (bits (8 * n) (s / 2 ^ (4 * j) % 16 * 2 ^ (4 * j)))
  left_split =
      ap (λ (x : ℕ). bits (8 * n) (x * 2 ^ (4 * j)))
      (sym (split (s / 2 ^ (4 * j)) 4) ∙ sym (xor_shifted (s / 2 ^ (4 * j) / 16) 4 (s / 2 ^ (4 * j) % 16) (mod-lt (s / 2 ^ (4 * j)) (lit< tt))))
      ∙ moved-xor (8 * n) (4 * j) (s / 2 ^ (4 * j) / 16 * 16) (s / 2 ^ (4 * j) % 16)
      ∙ ap (λ (x : ℕ). bit_xor x (bits (8 * n) (s / 2 ^ (4 * j) % 16 * 2 ^ (4 * j)))) (sym left-next)

-- one look-up more
pub looked-up : (first m s j sum v e r : ℕ) → m < 28 → j < 8 → v ≡ s / 2 ^ (4 * j) % 16 →
    e ≡ entry_at first ((m % 28 + 3 - j / 2) * 16 + v) → r ≡ e / 2 ^ (32 * (j % 2)) % 2 ^ 32 →
    bit_xor (bit_xor sum r) (left (first + m) s (j + 1)) ≡ bit_xor sum (left (first + m) s j)
looked-up first m s j sum v e r g h ev ee er =
    let l : s / 2 ^ (4 * j) % 16 < 16 = mod-lt (s / 2 ^ (4 * j)) (lit< tt) in
    let k : m % 28 ≡ m = mod-eq_of_lt g in
    let p : first + ((m % 28 + 3 - j / 2) * 16 + v) / 16 ≡ first + m + 3 - j / 2 = omega arith in
    let q : ((m % 28 + 3 - j / 2) * 16 + v) % 16 ≡ s / 2 ^ (4 * j) % 16 = omega arith in
    let o : j % 2 < 2 = omega arith in
    xor_assoc sum r (left (first + m) s (j + 1))
    ∙ ap (bit_xor sum)
    (xor_comm r (left (first + m) s (j + 1))
    ∙ ap (bit_xor (left (first + m) s (j + 1)))
    (er ∙ ap (λ (x : ℕ). x / 2 ^ (32 * (j % 2)) % 2 ^ 32) (ee ∙ ap₂ entry p q)
    ∙ half_of (first + m + 3 - j / 2) (s / 2 ^ (4 * j) % 16) (j % 2) l o
    ∙ placed (first + m) j (s / 2 ^ (4 * j) % 16) h)
    ∙ sym (left_split (first + m) s j))

-- ---- the last arm of a `match` over 0, 1, .., n: none of the arms before it

abbrev pub Rest : ℕ → ℕ → Type 0
Rest zero i = Unit
Rest (suc n) i = Rest n i × (i ≡ n → ⊥)

above : (n i : ℕ) → Rest n i → n ≤ i
above zero i r = zero-le
above (suc n) i r = lt_of_le-ne (above n i r.0) (λ e. r.1 (sym e))

pub last : (n i : ℕ) → i < suc n → Rest n i → i ≡ n
last n i h r = let a : n ≤ i = above n i r in omega arith
