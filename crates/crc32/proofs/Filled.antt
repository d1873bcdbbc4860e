-- The shift table: how it is filled, and why four look-ups move a state.
-- Assumes nothing.
use mathlib.Core.Path.{◌≡◌, refl, sym, ap, ap₂, ◌∙◌}
use mathlib.Core.Bool.{Bool, true, false}
use mathlib.Core.List.{List}
use Prim.Native.Nat.{ℕ, ◌+◌, ◌-◌, ◌*◌, ◌/◌, ◌%◌, ◌^◌, ◌≤◌, ◌<◌}
use native.Mathlib.Nat.{mod-eq_of_lt, not-suc-le-zero}
use native.Mathlib.Omega.{arith}
use borrow.Author.Tests.{eqb-true, eqb-false}
use lib.Bits.{bit_xor}
use lib.Dec.{eqb}
use lib.Pow.{shr-shr}
use lib.ListN.{length, get_or, take, drop, set}
use lib.Seq.{get_or-set_same, get_or-set_other, get_or-take, get_or-drop, ext_get_or}
use Rattle.crc32_spec.specs.Crc.{bits}
use Rattle.crc32_spec.specs.Laws.{peel, xor_assoc}
use Rattle.crc32.specs.Table.{moved_byte, ShiftTable, FilledTable}

-- ---- filled from the front

-- the first n entries are right
abbrev pub Filled : List ℕ → ℕ → Type 0
Filled table n = (k : ℕ) → k < n → get_or table k 0 ≡ moved_byte k

pub filled_more : (table : List ℕ) (i v : ℕ) → i < length table → v ≡ bits (8 * (i / 256 + 1)) (i % 256) → Filled table i → Filled (set table i v) (i + 1)
unfolding moved_byte
filled_more table i v h e f k l = go (eqb k i) refl
  where
    go : (b : Bool) → eqb k i ≡ b → get_or (set table i v) k 0 ≡ moved_byte k
    go true q =
        let s : k ≡ i = eqb-true k i q in
        ap (λ (j : ℕ). get_or (set table i v) j 0) s ∙ get_or-set_same table i v 0 h ∙ e ∙ sym (ap moved_byte s)
    go false q =
        let d : k ≡ i → ⊥ = eqb-false k i q in
        let m : k < i = omega arith in
        get_or-set_other table i k v 0 d ∙ f k m

-- a table of no entries
pub empty-table : (table : List ℕ) → ShiftTable (take 0 table)
empty-table table = record { holds = λ k l. absurd (not-suc-le-zero l) }

-- there is one filled table
pub filled-one : (before : List ℕ) {x y : List ℕ} → FilledTable before x → FilledTable before y → x ≡ y
filled-one before {x} {y} f g =
    let e : length x ≡ length y = f.long ∙ sym g.long in
    ext_get_or 0 x y e (λ i h. f.right.holds i h ∙ sym (g.right.holds i (omega arith)))

-- ---- one look-up: a byte in the row of the length that follows it

pub byte-row : (table : List ℕ) → ShiftTable table → (i n b : ℕ) → n < length table / 256 → b < 256 → i ≡ 256 * n + b → get_or table i 0 ≡ bits (8 * (n + 1)) b
unfolding moved_byte
byte-row table right i n b h l e =
    let inside : i < length table = omega arith in
    let q : i / 256 + 1 ≡ n + 1 = omega arith in
    let r : i % 256 ≡ b = omega arith in
    right.holds i inside ∙ ap₂ (λ (k x : ℕ). bits (8 * k) x) q r

-- ---- four look-ups

module _ (table : List ℕ) (right : ShiftTable table) (n : ℕ) (far : 4 ≤ n) (long : n ≤ length table / 256) where
  abbrev first : ℕ
  first = 256 * n - 1024

  -- one look-up in the four rows before the end: byte j is found j rows from the last
  pub looked-up : (i j b : ℕ) → j < 4 → b < 256 → i ≡ 256 * (3 - j) + b → get_or (take (256 * n - first) (drop first table)) i 0 ≡ bits (8 * (n - j)) b
  unfolding moved_byte
  looked-up i j b h l e =
      let inside : first + i < length table = omega arith in
      let q : (first + i) / 256 + 1 ≡ n - j = omega arith in
      let r : (first + i) % 256 ≡ b = omega arith in
      let s : i < 256 * n - first = omega arith in
      get_or-take (256 * n - first) (drop first table) i 0 s ∙ get_or-drop first table i 0 ∙ right.holds (first + i) inside ∙ ap₂ (λ (k x : ℕ). bits (8 * k) x) q r

-- the lowest byte apart
one_byte : (n k w : ℕ) → n ≡ k + 1 → bits (8 * n) w ≡ bit_xor (bits (8 * n) (w % 256)) (bits (8 * k) (w / 256))
one_byte n k w e =
    let z : 8 * n ≡ 8 + 8 * k = omega arith in
    ap (λ (m : ℕ). bits m w) z ∙ peel 8 (8 * k) w ∙ ap (λ (m : ℕ). bit_xor (bits m (w % 256)) (bits (8 * k) (w / 256))) (sym z)

-- the bytes of a state, each moved for itself
pub four_bytes : (n s a b c d : ℕ) → 4 ≤ n → s < 2 ^ 32 → a ≡ s / 2 ^ (8 * 0) % 256 → b ≡ s / 2 ^ (8 * 1) % 256 → c ≡ s / 2 ^ (8 * 2) % 256 →
    d ≡ s / 2 ^ (8 * 3) % 256 →
    bit_xor (bit_xor (bit_xor (bits (8 * (n - 0)) a) (bits (8 * (n - 1)) b)) (bits (8 * (n - 2)) c)) (bits (8 * (n - 3)) d) ≡ bits (8 * n) s
four_bytes n s a b c d h l ea eb ec ed =
    let x : bits (8 * n) s ≡ bit_xor (bits (8 * n) (s % 256)) (bits (8 * (n - 1)) (s / 256)) = one_byte n (n - 1) s (omega arith) in
    let y : bits (8 * (n - 1)) (s / 256) ≡ bit_xor (bits (8 * (n - 1)) (s / 256 % 256)) (bits (8 * (n - 2)) (s / 256 / 256)) = one_byte (n - 1) (n - 2) (s / 256) (omega arith) in
    let z : bits (8 * (n - 2)) (s / 256 / 256) ≡ bit_xor (bits (8 * (n - 2)) (s / 256 / 256 % 256)) (bits (8 * (n - 3)) (s / 256 / 256 / 256))
    = one_byte (n - 2) (n - 3) (s / 256 / 256) (omega arith) in
    let p : a ≡ s % 256 = omega arith in
    let q : b ≡ s / 256 % 256 = omega arith in
    let u : s / 256 / 256 ≡ s / 65536 = shr-shr s 8 8 in
    let v : s / 256 / 256 / 256 ≡ s / 16777216 = ap (λ (k : ℕ). k / 256) u ∙ shr-shr s 16 8 in
    let last : s / 16777216 < 256 = omega arith in
    let r : c ≡ s / 256 / 256 % 256 = ec ∙ ap (λ (k : ℕ). k % 256) (sym u) in
    let t : d ≡ s / 256 / 256 / 256 = ed ∙ mod-eq_of_lt last ∙ sym v in
    let m : n - 0 ≡ n = omega arith in
    xor_assoc (bit_xor (bits (8 * (n - 0)) a) (bits (8 * (n - 1)) b)) (bits (8 * (n - 2)) c) (bits (8 * (n - 3)) d)
    ∙ xor_assoc (bits (8 * (n - 0)) a) (bits (8 * (n - 1)) b) (bit_xor (bits (8 * (n - 2)) c) (bits (8 * (n - 3)) d))
    ∙ ap₂ bit_xor (ap₂ (λ (k v : ℕ). bits (8 * k) v) m p)
    (ap₂ bit_xor (ap (bits (8 * (n - 1))) q) (ap₂ bit_xor (ap (bits (8 * (n - 2))) r) (ap (bits (8 * (n - 3))) t) ∙ sym z) ∙ sym y)
    ∙ sym x
