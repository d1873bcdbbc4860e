-- A piece of checksum text is made of bytes, so its sum is a state. Assumes nothing.
use Prim.Native.Nat.{ℕ, zero, suc, ◌/◌, ◌%◌, ◌^◌, ◌<◌}
use mathlib.Core.Path.{sym, subst}
use mathlib.Core.Bool.{Bool, true, false}
use mathlib.Core.List.{List, [], ◌∷◌, ◌++◌}
use native.Mathlib.Nat.{mod-lt}
use native.Mathlib.Omega.{arith}
use lib.Dec.{eqb, lit<}
use Rattle.text.specs.Text.{colon}
use Rattle.decimal.specs.Digits.{digit, fixed, significant_in, significant, written}
use Rattle.decimal.specs.Decimal.{Number, point, text, after_point, stripped}
use Rattle.decimal.proofs.Text.{stripped-digits}
use Rattle.crc32_spec.specs.Crc.{run}
use Rattle.crc32_spec.specs.Text.{Bytes, run_lt}
use Rattle.piece.specs.Piece.{k_piece, m_piece}
use Rattle.settings.specs.declared.SumText.{SumText}
use Rattle.settings.specs.declared.SumText.TheVariants.{Stripped, Interleaved}
use Rattle.checksum.specs.Carried.{piece_of}

none : Bytes []
none i = lit< tt

cons : (x : ℕ) (xs : List ℕ) → x < 256 → Bytes xs → Bytes (x ∷ xs)
cons x xs h k zero = h
cons x xs h k (suc i) = k i

append : (xs ys : List ℕ) → Bytes xs → Bytes ys → Bytes (xs ++ ys)
append [] ys h k = k
append (x ∷ xs) ys h k = cons x (xs ++ ys) (h 0) (append xs ys (λ i. h (suc i)) k)

last : (xs : List ℕ) (n : ℕ) → Bytes xs → Bytes (xs ++ (digit (n % 10) ∷ []))
last xs n h = append xs (digit (n % 10) ∷ []) h (cons (digit (n % 10)) [] (let l : n % 10 < 10 = mod-lt n (lit< tt) in omega arith) none)

fixed-bytes : (k n : ℕ) → Bytes (fixed k n)
unfolding fixed
fixed-bytes zero n = none
fixed-bytes (suc k) n = last (fixed k (n / 10)) n (fixed-bytes k (n / 10))

significant-in : (bound n : ℕ) → Bytes (significant_in bound n)
unfolding significant_in
significant-in zero n = none
significant-in (suc bound) n = at (eqb n 0) (last (significant_in bound (n / 10)) n (significant-in bound (n / 10)))
  where
    at : (b : Bool) → Bytes (significant_in bound (n / 10) ++ (digit (n % 10) ∷ [])) → Bytes (elim b [ true ↦ [] | false ↦ significant_in bound (n / 10) ++ (digit (n % 10) ∷ []) ])
    at true h = none
    at false h = h

significant-bytes : (n : ℕ) → Bytes (significant n)
unfolding significant
significant-bytes n = significant-in n n

written-bytes : (n : ℕ) → Bytes (written n)
unfolding written
written-bytes n = last (significant (n / 10)) n (significant-bytes (n / 10))

after-bytes : (k n : ℕ) → Bytes (after_point k n)
unfolding after_point
after-bytes zero n = none
after-bytes (suc k) n = cons point (fixed (suc k) n) (lit< tt) (fixed-bytes (suc k) n)

text-bytes : (n : Number) → Bytes (text n)
unfolding text
text-bytes n = append (written (n.digits / 10 ^ n.decimals)) (after_point n.decimals n.digits) (written-bytes (n.digits / 10 ^ n.decimals)) (after-bytes n.decimals n.digits)

stripped-bytes : (n : Number) → Bytes (stripped n)
stripped-bytes n = subst Bytes (sym (stripped-digits n)) (significant-bytes n.digits)

piece_bytes : (sum_text : SumText) (price size : Number) → Bytes (piece_of sum_text price size)
unfolding k_piece m_piece
piece_bytes Stripped price size = append (stripped price) (stripped size) (stripped-bytes price) (stripped-bytes size)
piece_bytes Interleaved price size =
    cons colon (text price ++ (colon ∷ text size)) (lit< tt) (append (text price) (colon ∷ text size) (text-bytes price) (cons colon (text size) (lit< tt) (text-bytes size)))

pub piece-sum : (sum_text : SumText) (price size : Number) → run 0 (piece_of sum_text price size) < 2 ^ 32
piece-sum sum_text price size = run_lt (piece_of sum_text price size) 0 (lit< tt) (piece_bytes sum_text price size)
