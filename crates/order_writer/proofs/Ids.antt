-- Laws of the bytes of an id: one after another out of each word, and how many there are. Assumes nothing.
use Prim.Native.Nat.{ℕ, zero, suc, ◌+◌, ◌/◌, ◌%◌, ◌≤◌}
use mathlib.Core.Path.{◌≡◌, refl, sym, ap, ◌∙◌}
use mathlib.Core.Bool.{Bool, true, false, not, cond}
use mathlib.Core.List.{List, [], ◌∷◌}
use native.Mathlib.Omega.{arith}
use lib.Dec.{eqb}
use lib.ListN.{length, take, length-append}
use Rattle.std.specs.List.{prefix_len, position, take_while}
use Rattle.std.specs.Prelude.{Some, None, unwrap_or}
use borrow.Author.Tests.{ltb-false}
use Rattle.std.specs.Int.{byte_at, bytes_low_first, to_le_bytes}
use Rattle.std.proofs.Common.{w64, nat_lt, ◌^◌}
use Rattle.std.proofs.Math.Nat.{div-one, pow-suc, div-div-eq-div-mul}
use Rattle.std.proofs.lemmas.List.Sums.{take_while-cons, prefix_len-le-length}
use Rattle.std.proofs.lemmas.List.Folds.{length-prefix_len}
use Rattle.order_edit.specs.declared.Id.{Id}
use Rattle.order_edit.specs.Ids.{bytes_of, id_bytes}
use Rattle.order_writer.specs.Parts.{max_id_bytes}

-- ---- the bytes of a word up to the first zero

byte-is : (i w : ℕ) → byte_at i w ≡ w / 256 ^ i % 256
byte-is zero w = ap (λ (n : ℕ). n % 256) (sym (div-one w))
byte-is (suc i) w = refl

down : (i w : ℕ) → w / 256 ^ suc i ≡ w / 256 ^ i / 256
down i w = ap (λ (n : ℕ). w / n) (pow-suc 256 i) ∙ sym (div-div-eq-div-mul w (256 ^ i) 256)

cond-not : (t : Bool) (x y : List ℕ) → cond (not t) x y ≡ cond t y x
cond-not true x y = refl
cond-not false x y = refl

bytes_from : (i most w : ℕ) → take_while (λ (b : ℕ). not (eqb b 0)) (bytes_low_first i most w) ≡ bytes_of most (w / 256 ^ i)
unfolding bytes_of
bytes_from i zero w = refl
bytes_from i (suc most) w =
    let m = w / 256 ^ i in
    take_while-cons (λ (b : ℕ). not (eqb b 0)) (byte_at i w) (bytes_low_first (suc i) most w)
    ∙ ap (λ (r : List ℕ). cond (not (eqb (byte_at i w) 0)) (byte_at i w ∷ r) []) (bytes_from (suc i) most w)
    ∙ ap (λ (b : ℕ). cond (not (eqb b 0)) (b ∷ bytes_of most (w / 256 ^ suc i)) []) (byte-is i w)
    ∙ cond-not (eqb (m % 256) 0) (m % 256 ∷ bytes_of most (w / 256 ^ suc i)) []
    ∙ ap (λ (n : ℕ). cond (eqb (m % 256) 0) [] (m % 256 ∷ bytes_of most n)) (down i w)

-- the bytes of a word, of which the first is the lowest
pub word_bytes : (w : ℕ) → take_while (λ (b : ℕ). not (eqb b 0)) (to_le_bytes w64 w) ≡ bytes_of 8 w
word_bytes w = bytes_from 0 8 w ∙ ap (bytes_of 8) (div-one w)

take-taken : (n : ℕ) (s : List ℕ) → take (length (take n s)) s ≡ take n s
take-taken zero s = refl
take-taken (suc n) [] = refl
take-taken (suc n) (c ∷ s) = ap (λ (r : List ℕ). c ∷ r) (take-taken n s)

-- where the first zero stands
first_zero : (k n : ℕ) (t : Bool) → nat_lt k n ≡ t → k ≤ n → unwrap_or (cond t (Some k) None) n ≡ k
first_zero k n true e h = refl
first_zero k n false e h = omega (arith, ltb-false k n e)

pub length-word : (w : ℕ) → unwrap_or (position (λ (b : ℕ). eqb b 0) (to_le_bytes w64 w)) 8 ≡ length (bytes_of 8 w)
length-word w =
    let s = to_le_bytes w64 w in
    let k = prefix_len (λ (b : ℕ). not (eqb b 0)) s in
    first_zero k 8 (nat_lt k 8) refl (prefix_len-le-length (λ (b : ℕ). not (eqb b 0)) s) ∙ sym (length-prefix_len (λ (b : ℕ). not (eqb b 0)) s) ∙ ap length (word_bytes w)

-- as many of them as there are before the first zero
pub bytes_first : (w n : ℕ) → n ≡ length (bytes_of 8 w) → take n (to_le_bytes w64 w) ≡ bytes_of 8 w
bytes_first w n e =
    let s = to_le_bytes w64 w in
    ap (λ (k : ℕ). take k s) (e ∙ ap length (sym (word_bytes w)))
    ∙ take-taken (prefix_len (λ (b : ℕ). not (eqb b 0)) s) s ∙ word_bytes w

pub bytes-short : (most w : ℕ) → length (bytes_of most w) ≤ most
unfolding bytes_of
bytes-short zero w = omega arith
bytes-short (suc most) w = by_first (eqb (w % 256) 0) (bytes-short most (w / 256))
  where
    by_first : (t : Bool) → length (bytes_of most (w / 256)) ≤ most → length (cond t [] (w % 256 ∷ bytes_of most (w / 256))) ≤ suc most
    by_first true h = omega arith
    by_first false h = omega arith

pub length-id : (x : Id) → length (id_bytes x) ≡ length (bytes_of 8 x.first) + length (bytes_of 8 x.second) + length (bytes_of 8 x.third)
unfolding id_bytes
length-id x = simp length-append (omega arith)

pub id-short : (x : Id) → length (id_bytes x) ≤ max_id_bytes
id-short x =
    let e = length-id x in
    let a = bytes-short 8 x.first in
    let b = bytes-short 8 x.second in
    let c = bytes-short 8 x.third in
    omega arith
