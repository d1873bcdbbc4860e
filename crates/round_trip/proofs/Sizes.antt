-- How long the texts of a snapshot are: well within a message. Assumes nothing.
use Prim.Native.Nat.{ℕ, suc, ◌+◌, ◌*◌, ◌≤◌, zero-le}
use mathlib.Core.Path.{◌≡◌, refl}
use mathlib.Core.List.{List, [], ◌∷◌, ◌++◌, map}
use native.Mathlib.Omega.{arith}
use lib.ListN.{length, length-append}
use Rattle.text.specs.Text.{ascii}
use Rattle.decimal.specs.Decimal.{Number, text, max_whole, max_decimals}
use Rattle.decimal.proofs.Text.{length-text}
use Rattle.edit.specs.Edit.{PriceLevel}
use Rattle.writer.specs.Snapshot.{quoted, comma_joined, array, k_entry, m_entry}
use Rattle.round_trip.specs.Claims.{Positive, ValidLevel, Valid, Each, each_none, each_more}
use Rattle.round_trip.proofs.Tokens.{length-quoted}

-- the longest decimal in quotes, entry and side
abbrev max_quoted : ℕ
max_quoted = max_whole + 1 + max_decimals + 2

abbrev max_entry : ℕ
max_entry = 2 * max_quoted + 14

abbrev pub max_side : ℕ
max_side = 100 * (max_entry + 1) + 2

length-decimal : (n : Number) → Positive n → length (quoted (text n)) ≤ max_quoted
length-decimal n p = let a = length-text n p.within in let b = length-quoted (text n) in omega arith

length-array : (ts : List (List ℕ)) → length (array ts) ≡ length (comma_joined ts) + 2
unfolding array
length-array ts = let e : length (comma_joined ts ++ (93 ∷ [])) ≡ length (comma_joined ts) + 1 = length-append (comma_joined ts) (93 ∷ []) in omega arith

length-comma : (t u : List ℕ) (ts : List (List ℕ)) → length (comma_joined (t ∷ (u ∷ ts))) ≡ length t + 1 + length (comma_joined (u ∷ ts))
unfolding comma_joined
length-comma t u ts = let e : length (t ++ (44 ∷ comma_joined (u ∷ ts))) ≡ length t + suc (length (comma_joined (u ∷ ts))) = length-append t (44 ∷ comma_joined (u ∷ ts)) in omega arith

length-one : (t : List ℕ) → length (comma_joined (t ∷ [])) ≡ length t
unfolding comma_joined
length-one t = refl

-- an entry of either dialect
pub length-k : (l : PriceLevel) → ValidLevel l → length (k_entry l) ≤ max_entry
unfolding k_entry
length-k l f =
    let p : List ℕ = quoted (text l.price) in
    let z : List ℕ = quoted (text l.size) in
    let t : List ℕ = quoted (ascii "0.000000") in
    let a : length p ≤ max_quoted = length-decimal l.price f.price in
    let b : length z ≤ max_quoted = length-decimal l.size f.size in
    let c : length t ≡ 10 = length-quoted (ascii "0.000000") in
    omega (arith, length-array (p ∷ (z ∷ (t ∷ []))), length-comma p z (t ∷ []), length-comma z t [], length-one t)

pub length-m : (l : PriceLevel) → ValidLevel l → length (m_entry l) ≤ max_entry
unfolding m_entry
length-m l f =
    let p : List ℕ = quoted (text l.price) in
    let z : List ℕ = quoted (text l.size) in
    let a : length p ≤ max_quoted = length-decimal l.price f.price in
    let b : length z ≤ max_quoted = length-decimal l.size f.size in
    omega (arith, length-array (p ∷ (z ∷ [])), length-comma p z [], length-one z)

-- a side
module _ (write : PriceLevel → List ℕ) (short : (l : PriceLevel) → ValidLevel l → length (write l) ≤ max_entry) where
  length-joined : (levels : List PriceLevel) → Each ValidLevel levels → length (comma_joined (map write levels)) ≤ length levels * (max_entry + 1)
  unfolding comma_joined
  length-joined [] each_none = zero-le
  length-joined (l ∷ []) (each_more f r) = let a = short l f in omega arith
  length-joined (l ∷ (m ∷ ls)) (each_more f r) =
      let a = short l f in
      let b = length-joined (m ∷ ls) r in
      let e = length-comma (write l) (write m) (map write ls) in
      omega arith

  pub length-side : (levels : List PriceLevel) → Valid levels → length (array (map write levels)) ≤ max_side
  length-side levels f =
      let n : length levels ≤ 100 = f.few in
      omega (arith, length-array (map write levels), length-joined levels f.each)
