-- Words are determined: those of the first levels by the levels that they hold, the others by what stands past them. Assumes nothing.
use Prim.Native.Nat.{ℕ, zero, suc, ◌*◌, ◌≤◌}
use mathlib.Core.Path.{◌≡◌, ap}
use mathlib.Core.List.{List, [], ◌∷◌}
use native.Mathlib.Omega.{arith}
use lib.ListN.{length, take}
use Rattle.edit.specs.Buffer.{by_threes}
use Rattle.level.specs.declared.Level.{Level}
use Rattle.level.specs.Words.{level_of, levels_in, words_past}

next-three : (n : ℕ) → 3 * suc n ≡ suc (suc (suc (3 * n)))
next-three n = omega arith

pub words-one : (n : ℕ) (a b : List ℕ) → 3 * n ≤ length a → 3 * n ≤ length b
    → take n (levels_in a) ≡ take n (levels_in b) → words_past n a ≡ words_past n b → a ≡ b
unfolding levels_in by_threes words_past
words-one zero a b la lb e f = f
words-one (suc n) [] b la lb e f = absurd (omega arith)
words-one (suc n) (p ∷ []) b la lb e f = absurd (omega arith)
words-one (suc n) (p ∷ s ∷ []) b la lb e f = absurd (omega arith)
words-one (suc n) (p ∷ s ∷ r ∷ a) [] la lb e f = absurd (omega arith)
words-one (suc n) (p ∷ s ∷ r ∷ a) (q ∷ []) la lb e f = absurd (omega arith)
words-one (suc n) (p ∷ s ∷ r ∷ a) (q ∷ z ∷ []) la lb e f = absurd (omega arith)
words-one (suc n) (p ∷ s ∷ r ∷ a) (q ∷ z ∷ t ∷ b) la lb e f =
    let h : level_of p s r ≡ level_of q z t = cc in
    let g : take n (levels_in a) ≡ take n (levels_in b) = cc in
    let x : p ≡ q = ap (λ (l : Level). l.price) h in
    let y : s ≡ z = ap (λ (l : Level). l.size) h in
    let w : r ≡ t = ap (λ (l : Level). l.rest) h in
    let v : a ≡ b = words-one n a b (omega arith) (omega arith) g (rw next-three at f) in
    cc
