-- Words taken three at a time: how many there are, one read, and one put in its place. Assumes nothing.
use Prim.Native.Nat.{ℕ, zero, suc, ◌+◌, ◌*◌, ◌≤◌, ◌<◌}
use mathlib.Core.Path.{◌≡◌, refl, ap}
use mathlib.Core.List.{List, [], ◌∷◌}
use native.Mathlib.Omega.{arith}
use lib.ListN.{length, get_or, set}
use Rattle.edit.specs.Buffer.{by_threes}

-- the place of the next three words
next : (i k : ℕ) → 3 * suc i + k ≡ suc (suc (suc (3 * i + k)))
next i k = omega arith

next-first : (i : ℕ) → 3 * suc i ≡ suc (suc (suc (3 * i)))
next-first i = omega arith

module _ {A : Type 0} (f : ℕ → ℕ → ℕ → A) where
  pub threes-length : (n : ℕ) (words : List ℕ) → length words ≡ 3 * n → length (by_threes f words) ≡ n
  unfolding by_threes
  threes-length zero [] h = refl
  threes-length zero (p ∷ words) h = absurd (omega arith)
  threes-length (suc n) [] h = absurd (omega arith)
  threes-length (suc n) (p ∷ []) h = absurd (omega arith)
  threes-length (suc n) (p ∷ z ∷ []) h = absurd (omega arith)
  threes-length (suc n) (p ∷ z ∷ r ∷ words) h = ap suc (threes-length n words (omega arith))

  pub threes-at : (i : ℕ) (words : List ℕ) (d : A) → 3 * i + 2 < length words
      → f (get_or words (3 * i) 0) (get_or words (3 * i + 1) 0) (get_or words (3 * i + 2) 0) ≡ get_or (by_threes f words) i d
  unfolding by_threes
  threes-at i [] d h = absurd (omega arith)
  threes-at i (p ∷ []) d h = absurd (omega arith)
  threes-at i (p ∷ z ∷ []) d h = absurd (omega arith)
  threes-at zero (p ∷ z ∷ r ∷ words) d h = refl
  threes-at (suc i) (p ∷ z ∷ r ∷ words) d h = rw (next i 1, next i 2, next-first i) (threes-at i words d (omega arith))

  pub threes-set : (i : ℕ) (words : List ℕ) (a b c : ℕ) → 3 * i + 2 < length words
      → by_threes f (set (set (set words (3 * i) a) (3 * i + 1) b) (3 * i + 2) c) ≡ set (by_threes f words) i (f a b c)
  unfolding by_threes
  threes-set i [] a b c h = absurd (omega arith)
  threes-set i (p ∷ []) a b c h = absurd (omega arith)
  threes-set i (p ∷ z ∷ []) a b c h = absurd (omega arith)
  threes-set zero (p ∷ z ∷ r ∷ words) a b c h = refl
  threes-set (suc i) (p ∷ z ∷ r ∷ words) a b c h =
      rw (next i 1, next i 2, next-first i) (ap (λ (l : List A). f p z r ∷ l) (threes-set i words a b c (omega arith)))

-- nothing is set past the end
pub set_past : {A : Type 0} (l : List A) (k : ℕ) (x : A) → length l ≤ k → set l k x ≡ l
set_past [] k x h = refl
set_past (y ∷ l) zero x h = absurd (omega arith)
set_past {A} (y ∷ l) (suc k) x h = ap (λ (t : List A). y ∷ t) (set_past l k x (omega arith))
