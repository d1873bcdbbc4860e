-- Words taken six at a time: how many there are, one read, and one put in its place; the words past it. Assumes nothing.
use Prim.Native.Nat.{ℕ, zero, suc, ◌+◌, ◌*◌, ◌<◌, ◌≤◌}
use mathlib.Core.Path.{◌≡◌, refl, ap, ◌∙◌}
use mathlib.Core.List.{List, [], ◌∷◌}
use native.Mathlib.Omega.{arith}
use lib.ListN.{length, get_or, set, drop, length-set}
use lib.Seq.{drop-set-lt}
use Rattle.order_edit.specs.Buffer.{by_sixes}

-- the place of the next six words
next : (i k : ℕ) → 6 * suc i + k ≡ suc (suc (suc (suc (suc (suc (6 * i + k))))))
next i k = omega arith

next-first : (i : ℕ) → 6 * suc i ≡ suc (suc (suc (suc (suc (suc (6 * i))))))
next-first i = omega arith

-- the six stores of one
unfoldable pub stored : List ℕ → ℕ → ℕ → ℕ → ℕ → ℕ → ℕ → ℕ → List ℕ
stored words n p z r i j k = set (set (set (set (set (set words (6 * n) p) (6 * n + 1) z) (6 * n + 2) r) (6 * n + 3) i) (6 * n + 4) j) (6 * n + 5) k

module _ {A : Type 0} (f : ℕ → ℕ → ℕ → ℕ → ℕ → ℕ → A) where
  pub sixes-room : (n : ℕ) (words : List ℕ) → 6 * n ≤ length words → n ≤ length (by_sixes f words)
  unfolding by_sixes
  sixes-room zero words h = omega arith
  sixes-room (suc n) [] h = absurd (omega arith)
  sixes-room (suc n) (a ∷ []) h = absurd (omega arith)
  sixes-room (suc n) (a ∷ b ∷ []) h = absurd (omega arith)
  sixes-room (suc n) (a ∷ b ∷ c ∷ []) h = absurd (omega arith)
  sixes-room (suc n) (a ∷ b ∷ c ∷ d ∷ []) h = absurd (omega arith)
  sixes-room (suc n) (a ∷ b ∷ c ∷ d ∷ e ∷ []) h = absurd (omega arith)
  sixes-room (suc n) (a ∷ b ∷ c ∷ d ∷ e ∷ g ∷ words) h = let t : n ≤ length (by_sixes f words) = sixes-room n words (omega arith) in omega arith

  pub sixes-length : (n : ℕ) (words : List ℕ) → length words ≡ 6 * n → length (by_sixes f words) ≡ n
  unfolding by_sixes
  sixes-length zero [] h = refl
  sixes-length zero (a ∷ words) h = absurd (omega arith)
  sixes-length (suc n) [] h = absurd (omega arith)
  sixes-length (suc n) (a ∷ []) h = absurd (omega arith)
  sixes-length (suc n) (a ∷ b ∷ []) h = absurd (omega arith)
  sixes-length (suc n) (a ∷ b ∷ c ∷ []) h = absurd (omega arith)
  sixes-length (suc n) (a ∷ b ∷ c ∷ d ∷ []) h = absurd (omega arith)
  sixes-length (suc n) (a ∷ b ∷ c ∷ d ∷ e ∷ []) h = absurd (omega arith)
  sixes-length (suc n) (p ∷ z ∷ r ∷ i ∷ j ∷ k ∷ words) h = ap suc (sixes-length n words (omega arith))

  pub sixes-at : (n : ℕ) (words : List ℕ) (d : A) → 6 * n + 5 < length words
      → f (get_or words (6 * n) 0) (get_or words (6 * n + 1) 0) (get_or words (6 * n + 2) 0) (get_or words (6 * n + 3) 0) (get_or words (6 * n + 4) 0) (get_or words (6 * n + 5) 0)
      ≡ get_or (by_sixes f words) n d
  unfolding by_sixes
  sixes-at n [] d h = absurd (omega arith)
  sixes-at n (a ∷ []) d h = absurd (omega arith)
  sixes-at n (a ∷ b ∷ []) d h = absurd (omega arith)
  sixes-at n (a ∷ b ∷ c ∷ []) d h = absurd (omega arith)
  sixes-at n (a ∷ b ∷ c ∷ e ∷ []) d h = absurd (omega arith)
  sixes-at n (a ∷ b ∷ c ∷ e ∷ g ∷ []) d h = absurd (omega arith)
  sixes-at zero (p ∷ z ∷ r ∷ i ∷ j ∷ k ∷ words) d h = refl
  sixes-at (suc n) (p ∷ z ∷ r ∷ i ∷ j ∷ k ∷ words) d h =
      rw (next n 1, next n 2, next n 3, next n 4, next n 5, next-first n) (sixes-at n words d (omega arith))

  pub sixes-set : (n : ℕ) (words : List ℕ) (p z r i j k : ℕ) → 6 * n + 5 < length words → by_sixes f (stored words n p z r i j k) ≡ set (by_sixes f words) n (f p z r i j k)
  unfolding by_sixes stored
  sixes-set n [] p z r i j k h = absurd (omega arith)
  sixes-set n (a ∷ []) p z r i j k h = absurd (omega arith)
  sixes-set n (a ∷ b ∷ []) p z r i j k h = absurd (omega arith)
  sixes-set n (a ∷ b ∷ c ∷ []) p z r i j k h = absurd (omega arith)
  sixes-set n (a ∷ b ∷ c ∷ d ∷ []) p z r i j k h = absurd (omega arith)
  sixes-set n (a ∷ b ∷ c ∷ d ∷ e ∷ []) p z r i j k h = absurd (omega arith)
  sixes-set zero (a ∷ b ∷ c ∷ d ∷ e ∷ g ∷ words) p z r i j k h = refl
  sixes-set (suc n) (a ∷ b ∷ c ∷ d ∷ e ∷ g ∷ words) p z r i j k h =
      rw (next n 1, next n 2, next n 3, next n 4, next n 5, next-first n) (ap (λ (l : List A). f a b c d e g ∷ l) (sixes-set n words p z r i j k (omega arith)))

module _ (n : ℕ) (words : List ℕ) (p z r i j k : ℕ) where
  pub length-stored : length (stored words n p z r i j k) ≡ length words
  unfolding stored
  length-stored = simp length-set

  -- the words past those that were stored are as they were
  pub past-stored : drop (6 * n + 6) (stored words n p z r i j k) ≡ drop (6 * n + 6) words
  unfolding stored
  past-stored =
      drop-set-lt (6 * n + 6) (set (set (set (set (set words (6 * n) p) (6 * n + 1) z) (6 * n + 2) r) (6 * n + 3) i) (6 * n + 4) j) (6 * n + 5) k (omega arith)
      ∙ drop-set-lt (6 * n + 6) (set (set (set (set words (6 * n) p) (6 * n + 1) z) (6 * n + 2) r) (6 * n + 3) i) (6 * n + 4) j (omega arith)
      ∙ drop-set-lt (6 * n + 6) (set (set (set words (6 * n) p) (6 * n + 1) z) (6 * n + 2) r) (6 * n + 3) i (omega arith)
      ∙ drop-set-lt (6 * n + 6) (set (set words (6 * n) p) (6 * n + 1) z) (6 * n + 2) r (omega arith)
      ∙ drop-set-lt (6 * n + 6) (set words (6 * n) p) (6 * n + 1) z (omega arith)
      ∙ drop-set-lt (6 * n + 6) words (6 * n) p (omega arith)
