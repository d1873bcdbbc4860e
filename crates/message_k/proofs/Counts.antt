-- Tests on how often a name is met decide the same where counting stops at two.
-- Assumes nothing.
use mathlib.Core.Path.{◌≡◌, refl, sym, ap, ◌∙◌}
use mathlib.Core.Bool.{Bool, true, false, ◌&&◌, ◌||◌}
use Prim.Native.Nat.{ℕ, zero, suc, ◌+◌, ◌≤◌}
use native.Mathlib.Omega.{arith}
use lib.Dec.{leb, ltb, eqb}
use borrow.Author.Tests.{eqb-true, eq-eqb, ne_eqb, le-leb, lt-leb, lt-ltb, le-ltb}
use Rattle.layout.specs.MemberSpans.{few}
use Rattle.layout.proofs.MemberSpans.{few-is}

pub few-zero : (n : ℕ) → eqb (few n) 0 ≡ eqb n 0
unfolding few
few-zero zero = refl
few-zero (suc zero) = refl
few-zero (suc (suc n)) = sym (ne_eqb (suc (suc n)) 0 (λ z. omega arith))

pub few-one : (n : ℕ) → eqb (few n) 1 ≡ eqb n 1
unfolding few
few-one zero = refl
few-one (suc zero) = refl
few-one (suc (suc n)) = sym (ne_eqb (suc (suc n)) 1 (λ z. omega arith))

pub few-most : (n : ℕ) → leb (few n) 1 ≡ leb n 1
unfolding few
few-most zero = refl
few-most (suc zero) = refl
few-most (suc (suc n)) = sym (lt-leb (suc (suc n)) 1 (omega arith))

-- ---- one more than before
pub few-some : (n : ℕ) → ltb 0 (few n) ≡ leb 1 n
unfolding few
few-some zero = refl
few-some (suc zero) = refl
few-some (suc (suc n)) = sym (le-leb 1 (suc (suc n)) (omega arith))

rises : (m n : ℕ) → ltb m (m + n) ≡ leb 1 n
rises m zero = le-ltb m (m + 0) (omega arith)
rises m (suc n) = lt-ltb m (m + suc n) (omega arith) ∙ sym (le-leb 1 (suc n) (omega arith))

pub few-rises : (m n : ℕ) → m + n ≤ 1 → ltb (few m) (few (m + n)) ≡ leb 1 n
few-rises m n h = rw (few-is m (omega arith), few-is (m + n) h) (rises m n)

pub some_or : (p q : Bool) (m n : ℕ) → p ≡ leb 1 m → q ≡ leb 1 n → (p || q) ≡ leb 1 (m + n)
some_or p q m n h g = rw (h, g) (go m)
  where
    go : (m : ℕ) → (leb 1 m || leb 1 n) ≡ leb 1 (m + n)
    go zero = let z : n ≡ 0 + n = omega arith in ap (leb 1) z
    go (suc m) = let z : (leb 1 (suc m)) ≡ true = le-leb 1 (suc m) (omega arith) in rw z (sym (le-leb 1 (suc m + n) (omega arith)))

-- ---- none of several
pub none-and : (m n : ℕ) → (eqb m 0 && eqb n 0) ≡ eqb (m + n) 0
none-and zero n = let z : n ≡ 0 + n = omega arith in ap (λ k. eqb k 0) z
none-and (suc m) n = let z : eqb (suc m) 0 ≡ false = ne_eqb (suc m) 0 (λ y. omega arith) in rw z (sym (ne_eqb (suc m + n) 0 (λ y. omega arith)))

-- ---- once in all: not before is once in the last
pub once_last : (m n : ℕ) → eqb (m + n) 1 ≡ true → eqb (few m) 0 ≡ eqb n 1
once_last m n h = few-zero m ∙ go m n (eqb-true (m + n) 1 h)
  where
    go : (m n : ℕ) → m + n ≡ 1 → eqb m 0 ≡ eqb n 1
    go zero n e = sym (eq-eqb n 1 (omega arith))
    go (suc m) n e = ne_eqb (suc m) 0 (λ y. omega arith) ∙ sym (ne_eqb n 1 (λ y. omega arith))

-- ---- a chain of tests, each of which may lean on those before it
pub and-on : (a b x y : Bool) → a ≡ b → (b ≡ true → x ≡ y) → (a && x) ≡ (b && y)
and-on a true x y h f = rw h (f refl)
and-on a false x y h f = rw h
