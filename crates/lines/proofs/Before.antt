-- What stands before a byte, from a position on: each case of the byte there. Assumes nothing.
use Prim.Native.Nat.{ℕ, zero, suc, ◌+◌, ◌≤◌, ◌<◌, zero-le}
use mathlib.Core.Path.{◌≡◌, refl, sym, ap, ◌∙◌}
use mathlib.Core.Bool.{Bool, true, false, ◌||◌, cond, or-false, or_assoc}
use mathlib.Core.List.{List, [], ◌∷◌}
use native.Mathlib.Decide.{dec_lt}
use native.Mathlib.Omega.{arith}
use borrow.Author.Tests.{lt-ltb, le-ltb, ltb-true, ltb-false}
use lib.Dec.{eqb, ltb}
use lib.ListN.{length, take, drop}
use lib.Seq.{drop-drop}
use Rattle.std.specs.List.{fold, position_or_len}
use Rattle.std.specs.declared.option.Option.{Option}
use Rattle.std.specs.declared.option.Option.TheVariants.{Some, None}
use Rattle.std.proofs.lemmas.List.Recursion.{is_position_or_len}
use Rattle.lines.specs.Lines.{bytes_before}

-- ---- the first byte

pub first-is : (b c : ℕ) (s : List ℕ) → eqb c b ≡ true → bytes_before b (c ∷ s) ≡ 0
unfolding bytes_before
first-is b c s e = rw (e, bytes_before)

pub first-not : (b c : ℕ) (s : List ℕ) → eqb c b ≡ false → bytes_before b (c ∷ s) ≡ suc (bytes_before b s)
unfolding bytes_before
first-not b c s e = rw (e, bytes_before)

-- ---- a block

past : (b k : ℕ) (s : List ℕ) → k ≤ bytes_before b s → k + bytes_before b (drop k s) ≡ bytes_before b s
unfolding bytes_before
past b zero s h = omega arith
past b (suc k) [] h = absurd (omega (arith, h))
past b (suc k) (c ∷ s) h = at (eqb c b) refl (λ l. past b k s l)
  where
    at : (t : Bool) → eqb c b ≡ t → (k ≤ bytes_before b s → k + bytes_before b (drop k s) ≡ bytes_before b s) → suc k + bytes_before b (drop k s) ≡ bytes_before b (c ∷ s)
    at true e ih = let n : bytes_before b (c ∷ s) ≡ 0 = first-is b c s e in absurd (omega (arith, h))
    at false e ih = let n : bytes_before b (c ∷ s) ≡ suc (bytes_before b s) = first-not b c s e in let m = ih (omega arith) in omega arith

pub skipped : (s : List ℕ) (i k b : ℕ) → k ≤ bytes_before b (drop i s) → i + k + bytes_before b (drop (i + k) s) ≡ i + bytes_before b (drop i s)
skipped s i k b h =
    let e : bytes_before b (drop k (drop i s)) ≡ bytes_before b (drop (i + k) s) = ap (bytes_before b) (drop-drop k i s) in
    let p = past b k (drop i s) h in
    omega arith

-- whether one of the first bytes is the one asked for, or one before them was
pub among-first : (b n : ℕ) (s : List ℕ) (t : Bool) → n ≤ length s → fold (λ (u : Bool) (x : ℕ). u || eqb x b) t (take n s) ≡ t || ltb (bytes_before b s) n
among-first b zero s t h = sym (or-false t) ∙ ap (λ (u : Bool). t || u) (sym (le-ltb (bytes_before b s) 0 zero-le))
among-first b (suc n) [] t h = absurd (omega (arith, h))
among-first b (suc n) (c ∷ s) t h = among-first b n s (t || eqb c b) (omega arith) ∙ or_assoc t (eqb c b) (ltb (bytes_before b s) n) ∙ ap (λ (u : Bool). t || u) (one (eqb c b) refl)
  where
    one : (e : Bool) → eqb c b ≡ e → (eqb c b || ltb (bytes_before b s) n) ≡ ltb (bytes_before b (c ∷ s)) (suc n)
    one true e = let z : bytes_before b (c ∷ s) ≡ 0 = first-is b c s e in rw e (sym (lt-ltb (bytes_before b (c ∷ s)) (suc n) (omega arith)))
    one false e =
        let m : bytes_before b (c ∷ s) ≡ suc (bytes_before b s) = first-not b c s e in
        rw e
        (elim (dec_lt (bytes_before b s) n) [
          | yes l ↦ lt-ltb (bytes_before b s) n l ∙ sym (lt-ltb (bytes_before b (c ∷ s)) (suc n) (omega arith))
          | no l ↦ le-ltb (bytes_before b s) n (omega arith) ∙ sym (le-ltb (bytes_before b (c ∷ s)) (suc n) (omega arith))
        ])

-- ---- the place of the first byte that is the one asked for

abbrev pub place : ℕ → List ℕ → Option ℕ
place b s = cond (ltb (position_or_len (λ (x : ℕ). eqb x b) s) (length s)) (Some (position_or_len (λ (x : ℕ). eqb x b) s)) None

is_before : (b : ℕ) (s : List ℕ) → bytes_before b s ≡ position_or_len (λ (x : ℕ). eqb x b) s
unfolding bytes_before
is_before b s = is_position_or_len (bytes_before b) (λ (x : ℕ). eqb x b) refl (λ x xs. ap (cond (eqb x b) 0) (one_more (bytes_before b xs))) s
  where
    one_more : (n : ℕ) → suc n ≡ 1 + n
    one_more n = omega arith

pub not_past : (b : ℕ) (s : List ℕ) → bytes_before b s ≤ length s
unfolding bytes_before
not_past b [] = zero-le
not_past b (c ∷ s) = at (eqb c b) refl (not_past b s)
  where
    at : (t : Bool) → eqb c b ≡ t → bytes_before b s ≤ length s → bytes_before b (c ∷ s) ≤ length (c ∷ s)
    at true e m = let n : bytes_before b (c ∷ s) ≡ 0 = first-is b c s e in omega arith
    at false e m = let n : bytes_before b (c ∷ s) ≡ suc (bytes_before b s) = first-not b c s e in omega arith

pub placed : (b k : ℕ) (s : List ℕ) → Some k ≡ place b s → (k ≡ bytes_before b s) × (k < length s)
placed b k s h = at (position_or_len (λ (x : ℕ). eqb x b) s) (is_before b s) h
  where
    at : (p : ℕ) → bytes_before b s ≡ p → Some k ≡ cond (ltb p (length s)) (Some p) None → (k ≡ bytes_before b s) × (k < length s)
    at p e f = by (ltb p (length s)) refl f
      where
        by : (t : Bool) → ltb p (length s) ≡ t → Some k ≡ cond t (Some p) None → (k ≡ bytes_before b s) × (k < length s)
        by true q g = let i : k ≡ p = cc in let l = ltb-true p (length s) q in (omega arith, omega arith)
        by false q g = let z : ◌≡◌ {A = ℕ} 0 1 = cc in absurd (omega arith)

pub not_placed : (b : ℕ) (s : List ℕ) → None ≡ place b s → bytes_before b s ≡ length s
not_placed b s h = at (position_or_len (λ (x : ℕ). eqb x b) s) (is_before b s) h
  where
    at : (p : ℕ) → bytes_before b s ≡ p → None ≡ cond (ltb p (length s)) (Some p) None → bytes_before b s ≡ length s
    at p e f = by (ltb p (length s)) refl f
      where
        by : (t : Bool) → ltb p (length s) ≡ t → None ≡ cond t (Some p) None → bytes_before b s ≡ length s
        by true q g = let z : ◌≡◌ {A = ℕ} 0 1 = cc in absurd (omega arith)
        by false q g = let l = ltb-false p (length s) q in let m = not_past b s in omega arith
