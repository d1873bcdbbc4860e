-- Laws of the lines of a text: the first line and what follows it; a text with no line end. Assumes nothing.
use Prim.Native.Nat.{ℕ, suc, ◌+◌, ◌-◌, ◌≤◌, ◌<◌}
use mathlib.Core.Path.{◌≡◌, refl, sym, ap, ◌∙◌}
use mathlib.Core.Bool.{Bool, true, false}
use mathlib.Core.List.{List, [], ◌∷◌}
use native.Mathlib.Omega.{arith}
use borrow.Author.Tests.{lt-ltb, le-ltb}
use lib.Dec.{eqb}
use lib.ListN.{length, take, drop, length-drop}
use lib.Seq.{drop-drop}
use Rattle.lines.specs.Lines.{bytes_before, line_end, in_front, complete, unfinished}
use Rattle.lines.proofs.Before.{first-is, first-not}

-- ---- the first byte

pub at-end : (c : ℕ) (s : List ℕ) → eqb c line_end ≡ true → bytes_before line_end (c ∷ s) ≡ 0
at-end = first-is line_end

pub not_end : (c : ℕ) (s : List ℕ) → eqb c line_end ≡ false → bytes_before line_end (c ∷ s) ≡ suc (bytes_before line_end s)
not_end = first-not line_end

-- ---- a first line that ends

pub first-complete : (s : List ℕ) → bytes_before line_end s < length s → complete s ≡ take (bytes_before line_end s) s ∷ complete (drop (suc (bytes_before line_end s)) s)
unfolding complete in_front
first-complete [] h = absurd (omega (arith, h))
first-complete (c ∷ s) h = at (eqb c line_end) refl (λ k. first-complete s k)
  where
    at : (b : Bool) → eqb c line_end ≡ b → (bytes_before line_end s < length s → complete s ≡ take (bytes_before line_end s) s ∷ complete (drop (suc (bytes_before line_end s)) s)) →
        complete (c ∷ s) ≡ take (bytes_before line_end (c ∷ s)) (c ∷ s) ∷ complete (drop (suc (bytes_before line_end (c ∷ s))) (c ∷ s))
    at true e ih = rw (e, complete) (sym (ap (λ (n : ℕ). take n (c ∷ s) ∷ complete (drop n s)) (at-end c s e)))
    at false e ih =
        let n : bytes_before line_end (c ∷ s) ≡ suc (bytes_before line_end s) = not_end c s e in
        rw (e, complete)
        (ap (in_front c) (ih (omega arith))
        ∙ sym (ap (λ (k : ℕ). take k (c ∷ s) ∷ complete (drop k s)) n))

pub first-unfinished : (s : List ℕ) → bytes_before line_end s < length s → unfinished s ≡ unfinished (drop (suc (bytes_before line_end s)) s)
unfolding unfinished
first-unfinished [] h = absurd (omega (arith, h))
first-unfinished (c ∷ s) h = at (eqb c line_end) refl (λ k. first-unfinished s k)
  where
    on : unfinished (c ∷ s) ≡ unfinished s
    on = rw (lt-ltb (bytes_before line_end (c ∷ s)) (length (c ∷ s)) h, unfinished)

    at : (b : Bool) → eqb c line_end ≡ b → (bytes_before line_end s < length s → unfinished s ≡ unfinished (drop (suc (bytes_before line_end s)) s)) →
        unfinished (c ∷ s) ≡ unfinished (drop (suc (bytes_before line_end (c ∷ s))) (c ∷ s))
    at true e ih = on ∙ sym (ap (λ (n : ℕ). unfinished (drop n s)) (at-end c s e))
    at false e ih =
        let n : bytes_before line_end (c ∷ s) ≡ suc (bytes_before line_end s) = not_end c s e in
        on ∙ ih (omega arith) ∙ sym (ap (λ (k : ℕ). unfinished (drop k s)) n)

-- ---- no line end

pub none-complete : (s : List ℕ) → length s ≤ bytes_before line_end s → complete s ≡ []
unfolding complete in_front
none-complete [] h = refl
none-complete (c ∷ s) h = at (eqb c line_end) refl (λ k. none-complete s k)
  where
    at : (b : Bool) → eqb c line_end ≡ b → (length s ≤ bytes_before line_end s → complete s ≡ []) → complete (c ∷ s) ≡ []
    at true e ih = let n : bytes_before line_end (c ∷ s) ≡ 0 = at-end c s e in absurd (omega (arith, h))
    at false e ih =
        let n : bytes_before line_end (c ∷ s) ≡ suc (bytes_before line_end s) = not_end c s e in
        rw (e, complete) (ap (in_front c) (ih (omega arith)))

pub none-unfinished : (s : List ℕ) → length s ≤ bytes_before line_end s → unfinished s ≡ s
unfolding unfinished
none-unfinished [] h = refl
none-unfinished (c ∷ s) h = rw (le-ltb (bytes_before line_end (c ∷ s)) (length (c ∷ s)) h, unfinished)

-- ---- from a position on, as `find` gives the end of the line

module _ (s : List ℕ) (i e : ℕ) (is : e ≡ i + bytes_before line_end (drop i s)) where
  inside : e < length s → bytes_before line_end (drop i s) < length (drop i s)
  inside h = omega (arith, length-drop i s)

  past : drop (suc (bytes_before line_end (drop i s))) (drop i s) ≡ drop (e + 1) s
  past =
      let k : i + suc (bytes_before line_end (drop i s)) ≡ e + 1 = omega arith in
      drop-drop (suc (bytes_before line_end (drop i s))) i s ∙ ap (λ (n : ℕ). drop n s) k

  pub next-complete : e < length s → complete (drop i s) ≡ take (e - i) (drop i s) ∷ complete (drop (e + 1) s)
  next-complete h =
      let n : bytes_before line_end (drop i s) ≡ e - i = omega arith in
      first-complete (drop i s) (inside h) ∙ ap (λ (l : List ℕ). take (bytes_before line_end (drop i s)) (drop i s) ∷ complete l) past
      ∙ ap (λ (k : ℕ). take k (drop i s) ∷ complete (drop (e + 1) s)) n

  pub next-unfinished : e < length s → unfinished (drop i s) ≡ unfinished (drop (e + 1) s)
  next-unfinished h = first-unfinished (drop i s) (inside h) ∙ ap unfinished past

  pub no_more : length s ≤ e → complete (drop i s) ≡ []
  no_more h = none-complete (drop i s) (omega (arith, length-drop i s))
