-- A text that another follows: the lines of both together, also where not all of the unfinished line is held. Assumes nothing.
use Prim.Native.Nat.{ℕ, zero, suc, ◌≤◌, ◌<◌, zero-le}
use mathlib.Core.Path.{◌≡◌, refl, sym, ap, ap₂, ◌∙◌}
use mathlib.Core.Bool.{Bool, true, false}
use mathlib.Core.List.{List, [], ◌∷◌, ◌++◌, map, append-nil}
use native.Mathlib.Omega.{arith}
use borrow.Author.Tests.{lt-ltb, ltb-true, ltb-false}
use lib.Dec.{eqb}
use lib.ListN.{length, take}
use Rattle.lines.specs.Lines.{bytes_before, line_end, has_end, in_front, complete, unfinished, last_line}
use Rattle.lines.proofs.Split.{at-end, not_end, first-complete, none-complete, none-unfinished}

-- A text with no line end.
abbrev pub Unended : List ℕ → Type 0
Unended s = length s ≤ bytes_before line_end s

-- ---- one byte more

front-complete : (c : ℕ) (s : List ℕ) (ls : List (List ℕ)) → bytes_before line_end s < length s → in_front c (complete s ++ ls) ≡ in_front c (complete s) ++ ls
unfolding in_front
front-complete c s ls h = rw (first-complete s h) refl

end_later : (c : ℕ) (s : List ℕ) → bytes_before line_end (c ∷ s) < length (c ∷ s) → unfinished (c ∷ s) ≡ unfinished s
unfolding unfinished
end_later c s h = rw (lt-ltb (bytes_before line_end (c ∷ s)) (length (c ∷ s)) h, unfinished)

byte-first : (c : ℕ) (s : List ℕ) → eqb c line_end ≡ false → complete (c ∷ s) ≡ in_front c (complete s)
unfolding complete
byte-first c s e = rw (e, complete)

end-complete : (c : ℕ) (s : List ℕ) → eqb c line_end ≡ true → complete (c ∷ s) ≡ [] ∷ complete s
unfolding complete
end-complete c s e = rw (e, complete)

ends-later : (h w : List ℕ) → bytes_before line_end w < length w → bytes_before line_end (h ++ w) < length (h ++ w)
ends-later [] w k = k
ends-later (c ∷ h) w k = at (eqb c line_end) refl (ends-later h w k)
  where
    at : (b : Bool) → eqb c line_end ≡ b → bytes_before line_end (h ++ w) < length (h ++ w) → bytes_before line_end (c ∷ (h ++ w)) < length (c ∷ (h ++ w))
    at true e ih = let n : bytes_before line_end (c ∷ (h ++ w)) ≡ 0 = at-end c (h ++ w) e in omega arith
    at false e ih = let n : bytes_before line_end (c ∷ (h ++ w)) ≡ suc (bytes_before line_end (h ++ w)) = not_end c (h ++ w) e in omega arith

ends-sooner : (s w : List ℕ) → bytes_before line_end s < length s → bytes_before line_end (s ++ w) < length (s ++ w)
ends-sooner [] w h = absurd (omega (arith, h))
ends-sooner (c ∷ s) w h = at (eqb c line_end) refl (λ k. ends-sooner s w k)
  where
    at : (b : Bool) → eqb c line_end ≡ b → (bytes_before line_end s < length s → bytes_before line_end (s ++ w) < length (s ++ w)) → bytes_before line_end (c ∷ (s ++ w)) < length (c ∷ (s ++ w))
    at true e ih = let n : bytes_before line_end (c ∷ (s ++ w)) ≡ 0 = at-end c (s ++ w) e in omega arith
    at false e ih =
        let n : bytes_before line_end (c ∷ (s ++ w)) ≡ suc (bytes_before line_end (s ++ w)) = not_end c (s ++ w) e in
        let m : bytes_before line_end (c ∷ s) ≡ suc (bytes_before line_end s) = not_end c s e in
        let k = ih (omega arith) in
        omega arith

-- ---- a text with no line end

unended-first : (c : ℕ) (h : List ℕ) → Unended (c ∷ h) → eqb c line_end ≡ false
unended-first c h u = at (eqb c line_end) refl
  where
    at : (b : Bool) → eqb c line_end ≡ b → b ≡ false
    at true e = let n : bytes_before line_end (c ∷ h) ≡ 0 = at-end c h e in absurd (omega (arith, u))
    at false e = refl

unended-rest : (c : ℕ) (h : List ℕ) → Unended (c ∷ h) → Unended h
unended-rest c h u = let n : bytes_before line_end (c ∷ h) ≡ suc (bytes_before line_end h) = not_end c h (unended-first c h u) in omega arith

unended-more : (c : ℕ) (h : List ℕ) → eqb c line_end ≡ false → Unended h → Unended (c ∷ h)
unended-more c h e u = let n : bytes_before line_end (c ∷ h) ≡ suc (bytes_before line_end h) = not_end c h e in omega arith

unended-append : (h w : List ℕ) → Unended h → Unended w → Unended (h ++ w)
unended-append [] w u v = v
unended-append (c ∷ h) w u v = unended-more c (h ++ w) (unended-first c h u) (unended-append h w (unended-rest c h u) v)

pub unended-take : (n : ℕ) (h : List ℕ) → Unended h → Unended (take n h)
unended-take zero h u = zero-le
unended-take (suc n) [] u = zero-le
unended-take (suc n) (c ∷ h) u = unended-more c (take n h) (unended-first c h u) (unended-take n h (unended-rest c h u))

pub unfinished-unended : (s : List ℕ) → Unended (unfinished s)
unfolding unfinished
unfinished-unended [] = zero-le
unfinished-unended (c ∷ s) = at (has_end (c ∷ s)) refl (unfinished-unended s)
  where
    at : (b : Bool) → has_end (c ∷ s) ≡ b → Unended (unfinished s) → Unended (unfinished (c ∷ s))
    at true e ih = rw (e, unfinished) ih
    at false e ih = rw (e, unfinished) (ltb-false (bytes_before line_end (c ∷ s)) (length (c ∷ s)) e)

-- a text none of whose lines ends
pub none-unended : (s : List ℕ) → complete s ≡ [] → Unended s
none-unended s e = at (has_end s) refl
  where
    at : (b : Bool) → has_end s ≡ b → Unended s
    at true q =
        let z : ◌≡◌ {A = ℕ} 0 1 = cc (first-complete s (ltb-true (bytes_before line_end s) (length s) q)) in
        absurd (omega arith)
    at false q = ltb-false (bytes_before line_end s) (length s) q

-- ---- what is left of a text, and another behind it

pub complete-split : (y z : List ℕ) → complete (y ++ z) ≡ complete y ++ complete (unfinished y ++ z)
unfolding complete unfinished
complete-split [] z = refl
complete-split (c ∷ y) z = at (has_end (c ∷ y)) refl (complete-split y z)
  where
    later : (b : Bool) → eqb c line_end ≡ b → bytes_before line_end (c ∷ y) < length (c ∷ y) → complete (y ++ z) ≡ complete y ++ complete (unfinished y ++ z) →
        complete (c ∷ (y ++ z)) ≡ complete (c ∷ y) ++ complete (unfinished y ++ z)
    later true e h ih =
        end-complete c (y ++ z) e ∙ ap (λ (ls : List (List ℕ)). [] ∷ ls) ih ∙ ap (λ (ls : List (List ℕ)). ls ++ complete (unfinished y ++ z)) (sym (end-complete c y e))
    later false e h ih =
        let n : bytes_before line_end (c ∷ y) ≡ suc (bytes_before line_end y) = not_end c y e in
        byte-first c (y ++ z) e ∙ ap (in_front c) ih ∙ front-complete c y (complete (unfinished y ++ z)) (omega arith)
        ∙ ap (λ (ls : List (List ℕ)). ls ++ complete (unfinished y ++ z)) (sym (byte-first c y e))

    at : (b : Bool) → has_end (c ∷ y) ≡ b → complete (y ++ z) ≡ complete y ++ complete (unfinished y ++ z) → complete ((c ∷ y) ++ z) ≡ complete (c ∷ y) ++ complete (unfinished (c ∷ y) ++ z)
    at true q ih =
        let h : bytes_before line_end (c ∷ y) < length (c ∷ y) = ltb-true (bytes_before line_end (c ∷ y)) (length (c ∷ y)) q in
        later (eqb c line_end) refl h ih ∙ ap (λ (l : List ℕ). complete (c ∷ y) ++ complete (l ++ z)) (sym (end_later c y h))
    at false q ih =
        let h : length (c ∷ y) ≤ bytes_before line_end (c ∷ y) = ltb-false (bytes_before line_end (c ∷ y)) (length (c ∷ y)) q in
        sym (ap₂ (λ (ls : List (List ℕ)) (l : List ℕ). ls ++ complete (l ++ z)) (none-complete (c ∷ y) h) (none-unfinished (c ∷ y) h))

pub unfinished-split : (y z : List ℕ) → unfinished (y ++ z) ≡ unfinished (unfinished y ++ z)
unfolding unfinished
unfinished-split [] z = refl
unfinished-split (c ∷ y) z = at (has_end (c ∷ y)) refl (unfinished-split y z)
  where
    at : (b : Bool) → has_end (c ∷ y) ≡ b → unfinished (y ++ z) ≡ unfinished (unfinished y ++ z) → unfinished ((c ∷ y) ++ z) ≡ unfinished (unfinished (c ∷ y) ++ z)
    at true q ih =
        let h : bytes_before line_end (c ∷ y) < length (c ∷ y) = ltb-true (bytes_before line_end (c ∷ y)) (length (c ∷ y)) q in
        end_later c (y ++ z) (ends-sooner (c ∷ y) z h) ∙ ih ∙ ap (λ (l : List ℕ). unfinished (l ++ z)) (sym (end_later c y h))
    at false q ih =
        ap (λ (l : List ℕ). unfinished (l ++ z)) (sym (none-unfinished (c ∷ y) (ltb-false (bytes_before line_end (c ∷ y)) (length (c ∷ y)) q)))

unfinished-later : (h w : List ℕ) → bytes_before line_end w < length w → unfinished (h ++ w) ≡ unfinished w
unfinished-later [] w k = refl
unfinished-later (c ∷ h) w k = end_later c (h ++ w) (ends-later (c ∷ h) w k) ∙ unfinished-later h w k

-- ---- a text with no line end in front of another

-- a text in front of the first line
front_all : List ℕ → List (List ℕ) → List (List ℕ)
front_all h [] = []
front_all h (line ∷ ls) = (h ++ line) ∷ ls

front-more : (c : ℕ) (h : List ℕ) (ls : List (List ℕ)) → in_front c (front_all h ls) ≡ front_all (c ∷ h) ls
unfolding in_front front_all
front-more c h [] = refl
front-more c h (line ∷ ls) = refl

front-none : (ls : List (List ℕ)) → ls ≡ front_all [] ls
unfolding front_all
front-none [] = refl
front-none (line ∷ ls) = refl

complete-after : (h w : List ℕ) → Unended h → complete (h ++ w) ≡ front_all h (complete w)
complete-after [] w u = front-none (complete w)
complete-after (c ∷ h) w u = byte-first c (h ++ w) (unended-first c h u) ∙ ap (in_front c) (complete-after h w (unended-rest c h u)) ∙ front-more c h (complete w)

-- a line end behind it
pub ended-complete : (h : List ℕ) → Unended h → complete (h ++ (line_end ∷ [])) ≡ h ∷ []
unfolding complete front_all
ended-complete h u = complete-after h (line_end ∷ []) u ∙ ap (λ (l : List ℕ). l ∷ []) (append-nil h)

-- ---- a line of which not all is held

take-front : (n : ℕ) (h w : List ℕ) → take n (take n h ++ w) ≡ take n (h ++ w)
take-front zero h w = refl
take-front (suc n) [] w = refl
take-front (suc n) (c ∷ h) w = ap (λ (l : List ℕ). c ∷ l) (take-front n h w)

module _ (m : ℕ) where
  abbrev cut : List ℕ → List ℕ
  cut = take (suc m)

  pub cut_again : (h : List ℕ) → cut (cut h) ≡ cut h
  cut_again h = ap cut (sym (append-nil (cut h))) ∙ take-front (suc m) h [] ∙ ap cut (append-nil h)

  last-cut : (h : List ℕ) → map cut (last_line (cut h)) ≡ map cut (last_line h)
  unfolding last_line
  last-cut [] = refl
  last-cut (c ∷ h) = ap (λ (l : List ℕ). l ∷ []) (cut_again (c ∷ h))

  front_cut : (h : List ℕ) (ls : List (List ℕ)) → map cut (front_all (cut h) ls) ≡ map cut (front_all h ls)
  unfolding front_all
  front_cut h [] = refl
  front_cut h (line ∷ ls) = ap (λ (l : List ℕ). l ∷ map cut ls) (take-front (suc m) h line)

  complete-cut : (h w : List ℕ) → Unended h → map cut (complete (cut h ++ w)) ≡ map cut (complete (h ++ w))
  complete-cut h w u =
      ap (map cut) (complete-after (cut h) w (unended-take (suc m) h u)) ∙ front_cut h (complete w) ∙ sym (ap (map cut) (complete-after h w u))

  unfinished-cut : (h w : List ℕ) → Unended h → cut (unfinished (cut h ++ w)) ≡ cut (unfinished (h ++ w))
  unfinished-cut h w u = at (has_end w) refl
    where
      at : (b : Bool) → has_end w ≡ b → cut (unfinished (cut h ++ w)) ≡ cut (unfinished (h ++ w))
      at true q =
          let k : bytes_before line_end w < length w = ltb-true (bytes_before line_end w) (length w) q in
          ap cut (unfinished-later (cut h) w k ∙ sym (unfinished-later h w k))
      at false q =
          let v : Unended w = ltb-false (bytes_before line_end w) (length w) q in
          ap cut (none-unfinished (cut h ++ w) (unended-append (cut h) w (unended-take (suc m) h u) v)) ∙ take-front (suc m) h w
          ∙ sym (ap cut (none-unfinished (h ++ w) (unended-append h w u v)))

  -- Of two texts with no line end that begin alike, so do the lines that a text behind them ends, and what is left.
  module _ (h k : List ℕ) (same : cut h ≡ cut k) where
    pub same-last : map cut (last_line h) ≡ map cut (last_line k)
    same-last = sym (last-cut h) ∙ ap (λ (l : List ℕ). map cut (last_line l)) same ∙ last-cut k

    pub same-complete : (w : List ℕ) → Unended h → Unended k → map cut (complete (h ++ w)) ≡ map cut (complete (k ++ w))
    same-complete w u v = sym (complete-cut h w u) ∙ ap (λ (l : List ℕ). map cut (complete (l ++ w))) same ∙ complete-cut k w v

    pub same-unfinished : (w : List ℕ) → Unended h → Unended k → cut (unfinished (h ++ w)) ≡ cut (unfinished (k ++ w))
    same-unfinished w u v = sym (unfinished-cut h w u) ∙ ap (λ (l : List ℕ). cut (unfinished (l ++ w))) same ∙ unfinished-cut k w v
