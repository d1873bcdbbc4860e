-- Prices where a level stands when an entry sets one. Entries that all set, on the empty side, meet a level where they name a price twice.
-- Assumes nothing.
use Prim.Native.Nat.{ℕ, zero, suc, ◌<◌}
use mathlib.Core.Path.{◌≡◌, refl, sym, ap, ◌∙◌}
use mathlib.Core.Bool.{Bool, true, false, ◌||◌, cond, or-true}
use mathlib.Core.List.{List, [], ◌∷◌, map}
use lib.Dec.{eqb}
use lib.ListN.{length, get_or}
use native.Mathlib.Nat.{le_of_suc-le-suc, not-suc-le-zero}
use borrow.Author.Tests.{eqb-true, eqb-false, eq-eqb, ne_eqb}
use Rattle.decimal.specs.Decimal.{Number, value}
use Rattle.edit.specs.declared.Side.{Side}
use Rattle.edit.specs.Edit.{Edit, sets, removes}
use Rattle.level.specs.Side.{nearer, names, names_twice, without, apply, place, ranked, standing}
use Rattle.level.specs.Ranked.{All, replaces, replaced, IsSet}
use Rattle.edit.specs.Edit.{named}
use Rattle.level.proofs.Ranking.{apply_ranked, commute}

or_swap : (a b c : Bool) → (a || (b || c)) ≡ (b || (a || c))
or_swap true true c = refl
or_swap true false c = refl
or_swap false true c = refl
or_swap false false c = refl

or-four : (a b c d : Bool) → (a || b || (c || d)) ≡ (a || c || (b || d))
or-four true b c d = refl
or-four false true true d = refl
or-four false true false d = refl
or-four false false true d = refl
or-four false false false d = refl

or-last : (a b c d : Bool) → (a || (b || c || d)) ≡ (a || c || (b || d))
or-last true b c d = refl
or-last false true true d = refl
or-last false true false d = refl
or-last false false true d = refl
or-last false false false d = refl

module _ {A : Type 0} (price_of : A → Number) where
  abbrev key : A → ℕ
  key x = value (price_of x)

  pub standing-none : (v : ℕ) (s : List A) → All (λ x. key x ≡ v → ⊥) s → standing price_of v s ≡ false
  unfolding All standing
  standing-none v [] a = refl
  standing-none v (x ∷ s) a = simp (ne_eqb (key x) v a.0, standing-none v s a.1)

  pub standing-at : (v : ℕ) (s : List A) (k : ℕ) (d : A) → k < length s → key (get_or s k d) ≡ v → standing price_of v s ≡ true
  unfolding standing
  standing-at v [] k d h e = absurd (not-suc-le-zero h)
  standing-at v (x ∷ s) zero d h e = simp (eq-eqb (key x) v e)
  standing-at v (x ∷ s) (suc k) d h e = rw (standing-at v s k d (le_of_suc-le-suc h) e) (or-true (eqb (key x) v))

  -- ---- ranking changes nothing of what stands

  place-cond : (side : Side) (v : ℕ) (x y : A) (s : List A) (t : Bool) → standing price_of v (place price_of side x s) ≡ (eqb (key x) v || standing price_of v s)
      → standing price_of v (cond t (y ∷ place price_of side x s) (x ∷ y ∷ s)) ≡ (eqb (key x) v || standing price_of v (y ∷ s))
  unfolding standing
  place-cond side v x y s true e = rw e (or_swap (eqb (key y) v) (eqb (key x) v) (standing price_of v s))
  place-cond side v x y s false e = refl

  standing-place : (side : Side) (v : ℕ) (x : A) (s : List A) → standing price_of v (place price_of side x s) ≡ (eqb (key x) v || standing price_of v s)
  unfolding standing place
  standing-place side v x [] = refl
  standing-place side v x (y ∷ s) = place-cond side v x y s (nearer side (key y) (key x)) (standing-place side v x s)

  pub standing-ranked : (side : Side) (v : ℕ) (s : List A) → standing price_of v (ranked price_of side s) ≡ standing price_of v s
  unfolding standing ranked
  standing-ranked side v [] = refl
  standing-ranked side v (x ∷ s) =
      standing-place side v x (ranked price_of side s) ∙ ap (λ (b : Bool). eqb (key x) v || b) (standing-ranked side v s)

  meets-ranked : (side : Side) (e : Edit A) (s : List A) → replaces price_of e s ≡ replaces price_of e (ranked price_of side s)
  unfolding replaces
  meets-ranked side (sets x) s = sym (standing-ranked side (key x) s)
  meets-ranked side (removes p) s = refl

  -- `replaced` on a side that is ranked after each entry
  unfoldable pub met_ranked : Side → List (Edit A) → List A → Bool
  met_ranked side [] s = false
  met_ranked side (e ∷ es) s = replaces price_of e s || met_ranked side es (apply_ranked price_of side e s)

  pub met-ranked : (side : Side) (es : List (Edit A)) (s : List A) → replaced price_of es s ≡ met_ranked side es (ranked price_of side s)
  unfolding replaced met_ranked
  met-ranked side [] s = refl
  met-ranked side (e ∷ es) s = rw (met-ranked side es (apply price_of e s), commute price_of side e s, meets-ranked side e s)

  -- ---- a snapshot: from the empty side, where every entry sets a level

  other-cond : (u v : ℕ) (y : A) (s r : List A) (t : Bool) → eqb (key y) u ≡ t → (u ≡ v → ⊥) → standing price_of v r ≡ standing price_of v s
      → standing price_of v (cond t r (y ∷ r)) ≡ (eqb (key y) v || standing price_of v s)
  unfolding standing
  other-cond u v y s r true e n h = rw (ne_eqb (key y) v (λ q. n (sym (eqb-true (key y) u e) ∙ q))) h
  other-cond u v y s r false e n h = rw h

  standing-other : (u v : ℕ) (s : List A) → (u ≡ v → ⊥) → standing price_of v (without price_of u s) ≡ standing price_of v s
  unfolding standing without
  standing-other u v [] n = refl
  standing-other u v (y ∷ s) n = other-cond u v y s (without price_of u s) (eqb (key y) u) refl n (standing-other u v s n)

  after-cond : (u v : ℕ) (s : List A) (t : Bool) → eqb u v ≡ t → (t || standing price_of v (without price_of u s)) ≡ (t || standing price_of v s)
  after-cond u v s true e = refl
  after-cond u v s false e = standing-other u v s (eqb-false u v e)

  unfoldable any_standing : List Number → List A → Bool
  any_standing [] s = false
  any_standing (p ∷ ps) s = standing price_of (value p) s || any_standing ps s

  any-set : (ps : List Number) (x : A) (s : List A) → any_standing ps (x ∷ without price_of (key x) s) ≡ (names (key x) ps || any_standing ps s)
  unfolding any_standing names standing
  any-set [] x s = refl
  any-set (p ∷ ps) x s =
      rw (after-cond (key x) (value p) s (eqb (key x) (value p)) refl, any-set ps x s)
      (or-four (eqb (key x) (value p)) (standing price_of (value p) s) (names (key x) ps) (any_standing ps s))

  any_none : (ps : List Number) → any_standing ps [] ≡ false
  unfolding any_standing standing
  any_none [] = refl
  any_none (p ∷ ps) = any_none ps

  met-sets : (es : List (Edit A)) (s : List A) → All IsSet es
      → replaced price_of es s ≡ (any_standing (map (named price_of) es) s || names_twice (map (named price_of) es))
  unfolding All IsSet replaced replaces apply named any_standing names_twice
  met-sets [] s a = refl
  met-sets (sets x ∷ es) s a =
      rw (met-sets es (x ∷ without price_of (key x) s) a.1, any-set (map (named price_of) es) x s)
      (or-last (standing price_of (key x) s) (names (key x) (map (named price_of) es)) (any_standing (map (named price_of) es) s) (names_twice (map (named price_of) es)))
  met-sets (removes p ∷ es) s a = absurd a.0

  -- a snapshot's entries meet a level where they name one price twice
  pub met-snapshot : (es : List (Edit A)) → All IsSet es → replaced price_of es [] ≡ names_twice (map (named price_of) es)
  met-snapshot es a = rw (met-sets es [] a, any_none (map (named price_of) es))
