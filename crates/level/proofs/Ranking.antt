-- Laws of applying and ranking: ranking after each entry or only at the end gives the same; a side keeps at most one level a price, in order.
-- Assumes nothing.
use Prim.Native.Nat.{ℕ, zero, suc}
use mathlib.Core.Path.{◌≡◌, refl, sym, ap, ◌∙◌}
use mathlib.Core.Bool.{Bool, true, false, ◌||◌, cond}
use mathlib.Core.List.{List, [], ◌∷◌, ◌++◌, map}
use lib.Dec.{eqb}
use lib.ListN.{take}
use borrow.Author.Tests.{eqb-true, eqb-false, eq-eqb, ne_eqb}
use Rattle.decimal.specs.Decimal.{Number, value}
use Rattle.edit.specs.declared.Side.{Side}
use Rattle.edit.specs.Edit.{Edit, sets, removes}
use Rattle.level.specs.Side.{nearer, names, names_twice, without, apply, apply_all, place, ranked, standing}
use Rattle.level.specs.Ranked.{All, after_message, ranked_each, Distinct, Sorted, IfSet}
use Rattle.level.proofs.Order.{before-ne, before-trans, before-asym, before-or-after, not-before-trans}
use Rattle.level.proofs.All.{all_map, all-cond, all_take}

module _ {A : Type 0} (price_of : A → Number) where
  abbrev key : A → ℕ
  key x = value (price_of x)

  -- ---- what holds of all

  pub all_without : (P : A → Type 0) (v : ℕ) (s : List A) → All P s → All P (without price_of v s)
  unfolding All without
  all_without P v [] a = tt
  all_without P v (x ∷ s) a =
      all-cond P (eqb (key x) v) (without price_of v s) (x ∷ without price_of v s) (all_without P v s a.1) (a.0, all_without P v s a.1)

  pub all-apply : (P : A → Type 0) (e : Edit A) (s : List A) → IfSet P e → All P s → All P (apply price_of e s)
  unfolding All apply IfSet
  all-apply P (sets x) s p a = (p, all_without P (key x) s a)
  all-apply P (removes p) s u a = all_without P (value p) s a

  pub all-apply_all : (P : A → Type 0) (es : List (Edit A)) (s : List A) → All (IfSet P) es → All P s → All P (apply_all price_of es s)
  unfolding All apply_all
  all-apply_all P [] s p a = a
  all-apply_all P (e ∷ es) s p a = all-apply_all P es (apply price_of e s) p.1 (all-apply P e s p.0 a)

  pub all-place : (P : A → Type 0) (side : Side) (x : A) (s : List A) → P x → All P s → All P (place price_of side x s)
  unfolding All place
  all-place P side x [] p a = (p, tt)
  all-place P side x (y ∷ s) p a =
      all-cond P (nearer side (key y) (key x)) (y ∷ place price_of side x s) (x ∷ y ∷ s) (a.0, all-place P side x s p a.1) (p, a)

  pub all-ranked : (P : A → Type 0) (side : Side) (s : List A) → All P s → All P (ranked price_of side s)
  unfolding All ranked
  all-ranked P side [] a = tt
  all-ranked P side (x ∷ s) a = all-place P side x (ranked price_of side s) a.0 (all-ranked P side s a.1)

  -- what holds of the levels that stood and of those that entries set holds of the levels after the message
  pub all-after_message : (P : A → Type 0) (side : Side) (depth : ℕ) (es : List (Edit A)) (s : List A) → All (IfSet P) es → All P s
      → All P (after_message price_of side depth es s)
  unfolding after_message
  all-after_message P side depth es s p a =
      all_take P depth (ranked price_of side (apply_all price_of es s)) (all-ranked P side (apply_all price_of es s) (all-apply_all P es s p a))

  -- ---- without

  pub without-none : (v : ℕ) (s : List A) → All (λ x. key x ≡ v → ⊥) s → without price_of v s ≡ s
  unfolding All without
  without-none v [] a = refl
  without-none v (x ∷ s) a = simp (ne_eqb (key x) v a.0, without-none v s a.1)

  free-cond : (v : ℕ) (x : A) (s : List A) (t : Bool) → eqb (key x) v ≡ t → All (λ y. key y ≡ v → ⊥) s → All (λ y. key y ≡ v → ⊥) (cond t s (x ∷ s))
  unfolding All
  free-cond v x s true e a = a
  free-cond v x s false e a = (eqb-false (key x) v e, a)

  pub without-free : (v : ℕ) (s : List A) → All (λ x. key x ≡ v → ⊥) (without price_of v s)
  unfolding All without
  without-free v [] = tt
  without-free v (x ∷ s) = free-cond v x (without price_of v s) (eqb (key x) v) refl (without-free v s)

  cond-append : (t : Bool) (p q r : List A) → cond t p q ++ r ≡ cond t (p ++ r) (q ++ r)
  cond-append true p q r = refl
  cond-append false p q r = refl

  pub without-append : (v : ℕ) (s t : List A) → without price_of v (s ++ t) ≡ without price_of v s ++ without price_of v t
  unfolding without
  without-append v [] t = refl
  without-append v (x ∷ s) t = rw (without-append v s t, cond-append)

  or_left : (a b : Bool) → (a || b) ≡ false → a ≡ false
  or_left true b e = e
  or_left false b e = refl

  or_right : (a b : Bool) → (a || b) ≡ false → b ≡ false
  or_right true true e = e
  or_right true false e = refl
  or_right false b e = e

  absent : (v : ℕ) (s : List A) → standing price_of v s ≡ false → All (λ x. key x ≡ v → ⊥) s
  unfolding All standing
  absent v [] e = tt
  absent v (x ∷ s) e =
      (eqb-false (key x) v (or_left (eqb (key x) v) (standing price_of v s) e), absent v s (or_right (eqb (key x) v) (standing price_of v s) e))

  -- removing an absent price does nothing
  pub remove_absent : (p : Number) (s : List A) → standing price_of (value p) s ≡ false → apply price_of (removes p) s ≡ s
  unfolding apply
  remove_absent p s e = without-none (value p) s (absent (value p) s e)

  -- ---- place

  pub place-front : (side : Side) (x : A) (s : List A) → All (λ y. nearer side (key y) (key x) ≡ false) s → place price_of side x s ≡ x ∷ s
  unfolding All place
  place-front side x [] a = refl
  place-front side x (y ∷ s) a = simp a.0

  pub place-middle : (side : Side) (x : A) (p q : List A) → All (λ y. nearer side (key y) (key x) ≡ true) p → All (λ y. nearer side (key y) (key x) ≡ false) q
      → place price_of side x (p ++ q) ≡ p ++ x ∷ q
  unfolding All place
  place-middle side x [] q a c = place-front side x q c
  place-middle side x (y ∷ p) q a c = simp (a.0, place-middle side x p q a.1 c)

  -- ---- a ranked list is in order, levels of one price beside each other

  unfoldable pub Weak : Side → List A → Type 0
  Weak side [] = Unit
  Weak side (x ∷ s) = All (λ y. nearer side (key y) (key x) ≡ false) s × Weak side s

  weak-after : (side : Side) (x y : A) (s : List A) (t : Bool) → nearer side (key y) (key x) ≡ t → Weak side (y ∷ s) → Weak side (place price_of side x s)
      → Weak side (cond t (y ∷ place price_of side x s) (x ∷ y ∷ s))
  unfolding All Weak
  weak-after side x y s true e w c =
      (all-place (λ z. nearer side (key z) (key y) ≡ false) side x s (before-asym side (key y) (key x) e) w.0, c)
  weak-after side x y s false e w c =
      ((e, all_map (λ z h. not-before-trans side (key z) (key y) (key x) h e) s w.0), w)

  weak-place : (side : Side) (x : A) (s : List A) → Weak side s → Weak side (place price_of side x s)
  unfolding All Weak place
  weak-place side x [] w = (tt, tt)
  weak-place side x (y ∷ s) w = weak-after side x y s (nearer side (key y) (key x)) refl w (weak-place side x s w.1)

  pub ranked-weak : (side : Side) (s : List A) → Weak side (ranked price_of side s)
  unfolding Weak ranked
  ranked-weak side [] = tt
  ranked-weak side (x ∷ s) = weak-place side x (ranked price_of side s) (ranked-weak side s)

  weak-ranked : (side : Side) (s : List A) → Weak side s → ranked price_of side s ≡ s
  unfolding Weak ranked
  weak-ranked side [] w = refl
  weak-ranked side (x ∷ s) w = ap (place price_of side x) (weak-ranked side s w.1) ∙ place-front side x s w.0

  -- ranking a ranked list changes nothing
  pub ranked-again : (side : Side) (s : List A) → ranked price_of side (ranked price_of side s) ≡ ranked price_of side s
  ranked-again side s = weak-ranked side (ranked price_of side s) (ranked-weak side s)

  -- ---- removal and ranking commute

  same_cond : (side : Side) (v : ℕ) (x y : A) (s : List A) (t : Bool) → key x ≡ v → without price_of v (place price_of side x s) ≡ without price_of v s
      → without price_of v (cond t (y ∷ place price_of side x s) (x ∷ y ∷ s)) ≡ without price_of v (y ∷ s)
  unfolding without
  same_cond side v x y s true e h = simp h
  same_cond side v x y s false e h = simp (eq-eqb (key x) v e)

  -- taking a price out again where a level of that price was placed
  without-place-same : (side : Side) (v : ℕ) (x : A) (s : List A) → key x ≡ v → without price_of v (place price_of side x s) ≡ without price_of v s
  unfolding without place
  without-place-same side v x [] e = simp (eq-eqb (key x) v e)
  without-place-same side v x (y ∷ s) e =
      same_cond side v x y s (nearer side (key y) (key x)) e (without-place-same side v x s e)

  kept-cond : (side : Side) (x y : A) (s : List A) (u : Bool) → nearer side (key y) (key x) ≡ true
      → cond u (place price_of side x s) (y ∷ place price_of side x s) ≡ place price_of side x (cond u s (y ∷ s))
  unfolding place
  kept-cond side x y s true e = refl
  kept-cond side x y s false e = simp e

  other-cond : (side : Side) (v : ℕ) (x y : A) (s : List A) (t : Bool) → nearer side (key y) (key x) ≡ t → (key x ≡ v → ⊥) → Weak side (y ∷ s)
      → without price_of v (place price_of side x s) ≡ place price_of side x (without price_of v s)
      → without price_of v (cond t (y ∷ place price_of side x s) (x ∷ y ∷ s)) ≡ place price_of side x (without price_of v (y ∷ s))
  unfolding without Weak All
  other-cond side v x y s true e n w h = rw h (kept-cond side x y (without price_of v s) (eqb (key y) v) e)
  other-cond side v x y s false e n w h =
      simp (ne_eqb (key x) v n)
      (sym (place-front side x (without price_of v (y ∷ s))
      (all_without (λ z. nearer side (key z) (key x) ≡ false) v (y ∷ s)
      (e, all_map (λ z k. not-before-trans side (key z) (key y) (key x) k e) s w.0))))

  without-place-other : (side : Side) (v : ℕ) (x : A) (s : List A) → (key x ≡ v → ⊥) → Weak side s
      → without price_of v (place price_of side x s) ≡ place price_of side x (without price_of v s)
  unfolding without place Weak
  without-place-other side v x [] n w = simp (ne_eqb (key x) v n)
  without-place-other side v x (y ∷ s) n w =
      other-cond side v x y s (nearer side (key y) (key x)) refl n w (without-place-other side v x s n w.1)

  ranked-cond : (side : Side) (v : ℕ) (x : A) (s : List A) (t : Bool) → eqb (key x) v ≡ t → ranked price_of side (without price_of v s) ≡ without price_of v (ranked price_of side s)
      → ranked price_of side (cond t (without price_of v s) (x ∷ without price_of v s)) ≡ without price_of v (place price_of side x (ranked price_of side s))
  unfolding ranked
  ranked-cond side v x s true e h = h ∙ sym (without-place-same side v x (ranked price_of side s) (eqb-true (key x) v e))
  ranked-cond side v x s false e h =
      ap (place price_of side x) h ∙ sym (without-place-other side v x (ranked price_of side s) (eqb-false (key x) v e) (ranked-weak side s))

  pub ranked-without : (side : Side) (v : ℕ) (s : List A) → ranked price_of side (without price_of v s) ≡ without price_of v (ranked price_of side s)
  unfolding ranked without
  ranked-without side v [] = refl
  ranked-without side v (x ∷ s) = ranked-cond side v x s (eqb (key x) v) refl (ranked-without side v s)

  -- an entry on a side that is ranked already
  unfoldable pub apply_ranked : Side → Edit A → List A → List A
  apply_ranked side (sets x) s = place price_of side x (without price_of (key x) s)
  apply_ranked side (removes p) s = without price_of (value p) s

  unfoldable pub all_ranked : Side → List (Edit A) → List A → List A
  all_ranked side [] s = s
  all_ranked side (e ∷ es) s = all_ranked side es (apply_ranked side e s)

  -- an entry on the side and then ranking is ranking and then the entry on the ranked side; and so for a whole message
  pub commute : (side : Side) (e : Edit A) (s : List A) → ranked price_of side (apply price_of e s) ≡ apply_ranked side e (ranked price_of side s)
  unfolding apply apply_ranked ranked
  commute side (sets x) s = ap (place price_of side x) (ranked-without side (key x) s)
  commute side (removes p) s = ranked-without side (value p) s

  pub commute-all : (side : Side) (es : List (Edit A)) (s : List A) → ranked price_of side (apply_all price_of es s) ≡ all_ranked side es (ranked price_of side s)
  unfolding apply_all all_ranked
  commute-all side [] s = refl
  commute-all side (e ∷ es) s = commute-all side es (apply price_of e s) ∙ ap (all_ranked side es) (commute side e s)

  -- ranking after each entry or only at the end gives the same
  pub ranked-each : (side : Side) (es : List (Edit A)) (s : List A) → ranked_each price_of side es s ≡ ranked price_of side (apply_all price_of es s)
  unfolding ranked_each apply_all
  ranked-each side [] s = refl
  ranked-each side (e ∷ es) s =
      ranked-each side es (ranked price_of side (apply price_of e s))
      ∙ commute-all side es (ranked price_of side (apply price_of e s))
      ∙ ap (all_ranked side es) (ranked-again side (apply price_of e s))
      ∙ sym (commute-all side es (apply price_of e s))

  -- ---- sides in order

  pub sorted-ranked : (side : Side) (s : List A) → Sorted price_of side s → ranked price_of side s ≡ s
  unfolding Sorted ranked
  sorted-ranked side [] h = refl
  sorted-ranked side (x ∷ s) h =
      ap (place price_of side x) (sorted-ranked side s h.1)
      ∙ place-front side x s (all_map (λ y k. before-asym side (key x) (key y) k) s h.0)

  sorted_cond : (side : Side) (x : A) (s : List A) (t : Bool) → All (λ y. nearer side (key x) (key y) ≡ true) s → Sorted price_of side s → Sorted price_of side (cond t s (x ∷ s))
  unfolding Sorted
  sorted_cond side x s true a h = h
  sorted_cond side x s false a h = (a, h)

  pub sorted-without : (side : Side) (v : ℕ) (s : List A) → Sorted price_of side s → Sorted price_of side (without price_of v s)
  unfolding Sorted without
  sorted-without side v [] h = tt
  sorted-without side v (x ∷ s) h =
      sorted_cond side x (without price_of v s) (eqb (key x) v) (all_without (λ y. nearer side (key x) (key y) ≡ true) v s h.0) (sorted-without side v s h.1)

  place-cond : (side : Side) (x y : A) (s : List A) (t : Bool) → nearer side (key y) (key x) ≡ t → (key y ≡ key x → ⊥) → Sorted price_of side (y ∷ s)
      → Sorted price_of side (place price_of side x s) → Sorted price_of side (cond t (y ∷ place price_of side x s) (x ∷ y ∷ s))
  unfolding Sorted All
  place-cond side x y s true e n h c = (all-place (λ z. nearer side (key y) (key z) ≡ true) side x s e h.0, c)
  place-cond side x y s false e n h c =
      let f : nearer side (key x) (key y) ≡ true = before-or-after side (key y) (key x) e n in
      ((f, all_map (λ z k. before-trans side (key x) (key y) (key z) f k) s h.0), h)

  pub sorted-place : (side : Side) (x : A) (s : List A) → All (λ y. key y ≡ key x → ⊥) s → Sorted price_of side s → Sorted price_of side (place price_of side x s)
  unfolding Sorted All place
  sorted-place side x [] a h = (tt, tt)
  sorted-place side x (y ∷ s) a h = place-cond side x y s (nearer side (key y) (key x)) refl a.0 h (sorted-place side x s a.1 h.1)

  -- an entry leaves a side in order
  pub sorted-entry : (side : Side) (e : Edit A) (s : List A) → Sorted price_of side s → Sorted price_of side (apply_ranked side e s)
  unfolding apply_ranked
  sorted-entry side (sets x) s h = sorted-place side x (without price_of (key x) s) (without-free (key x) s) (sorted-without side (key x) s h)
  sorted-entry side (removes p) s h = sorted-without side (value p) s h

  pub sorted-take : (side : Side) (n : ℕ) (s : List A) → Sorted price_of side s → Sorted price_of side (take n s)
  unfolding Sorted All
  sorted-take side zero s h = tt
  sorted-take side (suc n) [] h = tt
  sorted-take side (suc n) (x ∷ s) h = (all_take (λ y. nearer side (key x) (key y) ≡ true) n s h.0, sorted-take side n s h.1)

  -- ---- at most one level a price

  distinct_cond : (x : A) (s : List A) (t : Bool) → All (λ y. key y ≡ key x → ⊥) s → Distinct price_of s → Distinct price_of (cond t s (x ∷ s))
  unfolding Distinct
  distinct_cond x s true a h = h
  distinct_cond x s false a h = (a, h)

  pub distinct_without : (v : ℕ) (s : List A) → Distinct price_of s → Distinct price_of (without price_of v s)
  unfolding Distinct without
  distinct_without v [] h = tt
  distinct_without v (x ∷ s) h =
      distinct_cond x (without price_of v s) (eqb (key x) v) (all_without (λ y. key y ≡ key x → ⊥) v s h.0) (distinct_without v s h.1)

  -- applying keeps at most one level a price
  pub distinct-apply : (e : Edit A) (s : List A) → Distinct price_of s → Distinct price_of (apply price_of e s)
  unfolding Distinct apply
  distinct-apply (sets x) s h = (without-free (key x) s, distinct_without (key x) s h)
  distinct-apply (removes p) s h = distinct_without (value p) s h

  pub distinct-apply_all : (es : List (Edit A)) (s : List A) → Distinct price_of s → Distinct price_of (apply_all price_of es s)
  unfolding apply_all
  distinct-apply_all [] s h = h
  distinct-apply_all (e ∷ es) s h = distinct-apply_all es (apply price_of e s) (distinct-apply e s h)

  -- ranked, such a side is in order, so that no price stands twice
  pub ranked-sorted : (side : Side) (s : List A) → Distinct price_of s → Sorted price_of side (ranked price_of side s)
  unfolding Distinct Sorted ranked
  ranked-sorted side [] h = tt
  ranked-sorted side (x ∷ s) h =
      sorted-place side x (ranked price_of side s) (all-ranked (λ y. key y ≡ key x → ⊥) side s h.0) (ranked-sorted side s h.1)

  pub sorted-distinct : (side : Side) (s : List A) → Sorted price_of side s → Distinct price_of s
  unfolding Distinct Sorted
  sorted-distinct side [] h = tt
  sorted-distinct side (x ∷ s) h = (all_map (λ y k e. before-ne side (key x) (key y) k (sym e)) s h.0, sorted-distinct side s h.1)

  none_named : (v : ℕ) (s : List A) → All (λ y. key y ≡ v → ⊥) s → names v (map price_of s) ≡ false
  unfolding All names
  none_named v [] a = refl
  none_named v (x ∷ s) a = simp (ne_eqb v (key x) (λ e. a.0 (sym e)), none_named v s a.1)

  pub distinct-once : (s : List A) → Distinct price_of s → names_twice (map price_of s) ≡ false
  unfolding Distinct names_twice
  distinct-once [] h = refl
  distinct-once (x ∷ s) h = simp (none_named (key x) s h.0, distinct-once s h.1)

  -- the levels after a message are in order, and no price stands twice
  pub after_message-sorted : (side : Side) (depth : ℕ) (es : List (Edit A)) (s : List A) → Distinct price_of s → Sorted price_of side (after_message price_of side depth es s)
  unfolding after_message
  after_message-sorted side depth es s h =
      sorted-take side depth (ranked price_of side (apply_all price_of es s)) (ranked-sorted side (apply_all price_of es s) (distinct-apply_all es s h))

  pub after_message-once : (side : Side) (depth : ℕ) (es : List (Edit A)) (s : List A) → Distinct price_of s → names_twice (map price_of (after_message price_of side depth es s)) ≡ false
  after_message-once side depth es s h =
      distinct-once (after_message price_of side depth es s) (sorted-distinct side (after_message price_of side depth es s) (after_message-sorted side depth es s h))

  -- ---- where an entry goes: p is before its price, q behind it, and x, if there is one, at it

  module _ (side : Side) (v : ℕ) (p q : List A) (low : All (λ y. nearer side (key y) v ≡ true) p) (high : All (λ y. nearer side v (key y) ≡ true) q) where
    without-low : without price_of v p ≡ p
    without-low = without-none v p (all_map (λ y h. before-ne side (key y) v h) p low)

    without-high : without price_of v q ≡ q
    without-high = without-none v q (all_map (λ y h e. before-ne side v (key y) h (sym e)) q high)

    pub without-new : without price_of v (p ++ q) ≡ p ++ q
    without-new =
        without-append v p q ∙ ap (λ (r : List A). r ++ without price_of v q) without-low ∙ ap (λ (r : List A). p ++ r) without-high

    pub without-same : (x : A) → key x ≡ v → without price_of v (p ++ x ∷ q) ≡ p ++ q
    unfolding without
    without-same x e =
        without-append v p (x ∷ q) ∙ ap (λ (r : List A). r ++ without price_of v (x ∷ q)) without-low
        ∙ ap (λ (r : List A). p ++ r) (simp (eq-eqb (key x) v e) without-high)

    pub placed : (x : A) → key x ≡ v → place price_of side x (p ++ q) ≡ p ++ x ∷ q
    placed x e =
        place-middle side x p q
        (all_map (λ y h. rw e h) p low)
        (all_map (λ y h. rw e (before-asym side v (key y) h)) q high)
