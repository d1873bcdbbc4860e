-- What a search of a side in order knows, and what follows from it for an entry. Assumes nothing.
use Prim.Native.Nat.{ℕ, zero, suc, ◌+◌, ◌≤◌, ◌<◌}
use mathlib.Core.Path.{◌≡◌, refl, sym, ap, ◌∙◌}
use mathlib.Core.Bool.{Bool, true, false, cond}
use mathlib.Core.List.{List, [], ◌∷◌, ◌++◌}
use native.Mathlib.Nat.{le_of_suc-le-suc, not-suc-le-zero}
use native.Mathlib.Numerals.{add-one}
use native.Mathlib.Omega.{arith}
use borrow.Author.Tests.{eqb-true, eqb-false, ltb-true, ltb-false}
use lib.Dec.{eqb, ltb}
use Rattle.std.specs.List.{insert, remove}
use lib.ListN.{length, get_or, set, take, drop, take-append-drop, drop_of_length-le}
use lib.Seq.{take-suc, drop-cons, split_at, set_split}
use Rattle.decimal.specs.Decimal.{Number, value}
use Rattle.edit.specs.declared.Side.{Side}
use Rattle.edit.specs.Edit.{sets}
use Rattle.level.specs.Side.{nearer, without, place, standing}
use Rattle.level.specs.Ranked.{All, Sorted}
use Rattle.level.specs.Moved.{place_of}
use Rattle.level.proofs.Order.{before-ne, before-trans, before-or-after, after-not-before}
use Rattle.level.proofs.All.{all_map, all_append, all-at}
use Rattle.level.proofs.Ranking.{apply_ranked, without-new, without-same, placed}
use Rattle.level.proofs.Meeting.{standing-none, standing-at}
use Rattle.level.proofs.Moving.{place_at}

module _ {A : Type 0} (price_of : A → Number) (side : Side) where
  abbrev key : A → ℕ
  key x = value (price_of x)

  -- the levels before place m are before the one there, and those after it behind it
  pub sorted_front : (s : List A) (m : ℕ) (d : A) → m < length s → Sorted price_of side s → All (λ x. nearer side (key x) (key (get_or s m d)) ≡ true) (take m s)
  unfolding All Sorted
  sorted_front [] m d h o = absurd (not-suc-le-zero h)
  sorted_front (x ∷ s) zero d h o = tt
  sorted_front (x ∷ s) (suc m) d h o =
      (all-at (λ y. nearer side (key x) (key y) ≡ true) s m d (le_of_suc-le-suc h) o.0, sorted_front s m d (le_of_suc-le-suc h) o.1)

  pub sorted_back : (s : List A) (m : ℕ) (d : A) → m < length s → Sorted price_of side s → All (λ x. nearer side (key (get_or s m d)) (key x) ≡ true) (drop (suc m) s)
  unfolding All Sorted
  sorted_back [] m d h o = absurd (not-suc-le-zero h)
  sorted_back (x ∷ s) zero d h o = o.0
  sorted_back (x ∷ s) (suc m) d h o = sorted_back s m d (le_of_suc-le-suc h) o.1

  -- low and high bracket the place of v
  pub record Bracket (s : List A) (v low high : ℕ) : Type 0 where
    pub low-le : low ≤ high
    pub high_le : high ≤ length s
    pub ahead : All (λ x. nearer side (key x) v ≡ true) (take low s)
    pub rest : All (λ x. nearer side (key x) v ≡ false) (drop high s)

  pub bracket-start : (s : List A) (v n : ℕ) → length s ≡ n → Bracket s v 0 n
  unfolding All
  bracket-start s v n e = record {
    low-le = omega arith;
    high_le = omega arith;
    ahead = tt;
    rest = rw (drop_of_length-le s {i = n} (omega arith)) tt;
  }

  module _ (s : List A) (v : ℕ) (o : Sorted price_of side s) (m : ℕ) (d : A) (h : m < length s) where
    pub bracket-up : (low high : ℕ) → Bracket s v low high → m < high → nearer side (key (get_or s m d)) v ≡ true → Bracket s v (m + 1) high
    unfolding All
    bracket-up low high k l t = record {
      low-le = omega arith;
      high_le = k.high_le;
      ahead =
          rw (add-one m, take-suc s m d h)
          (all_append (λ x. nearer side (key x) v ≡ true) (take m s) (get_or s m d ∷ [])
          (all_map (λ x q. before-trans side (key x) (key (get_or s m d)) v q t) (take m s) (sorted_front s m d h o))
          (t, tt));
      rest = k.rest;
    }

    pub bracket-down : (low high : ℕ) → Bracket s v low high → low ≤ m → nearer side (key (get_or s m d)) v ≡ false → Bracket s v low m
    unfolding All
    bracket-down low high k l t = record {
      low-le = l;
      high_le = omega arith;
      ahead = k.ahead;
      rest =
          rw (drop-cons s m d h)
          ((t, all_map (λ x q. after-not-before side (key (get_or s m d)) (key x) v q t) (drop (suc m) s) (sorted_back s m d h o)));
    }

    -- another price stands at the place, so that all from there on is behind v
    pub past : nearer side (key (get_or s m d)) v ≡ false → (key (get_or s m d) ≡ v → ⊥) → All (λ x. nearer side v (key x) ≡ true) (drop m s)
    unfolding All
    past t n =
        rw (drop-cons s m d h)
        (let e : nearer side v (key (get_or s m d)) ≡ true = before-or-after side (key (get_or s m d)) v t n in
        (e, all_map (λ x q. before-trans side v (key (get_or s m d)) (key x) e q) (drop (suc m) s) (sorted_back s m d h o)))

    -- or the price itself does
    pub past_same : key (get_or s m d) ≡ v → All (λ x. nearer side v (key x) ≡ true) (drop (suc m) s)
    past_same e = all_map (λ x q. rw e at q) (drop (suc m) s) (sorted_back s m d h o)

  -- or the side ends before it
  pub past-none : (s : List A) (v m : ℕ) → length s ≤ m → All (λ x. nearer side v (key x) ≡ true) (drop m s)
  unfolding All
  past-none s v m h = rw (drop_of_length-le s h) tt

  -- at the place that the search found
  pub bracket-head : (s : List A) (v low high : ℕ) (d : A) → Bracket s v low high → high ≤ low → low < length s → nearer side (key (get_or s low d)) v ≡ false
  unfolding All
  bracket-head s v low high d k h l =
      let e : high ≡ low = omega (arith, k.low-le) in (rw (e, drop-cons s low d l) at k.rest).0

  pub bracket-place : (s : List A) (v low high : ℕ) → Bracket s v low high → high ≤ low → place_of price_of side v s ≡ low
  bracket-place s v low high k h =
      let e : high ≡ low = omega (arith, k.low-le) in
      place_at price_of side v s low (omega (arith, k.high_le)) k.ahead (rw e at k.rest)

  -- the place of a price in a side in order brackets it
  pub placed-at : (s : List A) (v : ℕ) → Sorted price_of side s → Bracket s v (place_of price_of side v s) (place_of price_of side v s)
  unfolding All Sorted place_of
  placed-at [] v o = record { low-le = omega arith; high_le = omega arith; ahead = tt; rest = tt }
  placed-at (x ∷ s) v o = of (placed-at s v o.1) (nearer side (key x) v) refl
    where
      of : Bracket s v (place_of price_of side v s) (place_of price_of side v s) → (b : Bool) → nearer side (key x) v ≡ b
          → Bracket (x ∷ s) v (cond b (suc (place_of price_of side v s)) (place_of price_of side v s)) (cond b (suc (place_of price_of side v s)) (place_of price_of side v s))
      of k true e = record { low-le = omega arith; high_le = let h = k.high_le in omega arith; ahead = (e, k.ahead); rest = k.rest }
      of k false e =
          let behind : All (λ y. nearer side (key y) v ≡ false) s = all_map (λ y q. after-not-before side (key x) (key y) v q e) s o.0 in
          let z : place_of price_of side v s ≡ 0 = place_at price_of side v s 0 (omega arith) tt behind in
          rw z (record { low-le = omega arith; high_le = omega arith; ahead = tt; rest = (e, behind) })

  -- ---- at the place of a price

  module _ (s : List A) (v at : ℕ) (o : Sorted price_of side s) (is : at ≡ place_of price_of side v s) where
    bracket : Bracket s v at at
    bracket = rw is (placed-at s v o)

    pub place-le : at ≤ length s
    place-le = bracket.high_le

    pub ahead : All (λ x. nearer side (key x) v ≡ true) (take at s)
    ahead = bracket.ahead

    -- another price stands there, or none
    past-other : (d : A) → at < length s → (key (get_or s at d) ≡ v → ⊥) → All (λ x. nearer side v (key x) ≡ true) (drop at s)
    past-other d l n = past s v o at d l (bracket-head s v at at d bracket (omega arith) l) n

    none-behind : All (λ y. nearer side v (key y) ≡ true) (drop at s) → standing price_of v s ≡ false
    none-behind high =
        ap (standing price_of v) (sym (take-append-drop at s))
        ∙ standing-none price_of v (take at s ++ drop at s)
        (all_append (λ x. key x ≡ v → ⊥) (take at s) (drop at s)
        (all_map (λ x q. before-ne side (key x) v q) (take at s) ahead)
        (all_map (λ x q e. before-ne side v (key x) q (sym e)) (drop at s) high))

    -- whether a level stands at the price is whether the level at its place does
    pub stands-there : (d : A) → at < length s → (t : Bool) → eqb (key (get_or s at d)) v ≡ t → t ≡ standing price_of v s
    stands-there d l true e = sym (standing-at price_of v s at d l (eqb-true (key (get_or s at d)) v e))
    stands-there d l false e = sym (none-behind (past-other d l (eqb-false (key (get_or s at d)) v e)))

    pub stands-nowhere : length s ≤ at → false ≡ standing price_of v s
    stands-nowhere h = sym (none-behind (past-none s v at h))

    -- a level stands at the price, and so at its place
    pub stands-in : standing price_of v s ≡ true → at < length s
    stands-in t = of (ltb at (length s)) refl
      where
        of : (b : Bool) → ltb at (length s) ≡ b → at < length s
        of true e = ltb-true at (length s) e
        of false e = absurd (let f : false ≡ true = stands-nowhere (ltb-false at (length s) e) ∙ t in cc)

    pub stands-same : (d : A) → standing price_of v s ≡ true → key (get_or s at d) ≡ v
    stands-same d t = eqb-true (key (get_or s at d)) v (stands-there d (stands-in t) (eqb (key (get_or s at d)) v) refl ∙ t)

    pub behind : (d : A) → standing price_of v s ≡ false → All (λ x. nearer side v (key x) ≡ true) (drop at s)
    behind d f = of (ltb at (length s)) refl
      where
        of : (b : Bool) → ltb at (length s) ≡ b → All (λ x. nearer side v (key x) ≡ true) (drop at s)
        of true e =
            let l : at < length s = ltb-true at (length s) e in
            past-other d l (eqb-false (key (get_or s at d)) v (stands-there d l (eqb (key (get_or s at d)) v) refl ∙ f))
        of false e = past-none s v at (ltb-false at (length s) e)

    -- ---- what the code leaves is what the definition says

    module _ (d : A) (f : standing price_of v s ≡ false) where
      pub set_new : (x : A) → key x ≡ v → insert s at x ≡ apply_ranked price_of side (sets x) s
      unfolding apply_ranked
      set_new x e =
          sym (ap (λ (r : List A). place price_of side x (without price_of (key x) r)) (sym (take-append-drop at s))
          ∙ ap (λ (i : ℕ). place price_of side x (without price_of i (take at s ++ drop at s))) e
          ∙ ap (place price_of side x) (without-new price_of side v (take at s) (drop at s) ahead (behind d f))
          ∙ placed price_of side v (take at s) (drop at s) ahead (behind d f) x e)

      pub remove-none : s ≡ without price_of v s
      remove-none =
          sym (ap (without price_of v) (sym (take-append-drop at s))
          ∙ without-new price_of side v (take at s) (drop at s) ahead (behind d f) ∙ take-append-drop at s)

    module _ (d : A) (t : standing price_of v s ≡ true) where
      same : key (get_or s at d) ≡ v
      same = stands-same d t

      high : All (λ y. nearer side v (key y) ≡ true) (drop (suc at) s)
      high = past_same s v o at d (stands-in t) same

      pub set_same : (x : A) → key x ≡ v → set s at x ≡ apply_ranked price_of side (sets x) s
      unfolding apply_ranked
      set_same x e =
          set_split s at x (stands-in t)
          ∙ sym (ap (λ (r : List A). place price_of side x (without price_of (key x) r)) (split_at s at d (stands-in t))
          ∙ ap (λ (i : ℕ). place price_of side x (without price_of i (take at s ++ get_or s at d ∷ drop (suc at) s))) e
          ∙ ap (place price_of side x) (without-same price_of side v (take at s) (drop (suc at) s) ahead high (get_or s at d) same)
          ∙ placed price_of side v (take at s) (drop (suc at) s) ahead high x e)

      pub remove-same : remove s at ≡ without price_of v s
      remove-same =
          sym (ap (without price_of v) (split_at s at d (stands-in t))
          ∙ without-same price_of side v (take at s) (drop (suc at) s) ahead high (get_or s at d) same)
