-- How many levels entries move: the same on a side that is ranked after each entry, and on levels seen in another way; and a bound. Assumes nothing.
use Prim.Native.Nat.{ℕ, zero, suc, ◌+◌, ◌-◌, ◌*◌, ◌≤◌}
use mathlib.Core.Path.{◌≡◌, refl, ap, ◌∙◌}
use mathlib.Core.Bool.{Bool, true, false, cond}
use mathlib.Core.List.{List, [], ◌∷◌, map}
use native.Mathlib.Nat.{mul-suc, suc-mul, mul-le-mul_left, mul-le-mul}
use native.Mathlib.Omega.{arith}
use lib.ListN.{length, take, drop, length-map}
use Rattle.decimal.specs.Decimal.{Number, value}
use Rattle.edit.specs.declared.Side.{Side}
use Rattle.edit.specs.Edit.{Edit, sets, removes, shown_price}
use Rattle.level.specs.declared.Level.{Level}
use Rattle.level.specs.Words.{level_price, shown}
use Rattle.level.specs.Side.{nearer, apply, place, ranked, standing}
use Rattle.level.specs.Ranked.{All, map_edit}
use Rattle.level.specs.Moved.{place_of, moves, moved, MovedBound}
use Rattle.level.proofs.Ranking.{apply_ranked, commute}
use Rattle.level.proofs.Lengths.{length-ranked, length-apply}
use Rattle.level.proofs.Meeting.{standing-ranked}
use Rattle.level.proofs.Mapping.{map-standing, map_apply, shown-price}

suc-cond : (t u : Bool) (n : ℕ) → cond t (suc (cond u (suc n) n)) (cond u (suc n) n) ≡ cond u (suc (cond t (suc n) n)) (cond t (suc n) n)
suc-cond true true n = refl
suc-cond true false n = refl
suc-cond false true n = refl
suc-cond false false n = refl

module _ {A : Type 0} (price_of : A → Number) (side : Side) where
  abbrev key : A → ℕ
  key x = value (price_of x)

  -- ---- ranking changes no place

  place-cond : (v : ℕ) (x y : A) (s : List A) (t : Bool) → place_of price_of side v (place price_of side x s) ≡ place_of price_of side v (x ∷ s)
      → place_of price_of side v (cond t (y ∷ place price_of side x s) (x ∷ y ∷ s)) ≡ place_of price_of side v (x ∷ y ∷ s)
  unfolding place_of
  place-cond v x y s true e = rw e (suc-cond (nearer side (key y) v) (nearer side (key x) v) (place_of price_of side v s))
  place-cond v x y s false e = refl

  place-placed : (v : ℕ) (x : A) (s : List A) → place_of price_of side v (place price_of side x s) ≡ place_of price_of side v (x ∷ s)
  unfolding place
  place-placed v x [] = refl
  place-placed v x (y ∷ s) = place-cond v x y s (nearer side (key y) (key x)) (place-placed v x s)

  place-ranked : (v : ℕ) (s : List A) → place_of price_of side v (ranked price_of side s) ≡ place_of price_of side v s
  unfolding ranked place_of
  place-ranked v [] = refl
  place-ranked v (x ∷ s) = place-placed v x (ranked price_of side s) ∙ ap (λ (n : ℕ). cond (nearer side (key x) v) (suc n) n) (place-ranked v s)

  moves-ranked : (e : Edit A) (s : List A) → moves price_of side e (ranked price_of side s) ≡ moves price_of side e s
  unfolding moves
  moves-ranked (sets x) s = rw (standing-ranked price_of side (key x) s, length-ranked price_of side s, place-ranked (key x) s)
  moves-ranked (removes p) s = rw (standing-ranked price_of side (value p) s, length-ranked price_of side s, place-ranked (value p) s)

  -- `moved` on a side that is ranked after each entry
  unfoldable pub moved_ranked : List (Edit A) → List A → ℕ
  moved_ranked [] s = 0
  moved_ranked (e ∷ es) s = moves price_of side e s + moved_ranked es (apply_ranked price_of side e s)

  pub moved-ranked : (es : List (Edit A)) (s : List A) → moved price_of side es s ≡ moved_ranked es (ranked price_of side s)
  unfolding moved moved_ranked
  moved-ranked [] s = refl
  moved-ranked (e ∷ es) s = rw (moved-ranked es (apply price_of e s), commute price_of side e s, moves-ranked e s)

  -- ---- what one entry moves, where the levels ahead of its price are known

  pub place_at : (v : ℕ) (s : List A) (m : ℕ) → m ≤ length s → All (λ x. nearer side (key x) v ≡ true) (take m s)
      → All (λ x. nearer side (key x) v ≡ false) (drop m s) → place_of price_of side v s ≡ m
  unfolding All place_of
  place_at v [] zero h a b = refl
  place_at v [] (suc m) h a b = absurd (omega arith)
  place_at v (x ∷ s) zero h a b = rw b.0 (place_at v s zero (omega arith) tt b.1)
  place_at v (x ∷ s) (suc m) h a b = rw a.0 (ap suc (place_at v s m (omega arith) a.1 b))

  module _ (v : ℕ) (s : List A) where
    pub moves-replaced : (x : A) → key x ≡ v → standing price_of v s ≡ true → moves price_of side (sets x) s ≡ 0
    unfolding moves
    moves-replaced x e h = rw (e, h)

    pub moves-inserted : (x : A) (n m : ℕ) → key x ≡ v → standing price_of v s ≡ false → length s ≡ n → place_of price_of side v s ≡ m
        → moves price_of side (sets x) s ≡ n - m
    unfolding moves
    moves-inserted x n m e h l a = rw (e, h, l, a)

    pub moves-removed : (p : Number) (n m : ℕ) → value p ≡ v → standing price_of v s ≡ true → length s ≡ n → place_of price_of side v s ≡ m
        → moves price_of side (removes p) s ≡ n - 1 - m
    unfolding moves
    moves-removed p n m e h l a = rw (e, h, l, a)

    pub moves-absent : (p : Number) → value p ≡ v → standing price_of v s ≡ false → moves price_of side (removes p) s ≡ 0
    unfolding moves
    moves-absent p e h = rw (e, h)

  pub moves-le : (e : Edit A) (s : List A) → moves price_of side e s ≤ length s
  unfolding moves
  moves-le (sets x) s = of (standing price_of (key x) s)
    where
      of : (t : Bool) → cond t 0 (length s - place_of price_of side (key x) s) ≤ length s
      of true = omega arith
      of false = omega arith
  moves-le (removes p) s = of (standing price_of (value p) s)
    where
      of : (t : Bool) → cond t (length s - 1 - place_of price_of side (value p) s) 0 ≤ length s
      of true = omega arith
      of false = omega arith

-- ---- levels seen in another way that keeps their prices

module _ {A B : Type 0} (price_a : A → Number) (price_b : B → Number) (f : A → B) (same : (x : A) → price_b (f x) ≡ price_a x) (side : Side) where
  map-place_of : (v : ℕ) (s : List A) → place_of price_b side v (map f s) ≡ place_of price_a side v s
  unfolding place_of
  map-place_of v [] = refl
  map-place_of v (x ∷ s) = rw (same x, map-place_of v s)

  map-moves : (e : Edit A) (s : List A) → moves price_b side (map_edit f e) (map f s) ≡ moves price_a side e s
  unfolding moves map_edit
  map-moves (sets x) s = rw (same x, map-standing price_a price_b f same (value (price_a x)) s, length-map s f, map-place_of (value (price_a x)) s)
  map-moves (removes p) s = rw (map-standing price_a price_b f same (value p) s, length-map s f, map-place_of (value p) s)

  pub map-moved : (es : List (Edit A)) (s : List A) → moved price_b side (map (map_edit f) es) (map f s) ≡ moved price_a side es s
  unfolding moved
  map-moved [] s = refl
  map-moved (e ∷ es) s = rw (map-moves e s, ← map_apply price_a price_b f same e s, map-moved es (apply price_a e s))

pub shown-moved : (side : Side) (es : List (Edit Level)) (s : List Level) → moved shown_price side (map (map_edit shown) es) (map shown s) ≡ moved level_price side es s
shown-moved = map-moved level_price shown_price shown shown-price

-- ---- the bound

less_one : (j : ℕ) → suc j - 1 ≡ j
less_one j = omega arith

-- k entries on n levels: k·n + k(k - 1)/2, twice
more-bound : (k n m a b : ℕ) → a ≤ n → m ≤ suc n → 2 * b ≤ 2 * (k * m) + k * (k - 1) → 2 * (a + b) ≤ 2 * (suc k * n) + suc k * (suc k - 1)
more-bound zero n m a b h l e = omega arith
more-bound (suc j) n m a b o l e =
    let h : 2 * b ≤ 2 * (suc j * m) + suc j * j = rw (less_one j) at e in
    let x : suc j * m ≤ suc j * suc n = mul-le-mul_left (suc j) l in
    let y : suc j * suc n ≡ suc j * n + suc j = mul-suc (suc j) n in
    let z : suc (suc j) * n ≡ suc j * n + n = suc-mul (suc j) n in
    let u : suc (suc j) * suc j ≡ suc j * suc j + suc j = suc-mul (suc j) (suc j) in
    let v : suc j * suc j ≡ suc j * j + suc j = mul-suc (suc j) j in
    let g : 2 * (a + b) ≤ 2 * (suc (suc j) * n) + suc (suc j) * suc j = omega arith in
    rw (less_one (suc j)) g

pub moved-bound : MovedBound
unfolding moved
moved-bound A price_of side [] s = omega arith
moved-bound A price_of side (e ∷ es) s =
    more-bound (length es) (length s) (length (apply price_of e s)) (moves price_of side e s) (moved price_of side es (apply price_of e s))
    (moves-le price_of side e s) (length-apply price_of e s) (moved-bound A price_of side es (apply price_of e s))

-- on a side of a book, from a message
pub moved-few : {A : Type 0} (price_of : A → Number) (side : Side) (es : List (Edit A)) (s : List A) → length es ≤ 100 → length s ≤ 100 → moved price_of side es s ≤ 14950
moved-few {A} price_of side es s k n =
    let h = moved-bound A price_of side es s in
    let x : length es * length s ≤ 100 * 100 = mul-le-mul k n in
    let l : length es - 1 ≤ 99 = omega arith in
    let y : length es * (length es - 1) ≤ 100 * 99 = mul-le-mul k l in
    omega arith
