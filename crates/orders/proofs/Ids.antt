-- Laws of ids: what stands for an id where its place is known, and that one id never comes to stand for two orders. Assumes nothing.
use Prim.Native.Nat.{ℕ}
use mathlib.Core.Path.{◌≡◌, refl}
use mathlib.Core.Bool.{true, false}
use mathlib.Core.List.{List, [], ◌∷◌, ◌++◌}
use lib.Dec.{eqb}
use Rattle.decimal.specs.Decimal.{value}
use Rattle.level.specs.Ranked.{All}
use Rattle.order_edit.specs.Ids.{same_id}
use Rattle.orders.specs.Orders.{View, stands, stands_at, changed, without}

module _ {A : Type 0} (v : View A) where
  abbrev Other : List ℕ → A → Type 0
  Other id x = same_id (v.id x) id ≡ false

  pub stands-none : (id : List ℕ) (s : List A) → All (Other id) s → stands v id s ≡ false
  unfolding All stands
  stands-none id [] a = refl
  stands-none id (x ∷ s) a = simp (a.0, stands-none id s a.1)

  pub stands_at-none : (id : List ℕ) (p : ℕ) (s : List A) → All (Other id) s → stands_at v id p s ≡ false
  unfolding All stands_at
  stands_at-none id p [] a = refl
  stands_at-none id p (x ∷ s) a = simp (a.0, stands_at-none id p s a.1)

  -- front, then the order with the id, then back
  module _ (id : List ℕ) (x : A) (back : List A) (same : same_id (v.id x) id ≡ true) where
    pub stands_here : (front : List A) → All (Other id) front → stands v id (front ++ x ∷ back) ≡ true
    unfolding All stands
    stands_here [] a = simp same
    stands_here (y ∷ front) a = simp (a.0, stands_here front a.1)

    pub stands_at-here : (p : ℕ) (front : List A) → All (Other id) front → stands_at v id p (front ++ x ∷ back) ≡ eqb (value (v.price x)) p
    unfolding All stands_at
    stands_at-here p [] a = simp same
    stands_at-here p (y ∷ front) a = simp (a.0, stands_at-here p front a.1)

    pub without-here : (front : List A) → All (Other id) front → without v id (front ++ x ∷ back) ≡ front ++ back
    unfolding All without
    without-here [] a = simp same
    without-here (y ∷ front) a = simp (a.0, without-here front a.1)

  pub changed-here : (new x : A) (back : List A) → same_id (v.id x) (v.id new) ≡ true → (front : List A) → All (Other (v.id new)) front
      → changed v new (front ++ x ∷ back) ≡ front ++ v.resized x new ∷ back
  unfolding All changed
  changed-here new x back same [] a = simp same
  changed-here new x back same (y ∷ front) a = simp (a.0, changed-here new x back same front a.1)
