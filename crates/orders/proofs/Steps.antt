-- What the searches of the code say of the definitions, and what the moves of the code leave. Assumes nothing.
use Prim.Native.Nat.{ℕ, suc, ◌*◌, ◌<◌, ◌≤◌}
use mathlib.Core.Path.{◌≡◌, sym, ap, ◌∙◌, subst}
use mathlib.Core.Bool.{true, false}
use mathlib.Core.List.{List, ◌∷◌, ◌++◌}
use native.Mathlib.Omega.{arith}
use lib.Dec.{eqb}
use lib.ListN.{length, get_or, take, drop}
use lib.Seq.{split_at, set_split, take-set-lt}
use Rattle.std.specs.Prelude.{Option, Some, None, is_some}
use Rattle.edit.specs.declared.Side.{Side}
use Rattle.level.specs.Ranked.{All}
use Rattle.level.specs.Side.{nearer}
use Rattle.orders.specs.declared.Order.{Order}
use Rattle.orders.specs.Orders.{priced, stands, stands_at, place, changed, without}
use Rattle.orders.specs.Words.{coded, order_id, resized_order, orders_in, held, no_order}
use Rattle.orders.specs.Kept.{FirstWith, FoundId, PlaceFor, PutAt}
use Rattle.orders.proofs.Held.{held-length}
use Rattle.orders.proofs.Places.{placed}
use Rattle.orders.proofs.Ids.{stands-none, stands_here, stands_at-here, changed-here, without-here}

module _ (s : List Order) (id : List ℕ) (at : ℕ) (f : FirstWith s id at) where
  first-stands : stands coded id s ≡ true
  first-stands =
      ap (stands coded id) (split_at s at no_order f.within)
      ∙ stands_here coded id (get_or s at no_order) (drop (suc at) s) f.here (take at s) f.ahead

  pub first-price : (p : ℕ) → stands_at coded id p s ≡ eqb (priced coded (get_or s at no_order)) p
  first-price p =
      ap (stands_at coded id p) (split_at s at no_order f.within)
      ∙ stands_at-here coded id (get_or s at no_order) (drop (suc at) s) f.here p (take at s) f.ahead

-- what the search for an id says
pub found-stands : (s : List Order) (id : List ℕ) (o : Option ℕ) → FoundId s id o → stands coded id s ≡ is_some o
unfolding FoundId
found-stands s id (Some at) f = first-stands s id at f
found-stands s id None f = stands-none coded id s f

pub stands-nowhere : (s : List Order) (x : Order) (p : ℕ) → priced coded x ≡ p → stands_at coded (order_id x) p s ≡ false → stands_at coded (order_id x) (priced coded x) s ≡ false
stands-nowhere s x p e f = ap (λ (q : ℕ). stands_at coded (order_id x) q s) e ∙ f

-- the order at `at` has the id and the price of x
module _ (s : List Order) (x : Order) (p at : ℕ) (e : priced coded x ≡ p) (f : FirstWith s (order_id x) at) where
  pub stands-there : eqb (priced coded (get_or s at no_order)) p ≡ true → stands_at coded (order_id x) (priced coded x) s ≡ true
  stands-there q = ap (λ (n : ℕ). stands_at coded (order_id x) n s) e ∙ first-price s (order_id x) at f p ∙ q

  pub changed-there : take at s ++ resized_order (get_or s at no_order) x ∷ drop (suc at) s ≡ changed coded x s
  changed-there =
      sym (ap (changed coded x) (split_at s at no_order f.within)
      ∙ changed-here coded x (get_or s at no_order) (drop (suc at) s) f.here (take at s) f.ahead)

  pub gone-there : take at s ++ drop (suc at) s ≡ without coded (order_id x) s
  gone-there =
      sym (ap (without coded (order_id x)) (split_at s at no_order f.within)
      ∙ without-here coded (order_id x) (get_or s at no_order) (drop (suc at) s) f.here (take at s) f.ahead)

-- an order put at its place among the first n
pub put-held : (words : List ℕ) (n at : ℕ) (x : Order) (after : List ℕ) → 6 * n ≤ length words → at < n → PutAt words at x after
    → held after n ≡ take at (held words n) ++ x ∷ drop (suc at) (held words n)
unfolding held
put-held words n at x after room h w =
    ap (take n) w.orders ∙ take-set-lt n (orders_in words) at x h
    ∙ set_split (take n (orders_in words)) at x (let l : length (take n (orders_in words)) ≡ n = held-length words n room in omega (arith, l))

-- the place that was found is that of the definition
pub place-there : (side : Side) (s : List Order) (x : Order) (p at : ℕ) → priced coded x ≡ p → PlaceFor side s p at
    → take at s ++ x ∷ drop at s ≡ place coded side x s
place-there side s x p at e f =
    placed coded side x s at
    (subst (λ (n : ℕ). All (λ y. nearer side n (priced coded y) ≡ false) (take at s)) (sym e) f.ahead)
    (subst (λ (n : ℕ). All (λ y. nearer side n (priced coded y) ≡ true) (drop at s)) (sym e) f.behind)
