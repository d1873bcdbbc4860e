-- The queue at a price: `add` puts an id at its end, `modify` leaves it as it is, `delete` takes its id out, and the cut keeps it whole or not at all. Assumes nothing.
use Prim.Native.Nat.{ℕ}
use mathlib.Core.Path.{◌≡◌, refl, sym, ap, ◌∙◌}
use mathlib.Core.Bool.{Bool, true, false, cond}
use mathlib.Core.List.{List, [], ◌∷◌, ◌++◌}
use lib.Dec.{eqb}
use lib.ListN.{take}
use borrow.Author.Tests.{eqb-true, ne_eqb}
use Rattle.decimal.specs.Decimal.{Number, value}
use Rattle.edit.specs.declared.Side.{Side}
use Rattle.level.specs.Ranked.{All}
use Rattle.level.specs.Side.{nearer}
use Rattle.order_edit.specs.Ids.{same_id}
use Rattle.orders.specs.Orders.{View, among, place, changed, prices, at_prices, best_prices, BestFirst, queue, plain, stands, without, except_id, IdsOnce, QueueOrder}
use Rattle.order_edit.proofs.Ids.{same_id-true}
use Rattle.level.proofs.Order.{before-ne, before-through}
use Rattle.orders.proofs.Once.{or_left, or_right}
use Rattle.level.proofs.All.{all_map, all_true}

module _ {A : Type 0} (v : View A) where
  abbrev key : A → ℕ
  key x = value (v.price x)

  -- ---- `modify`

  -- where a resized order keeps its price and its id, P holding of both
  module _ (P : A → Type 0) (keeps : (x y : A) → P x → P y → v.price (v.resized x y) ≡ v.price x) (same : (x y : A) → v.id (v.resized x y) ≡ v.id x) where
    modify-cond : (p : ℕ) (x y : A) → P x → P y → (s r : List A) (t : Bool) → queue v p r ≡ queue v p s → queue v p (cond t (v.resized y x ∷ s) (y ∷ r)) ≡ queue v p (y ∷ s)
    unfolding queue
    modify-cond p x y a b s r true h =
        ap (λ (n : Number). cond (eqb (value n) p) (v.id (v.resized y x) ∷ queue v p s) (queue v p s)) (keeps y x b a)
        ∙ ap (λ (i : List ℕ). cond (eqb (key y) p) (i ∷ queue v p s) (queue v p s)) (same y x)
    modify-cond p x y a b s r false h = rw h

    pub queue-modify : (p : ℕ) (x : A) → P x → (s : List A) → All P s → queue v p (changed v x s) ≡ queue v p s
    unfolding queue changed All
    queue-modify p x a [] b = refl
    queue-modify p x a (y ∷ s) b = modify-cond p x y a b.0 s (changed v x s) (same_id (v.id y) (v.id x)) (queue-modify p x a s b.1)

  -- ---- the cut

  -- an order at p is kept where p is among the prices
  cut-cond : (p : ℕ) (ps : List ℕ) (x : A) (s r : List A) (t : Bool) → eqb (key x) p ≡ t → queue v p r ≡ cond (among p ps) (queue v p s) []
      → (u : Bool) → among (key x) ps ≡ u → queue v p (cond u (x ∷ r) r) ≡ cond (among p ps) (cond t (v.id x ∷ queue v p s) (queue v p s)) []
  unfolding queue
  cut-cond p ps x s r true e h true f =
      let m : among p ps ≡ true = ap (λ (q : ℕ). among q ps) (sym (eqb-true (key x) p e)) ∙ f in
      rw (e, m) (ap (λ (q : List (List ℕ)). v.id x ∷ q) (rw m at h))
  cut-cond p ps x s r true e h false f =
      let m : among p ps ≡ false = ap (λ (q : ℕ). among q ps) (sym (eqb-true (key x) p e)) ∙ f in
      rw m (rw m at h)
  cut-cond p ps x s r false e h true f = rw e h
  cut-cond p ps x s r false e h false f = h

  cond-none : (t : Bool) → ◌≡◌ {A = List (List ℕ)} [] (cond t [] [])
  cond-none true = refl
  cond-none false = refl

  pub queue-prices : (p : ℕ) (ps : List ℕ) (s : List A) → queue v p (at_prices v ps s) ≡ cond (among p ps) (queue v p s) []
  unfolding queue at_prices
  queue-prices p ps [] = cond-none (among p ps)
  queue-prices p ps (x ∷ s) = cut-cond p ps x s (at_prices v ps s) (eqb (key x) p) refl (queue-prices p ps s) (among (key x) ps) refl

  -- a price level is kept whole, in its order, where it is one of the best, and not at all where it is not
  pub queue-cut : (p depth : ℕ) (s : List A) → queue v p (best_prices v depth s) ≡ cond (among p (take depth (prices v s))) (queue v p s) []
  unfolding best_prices
  queue-cut p depth s = queue-prices p (take depth (prices v s)) s

  -- ---- `add`

  queue-none : (p : ℕ) (s : List A) → All (λ y. key y ≡ p → ⊥) s → queue v p s ≡ []
  unfolding All queue
  queue-none p [] a = refl
  queue-none p (x ∷ s) a = simp (ne_eqb (key x) p a.0, queue-none p s a.1)

  module _ (side : Side) (p : ℕ) (x : A) where
    -- x goes before y: if x is at p, nothing from y on is
    add-front : (y : A) (s : List A) (t : Bool) → eqb (key x) p ≡ t → nearer side (key x) (key y) ≡ true → All (λ z. nearer side (key z) (key y) ≡ false) s
        → cond t (v.id x ∷ queue v p (y ∷ s)) (queue v p (y ∷ s)) ≡ cond t (queue v p (y ∷ s) ++ v.id x ∷ []) (queue v p (y ∷ s))
    unfolding All
    add-front y s true e b o =
        let k : key x ≡ p = eqb-true (key x) p e in
        let none : queue v p (y ∷ s) ≡ [] =
        queue-none p (y ∷ s)
        (λ q. before-ne side (key x) (key y) b (k ∙ sym q), all_map (λ z h q. before-ne side (key x) (key z) (before-through side (key x) (key y) (key z) b h) (k ∙ sym q)) s o) in
        rw none
    add-front y s false e b o = refl

    behind-cond : (t u : Bool) (i j : List ℕ) (r : List (List ℕ)) → cond t (i ∷ cond u (r ++ j ∷ []) r) (cond u (r ++ j ∷ []) r) ≡ cond u (cond t (i ∷ r) r ++ j ∷ []) (cond t (i ∷ r) r)
    behind-cond true true i j r = refl
    behind-cond true false i j r = refl
    behind-cond false true i j r = refl
    behind-cond false false i j r = refl

    add-cond : (y : A) (s : List A) (t : Bool) → nearer side (key x) (key y) ≡ t → All (λ z. nearer side (key z) (key y) ≡ false) s
        → queue v p (place v side x s) ≡ cond (eqb (key x) p) (queue v p s ++ v.id x ∷ []) (queue v p s)
        → queue v p (cond t (x ∷ y ∷ s) (y ∷ place v side x s)) ≡ cond (eqb (key x) p) (queue v p (y ∷ s) ++ v.id x ∷ []) (queue v p (y ∷ s))
    unfolding queue
    add-cond y s true e o h = add-front y s (eqb (key x) p) refl e o
    add-cond y s false e o h = rw h (behind-cond (eqb (key y) p) (eqb (key x) p) (v.id y) (v.id x) (queue v p s))

    -- an added order is the last of its price, and no other price is touched
    pub queue-add : (s : List A) → BestFirst v side s → queue v p (place v side x s) ≡ cond (eqb (key x) p) (queue v p s ++ v.id x ∷ []) (queue v p s)
    unfolding queue place BestFirst
    queue-add [] o = refl
    queue-add (y ∷ s) o = add-cond y s (nearer side (key x) (key y)) refl o.0 (queue-add s o.1)

  -- ---- `delete`

  -- an id that does not stand on a side is in no queue of it
  queue-absent : (p : ℕ) (id : List ℕ) (s : List A) → stands v id s ≡ false → except_id id (queue v p s) ≡ queue v p s
  unfolding stands queue except_id
  queue-absent p id [] h = refl
  queue-absent p id (x ∷ s) h =
      absent-cond (eqb (key x) p) (v.id x) (queue v p s) id (or_left (same_id (v.id x) id) (stands v id s) h) (queue-absent p id s (or_right (same_id (v.id x) id) (stands v id s) h))
    where
      absent-cond : (t : Bool) (i : List ℕ) (q : List (List ℕ)) (id : List ℕ) → same_id i id ≡ false → except_id id q ≡ q → except_id id (cond t (i ∷ q) q) ≡ cond t (i ∷ q) q
      absent-cond true i q id n e = simp (n, e)
      absent-cond false i q id n e = e

  delete-cond : (p : ℕ) (id : List ℕ) (y : A) (s : List A) (t : Bool) → same_id (v.id y) id ≡ t → stands v (v.id y) s ≡ false
      → queue v p (without v id s) ≡ except_id id (queue v p s) → queue v p (cond t s (y ∷ without v id s)) ≡ except_id id (queue v p (y ∷ s))
  unfolding queue except_id
  delete-cond p id y s true e n h =
      let same : v.id y ≡ id = same_id-true (v.id y) id e in
      let none : except_id id (queue v p s) ≡ queue v p s = queue-absent p id s (ap (λ (i : List ℕ). stands v i s) (sym same) ∙ n) in
      sym (gone (eqb (key y) p) ∙ none)
    where
      gone : (t : Bool) → except_id id (cond t (v.id y ∷ queue v p s) (queue v p s)) ≡ except_id id (queue v p s)
      gone true = simp e
      gone false = refl
  delete-cond p id y s false e n h = rw h (kept (eqb (key y) p))
    where
      kept : (t : Bool) → cond t (v.id y ∷ except_id id (queue v p s)) (except_id id (queue v p s)) ≡ except_id id (cond t (v.id y ∷ queue v p s) (queue v p s))
      kept true = sym (simp e)
      kept false = refl

  pub queue-delete : (p : ℕ) (id : List ℕ) (s : List A) → IdsOnce v s → queue v p (without v id s) ≡ except_id id (queue v p s)
  unfolding queue without except_id IdsOnce
  queue-delete p id [] o = refl
  queue-delete p id (y ∷ s) o = delete-cond p id y s (same_id (v.id y) id) refl o.0 (queue-delete p id s o.1)

-- ---- all of it, of orders as they are shown

pub queue-order : (side : Side) (p : ℕ) → QueueOrder plain side p
queue-order side p = record {
  modified = λ x s. queue-modify plain (λ y. Unit) (λ y z a b. refl) (λ y z. refl) p x tt s (all_true (λ y. Unit) (λ y. tt) s);
  added = λ x s o. queue-add plain side p x s o;
  deleted = λ id s o. queue-delete plain p id s o;
  cut = λ depth s. queue-cut plain p depth s;
}
