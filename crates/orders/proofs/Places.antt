-- Laws of places on a side: what a search of a side in order knows, an order put last at its price, and that entries and cuts leave a side in order.
-- Assumes nothing.
use Prim.Native.Nat.{ℕ, zero, suc, ◌+◌, ◌≤◌, ◌<◌}
use mathlib.Core.Path.{◌≡◌, refl, sym, ap, ◌∙◌}
use mathlib.Core.Bool.{Bool, true, false, cond}
use mathlib.Core.List.{List, [], ◌∷◌, ◌++◌}
use native.Mathlib.Nat.{le_of_suc-le-suc, not-suc-le-zero}
use native.Mathlib.Omega.{arith}
use lib.ListN.{length, get_or, take, drop, take-append-drop, drop_of_length-le}
use lib.Seq.{drop-cons}
use Rattle.decimal.specs.Decimal.{Number, value}
use Rattle.edit.specs.declared.Side.{Side}
use Rattle.level.specs.Ranked.{All}
use Rattle.level.specs.Side.{nearer}
use Rattle.order_edit.specs.Ids.{same_id}
use Rattle.orders.specs.Orders.{View, place, changed, without, BestFirst}
use Rattle.level.proofs.Order.{before-asym, not-before-trans, before-through}
use Rattle.level.proofs.All.{all_map, all-at, all-cond, all_take, all-next}

module _ {A : Type 0} (v : View A) where
  abbrev key : A → ℕ
  key x = value (v.price x)

  -- ---- a search

  module _ (side : Side) where
    -- no order is before one ahead of it, seen from place m
    pub sorted_front : (s : List A) (m : ℕ) (d : A) → m < length s → BestFirst v side s → All (λ x. nearer side (key (get_or s m d)) (key x) ≡ false) (take m s)
    unfolding All BestFirst
    sorted_front [] m d h o = absurd (not-suc-le-zero h)
    sorted_front (x ∷ s) zero d h o = tt
    sorted_front (x ∷ s) (suc m) d h o =
        (all-at (λ y. nearer side (key y) (key x) ≡ false) s m d (le_of_suc-le-suc h) o.0, sorted_front s m d (le_of_suc-le-suc h) o.1)

    pub sorted_back : (s : List A) (m : ℕ) (d : A) → m < length s → BestFirst v side s → All (λ x. nearer side (key x) (key (get_or s m d)) ≡ false) (drop (suc m) s)
    unfolding All BestFirst
    sorted_back [] m d h o = absurd (not-suc-le-zero h)
    sorted_back (x ∷ s) zero d h o = o.0
    sorted_back (x ∷ s) (suc m) d h o = sorted_back s m d (le_of_suc-le-suc h) o.1

    -- low and high bracket the place of an order of price p
    pub record Bracket (s : List A) (p low high : ℕ) : Type 0 where
      pub low-le : low ≤ high
      pub high_le : high ≤ length s
      pub ahead : All (λ x. nearer side p (key x) ≡ false) (take low s)
      pub behind : All (λ x. nearer side p (key x) ≡ true) (drop high s)

    pub bracket-start : (s : List A) (p n : ℕ) → length s ≡ n → Bracket s p 0 n
    unfolding All
    bracket-start s p n e = record {
      low-le = omega arith;
      high_le = omega arith;
      ahead = tt;
      behind = rw (drop_of_length-le s {i = n} (omega arith)) tt;
    }

    module _ (s : List A) (p : ℕ) (o : BestFirst v side s) (m : ℕ) (d : A) (h : m < length s) (low high : ℕ) (k : Bracket s p low high) where
      pub bracket-up : m < high → nearer side p (key (get_or s m d)) ≡ false → Bracket s p (m + 1) high
      bracket-up l t = record {
        low-le = omega arith;
        high_le = k.high_le;
        ahead =
            all-next (λ x. nearer side p (key x) ≡ false) s m d h
            (all_map (λ x q. not-before-trans side p (key (get_or s m d)) (key x) t q) (take m s) (sorted_front s m d h o)) t;
        behind = k.behind;
      }

      pub bracket-down : low ≤ m → nearer side p (key (get_or s m d)) ≡ true → Bracket s p low m
      unfolding All
      bracket-down l t = record {
        low-le = l;
        high_le = omega arith;
        ahead = k.ahead;
        behind =
            rw (drop-cons s m d h)
            ((t, all_map (λ x q. before-through side p (key (get_or s m d)) (key x) t q) (drop (suc m) s) (sorted_back s m d h o)));
      }

    -- ---- an order put at its place

    pub place-front : (x : A) (s : List A) → All (λ y. nearer side (key x) (key y) ≡ true) s → place v side x s ≡ x ∷ s
    unfolding All place
    place-front x [] a = refl
    place-front x (y ∷ s) a = simp a.0

    pub place-middle : (x : A) (p q : List A) → All (λ y. nearer side (key x) (key y) ≡ false) p → All (λ y. nearer side (key x) (key y) ≡ true) q
        → place v side x (p ++ q) ≡ p ++ x ∷ q
    unfolding All place
    place-middle x [] q a c = place-front x q c
    place-middle x (y ∷ p) q a c = simp (a.0, place-middle x p q a.1 c)

    pub placed : (x : A) (s : List A) (at : ℕ) → All (λ y. nearer side (key x) (key y) ≡ false) (take at s) → All (λ y. nearer side (key x) (key y) ≡ true) (drop at s)
        → take at s ++ x ∷ drop at s ≡ place v side x s
    placed x s at a c = sym (ap (place v side x) (sym (take-append-drop at s)) ∙ place-middle x (take at s) (drop at s) a c)

    pub all-place : (P : A → Type 0) (x : A) (s : List A) → P x → All P s → All P (place v side x s)
    unfolding All place
    all-place P x [] p a = (p, tt)
    all-place P x (y ∷ s) p a =
        all-cond P (nearer side (key x) (key y)) (x ∷ y ∷ s) (y ∷ place v side x s) (p, a) (a.0, all-place P x s p a.1)

    place-cond : (x y : A) (s : List A) (t : Bool) → nearer side (key x) (key y) ≡ t → BestFirst v side (y ∷ s) → BestFirst v side (place v side x s)
        → BestFirst v side (cond t (x ∷ y ∷ s) (y ∷ place v side x s))
    unfolding All BestFirst
    place-cond x y s true e o c =
        ((before-asym side (key x) (key y) e, all_map (λ z h. not-before-trans side (key z) (key y) (key x) h (before-asym side (key x) (key y) e)) s o.0), o)
    place-cond x y s false e o c = (all-place (λ z. nearer side (key z) (key y) ≡ false) x s e o.0, c)

    pub sorted-place : (x : A) (s : List A) → BestFirst v side s → BestFirst v side (place v side x s)
    unfolding All BestFirst place
    sorted-place x [] o = (tt, tt)
    sorted-place x (y ∷ s) o = place-cond x y s (nearer side (key x) (key y)) refl o (sorted-place x s o.1)

    -- ---- a cut

    pub sorted-take : (n : ℕ) (s : List A) → BestFirst v side s → BestFirst v side (take n s)
    unfolding BestFirst All
    sorted-take zero s o = tt
    sorted-take (suc n) [] o = tt
    sorted-take (suc n) (x ∷ s) o = (all_take (λ y. nearer side (key y) (key x) ≡ false) n s o.0, sorted-take n s o.1)

  -- ---- an order taken out

  pub all_without : (P : A → Type 0) (id : List ℕ) (s : List A) → All P s → All P (without v id s)
  unfolding All without
  all_without P id [] a = tt
  all_without P id (y ∷ s) a = all-cond P (same_id (v.id y) id) s (y ∷ without v id s) a.1 (a.0, all_without P id s a.1)

  without-cond : (side : Side) (y : A) (s r : List A) (t : Bool) → BestFirst v side s → BestFirst v side (y ∷ r) → BestFirst v side (cond t s (y ∷ r))
  without-cond side y s r true o c = o
  without-cond side y s r false o c = c

  pub sorted-without : (side : Side) (id : List ℕ) (s : List A) → BestFirst v side s → BestFirst v side (without v id s)
  unfolding All BestFirst without
  sorted-without side id [] o = tt
  sorted-without side id (y ∷ s) o =
      without-cond side y s (without v id s) (same_id (v.id y) id) o.1
      (all_without (λ z. nearer side (key z) (key y) ≡ false) id s o.0, sorted-without side id s o.1)

  -- ---- an order resized

  pub all_changed : (P Q : A → Type 0) (x : A) (s : List A) → ((y : A) → P y → Q y → Q (v.resized y x)) → All P s → All Q s → All Q (changed v x s)
  unfolding All changed
  all_changed P Q x [] f p a = tt
  all_changed P Q x (y ∷ s) f p a =
      all-cond Q (same_id (v.id y) (v.id x)) (v.resized y x ∷ s) (y ∷ changed v x s) (f y p.0 a.0, a.1) (a.0, all_changed P Q x s f p.1 a.1)

  -- it keeps its price, where P holds of both
  module _ (P : A → Type 0) (keeps : (x y : A) → P x → P y → v.price (v.resized x y) ≡ v.price x) where
    pub sorted-changed : (side : Side) (x : A) → P x → (s : List A) → All P s → BestFirst v side s → BestFirst v side (changed v x s)
    unfolding All BestFirst changed
    sorted-changed side x p [] a o = tt
    sorted-changed side x p (y ∷ s) a o =
        without-cond side y (v.resized y x ∷ s) (changed v x s) (same_id (v.id y) (v.id x))
        (all_map (λ z h. ap (λ (n : Number). nearer side (key z) (value n)) (keeps y x a.0 p) ∙ h) s o.0, o.1)
        (all_changed P (λ z. nearer side (key z) (key y) ≡ false) x s (λ z q h. ap (λ (n : Number). nearer side (value n) (key y)) (keeps z x q p) ∙ h) a.1 o.0, sorted-changed side x p s a.1 o.1)
