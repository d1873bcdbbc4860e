-- Laws of the cut: on a side in order the best prices are the front of the side, which ends where one price too many begins. Assumes nothing.
use Prim.Native.Nat.{ℕ, zero, suc, ◌+◌, ◌<◌, ◌≤◌}
use mathlib.Core.Path.{◌≡◌, refl, sym, ap, ◌∙◌}
use mathlib.Core.Bool.{Bool, true, false, cond}
use mathlib.Core.List.{List, [], ◌∷◌, ◌++◌, append-nil}
use native.Mathlib.Nat.{not-suc-le-zero}
use native.Mathlib.Numerals.{add-one}
use lib.Dec.{eqb}
use lib.ListN.{length, get_or, take, drop, drop_of_length-le}
use lib.Seq.{take-suc, drop-cons, append_snoc}
use borrow.Author.Tests.{eqb-true, eqb-false, eq-eqb, ne_eqb}
use Rattle.decimal.specs.Decimal.{value}
use Rattle.edit.specs.declared.Side.{Side}
use Rattle.level.specs.Ranked.{All}
use Rattle.level.specs.Side.{nearer}
use Rattle.orders.specs.Orders.{View, among, except, prices, at_prices, best_prices, BestFirst}
use Rattle.level.proofs.Order.{before-or-after, before-through, before-ne}
use Rattle.level.proofs.All.{all_map, all-cond}

-- ---- prices left out

except-cond : (p q : ℕ) (ps : List ℕ) (t : Bool) → eqb p q ≡ t → except p ps ≡ ps → except p (cond t ps (q ∷ ps)) ≡ cond t ps (q ∷ ps)
unfolding except
except-cond p q ps true e h = h
except-cond p q ps false e h = simp (e, h)

-- leaving a price out twice is leaving it out
except-again : (p : ℕ) (ps : List ℕ) → except p (except p ps) ≡ except p ps
unfolding except
except-again p [] = refl
except-again p (q ∷ ps) = except-cond p q (except p ps) (eqb p q) refl (except-again p ps)

except-none : (p : ℕ) (ps : List ℕ) → All (λ q. q ≡ p → ⊥) ps → except p ps ≡ ps
unfolding All except
except-none p [] a = refl
except-none p (q ∷ ps) a = simp (ne_eqb p q (λ e. a.0 (sym e)), except-none p ps a.1)

all-except : (P : ℕ → Type 0) (p : ℕ) (ps : List ℕ) → All P ps → All P (except p ps)
unfolding All except
all-except P p [] a = tt
all-except P p (q ∷ ps) a = all-cond P (eqb p q) (except p ps) (q ∷ except p ps) (all-except P p ps a.1) (a.0, all-except P p ps a.1)

module _ {A : Type 0} (v : View A) where
  abbrev key : A → ℕ
  key x = value (v.price x)

  abbrev Not : ℕ → A → Type 0
  Not p x = key x ≡ p → ⊥

  -- The orders that follow one at price p, up to where more than `more` further prices begin.
  unfoldable pub up_to : ℕ → ℕ → List A → List A
  up_to p more [] = []
  up_to p zero (x ∷ s) = cond (eqb (key x) p) (x ∷ up_to p zero s) []
  up_to p (suc more) (x ∷ s) = cond (eqb (key x) p) (x ∷ up_to p (suc more) s) (x ∷ up_to (key x) more s)

  prices-not : (p : ℕ) (s : List A) → All (Not p) s → All (λ q. q ≡ p → ⊥) (prices v s)
  unfolding All prices
  prices-not p [] a = tt
  prices-not p (x ∷ s) a = (a.0, all-except (λ q. q ≡ p → ⊥) (key x) (prices v s) (prices-not p s a.1))

  -- a price that no order has keeps none
  skip : (p : ℕ) (ps : List ℕ) (s : List A) → All (Not p) s → at_prices v (p ∷ ps) s ≡ at_prices v ps s
  unfolding All at_prices among
  skip p ps [] a = refl
  skip p ps (x ∷ s) a = simp (ne_eqb (key x) p a.0, skip p ps s a.1)

  none : (s : List A) → at_prices v [] s ≡ []
  unfolding at_prices among
  none [] = refl
  none (x ∷ s) = none s

  -- an order at the first of the prices is kept
  kept : (p : ℕ) (ps : List ℕ) (x : A) (s : List A) → key x ≡ p → at_prices v (p ∷ ps) (x ∷ s) ≡ x ∷ at_prices v (p ∷ ps) s
  unfolding at_prices among
  kept p ps x s e = simp (eq-eqb (key x) p e)

  module _ (p : ℕ) (y : A) (s : List A) where
    -- y is at price p
    same-prices : (d : ℕ) → key y ≡ p → take d (except p (prices v (y ∷ s))) ≡ take d (except p (prices v s))
    unfolding prices except
    same-prices d e =
        ap (λ (q : ℕ). take d (except p (q ∷ except q (prices v s)))) e
        ∙ ap (λ (t : Bool). take d (cond t (except p (except p (prices v s))) (p ∷ except p (except p (prices v s))))) (eq-eqb p p refl)
        ∙ ap (take d) (except-again p (prices v s))

    same-front : (d : ℕ) → key y ≡ p → at_prices v (p ∷ take d (except p (prices v s))) s ≡ up_to p d s
        → at_prices v (p ∷ take d (except p (prices v (y ∷ s)))) (y ∷ s) ≡ y ∷ up_to p d s
    same-front d e h =
        ap (λ (ps : List ℕ). at_prices v (p ∷ ps) (y ∷ s)) (same-prices d e)
        ∙ kept p (take d (except p (prices v s))) y s e ∙ ap (λ (r : List A). y ∷ r) h

    -- no order from y on is at price p
    module _ (a : All (Not p) (y ∷ s)) where
      other-prices : except p (prices v (y ∷ s)) ≡ key y ∷ except (key y) (prices v s)
      unfolding prices
      other-prices = except-none p (prices v (y ∷ s)) (prices-not p (y ∷ s) a)

      other-front : (d : ℕ) → at_prices v (p ∷ take d (except p (prices v (y ∷ s)))) (y ∷ s) ≡ at_prices v (take d (key y ∷ except (key y) (prices v s))) (y ∷ s)
      other-front d = skip p (take d (except p (prices v (y ∷ s)))) (y ∷ s) a ∙ ap (λ (ps : List ℕ). at_prices v (take d ps) (y ∷ s)) other-prices

    front-zero : (t : Bool) → eqb (key y) p ≡ t → (t ≡ false → All (Not p) (y ∷ s)) → at_prices v (p ∷ take 0 (except p (prices v s))) s ≡ up_to p 0 s
        → at_prices v (p ∷ take 0 (except p (prices v (y ∷ s)))) (y ∷ s) ≡ cond t (y ∷ up_to p 0 s) []
    front-zero true e n h = same-front 0 (eqb-true (key y) p e) h
    front-zero false e n h = other-front (n refl) 0 ∙ none (y ∷ s)

    front-more : (m : ℕ) (t : Bool) → eqb (key y) p ≡ t → (t ≡ false → All (Not p) (y ∷ s)) → at_prices v (p ∷ take (suc m) (except p (prices v s))) s ≡ up_to p (suc m) s
        → at_prices v (key y ∷ take m (except (key y) (prices v s))) s ≡ up_to (key y) m s
        → at_prices v (p ∷ take (suc m) (except p (prices v (y ∷ s)))) (y ∷ s) ≡ cond t (y ∷ up_to p (suc m) s) (y ∷ up_to (key y) m s)
    front-more m true e n h g = same-front (suc m) (eqb-true (key y) p e) h
    front-more m false e n h g =
        other-front (n refl) (suc m) ∙ kept (key y) (take m (except (key y) (prices v s))) y s refl ∙ ap (λ (r : List A). y ∷ r) g

  module _ (side : Side) where
    -- behind an order of another price than p that p is not behind, no order has price p
    past : (p : ℕ) (y : A) (s : List A) → nearer side (key y) p ≡ false → All (λ z. nearer side (key z) (key y) ≡ false) s → eqb (key y) p ≡ false → All (Not p) (y ∷ s)
    unfolding All
    past p y s h o e =
        let n : key y ≡ p → ⊥ = eqb-false (key y) p e in
        let b : nearer side p (key y) ≡ true = before-or-after side (key y) p h n in
        (n, all_map (λ z k q. before-ne side p (key z) (before-through side p (key y) (key z) b k) (sym q)) s o)

    pub front : (p d : ℕ) (s : List A) → All (λ y. nearer side (key y) p ≡ false) s → BestFirst v side s
        → at_prices v (p ∷ take d (except p (prices v s))) s ≡ up_to p d s
    unfolding All BestFirst up_to at_prices
    front p d [] a o = refl
    front p zero (y ∷ s) a o = front-zero p y s (eqb (key y) p) refl (past p y s a.0 o.0) (front p zero s a.1 o.1)
    front p (suc m) (y ∷ s) a o =
        front-more p y s m (eqb (key y) p) refl (past p y s a.0 o.0) (front p (suc m) s a.1 o.1) (front (key y) m s o.0 o.1)

    -- ---- what the loop keeps

    pub best-start : (d : ℕ) (s : List A) (z : A) → 0 < length s → BestFirst v side s → take 1 s ++ up_to (key (get_or s 0 z)) d (drop 1 s) ≡ best_prices v (suc d) s
    unfolding BestFirst best_prices prices
    best-start d [] z h o = absurd (not-suc-le-zero h)
    best-start d (x ∷ s) z h o =
        sym (kept (key x) (take d (except (key x) (prices v s))) x s refl ∙ ap (λ (r : List A). x ∷ r) (front (key x) d s o.0 o.1))

  pub best-zero : (s : List A) → best_prices v 0 s ≡ []
  unfolding best_prices
  best-zero s = none s

  pub best-nil : (d : ℕ) → best_prices v d [] ≡ []
  unfolding best_prices at_prices
  best-nil d = refl

  module _ (s : List A) (i : ℕ) (z : A) (h : i < length s) where
    one_more : (r : List A) → take i s ++ get_or s i z ∷ r ≡ take (i + 1) s ++ r
    one_more r = rw (add-one i, take-suc s i z h) (sym (append_snoc (take i s) (get_or s i z) r))

    up_to-same : (p d : ℕ) (x : A) (r : List A) → eqb (key x) p ≡ true → up_to p d (x ∷ r) ≡ x ∷ up_to p d r
    unfolding up_to
    up_to-same p zero x r e = simp e
    up_to-same p (suc d) x r e = simp e

    pub turn-same : (p d : ℕ) → eqb (key (get_or s i z)) p ≡ true → take (i + 1) s ++ up_to p d (drop (i + 1) s) ≡ take i s ++ up_to p d (drop i s)
    turn-same p d e =
        sym (ap (λ (r : List A). take i s ++ up_to p d r) (drop-cons s i z h)
        ∙ ap (λ (r : List A). take i s ++ r) (up_to-same p d (get_or s i z) (drop (suc i) s) e)
        ∙ one_more (up_to p d (drop (suc i) s)) ∙ ap (λ (k : ℕ). take (i + 1) s ++ up_to p d (drop k s)) (sym (add-one i)))

    pub turn-next : (p d : ℕ) → eqb (key (get_or s i z)) p ≡ false → take (i + 1) s ++ up_to (key (get_or s i z)) d (drop (i + 1) s) ≡ take i s ++ up_to p (suc d) (drop i s)
    unfolding up_to
    turn-next p d e =
        sym (ap (λ (r : List A). take i s ++ up_to p (suc d) r) (drop-cons s i z h)
        ∙ ap (λ (t : Bool). take i s ++ cond t (get_or s i z ∷ up_to p (suc d) (drop (suc i) s)) (get_or s i z ∷ up_to (key (get_or s i z)) d (drop (suc i) s))) e
        ∙ one_more (up_to (key (get_or s i z)) d (drop (suc i) s)) ∙ ap (λ (k : ℕ). take (i + 1) s ++ up_to (key (get_or s i z)) d (drop k s)) (sym (add-one i)))

    pub turn-full : (p : ℕ) → eqb (key (get_or s i z)) p ≡ false → take i s ≡ take i s ++ up_to p 0 (drop i s)
    unfolding up_to
    turn-full p e =
        sym (ap (λ (r : List A). take i s ++ up_to p 0 r) (drop-cons s i z h)
        ∙ ap (λ (t : Bool). take i s ++ cond t (get_or s i z ∷ up_to p 0 (drop (suc i) s)) []) e ∙ append-nil (take i s))

  pub turn_end : (s : List A) (i p d : ℕ) → length s ≤ i → take i s ≡ take i s ++ up_to p d (drop i s)
  unfolding up_to
  turn_end s i p d h = sym (ap (λ (r : List A). take i s ++ up_to p d r) (drop_of_length-le s h) ∙ append-nil (take i s))
