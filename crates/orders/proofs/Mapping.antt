-- Orders seen in another way: a function that keeps prices, sizes and which ids are the same takes a message through. Assumes nothing.
use Prim.Native.Nat.{ℕ}
use mathlib.Core.Path.{◌≡◌, refl, sym, ap, ◌∙◌}
use mathlib.Core.Bool.{Bool, true, false, not, cond}
use mathlib.Core.List.{List, [], ◌∷◌, map}
use lib.Dec.{eqb}
use lib.ListN.{take}
use Rattle.decimal.specs.Decimal.{value}
use Rattle.edit.specs.declared.Side.{Side}
use Rattle.edit.specs.declared.Side.TheVariants.{Bids, Asks}
use Rattle.level.specs.Ranked.{All}
use Rattle.level.specs.Side.{nearer}
use Rattle.order_edit.specs.Ids.{same_id}
use Rattle.orders.specs.Orders.{View, Entry, adds, modifies, deletes, Outcome, taken, clash, Sides, both, clashed, among, except, priced, stands, stands_at, place, changed, without, apply, clashes, apply_all, prices, at_prices, best_prices, beside, then_asks, apply_both, cut_both, after_update, map_entry, map_outcome, map_sides, OfEntry}
use Rattle.orders.proofs.Places.{all-place, all_changed, all_without}

module _ {A B : Type 0} (v : View A) (u : View B) (f : A → B)
    (price : (x : A) → u.price (f x) ≡ v.price x) where
  map-cond : (t : Bool) (s r : List A) → map f (cond t s r) ≡ cond t (map f s) (map f r)
  map-cond true s r = refl
  map-cond false s r = refl

  abbrev same_value : (x : A) → priced u (f x) ≡ priced v x
  same_value x = ap value (price x)

  map-place : (side : Side) (x : A) (s : List A) → map f (place v side x s) ≡ place u side (f x) (map f s)
  unfolding place
  map-place side x [] = refl
  map-place side x (y ∷ s) =
      map-cond (nearer side (priced v x) (priced v y)) (x ∷ y ∷ s) (y ∷ place v side x s)
      ∙ ap (λ (r : List B). cond (nearer side (priced v x) (priced v y)) (f x ∷ f y ∷ map f s) (f y ∷ r)) (map-place side x s)
      ∙ ap (λ (p : ℕ). cond (nearer side p (priced v y)) (f x ∷ f y ∷ map f s) (f y ∷ place u side (f x) (map f s))) (sym (same_value x))
      ∙ ap (λ (p : ℕ). cond (nearer side (priced u (f x)) p) (f x ∷ f y ∷ map f s) (f y ∷ place u side (f x) (map f s))) (sym (same_value y))

  -- ---- the cut

  map-prices : (s : List A) → prices u (map f s) ≡ prices v s
  unfolding prices
  map-prices [] = refl
  map-prices (x ∷ s) =
      ap (λ (p : ℕ). p ∷ except p (prices u (map f s))) (same_value x) ∙ ap (λ (ps : List ℕ). priced v x ∷ except (priced v x) ps) (map-prices s)

  map-at_prices : (ps : List ℕ) (s : List A) → map f (at_prices v ps s) ≡ at_prices u ps (map f s)
  unfolding at_prices
  map-at_prices ps [] = refl
  map-at_prices ps (x ∷ s) =
      map-cond (among (priced v x) ps) (x ∷ at_prices v ps s) (at_prices v ps s)
      ∙ ap (λ (r : List B). cond (among (priced v x) ps) (f x ∷ r) r) (map-at_prices ps s)
      ∙ ap (λ (p : ℕ). cond (among p ps) (f x ∷ at_prices u ps (map f s)) (at_prices u ps (map f s))) (sym (same_value x))

  pub map-best : (depth : ℕ) (s : List A) → map f (best_prices v depth s) ≡ best_prices u depth (map f s)
  unfolding best_prices
  map-best depth s = map-at_prices (take depth (prices v s)) s ∙ ap (λ (ps : List ℕ). at_prices u (take depth ps) (map f s)) (sym (map-prices s))

  -- ---- ids, of orders for which P holds

  module _ (P : A → Type 0) (resized : (x y : A) → P x → P y → f (v.resized x y) ≡ u.resized (f x) (f y))
      (id : (x y : A) → P x → P y → same_id (v.id x) (v.id y) ≡ same_id (u.id (f x)) (u.id (f y))) where
    map-stands : (x : A) → P x → (s : List A) → All P s → stands v (v.id x) s ≡ stands u (u.id (f x)) (map f s)
    unfolding All stands
    map-stands x p [] a = refl
    map-stands x p (y ∷ s) a = rw (id y x a.0 p, map-stands x p s a.1)

    map-stands_at : (x : A) → P x → (q : ℕ) (s : List A) → All P s → stands_at v (v.id x) q s ≡ stands_at u (u.id (f x)) q (map f s)
    unfolding All stands_at
    map-stands_at x p q [] a = refl
    map-stands_at x p q (y ∷ s) a =
        ap (λ (t : Bool). cond t (eqb (priced v y) q) (stands_at v (v.id x) q s)) (id y x a.0 p)
        ∙ ap (λ (k : ℕ). cond (same_id (u.id (f y)) (u.id (f x))) (eqb k q) (stands_at v (v.id x) q s)) (sym (same_value y))
        ∙ ap (cond (same_id (u.id (f y)) (u.id (f x))) (eqb (priced u (f y)) q)) (map-stands_at x p q s a.1)

    map-changed : (x : A) → P x → (s : List A) → All P s → map f (changed v x s) ≡ changed u (f x) (map f s)
    unfolding All changed
    map-changed x p [] a = refl
    map-changed x p (y ∷ s) a =
        map-cond (same_id (v.id y) (v.id x)) (v.resized y x ∷ s) (y ∷ changed v x s)
        ∙ ap (λ (t : Bool). cond t (f (v.resized y x) ∷ map f s) (f y ∷ map f (changed v x s))) (id y x a.0 p)
        ∙ ap (λ (z : B). cond (same_id (u.id (f y)) (u.id (f x))) (z ∷ map f s) (f y ∷ map f (changed v x s))) (resized y x a.0 p)
        ∙ ap (λ (r : List B). cond (same_id (u.id (f y)) (u.id (f x))) (u.resized (f y) (f x) ∷ map f s) (f y ∷ r)) (map-changed x p s a.1)

    map-without : (x : A) → P x → (s : List A) → All P s → map f (without v (v.id x) s) ≡ without u (u.id (f x)) (map f s)
    unfolding All without
    map-without x p [] a = refl
    map-without x p (y ∷ s) a =
        map-cond (same_id (v.id y) (v.id x)) s (y ∷ without v (v.id x) s)
        ∙ ap (λ (t : Bool). cond t (map f s) (f y ∷ map f (without v (v.id x) s))) (id y x a.0 p)
        ∙ ap (λ (r : List B). cond (same_id (u.id (f y)) (u.id (f x))) (map f s) (f y ∷ r)) (map-without x p s a.1)

    -- ---- a message

    module _ (kept : (x y : A) → P x → P y → P (v.resized x y)) (side : Side) where
      map-clashes : (other : List A) → All P other → (e : Entry A) → OfEntry P e → (s : List A) → All P s
          → clashes v other e s ≡ clashes u (map f other) (map_entry f e) (map f s)
      unfolding clashes map_entry OfEntry
      map-clashes other b (adds x) p s a = rw (map-stands x p s a, map-stands x p other b)
      map-clashes other b (modifies x) p s a =
          ap not (map-stands_at x p (priced v x) s a ∙ ap (λ (q : ℕ). stands_at u (u.id (f x)) q (map f s)) (sym (same_value x)))
      map-clashes other b (deletes x) p s a =
          ap not (map-stands_at x p (priced v x) s a ∙ ap (λ (q : ℕ). stands_at u (u.id (f x)) q (map f s)) (sym (same_value x)))

      map_apply : (e : Entry A) → OfEntry P e → (s : List A) → All P s → map f (apply v side e s) ≡ apply u side (map_entry f e) (map f s)
      unfolding apply map_entry OfEntry
      map_apply (adds x) p s a = map-place side x s
      map_apply (modifies x) p s a = map-changed x p s a
      map_apply (deletes x) p s a = map-without x p s a

      all-apply : (e : Entry A) → OfEntry P e → (s : List A) → All P s → All P (apply v side e s)
      unfolding apply OfEntry
      all-apply (adds x) p s a = all-place v side P x s p a
      all-apply (modifies x) p s a = all_changed v P P x s (λ y q r. kept y x q p) a a
      all-apply (deletes x) p s a = all_without v P (v.id x) s a

      outcome-cond : (t : Bool) (r : Outcome A) → map_outcome f (cond t clash r) ≡ cond t clash (map_outcome f r)
      unfolding map_outcome
      outcome-cond true r = refl
      outcome-cond false r = refl

      pub map-all : (other : List A) → All P other → (es : List (Entry A)) → All (OfEntry P) es → (s : List A) → All P s
          → map_outcome f (apply_all v side other es s) ≡ apply_all u side (map f other) (map (map_entry f) es) (map f s)
      unfolding All apply_all map_outcome
      map-all other b [] p s a = refl
      map-all other b (e ∷ es) p s a =
          outcome-cond (clashes v other e s) (apply_all v side other es (apply v side e s))
          ∙ ap (cond (clashes v other e s) clash) (map-all other b es p.1 (apply v side e s) (all-apply e p.0 s a))
          ∙ ap (λ (r : List B). cond (clashes v other e s) clash (apply_all u side (map f other) (map (map_entry f) es) r)) (map_apply e p.0 s a)
          ∙ ap (λ (t : Bool). cond t clash (apply_all u side (map f other) (map (map_entry f) es) (apply u side (map_entry f e) (map f s)))) (map-clashes other b e p.0 s a)

      -- the side after entries is one of orders for which P holds
      Of : Outcome A → Type 0
      Of (taken s) = All P s
      Of clash = Unit

      of-cond : (t : Bool) (r : Outcome A) → Of r → Of (cond t clash r)
      unfolding Of
      of-cond true r a = tt
      of-cond false r a = a

      of-all : (other : List A) (es : List (Entry A)) → All (OfEntry P) es → (s : List A) → All P s → Of (apply_all v side other es s)
      unfolding All apply_all Of
      of-all other [] p s a = a
      of-all other (e ∷ es) p s a =
          of-cond (clashes v other e s) (apply_all v side other es (apply v side e s)) (of-all other es p.1 (apply v side e s) (all-apply e p.0 s a))

    module _ (kept : (x y : A) → P x → P y → P (v.resized x y)) where
      map-beside : (bids : List A) (r : Outcome A) → map_sides f (beside v bids r) ≡ beside u (map f bids) (map_outcome f r)
      unfolding map_sides map_outcome beside
      map-beside bids (taken asks) = refl
      map-beside bids clash = refl

      map-then : (es : List (Entry A)) → All (OfEntry P) es → (asks : List A) → All P asks → (r : Outcome A) → Of kept Bids r
          → map_sides f (then_asks v es asks r) ≡ then_asks u (map (map_entry f) es) (map f asks) (map_outcome f r)
      unfolding map_sides map_outcome then_asks Of
      map-then es p asks a (taken bids) b =
          map-beside bids (apply_all v Asks bids es asks) ∙ ap (beside u (map f bids)) (map-all kept Asks bids b es p asks a)
      map-then es p asks a clash b = refl

      map-cut : (depth : ℕ) (r : Sides A) → map_sides f (cut_both v depth r) ≡ cut_both u depth (map_sides f r)
      unfolding map_sides cut_both
      map-cut depth (both bids asks) = ap (λ (x : List B). both x (map f (best_prices v depth asks))) (map-best depth bids) ∙ ap (both (best_prices u depth (map f bids))) (map-best depth asks)
      map-cut depth clashed = refl

      pub map-update : (depth : ℕ) (bes aes : List (Entry A)) (bids asks : List A) → All (OfEntry P) bes → All (OfEntry P) aes → All P bids → All P asks
          → map_sides f (after_update v depth bes aes bids asks) ≡ after_update u depth (map (map_entry f) bes) (map (map_entry f) aes) (map f bids) (map f asks)
      unfolding after_update apply_both
      map-update depth bes aes bids asks p q b a =
          map-cut depth (then_asks v aes asks (apply_all v Bids asks bes bids))
          ∙ ap (cut_both u depth)
          (map-then aes q asks a (apply_all v Bids asks bes bids) (of-all kept Bids asks bes p bids b)
          ∙ ap (then_asks u (map (map_entry f) aes) (map f asks)) (map-all kept Bids asks a bes p bids b))
