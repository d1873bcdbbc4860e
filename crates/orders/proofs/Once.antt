-- One id never stands for two orders, on one side or on both: entries that do not clash keep it so, and so does the cut. Assumes nothing.
use Prim.Native.Nat.{ℕ}
use mathlib.Core.Path.{◌≡◌, refl, ap, ◌∙◌, subst}
use mathlib.Core.Bool.{Bool, true, false, ◌||◌, cond}
use mathlib.Core.List.{List, [], ◌∷◌}
use lib.ListN.{take}
use Rattle.edit.specs.declared.Side.{Side}
use Rattle.edit.specs.declared.Side.TheVariants.{Bids, Asks}
use Rattle.level.specs.Ranked.{All}
use Rattle.level.specs.Side.{nearer}
use Rattle.order_edit.specs.Ids.{same_id}
use Rattle.order_edit.proofs.Ids.{same_id-swap}
use Rattle.orders.specs.Orders.{View, Entry, adds, modifies, deletes, Outcome, taken, clash, Sides, both, clashed, among, priced, stands, place, changed, without, apply, clashes, apply_all, prices, at_prices, best_prices, beside, then_asks, apply_both, cut_both, after_update, IdsOnce, Apart, Once}
use Rattle.level.proofs.All.{all_map, all-cond, all_both, all_true}
use Rattle.orders.proofs.Places.{all-place, all_changed, all_without}

-- ---- truth values

pub or_left : (a b : Bool) → (a || b) ≡ false → a ≡ false
or_left true b e = e
or_left false b e = refl

pub or_right : (a b : Bool) → (a || b) ≡ false → b ≡ false
or_right true true e = e
or_right true false e = refl
or_right false b e = e

pub or-none : (a b : Bool) → a ≡ false → b ≡ false → (a || b) ≡ false
or-none a b e f = rw (e, f)

or_swap : (a b c : Bool) → (a || (b || c)) ≡ (b || (a || c))
or_swap true true c = refl
or_swap true false c = refl
or_swap false true c = refl
or_swap false false c = refl

module _ {A : Type 0} (v : View A) where
  abbrev Other : List A → A → Type 0
  Other other x = stands v (v.id x) other ≡ false

  absent : (id : List ℕ) (s : List A) → stands v id s ≡ false → All (λ y. same_id (v.id y) id ≡ false) s
  unfolding All stands
  absent id [] e = tt
  absent id (x ∷ s) e = (or_left (same_id (v.id x) id) (stands v id s) e, absent id s (or_right (same_id (v.id x) id) (stands v id s) e))

  pub apart-swap : (s t : List A) → Apart v s t → Apart v t s
  unfolding All stands
  apart-swap [] t a = all_true (λ y. stands v (v.id y) [] ≡ false) (λ y. refl) t
  apart-swap (x ∷ s) t a =
      all_both (λ y. same_id (v.id y) (v.id x) ≡ false) (λ y. stands v (v.id y) s ≡ false) (λ y. stands v (v.id y) (x ∷ s) ≡ false)
      (λ y e f. or-none (same_id (v.id x) (v.id y)) (stands v (v.id y) s) (same_id-swap (v.id x) (v.id y) ∙ e) f)
      t (absent (v.id x) t a.0) (apart-swap s t a.1)

  -- ---- an order added

  module _ (side : Side) where
    place-cond : (id : List ℕ) (x y : A) (s : List A) (t : Bool) → stands v id (place v side x s) ≡ (same_id (v.id x) id || stands v id s)
        → stands v id (cond t (x ∷ y ∷ s) (y ∷ place v side x s)) ≡ (same_id (v.id x) id || stands v id (y ∷ s))
    unfolding stands
    place-cond id x y s true h = refl
    place-cond id x y s false h = rw h (or_swap (same_id (v.id y) id) (same_id (v.id x) id) (stands v id s))

    pub stands-place : (id : List ℕ) (x : A) (s : List A) → stands v id (place v side x s) ≡ (same_id (v.id x) id || stands v id s)
    unfolding stands place
    stands-place id x [] = refl
    stands-place id x (y ∷ s) = place-cond id x y s (nearer side (priced v x) (priced v y)) (stands-place id x s)

    once-cond : (x y : A) (s : List A) (t : Bool) → stands v (v.id x) (y ∷ s) ≡ false → IdsOnce v (y ∷ s) → IdsOnce v (place v side x s)
        → IdsOnce v (cond t (x ∷ y ∷ s) (y ∷ place v side x s))
    unfolding IdsOnce stands
    once-cond x y s true h o r = (h, o)
    once-cond x y s false h o r = (
      stands-place (v.id y) x s
          ∙ or-none (same_id (v.id x) (v.id y)) (stands v (v.id y) s) (same_id-swap (v.id x) (v.id y) ∙ or_left (same_id (v.id y) (v.id x)) (stands v (v.id x) s) h) o.0,
      r,
    )

    pub once-place : (x : A) (s : List A) → stands v (v.id x) s ≡ false → IdsOnce v s → IdsOnce v (place v side x s)
    unfolding IdsOnce stands place
    once-place x [] h o = (refl, tt)
    once-place x (y ∷ s) h o =
        once-cond x y s (nearer side (priced v x) (priced v y)) h o (once-place x s (or_right (same_id (v.id y) (v.id x)) (stands v (v.id x) s) h) o.1)

  -- ---- an order deleted

  stands-cond : (id : List ℕ) (y : A) (s r : List A) (t : Bool) → stands v id (y ∷ s) ≡ false → stands v id r ≡ false → stands v id (cond t s (y ∷ r)) ≡ false
  unfolding stands
  stands-cond id y s r true h k = or_right (same_id (v.id y) id) (stands v id s) h
  stands-cond id y s r false h k = or-none (same_id (v.id y) id) (stands v id r) (or_left (same_id (v.id y) id) (stands v id s) h) k

  stands-without : (id gone : List ℕ) (s : List A) → stands v id s ≡ false → stands v id (without v gone s) ≡ false
  unfolding stands without
  stands-without id gone [] h = refl
  stands-without id gone (y ∷ s) h =
      stands-cond id y s (without v gone s) (same_id (v.id y) gone) h (stands-without id gone s (or_right (same_id (v.id y) id) (stands v id s) h))

  either-once : (t : Bool) (s r : List A) → IdsOnce v s → IdsOnce v r → IdsOnce v (cond t s r)
  either-once true s r o q = o
  either-once false s r o q = q

  pub once-without : (gone : List ℕ) (s : List A) → IdsOnce v s → IdsOnce v (without v gone s)
  unfolding IdsOnce without
  once-without gone [] o = tt
  once-without gone (y ∷ s) o =
      either-once (same_id (v.id y) gone) s (y ∷ without v gone s) o.1 (stands-without (v.id y) gone s o.0, once-without gone s o.1)

  -- ---- the cut

  pub all-prices : (P : A → Type 0) (ps : List ℕ) (s : List A) → All P s → All P (at_prices v ps s)
  unfolding All at_prices
  all-prices P ps [] a = tt
  all-prices P ps (y ∷ s) a =
      all-cond P (among (priced v y) ps) (y ∷ at_prices v ps s) (at_prices v ps s) (a.0, all-prices P ps s a.1) (all-prices P ps s a.1)

  fewer-cond : (id : List ℕ) (y : A) (s r : List A) (t : Bool) → stands v id (y ∷ s) ≡ false → stands v id r ≡ false → stands v id (cond t (y ∷ r) r) ≡ false
  unfolding stands
  fewer-cond id y s r true h k = or-none (same_id (v.id y) id) (stands v id r) (or_left (same_id (v.id y) id) (stands v id s) h) k
  fewer-cond id y s r false h k = k

  stands-prices : (id : List ℕ) (ps : List ℕ) (s : List A) → stands v id s ≡ false → stands v id (at_prices v ps s) ≡ false
  unfolding stands at_prices
  stands-prices id ps [] h = refl
  stands-prices id ps (y ∷ s) h =
      fewer-cond id y s (at_prices v ps s) (among (priced v y) ps) h (stands-prices id ps s (or_right (same_id (v.id y) id) (stands v id s) h))

  once-prices : (ps : List ℕ) (s : List A) → IdsOnce v s → IdsOnce v (at_prices v ps s)
  unfolding IdsOnce at_prices
  once-prices ps [] o = tt
  once-prices ps (y ∷ s) o =
      either-once (among (priced v y) ps) (y ∷ at_prices v ps s) (at_prices v ps s)
      (stands-prices (v.id y) ps s o.0, once-prices ps s o.1) (once-prices ps s o.1)

  pub once-cut : (depth : ℕ) (bids asks : List A) → Once v bids asks → Once v (best_prices v depth bids) (best_prices v depth asks)
  unfolding best_prices
  once-cut depth bids asks o =
      let ps : List ℕ = take depth (prices v bids) in
      let qs : List ℕ = take depth (prices v asks) in
      record {
        in_bids = once-prices ps bids o.in_bids;
        in_asks = once-prices qs asks o.in_asks;
        apart = all-prices (λ x. stands v (v.id x) (at_prices v qs asks) ≡ false) ps bids (all_map (λ x h. stands-prices (v.id x) qs asks h) bids o.apart);
      }

  -- ---- a message, where a resized order keeps its id

  module _ (same : (x y : A) → v.id (v.resized x y) ≡ v.id x) where
    changed-cond : (id : List ℕ) (x y : A) (s r : List A) (t : Bool) → stands v id r ≡ stands v id s → stands v id (cond t (v.resized y x ∷ s) (y ∷ r)) ≡ stands v id (y ∷ s)
    unfolding stands
    changed-cond id x y s r true h = ap (λ (i : List ℕ). same_id i id || stands v id s) (same y x)
    changed-cond id x y s r false h = rw h

    pub stands-changed : (id : List ℕ) (x : A) (s : List A) → stands v id (changed v x s) ≡ stands v id s
    unfolding stands changed
    stands-changed id x [] = refl
    stands-changed id x (y ∷ s) = changed-cond id x y s (changed v x s) (same_id (v.id y) (v.id x)) (stands-changed id x s)

    pub once-changed : (x : A) (s : List A) → IdsOnce v s → IdsOnce v (changed v x s)
    unfolding IdsOnce changed
    once-changed x [] o = tt
    once-changed x (y ∷ s) o =
        either-once (same_id (v.id y) (v.id x)) (v.resized y x ∷ s) (y ∷ changed v x s)
        (ap (λ (i : List ℕ). stands v i s) (same y x) ∙ o.0, o.1) (stands-changed (v.id y) x s ∙ o.0, once-changed x s o.1)

    module _ (side : Side) (other : List A) where
      pub once-entry : (e : Entry A) (s : List A) → clashes v other e s ≡ false → IdsOnce v s → IdsOnce v (apply v side e s)
      unfolding clashes apply
      once-entry (adds x) s h o = once-place side x s (or_left (stands v (v.id x) s) (stands v (v.id x) other) h) o
      once-entry (modifies x) s h o = once-changed x s o
      once-entry (deletes x) s h o = once-without (v.id x) s o

      pub apart-entry : (e : Entry A) (s : List A) → clashes v other e s ≡ false → Apart v s other → Apart v (apply v side e s) other
      unfolding clashes apply
      apart-entry (adds x) s h a =
          all-place v side (λ y. stands v (v.id y) other ≡ false) x s (or_right (stands v (v.id x) s) (stands v (v.id x) other) h) a
      apart-entry (modifies x) s h a =
          all_changed v (Other other) (Other other) x s (λ y k q. ap (λ (i : List ℕ). stands v i other) (same y x) ∙ k) a a
      apart-entry (deletes x) s h a = all_without v (λ y. stands v (v.id y) other ≡ false) (v.id x) s a

      -- what holds of the side after entries that did not clash
      After : Outcome A → Type 0
      After (taken t) = IdsOnce v t × Apart v t other
      After clash = Unit

      after-cond : (t : Bool) (r : Outcome A) → (t ≡ false → After r) → After (cond t clash r)
      unfolding After
      after-cond true r f = tt
      after-cond false r f = f refl

      once-all : (es : List (Entry A)) (s : List A) → IdsOnce v s → Apart v s other → After (apply_all v side other es s)
      unfolding apply_all After
      once-all [] s o a = (o, a)
      once-all (e ∷ es) s o a =
          after-cond (clashes v other e s) (apply_all v side other es (apply v side e s))
          (λ h. once-all es (apply v side e s) (once-entry e s h o) (apart-entry e s h a))

    -- what holds of both sides
    BothOnce : Sides A → Type 0
    BothOnce (both bids asks) = Once v bids asks
    BothOnce clashed = Unit

    asks-once : (bids : List A) → IdsOnce v bids → (r : Outcome A) → After Asks bids r → BothOnce (beside v bids r)
    unfolding After BothOnce beside
    asks-once bids o (taken asks) a = record { in_bids = o; in_asks = a.0; apart = apart-swap asks bids a.1 }
    asks-once bids o clash a = tt

    bids-once : (es : List (Entry A)) (asks : List A) → IdsOnce v asks → (r : Outcome A) → After Bids asks r → BothOnce (then_asks v es asks r)
    unfolding After BothOnce then_asks
    bids-once es asks o (taken bids) a =
        asks-once bids a.0 (apply_all v Asks bids es asks) (once-all Asks bids es asks o (apart-swap bids asks a.1))
    bids-once es asks o clash a = tt

    cut-once : (depth : ℕ) (r : Sides A) → BothOnce r → BothOnce (cut_both v depth r)
    unfolding BothOnce cut_both
    cut-once depth (both bids asks) o = once-cut depth bids asks o
    cut-once depth clashed o = tt

    -- after an update that is taken no id stands for two orders, on either side
    pub update-once : (depth : ℕ) (bes aes : List (Entry A)) (bids asks : List A) → Once v bids asks
        → (bids' asks' : List A) → after_update v depth bes aes bids asks ≡ both bids' asks' → Once v bids' asks'
    unfolding BothOnce after_update apply_both
    update-once depth bes aes bids asks o bids' asks' e =
        subst BothOnce e
        (cut-once depth (then_asks v aes asks (apply_all v Bids asks bes bids))
        (bids-once aes asks o.in_asks (apply_all v Bids asks bes bids) (once-all Bids asks bes bids o.in_bids o.apart)))
