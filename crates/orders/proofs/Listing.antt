-- A snapshot is an update that adds all of its orders to an empty book: it clashes exactly where an id stands twice, on either side. Assumes nothing.
use Prim.Native.Nat.{ℕ}
use mathlib.Core.Path.{◌≡◌, refl, sym, ap, ◌∙◌}
use mathlib.Core.Bool.{Bool, true, false, ◌||◌, cond, or-true, or-false}
use mathlib.Core.List.{List, [], ◌∷◌, ◌++◌, map}
use Rattle.edit.specs.declared.Side.{Side}
use Rattle.edit.specs.declared.Side.TheVariants.{Bids, Asks}
use Rattle.level.specs.Ranked.{All}
use Rattle.order_edit.specs.Ids.{same_id}
use Rattle.orders.specs.Orders.{View, Entry, adds, Outcome, taken, clash, both, clashed, stands, place, apply, clashes, apply_all, beside, then_asks, apply_both, cut_both, after_update, id_twice, snapshot_repeats, place_all, after_snapshot, IdsOnce, KeepsOnce, plain}
use Rattle.order_edit.proofs.Ids.{same_id-swap}
use Rattle.orders.proofs.Once.{stands-place, update-once}

-- ---- truth values

or-four : (a b c d : Bool) → (a || b || (c || d)) ≡ (a || c || (b || d))
or-four true b c d = refl
or-four false true true d = refl
or-four false true false d = refl
or-four false false true d = refl
or-four false false false d = refl

or_turn : (a b c : Bool) → (a || (b || c)) ≡ (b || a || c)
or_turn true true c = refl
or_turn true false c = refl
or_turn false true c = refl
or_turn false false c = refl

or-adds : (a b c h i k : Bool) → (a || b || (i || (c || h || k))) ≡ (c || i || (a || h || (b || k)))
or-adds true b c h i k = sym (or-true (c || i))
or-adds false true c h i k = sym (ap (λ (t : Bool). c || i || t) (or-true h) ∙ or-true (c || i))
or-adds false false true h i k = or-true i
or-adds false false false h true k = refl
or-adds false false false h false k = refl

or-joined : (c d i j h : Bool) → (c || d || (i || (j || h))) ≡ (c || i || (j || (d || h)))
or-joined true d i j h = refl
or-joined false true true j h = refl
or-joined false true false true h = refl
or-joined false true false false h = refl
or-joined false false i j h = refl

cond-or : {A : Type 0} (s t : Bool) (x y : A) → cond s x (cond t x y) ≡ cond (s || t) x y
cond-or true t x y = refl
cond-or false t x y = refl

module _ {A : Type 0} (v : View A) where
  -- some order of these has an id that stands on the side
  unfoldable hits : List A → List A → Bool
  hits [] s = false
  hits (x ∷ xs) s = stands v (v.id x) s || hits xs s

  hits-none : (xs : List A) → hits xs [] ≡ false
  unfolding hits stands
  hits-none [] = refl
  hits-none (x ∷ xs) = hits-none xs

  hits-cons : (xs : List A) (y : A) (s : List A) → hits xs (y ∷ s) ≡ (stands v (v.id y) xs || hits xs s)
  unfolding hits stands
  hits-cons [] y s = refl
  hits-cons (x ∷ xs) y s =
      ap (λ (t : Bool). same_id (v.id y) (v.id x) || stands v (v.id x) s || t) (hits-cons xs y s)
      ∙ ap (λ (t : Bool). t || stands v (v.id x) s || (stands v (v.id y) xs || hits xs s)) (same_id-swap (v.id y) (v.id x))
      ∙ or-four (same_id (v.id x) (v.id y)) (stands v (v.id x) s) (stands v (v.id y) xs) (hits xs s)

  hits-swap : (xs s : List A) → hits xs s ≡ hits s xs
  unfolding hits
  hits-swap [] s = sym (hits-none s)
  hits-swap (x ∷ xs) s = ap (λ (t : Bool). stands v (v.id x) s || t) (hits-swap xs s) ∙ sym (hits-cons s x xs)

  hits-place : (side : Side) (xs : List A) (y : A) (s : List A) → hits xs (place v side y s) ≡ (stands v (v.id y) xs || hits xs s)
  unfolding hits stands
  hits-place side [] y s = refl
  hits-place side (x ∷ xs) y s =
      ap (λ (t : Bool). t || hits xs (place v side y s)) (stands-place v side (v.id x) y s)
      ∙ ap (λ (t : Bool). same_id (v.id y) (v.id x) || stands v (v.id x) s || t) (hits-place side xs y s)
      ∙ ap (λ (t : Bool). t || stands v (v.id x) s || (stands v (v.id y) xs || hits xs s)) (same_id-swap (v.id y) (v.id x))
      ∙ or-four (same_id (v.id x) (v.id y)) (stands v (v.id x) s) (stands v (v.id y) xs) (hits xs s)

  hits-place_all : (side : Side) (xs ys s : List A) → hits xs (place_all v side ys s) ≡ (hits xs ys || hits xs s)
  unfolding place_all
  hits-place_all side xs [] s = ap (λ (t : Bool). t || hits xs s) (sym (hits-none xs))
  hits-place_all side xs (y ∷ ys) s =
      hits-place_all side xs ys (place v side y s)
      ∙ ap (λ (t : Bool). hits xs ys || t) (hits-place side xs y s)
      ∙ or_turn (hits xs ys) (stands v (v.id y) xs) (hits xs s)
      ∙ ap (λ (t : Bool). t || hits xs s) (sym (hits-cons xs y ys))

  -- ---- adding orders one after the other

  abbrev added : List A → List (Entry A)
  added xs = map adds xs

  adds-all : (side : Side) (other xs s : List A)
      → apply_all v side other (added xs) s ≡ cond (id_twice v xs || (hits xs s || hits xs other)) clash (taken (place_all v side xs s))
  unfolding apply_all clashes apply id_twice hits place_all
  adds-all side other [] s = refl
  adds-all side other (x ∷ xs) s =
      ap (cond (stands v (v.id x) s || stands v (v.id x) other) clash) (adds-all side other xs (place v side x s))
      ∙ cond-or (stands v (v.id x) s || stands v (v.id x) other) (id_twice v xs || (hits xs (place v side x s) || hits xs other)) clash (taken (place_all v side xs (place v side x s)))
      ∙ ap (λ (t : Bool). cond (stands v (v.id x) s || stands v (v.id x) other || (id_twice v xs || (t || hits xs other))) clash (taken (place_all v side xs (place v side x s)))) (hits-place side xs x s)
      ∙ ap (λ (t : Bool). cond t clash (taken (place_all v side xs (place v side x s))))
      (or-adds (stands v (v.id x) s) (stands v (v.id x) other) (stands v (v.id x) xs) (hits xs s) (id_twice v xs) (hits xs other))

  stands-append : (id : List ℕ) (xs ys : List A) → stands v id (xs ++ ys) ≡ (stands v id xs || stands v id ys)
  unfolding stands
  stands-append id [] ys = refl
  stands-append id (x ∷ xs) ys = rw (stands-append id xs ys) (sym (or-three (same_id (v.id x) id) (stands v id xs) (stands v id ys)))
    where
      or-three : (a b c : Bool) → (a || b || c) ≡ (a || (b || c))
      or-three true b c = refl
      or-three false b c = refl

  twice-append : (xs ys : List A) → id_twice v (xs ++ ys) ≡ (id_twice v xs || (id_twice v ys || hits xs ys))
  unfolding id_twice hits
  twice-append [] ys = sym (or-false (id_twice v ys))
  twice-append (x ∷ xs) ys =
      ap (λ (t : Bool). stands v (v.id x) (xs ++ ys) || t) (twice-append xs ys)
      ∙ ap (λ (t : Bool). t || (id_twice v xs || (id_twice v ys || hits xs ys))) (stands-append (v.id x) xs ys)
      ∙ or-joined (stands v (v.id x) xs) (stands v (v.id x) ys) (id_twice v xs) (id_twice v ys) (hits xs ys)

  -- ---- both sides

  module _ (bids asks : List A) where
    abbrev B : List A
    B = place_all v Bids bids []

    abbrev S : List A
    S = place_all v Asks asks []

    bids-added : apply_all v Bids [] (added bids) [] ≡ cond (id_twice v bids) clash (taken B)
    bids-added =
        adds-all Bids [] bids []
        ∙ ap (λ (t : Bool). cond (id_twice v bids || (t || t)) clash (taken B)) (hits-none bids)
        ∙ ap (λ (t : Bool). cond t clash (taken B)) (or-false (id_twice v bids))

    asks-added : apply_all v Asks B (added asks) [] ≡ cond (id_twice v asks || hits bids asks) clash (taken S)
    asks-added =
        adds-all Asks B asks []
        ∙ ap (λ (t : Bool). cond (id_twice v asks || (t || hits asks B)) clash (taken S)) (hits-none asks)
        ∙ ap (λ (t : Bool). cond (id_twice v asks || t) clash (taken S))
        (hits-place_all Bids asks bids [] ∙ ap (λ (t : Bool). hits asks bids || t) (hits-none asks) ∙ or-false (hits asks bids) ∙ hits-swap asks bids)

    beside-cond : (t : Bool) → beside v B (cond t clash (taken S)) ≡ cond t clashed (both B S)
    unfolding beside
    beside-cond true = refl
    beside-cond false = refl

    then-cond : (t : Bool) → then_asks v (added asks) [] (cond t clash (taken B)) ≡ cond t clashed (beside v B (apply_all v Asks B (added asks) []))
    unfolding then_asks
    then-cond true = refl
    then-cond false = refl

    both-added : apply_both v (added bids) (added asks) [] [] ≡ cond (id_twice v (bids ++ asks)) clashed (both B S)
    unfolding apply_both
    both-added =
        ap (then_asks v (added asks) []) bids-added ∙ then-cond (id_twice v bids)
        ∙ ap (λ (r : Outcome A). cond (id_twice v bids) clashed (beside v B r)) asks-added
        ∙ ap (cond (id_twice v bids) clashed) (beside-cond (id_twice v asks || hits bids asks))
        ∙ cond-or (id_twice v bids) (id_twice v asks || hits bids asks) clashed (both B S)
        ∙ ap (λ (t : Bool). cond t clashed (both B S)) (sym (twice-append bids asks))

    cut-cond : (depth : ℕ) (t : Bool) → cut_both v depth (cond t clashed (both B S)) ≡ cond t clashed (cut_both v depth (both B S))
    unfolding cut_both
    cut-cond depth true = refl
    cut-cond depth false = refl

    -- a snapshot, as an update of an empty book
    pub snapshot-adds : (depth : ℕ) → after_update v depth (added bids) (added asks) [] [] ≡ after_snapshot v depth bids asks
    unfolding after_update after_snapshot snapshot_repeats
    snapshot-adds depth = ap (cut_both v depth) both-added ∙ cut-cond depth (id_twice v (bids ++ asks))

-- ---- one id never stands for two orders, of orders as they are shown

pub ids-once : (depth : ℕ) → KeepsOnce plain depth
unfolding All IdsOnce
ids-once depth = record {
  update = λ bes aes bids asks o bids' asks' e. update-once plain (λ x y. refl) depth bes aes bids asks o bids' asks' e;
  snapshot =
      λ bids asks bids' asks' e.
      update-once plain (λ x y. refl) depth (map adds bids) (map adds asks) [] [] (record { in_bids = tt; in_asks = tt; apart = tt }) bids' asks'
      (snapshot-adds plain bids asks depth ∙ e);
}
