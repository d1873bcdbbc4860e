-- Levels seen in another way that keeps their prices: entries do the same to them. So what holds of the code's levels holds of those shown.
-- Assumes nothing.
use Prim.Native.Nat.{ℕ, zero, suc}
use mathlib.Core.Path.{◌≡◌, refl, sym, ap, ◌∙◌}
use mathlib.Core.Bool.{Bool, true, false, cond}
use mathlib.Core.List.{List, [], ◌∷◌, map}
use lib.ListN.{length, take, length-map}
use Rattle.decimal.specs.Decimal.{Number, value}
use Rattle.edit.specs.declared.Side.{Side}
use Rattle.level.specs.declared.Level.{Level}
use Rattle.edit.specs.Edit.{shown_price}
use Rattle.level.specs.Words.{level_price, shown}
use Rattle.edit.specs.Edit.{Edit, sets, removes}
use Rattle.level.specs.Side.{without, apply, apply_all, place, ranked, crosses, standing}
use Rattle.level.specs.Ranked.{after_message, replaces, replaced, map_edit}
use Rattle.edit.specs.Edit.{named}

map-take : {A B : Type 0} (f : A → B) (n : ℕ) (s : List A) → map f (take n s) ≡ take n (map f s)
map-take f zero s = refl
map-take f (suc n) [] = refl
map-take f (suc n) (x ∷ s) = ap (λ (r : List _). f x ∷ r) (map-take f n s)

map-cond : {A B : Type 0} (f : A → B) (t : Bool) (s r : List A) → map f (cond t s r) ≡ cond t (map f s) (map f r)
map-cond f true s r = refl
map-cond f false s r = refl

module _ {A B : Type 0} (price_a : A → Number) (price_b : B → Number) (f : A → B) (same : (x : A) → price_b (f x) ≡ price_a x) where
  pub map-named : (e : Edit A) → named price_b (map_edit f e) ≡ named price_a e
  unfolding named map_edit
  map-named (sets x) = same x
  map-named (removes p) = refl

  pub map-without : (v : ℕ) (s : List A) → map f (without price_a v s) ≡ without price_b v (map f s)
  unfolding without
  map-without v [] = refl
  map-without v (x ∷ s) = rw (same x, map-cond, map-without v s)

  pub map_apply : (e : Edit A) (s : List A) → map f (apply price_a e s) ≡ apply price_b (map_edit f e) (map f s)
  unfolding apply map_edit
  map_apply (sets x) s = rw (same x, map-without (value (price_a x)) s)
  map_apply (removes p) s = map-without (value p) s

  pub map-apply_all : (es : List (Edit A)) (s : List A) → map f (apply_all price_a es s) ≡ apply_all price_b (map (map_edit f) es) (map f s)
  unfolding apply_all
  map-apply_all [] s = refl
  map-apply_all (e ∷ es) s =
      map-apply_all es (apply price_a e s) ∙ ap (apply_all price_b (map (map_edit f) es)) (map_apply e s)

  pub map-place : (side : Side) (x : A) (s : List A) → map f (place price_a side x s) ≡ place price_b side (f x) (map f s)
  unfolding place
  map-place side x [] = refl
  map-place side x (y ∷ s) = rw (same x, same y, map-cond, map-place side x s)

  pub map-ranked : (side : Side) (s : List A) → map f (ranked price_a side s) ≡ ranked price_b side (map f s)
  unfolding ranked
  map-ranked side [] = refl
  map-ranked side (x ∷ s) = map-place side x (ranked price_a side s) ∙ ap (place price_b side (f x)) (map-ranked side s)

  pub map-after_message : (side : Side) (depth : ℕ) (es : List (Edit A)) (s : List A)
      → map f (after_message price_a side depth es s) ≡ after_message price_b side depth (map (map_edit f) es) (map f s)
  unfolding after_message
  map-after_message side depth es s =
      map-take f depth (ranked price_a side (apply_all price_a es s))
      ∙ ap (take depth) (map-ranked side (apply_all price_a es s) ∙ ap (ranked price_b side) (map-apply_all es s))

  -- the number of levels before the cut
  pub map-count : (es : List (Edit A)) (s : List A) → length (apply_all price_b (map (map_edit f) es) (map f s)) ≡ length (apply_all price_a es s)
  map-count es s = ap length (sym (map-apply_all es s)) ∙ length-map (apply_all price_a es s) f

  pub map-standing : (v : ℕ) (s : List A) → standing price_b v (map f s) ≡ standing price_a v s
  unfolding standing
  map-standing v [] = refl
  map-standing v (x ∷ s) = rw (same x, map-standing v s)

  map-meets : (e : Edit A) (s : List A) → replaces price_b (map_edit f e) (map f s) ≡ replaces price_a e s
  unfolding replaces map_edit
  map-meets (sets x) s = rw (same x, map-standing (value (price_a x)) s)
  map-meets (removes p) s = refl

  pub map-met : (es : List (Edit A)) (s : List A) → replaced price_b (map (map_edit f) es) (map f s) ≡ replaced price_a es s
  unfolding replaced
  map-met [] s = refl
  map-met (e ∷ es) s = rw (map-meets e s, ← map_apply e s, map-met es (apply price_a e s))

  pub map-crosses : (bids asks : List A) → crosses price_b (map f bids) (map f asks) ≡ crosses price_a bids asks
  unfolding crosses
  map-crosses [] asks = refl
  map-crosses (bid ∷ bids) [] = refl
  map-crosses (bid ∷ bids) (ask ∷ asks) = rw (same bid, same ask)

-- the code's levels as they are shown
pub shown-price : (level : Level) → shown_price (shown level) ≡ level_price level
unfolding shown
shown-price level = refl

pub shown-after_message : (side : Side) (depth : ℕ) (es : List (Edit Level)) (s : List Level)
    → map shown (after_message level_price side depth es s) ≡ after_message shown_price side depth (map (map_edit shown) es) (map shown s)
shown-after_message = map-after_message level_price shown_price shown shown-price

pub shown-count : (es : List (Edit Level)) (s : List Level) → length (apply_all shown_price (map (map_edit shown) es) (map shown s)) ≡ length (apply_all level_price es s)
shown-count = map-count level_price shown_price shown shown-price

pub shown-met : (es : List (Edit Level)) (s : List Level) → replaced shown_price (map (map_edit shown) es) (map shown s) ≡ replaced level_price es s
shown-met = map-met level_price shown_price shown shown-price

pub shown-crosses : (bids asks : List Level) → crosses shown_price (map shown bids) (map shown asks) ≡ crosses level_price bids asks
shown-crosses = map-crosses level_price shown_price shown shown-price
