-- Whether two sides are crossed, from their first levels. Assumes nothing.
use mathlib.Core.Path.{◌≡◌, refl, sym, ap, ap₂, ◌∙◌, subst}
use mathlib.Core.List.{List, [], ◌∷◌}
use mathlib.Core.Bool.{Bool, true, false, not, cond}
use Prim.Native.Nat.{ℕ}
use native.Mathlib.Omega.{arith}
use lib.Dec.{ltb, eqb}
use lib.ListN.{get_or, drop}
use lib.Seq.{drop-cons, get_or-take}
use Rattle.decimal.specs.Decimal.{value}
use Rattle.decimal.specs.Limits.{order_of, order, Within}
use Rattle.std.specs.Ordering.{is_ge}
use Rattle.std.specs.declared.cmp.Ordering.TheVariants.{Less, Equal, Greater}
use Rattle.edit.specs.declared.Side.{Side}
use Rattle.edit.specs.declared.Side.TheVariants.{Bids, Asks}
use Rattle.level.specs.Words.{level_price, levels_in, no_level}
use Rattle.level.specs.Side.{crosses}
use Rattle.level.specs.Ranked.{All}
use Rattle.level.specs.Kept.{held, Good}
use Rattle.level.specs.declared.Level.{Level}
use Rattle.level.specs.declared.Levels.{Levels}
use Rattle.level.proofs.Held.{held-length}

not_below : (x y : ℕ) → is_ge (order_of x y) ≡ not (ltb x y)
unfolding order_of
not_below x y = at (ltb x y) (eqb x y)
  where
    at : (a b : Bool) → is_ge (cond a Less (cond b Equal Greater)) ≡ not a
    at true b = refl
    at false true = refl
    at false false = refl

-- ---- a side with no level

none : (kept : Levels) → kept.count ≡ 0 → held kept ≡ []
unfolding held
none kept h = rw h

module _ (bids asks : Levels) where
  pub no-bid : bids.count ≡ 0 → false ≡ crosses level_price (held bids) (held asks)
  unfolding crosses
  no-bid h = sym (ap (λ (l : List Level). crosses level_price l (held asks)) (none bids h))

  pub no-ask : asks.count ≡ 0 → false ≡ crosses level_price (held bids) (held asks)
  unfolding crosses
  no-ask h = sym (ap (crosses level_price (held bids)) (none asks h) ∙ at (held bids))
    where
      at : (l : List Level) → crosses level_price l [] ≡ false
      at [] = refl
      at (x ∷ l) = refl

-- ---- the best level of a side that has one

abbrev pub best : Levels → Level
best kept = get_or (levels_in kept.words) 0 no_level

module _ (side : Side) (kept : Levels) (g : Good side kept) (some : kept.count ≡ 0 → ⊥) where
  first : held kept ≡ best kept ∷ drop 1 (held kept)
  unfolding held
  first =
      let l = held-length kept g.few g.room in
      drop-cons (held kept) 0 no_level (omega arith)
      ∙ ap (λ (x : Level). x ∷ drop 1 (held kept)) (get_or-take kept.count (levels_in kept.words) 0 no_level (omega arith))

  pub best-within : Within (level_price (best kept))
  unfolding All
  best-within = (subst (All (λ level. Within (level_price level))) first g.within).0

pub best-cross : (bids asks : Levels) → Good Bids bids → Good Asks asks → (bids.count ≡ 0 → ⊥) → (asks.count ≡ 0 → ⊥)
    → is_ge (order (level_price (best bids)) (level_price (best asks))) ≡ crosses level_price (held bids) (held asks)
unfolding crosses order
best-cross bids asks b a nb na =
    not_below (value (level_price (best bids))) (value (level_price (best asks)))
    ∙ sym (ap₂ (crosses level_price) (first Bids bids b nb) (first Asks asks a na))
