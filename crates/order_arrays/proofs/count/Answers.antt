-- `count` meets its contract: one more of its side, and the first bad texts as `or_else` has them.
use Prim.Native.Nat.{ℕ, ◌+◌}
use mathlib.Core.Path.{◌≡◌, refl, sym, ap, ◌∙◌}
use native.Mathlib.Omega.{arith}
use Rattle.edit.specs.declared.Side.{Side}
use Rattle.edit.specs.declared.Side.TheVariants.{Bids, Asks}
use Rattle.entries.specs.Tally.{one_bid, one_ask}
use Rattle.order_arrays.specs.Tally.{counted}
use Rattle.order_arrays.specs.declared.OrderTally.{OrderTally}
use Rattle.order_arrays.proofs.count.Goals as goal
use Rattle.order_arrays.proofs.count.Goals.{Joined-side, in-Bids, in-Asks}

module _ (t : OrderTally) where
  abbrev counts : ℕ → ℕ → OrderTally
  counts bids asks = record { bids = bids; asks = asks; broken_at = t.broken_at; strict_at = t.strict_at; events = t.events; well_formed = t.well_formed }

  abbrev more : Side → OrderTally
  more side = counts (t.bids + one_bid side) (t.asks + one_ask side)

  one-bid : counts (t.bids + 1) t.asks ≡ more Bids
  one-bid = let n : t.asks ≡ t.asks + 0 = omega arith in ap (counts (t.bids + 1)) n

  one-ask : counts t.bids (t.asks + 1) ≡ more Asks
  one-ask = let n : t.bids ≡ t.bids + 0 = omega arith in ap (λ (k : ℕ). counts k (t.asks + 1)) n

one-more : (c : Joined-side) → c.match-side.tally ≡ more c.args.before c.args.side
one-more c =
    let t = c.args.before in
    elim c.match-side.branch [
      | in-Bids w ↦ w.tally-is ∙ one-bid t ∙ ap (more t) (sym w.in-Bids.is)
      | in-Asks w ↦ w.tally-is ∙ one-ask t ∙ ap (more t) (sym w.in-Asks.is)
    ]

pub returns-then-before : goal.returns-then-before
unfolding counted
returns-then-before c = rw (one-more (goal.at.returns-then-before c).Joined-side, c.or_else.ensures, c.or_else-2.ensures, c.if-before.true) refl

pub returns-else-before : goal.returns-else-before
unfolding counted
returns-else-before c = rw (one-more (goal.at.returns-else-before c).Joined-side, c.or_else.ensures, c.or_else-2.ensures, c.if-before.false) refl
