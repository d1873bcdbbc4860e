-- `with_entry` meets its contract: one more of its side, and the first bad entries as `earliest` has them.
use Prim.Native.Nat.{ℕ, ◌+◌}
use mathlib.Core.Path.{◌≡◌, refl, sym, ap, ◌∙◌}
use native.Mathlib.Omega.{arith}
use Rattle.edit.specs.declared.Side.{Side}
use Rattle.edit.specs.declared.Side.TheVariants.{Bids, Asks}
use Rattle.entries.specs.Tally.{one_bid, one_ask, with_entry}
use Rattle.entries.specs.declared.Tally.{Tally}
use Rattle.entries.proofs.with_entry.Goals as goal
use Rattle.entries.proofs.with_entry.Goals.{in-Bids, in-Asks}

module _ (t : Tally) where
  abbrev counts : ℕ → ℕ → Tally
  counts bids asks = record { bids = bids; asks = asks; broken_at = t.broken_at; strict_at = t.strict_at; well_formed = t.well_formed }

  abbrev more : Side → Tally
  more side = counts (t.bids + one_bid side) (t.asks + one_ask side)

  one-bid : counts (t.bids + 1) t.asks ≡ more Bids
  one-bid = let n : t.asks ≡ t.asks + 0 = omega arith in ap (counts (t.bids + 1)) n

  one-ask : counts t.bids (t.asks + 1) ≡ more Asks
  one-ask = let n : t.bids ≡ t.bids + 0 = omega arith in ap (λ (k : ℕ). counts k (t.asks + 1)) n

pub returns : goal.returns
unfolding with_entry
returns c =
    let a = c.args in
    let t = a.before in
    let counted : c.match-side.tally ≡ more t a.side = elim c.match-side.branch [
      | in-Bids w ↦ w.tally-is ∙ one-bid t ∙ ap (more t) (sym w.in-Bids.is)
      | in-Asks w ↦ w.tally-is ∙ one-ask t ∙ ap (more t) (sym w.in-Asks.is)
    ] in
    rw (counted, c.earliest.ensures, c.earliest-2.ensures) refl
