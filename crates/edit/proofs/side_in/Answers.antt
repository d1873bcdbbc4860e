-- `side_in` meets its contract: 0 stands for the bids.
use Rattle.std.proofs.Common.{◌≡◌, ℕ, zero, suc, refl, ap, sym, arith}
use Rattle.edit.specs.declared.Side.TheVariants.{Asks}
use Rattle.edit.specs.Buffer.{side_in}
use Rattle.edit.proofs.side_in.Goals as goal

other : (n : ℕ) → (n ≡ 0 → ⊥) → Asks ≡ side_in n
unfolding side_in
other zero h = absurd (h refl)
other (suc n) h = refl

pub returns-in-0 : goal.returns-in-0
unfolding side_in
returns-in-0 c = sym (ap side_in c.in-0.is)

pub returns-in_default : goal.returns-in_default
returns-in_default c = other c.args.n (λ z. omega arith)
