-- `event_in` meets its contract: 0 stands for an order added, 1 for one modified.
use Rattle.std.proofs.Common.{◌≡◌, ℕ, zero, suc, refl, sym, ap, arith}
use Rattle.order_edit.specs.declared.Event.TheVariants.{Delete}
use Rattle.order_edit.specs.Buffer.{event_in}
use Rattle.order_edit.proofs.event_in.Goals as goal

other : (n : ℕ) → (n ≡ 0 → ⊥) → (n ≡ 1 → ⊥) → Delete ≡ event_in n
unfolding event_in
other zero h k = absurd (h refl)
other (suc zero) h k = absurd (k refl)
other (suc (suc n)) h k = refl

pub returns-in-0 : goal.returns-in-0
unfolding event_in
returns-in-0 c = sym (ap event_in c.in-0.is)

pub returns-in-1 : goal.returns-in-1
unfolding event_in
returns-in-1 c = sym (ap event_in c.in-1.is)

pub returns-in_default : goal.returns-in_default
returns-in_default c = other c.args.n (λ z. omega arith) (λ o. omega arith)
