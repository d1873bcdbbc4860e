-- `power` meets its contract: each arm is the power that its key names.
use Rattle.decimal.proofs.ByValue.{last_arm}
use Rattle.std.proofs.Common.{ℕ, ◌^◌, sym, ap}
use Rattle.decimal.proofs.power.Goals as goal

pub returns-in-0 : goal.returns-in-0
returns-in-0 c = sym (ap (λ (n : ℕ). 10 ^ n) c.in-0.is)

pub returns-in-1 : goal.returns-in-1
returns-in-1 c = sym (ap (λ (n : ℕ). 10 ^ n) c.in-1.is)

pub returns-in-2 : goal.returns-in-2
returns-in-2 c = sym (ap (λ (n : ℕ). 10 ^ n) c.in-2.is)

pub returns-in-3 : goal.returns-in-3
returns-in-3 c = sym (ap (λ (n : ℕ). 10 ^ n) c.in-3.is)

pub returns-in-4 : goal.returns-in-4
returns-in-4 c = sym (ap (λ (n : ℕ). 10 ^ n) c.in-4.is)

pub returns-in-5 : goal.returns-in-5
returns-in-5 c = sym (ap (λ (n : ℕ). 10 ^ n) c.in-5.is)

pub returns-in-6 : goal.returns-in-6
returns-in-6 c = sym (ap (λ (n : ℕ). 10 ^ n) c.in-6.is)

pub returns-in-7 : goal.returns-in-7
returns-in-7 c = sym (ap (λ (n : ℕ). 10 ^ n) c.in-7.is)

pub returns-in-8 : goal.returns-in-8
returns-in-8 c = sym (ap (λ (n : ℕ). 10 ^ n) c.in-8.is)

pub returns-in_default : goal.returns-in_default
returns-in_default c = ap (λ (n : ℕ). 10 ^ n) (last_arm 9 c.args.k c.requires c.in_default.in_default-own.rest)
