use Rattle.std.proofs.Common.{◌≡◌, ℕ, ◌+◌, ◌-◌, ◌*◌, ◌^◌, ◌≤◌, List, length, take, drop}
use Rattle.decimal.specs.Digits.{leading, value_from}
use Rattle.decimal.proofs.reading.digits_at.Given as goal

-- what is left to read, `left` digits at the most, gives what the whole gives, and there is room for it
abbrev pub Left : List ℕ → ℕ → ℕ → ℕ → ℕ → ℕ → ℕ → Type 0
Left s at before most value end left =
    (value_from value (take left (leading (drop end s))) ≡ value_from before (take most (leading (drop at s))))
    × (end + length (take left (leading (drop end s))) ≡ at + length (take most (leading (drop at s))))
    × ((value + 1) * 10 ^ left ≤ 2 ^ 64)

abbrev pub invariant-loop : goal.invariant-loop
invariant-loop l = Left l.s l.at l.before l.most l.value l.end (l.most - l.counter)
