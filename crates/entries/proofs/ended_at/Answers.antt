-- `entries::ended_at` meets its contract: it hands on the front that was found, or passes the value over.
-- Assumes nothing.
use Rattle.std.specs.Prelude.{Some, ℕ, ◌≡◌}
use mathlib.Core.Path.{sym, ap, ◌∙◌}
use native.Mathlib.Omega.{arith}
use Rattle.entries.specs.Found.{entry_place_of, row_from}
use Rattle.entries.proofs.ended_at.Goals as goal

pub returns-in_default : goal.returns-in_default
returns-in_default c = record { some = λ e z. absurd (c.in_default.not-Some e z); none = λ z. c.passed_over.ensures }

pub returns : goal.returns
unfolding entry_place_of
returns c =
    record {
      some = λ e z. let q : c.in-Some.end ≡ e = cc (sym c.in-Some.is ∙ z) in ap (λ (k : ℕ). entry_place_of k (Some (row_from c.args.at c.args.front))) q;
      none = λ z. let n : ◌≡◌ {A = ℕ} 0 1 = cc (sym c.in-Some.is ∙ z) in absurd (omega arith);
    }
