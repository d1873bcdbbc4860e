-- `json_tokens::is_four_hex` meets its contract: the digits are tested in order, and one that passes lies in the text, so that the next position fits.
-- Assumes nothing.
use Prim.Native.Nat.{◌+◌}
use mathlib.Core.Bool.{true}
use mathlib.Core.Path.{◌∙◌, ◌≡◌, ap, sym}
use native.Mathlib.Omega.{arith}
use Rattle.std.proofs.lemmas.Grind.{common_steps}
use Rattle.json_tokens.proofs.Laws.{in-hex}
use Rattle.text.specs.Text.{byte_at}
use Rattle.json_tokens.specs.Bytes.{hex_digit}
use Rattle.json_tokens.specs.Ends.{four_hex}
use Rattle.json_tokens.proofs.is_four_hex.Goals as goal
use Rattle.json_tokens.proofs.is_four_hex.Goals.{then-is_hex, else-is_hex, then-is_hex-2, else-is_hex-2}

pub overflow_add-i : goal.overflow_add-i
overflow_add-i c =
    let a = c.args in
    omega (arith, in-hex a.s.now a.i (ap hex_digit (sym c.byte_at.ensures) ∙ sym c.is_hex.ensures ∙ c.if-is_hex.true))

pub overflow_add-i-then-is_hex-2 : goal.overflow_add-i-then-is_hex-2
overflow_add-i-then-is_hex-2 c =
    elim c.if-is_hex.branch [
      | then-is_hex w ↦
          let h : hex_digit (byte_at c.args.s.now (c.args.i + 1)) ≡ true = cc in
          omega (arith, in-hex c.args.s.now (c.args.i + 1) h)
      | else-is_hex w ↦ absurd (cc)
    ]

pub overflow_add-i-then-is_hex-3 : goal.overflow_add-i-then-is_hex-3
overflow_add-i-then-is_hex-3 c =
    elim c.if-is_hex-2.branch [
      | then-is_hex-2 w ↦
          let h : hex_digit (byte_at c.args.s.now (c.args.i + 2)) ≡ true = cc in
          omega (arith, in-hex c.args.s.now (c.args.i + 2) h)
      | else-is_hex-2 w ↦ absurd (cc)
    ]

pub returns-then-is_hex-3 : goal.returns-then-is_hex-3
unfolding four_hex
returns-then-is_hex-3 c = grind (arith, common_steps)

pub returns-else-is_hex-3 : goal.returns-else-is_hex-3
unfolding four_hex
returns-else-is_hex-3 c = grind (arith, common_steps)
