-- `json_tokens::char_end` meets its contract: the byte at i decides, and after a backslash the next one.
-- Assumes nothing.
use Prim.Native.Nat.{◌+◌}
use mathlib.Core.Path.{◌∙◌, ◌≡◌, ap, sym}
use native.Mathlib.Omega.{arith}
use Rattle.json_tokens.proofs.Laws.{in-byte, in-escaped, in-four-hex, rest-low, rest-six, rest-six-no, rest-two, rest-two-no}
use Rattle.json_tokens.proofs.Words.{in-unescaped, rest-unescaped, unescaped-low}
use Rattle.text.specs.Text.{byte_at}
use Rattle.json_tokens.specs.Bytes.{escaped}
use Rattle.json_tokens.specs.Ends.{unescaped}
use Rattle.json_tokens.proofs.char_end.Goals as goal

pub overflow_add-result : goal.overflow_add-result
overflow_add-result c =
    let a = c.args in
    let s = a.s.now in
    let i = a.i in
    let l = in-unescaped s i (ap unescaped (sym c.byte_at-c.ensures) ∙ sym c.is_unescaped.ensures ∙ c.if-is_unescaped.true) in
    omega arith

pub returns-then-is_unescaped : goal.returns-then-is_unescaped
returns-then-is_unescaped c =
    let a = c.args in
    let s = a.s.now in
    let i = a.i in
    let h = ap unescaped (sym c.byte_at-c.ensures) ∙ sym c.is_unescaped.ensures ∙ c.if-is_unescaped.true in
    let l = in-unescaped s i h in
    (omega arith, omega arith, rest-unescaped s i h)

pub returns-then-c-ne-BACKSLASH : goal.returns-then-c-ne-BACKSLASH
returns-then-c-ne-BACKSLASH c =
    let a = c.args in
    let s = a.s.now in
    let i = a.i in
    let e = c.byte_at-c.ensures in
    let h = ap unescaped (sym e) ∙ sym c.is_unescaped.ensures ∙ c.if-is_unescaped.false in
    let m : byte_at s i ≡ 92 → ⊥ = λ p. c.if-c-ne-BACKSLASH.true (e ∙ p) in
    λ n. rest-low s i n m (unescaped-low (byte_at s i) h n m)

pub overflow_add-i : goal.overflow_add-i
overflow_add-i c =
    let a = c.args in
    let s = a.s.now in
    let i = a.i in
    omega (arith, in-byte s i 92 (omega arith) (sym c.byte_at-c.ensures ∙ c.if-c-ne-BACKSLASH.false))

pub overflow_add-i-in-117-1 : goal.overflow_add-i-in-117-1
overflow_add-i-in-117-1 c =
    let a = c.args in
    let s = a.s.now in
    let i = a.i in
    let h : byte_at s (i + 1) ≡ 117 = omega arith in
    omega (arith, in-byte s (i + 1) 117 (omega arith) h)

pub overflow_add-result-in-117 : goal.overflow_add-result-in-117
overflow_add-result-in-117 c =
    let a = c.args in
    let s = a.s.now in
    let i = a.i in
    omega (arith, in-four-hex s (i + 2) (sym c.is_four_hex.ensures ∙ c.if-is_four_hex.true))

pub overflow_add-result-in_default : goal.overflow_add-result-in_default
overflow_add-result-in_default c =
    let a = c.args in
    let s = a.s.now in
    let i = a.i in
    omega (arith, in-escaped s (i + 1) (ap escaped (sym c.byte_at.ensures) ∙ sym c.is_escaped.ensures ∙ c.if-is_escaped.true))

pub returns-in-117 : goal.returns-in-117
returns-in-117 c =
    let a = c.args in
    let s = a.s.now in
    let i = a.i in
    let back = sym c.byte_at-c.ensures ∙ c.if-c-ne-BACKSLASH.false in
    let next = sym c.byte_at.ensures ∙ c.in-117.is in
    let four = sym c.is_four_hex.ensures ∙ c.if-is_four_hex.true in
    let l = in-four-hex s (i + 2) four in
    (omega arith, omega arith, rest-six s i back next four)

pub returns-in-117-2 : goal.returns-in-117-2
returns-in-117-2 c =
    let a = c.args in
    let s = a.s.now in
    let i = a.i in
    let back = sym c.byte_at-c.ensures ∙ c.if-c-ne-BACKSLASH.false in
    let next = sym c.byte_at.ensures ∙ c.in-117.is in
    λ n. rest-six-no s i back next (sym c.is_four_hex.ensures ∙ c.if-is_four_hex.false)

pub returns-in_default : goal.returns-in_default
returns-in_default c =
    let a = c.args in
    let s = a.s.now in
    let i = a.i in
    let back = sym c.byte_at-c.ensures ∙ c.if-c-ne-BACKSLASH.false in
    let d = c.byte_at.ensures in
    let other : byte_at s (i + 1) ≡ 117 → ⊥ = λ p. let h = d ∙ p in omega arith in
    let two = ap escaped (sym d) ∙ sym c.is_escaped.ensures ∙ c.if-is_escaped.true in
    let l = in-escaped s (i + 1) two in
    (omega arith, omega arith, rest-two s i back other two)

pub returns-in_default-2 : goal.returns-in_default-2
returns-in_default-2 c =
    let a = c.args in
    let s = a.s.now in
    let i = a.i in
    let back = sym c.byte_at-c.ensures ∙ c.if-c-ne-BACKSLASH.false in
    let d = c.byte_at.ensures in
    let other : byte_at s (i + 1) ≡ 117 → ⊥ = λ p. let h = d ∙ p in omega arith in
    λ n. rest-two-no s i back other (ap escaped (sym d) ∙ sym c.is_escaped.ensures ∙ c.if-is_escaped.false)
