-- `pop` meets its contract: each part of the text gives up its last byte.
use Rattle.std.proofs.Common.{◌≡◌, ℕ, ◌/◌, [], ◌∷◌, ◌++◌, sym, refl, ap, ◌∙◌, ap₂}
use Rattle.decimal.specs.Tail.{remaining}
use Rattle.decimal.specs.declared.Tail.{Tail}
use Rattle.decimal.proofs.Text.{tail-past, tail-point, tail-fraction, tail-units, tail_none, tail-higher}
use Rattle.decimal.proofs.Tail.pop.Goals as goal

pub returns-then-self-gt9 : goal.returns-then-self-gt9
returns-then-self-gt9 c =
    let t = c.args.self.now in
    tail-past t c.if-self-gt9.true
    ∙ ap (λ (b : ℕ). remaining (record { digits = t.digits; decimals = t.decimals; past = t.past / 10; part = t.part }) ++ (b ∷ [])) (sym c.last_past-byte.ensures)

pub returns-then-self-eq0 : goal.returns-then-self-eq0
returns-then-self-eq0 c = tail-point c.args.self.now c.in-Fraction.is c.if-self-gt9.false c.if-self-eq0.true

pub returns-then-self-eq0-2 : goal.returns-then-self-eq0-2
returns-then-self-eq0-2 c = (tail_none c.args.self.now c.in-Higher.is c.if-self-gt9.false c.if-self-eq0-2.true, refl)

-- a digit taken off, which leaves the tail that stands before it
off : (t : Tail) {u v : Tail} {b n : ℕ} → b ≡ n → u ≡ v → remaining t ≡ remaining v ++ (n ∷ []) → remaining t ≡ remaining u ++ (b ∷ [])
off t e r h = h ∙ ap₂ (λ (x : Tail) (y : ℕ). remaining x ++ (y ∷ [])) (sym r) (sym e)

pub returns-else-self-eq0 : goal.returns-else-self-eq0
returns-else-self-eq0 c =
    let t = c.args.self.now in
    off t c.pop_digit.ensures.byte c.pop_digit.ensures.others (tail-fraction t c.in-Fraction.is c.if-self-gt9.false c.if-self-eq0.false)

pub returns-in-Units : goal.returns-in-Units
returns-in-Units c =
    let t = c.args.self.now in
    off t c.pop_digit-in-Units.ensures.byte c.pop_digit-in-Units.ensures.others (tail-units t c.in-Units.is c.if-self-gt9.false)

pub returns-else-self-eq0-2 : goal.returns-else-self-eq0-2
returns-else-self-eq0-2 c =
    let t = c.args.self.now in
    off t c.pop_digit-in-Higher.ensures.byte c.pop_digit-in-Higher.ensures.others (tail-higher t c.in-Higher.is c.if-self-gt9.false c.if-self-eq0-2.false)
