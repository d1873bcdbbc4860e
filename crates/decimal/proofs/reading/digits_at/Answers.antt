-- `digits_at` meets its contract: what is left to read from a turn on gives what the whole gives.
use Rattle.std.proofs.Common.{◌≡◌, ℕ, suc, ◌+◌, ◌-◌, ◌*◌, ◌<◌, List, length, get_or, take, drop, sym, ap, ◌∙◌, subst, add-zero, arith}
use Rattle.decimal.specs.Digits.{leading, value_from}
use Rattle.decimal.proofs.Scan.{digit-here, digit-within, first-digit, one_left, no_digit, more-fits}
use Rattle.decimal.proofs.reading.digits_at.Invariants.{Left}
use Rattle.decimal.proofs.reading.digits_at.Goals as goal

pub returns-then-digit-gt-LAST_DIGIT : goal.returns-then-digit-gt-LAST_DIGIT
unfolding value_from
returns-then-digit-gt-LAST_DIGIT c =
    let S = c.args.s.now in
    let turn = c.loop in
    let e = turn.end in
    let none = sym (no_digit S e (c.args.most - turn.counter) (c.digit_at-digit.ensures.none c.if-digit-gt-LAST_DIGIT.true)) in
    record {
      value = ap (value_from turn.value) none ∙ turn.invariant.0;
      end = sym (add-zero e) ∙ ap (λ (w : List ℕ). e + length w) none ∙ turn.invariant.1;
    }

pub overflow_mul-value : goal.overflow_mul-value
overflow_mul-value c =
    let turn = c.loop in
    let h = more-fits turn.value (c.args.most - turn.counter) (omega arith) turn.invariant.2 in
    record { fits = omega arith }

pub overflow_add-value : goal.overflow_add-value
overflow_add-value c =
    let turn = c.loop in
    let h = more-fits turn.value (c.args.most - turn.counter) (omega arith) turn.invariant.2 in
    record { fits = omega arith }

pub overflow_add-end : goal.overflow_add-end
overflow_add-end c =
    let start = c in
    let h = digit-within start.args.s.now c.loop.end (digit-here c.digit_at-digit.ensures c.if-digit-gt-LAST_DIGIT.false) in
    omega (arith, start.well_formed)

pub loop-preserved : goal.loop-preserved
unfolding value_from
loop-preserved c =
    let S = c.args.s.now in
    let turn = c.loop in
    let e = turn.end in
    let l = c.args.most - turn.counter in
    let v = turn.value in
    let p : 0 < l = omega arith in
    let k = c.digit_at-digit.ensures in
    let small = c.if-digit-gt-LAST_DIGIT.false in
    let b = k.some small in
    let d : c.digit_at-digit.result ≡ get_or S e 0 - 48 = omega arith in
    let f = first-digit S e l (digit-here k small) p in
    let n : length (take l (leading (drop e S))) ≡ suc (length (take (l - 1) (leading (drop (e + 1) S)))) = ap length f in
    let q : e + length (take l (leading (drop e S))) ≡ e + 1 + length (take (l - 1) (leading (drop (e + 1) S))) = omega arith in
    let less : l - 1 ≡ c.args.most - (turn.counter + 1) = omega arith in
    subst (Left S c.args.at c.args.before c.args.most (v * 10 + c.digit_at-digit.result) (e + 1)) less (
      ap (λ (x : ℕ). value_from (v * 10 + x) (take (l - 1) (leading (drop (e + 1) S)))) d ∙ ap (value_from v) (sym f) ∙ turn.invariant.0,
      sym q ∙ turn.invariant.1,
      one_left v c.digit_at-digit.result l p small turn.invariant.2,
    )

pub returns : goal.returns
unfolding value_from
returns c =
    let S = c.args.s.now in
    let turn = c.loop in
    let e = turn.end in
    let z : 0 ≡ (c.args.most - turn.counter) = omega arith in
    let none = ap (λ (n : ℕ). take n (leading (drop e S))) z in
    record {
      value = ap (value_from turn.value) none ∙ turn.invariant.0;
      end = sym (add-zero e) ∙ ap (λ (w : List ℕ). e + length w) none ∙ turn.invariant.1;
    }
