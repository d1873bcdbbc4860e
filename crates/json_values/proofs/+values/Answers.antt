-- The cycle of calls `value_end`, `container_end` meets its contracts: each call from a value into an array or an object has one level of
-- nesting less, and the loop goes from item to item as the list in the definition does.
-- Assumes nothing.
use Rattle.std.specs.Prelude.{None, Some}
use Rattle.std.proofs.Common.{◌-◌, ◌≡◌, ◌∙◌, ap, sym, arith, suc}
use Rattle.json_tokens.proofs.Laws.{in-byte}
use Rattle.json_values.proofs.Ends.{held-empty, held-first, held-further, held-at, held-last, held-no-first, held-none, held-wrong, held_on}
use Rattle.json_values.proofs.Laws.{value-array, value_none, value-object, value-scalar, value-string}
use Rattle.json_values.specs.Json.{value}
use Rattle.json_values.specs.Ends.{close_end, container_end, held_value}
use Rattle.json_values.proofs.+values.Goals as goal
use Rattle.json_values.proofs.+values.Goals.{value_end-in_default-via-in-91+else-depth-gt0, value_end-in_default-via-in-123+else-depth-gt0-2, value_end-in_default-via-in_default-1}

pub container_end-returns-in-Some : goal.container_end-returns-in-Some
container_end-returns-in-Some t c =
    let a = c.args in
    held-empty a.container a.depth a.s.now a.at c.in-Some.empty (sym c.close_end.ensures ∙ c.in-Some.is)

pub container_end-returns-in_err-first : goal.container_end-returns-in_err-first
container_end-returns-in_err-first t c =
    let a = c.args in
    let b = c.skip_blanks.result in
    let n : close_end a.container a.s.now a.at ≡ None = sym c.close_end.ensures ∙ c.in_default.is in
    let q : held_value a.container a.s.now b ≡ None = cc c.in_err-first.was in
    let h = held-none a.container (value a.depth a.s.now) a.s.now b q in
    c.from_residual.ensures ∙ held-no-first a.container a.depth a.s.now a.at n b c.skip_blanks.ensures h

pub container_end-returns-in_err-e : goal.container_end-returns-in_err-e
container_end-returns-in_err-e t c =
    let a = c.args in
    let b = c.skip_blanks.result in
    let n : close_end a.container a.s.now a.at ≡ None = sym c.close_end.ensures ∙ c.in_default.is in
    let p : held_value a.container a.s.now b ≡ Some c.in_ok-first.first = cc c.in_ok-first.was in
    let q : value a.depth a.s.now c.in_ok-first.first ≡ None = cc c.in_err-e.was in
    let h = held-at a.container (value a.depth a.s.now) a.s.now b c.in_ok-first.first p q in
    c.from_residual-in_err-e.ensures ∙ held-no-first a.container a.depth a.s.now a.at n b c.skip_blanks.ensures h

pub container_end-loop-next-init : goal.container_end-loop-next-init
container_end-loop-next-init t c =
    let a = c.args in
    let b = c.skip_blanks.result in
    let n : close_end a.container a.s.now a.at ≡ None = sym c.close_end.ensures ∙ c.in_default.is in
    let p : held_value a.container a.s.now b ≡ Some c.in_ok-first.first = cc c.in_ok-first.was in
    let q : value a.depth a.s.now c.in_ok-first.first ≡ Some c.in_ok-e.e = cc c.in_ok-e.was in
    let h = held-at a.container (value a.depth a.s.now) a.s.now b c.in_ok-first.first p q in
    held-first a.container a.depth a.s.now a.at n b c.skip_blanks.ensures c.in_ok-e.e h

pub container_end-returns-in_err-held_value : goal.container_end-returns-in_err-held_value
container_end-returns-in_err-held_value t c =
    let a = c.args in
    let r = container_end a.container (value a.depth a.s.now) a.s.now a.at in
    let j = c.in-Some-comma_end.next in
    let q : held_value a.container a.s.now j ≡ None = cc c.in_err-held_value.was in
    let h = held-none a.container (value a.depth a.s.now) a.s.now j q in
    c.from_residual-in_err-held_value.ensures ∙ held-wrong a.container a.depth a.s.now c.loop-next.e r c.loop-next.invariant j (sym c.comma_end.ensures ∙ c.in-Some-comma_end.is) h

pub container_end-returns-in_err-e-2 : goal.container_end-returns-in_err-e-2
container_end-returns-in_err-e-2 t c =
    let a = c.args in
    let r = container_end a.container (value a.depth a.s.now) a.s.now a.at in
    let j = c.in-Some-comma_end.next in
    let v = c.in_ok-held_value.field-0 in
    let p : held_value a.container a.s.now j ≡ Some v = cc c.in_ok-held_value.was in
    let q : value a.depth a.s.now v ≡ None = cc c.in_err-e-2.was in
    let h = held-at a.container (value a.depth a.s.now) a.s.now j v p q in
    c.from_residual-in_err-e-2.ensures ∙ held-wrong a.container a.depth a.s.now c.loop-next.e r c.loop-next.invariant j (sym c.comma_end.ensures ∙ c.in-Some-comma_end.is) h

pub container_end-loop-next-smaller : goal.container_end-loop-next-smaller
container_end-loop-next-smaller t c =
    let a = c.args in
    let r = container_end a.container (value a.depth a.s.now) a.s.now a.at in
    let j = c.in-Some-comma_end.next in
    let v = c.in_ok-held_value.field-0 in
    let p : held_value a.container a.s.now j ≡ Some v = cc c.in_ok-held_value.was in
    let q : value a.depth a.s.now v ≡ Some c.in_ok-e-2.e = cc c.in_ok-e-2.was in
    let h = held-at a.container (value a.depth a.s.now) a.s.now j v p q in
    let f = held-further a.container a.depth a.s.now c.loop-next.e r c.loop-next.invariant j (sym c.comma_end.ensures ∙ c.in-Some-comma_end.is) c.in_ok-e-2.e h in
    omega arith

pub container_end-loop-next-preserved : goal.container_end-loop-next-preserved
container_end-loop-next-preserved t c =
    let a = c.args in
    let r = container_end a.container (value a.depth a.s.now) a.s.now a.at in
    let j = c.in-Some-comma_end.next in
    let v = c.in_ok-held_value.field-0 in
    let p : held_value a.container a.s.now j ≡ Some v = cc c.in_ok-held_value.was in
    let q : value a.depth a.s.now v ≡ Some c.in_ok-e-2.e = cc c.in_ok-e-2.was in
    let h = held-at a.container (value a.depth a.s.now) a.s.now j v p q in
    held_on a.container a.depth a.s.now c.loop-next.e r c.loop-next.invariant j (sym c.comma_end.ensures ∙ c.in-Some-comma_end.is) c.in_ok-e-2.e h

pub container_end-returns : goal.container_end-returns
container_end-returns t c =
    let a = c.args in
    let r = container_end a.container (value a.depth a.s.now) a.s.now a.at in
    c.close_end-2.ensures ∙ held-last a.container a.depth a.s.now c.loop-next.e r c.loop-next.invariant (sym c.comma_end.ensures ∙ c.in_default-comma_end.is)

pub value_end-overflow_add-at : goal.value_end-overflow_add-at
value_end-overflow_add-at t c =
    let a = c.args in
    omega (arith, in-byte a.s.now a.at 91 (omega arith) (sym c.byte_at.ensures ∙ c.in-91.is))

pub value_end-overflow_add-at-in-123 : goal.value_end-overflow_add-at-in-123
value_end-overflow_add-at-in-123 t c =
    let a = c.args in
    omega (arith, in-byte a.s.now a.at 123 (omega arith) (sym c.byte_at.ensures ∙ c.in-123.is))

pub value_end-returns-in-34 : goal.value_end-returns-in-34
value_end-returns-in-34 t c =
    let a = c.args in
    c.string_end.ensures ∙ sym (value-string a.s.now a.at a.depth (sym c.byte_at.ensures ∙ c.in-34.is))

pub value_end-returns-in-91 : goal.value_end-returns-in-91
value_end-returns-in-91 t c =
    let a = c.args in
    let k : a.depth ≡ suc (a.depth - 1) = omega arith in
    c.container_end.ensures ∙ sym (value-array a.s.now a.at (a.depth - 1) (sym c.byte_at.ensures ∙ c.in-91.is)) ∙ ap (λ n. value n a.s.now a.at) (sym k)

pub value_end-returns-in-123 : goal.value_end-returns-in-123
value_end-returns-in-123 t c =
    let a = c.args in
    let k : a.depth ≡ suc (a.depth - 1) = omega arith in
    c.container_end-in-123.ensures ∙ sym (value-object a.s.now a.at (a.depth - 1) (sym c.byte_at.ensures ∙ c.in-123.is)) ∙ ap (λ n. value n a.s.now a.at) (sym k)

pub value_end-returns-in_default : goal.value_end-returns-in_default
value_end-returns-in_default t c =
    let a = c.args in
    elim c.in_default.branch [
      | value_end-in_default-via-in-91+else-depth-gt0 w ↦
          let z : 0 ≡ a.depth = omega arith in
          c.scalar_end.ensures ∙ sym (value_none a.s.now a.at) ∙ ap (λ n. value n a.s.now a.at) z
      | value_end-in_default-via-in-123+else-depth-gt0-2 w ↦
          let z : 0 ≡ a.depth = omega arith in
          c.scalar_end.ensures ∙ sym (value_none a.s.now a.at) ∙ ap (λ n. value n a.s.now a.at) z
      | value_end-in_default-via-in_default-1 w ↦
          c.scalar_end.ensures ∙ sym (value-scalar a.s.now a.at a.depth (λ e. let h = c.byte_at.ensures ∙ e in omega arith) (λ e. let h = c.byte_at.ensures ∙ e in omega arith))
    ]
