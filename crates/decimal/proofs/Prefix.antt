-- What the runs of digits that a reader finds say of the decimal at the front of a text. Assumes nothing.
use Rattle.std.specs.Prelude.{None, Option, Some}
use Rattle.std.proofs.Common.{◌≡◌, ℕ, suc, ◌+◌, ◌-◌, ◌*◌, ◌^◌, ◌<◌, ◌≤◌, min, Bool, true, false, ◌&&◌, eqb, ltb, List, ◌++◌, length, get_or, take, drop, sym, refl, ap, ◌∙◌, subst, ap₂, not-suc-le-zero, le_of_lt, one-mul, arith, lit<, length-drop, take-append-drop, length-take, get_or-drop, take_all, drop-drop, ltb-false, ltb-true}
use lib.ListN.{get_or-eq_default}
use Rattle.text.specs.Text.{is_digit}
use Rattle.decimal.specs.Digits.{leading, value_from, value_of}
use Rattle.decimal.specs.Decimal.{is_whole, Number, Prefix, fractional, prefix, number_of, near, max_whole, max_decimals}
use Rattle.decimal.specs.Reads.{Ran}
use Rattle.decimal.specs.declared.reading.Run.{Run}
use Rattle.decimal.proofs.Digits.{leading-digits, value-append, value-base, value-below, tens-mono}
use Rattle.decimal.proofs.Words.{number-near, number-far}
use Rattle.decimal.proofs.Scan.{past-digits, leading-drop, leading-here, leading-none, length-leading, whole-empty, whole_long, whole-zero, whole-good, prefix-refused, prefix-pointed, pointed-plain, pointed-fraction, fraction-none, fraction-long, fraction-good}

-- ---- a run of digits, `most` at the most

module _ {s : List ℕ} {at before most : ℕ} {r : Run} (ran : Ran s at before most r) where
  -- a digit past it: there are more
  pub run_past : is_digit (get_or s r.end 0) ≡ ltb most (length (leading (drop at s)))
  run_past =
      ap (λ (n : ℕ). is_digit (get_or s n 0)) ran.end
      ∙ ap is_digit (sym (get_or-drop at s (length (take most (leading (drop at s)))) 0))
      ∙ past-digits most (drop at s)

  pub run_more : is_digit (get_or s r.end 0) ≡ true → most < length (leading (drop at s))
  run_more h = ltb-true most (length (leading (drop at s))) (sym run_past ∙ h)

  pub run_none : r.end ≡ at → 0 < most → length (leading (drop at s)) ≡ 0
  run_none e p =
      let q : length (take most (leading (drop at s))) ≡ min most (length (leading (drop at s))) = length-take most (leading (drop at s)) in
      let z : r.end ≡ at + length (take most (leading (drop at s))) = ran.end in
      omega arith

  -- no digit past it: it is all of them
  module _ (h : is_digit (get_or s r.end 0) ≡ false) where
    pub run-few : length (leading (drop at s)) ≤ most
    run-few = ltb-false most (length (leading (drop at s))) (sym run_past ∙ h)

    run-all : take most (leading (drop at s)) ≡ leading (drop at s)
    run-all = take_all most (leading (drop at s)) run-few

    pub run_end : r.end ≡ at + length (leading (drop at s))
    run_end = ran.end ∙ ap (λ (w : List ℕ). at + length w) run-all

    pub run_value : r.value ≡ value_from before (leading (drop at s))
    run_value = ran.value ∙ ap (value_from before) run-all

-- ---- the whole part

-- its digits are those that the text begins with at `at`, its end is r's, and they are as a whole part is to be
pub record WholePart (s : List ℕ) (at most : ℕ) (r : Run) : Type 0 where
  pub end : r.end ≡ at + length (leading (drop at s))
  pub value : r.value ≡ value_of (leading (drop at s))
  pub some : 0 < length (leading (drop at s))
  pub few : length (leading (drop at s)) ≤ most
  pub good : is_whole most (leading (drop at s)) ≡ true

first_byte : (s : List ℕ) (at : ℕ) → 0 < length (leading (drop at s)) → get_or (leading (drop at s)) 0 0 ≡ get_or s at 0
first_byte s at p = go (is_digit (get_or s at 0)) refl
  where
    go : (b : Bool) → is_digit (get_or s at 0) ≡ b → get_or (leading (drop at s)) 0 0 ≡ get_or s at 0
    go true e = ap (λ (w : List ℕ). get_or w 0 0) (leading-here s at e)
    go false e = absurd (not-suc-le-zero (subst (λ (w : List ℕ). 0 < length w) (leading-none s at e) p))

module _ {s : List ℕ} {at most : ℕ} {r : Run} (ran : Ran s at 0 most r) (n : r.end ≡ at → ⊥) (h : is_digit (get_or s r.end 0) ≡ false) where
  many : 0 < length (leading (drop at s))
  many = let e : r.end ≡ at + length (leading (drop at s)) = run_end ran h in omega arith

  -- the reader's test for a needless zero is the definition's
  needless : (ltb 1 (r.end - at) && eqb (get_or s at 0) 48) ≡ (ltb 1 (length (leading (drop at s))) && eqb (get_or (leading (drop at s)) 0 0) 48)
  needless =
      let e : r.end ≡ at + length (leading (drop at s)) = run_end ran h in
      let q : r.end - at ≡ length (leading (drop at s)) = omega arith in
      ap₂ (λ (k b : ℕ). ltb 1 k && eqb b 48) q (sym (first_byte s at many))

  pub not-whole : (ltb 1 (r.end - at) && eqb (get_or s at 0) 48) ≡ true → is_whole most (leading (drop at s)) ≡ false
  not-whole z = whole-zero most (leading (drop at s)) (sym needless ∙ z)

  pub whole_part : (ltb 1 (r.end - at) && eqb (get_or s at 0) 48) ≡ false → WholePart s at most r
  whole_part z = record {
    end = run_end ran h;
    value = run_value ran h;
    some = many;
    few = run-few ran h;
    good = whole-good most (leading (drop at s)) many (run-few ran h) (sym needless ∙ z);
  }

  pub run-within : (at + 1 ≤ r.end) × (r.end ≤ length s)
  run-within =
      let e : r.end ≡ at + length (leading (drop at s)) = run_end ran h in
      let m : 0 < length (leading (drop at s)) = many in
      (omega arith, within)
    where
      within : r.end ≤ length s
      within =
          let l : length (leading (drop at s)) ≤ length (drop at s) = length-leading (drop at s) in
          let e : r.end ≡ at + length (leading (drop at s)) = run_end ran h in
          let m : 0 < length (leading (drop at s)) = many in
          let d : length (drop at s) ≡ length s - at = length-drop at s in
          omega arith

-- ---- the decimal

abbrev pair : ℕ → ℕ → Number
pair digits decimals = record { digits = digits; decimals = decimals }

abbrev found : Number → ℕ → Option Prefix
found n size = Some (record { number = n; size = size })

-- the digits past the ninth decimal, read after a 1, are the code that tells them
past-number : {s : List ℕ} {at : ℕ} {r : Run} → Ran s at 1 (max_decimals - near) r → (digits : ℕ) → is_digit (get_or s at 0) ≡ true → is_digit (get_or s r.end 0) ≡ false →
    number_of digits r.value ≡ pair (value_from digits (leading (drop at s))) (near + length (leading (drop at s)))
past-number {s} {at} {r} ran digits one h =
    let few : length (leading (drop at s)) ≤ max_decimals - near = run-few ran h in
    let some : length (leading (drop at s)) ≡ suc (length (leading (drop (at + 1) s))) = ap length (leading-here s at one) in
    let b : value_from 0 (leading (drop at s)) < 10 ^ length (leading (drop at s)) = value-below (leading-digits (drop at s)) in
    ap (number_of digits) (run_value ran h ∙ value-base 1 (leading (drop at s)) ∙ ap (λ (n : ℕ). n + value_from 0 (leading (drop at s))) (one-mul (10 ^ length (leading (drop at s)))))
    ∙ number-far (length (leading (drop at s))) (value_from 0 (leading (drop at s))) (omega arith) few b digits
    ∙ ap (λ (n : ℕ). pair n (near + length (leading (drop at s)))) (sym (value-base digits (leading (drop at s))))

module _ {s : List ℕ} {at : ℕ} {r : Run} where
  pub front-empty : Ran s at 0 max_whole r → r.end ≡ at → prefix (drop at s) ≡ None
  front-empty ran e = prefix-refused (drop at s) (whole-empty max_whole (leading (drop at s)) (run_none ran e (omega arith)))

  pub front_long : Ran s at 0 max_whole r → is_digit (get_or s r.end 0) ≡ true → prefix (drop at s) ≡ None
  front_long ran h = prefix-refused (drop at s) (whole_long max_whole (leading (drop at s)) (run_more ran h))

module _ {s : List ℕ} {at : ℕ} {r : Run} (w : WholePart s at max_whole r) where
  next-byte : get_or (drop (length (leading (drop at s))) (drop at s)) 0 0 ≡ get_or s r.end 0
  next-byte =
      let q : at + (length (leading (drop at s)) + 0) ≡ r.end = let e = w.end in omega arith in
      get_or-drop (length (leading (drop at s))) (drop at s) 0 0 ∙ get_or-drop at s (length (leading (drop at s)) + 0) 0 ∙ ap (λ (n : ℕ). get_or s n 0) q

  pub front-plain : (get_or s r.end 0 ≡ 46 → ⊥) →
      found (number_of r.value 0) (r.end - at) ≡ prefix (drop at s)
  front-plain h =
      let q : r.end - at ≡ length (leading (drop at s)) = let e = w.end in omega arith in
      ap (λ (n : Number). found n (r.end - at)) (number-near r.value 0 (lit< tt))
      ∙ ap₂ (λ (v n : ℕ). found (pair v 0) n) w.value q
      ∙ sym (prefix-pointed (drop at s) w.good ∙ pointed-plain (leading (drop at s)) (drop (length (leading (drop at s))) (drop at s)) (λ e. h (sym next-byte ∙ e)))

  -- with a point after the whole part: the digits after it are those from `start` on
  module _ (p : get_or s r.end 0 ≡ 46) where
    after-point : drop 1 (drop (length (leading (drop at s))) (drop at s)) ≡ drop (r.end + 1) s
    after-point =
        let q : at + (length (leading (drop at s)) + 1) ≡ r.end + 1 = let e = w.end in omega arith in
        drop-drop 1 (length (leading (drop at s))) (drop at s) ∙ drop-drop (length (leading (drop at s)) + 1) at s ∙ ap (λ (n : ℕ). drop n s) q

    with-fraction : prefix (drop at s) ≡ fractional (leading (drop at s)) (leading (drop (r.end + 1) s))
    with-fraction =
        prefix-pointed (drop at s) w.good
        ∙ pointed-fraction (leading (drop at s)) (drop (length (leading (drop at s))) (drop at s)) (next-byte ∙ p)
        ∙ ap (λ (t : List ℕ). fractional (leading (drop at s)) (leading t)) after-point

    module _ {f : Run} (ran : Ran s (r.end + 1) r.value near f) where
      pub fraction-empty : f.end ≡ r.end + 1 → prefix (drop at s) ≡ None
      fraction-empty e = with-fraction ∙ fraction-none (leading (drop at s)) (leading (drop (r.end + 1) s)) (run_none ran e (omega arith))

      whole-value : value_from r.value (leading (drop (r.end + 1) s)) ≡ value_of (leading (drop at s) ++ leading (drop (r.end + 1) s))
      whole-value =
          ap (λ (x : ℕ). value_from x (leading (drop (r.end + 1) s))) w.value
          ∙ sym (value-append 0 (leading (drop at s)) (leading (drop (r.end + 1) s)))

      pub front-fraction : (f.end ≡ r.end + 1 → ⊥) → is_digit (get_or s f.end 0) ≡ false →
          found (number_of f.value (f.end - (r.end + 1))) (f.end - at) ≡ prefix (drop at s)
      front-fraction n h =
          let e : f.end ≡ r.end + 1 + length (leading (drop (r.end + 1) s)) = run_end ran h in
          let few : length (leading (drop (r.end + 1) s)) ≤ near = run-few ran h in
          let d : f.end - (r.end + 1) ≡ length (leading (drop (r.end + 1) s)) = omega arith in
          let m : 0 < length (leading (drop (r.end + 1) s)) = omega arith in
          let k : r.end ≡ at + length (leading (drop at s)) = w.end in
          let z : f.end - at ≡ length (leading (drop at s)) + 1 + length (leading (drop (r.end + 1) s)) = omega arith in
          let v : f.value ≡ value_of (leading (drop at s) ++ leading (drop (r.end + 1) s)) = run_value ran h ∙ whole-value in
          ap (λ (x : Number). found x (f.end - at)) (number-near f.value (f.end - (r.end + 1)) (omega arith))
          ∙ ap₂ (λ (x y : ℕ). found (pair x y) (f.end - at)) v d
          ∙ ap (found (pair (value_of (leading (drop at s) ++ leading (drop (r.end + 1) s))) (length (leading (drop (r.end + 1) s))))) z
          ∙ sym (with-fraction ∙ fraction-good (leading (drop at s)) (leading (drop (r.end + 1) s)) m (omega arith))

      -- a tenth decimal follows: those past the ninth are the digits from there on
      module _ (h : is_digit (get_or s f.end 0) ≡ true) where
        near-end : f.end ≡ r.end + 1 + near
        near-end =
            let m : near < length (leading (drop (r.end + 1) s)) = run_more ran h in
            let q : length (take near (leading (drop (r.end + 1) s))) ≡ min near (length (leading (drop (r.end + 1) s))) = length-take near (leading (drop (r.end + 1) s)) in
            let e : f.end ≡ r.end + 1 + length (take near (leading (drop (r.end + 1) s))) = ran.end in
            omega arith

        others : leading (drop f.end s) ≡ drop near (leading (drop (r.end + 1) s))
        others =
            ap (λ (n : ℕ). leading (drop n s)) near-end
            ∙ ap leading (sym (drop-drop near (r.end + 1) s))
            ∙ leading-drop near (drop (r.end + 1) s) (le_of_lt (run_more ran h))

        all-value : value_from f.value (leading (drop f.end s)) ≡ value_of (leading (drop at s) ++ leading (drop (r.end + 1) s))
        all-value =
            ap₂ value_from ran.value others
            ∙ sym (value-append r.value (take near (leading (drop (r.end + 1) s))) (drop near (leading (drop (r.end + 1) s))))
            ∙ ap (value_from r.value) (take-append-drop near (leading (drop (r.end + 1) s)))
            ∙ whole-value

        all-length : near + length (leading (drop f.end s)) ≡ length (leading (drop (r.end + 1) s))
        all-length =
            let m : near < length (leading (drop (r.end + 1) s)) = run_more ran h in
            let d : length (drop near (leading (drop (r.end + 1) s))) ≡ length (leading (drop (r.end + 1) s)) - near = length-drop near (leading (drop (r.end + 1) s)) in
            let e : length (leading (drop f.end s)) ≡ length (drop near (leading (drop (r.end + 1) s))) = ap length others in
            omega arith

        module _ {m : Run} (past : Ran s f.end 1 (max_decimals - near) m) where
          pub fraction-more : is_digit (get_or s m.end 0) ≡ true → prefix (drop at s) ≡ None
          fraction-more g =
              let a : near + length (leading (drop f.end s)) ≡ length (leading (drop (r.end + 1) s)) = all-length in
              let l : max_decimals - near < length (leading (drop f.end s)) = run_more past g in
              with-fraction ∙ fraction-long (leading (drop at s)) (leading (drop (r.end + 1) s)) (omega arith)

          pub front-more : is_digit (get_or s m.end 0) ≡ false → found (number_of f.value m.value) (m.end - at) ≡ prefix (drop at s)
          front-more g =
              let a : near + length (leading (drop f.end s)) ≡ length (leading (drop (r.end + 1) s)) = all-length in
              let k : r.end ≡ at + length (leading (drop at s)) = w.end in
              let n : f.end ≡ r.end + 1 + near = near-end in
              let e : m.end ≡ f.end + length (leading (drop f.end s)) = run_end past g in
              let few : length (leading (drop f.end s)) ≤ max_decimals - near = run-few past g in
              let z : m.end - at ≡ length (leading (drop at s)) + 1 + length (leading (drop (r.end + 1) s)) = omega arith in
              ap₂ found (past-number past f.value h g ∙ ap₂ pair all-value a) z
              ∙ sym (with-fraction ∙ fraction-good (leading (drop at s)) (leading (drop (r.end + 1) s)) (omega arith) (omega arith))

    -- the byte of the point is within the text, and the whole part leaves room for the digits after it
    pub point-within : r.end < length s
    point-within = at-end (ltb r.end (length s)) refl
      where
        at-end : (b : Bool) → ltb r.end (length s) ≡ b → r.end < length s
        at-end true e = ltb-true r.end (length s) e
        at-end false e =
            let z : get_or s r.end 0 ≡ 0 = get_or-eq_default s 0 (ltb-false r.end (length s) e) in
            omega arith

  pub whole_room : (r.value + 1) * 10 ^ near ≤ 2 ^ 64
  whole_room =
      let l : length (leading (drop at s)) ≤ max_whole = w.few in
      let b : value_of (leading (drop at s)) < 10 ^ length (leading (drop at s)) = value-below (leading-digits (drop at s)) in
      let m : 10 ^ length (leading (drop at s)) ≤ 10 ^ max_whole = tens-mono (length (leading (drop at s))) max_whole l in
      let v : r.value ≡ value_of (leading (drop at s)) = w.value in
      omega arith
