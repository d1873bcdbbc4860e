-- `next_entry` meets its contract: an entry that begins with two decimals in quotes has these for its price and its size, and any other is found first.
use Rattle.std.specs.Prelude.{Some}
use Prim.Native.Nat.{ℕ, ◌+◌, ◌≤◌, ◌<◌}
use mathlib.Core.Bool.{Bool, true, false, true≢false, ◌||◌}
use mathlib.Core.Path.{◌≡◌, refl, sym, ap, ◌∙◌, subst}
use native.Mathlib.Omega.{arith}
use lib.ListN.{length}
use Rattle.decimal.specs.Decimal.{number, read, is_zero}
use Rattle.decimal.proofs.RoundTrip.{read-within}
use Rattle.json_values.specs.Names.{inner}
use Rattle.entries.specs.Found.{entry_place_of, price_span, size_span, entry_place_at}
use Rattle.entries.specs.Tally.{told_not}
use Rattle.entries.specs.Decimals.{TwoDecimals}
use Rattle.entries.specs.declared.EntryPlace.{EntryPlace}
use Rattle.entries.proofs.Found.{found-broken, found-laid, found-past}
use Rattle.entries.proofs.Decimals.{decimals-formed, decimals-end, price-reads, size-reads, bad-by, price-by, size-by}
use Rattle.entries.proofs.Counting.{counted-entry, counted-other, counted-found}
use Rattle.entries.proofs.next_entry.Goals as goal
use Rattle.entries.proofs.next_entry.Goals.{In-Some-entry_end, then-broken, else-broken}

or-true : {a : Bool} (b : Bool) → a ≡ true → (a || b) ≡ true
or-true b h = rw h

or-next : {a b : Bool} → a ≡ false → (a || b) ≡ b
or-next h = rw h

or-false : (a : Bool) → a ≡ (a || false)
or-false true = refl
or-false false = refl

-- two decimals, and the end of the entry
module _ (c : In-Some-entry_end) where
  abbrev found : EntryPlace
  found = entry_place_at c.args.form c.args.depth c.args.s.now c.args.at

  two : TwoDecimals c.args.s.now c.args.at c.in-Some.front
  two = c.in-Some.ensures

  ends : found.end ≡ c.in-Some-entry_end.end
  ends = decimals-end c.args.form c.args.depth c.args.s.now c.args.at c.in-Some.front two c.entry_end.result c.entry_end.ensures c.in-Some-entry_end.end c.in-Some-entry_end.is

  formed : found.well_formed ≡ true
  formed = decimals-formed c.args.form c.args.depth c.args.s.now c.args.at c.in-Some.front two c.entry_end.result c.entry_end.ensures c.in-Some-entry_end.end c.in-Some-entry_end.is

  price : read (inner c.args.s.now (price_span found)) ≡ Some (number c.in-Some.front.price)
  price = price-reads c.args.form c.args.depth c.args.s.now c.args.at c.in-Some.front two c.entry_end.result c.entry_end.ensures c.in-Some-entry_end.end c.in-Some-entry_end.is

  size : read (inner c.args.s.now (size_span found)) ≡ Some (number c.in-Some.front.size)
  size = size-reads c.args.form c.args.depth c.args.s.now c.args.at c.in-Some.front two c.entry_end.result c.entry_end.ensures c.in-Some-entry_end.end c.in-Some-entry_end.is

  past : (c.args.at < c.in-Some-entry_end.end) × (c.in-Some-entry_end.end ≤ length c.args.s.now)
  unfolding entry_place_of
  past =
      let a = c.args in
      subst (λ (n : ℕ). (a.at < n) × (n ≤ length a.s.now)) ends
      (found-past a.form a.depth a.s.now a.at found refl
      (λ z. absurd (true≢false (sym formed ∙ ap (λ (x : EntryPlace). x.well_formed) (found-broken a.form a.depth a.s.now a.at found refl z)))))

pub overflow_add-before : goal.overflow_add-before
overflow_add-before c = let p = past (goal.at.overflow_add-before c).In-Some-entry_end in let few = c.requires in record { fits = omega arith }

pub put-requires : goal.put-requires
put-requires c =
    let a = c.args in
    let m = (goal.at.put-requires c).In-Some-entry_end in
    (c.requires.3, read-within (inner a.s.now (price_span (found m))) _ (price m), read-within (inner a.s.now (size_span (found m))) _ (size m))

pub overflow_add-base : goal.overflow_add-base
overflow_add-base c = let p = past (goal.at.overflow_add-base c).In-Some-entry_end in let few = c.requires in record { fits = omega arith }

pub with_entry-tally-requires : goal.with_entry-tally-requires
with_entry-tally-requires c = let p = past (goal.at.with_entry-tally-requires c).In-Some-entry_end in let few = c.requires in omega arith

pub returns-in-Some-entry_end : goal.returns-in-Some-entry_end
returns-in-Some-entry_end c =
    let a = c.args in
    let m = (goal.at.returns-in-Some-entry_end c).In-Some-entry_end in
    let d = m.in-Some.front in
    let bad = bad-by a.s.now (a.base + a.at) (found m) (Some (number d.price)) (Some (number d.size)) (sym (price m)) (sym (size m)) in
    let strict : c.if-broken.strict ≡ (is_zero (number d.price) || is_zero (number d.size)) =
    elim c.if-broken.branch [
      | then-broken w ↦ w.strict-is ∙ w.if-broken.true ∙ sym (or-true _ (sym c.is_zero-broken.ensures ∙ w.if-broken.true))
      | else-broken w ↦ w.strict-is ∙ w.is_zero-strict.ensures ∙ sym (or-next (sym c.is_zero-broken.ensures ∙ w.if-broken.false))
    ] in
    counted-entry a.s.now a.side a.before (a.base + a.at) (found m) a.buffer.now _ (formed m) (sym (ends m))
    c.is_zero-broken.result c.if-broken.strict c.with_entry-tally.ensures
    (c.is_zero-broken.ensures ∙ or-false (is_zero (number d.price)) ∙ bad false)
    (strict ∙ bad true)
    _ (number d.price) (number d.size) c.put.ensures
    (price-by a.s.now a.at (found m) (Some (number d.price)) (Some (number d.size)) (sym (price m)) (sym (size m)))
    (size-by a.s.now a.at (found m) (Some (number d.price)) (Some (number d.size)) (sym (price m)) (sym (size m)))

pub returns-then-found-eq0 : goal.returns-then-found-eq0
unfolding entry_place_of
returns-then-found-eq0 c =
    let a = c.args in
    let f = c.entry_at-found in
    let broken = found-broken a.form a.depth a.s.now a.at f.result f.ensures c.if-found-eq0.true in
    counted-found f.ensures
    (counted-other a.s.now a.side a.before (a.base + a.at) f.result a.buffer.now c.told_not.result
    (ap (λ (x : EntryPlace). x.well_formed) broken) c.requires.3 (c.told_not.ensures ∙ ap told_not (sym c.if-found-eq0.true)))

pub overflow_add-base-2 : goal.overflow_add-base-2
overflow_add-base-2 c =
    let a = c.args in
    let f = c.entry_at-found in
    let p = found-past a.form a.depth a.s.now a.at f.result f.ensures c.if-found-eq0.false in
    let few = c.requires in
    record { fits = omega arith }

pub any_entry-requires : goal.any_entry-requires
any_entry-requires c =
    let a = c.args in
    let f = c.entry_at-found in
    let p = found-past a.form a.depth a.s.now a.at f.result f.ensures c.if-found-eq0.false in
    let few = c.requires in
    (found-laid a.form a.depth a.s.now a.at f.result f.ensures, omega arith, few.3)

pub returns : goal.returns
returns c = counted-found c.entry_at-found.ensures c.any_entry.ensures
