-- What entries leave is determined: one answer, and one list of words. Assumes nothing.
use Prim.Native.Nat.{ℕ}
use mathlib.Core.Path.{◌≡◌, sym, ap, ◌∙◌, subst}
use mathlib.Core.Bool.{Bool}
use mathlib.Core.List.{List}
use native.Mathlib.Omega.{arith}
use lib.ListN.{length, take}
use Rattle.edit.specs.Edit.{Edit}
use Rattle.level.specs.Words.{levels_in, words_past}
use Rattle.level.specs.Kept.{kept_in, held}
use Rattle.edit.specs.declared.Side.{Side}
use Rattle.level.specs.declared.Level.{Level}
use Rattle.level.specs.declared.Levels.{Levels}
use Rattle.level.proofs.Held.{held-length}
use Rattle.level.proofs.Determined.{words-one}
use Rattle.side.specs.Applying.{AfterEntries}
use Rattle.side.specs.declared.Applied.{Applied}

abbrev whole : ℕ → ℕ → ℕ → Bool → Applied
whole left count moved replaced = record { left = left; count = count; moved = moved; replaced = replaced }

module _ {side : Side} {depth : ℕ} {es : List (Edit Level)} {kept : Levels} {words other : List ℕ} {a b : Applied}
    (r : AfterEntries side depth es kept words a) (t : AfterEntries side depth es kept other b) where
  same-levels : held (kept_in words a.left) ≡ held (kept_in other b.left)
  same-levels = r.levels ∙ sym t.levels

  same_left : a.left ≡ b.left
  same_left =
      sym (held-length (kept_in words a.left) r.good.few r.good.room) ∙ ap length same-levels
      ∙ held-length (kept_in other b.left) t.good.few t.good.room

  pub one_answer : a ≡ b
  one_answer =
      let c : a.count ≡ b.count = r.count ∙ sym t.count in
      let m : a.replaced ≡ b.replaced = r.replaced ∙ sym t.replaced in
      let d : a.moved ≡ b.moved = r.moved ∙ sym t.moved in
      let same : whole a.left a.count a.moved a.replaced ≡ whole b.left b.count b.moved b.replaced = rw (same_left, c, d, m) in
      same

  pub one-outcome : words ≡ other
  unfolding held
  one-outcome =
      let e : take a.left (levels_in words) ≡ take a.left (levels_in other) = same-levels ∙ ap (λ (n : ℕ). take n (levels_in other)) (sym same_left) in
      let f : words_past a.left words ≡ words_past a.left other
      = r.past ∙ sym (subst (λ (n : ℕ). words_past n other ≡ words_past n kept.words) (sym same_left) t.past) in
      words-one a.left words other (omega (arith, r.good.few, r.good.room)) (omega (arith, r.good.few, t.good.room)) e f
