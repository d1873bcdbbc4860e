-- `is_name_byte` meets its contract: each way out is one case of the definition.
use Prim.Native.Nat.{ℕ}
use mathlib.Core.Path.{◌≡◌, sym, ap, ◌∙◌}
use mathlib.Core.Bool.{Bool, true, false, true≢false, not}
use mathlib.Core.Logic.{◌⊎◌, inl, inr}
use borrow.Author.Tests.{eq-eqb, ne_eqb}
use Rattle.settings.proofs.Good.{graphic-byte}
use Rattle.settings.proofs.is_name_byte.Goals as goal
use Rattle.settings.proofs.is_name_byte.Goals.{then-is_ascii_graphic, else-is_ascii_graphic}

pub returns-then-c-ne-QUOTE : goal.returns-then-c-ne-QUOTE
returns-then-c-ne-QUOTE c =
    let b = c.args.c in
    let h = c.if-c-ne-QUOTE.true in
    sym (graphic-byte b c.is_ascii_graphic.result c.is_ascii_graphic.ensures.value ∙ rw (h.0, ne_eqb b 34 h.1))

quoted : (b : ℕ) (r : Bool) → r ≡ true → ((r ≡ true) × (b ≡ 34)) ⊎ (r ≡ false) → b ≡ 34
quoted b r h (inl p) = p.1
quoted b r h (inr q) = absurd (true≢false (sym h ∙ q))

pub returns-else-c-ne-QUOTE : goal.returns-else-c-ne-QUOTE
returns-else-c-ne-QUOTE c =
    let b = c.args.c in
    let f = c.is_ascii_graphic in
    elim c.if-is_ascii_graphic.branch [
      | then-is_ascii_graphic w ↦
          let h = w.if-is_ascii_graphic.true in
          let e = eq-eqb b 34 (quoted b f.result h c.if-c-ne-QUOTE.either) in
          w.t-4-is ∙ ap not e ∙ sym (graphic-byte b f.result f.ensures.value ∙ rw (h, e))
      | else-is_ascii_graphic w ↦
          let h = w.if-is_ascii_graphic.false in
          w.t-4-is ∙ h ∙ sym (graphic-byte b f.result f.ensures.value ∙ rw h)
    ]
