-- The numbers of a message: the checksum that a member `c` holds, and the whole number in front.
-- Assumes nothing.
use Rattle.std.specs.Prelude.{None, Some}
use mathlib.Core.Path.{◌≡◌, refl, sym, ap, ◌∙◌}
use mathlib.Core.List.{List}
use Prim.Native.Nat.{ℕ, ◌+◌, ◌-◌, ◌≤◌, ◌<◌}
use native.Mathlib.Omega.{arith}
use lib.ListN.{length, take, drop}
use borrow.Author.Tests.{eq-eqb, ne_eqb}
use Rattle.decimal.specs.Whole.{read_whole, read_checksum}
use Rattle.text.specs.Text.{byte_at}
use Rattle.json_tokens.specs.Ends.{end_of}
use Rattle.json_tokens.proofs.Bounds.{bounds}
use Rattle.json_values.specs.Json.{value}
use Rattle.json_values.specs.Names.{part}
use Rattle.json_values.proofs.Laws.{value-string}
use Rattle.json_values.proofs.Bounds.{value_in}
use Rattle.entries.specs.Places.{is_string, whole_at, quoted_checksum_at}
use Rattle.entries.proofs.Entry.{none-some}
use Rattle.entries.proofs.Strings.{string-two}
use Rattle.entries.proofs.Found.{inner-part}
use Rattle.message_k.specs.MembersK.{more_summed, with_sum, SumRead}
use Rattle.message_k.specs.declared.Sum.{Sum}
use Rattle.message_k.specs.declared.Members.{Members}

module _ (d : ℕ) (s : List ℕ) (from to : ℕ) (v : value d s from ≡ Some to) where
  pub value_room : (from < to) × (to ≤ length s)
  value_room = let b = bounds to (value_in d s from) v in (omega arith, b.1)

  pub quoted-room : byte_at s from ≡ 34 → (from + 2 ≤ to) × (to ≤ length s)
  quoted-room h = string-two s from to (sym (value-string s from d h) ∙ v)

module _ (s : List ℕ) (from to : ℕ) where
  pub whole-read : read_whole (take (to - from) (drop from s)) ≡ whole_at s (record { from = from; to = to })
  unfolding whole_at part
  whole-read = refl

  pub checksum-other : (byte_at s from ≡ 34 → ⊥) → None ≡ quoted_checksum_at s (record { from = from; to = to })
  unfolding quoted_checksum_at is_string
  checksum-other n = sym (rw (ne_eqb (byte_at s from) 34 n))

  pub checksum-read : byte_at s from ≡ 34 → read_checksum (take (to - 1 - (from + 1)) (drop (from + 1) s)) ≡ quoted_checksum_at s (record { from = from; to = to })
  unfolding quoted_checksum_at is_string
  checksum-read b = ap read_checksum (inner-part s from to) ∙ sym (rw (eq-eqb (byte_at s from) 34 b))

-- One more member `c`.
module _ (s : List ℕ) (t : Members) (from : ℕ) where
  pub sum-none : value 14 s from ≡ None → (r : Members) → r.end ≡ 0 → SumRead s t from r
  unfolding end_of
  sum-none z r g = record { ends = g ∙ ap end_of (sym z); collected = λ e v. none-some (sym z ∙ v) }

  pub sum_told : (end : ℕ) → value 14 s from ≡ Some end → (m : Sum) → m ≡ more_summed s t.checksum (record { from = from; to = end }) → SumRead s t from (with_sum end m t)
  unfolding end_of
  sum_told end v m g = record { ends = ap end_of (sym v); collected = λ e w. is e (ap end_of (sym v ∙ w)) }
    where
      is : (e : ℕ) → end ≡ e → with_sum end m t ≡ with_sum e (more_summed s t.checksum (record { from = from; to = e })) t
      is e z = ap (λ x. with_sum end x t) g ∙ ap (λ k. with_sum k (more_summed s t.checksum (record { from = from; to = k })) t) z
