-- The outline of a layout is made of what is told of its entries.
-- Assumes nothing.
use Rattle.std.specs.Prelude.{None, Option, Some}
use mathlib.Core.Path.{◌≡◌, refl, sym, ap, ◌∙◌}
use mathlib.Core.List.{List}
use mathlib.Core.Bool.{Bool, true, false, cond, true≢false}
use Prim.Native.Nat.{ℕ}
use Rattle.entries.specs.Places.{and_then}
use Rattle.entries.specs.Rows.{Entry}
use Rattle.entries.specs.Tally.{tally_of, Tells}
use Rattle.entries.specs.declared.Tally.{Tally}
use Rattle.entries.proofs.Tallies.{tally-formed}
use Rattle.layout.specs.Layout.{is_snapshot, Printed, Layout, laid}
use Rattle.layout.specs.Scan.{bad_at, no_outline, following, outline_of, is_printed, sum_of, outline_from}
use Rattle.layout.specs.declared.Kind.{Kind}
use Rattle.layout.specs.declared.Outline.{Outline}

module _ (kind : Kind) (t : Tally) (sent : Bool) (sum number : ℕ) where
  abbrev whole : ℕ → Outline
  whole at = record { bids = t.bids; asks = t.asks; bad_at = at; number = number; checksum = sum; well_formed = true; kind = kind; printed = sent; previous = 0 }

  pub outline-formed : t.well_formed ≡ true → (at : ℕ) → at ≡ bad_at kind t → whole at ≡ outline_from kind t sent sum number
  unfolding outline_from
  outline-formed h at e = ap whole e ∙ sym (ap (λ (b : Bool). cond b (whole (bad_at kind t)) no_outline) h)

  pub outline-none : t.well_formed ≡ false → no_outline ≡ outline_from kind t sent sum number
  unfolding outline_from
  outline-none h = sym (rw (h, outline_from))

-- none is named where a layout is laid
follows-none : (kind : Kind) (t : Tally) (sent : Bool) (sum number : ℕ) → outline_from kind t sent sum number ≡ following 0 (outline_from kind t sent sum number)
unfolding outline_from
follows-none kind t sent sum number = at t.well_formed
  where
    at : (b : Bool) → cond b (whole kind t sent sum number (bad_at kind t)) no_outline ≡ following 0 (cond b (whole kind t sent sum number (bad_at kind t)) no_outline)
    at true = refl
    at false = refl

pub outline-of : (s : List ℕ) (kind : Kind) (p : Printed) (n : ℕ) (x : Option (List Entry)) (t : Tally) → Tells s x t
    → outline_from kind t (is_printed p) (sum_of p) n ≡ outline_of s (laid kind p n x)
unfolding laid and_then outline_of
outline-of s kind p n (Some es) t h =
    ap (λ (u : Tally). outline_from kind u (is_printed p) (sum_of p) n) (h.all es refl) ∙ follows-none kind (tally_of s es) (is_printed p) (sum_of p) n
outline-of s kind p n None t h = sym (outline-none kind t (is_printed p) (sum_of p) n (h.none refl))

-- the outline of a layout, whose entries are entries
module _ (s : List ℕ) (l : Layout) where
  abbrev pub outline_as : Outline
  outline_as = following l.previous (whole l.kind (tally_of s l.entries) (is_printed l.checksum) (sum_of l.checksum) l.number (bad_at l.kind (tally_of s l.entries)))

  pub outline-is : outline_of s (Some l) ≡ outline_as
  unfolding outline_of
  outline-is =
      ap (following l.previous) (sym (outline-formed l.kind (tally_of s l.entries) (is_printed l.checksum) (sum_of l.checksum) l.number (tally-formed s l.entries) (bad_at l.kind (tally_of s l.entries)) refl))

  pub outline-reads : (outline_of s (Some l)).well_formed ≡ true
  outline-reads = ap (λ (o : Outline). o.well_formed) outline-is

  pub outline-kind : (outline_of s (Some l)).kind ≡ l.kind
  outline-kind = ap (λ (o : Outline). o.kind) outline-is

-- the entries of a layout that is laid are those that were read
pub laid-entries : (kind : Kind) (p : Printed) (n : ℕ) (x : Option (List Entry)) (l : Layout) → laid kind p n x ≡ Some l → x ≡ Some l.entries
unfolding laid and_then
laid-entries kind p n (Some es) l h = ap (λ (y : Option Layout). elim y [ Some k ↦ Some k.entries | None ↦ None ]) h
laid-entries kind p n None l h = absurd (true≢false (sym (ap (λ (y : Option Layout). elim y [ Some k ↦ true | None ↦ false ]) h)))

-- where the first bad entry begins, by the kind
pub bad-snapshot : (kind : Kind) (t : Tally) → is_snapshot kind ≡ true → t.strict_at ≡ bad_at kind t
unfolding bad_at
bad-snapshot kind t h = sym (rw (h, bad_at))

pub bad-update : (kind : Kind) (t : Tally) → is_snapshot kind ≡ false → t.broken_at ≡ bad_at kind t
unfolding bad_at
bad-update kind t h = sym (rw (h, bad_at))
