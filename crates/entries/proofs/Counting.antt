-- One entry more is counted and put into the buffer, or what was met are no entries. Assumes nothing.
use Prim.Native.Nat.{ℕ}
use mathlib.Core.Path.{◌≡◌, sym, ap, ap₂, ◌∙◌, subst}
use mathlib.Core.Bool.{Bool, true, false, true≢false}
use mathlib.Core.List.{List}
use lib.ListN.{length}
use Rattle.decimal.specs.Decimal.{Number}
use Rattle.edit.specs.Edit.{Numbers}
use Rattle.edit.specs.Buffer.{buffer_words, Put}
use Rattle.edit.specs.declared.Side.{Side}
use Rattle.entries.specs.Rows.{is_bad, number_at}
use Rattle.entries.specs.Found.{price_span, size_span, row_from}
use Rattle.entries.specs.Tally.{told_not, with_entry, met, Counted}
use Rattle.entries.specs.declared.EntryPlace.{EntryPlace}
use Rattle.entries.specs.declared.Tally.{Tally}
use Rattle.entries.specs.declared.Entries.{Entries}

module _ (s : List ℕ) (side : Side) (t : Tally) (at : ℕ) (f : EntryPlace) (before : List ℕ) (r : Entries) where
  pub counted-entry : f.well_formed ≡ true → r.end ≡ f.end
      → (b w : Bool) → r.tally ≡ with_entry t side at b w → b ≡ is_bad false s (row_from at f) → w ≡ is_bad true s (row_from at f)
      → (after : List ℕ) (p z : Number) → Put before (met t) (record { side = side; price = p; size = z }) after → p ≡ number_at s (price_span f) → z ≡ number_at s (size_span f)
      → Counted s side t at f before after r
  counted-entry fair e b w told hb hw after p z put hp hz =
      record {
        end = e;
        entry = λ g. told ∙ ap₂ (with_entry t side at) hb hw;
        other = λ g. absurd (true≢false (sym fair ∙ g));
        room = put.room;
        put = λ g. subst (λ (x : Numbers). Put before (met t) x after) (ap₂ (λ (m n : Number). record { side = side; price = m; size = n }) hp hz) put;
      }

  pub counted-other : f.well_formed ≡ false → length before ≡ buffer_words → r ≡ told_not f.end → Counted s side t at f before before r
  counted-other unfair room h =
      record {
        end = ap (λ (x : Entries). x.end) h;
        entry = λ g. absurd (true≢false (sym g ∙ unfair));
        other = λ g. ap (λ (x : Entries). x.tally) h;
        room = room;
        put = λ g. absurd (true≢false (sym g ∙ unfair));
      }

pub counted-found : {s : List ℕ} {side : Side} {t : Tally} {at : ℕ} {f g : EntryPlace} {before after : List ℕ} {r : Entries} → f ≡ g
    → Counted s side t at f before after r → Counted s side t at g before after r
counted-found {s} {side} {t} {at} {f} {g} {before} {after} {r} h = subst (λ (x : EntryPlace). Counted s side t at x before after r) h
