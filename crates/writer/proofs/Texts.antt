-- Laws of the text of a book: the texts that it is laid from, and its length. Assumes nothing.
use mathlib.Core.Path.{◌≡◌, refl, ap, ap₂, ◌∙◌}
use mathlib.Core.Bool.{true, false}
use mathlib.Core.List.{List, [], ◌∷◌, ◌++◌, map, map-map, append_assoc}
use Prim.Native.Nat.{ℕ, ◌+◌, ◌≤◌, ◌<◌, ◌^◌}
use native.Mathlib.Nat.{lt_of_lt_of_le}
use native.Mathlib.Omega.{arith}
use lib.Dec.{lit≤}
use lib.ListN.{length, length-append}
use Rattle.text.specs.Text.{ascii}
use Rattle.decimal.specs.Digits.{written}
use Rattle.decimal.specs.Limits.{Within}
use Rattle.decimal.proofs.Digits.{length-written}
use Rattle.edit.specs.declared.Side.{Side}
use Rattle.level.specs.declared.Level.{Level}
use Rattle.level.specs.declared.Levels.{Levels}
use Rattle.level.specs.Words.{level_price, level_size, shown}
use Rattle.level.specs.Ranked.{All}
use Rattle.level.specs.Kept.{held, Good}
use Rattle.writer.specs.Snapshot.{quoted, comma_joined, array, k_entry, m_entry, k_snapshot, m_snapshot}
use Rattle.writer.specs.Parts.{entry, entries, k_snapshot_text, m_snapshot_text, Writable, WritableSide, Sized}

-- ---- entries of levels as they are shown

k-side : (kept : Levels) → comma_joined (map k_entry (map shown (held kept))) ≡ entries true kept
unfolding entries entry
k-side kept = ap comma_joined (map-map k_entry shown (held kept))

m-side : (kept : Levels) → comma_joined (map m_entry (map shown (held kept))) ≡ entries false kept
unfolding entries entry
m-side kept = ap comma_joined (map-map m_entry shown (held kept))

-- what follows a text goes with what follows that
pub moved : {x x' : List ℕ} → x ≡ x' → (c : List ℕ) {r r' : List ℕ} → r ≡ r' → (x ++ c) ++ r ≡ x' ++ (c ++ r')
moved {x} {x'} p c {r} q = append_assoc x c r ∙ ap₂ (λ (y s : List ℕ). y ++ (c ++ s)) p q

-- ---- K

module _ (depth : ℕ) (name : List ℕ) (bids asks : Levels) where
  abbrev pub k_from_names : List ℕ
  k_from_names = ascii "\",\"" ++ (name ++ ascii "\"]")

  abbrev pub k_from_depth : List ℕ
  k_from_depth = (ascii "]},\"book-" ++ written depth) ++ k_from_names

  abbrev pub k_from_bids : List ℕ
  k_from_bids = (ascii "],\"bs\":[" ++ entries true bids) ++ k_from_depth

  pub k-parts : k_snapshot_text depth name bids asks ≡ (ascii "[0,{\"as\":[" ++ entries true asks) ++ k_from_bids
  unfolding k_snapshot_text k_snapshot array quoted
  k-parts =
      ap (λ (l : List ℕ). ascii "[0,{\"as\":[" ++ l)
      (moved (k-side asks) (ascii "]")
      (ap (λ (l : List ℕ). ascii ",\"bs\":[" ++ l)
      (moved (k-side bids) (ascii "]")
      (ap (λ (l : List ℕ). ascii "},\"book-" ++ l)
      (moved {x = written depth} refl (ascii "\"")
      (ap (λ (l : List ℕ). ascii ",\"" ++ l)
      (moved {x = name} refl (ascii "\"") {r = ascii "]"} refl)))))))

  pub length-k : length (k_snapshot_text depth name bids asks) ≡ 32 + length (entries true asks) + length (entries true bids) + length (written depth) + length name
  length-k = rw k-parts (simp length-append (omega arith))

-- ---- M

module _ (name : List ℕ) (bids asks : Levels) (checksum number : ℕ) where
  abbrev pub m_from_number : List ℕ
  m_from_number = (ascii ",\"gsn\":" ++ written number) ++ ascii "}"

  abbrev pub m_from_checksum : List ℕ
  m_from_checksum = (ascii "]},\"checksum\":" ++ written checksum) ++ m_from_number

  abbrev pub m_from_asks : List ℕ
  m_from_asks = (ascii "],\"asks\":[" ++ entries false asks) ++ m_from_checksum

  abbrev pub m_from_bids : List ℕ
  m_from_bids = (ascii "\",\"type\":\"snapshot\",\"data\":{\"bids\":[" ++ entries false bids) ++ m_from_asks

  pub m-parts : m_snapshot_text name bids asks checksum number ≡ ascii "{\"channel\":\"book\",\"product\":\"" ++ (name ++ m_from_bids)
  unfolding m_snapshot_text m_snapshot array quoted
  m-parts =
      ap (λ (l : List ℕ). ascii "{\"channel\":\"book\",\"product\":\"" ++ l)
      (moved {x = name} refl (ascii "\"")
      (ap (λ (l : List ℕ). ascii ",\"type\":\"snapshot\",\"data\":{\"bids\":[" ++ l)
      (moved (m-side bids) (ascii "]")
      (ap (λ (l : List ℕ). ascii ",\"asks\":[" ++ l)
      (moved (m-side asks) (ascii "]")
      {r = ascii "},\"checksum\":" ++ (written checksum ++ m_from_number)} refl)))))

  pub length-m : length (m_snapshot_text name bids asks checksum number) ≡ 97 + length (entries false bids) + length (entries false asks) + length (written checksum) + length (written number) + length name
  length-m = rw m-parts (simp length-append (omega arith))

-- ---- limits

pub whole-short : (n : ℕ) → n < 2 ^ 64 → length (written n) ≤ 20
whole-short n low = length-written 19 n (lt_of_lt_of_le low (lit≤ tt))

pub checksum-short : (n : ℕ) → n < 2 ^ 32 → length (written n) ≤ 20
checksum-short n low = whole-short n (lt_of_lt_of_le low (lit≤ tt))

-- ---- a good side whose sizes keep the limits

writable : (levels : List Level) → All (λ level. Within (level_price level)) levels → All (λ level. Within (level_size level)) levels → All Writable levels
unfolding All
writable [] p s = tt
writable (level ∷ levels) p s = (record { price = p.0; size = s.0 }, writable levels p.1 s.1)

pub good-writable : {side : Side} {kept : Levels} → Good side kept → Sized kept → WritableSide kept
good-writable {kept = kept} good sized = record { few = good.few; room = good.room; levels = writable (held kept) good.within sized }
