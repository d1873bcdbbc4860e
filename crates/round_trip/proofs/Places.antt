-- What stands at a position of a text, and in a part of it. Assumes nothing.
use Prim.Native.Nat.{ℕ, ◌+◌, ◌-◌, ◌<◌}
use mathlib.Core.Path.{◌≡◌, refl, sym, ap, ap₂, ◌∙◌}
use mathlib.Core.Bool.{Bool, true, false, ◌||◌, true≢false}
use mathlib.Core.List.{List, [], ◌∷◌, ◌++◌}
use native.Mathlib.Omega.{arith}
use borrow.Author.Tests.{ne_eqb, eqb-false}
use lib.Dec.{eqb}
use lib.ListN.{length, get_or, take, drop, get_or-append}
use lib.Seq.{drop-drop, get_or-drop, drop-append_seam, take-append_seam}
use Rattle.text.specs.Text.{byte_at, is_digit}
use Rattle.json_tokens.specs.Bytes.{blank}
use Rattle.json_tokens.specs.Tokens.{blanks}
use Rattle.json_tokens.proofs.Laws.{blanks-stop, in_some}
use Rattle.json_values.specs.Json.{Span}
use Rattle.json_values.specs.Names.{part}

module _ (s : List ℕ) (i : ℕ) where
  pub byte-here : (u : List ℕ) → drop i s ≡ u → byte_at s i ≡ get_or u 0 0
  unfolding byte_at
  byte-here u h =
      let n : i ≡ i + 0 = omega arith in
      ap (λ (k : ℕ). get_or s k 0) n ∙ sym (get_or-drop i s 0 0) ∙ ap (λ (l : List ℕ). get_or l 0 0) h

  pub past : (t u : List ℕ) → drop i s ≡ t ++ u → drop (i + length t) s ≡ u
  past t u h = sym (drop-drop (length t) i s) ∙ ap (drop (length t)) h ∙ drop-append_seam t u

  pub past-byte : (c : ℕ) (u : List ℕ) → drop i s ≡ c ∷ u → drop (i + 1) s ≡ u
  past-byte c u h = past (c ∷ []) u h

  -- no blank stands here
  pub no-blanks : (u : List ℕ) → drop i s ≡ u → 32 < get_or u 0 0 → blanks s i ≡ i
  unfolding blank
  no-blanks u h l =
      let e : byte_at s i ≡ get_or u 0 0 = byte-here u h in
      blanks-stop s i
      (rw (ne_eqb (byte_at s i) 32 (λ q. omega arith), ne_eqb (byte_at s i) 9 (λ q. omega arith), ne_eqb (byte_at s i) 10 (λ q. omega arith), ne_eqb (byte_at s i) 13 (λ q. omega arith)))

  pub in-text : (u : List ℕ) → drop i s ≡ u → 32 < get_or u 0 0 → i < length s
  in-text u h l = let e : byte_at s i ≡ get_or u 0 0 = byte-here u h in in_some s i (omega arith)

-- ---- how a text begins that is an item of a list: no blank, and no closing bracket
pub record Starts (t : List ℕ) : Type 0 where
  pub seen : 32 < get_or t 0 0
  pub not-array : get_or t 0 0 ≡ 93 → ⊥
  pub not-object : get_or t 0 0 ≡ 125 → ⊥

some_first : (t : List ℕ) → 32 < get_or t 0 0 → 0 < length t
some_first [] h = absurd (omega arith)
some_first (c ∷ t) h = omega arith

module _ {t : List ℕ} (h : Starts t) where
  pub starts-some : 0 < length t
  starts-some = some_first t h.seen

  pub starts-append : (u : List ℕ) → get_or (t ++ u) 0 0 ≡ get_or t 0 0
  starts-append u = get_or-append t u 0 0 starts-some

-- ---- what follows a number: nothing that a number goes on with
unfoldable pub goes_on : ℕ → Bool
goes_on c = is_digit c || (eqb c 46 || (eqb c 101 || eqb c 69))

unfoldable pub Stops : List ℕ → Type 0
Stops u = goes_on (get_or u 0 0) ≡ false

pub comma-stops : (u : List ℕ) → Stops (44 ∷ u)
unfolding Stops goes_on is_digit
comma-stops u = refl

pub array-stops : (u : List ℕ) → Stops (93 ∷ u)
unfolding Stops goes_on is_digit
array-stops u = refl

pub object-stops : (u : List ℕ) → Stops (125 ∷ u)
unfolding Stops goes_on is_digit
object-stops u = refl

pub nothing_stops : Stops []
unfolding Stops goes_on is_digit
nothing_stops = refl

by-or : (a b : Bool) → (a || b) ≡ false → (a ≡ false) × (b ≡ false)
by-or true b h = absurd (true≢false h)
by-or false b h = (refl, h)

pub stops-is : (u : List ℕ) → Stops u → (is_digit (get_or u 0 0) ≡ false) × (get_or u 0 0 ≡ 46 → ⊥) × (get_or u 0 0 ≡ 101 → ⊥) × (get_or u 0 0 ≡ 69 → ⊥)
unfolding Stops goes_on
stops-is u h =
    let a = by-or _ _ h in
    let b = by-or _ _ a.1 in
    let c = by-or _ _ b.1 in
    (a.0, eqb-false _ 46 b.0, eqb-false _ 101 c.0, eqb-false _ 69 c.1)

-- ---- the part a of s is the text t
pub record Is (s : List ℕ) (a : Span) (t : List ℕ) : Type 0 where
  pub rest : List ℕ
  pub here : drop a.from s ≡ t ++ rest
  pub ends : a.to ≡ a.from + length t

pub part-is : {s : List ℕ} {a : Span} {t : List ℕ} → Is s a t → part s a ≡ t
unfolding part
part-is {s} {a} {t} h =
    let e : a.to ≡ a.from + length t = h.ends in
    let n : a.to - a.from ≡ length t = omega arith in
    ap₂ take n h.here ∙ take-append_seam t h.rest
