-- The elements of an entry, string by string: a walk over them goes past a string, or stops where no string follows.
-- Assumes nothing.
use Rattle.std.specs.Prelude.{None, Option, Some, ℕ}
use mathlib.Core.Path.{◌≡◌, refl, sym, ◌∙◌}
use mathlib.Core.List.{List, [], ◌∷◌}
use mathlib.Core.Bool.{Bool, true, false}
use Prim.Native.Nat.{ℕ}
use native.Mathlib.Omega.{arith}
use borrow.Author.Tests.{eqb-true, eqb-false, eq-eqb}
use lib.Dec.{eqb}
use Rattle.text.specs.Text.{byte_at}
use Rattle.json_tokens.specs.Tokens.{blanks, closing, separator, string}
use Rattle.json_tokens.proofs.Laws.{closing-no, separator-no, string-no}
use Rattle.json_tokens.proofs.Bounds.{bounds, blanks-in, separator-in, string-in}
use Rattle.json_values.specs.Json.{Span, Next, item, ends, wrong, Items, items, no_items, next, prepended, onward, element, elements, value}
use Rattle.json_values.proofs.Laws.{value-string, element-is, later-item, later-ends, later-wrong}
use Rattle.json_values.proofs.Walk.{Walk, walk_start, walk_is, walk-item}
use Rattle.entries.specs.Places.{is_string}
use Rattle.entries.specs.Rows.{Row}

pub broken-at : {A : Type 0} {x : Option ℕ} {e : ℕ} → x ≡ None → x ≡ Some e → A
broken-at p q = let z : ◌≡◌ {A = ℕ} 0 1 = cc in absurd (omega arith)

-- an element of an entry, in which arrays and objects may nest d deep
abbrev pub one : ℕ → List ℕ → ℕ → Next Span
one d s = element (value d s)

-- ---- strings among other tokens
module _ (s : List ℕ) (i : ℕ) where
  pub string-byte : (e : ℕ) → string s i ≡ Some e → byte_at s i ≡ 34
  string-byte e h = go (eqb (byte_at s i) 34) refl
    where
      go : (b : Bool) → eqb (byte_at s i) 34 ≡ b → byte_at s i ≡ 34
      go true q = eqb-true _ _ q
      go false q = broken-at (string-no s i (eqb-false _ _ q)) h

  pub string-value : (d e : ℕ) → string s i ≡ Some e → value d s i ≡ Some e
  string-value d e h = value-string s i d (string-byte e h) ∙ h

  pub string-is : (e : ℕ) → string s i ≡ Some e → is_string s (record { from = i; to = e }) ≡ true
  unfolding is_string
  string-is e h = eq-eqb _ _ (string-byte e h)

module _ (s : List ℕ) (i : ℕ) where
  string-no-close : (e : ℕ) → string s (blanks s i) ≡ Some e → closing 93 s i ≡ None
  string-no-close e h = let b : byte_at s (blanks s i) ≡ 34 = string-byte s (blanks s i) e h in closing-no 93 s i (λ z. omega arith)

  pub close-no-comma : (e : ℕ) → closing 93 s i ≡ Some e → separator 44 s i ≡ None
  close-no-comma e h = go (eqb (byte_at s (blanks s i)) 93) refl
    where
      go : (b : Bool) → eqb (byte_at s (blanks s i)) 93 ≡ b → separator 44 s i ≡ None
      go true q = let b : byte_at s (blanks s i) ≡ 93 = eqb-true _ _ q in separator-no 44 s i (λ z. omega arith)
      go false q = broken-at (closing-no 93 s i (eqb-false _ _ q)) h

-- ---- what is found is no string
pub data Stops (s : List ℕ) : Next Span → Type 0 where
  at-end : (e : ℕ) → Stops s (ends e)
  at-wrong : Stops s wrong
  at_other : (a : Span) (e : ℕ) → is_string s a ≡ false → Stops s (item a e)

module _ (d : ℕ) (s : List ℕ) (i : ℕ) where
  no-string : string s i ≡ None → Stops s (one d s i)
  unfolding element is_string
  no-string h = go (value d s i) refl
    where
      other : (e : ℕ) → value d s i ≡ Some e → (b : Bool) → eqb (byte_at s i) 34 ≡ b → b ≡ false
      other e q true p = broken-at h (sym (value-string s i d (eqb-true _ _ p)) ∙ q)
      other e q false p = refl

      go : (x : Option ℕ) → value d s i ≡ x → Stops s (elim x [ Some e ↦ item (record { from = i; to = e }) e | None ↦ wrong ])
      go (Some e) q = at_other (record { from = i; to = e }) e (other e q (eqb (byte_at s i) 34) refl)
      go None q = at-wrong

module _ (d : ℕ) (s : List ℕ) (i : ℕ) where
  pub stops_first : string s (blanks s i) ≡ None → Stops s (next (one d s) 93 s true i)
  unfolding next
  stops_first h = go (closing 93 s i)
    where
      go : (x : Option ℕ) → Stops s (elim x [ Some e ↦ ends e | None ↦ one d s (blanks s i) ])
      go (Some e) = at-end e
      go None = no-string d s (blanks s i) h

  pub stops-comma : separator 44 s i ≡ None → Stops s (next (one d s) 93 s false i)
  stops-comma h = go (closing 93 s i) refl
    where
      go : (x : Option ℕ) → closing 93 s i ≡ x → Stops s (next (one d s) 93 s false i)
      go (Some e) q = rw (later-ends (one d s) 93 s i e h q) (at-end e)
      go None q = rw (later-wrong (one d s) 93 s i h q) at-wrong

  pub stops-string : (j : ℕ) → separator 44 s i ≡ Some j → string s j ≡ None → Stops s (next (one d s) 93 s false i)
  stops-string j h q = rw (later-item (one d s) 93 s i j h) (no-string d s j q)

-- ---- an answer that is refused where no string follows
pub record Halts (s : List ℕ) (answer : Items Span → Option Row) : Type 0 where
  pub broken : answer no_items ≡ None
  pub ended : (e : ℕ) → answer (items [] e) ≡ None
  pub other : (a : Span) (l : List Span) (e : ℕ) → is_string s a ≡ false → answer (items (a ∷ l) e) ≡ None

pub halt : (d : ℕ) {s : List ℕ} {answer : Items Span → Option Row} → Halts s answer → {i : ℕ} {x : Next Span} {r : Option Row}
    → Walk (one d s) 93 s answer i x r → Stops s x → r ≡ None
unfolding onward prepended
halt d {s} {answer} t {i} {x} {r} w stops = sym w.makes ∙ go (λ e. _) x stops
  where
    past : (a : Span) → is_string s a ≡ false → (y : Items Span) → answer (prepended a y) ≡ None
    past a h (items l e) = t.other a l e h
    past a h no_items = t.broken

    go : (rest : ℕ → Items Span) (x : Next Span) → Stops s x → answer (onward rest x) ≡ None
    go rest (ends e) (at-end f) = t.ended e
    go rest wrong at-wrong = t.broken
    go rest (item a e) (at_other b f h) = past a h (rest e)

-- ---- past a string
module _ (d : ℕ) (s : List ℕ) {R : Type 0} (answer : Items Span → R) where
  pub past-string : {i : ℕ} {r : R} → Walk (one d s) 93 s answer i (next (one d s) 93 s false i) r → (j e : ℕ) → separator 44 s i ≡ Some j → string s j ≡ Some e
      → Walk (one d s) 93 s (λ (y : Items Span). answer (prepended (record { from = j; to = e }) y)) e (next (one d s) 93 s false e) r
  past-string {i} {r} w j e q h =
      let b = bounds j (separator-in s 44 i (omega arith)) q in
      let c = bounds e (string-in s j) h in
      let v = walk_is (one d s) 93 s answer w (one d s j) j (omega arith) (later-item (one d s) 93 s i j q) in
      walk-item (one d s) 93 s answer v (record { from = j; to = e }) e (element-is (value d s) j e (string-value s j d e h)) (omega arith) c.1

  -- the first string of the array whose bracket ends at i
  pub past_first : (i j e : ℕ) → j ≡ blanks s i → string s j ≡ Some e
      → Walk (one d s) 93 s (λ (y : Items Span). answer (prepended (record { from = j; to = e }) y)) e (next (one d s) 93 s false e) (answer (elements (value d s) s i))
  unfolding elements
  past_first i j e b h =
      let c = bounds e (string-in s j) h in
      let g : string s (blanks s i) ≡ Some e = rw b at h in
      let v : Walk (one d s) 93 s answer j (one d s j) (answer (elements (value d s) s i)) = rw b (walk_start (one d s) 93 s answer i (blanks-in s i).0 (string-no-close s i e g)) in
      walk-item (one d s) 93 s answer v (record { from = j; to = e }) e (element-is (value d s) j e (string-value s j d e h)) (omega arith) c.1
