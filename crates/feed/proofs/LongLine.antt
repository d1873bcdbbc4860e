-- A line 1 that is longer than what is carried of it opens a shut book, and so does what is carried. Assumes nothing.
use Rattle.std.specs.Prelude.{None, Option, Some}
use Prim.Native.Nat.{ℕ, suc, ◌≤◌, ◌<◌}
use mathlib.Core.Path.{◌≡◌, refl, ap, ◌∙◌}
use mathlib.Core.Bool.{Bool, true, false, ◌&&◌, cond}
use mathlib.Core.List.{List, [], ◌∷◌}
use native.Mathlib.Omega.{arith}
use borrow.Author.Tests.{lt-leb, leb-true, leb-false, ltb-true}
use lib.Dec.{leb, ltb}
use lib.ListN.{length, take, drop, length-drop}
use lib.Seq.{take_all, length-take-le}
use Rattle.lines.specs.Lines.{bytes_before}
use Rattle.decimal.specs.Whole.{read_whole, max_whole_number}
use Rattle.decimal.proofs.Scan.{whole_long}
use Rattle.decimal.proofs.WholeNumber.{whole-wrong}
use Rattle.settings.specs.Settings.{Config, shut, good_depth, good_name, good, kept}
use Rattle.settings.specs.declared.Dialect.{Dialect}
use Rattle.settings.specs.declared.Dialect.TheVariants.{Unknown}
use Rattle.line_text.specs.Opening.{space, dialect_of, with_depth, depth_and_name, line_one}
use Rattle.reference.specs.Reference.{opened}
use Rattle.feed.specs.Feed.{carried}

and_no : (b : Bool) → b && false ≡ false
and_no true = refl
and_no false = refl

long-name : (name : List ℕ) → 16 < length name → good_name name ≡ false
unfolding good_name
long-name name h = rw (lt-leb (length name) 16 h) (and_no (leb 1 (length name)))

shut-bad : good shut ≡ false
unfolding good good_depth
shut-bad = refl

long-bad : (dialect : Dialect) (r : Option ℕ) (name : List ℕ) → 16 < length name → good (with_depth dialect r name) ≡ false
unfolding good with_depth good_depth
long-bad dialect (Some n) name h = ap (λ (b : Bool). good_depth dialect n && b) (long-name name h) ∙ and_no (good_depth dialect n)
long-bad dialect None name h = refl

no-depth : (dialect : Dialect) (name : List ℕ) {r : Option ℕ} → r ≡ None → good (with_depth dialect r name) ≡ false
unfolding with_depth
no-depth dialect name e = ap (λ (x : Option ℕ). good (with_depth dialect x name)) e ∙ shut-bad

-- of no dialect
unknown-bad : (s : List ℕ) → good (depth_and_name Unknown s) ≡ false
unfolding depth_and_name with_depth good good_depth
unknown-bad s = at (ltb (bytes_before space s) (length s)) (read_whole (take (bytes_before space s) s))
  where
    at : (b : Bool) (r : Option ℕ) → good (cond b (with_depth Unknown r (drop (suc (bytes_before space s)) s)) shut) ≡ false
    at true (Some n) = refl
    at true None = refl
    at false r = refl

-- a depth of too many digits, or a name of too many bytes
bad-depth : (dialect : Dialect) (s : List ℕ) → 36 < length s → good (depth_and_name dialect s) ≡ false
unfolding depth_and_name
bad-depth dialect s h = at (ltb (bytes_before space s) (length s)) refl
  where
    depth : (b : Bool) → leb (bytes_before space s) max_whole_number ≡ b → bytes_before space s < length s →
        good (with_depth dialect (read_whole (take (bytes_before space s) s)) (drop (suc (bytes_before space s)) s)) ≡ false
    depth true e l =
        let k : bytes_before space s ≤ max_whole_number = leb-true (bytes_before space s) max_whole_number e in
        let n = length-drop (suc (bytes_before space s)) s in
        let g = h in
        long-bad dialect (read_whole (take (bytes_before space s) s)) (drop (suc (bytes_before space s)) s) (omega arith)
    depth false e l =
        let k : max_whole_number < bytes_before space s = leb-false (bytes_before space s) max_whole_number e in
        let n : length (take (bytes_before space s) s) ≡ bytes_before space s = length-take-le (bytes_before space s) s (omega arith) in
        no-depth dialect (drop (suc (bytes_before space s)) s) (whole-wrong (take (bytes_before space s) s) (whole_long max_whole_number (take (bytes_before space s) s) (omega arith)))

    at : (b : Bool) → ltb (bytes_before space s) (length s) ≡ b → good (depth_and_name dialect s) ≡ false
    at true e =
        rw (e, depth_and_name)
        (depth (leb (bytes_before space s) max_whole_number) refl (ltb-true (bytes_before space s) (length s) e))
    at false e = rw (e, depth_and_name) shut-bad

-- no word of more than two bytes is a dialect's
other-bad : (w : List ℕ) (s : List ℕ) → 2 < length w → good (depth_and_name (dialect_of w) s) ≡ false
unfolding dialect_of
other-bad [] s h = absurd (omega (arith, h))
other-bad (c ∷ []) s h = absurd (omega (arith, h))
other-bad (c ∷ (d ∷ [])) s h = absurd (omega (arith, h))
other-bad (c ∷ (d ∷ (e ∷ w))) s h = unknown-bad s

pub bad-line : (line : List ℕ) → 39 < length line → good (line_one line) ≡ false
unfolding line_one
bad-line line h = at (ltb (bytes_before space line) (length line)) refl
  where
    word : (b : Bool) → leb (bytes_before space line) 2 ≡ b → bytes_before space line < length line
        → good (depth_and_name (dialect_of (take (bytes_before space line) line)) (drop (suc (bytes_before space line)) line)) ≡ false
    word true e l =
        let k : bytes_before space line ≤ 2 = leb-true (bytes_before space line) 2 e in
        let n = length-drop (suc (bytes_before space line)) line in
        let g = h in
        bad-depth (dialect_of (take (bytes_before space line) line)) (drop (suc (bytes_before space line)) line) (omega arith)
    word false e l =
        let k : 2 < bytes_before space line = leb-false (bytes_before space line) 2 e in
        let n : length (take (bytes_before space line) line) ≡ bytes_before space line = length-take-le (bytes_before space line) line (omega arith) in
        other-bad (take (bytes_before space line) line) (drop (suc (bytes_before space line)) line) (omega arith)

    at : (b : Bool) → ltb (bytes_before space line) (length line) ≡ b → good (line_one line) ≡ false
    at true e = rw (e, line_one) (word (leb (bytes_before space line) 2) refl (ltb-true (bytes_before space line) (length line) e))
    at false e = rw (e, line_one) shut-bad

opened-bad : (t u : Config) → good t ≡ false → good u ≡ false → opened t ≡ opened u
unfolding opened kept
opened-bad t u e f = rw (e, f)

pub carried-opened : (line : List ℕ) → opened (line_one (take carried line)) ≡ opened (line_one line)
carried-opened line = at (leb (length line) carried) refl
  where
    at : (b : Bool) → leb (length line) carried ≡ b → opened (line_one (take carried line)) ≡ opened (line_one line)
    at true e = ap (λ (l : List ℕ). opened (line_one l)) (take_all carried line (leb-true (length line) carried e))
    at false e =
        let h : carried < length line = leb-false (length line) carried e in
        let l : length (take carried line) ≡ carried = length-take-le carried line (omega arith) in
        opened-bad (line_one (take carried line)) (line_one line) (bad-line (take carried line) (omega arith)) (bad-line line (omega arith))
