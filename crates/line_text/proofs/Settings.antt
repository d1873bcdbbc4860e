-- Laws of the settings on line 1, case by case. Assumes nothing.
use Rattle.std.specs.Prelude.{None, Some}
use Prim.Native.Nat.{ℕ, suc, ◌+◌, ◌-◌, ◌≤◌, ◌<◌}
use mathlib.Core.Path.{◌≡◌, sym, ap, ap₂, ◌∙◌}
use mathlib.Core.List.{List}
use native.Mathlib.Nat.{le_refl}
use native.Mathlib.Omega.{arith}
use borrow.Author.Tests.{lt-ltb, le-ltb}
use lib.ListN.{length, take, drop, length-drop, drop_of_length-le}
use lib.Seq.{take_all, drop-drop}
use Rattle.lines.specs.Lines.{bytes_before}
use Rattle.decimal.specs.Whole.{read_whole}
use Rattle.settings.specs.Settings.{Config, shut}
use Rattle.settings.specs.declared.Dialect.{Dialect}
use Rattle.settings.specs.declared.Dialect.TheVariants.{Unknown}
use Rattle.line_text.specs.declared.FirstLine.{FirstLine}
use Rattle.line_text.specs.Opening.{space, dialect_of, with_depth, depth_and_name, line_one, config_on, Found}

pub found_as : {line : List ℕ} {a b : Config} {r : FirstLine} → a ≡ b → Found line a r → Found line b r
found_as e f = record { same = f.same ∙ e; within = f.within }

pub found_none : (line : List ℕ) → Found line shut (record { dialect = Unknown; depth = 0; name = length line })
unfolding config_on
found_none line = record { same = ap unnamed (drop_of_length-le line {i = length line} (le_refl (length line))); within = le_refl (length line) }
  where
    unnamed : List ℕ → Config
    unnamed name = record { dialect = Unknown; depth = 0; name = name }

-- ---- the depth and the name, with the blank between them as `find` gives it

module _ (line : List ℕ) (at : ℕ) (dialect : Dialect) (e : ℕ) (is : e ≡ at + bytes_before space (drop at line)) where
  abbrev rest : List ℕ
  rest = drop at line

  pub no_name : length line ≤ e → shut ≡ depth_and_name dialect (drop at line)
  unfolding depth_and_name
  no_name h =
      let l : length rest ≤ bytes_before space rest = omega (arith, length-drop at line) in
      rw (le-ltb (bytes_before space rest) (length rest) l, depth_and_name)

  module _ (h : e < length line) where
    parted : depth_and_name dialect rest ≡ with_depth dialect (read_whole (take (e - at) rest)) (drop (e + 1) line)
    unfolding depth_and_name
    parted =
        let l : bytes_before space rest < length rest = omega (arith, length-drop at line) in
        let n : bytes_before space rest ≡ e - at = omega arith in
        let k : at + suc (bytes_before space rest) ≡ e + 1 = omega arith in
        rw (lt-ltb (bytes_before space rest) (length rest) l, depth_and_name)
        (ap (λ (x : List ℕ). with_depth dialect (read_whole (take (bytes_before space rest) rest)) x) (drop-drop (suc (bytes_before space rest)) at line ∙ ap (λ (m : ℕ). drop m line) k)
        ∙ ap (λ (m : ℕ). with_depth dialect (read_whole (take m rest)) (drop (e + 1) line)) n)

    pub bad-depth : None ≡ read_whole (take (e - at) (drop at line)) → shut ≡ depth_and_name dialect (drop at line)
    unfolding with_depth
    bad-depth q = ap (λ x. with_depth dialect x (drop (e + 1) line)) q ∙ sym parted

    pub good-depth : (n : ℕ) → Some n ≡ read_whole (take (e - at) (drop at line)) → Found line (depth_and_name dialect (drop at line)) (record { dialect = dialect; depth = n; name = e + 1 })
    unfolding with_depth config_on
    good-depth n q = record { same = ap (λ x. with_depth dialect x (drop (e + 1) line)) q ∙ sym parted; within = omega arith }

-- ---- the dialect, with the blank behind it as `find` gives it

module _ (line : List ℕ) (e : ℕ) (is : e ≡ bytes_before space line) where
  pub no-blank : length line ≤ e → shut ≡ line_one line
  unfolding line_one
  no-blank h = rw (le-ltb (bytes_before space line) (length line) (omega arith), line_one)

  pub laid_out : e < length line → depth_and_name (dialect_of (take e line)) (drop (e + 1) line) ≡ line_one line
  unfolding line_one
  laid_out h =
      let k : e + 1 ≡ suc (bytes_before space line) = omega arith in
      let w : dialect_of (take e line) ≡ dialect_of (take (bytes_before space line) line) = ap (λ (i : ℕ). dialect_of (take i line)) is in
      ap₂ (λ (d : Dialect) (i : ℕ). depth_and_name d (drop i line)) w k ∙ sym (rw (lt-ltb (bytes_before space line) (length line) (omega arith), line_one))

-- what was found, with the name as a part of the line that goes on to its end
pub found-config : (line : List ℕ) (t : Config) (r : FirstLine) → Found line t r
    → record { dialect = r.dialect; depth = r.depth; name = take (length line - r.name) (drop r.name line) } ≡ t
unfolding config_on
found-config line t r f =
    let l = length-drop r.name line in
    ap (λ (name : List ℕ). record { dialect = r.dialect; depth = r.depth; name = name }) (take_all (length line - r.name) (drop r.name line) (omega arith)) ∙ f.same
