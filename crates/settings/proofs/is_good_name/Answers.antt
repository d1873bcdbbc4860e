-- `is_good_name` meets its contract: the length, and then the bytes.
use Prim.Native.Nat.{ℕ, ◌≤◌, ◌<◌}
use mathlib.Core.Logic.{◌⊎◌, inl, inr}
use native.Mathlib.Omega.{arith}
use lib.ListN.{length}
use borrow.Author.Tests.{lt-leb}
use mathlib.Core.Path.{sym, ◌∙◌}
use Rattle.settings.proofs.Good.{short-name, long-name, name-bytes}
use Rattle.settings.proofs.is_good_name.Goals as goal
use Rattle.settings.proofs.is_good_name.Goals.{then-name-ge1, else-name-ge1}

pub returns-then-name-le-MAX_NAME : goal.returns-then-name-le-MAX_NAME
returns-then-name-le-MAX_NAME c =
    let fits = c.if-name-le-MAX_NAME.true in
    c.are_name_bytes.ensures ∙ sym (name-bytes c.args.name.now fits.0 fits.1)

long : (n : ℕ) → 1 ≤ n → ((1 ≤ n) × (16 < n)) ⊎ (n < 1) → 16 < n
long n h (inl p) = p.1
long n h (inr q) = omega arith

pub returns-else-name-le-MAX_NAME : goal.returns-else-name-le-MAX_NAME
returns-else-name-le-MAX_NAME c =
    let name = c.args.name.now in
    elim c.if-name-ge1.branch [
      | then-name-ge1 w ↦
          let h = w.if-name-ge1.true in
          let l = long (length name) h c.if-name-le-MAX_NAME.either in
          w.t-3-is ∙ lt-leb (length name) 16 l ∙ sym (long-name name h l)
      | else-name-ge1 w ↦ w.t-3-is ∙ lt-leb 1 (length name) w.if-name-ge1.false ∙ sym (short-name name w.if-name-ge1.false)
    ]
