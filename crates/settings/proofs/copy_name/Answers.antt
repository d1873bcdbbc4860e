-- `copy_name` meets its contract: the name's bytes, and past them those of an array of 0.
use Prim.Native.Nat.{ℕ, ◌+◌, ◌-◌, ◌≤◌}
use mathlib.Core.Path.{◌≡◌, ap, ◌∙◌}
use mathlib.Core.List.{List, ◌++◌}
use native.Mathlib.Omega.{arith}
use lib.ListN.{length, drop, replicate, length-append, length-replicate}
use lib.Seq.{take-append_seam}
use Rattle.std.proofs.lemmas.List.{drop-replicate}
use Rattle.settings.specs.Kept.{Copied, padded}
use Rattle.settings.proofs.copy_name.Goals as goal

copied : (name copy : List ℕ) → length name ≤ 16 → copy ≡ name → Copied name (copy ++ drop (length name) (replicate 16 0))
unfolding padded
copied name copy h e =
    let whole : length name + (16 - length name) ≡ 16 = omega arith in
    let zeros = drop-replicate (length name) 16 0 in
    let count = ap length zeros ∙ length-replicate (16 - length name) 0 in
    rw e
    record {
      is = ap (λ (l : List ℕ). name ++ l) zeros;
      room = length-append name (drop (length name) (replicate 16 0)) ∙ ap (λ (n : ℕ). length name + n) count ∙ whole;
      front = take-append_seam name _;
    }

pub returns : goal.returns
returns c = copied c.args.name.now _ c.requires c.copy_from_slice.ensures.after
