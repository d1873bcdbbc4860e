-- Laws of two words at the front of a list. Assumes nothing.
use Prim.Native.Nat.{ℕ, ◌≤◌, ◌<◌}
use mathlib.Core.Path.{◌≡◌, refl, sym, ap, ◌∙◌}
use mathlib.Core.Bool.{Bool, cond}
use mathlib.Core.List.{List, [], ◌∷◌}
use native.Mathlib.Omega.{arith}
use borrow.Author.Tests.{lt-ltb, le-ltb}
use lib.ListN.{length, set}
use Rattle.json_values.specs.Json.{Span}
use Rattle.message.specs.Bad.{part_of}
use Rattle.message.specs.declared.Part.{Part}
use Rattle.bad_text.specs.Words.{placed, Placed}

-- A list that is too short stays.
short-stays : (a : Span) (s : List ℕ) → length s < 2 → s ≡ placed a s
unfolding placed
short-stays a [] h = refl
short-stays a (n ∷ []) h = refl
short-stays a (m ∷ (n ∷ ns)) h = absurd (omega arith)

pub none-placed : (a : Span) (s : List ℕ) → length s < 2 → Placed a s s 0
none-placed a s h = record { out = short-stays a s h; count = ap (λ (b : Bool). cond b 0 2) (sym (lt-ltb (length s) 2 h)) }

-- Two stores.
stores : (a : Span) (s : List ℕ) → 2 ≤ length s → set (set s 0 a.from) 1 a.to ≡ placed a s
unfolding placed
stores a [] h = absurd (omega arith)
stores a (n ∷ []) h = absurd (omega arith)
stores a (m ∷ (n ∷ ns)) h = refl

pub both-placed : (a : Span) (s : List ℕ) (p : Part) → p ≡ part_of a → 2 ≤ length s → Placed a s (set (set s 0 p.from) 1 p.to) 2
unfolding part_of
both-placed a s p is h =
    record {
      out = ap (λ (q : Part). set (set s 0 q.from) 1 q.to) is ∙ stores a s h;
      count = ap (λ (b : Bool). cond b 0 2) (sym (le-ltb (length s) 2 h));
    }
