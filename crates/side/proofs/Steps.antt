-- What one change leaves of a side that is worked. Assumes nothing.
use Prim.Native.Nat.{ℕ, ◌+◌, ◌-◌, ◌≤◌, ◌<◌}
use mathlib.Core.Path.{◌≡◌, refl, sym, ap, ◌∙◌}
use mathlib.Core.Bool.{Bool, true, false}
use mathlib.Core.List.{List}
use native.Mathlib.Omega.{arith}
use lib.ListN.{length, set, take, length-set}
use lib.Seq.{length-take-le, take-set-lt}
use Rattle.std.specs.List.{insert, remove}
use Rattle.decimal.specs.Decimal.{Number, value}
use Rattle.edit.specs.declared.Side.{Side}
use Rattle.edit.specs.Edit.{Edit, sets, removes}
use Rattle.level.specs.declared.Level.{Level}
use Rattle.level.specs.Side.{standing, without, apply, ranked}
use Rattle.level.specs.Ranked.{Sorted, replaces}
use Rattle.level.specs.Moved.{moves, place_of}
use Rattle.level.specs.Words.{level_price, no_level}
use Rattle.level.proofs.Lengths.{length-ranked, length-apply}
use Rattle.level.proofs.Moving.{moves-replaced, moves-inserted, moves-removed, moves-absent}
use Rattle.level.proofs.Ranking.{apply_ranked, commute, sorted-ranked}
use Rattle.side.specs.declared.Step.{Step}
use Rattle.side.specs.Working.{Working, AfterChange}
use Rattle.side.proofs.Find.{place-le, stands-in, set_new, set_same, remove-same, remove-none}

abbrev pub key : Level → ℕ
key level = value (level_price level)

abbrev pub step : ℕ → ℕ → Bool → Step
step count moved replaced = record { count = count; moved = moved; replaced = replaced }

-- on a side in order, ranking after a change is the change at its place
pub rank-one : (side : Side) (e : Edit Level) (s : List Level) → Sorted level_price side s → ranked level_price side (apply level_price e s) ≡ apply_ranked level_price side e s
rank-one side e s o = commute level_price side e s ∙ ap (apply_ranked level_price side e) (sorted-ranked level_price side s o)

changed : (side : Side) (e : Edit Level) (s a : List Level) (m by : ℕ) (now : Bool) → Sorted level_price side s → length a ≡ 200 → m ≤ 200
    → take m a ≡ apply_ranked level_price side e s → moves level_price side e s ≡ by → now ≡ replaces level_price e s → AfterChange side e s a (step m by now)
changed side e s a m by now o l h q g f =
    let eq : take m a ≡ ranked level_price side (apply level_price e s) = q ∙ sym (rank-one side e s o) in
    record {
      room = l;
      levels = eq;
      count = sym (length-take-le m a (omega arith)) ∙ ap length eq ∙ length-ranked level_price side (apply level_price e s);
      moved = sym g;
      replaced = f;
    }

module _ (side : Side) (a : List Level) (n at v : ℕ) (w : Working side a n) (is : at ≡ place_of level_price side v (take n a)) where
  abbrev s : List Level
  s = take n a

  long : length s ≡ n
  long = length-take-le n a (omega (arith, w.room, w.few))

  -- the place is in the side; a level that stands there is
  pub inside : at ≤ n
  inside = omega (arith, place-le level_price side s v at w.sorted is, long)

  pub below-count : standing level_price v s ≡ true → at < n
  below-count t = omega (arith, stands-in level_price side s v at w.sorted is t, long)

  pub after-replaced : (x : Level) → key x ≡ v → standing level_price v s ≡ true → AfterChange side (sets x) s (set a at x) (step n 0 true)
  unfolding replaces
  after-replaced x e t =
      changed side (sets x) s (set a at x) n 0 true w.sorted (simp length-set w.room) w.few
      (take-set-lt n a at x (below-count t) ∙ set_same level_price side s v at w.sorted is no_level t x e)
      (moves-replaced level_price side v s x e t) (sym (ap (λ (k : ℕ). standing level_price k s) e ∙ t))

  pub after-inserted : (x : Level) → key x ≡ v → standing level_price v s ≡ false → n < 200 → (c : List Level) → length c ≡ 200 → take (n + 1) c ≡ insert s at x
      → AfterChange side (sets x) s c (step (n + 1) (n - at) false)
  unfolding replaces
  after-inserted x e f r c l q =
      changed side (sets x) s c (n + 1) (n - at) false w.sorted l (omega arith)
      (q ∙ set_new level_price side s v at w.sorted is no_level f x e)
      (moves-inserted level_price side v s x n at e f long (sym is)) (sym (ap (λ (k : ℕ). standing level_price k s) e ∙ f))

  pub after-absent : (p : Number) → value p ≡ v → standing level_price v s ≡ false → AfterChange side (removes p) s a (step n 0 false)
  unfolding replaces apply_ranked
  after-absent p e f =
      changed side (removes p) s a n 0 false w.sorted w.room w.few
      (remove-none level_price side s v at w.sorted is no_level f ∙ ap (λ (k : ℕ). without level_price k s) (sym e))
      (moves-absent level_price side v s p e f) refl

  pub after-removed : (p : Number) → value p ≡ v → standing level_price v s ≡ true → (c : List Level) → length c ≡ 200 → take (n - 1) c ≡ remove s at
      → AfterChange side (removes p) s c (step (n - 1) (n - 1 - at) false)
  unfolding replaces apply_ranked
  after-removed p e t c l q =
      changed side (removes p) s c (n - 1) (n - 1 - at) false w.sorted l (omega (arith, w.few))
      (q ∙ remove-same level_price side s v at w.sorted is no_level t ∙ ap (λ (k : ℕ). without level_price k s) (sym e))
      (moves-removed level_price side v s p n at e t long (sym is)) refl

-- one more level than there were, at the most
pub count-le : (side : Side) (e : Edit Level) (s a : List Level) (t : Step) → AfterChange side e s a t → t.count ≤ length s + 1
count-le side e s a t r = omega (arith, r.count, length-apply level_price e s)
