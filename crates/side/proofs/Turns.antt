-- One turn of the loop over a message's entries, as the code takes it: from the entry in the buffer to the side after it. Assumes nothing.
use Prim.Native.Nat.{ℕ, ◌+◌, ◌≤◌, ◌<◌}
use mathlib.Core.Path.{◌≡◌, sym, ap, ◌∙◌, subst}
use mathlib.Core.Bool.{Bool, true, false, ◌||◌}
use mathlib.Core.List.{List}
use native.Mathlib.Omega.{arith}
use lib.ListN.{length, get_or, take}
use lib.Seq.{get_or-take, length-take-le}
use Rattle.checksum.specs.Carried.{level_for}
use Rattle.edit.specs.declared.Side.{Side}
use Rattle.edit.specs.Edit.{Edit, Numbers, is_same}
use Rattle.edit.specs.Buffer.{entries_in, no_numbers}
use Rattle.level.specs.declared.Level.{Level}
use Rattle.level.specs.Moved.{moves}
use Rattle.level.specs.Ranked.{replaces}
use Rattle.level.specs.Words.{level_price, change_of}
use Rattle.level.proofs.All.{all-at}
use Rattle.level.proofs.Moving.{moves-le}
use Rattle.level.proofs.Ranking.{apply_ranked}
use Rattle.settings.specs.declared.SumText.{SumText}
use Rattle.side.specs.declared.Step.{Step}
use Rattle.side.specs.Applying.{EntryWithin, Given}
use Rattle.side.specs.Working.{AfterChange}
use Rattle.side.proofs.Entries.{Turn, turn-pass, turn-room, turn_step, given-length}
use Rattle.side.proofs.Steps.{rank-one, count-le}

module _ (side : Side) (buffer : List ℕ) (count : ℕ) (g : Given side buffer count) (k : ℕ) (h : k < count) (e : Numbers)
    (is : e ≡ get_or (entries_in buffer) k no_numbers) where
  abbrev es : List Numbers
  es = take count (entries_in buffer)

  next : get_or es k no_numbers ≡ e
  next = get_or-take count (entries_in buffer) k no_numbers h ∙ sym is

  in-message : k < length es
  in-message = omega (arith, given-length g)

  pub entry-within : EntryWithin e
  entry-within = subst EntryWithin next (all-at EntryWithin es k no_numbers in-message g.within)

  module _ (text : SumText) (s : List Level) (n₀ : ℕ) (stood : n₀ ≤ 100) (a : List Level) (n gone : ℕ) (seen : Bool) (t : Turn text side es s n₀ a n gone seen k) where
    pub other-turn : is_same e.side side ≡ false → Turn text side es s n₀ a n gone seen (k + 1)
    other-turn o = turn-pass text side es s n₀ stood g.own a n gone k seen t in-message (subst (λ (x : Numbers). is_same x.side side ≡ false) (sym next) o)

    module _ (own : is_same e.side side ≡ true) where
      same : is_same (get_or es k no_numbers).side side ≡ true
      same = subst (λ (x : Numbers). is_same x.side side ≡ true) (sym next) own

      pub own-room : n < 200
      own-room = turn-room text side es s n₀ stood g.own a n gone k seen t in-message same

      pub own-turn : (d : Edit Level) → d ≡ change_of (level_for text) e → (c : List Level) (r : Step) → AfterChange side d (take n a) c r
          → Turn text side es s n₀ c r.count (gone + r.moved) (seen || r.replaced) (k + 1)
      own-turn d eq c r f =
          let q : d ≡ change_of (level_for text) (get_or es k no_numbers) = eq ∙ ap (change_of (level_for text)) (sym next) in
          turn_step text side es s n₀ stood g.own a n gone k seen t in-message same (subst EntryWithin (sym next) entry-within) c r.count r.moved (seen || r.replaced)
          f.room (omega (arith, count-le side d (take n a) c r f, length-take-le n a (omega (arith, t.fits, t.long))))
          (f.levels ∙ rank-one side d (take n a) t.sorted ∙ ap (λ (x : Edit Level). apply_ranked level_price side x (take n a)) q)
          (f.moved ∙ ap (λ (x : Edit Level). moves level_price side x (take n a)) q)
          (ap (λ (x : Bool). seen || x) (f.replaced ∙ ap (λ (x : Edit Level). replaces level_price x (take n a)) q))

      -- the levels that were moved can be counted
      pub few-moved : (d : Edit Level) (c : List Level) (r : Step) → AfterChange side d (take n a) c r → gone + r.moved ≤ 40200
      few-moved d c r f =
          omega (arith, t.small, g.few, h, f.moved, moves-le level_price side d (take n a), length-take-le n a (omega (arith, t.fits, t.long)), t.fits)
