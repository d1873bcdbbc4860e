-- `k_parts` meets its contract: wherever the loop stands, what was told with what the elements left will add is the answer, and the buffer has the
-- entries of the objects that were read.
-- Assumes nothing.
use mathlib.Core.Path.{◌≡◌, refl, sym, ap, ◌∙◌}
use mathlib.Core.List.{List, [], ◌∷◌, ◌++◌}
use Prim.Native.Nat.{ℕ, ◌≤◌}
use native.Mathlib.Omega.{arith}
use Rattle.json_tokens.proofs.Bounds.{end-broken}
use Rattle.json_tokens.specs.Ends.{end_of}
use Rattle.json_values.specs.Json.{Span, wrong, element, elements, value}
use Rattle.json_values.proofs.Bounds.{value_in}
use Rattle.json_values.proofs.Fold.{Stands, no-element, element-stands, fold-empty, fold_start, fold-wrong, fold-further, fold_on, fold-last, fold-broken}
use Rattle.entries.specs.Tally.{met}
use Rattle.entries.proofs.Entry.{end-or-zero}
use Rattle.message_k.specs.MembersK.{no_members, members_at}
use Rattle.message_k.specs.PartsK.{no_parts, with_outer, parts_in}
use Rattle.message_k.specs.declared.Members.{Members}
use Rattle.message_k.specs.declared.Outer.{Outer}
use Rattle.message_k.specs.declared.Parts.{Parts}
use Rattle.message_k.proofs.OnePart.{Step, with_outer_of, step-one, step-two, step_other, step_value, step_part}
use Rattle.message_k.proofs.Bearing.{over_parts, over_spans, Bears, no-element as none_yet, bears-few, Moved, moved-one, moved-two, moved_other, bears-next, parts-broken, parts-read}
use Rattle.message_k.proofs.k_parts.Goals as goal
use Rattle.message_k.proofs.k_parts.Goals.{Joined-outer, in-1, in-2, in_default-count}

-- the element where the loop stands was read, with its object, if it may be one
module _ (c : Joined-outer) where
  abbrev text : List ℕ
  text = c.args.s.now

  abbrev i : ℕ
  i = c.loop-buffer.i

  abbrev parts : Parts
  parts = c.loop-buffer.parts

  abbrev past : ℕ
  past = c.match-outer.past

  read : Step text parts i c.match-outer.parts past
  read =
      elim c.match-outer.branch [
        | in-1 w ↦ step-one text parts i w.k_object-parts.result w.in-1.is (w.k_object-parts.ensures.told ∙ ap (λ x. members_at text x i) w.no_members.ensures) w.parts-is w.past-is
        | in-2 w ↦ step-two text parts i w.k_object-parts-in-2.result w.in-2.is w.k_object-parts-in-2.ensures.told w.parts-is w.past-is
        | in_default-count w ↦ step_other text parts i (λ z. omega arith) (λ z. omega arith) w.unwrap_or-past.result (w.unwrap_or-past.ensures ∙ end-or-zero w.item_end.result ∙ ap end_of w.item_end.ensures) w.parts-is w.past-is
      ]

  moved : Moved text parts i c.loop-buffer.buffer c.match-outer.buffer c.match-outer.parts past
  moved =
      elim c.match-outer.branch [
        | in-1 w ↦ moved-one text parts i c.loop-buffer.buffer c.match-outer.buffer c.match-outer.parts past w.no_members.result _ w.k_object-parts.result w.in-1.is w.no_members.ensures w.k_object-parts.ensures w.buffer-is w.parts-is w.past-is
        | in-2 w ↦ moved-two text parts i c.loop-buffer.buffer c.match-outer.buffer c.match-outer.parts past (no_members 0) _ w.k_object-parts-in-2.result w.in-2.is w.k_object-parts-in-2.ensures w.buffer-is w.parts-is
        | in_default-count w ↦ moved_other text parts i c.loop-buffer.buffer c.match-outer.buffer c.match-outer.parts past (no_members 0) [] (no_members 0) (λ z. omega arith) (λ z. omega arith) c.loop-buffer.invariant.room w.buffer-is
      ]

  broken : past ≡ 0 → element (value 15 text) i ≡ wrong
  broken z = no-element 15 text i (end-broken past (omega arith) (value_in 15 text i) read.ends z)

  module _ (some : past ≡ 0 → ⊥) where
    abbrev one : Span
    one = record { from = i; to = past }

    stands : Stands (element (value 15 text)) text i one past
    stands = element-stands 15 text i past (step_value text parts i read some)

    -- the buffer bears what was read with the element, once a comma or the bracket follows
    bears-on : (u : Outer) → u ≡ with_outer text parts.outer one
        → (j : ℕ) → past ≤ j → Bears text (with_outer_of c.match-outer.parts u) j c.match-outer.buffer (c.loop-buffer.invariant.done ++ (one ∷ []))
    bears-on u h j on =
        let v = step_value text parts i read some in
        let b = stands.some in
        bears-next moved v b u h j on c.loop-buffer.invariant.room c.loop-buffer.invariant.bears

pub returns-in-Some : goal.returns-in-Some
unfolding parts_in elements
returns-in-Some c =
    let b = c in
    let a = b.args in
    let s = a.s.now in
    let end = c.in-Some.end in
    let none = sym c.in-Some.ensures in
    parts-read s (elements (value 15 s) s a.at) a.buffer.now b.requires c.no_parts.result
    (c.no_parts.ensures ∙ fold-empty (over_parts s) (no_parts 0) a.at end none)
    [] (fold-empty (over_spans s) [] a.at end none) {t = no_parts 0} {i = 0} (none_yet refl)

pub loop-buffer-init : goal.loop-buffer-init
unfolding elements
loop-buffer-init c =
    let b = c in
    let a = b.args in
    let s = a.s.now in
    let none = sym c.array_close_end.ensures ∙ c.in_default.is in
    let skip = c.skip_blanks-i in
    rw c.no_parts-parts.ensures
    (record {
      told = fold_start (over_parts s) (no_parts 0) a.at none skip.result skip.ensures;
      room = b.requires;
      done = [];
      spans = fold_start (over_spans s) [] a.at none skip.result skip.ensures;
      bears = none_yet refl;
    })

pub k_object-parts-requires : goal.k_object-parts-requires
k_object-parts-requires c =
    let e = ap (λ (x : Members). met x.tally) c.no_members.ensures in
    (omega arith, c.loop-buffer.invariant.room)

pub k_object-parts-requires-in-2 : goal.k_object-parts-requires-in-2
k_object-parts-requires-in-2 c = (bears-few c.in-2.is c.loop-buffer.invariant.bears, c.loop-buffer.invariant.room)

pub returns-then-past-eq0 : goal.returns-then-past-eq0
unfolding parts_in
returns-then-past-eq0 c =
    let s = c.args.s.now in
    let l = c.loop-buffer in
    let m = (goal.at.returns-then-past-eq0 c).Joined-outer in
    let w = broken m c.if-past-eq0.true in
    parts-broken s (elements (value 15 s) s c.args.at) c.match-outer.buffer (moved m).room c.no_parts-then-past-eq0.result
    (c.no_parts-then-past-eq0.ensures ∙ fold-wrong (over_parts s) l.parts l.invariant.told w)
    (fold-wrong (over_spans s) l.invariant.done l.invariant.spans w)

pub pass-parts-requires : goal.pass-parts-requires
pass-parts-requires c =
    let m = (goal.at.pass-parts-requires c).Joined-outer in
    step_value (text m) (parts m) (i m) (read m) c.if-past-eq0.false

-- ---- no comma behind the element

pub returns-in_default-array_close_end : goal.returns-in_default-array_close_end
unfolding parts_in
returns-in_default-array_close_end c =
    let s = c.args.s.now in
    let l = c.loop-buffer in
    let m = (goal.at.returns-in_default-array_close_end c).Joined-outer in
    let one = stands m c.if-past-eq0.false in
    let comma = sym c.comma_end.ensures ∙ c.in_default-comma_end.is in
    let close = sym c.array_close_end-in_default-comma_end.ensures ∙ c.in_default-array_close_end.is in
    parts-broken s (elements (value 15 s) s c.args.at) c.match-outer.buffer (moved m).room c.no_parts-in_default-array_close_end.result
    (c.no_parts-in_default-array_close_end.ensures ∙ fold-broken (over_parts s) l.parts l.invariant.told one comma close)
    (fold-broken (over_spans s) l.invariant.done l.invariant.spans one comma close)

pub returns-in_default-comma_end : goal.returns-in_default-comma_end
unfolding parts_in
returns-in_default-comma_end c =
    let s = c.args.s.now in
    let l = c.loop-buffer in
    let m = (goal.at.returns-in_default-comma_end c).Joined-outer in
    let some = c.if-past-eq0.false in
    let one = stands m some in
    let comma = sym c.comma_end.ensures ∙ c.in_default-comma_end.is in
    let end = c.in-Some-array_close_end.end in
    let close = sym c.in-Some-array_close_end.ensures in
    let p = c.pass-parts in
    parts-read s (elements (value 15 s) s c.args.at) c.match-outer.buffer (moved m).room _
    (fold-last (over_parts s) l.parts l.invariant.told one comma end close (step_part s l.parts l.i (read m) some p.result p.ensures))
    (l.invariant.done ++ (record { from = l.i; to = c.match-outer.past } ∷ []))
    (fold-last (over_spans s) l.invariant.done l.invariant.spans one comma end close refl)
    (bears-on m some p.result p.ensures c.match-outer.past (omega arith))

-- ---- a comma

pub loop-buffer-smaller : goal.loop-buffer-smaller
loop-buffer-smaller c =
    let s = c.args.s.now in
    let l = c.loop-buffer in
    let m = (goal.at.loop-buffer-smaller c).Joined-outer in
    let f = fold-further (over_parts s) l.parts l.invariant.told (stands m c.if-past-eq0.false) c.in-Some-comma_end.next (sym c.in-Some-comma_end.ensures) in
    omega arith

pub loop-buffer-preserved : goal.loop-buffer-preserved
loop-buffer-preserved c =
    let s = c.args.s.now in
    let l = c.loop-buffer in
    let m = (goal.at.loop-buffer-preserved c).Joined-outer in
    let some = c.if-past-eq0.false in
    let one = stands m some in
    let j = c.in-Some-comma_end.next in
    let comma = sym c.in-Some-comma_end.ensures in
    let p = c.pass-parts in
    let f = fold-further (over_parts s) l.parts l.invariant.told one j comma in
    record {
      told = fold_on (over_parts s) l.parts l.invariant.told one j comma (step_part s l.parts l.i (read m) some p.result p.ensures);
      room = (moved m).room;
      done = l.invariant.done ++ (record { from = l.i; to = c.match-outer.past } ∷ []);
      spans = fold_on (over_spans s) l.invariant.done l.invariant.spans one j comma refl;
      bears = bears-on m some p.result p.ensures j f.1;
    }
