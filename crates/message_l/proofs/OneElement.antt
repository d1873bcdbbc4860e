-- The value of a member `data`: whether it is an array of one, and where that begins. Assumes nothing.
use Rattle.std.specs.Prelude.{None, Option, Some, ℕ, is_some}
use Prim.Native.Nat.{ℕ, ◌+◌}
use mathlib.Core.Path.{◌≡◌, refl, sym, ap, ◌∙◌}
use mathlib.Core.Bool.{Bool, true, false, true≢false}
use mathlib.Core.List.{List}
use native.Mathlib.Omega.{arith}
use borrow.Author.Tests.{eq-eqb, ne_eqb}
use lib.Dec.{eqb}
use lib.ListN.{length}
use Rattle.text.specs.Text.{byte_at}
use Rattle.json_tokens.specs.Tokens.{blanks, closing, separator}
use Rattle.json_tokens.specs.Ends.{end_of}
use Rattle.json_tokens.proofs.Laws.{end-at}
use Rattle.json_tokens.proofs.Bounds.{bounds, end-broken, blanks-in, separator-in}
use Rattle.json_values.specs.Json.{Span, Next, item, wrong, Items, items, no_items, items_end, prepended, onward, element, elements, value}
use Rattle.json_values.proofs.Laws.{value-array, element-is, element-wrong}
use Rattle.json_values.proofs.Bounds.{value_in}
use Rattle.json_values.proofs.Walk.{Walk, walk-empty, walk_start, walk-wrong, walk-on, walk-last, walk-broken}
use Rattle.entries.specs.Places.{and_then, contents, array_at, object_at, only}
use Rattle.entries.proofs.Strings.{no_row, same_row}
use Rattle.message_l.specs.Collected.{one_in, not_one, data_from, data_span, data_at, ObjectRead, DataRead}
use Rattle.message_l.specs.declared.Listing.{Listing}
use Rattle.message_l.specs.declared.Data.{Data}

pub no-end : (x : Option ℕ) → is_some x ≡ false → x ≡ None
no-end (Some e) h = absurd (true≢false h)
no-end None h = refl

module _ (s : List ℕ) (at : ℕ) where
  abbrev one : ℕ → Next Span
  one = element (value 14 s)

  abbrev answer : Items Span → Option Span
  answer x = and_then (contents x) only

  -- no array
  pub one-other : (byte_at s at ≡ 91 → ⊥) → one_in s (data_span s at) ≡ None
  unfolding one_in array_at and_then
  one-other h = rw (ne_eqb (byte_at s at) 91 h)

  module _ (opens : byte_at s at ≡ 91) where
    one-is : answer (elements (value 14 s) s (at + 1)) ≡ one_in s (data_span s at)
    unfolding one_in array_at
    one-is = sym (rw (eq-eqb (byte_at s at) 91 opens))

    pub one-empty : is_some (closing 93 s (at + 1)) ≡ true → one_in s (data_span s at) ≡ None
    unfolding elements contents and_then only
    one-empty n = go (closing 93 s (at + 1)) refl n
      where
        go : (x : Option ℕ) → closing 93 s (at + 1) ≡ x → is_some x ≡ true → one_in s (data_span s at) ≡ None
        go (Some e) q h = sym one-is ∙ sym (walk-empty one 93 s answer (at + 1) e q)
        go None q h = absurd (true≢false (sym h))

    module _ (shut : closing 93 s (at + 1) ≡ None) (i : ℕ) (b : i ≡ blanks s (at + 1)) where
      started : {R : Type 0} (f : Items Span → R) → Walk one 93 s f i (one i) (f (elements (value 14 s) s (at + 1)))
      unfolding elements
      started f = rw b (walk_start one 93 s f (at + 1) (blanks-in s (at + 1)).0 shut)

      module _ (e : ℕ) (v : e ≡ end_of (value 14 s i)) where
        pub one-wrong : e ≡ 0 → one_in s (data_span s at) ≡ None
        unfolding contents and_then
        one-wrong y = sym one-is ∙ sym (walk-wrong one 93 s answer (started answer) (element-wrong (value 14 s) i (end-broken e (omega arith) (value_in 14 s i) v y)))

        module _ (y : e ≡ 0 → ⊥) where
          abbrev here : Span
          here = record { from = i; to = e }

          ended : value 14 s i ≡ Some e
          ended = end-at (value 14 s i) e v y

          -- another element follows
          pub one-many : is_some (separator 44 s e) ≡ true → one_in s (data_span s at) ≡ None
          unfolding contents and_then only element onward prepended
          one-many n = behind (separator 44 s e) refl n
            where
              more : (x : Items Span) (a : Span) → answer (prepended here (prepended a x)) ≡ None
              more (items r u) a = refl
              more no_items a = refl

              go : (l : ℕ) (rest : ℕ → Items Span) (x : Option ℕ) → answer (prepended here (onward rest (elim x [ Some u ↦ item (record { from = l; to = u }) u | None ↦ wrong ]))) ≡ None
              go l rest (Some u) = more (rest u) (record { from = l; to = u })
              go l rest None = refl

              behind : (x : Option ℕ) → separator 44 s e ≡ x → is_some x ≡ true → one_in s (data_span s at) ≡ None
              behind (Some l) q h =
                  let p = bounds e (value_in 14 s i) ended in
                  let k = bounds l (separator-in s 44 e (omega arith)) q in
                  let w = walk-on one 93 s answer (started answer) here e (element-is (value 14 s) i e ended) (omega arith) p.1 l (omega arith) q (λ (x : Items Span). answer (prepended here x)) (λ x. refl) in
                  sym one-is ∙ sym w.makes ∙ go l _ (value 14 s l)
              behind None q h = absurd (true≢false (sym h))

          module _ (n : separator 44 s e ≡ None) where
            pub one-broken : closing 93 s e ≡ None → one_in s (data_span s at) ≡ None
            unfolding contents and_then
            one-broken d =
                let p = bounds e (value_in 14 s i) ended in
                sym one-is ∙ sym (walk-broken one 93 s answer (started answer) here e (element-is (value 14 s) i e ended) (omega arith) p.1 n d)

            module _ (u : ℕ) (d : closing 93 s e ≡ Some u) where
              pub one-here : one_in s (data_span s at) ≡ Some here
              unfolding contents and_then only
              one-here =
                  let p = bounds e (value_in 14 s i) ended in
                  sym one-is ∙ sym (walk-last one 93 s answer (started answer) here e (element-is (value 14 s) i e ended) (omega arith) p.1 u n d)

              pub one_end : u ≡ end_of (value 15 s at)
              unfolding items_end end_of
              one_end =
                  let p = bounds e (value_in 14 s i) ended in
                  ap end_of (walk-last one 93 s items_end (started items_end) here e (element-is (value 14 s) i e ended) (omega arith) p.1 u n d ∙ sym (value-array s at 14 opens))

-- ---- the answers

module _ (name s : List ℕ) (at : ℕ) (after : List ℕ) (room : length after ≡ 1536) where
  pub data-none : (r : Data) (e : ℕ) → r ≡ not_one e → e ≡ end_of (value 15 s at) → one_in s (data_span s at) ≡ None → DataRead name s at after r
  unfolding data_at data_from
  data-none r e is h none =
      record { told = is ∙ ap not_one h ∙ sym (ap (data_from name s (end_of (value 15 s at))) none); room = room; holds = λ a q. no_row (sym none ∙ q) }

  pub data-one : (i : ℕ) (l : Listing) → ObjectRead name s i after l → (e : ℕ) → one_in s (data_span s at) ≡ Some (record { from = i; to = e }) → (u : ℕ) → u ≡ end_of (value 15 s at)
      → (b : Bool) → b ≡ eqb (byte_at s i) 123 → DataRead name s at after (record { end = u; one = b; listing = l })
  unfolding data_at data_from object_at
  data-one i l h e is u p b q =
      record {
        told = rw (p, q, h.told) (sym (ap (data_from name s (end_of (value 15 s at))) is));
        room = room;
        holds = λ a g ms k. h.holds ms (ap (λ (x : Span). object_at 14 s x) (sym (same_row (sym is ∙ g))) ∙ k);
      }
