-- Check 8 by the tally: a position of 0 says that no text breaks it, and any other is where the first entry begins that does. Assumes nothing.
use Rattle.std.specs.Prelude.{None, Option, Some}
use Prim.Native.Nat.{ℕ, suc, ◌+◌, ◌≤◌, ◌<◌}
use mathlib.Core.Path.{◌≡◌, refl, sym, ap, ◌∙◌, subst}
use mathlib.Core.Bool.{Bool, true, false, true≢false, ◌||◌, cond}
use mathlib.Core.List.{List, [], ◌∷◌, ◌++◌, map}
use mathlib.Core.Logic.{◌⊎◌, inl, inr, ⊎_elim}
use native.Mathlib.Omega.{arith}
use borrow.Author.Tests.{eq-eqb, ne_eqb}
use lib.Dec.{eqb}
use lib.ListN.{length}
use Rattle.text.specs.Text.{byte_at}
use Rattle.edit.specs.declared.Side.{Side}
use Rattle.json_values.specs.Json.{Span, Items, items, no_items, elements, value}
use Rattle.json_values.specs.Claims.{InOrder, then, IsElement}
use Rattle.json_values.specs.Fold.{fold_from}
use Rattle.json_values.proofs.Claims.{elements-in-order, ends-within}
use Rattle.entries.specs.Places.{and_then, all, and_also, contents, array_at}
use Rattle.entries.specs.Rows.{Row, Entry, sided, entry_of, entries_at, sided_at, bad_price, bad_size, is_bad, bad_texts, first_of}
use Rattle.entries.specs.Found.{entry_place_of, price_span, size_span, entry_place_at, Placed}
use Rattle.entries.specs.Tally.{none_yet, earliest, with_entry, one_more, tally_of}
use Rattle.entries.specs.declared.Form.{Form}
use Rattle.entries.specs.declared.EntryPlace.{EntryPlace}
use Rattle.entries.specs.declared.Tally.{Tally}
use Rattle.entries.proofs.Strings.{StringAt, sound, no_row, same_row, entry_whole}
use Rattle.entries.proofs.Found.{found-is, found-laid}
use Rattle.entries.proofs.Tallies.{also-reads}

-- ---- entries that stand in the text, not at its start

pub record Here (form : Form) (depth : ℕ) (s : List ℕ) (e : Entry) : Type 0 where
  pub ends : value depth s e.row.whole.from ≡ Some e.row.whole.to
  pub is-entry : entry_of form depth s e.row.whole ≡ Some e.row
  pub later : 0 < e.row.whole.from
  pub inside : e.row.whole.to ≤ length s

pub data AllHere (form : Form) (depth : ℕ) (s : List ℕ) : List Entry → Type 0 where
  none_here : AllHere form depth s []
  more-here : (e : Entry) (es : List Entry) → Here form depth s e → AllHere form depth s es → AllHere form depth s (e ∷ es)

pub here-strings : {form : Form} {depth : ℕ} {s : List ℕ} {e : Entry} → Here form depth s e → StringAt s e.row.price × StringAt s e.row.size
here-strings {form} {depth} {s} {e} h = sound form depth s e.row.whole e.row h.is-entry

module _ {form : Form} {depth : ℕ} {s : List ℕ} where
  pub here-append : {l m : List Entry} → AllHere form depth s l → AllHere form depth s m → AllHere form depth s (l ++ m)
  here-append none_here b = b
  here-append {m = m} (more-here e es h a) b = more-here e (es ++ m) h (here-append a b)

  pub here-none : (es : List Entry) → Some [] ≡ Some es → AllHere form depth s es
  here-none es h = subst (AllHere form depth s) (sym (same_row h)) none_here

  pub here-also : (x y : Option (List Entry)) → ((es : List Entry) → x ≡ Some es → AllHere form depth s es) → ((es : List Entry) → y ≡ Some es → AllHere form depth s es)
      → (es : List Entry) → and_also x y ≡ Some es → AllHere form depth s es
  here-also x y f g es h =
      let b = also-reads x y es h in
      subst (AllHere form depth s) (sym b.both) (here-append (f b.front b.reads-front) (g b.back b.reads-back))

-- those of an array
module _ (side : Side) (form : Form) (depth : ℕ) (s : List ℕ) where
  entry_here : (a : Span) (r : Row) → value depth s a.from ≡ Some a.to → entry_of form depth s a ≡ Some r → 0 < a.from → Here form depth s (sided side r)
  entry_here a r v h p =
      let w : r.whole ≡ a = entry_whole form depth s a r h in
      record { ends = rw w v; is-entry = ap (entry_of form depth s) w ∙ h; later = rw w p; inside = rw w (ends-within depth s a.from a.to v).1 }

  all_here : (hi lo : ℕ) (l : List Span) → 0 < lo → InOrder (IsElement depth s) hi lo l → (rows : List Row) → all (entry_of form depth s) l ≡ Some rows
      → AllHere form depth s (map (sided side) rows)
  unfolding all and_then
  all_here hi lo [] p o rows h = subst (λ (l : List Row). AllHere form depth s (map (sided side) l)) (sym (same_row h)) none_here
  all_here hi lo (a ∷ l) p (then lo1 from to b k x y z o) rows h =
      let i = z.begins in
      go (entry_of form depth s a) refl (all (entry_of form depth s) l) (λ rs q. all_here hi to l (omega arith) o rs q) h
    where
      go : (y : Option Row) → entry_of form depth s a ≡ y → (z : Option (List Row)) → ((rs : List Row) → z ≡ Some rs → AllHere form depth s (map (sided side) rs))
          → and_then y (λ b. and_then z (λ bs. Some (b ∷ bs))) ≡ Some rows → AllHere form depth s (map (sided side) rows)
      go (Some r) q (Some rs) later g =
          subst (λ (l : List Row). AllHere form depth s (map (sided side) l)) (sym (same_row g))
          (more-here (sided side r) (map (sided side) rs) (entry_here a r z.a_value q (omega arith)) (later rs refl))
      go (Some r) q None later g = no_row g
      go None q w later g = no_row g

  pub sided-here : (a : Span) (es : List Entry) → sided_at side form (suc depth) s a ≡ Some es → AllHere form depth s es
  unfolding sided_at entries_at array_at contents and_then
  sided-here a es h = go (eqb (byte_at s a.from) 91) h
    where
      rows-here : (l : List Span) (e : ℕ) → elements (value depth s) s (a.from + 1) ≡ items l e → (y : Option (List Row)) → all (entry_of form depth s) l ≡ y
          → and_then y (λ rows. Some (map (sided side) rows)) ≡ Some es → AllHere form depth s es
      rows-here l e q (Some rows) p g =
          subst (AllHere form depth s) (sym (same_row g)) (all_here e (a.from + 1) l (omega arith) (elements-in-order depth s (a.from + 1) l e q).0 rows p)
      rows-here l e q None p g = no_row g

      items-here : (x : Items Span) → elements (value depth s) s (a.from + 1) ≡ x
          → and_then (and_then (contents x) (all (entry_of form depth s))) (λ rows. Some (map (sided side) rows)) ≡ Some es → AllHere form depth s es
      items-here (items l e) q g = rows-here l e q (all (entry_of form depth s) l) refl g
      items-here no_items q g = no_row g

      go : (b : Bool) → and_then (and_then (cond b (contents (elements (value depth s) s (a.from + 1))) None) (all (entry_of form depth s))) (λ rows. Some (map (sided side) rows)) ≡ Some es
          → AllHere form depth s es
      go true g = items-here (elements (value depth s) s (a.from + 1)) refl g
      go false g = no_row g

no-list : {A B : Type 0} {a : A} {l : List A} → ◌≡◌ {A = List A} (a ∷ l) [] → B
no-list h = let z : ◌≡◌ {A = ℕ} 0 1 = cc in absurd (omega arith)

-- ---- the texts of one entry: p and z tell whether its price and its size are refused, l is what is refused of the others

module _ (a b : Span) (l : List Span) where
  abbrev texts : Bool → Bool → List Span
  texts p z = cond p (a ∷ []) [] ++ (cond z (b ∷ []) [] ++ l)

  texts-good : (p z : Bool) → (p || z) ≡ false → texts p z ≡ l
  texts-good true z h = absurd (true≢false h)
  texts-good false true h = absurd (true≢false h)
  texts-good false false h = refl

  texts-bad : (p z : Bool) → (p || z) ≡ true → first_of (texts p z) ≡ cond p a b
  unfolding first_of
  texts-bad true z h = refl
  texts-bad false true h = refl
  texts-bad false false h = absurd (true≢false (sym h))

  texts-some : (p z : Bool) → (p || z) ≡ true → texts p z ≡ [] → ⊥
  texts-some true z h g = no-list g
  texts-some false true h g = no-list g
  texts-some false false h g = true≢false (sym h)

-- ---- where the first of them begins, in a snapshot or not

abbrev pub bad_at : Bool → Tally → ℕ
bad_at true t = t.strict_at
bad_at false t = t.broken_at

module _ (snapshot : Bool) (s : List ℕ) where
  bad-one : (t : Tally) (e : Entry) → bad_at snapshot (one_more 0 s t e) ≡ earliest (bad_at snapshot t) (is_bad snapshot s e.row) (0 + e.row.whole.from)
  unfolding one_more with_entry
  bad-one t e = go snapshot
    where
      go : (b : Bool) → bad_at b (one_more 0 s t e) ≡ earliest (bad_at b t) (is_bad b s e.row) (0 + e.row.whole.from)
      go true = refl
      go false = refl

  -- what is known stays
  earliest-known : (k n : ℕ) (b : Bool) → (k ≡ 0 → ⊥) → earliest k b n ≡ k
  unfolding earliest
  earliest-known k n b h = rw (ne_eqb k 0 h)

  earliest-yes : (k n : ℕ) → k ≡ 0 → earliest k true n ≡ n
  unfolding earliest
  earliest-yes k n h = rw (eq-eqb k 0 h)

  earliest-no : (k n : ℕ) → k ≡ 0 → earliest k false n ≡ 0
  unfolding earliest
  earliest-no k n h = rw (eq-eqb k 0 h) h

  bad-stays : (t : Tally) (es : List Entry) → (bad_at snapshot t ≡ 0 → ⊥) → bad_at snapshot (fold_from (one_more 0 s) t es) ≡ bad_at snapshot t
  unfolding fold_from
  bad-stays t [] h = refl
  bad-stays t (e ∷ es) h =
      let q : bad_at snapshot (one_more 0 s t e) ≡ bad_at snapshot t = bad-one t e ∙ earliest-known (bad_at snapshot t) (0 + e.row.whole.from) (is_bad snapshot s e.row) h in
      bad-stays (one_more 0 s t e) es (λ z. h (sym q ∙ z)) ∙ q

  module _ (form : Form) (depth : ℕ) where
    -- the first of es that is bad begins at `at`
    record Bad (es : List Entry) (at : ℕ) : Type 0 where
      which : Entry
      stands : Here form depth s which
      begins : at ≡ which.row.whole.from
      first : first_of (bad_texts snapshot s es) ≡ cond (bad_price s which.row.price) which.row.price which.row.size
      some : bad_texts snapshot s es ≡ [] → ⊥

    abbrev Verdict : List Entry → ℕ → Type 0
    Verdict es at = ((at ≡ 0) × (bad_texts snapshot s es ≡ [])) ⊎ Bad es at

    judged : (t : Tally) (es : List Entry) → AllHere form depth s es → bad_at snapshot t ≡ 0 → Verdict es (bad_at snapshot (fold_from (one_more 0 s) t es))
    unfolding fold_from bad_texts is_bad
    judged t [] all-stand h = inl (h, refl)
    judged t (e ∷ es) (more-here e1 es1 stands all-stand) h = go (is_bad snapshot s e.row) refl (judged next es all-stand)
      where
        next : Tally
        next = one_more 0 s t e

        begins : ℕ
        begins = 0 + e.row.whole.from

        at : ℕ
        at = bad_at snapshot (fold_from (one_more 0 s) next es)

        now : (b : Bool) → is_bad snapshot s e.row ≡ b → bad_at snapshot next ≡ earliest (bad_at snapshot t) b begins
        now b q = bad-one t e ∙ ap (λ (c : Bool). earliest (bad_at snapshot t) c begins) q

        onward : is_bad snapshot s e.row ≡ false → Verdict es at → Verdict (e ∷ es) at
        onward q x =
            let g = texts-good e.row.price e.row.size (bad_texts snapshot s es) (bad_price s e.row.price) (bad_size snapshot s e.row.size) q in
            ⊎_elim (λ p. inl (p.0, g ∙ p.1))
            (λ b. inr (record { which = b.which; stands = b.stands; begins = b.begins; first = ap first_of g ∙ b.first; some = λ n. b.some (sym g ∙ n) })) x

        go : (b : Bool) → is_bad snapshot s e.row ≡ b → (bad_at snapshot next ≡ 0 → Verdict es at) → Verdict (e ∷ es) at
        go true q later =
            let k : bad_at snapshot next ≡ begins = now true q ∙ earliest-yes (bad_at snapshot t) begins h in
            let p = stands.later in
            inr (record {
              which = e;
              stands = stands;
              begins = bad-stays next es (λ z. omega arith) ∙ k ∙ omega arith;
              first = texts-bad e.row.price e.row.size (bad_texts snapshot s es) (bad_price s e.row.price) (bad_size snapshot s e.row.size) q;
              some = texts-some e.row.price e.row.size (bad_texts snapshot s es) (bad_price s e.row.price) (bad_size snapshot s e.row.size) q;
            })
        go false q later = onward q (later (now false q ∙ earliest-no (bad_at snapshot t) begins h))

-- ---- of the entries of a message; bad_at false is `broken_at`, and bad_at true `strict_at`

-- the first bad text is the price or the size of the entry that begins at `at`
pub record FirstBad (form : Form) (depth : ℕ) (s : List ℕ) (snapshot : Bool) (es : List Entry) (at : ℕ) : Type 0 where
  pub formed : (entry_place_at form depth s at).well_formed ≡ true
  pub placed : Placed s (entry_place_at form depth s at)
  pub first : first_of (bad_texts snapshot s es)
      ≡ cond (bad_price s (price_span (entry_place_at form depth s at))) (price_span (entry_place_at form depth s at)) (size_span (entry_place_at form depth s at))

module _ (snapshot : Bool) (s : List ℕ) (form : Form) (depth : ℕ) (es : List Entry) (stand : AllHere form depth s es) where
  abbrev at : ℕ
  at = bad_at snapshot (tally_of s es)

  none_first : bad_at snapshot none_yet ≡ 0
  none_first = go snapshot
    where
      go : (b : Bool) → bad_at b none_yet ≡ 0
      go true = refl
      go false = refl

  verdict : Verdict snapshot s form depth es at
  verdict = judged snapshot s form depth none_yet es stand none_first

  pub bad-none : bad_texts snapshot s es ≡ [] → at ≡ 0
  bad-none h = ⊎_elim (λ p. p.0) (λ b. absurd (b.some h)) verdict

  pub none-bad : at ≡ 0 → bad_texts snapshot s es ≡ []
  none-bad h = ⊎_elim (λ p. p.1) (λ b. let l = b.stands.later in let n = b.begins in absurd (omega arith)) verdict

  pub first-bad : (at ≡ 0 → ⊥) → FirstBad form depth s snapshot es at
  unfolding entry_place_of
  first-bad n = ⊎_elim (λ p. absurd (n p.0)) told verdict
    where
      told : Bad snapshot s form depth es at → FirstBad form depth s snapshot es at
      told b = record { formed = formed; placed = found-laid form depth s at (entry_place_at form depth s at) refl formed; first = rw found b.first }
        where
          row : Row
          row = b.which.row

          found : entry_place_at form depth s at ≡ entry_place_of row.whole.to (Some row)
          found =
              ap (entry_place_at form depth s) b.begins
              ∙ found-is form depth s row.whole.from (entry_place_at form depth s row.whole.from) refl row.whole.to b.stands.ends
              ∙ ap (entry_place_of row.whole.to) b.stands.is-entry

          formed : (entry_place_at form depth s at).well_formed ≡ true
          formed = ap (λ (x : EntryPlace). x.well_formed) found
