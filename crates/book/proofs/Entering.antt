-- A message that passes checks 2 to 8 is what its outline and the buffer say.
-- Assumes nothing.
use Rattle.std.specs.Prelude.{None, Option, Some, Ok}
use mathlib.Core.Path.{◌≡◌, refl, sym, ap, ap₂, ◌∙◌, subst}
use mathlib.Core.List.{List, [], ◌∷◌, map, ◌++◌}
use mathlib.Core.Bool.{Bool, true, false, true≢false, cond}
use Prim.Native.Nat.{ℕ, ◌≤◌, ◌<◌, ◌+◌, ◌^◌}
use native.Mathlib.Omega.{arith}
use lib.ListN.{length, take, length-map}
use lib.Seq.{take_all}
use Rattle.decimal.specs.Decimal.{Number, read, is_zero}
use Rattle.json_values.specs.Json.{Span}
use Rattle.settings.specs.Kept.{config_of}
use Rattle.edit.specs.Edit.{Numbers, is_same, for_side, side_of}
use Rattle.edit.specs.Buffer.{max_buffered, entries_in}
use Rattle.edit.specs.declared.Side.{Side}
use Rattle.edit.specs.declared.Side.TheVariants.{Bids, Asks}
use Rattle.level.specs.Ranked.{All}
use Rattle.side.specs.Applying.{EntryWithin, Given}
use Rattle.json_values.specs.Names.{inner}
use Rattle.entries.specs.Rows.{Entry, number_in, is_bad_size, bad_price, bad_size, bad_texts, number_at, numbers_at}
use Rattle.entries.specs.Tally.{Kept}
use Rattle.entries.proofs.Numbers.{number-within}
use Rattle.entries.proofs.Tallies.{tally-met, tally-bids, tally-asks}
use Rattle.layout.specs.Layout.{is_snapshot, Printed, printed, unprinted, Layout}
use Rattle.layout.specs.Scan.{is_printed, sum_of, outline_of}
use Rattle.layout.specs.declared.Kind.{Kind}
use Rattle.layout.specs.declared.Outline.{Outline}
use Rattle.message.specs.Meaning.{SidedEdit, sided_edit, bad, entries_for, checked, message_of}
use Rattle.message.proofs.Deciding.{outline-bids, outline-asks, outline-printed, outline-checksum, outline-number, outline-previous}
use Rattle.layout.proofs.Laws.{outline-kind}
use Rattle.message.proofs.Entering.{also-framed, framed-few}
use Rattle.message.proofs.Where.{framed-lies}
use Rattle.lifecycle.specs.Lifecycle.{status_of}
use Rattle.reference.specs.Reference.{is_shut}
use Rattle.book.specs.Shown.{Good}
use Rattle.book.specs.Taking.{entries_of, printed_of, message_in, Passed}
use Rattle.book.specs.declared.Book.{Book}

-- ---- the numbers of entries

module _ (s : List ℕ) where
  within_all : (es : List Entry) → All EntryWithin (map (numbers_at s) es)
  unfolding All numbers_at
  within_all [] = tt
  within_all (e ∷ es) = ((number-within s e.row.price, number-within s e.row.size), within_all es)

  own-count : (side : Side) (es : List Entry) → length (for_side side_of side (map (numbers_at s) es)) ≡ length (for_side (λ (e : Entry). e.side) side es)
  unfolding for_side numbers_at
  own-count side [] = refl
  own-count side (e ∷ es) = at (is_same e.side side) (own-count side es)
    where
      at : (b : Bool) → length (for_side side_of side (map (numbers_at s) es)) ≡ length (for_side (λ (e : Entry). e.side) side es)
          → length (cond b (numbers_at s e ∷ for_side side_of side (map (numbers_at s) es)) (for_side side_of side (map (numbers_at s) es)))
          ≡ length (cond b (e ∷ for_side (λ (e : Entry). e.side) side es) (for_side (λ (e : Entry). e.side) side es))
      at true h = omega arith
      at false h = h

  -- a snapshot without a bad text sets every level
  size-stands : (a : Span) → bad_size true s a ≡ false → is_zero (number_at s a) ≡ false
  unfolding bad_size number_at
  size-stands a h = go (read (inner s a)) h
    where
      go : (x : Option Number) → is_bad_size true x ≡ false → is_zero (number_in x) ≡ false
      go (Some n) g = g
      go None g = absurd (true≢false g)

  sizes-stand : (es : List Entry) → bad_texts true s es ≡ [] → All (λ e. is_zero e.size ≡ false) (map (numbers_at s) es)
  unfolding bad_texts All numbers_at
  sizes-stand [] h = tt
  sizes-stand (e ∷ es) h = at (bad_price s e.row.price) (bad_size true s e.row.size) refl (λ g. sizes-stand es g) h
    where
      no-list : {A : Type 0} {a : Span} {l : List Span} → ◌≡◌ {A = List Span} (a ∷ l) [] → A
      no-list g = let z : ◌≡◌ {A = ℕ} 0 1 = cc in absurd (omega arith)

      at : (p z : Bool) → bad_size true s e.row.size ≡ z → (bad_texts true s es ≡ [] → All (λ e. is_zero e.size ≡ false) (map (numbers_at s) es))
          → cond p (e.row.price ∷ []) [] ++ (cond z (e.row.size ∷ []) [] ++ bad_texts true s es) ≡ []
          → All (λ e. is_zero e.size ≡ false) (map (numbers_at s) (e ∷ es))
      at true z q f g = no-list g
      at false true q f g = no-list g
      at false false q f g = (size-stands e.row.size q, f g)

-- ---- a message that passes

module _ (b : Book) (s buffer : List ℕ) (l : Layout) (passed : checked (config_of b.settings) s ≡ Ok l) (kept : Kept s (Some l.entries) buffer) where
  abbrev pub outlined : Outline
  outlined = outline_of s (Some l)

  count-is : outlined.bids + outlined.asks ≡ length l.entries
  count-is =
      let x = outline-bids s l in
      let y = outline-asks s l in
      let u = tally-bids s l.entries in
      let v = tally-asks s l.entries in
      let m = tally-met s l.entries in
      omega arith

  few-each : (length (entries_for Bids l) ≤ 100) × (length (entries_for Asks l) ≤ 100)
  few-each = framed-few (config_of b.settings) s l (also-framed (config_of b.settings) s l passed).0

  few : length l.entries ≤ max_buffered
  few =
      let n = count-is in
      let x = outline-bids s l in
      let y = outline-asks s l in
      let f = few-each.0 in
      let g = few-each.1 in
      omega arith

  entries-are : entries_of outlined buffer ≡ map (numbers_at s) l.entries
  entries-are =
      ap (λ (n : ℕ). take n (entries_in buffer)) count-is
      ∙ kept.front l.entries refl
      ∙ take_all max_buffered (map (numbers_at s) l.entries) (let m = length-map l.entries (numbers_at s) in let f = few in omega arith)

  own_is : (side : Side) → length (entries_for side l) ≡ length (for_side side_of side (entries_of outlined buffer))
  own_is side = sym (ap (λ (x : List Numbers). length (for_side side_of side x)) entries-are ∙ own-count s side l.entries)

  given : (side : Side) → length (entries_for side l) ≤ 100 → Given side buffer (outlined.bids + outlined.asks)
  given side f =
      record {
        room = kept.room;
        few = let n = count-is in let f = few in omega arith;
        within = subst (All EntryWithin) (sym entries-are) (within_all s l.entries);
        own = let x = own_is side in omega arith;
      }

  printed-is : printed_of outlined ≡ l.checksum
  unfolding is_printed sum_of
  printed-is = ap₂ (λ (x : Bool) (y : ℕ). cond x (printed y) unprinted) (outline-printed s l) (outline-checksum s l) ∙ go l.checksum
    where
      go : (p : Printed) → cond (is_printed p) (printed (sum_of p)) unprinted ≡ p
      go (printed n) = refl
      go unprinted = refl

  pub message-is : message_of s l ≡ message_in outlined buffer
  unfolding message_of
  message-is =
      let e = ap (map sided_edit) entries-are in
      sym
      (ap (λ (k : Kind). record { kind = k; edits = map sided_edit (entries_of outlined buffer); checksum = printed_of outlined; number = outlined.number; previous = outlined.previous }) (outline-kind s l)
      ∙ ap (λ (x : List SidedEdit). record { kind = l.kind; edits = x; checksum = printed_of outlined; number = outlined.number; previous = outlined.previous }) e
      ∙ ap₂ (λ (p : Printed) (n : ℕ). record { kind = l.kind; edits = map sided_edit (map (numbers_at s) l.entries); checksum = p; number = n; previous = outlined.previous }) printed-is (outline-number s l)
      ∙ ap (λ (n : ℕ). record { kind = l.kind; edits = map sided_edit (map (numbers_at s) l.entries); checksum = l.checksum; number = l.number; previous = n }) (outline-previous s l))

  pub passes-in : Good b → is_shut (status_of b.lifecycle.state) ≡ false → Passed b outlined buffer
  unfolding bad
  passes-in g u =
      record {
        good = g;
        unshut = u;
        bids_given = given Bids few-each.0;
        asks_given = given Asks few-each.1;
        bids_own = outline-bids s l ∙ own_is Bids;
        asks_own = outline-asks s l ∙ own_is Asks;
        sets = λ h.
            subst (All (λ e. is_zero e.size ≡ false)) (sym entries-are)
            (sizes-stand s l.entries (subst (λ (x : Bool). bad_texts x s l.entries ≡ []) (ap is_snapshot (sym (outline-kind s l)) ∙ h) (also-framed (config_of b.settings) s l passed).1));
        small = subst (λ (n : ℕ). n < 10 ^ 19) (sym (outline-number s l)) (framed-lies (config_of b.settings) s l (also-framed (config_of b.settings) s l passed).0).small;
      }
