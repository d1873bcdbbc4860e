-- M's snapshot is read back: its text is an object of six members, one of which is an object with the two sides. Assumes nothing.
use Rattle.std.specs.Prelude.{Some, Ok}
use Prim.Native.Nat.{ℕ, ◌^◌, ◌≤◌, ◌<◌}
use mathlib.Core.Path.{◌≡◌, refl, ap, ◌∙◌}
use mathlib.Core.Bool.{true, false, Bool}
use mathlib.Core.List.{List, [], ◌∷◌, ◌++◌, map, append_assoc}
use native.Mathlib.Omega.{arith}
use lib.ListN.{length, length-append}
use Rattle.text.specs.Text.{ascii}
use Rattle.decimal.specs.Digits.{written}
use Rattle.decimal.specs.Whole.{read_whole, at_most, read_checksum}
use Rattle.decimal.proofs.Digits.{length-written}
use Rattle.decimal.proofs.WholeNumber.{below-bound}
use Rattle.decimal.proofs.RoundTrip.{written_read}
use Rattle.json_tokens.specs.Ends.{unescaped}
use Rattle.json_values.specs.Json.{Span, Pair}
use Rattle.json_values.specs.Names.{meaning}
use Rattle.entries.specs.Places.{and_then, object_at, values_of, only, whole_at, checksum_at}
use Rattle.entries.specs.declared.Form.TheVariants as forms
use Rattle.settings.specs.Rules.{is_linked, rules_of}
use Rattle.layout.specs.Layout.{is_snapshot, printed, member_entries, entries_in, laid}
use Rattle.layout.specs.declared.Kind.TheVariants.{Snapshot}
use Rattle.message_m.specs.LayoutM.{some_means, ours_m, kind_at, layout_m, linked_to, layout_in, envelope_m}
use Rattle.message.specs.Meaning.{SidedEdit, envelope_in, decode}
use Rattle.settings.specs.Settings.{Config, good}
use Rattle.settings.specs.declared.Dialect.TheVariants.{M}
use Rattle.settings.specs.declared.Edition.{Edition}
use Rattle.edit.specs.Edit.{PriceLevel}
use Rattle.edit.specs.declared.Side.TheVariants.{Bids, Asks}
use Rattle.writer.specs.Snapshot.{quoted, comma_joined, array, m_entry, m_snapshot}
use Rattle.round_trip.specs.Claims.{Each, each_none, each_more, ValidLevel, Valid, setting}
use Rattle.round_trip.proofs.Places.{Is, part-is}
use Rattle.round_trip.proofs.Tokens.{plain, length-quoted}
use Rattle.round_trip.proofs.Lists.{Matched, both_none, both_more}
use Rattle.round_trip.proofs.Values.{Reads, string-reads, number-reads, Field, field_text, object, GoodField, IsField, object-reads}
use Rattle.round_trip.proofs.Readers.{Gives, object-at, means-it, means-same, named, values-named, One, the_one}
use Rattle.round_trip.proofs.Rows.{m-entry, side-reads, IsEdit, sided-at, also, no_more}
use Rattle.round_trip.proofs.Sizes.{max_side, length-m, length-side}
use Rattle.round_trip.proofs.Whole.{laid_as, HeardAs, bids-first, says-tree}
use Rattle.round_trip.proofs.Settings.{name-plain, name-short}

-- ---- the text as a tree of values
abbrev spelled : List ℕ → List ℕ → List ℕ → List ℕ → List ℕ → List ℕ
spelled product bids asks checksum number =
    ascii "{\"channel\":\"book\",\"product\":" ++ (product
    ++ (ascii ",\"type\":\"snapshot\",\"data\":{\"bids\":" ++ (bids
    ++ (ascii ",\"asks\":" ++ (asks
    ++ (ascii "},\"checksum\":" ++ (checksum
    ++ (ascii ",\"gsn\":" ++ (number ++ ascii "}")))))))))

abbrev sides : List ℕ → List ℕ → List Field
sides bids asks = record { name = ascii "bids"; text = bids } ∷ (record { name = ascii "asks"; text = asks } ∷ [])

abbrev fields : List ℕ → List ℕ → List ℕ → List ℕ → List ℕ → List Field
fields product bids asks checksum number =
    record { name = ascii "channel"; text = quoted (ascii "book") } ∷
    (record { name = ascii "product"; text = product } ∷
    (record { name = ascii "type"; text = quoted (ascii "snapshot") } ∷
    (record { name = ascii "data"; text = object (sides bids asks) } ∷
    (record { name = ascii "checksum"; text = checksum } ∷
    (record { name = ascii "gsn"; text = number } ∷ [])))))

regroup : (n q b j a r k c t g e : List ℕ) →
    n ++ (q ++ (b ++ (j ++ (a ++ (r ++ (k ++ (c ++ (t ++ (g ++ e))))))))) ≡ (n ++ (q ++ (((b ++ (j ++ a)) ++ r) ++ (k ++ (c ++ (t ++ g)))))) ++ e
regroup n q b j a r k c t g e = simp append_assoc

spelled-tree : (n b a c g : List ℕ) → spelled n b a c g ≡ object (fields n b a c g)
unfolding object field_text quoted comma_joined
spelled-tree n b a c g =
    ap (λ (l : List ℕ). ascii "{\"channel\":\"book\",\"product\":" ++ l)
    (regroup n (ascii ",\"type\":\"snapshot\",\"data\":{\"bids\":") b (ascii ",\"asks\":") a (ascii "}") (ascii ",\"checksum\":") c (ascii ",\"gsn\":") g (ascii "}"))

length-spelled : (n b a c g : List ℕ) → length n ≤ 18 → length b ≤ max_side → length a ≤ max_side → length c ≤ 10 → length g ≤ 19 → length (spelled n b a c g) ≤ 32768
length-spelled n b a c g ln lb la lc lg =
    let w : List ℕ = ascii ",\"gsn\":" ++ (g ++ ascii "}") in
    let x : List ℕ = ascii "},\"checksum\":" ++ (c ++ w) in
    let y : List ℕ = ascii ",\"asks\":" ++ (a ++ x) in
    let z : List ℕ = ascii ",\"type\":\"snapshot\",\"data\":{\"bids\":" ++ (b ++ y) in
    omega (arith, length-append g (ascii "}"), length-append c w, length-append a x, length-append b y, length-append n z)

-- ---- its parts are values
abbrev side : List PriceLevel → List ℕ
side levels = array (map m_entry levels)

module _ (bids asks : List PriceLevel) where
  sides-good : Each (GoodField 14) (sides (side bids) (side asks))
  unfolding plain unescaped
  sides-good =
      each_more (record { plainly = refl; value-reads = side-reads m_entry forms.Pair m-entry bids })
      (each_more (record { plainly = refl; value-reads = side-reads m_entry forms.Pair m-entry asks }) each_none)

  abbrev tree : List ℕ → ℕ → ℕ → List Field
  tree name checksum number = fields (quoted name) (side bids) (side asks) (written checksum) (written number)

  module _ (name : List ℕ) (name-is : plain name ≡ true) (checksum number : ℕ) where
    fields-good : Each (GoodField 15) (tree name checksum number)
    unfolding plain unescaped
    fields-good =
        each_more (record { plainly = refl; value-reads = string-reads 15 (ascii "book") refl })
        (each_more (record { plainly = refl; value-reads = string-reads 15 name name-is })
        (each_more (record { plainly = refl; value-reads = string-reads 15 (ascii "snapshot") refl })
        (each_more (record { plainly = refl; value-reads = object-reads 14 (sides (side bids) (side asks)) sides-good })
        (each_more (record { plainly = refl; value-reads = number-reads 15 checksum })
        (each_more (record { plainly = refl; value-reads = number-reads 15 number }) each_none)))))

    tree-reads : Reads 16 (object (tree name checksum number))
    tree-reads = object-reads 15 (tree name checksum number) fields-good

-- ---- what is read of known members
only_one : {s : List ℕ} {parts : List Span} {t : List ℕ} (o : One (Is s) parts t) → only parts ≡ Some o.the
unfolding only
only_one o = ap only o.alone

module _ (s : List ℕ) where
  means-one : (t : List ℕ) {parts : List Span} → plain t ≡ true → One (Is s) parts (quoted t) → some_means s t parts ≡ true
  unfolding some_means
  means-one t p o = rw (o.alone, some_means, means-it t o.is-it p)

-- ---- what is read of the message
module _ (s : List ℕ) (bids asks : List PriceLevel) (fine-bids : Each ValidLevel bids) (fine-asks : Each ValidLevel asks) (name : List ℕ) (name-is : plain name ≡ true) (checksum number : ℕ)
    (low : checksum ≤ 4294967295) (few : number < 10 ^ 19) where
  abbrev the-tree : List Field
  the-tree = tree bids asks name checksum number

  abbrev the-sides : List Field
  the-sides = sides (side bids) (side asks)

  abbrev the-edits : List SidedEdit
  the-edits = map (setting Bids) bids ++ map (setting Asks) asks

  -- the first member holds the bids, the second the asks
  entries-in : (ds : List Pair) → Matched (IsField s) ds the-sides → Gives (IsEdit s) the-edits (entries_in forms.Pair 14 s (ascii "bids") (ascii "asks") ds)
  unfolding entries_in member_entries meaning
  entries-in ds (both_more {a = b} h (both_more {a = a} k both_none)) =
      rw (means-same (ascii "bids") h.name-is (ascii "bids"), means-same (ascii "asks") k.name-is (ascii "bids"), means-same (ascii "asks") k.name-is (ascii "asks"))
      (also (sided-at m_entry forms.Pair m-entry Bids s b.value bids fine-bids h.value-is)
      (no_more (sided-at m_entry forms.Pair m-entry Asks s a.value asks fine-asks k.value-is)))

  module _ (ms : List Pair) (m : Matched (IsField s) ms the-tree) where
    channel : One (Is s) (values_of s (ascii "channel") ms) (quoted (ascii "book"))
    unfolding named meaning
    channel = the_one (values-named s (ascii "channel") m)

    product : One (Is s) (values_of s (ascii "product") ms) (quoted name)
    unfolding named meaning
    product = the_one (values-named s (ascii "product") m)

    kind : One (Is s) (values_of s (ascii "type") ms) (quoted (ascii "snapshot"))
    unfolding named meaning
    kind = the_one (values-named s (ascii "type") m)

    data-in : One (Is s) (values_of s (ascii "data") ms) (object the-sides)
    unfolding named meaning
    data-in = the_one (values-named s (ascii "data") m)

    sum-in : One (Is s) (values_of s (ascii "checksum") ms) (written checksum)
    unfolding named meaning
    sum-in = the_one (values-named s (ascii "checksum") m)

    number_in : One (Is s) (values_of s (ascii "gsn") ms) (written number)
    unfolding named meaning
    number_in = the_one (values-named s (ascii "gsn") m)

    -- check 5
    ours : ours_m name s ms ≡ true
    unfolding ours_m plain unescaped
    ours = rw (means-one s (ascii "book") refl channel, means-one s name name-is product)

    -- check 6
    a-snapshot : kind_at s kind.the ≡ Some Snapshot
    unfolding kind_at plain unescaped
    a-snapshot = rw (means-it (ascii "snapshot") kind.is-it refl)

    the_sum : checksum_at s sum-in.the ≡ Some checksum
    unfolding checksum_at read_checksum
    the_sum = ap read_checksum (part-is sum-in.is-it) ∙ ap (at_most 4294967295) (written_read checksum (omega arith)) ∙ below-bound 4294967295 checksum low

    the_number : whole_at s number_in.the ≡ Some number
    unfolding whole_at
    the_number = ap read_whole (part-is number_in.is-it) ∙ written_read number few

    the_data : Gives (IsField s) the-sides (object_at 15 s data-in.the)
    the_data = object-at 14 the-sides (sides-good bids asks) s data-in.the data-in.is-it

    the-bids : One (Is s) (values_of s (ascii "bids") the_data.found) (side bids)
    unfolding named meaning
    the-bids = the_one (values-named s (ascii "bids") the_data.matches)

    the-asks : One (Is s) (values_of s (ascii "asks") the_data.found) (side asks)
    unfolding named meaning
    the-asks = the_one (values-named s (ascii "asks") the_data.matches)

    the-entries : Gives (IsEdit s) the-edits (entries_in forms.Pair 14 s (ascii "bids") (ascii "asks") the_data.found)
    the-entries = entries-in the_data.found the_data.matches

    layout : layout_m s ms ≡ Some (laid_as the-entries.found (printed checksum) number)
    unfolding layout_m and_then laid
    layout =
        rw (
          only_one channel,
          only_one product,
          only_one kind,
          a-snapshot,
          only_one data-in,
          the_data.gives,
          only_one the-bids,
          only_one the-asks,
          only_one sum-in,
          the_sum,
          only_one number_in,
          the_number,
          the-entries.gives,
        )

    -- a snapshot names no sequence number before its own, and needs none
    linked-layout : (linked : Bool) → layout_in linked s ms ≡ Some (laid_as the-entries.found (printed checksum) number)
    unfolding layout_in linked_to and_then is_snapshot
    linked-layout true = rw layout
    linked-layout false = layout

    heard : (linked : Bool) (a : Span) → object_at 16 s a ≡ Some ms → HeardAs s the-edits (printed checksum) number (envelope_m linked name s a)
    unfolding envelope_m and_then
    heard linked a e = record {
      entries = the-entries.found;
      is-heard = rw (e, ours, linked-layout linked);
      carries = the-entries.matches;
    }

  heard-tree : (linked : Bool) (a : Span) → Is s a (object the-tree) → HeardAs s the-edits (printed checksum) number (envelope_m linked name s a)
  heard-tree linked a h = let g = object-at 15 the-tree (fields-good bids asks name name-is checksum number) s a h in heard g.found g.matches linked a g.gives

-- ---- the claim
module _ (e : Edition) (name : List ℕ) (bids asks : List PriceLevel) (checksum number : ℕ) (g : good (record { dialect = M e; depth = 100; name = name }) ≡ true) (fine-bids : Valid bids)
    (fine-asks : Valid asks) (low : checksum ≤ 4294967295) (few : number < 10 ^ 19) where
  abbrev terms : Config
  terms = record { dialect = M e; depth = 100; name = name }

  abbrev the-text : List ℕ
  the-text = spelled (quoted name) (side bids) (side asks) (written checksum) (written number)

  snapshot-spelled : m_snapshot name bids asks checksum number ≡ the-text
  unfolding m_snapshot
  snapshot-spelled = refl

  short : length the-text ≤ 32768
  short =
      length-spelled (quoted name) (side bids) (side asks) (written checksum) (written number)
      (omega (arith, length-quoted name, name-short terms g))
      (length-side m_entry length-m bids fine-bids)
      (length-side m_entry length-m asks fine-asks)
      (length-written 9 checksum (omega arith))
      (length-written 18 number few)

  pub said-m : decode terms (m_snapshot name bids asks checksum number)
      ≡ Ok (record { kind = Snapshot; edits = map (setting Bids) bids ++ map (setting Asks) asks; checksum = printed checksum; number = number; previous = 0 })
  unfolding envelope_in rules_of
  said-m =
      ap (decode terms) snapshot-spelled
      ∙ says-tree terms the-text (object (tree bids asks name checksum number))
      (spelled-tree (quoted name) (side bids) (side asks) (written checksum) (written number)) short
      (tree-reads bids asks name (name-plain terms g) checksum number) (map (setting Bids) bids ++ map (setting Asks) asks) (printed checksum) number
      (heard-tree the-text bids asks fine-bids.each fine-asks.each name (name-plain terms g) checksum number low few (is_linked e))
      (bids-first 100 bids asks fine-bids.few fine-asks.few)
