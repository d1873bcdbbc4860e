-- K's snapshot is read back: its text is an array of four values, the second of which is an object with the two sides. Assumes nothing.
use Rattle.std.specs.Prelude.{Some, Ok}
use Prim.Native.Nat.{ℕ, ◌≤◌}
use mathlib.Core.Path.{◌≡◌, refl, ap, ◌∙◌}
use mathlib.Core.Bool.{true}
use mathlib.Core.List.{List, [], ◌∷◌, ◌++◌, map, append-nil, append_assoc}
use native.Mathlib.Omega.{arith}
use lib.ListN.{length, length-append}
use Rattle.text.specs.Text.{ascii, is_digit}
use Rattle.decimal.specs.Digits.{leading, value_from, written}
use Rattle.decimal.specs.Decimal.{is_whole}
use Rattle.decimal.specs.Whole.{read_whole}
use Rattle.decimal.proofs.Digits.{written-digits}
use Rattle.json_tokens.specs.Ends.{unescaped}
use Rattle.json_values.specs.Json.{Span, Pair}
use Rattle.json_values.specs.Names.{meaning}
use Rattle.entries.specs.Places.{and_then, all, array_at, object_at, values_of, whole_at}
use Rattle.entries.specs.declared.Form.TheVariants.{Triple}
use Rattle.settings.specs.Rules.{rules_of}
use Rattle.layout.specs.Layout.{unprinted, member_entries, entries_in, laid}
use Rattle.layout.specs.declared.Kind.TheVariants.{Snapshot}
use Rattle.message_k.specs.LayoutK.{Frame, frame_of, ours_k, times, together, is_snapshot, entries_k, objects_layout, layout_k, envelope_k}
use Rattle.message.specs.Meaning.{SidedEdit, envelope_in, decode}
use Rattle.settings.specs.Settings.{Config, good}
use Rattle.settings.specs.declared.Dialect.TheVariants.{K}
use Rattle.edit.specs.Edit.{PriceLevel}
use Rattle.edit.specs.declared.Side.TheVariants.{Bids, Asks}
use Rattle.writer.specs.Snapshot.{quoted, comma_joined, array, k_entry, k_snapshot}
use Rattle.round_trip.specs.Claims.{Each, each_none, each_more, ValidLevel, Valid, setting}
use Rattle.round_trip.proofs.Places.{Is, part-is}
use Rattle.round_trip.proofs.Tokens.{plain, length-quoted}
use Rattle.round_trip.proofs.Lists.{Matched, both_none, both_more}
use Rattle.round_trip.proofs.Values.{Reads, IsText, itself, string-reads, zero-reads, array-reads, Field, field_text, object, GoodField, IsField, object-reads}
use Rattle.round_trip.proofs.Readers.{Gives, array-at, object-at, means-it, means-same, named, values-named, matched-length}
use Rattle.round_trip.proofs.Rows.{digits-plain, plain-append, k-entry, side-reads, IsEdit, sided-at, also, no_more}
use Rattle.round_trip.proofs.Sizes.{max_side, length-k, length-side}
use Rattle.round_trip.proofs.Whole.{laid_as, HeardAs, asks-first, says-tree}
use Rattle.round_trip.proofs.Settings.{name-plain, name-short, depth-short}

-- ---- the text as a tree of values
abbrev spelled : List ℕ → List ℕ → List ℕ → List ℕ → List ℕ
spelled asks bids channel name =
    ascii "[0,{\"as\":" ++ (asks ++ (ascii ",\"bs\":" ++ (bids ++ (ascii "}," ++ (channel ++ (ascii "," ++ (name ++ ascii "]")))))))

abbrev fields : List ℕ → List ℕ → List Field
fields asks bids = record { name = ascii "as"; text = asks } ∷ (record { name = ascii "bs"; text = bids } ∷ [])

abbrev elements : List ℕ → List ℕ → List ℕ → List ℕ → List (List ℕ)
elements asks bids channel name = ascii "0" ∷ (object (fields asks bids) ∷ (channel ∷ (name ∷ [])))

regroup : (a q b r c k n e : List ℕ) → a ++ (q ++ (b ++ (r ++ (k ++ (c ++ (k ++ (n ++ e))))))) ≡ (((a ++ (q ++ b)) ++ r) ++ (k ++ (c ++ (k ++ n)))) ++ e
regroup a q b r c k n e = simp append_assoc

spelled-tree : (a b c n : List ℕ) → spelled a b c n ≡ array (elements a b c n)
unfolding array object field_text quoted comma_joined
spelled-tree a b c n = ap (λ (l : List ℕ). ascii "[0,{\"as\":" ++ l) (regroup a (ascii ",\"bs\":") b (ascii "}") c (ascii ",") n (ascii "]"))

length-spelled : (a b c n : List ℕ) → length a ≤ max_side → length b ≤ max_side → length c ≤ 10 → length n ≤ 18 → length (spelled a b c n) ≤ 32768
length-spelled a b c n la lb lc ln =
    let x : List ℕ = ascii "," ++ (n ++ ascii "]") in
    let y : List ℕ = ascii "}," ++ (c ++ x) in
    let z : List ℕ = ascii ",\"bs\":" ++ (b ++ y) in
    omega (arith, length-append n (ascii "]"), length-append c x, length-append b y, length-append a z)

-- ---- its parts are values
abbrev side : List PriceLevel → List ℕ
side levels = array (map k_entry levels)

abbrev channel : ℕ → List ℕ
channel depth = ascii "book-" ++ written depth

channel-plain : (depth : ℕ) → plain (channel depth) ≡ true
unfolding plain unescaped
channel-plain depth = plain-append (ascii "book-") (written depth) refl (digits-plain (written-digits depth))

module _ (bids asks : List PriceLevel) where
  fields-good : Each (GoodField 14) (fields (side asks) (side bids))
  unfolding plain unescaped
  fields-good =
      each_more (record { plainly = refl; value-reads = side-reads k_entry Triple k-entry asks })
      (each_more (record { plainly = refl; value-reads = side-reads k_entry Triple k-entry bids }) each_none)

  abbrev tree : ℕ → List ℕ → List (List ℕ)
  tree depth name = elements (side asks) (side bids) (quoted (channel depth)) (quoted name)

  module _ (depth : ℕ) (name : List ℕ) (name-is : plain name ≡ true) where
    elements-read : Each (λ t. Reads 15 (itself t)) (tree depth name)
    elements-read =
        each_more (zero-reads 15)
        (each_more (object-reads 14 (fields (side asks) (side bids)) fields-good)
        (each_more (string-reads 15 (channel depth) (channel-plain depth))
        (each_more (string-reads 15 name name-is) each_none)))

    tree-reads : Reads 16 (array (tree depth name))
    tree-reads = array-reads 15 itself (tree depth name) elements-read

-- ---- what is read of the object with the sides
module _ (s : List ℕ) (bids asks : List PriceLevel) (fine-bids : Each ValidLevel bids) (fine-asks : Each ValidLevel asks) where
  abbrev the_fields : List Field
  the_fields = fields (side asks) (side bids)

  abbrev the-edits : List SidedEdit
  the-edits = map (setting Asks) asks ++ map (setting Bids) bids

  module _ (ms : List Pair) (m : Matched (IsField s) ms the_fields) where
    alone : together (ms ∷ []) ≡ ms
    unfolding together
    alone = append-nil ms

    values : (name : List ℕ) → Matched (Is s) (values_of s name (together (ms ∷ []))) (named name the_fields)
    values name = rw alone (values-named s name m)

    times-are : (name : List ℕ) → times s name (together (ms ∷ [])) ≡ length (named name the_fields)
    unfolding times
    times-are name = matched-length (values name)

    a-snapshot : is_snapshot s (ms ∷ []) ≡ true
    unfolding is_snapshot named meaning
    a-snapshot = rw (times-are (ascii "as"), times-are (ascii "bs"), times-are (ascii "a"), times-are (ascii "b"), times-are (ascii "c"))

    laid_out : (g : Gives (IsEdit s) the-edits (entries_in Triple 14 s (ascii "bs") (ascii "as") ms)) → objects_layout s (ms ∷ []) ≡ Some (laid_as g.found unprinted 0)
    unfolding objects_layout entries_k laid and_then
    laid_out g = rw (a-snapshot, alone, g.gives)

  -- the first member holds the asks, the second the bids
  entries-in : (ms : List Pair) → Matched (IsField s) ms the_fields → Gives (IsEdit s) the-edits (entries_in Triple 14 s (ascii "bs") (ascii "as") ms)
  unfolding entries_in member_entries meaning
  entries-in ms (both_more {a = a} h (both_more {a = b} k both_none)) =
      rw (means-same (ascii "as") h.name-is (ascii "bs"), means-same (ascii "as") h.name-is (ascii "as"), means-same (ascii "bs") k.name-is (ascii "bs"))
      (also (sided-at k_entry Triple k-entry Asks s a.value asks fine-asks h.value-is)
      (no_more (sided-at k_entry Triple k-entry Bids s b.value bids fine-bids k.value-is)))

  -- ---- what is read of the message: its four values lie at n, o, c and p
  module _ (depth : ℕ) (name : List ℕ) (name-is : plain name ≡ true) where
    module _ (n o c p : Span) (hn : Is s n (ascii "0")) (ho : Is s o (object the_fields)) (hc : Is s c (quoted (channel depth))) (hp : Is s p (quoted name)) where
      abbrev frame : Frame
      frame = record { first = n; objects = o ∷ []; channel = c; pair = p }

      ours : ours_k depth name s frame ≡ true
      unfolding ours_k
      ours = rw (means-it (channel depth) hc (channel-plain depth), means-it name hp name-is)

      whole : whole_at s n ≡ Some 0
      unfolding whole_at read_whole is_whole leading is_digit value_from
      whole = ap read_whole (part-is hn)

      the-object : Gives (IsField s) the_fields (object_at 15 s o)
      the-object = object-at 14 the_fields (fields-good bids asks) s o ho

      the-entries : Gives (IsEdit s) the-edits (entries_in Triple 14 s (ascii "bs") (ascii "as") the-object.found)
      the-entries = entries-in the-object.found the-object.matches

      layout : layout_k s frame ≡ Some (laid_as the-entries.found unprinted 0)
      unfolding layout_k and_then all
      layout = rw (whole, the-object.gives) (laid_out the-object.found the-object.matches the-entries)

      heard : (a : Span) → array_at 16 s a ≡ Some (n ∷ (o ∷ (c ∷ (p ∷ [])))) → HeardAs s the-edits unprinted 0 (envelope_k depth name s a)
      unfolding envelope_k and_then frame_of
      heard a e = record {
        entries = the-entries.found;
        is-heard = rw (e, ours, layout);
        carries = the-entries.matches;
      }

    heard-in : (a : Span) (found : List Span) → array_at 16 s a ≡ Some found → Matched (IsText itself s) found (tree bids asks depth name) → HeardAs s the-edits unprinted 0 (envelope_k depth name s a)
    heard-in a found e (both_more {a = n} hn (both_more {a = o} ho (both_more {a = c} hc (both_more {a = p} hp both_none)))) = heard n o c p hn ho hc hp a e

    heard-tree : (a : Span) → Is s a (array (tree bids asks depth name)) → HeardAs s the-edits unprinted 0 (envelope_k depth name s a)
    heard-tree a h = let g = array-at 15 itself (tree bids asks depth name) (elements-read bids asks depth name name-is) s a h in heard-in a g.found g.gives g.matches

-- ---- the claim
module _ (depth : ℕ) (name : List ℕ) (bids asks : List PriceLevel) (g : good (record { dialect = K; depth = depth; name = name }) ≡ true) (fine-bids : Valid bids)
    (fine-asks : Valid asks) where
  abbrev terms : Config
  terms = record { dialect = K; depth = depth; name = name }

  abbrev the-text : List ℕ
  the-text = spelled (side asks) (side bids) (quoted (channel depth)) (quoted name)

  snapshot-spelled : k_snapshot depth name bids asks ≡ the-text
  unfolding k_snapshot
  snapshot-spelled = refl

  short : length the-text ≤ 32768
  short =
      length-spelled (side asks) (side bids) (quoted (channel depth)) (quoted name)
      (length-side k_entry length-k asks fine-asks)
      (length-side k_entry length-k bids fine-bids)
      (omega (arith, length-quoted (channel depth), depth-short depth name g))
      (omega (arith, length-quoted name, name-short terms g))

  pub said-k : decode terms (k_snapshot depth name bids asks)
      ≡ Ok (record { kind = Snapshot; edits = map (setting Asks) asks ++ map (setting Bids) bids; checksum = unprinted; number = 0; previous = 0 })
  unfolding envelope_in rules_of
  said-k =
      ap (decode terms) snapshot-spelled
      ∙ says-tree terms the-text (array (tree bids asks depth name))
      (spelled-tree (side asks) (side bids) (quoted (channel depth)) (quoted name)) short
      (tree-reads bids asks depth name (name-plain terms g)) (map (setting Asks) asks ++ map (setting Bids) bids) unprinted 0
      (heard-tree the-text bids asks fine-bids.each fine-asks.each depth name (name-plain terms g))
      (asks-first 100 bids asks fine-bids.few fine-asks.few)
