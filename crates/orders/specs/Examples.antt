-- Worked examples of the definitions. Assumes nothing.
use Prim.Native.String.{String}
use Rattle.std.specs.Prelude.{◌≡◌, refl, List, [], ◌∷◌}
use Rattle.text.specs.Text.{ascii, is_digit}
use Rattle.decimal.specs.Digits.{leading, value_from}
use Rattle.decimal.specs.Decimal.{is_whole, fractional, pointed, prefix, read, value}
use Rattle.edit.specs.declared.Side.TheVariants.{Asks}
use Rattle.checksum.specs.CheckedByHand.{decimal}
use Rattle.order_edit.specs.Ids.{same_id}
use Rattle.orders.specs.Orders.{SingleOrder, plain, adds, modifies, deletes, taken, clash, both, clashed, among, except, stands, stands_at, place, changed, without, apply, clashes, apply_all, prices, at_prices, best_prices, beside, then_asks, apply_both, cut_both, after_update, id_twice, snapshot_repeats, place_all, after_snapshot, queue}

-- an order of an id, a price and a size
unfoldable order : String → String → String → SingleOrder
order id price size = record { id = ascii id; price = decimal price; size = decimal size }

-- ---- one side

-- `add` puts an order last at its price, by value: c goes behind a, and before b; the queue at 0.5 has two texts of one price
last_at_its_price : apply_all plain Asks [] (adds (order "c" "0.50" "1") ∷ []) (order "a" "0.5" "1" ∷ order "b" "0.6" "1" ∷ [])
    ≡ taken (order "a" "0.5" "1" ∷ order "c" "0.50" "1" ∷ order "b" "0.6" "1" ∷ [])
unfolding apply_all clashes apply stands place same_id order decimal read prefix is_whole pointed fractional leading is_digit value_from value
last_at_its_price = refl

one_queue : queue plain (value (decimal "0.500")) (order "a" "0.5" "1" ∷ order "c" "0.50" "1" ∷ order "b" "0.6" "1" ∷ []) ≡ ascii "a" ∷ ascii "c" ∷ []
unfolding queue order decimal read prefix is_whole pointed fractional leading is_digit value_from value
one_queue = refl

-- `modify` leaves the place and the text of the price: 0.5 is named as 0.50
in_its_place : apply_all plain Asks [] (modifies (order "a" "0.50" "7") ∷ []) (order "a" "0.5" "1" ∷ order "b" "0.5" "1" ∷ [])
    ≡ taken (order "a" "0.5" "7" ∷ order "b" "0.5" "1" ∷ [])
unfolding apply_all clashes apply stands_at changed same_id order decimal read prefix is_whole pointed fractional leading is_digit value_from value
in_its_place = refl

-- at another price it is a clash
not_at_that_price : apply_all plain Asks [] (deletes (order "a" "0.6" "0") ∷ []) (order "a" "0.5" "1" ∷ []) ≡ clash
unfolding apply_all clashes apply stands_at same_id order decimal read prefix is_whole pointed fractional leading is_digit value_from value
not_at_that_price = refl

-- deleted and added again, an order goes last
goes_last : apply_all plain Asks [] (deletes (order "a" "0.5" "0") ∷ adds (order "a" "0.5" "1") ∷ []) (order "a" "0.5" "1" ∷ order "b" "0.5" "1" ∷ [])
    ≡ taken (order "b" "0.5" "1" ∷ order "a" "0.5" "1" ∷ [])
unfolding apply_all clashes apply stands stands_at place without same_id order decimal read prefix is_whole pointed fractional leading is_digit value_from value
goes_last = refl

-- added, modified and deleted in one message; and deleted before it is added
all_in_one : apply_all plain Asks [] (adds (order "a" "5" "1") ∷ modifies (order "a" "5.0" "2") ∷ deletes (order "a" "5" "0") ∷ []) [] ≡ taken []
unfolding apply_all clashes apply stands stands_at place changed without same_id order decimal read prefix is_whole pointed fractional leading is_digit value_from value
all_in_one = refl

too_early : apply_all plain Asks [] (deletes (order "a" "5" "0") ∷ adds (order "a" "5" "1") ∷ []) [] ≡ clash
unfolding apply_all clashes stands_at
too_early = refl

-- the cut keeps prices, not orders: 0.5 and 0.50 are one
two_prices : best_prices plain 2 (order "a" "0.5" "1" ∷ order "b" "0.50" "1" ∷ order "c" "0.6" "1" ∷ order "d" "0.7" "1" ∷ [])
    ≡ order "a" "0.5" "1" ∷ order "b" "0.50" "1" ∷ order "c" "0.6" "1" ∷ []
unfolding best_prices prices at_prices among except order decimal read prefix is_whole pointed fractional leading is_digit value_from value
two_prices = refl

-- ---- both sides

-- an id moved from bids to asks in one message is taken, since bids apply before asks; the other way it clashes
bids_to_asks : after_update plain 10 (deletes (order "a" "5" "0") ∷ []) (adds (order "a" "6" "1") ∷ []) (order "a" "5" "1" ∷ []) [] ≡ both [] (order "a" "6" "1" ∷ [])
unfolding after_update apply_both then_asks beside cut_both best_prices prices at_prices among except apply_all clashes apply stands stands_at place without same_id order decimal read prefix is_whole pointed fractional leading is_digit value_from value
bids_to_asks = refl

asks_to_bids : after_update plain 10 (adds (order "a" "5" "1") ∷ []) (deletes (order "a" "6" "0") ∷ []) [] (order "a" "6" "1" ∷ []) ≡ clashed
unfolding after_update apply_both then_asks cut_both apply_all clashes stands same_id order
asks_to_bids = refl

-- an added ask clashes with a bid that the cut of the same message takes: the cut comes after the whole message
before_the_cut : after_update plain 1 (adds (order "b" "6" "1") ∷ []) (adds (order "a" "7" "1") ∷ []) (order "a" "5" "1" ∷ []) [] ≡ clashed
unfolding after_update apply_both then_asks beside cut_both apply_all clashes apply stands place same_id order decimal read prefix is_whole pointed fractional leading is_digit value_from value
before_the_cut = refl

-- a bid that the cut takes stands no more: it may be added again, and may not be deleted
cut_away : after_update plain 1 (adds (order "b" "6" "1") ∷ []) [] (order "a" "5" "1" ∷ []) [] ≡ both (order "b" "6" "1" ∷ []) []
unfolding after_update apply_both then_asks beside cut_both best_prices prices at_prices among except apply_all clashes apply stands place same_id order decimal read prefix is_whole pointed fractional leading is_digit value_from value
cut_away = refl

added_again : after_update plain 1 [] (adds (order "a" "7" "1") ∷ []) (order "b" "6" "1" ∷ []) [] ≡ both (order "b" "6" "1" ∷ []) (order "a" "7" "1" ∷ [])
unfolding after_update apply_both then_asks beside cut_both best_prices prices at_prices among except apply_all clashes apply stands place same_id order decimal read prefix is_whole pointed fractional leading is_digit value_from value
added_again = refl

not_deleted : after_update plain 1 (deletes (order "a" "5" "0") ∷ []) [] (order "b" "6" "1" ∷ []) [] ≡ clashed
unfolding after_update apply_both then_asks cut_both apply_all clashes stands_at same_id order
not_deleted = refl

-- ---- a snapshot

-- its orders stand in written order within a price; an id on both sides stands twice, and so does one beyond the cut
written_order : after_snapshot plain 10 (order "a" "5" "1" ∷ order "b" "6" "1" ∷ order "c" "5.0" "1" ∷ []) [] ≡ both (order "b" "6" "1" ∷ order "a" "5" "1" ∷ order "c" "5.0" "1" ∷ []) []
unfolding after_snapshot snapshot_repeats id_twice stands cut_both best_prices prices at_prices among except place_all place same_id order decimal read prefix is_whole pointed fractional leading is_digit value_from value
written_order = refl

on_both_sides : after_snapshot plain 10 (order "a" "5" "1" ∷ []) (order "a" "6" "1" ∷ []) ≡ clashed
unfolding after_snapshot snapshot_repeats id_twice stands same_id order
on_both_sides = refl

beyond_the_cut : after_snapshot plain 1 (order "a" "5" "1" ∷ order "b" "4" "1" ∷ order "b" "3" "1" ∷ []) [] ≡ clashed
unfolding after_snapshot snapshot_repeats id_twice stands same_id order
beyond_the_cut = refl

-- document 004's snapshot of ten prices a side: its orders stand as they are written
unfoldable bids : List SingleOrder
bids =
    order "OTCFZG-YOE2Q-LQKNM3" "44939.4" "0.88968699"
    ∷ order "OFGP5R-B3E7G-54EZD6" "44939.4" "0.45210000"
    ∷ order "OMPHVY-IZPJ4-KOKA3P" "44939.4" "0.10000000"
    ∷ order "OAI5QZ-AMPLW-NBNO72" "44939.4" "0.14296323"
    ∷ order "O7VFZI-CTFWH-FF6EIR" "44939.4" "0.25000000"
    ∷ order "O472V3-ZG4EZ-OLD66C" "44939.4" "0.10292988"
    ∷ order "OEK26P-BGPUK-LDHMD2" "44939.4" "0.33880000"
    ∷ order "OSMYPE-S5VOC-YSS3WM" "44939.4" "1.28140860"
    ∷ order "OJPMIN-NXZL5-SOWP6V" "44937.1" "0.03346877"
    ∷ order "O6PUGE-SQWYQ-TRJEEE" "44934.7" "0.35630000"
    ∷ order "OPUOGC-Q532V-3OKLPM" "44930.2" "0.22734299"
    ∷ order "OCIU7J-VB3CI-HPULSF" "44930.2" "0.01000000"
    ∷ order "ORWVAF-LJFLY-ZWEHDQ" "44930.2" "0.05550000"
    ∷ order "OYRAHE-PI5AN-7KOQ4E" "44930.2" "0.70000000"
    ∷ order "OGBHYU-UILDD-6DLLYJ" "44930.2" "0.15000000"
    ∷ order "O74ZBU-K2TKC-R76XSW" "44928.0" "0.00105240"
    ∷ order "OQVTQF-Y56MR-BM6LWL" "44919.6" "0.33870000"
    ∷ order "OYEH6U-ZCHA2-3HFR3W" "44919.5" "0.07610000"
    ∷ order "OLGPG7-HVKXU-J6SANK" "44912.0" "0.35630000"
    ∷ order "OHGC3L-FRZQ3-UIVZRU" "44909.7" "0.06690000"
    ∷ order "O73C6Y-VZXYA-H4LDFY" "44901.9" "0.00088982"
    ∷ []

unfoldable asks : List SingleOrder
asks =
    order "OFVLAA-HRSSP-BK75KB" "44939.5" "4.52308393"
    ∷ order "OYBAMK-O5DKX-WMPUTM" "44939.5" "0.00111261"
    ∷ order "O3DRCT-J5M2S-KYV526" "44939.5" "0.00100000"
    ∷ order "OF3X3A-72WZY-6EKA5F" "44939.5" "0.01000000"
    ∷ order "OF5UA6-6IIZ2-YGQTSJ" "44950.0" "0.10334926"
    ∷ order "OSDOZX-7UZ6Y-QDNPVI" "44953.0" "0.00064537"
    ∷ order "OV7KTS-A2TWV-3XKRIA" "44955.0" "0.00250000"
    ∷ order "OOF2V5-RYOHC-GLRNPM" "44959.6" "0.35630000"
    ∷ order "OTVOVS-QLST3-3JG7JI" "44959.6" "0.35630000"
    ∷ order "OGZCIU-RDQ77-DAAL3P" "44960.1" "0.00338072"
    ∷ order "OVLG3E-HYBQM-CWNGCY" "44960.2" "0.88967575"
    ∷ order "OWEOFO-HUCJC-T37MVO" "44967.0" "3.14392283"
    ∷ order "OVYTHY-D2N76-5QYREQ" "44978.5" "0.06778960"
    ∷ order "OFO525-PHRVS-236RMN" "44979.2" "0.35630000"
    ∷ []

as_written : after_snapshot plain 10 bids asks ≡ both bids asks
unfolding bids asks after_snapshot snapshot_repeats id_twice stands cut_both best_prices prices at_prices among except place_all place same_id order decimal read prefix is_whole pointed fractional leading is_digit value_from value
as_written = refl
