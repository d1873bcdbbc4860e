-- Items with commas between them and a closing bracket after them are read back, one by one. Assumes nothing.
use Rattle.std.specs.Prelude.{None}
use Prim.Native.Nat.{ℕ, zero, suc, ◌+◌, ◌≤◌, ◌<◌}
use mathlib.Core.Path.{◌≡◌, refl, sym, ap, ◌∙◌}
use mathlib.Core.Bool.{false}
use mathlib.Core.List.{List, [], ◌∷◌, ◌++◌, map, append_assoc}
use native.Mathlib.Omega.{arith}
use lib.ListN.{length, get_or, drop, length-append}
use Rattle.json_tokens.specs.Tokens.{blanks, closing}
use Rattle.json_values.specs.Json.{Next, item, Items, items, prepended, onward, list, list_of}
use Rattle.json_values.proofs.Laws.{first_ends, first-item, later-item, later-ends}
use Rattle.writer.specs.Snapshot.{comma_joined}
use Rattle.round_trip.specs.Claims.{Each, each_more}
use Rattle.round_trip.proofs.Places.{past, past-byte, no-blanks, in-text, Starts, starts-append, Stops, comma-stops}
use Rattle.round_trip.proofs.Tokens.{closes, closes-not, separates, separates-not}

-- two lists, item by item
pub data Matched {A D : Type 0} (is : A → D → Type 0) : List A → List D → Type 0 where
  both_none : Matched is [] []
  both_more : {a : A} {d : D} {l : List A} {k : List D} → is a d → Matched is l k → Matched is (a ∷ l) (d ∷ k)

-- what was read of a list: an item for each, and its end
pub record Read {A D : Type 0} (is : A → D → Type 0) (ds : List D) (e : ℕ) (x : Items A) : Type 0 where
  pub found : List A
  pub reads-them : x ≡ items found e
  pub matches : Matched is found ds

-- `is a d`: the item a is d, whose text is `write d`
module _ {A D : Type 0} (one : ℕ → Next A) (close : ℕ) (s : List ℕ) (write : D → List ℕ) (is : A → D → Type 0) where
  -- wherever its text stands, d is found
  pub record Item (d : D) : Type 0 where
    pub starts : Starts (write d)
    pub not-closing : get_or (write d) 0 0 ≡ close → ⊥
    pub finds : (j : ℕ) (u : List ℕ) → drop j s ≡ write d ++ u → Stops u → (a : A) × (one j ≡ item a (j + length (write d))) × is a d

  module _ (later : 44 < close) (stops : (u : List ℕ) → Stops (close ∷ u)) where
    -- the last item, and the bracket
    last_step : (m : ℕ) (a : A) (j e : ℕ) (u : List ℕ) → one j ≡ item a e → drop e s ≡ close ∷ u
        → onward (λ k. list one close s (suc m) false k) (one j) ≡ items (a ∷ []) (e + 1)
    unfolding onward list prepended
    last_step m a j e u h r =
        rw (h, onward)
        (ap (λ (x : Next A). prepended a (onward (λ k. list one close s m false k) x))
        (later-ends one close s e (e + 1) (separates-not 44 s e close u r (omega arith) (λ q. omega arith)) (closes close s e close u r (omega arith) refl)))

    -- an item, a comma and the next item
    next-step : (m : ℕ) (a : A) (j e : ℕ) (u : List ℕ) → one j ≡ item a e → drop e s ≡ 44 ∷ u → 32 < get_or u 0 0
        → onward (λ k. list one close s (suc m) false k) (one j) ≡ prepended a (onward (λ k. list one close s m false k) (one (e + 1)))
    unfolding onward list
    next-step m a j e u h r l =
        rw (h, onward)
        (ap (λ (x : Next A). prepended a (onward (λ k. list one close s m false k) x))
        (later-item one close s e (e + 1) (separates 44 s e 44 u r (omega arith) refl l)))

    joined : D → List D → List ℕ
    joined d ds = comma_joined (map write (d ∷ ds))

    first-joined : (d : D) (ds : List D) (u : List ℕ) → Starts (write d) → get_or (joined d ds ++ u) 0 0 ≡ get_or (write d) 0 0
    unfolding joined comma_joined
    first-joined d [] u h = starts-append h u
    first-joined d (e ∷ ds) u h = ap (λ (l : List ℕ). get_or l 0 0) (append_assoc (write d) _ u) ∙ starts-append h _

    first-of : {d : D} {ds : List D} → Each Item (d ∷ ds) → Item d
    first-of (each_more i r) = i

    first-seen : (d : D) (ds : List D) (u : List ℕ) → Item d → 32 < get_or (joined d ds ++ u) 0 0
    first-seen d ds u i = let e = first-joined d ds u i.starts in let l = i.starts.seen in omega arith

    walked : (n : ℕ) (d : D) (ds : List D) (j : ℕ) (u : List ℕ) → Each Item (d ∷ ds) → length s ≤ n + j → drop j s ≡ joined d ds ++ (close ∷ u)
        → Read is (d ∷ ds) (j + (length (joined d ds) + 1)) (onward (λ k. list one close s n false k) (one j))
    unfolding joined comma_joined prepended
    walked zero d ds j u r l h = let p = in-text s j _ h (first-seen d ds (close ∷ u) (first-of r)) in absurd (omega arith)
    walked (suc m) d [] j u (each_more i r) l h =
        let f = i.finds j (close ∷ u) h (stops u) in
        let n : j + length (write d) + 1 ≡ j + (length (write d) + 1) = omega arith in
        record {
          found = f.0 ∷ [];
          reads-them = last_step m f.0 j (j + length (write d)) u f.1 (past s j (write d) (close ∷ u) h) ∙ ap (items (f.0 ∷ [])) n;
          matches = both_more f.2 both_none;
        }
    walked (suc m) d (e ∷ ds) j u (each_more i r) l h =
        let p : drop j s ≡ write d ++ (44 ∷ (joined e ds ++ (close ∷ u))) = h ∙ append_assoc (write d) (44 ∷ joined e ds) (close ∷ u) in
        let f = i.finds j (44 ∷ (joined e ds ++ (close ∷ u))) p (comma-stops _) in
        let k : ℕ = j + length (write d) in
        let q : drop k s ≡ 44 ∷ (joined e ds ++ (close ∷ u)) = past s j (write d) _ p in
        let rest = walked m e ds (k + 1) u r (omega arith) (past-byte s k 44 _ q) in
        let g : length (write d ++ (44 ∷ joined e ds)) ≡ length (write d) + suc (length (joined e ds)) = length-append (write d) (44 ∷ joined e ds) in
        let n : k + 1 + (length (joined e ds) + 1) ≡ j + (length (write d ++ (44 ∷ joined e ds)) + 1) = omega arith in
        record {
          found = f.0 ∷ rest.found;
          reads-them =
              next-step m f.0 j k (joined e ds ++ (close ∷ u)) f.1 q (first-seen e ds (close ∷ u) (first-of r))
              ∙ ap (prepended f.0) rest.reads-them
              ∙ ap (items (f.0 ∷ rest.found)) n;
          matches = both_more f.2 rest.matches;
        }

    -- from past the opening bracket
    pub list_read : (ds : List D) (i : ℕ) (u : List ℕ) → Each Item ds → drop i s ≡ comma_joined (map write ds) ++ (close ∷ u)
        → Read is ds (i + (length (comma_joined (map write ds)) + 1)) (list_of one close s i)
    unfolding list_of list onward comma_joined joined
    list_read [] i u r h = record {
      found = [];
      reads-them = ap (onward (λ k. list one close s (length s) false k)) (first_ends one close s i (i + 1) (closes close s i close u h (omega arith) refl));
      matches = both_none;
    }
    list_read (d ∷ ds) i u r h =
        let w = walked (length s) d ds i u r (omega arith) h in
        let f = first-of r in
        let b : blanks s i ≡ i = no-blanks s i _ h (first-seen d ds (close ∷ u) f) in
        let e = first-joined d ds (close ∷ u) f.starts in
        record {
          found = w.found;
          reads-them =
              ap (onward (λ k. list one close s (length s) false k)) (first-item one close s i (opens (joined d ds ++ (close ∷ u)) h (first-seen d ds (close ∷ u) f) (λ q. f.not-closing (sym e ∙ q))) ∙ ap one b)
              ∙ w.reads-them;
          matches = w.matches;
        }
      where
        opens : (t : List ℕ) → drop i s ≡ t → 32 < get_or t 0 0 → (get_or t 0 0 ≡ close → ⊥) → closing close s i ≡ None
        opens [] h l n = absurd (omega arith)
        opens (x ∷ t) h l n = closes-not close s i x t h l n
