-- What the loops that shift an array up and down leave in it, in closed form. `a` is the array where the loop begins, and it holds n elements.
-- Assumes nothing.
use Prim.Native.Nat.{ℕ, zero, suc, ◌+◌, ◌-◌, ◌≤◌, ◌<◌}
use mathlib.Core.Path.{◌≡◌, sym, ap, ◌∙◌}
use mathlib.Core.List.{List, [], ◌∷◌, ◌++◌, append_assoc, append-nil}
use native.Mathlib.Omega.{arith}
use native.Mathlib.Numerals.{add-one}
use lib.ListN.{length, get_or, set, take, drop, length-append, length-drop, take-append-drop, drop_of_length-le, get_or-append}
use lib.Seq.{length-take-le, take-suc, take-suc-set, drop-cons, drop-drop, take_at, set_at, take-take, drop-append-le, get_or-take, get_or-drop, get_or-append-add, append_snoc}

module _ {A : Type 0} where
  -- up from `at`: slots above j have what stood one below them
  unfoldable pub up : List A → ℕ → ℕ → List A
  up a j n = take (suc j) a ++ (drop j (take n a) ++ drop (suc n) a)

  -- down to `at`: slots from `at` to below j have what stood one above them
  unfoldable pub down : List A → ℕ → ℕ → List A
  down a at j = (take at a ++ drop (suc at) (take (suc j) a)) ++ drop j a

  drop-take-none : (n : ℕ) (a : List A) → n ≤ length a → drop n (take n a) ≡ []
  drop-take-none n a h = let e : length (take n a) ≤ n = omega (arith, length-take-le n a h) in drop_of_length-le (take n a) e

  pub up_start : (a : List A) (n : ℕ) → n < length a → a ≡ up a n n
  unfolding up
  up_start a n h =
      sym (take-append-drop (suc n) a) ∙ ap (λ (r : List A). take (suc n) a ++ (r ++ drop (suc n) a)) (sym (drop-take-none n a (omega arith)))

  -- the slot below j, as it is read in a turn
  pub up-read : (a : List A) (j n : ℕ) (d : A) → suc j ≤ n → n < length a → get_or (up a (suc j) n) j d ≡ get_or a j d
  unfolding up
  up-read a j n d h k =
      get_or-append (take (suc (suc j)) a) (drop (suc j) (take n a) ++ drop (suc n) a) d j (omega (arith, length-take-le (suc (suc j)) a (omega arith)))
      ∙ get_or-take (suc (suc j)) a j d (omega arith)

  -- a store at j in a list that is cut after j
  store-cut : (a r : List A) (j : ℕ) (x : A) → j < length a → set (take (suc j) a ++ r) j x ≡ take j a ++ x ∷ r
  store-cut a r j x h =
      ap (λ (t : List A). set (t ++ r) j x) (take-suc a j x h)
      ∙ (ap (λ (t : List A). set t j x) (append_snoc (take j a) (get_or a j x) r)
      ∙ set_at (take j a) (get_or a j x) r x j (length-take-le j a (omega arith)))

  pub up_step : (a : List A) (j n : ℕ) (d : A) → suc j ≤ n → n < length a → set (up a (suc j) n) (suc j) (get_or a j d) ≡ up a j n
  unfolding up
  up_step a j n d h k =
      store-cut a (drop (suc j) (take n a) ++ drop (suc n) a) (suc j) (get_or a j d) (omega arith)
      ∙ ap (λ (r : List A). take (suc j) a ++ (r ++ drop (suc n) a))
      (sym (drop-cons (take n a) j d (omega (arith, length-take-le n a (omega arith))) ∙ ap (λ (y : A). y ∷ drop (suc j) (take n a)) (get_or-take n a j d (omega arith))))

  pub up-end : (a : List A) (at n : ℕ) (x : A) → at ≤ n → n < length a → take (suc n) (set (up a at n) at x) ≡ take at (take n a) ++ x ∷ drop at (take n a)
  unfolding up
  up-end a at n x h k =
      ap (take (suc n)) (store-cut a (drop at (take n a) ++ drop (suc n) a) at x (omega arith) ∙ sym (append_assoc (take at a) (x ∷ drop at (take n a)) (drop (suc n) a)))
      ∙ (take_at (take at a ++ x ∷ drop at (take n a)) (drop (suc n) a) (suc n)
      (simp (length-append, length-drop) (omega (arith, length-take-le at a (omega arith), length-take-le n a (omega arith))))
      ∙ ap (λ (r : List A). r ++ x ∷ drop at (take n a)) (sym (take-take at n a h)))

  pub length_up : (a : List A) (j n : ℕ) → j ≤ n → n < length a → length (up a j n) ≡ length a
  unfolding up
  length_up a j n h k =
      simp (length-append, length-drop) (omega (arith, length-take-le (suc j) a (omega arith), length-take-le n a (omega arith)))

  -- ---- down

  length_front : (a : List A) (at j : ℕ) → at ≤ j → j < length a → length (take at a ++ drop (suc at) (take (suc j) a)) ≡ j
  length_front a at j h k =
      simp (length-append, length-drop) (omega (arith, length-take-le at a (omega arith), length-take-le (suc j) a (omega arith)))

  pub down-start : (a : List A) (at : ℕ) → at < length a → a ≡ down a at at
  unfolding down
  down-start a at h =
      sym (take-append-drop at a) ∙ ap (λ (r : List A). r ++ drop at a) (sym (ap (λ (r : List A). take at a ++ r) (drop-take-none (suc at) a (omega arith)) ∙ append-nil (take at a)))

  pub down-read : (a : List A) (at j : ℕ) (d : A) → at ≤ j → j < length a → get_or (down a at j) (j + 1) d ≡ get_or a (j + 1) d
  unfolding down
  down-read a at j d h k =
      ap (λ (i : ℕ). get_or (down a at j) (i + 1) d) (sym (length_front a at j h k))
      ∙ (get_or-append-add (take at a ++ drop (suc at) (take (suc j) a)) (drop j a) 1 d ∙ get_or-drop j a 1 d)

  pub down_step : (a : List A) (at j : ℕ) (d : A) → at ≤ j → suc j < length a → set (down a at j) j (get_or a (suc j) d) ≡ down a at (suc j)
  unfolding down
  down_step a at j d h k =
      ap (λ (t : List A). set ((take at a ++ drop (suc at) (take (suc j) a)) ++ t) j (get_or a (suc j) d)) (drop-cons a j d (omega arith))
      ∙ (set_at (take at a ++ drop (suc at) (take (suc j) a)) (get_or a j d) (drop (suc j) a) (get_or a (suc j) d) j (length_front a at j h (omega arith))
      ∙ (sym (append_snoc (take at a ++ drop (suc at) (take (suc j) a)) (get_or a (suc j) d) (drop (suc j) a))
      ∙ ap (λ (t : List A). t ++ drop (suc j) a)
      (append_assoc (take at a) (drop (suc at) (take (suc j) a)) (get_or a (suc j) d ∷ [])
      ∙ ap (λ (t : List A). take at a ++ t)
      (sym (ap (drop (suc at)) (take-suc a (suc j) d k) ∙ drop-append-le (suc at) (take (suc j) a) (get_or a (suc j) d ∷ []) (omega (arith, length-take-le (suc j) a (omega arith))))))))

  pub down-end : (a : List A) (at m : ℕ) → at ≤ m → m < length a → take m (down a at m) ≡ take at (take (suc m) a) ++ drop (suc at) (take (suc m) a)
  unfolding down
  down-end a at m h k =
      take_at (take at a ++ drop (suc at) (take (suc m) a)) (drop m a) m (length_front a at m h k)
      ∙ ap (λ (r : List A). r ++ drop (suc at) (take (suc m) a)) (sym (take-take at (suc m) a (omega arith)))

  pub length-down : (a : List A) (at j : ℕ) → at ≤ j → j < length a → length (down a at j) ≡ length a
  unfolding down
  length-down a at j h k =
      length-append (take at a ++ drop (suc at) (take (suc j) a)) (drop j a) ∙ omega (arith, length_front a at j h k, length-drop j a)

  -- a turn of each loop, as the code has it
  pub up_turn : (a v : List A) (j n : ℕ) (d : A) → 0 < j → j ≤ n → n < length a → v ≡ up a j n → set v j (get_or v (j - 1) d) ≡ up a (j - 1) n
  up_turn a v zero n d p h k e = absurd (omega arith)
  up_turn a v (suc i) n d p h k e =
      let q : suc i - 1 ≡ i = omega arith in rw (e, q, up-read a i n d h k) (up_step a i n d h k)

  pub down_turn : (a v : List A) (at j : ℕ) (d : A) → at ≤ j → j + 1 < length a → v ≡ down a at j → set v j (get_or v (j + 1) d) ≡ down a at (j + 1)
  down_turn a v at j d h k e =
      rw (e, down-read a at j d h (omega arith)) (rw add-one (down_step a at j d h (omega arith)))

  -- ---- copying from one list to another, one element a turn

  pub copied : (a c : List A) (i : ℕ) (d : A) → i < length a → i < length c → take i c ≡ take i a → take (i + 1) (set c i (get_or a i d)) ≡ take (i + 1) a
  copied a c i d h l e =
      rw add-one
      (take-suc-set c i (get_or a i d) l ∙ (ap (λ r. r ++ get_or a i d ∷ []) e ∙ sym (take-suc a i d h)))

  -- what is equal from n on is equal from further on
  pub drop-on : (a c : List A) (n m : ℕ) → drop n a ≡ drop n c → drop (n + m) a ≡ drop (n + m) c
  drop-on a c n m e = sym (drop-drop m n a) ∙ ap (drop m) e ∙ drop-drop m n c
