-- Laws of words, and of a call that is whole. Assumes nothing.
use Prim.Native.Nat.{ℕ, zero, suc, ◌-◌, ◌/◌, ◌≤◌, ◌<◌}
use mathlib.Core.Path.{◌≡◌, refl, sym, ap}
use mathlib.Core.Bool.{Bool, true, false, ◌&&◌, true≢false}
use mathlib.Core.List.{List}
use borrow.Author.Tests.{leb-true, le-leb, lt-leb}
use lib.Dec.{leb}
use lib.ListN.{length}
use Rattle.std.proofs.Common.{w64}
use Rattle.std.specs.Int.{to_le_bytes}
use Rattle.std.proofs.Math.Nat.{div-div-eq-div-mul}
use Rattle.replay.specs.Format.{bytes_of, opcode, message_length, buffer_length, is_whole}

pub length-bytes : (k n : ℕ) → length (bytes_of k n) ≡ k
unfolding bytes_of
length-bytes zero n = refl
length-bytes (suc k) n = ap suc (length-bytes k (n / 256))

-- std's bytes of a number, the lowest first, are these
pub le-bytes : (n : ℕ) → to_le_bytes w64 n ≡ bytes_of 8 n
unfolding bytes_of
le-bytes n =
    rw (
      div-div-eq-div-mul n 256 256,
      div-div-eq-div-mul n 65536 256,
      div-div-eq-div-mul n 16777216 256,
      div-div-eq-div-mul n 4294967296 256,
      div-div-eq-div-mul n 1099511627776 256,
      div-div-eq-div-mul n 281474976710656 256,
    )

-- ---- a call that is whole

both : (a b : Bool) → a && b ≡ true → (a ≡ true) × (b ≡ true)
both true b e = (refl, e)
both false b e = absurd (true≢false (sym e))

pub record Fits (s : List ℕ) (room : ℕ) : Type 0 where
  pub header : 48 ≤ length s
  pub message : message_length s ≤ length s - 48
  pub words : 56 ≤ room
  pub buffer : buffer_length s ≤ room - 56

pub whole-fits : (s : List ℕ) (room : ℕ) → is_whole s room ≡ true → Fits s room
unfolding is_whole
whole-fits s room e =
    let a = both (leb 48 (length s)) _ e in
    let b = both (leb (opcode s) 5) _ a.1 in
    let c = both (leb (message_length s) (length s - 48)) _ b.1 in
    let d = both (leb 56 room) _ c.1 in
    record {
      header = leb-true _ _ a.0;
      message = leb-true _ _ c.0;
      words = leb-true _ _ d.0;
      buffer = leb-true _ _ d.1;
    }

-- the tests, one after another
module _ (s : List ℕ) (room : ℕ) where
  pub not-header : length s < 48 → false ≡ is_whole s room
  unfolding is_whole
  not-header h = rw (lt-leb 48 (length s) h)

  module _ (h : 48 ≤ length s) {op : ℕ} (e : op ≡ opcode s) where
    pub not-opcode : 5 < op → false ≡ is_whole s room
    unfolding is_whole
    not-opcode k = rw (le-leb 48 (length s) h, ← e, lt-leb op 5 k)

    module _ (k : op ≤ 5) {m : ℕ} (f : m ≡ message_length s) where
      pub not-message : length s - 48 < m → false ≡ is_whole s room
      unfolding is_whole
      not-message l = rw (le-leb 48 (length s) h, ← e, le-leb op 5 k, ← f, lt-leb m (length s - 48) l)

      module _ (l : m ≤ length s - 48) where
        pub not-words : room < 56 → false ≡ is_whole s room
        unfolding is_whole
        not-words n = rw (le-leb 48 (length s) h, ← e, le-leb op 5 k, ← f, le-leb m (length s - 48) l, lt-leb 56 room n)

        pub whole_by : 56 ≤ room → {n : ℕ} → n ≡ buffer_length s → leb n (room - 56) ≡ is_whole s room
        unfolding is_whole
        whole_by n g = rw (le-leb 48 (length s) h, ← e, le-leb op 5 k, ← f, le-leb m (length s - 48) l, le-leb 56 room n, ← g)
