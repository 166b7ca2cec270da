-- Laws of the table of values: one put into the first empty slot on its number's way is held from then on, nothing held is forgotten, and what is held
-- under a number stands before any empty slot on its way.
-- Assumes nothing.
use Prim.Native.Nat.{ℕ, ◌+◌, ◌%◌, ◌≤◌, ◌<◌}
use mathlib.Core.Path.{◌≡◌, sym, ◌∙◌}
use mathlib.Core.Bool.{Bool, true, false, cond}
use mathlib.Core.Logic.{⊎_elim}
use mathlib.Core.List.{List}
use native.Mathlib.Omega.{arith}
use native.Mathlib.Numerals.{add-one}
use lib.Dec.{ltb}
use lib.ListN.{length, get_or, set, length-set}
use lib.Seq.{get_or-set_same, get_or-set_other}
use borrow.Author.Tests.{eqb-true, eq-eqb, ltb-true, lt-ltb, le-ltb}
use Rattle.common.proofs.Tests.{both_true, order}
use Rattle.seen.specs.Seen.{slot_behind, slot_of, tag_of, head_of, has_tag, value_at, is_room, heads_with, lows_with, IsPut, try_at, Filled, Held, Holds}

-- THE WAY OF A NUMBER, a step further
pub next_try : (slots number k : ℕ) → slot_of slots number (k + 1) ≡ slot_behind slots (slot_of slots number k)
unfolding slot_of
next_try slots number k = rw add-one

-- A HEAD has its number's tag, and whatever has a tag is not empty.
own_tag : (number value : ℕ) → has_tag (head_of number value) number ≡ true
unfolding has_tag
own_tag number value = eq-eqb (head_of number value % 16) _ (omega arith)

not_empty : (head number : ℕ) → has_tag head number ≡ true → 0 < head
unfolding has_tag
not_empty head number e = let t = eqb-true (head % 16) (tag_of number) e in omega arith

-- WHAT IS HELD under a number stands before any empty slot on its way.
pub held_before_lem : (heads lows : List ℕ) (number value k : ℕ) → try_at heads number k ≡ 0 → (h : Held heads lows number value) → h.tried < k
held_before_lem heads lows number value k e h =
    let l = not_empty (try_at heads number h.tried) number h.tagged in
    ⊎_elim (λ b. b) (⊎_elim (λ q. absurd (omega (arith, rw (← q) at e))) (λ b. absurd (omega (arith, h.filled k b)))) (order h.tried k)

-- ROOM, or none
module _ (heads lows : List ℕ) (slot number value : ℕ) where
  abbrev Put : Bool → Type 0
  Put b = IsPut heads lows slot number value b (cond b (set heads slot (head_of number value)) heads) (cond b (set lows slot (value % 65536)) lows)

  put_by : (b : Bool) → is_room heads lows slot value ≡ b → Put b
  unfolding heads_with lows_with
  put_by b e = (sym e, rw e, rw e)

  pub no_head : length heads ≤ slot → Put false
  unfolding is_room
  no_head l = put_by false (rw (le-ltb slot (length heads) l))

  pub no_low : slot < length heads → length lows ≤ slot → Put false
  unfolding is_room
  no_low a l = put_by false (rw (lt-ltb slot (length heads) a, le-ltb slot (length lows) l))

  module _ (a : slot < length heads) (b : slot < length lows) where
    pub too_great : 1048576 ≤ value → Put false
    unfolding is_room
    too_great l = put_by false (rw (lt-ltb slot (length heads) a, lt-ltb slot (length lows) b, le-ltb value 1048576 l))

    pub is_room_lem : value < 1048576 → Put true
    unfolding is_room
    is_room_lem l = put_by true (rw (lt-ltb slot (length heads) a, lt-ltb slot (length lows) b, lt-ltb value 1048576 l))

  -- WHERE THERE IS ROOM the value stands in its slot, and the others stand where they did.
  module _ (room : is_room heads lows slot value ≡ true) where
    abbrev heads_after : List ℕ
    heads_after = heads_with heads lows slot number value

    abbrev lows_after : List ℕ
    lows_after = lows_with heads lows slot value

    pub room_inside : (slot < length heads) × (slot < length lows)
    unfolding is_room
    room_inside =
        let b = both_true (ltb slot (length heads)) _ room in
        (ltb-true slot (length heads) b.0, ltb-true slot (length lows) (both_true (ltb slot (length lows)) _ b.1).0)

    as_many : length heads_after ≡ length heads
    as_many = rw (← (put_by true room).1) (length-set heads slot _)

    head_put : get_or heads_after slot 0 ≡ head_of number value
    head_put = rw (← (put_by true room).1) (get_or-set_same heads slot _ 0 room_inside.0)

    value_put : value_at heads_after lows_after slot ≡ value
    value_put = rw (head_put, ← (put_by true room).2, get_or-set_same lows slot (value % 65536) 0 room_inside.1) (omega arith)

    elsewhere : (other : ℕ) → (other ≡ slot → ⊥) → (get_or heads_after other 0 ≡ get_or heads other 0) × (get_or lows_after other 0 ≡ get_or lows other 0)
    elsewhere other n =
        let p = put_by true room in
        (rw (← p.1) (get_or-set_other heads slot other _ 0 n), rw (← p.2) (get_or-set_other lows slot other _ 0 n))

    -- IF THE SLOT WAS EMPTY nothing is forgotten,
    module _ (empty : get_or heads slot 0 ≡ 0) where
      head_stays : (m k : ℕ) → 0 < try_at heads m k → try_at heads_after m k ≡ try_at heads m k
      head_stays m k l = rw as_many (elsewhere (slot_of (length heads) m k) (λ e. omega (arith, rw e at l))).0

      value_stays : (m k : ℕ) → 0 < try_at heads m k
          → value_at heads_after lows_after (slot_of (length heads_after) m k) ≡ value_at heads lows (slot_of (length heads) m k)
      value_stays m k l = let o = elsewhere (slot_of (length heads) m k) (λ e. omega (arith, rw e at l)) in rw (as_many, o.0, o.1)

      still_filled : (m k : ℕ) → Filled heads m k → Filled heads_after m k
      still_filled m k f j l = rw (head_stays m j (f j l)) (f j l)

      keeps : (m v : ℕ) → Held heads lows m v → Held heads_after lows_after m v
      keeps m v h =
          let l = not_empty (try_at heads m h.tried) m h.tagged in
          record {
            tried = h.tried;
            filled = still_filled m h.tried h.filled;
            tagged = rw (head_stays m h.tried l) h.tagged;
            there = value_stays m h.tried l ∙ h.there;
          }

      -- and if it was the first on the number's way, the value is held under it.
      now_held : (k : ℕ) → slot ≡ slot_of (length heads) number k → Filled heads number k → Held heads_after lows_after number value
      now_held k e f =
          record {
            tried = k;
            filled = still_filled number k f;
            tagged = rw (as_many, ← e, head_put) (own_tag number value);
            there = rw (as_many, ← e) value_put;
          }

  -- of what was told, and kept, of a value
  pub put_holds : {told : Bool} {heads_after lows_after : List ℕ} → IsPut heads lows slot number value told heads_after lows_after → told ≡ true
      → get_or heads slot 0 ≡ 0 → (k : ℕ) → slot ≡ slot_of (length heads) number k → Filled heads number k
      → Holds number value heads lows heads_after lows_after
  put_holds p t empty k e f = let room = sym p.0 ∙ t in rw (p.1, p.2) (now_held room empty k e f, keeps room empty)
