-- A sound book stays sound: an entry that may be added leaves it so, and so does a cancellation, which changes no number.
-- Assumes nothing.
use Prim.Native.Nat.{ℕ, ◌+◌, ◌<◌}
use mathlib.Core.Path.{◌≡◌, refl, sym, ◌∙◌, ap}
use mathlib.Core.Bool.{Bool, true, false, cond}
use mathlib.Core.List.{List, [], ◌∷◌, map}
use native.Mathlib.Omega.{arith}
use lib.ListN.{length, get_or, drop, set, length-map, length-set}
use lib.Seq.{get_or-set_other, drop-set-lt}
use Rattle.common.specs.Lists.{every}
use Rattle.common.proofs.Lists.{every_append, every_map, set_map}
use Rattle.common.proofs.Sums.{map_at}
use Rattle.fares.specs.Question.{card_slots, cards_differ, in_limits}
use Rattle.fares.specs.declared.Question.{Question}
use Rattle.book.specs.Words.{Entry, no_entry, capacity, start_of, status_at, count_of, entries, booking}
use Rattle.book.specs.Sound.{is_zero, number_in_limits, bound_of, is_bounded, entry_sound, has_number, held_at, numbers_differ}
use Rattle.book.specs.Changes.{added, cancelled_at}
use Rattle.book.proofs.QuestionWords.{said_count, said_bound, asked_sound_lem}
use Rattle.book.proofs.EntryWords.{cancelled_entry, Whole}
use Rattle.book.proofs.NumbersDiffer.{apart, differ_by, held_here, held_not_elsewhere, added_differ}
use Rattle.book.proofs.SoundBook.{IsSound, sound_entry, entry_is, entries_length}
use Rattle.book.proofs.ChangedEntries.{added_count, entries_added, added_long, added_clear, entries_cancelled}

-- A BOOKING is a sound entry, and one more such entry with a new number leaves the book sound
pub booking_sound : (t s : ℕ) (q : Question) (parts : List ℕ) → number_in_limits t s ≡ true → in_limits q ≡ true
    → cards_differ (card_slots q) ≡ true → is_bounded (bound_of q) parts ≡ true → every is_zero (drop q.count parts) ≡ true → entry_sound (booking t s q parts) ≡ true
unfolding entry_sound every
booking_sound t s q parts n l d b z = rw (n, asked_sound_lem q l d, said_bound q, b, said_count q, z)

module _ (w : List ℕ) (s : IsSound w) (e : Entry) (room : count_of w < capacity) (h : Whole e) (good : entry_sound e ≡ true)
    (new-number : held_at e.till e.sequence (entries w) ≡ length (entries w)) where
  pub added_sound : IsSound (added w e)
  unfolding every
  added_sound =
      let es = entries_added w s e room h in
      record {
        long = added_long w s e room h;
        few = omega (arith, added_count w s e room h);
        good = rw es (every_append entry_sound (entries w) (e ∷ []) ∙ rw (s.good, good));
        differ = rw es (added_differ (entries w) e s.differ new-number);
        clear = added_clear w s e room h;
      }

-- A NUMBER CANCELLED: its entry is, and every other stays
abbrev pub cancelling : ℕ → ℕ → Entry → Entry
cancelling t s e = cond (has_number t s e) (cancelled_entry e) e

pub same_number_lem : (b : Bool) (e : Entry) → ((cond b (cancelled_entry e) e).till ≡ e.till) × ((cond b (cancelled_entry e) e).sequence ≡ e.sequence)
same_number_lem true e = (refl, refl)
same_number_lem false e = (refl, refl)

cancelled_sound : (b : Bool) (e : Entry) → entry_sound e ≡ true → entry_sound (cond b (cancelled_entry e) e) ≡ true
unfolding entry_sound every
cancelled_sound true e g = let h = sound_entry e g in rw (h.number, h.asked_well, h.bounded, h.unused, h.spared)
cancelled_sound false e g = g

module _ (t s : ℕ) (es : List Entry) where
  abbrev es' : List Entry
  es' = map (cancelling t s) es

  still_differ : numbers_differ es ≡ true → numbers_differ es' ≡ true
  still_differ d =
      differ_by es'
      (λ i j l h. let n = length-map es (cancelling t s) in
      let a = get_or es i no_entry in
      let b = get_or es j no_entry in
      let p = same_number_lem (has_number t s a) a in
      let r = same_number_lem (has_number t s b) b in
      rw (map_at (cancelling t s) es i no_entry no_entry (omega (arith, n)), map_at (cancelling t s) es j no_entry no_entry (omega (arith, n)), p.0, p.1, r.0, r.1)
      (apart es d i j (omega (arith, n)) h))

  cancelling_keeps : every entry_sound es ≡ true → numbers_differ es ≡ true → (every entry_sound es' ≡ true) × (numbers_differ es' ≡ true)
  cancelling_keeps g d = (every_map entry_sound (cancelling t s) (λ e. cancelled_sound (has_number t s e) e) es g, still_differ d)

  -- the status set where the number is held does just that
  set_is_map : numbers_differ es ≡ true → held_at t s es < length es → set es (held_at t s es) (cancelled_entry (get_or es (held_at t s es) no_entry)) ≡ es'
  set_is_map d l = set_map (has_number t s) cancelled_entry no_entry es (held_at t s es) l (held_here t s es l) (held_not_elsewhere t s es d)

module _ (w : List ℕ) (s : IsSound w) (t n : ℕ) (l : held_at t n (entries w) < length (entries w)) where
  abbrev i : ℕ
  i = held_at t n (entries w)

  pub cancelled_after : (entries (cancelled_at w i) ≡ map (cancelling t n) (entries w)) × IsSound (cancelled_at w i)
  cancelled_after =
      let h : i < count_of w = rw (entries_length w) at l in
      let c : count_of (cancelled_at w i) ≡ count_of w = get_or-set_other w (start_of i + status_at) 0 1 0 (λ e. omega arith) in
      let e : entries (cancelled_at w i) ≡ map (cancelling t n) (entries w) =
      entries_cancelled w s i h
      ∙ (ap (λ x. set (entries w) i (cancelled_entry x)) (sym (entry_is w i h)) ∙ set_is_map t n (entries w) s.differ l) in
      let k = cancelling_keeps t n (entries w) s.good s.differ in (
        e,
        record {
          long = length-set w (start_of i + status_at) 1 ∙ s.long;
          few = rw c s.few;
          good = rw e k.0;
          differ = rw e k.1;
          clear = rw (c, drop-set-lt (start_of (count_of w)) w (start_of i + status_at) 1 (omega arith)) s.clear;
        },
      )
