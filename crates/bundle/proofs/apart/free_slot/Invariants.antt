-- `bundle::apart::free_slot` meets its contract. The loop's invariant: the slot is that of try k of the number, and those before it are passed.
-- Assumes nothing.
use mathlib.Core.Path.{◌≡◌}
use lib.ListN.{length}
use Rattle.seen.specs.Seen.{slot_of}
use Rattle.bundle.specs.Records.{rec}
use Rattle.bundle.specs.Apart.{Passed}
use Rattle.bundle.proofs.apart.free_slot.Given as goal

abbrev pub invariant-loop : goal.invariant-loop
invariant-loop l = (l.slot ≡ slot_of (length l.slots.heads.now) l.number l.counter) × Passed l.bundle l.slots.heads.now l.slots.lows.now l.number (rec l.table l.r) l.counter
