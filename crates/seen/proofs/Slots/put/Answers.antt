-- `seen::Slots::put` meets its contract.
-- Assumes nothing.
use Rattle.seen.proofs.Laws.{no_head, no_low, too_great, is_room_lem}
use Rattle.seen.proofs.Slots.put.Goals as goal

pub returns-then-self-slot-clause-put : goal.returns-then-self-slot-clause-put
returns-then-self-slot-clause-put c =
    let a = c.args in
    no_head a.self.now.heads.now a.self.now.lows.now a.slot a.number a.value c.if-self-slot.true

pub returns-then-self-slot-2-clause-put : goal.returns-then-self-slot-2-clause-put
returns-then-self-slot-2-clause-put c =
    let a = c.args in
    no_low a.self.now.heads.now a.self.now.lows.now a.slot a.number a.value c.if-self-slot.false c.if-self-slot-2.true

pub returns-then-value-ge-VALUES-clause-put : goal.returns-then-value-ge-VALUES-clause-put
returns-then-value-ge-VALUES-clause-put c =
    let a = c.args in
    too_great a.self.now.heads.now a.self.now.lows.now a.slot a.number a.value c.if-self-slot.false c.if-self-slot-2.false c.if-value-ge-VALUES.true

pub returns-clause-put : goal.returns-clause-put
returns-clause-put c =
    let a = c.args in
    rw c.tag_of.ensures (is_room_lem a.self.now.heads.now a.self.now.lows.now a.slot a.number a.value c.if-self-slot.false c.if-self-slot-2.false c.if-value-ge-VALUES.false)
