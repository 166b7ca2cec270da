-- `bundle::apart::is_apart` meets its contract.
-- Assumes nothing.
use Rattle.bundle.specs.Records.{rec}
use Rattle.bundle.proofs.KeptPlaces.{put_tells}
use Rattle.bundle.proofs.apart.is_apart.Goals as goal

pub returns-clause-told : goal.returns-clause-told
returns-clause-told c =
    let a = c.args in
    put_tells a.bundle.now a.slots.now.heads.now a.slots.now.lows.now (rec a.table a.r.now) c.in-Some.slot a.at c.key_number-number.ensures c.in-Some.ensures c.put.ensures.put
