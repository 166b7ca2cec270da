-- Transferors and keys (document 01, 'Keys and links', and document 02, R-2).
-- Assumes nothing.
use Rattle.std.specs.Prelude.{ℕ, Bool, not, ◌&&◌, List, get_or}
use Rattle.common.specs.Least.{least}
use Rattle.common.specs.Lists.{same}
use Rattle.layout.specs.Layout.{is_table}
use Rattle.layout.specs.Fields.{transferor_of, same_key, share_day}
use Rattle.bundle.specs.Records.{Rec, no_rec}

-- "All transferors equal the first record's."
unfoldable pub other_transferor : List Rec → Rec → Bool
other_transferor R r = not (same (transferor_of r.body) (transferor_of (get_or R 0 no_rec).body))

-- may these two records not stand together? (of one table and of one key, and with a day in both periods)
unfoldable pub clash : Rec → Rec → Bool
clash r q = is_table r.table q.table && (same_key r.table r.body q.body && share_day r.table r.body q.body)

-- the first of the i records before r that it clashes with; i where there is none
unfoldable pub earlier_of : List Rec → ℕ → Rec → ℕ
earlier_of R i r = least (λ j. clash r (get_or R j no_rec)) i
