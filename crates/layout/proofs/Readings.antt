-- What is read off a record is what its fields say: a flag is set where it is Y, and blanks are 0.
-- Assumes nothing.
use Prim.Native.Nat.{ℕ, ◌+◌, ◌-◌}
use mathlib.Core.Path.{◌≡◌, refl, ap}
use mathlib.Core.Bool.{true}
use mathlib.Core.List.{List, [], ◌∷◌}
use mathlib.Core.Logic.{◌⊎◌, ⊎_elim, ◌↔◌}
use native.Mathlib.Omega.{arith}
use lib.Dec.{ltb}
use lib.ListN.{length}
use borrow.Author.Tests.{eqb-true, eq-eqb}
use Rattle.common.specs.Digits.{number_of, digits_after, value_of}
use Rattle.std.specs.Prelude.{None}
use Rattle.common.proofs.Tests.{either_way}
use Rattle.common.proofs.Lists.{same_is, is_same}
use Rattle.layout.specs.Bytes.{byte_blank, byte_Y}
use Rattle.layout.specs.Company.{is_all_railways, is_railway}
use Rattle.layout.specs.Layout.{CO, table_at}
use Rattle.layout.specs.Fields.{row_with, row_of, bytes_of, byte_of, number_in, is_flag_row, is_yes}
use Rattle.layout.specs.declared.Table.{Table}
use Rattle.layout.specs.Values.{Blank, Within, Readings, Railways}
use Rattle.layout.proofs.Meanings.{between}
use Rattle.layout.proofs.Flags.{flags_stand}

set_if_Y : (t : Table) (f : ℕ) (body : List ℕ) → is_flag_row (row_of t f) ≡ true → (is_yes t f body ≡ true) ↔ (byte_of t f body ≡ byte_Y)
unfolding is_yes
set_if_Y t f body e = rw e (eqb-true (byte_of t f body) byte_Y, eq-eqb (byte_of t f body) byte_Y)

is_flag_lem : (f : ℕ) → (f ≡ 27) ⊎ Within 31 38 f → is_flag_row (row_of CO f) ≡ true
unfolding row_of row_with table_at
is_flag_lem f w = ⊎_elim (λ e. rw e) (λ h. let k : 31 + (f - 31) ≡ f = omega arith in rw k at (flags_stand (f - 31) (omega arith)).0) w

-- blanks are no digits
blank_is_0 : (s : List ℕ) → Blank s → value_of (number_of s) ≡ 0
unfolding number_of digits_after
blank_is_0 [] b = refl
blank_is_0 (x ∷ s) b = let e : x ≡ byte_blank = b 0 (omega arith) in rw e (ap value_of (either_way (ltb 9 (length (x ∷ s))) None))

pub readings : (body : List ℕ) → Readings body
unfolding number_in
readings body = record {
  flags = λ f w. set_if_Y CO f body (is_flag_lem f w);
  digits = λ t f n e. ap value_of e;
  blanks = λ t f b. blank_is_0 (bytes_of t f body) b;
}

pub railways : Railways
unfolding is_all_railways is_railway
railways = record { for_all = λ s. (same_is s _, is_same s _); asked = λ railway. between 1 railway 9999 }
