-- Company codes of transferors and railways (document 01, 'Values': transferor 0001-9999, railway 0000-9999, 0000 = all railways).
-- Assumes nothing.
use Rattle.std.specs.Prelude.{ℕ, Bool, not, ◌&&◌, List, [], ◌∷◌, leb}
use Rattle.common.specs.Lists.{same}
use Rattle.common.specs.Digits.{number_of, value_of, is_within}
use Rattle.layout.specs.Bytes.{byte_0}

unfoldable pub is_company : List ℕ → Bool
is_company s = is_within 0 9999 (number_of s)

unfoldable pub is_all_railways : List ℕ → Bool
is_all_railways s = same s (byte_0 ∷ byte_0 ∷ byte_0 ∷ byte_0 ∷ [])

unfoldable pub is_transferor : List ℕ → Bool
is_transferor s = not (is_all_railways s) && is_company s

-- the number that questions and books give a company by
unfoldable pub company_of : List ℕ → ℕ
company_of s = value_of (number_of s)

-- "a railway 1-9999": a number that a railway may be asked by
unfoldable pub is_railway : ℕ → Bool
is_railway n = leb 1 n && leb n 9999
