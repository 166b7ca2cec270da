-- An order of checks, and the first of them that fails.
-- Assumes nothing.
use Rattle.std.specs.Prelude.{◌≡◌, ℕ, ◌+◌, Bool, true, false, cond, ◌&&◌, List, [], ◌∷◌, ◌++◌, nat_eq, Result, Ok, Err}
use Rattle.common.specs.Lists.{every, any}
use Rattle.common.specs.Reasons.{number_of_reason, is_listed}
use Rattle.common.specs.declared.reasons.Reason.{Reason}
use Rattle.common.specs.declared.Refusal.{Refusal}

-- why work is turned away, its place and its detail
abbrev pub refuse : Reason → ℕ → ℕ → Refusal
refuse k p d = record { reason = k; place = p; detail = d }

-- what a list of checks comes to: nothing fails, or what the first tells that does
pub data Finding : Type 0 where
  clean : Finding
  fault : Refusal → Finding

-- whether it fails, and what is then told
pub record Check : Type 0 where
  pub fails : Bool
  pub tells : Refusal

abbrev pub check : Bool → Reason → ℕ → ℕ → Check
check b k p d = record { fails = b; tells = refuse k p d }

-- the answer a, unless something was found: then the refusal
abbrev pub unless : {A : Type 0} → Finding → A → Result A Refusal
unless clean a = Ok a
unless (fault r) a = Err r

-- the first check of the list that fails
unfoldable pub first_fault : List Check → Finding
first_fault [] = clean
first_fault (c ∷ cs) = cond c.fails (fault c.tells) (first_fault cs)

-- the checks of each element in turn, the first of which is counted i
unfoldable pub each_from : {A : Type 0} → ℕ → (ℕ → A → List Check) → List A → List Check
each_from i f [] = []
each_from i f (x ∷ xs) = f i x ++ each_from (i + 1) f xs

-- WHAT IT MEANS. No check fails.
abbrev pub AllPass : List Check → Type 0
AllPass cs = any (λ c. c.fails) cs ≡ false

-- A check of the list fails that tells this, and none before it fails.
pub record First (cs : List Check) (r : Refusal) : Type 0 where
  pub before : List Check
  pub after : List Check
  pub split : cs ≡ before ++ (record { fails = true; tells = r } ∷ after)
  pub earlier_pass : AllPass before

-- The first that fails tells this number, place and detail.
abbrev pub FirstIs : List Check → ℕ → ℕ → ℕ → Type 0
FirstIs cs n p d = (k : Reason) × (number_of_reason k ≡ n) × First cs (refuse k p d)

-- What was found is a fault of this number, place and detail, by a reason of the table.
abbrev pub IsFault : Finding → ℕ → ℕ → ℕ → Type 0
IsFault f n p d = (k : Reason) × (number_of_reason k ≡ n) × (is_listed k ≡ true) × (f ≡ fault (refuse k p d))

-- So an answer is a refusal of this number, place and detail.
abbrev pub IsRefused : {A : Type 0} → Result A Refusal → ℕ → ℕ → ℕ → Type 0
IsRefused r n p d = (k : Reason) × (number_of_reason k ≡ n) × (is_listed k ≡ true) × (r ≡ Err (refuse k p d))

-- An answer, where it is a refusal, is one by a reason of the table.
abbrev pub IsListed : {A : Type 0} → Result A Refusal → Type 0
IsListed r = (why : Refusal) → r ≡ Err why → is_listed why.reason ≡ true

-- Each check of the list tells one of these numbers,
abbrev pub is_among : List ℕ → Check → Bool
is_among ns c = any (nat_eq (number_of_reason c.tells.reason)) ns

abbrev pub TellsOf : List ℕ → List Check → Type 0
TellsOf ns cs = every (is_among ns) cs ≡ true

-- and does so by a reason of the table.
abbrev pub is_listed_among : List ℕ → Check → Bool
is_listed_among ns c = is_listed c.tells.reason && is_among ns c

abbrev pub TellsListed : List ℕ → List Check → Type 0
TellsListed ns cs = every (is_listed_among ns) cs ≡ true
