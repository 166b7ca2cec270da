-- Laws of an order of checks, and what its first fault means.
-- Assumes nothing.
use Rattle.std.proofs.Common.{◌≡◌, ℕ, zero, suc, ◌+◌, ◌<◌, ◌≤◌, Bool, true, false, cond, eqb, ◌⊎◌, List, [], ◌∷◌, ◌++◌, length, get_or, drop, sym, refl, ap, ◌∙◌, inl, inr, ⊎_elim, suc-le-suc, le_of_suc-le-suc, add-zero, add-one, arith, drop_of_length-le, drop-cons}
use Rattle.std.specs.Prelude.{Result, Ok, Err}
use Rattle.common.specs.Lists.{every, any}
use Rattle.common.specs.Checks.{Finding, clean, fault, refuse, Check, check, unless, first_fault, each_from, AllPass, First, IsListed, is_among, TellsOf, is_listed_among, TellsListed}
use Rattle.common.specs.Reasons.{number_of_reason, is_listed}
use Rattle.common.specs.declared.reasons.Reason.{Reason}
use Rattle.common.specs.declared.Refusal.{Refusal}
use Rattle.common.proofs.Lists.{every_append}
use Rattle.common.proofs.Tests.{both_true, either_false}

-- AN ANSWER TELLS WHAT WAS FOUND: nothing, and it is the value worked out; or a refusal, and it is that.
pub by_finding : {A : Type 0} (f : Finding) (a : A) {x : Result A Refusal} → unless f a ≡ x
    → ((f ≡ clean) × (Ok a ≡ x)) ⊎ ((r : Refusal) × (f ≡ fault r) × (Err r ≡ x))
by_finding clean a e = inl (refl, e)
by_finding (fault r) a e = inr (r, refl, e)

-- the other way: a refusal that was made is the answer, if it is what was found
pub as_found : {A : Type 0} {f : Finding} {r x : Refusal} (a : A) → f ≡ fault r → x ≡ r → Err x ≡ unless f a
as_found a e q = ap Err q ∙ sym (rw e)

-- what was found first, or else what is found then
abbrev pub or_else : Finding → Finding → Finding
or_else clean rest = rest
or_else (fault r) rest = fault r

pub found_either : (f rest : Finding) {x : Finding} → or_else f rest ≡ x → ((f ≡ clean) × (rest ≡ x)) ⊎ ((r : Refusal) × (f ≡ fault r) × (fault r ≡ x))
found_either clean rest e = inl (refl, e)
found_either (fault r) rest e = inr (r, refl, e)

-- one list of checks after another
pub fault_append : (a b : List Check) → first_fault (a ++ b) ≡ or_else (first_fault a) (first_fault b)
unfolding first_fault
fault_append [] b = refl
fault_append (c ∷ a) b = go c.fails (fault_append a b)
  where
    go : (t : Bool) {r : Finding} → r ≡ or_else (first_fault a) (first_fault b)
        → cond t (fault c.tells) r ≡ or_else (cond t (fault c.tells) (first_fault a)) (first_fault b)
    go true h = refl
    go false h = h

pub after_clean : (a b : List Check) → first_fault a ≡ clean → first_fault (a ++ b) ≡ first_fault b
after_clean a b e = fault_append a b ∙ rw e

module _ {A : Type 0} (f : ℕ → A → List Check) where
  -- the checks of the element that is counted i, then those of the rest
  pub each_step : (xs : List A) (i : ℕ) (d : A) → i < length xs
      → first_fault (each_from i f (drop i xs)) ≡ or_else (first_fault (f i (get_or xs i d))) (first_fault (each_from (i + 1) f (drop (i + 1) xs)))
  unfolding each_from
  each_step xs i d h =
      let e : drop i xs ≡ get_or xs i d ∷ drop (i + 1) xs = rw (add-one, drop-cons xs i d h) in
      rw e (fault_append (f i (get_or xs i d)) (each_from (i + 1) f (drop (i + 1) xs)))

  pub each_end : (xs : List A) (i : ℕ) → length xs ≤ i → first_fault (each_from i f (drop i xs)) ≡ clean
  unfolding each_from first_fault
  each_end xs i h = rw (drop_of_length-le xs h)

-- WHAT IT MEANS: nothing is found exactly if every check passes,
clean_cond : (t : Bool) (r : Refusal) (f : Finding) → cond t (fault r) f ≡ clean → (t ≡ false) × (f ≡ clean)
clean_cond true r f e = (cc, cc)
clean_cond false r f e = (refl, e)

pub clean_means : (cs : List Check) → first_fault cs ≡ clean → AllPass cs
unfolding first_fault any
clean_means [] e = refl
clean_means (c ∷ cs) e =
    let d = clean_cond c.fails c.tells (first_fault cs) e in
    rw d.0 (clean_means cs d.1)

pub means_clean : (cs : List Check) → AllPass cs → first_fault cs ≡ clean
unfolding first_fault any
means_clean [] e = refl
means_clean (c ∷ cs) e =
    let d = either_false c.fails (any (λ x. x.fails) cs) e in
    rw d.0 (means_clean cs d.1)

-- and a fault exactly if it is the first of the list.
pub fault_means : (cs : List Check) (r : Refusal) → first_fault cs ≡ fault r → First cs r
unfolding first_fault any
fault_means [] r e = let z : ◌≡◌ {A = ℕ} 0 1 = cc in absurd (omega arith)
fault_means (c ∷ cs) r e = go c.fails refl e (fault_means cs r)
  where
    go : (t : Bool) → c.fails ≡ t → cond t (fault c.tells) (first_fault cs) ≡ fault r → (first_fault cs ≡ fault r → First cs r) → First (c ∷ cs) r
    go true q h later =
        let same : c.tells ≡ r = cc in
        record {
          before = [];
          after = cs;
          split = ap (λ (x : Check). x ∷ cs) (λ i. record { fails = q i; tells = same i });
          earlier_pass = refl;
        }
    go false q h later =
        let f = later h in
        record {
          before = c ∷ f.before;
          after = f.after;
          split = ap (λ (xs : List Check). c ∷ xs) f.split;
          earlier_pass = rw q f.earlier_pass;
        }

pub means_fault : (cs : List Check) (r : Refusal) → First cs r → first_fault cs ≡ fault r
unfolding first_fault
means_fault cs r f =
    rw f.split (fault_append f.before (record { fails = true; tells = r } ∷ f.after) ∙ rw (means_clean f.before f.earlier_pass))

-- IN PARTS: a list of checks finds nothing exactly if its parts do, and a check if it passes.
pub one_clean : (b : Bool) (k : Reason) (p d : ℕ) (cs : List Check) → first_fault (check b k p d ∷ cs) ≡ clean → (b ≡ false) × (first_fault cs ≡ clean)
unfolding first_fault
one_clean b k p d cs e = clean_cond b _ (first_fault cs) e

pub clean_one : (b : Bool) (k : Reason) (p d : ℕ) (cs : List Check) → b ≡ false → first_fault cs ≡ clean → first_fault (check b k p d ∷ cs) ≡ clean
unfolding first_fault
clean_one b k p d cs e f = rw e f

pub append_clean : (a b : List Check) → first_fault (a ++ b) ≡ clean → (first_fault a ≡ clean) × (first_fault b ≡ clean)
append_clean a b e = ⊎_elim (λ h. h) (λ h. (cc, cc)) (found_either (first_fault a) (first_fault b) (sym (fault_append a b) ∙ e))

pub clean_append : (a b : List Check) → first_fault a ≡ clean → first_fault b ≡ clean → first_fault (a ++ b) ≡ clean
clean_append a b e f = fault_append a b ∙ rw e f

-- A fault is that of the first part that has one.
fault_cond : (t : Bool) {x r : Refusal} {f : Finding} → cond t (fault x) f ≡ fault r → ((t ≡ true) × (x ≡ r)) ⊎ ((t ≡ false) × (f ≡ fault r))
fault_cond true e = inl (refl, cc)
fault_cond false e = inr (refl, e)

pub one_fault : (b : Bool) (k : Reason) (p d : ℕ) (cs : List Check) {r : Refusal} → first_fault (check b k p d ∷ cs) ≡ fault r
    → ((b ≡ true) × (refuse k p d ≡ r)) ⊎ ((b ≡ false) × (first_fault cs ≡ fault r))
unfolding first_fault
one_fault b k p d cs e = fault_cond b e

pub append_fault : (a b : List Check) {r : Refusal} → first_fault (a ++ b) ≡ fault r → (first_fault a ≡ fault r) ⊎ ((first_fault a ≡ clean) × (first_fault b ≡ fault r))
append_fault a b e = ⊎_elim (λ h. inr h) (λ h. inl (h.1 ∙ h.2)) (found_either (first_fault a) (first_fault b) (sym (fault_append a b) ∙ e))

pub no_fault : {A : Type 0} {f : Finding} {r : Refusal} → f ≡ clean → f ≡ fault r → A
no_fault e h = let z : ◌≡◌ {A = ℕ} 0 1 = cc in absurd (omega arith)

pub last_fault : (b : Bool) (k : Reason) (p d : ℕ) {r : Refusal} → first_fault (check b k p d ∷ []) ≡ fault r → (b ≡ true) × (refuse k p d ≡ r)
unfolding first_fault
last_fault b k p d e = ⊎_elim (λ h. h) (λ h. no_fault refl h.1) (fault_cond b e)

module _ {A : Type 0} (f : ℕ → A → List Check) (d : A) where
  pub each_clean : (i : ℕ) (xs : List A) → first_fault (each_from i f xs) ≡ clean → (j : ℕ) → j < length xs → first_fault (f (i + j) (get_or xs j d)) ≡ clean
  unfolding each_from
  each_clean i [] e j l = absurd (omega arith)
  each_clean i (x ∷ xs) e zero l = rw add-zero (append_clean (f i x) (each_from (i + 1) f xs) e).0
  each_clean i (x ∷ xs) e (suc j) l =
      let q : i + 1 + j ≡ i + suc j = omega arith in
      rw (← q) (each_clean (i + 1) xs (append_clean (f i x) (each_from (i + 1) f xs) e).1 j (le_of_suc-le-suc l))

  pub clean_each : (i : ℕ) (xs : List A) → ((j : ℕ) → j < length xs → first_fault (f (i + j) (get_or xs j d)) ≡ clean) → first_fault (each_from i f xs) ≡ clean
  unfolding each_from first_fault
  clean_each i [] g = refl
  clean_each i (x ∷ xs) g =
      clean_append (f i x) (each_from (i + 1) f xs) (rw add-zero at (g 0 (omega arith)))
      (clean_each (i + 1) xs (λ j l. let q : i + 1 + j ≡ i + suc j = omega arith in rw q (g (suc j) (suc-le-suc l))))

  -- AND A FAULT exactly if one element has it, and none before that has any.
  pub record FirstAt (i : ℕ) (xs : List A) (r : Refusal) : Type 0 where
    pub at : ℕ
    pub inside : at < length xs
    pub fails : first_fault (f (i + at) (get_or xs at d)) ≡ fault r
    pub earlier_clean : (m : ℕ) → m < at → first_fault (f (i + m) (get_or xs m d)) ≡ clean

  first_later : {i : ℕ} (x : A) {xs : List A} {r : Refusal} → first_fault (f i x) ≡ clean → FirstAt (i + 1) xs r → FirstAt i (x ∷ xs) r
  first_later {i} x {xs} {r} c h =
      let q : (m : ℕ) → i + 1 + m ≡ i + suc m = λ m. omega arith in
      record {
        at = suc h.at;
        inside = suc-le-suc h.inside;
        fails = rw (← q h.at) h.fails;
        earlier_clean = earlier;
      }
    where
      earlier : (m : ℕ) → m < suc h.at → first_fault (f (i + m) (get_or (x ∷ xs) m d)) ≡ clean
      earlier zero l = rw add-zero c
      earlier (suc m) l = let q : i + 1 + m ≡ i + suc m = omega arith in rw (← q) (h.earlier_clean m (le_of_suc-le-suc l))

  pub each_fault : (i : ℕ) (xs : List A) (r : Refusal) → first_fault (each_from i f xs) ≡ fault r → FirstAt i xs r
  unfolding each_from first_fault
  each_fault i [] r e = let z : ◌≡◌ {A = ℕ} 0 1 = cc in absurd (omega arith)
  each_fault i (x ∷ xs) r e =
      ⊎_elim (λ h. first_later x h.0 (each_fault (i + 1) xs r h.1))
      (λ h. record { at = 0; inside = omega arith; fails = rw add-zero (h.1 ∙ h.2); earlier_clean = λ m l. absurd (omega arith) })
      (found_either (first_fault (f i x)) (first_fault (each_from (i + 1) f xs)) (sym (fault_append (f i x) (each_from (i + 1) f xs)) ∙ e))

  pub fault_each : (i : ℕ) (xs : List A) (r : Refusal) → FirstAt i xs r → first_fault (each_from i f xs) ≡ fault r
  unfolding each_from
  fault_each i xs r h = go i xs h.at h.inside h.fails h.earlier_clean
    where
      go : (i : ℕ) (xs : List A) (k : ℕ) → k < length xs → first_fault (f (i + k) (get_or xs k d)) ≡ fault r
          → ((m : ℕ) → m < k → first_fault (f (i + m) (get_or xs m d)) ≡ clean) → first_fault (each_from i f xs) ≡ fault r
      go i [] k l e c = absurd (omega arith)
      go i (x ∷ xs) zero l e c = fault_append (f i x) (each_from (i + 1) f xs) ∙ rw (rw add-zero at e)
      go i (x ∷ xs) (suc k) l e c =
          let q : (m : ℕ) → i + 1 + m ≡ i + suc m = λ m. omega arith in
          fault_append (f i x) (each_from (i + 1) f xs)
          ∙ rw (rw add-zero at (c 0 (omega arith))) (go (i + 1) xs k (le_of_suc-le-suc l) (rw (q k) e) (λ m h. rw (q m) (c (suc m) (suc-le-suc h))))

-- A TEST THAT EACH CHECK of two lists passes is passed by each of both together, and by the first that fails.
module _ (p : Check → Bool) where
  pub append_pass : (a b : List Check) → every p a ≡ true → every p b ≡ true → every p (a ++ b) ≡ true
  append_pass a b e f = every_append p a b ∙ rw (e, f)

  pub each_pass : {A : Type 0} (f : ℕ → A → List Check) → ((i : ℕ) (x : A) → every p (f i x) ≡ true) → (i : ℕ) (xs : List A) → every p (each_from i f xs) ≡ true
  unfolding each_from every
  each_pass f g i [] = refl
  each_pass f g i (x ∷ xs) = append_pass (f i x) (each_from (i + 1) f xs) (g i x) (each_pass f g (i + 1) xs)

  pub first_passes : (cs : List Check) → every p cs ≡ true → (r : Refusal) → First cs r → p (record { fails = true; tells = r }) ≡ true
  unfolding every
  first_passes cs e r f =
      let c : Check = record { fails = true; tells = r } in
      let m : every p (f.before ++ (c ∷ f.after)) ≡ true = rw (← f.split) e in
      let b = both_true (every p f.before) (every p (c ∷ f.after)) (sym (every_append p f.before (c ∷ f.after)) ∙ m) in
      (both_true (p c) (every p f.after) b.1).0

-- So the numbers that a list of checks can tell,
module _ (ns : List ℕ) where
  pub append_tells : (a b : List Check) → TellsOf ns a → TellsOf ns b → TellsOf ns (a ++ b)
  append_tells = append_pass (is_among ns)

  pub each_tells : {A : Type 0} (f : ℕ → A → List Check) → ((i : ℕ) (x : A) → TellsOf ns (f i x)) → (i : ℕ) (xs : List A) → TellsOf ns (each_from i f xs)
  each_tells = each_pass (is_among ns)

  pub first_among : (cs : List Check) → TellsOf ns cs → (r : Refusal) → First cs r → any (eqb (number_of_reason r.reason)) ns ≡ true
  first_among = first_passes (is_among ns)

  -- and by which reasons: of a list that tells by the table's alone, a refusal has one of them.
  pub first_listed : (cs : List Check) → TellsListed ns cs → (r : Refusal) → First cs r → (is_listed r.reason ≡ true) × (any (eqb (number_of_reason r.reason)) ns ≡ true)
  first_listed cs e r f = both_true (is_listed r.reason) (any (eqb (number_of_reason r.reason)) ns) (first_passes (is_listed_among ns) cs e r f)

  pub refused_listed : (cs : List Check) → TellsListed ns cs → {A : Type 0} (a : A) → IsListed (unless (first_fault cs) a)
  refused_listed cs e a why q =
      ⊎_elim (λ h. cc) (λ h. (first_listed cs e why (fault_means cs why (h.1 ∙ ap fault cc))).0) (by_finding (first_fault cs) a q)
