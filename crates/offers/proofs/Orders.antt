-- Each answer follows its order of checks, and tells only the numbers of its call.
-- Assumes nothing.
use Prim.Native.Nat.{ℕ}
use mathlib.Core.Path.{◌≡◌, refl, sym, ◌∙◌, ap, subst}
use mathlib.Core.Bool.{Bool, true, false, cond, not}
use mathlib.Core.List.{List, [], ◌∷◌, ◌++◌}
use native.Mathlib.Omega.{arith}
use lib.Dec.{eqb, leb}
use lib.ListN.{length, get_or, replicate}
use borrow.Author.Tests.{ltb-true, not-false}
use Rattle.std.specs.Prelude.{Result, Ok, Err}
use Rattle.common.specs.Reasons.{number_of_reason}
use Rattle.common.specs.declared.reasons.Reason.{Reason}
use Rattle.common.specs.declared.reasons.Reason.TheVariants.{BookUnsound, BookFull}
use Rattle.common.specs.Lists.{every, any, sum}
use Rattle.common.specs.Checks.{refuse, Finding, clean, fault, Check, check, unless, first_fault, each_from, AllPass, IsRefused, is_listed_among, TellsListed}
use Rattle.common.specs.declared.Refusal.{Refusal}
use Rattle.common.proofs.Tests.{never}
use Rattle.common.proofs.Lists.{every_among, every_at}
use Rattle.common.proofs.Checks.{one_clean, clean_means, means_clean, fault_means, means_fault, append_pass, each_pass, first_listed}
use Rattle.bundle.specs.Records.{rest_of, records_of}
use Rattle.bundle.specs.Verdict.{field_checks, end_checks, first_pass, record_checks, second_pass, checks, verdict_of}
use Rattle.fares.specs.Question.{legs_of}
use Rattle.fares.specs.Legs.{leg_checks}
use Rattle.fares.specs.Fare.{parts_of, price_checks, fare_checks, quote, priced, fare_of}
use Rattle.fares.specs.declared.Question.{Question}
use Rattle.fares.specs.declared.Quote.{Quote}
use Rattle.book.specs.Words.{no_entry, capacity, entries}
use Rattle.book.specs.Status.{number_of_status, status_of}
use Rattle.book.specs.Sound.{entry_sound, sound_words}
use Rattle.book.proofs.SoundBook.{is_sound, status_again}
use Rattle.sales.specs.Sales.{receipt, cancel_receipt, place, is_present, present, sale_checks, sale_answer, cancel_checks, cancel_answer}
use Rattle.book.specs.Amounts.{of_railway, of_all, balance_of}
use Rattle.sales.specs.Balances.{balance_checks, total_checks, balance_answer, total_answer}
use Rattle.sales.specs.Reading.{booking_at, count_checks, entry_checks, count_answer, entry_answer, find_answer}
use Rattle.sales.specs.declared.Receipt.{Receipt}
use Rattle.sales.specs.declared.Outcome.{Outcome}
use Rattle.sales.specs.declared.Outcome.TheVariants.{Booked, AlreadyBooked, Cancelled, AlreadyCancelled}
use Rattle.sales.proofs.AnswersByCase.{booked_parts}
use Rattle.offers.specs.Answers.{Told, answers, refuses, tells_values, one_value, verdict_tells, quote_values, fare_tells, booked, already_booked, cancelled, already_cancelled, outcome_values, receipt_values, receipt_tells, sum_tells, tally_tells, booking_values, booking_width, booking_tells, Follows}
use Rattle.offers.specs.Numbers.{Among, verdict_numbers, fare_numbers, sale_numbers, cancel_numbers, balance_numbers, total_numbers, count_numbers, entry_numbers, find_numbers, all_numbers, CallTells, by_verdict, by_fare, by_sale, by_cancel, by_balance, by_total, by_count, by_entry, by_find}

-- WHAT IS TOLD by what the checks come to: a refusal with n zeros, or the values
module _ {A : Type 0} (n : ℕ) (values : A → List ℕ) (a : A) where
  told_clean : (f : Finding) (us : List ℕ) → tells_values n values (unless f a) ≡ answers us → (f ≡ clean) × (us ≡ values a)
  unfolding tells_values
  told_clean clean us e = (refl, cc)
  told_clean (fault why) us e = (cc, cc)

  told_fault : (f : Finding) (number place detail : ℕ) (us : List ℕ) → tells_values n values (unless f a) ≡ refuses number place detail us
      → ((k : Reason) × (number_of_reason k ≡ number) × (f ≡ fault (refuse k place detail))) × (us ≡ replicate n 0)
  unfolding tells_values
  told_fault clean number place detail us e = absurd (cc e)
  told_fault (fault why) number place detail us e =
      let p : why.place ≡ place = cc in
      let d : why.detail ≡ detail = cc in
      ((why.reason, cc, λ j. fault (refuse why.reason (p j) (d j))), cc)

  follows : (cs : List Check) → Follows (tells_values n values (unless (first_fault cs) a)) cs n (values a)
  unfolding tells_values
  follows cs =
      record {
        refused_by = λ number place detail us h.
            let r = told_fault (first_fault cs) number place detail us h in ((r.0.0, r.0.1, fault_means cs (refuse r.0.0 place detail) r.0.2), r.1);
        first_refuses = λ number place detail f.
            rw (means_fault cs (refuse f.0 place detail) f.2) (ap (λ k. refuses k place detail (replicate n 0)) f.1);
        answered_if = λ us h. let r = told_clean (first_fault cs) us h in (clean_means cs r.0, r.1);
        passing_answers = λ p. rw (means_clean cs p);
      }

-- the values need only be the same where every check passes
told_as : {t : Told} {cs : List Check} {n : ℕ} {us vs : List ℕ} → Follows t cs n us → (AllPass cs → us ≡ vs) → Follows t cs n vs
told_as f same =
    record {
      refused_by = f.refused_by;
      first_refuses = f.first_refuses;
      answered_if = λ ws h. let r = f.answered_if ws h in (r.0, r.1 ∙ same r.0);
      passing_answers = λ p. f.passing_answers p ∙ ap answers (same p);
    }

module _ (s : List ℕ) where
  pub verdict_follows : Follows (verdict_tells (verdict_of s)) (checks s) 1 (length (records_of s) ∷ [])
  unfolding verdict_of
  verdict_follows = follows 1 one_value (length (records_of s)) (checks s)

  pub fare_follows : (q : Question) → let parts = parts_of (records_of s) q in Follows (fare_tells (fare_of s q)) (fare_checks s q) 9 (sum parts ∷ parts)
  unfolding fare_of
  fare_follows q = follows 9 quote_values (priced (parts_of (records_of s) q)) (fare_checks s q)

module _ (w : List ℕ) where
  pub balance_follows : (railway : ℕ) → Follows (sum_tells (balance_answer w railway)) (balance_checks w railway) 1 (balance_of (of_railway railway) (entries w) ∷ [])
  unfolding balance_answer
  balance_follows railway = follows 1 one_value (balance_of (of_railway railway) (entries w)) (balance_checks w railway)

  pub total_follows : Follows (sum_tells (total_answer w)) (total_checks w) 1 (balance_of of_all (entries w) ∷ [])
  unfolding total_answer
  total_follows = follows 1 one_value (balance_of of_all (entries w)) (total_checks w)

  pub count_follows : Follows (tally_tells (count_answer w)) (count_checks w) 1 (length (entries w) ∷ [])
  unfolding count_answer
  count_follows = follows 1 one_value (length (entries w)) (count_checks w)

  pub entry_follows : (i : ℕ) → Follows (booking_tells (entry_answer w i)) (entry_checks w i) booking_width (booking_values (booking_at i (get_or (entries w) i no_entry)))
  unfolding entry_answer
  entry_follows i = follows booking_width booking_values (booking_at i (get_or (entries w) i no_entry)) (entry_checks w i)

  pub find_follows : (t s : ℕ) → Follows (booking_tells (find_answer w t s)) (cancel_checks w t s) booking_width (booking_values (booking_at (place w t s) (present w t s)))
  unfolding find_answer
  find_follows t s = follows booking_width booking_values (booking_at (place w t s) (present w t s)) (cancel_checks w t s)

  module _ (t s : ℕ) where
    -- where no check fails the book is sound, and a sale in it has its entry's word for a status
    values_sold : (b : Bool) (again first : List ℕ) → let word = (present w t s).status in
        (b ≡ true → number_of_status (status_of word) ≡ word)
        → receipt_values (cond b (receipt (AlreadyBooked (status_of word)) again) (receipt Booked first)) ≡ cond b (already_booked ∷ word ∷ again) (booked ∷ 0 ∷ first)
    unfolding outcome_values
    values_sold true again first e = ap (λ k. already_booked ∷ k ∷ again) (e refl)
    values_sold false again first e = refl

    its_word : (b : List ℕ) (q : Question) → AllPass (sale_checks w t s b q) → is_present w t s ≡ true
        → let word = (present w t s).status in number_of_status (status_of word) ≡ word
    unfolding sale_checks
    its_word b q p l =
        let x = (one_clean (not (sound_words w)) BookUnsound 0 0 _ (means_clean _ p)).0 in
        let good = (is_sound w (not-false (sound_words w) x)).good in
        status_again (present w t s) (every_at entry_sound (entries w) good (place w t s) no_entry (ltb-true _ _ l))

    pub sale_follows : (b : List ℕ) (q : Question) → Follows (receipt_tells (sale_answer w t s b q)) (sale_checks w t s b q) 10
        (cond (is_present w t s) (already_booked ∷ (present w t s).status ∷ (present w t s).parts) (booked ∷ 0 ∷ parts_of (records_of b) q))
    unfolding sale_answer
    sale_follows b q =
        let parts = parts_of (records_of b) q in
        let r = cond (is_present w t s) (receipt (AlreadyBooked (status_of (present w t s).status)) (present w t s).parts) (receipt Booked parts) in
        told_as (follows 10 receipt_values r (sale_checks w t s b q))
        (λ p. values_sold (is_present w t s) (present w t s).parts parts (its_word b q p))

    values_cancelled : (b : Bool) (parts : List ℕ)
        → receipt_values (receipt (cond b Cancelled AlreadyCancelled) parts) ≡ cond b cancelled already_cancelled ∷ 1 ∷ parts
    unfolding outcome_values
    values_cancelled true parts = refl
    values_cancelled false parts = refl

    pub cancel_follows : Follows (receipt_tells (cancel_answer w t s)) (cancel_checks w t s) 10
        (cond (eqb (present w t s).status 0) cancelled already_cancelled ∷ 1 ∷ (present w t s).parts)
    unfolding cancel_answer
    cancel_follows =
        subst (Follows (receipt_tells (unless (first_fault (cancel_checks w t s)) (cancel_receipt (present w t s)))) (cancel_checks w t s) 10)
        (values_cancelled (eqb (present w t s).status 0) (present w t s).parts)
        (follows 10 receipt_values (cancel_receipt (present w t s)) (cancel_checks w t s))

-- The numbers of each call, each by a reason of the table.
module _ (s : List ℕ) where
  verdict_among : (ns : List ℕ) → TellsListed (verdict_numbers ++ ns) (checks s)
  unfolding checks first_pass second_pass every any
  verdict_among ns =
      let all = verdict_numbers ++ ns in
      append_pass (is_listed_among all) (first_pass s) (second_pass (records_of s))
      (append_pass (is_listed_among all) (each_from 0 field_checks (records_of s)) (end_checks (length (records_of s)) (rest_of s)) (each_pass (is_listed_among all) field_checks (λ i r. refl) 0 (records_of s)) refl)
      (each_pass (is_listed_among all) (record_checks (records_of s)) (λ i r. refl) 0 (records_of s))

  pub verdict_numbers_lem : TellsListed verdict_numbers (checks s)
  verdict_numbers_lem = verdict_among []

  fare_among : (q : Question) (ns : List ℕ) → TellsListed (fare_numbers ++ ns) (fare_checks s q)
  unfolding fare_checks price_checks every any
  fare_among q ns =
      let all = fare_numbers ++ ns in
      append_pass (is_listed_among all) (checks s) (price_checks (records_of s) q) (verdict_among (11 ∷ 17 ∷ 12 ∷ 13 ∷ 14 ∷ 15 ∷ ns))
      (each_pass (is_listed_among all) (leg_checks (records_of s) q) (λ i leg. refl) 0 (legs_of q))

  pub fare_numbers_lem : (q : Question) → TellsListed fare_numbers (fare_checks s q)
  fare_numbers_lem q = fare_among q []

  pub sale_numbers_lem : (w : List ℕ) (t n : ℕ) (q : Question) → TellsListed sale_numbers (sale_checks w t n s q)
  unfolding sale_checks every any
  sale_numbers_lem w t n q = new_or_not (is_present w t n)
    where
      new_or_not : (b : Bool) → TellsListed sale_numbers (cond b [] (check (leb capacity (length (entries w))) BookFull 0 0 ∷ fare_checks s q))
      new_or_not true = refl
      new_or_not false = fare_among q (21 ∷ 22 ∷ 23 ∷ 24 ∷ [])

pub cancel_numbers_lem : (w : List ℕ) (t s : ℕ) → TellsListed cancel_numbers (cancel_checks w t s)
unfolding cancel_checks every any
cancel_numbers_lem w t s = refl

pub balance_numbers_lem : (w : List ℕ) (railway : ℕ) → TellsListed balance_numbers (balance_checks w railway)
unfolding every any
balance_numbers_lem w railway = refl

pub total_numbers_lem : (w : List ℕ) → TellsListed total_numbers (total_checks w)
unfolding every any
total_numbers_lem w = refl

pub count_numbers_lem : (w : List ℕ) → TellsListed count_numbers (count_checks w)
unfolding every any
count_numbers_lem w = refl

pub entry_numbers_lem : (w : List ℕ) (i : ℕ) → TellsListed entry_numbers (entry_checks w i)
unfolding every any
entry_numbers_lem w i = refl

-- a refusal tells one of its call's numbers
refused_among : {t : Told} {cs : List Check} {n : ℕ} {vs : List ℕ} (ns : List ℕ) → Follows t cs n vs → TellsListed ns cs
    → (number place detail : ℕ) (us : List ℕ) → t ≡ refuses number place detail us → Among ns number
refused_among {cs = cs} ns f e number place detail us h =
    let r = (f.refused_by number place detail us h).0 in subst (Among ns) r.1 (first_listed ns cs e (refuse r.0 place detail) r.2).1

-- What is told tells the answer.
module _ {A : Type 0} (n : ℕ) (values : A → List ℕ) where
  pub told_ok : (r : Result A Refusal) {vs : List ℕ} → tells_values n values r ≡ answers vs → (a : A) × (r ≡ Ok a) × (values a ≡ vs)
  unfolding tells_values
  told_ok (Ok a) e = (a, refl, cc)
  told_ok (Err why) e = cc

  -- a refusal that is told is the answer's, by its number: so what holds of that holds of the number, place and detail that are told
  pub told_err : (Holds : ℕ → ℕ → ℕ → Type 0) (r : Result A Refusal) {number place detail : ℕ} {us : List ℕ}
      → ((why : Refusal) → r ≡ Err why → Holds (number_of_reason why.reason) why.place why.detail)
      → tells_values n values r ≡ refuses number place detail us → Holds number place detail
  unfolding tells_values
  told_err Holds (Ok a) holds e = absurd (cc e)
  told_err Holds (Err why) {number} {place} {detail} holds e =
      let k : number_of_reason why.reason ≡ number = cc in
      let p : why.place ≡ place = cc in
      let d : why.detail ≡ detail = cc in
      subst (λ x. Holds x place detail) k (subst (λ x. Holds (number_of_reason why.reason) x detail) p
      (subst (λ x. Holds (number_of_reason why.reason) why.place x) d (holds why refl)))

  pub told_refused : (r : Result A Refusal) {number place detail : ℕ} → IsRefused r number place detail
      → tells_values n values r ≡ refuses number place detail (replicate n 0)
  unfolding tells_values
  told_refused r {number} {place} {detail} h = rw h.3 (ap (λ k. refuses k place detail (replicate n 0)) h.1)

pub told_accepted : (j : Result ℕ Refusal) (n : ℕ) → verdict_tells j ≡ answers (n ∷ []) → j ≡ Ok n
told_accepted j n e =
    let t = told_ok 1 one_value j e in
    let x : t.0 ≡ n = let h = t.2 in cc in
    t.1 ∙ ap Ok x

pub told_priced : (r : Result Quote Refusal) (fare : ℕ) (parts : List ℕ) → fare_tells r ≡ answers (fare ∷ parts) → r ≡ Ok (quote fare parts)
told_priced r fare parts e =
    let t = told_ok 9 quote_values r e in
    let x : t.0.fare ≡ fare = let h = t.2 in cc in
    let y : t.0.parts ≡ parts = let h = t.2 in cc in
    t.1 ∙ (λ j. Ok (quote (x j) (y j)))

outcome_booked : (o : Outcome) (ps parts : List ℕ) → outcome_values o ps ≡ booked ∷ 0 ∷ parts → (o ≡ Booked) × (ps ≡ parts)
unfolding outcome_values
outcome_booked Booked ps parts e = (refl, cc)
outcome_booked (AlreadyBooked status) ps parts e = let z : already_booked ≡ booked = cc in absurd (omega (arith, z))
outcome_booked Cancelled ps parts e = let z : cancelled ≡ booked = cc in absurd (omega (arith, z))
outcome_booked AlreadyCancelled ps parts e = let z : already_cancelled ≡ booked = cc in absurd (omega (arith, z))

pub told_booked : (r : Result Receipt Refusal) (parts : List ℕ) → receipt_tells r ≡ answers (booked ∷ 0 ∷ parts)
    → (x : Receipt) × (r ≡ Ok x) × (x.outcome ≡ Booked) × (x.parts ≡ parts)
told_booked r parts e =
    let t = told_ok 10 receipt_values r e in
    let b = outcome_booked t.0.outcome t.0.parts parts t.2 in
    (t.0, t.1, b.0, b.1)

pub first_parts : (w : List ℕ) (t s : ℕ) (b : List ℕ) (q : Question) (parts : List ℕ) → receipt_tells (sale_answer w t s b q) ≡ answers (booked ∷ 0 ∷ parts)
    → parts_of (records_of b) q ≡ parts
first_parts w t s b q parts e = let r = told_booked (sale_answer w t s b q) parts e in sym (booked_parts w t s b q r.1 r.2) ∙ r.3

pub booked_told : {r : Result Receipt Refusal} {x : Receipt} → r ≡ Ok x → x.outcome ≡ Booked → receipt_tells r ≡ answers (booked ∷ 0 ∷ x.parts)
unfolding tells_values outcome_values
booked_told {x = x} a e = rw (a, e)

pub cancelled_told : {r : Result Receipt Refusal} {x : Receipt} → r ≡ Ok x → x.outcome ≡ Cancelled → receipt_tells r ≡ answers (cancelled ∷ 1 ∷ x.parts)
unfolding tells_values outcome_values
cancelled_told {x = x} a e = rw (a, e)

-- NO CALL TELLS A NUMBER that is not in its table.
pub the_numbers_of_a_verdict : (bundle : List ℕ) (number place detail : ℕ) (us : List ℕ) → verdict_tells (verdict_of bundle) ≡ refuses number place detail us → Among verdict_numbers number
the_numbers_of_a_verdict bundle = refused_among verdict_numbers (verdict_follows bundle) (verdict_numbers_lem bundle)

pub the_numbers_of_a_fare : (bundle : List ℕ) (q : Question) (number place detail : ℕ) (us : List ℕ) → fare_tells (fare_of bundle q) ≡ refuses number place detail us → Among fare_numbers number
the_numbers_of_a_fare bundle q = refused_among fare_numbers (fare_follows bundle q) (fare_numbers_lem bundle q)

pub the_numbers_of_a_sale : (book : List ℕ) (till sequence : ℕ) (bundle : List ℕ) (q : Question) (number place detail : ℕ) (us : List ℕ)
    → receipt_tells (sale_answer book till sequence bundle q) ≡ refuses number place detail us → Among sale_numbers number
the_numbers_of_a_sale book till sequence bundle q = refused_among sale_numbers (sale_follows book till sequence bundle q) (sale_numbers_lem bundle book till sequence q)

pub the_numbers_of_a_cancellation : (book : List ℕ) (till sequence : ℕ) (number place detail : ℕ) (us : List ℕ) → receipt_tells (cancel_answer book till sequence) ≡ refuses number place detail us → Among cancel_numbers number
the_numbers_of_a_cancellation book till sequence = refused_among cancel_numbers (cancel_follows book till sequence) (cancel_numbers_lem book till sequence)

pub the_numbers_of_a_balance : (book : List ℕ) (railway : ℕ) (number place detail : ℕ) (us : List ℕ) → sum_tells (balance_answer book railway) ≡ refuses number place detail us → Among balance_numbers number
the_numbers_of_a_balance book railway = refused_among balance_numbers (balance_follows book railway) (balance_numbers_lem book railway)

pub the_numbers_of_a_total : (book : List ℕ) (number place detail : ℕ) (us : List ℕ) → sum_tells (total_answer book) ≡ refuses number place detail us → Among total_numbers number
the_numbers_of_a_total book = refused_among total_numbers (total_follows book) (total_numbers_lem book)

pub the_numbers_of_a_count : (book : List ℕ) (number place detail : ℕ) (us : List ℕ) → tally_tells (count_answer book) ≡ refuses number place detail us → Among count_numbers number
the_numbers_of_a_count book = refused_among count_numbers (count_follows book) (count_numbers_lem book)

pub the_numbers_of_an_entry : (book : List ℕ) (i : ℕ) (number place detail : ℕ) (us : List ℕ) → booking_tells (entry_answer book i) ≡ refuses number place detail us → Among entry_numbers number
the_numbers_of_an_entry book i = refused_among entry_numbers (entry_follows book i) (entry_numbers_lem book i)

pub the_numbers_of_a_find : (book : List ℕ) (till sequence : ℕ) (number place detail : ℕ) (us : List ℕ) → booking_tells (find_answer book till sequence) ≡ refuses number place detail us → Among find_numbers number
the_numbers_of_a_find book till sequence = refused_among find_numbers (find_follows book till sequence) (cancel_numbers_lem book till sequence)

-- So each number that any call tells stands in the table of all; 16, a fare above 4,294,967,295 cents, does not, and no call tells it.
within : (ns : List ℕ) (n : ℕ) → every (λ k. any (eqb k) all_numbers) ns ≡ true → Among ns n → Among all_numbers n
within = every_among (λ k. any (eqb k) all_numbers)

pub the_numbers_of_any_call : (t : Told) → CallTells t → (number place detail : ℕ) (us : List ℕ) → t ≡ refuses number place detail us → Among all_numbers number
unfolding every any
the_numbers_of_any_call t (by_verdict bundle) number place detail us e = within verdict_numbers number refl (the_numbers_of_a_verdict bundle number place detail us e)
the_numbers_of_any_call t (by_fare bundle q) number place detail us e = within fare_numbers number refl (the_numbers_of_a_fare bundle q number place detail us e)
the_numbers_of_any_call t (by_sale book till sequence bundle q) number place detail us e = within sale_numbers number refl (the_numbers_of_a_sale book till sequence bundle q number place detail us e)
the_numbers_of_any_call t (by_cancel book till sequence) number place detail us e = within cancel_numbers number refl (the_numbers_of_a_cancellation book till sequence number place detail us e)
the_numbers_of_any_call t (by_balance book railway) number place detail us e = within balance_numbers number refl (the_numbers_of_a_balance book railway number place detail us e)
the_numbers_of_any_call t (by_total book) number place detail us e = within total_numbers number refl (the_numbers_of_a_total book number place detail us e)
the_numbers_of_any_call t (by_count book) number place detail us e = within count_numbers number refl (the_numbers_of_a_count book number place detail us e)
the_numbers_of_any_call t (by_entry book i) number place detail us e = within entry_numbers number refl (the_numbers_of_an_entry book i number place detail us e)
the_numbers_of_any_call t (by_find book till sequence) number place detail us e = within find_numbers number refl (the_numbers_of_a_find book till sequence number place detail us e)

pub no_call_tells_sixteen : (t : Told) → CallTells t → (number place detail : ℕ) (us : List ℕ) → t ≡ refuses number place detail us → number ≡ 16 → ⊥
unfolding any
no_call_tells_sixteen t c number place detail us e sixteen = never (rw sixteen at (the_numbers_of_any_call t c number place detail us e)) refl
