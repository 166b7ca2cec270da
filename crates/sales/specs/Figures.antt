-- A day of one till, as document 01 tells it: what the engine answers to each call, from the empty book and a bundle that is written out.
-- Assumes nothing.
use Rattle.std.specs.Prelude.{ℕ, ◌≡◌, List, [], ◌∷◌, ◌++◌, Ok}
use Rattle.common.specs.Lists.{first_of}
use Rattle.layout.specs.Bytes.{byte_N}
use Rattle.bundle.specs.Samples.{grant, conditions}
use Rattle.fares.specs.Samples.{leg, ticket}
use Rattle.fares.specs.declared.Question.{Question}
use Rattle.book.specs.declared.status.Status.TheVariants as status
use Rattle.sales.specs.Sales.{receipt, sale_answer, cancel_answer}
use Rattle.sales.specs.Balances.{balance_answer, total_answer}
use Rattle.sales.specs.History.{Number, Op, sale, cancel, empty_book, after}
use Rattle.sales.specs.declared.Outcome.{Outcome}
use Rattle.sales.specs.declared.Outcome.TheVariants.{Booked, AlreadyBooked, Cancelled}

-- "sale till 1, sequence 1, parts 2274 for 1185 and 1500 for 1181"
abbrev pub number : Number
number = record { till = 1; sequence = 1 }

abbrev pub bundle : List ℕ
bundle = conditions 1185 byte_N (grant 25000 byte_N 0) ++ conditions 0 byte_N (grant 0 byte_N 0)

abbrev pub asked : Question
asked = ticket 3 [] 2 (leg 1185 1010 ∷ leg 1181 500 ∷ [])

abbrev pub parts : List ℕ
parts = first_of 0 8 (2274 ∷ 1500 ∷ [])

abbrev pub sold : Op
sold = sale number bundle asked

-- what is then owed 1185, 1181 and all
pub record Owes (ops : List Op) (first second all : ℕ) : Type 0 where
  pub to_first : balance_answer (after empty_book ops) 1185 ≡ Ok first
  pub to_second : balance_answer (after empty_book ops) 1181 ≡ Ok second
  pub to_all : total_answer (after empty_book ops) ≡ Ok all

-- what the sale, and its cancellation, is answered after some operations
abbrev pub Sells : List Op → Outcome → Type 0
Sells ops outcome = sale_answer (after empty_book ops) 1 1 bundle asked ≡ Ok (receipt outcome parts)

abbrev pub Cancels : List Op → Outcome → Type 0
Cancels ops outcome = cancel_answer (after empty_book ops) 1 1 ≡ Ok (receipt outcome parts)

-- "total 3774. Sent again: 3774. Cancelled: both balances 0. Sent again: already booked, cancelled, total 0."
pub record Day : Type 0 where
  pub sale_first : Sells [] Booked
  pub owes_first : Owes (sold ∷ []) 2274 1500 3774
  pub sent_again : Sells (sold ∷ []) (AlreadyBooked status.Live)
  pub owes_again : Owes (sold ∷ sold ∷ []) 2274 1500 3774
  pub is_cancelled_lem : Cancels (sold ∷ sold ∷ []) Cancelled
  pub owes_nothing : Owes (sold ∷ sold ∷ cancel number ∷ []) 0 0 0
  pub sent_late : Sells (sold ∷ sold ∷ cancel number ∷ []) (AlreadyBooked status.Cancelled)
  pub owes_still_nothing : Owes (sold ∷ sold ∷ cancel number ∷ sold ∷ []) 0 0 0
