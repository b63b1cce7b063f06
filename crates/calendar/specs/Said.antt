-- What an answer says: a value, or a refusal by the paper's number and its place (01, "Numbers we answer with").
-- Assumes nothing.
use Rattle.std.specs.Prelude.{ℕ, Result, Ok, Err}
use Rattle.calendar.specs.declared.Refusal.{Refusal}

pub data Said (A : Type 0) : Type 0 where
  answer : A → Said A
  refusal : ℕ → ℕ → Said A

-- what a refusing case says
abbrev pub refused : {A : Type 0} → Refusal → Said A
refused r = refusal r.number r.place

abbrev pub refusing : ℕ → ℕ → Refusal
refusing n p = record { number = n; place = p }

-- what an answer of the code says
abbrev pub said : {A : Type 0} → Result A Refusal → Said A
said (Ok x) = answer x
said (Err r) = refused r
