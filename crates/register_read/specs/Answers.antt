-- The answers of a register read: document 01, "Answer numbers". The code answers a Result; here are its numbers and values.
use Rattle.std.specs.Prelude.{ℕ, Result, Ok, Err}
use Rattle.register_read.specs.declared.NoRegister.{NoRegister}

-- register read: 0 and the value; 30 no such register, and value 0
pub record Reading : Type 0 where
  pub answer : ℕ
  pub value : ℕ

abbrev pub reading : Result ℕ NoRegister → Reading
reading (Ok v) = record { answer = 0; value = v }
reading (Err e) = record { answer = 30; value = 0 }
