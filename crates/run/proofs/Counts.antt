-- So many commands before a run.
-- Assumes nothing.
use mathlib.Core.Path.{◌≡◌, sym}
use Prim.Native.Nat.{ℕ, suc, ◌+◌}
use native.Mathlib.Omega.{arith}
use native.Mathlib.Nat.{zero-add, add-zero}
use Rattle.execution.specs.Straight.{Line}
use Rattle.execution.specs.Claim as Claim
use Rattle.execution.specs.Turns.{LineRun, one_more}
use Rattle.effect.specs.Effects.{Machine}
use Rattle.run.specs.Going.{plus}

pub plus_zero : (r : LineRun Machine) → r ≡ plus 0 r
plus_zero r = λ i. record { answer = r.answer; count = sym (zero-add r.count) i; line = r.line }

pub plus_end : (a : Claim.Answer) (k : ℕ) (l : Line Machine) → plus k (record { answer = a; count = 0; line = l }) ≡ record { answer = a; count = k; line = l }
plus_end a k l = λ i. record { answer = a; count = add-zero k i; line = l }

pub plus_one : (k n : ℕ) (r : LineRun Machine) → n ≡ suc k → plus k (one_more r) ≡ plus n r
plus_one k n r e = λ i. record { answer = r.answer; count = moved i; line = r.line }
  where
    moved : k + suc r.count ≡ n + r.count
    moved = omega arith

pub plus_plus : (j k n : ℕ) (r : LineRun Machine) → n ≡ j + k → plus j (plus k r) ≡ plus n r
plus_plus j k n r e = λ i. record { answer = r.answer; count = together i; line = r.line }
  where
    together : j + (k + r.count) ≡ n + r.count
    together = omega arith
