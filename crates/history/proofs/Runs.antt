-- What a run leaves of the words and of the machine: the words behind the first ones, and memories of the same lengths.
-- Assumes nothing.
use mathlib.Core.Path.{◌≡◌, refl, ◌∙◌}
use mathlib.Core.List.{List}
use Prim.Native.Nat.{ℕ, zero, suc, ◌+◌, ◌≤◌}
use native.Mathlib.Omega.{arith}
use lib.ListN.{length, drop, length-drop}
use lib.Seq.{drop-drop}
use Rattle.execution.specs.Straight.{Turn, ends, exec, Line, beyond, next}
use Rattle.execution.specs.Turns.{LineRun, runs}
use Rattle.execution.proofs.QueueLaws.{runs_ends, runs_exec}
use Rattle.execution.specs.Table.{Laws}

-- ---- the words

-- What a run of a line leaves: the words behind the first `gone`, none of them gone where no command was executed, and a machine with the property P.
pub record Leaves {S : Type 0} (P : S → Type 0) (a : Line S) (r : LineRun S) : Type 0 where
  pub gone : ℕ
  pub part : gone ≤ length a.words
  pub words : r.line.words ≡ drop gone a.words
  pub nothing : r.count ≡ 0 → gone ≡ 0
  pub kept : P r.line.machine

module _ {S : Type 0} {cap : ℕ} {turn : S → List ℕ → Turn S} (laws : Laws cap turn) (P : S → Type 0) where
  module _ (keeps : (s s' : S) (w : List ℕ) (n : ℕ) → turn s w ≡ exec n s' → P s → P s') where
    pub run_leaves : (b : ℕ) (a : Line S) → P a.machine → Leaves P a (runs turn b a)
    unfolding runs
    run_leaves zero a p = record { gone = 0; part = omega arith; words = refl; nothing = λ e. refl; kept = p }
    run_leaves (suc b) a p = go (next turn a) refl (λ n s. run_leaves b (beyond a n s))
      where
        go : (t : Turn S) → next turn a ≡ t → ((n : ℕ) (s : S) → P s → Leaves P (beyond a n s) (runs turn b (beyond a n s))) → Leaves P a (runs turn (suc b) a)
        go (ends e) q ih =
            rw (runs_ends turn b a e q) (record { gone = 0; part = omega arith; words = refl; nothing = λ f. refl; kept = p })
        go (exec n s) q ih =
            let i = ih n s (keeps a.machine s a.words n q p) in
            rw (runs_exec turn b a n s q) (record {
              gone = n + i.gone;
              part = omega (arith, i.part, length-drop n a.words, laws.takes_whole a.machine s a.words n q);
              words = i.words ∙ drop-drop i.gone n a.words;
              nothing = λ f. absurd (omega arith);
              kept = i.kept;
            })
