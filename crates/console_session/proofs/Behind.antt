-- What is printed stands behind what was printed before, and does not depend on it.
-- Assumes nothing.
use mathlib.Core.Path.{◌≡◌, refl, ap, sym, ◌∙◌}
use mathlib.Core.Bool.{Bool, true, false, cond}
use mathlib.Core.List.{List, [], ◌∷◌, ◌++◌, append-nil, append_assoc}
use Prim.Native.Nat.{ℕ}
use lib.Dec.{eqb, leb}
use lib.ListN.{length}
use Rattle.console_session.specs.Session.{State, answered, fed, fed_all, ended, flushed}

-- A state that had printed p before.
abbrev pub behind : List ℕ → State → State
behind p s = record { console = s.console; held = s.held; printed = p ++ s.printed }

behind_answered : (p : List ℕ) (s : State) → answered (behind p s) ≡ behind p (answered s)
unfolding answered
behind_answered p s = rw append_assoc

behind_chosen : (p : List ℕ) (t : Bool) (a b : State) → cond t (behind p a) (behind p b) ≡ behind p (cond t a b)
behind_chosen p true a b = refl
behind_chosen p false a b = refl

behind_fed : (p : List ℕ) (s : State) (b : ℕ) → fed (behind p s) b ≡ behind p (fed s b)
unfolding fed
behind_fed p s b = rw (behind_answered p s) (behind_chosen p (eqb b 10) (answered s) _)

pub behind_all : (p : List ℕ) (s : State) (bs : List ℕ) → fed_all (behind p s) bs ≡ behind p (fed_all s bs)
unfolding fed_all
behind_all p s [] = refl
behind_all p s (b ∷ bs) = rw (behind_fed p s b) (behind_all p (fed s b) bs)

pub behind_ended : (p : List ℕ) (s : State) → ended (behind p s) ≡ behind p (ended s)
unfolding ended
behind_ended p s = rw (behind_answered p s) (behind_chosen p (leb 1 (length s.held)) (answered s) s)

pub flushed_behind : (s : State) → behind s.printed (flushed s) ≡ s
flushed_behind s = rw append-nil

-- What a byte prints.
pub fed_text : (s : State) (b : ℕ) → (fed s b).printed ≡ s.printed ++ (fed (flushed s) b).printed
fed_text s b = ap (λ (t : State). (fed t b).printed) (sym (flushed_behind s)) ∙ rw (behind_fed s.printed (flushed s) b)

-- But for the text, bytes leave the same.
pub flushed_all : (s : State) (bs : List ℕ) → flushed (fed_all (flushed s) bs) ≡ flushed (fed_all s bs)
flushed_all s bs =
    ap (λ (t : State). flushed t) (sym (behind_all s.printed (flushed s) bs)) ∙ ap (λ (t : State). flushed (fed_all t bs)) (flushed_behind s)
