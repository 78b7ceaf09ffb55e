-- A chunk that was read fits, and what one turn more serves.
-- Assumes nothing.
use Rattle.std.proofs.Common.{take, length, arith}
use Rattle.std.proofs.lemmas.List.{length-take}
use mathlib.Core.Path.{◌≡◌, refl, ap, sym, ◌∙◌}
use mathlib.Core.List.{List, [], ◌∷◌, ◌++◌}
use Prim.Native.Nat.{ℕ}
use Rattle.console_session.specs.declared.Session.{Session}
use Rattle.console_session.specs.Session.{State, fed_all, flushed, served, Within, Served}
use Rattle.console_session.proofs.Meeting.{served_one}

-- the first n bytes of a buffer need no more room than all of it
pub part_within : {s : Session} {room line out : ℕ} (l : List ℕ) (n : ℕ) → length l ≡ room → Within s room line out
    → Within s (length (take n l)) line out
part_within l n e w = record { whole = w.whole; held = w.held; room = omega (arith, w.room, length-take n l) }

-- No read, and one read more.
pub served_none : (s : State) → Served s s
unfolding served
served_none s = record { chunks = []; state = refl }

pub served_more : {s t u : State} (chunk : List ℕ) → Served s t → u ≡ flushed (fed_all t chunk) → Served s u
served_more {s} chunk v e = record {
  chunks = v.chunks ++ (chunk ∷ []);
  state = e ∙ ap (λ (t : State). flushed (fed_all t chunk)) v.state ∙ sym (served_one s v.chunks chunk);
}
