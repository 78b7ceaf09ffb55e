-- The start of demand 3, for readers: the calls that lead to it, those that keep it, and lists of calls that leave it alone. Document 01, "Straight execution".
use Rattle.std.specs.Prelude.{ℕ, ◌≤◌, ◌≡◌, List, [], ◌∷◌, map, ◌⊎◌}
use Rattle.history.specs.Calls.{World, Call, make, write, read, run, append, submit, picture, offscreen, fence, passed, lend, CallOutcome, perform, History}

-- "the making and register writes that lead to the start"
abbrev pub starting : ℕ → ℕ → ℕ → ℕ → List Call
starting memory pixels width height = make memory pixels ∷ write 2 width ∷ write 3 height ∷ write 1 1 ∷ write 20 1 ∷ []

-- Every answer of a history.
abbrev pub answers : History → List ℕ
answers h = map (λ (o : CallOutcome). o.answer) h.outcomes

-- The calls that leave a start a start: those that change nothing, "refusals aside", and register writes that leave mode, ENABLE and CONFIG_DONE as they are.
pub data Keeping (w : World) : Call → Type 0 where
  reads : (index : ℕ) → Keeping w (read index)
  shows : Keeping w picture
  edges : Keeping w offscreen
  last_fence : Keeping w fence
  has_passed : (number : ℕ) → Keeping w (passed number)
  -- "refusals aside": refused with a number of documents 01 and 02
  refusal : (c : Call) → 20 ≤ (perform c w).answer → Keeping w c
  -- a register other than ENABLE, WIDTH, HEIGHT and CONFIG_DONE
  elsewhere : (index value : ℕ) → (index ≡ 1 → ⊥) → (index ≡ 2 → ⊥) → (index ≡ 3 → ⊥) → (index ≡ 20 → ⊥) → Keeping w (write index value)
  -- ENABLE 1 and CONFIG_DONE 1 again
  enabled : Keeping w (write 1 1)
  accepted : Keeping w (write 20 1)

-- "Its ring was last accepted .. and since then .. no run made": the call is neither a run nor a new device nor a write to CONFIG_DONE.
abbrev pub Leaves : Call → Type 0
Leaves (make memory pixels) = ⊥
Leaves (write index value) = index ≡ 20 → ⊥
Leaves (read index) = Unit {0}
Leaves (run budget) = ⊥
Leaves (append word) = Unit {0}
Leaves (submit c) = Unit {0}
Leaves picture = Unit {0}
Leaves offscreen = Unit {0}
Leaves fence = Unit {0}
Leaves (passed number) = Unit {0}
Leaves (lend l output) = Unit {0}

-- "no run made, refusals aside": of a list of calls, each on what the last one left.
abbrev pub NoRun : List Call → World → Type 0
NoRun [] w = Unit {0}
NoRun (c ∷ cs) w = (Leaves c ⊎ (20 ≤ (perform c w).answer)) × NoRun cs (perform c w).world
