-- Demand 1 for hosts that keep words: "Every register write, ring content and buffer size gets an answer from the table in document 01, and nothing but
-- the places that document names changes. No caller has to look first."
use Rattle.std.specs.Prelude.{ℕ, ◌≤◌, ◌≡◌, true, List, [], ◌∷◌, length, get_or}
use Rattle.history.specs.Calls.{Call, make, write, read, run, append, submit, picture, offscreen, fence, passed, lend}
use Rattle.history.specs.Harm.{among, OnlyNamed}
use Rattle.svga_history.specs.WordCalls.{Host, world_in, HoldsDevice, WordOutcome, perform_words, as_call, HostStep, call, put, stepped, WordHost}

-- ---- answers

-- The numbers that a call can answer: document 01's, "20 .. lent length" for the device's words and the edges too, and for words that hold no device
-- those of `svga/Calls`.
abbrev pub word_row : Call → List ℕ
word_row (make memory pixels) = 0 ∷ 20 ∷ 34 ∷ []
word_row (write index value) = 0 ∷ 20 ∷ 30 ∷ 31 ∷ 32 ∷ 33 ∷ []
word_row (read index) = 0 ∷ 20 ∷ 30 ∷ []
word_row (run budget) = 0 ∷ 1 ∷ 2 ∷ 10 ∷ 11 ∷ 12 ∷ 13 ∷ 20 ∷ 21 ∷ 22 ∷ 23 ∷ 24 ∷ []
word_row (append word) = 0 ∷ 1 ∷ []
word_row (submit c) = 0 ∷ 20 ∷ 33 ∷ 40 ∷ 41 ∷ []
word_row picture = 0 ∷ 20 ∷ 24 ∷ []
word_row offscreen = 0 ∷ 20 ∷ 30 ∷ []
word_row fence = 0 ∷ 20 ∷ 30 ∷ []
word_row (passed number) = 0 ∷ 20 ∷ 30 ∷ []
word_row (lend l output) = 0 ∷ []

-- ---- what may change

-- What a call asks of the device's words and the edges. Whatever else is lent, it is refused.
abbrev pub Lends : Call → Host → Type 0
Lends (make memory pixels) h = length h.device ≡ 64
Lends (write index value) h = HoldsDevice h
Lends (read index) h = HoldsDevice h
Lends (run budget) h = HoldsDevice h
Lends (append word) h = Unit {0}
Lends (submit c) h = Unit {0}
Lends picture h = HoldsDevice h
Lends offscreen h = HoldsDevice h × (length h.edges ≡ 4)
Lends fence h = HoldsDevice h
Lends (passed number) h = HoldsDevice h
Lends (lend l output) h = Unit {0}

-- A refusal: a number in the call's row, with nothing changed and its values 0
pub record Away (c : Call) (h : Host) (o : WordOutcome) : Type 0 where
  pub high : 20 ≤ o.answer
  pub in_row : among o.answer (word_row c) ≡ true
  pub same : o.host ≡ h
  pub silent : (i : ℕ) → get_or o.values i 0 ≡ 0

-- The device's words are written by making, by register writes and by runs alone; none is added or lost.
abbrev pub DeviceStays : Call → List ℕ → List ℕ → Type 0
DeviceStays (make memory pixels) before after = length after ≡ length before
DeviceStays (write index value) before after = length after ≡ length before
DeviceStays (read index) before after = after ≡ before
DeviceStays (run budget) before after = length after ≡ length before
DeviceStays (append word) before after = after ≡ before
DeviceStays (submit c) before after = after ≡ before
DeviceStays picture before after = after ≡ before
DeviceStays offscreen before after = after ≡ before
DeviceStays fence before after = after ≡ before
DeviceStays (passed number) before after = after ≡ before
DeviceStays (lend l output) before after = after ≡ before

-- The edges are written by the offscreen rectangle alone; none is added or lost.
abbrev pub EdgesStay : Call → List ℕ → List ℕ → Type 0
EdgesStay (make memory pixels) before after = after ≡ before
EdgesStay (write index value) before after = after ≡ before
EdgesStay (read index) before after = after ≡ before
EdgesStay (run budget) before after = after ≡ before
EdgesStay (append word) before after = after ≡ before
EdgesStay (submit c) before after = after ≡ before
EdgesStay picture before after = after ≡ before
EdgesStay offscreen before after = length after ≡ length before
EdgesStay fence before after = after ≡ before
EdgesStay (passed number) before after = after ≡ before
EdgesStay (lend l output) before after = after ≡ before

-- ---- demand 1

-- One call, with the outcome o.
pub record SafeWords (c : Call) (h : Host) (o : WordOutcome) : Type 0 where
  pub answered : among o.answer (word_row c) ≡ true
  -- a refused call leaves every lent word, and its values are 0
  pub refused : 20 ≤ o.answer → o.host ≡ h
  pub refused_values : 20 ≤ o.answer → (i : ℕ) → get_or o.values i 0 ≡ 0
  -- one that is lent what it asks changes of the device and the memories only what it may, and any other is refused
  pub lent : Lends c h → OnlyNamed c (world_in h) (as_call o)
  pub not_lent : (Lends c h → ⊥) → 20 ≤ o.answer
  -- words that hold a device hold one afterwards
  pub held : HoldsDevice h → HoldsDevice o.host
  pub device : DeviceStays c h.device o.host.device
  pub edges : EdgesStay c h.edges o.host.edges
  -- 32-bit words stay 32-bit words
  pub words : WordHost o.host

abbrev pub SafeStep : HostStep → Host → Type 0
SafeStep (call c) h = SafeWords c h (perform_words c h)
SafeStep (put device edges) h = Unit {0}

-- Steps in a row, each on what the last one left.
abbrev pub HarmlessWords : List HostStep → Host → Type 0
HarmlessWords [] h = Unit {0}
HarmlessWords (s ∷ steps) h = SafeStep s h × HarmlessWords steps (stepped s h)
