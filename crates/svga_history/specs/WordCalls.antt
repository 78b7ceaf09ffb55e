-- Every call of the library for C and Rust, on lent words, as one history.
use Rattle.std.specs.Prelude.{ℕ, ◌/◌, ◌%◌, ◌<◌, ◌≡◌, cond, List, [], ◌∷◌, map, eqb, get_or, Some}
use Rattle.ring.specs.Append.{append_of}
use Rattle.writer.specs.Writing.{write_of}
use Rattle.writer.specs.Reading.{InBytes}
use Rattle.device_run.specs.Run.{Lent, with_ring}
use Rattle.device_words.specs.Words.{device_from, held_in}
use Rattle.svga.specs.Calls.{svga_make, svga_write, svga_read, svga_run, svga_picture, svga_offscreen, svga_fence, svga_passed}
use Rattle.history.specs.Calls.{World, Call, make, write, read, run, append, submit, picture, offscreen, fence, passed, lend, CallOutcome, History}

-- ---- packed results

-- The answer is the high half of a packed result, the value its low half.
abbrev pub answer_in : ℕ → ℕ
answer_in result = result / 4294967296

abbrev pub value_in : ℕ → ℕ
value_in result = result % 4294967296

-- ---- what a host lends

-- The device's words, the memories of a run, an output for pictures, words for the edges of the offscreen rectangle.
pub record Host : Type 0 where
  pub device : List ℕ
  pub lent : Lent
  pub output : List ℕ
  pub edges : List ℕ

abbrev pub host : List ℕ → Lent → List ℕ → List ℕ → Host
host device l output edges = record { device = device; lent = l; output = output; edges = edges }

-- The device in the words, with the memories as the device's own calls have them.
abbrev pub world_in : Host → World
world_in h = record { device = device_from h.device; lent = h.lent; output = h.output }

-- The words hold that device.
abbrev pub HoldsDevice : Host → Type 0
HoldsDevice h = held_in h.device ≡ Some (device_from h.device)

-- ---- the calls

-- What a call answers, its values, and what it leaves.
pub record WordOutcome : Type 0 where
  pub answer : ℕ
  pub values : List ℕ
  pub host : Host

abbrev pub outcome : ℕ → List ℕ → Host → WordOutcome
outcome answer values h = record { answer = answer; values = values; host = h }

-- Each call of the library by the definition that its contract cites, its packed result in two halves. The edges are the values of an offscreen
-- rectangle that was taken. To lend other memories is what a host does between calls.
unfoldable pub perform_words : Call → Host → WordOutcome
perform_words (make memory pixels) h =
    let o = svga_make h.device memory pixels in outcome o.answer [] (host o.device h.lent h.output h.edges)
perform_words (write index value) h =
    let o = svga_write h.device h.lent.ring index value in outcome o.answer [] (host o.device h.lent h.output h.edges)
perform_words (read index) h = let r = svga_read h.device index in outcome (answer_in r) (value_in r ∷ []) h
perform_words (run budget) h =
    let o = svga_run h.device h.lent budget in
    outcome (answer_in o.result) (value_in o.result ∷ []) (host o.device o.lent h.output h.edges)
perform_words (append word) h =
    let o = append_of h.lent.ring word in outcome o.answer [] (host h.device (with_ring h.lent o.ring) h.output h.edges)
perform_words (submit c) h =
    let o = write_of h.lent.ring c in outcome o.answer [] (host h.device (with_ring h.lent o.ring) h.output h.edges)
perform_words picture h =
    let o = svga_picture h.device h.lent.screen h.lent.cursor h.output in
    outcome o.answer [] (host h.device h.lent o.output h.edges)
perform_words offscreen h =
    let o = svga_offscreen h.device h.edges in
    outcome o.answer (cond (eqb o.answer 0) o.edges []) (host h.device h.lent h.output o.edges)
perform_words fence h = let r = svga_fence h.device in outcome (answer_in r) (value_in r ∷ []) h
perform_words (passed number) h = let r = svga_passed h.device number in outcome (answer_in r) (value_in r ∷ []) h
perform_words (lend l output) h = outcome 0 [] (host h.device l output h.edges)

-- The same as an outcome on the device in the words.
abbrev pub as_call : WordOutcome → CallOutcome
as_call o = record { answer = o.answer; values = o.values; world = world_in o.host }

-- What calls in a row answer and leave, each on what the last one left.
pub record WordHistory : Type 0 where
  pub outcomes : List WordOutcome
  pub host : Host

unfoldable pub perform_words_all : List Call → Host → WordHistory
perform_words_all [] h = record { outcomes = []; host = h }
perform_words_all (c ∷ cs) h =
    let o = perform_words c h in
    let z = perform_words_all cs o.host in
    record { outcomes = o ∷ z.outcomes; host = z.host }

abbrev pub as_history : WordHistory → History
as_history z = record { outcomes = map as_call z.outcomes; world = world_in z.host }

-- What may happen: a call; or somebody puts any words where the device and the edges stood.
pub data HostStep : Type 0 where
  call : Call → HostStep
  put : List ℕ → List ℕ → HostStep

abbrev pub stepped : HostStep → Host → Host
stepped (call c) h = (perform_words c h).host
stepped (put device edges) h = host device h.lent h.output edges

-- ---- what every machine keeps to

-- "Calls lend 32-bit words": each is below 2^32.
pub record AreWords (l : List ℕ) : Type 0 where
  pub below : (i : ℕ) → get_or l i 0 < 4294967296

-- The device's words and the ring's, which answers and values are made of.
pub record WordHost (h : Host) : Type 0 where
  pub device : AreWords h.device
  pub ring : AreWords h.lent.ring

-- So are the arguments of a call, and what is lent and put.
abbrev pub WordCall : Call → Type 0
WordCall (make memory pixels) = Unit {0}
WordCall (write index value) = value < 4294967296
WordCall (read index) = Unit {0}
WordCall (run budget) = budget < 4294967296
WordCall (append word) = word < 4294967296
WordCall (submit c) = AreWords c.head × AreWords c.pixels × InBytes c
WordCall picture = Unit {0}
WordCall offscreen = Unit {0}
WordCall fence = Unit {0}
WordCall (passed number) = Unit {0}
WordCall (lend l output) = AreWords l.ring

abbrev pub WordCalls : List Call → Type 0
WordCalls [] = Unit {0}
WordCalls (c ∷ cs) = WordCall c × WordCalls cs

abbrev pub WordStep : HostStep → Type 0
WordStep (call c) = WordCall c
WordStep (put device edges) = AreWords device

abbrev pub WordSteps : List HostStep → Type 0
WordSteps [] = Unit {0}
WordSteps (s ∷ steps) = WordStep s × WordSteps steps
