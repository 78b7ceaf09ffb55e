-- The words that wait in a ring memory, as a run walks over them: document 01, "One command out of the ring". Nothing here has to be believed.
use Rattle.std.specs.Prelude.{ℕ, ◌+◌, ◌-◌, ◌*◌, ◌/◌, ◌≤◌, ◌<◌, Bool, true, cond, List, ltb, eqb, length, take, drop, get_or, ◌≡◌, Option}
use Rattle.cursor.specs.Plane.{max_side, image_words}
use Rattle.ring.specs.declared.Ring.{Ring}
use Rattle.ring.specs.Acceptance.{max_words}
use Rattle.ring.specs.Waiting.{ahead, between, words}
use Rattle.command.specs.declared.Action.{Action}
use Rattle.command.specs.declared.Action.TheVariants.{Update, Fill, Copy, Define, Fence, Nothing}
use Rattle.run.specs.declared.View.{View}
use Rattle.run.specs.declared.RingRun.{RingRun}
use Rattle.execution.specs.declared.Cause.TheVariants.{BadNext}
use Rattle.execution.specs.declared.End.{End}
use Rattle.execution.specs.declared.End.TheVariants.{Fault}
use Rattle.effect.specs.declared.Marks.{Marks}
use Rattle.execution.specs.Claim as Claim
use Rattle.run.specs.Run.{posts_in}

-- The remembered ring of a view.
abbrev pub place_of : View → Ring
place_of v = record { min = v.lo; max = v.hi; stop = v.at }

-- The words of a view.
abbrev pub words_in : List ℕ → View → List ℕ
words_in ring v = words ring v.lo v.hi v.at v.n

-- A view lies in a ring memory of m words, and has no more words than the ring carries.
pub record InView (v : View) (m : ℕ) : Type 0 where
  pub from : v.lo ≤ v.at
  pub below : v.at < v.hi
  pub held : v.n + v.lo < v.hi
  pub fits : v.hi ≤ m

-- A view from which a run may start, with the lent ring and cursor image. Fences are posted in word 6 as MIN has it.
pub record Stands (posts : Bool) (v : View) (ring cursor : List ℕ) : Type 0 where
  pub inside : InView v (length ring)
  pub low : 4 ≤ v.lo
  pub small : v.hi ≤ max_words
  pub carries : 10 + v.lo < v.hi
  pub image : length cursor ≡ image_words
  pub posted : posts ≡ posts_in (place_of v)

-- Its first k words.
abbrev pub front_of : View → ℕ → View
front_of v k = record { lo = v.lo; hi = v.hi; at = v.at; n = k }

-- A view behind its first k words.
abbrev pub passed_in : View → ℕ → View
passed_in v k = record { lo = v.lo; hi = v.hi; at = ahead v.lo v.hi v.at k; n = v.n - k }

-- The words that wait from STOP up to a usable NEXT_CMD.
abbrev pub view_of : Ring → ℕ → View
view_of g next = record { lo = g.min; hi = g.max; at = g.stop; n = between g.min g.max g.stop (next / 4) }

-- The pixels of a cursor that is to be defined are among n words, behind the six of its head, and fit the cursor image.
abbrev pub Ready : Action → ℕ → Type 0
Ready (Update r) n = Unit {0}
Ready (Fill r colour rop) n = Unit {0}
Ready (Copy from r rop) n = Unit {0}
Ready (Define s) n = (6 + s.w * s.h ≤ n) × (s.w ≤ max_side) × (s.h ≤ max_side)
Ready (Fence number) n = Unit {0}
Ready Nothing n = Unit {0}

-- ---- rows of words

-- The words from word a up to word e.
abbrev pub row_in : List ℕ → ℕ → ℕ → List ℕ
row_in memory a e = take (e - a) (drop a memory)

-- Where the words of a view end that lie in a row. The ring's last word is in no row, so that STOP never comes to stand at MAX.
unfoldable pub row_end : View → ℕ
row_end v = cond (ltb (v.at + v.n) v.hi) (v.at + v.n) (v.hi - 1)

-- Where fences are posted in word 6, words from this one on lie behind it.
abbrev pub Clear : Bool → ℕ → Type 0
Clear posts at = posts ≡ true → 7 ≤ at

-- The first ten words of a view, or all where there are fewer, in a row from word 7 of a line up to word e. Word 6 is the ring's.
pub record LineOf (ring : List ℕ) (v : View) (line : List ℕ) (e : ℕ) : Type 0 where
  pub size : length line ≡ 17
  pub low : 7 ≤ e
  pub high : e ≤ 17
  pub row : row_in line 7 e ≡ take 10 (words_in ring v)
  pub six : get_or line 6 0 ≡ get_or ring 6 0

-- What the code gives that ended at a view.
abbrev pub ran_to : View → Option End → ℕ → Marks → RingRun
ran_to v end count marks = record { end = end; count = count; ring = place_of v; marks = marks }

-- The answer where NEXT_CMD is unusable: "budget used up: 2" comes before 13.
unfoldable pub next_unusable : ℕ → Claim.Answer
next_unusable budget = cond (eqb budget 0) Claim.spent (Claim.ended (Fault BadNext))
