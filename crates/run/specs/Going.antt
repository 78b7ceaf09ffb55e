-- The turns of a run so far, and what is left of it. Nothing here has to be believed.
use Rattle.std.specs.Prelude.{◌≡◌, Bool, cond, List, ◌++◌, ℕ, ◌+◌, ◌-◌, ◌≤◌, eqb, drop, Option, Some, None, Result, Ok, Err}
use Rattle.cursor.specs.declared.Shape.{Shape}
use Rattle.execution.specs.declared.Cause.{Cause}
use Rattle.execution.specs.declared.End.{End}
use Rattle.execution.specs.Straight.{Line, ends, exec}
use Rattle.execution.specs.Straight as O
use Rattle.execution.specs.Table.{turn_of}
use Rattle.execution.specs.Turns.{LineRun, runs}
use Rattle.ring.specs.Waiting.{carried}
use Rattle.command.specs.declared.Data.{Data}
use Rattle.command.specs.declared.Step.{Step}
use Rattle.command.specs.Findings.{step_in}
use Rattle.effect.specs.declared.Marks.{Marks}
use Rattle.effect.specs.Effects.{Scene, scene, Machine}
use Rattle.run.specs.declared.Stage.{Stage}
use Rattle.run.specs.declared.View.{View}
use Rattle.run.specs.declared.Pause.{Pause}
use Rattle.run.specs.declared.Pause.TheVariants.{Spent, Short, Faults, Long}
use Rattle.run.specs.declared.Paused.{Paused}
use Rattle.run.specs.declared.Turned.{Turned}
use Rattle.run.specs.Turns.{words_in, passed_in, row_in}
use Rattle.run.specs.Run.{machine, table, stamped, posting, posted_in}

-- The scene of what a run does not change.
abbrev pub scene_of : Stage → Scene
scene_of t = scene t.frame t.framebuffer.now t.posts

-- So many commands before a run.
abbrev pub plus : ℕ → LineRun Machine → LineRun Machine
plus k r = record { answer = r.answer; count = k + r.count; line = r.line }

abbrev pub line : List ℕ → Machine → Line Machine
line w m = record { words = w; machine = m }

-- Straight execution's turn, in the ring of a view.
abbrev pub turn : Scene → View → Machine → List ℕ → O.Turn Machine
turn s v = turn_of (carried v.lo v.hi) (table s)

abbrev pub marked : ℕ → Option Shape → Marks
marked fence defined = record { fence = fence; defined = defined }

module _ (s : Scene) (budget : ℕ) (v₀ : View) (ring₀ : List ℕ) (m₀ : Machine) where
  -- With so much of the budget left the view is behind `gone` words, ring word 3 says so, word 6 has what is posted, and the run still to do from here
  -- is the whole run.
  pub record Going (v : View) (ring : List ℕ) (m : Machine) (left : ℕ) : Type 0 where
    pub bounded : left ≤ budget
    pub gone : ℕ
    pub part : gone ≤ v₀.n
    pub still : left ≡ budget → (gone ≡ 0) × (m.posted ≡ m₀.posted)
    pub view : v ≡ passed_in v₀ gone
    pub memory : ring ≡ cond (eqb left budget) ring₀ (stamped v.at (posting s.posts m.posted ring₀))
    pub rest : runs (turn s v₀) budget (line (words_in ring₀ v₀) m₀) ≡ plus (budget - left) (runs (turn s v₀) left (line (drop gone (words_in ring₀ v₀)) m))

-- ---- commands in a row of words

-- Why commands in a row come to an end at a step. A command that is executed is none of these.
abbrev pub pause_of : Step → Pause
pause_of (Step.Does a n) = Spent
pause_of Step.Short = Short
pause_of (Step.Faults c) = Faults c
pause_of (Step.Long d) = Long d

-- Why commands in a row came to an end there, with so much of the budget left.
pub record Pauses (why : Pause) (left : ℕ) (row : List ℕ) : Type 0 where
  pub spent : why ≡ Spent → left ≡ 0
  pub short : why ≡ Short → (1 ≤ left) × (step_in tt row ≡ Step.Short)
  pub faults : (c : Cause) → why ≡ Faults c → (1 ≤ left) × (step_in tt row ≡ Step.Faults c)
  pub long : (d : Data) → why ≡ Long d → (1 ≤ left) × (step_in tt row ≡ Step.Long d)

-- Commands in the row from word a up to word e were run, from a fence and a screen to others: whatever follows the row, and whatever the cursor. They
-- ended at word at, with so much of the budget left. What is posted stands in the memory's word 6.
module _ (s : Scene) (budget : ℕ) (memory₀ : List ℕ) (a e : ℕ) (fence₀ : ℕ) (screen₀ : List ℕ) where
  pub record RowGoing (at fence left : ℕ) (memory screen : List ℕ) : Type 0 where
    pub bounded : left ≤ budget
    pub from : a ≤ at
    pub within : at ≤ e
    pub still : left ≡ budget → (at ≡ a) × (fence ≡ fence₀) × (screen ≡ screen₀)
    pub stamp : memory ≡ cond (eqb left budget) memory₀ (stamped at (posting s.posts (posted_in s.posts memory) memory₀))
    pub rest : (cap : ℕ) (tail : List ℕ) (defined : Option Shape) (cursor : List ℕ) → 10 ≤ cap → e - a ≤ cap
        → runs (turn_of cap (table s)) budget
        (line (row_in memory₀ a e ++ tail) (machine (marked fence₀ defined) screen₀ cursor (posted_in s.posts memory₀)))
        ≡ plus (budget - left) (runs (turn_of cap (table s)) left
        (line (row_in memory₀ at e ++ tail) (machine (marked fence defined) screen cursor (posted_in s.posts memory))))

  abbrev pub RowRun : Paused → List ℕ → List ℕ → Type 0
  RowRun p memory screen =
      RowGoing p.end.at p.end.fence p.end.left memory screen × Pauses p.why p.end.left (row_in memory₀ p.end.at e)

-- ---- one turn

-- What a turn leaves.
pub record After : Type 0 where
  pub stop : Option End
  pub view : View
  pub ring : List ℕ
  pub machine : Machine

-- From what the code answers, where a turn began at this view with these marks.
abbrev pub after : Bool → View → Marks → Result Turned End → List ℕ → List ℕ → List ℕ → After
after posts v marks (Ok t) ring screen cursor =
    record { stop = None; view = t.view; ring = ring; machine = machine t.marks screen cursor (posted_in posts ring) }
after posts v marks (Err e) ring screen cursor =
    record { stop = Some e; view = v; ring = ring; machine = machine marks screen cursor (posted_in posts ring) }

-- A turn that ends leaves all as it was; a command that was executed is passed, ring word 3 says so, and word 6 has what is posted.
abbrev pub turned_by : Bool → View → List ℕ → Machine → O.Turn Machine → After
turned_by posts v ring m (ends e) = record { stop = Some e; view = v; ring = ring; machine = m }
turned_by posts v ring m (exec n t) =
    record { stop = None; view = passed_in v n; ring = stamped (passed_in v n).at (posting posts t.posted ring); machine = t }

unfoldable pub turned : Scene → View → List ℕ → Machine → After
turned s v ring m = turned_by s.posts v ring m (turn s v m (words_in ring v))

-- A turn that touches neither screen nor framebuffer, whatever they are.
abbrev pub DataTurned : View → Marks → List ℕ → List ℕ → Result Turned End → List ℕ → List ℕ → Type 0
DataTurned v marks ring₀ cursor₀ t ring cursor = (s : Scene) (screen : List ℕ)
    → after s.posts v marks t ring screen cursor ≡ turned s v ring₀ (machine marks screen cursor₀ (posted_in s.posts ring₀))
