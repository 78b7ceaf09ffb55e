-- The console's state, and what a request does: document 01, "The console program".
use Rattle.std.specs.Prelude.{ℕ, ◌≡◌, cond, List, eqb, get_or, set, replicate}
use Rattle.cursor.specs.Plane.{image_words}
use Rattle.ring.specs.Append.{Appended, append_of}
use Rattle.device.specs.declared.Device.{Device}
use Rattle.device.specs.Device.{fresh}
use Rattle.register_write.specs.Answers.{WriteOutcome}
use Rattle.register_read.specs.Registers.{read_of}
use Rattle.register_write.specs.Registers.{written}
use Rattle.device_run.specs.Run.{Lent, lent, with_ring, with_framebuffer, RunOutcome, run_of}
use Rattle.console_lines.specs.declared.Request.{Request}
use Rattle.console_lines.specs.declared.Request.TheVariants.{Write, Read, Append, Pixel, Run, Screen, Bad}
use Rattle.console_answers.specs.declared.ConsoleAnswer.{ConsoleAnswer}
use Rattle.console_answers.specs.declared.ConsoleAnswer.TheVariants.{Written, Value, Ran, Shown, Full, Nothing, Bad as SaysBad}
use Rattle.console_session.specs.declared.Memories.{Memories}
use Rattle.console_session.specs.declared.Performed.{Performed as Done}

-- The device and what is lent to it.
pub record Console : Type 0 where
  pub device : Device
  pub lent : Lent

-- "M = 10,256, P = 1,024"
abbrev pub memory : ℕ
memory = 10256

abbrev pub ring_words : ℕ
ring_words = 2564

abbrev pub pixels : ℕ
pixels = 1024

-- "M = 10,256, P = 1,024, everything zero, ring words 16, 10256, 16, 16."
unfoldable pub ring_start : List ℕ → List ℕ
ring_start ring = set (set (set (set ring 0 16) 1 memory) 2 16) 3 16

unfoldable pub start : Console
start = record {
  device = fresh memory pixels;
  lent = lent (ring_start (replicate ring_words 0)) (replicate pixels 0) (replicate pixels 0) (replicate image_words 0);
}

-- ---- requests

-- A request leaves a console and is answered.
pub record Performed : Type 0 where
  pub console : Console
  pub answer : ConsoleAnswer

abbrev pub console_of : Device → Lent → Console
console_of d l = record { device = d; lent = l }

-- "`w index value` prints w, index, answer."
abbrev pub after_write : Console → ℕ → WriteOutcome → Performed
after_write c index o = record { console = console_of o.device c.lent; answer = Written index o.answer }

-- "`p word` appends by 000's rule, printing `full` if it can't." An append that is taken answers 0.
abbrev pub after_append : Console → Appended → Performed
after_append c a = record {
  console = console_of c.device (with_ring c.lent a.ring);
  answer = cond (eqb a.answer 0) Nothing Full;
}

-- "`run budget` prints run, answer, count."
abbrev pub after_run : RunOutcome → Performed
after_run o = record { console = console_of o.device o.lent; answer = Ran o.answer o.count }

-- "`r index` prints r, index, value." "`f place pixel` sets the framebuffer and prints nothing."
-- "`s place` prints s, place, screen pixel." "Any other line or place above 1,023 prints `bad`."
unfoldable pub performed : Console → Request → Performed
performed c (Write index value) = after_write c index (written c.device c.lent.ring index value)
performed c (Read index) = record { console = c; answer = Value index (read_of c.device index).value }
performed c (Append word) = after_append c (append_of c.lent.ring word)
performed c (Pixel place pixel) = record {
  console = console_of c.device (with_framebuffer c.lent (set c.lent.framebuffer place pixel));
  answer = Nothing;
}
performed c (Run budget) = after_run (run_of c.device c.lent budget)
performed c (Screen place) = record { console = c; answer = Shown place (get_or c.lent.screen place 0) }
performed c Bad = record { console = c; answer = SaysBad }

-- The same from what the code gives and leaves.
abbrev pub performed_of : Done → Lent → Performed
performed_of r l = record { console = console_of r.device l; answer = r.answer }

-- ---- what is lent to the code

-- What the memories of a call hold.
abbrev pub contents : Memories → Lent
contents m = lent m.ring.now m.framebuffer.now m.screen.now m.cursor.now

-- They are the same memories, whatever they hold.
pub record SameMemories (m n : Memories) : Type 0 where
  pub ring : m.ring.ghost_name ≡ n.ring.ghost_name
  pub framebuffer : m.framebuffer.ghost_name ≡ n.framebuffer.ghost_name
  pub screen : m.screen.ghost_name ≡ n.screen.ghost_name
  pub cursor : m.cursor.ghost_name ≡ n.cursor.ghost_name
