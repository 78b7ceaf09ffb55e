-- One history: every public call, with the memories that it is lent, and what it answers and leaves.
use Rattle.std.specs.Prelude.{ℕ, cond, List, [], ◌∷◌, Option, Some, None}
use Rattle.ring.specs.Append.{append_of}
use Rattle.writer.specs.Writing.{Command, write_of}
use Rattle.device.specs.declared.Device.{Device}
use Rattle.device.specs.Making.{Creation, made_of}
use Rattle.register_read.specs.Registers.{read_of}
use Rattle.register_write.specs.Registers.{written}
use Rattle.device_run.specs.Run.{Lent, with_ring, run_of}
use Rattle.adapter.specs.Picture.{picture_of}
use Rattle.offscreen.specs.Offscreen.{offscreen_of}
use Rattle.adapter.specs.Fence.{fence_of, fence_passed}

-- A device, the memories that a run is lent, "and for a finished picture an output (P)".
pub record World : Type 0 where
  pub device : Device
  pub lent : Lent
  pub output : List ℕ

-- Every public call, and what the guest and the host do between calls: any memories, of any lengths and contents, are lent from then on.
pub data Call : Type 0 where
  make : ℕ → ℕ → Call
  write : ℕ → ℕ → Call
  read : ℕ → Call
  run : ℕ → Call
  append : ℕ → Call
  submit : Command → Call
  picture offscreen fence : Call
  passed : ℕ → Call
  lend : Lent → List ℕ → Call

-- What a call answers: its number, and its values, if any: what was read; a run's count; the edges of a rectangle; a fence, or whether it has passed.
pub record CallOutcome : Type 0 where
  pub answer : ℕ
  pub values : List ℕ
  pub world : World

abbrev pub with_device : World → Device → World
with_device w d = record { device = d; lent = w.lent; output = w.output }

-- a device made anew, or "making yields no device" and the old one stays
abbrev pub given : Device → Option Device → Device
given d None = d
given d (Some new) = new

abbrev pub created : World → Creation → CallOutcome
created w c = record { answer = c.answer; values = []; world = with_device w (given w.device c.device) }

-- Each call by the definition that its contract cites.
unfoldable pub perform : Call → World → CallOutcome
perform (make memory pixels) w = created w (made_of memory pixels)
perform (write index value) w =
    let o = written w.device w.lent.ring index value in
    record { answer = o.answer; values = []; world = with_device w o.device }
perform (read index) w = let r = read_of w.device index in record { answer = r.answer; values = r.value ∷ []; world = w }
perform (run budget) w =
    let o = run_of w.device w.lent budget in
    record {
      answer = o.answer;
      values = o.count ∷ [];
      world = record { device = o.device; lent = o.lent; output = w.output };
    }
perform (append word) w =
    let o = append_of w.lent.ring word in
    record {
      answer = o.answer;
      values = [];
      world = record { device = w.device; lent = with_ring w.lent o.ring; output = w.output };
    }
perform (submit c) w =
    let o = write_of w.lent.ring c in
    record {
      answer = o.answer;
      values = [];
      world = record { device = w.device; lent = with_ring w.lent o.ring; output = w.output };
    }
perform picture w =
    let o = picture_of w.device w.lent.screen w.lent.cursor w.output in
    record { answer = o.answer; values = []; world = record { device = w.device; lent = w.lent; output = o.output } }
perform offscreen w =
    let e = offscreen_of w.device in record { answer = 0; values = e.left ∷ e.top ∷ e.right ∷ e.bottom ∷ []; world = w }
perform fence w = record { answer = 0; values = fence_of w.device ∷ []; world = w }
perform (passed number) w = record { answer = 0; values = cond (fence_passed (fence_of w.device) number) 1 0 ∷ []; world = w }
perform (lend l output) w = record { answer = 0; values = []; world = record { device = w.device; lent = l; output = output } }

-- What calls in a row answer and leave, each on what the last one left.
pub record History : Type 0 where
  pub outcomes : List CallOutcome
  pub world : World

unfoldable pub perform_all : List Call → World → History
perform_all [] w = record { outcomes = []; world = w }
perform_all (c ∷ cs) w =
    let o = perform c w in
    let h = perform_all cs o.world in
    record { outcomes = o ∷ h.outcomes; world = h.world }
