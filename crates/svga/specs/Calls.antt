-- The device's calls for C and Rust, on a device in lent words. Each is the adapter's definition on the device that the words hold.
use Rattle.std.specs.Prelude.{ℕ, ◌+◌, ◌*◌, cond, List, [], ◌∷◌, eqb, length, None, Option, Some}
use Rattle.device.specs.declared.Device.{Device}
use Rattle.offscreen.specs.declared.Edges.{Edges}
use Rattle.device.specs.Making.{made_of}
use Rattle.adapter.specs.Picture.{Pictured, picture_of}
use Rattle.register_read.specs.Registers.{bit, read_of}
use Rattle.register_write.specs.Registers.{written}
use Rattle.device_run.specs.Run.{Lent, RunOutcome, run_of}
use Rattle.offscreen.specs.Offscreen.{offscreen_of}
use Rattle.adapter.specs.Fence.{fence_of, fence_passed}
use Rattle.device_words.specs.Words.{words_of, held_in}

-- Answer numbers: "20 .. lent length", "22 .. not configured", "24 .. width·height above P", "30 .. no such register"
abbrev pub lent_length : ℕ
lent_length = 20

abbrev pub not_configured : ℕ
not_configured = 22

abbrev pub too_large : ℕ
too_large = 24

abbrev pub no_register : ℕ
no_register = 30

-- An answer in the high half, a value in the low.
abbrev pub packed : ℕ → ℕ → ℕ
packed answer value = answer * 4294967296 + value

-- A device length that differs is answer 20, and looked at first.
abbrev pub in_words : {A : Type 0} → List ℕ → A → A → A
in_words w good bad = cond (eqb (length w) 64) good bad

-- ---- making and registers

-- What is answered, and the device's words then.
pub record Call : Type 0 where
  pub answer : ℕ
  pub device : List ℕ

abbrev pub call : ℕ → List ℕ → Call
call answer device = record { answer = answer; device = device }

-- 0, and all words are the fresh device's; or 34, and nothing changes.
abbrev pub made_words : List ℕ → Option Device → List ℕ
made_words w None = w
made_words w (Some d) = words_of d

unfoldable pub svga_make : List ℕ → ℕ → ℕ → Call
svga_make w memory pixels =
    in_words w (call (made_of memory pixels).answer (made_words w (made_of memory pixels).device)) (call lent_length w)

-- Words that hold no device: no such register, 30.
unfoldable pub write_held : List ℕ → List ℕ → ℕ → ℕ → Option Device → Call
write_held w ring index value (Some d) = call (written d ring index value).answer (words_of (written d ring index value).device)
write_held w ring index value None = call no_register w

unfoldable pub svga_write : List ℕ → List ℕ → ℕ → ℕ → Call
svga_write w ring index value = in_words w (write_held w ring index value (held_in w)) (call lent_length w)

unfoldable pub read_held : ℕ → Option Device → ℕ
read_held index (Some d) = packed (read_of d index).answer (read_of d index).value
read_held index None = packed no_register 0

unfoldable pub svga_read : List ℕ → ℕ → ℕ
svga_read w index = in_words w (read_held index (held_in w)) (packed lent_length 0)

-- ---- run

pub record RunCall : Type 0 where
  pub result : ℕ
  pub device : List ℕ
  pub lent : Lent

abbrev pub run_call : ℕ → List ℕ → Lent → RunCall
run_call result device l = record { result = result; device = device; lent = l }

abbrev pub run_words : RunOutcome → RunCall
run_words o = run_call (packed o.answer o.count) (words_of o.device) o.lent

-- Words that hold no device: not configured, 22.
unfoldable pub run_held : List ℕ → Lent → ℕ → Option Device → RunCall
run_held w l budget (Some d) = run_words (run_of d l budget)
run_held w l budget None = run_call (packed not_configured 0) w l

unfoldable pub svga_run : List ℕ → Lent → ℕ → RunCall
svga_run w l budget = in_words w (run_held w l budget (held_in w)) (run_call (packed lent_length 0) w l)

-- ---- picture, offscreen rectangle, fences

-- Words that hold no device: 24.
unfoldable pub picture_held : List ℕ → List ℕ → List ℕ → Option Device → Pictured
picture_held screen image output (Some d) = picture_of d screen image output
picture_held screen image output None = record { answer = too_large; output = output }

unfoldable pub svga_picture : List ℕ → List ℕ → List ℕ → List ℕ → Pictured
svga_picture w screen image output = in_words w (picture_held screen image output (held_in w)) (record { answer = lent_length; output = output })

-- What is answered, and the four edges then.
pub record EdgesCall : Type 0 where
  pub answer : ℕ
  pub edges : List ℕ

abbrev pub edges_call : ℕ → List ℕ → EdgesCall
edges_call answer edges = record { answer = answer; edges = edges }

abbrev pub edge_words : Edges → List ℕ
edge_words e = e.left ∷ e.top ∷ e.right ∷ e.bottom ∷ []

-- Words that hold no device have no rectangle: 30, as for a register that is not there, and the edges stay as they were.
unfoldable pub edges_held : List ℕ → Option Device → EdgesCall
edges_held edges (Some d) = edges_call 0 (edge_words (offscreen_of d))
edges_held edges None = edges_call no_register edges

-- The two lengths are looked at first, the device's before that of the edges.
unfoldable pub svga_offscreen : List ℕ → List ℕ → EdgesCall
svga_offscreen w edges = in_words w (cond (eqb (length edges) 4) (edges_held edges (held_in w)) (edges_call lent_length edges)) (edges_call lent_length edges)

-- Words that hold no device have no fence: 30, as for a register that is not there.
unfoldable pub fence_held : Option Device → ℕ
fence_held (Some d) = packed 0 (fence_of d)
fence_held None = packed no_register 0

unfoldable pub svga_fence : List ℕ → ℕ
svga_fence w = in_words w (fence_held (held_in w)) (packed lent_length 0)

unfoldable pub passed_held : ℕ → Option Device → ℕ
passed_held f (Some d) = packed 0 (bit (fence_passed (fence_of d) f))
passed_held f None = packed no_register 0

unfoldable pub svga_passed : List ℕ → ℕ → ℕ
svga_passed w f = in_words w (passed_held f (held_in w)) (packed lent_length 0)
