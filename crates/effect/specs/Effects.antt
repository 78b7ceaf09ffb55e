-- What an executed command does: document 01, "One command out of the ring". The machine is what straight execution's state has beside the words left:
-- "screen, cursor image, defined cursor (none, or id, hotspot and size), fence", and ring word 6 where document 02, P1, has fences written there.
use Rattle.std.specs.Prelude.{ℕ, ◌*◌, Bool, cond, ◌&&◌, List, ◌++◌, ltb, length, take, drop, Option, Some}
use Rattle.cursor.specs.declared.Shape.{Shape}
use Rattle.geometry.specs.declared.Frame.{Frame}
use Rattle.geometry.specs.declared.Rect.{Rect}
use Rattle.geometry.specs.Pixels.{column_of, row_of, in_rect}
use Rattle.geometry.specs.declared.Point.{Point}
use Rattle.command.specs.declared.Action.{Action}
use Rattle.command.specs.declared.Action.TheVariants.{Update, Fill, Copy, Define, Fence, Nothing}
use Rattle.raster.specs.Painters.{rows_fit, filled_in, updated, source_column, source_row, copied_in}
use Rattle.effect.specs.declared.Marks.{Marks}

-- What a run does not change: the mode, of width by height; which pixels (x, y) are in the mode or offscreen, and the rows that these take in the lent
-- screen; the framebuffer; and whether fences are posted in ring word 6.
pub record Scene : Type 0 where
  pub width : ℕ
  pub height : ℕ
  pub rows : ℕ
  pub joined : ℕ → ℕ → Bool
  pub framebuffer : List ℕ
  pub posts : Bool

-- A scene by rows, as the code has it: its pixels are those of all rows.
abbrev pub scene : Frame → List ℕ → Bool → Scene
scene f framebuffer posts = record {
  width = f.width;
  height = f.height;
  rows = f.rows;
  joined = λ x y. ltb x f.width && ltb y f.rows;
  framebuffer = framebuffer;
  posts = posts;
}

-- The pixel at place k is one of the rectangle's, and in the mode or offscreen.
unfoldable pub reached : Scene → Rect → ℕ → Bool
reached s r k = in_rect s.width r.x r.y r.w r.h k && s.joined (column_of s.width k) (row_of s.width k)

-- "Demand 2's copy rule reads 'in the mode or offscreen' for both pixels": the destination at place k, and its source.
unfoldable pub copies : Scene → Point → Rect → ℕ → Bool
copies s from r k = reached s r k && s.joined (source_column s.width from.x r.x k) (source_row s.width from.y r.y k)

-- Where the rows do not lie in the lent screen, a painter changes nothing; a device's always do.
abbrev pub rows_in : Scene → List ℕ → Bool
rows_in s screen = rows_fit s.width s.rows (length screen)

-- "UPDATE brings framebuffer pixels to the screen; fills and copies act on the screen alone". Document 02, P5: "Commands 2, 3, 13 and 14 may now read and
-- write offscreen rows: they are cut to the mode joined with P4's rectangle, in the lent screen. UPDATE and pictures keep to the mode."
unfoldable pub screen_after : Scene → Action → List ℕ → List ℕ
screen_after s (Update r) screen = updated s.width s.height r s.framebuffer screen
screen_after s (Fill r colour rop) screen = filled_in (rows_in s screen) (reached s r) colour rop screen
screen_after s (Copy from r rop) screen = copied_in (rows_in s screen) (copies s from r) s.width from.x from.y r rop screen
screen_after s (Define shape) screen = screen
screen_after s (Fence number) screen = screen
screen_after s Nothing screen = screen

-- "Commands 2, 3, 13 and 14": fills and copies.
abbrev pub Paints : Action → Type 0
Paints (Update r) = ⊥
Paints (Fill r colour rop) = Unit {0}
Paints (Copy from r rop) = Unit {0}
Paints (Define shape) = ⊥
Paints (Fence number) = ⊥
Paints Nothing = ⊥

-- "Fence: the last number executed."
unfoldable pub fence_after : Action → ℕ → ℕ
fence_after (Update r) fence = fence
fence_after (Fill r colour rop) fence = fence
fence_after (Copy from r rop) fence = fence
fence_after (Define shape) fence = fence
fence_after (Fence number) fence = number
fence_after Nothing fence = fence

-- "When MIN is 28 or more, an executed FENCE also writes its number to word 6; below that, as today." What word 6 holds, where fences are posted there.
unfoldable pub posted_after : Bool → Action → ℕ → ℕ
posted_after posts (Update r) posted = posted
posted_after posts (Fill r colour rop) posted = posted
posted_after posts (Copy from r rop) posted = posted
posted_after posts (Define shape) posted = posted
posted_after posts (Fence number) posted = cond posts number posted
posted_after posts Nothing posted = posted

-- A cursor command defines id, hotspot and size.
unfoldable pub defined_after : Action → Option Shape → Option Shape
defined_after (Update r) was = was
defined_after (Fill r colour rop) was = was
defined_after (Copy from r rop) was = was
defined_after (Define shape) was = Some shape
defined_after (Fence number) was = was
defined_after Nothing was = was

abbrev pub marks_after : Action → Marks → Marks
marks_after action m = record { fence = fence_after action m.fence; defined = defined_after action m.defined }

-- "Its pixels fill the first w·h cursor words, row by row; the rest stay." They stand behind the six words of the command's head.
unfoldable pub cursor_after : Action → List ℕ → List ℕ → List ℕ
cursor_after (Update r) words cursor = cursor
cursor_after (Fill r colour rop) words cursor = cursor
cursor_after (Copy from r rop) words cursor = cursor
cursor_after (Define shape) words cursor = take (shape.w * shape.h) (drop 6 words) ++ drop (shape.w * shape.h) cursor
cursor_after (Fence number) words cursor = cursor
cursor_after Nothing words cursor = cursor

-- The machine of straight execution. Fence and defined cursor are the device's; what is posted is ring memory.
pub record Machine : Type 0 where
  pub screen : List ℕ
  pub cursor : List ℕ
  pub marks : Marks
  pub posted : ℕ

-- What an action with its command's words leaves of a machine.
unfoldable pub done : Scene → Action → List ℕ → Machine → Machine
done s action words m = record {
  screen = screen_after s action m.screen;
  cursor = cursor_after action words m.cursor;
  marks = marks_after action m.marks;
  posted = posted_after s.posts action m.posted;
}
