-- Document 01, "Numbers to hold against it": "Cases 1 to 10 are proved about the definitions as a single list with one claim".
-- The definitions are those that the contracts of `raster`, `pixel`, `command`, `run`, `cursor`, `register_read` and `adapter` cite.
use Rattle.std.specs.Prelude.{ℕ, ◌≡◌, false, List, [], ◌∷◌, ◌++◌, map, ℤ, pos, nat_abs, replicate, None}
use Rattle.std.specs.Int.Signed.{lt_z}
use Rattle.geometry.specs.declared.Rect.{Rect}
use Rattle.pixel.specs.RasterOperation.{raster_op}
use Rattle.pixel.specs.Blend.{red_of, green_of, blue_of, blend_pixel}
use Rattle.raster.specs.Painters.{filled, copied}
use Rattle.cursor.specs.Plane.{corner_of, offset_at, covers}
use Rattle.execution.specs.Table.{turn_of}
use Rattle.execution.specs.Claim.{answer_number}
use Rattle.execution.specs.Turns.{runs}
use Rattle.ring.specs.Waiting.{carried}
use Rattle.command.specs.Commands.{size_by, kind_in}
use Rattle.effect.specs.Effects.{scene}
use Rattle.run.specs.Run.{machine, table}
use Rattle.register_read.specs.Registers.{bit}
use Rattle.adapter.specs.Fence.{fence_passed}

-- A case: numbers that the definitions give, and the paper's. A truth is 1 or 0.
pub record Case : Type 0 where
  pub gives : List ℕ
  pub paper : List ℕ

infix 3 ◌is◌
abbrev pub ◌is◌ : List ℕ → List ℕ → Case
gives is paper = record { gives = gives; paper = paper }

-- The one claim: in each case the two are equal.
abbrev pub AllEqual : List Case → Type 0
AllEqual [] = Unit {0}
AllEqual (c ∷ cs) = (c.gives ≡ c.paper) × AllEqual cs

abbrev pub rect : ℕ → ℕ → ℕ → ℕ → Rect
rect x y w h = record { x = x; y = y; w = w; h = h }

abbrev pub screen : List ℕ
screen = 1 ∷ 2 ∷ 3 ∷ 4 ∷ []

-- The words that the smallest ring carries, with MIN 16 and MAX 10,256 bytes.
abbrev pub smallest : ℕ
smallest = carried 4 2564

-- The heads of a cursor of w by h, with id 1 and hotspot 0, and of an escape; and n words that may follow.
abbrev pub cursor_head : ℕ → ℕ → List ℕ
cursor_head w h = 22 ∷ 1 ∷ 0 ∷ 0 ∷ w ∷ h ∷ []

abbrev pub escape_head : ℕ → List ℕ
escape_head bytes = 33 ∷ 0 ∷ bytes ∷ []

abbrev pub zeros : ℕ → List ℕ
zeros n = replicate n 0

-- All words of the command with this head.
abbrev pub size : List ℕ → ℕ
size head = size_by (kind_in head) head

-- What a run of this budget answers where these words wait in the smallest ring.
abbrev pub answer_with : ℕ → List ℕ → ℕ
answer_with budget waiting =
    answer_number
    (runs (turn_of smallest (table (scene (record { width = 4; height = 1; rows = 1 }) [] false))) budget
    (record { words = waiting; machine = machine (record { fence = 0; defined = None }) screen [] 0 })).answer

-- And one of budget 1: 2 where it executes a command, 1 where it waits for the rest of it.
abbrev pub answer : List ℕ → ℕ
answer waiting = answer_with 1 waiting

-- The corner of case 9, X 4294967295 and hotspot 0.
abbrev pub corner : ℤ
corner = corner_of 4294967295 0

unfoldable pub cases : List Case
cases =
    -- 1. "Mode 4 by 1, screen 1 2 3 4, copy (0,0) to (1,0), 4 by 1: 1 1 2 3."
    (copied 4 1 0 0 (rect 1 0 4 1) 3 screen is 1 ∷ 1 ∷ 2 ∷ 3 ∷ [])
    -- 2. "Same screen, copy (2,0) to (0,0), 4 by 1: 3 4 3 4."
    ∷ (copied 4 1 2 0 (rect 0 0 4 1) 3 screen is 3 ∷ 4 ∷ 3 ∷ 4 ∷ [])
    -- 3. "Fill at y 4294967295, h 2: nothing painted."
    ∷ (filled 4 1 (rect 0 4294967295 4 2) 5 3 screen is screen)
    -- 4. "Rop 6, colour 5 on 3: 6. Rop 2: 4. Rop 8, 0 on 0: 4294967295."
    ∷ (raster_op 6 5 3 ∷ raster_op 2 5 3 ∷ raster_op 8 0 0 ∷ [] is 6 ∷ 4 ∷ 4294967295 ∷ [])
    -- 5. "Smallest ring, cursor 50 by 51: 2,556 words, fits 2,559. 51 by 51: 2,607, fault 12." The first is executed; with its head alone it waits.
    ∷ (size (cursor_head 50 51)
    ∷ smallest
    ∷ answer (cursor_head 50 51 ++ zeros 2550)
    ∷ answer (cursor_head 50 51)
    ∷ size (cursor_head 51 51)
    ∷ answer (cursor_head 51 51)
    ∷ []
    is 2556 ∷ 2559 ∷ 2 ∷ 1 ∷ 2607 ∷ 12 ∷ [])
    -- 6. "Cursor 64 by 1 is fine; 65 by 1 and 0 by 1: fault 11."
    ∷ (answer (cursor_head 64 1 ++ zeros 64) ∷ answer (cursor_head 65 1) ∷ answer (cursor_head 0 1) ∷ [] is 2 ∷ 11 ∷ 11 ∷ [])
    -- 7. "ESCAPE sizes 0, 1, 10,224 in the smallest ring: 3, 4, 2,559 words. 10,225: fault 12." The largest that fits is executed.
    ∷ (size (escape_head 0)
    ∷ size (escape_head 1)
    ∷ size (escape_head 10224)
    ∷ answer (escape_head 10224 ++ zeros 2556)
    ∷ answer (escape_head 10225)
    ∷ []
    is 3 ∷ 4 ∷ 2559 ∷ 2 ∷ 12 ∷ [])
    -- 8. "Blend a 128, cursor 255, below 0: 128." In each of the three colours.
    ∷ (red_of (blend_pixel 0x80FFFFFF 0) ∷ green_of (blend_pixel 0x80FFFFFF 0) ∷ blue_of (blend_pixel 0x80FFFFFF 0) ∷ [] is 128 ∷ 128 ∷ 128 ∷ [])
    -- 9. "X 4294967295, hotspot 0, width 2: columns −1 and 0." The corner is below 0, by 1. Of the columns 0 to 3 of a picture only 0 is covered, and
    -- by the cursor's column 1.
    ∷ (bit (lt_z corner (pos 0)) ∷ nat_abs corner ∷ map (λ k. bit (covers corner 2 k)) (0 ∷ 1 ∷ 2 ∷ 3 ∷ []) ++ nat_abs (offset_at corner 0) ∷ []
    is 1 ∷ 1 ∷ 1 ∷ 0 ∷ 0 ∷ 0 ∷ 1 ∷ [])
    -- 10. "Last fence 1: fence 4294967295 passed, fence 2 not."
    ∷ (bit (fence_passed 1 4294967295) ∷ bit (fence_passed 1 2) ∷ [] is 1 ∷ 0 ∷ [])
    ∷ []
