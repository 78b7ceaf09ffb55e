-- A device's picture: document 01, "The cursor plane".
use Rattle.std.specs.Prelude.{ℕ, Bool, cond, ◌&&◌, List, length, ◌==◌, Option, None, Some, Result, Ok, Err}
use Rattle.cursor.specs.declared.Shape.{Shape}
use Rattle.picture.specs.declared.VisibleCursor.{VisibleCursor}
use Rattle.picture.specs.Picture.{composed}
use Rattle.cursor.specs.Plane.{image_words}
use Rattle.device.specs.declared.Device.{Device}
use Rattle.device.specs.Device.{pixels_of, width_of, height_of, defined_of, mode_fits, well_formed}
use Rattle.adapter.specs.declared.PictureError.{PictureError}
use Rattle.adapter.specs.declared.PictureError.TheVariants.{WrongLength, TooLarge}

-- picture: 0 taken, 20 lent length, 24 width·height above P
abbrev pub picture_number : Result (Unit {0}) PictureError → ℕ
picture_number (Ok t) = 0
picture_number (Err WrongLength) = 20
picture_number (Err TooLarge) = 24

-- A picture answers a number and leaves an output.
pub record Pictured : Type 0 where
  pub answer : ℕ
  pub output : List ℕ

abbrev pub pictured : Result (Unit {0}) PictureError → List ℕ → Pictured
pictured a output = record { answer = picture_number a; output = output }

-- "In a picture the cursor appears if shown and its remembered id is that of the defined cursor": at the remembered X and Y.
unfoldable pub cursor_over : Device → Option Shape → Option VisibleCursor
cursor_over d None = None
cursor_over d (Some s) =
    cond d.plane.shown (cond (d.plane.id == s.id) (Some (record { shape = s; x = d.plane.x; y = d.plane.y })) None) None

-- "the screen (P), the cursor image (4,096), and for a finished picture an output (P)"
unfoldable pub lengths_good : ℕ → ℕ → ℕ → ℕ → Bool
lengths_good pixels screen image output = screen == pixels && (image == image_words && output == pixels)

-- "a picture 20, 24"; 24 is "width·height above P". A device that no call can have made answers 24.
unfoldable pub picture_of : Device → List ℕ → List ℕ → List ℕ → Pictured
picture_of d screen image output =
    cond (well_formed d)
    (cond (lengths_good (pixels_of d) (length screen) (length image) (length output))
    (cond (mode_fits d)
    (record { answer = 0; output = composed (width_of d) (height_of d) (cursor_over d (defined_of d)) screen image output })
    (record { answer = 24; output = output }))
    (record { answer = 20; output = output }))
    (record { answer = 24; output = output })
