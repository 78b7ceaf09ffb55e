-- Rows and parts of rows: what the inner functions of the painters do. Nothing here has to be believed.
use Rattle.std.specs.Prelude.{ℕ, ◌+◌, ◌-◌, ◌*◌, ◌≤◌, List, Bool, true, false, cond, eqb, ltb, get_or}
use Rattle.geometry.specs.Pixels.{within, painted}

-- The n places from to on get f of those from from on and what stood there, all read first.
unfoldable pub moved : ℕ → ℕ → ℕ → (ℕ → ℕ → ℕ) → List ℕ → List ℕ
moved from to n f old = painted (within to n) (λ k. f (get_or old (k - to + from) 0) (get_or old k 0)) old

-- The next k of n, of which some are done: those behind them, or, from the back, those before them.
abbrev pub next : Bool → ℕ → ℕ → ℕ → ℕ
next back n done k = cond back (n - done - k) done

-- Where the done ones begin.
abbrev pub done_from : Bool → ℕ → ℕ → ℕ
done_from back n done = cond back (n - done) 0

-- w by h pixels at (x, y) lie in the rows of width pixels that n words hold.
pub record Inside (width x y w h n : ℕ) : Type 0 where
  pub across : x + w ≤ width
  pub down : (y + h) * width ≤ n

-- A copy may go from the back where its destinations are not before their sources, and from the front where they are not behind them.
abbrev pub Ordered : Bool → ℕ → ℕ → Type 0
Ordered true from to = from ≤ to
Ordered false from to = to ≤ from

-- The pixel (x, y) comes after (sx, sy), row by row.
abbrev pub after : ℕ → ℕ → ℕ → ℕ → Bool
after sx sy x y = cond (eqb sy y) (ltb sx x) (ltb sy y)
