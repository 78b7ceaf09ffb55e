-- Words stored into a ring one behind the other, ring words 0 to 3 left as they are.
use Rattle.std.specs.Prelude.{ℕ, ◌≤◌, ◌<◌, cond, List, [], ◌∷◌, set, Option, Some, None}
use Rattle.command.specs.Commands.{size_by, kind_in}
use Rattle.command.specs.Findings.{data_of}
use Rattle.ring.specs.Waiting.{after, ahead}
use Rattle.writer.specs.declared.Asked.{Asked}
use Rattle.writer.specs.declared.Place.{Place}
use Rattle.writer.specs.Writing.{is_command, pixels_asked, bytes_asked}

-- The word that lies n words on from a place.
abbrev pub behind : Place → ℕ → ℕ
behind p n = ahead p.lo p.hi p.at n

-- A place of a ring that lies in a memory of m words.
pub record InPlace (p : Place) (m : ℕ) : Type 0 where
  pub from : p.lo ≤ p.at
  pub below : p.at < p.hi
  pub fits : p.hi ≤ m

-- Words from place p of the ring on; the ring is from lo to below hi.
unfoldable pub laid : ℕ → ℕ → ℕ → List ℕ → List ℕ → List ℕ
laid lo hi p [] ring = ring
laid lo hi p (x ∷ w) ring = laid lo hi (after lo hi p) w (set ring p x)

-- What a head asks for: nothing where it is no command's.
unfoldable pub asked : ℕ → List ℕ → Option Asked
asked cap head =
    cond (is_command cap head)
    (Some (record {
      words = size_by (kind_in head) head;
      pixels = pixels_asked (data_of (kind_in head)) head;
      bytes = bytes_asked (data_of (kind_in head)) head;
    }))
    None
