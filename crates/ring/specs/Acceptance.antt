-- When ring words are accepted: document 01, "Registers", CONFIG_DONE 1.
use Rattle.std.specs.Prelude.{ℕ, ◌+◌, ◌*◌, ◌/◌, ◌%◌, ◌≤◌, ◌<◌, ◌≡◌, Bool, cond, ◌&&◌, List, eqb, ltb, leb, length, get_or, Option, Some, None}
use Rattle.ring.specs.declared.Ring.{Ring}

-- "Ring words 0 to 3 are MIN, MAX, NEXT_CMD, STOP, in bytes"
abbrev pub min_of : List ℕ → ℕ
min_of ring = get_or ring 0 0

abbrev pub max_of : List ℕ → ℕ
max_of ring = get_or ring 1 0

abbrev pub next_of : List ℕ → ℕ
next_of ring = get_or ring 2 0

abbrev pub stop_of : List ℕ → ℕ
stop_of ring = get_or ring 3 0

-- "M is a multiple of 4 from 10,256 to 2,097,152": the largest ring memory, in words
abbrev pub max_words : ℕ
max_words = 524288

-- "MAX − MIN ≥ 10,240": the least size of a ring, in bytes and in words
abbrev pub least_bytes : ℕ
least_bytes = 10240

abbrev pub least_words : ℕ
least_words = 2560

-- "All are multiples of 4; .. NEXT_CMD and STOP lie from MIN to below MAX"
unfoldable pub offset_usable : ℕ → ℕ → ℕ → Bool
offset_usable min max offset = eqb (offset % 4) 0 && (leb min offset && ltb offset max)

-- "All are multiples of 4; MIN ≥ 16; MAX ≤ M; MAX − MIN ≥ 10,240". M is four times the words of the ring memory.
unfoldable pub bounds_usable : ℕ → ℕ → ℕ → Bool
bounds_usable words min max = eqb (min % 4) 0 && (eqb (max % 4) 0 && (leb 16 min && (leb max (4 * words) && leb (min + least_bytes) max)))

unfoldable pub usable : List ℕ → Bool
usable ring =
    leb 4 (length ring)
    && (bounds_usable (length ring) (min_of ring) (max_of ring)
    && (offset_usable (min_of ring) (max_of ring) (next_of ring) && offset_usable (min_of ring) (max_of ring) (stop_of ring)))

-- The same for readers, condition by condition, in bytes: `ring/Laws.usable_when` and `ring/Laws.when_usable` say that the test passes exactly there.
pub record Usable (ring : List ℕ) : Type 0 where
  -- "Ring words 0 to 3 are MIN, MAX, NEXT_CMD, STOP": they are there
  pub there : 4 ≤ length ring
  -- "All are multiples of 4"
  pub min_word : min_of ring % 4 ≡ 0
  pub max_word : max_of ring % 4 ≡ 0
  pub next_word : next_of ring % 4 ≡ 0
  pub stop_word : stop_of ring % 4 ≡ 0
  -- "MIN ≥ 16; MAX ≤ M; MAX − MIN ≥ 10,240"
  pub low : 16 ≤ min_of ring
  pub fits : max_of ring ≤ 4 * length ring
  pub size : min_of ring + 10240 ≤ max_of ring
  -- "NEXT_CMD and STOP lie from MIN to below MAX"
  pub next_low : min_of ring ≤ next_of ring
  pub next_high : next_of ring < max_of ring
  pub stop_low : min_of ring ≤ stop_of ring
  pub stop_high : stop_of ring < max_of ring

-- "else 33. Accepted: MIN, MAX and STOP are remembered": here in words, a quarter of the bytes.
unfoldable pub accepted : List ℕ → Option Ring
accepted ring =
    cond (usable ring) (Some (record { min = min_of ring / 4; max = max_of ring / 4; stop = stop_of ring / 4 })) None
