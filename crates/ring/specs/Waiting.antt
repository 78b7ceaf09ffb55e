-- The words that wait in a ring: document 01, "One command out of the ring". Places and numbers of words are in words of the ring memory, not in bytes:
-- the ring is from lo to below hi.
use Rattle.std.specs.Prelude.{Bool, cond, ◌&&◌, List, [], ◌∷◌, ℕ, zero, suc, ◌+◌, ◌-◌, ◌/◌, ◌%◌, get_or, eqb, ltb, leb}
use Rattle.ring.specs.declared.Ring.{Ring}
use Rattle.ring.specs.Acceptance.{least_words}

-- "Words wrap from MAX to MIN": the place after p
unfoldable pub after : ℕ → ℕ → ℕ → ℕ
after lo hi p = cond (ltb (suc p) hi) (suc p) lo

-- "Words wrap from MAX to MIN": the place k words on from p, for k at most hi - lo
unfoldable pub ahead : ℕ → ℕ → ℕ → ℕ → ℕ
ahead lo hi p k = cond (ltb (p + k) hi) (p + k) (p + k - (hi - lo))

-- "Words wrap from MAX to MIN": how many words lie from p up to q
unfoldable pub between : ℕ → ℕ → ℕ → ℕ → ℕ
between lo hi p q = cond (leb p q) (q - p) (q + (hi - lo) - p)

-- "Words wrap from MAX to MIN": the n words from p on
unfoldable pub words : List ℕ → ℕ → ℕ → ℕ → ℕ → List ℕ
words ring lo hi p zero = []
words ring lo hi p (suc n) = get_or ring p 0 ∷ words ring lo hi (after lo hi p) n

-- The words that wait: those from STOP up to NEXT_CMD; "NEXT_CMD = STOP: 0", none.
unfoldable pub waiting : List ℕ → ℕ → ℕ → ℕ → ℕ → List ℕ
waiting ring lo hi stop next = words ring lo hi stop (between lo hi stop next)

-- "The ring holds (MAX − MIN)/4 words and carries one fewer"
abbrev pub carried : ℕ → ℕ → ℕ
carried lo hi = hi - lo - 1

-- A remembered ring lies in a ring memory of so many words as acceptance asks: "MIN ≥ 16; MAX ≤ M; MAX − MIN ≥ 10,240; .. STOP lie
-- from MIN to below MAX", all in words.
unfoldable pub placed : Ring → ℕ → Bool
placed g words =
    leb 4 g.min && (leb g.max words && (leb (g.min + least_words) g.max && (leb g.min g.stop && ltb g.stop g.max)))

-- "NEXT_CMD not a multiple of 4 or outside the ring: 13."
unfoldable pub next_good : Ring → ℕ → Bool
next_good g next = eqb (next % 4) 0 && (leb g.min (next / 4) && ltb (next / 4) g.max)
