-- The registers by their numbers.
-- Assumes nothing.
use mathlib.Core.Path.{◌≡◌, refl, sym, ap, ◌∙◌}
use mathlib.Core.Bool.{Bool, true, ◌&&◌, and-eq-true_iff}
use mathlib.Core.List.{List, [], ◌∷◌, map}
use Prim.Native.Nat.{ℕ}
use native.Mathlib.Omega.{arith}
use lib.Dec.{eqb}
use lib.ListN.{get_or}
use borrow.Author.Tests.{eqb-true}
use borrow.Table.Steps.{cases}
use Rattle.register.specs.declared.Register.{Register}
use Rattle.register.specs.declared.Register.TheVariants.{Writes, Reads, Absent}
use Rattle.register.specs.declared.Writable.{Writable}
use Rattle.register.specs.declared.Writable.TheVariants.{Id, Enable, Width, Height, ConfigDone, Sync, GuestId, CursorId, CursorX, CursorY, CursorOn}
use Rattle.register.specs.declared.ReadOnly.TheVariants.{MaxWidth, MaxHeight, Depth, BitsPerPixel, Pseudocolor, RedMask, GreenMask, BlueMask, BytesPerLine, FbStart, FbOffset, VramSize, FbSize, Capabilities, MemStart, MemSize, Busy, HostBitsPerPixel}
use Rattle.register.specs.Numbers.{Numbered, numbers, among, register_of, number_of}

unfoldable pub table : List Register
table = map (λ n. n.register) numbers

pub by_number : (r : Register) → (register_of (number_of r) ≡ r) × (get_or table (number_of r) Absent ≡ r)
unfolding register_of numbers table
by_number (Writes Id) = (refl, refl)
by_number (Writes Enable) = (refl, refl)
by_number (Writes Width) = (refl, refl)
by_number (Writes Height) = (refl, refl)
by_number (Reads MaxWidth) = (refl, refl)
by_number (Reads MaxHeight) = (refl, refl)
by_number (Reads Depth) = (refl, refl)
by_number (Reads BitsPerPixel) = (refl, refl)
by_number (Reads Pseudocolor) = (refl, refl)
by_number (Reads RedMask) = (refl, refl)
by_number (Reads GreenMask) = (refl, refl)
by_number (Reads BlueMask) = (refl, refl)
by_number (Reads BytesPerLine) = (refl, refl)
by_number (Reads FbStart) = (refl, refl)
by_number (Reads FbOffset) = (refl, refl)
by_number (Reads VramSize) = (refl, refl)
by_number (Reads FbSize) = (refl, refl)
by_number (Reads Capabilities) = (refl, refl)
by_number (Reads MemStart) = (refl, refl)
by_number (Reads MemSize) = (refl, refl)
by_number (Writes ConfigDone) = (refl, refl)
by_number (Writes Sync) = (refl, refl)
by_number (Reads Busy) = (refl, refl)
by_number (Writes GuestId) = (refl, refl)
by_number (Writes CursorId) = (refl, refl)
by_number (Writes CursorX) = (refl, refl)
by_number (Writes CursorY) = (refl, refl)
by_number (Writes CursorOn) = (refl, refl)
by_number (Reads HostBitsPerPixel) = (refl, refl)
by_number Absent = (refl, refl)

pub numbered : (r : Register) → register_of (number_of r) ≡ r
numbered r = (by_number r).0

-- registers with one number are one
pub same_number : (w r : Writable) → number_of (Writes w) ≡ number_of (Writes r) → w ≡ r
same_number w r e = let q : Writes w ≡ Writes r = sym (numbered (Writes w)) ∙ ap register_of e ∙ numbered (Writes r) in cc

-- the table's numbers are those of its registers
abbrev right : List Numbered → Bool
right [] = true
right (r ∷ rs) = eqb (number_of r.register) r.number && right rs

among_number : (rs : List Numbered) → right rs ≡ true → (index : ℕ) → (among index rs ≡ Absent → ⊥) → index ≡ number_of (among index rs)
among_number [] t index n = absurd (n refl)
among_number (r ∷ rs) t index n =
    let b = (and-eq-true_iff (eqb (number_of r.register) r.number) (right rs)).0 t in
    cases (eqb index r.number)
    (λ y. rw y (eqb-true index r.number y ∙ sym (eqb-true _ _ b.0)))
    (λ f. rw f (among_number rs b.1 index (rw f at n)))

-- the index of a register that is there is its number
pub index_number : (index : ℕ) → (register_of index ≡ Absent → ⊥) → index ≡ number_of (register_of index)
unfolding register_of numbers
index_number = among_number numbers refl

pub writable_number : (index : ℕ) (w : Writable) → register_of index ≡ Writes w → index ≡ number_of (Writes w)
writable_number index w e = index_number index (λ a. let z : Writes w ≡ Absent = sym e ∙ a in let n : ◌≡◌ {A = ℕ} 0 1 = cc in omega arith) ∙ ap number_of e
