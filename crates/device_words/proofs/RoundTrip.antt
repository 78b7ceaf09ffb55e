-- Reading back what was written gives the same device, and lent words that hold a device are exactly its words.
use Rattle.std.specs.Prelude.{Option, None, Some}
use Rattle.cursor.specs.declared.Shape.{Shape}
use mathlib.Core.Path.{◌≡◌, refl, sym}
use mathlib.Core.Bool.{Bool, true, false, false≢true, true≢false}
use mathlib.Core.List.{List, [], ◌∷◌}
use Prim.Native.Nat.{ℕ}
use lib.Dec.{eqb}
use lib.ListN.{length}
use borrow.Author.Tests.{eq-eqb, eqb-true}
use borrow.Table.Steps.{cases}
use Rattle.geometry.proofs.Tests.{both}
use Rattle.execution.specs.declared.Cause.TheVariants.{NotOffered, BadOperand, TooLong, BadNext}
use Rattle.device.specs.declared.Condition.{Condition}
use Rattle.device.specs.declared.Condition.TheVariants.{Idle, Running, Faulted}
use Rattle.device.specs.declared.Device.{Device}
use Rattle.device.specs.Device.{well_formed}
use Rattle.register_read.specs.Registers.{bit}
use Rattle.device_words.specs.Words.{defined_parts, condition_parts, words_of, defined_from, condition_from, device_from, same, spelled_in, held_in, HeldBy}

bit_back : (b : Bool) → eqb (bit b) 1 ≡ b
bit_back true = refl
bit_back false = refl

defined_back : (c : Option Shape) → defined_from (defined_parts c).tag (defined_parts c).shape ≡ c
unfolding defined_from defined_parts
defined_back None = refl
defined_back (Some s) = refl

condition_back : (c : Condition) → condition_from (condition_parts c).tag (condition_parts c).ring ≡ c
unfolding condition_from condition_parts
condition_back Idle = refl
condition_back (Running g) = refl
condition_back (Faulted NotOffered) = refl
condition_back (Faulted BadOperand) = refl
condition_back (Faulted TooLong) = refl
condition_back (Faulted BadNext) = refl

pub device_back : (d : Device) → device_from (words_of d) ≡ d
unfolding device_from words_of
device_back d =
    rw (bit_back d.registers.enable, bit_back d.registers.config, bit_back d.plane.shown, bit_back d.busy, defined_back d.marks.defined, condition_back d.condition)

same_itself : (l : List ℕ) → same l l ≡ true
same_itself [] = refl
same_itself (x ∷ l) = rw (eq-eqb x x refl) (same_itself l)

same_equal : (a b : List ℕ) → same a b ≡ true → a ≡ b
same_equal [] [] e = refl
same_equal [] (y ∷ b) e = absurd (false≢true e)
same_equal (x ∷ a) [] e = absurd (false≢true e)
same_equal (x ∷ a) (y ∷ b) e =
    let h = both (eqb x y) (same a b) e in
    rw (eqb-true x y h.0, same_equal a b h.1)

pub words_count : (d : Device) → length (words_of d) ≡ 64
unfolding words_of
words_count d = refl

-- Reading back what was written gives the same device.
pub read_back_lem : (d : Device) → well_formed d ≡ true → held_in (words_of d) ≡ Some d
unfolding held_in spelled_in
read_back_lem d m = rw (eq-eqb _ _ (words_count d), device_back d, same_itself (words_of d), m)

none_held : (d : Device) {P : Type 0} → ◌≡◌ {A = Option Device} None (Some d) → P
none_held d e = absurd (true≢false cc)

pub held_words : (w : List ℕ) (d : Device) → held_in w ≡ Some d → HeldBy w d
unfolding held_in spelled_in
held_words w d e =
    cases (eqb (length w) 64)
    (λ n. cases (same (words_of (device_from w)) w)
    (λ k. cases (well_formed (device_from w))
    (λ m.
    let h : Some (device_from w) ≡ Some d = rw (n, k, m) at e in
    let f : device_from w ≡ d = cc in
    record { count = eqb-true _ _ n; is_well_formed = rw f at m; its_words = same_equal _ _ (rw f at k) })
    (λ m. none_held d (rw (n, k, m) at e)))
    (λ k. none_held d (rw (n, k) at e)))
    (λ n. none_held d (rw n at e))

-- Words that spell a device are its own.
pub spelled_words : (w : List ℕ) (d : Device) → Some d ≡ spelled_in w → words_of d ≡ w
unfolding spelled_in
spelled_words w d e =
    cases (eqb (length w) 64)
    (λ n. cases (same (words_of (device_from w)) w)
    (λ k.
    let h : Some d ≡ Some (device_from w) = rw (n, k) at e in
    let f : d ≡ device_from w = cc in
    rw f (same_equal _ _ k))
    (λ k. none_held d (sym (rw (n, k) at e))))
    (λ n. none_held d (sym (rw n at e)))

-- What words spell and what they hold: the same, but for a device that no call can have made. So a call may read what they spell, if it answers for such a
-- device what it answers for none.
pub by_held : (w : List ℕ) (P : Option Device → Option Device → Type 0)
    → ((d : Device) → P (Some d) (Some d)) → ((d : Device) → well_formed d ≡ false → words_of d ≡ w → P (Some d) None) → P None None
    → P (spelled_in w) (held_in w)
unfolding held_in spelled_in
by_held w P good ill-formed none =
    cases (eqb (length w) 64)
    (λ n. cases (same (words_of (device_from w)) w)
    (λ k. cases (well_formed (device_from w))
    (λ m. rw (n, k, m) (good (device_from w)))
    (λ m. rw (n, k, m) (ill-formed (device_from w) m (same_equal _ _ k))))
    (λ k. rw (n, k) none))
    (λ n. rw n none)
