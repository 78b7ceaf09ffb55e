-- Laws of lent words: what is written into them, and calls on the device that they spell.
use Rattle.std.specs.Prelude.{Option, Result}
use mathlib.Core.Path.{◌≡◌, refl, ◌∙◌}
use mathlib.Core.List.{List, [], ◌∷◌}
use Prim.Native.Nat.{ℕ}
use native.Mathlib.Omega.{arith}
use lib.ListN.{length, set}
use borrow.Author.Tests.{eq-eqb}
use Rattle.device.specs.declared.Device.{Device}
use Rattle.register_write.proofs.Refusals.{ill_formed_write}
use Rattle.register_read.specs.Registers.{read_of}
use Rattle.device_run.specs.declared.Ran.{Ran}
use Rattle.device_run.specs.declared.RunError.{RunError}
use Rattle.device_run.specs.Run.{Lent, lent, RunOutcome, ran_of, run_of}
use Rattle.adapter.specs.Picture.{picture_of}
use Rattle.device_words.specs.Words.{words_of, spelled_in, only_well_formed, held_in, put_in}
use Rattle.device_words.proofs.RoundTrip.{by_held}
use Rattle.svga.specs.Calls.{write_held, svga_write, read_held, svga_read, run_held, svga_run, picture_held, svga_picture, edges_held, svga_offscreen, fence_held, svga_fence, passed_held, svga_passed}

-- A device put into 64 words leaves its own.
pub put_whole : (w : List ℕ) (d : Device) → length w ≡ 64 → (after : List ℕ) → after ≡ put_in w d → after ≡ words_of d
unfolding put_in
put_whole w d n after e = e ∙ rw (eq-eqb (length w) 64 n)

pub four_stored : (l : List ℕ) (a b c d : ℕ) → length l ≡ 4 → set (set (set (set l 0 a) 1 b) 2 c) 3 d ≡ a ∷ b ∷ c ∷ d ∷ []
four_stored [] a b c d e = absurd (omega (arith, e))
four_stored (w ∷ []) a b c d e = absurd (omega (arith, e))
four_stored (w ∷ x ∷ []) a b c d e = absurd (omega (arith, e))
four_stored (w ∷ x ∷ y ∷ []) a b c d e = absurd (omega (arith, e))
four_stored (w ∷ x ∷ y ∷ z ∷ []) a b c d e = refl
four_stored (w ∷ x ∷ y ∷ z ∷ v ∷ l) a b c d e = absurd (omega (arith, e))

-- Equal memories hold the same.
pub ran_equal : (d : Device) (r : Result Ran RunError) (o : RunOutcome) {ring framebuffer screen cursor ring' framebuffer' screen' cursor' : List ℕ}
    → ran_of d r (lent ring framebuffer screen cursor) ≡ o → ring' ≡ ring → framebuffer' ≡ framebuffer → screen' ≡ screen → cursor' ≡ cursor
    → ran_of d r (lent ring' framebuffer' screen' cursor') ≡ o
ran_equal d r o e p q s t = rw (p, q, s, t) e

-- ---- the device that 64 words spell: these calls answer for one that no call can have made what they answer for none

module _ (w : List ℕ) (spelled : Option Device) (whole : length w ≡ 64) (is : spelled ≡ spelled_in w) where
  pub svga_write_held : (ring : List ℕ) (index value : ℕ) → write_held w ring index value spelled ≡ svga_write w ring index value
  unfolding write_held svga_write
  svga_write_held ring index value =
      rw (is, eq-eqb (length w) 64 whole)
      (by_held w (λ s h. write_held w ring index value s ≡ write_held w ring index value h) (λ d. refl) (λ d f e. rw (ill_formed_write d ring index value f, e)) refl)

  pub svga_read_held : (index : ℕ) → read_held index spelled ≡ svga_read w index
  unfolding read_held svga_read read_of
  svga_read_held index =
      rw (is, eq-eqb (length w) 64 whole) (by_held w (λ s h. read_held index s ≡ read_held index h) (λ d. refl) (λ d f e. rw f) refl)

  pub svga_run_held : (l : Lent) (budget : ℕ) → run_held w l budget spelled ≡ svga_run w l budget
  unfolding run_held svga_run run_of
  svga_run_held l budget =
      rw (is, eq-eqb (length w) 64 whole) (by_held w (λ s h. run_held w l budget s ≡ run_held w l budget h) (λ d. refl) (λ d f e. rw (f, e)) refl)

  pub svga_picture_held : (screen image output : List ℕ) → picture_held screen image output spelled ≡ svga_picture w screen image output
  unfolding picture_held svga_picture picture_of
  svga_picture_held screen image output =
      rw (is, eq-eqb (length w) 64 whole)
      (by_held w (λ s h. picture_held screen image output s ≡ picture_held screen image output h) (λ d. refl) (λ d f e. rw f) refl)
