-- Document 01's impostors are caught, and right answers are not.
-- Assumes nothing.
use mathlib.Core.Path.{◌≡◌, refl, sym, ap, ◌∙◌}
use mathlib.Core.Option.{Option}
use mathlib.Core.List.{List, [], ◌∷◌, ◌++◌}
use Prim.Native.Nat.{ℕ, zero, suc, ◌≤◌, min}
use native.Mathlib.Omega.{arith}
use lib.ListN.{length, get_or}
use borrow.Table.Steps.{cases}
use Rattle.geometry.specs.Pixels.{tabulate, painted, painted_if}
use Rattle.pixel.specs.Blend.{blend_pixel}
use Rattle.raster.specs.Painters.{rows_fit}
use Rattle.cursor.specs.Plane.{shape_good, covers, covered, cursor_pixel}
use Rattle.picture.specs.Picture.{covered_by, pixel_over, picture_pixel, composed}
use Rattle.execution.specs.declared.Cause.{Cause}
use Rattle.execution.specs.declared.Cause.TheVariants.{NotOffered, BadOperand, TooLong, BadNext}
use Rattle.execution.specs.declared.End.{End}
use Rattle.execution.specs.declared.End.TheVariants.{Drained, Waiting, Fault}
use Rattle.execution.specs.Straight.{end_number, Turn, ends, exec, Line, beyond, next, steps, straight, whole}
use Rattle.execution.specs.Table.{unless, turn_of}
use Rattle.execution.specs.Claim.{run, spent, standing, ended, Reply, ran, answer_number, taken, counted, met_end, met, faulted, first, fed, count_all, standing_fault, says}
use Rattle.execution.specs.Turns.{runs}
use Rattle.execution.specs.Queue.{fresh, offer, try, act, play}
use Rattle.execution.proofs.QueueLaws.{runs_ends, runs_exec, demand3}
use Rattle.command.specs.Commands.{entry, kind_of, commands}
use Rattle.command.proofs.Laws.{command_laws}
use Rattle.effect.specs.declared.Marks.{Marks}
use Rattle.effect.specs.Effects.{Scene, Machine, screen_after, cursor_after, fence_after, posted_after, defined_after}
use Rattle.effect.specs.Effects as E
use Rattle.ring.specs.declared.Ring.{Ring}
use Rattle.ring.specs.Acceptance.{next_of}
use Rattle.ring.specs.Waiting.{after, ahead, between, words, waiting, placed, next_good}
use Rattle.run.specs.Run.{known_of, turn_in, stamped, posting, posted_in, left, run_words, fitting, run_in}
use Rattle.device.specs.declared.Condition.TheVariants.{Running}
use Rattle.device.specs.Device.{sizes_good, mode_good, condition_good, defined_good, well_formed}
use Rattle.device_run.specs.Run.{lent_good, condition_after, busy_after, run_by, run_of}
use Rattle.device_run.proofs.RunLaws.{run_by_lem}
use Rattle.adapter.specs.Picture.{Pictured, cursor_over, lengths_good, picture_of}
use Rattle.cases.specs.Cases.{smallest}
use Rattle.cases.specs.Impostors.{fence, answering, fence_in, Claimed, RefusesEverything, AlwaysDrained, TouchesNothing, WholeRingAtOnce, CountFromTheAir, RightIsNotCaught}
use Rattle.cases.specs.Impostors.{NotRefused, OneFence, OnePosted, shows, BareScreen}

module _ (s : Scene) (m : Machine) where
  -- one command waits behind a FENCE's two appends, and so a run of budget b counts the smaller of b and 1
  one_waits : (b : ℕ) (r : Reply) (z : Line Machine) (f : Option Cause) → Claimed s m (answering r (fence 7 ++ run b ∷ [])) z f → counted r ≡ min b 1
  unfolding steps straight whole unless turn_of taken counted faulted first fed count_all standing_fault says entry kind_of commands
  one_waits b r z f d = ap counted (d.answers (answering r (fence 7)) [] (record { op = run b; reply = r }) refl)

  pub refuses_everything : RefusesEverything s m
  unfolding counted
  refuses_everything z f tt d = let n : ◌≡◌ {A = ℕ} 0 1 = one_waits 1 (ran standing 0) z f d in omega arith

  pub always_drained : AlwaysDrained s m
  unfolding counted
  always_drained z f tt d = let n : ◌≡◌ {A = ℕ} 0 1 = one_waits 1 (ran (ended Drained) 0) z f d in omega arith

  pub count_from_the_air : CountFromTheAir s m
  unfolding counted
  count_from_the_air z f tt d = let n : ◌≡◌ {A = ℕ} 2 1 = one_waits 2 (ran spent 2) z f d in omega arith

  -- after one command the fence is 7, whatever else waits
  pub touches_nothing : TouchesNothing s m
  unfolding straight unless turn_of taken counted fed count_all entry kind_of commands E.done fence_after defined_after
  touches_nothing other-before z f same d =
      let new : fence_in z ≡ 7 = ap fence_in d.same in
      let old : fence_in z ≡ m.marks.fence = ap (λ (x : Marks). x.fence) same.2 in
      other-before (sym old ∙ new)

  pub whole_ring_at_once : WholeRingAtOnce s m
  unfolding straight unless turn_of taken counted fed count_all entry kind_of commands E.done fence_after defined_after
  whole_ring_at_once z f eight d = let seven : fence_in z ≡ 7 = ap fence_in d.same in omega arith

  pub right_is_not_caught : RightIsNotCaught s m
  unfolding play act offer try fresh met_end met runs unless turn_of entry kind_of commands E.done fence_after defined_after
  right_is_not_caught caught =
      caught _ _ refl (demand3 (command_laws known_of (E.done s) smallest (omega arith)) m (omega arith) (fence 7 ++ run 2 ∷ []))

end_number_lem : (e : End) → end_number e ≤ 13
end_number_lem Drained = omega arith
end_number_lem Waiting = omega arith
end_number_lem (Fault NotOffered) = omega arith
end_number_lem (Fault BadOperand) = omega arith
end_number_lem (Fault TooLong) = omega arith
end_number_lem (Fault BadNext) = omega arith

-- no turn's answer is 23
runs_number : {S : Type 0} (turn : S → List ℕ → Turn S) (b : ℕ) (a : Line S) → answer_number (runs turn b a).answer ≤ 13
unfolding runs
runs_number turn zero a = omega arith
runs_number {S} turn (suc b) a = go (next turn a) refl (λ n s. runs_number turn b (beyond a n s))
  where
    go : (t : Turn S) → next turn a ≡ t → ((n : ℕ) (s : S) → answer_number (runs turn b (beyond a n s)).answer ≤ 13) → answer_number (runs turn (suc b) a).answer ≤ 13
    go (ends e) q ih = rw (runs_ends turn b a e q) (end_number_lem e)
    go (exec n s) q ih = rw (runs_exec turn b a n s q) (ih n s)

run_number_lem : (s : Scene) (g : Ring) (budget : ℕ) (ring : List ℕ) (m : Machine) → answer_number (run_in s g budget ring m).answer ≤ 13
unfolding run_in run_words left
run_number_lem s g budget ring m =
    cases (fitting g (length ring) (length m.cursor))
    (λ e. rw e (runs_number (turn_in s g (next_of ring)) budget _))
    (λ e. rw e (omega arith))

pub not_refused : NotRefused
unfolding run_by
not_refused d l budget c =
    rw (run_by_lem d l budget (Running c.place) c.well c.right c.configured c.enabled c.fits c.running)
    (run_number_lem _ c.place budget l.ring _)

pub one_fence : OneFence
unfolding sizes_good mode_good condition_good defined_good well_formed lent_good run_of run_by condition_after busy_after run_in run_words left stamped posting posted_in fitting placed next_good turn_in after ahead between words waiting runs unless turn_of entry kind_of commands E.done screen_after cursor_after fence_after posted_after defined_after
one_fence rest framebuffer screen cursor r f s c = rw (r, f, s, c)

pub one_posted : OnePosted
unfolding sizes_good mode_good condition_good defined_good well_formed lent_good run_of run_by condition_after busy_after run_in run_words left stamped posting posted_in fitting placed next_good turn_in after ahead between words waiting runs unless turn_of entry kind_of commands E.done screen_after cursor_after fence_after posted_after defined_after
one_posted rest framebuffer screen cursor r f s c = rw (r, f, s, c)

-- the blue pixel of the cursor
pub picture_shown : (rest : List ℕ) → length rest ≡ 4095 → picture_of shows (0 ∷ []) (0xFF0000FF ∷ rest) (0 ∷ []) ≡ record { answer = 0; output = 255 ∷ [] }
unfolding sizes_good mode_good condition_good defined_good well_formed cursor_over lengths_good picture_of shape_good composed rows_fit painted_if painted tabulate picture_pixel covered_by covered covers pixel_over cursor_pixel blend_pixel
picture_shown rest e = rw e

pub bare_screen : BareScreen
bare_screen rest e q =
    let n : ◌≡◌ {A = ℕ} 255 0 = ap (λ (o : List ℕ). get_or o 0 0) (sym (ap (λ (p : Pictured). p.output) (picture_shown rest e)) ∙ q) in
    omega arith
