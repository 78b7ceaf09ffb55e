-- What demand 1 for hosts rules out, by outcomes that are none; and a host that meets all conditions of demand 3.
-- Assumes nothing.
use Rattle.std.proofs.Common.{None, Some, ◌≡◌, refl, sym, ◌∙◌, ap, true, true≢false, List, [], ◌∷◌, ⊎_elim, ℕ, ◌≤◌, ◌<◌, arith, length, get_or, replicate}
use Rattle.ring.specs.declared.Ring.{Ring}
use Rattle.ring.specs.Acceptance.{offset_usable, bounds_usable, usable}
use Rattle.writer.specs.Writing.{Command}
use Rattle.device.specs.declared.Condition.TheVariants.{Running}
use Rattle.device.specs.Device.{sizes_good, well_formed}
use Rattle.device_run.specs.Run.{Lent, lent}
use Rattle.device_words.specs.Words.{defined_parts, condition_parts, words_of, defined_from, condition_from, device_from, spelled_in, held_in}
use Rattle.history.specs.Calls.{write, read, run, fence, append, submit}
use Rattle.history.specs.Demand.{is_start}
use Rattle.history.specs.Keeping.{starting}
use Rattle.svga_history.specs.WordCalls.{Host, host, world_in, HoldsDevice, outcome, perform_words_all, WordHost}
use Rattle.svga_history.specs.WordHarm.{SafeWords}
use Rattle.svga_history.proofs.Fitting.{one_more_lem, zero_words}
use Rattle.svga_history.proofs.AsAdapter.{held_by}
use Rattle.svga_history.proofs.DemandWords.{start_reached_words}

-- ---- words that hold no device

-- 64 zeros
zeros_hold_none : held_in (replicate 64 0) ≡ None
unfolding held_in spelled_in words_of device_from defined_parts condition_parts defined_from condition_from well_formed sizes_good
zeros_hold_none = refl

pub zeros_hold_no_device : (l : Lent) (output edges : List ℕ) → HoldsDevice (host (replicate 64 0) l output edges) → ⊥
zeros_hold_no_device l output edges there = true≢false (let p : None ≡ Some (device_from (replicate 64 0)) = sym zeros_hold_none ∙ there in cc)

-- any 63
pub too_few : (h : Host) → length h.device ≡ 63 → HoldsDevice h → ⊥
too_few h n there = omega (arith, (held_by h there).count)

-- ---- outcomes that are ruled out

-- a fence that answers 21
pub no_fence_21 : (h z : Host) (values : List ℕ) → SafeWords fence h (outcome 21 values z) → ⊥
no_fence_21 h z values s = true≢false (sym s.answered)

-- a write of a command that answers 1, as an append does
pub no_submit_1 : (c : Command) (h z : Host) (values : List ℕ) → SafeWords (submit c) h (outcome 1 values z) → ⊥
no_submit_1 c h z values s = true≢false (sym s.answered)

-- a refused write that changes a word
pub no_change : (h z : Host) (values : List ℕ) → (z ≡ h → ⊥) → SafeWords (write 2 5000) h (outcome 32 values z) → ⊥
no_change h z values other s = other (s.refused (omega arith))

-- a value of a refused read
pub no_value : (h z : Host) → SafeWords (read 3) h (outcome 30 (7 ∷ []) z) → ⊥
no_value h z s = omega (arith, s.refused_values (omega arith) 0)

-- a register read off 64 zeros
pub no_read : (l : Lent) (output edges values : List ℕ) (z : Host) → SafeWords (read 0) (host (replicate 64 0) l output edges) (outcome 0 values z) → ⊥
no_read l output edges values z s = omega (arith, s.not_lent (zeros_hold_no_device l output edges))

-- a fence that writes an edge; an append that loses a word of the device
pub no_edge : (device output values : List ℕ) (l : Lent)
    → SafeWords fence (host device l output (0 ∷ [])) (outcome 0 values (host device l output (1 ∷ []))) → ⊥
no_edge device output values l s = omega (arith, ap (λ (e : List ℕ). get_or e 0 0) s.edges)

pub no_loss : (output edges values : List ℕ) (l z : Lent) → SafeWords (append 7) (host (0 ∷ []) l output edges) (outcome 0 values (host [] z output edges)) → ⊥
no_loss output edges values l z s = omega (arith, ap (λ (w : List ℕ). length w) s.device)

-- a run that writes ring word 6 where the remembered MIN is below 28
pub no_posting : (h z : Host) (a budget : ℕ) (values : List ℕ) (g : Ring) → HoldsDevice h → (world_in h).device.condition ≡ Running g → g.min < 7
    → (get_or z.lent.ring 6 0 ≡ get_or h.lent.ring 6 0 → ⊥) → SafeWords (run budget) h (outcome a values z) → ⊥
no_posting h z a budget values g there is low other s =
    other ((s.lent there).ring.elsewhere 6 (⊎_elim (λ e. omega arith) (λ e. let n : 7 ≤ g.min = rw is at e.1 in omega arith)))

-- ---- a host that meets the conditions

-- 64 zeros, the smallest ring memory, empty, and 1,024 pixels
abbrev small : Host
small = host (replicate 64 0) (lent (16 ∷ 10256 ∷ 16 ∷ 16 ∷ replicate 2560 0) (replicate 1024 0) (replicate 1024 0) (replicate 4096 0)) [] []

small_words : WordHost small
small_words = record {
  device = zero_words 64;
  ring = one_more_lem (omega arith) (one_more_lem (omega arith) (one_more_lem (omega arith) (one_more_lem (omega arith) (zero_words 2560))));
}

-- svga_make and four svga_write lead to words that hold a device at a start
pub small_starts : HoldsDevice (perform_words_all (starting 10256 1024 32 32) small).host
    × (is_start (world_in (perform_words_all (starting 10256 1024 32 32) small).host) ≡ true)
unfolding sizes_good usable bounds_usable offset_usable
small_starts =
    let z = start_reached_words small 10256 1024 32 32 small_words refl refl (omega arith) (omega arith) (omega arith) (omega arith) (omega arith) refl
    refl refl refl refl refl in
    (z.1, z.2)
