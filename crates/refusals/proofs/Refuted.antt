-- The rules that readers' theorems are stated with are not met by everything: each refuses what documents 01 and 02 do, and an if and only if with
-- it says something.
-- Assumes nothing.
use mathlib.Core.Path.{◌≡◌, refl, sym, ap, subst, ◌∙◌}
use mathlib.Core.Bool.{true, false, false≢true, true≢false}
use mathlib.Core.List.{List, [], ◌∷◌}
use mathlib.Core.Logic.{⊎_elim}
use Prim.Native.Nat.{ℕ, suc, ◌*◌, ◌≤◌}
use native.Mathlib.Omega.{arith}
use lib.ListN.{length, get_or}
use borrow.Author.Tests.{le-leb}
use Rattle.ring.specs.declared.Ring.{Ring}
use Rattle.ring.specs.Acceptance.{min_of, max_of, next_of, stop_of, Usable}
use Rattle.ring.specs.Append.{moved_on}
use Rattle.register.specs.declared.Writable.TheVariants.{Id, Width}
use Rattle.register.specs.Numbers.{numbers, register_of}
use Rattle.cursor.specs.Plane.{shape_good}
use Rattle.execution.specs.Straight.{straight}
use Rattle.command.specs.Commands.{entry, kind_of}
use Rattle.writer.specs.Writing.{Command, command, command_words, is_command, carried_in, free_words}
use Rattle.writer.proofs.Taking.{not_taken, taken_is}
use Rattle.device.specs.declared.Device.{Device}
use Rattle.device.specs.declared.Condition.TheVariants.{Running, Faulted}
use Rattle.device.specs.Device.{pixels_of, width_of, height_of, enabled_of, configured_of, condition_of}
use Rattle.device_run.specs.Run.{Lent, RunOutcome}
use Rattle.refusals.specs.Refusing.{is_refusal, Sizes, Make34, Ranged, Write30, Write31, Write32, Write20, Write33, Write0, Read30, PictureLent, Picture20, Picture24}
use Rattle.refusals.specs.Refusing.{RunLent, Run20, Run22, Run21, Run24, Run23, Starts, NextUsable, left_by, Reaches, RunLeaves, Append1}
use Rattle.refusals.specs.Refusing.{Submit33, Submit41, Submit20, Submit40, Submit0}
use Rattle.refusals.specs.Refusing.{Turn0, Turn10, HeadMissing, HeadBad, Turn12, WordsMissing, OperandBad, Executes}
use Rattle.refusals.proofs.Rules.{leaves_six, fence_0_not_taken}

-- ---- answers: "Answers 20 to 34 change nothing"

-- a fault, 10 to 13, is no refusal
pub no_refusal_13 : is_refusal 13 ≡ false
unfolding is_refusal
no_refusal_13 = refl

pub no_refusal_35 : is_refusal 35 ≡ false
unfolding is_refusal
no_refusal_35 = refl

-- ---- making a device

-- "M is a multiple of 4 from 10,256"
pub sizes_not_10255 : ¬ Sizes 10255 1
sizes_not_10255 s = omega (arith, s.1)

-- "P is 1 to 4,096,000"
pub sizes_not_4096001 : ¬ Sizes 10256 4096001
sizes_not_4096001 s = omega (arith, s.4)

pub make_34_not_10256 : ¬ Make34 10256 1
make_34_not_10256 n = n (refl, omega arith, omega arith, omega arith, omega arith)

-- ---- registers and the ring

-- 0 ID is there, to be written and read,
pub write_30_not_id : ¬ Write30 0
unfolding register_of numbers
write_30_not_id e = true≢false cc

pub read_30_not_id : ¬ Read30 0
read_30_not_id e = write_30_not_id e

-- is not read-only,
pub write_31_not_id : ¬ Write31 0
unfolding register_of numbers
write_31_not_id (r, e) = true≢false cc

-- and takes all values
pub write_32_not_id : (v : ℕ) → ¬ Write32 0 v
unfolding register_of numbers
write_32_not_id v (w, e, n) = let same : Id ≡ w = cc in n (subst (λ r. Ranged r v) same tt)

-- 6 DEPTH is read-only
pub write_0_not_depth : (d : Device) (ring : List ℕ) (v : ℕ) → ¬ Write0 d ring 6 v
unfolding register_of numbers
write_0_not_depth d ring v (w, e, r, u) = true≢false cc

-- CONFIG_DONE 0 does not ask for the ring
pub write_20_not_0 : (d : Device) (ring : List ℕ) (index : ℕ) → ¬ Write20 d ring index 0
write_20_not_0 d ring index x = omega (arith, x.1)

pub write_33_not_usable : (d : Device) (ring : List ℕ) (index v : ℕ) → Usable ring → ¬ Write33 d ring index v
write_33_not_usable d ring index v u x = x.3 u

-- "2 WIDTH (1 to 2,560)"
pub ranged_not_2561 : ¬ Ranged Width 2561
ranged_not_2561 r = omega (arith, r.1)

-- "Ring words 0 to 3 are MIN, MAX, NEXT_CMD, STOP": three words are none
pub usable_not_three_words : (a b c : ℕ) → ¬ Usable (a ∷ b ∷ c ∷ [])
usable_not_three_words a b c u = omega (arith, u.there)

-- "MIN ≥ 16", whatever the other words are
pub usable_not_min_12 : (words : List ℕ) → ¬ Usable (12 ∷ words)
usable_not_min_12 words u = omega (arith, u.low)

-- an append that leaves NEXT_CMD before ring word 3, or past it, is taken
pub append_1_not_room : (ring : List ℕ) → Usable ring → (¬ (moved_on (min_of ring) (max_of ring) (next_of ring) ≡ stop_of ring)) → ¬ Append1 ring
append_1_not_room ring u room x = ⊎_elim (λ n. n u) room x

-- ---- a command's write

pub submit_33_not_usable : (ring : List ℕ) (c : Command) → Usable ring → ¬ Submit33 ring c
submit_33_not_usable ring c u n = n u

-- every usable ring carries a FENCE, and one of 1 is taken
pub submit_41_not_fence_1 : (ring : List ℕ) → ¬ Submit41 ring (command (30 ∷ 1 ∷ []) [] [])
unfolding is_command entry kind_of
submit_41_not_fence_1 ring x =
    let u = x.0 in
    let fits : 2 ≤ carried_in ring = omega arith in
    (taken_is (carried_in ring) (30 ∷ 1 ∷ [])).0 (rw (le-leb 2 (carried_in ring) fits)) x.1

-- one of 0 is 41, whatever is lent with it
pub submit_20_not_fence_0 : (ring pixels bytes : List ℕ) → ¬ Submit20 ring (command (30 ∷ 0 ∷ []) pixels bytes)
submit_20_not_fence_0 ring pixels bytes x = x.1 (fence_0_not_taken ring x.0)

pub submit_0_not_fence_0 : (ring pixels bytes : List ℕ) → ¬ Submit0 ring (command (30 ∷ 0 ∷ []) pixels bytes)
submit_0_not_fence_0 ring pixels bytes x = x.1 (fence_0_not_taken ring x.0)

-- a cursor of 65 columns is 41, whatever pixels are lent with it
pub submit_20_not_65_wide : (ring : List ℕ) (id : ℕ) (pixels : List ℕ) → ¬ Submit20 ring (command (22 ∷ id ∷ 0 ∷ 0 ∷ 65 ∷ 1 ∷ []) pixels [])
unfolding is_command entry kind_of shape_good
submit_20_not_65_wide ring id pixels x = x.1 ((not_taken (carried_in ring) (22 ∷ id ∷ 0 ∷ 0 ∷ 65 ∷ 1 ∷ [])).0 refl)

-- as many free words as the command has are enough
pub submit_40_not_just_free : (ring : List ℕ) (c : Command) → free_words ring ≡ length (command_words c) → ¬ Submit40 ring c
submit_40_not_just_free ring c free x = omega (arith, x.3)

-- where no word is free, a FENCE is not taken
pub submit_0_not_full : (ring : List ℕ) (number : ℕ) → free_words ring ≡ 0 → ¬ Submit0 ring (command (30 ∷ number ∷ []) [] [])
unfolding command_words
submit_0_not_full ring number full x = omega (arith, x.3)

-- eight bytes are not the five that an ESCAPE says, though they are as many words: it is 20 in every usable ring, and never taken
pub submit_0_not_8_bytes_for_5 : (ring : List ℕ) (namespace : ℕ) (bytes : List ℕ) → length bytes ≡ 8
    → ¬ Submit0 ring (command (33 ∷ namespace ∷ 5 ∷ []) [] bytes)
unfolding kind_of
submit_0_not_8_bytes_for_5 ring namespace bytes eight x = omega (arith, eight, x.2.1)

pub submit_20_8_bytes_for_5 : (ring : List ℕ) (namespace : ℕ) (bytes : List ℕ) → length bytes ≡ 8 → Usable ring
    → Submit20 ring (command (33 ∷ namespace ∷ 5 ∷ []) [] bytes)
unfolding is_command entry kind_of
submit_20_8_bytes_for_5 ring namespace bytes eight u =
    let fits : 5 ≤ carried_in ring = omega arith in
    (u, (taken_is (carried_in ring) (33 ∷ namespace ∷ 5 ∷ [])).0 (rw (le-leb 5 (carried_in ring) fits)), λ x. omega (arith, eight, x.1))

-- ---- a run and a picture

module _ (d : Device) (l : Lent) where
  -- "the cursor image (4,096)"
  pub lent_not_without_cursor : l.cursor ≡ [] → ¬ RunLent d l
  lent_not_without_cursor none s = omega (arith, sym (ap length none) ∙ s.3)

  pub run_20_not_lent : RunLent d l → ¬ Run20 d l
  run_20_not_lent s n = n s

  pub run_22_not_configured : configured_of d ≡ true → ¬ Run22 d l
  run_22_not_configured on x = true≢false (sym on ∙ x.1)

  pub run_21_not_enabled : enabled_of d ≡ true → ¬ Run21 d l
  run_21_not_enabled on x = true≢false (sym on ∙ x.2)

  pub run_24_not_fitting : width_of d * height_of d ≤ pixels_of d → ¬ Run24 d l
  run_24_not_fitting fits x = omega (arith, x.3)

  pub run_23_not_running : (g : Ring) → condition_of d ≡ Running g → ¬ Run23 d l
  run_23_not_running g r x = let same : Running g ≡ Faulted x.4.0 = sym r ∙ x.4.1 in true≢false cc

module _ (d : Device) (screen image output : List ℕ) where
  pub picture_lent_not_without_cursor : image ≡ [] → ¬ PictureLent d screen image output
  picture_lent_not_without_cursor none s = omega (arith, sym (ap length none) ∙ s.1)

  pub picture_20_not_lent : PictureLent d screen image output → ¬ Picture20 d screen image output
  picture_20_not_lent s n = n s

  pub picture_24_not_fitting : width_of d * height_of d ≤ pixels_of d → ¬ Picture24 d screen image output
  picture_24_not_fitting fits x = omega (arith, x.1)

-- "disabled"
pub starts_not_disabled : (d : Device) (l : Lent) (g : Ring) → enabled_of d ≡ false → ¬ Starts d l g
starts_not_disabled d l g off s = false≢true (sym off ∙ s.2)

-- "NEXT_CMD 18, or equal to MAX: 13."
pub next_not_18 : (g : Ring) → ¬ NextUsable g 18
next_not_18 g u = omega (arith, u.0)

pub next_not_max : (g : Ring) → ¬ NextUsable g (4 * g.max)
next_not_max g u = omega (arith, u.2)

module _ (d : Device) (l : Lent) (g : Ring) where
  -- with no budget a run comes nowhere
  pub reaches_not_without_budget : ¬ Reaches d l g 0
  reaches_not_without_budget r = omega (arith, r.1)

  module _ (budget : ℕ) where
    -- one command too many
    pub leaves_not_one_more : (o p : RunOutcome) → RunLeaves d l g budget o → p.count ≡ suc o.count → ¬ RunLeaves d l g budget p
    leaves_not_one_more o p x more y = omega (arith, x.count, y.count)

    -- a screen that changed though nothing was counted
    pub leaves_not_uncounted : (o : RunOutcome) → o.count ≡ 0 → (¬ (o.lent.screen ≡ l.screen)) → ¬ RunLeaves d l g budget o
    unfolding straight
    leaves_not_uncounted o none changed x = changed (ap (λ m. m.screen) (x.machine ∙ ap (λ k. (left_by d l g k).machine) none))

    -- a fence posted where MIN is 24
    pub leaves_not_posted_at_24 : (o : RunOutcome) → g.min ≡ 6 → (¬ (get_or o.lent.ring 6 0 ≡ get_or l.ring 6 0)) → ¬ RunLeaves d l g budget o
    leaves_not_posted_at_24 o low changed x = changed (leaves_six d l g budget (omega arith) x)

-- ---- one turn

-- "NEXT_CMD = STOP: 0": where a word waits it is not
pub turn_0_not_a_word : (x : ℕ) (w : List ℕ) → ¬ Turn0 (x ∷ w)
turn_0_not_a_word x w t = omega (arith, t)

-- UPDATE is offered
pub turn_10_not_update : (w : List ℕ) → ¬ Turn10 (1 ∷ w)
unfolding entry kind_of
turn_10_not_update w t = true≢false t.1

-- a FENCE's head is two words
pub head_missing_not_fence : (number : ℕ) (w : List ℕ) → ¬ HeadMissing (30 ∷ number ∷ w)
unfolding entry kind_of
head_missing_not_fence number w t = omega (arith, t.2)

-- "Cursor 64 by 1 is fine"
pub head_bad_not_64_by_1 : (id : ℕ) (w : List ℕ) → ¬ HeadBad (22 ∷ id ∷ 0 ∷ 0 ∷ 64 ∷ 1 ∷ w)
unfolding entry kind_of shape_good
head_bad_not_64_by_1 id w t = true≢false t.1

-- a FENCE is two words long, which every ring carries
pub turn_12_not_fence : (cap : ℕ) (w : List ℕ) → 2 ≤ cap → ¬ Turn12 cap (30 ∷ w)
unfolding entry kind_of
turn_12_not_fence cap w h t = omega (arith, t.2)

-- "ESCAPE sizes 0, 1, 10,224 ..: 3, 4, 2,559 words": one of size 0 has its words with its head
pub words_missing_not_empty_escape : (cap namespace : ℕ) (w : List ℕ) → ¬ WordsMissing cap (33 ∷ namespace ∷ 0 ∷ w)
unfolding entry kind_of
words_missing_not_empty_escape cap namespace w t = omega (arith, t.3)

-- a plain fill has no operation that could be bad
pub operand_bad_not_plain_fill : (cap : ℕ) (w : List ℕ) → ¬ OperandBad tt cap (2 ∷ w)
unfolding entry kind_of
operand_bad_not_plain_fill cap w t = true≢false t.1

-- Document 02, P6: "FENCE 0 becomes a fault", and no other number
pub operand_bad_not_fence_1 : (cap : ℕ) (w : List ℕ) → ¬ OperandBad tt cap (30 ∷ 1 ∷ w)
unfolding entry kind_of
operand_bad_not_fence_1 cap w t = true≢false t.1

pub executes_not_fence_0 : (cap : ℕ) (w : List ℕ) → ¬ Executes tt cap (30 ∷ 0 ∷ w)
unfolding entry kind_of
executes_not_fence_0 cap w t = false≢true t.1

-- "Raster operation above 15: 11."
pub executes_not_operation_16 : (cap colour x y width height : ℕ) (w : List ℕ) → ¬ Executes tt cap (13 ∷ colour ∷ x ∷ y ∷ width ∷ height ∷ 16 ∷ w)
unfolding entry kind_of
executes_not_operation_16 cap colour x y width height w t = false≢true t.1
