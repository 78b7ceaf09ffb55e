-- A whole command that the writer took is its words appended one by one, and one that it refused is nothing: what holds of lists of appends and runs,
-- demand 3 above all, so holds of lists with whole commands in them.
-- Assumes nothing.
use mathlib.Core.Path.{◌≡◌, refl, sym, ap, ◌∙◌}
use mathlib.Core.List.{List, [], ◌∷◌, ◌++◌, map}
use Prim.Native.Nat.{ℕ, ◌≤◌}
use lib.ListN.{length, replicate}
use Rattle.ring.specs.Acceptance.{Usable}
use Rattle.ring.specs.Append.{append_to, append_of}
use Rattle.writer.specs.Writing.{Command, command_words, free_words, append_all}
use Rattle.writer.proofs.Appending.{takes, write_refused, taken_fits, taken_all}
use Rattle.history.specs.Calls.{World, Call, append, submit, CallOutcome, perform, perform_all}
use Rattle.history.specs.Keeping.{answers}
use Rattle.history.specs.Submitted.{found, earlier, InPlace}
use Rattle.history.proofs.Starts.{ringed}

-- what appends leave, taken or not
appends_leave : (words ring : List ℕ) (w : World) → (perform_all (map append words) (ringed w ring)).world ≡ ringed w (append_all ring words)
unfolding perform_all perform append_of append_all
appends_leave [] ring w = refl
appends_leave (x ∷ words) ring w = appends_leave words (append_to ring x) w

-- and what they answer where there is room for all of them
appends_answer : (words ring : List ℕ) (w : World) → Usable ring → length words ≤ free_words ring
    → answers (perform_all (map append words) (ringed w ring)) ≡ replicate (length words) 0
unfolding perform_all perform append_of
appends_answer [] ring w u l = refl
appends_answer (x ∷ words) ring w u l =
    let t = takes ring x words u l in
    rw t.can (ap (λ (rest : List ℕ). 0 ∷ rest) (appends_answer words (append_to ring x) w t.still t.left))

-- A taken write is the appends of its words, one by one: they leave the same, and each of them is taken.
pub submit_is_appends : (c : Command) (w : World) → (perform (submit c) w).answer ≡ 0
    → ((perform_all (map append (command_words c)) w).world ≡ (perform (submit c) w).world)
    × (answers (perform_all (map append (command_words c)) w) ≡ replicate (length (command_words c)) 0)
unfolding perform
submit_is_appends c w e =
    let ring = w.lent.ring in
    let f = taken_fits ring c e in (
      appends_leave (command_words c) ring w ∙ ap (ringed w) (sym (taken_all ring c e)),
      appends_answer (command_words c) ring w f.usable f.room,
    )

-- ---- in a list of calls

-- calls in a row, and others behind them
behind : (cs ds : List Call) (w : World)
    → ((perform_all (cs ++ ds) w).world ≡ (perform_all ds (perform_all cs w).world).world)
    × ((perform_all (cs ++ ds) w).outcomes ≡ (perform_all cs w).outcomes ++ (perform_all ds (perform_all cs w).world).outcomes)
unfolding perform_all
behind [] ds w = (refl, refl)
behind (c ∷ cs) ds w = let r = behind cs ds (perform c w).world in (r.0, ap (λ (os : List CallOutcome). perform c w ∷ os) r.1)

module _ (before after : List Call) (c : Command) (w : World) where
  -- so may all that leave the same
  in_place : (calls : List Call) → (perform_all calls (found before after c w)).world ≡ (perform (submit c) (found before after c w)).world → InPlace before after c w calls
  unfolding perform_all
  in_place calls same =
      let written = behind before (submit c ∷ after) w in
      let instead = behind before (calls ++ after) w in
      let then = behind calls after (found before after c w) in
      record {
        same_world = instead.0 ∙ then.0 ∙ ap (λ (u : World). (perform_all after u).world) same ∙ sym written.0;
        as_written = written.1;
        in_its_place = instead.1
            ∙ ap (λ (os : List CallOutcome). earlier before after c w ++ os) then.1
            ∙ ap (λ (u : World). earlier before after c w ++ ((perform_all calls (found before after c w)).outcomes ++ (perform_all after u).outcomes)) same;
      }

  -- A write that is taken may be put as the appends of its words, each of them answered 0.
  pub submit_in_list : (perform (submit c) (found before after c w)).answer ≡ 0
      → InPlace before after c w (map append (command_words c)) × (answers (perform_all (map append (command_words c)) (found before after c w)) ≡ replicate (length (command_words c)) 0)
  submit_in_list taken = let s = submit_is_appends c (found before after c w) taken in (in_place (map append (command_words c)) s.0, s.1)

  -- One that is refused may be left out: no call stands in its place.
  pub refused_in_list : ((perform (submit c) (found before after c w)).answer ≡ 0 → ⊥) → InPlace before after c w []
  unfolding perform_all perform
  refused_in_list refused = in_place [] (sym (ap (ringed (found before after c w)) (write_refused (found before after c w).lent.ring c refused)))
