-- Every list of appends and runs of the queue meets demand 3, and the claim leaves nothing open.
-- Assumes nothing.
use mathlib.Core.Path.{◌≡◌, refl, sym, ap, ◌∙◌}
use mathlib.Core.Bool.{Bool, true, false, not, true≢false}
use mathlib.Core.Option.{Option, none, some}
use mathlib.Core.List.{List, [], ◌∷◌, ◌++◌, append_assoc, append-nil}
use Prim.Native.Nat.{ℕ, zero, suc, ◌+◌, ◌≤◌, min}
use native.Mathlib.Omega.{arith}
use native.Mathlib.Nat.{zero-min, min-zero, suc-min-suc, add-zero}
use lib.ListN.{length, length-append}
use lib.Dec.{eqb, eqb-zero-suc, eqb-suc-suc}
use borrow.Author.Tests.{eqb-false}
use Rattle.execution.specs.declared.Cause.{Cause}
use Rattle.execution.specs.declared.Cause.TheVariants.{NotOffered, BadOperand, TooLong, BadNext}
use Rattle.execution.specs.declared.End.{End}
use Rattle.execution.specs.declared.End.TheVariants.{Drained, Waiting, Fault}
use Rattle.execution.specs.Straight.{cause_number, Turn, ends, exec, Line, beyond, more, next, steps, straight, whole, ending}
use Rattle.execution.specs.Claim.{Op, append, run, Answer, spent, standing, ended, appended, Event, taken, counted, met_end, met, faulted, first, fed, count_all, standing_fault, ops_in}
use Rattle.execution.specs.Claim.{verdict, Moves, MovesOn, start, line_after, says, Demand3}
use Rattle.execution.specs.Turns.{LineRun, one_more, runs}
use Rattle.execution.specs.Queue.{Queue, Acted, fresh, offer, try, act, play}
use Rattle.execution.proofs.Laws.{Goes, here, on, goes_steps, goes_straight, goes_on, goes_more, goes_shorter}
use Rattle.execution.proofs.Laws.{whole_exec, whole_ends, ending_exec, ending_ends}
use Rattle.execution.specs.Table.{Laws}

met_end_fault : (e : End) (c : Cause) → met_end e ≡ some c → e ≡ Fault c
unfolding met_end
met_end_fault Drained c h = cc
met_end_fault Waiting c h = cc
met_end_fault (Fault d) c h = cc

-- one run

module _ {S : Type 0} (turn : S → List ℕ → Turn S) where
  pub runs_ends : (b : ℕ) (a : Line S) (e : End) → next turn a ≡ ends e → runs turn (suc b) a ≡ record { answer = ended e; count = 0; line = a }
  unfolding runs
  runs_ends b a e q = rw (q, runs)

  pub runs_exec : (b : ℕ) (a : Line S) (n : ℕ) (s : S) → next turn a ≡ exec n s → runs turn (suc b) a ≡ one_more (runs turn b (beyond a n s))
  unfolding runs
  runs_exec b a n s q = rw (q, runs)

  -- what a run of a line is: its commands are steps, as many as it may do and can do, and its answer is document 01's; a fault is that of the next turn
  pub record RunsRight (b : ℕ) (a : Line S) (r : LineRun S) : Type 0 where
    pub goes : Goes turn r.count a r.line
    pub many : r.count ≡ min b (whole turn a)
    pub right_answer : r.answer ≡ verdict (eqb r.count b) (ending turn a)
    pub met_there : (c : Cause) → met r.answer ≡ some c → next turn r.line ≡ ends (Fault c)

  module _ {cap : ℕ} (laws : Laws cap turn) where
    pub run_right : (b : ℕ) (a : Line S) → RunsRight b a (runs turn b a)
    unfolding runs verdict met
    run_right zero a = record { goes = here; many = sym (zero-min (whole turn a)); right_answer = refl; met_there = λ c q. cc }
    run_right (suc b) a = go (next turn a) refl (λ n s. run_right b (beyond a n s))
      where
        go : (t : Turn S) → next turn a ≡ t → ((n : ℕ) (s : S) → RunsRight b (beyond a n s) (runs turn b (beyond a n s))) → RunsRight (suc b) a (runs turn (suc b) a)
        go (ends e) q ih = rw (runs_ends b a e q) record {
          goes = here;
          many = rw (whole_ends turn laws a e q, min-zero);
          right_answer = rw (eqb-zero-suc, ending_ends turn laws a e q);
          met_there = λ c h. q ∙ ap ends (met_end_fault e c h);
        }
        go (exec n s) q ih = rw (runs_exec b a n s q) record {
          goes = on q (ih n s).goes;
          many = rw (whole_exec turn laws a n s q, suc-min-suc) (ap suc (ih n s).many);
          right_answer = rw (eqb-suc-suc, ending_exec turn laws a n s q) (ih n s).right_answer;
          met_there = (ih n s).met_there;
        }

-- the operations of a list of events

pub play_ops : {S : Type 0} (cap : ℕ) (turn : S → List ℕ → Turn S) (os : List Op) (q : Queue S) → ops_in (play cap turn os q).events ≡ os
unfolding play
play_ops cap turn [] q = refl
play_ops cap turn (o ∷ os) q = ap {B = List Op} (λ l. o ∷ l) (play_ops cap turn os (act cap turn o q).queue)

-- what one more operation adds to a list

abbrev just : Event → List Event
just e = e ∷ []

fed_snoc : (p : List Event) (e : Event) → fed (p ++ just e) ≡ fed p ++ taken e.op e.reply
unfolding fed
fed_snoc [] e = append-nil (taken e.op e.reply)
fed_snoc (d ∷ p) e = rw (fed_snoc p e) (sym (append_assoc (taken d.op d.reply) (fed p) (taken e.op e.reply)))

count_all_snoc : (p : List Event) (e : Event) → count_all (p ++ just e) ≡ count_all p + counted e.reply
unfolding count_all
count_all_snoc [] e = omega arith
count_all_snoc (d ∷ p) e = rw (count_all_snoc p e) (omega arith)

first_assoc : (a b c : Option Cause) → first a (first b c) ≡ first (first a b) c
unfolding first
first_assoc none b c = refl
first_assoc (some d) b c = refl

first_none : (a : Option Cause) → first a none ≡ a
unfolding first
first_none none = refl
first_none (some d) = refl

pub standing_fault_append : (p r : List Event) → standing_fault (p ++ r) ≡ first (standing_fault p) (standing_fault r)
unfolding standing_fault first
standing_fault_append [] r = refl
standing_fault_append (e ∷ p) r = rw (standing_fault_append p r) (first_assoc (faulted e.reply) (standing_fault p) (standing_fault r))

standing_fault_snoc : (p : List Event) (e : Event) → standing_fault (p ++ just e) ≡ first (standing_fault p) (faulted e.reply)
unfolding standing_fault
standing_fault_snoc p e = standing_fault_append p (just e) ∙ ap (first (standing_fault p)) (first_none (faulted e.reply))

module _ {S : Type 0} {cap : ℕ} {turn : S → List ℕ → Turn S} (laws : Laws cap turn) (s₀ : S) where
  -- what holds after a list p that has led to q
  record Inv (p : List Event) (q : Queue S) : Type 0 where
    goes : Goes turn (count_all p) (start s₀ p) q.line
    same_fault : q.stands ≡ standing_fault p
    fault_there : (c : Cause) → q.stands ≡ some c → next turn q.line ≡ ends (Fault c)
    fits : length q.line.words ≤ cap

  inv_snoc : (p : List Event) (e : Event) (q : Queue S)
      → Goes turn (count_all p + counted e.reply) (more (start s₀ p) (taken e.op e.reply)) q.line
      → q.stands ≡ first (standing_fault p) (faulted e.reply)
      → ((c : Cause) → q.stands ≡ some c → next turn q.line ≡ ends (Fault c))
      → length q.line.words ≤ cap
      → Inv (p ++ just e) q
  inv_snoc p e q g s f l = record { goes = rw (fed_snoc p e, count_all_snoc p e) g; same_fault = rw (standing_fault_snoc p e) s; fault_there = f; fits = l }

  -- an operation that is refused changes nothing
  inv_quiet : (p : List Event) (e : Event) (q : Queue S) → Inv p q
      → counted e.reply ≡ 0 → taken e.op e.reply ≡ [] → faulted e.reply ≡ none → Inv (p ++ just e) q
  inv_quiet p e q i c t f =
      inv_snoc p e q (rw (c, t, append-nil, add-zero) i.goes) (rw (f, first_none) i.same_fault) i.fault_there i.fits

  -- one operation: its answer is the one that document 01 gives, and the invariant goes on
  record Good (p : List Event) (o : Op) (q : Queue S) (a : Acted S) : Type 0 where
    right : a.reply ≡ says cap turn q.line q.stands o
    after : Inv (p ++ just (record { op = o; reply = a.reply })) a.queue

  good_append : (p : List Event) (x : ℕ) (q : Queue S) → Inv p q → Good p (append x) q (act cap turn (append x) q)
  unfolding act offer says counted taken faulted
  good_append p x q i = go (eqb (length q.line.words) cap) refl
    where
      a : Line S
      a = q.line

      go : (t : Bool) → eqb (length q.line.words) cap ≡ t → Good p (append x) q (offer t x q)
      go true e = record { right = sym (ap (λ t. appended (not t)) e); after = inv_quiet p _ q i refl refl refl }
      go false e = record {
        right = sym (ap (λ t. appended (not t)) e);
        after = inv_snoc p _ _
            (rw add-zero (goes_more turn laws (x ∷ []) i.goes))
            (rw first_none i.same_fault)
            (λ c h. laws.fault_stays a.machine a.words (x ∷ []) c (i.fault_there c h))
            (rw length-append (omega (arith, i.fits, eqb-false (length a.words) cap e)));
      }

  good_run : (p : List Event) (b : ℕ) (q : Queue S) → Inv p q → Good p (run b) q (act cap turn (run b) q)
  unfolding act try says counted taken faulted first met
  good_run p b q i = go q.stands refl
    where
      r : RunsRight turn b q.line (runs turn b q.line)
      r = run_right turn laws b q.line

      go : (f : Option Cause) → q.stands ≡ f → Good p (run b) q (try turn f b q)
      go none e = record {
        right = rw (e, r.right_answer, r.many);
        after = inv_snoc p _ _
            (rw append-nil (goes_on turn i.goes r.goes))
            (rw (← i.same_fault, e) refl)
            r.met_there
            (omega (arith, i.fits, goes_shorter turn r.goes));
      }
      go (some c) e = record { right = rw e; after = inv_quiet p _ q i refl refl refl }

  good : (p : List Event) (o : Op) (q : Queue S) → Inv p q → Good p o q (act cap turn o q)
  good p (append x) q i = good_append p x q i
  good p (run b) q i = good_run p b q i

  -- the whole list, by its parts

  At : List Event → Type 0
  At p = steps turn (count_all p) (start s₀ p) ≡ count_all p

  Judged : List Event → List Event → Type 0
  Judged p [] = At p
  Judged p (e ∷ es) = At p × (e.reply ≡ says cap turn (line_after turn s₀ p) (standing_fault p) e.op) × Judged (p ++ just e) es

  judged_at : (p es : List Event) → Judged p es → At p
  unfolding Judged
  judged_at p [] j = j
  judged_at p (e ∷ es) j = j.0

  judged_split : (a p es r : List Event) → Judged p es → es ≡ a ++ r → Judged (p ++ a) r
  unfolding Judged
  judged_split [] p es r j q = rw (append-nil, ← q) j
  judged_split (d ∷ a) p [] r j q = absurd (true≢false cc)
  judged_split (d ∷ a) p (e ∷ es) r j q =
      let same : d ≡ e = cc in
      let rest : es ≡ a ++ r = cc in
      rw same (rw append_assoc at (judged_split a (p ++ just e) es r j.2 rest))

  judged_play : (os : List Op) (p : List Event) (q : Queue S) → Inv p q
      → Inv (p ++ (play cap turn os q).events) (play cap turn os q).queue × Judged p (play cap turn os q).events
  unfolding play Judged At
  judged_play [] p q i = (rw append-nil i, goes_steps turn i.goes)
  judged_play (o ∷ os) p q i =
      let g = good p o q i in
      let a = act cap turn o q in
      let e : Event = record { op = o; reply = a.reply } in
      let rest = judged_play os (p ++ just e) a.queue g.after in (
        rw append_assoc at rest.0,
        (goes_steps turn i.goes, rw (goes_straight turn i.goes, ← i.same_fault) g.right, rest.1),
      )

  -- a full ring never just waits

  moves_some : (r : Answer) (c : ℕ) → 1 ≤ c → Moves r c
  unfolding Moves
  moves_some spent c h = h
  moves_some standing c h = tt
  moves_some (ended Drained) c h = h
  moves_some (ended Waiting) c h = h
  moves_some (ended (Fault f)) c h = tt

  not_drained : (s : S) (w : List ℕ) → 1 ≤ length w → turn s w ≡ ends Drained → ⊥
  not_drained s [] h q = omega arith
  not_drained s (x ∷ w) h q = laws.some_word s x w q

  full_moves : (a : Line S) (f : Option Cause) (b : ℕ) → length a.words ≡ cap → 1 ≤ cap → MovesOn (says cap turn a f (run (suc b)))
  unfolding says MovesOn Moves verdict
  full_moves a (some c) b h h₁ = tt
  full_moves a none b h h₁ = go (next turn a) refl
    where
      go : (t : Turn S) → next turn a ≡ t → MovesOn (says cap turn a none (run (suc b)))
      go (exec n s) q =
          let h₂ : 1 ≤ min (suc b) (whole turn a) = omega (arith, whole_exec turn laws a n s q) in
          moves_some (verdict (eqb (min (suc b) (whole turn a)) (suc b)) (ending turn a)) (min (suc b) (whole turn a)) h₂
      go (ends Drained) q = absurd (not_drained a.machine a.words (omega arith) q)
      go (ends Waiting) q = absurd (omega (arith, laws.wait_has_room a.machine a.words q))
      go (ends (Fault c)) q = rw (whole_ends turn laws a (Fault c) q, ending_ends turn laws a (Fault c) q, min-zero, eqb-zero-suc) tt

  run_moves : (a : Line S) (f : Option Cause) (b : ℕ) → length a.words ≡ cap → 1 ≤ cap → 1 ≤ b → MovesOn (says cap turn a f (run b))
  run_moves a f zero h h₁ h₂ = absurd (omega arith)
  run_moves a f (suc b) h h₁ h₂ = full_moves a f b h h₁

  proper : (c : Cause) (a : Line S) → next turn a ≡ ends (Fault c) → cause_number c ≤ 12
  proper NotOffered a q = omega arith
  proper BadOperand a q = omega arith
  proper TooLong a q = omega arith
  proper BadNext a q = absurd (laws.not_13 a.machine a.words q)

  claim : 1 ≤ cap → (es : List Event) (q : Queue S) → Inv es q → Judged [] es → Demand3 cap turn s₀ es q.line q.stands
  unfolding Judged At
  claim h es q i j = record {
    executes = λ p r e. judged_at p r (judged_split p [] es r j e);
    same = sym (goes_straight turn i.goes);
    fault_stands = i.same_fault;
    fault_ends = i.fault_there;
    fault_number = λ c e. proper c q.line (i.fault_there c e);
    answers = λ p r e k. (judged_split p [] es (e ∷ r) j k).1;
    fits = i.fits;
    full_ring_moves = λ p r b y k full h₁. rw (judged_split p [] es (record { op = run b; reply = y } ∷ r) j k).1 (run_moves _ _ b full h h₁);
  }

  inv_fresh : Inv [] (fresh s₀)
  unfolding fresh fed count_all standing_fault
  inv_fresh = record { goes = here; same_fault = refl; fault_there = λ c e. cc; fits = omega arith }

  -- DEMAND 3: every list of operations, from an empty ring and the machine s₀.
  pub demand3 : 1 ≤ cap → (os : List Op) →
      Demand3 cap turn s₀
      (play cap turn os (fresh s₀)).events
      (play cap turn os (fresh s₀)).queue.line
      (play cap turn os (fresh s₀)).queue.stands
  demand3 h os =
      let r = play cap turn os (fresh s₀) in
      let j = judged_play os [] (fresh s₀) inv_fresh in
      claim h r.events r.queue j.0 j.1

-- Order of work does not show: two lists whose appends took the same words and whose runs counted as many commands leave the same.
pub order_hidden : {S : Type 0} {cap : ℕ} {turn : S → List ℕ → Turn S} {s₀ : S} {es ds : List Event} {a b : Line S} {f g : Option Cause}
    → Demand3 cap turn s₀ es a f → Demand3 cap turn s₀ ds b g → fed es ≡ fed ds → count_all es ≡ count_all ds → a ≡ b
order_hidden {turn} {s₀} {es} {ds} {a} {b} x y p q = x.same ∙ (λ i. straight turn (q i) (record { words = p i; machine = s₀ })) ∙ sym y.same

-- The claim leaves nothing open: for one list of operations there is one list of answers and one end that meet it.

module _ {S : Type 0} (cap : ℕ) (turn : S → List ℕ → Turn S) (s₀ : S) where
  -- the claim's `answers`
  AllFair : List Event → Type 0
  AllFair es = (p r : List Event) (e : Event) → es ≡ p ++ e ∷ r → e.reply ≡ says cap turn (line_after turn s₀ p) (standing_fault p) e.op

  same_answers : (p r s : List Event) → AllFair (p ++ r) → AllFair (p ++ s) → ops_in r ≡ ops_in s → r ≡ s
  unfolding AllFair
  same_answers p [] [] f g q = refl
  same_answers p [] (d ∷ s) f g q = cc
  same_answers p (e ∷ r) [] f g q = cc
  same_answers p (e ∷ r) (d ∷ s) f g q =
      let o : e.op ≡ d.op = cc in
      let rest : ops_in r ≡ ops_in s = cc in
      let y : e.reply ≡ d.reply = f p r e refl ∙ ap (says cap turn (line_after turn s₀ p) (standing_fault p)) o ∙ sym (g p s d refl) in
      let same : e ≡ d = λ i. record { op = o i; reply = y i } in
      let f' : AllFair ((p ++ just e) ++ r) = rw append_assoc f in
      let g' : AllFair ((p ++ just e) ++ s) = rw (append_assoc, same) g in
      λ i. same i ∷ same_answers (p ++ just e) r s f' g' rest i

  pub demand3_unique : {es ds : List Event} {a b : Line S} {f g : Option Cause} → Demand3 cap turn s₀ es a f → Demand3 cap turn s₀ ds b g
      → ops_in es ≡ ops_in ds → (es ≡ ds) × (a ≡ b) × (f ≡ g)
  unfolding AllFair
  demand3_unique {es} {ds} x y q =
      let same = same_answers [] es ds x.answers y.answers q in (
        same,
        x.same ∙ ap (line_after turn s₀) same ∙ sym y.same,
        x.fault_stands ∙ ap standing_fault same ∙ sym y.fault_stands,
      )

-- A fault stands exactly when a run of the list answered it.

pub record Answered (es : List Event) (c : Cause) : Type 0 where
  pub before : List Event
  pub event : Event
  pub rest : List Event
  pub there : es ≡ before ++ event ∷ rest
  pub cause : faulted event.reply ≡ some c

pub standing_fault_answered : (es : List Event) (c : Cause) → standing_fault es ≡ some c → Answered es c
unfolding standing_fault first
standing_fault_answered [] c h = absurd (true≢false cc)
standing_fault_answered (e ∷ es) c h = go (faulted e.reply) refl (λ k. standing_fault_answered es c k)
  where
    go : (f : Option Cause) → faulted e.reply ≡ f → (standing_fault es ≡ some c → Answered es c) → Answered (e ∷ es) c
    go (some d) q ih = record { before = []; event = e; rest = es; there = refl; cause = cc }
    go none q ih =
        let i = ih (rw (q, first) at h) in
        record { before = e ∷ i.before; event = i.event; rest = i.rest; there = ap {B = List Event} (λ l. e ∷ l) i.there; cause = i.cause }

pub answered_standing_fault : {S : Type 0} {cap : ℕ} {turn : S → List ℕ → Turn S} {s₀ : S} {es : List Event} {z : Line S} {f : Option Cause}
    → Demand3 cap turn s₀ es z f → (c : Cause) → Answered es c → f ≡ some c
unfolding standing_fault first says faulted met
answered_standing_fault {cap} {turn} {s₀} {es} {z} {f} d c a = d.fault_stands ∙ ap standing_fault a.there ∙ standing_fault_append a.before (a.event ∷ a.rest) ∙ go (standing_fault a.before) refl
  where
    refuses : (o : Op) (k : Cause) → faulted (says cap turn (line_after turn s₀ a.before) (some k) o) ≡ none
    refuses (append x) k = refl
    refuses (run b) k = refl

    go : (g : Option Cause) → standing_fault a.before ≡ g → first g (standing_fault (a.event ∷ a.rest)) ≡ some c
    go none q = rw a.cause
    go (some k) q =
        let r = d.answers a.before a.rest a.event a.there in
        let n : faulted a.event.reply ≡ none = rw (r, q) (refuses a.event.op k) in
        cc a.cause
