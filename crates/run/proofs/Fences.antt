-- Over a whole run: which fence stands in ring word 6, that the ring memory has what straight execution posted, and that no fence is 0.
-- Assumes nothing.
use mathlib.Core.Path.{◌≡◌, refl, sym, ap, ◌∙◌, subst₂}
use mathlib.Core.Bool.{Bool, true, false, not, true≢false, false≢true}
use mathlib.Core.Logic.{◌≢◌, ◌⊎◌, inl, inr, ⊎_elim}
use mathlib.Core.Option.{Option, none, some}
use mathlib.Core.List.{List, [], ◌∷◌}
use Prim.Native.Nat.{ℕ, zero, suc, ◌≤◌, ◌<◌}
use native.Mathlib.Omega.{arith}
use lib.Dec.{eqb}
use lib.ListN.{length, get_or, take}
use lib.Seq.{get_or-set_other}
use borrow.Author.Tests.{eqb-true, eq-eqb, le-leb}
use borrow.Table.Steps.{cases}
use Rattle.execution.specs.Straight.{Line, Turn, ends, exec, beyond, next, straight}
use Rattle.execution.specs.Table.{turn_of}
use Rattle.execution.specs.Turns.{LineRun, runs}
use Rattle.execution.proofs.Laws.{straight_exec}
use Rattle.execution.proofs.QueueLaws.{runs_ends, runs_exec}
use Rattle.ring.specs.declared.Ring.{Ring}
use Rattle.command.specs.declared.Action.{Action}
use Rattle.command.specs.declared.Action.TheVariants as A
use Rattle.command.specs.declared.Kind.{Kind}
use Rattle.command.specs.declared.Kind.TheVariants.{Update, RectFill, RectCopy, RectRopFill, RectRopCopy}
use Rattle.command.specs.declared.Kind.TheVariants.{DefineAlphaCursor, UpdateVerbose, Fence, Escape, Foreign}
use Rattle.command.specs.Commands.{entry, kind_in}
use Rattle.command.specs.Findings.{finds_in, on_machine}
use Rattle.command.proofs.Rules.{turn_found}
use Rattle.effect.specs.Effects.{Scene, Machine, fence_after, posted_after, done}
use Rattle.run.specs.Run.{known_of, table, NoFence, stamped, posts_in, posted_in, RingOutcome, left}
use Rattle.run.specs.Turns.{Clear}
use Rattle.run.proofs.Found.{found}
use Rattle.run.proofs.Posting.{posting_same, posted_six, posted_none, posted_written}

-- ---- any run

module _ {S : Type 0} (turn : S → List ℕ → Turn S) where
  -- what each executed turn keeps of the machine but those of one kind, a run keeps that executes none of that kind
  pub runs_without : (Is : List ℕ → Type 0) (Q : S → Type 0) → ((s t : S) (w : List ℕ) (n : ℕ) → turn s w ≡ exec n t → (Is w → ⊥) → Q s → Q t)
      → (b : ℕ) (a : Line S) → ((j : ℕ) → j < (runs turn b a).count → Is (straight turn j a).words → ⊥) → Q a.machine
      → Q (runs turn b a).line.machine
  unfolding runs straight
  runs_without Is Q keeps zero a h q = q
  runs_without Is Q keeps (suc b) a h q = go (next turn a) refl (λ n s. runs_without Is Q keeps b (beyond a n s))
    where
      go : (t : Turn S) → next turn a ≡ t
          → ((n : ℕ) (s : S) → ((j : ℕ) → j < (runs turn b (beyond a n s)).count → Is (straight turn j (beyond a n s)).words → ⊥) → Q s
          → Q (runs turn b (beyond a n s)).line.machine)
          → Q (runs turn (suc b) a).line.machine
      go (ends e) r ih = rw (runs_ends turn b a e r) q
      go (exec n s) r ih =
          let did = runs_exec turn b a n s r in
          let count = ap (λ (l : LineRun S). l.count) did in
          rw did
          (ih n s (λ j l. rw (straight_exec turn j a n s r) at (h (suc j) (omega arith))) (keeps a.machine s a.words n r (h 0 (omega arith)) q))

  -- what each executed turn keeps, a run keeps
  pub runs_keep : (Q : S → Type 0) → ((s t : S) (w : List ℕ) (n : ℕ) → turn s w ≡ exec n t → Q s → Q t) → (b : ℕ) (a : Line S) → Q a.machine
      → Q (runs turn b a).line.machine
  runs_keep Q keeps b a q = runs_without (λ w. ⊥) Q (λ s t w n e h. keeps s t w n e) b a (λ j l x. x) q

  -- a run that consumed nothing left the line
  pub runs_none : (b : ℕ) (a : Line S) → (runs turn b a).count ≡ 0 → (runs turn b a).line ≡ a
  unfolding runs
  runs_none zero a z = refl
  runs_none (suc b) a z = go (next turn a) refl
    where
      go : (t : Turn S) → next turn a ≡ t → (runs turn (suc b) a).line ≡ a
      go (ends e) r = rw (runs_ends turn b a e r)
      go (exec n s) r = absurd (let c = ap (λ (l : LineRun S). l.count) (runs_exec turn b a n s r) in omega arith)

-- ring word 6 stays where what is posted does
left_same : (g : Ring) (ring words : List ℕ) (r : LineRun Machine) → r.line.machine.posted ≡ posted_in (posts_in g) ring
    → get_or (left g ring words r).ring 6 0 ≡ get_or ring 6 0
unfolding left stamped
left_same g ring words r e =
    cases (eqb r.count 0)
    (λ t. rw t)
    (λ f. rw (f, e, posting_same (posts_in g) ring) (get_or-set_other ring 3 6 _ 0 (λ z. omega arith)))

-- ---- one command

-- a command is a FENCE or another
fence_or_other : (k : Kind) → (k ≡ Fence) ⊎ (k ≢ Fence)
fence_or_other Update = inr (λ e. true≢false cc)
fence_or_other RectFill = inr (λ e. true≢false cc)
fence_or_other RectCopy = inr (λ e. true≢false cc)
fence_or_other RectRopFill = inr (λ e. true≢false cc)
fence_or_other RectRopCopy = inr (λ e. true≢false cc)
fence_or_other DefineAlphaCursor = inr (λ e. true≢false cc)
fence_or_other UpdateVerbose = inr (λ e. true≢false cc)
fence_or_other Fence = inl refl
fence_or_other Escape = inr (λ e. true≢false cc)
fence_or_other Foreign = inr (λ e. true≢false cc)

-- a FENCE posts itself, where fences are posted
fence_posts : (k : Kind) → k ≡ Fence → (w : List ℕ) (posted fence : ℕ) → posted_after true ((entry k).action w) posted ≡ fence_after ((entry k).action w) fence
unfolding posted_after fence_after entry
fence_posts k e w posted fence = rw e

-- one that passes its check leaves another number than 0
fence_some : (w : List ℕ) (fence : ℕ) → (entry Fence).good tt w ≡ true → fence_after ((entry Fence).action w) fence ≢ 0
unfolding fence_after entry
fence_some w fence good z = false≢true (sym (ap not (eq-eqb (get_or w 1 0) 0 z)) ∙ good)

-- another leaves both what is posted and the fence
other_posts : (k : Kind) → k ≢ Fence → (posts : Bool) (w : List ℕ) (posted fence : ℕ)
    → (posted_after posts ((entry k).action w) posted ≡ posted) × (fence_after ((entry k).action w) fence ≡ fence)
unfolding posted_after fence_after entry
other_posts Update h posts w posted fence = (refl, refl)
other_posts RectFill h posts w posted fence = (refl, refl)
other_posts RectCopy h posts w posted fence = (refl, refl)
other_posts RectRopFill h posts w posted fence = (refl, refl)
other_posts RectRopCopy h posts w posted fence = (refl, refl)
other_posts DefineAlphaCursor h posts w posted fence = (refl, refl)
other_posts UpdateVerbose h posts w posted fence = (refl, refl)
other_posts Fence h posts w posted fence = absurd (h refl)
other_posts Escape h posts w posted fence = (refl, refl)
other_posts Foreign h posts w posted fence = (refl, refl)

-- none posts where fences are not posted
unposted_after : (a : Action) (posted : ℕ) → posted_after false a posted ≡ posted
unfolding posted_after
unposted_after (A.Update r) posted = refl
unposted_after (A.Fill r colour rop) posted = refl
unposted_after (A.Copy from r rop) posted = refl
unposted_after (A.Define s) posted = refl
unposted_after (A.Fence number) posted = refl
unposted_after A.Nothing posted = refl

module _ (s : Scene) (cap : ℕ) where
  abbrev turn : Machine → List ℕ → Turn Machine
  turn = turn_of cap (table s)

  -- the action that words begin with
  abbrev act : List ℕ → Action
  act w = (entry (kind_in w)).action w

  abbrev Marks_by : List ℕ → Machine → Machine → Type 0
  Marks_by w m u =
      (u.posted ≡ posted_after s.posts (act w) m.posted) × (u.marks.fence ≡ fence_after (act w) m.marks.fence) × ((entry (kind_in w)).good tt w ≡ true)

  by_found : (m u : Machine) (w : List ℕ) (n : ℕ) (f : Turn (Option Action)) → 1 ≤ length w → finds_in tt cap w ≡ f → on_machine (done s) m w f ≡ exec n u
      → Marks_by w m u
  unfolding done
  by_found m u w n (ends e) l q r = absurd (true≢false cc)
  by_found m u w n (exec k none) l q r = absurd (true≢false cc)
  by_found m u w n (exec k (some a)) l q r =
      let same : done s a (take k w) m ≡ u = cc in
      let f = found cap w a k l q in
      let is : act w ≡ a = f.action in
      rw (is, ← same) (refl, refl, f.good)

  -- what an executed command posts, and the fence that it leaves; it passed its check
  exec_marks : (m u : Machine) (w : List ℕ) (n : ℕ) → turn m w ≡ exec n u → Marks_by w m u
  unfolding turn_of
  exec_marks m u [] n q = absurd (true≢false cc)
  exec_marks m u (x ∷ w) n q = by_found m u (x ∷ w) n _ (omega arith) refl (sym (turn_found known_of (done s) cap m (x ∷ w)) ∙ q)

  -- a run left what is posted and the fence
  abbrev Same : LineRun Machine → Machine → Type 0
  Same r m = (r.line.machine.posted ≡ m.posted) × (r.line.machine.marks.fence ≡ m.marks.fence)

  -- one that executed no FENCE did
  pub runs_no_fence : (b : ℕ) (a : Line Machine) → NoFence turn (runs turn b a).count a → Same (runs turn b a) a.machine
  runs_no_fence b a h =
      runs_without turn (λ w. kind_in w ≡ Fence) (λ m. (m.posted ≡ a.machine.posted) × (m.marks.fence ≡ a.machine.marks.fence))
      (λ m u w n q other same.
      let e = exec_marks m u w n q in
      let k = other_posts (kind_in w) other s.posts w m.posted m.marks.fence in
      (e.0 ∙ k.0 ∙ same.0, e.1 ∙ k.1 ∙ same.1))
      b a h (refl, refl)

  -- no FENCE first, and none behind it
  no_fence_on : (a : Line Machine) (n k : ℕ) (u : Machine) → next turn a ≡ exec n u → kind_in a.words ≢ Fence → NoFence turn k (beyond a n u)
      → NoFence turn (suc k) a
  unfolding straight
  no_fence_on a n k u r first rest zero l = first
  no_fence_on a n k u r first rest (suc j) l = rw (straight_exec turn j a n u r) (rest j (omega arith))

  -- an executed FENCE is posted, where fences are, and leaves another fence than 0
  exec_posts : s.posts ≡ true → (m u : Machine) (w : List ℕ) (n : ℕ) → turn m w ≡ exec n u → kind_in w ≡ Fence → u.posted ≡ u.marks.fence
  exec_posts shown m u w n q f =
      let e = exec_marks m u w n q in
      let p : u.posted ≡ posted_after true (act w) m.posted = rw shown at e.0 in
      p ∙ fence_posts (kind_in w) f w m.posted m.marks.fence ∙ sym e.1

  exec_some : (m u : Machine) (w : List ℕ) (n : ℕ) → turn m w ≡ exec n u → kind_in w ≡ Fence → u.marks.fence ≢ 0
  exec_some m u w n q f z =
      let e = exec_marks m u w n q in
      let old = m.marks.fence in
      fence_some w old (rw f at e.2) (sym (ap (λ (k : Kind). fence_after ((entry k).action w) old) f) ∙ sym e.1 ∙ z)

  -- a run executed no FENCE, or this holds of what is posted and of the fence
  abbrev Since : (ℕ → ℕ → Type 0) → LineRun Machine → Line Machine → Type 0
  Since Q r a = NoFence turn r.count a ⊎ Q r.line.machine.posted r.line.machine.marks.fence

  -- so it is with what every executed FENCE brings about: no other command changes either
  runs_since : (Q : ℕ → ℕ → Type 0) → ((m u : Machine) (w : List ℕ) (n : ℕ) → turn m w ≡ exec n u → kind_in w ≡ Fence → Q u.posted u.marks.fence)
      → (b : ℕ) (a : Line Machine) → Since Q (runs turn b a) a
  unfolding runs
  runs_since Q fenced zero a = inl (λ j l. absurd (omega arith))
  runs_since Q fenced (suc b) a = go (next turn a) refl (λ n u. runs_since Q fenced b (beyond a n u))
    where
      go : (t : Turn Machine) → next turn a ≡ t → ((n : ℕ) (u : Machine) → Since Q (runs turn b (beyond a n u)) (beyond a n u))
          → Since Q (runs turn (suc b) a) a
      go (ends e) r ih = rw (runs_ends turn b a e r) (inl (λ j l. absurd (omega arith)))
      go (exec n u) r ih =
          let behind = runs turn b (beyond a n u) in
          rw (runs_exec turn b a n u r)
          (⊎_elim
          (λ without.
          ⊎_elim
          (λ f. let same = runs_no_fence b (beyond a n u) without in inr (subst₂ Q (sym same.0) (sym same.1) (fenced a.machine u a.words n r f)))
          (λ first. inl (no_fence_on a n behind.count u r first without))
          (fence_or_other (kind_in a.words)))
          inr
          (ih n u))

  -- where fences are posted, the last is
  pub runs_posted : s.posts ≡ true → (b : ℕ) (a : Line Machine) → Since (λ posted fence. posted ≡ fence) (runs turn b a) a
  runs_posted shown = runs_since (λ posted fence. posted ≡ fence) (exec_posts shown)

  -- and it is never 0
  pub runs_some : (b : ℕ) (a : Line Machine) → Since (λ posted fence. fence ≢ 0) (runs turn b a) a
  runs_some = runs_since (λ posted fence. fence ≢ 0) exec_some

  -- where they are not, what is posted stays
  pub runs_unposted : s.posts ≡ false → (b : ℕ) (a : Line Machine) → (runs turn b a).line.machine.posted ≡ a.machine.posted
  runs_unposted none-posted b a =
      runs_keep turn (λ m. m.posted ≡ a.machine.posted)
      (λ m u w n q h. (exec_marks m u w n q).0 ∙ ap (λ (p : Bool). posted_after p (act w) m.posted) none-posted ∙ unposted_after (act w) m.posted ∙ h)
      b a refl

  -- the ring memory has what was posted
  pub left_posted : (g : Ring) (ring : List ℕ) (b : ℕ) (a : Line Machine) → s.posts ≡ posts_in g → a.machine.posted ≡ posted_in (posts_in g) ring
      → Clear (posts_in g) (length ring) → posted_in (posts_in g) (left g ring a.words (runs turn b a)).ring ≡ (runs turn b a).line.machine.posted
  unfolding left
  left_posted g ring b a by-min start clear =
      let r = runs turn b a in
      cases (eqb r.count 0)
      (λ t. rw t (sym start ∙ sym (ap (λ (l : Line Machine). l.machine.posted) (runs_none turn b a (eqb-true r.count 0 t)))))
      (λ t. rw t (posted_written (posts_in g) _ r.line.machine.posted ring clear
      (λ e. runs_unposted (by-min ∙ e) b a ∙ start ∙ posted_none (posts_in g) ring e)))

  -- what a run of a line leaves of ring word 6 and of the fence, by the commands that it executed: without a FENCE both stay; with one word 6 is the fence,
  -- where fences are posted
  abbrev pub Tells : Ring → List ℕ → Line Machine → RingOutcome → Type 0
  Tells g ring a o =
      (NoFence turn o.count a → (get_or o.ring 6 0 ≡ get_or ring 6 0) × (o.machine.marks.fence ≡ a.machine.marks.fence))
      × (7 ≤ g.min → (¬ NoFence turn o.count a) → get_or o.ring 6 0 ≡ o.machine.marks.fence)

  pub left_tells : (g : Ring) (ring : List ℕ) (b : ℕ) (a : Line Machine) → s.posts ≡ posts_in g → a.machine.posted ≡ posted_in (posts_in g) ring
      → Clear (posts_in g) (length ring) → Tells g ring a (left g ring a.words (runs turn b a))
  unfolding left
  left_tells g ring b a by-min start clear =
      let r = runs turn b a in
      let after = (left g ring a.words r).ring in (
        λ without. let same = runs_no_fence b a without in (left_same g ring a.words r (same.0 ∙ start), same.1),
        λ low with-one.
            let shown : posts_in g ≡ true = le-leb 7 g.min low in
            sym (posted_six (posts_in g) after shown)
            ∙ left_posted g ring b a by-min start clear
            ∙ ⊎_elim (λ without. absurd (with-one without)) (λ e. e) (runs_posted (by-min ∙ shown) b a),
      )

  -- Document 02, P6: "FENCE 0 becomes a fault". After a run that executed a FENCE the fence is another number than 0, and a run never brings word 6 to 0
  abbrev pub NeverZero : List ℕ → Line Machine → RingOutcome → Type 0
  NeverZero ring a o =
      ((¬ NoFence turn o.count a) → o.machine.marks.fence ≢ 0) × (get_or o.ring 6 0 ≡ 0 → get_or ring 6 0 ≡ 0)

  pub left_never_zero : (g : Ring) (ring : List ℕ) (b : ℕ) (a : Line Machine) → s.posts ≡ posts_in g → a.machine.posted ≡ posted_in (posts_in g) ring
      → Clear (posts_in g) (length ring) → NeverZero ring a (left g ring a.words (runs turn b a))
  unfolding left
  left_never_zero g ring b a by-min start clear =
      let r = runs turn b a in
      let after = (left g ring a.words r).ring in
      let kept : r.line.machine.posted ≡ a.machine.posted → get_or after 6 0 ≡ 0 → get_or ring 6 0 ≡ 0 =
      λ same z. sym (left_same g ring a.words r (same ∙ start)) ∙ z in (
        λ with-one. ⊎_elim (λ without. absurd (with-one without)) (λ n. n) (runs_some b a),
        cases (posts_in g)
            (λ shown.
            ⊎_elim
            (λ without. kept (runs_no_fence b a without).0)
            (λ n.
            ⊎_elim
            (λ without. kept (runs_no_fence b a without).0)
            (λ e z. absurd (n (sym e ∙ sym (left_posted g ring b a by-min start clear) ∙ posted_six (posts_in g) after shown ∙ z)))
            (runs_posted (by-min ∙ shown) b a))
            (runs_some b a))
            (λ e. kept (runs_unposted (by-min ∙ e) b a)),
      )

  -- a line that did not move tells the same
  pub still_tells : (g : Ring) (ring : List ℕ) (a : Line Machine) (o : RingOutcome) → o.count ≡ 0 → o.ring ≡ ring → o.machine ≡ a.machine → Tells g ring a o
  still_tells g ring a o uncounted same kept = (
    λ h. (ap (λ (l : List ℕ). get_or l 6 0) same, ap (λ (m : Machine). m.marks.fence) kept),
    λ low with-one. absurd (with-one (λ j l. absurd (omega arith))),
  )

  -- nor does it bring word 6 to 0
  pub still_never_zero : (ring : List ℕ) (a : Line Machine) (o : RingOutcome) → o.count ≡ 0 → o.ring ≡ ring → NeverZero ring a o
  still_never_zero ring a o uncounted same = (
    λ with-one. absurd (with-one (λ j l. absurd (omega arith))),
    λ z. sym (ap (λ (l : List ℕ). get_or l 6 0) same) ∙ z,
  )
