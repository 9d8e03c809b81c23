-- A tick that was run on the contents at its Begin is what its End makes of the world as it is then.
use Rattle.std.proofs.Common.{◌≡◌, ℕ, zero, suc, refl, sym, ◌∙◌, ap, arith, true, false, not, inl, inr, List, ◌∷◌, ◌++◌}
use Rattle.std.specs.Prelude.{nat_eq, Option, Some, None}
use Rattle.std.specs.List.{AllByRecursion}
use Rattle.std.proofs.lemmas.Bool.{cases_Bool, eqb-true, true≢false}
use Rattle.fol_model.specs.declared.places.ChunkPos.{ChunkPos}
use Rattle.fol_model.specs.Geometry.{chunk_of}
use Rattle.fol_model.specs.Job.{Job, taken_task}
use Rattle.fol_model.specs.ActionStep.{Recorded}
use Rattle.fol_model.specs.declared.regions.State.TheVariants.{Ticking}
use Rattle.fol_model.specs.declared.tasks.Ran.{Ran}
use Rattle.fol_model.specs.declared.openings.Opening.{Opening}
use Rattle.fol_model.specs.declared.events.Entry.{Entry}
use Rattle.fol_model.specs.GridNumbers.{IsGrid}
use Rattle.fol_model.specs.FlatTick.{FlatEnd, flat_tick}
use Rattle.fol_model.specs.World.{World, start, due, due_below}
use Rattle.fol_model.specs.End.{dropped, ticked, outcome_in, run_down, ended}
use Rattle.fol_model.specs.Run.{after, after_all, RunFrom}
use Rattle.fol_model.specs.OpenTick.{is_begin, NoEnd}
use Rattle.fol_laws.specs.Contents.{SameOn}
use Rattle.fol_laws.specs.Ownership.{Untouched}
use Rattle.fol_laws.proofs.OutcomesAgain.{due_rising, same_again}
use Rattle.fol_laws.proofs.TickReads.{same_tick}
use Rattle.fol_laws.proofs.OwnedRuns.{same_then, flat_same, owned, detached, total_most}
use Rattle.fol_laws.proofs.UnseenEnds.{ended_apart}
use Rattle.fol_laws.proofs.EntityTotals.{due_total}
use Rattle.fol_laws.proofs.SortedRows.{all_append}
use Rattle.fol_laws.proofs.UnseenTicks.{acted_outside, ticked_unseen}
use Rattle.fol_laws.proofs.WishLimits.{due_ok}
use Rattle.fol_laws.proofs.WholeRuns.{Good, good_run}
use Rattle.fol_end_laws.specs.FinishedTick.{EndsAsRun}

pub ends_as_run : (r : ℕ) (v w : World) → Untouched r v w → EndsAsRun r v w
ends_as_run r v w u given f same =
    let run = flat_tick (v.recorded r) given (due v r) f in
    let again = flat_tick (v.recorded r) (outcome_in run.ran) (due v r) f in
    let a : again ≡ run = same_again (v.recorded r) given f (due v r) (due_rising v r v.next_job) in
    let b = same_tick (v.recorded r) (outcome_in run.ran) (due v r) f v.flat same in
    let d = detached v w r run.ran u in
    record {
      ran = sym d.outcomes ∙ sym b.ran ∙ ap (λ (x : FlatEnd). x.ran) a;
      wishes = sym d.wishes ∙ sym b.wishes ∙ ap (λ (x : FlatEnd). x.wishes) a;
      flat = same_then (v.recorded r) run.flat again.flat (ticked w r run.ran).flat (flat_same (v.recorded r) run.flat again.flat (ap (λ (x : FlatEnd). x.flat) a))
          (same_then (v.recorded r) again.flat (ticked v r run.ran).flat (ticked w r run.ran).flat b.flat d.flat);
    }

pub finished_ends : (o : Opening) (es mid rest : List Entry) (e : Entry) (r : ℕ) → IsGrid o.grid → is_begin r e.event ≡ true → NoEnd r mid
    → RunFrom (start o) (es ++ e ∷ (mid ++ rest)) → EndsAsRun r (after (after_all (start o) es) e.event) (after_all (after (after_all (start o) es) e.event) mid)
finished_ends o es mid rest e r ok b n run = ends_as_run r _ _ (owned o es mid rest e r ok b n run)

-- ---- what an End leaves alone
pub rest_kept : (o : Opening) (es rest : List Entry) → IsGrid o.grid → RunFrom (start o) (es ++ rest) → (r : ℕ) (ran : List Ran) → (after_all (start o) es).grid.state r ≡ Ticking
    → SameOn (λ c. not ((after_all (start o) es).recorded r c)) (after_all (start o) es).flat (ended (after_all (start o) es) r ran).flat
rest_kept o es rest ok run r ran t =
    let w = after_all (start o) es in
    let g = good_run o es rest ok run in
    ended_apart w g.sound g.recorded r t (λ c. not (w.recorded r c)) (λ c h. rw h refl) ran (total_most o w g.place)

-- ---- what the tasks of a tick leave alone
taken_recorded : (rec : Recorded) (r n : ℕ) (o : Option Job) → ((j : Job) → o ≡ Some j → j.taker ≡ r → rec j.chunk ≡ true) → AllByRecursion (λ t. rec t.chunk ≡ true) (taken_task r n o)
taken_recorded rec r n None h = tt
taken_recorded rec r n (Some j) h = elim (cases_Bool (nat_eq j.taker r)) [ inl e ↦ rw e (h j refl (eqb-true _ _ e), tt) | inr e ↦ rw e tt ]

due_recorded : (w : World) (r n : ℕ) → ((k : ℕ) (j : Job) → w.jobs k ≡ Some j → j.taker ≡ r → w.recorded r j.chunk ≡ true) → AllByRecursion (λ t. w.recorded r t.chunk ≡ true) (due_below w r n)
unfolding due_below
due_recorded w r zero h = tt
due_recorded w r (suc n) h = all_append (λ t. w.recorded r t.chunk ≡ true) (due_below w r n) (taken_task r n (w.jobs n)) (due_recorded w r n h) (taken_recorded (w.recorded r) r n (w.jobs n) (h n))

-- the due tasks of an open tick are on its recorded chunks
pub due_on_recorded : (o : Opening) (w : World) (r : ℕ) → Good o w → w.grid.state r ≡ Ticking → AllByRecursion (λ t. w.recorded r t.chunk ≡ true) (due w r)
due_on_recorded o w r g t = due_recorded w r w.next_job (λ k j e h.
    let p = g.sound.rules.given r (λ x. cc) in
    ap (λ (i : ℕ). w.recorded i j.chunk) (sym h) ∙ g.recorded.taken k j e (λ z. omega arith))

not_passed : (rec : Recorded) (c : ChunkPos) → not (rec c) ≡ true → rec c ≡ false
not_passed rec c h = elim (cases_Bool (rec c)) [ inl e ↦ let x : not true ≡ true = rw e at h in absurd (true≢false (sym x)) | inr e ↦ e ]

pub tasks_kept : (o : Opening) (es rest : List Entry) → IsGrid o.grid → RunFrom (start o) (es ++ rest) → (r : ℕ) (ran : List Ran) → (after_all (start o) es).grid.state r ≡ Ticking
    → SameOn (λ c. not ((after_all (start o) es).recorded r c)) (after_all (start o) es).flat (run_down (after_all (start o) es) r ran).flat
unfolding dropped flat_tick
tasks_kept o es rest ok run r ran t =
    let w = after_all (start o) es in
    let g = good_run o es rest ok run in
    record {
      blocks = λ b h. sym (acted_outside (w.recorded r) w.flat (due w r) b (not_passed (w.recorded r) (chunk_of b) h));
      standing = λ id. sym (ticked_unseen (w.recorded r) (λ c. not (w.recorded r c)) (λ c h. rw h refl) w.flat (due w r) id (due_ok w r w.next_job g.sound.each)
          (due_on_recorded o w r g t) (due_total id w r (total_most o w g.place id)));
    }
