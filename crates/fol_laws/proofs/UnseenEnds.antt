-- An End changes nothing in the recorded chunks of another Ticking region.
use Rattle.std.proofs.Common.{◌≡◌, ℕ, zero, suc, ◌≤◌, refl, sym, ◌∙◌, ap, arith, true, false, inl, inr, List}
use Rattle.std.specs.Prelude.{◌≢◌, nat_eq, Option, Some, None}
use Rattle.std.specs.List.{AllByRecursion}
use Rattle.std.proofs.lemmas.Bool.{cases_Bool, true≢false, eqb-true}
use Rattle.fol_model.specs.declared.places.ChunkPos.{ChunkPos}
use Rattle.fol_model.specs.declared.regions.State.TheVariants.{Ticking}
use Rattle.fol_model.specs.Geometry.{section_of, chunk_of}
use Rattle.fol_model.specs.ActionStep.{Flat, Recorded}
use Rattle.fol_model.specs.FlatTick.{flat_tick}
use Rattle.fol_model.specs.World.{World, due, due_below}
use Rattle.fol_model.specs.Job.{Job, taken_task}
use Rattle.fol_model.specs.End.{dropped, ticked, all_accepted, released, run_down, ended}
use Rattle.fol_laws.proofs.SoundState.{SoundWorld}
use Rattle.fol_laws.specs.Contents.{seen, SameOn}
use Rattle.fol_laws.specs.Ownership.{RecordedHasMargin}
use Rattle.fol_model.specs.declared.places.BlockPos.{BlockPos}
use Rattle.fol_model.specs.declared.tasks.Ran.{Ran}
use Rattle.fol_laws.proofs.WishLimits.{due_ok}
use Rattle.fol_laws.proofs.SoundRuns.{wishes_ok, run_down_ending}
use Rattle.fol_laws.proofs.RecordedMargins.{RecordedOk}
use Rattle.fol_laws.proofs.EntityTotals.{total, due_total, run_down_total}
use Rattle.fol_laws.proofs.Distances.{self_distance}
use Rattle.fol_laws.proofs.UnseenTicks.{acted_outside, ticked_unseen, all_unseen, wishes_blocks}
use Rattle.fol_laws.proofs.SortedRows.{all_append}

-- ---- two Ticking regions have no recorded chunk in common
pub recorded_owner : (w : World) (r : ℕ) (c : ChunkPos) → RecordedHasMargin w → w.grid.state r ≡ Ticking → w.recorded r c ≡ true → w.grid.owner (section_of w.grid.grid c) ≡ r
recorded_owner w r c m t h = m r c (section_of w.grid.grid c) t h (omega (arith, self_distance (section_of w.grid.grid c)))

pub recorded_apart : (w : World) (r q : ℕ) → RecordedHasMargin w → w.grid.state r ≡ Ticking → w.grid.state q ≡ Ticking → q ≢ r → (c : ChunkPos) → w.recorded r c ≡ true → w.recorded q c ≡ false
recorded_apart w r q m tr tq d c h = elim (cases_Bool (w.recorded q c)) [
  | inl e ↦ absurd (d (sym (recorded_owner w q c m tq e) ∙ recorded_owner w r c m tr h))
  | inr e ↦ e
]

-- the due tasks are on recorded chunks
taken_recorded : (rec : Recorded) (r n : ℕ) (o : Option Job) → ((j : Job) → o ≡ Some j → j.taker ≡ r → rec j.chunk ≡ true) → AllByRecursion (λ t. rec t.chunk ≡ true) (taken_task r n o)
taken_recorded rec r n None h = tt
taken_recorded rec r n (Some j) h = elim (cases_Bool (nat_eq j.taker r)) [ inl e ↦ rw e (h j refl (eqb-true _ _ e), tt) | inr e ↦ rw e tt ]

due_recorded : (w : World) (r n : ℕ) → ((k : ℕ) (j : Job) → w.jobs k ≡ Some j → j.taker ≡ r → w.recorded r j.chunk ≡ true) → AllByRecursion (λ t. w.recorded r t.chunk ≡ true) (due_below w r n)
unfolding due_below
due_recorded w r zero h = tt
due_recorded w r (suc n) h = all_append (λ t. w.recorded r t.chunk ≡ true) (due_below w r n) (taken_task r n (w.jobs n)) (due_recorded w r n h) (taken_recorded (w.recorded r) r n (w.jobs n) (h n))

-- the chunks of `other` are none of r's recorded ones
module _ (w : World) (s : SoundWorld w) (ok : RecordedOk w) (r : ℕ) (tr : w.grid.state r ≡ Ticking) (other : Recorded) (apart : (c : ChunkPos) → w.recorded r c ≡ true → other c ≡ false) where
  job_recorded : (k : ℕ) (j : Job) → w.jobs k ≡ Some j → j.taker ≡ r → w.recorded r j.chunk ≡ true
  job_recorded k j e t = let p = s.rules.given r (λ x. cc) in
      ap (λ (i : ℕ). w.recorded i j.chunk) (sym t) ∙ ok.taken k j e (λ z. omega arith)

  swap_apart : (c : ChunkPos) → other c ≡ true → w.recorded r c ≡ false
  swap_apart c h = elim (cases_Bool (w.recorded r c)) [ inl e ↦ absurd (true≢false (sym h ∙ apart c e)) | inr e ↦ e ]

  down_blocks : (ran : List Ran) (b : BlockPos) → other (chunk_of b) ≡ true → (run_down w r ran).flat.blocks b ≡ w.flat.blocks b
  unfolding dropped flat_tick
  down_blocks ran b h = acted_outside (w.recorded r) w.flat (due w r) b (swap_apart (chunk_of b) h)

  down_unseen : (ran : List Ran) (id : ℕ) → total id w ≤ 1 → seen other ((run_down w r ran).flat.standing id) ≡ seen other (w.flat.standing id)
  unfolding dropped flat_tick
  down_unseen ran id m = ticked_unseen (w.recorded r) other apart w.flat (due w r) id (due_ok w r w.next_job s.each) (due_recorded w r w.next_job job_recorded) (due_total id w r m)

  released_flat : (v : World) → (released v r).flat ≡ v.flat
  unfolding released
  released_flat v = refl

  pub ended_apart : (ran : List Ran) → ((id : ℕ) → total id w ≤ 1) → SameOn other w.flat (ended w r ran).flat
  unfolding ended
  ended_apart ran most =
      let xs = (ticked w r ran).wishes in
      let v = all_accepted (run_down w r ran) xs in
      record {
        blocks = λ b h. sym (ap (λ (f : Flat). f.blocks b) (released_flat v) ∙ ap (λ (f : BlockPos → ℕ). f b) (wishes_blocks (run_down w r ran) xs) ∙ down_blocks ran b h);
        standing = λ id. sym (ap (λ (f : Flat). seen other (f.standing id)) (released_flat v)
            ∙ all_unseen (w.recorded r) other apart (run_down w r ran) xs r id (run_down_ending w r ran s tr) (wishes_ok w r ran s)
            (let x = run_down_total id w r ran s (most id) in let y = most id in omega arith)
            ∙ down_unseen ran id (most id));
      }

-- another Ticking region's recorded chunks
pub ended_same : (w : World) (s : SoundWorld w) (ok : RecordedOk w) (q r : ℕ) → w.grid.state q ≡ Ticking → w.grid.state r ≡ Ticking → q ≢ r → (ran : List Ran) → ((id : ℕ) → total id w ≤ 1) → SameOn (w.recorded q) w.flat (ended w r ran).flat
ended_same w s ok q r tq tr d ran most = ended_apart w s ok r tr (w.recorded q) (recorded_apart w r q ok.margin tr tq d) ran most
