-- Events leave what is offered where it is.
use Rattle.std.proofs.Common.{◌≡◌, ℕ, List, sym, refl, ap, ◌∙◌, Bool, true, false, inl, inr, true≢false, Result, Ok, Err, IfOk, OnErr}
use Rattle.std.proofs.lemmas.Bool.{cases_Bool, false_from_ne_true, or_parts}
use Rattle.std.specs.Prelude.{nat_eq, if◌then◌else◌}
use Rattle.std.specs.declared.alloc.AllocError.{AllocError}
use Rattle.fol_model.specs.declared.places.ChunkPos.{ChunkPos}
use Rattle.fol_model.specs.declared.events.Loaded.{Loaded}
use Rattle.fol_model.specs.declared.events.Loaded.TheVariants as loads
use Rattle.fol_model.specs.declared.events.Unloaded.{Unloaded}
use Rattle.fol_model.specs.declared.events.Unloaded.TheVariants as unloads
use Rattle.fol_model.specs.declared.events.Accept.TheVariants as accepts
use Rattle.fol_model.specs.declared.actions.Action.{Action}
use Rattle.fol_model.specs.declared.events.Event.TheVariants.{Finish, Load, PhaseClose, PhaseOpen, Post, Stop, Unload}
use Rattle.fol_core.specs.declared.answers.Close.{Close}
use Rattle.fol_core.specs.declared.answers.Close.TheVariants as closes
use Rattle.fol_core.specs.declared.answers.Finish as finish
use Rattle.fol_core.specs.declared.answers.Finish.TheVariants as finishes
use Rattle.fol_core.specs.declared.answers.Phase.{Phase}
use Rattle.fol_core.specs.declared.answers.Phase.TheVariants as phases
use Rattle.fol_core.specs.declared.answers.Posting.{Posting}
use Rattle.fol_core.specs.declared.answers.Posting.TheVariants as postings
use Rattle.fol_model.specs.GridState.{is_ready}
use Rattle.fol_model.specs.Add.{is_full}
use Rattle.fol_model.specs.Holds.{loaded, posted, unloaded}
use Rattle.fol_model.specs.World.{World}
use Rattle.fol_model.specs.Run.{Run}
use Rattle.fol_laws.specs.LateBegin.{load_touches, post_touches, unload_touches}
use Rattle.fol_core.specs.Ahead.{NonePrepared, Spares, may_touch}
use Rattle.fol_core.specs.Answers.{CloseRecords, FinishRecords, LoadRecords, PhaseRecords, PostRecords, StopRecords, UnloadRecords, finish_result, is_over}
use Rattle.fol_core.specs.Meaning.{Meaning, Stays, Unchanged, is_prepared, world_of}
use Rattle.fol_tick_laws.specs.Touching.{IsSpared, is_touched}
use Rattle.fol_tick_laws.proofs.Touching.{touched_within}
use Rattle.fol_slots.specs.Shown.{Keeper}
use Rattle.fol_offers.specs.Offered.{Offered}
use Rattle.fol_offers.specs.Shown.{CallsBack, Shown}
use Rattle.fol_offers.specs.Tied.{Tied}
use Rattle.fol_offers.proofs.CalledBack.{back_may, back_spared}
use Rattle.fol_offers.proofs.Facts.{none_outside, prepared_ready}
use Rattle.fol_offers.proofs.Tying.{one_more, tied_event, tied_stays}

-- once all was called back that it may touch, an event on a chunk spares what is prepared still
pub spared : (a b : Shown) (s : Keeper Offered) (xs : List ℕ) (by : ℕ) (c : ChunkPos) → Tied b.core s xs → Run b.core.opening b.core.history → CallsBack a b by (may_touch (world_of a.core) c) → IsSpared b.core c
spared a b s xs by c t run back =
    let none : (r : ℕ) → is_prepared b.core r ≡ true → is_touched (world_of b.core) c r ≡ false = λ r marked. false_from_ne_true (is_touched (world_of b.core) c r) (λ touched.
    let ready : is_ready ((world_of b.core).grid.state r) ≡ true = ap is_ready (prepared_ready b.core s xs r t run marked) in
    true≢false (sym (touched_within (world_of b.core) c r ready touched) ∙ (back_may a b by (may_touch (world_of a.core) c) back c r marked ∙ (back_spared a b by (may_touch (world_of a.core) c) back r marked).1))) in
    let first = λ (r : ℕ) (marked : is_prepared b.core r ≡ true). or_parts (load_touches (world_of b.core).grid c r) _ (none r marked) in
    let others = λ (r : ℕ) (marked : is_prepared b.core r ≡ true). or_parts (post_touches (world_of b.core).grid c r) (unload_touches (world_of b.core) c r) (first r marked).1 in
    record {
      load = λ r marked. (first r marked).0;
      post = λ r marked. (others r marked).0;
      unload = λ r marked. (others r marked).1;
    }

-- ---- no such event ends the history

over_loaded : (w : World) (c : ChunkPos) → is_over (loaded w c) ≡ is_over w
unfolding loaded
over_loaded w c = elim (cases_Bool (is_full w.grid c)) [ inl f ↦ rw f refl | inr f ↦ rw f refl ]

over_unloaded : (w : World) (c : ChunkPos) → is_over (unloaded w c) ≡ is_over w
unfolding unloaded
over_unloaded w c = elim (cases_Bool (nat_eq (w.tickets c) 0)) [ inl f ↦ rw f refl | inr f ↦ rw f refl ]

over_posted : (w : World) (c : ChunkPos) (d : ℕ) (x : Action) → is_over (posted w c d x) ≡ is_over w
unfolding posted
over_posted w c d x = elim (cases_Bool (is_full w.grid c)) [ inl f ↦ rw f refl | inr f ↦ rw f refl ]

-- ---- events that spare what is prepared

module _ (m n : Meaning) (s : Keeper Offered) (xs : List ℕ) (by : ℕ) (t : Tied m s xs) where
  same : Unchanged m n → Tied n s xs
  same did = tied_stays m n s xs record { opening = did.opening; history = did.history; prepared = did.prepared } t

  pub tied_loads : (c : ChunkPos) (r : Result Loaded AllocError) → Spares m (load_touches (world_of m).grid c) → IfOk r (λ a. LoadRecords m n by c a) → OnErr r (Stays m n) → Tied n s xs
  tied_loads c (Ok loads.Counted) spares did none = tied_event m n s xs by (Load by c loads.Counted) t did (λ q z. (spares q z, refl)) (λ q. (refl, refl)) (λ over. t.calm (sym (ap is_over (one_more m n _ did.opening did.history) ∙ over_loaded (world_of m) c) ∙ over))
  tied_loads c (Ok (loads.Full present wanted)) spares did none = tied_event m n s xs by (Load by c (loads.Full present wanted)) t did (λ q z. (spares q z, refl)) (λ q. (refl, refl)) (λ over. t.calm (sym (ap is_over (one_more m n _ did.opening did.history) ∙ over_loaded (world_of m) c) ∙ over))
  tied_loads c (Ok loads.Over) spares did none = same did
  tied_loads c (Err e) spares did none = tied_stays m n s xs none t

  pub tied_unloads : (c : ChunkPos) (r : Result Unloaded AllocError) → Spares m (unload_touches (world_of m) c) → IfOk r (λ a. UnloadRecords m n by c a) → OnErr r (Stays m n) → Tied n s xs
  tied_unloads c (Ok unloads.Lowered) spares did none = tied_event m n s xs by (Unload by c unloads.Lowered) t did (λ q z. (spares q z, refl)) (λ q. (refl, refl)) (λ over. t.calm (sym (ap is_over (one_more m n _ did.opening did.history) ∙ over_unloaded (world_of m) c) ∙ over))
  tied_unloads c (Ok unloads.NoTicket) spares did none = tied_event m n s xs by (Unload by c unloads.NoTicket) t did (λ q z. (spares q z, refl)) (λ q. (refl, refl)) (λ over. t.calm (sym (ap is_over (one_more m n _ did.opening did.history) ∙ over_unloaded (world_of m) c) ∙ over))
  tied_unloads c (Ok unloads.Over) spares did none = same did
  tied_unloads c (Err e) spares did none = tied_stays m n s xs none t

  pub tied_posts : (c : ChunkPos) (d : ℕ) (x : Action) (r : Result Posting Action) → Spares m (post_touches (world_of m).grid c) → IfOk r (λ a. PostRecords m n by c d x a) → OnErr r (Stays m n) → Tied n s xs
  tied_posts c d x (Ok (postings.Posted k)) spares did none = tied_event m n s xs by (Post by c d x (accepts.Posted k)) t did (λ q z. (spares q z, refl)) (λ q. (refl, refl)) (λ over. t.calm (sym (ap is_over (one_more m n _ did.opening did.history) ∙ over_posted (world_of m) c d x) ∙ over))
  tied_posts c d x (Ok (postings.Full present wanted)) spares did none = tied_event m n s xs by (Post by c d x (accepts.Full present wanted)) t did (λ q z. (spares q z, refl)) (λ q. (refl, refl)) (λ over. t.calm (sym (ap is_over (one_more m n _ did.opening did.history) ∙ over_posted (world_of m) c d x) ∙ over))
  tied_posts c d x (Ok (postings.Over back)) spares did none = same did
  tied_posts c d x (Err back) spares did none = tied_stays m n s xs none t

  pub tied_phases : (k : ℕ) (r : Result Phase AllocError) → IfOk r (λ a. PhaseRecords m n by k a) → OnErr r (Stays m n) → Tied n s xs
  tied_phases k (Ok phases.Opened) did none = tied_event m n s xs by (PhaseOpen k) t did (λ q z. (refl, refl)) (λ q. (refl, refl)) (λ over. t.calm (sym (ap is_over (one_more m n _ did.opening did.history)) ∙ over))
  tied_phases k (Ok phases.InPhase) did none = same did
  tied_phases k (Ok phases.Over) did none = same did
  tied_phases k (Err e) did none = tied_stays m n s xs none t

  pub tied_closes : (r : Result Close AllocError) → IfOk r (λ a. CloseRecords m n by a) → OnErr r (Stays m n) → Tied n s xs
  tied_closes (Ok closes.Closed) did none = tied_event m n s xs by PhaseClose t did (λ q z. (refl, refl)) (λ q. (refl, refl)) (λ over. t.calm (sym (ap is_over (one_more m n _ did.opening did.history)) ∙ over))
  tied_closes (Ok (closes.NotYet q)) did none = same did
  tied_closes (Ok closes.NoPhase) did none = same did
  tied_closes (Ok closes.Over) did none = same did
  tied_closes (Err e) did none = tied_stays m n s xs none t

  -- no region owes a tick where a history is finished
  pub tied_finishes : (r : Result finish.Finish AllocError) → Run m.opening m.history → IfOk r (λ a. a ≡ finish_result (world_of m)) → IfOk r (λ a. FinishRecords m n by a) → OnErr r (Stays m n) → Tied n s xs
  tied_finishes (Ok finishes.Finished) run told did none = tied_event m n s xs by Finish t did (λ q z. (refl, refl)) (λ q. (refl, refl))
      (λ over. none_outside m s xs t run (no_phase (is_over (world_of m)) (world_of m).in_phase told))
    where
      no_phase : (o p : Bool) → finishes.Finished ≡ (if o then finishes.Over else (if p then finishes.InPhase else finishes.Finished)) → p ≡ false
      no_phase true p e = absurd (cc)
      no_phase false true e = absurd (cc)
      no_phase false false e = refl
  tied_finishes (Ok finishes.InPhase) run told did none = same did
  tied_finishes (Ok finishes.Over) run told did none = same did
  tied_finishes (Err e) run told did none = tied_stays m n s xs none t

  pub tied_stops : (b : Bool) → NonePrepared m → StopRecords m n by b → Tied n s xs
  tied_stops true none did = same did
  tied_stops false none did = tied_event m n s xs by (Stop by) t did (λ q z. absurd (true≢false (sym z ∙ none q))) (λ q. (refl, refl)) (λ over. none)
