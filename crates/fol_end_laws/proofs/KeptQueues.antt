-- What the events leave to the queued tasks of a Ticking region.
use Rattle.std.proofs.Common.{◌≡◌, ℕ, ◌<◌, refl, sym, ◌∙◌, ap, arith, true, false, inl, inr, List, [], ◌∷◌, ◌++◌, ◌&&◌}
use Rattle.std.specs.Prelude.{◌≢◌, nat_eq, nat_le, Option, Some, None}
use Rattle.std.proofs.lemmas.Bool.{cases_Bool, and_parts, eqb-true, eq-eqb, ne_eqb}
use Rattle.fol_model.specs.declared.places.SectionPos.{SectionPos}
use Rattle.fol_model.specs.declared.regions.State.TheVariants.{Ticking}
use Rattle.fol_model.specs.Geometry.{section_of}
use Rattle.fol_model.specs.GridState.{GridState}
use Rattle.fol_model.specs.GridNumbers.{IsGrid}
use Rattle.fol_model.specs.World.{World, start}
use Rattle.fol_model.specs.Job.{Job}
use Rattle.fol_model.specs.QueuedTask.{counted_down, is_queued_in, queued_in}
use Rattle.fol_model.specs.End.{left}
use Rattle.fol_model.specs.Run.{after, after_all, Allowed, RunFrom}
use Rattle.fol_model.specs.OpenTick.{is_begin, is_end, NoEnd}
use Rattle.fol_model.specs.declared.openings.Opening.{Opening}
use Rattle.fol_model.specs.declared.events.Entry.{Entry}
use Rattle.fol_model.specs.declared.events.Event.{Event}
use Rattle.fol_model.specs.declared.events.Event.TheVariants.{Load, Unload, Post, PhaseOpen, Begin, End, PhaseClose, Finish, Stop}
use Rattle.fol_laws.specs.Steps.{SameSections}
use Rattle.fol_laws.proofs.Tests.{same_answer}
use Rattle.fol_laws.proofs.SoundState.{SoundWorld}
use Rattle.fol_laws.proofs.TaskFates.{fated}
use Rattle.fol_laws.proofs.TickingKept.{kept_after}
use Rattle.fol_laws.proofs.OwnedRuns.{began_ticks}
use Rattle.fol_laws.proofs.WholeRuns.{Good, good_after, good_start}
use Rattle.fol_end_laws.specs.KeptQueue.{SameQueue}

-- ---- one task
module _ (q : ℕ) (g h : GridState) (same : SameSections g h q) (grid : h.grid ≡ g.grid) where
  same_owner : (s : SectionPos) → nat_eq (h.owner s) q ≡ nat_eq (g.owner s) q
  same_owner s = same_answer _ _ (λ e. eq-eqb _ _ ((same s).1 (eqb-true _ _ e))) (λ e. eq-eqb _ _ ((same s).0 (eqb-true _ _ e)))

  same_queued : (j : Job) → is_queued_in h q j ≡ is_queued_in g q j
  same_queued j = let e = same_owner (section_of g.grid j.chunk) in rw (grid, e) refl

  pub kept_still : (o : Option Job) → queued_in h q o ≡ queued_in g q o
  unfolding queued_in
  kept_still None = refl
  kept_still (Some j) = rw (same_queued j) refl

  not_owned : (r : ℕ) (j : Job) → q ≢ r → nat_eq (g.owner (section_of g.grid j.chunk)) r ≡ true → nat_eq (g.owner (section_of g.grid j.chunk)) q ≡ false
  not_owned r j d e = ne_eqb _ _ (λ x. d (sym x ∙ eqb-true _ _ e))

  kept_down : (r : ℕ) → q ≢ r → (o : Option Job) → queued_in h q (counted_down g r o) ≡ queued_in g q o
  unfolding queued_in
  kept_down r d None = refl
  kept_down r d (Some j) = elim (cases_Bool (nat_eq j.taker 0 && nat_eq (g.owner (section_of g.grid j.chunk)) r)) [
    | inl k ↦
        let z : nat_eq j.taker 0 ≡ true = (and_parts (nat_eq j.taker 0) (nat_eq (g.owner (section_of g.grid j.chunk)) r) k).0 in
        let n : nat_eq (g.owner (section_of g.grid j.chunk)) q ≡ false = not_owned r j d (and_parts (nat_eq j.taker 0) (nat_eq (g.owner (section_of g.grid j.chunk)) r) k).1 in
        let m : nat_eq (h.owner (section_of g.grid j.chunk)) q ≡ false = same_owner (section_of g.grid j.chunk) ∙ n in
        elim (cases_Bool (nat_le j.rest 1)) [
          | inl l ↦ elim (cases_Bool (nat_eq r 0)) [ inl t ↦ rw (k, l, grid, t, m, z, n) refl | inr t ↦ rw (k, l, grid, t, z, n) refl ]
          | inr l ↦ rw (k, l, grid, m, z, n) refl
        ]
    | inr k ↦ rw k (kept_still (Some j))
  ]

  pub kept_left : (r : ℕ) → 0 < r → (o : Option Job) → queued_in h q (left r o) ≡ queued_in g q o
  unfolding queued_in
  kept_left r p None = refl
  kept_left r p (Some j) = elim (cases_Bool (nat_eq j.taker r)) [
    | inl k ↦ let e : j.taker ≡ r = eqb-true _ _ k in let z : nat_eq j.taker 0 ≡ false = ne_eqb _ _ (λ x. omega arith) in rw (k, z) refl
    | inr k ↦ rw k (kept_still (Some j))
  ]

-- ---- each event but an End of q
kept_event : (q : ℕ) (w : World) (e : Event) → SoundWorld w → w.grid.state q ≡ Ticking → Allowed w e → is_end q e ≡ false → (n : ℕ) → n < w.next_job
    → queued_in (after w e).grid q ((after w e).jobs n) ≡ queued_in w.grid q (w.jobs n)
kept_event q w (Load caller c answer) s t a n k l = let e = Load caller c answer in let m = kept_after q w e s t a n in rw ((fated w e).jobs k l) (kept_still q w.grid (after w e).grid m.sections m.grid (w.jobs k))
kept_event q w (Unload caller c answer) s t a n k l = let e = Unload caller c answer in let m = kept_after q w e s t a n in rw ((fated w e).jobs k l) (kept_still q w.grid (after w e).grid m.sections m.grid (w.jobs k))
kept_event q w (Post caller c d x answer) s t a n k l = let e = Post caller c d x answer in let m = kept_after q w e s t a n in rw ((fated w e).jobs k l) (kept_still q w.grid (after w e).grid m.sections m.grid (w.jobs k))
kept_event q w (PhaseOpen i) s t a n k l = refl
kept_event q w (Begin worker r) s t a n k l =
    let e = Begin worker r in
    let m = kept_after q w e s t a n in
    let d : q ≢ r = λ x. let y : w.grid.state q ≡ w.grid.state r = ap w.grid.state x in let z = a.0 in absurd (cc) in
    rw ((fated w e).jobs k l) (kept_down q w.grid (after w e).grid m.sections m.grid r d (w.jobs k))
kept_event q w (End worker r tick ran accepts) s t a n k l =
    let e = End worker r tick ran accepts in
    let m = kept_after q w e s t a n in
    let z = a.0 in
    let p : 0 < r = s.rules.given r (λ x. cc) in
    rw ((fated w e).jobs k l) (kept_left q w.grid (after w e).grid m.sections m.grid r p (w.jobs k))
kept_event q w PhaseClose s t a n k l = refl
kept_event q w Finish s t a n k l = refl
kept_event q w (Stop caller) s t a n k l = refl

-- ---- along entries that have no End of q
kept_along : (o : Opening) (w : World) (mid rest : List Entry) (q : ℕ) → Good o w → w.grid.state q ≡ Ticking → NoEnd q mid → RunFrom w (mid ++ rest) → SameQueue q w (after_all w mid)
kept_along o w [] rest q g t n run = record { jobs = λ k l. refl }
kept_along o w (e ∷ mid) rest q g t n run =
    let m = kept_after q w e.event g.sound t run.1 n.0 in
    let b = kept_along o (after w e.event) mid rest q (good_after o w e.event g run.1) m.ticks n.1 run.2 in
    record { jobs = λ k l. b.jobs k (let x = (fated w e.event).next in omega arith) ∙ kept_event q w e.event g.sound t run.1 n.0 k l }

kept_from : (o : Opening) (w : World) (es mid rest : List Entry) (e : Entry) (r : ℕ) → Good o w → is_begin r e.event ≡ true → NoEnd r mid
    → RunFrom w (es ++ e ∷ (mid ++ rest)) → SameQueue r (after (after_all w es) e.event) (after_all (after (after_all w es) e.event) mid)
kept_from o w [] mid rest e r g b n run = kept_along o (after w e.event) mid rest r (good_after o w e.event g run.1) (began_ticks w e.event r b) n run.2
kept_from o w (x ∷ es) mid rest e r g b n run = kept_from o (after w x.event) es mid rest e r (good_after o w x.event g run.1) b n run.2

pub queue_kept : (o : Opening) (es mid rest : List Entry) (e : Entry) (r : ℕ) → IsGrid o.grid → is_begin r e.event ≡ true → NoEnd r mid
    → RunFrom (start o) (es ++ e ∷ (mid ++ rest)) → SameQueue r (after (after_all (start o) es) e.event) (after_all (after (after_all (start o) es) e.event) mid)
queue_kept o es mid rest e r ok b n run = kept_from o (start o) es mid rest e r (good_start o ok) b n run
