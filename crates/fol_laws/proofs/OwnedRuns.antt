-- From a Begin of a region to its End nothing that it owns changes.
use Rattle.std.proofs.Common.{◌≡◌, ℕ, ◌≤◌, refl, sym, ◌∙◌, ap, arith, true, false, inl, inr, List, [], ◌∷◌, ◌++◌}
use Rattle.std.specs.Prelude.{nat_eq}
use Rattle.std.proofs.lemmas.Bool.{cases_Bool, true≢false, eqb-true, eqb-false}
use Rattle.fol_model.specs.declared.places.ChunkPos.{ChunkPos}
use Rattle.fol_model.specs.declared.regions.State.TheVariants.{Ticking}
use Rattle.fol_model.specs.Add.{is_full}
use Rattle.fol_model.specs.GridNumbers.{IsGrid}
use Rattle.fol_model.specs.ActionStep.{Flat, Recorded}
use Rattle.fol_model.specs.World.{World, start, due, standing_in}
use Rattle.fol_model.specs.Holds.{loaded, unloaded, posted}
use Rattle.fol_model.specs.QueuedTask.{begun}
use Rattle.fol_model.specs.End.{ticked, outcome_in}
use Rattle.fol_model.specs.Run.{after, after_all, Allowed, RunFrom}
use Rattle.fol_laws.specs.OnePlace.{OnePlace}
use Rattle.fol_model.specs.FlatTick.{FlatEnd, flat_tick}
use Rattle.fol_model.specs.declared.tasks.Ran.{Ran}
use Rattle.fol_laws.proofs.TickReads.{same_tick}
use Rattle.fol_laws.specs.DetachedTick.{DetachedTick}
use Rattle.fol_laws.specs.Contents.{SameOn}
use Rattle.fol_laws.specs.Ownership.{Untouched}
use Rattle.fol_model.specs.OpenTick.{is_begin, is_end, NoEnd}
use Rattle.fol_model.specs.declared.openings.Opening.{Opening}
use Rattle.fol_model.specs.declared.events.Event.{Event}
use Rattle.fol_model.specs.declared.events.Event.TheVariants.{Load, Unload, Post, PhaseOpen, Begin, End, PhaseClose, Finish, Stop}
use Rattle.fol_model.specs.declared.events.Entry.{Entry}
use Rattle.fol_laws.proofs.GridFields.{begin_here}
use Rattle.fol_laws.proofs.TickingKept.{kept_after}
use Rattle.fol_laws.proofs.TaskFates.{fated, due_kept}
use Rattle.fol_laws.proofs.EntityTotals.{total, one_most}
use Rattle.fol_laws.proofs.UnseenEnds.{ended_same}
use Rattle.fol_laws.proofs.WholeRuns.{Good, good_after, good_start}
use Rattle.fol_laws.proofs.UnseenTicks.{flat_posted}

pub same_self : (rec : Recorded) (f : Flat) → SameOn rec f f
same_self rec f = record { blocks = λ b h. refl; standing = λ id. refl }

pub same_then : (rec : Recorded) (f g h : Flat) → SameOn rec f g → SameOn rec g h → SameOn rec f h
same_then rec f g h a b = record { blocks = λ p k. a.blocks p k ∙ b.blocks p k; standing = λ id. a.standing id ∙ b.standing id }

pub flat_same : (rec : Recorded) (f g : Flat) → g ≡ f → SameOn rec f g
flat_same rec f g e = rw e (same_self rec f)

pub flat_loaded : (w : World) (c : ChunkPos) → (loaded w c).flat ≡ w.flat
unfolding loaded
flat_loaded w c = elim (cases_Bool (is_full w.grid c)) [ inl f ↦ rw f refl | inr f ↦ rw f refl ]

pub flat_unloaded : (w : World) (c : ChunkPos) → (unloaded w c).flat ≡ w.flat
unfolding unloaded
flat_unloaded w c = elim (cases_Bool (nat_eq (w.tickets c) 0)) [ inl f ↦ rw f refl | inr f ↦ rw f refl ]

pub flat_begun : (w : World) (worker r : ℕ) → (begun w worker r).flat ≡ w.flat
unfolding begun
flat_begun w worker r = refl

pub total_most : (o : Opening) (w : World) → OnePlace o w → (id : ℕ) → total id w ≤ 1
total_most o w p id = let m = one_most (standing_in o.entities id) in let q = p id in omega arith

flat_after : (o : Opening) (w : World) (e : Event) (q : ℕ) → Good o w → Allowed w e → w.grid.state q ≡ Ticking → is_end q e ≡ false → SameOn (w.recorded q) w.flat (after w e).flat
flat_after o w (Load caller c answer) q g a t n = flat_same _ w.flat (loaded w c).flat (flat_loaded w c)
flat_after o w (Unload caller c answer) q g a t n = flat_same _ w.flat (unloaded w c).flat (flat_unloaded w c)
flat_after o w (Post caller c d x answer) q g a t n = flat_same _ w.flat (posted w c d x).flat (flat_posted w c d x)
flat_after o w (PhaseOpen k) q g a t n = same_self _ w.flat
flat_after o w (Begin worker r) q g a t n = flat_same _ w.flat (begun w worker r).flat (flat_begun w worker r)
flat_after o w (End worker r tick ran accepts) q g a t n = ended_same w g.sound g.recorded q r t a.0 (λ x. eqb-false r q n (sym x)) ran (total_most o w g.place)
flat_after o w PhaseClose q g a t n = same_self _ w.flat
flat_after o w Finish q g a t n = same_self _ w.flat
flat_after o w (Stop caller) q g a t n = same_self _ w.flat

pub untouched_self : (q : ℕ) (w : World) → w.grid.state q ≡ Ticking → Untouched q w w
untouched_self q w t = record { ticks = t; worker = refl; sections = λ s. ((λ e. e), (λ e. e)); recorded = refl; due = refl; tick = refl; flat = same_self (w.recorded q) w.flat }

untouched_then : (q : ℕ) (u w v : World) → Untouched q u w → Untouched q w v → Untouched q u v
untouched_then q u w v a b =
    let f : SameOn (u.recorded q) w.flat v.flat = rw a.recorded at b.flat in record {
      ticks = b.ticks;
      worker = b.worker ∙ a.worker;
      sections = λ s. ((λ e. (b.sections s).0 ((a.sections s).0 e)), (λ e. (a.sections s).1 ((b.sections s).1 e)));
      recorded = b.recorded ∙ a.recorded;
      due = b.due ∙ a.due;
      tick = b.tick ∙ a.tick;
      flat = same_then (u.recorded q) u.flat w.flat v.flat a.flat f;
    }

untouched_after : (o : Opening) (w : World) (e : Event) (q : ℕ) → Good o w → Allowed w e → w.grid.state q ≡ Ticking → is_end q e ≡ false → Untouched q w (after w e)
untouched_after o w e q g a t n = let k = kept_after q w e g.sound t a n in record {
  ticks = k.ticks;
  worker = k.worker;
  sections = k.sections;
  recorded = k.recorded;
  tick = k.tick;
  due = due_kept w (after w e) q g.sound (fated w e).next k;
  flat = flat_after o w e q g a t n;
}

pub untouched_along : (o : Opening) (w : World) (mid rest : List Entry) (q : ℕ) → Good o w → w.grid.state q ≡ Ticking → NoEnd q mid → RunFrom w (mid ++ rest) → Untouched q w (after_all w mid)
untouched_along o w [] rest q g t n r = untouched_self q w t
untouched_along o w (e ∷ mid) rest q g t n r =
    let a = untouched_after o w e.event q g r.1 t n.0 in
    untouched_then q w (after w e.event) _ a (untouched_along o (after w e.event) mid rest q (good_after o w e.event g r.1) a.ticks n.1 r.2)

begun_ticks : (w : World) (worker r : ℕ) → (begun w worker r).grid.state r ≡ Ticking
unfolding begun
begun_ticks w worker r = begin_here w.grid r

pub began_ticks : (w : World) (e : Event) (r : ℕ) → is_begin r e ≡ true → (after w e).grid.state r ≡ Ticking
began_ticks w (Load caller c answer) r b = absurd (true≢false (sym b))
began_ticks w (Unload caller c answer) r b = absurd (true≢false (sym b))
began_ticks w (Post caller c d x answer) r b = absurd (true≢false (sym b))
began_ticks w (PhaseOpen n) r b = absurd (true≢false (sym b))
began_ticks w (Begin worker q) r b = let e : q ≡ r = eqb-true _ _ b in rw (← e) (begun_ticks w worker q)
began_ticks w (End worker q tick ran accepts) r b = absurd (true≢false (sym b))
began_ticks w PhaseClose r b = absurd (true≢false (sym b))
began_ticks w Finish r b = absurd (true≢false (sym b))
began_ticks w (Stop caller) r b = absurd (true≢false (sym b))

-- from a Begin of r, along entries that have no End of r
pub owned_from : (o : Opening) (w : World) (es mid rest : List Entry) (e : Entry) (r : ℕ) → Good o w → is_begin r e.event ≡ true → NoEnd r mid
    → RunFrom w (es ++ e ∷ (mid ++ rest)) → Untouched r (after (after_all w es) e.event) (after_all (after (after_all w es) e.event) mid)
owned_from o w [] mid rest e r g b n run = untouched_along o (after w e.event) mid rest r (good_after o w e.event g run.1) (began_ticks w e.event r b) n run.2
owned_from o w (x ∷ es) mid rest e r g b n run = owned_from o (after w x.event) es mid rest e r (good_after o w x.event g run.1) b n run.2

pub owned : (o : Opening) (es mid rest : List Entry) (e : Entry) (r : ℕ) → IsGrid o.grid → is_begin r e.event ≡ true → NoEnd r mid
    → RunFrom (start o) (es ++ e ∷ (mid ++ rest)) → Untouched r (after (after_all (start o) es) e.event) (after_all (after (after_all (start o) es) e.event) mid)
owned o es mid rest e r ok b n run = owned_from o (start o) es mid rest e r (good_start o ok) b n run

pub detached : (w v : World) (r : ℕ) (ran : List Ran) → Untouched r w v → DetachedTick ran r w v
detached w v r ran u =
    let s = same_tick (w.recorded r) (outcome_in ran) (due w r) w.flat v.flat u.flat in
    let e : ticked v r ran ≡ flat_tick (w.recorded r) (outcome_in ran) (due w r) v.flat = rw (u.recorded, u.due) refl in
    record {
      outcomes = s.ran ∙ ap (λ (x : FlatEnd). x.ran) (sym e);
      wishes = s.wishes ∙ ap (λ (x : FlatEnd). x.wishes) (sym e);
      flat = rw e s.flat;
    }
