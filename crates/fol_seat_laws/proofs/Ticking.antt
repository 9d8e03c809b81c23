-- A region that ticks for a worker has its End recorded by the seat of that worker alone.
use Rattle.std.proofs.Common.{◌≡◌, ℕ, refl, sym, ◌∙◌, ap, true, false, inl, inr, List, [], ◌∷◌}
use Rattle.std.specs.Prelude.{◌≢◌, nat_eq}
use Rattle.std.specs.List.{AllByRecursion}
use Rattle.std.proofs.lemmas.Bool.{cases_Bool, eq-eqb, eqb-true}
use Rattle.fol_model.specs.declared.openings.Opening.{Opening}
use Rattle.fol_model.specs.declared.regions.State.TheVariants.{Ticking}
use Rattle.fol_model.specs.declared.events.Entry.{Entry}
use Rattle.fol_model.specs.declared.events.Event.{Event}
use Rattle.fol_model.specs.declared.events.Event.TheVariants.{Load, Unload, Post, PhaseOpen, Begin, End, PhaseClose, Finish, Stop}
use Rattle.fol_model.specs.OpenTick.{is_end}
use Rattle.fol_model.specs.QueuedTask.{begun}
use Rattle.fol_model.specs.World.{World}
use Rattle.fol_model.specs.Run.{Allowed, RunFrom, after, after_all}
use Rattle.fol_model.specs.Legal.{worker_of}
use Rattle.fol_laws.proofs.OwnedRuns.{began_ticks, untouched_along}
use Rattle.fol_laws.proofs.WholeRuns.{Good, good_after}
use Rattle.fol_seat_laws.specs.Signed.{IsSigned, is_named, is_start, own_of}
use Rattle.fol_seat_laws.proofs.OwnEntries.{own_none}

pub begun_worker : (w : World) (k r : ℕ) → (begun w k r).worker r ≡ k
unfolding begun
begun_worker w k r = let same : nat_eq r r ≡ true = eq-eqb r r refl in rw same refl

-- an End of r is for the worker of r to record
pub end_worker : (w : World) (r : ℕ) (v : Event) → is_end r v ≡ true → Allowed w v → (is_named v ≡ true) × (worker_of v ≡ w.worker r)
end_worker w r (Load caller c a) ends ok = absurd (cc)
end_worker w r (Unload caller c a) ends ok = absurd (cc)
end_worker w r (Post caller c d x a) ends ok = absurd (cc)
end_worker w r (PhaseOpen n) ends ok = absurd (cc)
end_worker w r (Begin worker q) ends ok = absurd (cc)
end_worker w r (End worker q tick ran accepts) ends ok = let same : q ≡ r = eqb-true q r ends in (refl, ok.1 ∙ ap w.worker same)
end_worker w r PhaseClose ends ok = absurd (cc)
end_worker w r Finish ends ok = absurd (cc)
end_worker w r (Stop caller) ends ok = absurd (cc)
