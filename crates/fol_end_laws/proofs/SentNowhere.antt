-- An entity that a tick sends away stands nowhere until its wish is answered.
use Rattle.std.proofs.Common.{◌≡◌, ℕ, ◌+◌, ◌≤◌, refl, sym, ◌∙◌, ap, arith, true, cond, List, [], ◌∷◌, ◌++◌}
use Rattle.std.specs.Prelude.{nat_eq, None}
use Rattle.std.specs.List.{AllByRecursion}
use Rattle.std.proofs.lemmas.Bool.{eq-eqb}
use Rattle.fol_model.specs.declared.regions.State.TheVariants.{Ticking}
use Rattle.fol_model.specs.declared.entities.Entity.{Entity}
use Rattle.fol_model.specs.declared.actions.Action.{Action}
use Rattle.fol_model.specs.declared.actions.Action.TheVariants.{Arrive}
use Rattle.fol_model.specs.declared.tasks.Ran.{Ran}
use Rattle.fol_model.specs.declared.tasks.Wish.{Wish}
use Rattle.fol_model.specs.declared.openings.Opening.{Opening}
use Rattle.fol_model.specs.declared.events.Entry.{Entry}
use Rattle.fol_model.specs.GridNumbers.{IsGrid}
use Rattle.fol_model.specs.ActionStep.{Recorded}
use Rattle.fol_model.specs.Outputs.{is_arrival_of}
use Rattle.fol_model.specs.World.{World, start}
use Rattle.fol_model.specs.End.{ticked, accepted, run_down, all_accepted}
use Rattle.fol_model.specs.Run.{after_all, RunFrom}
use Rattle.fol_laws.proofs.EntityCounts.{sends}
use Rattle.fol_laws.proofs.EntityTotals.{total, accepted_total, run_down_total}
use Rattle.fol_laws.proofs.OwnedRuns.{total_most}
use Rattle.fol_laws.proofs.SoundRuns.{Ending, accepted_ending, run_down_ending, wishes_ok}
use Rattle.fol_laws.proofs.UnseenTicks.{none_one}
use Rattle.fol_laws.proofs.WholeRuns.{good_run}
use Rattle.fol_laws.proofs.WishLimits.{WishOk}

comes : (x : Wish) (e : Entity) → x.action ≡ Arrive e → cond {A = ℕ} (is_arrival_of e.id x.action) 1 0 ≡ 1
comes x e a = let z : nat_eq e.id e.id ≡ true = eq-eqb _ _ refl in ap (λ (b : Action). cond {A = ℕ} (is_arrival_of e.id b) 1 0) a ∙ rw z refl

nowhere : (rec : Recorded) (w : World) (before behind : List Wish) (x : Wish) (e : Entity) (r : ℕ) → Ending r w → AllByRecursion (WishOk rec) (before ++ x ∷ behind)
    → total e.id w + sends e.id (before ++ x ∷ behind) ≤ 1 → x.action ≡ Arrive e → (all_accepted w before).flat.standing e.id ≡ None
nowhere rec w [] behind x e r s ok m a = let c = comes x e a in none_one (w.flat.standing e.id) (omega arith)
nowhere rec w (y ∷ before) behind x e r s ok m a =
    let t = accepted_total e.id rec w y s.sound ok.0 (omega arith) in
    nowhere rec (accepted w y) before behind x e r (accepted_ending rec w y r s ok.0) ok.1 (omega arith) a

pub sent_nowhere : (o : Opening) (es rest : List Entry) → IsGrid o.grid → RunFrom (start o) (es ++ rest) → (r : ℕ) (ran : List Ran) (before behind : List Wish) (x : Wish) (e : Entity)
    → (after_all (start o) es).grid.state r ≡ Ticking → (ticked (after_all (start o) es) r ran).wishes ≡ before ++ x ∷ behind → x.action ≡ Arrive e
    → (all_accepted (run_down (after_all (start o) es) r ran) before).flat.standing e.id ≡ None
sent_nowhere o es rest ok run r ran before behind x e t is a =
    let w = after_all (start o) es in
    let g = good_run o es rest ok run in
    let m = run_down_total e.id w r ran g.sound (total_most o w g.place e.id) in
    let n = total_most o w g.place e.id in
    let wishes : AllByRecursion (WishOk (w.recorded r)) (before ++ x ∷ behind) = rw (sym is) (wishes_ok w r ran g.sound) in
    let k : sends e.id (ticked w r ran).wishes ≡ sends e.id (before ++ x ∷ behind) = ap (sends e.id) is in
    nowhere (w.recorded r) (run_down w r ran) before behind x e r (run_down_ending w r ran g.sound t) wishes (omega arith) a
