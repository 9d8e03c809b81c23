-- An entity that a tick sends away.
use Rattle.std.specs.Prelude.{ℕ, ◌≡◌, List, ◌∷◌, ◌++◌, None}
use Rattle.fol_model.specs.declared.regions.State.TheVariants.{Ticking}
use Rattle.fol_model.specs.declared.entities.Entity.{Entity}
use Rattle.fol_model.specs.declared.actions.Action.TheVariants.{Arrive}
use Rattle.fol_model.specs.declared.tasks.Ran.{Ran}
use Rattle.fol_model.specs.declared.tasks.Wish.{Wish}
use Rattle.fol_model.specs.End.{ticked, run_down, all_accepted}
use Rattle.fol_laws.specs.Points.{AtEveryPoint}

-- it stands nowhere until its wish is answered
abbrev pub SentStandNowhere : Type 0
SentStandNowhere = AtEveryPoint (λ o w. (r : ℕ) (ran : List Ran) (before behind : List Wish) (x : Wish) (e : Entity) → w.grid.state r ≡ Ticking
    → (ticked w r ran).wishes ≡ before ++ x ∷ behind → x.action ≡ Arrive e → (all_accepted (run_down w r ran) before).flat.standing e.id ≡ None)
