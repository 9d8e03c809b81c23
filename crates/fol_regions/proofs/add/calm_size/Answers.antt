use Rattle.std.proofs.Common.{◌≡◌, false, refl, sym, ◌∙◌, ap, length, cond}
use Rattle.fol_model.specs.declared.regions.State.{State}
use Rattle.fol_model.specs.declared.regions.State.TheVariants.{Transient, Ready, Ticking, Dead}
use Rattle.fol_model.specs.GridState.{is_ticking}
use Rattle.fol_regions.specs.Added.{calm_size}
use Rattle.fol_region_tables.specs.Book.{rows_of}
use Rattle.fol_regions.proofs.add.calm_size.Goals as goal

pub returns-in-Ticking : goal.returns-in-Ticking
unfolding calm_size
returns-in-Ticking c = sym (ap (λ s. cond (is_ticking s) 0 (length (rows_of c.args.tables.now c.args.id))) (sym c.state.ensures ∙ c.in-Ticking.is))

still : (s : State) → (s ≡ Ticking → ⊥) → is_ticking s ≡ false
still Ticking n = absurd (n refl)
still Transient n = refl
still Ready n = refl
still Dead n = refl

pub returns-in_default : goal.returns-in_default
unfolding calm_size
returns-in_default c = ap length c.sections.ensures ∙ sym (ap (λ b. cond b 0 (length (rows_of c.args.tables.now c.args.id))) (ap is_ticking (sym c.state.ensures) ∙ still c.state.result (λ e. c.in_default.not-Ticking e)))
