-- Where a phase may be closed, no region is prepared.
use Rattle.std.proofs.Common.{◌≡◌, ℕ, sym, ◌∙◌, Bool, false, List}
use Rattle.std.specs.Prelude.{find, None}
use Rattle.std.proofs.lemmas.Bool.{false_from_ne_true, or_parts, true≢false}
use Rattle.fol_model.specs.declared.events.Entry.{Entry}
use Rattle.fol_model.specs.declared.openings.Opening.{Opening}
use Rattle.fol_model.specs.declared.regions.State.TheVariants.{Dead, Ticking}
use Rattle.fol_model.specs.GridState.{is_ticking}
use Rattle.fol_model.specs.Run.{world}
use Rattle.fol_regions.specs.Table.{grid_state}
use Rattle.fol_store.specs.Stock.{bag_of}
use Rattle.fol_world.specs.declared.tables.Tables.{Tables}
use Rattle.fol_world.specs.Agenda.{is_busy_in}
use Rattle.fol_core.specs.Ahead.{StandsAhead}
use Rattle.fol_core.specs.Answers.{is_owing}
use Rattle.fol_world.specs.Closings.{live_in}
use Rattle.fol_core.proofs.Ahead.{state_ahead}
use Rattle.fol_core.proofs.PhaseKept.{none_busy}

pub none_at_close : (o : Opening) (h : List Entry) (p : ℕ → Bool) (t : Tables) (s : StandsAhead o h p t) (live : List ℕ) → live ≡ live_in (grid_state t.regions)
    → find (is_busy_in (grid_state t.regions) (bag_of t.store)) live ≡ None → (r : ℕ) → p r ≡ false
none_at_close o h p t s live l e r = false_from_ne_true (p r) (λ k.
    let ticks = state_ahead o h p t s r k in
    let calm = (or_parts (is_ticking ((world o s.runs.ahead.entries).grid.state r)) (is_owing (world o s.runs.ahead.entries) r) (none_busy o s.runs.ahead.entries t s.stands live l e r (λ d. let x : Ticking ≡ Dead = sym ticks ∙ d in absurd (cc)))).0 in
    let no : is_ticking Ticking ≡ false = rw ticks at calm in true≢false no)
