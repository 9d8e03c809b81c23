-- A Begin while regions are prepared: it is allowed after the history, and touches none of them.
use Rattle.std.proofs.Common.{◌≡◌, ℕ, refl, sym, ◌∙◌, ap, Bool, true, false, inl, inr, not, ◌&&◌, List}
use Rattle.std.specs.Prelude.{nat_lt, Some, None}
use Rattle.std.proofs.lemmas.Option.{same_Some}
use Rattle.std.proofs.lemmas.Bool.{cases_Bool, and_parts, ltb-true, ne_eqb, or_parts, true≢false}
use Rattle.fol_model.specs.declared.events.Entry.{Entry}
use Rattle.fol_model.specs.declared.events.Event.TheVariants.{Begin}
use Rattle.fol_model.specs.declared.openings.Opening.{Opening}
use Rattle.fol_model.specs.declared.regions.State.{State}
use Rattle.fol_model.specs.declared.regions.State.TheVariants.{Ready}
use Rattle.fol_model.specs.GridState.{GridState, is_ready}
use Rattle.fol_model.specs.Run.{Allowed, world}
use Rattle.fol_early_laws.specs.EarlyBegins.{SparesAll}
use Rattle.fol_early_laws.proofs.EarlyEvents.{owed_off, state_off}
use Rattle.fol_regions.specs.Answers.{state_answer}
use Rattle.fol_regions.specs.Table.{grid_state}
use Rattle.fol_store.specs.Stock.{bag_of}
use Rattle.fol_data.specs.declared.tick.Tick.{Tick}
use Rattle.fol_world.specs.declared.tables.Tables.{Tables}
use Rattle.fol_world.specs.Agenda.{owes}
use Rattle.fol_core.specs.Ahead.{StandsAhead}
use Rattle.fol_core.specs.Answers.{is_over, is_owing}
use Rattle.fol_core.specs.Ticks.{IsTick}
use Rattle.fol_core.proofs.Ahead.{good_now, owes_free, state_free}
use Rattle.fol_core.proofs.AheadTicks.{tick_ahead}
use Rattle.fol_world.proofs.GatheredBags.{is_ready-true}

not_true : (b : Bool) → not b ≡ true → b ≡ false
not_true true h = absurd (true≢false (sym h))
not_true false h = refl

module _ (o : Opening) (h : List Entry) (p : ℕ → Bool) (t : Tables) (s : StandsAhead o h p t) (id : ℕ) (owing : owes (grid_state t.regions) (bag_of t.store) id ≡ true) where
  both : (is_owing (world o h) id ≡ true) × (not (p id) ≡ true)
  both = and_parts (is_owing (world o h) id) (not (p id)) (sym (owes_free o h p t s id) ∙ owing)

  pub owing_now : is_owing (world o h) id ≡ true
  owing_now = both.0

  pub not_prepared : p id ≡ false
  not_prepared = not_true (p id) both.1

  ready : (world o h).grid.state id ≡ Ready
  ready = is_ready-true ((world o h).grid.state id) (and_parts (is_ready ((world o h).grid.state id)) (nat_lt 0 ((world o h).owed id)) owing_now).0

  pub begin_allowed : (worker : ℕ) → is_over (world o h) ≡ false → Allowed (world o h) (Begin worker id)
  begin_allowed worker on = (
    ready,
    ltb-true 0 ((world o h).owed id) (and_parts (is_ready ((world o h).grid.state id)) (nat_lt 0 ((world o h).owed id)) owing_now).1,
    (or_parts (world o h).finished (world o h).stopped on).1,
  )

  pub begin_spares : (worker : ℕ) → SparesAll (world o h) p (Begin worker id)
  begin_spares worker r k = ne_eqb id r (λ e. true≢false (sym k ∙ ap p (sym e) ∙ not_prepared))

  pub tick_now : (place seat : ℕ) (tick : Tick) → IsTick (world o s.runs.ahead.entries) place seat id tick → IsTick (world o h) place seat id tick
  tick_now place seat tick k = tick_ahead p (world o h) (world o s.runs.ahead.entries) id place seat tick s.runs.ahead.is not_prepared (good_now o h p t s).sound ready k

-- what the tables tell of a region that is not prepared
module _ (o : Opening) (h : List Entry) (p : ℕ → Bool) (t : Tables) (s : StandsAhead o h p t) (id : ℕ) (off : p id ≡ false) where
  state_in : (g : GridState) (st : State) → state_answer g id ≡ Some st → st ≡ g.state id
  state_in g st e = elim (cases_Bool (nat_lt 0 id && nat_lt id g.next)) [
    | inl k ↦ let x : Some (g.state id) ≡ Some st = rw k at e in sym (same_Some (g.state id) st x)
    | inr k ↦ let x : None ≡ Some st = rw k at e in absurd (cc)
  ]

  pub state_told : (st : State) → state_answer (grid_state t.regions) id ≡ Some st → st ≡ (world o h).grid.state id
  state_told st e = state_in (grid_state t.regions) st e ∙ state_free o h p t s id off

  pub owed_told : (world o h).grid.state id ≡ Ready → (bag_of t.store id).owed ≡ (world o h).owed id
  owed_told now =
      let calm : (world o s.runs.ahead.entries).grid.state id ≡ Ready = state_off p (world o h) (world o s.runs.ahead.entries) s.runs.ahead.is id off ∙ now in
      (s.stands.fits.stored.bags id).owes (rw calm refl) ∙ owed_off p (world o h) (world o s.runs.ahead.entries) s.runs.ahead.is id off
