use Rattle.std.proofs.Common.{◌≡◌, ◌∙◌, sym, ap, arith, ℕ, List, false, true, Some, None}
use Rattle.std.specs.Option.{option_copied}
use Rattle.std.proofs.lemmas.Bool.{eq-eqb, ne_eqb}
use Rattle.fol_model.specs.declared.regions.State.TheVariants.{Dead}
use Rattle.fol_region_tables.specs.SlotKeys.{AreKeys, key_at, table_of}
use Rattle.fol_region_tables.specs.Slots.{SlotTable, has_id, region_at, slot_state, state_in}
use Rattle.fol_region_tables.specs.declared.slots.TheConstants.{UNKNOWN}
use Rattle.fol_region_tables.proofs.SlotSteps.{slot_at, slot_stale}
use Rattle.fol_region_tables.proofs.slots.find_state.Goals as goal

pub returns-then-key : goal.returns-then-key
unfolding slot_state
returns-then-key c = c.state_at.ensures ∙ ap (λ k. state_in (region_at (table_of c.args.regions.now) k)) c.look_for.ensures

-- where a known key leads to another region, or to none, the id has no slot
none : (v : SlotTable) (keys : List ℕ) → AreKeys v.regions v.room keys → (id key : ℕ) → key ≡ key_at keys id → (key ≡ UNKNOWN → ⊥) → has_id id (region_at v key) ≡ false → Dead ≡ slot_state v id
unfolding slot_state
none v keys is id key at known other =
    let stale = slot_stale v keys is id (λ e. known (at ∙ e)) (ap (λ k. has_id id (region_at v k)) (sym at) ∙ other) in
    ap state_in (sym (is.within v.room (omega arith))) ∙ ap (λ k. state_in (region_at v k)) (sym stale)

pub returns-then-region-id : goal.returns-then-region-id
unfolding slot_state
returns-then-region-id c =
    let v = table_of c.args.regions.now in
    let own : Some c.in-Some.region.now ≡ region_at v c.key_of-key.result = ap option_copied (sym c.in-Some.is) ∙ c.get.ensures in
    let has : has_id c.args.id (region_at v c.key_of-key.result) ≡ true = ap (has_id c.args.id) (sym own) ∙ eq-eqb _ _ c.if-region-id.true in
    ap state_in own ∙ ap (λ k. state_in (region_at v k)) (slot_at v c.args.keys.now c.requires c.args.id c.key_of-key.result has)

pub returns-else-region-id : goal.returns-else-region-id
returns-else-region-id c =
    let v = table_of c.args.regions.now in
    let own : Some c.in-Some.region.now ≡ region_at v c.key_of-key.result = ap option_copied (sym c.in-Some.is) ∙ c.get.ensures in
    none v c.args.keys.now c.requires c.args.id c.key_of-key.result c.key_of-key.ensures c.if-key.false (ap (has_id c.args.id) (sym own) ∙ ne_eqb _ _ c.if-region-id.false)

pub returns-in-None : goal.returns-in-None
returns-in-None c =
    let v = table_of c.args.regions.now in
    let own : None ≡ region_at v c.key_of-key.result = ap option_copied (sym c.in-None.is) ∙ c.get.ensures in
    none v c.args.keys.now c.requires c.args.id c.key_of-key.result c.key_of-key.ensures c.if-key.false (ap (has_id c.args.id) (sym own))
