use Rattle.std.proofs.Common.{◌≡◌, ◌∙◌, sym, ap, false}
use Rattle.std.specs.Prelude.{◌≢◌}
use Rattle.fol_region_tables.specs.SlotKeys.{key_at, table_of}
use Rattle.fol_region_tables.specs.Slots.{has_id, region_at}
use Rattle.fol_region_tables.specs.declared.slots.TheConstants.{UNKNOWN}
use Rattle.fol_region_tables.proofs.SlotSteps.{slot_at, slot_stale}
use Rattle.fol_region_tables.proofs.slots.find_slot.Goals as goal

pub returns-then-has : goal.returns-then-has
returns-then-has c = slot_at (table_of c.args.regions.now) c.args.keys.now c.requires c.args.id c.key_of-key.result (sym c.has.ensures ∙ c.if-has.true)

pub returns-else-has : goal.returns-else-has
returns-else-has c =
    let known : key_at c.args.keys.now c.args.id ≢ UNKNOWN = λ e. c.if-key.false (c.key_of-key.ensures ∙ e) in
    let other : has_id c.args.id (region_at (table_of c.args.regions.now) (key_at c.args.keys.now c.args.id)) ≡ false =
    ap (λ k. has_id c.args.id (region_at (table_of c.args.regions.now) k)) (sym c.key_of-key.ensures) ∙ sym c.has.ensures ∙ c.if-has.false in
    c.capacity.ensures.value ∙ sym (slot_stale (table_of c.args.regions.now) c.args.keys.now c.requires c.args.id known other)
