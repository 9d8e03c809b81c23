use Rattle.std.proofs.Common.{◌∙◌, sym, arith, below_more}
use Rattle.fol_region_tables.specs.SlotKeys.{table_of}
use Rattle.fol_region_tables.proofs.SlotSteps.{slot_at, slot_none}
use Rattle.fol_region_tables.proofs.slots.look_for.Goals as goal

pub loop-slot-preserved : goal.loop-slot-preserved
loop-slot-preserved c = below_more _ _ c.loop-slot.invariant (sym c.has.ensures ∙ c.if-has.false)

pub returns-then-has : goal.returns-then-has
returns-then-has c = slot_at (table_of c.args.regions.now) c.args.keys.now c.requires c.args.id c.loop-slot.slot (sym c.has.ensures ∙ c.if-has.true)

pub returns : goal.returns
returns c = slot_none (table_of c.args.regions.now) c.args.id c.capacity-room.result c.capacity-room.ensures.value (λ k l. c.loop-slot.invariant k (omega arith))
