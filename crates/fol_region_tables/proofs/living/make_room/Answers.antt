use Rattle.std.proofs.Common.{ap, arith}
use Rattle.std.specs.Prelude.{length}
use Rattle.std.proofs.lemmas.List.Sums.{length-filter}
use Rattle.fol_region_tables.specs.SlotKeys.{has_slot, table_of}
use Rattle.fol_region_tables.proofs.LiveSlots.{living_kept}
use Rattle.fol_region_tables.proofs.living.make_room.Goals as goal

pub keep_living-requires : goal.keep_living-requires
keep_living-requires c = record { keys = c.requires.keys; count = c.requires.living.count }

pub returns-then-len-capacity : goal.returns-then-len-capacity
returns-then-len-capacity c =
    let v = table_of c.args.regions.now in
    let fits = c.requires.living.fits in
    record {
      living = rw c.keep_living.ensures.kept (living_kept v c.args.ids.now.items _ c.requires.living _ (omega (arith, c.keep_living.ensures.capacity)));
      room = omega (arith, ap length c.keep_living.ensures.kept, length-filter (has_slot v) c.args.ids.now.items, c.requires.living.count, c.requires.free, c.keep_living.ensures.capacity);
    }
