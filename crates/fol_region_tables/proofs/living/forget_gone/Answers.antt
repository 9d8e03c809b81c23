use Rattle.std.proofs.Common.{arith}
use Rattle.fol_region_tables.specs.SlotKeys.{table_of}
use Rattle.fol_region_tables.proofs.LiveSlots.{living_kept, living_many}
use Rattle.fol_region_tables.proofs.living.forget_gone.Goals as goal

pub overflow_sub-gone : goal.overflow_sub-gone
overflow_sub-gone c = let many = living_many (table_of c.args.regions.now) c.args.ids.now.items _ c.requires.living in omega (arith, many)

pub keep_living-requires : goal.keep_living-requires
keep_living-requires c = record { keys = c.requires.keys; count = c.requires.living.count }

pub returns-then-gone-len : goal.returns-then-gone-len
returns-then-gone-len c = rw c.keep_living.ensures.kept (living_kept (table_of c.args.regions.now) c.args.ids.now.items _ c.requires.living _ (let fits = c.requires.living.fits in omega (arith, c.keep_living.ensures.capacity)))
