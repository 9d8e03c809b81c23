use Rattle.std.proofs.Common.{sym, arith, rules}
use Rattle.std.proofs.lemmas.Fn.{filter_same}
use Rattle.fol_region_tables.specs.SlotKeys.{has_slot, table_of}
use Rattle.fol_region_tables.proofs.LiveSlots.{all_kept}
use Rattle.fol_region_tables.proofs.living.keep_living.Goals as goal

pub returns-then-len-clause-kept : goal.returns-then-len-clause-kept
returns-then-len-clause-kept c = filter_same _ (has_slot (table_of c.args.regions.now)) _ (λ x b f' k. search rules) _ _ c.retain.ensures.filtered

pub returns-else-len-clause-kept : goal.returns-else-len-clause-kept
returns-else-len-clause-kept c = sym (all_kept (has_slot (table_of c.args.regions.now)) c.args.ids.now.items (omega arith))
