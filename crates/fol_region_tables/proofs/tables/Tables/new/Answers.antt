use Rattle.std.proofs.Common.{refl, sym, arith}
use Rattle.std.proofs.lemmas.Bool.{le-ltb}
use Rattle.fol_region_tables.specs.Book.{owner_of, is_live}
use Rattle.fol_region_tables.proofs.MakeSteps.{empty_book}
use Rattle.fol_region_tables.proofs.tables.Tables.new.Goals as goal

pub invariant_of-result : goal.invariant_of-result
invariant_of-result c = empty_book _ c.room-numbers.result c.new-2.ensures c.in_ok-slots.ensures.none (sym c.room-numbers.ensures.room) c.in_ok-new.ensures c.in_ok-new-2.ensures c.in_ok-new-3.ensures refl c.in_ok-slots.ensures.room

pub returns-clause-owner : goal.returns-clause-owner
unfolding owner_of
returns-clause-owner c = c.new-2.ensures

pub returns-clause-live : goal.returns-clause-live
unfolding is_live
returns-clause-live c = λ r. le-ltb _ _ (omega (arith, c.in_ok-slots.ensures.none r))
