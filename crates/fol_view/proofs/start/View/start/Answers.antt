use Rattle.std.proofs.Common.{sym, subst}
use Rattle.fol_view.specs.Rows.{AreInOrder}
use Rattle.fol_view.proofs.Order.{in_order}
use Rattle.fol_view.proofs.Showing.{went_on}
use Rattle.fol_view.proofs.start.View.start.Goals as goal

pub twice-requires : goal.twice-requires
twice-requires g c = subst AreInOrder (sym c.in-Ok-owner_rows.ensures.rows) (in_order _)

pub returns-in_default-owner_rows-clause-back : goal.returns-in_default-owner_rows-clause-back
returns-in_default-owner_rows-clause-back g c = (went_on c.owner_rows.ensures, c.owner_rows.ensures.hand)

pub returns-in_default-twice-clause-back : goal.returns-in_default-twice-clause-back
returns-in_default-twice-clause-back g c = (went_on c.owner_rows.ensures, c.owner_rows.ensures.hand)

pub returns-in_default-begin-clause-back : goal.returns-in_default-begin-clause-back
returns-in_default-begin-clause-back g c = (went_on c.owner_rows.ensures, c.owner_rows.ensures.hand)

pub returns-in-Err-clause-back : goal.returns-in-Err-clause-back
returns-in-Err-clause-back g c = (went_on c.owner_rows.ensures, c.owner_rows.ensures.hand)

pub returns-clause-does : goal.returns-clause-does
returns-clause-does g c = went_on c.owner_rows.ensures
