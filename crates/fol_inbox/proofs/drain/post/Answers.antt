use Rattle.fol_inbox.proofs.Posted.{posts_full, posts_over, posts_posted, posts_refused}
use Rattle.fol_inbox.proofs.drain.post.Goals as goal

pub returns-in-Ok-Posted : goal.returns-in-Ok-Posted
returns-in-Ok-Posted g c =
    let told = c.receipt.ensures in
    posts_posted c.args.seat.now c.post.new.seat c.args.letter c.in-Ok-Posted.number c.receipt.result (rw c.in-Ok-Posted.field-0-is at c.in-Ok-Posted.ensures) told.letter told.answer told.entry

pub returns-in-Ok-Full : goal.returns-in-Ok-Full
returns-in-Ok-Full g c =
    let told = c.receipt-in-Ok-Full.ensures in
    posts_full c.args.seat.now c.post.new.seat c.args.letter c.in-Ok-Full.present c.in-Ok-Full.wanted c.receipt-in-Ok-Full.result (rw c.in-Ok-Full.field-0-is at c.in-Ok-Full.ensures) told.letter told.answer told.entry

pub returns-in-Ok-Over : goal.returns-in-Ok-Over
returns-in-Ok-Over g c = posts_over c.args.seat.now c.post.new.seat c.args.letter c.in-Ok-Over.action (rw c.in-Ok-Over.field-0-is at c.in-Ok-Over.ensures)

pub returns-in-Err : goal.returns-in-Err
returns-in-Err g c = posts_refused c.args.seat.now c.post.new.seat c.args.letter c.in-Err.action c.in-Err.ensures
