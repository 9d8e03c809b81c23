use Rattle.fol_follow.specs.Meaning.{Meaning}
use Rattle.fol_follow.proofs.Turning.{lent_continues, lent_taken, log_grows, visit_grows, visits}
use Rattle.fol_follow.proofs.book.Book.visit.Goals as goal

pub give-requires-clause-log : goal.give-requires-clause-log
give-requires-clause-log g c =
    let m : Meaning = c.state.result.now in
    let n : Meaning = c.visit-answer.new.self in
    let told = c.visit-answer.ensures in
    log_grows c.args.seat.now c.take-turn.new.seat m n c.number-by.result (lent_taken c.args.seat.now c.take-turn.new.seat _ m c.state.ensures.value c.take-turn.ensures.seat) c.number-by.ensures (visit_grows m n c.number-by.result c.args.tick.now c.visit-answer.result told.recorded told.refused)

pub returns : goal.returns
returns g c =
    let m : Meaning = c.state.result.now in
    let n : Meaning = c.visit-answer.new.self in
    let told = c.visit-answer.ensures in
    visits c.args.seat.now c.take-turn.new.seat c.give.new.seat m n c.number-by.result _ (lent_continues c.args.seat.now _ m c.state.ensures.value c.take-turn.ensures.state) (lent_taken c.args.seat.now c.take-turn.new.seat _ m c.state.ensures.value c.take-turn.ensures.seat) c.number-by.ensures told.before told.after c.requires.own.0
    c.give.ensures.idle c.give.ensures.number c.give.ensures.origin c.give.ensures.seen c.give.ensures.mine c.args.tick.now c.visit-answer.result told.recorded told.refused
