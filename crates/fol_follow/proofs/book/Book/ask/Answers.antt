use Rattle.fol_follow.specs.Meaning.{Meaning}
use Rattle.fol_follow.proofs.Turning.{ask_grows, asks, lent_continues, lent_taken, log_grows}
use Rattle.fol_follow.proofs.book.Book.ask.Goals as goal

pub give-requires-clause-log : goal.give-requires-clause-log
give-requires-clause-log g c =
    let m : Meaning = c.state.result.now in
    let n : Meaning = c.ask-answer.new.self in
    let told = c.ask-answer.ensures in
    log_grows c.args.seat.now c.take-turn.new.seat m n c.number-by.result (lent_taken c.args.seat.now c.take-turn.new.seat _ m c.state.ensures.value c.take-turn.ensures.seat) c.number-by.ensures (ask_grows m n c.number-by.result c.args.entity c.args.delay c.ask-answer.result told.recorded told.refused)

pub returns : goal.returns
returns g c =
    let m : Meaning = c.state.result.now in
    let n : Meaning = c.ask-answer.new.self in
    let told = c.ask-answer.ensures in
    asks c.args.seat.now c.take-turn.new.seat c.give.new.seat m n c.number-by.result _ (lent_continues c.args.seat.now _ m c.state.ensures.value c.take-turn.ensures.state) (lent_taken c.args.seat.now c.take-turn.new.seat _ m c.state.ensures.value c.take-turn.ensures.seat) c.number-by.ensures told.before told.after c.requires.own.0
    c.give.ensures.idle c.give.ensures.number c.give.ensures.origin c.give.ensures.seen c.give.ensures.mine c.args.entity c.args.delay c.ask-answer.result told.answer told.recorded told.refused
