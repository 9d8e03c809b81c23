use Rattle.std.proofs.Common.{◌<◌, length, arith, rules}
use Rattle.fol_model.specs.ReportWords.{ran_words}
use Rattle.fol_events.specs.InRange.{RanInRange}
use Rattle.fol_events.proofs.AnswerWords.{ran_cuts}
use Rattle.fol_events.proofs.Lists.{none_counted}
use Rattle.fol_events.proofs.ends.rans.Goals as goal

pub returns-in_err-item-clause-none : goal.returns-in_err-item-clause-none
returns-in_err-item-clause-none c e =
    let count = c.loop-turn.invariant.count in
    let fewer : length c.loop-turn.items < c.in_ok-count.count = omega arith in
    none_counted ran_words RanInRange ran_cuts c.loop-turn.items c.in_ok-count.count c.args.words.now c.wide.new.self c.loop-turn.words c.in_ok-count.ensures.found (search rules) fewer c.loop-turn.invariant.in_range c.loop-turn.invariant.so_far
    c.in_err-item.ensures.none
