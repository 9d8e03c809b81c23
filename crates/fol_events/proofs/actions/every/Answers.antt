use Rattle.std.proofs.Common.{◌∙◌}
use Rattle.fol_model.specs.Nesting.{deed_of}
use Rattle.fol_events.proofs.Posting.{no_period, no_left, no_repeated, no_words, every_postable, delay_is, count_is, every_words}
use Rattle.fol_events.proofs.actions.every.Goals as goal

pub returns-in_err-period-clause-none : goal.returns-in_err-period-clause-none
returns-in_err-period-clause-none c e = no_period c.args.words.now c.in_err-period.ensures.none

pub returns-in_err-left-clause-none : goal.returns-in_err-left-clause-none
returns-in_err-left-clause-none c e = no_left c.args.words.now c.positive.new.self c.in_ok-period.period c.in_ok-period.ensures.found.2 c.in_err-left.ensures.none

pub returns-in_err-next-clause-none : goal.returns-in_err-next-clause-none
returns-in_err-next-clause-none c e =
    no_repeated c.args.words.now c.positive.new.self c.positive-2.new.self c.in_ok-period.period c.in_ok-left.left c.in_ok-period.ensures.found.2 c.in_ok-left.ensures.found.2
    (no_words 7 c.positive-2.new.self c.in_err-next.ensures.none)

pub returns-clause-found : goal.returns-clause-found
returns-clause-found c =
    let period = c.in_ok-period.ensures.found in
    let left = c.in_ok-left.ensures.found in
    let inner = c.in_ok-inner.ensures.found in
    rw c.in_ok-new.ensures (
      every_postable c.in_ok-period.period c.in_ok-left.left (deed_of c.in_ok-inner.inner) (delay_is c.in_ok-period.period period.0 period.1) (count_is c.in_ok-left.left left.0 left.1) inner.0,
      every_words c.args.words.now c.positive.new.self c.positive-2.new.self c.in_ok-period.period c.in_ok-left.left (deed_of c.in_ok-inner.inner) period.2 left.2 (c.in_ok-next.ensures.found ∙ inner.1),
    )
