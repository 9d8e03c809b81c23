use Rattle.fol_keyed.proofs.Answers.{on_err}
use Rattle.fol_bags.proofs.Unions.{part_none}
use Rattle.fol_bags.proofs.union.widen_all.Goals as goal

pub returns-else-are_few-clause-err : goal.returns-else-are_few-clause-err
returns-else-are_few-clause-err c = on_err c.merge.result _ _ c.merge.ensures.err (λ e. rw (e, c.settle_for.ensures.same, c.settle_many.ensures.same) (part_none c.args.set.now c.args.others.now c.requires.order))
