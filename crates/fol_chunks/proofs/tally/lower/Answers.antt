use Rattle.std.proofs.Common.{◌+◌, ◌∙◌, sym, ap, cond, None}
use Rattle.fol_blocks.specs.Cells.{same_key}
use Rattle.fol_chunks.proofs.Tallies.{unkept}
use Rattle.fol_chunks.proofs.tally.lower.Goals as goal

pub returns-then-lower_there-clause-numbers : goal.returns-then-lower_there-clause-numbers
returns-then-lower_there-clause-numbers c = λ q.
    let kept = unkept c.lower_there.new.tally.entries _ c.args.key None c.remove.ensures.updates.0 (sym (c.lower_there.ensures.zero c.if-lower_there.true)) q in
    ap (λ n. n + cond (same_key c.args.key q) 1 0) kept ∙ c.lower_there.ensures.numbers q
