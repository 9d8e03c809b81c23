use Rattle.std.proofs.Common.{sym, ◌∙◌}
use Rattle.fol_model.specs.Deed.{post}
use Rattle.fol_model.specs.Nesting.{wrapped}
use Rattle.fol_script.proofs.Posts.{post_here, post_within}
use Rattle.fol_script.proofs.actions.read_post.Goals as goal

pub chunk_at-requires-clause-within : goal.chunk_at-requires-clause-within
chunk_at-requires-clause-within c = (post_within c.args.cells.now c.requires.post c.requires.within).chunk

pub natural_at-requires : goal.natural_at-requires
natural_at-requires c = (post_within c.args.cells.now c.requires.post c.requires.within).delay

pub returns : goal.returns
returns c =
    let here = (post_here c.args.cells.now c.requires.post).is in
    let inner = c.in_ok-new.ensures ∙ c.requires.inner in
    let chunk = c.chunk_at.ensures in
    let delay = c.natural_at.ensures in
    sym (here ∙ sym (λ i. wrapped (post (chunk i) (delay i)) (inner i)))
