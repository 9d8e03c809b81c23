use Rattle.std.proofs.Common.{◌≡◌, ℕ, ◌*◌, ◌-◌, sym, ap, ◌∙◌, List, drop, true, arith}
use Rattle.fol_model.specs.declared.words.Cell.{Cell}
use Rattle.fol_text_laws.specs.RowValues.{deed_from}
use Rattle.fol_script.specs.Posts.{is_post_at}
use Rattle.fol_script.proofs.Posts.{rest_is, more_posts, inner_of}
use Rattle.fol_script.proofs.actions.read_action.Goals as goal

pub loop-posts-preserved : goal.loop-posts-preserved
loop-posts-preserved c =
    let post : is_post_at (drop (4 * c.loop-posts.posts) c.args.cells.now) ≡ true = ap is_post_at (sym (rest_is (4 * c.loop-posts.posts) c.args.cells.now)) ∙ sym c.loop-posts-test.ensures in
    more_posts c.loop-posts.posts c.args.cells.now c.loop-posts.invariant post

pub read_post-requires-clause-inner : goal.read_post-requires-clause-inner
read_post-requires-clause-inner c =
    c.loop-posts-2.invariant.inner ∙ ap deed_from (sym (inner_of c.loop-posts-2.posts c.args.cells.now c.loop-posts-2-test.true) ∙ ap (λ (l : List Cell). drop 4 l) (sym (rest_is (4 * (c.loop-posts-2.posts - 1)) c.args.cells.now)))

pub returns : goal.returns
returns c =
    let none : 4 * c.loop-posts-2.posts ≡ 0 = omega arith in
    c.loop-posts-2.invariant.inner ∙ ap (λ (k : ℕ). deed_from (drop k c.args.cells.now)) none
