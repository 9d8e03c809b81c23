use Rattle.std.proofs.Common.{◌≡◌, ◌-◌, ◌*◌, length, drop}
use Rattle.fol_model.specs.Nesting.{deed_of}
use Rattle.fol_text_laws.specs.RowValues.{deed_from}
use Rattle.fol_script.specs.Posts.{IsPosts}
use Rattle.fol_script.proofs.actions.read_action.Given as goal

abbrev pub decreases-loop-posts : goal.decreases-loop-posts
decreases-loop-posts l = length l.cells - 4 * l.posts

abbrev pub invariant-loop-posts : goal.invariant-loop-posts
invariant-loop-posts l = IsPosts l.posts l.cells

abbrev pub decreases-loop-posts-2 : goal.decreases-loop-posts-2
decreases-loop-posts-2 l = l.posts

abbrev pub invariant-loop-posts-2 : goal.invariant-loop-posts-2
invariant-loop-posts-2 l = record {
  posts : IsPosts l.posts l.cells;
  inner : deed_of l.action ≡ deed_from (drop (4 * l.posts) l.cells);
}
