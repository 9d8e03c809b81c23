use Rattle.std.proofs.Common.{◌≡◌, ◌+◌, ◌++◌, ◌∙◌, ap, arith, length}
use Rattle.std.specs.Prelude.{sum_by}
use Rattle.std.specs.List.{count_by, filter}
use Rattle.std.specs.List.Sorted.{IsPermutation}
use Rattle.std.proofs.lemmas.List.Kept.{IsStrictlySortedBy-filter}
use Rattle.std.proofs.lemmas.List.Sorted.{sum_by-IsPermutation}
use Rattle.std.proofs.lemmas.List.Sums.{sum_by-append}
use Rattle.fol_blocks.specs.Order.{by_place}
use Rattle.fol_blocks.specs.Weights.{lies_in, lies_outside, one_at}
use Rattle.fol_blocks.proofs.Weighing.{count_is, filtered, length_sum, split, untied}
use Rattle.fol_blocks.proofs.moves.move_fresh.Goals as goal

pub move_listed-requires-clause-apart : goal.move_listed-requires-clause-apart
move_listed-requires-clause-apart c =
    rw c.of.ensures
    (untied c.args.into.now.items (filter (lies_in c.args.chunks.now) c.args.fresh.now.items)
    (λ at. omega (arith, filtered (lies_in c.args.chunks.now) (one_at at) c.args.fresh.now.items, c.requires.apart at)))

left : (c : goal.After-len) → c.move_listed.new.rows.items ≡ filter (lies_outside c.args.chunks.now) c.args.fresh.now.items
left c = rw c.of.ensures at c.move_listed.ensures.left

moved : (c : goal.After-len) → IsPermutation (c.args.into.now.items ++ filter (lies_in c.args.chunks.now) c.args.fresh.now.items) c.move_listed.new.into.items
moved c = rw c.of.ensures at c.move_listed.ensures.moved

-- as many as there were are left or moved
counted : (c : goal.After-len) → length c.move_listed.new.rows.items + count_by (lies_in c.args.chunks.now) c.args.fresh.now.items ≡ length c.args.fresh.now.items
counted c =
    omega (
      arith,
      ap length (left c),
      length_sum (filter (lies_outside c.args.chunks.now) c.args.fresh.now.items),
      filtered (lies_outside c.args.chunks.now) (λ x. 1) c.args.fresh.now.items,
      count_is (lies_in c.args.chunks.now) c.args.fresh.now.items,
      split (lies_in c.args.chunks.now) (λ x. 1) c.args.fresh.now.items,
      length_sum c.args.fresh.now.items,
    )

pub overflow_sub-result : goal.overflow_sub-result
overflow_sub-result c = omega (arith, counted c)

pub returns-clause-order : goal.returns-clause-order
returns-clause-order c = rw (left c) (IsStrictlySortedBy-filter by_place (lies_outside c.args.chunks.now) c.args.fresh.now.items c.requires.order)

pub returns-clause-left : goal.returns-clause-left
returns-clause-left c = λ f. ap (sum_by f) (left c) ∙ filtered (lies_outside c.args.chunks.now) f c.args.fresh.now.items

pub returns-clause-moved : goal.returns-clause-moved
returns-clause-moved c = λ f.
    omega (
      arith,
      sum_by-IsPermutation f _ c.move_listed.new.into.items (moved c),
      sum_by-append f c.args.into.now.items (filter (lies_in c.args.chunks.now) c.args.fresh.now.items),
      filtered (lies_in c.args.chunks.now) f c.args.fresh.now.items,
    )

pub returns-clause-count : goal.returns-clause-count
returns-clause-count c = omega (arith, counted c)
