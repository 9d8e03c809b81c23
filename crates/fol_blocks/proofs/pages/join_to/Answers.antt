use Rattle.std.proofs.Common.{◌≡◌, ℕ, ◌+◌, ◌≤◌, ◌∙◌, ap, arith, take}
use Rattle.std.specs.Prelude.{sum_by}
use Rattle.std.proofs.lemmas.List.Sorted.{sum_by-IsPermutation}
use Rattle.std.proofs.lemmas.List.Sums.{sum_by-append}
use Rattle.fol_model.specs.declared.openings.BlockAt.{BlockAt}
use Rattle.fol_blocks.specs.Pages.{blocks_on}
use Rattle.fol_blocks.specs.Weights.{one_at}
use Rattle.fol_blocks.proofs.OnPages.{page_sum, sum_most}
use Rattle.fol_blocks.proofs.Spots.{order_on}
use Rattle.fol_blocks.proofs.Weighing.{length_sum, untied}
use Rattle.fol_blocks.proofs.pages.join_to.Goals as goal
use Rattle.fol_blocks.proofs.pages.join_to.Goals.{After-deref}

-- the blocks of one page more
more : (c : After-deref) (f : BlockAt → ℕ) → sum_by f (blocks_on (take (c.loop-page.page-index + 1) c.args.pages.now)) ≡ sum_by f (blocks_on (take c.loop-page.page-index c.args.pages.now)) + sum_by f c.deref.result.now
more c f =
    let here = c.deref.ensures.value ∙ ap (λ p. p.items) c.page-item.is in
    omega (arith, page_sum f c.args.pages.now c.loop-page.page-index c.page-item.result (omega arith), ap (sum_by f) here)

-- what has joined and what joins now is no more than all
within : (c : After-deref) (f : BlockAt → ℕ) → sum_by f c.loop-page.list.items + sum_by f c.deref.result.now ≤ sum_by f c.args.list.now.items + sum_by f (blocks_on c.args.pages.now)
within c f = omega (arith, c.loop-page.invariant.joined f, more c f, sum_most f c.args.pages.now (c.loop-page.page-index + 1))

pub join-requires-clause-others_order : goal.join-requires-clause-others_order
join-requires-clause-others_order c = rw (c.deref.ensures.value, c.page-item.is) (order_on c.args.pages.now c.loop-page.page-index c.page-item.result c.requires.pages (omega arith))

pub join-requires-clause-room : goal.join-requires-clause-room
join-requires-clause-room c =
    omega (
      arith,
      within c (λ x. 1),
      length_sum c.loop-page.list.items,
      length_sum c.deref.result.now,
      length_sum c.args.list.now.items,
      length_sum (blocks_on c.args.pages.now),
      c.loop-page.list.ok,
      c.args.list.now.ok,
      c.requires.room,
      c.loop-page.invariant.capacity,
    )

pub join-requires-clause-apart : goal.join-requires-clause-apart
join-requires-clause-apart c = untied c.loop-page.list.items c.deref.result.now (λ at. omega (arith, within c (one_at at), c.requires.apart at))

pub loop-page-preserved : goal.loop-page-preserved
loop-page-preserved c =
    let here = c.deref.ensures.value ∙ ap (λ p. p.items) c.page-item.is in
    record {
      order = c.join.ensures.order;
      joined = λ f.
          omega (
            arith,
            sum_by-IsPermutation f _ c.join.new.rows.items c.join.ensures.same,
            sum_by-append f c.loop-page.list.items c.deref.result.now,
            c.loop-page.invariant.joined f,
            page_sum f c.args.pages.now c.loop-page.page-index c.page-item.result (omega arith),
            ap (sum_by f) here,
          );
      capacity = omega arith;
    }
