use Rattle.std.proofs.Common.{◌≡◌, ℕ, ◌+◌, ◌∙◌, subst, arith, refl, slice_index_or}
use Rattle.fol_regions.specs.Table.{grid_state}
use Rattle.fol_store.specs.Stock.{bag_of}
use Rattle.fol_world.specs.Parts.{SharesBelow}
use Rattle.fol_world.proofs.FollowedIds.{follow_at}
use Rattle.fol_world.proofs.PartedBags.{among_at, fresh_among, left_order, left_part, next_fresh, shares_heir, shares_next, shares_none}
use Rattle.fol_world.proofs.parts.share_but.Goals.{then-id-heir, else-id-heir}
use Rattle.fol_world.proofs.parts.share_but.Goals as goal

pub loop-id-init : goal.loop-id-init
loop-id-init c =
    let g = grid_state c.args.regions.now in
    let f = bag_of c.args.store.now in
    record {
      shares = λ n follow below.
          let P : ℕ → Type 0 = λ m. SharesBelow g c.args.region c.args.heir c.args.parts.now m f f in
          let z : n ≡ n + 0 = omega arith in
          subst P z (shares_none g c.args.region c.args.heir c.args.parts.now f n follow c.requires.heir c.requires.chunks);
      things = record { flat = refl; jobs = refl };
      next = refl;
    }

pub share-requires-clause-order : goal.share-requires-clause-order
share-requires-clause-order c = left_order (grid_state c.args.regions.now) c.args.region c.args.heir c.args.parts.now (bag_of c.args.store.now) (bag_of c.loop-id.store) _
    (c.loop-id.invariant.shares c.requires.fresh.first c.requires.fresh.follow c.requires.fresh.below)

pub share-requires-clause-chunks : goal.share-requires-clause-chunks
share-requires-clause-chunks c =
    let id = slice_index_or c.args.parts.now c.loop-id.id-index 0 in
    let at = follow_at c.requires.fresh.first c.args.parts.now c.loop-id.id-index 0 c.requires.fresh.follow c.loop-id-test.true in
    let s = c.loop-id.invariant.shares c.requires.fresh.first c.requires.fresh.follow c.requires.fresh.below in
    left_part (grid_state c.args.regions.now) c.args.region c.args.heir c.args.parts.now (bag_of c.args.store.now) (bag_of c.loop-id.store) id (rw at s)
    (among_at c.args.parts.now c.loop-id.id-index c.loop-id-test.true)

pub share-requires-clause-fresh : goal.share-requires-clause-fresh
share-requires-clause-fresh c =
    let id = slice_index_or c.args.parts.now c.loop-id.id-index 0 in
    let at = follow_at c.requires.fresh.first c.args.parts.now c.loop-id.id-index 0 c.requires.fresh.follow c.loop-id-test.true in
    let s = c.loop-id.invariant.shares c.requires.fresh.first c.requires.fresh.follow c.requires.fresh.below in
    next_fresh (grid_state c.args.regions.now) c.args.region c.args.heir c.args.parts.now (bag_of c.args.store.now) (bag_of c.loop-id.store) id (rw at s)
    (fresh_among c.args.region c.args.parts.now (bag_of c.args.store.now) c.requires.fresh id (among_at c.args.parts.now c.loop-id.id-index c.loop-id-test.true))

pub loop-id-preserved : goal.loop-id-preserved
loop-id-preserved c =
    let g = grid_state c.args.regions.now in
    let r = c.args.region in
    let heir = c.args.heir in
    let ids = c.args.parts.now in
    let i = c.loop-id.id-index in
    let id = slice_index_or ids i 0 in
    let f = bag_of c.args.store.now in
    let first = c.requires.fresh.first in
    let at = follow_at first ids i 0 c.requires.fresh.follow c.loop-id-test.true in
    let s = c.loop-id.invariant.shares first c.requires.fresh.follow c.requires.fresh.below in
    elim c.if-id-heir.branch [
      | then-id-heir w ↦
          let p = fresh_among r ids f c.requires.fresh id (among_at ids i c.loop-id-test.true) in
          let q = fresh_among r ids f c.requires.fresh heir c.requires.heir in
          rw w.store-is (record {
            shares = λ n follow below.
                let k : id ≡ n + i = follow_at n ids i 0 follow c.loop-id-test.true in
                let next : id + 1 ≡ n + (i + 1) = omega (arith, k) in
                let P : ℕ → Type 0 = λ m. SharesBelow g r heir ids m f (bag_of w.share.new.store) in
                let before : SharesBelow g r heir ids id f (bag_of c.loop-id.store) = rw k (c.loop-id.invariant.shares n follow below) in
                subst P next (shares_next g r heir ids f (bag_of c.loop-id.store) (bag_of w.share.new.store) id (λ e. absurd (w.if-id-heir.true e)) p.below q.below before
                w.share.ensures.rest w.share.ensures.left w.share.ensures.own w.share.ensures.others);
            things = record {
              flat = w.share.ensures.things.flat ∙ c.loop-id.invariant.things.flat;
              jobs = w.share.ensures.things.jobs ∙ c.loop-id.invariant.things.jobs;
            };
            next = w.share.ensures.next ∙ c.loop-id.invariant.next;
          })
      | else-id-heir w ↦ rw w.store-is (record {
        shares = λ n follow below.
            let k : id ≡ n + i = follow_at n ids i 0 follow c.loop-id-test.true in
            let next : id + 1 ≡ n + (i + 1) = omega (arith, k) in
            let P : ℕ → Type 0 = λ m. SharesBelow g r heir ids m f (bag_of c.loop-id.store) in
            let before : SharesBelow g r heir ids id f (bag_of c.loop-id.store) = rw k (c.loop-id.invariant.shares n follow below) in
            subst P next (shares_heir g r heir ids f (bag_of c.loop-id.store) id w.if-id-heir.false before);
        things = c.loop-id.invariant.things;
        next = c.loop-id.invariant.next;
      })
    ]
