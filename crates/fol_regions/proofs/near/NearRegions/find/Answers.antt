use Rattle.std.proofs.Common.{◌≡◌, ◌<◌, ◌+◌, ◌*◌, sym, ◌∙◌, ap, arith, length}
use borrow.Author.Differences.{ints}
use Rattle.fol_model.specs.declared.places.SectionPos.{SectionPos}
use Rattle.fol_model.specs.Universe.{numbers_below}
use Rattle.fol_region_tables.specs.Book.{owner_of}
use Rattle.fol_regions.specs.Near.{regions_of, rows_of}
use Rattle.fol_region_tables.proofs.BookFacts.{owner_live, live_next}
use Rattle.fol_region_tables.proofs.Chosen.{filter_like}
use Rattle.fol_regions.proofs.NearRegions.{regions_none, regions_square, rows-none, rows-more, rows-square}
use Rattle.fol_regions.proofs.near.NearRegions.find.Goals as goal

pub loop-row-init : goal.loop-row-init
loop-row-init c = record {
  near = c.clear.ensures ∙ sym (ap (regions_of (owner_of c.args.tables.now) c.args.tables.now.next) (rows-none c.corner-first.result (2 * c.args.reach + 1)) ∙ regions_none (owner_of c.args.tables.now) c.args.tables.now.next);
  few = omega (arith, ap length c.clear.ensures);
}

pub find_row-requires-clause-first : goal.find_row-requires-clause-first
find_row-requires-clause-first c =
    let x = ap (λ (s : SectionPos). s.x) c.corner-first.ensures in
    let z = ap (λ (s : SectionPos). s.z) c.corner-first.ensures in
    let h = c.requires.home in
    (omega (arith, ints, x, h.0, c.requires.reach), omega (arith, ints, z, h.1, c.requires.reach))

pub loop-row-preserved : goal.loop-row-preserved
loop-row-preserved c =
    let n = 2 * c.args.reach + 1 in
    let first = c.corner-first.result in
    record {
      near = c.find_row.ensures.near (rows_of first c.loop-row.row n) c.loop-row.invariant.near ∙ ap (regions_of (owner_of c.args.tables.now) c.args.tables.now.next) (sym (rows-more first c.loop-row.row n));
      few = omega (arith, c.find_row.ensures.few, c.loop-row.invariant.few, c.requires.reach);
    }

pub returns-clause-near : goal.returns-clause-near
unfolding regions_of
returns-clause-near c =
    let owner = owner_of c.args.tables.now in
    let next = c.args.tables.now.next in
    let below : (q : SectionPos) → 0 < owner q → owner q < next = λ q p. live_next c.args.tables.now c.keeps_lists.ensures (owner q) (owner_live c.args.tables.now c.keeps_lists.ensures q p) in
    let e : c.loop-row.row ≡ 2 * c.args.reach + 1 = omega arith in
    let all = rw (e, c.corner-first.ensures) at c.loop-row.invariant.near in
    all ∙ ap (regions_of owner next) (rows-square c.args.home c.args.reach (2 * c.args.reach + 1) (omega arith)) ∙ filter_like _ _ (regions_square owner next below c.keeps_lists.ensures.limits c.args.home c.args.reach) (numbers_below next)
