use Rattle.std.proofs.Common.{ap, sym, arith, length, take, [], length-take-le}
use Rattle.std.proofs.lemmas.List.{length-map, take_more}
use Rattle.fol_regions.specs.declared.change.MergePair.{MergePair}
use Rattle.fol_regions.specs.Changes.{Changes}
use Rattle.fol_regions.proofs.JoinAll.{still_live, t_live, still_last, joined_more, into_more, apart_at, ids_few}
use Rattle.fol_regions.proofs.release.join_all.Goals as goal

pub merge-requires-clause-region : goal.merge-requires-clause-region
merge-requires-clause-region c =
    still_live c.args.tables.now c.args.id c.keeps_lists.ensures c.requires.region c.requires.alone c.requires.last c.requires.few c.args.ids.now c.requires.ids c.loop-u.u-index (omega arith) _ c.loop-u.invariant.joins

pub merge-requires-clause-into : goal.merge-requires-clause-into
merge-requires-clause-into c =
    t_live c.args.tables.now c.args.id c.keeps_lists.ensures c.requires.region c.requires.alone c.requires.last c.requires.few c.args.ids.now c.requires.ids c.loop-u.u-index (omega arith) _ c.loop-u.invariant.joins

pub merge-requires-clause-apart : goal.merge-requires-clause-apart
merge-requires-clause-apart c =
    apart_at c.args.tables.now c.args.id c.keeps_lists.ensures c.requires.region c.requires.alone c.requires.last c.requires.few c.args.ids.now c.requires.ids c.loop-u.u-index (omega arith)

pub merge-requires-clause-last : goal.merge-requires-clause-last
merge-requires-clause-last c =
    still_last c.args.tables.now c.args.id c.keeps_lists.ensures c.requires.region c.requires.alone c.requires.last c.requires.few c.args.ids.now c.requires.ids c.loop-u.u-index (omega arith) _ c.loop-u.invariant.joins

pub merge-requires-in-loop-u-clause-dead : goal.merge-requires-in-loop-u-clause-dead
merge-requires-in-loop-u-clause-dead c =
    let few = ids_few c.args.tables.now c.args.id c.keeps_lists.ensures c.requires.region c.requires.alone c.requires.last c.requires.few c.args.ids.now c.requires.ids in
    omega (arith, few, ap (λ (x : Changes). length x.dead) c.loop-u.invariant.change, length-take-le c.loop-u.u-index c.args.ids.now (omega arith))

pub merge-requires-in-loop-u-clause-merges : goal.merge-requires-in-loop-u-clause-merges
merge-requires-in-loop-u-clause-merges c =
    let few = ids_few c.args.tables.now c.args.id c.keeps_lists.ensures c.requires.region c.requires.alone c.requires.last c.requires.few c.args.ids.now c.requires.ids in
    omega (
      arith,
      few,
      ap (λ (x : Changes). length x.merges) c.loop-u.invariant.change,
      length-take-le c.loop-u.u-index c.args.ids.now (omega arith),
      length-map {B = MergePair} (take c.loop-u.u-index c.args.ids.now) (λ u. record { «from» = u; into = c.args.id }),
    )

pub loop-u-preserved : goal.loop-u-preserved
loop-u-preserved c =
    let i = c.loop-u.u-index in
    let more = take_more c.args.ids.now i 0 (omega arith) in
    let pairs = into_more c.args.tables.now c.args.id c.keeps_lists.ensures c.requires.region c.requires.alone c.requires.last c.requires.few c.args.ids.now c.requires.ids i (omega arith) in
    record {
      joins = joined_more c.args.tables.now c.args.id c.keeps_lists.ensures c.requires.region c.requires.alone c.requires.last c.requires.few c.args.ids.now c.requires.ids i (omega arith) _ c.loop-u.invariant.joins
          c.merge.new.self c.merge.ensures;
      change = rw (c.merge-in-loop-u.ensures, c.loop-u.invariant.change) (λ j. record { created = []; dead = sym more j; merges = pairs j; parts = [] });
    }
