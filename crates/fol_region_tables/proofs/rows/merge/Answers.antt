use Rattle.std.proofs.Common.{◌≡◌, ◌-◌, ◌<◌, ◌≤◌, refl, ◌∙◌, sym, ap, arith, drop, length, take}
use Rattle.std.specs.Prelude.{pos}
use Rattle.std.specs.List.{slice_range}
use Rattle.std.proofs.lemmas.List.{drop_all, length-set, length-take-le, length-drop}
use Rattle.fol_lists.specs.Numbered.{list_at, shifted, total, with_list}
use Rattle.fol_lists.proofs.Shifted.{length_shifted}
use Rattle.fol_model.specs.declared.places.SectionPos.{SectionPos}
use Rattle.fol_region_tables.proofs.MergeSteps.{merged_row, merging_found, merging_none, sorted_front, sorted_take}
use Rattle.fol_region_tables.proofs.Totals.{list_with, total_with, with_own, with_with}
use Rattle.fol_region_tables.proofs.rows.merge.Goals as goal

abbrev place : SectionPos
place = record { x = pos 0; z = pos 0 }

pub loop-left-init : goal.loop-left-init
loop-left-init c = record {
  lists = with_own c.args.lists.now c.args.n;
  long = c.requires.long;
  few = omega arith;
  few_left = omega arith;
  merging = merging_none _ _ _ _ _ refl (drop_all _ (list_at c.args.lists.now c.args.n) (omega (arith, c.requires.long))) refl c.requires.row.in_order c.requires.sections.in_order c.requires.apart;
}

pub count_before_last-at-requires : goal.count_before_last-at-requires
count_before_last-at-requires c = rw c.get-row.ensures (sorted_front _ _ c.loop-left.invariant.merging.first)

pub count_before_last-first-requires : goal.count_before_last-first-requires
count_before_last-first-requires c = sorted_take c.loop-left.left c.args.sections.now c.requires.sections.in_order

pub loop-left-preserved : goal.loop-left-preserved
loop-left-preserved c =
    let is = c.loop-left.invariant in
    let row = list_at c.loop-left.lists c.args.n in
    let ys = c.args.sections.now in
    let end = c.loop-left.end in
    let left = c.loop-left.left in
    let start = c.count_before_last-at.result in
    let from = c.count_before_last-first.result in
    let new = slice_range ys from left in
    let next = shifted row start end from new in
    let long : length (take end row) ≡ end = length-take-le end row (omega (arith, is.long, is.few)) in
    let many : length (take left ys) ≡ left = length-take-le left ys is.few_left in
    let few : start ≤ length (take end row) = rw c.get-row.ensures at c.count_before_last-at.ensures.few in
    let short : length (take start row) ≡ start = length-take-le start row (omega (arith, few, long, is.long, is.few)) in
    let steps = merging_found _ ys row start end left from place is.merging c.requires.sections.in_order (omega (arith, c.loop-left-test.true)) is.few_left (omega (arith, is.long, is.few, is.few_left)) few
    (rw c.get-row.ensures at c.count_before_last-at.ensures.before) (rw c.get-row.ensures at c.count_before_last-at.ensures.behind)
    (rw c.get-row.ensures at c.count_before_last-first.ensures.none) (rw c.get-row.ensures at c.count_before_last-first.ensures.before) (rw c.get-row.ensures at c.count_before_last-first.ensures.behind) in
    let number : c.args.n < length c.loop-left.lists.lists = omega (arith, c.requires.number, ap (λ v. length v.lists) is.lists, length-set c.args.lists.now.lists c.args.n row) in
    let listed : list_at c.shift_in.new.self c.args.n ≡ next = ap (λ v. list_at v c.args.n) c.shift_in.ensures ∙ list_with c.loop-left.lists c.args.n next number in
    record {
      lists = c.shift_in.ensures ∙ ap (λ v. with_list v c.args.n next) is.lists ∙ with_with c.args.lists.now c.args.n row next ∙ ap (with_list c.args.lists.now c.args.n) (sym listed);
      long = ap length listed ∙ length_shifted row new start end from (omega (arith, few, long)) (omega (arith, is.long, is.few, is.few_left, steps.0, length-take-le (left - from) (drop from ys) (omega (arith, length-drop from ys, is.few_left)))) ∙ is.long;
      few = omega (arith, few, long, is.few);
      few_left = omega (arith, steps.0, is.few_left);
      merging = rw listed steps.1;
    }

pub loop-left-smaller : goal.loop-left-smaller
loop-left-smaller c =
    let is = c.loop-left.invariant in
    let row = list_at c.loop-left.lists c.args.n in
    let ys = c.args.sections.now in
    let end = c.loop-left.end in
    let left = c.loop-left.left in
    let start = c.count_before_last-at.result in
    let from = c.count_before_last-first.result in
    let few : start ≤ length (take end row) = rw c.get-row.ensures at c.count_before_last-at.ensures.few in
    let steps = merging_found _ ys row start end left from place is.merging c.requires.sections.in_order (omega (arith, c.loop-left-test.true)) is.few_left (omega (arith, is.long, is.few, is.few_left)) few
    (rw c.get-row.ensures at c.count_before_last-at.ensures.before) (rw c.get-row.ensures at c.count_before_last-at.ensures.behind)
    (rw c.get-row.ensures at c.count_before_last-first.ensures.none) (rw c.get-row.ensures at c.count_before_last-first.ensures.before) (rw c.get-row.ensures at c.count_before_last-first.ensures.behind) in
    omega (arith, steps.0)

pub returns-clause-united : goal.returns-clause-united
returns-clause-united c = c.loop-left.invariant.lists ∙ ap (with_list c.args.lists.now c.args.n) (merged_row _ _ _ _ _ c.loop-left-test.false c.loop-left.invariant.merging c.requires.row c.requires.sections)

pub returns-clause-total : goal.returns-clause-total
returns-clause-total c =
    let is = c.loop-left.invariant in
    omega (arith, ap total is.lists, total_with c.args.lists.now c.args.n (list_at c.loop-left.lists c.args.n) c.requires.number, is.long, c.requires.long)
