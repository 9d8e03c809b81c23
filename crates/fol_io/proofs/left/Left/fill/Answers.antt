use Rattle.std.proofs.Common.{◌≡◌, ◌++◌, take, drop, flat_map, ap, ◌∙◌, arith}
use Rattle.std.proofs.lemmas.List.{length-take-le}
use Rattle.fol_io.specs.Left.{left_of}
use Rattle.fol_io.proofs.NextBytes.{front_full, front_short, taken_more}
use Rattle.fol_io.proofs.left.Left.fill.Goals as goal

pub loop-len-preserved : goal.loop-len-preserved
loop-len-preserved c =
    let row = c.has_row.new.self.row.now in
    let rest = flat_map (λ part. part.items) c.has_row.new.self.parts.now in
    let before : take c.loop-len.len c.loop-len.carry ++ (row ++ rest) ≡ left_of c.args.self.now =
    ap (λ t. take c.loop-len.len c.loop-len.carry ++ t) c.has_row.ensures.same ∙ c.loop-len.invariant.moved in
    let next = c.copy_from_slice.ensures.after ∙ c.split_at.ensures.front in
    record {
      within = omega (arith, c.min-count.ensures);
      moved = taken_more c.loop-len.len c.min-count.result c.loop-len.carry c.copy_from_slice.new.self row c.split_at.result.1.now rest (left_of c.args.self.now) before (omega arith)
          (omega (arith, c.min-count.ensures)) next c.split_at.ensures.back;
    }

at_end : (c : goal.Else-has_row) → (left_of c.has_row.new.self ≡ drop 4096 (left_of c.args.self.now)) × (take c.loop-len.len c.loop-len.carry ≡ take 4096 (left_of c.args.self.now))
at_end c =
    let before = ap (λ t. take c.loop-len.len c.loop-len.carry ++ t) c.has_row.ensures.same ∙ c.loop-len.invariant.moved in
    front_short 4096 _ _ _ before (c.has_row.ensures.none c.if-has_row.false) (omega (arith, length-take-le c.loop-len.len c.loop-len.carry))

pub returns-else-has_row-clause-left : goal.returns-else-has_row-clause-left
returns-else-has_row-clause-left c = (at_end c).0

pub returns-else-has_row-clause-bytes : goal.returns-else-has_row-clause-bytes
returns-else-has_row-clause-bytes c = (at_end c).1

full : (c : goal.After-loop-len) → (left_of c.loop-len.self ≡ drop 4096 (left_of c.args.self.now)) × (take c.loop-len.len c.loop-len.carry ≡ take 4096 (left_of c.args.self.now))
full c = front_full 4096 _ _ _ c.loop-len.invariant.moved (omega (arith, length-take-le c.loop-len.len c.loop-len.carry))

pub returns-after-loop-len-clause-left : goal.returns-after-loop-len-clause-left
returns-after-loop-len-clause-left c = (full c).0

pub returns-after-loop-len-clause-bytes : goal.returns-after-loop-len-clause-bytes
returns-after-loop-len-clause-bytes c = (full c).1
