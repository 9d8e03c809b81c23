use Rattle.std.proofs.Common.{◌≡◌, ◌++◌, ap, ◌∙◌, arith, rules, length, length-append}
use Rattle.std.specs.Prelude.{pos, ◌+ℤ◌, ◌-ℤ◌, ◌<ℤ◌, ◌≤ℤ◌, nat_abs}
use Rattle.std.proofs.lemmas.Int.{to_z-of_z}
use mir.Val.{to_z, of_z, SFits}
use mir.Syntax.{w32}
use borrow.Author.Differences.{ints}
use Rattle.fol_split.proofs.Rows.{row, length-row, length-run, row-start, row-step, row-whole}
use Rattle.fol_split.proofs.runs.append_run.Goals as goal

pub loop-x-init : goal.loop-x-init
loop-x-init c =
    let f : SFits w32 c.args.run.from = search rules in
    let t : SFits w32 c.args.run.to = search rules in
    let from : to_z w32 (of_z w32 c.args.run.from) ≡ c.args.run.from = simp to_z-of_z in
    record {
      low = omega (arith, ints, from);
      high = omega (arith, ints, from, c.requires.solid);
      found = row-start c.args.found.now.items c.args.run.z c.args.run.from _ from;
      room = omega arith;
    }

pub push_reserved-requires : goal.push_reserved-requires
push_reserved-requires c =
    let inv = c.loop-x.invariant in
    let ft : SFits w32 c.args.run.to = search rules in
    let to : to_z w32 (of_z w32 c.args.run.to) ≡ c.args.run.to = simp to_z-of_z in
    let less : to_z w32 c.loop-x.x-bits <ℤ c.args.run.to = grind (arith, ints) in
    let len = ap length inv.found ∙ length-append c.args.found.now.items (row c.args.run.z c.args.run.from (nat_abs (to_z w32 c.loop-x.x-bits -ℤ c.args.run.from))) in
    let wide = length-row c.args.run.z c.args.run.from (nat_abs (to_z w32 c.loop-x.x-bits -ℤ c.args.run.from)) in
    omega (arith, ints, len, wide, length-run c.args.run, inv.low, less, c.requires.room, inv.room)

pub loop-x-preserved : goal.loop-x-preserved
loop-x-preserved c =
    let fz : SFits w32 c.args.run.z = search rules in
    let ft : SFits w32 c.args.run.to = search rules in
    let inv = c.loop-x.invariant in
    let z : to_z w32 (of_z w32 c.args.run.z) ≡ c.args.run.z = simp to_z-of_z in
    let to : to_z w32 (of_z w32 c.args.run.to) ≡ c.args.run.to = simp to_z-of_z in
    let less : to_z w32 c.loop-x.x-bits <ℤ c.args.run.to = grind (arith, ints) in
    let next : to_z w32 (of_z w32 (to_z w32 c.loop-x.x-bits +ℤ pos 1)) ≡ to_z w32 c.loop-x.x-bits +ℤ pos 1 = omega (arith, ints, less, inv.low, inv.high) in
    record {
      low = omega (arith, ints, next, inv.low);
      high = omega (arith, ints, next, less);
      found = c.push_reserved.ensures.items ∙ row-step c.args.found.now.items c.loop-x.found.items c.args.run.z c.args.run.from _ _ _ inv.found inv.low (λ i. record { x = to_z w32 c.loop-x.x-bits; z = z i }) next;
      room = omega (arith, c.push_reserved.ensures.capacity, inv.room);
    }

pub returns-clause-found : goal.returns-clause-found
returns-clause-found c =
    let ft : SFits w32 c.args.run.to = search rules in
    let inv = c.loop-x.invariant in
    let to : to_z w32 (of_z w32 c.args.run.to) ≡ c.args.run.to = simp to_z-of_z in
    let end : to_z w32 c.loop-x.x-bits ≡ c.args.run.to = (let stop : c.args.run.to ≤ℤ to_z w32 c.loop-x.x-bits = grind (arith, ints) in omega (arith, ints, stop, inv.high)) in
    inv.found ∙ ap (λ xs. c.args.found.now.items ++ xs) (row-whole c.args.run _ end)
