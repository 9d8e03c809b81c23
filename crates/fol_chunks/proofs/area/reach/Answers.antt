use Rattle.std.proofs.Common.{◌≡◌, ◌≤◌, ◌/◌, ◌+◌, ◌∙◌, refl, ap, arith, rules, w32, unsigned_abs, ◌-ℤ◌, ◌≤ℤ◌, ◌<ℤ◌, pos}
use Rattle.std.specs.Prelude.{FitsSigned}
use Rattle.std.proofs.lemmas.Int.{ints, to_z-of_z}
use Rattle.fol_chunks.specs.Areas.{is_from_to, place_after}
use Rattle.fol_chunks.proofs.Strides.{ahead_inside, ahead_outside, back_inside, back_outside}
use Rattle.fol_chunks.proofs.area.reach.Goals.{then-speed-lt0, else-speed-lt0}
use Rattle.fol_chunks.proofs.area.reach.Goals as goal

pub returns-clause-inside : goal.returns-clause-inside
returns-clause-inside c = λ k l.
    let at : FitsSigned w32 c.args.at = search rules in
    let speed : FitsSigned w32 c.args.speed = search rules in
    let low : FitsSigned w32 c.args.low = search rules in
    let high : FitsSigned w32 c.args.high = search rules in
    let most : c.times.result ≤ c.abs_diff.result / c.unsigned_abs.result = omega (arith, c.times.ensures) in
    elim c.if-speed-lt0.branch [
      | then-speed-lt0 w ↦
          let back : c.args.speed <ℤ pos 0 = omega (arith, ints, w.if-speed-lt0.true) in
          let steps : c.abs_diff.result / c.unsigned_abs.result ≡ unsigned_abs (c.args.low -ℤ c.args.at) / unsigned_abs c.args.speed =
          rw (c.abs_diff.ensures, w.side-is, c.unsigned_abs.ensures.value, to_z-of_z w32 c.args.low low, to_z-of_z w32 c.args.at at, to_z-of_z w32 c.args.speed speed) refl in
          back_inside c.args.at c.args.low c.args.high c.requires c.args.speed k back (omega (arith, l, most, steps))
      | else-speed-lt0 w ↦
          let ahead : pos 0 ≤ℤ c.args.speed = omega (arith, ints, w.if-speed-lt0.false) in
          let steps : c.abs_diff.result / c.unsigned_abs.result ≡ unsigned_abs (c.args.high -ℤ c.args.at) / unsigned_abs c.args.speed =
          rw (c.abs_diff.ensures, w.side-is, c.unsigned_abs.ensures.value, to_z-of_z w32 c.args.high high, to_z-of_z w32 c.args.at at, to_z-of_z w32 c.args.speed speed) refl in
          ahead_inside c.args.at c.args.low c.args.high c.requires c.args.speed k ahead (omega (arith, l, most, steps))
    ]

pub returns-clause-end : goal.returns-clause-end
returns-clause-end c = λ l.
    let at : FitsSigned w32 c.args.at = search rules in
    let speed : FitsSigned w32 c.args.speed = search rules in
    let low : FitsSigned w32 c.args.low = search rules in
    let high : FitsSigned w32 c.args.high = search rules in
    let all : c.times.result ≡ c.abs_diff.result / c.unsigned_abs.result = omega (arith, c.times.ensures, l) in
    elim c.if-speed-lt0.branch [
      | then-speed-lt0 w ↦
          let back : c.args.speed <ℤ pos 0 = omega (arith, ints, w.if-speed-lt0.true) in
          let steps : c.abs_diff.result / c.unsigned_abs.result ≡ unsigned_abs (c.args.low -ℤ c.args.at) / unsigned_abs c.args.speed =
          rw (c.abs_diff.ensures, w.side-is, c.unsigned_abs.ensures.value, to_z-of_z w32 c.args.low low, to_z-of_z w32 c.args.at at, to_z-of_z w32 c.args.speed speed) refl in
          ap (λ n. is_from_to c.args.low c.args.high (place_after c.args.at c.args.speed (n + 1))) (all ∙ steps)
          ∙ back_outside c.args.at c.args.low c.args.high c.requires c.args.speed back
      | else-speed-lt0 w ↦
          let ahead : pos 0 <ℤ c.args.speed = omega (arith, ints, w.if-speed-lt0.false, c.if-speed-eq0.false) in
          let steps : c.abs_diff.result / c.unsigned_abs.result ≡ unsigned_abs (c.args.high -ℤ c.args.at) / unsigned_abs c.args.speed =
          rw (c.abs_diff.ensures, w.side-is, c.unsigned_abs.ensures.value, to_z-of_z w32 c.args.high high, to_z-of_z w32 c.args.at at, to_z-of_z w32 c.args.speed speed) refl in
          ap (λ n. is_from_to c.args.low c.args.high (place_after c.args.at c.args.speed (n + 1))) (all ∙ steps)
          ∙ ahead_outside c.args.at c.args.low c.args.high c.requires c.args.speed ahead
    ]
