use Rattle.std.proofs.Common.{sym, ◌∙◌, arith, inl, inr, length}
use Rattle.std.specs.Prelude.{◌≢◌, nat_eq}
use Rattle.std.proofs.lemmas.Bool.{cases_Bool, eqb-false}
use Rattle.fol_regions.proofs.BoundSteps.{first_into}
use Rattle.fol_regions.proofs.dead_bounds.forget_joined.Goals as goal

pub returns-then-not-is_empty : goal.returns-then-not-is_empty
returns-then-not-is_empty c = λ t us e r.
    let some : length c.args.merges.now ≢ 0 = eqb-false (length c.args.merges.now) 0 (sym c.is_empty.ensures ∙ c.if-not-is_empty.true) in
    let first = first_into c.args.merges.now t us (record { «from» = 0; into = 0 }) e (omega (arith, some)) in
    let n = rw first at (c.set.ensures r) in
    elim (cases_Bool (nat_eq t r)) [
      | inl y ↦ let m = rw y at n in omega (arith, m)
      | inr y ↦ let m = rw y at n in rw y (omega (arith, m))
    ]
