use Rattle.std.proofs.Common.{◌≡◌, ◌+◌, ◌-◌, sym, ◌∙◌, ap, arith, cond}
use Rattle.std.specs.Prelude.{Some, is_some}
use Rattle.std.specs.Option.{option_copied_mut, unwrap_or}
use Rattle.std.proofs.lemmas.Int.{to_z-of_z}
use Rattle.std.proofs.lemmas.Result.{IfOk-at_ok}
use mir.Val.{SFits}
use mir.Syntax.{w32}
use Rattle.fol_sections.specs.Places.{number_at, is_same}
use Rattle.fol_sections.proofs.Results.{ok_value}
use Rattle.fol_sections.proofs.places.raise.Goals as goal

pub overflow_add-number : goal.overflow_add-number
unfolding number_at
overflow_add-number c =
    let fx : SFits w32 c.args.x = c.ranges.x in
    let fz : SFits w32 c.args.z = c.ranges.z in
    let value = simp to_z-of_z at c.get_mut.ensures.value in
    let was : number_at c.args.numbers.now.entries c.args.x c.args.z ≡ Some c.in-Some.number.now = sym value ∙ ap option_copied_mut c.in-Some.is in
    let before : c.in-Some.number.now ≡ unwrap_or (number_at c.args.numbers.now.entries c.args.x c.args.z) 0 = ap (λ o. unwrap_or o 0) (sym was) in
    omega (arith, before, c.requires.few)

pub returns-in-Some-clause-before : goal.returns-in-Some-clause-before
unfolding number_at
returns-in-Some-clause-before c =
    let fx : SFits w32 c.args.x = c.ranges.x in
    let fz : SFits w32 c.args.z = c.ranges.z in
    let value = simp to_z-of_z at c.get_mut.ensures.value in
    let was : number_at c.args.numbers.now.entries c.args.x c.args.z ≡ Some c.in-Some.number.now = sym value ∙ ap option_copied_mut c.in-Some.is in
    let before : c.in-Some.number.now ≡ unwrap_or (number_at c.args.numbers.now.entries c.args.x c.args.z) 0 = ap (λ o. unwrap_or o 0) (sym was) in
    before

pub returns-in-Some-clause-put : goal.returns-in-Some-clause-put
unfolding number_at is_same
returns-in-Some-clause-put c = λ a b.
    let fx : SFits w32 c.args.x = c.ranges.x in
    let fz : SFits w32 c.args.z = c.ranges.z in
    let value = simp to_z-of_z at c.get_mut.ensures.value in
    let was : number_at c.args.numbers.now.entries c.args.x c.args.z ≡ Some c.in-Some.number.now = sym value ∙ ap option_copied_mut c.in-Some.is in
    let before : c.in-Some.number.now ≡ unwrap_or (number_at c.args.numbers.now.entries c.args.x c.args.z) 0 = ap (λ o. unwrap_or o 0) (sym was) in
    let there = ap is_some (sym c.get_mut.ensures.value ∙ ap option_copied_mut c.in-Some.is) in
    let w = c.get_mut.follows.holds (c.in-Some.number.now + 1) in
    let updates = simp to_z-of_z at (w.3 there) in
    updates.0 (a, b) ∙ ap (λ n. cond (is_same c.args.x c.args.z a b) (Some (n + 1)) (number_at c.args.numbers.now.entries a b)) before

pub returns-in-None-clause-before : goal.returns-in-None-clause-before
unfolding number_at
returns-in-None-clause-before c =
    let fx : SFits w32 c.args.x = c.ranges.x in
    let fz : SFits w32 c.args.z = c.ranges.z in
    let value = simp to_z-of_z at c.get_mut.ensures.value in
    let none : unwrap_or (number_at c.args.numbers.now.entries c.args.x c.args.z) 0 ≡ 0 = ap (λ o. unwrap_or o 0) (sym value ∙ ap option_copied_mut c.in-None.is) in
    sym none

pub returns-in-None-clause-put : goal.returns-in-None-clause-put
unfolding number_at is_same
returns-in-None-clause-put c = λ a b.
    let fx : SFits w32 c.args.x = c.ranges.x in
    let fz : SFits w32 c.args.z = c.ranges.z in
    let value = simp to_z-of_z at c.get_mut.ensures.value in
    let none : unwrap_or (number_at c.args.numbers.now.entries c.args.x c.args.z) 0 ≡ 0 = ap (λ o. unwrap_or o 0) (sym value ∙ ap option_copied_mut c.in-None.is) in
    let same = c.get_mut.follows.holds-at-none in
    let r = ok_value c.insert.result (c.insert.ensures.succeeds (rw same c.requires.room)) in
    let updates = rw same at (simp to_z-of_z at (IfOk-at_ok _ r.1 c.insert.ensures.updates)) in
    updates.0 (a, b) ∙ ap (λ n. cond (is_same c.args.x c.args.z a b) (Some (n + 1)) (number_at c.args.numbers.now.entries a b)) (sym none)
