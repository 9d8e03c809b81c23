use Rattle.std.proofs.Common.{◌≡◌, ◌+◌, ◌-◌, sym, ◌∙◌, ap, arith, cond}
use Rattle.std.specs.Prelude.{Some, is_some, nat_lt}
use Rattle.std.specs.Option.{option_copied_mut, unwrap_or}
use Rattle.std.proofs.lemmas.Int.{to_z-of_z}
use Rattle.std.proofs.lemmas.Map.Steps.{set_value_same}
use mir.Val.{SFits}
use mir.Syntax.{w32}
use Rattle.fol_sections.specs.Places.{number_at, is_same}
use Rattle.fol_sections.proofs.places.raise_again.Goals as goal

pub overflow_add-number : goal.overflow_add-number
unfolding number_at
overflow_add-number c =
    let fx : SFits w32 c.args.x = c.ranges.x in
    let fz : SFits w32 c.args.z = c.ranges.z in
    let value = simp to_z-of_z at c.get_mut.ensures.value in
    let was : number_at c.args.numbers.now.entries c.args.x c.args.z ≡ Some c.in-Some.number.now = sym value ∙ ap option_copied_mut c.in-Some.is in
    let before : c.in-Some.number.now ≡ unwrap_or (number_at c.args.numbers.now.entries c.args.x c.args.z) 0 = ap (λ o. unwrap_or o 0) (sym was) in
    omega (arith, before, c.requires.few)

pub returns-then-is_held-clause-some : goal.returns-then-is_held-clause-some
unfolding number_at
returns-then-is_held-clause-some c =
    let fx : SFits w32 c.args.x = c.ranges.x in
    let fz : SFits w32 c.args.z = c.ranges.z in
    let value = simp to_z-of_z at c.get_mut.ensures.value in
    let was : number_at c.args.numbers.now.entries c.args.x c.args.z ≡ Some c.in-Some.number.now = sym value ∙ ap option_copied_mut c.in-Some.is in
    let before : c.in-Some.number.now ≡ unwrap_or (number_at c.args.numbers.now.entries c.args.x c.args.z) 0 = ap (λ o. unwrap_or o 0) (sym was) in
    ap (nat_lt 0) before

pub returns-then-is_held-clause-more : goal.returns-then-is_held-clause-more
unfolding number_at is_same
returns-then-is_held-clause-more c = λ _ a b.
    let fx : SFits w32 c.args.x = c.ranges.x in
    let fz : SFits w32 c.args.z = c.ranges.z in
    let value = simp to_z-of_z at c.get_mut.ensures.value in
    let was : number_at c.args.numbers.now.entries c.args.x c.args.z ≡ Some c.in-Some.number.now = sym value ∙ ap option_copied_mut c.in-Some.is in
    let before : c.in-Some.number.now ≡ unwrap_or (number_at c.args.numbers.now.entries c.args.x c.args.z) 0 = ap (λ o. unwrap_or o 0) (sym was) in
    let there = ap is_some (sym c.get_mut.ensures.value ∙ ap option_copied_mut c.in-Some.is) in
    let w = c.get_mut.follows.holds (c.in-Some.number.now + 1) in
    let updates = simp to_z-of_z at (w.3 there) in
    updates.0 (a, b) ∙ ap (λ n. cond (is_same c.args.x c.args.z a b) (Some (n + 1)) (number_at c.args.numbers.now.entries a b)) before

pub returns-else-is_held-clause-some : goal.returns-else-is_held-clause-some
unfolding number_at
returns-else-is_held-clause-some c =
    let fx : SFits w32 c.args.x = c.ranges.x in
    let fz : SFits w32 c.args.z = c.ranges.z in
    let value = simp to_z-of_z at c.get_mut.ensures.value in
    let was : number_at c.args.numbers.now.entries c.args.x c.args.z ≡ Some c.in-Some.number.now = sym value ∙ ap option_copied_mut c.in-Some.is in
    let before : c.in-Some.number.now ≡ unwrap_or (number_at c.args.numbers.now.entries c.args.x c.args.z) 0 = ap (λ o. unwrap_or o 0) (sym was) in
    ap (nat_lt 0) before

pub returns-else-is_held-clause-stays : goal.returns-else-is_held-clause-stays
returns-else-is_held-clause-stays c = λ _.
    let w = c.get_mut.follows.holds c.in-Some.number.now in
    w.0 ∙ set_value_same _ c.args.numbers.now.entries c.in-Some.number.now (sym c.get_mut.ensures.value ∙ ap option_copied_mut c.in-Some.is)

pub returns-in-None-clause-some : goal.returns-in-None-clause-some
unfolding number_at
returns-in-None-clause-some c =
    let fx : SFits w32 c.args.x = c.ranges.x in
    let fz : SFits w32 c.args.z = c.ranges.z in
    let value = simp to_z-of_z at c.get_mut.ensures.value in
    let none : unwrap_or (number_at c.args.numbers.now.entries c.args.x c.args.z) 0 ≡ 0 = ap (λ o. unwrap_or o 0) (sym value ∙ ap option_copied_mut c.in-None.is) in
    ap (nat_lt 0) (sym none)
