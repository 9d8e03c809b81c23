use Rattle.std.proofs.Common.{◌≡◌, ◌∙◌, ◌∷◌, [], List, sym, arith, subst}
use Rattle.fol_model.specs.declared.places.SectionPos.{SectionPos}
use Rattle.fol_region_tables.proofs.Weaving.{Weaving, none_left, weaving_all, weaving_more}
use Rattle.fol_region_tables.proofs.weave.weave.Goals as goal

pub loop-s-preserved : goal.loop-s-preserved
loop-s-preserved c =
    let begins : c.loop-s.rest.now ≡ c.in-Some.s.now ∷ c.in-Some.others.now = c.in-Some.ensures.cases.0 in
    let w = subst (λ (zs : List SectionPos). Weaving c.args.xs.now c.args.ys.now c.loop-s.out.items zs c.loop-s.later.now) begins c.loop-s.invariant.weaving in
    record {
      weaving = subst (λ (zs : List SectionPos). Weaving c.args.xs.now c.args.ys.now zs c.in-Some.others.now c.put_before-later.result.now) (sym c.push_reserved.ensures.items)
          (weaving_more _ _ _ _ _ _ _ _ w c.put_before-later.ensures.moved c.put_before-later.ensures.behind);
      capacity = omega (arith, c.push_reserved.ensures.capacity, c.put_before-later.ensures.room, c.loop-s.invariant.capacity);
    }

pub returns-clause-woven : goal.returns-clause-woven
returns-clause-woven c =
    let w = c.loop-s.invariant.weaving in
    let ends : c.loop-s.rest.now ≡ [] = none_left c.loop-s.rest.now c.in_default.ensures.cases in
    let ok = c.extend_from_slice.ensures.succeeds (omega (arith, w.many, c.requires.room, c.loop-s.invariant.capacity)) in
    let items = rw ok at c.extend_from_slice.ensures.items in
    items ∙ weaving_all _ _ _ _ (subst (λ (zs : List SectionPos). Weaving c.args.xs.now c.args.ys.now c.loop-s.out.items zs c.loop-s.later.now) ends w) c.requires.first c.requires.second
