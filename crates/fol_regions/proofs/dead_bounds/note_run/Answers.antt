use Rattle.std.proofs.Common.{◌≡◌, ◌∙◌, sym, ap, arith, get_or, length}
use Rattle.std.specs.Prelude.{count_by, nat_eq}
use Rattle.std.proofs.lemmas.List.{get_or_append_left, get_or_default}
use Rattle.fol_laws.proofs.Coordinates.{count_by-append}
use Rattle.fol_regions.proofs.BoundSteps.{count_alike}
use Rattle.fol_regions.proofs.dead_bounds.note_run.Goals as goal

pub loop-rest-init : goal.loop-rest-init
loop-rest-init c = record { few = c.requires; noted = λ r. omega arith }

pub loop-rest-preserved : goal.loop-rest-preserved
loop-rest-preserved c =
    let rest = c.loop-rest.rest.now in
    let same = c.split_at.result.0.now in
    let others = c.split_at.result.1.now in
    let split = c.split_at.ensures.by_index.0 in
    let long : length same ≡ c.same_len.result = omega (arith, c.split_at.ensures.front_len, c.same_len.ensures.few) in
    record {
      few = omega (arith, c.loop-rest.invariant.few, c.split_at.ensures.back_len);
      noted = λ r.
          let whole = ap (count_by (λ id. nat_eq id r)) split ∙ count_by-append (λ id. nat_eq id r) same others in
          let first : get_or rest 0 0 ≡ get_or same 0 0 = ap (λ xs. get_or xs 0 0) split ∙ get_or_append_left same others 0 0 (omega (arith, long, c.same_len.ensures.some)) in
          let alike = count_alike same (get_or same 0 0) r
          (λ k d l. sym (ap (λ xs. get_or xs k d) split ∙ get_or_append_left same others d k l) ∙ c.same_len.ensures.same k d (omega (arith, l, long))
          ∙ get_or_default rest 0 d 0 (omega (arith, c.same_len.ensures.some, c.same_len.ensures.few)) ∙ first) in
          omega (arith, c.loop-rest.invariant.noted r, c.raise.ensures r, whole, alike, long);
    }
