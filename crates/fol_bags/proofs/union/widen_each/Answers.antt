use Rattle.std.proofs.Common.{rules, ◌≡◌, Bool, true, false, sym, ◌∙◌, ap, take, get_or, pos, refl}
use Rattle.std.specs.Prelude.{◌||◌}
use Rattle.fol_model.specs.Geometry.{same_chunk}
use Rattle.fol_model.specs.declared.places.ChunkPos.{ChunkPos}
use Rattle.fol_chunks.specs.Contents.{is_recorded}
use Rattle.fol_keyed.proofs.Recorded.{recorded_more}
use Rattle.fol_bags.specs.Unions.{IsPartOfUnion}
use Rattle.fol_bags.proofs.Unions.{part_taken}
use Rattle.fol_bags.proofs.union.widen_each.Goals as goal

regroup : (a b s : Bool) → ((a || b) || s) ≡ (a || (b || s))
regroup true b s = refl
regroup false b s = refl

pub loop-c-preserved : goal.loop-c-preserved
loop-c-preserved c =
    let d : ChunkPos = record { x = pos 0; z = pos 0 } in
    let others = c.args.others.now in
    let k = c.loop-c.c-index in
    record {
      order = c.in_ok-widen.ensures.order;
      has = λ q.
          c.in_ok-widen.ensures.has q
          ∙ ap (λ a. a || same_chunk (get_or others k d) q) (c.loop-c.invariant.has q)
          ∙ regroup (is_recorded c.args.set.now q) (is_recorded (take k others) q) (same_chunk (get_or others k d) q)
          ∙ ap (λ b. is_recorded c.args.set.now q || b) (sym (recorded_more others k d q c.loop-c-test.true));
    }

pub returns-in_err-widen-clause-err : goal.returns-in_err-widen-clause-err
returns-in_err-widen-clause-err c =
    let part : IsPartOfUnion c.args.set.now c.args.others.now c.widen.new.self = rw c.in_err-widen.ensures.err (part_taken c.args.set.now c.args.others.now c.loop-c.set c.loop-c.c-index c.loop-c.invariant) in
    search rules
