use Rattle.std.proofs.Common.{sym, ◌∙◌, ap, arith, [], ◌∷◌, ◌++◌, get_or}
use Rattle.std.specs.Prelude.{pos}
use Rattle.std.proofs.lemmas.List.{take_more}
use borrow.Author.Differences.{ints}
use Rattle.fol_split.specs.declared.runs.Run.{Run}
use Rattle.fol_split.specs.Runs.{sections_of}
use Rattle.fol_split.proofs.Rows.{single, wider}
use Rattle.fol_split.proofs.runs.first_run.Goals as goal

pub loop-s-init : goal.loop-s-init
loop-s-init c = record {
  solid = omega (arith, ints, ap (λ (r : Run). r.from) c.of-run.ensures, ap (λ (r : Run). r.to) c.of-run.ensures);
  front = ap sections_of c.of-run.ensures ∙ single c.args.first;
}

pub loop-s-preserved : goal.loop-s-preserved
loop-s-preserved c =
    let rest = c.args.rest.now in
    let i = c.loop-s.s-index in
    let s = get_or rest i (record { x = pos 0; z = pos 0 }) in
    let run = c.loop-s.run in
    let inv = c.loop-s.invariant in
    let next = c.is_before.ensures.0 c.if-not-is_before.false in
    record {
      solid = omega (arith, ints, ap (λ (r : Run). r.from) c.with-run.ensures, ap (λ (r : Run). r.to) c.with-run.ensures, inv.solid, next.1);
      front = ap sections_of c.with-run.ensures ∙ wider run inv.solid s next.0 next.1 ∙ ap (λ xs. xs ++ s ∷ []) inv.front
          ∙ ap (λ xs. c.args.first ∷ xs) (sym (take_more rest i (record { x = pos 0; z = pos 0 }) c.loop-s-test.true));
    }
