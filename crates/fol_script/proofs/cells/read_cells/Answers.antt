use Rattle.std.proofs.Common.{◌≡◌, sym, ◌∙◌, subst, List, ℕ, ◌∷◌, ◌⊎◌, inl, inr, false, length}
use Rattle.fol_script.specs.Marks.{Going, left}
use Rattle.fol_script.proofs.Going.{done_at, no_places}
use Rattle.fol_script.proofs.cells.read_cells.Goals as goal
use Rattle.fol_script.proofs.cells.read_cells.Goals.{then-loop-more-test+else-not-is_empty, else-loop-more-test}

pub loop-more-preserved : goal.loop-more-preserved
loop-more-preserved c =
    let on = rw c.in-Some.is at c.in_ok-next.ensures.on in
    let after = left c.in-Some.goes_on c.in-Some.after.now in
    let e : left c.loop-more.more c.loop-more.rest.now ≡ on.0 ∷ after = rw c.loop-more-test.true on.1 in
    on.2 after c.args.form.now (left c.args.some c.args.text.now) c.args.cells.now.items
    (subst (λ (ws : List (List ℕ)). Going c.loop-more.marks c.loop-more.places.now ws c.loop-more.cells.items c.args.form.now (left c.args.some c.args.text.now) c.args.cells.now.items) e c.loop-more.invariant)

pub returns : goal.returns
returns c =
    let why : (c.loop-more.more ≡ false) ⊎ (length c.loop-more.places.now ≡ 0) = elim c.loop-more-test.branch [
      | then-loop-more-test+else-not-is_empty w ↦ inr (no_places c.loop-more.places.now (sym w.is_empty.ensures ∙ w.if-not-is_empty.false))
      | else-loop-more-test w ↦ inl w.loop-more-test.false
    ] in
    done_at c.loop-more.marks c.loop-more.places.now c.loop-more.more c.loop-more.rest.now c.loop-more.cells.items c.args.form.now (left c.args.some c.args.text.now) c.args.cells.now.items c.is_unfilled.result why c.is_unfilled.ensures c.loop-more.invariant
