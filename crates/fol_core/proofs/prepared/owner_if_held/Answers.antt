use Rattle.std.proofs.Common.{◌≡◌, ℕ, ◌<◌, ◌∙◌, ap, arith, refl, true, Some}
use Rattle.std.specs.Prelude.{nat_lt}
use Rattle.std.proofs.lemmas.Bool.{lt-ltb}
use Rattle.fol_model.specs.declared.places.SectionPos.{SectionPos}
use Rattle.fol_model.specs.GridState.{GridState}
use Rattle.fol_regions.specs.Answers.{some_id}
use Rattle.fol_regions.specs.Table.{grid_state}
use Rattle.fol_core.proofs.HeldTouched.{alone, owner, owner_below, some_owner}
use Rattle.fol_core.proofs.prepared.owner_if_held.Goals as goal

is_some : (k : ℕ) → 0 < k → some_id k ≡ Some k
is_some k some = let e : nat_lt 0 k ≡ true = lt-ltb 0 k some in rw e refl

pub returns : goal.returns
returns c =
    let g : GridState = grid_state c.args.regions.now in
    let held : 0 < g.holds c.args.c = omega arith in
    let is : c.owner.result ≡ Some (owner g c.args.c) = c.owner.ensures ∙ (ap (λ (s : SectionPos). some_id (g.owner s)) c.requires.home ∙ is_some (owner g c.args.c) (some_owner g c.args.c c.keeps_rules.ensures held)) in
    rw is (record {
      held = (λ some. held, λ more. refl);
      owner = refl;
      given = owner_below g c.args.c c.keeps_rules.ensures held;
      alone = alone g c.args.c c.keeps_rules.ensures held;
    })
