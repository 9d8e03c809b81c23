use Rattle.std.proofs.Common.{◌≡◌, ℕ, ◌<◌, refl, sym, ◌∙◌, ap, arith, rules, false, [], ◌∷◌}
use Rattle.std.specs.Prelude.{nat_eq}
use Rattle.std.proofs.lemmas.Bool.{ne_eqb}
use Rattle.fol_model.specs.declared.places.SectionPos.{SectionPos}
use Rattle.fol_region_tables.proofs.BookFacts.{owner_live, live_next}
use Rattle.fol_region_tables.specs.Book.{owner_of}
use Rattle.fol_regions.specs.Near.{noted}
use Rattle.fol_regions.proofs.NearRegions.{regions_one}
use Rattle.fol_regions.proofs.touched.list_owner.Goals as goal
use Rattle.fol_regions.proofs.touched.list_owner.Goals.{then-id-ne0+in_ok-push, else-id-ne0}

-- an id is noted as the first
first_noted : (id : ℕ) → 0 < id → noted id [] ≡ id ∷ []
first_noted id some = let e : nat_eq id 0 ≡ false = ne_eqb id 0 (λ z. absurd (omega arith)) in rw e refl

pub returns : goal.returns
returns c =
    let owner = owner_of c.args.tables.now in
    let next = c.args.tables.now.next in
    let below : (q : SectionPos) → 0 < owner q → owner q < next = λ q p. live_next c.args.tables.now c.keeps_lists.ensures (owner q) (owner_live c.args.tables.now c.keeps_lists.ensures q p) in
    let one = ap (λ id. noted id []) c.owner-id.ensures ∙ regions_one owner next below c.args.home in
    elim c.if-id-ne0.branch [
      | then-id-ne0+in_ok-push w ↦
          let pushed : w.push.new.self.items ≡ c.owner-id.result ∷ [] = search rules in
          rw w.ids-is (pushed ∙ sym (first_noted c.owner-id.result (omega (arith, w.if-id-ne0.true))) ∙ one)
      | else-id-ne0 w ↦
          let zero : c.owner-id.result ≡ 0 = omega (arith, w.if-id-ne0.false) in
          rw w.ids-is (c.new-ids.ensures.items ∙ sym (ap (λ id. noted id []) zero) ∙ one)
    ]
