-- The entities of the opening among those of a tick.
use Rattle.std.proofs.Common.{◌≡◌, ℕ, Bool, true, false, refl, sym, ◌∙◌, ap, inl, inr, List, [], ◌∷◌, map}
use Rattle.std.specs.Prelude.{nat_eq, if◌then◌else◌, filter, Option, Some, None, All}
use Rattle.std.specs.Option.{option_map, is_some}
use Rattle.std.specs.List.{AllByRecursion}
use Rattle.std.specs.List.Sorted.{IsStrictlySortedBy}
use Rattle.std.specs.declared.cmp.Ordering.TheVariants.{Less}
use Rattle.std.proofs.lemmas.Bool.{cases_Bool, eqb-true}
use Rattle.std.proofs.lemmas.List.Elements.{All-nil, All-cons}
use Rattle.std.proofs.lemmas.List.Kept.{IsStrictlySortedBy-filter}
use Rattle.fol_model.specs.declared.entities.Entity.{Entity}
use Rattle.fol_model.specs.declared.openings.Opening.{Opening}
use Rattle.fol_model.specs.ActionStep.{Standing}
use Rattle.fol_model.specs.World.{standing_in}
use Rattle.fol_chunks.specs.Contents.{flat_of}
use Rattle.fol_chunks.specs.Rows as chunks
use Rattle.fol_data.specs.declared.tick.Tick.{Tick}
use Rattle.fol_follow.specs.declared.entries.EntityAt.{EntityAt}
use Rattle.fol_follow.specs.Here.{AreHere, AreKnown, by_id, is_known, place_in}
use Rattle.fol_follow.specs.Table.{entity_at}

-- the same order, of entities without their speeds
order_kept : (es : List Entity) → IsStrictlySortedBy chunks.by_id es → IsStrictlySortedBy by_id (map entity_at es)
unfolding IsStrictlySortedBy
order_kept [] order = tt
order_kept (e ∷ es) order = (all e es order.0, order_kept es order.1)
  where
    all : (e : Entity) (es : List Entity) → AllByRecursion (λ (x : Entity). chunks.by_id e x ≡ Less) es → AllByRecursion (λ (x : EntityAt). by_id (entity_at e) x ≡ Less) (map entity_at es)
    all e [] h = tt
    all e (x ∷ xs) h = (h.0, all e xs h.1)

module _ (o : Opening) (known : ℕ → Bool) (is : (id : ℕ) → known id ≡ is_known o id) where
  abbrev pub among : List Entity → List EntityAt
  among es = map entity_at (filter (λ (e : Entity). known e.id) es)

  pub places_among : (es : List Entity) (id : ℕ) → place_in (among es) id ≡ (if is_known o id then option_map (λ (s : Standing). s.at) (standing_in es id) else None)
  places_among [] id = elim (cases_Bool (is_known o id)) [ inl k ↦ rw k refl | inr k ↦ rw k refl ]
  places_among (e ∷ es) id =
      let rest = places_among es id in
      elim (cases_Bool (nat_eq e.id id)) [
        | inl t ↦
            let s : e.id ≡ id = eqb-true e.id id t in
            let same : known e.id ≡ is_known o id = ap known s ∙ is id in
            elim (cases_Bool (is_known o id)) [
              | inl k ↦ let has : known e.id ≡ true = same ∙ k in rw (has, t, k) refl
              | inr k ↦ let lacks : known e.id ≡ false = same ∙ k in let left : place_in (among es) id ≡ None = rw k at rest in rw (lacks, k) left
            ]
        | inr t ↦ elim (cases_Bool (known e.id)) [
          | inl has ↦ rw (has, t) rest
          | inr lacks ↦ rw (lacks, t) rest
        ]
      ]

  all_known : (es : List Entity) → All (λ (e : EntityAt). is_known o e.id ≡ true) (among es)
  all_known [] = All-nil (λ (e : EntityAt). is_known o e.id ≡ true)
  all_known (e ∷ es) = elim (cases_Bool (known e.id)) [
    | inl has ↦ rw has (All-cons (λ (x : EntityAt). is_known o x.id ≡ true) (entity_at e) (among es) (sym (is e.id) ∙ has) (all_known es))
    | inr lacks ↦ rw lacks (all_known es)
  ]

  pub known_among : (es : List Entity) → IsStrictlySortedBy chunks.by_id es → AreKnown o (among es)
  known_among es order = record { order = order_kept (filter (λ (e : Entity). known e.id) es) (IsStrictlySortedBy-filter chunks.by_id (λ (e : Entity). known e.id) es order); known = all_known es }

  pub known_here : (es : List Entity) (here : List EntityAt) → here ≡ among es → IsStrictlySortedBy chunks.by_id es → AreKnown o here
  known_here es here is order = rw is (known_among es order)

  pub are_here : (tick : Tick) (es : List Entity) (here : List EntityAt) → here ≡ among es → IsStrictlySortedBy chunks.by_id es → standing_in es ≡ (flat_of tick.body.chunks).standing → AreHere o tick here
  are_here tick es here is order standing = record {
    order = (known_here es here is order).order;
    each = λ id. ap (λ (xs : List EntityAt). place_in xs id) is ∙ places_among es id ∙ ap (λ (f : ℕ → Option Standing). if is_known o id then option_map (λ (s : Standing). s.at) (f id) else None) standing;
  }
