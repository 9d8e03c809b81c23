-- What two lists of entities say together of each entity.
use Rattle.std.proofs.Common.{◌≡◌, ℕ, ◌||◌, Bool, true, false, not, List, [], ◌∷◌, ◌++◌, ◌&&◌, map, refl, sym, ◌∙◌, ap, inl, inr, Option, Some, None, IsNone}
use Rattle.std.specs.Prelude.{nat_eq}
use Rattle.std.specs.Option.{option_map, option_or, is_none}
use Rattle.std.specs.List.{IsDistinct}
use Rattle.std.specs.List.Sorted.{IsPermutation, IsStrictlySortedBy}
use Rattle.std.proofs.lemmas.Bool.{cases_Bool, eqb-true}
use Rattle.std.proofs.Math.Path.{fun_ext}
use Rattle.fol_model.specs.declared.entities.Entity.{Entity}
use Rattle.fol_model.specs.ActionStep.{Recorded, Standing, standing_of, at_id}
use Rattle.fol_model.specs.FlatTick.{ahead, walked}
use Rattle.fol_model.specs.Geometry.{chunk_of}
use Rattle.fol_model.specs.World.{standing_in}
use Rattle.fol_keyed.specs.Apart.{Untied}
use Rattle.fol_chunks.specs.Contents.{entity_of, option_filter}
use Rattle.fol_chunks.specs.Rows.{by_id, stepped}
use Rattle.fol_chunks.specs.Crowds.{AreParted, is_still, walks}
use Rattle.fol_chunks.proofs.EntityLists.{entities_untied, joined_differ, standing_joined, standing_stays}
use Rattle.fol_chunks.proofs.Movement.{order_stepped, standing_stepped, walked_none, walked_kept, walked_still}

-- ---- one look-up, or another one
module _ {X : Type 0} where
  none_first : (i j : Option X) → IsNone (option_or i j) → i ≡ None
  none_first None j h = refl
  none_first (Some x) j h = cc

  none_second : (i j : Option X) → IsNone (option_or i j) → j ≡ None
  none_second None None h = refl
  none_second None (Some y) h = cc
  none_second (Some x) j h = cc

module _ {X Y : Type 0} (f : X → Y) where
  other_none : (i j : Option X) (y : Y) → (is_none i || is_none j) ≡ true → Some y ≡ option_map f i → j ≡ None
  other_none None j y h e = cc
  other_none (Some x) None y h e = refl
  other_none (Some x) (Some z) y h e = cc

  some_first : (i j : Option X) (y : Y) → Some y ≡ option_map f i → Some y ≡ option_map f (option_or i j)
  some_first None j y h = cc
  some_first (Some x) j y h = h

  none_then : (i j : Option X) (r : Option Y) → None ≡ option_map f i → r ≡ option_map f j → r ≡ option_map f (option_or i j)
  none_then None j r h e = e
  none_then (Some x) j r h e = cc

module _ {X : Type 0} (p : X → Bool) where
  filter_none : (q : X → Bool) (f : Option X) → IsNone (option_filter q f) → IsNone (option_filter q (option_filter p f))
  filter_none q None h = refl
  filter_none q (Some x) h = elim (cases_Bool (p x)) [ inl t ↦ rw t h | inr t ↦ rw t refl ]

  or_filter_none : (q : X → Bool) (i f : Option X) → IsNone (option_filter q i) → IsNone (option_filter q f) → IsNone (option_filter q (option_or i (option_filter p f)))
  or_filter_none q None f h g = filter_none q f g
  or_filter_none q (Some x) f h g = h

  filter_apart : (f g : Option X) → (is_none f || is_none g) ≡ true → (is_none (option_filter p f) || is_none (option_filter p g)) ≡ true
  filter_apart None g h = refl
  filter_apart (Some x) None h = elim (cases_Bool (p x)) [ inl t ↦ rw t refl | inr t ↦ rw t refl ]
  filter_apart (Some x) (Some y) h = cc

  or_filtered : (f g : Option X) → (is_none f || is_none g) ≡ true → option_or (option_filter p f) (option_filter p g) ≡ option_filter p (option_or f g)
  or_filtered None g h = refl
  or_filtered (Some x) None h = elim (cases_Bool (p x)) [ inl t ↦ rw t refl | inr t ↦ rw t refl ]
  or_filtered (Some x) (Some y) h = cc

  -- what passes comes to another pair of look-ups
  first_apart : (i j f g : Option X) → (is_none (option_or i j) || is_none (option_filter p (option_or f g))) ≡ true → (is_none i || is_none (option_filter p f)) ≡ true
  first_apart None j f g c = refl
  first_apart (Some x) j None g c = refl
  first_apart (Some x) j (Some y) g c = c

  second_apart : (i j f g : Option X) → (is_none i || is_none j) ≡ true → (is_none f || is_none g) ≡ true → (is_none (option_or i j) || is_none (option_filter p (option_or f g))) ≡ true → (is_none j || is_none (option_filter p g)) ≡ true
  second_apart i None f g a b c = refl
  second_apart i (Some y) f None a b c = refl
  second_apart None (Some y) None (Some z) a b c = c
  second_apart None (Some y) (Some w) (Some z) a b c = cc
  second_apart (Some x) (Some y) f (Some z) a b c = cc

  or_moved : (i j f g : Option X) → (is_none f || is_none g) ≡ true → (is_none (option_or i j) || is_none (option_filter p (option_or f g))) ≡ true
      → option_or (option_or i (option_filter p f)) (option_or j (option_filter p g)) ≡ option_or (option_or i j) (option_filter p (option_or f g))
  or_moved (Some x) j f g b c = refl
  or_moved None None f g b c = or_filtered f g b
  or_moved None (Some y) None g b c = refl
  or_moved None (Some y) (Some z) g b c = elim (cases_Bool (p z)) [ inl t ↦ let w : false ≡ true = rw t at c in absurd cc | inr t ↦ rw t refl ]

  joined_apart : (i j f g : Option X) → (is_none i || is_none j) ≡ true → (is_none f || is_none g) ≡ true → (is_none (option_or i j) || is_none (option_filter p (option_or f g))) ≡ true
      → (is_none (option_or i (option_filter p f)) || is_none (option_or j (option_filter p g))) ≡ true
  joined_apart None None f g a b c = filter_apart f g b
  joined_apart (Some x) None None g a b c = c
  joined_apart (Some x) None (Some z) None a b c = refl
  joined_apart (Some x) None (Some z) (Some w) a b c = cc
  joined_apart (Some x) (Some y) f g a b c = cc
  joined_apart None (Some y) None g a b c = refl
  joined_apart None (Some y) (Some z) g a b c = elim (cases_Bool (p z)) [ inl t ↦ let w : false ≡ true = rw t at c in absurd cc | inr t ↦ rw t refl ]

-- an entity of two lists is in the first or in the second
pub in_either : (es fs : List Entity) (id : ℕ) → standing_in (es ++ fs) id ≡ option_or (standing_in es id) (standing_in fs id)
in_either [] fs id = refl
in_either (e ∷ es) fs id = elim (cases_Bool (nat_eq e.id id)) [ inl t ↦ rw t refl | inr t ↦ rw t (in_either es fs id) ]

module _ {Y : Type 0} (f : Standing → Y) (es fs : List Entity) (id : ℕ) where
  pub found_first : (y : Y) → Some y ≡ option_map f (standing_in es id) → Some y ≡ option_map f (standing_in (es ++ fs) id)
  found_first y h = rw (in_either es fs id) (some_first f (standing_in es id) (standing_in fs id) y h)

  pub found_second : (r : Option Y) → None ≡ option_map f (standing_in es id) → r ≡ option_map f (standing_in fs id) → r ≡ option_map f (standing_in (es ++ fs) id)
  found_second r h e = rw (in_either es fs id) (none_then f (standing_in es id) (standing_in fs id) r h e)

-- no entity
pub none_parted : AreParted [] []
unfolding IsStrictlySortedBy
none_parted = record { walking_order = tt; still_order = tt; apart = λ id. refl; all_walk = λ id. refl; all_still = λ id. refl }

module _ (es fs : List Entity) (parted : AreParted es fs) where
  -- ---- an entity is taken out
  module _ (es' fs' : List Entity) (id : ℕ) (first : standing_in es' ≡ at_id (standing_in es) id None) (second : standing_in fs' ≡ at_id (standing_in fs) id None) where
    -- out of both, where the first may not have it
    pub taken_second : standing_in (es' ++ fs') ≡ at_id (standing_in (es ++ fs)) id None
    taken_second = fun_ext (λ q.
        in_either es' fs' q ∙ ap (λ (f : ℕ → Option Standing). option_or (f q) (standing_in fs' q)) first ∙ ap (λ (f : ℕ → Option Standing). option_or (at_id (standing_in es) id None q) (f q)) second
        ∙ elim (cases_Bool (nat_eq id q)) [ inl t ↦ rw t refl | inr t ↦ rw (t, in_either es fs q) refl ])

    pub taken_second_parted : IsStrictlySortedBy by_id es' → IsStrictlySortedBy by_id fs' → AreParted es' fs'
    taken_second_parted s t = record {
      walking_order = s;
      still_order = t;
      apart = λ q. rw (first, second) (elim (cases_Bool (nat_eq id q)) [ inl e ↦ rw e refl | inr e ↦ rw e (parted.apart q) ]);
      all_walk = λ q. rw first (elim (cases_Bool (nat_eq id q)) [ inl e ↦ rw e refl | inr e ↦ rw e (parted.all_walk q) ]);
      all_still = λ q. rw second (elim (cases_Bool (nat_eq id q)) [ inl e ↦ rw e refl | inr e ↦ rw e (parted.all_still q) ]);
    }

  -- out of the first
  module _ (es' : List Entity) (id : ℕ) (e : Entity) (there : Some e ≡ option_map (entity_of id) (standing_in es id)) (first : standing_in es' ≡ at_id (standing_in es) id None) where
    second_stays : standing_in fs ≡ at_id (standing_in fs) id None
    second_stays = standing_stays fs id (other_none (entity_of id) (standing_in es id) (standing_in fs id) e (parted.apart id) there)

    pub taken_first : standing_in (es' ++ fs) ≡ at_id (standing_in (es ++ fs)) id None
    taken_first = taken_second es' fs id first second_stays

    pub taken_first_parted : IsStrictlySortedBy by_id es' → AreParted es' fs
    taken_first_parted o = taken_second_parted es' fs id first second_stays o parted.still_order

  -- ---- an entity is put into one of the lists
  module _ (e : Entity) (fresh : IsNone (standing_in (es ++ fs) e.id)) where
    fresh_either : IsNone (option_or (standing_in es e.id) (standing_in fs e.id))
    fresh_either = rw (← in_either es fs e.id) fresh

    fresh_first : standing_in es e.id ≡ None
    fresh_first = none_first (standing_in es e.id) (standing_in fs e.id) fresh_either

    fresh_second : standing_in fs e.id ≡ None
    fresh_second = none_second (standing_in es e.id) (standing_in fs e.id) fresh_either

    -- it is in neither
    pub put_first_fresh : IsNone (standing_in es e.id)
    put_first_fresh = rw fresh_first refl

    pub put_second_fresh : IsNone (standing_in fs e.id)
    put_second_fresh = rw fresh_second refl

    module _ (es' : List Entity) (put : standing_in es' ≡ at_id (standing_in es) e.id (Some (standing_of e))) where
      pub put_first : standing_in (es' ++ fs) ≡ at_id (standing_in (es ++ fs)) e.id (Some (standing_of e))
      put_first = fun_ext (λ q.
          in_either es' fs q ∙ ap (λ (f : ℕ → Option Standing). option_or (f q) (standing_in fs q)) put
          ∙ elim (cases_Bool (nat_eq e.id q)) [ inl t ↦ rw t refl | inr t ↦ rw (t, in_either es fs q) refl ])

      pub put_first_parted : is_still (standing_of e) ≡ false → IsStrictlySortedBy by_id es' → AreParted es' fs
      put_first_parted w s = record {
        walking_order = s;
        still_order = parted.still_order;
        apart = λ q.
            rw put (elim (cases_Bool (nat_eq e.id q)) [
              | inl t ↦ let none : standing_in fs q ≡ None = ap (standing_in fs) (sym (eqb-true e.id q t)) ∙ fresh_second in rw (t, none) refl
              | inr t ↦ rw t (parted.apart q)
            ]);
        all_walk = λ q. rw put (elim (cases_Bool (nat_eq e.id q)) [ inl t ↦ rw (t, w) refl | inr t ↦ rw t (parted.all_walk q) ]);
        all_still = parted.all_still;
      }

    module _ (fs' : List Entity) (put : standing_in fs' ≡ at_id (standing_in fs) e.id (Some (standing_of e))) where
      pub put_second : standing_in (es ++ fs') ≡ at_id (standing_in (es ++ fs)) e.id (Some (standing_of e))
      put_second = fun_ext (λ q.
          in_either es fs' q ∙ ap (λ (f : ℕ → Option Standing). option_or (standing_in es q) (f q)) put
          ∙ elim (cases_Bool (nat_eq e.id q)) [
            | inl t ↦ let none : standing_in es q ≡ None = ap (standing_in es) (sym (eqb-true e.id q t)) ∙ fresh_first in rw (t, none) refl
            | inr t ↦ rw (t, in_either es fs q) refl
          ])

      pub put_second_parted : is_still (standing_of e) ≡ true → IsStrictlySortedBy by_id fs' → AreParted es fs'
      put_second_parted w s = record {
        walking_order = parted.walking_order;
        still_order = s;
        apart = λ q.
            rw put (elim (cases_Bool (nat_eq e.id q)) [
              | inl t ↦ let none : standing_in es q ≡ None = ap (standing_in es) (sym (eqb-true e.id q t)) ∙ fresh_first in rw none refl
              | inr t ↦ rw t (parted.apart q)
            ]);
        all_walk = parted.all_walk;
        all_still = λ q. rw put (elim (cases_Bool (nat_eq e.id q)) [ inl t ↦ rw (t, w) refl | inr t ↦ rw t (parted.all_still q) ]);
      }

  -- ---- all entities are listed
  pub either_differ : IsDistinct (λ a b. nat_eq a.id b.id) (es ++ fs)
  either_differ = joined_differ es fs parted.walking_order parted.still_order parted.apart

  pub either_untied : Untied by_id es fs
  either_untied = entities_untied es fs parted.walking_order parted.still_order parted.apart

  pub either_listed : (gs : List Entity) → IsPermutation (es ++ fs) gs → standing_in gs ≡ standing_in (es ++ fs)
  either_listed gs m = standing_joined es fs gs parted.walking_order parted.still_order parted.apart m ∙ fun_ext (λ q. sym (in_either es fs q))

  -- ---- the first list moves
  module _ (rec : Recorded) where
    pub stepped_first : standing_in (map (stepped rec) es ++ fs) ≡ λ id. walked rec (standing_in (es ++ fs) id)
    stepped_first = fun_ext (λ q.
        in_either (map (stepped rec) es) fs q ∙ ap (λ (f : ℕ → Option Standing). option_or (f q) (standing_in fs q)) (standing_stepped rec es)
        ∙ walked_either (standing_in es q) (standing_in fs q) (parted.all_still q) ∙ ap (walked rec) (sym (in_either es fs q)))
      where
        walked_either : (f g : Option Standing) → IsNone (option_filter walks g) → option_or (walked rec f) g ≡ walked rec (option_or f g)
        walked_either None g h = walked_still rec g h
        walked_either (Some s) g h = elim (cases_Bool (rec (chunk_of s.at) && rec (chunk_of (ahead s.vx s.vz s.at)))) [ inl t ↦ rw t refl | inr t ↦ rw t refl ]

    -- only entities without a speed
    pub none_walks : es ≡ [] → (id : ℕ) → walked rec (standing_in (es ++ fs) id) ≡ standing_in (es ++ fs) id
    none_walks none id =
        let same : standing_in (es ++ fs) id ≡ standing_in fs id = ap (λ l. standing_in (l ++ fs) id) none in
        rw same (sym (walked_still rec (standing_in fs id) (parted.all_still id)))

    pub stepped_parted : AreParted (map (stepped rec) es) fs
    stepped_parted = record {
      walking_order = order_stepped rec es parted.walking_order;
      still_order = parted.still_order;
      apart = λ q. rw (standing_stepped rec es, walked_none rec (standing_in es q)) (parted.apart q);
      all_walk = λ q. rw (standing_stepped rec es) (walked_kept rec (standing_in es q) (parted.all_walk q));
      all_still = parted.all_still;
    }

-- ---- what passes moves from two lists to two others
module _ (es fs is js : List Entity) (parted : AreParted es fs) (into : AreParted is js) (p : Standing → Bool)
    (apart : (id : ℕ) → (is_none (standing_in (is ++ js) id) || is_none (option_filter p (standing_in (es ++ fs) id))) ≡ true) where
  apart_either : (id : ℕ) → (is_none (option_or (standing_in is id) (standing_in js id)) || is_none (option_filter p (option_or (standing_in es id) (standing_in fs id)))) ≡ true
  apart_either id = rw (in_either is js id, in_either es fs id) at (apart id)

  pub apart_first : (id : ℕ) → (is_none (standing_in is id) || is_none (option_filter p (standing_in es id))) ≡ true
  apart_first id = first_apart p (standing_in is id) (standing_in js id) (standing_in es id) (standing_in fs id) (apart_either id)

  pub apart_second : (id : ℕ) → (is_none (standing_in js id) || is_none (option_filter p (standing_in fs id))) ≡ true
  apart_second id = second_apart p (standing_in is id) (standing_in js id) (standing_in es id) (standing_in fs id) (into.apart id) (parted.apart id) (apart_either id)

  module _ (es' fs' : List Entity) (first : standing_in es' ≡ λ id. option_filter (λ s. not (p s)) (standing_in es id)) (second : standing_in fs' ≡ λ id. option_filter (λ s. not (p s)) (standing_in fs id)) where
    pub left_either : standing_in (es' ++ fs') ≡ λ id. option_filter (λ s. not (p s)) (standing_in (es ++ fs) id)
    left_either = fun_ext (λ q.
        in_either es' fs' q ∙ ap (λ (f : ℕ → Option Standing). option_or (f q) (standing_in fs' q)) first ∙ ap (λ (f : ℕ → Option Standing). option_or (option_filter (λ s. not (p s)) (standing_in es q)) (f q)) second
        ∙ or_filtered (λ s. not (p s)) (standing_in es q) (standing_in fs q) (parted.apart q) ∙ ap (option_filter (λ s. not (p s))) (sym (in_either es fs q)))

    pub left_parted : IsStrictlySortedBy by_id es' → IsStrictlySortedBy by_id fs' → AreParted es' fs'
    left_parted s t = record {
      walking_order = s;
      still_order = t;
      apart = λ q. rw (first, second) (filter_apart (λ s. not (p s)) (standing_in es q) (standing_in fs q) (parted.apart q));
      all_walk = λ q. rw first (filter_none (λ s. not (p s)) is_still (standing_in es q) (parted.all_walk q));
      all_still = λ q. rw second (filter_none (λ s. not (p s)) walks (standing_in fs q) (parted.all_still q));
    }

  module _ (is' js' : List Entity) (first : standing_in is' ≡ λ id. option_or (standing_in is id) (option_filter p (standing_in es id))) (second : standing_in js' ≡ λ id. option_or (standing_in js id) (option_filter p (standing_in fs id))) where
    pub moved_either : standing_in (is' ++ js') ≡ λ id. option_or (standing_in (is ++ js) id) (option_filter p (standing_in (es ++ fs) id))
    moved_either = fun_ext (λ q.
        in_either is' js' q ∙ ap (λ (f : ℕ → Option Standing). option_or (f q) (standing_in js' q)) first
        ∙ ap (λ (f : ℕ → Option Standing). option_or (option_or (standing_in is q) (option_filter p (standing_in es q))) (f q)) second
        ∙ or_moved p (standing_in is q) (standing_in js q) (standing_in es q) (standing_in fs q) (parted.apart q) (apart_either q)
        ∙ ap (λ o. option_or o (option_filter p (option_or (standing_in es q) (standing_in fs q)))) (sym (in_either is js q))
        ∙ ap (λ o. option_or (standing_in (is ++ js) q) (option_filter p o)) (sym (in_either es fs q)))

    pub moved_parted : IsStrictlySortedBy by_id is' → IsStrictlySortedBy by_id js' → AreParted is' js'
    moved_parted s t = record {
      walking_order = s;
      still_order = t;
      apart = λ q. rw (first, second) (joined_apart p (standing_in is q) (standing_in js q) (standing_in es q) (standing_in fs q) (into.apart q) (parted.apart q) (apart_either q));
      all_walk = λ q. rw first (or_filter_none p is_still (standing_in is q) (standing_in es q) (into.all_walk q) (parted.all_walk q));
      all_still = λ q. rw second (or_filter_none p walks (standing_in js q) (standing_in fs q) (into.all_still q) (parted.all_still q));
    }
