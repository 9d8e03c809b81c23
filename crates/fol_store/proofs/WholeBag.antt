-- What lies in a whole bag.
use Rattle.std.proofs.Common.{◌≡◌, ◌≢◌, ℕ, Bool, true, false, refl, sym, ◌∙◌, ap, inl, inr, Option, Some, None}
use Rattle.std.specs.Option.{unwrap_or}
use Rattle.std.proofs.lemmas.Bool.{cases_Bool}
use Rattle.std.proofs.Math.Path.{fun_ext}
use Rattle.fol_model.specs.declared.places.ChunkPos.{ChunkPos}
use Rattle.fol_model.specs.Geometry.{chunk_of}
use Rattle.fol_model.specs.Job.{Job}
use Rattle.fol_queues.specs.Waiting.{option_filter}
use Rattle.fol_chunks.specs.Contents.{is_recorded, within, flat_of as contents_of}
use Rattle.fol_chunks.proofs.Flats.{flat_is}
use Rattle.fol_data.specs.Rests.{rests_of}
use Rattle.fol_bags.specs.Things.{Key, of_block, of_entity, of_task, Thing, chunk_at}
use Rattle.fol_store.specs.Stock.{Stock, Where, in_bag, slot, column, found, flat_of, jobs_of}
use Rattle.fol_store.specs.Sound.{IsSound}
use Rattle.fol_store.proofs.Totals.{where_cases, found_at, found_none, number_is, unwrap_filter}
use Rattle.fol_store.proofs.Resound.{whole_alone}

module _ (s : Stock) (id : ℕ) (h : IsSound s) (listed : (slot s id).listed ≡ true) (calm : (slot s id).calm ≡ true) where
  abbrev rec : ChunkPos → Bool
  rec = is_recorded (slot s id).chunks

  pub inside : (k : Key) (x : Thing k) → column s k (in_bag id) ≡ Some x → rec (chunk_at k x) ≡ true
  inside k x q = (h.bags id).claims ((h.bags id).opened listed) (chunk_at k x) (h.lies k (in_bag id) x q)

  pub outside_it : (k : Key) (w : Where) (x : Thing k) → column s k w ≡ Some x → w ≢ in_bag id → rec (chunk_at k x) ≡ false
  outside_it k w x q n =
      elim (cases_Bool (rec (chunk_at k x))) [
        | inl z ↦ absurd (n (whole_alone s id (slot s id) (h.bags id) listed calm k w x q z))
        | inr z ↦ z
      ]

  found_taken : (k : Key) → column s k (in_bag id) ≡ option_filter (λ x. rec (chunk_at k x)) (found s k)
  found_taken k = go (found s k) (column s k (in_bag id)) refl refl
    where
      absent : (x : Thing k) (w : Where) → w ≢ in_bag id → column s k w ≡ Some x → (r : Option (Thing k)) → column s k (in_bag id) ≡ r → r ≡ None
      absent x w n q None g = refl
      absent x w n q (Some y) g = absurd (n (h.unique k w (in_bag id) x y q g))

      some_case : (x : Thing k) (r : Option (Thing k)) → column s k (in_bag id) ≡ r → (w : Where) → column s k w ≡ Some x → r ≡ option_filter (λ y. rec (chunk_at k y)) (Some x)
      some_case x r g w q =
          elim (where_cases w (in_bag id)) [
            | inl z ↦
                let here : column s k (in_bag id) ≡ Some x = ap (column s k) (sym z) ∙ q in
                rw (inside k x here) (sym g ∙ here)
            | inr n ↦ rw (outside_it k w x q n) (absent x w n q r g)
          ]

      go : (o r : Option (Thing k)) → found s k ≡ o → column s k (in_bag id) ≡ r → r ≡ option_filter (λ x. rec (chunk_at k x)) o
      go None r f g = sym g ∙ found_none s k f (in_bag id)
      go (Some x) r f g = let p = found_at s k x f in some_case x r g p.0 p.1

  pub body_contents : contents_of (slot s id).body.chunks ≡ within rec (flat_of s)
  unfolding flat_of
  body_contents = flat_is (contents_of (slot s id).body.chunks) (within rec (flat_of s))
      (fun_ext (λ b. sym (number_is ((contents_of (slot s id).body.chunks).blocks b)) ∙ ap (λ o. unwrap_or o 0) (found_taken (of_block b)) ∙ unwrap_filter (rec (chunk_of b)) (found s (of_block b))))
      (fun_ext (λ n. found_taken (of_entity n)))

  pub body_tasks : rests_of (slot s id).body ≡ λ n. option_filter (λ (j : Job). rec j.chunk) (jobs_of s n)
  unfolding jobs_of
  body_tasks = fun_ext (λ n. found_taken (of_task n))
