-- The things of data after a step.
use Rattle.std.proofs.Common.{◌≡◌, ℕ, ◌||◌, Bool, true, false, not, List, refl, sym, ◌∙◌, ap, inl, inr, Option, Some, None}
use Rattle.std.specs.Prelude.{if◌then◌else◌, nat_eq, IsTrue}
use Rattle.std.specs.Option.{option_or, option_map, is_none}
use Rattle.std.proofs.lemmas.Bool.{cases_Bool}
use Rattle.fol_model.specs.declared.places.ChunkPos.{ChunkPos}
use Rattle.fol_model.specs.declared.places.BlockPos.{BlockPos}
use Rattle.fol_model.specs.Geometry.{chunk_of}
use Rattle.fol_model.specs.ActionStep.{Standing, Flat}
use Rattle.fol_model.specs.Job.{Job}
use Rattle.fol_queues.specs.Waiting.{option_filter, dated, job_of, dated_in}
use Rattle.fol_queues.specs.declared.dated.Dated.{Dated}
use Rattle.fol_chunks.specs.Contents.{flat_of, within, outside, joined, Apart, option_filter as contents_filter}
use Rattle.fol_data.specs.Rests.{rests_of}
use Rattle.fol_data.specs.declared.region_data.RegionData.{RegionData}
use Rattle.fol_bags.specs.Things.{Key, of_block, of_entity, of_task, things, chunk_at, some_number, IsTimely}
use Rattle.fol_bags.specs.Moves.{AreApart, SameThings}

same_filter : {X : Type 0} (p : X → Bool) (o : Option X) → contents_filter p o ≡ option_filter p o
same_filter p None = refl
same_filter p (Some x) = refl

-- the data is the same but for its room
pub same_things : (a b : RegionData) → b.tick ≡ a.tick → b.owed ≡ a.owed → b.queues.tasks ≡ a.queues.tasks → flat_of b.chunks ≡ flat_of a.chunks → SameThings a b
same_things a b t o q f = record { things = each; tick = t; owed = o }
  where
    each : (k : Key) → things b k ≡ things a k
    each (of_block c) = ap (λ (g : Flat). some_number (g.blocks c)) f
    each (of_entity id) = ap (λ (g : Flat). g.standing id) f
    each (of_task n) = ap (λ (ds : List Dated). option_map (job_of b.tick) (dated_in ds n)) q ∙ ap (λ m. option_map (job_of m) (dated_in a.queues.tasks n)) t

pub same_timely : (a b : RegionData) → b.tick ≡ a.tick → b.queues.tasks ≡ a.queues.tasks → IsTimely a → IsTimely b
same_timely a b t q h = record {
  tick = rw t h.tick;
  in_time = λ n x e. rw t (h.in_time n x (sym (ap (λ (ds : List Dated). dated_in ds n) q) ∙ e));
}

module _ (rec : ChunkPos → Bool) where
  number_left : (b : Bool) (n : ℕ) → some_number (if not b then n else 0) ≡ option_filter (λ (m : ℕ). not b) (some_number n)
  number_left true n = elim (cases_Bool (nat_eq n 0)) [ inl e ↦ rw e refl | inr e ↦ rw e refl ]
  number_left false n = elim (cases_Bool (nat_eq n 0)) [ inl e ↦ rw e refl | inr e ↦ rw e refl ]

  number_come : (b : Bool) (m n : ℕ) → some_number (if nat_eq m 0 then (if b then n else 0) else m) ≡ option_or (some_number m) (option_filter (λ (q : ℕ). b) (some_number n))
  number_come b m n = go (nat_eq m 0) b (nat_eq n 0) refl refl
    where
      go : (e : Bool) (b : Bool) (f : Bool) → nat_eq m 0 ≡ e → nat_eq n 0 ≡ f → some_number (if nat_eq m 0 then (if b then n else 0) else m) ≡ option_or (some_number m) (option_filter (λ (q : ℕ). b) (some_number n))
      go true true true h k = rw (h, k) refl
      go true true false h k = rw (h, k) refl
      go true false true h k = rw (h, k) refl
      go true false false h k = rw (h, k) refl
      go false b f h k = rw (h, h) refl

  pub things_left : (a b : RegionData) → b.tick ≡ a.tick → b.owed ≡ a.owed → flat_of b.chunks ≡ outside rec (flat_of a.chunks)
      → rests_of b ≡ (λ n. option_filter (λ (j : Job). not (rec j.chunk)) (rests_of a n))
      → (k : Key) → things b k ≡ option_filter (λ x. not (rec (chunk_at k x))) (things a k)
  things_left a b t o f r (of_block c) = ap (λ (g : Flat). some_number (g.blocks c)) f ∙ number_left (rec (chunk_of c)) ((flat_of a.chunks).blocks c)
  things_left a b t o f r (of_entity id) = ap (λ (g : Flat). g.standing id) f ∙ same_filter (λ (s : Standing). not (rec (chunk_of s.at))) ((flat_of a.chunks).standing id)
  things_left a b t o f r (of_task n) = ap (λ (g : ℕ → Option Job). g n) r

  pub things_come : (a b d : RegionData) → flat_of d.chunks ≡ joined (flat_of b.chunks) (within rec (flat_of a.chunks))
      → rests_of d ≡ (λ n. option_or (rests_of b n) (option_filter (λ (j : Job). rec j.chunk) (rests_of a n)))
      → (k : Key) → things d k ≡ option_or (things b k) (option_filter (λ x. rec (chunk_at k x)) (things a k))
  things_come a b d f r (of_block c) = ap (λ (g : Flat). some_number (g.blocks c)) f ∙ number_come (rec (chunk_of c)) ((flat_of b.chunks).blocks c) ((flat_of a.chunks).blocks c)
  things_come a b d f r (of_entity id) = ap (λ (g : Flat). g.standing id) f ∙ ap (λ o. option_or ((flat_of b.chunks).standing id) o) (same_filter (λ (s : Standing). rec (chunk_of s.at)) ((flat_of a.chunks).standing id))
  things_come a b d f r (of_task n) = ap (λ (g : ℕ → Option Job). g n) r

-- data without a thing in common: no block, entity or task of the part lies in the other
module _ (rec : ChunkPos → Bool) (a b : RegionData) (apart : AreApart a b) where
  pub contents_apart : Apart (flat_of b.chunks) (within rec (flat_of a.chunks))
  contents_apart = record { blocks = each_block; standing = each_entity }
    where
      numbers : (m n : ℕ) (e : Bool) → ((x y : ℕ) → some_number n ≡ Some x → some_number m ≡ Some y → ⊥) → IsTrue (nat_eq m 0 || nat_eq (if e then n else 0) 0)
      numbers m n e h = go (nat_eq m 0) e (nat_eq n 0) refl refl
        where
          go : (p e q : Bool) → nat_eq m 0 ≡ p → nat_eq n 0 ≡ q → IsTrue (nat_eq m 0 || nat_eq (if e then n else 0) 0)
          go true e q s t = rw s refl
          go false false q s t = rw s refl
          go false true true s t = rw (s, t) refl
          go false true false s t = absurd (h n m (rw t refl) (rw s refl))

      each_block : (c : BlockPos) → IsTrue (nat_eq ((flat_of b.chunks).blocks c) 0 || nat_eq ((within rec (flat_of a.chunks)).blocks c) 0)
      each_block c = numbers ((flat_of b.chunks).blocks c) ((flat_of a.chunks).blocks c) (rec (chunk_of c)) (λ x y. apart (of_block c) x y)

      standings : (o r : Option Standing) → ((x y : Standing) → r ≡ Some x → o ≡ Some y → ⊥) → IsTrue (is_none o || is_none (contents_filter (λ (s : Standing). rec (chunk_of s.at)) r))
      standings None r h = refl
      standings (Some y) None h = refl
      standings (Some y) (Some x) h = absurd (h x y refl refl)

      each_entity : (id : ℕ) → IsTrue (is_none ((flat_of b.chunks).standing id) || is_none ((within rec (flat_of a.chunks)).standing id))
      each_entity id = standings ((flat_of b.chunks).standing id) ((flat_of a.chunks).standing id) (λ x y. apart (of_entity id) x y)

  pub tasks_apart : (p : Dated → Bool) (n : ℕ) → IsTrue (is_none (dated b.queues n) || is_none (option_filter p (dated a.queues n)))
  tasks_apart p n = go (dated b.queues n) (dated a.queues n) refl refl
    where
      go : (o r : Option Dated) → dated b.queues n ≡ o → dated a.queues n ≡ r → IsTrue (is_none (dated b.queues n) || is_none (option_filter p (dated a.queues n)))
      go None r s t = rw s refl
      go (Some y) None s t = rw (s, t) refl
      go (Some y) (Some x) s t = absurd (apart (of_task n) (job_of a.tick x) (job_of b.tick y) (ap (option_map (job_of a.tick)) t) (ap (option_map (job_of b.tick)) s))

pub apart_same : (a b d : RegionData) → AreApart a b → SameThings b d → AreApart a d
apart_same a b d h e k x y p q = h k x y p (sym (e.things k) ∙ q)
