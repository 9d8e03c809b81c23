-- What was taken out of a store can be put back.
use Rattle.std.proofs.Common.{◌≡◌, ℕ, ◌||◌, Bool, true, false, not, List, refl, sym, ◌∙◌, ap, subst, inl, inr, Option, Some, None}
use Rattle.std.specs.Prelude.{nat_eq, if◌then◌else◌, IsTrue}
use Rattle.std.specs.Option.{is_none, option_or, ForSome}
use Rattle.std.proofs.lemmas.Bool.{cases_Bool}
use Rattle.std.proofs.Math.Path.{fun_ext}
use Rattle.fol_model.specs.declared.places.ChunkPos.{ChunkPos}
use Rattle.fol_model.specs.Geometry.{chunk_of}
use Rattle.fol_model.specs.ActionStep.{Flat, Standing}
use Rattle.fol_model.specs.Job.{Job}
use Rattle.fol_chunks.specs.Contents.{within, outside, Apart, is_recorded, option_filter}
use Rattle.fol_chunks.proofs.Flats.{flat_is}

module _ {X : Type 0} (p : X → Bool) where
  filter_twice : (o : Option X) → option_filter p o ≡ option_filter p (option_filter p o)
  filter_twice None = refl
  filter_twice (Some x) = elim (cases_Bool (p x)) [ inl e ↦ rw e (rw e refl) | inr e ↦ rw e refl ]

  pub filter_passes : (o : Option X) → ForSome (option_filter p o) (λ x. p x ≡ true)
  filter_passes None y h = cc
  filter_passes (Some x) y h =
      elim (cases_Bool (p x)) [
        | inl e ↦ let f : Some x ≡ Some y = rw e at h in let s : x ≡ y = cc in ap p (sym s) ∙ e
        | inr e ↦ let f : None ≡ Some y = rw e at h in cc
      ]

  pub filters_apart : (o : Option X) → IsTrue (is_none (option_filter (λ x. not (p x)) o) || is_none (option_filter p o))
  filters_apart None = refl
  filters_apart (Some x) = elim (cases_Bool (p x)) [ inl e ↦ rw e refl | inr e ↦ rw e refl ]

  pub filters_join : (o : Option X) → option_or (option_filter (λ x. not (p x)) o) (option_filter p o) ≡ o
  filters_join None = refl
  filters_join (Some x) = elim (cases_Bool (p x)) [ inl e ↦ rw e refl | inr e ↦ rw e refl ]

module _ (rec : ChunkPos → Bool) (f : Flat) where
  number_twice : (r : Bool) (n : ℕ) → (if r then n else 0) ≡ (if r then (if r then n else 0) else 0)
  number_twice true n = refl
  number_twice false n = refl

  numbers_apart : (r : Bool) (n : ℕ) → IsTrue (nat_eq (if not r then n else 0) 0 || nat_eq (if r then n else 0) 0)
  numbers_apart true n = refl
  numbers_apart false n = elim (cases_Bool (nat_eq n 0)) [ inl e ↦ rw e refl | inr e ↦ rw e refl ]

  within_twice : within rec f ≡ within rec (within rec f)
  within_twice = flat_is (within rec f) (within rec (within rec f)) (fun_ext (λ b. number_twice (rec (chunk_of b)) (f.blocks b))) (fun_ext (λ id. filter_twice (λ (s : Standing). rec (chunk_of s.at)) (f.standing id)))

  pub outside_apart : Apart (outside rec f) (within rec f)
  outside_apart = record { blocks = λ b. numbers_apart (rec (chunk_of b)) (f.blocks b); standing = λ id. filters_apart (λ (s : Standing). rec (chunk_of s.at)) (f.standing id) }

-- the contents and the tasks that were taken out
pub contents_return : (chunks listed : List ChunkPos) (g f : Flat) → chunks ≡ listed → g ≡ within (is_recorded listed) f → g ≡ within (is_recorded chunks) g
contents_return chunks listed g f s e = e ∙ within_twice (is_recorded listed) f ∙ ap (within (is_recorded listed)) (sym e) ∙ ap (λ (l : List ChunkPos). within (is_recorded l) g) (sym s)

pub contents_apart : (listed : List ChunkPos) (g h f : Flat) → h ≡ outside (is_recorded listed) f → g ≡ within (is_recorded listed) f → Apart h g
contents_apart listed g h f o e = subst (λ (q : Flat). Apart q g) (sym o) (subst (λ (q : Flat). Apart (outside (is_recorded listed) f) q) (sym e) (outside_apart (is_recorded listed) f))

pub tasks_return : (chunks listed : List ChunkPos) (r j : ℕ → Option Job) → chunks ≡ listed → r ≡ (λ n. option_filter (λ (q : Job). is_recorded listed q.chunk) (j n)) → (n : ℕ) → ForSome (r n) (λ q. is_recorded chunks q.chunk ≡ true)
tasks_return chunks listed r j s e n =
    subst (λ (o : Option Job). ForSome o (λ q. is_recorded chunks q.chunk ≡ true)) (sym (ap (λ (g : ℕ → Option Job). g n) e))
    (subst (λ (l : List ChunkPos). ForSome (option_filter (λ (q : Job). is_recorded listed q.chunk) (j n)) (λ q. is_recorded l q.chunk ≡ true)) (sym s) (filter_passes (λ (q : Job). is_recorded listed q.chunk) (j n)))

pub tasks_apart : (listed : List ChunkPos) (r h j : ℕ → Option Job) → h ≡ (λ n. option_filter (λ (q : Job). not (is_recorded listed q.chunk)) (j n)) → r ≡ (λ n. option_filter (λ (q : Job). is_recorded listed q.chunk) (j n)) → (n : ℕ) → IsTrue (is_none (h n) || is_none (r n))
tasks_apart listed r h j o e n =
    subst (λ (g : ℕ → Option Job). IsTrue (is_none (g n) || is_none (r n))) (sym o)
    (subst (λ (g : ℕ → Option Job). IsTrue (is_none (option_filter (λ (q : Job). not (is_recorded listed q.chunk)) (j n)) || is_none (g n))) (sym e) (filters_apart (λ (q : Job). is_recorded listed q.chunk) (j n)))

-- the tasks that were taken out are there again
pub tasks_again : (listed : List ChunkPos) (r h j : ℕ → Option Job) → h ≡ (λ n. option_filter (λ (q : Job). not (is_recorded listed q.chunk)) (j n)) → r ≡ (λ n. option_filter (λ (q : Job). is_recorded listed q.chunk) (j n)) → (λ n. option_or (h n) (r n)) ≡ j
tasks_again listed r h j o e = fun_ext (λ n.
    let left = ap (λ (g : ℕ → Option Job). g n) o in
    let out = ap (λ (g : ℕ → Option Job). g n) e in
    rw (left, out) (filters_join (λ (q : Job). is_recorded listed q.chunk) (j n)))
