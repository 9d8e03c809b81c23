-- What becomes of tasks and recorded chunks when regions begin early, along an event that touches none of them.
use Rattle.std.proofs.Common.{◌≡◌, ℕ, ◌-◌, ◌<◌, refl, sym, ◌∙◌, ap, arith, Bool, true, false, inl, inr, ◌&&◌, ◌⊎◌}
use Rattle.std.specs.Prelude.{nat_eq, nat_le, if◌then◌else◌, Option, Some, None}
use Rattle.std.proofs.lemmas.Bool.{cases_Bool, eq-eqb, eqb-true, ne_eqb, and_parts, true≢false}
use Rattle.fol_model.specs.declared.places.ChunkPos.{ChunkPos}
use Rattle.fol_model.specs.Geometry.{section_of}
use Rattle.fol_model.specs.GridState.{GridState, is_loaded}
use Rattle.fol_model.specs.ActionStep.{Recorded}
use Rattle.fol_model.specs.End.{left}
use Rattle.fol_model.specs.Job.{Job, is_on, is_taken, taken_task}
use Rattle.fol_model.specs.World.{World}
use Rattle.fol_laws.specs.LateBegin.{ground}
use Rattle.fol_laws.proofs.Resting.{Resting}
use Rattle.fol_early_laws.specs.EarlyBegins.{down_all}

-- what any event leaves that no marked region is touched by
module _ (w v : World) (p : ℕ → Bool) (rest : (r : ℕ) → p r ≡ true → Resting r w v) where
  recorded_rest : (r : ℕ) → p r ≡ true → (c : ChunkPos) → (is_loaded w.grid c && ground w.grid r c) ≡ (is_loaded v.grid c && ground v.grid r c)
  recorded_rest r k c = let x = rest r k in let a : ground v.grid r c ≡ ground w.grid r c = ap (λ (f : Recorded). f c) x.same_ground in
      elim (cases_Bool (ground w.grid r c)) [
        | inl e ↦ let l = x.loaded c e in let b = a ∙ e in rw (e, b, l) refl
        | inr e ↦ let b = a ∙ e in rw (e, b) (no_and (is_loaded w.grid c) (is_loaded v.grid c))
      ]
    where
      no_and : (a b : Bool) → (a && false) ≡ (b && false)
      no_and true true = refl
      no_and true false = refl
      no_and false true = refl
      no_and false false = refl

  owner_rest : (c : ChunkPos) → p (w.grid.owner (section_of w.grid.grid c)) ≡ true → v.grid.owner (section_of v.grid.grid c) ≡ w.grid.owner (section_of w.grid.grid c)
  owner_rest c k = let x = rest (w.grid.owner (section_of w.grid.grid c)) k in
      eqb-true _ _ (ap (λ (f : Recorded). f c) x.same_ground ∙ eq-eqb (w.grid.owner (section_of w.grid.grid c)) (w.grid.owner (section_of w.grid.grid c)) refl)

  owner_back : (c : ChunkPos) → p (v.grid.owner (section_of v.grid.grid c)) ≡ true → v.grid.owner (section_of v.grid.grid c) ≡ w.grid.owner (section_of w.grid.grid c)
  owner_back c k = let x = rest (v.grid.owner (section_of v.grid.grid c)) k in
      sym (eqb-true _ _ (sym (ap (λ (f : Recorded). f c) x.same_ground) ∙ eq-eqb (v.grid.owner (section_of v.grid.grid c)) (v.grid.owner (section_of v.grid.grid c)) refl))

  pub owner_all : (c : ChunkPos) → p (w.grid.owner (section_of w.grid.grid c)) ≡ p (v.grid.owner (section_of v.grid.grid c))
  owner_all c = elim (cases_Bool (p (w.grid.owner (section_of w.grid.grid c)))) [
    | inl k ↦ ap p (sym (owner_rest c k))
    | inr k ↦ elim (cases_Bool (p (v.grid.owner (section_of v.grid.grid c)))) [ inl m ↦ ap p (sym (owner_back c m)) | inr m ↦ k ∙ sym m ]
  ]

  pub down_rest : (x : Option Job) → down_all w.grid p x ≡ down_all v.grid p x
  down_rest None = refl
  down_rest (Some j) = elim (cases_Bool (p (w.grid.owner (section_of w.grid.grid j.chunk)))) [
    | inl k ↦ let e = owner_rest j.chunk k in rw e refl
    | inr k ↦ elim (cases_Bool (p (v.grid.owner (section_of v.grid.grid j.chunk)))) [
      | inl m ↦ let e = owner_back j.chunk m in absurd (true≢false (sym m ∙ ap p e ∙ k))
      | inr m ↦ elim (cases_Bool (nat_eq j.taker 0)) [ inl z ↦ rw (z, k, m) refl | inr z ↦ rw z refl ]
    ]
  ]

  pub recorded_all : (f : ℕ → Recorded) (r : ℕ) → (if p r then (λ c. is_loaded w.grid c && ground w.grid r c) else f r) ≡ (if p r then (λ c. is_loaded v.grid c && ground v.grid r c) else f r)
  recorded_all f r = elim (cases_Bool (p r)) [ inl k ↦ rw k (λ i c. recorded_rest r k c i) | inr k ↦ rw k refl ]

-- a task that the early Begins change: it was queued on the chunks of a marked region, which may take it
record IsDown (g : GridState) (p : ℕ → Bool) (j : Job) : Type 0 where
  pub queued : j.taker ≡ 0
  pub marked : p (g.owner (section_of g.grid j.chunk)) ≡ true
  pub is : down_all g p (Some j) ≡ Some (record j { rest = j.rest - 1; taker = if nat_le j.rest 1 then g.owner (section_of g.grid j.chunk) else 0 })

down_cases : (g : GridState) (p : ℕ → Bool) (j : Job) → IsDown g p j ⊎ (down_all g p (Some j) ≡ Some j)
down_cases g p j = elim (cases_Bool (nat_eq j.taker 0 && p (g.owner (section_of g.grid j.chunk)))) [
  | inl k ↦ let b = and_parts (nat_eq j.taker 0) (p (g.owner (section_of g.grid j.chunk))) k in inl (record { queued = eqb-true _ _ b.0; marked = b.1; is = rw k refl })
  | inr k ↦ inr (rw k refl)
]

-- what the tick of a region that is not marked has taken, and what it leaves
module _ (g : GridState) (p : ℕ → Bool) (q : ℕ) (given : 0 < q) (off : p q ≡ false) where
  new_taker : (j : Job) → p (g.owner (section_of g.grid j.chunk)) ≡ true → nat_eq (if nat_le j.rest 1 then g.owner (section_of g.grid j.chunk) else 0) q ≡ false
  new_taker j m = elim (cases_Bool (nat_le j.rest 1)) [
    | inl k ↦ rw k (ne_eqb _ _ (λ e. true≢false (sym m ∙ ap p e ∙ off)))
    | inr k ↦ rw k (ne_eqb 0 q (λ e. omega arith))
  ]

  old_taker : (j : Job) → j.taker ≡ 0 → nat_eq j.taker q ≡ false
  old_taker j z = ne_eqb _ _ (λ e. omega arith)

  pub taken_down : (n : ℕ) (x : Option Job) → taken_task q n (down_all g p x) ≡ taken_task q n x
  taken_down n None = refl
  taken_down n (Some j) = elim (down_cases g p j) [
    | inl d ↦ let a = new_taker j d.marked in let b = old_taker j d.queued in ap (taken_task q n) d.is ∙ rw (a, b) refl
    | inr e ↦ ap (taken_task q n) e
  ]

  pub on_down : (c : ChunkPos) (x : Option Job) → (is_taken q (down_all g p x) && is_on c (down_all g p x)) ≡ (is_taken q x && is_on c x)
  on_down c None = refl
  on_down c (Some j) = elim (down_cases g p j) [
    | inl d ↦ let a = new_taker j d.marked in let b = old_taker j d.queued in ap (λ y. is_taken q y && is_on c y) d.is ∙ rw (a, b) refl
    | inr e ↦ ap (λ y. is_taken q y && is_on c y) e
  ]

  pub left_down : (x : Option Job) → left q (down_all g p x) ≡ down_all g p (left q x)
  left_down None = refl
  left_down (Some j) = elim (down_cases g p j) [
    | inl d ↦ let a = new_taker j d.marked in let b = old_taker j d.queued in
        let stays : left q (Some j) ≡ Some j = rw b refl in
        ap (left q) d.is ∙ (let z : left q (Some (record j { rest = j.rest - 1; taker = if nat_le j.rest 1 then g.owner (section_of g.grid j.chunk) else 0 })) ≡ Some (record j { rest = j.rest - 1; taker = if nat_le j.rest 1 then g.owner (section_of g.grid j.chunk) else 0 }) = rw a refl in z)
        ∙ sym d.is ∙ ap (down_all g p) (sym stays)
    | inr e ↦ elim (cases_Bool (nat_eq j.taker q)) [
      | inl t ↦ let gone : left q (Some j) ≡ None = rw t refl in ap (left q) e ∙ gone ∙ ap (down_all g p) (sym gone)
      | inr t ↦ let stays : left q (Some j) ≡ Some j = rw t refl in ap (left q) e ∙ stays ∙ sym e ∙ ap (down_all g p) (sym stays)
    ]
  ]
