-- The bag of a region whose chunks lose holds.
use Rattle.std.proofs.Common.{◌≡◌, ◌≢◌, ℕ, ◌-◌, refl, sym, ◌∙◌, ap, arith, true, false, inl, inr, List}
use Rattle.std.specs.Prelude.{nat_eq, nat_lt}
use Rattle.std.proofs.Math.Path.{fun_ext}
use Rattle.std.proofs.lemmas.Bool.{cases_Bool, eqb-true, eqb-false, lt-ltb, true≢false}
use Rattle.fol_model.specs.declared.places.ChunkPos.{ChunkPos}
use Rattle.fol_model.specs.Geometry.{same_chunk}
use Rattle.fol_model.specs.ActionStep.{at_id}
use Rattle.fol_model.specs.GridState.{GridState, is_loaded}
use Rattle.fol_model.specs.Drop.{drop_hold}
use Rattle.fol_laws.proofs.SamePlaces.{same_chunk-true}
use Rattle.fol_regions.specs.Answers.{remove_answer}
use Rattle.fol_sections.specs.declared.answers.Removed.TheVariants.{Gone, Lowered, NotLoaded}
use Rattle.fol_chunks.specs.Contents.{is_recorded}
use Rattle.fol_store.specs.Bag.{Bag}
use Rattle.fol_store.specs.Relisted.{Narrowed}
use Rattle.fol_world.specs.Released.{Loosens}

pub twice : (f : ℕ → Bag) (r : ℕ) (a b : Bag) → at_id (at_id f r a) r b ≡ at_id f r b
twice f r a b = fun_ext (λ q. elim (cases_Bool (nat_eq r q)) [ inl k ↦ rw k refl | inr k ↦ rw k refl ])

pub loosens_self : (g : GridState) (r : ℕ) (f : ℕ → Bag) → Loosens g g r f f
loosens_self g r f = record { others = λ u d. refl; own = refl; kept = λ w. w; noted = λ w c n. n; loaded = λ w c n. refl }

pub loosens_then : (g h i : GridState) (r : ℕ) (f k m : ℕ → Bag) → Loosens g h r f k → Loosens h i r k m → Loosens g i r f m
loosens_then g h i r f k m a b = record {
  others = λ u d. b.others u d ∙ a.others u d;
  own = b.own ∙ ap (λ (x : Bag). record x { listed = (m r).listed; calm = (m r).calm; since = (m r).since }) a.own;
  kept = λ w. a.kept (b.kept w);
  noted = λ w c n. a.noted (b.kept w) c (b.noted w c n);
  loaded = λ w c n. b.loaded w c n ∙ a.loaded (b.kept w) c (b.noted w c n);
}

-- ---- one hold less
module _ (g : GridState) (c : ChunkPos) where
  pub stays_loaded : (n : ℕ) → nat_eq (g.holds c) n ≡ false → n ≡ 1 → (q : ChunkPos) → is_loaded (drop_hold g c) q ≡ is_loaded g q
  unfolding drop_hold
  stays_loaded n d e q = elim (cases_Bool (same_chunk c q)) [
    | inl s ↦
        let same : c ≡ q = same_chunk-true c q s in
        let holds : g.holds c ≡ g.holds q = ap g.holds same in
        let other : g.holds c ≢ n = eqb-false (g.holds c) n d in
        elim (cases_Bool (nat_eq (g.holds c) 0)) [
          | inl z ↦ let zero : g.holds c ≡ 0 = eqb-true _ _ z in let there : g.holds q ≡ 0 = sym holds ∙ zero in rw (s, zero, there) refl
          | inr z ↦
              let some : g.holds c ≢ 0 = eqb-false _ _ z in
              let a : nat_lt 0 (g.holds c - 1) ≡ true = lt-ltb _ _ (omega arith) in
              let b : nat_lt 0 (g.holds q) ≡ true = lt-ltb _ _ (omega arith) in
              rw (s, a, b) refl
        ]
    | inr s ↦ rw s refl
  ]

  -- the last hold falls exactly where there is one
  pub gone_one : remove_answer g c ≡ Gone → nat_eq (g.holds c) 1 ≡ true
  gone_one h = elim (cases_Bool (nat_eq (g.holds c) 1)) [
    | inl e ↦ e
    | inr e ↦ elim (cases_Bool (nat_eq (g.holds c) 0)) [
      | inl z ↦ let x : NotLoaded ≡ Gone = rw z at h in absurd (cc)
      | inr z ↦ let x : Lowered ≡ Gone = rw (z, e) at h in absurd (cc)
    ]
  ]

  pub not_gone_one : remove_answer g c ≢ Gone → nat_eq (g.holds c) 1 ≡ false
  not_gone_one h = elim (cases_Bool (nat_eq (g.holds c) 1)) [
    | inl e ↦
        let one : g.holds c ≡ 1 = eqb-true _ _ e in
        let z : nat_eq (g.holds c) 0 ≡ false = rw one refl in
        absurd (h (rw (z, e) refl))
    | inr e ↦ e
  ]

  -- the last hold did not fall
  pub not_gone : remove_answer g c ≢ Gone → (q : ChunkPos) → is_loaded (drop_hold g c) q ≡ is_loaded g q
  not_gone h = stays_loaded 1 (not_gone_one h) refl

  pub loosens_still : (r : ℕ) (f : ℕ → Bag) → remove_answer g c ≢ Gone → Loosens g (drop_hold g c) r f f
  loosens_still r f h = record { others = λ u d. refl; own = refl; kept = λ w. w; noted = λ w q n. n; loaded = λ w q n. not_gone h q }

  -- the other chunks are loaded where they were
  other_loaded : (q : ChunkPos) → same_chunk c q ≡ false → is_loaded (drop_hold g c) q ≡ is_loaded g q
  unfolding drop_hold
  other_loaded q s = rw s refl

  -- the last hold fell, and the bag, which a worker has, may note it
  pub loosens_gone : (r : ℕ) (f k : ℕ → Bag) → (f r).taken ≡ true → Narrowed c (f r) (k r) → ((k r).listed ≡ true → is_recorded (k r).since c ≡ true) → ((u : ℕ) → u ≢ r → k u ≡ f u) → Loosens g (drop_hold g c) r f k
  loosens_gone r f k taken own marked others = record {
    others = others;
    own = own.same ∙ ap (λ (xs : List ChunkPos). record (f r) { listed = (k r).listed; calm = (k r).calm; chunks = xs; since = (k r).since }) (own.out taken);
    kept = own.before;
    noted = own.noted;
    loaded = λ w q n. elim (cases_Bool (same_chunk c q)) [
      | inr s ↦ other_loaded q s
      | inl s ↦ absurd (true≢false (sym (marked w) ∙ ap (λ (d : ChunkPos). is_recorded (k r).since d) (same_chunk-true c q s) ∙ n))
    ];
  }

-- whether the bag was taken stays
pub loosens_taken : (g h : GridState) (r : ℕ) (f k : ℕ → Bag) → Loosens g h r f k → (f r).taken ≡ true → (k r).taken ≡ true
loosens_taken g h r f k l t = ap (λ (b : Bag). b.taken) l.own ∙ t
