-- What is in the workers' hands after a release: the region's part came back, and all else is as it was.
use Rattle.std.proofs.Common.{◌≡◌, ℕ, ◌<◌, refl, sym, ◌∙◌, ap, arith, true, false, not, inl, inr, ◌&&◌}
use Rattle.std.specs.Prelude.{◌≢◌, nat_eq, nat_lt, if◌then◌else◌, Option, Some, None}
use Rattle.std.specs.Option.{option_or}
use Rattle.std.proofs.lemmas.Bool.{cases_Bool, eqb-true, eqb-false, eq-eqb, ne_eqb, lt-ltb, true≢false}
use Rattle.fol_model.specs.declared.places.ChunkPos.{ChunkPos}
use Rattle.fol_model.specs.declared.places.SectionPos.{SectionPos}
use Rattle.fol_model.specs.declared.regions.State.TheVariants.{Transient, Ready, Ticking, Dead}
use Rattle.fol_model.specs.Geometry.{section_of}
use Rattle.fol_model.specs.GridNumbers.{IsGrid}
use Rattle.fol_model.specs.GridState.{GridState, is_ticking}
use Rattle.fol_model.specs.Release.{release, must_wait, cleans, is_part_id, parts}
use Rattle.fol_model.specs.Rules.{Rules}
use Rattle.fol_model.specs.ActionStep.{Flat, Recorded}
use Rattle.fol_model.specs.Job.{Job}
use Rattle.fol_laws.proofs.AddTarget.{is_ticking-true}
use Rattle.fol_laws.proofs.GridFields.{ticking_release}
use Rattle.fol_laws.proofs.ReleaseKeeps.{grid_release, release_ticking_sections}
use Rattle.fol_model.specs.QueuedTask.{queued_in}
use Rattle.fol_chunks.specs.Contents.{within, outside, joined}
use Rattle.fol_world.specs.Hands.{owner_of, ticker, in_hands, went, at_rest}
use Rattle.fol_world.proofs.Flats.{joined_back}

module _ (g : GridState) (r : ℕ) (rules : Rules g) (ok : IsGrid g.grid) (ticks : g.state r ≡ Ticking) where
  some : 0 < r
  some = rules.given r (λ d. cc)

  -- what ticks after the release ticked before it, and is another region
  pub ticked : (q : ℕ) → (release g r).state q ≡ Ticking → (g.state q ≡ Ticking) × (q ≢ r)
  unfolding release
  ticked q h = elim (cases_Bool (must_wait g r)) [
    | inl w ↦ elim (cases_Bool (nat_eq q r)) [
      | inl n ↦ let x : Transient ≡ Ticking = rw (w, n) at h in absurd (cc)
      | inr n ↦ elim (cases_Bool (g.waits q r)) [
        | inl m ↦ let x : Dead ≡ Ticking = rw (w, n, m) at h in absurd (cc)
        | inr m ↦ (rw (w, n, m) at h, eqb-false q r n)
      ]
    ]
    | inr w ↦ elim (cases_Bool (cleans g r)) [
      | inl k ↦ elim (cases_Bool (is_part_id g r q)) [
        | inl p ↦ let x : Ready ≡ Ticking = rw (w, k, p) at h in absurd (cc)
        | inr p ↦ elim (cases_Bool (nat_eq q r)) [
          | inl n ↦ elim (cases_Bool (nat_eq (parts g r) 1)) [
            | inl o ↦ let x : Ready ≡ Ticking = rw (w, k, p, n, o) at h in absurd (cc)
            | inr o ↦ let x : Dead ≡ Ticking = rw (w, k, p, n, o) at h in absurd (cc)
          ]
          | inr n ↦ elim (cases_Bool (g.waits q r)) [
            | inl m ↦ let x : Dead ≡ Ticking = rw (w, k, p, n, m) at h in absurd (cc)
            | inr m ↦ (rw (w, k, p, n, m) at h, eqb-false q r n)
          ]
        ]
      ]
      | inr k ↦ elim (cases_Bool (nat_eq q r)) [
        | inl n ↦ let x : Ready ≡ Ticking = rw (w, k, n) at h in absurd (cc)
        | inr n ↦ (rw (w, k, n) at h, eqb-false q r n)
      ]
    ]
  ]

  -- a section of a region that ticks after the release was its before
  was_owned : (s : SectionPos) → (release g r).state ((release g r).owner s) ≡ Ticking → (g.owner s ≡ (release g r).owner s) × (g.state (g.owner s) ≡ Ticking) × (g.owner s ≢ r)
  was_owned s h =
      let q = (release g r).owner s in
      let b = ticked q h in
      let e : g.owner s ≡ q = (release_ticking_sections g r rules ok ticks q b.0 b.1 s).1 refl in
      (e, ap g.state e ∙ b.0, λ x. b.1 (sym e ∙ x))

  rests_now : (s : SectionPos) → ((release g r).state ((release g r).owner s) ≡ Ticking → ⊥) → is_ticking ((release g r).state ((release g r).owner s)) ≡ false
  rests_now s h = elim (cases_Bool (is_ticking ((release g r).state ((release g r).owner s)))) [
    | inl e ↦ absurd (h (is_ticking-true _ e))
    | inr e ↦ e
  ]

  ticker_at : (s : SectionPos)
      → (if is_ticking ((release g r).state ((release g r).owner s)) then (release g r).owner s else 0)
      ≡ (if nat_eq (if is_ticking (g.state (g.owner s)) then g.owner s else 0) r then 0 else (if is_ticking (g.state (g.owner s)) then g.owner s else 0))
  ticker_at s = elim (cases_Bool (is_ticking (g.state (g.owner s)))) [
    | inl e ↦ elim (cases_Bool (nat_eq (g.owner s) r)) [
      | inl k ↦ let z = rests_now s (λ h. (was_owned s h).2 (eqb-true _ _ k)) in rw (z, e, k) refl
      | inr k ↦
          let t : g.state (g.owner s) ≡ Ticking = is_ticking-true _ e in
          let d : g.owner s ≢ r = eqb-false _ _ k in
          let o : (release g r).owner s ≡ g.owner s = (release_ticking_sections g r rules ok ticks (g.owner s) t d s).0 refl in
          let n : (release g r).state (g.owner s) ≡ Ticking = ticking_release g r (g.owner s) rules t d in
          rw (o, n, e, k) refl
    ]
    | inr e ↦
        let z = rests_now s (λ h. let t = (was_owned s h).1 in let x : is_ticking Ticking ≡ false = rw t at e in absurd (true≢false x)) in
        let n : nat_eq 0 r ≡ false = ne_eqb 0 r (λ x. let p = some in omega arith) in
        rw (z, e, n) refl
  ]

  pub ticker_after : (c : ChunkPos) → ticker (release g r) c ≡ (if nat_eq (ticker g c) r then 0 else ticker g c)
  unfolding ticker
  ticker_after c = rw (grid_release g r) (ticker_at (section_of g.grid c))

  -- where r owns the section, r ticks there
  pub ticker_of : (c : ChunkPos) → owner_of g c ≡ r → ticker g c ≡ r
  unfolding ticker
  ticker_of c e = rw (e, ticks) refl

  pub owner_of_ticker : (c : ChunkPos) → ticker g c ≡ r → owner_of g c ≡ r
  unfolding ticker
  owner_of_ticker c h = elim (cases_Bool (is_ticking (g.state (owner_of g c)))) [
    | inl e ↦ rw e at h
    | inr e ↦ let x : 0 ≡ r = rw e at h in let p = some in absurd (omega arith)
  ]

  pub went_after : (since : ℕ → ℕ) (c : ChunkPos) (n : ℕ) → went (release g r) since c n ≡ (not (nat_eq (ticker g c) r) && went g since c n)
  unfolding went
  went_after since c n = elim (cases_Bool (nat_eq (ticker g c) r)) [
    | inl e ↦ let t : ticker (release g r) c ≡ 0 = ticker_after c ∙ rw e refl in rw (t, e) refl
    | inr e ↦ let t : ticker (release g r) c ≡ ticker g c = ticker_after c ∙ rw e refl in rw (t, e) refl
  ]

  pub went_here : (since : ℕ → ℕ) (c : ChunkPos) (n : ℕ) → ticker g c ≡ r → went g since c n ≡ nat_lt n (since r)
  unfolding went
  went_here since c n t = let p : nat_lt 0 r ≡ true = lt-ltb 0 r some in rw (t, p) refl

  -- ---- the tasks that were queued at the Begin come back
  pub jobs_back : (since : ℕ → ℕ) (n : ℕ) (o : Option Job) → option_or (at_rest g since n o) (if nat_lt n (since r) then queued_in g r o else None) ≡ at_rest (release g r) since n o
  unfolding queued_in
  jobs_back since n None = elim (cases_Bool (nat_lt n (since r))) [ inl l ↦ rw l refl | inr l ↦ rw l refl ]
  jobs_back since n (Some j) = elim (cases_Bool (nat_eq j.taker 0)) [
    | inl z ↦ elim (cases_Bool (nat_eq (ticker g j.chunk) r)) [
      | inl e ↦
          let t : ticker g j.chunk ≡ r = eqb-true _ _ e in
          let o : nat_eq (g.owner (section_of g.grid j.chunk)) r ≡ true = eq-eqb _ _ (owner_of_ticker j.chunk t) in
          let a : went (release g r) since j.chunk n ≡ false = went_after since j.chunk n ∙ rw e refl in
          let b : went g since j.chunk n ≡ nat_lt n (since r) = went_here since j.chunk n t in
          elim (cases_Bool (nat_lt n (since r))) [ inl l ↦ rw (z, a, b, l, o) refl | inr l ↦ rw (z, a, b, l) refl ]
      | inr e ↦
          let d : nat_eq (g.owner (section_of g.grid j.chunk)) r ≡ false = ne_eqb _ _ (λ x. eqb-false _ _ e (ticker_of j.chunk x)) in
          let a : went (release g r) since j.chunk n ≡ went g since j.chunk n = went_after since j.chunk n ∙ rw e refl in
          elim (cases_Bool (went g since j.chunk n)) [
            | inl w ↦ elim (cases_Bool (nat_lt n (since r))) [ inl l ↦ rw (z, a, w, d, l) refl | inr l ↦ rw (z, a, w, l) refl ]
            | inr w ↦ rw (z, a, w) refl
          ]
    ]
    | inr z ↦ elim (cases_Bool (nat_lt n (since r))) [ inl l ↦ rw (z, l) refl | inr l ↦ rw (z, l) refl ]
  ]

  -- ---- the contents of the recorded chunks come back
  module _ (recorded : ℕ → Recorded) (own : (c : ChunkPos) → recorded r c ≡ true → owner_of g c ≡ r) where
    pub hands_after : (c : ChunkPos) → in_hands (release g r) recorded c ≡ (in_hands g recorded c && not (recorded r c))
    unfolding in_hands
    hands_after c = elim (cases_Bool (nat_eq (ticker g c) r)) [
      | inl e ↦
          let t : ticker (release g r) c ≡ 0 = ticker_after c ∙ rw e refl in
          let s : ticker g c ≡ r = eqb-true _ _ e in
          let p : nat_lt 0 r ≡ true = lt-ltb 0 r some in
          elim (cases_Bool (recorded r c)) [ inl k ↦ rw (t, s, p, k) refl | inr k ↦ rw (t, s, p, k) refl ]
      | inr e ↦
          let t : ticker (release g r) c ≡ ticker g c = ticker_after c ∙ rw e refl in
          let k : recorded r c ≡ false = elim (cases_Bool (recorded r c)) [ inl x ↦ absurd (eqb-false _ _ e (ticker_of c (own c x))) | inr x ↦ x ] in
          elim (cases_Bool (nat_lt 0 (ticker g c) && recorded (ticker g c) c)) [ inl x ↦ rw (t, k, x) refl | inr x ↦ rw (t, k, x) refl ]
    ]

    pub in_hands_there : (c : ChunkPos) → recorded r c ≡ true → in_hands g recorded c ≡ true
    unfolding in_hands
    in_hands_there c k = let t = ticker_of c (own c k) in let p : nat_lt 0 r ≡ true = lt-ltb 0 r some in rw (t, p, k) refl

    pub flat_back : (f : Flat) → joined (outside (in_hands g recorded) f) (within (recorded r) f) ≡ outside (in_hands (release g r) recorded) f
    flat_back = joined_back (in_hands g recorded) (in_hands (release g r) recorded) (recorded r) hands_after in_hands_there
