-- A tick changes nothing outside its recorded chunks: no block, and no entity that stands elsewhere.
use Rattle.std.proofs.Common.{◌≡◌, ℕ, ◌+◌, ◌≤◌, refl, sym, ◌∙◌, ap, arith, true, false, cond, inl, inr, List, [], ◌∷◌, ◌&&◌}
use Rattle.std.specs.Prelude.{◌≢◌, nat_eq, if◌then◌else◌, Option, Some, None}
use Rattle.std.specs.List.{AllByRecursion}
use Rattle.std.proofs.lemmas.Bool.{cases_Bool, cases_eq, and_parts, true≢false, eq-eqb}
use Rattle.fol_model.specs.declared.places.ChunkPos.{ChunkPos}
use Rattle.fol_model.specs.Geometry.{chunk_of, same_block}
use Rattle.fol_model.specs.Add.{is_full}
use Rattle.fol_laws.proofs.SamePlaces.{same_chunk-true, same_block-true}
use Rattle.fol_model.specs.Limits.{fits}
use Rattle.fol_model.specs.ActionStep.{Standing, Flat, Recorded, at_id, at_block, act, plain_of, stands, blocks_after, standing_after}
use Rattle.fol_model.specs.FlatTick.{acted, moved, walked, ahead}
use Rattle.fol_model.specs.World.{World}
use Rattle.fol_model.specs.Holds.{posted}
use Rattle.fol_model.specs.End.{put_back, accepted, all_accepted}
use Rattle.fol_laws.specs.Contents.{seen}
use Rattle.fol_laws.specs.OnePlace.{one}
use Rattle.fol_model.specs.Outputs.{is_arrival_of}
use Rattle.fol_model.specs.declared.places.BlockPos.{BlockPos}
use Rattle.fol_model.specs.declared.tasks.Task.{Task}
use Rattle.fol_model.specs.declared.tasks.Wish.{Wish}
use Rattle.fol_model.specs.declared.actions.Action.{Action}
use Rattle.fol_model.specs.declared.actions.Action.TheVariants as action
use Rattle.fol_laws.proofs.FunctionsChanged.{at_here, at_other}
use Rattle.fol_laws.proofs.WishLimits.{TaskOk, WishOk, comes_back, plain_still}
use Rattle.fol_laws.proofs.SoundRuns.{Ending, accepted_ending}
use Rattle.fol_laws.proofs.EntityCounts.{arrivals, sends, task_one, plain_brings_is}
use Rattle.fol_laws.proofs.EntityTotals.{total, accepted_total}

pub none_one : (o : Option Standing) → one o ≡ 0 → o ≡ None
none_one None h = refl
none_one (Some b) h = absurd (omega arith)

pub flat_posted : (w : World) (c : ChunkPos) (d : ℕ) (a : Action) → (posted w c d a).flat ≡ w.flat
unfolding posted
flat_posted w c d a = elim (cases_Bool (is_full w.grid c)) [ inl f ↦ rw f refl | inr f ↦ rw f refl ]

-- ---- blocks outside the recorded chunks
module _ (rec : Recorded) where
  set_outside : (f : BlockPos → ℕ) (at b : BlockPos) (n : ℕ) → rec (chunk_of at) ≡ true → rec (chunk_of b) ≡ false → at_block f at n b ≡ f b
  set_outside f at b n h k = elim (cases_Bool (same_block at b)) [
    | inl e ↦ let x = same_block-true at b e in absurd (true≢false (sym h ∙ ap (λ (p : BlockPos). rec (chunk_of p)) x ∙ k))
    | inr e ↦ rw e refl
  ]

  plain_outside : (f : BlockPos → ℕ) (a : Action) (b : BlockPos) → rec (chunk_of b) ≡ false → blocks_after rec f a b ≡ f b
  plain_outside f (action.Set at id) b k = elim (cases_Bool (rec (chunk_of at))) [ inl e ↦ rw e (set_outside f at b id e k) | inr e ↦ rw e refl ]
  plain_outside f (action.Copy at to) b k = elim (cases_Bool (rec (chunk_of at) && rec (chunk_of to))) [
    | inl e ↦ rw e (set_outside f to b (f at) (and_parts (rec (chunk_of at)) (rec (chunk_of to)) e).1 k)
    | inr e ↦ rw e refl
  ]
  plain_outside f (action.Load c) b k = refl
  plain_outside f (action.Unload c) b k = refl
  plain_outside f (action.Post c d inner) b k = refl
  plain_outside f (action.Send id to) b k = refl
  plain_outside f (action.Arrive e) b k = refl
  plain_outside f (action.Every p l inner) b k = refl

  pub acted_outside : (f : Flat) (ts : List Task) (b : BlockPos) → rec (chunk_of b) ≡ false → (acted rec f ts).blocks b ≡ f.blocks b
  acted_outside f [] b k = refl
  acted_outside f (t ∷ ts) b k = acted_outside (act rec f (plain_of t.action)) ts b k ∙ plain_outside f.blocks (plain_of t.action) b k

-- ---- entities outside the recorded chunks
module _ (rec other : Recorded) (apart : (c : ChunkPos) → rec c ≡ true → other c ≡ false) where
  hidden : (b : Standing) → rec (chunk_of b.at) ≡ true → seen other (Some b) ≡ None
  hidden b h = let x = apart (chunk_of b.at) h in rw x refl

  unseen_other : (f : ℕ → Option Standing) (k id : ℕ) (o : Option Standing) → k ≢ id → seen other (at_id f k o id) ≡ seen other (f id)
  unseen_other f k id o d = ap (seen other) (at_other f k o id (λ e. d (sym e)))

  send_unseen : (f : ℕ → Option Standing) (k id : ℕ) (o : Option Standing) → f k ≡ o → seen other ((if stands rec o then at_id f k None else f) id) ≡ seen other (f id)
  send_unseen f k id None e = refl
  send_unseen f k id (Some b) e = elim (cases_Bool (rec (chunk_of b.at))) [
    | inl r ↦ elim (cases_eq k id) [
      | inl s ↦ let x : at_id f k None id ≡ None = rw s (at_here f id None) in
          let y : f id ≡ Some b = ap f (sym s) ∙ e in
          rw r (ap (seen other) x ∙ sym (ap (seen other) y ∙ hidden b r))
      | inr s ↦ rw r (unseen_other f k id None s)
    ]
    | inr r ↦ rw r refl
  ]

  -- an entity comes to a recorded chunk
  pub put_unseen : (f : ℕ → Option Standing) (k id : ℕ) (b : Standing) → rec (chunk_of b.at) ≡ true → (k ≡ id → one (f id) ≡ 0) → seen other (at_id f k (Some b) id) ≡ seen other (f id)
  put_unseen f k id b r z = elim (cases_eq k id) [
    | inl s ↦ let x : at_id f k (Some b) id ≡ Some b = rw s (at_here f id (Some b)) in
        ap (seen other) x ∙ hidden b r ∙ sym (ap (seen other) (none_one (f id) (z s)))
    | inr s ↦ unseen_other f k id (Some b) s
  ]

  arrive_zero : (id k : ℕ) (n : ℕ) → n + cond (nat_eq k id) 1 0 ≤ 1 → k ≡ id → n ≡ 0
  arrive_zero id k n m e = let z : nat_eq k id ≡ true = eq-eqb _ _ e in let x = rw z at m in omega arith

  plain_unseen : (f : Flat) (c : ChunkPos) (a : Action) (id : ℕ) → rec c ≡ true → fits c a ≡ true → one (f.standing id) + cond (is_arrival_of id a) 1 0 ≤ 1
      → seen other (standing_after rec f.standing a id) ≡ seen other (f.standing id)
  plain_unseen f c (action.Set at k) id r h m = refl
  plain_unseen f c (action.Copy at to) id r h m = refl
  plain_unseen f c (action.Load q) id r h m = refl
  plain_unseen f c (action.Unload q) id r h m = refl
  plain_unseen f c (action.Post q d inner) id r h m = refl
  plain_unseen f c (action.Send k to) id r h m = send_unseen f.standing k id (f.standing k) refl
  plain_unseen f c (action.Arrive e) id r h m =
      put_unseen f.standing e.id id (record { at = e.at; vx = e.vx; vz = e.vz }) (ap rec (sym (same_chunk-true c (chunk_of e.at) h)) ∙ r) (arrive_zero id e.id (one (f.standing id)) m)
  plain_unseen f c (action.Every p l inner) id r h m = refl

  pub acted_unseen : (f : Flat) (ts : List Task) (id : ℕ) → AllByRecursion TaskOk ts → AllByRecursion (λ t. rec t.chunk ≡ true) ts → one (f.standing id) + arrivals id ts ≤ 1
      → seen other ((acted rec f ts).standing id) ≡ seen other (f.standing id)
  acted_unseen f [] id ok r m = refl
  acted_unseen f (t ∷ ts) id ok r m =
      let g = act rec f (plain_of t.action) in
      let a = task_one id rec f t ok.0.fits (omega arith) in
      let b = plain_brings_is id t ok.0.fits in
      acted_unseen g ts id ok.1 r.1 (omega arith)
      ∙ plain_unseen f t.chunk (plain_of t.action) id r.0 (plain_still t.chunk t.action ok.0.fits) (omega arith)

  walked_unseen : (o : Option Standing) → seen other (walked rec o) ≡ seen other o
  walked_unseen None = refl
  walked_unseen (Some b) = elim (cases_Bool (rec (chunk_of b.at) && rec (chunk_of (ahead b.vx b.vz b.at)))) [
    | inl k ↦ let p = and_parts (rec (chunk_of b.at)) (rec (chunk_of (ahead b.vx b.vz b.at))) k in
        rw k (hidden (record b { at = ahead b.vx b.vz b.at }) p.1 ∙ sym (hidden b p.0))
    | inr k ↦ rw k refl
  ]

  pub ticked_unseen : (f : Flat) (ts : List Task) (id : ℕ) → AllByRecursion TaskOk ts → AllByRecursion (λ t. rec t.chunk ≡ true) ts → one (f.standing id) + arrivals id ts ≤ 1
      → seen other ((moved rec (acted rec f ts)).standing id) ≡ seen other (f.standing id)
  ticked_unseen f ts id ok r m = walked_unseen ((acted rec f ts).standing id) ∙ acted_unseen f ts id ok r m

  -- ---- what comes back
  put_back_unseen : (w : World) (a : Action) (b : Option BlockPos) (id : ℕ) → comes_back rec a b ≡ true → total id w + cond (is_arrival_of id a) 1 0 ≤ 1
      → seen other ((put_back w a b).flat.standing id) ≡ seen other (w.flat.standing id)
  put_back_unseen w (action.Set at k) b id h m = refl
  put_back_unseen w (action.Copy at to) b id h m = refl
  put_back_unseen w (action.Load c) b id h m = refl
  put_back_unseen w (action.Unload c) b id h m = refl
  put_back_unseen w (action.Post c d inner) b id h m = refl
  put_back_unseen w (action.Send k to) b id h m = refl
  put_back_unseen w (action.Arrive e) None id h m = refl
  put_back_unseen w (action.Arrive e) (Some b) id h m = put_unseen w.flat.standing e.id id (record { at = b; vx = e.vx; vz = e.vz }) h
      (λ s. let x = arrive_zero id e.id (total id w) m s in omega arith)
  put_back_unseen w (action.Every p l inner) b id h m = refl

  accepted_unseen : (w : World) (x : Wish) (id : ℕ) → WishOk rec x → total id w + cond (is_arrival_of id x.action) 1 0 ≤ 1
      → seen other ((accepted w x).flat.standing id) ≡ seen other (w.flat.standing id)
  unfolding accepted
  accepted_unseen w x id ok m = elim (cases_Bool (is_full w.grid x.chunk)) [
    | inl f ↦ rw f (put_back_unseen w x.action x.back id ok.back m)
    | inr f ↦ rw f (ap (λ (g : Flat). seen other (g.standing id)) (flat_posted w x.chunk x.delay x.action))
  ]

  pub all_unseen : (w : World) (xs : List Wish) (r id : ℕ) → Ending r w → AllByRecursion (WishOk rec) xs → total id w + sends id xs ≤ 1
      → seen other ((all_accepted w xs).flat.standing id) ≡ seen other (w.flat.standing id)
  all_unseen w [] r id e ok m = refl
  all_unseen w (x ∷ xs) r id e ok m =
      let a = accepted_total id rec w x e.sound ok.0 (omega arith) in
      all_unseen (accepted w x) xs r id (accepted_ending rec w x r e ok.0) ok.1 (omega arith) ∙ accepted_unseen w x id ok.0 (omega arith)

put_back_blocks : (w : World) (a : Action) (b : Option BlockPos) → (put_back w a b).flat.blocks ≡ w.flat.blocks
put_back_blocks w (action.Set at k) b = refl
put_back_blocks w (action.Copy at to) b = refl
put_back_blocks w (action.Load c) b = refl
put_back_blocks w (action.Unload c) b = refl
put_back_blocks w (action.Post c d inner) b = refl
put_back_blocks w (action.Send k to) b = refl
put_back_blocks w (action.Arrive e) None = refl
put_back_blocks w (action.Arrive e) (Some b) = refl
put_back_blocks w (action.Every p l inner) b = refl

accepted_blocks : (w : World) (x : Wish) → (accepted w x).flat.blocks ≡ w.flat.blocks
unfolding accepted posted
accepted_blocks w x = elim (cases_Bool (is_full w.grid x.chunk)) [ inl f ↦ rw f (put_back_blocks w x.action x.back) | inr f ↦ rw f refl ]

pub wishes_blocks : (w : World) (xs : List Wish) → (all_accepted w xs).flat.blocks ≡ w.flat.blocks
wishes_blocks w [] = refl
wishes_blocks w (x ∷ xs) = wishes_blocks (accepted w x) xs ∙ accepted_blocks w x
