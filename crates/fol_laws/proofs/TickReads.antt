-- A tick reads and writes only its recorded chunks.
use Rattle.std.proofs.Common.{◌≡◌, ℕ, refl, sym, ◌∙◌, ap, true, false, inl, inr, List, [], ◌∷◌, ◌&&◌}
use Rattle.std.specs.Prelude.{nat_eq, Option, Some, None}
use Rattle.std.proofs.lemmas.Bool.{cases_Bool, cases_eq, and_parts}
use Rattle.fol_model.specs.Geometry.{chunk_of, same_block}
use Rattle.fol_model.specs.ActionStep.{Standing, Flat, Recorded, at_id, at_block, act, plain_of, stands, departs, plain_wishes, outcome_of, blocks_after, standing_after}
use Rattle.fol_model.specs.FlatTick.{acted, asked, outcomes, moved, walked, flat_tick}
use Rattle.fol_model.specs.Outputs.{is_arrival_of}
use Rattle.fol_laws.specs.Contents.{seen, SameOn}
use Rattle.fol_laws.specs.DetachedTick.{SameTick, OnlyRecorded, NoneBrings}
use Rattle.fol_model.specs.declared.places.BlockPos.{BlockPos}
use Rattle.fol_model.specs.declared.tasks.Outcome.{Outcome}
use Rattle.fol_model.specs.declared.tasks.Task.{Task}
use Rattle.fol_model.specs.declared.actions.Action.{Action}
use Rattle.fol_model.specs.declared.actions.Action.TheVariants as action
use Rattle.fol_laws.proofs.FunctionsChanged.{at_other}
use Rattle.fol_laws.proofs.UnseenTicks.{acted_outside}

module _ (rec : Recorded) where
  -- what is read of an entity is what is seen of it
  stands_seen : (o : Option Standing) → stands rec o ≡ stands rec (seen rec o)
  stands_seen None = refl
  stands_seen (Some b) = elim (cases_Bool (rec (chunk_of b.at))) [ inl e ↦ rw (e, e) refl | inr e ↦ rw e refl ]

  departs_seen : (id : ℕ) (to : BlockPos) (o : Option Standing) → departs rec id to o ≡ departs rec id to (seen rec o)
  departs_seen id to None = refl
  departs_seen id to (Some b) = elim (cases_Bool (rec (chunk_of b.at))) [ inl e ↦ rw (e, e) refl | inr e ↦ rw e refl ]

  walked_seen : (o : Option Standing) → seen rec (walked rec o) ≡ seen rec (walked rec (seen rec o))
  walked_seen None = refl
  walked_seen (Some b) = elim (cases_Bool (rec (chunk_of b.at))) [ inl e ↦ rw (e, e) refl | inr e ↦ rw (e, e) refl ]

  module _ (f h : Flat) (same : SameOn rec f h) where
    same_stands : (id : ℕ) → stands rec (f.standing id) ≡ stands rec (h.standing id)
    same_stands id = stands_seen (f.standing id) ∙ ap (stands rec) (same.standing id) ∙ sym (stands_seen (h.standing id))

    same_outcome : (given : Outcome) (a : Action) → outcome_of rec f given a ≡ outcome_of rec h given a
    same_outcome given (action.Set at id) = refl
    same_outcome given (action.Copy at to) = refl
    same_outcome given (action.Load c) = refl
    same_outcome given (action.Unload c) = refl
    same_outcome given (action.Post c d inner) = refl
    same_outcome given (action.Send id to) = let x = same_stands id in rw x refl
    same_outcome given (action.Arrive e) = refl
    same_outcome given (action.Every p l inner) = refl

    same_wishes : (a : Action) → plain_wishes rec f a ≡ plain_wishes rec h a
    same_wishes (action.Set at id) = refl
    same_wishes (action.Copy at to) = refl
    same_wishes (action.Load c) = refl
    same_wishes (action.Unload c) = refl
    same_wishes (action.Post c d inner) = refl
    same_wishes (action.Send id to) = departs_seen id to (f.standing id) ∙ ap (departs rec id to) (same.standing id) ∙ sym (departs_seen id to (h.standing id))
    same_wishes (action.Arrive e) = refl
    same_wishes (action.Every p l inner) = refl

    same_set : (at b : BlockPos) (m n : ℕ) → m ≡ n → rec (chunk_of b) ≡ true → at_block f.blocks at m b ≡ at_block h.blocks at n b
    same_set at b m n e k = elim (cases_Bool (same_block at b)) [ inl s ↦ rw s e | inr s ↦ rw s (same.blocks b k) ]

    same_blocks : (a : Action) (b : BlockPos) → rec (chunk_of b) ≡ true → blocks_after rec f.blocks a b ≡ blocks_after rec h.blocks a b
    same_blocks (action.Set at id) b k = elim (cases_Bool (rec (chunk_of at))) [ inl e ↦ rw e (same_set at b id id refl k) | inr e ↦ rw e (same.blocks b k) ]
    same_blocks (action.Copy at to) b k = elim (cases_Bool (rec (chunk_of at) && rec (chunk_of to))) [
      | inl e ↦ rw e (same_set to b (f.blocks at) (h.blocks at) (same.blocks at (and_parts (rec (chunk_of at)) (rec (chunk_of to)) e).0) k)
      | inr e ↦ rw e (same.blocks b k)
    ]
    same_blocks (action.Load c) b k = same.blocks b k
    same_blocks (action.Unload c) b k = same.blocks b k
    same_blocks (action.Post c d inner) b k = same.blocks b k
    same_blocks (action.Send id to) b k = same.blocks b k
    same_blocks (action.Arrive e) b k = same.blocks b k
    same_blocks (action.Every p l inner) b k = same.blocks b k

    same_put : (k id : ℕ) (o : Option Standing) → seen rec (at_id f.standing k o id) ≡ seen rec (at_id h.standing k o id)
    same_put k id o = elim (cases_Bool (nat_eq k id)) [ inl e ↦ rw e refl | inr e ↦ rw e (same.standing id) ]

    same_beings : (a : Action) (id : ℕ) → seen rec (standing_after rec f.standing a id) ≡ seen rec (standing_after rec h.standing a id)
    same_beings (action.Set at k) id = same.standing id
    same_beings (action.Copy at to) id = same.standing id
    same_beings (action.Load c) id = same.standing id
    same_beings (action.Unload c) id = same.standing id
    same_beings (action.Post c d inner) id = same.standing id
    same_beings (action.Send k to) id = let x = same_stands k in elim (cases_Bool (stands rec (h.standing k))) [
      | inl e ↦ rw (x, e) (same_put k id None)
      | inr e ↦ rw (x, e) (same.standing id)
    ]
    same_beings (action.Arrive e) id = same_put e.id id (Some (record { at = e.at; vx = e.vx; vz = e.vz }))
    same_beings (action.Every p l inner) id = same.standing id

    pub same_act : (a : Action) → SameOn rec (act rec f a) (act rec h a)
    same_act a = record { blocks = same_blocks a; standing = same_beings a }

    same_moved : SameOn rec (moved rec f) (moved rec h)
    same_moved = record {
      blocks = same.blocks;
      standing = λ id. walked_seen (f.standing id) ∙ ap (λ (o : Option Standing). seen rec (walked rec o)) (same.standing id) ∙ sym (walked_seen (h.standing id));
    }

  same_acted : (f h : Flat) (ts : List Task) → SameOn rec f h → SameOn rec (acted rec f ts) (acted rec h ts)
  same_acted f h [] s = s
  same_acted f h (t ∷ ts) s = same_acted (act rec f (plain_of t.action)) (act rec h (plain_of t.action)) ts (same_act f h s (plain_of t.action))

  same_outcomes : (given : ℕ → Outcome) (f h : Flat) (ts : List Task) → SameOn rec f h → outcomes rec given f ts ≡ outcomes rec given h ts
  same_outcomes given f h [] s = refl
  same_outcomes given f h (t ∷ ts) s =
      let a = same_outcome f h s (given t.number) (plain_of t.action) in
      let b = same_outcomes given (act rec f (plain_of t.action)) (act rec h (plain_of t.action)) ts (same_act f h s (plain_of t.action)) in cc

  same_asked : (f h : Flat) (ts : List Task) → SameOn rec f h → asked rec f ts ≡ asked rec h ts
  same_asked f h [] s = refl
  same_asked f h (t ∷ ts) s =
      let a = same_wishes f h s (plain_of t.action) in
      let b = same_asked (act rec f (plain_of t.action)) (act rec h (plain_of t.action)) ts (same_act f h s (plain_of t.action)) in rw (a, b) refl

  pub same_tick : (given : ℕ → Outcome) (ts : List Task) (f h : Flat) → SameOn rec f h → SameTick rec given ts f h
  unfolding flat_tick
  same_tick given ts f h s = record {
    ran = same_outcomes given f h ts s;
    wishes = same_asked f h ts s;
    flat = same_moved (acted rec f ts) (acted rec h ts) (same_acted f h ts s);
  }

  -- ---- what is not recorded stays
  still : (f : ℕ → Option Standing) (a : Action) (id : ℕ) → stands rec (f id) ≡ false → is_arrival_of id a ≡ false → standing_after rec f a id ≡ f id
  still f (action.Set at k) id s b = refl
  still f (action.Copy at to) id s b = refl
  still f (action.Load c) id s b = refl
  still f (action.Unload c) id s b = refl
  still f (action.Post c d inner) id s b = refl
  still f (action.Send k to) id s b = elim (cases_eq k id) [
    | inl e ↦ let x : stands rec (f k) ≡ false = rw e s in rw x refl
    | inr e ↦ elim (cases_Bool (stands rec (f k))) [ inl x ↦ rw x (at_other f k None id (λ y. e (sym y))) | inr x ↦ rw x refl ]
  ]
  still f (action.Arrive e) id s b = rw b refl
  still f (action.Every p l inner) id s b = refl

  acted_still : (f : Flat) (ts : List Task) (id : ℕ) → stands rec (f.standing id) ≡ false → NoneBrings id ts → (acted rec f ts).standing id ≡ f.standing id
  acted_still f [] id s n = refl
  acted_still f (t ∷ ts) id s n = let a = still f.standing (plain_of t.action) id s n.0 in
      acted_still (act rec f (plain_of t.action)) ts id (ap (stands rec) a ∙ s) n.1 ∙ a

  walked_still : (o : Option Standing) → stands rec o ≡ false → walked rec o ≡ o
  walked_still None h = refl
  walked_still (Some b) h = rw h refl

  pub only_recorded : (given : ℕ → Outcome) (ts : List Task) (f : Flat) → OnlyRecorded rec given ts f
  unfolding flat_tick
  only_recorded given ts f = record {
    blocks = λ b k. acted_outside rec f ts b k;
    standing = λ id s n. let a = acted_still f ts id s n in walked_still ((acted rec f ts).standing id) (ap (stands rec) a ∙ s) ∙ a;
  }
