-- A post at the front of the cells of an action.
use Rattle.std.proofs.Common.{◌≡◌, ℕ, ◌+◌, ◌-◌, ◌*◌, ◌<◌, ◌≤◌, ◌^◌, ◌≤ℤ◌, pos, negsuc, true, false, ◌&&◌, List, ◌∷◌, length, take, drop, below_more, refl, sym, ap, subst, ◌∙◌, arith}
use borrow.Author.Differences.{ints}
use Rattle.std.specs.Prelude.{nat_le}
use Rattle.std.specs.List.{list_all}
use Rattle.std.proofs.lemmas.Bool.{and_parts, and_from, leb-true}
use Rattle.std.proofs.lemmas.List.{take_all, length-drop, drop-drop}
use Rattle.fol_model.specs.declared.places.ChunkPos.{ChunkPos}
use Rattle.fol_model.specs.declared.places.BlockPos.{BlockPos}
use Rattle.fol_model.specs.declared.words.Cell.{Cell}
use Rattle.fol_model.specs.declared.words.Cell.TheVariants as cells
use Rattle.fol_model.specs.declared.words.Keyword.{Keyword}
use Rattle.fol_model.specs.declared.words.Keyword.TheVariants as keys
use Rattle.fol_model.specs.Geometry.{is_chunk, is_block}
use Rattle.fol_model.specs.Deed.{Deed, post}
use Rattle.fol_model.specs.Nesting.{wrapped}
use Rattle.fol_model.specs.Limits as limit
use Rattle.fol_text_laws.specs.RowValues.{deed_from, plain_from, first_key, chunk_in_cells, natural_in, InLine}
use Rattle.fol_text_laws.proofs.Ranges.{chunk_in, block_in}
use Rattle.fol_text_laws.proofs.Deeds.{delayed}
use Rattle.fol_script.specs.Posts.{is_post_at, IsPosts}

pub record PostHere (cs : List Cell) : Type 0 where
  pub room : 4 ≤ length cs
  pub is : deed_from cs ≡ wrapped (post (chunk_in_cells 1 cs) (natural_in 3 cs)) (deed_from (drop 4 cs))

pub post_here : (cs : List Cell) → is_post_at cs ≡ true → PostHere cs
post_here (cells.Word keys.Post ∷ x ∷ z ∷ d ∷ cs) e = record { room = omega arith; is = refl }
post_here _ e = absurd cc

pub no_post : (cs : List Cell) → is_post_at cs ≡ false → deed_from cs ≡ plain_from (first_key cs) cs
no_post (cells.Word keys.Post ∷ x ∷ z ∷ d ∷ cs) e = absurd cc
no_post _ e = refl

pub record InPost (cs : List Cell) : Type 0 where
  pub chunk : is_chunk (chunk_in_cells 1 cs) ≡ true
  pub delay : natural_in 3 cs < 2 ^ 32
  pub inner : InLine (deed_from (drop 4 cs))

in_post : (d : Deed) (c : ChunkPos) (n : ℕ) → InLine (wrapped (post c n) d) → (is_chunk c ≡ true) × (n < 2 ^ 32) × InLine d
in_post d c n i =
    let a = and_parts (limit.is_wrap (post c n) && list_all limit.is_wrap d.wraps) (limit.is_plain d.plain) i.deed in
    let b = and_parts (limit.is_wrap (post c n)) (list_all limit.is_wrap d.wraps) a.0 in
    let w = and_parts (is_chunk c) (limit.is_delay n) b.0 in
    let l = delayed n w.1 in
    (w.0, omega (arith, l.1), record { deed = and_from (list_all limit.is_wrap d.wraps) (limit.is_plain d.plain) b.1 a.1; posts = i.posts; no_arrival = i.no_arrival; sends = i.sends })

pub post_within : (cs : List Cell) → is_post_at cs ≡ true → InLine (deed_from cs) → InPost cs
post_within cs e i =
    let p = in_post (deed_from (drop 4 cs)) (chunk_in_cells 1 cs) (natural_in 3 cs) (subst InLine (post_here cs e).is i) in
    record { chunk = p.0; delay = p.1; inner = p.2 }

-- ---- the limits of numbers in places

pub x_near : (c : ChunkPos) → is_chunk c ≡ true → (negsuc 2147483647 ≤ℤ c.x) × (c.x ≤ℤ pos 2147483647)
x_near c h = let i = chunk_in c h in (omega (arith, ints, i.x_low), omega (arith, ints, i.x_high))

pub z_near : (c : ChunkPos) → is_chunk c ≡ true → (negsuc 2147483647 ≤ℤ c.z) × (c.z ≤ℤ pos 2147483647)
z_near c h = let i = chunk_in c h in (omega (arith, ints, i.z_low), omega (arith, ints, i.z_high))

pub block_x_near : (b : BlockPos) → is_block b ≡ true → (negsuc 2147483647 ≤ℤ b.x) × (b.x ≤ℤ pos 2147483647)
block_x_near b h = let i = block_in b h in (omega (arith, ints, i.x_low), omega (arith, ints, i.x_high))

pub block_y_near : (b : BlockPos) → is_block b ≡ true → (negsuc 2147483647 ≤ℤ b.y) × (b.y ≤ℤ pos 2147483647)
block_y_near b h = let i = block_in b h in (omega (arith, ints, i.y_low), omega (arith, ints, i.y_high))

pub block_z_near : (b : BlockPos) → is_block b ≡ true → (negsuc 2147483647 ≤ℤ b.z) × (b.z ≤ℤ pos 2147483647)
block_z_near b h = let i = block_in b h in (omega (arith, ints, i.z_low), omega (arith, ints, i.z_high))

-- ---- what stands in no further post

pub plain_in : (cs : List Cell) (key : Keyword) → is_post_at cs ≡ false → key ≡ first_key cs → InLine (deed_from cs) → InLine (plain_from key cs)
plain_in cs key e k i = subst InLine (no_post cs e ∙ ap (λ (q : Keyword). plain_from q cs) (sym k)) i

pub plain_is : (cs : List Cell) (key : Keyword) → is_post_at cs ≡ false → key ≡ first_key cs → plain_from key cs ≡ deed_from cs
plain_is cs key e k = sym (no_post cs e ∙ ap (λ (q : Keyword). plain_from q cs) (sym k))

pub sends_small : (n : ℕ) → limit.is_entity_id n ≡ true → n < 2 ^ 32
unfolding limit.is_entity_id
sends_small n h = let p = leb-true n 1000000000 (and_parts (nat_le 1 n) (nat_le n 1000000000) h).1 in omega (arith, p)

-- ---- one post after the other

pub rest_is : (n : ℕ) (cs : List Cell) → take (length cs - n) (drop n cs) ≡ drop n cs
rest_is n cs = take_all (length cs - n) (drop n cs) (omega (arith, length-drop n cs))

next_four : (n : ℕ) (cs : List Cell) → drop 4 (drop (4 * n) cs) ≡ drop (4 * (n + 1)) cs
next_four n cs = drop-drop 4 (4 * n) cs ∙ ap (λ (k : ℕ). drop k cs) (let e : 4 * n + 4 ≡ 4 * (n + 1) = omega arith in e)

pub more_posts : (n : ℕ) (cs : List Cell) → IsPosts n cs → is_post_at (drop (4 * n) cs) ≡ true → IsPosts (n + 1) cs
more_posts n cs s e =
    let here = post_here (drop (4 * n) cs) e in
    record {
      room = omega (arith, here.room, s.room, length-drop (4 * n) cs);
      before = below_more (λ (k : ℕ). (is_post_at (drop (4 * k) cs) ≡ true) × InLine (deed_from (drop (4 * k) cs))) n s.before (e, s.rest);
      rest = subst (λ (l : List Cell). InLine (deed_from l)) (next_four n cs) (post_within (drop (4 * n) cs) e s.rest).inner;
    }

pub fewer_posts : (n : ℕ) (cs : List Cell) → 0 < n → IsPosts n cs → IsPosts (n - 1) cs
fewer_posts n cs some s =
    let b = s.before (n - 1) (omega arith) in
    record {
      room = omega (arith, s.room);
      before = λ k h. s.before k (omega (arith, h));
      rest = b.1;
    }

-- the action behind the last of these posts
pub inner_of : (n : ℕ) (cs : List Cell) → 0 < n → drop 4 (drop (4 * (n - 1)) cs) ≡ drop (4 * n) cs
inner_of n cs some = next_four (n - 1) cs ∙ ap (λ (k : ℕ). drop k cs) (let e : 4 * ((n - 1) + 1) ≡ 4 * n = omega arith in e)
