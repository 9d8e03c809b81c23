-- The action whose words and numbers stand in a line.
use Rattle.std.proofs.Common.{◌≡◌, ℕ, suc, ◌≤◌, ℤ, pos, negsuc, ◌≤ℤ◌, true, false, cond, not, ◌&&◌, length, List, [], ◌∷◌, ◌++◌, refl, sym, ap, subst, ◌∙◌, arith}
use borrow.Author.Differences.{ints}
use Rattle.std.specs.Prelude.{nat_le}
use Rattle.std.specs.List.{list_all, count_by}
use Rattle.std.proofs.lemmas.Bool.{and_parts, and_from, le-leb, leb-true, not_from_false, not-true}
use Rattle.std.proofs.lemmas.List.Sums.{sum_by-cons}
use Rattle.fol_model.specs.declared.places.BlockPos.{BlockPos}
use Rattle.fol_model.specs.declared.places.ChunkPos.{ChunkPos}
use Rattle.fol_model.specs.declared.words.Keyword.TheVariants as keys
use Rattle.fol_model.specs.declared.words.Field.{Field}
use Rattle.fol_model.specs.declared.words.Field.TheVariants as fields
use Rattle.fol_model.specs.declared.words.Cell.{Cell}
use Rattle.fol_model.specs.declared.words.Cell.TheVariants as cells
use Rattle.fol_model.specs.declared.actions.Action.{Action}
use Rattle.fol_model.specs.declared.actions.Action.TheVariants as action
use Rattle.fol_model.specs.Deed.{Deed, Plain, Wrap, set, copy, load, unload, send, arrive, post, every}
use Rattle.fol_model.specs.Nesting.{deed_of, wrapped, bare, action_at, action_of}
use Rattle.fol_model.specs.Limits as limit
use Rattle.fol_model.specs.IsScript.{sends_entity, is_line_action}
use Rattle.fol_model.specs.Geometry.{is_chunk, is_block}
use Rattle.fol_model.specs.TextForms.{chunk, side, upto, action_form}
use Rattle.fol_model.specs.TextCauses.{or_nothing}
use Rattle.fol_model.specs.TextRows.{Fits, is_post_cell}
use Rattle.fol_model.specs.ActionCells.{natural_cell, block_cells, chunk_cells, plain_cells, deed_cells}
use Rattle.fol_text_laws.specs.RowValues.{deed_from, InLine}
use Rattle.fol_text_laws.proofs.Ranges.{InChunk, in_chunk, in_block, chunk_in, block_in, in_range, range_in}
use Rattle.fol_text_laws.proofs.Cells.{nothing_left, natural_first, chunk_first, block_first}

-- ---- an action and its deed

pub deed_back : (ws : List Wrap) (p : Plain) → deed_of (action_at ws p) ≡ record { wraps = ws; plain = p }
deed_back [] (set at id) = refl
deed_back [] (copy at to) = refl
deed_back [] (load c) = refl
deed_back [] (unload c) = refl
deed_back [] (send e to) = refl
deed_back [] (arrive e) = refl
deed_back (post c d ∷ ws) p = refl
deed_back (every period left ∷ ws) p = refl

pub action_back : (a : Action) → action_of (deed_of a) ≡ a
action_back (action.Set at id) = refl
action_back (action.Copy at to) = refl
action_back (action.Load c) = refl
action_back (action.Unload c) = refl
action_back (action.Post c d a) = refl
action_back (action.Send e to) = refl
action_back (action.Arrive e) = refl
action_back (action.Every p n a) = refl

-- ---- the cells of a deed fit, as far as its limits go

-- a deed whose cells are these
pub record DeedOf (cs : List Cell) : Type 0 where
  pub deed : Deed
  pub cells : deed_cells deed ≡ cs
  pub in_line : InLine deed
  pub count : length deed.wraps ≡ count_by is_post_cell cs

pub delay_in : (d : ℕ) → 1 ≤ d → d ≤ 1000000 → limit.is_delay d ≡ true
unfolding limit.is_delay
delay_in d l h = in_range 1 d 1000000 l h

entity_in : (e : ℕ) → 1 ≤ e → e ≤ 1000000000 → limit.is_entity_id e ≡ true
unfolding limit.is_entity_id
entity_in e l h = in_range 1 e 1000000000 l h

set_deed : (cs : List Cell) → Fits (or_nothing (action_form keys.Set)) cs → DeedOf (cells.Word keys.Set ∷ cs)
set_deed cs f =
    let b = block_first (upto 0 65535 ∷ []) cs f in
    let i = natural_first 0 65535 [] b.rest b.fits in
    let e : cs ≡ block_cells b.at ++ natural_cell i.n ∷ [] = b.is ∙ ap (λ (l : List Cell). block_cells b.at ++ l) (i.is ∙ ap (λ (l : List Cell). natural_cell i.n ∷ l) (nothing_left i.rest i.fits)) in
    record {
      deed = bare (set b.at i.n);
      cells = ap (λ (l : List Cell). cells.Word keys.Set ∷ l) (sym e);
      in_line = record { deed = and_from (is_block b.at) (nat_le i.n 65535) (in_block b.at b.within) (le-leb i.n 65535 i.at_most); posts = refl; no_arrival = refl; sends = refl };
      count = subst (λ (l : List Cell). 0 ≡ count_by is_post_cell (cells.Word keys.Set ∷ l)) (sym e) refl;
    }

copy_deed : (cs : List Cell) → Fits (or_nothing (action_form keys.Copy)) cs → DeedOf (cells.Word keys.Copy ∷ cs)
copy_deed cs f =
    let a = block_first (side ∷ upto 0 255 ∷ side ∷ []) cs f in
    let b = block_first [] a.rest a.fits in
    let e : cs ≡ block_cells a.at ++ block_cells b.at = a.is ∙ ap (λ (l : List Cell). block_cells a.at ++ l) (b.is ∙ ap (λ (l : List Cell). block_cells b.at ++ l) (nothing_left b.rest b.fits)) in
    record {
      deed = bare (copy a.at b.at);
      cells = ap (λ (l : List Cell). cells.Word keys.Copy ∷ l) (sym e);
      in_line = record { deed = and_from (is_block a.at) (is_block b.at) (in_block a.at a.within) (in_block b.at b.within); posts = refl; no_arrival = refl; sends = refl };
      count = subst (λ (l : List Cell). 0 ≡ count_by is_post_cell (cells.Word keys.Copy ∷ l)) (sym e) refl;
    }

load_deed : (cs : List Cell) → Fits (or_nothing (action_form keys.Load)) cs → DeedOf (cells.Word keys.Load ∷ cs)
load_deed cs f =
    let c = chunk_first [] cs f in
    let e : cs ≡ chunk_cells c.at = c.is ∙ ap (λ (l : List Cell). chunk_cells c.at ++ l) (nothing_left c.rest c.fits) in
    record {
      deed = bare (load c.at);
      cells = ap (λ (l : List Cell). cells.Word keys.Load ∷ l) (sym e);
      in_line = record { deed = in_chunk c.at c.within; posts = refl; no_arrival = refl; sends = refl };
      count = subst (λ (l : List Cell). 0 ≡ count_by is_post_cell (cells.Word keys.Load ∷ l)) (sym e) refl;
    }

unload_deed : (cs : List Cell) → Fits (or_nothing (action_form keys.Unload)) cs → DeedOf (cells.Word keys.Unload ∷ cs)
unload_deed cs f =
    let c = chunk_first [] cs f in
    let e : cs ≡ chunk_cells c.at = c.is ∙ ap (λ (l : List Cell). chunk_cells c.at ++ l) (nothing_left c.rest c.fits) in
    record {
      deed = bare (unload c.at);
      cells = ap (λ (l : List Cell). cells.Word keys.Unload ∷ l) (sym e);
      in_line = record { deed = in_chunk c.at c.within; posts = refl; no_arrival = refl; sends = refl };
      count = subst (λ (l : List Cell). 0 ≡ count_by is_post_cell (cells.Word keys.Unload ∷ l)) (sym e) refl;
    }

send_deed : (cs : List Cell) → Fits (or_nothing (action_form keys.Send)) cs → DeedOf (cells.Word keys.Send ∷ cs)
send_deed cs f =
    let n = natural_first 1 1000000000 (side ∷ upto 0 255 ∷ side ∷ []) cs f in
    let b = block_first [] n.rest n.fits in
    let e : cs ≡ natural_cell n.n ∷ block_cells b.at = n.is ∙ ap (λ (l : List Cell). natural_cell n.n ∷ l) (b.is ∙ ap (λ (l : List Cell). block_cells b.at ++ l) (nothing_left b.rest b.fits)) in
    record {
      deed = bare (send n.n b.at);
      cells = ap (λ (l : List Cell). cells.Word keys.Send ∷ l) (sym e);
      in_line = record { deed = in_block b.at b.within; posts = refl; no_arrival = refl; sends = entity_in n.n n.at_least n.at_most };
      count = subst (λ (l : List Cell). 0 ≡ count_by is_post_cell (cells.Word keys.Send ∷ l)) (sym e) refl;
    }

-- one more post round a deed
pub number_count : (z : ℤ) (cs : List Cell) → count_by is_post_cell (cells.Number z ∷ cs) ≡ count_by is_post_cell cs
number_count z cs = omega (arith, sum_by-cons (λ k. cond (is_post_cell k) 1 0) (cells.Number z) cs)

post_count : (c : ChunkPos) (d n : ℕ) (cs : List Cell) → n ≡ count_by is_post_cell cs → suc n ≡ count_by is_post_cell (cells.Word keys.Post ∷ chunk_cells c ++ natural_cell d ∷ cs)
post_count c d n cs e =
    let tail : count_by is_post_cell (cells.Number c.x ∷ cells.Number c.z ∷ natural_cell d ∷ cs) ≡ count_by is_post_cell cs =
    number_count c.x (cells.Number c.z ∷ natural_cell d ∷ cs) ∙ number_count c.z (natural_cell d ∷ cs) ∙ number_count (pos d) cs in
    omega (arith, tail, e, sum_by-cons (λ k. cond (is_post_cell k) 1 0) (cells.Word keys.Post) (chunk_cells c ++ natural_cell d ∷ cs))

pub post_in : (c : ChunkPos) (d : ℕ) (ws : List Wrap) (p : Plain) → is_chunk c ≡ true → limit.is_delay d ≡ true → InLine (record { wraps = ws; plain = p }) → InLine (record { wraps = post c d ∷ ws; plain = p })
post_in c d ws p at delay inner =
    let i = and_parts (list_all limit.is_wrap ws) (limit.is_plain p) inner.deed in
    record {
      deed = and_from (list_all limit.is_wrap (post c d ∷ ws)) (limit.is_plain p) (and_from (limit.is_wrap (post c d)) (list_all limit.is_wrap ws) (and_from (is_chunk c) (limit.is_delay d) at delay) i.0) i.1;
      posts = inner.posts;
      no_arrival = inner.no_arrival;
      sends = inner.sends;
    }

post_deed : (c : ChunkPos) (d : ℕ) (rest : List Cell) → InChunk c → 1 ≤ d → d ≤ 1000000 → DeedOf rest → DeedOf (cells.Word keys.Post ∷ chunk_cells c ++ natural_cell d ∷ rest)
post_deed c d rest within low high inner = record {
  deed = wrapped (post c d) inner.deed;
  cells = ap (λ (l : List Cell). cells.Word keys.Post ∷ chunk_cells c ++ natural_cell d ∷ l) inner.cells;
  in_line = post_in c d inner.deed.wraps inner.deed.plain (in_chunk c within) (delay_in d low high) inner.in_line;
  count = post_count c d (length inner.deed.wraps) rest inner.count;
}

-- what fits in the place of an action is an action
pub deed_at : (cs : List Cell) → Fits (fields.Action ∷ []) cs → DeedOf cs
deed_at [] f = absurd f
deed_at (cells.Number z ∷ cs) f = absurd f
deed_at (cells.Word keys.World ∷ cs) f = absurd (let k = f.0 in cc)
deed_at (cells.Word keys.Grid ∷ cs) f = absurd (let k = f.0 in cc)
deed_at (cells.Word keys.Block ∷ cs) f = absurd (let k = f.0 in cc)
deed_at (cells.Word keys.Entity ∷ cs) f = absurd (let k = f.0 in cc)
deed_at (cells.Word keys.Every ∷ cs) f = absurd (let k = f.0 in cc)
deed_at (cells.Word keys.Run ∷ cs) f = absurd (let k = f.0 in cc)
deed_at (cells.Word keys.End ∷ cs) f = absurd (let k = f.0 in cc)
deed_at (cells.Word keys.Arrive ∷ cs) f = absurd (let k = f.0 in cc)
deed_at (cells.Word keys.Set ∷ cs) f = set_deed cs f.1
deed_at (cells.Word keys.Copy ∷ cs) f = copy_deed cs f.1
deed_at (cells.Word keys.Load ∷ cs) f = load_deed cs f.1
deed_at (cells.Word keys.Unload ∷ cs) f = unload_deed cs f.1
deed_at (cells.Word keys.Send ∷ cs) f = send_deed cs f.1
deed_at (cells.Word keys.Post ∷ []) f = absurd f.1
deed_at (cells.Word keys.Post ∷ cells.Word k ∷ cs) f = absurd f.1
deed_at (cells.Word keys.Post ∷ cells.Number x ∷ []) f = absurd f.1.2
deed_at (cells.Word keys.Post ∷ cells.Number x ∷ cells.Word k ∷ cs) f = absurd f.1.2
deed_at (cells.Word keys.Post ∷ cells.Number x ∷ cells.Number z ∷ []) f = absurd f.1.2.2
deed_at (cells.Word keys.Post ∷ cells.Number x ∷ cells.Number z ∷ cells.Word k ∷ cs) f = absurd f.1.2.2
deed_at (cells.Word keys.Post ∷ cells.Number x ∷ cells.Number z ∷ cells.Number (negsuc d) ∷ cs) f = absurd (omega (arith, ints, f.1.2.2.0))
deed_at (cells.Word keys.Post ∷ cells.Number x ∷ cells.Number z ∷ cells.Number (pos d) ∷ cs) f =
    post_deed (record { x = x; z = z }) d cs (record { x_low = f.1.0; x_high = f.1.1; z_low = f.1.2.0; z_high = f.1.2.1 })
    (omega (arith, ints, f.1.2.2.0)) (omega (arith, ints, f.1.2.2.1)) (deed_at cs f.1.2.2.2)

-- ---- an action from the cells that it has

pub deed_again : (ws : List Wrap) (p : Plain) → Fits (fields.Action ∷ []) (deed_cells (record { wraps = ws; plain = p })) → deed_from (deed_cells (record { wraps = ws; plain = p })) ≡ record { wraps = ws; plain = p }
deed_again [] (set at id) f = refl
deed_again [] (copy at to) f = refl
deed_again [] (load c) f = refl
deed_again [] (unload c) f = refl
deed_again [] (send e to) f = refl
deed_again [] (arrive e) f = absurd (let k = f.0 in cc)
deed_again (post c d ∷ ws) p f = ap (λ (x : Deed). wrapped (post c d) x) (deed_again ws p f.1.2.2.2)
deed_again (every period left ∷ ws) p f = absurd (let k = f.0 in cc)

-- ---- the cells of an action within its limits fit

sent : (e : ℕ) → limit.is_entity_id e ≡ true → (1 ≤ e) × (e ≤ 1000000000)
unfolding limit.is_entity_id
sent e h = range_in 1 e 1000000000 h

pub delayed : (d : ℕ) → limit.is_delay d ≡ true → (1 ≤ d) × (d ≤ 1000000)
unfolding limit.is_delay
delayed d h = range_in 1 d 1000000 h

pub natural_fits : (low n high : ℕ) → low ≤ n → n ≤ high → (pos low ≤ℤ pos n) × (pos n ≤ℤ pos high)
natural_fits low n high l h = (omega (arith, ints), omega (arith, ints))

pub chunk_fits : (c : ChunkPos) (ps : List Field) (cs : List Cell) → is_chunk c ≡ true → Fits ps cs → Fits (chunk ∷ chunk ∷ ps) (chunk_cells c ++ cs)
chunk_fits c ps cs h f = let i = chunk_in c h in (i.x_low, i.x_high, (i.z_low, i.z_high, f))

pub block_fits : (b : BlockPos) (ps : List Field) (cs : List Cell) → is_block b ≡ true → Fits ps cs → Fits (side ∷ upto 0 255 ∷ side ∷ ps) (block_cells b ++ cs)
block_fits b ps cs h f = let i = block_in b h in (i.x_low, i.x_high, (i.y_low, i.y_high, (i.z_low, i.z_high, f)))

pub number_fits : (low high n : ℕ) (ps : List Field) (cs : List Cell) → low ≤ n → n ≤ high → Fits ps cs → Fits (upto low high ∷ ps) (natural_cell n ∷ cs)
number_fits low high n ps cs l h f = let e = natural_fits low n high l h in (e.0, e.1, f)

plain_fits : (p : Plain) → limit.is_plain p ≡ true → limit.is_arrival p ≡ false → sends_entity p ≡ true → Fits (fields.Action ∷ []) (plain_cells p)
plain_fits (set at id) w a s =
    let p = and_parts (is_block at) (nat_le id 65535) w in
    (refl, block_fits at (upto 0 65535 ∷ []) (natural_cell id ∷ []) p.0 (number_fits 0 65535 id [] [] (omega arith) (leb-true id 65535 p.1) tt))
plain_fits (copy at to) w a s =
    let p = and_parts (is_block at) (is_block to) w in
    (refl, block_fits at (side ∷ upto 0 255 ∷ side ∷ []) (block_cells to) p.0 (block_fits to [] [] p.1 tt))
plain_fits (load c) w a s = (refl, chunk_fits c [] [] w tt)
plain_fits (unload c) w a s = (refl, chunk_fits c [] [] w tt)
plain_fits (send e to) w a s =
    let n = sent e s in
    (refl, number_fits 1 1000000000 e (side ∷ upto 0 255 ∷ side ∷ []) (block_cells to) n.0 n.1 (block_fits to [] [] w tt))
plain_fits (arrive e) w a s = absurd (let k = a in cc)

pub deed_fits : (ws : List Wrap) (p : Plain) → InLine (record { wraps = ws; plain = p }) → Fits (fields.Action ∷ []) (deed_cells (record { wraps = ws; plain = p }))
deed_fits [] p i = plain_fits p (and_parts true (limit.is_plain p) i.deed).1 i.no_arrival i.sends
deed_fits (every period left ∷ ws) p i = absurd (let k = i.posts in cc)
deed_fits (post c d ∷ ws) p i =
    let a = and_parts (list_all limit.is_wrap (post c d ∷ ws)) (limit.is_plain p) i.deed in
    let b = and_parts (limit.is_wrap (post c d)) (list_all limit.is_wrap ws) a.0 in
    let w = and_parts (is_chunk c) (limit.is_delay d) b.0 in
    let n = delayed d w.1 in
    let rest = deed_fits ws p (record { deed = and_from (list_all limit.is_wrap ws) (limit.is_plain p) b.1 a.1; posts = i.posts; no_arrival = i.no_arrival; sends = i.sends }) in (
      refl,
      chunk_fits c (upto 1 1000000 ∷ fields.Action ∷ []) (natural_cell d ∷ deed_cells (record { wraps = ws; plain = p })) w.0
          (number_fits 1 1000000 d (fields.Action ∷ []) (deed_cells (record { wraps = ws; plain = p })) n.0 n.1 rest),
    )

-- the posts of an action are counted by its cells
plain_count : (p : Plain) → count_by is_post_cell (plain_cells p) ≡ 0
plain_count (set at id) = refl
plain_count (copy at to) = refl
plain_count (load c) = refl
plain_count (unload c) = refl
plain_count (send e to) = refl
plain_count (arrive e) = refl

pub deed_count : (ws : List Wrap) (p : Plain) → list_all limit.is_post ws ≡ true → length ws ≡ count_by is_post_cell (deed_cells (record { wraps = ws; plain = p }))
deed_count [] p h = sym (plain_count p)
deed_count (every period left ∷ ws) p h = absurd (let k = h in cc)
deed_count (post c d ∷ ws) p h = post_count c d (length ws) (deed_cells (record { wraps = ws; plain = p })) (deed_count ws p h)

-- ---- the limits of a line's action, as one test

pub line_action : (a : Action) → InLine (deed_of a) → length (deed_of a).wraps ≤ 7 → is_line_action a ≡ true
line_action a i n = and_from (limit.is_deed (deed_of a) && limit.is_simple (deed_of a)) (sends_entity (deed_of a).plain)
    (and_from (limit.is_deed (deed_of a)) (limit.is_simple (deed_of a)) i.deed
    (and_from (list_all limit.is_post (deed_of a).wraps) (nat_le (length (deed_of a).wraps) 7 && not (limit.is_arrival (deed_of a).plain)) i.posts
    (and_from (nat_le (length (deed_of a).wraps) 7) (not (limit.is_arrival (deed_of a).plain)) (le-leb (length (deed_of a).wraps) 7 n) (not_from_false (limit.is_arrival (deed_of a).plain) i.no_arrival))))
    i.sends

pub action_line : (a : Action) → is_line_action a ≡ true → InLine (deed_of a) × (length (deed_of a).wraps ≤ 7)
action_line a h =
    let p = and_parts (limit.is_deed (deed_of a) && limit.is_simple (deed_of a)) (sends_entity (deed_of a).plain) h in
    let q = and_parts (limit.is_deed (deed_of a)) (limit.is_simple (deed_of a)) p.0 in
    let r = and_parts (list_all limit.is_post (deed_of a).wraps) (nat_le (length (deed_of a).wraps) 7 && not (limit.is_arrival (deed_of a).plain)) q.1 in
    let s = and_parts (nat_le (length (deed_of a).wraps) 7) (not (limit.is_arrival (deed_of a).plain)) r.1 in
    (record { deed = q.0; posts = r.0; no_arrival = not-true (limit.is_arrival (deed_of a).plain) s.1; sends = p.1 }, leb-true (length (deed_of a).wraps) 7 s.0)
