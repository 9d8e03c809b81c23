-- An event in range is told whole by its words.
use Rattle.std.proofs.Common.{append_assoc, ◌≡◌, ◌≤◌, arith, ℤ, pos, negsuc, ◌≤ℤ◌, true, false, ◌&&◌, List, [], ◌∷◌}
use borrow.Author.Differences.{ints}
use Rattle.std.specs.Prelude.{nat_le}
use Rattle.std.specs.List.{AllByRecursion, list_all}
use Rattle.std.proofs.lemmas.Bool.{and_parts, leb-true}
use Rattle.fol_model.specs.declared.places.ChunkPos.{ChunkPos}
use Rattle.fol_model.specs.declared.places.BlockPos.{BlockPos}
use Rattle.fol_model.specs.declared.tasks.Ran.{Ran}
use Rattle.fol_model.specs.declared.events.Loaded.{Loaded}
use Rattle.fol_model.specs.declared.events.Loaded.TheVariants as loaded
use Rattle.fol_model.specs.declared.events.Accept.{Accept}
use Rattle.fol_model.specs.declared.events.Accept.TheVariants as accept
use Rattle.fol_model.specs.declared.events.Event.{Event}
use Rattle.fol_model.specs.declared.events.Event.TheVariants.{Load, Unload, Post, PhaseOpen, Begin, End, PhaseClose, Finish, Stop}
use Rattle.fol_model.specs.Deed.{Deed, Plain, Wrap, set, copy, load, unload, send, arrive, post, every}
use Rattle.fol_model.specs.Nesting.{deed_of}
use Rattle.fol_model.specs.ActionCells.{deed_cells, wrap_cells, plain_cells}
use Rattle.fol_model.specs.Geometry.{is_chunk, is_block}
use Rattle.fol_model.specs.Limits.{is_delay, is_count, is_plain, is_wrap, is_arrival}
use Rattle.fol_text_laws.proofs.Ranges.{chunk_in, block_in}
use Rattle.fol_text_laws.proofs.Items.{all_append}
use Rattle.fol_report_laws.specs.Told.{IsNear, IsNearChunk, IsNearCell, IsShortLoaded, IsShortAccept, IsShortRan, IsTold}
use Rattle.fol_events.specs.InRange.{LoadedInRange, AcceptInRange, RanInRange, PlainInRange, InRange}
use Rattle.fol_events.proofs.Posting.{is_delay_in, is_count_in, postable_no_arrival}

near : (z : ℤ) → negsuc 99999999 ≤ℤ z → z ≤ℤ pos 99999999 → IsNear z
near (pos n) l h = let k : n ≤ 99999999 = omega (arith, ints) in omega arith
near (negsuc n) l h = let k : n ≤ 99999999 = omega (arith, ints) in omega arith

near_chunk : (c : ChunkPos) → is_chunk c ≡ true → IsNearChunk c
near_chunk c h = let r = chunk_in c h in (near c.x (omega (arith, ints, r.x_low)) (omega (arith, ints, r.x_high)), near c.z (omega (arith, ints, r.z_low)) (omega (arith, ints, r.z_high)))

near_block : (b : BlockPos) → is_block b ≡ true → IsNear b.x × IsNear b.y × IsNear b.z
near_block b h =
    let r = block_in b h in (
      near b.x (omega (arith, ints, r.x_low)) (omega (arith, ints, r.x_high)),
      near b.y (omega (arith, ints, r.y_low)) (omega (arith, ints, r.y_high)),
      near b.z (omega (arith, ints, r.z_low)) (omega (arith, ints, r.z_high)),
    )

near_plain : (p : Plain) → is_plain p ≡ true → is_arrival p ≡ false → PlainInRange p → AllByRecursion IsNearCell (plain_cells p)
near_plain (set at id) h n r =
    let p = and_parts (is_block at) (nat_le id 65535) h in
    let b = near_block at p.0 in
    let small : id ≤ 65535 = leb-true id 65535 p.1 in
    (tt, (b.0, (b.1, (b.2, (omega arith, tt)))))
near_plain (copy at to) h n r =
    let p = and_parts (is_block at) (is_block to) h in
    let b = near_block at p.0 in
    let d = near_block to p.1 in
    (tt, (b.0, (b.1, (b.2, (d.0, (d.1, (d.2, tt)))))))
near_plain (load c) h n r = let k = near_chunk c h in (tt, (k.0, (k.1, tt)))
near_plain (unload c) h n r = let k = near_chunk c h in (tt, (k.0, (k.1, tt)))
near_plain (send entity to) h n r = let b = near_block to h in (tt, (omega (arith, r), (b.0, (b.1, (b.2, tt)))))
near_plain (arrive e) h n r = absurd (let k : true ≡ false = n in cc)

near_wrap : (w : Wrap) → is_wrap w ≡ true → AllByRecursion IsNearCell (wrap_cells w)
near_wrap (post c d) h =
    let p = and_parts (is_chunk c) (is_delay d) h in
    let k = near_chunk c p.0 in
    let delay = is_delay_in d p.1 in
    (tt, (k.0, (k.1, (omega (arith, delay.1), tt))))
near_wrap (every period left) h =
    let p = and_parts (is_delay period) (is_count left) h in
    let delay = is_delay_in period p.0 in
    let count = is_count_in left p.1 in
    (tt, (omega (arith, delay.1), (omega (arith, count.1), tt)))

near_deed : (ws : List Wrap) (p : Plain) → list_all is_wrap ws ≡ true → AllByRecursion IsNearCell (plain_cells p) → AllByRecursion IsNearCell (deed_cells (record { wraps = ws; plain = p }))
near_deed [] p h k = k
near_deed (w ∷ ws) p h k =
    let all = and_parts (is_wrap w) (list_all is_wrap ws) h in
    rw (append_assoc (wrap_cells w)) (all_append IsNearCell (wrap_cells w) (deed_cells (record { wraps = ws; plain = p })) (near_wrap w all.0) (near_deed ws p all.1 k))

near_action : (d : Deed) → (list_all is_wrap d.wraps && is_plain d.plain) ≡ true → is_arrival d.plain ≡ false → PlainInRange d.plain → AllByRecursion IsNearCell (deed_cells d)
near_action d h n r =
    let p = and_parts (list_all is_wrap d.wraps) (is_plain d.plain) h in
    near_deed d.wraps d.plain p.0 (near_plain d.plain p.1 n r)

short_loaded : (a : Loaded) → LoadedInRange a → IsShortLoaded a
short_loaded loaded.Counted h = tt
short_loaded (loaded.Full present wanted) h = (omega (arith, h.0), omega (arith, h.1))
short_loaded loaded.Over h = tt

short_accept : (a : Accept) → AcceptInRange a → IsShortAccept a
short_accept (accept.Posted number) h = omega (arith, h)
short_accept (accept.Full present wanted) h = (omega (arith, h.0), omega (arith, h.1))

short_accepts : (xs : List Accept) → AllByRecursion AcceptInRange xs → AllByRecursion IsShortAccept xs
short_accepts [] h = tt
short_accepts (x ∷ xs) h = (short_accept x h.0, short_accepts xs h.1)

short_rans : (rs : List Ran) → AllByRecursion RanInRange rs → AllByRecursion IsShortRan rs
short_rans [] h = tt
short_rans (r ∷ rs) h = (omega (arith, h.0), short_rans rs h.1)

pub is_told : (e : Event) → InRange e → IsTold e
is_told (Load caller c answer) h = ((omega (arith, h.0), near_chunk c h.1, short_loaded answer h.2), tt)
is_told (Unload caller c answer) h = ((omega (arith, h.0), near_chunk c h.1), tt)
is_told (Post caller c d a answer) h =
    let n = postable_no_arrival a h.1.may_post in
    let delay = is_delay_in d h.1.delay in
    ((omega (arith, h.0), near_chunk c h.1.chunk, omega (arith, delay.1), near_action (deed_of a) h.1.action n h.1.entity, short_accept answer h.2), n)
is_told (PhaseOpen n) h = (omega (arith, h), tt)
is_told (Begin worker region) h = ((omega (arith, h.0), omega (arith, h.1)), tt)
is_told (End worker region tick ran accepts) h = ((omega (arith, h.small_worker), omega (arith, h.wide_region), omega (arith, h.wide_tick), short_rans ran h.each_ran, short_accepts accepts h.each_answer), tt)
is_told PhaseClose h = (tt, tt)
is_told Finish h = (tt, tt)
is_told (Stop caller) h = (omega (arith, h), tt)
