-- The limits that a command's numbers and action keep.
use Rattle.std.proofs.Common.{◌≡◌, ℕ, ◌<◌, ◌^◌, true, ◌&&◌, List, drop, sym, ap, subst, ◌∙◌, arith}
use Rattle.std.proofs.lemmas.Bool.{and_parts}
use Rattle.fol_model.specs.declared.words.Cell.{Cell}
use Rattle.fol_model.specs.declared.words.Keyword.{Keyword}
use Rattle.fol_model.specs.declared.words.Keyword.TheVariants as keys
use Rattle.fol_model.specs.declared.actions.Action.{Action}
use Rattle.fol_model.specs.Geometry.{is_chunk}
use Rattle.fol_model.specs.Deed.{Deed}
use Rattle.fol_model.specs.Nesting.{deed_of, action_of}
use Rattle.fol_model.specs.Limits as limit
use Rattle.fol_model.specs.IsScript.{is_command, is_line_action}
use Rattle.fol_text_laws.specs.RowValues.{deed_from, command_of, chunk_in_cells, natural_in, InLine}
use Rattle.fol_text_laws.proofs.Deeds.{deed_back, action_back, action_line, delayed}
use Rattle.fol_text_laws.proofs.Commands.{counted}

pub delay_small : (n : ℕ) → limit.is_delay n ≡ true → n < 2 ^ 32
delay_small n h = let p = delayed n h in omega (arith, p.1)

pub count_small : (n : ℕ) → limit.is_count n ≡ true → n < 2 ^ 32
count_small n h = let p = counted n h in omega (arith, p.1)

pub action_in : (cs : List Cell) → is_line_action (action_of (deed_from cs)) ≡ true → InLine (deed_from cs)
action_in cs h = subst InLine (deed_back (deed_from cs).wraps (deed_from cs).plain) (action_line (action_of (deed_from cs)) h).0

pub action_is : (a : Action) (d : Deed) → deed_of a ≡ d → a ≡ action_of d
action_is a d e = sym (action_back a) ∙ ap action_of e

pub with_key : (key k : Keyword) (cs : List Cell) → key ≡ k → is_command (command_of key cs) ≡ true → is_command (command_of k cs) ≡ true
with_key key k cs e h = subst (λ (q : Keyword). is_command (command_of q cs) ≡ true) e h

pub record PostLine (cs : List Cell) : Type 0 where
  pub chunk : is_chunk (chunk_in_cells 0 cs) ≡ true
  pub delay : natural_in 2 cs < 2 ^ 32
  pub act : InLine (deed_from (drop 3 cs))

pub post_line : (cs : List Cell) → is_command (command_of keys.Post cs) ≡ true → PostLine cs
post_line cs h =
    let a = and_parts (is_chunk (chunk_in_cells 0 cs) && limit.is_delay (natural_in 2 cs)) (is_line_action (action_of (deed_from (drop 3 cs)))) h in
    let b = and_parts (is_chunk (chunk_in_cells 0 cs)) (limit.is_delay (natural_in 2 cs)) a.0 in
    record { chunk = b.0; delay = delay_small (natural_in 2 cs) b.1; act = action_in (drop 3 cs) a.1 }

pub record EveryLine (cs : List Cell) : Type 0 where
  pub chunk : is_chunk (chunk_in_cells 0 cs) ≡ true
  pub delay : natural_in 2 cs < 2 ^ 32
  pub period : natural_in 3 cs < 2 ^ 32
  pub count : natural_in 4 cs < 2 ^ 32
  pub act : InLine (deed_from (drop 5 cs))

pub every_line : (cs : List Cell) → is_command (command_of keys.Every cs) ≡ true → EveryLine cs
every_line cs h =
    let a = and_parts ((is_chunk (chunk_in_cells 0 cs) && limit.is_delay (natural_in 2 cs)) && (limit.is_delay (natural_in 3 cs) && limit.is_count (natural_in 4 cs))) (is_line_action (action_of (deed_from (drop 5 cs)))) h in
    let b = and_parts (is_chunk (chunk_in_cells 0 cs) && limit.is_delay (natural_in 2 cs)) (limit.is_delay (natural_in 3 cs) && limit.is_count (natural_in 4 cs)) a.0 in
    let x = and_parts (is_chunk (chunk_in_cells 0 cs)) (limit.is_delay (natural_in 2 cs)) b.0 in
    let y = and_parts (limit.is_delay (natural_in 3 cs)) (limit.is_count (natural_in 4 cs)) b.1 in
    record { chunk = x.0; delay = delay_small (natural_in 2 cs) x.1; period = delay_small (natural_in 3 cs) y.0; count = count_small (natural_in 4 cs) y.1; act = action_in (drop 5 cs) a.1 }
