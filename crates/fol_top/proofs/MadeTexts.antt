-- The made texts are the texts of a world and of a script.
use Rattle.std.proofs.Common.{◌≡◌, ℕ, ◌≤◌, refl, ◌∙◌, ap, subst, inr, List, [], ◌∷◌, ◌++◌, map, flat_map, false, arith}
use Rattle.std.specs.Prelude.{Some}
use Rattle.std.specs.List.{list_any}
use Rattle.std.specs.Ordering.{nat_cmp}
use Rattle.std.specs.Fmt.{digits}
use Rattle.std.proofs.lemmas.List.Folds.{list_any-append}
use Rattle.fol_model.specs.declared.openings.Opening.{Opening}
use Rattle.fol_model.specs.declared.scripts.Command.{Command}
use Rattle.fol_model.specs.declared.words.TextKind.TheVariants as kinds
use Rattle.fol_model.specs.declared.causes.Cause.{Cause}
use Rattle.fol_model.specs.LineWords.{line}
use Rattle.fol_model.specs.OpeningParts.{IsOpening}
use Rattle.fol_model.specs.TextCauses.{first_bad}
use Rattle.fol_model.specs.TextRows.{row_words}
use Rattle.fol_model.specs.Texts.{IsScriptText, IsWorldText, command_row, script_kind}
use Rattle.fol_model.specs.Universe.{block_cmp, numbers_below}
use Rattle.fol_text_laws.specs.Laws.{is_repeat}
use Rattle.fol_text_laws.specs.Printed as printed
use Rattle.fol_text_laws.proofs.Sorting.{sorted_none}
use Rattle.fol_text_laws.proofs.WorldLaws.{world_printed}
use Rattle.fol_text_laws.proofs.ScriptLaws.{script_printed}
use Rattle.fol_gen.specs.MadeScript.{cluster_commands, made_commands, phase, post_command, unload_command}
use Rattle.fol_gen.specs.MadeTexts.{script_text, world_text}
use Rattle.fol_gen.proofs.MadeLines.{spells_a_script}
use Rattle.fol_top.proofs.GoodTexts.{no_bad_script, no_bad_world}

-- ---- the world

abbrev made_opening : Opening
made_opening = record { version = 1; grid = record { shift = 0; create = 1; merge = 1; min = 2; num = 1; den = 6 }; blocks = []; entities = [] }

opening_is_sound : IsOpening made_opening
opening_is_sound = record {
  version_low = omega arith;
  version_high = omega arith;
  grid = record {
    shift = omega arith;
    create_low = omega arith;
    create_high = omega arith;
    merge_low = omega arith;
    merge_high = omega arith;
    min_low = omega arith;
    min_high = omega arith;
    num = omega arith;
    den_low = omega arith;
    den_high = omega arith;
  };
  each_block = refl;
  each_entity = refl;
  block_order = sorted_none block_cmp;
  entity_order = sorted_none nat_cmp;
}

world_is_printed : printed.world_text made_opening ≡ world_text
unfolding printed.world_text digits
world_is_printed = refl

made_world : IsWorldText world_text made_opening
made_world = subst (λ (bytes : List ℕ). IsWorldText bytes made_opening) world_is_printed (world_printed made_opening opening_is_sound)

-- ---- the script

-- the lines of rows, each with its end
lines_printed : (cs : List Command) → flat_map line (map (λ c. row_words (command_row c)) cs) ≡ printed.rows_text (map command_row cs)
lines_printed [] = refl
lines_printed (c ∷ cs) = let e = lines_printed cs in rw e refl

script_is_printed : (n : ℕ) → n ≤ 500 → script_text n ≡ printed.script_text (made_commands n)
unfolding printed.script_text
script_is_printed n few = ap (flat_map line) (spells_a_script n few).lines ∙ lines_printed (made_commands n)

abbrev none_repeats : List Command → Type 0
none_repeats cs = list_any is_repeat cs ≡ false

none_in_both : (cs ds : List Command) → none_repeats cs → none_repeats ds → none_repeats (cs ++ ds)
none_in_both cs ds a b = rw (list_any-append is_repeat cs ds, a) b

none_in_map : (f : ℕ → Command) → ((i : ℕ) → is_repeat (f i) ≡ false) → (is : List ℕ) → none_repeats (map f is)
none_in_map f each [] = refl
none_in_map f each (i ∷ is) = let e = each i in let k = none_in_map f each is in rw (e, k) refl

none_in_clusters : (is : List ℕ) → none_repeats (flat_map cluster_commands is)
none_in_clusters [] = refl
none_in_clusters (i ∷ is) = none_in_both (cluster_commands i) (flat_map cluster_commands is) (none_in_map (post_command i) (λ j. refl) (numbers_below 4)) (none_in_clusters is)

none_made : (n : ℕ) → none_repeats (made_commands n)
none_made n =
    let clusters = flat_map cluster_commands (numbers_below n) in
    let unloads = map unload_command (numbers_below n) in
    let one = none_in_both clusters (phase 5) (none_in_clusters (numbers_below n)) refl in
    let two = none_in_both (clusters ++ phase 5) unloads one (none_in_map unload_command (λ i. refl) (numbers_below n)) in
    none_in_both ((clusters ++ phase 5) ++ unloads) (phase 2) two refl

made_script : (n : ℕ) → n ≤ 500 → IsScriptText 1 (script_text n) (made_commands n)
made_script n few =
    rw (script_is_printed n few) (script_printed 1 (made_commands n) (inr (none_made n)) (spells_a_script n few).script)

-- ---- no line of them is bad

pub made_world_is_good : (line : ℕ) (why : Cause) → first_bad kinds.World world_text ≡ Some (line, why) → ⊥
made_world_is_good line why bad = no_bad_world world_text made_opening line why made_world bad

pub made_script_is_good : (n line : ℕ) (why : Cause) → n ≤ 500 → first_bad (script_kind 1) (script_text n) ≡ Some (line, why) → ⊥
made_script_is_good n line why few bad = no_bad_script 1 (script_text n) (made_commands n) line why (made_script n few) bad
