-- The made lines spell the made commands, which make a script.
use Rattle.std.proofs.Common.{◌≡◌, ℕ, zero, suc, ◌+◌, ◌*◌, ◌%◌, ◌/◌, ◌<◌, ◌≤◌, refl, ap, ◌∙◌, true, false, List, [], ◌∷◌, ◌++◌, map, flat_map, arith, append_assoc}
use Rattle.std.specs.Prelude.{pos, nat_le, sum_by}
use Rattle.std.specs.List.{list_all}
use Rattle.std.specs.Fmt.{digits}
use Rattle.std.proofs.lemmas.List.{map-append}
use Rattle.std.proofs.lemmas.List.Concat.{flat_map-append}
use Rattle.std.proofs.lemmas.List.Folds.{list_all-append}
use Rattle.std.proofs.lemmas.List.Sums.{sum_by-append}
use Rattle.std.proofs.lemmas.Bool.Decides.{nat_tests}
use Rattle.fol_model.specs.declared.scripts.Command.{Command}
use Rattle.fol_model.specs.declared.scripts.Command.TheVariants as command
use Rattle.fol_model.specs.LineWords.{Word}
use Rattle.fol_model.specs.Geometry.{is_chunk, is_block, chunk_of}
use Rattle.fol_model.specs.Limits.{is_delay, is_count}
use Rattle.fol_model.specs.Universe.{numbers_below}
use Rattle.fol_model.specs.IsScript.{is_command, alternates, ticks_of, count_of}
use Rattle.fol_model.specs.TextRows.{row_words}
use Rattle.fol_model.specs.Texts.{command_row}
use Rattle.fol_gen.specs.MadeTexts.{post_line, cluster_lines, unload_line, run_lines, script_lines}
use Rattle.fol_gen.specs.MadeScript.{chunk_at, post_command, cluster_commands, unload_command, phase, made_commands, SpellsAScript}

-- what follows the clusters
abbrev later : ℕ → List Command
later n = phase 5 ++ (map unload_command (numbers_below n) ++ phase 2)

-- the clusters, and what follows them
made_in_two : (n : ℕ) → made_commands n ≡ flat_map cluster_commands (numbers_below n) ++ later n
made_in_two n =
    append_assoc (flat_map cluster_commands (numbers_below n) ++ phase 5) (map unload_command (numbers_below n)) (phase 2)
    ∙ append_assoc (flat_map cluster_commands (numbers_below n)) (phase 5) (map unload_command (numbers_below n) ++ phase 2)

-- ---- the lines

abbrev words_of : Command → List Word
words_of c = row_words (command_row c)

map_flat : (f : ℕ → List (List Word)) (h : ℕ → List Command) → ((i : ℕ) → f i ≡ map words_of (h i)) → (is : List ℕ) → flat_map f is ≡ map words_of (flat_map h is)
map_flat f h e [] = refl
map_flat f h e (i ∷ is) = let d = e i in let k = map_flat f h e is in rw (map-append words_of (h i) (flat_map h is), d, k) refl

map_map : (f : ℕ → List Word) (h : ℕ → Command) → ((i : ℕ) → f i ≡ words_of (h i)) → (is : List ℕ) → map f is ≡ map words_of (map h is)
map_map f h e [] = refl
map_map f h e (i ∷ is) = let d = e i in let k = map_map f h e is in rw (d, k) refl

post_spelled : (i j : ℕ) → post_line i j ≡ words_of (post_command i j)
unfolding digits
post_spelled i j = refl

cluster_spelled : (i : ℕ) → cluster_lines i ≡ map words_of (cluster_commands i)
unfolding digits numbers_below
cluster_spelled i = refl

unload_spelled : (i : ℕ) → unload_line i ≡ words_of (unload_command i)
unfolding digits
unload_spelled i = refl

phase_spelled : (ticks : ℕ) → run_lines ticks ≡ map words_of (command.Run ticks ∷ command.End ∷ [])
phase_spelled ticks = refl

pub made_lines : (n : ℕ) → script_lines n ≡ map words_of (made_commands n)
made_lines n =
    let a = map_flat cluster_lines cluster_commands cluster_spelled (numbers_below n) in
    let u = map_map unload_line unload_command unload_spelled (numbers_below n) in
    let k = map-append words_of (flat_map cluster_commands (numbers_below n) ++ phase 5 ++ map unload_command (numbers_below n)) (phase 2) in
    let l = map-append words_of (flat_map cluster_commands (numbers_below n) ++ phase 5) (map unload_command (numbers_below n)) in
    let m = map-append words_of (flat_map cluster_commands (numbers_below n)) (phase 5) in
    rw (a, u, k, l, m) refl

-- ---- the commands

chunk_fits : (x : ℕ) → x ≤ 1000000 → is_chunk (chunk_at x) ≡ true
unfolding is_chunk
chunk_fits x h = grind (arith, nat_tests)

block_fits : (x : ℕ) → x ≤ 16000000 → is_block (record { x = pos x; y = pos 64; z = pos 0 }) ≡ true
unfolding is_block chunk_of
block_fits x h = let k : x / 16 ≤ 1000000 = omega arith in let e = chunk_fits (x / 16) k in rw e refl

delay_fits : (d : ℕ) → 1 ≤ d → d ≤ 1000000 → is_delay d ≡ true
unfolding is_delay
delay_fits d l h = grind (arith, nat_tests)

id_fits : (n : ℕ) → nat_le (1 + n % 60000) 65535 ≡ true
id_fits n = let l : n % 60000 < 60000 = omega arith in grind (arith, nat_tests)

post_fits : (i j : ℕ) → i < 500 → j < 4 → is_command (post_command i j) ≡ true
post_fits i j hi hj =
    let c = chunk_fits (12 * i) (omega arith) in
    let d = delay_fits (j + 1) (omega arith) (omega arith) in
    let b = block_fits (192 * i + j) (omega arith) in
    let k = id_fits (4 * i + j) in
    rw (c, d, b, k) refl

all_both : (xs ys : List Command) → list_all is_command xs ≡ true → list_all is_command ys ≡ true → list_all is_command (xs ++ ys) ≡ true
all_both xs ys a b = rw (list_all-append is_command xs ys, a, b) refl

posts_fit : (i m : ℕ) → i < 500 → m ≤ 4 → list_all is_command (map (post_command i) (numbers_below m)) ≡ true
unfolding numbers_below
posts_fit i zero h l = refl
posts_fit i (suc m) h l =
    let p = post_fits i m h (omega arith) in
    rw (map-append (post_command i) (numbers_below m) (m ∷ [])) (all_both (map (post_command i) (numbers_below m)) (post_command i m ∷ []) (posts_fit i m h (omega arith)) (rw p refl))

cluster_fits : (i : ℕ) → i < 500 → list_all is_command (cluster_commands i) ≡ true
cluster_fits i h =
    let a = chunk_fits (12 * i) (omega arith) in
    let b = chunk_fits (12 * i + 3) (omega arith) in
    let c = chunk_fits (12 * i + 6) (omega arith) in
    rw (a, b, c) (posts_fit i 4 h (omega arith))

clusters_fit : (n : ℕ) → n ≤ 500 → list_all is_command (flat_map cluster_commands (numbers_below n)) ≡ true
unfolding numbers_below
clusters_fit zero h = refl
clusters_fit (suc n) h =
    let c = cluster_fits n (omega arith) in
    rw (flat_map-append cluster_commands (numbers_below n) (n ∷ [])) (all_both (flat_map cluster_commands (numbers_below n)) (cluster_commands n ++ []) (clusters_fit n (omega arith)) (all_both (cluster_commands n) [] c refl))

unloads_fit : (n : ℕ) → n ≤ 500 → list_all is_command (map unload_command (numbers_below n)) ≡ true
unfolding numbers_below
unloads_fit zero h = refl
unloads_fit (suc n) h =
    let c = chunk_fits (12 * n + 3) (omega arith) in
    rw (map-append unload_command (numbers_below n) (n ∷ [])) (all_both (map unload_command (numbers_below n)) (unload_command n ∷ []) (unloads_fit n (omega arith)) (rw c refl))

count_fits : (n : ℕ) → 1 ≤ n → n ≤ 10000 → is_count n ≡ true
unfolding is_count
count_fits n l h = grind (arith, nat_tests)

commands_fit : (n : ℕ) → n ≤ 500 → list_all is_command (made_commands n) ≡ true
commands_fit n h =
    let five = count_fits 5 (omega arith) (omega arith) in
    let two = count_fits 2 (omega arith) (omega arith) in
    let t : list_all is_command (phase 2) ≡ true = rw two refl in
    let f : list_all is_command (phase 5) ≡ true = rw five refl in
    let r = all_both (map unload_command (numbers_below n)) (phase 2) (unloads_fit n h) t in
    ap (λ cs. list_all is_command cs) (made_in_two n) ∙ all_both (flat_map cluster_commands (numbers_below n)) (later n) (clusters_fit n h) (all_both (phase 5) (map unload_command (numbers_below n) ++ phase 2) f r)

-- ---- runs and ends

after_clusters : (n : ℕ) (rest : List Command) → alternates false (flat_map cluster_commands (numbers_below n) ++ rest) ≡ alternates false rest
unfolding numbers_below
after_clusters zero rest = refl
after_clusters (suc n) rest =
    rw (flat_map-append cluster_commands (numbers_below n) (n ∷ []), append_assoc (flat_map cluster_commands (numbers_below n)) (cluster_commands n ++ []) rest)
    (after_clusters n ((cluster_commands n ++ []) ++ rest))

after_unloads : (is : List ℕ) (rest : List Command) → alternates false (map unload_command is ++ rest) ≡ alternates false rest
after_unloads [] rest = refl
after_unloads (i ∷ is) rest = after_unloads is rest

runs_alternate : (n : ℕ) → alternates false (made_commands n) ≡ true
runs_alternate n = ap (λ cs. alternates false cs) (made_in_two n) ∙ after_clusters n (later n) ∙ after_unloads (numbers_below n) (phase 2)

-- ---- sums

module _ (f : Command → ℕ) where
  no_sum : (h : ℕ → List Command) → ((i : ℕ) → sum_by f (h i) ≡ 0) → (is : List ℕ) → sum_by f (flat_map h is) ≡ 0
  no_sum h e [] = refl
  no_sum h e (i ∷ is) = let d = e i in let k = no_sum h e is in rw (sum_by-append f (h i) (flat_map h is), d, k) refl

  none_each : (h : ℕ → Command) → ((i : ℕ) → sum_by f (h i ∷ []) ≡ 0) → (is : List ℕ) → sum_by f (map h is) ≡ 0
  none_each h e [] = refl
  none_each h e (i ∷ is) = let d = e i in let k = none_each h e is in sum_by-append f (h i ∷ []) (map h is) ∙ (rw (d, k) refl)

cluster_ticks : (i : ℕ) → sum_by ticks_of (cluster_commands i) ≡ 0
unfolding numbers_below
cluster_ticks i = refl

cluster_counts : (i : ℕ) → sum_by count_of (cluster_commands i) ≡ 0
unfolding numbers_below
cluster_counts i = refl

made_ticks : (n : ℕ) → sum_by ticks_of (made_commands n) ≡ 7
made_ticks n =
    let a = no_sum ticks_of cluster_commands cluster_ticks (numbers_below n) in
    let b = none_each ticks_of unload_command (λ i. refl) (numbers_below n) in
    let k = sum_by-append ticks_of (flat_map cluster_commands (numbers_below n)) (later n) in
    let l = sum_by-append ticks_of (phase 5) (map unload_command (numbers_below n) ++ phase 2) in
    let m = sum_by-append ticks_of (map unload_command (numbers_below n)) (phase 2) in
    ap (λ cs. sum_by ticks_of cs) (made_in_two n) ∙ k ∙ (rw (a, l, m, b) refl)

made_counts : (n : ℕ) → sum_by count_of (made_commands n) ≡ 0
made_counts n =
    let a = no_sum count_of cluster_commands cluster_counts (numbers_below n) in
    let b = none_each count_of unload_command (λ i. refl) (numbers_below n) in
    let k = sum_by-append count_of (flat_map cluster_commands (numbers_below n)) (later n) in
    let l = sum_by-append count_of (phase 5) (map unload_command (numbers_below n) ++ phase 2) in
    let m = sum_by-append count_of (map unload_command (numbers_below n)) (phase 2) in
    ap (λ cs. sum_by count_of cs) (made_in_two n) ∙ k ∙ (rw (a, l, m, b) refl)

-- ---- all of it

pub spells_a_script : (n : ℕ) → n ≤ 500 → SpellsAScript n
spells_a_script n h = record {
  lines = made_lines n;
  script = record {
    each = commands_fit n h;
    runs = runs_alternate n;
    ticks = omega (arith, made_ticks n);
    counts = omega (arith, made_counts n);
  };
}
