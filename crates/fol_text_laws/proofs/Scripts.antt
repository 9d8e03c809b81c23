-- The rows of a script are those of commands that make a script, and the other way round.
use Rattle.std.proofs.Common.{◌≡◌, ℕ, ◌+◌, ◌≤◌, Bool, true, false, cond, not, ◌⊎◌, inl, inr, List, [], ◌∷◌, ◌++◌, map, refl, sym, ap, subst, ◌∙◌, arith, nat_lt}
use Rattle.std.specs.List.{list_all, list_any, sum_by}
use Rattle.std.proofs.lemmas.Bool.{and_parts, and_from, or_parts, or_from, le-ltb, lt-ltb, ltb-false}
use Rattle.std.proofs.lemmas.List.Sums.{sum_by_push, sum_by-cons}
use Rattle.fol_model.specs.declared.words.Keyword.{Keyword}
use Rattle.fol_model.specs.declared.words.Keyword.TheVariants as keys
use Rattle.fol_model.specs.declared.words.TextKind.{TextKind}
use Rattle.fol_model.specs.declared.words.TextKind.TheVariants as kinds
use Rattle.fol_model.specs.declared.scripts.Command.{Command}
use Rattle.fol_model.specs.declared.scripts.Command.TheVariants as command
use Rattle.fol_model.specs.IsScript.{IsScript, is_command, alternates, ticks_of, count_of}
use Rattle.fol_model.specs.TextCauses.{Row, is_running, is_key, ticks, times, count_key, is_too_much, is_twice, is_out_of_order, is_whole}
use Rattle.fol_model.specs.TextRows.{Follow}
use Rattle.fol_model.specs.Texts.{command_row, script_kind}
use Rattle.fol_text_laws.specs.Laws.{is_repeat}
use Rattle.fol_text_laws.specs.RowValues.{command_from}
use Rattle.fol_text_laws.proofs.Commands.{IsScriptKind, version_kind, row_command, command_again, command_is_row}

-- ---- what the rows before a row come to

-- the runs without their end: one while a run is open
pub record IsOpenRun (rows : List Row) (open_run : Bool) : Type 0 where
  pub runs : count_key keys.Run rows ≡ count_key keys.End rows + cond open_run 1 0

running_at : (e r : ℕ) (b : Bool) → r ≡ e + cond b 1 0 → nat_lt e r ≡ b
running_at e r true h = lt-ltb _ _ (omega arith)
running_at e r false h = le-ltb _ _ (omega arith)

pub running_is : (rows : List Row) (b : Bool) → IsOpenRun rows b → is_running rows ≡ b
running_is rows b s = running_at (count_key keys.End rows) (count_key keys.Run rows) b s.runs

more_key : (key : Keyword) (rows : List Row) (row : Row) → count_key key (rows ++ row ∷ []) ≡ count_key key rows + cond (is_key key row.key) 1 0
more_key key rows row = sum_by_push (λ r. cond (is_key key r.key) 1 0) rows row

abbrev pub misplaced : Bool → Keyword → Bool
misplaced running key = cond running (is_key keys.Run key) (is_key keys.End key)

-- whether a run is open behind this word
abbrev pub open_after : Bool → Keyword → Bool
open_after b keys.Run = true
open_after b keys.End = false
open_after b _ = b

kept_open : (rows : List Row) (row : Row) (b : Bool) → is_key keys.Run row.key ≡ false → is_key keys.End row.key ≡ false → IsOpenRun rows b → IsOpenRun (rows ++ row ∷ []) b
kept_open rows row b r e s = record {
  runs =
      let x = rw r at (more_key keys.Run rows row) in
      let y = rw e at (more_key keys.End rows row) in
      omega (arith, x, y, s.runs);
}

opened : (rows : List Row) (row : Row) → is_key keys.Run row.key ≡ true → is_key keys.End row.key ≡ false → IsOpenRun rows false → IsOpenRun (rows ++ row ∷ []) true
opened rows row r e s = record {
  runs =
      let x = rw r at (more_key keys.Run rows row) in
      let y = rw e at (more_key keys.End rows row) in
      omega (arith, x, y, s.runs);
}

closed : (rows : List Row) (row : Row) → is_key keys.Run row.key ≡ false → is_key keys.End row.key ≡ true → IsOpenRun rows true → IsOpenRun (rows ++ row ∷ []) false
closed rows row r e s = record {
  runs =
      let x = rw r at (more_key keys.Run rows row) in
      let y = rw e at (more_key keys.End rows row) in
      omega (arith, x, y, s.runs);
}

order_is : (kind : TextKind) (rows : List Row) (row : Row) (b : Bool) → IsScriptKind kind → IsOpenRun rows b → is_out_of_order kind rows row ≡ misplaced b row.key
order_is kinds.World rows row b k s = absurd k
order_is kinds.ScriptOne rows row b k s = ap (λ (x : Bool). misplaced x row.key) (running_is rows b s)
order_is kinds.ScriptTwo rows row b k s = ap (λ (x : Bool). misplaced x row.key) (running_is rows b s)

whole_is : (kind : TextKind) (rows : List Row) (b : Bool) → IsScriptKind kind → IsOpenRun rows b → is_whole kind rows ≡ not b
whole_is kinds.World rows b k s = absurd k
whole_is kinds.ScriptOne rows b k s = ap not (running_is rows b s)
whole_is kinds.ScriptTwo rows b k s = ap not (running_is rows b s)

-- a command in its order, after which it is open or not
after_command : (rows : List Row) (c : Command) (b : Bool) → IsOpenRun rows b → misplaced b (command_row c).key ≡ false → IsOpenRun (rows ++ command_row c ∷ []) (open_after b (command_row c).key)
after_command rows (command.Load c) b s h = kept_open rows (command_row (command.Load c)) b refl refl s
after_command rows (command.Unload c) b s h = kept_open rows (command_row (command.Unload c)) b refl refl s
after_command rows (command.Post c d a) b s h = kept_open rows (command_row (command.Post c d a)) b refl refl s
after_command rows (command.Every c d p n a) b s h = kept_open rows (command_row (command.Every c d p n a)) b refl refl s
after_command rows (command.Run n) true s h = absurd (let k = h in cc)
after_command rows (command.Run n) false s h = opened rows (command_row (command.Run n)) refl refl s
after_command rows command.End true s h = closed rows (command_row command.End) refl refl s
after_command rows command.End false s h = absurd (let k = h in cc)

alternate_more : (c : Command) (cs : List Command) (b : Bool) → misplaced b (command_row c).key ≡ false → alternates (open_after b (command_row c).key) cs ≡ true → alternates b (c ∷ cs) ≡ true
alternate_more (command.Load c) cs b h e = e
alternate_more (command.Unload c) cs b h e = e
alternate_more (command.Post c d a) cs b h e = e
alternate_more (command.Every c d p n a) cs b h e = e
alternate_more (command.Run n) cs true h e = absurd (let k = h in cc)
alternate_more (command.Run n) cs false h e = e
alternate_more command.End cs true h e = e
alternate_more command.End cs false h e = absurd (let k = h in cc)

alternate_first : (c : Command) (cs : List Command) (b : Bool) → alternates b (c ∷ cs) ≡ true → (misplaced b (command_row c).key ≡ false) × (alternates (open_after b (command_row c).key) cs ≡ true)
alternate_first (command.Load c) cs true e = (refl, e)
alternate_first (command.Load c) cs false e = (refl, e)
alternate_first (command.Unload c) cs true e = (refl, e)
alternate_first (command.Unload c) cs false e = (refl, e)
alternate_first (command.Post c d a) cs true e = (refl, e)
alternate_first (command.Post c d a) cs false e = (refl, e)
alternate_first (command.Every c d p n a) cs true e = (refl, e)
alternate_first (command.Every c d p n a) cs false e = (refl, e)
alternate_first (command.Run n) cs true e = absurd (let k = e in cc)
alternate_first (command.Run n) cs false e = (refl, e)
alternate_first command.End cs true e = (refl, e)
alternate_first command.End cs false e = absurd (let k = e in cc)

-- ---- the sums

ticks_is : (c : Command) → ticks (command_row c) ≡ ticks_of c
ticks_is (command.Load c) = refl
ticks_is (command.Unload c) = refl
ticks_is (command.Post c d a) = refl
ticks_is (command.Every c d p n a) = refl
ticks_is (command.Run n) = refl
ticks_is command.End = refl

times_is : (c : Command) → times (command_row c) ≡ count_of c
times_is (command.Load c) = refl
times_is (command.Unload c) = refl
times_is (command.Post c d a) = refl
times_is (command.Every c d p n a) = refl
times_is (command.Run n) = refl
times_is command.End = refl

-- the sums so far, and those of the commands to come
pub record Sums (rows : List Row) (cs : List Command) : Type 0 where
  pub ticks : sum_by ticks rows + sum_by ticks_of cs ≤ 10000
  pub times : sum_by times rows + sum_by count_of cs ≤ 1000000

fewer : (rows : List Row) (c : Command) (cs : List Command) → Sums rows (c ∷ cs) → Sums (rows ++ command_row c ∷ []) cs
fewer rows c cs s = record {
  ticks = omega (arith, s.ticks, sum_by_push ticks rows (command_row c), sum_by-cons ticks_of c cs, ticks_is c);
  times = omega (arith, s.times, sum_by_push times rows (command_row c), sum_by-cons count_of c cs, times_is c);
}

back : (rows : List Row) (c : Command) (cs : List Command) → Sums (rows ++ command_row c ∷ []) cs → Sums rows (c ∷ cs)
back rows c cs s = record {
  ticks = omega (arith, s.ticks, sum_by_push ticks rows (command_row c), sum_by-cons ticks_of c cs, ticks_is c);
  times = omega (arith, s.times, sum_by_push times rows (command_row c), sum_by-cons count_of c cs, times_is c);
}

not_too_much : (rows : List Row) (c : Command) (cs : List Command) → Sums rows (c ∷ cs) → is_too_much rows (command_row c) ≡ false
not_too_much rows (command.Load c) cs s = refl
not_too_much rows (command.Unload c) cs s = refl
not_too_much rows (command.Post c d a) cs s = refl
not_too_much rows (command.Every c d p n a) cs s = le-ltb _ _ (omega (arith, s.times, sum_by-cons count_of (command.Every c d p n a) cs))
not_too_much rows (command.Run n) cs s = or_from _ _ (le-ltb _ _ (omega (arith, s.ticks, sum_by-cons ticks_of (command.Run n) cs))) refl
not_too_much rows command.End cs s = refl

-- no row of a script stands twice
once : (rows : List Row) (c : Command) → is_twice rows (command_row c) ≡ false
once rows (command.Load c) = refl
once rows (command.Unload c) = refl
once rows (command.Post c d a) = refl
once rows (command.Every c d p n a) = refl
once rows (command.Run n) = refl
once rows command.End = refl

-- ---- a script's rows may follow

one_speaks : (version : ℕ) (c : Command) (cs : List Command) → (version ≡ 2) ⊎ (list_any is_repeat (c ∷ cs) ≡ false) → (version ≡ 2) ⊎ (is_repeat c ≡ false)
one_speaks version c cs (inl e) = inl e
one_speaks version c cs (inr e) = inr (or_parts (is_repeat c) (list_any is_repeat cs) e).0

more_speak : (version : ℕ) (c : Command) (cs : List Command) → (version ≡ 2) ⊎ (list_any is_repeat (c ∷ cs) ≡ false) → (version ≡ 2) ⊎ (list_any is_repeat cs ≡ false)
more_speak version c cs (inl e) = inl e
more_speak version c cs (inr e) = inr (or_parts (is_repeat c) (list_any is_repeat cs) e).1

command_follow : (version : ℕ) (rows : List Row) (cs : List Command) (b : Bool) → IsOpenRun rows b → (version ≡ 2) ⊎ (list_any is_repeat cs ≡ false) → list_all is_command cs ≡ true → alternates b cs ≡ true → Sums rows cs → Follow (script_kind version) rows (map command_row cs)
command_follow version rows [] b s speaks each runs sums = whole_is (script_kind version) rows b (version_kind version) s ∙ runs
command_follow version rows (c ∷ cs) b s speaks each runs sums =
    let e = and_parts (is_command c) (list_all is_command cs) each in
    let a = alternate_first c cs b runs in (
      command_is_row version c (one_speaks version c cs speaks) e.0,
      order_is (script_kind version) rows (command_row c) b (version_kind version) s ∙ a.0,
      once rows c,
      not_too_much rows c cs sums,
      command_follow version (rows ++ command_row c ∷ []) cs (open_after b (command_row c).key) (after_command rows c b s a.0) (more_speak version c cs speaks) e.1 a.1 (fewer rows c cs sums),
    )

no_rows : IsOpenRun [] false
no_rows = record { runs = refl }

pub script_follows : (version : ℕ) (cs : List Command) → (version ≡ 2) ⊎ (list_any is_repeat cs ≡ false) → IsScript cs → Follow (script_kind version) [] (map command_row cs)
script_follows version cs speaks is =
    command_follow version [] cs false no_rows speaks is.each is.runs (record { ticks = omega (arith, is.ticks); times = omega (arith, is.counts) })

-- ---- rows that may follow are those of a script

-- the sums of these rows
record Few (rows : List Row) : Type 0 where
  ticks : sum_by ticks rows ≤ 10000
  times : sum_by times rows ≤ 1000000

few_more : (rows : List Row) (c : Command) → Few rows → is_too_much rows (command_row c) ≡ false → Few (rows ++ command_row c ∷ [])
few_more rows (command.Load c) f h = record { ticks = omega (arith, f.ticks, sum_by_push ticks rows (command_row (command.Load c))); times = omega (arith, f.times, sum_by_push times rows (command_row (command.Load c))) }
few_more rows (command.Unload c) f h = record { ticks = omega (arith, f.ticks, sum_by_push ticks rows (command_row (command.Unload c))); times = omega (arith, f.times, sum_by_push times rows (command_row (command.Unload c))) }
few_more rows (command.Post c d a) f h = record { ticks = omega (arith, f.ticks, sum_by_push ticks rows (command_row (command.Post c d a))); times = omega (arith, f.times, sum_by_push times rows (command_row (command.Post c d a))) }
few_more rows command.End f h = record { ticks = omega (arith, f.ticks, sum_by_push ticks rows (command_row command.End)); times = omega (arith, f.times, sum_by_push times rows (command_row command.End)) }
few_more rows (command.Every c d p n a) f h = record {
  ticks = omega (arith, f.ticks, sum_by_push ticks rows (command_row (command.Every c d p n a)));
  times = omega (arith, sum_by_push times rows (command_row (command.Every c d p n a)), ltb-false 1000000 (sum_by times rows + n) h);
}
few_more rows (command.Run n) f h = record {
  ticks = omega (arith, sum_by_push ticks rows (command_row (command.Run n)), ltb-false 10000 (sum_by ticks rows + n) (or_parts (nat_lt 10000 (sum_by ticks rows + n)) false h).0);
  times = omega (arith, f.times, sum_by_push times rows (command_row (command.Run n)));
}

-- commands with these rows, which may stand behind those rows
pub record CommandsOf (before : List Row) (open_run : Bool) (rs : List Row) : Type 0 where
  pub commands : List Command
  pub rows : map command_row commands ≡ rs
  pub each : list_all is_command commands ≡ true
  pub runs : alternates open_run commands ≡ true
  pub sums : Sums before commands

no_more : (rows : List Row) (b : Bool) → Few rows → not b ≡ true → CommandsOf rows b []
no_more rows b few e = record { commands = []; rows = refl; each = refl; runs = e; sums = record { ticks = omega (arith, few.ticks); times = omega (arith, few.times) } }

one_command_more : (rows : List Row) (b : Bool) (c : Command) (r : Row) (rs : List Row) → command_row c ≡ r → is_command c ≡ true → misplaced b (command_row c).key ≡ false → CommandsOf (rows ++ command_row c ∷ []) (open_after b (command_row c).key) rs → CommandsOf rows b (r ∷ rs)
one_command_more rows b c r rs e within order later = record {
  commands = c ∷ later.commands;
  rows = ap (λ (q : Row). q ∷ map command_row later.commands) e ∙ ap (λ (qs : List Row). r ∷ qs) later.rows;
  each = and_from (is_command c) (list_all is_command later.commands) within later.each;
  runs = alternate_more c later.commands b order later.runs;
  sums = back rows c later.commands later.sums;
}

follow_commands : (kind : TextKind) (rows rs : List Row) (b : Bool) → IsScriptKind kind → IsOpenRun rows b → Few rows → Follow kind rows rs → CommandsOf rows b rs
follow_commands kind rows [] b k s few f = no_more rows b few (sym (whole_is kind rows b k s) ∙ f)
follow_commands kind rows (r ∷ rs) b k s few f =
    let c = row_command kind r k f.0 in
    let o : misplaced b (command_row c.command).key ≡ false = sym (order_is kind rows (command_row c.command) b k s) ∙ ap (λ (q : Row). is_out_of_order kind rows q) c.row ∙ f.1 in
    let few2 = few_more rows c.command few (ap (λ (q : Row). is_too_much rows q) c.row ∙ f.3) in
    let next = subst (λ (q : Row). Follow kind (rows ++ q ∷ []) rs) (sym c.row) f.4 in
    one_command_more rows b c.command r rs c.row c.within o
    (follow_commands kind (rows ++ command_row c.command ∷ []) rs (open_after b (command_row c.command).key) k (after_command rows c.command b s o) few2 next)

pub commands_of : (kind : TextKind) (rs : List Row) → IsScriptKind kind → Follow kind [] rs → CommandsOf [] false rs
commands_of kind rs k f = follow_commands kind [] rs false k no_rows (record { ticks = omega arith; times = omega arith }) f

-- the rows of commands are those of no others
pub commands_again : (kind : TextKind) (before : List Row) (cs : List Command) → IsScriptKind kind → Follow kind before (map command_row cs) → map command_from (map command_row cs) ≡ cs
commands_again kind before [] k f = refl
commands_again kind before (c ∷ cs) k f =
    ap (λ (d : Command). d ∷ map command_from (map command_row cs)) (command_again kind c k f.0) ∙ ap (λ (ds : List Command). c ∷ ds) (commands_again kind (before ++ command_row c ∷ []) cs k f.4)

pub script_of : (kind : TextKind) (cs : List Command) → IsScriptKind kind → Follow kind [] (map command_row cs) → IsScript cs
script_of kind cs k f =
    let d = commands_of kind (map command_row cs) k f in
    let e : d.commands ≡ cs =
    sym (commands_again kind [] d.commands k (subst (Follow kind []) (sym d.rows) f)) ∙ ap (map command_from) d.rows ∙ commands_again kind [] cs k f in
    subst IsScript e (record {
      each = d.each;
      runs = d.runs;
      ticks = omega (arith, d.sums.ticks);
      counts = omega (arith, d.sums.times);
    })
