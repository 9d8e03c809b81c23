-- Each ending, where the shelf tells the files.
use Rattle.std.proofs.Common.{◌≡◌, ℕ, refl, sym, ◌∙◌, ap, inl, inr, ◌⊎◌, List, [], ◌∷◌}
use Rattle.std.specs.Prelude.{◌≢◌, Option, Some, None}
use Rattle.fol_model.specs.declared.causes.Cause.{Cause}
use Rattle.fol_model.specs.declared.scripts.Command.{Command}
use Rattle.fol_model.specs.declared.words.TextKind.TheVariants as kinds
use Rattle.fol_model.specs.declared.openings.Opening.{Opening}
use Rattle.fol_model.specs.TextCauses.{first_bad}
use Rattle.fol_model.specs.Texts.{IsWorldText, IsScriptText, script_kind}
use Rattle.fol_text_laws.proofs.ScriptLaws.{one_script, script_gives_script}
use Rattle.fol_text_laws.proofs.WorldLaws.{one_opening, world_gives_opening}
use Rattle.fol_check.specs.Verdicts.{Judges}
use Rattle.fol_check.specs.declared.verdicts.Verdict.{Verdict}
use Rattle.fol_check.specs.declared.verdicts.Verdict.TheVariants as verdicts
use Rattle.fol_check.proofs.Judging.{one_verdict}
use Rattle.fol_check.proofs.SameBy.{report_is}
use Rattle.fol_top.specs.Came.{Came}
use Rattle.fol_top.specs.Command.{Request, names_of, request_in}
use Rattle.fol_top.specs.Ending.{plain, status_of}
use Rattle.fol_top.specs.Outcome.{Course, Tells, Told, Yields, verdict_status}
use Rattle.fol_top.specs.Report.{BadScript, BadWorld, IsOutput, IsReport, Judged, Spelled}
use Rattle.fol_top.specs.declared.ending.Ending.{Ending}
use Rattle.fol_top.specs.declared.ending.Ending.TheVariants as endings
use Rattle.fol_top.specs.declared.form.Form.TheVariants as forms
use Rattle.fol_top.proofs.GoodTexts.{no_bad_script, no_bad_world}
use Rattle.fol_top.proofs.NamedFiles.{inputs_same, make_tells_no_files, not_overlong, told_within}
use Rattle.fol_top.proofs.ShortScripts.{script_short}

pub asked_for : (words : List (List ℕ)) (request : Request) → request_in words ≡ Some request → request_in words ≢ None
asked_for words request e none = let never : Some request ≡ None = sym e ∙ none in cc

same_parts : (p q : ℕ × Cause) → Some p ≡ Some q → (p.0 ≡ q.0) × (p.1 ≡ q.1)
same_parts p q e = let y : p ≡ q = cc in (ap (λ (r : ℕ × Cause). r.0) y, ap (λ (r : ℕ × Cause). r.1) y)

same_bad : (a b : Option (ℕ × Cause)) (m n : ℕ) (c d : Cause) → a ≡ b → a ≡ Some (m, c) → b ≡ Some (n, d) → (m ≡ n) × (c ≡ d)
same_bad a b m n c d e p q = same_parts (m, c) (n, d) (sym p ∙ (e ∙ q))

-- ---- the world alone

module _ (v : Course) (world : List ℕ) (others : List (List ℕ)) (told : Told v (world ∷ others)) where
  pub bad_world_is : (line : ℕ) (cause : Option Cause) → BadWorld v.words v.held line cause → (why : Cause) × (cause ≡ Some why) × (first_bad kinds.World world ≡ Some (line, why))
  bad_world_is line cause b =
      let e : b.world_bytes ∷ b.others ≡ world ∷ others = inputs_same v (world ∷ others) told (b.world_bytes ∷ b.others) b.inputs in
      let w : b.world_bytes ≡ world = cc in
      (b.why, b.told, rw w at b.first)

  spelled_world : (more : List (List ℕ)) (o : Opening) (cs : List Command) → Spelled v.words v.held more o cs → IsWorldText world o
  spelled_world more o cs s =
      let e : s.world_bytes ∷ (s.script_bytes ∷ more) ≡ world ∷ others = inputs_same v (world ∷ others) told (s.world_bytes ∷ (s.script_bytes ∷ more)) s.inputs in
      let w : s.world_bytes ≡ world = cc in
      rw w at s.world_text

  output_world : (bytes : List ℕ) → IsOutput v.words v.held bytes → (o : Opening) × IsWorldText world o
  output_world bytes (inl r) = (r.opening, spelled_world [] r.opening r.script r.spelled)
  output_world bytes (inr (inl m)) = absurd (make_tells_no_files v m.clusters m.command world others told)
  output_world bytes (inr (inr c)) = (c.opening, spelled_world (c.report ∷ []) c.opening c.script c.spelled)

  module _ (line : ℕ) (why : Cause) (bad : first_bad kinds.World world ≡ Some (line, why)) where
    not_spelled : (more : List (List ℕ)) (o : Opening) (cs : List Command) → Spelled v.words v.held more o cs → ⊥
    not_spelled more o cs s = no_bad_world world o line why (spelled_world more o cs s) bad

    not_an_output : (bytes : List ℕ) → IsOutput v.words v.held bytes → ⊥
    not_an_output bytes out = let s = output_world bytes out in no_bad_world world s.0 line why s.1 bad

  pub tells_world_of : (e : Ending) → Came v e → (line : ℕ) (why : Cause) → first_bad kinds.World world ≡ Some (line, why) → Tells (status_of e) 3 line why ⊎ Yields (status_of e)
  tells_world_of endings.ReadFault came line why bad = inr (inl refl)
  tells_world_of endings.NoMemory came line why bad = inr (inr refl)
  tells_world_of endings.Words came line why bad = absurd (asked_for v.words told.request told.command came.0)
  tells_world_of (endings.World m cause) came line why bad =
      let b = bad_world_is m (Some cause) came.0 in
      let same = same_bad (first_bad kinds.World world) (first_bad kinds.World world) m line b.0 why refl b.2 bad in
      inl (record { code_is = refl; line_is = same.0; cause_is = let c : Some cause ≡ Some b.0 = b.1 in let d : b.0 ≡ why = same.1 in cc })
  tells_world_of (endings.Script m cause) came line why bad =
      let e : came.0.world_bytes ∷ (came.0.script_bytes ∷ came.0.others) ≡ world ∷ others =
      inputs_same v (world ∷ others) told (came.0.world_bytes ∷ (came.0.script_bytes ∷ came.0.others)) came.0.inputs in
      let w : came.0.world_bytes ≡ world = cc in
      absurd (no_bad_world world came.0.opening line why (rw w at came.0.world_text) bad)
  tells_world_of endings.Written came line why bad = absurd (not_an_output line why bad came.bytes came.output)
  tells_world_of endings.WriteFault came line why bad = absurd (not_an_output line why bad came.0.bytes came.0.output)
  tells_world_of endings.TooLong came line why bad = absurd (not_overlong v (world ∷ others) told came.0)
  tells_world_of (endings.ReportText m) came line why bad = absurd (not_spelled line why bad _ came.0.opening came.0.script came.0.spelled)
  tells_world_of (endings.ReportEvent m) came line why bad = absurd (not_spelled line why bad _ came.0.opening came.0.script came.0.spelled)
  tells_world_of (endings.ReportState m) came line why bad = absurd (not_spelled line why bad _ came.0.opening came.0.script came.0.spelled)

-- ---- the script of a good world

module _ (v : Course) (world script : List ℕ) (others : List (List ℕ)) (told : Told v (world ∷ (script ∷ others))) where
  pub bad_script_is : (line : ℕ) (cause : Option Cause) (o : Opening) → BadScript v.words v.held line cause → IsWorldText world o
      → (why : Cause) × (cause ≡ Some why) × (first_bad (script_kind o.version) script ≡ Some (line, why))
  bad_script_is line cause o b t =
      let e : b.world_bytes ∷ (b.script_bytes ∷ b.others) ≡ world ∷ (script ∷ others) =
      inputs_same v (world ∷ (script ∷ others)) told (b.world_bytes ∷ (b.script_bytes ∷ b.others)) b.inputs in
      let w : b.world_bytes ≡ world = cc in
      let s : b.script_bytes ≡ script = cc in
      let p : b.opening ≡ o = one_opening world b.opening o (rw w at b.world_text) t in
      (b.why, b.told, rw (s, p) at b.first)

  -- what is spelled is spelled by the files that are told
  module _ (o : Opening) (t : IsWorldText world o) where
    spelled_script : (more : List (List ℕ)) (p : Opening) (cs : List Command) → Spelled v.words v.held more p cs → IsScriptText o.version script cs
    spelled_script more p cs s =
        let e : s.world_bytes ∷ (s.script_bytes ∷ more) ≡ world ∷ (script ∷ others) =
        inputs_same v (world ∷ (script ∷ others)) told (s.world_bytes ∷ (s.script_bytes ∷ more)) s.inputs in
        let w : s.script_bytes ≡ script = cc in
        let q : p ≡ o = one_opening world p o (spelled_world v world (script ∷ others) told more p cs s) t in
        rw (w, q) at s.script_text

    output_script : (bytes : List ℕ) → IsOutput v.words v.held bytes → (cs : List Command) × IsScriptText o.version script cs
    output_script bytes (inl r) = (r.script, spelled_script [] r.opening r.script r.spelled)
    output_script bytes (inr (inl m)) = absurd (make_tells_no_files v m.clusters m.command world (script ∷ others) told)
    output_script bytes (inr (inr c)) = (c.script, spelled_script (c.report ∷ []) c.opening c.script c.spelled)

    module _ (line : ℕ) (why : Cause) (bad : first_bad (script_kind o.version) script ≡ Some (line, why)) where
      not_a_script : (more : List (List ℕ)) (p : Opening) (cs : List Command) → Spelled v.words v.held more p cs → ⊥
      not_a_script more p cs s = no_bad_script o.version script cs line why (spelled_script more p cs s) bad

      not_its_output : (bytes : List ℕ) → IsOutput v.words v.held bytes → ⊥
      not_its_output bytes out = let s = output_script bytes out in no_bad_script o.version script s.0 line why s.1 bad

  pub tells_script_of : (e : Ending) → Came v e → (o : Opening) (line : ℕ) (why : Cause) → IsWorldText world o → first_bad (script_kind o.version) script ≡ Some (line, why)
      → Tells (status_of e) 4 line why ⊎ Yields (status_of e)
  tells_script_of endings.ReadFault came o line why t bad = inr (inl refl)
  tells_script_of endings.NoMemory came o line why t bad = inr (inr refl)
  tells_script_of endings.Words came o line why t bad = absurd (asked_for v.words told.request told.command came.0)
  tells_script_of (endings.World m cause) came o line why t bad =
      let b = bad_world_is v world (script ∷ others) told m (Some cause) came.0 in absurd (no_bad_world world o m b.0 t b.2)
  tells_script_of (endings.Script m cause) came o line why t bad =
      let b = bad_script_is m (Some cause) o came.0 t in
      let same = same_bad (first_bad (script_kind o.version) script) (first_bad (script_kind o.version) script) m line b.0 why refl b.2 bad in
      inl (record { code_is = refl; line_is = same.0; cause_is = let c : Some cause ≡ Some b.0 = b.1 in let d : b.0 ≡ why = same.1 in cc })
  tells_script_of endings.Written came o line why t bad = absurd (not_its_output o t line why bad came.bytes came.output)
  tells_script_of endings.WriteFault came o line why t bad = absurd (not_its_output o t line why bad came.0.bytes came.0.output)
  tells_script_of endings.TooLong came o line why t bad = absurd (not_overlong v (world ∷ (script ∷ others)) told came.0)
  tells_script_of (endings.ReportText m) came o line why t bad = absurd (not_a_script o t line why bad _ came.0.opening came.0.script came.0.spelled)
  tells_script_of (endings.ReportEvent m) came o line why t bad = absurd (not_a_script o t line why bad _ came.0.opening came.0.script came.0.spelled)
  tells_script_of (endings.ReportState m) came o line why t bad = absurd (not_a_script o t line why bad _ came.0.opening came.0.script came.0.spelled)

-- where two files are told there is no report
module _ (v : Course) (world script : List ℕ) (told : Told v (world ∷ (script ∷ []))) where
  pub not_of_two : (report : List ℕ) (o : Opening) (cs : List Command) → Spelled v.words v.held (report ∷ []) o cs → ⊥
  not_of_two report o cs s =
      let e : s.world_bytes ∷ (s.script_bytes ∷ (report ∷ [])) ≡ world ∷ (script ∷ []) =
      inputs_same v (world ∷ (script ∷ [])) told (s.world_bytes ∷ (s.script_bytes ∷ (report ∷ []))) s.inputs in
      cc

-- ---- the report of a good world and a good script

module _ (v : Course) (world script report : List ℕ) (told : Told v (world ∷ (script ∷ (report ∷ [])))) (o : Opening) (cs : List Command) (w : IsWorldText world o)
    (s : IsScriptText o.version script cs) where
  -- a verdict that came is of this report
  same_judged : (verdict : Verdict) (bytes : List ℕ) (p : Opening) (ds : List Command) → Spelled v.words v.held (bytes ∷ []) p ds → Judges p ds bytes verdict → Judges o cs report verdict
  same_judged verdict bytes p ds spelled judges =
      let e : spelled.world_bytes ∷ (spelled.script_bytes ∷ (bytes ∷ [])) ≡ world ∷ (script ∷ (report ∷ [])) =
      inputs_same v (world ∷ (script ∷ (report ∷ []))) told (spelled.world_bytes ∷ (spelled.script_bytes ∷ (bytes ∷ []))) spelled.inputs in
      let r : bytes ≡ report = cc in
      let q : p ≡ o = one_opening world p o (spelled_world v world (script ∷ (report ∷ [])) told (bytes ∷ []) p ds spelled) w in
      let d : ds ≡ cs = one_script o.version script ds cs (spelled_script v world script (report ∷ []) told o w (bytes ∷ []) p ds spelled) s in
      rw (r, q, d) at judges

  module _ (verdict : Verdict) (judges : Judges o cs report verdict) where
    same_verdict : (other : Verdict) → Judged v.words v.held other → other ≡ verdict
    same_verdict other j = one_verdict o cs report other verdict (same_judged other j.report j.opening j.script j.spelled j.judges) judges

    legal_output : (bytes : List ℕ) → IsOutput v.words v.held bytes → verdicts.Legal ≡ verdict
    legal_output bytes (inl r) =
        let i = r.spelled in
        let e : i.world_bytes ∷ (i.script_bytes ∷ []) ≡ world ∷ (script ∷ (report ∷ [])) =
        inputs_same v (world ∷ (script ∷ (report ∷ []))) told (i.world_bytes ∷ (i.script_bytes ∷ [])) i.inputs in
        absurd (cc)
    legal_output bytes (inr (inl m)) = absurd (make_tells_no_files v m.clusters m.command world (script ∷ (report ∷ [])) told)
    legal_output bytes (inr (inr c)) = one_verdict o cs report verdicts.Legal verdict (same_judged verdicts.Legal c.report c.opening c.script c.spelled c.says.verdict) judges

    pub tells_verdict_of : (e : Ending) → Came v e → (status_of e ≡ verdict_status verdict) ⊎ (((verdict ≡ verdicts.Legal) × ((status_of e).code ≡ 6)) ⊎ Yields (status_of e))
    tells_verdict_of endings.ReadFault came = inr (inr (inl refl))
    tells_verdict_of endings.NoMemory came = inr (inr (inr refl))
    tells_verdict_of endings.Words came = absurd (asked_for v.words told.request told.command came.0)
    tells_verdict_of (endings.World m cause) came =
        let b = bad_world_is v world (script ∷ (report ∷ [])) told m (Some cause) came.0 in absurd (no_bad_world world o m b.0 w b.2)
    tells_verdict_of (endings.Script m cause) came =
        let b = bad_script_is v world script (report ∷ []) told m (Some cause) o came.0 w in absurd (no_bad_script o.version script cs m b.0 s b.2)
    tells_verdict_of endings.Written came = inl (ap verdict_status (legal_output came.bytes came.output))
    tells_verdict_of endings.WriteFault came = inr (inl (sym (legal_output came.0.bytes came.0.output), refl))
    tells_verdict_of endings.TooLong came = absurd (not_overlong v (world ∷ (script ∷ (report ∷ []))) told came.0)
    tells_verdict_of (endings.ReportText line) came = inl (ap verdict_status (same_verdict (verdicts.Text line) came.0))
    tells_verdict_of (endings.ReportEvent number) came = inl (ap verdict_status (same_verdict (verdicts.Event number) came.0))
    tells_verdict_of (endings.ReportState line) came = inl (ap verdict_status (same_verdict (verdicts.State line) came.0))

  -- a report that a run with 64 workers may write has the verdict Legal
  is_legal : IsReport forms.Text o cs 64 report → Judges o cs report verdicts.Legal
  is_legal r =
      let within = told_within v.held (names_of told.request) (world ∷ (script ∷ (report ∷ []))) told.held in
      report_is o cs report (world_gives_opening world o w).grid (script_short cs (script_gives_script o.version script cs s).each) within.1.1.0 (record {
        history = r.history;
        closing = r.closing;
        legal = r.legal;
        outputs = r.outputs;
        text = r.text;
      })

  pub tells_legal_of : IsReport forms.Text o cs 64 report → (e : Ending) → Came v e → (status_of e ≡ plain 0) ⊎ (((status_of e).code ≡ 6) ⊎ Yields (status_of e))
  tells_legal_of r e came =
      elim (tells_verdict_of verdicts.Legal (is_legal r) e came) [
        | inl same ↦ inl same
        | inr less ↦ inr (elim less [ inl unwritten ↦ inl unwritten.1 | inr before ↦ inr before ])
      ]
