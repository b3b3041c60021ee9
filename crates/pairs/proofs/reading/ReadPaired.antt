-- A plan read with its pairs: what each way out says of them, and what is answered about a list.
-- Assumes nothing.
use Prim.Native.Nat.{ℕ, zero, suc, ◌/◌, ◌≤◌}
use mathlib.Core.Path.{◌≡◌, refl, sym, ap, ◌∙◌}
use mathlib.Core.Bool.{Bool, true, false}
use mathlib.Core.List.{List, [], ◌∷◌}
use native.Mathlib.Omega.{arith}
use lib.ListN.{length}
use Rattle.arith.specs.Choice.{pick, every}
use Rattle.arith.specs.Asking.{Question, first_no}
use Rattle.arith.proofs.QuestionLaws.{no_before, yes_before}
use Rattle.plan.specs.declared.Task.{Task}
use Rattle.plan.specs.declared.Judged.{Judged}
use Rattle.plan.specs.Answers.{accepted_with, judged_by, refused_with}
use Rattle.plan.specs.LevelBlocks.{loading, speeds_in}
use Rattle.plan.specs.Blocks.{tasks_in, tasks_of}
use Rattle.plan.specs.Questions.{in_range, reading}
use Rattle.plan.specs.Pairs.{Pair, pairs_in, pairs_good, pairs_question, paired_reading, paired_by, ask_pairs}
use Rattle.plan.proofs.Facts.{FineList, fine_list}
use Rattle.plan.proofs.RoundTrip.{read_judged}
use Rattle.plan.proofs.PairLaws.{length-pairs_in}
use Rattle.plan.proofs.AnswerLaws.{Refusal}
use Rattle.plan.proofs.JudgedLaws.{judged_refused, Admitted, none_answered_no, plan_is, tasks_are}
use Rattle.judging.proofs.verdicts.Judgements.{refused_as}
use Rattle.levels.specs.Code.{loaded}
use Rattle.levels.proofs.Tables.{Loads}
use Rattle.std.specs.declared.result.Result.TheVariants.{Ok}
use Rattle.plan.specs.Counted.{Counted, refused}

module _ (speeds block pairs : List ℕ) where
  abbrev ts : List Task
  ts = tasks_in block

  -- a block read with its pairs
  abbrev pub ReadsPaired : Judged → Type 0
  ReadsPaired r = r ≡ judged_by (first_no (paired_reading speeds block pairs)) speeds ts

  abbrev then_pairs : List Question
  then_pairs = pairs_question ts pairs ∷ []

  -- it is refused without them
  pub unread : {j r : Judged} {n : ℕ} → j ≡ judged_by (first_no (reading speeds block)) speeds ts → j.verdict ≡ refused n → r ≡ refused_with n → ReadsPaired r
  unread is told a =
      let f : Refusal (first_no (reading speeds block)) _ = judged_refused speeds (first_no (reading speeds block)) ts is told in
      refused_as speeds ts a f.positive (no_before (reading speeds block) then_pairs _ f.positive f.is)

  -- it is accepted without them, and they decide
  module _ {j : Judged} {level span : ℕ} (k : Admitted speeds (first_no (reading speeds block)) ts j level span) where
    -- the plan's tasks are in range
    pub plan_ranged : (j.plan.count ≤ 16) × (every in_range (tasks_of j.plan) ≡ true)
    plan_ranged =
        let f : FineList speeds j.plan.count (tasks_of j.plan) =
        fine_list speeds j.plan.count (tasks_of j.plan) (read_judged speeds block j.plan (none_answered_no k) (plan_is k)) in
        (f.count_high, f.tasks.ranges)

    asked_last : {b : Bool} → b ≡ pairs_good (tasks_of j.plan) pairs → first_no (paired_reading speeds block pairs) ≡ pick b 0 22
    asked_last is =
        yes_before (reading speeds block) then_pairs refl (none_answered_no k)
        ∙ ap (λ (b : Bool). pick {A = ℕ} b 0 22) (sym (is ∙ ap (λ (l : List Task). pairs_good l pairs) (tasks_are k)))

    pub unpaired : {r : Judged} {b : Bool} → b ≡ pairs_good (tasks_of j.plan) pairs → b ≡ false → r ≡ refused_with 22 → ReadsPaired r
    unpaired is no-good a =
        refused_as speeds ts a (omega arith) (asked_last is ∙ ap (λ (b : Bool). pick {A = ℕ} b 0 22) no-good)

    pub well_paired : {b : Bool} → b ≡ pairs_good (tasks_of j.plan) pairs → b ≡ true → ReadsPaired j
    well_paired is good =
        k.judged
        ∙ ap (λ (n : ℕ). judged_by n speeds ts) (none_answered_no k ∙ sym (asked_last is ∙ ap (λ (b : Bool). pick {A = ℕ} b 0 22) good))

-- what is answered about a list, by the number of the questions
paired_refused : (ps : List Pair) {number n : ℕ} → Refusal number n → refused n ≡ paired_by number ps
paired_refused ps {n = zero} f = absurd (omega (arith, f.positive))
paired_refused ps {n = suc n} f = sym (ap (λ (k : ℕ). paired_by k ps) f.is)

module _ (speeds block pairs : List ℕ) {j : Judged} (is : ReadsPaired speeds block pairs j) where
  abbrev number : ℕ
  number = first_no (paired_reading speeds block pairs)

  pub asked_refused : {n : ℕ} → j.verdict ≡ refused n → refused n ≡ paired_by number (pairs_in pairs)
  asked_refused told = paired_refused (pairs_in pairs) (judged_refused speeds number (tasks_in block) is told)

  pub asked_good : {level span : ℕ} → j.verdict ≡ accepted_with level span → Ok (length pairs / 2) ≡ paired_by number (pairs_in pairs)
  asked_good {level} {span} told =
      let k : Admitted speeds number (tasks_in block) j level span = record { judged = is; told = told } in
      ap Ok (sym (length-pairs_in pairs)) ∙ sym (ap (λ (n : ℕ). paired_by n (pairs_in pairs)) (none_answered_no k))

-- over a level block
module _ (levels block pairs : List ℕ) where
  abbrev own : List Question
  own = paired_reading (speeds_in levels) block pairs

  pub ask_unloaded : {n : ℕ} → Refusal (first_no (loading levels)) n → refused n ≡ ask_pairs levels block pairs
  ask_unloaded {n} f =
      paired_refused (pairs_in pairs) (record { positive = f.positive; is = no_before (loading levels) own n f.positive f.is })

  pub ask_loaded :
      {held : List ℕ} {count : ℕ} {r : Counted} →
      Loads levels held count →
      r ≡ paired_by (first_no (paired_reading (loaded held count) block pairs)) (pairs_in pairs) →
      r ≡ ask_pairs levels block pairs
  ask_loaded l e =
      e
      ∙ ap (λ (s : List ℕ). paired_by (first_no (paired_reading s block pairs)) (pairs_in pairs)) l.is
      ∙ sym (ap (λ (n : ℕ). paired_by n (pairs_in pairs)) (yes_before (loading levels) own refl l.number))
