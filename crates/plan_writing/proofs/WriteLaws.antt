-- Writing a plan block: what each way out of the code says of the block.
-- Assumes nothing.
use Prim.Native.Nat.{ℕ, ◌<◌, ◌≤◌}
use mathlib.Core.Path.{◌≡◌, refl, sym, subst, ◌∙◌}
use mathlib.Core.List.{List, [], ◌∷◌}
use native.Mathlib.Omega.{arith}
use borrow.Author.Tests.{le-leb, lt-leb}
use lib.ListN.{length}
use Rattle.plan.specs.declared.Plan.{Plan}
use Rattle.plan.specs.Answers.{Verdict, accepted_with, answered, write_number, stored_by}
use Rattle.plan.specs.Blocks.{plan_block, tasks_of}
use Rattle.plan.specs.LevelBlocks.{loading, speeds_in}
use Rattle.plan.specs.Questions.{task_questions, judging, writing, room_question}
use Rattle.arith.specs.Asking.{Question, first_no}
use Rattle.judging.proofs.verdicts.Judgements.{count_low, count_high, count_good}
use Rattle.arith.proofs.QuestionLaws.{ask_no, ask_yes, no_before, yes_before}
use Rattle.plan.proofs.AnswerLaws.{Refusal, told_refused, told_admitted, Leaves, leaves_refused, leaves_written}
use Rattle.levels.specs.Code.{loaded}
use Rattle.levels.proofs.Tables.{Loads}
use Rattle.std.specs.declared.result.Result.TheVariants.{Ok}
use Rattle.plan.specs.Counted.{Counted, refused}

-- the questions of writing a plan into so much room: those of judging it, and the room
module _ (speeds : List ℕ) (p : Plan) where
  abbrev pub asked : List Question
  asked = judging speeds p.count (tasks_of p)

  abbrev pub last : ℕ → List Question
  last room = room_question (length (plan_block (tasks_of p))) room ∷ []

  module _ (room : ℕ) (e : first_no asked ≡ 0) where
    pub write_last : first_no (writing speeds p room) ≡ first_no (last room)
    write_last = yes_before asked (last room) refl e

    write_short : room < length (plan_block (tasks_of p)) → first_no (writing speeds p room) ≡ 9
    write_short h = write_last ∙ ask_no 9 0 (lt-leb (length (plan_block (tasks_of p))) room h)

    write_fits : length (plan_block (tasks_of p)) ≤ room → first_no (writing speeds p room) ≡ 0
    write_fits h = write_last ∙ ask_yes 9 (le-leb (length (plan_block (tasks_of p))) room h) refl

-- each way out of writing a plan over a table of speeds
abbrev Wrote : List ℕ → Plan → List ℕ → Counted → List ℕ → Type 0
Wrote speeds p buffer r m = Leaves (first_no (writing speeds p (length buffer))) (plan_block (tasks_of p)) buffer r m

module _ (speeds : List ℕ) (p : Plan) (buffer : List ℕ) where
  wrote_no : (n : ℕ) → 0 < n → first_no (asked speeds p) ≡ n → Wrote speeds p buffer (refused n) buffer
  wrote_no n h e =
      leaves_refused (first_no (writing speeds p (length buffer))) n (plan_block (tasks_of p)) buffer h
      (no_before (asked speeds p) (last speeds p (length buffer)) n h e)

  pub wrote_low : p.count < 1 → Wrote speeds p buffer (refused 3) buffer
  wrote_low h = wrote_no 3 (omega arith) (count_low speeds (tasks_of p) p.count h)

  pub wrote_high : 16 < p.count → Wrote speeds p buffer (refused 3) buffer
  wrote_high h = wrote_no 3 (omega arith) (count_high speeds (tasks_of p) p.count h)

-- the count is in its range, and the tasks are judged
pub record Rated (speeds : List ℕ) (p : Plan) (v : Verdict) : Type 0 where
  pub low : 1 ≤ p.count
  pub high : p.count ≤ 16
  pub verdict_is : v ≡ answered (first_no (task_questions speeds (tasks_of p))) speeds (tasks_of p)

module _ {speeds : List ℕ} {p : Plan} {v : Verdict} (r : Rated speeds p v) where
  asked_is : first_no (asked speeds p) ≡ first_no (task_questions speeds (tasks_of p))
  asked_is = count_good speeds (tasks_of p) p.count r.low r.high

  pub wrote_refused : (buffer : List ℕ) {n : ℕ} → v ≡ refused n → Wrote speeds p buffer (refused n) buffer
  wrote_refused buffer {n} b =
      let t = told_refused speeds (tasks_of p) v (first_no (task_questions speeds (tasks_of p))) n r.verdict_is b in
      wrote_no speeds p buffer n t.0 (asked_is ∙ t.1)

  pub rated_fine : {level span : ℕ} → v ≡ accepted_with level span → first_no (asked speeds p) ≡ 0
  rated_fine {level} {span} b =
      asked_is
      ∙ told_admitted speeds (tasks_of p) v (first_no (task_questions speeds (tasks_of p))) level span r.verdict_is b

-- the tasks are admitted, and n bytes are wanted
pub record Wanted (speeds : List ℕ) (p : Plan) (n : ℕ) : Type 0 where
  pub fine : first_no (asked speeds p) ≡ 0
  pub wanted : n ≡ length (plan_block (tasks_of p))

module _ {speeds : List ℕ} {p : Plan} {n : ℕ} (w : Wanted speeds p n) (buffer : List ℕ) where
  pub wrote_short : length buffer < n → Wrote speeds p buffer (refused 9) buffer
  wrote_short h =
      leaves_refused (first_no (writing speeds p (length buffer))) 9 (plan_block (tasks_of p)) buffer (omega arith)
      (write_short speeds p (length buffer) w.fine (subst (λ (k : ℕ). length buffer < k) w.wanted h))

  pub wrote_block : {m : List ℕ} → n ≤ length buffer → m ≡ stored_by 0 (plan_block (tasks_of p)) buffer → Wrote speeds p buffer (Ok n) m
  wrote_block {m} h s =
      leaves_written (first_no (writing speeds p (length buffer))) n (plan_block (tasks_of p)) buffer m
      (write_fits speeds p (length buffer) w.fine (subst (λ (k : ℕ). k ≤ length buffer) w.wanted h))
      w.wanted
      s

-- the same over a level block, whose questions come first
abbrev pub Writes : List ℕ → Plan → List ℕ → Counted → List ℕ → Type 0
Writes levels p buffer r m = Leaves (write_number levels p (length buffer)) (plan_block (tasks_of p)) buffer r m

module _ (levels : List ℕ) (p : Plan) (buffer : List ℕ) where
  pub writes_refused : {n : ℕ} → Refusal (first_no (loading levels)) n → Writes levels p buffer (refused n) buffer
  writes_refused {n} e =
      leaves_refused (write_number levels p (length buffer)) n (plan_block (tasks_of p)) buffer e.positive
      (no_before (loading levels) (writing (speeds_in levels) p (length buffer)) n e.positive e.is)

  pub writes_loaded :
      {held : List ℕ} {count : ℕ} {r : Counted} {m : List ℕ} →
      Loads levels held count →
      Wrote (loaded held count) p buffer r m →
      Writes levels p buffer r m
  writes_loaded {r = r} {m = m} l w =
      subst (λ (k : ℕ). Leaves k (plan_block (tasks_of p)) buffer r m)
      (sym (yes_before (loading levels) (writing (speeds_in levels) p (length buffer)) refl l.number))
      (subst (λ (s : List ℕ). Wrote s p buffer r m) l.is w)
