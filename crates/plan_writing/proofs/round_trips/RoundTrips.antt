-- The round trips: what each way out of the code says of the block, and of the plan.
-- Assumes nothing.
use Prim.Native.Nat.{ℕ, ◌≤◌}
use mathlib.Core.Path.{◌≡◌, refl, sym, ap, ap₂, ◌∙◌}
use mathlib.Core.List.{List, [], ◌∷◌, ◌++◌}
use native.Mathlib.Omega.{arith}
use lib.ListN.{length, take, drop, length-take}
use lib.Seq.{take_at}
use Rattle.plan.specs.declared.Task.{Task}
use Rattle.plan.specs.declared.Plan.{Plan}
use Rattle.plan.specs.declared.Judged.{Judged}
use Rattle.plan.specs.Answers.{accepted_with, beside, judged_by, read_block, write_number, written_by, stored_by, write_plan, write_buffer, copy_number}
use Rattle.plan.specs.Blocks.{plan_block, tasks_in, tasks_of, plan_of}
use Rattle.plan.specs.LevelBlocks.{loading, speeds_in}
use Rattle.plan.specs.Questions.{reading, writing, room_question}
use Rattle.arith.specs.Asking.{Question, first_no}
use Rattle.plan.specs.Laws.{Bytes}
use Rattle.plan.proofs.Facts.{fine_block}
use Rattle.arith.proofs.QuestionLaws.{no_before, yes_before, yes_of, yes_after}
use Rattle.plan.proofs.RoundTrip.{written_reads_back, none_accepted, accepted_block, tasks_of-plan_of, read_judged}
use Rattle.plan.proofs.AnswerLaws.{told_refused, told_admitted, told_written, Leaves, leaves_refused}
use Rattle.plan_writing.proofs.WriteLaws.{asked, last, Writes, write_last}
use Rattle.std.specs.declared.result.Result.TheVariants.{Ok}
use Rattle.plan.specs.Counted.{Counted, refused}

-- a block read, and what writes it again
module _ (levels block : List ℕ) where
  abbrev read_asked : List Question
  read_asked = reading (speeds_in levels) block

  abbrev room_asked : ℕ → List Question
  room_asked room = room_question (length block) room ∷ []

  abbrev Copied : List ℕ → Counted → List ℕ → Type 0
  Copied buffer r m = Leaves (copy_number levels block (length buffer)) block buffer r m

  -- accepted: its plan's block is the block itself, and its plan is accepted too
  module _ (bytes : Bytes block) {p : Plan} (all : first_no (loading levels ++ read_asked) ≡ 0) (e : p ≡ plan_of (tasks_in block)) where
    loads : first_no (loading levels) ≡ 0
    loads = yes_of (loading levels) read_asked all

    accepted : first_no read_asked ≡ 0
    accepted = yes_after (loading levels) read_asked refl all

    copied : plan_block (tasks_of p) ≡ block
    copied =
        ap (λ (q : Plan). plan_block (tasks_of q)) e
        ∙ ap (λ (ts : List Task). plan_block ts) (tasks_of-plan_of (tasks_in block))
        ∙ accepted_block (speeds_in levels) block (fine_block (speeds_in levels) block accepted) bytes

    -- past the level block and the plan, both are left to the room
    copy_number_lem : (room : ℕ) → write_number levels p room ≡ copy_number levels block room
    copy_number_lem room =
        yes_before (loading levels) (writing (speeds_in levels) p room) refl loads
        ∙ write_last (speeds_in levels) p room (read_judged (speeds_in levels) block p accepted e)
        ∙ ap (λ (l : List ℕ). first_no (room_question (length l) room ∷ [])) copied
        ∙ sym (yes_before (loading levels ++ read_asked) (room_asked room) refl all)

    leaves_copy : (buffer : List ℕ) {r : Counted} {m : List ℕ} → Writes levels p buffer r m → Copied buffer r m
    leaves_copy buffer w = (
      w.0 ∙ ap₂ (λ (k : ℕ) (l : List ℕ). written_by k l) (copy_number_lem (length buffer)) copied,
      w.1 ∙ ap₂ (λ (k : ℕ) (l : List ℕ). stored_by k l buffer) (copy_number_lem (length buffer)) copied,
    )

  pub leaves_read :
      (buffer : List ℕ) {j : Judged} {level span : ℕ} {r : Counted} {m : List ℕ} →
      Bytes block →
      j ≡ read_block levels block →
      j.verdict ≡ accepted_with level span →
      Writes levels j.plan buffer r m →
      Copied buffer r m
  leaves_read buffer {j} {level} {span} bytes a b =
      let number : ℕ = first_no (loading levels ++ read_asked) in
      let n : number ≡ 0 =
      told_admitted (speeds_in levels) (tasks_in block) j.verdict number level span (ap (λ (x : Judged). x.verdict) a) b in
      leaves_copy bytes n (ap (λ (x : Judged). x.plan) a ∙ ap (λ (k : ℕ). beside k (tasks_in block)) n) buffer

  -- refused: its number is all that is left
  pub leaves_unread :
      (buffer : List ℕ) {j : Judged} {n : ℕ} →
      j ≡ read_block levels block →
      j.verdict ≡ refused n →
      Copied buffer (refused n) buffer
  leaves_unread buffer {j} {n} a b =
      let asked-all : List Question = loading levels ++ read_asked in
      let t = told_refused (speeds_in levels) (tasks_in block) j.verdict (first_no asked-all) n (ap (λ (x : Judged). x.verdict) a) b in
      leaves_refused (copy_number levels block (length buffer)) n block buffer t.0
      (no_before asked-all (room_asked (length buffer)) n t.0 t.1)

-- a plan written and read back: the front of the buffer is its block, which reads back
pub record Rewritten (levels : List ℕ) (p : Plan) (buffer m : List ℕ) (n : ℕ) : Type 0 where
  pub number : write_number levels p (length buffer) ≡ 0
  pub wanted : n ≡ length (plan_block (tasks_of p))
  pub stored : m ≡ write_buffer levels p buffer

pub rewritten :
    {levels : List ℕ} {p : Plan} {buffer m : List ℕ} {n : ℕ} {w : Counted} →
    w ≡ write_plan levels p (length buffer) →
    w ≡ Ok n →
    m ≡ write_buffer levels p buffer →
    Rewritten levels p buffer m n
rewritten {levels} {p} {buffer} a b s =
    let t = told_written (plan_block (tasks_of p)) (write_number levels p (length buffer)) a b in
    record { number = t.0; wanted = t.1; stored = s }

module _ {levels : List ℕ} {p : Plan} {buffer m : List ℕ} {n : ℕ} (w : Rewritten levels p buffer m n) where
  front : take n m ≡ plan_block (tasks_of p)
  front =
      let bytes : List ℕ = plan_block (tasks_of p) in
      ap (λ (x : List ℕ). take n x) (w.stored ∙ ap (λ (k : ℕ). stored_by k bytes buffer) w.number)
      ∙ take_at bytes (drop (length bytes) buffer) n (sym w.wanted)

  pub front_length : n ≡ length (take n m)
  front_length = w.wanted ∙ sym (ap (λ (x : List ℕ). length x) front)

  pub front_fits : n ≤ length m
  front_fits = omega (arith, length-take n m, front_length)

  pub reads_back :
      {r : Judged} →
      length p.tasks ≡ 16 →
      r ≡ read_block levels (take n m) →
      r ≡ judged_by (write_number levels p (length buffer)) (speeds_in levels) (tasks_of p)
  reads_back places a =
      let speeds : List ℕ = speeds_in levels in
      let all : List Question = loading levels ++ asked speeds p in
      let z : first_no all ≡ 0 = yes_of all (last speeds p (length buffer)) w.number in
      a
      ∙ ap (λ (l : List ℕ). read_block levels l) front
      ∙ written_reads_back levels p places (none_accepted speeds (tasks_of p) (first_no all) z)
      ∙ ap (λ (k : ℕ). judged_by k speeds (tasks_of p)) (z ∙ sym w.number)
