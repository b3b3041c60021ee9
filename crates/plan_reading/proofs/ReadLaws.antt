-- Reading a plan block: what each way out of the code says of the block.
-- Assumes nothing.
use Prim.Native.Nat.{ℕ, suc, ◌-◌, ◌*◌, ◌<◌, ◌≤◌}
use mathlib.Core.Bool.{Bool, true, false}
use mathlib.Core.Path.{◌≡◌, refl, sym, ap, ap₂, ◌∙◌}
use mathlib.Core.List.{List, [], ◌∷◌}
use native.Mathlib.Omega.{arith}
use borrow.Author.Tests.{le-leb, lt-leb, eq-eqb, ne_eqb}
use lib.Dec.{eqb}
use lib.ListN.{length, drop}
use Rattle.arith.specs.Choice.{pick, every}
use Rattle.arith.specs.Digits.{number}
use Rattle.arith.specs.Bits.{unpacked}
use Rattle.plan.specs.declared.Task.{Task}
use Rattle.plan.specs.declared.Plan.{Plan}
use Rattle.plan.specs.declared.Judged.{Judged}
use Rattle.plan.specs.Blocks.{bit_count, block_length, edition_in, count_in, closing_bits, tasks_from, tasks_in}
use Rattle.plan.specs.Blocks.{adds_nothing, edition_of, tasks_of, plan_of}
use Rattle.plan.specs.Questions.{count_question, range_question, addition_question, floor_question, span_question, level_question, task_questions, reading}
use Rattle.arith.specs.Asking.{Question, ask, first_no, within}
use Rattle.plan.specs.Answers.{judged_by, refused_with}
use Rattle.judging.proofs.verdicts.Judgements.{refused_as}
use Rattle.arith.proofs.Tests.{passed, failed, tested}
use Rattle.arith.proofs.QuestionLaws.{within_true, ask_no, ask_yes, within_over, within_under}
use Rattle.arith.proofs.BitLaws.{rest_zero}
use Rattle.plan.proofs.BlockBits.{used}
use Rattle.plan.proofs.RoundTrip.{edition_adds, plain_from, edition_by_lem, tasks_of-plan_of}

-- the number of a block that names another edition than its plan is written in
abbrev misnamed_by : List Task → ℕ
misnamed_by ts = first_no (range_question ts ∷ ask 21 false ∷ [])

pub misnamed_fine : (ts : List Task) {b : Bool} → b ≡ (range_question ts).reply → b ≡ true → 21 ≡ misnamed_by ts
misnamed_fine ts e h = sym (ask_yes 6 (sym e ∙ h) refl)

pub misnamed_out : (ts : List Task) {b : Bool} → b ≡ (range_question ts).reply → b ≡ false → 6 ≡ misnamed_by ts
misnamed_out ts e h = sym (ask_no 6 21 (sym e ∙ h))

misnamed_positive : (ts : List Task) → 0 < misnamed_by ts
misnamed_positive ts =
    elim (tested (range_question ts).reply) as (λ b _. 0 < pick b 21 6) [ passed ↦ omega arith | failed ↦ omega arith ]

-- the questions that a block is asked past its closing bits, by the reply to 21, and those past its count
abbrev added : List ℕ → Bool → List Task → List Question
added speeds said ts = range_question ts ∷ ask 21 said ∷ floor_question speeds ts ∷ span_question ts ∷ level_question speeds ts ∷ []

abbrev sized : List ℕ → List ℕ → List Question
sized speeds block =
    ask 4 (eqb (length block) (block_length (edition_in block) (count_in block)))
    ∷ ask 5 (every (eqb 0) (closing_bits block))
    ∷ added speeds (addition_question (edition_in block) (tasks_in block)).reply (tasks_in block)

-- a block read over a table of speeds
abbrev Reads : List ℕ → List ℕ → Judged → Type 0
Reads speeds block r = r ≡ judged_by (first_no (reading speeds block)) speeds (tasks_in block)

-- each way out of reading a block, by the first no of its questions
module _ (speeds block : List ℕ) {r : Judged} where
  refused_at : (n : ℕ) → r ≡ refused_with (suc n) → first_no (reading speeds block) ≡ suc n → Reads speeds block r
  refused_at n a e = refused_as speeds (tasks_in block) a (omega arith) e

  pub read_short : r ≡ refused_with 1 → length block < 2 → Reads speeds block r
  read_short a h = refused_at 0 a (ask_no 1 _ (lt-leb 2 (length block) h))

  module _ {x : ℕ} (a : r ≡ refused_with 2) (l : 2 ≤ length block) (e : x ≡ edition_in block) where
    unnamed : within 1 2 (edition_in block) ≡ false → Reads speeds block r
    unnamed h = refused_at 1 a (ask_yes 1 (le-leb 2 (length block) l) (ask_no 2 _ h))

    pub read_edition_low : x < 1 → Reads speeds block r
    read_edition_low h = unnamed (within_under 1 2 (edition_in block) (omega arith))

    pub read_edition_high : 2 < x → Reads speeds block r
    read_edition_high h = unnamed (within_over 1 2 (edition_in block) (omega arith))

-- 1 and 2 are answered yes, and the count is read
pub record Opened (block : List ℕ) (edition count : ℕ) : Type 0 where
  pub long : 2 ≤ length block
  pub named : edition ≡ edition_in block
  pub edition_low : 1 ≤ edition
  pub edition_high : edition ≤ 2
  pub counted : count ≡ count_in block

module _ (speeds : List ℕ) {block : List ℕ} {edition count : ℕ} (o : Opened block edition count) where
  opened : (m : ℕ) → first_no (count_question (count_in block) ∷ sized speeds block) ≡ m → first_no (reading speeds block) ≡ m
  opened m h =
      ask_yes 1 (le-leb 2 (length block) o.long)
      (ask_yes 2 (within_true 1 2 (edition_in block) (omega (arith, o.named, o.edition_low)) (omega (arith, o.named, o.edition_high))) h)

  pub read_low : {r : Judged} → r ≡ refused_with 3 → count < 1 → Reads speeds block r
  read_low a h = refused_at speeds block 2 a (opened 3 (ask_no 3 _ (within_under 1 16 (count_in block) (omega arith))))

  pub read_high : {r : Judged} → r ≡ refused_with 3 → 16 < count → Reads speeds block r
  read_high a h = refused_at speeds block 2 a (opened 3 (ask_no 3 _ (within_over 1 16 (count_in block) (omega arith))))

-- 3 is answered yes too
pub record Counted (block : List ℕ) (edition count : ℕ) : Type 0 where
  pub opens : Opened block edition count
  pub low : 1 ≤ count
  pub high : count ≤ 16

module _ (speeds : List ℕ) {block : List ℕ} {edition count : ℕ} (c : Counted block edition count) where
  counted : (m : ℕ) → first_no (sized speeds block) ≡ m → first_no (reading speeds block) ≡ m
  counted m h =
      opened speeds c.opens m
      (ask_yes 3 (within_true 1 16 (count_in block) (omega (arith, c.opens.counted)) (omega (arith, c.opens.counted))) h)

  -- what is made of the edition and the count that were read is made of the block's
  pub by_block : {A : Type 0} (f : ℕ → ℕ → A) → f edition count ≡ f (edition_in block) (count_in block)
  by_block f = ap₂ f c.opens.named c.opens.counted

  pub read_size :
      {r : Judged} {n : ℕ} →
      r ≡ refused_with 4 →
      n ≡ block_length edition count →
      (length block ≡ n → ⊥) →
      Reads speeds block r
  read_size a b h =
      refused_at speeds block 3 a
      (counted 4 (ask_no 4 _ (ne_eqb (length block) (block_length (edition_in block) (count_in block)) (λ q. h (q ∙ sym (b ∙ by_block block_length))))))

-- 4 is answered yes too, and x is the number of the closing bits
pub record Closing (block : List ℕ) (edition count x : ℕ) : Type 0 where
  pub counts : Counted block edition count
  pub size : length block ≡ block_length edition count
  pub closing : x ≡ number 2 (8 * length block - bit_count edition count) (drop (bit_count edition count) (unpacked block))

module _ (speeds : List ℕ) {block : List ℕ} {edition count x : ℕ} (c : Closing block edition count x) where
  four : eqb (length block) (block_length (edition_in block) (count_in block)) ≡ true
  four = eq-eqb (length block) (block_length (edition_in block) (count_in block)) (c.size ∙ by_block speeds c.counts block_length)

  clear : every (eqb 0) (closing_bits block) ≡ eqb x 0
  clear =
      let bits : ℕ → ℕ → ℕ = λ e k. number 2 (8 * length block - bit_count e k) (drop (bit_count e k) (unpacked block)) in
      rest_zero block (used block) ∙ sym (ap (λ (m : ℕ). eqb m 0) (c.closing ∙ by_block speeds c.counts bits))

  pub read_closing : {r : Judged} → r ≡ refused_with 5 → (x ≡ 0 → ⊥) → Reads speeds block r
  read_closing a h = refused_at speeds block 4 a (counted speeds c.counts 5 (ask_yes 4 four (ask_no 5 _ (clear ∙ ne_eqb x 0 h))))

-- 5 is answered yes too, and the plan is read
pub record Planned (block : List ℕ) (edition count x : ℕ) (q : Plan) : Type 0 where
  pub closes : Closing block edition count x
  pub closed : x ≡ 0
  pub plan : q ≡ plan_of (tasks_from edition count (drop 9 (unpacked block)))

module _ (speeds : List ℕ) {block : List ℕ} {edition count x : ℕ} {q : Plan} (c : Planned block edition count x q) where
  abbrev opens : Opened block edition count
  opens = c.closes.counts.opens

  abbrev said : Bool
  said = (addition_question (edition_in block) (tasks_in block)).reply

  tasks_are : tasks_of q ≡ tasks_in block
  tasks_are =
      let bits : List ℕ = drop 9 (unpacked block) in
      ap (λ (z : Plan). tasks_of z) c.plan
      ∙ tasks_of-plan_of (tasks_from edition count bits)
      ∙ by_block speeds c.closes.counts (λ e k. tasks_from e k bits)

  -- what is asked past 5, where the reply to 21 is known
  planned : {s : Bool} → said ≡ s → first_no (reading speeds block) ≡ first_no (added speeds s (tasks_in block))
  planned {s} e =
      let asked : Bool → ℕ = λ t. first_no (added speeds t (tasks_in block)) in
      let clean : every (eqb 0) (closing_bits block) ≡ true = clear speeds c.closes ∙ eq-eqb x 0 c.closed in
      counted speeds c.closes.counts (asked s) (ask_yes 4 (four speeds c.closes) (ask_yes 5 clean (ap asked e)))

  -- e is the edition that the plan is written in
  module _ {e : ℕ} (is : e ≡ edition_of (tasks_of q)) where
    written : e ≡ edition_of (tasks_in block)
    written = is ∙ ap edition_of tasks_are

    pub read_misnamed :
        {r : Judged} {n : ℕ} → (e ≡ edition → ⊥) → n ≡ misnamed_by (tasks_of q) → r ≡ refused_with n → Reads speeds block r
    read_misnamed {n = n} other m a =
        let told : n ≡ misnamed_by (tasks_in block) = m ∙ ap misnamed_by tasks_are in
        refused_as speeds (tasks_in block) a (omega (arith, told, misnamed_positive (tasks_in block))) (planned (no said refl) ∙ sym told)
      where
        no : (s : Bool) → said ≡ s → said ≡ false
        no true h = absurd (other (written ∙ kept h ∙ sym opens.named))
          where
            kept : said ≡ true → edition_of (tasks_in block) ≡ edition_in block
            kept =
                edition_by_lem (edition_in block) (every adds_nothing (tasks_in block))
                (omega (arith, opens.named, opens.edition_low))
                (omega (arith, opens.named, opens.edition_high))
                (plain_from (edition_in block) (count_in block) (drop 9 (unpacked block)))
        no false h = h

    pub read_tasks :
        {r : Judged} →
        e ≡ edition →
        r ≡ judged_by (first_no (task_questions speeds (tasks_of q))) speeds (tasks_of q) →
        Reads speeds block r
    read_tasks same a =
        let ts : List Task = tasks_in block in
        let yes : said ≡ true =
        ap (λ (k : ℕ). (addition_question k ts).reply) (sym (sym written ∙ same ∙ opens.named)) ∙ edition_adds ts in
        a
        ∙ ap (λ (l : List Task). judged_by (first_no (task_questions speeds l)) speeds l) tasks_are
        ∙ sym (ap (λ (m : ℕ). judged_by m speeds ts) (planned yes))
