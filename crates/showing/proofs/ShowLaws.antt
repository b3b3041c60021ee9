-- Showing the queue: its bytes, stored task by task.
-- Assumes nothing.
use Prim.Native.Nat.{ℕ, ◌+◌, ◌*◌, ◌<◌, ◌≤◌}
use mathlib.Core.Path.{◌≡◌, refl, sym, subst, ap, ap₂, ◌∙◌}
use mathlib.Core.Bool.{Bool, false}
use mathlib.Core.List.{List, [], ◌∷◌, ◌++◌}
use native.Mathlib.Numerals.{add-one}
use native.Mathlib.Omega.{arith}
use borrow.Author.Tests.{le-leb, lt-leb}
use lib.ListN.{length, get_or, take, drop, set, length-append, length-drop, length-set}
use lib.Seq.{sets, sets-eq, length-sets, drop-drop, drop-append-add, length-take-le, take_all, take_at, take-suc}
use Rattle.arith.specs.Digits.{digits}
use Rattle.arith.specs.Choice.{pick, both}
use Rattle.plan.specs.Answers.{room_number}
use Rattle.plan.proofs.AnswerLaws.{Leaves, leaves_refused, leaves_written}
use Rattle.schedule.specs.PlainSchedule.{Timing, Pending, queue_of}
use Rattle.schedule.proofs.QueueLaws.{queue_of_cong}
use Rattle.showing.specs.declared.ready.ReadyList.{ReadyList}
use Rattle.reclaiming.specs.declared.Entry.{Entry}
use Rattle.reclaiming.specs.StateBlock.{remaining_of, decode, state_count}
use Rattle.reclaiming.specs.Calls.{queue_bytes, ready_queue, shown_bytes, show_number}
use Rattle.showing.specs.Ready.{tasks_bytes}
use Rattle.state.specs.Code.{timing_in}
use Rattle.levels.specs.Code.{loaded}
use Rattle.state.specs.Tables.{own_table, Owns}
use Rattle.state.proofs.tables.TableLaws.{unowned}
use Rattle.soundness.specs.Code.{Good}
use Rattle.reclaiming.specs.Questions.{sound_at}
use Rattle.state.proofs.BlockLaws.{remaining_in, count_in_lem, entry_at_lem}
use Rattle.urgency.proofs.OpenJobs.{timing_count}
use Rattle.showing.proofs.ready.ReadyLaws.{ready_bytes}
use Rattle.showing.proofs.ready.ReadySteps.{Listed, listed_front}
use Rattle.std.specs.declared.result.Result.TheVariants.{Ok}
use Rattle.plan.specs.Counted.{Counted, refused}

-- how many bytes tasks take
length-tasks_bytes : (left : ℕ → ℕ) (ts : List ℕ) → length (tasks_bytes left ts) ≡ 3 * length ts
length-tasks_bytes left [] = refl
length-tasks_bytes left (i ∷ q) = omega (arith, length-tasks_bytes left q)

-- one more task at the end
tasks_bytes_append : (left : ℕ → ℕ) (ts us : List ℕ) → tasks_bytes left (ts ++ us) ≡ tasks_bytes left ts ++ tasks_bytes left us
tasks_bytes_append left [] us = refl
tasks_bytes_append left (i ∷ q) us = ap (λ (l : List ℕ). i ∷ digits 256 2 (left i) ++ l) (tasks_bytes_append left q us)

tasks_bytes_more : (left : ℕ → ℕ) (ts : List ℕ) (k : ℕ) → k < length ts →
    tasks_bytes left (take (k + 1) ts) ≡ tasks_bytes left (take k ts) ++ (get_or ts k 0 ∷ digits 256 2 (left (get_or ts k 0)))
tasks_bytes_more left ts k h =
    ap (tasks_bytes left) (ap (λ (n : ℕ). take n ts) (add-one k) ∙ take-suc ts k 0 h)
    ∙ tasks_bytes_append left (take k ts) (get_or ts k 0 ∷ [])

-- tasks are stored in a buffer: the first k stand there
pub record ShownTo (left : ℕ → ℕ) (ts found buffer : List ℕ) (k : ℕ) : Type 0 where
  pub room : 3 * length ts ≤ length found
  pub below : k ≤ length ts
  pub kept : length buffer ≡ length found
  pub bytes : buffer ≡ tasks_bytes left (take k ts) ++ drop (3 * k) found

module _ {left : ℕ → ℕ} {ts found buffer : List ℕ} {k : ℕ} (so_far : ShownTo left ts found buffer k) where
  pub shown_more :
      {x : ℕ} {m : List ℕ} →
      k < length ts →
      x ≡ left (get_or ts k 0) →
      m ≡ sets (set buffer (3 * k) (get_or ts k 0)) (3 * k + 1) (digits 256 2 x) →
      ShownTo left ts found m (k + 1)
  shown_more {x} {m} h d e =
      let t : ℕ = get_or ts k 0 in
      let p : List ℕ = tasks_bytes left (take k ts) in
      let v : List ℕ = t ∷ digits 256 2 (left t) in
      let rest : List ℕ = drop (3 * k) found in
      let size : length p ≡ 3 * k = omega (arith, length-tasks_bytes left (take k ts), length-take-le k ts so_far.below) in
      let on : 3 * k + 3 ≡ 3 * (k + 1) = omega arith in
      let after : drop (3 * k + 3) (p ++ rest) ≡ drop (3 * (k + 1)) found =
      ap (λ (x : ℕ). drop (x + 3) (p ++ rest)) (sym size)
      ∙ drop-append-add p rest 3
      ∙ drop-drop 3 (3 * k) found
      ∙ ap (λ (x : ℕ). drop x found) on in
      record {
        room = so_far.room;
        below = omega arith;
        kept =
            ap (λ (l : List ℕ). length l) e
            ∙ length-sets (set buffer (3 * k) t) (3 * k + 1) (digits 256 2 x)
            ∙ length-set buffer (3 * k) t
            ∙ so_far.kept;
        bytes =
            e
            ∙ ap (λ (y : ℕ). sets (set buffer (3 * k) t) (3 * k + 1) (digits 256 2 y)) d
            ∙ ap₂ (λ (l : List ℕ) (at : ℕ). sets (set l (3 * k) t) at (digits 256 2 (left t))) so_far.bytes (add-one (3 * k))
            ∙ sets-eq v (p ++ rest) (3 * k) (omega (arith, length-append p rest, length-drop (3 * k) found, so_far.room))
            ∙ ap₂ (λ (x y : List ℕ). x ++ v ++ y) (take_at p rest (3 * k) size) after
            ∙ ap (λ (x : List ℕ). x ++ drop (3 * (k + 1)) found) (sym (tasks_bytes_more left ts k h));
      }

  pub shown_all : length ts ≤ k → buffer ≡ tasks_bytes left ts ++ drop (3 * length ts) found
  shown_all h =
      let e : k ≡ length ts = omega (arith, so_far.below) in
      so_far.bytes
      ∙ ap₂ (λ (us : List ℕ) (n : ℕ). tasks_bytes left us ++ drop (3 * n) found) (take_all k ts (omega arith)) e

-- the bytes that are shown at a table of speeds
abbrev shown_at : List ℕ → List ℕ → List ℕ
shown_at speeds bytes = queue_bytes (ready_queue speeds (decode bytes))

-- the number of showing there, by whether the block is sound there
abbrev show_no : List ℕ → List ℕ → List ℕ → Bool → ℕ
show_no speeds bytes buffer b = pick b (room_number (length (shown_at speeds bytes)) (length buffer)) 10

-- what showing a block answers and leaves there
abbrev pub LeftByShow : List ℕ → List ℕ → List ℕ → Counted → List ℕ → Type 0
LeftByShow speeds bytes buffer r m = Leaves (show_no speeds bytes buffer (sound_at speeds bytes)) (shown_at speeds bytes) buffer r m

-- what it answers and leaves by the call's own definitions
abbrev pub Shown : List ℕ → List ℕ → Counted → List ℕ → Type 0
Shown bytes buffer r m = Leaves (show_number bytes (length buffer)) (shown_bytes bytes) buffer r m

-- at the table that the block owns it is that of the call
pub over_own :
    {bytes held : List ℕ} {levels : ℕ} →
    Owns bytes held levels →
    (buffer : List ℕ) {r : Counted} {m : List ℕ} →
    LeftByShow (loaded held levels) bytes buffer r m →
    Shown bytes buffer r m
over_own {bytes} k buffer {r} {m} h =
    let speeds : List ℕ = (decode bytes).speeds in
    subst (λ (b : Bool). Leaves (show_no speeds bytes buffer (both b (sound_at speeds bytes))) (shown_at speeds bytes) buffer r m) (sym k.good)
    (subst (λ (l : List ℕ). LeftByShow l bytes buffer r m) k.is h)

-- a block without a table is answered with 10
pub no_table :
    (bytes buffer : List ℕ) → own_table bytes ≡ false → Shown bytes buffer (refused 10) buffer
no_table bytes buffer none =
    leaves_refused (show_number bytes (length buffer)) 10 (shown_bytes bytes) buffer (omega arith)
    (ap (show_no (decode bytes).speeds bytes buffer) (unowned bytes none))

pub show_unsound :
    (speeds bytes buffer : List ℕ) → sound_at speeds bytes ≡ false → LeftByShow speeds bytes buffer (refused 10) buffer
show_unsound speeds bytes buffer h =
    leaves_refused (show_no speeds bytes buffer (sound_at speeds bytes)) 10 (shown_at speeds bytes) buffer (omega arith)
    (ap (show_no speeds bytes buffer) h)

-- a sound block with its count and its ready tasks
pub record Showing (speeds bytes keys : List ℕ) (highest n : ℕ) (q : ReadyList) : Type 0 where
  pub good : Good speeds bytes keys highest
  pub counted : n ≡ state_count bytes
  pub listed : Listed keys (remaining_in bytes) n q

module _ {speeds bytes keys : List ℕ} {highest n : ℕ} {q : ReadyList} (k : Showing speeds bytes keys highest n q) (buffer : List ℕ) where
  -- the bytes to show
  shown_are : shown_at speeds bytes ≡ tasks_bytes (remaining_in bytes) (take q.len q.tasks)
  shown_are =
      let τ : Timing = timing_in speeds bytes in
      let now : ℕ = (decode bytes).clock in
      let some : n ≤ τ.count = omega (arith, timing_count bytes, k.counted) in
      ap (λ (x : ℕ). queue_bytes (queue_of τ now (remaining_of (decode bytes)) x)) (count_in_lem bytes ∙ sym k.counted)
      ∙ ap (λ (x : List Pending). queue_bytes x)
      (queue_of_cong τ now (remaining_of (decode bytes)) (remaining_in bytes) n
      (λ i h. ap (λ (e : Entry). e.remaining) (entry_at_lem bytes i (omega (arith, k.counted)))))
      ∙ ready_bytes τ now keys k.good.keyed (remaining_in bytes) n some
      ∙ ap (tasks_bytes (remaining_in bytes)) (sym (listed_front k.listed))

  wanted : length (shown_at speeds bytes) ≡ 3 * q.len
  wanted =
      ap length shown_are
      ∙ length-tasks_bytes (remaining_in bytes) (take q.len q.tasks)
      ∙ ap (λ (x : List ℕ). 3 * length x) (listed_front k.listed)
      ∙ ap (λ (x : ReadyList). 3 * x.len) (sym k.listed.is)

  asked : show_no speeds bytes buffer (sound_at speeds bytes) ≡ room_number (3 * q.len) (length buffer)
  asked = ap (show_no speeds bytes buffer) k.good.sound ∙ ap (λ (x : ℕ). room_number x (length buffer)) wanted

  pub show_short : length buffer < 3 * q.len → LeftByShow speeds bytes buffer (refused 9) buffer
  show_short h =
      leaves_refused (show_no speeds bytes buffer (sound_at speeds bytes)) 9 (shown_at speeds bytes) buffer (omega arith)
      (asked ∙ ap (λ (b : Bool). pick {A = ℕ} b 0 9) (lt-leb (3 * q.len) (length buffer) h))

  pub show_stored :
      {m : List ℕ} →
      3 * q.len ≤ length buffer →
      m ≡ tasks_bytes (remaining_in bytes) (take q.len q.tasks) ++ drop (3 * q.len) buffer →
      LeftByShow speeds bytes buffer (Ok (3 * q.len)) m
  show_stored {m} h e =
      leaves_written (show_no speeds bytes buffer (sound_at speeds bytes)) (3 * q.len) (shown_at speeds bytes) buffer m
      (asked ∙ ap (λ (b : Bool). pick {A = ℕ} b 0 9) (le-leb (3 * q.len) (length buffer) h))
      (sym wanted)
      (e ∙ ap₂ (λ (x : List ℕ) (y : ℕ). x ++ drop y buffer) (sym shown_are) (sym wanted))
