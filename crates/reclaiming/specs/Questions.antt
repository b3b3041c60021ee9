-- 01, "Questions put to every call": those put to a state, and what each call asks, in its order.
-- Assumes nothing.
use Rattle.std.specs.Prelude.{ℕ, max, Bool, true, List, [], ◌∷◌, ◌++◌, leb, eqb, length}
use Rattle.arith.specs.Choice.{pick, both, every}
use Rattle.arith.specs.Asking.{Question, ask, first_no, within}
use Rattle.plan.specs.Times.{time_of, task_time}
use Rattle.plan.specs.Levels.{speed_of, nominal}
use Rattle.plan.specs.LevelBlocks.{table_good, loading, speeds_in}
use Rattle.plan.specs.Questions.{judging, room_question}
use Rattle.plan.specs.Pairs.{paired_reading}
use Rattle.schedule.specs.PlainSchedule.{Timing, Pending}
use Rattle.reclaiming.specs.declared.Entry.{Entry}
use Rattle.reclaiming.specs.Allotments.{timing}
use Rattle.reclaiming.specs.Orders.{View, next_arrival, is_lone, allowance, open_jobs, running_time}
use Rattle.reclaiming.specs.Passes.{in_time, pass_questions}
use Rattle.reclaiming.specs.StateBlock.{State, queued_in, rest_in, task_of, plan_in, decode, laid_out, state_length}
use Rattle.reclaiming.specs.States.{view_of}

-- 02, No. 2: "Soundness requires these left to be no more than the fixed ticks, and zero in a finished job."
abbrev pub fixed_sound : Entry → Bool
fixed_sound e = both (leb e.unspent e.fixed) (pick (eqb e.work 0) (eqb e.unspent 0) true)

-- 01: "for each task, work left at most the worst case, plain ticks left at most the allotment, [..]"
abbrev pub entry_sound : ℕ → Entry → Bool
entry_sound speed e =
    both (both (leb e.work e.worst) (fixed_sound e))
    (leb e.remaining (task_time speed (task_of e)))

-- "[..] and the time needed for the work left at the nominal level at most the plain ticks left"
abbrev pub entry_ahead : ℕ → Entry → Bool
entry_ahead speed e = leb (time_of speed (rest_in e)) e.remaining

-- 02, No. 4: soundness "lets a lone job's time at nominal exceed its plain ticks left if its time at the order's level is at most the ticks
-- to the next arrival"
abbrev pub fits_gap : List ℕ → Timing → View → Bool
fits_gap speeds τ v = both (is_lone τ v v.task) (leb (running_time speeds v) (next_arrival τ v.clock))

-- 02, No. 8: "a run order's level at or above the floor, and at most the higher of nominal and floor"
abbrev pub level_sound : ℕ → ℕ → ℕ → Bool
level_sound highest floor level = within floor (max highest floor) level

-- 01: "an idle order exactly if no job is open, else the most urgent open job at a level [as above] that meets its allowance"
abbrev pub order_sound : List ℕ → Timing → ℕ → View → List Pending → Bool
order_sound speeds τ highest v [] = both (eqb v.task 255) (eqb v.level 0)
order_sound speeds τ highest v (e ∷ q) =
    both (eqb v.task e.job.task)
    (both (level_sound highest (v.floor v.task) v.level) (leb (running_time speeds v) (allowance τ v v.task)))

-- 02, No. 6: "A state whose total differs is unsound."
abbrev pub total_sound : State → Bool
total_sound s = eqb s.total (queued_in s.entries)

-- 01: "Sound means [..] a plan that passes 3, 6, 7, 8;" 02, No. 8: "it also puts 24"; the entries, the total and the order as above, whatever
-- the clock
abbrev pub state_sound : List ℕ → State → Bool
state_sound speeds s =
    let τ : Timing = timing speeds (plan_in s) in
    let speed : ℕ = speed_of speeds (nominal speeds (plan_in s)) in
    both (eqb (first_no (judging speeds (length s.entries) (plan_in s))) 0)
    (both (both (every (entry_sound speed) s.entries) (total_sound s))
    (both (order_sound speeds τ (nominal speeds (plan_in s)) (view_of s) (open_jobs τ (view_of s)))
    (pick (every (entry_ahead speed) s.entries) true (fits_gap speeds τ (view_of s)))))

-- 01: "Sound means exactly [221] bytes, laid out as above; [..] a clock in range;" and what is asked of the state, at a table of speeds
abbrev pub sound_at : List ℕ → List ℕ → Bool
sound_at speeds bytes = both (laid_out bytes) (both (in_time (decode bytes).clock) (state_sound speeds (decode bytes)))

-- 02, No. 1: "the soundness question covers them": a state's own speeds may be loaded, and it is sound at them
abbrev pub sound : List ℕ → Bool
sound bytes = both (table_good (decode bytes).speeds) (sound_at (decode bytes).speeds bytes)

-- 01: "Passing, and showing the queue, ask first whether the state is sound: 10."
abbrev pub passing : List ℕ → ℕ → Bool → List Question
passing bytes d finished =
    let s : State = decode bytes in
    ask 10 (sound bytes) ∷ pass_questions s.speeds (timing s.speeds (plan_in s)) (view_of s) d finished

-- "Showing then puts 9."
abbrev pub showing : List ℕ → ℕ → ℕ → List Question
showing bytes wanted room = ask 10 (sound bytes) ∷ room_question wanted room ∷ []

-- 02, No. 6: "asking only for the 221 bytes (10)"
abbrev pub queueing : List ℕ → List Question
queueing bytes = ask 10 (eqb (length bytes) state_length) ∷ []

-- "Starting reads the block, then puts 9 for the [221] bytes."; the level block's questions come "before all else"; 02, No. 5: a list of
-- pairs "comes with the plan at starting", and 22 is "put after 8"
abbrev pub starting : List ℕ → List ℕ → List ℕ → ℕ → List Question
starting levels block pairs room =
    loading levels ++ (paired_reading (speeds_in levels) block pairs ++ (room_question state_length room ∷ []))
