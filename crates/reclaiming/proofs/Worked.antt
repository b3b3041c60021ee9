-- A pass keeps the dispatcher ahead of the plain schedule: after it, each task's work left needs no more than its plain ticks left. Only a
-- lone job may be behind, as long as it can be done by the next arrival.
-- Assumes nothing.
use Prim.Native.Nat.{ℕ, ◌+◌, ◌-◌, ◌≤◌, ◌<◌}
use mathlib.Core.Path.{◌≡◌, refl, sym, ap, subst, ◌∙◌}
use mathlib.Core.Bool.{Bool, true, false, not}
use mathlib.Core.List.{List}
use mathlib.Core.Logic.{◌≢◌, ◌⊎◌, inl, inr, ⊎_elim}
use native.Mathlib.Decide.{dec_le, ℕ_discrete}
use native.Mathlib.Omega.{arith}
use borrow.Author.Tests.{eq-eqb, ne_eqb}
use lib.Dec.{eqb}
use lib.ListN.{length}
use Rattle.arith.specs.Choice.{pick}
use Rattle.arith.specs.Sum.{sum_to}
use Rattle.arith.proofs.Tests.{Tested, passed, failed, tested}
use Rattle.plan.specs.declared.Task.{Task}
use Rattle.plan.specs.declared.Rest.{Rest}
use Rattle.plan.specs.Times.{no_rest, Within, time_of, worn}
use Rattle.plan.specs.Levels.{Rising, speed_of, nominal}
use Rattle.plan.proofs.TimeLaws.{time_more, time_faster, time_none, time_some, time_after, time_outrun, worn_within, worn_open, none_within, within_self}
use Rattle.plan.proofs.LevelLaws.{speed_rises}
use Rattle.plan.proofs.Facts.{FineList, floor_at}
use Rattle.schedule.specs.PlainSchedule.{Timing, more_urgent, latest}
use Rattle.schedule.proofs.Ahead.{left_drain}
use Rattle.reclaiming.specs.Allotments.{timing}
use Rattle.reclaiming.specs.Orders.{next_arrival, plain_allowance, running_time, running}
use Rattle.reclaiming.specs.StateBlock.{State, work_of, remaining_of, rest_of}
use Rattle.reclaiming.specs.States.{drained_of, worked_of, view_of}
use Rattle.reclaiming.proofs.Fine.{nominal_speed, FineEntries, fine_floor, Ahead, Gap, Fine, Accepted}
use Rattle.reclaiming.proofs.Plans.{nominal_positive}
use Rattle.reclaiming.proofs.OrderFacts.{Runs, Ordered, idles, runs, order_facts}
use Rattle.reclaiming.proofs.Lone.{lone_closed, allowance_which}
use Rattle.reclaiming.proofs.Allowances.{allowed, allowance_is, allowance_before, drained_le, drained_part}

-- a task that does not run keeps what is left; of the running one's the ticks take their part
module _ (speeds : List ℕ) (s : State) (d : ℕ) (finished : Bool) where
  -- what the ticks leave of a job that runs
  abbrev ran : Rest → Rest
  ran r = pick finished no_rest (worn (speed_of speeds s.level) d r)

  pub worked_other : (i : ℕ) → i ≢ s.task → worked_of speeds s d finished i ≡ rest_of s i
  worked_other i x = ap (λ (b : Bool). pick b (ran (rest_of s i)) (rest_of s i)) (ne_eqb i s.task x)

  pub worked_mine : worked_of speeds s d finished s.task ≡ pick finished no_rest (worn (speed_of speeds s.level) d (rest_of s s.task))
  worked_mine = ap (λ (b : Bool). pick b (ran (rest_of s s.task)) (rest_of s s.task)) (eq-eqb s.task s.task refl)

  pub worked_within : (i : ℕ) → Within (worked_of speeds s d finished i) (rest_of s i)
  worked_within i =
      elim (tested (eqb i s.task)) as (λ b _. Within (pick b (ran (rest_of s i)) (rest_of s i)) (rest_of s i)) [
        | passed ↦
            elim (tested finished) as (λ b _. Within (pick b no_rest (worn (speed_of speeds s.level) d (rest_of s i))) (rest_of s i))
            [ passed ↦ none_within (rest_of s i) | failed ↦ worn_within (speed_of speeds s.level) d (rest_of s i) ]
        | failed ↦ within_self (rest_of s i)
      ]

  pub worked_less : (i : ℕ) → (worked_of speeds s d finished i).work ≤ work_of s i
  worked_less i = (worked_within i).work

  -- so what is open after a pass was open before
  pub worked_was : (i : ℕ) → 0 < (worked_of speeds s d finished i).work → 0 < work_of s i
  worked_was i h = omega (arith, worked_less i)

-- the ticks taken from the queue
module _ (τ : Timing) (s : State) (d : ℕ) where
  pub drained_less : (i : ℕ) → i < τ.count → drained_of τ s d i ≤ remaining_of s i
  drained_less = drained_le τ s.clock (remaining_of s) τ.count d

  -- an allowance falls by at most d
  pub drained_allowance : (x : ℕ) →
      plain_allowance τ (view_of s) x ≤ sum_to τ.count (allowed τ s.clock (drained_of τ s d) x) + d
  drained_allowance x =
      drained_part τ s.clock (remaining_of s) τ.count d
      (λ j. more_urgent τ (latest τ s.clock x) (latest τ s.clock j))

-- the order that stands in a sound state
pub ordered : (speeds : List ℕ) (ts : List Task) (s : State) → Fine speeds ts s → Ordered speeds (timing speeds ts) (nominal speeds ts) s
ordered speeds ts s fine = order_facts speeds (timing speeds ts) (nominal speeds ts) s fine.order

-- the dispatcher is ahead, and the order meets 01's allowance
pub record Reclaims (speeds : List ℕ) (ts : List Task) (s : State) : Type 0 where
  pub ahead : Ahead speeds ts s
  pub meets : Runs speeds (timing speeds ts) (nominal speeds ts) s → running_time speeds (view_of s) ≤ plain_allowance (timing speeds ts) (view_of s) s.task

-- a sound state keeps up in one of two ways
pub paced : (speeds : List ℕ) (ts : List Task) (s : State) → Fine speeds ts s → Reclaims speeds ts s ⊎ Gap speeds ts s
paced speeds ts s fine = ⊎_elim (λ a. go a (ordered speeds ts s fine)) inr fine.pace
  where
    go : Ahead speeds ts s → Ordered speeds (timing speeds ts) (nominal speeds ts) s → Reclaims speeds ts s ⊎ Gap speeds ts s
    go a (idles t l z) = inl (record { ahead = a; meets = λ r. absurd (omega (arith, r.work, z s.task r.below)) })
    go a (runs r) =
        elim (allowance_which (timing speeds ts) s s.task (running_time speeds (view_of s)) r.meets) [
          | inl h ↦ inl (record { ahead = a; meets = λ _. h })
          | inr h ↦ inr (record { others = lone_closed (timing speeds ts) s s.task h.0; time = h.1 })
        ]

-- a plan that was accepted, over a rising table of speeds
module _ (speeds : List ℕ) (rising : Rising speeds) (ts : List Task) (plan : FineList speeds (length ts) ts) where
  abbrev τ : Timing
  τ = timing speeds ts

  -- a run order is none to stay idle
  pub runs_running : (s : State) → Runs speeds τ (nominal speeds ts) s → running (view_of s) ≡ true
  runs_running s r = ap not (ne_eqb s.task 255 (λ e. omega (arith, r.below, plan.count_high)))

  -- its level is a loaded one, above the nominal one only where the floor is
  pub runs_loaded : (s : State) → FineEntries speeds ts s → Runs speeds τ (nominal speeds ts) s → s.level < length speeds
  runs_loaded s f r =
      omega (
        arith,
        r.level,
        plan.tasks.admitted,
        fine_floor f s.task,
        floor_at (length speeds) ts s.task plan.tasks.floors r.below,
      )

  runs_positive : (s : State) → FineEntries speeds ts s → Runs speeds τ (nominal speeds ts) s → 0 < speed_of speeds s.level
  runs_positive s f r = rising.positive s.level (runs_loaded s f r)

  -- an open job needs time
  pub time_positive : (s : State) → FineEntries speeds ts s → Runs speeds τ (nominal speeds ts) s → 0 < running_time speeds (view_of s)
  time_positive s f r = time_some (speed_of speeds s.level) (rest_of s s.task) (runs_positive s f r) r.work

  -- a pass from a sound state
  module _ (s : State) (fine : Fine speeds ts s) (d : ℕ) (finished : Bool) (pass : Accepted speeds τ s d finished) where
    -- the order's speed, and what the ticks at it leave of the running job
    abbrev rate : ℕ
    rate = speed_of speeds s.level

    abbrev rest : Rest
    rest = worn rate d (rest_of s s.task)

    -- a job that ran on needs d ticks less
    pub runs_on : Runs speeds τ (nominal speeds ts) s → time_of rate rest ≡ running_time speeds (view_of s) - d
    runs_on r =
        time_after rate d (rest_of s s.task) (runs_positive s fine.entries r) (pass.time (runs_running s r))

    -- a job that did not finish is still open
    pub worked_open : finished ≡ false → (i : ℕ) → i < length ts → 0 < work_of s i → 0 < (worked_of speeds s d finished i).work
    worked_open f i h k = go (ordered speeds ts s fine) (ℕ_discrete i s.task)
      where
        some_left : Runs speeds τ (nominal speeds ts) s → 0 < rest.work
        some_left r =
            worn_open rate d (rest_of s s.task) (runs_positive s fine.entries r) r.work (pass.unfinished (runs_running s r) f)

        go : Ordered speeds τ (nominal speeds ts) s → Dec (i ≡ s.task) → 0 < (worked_of speeds s d finished i).work
        go (idles t l z) x = omega (arith, z i h)
        go (runs r) (yes x) =
            subst (λ (j : ℕ). 0 < (worked_of speeds s d finished j).work) (sym x) (rw (worked_mine speeds s d finished, f) (some_left r))
        go (runs r) (no x) = subst (λ (r : Rest). 0 < r.work) (sym (worked_other speeds s d finished i x)) k

    -- of a job without work no fixed ticks are left
    pub worked_closed : (i : ℕ) → i < length ts → (worked_of speeds s d finished i).work ≡ 0 → (worked_of speeds s d finished i).fixed ≡ 0
    worked_closed i h e =
        elim (dec_le 1 (work_of s i)) [
          | no l ↦ omega (arith, (worked_within speeds s d finished i).fixed, fine.entries.closed i h (omega arith))
          | yes l ↦ went_on l (tested finished) refl
        ]
      where
        other : 1 ≤ work_of s i → i ≢ s.task → ⊥
        other l x = omega (arith, e, l, ap (λ (r : Rest). r.work) (worked_other speeds s d finished i x))

        went_on : 1 ≤ work_of s i → {b : Bool} → Tested b → finished ≡ b → (worked_of speeds s d finished i).fixed ≡ 0
        went_on l failed f = absurd (omega (arith, e, worked_open f i h l))
        went_on l passed f =
            elim (ℕ_discrete i s.task) [
              | yes x ↦
                  ap (λ (j : ℕ). (worked_of speeds s d finished j).fixed) x
                  ∙ ap (λ (r : Rest). r.fixed) (worked_mine speeds s d finished ∙ ap (λ (b : Bool). pick b no_rest rest) f)
              | no x ↦ absurd (other l x)
            ]

    -- a job without work left needs no time
    pub worked_none : (i : ℕ) → i < length ts → (worked_of speeds s d finished i).work ≡ 0 → time_of (nominal_speed speeds ts) (worked_of speeds s d finished i) ≡ 0
    worked_none i h z =
        let none : worked_of speeds s d finished i ≡ no_rest = λ k. record { fixed = worked_closed i h z k; work = z k } in
        ap (time_of (nominal_speed speeds ts)) none ∙ time_none (nominal_speed speeds ts) (nominal_positive speeds ts plan rising)

    -- the running job went on, where it meets 01's allowance: up to the nominal level by that, above it since each tick takes a tick's work
    -- at nominal and more
    ahead_on : Reclaims speeds ts s → Runs speeds τ (nominal speeds ts) s → time_of (nominal_speed speeds ts) rest ≤ drained_of τ s d s.task
    ahead_on k r =
        elim (dec_le s.level (nominal speeds ts)) [
          | yes low ↦
              omega (
                arith,
                left_drain τ s.clock (remaining_of s) (length ts) d s.task r.below,
                allowance_is τ s.clock (remaining_of s) (length ts) s.task r.below,
                k.meets r,
                runs_on r,
                k.ahead s.task r.below,
                time_more (nominal_speed speeds ts) rest (rest_of s s.task) (nominal_positive speeds ts plan rising)
                    (worn_within rate d (rest_of s s.task)),
                time_faster rate (nominal_speed speeds ts) rest (runs_positive s fine.entries r)
                    (speed_rises speeds rising s.level (nominal speeds ts) low plan.tasks.admitted),
              )
          | no high ↦
              omega (
                arith,
                left_drain τ s.clock (remaining_of s) (length ts) d s.task r.below,
                k.ahead s.task r.below,
                time_outrun (nominal_speed speeds ts) rate d (rest_of s s.task) (nominal_positive speeds ts plan rising)
                    (speed_rises speeds rising (nominal speeds ts) s.level (omega arith) (runs_loaded s fine.entries r))
                    (pass.time (runs_running s r)),
              )
        ]

    ahead_mine :
        Reclaims speeds ts s →
        Runs speeds τ (nominal speeds ts) s →
        time_of (nominal_speed speeds ts) (pick finished no_rest rest) ≤ drained_of τ s d s.task
    ahead_mine k r =
        elim (tested finished) as (λ b _. time_of (nominal_speed speeds ts) (pick b no_rest rest) ≤ drained_of τ s d s.task) [
          | passed ↦ omega (arith, time_none (nominal_speed speeds ts) (nominal_positive speeds ts plan rising))
          | failed ↦ ahead_on k r
        ]

    pub stays_ahead :
        Reclaims speeds ts s → (i : ℕ) → i < length ts → time_of (nominal_speed speeds ts) (worked_of speeds s d finished i) ≤ drained_of τ s d i
    stays_ahead k i h = go (ordered speeds ts s fine) (ℕ_discrete i s.task)
      where
        closed : work_of s i ≡ 0 → time_of (nominal_speed speeds ts) (worked_of speeds s d finished i) ≤ drained_of τ s d i
        closed z = omega (arith, worked_none i h (omega (arith, worked_less speeds s d finished i)))

        -- the ticks all go to the running job's allowance, and leave the less urgent ones as they were
        other : Runs speeds τ (nominal speeds ts) s → i ≢ s.task → Dec (1 ≤ work_of s i) →
            time_of (nominal_speed speeds ts) (worked_of speeds s d finished i) ≤ drained_of τ s d i
        other r x (no w) = closed (omega arith)
        other r x (yes w) =
            rw (worked_other speeds s d finished i x)
            (omega (
              arith,
              left_drain τ s.clock (remaining_of s) (length ts) d i h,
              allowance_before τ s.clock (remaining_of s) (length ts) s.task i (r.urgent i h w x),
              k.meets r,
              pass.time (runs_running s r),
              k.ahead i h,
            ))

        go : Ordered speeds τ (nominal speeds ts) s → Dec (i ≡ s.task) →
            time_of (nominal_speed speeds ts) (worked_of speeds s d finished i) ≤ drained_of τ s d i
        go (idles t l z) x = closed (z i h)
        go (runs r) (yes x) =
            subst (λ (j : ℕ). time_of (nominal_speed speeds ts) (worked_of speeds s d finished j) ≤ drained_of τ s d j) (sym x)
            (rw (worked_mine speeds s d finished) (ahead_mine k r))
        go (runs r) (no x) = other r x (dec_le 1 (work_of s i))

    -- a lone job in the gap: no arrival finds it open
    module _ (gap : Gap speeds ts s) where
      gap_unfinished : finished ≡ false → Runs speeds τ (nominal speeds ts) s → d < next_arrival τ s.clock
      gap_unfinished f r = omega (arith, pass.unfinished (runs_running s r) f, gap.time)

      -- where it finished nothing is open, and where one arrives nothing was
      pub gap_finished : finished ≡ true → (i : ℕ) → i < length ts → (worked_of speeds s d finished i).work ≡ 0
      gap_finished f i h =
          elim (ℕ_discrete i s.task) [
            | yes x ↦
                ap (λ (j : ℕ). (worked_of speeds s d finished j).work) x
                ∙ ap (λ (r : Rest). r.work) (worked_mine speeds s d finished ∙ ap (λ (b : Bool). pick b no_rest rest) f)
            | no x ↦ omega (arith, worked_less speeds s d finished i, gap.others i h x)
          ]

      pub gap_arrives : finished ≡ false → next_arrival τ s.clock ≤ d → (i : ℕ) → i < length ts → (worked_of speeds s d finished i).work ≡ 0
      gap_arrives f n i h =
          elim (ordered speeds ts s fine) [
            | idles t l z ↦ omega (arith, worked_less speeds s d finished i, z i h)
            | runs r ↦ absurd (omega (arith, gap_unfinished f r))
          ]
