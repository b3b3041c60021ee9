-- The dispatcher's book against the entries: a job that has arrived is closed in it, or it is its task's latest and has work left; and a
-- latest job that is closed has none.
-- Assumes nothing.
use Prim.Native.Nat.{ℕ, suc, ◌+◌, ◌-◌, ◌*◌, ◌/◌, ◌%◌, ◌<◌}
use mathlib.Core.Path.{◌≡◌, refl, sym, subst, ap, ◌∙◌}
use mathlib.Core.Bool.{Bool, true, true≢false}
use mathlib.Core.List.{List, [], ◌∷◌}
use mathlib.Core.Logic.{◌⊎◌, inl, inr, ⊎_elim, ◌≢◌}
use native.Mathlib.Nat.{lt-div-mul-add, div-mul-le_self, mul-mod_left}
use native.Mathlib.Decide.{dec_le, ℕ_discrete}
use native.Mathlib.Omega.{arith}
use Rattle.arith.specs.Choice.{pick}
use Rattle.arith.proofs.Tests.{passed, failed, tested}
use Rattle.schedule.specs.PlainSchedule.{Timing, Job, Book, latest, deadline, canonical_at, queue_of}
use Rattle.schedule.specs.Feasibility.{In}
use Rattle.schedule.specs.Served.{Arrived}
use Rattle.schedule.proofs.Periods.{multiple_last}
use Rattle.schedule.proofs.Drain.{Quiet, latest_kept}
use Rattle.schedule.proofs.QueueLaws.{in_queue_of}
use Rattle.schedule.proofs.Closing.{Entered}

-- a job is its task's latest, with work left
abbrev pub OpenLatest : Timing → ℕ → (ℕ → ℕ) → Job → Type 0
OpenLatest τ t work j = (j ≡ latest τ t j.task) × (0 < work j.task)

abbrev pub Held : Timing → ℕ → (ℕ → ℕ) → List Job → Type 0
Held τ t work closed = (j : Job) → Arrived τ t j → In j closed ⊎ OpenLatest τ t work j

-- what is closed has arrived, and nothing is left of it
pub record Ended (τ : Timing) (t : ℕ) (work : ℕ → ℕ) (closed : List Job) : Type 0 where
  pub arrived : (j : Job) → In j closed → Arrived τ t j
  pub done : (j : Job) → In j closed → j ≡ latest τ t j.task → work j.task ≡ 0

pub ended_start : (τ : Timing) (work : ℕ → ℕ) → Ended τ 0 work []
ended_start τ work = record { arrived = λ j m. absurd m; done = λ j m. absurd m }

-- a task's latest job has arrived
pub latest_arrived : (τ : Timing) (t i : ℕ) → i < τ.count → Arrived τ t (latest τ t i)
latest_arrived τ t i h =
    record { task = h; arrival = div-mul-le_self t (τ.period i); multiple = mul-mod_left (t / τ.period i) (τ.period i) }

-- the arrival at a tick that a period divides is the task's latest
arrived_now : (τ : Timing) (t : ℕ) (j : Job) → 0 < τ.period j.task → t % τ.period j.task ≡ 0 → j.arrival ≡ t → j ≡ latest τ t j.task
arrived_now τ t j p z e =
    let a : j.arrival ≡ t / τ.period j.task * τ.period j.task = e ∙ sym (multiple_last (τ.period j.task) p t z) in
    λ i. record { task = j.task; arrival = a i }

-- at tick 0 every task has its first job
pub held_start : (τ : Timing) (work : ℕ → ℕ) → ((i : ℕ) → i < τ.count → 0 < τ.period i) → ((i : ℕ) → i < τ.count → 0 < work i) → Held τ 0 work []
held_start τ work periods some j a =
    let z : j.arrival ≡ 0 = omega (arith, a.arrival) in
    inr
    (arrived_now τ 0 j (periods j.task a.task) (subst (λ (k : ℕ). k % τ.period j.task ≡ 0) z a.multiple) z, some j.task a.task)

-- a latest job's deadline has not come
pub latest_deadline : (τ : Timing) (t : ℕ) (i : ℕ) → 0 < τ.period i → t < deadline τ (latest τ t i)
latest_deadline τ t i p = lt-div-mul-add p

-- d ticks with no arrival before their end
module _ (τ : Timing) (t d : ℕ) (periods : (i : ℕ) → i < τ.count → 0 < τ.period i) (quiet : Quiet τ τ.count t d) where
  -- a job that arrives within them arrives at their end
  at_end : (j : Job) → Arrived τ (t + d) j → t < j.arrival → j.arrival ≡ t + d
  at_end j a l = go (dec_le (suc j.arrival) (t + d))
    where
      go : Dec (j.arrival < t + d) → j.arrival ≡ t + d
      go (yes h) =
          let e : t + (j.arrival - t) ≡ j.arrival = omega arith in
          absurd
          (quiet j.task (j.arrival - t) a.task (omega arith) (omega arith)
          (subst (λ (k : ℕ). k % τ.period j.task ≡ 0) (sym e) a.multiple))
      go (no h) = omega (arith, a.arrival)

  -- a job that had arrived before and is still the latest was so then, and none arrives now
  still_latest :
      0 < d →
      (j : Job) →
      Arrived τ t j →
      j ≡ latest τ (t + d) j.task →
      ((t + d) % τ.period j.task ≢ 0) × (j ≡ latest τ t j.task)
  still_latest later j a e = (no_arrival, e ∙ sym (latest_kept τ τ.count t d j.task a.task (periods j.task a.task) quiet no_arrival))
    where
      no_arrival : (t + d) % τ.period j.task ≢ 0
      no_arrival z =
          omega (
            arith,
            a.arrival,
            ap (λ (k : Job). k.arrival) e,
            multiple_last (τ.period j.task) (periods j.task a.task) (t + d) z,
          )

-- a pass over d ticks keeps it
module _ (τ : Timing) (t d : ℕ) (work work' : ℕ → ℕ) (closed : List Job) (finished : Bool) (x : ℕ)
    (later : 0 < d)
    (periods : (i : ℕ) → i < τ.count → 0 < τ.period i)
    (quiet : Quiet τ τ.count t d)
    -- a task with an arrival at the end has a new job there
    (renewed : (i : ℕ) → i < τ.count → (t + d) % τ.period i ≡ 0 → 0 < work' i)
    -- another task's job keeps some work, unless it is the one that finished
    (kept : (i : ℕ) → i < τ.count → (t + d) % τ.period i ≢ 0 → 0 < work i → ((i ≡ x) × (finished ≡ true) → ⊥) → 0 < work' i)
    -- no open job is replaced: one that is open when the next arrives has just finished
    (never : (i : ℕ) → i < τ.count → (t + d) % τ.period i ≡ 0 → 0 < work i → (i ≡ x) × (finished ≡ true))
  where
    abbrev closed' : List Job
    closed' = pick finished (latest τ t x ∷ closed) closed

    still : (j : Job) → In j closed → In j closed'
    still j m =
        elim (tested finished) as (λ b _. In j (pick b (latest τ t x ∷ closed) closed)) [ passed ↦ inr m | failed ↦ m ]

    ended : (j : Job) → j ≡ latest τ t x → finished ≡ true → In j closed'
    ended j e f = subst (λ (b : Bool). In j (pick b (latest τ t x ∷ closed) closed)) (sym f) (inl e)

    -- an old job that was open: it has just finished, or it stays
    older : (j : Job) → j.task < τ.count → OpenLatest τ t work j → In j closed' ⊎ OpenLatest τ (t + d) work' j
    older j h s =
        elim (ℕ_discrete ((t + d) % τ.period j.task) 0) [
          | yes z ↦
              let f : (j.task ≡ x) × (finished ≡ true) = never j.task h z s.1 in
              inl (ended j (s.0 ∙ ap (latest τ t) f.0) f.1)
          | no z ↦
              let same : j ≡ latest τ (t + d) j.task = s.0 ∙ latest_kept τ τ.count t d j.task h (periods j.task h) quiet z in
              elim (tested finished) as (λ b _. finished ≡ b → In j closed' ⊎ OpenLatest τ (t + d) work' j) [
                | passed ↦ λ f.
                    elim (ℕ_discrete j.task x) [
                      | yes e ↦ inl (ended j (s.0 ∙ ap (latest τ t) e) f)
                      | no e ↦ inr (same, kept j.task h z s.1 (λ g. e g.0))
                    ]
                | failed ↦ λ f. inr (same, kept j.task h z s.1 (λ g. true≢false (sym g.1 ∙ f)))
              ] refl
        ]

    -- a job that arrives within the ticks arrives at their end
    newer : (j : Job) → Arrived τ (t + d) j → t < j.arrival → OpenLatest τ (t + d) work' j
    newer j a l =
        let i : ℕ = j.task in
        let place : j.arrival ≡ t + d = at_end τ t d periods quiet j a l in
        let z : (t + d) % τ.period i ≡ 0 = subst (λ (k : ℕ). k % τ.period i ≡ 0) place a.multiple in
        (arrived_now τ (t + d) j (periods i a.task) z place, renewed i a.task z)

    pub held_pass : Held τ t work closed → Held τ (t + d) work' closed'
    held_pass held j a =
        elim (dec_le j.arrival t) [
          | yes h ↦
              let before : Arrived τ t j = record { task = a.task; arrival = h; multiple = a.multiple } in
              ⊎_elim (λ m. inl (still j m)) (λ s. older j a.task s) (held j before)
          | no h ↦ inr (newer j a (omega arith))
        ]

-- the ticks of a pass close nothing but the job that finished
module _ (τ : Timing) (t d : ℕ) (work work' : ℕ → ℕ) (closed : List Job) (finished : Bool) (x : ℕ)
    (later : 0 < d)
    (periods : (i : ℕ) → i < τ.count → 0 < τ.period i)
    (quiet : Quiet τ τ.count t d)
    -- a job that finished is one of a task, and nothing is left of it
    (running : finished ≡ true → x < τ.count)
    (finishes : finished ≡ true → (t + d) % τ.period x ≢ 0 → work' x ≡ 0)
    -- what had nothing left has nothing left, until the next job arrives
    (nothing : (i : ℕ) → i < τ.count → (t + d) % τ.period i ≢ 0 → work i ≡ 0 → work' i ≡ 0)
  where
    abbrev closed'' : List Job
    closed'' = pick finished (latest τ t x ∷ closed) closed

    since : (j : Job) → Arrived τ t j → Arrived τ (t + d) j
    since j a = record { task = a.task; arrival = omega (arith, a.arrival); multiple = a.multiple }

    -- one that was closed before, or has just finished
    earlier : Ended τ t work closed → (j : Job) → In j closed'' → In j closed ⊎ ((j ≡ latest τ t x) × (finished ≡ true))
    earlier ended j =
        elim (tested finished) as (λ b _. finished ≡ b → In j (pick b (latest τ t x ∷ closed) closed) → In j closed ⊎ ((j ≡ latest τ t x) × (finished ≡ true))) [
          | passed ↦ λ f m. ⊎_elim (λ e. inr (e, f)) (λ k. inl k) m
          | failed ↦ λ f m. inl m
        ] refl

    before : Ended τ t work closed → (j : Job) → In j closed'' → Arrived τ t j
    before ended j m =
        ⊎_elim (ended.arrived j) (λ e. subst (Arrived τ t) (sym e.0) (latest_arrived τ t x (running e.1))) (earlier ended j m)

    pub ended_pass : Ended τ t work closed → Ended τ (t + d) work' closed''
    ended_pass ended = record {
      arrived = λ j m. since j (before ended j m);
      done = λ j m e.
          let a : Arrived τ t j = before ended j m in
          let was = still_latest τ t d periods quiet later j a e in
          ⊎_elim (λ k. nothing j.task a.task was.0 (ended.done j k was.1))
          (λ k. let same : j.task ≡ x = ap (λ (i : Job). i.task) k.0 in
          subst (λ (i : ℕ). work' i ≡ 0) (sym same) (finishes k.1 (subst (λ (i : ℕ). (t + d) % τ.period i ≢ 0) same was.0)))
          (earlier ended j m);
    }

-- a task's latest job is open in the plain schedule, where its ready queue is known and the task has ticks left
pub in_plain :
    (τ : Timing) (t : ℕ) (left : ℕ → ℕ) (n : ℕ) {b : Book} →
    b ≡ record { clock = t; pending = queue_of τ t left n } →
    (j : Job) →
    j.task < n →
    j ≡ latest τ t j.task →
    0 < left j.task →
    Entered b.pending j
in_plain τ t left n queue j h e some = (
  left j.task,
  subst (λ (b : Book). In (record { job = j; remaining = left j.task }) b.pending) (sym queue)
      (in_queue_of τ t left n (record { job = j; remaining = left j.task })
      (record { number = j.task; below = h; some = some; is = λ k. record { job = e k; remaining = left j.task } })),
)

-- at each arrival since its own, an open job was open in the plain schedule
abbrev pub OpenSince : Timing → ℕ → (ℕ → ℕ) → Type 0
OpenSince τ t work =
    (j : Job) →
    Arrived τ t j →
    OpenLatest τ t work j →
    (k : Job) →
    Arrived τ t k →
    j.arrival < k.arrival →
    Entered (canonical_at τ k.arrival).pending j

pub since_start : (τ : Timing) (work : ℕ → ℕ) → OpenSince τ 0 work
since_start τ work j a o k b h = absurd (omega (arith, b.arrival))

-- a pass keeps that
module _ (τ : Timing) (t d : ℕ) (work work' : ℕ → ℕ)
    (later : 0 < d)
    (periods : (i : ℕ) → i < τ.count → 0 < τ.period i)
    (quiet : Quiet τ τ.count t d)
    -- what is open after it, of a task without an arrival, was open before
    (was : (i : ℕ) → i < τ.count → (t + d) % τ.period i ≢ 0 → 0 < work' i → 0 < work i)
    -- where a job arrives at its end, what is open then is open in the plain schedule
    (ahead : (k : Job) → Arrived τ (t + d) k → k.arrival ≡ t + d → (j : Job) → Arrived τ (t + d) j → OpenLatest τ (t + d) work' j →
    Entered (canonical_at τ (t + d)).pending j)
  where
    pub since_pass : OpenSince τ t work → OpenSince τ (t + d) work'
    since_pass since j a o k b h =
        elim (dec_le k.arrival t) [
          | yes early ↦
              let before : Arrived τ t j = record { task = a.task; arrival = omega arith; multiple = a.multiple } in
              let then : Arrived τ t k = record { task = b.task; arrival = early; multiple = b.multiple } in
              let old = still_latest τ t d periods quiet later j before o.0 in
              since j before (old.1, was j.task a.task old.0 o.1) k then h
          | no late ↦
              let end : k.arrival ≡ t + d = at_end τ t d periods quiet k b (omega arith) in
              subst (λ (x : ℕ). Entered (canonical_at τ x).pending j) (sym end) (ahead k b end j a o)
        ]
